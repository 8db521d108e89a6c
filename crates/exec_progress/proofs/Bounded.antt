-- No worker that isn't closing ever has as many quiet steps left as the bound.
use Rattle.std.{proofs.{Common.{◌≡◌, ℕ, ◌+◌, ◌*◌, ◌≤◌, ◌<◌, Bool, true, false, not, ◌&&◌, ◌||◌, if◌then◌else◌, length, refl, sym, ap, ◌∙◌, subst, arith, ◌⊎◌, inl, inr}, lemmas.Bool.le-ltb}, specs.Prelude.{is_some, nat_lt}}
use Rattle.exec_machine.specs.{declared.config.Configuration.Configuration, Progress.quiet_bound, Ranges.{largest_spin, ring_size}, Tests.is_empty, World.{Common, Own as Books, World, seat_of}}
use Rattle.exec_moves.specs.{declared.{handing.{AfterCallbacks.AfterCallbacks, AfterClaim.AfterClaim, AfterKick.AfterKick, AfterLeave.AfterLeave, AfterPush.AfterPush, AfterSignal.AfterSignal}, idling.{AfterWait.AfterWait, InRingWait.InRingWait, InWordWait.InWordWait}, place.{AfterService.AfterService, InService.InService, Place.Place, Round.Round}}, Callback.is_full, Counts.{gates_from, one_if}, Load.has_submissions, State.{Desk, Things, word_of, wake_poll_of}}
use Rattle.exec_credit.specs.Spins.{IsShort}
use Rattle.exec_rest.specs.Posted.{has_tested}
use Rattle.exec_progress.{specs.{Effort.{begun_gates, gates_left, is_short, scans_again, second_scan, stagings, stagings_of_callbacks, stagings_of_claim, stagings_of_kick, stagings_of_leave, stagings_of_push, stagings_of_service, stagings_of_signal, steps_left, turn_left, whole_spin, whole_turn}, Going.{has_called_back, is_of_closing}, Owed.{ahead, all_others, finds, has_stray, is_before_spin, others, quiet_items, signals_itself, signs, spins_of_signs, spins_owed, stage, staging, turns_owed, wanted}, Ranks.{disarm, rank, withdraw_to_search}}, proofs.{Gates.{gates_asked, gates_opened, gates_within}, Ranked.most_rank, Stages.{Kind, kind}, Entering.at_most_one}}

-- GATES

times : (k g n : ℕ) → k ≤ 2 → g ≤ n → k * g ≤ 2 * n
times k g n h l = grind (arith, h, l)

callbacks : (n : AfterCallbacks) → stagings_of_callbacks n ≤ 2
callbacks = grind arith

push : (b : AfterPush) → stagings_of_push b ≤ 2
push = grind arith

leave : (b : AfterLeave) → stagings_of_leave b ≤ 2
leave = grind arith

kick : (b : AfterKick) → stagings_of_kick b ≤ 2
kick (AfterKick.Leave b) = leave b
kick (AfterKick.Push b) = push b

claim : (b : AfterClaim) → stagings_of_claim b ≤ 2
claim (AfterClaim.Kick b) = kick b
claim (AfterClaim.Global b) = push b

signal : (b : AfterSignal) → stagings_of_signal b ≤ 2
signal (AfterSignal.Claim b) = claim b
signal (AfterSignal.Send b) = omega arith

module _ (i : ℕ) (s : Common) where
  abbrev Most : Place → Type 0
  Most p = begun_gates i s p + stagings p * gates_from i 0 s ≤ 2 * gates_from i 0 s

  all_gates : gates_from i 0 s ≤ gates_from i 0 s
  all_gates = omega arith

  -- a staging that has begun, and maybe another one
  service : (b : AfterService) (n g : ℕ) → n ≤ 1 → (g ≡ 0) ⊎ ((n ≡ 0) × (g ≤ gates_from i 0 s)) → g + stagings_of_service b n * gates_from i 0 s ≤ 2 * gates_from i 0 s
  service = grind (arith, times, all_gates)

  serves : (b : AfterService) (defer : Bool) (p : InService) → Most (Place.Service p (record { defer = defer; back = b }))
  serves = grind (arith, service, gates_within)

  by_number : (k : ℕ) → k ≤ 2 → 0 + k * gates_from i 0 s ≤ 2 * gates_from i 0 s
  by_number k h = omega (arith, times k (gates_from i 0 s) (gates_from i 0 s) h all_gates)

  pub most_gates : (p : Place) → Most p
  most_gates (Place.Service p v) = serves v.back v.defer p
  most_gates (Place.Callbacks p n) = by_number (stagings_of_callbacks n) (callbacks n)
  most_gates (Place.Loads p Round.Second) = by_number 0 (omega arith)
  most_gates (Place.Mail p) = by_number 0 (omega arith)
  most_gates (Place.TestForWork f) = by_number 0 (omega arith)
  most_gates Place.ReadClock = by_number 0 (omega arith)
  most_gates (Place.Search p) = by_number 0 (omega arith)
  most_gates (Place.Scan p) = by_number 0 (omega arith)
  most_gates (Place.Look p) = by_number 0 (omega arith)
  most_gates (Place.RingWait (InRingWait.DisarmRing n) y) = by_number 2 (omega arith)
  most_gates (Place.RingWait p y) = by_number 0 (omega arith)
  most_gates (Place.WordWait InWordWait.TakeLatch) = by_number 2 (omega arith)
  most_gates (Place.WordWait InWordWait.DisarmWord) = by_number 2 (omega arith)
  most_gates (Place.WordWait p) = by_number 0 (omega arith)
  most_gates (Place.Withdraw AfterWait.Search) = by_number 0 (omega arith)
  most_gates (Place.Withdraw n) = by_number 2 (omega arith)
  most_gates (Place.LeaveSearch b) = by_number (stagings_of_leave b) (leave b)
  most_gates (Place.Push p b) = by_number (stagings_of_push b) (push b)
  most_gates (Place.Global p b) = by_number (stagings_of_push b) (push b)
  most_gates (Place.Kick p b) = by_number (stagings_of_kick b) (kick b)
  most_gates (Place.ClaimWorker set b) = by_number (stagings_of_claim b) (claim b)
  most_gates (Place.Signal p j b) = by_number (stagings_of_signal b) (signal b)
  most_gates _ = by_number 1 (omega arith)

-- TURNS AND SPINS

module _ (c : Configuration) (i : ℕ) (me : Books) (s : Common) (d : Desk) (x : Things) where
  scan_most : (b : Bool) → second_scan c b ≤ withdraw_to_search c.workers
  scan_most true = omega arith
  scan_most false = omega arith

  if_none : (k : Bool) (m n : ℕ) → m ≤ n → (if k then 0 else m) ≤ n
  if_none true m n h = omega arith
  if_none false m n h = h

  -- a worker with something to submit isn't one with a wake poll that has no place
  one_of : (low submits busy full unpolled : Bool) → one_if (low && (submits && busy)) + one_if (low && (full && (unpolled && not submits))) ≤ 1
  one_of = grind arith

  passed : (n m : ℕ) (b : Bool) → m ≤ n → one_if (nat_lt n m && b) ≡ 0
  passed n m b h = ap (λ v. one_if (v && b)) (le-ltb n m h)

  never : (a : Bool) → one_if (a && false) ≡ 0
  never true = refl
  never false = refl

  abbrev n : ℕ
  n = stage d.picks d.place

  -- what is quiet in the callbacks, and what was found before the test
  abbrev items : ℕ
  items = one_if (nat_lt n 1 && nat_lt 0 (quiet_items d))

  abbrev found : ℕ
  found = let y = signs c i me s d x in one_if (finds d.place && not (y.queue || (y.global || y.mail)))

  few_others : all_others (others c i me s d x) ≤ 8 + items + found
  few_others =
      let w = wake_poll_of x i in
      omega (
        arith,
        at_most_one (nat_lt n 8 && (signals_itself i d.place || (word_of x i).latch)),
        at_most_one (nat_lt n 5 && has_stray d w),
        at_most_one (not (is_empty me.untold)),
        at_most_one w.kept,
        at_most_one (is_some w.ended),
        at_most_one (seat_of s i).busy,
        one_of (nat_lt n 6) (has_submissions c me) (seat_of s i).busy (is_full (ring_size c) d) (not d.polled),
      )

  no_items : quiet_items d ≡ 0 → items ≡ 0
  no_items none = ap (λ k. one_if (nat_lt n 1 && nat_lt 0 k)) none ∙ never (nat_lt n 1)

  unfound : finds d.place ≡ false → found ≡ 0
  unfound h = let y = signs c i me s d x in ap (λ v. one_if (v && not (y.queue || (y.global || y.mail)))) h

  -- before the staging only a latch, what the kernel has to tell and a busy ring are good for a turn
  fewest_others : staging ≤ n → finds d.place ≡ false → all_others (others c i me s d x) ≤ 6
  fewest_others = grind (arith, at_most_one, passed, unfound)

  turns_most : (k : ℕ) → all_others (others c i me s d x) ≤ k → turns_owed c i me s d x ≤ 1 + k
  turns_most k h = if_none (nat_lt 0 (ahead c i me s d x)) (one_if (nat_lt 0 (wanted c i me s d x)) + all_others (others c i me s d x)) (1 + k) (omega (arith, at_most_one (nat_lt 0 (wanted c i me s d x)), h))

  spins_most : spins_owed c i me s d x ≤ 2
  spins_most = if_none (nat_lt 0 (ahead c i me s d x)) (spins_of_signs c i me s d x) 2
      (omega (arith, at_most_one (is_before_spin d.place), at_most_one (nat_lt n 8 && (signals_itself i d.place || (word_of x i).latch))))

  product : (k t m : ℕ) → t ≤ m → k * t ≤ k * m
  product k t m h = grind (arith, h)

  module _ (workers : 0 < c.workers) (opens : length s.opens ≤ 64) (short : IsShort c.spin d.place) (few : quiet_items d ≤ 2 * (length s.requests + length s.sleepers))
      (called : has_called_back d.place ≡ true → quiet_items d ≡ 0) (told : has_tested d.place ≡ true → quiet_items d ≡ 0) (going : is_of_closing d.place ≡ false) where
    abbrev bound : ℕ
    bound = 128 * c.workers + 16 * largest_spin c.spin + 4 * (length s.requests + length s.sleepers) + 2048

    rank_most : rank c i d x d.place ≤ disarm c.workers + 2 * largest_spin c.spin
    rank_most = most_rank c i d x d.place short

    -- of a turn, another scan and so many more turns
    abbrev turn_most : ℕ → ℕ
    turn_most k = disarm c.workers + 2 * largest_spin c.spin + quiet_items d + gates_left i s d.place + withdraw_to_search c.workers + whole_turn c i s * k

    -- with so many quiet items, gates and turns left
    adds : (k : ℕ) → turns_owed c i me s d x ≤ k → turn_most k + whole_spin c * 2 < bound
        → turn_left c i s d x + whole_turn c i s * turns_owed c i me s d x + whole_spin c * spins_owed c i me s d x < bound
    adds k h less =
        omega (
          arith,
          rank_most,
          scan_most (scans_again c d x d.place),
          product (whole_turn c i s) (turns_owed c i me s d x) k h,
          product (whole_spin c) (spins_owed c i me s d x) 2 spins_most,
          less,
        )

    by_kind : Kind i s d.picks d.place → turn_left c i s d x + whole_turn c i s * turns_owed c i me s d x + whole_spin c * spins_owed c i me s d x < bound
    by_kind (inl (back, none)) =
        adds 10 (turns_most 9 (omega (arith, few_others, no_items (called back), at_most_one (finds d.place && not ((signs c i me s d x).queue || ((signs c i me s d x).global || (signs c i me s d x).mail))))))
        (omega (arith, called back, none, gates_asked i s, gates_opened i s, opens, workers))
    by_kind (inr (inl (tested, other, none))) =
        adds 9 (turns_most 8 (omega (arith, few_others, no_items (told tested), unfound other))) (omega (arith, told tested, none, gates_asked i s, gates_opened i s, opens, workers))
    by_kind (inr (inr (other, up, inl none))) =
        adds 9 (turns_most 8 (omega (arith, few_others, passed n 1 (nat_lt 0 (quiet_items d)) up, unfound other))) (omega (arith, few, none, gates_asked i s, gates_opened i s, opens, workers))
    by_kind (inr (inr (other, up, inr high))) =
        adds 7 (turns_most 6 (fewest_others high other)) (omega (arith, few, most_gates i s d.place, gates_asked i s, gates_opened i s, opens, workers))

    pub bounded : (w : World) → w.common ≡ s → steps_left c i me s d x < quiet_bound c w
    bounded w is = subst (λ (t : Common). steps_left c i me s d x < quiet_bound c (record w { common = t })) (sym is) (by (is_short d.place) refl)
      where
        by : (b : Bool) → is_short d.place ≡ b → (if b then rank c i d x d.place else turn_left c i s d x + whole_turn c i s * turns_owed c i me s d x + whole_spin c * spins_owed c i me s d x) < bound
        by true is = omega (arith, rank_most)
        by false long = by_kind (kind i s d.picks d.place long going)
