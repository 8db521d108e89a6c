-- A published worker is claimed, and a worker is signalled.
use Rattle.std.proofs.{Common.{◌≡◌, ℕ, ◌+◌, ◌==◌, ◌≤◌, ◌<◌, Bool, true, false, ◌&&◌, if◌then◌else◌, length, ◌≢◌, Option, Some, None, refl, sym, ap, ◌∙◌, arith}, lemmas.{Bool.{true≢false, false≢true, eq-eqb, eqb-true}, List.{get_or-set_same, get_or-set_other, Quantifiers.position-Some}}}
use Rattle.exec_words.specs.{declared.idle.WorkerSet.WorkerSet, Idle.{Idle, is_in, lowest_of}, Word.asks_signal}
use Rattle.exec_machine.specs.{declared.{config.Configuration.Configuration, event.Event.TheVariants.{Turn, Rouse}}, Tests.is_awake, World.{Common, Own as Books, seat_of}}
use Rattle.exec_moves.specs.{declared.{handing.{AfterClaim.AfterClaim, AfterSignal.AfterSignal, InSignal.InSignal}, place.Place.Place}, Claim.{after_claim, claimed_if, idle_after, is_ring, latched, raised_if, same_bools, set_of}, Counts.one_if, Global.has_any, Parts.after_signal, State.{Desk, Things, goes, turns, does, word_of, wake_poll_of}, Thing.{set_wake_poll, set_word, with_idle, with_wake_poll}}
use Rattle.exec_progress.{specs.{Effort.{is_short_claim, is_short_signal, stagings_of_claim, stagings_of_signal}, Going.{Falls, FallsAt, seen, stands}, Owed.{stage_of_claim, stage_of_signal}, Heights.{claim_worker, raise}, Ranks.{below_claim, below_signal}}, proofs.{Arriving.{Reaches, signal_to}, Between.{at_if, comes_claim, comes_signal, idle_kept, leaves_claim, leaves_signal, with_idle as only_idle}, Hopping.{Gets, Kept, hops}}}
use Rattle.exec_credit.proofs.CallFalls.{same_self}

none_there : (x : Idle) → lowest_of x.published ≡ None → has_any x ≡ false
none_there x h = rw h refl

some_there : (x : Idle) (k : ℕ) → lowest_of x.published ≡ Some k → has_any x ≡ true
some_there x k h = rw h refl

one_of : (v w : Bool) → claim_worker true true ≤ claim_worker v w
one_of = grind arith

module _ (c : Configuration) (i : ℕ) (me : Books) (s : Common) (d : Desk) (x : Things) where
  abbrev counted : Idle → Gets c i me s d x
  counted idle = only_idle c i me s d x d.searching idle

  -- nobody is there any more, and the count is returned
  nobody : (set : WorkerSet) (b : AfterClaim) → has_any x.idle ≡ false → Reaches c i me s d x (Place.ClaimWorker set b) (counted x.idle) (after_claim b (claimed_if false (set_of x.idle) None))
  nobody = grind arith

  -- another set was found
  again : (set : WorkerSet) (b : AfterClaim) → has_any x.idle ≡ true → same_bools set.has x.idle.published ≡ false
      → Reaches c i me s d x (Place.ClaimWorker set b) (counted x.idle) (Place.ClaimWorker (set_of x.idle) b)
  again set b some other =
      let p = Place.ClaimWorker set b in
      let r = below_claim c.workers b + claim_worker true true in
      let high = ap (λ v. claim_worker v (same_bools set.has x.idle.published)) some ∙ ap (claim_worker true) other in
      let low = ap (λ v. claim_worker v (same_bools x.idle.published x.idle.published)) some ∙ ap (claim_worker true) (same_self x.idle.published) in
      hops c i me s d x p (Place.ClaimWorker (set_of x.idle) b) (counted x.idle) (is_short_claim b) (stage_of_claim d.picks b) (stagings_of_claim b) r
      (leaves_claim c i me s d x set b r (omega (arith, high))) (comes_claim c i me s d x (set_of x.idle) b (counted x.idle) r (omega (arith, low))) (idle_kept c i me s d x p d.searching x.idle)

  -- a worker was claimed, which is another one, since its bit was in
  other : (k : ℕ) → lowest_of x.idle.published ≡ Some k → is_in x.idle.published i ≡ false → (k == i) ≡ false
  other = grind (arith, position-Some, true≢false, eqb-true)

  to_signal : (set : WorkerSet) (b : AfterClaim) (k : ℕ) (idle : Idle) → (k == i) ≡ false
      → Reaches c i me s d x (Place.ClaimWorker set b) (counted idle) (Place.Signal InSignal.SetLatch k (AfterSignal.Claim b))
  to_signal = grind (arith, one_of, hops, leaves_claim, comes_signal, idle_kept)

  pub claims_worker : (set : WorkerSet) (b : AfterClaim) → FallsAt c i me s d x (Place.ClaimWorker set b)
  claims_worker set b it = by (lowest_of x.idle.published) refl (same_bools set.has x.idle.published) refl
    where
      -- its own bit is out
      out : (v : Bool) → is_in x.idle.published i ≡ v → is_in x.idle.published i ≡ false
      out true is = absurd (false≢true (it.bit is))
      out false is = is

      by : (o : Option ℕ) → lowest_of x.idle.published ≡ o → (same : Bool) → same_bools set.has x.idle.published ≡ same
          → Falls c i (seen (Place.ClaimWorker set b) me) s (stands (Place.ClaimWorker set b) d) x (with_idle x (turns (after_claim b (claimed_if same (set_of x.idle) o)) (stands (Place.ClaimWorker set b) d) (idle_after (claimed_if same (set_of x.idle) o) x.idle)))
      by None none same is quiet = nobody set b (none_there x.idle none)
      by (Some k) lowest false is quiet = again set b (some_there x.idle k lowest) is
      by (Some k) lowest true is quiet = to_signal set b k (idle_after (claimed_if true (set_of x.idle) (Some k)) x.idle) (other k lowest (out (is_in x.idle.published i) refl))

  -- SIGNALS

  differs : (j : ℕ) → (j == i) ≡ false → i ≢ j
  differs j h same = true≢false (sym (eq-eqb j i (sym same)) ∙ h)

  bounded : (v w : Bool) → one_if (v && w) ≤ one_if (v && true)
  bounded = grind arith

  abbrev with_latch : ℕ → Gets c i me s d x
  with_latch j = record { hand = d.hand; loot = d.loot; searching = d.searching; things = set_word j x (latched (word_of x j)) }

  -- its own signal becomes a latch
  latch_kept : (j : ℕ) (b : AfterSignal) → i < length x.words → (v : Bool) → (j == i) ≡ v → Kept c i me s d x (Place.Signal InSignal.SetLatch j b) (with_latch j)
  latch_kept = grind (arith, eqb-true, get_or-set_same, bounded, get_or-set_other, differs)

  abbrev with_raised : Bool → ℕ → Gets c i me s d x
  with_raised ring j = record { hand = d.hand; loot = d.loot; searching = d.searching; things = set_wake_poll j x (raised_if ring (wake_poll_of x j)) }

  -- it ends the wait of another one
  raise_kept : (ring : Bool) (j : ℕ) (b : AfterSignal) → (j == i) ≡ false → Kept c i me s d x (Place.Signal (InSignal.Raise ring) j b) (with_raised ring j)
  raise_kept = grind (arith, other, get_or-set_other, differs)

  pub signals : (p : InSignal) (j : ℕ) (b : AfterSignal) → FallsAt c i me s d x (Place.Signal p j b)
  signals InSignal.SetLatch j b it quiet =
      let p = Place.Signal InSignal.SetLatch j b in
      let u = with_latch j in
      let ring = is_ring (word_of x j).target in
      let r = raise (below_signal c.workers b) in
      let kept = latch_kept j b it.word_there (j == i) refl in
      at_if c i me s d x p u (asks_signal (word_of x j)) (Place.Signal (InSignal.Raise ring) j b) (after_signal c i (seen p me) s b (stands p d))
      (λ h. hops c i me s d x p (Place.Signal (InSignal.Raise ring) j b) u (is_short_signal b) (stage_of_signal d.picks b) (stagings_of_signal b) r
      (leaves_signal c i me s d x InSignal.SetLatch j b r (omega arith)) (comes_signal c i me s d x (InSignal.Raise ring) j b u r (omega arith) refl) kept)
      (λ h. signal_to c i me s d x p u b it.open_still (leaves_signal c i me s d x InSignal.SetLatch j b (below_signal c.workers b) (omega arith)) kept)
  signals (InSignal.Raise ring) j b it quiet = by (is_awake (seat_of s j).rest) quiet
    where
      by : (v : Bool) → Falls c i (seen (Place.Signal (InSignal.Raise ring) j b) me) s (stands (Place.Signal (InSignal.Raise ring) j b) d) x
          (with_wake_poll j x (does (if v then Turn else Rouse j) (goes (after_signal c i (seen (Place.Signal (InSignal.Raise ring) j b) me) s b (stands (Place.Signal (InSignal.Raise ring) j b) d)) (stands (Place.Signal (InSignal.Raise ring) j b) d)) (raised_if ring (wake_poll_of x j))))
      by true quiet =
          signal_to c i me s d x (Place.Signal (InSignal.Raise ring) j b) (with_raised ring j) b it.open_still
          (leaves_signal c i me s d x (InSignal.Raise ring) j b (below_signal c.workers b) (omega arith)) (raise_kept ring j b it.unraised)
      by false quiet = absurd (false≢true quiet)
