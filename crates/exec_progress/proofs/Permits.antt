-- A permit that is given up in a service.
use Rattle.std.{proofs.{Common.{◌≡◌, ℕ, ◌+◌, ◌≤◌, ◌<◌, ◌==◌, Bool, true, false, not, ◌&&◌, ◌||◌, List, length, get_or, slice_set, if◌then◌else◌, Option, Some, None, refl, sym, ap, ◌∙◌, arith}, lemmas.{Bool.{false≢true, true≢false, eqb-true, eq-eqb}, Grind.get_or-set_at, List.get_or-set_other}}, specs.Prelude.{nat_lt, is_some, slice_get}}
use Rattle.exec_words.specs.{Word.asks_signal, declared.word.PureWord.PureWord}
use Rattle.exec_machine.specs.{declared.{config.Configuration.Configuration, event.Event.TheVariants.{Rouse, Serve}}, Ranges.ring_size, Tests.is_awake, World.{Common, Own as Books, seat_of}}
use Rattle.exec_moves.specs.{declared.place.{AfterPermit.AfterPermit, AfterService.AfterService, InService.InService, Place.Place, Service.Service}, Callback.is_full, Claim.{is_ring, latched, raised_if}, Counts.one_if, Load.{has_mail, has_submissions}, Serve.{after_passing, after_permit, left_by_first, worker_of}, State.{Desk, Things, WakePoll, does, gate_of, no_wake_poll, no_word, serves, wake_poll_of, word_of}, Thing.{with_gate, with_wake_poll, with_word}}
use Rattle.exec_progress.{specs.{Heights.after_permit as height_after, Effort.gates_left, Going.{Falls, FallsAt, seen, stands}, Owed.{calling_back, has_stray, quiet_items, reaping, sampling, signals_itself, signs, signs_ahead, stage_in_service, stage_of_permit, stage_of_service, staging}, Ranks.{below_service, in_service}}, proofs.Tools.{Now, before, goes_down, keeps_turns, left}}

module _ (c : Configuration) (i : ℕ) (me : Books) (s : Common) (d : Desk) (x : Things) where
  -- worker i at this step, with these words, wake polls and gates
  abbrev pub served_to : InService → InService → Service → List PureWord → List WakePoll → List (List ℕ) → Now
  served_to p q v ws ps gs =
      record { me = record (seen (Place.Service p v) me) { serving = true }; s = s; d = stands (Place.Service q v) d; x = record x { words = ws; wake_polls = ps; gates = gs } }

  -- at the same stage of a service, with nothing new but a latch that its own step brings
  pub record Slides (p q : InService) (v : Service) (ws : List PureWord) (ps : List WakePoll) : Type 0 where
    pub stage_same : stage_of_service v.back q ≡ stage_of_service v.back p
    pub less : in_service (is_full (ring_size c) d) (below_service c.workers v.back) q < in_service (is_full (ring_size c) d) (below_service c.workers v.back) p
    pub gates_same : gates_left i s (Place.Service q v) ≡ gates_left i s (Place.Service p v)
    pub mail_same : has_mail d (get_or ws i no_word) ≡ has_mail d (word_of x i)
    pub poll_same : get_or ps i no_wake_poll ≡ wake_poll_of x i
    pub latch : one_if (signals_itself i (Place.Service q v) || (get_or ws i no_word).latch) ≤ one_if (signals_itself i (Place.Service p v) || (word_of x i).latch)

  gated : (g a b : Bool) → one_if a ≤ one_if b → one_if (g && a) ≤ one_if (g && b)
  gated true a b h = h
  gated false a b h = omega arith

  pub slides : (p q : InService) (v : Service) (ws : List PureWord) (ps : List WakePoll) (gs : List (List ℕ)) → Slides p q v ws ps → left c i (served_to p q v ws ps gs) < left c i (before me s d x (Place.Service p v))
  slides p q v ws ps gs it =
      let n = stage_of_service v.back p in
      let a = before me s d x (Place.Service p v) in
      let b = served_to p q v ws ps gs in
      let y = signs c i b.me b.s b.d b.x in
      let mail = ap (λ m. one_if m) it.mail_same in
      let on = ap (λ k. signs_ahead k (Place.Service q v) y) it.stage_same in
      let staged = ap (λ k. one_if (nat_lt k sampling && (signals_itself i (Place.Service q v) || (get_or ws i no_word).latch)) + one_if (nat_lt k reaping && has_stray d (get_or ps i no_wake_poll)) + one_if (nat_lt k staging && (has_submissions c me && (seat_of s i).busy))
      + one_if (nat_lt k staging && (is_full (ring_size c) d && (not d.polled && not (has_submissions c me)))) + one_if (nat_lt k calling_back && nat_lt 0 (quiet_items d))) it.stage_same in
      let stray = ap (λ w. one_if (nat_lt n reaping && has_stray d w)) it.poll_same in
      let kept = ap (λ (w : WakePoll). one_if w.kept) it.poll_same in
      let ended = ap (λ (w : WakePoll). one_if (is_some w.ended)) it.poll_same in
      let latches = gated (nat_lt n sampling) (signals_itself i (Place.Service q v) || (get_or ws i no_word).latch) (signals_itself i (Place.Service p v) || (word_of x i).latch) it.latch in
      let latch = ap (λ k. one_if (nat_lt k sampling && (signals_itself i (Place.Service q v) || (get_or ws i no_word).latch))) it.stage_same in
      goes_down c i a b (record {
        long_before = refl;
        long_after = refl;
        less = omega (arith, it.less, it.gates_same);
        gates_kept = omega arith;
        owes = keeps_turns c i a b (grind (arith, on, mail, staged, stray, kept, ended, latches, latch));
      })

  -- WHAT FOLLOWS a permit that was given up

  stage_after : (v : Service) (b : AfterPermit) → stage_in_service (after_permit b) ≡ stage_of_permit b
  stage_after = grind arith

  -- that stage is the one of each step of the way, whatever follows the service
  at_stage : (p q : InService) (back : AfterService) → stage_in_service q ≡ stage_in_service p → stage_of_service back q ≡ stage_of_service back p
  at_stage = grind arith

  low_after : (full : Bool) (below : ℕ) (b : AfterPermit) → in_service full below (after_permit b) ≤ height_after below b
  low_after = grind arith

  gates_after : (file : ℕ) (v : Service) (b : AfterPermit) → gates_left i s (Place.Service (after_permit b) v) ≡ gates_left i s (Place.Service (InService.PassPermit file b) v)
  gates_after = grind arith

  still_after : (v : Service) (b : AfterPermit) → signals_itself i (Place.Service (after_permit b) v) ≡ false
  still_after = grind arith

  -- the gates of a step that carries what follows
  gates_of : (file j : ℕ) (v : Service) (b : AfterPermit) → gates_left i s (Place.Service (InService.Signal j b) v) ≡ gates_left i s (Place.Service (InService.PassPermit file b) v)
  gates_of = grind arith

  gates_in : (file j : ℕ) (ring : Bool) (v : Service) (b : AfterPermit) → gates_left i s (Place.Service (InService.Raise ring j b) v) ≡ gates_left i s (Place.Service (InService.PassPermit file b) v)
  gates_in = grind arith

  one_at_most : (b : Bool) → one_if b ≤ 1
  one_at_most true = omega arith
  one_at_most false = omega arith

  -- PASSING

  pub passes_permit : (file : ℕ) (b : AfterPermit) (v : Service) → FallsAt c i me s d x (Place.Service (InService.PassPermit file b) v)
  passes_permit file b v it = by (worker_of s (slice_get (left_by_first (gate_of x file)) 0))
    where
      full : Bool
      full = is_full (ring_size c) d

      below : ℕ
      below = below_service c.workers v.back

      by : (o : Option ℕ) → Falls c i (seen (Place.Service (InService.PassPermit file b) v) me) s (stands (Place.Service (InService.PassPermit file b) v) d) x
          (with_gate file x (serves (Place.Service (after_passing o b) v) (stands (Place.Service (InService.PassPermit file b) v) d) (left_by_first (gate_of x file))))
      by None quiet = slides (InService.PassPermit file b) (after_permit b) v x.words x.wake_polls (slice_set x.gates file (left_by_first (gate_of x file))) (record {
        stage_same = at_stage (InService.PassPermit file b) (after_permit b) v.back (stage_after v b);
        less = omega (arith, low_after full below b);
        gates_same = gates_after file v b;
        mail_same = refl;
        poll_same = refl;
        latch = one_at_most (signals_itself i (Place.Service (after_permit b) v) || (word_of x i).latch);
      })
      by (Some j) quiet = slides (InService.PassPermit file b) (InService.Signal j b) v x.words x.wake_polls (slice_set x.gates file (left_by_first (gate_of x file))) (grind (arith, at_stage, file, v.back, gates_of, one_at_most, word_of))

  -- SIGNALLING

  -- worker j is signalled: the mail is as it was, and a latch comes only to who signals itself
  signalled : (j : ℕ) → i < length x.words → (has_mail d (get_or (slice_set x.words j (latched (word_of x j))) i no_word) ≡ has_mail d (word_of x i))
      × (one_if (get_or (slice_set x.words j (latched (word_of x j))) i no_word).latch ≤ one_if ((j == i) || (word_of x i).latch))
  signalled = grind (arith, eqb-true, get_or-set_at, one_at_most, get_or-set_other, true≢false, eq-eqb)

  pub signals_in_service : (j : ℕ) (b : AfterPermit) (v : Service) → FallsAt c i me s d x (Place.Service (InService.Signal j b) v)
  signals_in_service j b v it = by (asks_signal (word_of x j))
    where
      full : Bool
      full = is_full (ring_size c) d

      below : ℕ
      below = below_service c.workers v.back

      by : (ask : Bool) → Falls c i (seen (Place.Service (InService.Signal j b) v) me) s (stands (Place.Service (InService.Signal j b) v) d) x
          (with_word j x (serves (Place.Service (if ask then InService.Raise (is_ring (word_of x j).target) j b else after_permit b) v) (stands (Place.Service (InService.Signal j b) v) d) (latched (word_of x j))))
      by true quiet = slides (InService.Signal j b) (InService.Raise (is_ring (word_of x j).target) j b) v (slice_set x.words j (latched (word_of x j))) x.wake_polls x.gates (record {
        stage_same = at_stage (InService.Signal j b) (InService.Raise (is_ring (word_of x j).target) j b) v.back refl;
        less = omega arith;
        gates_same = gates_in 0 j (is_ring (word_of x j).target) v b ∙ sym (gates_of 0 j v b);
        mail_same = (signalled j it.word_there).0;
        poll_same = refl;
        latch = (signalled j it.word_there).1;
      })
      by false quiet = slides (InService.Signal j b) (after_permit b) v (slice_set x.words j (latched (word_of x j))) x.wake_polls x.gates (record {
        stage_same = at_stage (InService.Signal j b) (after_permit b) v.back (stage_after v b);
        less = omega (arith, low_after full below b);
        gates_same = gates_after 0 v b ∙ sym (gates_of 0 j v b);
        mail_same = (signalled j it.word_there).0;
        poll_same = refl;
        latch = rw (still_after v b) (signalled j it.word_there).1;
      })

  -- the wait of another worker is ended
  pub raises_in_service : (ring : Bool) (j : ℕ) (b : AfterPermit) (v : Service) → FallsAt c i me s d x (Place.Service (InService.Raise ring j b) v)
  raises_in_service ring j b v it = by (is_awake (seat_of s j).rest)
    where
      full : Bool
      full = is_full (ring_size c) d

      below : ℕ
      below = below_service c.workers v.back

      other : i ≡ j → ⊥
      other same = true≢false (sym (eq-eqb j i (sym same)) ∙ it.unraised)

      by : (awake : Bool) → Falls c i (seen (Place.Service (InService.Raise ring j b) v) me) s (stands (Place.Service (InService.Raise ring j b) v) d) x
          (with_wake_poll j x (does (if awake then Serve else Rouse j) (stands (Place.Service (after_permit b) v) d) (raised_if ring (wake_poll_of x j))))
      by true quiet = slides (InService.Raise ring j b) (after_permit b) v x.words (slice_set x.wake_polls j (raised_if ring (wake_poll_of x j))) x.gates (record {
        stage_same = at_stage (InService.Raise ring j b) (after_permit b) v.back (stage_after v b);
        less = omega (arith, low_after full below b);
        gates_same = gates_after 0 v b ∙ sym (gates_in 0 j ring v b);
        mail_same = refl;
        poll_same = get_or-set_other x.wake_polls j i (raised_if ring (wake_poll_of x j)) no_wake_poll other;
        latch = rw (still_after v b) (omega arith);
      })
      by false quiet = absurd (false≢true quiet)
