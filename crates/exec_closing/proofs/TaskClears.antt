-- A TASK IS CLEARED that a visit took out of the set: its slot, and what that leaves of the balances.
use Rattle.std.{proofs.{Common.{rules, ◌≡◌, ◌≢◌, ℕ, ◌+◌, ◌<◌, ◌≤◌, ◌==◌, ◌&&◌, ◌||◌, not, sum_by, Bool, true, false, Contains, List, length, map, option_to_list, Option, Some, None, refl, sym, ap, subst, ◌∙◌, arith, slice_get, slice_set, if◌then◌else◌}, lemmas.List.length-set}, specs.List.range_with_len}
use Rattle.exec_words.specs.Idle.{is_in}
use Rattle.exec_task.specs.{Phases.{is_polled, cleared}, declared.{drain.Drain.Drain, runnable.Runnable.Runnable, task.Phase.Phase}}
use Rattle.exec_moves.specs.{declared.place.{InClosing.InClosing, Place.Place}, Seen.polls_at}
use Rattle.exec_parts.{specs.{declared.parts.{letters.Letters.Letters, seat.Seat.Seat as Chair, shared.Shared.Shared, task_slot.TaskSlot.TaskSlot, worker.Worker.Worker}, Ending.ends_by_clear, Phased.{IsPhased, closes_at, is_complete, stage_of}, Pooled.cleared_slot, View.body_in}, proofs.Facts.{by_number, false_from_ne_true, not_same, same_Some, set_elsewhere, set_there}}
use Rattle.exec_invariants.{specs.{Drained.in_set, Holding.{IsHolding, box_of, holder_of, nap_of, thing_of}, Places.{claims_at, clears_at, drops_at, has_count_at, is_published_at, no_drops, one_if}, Sound.{AreHome, AreResting, HasRunnable, IsHeld, IsResting, IsTied, SoundAt}, Spares.SparesPolled, Whole.{HasOne, HasWhole, IsGenuine, IsWhole, Profile, duties_of, hands_of, is_number, may_let_go, stock, with_worker}}, proofs.{Here.going_on, Lined.{KeepsLines, gates_kept}, PoolClosing.{Clears, IsCleared, pool_cleared}, PoolKept.{chosen_other, chosen_own, is_its}, Shutting.none_in, Slots.gates_free, SlotTasks.{Keeps, genuine_set, homes_set, resting_set}, TaskOverWhole.IsPast}}

and_other : (a b : Bool) → (a && not b) ≡ false → a ≡ true → b ≡ true
and_other = grind arith

-- WHERE ITS WORKER GOES ON
abbrev pub cleared_to : Place → Letters → Worker → Worker → Worker
cleared_to q l v w = record w { place = q; letters = l; names = v.names; home = v.home }

module _ {B : Type 0} where
  -- ITS SLOT, with this of what it held
  abbrev pub cleared_with : TaskSlot B → TaskSlot B → TaskSlot B
  cleared_with h slot = record slot { cell = cleared slot.cell; cleared = true; body = body_in slot.cell.phase slot.body; held = h.held }

  pub polled_cleared : (slot : TaskSlot B) → is_polled (cleared slot.cell).phase ≡ is_polled slot.cell.phase
  polled_cleared = grind arith

  pub complete_cleared : (slot : TaskSlot B) → is_polled slot.cell.phase ≡ false → is_complete (cleared slot.cell).phase ≡ true
  complete_cleared slot unpolled = rw unpolled refl

  pub going_cleared : (slot : TaskSlot B) → is_polled slot.cell.phase ≡ true → is_complete (cleared slot.cell).phase ≡ false
  going_cleared slot polled = going_on (cleared slot.cell).phase (polled_cleared slot ∙ polled)

  -- whether it ends by that
  pub ends_so : (slot : TaskSlot B) → ends_by_clear slot ≡ true → (is_polled slot.cell.phase ≡ false) × (is_complete slot.cell.phase ≡ false)
  ends_so = grind arith

  pub ends_not : (slot : TaskSlot B) → ends_by_clear slot ≡ false → is_polled slot.cell.phase ≡ false → is_complete slot.cell.phase ≡ true
  ends_not slot ends unpolled = and_other (is_complete (cleared slot.cell).phase) (is_complete slot.cell.phase) ends (complete_cleared slot unpolled)

  body_polled : (p : Phase B) (b : Option B) → is_polled p ≡ true → body_in p b ≡ b
  body_polled = grind arith

  pub body_again : (slot : TaskSlot B) → body_in (cleared_slot slot).cell.phase (cleared_slot slot).body ≡ body_in slot.cell.phase slot.body
  body_again = grind arith

  pub keeps_cleared : (h slot : TaskSlot B) → Keeps slot (cleared_with h slot)
  keeps_cleared = grind arith

  pub spares_cleared : (slot : TaskSlot B) → is_polled slot.cell.phase ≡ true → SparesPolled slot (cleared_slot slot)
  spares_cleared slot polled = rw (polled, body_polled slot.cell.phase slot.body polled) (record { polled = polled; number = refl; cancelled = λ h. refl; kept = refl })

  rests_cleared : (h slot : TaskSlot B) → IsResting slot → is_polled slot.cell.phase ≡ false → IsResting (cleared_with h slot)
  rests_cleared = grind arith

  is_cleared : (h slot : TaskSlot B) → IsCleared slot (cleared_with h slot)
  is_cleared = grind arith

  -- a drain clears it, of a closed set
  one_cleared : (g : Bool) (slot : TaskSlot B) (n : ℕ) → g ≡ true → HasOne g slot.cell.phase n → HasOne g (cleared slot.cell).phase n
  one_cleared = grind arith

  -- THE TASK THAT IS CLEARED is there, an ordinary one, and wasn't cleared before
  pub record ToClear (t : ℕ) (s : Shared B) : Type 0 where
    pub slot : TaskSlot B
    pub there : slice_get s.tasks.items t ≡ Some slot
    pub ordinary : slot.home ≡ None
    pub uncleared : slot.cleared ≡ false

  pub to_clear : (t : ℕ) (drain : Drain) (w : Worker) (s : Shared B) → SoundAt (Place.Closing (InClosing.Clear t drain)) w s → (has : HasWhole w s) → ToClear t s
  to_clear t drain w s sound has =
      let some : 0 < (with_worker has.others w).clears t + in_set t s.set = omega (arith, ap one_if (is_its (clears_at w.place) t (ap clears_at sound.here))) in
      let it = has.whole.pool.only t some in
      search (it.0, it.1, it.2, false_from_ne_true it.0.cleared (λ is. absurd (let none = (has.whole.pool.live t it.0 it.1 it.2).cleared is in omega (arith, some, none))))

  module _ (t : ℕ) (drain : Drain) (q : Place) (l : Letters) (v w : Worker) (s : Shared B) (here : w.place ≡ Place.Closing (InClosing.Clear t drain)) (past : IsPast q) (drops : drops_at q ≡ no_drops) (others : Profile) where
    duties : Clears t w.index (duties_of (with_worker others w)) (duties_of (with_worker others (cleared_to q l v w)))
    duties =
        let clears : clears_at q ≡ None = past.clears in
        let removes = ap (λ x. x.removes) (chosen_own w.index (drops_at q) (others.drops_by w.index)) ∙ ap (λ x. x.removes) drops in
        search (rules, ap (λ x. x.clears) (chosen_own w.index (drops_at w.place) (others.drops_by w.index)) ∙ ap clears_at here, removes, is_its, not_same, chosen_other)

    -- THE BALANCES
    pub whole_cleared : (s' : Shared B) (o : TaskSlot B) (it : ToClear t s) → s'.tasks.items ≡ slice_set s.tasks.items t (cleared_with o it.slot) → KeepsLines s.requests.items s'.requests.items → s' ≡ record s { tasks = s'.tasks; requests = s'.requests; sleepers = s'.sleepers }
        → IsHolding (hands_of (with_worker others (cleared_to q l v w))) s.config.workers (map holder_of s'.tasks.items) (map thing_of s'.requests.items) (map nap_of s'.sleepers.items) (map box_of s.seats.items)
        → IsWhole (with_worker others w) s → IsWhole (with_worker others (cleared_to q l v w)) s'
    whole_cleared s' o it items lines kept holding whole =
        let slot = it.slot in
        let slot' : TaskSlot B = cleared_with o it.slot in
        let there = it.there in
        let ordinary = it.ordinary in
        let s1 : Shared B = record s { tasks = s'.tasks; requests = s'.requests; sleepers = s'.sleepers } in
        let was : (k : ℕ) (x : TaskSlot B) → slice_get s'.tasks.items k ≡ Some x → k ≢ t → slice_get s.tasks.items k ≡ Some x = λ k x found apart. sym (set_elsewhere s.tasks.items t k slot' apart) ∙ ap (λ ts. slice_get ts k) (sym items) ∙ found in
        let is : (k : ℕ) (x : TaskSlot B) → slice_get s'.tasks.items k ≡ Some x → k ≡ t → slot' ≡ x = λ k x found same. same_Some slot' x (sym (set_there s.tasks.items t slot' slot there) ∙ ap (λ ts. slice_get ts t) (sym items) ∙ subst (λ m. slice_get s'.tasks.items m ≡ Some x) same found) in
        let genuine : (r : Runnable) → IsGenuine s.tasks.items r → IsGenuine s'.tasks.items r = λ r g. subst (λ ts. IsGenuine ts r) (sym items) (genuine_set s.tasks.items t slot slot' there (keeps_cleared o slot) r g) in
        let same_polls : (u : ℕ) → (with_worker others (cleared_to q l v w)).polls u ≡ (with_worker others w).polls u = λ u. ap (λ y. others.polls u + one_if (is_number y u)) (past.polls ∙ sym (ap polls_at here)) in
        let same_claims : (j : ℕ) → (with_worker others (cleared_to q l v w)).claims j ≡ (with_worker others w).claims j = λ j. ap (λ y. others.claims j + one_if (is_number y j)) (past.claims ∙ sym (ap claims_at here)) in
        let posted : (with_worker others (cleared_to q l v w)).published ≡ (with_worker others w).published = ap (λ (b : Bool). λ (j : ℕ). if j == w.index then b else others.published j) (past.published ∙ sym (ap is_published_at here)) in
        let counted : (with_worker others (cleared_to q l v w)).counts ≡ (with_worker others w).counts = ap (λ b. others.counts + (one_if w.searching + one_if b)) (past.counts ∙ sym (ap has_count_at here)) in
        let shut : s.set.closed ≡ true = (whole.pool.who_clears t (omega (arith, duties.one))).3 in
        let gone : may_let_go s ≡ true = ap (λ b. b || s.global.closed) shut in
        let done : IsWhole (with_worker others (cleared_to q l v w)) s1 = record {
          runnables = λ u x found home.
              by_number u t
              (λ apart. whole.runnables u x (was u x found apart) home)
              (λ same.
              let e = is u x found same in
              subst (λ m. HasOne (may_let_go s) x.cell.phase ((with_worker others w).runnables m + stock m s)) (sym same)
              (subst (λ (y : TaskSlot B). HasOne (may_let_go s) y.cell.phase ((with_worker others w).runnables t + stock t s)) e (one_cleared (may_let_go s) slot ((with_worker others w).runnables t + stock t s) gone (whole.runnables t slot there ordinary))));
          polls = λ u x found home.
              same_polls u
              ∙ by_number u t
              (λ apart. whole.polls u x (was u x found apart) home)
              (λ same.
              let e = is u x found same in
              subst (λ m. (with_worker others w).polls m ≡ one_if (is_polled x.cell.phase)) (sym same)
              (subst (λ (y : TaskSlot B). (with_worker others w).polls t ≡ one_if (is_polled y.cell.phase)) e (whole.polls t slot there ordinary ∙ ap one_if (sym (polled_cleared slot)))));
          claims = λ j chair found. same_claims j ∙ whole.claims j chair found;
          counts = subst (λ (f : ℕ → Bool). (with_worker others (cleared_to q l v w)).counts + claimed_by f ≡ s.idle.count) (sym posted) (ap (λ m. m + claimed_by (with_worker others w).published) counted ∙ whole.counts);
          bits = subst (λ (f : ℕ → Bool). Bits f) (sym posted) whole.bits;
          set = whole.set;
          queued_here = λ j chair r found has_it. genuine r (whole.queued_here j chair r found has_it);
          queued_there = λ r has_it. genuine r (whole.queued_there r has_it);
          places = λ open_still. rw (items, length-set) (whole.places open_still);
          made = λ u more.
              let old = whole.made u (subst (λ m. m ≤ u) (ap length items ∙ length-set s.tasks.items t slot') more) in
              (old.0, same_polls u ∙ old.1);
          unclaimed = λ j more. same_claims j ∙ whole.unclaimed j more;
          in_pool = whole.in_pool;
          gates =
              gates_kept s.requests.items s'.requests.items lines (with_worker others (cleared_to q l v w)).drops_by s.opens
              (gates_free w.index (with_worker others w).drops_by (with_worker others (cleared_to q l v w)).drops_by s.opens s.requests.items
              (λ j other. chosen_other j w.index (drops_at q) (others.drops_by j) other ∙ sym (chosen_other j w.index (drops_at w.place) (others.drops_by j) other))
              (ap (λ y. y.passes) (chosen_own w.index (drops_at q) (others.drops_by w.index)) ∙ past.passes) (ap (λ y. y.joins) (chosen_own w.index (drops_at q) (others.drops_by w.index)) ∙ past.joins) whole.gates);
          holding = holding;
          pool = pool_cleared t w.index (duties_of (with_worker others w)) (duties_of (with_worker others (cleared_to q l v w))) s.tasks.items s'.tasks.items s.set s.seats.items slot slot' there ordinary items duties (is_cleared o slot) whole.pool;
        } in
        subst (IsWhole (with_worker others (cleared_to q l v w))) (sym kept) done
      where
        claimed_by : (ℕ → Bool) → ℕ
        claimed_by f = sum_by (λ j. one_if (f j && not (is_in s.idle.published j))) (range_with_len 0 s.config.workers)

        Bits : (ℕ → Bool) → Type 0
        Bits f = (j : ℕ) → is_in s.idle.published j ≡ true → (f j ≡ true) × (j < s.config.workers)

  -- WHAT IS SOUND, where the slot of an ordinary task changed and the worker polls nothing
  pub sound_beside : (y : InClosing) (t : ℕ) (w : Worker) (s s' : Shared B) (o : TaskSlot B) (it : ToClear t s) → SoundAt (Place.Closing y) w s → s'.tasks.items ≡ slice_set s.tasks.items t (cleared_with o it.slot) → SoundAt (Place.Closing y) w (record s { tasks = s'.tasks })
  sound_beside y t w s s' o it sound items =
      let slot = it.slot in
      let slot' : TaskSlot B = cleared_with o it.slot in
      let ts : List (TaskSlot B) = s'.tasks.items in
      let apart : t ≢ w.root = λ same.
      let is : slot ≡ sound.runnable.root = same_Some slot sound.runnable.root (sym it.there ∙ ap (slice_get s.tasks.items) same ∙ sound.runnable.there) in
      absurd (let never : None ≡ Some w.index = sym it.ordinary ∙ ap (λ (x : TaskSlot B). x.home) is ∙ sound.runnable.home in cc) in
      let back : slice_get ts w.root ≡ slice_get s.tasks.items w.root = ap (λ xs. slice_get xs w.root) items ∙ set_elsewhere s.tasks.items t w.root slot' (λ e. apart (sym e)) in
      let homes : AreHome s.config.workers (length s.seats.items) ts = subst (AreHome s.config.workers (length s.seats.items)) (sym items) (homes_set s.config.workers (length s.seats.items) s.tasks.items t slot slot' it.there (keeps_cleared o slot) sound.homes) in
      let run = sound.runnable in
      let runnable : HasRunnable w.index w.root w.root_ready None ts = record { root = run.root; there = back ∙ run.there; home = run.home; number = run.number; once = run.once; one = run.one } in
      let resting : AreResting ts = subst AreResting (sym items) (resting_set s.tasks.items t slot slot' it.there (λ home unpolled. let idle = sym (polled_cleared slot) ∙ unpolled in rests_cleared o slot (sound.resting t slot it.there it.ordinary idle) idle) sound.resting) in
      let tied : IsTied None w.index w.root ts = record { stands = λ x at_root. sound.tied.stands x (sym back ∙ at_root) } in
      let phased : (chair : Chair) → slice_get s.seats.items w.index ≡ Some chair → IsPhased w.index (closes_at (Place.Closing y)) (Some y) w.home.closing w.root w.names.unreleased (stage_of chair s) ts = λ chair at_own.
      let old = sound.phased chair at_own in
      record { told = old.told; opened = old.opened; ended = old.ended; root = λ x at_root. old.root x (sym back ∙ at_root); left = old.left; shut = old.shut; by_zero = old.by_zero; by_other = old.by_other; closed = old.closed; prepared = old.prepared } in
      let genuine : (r : Runnable) → Contains (option_to_list w.hand) r → IsHeld None w.root ts r = λ r has. absurd (none_in r (subst (λ x. Contains (option_to_list x) r) sound.hand has)) in
      let stolen : (r : Runnable) → Contains w.loot.values r → IsGenuine ts r = λ r has. absurd (none_in r (subst (λ rs. Contains rs r) (sound.loot.none refl) has)) in
      assumption (homes, runnable, resting, tied, phased, genuine, stolen, sound)
