-- What the steps of a pop of the own run queue are to the machine.
use Rattle.std.proofs.{Common.{[], ◌≡◌, ℕ, ◌+◌, ◌-◌, ◌<◌, ◌≤◌, ◌==◌, ◌&&◌, ◌⊎◌, inl, inr, Bool, true, false, not, Contains, List, ◌∷◌, ◌++◌, drop, length, Option, None, Some, refl, sym, ap, subst, ◌∙◌, arith, option_to_list, slice_get, slice_set, if◌then◌else◌}, lemmas.List.Elements.Contains-append_right}
use Rattle.exec_words.specs.{Queue.{Queue, head_of, popped, tail_of}, declared.head.Head.Head}
use Rattle.exec_task.specs.declared.{body.Said.Said, drain.Drain.Drain, runnable.Runnable.Runnable}
use Rattle.exec_machine.specs.{declared.{config.Configuration.Configuration, event.Event.{Event, TheVariants.Turn}}, Progress.Plan, Tests.is_empty}
use Rattle.exec_moves.specs.{declared.{handing.{AfterPop.AfterPop, First.First, InPop.InPop}, place.{InClosing.InClosing, InPick.InPick, InPoll.InPoll, Place.Place}}, Move.move_at, Parts.{first_pop, has_others}, Pop.{after_empty_pop, after_pop, drain_by, exchange_pop, judge_pop, load_pop_head, pops, same_head, shard_count}, State.{Moved, does, queue_of, turns}, Thing.with_queue}
use Rattle.exec_parts.{specs.{declared.parts.{seat.Seat.Seat as Chair, shared.Shared.Shared, worker.Worker.Worker}, Phased.{TurnsChair, stage_of}, Pooled.{OfChair, polling, popped_if, popped_if_any, with_exchanged, with_judged, with_popped}, Spots.Spot, View.{Views, common_of, desk_of, own_of, queue_seen, things_of, things_with}}, proofs.Facts.{or_left, same_number}}
use Rattle.exec_invariants.{proofs.{Showing.own_queue_seen, Claiming.same_heads, Onces.has_fewer, Queued.{hands_of, whole_queued}, Queueing.{Around, Carries, Reaches, around_own, hands_own, if_either, poses, requeued_own, seen_by, still_of, whole_handed}, Thieves.in_both, Turning.set_found, PopLeads.{pops_some, pops_none, loads_seen, and_parts, gap_popped, behind, more_than, not_none, begins_poll, no_root, set_closed, drains, phased_drain}}, specs.{Sound.{HasQueue, SoundAt}, Whole.{HasWhole, IsGenuine, IsWhole, Profile, may_let_go, queued, runnables_in, stock, with_worker}, Works.{Steps, Suits}}}

module _ {B L : Type 0} (left : B → L) (spot : L → Option Said → Spot) (x : InPop) (w w' : Worker) (s s' : Shared B) (e : Event) (its : Chair) where
  -- what each step of a pop knows of its seat
  pub record Pops (b : AfterPop) : Type 0 where
    pub sound : SoundAt (Place.Pop x b) w s
    pub there : slice_get s.seats.items w.index ≡ Some its
    pub held : its.queue.held ≡ []
    pub turn : e ≡ Turn
    pub kept : s' ≡ record s { seats = s'.seats }

  -- the move of the step, which names its queue
  abbrev pub Moving : AfterPop → Moved (Queue ℕ) → Type 0
  Moving b m = (p : Plan) (vs : Views) → Suits p vs w s → move_at p.config w.index (own_of w) (common_of left spot p vs s) (desk_of w) (things_with vs s) (Place.Pop x b) ≡ with_queue w.index (things_with vs s) m

  -- Wpops.there NOTHING IS POPPED: the place changes
  stays : (b : AfterPop) (next : Place) → Pops b → s'.seats.items ≡ slice_set s.seats.items w.index its → w' ≡ record w { place = next } → Reaches (Place.Pop x b) next w (record w { place = next }) s s' → Moving b (turns next (desk_of w) (queue_seen its.queue)) → Steps left spot w s e w' s'
  stays b next pops set goes to moves =
      let q = Place.Pop x b in
      let w1 : Worker = record w { place = next } in
      let sound = pops.sound in
      subst (λ v. Steps left spot w s e v s') (sym goes)
      (requeued_own left spot its its.queue q w w1 s s' e sound pops.turn (record { same = refl; read = sound.time.read; asleep = sound.time.asleep }) pops.kept pops.there set (omega arith) refl refl to
      (λ others before. whole_queued others w.index its its.queue w w1 s s' pops.kept pops.there set (hands_own w.index its.queue its.queue w w1 (poses q w w1 s sound to.same refl refl (record { batch = refl; letters = refl; left = refl })) (λ t. refl) refl) (λ r has. inl has) before)
      moves)

  -- the queue was empty
  pub none_popped : (b : AfterPop) → Pops b → s'.seats.items ≡ slice_set s.seats.items w.index its → w' ≡ record w { place = after_empty_pop s.config w.index b } → Moving b (turns (after_empty_pop s.config w.index b) (desk_of w) (queue_seen its.queue)) → Steps left spot w s e w' s'
  none_popped (AfterPop.Pick First.Own) pops set goes moves =
      let sound = pops.sound in
      let next = Place.Pick (InPick.LoadMirror First.Own) in
      stays (AfterPop.Pick First.Own) next pops set goes
      (record {
        same = refl;
        quiet = λ h. sound.quiet refl;
        around = around_own next w s s' its its.queue pops.there set sound.seated pops.held tt sound.batch (sound.batch_place its pops.there) sound.lets_go (sound.phased its pops.there);
        carries = record { runnable = sound.runnable; hand = sound.hand; loot = sound.loot; genuine = sound.genuine; stolen = sound.stolen; searching = tt; pooled = λ is. sound.pooled refl; serves = tt; calm = sound.calm; left = sound.left; told = sound.told };
      }) moves
  none_popped (AfterPop.Pick First.Global) pops set goes moves =
      let sound = pops.sound in
      let next = Place.TakeRootFlag in
      stays (AfterPop.Pick First.Global) next pops set goes
      (record {
        same = refl;
        quiet = λ h. sound.quiet refl;
        around = around_own next w s s' its its.queue pops.there set sound.seated pops.held tt sound.batch (sound.batch_place its pops.there) sound.lets_go (sound.phased its pops.there);
        carries = record { runnable = sound.runnable; hand = sound.hand; loot = sound.loot; genuine = sound.genuine; stolen = sound.stolen; searching = tt; pooled = λ is. sound.pooled refl; serves = tt; calm = sound.calm; left = sound.left; told = sound.told };
      }) moves
  none_popped AfterPop.Discard pops set goes moves =
      let sound = pops.sound in
      let d : Drain = drain_by w.index (shard_count s.config) in
      let next = Place.Closing (InClosing.Visit d) in
      stays AfterPop.Discard next pops set goes
      (record {
        same = refl;
        quiet = λ h. sound.quiet refl;
        around = around_own next w s s' its its.queue pops.there set sound.seated pops.held tt sound.batch (sound.batch_place its pops.there) sound.lets_go (phased_drain (stage_of its s) d w s (drains w s sound.shards) (sound.phased its pops.there));
        carries = record { runnable = sound.runnable; hand = sound.hand; loot = sound.loot; genuine = sound.genuine; stolen = sound.stolen; searching = sound.searching; pooled = λ is. sound.pooled refl; serves = tt; calm = sound.calm; left = sound.left; told = sound.told };
      }) moves

  -- to another step of the pop
  pub pops_on : (b : AfterPop) (y : InPop) → Pops b → HasQueue (Place.Pop y b) its.queue → s'.seats.items ≡ slice_set s.seats.items w.index its → w' ≡ record w { place = Place.Pop y b } → Moving b (turns (Place.Pop y b) (desk_of w) (queue_seen its.queue)) → Steps left spot w s e w' s'
  pops_on (AfterPop.Pick f) y pops queue set goes moves =
      let sound = pops.sound in
      let next = Place.Pop y (AfterPop.Pick f) in
      stays (AfterPop.Pick f) next pops set goes
      (record {
        same = refl;
        quiet = λ h. sound.quiet refl;
        around = around_own next w s s' its its.queue pops.there set sound.seated queue tt sound.batch (sound.batch_place its pops.there) sound.lets_go (sound.phased its pops.there);
        carries = record { runnable = sound.runnable; hand = sound.hand; loot = sound.loot; genuine = sound.genuine; stolen = sound.stolen; searching = tt; pooled = λ is. sound.pooled refl; serves = tt; calm = sound.calm; left = sound.left; told = sound.told };
      }) moves
  pops_on AfterPop.Discard y pops queue set goes moves =
      let sound = pops.sound in
      let next = Place.Pop y AfterPop.Discard in
      stays AfterPop.Discard next pops set goes
      (record {
        same = refl;
        quiet = λ h. sound.quiet refl;
        around = around_own next w s s' its its.queue pops.there set sound.seated queue tt sound.batch (sound.batch_place its pops.there) sound.lets_go (sound.phased its pops.there);
        carries = record { runnable = sound.runnable; hand = sound.hand; loot = sound.loot; genuine = sound.genuine; stolen = sound.stolen; searching = sound.searching; pooled = λ is. sound.pooled refl; serves = tt; calm = sound.calm; left = sound.left; told = sound.told };
      }) moves

  -- by the head that was found
  pub judged : (b : AfterPop) → Pops b → s'.seats.items ≡ slice_set s.seats.items w.index its → w' ≡ with_judged s.config b its.queue w
      → Moving b (turns (judge_pop s.config w.index b (head_of its.queue) (tail_of its.queue - its.queue.real)) (desk_of w) (queue_seen its.queue)) → Steps left spot w s e w' s'
  judged b pops set goes moves = by (n == 0) refl goes moves
    where
      n : ℕ
      n = tail_of its.queue - its.queue.real

      h : Head
      h = head_of its.queue

      to : Bool → Bool → Place
      to none one = if none then after_empty_pop s.config w.index b else (if one then Place.Pop InPop.StorePop b else Place.Pop (InPop.ExchangePop h) b)

      by_two : (one : Bool) → (n == 0) ≡ false → ((n == 1) && (h.gap == 0)) ≡ one → w' ≡ record w { place = to false one } → Moving b (turns (to false one) (desk_of w) (queue_seen its.queue)) → Steps left spot w s e w' s'
      by_two true some is goes moves =
          let parts = and_parts (n == 1) (h.gap == 0) is in
          let one : length its.queue.values ≡ 1 = sym (behind its.queue.real (length its.queue.values)) ∙ same_number n 1 parts.0 in
          let gap : its.queue.gap ≡ 0 = same_number its.queue.gap 0 parts.1 in
          pops_on b InPop.StorePop pops (pops.held, one, gap) set goes moves
      by_two false some is goes moves =
          let more : 0 < length its.queue.values = subst (λ k. 0 < k) (behind its.queue.real (length its.queue.values)) (not_none n some) in
          pops_on b (InPop.ExchangePop h) pops (pops.held, more_than its.queue.real (length its.queue.values) more) set goes moves

      by : (none : Bool) → (n == 0) ≡ none → w' ≡ record w { place = to none ((n == 1) && (h.gap == 0)) } → Moving b (turns (to none ((n == 1) && (h.gap == 0))) (desk_of w) (queue_seen its.queue)) → Steps left spot w s e w' s'
      by true is goes moves = none_popped b pops set goes moves
      by false is goes moves = by_two ((n == 1) && (h.gap == 0)) is refl goes moves

  -- Wpops.there THE OLDEST VALUE IS POPPED
  pub some_popped : (b : AfterPop) (r : Runnable) (rs : List Runnable) → Pops b → HasWhole w s → its.queue.values ≡ r ∷ rs → s'.seats.items ≡ slice_set s.seats.items w.index (record its { queue = popped its.queue }) → w' ≡ with_popped s.config b (Some r) w
      → Moving b (does Turn (after_pop s.config b r.task.0 (desk_of w)) (queue_seen (popped its.queue))) → Steps left spot w s e w' s'
  some_popped b r rs pops has is set goes moves = by b pops goes moves
    where
      y : Queue Runnable
      y = popped its.queue

      sound : SoundAt (Place.Pop x b) w s
      sound = pops.sound

      genuine : IsGenuine s.tasks.items r
      genuine =
          let first : Contains ((r ∷ rs) ++ its.queue.held) r = (0, omega arith, refl) in
          has.whole.queued_here w.index its r pops.there (subst (λ xs. Contains (xs ++ its.queue.held) r) (sym is) first)

      left_over : y.values ≡ rs
      left_over = ap (drop 1) is

      grows : tail_of its.queue ≤ tail_of y
      grows = omega (arith, ap length is, ap length left_over)

      older : (t : Runnable) → Contains (y.values ++ y.held) t → Contains (queued its) t ⊎ IsGenuine s.tasks.items t
      older t has_t =
          let in_rs : Contains (rs ++ its.queue.held) t = subst (λ xs. Contains (xs ++ its.queue.held) t) left_over has_t in
          let behind : Contains ((r ∷ []) ++ (rs ++ its.queue.held)) t = Contains-append_right (r ∷ []) (rs ++ its.queue.held) t in_rs in
          inl (subst (λ xs. Contains (xs ++ its.queue.held) t) (sym is) behind)

      -- with it in the hand
      in_hand : (v : Worker) → v.hand ≡ Some r → w.hand ≡ None → v.loot ≡ w.loot → (t : ℕ) → runnables_in t (hands_of v) + runnables_in t (y.values ++ y.held) ≡ runnables_in t (hands_of w) + runnables_in t (queued its)
      in_hand v hand none loot t =
          let mine : runnables_in t (hands_of v) ≡ runnables_in t (r ∷ []) + runnables_in t w.loot.values = ap (λ o. runnables_in t (option_to_list o ++ v.loot.values)) hand ∙ ap (λ l. runnables_in t ((r ∷ []) ++ l.values)) loot ∙ in_both t (r ∷ []) w.loot.values in
          let was : runnables_in t (hands_of w) ≡ runnables_in t w.loot.values = ap (λ o. runnables_in t (option_to_list o ++ w.loot.values)) none in
          let had : runnables_in t (queued its) ≡ runnables_in t (r ∷ []) + runnables_in t (rs ++ its.queue.held) = ap (λ xs. runnables_in t (xs ++ its.queue.held)) is ∙ in_both t (r ∷ []) (rs ++ its.queue.held) in
          let has_now : runnables_in t (y.values ++ y.held) ≡ runnables_in t (rs ++ its.queue.held) = ap (λ xs. runnables_in t (xs ++ its.queue.held)) left_over in
          omega (arith, mine, was, had, has_now)

      by : (b : AfterPop) → Pops b → w' ≡ with_popped s.config b (Some r) w → Moving b (does Turn (after_pop s.config b r.task.0 (desk_of w)) (queue_seen y)) → Steps left spot w s e w' s'
      by (AfterPop.Pick f) pops goes moves =
          let q = Place.Pop x (AfterPop.Pick f) in
          let w1 : Worker = polling r w in
          let sound = pops.sound in
          let next = Place.Poll r.task.0 InPoll.BeginPoll in
          let around : Around next w s s' = around_own next w s s' its y pops.there set sound.seated pops.held tt sound.batch (sound.batch_place its pops.there) sound.lets_go (sound.phased its pops.there) in
          let to : Reaches q w1.place w w1 s s' = begins_poll q r w w1 s s' sound refl refl refl refl refl refl (no_root q w s r sound genuine sound.runnable) (inr genuine) (λ other. sound.pooled refl) sound.told around in
          subst (λ v. Steps left spot w s e v s') (sym goes)
          (requeued_own left spot its y q w w1 s s' e sound pops.turn (record { same = refl; read = sound.time.read; asleep = sound.time.asleep }) pops.kept pops.there set grows refl refl to
          (λ others before. whole_queued others w.index its y w w1 s s' pops.kept pops.there set (hands_own w.index its.queue y w w1 (poses q w w1 s sound to.same refl refl (record { batch = refl; letters = refl; left = refl })) (in_hand w1 refl sound.hand refl) (gap_popped its.queue.gap)) older before)
          moves)
      by AfterPop.Discard pops goes moves =
          let q = Place.Pop x AfterPop.Discard in
          let next = first_pop s.config AfterPop.Discard in
          let w1 : Worker = record w { place = next } in
          let w2 : Worker = record w { place = next; hand = Some r } in
          let sound = pops.sound in
          let same : still_of next ≡ still_of q = if_either (λ z. still_of z ≡ still_of q) (has_others s.config) (Place.Pop InPop.LoadPopHead AfterPop.Discard) (Place.Pop InPop.PopAlone AfterPop.Discard) refl refl in
          let carries : (z : InPop) → Carries (Place.Pop z AfterPop.Discard) w w1 s = λ z. record { runnable = sound.runnable; hand = sound.hand; loot = sound.loot; genuine = sound.genuine; stolen = sound.stolen; searching = sound.searching; pooled = λ is. sound.pooled refl; serves = tt; calm = sound.calm; left = sound.left; told = sound.told } in
          let to_alone : Reaches q (Place.Pop InPop.PopAlone AfterPop.Discard) w w1 s s' = record { same = refl; quiet = λ h. sound.quiet refl; around = around_own (Place.Pop InPop.PopAlone AfterPop.Discard) w s s' its y pops.there set sound.seated pops.held tt sound.batch (sound.batch_place its pops.there) sound.lets_go (sound.phased its pops.there); carries = carries InPop.PopAlone } in
          let to_head : Reaches q (Place.Pop InPop.LoadPopHead AfterPop.Discard) w w1 s s' = record { same = refl; quiet = λ h. sound.quiet refl; around = around_own (Place.Pop InPop.LoadPopHead AfterPop.Discard) w s s' its y pops.there set sound.seated pops.held tt sound.batch (sound.batch_place its pops.there) sound.lets_go (sound.phased its pops.there); carries = carries InPop.LoadPopHead } in
          let to : Reaches q next w w1 s s' = if_either (λ z. Reaches q z w w1 s s') (has_others s.config) (Place.Pop InPop.LoadPopHead AfterPop.Discard) (Place.Pop InPop.PopAlone AfterPop.Discard) to_head to_alone in
          let gone : may_let_go s' ≡ true = or_left s'.set.closed s'.global.closed (ap (λ (z : Shared B). z.set.closed) pops.kept ∙ set_closed x AfterPop.Discard w s sound refl) in
          let whole : (others : Profile) → IsWhole (with_worker others w) s → IsWhole (with_worker others w1) s' =
          λ others before.
          let held : IsWhole (with_worker others w2) s' = whole_queued others w.index its y w w2 s s' pops.kept pops.there set (hands_own w.index its.queue y w w2 (poses q w w2 s sound same refl refl (record { batch = refl; letters = refl; left = refl })) (in_hand w2 refl sound.hand refl) (gap_popped its.queue.gap)) older before in
          whole_handed others w2 w1 s' s'.global refl refl (record { polls = refl; claims = refl; searching = refl; counts = refl; index = refl; published = refl; drops = refl; told = (record { batch = refl; letters = refl; left = refl }) })
          (λ t slot found home one. has_fewer (may_let_go s') slot.cell.phase ((others.runnables t + runnables_in t (hands_of w2)) + stock t s') ((others.runnables t + runnables_in t (hands_of w1)) + stock t s') gone (fewer t (others.runnables t) (stock t s') sound.hand) one)
          (λ t more. fewer t (others.runnables t) (stock t s') sound.hand) held.queued_there held in
          subst (λ v. Steps left spot w s e v s') (sym goes)
          (requeued_own left spot its y q w w1 s s' e sound pops.turn (record { same = refl; read = sound.time.read; asleep = sound.time.asleep }) pops.kept pops.there set grows refl refl to whole moves)
        where
          -- without it in the hand
          fewer : (t a c : ℕ) → w.hand ≡ None → (a + runnables_in t (option_to_list w.hand ++ w.loot.values)) + c ≤ (a + runnables_in t ((r ∷ []) ++ w.loot.values)) + c
          fewer t a c none =
              let one : runnables_in t ((r ∷ []) ++ w.loot.values) ≡ runnables_in t (r ∷ []) + runnables_in t w.loot.values = in_both t (r ∷ []) w.loot.values in
              let was : runnables_in t (option_to_list w.hand ++ w.loot.values) ≡ runnables_in t w.loot.values = ap (λ o. runnables_in t (option_to_list o ++ w.loot.values)) none in
              omega (arith, one, was)

module _ {B L : Type 0} (left : B → L) (spot : L → Option Said → Spot) (w w' : Worker) (s s' : Shared B) (e : Event) where
  pub alone_popped : (b : AfterPop) → SoundAt (Place.Pop InPop.PopAlone b) w s → HasWhole w s → e ≡ Turn → OfChair w.index s (λ chair. w' ≡ with_popped s.config b (slice_get chair.queue.values 0) w)
      → TurnsChair w.index (λ chair. record chair { queue = popped_if_any chair.queue }) s s' → s' ≡ record s { seats = s'.seats } → Steps left spot w s e w' s'
  alone_popped b sound has turn worker chair kept = by its.queue.values refl
    where
      its : Chair
      its = sound.seated.seat

      there : slice_get s.seats.items w.index ≡ Some its
      there = sound.seated.there

      pops_it : Pops left spot InPop.PopAlone w w' s s' e its b
      pops_it = record { sound = sound; there = there; held = sound.queue its there; turn = turn; kept = kept }

      seen : pops s.config w.index b (desk_of w) (queue_of (things_of s) w.index) ≡ pops s.config w.index b (desk_of w) (queue_seen its.queue)
      seen = ap (pops s.config w.index b (desk_of w)) (own_queue_seen w.index s its there)

      by : (xs : List Runnable) → its.queue.values ≡ xs → Steps left spot w s e w' s'
      by [] is =
          none_popped left spot InPop.PopAlone w w' s s' e its b pops_it
          (subst (λ (xs : List Runnable). s'.seats.items ≡ slice_set s.seats.items w.index (record its { queue = popped_if (not (is_empty xs)) its.queue })) is (chair its there))
          (subst (λ (xs : List Runnable). w' ≡ with_popped s.config b (slice_get xs 0) w) is (worker its there))
          (λ p vs suits. seen_by w s vs p (λ c. pops c w.index b (desk_of w) (queue_of (things_of s) w.index)) (turns (after_empty_pop s.config w.index b) (desk_of w) (queue_seen its.queue)) suits.config (seen ∙ pops_none s.config w.index b (desk_of w) its.queue is))
      by (r ∷ rs) is =
          some_popped left spot InPop.PopAlone w w' s s' e its b r rs pops_it has is
          (subst (λ (xs : List Runnable). s'.seats.items ≡ slice_set s.seats.items w.index (record its { queue = popped_if (not (is_empty xs)) its.queue })) is (chair its there))
          (subst (λ (xs : List Runnable). w' ≡ with_popped s.config b (slice_get xs 0) w) is (worker its there))
          (λ p vs suits. seen_by w s vs p (λ c. pops c w.index b (desk_of w) (queue_of (things_of s) w.index)) (does Turn (after_pop s.config b r.task.0 (desk_of w)) (queue_seen (popped its.queue))) suits.config (seen ∙ pops_some s.config w.index b (desk_of w) its.queue r rs is))

  pub pop_head_loaded : (b : AfterPop) → SoundAt (Place.Pop InPop.LoadPopHead b) w s → e ≡ Turn → OfChair w.index s (λ chair. w' ≡ with_judged s.config b chair.queue w) → s' ≡ s → Steps left spot w s e w' s'
  pop_head_loaded b sound turn worker same =
      let its : Chair = sound.seated.seat in
      let there = sound.seated.there in
      let kept : s' ≡ record s { seats = s'.seats } = subst (λ (z : Shared B). z ≡ record s { seats = z.seats }) (sym same) refl in
      judged left spot InPop.LoadPopHead w w' s s' e its b (record { sound = sound; there = there; held = sound.queue its there; turn = turn; kept = kept })
      (ap (λ (z : Shared B). z.seats.items) same ∙ sym (set_found s.seats.items w.index its there)) (worker its there)
      (λ p vs suits. seen_by w s vs p (λ c. load_pop_head c w.index b (desk_of w) (queue_of (things_of s) w.index)) (turns (judge_pop s.config w.index b (head_of its.queue) (tail_of its.queue - its.queue.real)) (desk_of w) (queue_seen its.queue)) suits.config
      (ap (load_pop_head s.config w.index b (desk_of w)) (own_queue_seen w.index s its there) ∙ loads_seen s.config w.index b (desk_of w) its.queue))

  pub pop_exchanged : (b : AfterPop) (h : Head) → SoundAt (Place.Pop (InPop.ExchangePop h) b) w s → HasWhole w s → e ≡ Turn → OfChair w.index s (λ chair. w' ≡ with_exchanged (same_head h (head_of chair.queue)) s.config b chair.queue w)
      → TurnsChair w.index (λ chair. record chair { queue = popped_if (same_head h (head_of chair.queue)) chair.queue }) s s' → s' ≡ record s { seats = s'.seats } → Steps left spot w s e w' s'
  pop_exchanged b h sound has turn worker chair kept = by (same_head h (head_of its.queue)) refl (worker its there) (chair its there)
    where
      its : Chair
      its = sound.seated.seat

      there : slice_get s.seats.items w.index ≡ Some its
      there = sound.seated.there

      x : InPop
      x = InPop.ExchangePop h

      pops_it : Pops left spot x w w' s s' e its b
      pops_it = record { sound = sound; there = there; held = (sound.queue its there).0; turn = turn; kept = kept }

      f : Configuration → Moved (Queue ℕ)
      f c = exchange_pop c w.index b h (desk_of w) (queue_of (things_of s) w.index)

      seen : f s.config ≡ exchange_pop s.config w.index b h (desk_of w) (queue_seen its.queue)
      seen = ap (exchange_pop s.config w.index b h (desk_of w)) (own_queue_seen w.index s its there)

      exchanges : (xs : List Runnable) → its.queue.values ≡ xs → same_head h (head_of its.queue) ≡ true → w' ≡ with_popped s.config b (slice_get its.queue.values 0) w → s'.seats.items ≡ slice_set s.seats.items w.index (record its { queue = popped its.queue }) → Steps left spot w s e w' s'
      exchanges [] none is goes set = absurd (omega (arith, (sound.queue its there).1, (same_heads h (head_of its.queue) is).0, ap length none))
      exchanges (r ∷ rs) some is goes set =
          some_popped left spot x w w' s s' e its b r rs pops_it has some set (subst (λ (xs : List Runnable). w' ≡ with_popped s.config b (slice_get xs 0) w) some goes)
          (λ p vs suits. seen_by w s vs p f (does Turn (after_pop s.config b r.task.0 (desk_of w)) (queue_seen (popped its.queue))) suits.config (seen ∙ rw is (pops_some s.config w.index b (desk_of w) its.queue r rs some)))

      by : (same : Bool) → same_head h (head_of its.queue) ≡ same → w' ≡ with_exchanged same s.config b its.queue w → s'.seats.items ≡ slice_set s.seats.items w.index (record its { queue = popped_if same its.queue }) → Steps left spot w s e w' s'
      by true is goes set = exchanges its.queue.values refl is goes set
      by false is goes set =
          judged left spot x w w' s s' e its b pops_it set goes
          (λ p vs suits. seen_by w s vs p f (turns (judge_pop s.config w.index b (head_of its.queue) (tail_of its.queue - its.queue.real)) (desk_of w) (queue_seen its.queue)) suits.config (seen ∙ rw is (loads_seen s.config w.index b (desk_of w) its.queue)))

  pub pop_stored : (b : AfterPop) → SoundAt (Place.Pop InPop.StorePop b) w s → HasWhole w s → e ≡ Turn → OfChair w.index s (λ chair. w' ≡ with_popped s.config b (slice_get chair.queue.values 0) w)
      → TurnsChair w.index (λ chair. record chair { queue = popped chair.queue }) s s' → s' ≡ record s { seats = s'.seats } → Steps left spot w s e w' s'
  pop_stored b sound has turn worker chair kept = by its.queue.values refl
    where
      its : Chair
      its = sound.seated.seat

      there : slice_get s.seats.items w.index ≡ Some its
      there = sound.seated.there

      by : (xs : List Runnable) → its.queue.values ≡ xs → Steps left spot w s e w' s'
      by [] is = absurd (omega (arith, (sound.queue its there).1, ap length is))
      by (r ∷ rs) is =
          some_popped left spot InPop.StorePop w w' s s' e its b r rs (record { sound = sound; there = there; held = (sound.queue its there).0; turn = turn; kept = kept }) has is (chair its there)
          (subst (λ (xs : List Runnable). w' ≡ with_popped s.config b (slice_get xs 0) w) is (worker its there))
          (λ p vs suits. seen_by w s vs p (λ c. pops c w.index b (desk_of w) (queue_of (things_of s) w.index)) (does Turn (after_pop s.config b r.task.0 (desk_of w)) (queue_seen (popped its.queue))) suits.config
          (ap (pops s.config w.index b (desk_of w)) (own_queue_seen w.index s its there) ∙ pops_some s.config w.index b (desk_of w) its.queue r rs is))
