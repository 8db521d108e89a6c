-- The act by which a task makes a task with a worker of its own: the whole step.
use Rattle.std.{proofs.{Common.{[], ◌≡◌, inl, inr, ℕ, zero, suc, ◌+◌, ◌<◌, ◌≤◌, ◌^◌, arith, true, false, List, ◌∷◌, ◌++◌, length, Option, Some, None, refl, sym, ap, subst, ◌∙◌, slice_get, slice_set}, lemmas.{List.{length-append, length-set, set-set}, Option.{slice_get_within}}}, specs.Vec.with_item}
use Rattle.exec_base.specs.declared.{error.Error.Error, task_no.TaskNo.TaskNo}
use Rattle.exec_task.specs.{Phases.{is_polled, runnable_of}, Sight.Sight, declared.{body.{Act.Act, Said.Said}}}
use Rattle.exec_machine.specs.{Choice.Choice.Plain, declared.{config.{ScriptWord.ScriptWord}, event.Event.Event, state.{Waiting.Waiting}}, Mail.meets_closed, Progress.Plan, Tasks.{new_own}, Words.{moved_on}, World.{task_of}}
use Rattle.exec_ring.specs.Stores.{Same as SameStore}
use Rattle.exec_moves.specs.{Plays.first_desk, declared.place.{InPoll.InPoll, Place.Place}}
use Rattle.exec_parts.{specs.{Records.numbers_held, declared.parts.{nursery.Nursery.Nursery, role.Role.Role, shared.Shared.Shared, task_slot.TaskSlot.TaskSlot, worker.Worker.Worker}, Dedicated.{Begins as BeginsWorker, Dedicates, DedicatesIf, DedicatesNone, MakesDedicated, RefusesDedicated, root_slot}, Phased.is_complete, Roles.MayBegin, Scripts.{GoesOn, held_after, IsAnswer, IsAnswered, IsBorn, MayRunScript}, Spots.{Spot, spot_of}, View.{Views, common_of, desk_of, own_of, seats_seen, task_seen, things_with, visible}, Things.TurnsSlot}, proofs.Facts.{same_Some, set_there}}
use Rattle.exec_invariants.{specs.{Acting.{ActsAs, HasActed, Performs, PerformsAll, StepsOf, StepsWith}, Sound.SoundAt, Whole.HasWhole, Works.{Beside, Same}}, proofs.{Acting.{Leaves, act_leaves, acted, actor, acts_so, by_word, me_at, moved_seen, tells_on}, Performing.{same_slot, still_performs, unmoved_seen}, Slots.{IsEvent, task_there}}}
use Rattle.exec_polling.proofs.{DedicatedHolds.{newcomer_sound, sound_grown, whole_with}, DedicatedWorks.{closed_move, dedicated_works, root_seen}, Begun.{desk_begun, fresh_visible, own_begun, visible_begun}, DedicatedJoins.{JoinsRoot, more_seats, spares_grown}, SpawnLists.{found_again, found_which, set_within}, Stirred.spares_on}

-- WHAT THE NEW TASK PERFORMS

may_run : (n i : ℕ) → 0 < n → n ≤ i → MayRunScript n (Some i)
may_run n zero some few = absurd (omega (arith, some, few))
may_run n (suc i) some few = few

module _ {B L : Type 0} (left : B → L) (runs : L → Plan → Option ℕ → Type 0) (holds : L → Option Said → List ℕ) (spot : L → Option Said → Spot) where
  performs_root : (p : Plan) (k i owner : ℕ) (body : B) (number : TaskNo) (new : TaskSlot B) → new ≡ root_slot number owner i body new → new.held.items ≡ [] → MayRunScript p.config.workers (Some i) → IsBorn runs holds spot p k (left body) → Performs left runs holds p new
  performs_root = grind arith

  performs_rooted : (p : Plan) (s s' : Shared B) → (it : JoinsRoot s s') → Performs left runs holds p it.new → PerformsAll left runs holds p s → PerformsAll left runs holds p s'
  performs_rooted p s s' it performs fits n o found = elim (found_which s.tasks.items it.new o n (ap (λ xs. slice_get xs n) (sym it.items) ∙ found)) [ inl old ↦ fits n o old | inr new ↦ subst (Performs left runs holds p) new.1 performs ]

module _ {B L : Type 0} (left : B → L) (runs : L → Plan → Option ℕ → Type 0) (holds : L → Option Said → List ℕ) (spot : L → Option Said → Spot) (gives : L → Option Sight → Said → Act B → L → Option Sight → Type 0) where
  -- a task goes on that was told so of the one that it wanted
  performs_told : (p : Plan) (slot : TaskSlot B) (b' body : B) (x : Said) → IsAnswer (Act.Dedicated body) x → is_polled slot.cell.phase ≡ true → slot.waiting ≡ Waiting.Nothing → held_after (Act.Dedicated body) x (numbers_held slot.held.items) ≡ (numbers_held slot.held.items)
      → GoesOn runs holds spot gives p (task_seen left spot slot) (Act.Dedicated body) (left b') → Performs left runs holds p (record slot { body = Some b'; told = Some x })
  performs_told = grind arith

-- THE WHOLE STEP

module _ {B L : Type 0} (left : B → L) (runs : L → Plan → Option ℕ → Type 0) (holds : L → Option Said → List ℕ) (spot : L → Option Said → Spot) (gives : L → Option Sight → Said → Act B → L → Option Sight → Type 0) where
  pub may_begin : (t : ℕ) (w : Worker) (s s1 : Shared B) (a : Act B) → HasActed left runs holds spot gives t w s s1 a → MayBegin s1.config
  may_begin t w s s1 a h = subst (λ (x : Shared B). MayBegin x.config) (sym h.made.kept) h.sound.config.begins

  module _ (answered : IsAnswered spot) (t : ℕ) (body : B) (w w' : Worker) (s s1 s' : Shared B) (n n' : Nursery) (h : HasActed left runs holds spot gives t w s s1 (Act.Dedicated body)) where
    abbrev slot : TaskSlot B
    slot = h.made.slot

    abbrev b' : B
    b' = h.made.acts.body'

    acted_there : slice_get s1.tasks.items t ≡ Some h.made.slot'
    acted_there = ap (λ ts. slice_get ts t) h.made.tasks ∙ set_there s.tasks.items t h.made.slot' slot h.made.there

    -- what is as it was before the act
    count : length s1.tasks.items ≡ length s.tasks.items
    count = ap length h.made.tasks ∙ length-set s.tasks.items t h.made.slot'

    -- THE SET IS OPEN

    module _ (e : Event) (it : Dedicates t body w w' s1 s' n n' e) where
      abbrev makes : MakesDedicated body s1 it.middle n n' it.number
      makes = it.makes

      abbrev said : Said
      said = Said.Spawned it.number

      abbrev mid : TaskSlot B
      mid = record slot { body = Some b'; told = Some said }

      -- once the task was told so, and before the other one is there
      abbrev only_told : Shared B
      only_told = record s { tasks = with_item s.tasks t mid }

      told_slot : record h.made.slot' { told = Some said } ≡ mid
      told_slot = ap (λ (y : TaskSlot B). record y { told = Some said }) h.made.acts.slot

      turns : TurnsSlot t s1 only_told (λ o. record o { told = Some said })
      turns = record { kept = sym (ap (λ (x : Shared B). record x { tasks = with_item s.tasks t mid }) h.made.kept); tasks = grind (arith, same_Some, acted_there, set-set) }

      items_then : s'.tasks.items ≡ slice_set s.tasks.items t mid ++ makes.slot ∷ []
      items_then =
          let few : t < length s1.tasks.items = slice_get_within s1.tasks.items t h.made.slot' acted_there in
          let there : slice_get it.middle.tasks.items t ≡ Some h.made.slot' = ap (λ ts. slice_get ts t) makes.tasks ∙ found_again s1.tasks.items (makes.slot ∷ []) t h.made.slot' acted_there in
          it.told.tasks h.made.slot' there
          ∙ ap (slice_set it.middle.tasks.items t) told_slot
          ∙ ap (λ ts. slice_set ts t mid) makes.tasks
          ∙ set_within s1.tasks.items makes.slot mid t few
          ∙ ap (λ ts. slice_set ts t mid ++ makes.slot ∷ []) h.made.tasks
          ∙ ap (λ ts. ts ++ makes.slot ∷ []) (set-set s.tasks.items t h.made.slot' mid)

      unclosed : s.set.closed ≡ false
      unclosed = ap (λ (x : Shared B). x.set.closed) (sym h.made.kept) ∙ it.open_still

      grown_kept : s' ≡ record s { seats = it.middle.seats; tasks = s'.tasks; global = record s.global { places = it.middle.global.places }; store = it.middle.store }
      grown_kept = grind (arith, it.told.kept, makes.kept, h.made.kept)

      seats_kept : s'.seats ≡ it.middle.seats
      seats_kept = ap (λ (x : Shared B). x.seats) grown_kept

      same_places : s'.global.places ≡ it.middle.global.places
      same_places = ap (λ (x : Shared B). x.global.places) grown_kept

      same_store : s'.store ≡ it.middle.store
      same_store = ap (λ (x : Shared B). x.store) grown_kept

      seats_before : s1.seats.items ≡ s.seats.items
      seats_before = ap (λ (x : Shared B). x.seats.items) h.made.kept

      store_before : s1.store ≡ s.store
      store_before = ap (λ (x : Shared B). x.store) h.made.kept

      told_count : length only_told.tasks.items ≡ length s.tasks.items
      told_count = length-set s.tasks.items t mid

      is_root : makes.slot ≡ root_slot (record { 0 = length only_told.tasks.items }) s1.set.id (length s.seats.items) body makes.slot
      is_root = grind (arith, makes.made, makes.is, count, told_count, seats_before)

      abbrev joins : JoinsRoot only_told s'
      joins =
          let many : length s'.tasks.items ≡ length it.middle.tasks.items = grind (arith, items_then, told_count, count, makes.tasks, length-append) in
          let more : length it.middle.tasks.items ≡ length s1.tasks.items + 1 = ap length makes.tasks ∙ length-append s1.tasks.items (makes.slot ∷ []) in
          record {
            new = makes.slot;
            items = items_then;
            home = ap (λ (o : TaskSlot B). o.home) is_root;
            number = ap (λ (o : TaskSlot B). o.cell.number) is_root;
            going = ap (λ (o : TaskSlot B). is_complete o.cell.phase) is_root;
            held = makes.held;
            waits = ap (λ (o : TaskSlot B). o.waiting) is_root;
            chair = makes.chair;
            fresh = makes.fresh;
            seats = ap (λ xs. xs.items) seats_kept ∙ makes.seats ∙ ap (λ xs. xs ++ makes.chair ∷ []) seats_before;
            places = omega (arith, many, makes.places, same_places);
            few = (let few = makes.few in omega (arith, many, more, few));
            store = subst (λ x. SameStore s.store x) (sym same_store) (subst (λ x. SameStore x it.middle.store) store_before makes.store);
            kept = grind (arith, grown_kept, seats_kept, same_places, same_store);
          }

      abbrev v : Worker
      v = makes.born

      begins : BeginsWorker s.config Role.Dedicated (length s.seats.items) (length only_told.tasks.items) (runnable_of makes.slot.cell) s.clock v
      begins =
          subst (λ (x : Shared B). BeginsWorker x.config Role.Dedicated (length x.seats.items) (length only_told.tasks.items) (runnable_of makes.slot.cell) x.clock v) h.made.kept
          (subst (λ k. BeginsWorker s1.config Role.Dedicated (length s1.seats.items) k (runnable_of makes.slot.cell) s1.clock v) (count ∙ sym told_count) makes.begins)

      pub dedicated_open : HasWhole w s → StepsWith left runs holds spot (Some makes.born) w s e w' s'
      dedicated_open has =
          let i : ℕ = length s.seats.items in
          let who = actor left runs holds spot gives t w s s1 (Act.Dedicated body) h in
          let leaves : Leaves left runs holds spot gives t InPoll.Act w s only_told mid =
          act_leaves left runs holds spot gives t InPoll.Act w s s1 only_told (Act.Dedicated body) (λ o. record o { told = Some said }) h (tells_on t slot b' said who.polled who.waits) turns in
          let still : record w { place = Place.Poll t InPoll.Act; root_ready = w.root_ready; hand = None } ≡ w =
          ap (λ o. record w { place = Place.Poll t InPoll.Act; hand = o }) (sym h.sound.hand) ∙ ap (λ y. record w { place = y }) (sym h.sound.here) in
          let sound : SoundAt (Place.Poll t InPoll.Act) w only_told = subst (λ x. SoundAt (Place.Poll t InPoll.Act) x only_told) still leaves.sound in
          let one : Beside w s w only_told = subst (λ x. Beside w s x only_told) still leaves.beside in
          let told_whole : HasWhole w only_told = record { others = has.others; whole = one.whole has.others has.whole; few = has.few } in
          let lead : w' ≡ w = it.worker ∙ ap (λ y. record w { place = y }) (sym h.sound.here) in
          let past : s.config.workers ≤ i = h.sound.homes.many in
          let number : v.root ≡ length s.tasks.items = ap (λ (x : Worker). x.root) begins.parts ∙ told_count in
          let last : v.index ≡ i = ap (λ (x : Worker). x.index) begins.parts in
          let event : e ≡ Event.Dedicated (length s.tasks.items) i = it.event_is ∙ ap (λ k. Event.Dedicated k (length s1.seats.items)) count ∙ ap (λ xs. Event.Dedicated (length s.tasks.items) (length xs)) seats_before in
          let many : length s'.seats.items ≡ suc i = more_seats only_told s' joins in
          let few_seats : length s.seats.items + 1 < 2 ^ 32 = subst (λ xs. length xs + 1 < 2 ^ 32) seats_before makes.few_seats in
          let shows : visible v ≡ fresh_visible = visible_begun s.config Role.Dedicated i (length only_told.tasks.items) (runnable_of makes.slot.cell) s.clock v begins h.sound.config.begins in
          let own : own_of v ≡ new_own s.clock (length only_told.tasks.items) = own_begun s.config Role.Dedicated i (length only_told.tasks.items) (runnable_of makes.slot.cell) s.clock v begins h.sound.config.begins in
          let desk : desk_of v ≡ first_desk s.config i = desk_begun s.config Role.Dedicated i (length only_told.tasks.items) (runnable_of makes.slot.cell) s.clock v begins h.sound.config.begins in
          let rooted : (p : Plan) (k : ℕ) → s.config ≡ p.config → IsBorn runs holds spot p k (left body) → Performs left runs holds p makes.slot = grind (arith, performs_root, is_root, may_run, past) in
          let done : StepsWith left runs holds spot (Some v) w s (Event.Dedicated (length s.tasks.items) i) w s' = (
            (λ p vs suits fits.
                let so = h.asks p vs (fits t slot h.made.there) in
                let all = common_of left spot p vs s in
                let k = so.asks.0 in
                let word = so.asks.1 in
                let born = so.makes k word in
                let on : spot (left b') (Some said) ≡ spot_of (moved_on all (task_seen left spot slot)) = answered (left b') said (λ never. absurd (cc)) ∙ so.stands in
                dedicated_works left spot t w v s only_told s' slot mid joins h.made.there who.waits refl refl shows h.sound.here unclosed k p vs suits word
                (root_seen left spot body (record { 0 = length only_told.tasks.items }) s1.set.id i k makes.slot is_root makes.held born.begins)
                (sym (moved_seen left spot all slot b' (Some said) who.polled on))),
            subst (λ y. SoundAt y w s') (sym h.sound.here) (sound_grown t w only_told s' joins sound),
            record {
              root = refl;
              config = ap (λ (y : Shared B). y.config) grown_kept;
              performs = λ p is fits.
                  let so = h.asks p (record { workers = []; calls = [] }) (fits t slot h.made.there) in
                  performs_rooted left runs holds spot p only_told s' joins (rooted p so.asks.0 is (so.makes so.asks.0 so.asks.1))
                  ((still_performs left runs holds t w w s only_told slot mid h.made.there refl refl refl
                  (λ p' fits'. performs_told left runs holds spot gives p' slot b' body said tt who.polled who.waits refl ((h.asks p' (record { workers = []; calls = [] }) fits').goes_on refl))).performs p is fits);
            },
            record {
              tells = ap (λ k. Event.Dedicated k i) (sym number) ∙ ap (Event.Dedicated v.root) (sym last);
              own = own ∙ ap (new_own s.clock) (sym (ap (λ (x : Worker). x.root) begins.parts));
              desk = desk ∙ ap (first_desk s.config) (sym last);
              spares = λ j apart. spares_on true j s only_told s' (one.spares j apart) (spares_grown only_told s' joins j);
              whole = λ others whole. whole_with t w only_told s' joins sound v body s1.set.id begins is_root few_seats told_whole others (one.whole others whole);
              last = last;
              root = number;
              many = many;
              few = (let few = makes.few_seats in omega (arith, many, few, ap length seats_before));
              sound = newcomer_sound t w only_told s' joins sound v body s1.set.id begins is_root few_seats told_whole;
            },
          ) in
          subst (λ x. StepsWith left runs holds spot (Some v) w s e x s') (sym lead) (subst (λ z. StepsWith left runs holds spot (Some v) w s z w s') (sym event) done)

    -- THE SET IS CLOSED

    closed_event : (p : Plan) (vs : Views) → s.set.closed ≡ true → is_polled slot.cell.phase ≡ true → slot.waiting ≡ Waiting.Nothing → ActsAs left runs holds spot gives (common_of left spot p vs s) p w.moments.sampled slot b' (Act.Dedicated body)
        → IsEvent left spot (Place.Poll t InPoll.Act) (Place.Poll t InPoll.Act) t w w.root_ready None s (record slot { body = Some b'; told = Some (Said.Refused Error.Closed) }) Event.Closed Plain p vs
    closed_event p vs shut polled waits so =
        let all = common_of left spot p vs s in
        let x = things_with vs s in
        let d = desk_of (record w { place = Place.Poll t InPoll.Act }) in
        let k = so.asks.0 in
        let told : Said = Said.Refused Error.Closed in
        let at_t : task_of all t ≡ task_seen left spot slot = task_there left spot s.tasks.items t slot h.made.there in
        let past : spot (left b') (Some told) ≡ spot_of (moved_on all (task_seen left spot slot)) = answered (left b') told (λ never. absurd (cc)) ∙ so.stands in
        record {
          moves = grind (arith, by_word left spot t p all w s vs slot (ScriptWord.Dedicated k) at_t so.asks.1, closed_move p.config w.index (me_at t w) all d x t k shut, h.sound.hand);
          may = (acts_so left spot t all w slot (meets_closed all w.index) at_t waits (ap (meets_closed all w.index) so.asks.1 ∙ shut), tt);
          own = refl;
          common = ap (λ y. record all { tasks = slice_set all.tasks t (moved_on all y) }) at_t ∙ ap (λ y. record all { tasks = slice_set all.tasks t y }) (sym (moved_seen left spot all slot b' (Some told) polled past));
        }

    pub dedicated_closed : (e : Event) → DedicatesNone t w w' s1 s' n n' e → StepsOf left runs holds spot w s e w' s'
    dedicated_closed e it =
        let told : Said = Said.Refused Error.Closed in
        let who = actor left runs holds spot gives t w s s1 (Act.Dedicated body) h in
        let closed : s.set.closed ≡ true = ap (λ (y : Shared B). y.set.closed) (sym h.made.kept) ∙ it.closed in
        subst (λ z. StepsOf left runs holds spot w s z w' s') (sym it.event_is)
        (acted left runs holds spot gives t InPoll.Act w w' s s1 s' Event.Closed Plain (Act.Dedicated body) (λ o. record o { told = Some told }) h (tells_on t slot b' told who.polled who.waits)
        (λ p vs so. closed_event p vs closed who.polled who.waits so) (λ p goes_on. performs_told left runs holds spot gives p slot b' body told tt who.polled who.waits refl goes_on) refl it.worker it.told)

    -- by which of the two, where nobody was made before
    pub dedicated_by : HasWhole w s → n.born ≡ None → (e : Event) → DedicatesIf t body w w' s1 s' n n' e → StepsWith left runs holds spot n'.born w s e w' s'
    dedicated_by has none e (inl it) = subst (λ o. StepsWith left runs holds spot o w s e w' s') (sym (ap (λ (x : Nursery). x.born) it.makes.nursery)) (dedicated_open e it has)
    dedicated_by has none e (inr it) = subst (λ o. StepsWith left runs holds spot o w s e w' s') (sym (ap (λ (x : Nursery). x.born) it.nursery ∙ none)) (dedicated_closed e it)

    -- THERE WAS NO MEMORY: nothing is seen of that

    pub undedicated : RefusesDedicated t w w' s1 s' n n' → Same left spot w s w' s'
    undedicated it =
        let told : Said = Said.Refused Error.NoMemory in
        let slot2 : TaskSlot B = record slot { body = Some b'; told = Some told } in
        let who = actor left runs holds spot gives t w s s1 (Act.Dedicated body) h in
        let p : Plan = h.one.0 in
        let back : spot (left b') (Some told) ≡ spot_of (task_seen left spot slot) = ((h.asks p (record { workers = []; calls = [] }) h.one.2).goes_on refl).refused in
        let there : slice_get it.middle.tasks.items t ≡ Some h.made.slot' = ap (λ ts. slice_get ts t) it.nobody.tasks ∙ acted_there in
        let items : s'.tasks.items ≡ slice_set s.tasks.items t slot2 =
        it.told.tasks h.made.slot' there
        ∙ ap (λ ts. slice_set ts t (record h.made.slot' { told = Some told })) (it.nobody.tasks ∙ h.made.tasks)
        ∙ set-set s.tasks.items t h.made.slot' (record h.made.slot' { told = Some told })
        ∙ ap (λ (y : TaskSlot B). slice_set s.tasks.items t (record y { told = Some told })) h.made.acts.slot in
        let s2 : Shared B = record s { tasks = s'.tasks } in
        let m = it.middle in
        let kept : s' ≡ record s2 { seats = m.seats; global = record s.global { places = m.global.places }; store = m.store } = grind (arith, it.told.kept, it.nobody.kept, h.made.kept) in
        let seats : m.seats.items ≡ s.seats.items = it.nobody.seats ∙ ap (λ (y : Shared B). y.seats.items) h.made.kept in
        let same : Same left spot w s w s2 = same_slot left spot t w s s2 slot slot2 h.made.there (unmoved_seen left spot slot b' who.polled back) refl items in
        subst (λ x. Same left spot w s x s') (sym it.worker) (record {
          own = same.own;
          desk = same.desk;
          things = grind (arith, kept, seats);
          common = λ q vs. ap (common_of left spot q vs) kept ∙ ap (λ cs. record (common_of left spot q vs s2) { seats = seats_seen vs.workers cs }) seats ∙ same.common q vs;
          visible_same = same.visible_same;
        })
