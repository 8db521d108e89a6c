-- The act by which a task makes another one: the whole step, where the task set is open.
use Rattle.std.{proofs.{Common.{[], ◌≡◌, inl, inr, ℕ, ◌%◌, ◌<◌, arith, Bool, true, false, not, List, ◌∷◌, ◌++◌, length, map, Option, Some, None, refl, sym, ap, subst, ◌∙◌, slice_get, slice_index_or, slice_set}, lemmas.{Bool.eq-eqb, List.{length-append, length-map, length-set, map-append, map-set, set-get_or, set-set}, Option.slice_get_within}}, specs.Vec.with_item}
use Rattle.exec_base.specs.declared.{error.Error.Error, task_no.TaskNo.TaskNo}
use Rattle.exec_task.specs.{Phases.is_polled, Sight.Sight, TaskSet.{held, inserted}, declared.{body.{Act.Act, Said.Said}, runnable.Runnable.Runnable}}
use Rattle.exec_machine.specs.{Choice.Choice.Plain, declared.{config.{Configuration.Configuration, ScriptWord.ScriptWord}, event.Event.Event, state.{Code.TheVariants.Script, Waiting.Waiting}}, Mail.meets_closed, Progress.Plan, Tasks.{after_spawn as after_spawn_by, after_word, new_task}, Words.{asks_spawn, moved_on, next_word}, World.{Common, Own, task_of}}
use Rattle.exec_moves.specs.{Cells.shard_of, Move.move_act, Parts.has_others, Pop.shard_count, Send.{after_spawn, next_task}, State.{Desk, Things}, Thing.set_shard, declared.place.{InPoll.InPoll, Place.Place}}
use Rattle.exec_parts.{specs.{Records.numbers_held, Roles.is_pool, declared.parts.{shared.Shared.Shared, task_slot.TaskSlot.TaskSlot, worker.Worker.Worker}, Pooled.{IsNewTask, MakesTask, Spawns, SpawnsNone, event_of_made, told_of_made, with_made}, Scripts.{Begins, GoesOn, IsAnswer, IsAnswered, IsBorn, IsNamed, held_after}, Spots.{Spot, spot_of}, View.{Views, common_of, desk_of, task_seen, things_with, visible, with_view}, Things.TurnsSlot}, proofs.Facts.{not-true, not-false, same_Some, set_there}}
use Rattle.exec_invariants.{specs.{Acting.{ActsAs, HasActed, Performs, PerformsAll, StepsOf}, Drained.in_set, Sound.SoundAt, Whole.{HasWhole, duties_of, with_worker}, Works.{Beside, Same, Suits, Works}}, proofs.{Acting.{Leaves, act_leaves, acted, actor, acts_so, by_word, me_at, moved_seen, tells_on}, Performing.{same_slot, still_performs, unmoved_seen}, PopLeads.some_shards, Slots.{IsEvent, task_there}, Turning.view_found, DedicatedSeen.pool_seen}}
use Rattle.exec_polling.proofs.{SpawnJoins.{Joins, none_yet}, SpawnLists.{found_again, found_which, set_within}, SpawnSets.{joined_seen, shard_shown}, Stirred.spares_on, SpawnPlaces.{next_by, own_by, joined_sound, joined_beside, spawn_leads}}

-- WHAT IT IS TO THE MACHINE

closed_move : (c : Configuration) (i : ℕ) (me : Own) (s : Common) (d : Desk) (x : Things) (t k : ℕ) → s.set_closed ≡ true
    → move_act c i me s d x t (ScriptWord.Spawn k) ≡ (let n = shard_of c (next_task s) in record { event = Event.Closed; choice = Plain; desk = record d { place = Place.Poll t InPoll.Act }; thing = set_shard n x (slice_index_or x.shards n []) })
closed_move c i me s d x t k is = rw is refl

open_move : (c : Configuration) (i : ℕ) (me : Own) (s : Common) (d : Desk) (x : Things) (t k : ℕ) → s.set_closed ≡ false
    → move_act c i me s d x t (ScriptWord.Spawn k) ≡ (let n = shard_of c (next_task s) in record { event = Event.Spawn (next_task s) k; choice = Plain; desk = record d { hand = Some (next_task s); place = after_spawn c i s t }; thing = set_shard n x (slice_index_or x.shards n [] ++ next_task s ∷ []) })
open_move c i me s d x t k is = rw is refl

module _ {B L : Type 0} (left : B → L) (spot : L → Option Said → Spot) where
  -- what is seen of a new task
  pub new_seen : (body : B) (number : TaskNo) (k : ℕ) (new : TaskSlot B) (owner : ℕ) → IsNewTask number owner body new → Begins (spot (left body)) k → task_seen left spot new ≡ new_task (Script k) None
  new_seen = grind arith

  -- and what tasks show
  pub tasks_seen : (body : B) (r : Runnable) (k : ℕ) (s s' : Shared B) → (it : Joins body r s s') → Begins (spot (left body)) k → map (task_seen left spot) s'.tasks.items ≡ map (task_seen left spot) s.tasks.items ++ new_task (Script k) None ∷ []
  tasks_seen = grind (arith, map-append, new_seen)

  -- the shard of the new task shows it
  pub shards_show : (body : B) (r : Runnable) (vs : Views) (c : Configuration) (s s' : Shared B) → (it : Joins body r s s') → ((t : ℕ) → 0 < in_set t s.set → t < length s.tasks.items) → length s.set.shards ≡ shard_count c
      → (let n = shard_of c r.task.0 in things_with vs s' ≡ set_shard n (things_with vs s) (slice_index_or (things_with vs s).shards n [] ++ r.task.0 ∷ []))
  shards_show body r vs c s s' it below many =
      let x = things_with vs s in
      let m = r.task.0 in
      let k = m % length s.set.shards in
      let under : (t : ℕ) → 0 < in_set t s.set → t < m = λ t some. subst (λ j. t < j) (sym it.number) (below t some) in
      let shown : things_with vs s' ≡ record x { shards = map (map (λ e. e.0)) s'.set.shards } = ap (things_with vs) it.kept in
      grind (arith, joined_seen, shard_shown)

  module _ (t : ℕ) (w : Worker) (s m s' : Shared B) (slot mid : TaskSlot B) (body : B) (r : Runnable) (pool others : Bool) (it : Joins body r m s') (there : slice_get s.tasks.items t ≡ Some slot) (waits : slot.waiting ≡ Waiting.Nothing) (items : m.tasks.items ≡ slice_set s.tasks.items t mid) (kept : m ≡ record s { tasks = m.tasks })
      (below : (n : ℕ) → 0 < in_set n m.set → n < length m.tasks.items) (many : length s.set.shards ≡ shard_count s.config) where
    number_seen : (p : Plan) (vs : Views) → length (common_of left spot p vs s).tasks ≡ r.task.0
    number_seen p vs = length-map s.tasks.items (task_seen left spot) ∙ sym (it.number ∙ ap length items ∙ length-set s.tasks.items t mid)

    -- what is common then
    common_then : (k : ℕ) (p : Plan) (vs : Views) → Begins (spot (left body)) k → moved_on (common_of left spot p vs s) (task_seen left spot slot) ≡ task_seen left spot mid
        → common_of left spot p vs s' ≡ after_spawn_by (after_word (common_of left spot p vs s) (Some t)) k
    common_then k p vs begins moved =
        let all = common_of left spot p vs s in
        let seen = task_seen left spot in
        let at_t : task_of all t ≡ seen slot = task_there left spot s.tasks.items t slot there in
        let old : map seen m.tasks.items ≡ slice_set all.tasks t (moved_on all (task_of all t)) =
        ap (map seen) items ∙ map-set seen s.tasks.items t mid ∙ ap (slice_set all.tasks t) (sym moved) ∙ ap (λ y. slice_set all.tasks t (moved_on all y)) (sym at_t) in
        let new : map seen s'.tasks.items ≡ slice_set all.tasks t (moved_on all (task_of all t)) ++ new_task (Script k) None ∷ [] = tasks_seen body r k m s' it begins ∙ ap (λ ts. ts ++ new_task (Script k) None ∷ []) old in
        let shut : s'.set.closed ≡ s.set.closed = ap (λ z. z.closed) it.set ∙ ap (λ (x : Shared B). x.set.closed) kept in
        ap (common_of left spot p vs) (it.kept ∙ ap (λ (x : Shared B). record x { tasks = s'.tasks; set = s'.set; global = record x.global { places = s'.global.places } }) kept)
        ∙ ap (λ ts. record all { tasks = ts; set_closed = s'.set.closed }) new
        ∙ ap (λ b. record all { tasks = slice_set all.tasks t (moved_on all (task_of all t)) ++ new_task (Script k) None ∷ []; set_closed = b }) shut

    spawn_works : w.place ≡ Place.Poll t InPoll.Act → s.set.closed ≡ false → (name k : ℕ) (p : Plan) (vs : Views) → Suits p vs w s → after_spawn p.config w.index (common_of left spot p vs s) t ≡ next_by t pool others → name ≡ k → next_word (common_of left spot p vs s) (task_seen left spot slot) ≡ ScriptWord.Spawn k
        → Begins (spot (left body)) k → moved_on (common_of left spot p vs s) (task_seen left spot slot) ≡ task_seen left spot mid
        → Works left spot p vs w s (Event.Spawn r.task.0 name) (record w { place = next_by t pool others; hand = Some r }) s'
    spawn_works here unclosed name k p vs suits to named word begins moved =
        let all = common_of left spot p vs s in
        let x = things_with vs s in
        let d = desk_of (record w { place = Place.Poll t InPoll.Act }) in
        let w1 : Worker = record w { place = next_by t pool others; hand = Some r } in
        let at_t : task_of all t ≡ task_seen left spot slot = task_there left spot s.tasks.items t slot there in
        let again : with_view vs w.index (visible w) ≡ vs = view_found vs w.index (visible w) suits.seen in
        let count : next_task all ≡ r.task.0 = number_seen p vs in
        let counts : length m.set.shards ≡ shard_count p.config = ap (λ (y : Shared B). length y.set.shards) kept ∙ many ∙ ap shard_count suits.config in
        let things_same : things_with vs m ≡ x = ap (things_with vs) kept in
        let shown : things_with vs s' ≡ (let n = shard_of p.config r.task.0 in set_shard n x (slice_index_or x.shards n [] ++ r.task.0 ∷ [])) =
        shards_show body r vs p.config m s' it below counts
        ∙ ap (λ (y : Things). let n = shard_of p.config r.task.0 in set_shard n y (slice_index_or y.shards n [] ++ r.task.0 ∷ [])) things_same in
        subst (λ v. Works left spot p vs v s (Event.Spawn r.task.0 name) w1 s') (ap (λ y. record w { place = y }) (sym here)) (record {
          choice = Plain;
          moves = grind (arith, by_word left spot t p all w s vs slot (ScriptWord.Spawn k) at_t word, open_move p.config w.index (me_at t w) all d x t k unclosed, count, shown, to, named, again);
          may = (
            acts_so left spot t all w slot (asks_spawn name) at_t waits (ap (asks_spawn name) word ∙ eq-eqb name k named),
            (eq-eqb r.task.0 (length all.tasks) (sym count), (ap not unclosed, tt)),
          );
          own = own_by t w (Some r) pool others;
          common = ap (λ v. common_of left spot p v s') again ∙ common_then name p vs (subst (Begins (spot (left body))) (sym named) begins) moved;
        })

-- THE WHOLE STEP

module _ {B L : Type 0} (left : B → L) (runs : L → Plan → Option ℕ → Type 0) (holds : L → Option Said → List ℕ) (spot : L → Option Said → Spot) where
  -- a new task performs the plan in which its body begins a script
  pub performs_new : (p : Plan) (k : ℕ) (body : B) (number : TaskNo) (new : TaskSlot B) (owner : ℕ) → IsNewTask number owner body new → IsBorn runs holds spot p k (left body) → Performs left runs holds p new
  performs_new = grind arith

  pub performs_joined : (p : Plan) (k : ℕ) (body : B) (r : Runnable) (s s' : Shared B) → Joins body r s s' → IsBorn runs holds spot p k (left body) → PerformsAll left runs holds p s → PerformsAll left runs holds p s'
  performs_joined p k body r s s' it born fits n o found =
      elim (found_which s.tasks.items it.new o n (ap (λ xs. slice_get xs n) (sym it.items) ∙ found)) [ inl old ↦ fits n o old | inr new ↦ subst (Performs left runs holds p) new.1 (performs_new p k body r.task it.new s.set.id it.fresh born) ]

module _ {B L : Type 0} (left : B → L) (runs : L → Plan → Option ℕ → Type 0) (holds : L → Option Said → List ℕ) (spot : L → Option Said → Spot) (gives : L → Option Sight → Said → Act B → L → Option Sight → Type 0) where
  -- a task goes on that was told so of the one that it wanted
  performs_told : (p : Plan) (slot : TaskSlot B) (b' body : B) (x : Said) → IsAnswer (Act.Spawn body) x → is_polled slot.cell.phase ≡ true → slot.waiting ≡ Waiting.Nothing → held_after (Act.Spawn body) x (numbers_held slot.held.items) ≡ (numbers_held slot.held.items)
      → GoesOn runs holds spot gives p (task_seen left spot slot) (Act.Spawn body) (left b') → Performs left runs holds p (record slot { body = Some b'; told = Some x })
  performs_told = grind arith

  module _ (answered : IsAnswered spot) (t : ℕ) (body : B) (w w' : Worker) (s s1 s' : Shared B) (h : HasActed left runs holds spot gives t w s s1 (Act.Spawn body)) where
    abbrev slot : TaskSlot B
    slot = h.made.slot

    abbrev b' : B
    b' = h.made.acts.body'

    acted_there : slice_get s1.tasks.items t ≡ Some h.made.slot'
    acted_there = ap (λ ts. slice_get ts t) h.made.tasks ∙ set_there s.tasks.items t h.made.slot' slot h.made.there

    -- THE SET IS OPEN

    module _ (name : ℕ) (r : Runnable) (middle : Shared B) (makes : MakesTask body s1 middle (Some r)) (told : TurnsSlot t middle s' (λ o. record o { told = Some (Said.Spawned r.task) })) where
      abbrev mid : TaskSlot B
      mid = record slot { body = Some b'; told = Some (Said.Spawned r.task) }

      -- once the task was told so, and before the other one is there
      abbrev only_told : Shared B
      only_told = record s { tasks = with_item s.tasks t mid }

      turns : TurnsSlot t s1 only_told (λ o. record o { told = Some (Said.Spawned r.task) })
      turns = record { kept = sym (ap (λ (x : Shared B). record x { tasks = with_item s.tasks t mid }) h.made.kept); tasks = grind (arith, same_Some, acted_there, set-set) }

      abbrev new : TaskSlot B
      new = (makes.slot r refl).0

      items_then : s'.tasks.items ≡ slice_set s.tasks.items t mid ++ new ∷ []
      items_then =
          let grown : middle.tasks.items ≡ s1.tasks.items ++ new ∷ [] = (makes.slot r refl).1 in
          let few : t < length s1.tasks.items = slice_get_within s1.tasks.items t h.made.slot' acted_there in
          let there : slice_get middle.tasks.items t ≡ Some h.made.slot' = ap (λ ts. slice_get ts t) grown ∙ found_again s1.tasks.items (new ∷ []) t h.made.slot' acted_there in
          let told_slot : record h.made.slot' { told = Some (Said.Spawned r.task) } ≡ mid = ap (λ (y : TaskSlot B). record y { told = Some (Said.Spawned r.task) }) h.made.acts.slot in
          told.tasks h.made.slot' there
          ∙ ap (slice_set middle.tasks.items t) told_slot
          ∙ ap (λ ts. slice_set ts t mid) grown
          ∙ set_within s1.tasks.items new mid t few
          ∙ ap (λ ts. slice_set ts t mid ++ new ∷ []) h.made.tasks
          ∙ ap (λ ts. ts ++ new ∷ []) (set-set s.tasks.items t h.made.slot' mid)

      unclosed : s.set.closed ≡ false
      unclosed = ap (λ (x : Shared B). x.set.closed) (sym h.made.kept) ∙ not-true s1.set.closed (sym makes.answer)

      all_kept : s' ≡ record s { tasks = s'.tasks; set = middle.set; global = record s.global { places = middle.global.places } }
      all_kept = grind (arith, told.kept, makes.kept, h.made.kept)

      same_set : s'.set ≡ middle.set
      same_set = ap (λ (x : Shared B). x.set) all_kept

      same_places : s'.global.places ≡ middle.global.places
      same_places = ap (λ (x : Shared B). x.global.places) all_kept

      joins : Joins body r only_told s'
      joins =
          let its = makes.slot r refl in
          let count : length s'.tasks.items ≡ length middle.tasks.items = grind (arith, items_then, h.made.tasks, its.1, length-append, length-set) in
          record {
            new = new;
            items = items_then;
            of_it = its.2;
            fresh = subst (λ (n : ℕ). IsNewTask r.task n body new) (ap (λ (x : Shared B). x.set.id) h.made.kept) its.3;
            number = makes.number r refl ∙ ap length h.made.tasks ∙ length-set s.tasks.items t h.made.slot' ∙ sym (length-set s.tasks.items t mid);
            set = same_set ∙ makes.set r refl ∙ ap (λ (x : Shared B). inserted x.set r.task tt) h.made.kept;
            unclosed = unclosed;
            shards = subst (λ n. 0 < n) (sym h.sound.shards) (some_shards s.config);
            places = omega (arith, count, makes.places r refl, same_places);
            few = omega (arith, count, makes.few r refl);
            kept = grind (arith, all_kept, same_set, same_places);
          }

      pub spawned_open : (name_of : L → ℕ) → HasWhole w s → IsNamed runs spot name_of → name ≡ name_of (left body) → (e : Event) → e ≡ Event.Spawn r.task.0 name → w' ≡ with_made s1.config t (Some r) w → StepsOf left runs holds spot w s e w' s'
      spawned_open name_of has named called e event goes =
          let x : Said = Said.Spawned r.task in
          let who = actor left runs holds spot gives t w s s1 (Act.Spawn body) h in
          let leaves : Leaves left runs holds spot gives t InPoll.Act w s only_told mid =
          act_leaves left runs holds spot gives t InPoll.Act w s s1 only_told (Act.Spawn body) (λ o. record o { told = Some x }) h (tells_on t slot b' x who.polled who.waits) turns in
          let still : record w { place = Place.Poll t InPoll.Act; root_ready = w.root_ready; hand = None } ≡ w =
          ap (λ o. record w { place = Place.Poll t InPoll.Act; hand = o }) (sym h.sound.hand) ∙ ap (λ q. record w { place = q }) (sym h.sound.here) in
          let sound : SoundAt (Place.Poll t InPoll.Act) w only_told = subst (λ v. SoundAt (Place.Poll t InPoll.Act) v only_told) still leaves.sound in
          let one : Beside w s w only_told = subst (λ v. Beside w s v only_told) still leaves.beside in
          let pool : Bool = is_pool w.role in
          let others : Bool = has_others s.config in
          let w1 : Worker = record w { place = next_by t pool others; hand = Some r } in
          let two : Beside w only_told w1 s' = joined_beside t pool others w only_told s' body r joins sound in
          let below : (n : ℕ) → 0 < in_set n s.set → n < length (slice_set s.tasks.items t mid) = λ n some.
          let old = has.whole.pool.only n (omega (arith, some)) in
          omega (arith, slice_get_within s.tasks.items n old.0 old.1, length-set s.tasks.items t mid) in
          let lead : w' ≡ w1 = goes ∙ ap (λ (y : Shared B). record w { place = next_by t pool (has_others y.config); hand = Some r }) h.made.kept in
          let done : StepsOf left runs holds spot w s (Event.Spawn r.task.0 name) w1 s' = (
            (λ p vs suits fits.
                let so = h.asks p vs (fits t slot h.made.there) in
                let all = common_of left spot p vs s in
                let k = so.asks.0 in
                let word = so.asks.1 in
                let born = so.makes k word in
                let past : spot (left b') (Some x) ≡ spot_of (moved_on all (task_seen left spot slot)) = answered (left b') x (λ never. absurd (cc)) ∙ so.stands in
                spawn_works left spot t w s only_told s' slot mid body r pool others joins h.made.there who.waits refl refl below h.sound.shards h.sound.here unclosed name k p vs suits (spawn_leads p.config w.index all t pool (pool_seen left spot p vs (Place.Poll t InPoll.Act) w s h.sound suits) ∙ ap (λ c. next_by t pool (has_others c)) (sym suits.config)) (called ∙ named p (left body) k (born.runs_it None tt) born.begins) word born.begins
                (sym (moved_seen left spot all slot b' (Some x) who.polled past))),
            joined_sound t pool others w only_told s' body r joins sound,
            record {
              root = refl;
              config = ap (λ (y : Shared B). y.config) all_kept;
              performs = λ p is fits.
                  let so = h.asks p (record { workers = []; calls = [] }) (fits t slot h.made.there) in
                  performs_joined left runs holds spot p so.asks.0 body r only_told s' joins (so.makes so.asks.0 so.asks.1)
                  ((still_performs left runs holds t w w s only_told slot mid h.made.there refl refl refl
                  (λ p' fits'. performs_told p' slot b' body x tt who.polled who.waits refl ((h.asks p' (record { workers = []; calls = [] }) fits').goes_on refl))).performs p is fits);
            },
            record {
              spares = λ j apart. spares_on false j s only_told s' (one.spares j apart) (two.spares j apart);
              whole = λ y whole. two.whole y (one.whole y whole);
            },
          ) in
          subst (λ v. StepsOf left runs holds spot w s e v s') (sym lead) (subst (λ z. StepsOf left runs holds spot w s z w1 s') (sym event) done)

    -- THE SET IS CLOSED

    closed_event : (p : Plan) (vs : Views) → s.set.closed ≡ true → is_polled slot.cell.phase ≡ true → slot.waiting ≡ Waiting.Nothing → ActsAs left runs holds spot gives (common_of left spot p vs s) p w.moments.sampled slot b' (Act.Spawn body)
        → IsEvent left spot (Place.Poll t InPoll.Act) (Place.Poll t InPoll.Act) t w w.root_ready None s (record slot { body = Some b'; told = Some (Said.Refused Error.Closed) }) Event.Closed Plain p vs
    closed_event p vs shut polled waits so =
        let all = common_of left spot p vs s in
        let x = things_with vs s in
        let d = desk_of (record w { place = Place.Poll t InPoll.Act }) in
        let k = so.asks.0 in
        let n = shard_of p.config (next_task all) in
        let told : Said = Said.Refused Error.Closed in
        let at_t : task_of all t ≡ task_seen left spot slot = task_there left spot s.tasks.items t slot h.made.there in
        let past : spot (left b') (Some told) ≡ spot_of (moved_on all (task_seen left spot slot)) = answered (left b') told (λ never. absurd (cc)) ∙ so.stands in
        record {
          moves = grind (arith, by_word left spot t p all w s vs slot (ScriptWord.Spawn k) at_t so.asks.1, closed_move p.config w.index (me_at t w) all d x t k shut, set-get_or x.shards n [], h.sound.hand);
          may = (acts_so left spot t all w slot (meets_closed all w.index) at_t waits (ap (meets_closed all w.index) so.asks.1 ∙ shut), tt);
          own = refl;
          common = ap (λ y. record all { tasks = slice_set all.tasks t (moved_on all y) }) at_t ∙ ap (λ y. record all { tasks = slice_set all.tasks t y }) (sym (moved_seen left spot all slot b' (Some told) polled past));
        }

    pub spawned_closed : (middle : Shared B) → MakesTask body s1 middle None → TurnsSlot t middle s' (λ o. record o { told = Some (Said.Refused Error.Closed) }) → (e : Event) → e ≡ Event.Closed → w' ≡ with_made s1.config t None w → StepsOf left runs holds spot w s e w' s'
    spawned_closed middle makes told e event goes =
        let who = actor left runs holds spot gives t w s s1 (Act.Spawn body) h in
        let shut : s1.set.closed ≡ true = not-false s1.set.closed (sym makes.answer) in
        let turned = subst (λ (y : Shared B). TurnsSlot t y s' (λ o. record o { told = Some (Said.Refused Error.Closed) })) (makes.closed shut) told in
        let closed : s.set.closed ≡ true = ap (λ (y : Shared B). y.set.closed) (sym h.made.kept) ∙ shut in
        subst (λ z. StepsOf left runs holds spot w s z w' s') (sym event)
        (acted left runs holds spot gives t InPoll.Act w w' s s1 s' Event.Closed Plain (Act.Spawn body) (λ o. record o { told = Some (Said.Refused Error.Closed) }) h (tells_on t slot b' (Said.Refused Error.Closed) who.polled who.waits)
        (λ p vs so. closed_event p vs closed who.polled who.waits so) (λ p goes_on. performs_told p slot b' body (Said.Refused Error.Closed) tt who.polled who.waits refl goes_on) refl goes turned)

    pub spawned_by : (name_of : L → ℕ) → HasWhole w s → IsNamed runs spot name_of → (e : Event) → Spawns t (name_of (left body)) body w w' s1 s' e → StepsOf left runs holds spot w s e w' s'
    spawned_by name_of has named e it = by it.made it.middle it.makes it.told it.event it.worker
      where
        by : (made : Option Runnable) (middle : Shared B) → MakesTask body s1 middle made → TurnsSlot t middle s' (λ o. record o { told = Some (told_of_made made) }) → e ≡ event_of_made (name_of (left body)) made → w' ≡ with_made s1.config t made w → StepsOf left runs holds spot w s e w' s'
        by None middle makes told event goes = spawned_closed middle makes told e event goes
        by (Some r) middle makes told event goes = spawned_open (name_of (left body)) r middle makes told name_of has named refl e event goes

    -- THERE WAS NO MEMORY: nothing is seen of that

    pub unspawned : SpawnsNone t w w' s1 s' → Same left spot w s w' s'
    unspawned it =
        let told : Said = Said.Refused Error.NoMemory in
        let slot2 : TaskSlot B = record slot { body = Some b'; told = Some told } in
        let who = actor left runs holds spot gives t w s s1 (Act.Spawn body) h in
        let p : Plan = h.one.0 in
        let back : spot (left b') (Some told) ≡ spot_of (task_seen left spot slot) = ((h.asks p (record { workers = []; calls = [] }) h.one.2).goes_on refl).refused in
        let there : slice_get it.middle.tasks.items t ≡ Some h.made.slot' = ap (λ ts. slice_get ts t) it.room.tasks ∙ acted_there in
        let items : s'.tasks.items ≡ slice_set s.tasks.items t slot2 =
        it.told.tasks h.made.slot' there
        ∙ ap (λ ts. slice_set ts t (record h.made.slot' { told = Some told })) (it.room.tasks ∙ h.made.tasks)
        ∙ set-set s.tasks.items t h.made.slot' (record h.made.slot' { told = Some told })
        ∙ ap (λ (y : TaskSlot B). slice_set s.tasks.items t (record y { told = Some told })) h.made.acts.slot in
        let s2 : Shared B = record s { tasks = s'.tasks } in
        let kept : s' ≡ record s2 { global = record s.global { places = it.middle.global.places } } = grind (arith, it.told.kept, it.room.kept, h.made.kept) in
        let same : Same left spot w s w s2 = same_slot left spot t w s s2 slot slot2 h.made.there (unmoved_seen left spot slot b' who.polled back) refl items in
        subst (λ v. Same left spot w s v s') (sym it.worker) (record {
          own = same.own;
          desk = same.desk;
          things = λ vs. ap (things_with vs) kept ∙ same.things vs;
          common = λ q vs. ap (common_of left spot q vs) kept ∙ same.common q vs;
          visible_same = same.visible_same;
        })

    -- what the spawn needs
    pub record MaySpawn : Type 0 where
      pub there : t < length s1.tasks.items
      pub absent : held s1.set (record { 0 = length s1.tasks.items }) ≡ None
      pub workers : 0 < s1.config.workers

    pub may_spawn : HasWhole w s → MaySpawn
    may_spawn has =
        let count : length s1.tasks.items ≡ length s.tasks.items = ap length h.made.tasks ∙ length-set s.tasks.items t h.made.slot' in
        let none : held s.set (record { 0 = length s.tasks.items }) ≡ None = none_yet (duties_of (with_worker has.others w)) s (subst (λ n. 0 < n) (sym h.sound.shards) (some_shards s.config)) has.whole.pool in
        record {
          there = slice_get_within s1.tasks.items t h.made.slot' acted_there;
          absent = ap (λ n. held s1.set (record { 0 = n })) count ∙ ap (λ (y : Shared B). held y.set (record { 0 = length s.tasks.items })) h.made.kept ∙ none;
          workers = subst (λ (y : Shared B). 0 < y.config.workers) (sym h.made.kept) h.sound.config.workers;
        }
