-- Where a task's spawn of another one leads, and what holds then.
use Rattle.std.proofs.{lemmas.Bool.false≢true, Common.{[], ◌≡◌, ℕ, ◌+◌, arith, Bool, true, false, List, ◌∷◌, ◌++◌, length, Option, Some, None, refl, sym, ap, subst, ◌∙◌, slice_get, option_to_list, if◌then◌else◌}}
use Rattle.exec_task.specs.{TaskSet.Set, declared.{runnable.Runnable.Runnable}}
use Rattle.exec_machine.specs.{declared.config.Configuration.Configuration, World.Common}
use Rattle.exec_moves.specs.{Callback.is_of_pool, Parts.has_others, Pop.shard_count, Seen.polls_at, Send.after_spawn, declared.{handing.{AfterPush.AfterPush, InGlobal.InGlobal, InPush.InPush}, place.{InPoll.InPoll, Place.Place}}}
use Rattle.exec_parts.{specs.{declared.parts.{record.Record.Record, seat.Seat.Seat as Chair, shared.Shared.Shared, sleeping.SleeperRecord.SleeperRecord, task_slot.TaskSlot.TaskSlot, worker.Worker.Worker}, Phased.{IsPhased, closes_at, closing_in, has_stopped, stage_of}, View.own_of}, proofs.Facts.same_Some}
use Rattle.exec_invariants.{specs.{Places.{hands_on_at, is_pooled_at, polled_in, step_of_poll}, Sound.{HasGuest, IsInHand, Serves, SoundAt, Stands, Stops}, Whole.{IsGenuine, Profile, runnables_in, with_worker}, Works.Beside}, proofs.{Acting.me_at, SlotTasks.{IsAfter, Tasked, sound_tasked}, Stirs.only}}
use Rattle.exec_polling.proofs.{SpawnJoins.{HasOneMore, Joins, genuine_new, homes_joined, resting_joined, shards_same, spares_joined, whole_joined}, SpawnLists.found_again}

-- WHERE IT LEADS

abbrev pub next_by : ℕ → Bool → Bool → Place
next_by t pool others =
    if pool then (if others then Place.Poll t InPoll.LoadSpawnHead else Place.Push InPush.LoadPushHead (AfterPush.Act t))
    else Place.Global InGlobal.Append (AfterPush.Act t)

pub spawn_leads : (c : Configuration) (i : ℕ) (s : Common) (t : ℕ) (pool : Bool) → is_of_pool s i ≡ pool → after_spawn c i s t ≡ next_by t pool (has_others c)
spawn_leads c i s t true is = rw is refl
spawn_leads c i s t false is = rw is refl

after_by : (t : ℕ) (pool others : Bool) → IsAfter (next_by t pool others)
after_by = grind arith

polls_by : (t : ℕ) (pool others : Bool) → polls_at (next_by t pool others) ≡ Some t
polls_by = grind arith

unpooled_by : (t : ℕ) (pool others : Bool) → is_pooled_at (next_by t pool others) ≡ false
unpooled_by = grind arith

pub own_by : (t : ℕ) (w : Worker) (hand : Option Runnable) (pool others : Bool) → own_of (record w { place = next_by t pool others; hand = hand }) ≡ me_at t w
own_by = grind arith

hand_by : (t : ℕ) (pool others : Bool) (r : Runnable) → IsInHand None (hands_on_at (next_by t pool others)) (Some r)
hand_by = grind arith

module _ {B : Type 0} where
  guest_by : (t : ℕ) (pool others : Bool) (i root : ℕ) (tasks : List (TaskSlot B)) → HasGuest (Some t) InPoll.Act i root tasks → HasGuest (polls_at (next_by t pool others)) (step_of_poll (next_by t pool others)) i root tasks
  guest_by t true false i root tasks guest = guest
  guest_by t false others i root tasks guest = guest
  guest_by t true true i root tasks guest = λ apart. let it = guest apart in (it.0, it.1, assumption it.2)

  stops_by : (t : ℕ) (pool others : Bool) (i : ℕ) (tasks : List (TaskSlot B)) (rs : List Record) (ss : List SleeperRecord) → Stops (polls_at (next_by t pool others)) (step_of_poll (next_by t pool others)) i tasks rs ss
  stops_by = grind arith

  stands_by : (t root i : ℕ) (pool others : Bool) (slot : TaskSlot B) → Stands (polled_in root (Place.Poll t InPoll.Act)) i slot → Stands (polled_in root (next_by t pool others)) i slot
  stands_by = grind arith

-- WHAT HOLDS THEN

module _ {B : Type 0} where
  -- the task set, and the places of the global queue, are others
  sound_set : (q : Place) (w : Worker) (s : Shared B) (set : Set (Unit {0})) (places : ℕ) → SoundAt q w s → set.closed ≡ s.set.closed → length set.shards ≡ length s.set.shards → closing_in q ≡ None → SoundAt q w (record s { set = set; global = record s.global { places = places } })
  sound_set q w s set places sound closed many open_still =
      let t : Shared B = record s { set = set; global = record s.global { places = places } } in
      let phased : (chair : Chair) → slice_get s.seats.items w.index ≡ Some chair → IsPhased w.index (closes_at q) (closing_in q) w.home.closing w.root w.names.unreleased (stage_of chair t) s.tasks.items = λ chair there.
      let old = subst (λ y. IsPhased w.index (closes_at q) y w.home.closing w.root w.names.unreleased (stage_of chair s) s.tasks.items) open_still (sound.phased chair there) in
      let by_zero : w.index ≡ 0 → (s.stopped ≡ has_stopped (closes_at q) None) × (set.closed ≡ closes_at q) = λ zero. let it = old.by_zero zero in (it.0, closed ∙ it.1) in
      let shut : s.stopped ≡ true → set.closed ≡ true = λ h. closed ∙ old.closed h in
      subst (λ y. IsPhased w.index (closes_at q) y w.home.closing w.root w.names.unreleased (stage_of chair t) s.tasks.items) (sym open_still) (assumption (by_zero, shut, tt, old)) in
      let shards : length set.shards ≡ shard_count s.config = many ∙ sound.shards in
      assumption (phased, shards, sound)

  module _ (t : ℕ) (pool others : Bool) (w : Worker) (s s' : Shared B) (body : B) (r : Runnable) (it : Joins body r s s') (sound : SoundAt (Place.Poll t InPoll.Act) w s) where
    abbrev q : Place
    q = next_by t pool others

    abbrev w1 : Worker
    w1 = record w { place = q; hand = Some r }

    tasked : Tasked q w w.root_ready (Some r) s s'.tasks.items
    tasked =
        let run = sound.runnable in
        let back : (k : ℕ) (o : TaskSlot B) → slice_get s.tasks.items k ≡ Some o → slice_get s'.tasks.items k ≡ Some o = λ k o found. ap (λ xs. slice_get xs k) it.items ∙ found_again s.tasks.items (it.new ∷ []) k o found in
        let root : (o : TaskSlot B) → slice_get s'.tasks.items w.root ≡ Some o → slice_get s.tasks.items w.root ≡ Some o = λ o found. run.there ∙ ap (λ (y : TaskSlot B). Some y) (same_Some run.root o (sym (back w.root run.root run.there) ∙ found)) in
        record {
          pooled = λ is. absurd (false≢true (sym (unpooled_by t pool others) ∙ is));
          serves = subst (λ o. Serves o w.root w.role) (sym (polls_by t pool others)) sound.serves;
          homes = homes_joined body r s s' it s.config.workers (length s.seats.items) sound.homes;
          runnable = record { root = run.root; there = back w.root run.root run.there; home = run.home; number = run.number; once = run.once; one = run.one };
          hand = hand_by t pool others r;
          genuine = λ x has. subst (IsGenuine s'.tasks.items) (sym (only x r has)) (genuine_new body r s s' it);
          guest = guest_by t pool others w.index w.root s'.tasks.items (λ apart. let g = sound.guest apart in (g.0, back t g.0 g.1, g.2));
          resting = resting_joined body r s s' it sound.resting;
          stops = stops_by t pool others w.index s'.tasks.items s.requests.items s.sleepers.items;
          going = λ o found. (sound.phased sound.seated.seat sound.seated.there).root o (root o found);
          stands = λ o found. stands_by t w.root w.index pool others o (sound.tied.stands o (root o found));
        }

    pub joined_sound : SoundAt q w1 s'
    joined_sound =
        let a : Shared B = record s { tasks = s'.tasks } in
        let first : SoundAt q (record w { place = q; root_ready = w.root_ready; hand = Some r }) a = sound_tasked t InPoll.Act q w w.root_ready (Some r) s s' sound (after_by t pool others) tasked in
        subst (SoundAt q w1) (sym it.kept)
        (sound_set q w1 a s'.set s'.global.places first (ap (λ z. z.closed) it.set) (shards_same body r s s' it) (after_by t pool others).closing)

    one_more : (x : Profile) → w.place ≡ Place.Poll t InPoll.Act → (p b : Bool) → HasOneMore r (with_worker x w) (with_worker x (record w { place = next_by t p b; hand = Some r }))
    one_more x here p b =
        subst (λ v. HasOneMore r (with_worker x v) (with_worker x (record w { place = next_by t p b; hand = Some r })))
        (ap (λ o. record w { place = Place.Poll t InPoll.Act; hand = o }) (sym sound.hand) ∙ ap (λ y. record w { place = y }) (sym here)) (by p b)
      where
        counted : (n : ℕ) → (x.runnables n + runnables_in n (option_to_list (Some r) ++ w.loot.values)) ≡ (x.runnables n + runnables_in n (option_to_list None ++ w.loot.values)) + runnables_in n (option_to_list (Some r))
        counted n = rw (sound.loot.none refl) (omega arith)

        by : (p b : Bool) → HasOneMore r (with_worker x (record w { place = Place.Poll t InPoll.Act; hand = None })) (with_worker x (record w { place = next_by t p b; hand = Some r }))
        by true true = record { runnables = λ n. counted n; polls = refl; claims = refl; counts = refl; published = refl; duties = refl; hands = refl }
        by true false = record { runnables = λ n. counted n; polls = refl; claims = refl; counts = refl; published = refl; duties = refl; hands = refl }
        by false b = record { runnables = λ n. counted n; polls = refl; claims = refl; counts = refl; published = refl; duties = refl; hands = refl }

    pub joined_beside : Beside w s w1 s'
    joined_beside =
        record {
          spares = λ j apart. spares_joined body r s s' it j;
          whole = λ x whole. whole_joined body r s s' it (with_worker x w) (with_worker x w1) (one_more x sound.here pool others) whole;
        }
