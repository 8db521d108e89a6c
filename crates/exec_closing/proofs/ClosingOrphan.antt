-- A closing worker lets go of the request in the first slot that somebody holds, and wakes who waits for it, as a step of the machine.
use Rattle.std.{proofs.{Common.{◌≡◌, ◌⊎◌, inl, inr, ℕ, ◌+◌, ◌≤◌, ◌==◌, ◌&&◌, ◌||◌, Bool, true, false, not, cond, List, [], ◌++◌, count_by, length, map, option_map, Option, Some, None, IsSome, is_some, refl, sym, ap, subst, ◌∙◌, arith, slice_get, slice_set, if◌then◌else◌}, lemmas.{Bool.{false≢true, eq-eqb}, List.{append-nil, length-append, map-append}}}, specs.VecDeque.deque_capacity}
use Rattle.exec_base.specs.{Slab.value_at, declared.{slab.Id.Id, task_no.TaskNo.TaskNo}}
use Rattle.exec_waiters.specs.{Events.{told_by_orphan, waker_at, waker_in}, States.is_held_at, Told.{Tells, tasks_of}, declared.{waiter.Entry.{Entry, TheVariants.{Pending, Ready}}, waiter_id.WaiterId.WaiterId}}
use Rattle.exec_driver.specs.{Driving.Driving, Steps.{let_go, told_by_let_go}}
use Rattle.exec_task.specs.declared.body.Said.{Said}
use Rattle.exec_machine.specs.{declared.event.Event.{Event, TheVariants.Orphan}, Choice.Choice.Plain, Progress.Plan, Requests.{dropped, ends_by_drop, outcome_of_drop}, Same.same_end, Tests.is_applied, World.{Own, request_of}}
use Rattle.exec_moves.specs.{declared.place.{InClosing.InClosing, Place.Place}, Close.{after_letting_go, first_asleep, first_held, held_after, orphan}, Move.move_at, State.{does, goes}, Thing.aside, Told.{has_number, told_of_drop, waker_of, woken_where_awaited}}
use Rattle.exec_parts.{specs.{declared.parts.{mail.Reply.Reply, record.Record.Record, shared.Shared.Shared, worker.Worker.Worker}, Awaits.{LetsGo, drops}, Ending.{ClosesOn, Orphans}, Phased.IsGoing, Records.{number_in, outcome_in}, Serving.{changed_at, changed_in}, Spots.Spot, View.{Views, awaited_from, awaits_entry, common_of, desk_of, driver_of, own_of, things_with, visible, with_view}}, proofs.Facts.{same_number, same_Some}}
use Rattle.exec_invariants.{proofs.{Showing.map_set, Closes.now_closing, Hearing.unheard, LetSeen.{one_is, one_slot}, LetShown.{SeenLet, let_seen}, LetsNext.{held_found, record_there}, Lined.{gates_seen_same, mapped, opens_same, passing_same, was_sent}, Seats.own_seat, Seeing.common_changed, ServedEnds.{count_both, count_none, count_one}, ServingHolds.Keeps, Serving.{SparesRecords, spares_one}, Slotted.awaited_over, TaskOverFold.{dropped_at_gate, dropped_name, dropped_thing, dropped_worker}, Turning.view_found}, specs.{Holding.{Box, Hands, IsHolding, Thing, box_of, holder_of, nap_of, thing_of}, Places.one_if as one_when, Rooted.goes_elsewhere, Names.{IsAlike, tellers}, Sound.{SoundAt, served_in}, Whole.{IsWhole, Profile, hands_of, wakes_with, with_worker}, Works.{Beside, Steps}}}
use Rattle.exec_closing.proofs.{ClosesHeld.holding_ousted, ClosesMail.{GoesTo, goes_to}, ClosingLets.{LetsAt, beside_lets, lets_to, records_of, sound_lets}, ClosingSlab.{TellsSame, Unholds, tells_same, unheld_now}, OrphansNext.{LetsOne, orphan_goes}, OrphanRecord.{drop_wakes, orphan_found, dropped_outcome, end_same, thing_became, longer, open_outcome, some_held, unawaited, unawaited_so, off}}

module _ {B : Type 0} (w w' : Worker) (s s' : Shared B) (e : Event) (sound : SoundAt (Place.Closing InClosing.Orphan) w s) (by : Orphans w w' s s' e) where
  abbrev d : Driving Reply Reply
  d = driver_of w

  abbrev entry : Option (Entry Reply Reply)
  entry = value_at (driver_of w).requests by.id.0

  abbrev kk : ℕ
  kk = number_in w.names.requests.items by.id.0

  -- who is woken
  abbrev woken : List TaskNo
  woken = tasks_of (waker_at (value_at (driver_of w).requests by.id.0))

  -- the worker then: as it is, and without the wake
  abbrev x : Worker
  x = record w { place = w'.place; names = record w.names { ended = w'.names.ended }; home = record w.home { driver = w'.home.driver; deferred = w'.home.deferred } }

  abbrev v : Worker
  v = record w { names = record w.names { ended = w'.names.ended }; home = record w.home { driver = w'.home.driver; deferred = record w'.home.deferred { notes = record w'.home.deferred.notes { wakes = w.home.deferred.notes.wakes } } } }

  abbrev t : Shared B
  t = record s { requests = s'.requests }

  live : IsSome (value_at (driver_of w).requests by.id.0)
  live = some_held entry by.first.held

  pub record Ousted : Type 0 where
    pub there : slice_get s.requests.items (number_in w.names.requests.items by.id.0) ≡ Some by.r
    pub name : by.r.id ≡ by.id
    pub mine : by.r.shown.worker ≡ w.index
    pub seen : by.r.shown.observed ≡ true

  its : Ousted
  its =
      let f = sound.named.requests by.id.0 live in
      let same : f.0 ≡ by.r = same_Some f.0 by.r (sym f.1 ∙ ap (slice_get s.requests.items) (sym by.number) ∙ by.request) in
      let there : slice_get s.requests.items kk ≡ Some by.r = ap (slice_get s.requests.items) (sym by.number) ∙ by.request in
      record {
        there = there;
        name = ap (λ (i : Id). record { 0 = i }) (ap (λ (y : Record). y.id.0) (sym same) ∙ f.2);
        mine = ap (λ (y : Record). y.shown.worker) (sym same) ∙ f.3;
        seen = by_entry entry refl by.first.held there;
      }
    where
      by_entry : (o : Option (Entry Reply Reply)) → value_at (driver_of w).requests by.id.0 ≡ o → is_held_at o ≡ true → slice_get s.requests.items (number_in w.names.requests.items by.id.0) ≡ Some by.r → by.r.shown.observed ≡ true
      by_entry None at held there = absurd (false≢true held)
      by_entry (Some (Pending it)) at held there = (sound.named.alike by.id.0 it by.r (rw at refl) there).observed ∙ held
      by_entry (Some (Ready told)) at held there = (sound.rooted.kept by.id.0 told by.r at there).observed

  told : TellsSame (driver_of w) by.id
  told = tells_same (driver_of w) by.id

  -- without the wake it lets go of one that nobody holds any more
  abbrev lets : LetsGo by.k w v s s'
  lets =
      let adds = by.tells in
      let wakes = sym (ap (λ ws. w.home.deferred.notes.wakes.items ++ ws) told.none ∙ append-nil w.home.deferred.notes.wakes.items) in
      let completions = adds.notes.completions_added ∙ ap (λ cs. w.home.deferred.notes.completions.items ++ cs) told.completions in
      let memory : deque_capacity w.home.deferred.notes.wakes ≤ deque_capacity w.home.deferred.notes.wakes = omega arith in
      let outputs = adds.outputs_added ∙ ap (λ os. w.home.deferred.outputs.items ++ os) told.outputs in
      let resources = adds.resources_added ∙ ap (λ os. w.home.deferred.resources.items ++ os) told.resources in
      let results = adds.results_added ∙ ap (λ os. w.home.deferred.results.items ++ os) told.results in
      let tells : Tells w.home.deferred v.home.deferred (told_by_let_go (driver_of w) by.id (told_by_orphan by.id.0 (value_at (driver_of w).requests by.id.0))) = assumption (wakes, completions, memory, outputs, resources, results, adds) in
      let driver = subst (λ i. driver_of w' ≡ let_go (driver_of w) i) (sym its.name) by.driver in
      let tells_it = subst (λ i. Tells w.home.deferred v.home.deferred (told_by_let_go (driver_of w) i (told_by_orphan i.0 (value_at (driver_of w).requests i.0)))) (sym its.name) tells in
      record { r = by.r; request = by.request; lists = by.lists; driver = driver; tells = tells_it; punctual = by.punctual; ended = by.ended; capacity = by.capacity; still = by.still; worker = refl; records = by.records; kept = by.kept }

  before : Keeps w s
  before = grind arith

  let_it : SeenLet by.k w v s s' (ap served_in sound.here) sound.gates before lets its.mine its.seen
  let_it = let_seen by.k w v s s' (ap served_in sound.here) sound.gates before lets its.mine its.seen

  unheld : Unholds (driver_of w).requests (driver_of w').requests by.id.0
  unheld = subst (λ (y : Driving Reply Reply). Unholds (driver_of w).requests y.requests by.id.0) (sym by.driver) (unheld_now (driver_of w) by.id entry refl by.first.held)

  -- one teller less
  fewer : tellers (driver_of w').requests w.home.timers + 64 + 1 ≤ tellers (driver_of w).requests w.home.timers + 64
  fewer =
      let more : length w.names.ended.items ≤ length w'.names.ended.items = subst (λ ns. length w.names.ended.items ≤ length ns) (sym by.ended) (longer (ends_by_drop by.r.shown) w.names.ended.items by.k) in
      omega (arith, unheld.fewer, let_it.keeps_on.over.counted, sound.over.counted, more)

  few : (o : Option TaskNo) → length (tasks_of o) ≤ 1
  few None = omega arith
  few (Some u) = omega arith

  wakes_then : w'.home.deferred.notes.wakes.items ≡ w.home.deferred.notes.wakes.items ++ woken
  wakes_then = by.tells.notes.wakes_added ∙ ap (λ ws. w.home.deferred.notes.wakes.items ++ ws) told.wakes

  pub keeps : Keeps (lets_to w x w.place) (records_of s t)
  keeps = grind (arith, let_it, wakes_then, length-append, few, fewer, told, false≢true)

  records_so : s'.requests.items ≡ changed_at s.requests.items by.k drops
  records_so = by.records ∙ sym (ap (changed_in s.requests.items by.k drops) by.request)

  pub spares : SparesRecords w.index s (records_of s t)
  spares = spares_one w.index s (records_of s t) by.k by.r drops (opens_same s.opens s.opens s.requests.items sound.gates refl) (dropped_at_gate by.r) records_so refl by.request its.mine dropped_worker

  -- WHAT TASKS HOLD

  abbrev waker : Option ℕ
  waker = option_map (λ (n : TaskNo). n.0) (waker_at (value_at (driver_of w).requests by.id.0))

  counted : (u : ℕ) → wakes_with u x ≡ wakes_with u w + count_by (λ (n : TaskNo). n.0 == u) (tasks_of (waker_at (value_at (driver_of w).requests by.id.0)))
  counted u = ap (count_by (λ (n : TaskNo). n.0 == u)) wakes_then ∙ count_both (λ (n : TaskNo). n.0 == u) w.home.deferred.notes.wakes.items woken

  abbrev hands_then : Profile → Hands
  hands_then others = record (hands_of (with_worker others w)) { wakes = λ j u. if j == w.index then wakes_with u x else others.wakes j u }

  more_by : (others : Profile) (j u : ℕ) (b : Bool) → (j == w.index) ≡ b → ((hands_then others).wakes j u ≡ (hands_of (with_worker others w)).wakes j u) ⊎ ((j ≡ w.index) × (waker ≡ Some u) × ((hands_then others).wakes j u ≡ (hands_of (with_worker others w)).wakes j u + 1))
  more_by others j u false is = inl (ap (λ b. if b then wakes_with u x else others.wakes j u) is ∙ sym (ap (λ b. if b then wakes_with u w else others.wakes j u) is))
  more_by others j u true is = by_waker (waker_at entry) refl
    where
      now_is : (hands_then others).wakes j u ≡ wakes_with u x
      now_is = ap (λ b. if b then wakes_with u x else others.wakes j u) is

      was_is : (hands_of (with_worker others w)).wakes j u ≡ wakes_with u w
      was_is = ap (λ b. if b then wakes_with u w else others.wakes j u) is

      by_waker : (o : Option TaskNo) → waker_at (value_at (driver_of w).requests by.id.0) ≡ o → ((hands_then others).wakes j u ≡ (hands_of (with_worker others w)).wakes j u) ⊎ ((j ≡ w.index) × (waker ≡ Some u) × ((hands_then others).wakes j u ≡ (hands_of (with_worker others w)).wakes j u + 1))
      by_waker None none =
          let zero_of : count_by (λ (n : TaskNo). n.0 == u) (tasks_of (waker_at entry)) ≡ 0 = ap (λ o. count_by (λ (n : TaskNo). n.0 == u) (tasks_of o)) none ∙ count_none (λ (n : TaskNo). n.0 == u) in
          inl (omega (arith, now_is, was_is, counted u, zero_of))
      by_waker (Some n) some = by_same (n.0 == u) refl
        where
          one_of : (b : Bool) → (n.0 == u) ≡ b → count_by (λ (n : TaskNo). n.0 == u) (tasks_of (waker_at entry)) ≡ cond b 1 0
          one_of b same = ap (λ o. count_by (λ (n : TaskNo). n.0 == u) (tasks_of o)) some ∙ count_one (λ (n : TaskNo). n.0 == u) n b same

          by_same : (b : Bool) → (n.0 == u) ≡ b → ((hands_then others).wakes j u ≡ (hands_of (with_worker others w)).wakes j u) ⊎ ((j ≡ w.index) × (waker ≡ Some u) × ((hands_then others).wakes j u ≡ (hands_of (with_worker others w)).wakes j u + 1))
          by_same false other =
              inl (omega (arith, now_is, was_is, counted u, one_of false other))
          by_same true same =
              let one = one_of true same in
              inr (same_number j w.index is, ap (option_map (λ (n : TaskNo). n.0)) some ∙ ap (λ m. Some m) (same_number n.0 u same), omega (arith, now_is, was_is, counted u, one))

  -- who is woken waits for it here, which isn't over, and was sent no end of it
  waits_so : (u : ℕ) → waker ≡ Some u → (by.r.shown.waiter ≡ Some u) × (outcome_in by.r.shown.phase ≡ None) × (by.r.shown.wakes_paid ≡ 0) × (by.r.sent ≡ false)
  waits_so u is = by_entry entry refl is
    where
      by_entry : (o : Option (Entry Reply Reply)) → value_at (driver_of w).requests by.id.0 ≡ o → option_map (λ (n : TaskNo). n.0) (waker_at o) ≡ Some u → (by.r.shown.waiter ≡ Some u) × (outcome_in by.r.shown.phase ≡ None) × (by.r.shown.wakes_paid ≡ 0) × (by.r.sent ≡ false)
      by_entry None at none = absurd (let no : None ≡ Some u = none in cc)
      by_entry (Some (Ready out)) at none = absurd (let no : None ≡ Some u = none in cc)
      by_entry (Some (Pending it)) at some = by_waker (waker_in it.observer) refl some
        where
          alike : IsAlike (driver_of w).wheel.start (driver_of w).wheel.tick it by.r.shown
          alike = sound.named.alike by.id.0 it by.r (rw at refl) its.there

          paid : by.r.shown.wakes_paid ≡ 0
          paid = (sound.rooted.pays kk by.r its.there its.mine).unpaid alike.open_still its.seen

          unsent : by.r.sent ≡ false
          unsent =
              let none : goes_elsewhere by.r ≡ false = ap (λ b. is_applied by.r.shown.forwarding && (b || not by.r.shown.observed)) alike.open_still ∙ ap (λ b. is_applied by.r.shown.forwarding && not b) its.seen ∙ and_off (is_applied by.r.shown.forwarding) in
              off by.r.sent (omega (arith, sound.rooted.sent kk by.r its.there its.mine ∙ ap one_when none))
            where
              and_off : (b : Bool) → (b && false) ≡ false
              and_off true = refl
              and_off false = refl

          by_waker : (o : Option TaskNo) → waker_in it.observer ≡ o → option_map (λ (n : TaskNo). n.0) (waker_in it.observer) ≡ Some u → (by.r.shown.waiter ≡ Some u) × (outcome_in by.r.shown.phase ≡ None) × (by.r.shown.wakes_paid ≡ 0) × (by.r.sent ≡ false)
          by_waker None none is = absurd (let no : None ≡ Some u = sym (ap (option_map (λ (n : TaskNo). n.0)) none) ∙ is in cc)
          by_waker (Some n) here is =
              (alike.waiter n here ∙ sym (ap (option_map (λ (n : TaskNo). n.0)) here) ∙ is, open_outcome by.r.shown.phase alike.open_still, paid, unsent)

  pub holds : (q : Place) (others : Profile) → IsWhole (with_worker others w) s → IsHolding (hands_of (with_worker others (lets_to w x q))) s.config.workers (map holder_of s.tasks.items) (map thing_of s'.requests.items) (map nap_of s.sleepers.items) (map box_of s.seats.items)
  holds q others whole =
      let things : List Thing = map thing_of s.requests.items in
      let now : map thing_of s'.requests.items ≡ slice_set things by.k (thing_of (drops by.r)) = ap (map thing_of) by.records ∙ map_set thing_of s.requests.items by.k (drops by.r) in
      let phased = sound.phased sound.seated.seat sound.seated.there in
      let boxed = mapped box_of s.seats.items w.index sound.seated.seat sound.seated.there in
      subst (λ ts. IsHolding (hands_then others) s.config.workers (map holder_of s.tasks.items) ts (map nap_of s.sleepers.items) (map box_of s.seats.items)) (sym now)
      (holding_ousted (hands_of (with_worker others w)) (hands_then others) s.config.workers w.index (map holder_of s.tasks.items) things (map nap_of s.sleepers.items) (map box_of s.seats.items) by.k (thing_of by.r) (thing_of (drops by.r)) waker
      (record {
        thing = mapped thing_of s.requests.items by.k by.r by.request;
        worker = its.mine;
        became = thing_became by.r;
        held = its.seen;
        ended = λ o is. (dropped_thing by.r).ended (ap is_some is) ∙ is;
        shut = λ box at. let same : box_of sound.seated.seat ≡ box = same_Some (box_of sound.seated.seat) box (sym boxed ∙ at) in (ap (λ (b : Box). b.shut) (sym same) ∙ phased.shut, ap (λ (b : Box). b.closing) (sym same) ∙ ap not phased.opened);
        mail = refl;
        wakes = λ j u. more_by others j u (j == w.index) refl;
        waits = waits_so;
      }) whole.holding)

  -- WHAT IS TOLD

  number : number_in w.names.requests.items by.r.id.0 ≡ by.k
  number = ap (λ (i : WaiterId). number_in w.names.requests.items i.0) its.name ∙ sym by.number

  -- it is among the awaited where a task waits for it here
  among : (y : Entry Reply Reply) → value_at (driver_of w).requests by.id.0 ≡ Some y → has_number by.k (awaited_from 0 w.names.requests.items (driver_of w).requests.slots) ≡ awaits_entry y
  among y at =
      let value : value_at (driver_of w).requests by.r.id.0 ≡ Some y = ap (λ (i : WaiterId). value_at (driver_of w).requests i.0) its.name ∙ at in
      let one = one_slot by.k w v s s' (ap served_in sound.here) sound.gates before lets its.mine its.seen y value in
      ap (λ n. has_number n (awaited_from 0 w.names.requests.items (driver_of w).requests.slots)) (sym number)
      ∙ (awaited_over w.names.requests.items (driver_of w).requests by.r.id.0 one (unawaited y) (unawaited_so y)).1
      ∙ ap awaits_entry (one_is by.k w v s s' (ap served_in sound.here) sound.gates before lets its.mine its.seen y value)

  -- the desk with who is woken
  woken_so : woken_where_awaited by.k by.r.shown (desk_of w) ≡ record (desk_of w) { wakes = (desk_of w).wakes ++ map (λ (n : TaskNo). n.0) woken }
  woken_so = by_entry entry refl by.first.held
    where
      none_so : record (desk_of w) { wakes = (desk_of w).wakes ++ [] } ≡ desk_of w
      none_so = ap (λ ws. record (desk_of w) { wakes = ws }) (append-nil (desk_of w).wakes)

      by_entry : (o : Option (Entry Reply Reply)) → value_at (driver_of w).requests by.id.0 ≡ o → is_held_at o ≡ true → woken_where_awaited by.k by.r.shown (desk_of w) ≡ record (desk_of w) { wakes = (desk_of w).wakes ++ map (λ (n : TaskNo). n.0) (tasks_of (waker_at (value_at (driver_of w).requests by.id.0))) }
      by_entry None at held = absurd (false≢true held)
      by_entry (Some (Ready out)) at held = grind (arith, among (Ready out) at, at, none_so)
      by_entry (Some (Pending it)) at held = grind (arith, among (Pending it) at, by_waker (waker_in it.observer) refl, at)
        where
          by_waker : (o : Option TaskNo) → waker_in it.observer ≡ o → (if is_some (waker_in it.observer) then record (desk_of w) { wakes = (desk_of w).wakes ++ waker_of by.r.shown.waiter } else desk_of w) ≡ record (desk_of w) { wakes = (desk_of w).wakes ++ map (λ (n : TaskNo). n.0) (tasks_of (waker_in it.observer)) }
          by_waker None is = grind (arith, is, none_so)
          by_waker (Some n) is =
              let alike : IsAlike (driver_of w).wheel.start (driver_of w).wheel.tick it by.r.shown = sound.named.alike by.id.0 it by.r (rw at refl) its.there in
              ap (λ o. if is_some o then record (desk_of w) { wakes = (desk_of w).wakes ++ waker_of by.r.shown.waiter } else desk_of w) is
              ∙ ap (λ o. record (desk_of w) { wakes = (desk_of w).wakes ++ waker_of o }) (alike.waiter n is)
              ∙ sym (ap (λ o. record (desk_of w) { wakes = (desk_of w).wakes ++ map (λ (n : TaskNo). n.0) (tasks_of o) }) is)

  pub told_seen : (q : Place) → record (told_of_drop by.k by.r.shown (woken_where_awaited by.k by.r.shown (desk_of w))) { place = q } ≡ desk_of (lets_to w x q)
  told_seen = grind (arith, wakes_then, map-append, woken_so, drop_wakes, let_it)

  closes_on : ClosesOn (driver_of x) x.home.timers w'.place
  closes_on = subst (λ (y : Worker). ClosesOn (driver_of y) y.home.timers y.place) by.worker by.place

  one_lost : {L : Type 0} (left : B → L) (spot : L → Option Said → Spot) (p : Plan) (vs : Views) → LetsOne left spot p vs (Place.Closing InClosing.Orphan) w s sound by.id.0 live (driver_of w')
  one_lost left spot p vs = record { others = unheld.others; this = unheld.this }

module _ {B L : Type 0} (left : B → L) (spot : L → Option Said → Spot) (w w' : Worker) (s s' : Shared B) (e : Event) where
  pub request_orphaned : SoundAt (Place.Closing InClosing.Orphan) w s → IsGoing w.index s.seats.items → Orphans w w' s s' e → Steps left spot w s e w' s'
  request_orphaned sound going by =
      let q : Place = w'.place in
      let x1 : Worker = x w w' s s' e sound by in
      let s1 : Shared B = t w w' s s' e sound by in
      let k : ℕ = by.k in
      let r = by.r in
      let fact = its w w' s s' e sound by in
      let spared = spares w w' s s' e sound by in
      let kept = keeps w w' s s' e sound by in
      let on = closes_on w w' s s' e sound by in
      let again : SoundAt q x1 s1 = sound_lets InClosing.Orphan LetsAt.orphan q w x1 s s1 sound going on spared kept in
      let beside : Beside w s x1 s1 = beside_lets InClosing.Orphan LetsAt.orphan q w x1 s s1 sound going on spared kept (holds w w' s s' e sound by q) again.carried.room in
      let event : Event = Orphan k (outcome_of_drop r.shown) in
      let done : Steps left spot w s event x1 s1 = (
        (λ p vs suits.
            let cs = common_of left spot p vs s in
            let d = desk_of w in
            let xs = things_with vs s in
            let seat = sound.seated.seat in
            let phased = sound.phased seat sound.seated.there in
            let mine = own_seat left spot p vs w s seat suits sound.seated.there in
            let shown : request_of cs k ≡ r.shown = record_there left spot p vs (Place.Closing InClosing.Orphan) w s sound k r by.request in
            let same_view : with_view vs w.index (visible x1) ≡ vs = ap (with_view vs w.index) (let_it w w' s s' e sound by).shows ∙ view_found vs w.index (visible w) suits.seen in
            let things : things_with vs s1 ≡ xs = grind (arith, gates_seen_same s.requests.items s'.requests.items s.opens s.opens spared.lines spared.opens, passing_same was_sent s.requests.items s'.requests.items spared.lines.sent)
            in
            let all : common_of left spot p vs s1 ≡ record cs { requests = slice_set (map (λ y. y.shown) s.requests.items) k (drops r).shown } =
            common_changed left spot p vs s s1 k r drops refl (records_so w w' s s' e sound by) by.request (dropped_name r)
            in
            let first : first_held cs d ≡ Some k = held_found left spot p vs (Place.Closing InClosing.Orphan) w s sound by.id.0 by.first ∙ ap (λ n. Some n) (sym by.number) in
            let leads : after_letting_go (held_after k cs d) (first_asleep w.index cs d) ≡ q =
            ap (λ n. after_letting_go (held_after n cs d) (first_asleep w.index cs d)) by.number
            ∙ orphan_goes left spot p vs (Place.Closing InClosing.Orphan) w s sound by.id.0 (live w w' s s' e sound by) (driver_of w') (one_lost w w' s s' e sound by left spot p vs) q on
            in
            let moved : orphan w.index cs d ≡ record { event = event; choice = Plain; desk = desk_of x1; thing = tt } =
            orphan_found w.index cs d k first
            ∙ ap (λ y. does (Orphan k (outcome_of_drop y)) (goes (after_letting_go (held_after k cs d) (first_asleep w.index cs d)) (told_of_drop k y (woken_where_awaited k y d))) tt) shown
            ∙ ap (λ y. does event (goes y (told_of_drop k r.shown (woken_where_awaited k r.shown d))) tt) leads
            ∙ ap (λ y. record { event = event; choice = Plain; desk = y; thing = tt }) (told_seen w w' s s' e sound by q)
            in
            record {
              choice = Plain;
              moves =
                  subst (λ y. move_at p.config w.index (own_of w) cs d xs y ≡ record { event = event; choice = Plain; desk = desk_of x1; thing = things_with (with_view vs w.index (visible x1)) s1 }) (sym sound.here)
                  (ap (aside xs) moved ∙ ap (λ y. record { event = event; choice = Plain; desk = desk_of x1; thing = y }) (sym things) ∙ ap (λ y. record { event = event; choice = Plain; desk = desk_of x1; thing = things_with y s1 }) (sym same_view));
              may = rw (sound.here, sound.letters.none refl) (refl, (rw mine (now_closing seat.phase phased.opened (going seat sound.seated.there)), (rw mine phased.shut, (ap (λ y. y.worker == w.index) shown ∙ ap (λ n. n == w.index) fact.mine ∙ eq-eqb w.index w.index refl, (ap (λ y. y.observed) shown ∙ fact.seen, (ap (λ y. same_end (outcome_of_drop r.shown) (outcome_of_drop y)) shown ∙ end_same r.shown, tt))))));
              own = own_place w w' s s' e sound by q (goes_to q x1 s1 on) ∙ ap (λ (y : Own). record y { serving = false }) ((let_it w w' s s' e sound by).own cs shown);
              common = ap (λ y. common_of left spot p y s1) same_view ∙ all ∙ ap (λ y. record cs { requests = slice_set (map (λ y. y.shown) s.requests.items) k (dropped y) }) (sym shown);
            }),
        again,
        unheard refl refl refl,
        beside,
      ) in
      let is : event ≡ e = ap (Orphan k) (sym (dropped_outcome r.shown)) ∙ sym by.event in
      subst (λ y. Steps left spot w s y w' s') is (subst (λ y. Steps left spot w s event y s') (sym by.worker) (subst (λ y. Steps left spot w s event x1 y) (sym by.kept) done))
    where
      -- the machine has the same of it where it goes on
      own_place : (w w' : Worker) (s s' : Shared B) (e : Event) (sound : SoundAt (Place.Closing InClosing.Orphan) w s) (by : Orphans w w' s s' e) (q : Place) → GoesTo q (x w w' s s' e sound by) (t w w' s s' e sound by) → own_of (record (x w w' s s' e sound by) { place = q }) ≡ record (own_of (v w w' s s' e sound by)) { serving = false }
      own_place w w' s s' e sound by q to = rw (to.follows.polls, to.free, to.unserved, to.owes w.workers, sound.here) refl
