-- Which steps may be taken, which the executor finds by its seats and records as the machine does; and how the whole takes those of
-- the clock, the kernel and peers.
use Rattle.std.{proofs.{Common.{◌≡◌, ℕ, zero, suc, ◌&&◌, ◌||◌, Bool, not, List, [], ◌∷◌, length, map, Option, Some, None, refl, sym, ap, ◌∙◌, arith, ◌+◌, true, false, slice_get, slice_set, option_map}, lemmas.{List.{length-map, map-set}, Bool.{false≢true, and_parts}, Option.{slice_get-map, slice_get_within, get_or_from_slice_get}}}, specs.{List.list_all, Prelude.slice_index_or}}
use Rattle.exec_outcomes.specs.{Lawful.{window_of, is_lawful}, declared.outcome.OpResult.OpResult}
use Rattle.exec_machine.specs.{declared.{step.Action.Action, event.{Event.Event, StepResult.TheVariants.Did}, state.{Call.Call, Rest.Rest, Request.Request}}, Callers.{is_enabled, is_half_done, may_work, after_landing, common_by}, Progress.Plan, Requests.{asked_of, cursor_of}, Tests.{is_awake, has_ended, is_flying}, World.{Seat, no_seat, no_request, Common, request_of}, Choice.Choice.Plain, Deadlines.roused_at}
use Rattle.exec_moves.specs.{declared.handing.CallPlace.CallPlace, Plays.{Played, Playing, desk_of as desk_at, last_told}, State.{Desk, WakePoll, wake_poll_of, passed}, Thing.set_wake_poll}
use Rattle.exec_parts.specs.{Spots.Spot, View.{Visible, visible, seat_seen, seats_seen, task_seen, Views, with_view, own_of, desk_of, common_of, polls_seen, queue_at, inbox_at, things_with, word_at}, declared.parts.{seat.Seat.Seat as Chair, record.Record.Record, shared.Shared.Shared, worker.Worker.Worker}, Phased.TurnsChair, Records.{rest_at, reached, roused}}
use Rattle.exec_invariants.{specs.Drained.{HaveLeft, IsLetOn}, proofs.{SparedRecord.there_within, MailApplies.seats_viewed, Turning.set_found, Seats.{chair_set, seat_there}, Showing.polls_kept}}
use Rattle.exec_polling.specs.{Calling.{call_of, is_free, desk_of_caller}, declared.caller.Caller.Caller}
use Rattle.exec_core.{proofs.Lifting.{unchanged, suits_it, desk_there, views_with, playing_by, world_by, Said, owned}, specs.{Lift.{world, may_take, may_call_in, may_go_on_in, may_work_in, may_land_in, has_begun, sleeps, all_left_of, Stands, playing, views, Takes, Sees, Rings, EndsPoll, Lands}, declared.executor.Core.Core}}

-- what is found by a chair is found by the seat that is seen of it
by_chair : (vs : List Visible) (seats : List Chair) (i : ℕ) (f : Option Chair → Bool) (g : Seat → Bool) → length vs ≡ length seats → f None ≡ g no_seat
    → ((v : Visible) (chair : Chair) → f (Some chair) ≡ g (seat_seen v chair)) → f (slice_get seats i) ≡ g (slice_index_or (seats_seen vs seats) i no_seat)
by_chair [] [] i f g h none some = none
by_chair (v ∷ vs) (chair ∷ chairs) zero f g h none some = some v chair
by_chair (v ∷ vs) (chair ∷ chairs) (suc i) f g h none some = by_chair vs chairs i f g (omega (arith, h)) none some
by_chair vs seats i f g h none some = absurd (omega (arith, h))

all_seen : (vs : List Visible) (seats : List Chair) → length vs ≡ length seats → all_left_of seats ≡ list_all (λ seat. seat.left || not seat.pool) (seats_seen vs seats)
all_seen [] [] h = refl
all_seen (v ∷ vs) (chair ∷ chairs) h = ap (λ b. (chair.left || not chair.pool) && b) (all_seen vs chairs (omega (arith, h)))
all_seen vs seats h = absurd (omega (arith, h))

by_map : {A X : Type 0} (v : A → X) (xs : List A) (i : ℕ) (d : X) (f : Option A → Bool) (g : X → Bool) → f None ≡ g d → ((a : A) → f (Some a) ≡ g (v a)) → f (slice_get xs i) ≡ g (slice_index_or (map v xs) i d)
by_map v [] i d f g none some = none
by_map v (x ∷ xs) zero d f g none some = some x
by_map v (x ∷ xs) (suc i) d f g none some = by_map v xs i d f g none some

-- a caller is free where its call isn't half done
free_as : (p : CallPlace) → is_free p ≡ not (is_half_done (call_of p))
free_as = grind arith

calling_as : (p : CallPlace) → not (is_free p) ≡ is_half_done (call_of p)
calling_as = grind arith

may_call_as : (cs : List Caller) (j : ℕ) → may_call_in (slice_get cs j) ≡ not (is_half_done (slice_index_or (map (λ (x : Caller). call_of x.place) cs) j Call.HalfDone))
may_call_as cs j = by_map (λ (x : Caller). call_of x.place) cs j Call.HalfDone may_call_in (λ x. not (is_half_done x)) refl (λ x. free_as x.place)

module _ {B L : Type 0} (left : B → L) (spot : L → Option Said → Spot) where
  pub enabled_as : (p : Plan) (c : Core B) (a : Action) → length c.workers.items ≡ length c.shared.seats.items → may_take c a ≡ is_enabled (world left spot p c).common a
  enabled_as p c (Action.Work i) seats =
      let vs = map visible c.workers.items in
      let same : length vs ≡ length c.shared.seats.items = length-map c.workers.items visible ∙ seats in
      by_chair vs c.shared.seats.items i (may_work_in c.shared.seats.items) (may_work (world left spot p c).common) same refl
      (λ v chair. ap (λ b. is_awake chair.rest && not (has_ended chair.phase) && not (chair.pool && chair.left && not b)) (all_seen vs c.shared.seats.items same))
  enabled_as p c (Action.Clock d) seats = refl
  enabled_as p c (Action.Land r n) seats =
      by_map (λ x. x.shown) c.shared.requests.items r no_request (λ x. may_land_in x n) (λ it. is_flying it.phase && is_lawful (window_of (asked_of it.operation) (cursor_of it.operation)) n) refl (λ x. refl)
  enabled_as p c (Action.SetBusy i) seats =
      by_chair (map visible c.workers.items) c.shared.seats.items i has_begun (λ seat. not (has_ended seat.phase)) (length-map c.workers.items visible ∙ seats) refl (λ v chair. refl)
  enabled_as p c (Action.EndPoll i) seats =
      by_chair (map visible c.workers.items) c.shared.seats.items i has_begun (λ seat. not (has_ended seat.phase)) (length-map c.workers.items visible ∙ seats) refl (λ v chair. refl)
  enabled_as p c (Action.Stir i) seats =
      by_chair (map visible c.workers.items) c.shared.seats.items i sleeps (λ seat. not (is_awake seat.rest)) (length-map c.workers.items visible ∙ seats) refl (λ v chair. refl)
  enabled_as p c (Action.Peer l) seats = refl
  enabled_as p c (Action.Spawn j k) seats = may_call_as c.callers.items j
  enabled_as p c (Action.Wake j t) seats = grind (arith, may_call_as c.callers.items j, length-map c.shared.tasks.items (task_seen left spot))
  enabled_as p c (Action.GoOn j) seats =
      by_map (λ (x : Caller). call_of x.place) c.callers.items j Call.Nothing may_go_on_in is_half_done refl (λ x. calling_as x.place)

-- WHAT MAY BE TAKEN IS THERE

pub going_there : (seats : List Chair) (o : Option Chair) → may_work_in seats o ≡ true → (chair : Chair) → o ≡ Some chair → has_ended chair.phase ≡ false
going_there = grind arith

-- who has passed the barrier may work only once all have
left_by : (a pool left all : Bool) → (a && not (pool && left && not all)) ≡ true → pool ≡ true → left ≡ true → all ≡ true
left_by = grind arith

all_left : (seats : List Chair) → all_left_of seats ≡ true → HaveLeft seats
all_left [] all j chair there = absurd (cc)
all_left (seat ∷ seats) all zero chair there = grind (arith, and_parts)
all_left (seat ∷ seats) all (suc j) chair there = all_left seats (and_parts (seat.left || not seat.pool) (all_left_of seats) all).1 j chair there

let_on_by : (seats : List Chair) (o : Option Chair) → may_work_in seats o ≡ true → (chair : Chair) → o ≡ Some chair → chair.pool ≡ true → chair.left ≡ true → HaveLeft seats
let_on_by = grind (arith, all_left, left_by)

-- what passes a test that none passes is there
pub found_by : {A : Type 0} (may : Option A → Bool) (o : Option A) → may None ≡ false → may o ≡ true → (x : A) × (o ≡ Some x)
found_by may None none h = absurd (false≢true (sym none ∙ h))
found_by may (Some x) none h = (x, refl)

module _ {B : Type 0} where
  -- a worker for each chair
  pub worker_there : (c : Core B) (i : ℕ) (chair : Chair) → Stands c → slice_get c.shared.seats.items i ≡ Some chair → (w : Worker) × (slice_get c.workers.items i ≡ Some w)
  worker_there c i chair stands there = there_within c.workers.items i (let inside = slice_get_within c.shared.seats.items i chair there in omega (arith, inside, stands.together.seats))

  -- each request is one of a worker that is there
  pub owner_there : (c : Core B) (r : ℕ) (it : Record) → Stands c → slice_get c.shared.requests.items r ≡ Some it → (w : Worker) × (slice_get c.workers.items it.shown.worker ≡ Some w)
  owner_there c r it stands there = there_within c.workers.items it.shown.worker (owned c stands r it there)

  pub let_on_there : (c : Core B) (i : ℕ) (w : Worker) → Stands c → slice_get c.workers.items i ≡ Some w → may_take c (Action.Work i) ≡ true → IsLetOn w.index c.shared.seats.items
  let_on_there c i w stands was may chair there passed =
      let it = stands.together.sound i w was in
      let_on_by c.shared.seats.items (slice_get c.shared.seats.items i) may chair (ap (slice_get c.shared.seats.items) (sym it.0) ∙ there) (and_parts chair.pool _ (sym (it.1.phased chair there).left ∙ passed)).0 passed

  -- what parties share is seen by these parts of it
  things_kept : (vs : Views) (s s' : Shared B) → s'.global ≡ s.global → s'.idle ≡ s.idle → s'.barrier_open ≡ s.barrier_open → s'.set ≡ s.set → s'.requests ≡ s.requests → s'.sleepers ≡ s.sleepers → s'.opens ≡ s.opens
      → map queue_at s'.seats.items ≡ map queue_at s.seats.items → map word_at s'.seats.items ≡ map word_at s.seats.items → map inbox_at s'.seats.items ≡ map inbox_at s.seats.items
      → polls_seen vs.workers s'.seats.items ≡ polls_seen vs.workers s.seats.items → things_with vs s' ≡ things_with vs s
  things_kept = grind arith

-- WHAT IS SEEN OF THE SEATS

roused_one : (clock : ℕ) (v : Visible) (chair : Chair) (x : Rest) → seat_seen v (record chair { rest = rest_at clock x }) ≡ roused_at clock (seat_seen v (record chair { rest = x }))
roused_one = grind arith

all_roused : (clock : ℕ) (vs : List Visible) (seats : List Chair) → seats_seen vs (map (reached clock) seats) ≡ map (roused_at clock) (seats_seen vs seats)
all_roused clock (v ∷ vs) (chair ∷ chairs) = rw (all_roused clock vs chairs, roused_one clock v chair chair.rest) refl
all_roused clock vs seats = refl

seat_is : (vs : List Visible) (seats : List Chair) (i : ℕ) (v : Visible) (chair : Chair) → slice_get vs i ≡ Some v → slice_get seats i ≡ Some chair → slice_index_or (seats_seen vs seats) i no_seat ≡ seat_seen v chair
seat_is vs seats i v chair seen there = get_or_from_slice_get (seats_seen vs seats) i (seat_seen v chair) no_seat (seat_there vs seats i v chair seen there)

-- WHAT PARTIES SHARE, where only the rests of seats change, or a ring is busy

reached_kept : {X : Type 0} (f : Chair → X) (clock : ℕ) (seats : List Chair) → ((chair : Chair) → f (reached clock chair) ≡ f chair) → map f (map (reached clock) seats) ≡ map f seats
reached_kept f clock [] same = refl
reached_kept f clock (seat ∷ seats) same = rw (same seat, reached_kept f clock seats same) refl

polls_reached : (clock : ℕ) (vs : List Visible) (seats : List Chair) → polls_seen vs (map (reached clock) seats) ≡ polls_seen vs seats
polls_reached clock (v ∷ vs) (seat ∷ seats) = rw (polls_reached clock vs seats) refl
polls_reached clock vs seats = refl

polls_busy : (vs : List Visible) (seats : List Chair) (i : ℕ) (v : Visible) → slice_get vs i ≡ Some v → polls_seen (slice_set vs i (record v { busy = true })) seats ≡ polls_seen vs seats
polls_busy [] seats i v there = absurd (cc)
polls_busy (x ∷ vs) (seat ∷ seats) (suc i) v there = rw (polls_busy vs seats i v there) refl
polls_busy (x ∷ vs) seats i v there = grind arith

module _ {B L : Type 0} (left : B → L) (spot : L → Option Said → Spot) where
  -- a step of no party: the whole is as before, but for what all share, and what the machine has of that
  by_nobody : (p : Plan) (c d : Core B) (a : Action) (e : Event) → d.workers ≡ c.workers → d.callers ≡ c.callers
      → common_of left spot p (views c) d.shared ≡ common_by (common_of left spot p (views c) c.shared) a e Plain → things_with (views c) d.shared ≡ things_with (views c) c.shared
      → playing left spot p d ≡ record (playing left spot p c) { world = record (world left spot p c) { common = common_by (common_of left spot p (views c) c.shared) a e Plain } }
  by_nobody = grind arith

  played_as : (a : Action) (e : Event) (x y : Playing) → x ≡ y → (let it : Played = record { told = (record { action = a; said = Did e }, Plain); next = y } in it) ≡ record { told = (record { action = a; said = Did e }, Plain); next = x }
  played_as a e x y same = ap (λ n. (let it : Played = record { told = (record { action = a; said = Did e }, Plain); next = n } in it)) (sym same)

  pub clock_moved : (p : Plan) (c d : Core B) (by : ℕ) → Stands c → may_take c (Action.Clock by) ≡ true → d.workers ≡ c.workers → d.callers ≡ c.callers
      → d.shared.seats.items ≡ map (reached (c.shared.clock + by)) c.shared.seats.items → d.shared ≡ record c.shared { clock = c.shared.clock + by; seats = d.shared.seats }
      → Takes left spot p c (Action.Clock by) Event.Clock d
  clock_moved = grind (arith, all_roused, things_kept, reached_kept, polls_reached, enabled_as, by_nobody, played_as)

  pub stirred : (p : Plan) (c d : Core B) (i : ℕ) → Stands c → may_take c (Action.Stir i) ≡ true → d.workers ≡ c.workers → d.callers ≡ c.callers
      → TurnsChair i roused c.shared d.shared → d.shared ≡ record c.shared { seats = d.shared.seats }
      → Takes left spot p c (Action.Stir i) Event.Stir d
  stirred p c d i stands may workers callers turns kept =
      let vs = views c in
      let chair = found_by sleeps (slice_get c.shared.seats.items i) refl may in
      let w = worker_there c i chair.0 stands chair.1 in
      let seen : slice_get vs.workers i ≡ Some (visible w.0) = slice_get-map visible c.workers.items i ∙ ap (option_map visible) w.1 in
      let here : slice_index_or (seats_seen vs.workers c.shared.seats.items) i no_seat ≡ seat_seen (visible w.0) chair.0 = seat_is vs.workers c.shared.seats.items i (visible w.0) chair.0 seen chair.1 in
      let seats : d.shared.seats.items ≡ slice_set c.shared.seats.items i (roused chair.0) = turns chair.0 chair.1 in
      let seats_then : seats_seen vs.workers d.shared.seats.items ≡ slice_set (seats_seen vs.workers c.shared.seats.items) i (record (slice_index_or (seats_seen vs.workers c.shared.seats.items) i no_seat) { rest = Rest.Awake }) =
      ap (seats_seen vs.workers) seats ∙ chair_set vs.workers c.shared.seats.items i (visible w.0) (roused chair.0) seen ∙ ap (λ x. slice_set (seats_seen vs.workers c.shared.seats.items) i (record x { rest = Rest.Awake })) (sym here) in
      let common : common_of left spot p vs d.shared ≡ record (common_of left spot p vs c.shared) { seats = slice_set (seats_seen vs.workers c.shared.seats.items) i (record (slice_index_or (seats_seen vs.workers c.shared.seats.items) i no_seat) { rest = Rest.Awake }) } =
      ap (λ s. common_of left spot p vs s) kept ∙ ap (λ xs. record (common_of left spot p vs c.shared) { seats = xs }) seats_then in
      let things = things_kept vs c.shared d.shared (ap (λ s. s.global) kept) (ap (λ s. s.idle) kept) (ap (λ s. s.barrier_open) kept) (ap (λ s. s.set) kept) (ap (λ s. s.requests) kept) (ap (λ s. s.sleepers) kept) (ap (λ s. s.opens) kept)
      (unchanged queue_at c.shared.seats.items d.shared.seats.items i chair.0 (roused chair.0) chair.1 seats refl) (unchanged word_at c.shared.seats.items d.shared.seats.items i chair.0 (roused chair.0) chair.1 seats refl)
      (unchanged inbox_at c.shared.seats.items d.shared.seats.items i chair.0 (roused chair.0) chair.1 seats refl) (ap (polls_seen vs.workers) seats ∙ polls_kept vs.workers c.shared.seats.items i chair.0 (roused chair.0) chair.1 refl) in
      grind arith

  -- of a worker another thing is visible
  pub set_busy : (p : Plan) (c d : Core B) (i : ℕ) → Stands c → may_take c (Action.SetBusy i) ≡ true → Sees i (λ seen. record seen { busy = true }) c d
      → Takes left spot p c (Action.SetBusy i) Event.Set d
  set_busy p c d i stands may sees =
      let vs = views c in
      let chair = found_by has_begun (slice_get c.shared.seats.items i) refl may in
      let shared : d.shared ≡ c.shared = ap (λ (x : Core B). x.shared) sees.now in
      let callers : d.callers ≡ c.callers = ap (λ (x : Core B). x.callers) sees.now in
      let seen : slice_get vs.workers i ≡ Some (visible sees.before) = slice_get-map visible c.workers.items i ∙ ap (option_map visible) sees.was in
      let here : slice_index_or (seats_seen vs.workers c.shared.seats.items) i no_seat ≡ seat_seen (visible sees.before) chair.0 = seat_is vs.workers c.shared.seats.items i (visible sees.before) chair.0 seen chair.1 in
      let busy : Visible = record (visible sees.before) { busy = true } in
      let views_are : views d ≡ with_view vs i busy = views_with c d i sees.after sees.workers callers ∙ ap (with_view vs i) sees.seen in
      let seats : seats_seen (slice_set vs.workers i busy) c.shared.seats.items ≡ slice_set (seats_seen vs.workers c.shared.seats.items) i (record (slice_index_or (seats_seen vs.workers c.shared.seats.items) i no_seat) { busy = true }) =
      seats_viewed vs.workers c.shared.seats.items i busy chair.0 chair.1 ∙ ap (λ x. slice_set (seats_seen vs.workers c.shared.seats.items) i (record x { busy = true })) (sym here) in
      let common : common_of left spot p (with_view vs i busy) c.shared ≡ common_by (common_of left spot p vs c.shared) (Action.SetBusy i) Event.Set Plain = ap (λ xs. record (common_of left spot p vs c.shared) { seats = xs }) seats in
      let things : things_with (with_view vs i busy) c.shared ≡ things_with vs c.shared = ap (λ xs. record (things_with vs c.shared) { wake_polls = xs }) (polls_busy vs.workers c.shared.seats.items i (visible sees.before) seen) in
      let then_is : playing left spot p d ≡ record (playing left spot p c) { world = record (world left spot p c) { common = common_by (common_of left spot p vs c.shared) (Action.SetBusy i) Event.Set Plain } } =
      (playing_by _ _ _ _ _ _ _ _
      (world_by _ _ _ _ (unchanged own_of c.workers.items d.workers.items i sees.before sees.after sees.was sees.workers sees.own) (ap (common_of left spot p (views d)) shared ∙ ap (λ v. common_of left spot p v c.shared) views_are ∙ common))
      (unchanged desk_of c.workers.items d.workers.items i sees.before sees.after sees.was sees.workers sees.desk) (ap (λ cs. map desk_of_caller cs.items) callers)
      (ap (things_with (views d)) shared ∙ ap (λ v. things_with v c.shared) views_are ∙ things)) in
      grind arith

  -- A RING takes its wakes, and more

  rung : (i : ℕ) (poll : WakePoll → WakePoll) (desk : Desk → Desk) (all : Common → Common) (p : Plan) (c d : Core B) → Stands c → c.shared.config ≡ p.config → Rings left spot i poll desk all c d
      → playing left spot p d ≡ (let x : Playing = playing left spot p c in record x { world = record x.world { common = all x.world.common }; desks = slice_set x.desks i (desk (desk_at p.config x i)); things = set_wake_poll i x.things (poll (wake_poll_of x.things i)) })
  rung i poll desk all p c d stands config rings =
      let vs = views c in
      let x = playing left spot p c in
      let at : rings.before.index ≡ i = (stands.together.sound i rings.before rings.was).0 in
      let suits = suits_it left spot p c i rings.before stands rings.was config in
      let seen : views d ≡ with_view vs rings.before.index (visible rings.after) = views_with c d i rings.after rings.workers rings.callers ∙ ap (λ k. with_view vs k (visible rings.after)) (sym at) in
      playing_by _ _ _ _ _ _ _ _
      (world_by _ _ _ _ (unchanged own_of c.workers.items d.workers.items i rings.before rings.after rings.was rings.workers rings.own) (ap (λ v. common_of left spot p v d.shared) seen ∙ rings.common p vs suits))
      (ap (map desk_of) rings.workers ∙ map-set desk_of c.workers.items i rings.after ∙ ap (slice_set x.desks i) (rings.desk_is ∙ ap desk (sym (desk_there left spot p c i rings.before rings.was))))
      (ap (λ cs. map desk_of_caller cs.items) rings.callers)
      (ap (λ v. things_with v d.shared) seen ∙ rings.things p vs suits ∙ ap (λ k. set_wake_poll k x.things (poll (wake_poll_of x.things k))) at)

  pub poll_ended : (p : Plan) (c d : Core B) (i : ℕ) → c.shared.config ≡ p.config → Stands c → may_take c (Action.EndPoll i) ≡ true → EndsPoll left spot i c d
      → Takes left spot p c (Action.EndPoll i) Event.Set d
  poll_ended p c d i config stands may ends =
      let x = playing left spot p c in
      let same : slice_set x.desks i (desk_at p.config x i) ≡ x.desks =
      ap (slice_set x.desks i) (desk_there left spot p c i ends.before ends.was) ∙ set_found x.desks i (desk_of ends.before) (slice_get-map desk_of c.workers.items i ∙ ap (option_map desk_of) ends.was) in
      record {
        choice = Plain;
        follows = (sym (enabled_as left spot p c (Action.EndPoll i) stands.together.seats) ∙ may, (refl, tt));
        becomes = ap (λ (y : Playing). y.world) (rung i last_told (λ k. k) (λ s. s) p c d stands config ends);
        callers = λ h. ends.callers;
        goes = played_as (Action.EndPoll i) Event.Set (playing left spot p d) _
            (rung i last_told (λ k. k) (λ s. s) p c d stands config ends ∙ ap (λ xs. record x { desks = xs; things = set_wake_poll i x.things (last_told (wake_poll_of x.things i)) }) same);
      }

  pub landed : (p : Plan) (c d : Core B) (r : ℕ) (n : OpResult) → c.shared.config ≡ p.config → Stands c → may_take c (Action.Land r n) ≡ true → Lands left spot r n c d
      → Takes left spot p c (Action.Land r n) Event.Land d
  landed p c d r n config stands may lands =
      let x = playing left spot p c in
      let k = lands.it.shown.worker in
      let it : request_of x.world.common r ≡ lands.it.shown =
      get_or_from_slice_get (map (λ (z : Record). z.shown) c.shared.requests.items) r lands.it.shown no_request (slice_get-map (λ (z : Record). z.shown) c.shared.requests.items r ∙ ap (option_map (λ (z : Record). z.shown)) lands.there) in
      let after_it : ℕ → Playing = λ i. record x {
        world = record x.world { common = after_landing x.world.common r n };
        desks = slice_set x.desks i (record (desk_at p.config x i) { others = 0 });
        things = set_wake_poll i x.things (passed (wake_poll_of x.things i));
      } in
      record {
        choice = Plain;
        follows = (sym (enabled_as left spot p c (Action.Land r n) stands.together.seats) ∙ may, (refl, tt));
        becomes = ap (λ (y : Playing). y.world) (rung k passed (λ desk. record desk { others = 0 }) (λ s. after_landing s r n) p c d stands config lands.rings);
        callers = λ h. lands.rings.callers;
        goes = played_as (Action.Land r n) Event.Land (playing left spot p d) _
            (rung k passed (λ desk. record desk { others = 0 }) (λ s. after_landing s r n) p c d stands config lands.rings ∙ ap after_it (ap (λ (z : Request). z.worker) (sym it)));
      }
