-- What is known of an open worker, while nobody closes, from what is carried and what is given of each state.
use Rattle.std.{proofs.{Common.{◌≡◌, ℕ, zero, suc, ◌+◌, ◌*◌, ◌^◌, ◌≤◌, ◌<◌, Bool, true, false, not, ◌&&◌, List, [], ◌∷◌, length, get_or, refl, sym, ap, subst, ◌∙◌, arith}, lemmas.{Bool.{cases_lt, true≢false, ltb-true, le-ltb, or_parts}, List.{get_or_append_left, get_or_past, get_or-set_same, length-set}}}, specs.{Prelude.nat_lt, List.list_any}}
use Rattle.exec_credit.proofs.Spins.{within_largest}
use Rattle.exec_words.specs.Head.{is_spent}
use Rattle.exec_machine.specs.{After.own_after, Callers.{is_held, is_enabled}, Tests.{is_awake, has_ended, is_closing, is_open}, World.{Common, World, Own as Books, Seat, no_seat, own_of, seat_of}, declared.{config.Configuration.Configuration, state.WorkerPhase.WorkerPhase, step.Action.Action as action}, Progress.is_anyone_closing, Text.is_quiet}
use Rattle.exec_moves.specs.{declared.place.Place.Place, Callback.is_of_pool, Move.{move, move_at}, Plays.{Playing, by_move, desk_of}, Seen.serves_at, State.{Desk, Moved, Things, queue_of}}
use Rattle.exec_rest.{specs.{AtRest.{AreBare, IsPlaced, is_fed, is_given}, Posted.IsPosted, Rested.IsRestful}, proofs.Frames.desk_own}
use Rattle.exec_settled.specs.Given.{IsGiven}
use Rattle.exec_progress.specs.{Left.left_to, Effort.steps_left, Going.{Falls, FallsAt, IsGoing, left_after, is_pushing, seen}, Granted.IsGranted, Paced.IsPaced}

-- WHO IS OPEN

-- nobody closes
none_closing : (seats : List Seat) (i : ℕ) → list_any (λ seat. is_closing seat.phase) seats ≡ false → is_closing (get_or seats i no_seat).phase ≡ false
none_closing [] i none = refl
none_closing (y ∷ ys) zero none = (or_parts (is_closing y.phase) (list_any (λ seat. is_closing seat.phase) ys) none).0
none_closing (y ∷ ys) (suc i) none = none_closing ys i (or_parts (is_closing y.phase) (list_any (λ seat. is_closing seat.phase) ys) none).1

open_then : (p : WorkerPhase) → is_closing p ≡ false → has_ended p ≡ false → is_open p ≡ true
open_then = grind arith

unended : (a b e : Bool) → (a && not b && e) ≡ true → b ≡ false
unended = grind arith

-- who takes a step while nobody closes is open
pub still_open : (w : World) (i : ℕ) → is_anyone_closing w ≡ false → is_enabled w.common (action.Work i) ≡ true → is_open (seat_of w.common i).phase ≡ true
still_open = grind (arith, open_then, none_closing, unended)

-- past the end stands one that has ended
there : (seats : List Seat) (i : ℕ) → has_ended (get_or seats i no_seat).phase ≡ false → i < length seats
there = grind (arith, cases_lt, true≢false, get_or_past)

unspent_below : (tail n : ℕ) → tail ≤ 256 * n + 256 → n ≤ 2 ^ 32 → is_spent tail ≡ false
unspent_below tail n h k = grind (arith, h, k)

-- where a value is pushed it is one of a worker of the pool
pushing : {pool : Bool} (p : Place) → (is_fed p ≡ true → pool ≡ true) → (is_given p ≡ true → pool ≡ true) → is_pushing p ≡ true → pool ≡ true
pushing = grind arith

module _ (n : ℕ) (few : n ≤ 2 ^ 32) (c : Configuration) (x : Playing) (placed : IsPlaced c x) (given : IsGiven c x) (granted : IsGranted c x) (restful : IsRestful c x) (bare : AreBare c x) (posted : IsPosted c x) (paced : IsPaced n c x)
    (nobody : is_anyone_closing x.world ≡ false) (i : ℕ) (on : is_enabled x.world.common (action.Work i) ≡ true) where
  abbrev s : Common
  s = x.world.common

  abbrev me : Books
  me = own_of x.world i

  abbrev d : Desk
  d = desk_of c x i

  goes_on : has_ended (seat_of s i).phase ≡ false
  goes_on = unended (is_awake (seat_of s i).rest) (has_ended (seat_of s i).phase) (not (is_held s (seat_of s i))) on

  open_here : is_open (seat_of s i).phase ≡ true
  open_here = still_open x.world i nobody on

  here : i < length s.seats
  here = there s.seats i goes_on

  pool_is : (j : ℕ) → j < length s.seats → is_of_pool s j ≡ nat_lt j c.workers
  pool_is = granted.pool

  -- who is no worker of the pool has no queue
  no_queue_past : (j : ℕ) → c.workers ≤ j → (queue_of x.things j).values ≡ []
  no_queue_past = grind (arith, cases_lt, pool_is, le-ltb, get_or_past)

  pub going : IsGoing c i me s d x.things d.place
  going = grind (arith, here, ltb-true, pool_is, open_here, pushing, no_queue_past, unspent_below, within_largest)

  -- THE STEP, by the move at its place

  abbrev m : Moved Things
  m = move c i me s d x.things

  abbrev next : Playing
  next = (by_move c x i m).next

  -- the machine's part of it says what its place does
  as_seen : me ≡ seen d.place me
  as_seen = ap (λ v. record me { serving = v; next = me.next }) (granted.serves i) ∙ ap (λ v. record me { serving = serves_at d.place; next = v }) (given.nexts i)

  own_then : own_of next.world i ≡ own_after c me s i m.event m.choice
  own_then = grind (arith, here, get_or_append_left, length-set, get_or-set_same)

  desk_then : desk_of c next i ≡ m.desk
  desk_then = desk_own c x i m (omega (arith, here, placed.laid.desks))

  pub down_by : ((p : Place) → FallsAt c i me s d x.things p) → is_quiet m.event ≡ true → left_to c next i < left_to c x i
  down_by falls quiet =
      let fell : left_after c i me s m < left_to c x i =
      subst (λ (y : Books). IsGoing c i y s d x.things d.place → Falls c i y s d x.things (move_at c i y s d x.things d.place)) (sym as_seen) (falls d.place) going quiet in
      let now : left_to c next i ≡ left_after c i me s m = ap (λ (y : Books). steps_left c i y next.world.common (desk_of c next i) m.thing) own_then ∙ ap (λ (e : Desk). steps_left c i (own_after c me s i m.event m.choice) next.world.common e m.thing) desk_then in
      omega (arith, now, fell)
