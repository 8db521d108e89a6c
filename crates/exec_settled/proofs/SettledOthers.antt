-- Steps of outside callers, of the clock, the kernel and the peers keep what each worker has done before it sleeps.
use Rattle.std.{proofs.{Common.{◌≡◌, ℕ, ◌+◌, true, List, [], ◌∷◌, ◌++◌, get_or, refl, ap, arith}, lemmas.Bool.{false≢true, and_parts}}, specs.Prelude.not}
use Rattle.exec_outcomes.specs.Lawful.{is_lawful, window_of}
use Rattle.exec_machine.specs.{declared.{config.Configuration.Configuration, event.Event.Event, state.Rest.TheVariants.Awake, step.Action.{Action, Action as action}}, Callers.{after_going_on, after_wake_by_call, is_enabled}, Choice.Choice, Deadlines.roused_at, Requests.{asked_of, cursor_of}, Tests.{is_awake, is_flying}, World.{Common, Seat, no_own, no_request, no_seat, own_of, request_of, seat_of, task_of}}
use Rattle.exec_moves.specs.{MoveOfCaller.{call_on, call_wake}, Plays.{Playing, by_action, caller_of, desk_of}}
use Rattle.exec_rest.{specs.{AtRest.IsPlaced, Rested.place_at}, proofs.{CallHeeds.set_at, CallSeats.{Seated, going_seated, wake_begun}, Calls.is_call, Others.{beside, is_other, map_like, set_like}}}
use Rattle.exec_settled.{specs.Settled.IsSettled, proofs.{SettledLike.{Alike, AreAlike, all_same, flying_live, itself, moves_on}, SettledOf.{Rests, all_of, each, left_settled}, SettledPlaces.{not-true, kept, listed}}}
use Rattle.exec_machine.specs.declared.state.RequestPhase.TheVariants as phase

wake_requests : (s : Common) (t : ℕ) (e : Event) (choice : Choice) → (after_wake_by_call s t e choice).requests ≡ s.requests
wake_requests = grind arith

going_requests : (s : Common) (j : ℕ) (e : Event) → (after_going_on s j e).requests ≡ s.requests
going_requests = grind arith

module _ (c : Configuration) (x : Playing) where
  abbrev s : Common
  s = x.world.common

  -- a step after which all workers stand where they stood, with what they had
  stand_still : (next : Playing) → next.world.workers ≡ x.world.workers → ((i : ℕ) → place_at c next i ≡ place_at c x i) → ((i : ℕ) → kept (desk_of c next i) ≡ kept (desk_of c x i))
      → ((i : ℕ) → AreAlike i s.requests next.world.common.requests) → ((i : ℕ) → Rests (seat_of s i) (seat_of next.world.common i)) → IsSettled c x → IsSettled c next
  stand_still next workers place desk requests rests before = all_of c next (λ i.
      left_settled c i (own_of x.world i) (own_of next.world i) (desk_of c x i) (desk_of c next i) s next.world.common
      (record {
        place = place i;
        desk = desk i;
        own = ap (λ ws. listed (get_or ws i no_own)) workers;
        untold = ap (λ ws. (get_or ws i no_own).untold) workers;
        requests = requests i;
        rests = rests i;
      })
      (each c x before i))

  seated_rests : (after : List Seat) (e : Event) → Seated s.seats after e → (i : ℕ) → Rests (seat_of s i) (get_or after i no_seat)
  seated_rests after e seated i h = (ap not (seated.asleep i (not-true (is_awake (get_or after i no_seat).rest) h)).0, seated.landed i)

  pub caller_settles : (a : Action) → is_call a ≡ true → IsSettled c x → IsSettled c (by_action c x a).next
  caller_settles (action.Spawn j k) is before = grind arith
  caller_settles (action.Wake j t) is before =
      let m = call_wake s (caller_of x j) x.things t (task_of s t).home in
      stand_still (by_action c x (action.Wake j t)).next refl (λ i. refl) (λ i. refl)
      (λ i. all_same i s.requests _ (wake_requests s t m.event m.choice))
      (seated_rests (after_wake_by_call s t m.event m.choice).seats m.event (wake_begun s (caller_of x j) x.things t (task_of s t).home).seats) before
  caller_settles (action.GoOn j) is before =
      let m = call_on s (caller_of x j) x.things (caller_of x j).place in
      stand_still (by_action c x (action.GoOn j)).next refl (λ i. refl) (λ i. refl)
      (λ i. all_same i s.requests _ (going_requests s j m.event)) (seated_rests (after_going_on s j m.event).seats m.event (going_seated s j m.event)) before
  caller_settles (action.Work i) is before = absurd (false≢true is)
  caller_settles (action.Clock n) is before = absurd (false≢true is)
  caller_settles (action.Land r n) is before = absurd (false≢true is)
  caller_settles (action.SetBusy i) is before = absurd (false≢true is)
  caller_settles (action.EndPoll i) is before = absurd (false≢true is)
  caller_settles (action.Stir i) is before = absurd (false≢true is)
  caller_settles (action.Peer l) is before = absurd (false≢true is)

  -- THE CLOCK, THE KERNEL, THE PEERS

  -- who sleeps then has had nothing land
  abbrev Lands : Seat → Seat → Type 0
  Lands a b = not (is_awake b.rest) ≡ true → b.landed ≡ a.landed

  kept_there : (a : Action) → is_other a ≡ true → (i : ℕ) → kept (desk_of c (by_action c x a).next i) ≡ kept (desk_of c x i)
  kept_there = grind (arith, set_at, kept, false≢true)

  lands_there : (a : Action) → is_other a ≡ true → (i : ℕ) → Lands (seat_of s i) (seat_of (by_action c x a).next.world.common i)
  lands_there (action.Clock d) other i = map_like Lands (roused_at (s.clock + d)) no_seat (λ h. refl) (λ a h. refl) s.seats i
  lands_there (action.Land r n) other i =
      let home = (request_of s r).worker in
      set_like Lands (λ a h. refl) s.seats home i (record (seat_of s home) { landed = (seat_of s home).landed ++ r ∷ []; rest = Awake }) no_seat (λ h. absurd (false≢true h))
  lands_there (action.SetBusy j) other i = set_like Lands (λ a h. refl) s.seats j i (record (seat_of s j) { busy = true }) no_seat (λ h. refl)
  lands_there (action.EndPoll j) other i = λ h. refl
  lands_there (action.Stir j) other i = set_like Lands (λ a h. refl) s.seats j i (record (seat_of s j) { rest = Awake }) no_seat (λ h. refl)
  lands_there (action.Peer l) other i = λ h. refl
  lands_there (action.Work i) other j = absurd (false≢true other)
  lands_there (action.Spawn j k) other i = absurd (false≢true other)
  lands_there (action.Wake j t) other i = absurd (false≢true other)
  lands_there (action.GoOn j) other i = absurd (false≢true other)

  -- what lands was in flight, and isn't over by that
  alike_there : (a : Action) → is_other a ≡ true → is_enabled s a ≡ true → (i : ℕ) → AreAlike i s.requests (by_action c x a).next.world.common.requests
  alike_there (action.Clock d) other may i = all_same i s.requests _ refl
  alike_there (action.Land r n) other may i = λ k.
      let it = request_of s r in
      let flying = (and_parts (is_flying it.phase) (is_lawful (window_of (asked_of it.operation) (cursor_of it.operation)) n) may).0 in
      set_like (Alike i) (itself i) s.requests r k (record it { phase = phase.Landed n }) no_request (moves_on i it (phase.Landed n) (flying_live it.phase flying) refl refl)
  alike_there (action.SetBusy j) other may i = all_same i s.requests _ refl
  alike_there (action.EndPoll j) other may i = all_same i s.requests _ refl
  alike_there (action.Stir j) other may i = all_same i s.requests _ refl
  alike_there (action.Peer l) other may i = all_same i s.requests _ refl
  alike_there (action.Work i) other may j = absurd (false≢true other)
  alike_there (action.Spawn j k) other may i = absurd (false≢true other)
  alike_there (action.Wake j t) other may i = absurd (false≢true other)
  alike_there (action.GoOn j) other may i = absurd (false≢true other)

  workers_there : (a : Action) → is_other a ≡ true → (by_action c x a).next.world.workers ≡ x.world.workers
  workers_there = grind arith

  pub other_settles : IsPlaced c x → (a : Action) → is_other a ≡ true → is_enabled s a ≡ true → IsSettled c x → IsSettled c (by_action c x a).next
  other_settles placed a other may before =
      let next = (by_action c x a).next in
      let beside_it = beside c x placed.laid a other in
      stand_still next (workers_there a other) (λ i. (beside_it.workers i).place) (kept_there a other) (alike_there a other may)
      (λ i h. ((beside_it.workers i).asleep h, lands_there a other i h)) before
