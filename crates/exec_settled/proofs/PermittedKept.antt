-- No step leaves a permit with who sleeps.
use Rattle.std.proofs.{Common.{◌≡◌, ℕ, ◌<◌, Bool, true, false, length, refl, sym, ap, ◌∙◌, subst, if◌then◌else◌, arith}, lemmas.{Bool.{true≢false, and_parts, cases_lt, not-true}, List.get_or_past}}
use Rattle.exec_machine.specs.{declared.{config.Configuration.Configuration, step.Action.{Action, Action as action}}, Callers.is_enabled, Examples.refuses, Progress.Plan, Run.Follows, World.{Common, Own as Books, own_of}}
use Rattle.exec_moves.specs.{declared.place.{InPoll.InPoll, Place.Place}, Move.{move, move_at}, Plays.{Playing, by_action, by_step, desk_of, first_playing}, State.{Desk, Moved, Things}}
use Rattle.exec_books.specs.Booked.{IsBooked}
use Rattle.exec_rest.{specs.AtRest.IsPlaced, proofs.{Frames.{desk_other, desk_own}, Heeds.Heeds, Step.heeds_at}}
use Rattle.exec_settled.{specs.{Given.IsGiven, Permits.{IsPermitted, is_past}}, proofs.{HandsAt.hands_at, PermittedBeside.permitted_aside, PermittedEvents.leaves, PermittedSteps.permitted_by_move}}

-- Nobody stands at a gate, and there is no request.
pub first_permitted : (p : Plan) → IsPermitted p.config (first_playing p)
first_permitted = grind arith

-- who has joined a gate goes on with its act, with a service ahead
joined_calm : (c : Configuration) (i : ℕ) (me : Books) (s : Common) (d : Desk) (x : Things) (t r file : ℕ) → d.place ≡ Place.Poll t (InPoll.JoinGate r) → is_past file (move c i me s d x).desk.place ≡ false
joined_calm c i me s d x t r file is = ap (λ p. is_past file (move_at c i me s d x p).desk.place) is

module _ (c : Configuration) (x : Playing) (placed : IsPlaced c x) (given : IsGiven c x) (booked : IsBooked x.world) (before : IsPermitted c x) where
  -- who works is there
  works : (i : ℕ) → is_enabled x.world.common (action.Work i) ≡ true → i < length x.world.common.seats
  works = grind (arith, cases_lt, and_parts, not-true, true≢false, get_or_past)

  by_work : (i : ℕ) → is_enabled x.world.common (action.Work i) ≡ true → IsGiven c (by_action c x (action.Work i)).next → IsPermitted c (by_action c x (action.Work i)).next
  by_work i may later =
      let s = x.world.common in
      let d = desk_of c x i in
      let me = own_of x.world i in
      let m : Moved Things = move c i me s d x.things in
      let heeds : Heeds (Unit {0}) i s d x.things m = heeds_at (Unit {0}) c i me s d x.things d.place refl in
      permitted_by_move c x placed.laid given booked before i m later (hands_at c i me s d x.things booked.undated (λ file k first. (given.at_gate file 0 k first).2) (given.back i)) (leaves c me s i m.event m.choice)
      (ap (λ (e : Desk). e.place) (desk_own c x i m (subst (λ n. i < n) (sym placed.laid.desks) (works i may))))
      (λ k apart. ap (λ (e : Desk). e.place) (desk_other c x i m (λ t j born. heeds.born t j born ∙ sym placed.laid.desks) k apart))
      (joined_calm c i me s d x.things)

  by_any : (a : Action) → is_enabled x.world.common a ≡ true → IsGiven c (by_action c x a).next → IsPermitted c (by_action c x a).next
  by_any (action.Work i) may later = by_work i may later
  by_any (action.Spawn j k) may later = permitted_aside c x placed.laid (action.Spawn j k) refl before
  by_any (action.Wake j t) may later = permitted_aside c x placed.laid (action.Wake j t) refl before
  by_any (action.GoOn j) may later = permitted_aside c x placed.laid (action.GoOn j) refl before
  by_any (action.Clock d) may later = permitted_aside c x placed.laid (action.Clock d) refl before
  by_any (action.Land r n) may later = permitted_aside c x placed.laid (action.Land r n) refl before
  by_any (action.SetBusy i) may later = permitted_aside c x placed.laid (action.SetBusy i) refl before
  by_any (action.EndPoll i) may later = permitted_aside c x placed.laid (action.EndPoll i) refl before
  by_any (action.Stir i) may later = permitted_aside c x placed.laid (action.Stir i) refl before
  by_any (action.Peer l) may later = permitted_aside c x placed.laid (action.Peer l) refl before

  -- a step that is not enabled changes nothing
  pub goes_on : (a : Action) (b : Bool) → is_enabled x.world.common a ≡ b → IsGiven c (if b then by_action c x a else (record { told = refuses a; next = x })).next → IsPermitted c (if b then by_action c x a else (record { told = refuses a; next = x })).next
  goes_on = grind (arith, by_any)

pub permitted_then : (c : Configuration) (x : Playing) → IsPlaced c x → IsGiven c x → IsBooked x.world → (a : Action) → let it = (by_step c x a).told in
    Follows c x.world a it.0.said it.1 → IsGiven c (by_step c x a).next → IsPermitted c x → IsPermitted c (by_step c x a).next
permitted_then c x placed given booked a follows later before = goes_on c x placed given booked before a (is_enabled x.world.common a) refl later
