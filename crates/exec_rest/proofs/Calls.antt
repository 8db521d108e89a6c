-- The steps of outside callers keep what holds.
use Rattle.std.{proofs.{Common.{◌≡◌, ℕ, Bool, true, false, length, refl, arith}, lemmas.Bool.{true≢false, false≢true, and_parts, cases_Bool}}, specs.Prelude.nat_lt}
use Rattle.exec_machine.specs.{declared.{config.Configuration.Configuration, step.Action.{Action, Action as action}}, Callers.{after_going_on, after_spawn_by_call, after_wake_by_call, half_done, is_enabled, may_call}, World.{Common, task_of}}
use Rattle.exec_moves.specs.{declared.handing.CallPlace.{CallPlace, CallPlace as call}, MoveOfCaller.{call_on, call_spawn, call_wake}, Plays.{Playing, by_action, caller_of}}
use Rattle.exec_rest.{specs.{Places.is_in_call, Rested.{IsLaidOut, IsRestful}}, proofs.{CallFacts.restful, CallMoves.{call_heeds, spawn_heeds, wake_heeds}, CallSeats.{begins_half, free_now, goes_half, going_seated, spawn_begun, wake_begun}}}

-- an action of an outside caller
abbrev pub is_call : Action → Bool
is_call (action.Spawn j k) = true
is_call (action.Wake j t) = true
is_call (action.GoOn j) = true
is_call _ = false

no_call_at : (p : CallPlace) → is_in_call p ≡ false → p ≡ call.Nothing
no_call_at = grind (arith, true≢false)

module _ (c : Configuration) (x : Playing) (laid : IsLaidOut c x) (held : IsRestful c x) where
  abbrev s : Common
  s = x.world.common

  -- who may begin a call is in none
  pub at_nothing : (j : ℕ) → may_call s j ≡ true → (caller_of x j).place ≡ call.Nothing
  at_nothing = grind (arith, cases_Bool, no_call_at, true≢false, free_now)

  pub by_caller : (a : Action) → is_call a ≡ true → is_enabled s a ≡ true → IsRestful c (by_action c x a).next
  by_caller (action.Spawn j k) is may =
      let m = call_spawn c s (caller_of x j) x.things k in
      let begun = spawn_begun s k in
      restful c x laid held j (half_done (after_spawn_by_call s k m.event) j) m
      (spawn_heeds c s (caller_of x j) x.things (at_nothing j may) k) begun.seats
      (begins_half s (after_spawn_by_call s k m.event) j m.desk.place may begun.callers)
  by_caller (action.Wake j t) is may =
      let m = call_wake s (caller_of x j) x.things t (task_of s t).home in
      let begun = wake_begun s (caller_of x j) x.things t (task_of s t).home in
      let free = (and_parts (may_call s j) (nat_lt t (length s.tasks)) may).0 in
      restful c x laid held j (half_done (after_wake_by_call s t m.event m.choice) j) m
      (wake_heeds c s (caller_of x j) x.things (at_nothing j free) t (task_of s t).home) begun.seats
      (begins_half s (after_wake_by_call s t m.event m.choice) j m.desk.place free begun.callers)
  by_caller (action.GoOn j) is may =
      let p = (caller_of x j).place in
      let m = call_on s (caller_of x j) x.things p in
      restful c x laid held j (after_going_on s j m.event) m
      (call_heeds c s (caller_of x j) x.things p refl) (going_seated s j m.event)
      (goes_half s (caller_of x j) x.things j p may)
  by_caller (action.Work i) is may = absurd (false≢true is)
  by_caller (action.Clock n) is may = absurd (false≢true is)
  by_caller (action.Land r n) is may = absurd (false≢true is)
  by_caller (action.SetBusy i) is may = absurd (false≢true is)
  by_caller (action.EndPoll i) is may = absurd (false≢true is)
  by_caller (action.Stir i) is may = absurd (false≢true is)
  by_caller (action.Peer l) is may = absurd (false≢true is)
