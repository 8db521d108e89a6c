-- An event of one worker leaves the others' own parts.
use Rattle.std.proofs.{Common.{◌≡◌, ℕ, ◌<◌, List, ◌++◌, length, sym, ◌∙◌, arith, get_or, set}, lemmas.List.{length-set, get_or-set_other, get_or_append_left}}
use Rattle.exec_machine.specs.{declared.{config.Configuration.Configuration, step.Action.{Action, Action as action}, event.{Event.Event, StepResult.StepResult}}, Choice.Choice, World.{World, Own, own_of, no_own}, After.{after, own_after, made_by}, Run.after_line}

other_stays : (xs more : List Own) (i j : ℕ) (x : Own) → (i ≡ j → ⊥) → j < length xs → get_or (set xs i x ++ more) j no_own ≡ get_or xs j no_own
other_stays xs more i j x apart there =
    get_or_append_left (set xs i x) more no_own j (omega (arith, there, length-set xs i x)) ∙ get_or-set_other xs i j x no_own (λ e. apart (sym e))

pub events : (c : Configuration) (w : World) (i j : ℕ) (event : Event) (choice : Choice) → (i ≡ j → ⊥) → j < length w.workers → own_of (after c w i event choice) j ≡ own_of w j
events c w i j event choice apart there =
    other_stays w.workers (made_by w.common event) i j (own_after c (own_of w i) w.common i event choice) apart there

pub lines : (c : Configuration) (w : World) (a : Action) (said : StepResult) (choice : Choice) (j : ℕ) → (a ≡ action.Work j → ⊥) → j < length w.workers → own_of (after_line c w a said choice) j ≡ own_of w j
lines = grind (arith, events)
