-- The results of a request that a run shows.
use Rattle.std.specs.Prelude.{ℕ, ◌==◌, if◌then◌else◌, List, [], ◌∷◌, ◌++◌, Option}
use Rattle.exec_outcomes.specs.declared.outcome.{Judged.Judged, OpResult.OpResult, Outcome.Outcome}
use Rattle.exec_machine.specs.{declared.{config.Configuration.Configuration, event.{Event.TheVariants.Reap, StepResult.{StepResult, TheVariants.Did}, Line.Line}}, Choice.Choice, World.{World, request_of}, Requests.judged_of, Run.after_line}
use Rattle.exec_machine.specs.declared.step.Action.TheVariants as action

-- the result of request r that is judged at this line, with the hint of its operation and whether the request's
-- cancellation had been asked for
abbrev pub result_in : World → ℕ → StepResult → List Judged
result_in w r (Did (Reap q n outcome)) = if q == r then judged_of (request_of w.common r) n ∷ [] else []
result_in w r _ = []

-- all of them in a run from this state on, in order
abbrev pub results_of : Configuration → World → ℕ → List Line → List Choice → List Judged
results_of c w r [] choices = []
results_of c w r (l ∷ ls) [] = []
results_of c w r (l ∷ ls) (choice ∷ choices) = result_in w r l.said ++ results_of c (after_line c w l.action l.said choice) r ls choices

-- the line at which worker i judges a result of request r
abbrev pub reaps : ℕ → ℕ → OpResult → Option Outcome → Line
reaps i r n outcome = record { action = action.Work i; said = Did (Reap r n outcome) }
