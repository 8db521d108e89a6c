use Rattle.std.proofs.Common.{◌≡◌, All, length, take}
use Rattle.exec_run.{proofs.Names.{Plan, Playing, StepNames}, specs.Steps.{Leads, StandsAt}}
use Rattle.exec_run.proofs.stepping.take_steps.Given as goal

-- the steps of the lines so far were taken, and their lines given
abbrev pub invariant-loop-step : goal.invariant-loop-step
invariant-loop-step g l = record {
  well : g.O.Output.faults l.sink ≡ g.O.Output.faults l.initial.sink;
  leads : (p : Plan) (x : Playing) → StandsAt g.B.Body.left g.B.Scripted.runs g.B.Scripted.holds g.B.Scripted.spot (g.S.Scripts.knows l.scripts) p l.initial.core x → All (StepNames (length p.scripts)) l.steps
      → Leads g.B.Body.left g.B.Scripted.runs g.B.Scripted.holds g.B.Scripted.spot (g.S.Scripts.knows l.scripts) l.quiet p x (take l.step-index l.steps) l.core (g.O.Output.given l.initial.sink) (g.O.Output.given l.sink);
}
