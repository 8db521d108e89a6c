use Rattle.std.proofs.Common.{◌≡◌}
use Rattle.exec_run.{proofs.Names.{Plan, Playing}, specs.Steps.{StandsAt, Works}}
use Rattle.exec_run.proofs.stepping.take_work.Given as goal

-- so many lines of the worker were taken and given
abbrev pub invariant-loop : goal.invariant-loop
invariant-loop g l = record {
  well : g.O.Output.faults l.sink ≡ g.O.Output.faults l.initial.sink;
  works : (p : Plan) (x : Playing) → StandsAt g.B.Body.left g.B.Scripted.runs g.B.Scripted.holds g.B.Scripted.spot (g.S.Scripts.knows l.scripts) p l.initial.core x
      → Works g.B.Body.left g.B.Scripted.runs g.B.Scripted.holds g.B.Scripted.spot (g.S.Scripts.knows l.scripts) l.quiet p x l.worker l.counter l.core (g.O.Output.given l.initial.sink) (g.O.Output.given l.sink);
}
