use Rattle.exec_run.proofs.StepLemmas.{carries_body}
use Rattle.exec_run.proofs.stepping.body_of.Goals as goal

pub returns-in-Spawn : goal.returns-in-Spawn
returns-in-Spawn g c =
    λ p knows names. carries_body g.B.Body.left g.B.Scripted.runs g.B.Scripted.holds g.B.Scripted.spot (g.S.Scripts.knows c.args.scripts.now) g.B.Body.name_of g.met.B.Scripted.named p c.args.action c.in-Spawn.caller c.in-Spawn.script c.body.result c.in-Spawn.is
    knows names c.body.ensures.born c.body.ensures.none
