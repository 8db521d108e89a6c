use Rattle.std.proofs.Common.{refl}
use Rattle.exec_task.specs.declared.body.Act.TheVariants.{Spawn}
use Rattle.exec_task_tests.specs.declared.poll.Script.TheVariants.{Ends}
use Rattle.exec_task_tests.proofs.poll.ScriptBody.step.Goals as goal

pub returns-in_default-clause-grows : goal.returns-in_default-clause-grows
returns-in_default-clause-grows g c = record { act = Spawn Ends; left_then = Ends; sight_then = g.A.Around.sees c.args.around.now; given = refl; grown = refl }
