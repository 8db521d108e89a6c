use Rattle.exec_text.proofs.Lists.{lists_more}
use Rattle.exec_text.proofs.kept.Kept+Vec+T.with_list.Goals as goal

pub returns-in-All : goal.returns-in-All
returns-in-All g c = λ all one. lists_more c.args.self c.with.result c.args.list c.in-All.list all one c.in-All.is c.with.ensures
