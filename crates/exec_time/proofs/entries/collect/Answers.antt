use Rattle.std.proofs.{Common.arith, lemmas.Grind.common_steps}
use Rattle.exec_time.specs.Entries.{bucket_in}
use Rattle.exec_time.proofs.entries.collect.Goals as goal

pub returns-clause-ids : goal.returns-clause-ids
unfolding bucket_in
returns-clause-ids c = grind (arith, common_steps, c.bucket_of.ensures.inside)
