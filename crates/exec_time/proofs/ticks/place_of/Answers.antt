use Rattle.std.proofs.lemmas.List.Sorted.{searched}
use Rattle.exec_time.proofs.Buckets.{placed, there_at, missed_at}
use Rattle.exec_time.proofs.ticks.place_of.Goals as goal

pub returns-clause-place : goal.returns-clause-place
returns-clause-place c = placed c.args.ticks.now.items c.args.tick c.binary_search.result c.requires.rising (searched c.args.ticks.now.items c.args.tick c.binary_search.result c.binary_search.ensures.position (λ i j. c.requires.rising i j 0))

pub returns-clause-missed : goal.returns-clause-missed
returns-clause-missed c = missed_at c.args.ticks.now.items c.args.tick c.binary_search.result (searched c.args.ticks.now.items c.args.tick c.binary_search.result c.binary_search.ensures.position (λ i j. c.requires.rising i j 0))

pub returns-clause-there : goal.returns-clause-there
returns-clause-there c = there_at c.args.ticks.now.items c.args.tick c.binary_search.result (searched c.args.ticks.now.items c.args.tick c.binary_search.result c.binary_search.ensures.position (λ i j. c.requires.rising i j 0))
