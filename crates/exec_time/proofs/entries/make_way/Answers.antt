use Rattle.std.proofs.{Common.arith, lemmas.Grind.common_steps}
use Rattle.exec_time.proofs.Buckets.{bucket_in_discard}
use Rattle.exec_time.proofs.entries.make_way.Goals as goal

pub returns-then-has_any-clause-buckets : goal.returns-then-has_any-clause-buckets
returns-then-has_any-clause-buckets c = λ s. grind (arith, common_steps, c.if-not-active.true, c.discard.ensures.others, bucket_in_discard c.args.entries.now.items c.args.slots c.args.slot s)
