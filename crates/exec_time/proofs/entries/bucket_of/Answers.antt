use Rattle.exec_time.proofs.Buckets.{StandsIn, stands_between}
use Rattle.exec_time.proofs.entries.bucket_of.Goals as goal

pub returns : goal.returns
returns c =
    let stands : StandsIn c.args.entries.now c.args.slots c.args.slot c.start_of.result c.end_of.result = stands_between _ _ _ _ _ c.start_of.ensures.within c.start_of.ensures.before c.start_of.ensures.past c.end_of.ensures.before c.end_of.ensures.past in
    record { ordered = stands.ordered; within = c.end_of.ensures.within; inside = stands.inside; outside = stands.outside }
