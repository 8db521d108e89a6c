use Rattle.std.proofs.lemmas.List.Sorted.{IsNonDecreasingBy-insert}
use Rattle.exec_time.proofs.Buckets.{active_in_insert}
use Rattle.exec_time.proofs.ticks.put_at.Goals as goal

pub returns-clause-counts : goal.returns-clause-counts
returns-clause-counts c = λ t. rw c.in-Ok.ensures.items (active_in_insert c.args.ticks.now.items c.args.place c.args.tick t)

pub returns-clause-rising : goal.returns-clause-rising
returns-clause-rising c =
    let place = c.requires.place in
    rw c.in-Ok.ensures.items (IsNonDecreasingBy-insert (λ t. t) c.args.ticks.now.items c.args.place c.args.tick c.requires.rising place.within place.low place.high)
