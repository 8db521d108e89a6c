use Rattle.std.{proofs.Common.{◌≡◌, ◌<◌, arith, subst, OnSome}, specs.{List.remove, VecDeque.deque_len}}
use Rattle.exec_time.proofs.Buckets.{active_in_remove, rising_remove}
use Rattle.exec_time.proofs.ticks.leave.Goals as goal

pub returns-clause-counts : goal.returns-clause-counts
returns-clause-counts c =
    let found = c.in-Ok.ensures.found in
    let inside : c.in-Ok.place < deque_len c.args.ticks.now = omega (arith, found.0, c.args.ticks.now.ok) in
    let items : c.remove.new.self.items ≡ remove c.args.ticks.now.items c.in-Ok.place = subst (λ r. OnSome r (c.remove.new.self.items ≡ remove c.args.ticks.now.items c.in-Ok.place)) (c.remove.ensures.succeeds c.args.tick inside) c.remove.ensures.items in
    λ t. rw items (active_in_remove c.args.ticks.now.items c.in-Ok.place c.args.tick t found.0 found.1)

pub returns-clause-rising : goal.returns-clause-rising
returns-clause-rising c =
    let inside : c.in-Ok.place < deque_len c.args.ticks.now = omega (arith, c.in-Ok.ensures.found.0, c.args.ticks.now.ok) in
    let items : c.remove.new.self.items ≡ remove c.args.ticks.now.items c.in-Ok.place = subst (λ r. OnSome r (c.remove.new.self.items ≡ remove c.args.ticks.now.items c.in-Ok.place)) (c.remove.ensures.succeeds c.args.tick inside) c.remove.ensures.items in
    rw items (rising_remove c.args.ticks.now.items c.in-Ok.place c.in-Ok.ensures.found.0 c.requires.rising)
