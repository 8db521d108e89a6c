use Rattle.std.{proofs.Common.{◌≡◌, length}, specs.Vec.vec_capacity}
use Rattle.exec_parts.specs.Serving.{AreKnown, flown_in}
use Rattle.exec_serving.proofs.service.fly_staged.Given as goal

abbrev pub invariant-loop-request : goal.invariant-loop-request
invariant-loop-request l =
    (l.names ≡ record l.initial.names { staged = l.names.staged })
    × (flown_in l.names.staged.items l.requests.items ≡ flown_in l.initial.names.staged.items l.initial.requests.items)
    × AreKnown l.names.staged.items l.requests.items
    × (vec_capacity l.names.staged ≡ vec_capacity l.initial.names.staged)

abbrev pub decreases-loop-request : goal.decreases-loop-request
decreases-loop-request l = length l.names.staged.items
