use Rattle.std.proofs.{Common.{◌≡◌, [], arith}, lemmas.Grind.common_steps}
use Rattle.exec_time.{specs.{Entries.bucket_in, WheelView.{wheel_of, room_of}}, proofs.{Buckets.length_bucket_in_discard, Views.{emptied_is, emptied_same}}}
use Rattle.exec_time.proofs.wheel.TimeoutWheel.empty_bucket.Goals as goal

pub invariant_of-self-clause-has_room : goal.invariant_of-self-clause-has_room
invariant_of-self-clause-has_room c =
    let w = c.args.self.now in
    grind (arith, common_steps, length_bucket_in_discard w.entries.items w.slots c.args.slot)

pub returns-then-has_any-clause-wheel : goal.returns-then-has_any-clause-wheel
unfolding wheel_of
returns-then-has_any-clause-wheel c =
    let w = c.args.self.now in
    rw (c.discard.ensures.others, c.collect.ensures.ids, c.deref-then-has_any.ensures.value) (emptied_is w.start w.tick w.horizon w.slots w.current w.entries.items w.active.items w.ready.items c.args.slot)

pub returns-else-has_any-clause-wheel : goal.returns-else-has_any-clause-wheel
unfolding wheel_of
returns-else-has_any-clause-wheel c =
    let w = c.args.self.now in
    let none : bucket_in w.entries.items w.slots c.args.slot ≡ [] = rw (← c.deref.ensures.value) (c.has_any.ensures.none c.if-has_any.false) in
    emptied_same (wheel_of w) c.args.slot none

pub returns-then-has_any-clause-room : goal.returns-then-has_any-clause-room
unfolding room_of
returns-then-has_any-clause-room c =
    let w = c.args.self.now in
    grind (arith, common_steps, length_bucket_in_discard w.entries.items w.slots c.args.slot)
