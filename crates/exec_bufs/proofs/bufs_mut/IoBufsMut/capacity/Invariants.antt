use Rattle.std.proofs.Common.{◌≡◌, ◌-◌, ◌^◌, take, min}
use Rattle.exec_bufs.specs.Buffers.{room}
use Rattle.exec_bufs.proofs.bufs_mut.IoBufsMut.capacity.Given as goal

abbrev pub invariant-loop-chunk : goal.invariant-loop-chunk
invariant-loop-chunk l = l.capacity ≡ min (room (take l.chunk-index l.chunk-items)) (2 ^ 64 - 1)
