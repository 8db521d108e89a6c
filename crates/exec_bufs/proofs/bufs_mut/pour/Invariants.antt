use Rattle.std.proofs.Common.{◌≡◌, ◌++◌, take, drop, length}
use Rattle.exec_bufs.{specs.Buffers.filled, proofs.Poured.poured}
use Rattle.exec_bufs.proofs.bufs_mut.pour.Given as goal

-- what is done, and then what is left to do, is the whole; the bytes that are left fit
abbrev pub invariant-loop-chunk : goal.invariant-loop-chunk
invariant-loop-chunk l = (take l.chunk-index l.chunk-items ++ poured l.rest (drop l.chunk-index l.chunk-items) ≡ poured l.bytes l.fn.chunks) × (length l.rest ≡ filled (drop l.chunk-index l.chunk-items))
