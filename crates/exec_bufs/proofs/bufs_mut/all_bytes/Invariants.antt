use Rattle.std.proofs.Common.{◌≡◌, take}
use Rattle.exec_bufs.specs.Buffers.{bytes_of}
use Rattle.exec_bufs.proofs.bufs_mut.all_bytes.Given as goal

abbrev pub invariant-loop-chunk : goal.invariant-loop-chunk
invariant-loop-chunk l = l.bytes.items ≡ bytes_of (take l.chunk-index l.chunks)
