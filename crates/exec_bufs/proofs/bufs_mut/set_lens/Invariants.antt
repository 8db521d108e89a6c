use Rattle.std.proofs.Common.{◌≡◌, ◌++◌, take, drop}
use Rattle.exec_bufs.specs.Buffers.{spread}
use Rattle.exec_bufs.proofs.bufs_mut.set_lens.Given as goal

-- what is done, and then what is left to do, is the whole
abbrev pub invariant-loop-chunk : goal.invariant-loop-chunk
invariant-loop-chunk l = take l.chunk-index l.chunk-items ++ spread l.left (drop l.chunk-index l.chunk-items) ≡ spread l.count l.fn.chunks
