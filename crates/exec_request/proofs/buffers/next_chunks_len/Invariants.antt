use Rattle.std.proofs.Common.{◌≡◌, ◌-◌, take, drop}
use Rattle.exec_bufs.specs.Buffers.{total}
use Rattle.exec_request.proofs.buffers.next_chunks_len.Given as goal

-- the sum up to the next chunk
abbrev pub invariant-loop-index : goal.invariant-loop-index
invariant-loop-index l = l.sum ≡ total (take (l.index - l.chunk) (drop l.chunk l.bufs))
