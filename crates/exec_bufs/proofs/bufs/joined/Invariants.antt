use Rattle.std.{proofs.Common.{◌≡◌, take}, specs.List.concat}
use Rattle.exec_bufs.proofs.bufs.joined.Given as goal

abbrev pub invariant-loop-chunk : goal.invariant-loop-chunk
invariant-loop-chunk l = l.bytes.items ≡ concat (take l.chunk-index l.chunks)
