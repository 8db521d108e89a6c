use Rattle.std.proofs.Common.{◌≡◌, ◌+◌, ◌≤◌, [], length, take, slice_index_or}
use Rattle.exec_bufs.specs.Buffers.{total}
use Rattle.exec_request.proofs.buffers.place_after.Given as goal

-- what is left lies after the place
abbrev pub invariant-loop-at : goal.invariant-loop-at
invariant-loop-at l = record {
  sum : total (take l.at l.bufs) + l.gone + l.left ≡ total (take l.chunk l.bufs) + l.offset + l.count;
  begun : l.gone ≤ length (slice_index_or l.bufs l.at []);
}
