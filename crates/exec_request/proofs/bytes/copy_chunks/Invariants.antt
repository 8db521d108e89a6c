use Rattle.std.{proofs.Common.{◌≡◌, ◌-◌, ◌≤◌, ◌++◌, length, take, drop}, specs.List.concat}
use Rattle.exec_request.proofs.bytes.copy_chunks.Given as goal

-- what was copied, and then what is still to come, is all that was asked for
abbrev pub invariant-loop-at : goal.invariant-loop-at
invariant-loop-at l = record {
  within : l.done ≤ length l.into;
  whole : take l.done l.into ++ take (length l.into - l.done) (drop l.ahead (concat (drop l.at l.bufs))) ≡ take (length l.fn.into) (drop l.skip (concat (drop l.chunk l.bufs)));
}
