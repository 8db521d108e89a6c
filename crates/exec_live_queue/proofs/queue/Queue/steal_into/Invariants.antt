use Rattle.exec_live_queue.{proofs.{Words.{◌≡◌, []}, Tries.Tried}, specs.Kinds.{IsThief, handed, theft}}
use Rattle.exec_live_queue.proofs.queue.Queue.steal_into.Given as goal

abbrev pub invariant-tries : goal.invariant-tries
invariant-tries g l = record {
  same : IsThief l.self l.seat × (handed l.into ≡ []);
  tried : Tried l.fn.into (theft l.fn.seat) l.into (theft l.seat);
}
