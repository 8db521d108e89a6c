use Rattle.exec_live_queue.proofs.{Words.{rules, ℕ, arith, none, step, laid}, Looks.lays, Rebuild.stepped}
use Rattle.std.specs.Prelude.{min}
use Rattle.exec_live_queue.proofs.steps.take_one.Goals as goal

pub load-requires : goal.load-requires
load-requires g c = let q = c.requires in let words = c.args.words.now in let seat = c.args.seat.now in let f : ℕ → ℕ = λ (room : ℕ). min room 1 in
    stepped words seat 11 (λ x. x) (λ n. laid f (step n 11 0 0 none) seat.me) q.0 (omega arith) (lays words.key seat.id seat.me f (λ r. search rules) q.1.0 q.1.2 q.1.1 q.1.3)
