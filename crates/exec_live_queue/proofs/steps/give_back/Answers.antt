use Rattle.exec_live_queue.proofs.{Words.{refl, arith, none, step, returned}, Returns.returns, Rebuild.stepped}
use Rattle.exec_live_queue.proofs.steps.give_back.Goals as goal

pub load-requires : goal.load-requires
load-requires g c = let q = c.requires in let words = c.args.words.now in let seat = c.args.seat.now in
    stepped words seat 11 (λ x. x) (λ n. returned (step n 11 0 0 none) seat.me) q.0 (omega arith) (returns words.key seat.id seat.me seat.me.0.own.out_len q.1 refl q.2 q.3)
