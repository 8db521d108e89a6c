use Rattle.std.proofs.Common.{rules}
use Rattle.exec_ring.{specs.Kernels.is_of, proofs.Flights.{last_at, last_missed}}
use Rattle.exec_ring.proofs.sim_ring.last_of.Goals as goal

pub returns-in-Some : goal.returns-in-Some
returns-in-Some c = last_at (is_of c.args.user_data) c.args.flying.now c.in-Some.at (search rules) (λ d. search rules) (λ k d more inside. search rules)

pub returns-in-None : goal.returns-in-None
returns-in-None c = last_missed (is_of c.args.user_data) c.args.flying.now (λ k d inside. search rules)
