use Rattle.exec_time.proofs.Index.{indexed_taken}
use Rattle.exec_time.proofs.timers.Timers.take.Goals as goal

pub invariant_of-self-2 : goal.invariant_of-self-2
invariant_of-self-2 g c = indexed_taken c.self.inside.sleepers _ _ _ _ c.args.id _ c.in_ok-sleeper.ensures.value c.in_ok-sleeper.ensures.map c.remove-2.ensures.updates c.self.invariant
