use Rattle.std.specs.Prelude.{refl}
use Rattle.exec_moves.proofs.{OneLog.departs, Tellings.{is_apply, is_sent}}
use Rattle.exec_moves.proofs.pool_examples.refused_messages.Goals as goal

pub returns : goal.returns
returns c =
    record {
      sends_twice = departs _ _ _ _ (λ it. is_sent it.1) refl refl refl;
      applies_twice = departs _ _ _ _ (λ it. is_apply it.0.said) refl refl refl;
    }
