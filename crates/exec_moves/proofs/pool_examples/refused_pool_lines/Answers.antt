use Rattle.std.specs.Prelude.{refl}
use Rattle.exec_moves.proofs.{OneLog.departs, Tellings.{is_turn, isnt_turn, is_return}}
use Rattle.exec_moves.proofs.pool_examples.refused_pool_lines.Goals as goal

pub returns : goal.returns
returns c =
    record {
      looks_before_the_bit = departs _ _ _ _ (λ it. is_return it.0.said) refl refl refl;
      forgets_to_signal = departs _ _ _ _ (λ it. is_return it.0.said) refl refl refl;
      forgets_to_rouse = departs _ _ _ _ (λ it. is_turn it.0.said) refl refl refl;
      steals_all = departs _ _ _ _ (λ it. is_turn it.0.said) refl refl refl;
      queues_twice = departs _ _ _ _ (λ it. is_turn it.0.said) refl refl refl;
      skips_a_task = departs _ _ _ _ (λ it. is_turn it.0.said) refl refl refl;
      keeps_a_count = departs _ _ _ _ (λ it. isnt_turn it.0.said) refl refl refl;
    }
