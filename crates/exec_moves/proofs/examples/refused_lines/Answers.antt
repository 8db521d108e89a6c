use Rattle.std.specs.Prelude.{refl}
use Rattle.exec_moves.proofs.{OneLog.departs, Tellings.{is_turn, isnt_turn, is_serve}}
use Rattle.exec_moves.proofs.examples.refused_lines.Goals as goal

pub returns : goal.returns
returns c =
    record {
      skips_callbacks = departs _ _ _ _ (λ it. is_turn it.0.said) refl refl refl;
      leaves_out_the_reap = departs _ _ _ _ (λ it. is_serve it.0.said) refl refl refl;
      always_defers = departs _ _ _ _ (λ it. is_serve it.0.said) refl refl refl;
      sleeps_at_once = departs _ _ _ _ (λ it. isnt_turn it.0.said) refl refl refl;
      leaves_out_the_service = departs _ _ _ _ (λ it. is_turn it.0.said) refl refl refl;
      never_closes = departs _ _ _ _ (λ it. is_turn it.0.said) refl refl refl;
      leaves_the_queue_open = departs _ _ _ _ (λ it. isnt_turn it.0.said) refl refl refl;
      never_stops = departs _ _ _ _ (λ it. is_turn it.0.said) refl refl refl;
      never_ends = departs _ _ _ _ (λ it. is_turn it.0.said) refl refl refl;
    }
