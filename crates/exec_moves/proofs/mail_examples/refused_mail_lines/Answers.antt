use Rattle.std.specs.Prelude.{refl}
use Rattle.exec_moves.proofs.{OneLog.departs, Tellings.{is_turn, is_serve, is_grant}}
use Rattle.exec_moves.proofs.mail_examples.refused_mail_lines.Goals as goal

pub returns : goal.returns
returns c =
    record {
      forgets_to_forward = departs _ _ _ _ (λ it. is_turn it.0.said) refl refl refl;
      forgets_a_letter = departs _ _ _ _ (λ it. is_turn it.0.said) refl refl refl;
      grants_too_early = departs _ _ _ _ (λ it. is_grant it.0.said) refl refl refl;
      forgets_to_rouse = departs _ _ _ _ (λ it. is_serve it.0.said) refl refl refl;
    }
