use Rattle.std.proofs.Common.{refl}
use Rattle.exec_driver_laws.{proofs.{Failing.writing_failing, Words.{displaced, placed, writing}}, specs.Sharing.Recount}
use Rattle.exec_driver_laws.proofs.lines.an_open_is_called_alone.Goals as goal

pub returns : goal.returns
returns g c =
    record {
      reserve = λ worker d gates file. Recount file placed (λ o. record { holder = refl; waiting = refl; failure = refl }) refl refl;
      release = λ worker d gates file. Recount file displaced (λ o. record { holder = refl; waiting = refl; failure = refl }) refl refl;
      begin_write = λ worker d gates file. Recount file writing (λ o. record { holder = refl; waiting = refl; failure = writing_failing o }) refl refl;
    }
