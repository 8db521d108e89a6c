use Rattle.exec_driver_laws.proofs.{Promises.{goes_on, untimed, never_due}, Lasting.{never_cancelled, ends_told}}
use Rattle.exec_driver_laws.proofs.laws.unobserved_writes_and_syncs_are_never_cancelled.Goals as goal

pub returns : goal.returns
returns g c = record { goes_on = goes_on; untimed = untimed; never_due = never_due; always = never_cancelled; ends_told = ends_told }
