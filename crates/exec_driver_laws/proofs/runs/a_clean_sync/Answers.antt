use Rattle.std.proofs.Common.{refl}
use Rattle.exec_driver_laws.proofs.Synced.{clean_run, clean_end}
use Rattle.exec_driver_laws.proofs.runs.a_clean_sync.Goals as goal

pub returns : goal.returns
returns c = record { run = λ before after tells. clean_run before after tells; told = refl; ended = λ run. clean_end run; gone = λ n. refl; kept = refl }
