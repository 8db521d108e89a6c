use Rattle.exec_driver_laws.proofs.{Placing.{kept_places, kept_timed, timed, waits}, Lawfully.under_way}
use Rattle.exec_driver_laws.proofs.waiting.no_request_is_forgotten.Goals as goal

pub returns : goal.returns
returns g c = record { kept = kept_places; kept_timed = kept_timed; timed = timed; waits = waits; under_way = under_way }
