use Rattle.exec_driver_laws.proofs.Serving.{service_calls, service_shares, park_calls}
use Rattle.exec_driver_laws.proofs.laws.services_and_waits_are_calls_of_their_worker.Goals as goal

pub returns : goal.returns
returns g c = record { calls = service_calls; waits = park_calls; kept = service_shares }
