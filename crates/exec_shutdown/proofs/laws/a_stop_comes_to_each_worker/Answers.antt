use Rattle.exec_shutdown.proofs.Stopping.{first_stops, stops_then}
use Rattle.exec_shutdown.proofs.laws.a_stop_comes_to_each_worker.Goals as goal

pub returns : goal.returns
returns c = record { first = first_stops; kept = stops_then }
