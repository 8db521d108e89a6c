use Rattle.exec_driver_laws.proofs.Promises.{at_most_one}
use Rattle.exec_driver_laws.proofs.laws.at_most_one_durable_request_of_an_open_is_in_flight.Goals as goal

pub returns : goal.returns
returns g c = at_most_one
