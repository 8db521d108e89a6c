use Rattle.exec_driver_laws.proofs.OwningRuns.{kept, always, names, owner, stays_owned, taken, gone}
use Rattle.exec_driver_laws.proofs.owning.an_operation_is_of_a_request_in_flight.Goals as goal

pub returns : goal.returns
returns g c = record { kept = kept; always = always; names = names; owner = owner; stays = stays_owned; taken = taken; gone = gone }
