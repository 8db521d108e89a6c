use Rattle.exec_driver_laws.proofs.Registered.{cancels, forwards, kept, looks, takes_in}
use Rattle.exec_driver_laws.proofs.registering.registrations_make_calls_of_their_worker.Goals as goal

pub returns : goal.returns
returns g c =
    record {
      registers = λ worker now old new gates opens request state does. takes_in worker now old new gates opens request _ does.id does.takes;
      begins = λ worker now old new gates opens request observer started does. takes_in worker now old new gates opens request observer does.id does.takes;
      wants_memory = kept;
      looks = looks;
      forwards = forwards;
      cancels = cancels;
    }
