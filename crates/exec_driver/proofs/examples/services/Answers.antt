use Rattle.exec_driver.proofs.Service.{idle_served}
use Rattle.exec_driver.proofs.examples.services.Goals as goal

pub returns : goal.returns
returns c = record { idle = idle_served }
