use Rattle.std.proofs.Common.{arith}
use Rattle.exec_lists.proofs.Counting.{pending_few}
use Rattle.exec_driver.proofs.driver.Driver.make_places.Goals as goal

pub returns-clause-lists : goal.returns-clause-lists
returns-clause-lists g c = let few = pending_few c.args.self.now.requests in grind (arith, few)
