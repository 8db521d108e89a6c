use Rattle.exec_machine.proofs.AllResults.{come, judged}
use Rattle.exec_machine.proofs.laws.outcomes_are_of_all_results.Goals as goal

pub returns : goal.returns
returns c = record { come = come; judged = judged }
