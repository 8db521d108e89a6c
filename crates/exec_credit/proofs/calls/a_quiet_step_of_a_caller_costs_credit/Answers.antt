use Rattle.exec_credit.proofs.CallFalls.{at_most, falls, spawns, wakes}
use Rattle.exec_credit.proofs.calls.a_quiet_step_of_a_caller_costs_credit.Goals as goal

pub returns-clause-spawns : goal.returns-clause-spawns
returns-clause-spawns c = spawns

pub returns-clause-wakes : goal.returns-clause-wakes
returns-clause-wakes c = wakes

pub returns-clause-falls : goal.returns-clause-falls
returns-clause-falls c = falls

pub returns-clause-most : goal.returns-clause-most
returns-clause-most c = at_most
