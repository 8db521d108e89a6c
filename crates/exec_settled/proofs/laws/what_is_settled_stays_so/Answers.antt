use Rattle.exec_settled.proofs.{AwaitedKept.{awaited_then, first_awaited}, PermittedKept.{first_permitted, permitted_then}, SettledKept.{first_settled, settled_then}}
use Rattle.exec_settled.proofs.laws.what_is_settled_stays_so.Goals as goal

pub returns-clause-first_settled : goal.returns-clause-first_settled
returns-clause-first_settled c = first_settled

pub returns-clause-first_permitted : goal.returns-clause-first_permitted
returns-clause-first_permitted c = first_permitted

pub returns-clause-first_awaited : goal.returns-clause-first_awaited
returns-clause-first_awaited c = first_awaited

pub returns-clause-settled : goal.returns-clause-settled
returns-clause-settled c = settled_then

pub returns-clause-permitted : goal.returns-clause-permitted
returns-clause-permitted c = permitted_then

pub returns-clause-awaited : goal.returns-clause-awaited
returns-clause-awaited c = awaited_then
