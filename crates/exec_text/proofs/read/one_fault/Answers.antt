use Rattle.exec_text.proofs.Faults.{no_fault, fault_is_one}
use Rattle.exec_text.proofs.read.one_fault.Goals as goal

pub returns : goal.returns
returns c = record { trace = no_fault; same = fault_is_one }
