use Rattle.std.proofs.{Common.arith, lemmas.Bool.Decides.nat_tests}
use Rattle.exec_lists.proofs.Names.{read_count, none_in_slot}
use Rattle.exec_lists.proofs.name_list.NameList.may_have.Goals as goal

pub returns-else-slot-len : goal.returns-else-slot-len
returns-else-slot-len c = grind (arith, read_count, none_in_slot, nat_tests)
