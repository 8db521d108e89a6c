use Rattle.std.proofs.Common.{arith}
use Rattle.exec_lists.proofs.Names.{counted_longer, within_more}
use Rattle.exec_lists.proofs.name_list.NameList.make_room.Goals as goal

pub invariant_of-self-then-len-count : goal.invariant_of-self-then-len-count
invariant_of-self-then-len-count c = grind (arith, counted_longer, within_more)
