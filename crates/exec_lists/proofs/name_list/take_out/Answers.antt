use Rattle.std.proofs.{Common.{rules, arith}, lemmas.{Grind.common_steps, Fn.filter_same}}
use Rattle.exec_lists.proofs.Names.{first_leaves, last_leaves}
use Rattle.exec_lists.proofs.name_list.take_out.Goals as goal

pub returns-else-alone-2-clause-items : goal.returns-else-alone-2-clause-items
returns-else-alone-2-clause-items c = filter_same _ _ _ (λ x b f' k. search rules) _ _ c.retain.ensures.filtered

pub returns-then-is_at_end-clause-items : goal.returns-then-is_at_end-clause-items
returns-then-is_at_end-clause-items c = grind (arith, common_steps, first_leaves)

pub returns-then-is_at_end-2-clause-items : goal.returns-then-is_at_end-2-clause-items
returns-then-is_at_end-2-clause-items c = grind (arith, common_steps, last_leaves)
