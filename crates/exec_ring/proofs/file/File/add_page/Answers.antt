use Rattle.std.proofs.{Common.{ℕ, ◌/◌, ◌%◌, arith}, lemmas.{Grind.common_steps, List.get_or-replicate}}
use Rattle.exec_ring.proofs.file.File.add_page.Goals as goal

pub returns-in_ok-insert-clause-bytes : goal.returns-in_ok-insert-clause-bytes
returns-in_ok-insert-clause-bytes c = λ k. grind (arith, common_steps, get_or-replicate {A = ℕ} 4096 (k % 4096) 0 0, c.in_ok-insert.ensures.updates.0 (k / 4096))
