use Rattle.std.proofs.{Common.{◌≡◌, ◌≤◌, [], ◌∷◌, None, refl, arith}, lemmas.Bool.true≢false}
use Rattle.exec_core.{specs.{Words.TaskPhase, Examples.{bare_desk, holding, task_zero, with_closed_set, with_task}}, proofs.InTurn.ordinary_alone}
use Rattle.exec_core.proofs.examples.ordinary_tasks.Goals as goal

pub returns : goal.returns
returns c =
    record {
      in_a_queue = ordinary_alone (with_task (task_zero None TaskPhase.Queued) bare_desk (0 ∷ [])) TaskPhase.Queued refl (omega arith, λ kept. refl, refl);
      in_a_hand = ordinary_alone (with_task (task_zero None TaskPhase.Queued) holding []) TaskPhase.Queued refl (omega arith, λ kept. refl, refl);
      let_go = ordinary_alone (with_closed_set (with_task (task_zero None TaskPhase.Queued) bare_desk [])) TaskPhase.Queued refl (omega arith, λ kept. absurd (true≢false kept), refl);
      twice = λ it. (let few : 2 ≤ 1 = (it.ordinary 0 (task_zero None TaskPhase.Queued) refl refl).0 in absurd (omega (arith, few)));
      nowhere = λ it. (let one : 0 ≡ 1 = (it.ordinary 0 (task_zero None TaskPhase.Queued) refl refl).1 refl in absurd (omega (arith, one)));
      waiting = λ it. (let none : 1 ≡ 0 = (it.ordinary 0 (task_zero None TaskPhase.Idle) refl refl).0 in absurd (omega (arith, none)));
    }
