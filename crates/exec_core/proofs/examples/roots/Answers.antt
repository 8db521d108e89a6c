use Rattle.std.proofs.{Common.{◌≡◌, [], ◌∷◌, Some, slice_get, refl, sym, subst, ◌∙◌, arith}, lemmas.{Bool.true≢false, Option.same_Some}}
use Rattle.exec_core.{specs.{Words.{Desk, Playing, TaskPhase}, Examples.{bare_desk, flagged, holding, task_zero, with_closed_set, with_task}, Once.{IsRootOnce, QueuesOnce}}, proofs.InTurn.root_alone}
use Rattle.exec_core.proofs.examples.roots.Goals as goal

-- what is said of the root, at its desk
of_root : (x : Playing) (phase : TaskPhase) (d : Desk) → slice_get x.world.common.tasks 0 ≡ Some (task_zero (Some 0) phase) → slice_get x.desks 0 ≡ Some d → QueuesOnce x → IsRootOnce 0 phase d x
of_root x phase d there desk it =
    let its = it.roots 0 0 (task_zero (Some 0) phase) there refl in
    subst (λ e. IsRootOnce 0 phase e x) (same_Some its.0 d (sym its.1 ∙ desk)) its.2

pub returns : goal.returns
returns c =
    record {
      in_the_flag = root_alone (with_task (task_zero (Some 0) TaskPhase.Queued) (flagged bare_desk) []) TaskPhase.Queued (flagged bare_desk) refl refl (record { once = (omega arith, λ kept. refl, refl); hand = refl; runnables = refl; polls = refl });
      in_the_hand = root_alone (with_task (task_zero (Some 0) TaskPhase.Queued) holding []) TaskPhase.Queued holding refl refl (record { once = (omega arith, λ kept. refl, refl); hand = refl; runnables = refl; polls = refl });
      nowhere = λ it. (let one : 0 ≡ 1 = (of_root (with_task (task_zero (Some 0) TaskPhase.Queued) bare_desk []) TaskPhase.Queued bare_desk refl refl it).once.1 refl in absurd (omega (arith, one)));
      not_let_go = λ it. (let one : 0 ≡ 1 = (of_root (with_closed_set (with_task (task_zero (Some 0) TaskPhase.Queued) bare_desk [])) TaskPhase.Queued bare_desk refl refl it).once.1 refl in absurd (omega (arith, one)));
      twice = λ it. (let few : 2 ≡ 1 = (of_root (with_task (task_zero (Some 0) TaskPhase.Queued) (flagged holding) []) TaskPhase.Queued (flagged holding) refl refl it).once.1 refl in absurd (omega (arith, few)));
      in_a_queue = λ it. (let none : 1 ≡ 0 = (of_root (with_task (task_zero (Some 0) TaskPhase.Queued) (flagged bare_desk) (0 ∷ [])) TaskPhase.Queued (flagged bare_desk) refl refl it).runnables in absurd (omega (arith, none)));
      not_next = λ it. true≢false (of_root (with_task (task_zero (Some 0) TaskPhase.Queued) (record bare_desk { hand = Some 0 }) []) TaskPhase.Queued (record bare_desk { hand = Some 0 }) refl refl it).hand;
      waiting = λ it. (let none : 1 ≡ 0 = (of_root (with_task (task_zero (Some 0) TaskPhase.Idle) (flagged bare_desk) []) TaskPhase.Idle (flagged bare_desk) refl refl it).once.0 in absurd (omega (arith, none)));
    }
