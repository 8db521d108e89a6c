-- What calls on a task keep, and what comes of a poll that others wake and clear.
use Rattle.std.proofs.Common.{◌≡◌, ℕ, ◌+◌, ◌≤◌, ◌||◌, Bool, true, false, List, [], ◌∷◌, if◌then◌else◌, refl, arith}
use Rattle.exec_base.specs.declared.task_no.TaskNo.{TaskNo}
use Rattle.exec_task.specs.{declared.{task.Phase.Phase, body.Ended.Ended, runnable.AfterPoll.AfterPoll}, Phases.{Task, pend_answer}, TaskRuns.{Call, Ledger, MayCall, AreCalls, IsOneRight, after, after_all, Meanwhile, after_meanwhile, some_wake, some_clear, just_begun, after_pending_poll, new_task}}

module _ {B : Type 0} where
  -- the parts of a ledger
  abbrev ledger : TaskNo → ℕ → Phase B → Bool → ℕ → ℕ → Ledger B
  ledger number owner phase cancelled runnables polls =
      record { task = record { number = number; owner = owner; phase = phase; cancelled = cancelled }; runnables = runnables; polls = polls }

  abbrev Keeps : Ledger B → Type 0
  Keeps l = IsOneRight l.task.phase l.runnables l.polls

  -- in each phase, and cancelled or not
  kept_by :
      (call : Call B) (c : Bool) (phase : Phase B) (n : TaskNo) (o r p : ℕ) → IsOneRight phase r p → MayCall (ledger n o phase c r p) call
      → Keeps (after (ledger n o phase c r p) call)
  kept_by Call.Wake _ (Phase.Idle _) n o r p right may = (omega (arith, right), omega (arith, right))
  kept_by Call.Begin _ (Phase.Idle _) n o r p right may = (omega (arith, right), omega (arith, right))
  kept_by (Call.Pend _) true (Phase.Idle _) n o r p right may = (omega (arith, right), omega (arith, right))
  kept_by (Call.Pend _) false (Phase.Idle _) n o r p right may = (omega (arith, right), omega (arith, right))
  kept_by Call.Done _ (Phase.Idle _) n o r p right may = (omega (arith, right), omega (arith, right))
  kept_by Call.Clear _ (Phase.Idle _) n o r p right may = (omega (arith, right), omega (arith, right))
  kept_by _ _ _ n o r p right may = (omega (arith, right), omega (arith, right))

  -- the right is one after whatever calls
  one_right : (l : Ledger B) (calls : List (Call B)) → Keeps l → AreCalls l calls → Keeps (after_all l calls)
  one_right l [] right are = right
  one_right l (call ∷ rest) right are =
      one_right (after l call) rest
      (kept_by call l.task.cancelled l.task.phase l.task.number l.task.owner l.runnables l.polls right are.0) are.1

  -- so there is at most one
  at_most_one_by : (phase : Phase B) (runnables polls : ℕ) → IsOneRight phase runnables polls → runnables + polls ≤ 1
  at_most_one_by (Phase.Idle _) runnables polls right = omega (arith, right)
  at_most_one_by _ runnables polls right = omega (arith, right)

  pub exactly_one :
      (number : TaskNo) (owner : ℕ) (body : B) (calls : List (Call B)) → AreCalls (new_task number owner body) calls
      → let l = after_all (new_task number owner body) calls in
      IsOneRight l.task.phase l.runnables l.polls
  exactly_one number owner body calls are = one_right (new_task number owner body) calls (refl, refl) are

  pub at_most_one :
      (number : TaskNo) (owner : ℕ) (body : B) (calls : List (Call B)) → AreCalls (new_task number owner body) calls
      → let l = after_all (new_task number owner body) calls in
      l.runnables + l.polls ≤ 1
  at_most_one number owner body calls are =
      let l = after_all (new_task number owner body) calls in
      at_most_one_by l.task.phase l.runnables l.polls (exactly_one number owner body calls are)

module _ (B : Type 0) (number : TaskNo) (owner : ℕ) where
  -- the task in a poll, whether it was woken, and whether it was cleared
  abbrev polled : Bool → Bool → Task B
  polled woken cancelled = record { number = number; owner = owner; phase = if woken then Phase.Notified else Phase.Running; cancelled = cancelled }

  answer_is :
      (woken cancelled : Bool) (m : List Meanwhile)
      → pend_answer (after_meanwhile (polled woken cancelled) m)
      ≡ (if cancelled || some_clear m then AfterPoll.Retire number Ended.Closed else (if woken || some_wake m then AfterPoll.Requeue (record { task = number; owner = owner }) else AfterPoll.Done))
  answer_is woken cancelled [] = grind arith
  answer_is woken cancelled (Meanwhile.Wakes ∷ rest) = grind (arith, answer_is true cancelled rest)
  answer_is woken cancelled (Meanwhile.Clears ∷ rest) = grind (arith, answer_is woken true rest)

  pub one_requeue : (meanwhile : List Meanwhile) → pend_answer (after_meanwhile (just_begun {B = B} number owner) meanwhile) ≡ after_pending_poll (just_begun {B = B} number owner) meanwhile
  one_requeue meanwhile = answer_is false false meanwhile
