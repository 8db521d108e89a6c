use Rattle.std.proofs.Common.{◌-◌, ◌^◌, IsTrue}
use Rattle.exec_task.specs.{declared.runnable.AfterPoll.AfterPoll, Polls.StepsTo, Polls.Polls}
use Rattle.exec_task.proofs.poll.run.Given as goal

abbrev pub invariant-loop : goal.invariant-loop
invariant-loop g l =
    IsTrue (g.C.TaskCell.is_polled l.cell)
    × ((answer : AfterPoll) (w : _) (c : _)
    → Polls (StepsTo g.B.Body.left g.B.Body.gives g.W.Around.sees) g.W.Carrier.carries g.C.TaskCell.pends g.C.TaskCell.ends (2 ^ 64 - 1 - l.counter) (record { worker = l.worker; cell = l.cell; body = l.body }) l.said answer w c
    → Polls (StepsTo g.B.Body.left g.B.Body.gives g.W.Around.sees) g.W.Carrier.carries g.C.TaskCell.pends g.C.TaskCell.ends (2 ^ 64 - 1) (record { worker = l.fn.worker; cell = l.fn.cell; body = l.fn.body }) l.fn.first answer w c)
