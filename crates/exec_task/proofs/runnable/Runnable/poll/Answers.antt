use Rattle.exec_task.specs.Polls.PollsTask.{Stale, StillWaits, Runs}
use Rattle.exec_task.proofs.runnable.Runnable.poll.Goals as goal

pub returns-in_default : goal.returns-in_default
returns-in_default g c = Stale c.begin.new.self c.in_default.ensures.begun

pub returns-in-Some-carry_out : goal.returns-in-Some-carry_out
returns-in-Some-carry_out g c =
    Runs c.in-Some.body c.begin.new.self c.carry_out.new.cell c.run.new.cell c.carry_out.new.self c.run.new.worker c.in-Some-carry_out.told c.run.result c.in-Some.ensures.begun c.in-Some-carry_out.ensures.carried c.run.ensures

pub returns-in-None : goal.returns-in-None
returns-in-None g c =
    StillWaits c.in-Some.body c.begin.new.self c.carry_out.new.cell c.pend.new.self c.carry_out.new.self c.pend.result c.in-Some.ensures.begun c.in-None.ensures.carried c.pend.ensures
