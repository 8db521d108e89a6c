use Rattle.std.proofs.Common.{arith, ◌-◌, ◌+◌}
use Rattle.exec_task.specs.Polls.Polls.{Ends, Pends, GoesOn, Tires}
use Rattle.exec_task.proofs.poll.run.Goals as goal

pub returns-in-Through : goal.returns-in-Through
returns-in-Through g c =
    c.loop.invariant.1 c.done.result c.take_turn.new.worker c.done.new.self
    (Ends (18446744073709551615 - c.loop.counter) _ (record { worker = c.take_turn.new.worker; cell = c.take_turn.new.cell; body = c.take_turn.new.body }) c.loop.said c.in-Through.how c.done.result c.done.new.self (omega arith) c.in-Through.ensures.turns c.done.ensures)

pub returns-in-Waits : goal.returns-in-Waits
returns-in-Waits g c =
    c.loop.invariant.1 c.pend.result c.take_turn.new.worker c.pend.new.self
    (Pends (18446744073709551615 - c.loop.counter) _ (record { worker = c.take_turn.new.worker; cell = c.take_turn.new.cell; body = c.take_turn.new.body }) c.loop.said c.pend.result c.pend.new.self (omega arith) c.in-Waits.ensures.turns c.pend.ensures)

pub loop-preserved : goal.loop-preserved
loop-preserved g c = (
  c.take_turn.ensures.polled,
  λ answer w k polls.
      c.loop.invariant.1 answer w k
      (GoesOn (18446744073709551615 - c.loop.counter) (18446744073709551615 - (c.loop.counter + 1)) _ (record { worker = c.take_turn.new.worker; cell = c.take_turn.new.cell; body = c.take_turn.new.body }) c.loop.said c.in-Told.told answer w k (omega arith) c.in-Told.ensures.turns polls),
)

pub returns : goal.returns
returns g c =
    c.loop.invariant.1 c.done-2.result c.loop.worker c.done-2.new.self
    (Tires (18446744073709551615 - c.loop.counter) _ c.loop.said c.done-2.result c.done-2.new.self (omega arith) c.done-2.ensures)
