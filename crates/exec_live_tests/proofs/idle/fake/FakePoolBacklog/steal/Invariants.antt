use Rattle.std.proofs.Common.{◌≡◌}
use Rattle.exec_live_tests.proofs.idle.fake.FakePoolBacklog.steal.Given as goal

abbrev pub invariant-loop-offset : goal.invariant-loop-offset
invariant-loop-offset g l = l.self ≡ l.fn.self
