-- Wheels of the worked examples, with a tick of 5 milliseconds.
use Rattle.std.specs.Prelude.{ℕ, ◌*◌}
use Rattle.exec_base.specs.declared.slab.Id.{Id}
use Rattle.exec_time.specs.{Wheel.{Wheel, fresh, scheduled, removed}, Turning.advanced}

-- milliseconds, in nanoseconds
abbrev pub ms : ℕ → ℕ
ms n = n * 1000000

abbrev pub name : ℕ → ℕ → Id
name index generation = record { index = index; generation = generation }

-- 15 ms ahead, in 8 slots
unfoldable pub short : Wheel
short = fresh (ms 15) (ms 5) 0 8

-- the same much later
unfoldable pub late : Wheel
late = (advanced short (ms 60001)).wheel

-- 100 ms ahead, in 32 slots, at tick 30, with 3 at 33, 1 at 31 and 2 at 33
unfoldable pub three_ahead : Wheel
three_ahead =
    scheduled (scheduled (scheduled (advanced (fresh (ms 100) (ms 5) 0 32) (ms 150)).wheel (name 3 0) 33) (name 1 0) 31) (name 2 0) 33

-- 100 ms ahead, with 1 at 20 and 2 at 5
unfoldable pub two_ahead : Wheel
two_ahead = scheduled (scheduled (fresh (ms 100) (ms 5) 0 32) (name 1 0) 20) (name 2 0) 5

-- 100 ms ahead, with (7, 0) at 5 and removed, and (7, 1) at 10
unfoldable pub one_stale : Wheel
one_stale = scheduled (removed (scheduled (fresh (ms 100) (ms 5) 0 32) (name 7 0) 5) 5) (name 7 1) 10

-- 500 ms ahead, in 128 slots, at tick 63, with entries at 64, 64, 100 and 129, of which 100 and a 64 were removed
unfoldable pub two_left : Wheel
two_left =
    removed (removed (scheduled (scheduled (scheduled (scheduled (advanced (fresh (ms 500) (ms 5) 0 128) (ms 315)).wheel (name 0 0) 64) (name 1 0) 64) (name 2 0) 100) (name 3 0) 129) 100) 64
