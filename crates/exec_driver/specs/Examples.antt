-- Drivers of the worked examples, over a ring of 4 and a wheel of ticks of 5 ns for 10 ns.
use Rattle.std.specs.Prelude.{ℕ, true, false, []}
use Rattle.exec_base.specs.Slab.{inserted}
use Rattle.exec_request.specs.declared.request.Request.{Request}
use Rattle.exec_ring.specs.Rings.{fresh as fresh_ring}
use Rattle.exec_time.specs.Wheel.{Wheel, fresh}
use Rattle.exec_waiters.specs.{Examples.{named, poll, here}, declared.{waiter.Entry.TheVariants.Pending, waiter_id.WaiterId.WaiterId}}
use Rattle.exec_driver.specs.{Driving.Driving, Steps.{placed_at, taken_in, newcomer}}
use Rattle.exec_lists.specs.Lists.{no_lists}

abbrev pub first : WaiterId
first = record { 0 = named 0 0 }

abbrev pub wheel : Wheel
wheel = fresh 10 5 0 4

abbrev pub idle : Driving ℕ ℕ
idle =
    record {
      requests = record { slots = []; vacant = []; first = 0; room = 0 };
      wheel = wheel;
      ring = fresh_ring 4;
      landings = [];
      lists = no_lists;
      cancels_under_way = 0;
      armed = false;
    }

-- one request that a task waits for was admitted at a moment
abbrev pub with_one : Request → ℕ → Driving ℕ ℕ
with_one request now = placed_at (taken_in idle request here) first (newcomer request here) now

-- a poll whose operation is under way
abbrev pub flying : Driving ℕ ℕ
flying =
    record idle {
      requests = inserted idle.requests (Pending (record (newcomer poll here) { in_flight = true }));
    }
