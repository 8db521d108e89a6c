-- Drivers with one poll, and rings that have operations of it.
use Rattle.std.specs.Prelude.{ℕ, true, Bool, List, []}
use Rattle.exec_base.specs.{Slab.inserted}
use Rattle.exec_request.specs.Requests.{window_by}
use Rattle.exec_outcomes.specs.declared.outcome.OpResult.{OpResult}
use Rattle.exec_ring.specs.{Completions.completed, Kernels.with_completion, declared.completion.Submission.Submission}
use Rattle.exec_waiters.specs.{Examples.{poll, here}, Ids.user_data_of, declared.waiter.Entry.TheVariants.{Pending}}
use Rattle.exec_driver.specs.{Driving.Driving, Examples.{first, idle}, Steps.newcomer}

abbrev pub its_entry : Submission
its_entry = record { window = window_by true poll; user_data = user_data_of first.0 }

-- the poll has an operation under way or hasn't, and the kernel has these entries
abbrev pub polling : Bool → List Submission → Driving ℕ ℕ
polling in_flight entries =
    record idle {
      requests = inserted idle.requests (Pending (record (newcomer poll here) { in_flight = in_flight }));
      ring = record idle.ring { flying = entries };
    }

-- its operation is completed so
abbrev pub answered : OpResult → Driving ℕ ℕ
answered result = record (polling true []) { ring = with_completion idle.ring (completed (user_data_of first.0) result) }
