-- What a look of a task at something of its worker comes to.
use Rattle.std.specs.Prelude.{Option, Some, None}
use Rattle.exec_base.specs.{Slab.{Slab, written}, declared.task_no.TaskNo.TaskNo}
use Rattle.exec_registration.specs.Homes.{HomeState}
use Rattle.exec_time.specs.declared.timers.{Observation.{Observation, TheVariants.{Ready, Pending, Refresh}}, Observer.TheVariants.Local, Sleeper.Sleeper, TimerId.TimerId}
use Rattle.exec_waiters.specs.{Events.{taken, changed, with_waker}, declared.waiter_id.WaiterId.WaiterId}

module _ {T A : Type 0} where
  -- one value where the thing has ended, and else another
  abbrev pub if_ready : Observation T → A → A → A
  if_ready (Ready output) taken same = taken
  if_ready _ taken same = same

  -- what a poll makes of the worker: what the thing gave is taken; nothing changes where it will wake the task; else it
  -- will from now on
  abbrev pub after_look : Observation T → A → A → A → A
  after_look (Ready output) taken awaited same = taken
  after_look Pending taken awaited same = same
  after_look Refresh taken awaited same = awaited

module _ {S F : Type 0} where
  -- the output of a request was taken, and a request is to wake a task
  abbrev pub without_output : WaiterId → HomeState S F → HomeState S F
  without_output id h = record h { driver = record h.driver { requests = taken h.driver.requests id.0 } }

  abbrev pub with_task : WaiterId → TaskNo → HomeState S F → HomeState S F
  with_task id task h =
      record h { driver = record h.driver { requests = changed h.driver.requests id.0 (with_waker task) } }

-- a sleeper is to wake a task; one that is gone stays so
abbrev pub awake_by : {S : Type 0} → Slab (Sleeper S) → TimerId → TaskNo → Option (Sleeper S) → Slab (Sleeper S)
awake_by s id task None = s
awake_by s id task (Some sleeper) = written s id.0 (record sleeper { observer = Local task })
