-- Requests of the worked examples. A sender is a number.
use Rattle.std.specs.Prelude.{ℕ, [], Some, None, Ok, true}
use Rattle.exec_base.specs.{Slab.{Slab, inserted}, declared.{slab.Id.Id, task_no.TaskNo.TaskNo}}
use Rattle.exec_request.specs.declared.request.Request.{Request, TheVariants.{Sync, Poll}}
use Rattle.exec_waiters.specs.{declared.{observer.Observer.{Observer, TheVariants.{Local, Forwarded, DetachedSync, Orphaned}}, waiter.{Waiter.Waiter, Entry.{Entry, TheVariants.Pending}}}, Events.{finished, newcomer}}

abbrev pub task : ℕ → TaskNo
task n = record { 0 = n }

abbrev pub named : ℕ → ℕ → Id
named index generation = record { index = index; generation = generation }

-- one event of listener 4 is awaited, and open 1 is made durable
abbrev pub poll : Request
poll = Poll (record { fd = 4; deadline = Some 10 })

abbrev pub sync : Request
sync = Sync (record { file = 1; seen = 0 })

-- who may wait: task 3, whoever sends by 6, who is told by 5 of a sync, and nobody
abbrev pub here : Observer ℕ ℕ
here = Local (Some (task 3))

abbrev pub elsewhere : Observer ℕ ℕ
elsewhere = Forwarded 6

abbrev pub detached : Observer ℕ ℕ
detached = DetachedSync 5

abbrev pub nobody : Observer ℕ ℕ
nobody = Orphaned

abbrev pub awaited : Observer ℕ ℕ → Waiter ℕ ℕ
awaited observer = newcomer poll observer

abbrev pub flying : Observer ℕ ℕ → Waiter ℕ ℕ
flying observer = record (awaited observer) { in_flight = true }

-- one request alone, as the first of its worker
abbrev pub alone : Waiter ℕ ℕ → Slab (Entry ℕ ℕ)
alone w = inserted (record { slots = []; vacant = []; first = 0; room = 0 }) (Pending w)

-- it is over, and its output is kept for the task
abbrev pub done : Slab (Entry ℕ ℕ)
done = finished (alone (awaited here)) (named 0 0) (awaited here) (Ok tt) None
