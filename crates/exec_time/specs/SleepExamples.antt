-- Sleepers of the worked examples. A sender is a number.
use Rattle.std.specs.Prelude.{ℕ, []}
use Rattle.exec_base.specs.{Slab.{Slab, inserted}, declared.{slab.Id.Id, task_no.TaskNo.TaskNo}}
use Rattle.exec_time.specs.declared.timers.{Sleeper.Sleeper, Observer.TheVariants.{Local, Forwarded}}

abbrev pub task : ℕ → TaskNo
task n = record { 0 = n }

abbrev pub named : ℕ → Id
named index = record { index = index; generation = 0 }

-- until 30, and wakes task 5
abbrev pub local : Sleeper ℕ
local = record { deadline = 30; observer = Local (task 5) }

-- until 20, and its result is sent by 7
abbrev pub forwarded : Sleeper ℕ
forwarded = record { deadline = 20; observer = Forwarded 7 }

-- both
abbrev pub two : Slab (Sleeper ℕ)
two = inserted (inserted (record { slots = []; vacant = []; first = 0; room = 0 }) local) forwarded
