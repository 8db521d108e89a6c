-- What follows from a configuration.
use Rattle.std.specs.Prelude.{ℕ, zero, suc, ◌+◌, ◌-◌, ◌*◌, ◌/◌, ◌==◌, if◌then◌else◌, nat_le, max}
use Rattle.exec_machine.specs.declared.config.{Configuration.Configuration, Spin.Spin}

-- the first of p, 2 p, 4 p and so on that isn't below n, or the one after so many doublings
abbrev pub doubled_up_to : ℕ → ℕ → ℕ → ℕ
doubled_up_to zero p n = p
doubled_up_to (suc more) p n = if nat_le n p then p else doubled_up_to more (p + p) n

-- how many operations a ring holds: the next power of two, which is at most 2^15
abbrev pub ring_size : Configuration → ℕ
ring_size c = doubled_up_to 15 1 c.ring

-- the longest deadline of a request, in nanoseconds
abbrev pub horizon : Configuration → ℕ
horizon c = max c.connect c.rw

-- how many ticks the longest deadline takes, and two more
abbrev pub ticks_needed : Configuration → ℕ
ticks_needed c = (horizon c + (c.tick - 1)) / c.tick + 2

-- how many slots the timeout wheel has: the next power of two, which is at most 2^20
abbrev pub wheel_slots : Configuration → ℕ
wheel_slots c = doubled_up_to 20 1 (ticks_needed c)

-- the largest spin budget, in iterations: a budget that is 0 at first stays so
abbrev pub largest_spin : Spin → ℕ
largest_spin spin = if spin.budget * spin.iterations == 0 then 0 else spin.most * spin.iterations
