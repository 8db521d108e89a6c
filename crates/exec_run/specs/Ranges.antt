-- The ranges of a configuration, and how its parts are named.
use Rattle.std.specs.Prelude.{ℕ, Bool, ◌-◌, ◌^◌, ◌&&◌, if◌then◌else◌, nat_le, List, [], ◌∷◌, Option, Some, None, codes}
use Rattle.exec_base.specs.declared.limits.TheConstants.{LONGEST_TIMEOUT}
use Rattle.exec_machine.specs.{declared.config.{Configuration.Configuration, Spin.Spin}, Ranges.ticks_needed}
use Rattle.exec_run.specs.declared.field.{Field.Field, OutOfRange.OutOfRange}
use Rattle.exec_run.specs.declared.field.Field.TheVariants as field

-- the name of a part of a configuration
abbrev pub text_of_field : Field → List ℕ
text_of_field field.Workers = codes "workers"
text_of_field field.Interval = codes "interval"
text_of_field field.Ring = codes "ring"
text_of_field field.Tick = codes "tick"
text_of_field field.Connect = codes "connect"
text_of_field field.Rw = codes "rw"
text_of_field field.Spin = codes "spin"
text_of_field field.Files = codes "files"
text_of_field field.Sockets = codes "sockets"
text_of_field field.Layout = codes "layout"

abbrev pub is_within : ℕ → ℕ → ℕ → Bool
is_within least most n = nat_le least n && nat_le n most

-- a spin's first budget is no larger than its largest, and each number is a count
abbrev pub is_spin : Spin → Bool
is_spin s = nat_le s.budget s.most && nat_le s.most (2 ^ 32 - 1) && nat_le s.quick (2 ^ 32 - 1) && nat_le s.iterations (2 ^ 32 - 1)

-- each part with what it says and whether that is in its range, in the order in which they are tested
abbrev pub tested_parts : Configuration → List (Field × ℕ × Bool)
tested_parts c =
    (field.Workers, c.workers, is_within 1 64 c.workers) ∷ (field.Interval, c.interval, is_within 1 (2 ^ 32 - 1) c.interval)
    ∷ (field.Ring, c.ring, is_within 1 32768 c.ring) ∷ (field.Tick, c.tick, is_within 1 LONGEST_TIMEOUT c.tick)
    ∷ (field.Connect, c.connect, is_within 1 LONGEST_TIMEOUT c.connect) ∷ (field.Rw, c.rw, is_within 1 LONGEST_TIMEOUT c.rw)
    ∷ (field.Spin, c.spin.budget, is_spin c.spin)
    ∷ (field.Files, c.files, nat_le c.files 64) ∷ (field.Sockets, c.sockets, nat_le c.sockets 1024)
    ∷ (field.Layout, c.tick, nat_le (ticks_needed c) (2 ^ 20)) ∷ []

abbrev pub first_out_of : List (Field × ℕ × Bool) → Option OutOfRange
first_out_of [] = None
first_out_of (part ∷ parts) = if part.2 then first_out_of parts else Some (record { field = part.0; value = part.1 })

-- the first part that is out of its range
abbrev pub first_out_of_range : Configuration → Option OutOfRange
first_out_of_range c = first_out_of (tested_parts c)
