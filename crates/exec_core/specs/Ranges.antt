-- The ranges of a configuration.
use Rattle.std.specs.Prelude.{Bool, nat_le, ◌&&◌, ◌-◌, ◌^◌}
use Rattle.exec_core.specs.Words.{LONGEST_TIMEOUT, Configuration, ticks_needed}

abbrev pub is_in_range : Configuration → Bool
is_in_range c =
    nat_le 1 c.workers && nat_le c.workers 64 && nat_le 1 c.interval && nat_le c.interval (2 ^ 32 - 1)
    && nat_le 1 c.ring && nat_le c.ring 32768 && nat_le 1 c.tick && nat_le c.tick LONGEST_TIMEOUT
    && nat_le 1 c.connect && nat_le c.connect LONGEST_TIMEOUT && nat_le 1 c.rw && nat_le c.rw LONGEST_TIMEOUT
    && nat_le c.spin.budget c.spin.most && nat_le c.spin.most (2 ^ 32 - 1) && nat_le c.spin.quick (2 ^ 32 - 1)
    && nat_le c.spin.iterations (2 ^ 32 - 1) && nat_le c.files 64 && nat_le c.sockets 1024
    && nat_le (ticks_needed c) (2 ^ 20)
