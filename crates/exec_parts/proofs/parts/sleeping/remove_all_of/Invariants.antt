use Rattle.std.proofs.Common.{◌≡◌, ◌++◌, take, drop, map}
use Rattle.exec_parts.specs.Calls.{sleeper_gone_with}
use Rattle.exec_parts.proofs.parts.sleeping.remove_all_of.Given as goal

-- what was looked at, and then what is still to be looked at, is the whole
abbrev pub invariant-loop-sleeper : goal.invariant-loop-sleeper
invariant-loop-sleeper l = take l.sleeper-index l.sleeper-items ++ map (sleeper_gone_with l.worker) (drop l.sleeper-index l.sleeper-items) ≡ map (sleeper_gone_with l.worker) l.fn.sleepers
