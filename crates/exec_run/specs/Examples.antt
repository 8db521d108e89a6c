-- What the worked examples are about.
use Rattle.std.specs.Prelude.{[]}
use Rattle.exec_machine.specs.{World.World, Progress.begin, Examples.usual}

-- a worker that does not spin, before its first step
abbrev pub at_first : World
at_first = begin (record { config = usual; scripts = []; root = [] })
