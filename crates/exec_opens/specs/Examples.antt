-- Opens of the worked examples: two of them, and the line of the second.
use Rattle.std.specs.Prelude.{ℕ, List, [], ◌∷◌}
use Rattle.exec_waiters.specs.Examples.{named}
use Rattle.exec_opens.specs.{Opens.{OpenState, fresh_open, placed, joined, with_open}, declared.opens.WaiterKey.WaiterKey}

-- the first request of a worker
abbrev pub of_worker : ℕ → WaiterKey
of_worker worker = record { worker = worker; id = record { 0 = named 0 0 } }

abbrev pub two : List OpenState
two = fresh_open ∷ fresh_open ∷ []

-- the request of a worker has a place in the line of open 1, and joins it
abbrev pub come : ℕ → List OpenState → List OpenState
come worker opens = with_open (with_open opens 1 placed) 1 (joined (of_worker worker))

-- worker 3 came before worker 5
abbrev pub line : List OpenState
line = come 5 (come 3 two)
