-- How many of a list pass a test, and at how many gates a worker has requests.
use Rattle.std.specs.{Prelude.{ℕ, suc, Bool, true, false, ◌+◌, ◌&&◌, List, [], ◌∷◌, nat_le}, List.list_any}
use Rattle.exec_machine.specs.World.{Common}
use Rattle.exec_moves.specs.Submit.{waits_at}

abbrev pub one_if : Bool → ℕ
one_if true = 1
one_if false = 0

-- how many elements, by number from n on, pass the test
abbrev pub count_numbered : {X : Type 0} → (ℕ → X → Bool) → ℕ → List X → ℕ
count_numbered test n [] = 0
count_numbered test n (x ∷ xs) = one_if (test n x) + count_numbered test (suc n) xs

-- So many opens, from this number on, have a request of the worker at their gates. A staging looks at each, a step each.
abbrev pub gates_from : ℕ → ℕ → Common → ℕ
gates_from i from s = count_numbered (λ file o. nat_le from file && list_any (waits_at i file) s.requests) 0 s.opens
