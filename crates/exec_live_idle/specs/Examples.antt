-- Seats to look at, in a pool of three workers, and a backlog that is the list of the workers that were woken.
use Rattle.std.specs.Prelude.{◌≡◌, ℕ, ◌+◌, Bool, Some, List, [], ◌∷◌, ◌++◌}
use Rattle.exec_live_idle.specs.{declared.view.View.View, Live.fresh, Notify.Kicked}

-- the seat of this number, which has published or not, and holds so many counts
abbrev pub seat : ℕ → Bool → ℕ → View
seat number published held = record (fresh 3 number (number + 1)) { published = published; held = held }

-- it took a count where so many were, and gave it to worker 2
abbrev pub giving : View → ℕ → View
giving v found = record v { took = Some found; claims = v.claims ++ 2 ∷ [] }

-- a wake notes the worker, a look changes nothing, and a kick wakes as `notify` does
abbrev pub wakes : List ℕ → ℕ → List ℕ → Type 0
wakes woken worker after = after ≡ woken ++ worker ∷ []

abbrev pub looks : List ℕ → Bool → List ℕ → Type 0
looks woken found after = after ≡ woken

abbrev pub kicks : View → List ℕ → View → List ℕ → Type 0
kicks = Kicked wakes
