-- What a contract sees of a list with reserved places.
use Rattle.std.specs.Prelude.{ℕ, ◌-◌, List, ◌++◌, length}

-- the values, the oldest first, and for how many values there are places
pub record Reserved (T : Type 0) : Type 0 where
  pub values : List T
  pub places : ℕ

-- how many more values have a place
abbrev pub spare : {T : Type 0} → Reserved T → ℕ
spare r = r.places - length r.values

-- these values came behind the others
abbrev pub extended : {T : Type 0} → Reserved T → List T → Reserved T
extended r more = record r { values = r.values ++ more }
