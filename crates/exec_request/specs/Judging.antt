-- What a request that judges results promises.
use Rattle.std.specs.Prelude.{◌≡◌, ℕ, Bool, false, not, ◌||◌, ◌&&◌, nat_le, List, [], ◌∷◌, ◌++◌, Option, None}
use Rattle.exec_outcomes.specs.{declared.outcome.{Kind.{Kind, TheVariants.{Direct, Many}}, OpResult.OpResult, Judged.Judged, Outcome.Outcome}, Outcomes.{Asked, Cursor, HasCome, outcome_of, outcome_next, cursor_next, is_transient, is_unsupported, is_positive, bytes_of, takes_any, suits_direct}}
use Rattle.exec_request.specs.{declared.results.WaiterState.WaiterState, States.asks_cancel}

-- a result with the hint of its operation, and how the waiter stood
abbrev pub judged_as : Bool → WaiterState → OpResult → Judged
judged_as hinted state given = record { result = given; hinted = hinted; cancelled = asks_cancel state }

-- One more result was judged, by a request that had come as far as its cursor says: after whatever results that may
-- have been, the answer is what all of them give together, and where that is nothing the request has come as far as
-- its cursor says then.
pub record Judges (asked : Asked) (before after : Cursor) (r : Judged) (answer : Option Outcome) : Type 0 where
  pub judged : (results : List Judged) → HasCome asked before results → answer ≡ outcome_of asked (results ++ r ∷ [])
  pub goes_on : (results : List Judged) → HasCome asked before results → answer ≡ None → HasCome asked after (results ++ r ∷ [])
  pub next : answer ≡ outcome_next asked before r
  pub cursor : after ≡ cursor_next asked before r

-- a request of this kind for so many bytes
abbrev pub whole : Kind → ℕ → Asked
whole kind length = record { kind = kind; length = length; skip = 0 }

-- what one result alone means, for a request of this kind of which so many bytes are left
abbrev pub judged_alone : Kind → ℕ → Bool → Bool → OpResult → Option Outcome
judged_alone kind left hinted cancelled given =
    outcome_next (whole kind left) (record { moved = 0; switched = false; hinted = hinted }) (record { result = given; hinted = hinted; cancelled = cancelled })

-- a result says something
abbrev pub is_heard : Kind → Bool → OpResult → Bool
is_heard kind hinted given = not (is_transient kind given || (hinted && is_unsupported given))

-- a result moved all that was left
abbrev pub is_enough : Kind → ℕ → OpResult → Bool
is_enough kind left given = is_positive given && (takes_any kind || nat_le left (bytes_of given))

-- a result passes on to the second part
abbrev pub passes : Kind → ℕ → OpResult → Bool
passes Direct left given = not (is_enough Direct left given || suits_direct given)
passes Many left given = is_enough Many left given
passes _ left given = false

-- a result ends the request
abbrev pub ends : Kind → ℕ → Bool → OpResult → Bool
ends kind left hinted given =
    is_heard kind hinted given && ((not (is_positive given) || is_enough kind left given) && not (passes kind left given))
