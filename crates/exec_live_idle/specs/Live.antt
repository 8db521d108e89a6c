-- The rule of a live idle set: what holds between any two atomic steps.
--
-- Two words are shared. The set has a bit for each worker: it is in while the worker is published, about to sleep or
-- asleep, and nobody has claimed it. The count is how many search counts there are: each is the duty to look for work, or
-- to hand that duty on.
--
-- A seat is a right to step, with what its holder knows: its number, whether it has published its worker, and how many
-- counts it holds. The seat of a number below the number of workers is that worker's; all others are of callers, who
-- only wake. Each number has one seat. Who may do what:
--
-- - A worker publishes itself by the or of its bit, if it isn't published, and withdraws by the and that takes its bit out.
-- - Whoever holds a count may claim: an exchange of the set for one without its lowest bit. The claim hands the count
--   over to that worker. It takes it when it withdraws, since it finds its bit gone.
-- - Anyone may add a count, which the seat holds then, or exchange 0 for 1. Whoever holds one may subtract it, and is told
--   whether others are left.
--
-- Why no claim is lost, and no worker is claimed twice. A bit that is in belongs to one seat, which has published it and not
-- withdrawn it (`each_bit`): a claim of that bit has somebody who will take its count. A published seat whose bit is gone
-- was claimed, since only a claim takes out another's bit. So the count is what all seats hold, and one for each such seat
-- (`counted`): a claim takes one from the claimer's part and puts it into the other, and a withdrawal moves it from there
-- to what the worker holds. Whoever finds the count 0 knows that nobody holds one, and that no claimed worker is on its
-- way.
--
-- The count fits its word, since a seat holds at most two counts and there are at most 2^32 seats (`few`).
use Rattle.std.specs.Prelude.{◌≡◌, ℕ, ◌+◌, ◌-◌, ◌^◌, ◌<◌, ◌≤◌, ◌==◌, nat_le, nat_lt, Bool, true, false, if◌then◌else◌, None, List, [], ◌∷◌}
use mathlib.Core.Option.{some}
use lib.ListN.{get_elem?}
use Rattle.atomic_table.specs.Table.{State}
use Rattle.exec_words.specs.Idle.{is_in}
use Rattle.exec_live_idle.specs.{declared.view.View.View, Words.set_of}

-- f of each view, added up
abbrev pub total : (View → ℕ) → List View → ℕ
total f [] = 0
total f (v ∷ vs) = f v + total f vs

-- 1 for a seat that has published this worker
abbrev pub publishes : ℕ → View → ℕ
publishes i v = if v.published then (if v.number == i then 1 else 0) else 0

-- 1 for a seat that has published its worker, whose bit is gone
abbrev pub awaits : List Bool → View → ℕ
awaits set v = if v.published then (if is_in set v.number then 0 else 1) else 0

-- the search counts of a seat: what it holds, and one where it was claimed and hasn't withdrawn yet
abbrev pub shares : List Bool → View → ℕ
shares set v = v.held + awaits set v

-- how many numbers a seat has
abbrev pub width : View → ℕ
width v = v.end - v.number

-- 1 for a seat that has this number
abbrev pub has_number : ℕ → View → ℕ
has_number i v = if nat_le v.number i then (if nat_lt i v.end then 1 else 0) else 0

-- what a seat by itself is
pub record IsSeat (workers : ℕ) (v : View) : Type 0 where
  pub pool : v.number < v.end → v.workers ≡ workers
  pub held : v.held ≤ 2
  -- one without a number was joined to another, and holds nothing
  pub spent : v.end ≤ v.number → (v.held ≡ 0) × (v.published ≡ false)
  pub worker : v.published ≡ true → v.number < workers

-- the rule over the set and the count, and the views of all seats
pub record Kept (workers : ℕ) (set : List Bool) (count : ℕ) (views : List View) : Type 0 where
  -- the count is what the seats hold, and one for each published worker whose bit is gone: it was claimed
  pub counted : count ≡ total (shares set) views
  -- each bit that is set belongs to one seat that has published it and not withdrawn it
  pub each_bit : (i : ℕ) → is_in set i ≡ true → (i < workers) × (total (publishes i) views ≡ 1)
  -- no two seats have one number
  pub each_number : (i : ℕ) → total (has_number i) views ≤ 1
  -- there are at most 2^32 numbers
  pub few : total width views ≤ 2 ^ 32
  pub each_seat : (j : ℕ) (v : View) → get_elem? views j ≡ some v → IsSeat workers v

-- the rule of the table: its words are such a set and count
pub record LiveIdle {S : Type 0} (workers : ℕ) (s : State S View) : Type 0 where
  pub set : ℕ
  pub count : ℕ
  pub words : s.words ≡ set ∷ count ∷ []
  pub kept : Kept workers (set_of set) count s.views

-- a seat that has done nothing yet, with the numbers from here to there
abbrev pub fresh : ℕ → ℕ → ℕ → View
fresh workers number end = record { workers = workers; number = number; end = end; published = false; held = 0; saw = 0; took = None; last = None; before = None; claims = [] }

-- the first seat has all numbers
abbrev pub first_view : ℕ → View
first_view workers = fresh workers 0 (2 ^ 32)

-- a seat is made: the seat that it comes from goes on with the next number, and the new one has its number
abbrev pub next_number : View → View
next_number v = record v { number = v.number + 1 }

abbrev pub own_number : View → View
own_number v = fresh v.workers v.number (v.number + 1)

-- a seat is joined to another: its counts go over, and nothing is left of it
abbrev pub with_counts : View → View → View
with_counts v w = record v { held = v.held + w.held }

abbrev pub joined : View
joined = fresh 0 0 0
