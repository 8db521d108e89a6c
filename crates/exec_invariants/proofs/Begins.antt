-- What a task waits for and holds as its poll begins.
use Rattle.exec_invariants.{proofs.Names.{◌≡◌, ℕ, Bool, true, false, List, Some, None, arith, Waiting, Next, begun_waiting, Place, after_begin, next_in_poll, polls_in, Record, SleeperRecord}, specs.{Holding.awaited_in, Places.{begins_at, hands_on_at, is_pooled_at, joins_at}, Sound.{StopsIn, WaitsAt, acts_next, is_told}}}

-- WHAT A POLL BEGINS WITH

pub begins_with : (t : ℕ) (u : Waiting) → (polls_in t (after_begin u) ≡ Some t) × (next_in_poll (after_begin u) ≡ Next.Free)
begins_with = grind arith

pub begun_place : (t : ℕ) (u : Waiting) → (begins_at (Place.Poll t (after_begin u)) ≡ None) × (hands_on_at (Place.Poll t (after_begin u)) ≡ false) × (joins_at (Place.Poll t (after_begin u)) ≡ None) × (is_pooled_at (Place.Poll t (after_begin u)) ≡ false)
begun_place = grind arith

-- what it waits for then
pub begins_waiting : (u : Waiting) → WaitsAt (Some (after_begin (begun_waiting u))) (begun_waiting u)
begins_waiting = grind arith

pub told_before : (u : Waiting) (over : Bool) → is_told (begun_waiting u) over ≡ true → is_told u over ≡ true
told_before = grind arith

pub waits_before : (u : Waiting) → acts_next (begun_waiting u) ≡ false → acts_next u ≡ false
waits_before = grind arith

-- what it waits for elsewhere is what it waited for
pub awaits_before : (u : Waiting) → awaited_in (begun_waiting u) ≡ awaited_in u
awaits_before = grind arith

-- nothing is asked of what it waits for yet
pub stops_later : (u v : Waiting) (i : ℕ) (rs : List Record) (ss : List SleeperRecord) → StopsIn (after_begin u) i v rs ss
stops_later = grind arith
