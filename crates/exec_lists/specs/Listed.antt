-- What a list says of the requests of a worker: each of its names is of a request in its place, and none stands twice.
use Rattle.std.specs.Prelude.{◌≡◌, ℕ, Bool, true, false, not, ◌&&◌, List, [], ◌∷◌, count_by, Option}
use Rattle.exec_base.specs.{Slab.Slab, declared.slab.Slot.{Slot, TheVariants.{Live, Vacant, Retired}}}
use Rattle.exec_waiters.specs.{States.{waiter_at, waiter_in}, declared.{waiter.{Waiter.Waiter, Entry.Entry}, waiter_id.WaiterId.WaiterId}}
use Rattle.exec_lists.specs.Lists.{is_among}

-- no name stands twice in a list
abbrev pub is_once : List WaiterId → Bool
is_once [] = true
is_once (id ∷ ids) = not (is_among id ids) && is_once ids

module _ {S F : Type 0} where
  -- each name of a list is of a request in this place
  abbrev pub are_all : (Option (Waiter S F) → Bool) → Slab (Entry S F) → List WaiterId → Bool
  are_all place s [] = true
  are_all place s (id ∷ ids) = place (waiter_at s id.0) && are_all place s ids

  pub record IsListed (place : Option (Waiter S F) → Bool) (s : Slab (Entry S F)) (ids : List WaiterId) : Type 0 where
    pub all : are_all place s ids ≡ true
    pub once : is_once ids ≡ true

  -- how many requests that aren't over are in a place
  abbrev pub counts : (Option (Waiter S F) → Bool) → Slot (Entry S F) → Bool
  counts place (Live generation entry) = place (waiter_in entry)
  counts place (Vacant generation) = false
  counts place Retired = false

  abbrev pub count_of : (Option (Waiter S F) → Bool) → Slab (Entry S F) → ℕ
  count_of place s = count_by (counts place) s.slots
