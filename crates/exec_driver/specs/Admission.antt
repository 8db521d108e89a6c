-- What an admission does, what it needs, and what it answers where it can't be made.
use Rattle.std.specs.Prelude.{◌≡◌, ℕ, true, ◌+◌, ◌*◌, ◌≤◌, List, length}
use Rattle.exec_base.specs.{Slab.Slab, declared.slab.InsertError.{InsertError, TheVariants.{Full, NoMemory}}}
use Rattle.exec_request.specs.{Requests.gate_of, declared.request.Request.Request}
use Rattle.exec_waiters.specs.{States.{is_full, IsUsedUp, pending_count}, declared.{observer.Observer.Observer, waiter.{Entry.Entry, Refused.Refused}, waiter_id.WaiterId.WaiterId}}
use Rattle.exec_driver.specs.{Driving.Driving, Sound.may_cancel, Steps.{placed_at, taken_in, newcomer, plainly_written}}
use Rattle.exec_opens.specs.Opens.{OpenState, with_named, placed, writing}
use Rattle.exec_lists.specs.Listed.{count_of}

module _ {S F : Type 0} where
  -- nothing of the driver changed but its rooms, and what else ends
  abbrev pub with_rooms : Driving S F → Driving S F → Driving S F
  with_rooms like d =
      record d {
        requests = record d.requests { room = like.requests.room };
        ring = record d.ring { places = like.ring.places };
        lists = record d.lists { room = like.lists.room };
        landings = like.landings;
      }

  pub record Admits (old new : Driving S F) (opens opens' : List OpenState) (id : WaiterId) (request : Request) (observer : Observer S F) (now : ℕ) : Type 0 where
    pub driver : new ≡ with_rooms new (placed_at (taken_in old request observer) id (newcomer request observer) now)
    pub opens_after : opens' ≡ with_named (with_named opens (gate_of request) placed) (plainly_written request) writing

  -- the ring has two places more than the requests that aren't over, their cancels and the wake poll need
  abbrev pub HasTwoMore : Driving S F → Type 0
  HasTwoMore d = pending_count d.requests + count_of may_cancel d.requests + length d.lists.cancels + d.cancels_under_way + 3 ≤ d.ring.places

  -- the ring has no more places than two for each request that isn't over, one for each cancel under way and one more
  abbrev pub HasFewSpare : Driving S F → Type 0
  HasFewSpare d = d.ring.places ≤ pending_count d.requests * 2 + d.cancels_under_way + 1

  -- The request and its observer are back: each index that a request may have is used up, or there was no memory, be it
  -- in the slab, the ring, the line of the open, the lists, the wheel or what is to be told.
  abbrev pub IsRefused : Slab (Entry S F) → Refused S F → InsertError (Refused S F) → Type 0
  IsRefused s back (Full v) = (v ≡ back) × (is_full s ≡ true) × IsUsedUp s
  IsRefused s back (NoMemory v) = v ≡ back
