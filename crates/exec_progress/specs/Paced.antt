-- WHAT IS CARRIED from step to step, so that each quiet step of each worker costs some of what it has left.
use Rattle.std.specs.Prelude.{◌≡◌, ◌≤◌, ℕ, Bool, true, false, ◌+◌, ◌*◌, length}
use Rattle.exec_machine.specs.{declared.config.Configuration.Configuration, Tests.is_empty}
use Rattle.exec_moves.specs.{Plays.{Playing, desk_of}, Slots.numbers_in, State.{Desk, queue_of, word_of}}
use Rattle.exec_credit.specs.Spins.{IsShort, IsWithin}
use Rattle.exec_rest.specs.{Places.waits_on, Rested.{is_in_pool, place_at}}
use Rattle.exec_progress.specs.{Going.{has_called_back, is_moving, is_seeking, loads_queues, raises_itself}, Owed.quiet_items}

-- OF A WORKER, by its desk alone: only a worker of the pool loads queues; what was stolen is in hand; nothing quiet is left
-- of the callbacks before the test for work; and no spin is longer than the longest
pub record KeepsPace (c : Configuration) (pool : Bool) (d : Desk) : Type 0 where
  pub loads : loads_queues d.place ≡ true → pool ≡ true
  pub moves : is_moving d.place ≡ true → is_empty d.loot ≡ false
  pub called_back : has_called_back d.place ≡ true → quiet_items d ≡ 0
  pub budget : IsWithin c.spin d.spinner
  pub short : IsShort c.spin d.place

module _ (c : Configuration) (x : Playing) where
  abbrev pub HavePace : Type 0
  HavePace = (i : ℕ) → KeepsPace c (is_in_pool c x i) (desk_of c x i)

  -- who seeks holds a search count
  abbrev pub HaveCounts : Type 0
  HaveCounts = (i : ℕ) → is_seeking (place_at c x i) ≡ true → (desk_of c x i).searching ≡ true

  -- the wake word of each says what it waits on, and none ends a wait of its own
  pub record AreAimed : Type 0 where
    pub target : (i : ℕ) → (word_of x.things i).target ≡ waits_on (place_at c x i)
    pub unraised : (i : ℕ) → raises_itself i (place_at c x i) ≡ false

  -- each output that is left is of a request whose slot is free
  abbrev pub HaveOutputs : Type 0
  HaveOutputs = (i : ℕ) → (desk_of c x i).outputs + length (numbers_in (desk_of c x i).requests.held) ≤ length x.world.common.requests

-- no run queue has more than fits into it, nor gave out more than so many steps can
pub record AreNarrow (n : ℕ) (x : Playing) : Type 0 where
  pub narrow : (j : ℕ) → let q = queue_of x.things j in length q.values + length q.held + q.gap ≤ 256
  pub low : (j : ℕ) → (queue_of x.things j).real ≤ 256 * n

-- all of it, after so many steps
pub record IsPaced (n : ℕ) (c : Configuration) (x : Playing) : Type 0 where
  pub pace : HavePace c x
  pub counts : HaveCounts c x
  pub aimed : AreAimed c x
  pub narrow : AreNarrow n x
  pub outputs : HaveOutputs c x
  -- there are no more open files than a configuration can have
  pub opens : length x.world.common.opens ≤ 64
