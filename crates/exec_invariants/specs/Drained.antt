-- WHAT HOLDS OF THE TASK SET, AND OF THE MAILBOXES OF ALL, TOGETHER.
--
-- A task that is neither over nor cleared stands once in the set, or who took it out clears it next; one that is over stays
-- there until one worker, who polled it, takes it out, unless a drain of the closed set did so before. Who has passed the
-- shutdown barrier polls nothing and clears nothing, and found the closed set empty; it goes on only once all have passed.
-- All ordinary tasks are over then; so no mailbox of the pool closes while an ordinary task may still send there.
use Rattle.std.specs.Prelude.{◌≡◌, ◌⊎◌, ◌+◌, ◌<◌, ◌≤◌, ◌==◌, ◌||◌}
use Rattle.exec_invariants.specs.{Words.{ℕ, Bool, true, false, not, List, count_by, sum_by, slice_get, Option, Some, None, is_polled, AreAtHome, Set, IsMailbox, Chair, TaskSlot, is_complete}, Places.Drops}

-- how often task t stands in the set
abbrev pub in_set : ℕ → Set (Unit {0}) → ℕ
in_set t set = sum_by (λ shard. count_by (λ e. e.0 == t) shard) set.shards

-- the worker of this chair has passed the barrier, or isn't of the pool
abbrev pub has_gone : Chair → Bool
has_gone chair = chair.left || not chair.pool

-- each worker of the pool has passed the barrier
abbrev pub HaveLeft : List Chair → Type 0
HaveLeft seats = (j : ℕ) (chair : Chair) → slice_get seats j ≡ Some chair → has_gone chair ≡ true

-- that of this number hasn't
pub record IsBefore (j : ℕ) (seats : List Chair) : Type 0 where
  pub chair : Chair
  pub there : slice_get seats j ≡ Some chair
  pub going : has_gone chair ≡ false

-- who has passed the barrier goes on only once all have
abbrev pub IsLetOn : ℕ → List Chair → Type 0
IsLetOn i seats = (chair : Chair) → slice_get seats i ≡ Some chair → chair.left ≡ true → HaveLeft seats

-- how many are about to clear each task; what each worker polls, and what it takes out of the set or clears next
pub record Duties : Type 0 where
  pub clears : ℕ → ℕ
  pub polled_by : ℕ → Option ℕ
  pub drops_by : ℕ → Drops

module _ {B : Type 0} where
  pub record IsHeldOnce (slot : TaskSlot B) (n : ℕ) : Type 0 where
    pub most : n ≤ 1
    pub cleared : slot.cleared ≡ true → n ≡ 0
    pub live : slot.cleared ≡ false → is_complete slot.cell.phase ≡ false → n ≡ 1

  -- it is an ordinary task, and over
  pub record IsOver (t : ℕ) (tasks : List (TaskSlot B)) : Type 0 where
    pub slot : TaskSlot B
    pub there : slice_get tasks t ≡ Some slot
    pub ordinary : slot.home ≡ None
    pub over : is_complete slot.cell.phase ≡ true

  pub record IsPool (d : Duties) (tasks : List (TaskSlot B)) (set : Set (Unit {0})) (seats : List Chair) : Type 0 where
    pub live : (t : ℕ) (slot : TaskSlot B) → slice_get tasks t ≡ Some slot → slot.home ≡ None → IsHeldOnce slot (d.clears t + in_set t set)
    pub home : AreAtHome set.shards
    pub only : (t : ℕ) → 0 < d.clears t + in_set t set → (slot : TaskSlot B) × (slice_get tasks t ≡ Some slot) × (slot.home ≡ None)
    pub who_polls : (t : ℕ) (slot : TaskSlot B) → slice_get tasks t ≡ Some slot → slot.home ≡ None → is_polled slot.cell.phase ≡ true → IsBefore slot.poller seats × (d.polled_by slot.poller ≡ Some t)
    pub who_clears : (t : ℕ) → 0 < d.clears t → (j : ℕ) × IsBefore j seats × ((d.drops_by j).clears ≡ Some t) × (set.closed ≡ true)
    pub clear_shut : (t : ℕ) (slot : TaskSlot B) → slice_get tasks t ≡ Some slot → slot.home ≡ None → slot.cleared ≡ true → set.closed ≡ true
    pub removes : (j t : ℕ) → (d.drops_by j).removes ≡ Some t → IsOver t tasks × ((set.closed ≡ true) ⊎ (in_set t set ≡ 1))
    pub alone : (i j t : ℕ) → (d.drops_by i).removes ≡ Some t → (d.drops_by j).removes ≡ Some t → i ≡ j
    pub drained : (j : ℕ) (chair : Chair) → slice_get seats j ≡ Some chair → chair.left ≡ true → (set.closed ≡ true) × ((t : ℕ) → in_set t set ≡ 0)
    pub mail : (j : ℕ) (chair : Chair) → slice_get seats j ≡ Some chair → IsMailbox chair.mailbox
    pub shut : (j : ℕ) (chair : Chair) → slice_get seats j ≡ Some chair → chair.pool ≡ true → chair.mailbox.inbox.closed ≡ true → HaveLeft seats
