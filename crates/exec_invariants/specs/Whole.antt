-- WHAT HOLDS OF ALL PARTIES TOGETHER: a task has at most one runnable and one poller, a run queue one claimer, the search
-- count is what the parties hold, and each live task stands once in the task set.
--
-- Each is a balance of what the parties have with what they share. A step of one keeps it whatever the others have.
use Rattle.std.specs.Prelude.{◌≡◌, ◌+◌, ◌^◌, ◌<◌, ◌≤◌, ◌==◌, ◌&&◌, ◌||◌, ◌++◌, if◌then◌else◌}
use Rattle.exec_invariants.specs.{Words.{nat_lt, ℕ, Bool, true, false, not, Contains, List, count_by, length, map, sum_by, slice_get, Option, Some, None, option_to_list, range_with_len, is_in, is_polled, runnable_of, Runnable, Phase, cell, polls_at, Chair, Shared, TaskSlot, Worker}, Drained.{Duties, IsPool}, Places.{Drops, claims_at, clears_at, drops_at, has_count_at, is_published_at, one_if}, Gates.HaveGates, Holding.{Hands, IsHolding, Mail, box_of, holder_of, mail_in, mail_of_letters, nap_of, thing_of}}
pub use Rattle.exec_invariants.specs.Places.{is_number}

-- what parties have: how many runnables of each task, how many polls of it; how many claims of each run queue; how many
-- search counts; which workers have published their bit and not withdrawn it; how many are about to clear each task; and what
-- each worker polls, and takes out of the task set, clears, passes on or has join next; how often they have a message in hand,
-- taken and not applied or yet to be sent; and how often each worker is about to wake each task
pub record Profile : Type 0 where
  pub runnables : ℕ → ℕ
  pub polls : ℕ → ℕ
  pub claims : ℕ → ℕ
  pub counts : ℕ
  pub published : ℕ → Bool
  pub clears : ℕ → ℕ
  pub polled_by : ℕ → Option ℕ
  pub drops_by : ℕ → Drops
  pub mail : Mail → ℕ
  pub wakes : ℕ → ℕ → ℕ

abbrev pub duties_of : Profile → Duties
duties_of x = record { clears = x.clears; polled_by = x.polled_by; drops_by = x.drops_by }

abbrev pub hands_of : Profile → Hands
hands_of x = record { mail = x.mail; wakes = x.wakes }

-- the messages that a worker has in hand, and the tasks that it is about to wake
abbrev pub mail_with : Worker → List Mail
mail_with w = mail_of_letters w.letters ++ w.batch.values

abbrev pub wakes_with : ℕ → Worker → ℕ
wakes_with t w = count_by (λ n. n.0 == t) w.home.deferred.notes.wakes.items

-- how often task t is among these
abbrev pub runnables_in : ℕ → List Runnable → ℕ
runnables_in t rs = count_by (λ r. r.task.0 == t) rs

-- those of others, and of this worker
abbrev pub with_worker : Profile → Worker → Profile
with_worker others w =
    record {
      runnables = λ t. others.runnables t + runnables_in t (option_to_list w.hand ++ w.loot.values);
      polls = λ t. others.polls t + one_if (is_number (polls_at w.place) t);
      claims = λ j. others.claims j + one_if (is_number (claims_at w.place) j);
      counts = others.counts + (one_if w.searching + one_if (has_count_at w.place));
      published = λ j. if j == w.index then is_published_at w.place else others.published j;
      clears = λ t. others.clears t + one_if (is_number (clears_at w.place) t);
      polled_by = λ j. if j == w.index then polls_at w.place else others.polled_by j;
      drops_by = λ j. if j == w.index then drops_at w.place else others.drops_by j;
      mail = λ m. others.mail m + mail_in m (mail_with w);
      wakes = λ j t. if j == w.index then wakes_with t w else others.wakes j t;
    }

-- WHAT IS SHARED

abbrev pub queued : Chair → List Runnable
queued chair = chair.queue.values ++ chair.queue.held

abbrev pub IsQueuedOnce : Bool → ℕ → Type 0
IsQueuedOnce true n = n ≤ 1
IsQueuedOnce false n = n ≡ 1

-- a task that is over may have left a runnable, once the set or the queue was closed
abbrev pub IsLeftOver : Bool → ℕ → Type 0
IsLeftOver true n = n ≤ 1
IsLeftOver false n = n ≡ 0

module _ {B : Type 0} where
  -- how often task t is in a queue
  abbrev pub stock : ℕ → Shared B → ℕ
  stock t s = sum_by (λ chair. runnables_in t (queued chair)) s.seats.items + runnables_in t s.global.values

  -- a worker of the pool whose bit is gone though it is published was claimed: it holds the count of its claimer
  abbrev pub claimed_count : Profile → Shared B → ℕ
  claimed_count x s = sum_by (λ j. one_if (x.published j && not (is_in s.idle.published j))) (range_with_len 0 s.config.workers)

  -- who closes lets runnables go before it clears their tasks, and a closed queue lets them go
  abbrev pub may_let_go : Shared B → Bool
  may_let_go s = s.set.closed || s.global.closed

  -- A queued task has one runnable, unless that was let go; one that is over may have left one, once the set or the queue was
  -- closed; any other has none.
  abbrev pub HasOne : Bool → Phase B → ℕ → Type 0
  HasOne gone (cell.Queued b) n = IsQueuedOnce gone n
  HasOne gone cell.Complete n = IsLeftOver gone n
  HasOne gone _ n = n ≡ 0

  -- a runnable of a task of this list
  pub record IsGenuine (tasks : List (TaskSlot B)) (r : Runnable) : Type 0 where
    pub slot : TaskSlot B
    pub there : slice_get tasks r.task.0 ≡ Some slot
    pub ordinary : slot.home ≡ None
    pub of_it : r ≡ runnable_of slot.cell

  pub record IsWhole (x : Profile) (s : Shared B) : Type 0 where
    pub runnables : (t : ℕ) (slot : TaskSlot B) → slice_get s.tasks.items t ≡ Some slot → slot.home ≡ None → HasOne (may_let_go s) slot.cell.phase (x.runnables t + stock t s)
    pub polls : (t : ℕ) (slot : TaskSlot B) → slice_get s.tasks.items t ≡ Some slot → slot.home ≡ None → x.polls t ≡ one_if (is_polled slot.cell.phase)
    pub claims : (j : ℕ) (chair : Chair) → slice_get s.seats.items j ≡ Some chair → x.claims j ≡ one_if (not (chair.queue.gap == 0))
    pub counts : x.counts + claimed_count x s ≡ s.idle.count
    pub bits : (j : ℕ) → is_in s.idle.published j ≡ true → (x.published j ≡ true) × (j < s.config.workers)
    pub set : length s.idle.published ≡ 64
    pub queued_here : (j : ℕ) (chair : Chair) (r : Runnable) → slice_get s.seats.items j ≡ Some chair → Contains (queued chair) r → IsGenuine s.tasks.items r
    pub queued_there : (r : Runnable) → Contains s.global.values r → IsGenuine s.tasks.items r
    pub places : s.global.closed ≡ false → length s.tasks.items ≤ s.global.places
    -- nobody has anything of a number that no task has
    pub made : (t : ℕ) → length s.tasks.items ≤ t → (x.runnables t + stock t s ≡ 0) × (x.polls t ≡ 0)
    -- or has claimed a run queue that no worker has
    pub unclaimed : (j : ℕ) → length s.seats.items ≤ j → x.claims j ≡ 0
    -- the first workers are those of the pool
    pub in_pool : (j : ℕ) (chair : Chair) → slice_get s.seats.items j ≡ Some chair → chair.pool ≡ nat_lt j s.config.workers
    pub pool : IsPool (duties_of x) s.tasks.items s.set s.seats.items
    pub gates : HaveGates x.drops_by s.opens s.requests.items
    pub holding : IsHolding (hands_of x) s.config.workers (map holder_of s.tasks.items) (map thing_of s.requests.items) (map nap_of s.sleepers.items) (map box_of s.seats.items)

  -- what holds of a worker together with all other parties, whose counts are few
  pub record HasWhole (w : Worker) (s : Shared B) : Type 0 where
    pub others : Profile
    pub whole : IsWhole (with_worker others w) s
    pub few : others.counts < 2 ^ 63
