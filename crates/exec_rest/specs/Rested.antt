-- NO WAKE IS LOST: what holds in each state of an executor, and why nothing is left to be run where all workers sleep.
--
-- Who puts a task into the global queue looks for a published worker afterwards. Who publishes itself looks at the global
-- queue afterwards. So one of the two finds the other. A worker that was found has its bit taken out, its latch set and its
-- wait ended, by steps one after the other; in between it is known who makes the next one.
use Rattle.std.specs.Prelude.{◌≡◌, ◌≢◌, ℕ, ◌<◌, Bool, true, false, not, ◌&&◌, ◌||◌, ◌⊎◌, [], length, Some, is_some}
use Rattle.exec_words.specs.{Idle.is_in, declared.word.WaitTarget.WaitTarget as target}
use Rattle.exec_machine.specs.{declared.config.Configuration.Configuration, Callers.may_go_on, Tests.{has_ended, is_awake, is_empty}, World.seat_of}
use Rattle.exec_moves.specs.{declared.{handing.CallPlace.CallPlace, place.Place.Place}, Callback.is_of_pool, Plays.{Playing, desk_of, caller_of}, Serve.Ring, State.{WakePoll, queue_of, word_of, wake_poll_of}, Thing.ring_of, Wait.has_completion}
use Rattle.exec_rest.specs.Places.{asked_for_poll, call_owes, call_raises, call_signals, has_looked, is_abed, is_dry, is_in_call, is_pooled, is_published, is_to_enter, is_to_sleep_on_ring, is_withdrawing, owes, owes_nothing, raises, signals, waits_on}

-- A worker or a caller whose place is such a one.
pub data Someone (c : Configuration) (x : Playing) (worker : Place → Type 0) (caller : CallPlace → Type 0) : Type 0 where
  Worker : (j : ℕ) → worker (desk_of c x j).place → Someone c x worker caller
  Caller : (j : ℕ) → caller (caller_of x j).place → Someone c x worker caller

module _ (c : Configuration) (x : Playing) where
  -- somebody signals worker i next, or ends its wait; or looks for a worker after it put something into the global queue
  abbrev pub IsSignalled : ℕ → Type 0
  IsSignalled i = Someone c x (λ p. signals p ≡ Some i) (λ p. call_signals p ≡ Some i)

  abbrev pub IsRaised : ℕ → Bool → Type 0
  IsRaised i ring =
      Someone c x (λ p. raises p ≡ Some (record { worker = i; ring = ring })) (λ p. call_raises p ≡ Some (record { worker = i; ring = ring }))

  abbrev pub IsOwed : Type 0
  IsOwed = Someone c x (λ p. owes p ≡ true) (λ p. call_owes p ≡ true)

  -- of worker i
  abbrev pub place_at : ℕ → Place
  place_at i = (desk_of c x i).place

  abbrev pub is_in_pool : ℕ → Bool
  is_in_pool i = is_of_pool x.world.common i

  abbrev pub sleeps : ℕ → Bool
  sleeps i = not (is_awake (seat_of x.world.common i).rest)

  abbrev pub has_bit : ℕ → Bool
  has_bit i = is_in x.things.idle.published i

  abbrev pub is_latched : ℕ → Bool
  is_latched i = (word_of x.things i).latch

  abbrev pub ring_at : ℕ → Ring
  ring_at i = ring_of x.world.common x.things i

  -- a completion is on its ring, and so it won't sleep there
  abbrev pub is_told : ℕ → Bool
  is_told i = has_completion (desk_of c x i) (ring_at i)

  -- the kernel has its wake poll, or a wake was kept for when it does
  abbrev pub poll_at : ℕ → WakePoll
  poll_at i = wake_poll_of x.things i

  -- LISTS AND NUMBERS: each worker has one of each thing; worker zero is of the pool, whose numbers are those of the idle set
  pub record IsLaidOut : Type 0 where
    pub desks : length x.desks ≡ length x.world.common.seats
    pub queues : length x.things.queues ≡ length x.world.common.seats
    pub words : length x.things.words ≡ length x.world.common.seats
    pub polls : length x.things.wake_polls ≡ length x.world.common.seats
    pub boxes : length x.things.inboxes ≡ length x.world.common.seats
    pub callers : length x.callers ≡ length x.world.common.callers
    pub bits : length x.things.idle.published ≡ 64
    pub some : is_in_pool 0 ≡ true
    pub pool : (i : ℕ) → is_in_pool i ≡ true → i < 64

  -- WHAT HOLDS OF EACH WORKER i
  pub record IsRestful : Type 0 where
    -- who sleeps goes on by taking the bits of its wait out
    pub abed : (i : ℕ) → sleeps i ≡ true → is_abed (place_at i) ≡ true
    -- while it waits its wake word says so
    pub armed : (i : ℕ) → waits_on (place_at i) ≢ target.None → (word_of x.things i).target ≡ waits_on (place_at i)
    -- who sleeps and was signalled has its wait ended by somebody
    pub rung : (i : ℕ) → sleeps i ≡ true → is_latched i ≡ true → IsRaised i true ⊎ IsRaised i false
    -- who is about to sleep on its ring, and was signalled, has its wait ended by somebody, or finds that it was
    pub entering : (i : ℕ) → is_to_enter (place_at i) ≡ true → is_latched i ≡ true → IsRaised i true ⊎ ((is_told i || (poll_at i).kept) ≡ true)
    pub sleeping : (i : ℕ) → is_to_sleep_on_ring (place_at i) ≡ true → is_latched i ≡ true → IsRaised i true ⊎ (is_told i ≡ true)
    -- its wake poll was asked for before it may sleep on its ring, and the kernel has it then, or tells that it ended
    pub asked : (i : ℕ) → asked_for_poll (place_at i) ≡ true → (desk_of c x i).polled ≡ true
    pub polled : (i : ℕ) → is_to_sleep_on_ring (place_at i) ≡ true → ((poll_at i).armed || is_told i) ≡ true
    -- a wake is kept only while the kernel doesn't have the poll; where the poll has ended that is told, or something else is
    pub kept : (i : ℕ) → ((poll_at i).armed && (poll_at i).kept) ≡ false
    pub ended : (i : ℕ) → is_some (poll_at i).ended ≡ true → (not (is_empty (ring_at i).landed) || (poll_at i).told) ≡ true
    -- only workers of the pool search and publish themselves
    pub pooled : (i : ℕ) → is_pooled (place_at i) ≡ true → is_in_pool i ≡ true
    -- a bit belongs to a worker of the pool that put it in
    pub bits : (i : ℕ) → has_bit i ≡ true → (is_published (place_at i) ≡ true) × (is_in_pool i ≡ true)
    -- a worker that was claimed takes its bit out next, or was signalled, or is signalled by somebody next
    pub answered : (i : ℕ) → is_in_pool i ≡ true → is_published (place_at i) ≡ true → has_bit i ≡ false → (is_withdrawing (place_at i) || is_latched i) ≡ true ⊎ IsSignalled i
    -- Where something is in the global queue somebody still looks for a worker, or some worker of the pool has yet to look at it or
    -- has lost its bit, or is closing or has ended.
    pub covered : (x.things.global ≡ [] → ⊥) → IsOwed ⊎ ((i : ℕ) × (is_in_pool i ≡ true) × (has_looked (place_at i) ≡ true → has_bit i ≡ false))
    -- who found its run queue empty has it empty
    pub dried : (i : ℕ) → is_in_pool i ≡ true → is_dry (place_at i) ≡ true → (queue_of x.things i).values ≡ []
    -- who has ended has nothing to do for others
    pub over : (i : ℕ) → has_ended (seat_of x.world.common i).phase ≡ true → owes_nothing (place_at i) ≡ true
    -- who is in a call has it half done
    pub calls : (j : ℕ) → is_in_call (caller_of x j).place ≡ true → may_go_on x.world.common j ≡ true

  -- NOTHING IS LEFT TO BE RUN where all sleep and no worker of the pool has ended: no runnable in the global queue, nor in a run
  -- queue of the pool, and whoever sleeps was not signalled.
  pub record NothingWaits : Type 0 where
    pub global : x.things.global ≡ []
    pub queues : (i : ℕ) → is_in_pool i ≡ true → (queue_of x.things i).values ≡ []
    pub latches : (i : ℕ) → sleeps i ≡ true → is_latched i ≡ false

  abbrev pub IsPoolOpen : Type 0
  IsPoolOpen = (i : ℕ) → is_in_pool i ≡ true → has_ended (seat_of x.world.common i).phase ≡ false
