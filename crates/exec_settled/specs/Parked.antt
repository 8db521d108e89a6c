-- WHO SLEEPS HAS NOTHING TO DO, whatever others do meanwhile, or somebody's next step wakes it; who closes sleeps only while a request
-- of its own is held up; and no request is forgotten.
--
-- Where all sleep there is nobody else who could go on. Where some never sleep, a wake that was lost would show in no state of
-- that kind: so of each worker that sleeps by itself it is said here that nothing is left for it to do. In between, while it is
-- being woken, it is known whose step comes next.
use Rattle.std.specs.Prelude.{◌≡◌, ◌≢◌, ℕ, ◌<◌, Bool, true, false, ◌||◌, ◌⊎◌, [], length, nat_lt, slice_get, Some, None}
use Rattle.exec_machine.specs.{declared.{config.Configuration.Configuration, state.{Forwarding.TheVariants.Sent, MailMessage.MailMessage as message, Waiting.Waiting as waiting}}, Progress.{has_to_close, is_cancel_untold, is_request_unfinished, is_runnable, is_sleeper_unfinished}, Ranges.ring_size, Tests.{has_ended, is_closing, is_done, is_flying, is_gated, is_landed, is_open, is_queued, is_resolved, is_staged}, World.{Common, Task, open_of, own_of, request_of, seat_of, sleeper_of, task_of}}
use Rattle.exec_moves.specs.{declared.place.{InPoll.InPoll, Place.Place}, Plays.{Playing, caller_of, desk_of}, State.queue_of}
use Rattle.exec_rest.specs.{Places.is_in_call, Rested.{IsOwed, IsRaised, IsSignalled, is_in_pool, is_latched, place_at, sleeps}}
use Rattle.exec_books.specs.{Booked.{AreLinedUp, IsLed, IsUnderWay}, Listed.AreListed}
use Rattle.exec_settled.specs.{Awaited.IsAwaited, Given.{NobodyWaitsInVain, WaitsFor}, Permits.{IsHanded, IsPassing, IsPermitted}}

-- a request of worker i has the permit of its open, and wasn't granted it; somebody passes that on by a step that comes next
abbrev pub IsPassedOn : Configuration → Playing → ℕ → ℕ → Type 0
IsPassedOn c x k i =
    let it = request_of x.world.common k in
    (it.worker ≡ i) × (is_gated it.phase ≡ true) × ((open_of x.world.common it.operation.target).holder ≡ Some k) × IsPassing c x it.operation.target

-- Somebody's next step puts the latch into the wake word of worker i, or ends its wait; or passes on the permit of an open to a
-- request of its own; or signals it, since that was done.
pub data IsBeingWoken (c : Configuration) (x : Playing) (i : ℕ) : Type 0 where
  Signalled : IsSignalled c x i → IsBeingWoken c x i
  Raised : (ring : Bool) → IsRaised c x i ring → IsBeingWoken c x i
  Passed : (k : ℕ) → IsPassedOn c x k i → IsBeingWoken c x i
  Handed : IsHanded c x i → IsBeingWoken c x i

-- A worker that sleeps, and whom nobody wakes next.
pub record IsParked (c : Configuration) (x : Playing) (i : ℕ) : Type 0 where
  pub asleep : sleeps c x i ≡ true
  pub left : IsBeingWoken c x i → ⊥

module _ (c : Configuration) (x : Playing) where
  abbrev s : Common
  s = x.world.common

  -- a task that is to be polled or in a poll, or looks next at what was sent
  abbrev pub IsUp : ℕ → Type 0
  IsUp t = (is_runnable (task_of s t).phase ≡ true) ⊎ ((j : ℕ) × (place_at c x j ≡ Place.Poll t InPoll.Resume))

  -- A REQUEST THAT ISN'T OVER IS HELD UP: it is with the kernel; or it waits for a place in the ring of its worker, where there is
  -- none; or for the permit of its open, which another one has that isn't over.
  pub data IsHeldUp (k : ℕ) : Type 0 where
    WithKernel : is_flying (request_of s k).phase ≡ true → IsHeldUp k
    WaitsForPlace : is_queued (request_of s k).phase ≡ true → nat_lt (own_of x.world (request_of s k).worker).in_flight (ring_size c) ≡ false → IsHeldUp k
    WaitsForPermit : (h : ℕ) → is_gated (request_of s k).phase ≡ true → (open_of s (request_of s k).operation.target).holder ≡ Some h → h ≢ k → is_resolved (request_of s h).phase ≡ false → IsHeldUp k

  -- an open worker
  pub record HasNothingToDo (i : ℕ) : Type 0 where
    -- it was not signalled, has no message, and nothing lies in its run queue
    pub unsignalled : is_latched c x i ≡ false
    pub messages : (seat_of s i).inbox ≡ []
    pub queue : (queue_of x.things i).values ≡ []
    -- its root is not to be polled, nor was it woken since its last poll began; nor is it over, so this worker need not close
    pub root : (t : ℕ) (it : Task) → slice_get s.tasks t ≡ Some it → it.home ≡ Some i → (is_runnable it.phase ≡ false) × ((is_done it.phase || it.fresh) ≡ true)
    pub stays : has_to_close x.world i (seat_of s i) ≡ false
    -- nothing is unfinished of its requests and its sleepers
    pub requests : (k : ℕ) → (request_of s k).worker ≡ i → is_request_unfinished c x.world k (request_of s k) ≡ false
    pub sleepers : (z : ℕ) → (sleeper_of s z).worker ≡ i → is_sleeper_unfinished s (sleeper_of s z) ≡ false
    -- who waits for one of them that has come is up
    pub came : (t k : ℕ) → WaitsFor s t (waiting.Request k) → (request_of s k).worker ≡ i → is_resolved (request_of s k).phase ≡ true → IsUp t
    pub fired : (t z : ℕ) → WaitsFor s t (waiting.Timer z) → (sleeper_of s z).worker ≡ i → (sleeper_of s z).fired ≡ true → IsUp t

  -- a closing one
  pub record WaitsForRequest (i : ℕ) : Type 0 where
    -- it was not signalled, and nothing is unfinished of its requests
    pub unsignalled : is_latched c x i ≡ false
    pub requests : (k : ℕ) → (request_of s k).worker ≡ i → is_request_unfinished c x.world k (request_of s k) ≡ false
    -- one of them isn't over
    pub some : (k : ℕ) × ((request_of s k).worker ≡ i) × (is_resolved (request_of s k).phase ≡ false)

  -- The kernel has all that it staged, and was told its cancels; and it has taken in all that landed.
  pub record HasEnteredAll (i : ℕ) : Type 0 where
    pub requests : (k : ℕ) → (request_of s k).worker ≡ i → (is_staged (request_of s k).phase ≡ false) × (is_landed (request_of s k).phase ≡ false)
    pub cancels : is_cancel_untold s (own_of x.world i) ≡ false

  -- It has no runnable in its hand, none among those that it moved out of a queue, and none kept aside of its own.
  pub record HasNoneInHand (i : ℕ) : Type 0 where
    pub hand : (desk_of c x i).hand ≡ None
    pub loot : (desk_of c x i).loot ≡ []
    pub aside : (queue_of x.things i).held ≡ []

  abbrev pub IsPoolAtWork : Type 0
  IsPoolAtWork = (i : ℕ) → is_in_pool c x i ≡ true → is_open (seat_of s i).phase ≡ true

  pub record NobodySleepsOnWork : Type 0 where
    pub parked : (i : ℕ) → is_open (seat_of s i).phase ≡ true → IsParked c x i → HasNothingToDo i
    pub closing : (i : ℕ) → is_closing (seat_of s i).phase ≡ true → IsParked c x i → WaitsForRequest i
    -- and each request of theirs that isn't over is held up
    pub held_up : (k : ℕ) → is_resolved (request_of s k).phase ≡ false → IsParked c x (request_of s k).worker → IsHeldUp k
    -- so it is with the kernel of whoever sleeps, also of one that closes or is woken next
    pub entered : (i : ℕ) → sleeps c x i ≡ true → HasEnteredAll i
    -- Nobody keeps a runnable to itself: who sleeps or has ended has none in hand, nor has a caller outside a call; and none lies
    -- in the run queue of a worker that isn't of the pool.
    pub hands : (i : ℕ) → (sleeps c x i || has_ended (seat_of s i).phase) ≡ true → HasNoneInHand i
    pub calls : (j : ℕ) → is_in_call (caller_of x j).place ≡ false → (caller_of x j).hand ≡ None
    pub bare : (i : ℕ) → is_in_pool c x i ≡ false → (queue_of x.things i).values ≡ []
    -- while something lies in the global queue somebody looks for a worker, or one of the pool is awake or is woken next, until
    -- one of these closes
    pub pool : IsPoolAtWork → (x.things.global ≡ [] → ⊥) → IsOwed c x ⊎ ((i : ℕ) × (is_in_pool c x i ≡ true) × ((sleeps c x i ≡ false) ⊎ IsBeingWoken c x i))

-- NO REQUEST IS FORGOTTEN, NOR ITS END, also where nobody sleeps: each stands in the lists of its worker for what it waits for,
-- and at the gate of its open where that is the permit, which somebody has then; a permit comes to who has it; nobody waits in vain;
-- who waits elsewhere has told the worker of that, or a message is under way; and who waits for what has come is woken, or is told
-- first where that was elsewhere.
pub record NoneIsForgotten (c : Configuration) (x : Playing) : Type 0 where
  pub listed : AreListed x.world
  pub lined_up : AreLinedUp x.world
  pub there : (k : ℕ) → is_gated (request_of x.world.common k).phase ≡ true → (request_of x.world.common k).operation.target < length x.world.common.opens
  pub led : (file : ℕ) → IsLed (open_of x.world.common file)
  pub permitted : IsPermitted c x
  pub waits : NobodyWaitsInVain x.world.common
  pub sent : (k : ℕ) → (request_of x.world.common k).forwarding ≡ Sent → IsUnderWay (message.ForwardRequest k) (seat_of x.world.common (request_of x.world.common k).worker)
  pub sent_too : (z : ℕ) → (sleeper_of x.world.common z).forwarding ≡ Sent → IsUnderWay (message.ForwardTimer z) (seat_of x.world.common (sleeper_of x.world.common z).worker)
  pub awaited : IsAwaited c x
