-- NOTHING IS LEFT TO BE RUN where all workers sleep and no call is half done.
use Rattle.std.specs.Prelude.{◌≡◌, ℕ, ◌<◌, Bool, true, false, ◌||◌, [], ◌++◌, length, slice_get, Some, None}
use Rattle.exec_machine.specs.{declared.{state.TaskPhase.{TaskPhase, TaskPhase as phase}, config.Configuration.Configuration}, Progress.{all_asleep, is_runnable}, Tests.{has_ended, is_done, is_open}, World.{Task, own_of, seat_of}}
use Rattle.exec_words.specs.Queue.{Queue}
use Rattle.exec_moves.specs.{declared.{handing.AfterPush.AfterPush, idling.{InScan.InScan, Stay.Stay}, place.{InClosing.InClosing, InPoll.InPoll, Place.Place}}, Plays.{Playing, desk_of, caller_of}, State.{inbox_of, queue_of}}
use Rattle.exec_rest.specs.{Places.{is_abed, is_in_call}, Rested.{IsLaidOut, IsPoolOpen, NothingWaits, is_in_pool, place_at}}
use Rattle.exec_machine.specs.declared.state.Next.TheVariants as next

-- WHAT IS SAID OF A LOG

-- No task is to be polled or in a poll, and each that isn't over began its last poll after it was woken last; nobody has a message;
-- and as long as no worker of the pool has ended, nothing lies in a queue of the pool, and nobody that sleeps was signalled.
pub record IsAtRest (c : Configuration) (x : Playing) : Type 0 where
  pub tasks : (t : ℕ) (it : Task) → slice_get x.world.common.tasks t ≡ Some it → is_runnable it.phase ≡ false
  pub woken : (t : ℕ) (it : Task) → slice_get x.world.common.tasks t ≡ Some it → (is_done it.phase || it.fresh) ≡ true
  pub messages : (i : ℕ) → (seat_of x.world.common i).inbox ≡ []
  pub queues : IsPoolOpen c x → NothingWaits c x

-- So it is where all workers sleep or have ended, and no call is half done.
abbrev pub RestsWell : Configuration → Playing → Type 0
RestsWell c x = all_asleep x.world ≡ true → IsAtRest c x

-- WHAT THAT RESTS ON, beside what holds by the moves alone

-- a wait of a worker that is closing
abbrev pub stays_closing : Place → Bool
stays_closing (Place.RingWait x Stay.Closing) = true
stays_closing _ = false

-- the own run queue is written there, in a pick or a steal, or after a poll
abbrev pub is_fed : Place → Bool
is_fed (Place.Pick x) = true
is_fed (Place.Pop x b) = true
is_fed (Place.Push x AfterPush.Pick) = true
is_fed (Place.Scan InScan.StoreMoved) = true
is_fed _ = false

-- the same for a task that an act or the callbacks gave it
abbrev pub is_given : Place → Bool
is_given (Place.Poll t InPoll.LoadSpawnHead) = true
is_given (Place.Push x (AfterPush.Act t)) = true
is_given (Place.Push x (AfterPush.CallBack n)) = true
is_given _ = false

-- the end of a worker, or the place at which it sleeps
abbrev pub is_end : Place → Bool
is_end (Place.Closing InClosing.End) = true
is_end _ = false

abbrev pub is_idle : Place → Bool
is_idle p = is_abed p || is_end p

abbrev pub IsBare : Queue ℕ → Type 0
IsBare q = (q.values ≡ []) × (q.held ≡ [])

-- A worker that is not of the pool gives its run queue nothing, and has nothing in it.
pub record AreBare (c : Configuration) (x : Playing) : Type 0 where
  pub given : (i : ℕ) → is_given (place_at c x i) ≡ true → is_in_pool c x i ≡ true
  pub bare : (i : ℕ) → is_in_pool c x i ≡ false → IsBare (queue_of x.things i)

-- a task of this phase has noted no wake since its last poll began
abbrev pub is_unnoted : TaskPhase → Bool
is_unnoted phase.Idle = true
is_unnoted (phase.Running i) = true
is_unnoted _ = false

-- So it is: it began that after its last wake.
abbrev pub AreFresh : Playing → Type 0
AreFresh x = (t : ℕ) (it : Task) → slice_get x.world.common.tasks t ≡ Some it → is_unnoted it.phase ≡ true → it.fresh ≡ true

-- The global queue is closed only once the task set is, as is a worker that has to close the queue next.
pub record IsShut (x : Playing) : Type 0 where
  pub queue : x.world.common.queue_closed ≡ true → x.world.common.set_closed ≡ true
  pub next : (i : ℕ) → (own_of x.world i).next ≡ next.ClosesQueue → x.world.common.set_closed ≡ true

-- Each worker and each caller is at a place where it may be, and has no runnable where it sleeps or has ended.
pub record IsPlaced (c : Configuration) (x : Playing) : Type 0 where
  pub laid : IsLaidOut c x
  pub feeds : (i : ℕ) → is_fed (place_at c x i) ≡ true → is_in_pool c x i ≡ true
  pub stays : (i : ℕ) → is_open (seat_of x.world.common i).phase ≡ true → stays_closing (place_at c x i) ≡ false
  -- who has ended stands at its end
  pub over : (i : ℕ) → i < length x.desks → has_ended (seat_of x.world.common i).phase ≡ true → is_end (place_at c x i) ≡ true
  pub hands : (i : ℕ) → is_idle (place_at c x i) ≡ true → ((desk_of c x i).hand ≡ None) × ((desk_of c x i).loot ≡ [])
  pub aside : (i : ℕ) → is_idle (place_at c x i) ≡ true → (queue_of x.things i).held ≡ []
  pub calls : (j : ℕ) → is_in_call (caller_of x j).place ≡ false → (caller_of x j).hand ≡ None
  -- of messages the machine has those that a worker took and has yet to apply, and those in its inbox; none at its end
  pub mail : (i : ℕ) → (seat_of x.world.common i).inbox ≡ (desk_of c x i).batch ++ inbox_of x.things i
  pub mute : (i : ℕ) → is_end (place_at c x i) ≡ true → ((desk_of c x i).batch ≡ []) × (inbox_of x.things i ≡ [])
  -- a root that is to be polled or in a poll is that of a worker that has not ended, whose flag is set where it sleeps
  pub roots : (t : ℕ) (it : Task) (j : ℕ) → slice_get x.world.common.tasks t ≡ Some it → it.home ≡ Some j → is_runnable it.phase ≡ true → (j < length x.desks) × (is_end (place_at c x j) ≡ false) × (is_abed (place_at c x j) ≡ true → (desk_of c x j).root_ready ≡ true)
  -- worker zero closes the set; once a worker of the pool has ended no ordinary task is to be polled or in a poll
  pub zero : is_open (seat_of x.world.common 0).phase ≡ true → x.world.common.set_closed ≡ false
  pub done : (i : ℕ) → is_in_pool c x i ≡ true → has_ended (seat_of x.world.common i).phase ≡ true → (t : ℕ) (it : Task) → slice_get x.world.common.tasks t ≡ Some it → it.home ≡ None → is_runnable it.phase ≡ false
