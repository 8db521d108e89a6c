-- What a worker has and shares beside what the abstract machine knows of it.
use Rattle.std.specs.Prelude.{ℕ, suc, Bool, true, false, not, List, [], ◌∷◌, length, nat_le, Option, Some, None, is_some, slice_index_or, if◌then◌else◌}
use Rattle.exec_base.specs.Spinner.{Spinner}
use Rattle.exec_words.specs.{Idle.Idle, Queue.Queue, declared.word.PureWord.PureWord}
use Rattle.exec_words.specs.declared.word.WaitTarget.TheVariants as target
use Rattle.exec_machine.specs.{declared.{event.Event.{Event, TheVariants.{Turn, Serve}}, state.{Letter.Letter, MailMessage.MailMessage}}, Choice.{Choice, Choice.Plain}}
use Rattle.exec_moves.specs.{declared.place.Place.Place, Slots.Slots}

-- what only the worker touches
pub record Desk : Type 0 where
  pub place : Place
  -- so many picks are left to the next global look, and in this turn
  pub countdown : ℕ
  pub picks : ℕ
  -- the root flag
  pub root_ready : Bool
  -- the service of this turn was one that may put its last enter off; it did
  pub may_put_off : Bool
  pub put_off : Bool
  -- what waits for the callbacks beside requests to be released: tasks to be woken, so many outputs that nobody takes,
  -- and the sleepers and requests whose end is to be sent to who waits elsewhere
  pub wakes : List ℕ
  pub outputs : ℕ
  pub completions : List ℕ
  pub results : List ℕ
  -- the slots of its requests and of its sleepers, and, by slots, the requests that wake their task here once they are over
  pub requests : Slots
  pub timers : Slots
  pub awaited : List ℕ
  -- so many entries stand in the submission queue; the wake poll is one of them, or was taken in and hasn't ended as far as
  -- the worker knows; and so many acknowledged cancels stand behind the last completion of an operation
  pub entries : ℕ
  pub polled : Bool
  pub others : ℕ
  -- the messages that it took and has yet to apply, and how many batches it took
  pub batch : List MailMessage
  pub processed : ℕ
  pub spinner : Spinner
  -- what it read off the clock before it went on to wait, and when it went to sleep on its wake word
  pub read : ℕ
  pub slept : Option ℕ
  -- it holds a search count; and the number of a generator, by which its next scan begins
  pub searching : Bool
  pub rng : ℕ
  -- the runnable in its hand, and those that it has moved out of a queue in a steal or an overflow, the oldest first
  pub hand : Option ℕ
  pub loot : List ℕ
  -- what it has to tell other workers of what a task held that is over, in order
  pub letters : List Letter

-- the wake poll of a ring, as the kernel has it
pub record WakePoll : Type 0 where
  -- the kernel has it; its next completion is its last
  pub armed : Bool
  pub last : Bool
  -- a completion of it stands behind the last one of an operation; the kernel counts no more of them than it can
  pub told : Bool
  -- one that the worker didn't drop yet has ended it, and so many operations have landed behind that
  pub ended : Option ℕ
  -- a wake was raised while the kernel didn't have it
  pub kept : Bool

-- what several parties touch
pub record Things : Type 0 where
  -- of each worker: its run queue, of tasks; its wake word; the messages that it hasn't taken; the wake poll of its ring
  pub queues : List (Queue ℕ)
  pub words : List PureWord
  pub inboxes : List (List MailMessage)
  pub wake_polls : List WakePoll
  -- the tasks in the global queue
  pub global : List ℕ
  pub idle : Idle
  -- the barrier is open; the ordinary tasks that are live, by shard, the oldest first
  pub barrier : Bool
  pub shards : List (List ℕ)
  -- Of each open the requests at its gate, the holder of the permit first. One that is over stands there until its worker
  -- gives the permit up.
  pub gates : List (List ℕ)
  -- the requests and the sleepers of which a task elsewhere has been sent the end, in order of their numbers
  pub answers : List ℕ
  pub alarms : List ℕ

-- OF ONE WORKER

abbrev pub no_queue : Queue ℕ
no_queue = record { real = 0; gap = 0; values = []; held = [] }

abbrev pub no_word : PureWord
no_word = record { target = target.None; latch = false; batch = 0 }

abbrev pub no_wake_poll : WakePoll
no_wake_poll = record { armed = false; last = false; told = false; ended = None; kept = false }

abbrev pub queue_of : Things → ℕ → Queue ℕ
queue_of x j = slice_index_or x.queues j no_queue

abbrev pub word_of : Things → ℕ → PureWord
word_of x j = slice_index_or x.words j no_word

abbrev pub inbox_of : Things → ℕ → List MailMessage
inbox_of x j = slice_index_or x.inboxes j []

abbrev pub wake_poll_of : Things → ℕ → WakePoll
wake_poll_of x j = slice_index_or x.wake_polls j no_wake_poll

-- who is at the gate of this open
abbrev pub gate_of : Things → ℕ → List ℕ
gate_of x file = slice_index_or x.gates file []

-- THE WAKE POLL

-- a completion of the poll that the kernel has, behind all others
abbrev pub told_once : WakePoll → WakePoll
told_once p = record p { told = true; armed = not p.last; ended = if p.last then Some 0 else p.ended; last = false }

-- A wake is raised. Without the poll it is kept until the kernel has that.
abbrev pub raised : WakePoll → WakePoll
raised p = if p.armed then told_once p else record p { kept = true }

-- the kernel has the poll from now on
abbrev pub armed : WakePoll → WakePoll
armed p = if p.kept then told_once (record p { armed = true; kept = false }) else record p { armed = true }

-- an enter takes the poll in, where it stands in the submission queue
abbrev pub taken_in : Bool → WakePoll → WakePoll
taken_in true p = if p.armed then p else if is_some p.ended then p else armed p
taken_in false p = p

abbrev pub one_behind : Option ℕ → Option ℕ
one_behind None = None
one_behind (Some behind) = Some (suc behind)

-- an operation has landed, behind all other completions
abbrev pub passed : WakePoll → WakePoll
passed p = record p { told = false; ended = one_behind p.ended }

-- WHAT IS DROPPED: all completions of no operation before the first of these operations, or all where there is none

-- so many acknowledged cancels stand behind the last operation, and a completion of the wake poll
abbrev pub others_left : List ℕ → ℕ → ℕ
others_left [] n = 0
others_left (next ∷ later) n = n

abbrev pub told_left : List ℕ → Bool → Bool
told_left [] told = false
told_left (next ∷ later) told = told

-- the completion that ended the wake poll is dropped
abbrev pub is_dropped : List ℕ → Option ℕ → Bool
is_dropped landed None = false
is_dropped landed (Some behind) = nat_le (length landed) behind

abbrev pub dropped : List ℕ → WakePoll → WakePoll
dropped landed p = record p { told = told_left landed p.told; ended = if is_dropped landed p.ended then None else p.ended }

-- WHAT A STEP DOES

-- the event, what that leaves open, what the worker has then, and the one thing that it named
pub record Moved (T : Type 0) : Type 0 where
  pub event : Event
  pub choice : Choice
  pub desk : Desk
  pub thing : T

-- the worker goes to this place
abbrev pub goes : Place → Desk → Desk
goes p d = record d { place = p }

module _ {T : Type 0} where
  -- this happens, and leaves nothing open
  abbrev pub does : Event → Desk → T → Moved T
  does e d x = record { event = e; choice = Plain; desk = d; thing = x }

  -- a turn that leads to this place, and nothing else
  abbrev pub turns : Place → Desk → T → Moved T
  turns p d x = does Turn (record d { place = p }) x

  -- the same inside a service
  abbrev pub serves : Place → Desk → T → Moved T
  serves p d x = does Serve (record d { place = p }) x

-- no thing is named
abbrev pub Own : Type 0
Own = Unit {0}
