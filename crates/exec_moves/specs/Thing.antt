-- Each move gets its one thing, and puts it back: by number where each worker has one.
use Rattle.std.specs.Prelude.{ℕ, Bool, List, slice_set}
use Rattle.exec_words.specs.{Idle.Idle, Queue.Queue, declared.word.PureWord.PureWord}
use Rattle.exec_machine.specs.{declared.state.MailMessage.MailMessage, World.{Common, seat_of}}
use Rattle.exec_moves.specs.{State.{Things, WakePoll, Moved, word_of, inbox_of, wake_poll_of}, Pick.Queues, Send.Mailbox, Serve.Ring, Call.Called}

-- THE THINGS WITH ANOTHER ONE

abbrev pub set_queue : ℕ → Things → Queue ℕ → Things
set_queue j x q = record x { queues = slice_set x.queues j q }

abbrev pub set_word : ℕ → Things → PureWord → Things
set_word j x w = record x { words = slice_set x.words j w }

abbrev pub set_inbox : ℕ → Things → List MailMessage → Things
set_inbox j x messages = record x { inboxes = slice_set x.inboxes j messages }

abbrev pub set_wake_poll : ℕ → Things → WakePoll → Things
set_wake_poll j x p = record x { wake_polls = slice_set x.wake_polls j p }

abbrev pub set_global : Things → List ℕ → Things
set_global x global = record x { global = global }

-- the global queue, with the tail of the own run queue
abbrev pub set_queues : ℕ → Things → Queues → Things
set_queues i x q = set_global (set_queue i x q.queue) q.global

-- an inbox, with the wake word in which its batches are published
abbrev pub set_mailbox : ℕ → Things → Mailbox → Things
set_mailbox j x m = set_word j (set_inbox j x m.messages) m.word

-- of the ring the machine knows what has landed, and whether it was set busy
abbrev pub set_ring : ℕ → Things → Ring → Things
set_ring i x r = set_wake_poll i x r.wakes

abbrev pub set_idle : Things → Idle → Things
set_idle x idle = record x { idle = idle }

abbrev pub set_barrier : Things → Bool → Things
set_barrier x barrier = record x { barrier = barrier }

abbrev pub set_shard : ℕ → Things → List ℕ → Things
set_shard n x shard = record x { shards = slice_set x.shards n shard }

abbrev pub set_gate : ℕ → Things → List ℕ → Things
set_gate file x gate = record x { gates = slice_set x.gates file gate }

abbrev pub set_answers : Things → List ℕ → Things
set_answers x answers = record x { answers = answers }

abbrev pub set_alarms : Things → List ℕ → Things
set_alarms x alarms = record x { alarms = alarms }

-- the mailbox of worker j, and the ring of worker i
abbrev pub mailbox_of : Things → ℕ → Mailbox
mailbox_of x j = record { messages = inbox_of x j; word = word_of x j }

abbrev pub ring_of : Common → Things → ℕ → Ring
ring_of s x i = record { busy = (seat_of s i).busy; landed = (seat_of s i).landed; wakes = wake_poll_of x i }

-- OF A WORKER

module _ {T : Type 0} where
  abbrev pub puts : (T → Things) → Moved T → Moved Things
  puts back m = record { event = m.event; choice = m.choice; desk = m.desk; thing = back m.thing }

  -- a move that names no thing, or one of which the machine knows all that a step changes
  abbrev pub aside : Things → Moved T → Moved Things
  aside x m = record { event = m.event; choice = m.choice; desk = m.desk; thing = x }

abbrev pub with_queue : ℕ → Things → Moved (Queue ℕ) → Moved Things
with_queue j x m = puts (set_queue j x) m

abbrev pub with_word : ℕ → Things → Moved PureWord → Moved Things
with_word j x m = puts (set_word j x) m

abbrev pub with_inbox : ℕ → Things → Moved (List MailMessage) → Moved Things
with_inbox j x m = puts (set_inbox j x) m

abbrev pub with_mailbox : ℕ → Things → Moved Mailbox → Moved Things
with_mailbox j x m = puts (set_mailbox j x) m

abbrev pub with_wake_poll : ℕ → Things → Moved WakePoll → Moved Things
with_wake_poll j x m = puts (set_wake_poll j x) m

abbrev pub with_ring : ℕ → Things → Moved Ring → Moved Things
with_ring i x m = puts (set_ring i x) m

abbrev pub with_global : Things → Moved (List ℕ) → Moved Things
with_global x m = puts (set_global x) m

abbrev pub with_queues : ℕ → Things → Moved Queues → Moved Things
with_queues i x m = puts (set_queues i x) m

abbrev pub with_idle : Things → Moved Idle → Moved Things
with_idle x m = puts (set_idle x) m

abbrev pub with_barrier : Things → Moved Bool → Moved Things
with_barrier x m = puts (set_barrier x) m

abbrev pub with_shard : ℕ → Things → Moved (List ℕ) → Moved Things
with_shard n x m = puts (set_shard n x) m

abbrev pub with_gate : ℕ → Things → Moved (List ℕ) → Moved Things
with_gate file x m = puts (set_gate file x) m

abbrev pub with_answers : Things → Moved (List ℕ) → Moved Things
with_answers x m = puts (set_answers x) m

abbrev pub with_alarms : Things → Moved (List ℕ) → Moved Things
with_alarms x m = puts (set_alarms x) m

-- OF A CALLER

module _ {T : Type 0} where
  abbrev pub call_puts : (T → Things) → Called T → Called Things
  call_puts back m = record { event = m.event; choice = m.choice; desk = m.desk; thing = back m.thing }
