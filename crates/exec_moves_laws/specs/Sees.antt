-- That a step sees the one shared thing that its place names, and nothing else that parties share.
use Rattle.std.specs.Prelude.{◌≡◌, ℕ, Bool, true, false, ◌==◌, length}
use Rattle.exec_moves.specs.{State.{Things, Moved, queue_of, word_of, inbox_of, wake_poll_of, gate_of}, Told.has_number, Call.Called, Cells.{Cell, Cell.{WakeWord, Inbox}}, Touches.{touches_queue, touches_inbox, touches_wake_poll, touches_shard, touches_gate, touches_answer, touches_alarm, touches_global, touches_set, touches_count, touches_barrier, shard_at}}

-- A message touches the batch alone of the wake word, and sees the rest too: whether a signal is wanted.
abbrev pub sees_word : Cell → ℕ → Bool
sees_word (WakeWord i) j = j == i
sees_word (Inbox i) j = j == i
sees_word _ j = false

-- Both have as many of each. What is put where there is no place is lost: of two that look alike there, one of which has the
-- place, that one alone would show it.
pub record AreAsMany (one other : Things) : Type 0 where
  pub queues : length one.queues ≡ length other.queues
  pub words : length one.words ≡ length other.words
  pub inboxes : length one.inboxes ≡ length other.inboxes
  pub wake_polls : length one.wake_polls ≡ length other.wake_polls
  pub shards : length one.shards ≡ length other.shards
  pub gates : length one.gates ≡ length other.gates

-- There are as many of each, and what this cell shows is the same in both: all that a step touches there, and of an inbox the
-- whole wake word. A new worker shows nothing.
pub record LooksAlike (cell : Cell) (one other : Things) : Type 0 where
  pub many : AreAsMany one other
  pub queues : (j : ℕ) → touches_queue cell j ≡ true → queue_of one j ≡ queue_of other j
  pub words : (j : ℕ) → sees_word cell j ≡ true → word_of one j ≡ word_of other j
  pub inboxes : (j : ℕ) → touches_inbox cell j ≡ true → inbox_of one j ≡ inbox_of other j
  pub wake_polls : (j : ℕ) → touches_wake_poll cell j ≡ true → wake_poll_of one j ≡ wake_poll_of other j
  pub shards : (n : ℕ) → touches_shard cell n ≡ true → shard_at one n ≡ shard_at other n
  pub gates : (file : ℕ) → touches_gate cell file ≡ true → gate_of one file ≡ gate_of other file
  pub answers : (r : ℕ) → touches_answer cell r ≡ true → has_number r one.answers ≡ has_number r other.answers
  pub alarms : (z : ℕ) → touches_alarm cell z ≡ true → has_number z one.alarms ≡ has_number z other.alarms
  pub global : touches_global cell ≡ true → one.global ≡ other.global
  pub published : touches_set cell ≡ true → one.idle.published ≡ other.idle.published
  pub count : touches_count cell ≡ true → one.idle.count ≡ other.idle.count
  pub barrier : touches_barrier cell ≡ true → one.barrier ≡ other.barrier

-- Two steps of a worker, or of a caller, do the same, and what they leave looks alike.
pub record GoesAlike (cell : Cell) (one other : Moved Things) : Type 0 where
  pub event : one.event ≡ other.event
  pub choice : one.choice ≡ other.choice
  pub desk : one.desk ≡ other.desk
  pub thing : LooksAlike cell one.thing other.thing

pub record CallsAlike (cell : Cell) (one other : Called Things) : Type 0 where
  pub event : one.event ≡ other.event
  pub choice : one.choice ≡ other.choice
  pub desk : one.desk ≡ other.desk
  pub thing : LooksAlike cell one.thing other.thing
