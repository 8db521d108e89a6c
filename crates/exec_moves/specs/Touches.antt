-- That a step changes the one shared thing that its place names, and nothing else that parties share.
use Rattle.std.specs.Prelude.{◌≡◌, ℕ, Bool, true, false, ◌==◌, List, [], slice_index_or}
use Rattle.exec_moves.specs.{State.{Things, queue_of, word_of, inbox_of, wake_poll_of, gate_of}, Told.has_number, Cells.{Cell, Cell.{RunQueue, Share, WakeWord, Ring, Inbox, GlobalQueue, IdleSet, SearchCount, Rest, Shard, Barrier, Gate, Answer, Alarm}}}

-- A share stores the tail of the own run queue too.
abbrev pub touches_queue : Cell → ℕ → Bool
touches_queue (RunQueue i) j = j == i
touches_queue (Share i) j = j == i
touches_queue _ j = false

-- for whom it is armed, and its latch
abbrev pub touches_wait : Cell → ℕ → Bool
touches_wait (WakeWord i) j = j == i
touches_wait _ j = false

-- its batch, which a message publishes too
abbrev pub touches_batch : Cell → ℕ → Bool
touches_batch (WakeWord i) j = j == i
touches_batch (Inbox i) j = j == i
touches_batch _ j = false

abbrev pub touches_inbox : Cell → ℕ → Bool
touches_inbox (Inbox i) j = j == i
touches_inbox _ j = false

abbrev pub touches_wake_poll : Cell → ℕ → Bool
touches_wake_poll (Ring i) j = j == i
touches_wake_poll (Rest i) j = j == i
touches_wake_poll _ j = false

abbrev pub touches_shard : Cell → ℕ → Bool
touches_shard (Shard n) m = m == n
touches_shard _ m = false

abbrev pub touches_global : Cell → Bool
touches_global GlobalQueue = true
touches_global (Share i) = true
touches_global _ = false

abbrev pub touches_set : Cell → Bool
touches_set IdleSet = true
touches_set _ = false

abbrev pub touches_count : Cell → Bool
touches_count SearchCount = true
touches_count _ = false

abbrev pub touches_barrier : Cell → Bool
touches_barrier Barrier = true
touches_barrier _ = false

abbrev pub touches_gate : Cell → ℕ → Bool
touches_gate (Gate file) other = other == file
touches_gate _ other = false

abbrev pub touches_answer : Cell → ℕ → Bool
touches_answer (Answer r) q = q == r
touches_answer _ q = false

abbrev pub touches_alarm : Cell → ℕ → Bool
touches_alarm (Alarm z) y = y == z
touches_alarm _ y = false

abbrev pub shard_at : Things → ℕ → List ℕ
shard_at x n = slice_index_or x.shards n []

-- All but this cell is as before. A new worker has nothing yet, as one that isn't there.
pub record OnlyTouches (cell : Cell) (before after : Things) : Type 0 where
  pub queues : (j : ℕ) → touches_queue cell j ≡ false → queue_of after j ≡ queue_of before j
  pub targets : (j : ℕ) → touches_wait cell j ≡ false → (word_of after j).target ≡ (word_of before j).target
  pub latches : (j : ℕ) → touches_wait cell j ≡ false → (word_of after j).latch ≡ (word_of before j).latch
  pub batches : (j : ℕ) → touches_batch cell j ≡ false → (word_of after j).batch ≡ (word_of before j).batch
  pub inboxes : (j : ℕ) → touches_inbox cell j ≡ false → inbox_of after j ≡ inbox_of before j
  pub wake_polls : (j : ℕ) → touches_wake_poll cell j ≡ false → wake_poll_of after j ≡ wake_poll_of before j
  pub shards : (n : ℕ) → touches_shard cell n ≡ false → shard_at after n ≡ shard_at before n
  pub gates : (file : ℕ) → touches_gate cell file ≡ false → gate_of after file ≡ gate_of before file
  pub answers : (r : ℕ) → touches_answer cell r ≡ false → has_number r after.answers ≡ has_number r before.answers
  pub alarms : (z : ℕ) → touches_alarm cell z ≡ false → has_number z after.alarms ≡ has_number z before.alarms
  pub global : touches_global cell ≡ false → after.global ≡ before.global
  pub published : touches_set cell ≡ false → after.idle.published ≡ before.idle.published
  pub count : touches_count cell ≡ false → after.idle.count ≡ before.idle.count
  pub barrier : touches_barrier cell ≡ false → after.barrier ≡ before.barrier
