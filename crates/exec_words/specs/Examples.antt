-- Queues, words and inboxes to look at.
use Rattle.std.specs.Prelude.{ℕ, zero, suc, ◌+◌, Bool, List, [], ◌∷◌}
use Rattle.exec_words.specs.{declared.head.Head.Head, declared.inbox.Message.Message, declared.word.WaitTarget.WaitTarget, declared.word.PureWord.PureWord, IdleRuns.Tally, IdleRuns.Add, IdleRuns.Subtract, IdleRuns.Exchange, IdleRuns.nothing, IdleRuns.after_all as after_moves, Inbox.Inbox, Inbox.without_mail, Inbox.sent, Queue.Queue, Queue.claimed, Queue.popped, QueueRuns.Push, QueueRuns.Pop, QueueRuns.Claim, QueueRuns.Release, QueueRuns.History, QueueRuns.begun, QueueRuns.after_all}

-- so many numbers from this one on
abbrev pub numbers : ℕ → ℕ → List ℕ
numbers from zero = []
numbers from (suc count) = from ∷ numbers (from + 1) count

abbrev pub head : ℕ → ℕ → Head
head real gap = record { real = real; gap = gap }

-- a queue of these values, with no claim
abbrev pub queue_at : ℕ → List ℕ → Queue ℕ
queue_at real values = record { real = real; gap = 0; values = values; held = [] }

-- five values
abbrev pub five : Queue ℕ
five = queue_at 0 (numbers 1 5)

-- two of the five are claimed, and then two more are popped
abbrev pub popped_past : Queue ℕ
popped_past = popped (popped (claimed five 2))

-- as many values as there can be
abbrev pub full : Queue ℕ
full = queue_at 0 (numbers 0 256)

abbrev pub word : WaitTarget → Bool → PureWord
word target latch = record { target = target; latch = latch; batch = 0 }

-- an open inbox without messages
abbrev pub no_mail : Inbox ℕ ℕ
no_mail = without_mail 2

-- a wake of the root, and a cancel
abbrev pub two_letters : Inbox ℕ ℕ
two_letters = sent (sent no_mail Message.WakeRoot) (Message.Cancel 7)

-- three values go in, one is claimed, and one is popped beside the claim
abbrev pub a_run : History ℕ
a_run = after_all (begun 0) (Push 1 ∷ Push 2 ∷ Push 3 ∷ Claim 3 ∷ Pop ∷ Release ∷ [])

-- a search begins and ends; the second exchange finds a count
abbrev pub searches : Tally
searches = after_moves nothing (Add ∷ Subtract ∷ Exchange ∷ Exchange ∷ [])
