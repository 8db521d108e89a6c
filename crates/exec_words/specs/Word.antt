-- What is read off a wake word.
use Rattle.std.specs.Prelude.{ℕ, ◌+◌, ◌^◌, ◌%◌, ◌==◌, Bool, true, false, not, ◌&&◌}
use Rattle.exec_words.specs.declared.word.{WaitTarget.WaitTarget, PureWord.PureWord}

-- batches of mail are counted modulo 2^29
abbrev pub next_batch : ℕ → ℕ
next_batch n = (n + 1) % 2 ^ 29

abbrev pub is_armed : WaitTarget → Bool
is_armed WaitTarget.None = false
is_armed _ = true

-- a publication must be followed by a signal: a wait is armed, and nobody has signalled it
abbrev pub asks_signal : PureWord → Bool
asks_signal w = is_armed w.target && not w.latch

-- a wait that found this word may begin
abbrev pub is_idle_at : PureWord → ℕ → Bool
is_idle_at w processed = not w.latch && w.batch == processed
