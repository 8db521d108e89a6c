-- What a task does next: the word of its next act, as far as its script, what it holds and the world say.
use Rattle.std.specs.Prelude.{ℕ, zero, suc, Bool, true, false, ◌+◌, ◌-◌, ◌==◌, ◌&&◌, if◌then◌else◌, nat_le, min, List, [], ◌∷◌, length, drop, slice_get, slice_index_or, Option, Some, None}
use Rattle.exec_machine.specs.{declared.{config.ScriptWord.{ScriptWord, ScriptWord as word}, state.Code.{Code, Code as code}}, World.{Own, Task, Common, no_task, task_of}, Tests.{is_empty, is_settled, waits_for_nothing}}
use Rattle.exec_base.specs.declared.limits.TheConstants.{LONGEST_TIMEOUT}

-- what a task that waits until the pool is stopped has yet to run
abbrev pub waiting_words : Bool → List ScriptWord
waiting_words stopped = (if stopped then word.End else word.Await) ∷ []

-- the words that the task has yet to run
abbrev pub words_left : Common → Task → List ScriptWord
words_left s t = left_of s t.code t.place
  where
    left_of : Common → Code → ℕ → List ScriptWord
    left_of s code.Root place = drop place s.root
    left_of s (code.Script k) place = drop place (slice_index_or s.scripts k [])
    left_of s code.Waits place = waiting_words s.stopped

-- a drop with nothing held, or a wake of a task that doesn't exist, gives no act and is passed over
abbrev pub is_idle_word : Common → Task → ScriptWord → Bool
is_idle_word s t word.Drop = is_empty t.held
is_idle_word s t (word.Wake other) = nat_le (length s.tasks) other
is_idle_word s t _ = false

-- how many words are passed over before the next act
abbrev pub idle_words : Common → Task → List ScriptWord → ℕ
idle_words s t [] = 0
idle_words s t (w ∷ words) = if is_idle_word s t w then suc (idle_words s t words) else 0

-- the word of the next act; the end of a script is the same as the word for it
abbrev pub next_word : Common → Task → ScriptWord
next_word s t = slice_index_or (words_left s t) (idle_words s t (words_left s t)) word.End

-- the task past that word
abbrev pub moved_on : Common → Task → Task
moved_on s t = record t { place = place_after t.code (t.place + idle_words s t (words_left s t) + 1) }
  where
    place_after : Code → ℕ → ℕ
    place_after code.Waits place = 0
    place_after _ place = place

-- the task that the worker polls
abbrev pub polled_task : Own → Common → Task
polled_task me s = of_number s me.polls
  where
    of_number : Common → Option ℕ → Task
    of_number s None = no_task
    of_number s (Some t) = task_of s t

-- The worker polls a task that waits for nothing, and the word of its next act passes the test.
abbrev pub acts : Own → Common → (ScriptWord → Bool) → Bool
acts me s test =
    not_idle me.polls && is_settled me.next && waits_for_nothing (polled_task me s).waiting && test (next_word s (polled_task me s))
  where
    not_idle : Option ℕ → Bool
    not_idle None = false
    not_idle (Some t) = true

-- what words ask for

abbrev pub asks_await : ScriptWord → Bool
asks_await word.Await = true
asks_await _ = false

abbrev pub asks_drop : ScriptWord → Bool
asks_drop word.Drop = true
asks_drop _ = false

abbrev pub asks_end : ScriptWord → Bool
asks_end word.End = true
asks_end _ = false

abbrev pub asks_fault : ℕ → ScriptWord → Bool
asks_fault n (word.Fault m) = n == m
asks_fault n _ = false

abbrev pub asks_yield : ScriptWord → Bool
asks_yield word.Yield = true
asks_yield _ = false

abbrev pub asks_wake : ℕ → ScriptWord → Bool
asks_wake t (word.Wake other) = t == other
asks_wake t _ = false

abbrev pub asks_spawn : ℕ → ScriptWord → Bool
asks_spawn k (word.Spawn other) = k == other
asks_spawn k _ = false

abbrev pub asks_dedicated : ScriptWord → Bool
asks_dedicated (word.Dedicated k) = true
asks_dedicated _ = false

-- a sleep of 0 is none
abbrev pub asks_no_sleep : ScriptWord → Bool
asks_no_sleep (word.Sleep time) = time == 0
asks_no_sleep _ = false

-- the script of a dedicated worker's root
abbrev pub script_asked : ScriptWord → ℕ
script_asked (word.Dedicated k) = k
script_asked _ = 0

-- the end of the sleep that the word asks for: one that is longer than may be is cut
abbrev pub sleep_asked : ℕ → ScriptWord → Option ℕ
sleep_asked sampled (word.Sleep zero) = None
sleep_asked sampled (word.Sleep (suc time)) = Some (sampled + min (suc time) LONGEST_TIMEOUT)
sleep_asked sampled _ = None

abbrev pub newest_held : Task → Option ℕ
newest_held t = slice_get t.held (length t.held - 1)
