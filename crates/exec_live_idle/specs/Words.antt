-- The two words as an idle set, and what each atomic step makes of it.
use Rattle.std.specs.Prelude.{◌≡◌, ℕ, zero, suc, ◌+◌, ◌-◌, ◌/◌, ◌%◌, ◌==◌, Bool, true, false, List, [], ◌∷◌, slice_set}
use Rattle.exec_words.specs.Idle.{Idle}

-- the lowest bits of a word, so many of them, the lowest first
abbrev pub bits_of : ℕ → ℕ → List Bool
bits_of zero word = []
bits_of (suc n) word = (word % 2 == 1) ∷ bits_of n (word / 2)

-- the workers that are published where the set is this word: a bit for each
unfoldable pub set_of : ℕ → List Bool
set_of word = bits_of 64 word

abbrev pub idle_of : ℕ → ℕ → Idle
idle_of set count = record { published = set_of set; count = count }

-- the transitions, each by the name that it has in `exec_words`
abbrev pub publish : ℕ → Idle → Idle
publish worker idle = record idle { published = slice_set idle.published worker true }

abbrev pub withdraw : ℕ → Idle → Idle
withdraw worker idle = record idle { published = slice_set idle.published worker false }

abbrev pub add : Idle → Idle
add idle = record idle { count = idle.count + 1 }

abbrev pub subtract : Idle → Idle
subtract idle = record idle { count = idle.count - 1 }

-- a step that makes of the set's word n the word m is this transition
abbrev pub MovesSet : (Idle → Idle) → ℕ → ℕ → Type 0
MovesSet f n m = (count : ℕ) → idle_of m count ≡ f (idle_of n count)

-- a step that makes of the count n the count m is this transition
abbrev pub MovesCount : (Idle → Idle) → ℕ → ℕ → Type 0
MovesCount f n m = (set : ℕ) → idle_of set m ≡ f (idle_of set n)
