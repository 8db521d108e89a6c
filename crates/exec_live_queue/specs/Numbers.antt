-- The numbers of a run queue, and which labels stand where.
use Rattle.std.specs.Prelude.{◌≡◌, ℕ, ◌+◌, ◌-◌, ◌*◌, ◌/◌, ◌^◌, ◌<◌, ◌≤◌, ◌⊎◌, List, [], ◌∷◌, ◌++◌}
use Rattle.exec_live_queue.specs.declared.view.{Own.Own, Theft.Theft}

-- the head as a word: the count of the front value, and the gap below it
abbrev pub head_word : ℕ → ℕ → ℕ
head_word real gap = real * 512 + gap

-- the words of the table: the head and the tail, in the middle of words that stay 0, so that no other data lies on
-- their cache lines
abbrev pub unused : List ℕ
unused = 0 ∷ 0 ∷ 0 ∷ 0 ∷ 0 ∷ 0 ∷ 0 ∷ 0 ∷ 0 ∷ 0 ∷ 0 ∷ []

abbrev pub words_of : ℕ → ℕ → List ℕ
words_of head tail = unused ++ head ∷ tail ∷ unused

-- one past the last label that has a value: behind the tail in the middle of an overflow, else the tail
abbrev pub filled : {T : Type 0} → Own T → ℕ
filled d = d.tail + d.aside

-- how many values a claim takes: half of those that its thief saw, rounded down
abbrev pub half : {T : Type 0} → Theft T → ℕ
half t = (t.upto - t.at) / 2

-- the label l lies before or behind the n labels from `at` on
abbrev pub Outside : ℕ → ℕ → ℕ → Type 0
Outside at n l = (l < at) ⊎ (at + n ≤ l)

-- the places of a claim of n values, counted as free places are: 256 labels further on
abbrev pub BesideClaim : ℕ → ℕ → ℕ → ℕ → Type 0
BesideClaim real gap n l = (l + gap < real + 256) ⊎ (real + 256 + n ≤ l + gap)

-- How the numbers of a queue stand to each other.
pub record InOrder {T : Type 0} (d : Own T) (real gap claimed : ℕ) : Type 0 where
  pub begun : d.start ≤ real
  pub behind : real ≤ d.tail
  -- with the places that are not free yet, the values are 256 at most
  pub within : d.tail + gap ≤ real + 256
  pub counted : d.tail + d.aside + 256 ≤ 2 ^ 55
  -- no claim, or a claim and the pops past it
  pub claim : ((gap ≡ 0) × (claimed ≡ 0)) ⊎ ((0 < claimed) × (claimed ≤ 128) × (claimed ≤ gap))
  -- what is kept aside is out of every thief's sight
  pub aside : (d.aside ≡ 0) ⊎ ((d.aside ≡ 128) × (real ≡ d.tail) × (gap ≡ 0))
  -- the slots that are out with the owner are free places beside the claim
  pub out_free : (d.out_len ≡ 0) ⊎ ((d.tail + d.aside ≤ d.out_at) × (d.out_at + d.out_len ≤ real + 256))
  pub out_beside : (d.out_len ≡ 0) ⊎ ((gap ≡ 0) ⊎ ((d.out_at + d.out_len + gap ≤ real + 256) ⊎ (real + 256 + claimed ≤ d.out_at + gap)))
  -- the head that the owner saw is no newer than this one, and left it no more room
  pub saw_before : d.saw_real ≤ real
  pub saw_room : d.saw_real + gap ≤ real + d.saw_gap
  -- where no value left since, no claim came without one
  pub saw_still : real ≡ d.saw_real → (gap ≡ d.saw_gap) ⊎ (gap ≡ 0)
  -- no thief can take a lone value
  pub saw_lone : d.saw_gap ≡ 0 → d.tail ≤ d.saw_real + 1 → (real ≡ d.saw_real) × (gap ≡ 0)
