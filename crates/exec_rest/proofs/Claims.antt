-- What an exchange, a latch and a raise do to the idle set, a wake word and a wake poll.
use Rattle.std.{proofs.{Common.{◌≡◌, ℕ, zero, suc, ◌<◌, Bool, true, false, List, ◌∷◌, length, nat_lt, Option, Some, None, refl, subst, arith, []}, lemmas.{Bool.{true≢false, false≢true, ltb-true, ltb-false, lt-ltb, le-ltb}, List.get_or-set_same}}, specs.{List.position_or_len, Prelude.◌⊎◌}}
use Rattle.exec_words.specs.{Idle.{is_in, lowest_of}, Word.asks_signal, declared.word.{PureWord.PureWord, WaitTarget.WaitTarget as target}}
use Rattle.exec_machine.specs.{declared.event.Event.TheVariants.{Rouse, Sleep}, Tests.is_awake, World.{Common, seat_of}}
use Rattle.exec_moves.specs.{Claim.{is_ring, latched, raised_if}, State.{Desk, Moved, Things, WakePoll, word_of, wake_poll_of, raised}, Thing.{set_word, set_wake_poll}}
use Rattle.exec_rest.{specs.Places.{raises, signals, waits_on}, proofs.{Continuing.Nearly, Sides.{Keeps, OfRings, OfWords, is_unreaped, keeps, near_rings, put_cases, some_none, unreaped}}}

-- THE IDLE SET

before_none : (xs : List Bool) → nat_lt (position_or_len (λ b. b) xs) (length xs) ≡ false → (j : ℕ) → is_in xs j ≡ false
before_none [] h j = refl
before_none (true ∷ xs) h j = let over = ltb-false (position_or_len (λ b. b) (true ∷ xs)) (length (true ∷ xs)) h in absurd (omega (arith, over))
before_none (false ∷ xs) h zero = refl
before_none (false ∷ xs) h (suc j) =
    let over = ltb-false (position_or_len (λ b. b) (false ∷ xs)) (length (false ∷ xs)) h in
    before_none xs (le-ltb (position_or_len (λ b. b) xs) (length xs) (omega (arith, over))) j

-- nobody is in the set
pub none_there : (xs : List Bool) → lowest_of xs ≡ None → (j : ℕ) → is_in xs j ≡ false
none_there = grind (arith, before_none, some_none)

at_first : (xs : List Bool) → nat_lt (position_or_len (λ b. b) xs) (length xs) ≡ true → (position_or_len (λ b. b) xs < length xs) × (is_in xs (position_or_len (λ b. b) xs) ≡ true)
at_first [] h = absurd (false≢true h)
at_first (true ∷ xs) h = (omega arith, refl)
at_first (false ∷ xs) h =
    let under = ltb-true (position_or_len (λ b. b) (false ∷ xs)) (length (false ∷ xs)) h in
    let later = at_first xs (lt-ltb (position_or_len (λ b. b) xs) (length xs) (omega (arith, under))) in
    let next : suc (position_or_len (λ b. b) xs) ≡ position_or_len (λ b. b) (false ∷ xs) = omega arith in
    (omega (arith, later.0), subst (λ n. is_in (false ∷ xs) n ≡ true) next later.1)

pub lowest_there : (xs : List Bool) (k : ℕ) → lowest_of xs ≡ Some k → (k < length xs) × (is_in xs k ≡ true)
lowest_there = grind (arith, at_first, some_none)

-- THE WAKE WORD OF WORKER j

-- a wait without a latch is to be ended
pub asked_by : (w : PureWord) (T : Type 0) → (asks_signal w ≡ true → T) → (w.latch ≡ true) ⊎ (T ⊎ (w.target ≡ target.None))
asked_by = grind arith

module _ (R : Type 0) (i : ℕ) (s : Common) (d : Desk) (x : Things) (m : Moved Things) (j : ℕ) where
  pub latched_words : ((k : ℕ) → word_of m.thing k ≡ word_of (set_word j x (latched (word_of x j))) k)
      → waits_on m.desk.place ≡ target.None
      → (asks_signal (word_of x j) ≡ true → raises m.desk.place ≡ Some (record { worker = j; ring = is_ring (word_of x j).target }))
      → ((k : ℕ) → signals d.place ≡ Some k → k ≡ j)
      → OfWords R i s d x m
  latched_words = grind (arith, true≢false, put_cases, asked_by, get_or-set_same)

-- THE WAKE POLL OF WORKER j

pub keeps_raised : (w : WakePoll) (landed : List ℕ) → Keeps w (raised w) landed landed
keeps_raised = grind arith

pub keeps_raised_if : (ring : Bool) (w : WakePoll) (landed : List ℕ) → Keeps w (raised_if ring w) landed landed
keeps_raised_if = grind (arith, keeps_raised, keeps)

module _ (R : Type 0) (i : ℕ) (s : Common) (d : Desk) (x : Things) (m : Moved Things) (j : ℕ) (ring : Bool) where
  pub raised_rings : ((k : ℕ) → wake_poll_of m.thing k ≡ wake_poll_of (set_wake_poll j x (raised_if ring (wake_poll_of x j))) k)
      → ((k : ℕ) → word_of m.thing k ≡ word_of x k)
      → Nearly s i m.desk.place
      → raises d.place ≡ Some (record { worker = j; ring = ring })
      → (is_awake (seat_of s j).rest ≡ true) ⊎ (m.event ≡ Rouse j)
      → is_unreaped m.event ≡ true
      → ((until : Option ℕ) → m.event ≡ Sleep until → ⊥)
      → OfRings R i s d x m
  raised_rings = grind (arith, near_rings, unreaped, put_cases, get_or-set_same, keeps, keeps_raised_if)
