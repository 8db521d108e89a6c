-- Moves that leave all gates as they are, and by which no durable request ends.
use Rattle.std.proofs.{Common.{◌≡◌, ◌<◌, length, ℕ, zero, suc, Bool, true, false, List, [], ◌∷◌, Option, Some, None, refl, sym, ap, ◌∙◌, slice_set, slice_index_or, if◌then◌else◌, arith}, lemmas.Bool.true≢false}
use Rattle.exec_outcomes.specs.Accounts.{is_durable}
use Rattle.exec_words.specs.declared.word.PureWord.{PureWord}
use Rattle.exec_machine.specs.{declared.config.Configuration.Configuration, After.common_after, Tests.is_resolved, World.{Common, Own as Books, request_of}}
use Rattle.exec_moves.specs.{declared.place.Place.Place, State.{Desk, Moved, Things, gate_of, no_word, word_of}, Thing.{puts, set_word}}
use Rattle.exec_settled.{specs.{Given.passes_at, Permits.{hands_to, is_past}}, proofs.{Hands.Hands, HandsEvents.{by_mild, is_mild}}}

abbrev is_there : {T : Type 0} → Option T → Bool
is_there None = false
is_there (Some a) = true

pub some_none : {T : Type 0} {a : T} {o : Option T} → o ≡ Some a → o ≡ None → ⊥
some_none some none = true≢false (ap is_there (sym some) ∙ ap is_there none)

-- THE WAKE WORDS

-- no latch goes out
abbrev pub Kept : Things → Things → Type 0
Kept x y = (j : ℕ) → (word_of x j).latch ≡ true → (word_of y j).latch ≡ true

-- or it does so of worker i, which then hasn't passed any gate
abbrev pub LatchesOut : ℕ → Things → Things → Place → Type 0
LatchesOut i x y q = (j : ℕ) → (word_of x j).latch ≡ true → (word_of y j).latch ≡ false → (j ≡ i) × ((file : ℕ) → is_past file q ≡ false)

pub kept_out : (i : ℕ) (x y : Things) (q : Place) → Kept x y → LatchesOut i x y q
kept_out i x y q kept j h gone = absurd (true≢false (sym (kept j h) ∙ gone))

kept_put : (ws : List PureWord) (j k : ℕ) (w : PureWord) → ((slice_index_or ws j no_word).latch ≡ true → w.latch ≡ true)
    → (slice_index_or ws k no_word).latch ≡ true → (slice_index_or (slice_set ws j w) k no_word).latch ≡ true
kept_put [] j k w h it = it
kept_put (v ∷ ws) zero zero w h it = h it
kept_put (v ∷ ws) zero (suc k) w h it = it
kept_put (v ∷ ws) (suc j) zero w h it = it
kept_put (v ∷ ws) (suc j) (suc k) w h it = kept_put ws j k w h it

pub kept_word : (j : ℕ) (x : Things) (w : PureWord) → ((word_of x j).latch ≡ true → w.latch ≡ true) → Kept x (set_word j x w)
kept_word j x w h k it = kept_put x.words j k w h it

-- another one stays as it was
put_out : (ws : List PureWord) (j k : ℕ) (w : PureWord) → (slice_index_or ws k no_word).latch ≡ true → (slice_index_or (slice_set ws j w) k no_word).latch ≡ false → k ≡ j
put_out [] j k w it gone = absurd (true≢false (sym it ∙ gone))
put_out (v ∷ ws) zero zero w it gone = refl
put_out (v ∷ ws) zero (suc k) w it gone = absurd (true≢false (sym it ∙ gone))
put_out (v ∷ ws) (suc j) zero w it gone = absurd (true≢false (sym it ∙ gone))
put_out (v ∷ ws) (suc j) (suc k) w it gone = ap suc (put_out ws j k w it gone)

pub own_out : (i : ℕ) (x : Things) (w : PureWord) (q : Place) → ((file : ℕ) → is_past file q ≡ false) → LatchesOut i x (set_word i x w) q
own_out i x w q early j it gone = (put_out x.words i j w it gone, early)

-- A PLAIN MOVE, from place p
pub record Plain (i : ℕ) (p : Place) (x : Things) (m : Moved Things) : Type 0 where
  pub gates : m.thing.gates ≡ x.gates
  pub latch_out : LatchesOut i x m.thing m.desk.place
  pub past : (file : ℕ) → is_past file p ≡ false → is_past file m.desk.place ≡ false
  pub mild : is_mild m.event ≡ true

module _ (i : ℕ) (p : Place) (x : Things) where
  -- no latch goes out
  pub plain : (m : Moved Things) → m.thing.gates ≡ x.gates → Kept x m.thing → ((file : ℕ) → is_past file p ≡ false → is_past file m.desk.place ≡ false) → is_mild m.event ≡ true → Plain i p x m
  plain m gates kept past mild = record { gates = gates; latch_out = kept_out i x m.thing m.desk.place kept; past = past; mild = mild }

  -- the same where it has passed all gates
  pub plain_late : (m : Moved Things) → m.thing.gates ≡ x.gates → Kept x m.thing → ((file : ℕ) → is_past file p ≡ true) → is_mild m.event ≡ true → Plain i p x m
  plain_late m gates kept all mild = plain m gates kept (λ file h. absurd (true≢false (sym (all file) ∙ h))) mild

  pub plain_if : {T : Type 0} (put : T → Things) (b : Bool) (m n : Moved T) → Plain i p x (puts put m) → Plain i p x (puts put n) → Plain i p x (puts put (if b then m else n))
  plain_if = grind arith

module _ (c : Configuration) (i : ℕ) (me : Books) (s : Common) (d : Desk) (x : Things) where
  abbrev pub HandsBy : Desk → Moved Things → Type 0
  HandsBy e m = Hands i s e x m (common_after c me s i m.event m.choice)

  abbrev pub same_gates : (y : Things) → y.gates ≡ x.gates → (file : ℕ) → gate_of y file ≡ gate_of x file
  same_gates y same file = ap (λ gates. slice_index_or gates file []) same

  pub mild_over : (m : Moved Things) → is_mild m.event ≡ true → (k : ℕ) → is_resolved (request_of s k).phase ≡ false
      → is_resolved (request_of (common_after c me s i m.event m.choice) k).phase ≡ true → is_durable (request_of s k).operation.kind ≡ true
      → passes_at m.desk.place ≡ Some (request_of s k).operation.target
  mild_over m mild k going over durable = absurd (true≢false (sym over ∙ ((by_mild c me s i m.event m.choice mild k).stays durable going).1))

  -- where it signals somebody
  pub plain_signals : (p : Place) (m : Moved Things) → d.place ≡ p → passes_at p ≡ None
      → ((j : ℕ) → hands_to p ≡ Some j → j < length x.words → (word_of m.thing j).latch ≡ true) → Plain i p x m → HandsBy d m
  plain_signals = grind (arith, some_none, true≢false, mild_over)

  pub plain_hands : (p : Place) (m : Moved Things) → d.place ≡ p → passes_at p ≡ None → hands_to p ≡ None → Plain i p x m → HandsBy d m
  plain_hands p m is no_pass no_hand it = plain_signals p m is no_pass (λ j h within. absurd (some_none h no_hand)) it
