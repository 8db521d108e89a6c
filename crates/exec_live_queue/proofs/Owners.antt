-- What an owner's calls do to its view, step after step.
use Rattle.exec_live_queue.proofs.{Words.{◌≡◌, ℕ, ◌+◌, ◌-◌, ◌/◌, ◌%◌, ◌^◌, ◌<◌, ◌≤◌, List, [], ◌∷◌, ◌++◌, length, take, map, replicate, sym, refl, ap, ◌∙◌, subst, arith, none, Option, Some, None, step, Own, Owns, Sat, room, hand, laid, Found, values_of, published_view, Overflowed, restored_view, whole, AtRest, looked, HasLooked, HasPublished, HasOverflowed, fully, AtHand, Fills, rest, length-append, length-drop}, Hands.values_behind, Overflows.whole_length}
use Rattle.std.proofs.{Common.{arith, min, drop, append-nil}, lemmas.List.length-take-le}
use Rattle.exec_words.specs.Head.{room_at}

module _ {T : Type 0} where
  -- a look
  pub laid_looked : (f : ℕ → ℕ) (m m' : Sat T) (n : ℕ) → laid f (step 256 11 0 0 none) m n m' → HasLooked m.0.own m'.0.own
  laid_looked f m m' n l = let d = m.0.own in let o = l.0.1 in subst (λ (x : Sat T). HasLooked d x.0.own) (sym l.1) (refl, o.saw_before)

  -- one that took nothing
  pub looks_at : (f : ℕ → ℕ) (m m' : Sat T) (n : ℕ) → AtRest m → f (room m.0.own.tail (n / 512) (n % 512)) ≡ 0 → laid f (step 256 11 0 0 none) m n m' → AtRest m' × HasLooked m.0.own m'.0.own
  looks_at f m m' n r dry l = grind arith

  pub looks : (m m' : Sat T) (n : ℕ) → AtRest m → laid (λ room. 0) (step 256 11 0 0 none) m n m' → AtRest m' × HasLooked m.0.own m'.0.own
  looks m m' n r l = looks_at (λ _. 0) m m' n r refl l

  -- a look leaves the tail
  pub own_tail : (d d' : Own T) → HasLooked d d' → d'.tail ≡ d.tail
  own_tail d d' h = ap (λ (x : Own T). x.tail) h.0

  -- a look that took the one free slot that it asked for
  pub took_one : (m m' : Sat T) (n : ℕ) → laid (λ room. min room 1) (step 256 11 0 0 none) m n m' → m.0.own.tail - n / 512 + n % 512 < 256
      → (1 ≡ min (room m.0.own.tail (n / 512) (n % 512)) 1) × (m'.1 ≡ hand m.0.own.tail (None ∷ []))
  took_one = grind arith

  -- one that found no room
  pub looks_full : (m m' : Sat T) (n : ℕ) → AtRest m → laid (λ room. min room 1) (step 256 11 0 0 none) m n m' → 256 ≤ m.0.own.tail - n / 512 + n % 512 → AtRest m' × HasLooked m.0.own m'.0.own
  looks_full = grind arith

  -- the slot was filled
  pub filled_one : (m m1 : Sat T) (label : ℕ) (x : T) → m.1 ≡ hand label (None ∷ []) → m1 ≡ (m.0, rest m.1 ++ (label % 256, Some x) ∷ []) → m1 ≡ (m.0, hand label (Some x ∷ []))
  filled_one m m1 label x had e = e ∙ ap (λ (l : List (ℕ × Option T)). (m.0, rest l ++ (label % 256, Some x) ∷ [])) had

  -- a queue flowed over after a look, and shows again what it kept
  pub overflowed_after : (m m1 m2 m3 : Sat T) → AtRest m → HasLooked m.0.own m1.0.own → m1.0.stage ≡ Owns → m1.0.own.start ≤ m1.0.own.saw_real → m1.0.own.saw_real + 256 ≡ m1.0.own.tail → m.0.own.tail + 512 ≤ 2 ^ 55
      → Overflowed m1.0 m2 → m3 ≡ (restored_view m2.0, m2.1)
      → HasOverflowed m.0.own m3.0.own × AtHand m3 0 (drop 128 (fully m.0.own))
  overflowed_after m m1 m2 m3 r h owns begun full bound o e = let a = m.0.own in let b = m1.0.own in
      let tail : b.tail ≡ a.tail = grind arith in let real : b.saw_real ≡ a.tail - 256 = grind arith in let start : b.start ≡ a.start = grind arith in
      let log : b.log ≡ a.log = grind arith in let vals : whole b ≡ fully a = λ i. take (tail i - real i) (drop (real i - start i) (log i)) in
      let wide : length (fully a) ≡ 256 = ap length (sym vals) ∙ whole_length b begun (grind arith) full in
      let kept : length (take 128 (fully a)) ≡ 128 = length-take-le 128 (fully a) (omega arith) in let gone = length-drop 128 (fully a) in
      let more = length-append a.log (take 128 (fully a)) in (grind arith, grind (arith, append-nil))

  -- the room that was seen is still there
  pub room_stays : (d : Own T) (n tail len : ℕ) → Found d n → tail ≡ d.tail → d.tail + 256 ≤ 2 ^ 55 → len ≤ room_at record { real = d.saw_real; gap = d.saw_gap } tail → (len ≤ room d.tail (n / 512) (n % 512)) × (len ≤ 256) × (tail + len + 256 ≤ 2 ^ 55)
  room_stays d n tail len f is bound fits = grind arith

  -- all free slots were taken: those that a batch of this length needs, and the others
  pub free_slots : (m m' : Sat T) (n tail len : ℕ) → laid (λ room. room) (step 256 11 0 0 none) m n m' → AtRest m → tail ≡ m.0.own.tail → len ≤ room m.0.own.tail (n / 512) (n % 512)
      → Fills m' m'.0 tail (len + (room m.0.own.tail (n / 512) (n % 512) - len)) []
  free_slots m m' n tail len l r is fits = let all : ℕ = room m.0.own.tail (n / 512) (n % 512) in let split : all ≡ len + (all - len) = omega arith in
      let took : Fills m' m'.0 m.0.own.tail all [] = grind (arith, append-nil) in
      took ∙ (λ j. (m'.0, hand (sym is j + 0) (replicate {A = Option T} (split j) None) ++ []))

  -- they were filled, as far as there are values: these may be shown
  pub to_publish : (f : ℕ → ℕ) (m m1 m2 : Sat T) (n tail r : ℕ) (xs : List T) → laid f (step 256 11 0 0 none) m n m1
      → AtRest m → tail ≡ m.0.own.tail → length xs + r ≡ f (room m.0.own.tail (n / 512) (n % 512))
      → Fills m2 m1.0 tail r xs → (m2.0.stage ≡ Owns) × (m2.0.own.aside ≡ 0) × (m2.0.own.out_at ≡ m2.0.own.tail)
      × (m2.0.own.out_len ≡ length xs + r)
      × (m2.1 ≡ hand (m2.0.own.tail + length xs) (replicate r None) ++ hand m2.0.own.tail (map Some xs))
      × (m2.0.own.tail ≡ tail)
  to_publish f m m1 m2 n tail r xs l rests is all e = grind arith

  -- and were shown
  pub published_after : (f : ℕ → ℕ) (m m1 m2 m3 : Sat T) (n tail r : ℕ) (xs : List T)
      → laid f (step 256 11 0 0 none) m n m1 → AtRest m → m.0.own.tail + length xs + 256 ≤ 2 ^ 55
      → Fills m2 m1.0 tail r xs → m3 ≡ (published_view m2.0 (values_of m2.1), []) → AtRest m3
      × HasPublished m.0.own xs m3.0.own × (m3.0.own.saw_real ≡ n / 512) × (m3.0.own.saw_gap ≡ n % 512)
  published_after = grind (arith, looked, laid_looked, published_view, values_of, values_behind, length-append)
