-- How the seat of an owner stands between its calls.
use Rattle.exec_live_queue.{proofs.{Words.{◌≡◌, ℕ, ◌+◌, ◌-◌, ◌%◌, ◌^◌, ◌<◌, ◌≤◌, List, [], ◌∷◌, length, sym, refl, ap, ◌∙◌, arith, Option, Some, None, slice_get, push_answer, handed_out, View, Sat, returned, values_of, Place, SameSeat, HasLooked, HandsOut, Stands}, Hands.values_before, Moves.{handed_back, handed_one, hands_front, one_front}, Owners.own_tail}, specs.{declared.owner.Owner.Owner as owner, Alone.Alone, Kinds.handed_by, Seats.{FrontHas, IsAt, Swapped, Tells}}}
use Rattle.std.{proofs.Common.arith, specs.Prelude.drop}
use Rattle.atomic_table.specs.declared.shared.Shared.{Shared}
use Rattle.exec_words.specs.declared.head.Fit.{Fit}

module _ {T : Type 0} where
  parts : (xs : List T) → 0 < length xs → (x : T) × (ys : List T) × (xs ≡ x ∷ ys)
  parts [] pos = absurd (omega arith)
  parts (x ∷ xs) pos = (x, xs, refl)

module _ {T P : Type 0} where
  pub handed : (words : Shared (Option T) (View T) ℕ P) (seat : Place T) (j : ℕ) (xs : List T) → HandsOut words seat j xs → values_of seat.me.1 ≡ xs
  handed words seat j xs h = ap values_of h.1.6 ∙ values_before xs j (seat.me.0.own.tail + j) seat.me.0.own.tail

  pub stands_hands : (words : Shared (Option T) (View T) ℕ P) (seat : Place T) (tail left j : ℕ) (xs : List T) → tail ≡ seat.me.0.own.tail → left + j ≡ 128 → 0 < left → length xs ≡ left → HandsOut words seat j xs → Stands words seat tail left
  stands_hands words seat tail left j xs is sum pos len h = let e = handed words seat j xs h in let place : 128 - left ≡ j = omega arith in grind arith

  -- the next value of an overflow, in the slot in front
  next_of : (words : Shared (Option T) (View T) ℕ P) (seat : Place T) (tail left : ℕ) → Stands words seat tail left → 0 < left
      → (x : T) × (xs : List T) × HandsOut words seat (128 - left) (x ∷ xs) × (values_of seat.me.1 ≡ x ∷ xs) × (length xs + 1 ≡ left)
  next_of words seat tail left s pos = grind (arith, parts)

  pub front_of : (words : Shared (Option T) (View T) ℕ P) (seat : Place T) (tail left : ℕ) → Stands words seat tail left → 0 < left
      → IsAt words seat × (tail + 256 ≤ 2 ^ 55) × (x : T) × FrontHas seat (tail + (128 - left)) (Some x)
  front_of words seat tail left s pos = let n = next_of words seat tail left s pos in
      let at : tail + (128 - left) ≡ seat.me.0.own.tail + (128 - left) = ap (λ (t : ℕ). t + (128 - left)) s.0 in
      (n.2.0, omega (arith, n.2.1.2, s.0), n.0, hands_front seat.me (128 - left) (tail + (128 - left)) n.0 n.1 n.2.1 at)

  -- it was taken: what is left then
  pub taken_of : (words : Shared (Option T) (View T) ℕ P) (seat seat' : Place T) (tail left : ℕ) (x : T)
      → Stands words seat tail left → 0 < left → SameSeat seat seat'
      → Swapped seat seat' (tail + (128 - left)) (Some x) None
      → (xs : List T) × HandsOut words seat' (128 - left + 1) xs × (length xs + 1 ≡ left)
      × (values_of seat.me.1 ≡ x ∷ values_of seat'.me.1) × (seat'.me.0 ≡ seat.me.0)
  taken_of words seat seat' tail left x s pos same w = let n = next_of words seat tail left s pos in
      let j : ℕ = 128 - left in let at : tail + j ≡ seat.me.0.own.tail + j = ap (λ (t : ℕ). t + j) s.0 in
      let is : n.0 ≡ x = one_front seat.me.1 ((tail + j) % 256) n.0 x
      (hands_front seat.me j (tail + j) n.0 n.1 n.2.1 at) w.0 in
      let h : HandsOut words seat' (j + 1) n.1
      = ((same.0 ∙ n.2.0.0, n.2.0.1, n.2.0.2), handed_one seat.me seat'.me j (tail + j) n.0 n.1 n.2.1 at w.1) in
      (n.1, h, n.4, n.3 ∙ (λ i. is i ∷ sym (handed words seat' (j + 1) n.1 h) i), ap (λ (m : Sat T). m.0) w.1)

  pub stands_back : (words : Shared (Option T) (View T) ℕ P) (seat seat' : Place T) (tail j n : ℕ) (xs : List T)
      → HandsOut words seat (j + 1) xs → length xs ≡ 0 → tail ≡ seat.me.0.own.tail → Tells returned seat 0 n seat'
      → Stands words seat' tail 0 × HasLooked seat.me.0.own seat'.me.0.own
      × (values_of seat.me.1 ≡ values_of seat'.me.1)
  stands_back words seat seat' tail j n [] h dry is t = let k = handed_back seat.me seat'.me (j + 1) n h.1 t.1 in
      ((is ∙ sym (own_tail seat.me.0.own seat'.me.0.own k.1), omega arith, (λ _. ((t.0.0 ∙ h.0.0, h.0.1, h.0.2), k.0)), (λ pos. absurd (omega arith))), k.1, handed words seat (j + 1) [] h ∙ sym (ap values_of k.0.3))
  stands_back words seat seat' tail j n (x ∷ xs) h dry is t = absurd (omega arith)

-- what an exclusive queue hands out, by what its push answered
pub handed_alone : {T : Type 0} (o : Alone T) (f : Fit) (x : T) → handed_out f o.queue ≡ handed_by (owner.Exclusive o) (push_answer f x)
handed_alone o f x = grind arith

-- what an overflow still hands out grows less
module _ {X : Type 0} where
  pub none_left : (xs : List X) → slice_get xs 0 ≡ None → drop 1 xs ≡ []
  none_left = grind arith

  pub one_fewer : (xs : List X) (x : X) → slice_get xs 0 ≡ Some x → length (drop 1 xs) < length xs
  one_fewer = grind arith
