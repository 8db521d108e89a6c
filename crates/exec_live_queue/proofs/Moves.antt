-- Values that go from slot to slot: what a seat carries after each of them.
use Rattle.exec_live_queue.proofs.{Words.{◌≡◌, ℕ, suc, ◌+◌, ◌%◌, ◌<◌, List, [], ◌∷◌, ◌++◌, length, map, replicate, sym, refl, ap, ◌∙◌, subst, length-append, append_assoc, arith, replicate_more, length-replicate, map-append, length-map, none, Option, Some, None, slice_get, step, rest, View, Sat, hand, returned, values_of, AtRest, HasLooked, AtHand, Fills, Empties}, Hands.turned_on, Looks.nil_from_length}
use Rattle.std.{proofs.Common.append-nil, specs.Prelude.drop}

module _ {T : Type 0} where
  -- the first slot in the middle of an overflow
  pub hands_front : (m : Sat T) (j label : ℕ) (x : T) (xs : List T) → AtHand m j (x ∷ xs) → label ≡ m.0.own.tail + j → m.1 ≡ (label % 256, Some x) ∷ rest m.1
  hands_front m j label x xs h is = grind arith

  pub handed_back : (m m' : Sat T) (j n : ℕ) → AtHand m j [] → returned (step 256 11 0 0 none) m n m' → AtRest m' × HasLooked m.0.own m'.0.own
  handed_back m m' j n h back = grind arith

  -- one more free slot was filled
  pub filled_next : (m m1 : Sat T) (v : View T) (tail r label : ℕ) (done : List T) (x : T) → Fills m v tail (suc r) done → label ≡ tail + length done → m1 ≡ (m.0, rest m.1 ++ (label % 256, Some x) ∷ []) → Fills m1 v tail r (done ++ x ∷ [])
  filled_next m m1 v tail r label done x f is e = grind (arith, length-map, turned_on, length-append, map-append)

  -- the next of the free slots
  pub fills_front : (m : Sat T) (v : View T) (tail r label : ℕ) (done : List T) → Fills m v tail (suc r) done → label ≡ tail + length done → m.1 ≡ (label % 256, None) ∷ rest m.1
  fills_front m v tail r label done f is = grind arith

  -- one more value of a claim was taken
  pub emptied_next : (m m1 : Sat T) (v : View T) (at n label : ℕ) (x : T) (xs : List T) → Empties m v at n (x ∷ xs) → label ≡ at + n → m1 ≡ (m.0, rest m.1 ++ (label % 256, None) ∷ []) → Empties m1 v at (n + 1) xs
  emptied_next m m1 v at n label x xs f is e = let len : length (replicate {A = Option T} n None) ≡ n = length-replicate n None in
      let on = turned_on m.1 (at + n) at (Some x) None (map Some xs) (replicate n None) (ap (λ (z : Sat T). z.1) f) (ap (λ (k : ℕ). at + k) (sym len)) in
      let next : at + n + 1 ≡ at + (n + 1) = omega arith in let more : replicate n None ++ None ∷ [] ≡ replicate {A = Option T} (n + 1) None = replicate_more n None in cc

  -- one more value of an overflow was handed out
  pub handed_one : (m m1 : Sat T) (j label : ℕ) (x : T) (xs : List T) → AtHand m j (x ∷ xs) → label ≡ m.0.own.tail + j → m1 ≡ (m.0, rest m.1 ++ (label % 256, None) ∷ []) → AtHand m1 (j + 1) xs
  handed_one m m1 j label x xs h is e = let many : length (x ∷ xs) + j ≡ length xs + (j + 1) = omega arith in
      let done = emptied_next m m1 m.0 m.0.own.tail j label x xs (λ i. (m.0, h.6 i)) is e in
      subst (λ (z : Sat T). AtHand z (j + 1) xs) (sym done) (h.0, h.1, h.2, h.3, h.4, h.5 ∙ many, refl)

  -- the next of the slots of a claim
  pub empties_front : (m : Sat T) (v : View T) (at n label : ℕ) (x : T) (xs : List T) → Empties m v at n (x ∷ xs) → label ≡ at + n → m.1 ≡ (label % 256, Some x) ∷ rest m.1
  empties_front m v at n label x xs f is = grind arith

  -- what one slot has
  pub one_front : (c : List (ℕ × Option T)) (k : ℕ) (x y : T) → c ≡ (k, Some x) ∷ rest c → c ≡ (k, Some y) ∷ rest c → x ≡ y
  one_front c k x y e h = let f : x ∷ values_of (rest c) ≡ y ∷ values_of (rest c) = ap values_of (sym e ∙ h) in cc

  -- where a batch stands that is put into free slots: what was put, and what is left of it
  abbrev pub Filling : Sat T → View T → ℕ → ℕ → List T → ℕ → List T → Type 0
  Filling m v tail r all i left = (done : List T) × (length done ≡ i) × (all ≡ done ++ left) × Fills m v tail (length left + r) done

  pub fill_front : (m : Sat T) (v : View T) (tail r i label : ℕ) (all left : List T) (x : T) → Filling m v tail r all i left → slice_get left 0 ≡ Some x → label ≡ tail + i → m.1 ≡ (label % 256, None) ∷ rest m.1
  fill_front m v tail r i label all [] x f e is = absurd (let h : None ≡ Some x = e in cc)
  fill_front m v tail r i label all (y ∷ left) x f e is = let more : suc (length left) + r ≡ suc (length left + r) = omega arith in
      fills_front m v tail (length left + r) label f.0 (f.3 ∙ ap (λ (n : ℕ). (v, hand (tail + length f.0) (replicate n None) ++ hand tail (map Some f.0))) more) (is ∙ ap (λ (n : ℕ). tail + n) (sym f.1))

  pub fill_step : (m m1 : Sat T) (v : View T) (tail r i label : ℕ) (all left : List T) (x : T) → Filling m v tail r all i left → slice_get left 0 ≡ Some x → label ≡ tail + i → m1 ≡ (m.0, rest m.1 ++ (label % 256, Some x) ∷ [])
      → Filling m1 v tail r all (i + 1) (drop 1 left)
  fill_step m m1 v tail r i label all [] x f e is h = absurd (let k : None ≡ Some x = e in cc)
  fill_step m m1 v tail r i label all (y ∷ left) x f e is h =
      let same : y ≡ x = (let k : Some y ≡ Some x = e in cc) in let more : suc (length left) + r ≡ suc (length left + r) = omega arith in let len = length-append f.0 (x ∷ []) in let at = f.1 in
      let split : all ≡ (f.0 ++ x ∷ []) ++ left = f.2 ∙ ap (λ (z : T). f.0 ++ z ∷ left) same ∙ sym (append_assoc f.0 (x ∷ []) left) in
      let put = filled_next m m1 v tail (length left + r) label f.0 x (f.3 ∙ ap (λ (n : ℕ). (v, hand (tail + length f.0) (replicate n None) ++ hand tail (map Some f.0))) more) (is ∙ ap (λ (n : ℕ). tail + n) (sym f.1)) h in
      (f.0 ++ x ∷ [], omega arith, split, put)

  pub fill_all : (m : Sat T) (v : View T) (tail r i : ℕ) (all left : List T) → Filling m v tail r all i left → left ≡ [] → Fills m v tail r all
  fill_all m v tail r i all left f e = grind (arith, append-nil)

  -- where the values of a claim stand that go into free slots: what left the one seat, and came to the other
  abbrev pub Carrying : Sat T → View T → ℕ → Sat T → View T → ℕ → ℕ → List T → ℕ → Type 0
  Carrying m v at m1 w tail r all i = (left : List T) × Filling m1 w tail r all i left × Empties m v at i left

  pub carry_start : (m : Sat T) (v : View T) (at : ℕ) (m1 : Sat T) (w : View T) (tail r count : ℕ) (all : List T) → length all ≡ count → Empties m v at 0 all → Fills m1 w tail (count + r) [] → Carrying m v at m1 w tail r all 0
  carry_start m v at m1 w tail r count all len e f = grind arith

  filling_count : (m1 : Sat T) (w : View T) (tail r i : ℕ) (all left : List T) → Filling m1 w tail r all i left → i + length left ≡ length all
  filling_count m1 w tail r i all left f = grind (arith, length-append)

  pub carry_fronts : (m : Sat T) (v : View T) (at : ℕ) (m1 : Sat T) (w : View T) (tail r i label label' : ℕ) (all : List T) → Carrying m v at m1 w tail r all i → i < length all → label ≡ at + i → label' ≡ tail + i
      → (x : T) × (m.1 ≡ (label % 256, Some x) ∷ rest m.1) × (m1.1 ≡ (label' % 256, None) ∷ rest m1.1)
  carry_fronts m v at m1 w tail r i label label' all ([], f, e) lt is is' = absurd (let c = filling_count m1 w tail r i all [] f in omega (arith, c))
  carry_fronts m v at m1 w tail r i label label' all (x ∷ left, f, e) lt is is' = (x, empties_front m v at i label x left e is, fill_front m1 w tail r i label' all (x ∷ left) x f refl is')

  pub carry_more : (m m' : Sat T) (v : View T) (at : ℕ) (m1 m1' : Sat T) (w : View T) (tail r i label label' : ℕ) (all : List T) (y : T) → Carrying m v at m1 w tail r all i → i < length all → label ≡ at + i → label' ≡ tail + i
      → m.1 ≡ (label % 256, Some y) ∷ rest m.1 → m' ≡ (m.0, rest m.1 ++ (label % 256, None) ∷ []) → m1' ≡ (m1.0, rest m1.1 ++ (label' % 256, Some y) ∷ []) → Carrying m' v at m1' w tail r all (i + 1)
  carry_more m m' v at m1 m1' w tail r i label label' all y ([], f, e) lt is is' had h h' = absurd (let c = filling_count m1 w tail r i all [] f in omega (arith, c))
  carry_more m m' v at m1 m1' w tail r i label label' all y (x ∷ left, f, e) lt is is' had h h' =
      let same : x ≡ y = one_front m.1 (label % 256) x y (empties_front m v at i label x left e is) had in
      (left, fill_step m1 m1' w tail r i label' all (x ∷ left) y f (ap (λ (z : T). Some z) same) is' h', emptied_next m m' v at i label x left e is h)

  pub carry_end : (m : Sat T) (v : View T) (at : ℕ) (m1 : Sat T) (w : View T) (tail r i count : ℕ) (all : List T) → Carrying m v at m1 w tail r all i → length all ≡ count → i ≡ count → Empties m v at count [] × Fills m1 w tail r all
  carry_end m v at m1 w tail r i count all c len is = let n = filling_count m1 w tail r i all c.0 c.1 in
      let dry : c.0 ≡ [] = nil_from_length c.0 (omega arith) in let done = fill_all m1 w tail r i all c.0 c.1 dry in grind arith
