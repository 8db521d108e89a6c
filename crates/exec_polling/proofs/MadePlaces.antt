-- A worker's inbox got places, and one more request or sleeper was made there: what is left to hold of each.
use Rattle.std.proofs.{Common.{◌≡◌, ℕ, suc, zero, ◌+◌, ◌*◌, ◌<◌, ◌≤◌, Bool, true, false, cond, Contains, List, [], ◌∷◌, count_by, length, sum_by, Option, Some, None, refl, sym, ap, subst, ◌∙◌, arith, inl, inr, slice_get, slice_set}, lemmas.List.{length-set, Sums.sum_by-cons}}
use Rattle.exec_words.specs.declared.inbox.Message.{Message}
use Rattle.exec_parts.{specs.declared.parts.mail.Subject.{Subject, Subject as subject}, proofs.Facts.{by_number, same_Some, set_elsewhere, set_there}}
use Rattle.exec_invariants.{specs.Holding.{Box, Hands, HasPlace, Holder, IsAbout, IsForwarded, IsHeldBy, IsHolding, IsOwed, Mail, Nap, Owes, Thing, holdings, mail_in, under_way, waiters}, proofs.HoldRedo.sum_set}

-- LISTS

pub none_counted : {X : Type 0} (p : X → Bool) (xs : List X) → ((k : ℕ) (x : X) → slice_get xs k ≡ Some x → p x ≡ false) → count_by p xs ≡ 0
none_counted p [] none = refl
none_counted p (x ∷ xs) none =
    let one : Bool → ℕ = λ b. cond b 1 0 in
    let here : one (p x) ≡ 0 = ap one (none 0 x refl) in
    sum_by-cons (λ y. cond (p y) 1 0) x xs ∙ omega (arith, here, none_counted p xs (λ k y there. none (suc k) y there))

pub none_summed : {X : Type 0} (f : X → ℕ) (xs : List X) → ((k : ℕ) (x : X) → slice_get xs k ≡ Some x → f x ≡ 0) → sum_by f xs ≡ 0
none_summed f [] none = refl
none_summed f (x ∷ xs) none =
    let here : f x ≡ 0 = none 0 x refl in
    sum_by-cons f x xs ∙ omega (arith, here, none_summed f xs (λ k y there. none (suc k) y there))

abbrev pub weigh : Bool → ℕ
weigh b = cond b 1 0

-- what is counted is there
pub counted_there : {X : Type 0} (p : X → Bool) (xs : List X) → (count_by p xs ≡ 0 → ⊥) → (x : X) × Contains xs x × (p x ≡ true)
counted_there {X} p [] some = absurd (some refl)
counted_there {X} p (x ∷ xs) some = by (counted_there p xs) (p x) refl
  where
    by : ((count_by p xs ≡ 0 → ⊥) → (y : X) × Contains xs y × (p y ≡ true)) → (b : Bool) → p x ≡ b → (y : X) × Contains (x ∷ xs) y × (p y ≡ true)
    by rest true is = (x, (0, omega arith, refl), is)
    by rest false is =
        let here : weigh (p x) ≡ 0 = ap weigh is in
        let it = rest (λ none. some (sum_by-cons (λ y. cond (p y) 1 0) x xs ∙ omega (arith, here, none))) in
        let few = it.1.1 in
        (it.0, (suc it.1.0, omega (arith, few), it.1.2), it.2)

pub by_zero : {P : Type 0} (n : ℕ) → (n ≡ 0 → P) → ((n ≡ 0 → ⊥) → P) → P
by_zero zero here some = here refl
by_zero (suc n) here some = some (λ is. absurd (omega (arith, is)))

-- PLACES: the inbox of a worker got some, and one more was made there

abbrev pub placed_in : ℕ → Box → Box
placed_in n box = record box { places = n; made = box.made + 1 }

module _ (h : Hands) (workers : ℕ) (hs : List Holder) (ts : List Thing) (naps : List Nap) (boxes : List Box) (i n : ℕ) (box : Box) (at : slice_get boxes i ≡ Some box) (room : 2 * (box.made + 1) + 1 ≤ n) where
  abbrev boxes_then : List Box
  boxes_then = slice_set boxes i (placed_in n box)

  -- a box was there, with the same messages
  record WasBox (j : ℕ) (now : Box) : Type 0 where
    was : Box
    there : slice_get boxes j ≡ Some was
    shut : now.shut ≡ was.shut
    closing : now.closing ≡ was.closing
    messages : now.messages ≡ was.messages
    made : was.made ≤ now.made
    places : (j ≡ i → ⊥) → (now.places ≡ was.places) × (now.made ≡ was.made)
    fits : j ≡ i → 2 * now.made + 1 ≤ now.places

  was_box : (j : ℕ) (now : Box) → slice_get (slice_set boxes i (placed_in n box)) j ≡ Some now → WasBox j now
  was_box = grind (arith, by_number, set_elsewhere, same_Some, set_there)

  way_on : (m : Mail) → under_way h m boxes_then ≡ under_way h m boxes
  way_on m = let sums = sum_set (λ (b : Box). mail_in m b.messages) boxes i box (placed_in n box) at in omega (arith, sums)

  owes_on : (j t : ℕ) (a : Option Subject) → Owes j t a ts naps boxes → Owes j t a ts naps (slice_set boxes i (placed_in n box))
  owes_on j t None owes = owes
  owes_on j t (Some (subject.Timer k)) owes = owes
  owes_on j t (Some (subject.Request k)) owes = (
    owes.0,
    owes.1,
    record {
      worker = owes.2.worker;
      waiter = owes.2.waiter;
      unpaid = owes.2.unpaid;
      unsent = owes.2.unsent;
      over = elim owes.2.over [ inl over ↦ inl over | inr lost ↦ inr (lost.0, λ now there. let b = was_box j now there in b.closing ∙ lost.1 b.was b.there) ];
    },
  )

  pub holding_placed : IsHolding h workers hs ts naps boxes → IsHolding h workers hs ts naps (slice_set boxes i (placed_in n box))
  holding_placed old =
      let boxes' : List Box = slice_set boxes i (placed_in n box) in
      let held : (k : ℕ) (r : Thing) (now : Box) → slice_get ts k ≡ Some r → slice_get boxes' r.worker ≡ Some now → IsHeldBy now.shut r.observed (holdings k hs) (under_way h (Message.Cancel (subject.Request k)) boxes') = λ k r now there at_box.
      let b = was_box r.worker now at_box in
      subst (λ c. IsHeldBy c r.observed (holdings k hs) (under_way h (Message.Cancel (subject.Request k)) boxes_then)) (sym b.shut)
      (subst (IsHeldBy b.was.shut r.observed (holdings k hs)) (sym (way_on (Message.Cancel (subject.Request k)))) (old.held k r b.was there b.there)) in
      let forwarded : (k : ℕ) (r : Thing) (now : Box) → slice_get ts k ≡ Some r → slice_get boxes' r.worker ≡ Some now → IsForwarded now.shut r.forwarding (under_way h (Message.Forward (subject.Request k)) boxes') = λ k r now there at_box.
      let b = was_box r.worker now at_box in
      subst (λ c. IsForwarded c r.forwarding (under_way h (Message.Forward (subject.Request k)) boxes_then)) (sym b.shut)
      (subst (IsForwarded b.was.shut r.forwarding) (sym (way_on (Message.Forward (subject.Request k)))) (old.forwarded k r b.was there b.there)) in
      let let_go : (k : ℕ) (z : Nap) (now : Box) → slice_get naps k ≡ Some z → slice_get boxes' z.worker ≡ Some now → now.shut ≡ false → waiters (subject.Timer k) hs + under_way h (Message.Cancel (subject.Timer k)) boxes' ≤ 1 = λ k z now there at_box open_box.
      let b = was_box z.worker now at_box in
      subst (λ m. waiters (subject.Timer k) hs + m ≤ 1) (sym (way_on (Message.Cancel (subject.Timer k)))) (old.let_go k z b.was there b.there (sym b.shut ∙ open_box)) in
      let woken : (k : ℕ) (z : Nap) (now : Box) → slice_get naps k ≡ Some z → slice_get boxes' z.worker ≡ Some now → IsForwarded now.shut z.forwarding (under_way h (Message.Forward (subject.Timer k)) boxes') = λ k z now there at_box.
      let b = was_box z.worker now at_box in
      subst (λ c. IsForwarded c z.forwarding (under_way h (Message.Forward (subject.Timer k)) boxes_then)) (sym b.shut)
      (subst (IsForwarded b.was.shut z.forwarding) (sym (way_on (Message.Forward (subject.Timer k)))) (old.woken k z b.was there b.there)) in
      let owed : (j t : ℕ) → 0 < h.wakes j t → (h.wakes j t ≡ 1) × IsOwed j t hs ts naps boxes' = λ j t some. let o = old.owed j t some in (o.0, record { it = o.1.it; there = o.1.there; owes = owes_on j t o.1.it.awaits o.1.owes }) in
      let about : (j : ℕ) (now : Box) (m : Mail) → slice_get boxes' j ≡ Some now → Contains now.messages m → IsAbout workers j m ts naps = λ j now m at_box has. let b = was_box j now at_box in old.about j b.was m b.there (subst (λ ms. Contains ms m) b.messages has) in
      let places : (j : ℕ) (now : Box) → slice_get boxes' j ≡ Some now → HasPlace j ts naps now = λ j now at_box.
      let b = was_box j now at_box in
      let place = old.room j b.was b.there in
      record { made = omega (arith, place.made, b.made); places = grind (arith, by_number) } in
      let few : length boxes' ≡ length boxes = length-set boxes i (placed_in n box) in
      let of_worker : (k : ℕ) (r : Thing) → slice_get ts k ≡ Some r → r.worker < length boxes' = λ k r there. subst (λ m. r.worker < m) (sym few) (old.of_worker k r there) in
      let of_worker_too : (k : ℕ) (z : Nap) → slice_get naps k ≡ Some z → z.worker < length boxes' = λ k z there. subst (λ m. z.worker < m) (sym few) (old.of_worker_too k z there) in
      assumption (held, forwarded, let_go, woken, owed, about, places, of_worker, of_worker_too, old)
