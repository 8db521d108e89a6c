-- A MESSAGE IS SENT: from the hands of a worker it comes into an inbox, which has a place for it, or is lost where that takes none.
use Rattle.exec_invariants.{proofs.{Names.{◌≡◌, inl, inr, ℕ, zero, suc, ◌+◌, ◌*◌, ◌<◌, ◌≤◌, ◌==◌, Bool, true, false, cond, Contains, List, [], ◌∷◌, ◌++◌, count_by, length, Option, Some, refl, sym, ap, subst, ◌∙◌, arith, slice_get, slice_set, false≢true, length-set, Contains-append_cases, sum_by-cons, is_wake_root, Message, Forwarding, Subject, by_number, same_Some, set_elsewhere, set_there}, HoldMail.{few_mail, is_never, mail_first, mail_is, mail_last, mail_self, once_or_never, sum_least}, HoldRedo.{sum_set, set_back}}, specs.{Places.one_if, Holding.{Box, Hands, Holder, IsAbout, IsForwarded, IsHeldBy, IsHolding, Mail, Nap, Owes, Thing, holdings, mail_in, same_mail, under_way, waiters, HasPlace, IsOwed}}}

-- MESSAGES MOVE between hands and inboxes, and each is under way as before, unless its inbox takes none

-- worker j has this
abbrev pub IsOwned : ℕ → Subject → List Thing → List Nap → Type 0
IsOwned j (Subject.Request k) ts naps = (r : Thing) × (slice_get ts k ≡ Some r) × (r.worker ≡ j)
IsOwned j (Subject.Timer n) ts naps = (z : Nap) × (slice_get naps n ≡ Some z) × (z.worker ≡ j)

pub record SameBox (box box' : Box) : Type 0 where
  pub shut : box'.shut ≡ box.shut
  pub closing : box'.closing ≡ box.closing
  pub places : 2 * box.made + 1 ≤ box.places → 2 * box'.made + 1 ≤ box'.places
  pub made : box'.made ≡ box.made

forward_few : (shut : Bool) (f : Forwarding) (n : ℕ) → shut ≡ false → IsForwarded shut f n → n ≤ 1
forward_few = grind arith

pub held_few : (shut held : Bool) (n m : ℕ) → shut ≡ false → IsHeldBy shut held n m → m ≤ 1
held_few = grind arith

module _ (h h' : Hands) (workers : ℕ) (hs : List Holder) (ts : List Thing) (naps : List Nap) (boxes boxes' : List Box) where
  pub record Moves : Type 0 where
    pub many : length boxes' ≡ length boxes
    pub back : (j : ℕ) (box' : Box) → slice_get boxes' j ≡ Some box' → (box : Box) × (slice_get boxes j ≡ Some box) × SameBox box box'
    pub wakes : h'.wakes ≡ h.wakes
    pub way : (s : Subject) (j : ℕ) (box : Box) → IsOwned j s ts naps → slice_get boxes j ≡ Some box → box.shut ≡ false → (under_way h' (Message.Cancel s) boxes' ≡ under_way h (Message.Cancel s) boxes) × (under_way h' (Message.Forward s) boxes' ≡ under_way h (Message.Forward s) boxes)
    pub about : (j : ℕ) (box' : Box) (m : Mail) → slice_get boxes' j ≡ Some box' → Contains box'.messages m → IsAbout workers j m ts naps
    pub made : (m : Mail) → 0 < h'.mail m → (j : ℕ) × IsAbout workers j m ts naps

  held_by : (shut held : Bool) (n a b : ℕ) → (shut ≡ false → a ≡ b) → IsHeldBy shut held n a → IsHeldBy shut held n b
  held_by true held n a b same fact = fact
  held_by false held n a b same fact = subst (λ m. n + m ≡ one_if held) (same refl) fact

  forwarded_by : (shut : Bool) (f : Forwarding) (a b : ℕ) → (shut ≡ false → a ≡ b) → IsForwarded shut f a → IsForwarded shut f b
  forwarded_by true f a b same fact = tt
  forwarded_by false f a b same fact = sym (same refl) ∙ fact

  pub moved : Moves → IsHolding h workers hs ts naps boxes → IsHolding h' workers hs ts naps boxes'
  moved by old =
      let owes_on : (i t : ℕ) (a : Option Subject) → Owes i t a ts naps boxes → Owes i t a ts naps boxes' = grind arith in
      let held : (k : ℕ) (r : Thing) (box : Box) → slice_get ts k ≡ Some r → slice_get boxes' r.worker ≡ Some box → IsHeldBy box.shut r.observed (holdings k hs) (under_way h' (Message.Cancel (Subject.Request k)) boxes') = λ k r box' there at.
      let b = by.back r.worker box' at in
      subst (λ s. IsHeldBy s r.observed (holdings k hs) (under_way h' (Message.Cancel (Subject.Request k)) boxes')) (sym b.2.shut)
      (held_by b.0.shut r.observed (holdings k hs) _ _ (λ open_box. sym ((by.way (Subject.Request k) r.worker b.0 (r, there, refl) b.1 open_box).0)) (old.held k r b.0 there b.1)) in
      let forwarded : (k : ℕ) (r : Thing) (box : Box) → slice_get ts k ≡ Some r → slice_get boxes' r.worker ≡ Some box → IsForwarded box.shut r.forwarding (under_way h' (Message.Forward (Subject.Request k)) boxes') = λ k r box' there at.
      let b = by.back r.worker box' at in
      subst (λ s. IsForwarded s r.forwarding (under_way h' (Message.Forward (Subject.Request k)) boxes')) (sym b.2.shut)
      (forwarded_by b.0.shut r.forwarding _ _ (λ open_box. sym ((by.way (Subject.Request k) r.worker b.0 (r, there, refl) b.1 open_box).1)) (old.forwarded k r b.0 there b.1)) in
      let let_go : (n : ℕ) (z : Nap) (box : Box) → slice_get naps n ≡ Some z → slice_get boxes' z.worker ≡ Some box → box.shut ≡ false → waiters (Subject.Timer n) hs + under_way h' (Message.Cancel (Subject.Timer n)) boxes' ≤ 1 = λ n z box' there at open_box.
      let b = by.back z.worker box' at in
      let open_b : b.0.shut ≡ false = sym b.2.shut ∙ open_box in
      subst (λ m. waiters (Subject.Timer n) hs + m ≤ 1) (sym ((by.way (Subject.Timer n) z.worker b.0 (z, there, refl) b.1 open_b).0)) (old.let_go n z b.0 there b.1 open_b) in
      let woken : (n : ℕ) (z : Nap) (box : Box) → slice_get naps n ≡ Some z → slice_get boxes' z.worker ≡ Some box → IsForwarded box.shut z.forwarding (under_way h' (Message.Forward (Subject.Timer n)) boxes') = λ n z box' there at.
      let b = by.back z.worker box' at in
      subst (λ s. IsForwarded s z.forwarding (under_way h' (Message.Forward (Subject.Timer n)) boxes')) (sym b.2.shut)
      (forwarded_by b.0.shut z.forwarding _ _ (λ open_box. sym ((by.way (Subject.Timer n) z.worker b.0 (z, there, refl) b.1 open_box).1)) (old.woken n z b.0 there b.1)) in
      let owed : (i t : ℕ) → 0 < h'.wakes i t → (h'.wakes i t ≡ 1) × IsOwed i t hs ts naps boxes' = λ i t some.
      let o = old.owed i t (subst (λ (f : ℕ → ℕ → ℕ). 0 < f i t) by.wakes some) in
      (ap (λ (f : ℕ → ℕ → ℕ). f i t) by.wakes ∙ o.0, record { it = o.1.it; there = o.1.there; owes = owes_on i t o.1.it.awaits o.1.owes }) in
      let room : (j : ℕ) (box : Box) → slice_get boxes' j ≡ Some box → HasPlace j ts naps box = λ j box' at.
      let b = by.back j box' at in
      let place = old.room j b.0 b.1 in
      record {
        made = subst (λ n. count_by (λ r. r.worker == j) ts + count_by (λ z. z.worker == j) naps ≤ n) (sym b.2.made) place.made;
        places = λ open_box. b.2.places (place.places (sym b.2.shut ∙ open_box));
      } in
      let of_worker : (k : ℕ) (r : Thing) → slice_get ts k ≡ Some r → r.worker < length boxes' = λ k r there. subst (λ n. r.worker < n) (sym by.many) (old.of_worker k r there) in
      let of_worker_too : (n : ℕ) (z : Nap) → slice_get naps n ≡ Some z → z.worker < length boxes' = λ n z there. subst (λ m. z.worker < m) (sym by.many) (old.of_worker_too n z there) in
      assumption (held, forwarded, let_go, woken, owed, room, of_worker, of_worker_too, old, by)

-- ONE MORE IN HAND
abbrev pub with_mail : Mail → Hands → Hands
with_mail m h = record h { mail = λ x. h.mail x + mail_in x (m ∷ []) }

-- it is in no hand any more, and in the inbox of worker j
abbrev pub posted_in : Mail → Box → Box
posted_in m box = record box { messages = box.messages ++ m ∷ [] }

module _ (h : Hands) (workers : ℕ) (hs : List Holder) (ts : List Thing) (naps : List Nap) (boxes : List Box) (j : ℕ) (m : Mail) (box : Box) (at : slice_get boxes j ≡ Some box) (about : IsAbout workers j m ts naps) where
  same_way : (x : Mail) → under_way h x (slice_set boxes j (posted_in m box)) ≡ under_way (with_mail m h) x boxes
  same_way = grind (arith, sum_set, mail_last)

  pub posted : IsHolding (with_mail m h) workers hs ts naps boxes → IsHolding h workers hs ts naps (slice_set boxes j (posted_in m box))
  posted old =
      moved (with_mail m h) h workers hs ts naps boxes (slice_set boxes j (posted_in m box)) (record {
        many = length-set boxes j (posted_in m box);
        back = set_back (λ i. SameBox) boxes (slice_set boxes j (posted_in m box)) j box (posted_in m box) at refl (record { shut = refl; closing = refl; places = λ h. h; made = refl }) (λ i x. record { shut = refl; closing = refl; places = λ h. h; made = refl });
        wakes = refl;
        way = λ s i b its there open_box. (same_way (Message.Cancel s), same_way (Message.Forward s));
        about = λ i box' x there has.
            by_number i j
            (λ other. old.about i box' x (sym (set_elsewhere boxes j i (posted_in m box) other) ∙ there) has)
            (λ same.
            let is : posted_in m box ≡ box' = same_Some (posted_in m box) box' (sym (set_there boxes j (posted_in m box) box at) ∙ subst (λ n. slice_get (slice_set boxes j (posted_in m box)) n ≡ Some box') same there) in
            subst (λ n. IsAbout workers n x ts naps) (sym same) (within x (subst (λ (b : Box). Contains b.messages x) (sym is) has)));
        made = λ x some. old.made x (omega (arith, some));
      }) old
    where
      within : (x : Mail) → Contains (box.messages ++ m ∷ []) x → IsAbout workers j x ts naps
      within x has =
          elim (Contains-append_cases box.messages (m ∷ []) x has) [
            | inl before ↦ old.about j box x at before
            | inr last ↦ subst (λ y. IsAbout workers j y ts naps) (sym (only last)) about
          ]
        where
          only : Contains (m ∷ []) x → x ≡ m
          only (zero, few, is) = sym is
          only (suc n, few, is) = absurd (omega (arith, few))

  -- THERE IS A PLACE for one that isn't there
  pub has_place : IsHolding h workers hs ts naps boxes → box.shut ≡ false → mail_in m box.messages ≡ 0 → (is_wake_root m ≡ false) → length box.messages + 2 ≤ count_by is_wake_root box.messages + box.places
  has_place old open_box fresh other =
      let not_root : (x : Mail) → is_wake_root x ≡ false → count_by is_wake_root (x ∷ box.messages) ≡ 0 + count_by is_wake_root box.messages =
      λ x never. sum_by-cons (λ (y : Mail). cond (is_wake_root y) 1 0) x box.messages ∙ ap (λ b. cond b 1 0 + count_by is_wake_root box.messages) never in
      let within : (x : Mail) → under_way h x boxes ≤ 1 → mail_in x box.messages ≤ 1 = λ x most. let least = sum_least (λ (b : Box). mail_in x b.messages) boxes j box at in omega (arith, most, least) in
      let once : (k : ℕ) (r : Thing) → slice_get ts k ≡ Some r → r.worker ≡ j → (mail_in (Message.Forward (Subject.Request k)) (m ∷ box.messages) ≤ 1) × (mail_in (Message.Cancel (Subject.Request k)) (m ∷ box.messages) ≤ 1) = λ k r there its.
      let here : slice_get boxes r.worker ≡ Some box = ap (slice_get boxes) its ∙ at in
      let forward = forward_few box.shut r.forwarding (under_way h (Message.Forward (Subject.Request k)) boxes) open_box (old.forwarded k r box there here) in
      let cancel = held_few box.shut r.observed (holdings k hs) (under_way h (Message.Cancel (Subject.Request k)) boxes) open_box (old.held k r box there here) in
      (at_most (Message.Forward (Subject.Request k)) (within (Message.Forward (Subject.Request k)) forward), at_most (Message.Cancel (Subject.Request k)) (within (Message.Cancel (Subject.Request k)) cancel)) in
      let once_too : (n : ℕ) (z : Nap) → slice_get naps n ≡ Some z → z.worker ≡ j → (mail_in (Message.Forward (Subject.Timer n)) (m ∷ box.messages) ≤ 1) × (mail_in (Message.Cancel (Subject.Timer n)) (m ∷ box.messages) ≤ 1) = λ n z there its.
      let here : slice_get boxes z.worker ≡ Some box = ap (slice_get boxes) its ∙ at in
      let forward = forward_few box.shut z.forwarding (under_way h (Message.Forward (Subject.Timer n)) boxes) open_box (old.woken n z box there here) in
      let go = old.let_go n z box there here open_box in
      (at_most (Message.Forward (Subject.Timer n)) (within (Message.Forward (Subject.Timer n)) forward), at_most (Message.Cancel (Subject.Timer n)) (within (Message.Cancel (Subject.Timer n)) (omega (arith, go)))) in
      let all : (x : Mail) → Contains (m ∷ box.messages) x → IsAbout workers j x ts naps = grind arith in
      let place = old.room j box at in
      omega (arith, few_mail workers j ts naps (m ∷ box.messages) all once once_too, place.places open_box, place.made, not_root m other)
    where
      -- the new one once, and each other as often as it is under way
      at_most : (x : Mail) → mail_in x box.messages ≤ 1 → mail_in x (m ∷ box.messages) ≤ 1
      at_most x most = by (same_mail x m) refl
        where
          by : (b : Bool) → same_mail x m ≡ b → mail_in x (m ∷ box.messages) ≤ 1
          by true is =
              omega (arith, ap (λ y. mail_in y box.messages) (mail_is x m is) ∙ fresh, mail_first x m box.messages, once_or_never x m)
          by false is =
              omega (arith, mail_first x m box.messages, is_never x m (λ same. false≢true (sym is ∙ ap (same_mail x) (sym same) ∙ mail_self x)), most)
