-- What tasks hold, where a message to a root joins an inbox: all that is told of requests and sleepers is as it was.
use Rattle.exec_invariants.{specs.Holding.{Box, Hands, HasPlace, Holder, IsAbout, IsClosing, IsHolding, Mail, Nap, Owes, Thing, box_of, same_mail, under_way}, proofs.{Words.{◌≡◌, ℕ, ◌⊎◌, inl, inr, false, Contains, List, [], ◌∷◌, ◌++◌, map, Option, Some, None, refl, sym, ap, subst, ◌∙◌, arith, slice_get, slice_set, option_map, length-set, Contains-push_cases, sum_by-append, slice_get-map, Message, Subject, Chair, by_number, same_Some, set_elsewhere, set_there}, Showing.map_set, HoldRedo.sum_set, Posting.{Arrival, IsArrival, chair_by}, Turning.set_found}}

-- such a box
abbrev with_root : Box → Box
with_root box = record box { messages = box.messages ++ Message.WakeRoot ∷ [] }

module _ (h : Hands) (workers : ℕ) (holders : List Holder) (things : List Thing) (naps : List Nap) (boxes : List Box) (j : ℕ) (box : Box) (there : slice_get boxes j ≡ Some box) where
  abbrev boxes' : List Box
  boxes' = slice_set boxes j (with_root box)

  -- what a box was
  was : (i : ℕ) (now : Box) → slice_get boxes' i ≡ Some now → (old : Box) × (slice_get boxes i ≡ Some old) × ((now ≡ old) ⊎ (now ≡ with_root old))
  was = grind (arith, by_number, set_elsewhere, same_Some, set_there)

  shut_was : (i : ℕ) (now old : Box) → (now ≡ old) ⊎ (now ≡ with_root old) → now.shut ≡ old.shut
  shut_was i now old (inl is) = ap (λ (b : Box). b.shut) is
  shut_was i now old (inr is) = ap (λ (b : Box). b.shut) is

  closing_was : (now old : Box) → (now ≡ old) ⊎ (now ≡ with_root old) → now.closing ≡ old.closing
  closing_was now old (inl is) = ap (λ (b : Box). b.closing) is
  closing_was now old (inr is) = ap (λ (b : Box). b.closing) is

  -- of no other message there are more
  same_way : (m : Mail) → same_mail m Message.WakeRoot ≡ false → under_way h m boxes' ≡ under_way h m boxes
  same_way = grind (arith, sum_by-append, sum_set)

  closes_then : (i : ℕ) → IsClosing i boxes → IsClosing i boxes'
  closes_then i closing now at = let old = was i now at in closing_was now old.0 old.2 ∙ closing old.0 old.1

  owes_then : (i t : ℕ) (o : Option Subject) → Owes i t o things naps boxes → Owes i t o things naps boxes'
  owes_then i t None owes = owes
  owes_then i t (Some (Subject.Request k)) owes =
      (owes.0, owes.1, record { worker = owes.2.worker; waiter = owes.2.waiter; unpaid = owes.2.unpaid; unsent = owes.2.unsent; over = elim owes.2.over [ inl over ↦ inl over | inr gone ↦ inr (gone.0, closes_then i gone.1) ] })
  owes_then i t (Some (Subject.Timer n)) owes = owes

  about_then : (i : ℕ) (now : Box) (m : Mail) → slice_get boxes' i ≡ Some now → Contains now.messages m → IsHolding h workers holders things naps boxes → IsAbout workers i m things naps
  about_then i now m at has holding =
      let old = was i now at in
      elim old.2 as (λ x. IsAbout workers i m things naps) [
        | inl is ↦ holding.about i old.0 m old.1 (subst (λ (b : Box). Contains b.messages m) is has)
        | inr is ↦ elim (Contains-push_cases old.0.messages Message.WakeRoot m (subst (λ (b : Box). Contains b.messages m) is has)) as (λ x. IsAbout workers i m things naps) [
          | inl before ↦ holding.about i old.0 m old.1 before
          | inr root ↦ subst (λ z. IsAbout workers i z things naps) root tt
        ]
      ]

  room_then : (i : ℕ) (now : Box) → slice_get boxes' i ≡ Some now → IsHolding h workers holders things naps boxes → HasPlace i things naps now
  room_then = grind (arith, was)

  pub holding_rooted : IsHolding h workers holders things naps boxes → IsHolding h workers holders things naps boxes'
  holding_rooted = grind (arith, was, shut_was, same_way, owes_then, about_then, room_then, length-set boxes j (with_root box))

-- a message to the root of worker j arrives so
pub holding_posted : (a : Arrival) (h : Hands) (workers : ℕ) (holders : List Holder) (things : List Thing) (naps : List Nap) (seats seats' : List Chair) (j : ℕ) (chair : Chair) → IsArrival a chair.mailbox → slice_get seats j ≡ Some chair → seats' ≡ slice_set seats j (chair_by a chair)
    → IsHolding h workers holders things naps (map box_of seats) → IsHolding h workers holders things naps (map box_of seats')
holding_posted a h workers holders things naps seats seats' j chair is there set holding = by a is set
  where
    again : slice_set seats j chair ≡ seats
    again = set_found seats j chair there

    more : (its : Chair) → seats' ≡ slice_set seats j its → box_of its ≡ with_root (box_of chair) → IsHolding h workers holders things naps (map box_of seats')
    more its set_now now =
        subst (IsHolding h workers holders things naps) (sym (ap (map box_of) set_now ∙ map_set box_of seats j its ∙ ap (slice_set (map box_of seats) j) now))
        (holding_rooted h workers holders things naps (map box_of seats) j (box_of chair) (slice_get-map box_of seats j ∙ ap (option_map box_of) there) holding)

    by : (b : Arrival) → IsArrival b chair.mailbox → seats' ≡ slice_set seats j (chair_by b chair) → IsHolding h workers holders things naps (map box_of seats')
    by Arrival.Shut at set_now = subst (λ xs. IsHolding h workers holders things naps (map box_of xs)) (sym (set_now ∙ again)) holding
    by Arrival.LeftOut at set_now = subst (λ xs. IsHolding h workers holders things naps (map box_of xs)) (sym (set_now ∙ again)) holding
    by Arrival.First at set_now = more (chair_by Arrival.First chair) set_now (ap (λ ms. record (box_of chair) { messages = ms ++ Message.WakeRoot ∷ [] }) (sym at.1))
    by Arrival.More at set_now = more (chair_by Arrival.More chair) set_now refl
