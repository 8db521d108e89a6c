-- What tasks hold, where a worker begins that has no messages and has made nothing.
use Rattle.std.proofs.{Common.{◌≡◌, ◌≢◌, ℕ, ◌<◌, ◌≤◌, inl, inr, Contains, List, [], ◌∷◌, ◌++◌, length, Option, Some, None, arith, slice_get}, lemmas.{List.{length-append, Sums.{sum_by-append}}}}
use Rattle.exec_parts.{specs.declared.parts.mail.Subject.Subject, proofs.Facts.{by_number, not_same}}
use Rattle.exec_invariants.specs.Holding.{Box, Hands, Holder, IsClosing, IsHolding, Mail, Nap, Owes, Thing, under_way}
use Rattle.exec_polling.proofs.{SpawnLists.found_which, MadePlaces.none_counted}

module _ (h h' : Hands) (workers : ℕ) (holders : List Holder) (things : List Thing) (naps : List Nap) (boxes : List Box) (box : Box) (empty : box.messages ≡ []) (unmade : box.made ≡ 0) (some : 1 ≤ box.places)
    (mail : (m : Mail) → h'.mail m ≡ h.mail m) (wakes : (i t : ℕ) → i ≢ length boxes → h'.wakes i t ≡ h.wakes i t) (no_wakes : (t : ℕ) → h'.wakes (length boxes) t ≡ 0) where
  abbrev more : List Box
  more = boxes ++ box ∷ []

  way_more : (m : Mail) → under_way h' m more ≡ under_way h m boxes
  way_more = grind (arith, sum_by-append)

  -- of a worker that was there
  old_box : (i : ℕ) (b : Box) → i < length boxes → slice_get more i ≡ Some b → slice_get boxes i ≡ Some b
  old_box = grind (arith, found_which)

  closes_more : (i : ℕ) → i ≢ length boxes → IsClosing i boxes → IsClosing i more
  closes_more = grind (arith, found_which)

  owes_more : (i t : ℕ) (o : Option Subject) → i ≢ length boxes → Owes i t o things naps boxes → Owes i t o things naps more
  owes_more i t None apart owes = owes
  owes_more i t (Some (Subject.Request k)) apart owes =
      (owes.0, owes.1, record { worker = owes.2.worker; waiter = owes.2.waiter; unpaid = owes.2.unpaid; unsent = owes.2.unsent; over = elim owes.2.over [ inl over ↦ inl over | inr gone ↦ inr (gone.0, closes_more i apart gone.1) ] })
  owes_more i t (Some (Subject.Timer n)) apart owes = owes

  nothing_in : (m : Mail) → Contains [] m → ⊥
  nothing_in m (k, few, is) = omega (arith, few)

  pub holding_boxed : IsHolding h workers holders things naps boxes → IsHolding h' workers holders things naps more
  holding_boxed = grind (arith, way_more, old_box, by_number, owes_more, found_which, nothing_in, none_counted, not_same, length-append)
