-- A REQUEST OF ITS WORKER'S IS AWAITED from now on: which of them are, by slots, as they are seen.
use Rattle.std.proofs.{Common.{◌≡◌, ◌≢◌, ℕ, suc, ◌+◌, ◌==◌, ◌||◌, cond, Bool, true, false, List, [], ◌∷◌, filter, set, slice_get, slice_index_or, Some, None, if◌then◌else◌, refl, sym, ap, ◌∙◌, arith}, lemmas.Bool.{false≢true, eq-eqb}}
use Rattle.exec_base.specs.{Slab.{Slab, is_live, value_at, written}, declared.slab.{Id.Id, Slot.{Slot, TheVariants.{Live, Vacant, Retired}}}}
use Rattle.exec_waiters.{specs.{Events.with_observer, States.waiter_at, declared.{observer.Observer.TheVariants.Orphaned, waiter.{Entry.{Entry, TheVariants.Pending}, Waiter.Waiter}}}, proofs.Changes.entry_of}
use Rattle.exec_moves.specs.{declared.place.Place.Place, Slots.numbers_in, Told.has_number}
use Rattle.exec_parts.{specs.{declared.parts.{mail.Reply.Reply, shared.Shared.Shared, worker.Worker.Worker}, Records.number_in, View.{awaited_from, awaits_entry, driver_of, is_awaited, slots_from, slots_seen}}, proofs.Facts.{by_number, not_same, same_Some, set_elsewhere, set_there}}
use Rattle.exec_invariants.{specs.Sound.SoundAt, proofs.{HeldCounts.slots_set, LetSlots.{slot_here, slot_here_is, value_live}, Slotted.{awaited_over, live_at}}}

-- what passes a test, where that passes who is awaited
abbrev Tests : (ℕ → Bool) → ℕ → List ℕ → List (Slot (Entry Reply Reply)) → Type 0
Tests P k numbers xs = (j : ℕ) (x : Slot (Entry Reply Reply)) → slice_get xs j ≡ Some x → is_live x ≡ true → P (slice_index_or numbers (k + j) 0) ≡ is_awaited x

dead_unawaited : (x : Slot (Entry Reply Reply)) → is_live x ≡ false → is_awaited x ≡ false
dead_unawaited = grind arith

by_test : (P : ℕ → Bool) (k : ℕ) (numbers : List ℕ) (xs : List (Slot (Entry Reply Reply))) → Tests P k numbers xs → awaited_from k numbers xs ≡ filter P (numbers_in (slots_from k numbers xs))
by_test P k numbers [] h = refl
by_test P k numbers (x ∷ xs) h =
    by (is_live x) refl (by_test P (suc k) numbers xs (λ j y at live. ap (λ m. P (slice_index_or numbers m 0)) (let e : suc k + j ≡ k + suc j = omega arith in e) ∙ h (suc j) y at live))
  where
    by : (b : Bool) → is_live x ≡ b → awaited_from (suc k) numbers xs ≡ filter P (numbers_in (slots_from (suc k) numbers xs)) → awaited_from k numbers (x ∷ xs) ≡ filter P (numbers_in (slots_from k numbers (x ∷ xs)))
    by true live rest =
        let m = slice_index_or numbers k 0 in
        let here : P m ≡ is_awaited x = ap (λ q. P (slice_index_or numbers q 0)) (let e : k ≡ k + 0 = omega arith in e) ∙ h 0 x refl live in
        ap (λ c. if c then m ∷ awaited_from (suc k) numbers xs else awaited_from (suc k) numbers xs) (sym here)
        ∙ ap (λ ys. cond (P m) (m ∷ ys) ys) rest
        ∙ ap (λ c. filter P (numbers_in ((if c then Some m else None) ∷ slots_from (suc k) numbers xs))) (sym live)
    by false dead rest = grind (arith, dead_unawaited x dead, rest, dead)

module _ {B : Type 0} (q : Place) (w : Worker) (s : Shared B) (sound : SoundAt q w s) (id : Id) (it now : Waiter Reply Reply) (live : waiter_at (driver_of w).requests id ≡ Some it) where
  abbrev n : List ℕ
  n = w.names.requests.items

  abbrev slab : Slab (Entry Reply Reply)
  slab = (driver_of w).requests

  abbrev P : ℕ → Bool
  P m = (m == number_in w.names.requests.items id) || has_number m (awaited_from 0 w.names.requests.items (driver_of w).requests.slots)

  abbrev ys : List (Slot (Entry Reply Reply))
  ys = set slab.slots id.index (Live id.generation (Pending now))

  value : value_at slab id ≡ Some (Pending it)
  value = entry_of (value_at slab id) it live

  at_id : slice_get slab.slots id.index ≡ Some (Live id.generation (Pending it))
  at_id = live_at slab id (Pending it) value

  -- any other one is awaited where it was
  other_test : (j : ℕ) (x : Slot (Entry Reply Reply)) → j ≢ id.index → slice_get slab.slots j ≡ Some x → is_live x ≡ true → P (slice_index_or n j 0) ≡ is_awaited x
  other_test j (Live g e) apart at alive =
      let other : Id = record { index = j; generation = g } in
      let has = (awaited_over n slab other (slot_here q w s sound other e (value_live slab j g e at)) (Pending (with_observer Orphaned it)) refl).1 in
      let differs : (slice_index_or n j 0 == number_in n id) ≡ false = not_same (slice_index_or n j 0) (number_in n id) (λ same. apart ((slot_here q w s sound id (Pending it) value).alone j (Live g e) at refl same)) in
      ap (λ b. b || has_number (slice_index_or n j 0) (awaited_from 0 n slab.slots)) differs ∙ has ∙ ap awaits_entry (slot_here_is q w s sound other e (value_live slab j g e at))
  other_test j (Vacant g) apart at alive = absurd (false≢true alive)
  other_test j Retired apart at alive = absurd (false≢true alive)

  own_test : (j : ℕ) (x : Slot (Entry Reply Reply)) → awaits_entry (Pending now) ≡ true → j ≡ id.index → slice_get ys j ≡ Some x → P (slice_index_or n j 0) ≡ is_awaited x
  own_test j x awaits same at =
      let is : Live id.generation (Pending now) ≡ x = same_Some (Live id.generation (Pending now)) x (sym (set_there slab.slots id.index (Live id.generation (Pending now)) (Live id.generation (Pending it)) at_id) ∙ ap (slice_get ys) (sym same) ∙ at) in
      ap (λ i. P (slice_index_or n i 0)) same ∙ ap (λ b. b || has_number (number_in n id) (awaited_from 0 n slab.slots)) (eq-eqb (number_in n id) (number_in n id) refl) ∙ sym awaits ∙ ap is_awaited is

  pub awaited_more : awaits_entry (Pending now) ≡ true
      → awaited_from 0 w.names.requests.items (written (driver_of w).requests id (Pending now)).slots
      ≡ filter (λ m. (m == number_in w.names.requests.items id) || has_number m (awaited_from 0 w.names.requests.items (driver_of w).requests.slots)) (numbers_in (slots_seen w.names.requests.items (driver_of w).requests).held)
  awaited_more awaits =
      by_test P 0 n ys (λ j x at alive. ap (λ i. P (slice_index_or n i 0)) (let e : 0 + j ≡ j = omega arith in e)
      ∙ by_number j id.index
      (λ apart. other_test j x apart (sym (set_elsewhere slab.slots id.index j (Live id.generation (Pending now)) apart) ∙ at) alive)
      (λ same. own_test j x awaits same at))
      ∙ ap (λ xs. filter P (numbers_in xs)) (slots_set 0 n slab.slots id.index id.generation (Live id.generation (Pending it)) (Pending now) at_id refl)
