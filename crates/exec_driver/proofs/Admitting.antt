-- The room that an admission makes, and gives up again.
use Rattle.std.{proofs.{Common.{◌≡◌, ℕ, ◌+◌, ◌*◌, ◌≤◌, Bool, true, false, List, [], ◌∷◌, length, Option, Result, refl, ap, subst, arith}, lemmas.List.Sums.sum_by-cons}, specs.Prelude.{is_some, is_err, count_by, IsSomeAnd, OnOk, OnErr}}
use Rattle.exec_lists.{proofs.{Counting.{flying_few, pending_is}, Shifts.few}, specs.{Lists.no_lists, Listed.{counts, count_of}}}
use Rattle.exec_base.specs.{Slab.Slab, declared.slab.{InsertError.InsertError, Slot.Slot}}
use Rattle.exec_ring.specs.{Kernels.Landing, Rings.{RingState, taken_places, fresh as fresh_ring}, Stores.{Same, Reserves, Releases}, declared.store.Store.Store}
use Rattle.exec_time.specs.Wheel.{Wheel, fresh}
use Rattle.exec_waiters.{specs.{Events.IsTurnedDown, States.pending_count, declared.waiter.{Entry.Entry, Refused.Refused}}, proofs.Changes.one_if}
use Rattle.exec_driver.specs.{Admission.{IsRefused, with_rooms}, Driving.{Driving, is_cancelled}, Sound.{IsSound, IsHeld, may_cancel}}
use Rattle.exec_request.specs.{Windows.{cancel_window, wake_window}, declared.window.Window.Window}

-- the windows of a cancel and of the wake poll want no room
pub reserved_none : (user_data : ℕ) (a b : Store) → Reserves (cancel_window user_data) a b → Same a b
reserved_none = grind arith

pub reserved_wake : (a b : Store) → Reserves wake_window a b → Same a b
reserved_wake = grind arith

pub reserved_still : (w : Window) (a b c : Store) → Reserves w a b → Same b c → Reserves w a c
reserved_still = grind arith

pub given_back : (w : Window) (a b c : Store) → Reserves w a b → Releases w b c → Same a c
given_back = grind arith

-- THE BYTES OF A REQUEST END WITHIN WHAT 64 BITS CAN SAY

module _ {S F : Type 0} where
  -- how many places a ring must have
  abbrev pub needed : Driving S F → ℕ
  needed d = pending_count d.requests + count_of may_cancel d.requests + length d.lists.cancels + d.cancels_under_way + 1

  pub taken_few : (d : Driving S F) → IsSound d → taken_places d.ring ≤ needed d
  taken_few d sound =
      let less = flying_few d.requests in
      grind arith

  -- a ring with other places, enough of them
  pub held_places : (d : Driving S F) (ls : List Landing) (n m room most spots : ℕ) → needed d ≤ n → m ≡ n → IsHeld d room most spots → IsHeld (record d { ring = record d.ring { places = n }; landings = ls }) room most m
  held_places = grind arith

  -- each request needs two, a cancel under way one, and the wake poll one
  parts : (p q r : Slot (Entry S F) → Bool) → ((o : Slot (Entry S F)) → one_if (p o) + one_if (q o) ≡ one_if (r o)) → (xs : List (Slot (Entry S F))) → count_by p xs + count_by q xs ≡ count_by r xs
  parts p q r split [] = refl
  parts p q r split (x ∷ xs) =
      omega (arith, sum_by-cons (λ o. one_if (p o)) x xs, sum_by-cons (λ o. one_if (q o)) x xs, sum_by-cons (λ o. one_if (r o)) x xs, split x, parts p q r split xs)

  one_of : (o : Slot (Entry S F)) → one_if (counts is_cancelled o) + one_if (counts may_cancel o) ≡ one_if (counts is_some o)
  one_of = grind arith

  pub needed_few : (d : Driving S F) → IsSound d → needed d ≤ pending_count d.requests * 2 + d.cancels_under_way + 1
  needed_few d sound =
      let asked = few is_cancelled is_cancelled refl refl (λ w is. is) d.lists.cancels d.requests sound.cancels.all sound.cancels.once in
      let split = parts (counts is_cancelled) (counts may_cancel) (counts is_some) one_of d.requests.slots in
      omega (arith, asked, split, pending_is d.requests)

  -- A NEW DRIVER

  pub held_fresh : (s : Slab (Entry S F)) (w : Wheel) (ring : RingState) (ls : List Landing) (size room most : ℕ) → s.slots ≡ [] → w.ready ≡ [] → ((t : ℕ) → w.active t ≡ 0) → ring ≡ record (fresh_ring size) { places = 1 } → most ≡ size → IsHeld (record { requests = s; wheel = w; ring = ring; landings = ls; lists = no_lists; cancels_under_way = 0; armed = false }) room most 1
  held_fresh = grind arith

  -- A REFUSAL: rooms play no part in it

  roomless : (s : Slab (Entry S F)) (room : ℕ) (back : Refused S F) (e : InsertError (Refused S F)) → IsRefused (record s { room = room }) back e → IsRefused s back e
  roomless = grind arith

  pub refused_over : (d d' : Driving S F) (back : Refused S F) (e : InsertError (Refused S F)) → d' ≡ with_rooms d' d → IsRefused d'.requests back e → IsRefused d.requests back e
  refused_over d d' back e same is =
      roomless d.requests d'.requests.room back e (subst (λ (s : Slab (Entry S F)). IsRefused s back e) (ap (λ (m : Driving S F). m.requests) same) is)

  pub turned_down : (s : Slab (Entry S F)) (back : Refused S F) (e : InsertError (Refused S F)) → IsTurnedDown s back e → IsRefused s back e
  turned_down = grind arith

-- a call that was right did what it says of that
pub on_ok : {A E P : Type 0} (r : Result A E) → is_err r ≡ false → OnOk r P → P
on_ok = grind arith

pub on_err : {A E P : Type 0} (r : Result A E) → is_err r ≡ true → OnErr r P → P
on_err = grind arith

-- a new wheel has nothing in it
pub record IsUnused (w : Wheel) : Type 0 where
  pub drained : w.ready ≡ []
  pub idle : (t : ℕ) → w.active t ≡ 0

pub unused : (slots : Option ℕ) (w : Wheel) (horizon tick now : ℕ) → IsSomeAnd slots (λ n. w ≡ fresh horizon tick now n) → IsUnused w
unused = grind arith
