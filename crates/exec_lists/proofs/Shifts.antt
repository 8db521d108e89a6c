-- How the list of a place follows one request that changed.
use Rattle.std.{proofs.{Common.{◌≡◌, ◌≢◌, ◌⊎◌, ℕ, ◌<◌, ◌≤◌, Bool, true, false, not, List, [], ◌∷◌, ◌++◌, length, Option, Some, None, refl, ap, arith, length-append}, lemmas.Bool.{and_parts, not-true}}, specs.Prelude.is_some}
use Rattle.exec_base.specs.{Slab.{Slab, value_at, removed}, declared.slab.Id.Id}
use Rattle.exec_waiters.specs.{States.{waiter_at, waiter_of, pending_count}, declared.{waiter.{Waiter.Waiter, Entry.{Entry, TheVariants.Pending}}, waiter_id.WaiterId.WaiterId}}
use Rattle.exec_lists.{specs.{Lists.{without, is_among}, Listed.{is_once, are_all, IsListed, count_of}}, proofs.{Names.{same_tells, unchanged, once_without, once_push}, Counting.{OneChanged, one_removed, pending_is}}}

module _ {S F : Type 0} where
  -- what is in no place is not in the list of one
  not_there : (p : Option (Waiter S F) → Bool) (s : Slab (Entry S F)) (id : WaiterId) (ids : List WaiterId) → are_all p s ids ≡ true → p (waiter_at s id.0) ≡ false → is_among id ids ≡ false
  not_there p s id [] all out = refl
  not_there p s id (x ∷ ids) all out = grind (arith, same_tells x id, not_there p s id ids)

  -- the list without it stands for the new requests
  all_without : (p : Option (Waiter S F) → Bool) (s s' : Slab (Entry S F)) (id : WaiterId) (ids : List WaiterId) → ((other : Id) → other ≢ id.0 → waiter_at s' other ≡ waiter_at s other) → are_all p s ids ≡ true → are_all p s' (without id ids) ≡ true
  all_without p s s' id [] others all = refl
  all_without p s s' id (x ∷ ids) others all = grind (arith, same_tells x id, others x.0, all_without p s s' id ids others)

  -- the list stays where it hasn't the name, or the request stays in the place
  all_kept : (p : Option (Waiter S F) → Bool) (s s' : Slab (Entry S F)) (id : WaiterId) (ids : List WaiterId) → ((other : Id) → other ≢ id.0 → waiter_at s' other ≡ waiter_at s other) → (p (waiter_at s' id.0) ≡ true) ⊎ (p (waiter_at s id.0) ≡ false) → are_all p s ids ≡ true → are_all p s' ids ≡ true
  all_kept p s s' id [] others stays all = refl
  all_kept p s s' id (x ∷ ids) others stays all = grind (arith, same_tells x id, others x.0, all_kept p s s' id ids others stays)

  all_push : (p : Option (Waiter S F) → Bool) (s : Slab (Entry S F)) (id : WaiterId) (ids : List WaiterId) → are_all p s ids ≡ true → p (waiter_at s id.0) ≡ true → are_all p s (ids ++ id ∷ []) ≡ true
  all_push p s id [] all fits = rw fits refl
  all_push p s id (x ∷ ids) all fits = grind (arith, all_push p s id ids)

  -- how the list of a place follows: the name leaves it, it stays, the name joins it, or its first leaves it
  pub data Shift (p : Option (Waiter S F) → Bool) (was is : Option (Waiter S F)) (id : WaiterId) (ids ids' : List WaiterId) : Type 0 where
    Left : ids' ≡ without id ids → Shift p was is id ids ids'
    Kept : ids' ≡ ids → (p is ≡ true) ⊎ (p was ≡ false) → Shift p was is id ids ids'
    Joined : ids' ≡ ids ++ id ∷ [] → p was ≡ false → p is ≡ true → Shift p was is id ids ids'
    First : ids ≡ id ∷ ids' → Shift p was is id ids ids'

  pub shifted : (p : Option (Waiter S F) → Bool) (s s' : Slab (Entry S F)) (id : WaiterId) (was is : Option (Waiter S F)) (ids ids' : List WaiterId) → OneChanged s s' id.0 was is → Shift p was is id ids ids' → IsListed p s ids → IsListed p s' ids'
  shifted p s s' id was is ids ids' one (Left e) listed = grind (arith, all_without, once_without)
  shifted p s s' id was is ids ids' one (Kept e stays) listed = grind (arith, all_kept)
  shifted p s s' id was is ids ids' one (Joined e out fits) listed = grind (arith, waiter_at, not_there, all_push, all_kept, once_push)
  shifted p s s' id was is ids ids' one (First e) listed =
      let once = and_parts (not (is_among id ids')) (is_once ids') (rw e at listed.once) in
      let all = all_without p s s' id ids' one.others (and_parts (p (waiter_at s id.0)) (are_all p s ids') (rw e at listed.all)).1 in
      record { all = rw (unchanged id ids' (not-true _ once.0)) at all; once = once.1 }

  -- what held of no request holds of none
  pub nowhere : (p : Option (Waiter S F) → Bool) (s s' : Slab (Entry S F)) (id : Id) (was is : Option (Waiter S F)) → OneChanged s s' id was is → p is ≡ false → ((other : Id) → p (waiter_at s other) ≡ false) → (other : Id) → p (waiter_at s' other) ≡ false
  nowhere = grind arith

  -- a list of requests in a place is no longer than there are such requests
  there_of : (p : Option (Waiter S F) → Bool) (o : Option (Entry S F)) → p None ≡ false → p (waiter_of o) ≡ true → (w : Waiter S F) × (o ≡ Some (Pending w))
  there_of = grind arith

  pub few : (p q : Option (Waiter S F) → Bool) → p None ≡ false → q None ≡ false → ((w : Waiter S F) → p (Some w) ≡ true → q (Some w) ≡ true) → (ids : List WaiterId) (s : Slab (Entry S F)) → are_all p s ids ≡ true → is_once ids ≡ true → length ids ≤ count_of q s
  few p q none none' fits [] s all once = omega arith
  few p q none none' fits (x ∷ ids) s all once =
      let parts = and_parts (p (waiter_at s x.0)) (are_all p s ids) all in
      let onces = and_parts (not (is_among x ids)) (is_once ids) once in
      let there = there_of p (value_at s x.0) none parts.0 in
      let one = one_removed s x.0 (Pending there.0) there.1 in
      let in_place : p (Some there.0) ≡ true = rw (ap waiter_of there.1) at parts.0 in
      let counted = rw (fits there.0 in_place, none') at (one.numbers q none') in
      let left = all_without p s (removed s x.0) x ids one.others parts.1 in
      let rest = few p q none none' fits ids (removed s x.0) (rw (unchanged x ids (not-true _ onces.0)) at left) onces.1 in
      omega (arith, counted, rest)

  -- so there is room for one more that joins
  pub room_for : (p : Option (Waiter S F) → Bool) (s s' : Slab (Entry S F)) (id : WaiterId) (was : Option (Waiter S F)) (w : Waiter S F) (ids : List WaiterId) (room : ℕ) → p None ≡ false → OneChanged s s' id.0 was (Some w) → p was ≡ false → p (Some w) ≡ true → IsListed p s ids → pending_count s' ≤ room → length ids < room
  room_for p s s' id was w ids room none one out fits listed within =
      let joined = shifted p s s' id was (Some w) ids (ids ++ id ∷ []) one (Joined refl out fits) listed in
      let some = few p is_some none refl (λ v is. refl) (ids ++ id ∷ []) s' joined.all joined.once in
      omega (arith, length-append ids (id ∷ []), some, pending_is s')

  -- one more of the place joins its list, for which there is room
  pub listed_push : (p : Option (Waiter S F) → Bool) (s : Slab (Entry S F)) (id : WaiterId) (ids : List WaiterId) → IsListed p s ids → is_among id ids ≡ false → p (waiter_at s id.0) ≡ true → IsListed p s (ids ++ id ∷ [])
  listed_push p s id ids listed out fits = record { all = all_push p s id ids listed.all fits; once = once_push id ids listed.once out }

  pub room_here : (p : Option (Waiter S F) → Bool) (s : Slab (Entry S F)) (id : WaiterId) (ids : List WaiterId) (room : ℕ) → p None ≡ false → IsListed p s ids → is_among id ids ≡ false → p (waiter_at s id.0) ≡ true → pending_count s ≤ room → length ids < room
  room_here p s id ids room none listed out fits within =
      let joined = listed_push p s id ids listed out fits in
      let some = few p is_some none refl (λ v is. refl) (ids ++ id ∷ []) s joined.all joined.once in
      omega (arith, length-append ids (id ∷ []), some, pending_is s)
