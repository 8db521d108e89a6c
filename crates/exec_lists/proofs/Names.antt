-- Lists of names: one more, one less, and what is said of each.
use Rattle.std.{proofs.{Common.{◌≡◌, ◌≢◌, ◌⊎◌, ◌≤◌, true, false, not, List, [], ◌∷◌, ◌++◌, length, refl, arith, ℕ, ◌+◌, ◌<◌, ◌==◌, if◌then◌else◌, length-set, get_or, slice_index, Option, Some, option_to_list, ◌∙◌}, lemmas.{List.{Sums.{length-filter, count_by-le-length}, get_or_default, Elements.filter-append}, Bool.{Decides.nat_tests}, Grind.{common_steps, elements, get_or-set_at}}}, specs.Prelude.slice_set}
use Rattle.exec_waiters.specs.declared.waiter_id.WaiterId.{WaiterId}
use Rattle.exec_lists.specs.{Lists.{is_same, without, is_among, in_slot, AreCounted, are_within}, Listed.is_once}

-- two names are one, or two
pub same_tells : (a b : WaiterId) → ((is_same a b ≡ true) × (a ≡ b)) ⊎ ((is_same a b ≡ false) × (a.0 ≢ b.0))
same_tells = grind arith

-- a name that was left out isn't there
pub among_without : (id : WaiterId) (ids : List WaiterId) → is_among id (without id ids) ≡ false
among_without id [] = refl
among_without id (x ∷ ids) = grind (arith, common_steps, among_without id ids)

among_less : (x id : WaiterId) (ids : List WaiterId) → is_among x ids ≡ false → is_among x (without id ids) ≡ false
among_less x id [] none = refl
among_less x id (y ∷ ids) none = grind (arith, common_steps, among_less x id ids)

pub once_without : (id : WaiterId) (ids : List WaiterId) → is_once ids ≡ true → is_once (without id ids) ≡ true
once_without id [] once = refl
once_without id (x ∷ ids) once = grind (arith, common_steps, among_less x id ids, once_without id ids)

among_push : (x id : WaiterId) (ids : List WaiterId) → is_among x ids ≡ false → is_same id x ≡ false → is_among x (ids ++ id ∷ []) ≡ false
among_push x id [] none other = rw other refl
among_push x id (y ∷ ids) none other = grind (arith, common_steps, among_push x id ids)

pub once_push : (id : WaiterId) (ids : List WaiterId) → is_once ids ≡ true → is_among id ids ≡ false → is_once (ids ++ id ∷ []) ≡ true
once_push id [] once none = refl
once_push id (x ∷ ids) once none = grind (arith, common_steps, among_push x id ids, once_push id ids)

-- a list without a name that it hasn't
pub unchanged : (x : WaiterId) (ids : List WaiterId) → is_among x ids ≡ false → without x ids ≡ ids
unchanged x [] none = refl
unchanged x (y ∷ ids) none = grind (arith, common_steps, unchanged x ids)

-- what is left out makes a list no longer
pub fewer_without : (id : WaiterId) (ids : List WaiterId) → length (without id ids) ≤ length ids
fewer_without id ids = omega (arith, length-filter (λ other. not (is_same other id)) ids, count_by-le-length (λ other. not (is_same other id)) ids)

pub in_slot_push : (slot : ℕ) (ids : List WaiterId) (id : WaiterId) → in_slot slot (ids ++ id ∷ []) ≡ in_slot slot ids + (if id.0.index == slot then 1 else 0)
in_slot_push slot [] id = grind (arith, common_steps)
in_slot_push slot (x ∷ xs) id = grind (arith, common_steps, in_slot_push slot xs id)

pub in_slot_within : (slot : ℕ) (ids : List WaiterId) → in_slot slot ids ≤ length ids
in_slot_within slot [] = omega arith
in_slot_within slot (x ∷ xs) = grind (arith, common_steps, in_slot_within slot xs)

-- a name whose slot none has isn't there
pub none_in_slot : (id : WaiterId) (ids : List WaiterId) → in_slot id.0.index ids ≡ 0 → is_among id ids ≡ false
none_in_slot id [] none = refl
none_in_slot id (x ∷ xs) none = grind (arith, common_steps, none_in_slot id xs)

-- of its own slot so many fewer names are there as leave, and of another as many
pub in_slot_without : (id : WaiterId) (ids : List WaiterId) → in_slot id.0.index (without id ids) + length ids ≡ in_slot id.0.index ids + length (without id ids)
in_slot_without id [] = refl
in_slot_without id (x ∷ xs) = grind (arith, common_steps, in_slot_without id xs)

pub in_other_slot : (slot : ℕ) (id : WaiterId) (ids : List WaiterId) → (id.0.index == slot) ≡ false → in_slot slot (without id ids) ≡ in_slot slot ids
in_other_slot slot id [] other = refl
in_other_slot slot id (x ∷ xs) other = grind (arith, common_steps, other, in_other_slot slot id xs other)

-- what was counted of a slot, as it was read
pub read_count : (ids : List WaiterId) (counts : List ℕ) (slot n : ℕ) → AreCounted ids counts → slot < length counts → n ≡ get_or counts slot n → n ≡ in_slot slot ids
read_count ids counts slot n counted within is = is ∙ get_or_default counts slot n 0 within ∙ counted slot within

-- where the count of the one slot that changes is set, and where there is none
pub counted_set : (ids ids' : List WaiterId) (counts : List ℕ) (at n : ℕ) → AreCounted ids counts → at < length counts → n ≡ in_slot at ids' → ((slot : ℕ) → (at == slot) ≡ false → in_slot slot ids' ≡ in_slot slot ids) → AreCounted ids' (slice_set counts at n)
counted_set = grind (arith, length-set, nat_tests, get_or-set_at, elements)

pub counted_beyond : (ids ids' : List WaiterId) (counts : List ℕ) (at : ℕ) → AreCounted ids counts → length counts ≤ at → ((slot : ℕ) → (at == slot) ≡ false → in_slot slot ids' ≡ in_slot slot ids) → AreCounted ids' counts
counted_beyond = grind arith

-- one more name changes the count of its slot alone
pub pushed_here : (id : WaiterId) (ids : List WaiterId) → in_slot id.0.index (ids ++ id ∷ []) ≡ in_slot id.0.index ids + 1
pushed_here id ids = grind (arith, common_steps, in_slot_push id.0.index ids id)

pub pushed_elsewhere : (id : WaiterId) (ids : List WaiterId) (slot : ℕ) → (id.0.index == slot) ≡ false → in_slot slot (ids ++ id ∷ []) ≡ in_slot slot ids
pushed_elsewhere id ids slot other = grind (arith, common_steps, other, in_slot_push slot ids id)

-- names within so many slots are within more, and stay so as names come and go
pub within_push : (slots : ℕ) (ids : List WaiterId) (id : WaiterId) → are_within slots ids ≡ true → id.0.index < slots → are_within slots (ids ++ id ∷ []) ≡ true
within_push slots [] id within inside = grind (arith, common_steps, inside)
within_push slots (x ∷ xs) id within inside = grind (arith, common_steps, within_push slots xs id)

pub within_without : (slots : ℕ) (id : WaiterId) (ids : List WaiterId) → are_within slots ids ≡ true → are_within slots (without id ids) ≡ true
within_without slots id [] within = refl
within_without slots id (x ∷ xs) within = grind (arith, common_steps, within_without slots id xs)

pub within_more : (slots more : ℕ) (ids : List WaiterId) → slots ≤ more → are_within slots ids ≡ true → are_within more ids ≡ true
within_more slots more [] longer within = refl
within_more slots more (x ∷ xs) longer within = grind (arith, common_steps, within_more slots more xs)

-- beyond the slots of all names there is none
none_beyond : (slots slot : ℕ) (ids : List WaiterId) → slots ≤ slot → are_within slots ids ≡ true → in_slot slot ids ≡ 0
none_beyond slots slot [] beyond within = refl
none_beyond slots slot (x ∷ xs) beyond within = grind (arith, common_steps, none_beyond slots slot xs)

-- counts that go on with zeros count so many more slots
pub counted_longer : (ids : List WaiterId) (counts longer : List ℕ) → AreCounted ids counts → are_within (length counts) ids ≡ true → ((k : ℕ) → k < length counts → slice_index longer k ≡ slice_index counts k) → ((k : ℕ) → length counts ≤ k → k < length longer → slice_index longer k ≡ 0) → AreCounted ids longer
counted_longer = grind (arith, none_beyond)

-- who is alone in its slot and first, or last, leaves the others as they are
first_alone : (id : WaiterId) (ids : List WaiterId) → in_slot id.0.index (id ∷ ids) ≤ 1 → without id (id ∷ ids) ≡ ids
first_alone id ids alone = grind (arith, common_steps, unchanged, none_in_slot)

last_alone : (id : WaiterId) (ids : List WaiterId) → in_slot id.0.index (ids ++ id ∷ []) ≤ 1 → without id (ids ++ id ∷ []) ≡ ids
last_alone id ids alone = grind (arith, common_steps, unchanged, none_in_slot, pushed_here id ids, filter-append)

pub first_leaves : (id : WaiterId) (ids rest : List WaiterId) (first : Option WaiterId) → first ≡ Some id → ids ≡ option_to_list first ++ rest → in_slot id.0.index ids ≤ 1 → rest ≡ without id ids
first_leaves id ids rest first is all alone = grind (arith, common_steps, is, all, alone, first_alone id rest)

pub last_leaves : (id : WaiterId) (ids rest : List WaiterId) (last : Option WaiterId) → last ≡ Some id → ids ≡ rest ++ option_to_list last → in_slot id.0.index ids ≤ 1 → rest ≡ without id ids
last_leaves id ids rest last is all alone = grind (arith, common_steps, is, all, alone, last_alone id rest)
