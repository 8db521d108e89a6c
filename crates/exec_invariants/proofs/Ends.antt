-- What is seen of a request's end.
use Rattle.exec_invariants.proofs.{Names.{◌≡◌, ◌≢◌, ℕ, ◌==◌, true, false, not, List, [], ◌∷◌, filter, Option, Some, refl, sym, ◌∙◌, arith, Slab, Id, Account, Ended, finished, is_flying, flying_count, waiter_at, Entry, Waiter, WaiterId, is_among, without, flying_is, one_finished, Reply, number_in, numbers_of, same_self}, Gated.first_in}

-- THE NUMBERS of those that are left

pub later_in : (x y : WaiterId) (ids : List WaiterId) → is_among y ids ≡ true → is_among y (x ∷ ids) ≡ true
later_in = grind arith

numbers_step : (numbers : List ℕ) (id x : WaiterId) (ids : List WaiterId) → numbers_of numbers (without id ids) ≡ filter (λ q. not (q == number_in numbers id.0)) (numbers_of numbers ids)
    → (x.0 ≢ id.0 → number_in numbers x.0 ≡ number_in numbers id.0 → ⊥)
    → numbers_of numbers (without id (x ∷ ids)) ≡ filter (λ q. not (q == number_in numbers id.0)) (numbers_of numbers (x ∷ ids))
numbers_step = grind arith

pub numbers_without : (numbers : List ℕ) (id : WaiterId) (ids : List WaiterId) → ((x : WaiterId) → is_among x ids ≡ true → x.0 ≢ id.0 → number_in numbers x.0 ≡ number_in numbers id.0 → ⊥)
    → numbers_of numbers (without id ids) ≡ filter (λ q. not (q == number_in numbers id.0)) (numbers_of numbers ids)
numbers_without numbers id [] apart = refl
numbers_without numbers id (x ∷ ids) apart =
    numbers_step numbers id x ids (numbers_without numbers id ids (λ y among. apart y (later_in x y ids among))) (apart x (first_in x ids))

-- the first goes with the others of its name
pub without_first : (id : WaiterId) (ids : List WaiterId) → without id (id ∷ ids) ≡ without id ids
without_first id ids = rw (same_self id) refl

-- WHAT FLIES

pub flying_ended : (s : Slab (Entry Reply Reply)) (id : Id) (it : Waiter Reply Reply) (how : Ended) (account : Option Account) → waiter_at s id ≡ Some it → it.in_flight ≡ false → flying_count (finished s id it how account) ≡ flying_count s
flying_ended s id it how account at idle =
    let flying = rw idle at ((one_finished s id it how account at).numbers is_flying refl) in
    flying_is (finished s id it how account) ∙ omega (arith, flying) ∙ sym (flying_is s)
