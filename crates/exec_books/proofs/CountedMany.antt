-- How many requests of a worker are not released, after an event of a worker.
use Rattle.std.proofs.{Common.{◌≡◌, ◌≢◌, ℕ, zero, suc, ◌<◌, ◌==◌, ◌&&◌, ◌+◌, Bool, true, false, not, cond, List, [], ◌∷◌, ◌++◌, length, count_by, Option, refl, sym, ap, ◌∙◌, arith, get_or, set}, lemmas.{Bool.{true≢false, eq-eqb, ne_eqb, ltb-true, ltb-false, not-true}, List.{get_or_past, Sums.{sum_by-cons, sum_by-set, sum_by_push}}}, Math.Bool.and-false}
use Rattle.exec_outcomes.specs.declared.outcome.Outcome.{Outcome}
use Rattle.exec_machine.specs.{declared.{config.Configuration.Configuration, event.Event.{Event, Event as event}, state.Request.Request}, After.{common_after, own_after}, Allowed.Allowed, Choice.Choice, Requests.asked_now, World.{Common, Own as Books, no_request, request_of}}
use Rattle.exec_books.{specs.Booked.unreleased_of, proofs.{CountedFresh.{made, made_is, no_made}, CountedOwn.{admit_counts, counts, unreleased_kept}, CountedTurns.{Turns, releases}, Own.IsOwn}}

-- LISTS

-- what passes alike counts alike
module _ (p : Request → Bool) where
  cons : (x : Request) (xs : List Request) → count_by p (x ∷ xs) ≡ cond (p x) 1 0 + count_by p xs
  cons x xs = sum_by-cons (λ y. cond (p y) 1 0) x xs

  pub same_count : p no_request ≡ false → (xs ys : List Request) → ((k : ℕ) → p (get_or ys k no_request) ≡ p (get_or xs k no_request)) → count_by p ys ≡ count_by p xs
  same_count none [] [] each = refl
  same_count none [] (y ∷ ys) each = cons y ys ∙ ap (λ b. cond b 1 0 + count_by p ys) (each zero ∙ none) ∙ omega (arith, same_count none [] ys (λ k. each (suc k)))
  same_count none (x ∷ xs) [] each =
      sym (cons x xs ∙ ap (λ b. cond b 1 0 + count_by p xs) (sym (each zero) ∙ none) ∙ omega (arith, same_count none xs [] (λ k. each (suc k))))
  same_count none (x ∷ xs) (y ∷ ys) each =
      cons y ys ∙ ap (λ b. cond b 1 0 + count_by p ys) (each zero) ∙ ap (λ n. cond (p x) 1 0 + n) (same_count none xs ys (λ k. each (suc k))) ∙ sym (cons x xs)

-- of worker j and not released
abbrev is_counted : ℕ → Request → Bool
is_counted j r = (r.worker == j) && not r.released

nobody : (j : ℕ) → is_counted j no_request ≡ false
nobody j = and-false (0 == j)

-- a request that isn't over for good is there
pub within_by : (s : Common) (r : ℕ) → (request_of s r).released ≡ false → r < length s.requests
within_by = grind (arith, ltb-true, true≢false, get_or_past, ltb-false)

-- EVENTS

pub and_true : (a b : Bool) → a ≡ b → (a && true) ≡ b
and_true = grind arith

alike : (e : Event) (j : ℕ) (rs ss : List Request) → releases e ≡ false → ((k : ℕ) → Turns e k (get_or rs k no_request) (get_or ss k no_request)) → unreleased_of j ss ≡ unreleased_of j rs
alike e j rs ss calm turns = same_count (is_counted j) (nobody j) rs ss (λ k. rw ((turns k).worker, (turns k).released calm) refl)

module _ (c : Configuration) (me : Books) (s : Common) (i : ℕ) where
  -- neither makes one nor releases one
  still : (e : Event) (choice : Choice) → Allowed c me s i e choice → counts e ≡ false → (j : ℕ) → unreleased_of j (common_after c me s i e choice).requests ≡ unreleased_of j s.requests
  still (event.Admit r kind outcome) choice h calm j = absurd (true≢false calm)
  still (event.Release r) choice h calm j = absurd (true≢false calm)
  still e choice h calm j = alike e j s.requests (common_after c me s i e choice).requests refl (no_made c me s i e choice h refl)

  -- a request that is made counts for its worker
  made_counts : (outcome : Option Outcome) (j : ℕ) (b : Bool) → (i == j) ≡ b → unreleased_of j (s.requests ++ made c me s i outcome ∷ []) ≡ unreleased_of j s.requests + cond b 1 0
  made_counts = grind (arith, made_is, made, and_true, sum_by_push)

  -- and one that is released doesn't any more
  released_counts : (r j : ℕ) (b : Bool) → (request_of s r).released ≡ false → ((request_of s r).worker == j) ≡ b
      → unreleased_of j (set s.requests r (record (request_of s r) { released = true })) + cond b 1 0 ≡ unreleased_of j s.requests
  released_counts = grind (arith, and_true, and-false, sum_by-set, within_by)

  -- an event counts for its own worker alone
  pub counted_elsewhere : (e : Event) (choice : Choice) → Allowed c me s i e choice → IsOwn s i e → (j : ℕ) → j ≢ i → unreleased_of j (common_after c me s i e choice).requests ≡ unreleased_of j s.requests
  counted_elsewhere (event.Admit r kind outcome) choice h own j apart = made_counts outcome j false (ne_eqb i j (λ is. apart (sym is))) ∙ omega arith
  counted_elsewhere (event.Release r) choice h own j apart =
      omega (arith, released_counts r j false (not-true (request_of s r).released h.1.1.1.1.0) (ne_eqb (request_of s r).worker j (λ is. apart (sym is ∙ own))))
  counted_elsewhere e choice h own j apart = still e choice h refl j

  pub counted_here : (e : Event) (choice : Choice) → Allowed c me s i e choice → IsOwn s i e → me.unreleased ≡ unreleased_of i s.requests
      → (own_after c me s i e choice).unreleased ≡ unreleased_of i (common_after c me s i e choice).requests
  counted_here (event.Admit r kind outcome) choice h own was =
      (admit_counts (asked_now c me s) outcome r me).0 ∙ ap (λ n. n + 1) was ∙ sym (made_counts outcome i true (eq-eqb i i refl))
  counted_here (event.Release r) choice h own was =
      let fewer = released_counts r i true (not-true (request_of s r).released h.1.1.1.1.0) (eq-eqb (request_of s r).worker i own) in
      omega (arith, fewer, was)
  counted_here e choice h own was = unreleased_kept c me s i e choice refl ∙ was ∙ sym (still e choice h refl i)
