-- Each request stands in the lists in which it waits for something, also after one changed.
use Rattle.std.{proofs.{Common.{◌≡◌, ℕ, ◌==◌, Bool, true, false, not, List, [], ◌∷◌, ◌++◌, filter, drop, refl, inl, inr, arith}, lemmas.Bool.{false≢true, or_cases, or_left, or_right, eq-eqb, eqb-true}}, specs.Prelude.slice_get}
use Rattle.exec_machine.specs.{declared.state.{Request.Request, RequestPhase.RequestPhase as phase}, Requests.{joined_if, left_if}, Same.is_number, World.{Own as Books, no_request}}
use Rattle.exec_outcomes.specs.declared.outcome.Outcome.{Outcome}
use Rattle.exec_books.specs.Listed.{IsListed, is_in}

-- LISTS

in_left : (k r : ℕ) (list : List ℕ) → (k == r) ≡ false → is_in k list ≡ true → is_in k (filter (λ q. not (q == r)) list) ≡ true
in_left k r [] other h = h
in_left k r (q ∷ list) other h = grind (arith, or_cases, or_left, or_right, eqb-true, false≢true, eq-eqb, in_left k r list other)

pub in_front : (k : ℕ) (list more : List ℕ) → is_in k list ≡ true → is_in k (list ++ more) ≡ true
in_front k [] more h = absurd (false≢true h)
in_front k (q ∷ list) more h = elim (or_cases (q == k) (is_in k list) h) [
  | inl this ↦ or_left (q == k) (is_in k (list ++ more)) this
  | inr rest ↦ or_right (q == k) (is_in k (list ++ more)) (in_front k list more rest)
]

pub in_last : (r : ℕ) (list : List ℕ) → is_in r (list ++ r ∷ []) ≡ true
in_last r [] = or_left (r == r) false (eq-eqb r r refl)
in_last r (q ∷ list) = or_right (q == r) (is_in r (list ++ r ∷ [])) (in_last r list)

pub kept_left : (b : Bool) (k r : ℕ) (list : List ℕ) → (k == r) ≡ false → is_in k list ≡ true → is_in k (left_if b list r) ≡ true
kept_left = grind (arith, in_left)

pub kept_joined : (b : Bool) (k r : ℕ) (list : List ℕ) → is_in k list ≡ true → is_in k (joined_if b list r) ≡ true
kept_joined = grind (arith, in_front)

pub kept_drop : (k r : ℕ) (list : List ℕ) → is_number r (slice_get list 0) ≡ true → (k == r) ≡ false → is_in k list ≡ true → is_in k (drop 1 list) ≡ true
kept_drop = grind arith

-- WHAT STAYS

-- what stood in the lists stands there still
pub record KeepsIn (k : ℕ) (me me' : Books) (landed landed' : List ℕ) : Type 0 where
  pub ready : is_in k me.ready ≡ true → is_in k me'.ready ≡ true
  pub landed_in : is_in k landed ≡ true → is_in k landed' ≡ true
  pub unenrolled : is_in k me.unenrolled ≡ true → is_in k me'.unenrolled ≡ true
  pub cancels : is_in k me.cancels ≡ true → is_in k me'.cancels ≡ true
  pub ended : is_in k me.ended ≡ true → is_in k me'.ended ≡ true

pub listed_by : (k : ℕ) (me me' : Books) (landed landed' : List ℕ) (r : Request) → KeepsIn k me me' landed landed' → IsListed me landed k r → IsListed me' landed' k r
listed_by = grind arith

pub no_listed : (me : Books) (landed : List ℕ) (k : ℕ) → IsListed me landed k no_request
no_listed = grind arith

-- A REQUEST THAT IS OVER is among those that ended
pub over_listed : (me : Books) (landed : List ℕ) (r : ℕ) (y : Request) (o : Outcome) → y.phase ≡ phase.Resolved o → is_in r me.ended ≡ true → IsListed me landed r y
over_listed = grind arith
