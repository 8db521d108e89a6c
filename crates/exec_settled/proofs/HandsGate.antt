-- Gates in the middle of a service: they are looked at by their numbers, and none is passed at which a request of the worker stands first and waits.
use Rattle.std.{proofs.{Common.{◌≡◌, ℕ, zero, suc, ◌+◌, ◌<◌, ◌≤◌, ◌&&◌, Bool, true, false, List, [], ◌∷◌, length, get_or, set, if◌then◌else◌, Some, None, ◌∙◌, refl, sym, ap, arith}, lemmas.Bool.{true≢false, false≢true, and_parts, or_left, or_right, eq-eqb, and_from, le-leb, ltb-false, ltb-true}}, specs.{Prelude.{nat_le, nat_lt, slice_get}, List.list_any}}
use Rattle.exec_machine.specs.{declared.{config.Configuration.Configuration, state.Request.Request}, Deadlines.{is_due, is_first_due, is_told_after}, Tests.{all_numbered, is_gated, is_resolved}, World.{Common, Own as Books, no_open, no_request, request_of}}
use Rattle.exec_moves.specs.{declared.place.{InService.InService, Service.Service, Place.Place as at}, Serve.first_numbered, Submit.{first_due, granted_at, next_gate, waits_at}}
use Rattle.exec_rest.proofs.Sides.{put_cases}
use Rattle.exec_settled.specs.Permits.{is_past, is_past_in}

-- WHERE IN A SERVICE

module _ (file : ℕ) (v : Service) where
  pub unpast : (q : InService) → is_past_in file q ≡ false → is_past file (at.Service q v) ≡ false
  unpast = grind arith

  -- the service of a turn alone passes gates
  pub opened : (p q : InService) → is_past file (at.Service p v) ≡ false → is_past file (at.Service q v) ≡ true → (is_past_in file p ≡ false) × (is_past_in file q ≡ true)
  opened = grind arith

  pub stays_early : (p q : InService) → (is_past_in file p ≡ false → is_past_in file q ≡ false) → is_past file (at.Service p v) ≡ false → is_past file (at.Service q v) ≡ false
  stays_early = grind arith

-- REQUESTS

-- what waits for a permit is there
pub gated_there : (rs : List Request) (k : ℕ) → is_gated (get_or rs k no_request).phase ≡ true → k < length rs
gated_there [] k h = absurd (false≢true h)
gated_there (r ∷ rs) zero h = omega arith
gated_there (r ∷ rs) (suc k) h = omega (arith, gated_there rs k h)

any_at : (test : Request → Bool) (rs : List Request) (k : ℕ) → k < length rs → test (get_or rs k no_request) ≡ true → list_any test rs ≡ true
any_at test [] k within h = let no : ⊥ = omega (arith, within) in absurd no
any_at test (r ∷ rs) zero within h = or_left (test r) (list_any test rs) h
any_at test (r ∷ rs) (suc k) within h = or_right (test r) (list_any test rs) (any_at test rs k (omega (arith, within)) h)

-- of the requests one is another one: what isn't over and is so then is that
pub over_one : (rs : List Request) (q k : ℕ) (y : Request) → is_resolved (get_or rs k no_request).phase ≡ false → is_resolved (get_or (set rs q y) k no_request).phase ≡ true → (k ≡ q) × (is_resolved y.phase ≡ true)
over_one = grind (arith, put_cases, true≢false)

-- THE GATE THAT IS NEXT

-- where none is found, none passes the test
none_passes : {X : Type 0} (test : ℕ → X → Bool) (n : ℕ) (xs : List X) (d : X) → first_numbered test n xs ≡ None → (k : ℕ) → k < length xs → test (n + k) (get_or xs k d) ≡ false
none_passes test n [] d none k within = let no : ⊥ = omega (arith, within) in absurd no
none_passes test n (x ∷ xs) d none k within = by (test n x) refl none (λ rest j less. none_passes test (suc n) xs d rest j less) k within
  where
    by : (b : Bool) → test n x ≡ b → (if b then Some n else first_numbered test (suc n) xs) ≡ None
        → (first_numbered test (suc n) xs ≡ None → (j : ℕ) → j < length xs → test (suc n + j) (get_or xs j d) ≡ false)
        → (k : ℕ) → k < suc (length xs) → test (n + k) (get_or (x ∷ xs) k d) ≡ false
    by = grind arith

-- nothing before the first passes the test
least : {X : Type 0} (test : ℕ → X → Bool) (n : ℕ) (xs : List X) (d : X) (f : ℕ) → first_numbered test n xs ≡ Some f → (k : ℕ) → k < length xs → test (n + k) (get_or xs k d) ≡ true → f ≤ n + k
least test n [] d f is k within h = let no : ⊥ = omega (arith, within) in absurd no
least test n (x ∷ xs) d f is k within h = by (test n x) refl is (λ rest j less there. least test (suc n) xs d f rest j less there) k within h
  where
    by : (b : Bool) → test n x ≡ b → (if b then Some n else first_numbered test (suc n) xs) ≡ Some f
        → (first_numbered test (suc n) xs ≡ Some f → (j : ℕ) → j < length xs → test (suc n + j) (get_or xs j d) ≡ true → f ≤ suc n + j)
        → (k : ℕ) → k < suc (length xs) → test (n + k) (get_or (x ∷ xs) k d) ≡ true → f ≤ n + k
    by = grind arith

module _ (i gate : ℕ) (s : Common) (file k : ℕ) (ahead : nat_lt file gate ≡ false) (within : file < length s.opens)
    (own : (request_of s k).worker ≡ i) (target : (request_of s k).operation.target ≡ file) (waits : is_gated (request_of s k).phase ≡ true) where
  abbrev test : ℕ → Bool
  test f = nat_le gate f && list_any (waits_at i f) s.requests

  passes : test file ≡ true
  passes = grind (arith, and_from, le-leb, ltb-false, any_at, gated_there, eq-eqb)

  from_zero : 0 + file ≡ file
  from_zero = omega arith

  pub some_gate : next_gate i gate s ≡ None → ⊥
  some_gate none = true≢false (sym passes ∙ ap test (sym from_zero) ∙ none_passes (λ f o. test f) 0 s.opens no_open none file within)

  -- the one that is next, where that isn't before it
  pub this_gate : (f : ℕ) → next_gate i gate s ≡ Some f → nat_lt file (suc f) ≡ true → file ≡ f
  this_gate f some past =
      let le : f ≤ 0 + file = least (λ f o. test f) 0 s.opens no_open f some file within (ap test from_zero ∙ passes) in
      omega (arith, le, ltb-true file (suc f) past)

-- who stands first there, waits and is of this worker is granted
pub granted_first : (i k : ℕ) (gate : List ℕ) (s : Common) → slice_get gate 0 ≡ Some k → (request_of s k).worker ≡ i → is_gated (request_of s k).phase ≡ true → granted_at i gate s ≡ Some k
granted_first = grind arith

pub granted_is_first : (i r : ℕ) (gate : List ℕ) (s : Common) → granted_at i gate s ≡ Some r → slice_get gate 0 ≡ Some r
granted_is_first = grind arith

-- WHAT IS DUE has a timer

found : {X : Type 0} (test : ℕ → Bool) (n : ℕ) (xs : List X) (r : ℕ) → first_numbered (λ m x. test m) n xs ≡ Some r → test r ≡ true
found test n [] r is = let no : None ≡ Some r = is in absurd (cc)
found test n (x ∷ xs) r is = grind (arith, found test (suc n) xs r)

pub first_is_due : (c : Configuration) (i : ℕ) (me : Books) (s : Common) (r : ℕ) → first_due c i me s ≡ Some r → is_due i me.sampled (request_of s r) ≡ true
first_is_due c i me s r some =
    let it = found (λ q. is_first_due c me i s.requests q) 0 s.requests r some in
    (and_parts (is_due i me.sampled (request_of s r)) (all_numbered (is_told_after c me i r (request_of s r).timer) 0 s.requests) it).0

pub undue : (i moment : ℕ) (r : Request) → r.timer ≡ None → is_due i moment r ≡ true → ⊥
undue = grind arith
