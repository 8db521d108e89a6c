-- What is due at one worker, where another's requests and sleepers change.
use Rattle.std.proofs.{Common.{◌≡◌, ℕ, zero, suc, Bool, true, false, not, ◌&&◌, ◌||◌, ◌==◌, if◌then◌else◌, List, [], ◌∷◌, ◌++◌, Option, Some, refl, ap, inl, inr, ◌⊎◌, get_or, set, nat_le, arith}, lemmas.{Bool.{cases_eq, cases_Bool}, List.get_or-set_other}}
use Rattle.exec_machine.specs.{declared.{config.Configuration.Configuration, state.{Request.Request, Sleeper.Sleeper}}, World.{Own, no_request, no_sleeper}, Tests.{IsOther, all_numbered, is_asleep}, Deadlines.{earlier, first_timer, first_until, is_none_earlier, is_due, is_told_before, is_told_after, is_first_due}}

-- TIMERS

pub timer : (i q : ℕ) (rs : List Request) (y : Request) → IsOther i (get_or rs q no_request).worker → IsOther i y.worker → first_timer i (set rs q y) ≡ first_timer i rs
timer i q [] y was is = refl
timer i zero (x ∷ xs) y was is = rw (was, is) refl
timer i (suc q) (x ∷ xs) y was is = ap (λ m. if x.worker == i then earlier x.timer m else m) (timer i q xs y was is)

pub new_timer : (i : ℕ) (rs : List Request) (y : Request) → IsOther i y.worker → first_timer i (rs ++ y ∷ []) ≡ first_timer i rs
new_timer i [] y is = rw is refl
new_timer i (x ∷ xs) y is = ap (λ m. if x.worker == i then earlier x.timer m else m) (new_timer i xs y is)

-- DUE DEADLINES

not_due : (i moment : ℕ) (y : Request) → IsOther i y.worker → is_due i moment y ≡ false
not_due i moment y is = rw is refl

passes : (c : Configuration) (me : Own) (i r : ℕ) (t : Option ℕ) (n : ℕ) (y : Request) → IsOther i y.worker → is_told_after c me i r t n y ≡ true
passes c me i r t n y is = ap (λ b. not b || not (is_told_before c me n y.timer r t)) (not_due i me.sampled y is)

set_numbered : (test : ℕ → Request → Bool) (n q : ℕ) (rs : List Request) (y : Request) → ((k : ℕ) → test k (get_or rs q no_request) ≡ true) → ((k : ℕ) → test k y ≡ true) → all_numbered test n (set rs q y) ≡ all_numbered test n rs
set_numbered test n q [] y was is = refl
set_numbered test n zero (x ∷ xs) y was is = rw (was n, is n) refl
set_numbered test n (suc q) (x ∷ xs) y was is = ap (λ rest. test n x && rest) (set_numbered test (suc n) q xs y was is)

push_numbered : (test : ℕ → Request → Bool) (n : ℕ) (rs : List Request) (y : Request) → ((k : ℕ) → test k y ≡ true) → all_numbered test n (rs ++ y ∷ []) ≡ all_numbered test n rs
push_numbered test n [] y is = rw (is n) refl
push_numbered test n (x ∷ xs) y is = ap (λ rest. test n x && rest) (push_numbered test (suc n) xs y is)

-- where the request itself is the same
due_same : (c : Configuration) (me : Own) (i r : ℕ) (rs ss : List Request) → get_or ss r no_request ≡ get_or rs r no_request
    → all_numbered (is_told_after c me i r (get_or rs r no_request).timer) 0 ss ≡ all_numbered (is_told_after c me i r (get_or rs r no_request).timer) 0 rs
    → is_first_due c me i ss r ≡ is_first_due c me i rs r
due_same = grind arith

-- where it isn't due before or after
never_due : (c : Configuration) (me : Own) (i r : ℕ) (rs ss : List Request) → is_due i me.sampled (get_or rs r no_request) ≡ false → is_due i me.sampled (get_or ss r no_request) ≡ false
    → is_first_due c me i ss r ≡ is_first_due c me i rs r
never_due c me i r rs ss was is = rw (was, is) refl

set_other : (i q : ℕ) (rs : List Request) (y : Request) → IsOther i (get_or rs q no_request).worker → IsOther i y.worker → IsOther i (get_or (set rs q y) q no_request).worker
set_other i q [] y was is = was
set_other i zero (x ∷ xs) y was is = is
set_other i (suc q) (x ∷ xs) y was is = set_other i q xs y was is

pub due : (c : Configuration) (me : Own) (i q r : ℕ) (rs : List Request) (y : Request) → IsOther i (get_or rs q no_request).worker → IsOther i y.worker → is_first_due c me i (set rs q y) r ≡ is_first_due c me i rs r
due = grind (arith, cases_eq, never_due, not_due, set_other, due_same, get_or-set_other, set_numbered, timer, passes)

none_due : (i m : ℕ) → is_due i m no_request ≡ false
none_due i m = elim (cases_Bool (0 == i)) [ inl own ↦ rw own refl | inr other ↦ rw other refl ]

-- the last of a list, or one before it
pushed : (i m : ℕ) (rs : List Request) (y : Request) (r : ℕ) → IsOther i y.worker
    → (get_or (rs ++ y ∷ []) r no_request ≡ get_or rs r no_request) ⊎ ((is_due i m (get_or (rs ++ y ∷ []) r no_request) ≡ false) × (is_due i m (get_or rs r no_request) ≡ false))
pushed i m [] y zero is = inr (not_due i m y is, none_due i m)
pushed i m [] y (suc r) is = inl refl
pushed i m (x ∷ xs) y zero is = inl refl
pushed i m (x ∷ xs) y (suc r) is = pushed i m xs y r is

pub new_due : (c : Configuration) (me : Own) (i r : ℕ) (rs : List Request) (y : Request) → IsOther i y.worker → is_first_due c me i (rs ++ y ∷ []) r ≡ is_first_due c me i rs r
new_due = grind (arith, pushed, due_same, push_numbered, timer, passes, never_due)

-- SLEEPERS

not_asleep : (i : ℕ) (y : Sleeper) → IsOther i y.worker → is_asleep i y ≡ false
not_asleep i y is = rw is refl

pub sleeper : (i q : ℕ) (zs : List Sleeper) (y : Sleeper) → IsOther i (get_or zs q no_sleeper).worker → IsOther i y.worker → first_until i (set zs q y) ≡ first_until i zs
sleeper i q [] y was is = refl
sleeper i zero (x ∷ xs) y was is = rw (not_asleep i x was, not_asleep i y is) refl
sleeper i (suc q) (x ∷ xs) y was is = ap (λ m. if is_asleep i x then earlier (Some x.until) m else m) (sleeper i q xs y was is)

pub new_sleeper : (i : ℕ) (zs : List Sleeper) (y : Sleeper) → IsOther i y.worker → first_until i (zs ++ y ∷ []) ≡ first_until i zs
new_sleeper i [] y is = rw (not_asleep i y is) refl
new_sleeper i (x ∷ xs) y is = ap (λ m. if is_asleep i x then earlier (Some x.until) m else m) (new_sleeper i xs y is)

pub earlier_set : (i q until : ℕ) (zs : List Sleeper) (y : Sleeper) → IsOther i (get_or zs q no_sleeper).worker → IsOther i y.worker → is_none_earlier i until (set zs q y) ≡ is_none_earlier i until zs
earlier_set i q until [] y was is = refl
earlier_set i zero until (x ∷ xs) y was is = rw (not_asleep i x was, not_asleep i y is) refl
earlier_set i (suc q) until (x ∷ xs) y was is = ap (λ b. (not (is_asleep i x) || nat_le until x.until) && b) (earlier_set i q until xs y was is)

pub earlier_push : (i until : ℕ) (zs : List Sleeper) (y : Sleeper) → IsOther i y.worker → is_none_earlier i until (zs ++ y ∷ []) ≡ is_none_earlier i until zs
earlier_push i until [] y is = rw (not_asleep i y is) refl
earlier_push i until (x ∷ xs) y is = ap (λ b. (not (is_asleep i x) || nat_le until x.until) && b) (earlier_push i until xs y is)
