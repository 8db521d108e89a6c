-- The next power of two: how many operations a ring holds, and how many slots a wheel has.
use Rattle.std.{proofs.{Common.{◌≡◌, ℕ, zero, suc, ◌+◌, ◌-◌, ◌*◌, ◌/◌, ◌^◌, ◌<◌, ◌≤◌, Bool, false, if◌then◌else◌, Some, None, map, sym, ap, subst, ◌∙◌, arith}, Math.{Arith.digits_div, Pow.pow_pos, Nat.{pow-le-pow_right, pow-suc, two-pow-succ}}, lemmas.{Nat.{div-add-mod', mod_below}, Bool.{Decides.nat_tests, leb-true, le-leb}}}, specs.{Prelude.{max, ◌%◌, ◌||◌, nat_le, find}, List.range_with_len, Int.{IsPowerOfTwo, div_ceil}}}
use Rattle.exec_time.specs.Layouts.{sizes, slots_needed, is_out_of_range, slots_of}
use Rattle.exec_machine.specs.{declared.config.Configuration.Configuration, Ranges.{doubled_up_to, ticks_needed, horizon, wheel_slots}}
use Rattle.exec_parts.specs.{Words.LONGEST_TIMEOUT, Roles.MayBegin}

-- a power of two that is n or more, and of which the half is less, is the first such
least : (j m n : ℕ) → j ≤ m → n ≤ 2 ^ j → 2 ^ m / 2 < max 1 n → j ≡ m
least j zero n le below half = omega (arith, le)
least j (suc m) n le below half =
    let up : j < suc m → 2 ^ j ≤ 2 ^ m = λ lt. pow-le-pow_right (omega arith) (omega (arith, lt)) in
    grind (arith, up, pow-suc 2 m, pow_pos m)

doubled_is : (more j m n : ℕ) → j ≤ m → n ≤ 2 ^ m → 2 ^ m / 2 < max 1 n → n ≤ 2 ^ (j + more) → doubled_up_to more (2 ^ j) n ≡ 2 ^ m
doubled_is zero j m n le above half below = ap (λ k. 2 ^ k) (least j m n le (subst (λ k. n ≤ 2 ^ k) (omega arith) below) half)
doubled_is (suc more) j m n le above half below =
    let apart : j ≡ m → 2 ^ j ≡ 2 ^ m = ap (λ k. 2 ^ k) in
    let on : 2 ^ (j + suc more) ≡ 2 ^ (suc j + more) = ap (λ k. 2 ^ k) (omega arith) in
    grind (arith, two-pow-succ j, apart, on, least j m n, doubled_is more (suc j) m n, leb-true)

pub power_is : (most n r : ℕ) → IsPowerOfTwo r → n ≤ r → r / 2 < max 1 n → n ≤ 2 ^ most → r ≡ doubled_up_to most 1 n
power_is most n r (k, is) above half below =
    is ∙ sym (doubled_is most 0 k n (omega arith) (rw is at above) (rw is at half) (subst (λ j. n ≤ 2 ^ j) (omega arith) below))

-- THE LAYOUT OF THE WHEEL

found : (more j n : ℕ) → n ≤ 2 ^ (j + more) → find (λ size. nat_le n size) (map (λ k. 2 ^ k) (range_with_len j (suc more))) ≡ Some (doubled_up_to more (2 ^ j) n)
found zero j n fits = ap (λ (b : Bool). if b then Some (2 ^ j) else None) (le-leb n (2 ^ j) (subst (λ k. n ≤ 2 ^ k) (omega arith) fits))
found (suc more) j n fits =
    let on : 2 ^ (j + suc more) ≡ 2 ^ (j + 1 + more) = ap (λ k. 2 ^ k) (omega arith) in grind (arith, two-pow-succ j, on, found more (j + 1) n)

-- a quotient that is rounded up, in two ways
rounded_up : (x y : ℕ) → 1 ≤ y → div_ceil x y ≡ (x + (y - 1)) / y
rounded_up x y some =
    let low : (x / y * y + (y - 1)) / y ≡ x / y = digits_div (x / y) (omega (arith, some)) in
    let high : ((x / y + 1) * y + (x % y - 1)) / y ≡ x / y + 1 = digits_div (x / y + 1) (omega (arith, mod_below x y some)) in
    grind (arith, low, high, some, div-add-mod' x y)

in_time : (h k : ℕ) → 1 ≤ h → h ≤ LONGEST_TIMEOUT → 1 ≤ k → k ≤ LONGEST_TIMEOUT → (is_out_of_range h || is_out_of_range k) ≡ false
in_time h k some few some' few' = grind (arith, nat_tests)

pub slots_of_wheel : (c : Configuration) → MayBegin c → slots_of (horizon c) c.tick ≡ Some (wheel_slots c)
unfolding slots_of
slots_of_wheel c r =
    let h = horizon c in
    let needed : slots_needed h c.tick ≡ ticks_needed c = ap (λ n. n + 2) (rounded_up h c.tick r.tick.0) in
    ap (λ (b : Bool). if b then None else find (λ size. nat_le (slots_needed h c.tick) size) sizes) (in_time h c.tick (omega (arith, r.connect.0)) (omega (arith, r.connect.1, r.rw.1)) r.tick.0 r.tick.1)
    ∙ found 20 0 (slots_needed h c.tick) (omega (arith, needed, r.layout)) ∙ ap (λ n. Some (doubled_up_to 20 1 n)) needed
