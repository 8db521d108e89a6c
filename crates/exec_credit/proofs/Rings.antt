-- There is room in each ring, and what it says that no flush of one is due.
use Rattle.std.{proofs.{Common.{◌≡◌, ℕ, zero, suc, ◌+◌, ◌<◌, ◌&&◌, ◌||◌, Bool, true, false, not, List, [], ◌∷◌, Some, None, if◌then◌else◌, refl, arith}, lemmas.Bool.{true≢false, false≢true, lt-ltb}}, specs.Prelude.{nat_le, nat_lt, slice_get}}
use Rattle.exec_machine.specs.{declared.config.Configuration.Configuration, Ranges.{ring_size, doubled_up_to}, Tests.is_empty}

-- there is some room in a ring
doubled : (k p n : ℕ) → 0 < p → 0 < doubled_up_to k p n
doubled zero p n more = more
doubled (suc k) p n more = by (nat_le n p) (doubled k (p + p) n (omega (arith, more)))
  where
    by : (b : Bool) → 0 < doubled_up_to k (p + p) n → 0 < (if b then p else doubled_up_to k (p + p) n)
    by true later = more
    by false later = later

pub some_ring : (c : Configuration) → nat_lt 0 (ring_size c) ≡ true
some_ring c = lt-ltb 0 (ring_size c) (doubled 15 1 c.ring (omega arith))

pub no_first : (xs : List ℕ) → slice_get xs 0 ≡ None → not (is_empty xs) ≡ false
no_first [] none = refl
no_first (x ∷ xs) none = let no : Some x ≡ None = none in absurd (cc)

-- where no flush is due, the wake poll stands or has a place
pub polled_of : (polled full cancels stages : Bool) → (polled || full) ≡ true → (full && (cancels || stages || not polled)) ≡ false → polled ≡ true
polled_of true full cancels stages some none = refl
polled_of false true true stages some none = absurd (true≢false none)
polled_of false true false true some none = absurd (true≢false none)
polled_of false true false false some none = absurd (true≢false none)
polled_of false false cancels stages some none = absurd (false≢true some)

pub full_of : (full more : Bool) → (full && more) ≡ true → full ≡ true
full_of true more h = refl
full_of false more h = absurd (false≢true h)
