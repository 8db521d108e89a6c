-- Where nothing is due, and nothing of a request is to be done.
use Rattle.std.{proofs.{Common.{◌≡◌, ℕ, ◌==◌, ◌&&◌, ◌||◌, Bool, true, false, not, List, [], ◌∷◌, get_or, Option, Some, if◌then◌else◌, refl, arith}, lemmas.Bool.{false≢true, and_right}}, specs.{Prelude.nat_le, List.{list_any, list_all}}}
use Rattle.exec_machine.specs.{declared.state.{Request.Request, Sleeper.Sleeper}, Deadlines.{earlier, first_timer, first_until, is_after, is_due}, Tests.{is_asleep, is_resolved}, World.{no_request, no_sleeper}}
pub use Rattle.std.proofs.lemmas.Bool.{false_from_ne_true}

-- NOTHING IS DUE

pub after_earlier : (clock : ℕ) (a b : Option ℕ) → is_after clock (earlier a b) ≡ true → (is_after clock a ≡ true) × (is_after clock b ≡ true)
after_earlier = grind arith

-- whether or not it waits for sleepers too
pub first_ahead : (clock : ℕ) (b : Bool) (timer until : Option ℕ) → is_after clock (if b then earlier timer until else timer) ≡ true → is_after clock timer ≡ true
first_ahead = grind (arith, after_earlier)

pub none_due : (i clock : ℕ) (rs : List Request) → is_after clock (first_timer i rs) ≡ true → (k : ℕ) → is_due i clock (get_or rs k no_request) ≡ false
none_due i clock [] h k = and_right (0 == i) false refl
none_due i clock (r ∷ rs) h k = by (r.worker == i) refl h (λ h j. none_due i clock rs h j) k
  where
    by : (b : Bool) → (r.worker == i) ≡ b → is_after clock (if b then earlier r.timer (first_timer i rs) else first_timer i rs) ≡ true
        → (is_after clock (first_timer i rs) ≡ true → (j : ℕ) → is_due i clock (get_or rs j no_request) ≡ false) → (k : ℕ) → is_due i clock (get_or (r ∷ rs) k no_request) ≡ false
    by = grind arith

no_bed : (b : Bool) → (b && not true && not true) ≡ false
no_bed = grind arith

pub none_slept : (i clock : ℕ) (zs : List Sleeper) → is_after clock (first_until i zs) ≡ true → (k : ℕ) → (is_asleep i (get_or zs k no_sleeper) && nat_le (get_or zs k no_sleeper).until clock) ≡ false
none_slept i clock [] h k = rw (no_bed (0 == i)) refl
none_slept i clock (z ∷ zs) h k = by (is_asleep i z) refl h (λ h j. none_slept i clock zs h j) k
  where
    by : (b : Bool) → is_asleep i z ≡ b → is_after clock (if b then earlier (Some z.until) (first_until i zs) else first_until i zs) ≡ true
        → (is_after clock (first_until i zs) ≡ true → (j : ℕ) → (is_asleep i (get_or zs j no_sleeper) && nat_le (get_or zs j no_sleeper).until clock) ≡ false)
        → (k : ℕ) → (is_asleep i (get_or (z ∷ zs) k no_sleeper) && nat_le (get_or (z ∷ zs) k no_sleeper).until clock) ≡ false
    by = grind arith

-- LISTS AND REQUESTS

-- what is not to be done of a request, one after another
pub eight : (a b e d f g h i : Bool) → a ≡ false → b ≡ false → e ≡ false → d ≡ false → f ≡ false → g ≡ false → h ≡ false → i ≡ false → (a || b || e || d || f || g || h || i) ≡ false
eight = grind arith

pub enroll_case : (a b t d : Bool) → (not a && not b && t && not d) ≡ true → (a || b || not t || d) ≡ false
enroll_case = grind arith

-- where a worker has a request that isn't over, not each of its own is
pub not_all : (i : ℕ) (rs : List Request) → list_any (λ r. (r.worker == i) && not (is_resolved r.phase)) rs ≡ true → list_all (λ r. not (r.worker == i) || is_resolved r.phase) rs ≡ false
not_all i [] h = absurd (false≢true h)
not_all i (r ∷ rs) h = grind (arith, not_all i rs)
