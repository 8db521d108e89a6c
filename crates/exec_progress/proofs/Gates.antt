-- So many gates are looked at in a staging: no more than there are opens, and no more than there are requests, each of which waits at one.
use Rattle.std.{proofs.{Common.{◌≡◌, ℕ, suc, ◌+◌, ◌≤◌, ◌<◌, ◌==◌, Bool, true, false, ◌&&◌, ◌||◌, List, [], ◌∷◌, length, refl, arith}, lemmas.Bool.{cases_Bool, eqb-true, le-leb}}, specs.{Prelude.nat_le, List.list_any}}
use Rattle.exec_machine.specs.{World.{Common, Open}, Tests.is_gated, declared.state.Request.Request}
use Rattle.exec_moves.specs.{Counts.{count_numbered, gates_from, one_if}, Submit.waits_at}
use Rattle.exec_progress.proofs.{Entering.at_most_one, RingWaits.never}

module _ {X : Type 0} where
  sums : (f g h : ℕ → X → Bool) → ((n : ℕ) (x : X) → one_if (f n x) ≤ one_if (g n x) + one_if (h n x)) → (n : ℕ) (xs : List X) → count_numbered f n xs ≤ count_numbered g n xs + count_numbered h n xs
  sums f g h le n [] = omega arith
  sums f g h le n (x ∷ xs) = omega (arith, le n x, sums f g h le (suc n) xs)

  none : (f : ℕ → X → Bool) → ((n : ℕ) (x : X) → one_if (f n x) ≡ 0) → (n : ℕ) (xs : List X) → count_numbered f n xs ≡ 0
  none f off n [] = refl
  none f off n (x ∷ xs) = omega (arith, off n x, none f off (suc n) xs)

  at_most : (f : ℕ → X → Bool) (n : ℕ) (xs : List X) → count_numbered f n xs ≤ length xs
  at_most f n [] = omega arith
  at_most f n (x ∷ xs) = omega (arith, at_most_one (f n x), at_most f (suc n) xs)

off : (a b : Bool) → one_if (a && b && false) ≡ 0
off = grind arith

either : (a b c : Bool) → one_if (a && (b || c)) ≤ one_if (a && c) + one_if b
either = grind arith

fewer : (a b c : Bool) → c ≡ true → one_if (a && b) ≤ one_if (c && b) + one_if (c && false)
fewer true b c h = rw h (omega arith)
fewer false b c h = omega arith

-- ONE REQUEST waits at one gate

module _ (i : ℕ) (r : Request) where
  elsewhere : (n : ℕ) → (r.operation.target == n) ≡ false → one_if (waits_at i n r) ≡ 0
  elsewhere n h = rw h (off (r.worker == i) (is_gated r.phase))

  before : (n : ℕ) (os : List Open) → r.operation.target < n → count_numbered (λ file o. waits_at i file r) n os ≡ 0
  before n [] h = refl
  before n (o ∷ os) h = grind (arith, cases_Bool, eqb-true, elsewhere, before (suc n) os (omega (arith, h)))

  at_one : (n : ℕ) (os : List Open) → count_numbered (λ file o. waits_at i file r) n os ≤ 1
  at_one n [] = omega arith
  at_one n (o ∷ os) = grind (arith, cases_Bool, at_most_one, before, eqb-true, elsewhere, at_one (suc n) os)

for_each : (i : ℕ) (rs : List Request) (n : ℕ) (os : List Open) → count_numbered (λ file o. nat_le 0 file && list_any (waits_at i file) rs) n os ≤ length rs
for_each i [] n os = omega (arith, none (λ file (o : Open). nat_le 0 file && false) (λ file o. never (nat_le 0 file)) n os)
for_each i (r ∷ rs) n os =
    omega (
      arith,
      sums (λ file (o : Open). nat_le 0 file && (waits_at i file r || list_any (waits_at i file) rs)) (λ file o. nat_le 0 file && list_any (waits_at i file) rs) (λ file o. waits_at i file r)
          (λ file o. either (nat_le 0 file) (waits_at i file r) (list_any (waits_at i file) rs)) n os,
      for_each i rs n os,
      at_one i r n os,
    )

-- IN ALL

pub gates_within : (i from : ℕ) (s : Common) → gates_from i from s ≤ gates_from i 0 s
gates_within i from s =
    omega (
      arith,
      sums (λ file (o : Open). nat_le from file && list_any (waits_at i file) s.requests) (λ file o. nat_le 0 file && list_any (waits_at i file) s.requests) (λ file o. nat_le 0 file && false)
          (λ file o. fewer (nat_le from file) (list_any (waits_at i file) s.requests) (nat_le 0 file) (le-leb 0 file (omega arith))) 0 s.opens,
      none (λ file (o : Open). nat_le 0 file && false) (λ file o. never (nat_le 0 file)) 0 s.opens,
    )

pub gates_opened : (i : ℕ) (s : Common) → gates_from i 0 s ≤ length s.opens
gates_opened i s = at_most (λ file o. nat_le 0 file && list_any (waits_at i file) s.requests) 0 s.opens

pub gates_asked : (i : ℕ) (s : Common) → gates_from i 0 s ≤ length s.requests
gates_asked i s = for_each i s.requests 0 s.opens
