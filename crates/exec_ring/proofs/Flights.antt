-- The last of a list that passes a test.
use Rattle.std.{proofs.{Common.{◌≡◌, ℕ, zero, suc, ◌<◌, Bool, true, false, List, [], ◌∷◌, length, get_or, refl, arith, eqb, ◌&&◌}, lemmas.{Grind.common_steps, Bool.{false≢true, and_parts, eqb-true}}, Math.Bool.beq}, specs.List.list_any}
use Rattle.exec_ring.specs.Kernels.{last_place}
use Rattle.exec_request.specs.{contracts.window.Opcode.the_type, declared.window.Window.Window}
use denote.Enum.Bare.{sameb, same_true}

-- none passes where each fails
none_pass : {X : Type 0} (p : X → Bool) (xs : List X) → ((k : ℕ) (d : X) → k < length xs → p (get_or xs k d) ≡ false) → list_any p xs ≡ false
none_pass p [] fail = refl
none_pass p (x ∷ xs) fail = rw (fail 0 x (omega arith)) (none_pass p xs (λ k d inside. fail (suc k) d (omega arith)))

-- one does where one passes
one_passes : {X : Type 0} (p : X → Bool) (xs : List X) (i : ℕ) → i < length xs → ((d : X) → p (get_or xs i d) ≡ true) → list_any p xs ≡ true
one_passes p [] i inside here = absurd (omega arith)
one_passes p (x ∷ xs) zero inside here = rw (here x) refl
one_passes p (x ∷ xs) (suc i) inside here = grind (arith, common_steps, one_passes p xs i (omega arith) here)

-- the last that passes stands where one passes and none behind it
pub last_at : {X : Type 0} (p : X → Bool) (xs : List X) (i : ℕ) → i < length xs → ((d : X) → p (get_or xs i d) ≡ true) → ((k : ℕ) (d : X) → i < k → k < length xs → p (get_or xs k d) ≡ false) → i ≡ last_place p xs
last_at p [] i inside here behind = absurd (omega arith)
last_at p (x ∷ xs) zero inside here behind =
    let none : list_any p xs ≡ false = none_pass p xs (λ k d within. behind (suc k) d (omega arith) (omega arith)) in
    rw (here x, none) refl
last_at p (x ∷ xs) (suc i) inside here behind =
    let some : list_any p xs ≡ true = one_passes p xs i (omega arith) here in
    let rest : i ≡ last_place p xs = last_at p xs i (omega arith) here (λ k d more within. behind (suc k) d (omega arith) (omega arith)) in
    grind (arith, common_steps, some, rest)

-- where none passes it is how many there are
pub last_missed : {X : Type 0} (p : X → Bool) (xs : List X) → ((k : ℕ) (d : X) → k < length xs → p (get_or xs k d) ≡ false) → length xs ≡ last_place p xs
last_missed p [] fail = refl
last_missed p (x ∷ xs) fail =
    let here : p x ≡ false = fail 0 x (omega arith) in
    let rest : length xs ≡ last_place p xs = last_missed p xs (λ k d inside. fail (suc k) d (omega arith)) in
    grind (arith, common_steps, here, rest)

flags : (a b : Bool) → beq a b ≡ true → a ≡ b
flags true true is = refl
flags true false is = absurd (false≢true is)
flags false true is = absurd (false≢true is)
flags false false is = refl

pub same_windows : (a b : Window) → (sameb the_type a.kind b.kind && (eqb a.target b.target && (eqb a.offset b.offset && (eqb a.length b.length && (eqb a.chunks b.chunks && (beq a.hint b.hint && (beq a.direct b.direct && beq a.dsync b.dsync))))))) ≡ true → a ≡ b
same_windows a b all =
    let kind = and_parts _ _ all in
    let target = and_parts _ _ kind.1 in
    let offset = and_parts _ _ target.1 in
    let long = and_parts _ _ offset.1 in
    let chunks = and_parts _ _ long.1 in
    let hint = and_parts _ _ chunks.1 in
    let direct = and_parts _ _ hint.1 in
    λ i. record {
      kind = (same_true the_type tt a.kind b.kind kind.0) i;
      target = (eqb-true a.target b.target target.0) i;
      offset = (eqb-true a.offset b.offset offset.0) i;
      length = (eqb-true a.length b.length long.0) i;
      chunks = (eqb-true a.chunks b.chunks chunks.0) i;
      hint = (flags a.hint b.hint hint.0) i;
      direct = (flags a.direct b.direct direct.0) i;
      dsync = (flags a.dsync b.dsync direct.1) i;
    }
