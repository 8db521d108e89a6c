-- A line has one first field, and a script one first word.
use Rattle.std.{proofs.{Common.{◌≡◌, ◌≢◌, ℕ, ◌<◌, List, [], ◌∷◌, ◌++◌, refl, sym, ap, ◌∙◌, arith, length, take, drop, Bool, true, false, not, eqb, eq-eqb, Option, Some, None, IfSome, IfNone}, lemmas.{Bool.{false≢true, eqb-true, not-true, not-false, Decides.Decides-eqb}, List.{nil_from_length, take-append-drop}, Slice.Eq.slice_eq-Decides}, Math.Seq.take-append_seam}, specs.Cmp.Lexicographic.pointwise}
use Rattle.exec_text.specs.Reading.{IsCut, NoSpace, IsField}

pub cut_same : (f g r s : List ℕ) → NoSpace f → NoSpace g → IsCut r → IsCut s → f ++ r ≡ g ++ s → (f ≡ g) × (r ≡ s)
cut_same [] [] r s nf ng cr cs e = (refl, e)
cut_same [] (y ∷ g) [] s nf ng cr cs e = cc
cut_same [] (y ∷ g) (x ∷ r) s nf ng cr cs e = absurd (ng.0 (cc))
cut_same (x ∷ f) [] r [] nf ng cr cs e = cc
cut_same (x ∷ f) [] r (y ∷ s) nf ng cr cs e = absurd (nf.0 (cc))
cut_same (x ∷ f) (y ∷ g) r s nf ng cr cs e =
    let h = cut_same f g r s nf.1 ng.1 cr cs (cc) in (cc, h.1)

pub field_same : (b f g r s : List ℕ) → IsField b f r → IsField b g s → (f ≡ g) × (r ≡ s)
field_same b f g r s h k = cut_same f g r s h.no_space k.no_space h.cut k.cut (sym h.spelled ∙ k.spelled)

-- what `==` says of two slices of bytes
pub told_equal : (xs ys zs : List ℕ) (r : Bool) → r ≡ pointwise eqb xs ys → ys ≡ zs → r ≡ true → xs ≡ zs
told_equal xs ys zs r h e t = (slice_eq-Decides Decides-eqb xs ys r h).0 t ∙ e

pub told_unequal : (xs ys zs : List ℕ) (r : Bool) → r ≡ pointwise eqb xs ys → ys ≡ zs → r ≡ false → xs ≢ zs
told_unequal xs ys zs r h e t s = false≢true (sym t ∙ (slice_eq-Decides Decides-eqb xs ys r h).1 (s ∙ sym e))

pub told_some : (xs : List ℕ) (r : Bool) → r ≡ eqb (length xs) 0 → r ≡ false → 0 < length xs
told_some [] r h e = absurd (false≢true (sym e ∙ h ∙ eq-eqb 0 0 refl))
told_some (x ∷ xs) r h e = omega arith

pub told_none : (xs : List ℕ) (r : Bool) → r ≡ eqb (length xs) 0 → r ≡ true → xs ≡ []
told_none xs r h e = nil_from_length xs (eqb-true (length xs) 0 (sym h ∙ e))

pub none_then : {X P Q : Type 0} (o : Option X) → (P → Q) → IfNone o P → IfNone o Q
none_then None f h = f h
none_then (Some x) f h = tt

pub some_then : {X : Type 0} {P Q : X → Type 0} (o : Option X) → ((x : X) → P x → Q x) → IfSome o P → IfSome o Q
some_then None f h = tt
some_then (Some x) f h = f x h

-- what `!=` says of two slices of bytes
pub told_other : (xs ys zs : List ℕ) (r : Bool) → r ≡ not (pointwise eqb xs ys) → ys ≡ zs → r ≡ true → xs ≢ zs
told_other xs ys zs r h e t = told_unequal xs ys zs (pointwise eqb xs ys) refl e (not-true (pointwise eqb xs ys) (sym h ∙ t))

pub told_same : (xs ys zs : List ℕ) (r : Bool) → r ≡ not (pointwise eqb xs ys) → ys ≡ zs → r ≡ false → xs ≡ zs
told_same xs ys zs r h e t = told_equal xs ys zs (pointwise eqb xs ys) refl e (not-false (pointwise eqb xs ys) (sym h ∙ t))

-- what `strip_prefix` says of a prefix
pub stripped : (s p q rest : List ℕ) → pointwise eqb (take (length p) s) p ≡ true → rest ≡ drop (length p) s → p ≡ q → s ≡ q ++ rest
stripped s p q rest t e h =
    sym (take-append-drop (length p) s) ∙ ap (λ (x : List ℕ). x ++ drop (length p) s) (told_equal (take (length p) s) p q (pointwise eqb (take (length p) s) p) refl h t)
    ∙ ap (λ (x : List ℕ). q ++ x) (sym e)

pub unstripped : (s p q rest : List ℕ) → pointwise eqb (take (length p) s) p ≡ false → p ≡ q → s ≢ q ++ rest
unstripped = grind (arith, take-append_seam, told_unequal)
