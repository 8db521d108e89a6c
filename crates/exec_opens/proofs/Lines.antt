-- A place in the line of an open that was made, and given up again.
use Rattle.std.{proofs.Common.{◌≡◌, ℕ, ◌+◌, ◌-◌, ◌<◌, zero, suc, List, [], ◌∷◌, set, slice_get, Option, Some, None, refl, ap, arith}, specs.Option.IfSome}
use Rattle.exec_opens.specs.Opens.{OpenState, open_at, open_named, with_open, with_open_in, with_named, placed, displaced}

pub set_there : (opens : List OpenState) (file : ℕ) (o o' : OpenState) → slice_get opens file ≡ Some o → slice_get (set opens file o') file ≡ Some o'
set_there [] file o o' is = absurd (cc)
set_there (x ∷ opens) zero o o' is = refl
set_there (x ∷ opens) (suc file) o o' is = set_there opens file o o' is

set_back : (opens : List OpenState) (file : ℕ) (o o' : OpenState) → slice_get opens file ≡ Some o → set (set opens file o') file o ≡ opens
set_back [] file o o' is = absurd (cc)
set_back (x ∷ opens) zero o o' is = let same : x ≡ o = cc in rw same refl
set_back (x ∷ opens) (suc file) o o' is = ap (λ (rest : List OpenState). x ∷ rest) (set_back opens file o o' is)

back_of : (o : OpenState) → displaced (placed o) ≡ o
back_of o = let same : (o.coming + 1) - 1 ≡ o.coming = omega arith in ap (λ (n : ℕ). record o { coming = n }) same

given_up : (opens : List OpenState) (file : ℕ) (o : Option OpenState) → open_at opens file ≡ o → with_open (with_open_in opens file placed o) file displaced ≡ opens
given_up = grind (arith, set_there, back_of, set_back)

pub placed_back : (opens : List OpenState) (gate : Option ℕ) → with_named (with_named opens gate placed) gate displaced ≡ opens
placed_back opens None = refl
placed_back opens (Some file) = given_up opens file (open_at opens file) refl

pub placed_there : (opens : List OpenState) (gate : Option ℕ) → IfSome (open_named (with_named opens gate placed) gate) (λ o. 0 < o.coming)
placed_there = grind (arith, set_there)
