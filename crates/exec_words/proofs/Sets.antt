-- What a comparison of two sets of workers says.
use Rattle.std.{proofs.{Common.{◌≡◌, ◌≢◌, Bool, true, false, not, List, refl, arith}, Math.Bool.beq, lemmas.Slice.Eq.slice_eq-Decides}, specs.Cmp.{booleans_Decides, Lexicographic.pointwise}}

pub same_sets : (a b : List Bool) (differ : Bool) → differ ≡ not (pointwise beq a b) → differ ≡ false → a ≡ b
same_sets a b differ test is = grind (arith, slice_eq-Decides booleans_Decides a b (pointwise beq a b) refl)

pub other_sets : (a b : List Bool) (differ : Bool) → differ ≡ not (pointwise beq a b) → differ ≡ true → a ≢ b
other_sets a b differ test is same = grind (arith, slice_eq-Decides booleans_Decides a b (pointwise beq a b) refl)
