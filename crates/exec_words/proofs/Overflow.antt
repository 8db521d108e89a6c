-- How a full queue is taken apart.
use Rattle.std.proofs.{Common.{◌≡◌, ℕ, ◌-◌, ◌^◌, ◌<◌, List, [], ◌++◌, length, take, drop, false, arith}, lemmas.{List.{length-drop, length-take}, Bool.Decides.nat_tests}}
use Rattle.exec_words.specs.Head.{is_spent}

-- a queue that isn't spent is below its end
pub unspent_below : (tail : ℕ) → is_spent tail ≡ false → tail < 2 ^ 55 - 512
unspent_below tail is = grind (arith, nat_tests)

module _ {T : Type 0} where
  -- half of 256 values is left, and half is taken
  pub half_left : (values left : List T) → left ≡ drop 128 values → length values ≡ 256 → length left ≡ 128
  half_left values left is full = rw is (omega (arith, length-drop 128 values))

  pub half_taken : (values held kept : List T) → kept ≡ held ++ take 128 values → held ≡ [] → length values ≡ 256 → length kept ≡ 128
  half_taken values held kept is none full = rw (is, none) (omega (arith, length-take 128 values))

  pub half_gone : (left gone : List T) (rest : ℕ) → gone ≡ drop rest left → rest ≡ length left → length gone ≡ 0
  half_gone left gone rest is all = rw is (omega (arith, length-drop rest left))
