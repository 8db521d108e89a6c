-- What edits of a list do to its tail from a position on.
use Rattle.std.proofs.{Common.{◌≡◌, ℕ, ◌+◌, ◌-◌, ◌≤◌, List, ◌++◌, length, take, drop, replicate, refl, ap, arith, length-append, length-drop, ◌∙◌, Result, Ok, Err, IsOk, is_ok, if◌then◌else◌}, lemmas.List.{drop-take, drop-append-le, drop_all, length-take, length-take-le, append-nil, take_all}}
use Rattle.exec_bufs.specs.Buffers.{resized}

-- a list that is cut, or filled up with zeros, at a place of its tail
pub drop-resized : (s n : ℕ) (xs : List ℕ) → s ≤ length xs → drop s (take (s + n) xs ++ replicate (s + n - length xs) 0) ≡ resized n (drop s xs)
drop-resized s n xs within =
    let inside : s ≤ length (take (s + n) xs) = omega (arith, length-take (s + n) xs) in
    let fill : s + n - length xs ≡ n - length (drop s xs) = omega (arith, length-drop s xs) in
    rw (drop-append-le s (take (s + n) xs) (replicate (s + n - length xs) 0) inside, drop-take s n xs, fill) refl

-- a list with another one written over it from a place on
abbrev pub written : ℕ → List ℕ → List ℕ → List ℕ
written s xs ws = ws ++ drop (length ws) (drop s xs)

-- a tail that is written over, in a list that keeps its length
pub drop-written : (s n : ℕ) (xs ws : List ℕ) → length xs ≡ n → s ≤ length xs → drop s (take n ((take s xs ++ written s xs ws) ++ drop (length (take s xs ++ written s xs ws)) xs)) ≡ take (length (drop s xs)) (written s xs ws)
drop-written s n xs ws len within =
    let front : length (take s xs) ≡ s = length-take-le s xs within in
    let tail : length (drop s xs) ≡ length xs - s = length-drop s xs in
    let new : length (written s xs ws) ≡ length ws + (length xs - s - length ws) = length-append ws _ ∙ ap (λ n. length ws + n) (length-drop (length ws) (drop s xs) ∙ ap (λ n. n - length ws) tail) in
    let all : length (take s xs ++ written s xs ws) ≡ s + length (written s xs ws) = length-append (take s xs) (written s xs ws) ∙ ap (λ n. n + length (written s xs ws)) front in
    let over : length xs ≤ length (take s xs ++ written s xs ws) = omega (arith, all, new, within) in
    let sum : n ≡ s + length (drop s xs) = omega (arith, tail, within, len) in
    let seam : drop s (take s xs ++ written s xs ws) ≡ written s xs ws = rw (drop-append-le s (take s xs) (written s xs ws) (omega (arith, front)), drop_all s (take s xs) (omega (arith, front))) refl in
    rw (drop_all (length (take s xs ++ written s xs ws)) xs over, append-nil (take s xs ++ written s xs ws), sum, drop-take s (length (drop s xs)) (take s xs ++ written s xs ws), seam) refl

-- a choice by whether a result is Ok, where it is
pub if_ok : {E X : Type 0} (r : Result (Unit {0}) E) (x y : X) → IsOk r → (if is_ok r then x else y) ≡ x
if_ok (Ok _) x y ok = refl
if_ok (Err _) x y ok = cc

-- a list that was written over from its start to its end
pub refilled_is : {X : Type 0} (n : ℕ) (ws xs : List X) → length ws ≡ n → length xs ≡ n → take n (ws ++ drop (length ws) xs) ≡ ws
refilled_is n ws xs new old =
    rw (drop_all (length ws) xs (omega (arith, new, old)), append-nil ws) (take_all n ws (omega (arith, new)))
