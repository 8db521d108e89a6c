-- What a loop over a source or a sink keeps: lemmas for the crates that read and write in pieces.
use Rattle.std.{proofs.{Common.{◌≡◌, ℕ, ◌+◌, List, take, drop, Option, append_assoc, arith}, Math.Seq.take-add}, specs.Io.KnownBytes.append_known}

-- a sink that was given the front of a piece, and then n bytes of the rest, was given a longer front
pub given_more : (known : Option (List ℕ)) (at n : ℕ) (piece : List ℕ) → append_known (append_known known (take at piece)) (take n (drop at piece)) ≡ append_known known (take (at + n) piece)
given_more = grind (arith, append_assoc, take-add)
