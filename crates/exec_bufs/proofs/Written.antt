-- What a write through the slice of a buffer leaves: for the crates that write into one.
use Rattle.std.proofs.{Common.{◌≡◌, ℕ, List, length, ap, arith}, lemmas.List.{append-nil, drop_all, take_all}}
use Rattle.exec_bufs.specs.{Buffers.Buffer, Lending.with_bytes}

-- a buffer whose bytes were written over, as many as there were
pub with_bytes_is : (b : Buffer) (bytes : List ℕ) → length bytes ≡ length b.bytes → with_bytes b bytes ≡ record b { bytes = bytes }
with_bytes_is b bytes same =
    let with : List ℕ → Buffer = λ bs. record { bytes = bs; capacity = b.capacity } in
    ap with (rw (drop_all (length bytes) b.bytes (omega (arith, same)), append-nil bytes) (take_all (length b.bytes) bytes (omega (arith, same))))
