-- What a buffer is once a borrow of its bytes is over.
use Rattle.std.specs.{Prelude.{ℕ, List, ◌++◌, length, take, drop}, Borrow.{Lends, MutBor, Fml, Array, u8}}
use Rattle.exec_bufs.specs.{Buffers.Buffer, contracts.buf.IoBufMut.the_row}

-- a buffer with these bytes; a slice keeps its length, and so does the buffer
abbrev pub with_bytes : Buffer → List ℕ → Buffer
with_bytes buffer bytes = record buffer { bytes = take (length buffer.bytes) (bytes ++ drop (length bytes) buffer.bytes) }

-- the buffer ends with the bytes that were last behind the slice
abbrev pub LendsBytes : MutBor Buffer → MutBor (List ℕ) → Fml
LendsBytes buffer slice = Lends the_row (Array u8 0) buffer slice (with_bytes buffer.now)
