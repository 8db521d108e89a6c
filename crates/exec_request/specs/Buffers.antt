-- The buffers of a send or a write, and how much of them has gone.
use Rattle.std.specs.Prelude.{ℕ, Bool, ◌+◌, ◌-◌, ◌^◌, ◌==◌, ◌&&◌, ◌||◌, List, [], ◌∷◌, length, take, drop, min, nat_le, nat_lt, slice_index_or}
use Rattle.exec_bufs.specs.Buffers.{total}
use Rattle.exec_request.specs.declared.buffers.WriteBuffers.{WriteBuffers, TheVariants.{Single, Vectored}}

-- the chunks, those that have gone too
abbrev pub owners_of : WriteBuffers → List (List ℕ)
owners_of (Single buf offset) = buf ∷ []
owners_of (Vectored bufs chunk offset remaining) = bufs

-- how many bytes there are
abbrev pub length_of : WriteBuffers → ℕ
length_of (Single buf offset) = length buf
length_of (Vectored bufs chunk offset remaining) = total bufs

-- how many of them have gone
abbrev pub moved_of : WriteBuffers → ℕ
moved_of (Single buf offset) = offset
moved_of (Vectored bufs chunk offset remaining) = total bufs - remaining

-- a place in a chunk: at its start, or before one of its bytes. The end of a chunk is the start of the next, and past
-- the last chunk there are starts alone
abbrev pub is_within : ℕ → List ℕ → Bool
is_within offset chunk = (offset == 0) || nat_lt offset (length chunk)

-- what went lies before the place that is told: whole chunks, and a part of the next
abbrev pub is_sound : WriteBuffers → Bool
is_sound (Single buf offset) = nat_le offset (length buf)
is_sound (Vectored bufs chunk offset remaining) =
    ((total (take chunk bufs) + offset) + remaining == total bufs) && is_within offset (slice_index_or bufs chunk [])

-- the most that one operation takes: of one buffer its rest, of several the rest of their next 1,024, and never more
-- than 2^32 - 1 bytes
abbrev pub batch_of : WriteBuffers → ℕ
batch_of (Single buf offset) = min (length buf - offset) (2 ^ 32 - 1)
batch_of (Vectored bufs chunk offset remaining) = min (total (take 1024 (drop chunk bufs)) - offset) (2 ^ 32 - 1)

-- in how many chunks the bytes of one operation lie
abbrev pub chunks_of : WriteBuffers → ℕ
chunks_of (Single buf offset) = 1
chunks_of (Vectored bufs chunk offset remaining) = min (length bufs - chunk) 1024
