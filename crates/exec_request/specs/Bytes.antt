-- The bytes that windows move.
use Rattle.std.specs.{Prelude.{ℕ, ◌+◌, List, [], ◌++◌, length, take, drop}, List.concat}
use Rattle.exec_bufs.specs.Buffers.{Buffer, resized}
use Rattle.exec_request.specs.{Buffers.{owners_of, moved_of, batch_of}, declared.{buffers.WriteBuffers.WriteBuffers, request.Request.{Request, TheVariants.{Send, Recv, ReadAt, WriteAt}}}}

-- the next bytes of buffers that one operation takes
abbrev pub batch_bytes : WriteBuffers → List ℕ
batch_bytes w = take (batch_of w) (drop (moved_of w) (concat (owners_of w)))

-- a buffer with these bytes from a place on; where it ends before the place, zeros come between
abbrev pub filled_at : ℕ → List ℕ → Buffer → Buffer
filled_at place bytes b = record b { bytes = resized place b.bytes ++ (bytes ++ drop (place + length bytes) b.bytes) }

-- the bytes that the next window of a send or a write moves
abbrev pub window_bytes : Request → List ℕ
window_bytes (Send s) = batch_bytes s.write
window_bytes (WriteAt w) = batch_bytes w.write
window_bytes _ = []

-- the buffer that a receive or a read fills, and where its next window begins in it
abbrev pub lent_of : Request → Buffer
lent_of (Recv r) = r.buf
lent_of (ReadAt r) = r.buf
lent_of _ = record { bytes = []; capacity = 0 }

abbrev pub filled_of : Request → ℕ
filled_of (Recv r) = r.offset
filled_of (ReadAt r) = r.read
filled_of _ = 0
