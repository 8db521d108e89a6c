-- What moves where an operation of the ring in memory ends.
use Rattle.std.specs.Prelude.{◌≡◌, ℕ, true, ◌+◌, ◌^◌, ◌<◌, ◌≤◌, take, Option, Some, None}
use Rattle.exec_bufs.specs.Buffers.{resized}
use Rattle.exec_outcomes.specs.declared.outcome.OpResult.{OpResult, TheVariants.{Count, Errno}}
use Rattle.exec_request.specs.{declared.{window.{Opcode.{Opcode, TheVariants.{Send, Recv, Read, Write}}, Window.Window}, request.Request.Request}, Requests.window_by, Bytes.window_bytes}
use Rattle.exec_ring.specs.{declared.{completion.Submission.Submission, store.Store.Store}, Files.values_from, Fillings.Fills, Sockets.{after_send, after_receive}, Stores.{socket_of, store_byte, HasStretch, SocketBecomes, WritesOver}}

-- the store has the room that n bytes of a window need
abbrev pub HasRoomBy : Opcode → Window → ℕ → Store → Type 0
HasRoomBy Send w n st = n ≤ (socket_of st w.target).sent_room
HasRoomBy Recv w n st = n ≤ (socket_of st w.target).received_room
HasRoomBy Write w n st = HasStretch st w.target w.offset n
HasRoomBy _ w n st = Unit {0}

-- the request has this window, which ends within 64 bits, and there is room for n of its bytes
pub record IsReadyBy (kind : Opcode) (w : Window) (n : ℕ) (r : Request) (st : Store) : Type 0 where
  pub window : window_by true r ≡ w
  pub ends : w.offset + w.length < 2 ^ 64
  pub room : HasRoomBy kind w n st

abbrev pub IsReadyFor : Window → OpResult → Request → Store → Type 0
IsReadyFor w (Count n) r st = IsReadyBy w.kind w n r st
IsReadyFor w (Errno c) r st = Unit {0}

abbrev pub IsReady : Option Submission → OpResult → Request → Store → Type 0
IsReady None n r st = Unit {0}
IsReady (Some e) n r st = IsReadyFor e.window n r st

-- n bytes of a window moved, and nothing else changed
abbrev pub MovesBy : Opcode → Window → ℕ → Request → Request → Store → Store → Type 0
MovesBy Send w n r r' st st' = SocketBecomes st st' w.target (after_send n (window_bytes r) (socket_of st w.target)) × (r' ≡ r)
MovesBy Recv w n r r' st st' = SocketBecomes st st' w.target (after_receive n (socket_of st w.target)) × Fills r r' (resized n (socket_of st w.target).fed)
MovesBy Read w n r r' st st' = (st' ≡ st) × Fills r r' (values_from (store_byte st w.target) w.offset n)
MovesBy Write w n r r' st st' = WritesOver st st' w.target w.offset (take n (window_bytes r)) × (r' ≡ r)
MovesBy _ w n r r' st st' = (st' ≡ st) × (r' ≡ r)

-- the bytes moved that a result counts, which is none where it is an error number
abbrev pub MovesBytes : Window → OpResult → Request → Request → Store → Store → Type 0
MovesBytes w (Count n) r r' st st' = MovesBy w.kind w n r r' st st'
MovesBytes w (Errno c) r r' st st' = (st' ≡ st) × (r' ≡ r)

abbrev pub Moves : Option Submission → OpResult → Request → Request → Store → Store → Type 0
Moves None n r r' st st' = ⊥
Moves (Some e) n r r' st st' = MovesBytes e.window n r r' st st'
