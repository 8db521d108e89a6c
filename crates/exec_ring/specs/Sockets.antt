-- The bytes of a socket.
use Rattle.std.specs.Prelude.{ℕ, ◌-◌, ◌++◌, List, [], take, drop}
use Rattle.exec_bufs.specs.Buffers.{resized}

pub record SocketState : Type 0 where
  -- what its peer sent and it didn't receive
  pub fed : List ℕ
  -- what it sent, and what it received
  pub sent : List ℕ
  pub received : List ℕ
  -- for how many more bytes of each there is room
  pub sent_room : ℕ
  pub received_room : ℕ

-- no byte moved, and there is room for none
abbrev pub nothing_moved : SocketState
nothing_moved = record { fed = []; sent = []; received = []; sent_room = 0; received_room = 0 }

-- it sent the first n of these bytes, in room that it had
abbrev pub after_send : ℕ → List ℕ → SocketState → SocketState
after_send n bytes s = record s { sent = s.sent ++ take n bytes; sent_room = s.sent_room - n }

-- it received n bytes, in room that it had: the next ones, and zeros after their end
abbrev pub after_receive : ℕ → SocketState → SocketState
after_receive n s =
    record s { fed = drop n s.fed; received = s.received ++ resized n s.fed; received_room = s.received_room - n }
