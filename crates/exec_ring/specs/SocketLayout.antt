-- How the bytes of a socket lie in its vectors.
use Rattle.std.specs.{Prelude.{◌+◌, ◌≤◌, length, drop}, Vec.vec_capacity}
use Rattle.exec_ring.specs.{declared.socket.Socket.TheInside.Inside, Sockets.SocketState}

abbrev pub socket_in : Inside → SocketState
socket_in s =
    record {
      fed = drop s.taken s.fed.items;
      sent = s.sent.items;
      received = s.received.items;
      sent_room = s.sent_room;
      received_room = s.received_room;
    }

pub record HasSocketRoom (s : Inside) : Type 0 where
  pub taken : s.taken ≤ length s.fed.items
  pub sent : length s.sent.items + s.sent_room ≤ vec_capacity s.sent
  pub received : length s.received.items + s.received_room ≤ vec_capacity s.received
