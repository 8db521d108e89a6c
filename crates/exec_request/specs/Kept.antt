-- What of a request its operations leave as it is: all but its cursor and its wish for the hint.
use Rattle.std.specs.Prelude.{ℕ, ◌+◌, ◌-◌, Option, Some, None}
use Rattle.exec_bufs.specs.Buffers.{Buffer, total}
use Rattle.exec_outcomes.specs.Outcomes.{Asked}
use Rattle.exec_request.specs.{Buffers.{length_of, moved_of}, Ways.{skipped, narrowed}, Views.{send_asked, recv_asked, read_asked, write_asked}, Requests.{asked_of, target_of, deadline_of}, declared.{buffers.WriteBuffers.{WriteBuffers, TheVariants.{Single, Vectored}}, connect.SockAddr.SockAddr, send.SendRequest.SendRequest, recv.RecvRequest.RecvRequest, read_at.ReadAtRequest.ReadAtRequest, write_at.WriteAtRequest.WriteAtRequest, request.Request.{Request, TheVariants.{Send, Recv, ReadAt, WriteAt, Sync, Connect}}}}

-- bytes of which none has gone
abbrev pub rewound : WriteBuffers → WriteBuffers
rewound (Single buf offset) = Single buf 0
rewound (Vectored bufs chunk offset remaining) = Vectored bufs 0 0 (total bufs)

-- what the kernel may use of a request
pub data Owned : Type 0 where
  -- nothing
  NoBytes : Owned
  -- bytes that go out, as they were before any had gone
  BytesOut : WriteBuffers → Owned
  -- a buffer that is filled; of a read that of its range
  BytesIn : Buffer → Owned

-- What is asked for; the socket, listener or open; the deadline; the place; what the kernel may use; the changes of the
-- open that a sync covers; and the address. The place of a receive is where it begins in its buffer, that of a read
-- where its range begins in the file, and that of a write where its bytes end in the file.
pub record Kept : Type 0 where
  pub asked : Asked
  pub target : ℕ
  pub deadline : Option ℕ
  pub place : ℕ
  pub owned : Owned
  pub seen : ℕ
  pub address : Option SockAddr

abbrev pub send_kept : SendRequest → Kept
send_kept s =
    record {
      asked = send_asked s;
      target = s.fd;
      deadline = s.deadline;
      place = 0;
      owned = BytesOut (rewound s.write);
      seen = 0;
      address = None;
    }

abbrev pub recv_kept : RecvRequest → Kept
recv_kept r =
    record {
      asked = recv_asked r;
      target = r.fd;
      deadline = r.deadline;
      place = r.start;
      owned = BytesIn r.buf;
      seen = 0;
      address = None;
    }

abbrev pub read_kept : ReadAtRequest → Kept
read_kept r =
    record {
      asked = read_asked r;
      target = r.file;
      deadline = None;
      place = r.offset + skipped r.way;
      owned = BytesIn (narrowed r.way r.buf);
      seen = 0;
      address = None;
    }

abbrev pub write_kept : WriteAtRequest → Kept
write_kept w =
    record {
      asked = write_asked w;
      target = w.file;
      deadline = None;
      place = w.offset + (length_of w.write - moved_of w.write);
      owned = BytesOut (rewound w.write);
      seen = w.seen;
      address = None;
    }

abbrev pub place_kept : Request → ℕ
place_kept (Recv r) = r.start
place_kept (ReadAt r) = r.offset + skipped r.way
place_kept (WriteAt w) = w.offset + (length_of w.write - moved_of w.write)
place_kept _ = 0

abbrev pub owned_by : Request → Owned
owned_by (Send s) = BytesOut (rewound s.write)
owned_by (Recv r) = BytesIn r.buf
owned_by (ReadAt r) = BytesIn (narrowed r.way r.buf)
owned_by (WriteAt w) = BytesOut (rewound w.write)
owned_by _ = NoBytes

abbrev pub seen_by : Request → ℕ
seen_by (WriteAt w) = w.seen
seen_by (Sync s) = s.seen
seen_by _ = 0

abbrev pub address_of : Request → Option SockAddr
address_of (Connect c) = Some c.address
address_of _ = None

abbrev pub kept_of : Request → Kept
kept_of r =
    record {
      asked = asked_of r;
      target = target_of r;
      deadline = deadline_of r;
      place = place_kept r;
      owned = owned_by r;
      seen = seen_by r;
      address = address_of r;
    }
