-- What requests ask for, how far they have come, and the windows of their next operations.
use Rattle.std.specs.Prelude.{◌≡◌, ℕ, Bool, false, not, ◌+◌, ◌-◌, ◌%◌, ◌^◌, ◌&&◌, length, replicate, min, if◌then◌else◌}
use Rattle.exec_outcomes.specs.{Lawful.aligned, Outcomes.{Asked, Cursor}}
use Rattle.exec_request.specs.{Buffers.{length_of, moved_of, batch_of, chunks_of}, Hints.asks_hint, Windows.plain_window, Syncing.{write_kind, is_syncing, is_dsync}, Ways.{asked_by, is_direct, is_switched}, declared.{cache.Cache.TheVariants.Disabled, way.Way.TheVariants.Direct, send.SendRequest.SendRequest, read_at.ReadAtRequest.ReadAtRequest, recv.RecvRequest.RecvRequest, write_at.WriteAtRequest.WriteAtRequest, sync.SyncRequest.SyncRequest, connect.ConnectRequest.ConnectRequest, poll.PollRequest.PollRequest, window.{Window.Window, Opcode.Opcode as opcode}}}
use Rattle.exec_outcomes.specs.declared.outcome.Kind.TheVariants as kind

-- what moves no bytes
abbrev pub no_bytes : Cursor
no_bytes = record { moved = 0; switched = false; hinted = false }

abbrev pub send_asked : SendRequest → Asked
send_asked s = record { kind = kind.Send; length = length_of s.write; skip = 0 }

abbrev pub send_cursor : SendRequest → Cursor
send_cursor s = record { moved = moved_of s.write; switched = false; hinted = false }

abbrev pub send_window : SendRequest → Window
send_window s = plain_window opcode.Send s.fd (batch_of s.write) (chunks_of s.write)

abbrev pub recv_asked : RecvRequest → Asked
recv_asked r = record { kind = if r.exact then kind.Fill else kind.Recv; length = r.len - r.start; skip = 0 }

abbrev pub recv_cursor : RecvRequest → Cursor
recv_cursor r = record { moved = r.offset - r.start; switched = false; hinted = false }

abbrev pub recv_window : RecvRequest → Window
recv_window r = plain_window opcode.Recv r.fd (min (r.len - r.offset) (2 ^ 32 - 1)) 1

abbrev pub read_asked : ReadAtRequest → Asked
read_asked r = asked_by r.way (length r.buf.bytes)

abbrev pub read_cursor : ReadAtRequest → Cursor
read_cursor r = record { moved = r.read; switched = is_switched r.way; hinted = asks_hint r.cache }

-- its last operation had the hint, if its open had
abbrev pub read_hinted : ReadAtRequest → Bool
read_hinted r = not (is_direct r.way) && asks_hint r.cache

abbrev pub read_window : Bool → ReadAtRequest → Window
read_window hinted r =
    record {
      kind = opcode.Read;
      target = r.file;
      offset = r.offset + r.read;
      length = min (length r.buf.bytes - r.read) (if is_direct r.way then 2147479552 else 2 ^ 32 - 1);
      chunks = 1;
      hint = read_hinted r && hinted;
      direct = is_direct r.way;
      dsync = false;
    }

-- a direct read of so many bytes from this offset on, of which nothing has come yet
pub record IsDirectRead (r : ReadAtRequest) (file offset len : ℕ) : Type 0 where
  pub of : r.file ≡ file
  pub page : r.offset ≡ offset - offset % 4096
  pub begins : r.read ≡ 0
  pub way : r.way ≡ Direct (offset % 4096) len
  pub hint : r.cache ≡ Disabled
  pub buffer : r.buf ≡ record { bytes = replicate (aligned (offset % 4096 + len)) 0; capacity = aligned (offset % 4096 + len) }

abbrev pub write_asked : WriteAtRequest → Asked
write_asked w = record { kind = write_kind w.state; length = length_of w.write; skip = 0 }

abbrev pub write_cursor : WriteAtRequest → Cursor
write_cursor w = record { moved = if is_syncing w.state then 0 else moved_of w.write; switched = is_syncing w.state; hinted = asks_hint w.cache }

-- its last operation had the hint, if its open had
abbrev pub write_hinted : WriteAtRequest → Bool
write_hinted w = not (is_syncing w.state) && asks_hint w.cache

abbrev pub write_window : Bool → WriteAtRequest → Window
write_window hinted w =
    if is_syncing w.state then plain_window opcode.Sync w.file 0 0
    else record {
      kind = opcode.Write;
      target = w.file;
      offset = w.offset;
      length = batch_of w.write;
      chunks = chunks_of w.write;
      hint = write_hinted w && hinted;
      direct = false;
      dsync = is_dsync w.state;
    }

abbrev pub poll_asked : PollRequest → Asked
poll_asked p = record { kind = kind.Poll; length = 1; skip = 0 }

abbrev pub poll_cursor : PollRequest → Cursor
poll_cursor p = no_bytes

abbrev pub poll_window : PollRequest → Window
poll_window p = plain_window opcode.Poll p.fd 0 0

abbrev pub sync_asked : SyncRequest → Asked
sync_asked s = record { kind = kind.Sync; length = 1; skip = 0 }

abbrev pub sync_cursor : SyncRequest → Cursor
sync_cursor s = no_bytes

abbrev pub sync_window : SyncRequest → Window
sync_window s = plain_window opcode.Sync s.file 0 0

abbrev pub connect_asked : ConnectRequest → Asked
connect_asked c = record { kind = kind.Connect; length = 1; skip = 0 }

abbrev pub connect_cursor : ConnectRequest → Cursor
connect_cursor c = no_bytes

abbrev pub connect_window : ConnectRequest → Window
connect_window c = plain_window opcode.Connect c.fd 0 0
