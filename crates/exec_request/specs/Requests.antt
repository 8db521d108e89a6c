-- What a request of any kind asks for, how far it has come, and what comes of it.
use Rattle.std.specs.Prelude.{ℕ, Bool, true, false, Option, Some, None}
use Rattle.exec_outcomes.specs.{Accounts.{Account, outcome_at_grant}, Outcomes.{Asked, Cursor}, declared.outcome.{Kind.Kind as kind, Outcome.Outcome}}
use Rattle.exec_request.specs.{States.{Ended, received, range_read, told_by, account_by}, Syncing.{write_kind, is_syncing}, Ways.narrowed, Views.{send_asked, send_cursor, send_window, recv_asked, recv_cursor, recv_window, read_asked, read_cursor, read_hinted, read_window, write_asked, write_cursor, write_hinted, write_window, sync_asked, sync_cursor, sync_window, connect_asked, connect_cursor, connect_window, poll_asked, poll_cursor, poll_window}, declared.{window.Window.Window, write_at.WriteAtState.{WriteAtState, TheVariants.Writing}, output.{RequestOutput.{RequestOutput, RequestOutput as output}, RetiredResources.{RetiredResources, RetiredResources as retired}}, request.Request.{Request, TheVariants.{Send, Recv, ReadAt, WriteAt, Sync, Connect, Poll}}}}

abbrev pub asked_of : Request → Asked
asked_of (Send s) = send_asked s
asked_of (Recv r) = recv_asked r
asked_of (ReadAt r) = read_asked r
asked_of (WriteAt w) = write_asked w
asked_of (Sync s) = sync_asked s
asked_of (Connect c) = connect_asked c
asked_of (Poll p) = poll_asked p

abbrev pub cursor_of : Request → Cursor
cursor_of (Send s) = send_cursor s
cursor_of (Recv r) = recv_cursor r
cursor_of (ReadAt r) = read_cursor r
cursor_of (WriteAt w) = write_cursor w
cursor_of (Sync s) = sync_cursor s
cursor_of (Connect c) = connect_cursor c
cursor_of (Poll p) = poll_cursor p

-- its last operation had the hint, if its open had
abbrev pub hinted_of : Request → Bool
hinted_of (ReadAt r) = read_hinted r
hinted_of (WriteAt w) = write_hinted w
hinted_of _ = false

-- the socket, listener or open
abbrev pub target_of : Request → ℕ
target_of (Send s) = s.fd
target_of (Recv r) = r.fd
target_of (ReadAt r) = r.file
target_of (WriteAt w) = w.file
target_of (Sync s) = s.file
target_of (Connect c) = c.fd
target_of (Poll p) = p.fd

abbrev pub deadline_of : Request → Option ℕ
deadline_of (Send s) = s.deadline
deadline_of (Recv r) = r.deadline
deadline_of (ReadAt r) = None
deadline_of (WriteAt w) = None
deadline_of (Sync s) = None
deadline_of (Connect c) = c.deadline
deadline_of (Poll p) = p.deadline

-- What was begun goes on to its end also where nobody waits for it: a change of a file.
abbrev pub goes_on_alone : Request → Bool
goes_on_alone (WriteAt w) = true
goes_on_alone (Sync s) = true
goes_on_alone _ = false

-- the open whose durable requests come one after another
abbrev pub gate_of_write : WriteAtState → ℕ → Option ℕ
gate_of_write Writing file = None
gate_of_write _ file = Some file

abbrev pub gate_of : Request → Option ℕ
gate_of (WriteAt w) = gate_of_write w.state w.file
gate_of (Sync s) = Some s.file
gate_of _ = None

-- what ends a durable request that has its permit, before any operation
abbrev pub outcome_if_granted : Request → Option Account → Option Outcome
outcome_if_granted r None = None
outcome_if_granted r (Some account) = outcome_at_grant (asked_of r).kind account

abbrev pub window_by : Bool → Request → Window
window_by hinted (Send s) = send_window s
window_by hinted (Recv r) = recv_window r
window_by hinted (ReadAt r) = read_window hinted r
window_by hinted (WriteAt w) = write_window hinted w
window_by hinted (Sync s) = sync_window s
window_by hinted (Connect c) = connect_window c
window_by hinted (Poll p) = poll_window p

-- the record of its open after the request has ended so
abbrev pub record_after : Request → Ended → Option Account → Option Account
record_after (WriteAt w) ended account = account_by w.file (is_syncing w.state) w.seen (write_kind w.state) ended account
record_after (Sync s) ended account = account_by s.file false s.seen kind.Sync ended account
record_after _ ended account = account

abbrev pub output_of : Request → Ended → Option Account → RequestOutput
output_of (Send s) ended account = output.Send ended
output_of (Recv r) ended account = output.Recv (received r.buf r.offset ended)
output_of (ReadAt r) ended account = output.ReadAt (range_read (narrowed r.way r.buf) r.buf ended)
output_of (WriteAt w) ended account = output.WriteAt (told_by (write_kind w.state) ended account)
output_of (Sync s) ended account = output.Sync (told_by kind.Sync ended account)
output_of (Connect c) ended account = output.Connect ended
output_of (Poll p) ended account = output.Poll ended

-- all that the request owned, but for what its output hands back
abbrev pub retired_of : Request → RetiredResources
retired_of (Send s) = retired.Send s.fd s.write
retired_of (Recv r) = retired.Socket r.fd
retired_of (ReadAt r) = retired.File r.file None
retired_of (WriteAt w) = retired.File w.file (Some w.write)
retired_of (Sync s) = retired.File s.file None
retired_of (Connect c) = retired.Connect c.fd c.address
retired_of (Poll p) = retired.Listener p.fd
