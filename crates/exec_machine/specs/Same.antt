-- When two things that events name are the same, as tests that compute.
use Rattle.std.specs.Prelude.{ℕ, Bool, true, false, ◌==◌, ◌&&◌, Option, Some, None}
use Rattle.exec_base.specs.declared.error.{Cause.{Cause, Cause as cause}, Error.{Error, Error as error}}
use Rattle.exec_outcomes.specs.declared.outcome.{Kind.{Kind, Kind as kind}, OpResult.{OpResult, TheVariants.{Count, Errno}}, Outcome.{Outcome, TheVariants.{Success, Failure}}}
use Rattle.exec_machine.specs.declared.state.{MailMessage.{MailMessage, MailMessage as message}, Letter.Letter}

abbrev pub is_none : {X : Type 0} → Option X → Bool
is_none None = true
is_none (Some x) = false

-- the number is told, and is this one
abbrev pub is_number : ℕ → Option ℕ → Bool
is_number n None = false
is_number n (Some m) = n == m

abbrev pub same_number : Option ℕ → Option ℕ → Bool
same_number None None = true
same_number (Some m) (Some n) = m == n
same_number _ _ = false

abbrev pub same_cause : Cause → Cause → Bool
same_cause (cause.Code m) (cause.Code n) = m == n
same_cause cause.InvalidInput cause.InvalidInput = true
same_cause cause.Closed cause.Closed = true
same_cause _ _ = false

abbrev pub same_error : Error → Error → Bool
same_error error.Timeout error.Timeout = true
same_error error.Closed error.Closed = true
same_error error.SendFailed error.SendFailed = true
same_error error.RecvFailed error.RecvFailed = true
same_error error.ReadFailed error.ReadFailed = true
same_error error.WriteFailed error.WriteFailed = true
same_error error.ConnectionFailed error.ConnectionFailed = true
same_error error.BindFailed error.BindFailed = true
same_error (error.Io x) (error.Io y) = same_cause x y
same_error error.BlobInsufficientLength error.BlobInsufficientLength = true
same_error error.OffsetOverflow error.OffsetOverflow = true
same_error (error.BlobSyncFailed m x) (error.BlobSyncFailed n y) = (m == n) && same_cause x y
same_error (error.BlobResizeFailed m x) (error.BlobResizeFailed n y) = (m == n) && same_cause x y
same_error error.NoMemory error.NoMemory = true
same_error error.Full error.Full = true
same_error _ _ = false

abbrev pub same_outcome : Outcome → Outcome → Bool
same_outcome Success Success = true
same_outcome (Failure x) (Failure y) = same_error x y
same_outcome _ _ = false

-- both are told and the same, or neither is
abbrev pub same_end : Option Outcome → Option Outcome → Bool
same_end None None = true
same_end (Some x) (Some y) = same_outcome x y
same_end _ _ = false

abbrev pub same_result : OpResult → OpResult → Bool
same_result (Count m) (Count n) = m == n
same_result (Errno m) (Errno n) = m == n
same_result _ _ = false

abbrev pub same_kind : Kind → Kind → Bool
same_kind kind.Poll kind.Poll = true
same_kind kind.Send kind.Send = true
same_kind kind.Recv kind.Recv = true
same_kind kind.Fill kind.Fill = true
same_kind kind.Connect kind.Connect = true
same_kind kind.Read kind.Read = true
same_kind kind.Hint kind.Hint = true
same_kind kind.Direct kind.Direct = true
same_kind kind.Write kind.Write = true
same_kind kind.Dsync kind.Dsync = true
same_kind kind.Many kind.Many = true
same_kind kind.Sync kind.Sync = true
same_kind _ _ = false

abbrev pub same_message : MailMessage → MailMessage → Bool
same_message message.Root message.Root = true
same_message (message.ForwardRequest m) (message.ForwardRequest n) = m == n
same_message (message.ForwardTimer m) (message.ForwardTimer n) = m == n
same_message (message.CancelRequest m) (message.CancelRequest n) = m == n
same_message (message.CancelTimer m) (message.CancelTimer n) = m == n
same_message _ _ = false

-- the letter is there, goes to this worker and says this
abbrev pub is_letter : ℕ → MailMessage → Option Letter → Bool
is_letter to m None = false
is_letter to m (Some letter) = (letter.to == to) && same_message letter.message m
