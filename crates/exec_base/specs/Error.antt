-- The outcome words of the errors, as log lines have them.
use Rattle.std.specs.Prelude.{ℕ, List, ◌++◌, codes, decimal}
use Rattle.exec_base.specs.declared.error.{Cause.{Cause, Cause as cause}, Error.{Error, Error as error}}

-- a cause's code in decimal, or its name
abbrev pub cause_word : Cause → List ℕ
cause_word (cause.Code code) = decimal code
cause_word cause.InvalidInput = codes "InvalidInput"
cause_word cause.Closed = codes "Closed"

-- an error's name, and after a space its cause where it has one
abbrev pub word_of : Error → List ℕ
word_of error.Timeout = codes "Timeout"
word_of error.Closed = codes "Closed"
word_of error.SendFailed = codes "SendFailed"
word_of error.RecvFailed = codes "RecvFailed"
word_of error.ReadFailed = codes "ReadFailed"
word_of error.WriteFailed = codes "WriteFailed"
word_of error.ConnectionFailed = codes "ConnectionFailed"
word_of error.BindFailed = codes "BindFailed"
word_of (error.Io why) = codes "Io " ++ cause_word why
word_of error.BlobInsufficientLength = codes "BlobInsufficientLength"
word_of error.OffsetOverflow = codes "OffsetOverflow"
word_of (error.BlobSyncFailed _ why) = codes "BlobSyncFailed " ++ cause_word why
word_of (error.BlobResizeFailed _ why) = codes "BlobResizeFailed " ++ cause_word why
word_of error.NoMemory = codes "NoMemory"
word_of error.Full = codes "Full"
