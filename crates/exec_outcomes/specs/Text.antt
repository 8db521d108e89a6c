-- How results and outcomes are written.
use Rattle.std.specs.{Prelude.{ℕ, List, ◌∷◌, codes}, Fmt.decimal}
use Rattle.exec_base.specs.Error.{word_of}
use Rattle.exec_outcomes.specs.declared.outcome.{Kind.{Kind, TheVariants.{Poll, Send, Recv, Fill, Connect, Read, Hint, Direct, Write, Dsync, Many, Sync}}, OpResult.{OpResult, TheVariants.{Count, Errno}}, Outcome.{Outcome, TheVariants.{Success, Failure}}}

-- the script word that makes such a request
abbrev pub text_of_kind : Kind → List ℕ
text_of_kind Poll = codes "poll"
text_of_kind Send = codes "send"
text_of_kind Recv = codes "recv"
text_of_kind Fill = codes "fill"
text_of_kind Connect = codes "conn"
text_of_kind Read = codes "read"
text_of_kind Hint = codes "hint"
text_of_kind Direct = codes "direct"
text_of_kind Write = codes "write"
text_of_kind Dsync = codes "dsync"
text_of_kind Many = codes "many"
text_of_kind Sync = codes "sync"

-- a count in decimal; an error number with a minus sign
abbrev pub text_of_result : OpResult → List ℕ
text_of_result (Count n) = decimal n
text_of_result (Errno c) = 45 ∷ decimal c

-- `ok`, or the error's word
abbrev pub text_of_outcome : Outcome → List ℕ
text_of_outcome Success = codes "ok"
text_of_outcome (Failure e) = word_of e
