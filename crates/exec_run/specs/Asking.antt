-- The requests that words ask for.
use Rattle.std.specs.Prelude.{◌≡◌, ℕ, ◌+◌, ◌%◌, ◌^◌, ◌<◌, ◌≤◌, Bool, true, false, ◌||◌, Some}
use Rattle.exec_machine.specs.{declared.{config.{Configuration.Configuration, ScriptWord.{ScriptWord, ScriptWord as word}}, state.Operation.Operation}, Requests.{of_file, operation_asked}}
use Rattle.exec_outcomes.specs.{Accounts.is_durable, declared.outcome.Kind.{Kind, TheVariants.Direct}}
use Rattle.exec_parts.specs.{Records.seen_in, Scripts.IsPlainRequest, Spots.IsAskedFor}
use Rattle.exec_request.specs.{Requests.{asked_of, target_of}, declared.request.Request.Request}
use Rattle.exec_run.specs.declared.asking.Limits.{Limits}
use Rattle.exec_task.specs.Sight.{Sight, open_at}

-- BOUNDS OF WHAT IS ASKED FOR

-- so many bytes of a socket
pub record IsSocketPart (socket length : ℕ) : Type 0 where
  pub there : socket < 2 ^ 32
  pub most : length ≤ 1048576

-- so many bytes of a file, from an offset on
pub record IsFilePart (file offset length : ℕ) : Type 0 where
  pub there : file < 2 ^ 32
  pub early : offset ≤ 2 ^ 62
  pub some : 0 < length
  pub most : length ≤ 1048576

abbrev pub CanAsk : ScriptWord → Type 0
CanAsk (word.Poll listener) = listener < 2 ^ 32
CanAsk (word.Send socket length) = IsSocketPart socket length
CanAsk (word.Recv socket length) = IsSocketPart socket length
CanAsk (word.Fill socket length) = IsSocketPart socket length
CanAsk (word.Connect socket) = socket < 2 ^ 32
CanAsk (word.Read file offset length) = IsFilePart file offset length
CanAsk (word.Hint file offset length) = IsFilePart file offset length
CanAsk (word.Direct file offset length) = IsFilePart file offset length
CanAsk (word.Write file offset length) = IsFilePart file offset length
CanAsk (word.Dsync file offset length) = IsFilePart file offset length
CanAsk (word.Many file offset length) = IsFilePart file offset length
CanAsk (word.Sync file) = file < 2 ^ 32
CanAsk _ = Unit {0}

-- how long requests may take by this configuration
abbrev pub limits_of : Configuration → Limits
limits_of c = record { rw = c.rw; connect = c.connect }

-- Each deadline that is counted from this moment can be said.
pub record IsInTime (moment : ℕ) (limits : Limits) : Type 0 where
  pub rw : moment + limits.rw < 2 ^ 64
  pub connect : moment + limits.connect < 2 ^ 64

-- WHICH WORDS ASK FOR A REQUEST

abbrev pub asks_of_socket : ScriptWord → Bool
asks_of_socket (word.Poll listener) = true
asks_of_socket (word.Send socket length) = true
asks_of_socket (word.Recv socket length) = true
asks_of_socket (word.Fill socket length) = true
asks_of_socket (word.Connect socket) = true
asks_of_socket _ = false

abbrev pub asks_of_range : ScriptWord → Bool
asks_of_range (word.Read file offset length) = true
asks_of_range (word.Hint file offset length) = true
asks_of_range (word.Direct file offset length) = true
asks_of_range (word.Write file offset length) = true
asks_of_range (word.Dsync file offset length) = true
asks_of_range (word.Many file offset length) = true
asks_of_range _ = false

abbrev pub asks_of_sync : ScriptWord → Bool
asks_of_sync (word.Sync file) = true
asks_of_sync _ = false

abbrev pub asks_request : ScriptWord → Bool
asks_request w = asks_of_socket w || asks_of_range w || asks_of_sync w

-- a request that needs memory for its bytes
abbrev pub moves_bytes : ScriptWord → Bool
moves_bytes (word.Send socket length) = true
moves_bytes (word.Recv socket length) = true
moves_bytes (word.Fill socket length) = true
moves_bytes w = asks_of_range w

pub record IsSame (f o n file offset length : ℕ) : Type 0 where
  pub of : f ≡ file
  pub at : o ≡ offset
  pub long : n ≡ length

-- the word reads or writes this range
abbrev pub IsRangeOf : ScriptWord → ℕ → ℕ → ℕ → Type 0
IsRangeOf (word.Read f o n) file offset length = IsSame f o n file offset length
IsRangeOf (word.Hint f o n) file offset length = IsSame f o n file offset length
IsRangeOf (word.Direct f o n) file offset length = IsSame f o n file offset length
IsRangeOf (word.Write f o n) file offset length = IsSame f o n file offset length
IsRangeOf (word.Dsync f o n) file offset length = IsSame f o n file offset length
IsRangeOf (word.Many f o n) file offset length = IsSame f o n file offset length
IsRangeOf _ file offset length = ⊥

-- WHAT IS ASKED FOR

-- the operation of this kind on a range of a file; a direct one begins at the start of its first page
abbrev pub range_operation : Kind → ℕ → ℕ → ℕ → Operation
range_operation Direct file offset length = record (of_file Direct file offset length) { skip = offset % 4096 }
range_operation kind file offset length = of_file kind file offset length

-- a request for this that was not begun
pub record IsFresh (o : Operation) (r : Request) : Type 0 where
  pub fits : IsAskedFor o r
  pub plain : IsPlainRequest r

-- It is for what the word asks for at this moment.
abbrev pub IsWanted : Limits → ℕ → ScriptWord → Request → Type 0
IsWanted limits moment w r =
    (c : Configuration) → c.rw ≡ limits.rw → c.connect ≡ limits.connect → (o : Operation) × (operation_asked c moment w ≡ Some o) × IsFresh o r

-- One that needs the permit of its open covers the changes that are seen of that.
abbrev pub CoversSeen : Sight → Request → Type 0
CoversSeen it r = is_durable (asked_of r).kind ≡ true → seen_in r ≡ (open_at it (target_of r)).mutations

pub record IsRequestOf (it : Sight) (limits : Limits) (w : ScriptWord) (r : Request) : Type 0 where
  pub wanted : IsWanted limits it.moment w r
  pub covers : CoversSeen it r
