-- What the functions that read and check a trace do.
use Rattle.std.specs.Prelude.{◌≡◌, ℕ, ◌+◌, ◌<◌, ◌≤◌, List, [], ◌++◌, Option, Some, None, IfSome, length, sum_by}
use Rattle.exec_base.specs.{declared.limits.TheConstants.MOST_STEPS, Io.Rose}
use Rattle.exec_run.specs.{Ranges.first_out_of_range, declared.trace_error.TraceError.{TraceError, TheVariants.{ReadFault, TooLong, Syntax, Config, WriteFault, NoMemory}}, Refusal.{HasTooManyBytes, IsOutOfRange}}
use Rattle.exec_text.specs.{declared.trace.Trace.Trace, Grammar.{Meaning, IsTraceOf, IsTrace, IsFirstFault, count_of, meaning_of}}

-- what a source had left is what it has left behind these bytes
abbrev pub HasRead : Option (List ℕ) → Option (List ℕ) → List ℕ → Type 0
HasRead old new bytes = IfSome old (λ all. (rest : List ℕ) × (new ≡ Some rest) × (all ≡ bytes ++ rest))

-- A piece was moved to the end of a text: some bytes, or none at the end of the source.
pub record ReadsPiece (old new : Option (List ℕ)) (text text' : List ℕ) (count : ℕ) : Type 0 where
  pub bytes : List ℕ
  pub appended : text' ≡ text ++ bytes
  pub counted : length text' ≡ length text + count
  pub read : HasRead old new bytes
  pub ends : count ≡ 0 → IfSome old (λ all. new ≡ Some [])

-- why a piece was not read
abbrev pub CannotTake : TraceError → ℕ → ℕ → Type 0
CannotTake ReadFault old new = Rose old new
CannotTake NoMemory old new = new ≡ old
CannotTake (TooLong count) old new = ⊥
CannotTake (Syntax line) old new = ⊥
CannotTake (Config it) old new = ⊥
CannotTake WriteFault old new = ⊥

-- why the text was not read
abbrev pub CannotRead : TraceError → Option (List ℕ) → ℕ → ℕ → Type 0
CannotRead ReadFault source old new = Rose old new
CannotRead (TooLong count) source old new = HasTooManyBytes source count × (new ≡ old)
CannotRead NoMemory source old new = new ≡ old
CannotRead (Syntax line) source old new = ⊥
CannotRead (Config it) source old new = ⊥
CannotRead WriteFault source old new = ⊥

-- the trace is that of the text, doesn't ask for too many steps, and its configuration is in its ranges
pub record IsChecked (text : List ℕ) (t : Trace) : Type 0 where
  pub spelled : IsTraceOf text (meaning_of t)
  pub few : sum_by count_of t.steps.items ≤ MOST_STEPS
  pub in_range : first_out_of_range t.config ≡ None

-- why the text is not run
abbrev pub CannotRun : TraceError → List ℕ → Type 0
CannotRun (Syntax line) text = IsFirstFault text line
CannotRun (TooLong count) text = (m : Meaning) × IsTraceOf text m × (count ≡ sum_by count_of m.steps) × (MOST_STEPS < count)
CannotRun (Config it) text = IsOutOfRange text it
CannotRun NoMemory text = IsTrace text
CannotRun ReadFault text = ⊥
CannotRun WriteFault text = ⊥
