-- Why a run is refused before its first step, and how that is written.
use Rattle.std.specs.{Prelude.{◌≡◌, ℕ, Bool, true, false, ◌+◌, ◌^◌, ◌<◌, ◌≤◌, ◌⊎◌, List, [], ◌∷◌, ◌++◌, Option, Some, IfSome, String, string_bytes, drop, map, length, sum_by, codes}, Fmt.decimal, declared.alloc.Global.Global}
use Rattle.exec_base.specs.{declared.limits.TheConstants.MOST_STEPS, Io.Rose}
use Rattle.exec_run.specs.{declared.{field.OutOfRange.OutOfRange, complaint.Complaint.{Complaint, TheVariants.{Usage, ReadFault, TooLong, Syntax, Config}}}, Ranges.{first_out_of_range, text_of_field}}
use Rattle.exec_text.specs.Grammar.{Meaning, IsTraceOf, IsFirstFault, count_of}

-- the most bytes that a trace may have
abbrev pub most_bytes : ℕ
most_bytes = 2 ^ 26

-- at most so many bytes were taken of the source, from its front
abbrev pub TakesWithin : ℕ → Option (List ℕ) → Option (List ℕ) → Type 0
TakesWithin most old new = IfSome old (λ bytes. (taken : ℕ) × (taken ≤ most) × (new ≡ Some (drop taken bytes)))

-- the text was all of what the source held, where that is known, and it's not too long
pub record IsTextIn (source : Option (List ℕ)) (text : List ℕ) : Type 0 where
  pub whole : IfSome source (λ bytes. bytes ≡ text)
  pub short : length text ≤ most_bytes

-- The source held more bytes than a trace may have, and the count names the first of these.
pub record HasTooManyBytes (source : Option (List ℕ)) (count : ℕ) : Type 0 where
  pub longer : IfSome source (λ bytes. most_bytes < length bytes)
  pub counted : count ≡ most_bytes + 1

-- The source held a trace that asks for so many steps, which are too many.
pub record HasTooManySteps (source : Option (List ℕ)) (count : ℕ) : Type 0 where
  pub text : List ℕ
  pub read : IsTextIn source text
  pub meaning : Meaning
  pub spelled : IsTraceOf text meaning
  pub counted : count ≡ sum_by count_of meaning.steps
  pub more : MOST_STEPS < count

-- The source held a text, and this line is the first at which it is no trace.
pub record HasFault (source : Option (List ℕ)) (line : ℕ) : Type 0 where
  pub text : List ℕ
  pub read : IsTextIn source text
  pub fault : IsFirstFault text line

abbrev pub IsTooLong : Option (List ℕ) → ℕ → Type 0
IsTooLong source count = HasTooManyBytes source count ⊎ HasTooManySteps source count

-- The text is a trace that doesn't ask for too many steps, and this is the first part of its configuration
-- that is out of its range.
pub record IsOutOfRange (text : List ℕ) (it : OutOfRange) : Type 0 where
  pub meaning : Meaning
  pub spelled : IsTraceOf text meaning
  pub few : sum_by count_of meaning.steps ≤ MOST_STEPS
  pub first : first_out_of_range meaning.plan.config ≡ Some it

-- The source held such a text.
pub record HasOutOfRange (source : Option (List ℕ)) (it : OutOfRange) : Type 0 where
  pub text : List ℕ
  pub read : IsTextIn source text
  pub out : IsOutOfRange text it

-- the words that ask for the run of a trace, with a quiet log or with a whole one
abbrev pub words_of_trace : Bool → List (List ℕ)
words_of_trace true = codes "trace" ∷ codes "quiet" ∷ []
words_of_trace false = codes "trace" ∷ []

abbrev pub AskForTrace : Bool → List (String Global) → Type 0
AskForTrace quiet words = map string_bytes words ≡ words_of_trace quiet

-- they ask for one or the other
abbrev pub AskForSomeTrace : List (String Global) → Type 0
AskForSomeTrace words = (quiet : Bool) × AskForTrace quiet words

-- What is the case where a complaint is made, by the words, the source and its counts of faults: the source failed
-- where that is what is complained of, and nowhere else.
abbrev pub HasCause : Complaint → List (String Global) → Option (List ℕ) → ℕ → ℕ → Type 0
HasCause Usage words source old new = (AskForSomeTrace words → ⊥) × (new ≡ old)
HasCause ReadFault words source old new = AskForSomeTrace words × Rose old new
HasCause (TooLong count) words source old new = AskForSomeTrace words × IsTooLong source count × (new ≡ old)
HasCause (Syntax line) words source old new = AskForSomeTrace words × HasFault source line × (new ≡ old)
HasCause (Config it) words source old new = AskForSomeTrace words × HasOutOfRange source it × (new ≡ old)

-- the status that a complaint ends with
abbrev pub status_of : Complaint → ℕ
status_of Usage = 1
status_of (Syntax line) = 2
status_of (Config it) = 3
status_of (TooLong count) = 4
status_of ReadFault = 5

abbrev pub text_of_complaint : Complaint → List ℕ
text_of_complaint Usage = codes "error Usage"
text_of_complaint (Syntax line) = codes "error Syntax " ++ decimal line
text_of_complaint (Config it) = codes "error Config " ++ text_of_field it.field ++ 32 ∷ decimal it.value
text_of_complaint (TooLong count) = codes "error TooLong " ++ decimal count
text_of_complaint ReadFault = codes "error ReadFault"
