-- What an error of a run, or the status of the program, says.
use Rattle.std.specs.{Prelude.{◌≡◌, ℕ, Bool, ◌⊎◌, List, [], ◌∷◌, ◌++◌, Option, IsSome, String}, declared.alloc.Global.Global}
use Rattle.exec_base.specs.Io.{Rose}
use Rattle.exec_run.specs.{declared.{complaint.Complaint.Complaint, trace_error.TraceError.{TraceError, TheVariants.{ReadFault, TooLong, Syntax, Config, WriteFault, NoMemory}}}, Refusal.{IsTooLong, HasFault, HasOutOfRange, HasCause, AskForTrace, AskForSomeTrace, status_of, text_of_complaint}, Log.{HasTrace, Gave, GaveFront, GaveLog, BrokeOff}}
use Rattle.exec_text.specs.Grammar.{Meaning}

-- neither the count of faults of the source rose nor that of the sink
abbrev pub NoneRose : ℕ → ℕ → ℕ → ℕ → Type 0
NoneRose read read' written written' = (read' ≡ read) × (written' ≡ written)

-- what is the case where a run ends with an error, by what the source held and the counts of faults
abbrev pub IsCauseOf : TraceError → Option (List ℕ) → ℕ → ℕ → ℕ → ℕ → Type 0
IsCauseOf ReadFault source read read' written written' = Rose read read' × (written' ≡ written)
IsCauseOf (TooLong count) source read read' written written' = IsTooLong source count × NoneRose read read' written written'
IsCauseOf (Syntax line) source read read' written written' = HasFault source line × NoneRose read read' written written'
IsCauseOf (Config it) source read read' written written' = HasOutOfRange source it × NoneRose read read' written written'
IsCauseOf WriteFault source read read' written written' = (read' ≡ read) × Rose written written'
IsCauseOf NoMemory source read read' written written' = NoneRose read read' written written'

-- What the sink was given where a run ends with an error: nothing, unless the run had begun.
abbrev pub IsGivenAt : Bool → TraceError → Option (List ℕ) → Option (List ℕ) → Option (List ℕ) → Type 0
IsGivenAt quiet ReadFault source old new = new ≡ old
IsGivenAt quiet (TooLong count) source old new = new ≡ old
IsGivenAt quiet (Syntax line) source old new = new ≡ old
IsGivenAt quiet (Config it) source old new = new ≡ old
IsGivenAt quiet WriteFault source old new = BrokeOff quiet source old new
IsGivenAt quiet NoMemory source old new = (new ≡ old) ⊎ BrokeOff quiet source old new

-- the line of a complaint
abbrev pub complaint_line : Complaint → List ℕ
complaint_line x = text_of_complaint x ++ 10 ∷ []

-- There was cause for this complaint, and it was written and passed on by a sink that didn't fail.
pub record Complained (x : Complaint) (words : List (String Global)) (source : Option (List ℕ)) (read read' : ℕ) (old new passed : Option (List ℕ)) (written written' : ℕ) : Type 0 where
  pub cause : HasCause x words source read read'
  pub gave : Gave old new (complaint_line x)
  pub passes : passed ≡ new
  pub well : written' ≡ written

-- The words ask for a trace, its whole log was given, or its quiet one, and passed on, and neither end failed.
pub record Logged (words : List (String Global)) (source : Option (List ℕ)) (read read' : ℕ) (old new passed : Option (List ℕ)) (written written' : ℕ) : Type 0 where
  pub quiet : Bool
  pub asked : AskForTrace quiet words
  pub gave : GaveLog quiet source old new
  pub passes : passed ≡ new
  pub well : NoneRose read read' written written'

-- a front of a log so far was given
abbrev pub WroteFrontOfLog : List (String Global) → Option (List ℕ) → Option (List ℕ) → Option (List ℕ) → Type 0
WroteFrontOfLog words source old new = (quiet : Bool) × AskForTrace quiet words × BrokeOff quiet source old new

-- a front of a complaint that there was cause for was given
abbrev pub WroteFrontOfComplaint : List (String Global) → Option (List ℕ) → ℕ → ℕ → Option (List ℕ) → Option (List ℕ) → Type 0
WroteFrontOfComplaint words source read read' old new = (x : Complaint) × HasCause x words source read read' × GaveFront old new (complaint_line x)

-- What a status says. 0: the words ask for a trace, and its whole log was written, or its quiet one. 1 to 5: a
-- complaint was written. 6: the sink failed while a log or a complaint was written. 7: the words ask for a trace, there
-- was no memory, before a log was begun or while it was written, and neither end failed. There is no other status.
abbrev pub Explains : ℕ → List (String Global) → Option (List ℕ) → ℕ → ℕ → Option (List ℕ) → Option (List ℕ) → Option (List ℕ) → ℕ → ℕ → Type 0
Explains status words source read read' old new passed written written' =
    ((status ≡ 0) × Logged words source read read' old new passed written written')
    ⊎ ((x : Complaint) × (status ≡ status_of x) × Complained x words source read read' old new passed written written')
    ⊎ ((status ≡ 6) × Rose written written' × (WroteFrontOfLog words source old new ⊎ WroteFrontOfComplaint words source read read' old new))
    ⊎ ((status ≡ 7) × AskForSomeTrace words × NoneRose read read' written written' × ((new ≡ old) ⊎ WroteFrontOfLog words source old new))

-- Where the words ask for a trace, and the source is known to hold one that may be run: unless a fault of the source or
-- the sink rose, its whole log was given and passed on with status 0, or there was no memory, by status 7. There is no
-- other answer.
pub record Completes (status : ℕ) (words : List (String Global)) (source : Option (List ℕ)) (read read' : ℕ) (old new passed : Option (List ℕ)) (written written' : ℕ) : Type 0 where
  pub no_other : (quiet : Bool) (m : Meaning) → AskForTrace quiet words → IsSome source → HasTrace source m → (Rose read read' → ⊥) → (Rose written written' → ⊥)
      → ((status ≡ 0) × (log : GaveLog quiet source old new) × (log.meaning ≡ m) × (passed ≡ new)) ⊎ (status ≡ 7)
