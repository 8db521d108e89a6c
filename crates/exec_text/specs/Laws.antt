-- Laws about traces and their faults.
use Rattle.std.specs.Prelude.{◌≡◌, ℕ, List}
use Rattle.exec_text.specs.Grammar.{Meaning, IsTraceOf, IsTrace, IsFirstFault}

-- A text that is a trace has no first fault.
abbrev pub TraceHasNoFault : Type 0
TraceHasNoFault = (text : List ℕ) (line : ℕ) → IsTrace text → IsFirstFault text line → ⊥

-- Two first faults of one text are the same line.
abbrev pub FaultIsOne : Type 0
FaultIsOne = (text : List ℕ) (m n : ℕ) → IsFirstFault text m → IsFirstFault text n → m ≡ n

-- A text has one meaning.
abbrev pub MeaningIsOne : Type 0
MeaningIsOne = (text : List ℕ) (p q : Meaning) → IsTraceOf text p → IsTraceOf text q → p ≡ q
