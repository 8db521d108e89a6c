-- Which texts are traces, and what each says.
use Rattle.std.specs.{Prelude.{◌≡◌, ℕ, Bool, false, not, ◌==◌, ◌+◌, ◌-◌, ◌^◌, ◌<◌, ◌≤◌, ◌⊎◌, List, [], ◌∷◌, ◌++◌, All, map, filter, length, take, codes, eqb}, Cmp.Lexicographic.pointwise, Fmt.decimal, List.flat_map, Str.Lines.lines}
use Rattle.exec_outcomes.specs.declared.outcome.OpResult.{OpResult, TheVariants.{Count, Errno}}
use Rattle.exec_machine.specs.{declared.{config.{Configuration.Configuration, ScriptWord.ScriptWord}, step.{Action.TheVariants.{GoOn, Clock, Land, SetBusy, EndPoll, Stir}, Step.{Step, TheVariants.{Work, One}}}}, Text.text_of_action, Progress.Plan}
use Rattle.exec_text.specs.declared.trace.Trace.{Trace}
use Rattle.exec_machine.specs.declared.config.ScriptWord.TheVariants as word
use Rattle.exec_machine.specs.declared.step.Action.TheVariants as action

-- what a trace says: what it sets up, and the steps that it asks for
pub record Meaning : Type 0 where
  pub plan : Plan
  pub steps : List Step

-- Lines end with `\n` or `\r\n`, and the last may lack its end. A blank line, or one that begins with `#`, says nothing.
abbrev pub says_something : List ℕ → Bool
says_something [] = false
says_something (b ∷ bytes) = not (b == 35)

-- the header, one line for each value
abbrev pub header_lines : Configuration → List (List ℕ)
header_lines c =
    (codes "workers " ++ decimal c.workers) ∷ (codes "interval " ++ decimal c.interval) ∷ (codes "ring " ++ decimal c.ring)
    ∷ (codes "tick " ++ decimal c.tick) ∷ (codes "connect " ++ decimal c.connect) ∷ (codes "rw " ++ decimal c.rw)
    ∷ (codes "spin " ++ decimal c.spin.budget ++ 32 ∷ decimal c.spin.most ++ 32 ∷ decimal c.spin.quick ++ 32 ∷ decimal c.spin.iterations)
    ∷ (codes "files " ++ decimal c.files) ∷ (codes "sockets " ++ decimal c.sockets) ∷ []

-- a number behind a word, with the space before it
abbrev pub behind : ℕ → List ℕ
behind n = 32 ∷ decimal n

abbrev pub text_of_word : ScriptWord → List ℕ
text_of_word (word.Poll listener) = codes "poll" ++ behind listener
text_of_word (word.Send socket length) = codes "send" ++ behind socket ++ behind length
text_of_word (word.Recv socket length) = codes "recv" ++ behind socket ++ behind length
text_of_word (word.Fill socket length) = codes "fill" ++ behind socket ++ behind length
text_of_word (word.Connect socket) = codes "conn" ++ behind socket
text_of_word (word.Read file offset length) = codes "read" ++ behind file ++ behind offset ++ behind length
text_of_word (word.Hint file offset length) = codes "hint" ++ behind file ++ behind offset ++ behind length
text_of_word (word.Direct file offset length) = codes "direct" ++ behind file ++ behind offset ++ behind length
text_of_word (word.Write file offset length) = codes "write" ++ behind file ++ behind offset ++ behind length
text_of_word (word.Dsync file offset length) = codes "dsync" ++ behind file ++ behind offset ++ behind length
text_of_word (word.Many file offset length) = codes "many" ++ behind file ++ behind offset ++ behind length
text_of_word (word.Sync file) = codes "sync" ++ behind file
text_of_word word.Await = codes "await"
text_of_word word.Drop = codes "drop"
text_of_word (word.Sleep time) = codes "sleep" ++ behind time
text_of_word (word.Spawn script) = codes "spawn" ++ behind script
text_of_word (word.Dedicated script) = codes "dedicated" ++ behind script
text_of_word (word.Wake task) = codes "wake" ++ behind task
text_of_word word.Yield = codes "yield"
text_of_word word.End = codes "end"
text_of_word (word.Fault code) = codes "fault" ++ behind code

-- the words of a script, a space before each
abbrev pub text_of_words : List ScriptWord → List ℕ
text_of_words words = flat_map (λ word. 32 ∷ text_of_word word) words

abbrev pub text_of_script : List ScriptWord → List ℕ
text_of_script words = codes "script" ++ text_of_words words

abbrev pub text_of_root : List ScriptWord → List ℕ
text_of_root words = codes "root" ++ text_of_words words

abbrev pub text_of_step : Step → List ℕ
text_of_step (Work worker count) = codes "w " ++ decimal worker ++ 32 ∷ decimal count
text_of_step (One action) = text_of_action action

-- the lines of a trace that say something, in order
abbrev pub trace_lines : Meaning → List (List ℕ)
trace_lines m =
    header_lines m.plan.config ++ map text_of_script m.plan.scripts ++ text_of_root m.plan.root ∷ codes "steps" ∷ map text_of_step m.steps

-- Bounds of what a line says: a number is at most 2^64 - 1, and sockets, listeners and files are those of the header.

-- so many bytes of a socket
pub record SocketFits (c : Configuration) (socket length : ℕ) : Type 0 where
  pub there : socket < c.sockets
  pub some : 0 < length
  pub most : length ≤ 1048576

-- so many bytes of a file, from an offset on
pub record FileFits (c : Configuration) (file offset length : ℕ) : Type 0 where
  pub there : file < c.files
  pub early : offset ≤ 2 ^ 62
  pub some : 0 < length
  pub most : length ≤ 1048576

abbrev pub WordFits : Configuration → ScriptWord → Type 0
WordFits c (word.Poll listener) = listener < c.sockets
WordFits c (word.Send socket length) = SocketFits c socket length
WordFits c (word.Recv socket length) = SocketFits c socket length
WordFits c (word.Fill socket length) = SocketFits c socket length
WordFits c (word.Connect socket) = socket < c.sockets
WordFits c (word.Read file offset length) = FileFits c file offset length
WordFits c (word.Hint file offset length) = FileFits c file offset length
WordFits c (word.Direct file offset length) = FileFits c file offset length
WordFits c (word.Write file offset length) = FileFits c file offset length
WordFits c (word.Dsync file offset length) = FileFits c file offset length
WordFits c (word.Many file offset length) = FileFits c file offset length
WordFits c (word.Sync file) = file < c.files
WordFits c word.Await = Unit {0}
WordFits c word.Drop = Unit {0}
WordFits c (word.Sleep time) = time < 2 ^ 64
WordFits c (word.Spawn script) = script < 2 ^ 64
WordFits c (word.Dedicated script) = script < 2 ^ 64
WordFits c (word.Wake task) = task < 2 ^ 64
WordFits c word.Yield = Unit {0}
WordFits c word.End = Unit {0}
WordFits c (word.Fault code) = code < 2 ^ 64

-- a line of words has one at least
pub record WordsFit (c : Configuration) (words : List ScriptWord) : Type 0 where
  pub some : 0 < length words
  pub fit : All (WordFits c) words

-- an error number isn't 0
abbrev pub ResultFits : OpResult → Type 0
ResultFits (Count n) = n < 2 ^ 64
ResultFits (Errno code) = (0 < code) × (code < 2 ^ 64)

-- There are sixteen callers. No peer comes yet.
abbrev pub StepFits : Step → Type 0
StepFits (Work worker count) = (worker < 2 ^ 64) × (0 < count) × (count < 2 ^ 64)
StepFits (One (action.Spawn caller script)) = (caller < 16) × (script < 2 ^ 64)
StepFits (One (action.Wake caller task)) = (caller < 16) × (task < 2 ^ 64)
StepFits (One (GoOn caller)) = caller < 16
StepFits (One (Clock by)) = by < 2 ^ 64
StepFits (One (Land request result)) = (request < 2 ^ 64) × ResultFits result
StepFits (One (SetBusy worker)) = worker < 2 ^ 64
StepFits (One (EndPoll worker)) = worker < 2 ^ 64
StepFits (One (Stir worker)) = worker < 2 ^ 64
StepFits (One _) = ⊥

-- Each number of the header is below 2^64. Whether it is in its range is another question.
pub record HeaderFits (c : Configuration) : Type 0 where
  pub workers : c.workers < 2 ^ 64
  pub interval : c.interval < 2 ^ 64
  pub ring : c.ring < 2 ^ 64
  pub tick : c.tick < 2 ^ 64
  pub connect : c.connect < 2 ^ 64
  pub rw : c.rw < 2 ^ 64
  pub budget : c.spin.budget < 2 ^ 64
  pub most : c.spin.most < 2 ^ 64
  pub quick : c.spin.quick < 2 ^ 64
  pub iterations : c.spin.iterations < 2 ^ 64
  pub files : c.files < 2 ^ 64
  pub sockets : c.sockets < 2 ^ 64

-- each line by itself is right
pub record IsWellFormed (m : Meaning) : Type 0 where
  pub header : HeaderFits m.plan.config
  pub scripts : All (WordsFit m.plan.config) m.plan.scripts
  pub root : WordsFit m.plan.config m.plan.root
  pub steps : All StepFits m.steps

-- The numbers of scripts are below this count.
abbrev pub WordNames : ℕ → ScriptWord → Type 0
WordNames count (word.Spawn script) = script < count
WordNames count (word.Dedicated script) = script < count
WordNames count _ = Unit {0}

abbrev pub StepNames : ℕ → Step → Type 0
StepNames count (One (action.Spawn caller script)) = script < count
StepNames count _ = Unit {0}

pub record NamesScripts (count : ℕ) (m : Meaning) : Type 0 where
  pub scripts : All (All (WordNames count)) m.plan.scripts
  pub root : All (WordNames count) m.plan.root
  pub steps : All (StepNames count) m.steps

pub record MeaningFits (m : Meaning) : Type 0 where
  pub formed : IsWellFormed m
  pub named : NamesScripts (length m.plan.scripts) m

-- the text is a trace, and says this
pub record IsTraceOf (text : List ℕ) (m : Meaning) : Type 0 where
  pub fits : MeaningFits m
  pub spelled : filter says_something (lines text) ≡ trace_lines m

abbrev pub IsTrace : List ℕ → Type 0
IsTrace text = (m : Meaning) × IsTraceOf text m

-- each of these lines is right by itself, where it stands: they begin what is a trace, but for numbers of scripts
abbrev pub CanBegin : List (List ℕ) → Type 0
CanBegin front = (m : Meaning) × IsWellFormed m × (rest : List (List ℕ)) × (filter says_something front ++ rest ≡ trace_lines m)

-- and none of them names a script at or above this count
abbrev pub CanGoOn : ℕ → List (List ℕ) → Type 0
CanGoOn count front =
    (m : Meaning) × IsWellFormed m × NamesScripts count m × (rest : List (List ℕ)) × (filter says_something front ++ rest ≡ trace_lines m)

-- how many of the lines are those of scripts
abbrev pub is_script : List ℕ → Bool
is_script line = pointwise eqb (take 6 line) (codes "script")

unfoldable pub scripts_among : List (List ℕ) → ℕ
scripts_among front = length (filter is_script front)

-- So many scripts count: those before the first line that is wrong by itself. These are the most that any beginning has of
-- which each line is right.
pub record ScriptsThatCount (text : List ℕ) (count : ℕ) : Type 0 where
  pub last : ℕ
  pub begin : CanBegin (take last (lines text))
  pub counted : count ≡ scripts_among (take last (lines text))
  pub most : (n : ℕ) → CanBegin (take n (lines text)) → scripts_among (take n (lines text)) ≤ count

-- This line is the first at which the text is no trace: a line that is wrong where it stands, or names a script that there
-- isn't among those that count. Where there is no such line, and the text is no trace, it's the line after the last.
abbrev pub IsFirstFault : List ℕ → ℕ → Type 0
IsFirstFault text line =
    (count : ℕ) × ScriptsThatCount text count
    × (((0 < line) × (line ≤ length (lines text)) × CanGoOn count (take (line - 1) (lines text)) × (CanGoOn count (take line (lines text)) → ⊥))
    ⊎ ((line ≡ length (lines text) + 1) × CanGoOn count (lines text) × (IsTrace text → ⊥)))

-- what a trace that was read says
abbrev pub meaning_of : Trace → Meaning
meaning_of t =
    record {
      plan = record { config = t.config; scripts = map (λ script. script.items) t.scripts.items; root = t.root.items };
      steps = t.steps.items;
    }

-- how many steps a line asks for
abbrev pub count_of : Step → ℕ
count_of (Work worker count) = count
count_of (One action) = 1
