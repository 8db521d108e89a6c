-- What the clauses of the reader say, beside the grammar.
use Rattle.std.specs.{Prelude.{◌≡◌, ◌≢◌, ℕ, ◌+◌, ◌-◌, ◌^◌, ◌<◌, ◌≤◌, ◌⊎◌, Bool, true, nat_lt, List, [], ◌∷◌, ◌++◌, All, Option, Some, None, map, filter, length, take, drop, slice_index, codes}, Fmt.decimal, List.AllByRecursion, Str.Lines.lines}
use Rattle.exec_machine.specs.declared.{config.{Configuration.Configuration, Spin.Spin, ScriptWord.ScriptWord}, step.Action.{Action, Action as action}}
use Rattle.exec_text.specs.{Grammar.{says_something, header_lines, HeaderFits, text_of_word, text_of_words, text_of_script, text_of_root, WordFits, WordsFit, WordNames, IsTrace, IsFirstFault}, Kept.{Keeps, KeepsLists}, declared.{read_error.ReadError.{ReadError, TheVariants.{Syntax, NoMemory}}, task.{TaskLine.{TaskLine, TheVariants.{Script, Root}}, Tasks.Tasks}}}
use Rattle.exec_machine.specs.declared.config.ScriptWord.TheVariants as word

-- Why a text was not read: the line is the first at which it is no trace, or it is one, and there was no memory.
abbrev pub IsUnread : ReadError → List ℕ → Type 0
IsUnread (Syntax line) text = IsFirstFault text line
IsUnread NoMemory text = IsTrace text

-- The place before the byte `from` is the one before the line of this number, counted from 0.
pub record IsBeforeLine (text : List ℕ) (from number : ℕ) : Type 0 where
  pub within : from ≤ length text
  pub few : number ≤ from
  pub counted : number ≤ length (lines text)
  pub rest : drop number (lines text) ≡ lines (drop from text)

-- the lines that say something among the first so many
unfoldable pub said_before : List ℕ → ℕ → List (List ℕ)
said_before text number = filter says_something (take number (lines text))

-- all lines that say something
abbrev pub all_said : List ℕ → List (List ℕ)
all_said text = filter says_something (lines text)

-- After `old` lines, this line is the next that says something, and it's the last of the first `new`.
pub record IsNextSaid (text : List ℕ) (old new : ℕ) (line : List ℕ) : Type 0 where
  pub more : old < new
  pub counted : new ≤ length (lines text)
  pub said : said_before text new ≡ said_before text old ++ line ∷ []
  pub front : said_before text (new - 1) ≡ said_before text old

-- After `old` lines no line says something, and `new` is the number of all.
pub record IsLastSaid (text : List ℕ) (old new : ℕ) : Type 0 where
  pub all : new ≡ length (lines text)
  pub said : said_before text new ≡ said_before text old

-- After `old` lines no line says something, and this number is the one after the last.
abbrev pub IsMissing : List ℕ → ℕ → ℕ → Type 0
IsMissing text old number = (all : ℕ) × IsLastSaid text old all × (number ≡ all + 1)

-- After `old` lines the next line that says something has this number and is wrong, or it's missing.
abbrev pub IsStuck : List ℕ → ℕ → (List ℕ → Type 0) → ℕ → Type 0
IsStuck text old Wrong number =
    ((line : List ℕ) × IsNextSaid text old number line × Wrong line) ⊎ IsMissing text old number

-- there are bytes, with neither a plus sign nor a leading zero at the front
pub record IsPlain (bytes : List ℕ) : Type 0 where
  pub some : 0 < length bytes
  pub sign : slice_index bytes 0 ≢ 43
  pub zeros : slice_index bytes 0 ≡ 48 → length bytes ≤ 1

-- the bytes are none or begin with a space
abbrev pub IsCut : List ℕ → Type 0
IsCut [] = Unit {0}
IsCut (b ∷ bytes) = b ≡ 32

abbrev pub NoSpace : List ℕ → Type 0
NoSpace = AllByRecursion (λ b. b ≢ 32)

-- the bytes up to the first space, and the rest
pub record IsField (bytes field rest : List ℕ) : Type 0 where
  pub spelled : bytes ≡ field ++ rest
  pub no_space : NoSpace field
  pub cut : IsCut rest

-- a number at the front, behind a space, and the rest
pub record IsNumber (bytes : List ℕ) (number : ℕ) (rest : List ℕ) : Type 0 where
  pub spelled : bytes ≡ 32 ∷ (decimal number ++ rest)
  pub small : number < 2 ^ 64
  pub cut : IsCut rest

-- what a word begins with, and the numbers behind it
abbrev pub name_of : ScriptWord → List ℕ
name_of (word.Poll listener) = codes "poll"
name_of (word.Send socket size) = codes "send"
name_of (word.Recv socket size) = codes "recv"
name_of (word.Fill socket size) = codes "fill"
name_of (word.Connect socket) = codes "conn"
name_of (word.Read file offset size) = codes "read"
name_of (word.Hint file offset size) = codes "hint"
name_of (word.Direct file offset size) = codes "direct"
name_of (word.Write file offset size) = codes "write"
name_of (word.Dsync file offset size) = codes "dsync"
name_of (word.Many file offset size) = codes "many"
name_of (word.Sync file) = codes "sync"
name_of word.Await = codes "await"
name_of word.Drop = codes "drop"
name_of (word.Sleep time) = codes "sleep"
name_of (word.Spawn script) = codes "spawn"
name_of (word.Dedicated script) = codes "dedicated"
name_of (word.Wake task) = codes "wake"
name_of word.Yield = codes "yield"
name_of word.End = codes "end"
name_of (word.Fault code) = codes "fault"

abbrev pub numbers_of : ScriptWord → List ℕ
numbers_of (word.Poll listener) = listener ∷ []
numbers_of (word.Send socket size) = socket ∷ size ∷ []
numbers_of (word.Recv socket size) = socket ∷ size ∷ []
numbers_of (word.Fill socket size) = socket ∷ size ∷ []
numbers_of (word.Connect socket) = socket ∷ []
numbers_of (word.Read file offset size) = file ∷ offset ∷ size ∷ []
numbers_of (word.Hint file offset size) = file ∷ offset ∷ size ∷ []
numbers_of (word.Direct file offset size) = file ∷ offset ∷ size ∷ []
numbers_of (word.Write file offset size) = file ∷ offset ∷ size ∷ []
numbers_of (word.Dsync file offset size) = file ∷ offset ∷ size ∷ []
numbers_of (word.Many file offset size) = file ∷ offset ∷ size ∷ []
numbers_of (word.Sync file) = file ∷ []
numbers_of word.Await = []
numbers_of word.Drop = []
numbers_of (word.Sleep time) = time ∷ []
numbers_of (word.Spawn script) = script ∷ []
numbers_of (word.Dedicated script) = script ∷ []
numbers_of (word.Wake task) = task ∷ []
numbers_of word.Yield = []
numbers_of word.End = []
numbers_of (word.Fault code) = code ∷ []

-- the word has this name and these numbers
pub record IsSpelled (name : List ℕ) (numbers : List ℕ) (word : ScriptWord) : Type 0 where
  pub named : name ≡ name_of word
  pub counted : numbers ≡ numbers_of word

-- no word that fits has them
abbrev pub IsNoWord : Configuration → List ℕ → List ℕ → Type 0
IsNoWord c name numbers = (word : ScriptWord) → WordFits c word → IsSpelled name numbers word → ⊥

-- a word at the front, behind a space, and the rest
pub record IsWord (c : Configuration) (bytes : List ℕ) (word : ScriptWord) (rest : List ℕ) : Type 0 where
  pub spelled : bytes ≡ 32 ∷ text_of_word word ++ rest
  pub fits : WordFits c word
  pub cut : IsCut rest

-- the header
unfoldable pub header : Configuration → List (List ℕ)
header c = header_lines c

-- the line of the spin
abbrev pub text_of_spin : Spin → List ℕ
text_of_spin s = codes "spin " ++ decimal s.budget ++ 32 ∷ decimal s.most ++ 32 ∷ decimal s.quick ++ 32 ∷ decimal s.iterations

pub record SpinFits (s : Spin) : Type 0 where
  pub budget : s.budget < 2 ^ 64
  pub most : s.most < 2 ^ 64
  pub quick : s.quick < 2 ^ 64
  pub iterations : s.iterations < 2 ^ 64

-- a script is one of so many, once they are counted
abbrev pub is_named : Option ℕ → ℕ → Bool
is_named None script = true
is_named (Some count) script = nat_lt script count

-- the word names no script, or one of so many, once they are counted
abbrev pub names_within : Option ℕ → ScriptWord → Bool
names_within scripts (word.Spawn script) = is_named scripts script
names_within scripts (word.Dedicated script) = is_named scripts script
names_within scripts _ = true

pub record AllRight (c : Configuration) (scripts : Option ℕ) (words : List ScriptWord) : Type 0 where
  pub fit : All (WordFits c) words
  pub named : All (λ word. names_within scripts word ≡ true) words

-- the line is this name and these words, which may stand there
pub record IsLineOf (c : Configuration) (scripts : Option ℕ) (name line : List ℕ) (words : List ScriptWord) : Type 0 where
  pub spelled : line ≡ name ++ text_of_words words
  pub some : 0 < length words
  pub right : AllRight c scripts words

-- the line is one of the root or of a script, where so many scripts count
pub record IsRoot (c : Configuration) (count : ℕ) (line : List ℕ) (root : List ScriptWord) : Type 0 where
  pub spelled : line ≡ text_of_root root
  pub fits : WordsFit c root
  pub named : All (WordNames count) root

pub record IsScript (c : Configuration) (count : ℕ) (line : List ℕ) (words : List ScriptWord) : Type 0 where
  pub spelled : line ≡ text_of_script words
  pub fits : WordsFit c words
  pub named : All (WordNames count) words

-- the lines are the header and those of these scripts
pub record IsHead (c : Configuration) (count : ℕ) (said : List (List ℕ)) (scripts : List (List ScriptWord)) : Type 0 where
  pub header_fits : HeaderFits c
  pub spelled : said ≡ header c ++ map text_of_script scripts
  pub fit : All (WordsFit c) scripts
  pub named : All (All (WordNames count)) scripts

-- and the line of the root
pub record IsTop (c : Configuration) (count : ℕ) (said : List (List ℕ)) (scripts : List (List ScriptWord)) (root : List ScriptWord) : Type 0 where
  pub front : List (List ℕ)
  pub head : IsHead c count front scripts
  pub line : List ℕ
  pub spelled : said ≡ front ++ line ∷ []
  pub root_line : IsRoot c count line root

-- and the line `steps`
pub record IsMarkedTop (c : Configuration) (count : ℕ) (said : List (List ℕ)) (scripts : List (List ScriptWord)) (root : List ScriptWord) : Type 0 where
  pub top : List (List ℕ)
  pub is_top : IsTop c count top scripts root
  pub spelled : said ≡ top ++ codes "steps" ∷ []

-- the line of a task was read, and its words are kept
abbrev pub IsTaskLine : Configuration → ℕ → List ℕ → TaskLine → Type 0
IsTaskLine c count line (Script kept) = (words : List ScriptWord) × IsScript c count line words × Keeps kept words
IsTaskLine c count line (Root kept) = (root : List ScriptWord) × IsRoot c count line root × Keeps kept root

-- the lines are the header and those of tasks, and the words of these are kept
pub record HasTasks (c : Configuration) (count : ℕ) (said : List (List ℕ)) (t : Tasks) : Type 0 where
  pub scripts : List (List ScriptWord)
  pub root : List ScriptWord
  pub top : IsTop c count said scripts root
  pub keeps_scripts : KeepsLists t.scripts scripts
  pub keeps_root : Keeps t.root root

-- what stands behind the number of a caller, where so many scripts count
abbrev pub IsCall : ℕ → ℕ → List ℕ → Action → Type 0
IsCall caller count bytes (action.Spawn j script) = (j ≡ caller) × (script < 2 ^ 64) × (script < count) × (bytes ≡ codes " spawn " ++ decimal script)
IsCall caller count bytes (action.Wake j task) = (j ≡ caller) × (task < 2 ^ 64) × (bytes ≡ codes " wake " ++ decimal task)
IsCall caller count bytes (action.GoOn j) = (j ≡ caller) × (bytes ≡ [])
IsCall caller count bytes _ = ⊥
