-- The bodies of tasks: each makes the acts of its words, one after another, or waits for the stop of the pool.
use Rattle.std.specs.{Prelude.{◌≡◌, ℕ, suc, Bool, false, ◌+◌, ◌-◌, ◌%◌, ◌^◌, ◌<◌, ◌≤◌, nat_le, if◌then◌else◌, List, [], ◌∷◌, ◌++◌, All, length, map, drop, slice_get, slice_index_or, Option, Some, None, IfSome, Vec}, declared.alloc.Global.Global}
use Rattle.exec_base.specs.declared.{error.Error.TheVariants.NoMemory, limits.TheConstants.LONGEST_TIMEOUT}
use Rattle.exec_machine.specs.{declared.{config.{Configuration.Configuration, ScriptWord.{ScriptWord, ScriptWord as word}}, state.Code.{Code, TheVariants.{Root, Script, Waits}}}, Tests.is_empty, Tasks.without_newest, Progress.Plan}
use Rattle.exec_parts.specs.{Spots.Spot, Scripts.{Asks, IsCodeOf}}
use Rattle.exec_run.specs.{Asking.{CanAsk, CoversSeen, IsInTime}, declared.{asking.Limits.Limits, script.Asked.Asked}}
use Rattle.exec_task.specs.{Sight.Sight, declared.body.{Act.{Act, TheVariants.{Register, Await, Drop, Sleep, Spawn, Dedicated, Wake, Yield, Done, Fault}}, Said.{Said, TheVariants.{Admitted, Output, Refused, Pass}}}}
use Rattle.exec_run.specs.declared.script.Asked.TheVariants as asked

-- a body, with how far it has come: which script it runs, among which; the numbers of its next word and of the one before
-- its last act, what it holds, and what it asked for last
pub record Played : Type 0 where
  pub code : Code
  pub words : List ScriptWord
  pub scripts : List (List ScriptWord)
  pub limits : Limits
  pub place : ℕ
  pub before : ℕ
  pub held : List ℕ
  pub asked : Asked

-- a body that is to begin
abbrev pub begun : Code → List ScriptWord → List (List ScriptWord) → Limits → Played
begun code words scripts limits =
    record { code = code; words = words; scripts = scripts; limits = limits; place = 0; before = 0; held = []; asked = asked.Other }

-- the words of these scripts
abbrev pub words_of_all : List (Vec ScriptWord Global) → List (List ScriptWord)
words_of_all scripts = map (λ words. words.items) scripts

-- that of script k of these
abbrev pub script_begun : List (List ScriptWord) → Limits → ℕ → Played
script_begun scripts limits k = begun (Script k) (slice_index_or scripts k []) scripts limits

-- the bounds of the words of a body, among so many scripts
abbrev pub CanPlay : ℕ → ScriptWord → Type 0
CanPlay many (word.Spawn script) = script < many
CanPlay many (word.Dedicated script) = script < many
CanPlay many w = CanAsk w

-- what it holds, and the number of its next word, once it is told this; one that is through stays at its last word
abbrev pub held_by : Asked → List ℕ → Said → List ℕ
held_by asked.Request held (Admitted r) = held ++ r ∷ []
held_by asked.LettingGo held Pass = without_newest held
held_by a held (Output output) = without_newest held
held_by a held told = held

abbrev pub place_after : Asked → ℕ → ℕ → Option Said → ℕ
place_after asked.Ending place before told = before
place_after a place before (Some (Refused NoMemory)) = before
place_after a place before told = place

abbrev pub place_by : Played → Said → ℕ
place_by s told = place_after s.asked s.place s.before (Some told)

-- a body that waits for the stop is always at its one word
abbrev pub place_in : Code → ℕ → ℕ
place_in Waits place = 0
place_in _ place = place

abbrev pub spot_told : Played → Option Said → Spot
spot_told s told = record { code = s.code; place = place_in s.code (place_after s.asked s.place s.before told); adapters = []; call = None }

abbrev pub held_told : Played → Option Said → List ℕ
held_told s None = s.held
held_told s (Some told) = held_by s.asked s.held told

abbrev pub newest : List ℕ → Option ℕ
newest held = slice_get held (length held - 1)

-- a word that asks for nothing: with nothing held a drop, and among so many tasks the wake of another
abbrev pub is_passed : Bool → ℕ → ScriptWord → Bool
is_passed none tasks word.Drop = none
is_passed none tasks (word.Wake task) = nat_le tasks task
is_passed none tasks _ = false

-- how many words ask for nothing, before the first that does
abbrev pub passed_over : Bool → ℕ → List ScriptWord → ℕ
passed_over none tasks [] = 0
passed_over none tasks (w ∷ words) = if is_passed none tasks w then suc (passed_over none tasks words) else 0

abbrev pub word_at : List ScriptWord → ℕ → ScriptWord
word_at words place = slice_index_or words place word.End

-- what a body does that waits for the stop
abbrev pub word_of_wait : Bool → ScriptWord
word_of_wait stopped = if stopped then word.End else word.Await

-- the word of this number, for a body that sees this
abbrev pub word_in : Code → List ScriptWord → Bool → ℕ → ScriptWord
word_in Waits words stopped place = word_of_wait stopped
word_in _ words stopped place = word_at words place

-- its number, where it has one
abbrev pub number_of : Code → ℕ
number_of (Script k) = k
number_of _ = 0

-- its name, of 32 bits, and itself as what it is left to do
abbrev pub name_of : Played → ℕ
name_of s = number_of s.code % 2 ^ 32

abbrev pub itself : Played → Played
itself s = s

-- what it asks for by this act
abbrev pub asked_by : Act Played → Asked
asked_by (Register r) = asked.Request
asked_by (Drop r) = asked.LettingGo
asked_by (Done n) = asked.Ending
asked_by (Fault n) = asked.Ending
asked_by _ = asked.Other

-- a request covers what is seen of its open
abbrev pub CoversBy : Sight → Act Played → Type 0
CoversBy it (Register r) = CoversSeen it r
CoversBy it a = Unit {0}

-- The act is what the word asks for, of a script that sees this and holds these.
pub record AsksFor (it : Sight) (limits : Limits) (held : List ℕ) (w : ScriptWord) (a : Act Played) : Type 0 where
  pub covers : CoversBy it a
  pub asks : (c : Configuration) → c.rw ≡ limits.rw → c.connect ≡ limits.connect → Asks c it.moment held w a

-- the act of a word that asks for no request, of a body of these scripts that holds this as its newest
abbrev pub IsPlainActOf : List (List ScriptWord) → Limits → ScriptWord → Option ℕ → Act Played → Type 0
IsPlainActOf scripts limits word.Await n a = a ≡ Await n
IsPlainActOf scripts limits word.Drop (Some r) a = a ≡ Drop r
IsPlainActOf scripts limits word.Drop None a = Unit {0}
IsPlainActOf scripts limits (word.Sleep time) n a = a ≡ Sleep time
IsPlainActOf scripts limits (word.Spawn k) n a = k < length scripts → a ≡ Spawn (script_begun scripts limits k)
IsPlainActOf scripts limits (word.Dedicated k) n a = k < length scripts → a ≡ Dedicated (script_begun scripts limits k)
IsPlainActOf scripts limits (word.Wake task) n a = task < 2 ^ 32 → a ≡ Wake (record { 0 = task })
IsPlainActOf scripts limits word.Yield n a = a ≡ Yield
IsPlainActOf scripts limits (word.Fault code) n a = a ≡ Fault code
IsPlainActOf scripts limits _ n a = a ≡ Done 0

-- The body that the act makes, if any, begins the script of the word.
abbrev pub Begets : Played → ScriptWord → Act Played → Type 0
Begets s w (Spawn b) = (k : ℕ) → w ≡ word.Spawn k → b ≡ script_begun s.scripts s.limits k
Begets s w (Dedicated b) = (k : ℕ) → w ≡ word.Dedicated k → b ≡ script_begun s.scripts s.limits k
Begets s w a = Unit {0}

-- One step of a body that is told this and sees this: it makes the act of its next word, and then stands past it.
pub record StepsTo (s : Played) (it : Sight) (told : Said) (a : Act Played) (s' : Played) : Type 0 where
  pub place : ℕ
  pub here : it.tasks ≤ 2 ^ 32 → place ≡ place_by s told + passed_over (is_empty (held_by s.asked s.held told)) it.tasks (drop (place_by s told) s.words)
  pub asks : it.tasks ≤ 2 ^ 32 → CanPlay (length s.scripts) (word_in s.code s.words it.stopped place) → IsInTime it.moment s.limits → AsksFor it s.limits (held_by s.asked s.held told) (word_in s.code s.words it.stopped place) a
  pub begets : CanPlay (length s.scripts) (word_in s.code s.words it.stopped place) → Begets s (word_in s.code s.words it.stopped place) a
  pub past : place < length s.words → s'.place ≡ place + 1
  pub rest : s' ≡ record s { place = s'.place; before = place_by s told; held = held_by s.asked s.held told; asked = asked_by a }

abbrev pub gives : Played → Option Sight → Said → Act Played → Played → Option Sight → Type 0
gives s sight told a s' sight' = (sight' ≡ sight) × IfSome sight (λ it. StepsTo s it told a s')

-- the words of a script of the plan; what waits for the stop has none
abbrev pub words_of : Code → Plan → List ScriptWord
words_of Root p = p.root
words_of (Script k) p = slice_index_or p.scripts k []
words_of Waits p = []

-- What all bodies of a plan know: its scripts, each of which can be played, and how long requests may take.
pub record IsProgram (scripts : List (List ScriptWord)) (limits : Limits) (p : Plan) : Type 0 where
  pub scripts_are : scripts ≡ p.scripts
  pub few : length p.scripts ≤ 2 ^ 32
  pub some : 0 < p.config.workers
  pub rw_is : limits.rw ≡ p.config.rw
  pub connect_is : limits.connect ≡ p.config.connect
  pub rw_within : p.config.rw ≤ LONGEST_TIMEOUT
  pub connect_within : p.config.connect ≤ LONGEST_TIMEOUT
  pub playable : All (All (CanPlay (length p.scripts))) p.scripts

-- The script is one of so many.
abbrev pub IsNumbered : Code → ℕ → Type 0
IsNumbered (Script k) many = k < many
IsNumbered _ many = Unit {0}

-- It runs the script of a task of this plan: of the root of this worker, or of an ordinary task.
pub record Runs (s : Played) (p : Plan) (home : Option ℕ) : Type 0 where
  pub code : IsCodeOf p.config.workers home s.code
  pub numbered : IsNumbered s.code (length p.scripts)
  pub words : s.words ≡ words_of s.code p
  pub program : IsProgram s.scripts s.limits p
  pub playable : All (CanPlay (length p.scripts)) s.words
