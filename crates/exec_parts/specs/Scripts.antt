-- A body that does what its script says.
use Rattle.std.specs.Prelude.{◌≡◌, ℕ, zero, suc, ◌-◌, ◌^◌, ◌<◌, ◌≤◌, Bool, true, false, List, [], ◌∷◌, ◌++◌, length, map, slice_get, Option, Some, None, if◌then◌else◌}
use Rattle.exec_parts.specs.{Words.{Closed, NoMemory, LAST_MOMENT, is_durable, asked_of, target_of, WriteBuffers, Single, DIRECT_CHUNK, Request, Sight, Act, Said, Configuration, ScriptWord, Code, Script, Waits, Operation, Plan, operation_asked, without_newest, Task, Common, open_of, next_word, moved_on}, Records.seen_in, Spots.{Spot, IsAskedFor, spot_of}}

-- WHAT A BODY MAY DO. It makes requests, waits for them, lets go of them, sleeps, makes and wakes others, and ends. Any task
-- may do so; the root of a worker of the pool but the first only waits for the stop.

-- bytes in one buffer that an operation can take whole, of which none has gone
abbrev pub IsOnePart : WriteBuffers → Type 0
IsOnePart (Single bytes offset) = (offset ≡ 0) × (length bytes < 2 ^ 32)
IsOnePart _ = ⊥

-- So are the bytes of a request that a body makes: one operation can move all that it asks for. A direct one takes at most
-- the whole pages below 2^31.
abbrev pub IsPlainRequest : Request → Type 0
IsPlainRequest (Request.Send r) = IsOnePart r.write
IsPlainRequest (Request.Recv r) = r.len - r.start < 2 ^ 32
IsPlainRequest (Request.ReadAt r) = length r.buf.bytes ≤ DIRECT_CHUNK
IsPlainRequest (Request.WriteAt r) = IsOnePart r.write
IsPlainRequest _ = Unit {0}

module _ {B : Type 0} where
  -- The act is that of the word, by the worker's moment, for a task that holds these requests.
  abbrev pub Asks : Configuration → ℕ → List ℕ → ScriptWord → Act B → Type 0
  Asks c moment held w (Act.Register r) = IsPlainRequest r × (o : Operation) × (operation_asked c moment w ≡ Some o) × IsAskedFor o r
  Asks c moment held w (Act.Await r) = (w ≡ ScriptWord.Await) × (r ≡ slice_get held (length held - 1))
  Asks c moment held w (Act.Drop r) = (w ≡ ScriptWord.Drop) × (slice_get held (length held - 1) ≡ Some r)
  Asks c moment held w (Act.Sleep time) = w ≡ ScriptWord.Sleep time
  Asks c moment held w Act.Yield = w ≡ ScriptWord.Yield
  Asks c moment held w (Act.Done n) = w ≡ ScriptWord.End
  Asks c moment held w (Act.Fault n) = w ≡ ScriptWord.Fault n
  Asks c moment held w (Act.Spawn b) = (k : ℕ) × (w ≡ ScriptWord.Spawn k)
  Asks c moment held w (Act.Dedicated b) = (k : ℕ) × (w ≡ ScriptWord.Dedicated k)
  Asks c moment held w (Act.Wake t) = w ≡ ScriptWord.Wake t.0

  -- A request that needs the permit of its open covers the changes that the open has.
  abbrev pub Covers : Common → Act B → Type 0
  Covers s (Act.Register r) = is_durable (asked_of r).kind ≡ true → seen_in r ≡ (open_of s (target_of r)).account.mutations
  Covers s a = Unit {0}

  -- the body is through by this act
  abbrev pub is_last : Act B → Bool
  is_last (Act.Done n) = true
  is_last (Act.Fault n) = true
  is_last _ = false

  -- it can be told so of this act, where that was carried out
  abbrev pub IsAnswer : Act B → Said → Type 0
  IsAnswer (Act.Register r) (Said.Admitted n) = Unit {0}
  IsAnswer (Act.Await (Some r)) (Said.Output output) = Unit {0}
  IsAnswer (Act.Sleep time) Said.Slept = Unit {0}
  IsAnswer (Act.Spawn b) (Said.Spawned n) = Unit {0}
  IsAnswer (Act.Spawn b) (Said.Refused Closed) = Unit {0}
  IsAnswer (Act.Dedicated b) (Said.Spawned n) = Unit {0}
  IsAnswer (Act.Dedicated b) (Said.Refused Closed) = Unit {0}
  IsAnswer a Said.Pass = Unit {0}
  IsAnswer a told = ⊥

  -- what the answer to an act leaves of what the task holds: a request that was made is the newest, one that is over or let
  -- go was the newest
  abbrev pub held_after : Act B → Said → List ℕ → List ℕ
  held_after (Act.Register r) (Said.Admitted n) held = held ++ n ∷ []
  held_after (Act.Await (Some r)) (Said.Output output) held = without_newest held
  held_after (Act.Drop r) Said.Pass held = without_newest held
  held_after a told held = held

-- It stands somewhere else only where it is told that there was no memory for its last act: then it stands where it stood.
abbrev pub IsAnswered : {L : Type 0} → (L → Option Said → Spot) → Type 0
IsAnswered {L} spot = (l : L) (answer : Said) → (answer ≡ Said.Refused NoMemory → ⊥) → spot l (Some answer) ≡ spot l None

-- A task runs one of the scripts where it is no root of the pool's workers, of which there are so many: it is an ordinary
-- task, or the root of a dedicated worker.
abbrev pub MayRunScript : ℕ → Option ℕ → Type 0
MayRunScript workers None = Unit {0}
MayRunScript workers (Some zero) = ⊥
MayRunScript workers (Some (suc i)) = workers ≤ suc i

-- Which script the task runs, by whose root it is: the first worker's, another's of the pool, or any other task.
abbrev pub IsCodeOf : ℕ → Option ℕ → Code → Type 0
IsCodeOf workers (Some zero) code = code ≡ Code.Root
IsCodeOf workers (Some (suc i)) code = (suc i < workers → code ≡ Waits) × (workers ≤ suc i → (k : ℕ) × (code ≡ Script k))
IsCodeOf workers None code = (k : ℕ) × (code ≡ Script k)

-- What a body sees is what the machine has.
pub record IsSeen (sight : Sight) (s : Common) : Type 0 where
  pub early : sight.moment ≤ LAST_MOMENT
  pub tasks : sight.tasks ≡ length s.tasks
  pub few : length s.tasks ≤ 2 ^ 32
  pub stopped : sight.stopped ≡ s.stopped
  pub opens : sight.opens ≡ map (λ o. o.account) s.opens

-- It begins the script of this number.
abbrev pub Begins : (Option Said → Spot) → ℕ → Type 0
Begins stands k = stands (Some Said.Start) ≡ record { code = Script k; place = 0; adapters = []; call = None }

-- The name of a body that begins a script of its plan is the number of that.
abbrev pub IsNamed : {L : Type 0} → (L → Plan → Option ℕ → Type 0) → (L → Option Said → Spot) → (L → ℕ) → Type 0
IsNamed {L} runs spot name_of = (p : Plan) (l : L) (k : ℕ) → runs l p None → Begins (spot l) k → name_of l ≡ k

module _ {L : Type 0} (runs : L → Plan → Option ℕ → Type 0) (holds : L → Option Said → List ℕ) (spot : L → Option Said → Spot) where
  -- A body that is new begins the script of this number in the plan, wherever that may run, and holds nothing.
  pub record IsBorn (p : Plan) (k : ℕ) (l : L) : Type 0 where
    pub runs_it : (home : Option ℕ) → MayRunScript p.config.workers home → runs l p home
    pub begins : Begins (spot l) k
    pub holding : holds l (Some Said.Start) ≡ []

module _ {B L : Type 0} (left : B → L) (runs : L → Plan → Option ℕ → Type 0) (holds : L → Option Said → List ℕ) (spot : L → Option Said → Spot) where
  -- the body that the act makes, if any, is that of the word
  abbrev pub MakesBody : Plan → ScriptWord → Act B → Type 0
  MakesBody p w (Act.Spawn b) = (k : ℕ) → w ≡ ScriptWord.Spawn k → IsBorn runs holds spot p k (left b)
  MakesBody p w (Act.Dedicated b) = (k : ℕ) → w ≡ ScriptWord.Dedicated k → IsBorn runs holds spot p k (left b)
  MakesBody p w a = Unit {0}

module _ {B L : Type 0} (runs : L → Plan → Option ℕ → Type 0) (holds : L → Option Said → List ℕ) (spot : L → Option Said → Spot) (gives : L → Option Sight → Said → Act B → L → Option Sight → Type 0) where
  -- What a body that isn't through is left to do, for a task that held these requests.
  pub record GoesOn (p : Plan) (t : Task) (a : Act B) (l' : L) : Type 0 where
    pub runs_on : runs l' p t.home
    pub holding : (answer : Said) → IsAnswer a answer → holds l' (Some answer) ≡ held_after a answer t.held
    pub refused : spot l' (Some (Said.Refused NoMemory)) ≡ spot_of t
    pub refused_holding : holds l' (Some (Said.Refused NoMemory)) ≡ t.held

module _ {B L : Type 0} (left : B → L) (runs : L → Plan → Option ℕ → Type 0) (holds : L → Option Said → List ℕ) (spot : L → Option Said → Spot) (gives : L → Option Sight → Said → Act B → L → Option Sight → Type 0) where
  -- One step of a body that is told this, for a task of the machine that stands where the body does and holds what it holds:
  -- it makes the act of the task's next word. Then it stands past that word, unless it is through.
  pub record StepPlays (p : Plan) (s : Common) (t : Task) (moment : ℕ) (a : Act B) (l' : L) : Type 0 where
    pub asks : Asks p.config moment t.held (next_word s t) a
    pub makes : MakesBody left runs holds spot p (next_word s t) a
    pub stands : spot l' None ≡ (if is_last a then spot_of t else spot_of (moved_on s t))
    pub covers : Covers s a
    pub code : IsCodeOf p.config.workers t.home t.code
    pub goes_on : is_last a ≡ false → GoesOn runs holds spot gives p t a l'

  abbrev pub Plays : Type 0
  Plays =
      (p : Plan) (s : Common) (t : Task) (sight sight' : Sight) (l l' : L) (told : Said) (a : Act B)
      → runs l p t.home → s.scripts ≡ p.scripts → s.root ≡ p.root → IsSeen sight s
      → gives l (Some sight) told a l' (Some sight') → spot l (Some told) ≡ spot_of t → holds l (Some told) ≡ t.held
      → StepPlays p s t sight.moment a l'
