-- What an act of a polled body is to the machine.
use Rattle.std.specs.Prelude.{◌≡◌, if◌then◌else◌}
use Rattle.exec_invariants.specs.{Words.{ℕ, false, List, Option, Some, None, Sight, Act, Said, Event, Plan, next_word, moved_on, Common, InPoll, Place, numbers_held, Shared, TaskSlot, Worker, is_complete, MadeAct, OfSlot, Asks, Covers, GoesOn, IsCodeOf, MakesBody, is_last, Spot, spot_of, Views, common_of, task_seen, body_in}, Hearing.{CanHear, held_once_come}, Sound.{Sound, SoundAt}, Works.{Suits, BesideWith, WorksWith}}

module _ {B L : Type 0} (left : B → L) (runs : L → Plan → Option ℕ → Type 0) (holds : L → Option Said → List ℕ) where
  -- The body of a task that isn't over and can still be told something runs the plan, and then knows what its task holds.
  pub record Performs (p : Plan) (slot : TaskSlot B) : Type 0 where
    pub runs_it : (b : B) (answer : Said) → body_in slot.cell.phase slot.body ≡ Some b → CanHear slot.told slot.waiting answer → is_complete slot.cell.phase ≡ false → runs (left b) p slot.home
    pub holding : (b : B) (answer : Said) → body_in slot.cell.phase slot.body ≡ Some b → CanHear slot.told slot.waiting answer → is_complete slot.cell.phase ≡ false → holds (left b) (Some answer) ≡ held_once_come slot.waiting (numbers_held slot.held.items)

  -- The bodies of all tasks perform this plan.
  abbrev pub PerformsAll : Plan → Shared B → Type 0
  PerformsAll p s = (t : ℕ) → OfSlot t s (Performs p)

  -- They perform a plan of this configuration.
  abbrev pub PerformsOne : Shared B → Type 0
  PerformsOne s = (p : Plan) × (s.config ≡ p.config) × PerformsAll p s

  -- A worker has the same root, the configuration stays, and tasks that perform a plan of this go on to.
  pub record StillPerforms (w : Worker) (s : Shared B) (w' : Worker) (s' : Shared B) : Type 0 where
    pub root : w'.root ≡ w.root
    pub config : s'.config ≡ s.config
    pub performs : (p : Plan) → s.config ≡ p.config → PerformsAll p s → PerformsAll p s'

module _ {B L : Type 0} (left : B → L) (runs : L → Plan → Option ℕ → Type 0) (holds : L → Option Said → List ℕ) (spot : L → Option Said → Spot) where
  -- What a step does for each plan that suits and that all tasks perform, what holds then, and what it leaves of others. It
  -- may have made a worker.
  abbrev pub StepsWith : Option Worker → Worker → Shared B → Event → Worker → Shared B → Type 0
  StepsWith born w s e w' s' =
      ((p : Plan) (vs : Views) → Suits p vs w s → PerformsAll left runs holds p s → WorksWith left spot born p vs w s e w' s')
      × Sound w' s' × StillPerforms left runs holds w s w' s' × BesideWith born w s e w' s'

  -- where it made none
  abbrev pub StepsOf : Worker → Shared B → Event → Worker → Shared B → Type 0
  StepsOf w s e w' s' = StepsWith None w s e w' s'

module _ {B L : Type 0} (left : B → L) (runs : L → Plan → Option ℕ → Type 0) (holds : L → Option Said → List ℕ) (spot : L → Option Said → Spot) (gives : L → Option Sight → Said → Act B → L → Option Sight → Type 0) where
  -- The body made the act of its task's next word, and stands past that word unless it is through.
  pub record ActsAs (s : Common) (p : Plan) (moment : ℕ) (slot : TaskSlot B) (b' : B) (a : Act B) : Type 0 where
    pub asks : Asks p.config moment (numbers_held slot.held.items) (next_word s (task_seen left spot slot)) a
    pub makes : MakesBody left runs holds spot p (next_word s (task_seen left spot slot)) a
    pub stands : spot (left b') None ≡ (if is_last a then spot_of (task_seen left spot slot) else spot_of (moved_on s (task_seen left spot slot)))
    pub covers : Covers s a
    pub code : IsCodeOf p.config.workers slot.home (task_seen left spot slot).code
    pub goes_on : is_last a ≡ false → GoesOn runs holds spot gives p (task_seen left spot slot) a (left b')

  -- The body of task t, which the worker polls, made this act, which each plan asks for that it performs.
  pub record HasActed (t : ℕ) (w : Worker) (s s1 : Shared B) (a : Act B) : Type 0 where
    pub sound : SoundAt (Place.Poll t InPoll.Act) w s
    pub made : MadeAct left gives t w.moments.sampled s s1 a
    pub asks : (p : Plan) (vs : Views) → Performs left runs holds p made.slot → ActsAs (common_of left spot p vs s) p w.moments.sampled made.slot made.acts.body' a
    pub one : (p : Plan) × (s.config ≡ p.config) × Performs left runs holds p made.slot
