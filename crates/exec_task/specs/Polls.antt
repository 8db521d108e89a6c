-- What one poll of a task does, from what its body is told first to its last section.
use Rattle.std.specs.Prelude.{◌≡◌, ℕ, ◌+◌, ◌-◌, ◌^◌, ◌<◌, ◌⊎◌, Option, Some, None}
use Rattle.exec_task.specs.{declared.body.Act.Act, declared.body.Said.Said, declared.body.Ended.Ended, declared.poll.Asked.Asked, declared.poll.Turn.Turn, declared.runnable.AfterPoll.AfterPoll, declared.runnable.Runnable.Runnable, Sight.Sight, Sight.WouldGrow}

-- how the task ends, where the act says that its body is through
abbrev pub ended_by : {B : Type 0} → Act B → Option Ended
ended_by (Act.Done result) = Some (Ended.Done result)
ended_by (Act.Fault code) = Some (Ended.Fault code)
ended_by _ = None

-- who polls, the task's cell, and the body
pub record Polled (W C B : Type 0) : Type 0 where
  pub worker : W
  pub cell : C
  pub body : B

-- One step of a body that is told this, beside who polls it: the act that it makes. None where there is no memory
-- for the act; then nothing changes.
module _ {B L W : Type 0} (left : B → L) (gives : L → Option Sight → Said → Act B → L → Option Sight → Type 0) (sees : W → Option Sight) where
  abbrev pub StepsTo : W → B → Said → Option (Act B) → W → B → Type 0
  StepsTo w b said (Some act) w' b' = gives (left b) (sees w) said act (left b') (sees w')
  StepsTo w b said None w' b' = WouldGrow gives (left b) (sees w) said × (b' ≡ b) × (sees w' ≡ sees w)

module _ {W C B : Type 0} (steps : W → B → Said → Option (Act B) → W → B → Type 0) (carries : W → C → Asked B → Option Said → W → C → Type 0) where
  -- the act of one step, which was carried out with this answer
  pub record CarriedOut (p : Polled W C B) (said : Said) (told : Option Said) (q : Polled W C B) : Type 0 where
    pub act : Act B
    pub between : W
    pub stepped : steps p.worker p.body said (Some act) between q.body
    pub goes_on : ended_by act ≡ None
    pub carried : carries between p.cell (Asked.CarryOut act) told q.worker q.cell

  -- there was no memory for the act of one step: who polls was handed what the body was told, and gave this answer
  pub record HandedBack (p : Polled W C B) (said : Said) (told : Option Said) (q : Polled W C B) : Type 0 where
    pub between : W
    pub refused : steps p.worker p.body said None between q.body
    pub carried : carries between p.cell (Asked.NoMemory said) told q.worker q.cell

  -- One turn of a poll: the body is told this, and is through; or who polls carries out its act, or keeps what it was
  -- told, and leaves it waiting, or tells it what is next.
  abbrev pub Turns : Polled W C B → Said → Turn → Polled W C B → Type 0
  Turns p said (Turn.Through how) q = (act : Act B) × steps p.worker p.body said (Some act) q.worker q.body × (ended_by act ≡ Some how) × (q.cell ≡ p.cell)
  Turns p said Turn.Waits q = CarriedOut p said None q ⊎ HandedBack p said None q
  Turns p said (Turn.Told told) q = CarriedOut p said (Some told) q ⊎ HandedBack p said (Some told) q

  module _ (pends : C → B → AfterPoll → C → Type 0) (ends : C → Ended → AfterPoll → C → Type 0) where
    -- From here, with the body told this, the poll comes to that answer within so many turns, and leaves these. A
    -- poll that has made them all is given up, as if the task had been cleared.
    pub data Polls : ℕ → Polled W C B → Said → AfterPoll → W → C → Type 0 where
      Ends : (left : ℕ) (p q : Polled W C B) (said : Said) (how : Ended) (answer : AfterPoll) (c : C) → 0 < left → Turns p said (Turn.Through how) q → ends q.cell how answer c → Polls left p said answer q.worker c
      Pends : (left : ℕ) (p q : Polled W C B) (said : Said) (answer : AfterPoll) (c : C) → 0 < left → Turns p said Turn.Waits q → pends q.cell q.body answer c → Polls left p said answer q.worker c
      GoesOn : (left rest : ℕ) (p q : Polled W C B) (said told : Said) (answer : AfterPoll) (w : W) (c : C) → left ≡ rest + 1 → Turns p said (Turn.Told told) q → Polls rest q told answer w c → Polls left p said answer w c
      Tires : (left : ℕ) (p : Polled W C B) (said : Said) (answer : AfterPoll) (c : C) → left ≡ 0 → ends p.cell Ended.Closed answer c → Polls left p said answer p.worker c

    -- A whole poll with a runnable: it is stale, and nothing happens; or the body still waits; or it is told what
    -- came of that, and the poll runs.
    pub data PollsTask (begins : C → Runnable → Option B → C → Type 0) (runnable : Runnable) (c : C) (w : W) : AfterPoll → W → C → Type 0 where
      Stale : (c' : C) → begins c runnable None c' → PollsTask begins runnable c w AfterPoll.Done w c'
      StillWaits : (b : B) (d e c' : C) (w' : W) (answer : AfterPoll) → begins c runnable (Some b) d → carries w d Asked.Resume None w' e → pends e b answer c' → PollsTask begins runnable c w answer w' c'
      Runs : (b : B) (d e c' : C) (v w' : W) (told : Said) (answer : AfterPoll) → begins c runnable (Some b) d → carries w d Asked.Resume (Some told) v e → Polls (2 ^ 64 - 1) (record { worker = v; cell = e; body = b }) told answer w' c' → PollsTask begins runnable c w answer w' c'
