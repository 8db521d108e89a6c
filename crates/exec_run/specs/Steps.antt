-- What the functions that take the steps of a trace do.
use Rattle.std.specs.Prelude.{◌≡◌, ℕ, Bool, ◌+◌, ◌⊎◌, List, [], ◌∷◌, ◌++◌, Option, Some}
use Rattle.exec_base.specs.Io.{Rose}
use Rattle.exec_core.specs.{declared.executor.Core.Core, Lift.{IsReady, Shows}, Steady.{IsSteady, IsSteadyThere, KeepsOn}, Turns.IsOrderly}
use Rattle.exec_machine.specs.{declared.{event.Line.Line, step.{Step.Step, Action.Action}}, Run.{Follows, after_work, after_steps}, Progress.Plan, Examples.{Told, lines_of}, Text.{text_of_line, text_of_log, told_lines}}
use Rattle.exec_moves.specs.{Plays.{Playing, by_step}, Departures.played}
use Rattle.exec_parts.specs.Spots.{Spot}
use Rattle.exec_progress.specs.Paced.{IsPaced}
use Rattle.exec_run.specs.{declared.{trace_error.TraceError.{TraceError, TheVariants.{ReadFault, TooLong, Syntax, Config, WriteFault, NoMemory}}, complaint.Complaint.Complaint}, Refusal.status_of, Explains.complaint_line, Log.{Gave, GaveFront, GaveFrontOfLog, AreTaken, told_text}}
use Rattle.exec_task.specs.declared.body.Said.{Said}
use Rattle.exec_text.specs.Grammar.{Meaning}

-- why a run broke off: the sink failed, or it did not and there was no memory
abbrev pub BrokeBy : TraceError → ℕ → ℕ → Type 0
BrokeBy WriteFault old new = Rose old new
BrokeBy NoMemory old new = new ≡ old
BrokeBy ReadFault old new = ⊥
BrokeBy (TooLong count) old new = ⊥
BrokeBy (Syntax line) old new = ⊥
BrokeBy (Config it) old new = ⊥

-- What was given where a run broke off: nothing, where there was no memory for the executor, or a front of a log.
abbrev pub GaveUpTo : TraceError → Bool → Meaning → Option (List ℕ) → Option (List ℕ) → Type 0
GaveUpTo e quiet m old new = ((e ≡ NoMemory) × (new ≡ old)) ⊎ GaveFrontOfLog quiet m old new

-- a line and its line feed
abbrev pub whole_line : Line → List ℕ
whole_line l = text_of_line l ++ 10 ∷ []

-- what is given of this line
abbrev pub told_of_line : Bool → Line → List ℕ
told_of_line quiet l = text_of_log (told_lines quiet (l ∷ []))

-- A line, with what it leaves open, is what its step tells: it follows in the machine, to an orderly state; and it keeps what each state
-- has, so that nobody sleeps on work and no worker turns for ever.
pub record IsStep (p : Plan) (x : Playing) (it : Told) : Type 0 where
  pub tells : it ≡ (by_step p.config x it.0.action).told
  pub follows : Follows p.config x.world it.0.action it.0.said it.1
  pub orderly : IsOrderly (by_step p.config x it.0.action).next
  pub rests : IsSteady p.config x → IsSteadyThere p.config (by_step p.config x it.0.action).next
  pub turns : (n : ℕ) → IsSteady p.config x → IsPaced n p.config x → KeepsOn n p.config x it.0.action

-- so is each of these, one after another
abbrev pub Goes : Plan → Playing → List Told → Type 0
Goes p x [] = Unit {0}
Goes p x (it ∷ told) = IsStep p x it × Goes p (by_step p.config x it.0.action).next told

-- A line could not be taken, or not be told as a whole.
pub record BreaksLine (quiet : Bool) (p : Plan) (x : Playing) (a : Action) (old new : Option (List ℕ)) : Type 0 where
  pub it : Told
  pub action : it.0.action ≡ a
  pub step : IsStep p x it
  pub gave : GaveFront old new (told_of_line quiet it.0)

-- The steps were not all taken, or the last line not told as a whole.
pub record Breaks (quiet : Bool) (p : Plan) (x : Playing) (steps : List Step) (old new : Option (List ℕ)) : Type 0 where
  pub taken : List Step
  pub are_taken : AreTaken taken steps
  pub told : List Told
  pub has_lines : after_steps taken (lines_of told) ≡ Some []
  pub goes : Goes p x told
  pub gave : GaveFront old new (told_text quiet told)

-- from what an executor showed, what it shows then
module _ {B L : Type 0} (left : B → L) (runs : L → Plan → Option ℕ → Type 0) (holds : L → Option Said → List ℕ) (spot : L → Option Said → Spot) (known : Plan → Type 0) where
  -- It is ready, and shows this for a plan whose scripts are known.
  pub record StandsAt (p : Plan) (c : Core B) (x : Playing) : Type 0 where
    pub ready : IsReady left runs holds p c
    pub shows : Shows left runs holds spot p c x
    pub knows : known p

  -- One line was taken and told.
  pub record TakesLine (quiet : Bool) (p : Plan) (x : Playing) (a : Action) (l : Line) (core : Core B) (old new : Option (List ℕ)) : Type 0 where
    pub it : Told
    pub line : it.0 ≡ l
    pub action : it.0.action ≡ a
    pub step : IsStep p x it
    pub stands : StandsAt p core (by_step p.config x it.0.action).next
    pub gave : Gave old new (told_of_line quiet it.0)

  -- So many lines of a worker were taken and told, and none was refused.
  pub record Works (quiet : Bool) (p : Plan) (x : Playing) (worker count : ℕ) (core : Core B) (old new : Option (List ℕ)) : Type 0 where
    pub told : List Told
    pub accepted : (n : ℕ) (ls : List Line) → after_work worker (count + n) (lines_of told ++ ls) ≡ after_work worker n ls
    pub goes : Goes p x told
    pub stands : StandsAt p core (played p.config x told)
    pub gave : Gave old new (told_text quiet told)

  -- The lines of the steps were taken and told.
  pub record Leads (quiet : Bool) (p : Plan) (x : Playing) (steps : List Step) (core : Core B) (old new : Option (List ℕ)) : Type 0 where
    pub told : List Told
    pub has_lines : (ss : List Step) (ls : List Line) → after_steps (steps ++ ss) (lines_of told ++ ls) ≡ after_steps ss ls
    pub goes : Goes p x told
    pub stands : StandsAt p core (played p.config x told)
    pub gave : Gave old new (told_text quiet told)

-- A complaint was written and passed on, or broke off where the sink failed.
abbrev pub Complains : Complaint → ℕ → Option (List ℕ) → Option (List ℕ) → Option (List ℕ) → ℕ → ℕ → Type 0
Complains x status old new passed written written' =
    ((status ≡ status_of x) × Gave old new (complaint_line x) × (passed ≡ new) × (written' ≡ written))
    ⊎ ((status ≡ 6) × Rose written written' × GaveFront old new (complaint_line x))
