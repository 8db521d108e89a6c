-- Words to write logs by: each line of a log with what it leaves open.
use Rattle.std.specs.Prelude.{◌≡◌, ℕ, Bool, true, List, [], Some, replicate, map}
use Rattle.exec_machine.specs.{declared.{config.Configuration.Configuration, step.{Step.Step, Action.Action}, event.{Event.{Event, TheVariants.{Turn, Wake, Send}}, StepResult.TheVariants.{Refused, Did}, Line.Line}, state.MailMessage.MailMessage as message}, Choice.{Choice, Payer, Choice.{Plain, Passes, Pays, Posts}}, Run.{after_steps, is_run}, Progress.{Plan, begin, no_stretch, is_solo, is_always_rightly_asleep}}
use Rattle.exec_machine.specs.declared.step.Action.TheVariants as action

-- a configuration to look at
abbrev pub usual : Configuration
usual =
    record {
      workers = 1;
      interval = 31;
      ring = 16;
      tick = 5000000;
      connect = 10000000;
      rw = 10000000;
      spin = record { budget = 0; most = 0; quick = 0; iterations = 0 };
      files = 1;
      sockets = 1;
    }

-- a line, and what it leaves open
abbrev pub Told : Type 0
Told = Line × Choice

-- the step, and what happens, which leaves nothing open
abbrev pub says : Action → Event → Told
says a e = (record { action = a; said = Did e }, Plain)

-- the worker's step
abbrev pub does : ℕ → Event → Told
does i e = says (action.Work i) e

-- the step is refused
abbrev pub refuses : Action → Told
refuses a = (record { action = a; said = Refused }, Plain)

-- the worker passes the shutdown barrier by this turn
abbrev pub passes : ℕ → Told
passes i = (record { action = action.Work i; said = Did Turn }, Passes)

-- the step wakes the task, and this pays for it
abbrev pub pays : Action → ℕ → Payer → Told
pays a t payer = (record { action = a; said = Did (Wake t) }, Pays payer)

-- the step sends a root message to the worker, this pays for it, and it may be left out
abbrev pub posts : Action → ℕ → Payer → Bool → Told
posts a to payer left_out = (record { action = a; said = Did (Send to message.Root) }, Posts payer left_out)

abbrev pub times : ℕ → Told → List Told
times n line = replicate n line

abbrev pub lines_of : List Told → List Line
lines_of told = map (λ it. it.0) told

abbrev pub choices_of : List Told → List Choice
choices_of told = map (λ it. it.1) told

-- what a trace sets up, the steps that it asks for, and a log of it
pub record Example : Type 0 where
  pub plan : Plan
  pub steps : List Step
  pub told : List Told

-- The log is a good one: each step has its lines, they are a run, no party turns for ever, and no worker sleeps on
-- work.
pub record IsGood (e : Example) : Type 0 where
  pub has_lines : after_steps e.steps (lines_of e.told) ≡ Some []
  pub runs : is_run e.plan.config (begin e.plan) (lines_of e.told) (choices_of e.told) ≡ true
  pub solo : is_solo e.plan.config (begin e.plan) no_stretch (lines_of e.told) (choices_of e.told) ≡ true
  pub asleep : is_always_rightly_asleep e.plan.config (begin e.plan) (lines_of e.told) (choices_of e.told) ≡ true
