-- What it means that a line may not come in a state that a log reaches.
use Rattle.std.specs.Prelude.{◌≡◌, ℕ, suc, Bool, true, false, ◌-◌, List, [], ◌∷◌, ◌++◌, None, map, take, drop}
use Rattle.exec_machine.specs.{declared.{config.Configuration.Configuration, step.Action.Action, event.{Event.{Event, TheVariants.Sleep}, StepResult.TheVariants.Did}}, Choice.Choice, World.World, Run.{tests_of_line, is_run, world_after}, Progress.{begin, is_rightly_asleep}, Examples.{Example, Told, does, lines_of, choices_of}}

-- A line in place of the one that follows so many lines of a log, and the places of the tests that it fails: at 0
-- whether the step may be taken, and from 1 on those of the event, in the order in which its definition has them.
pub record Refusal : Type 0 where
  pub after : ℕ
  pub told : Told
  pub tests : List ℕ

-- it fails this test alone
abbrev pub fails : ℕ → Told → ℕ → Refusal
fails after told test = record { after = after; told = told; tests = test ∷ [] }

-- it fails these two
abbrev pub fails_twice : ℕ → Told → ℕ → ℕ → Refusal
fails_twice after told first second = record { after = after; told = told; tests = first ∷ second ∷ [] }

-- the step, what happens, and what is said of what that leaves open
abbrev pub leaves : Action → Event → Choice → Told
leaves a e choice = (record { action = a; said = Did e }, choice)

-- the places of those that fail, counted from n on
abbrev pub failing : ℕ → List Bool → List ℕ
failing n [] = []
failing n (true ∷ tests) = failing (suc n) tests
failing n (false ∷ tests) = n ∷ failing (suc n) tests

-- the places of the tests that the line fails in this state
abbrev pub tests_failed : Configuration → World → Told → List ℕ
tests_failed c w it = failing 0 (tests_of_line c w it.0.action it.0.said it.1)

-- From this state, which so many lines have reached, with these lines still to come: what each line fails, in order.
abbrev pub failed_by : Configuration → World → ℕ → List Told → List Refusal → List (List ℕ)
failed_by c w n told [] = []
failed_by c w n told (it ∷ rest) =
    let lines = take (it.after - n) told in
    let reached = world_after c w (lines_of lines) (choices_of lines) in
    tests_failed c reached it.told ∷ failed_by c reached it.after (drop (it.after - n) told) rest

-- Each of these lines, in order of places in the log, fails the tests that it is said to fail, and no other.
abbrev pub AreRefused : Example → List Refusal → Type 0
AreRefused e refusals = failed_by e.plan.config (begin e.plan) 0 e.told refusals ≡ map (λ it. it.tests) refusals

-- so many lines of the log, and these
abbrev pub followed_by : Example → ℕ → List Told → List Told
followed_by e n told = take n e.told ++ told

-- The worker sleeps after so many lines of the log and these, which are a run with them: rightly, or on work.
pub record Sleeps (e : Example) (n : ℕ) (told : List Told) (rightly : Bool) : Type 0 where
  pub runs : is_run e.plan.config (begin e.plan) (lines_of (followed_by e n told)) (choices_of (followed_by e n told)) ≡ true
  pub rests :
      is_rightly_asleep e.plan.config (world_after e.plan.config (begin e.plan) (lines_of (followed_by e n told)) (choices_of (followed_by e n told)))
      ≡ rightly

-- the worker sleeps until something wakes it
abbrev pub sleeps_on : Told
sleeps_on = does 0 (Sleep None)
