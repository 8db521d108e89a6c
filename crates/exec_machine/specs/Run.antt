-- Which list of lines is the log of a run.
use Rattle.std.specs.{Prelude.{ℕ, zero, suc, Bool, true, false, not, ◌==◌, ◌&&◌, if◌then◌else◌, List, [], ◌∷◌, Option, Some, None, option_and_then, replicate}, List.list_all}
use Rattle.exec_machine.specs.{declared.{config.{Configuration.Configuration, ScriptWord.ScriptWord}, step.{Step.{Step, Step as step}, Action.{Action, Action as action}}, event.{Event.Event, StepResult.{StepResult, TheVariants.{Refused, Did}}, Line.Line}, state.{Code.{Code, Code as code}, Call.Call as call}}, Choice.Choice, Same.same_result, World.{World, Own, Task, Common, no_open, own_of}, Tests.AllTrue, Tasks.{new_task, new_own, new_seat}, Allowed.allowed, After.after, Callers.{is_enabled, may_spawn_by_call, may_wake_by_call, may_go_on_by, is_told_as, common_by}}

-- LINES

-- what an event of an enabled step has to pass
abbrev pub tests_of_event : Configuration → World → Action → Event → Choice → List Bool
tests_of_event c w (action.Work i) e choice = allowed c (own_of w i) w.common i e choice
tests_of_event c w (action.Spawn j k) e choice = may_spawn_by_call w.common k e
tests_of_event c w (action.Wake j t) e choice = may_wake_by_call w.common t e choice
tests_of_event c w (action.GoOn j) e choice = may_go_on_by w.common e
tests_of_event c w a e choice = is_told_as a e ∷ []

-- A step that is not enabled is refused; any other has an event that may come.
abbrev pub tests_of_line : Configuration → World → Action → StepResult → Choice → List Bool
tests_of_line c w a Refused choice = not (is_enabled w.common a) ∷ []
tests_of_line c w a (Did e) choice = is_enabled w.common a ∷ tests_of_event c w a e choice

abbrev pub Follows : Configuration → World → Action → StepResult → Choice → Type 0
Follows c w a said choice = AllTrue (tests_of_line c w a said choice)

abbrev pub after_event : Configuration → World → Action → Event → Choice → World
after_event c w (action.Work i) e choice = after c w i e choice
after_event c w a e choice = record w { common = common_by w.common a e choice }

-- A refused step changes nothing.
abbrev pub after_line : Configuration → World → Action → StepResult → Choice → World
after_line c w a Refused choice = w
after_line c w a (Did e) choice = after_event c w a e choice

-- RUNS

-- The lines are a run from this state on, by these choices, one for each line.
abbrev pub RunsBy : Configuration → World → List Line → List Choice → Type 0
RunsBy c w [] [] = Unit {0}
RunsBy c w (l ∷ ls) (choice ∷ choices) =
    Follows c w l.action l.said choice × RunsBy c (after_line c w l.action l.said choice) ls choices
RunsBy c w [] (choice ∷ choices) = ⊥
RunsBy c w (l ∷ ls) [] = ⊥

-- the same as a test that computes
abbrev pub is_run : Configuration → World → List Line → List Choice → Bool
is_run c w [] [] = true
is_run c w (l ∷ ls) (choice ∷ choices) =
    list_all (λ test. test) (tests_of_line c w l.action l.said choice) && is_run c (after_line c w l.action l.said choice) ls choices
is_run c w [] (choice ∷ choices) = false
is_run c w (l ∷ ls) [] = false

-- the state after such a run
abbrev pub world_after : Configuration → World → List Line → List Choice → World
world_after c w [] choices = w
world_after c w (l ∷ ls) [] = w
world_after c w (l ∷ ls) (choice ∷ choices) = world_after c (after_line c w l.action l.said choice) ls choices

-- THE LINES OF A STEP

abbrev pub same_action : Action → Action → Bool
same_action (action.Work i) (action.Work j) = i == j
same_action (action.Spawn i k) (action.Spawn j n) = (i == j) && (k == n)
same_action (action.Wake i t) (action.Wake j n) = (i == j) && (t == n)
same_action (action.GoOn i) (action.GoOn j) = i == j
same_action (action.Clock i) (action.Clock j) = i == j
same_action (action.Land r m) (action.Land q n) = (r == q) && same_result m n
same_action (action.SetBusy i) (action.SetBusy j) = i == j
same_action (action.EndPoll i) (action.EndPoll j) = i == j
same_action (action.Stir i) (action.Stir j) = i == j
same_action (action.Peer i) (action.Peer j) = i == j
same_action _ _ = false

abbrev pub is_refused : StepResult → Bool
is_refused Refused = true
is_refused (Did e) = false

-- What comes after the lines of `w i n`: these are n, or fewer of which the last is the first refused.
abbrev pub after_work : ℕ → ℕ → List Line → Option (List Line)
after_work i zero ls = Some ls
after_work i (suc n) [] = None
after_work i (suc n) (l ∷ ls) =
    if same_action (action.Work i) l.action then (if is_refused l.said then Some ls else after_work i n ls) else None

-- what comes after the one line of this action
abbrev pub after_one : Action → List Line → Option (List Line)
after_one a [] = None
after_one a (l ∷ ls) = if same_action a l.action then Some ls else None

-- what comes after the lines of a step
abbrev pub after_step : Step → List Line → Option (List Line)
after_step (step.Work i n) ls = after_work i n ls
after_step (step.One a) ls = after_one a ls

-- what comes after the lines of the steps, in order
abbrev pub after_steps : List Step → List Line → Option (List Line)
after_steps [] ls = Some ls
after_steps (s ∷ ss) ls = option_and_then (after_steps ss) (after_step s ls)

-- THE FIRST STATE

-- so many workers of the pool, from this number on, with their roots: task zero runs the root line, each other waits
abbrev pub first_owns : ℕ → ℕ → List Own
first_owns zero i = []
first_owns (suc more) i = new_own 0 i ∷ first_owns more (suc i)

abbrev pub first_tasks : ℕ → ℕ → List Task
first_tasks zero i = []
first_tasks (suc more) i = new_task (code_of i) (Some i) ∷ first_tasks more (suc i)
  where
    code_of : ℕ → Code
    code_of zero = code.Root
    code_of (suc i) = code.Waits

abbrev pub first_common : Configuration → List (List ScriptWord) → List ScriptWord → Common
first_common c scripts root =
    record {
      clock = 0;
      seats = replicate c.workers (new_seat true);
      scripts = scripts;
      root = root;
      tasks = first_tasks c.workers 0;
      requests = [];
      sleepers = [];
      opens = replicate c.files no_open;
      listeners = replicate c.sockets 0;
      next_socket = c.sockets;
      callers = replicate 16 call.Nothing;
      set_closed = false;
      queue_closed = false;
      stopped = false;
    }

-- the state in which a run of these scripts begins
abbrev pub first_world : Configuration → List (List ScriptWord) → List ScriptWord → World
first_world c scripts root = record { workers = first_owns c.workers 0; common = first_common c scripts root }
