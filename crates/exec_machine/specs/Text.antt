-- How a log is written.
use Rattle.std.specs.{Prelude.{ℕ, Bool, true, false, not, List, [], ◌∷◌, ◌++◌, Option, Some, None, codes, filter, if◌then◌else◌}, Fmt.decimal, List.flat_map}
use Rattle.exec_outcomes.specs.{declared.outcome.Outcome.Outcome, Text.{text_of_result, text_of_outcome, text_of_kind}}
use Rattle.exec_machine.specs.declared.{state.MailMessage.MailMessage, step.Action.{Action, Action as action}, event.{Event.Event, StepResult.{StepResult, TheVariants.{Refused, Did}}, Line.Line}}
use Rattle.exec_machine.specs.declared.state.MailMessage.TheVariants as message
use Rattle.exec_machine.specs.declared.event.Event.TheVariants as event

-- a step of a log line
abbrev pub text_of_action : Action → List ℕ
text_of_action (action.Work worker) = codes "w " ++ decimal worker
text_of_action (action.Spawn caller script) = codes "x " ++ decimal caller ++ codes " spawn " ++ decimal script
text_of_action (action.Wake caller task) = codes "x " ++ decimal caller ++ codes " wake " ++ decimal task
text_of_action (action.GoOn caller) = codes "x " ++ decimal caller
text_of_action (action.Clock by) = codes "c " ++ decimal by
text_of_action (action.Land request result) = codes "k " ++ decimal request ++ 32 ∷ text_of_result result
text_of_action (action.SetBusy worker) = codes "b " ++ decimal worker
text_of_action (action.EndPoll worker) = codes "m " ++ decimal worker
text_of_action (action.Stir worker) = codes "e " ++ decimal worker
text_of_action (action.Peer listener) = codes "l " ++ decimal listener

abbrev pub text_of_message : MailMessage → List ℕ
text_of_message message.Root = codes "root"
text_of_message (message.ForwardRequest request) = codes "forward " ++ decimal request
text_of_message (message.ForwardTimer timer) = codes "forward timer " ++ decimal timer
text_of_message (message.CancelRequest request) = codes "cancel " ++ decimal request
text_of_message (message.CancelTimer timer) = codes "cancel timer " ++ decimal timer

-- a space and the outcome, where there is one
abbrev pub text_of_end : Option Outcome → List ℕ
text_of_end None = []
text_of_end (Some outcome) = 32 ∷ text_of_outcome outcome

-- the outcome, or `more`
abbrev pub text_of_verdict : Option Outcome → List ℕ
text_of_verdict None = codes "more"
text_of_verdict (Some outcome) = text_of_outcome outcome

-- an event of a request, and of any other nothing
abbrev pub text_of_request : Event → List ℕ
text_of_request (event.Admit request kind outcome) = codes "admit " ++ decimal request ++ 32 ∷ text_of_kind kind ++ text_of_end outcome
text_of_request (event.Wait None) = codes "wait none"
text_of_request (event.Wait (Some request)) = codes "wait " ++ decimal request
text_of_request (event.Got request outcome) = codes "got " ++ decimal request ++ 32 ∷ text_of_outcome outcome
text_of_request (event.Drop request) = codes "drop " ++ decimal request
text_of_request (event.Grant request outcome) = codes "grant " ++ decimal request ++ text_of_end outcome
text_of_request (event.Enrol request outcome) = codes "enrol " ++ decimal request ++ text_of_end outcome
text_of_request (event.Stage request) = codes "stage " ++ decimal request
text_of_request (event.Reap request result outcome) = codes "reap " ++ decimal request ++ 32 ∷ text_of_result result ++ 32 ∷ text_of_verdict outcome
text_of_request (event.Expire request outcome) = codes "expire " ++ decimal request ++ text_of_end outcome
text_of_request (event.Cancel request) = codes "cancel " ++ decimal request
text_of_request (event.Orphan request outcome) = codes "orphan " ++ decimal request ++ text_of_end outcome
text_of_request (event.Release request) = codes "release " ++ decimal request
text_of_request _ = []

abbrev pub text_of_event : Event → List ℕ
text_of_event (event.Begin task) = codes "begin " ++ decimal task
text_of_event (event.Pend task) = codes "pend " ++ decimal task
text_of_event (event.Done task) = codes "done " ++ decimal task
text_of_event (event.Fault task code) = codes "fault " ++ decimal task ++ 32 ∷ decimal code
text_of_event (event.Spawn task script) = codes "spawn " ++ decimal task ++ 32 ∷ decimal script
text_of_event (event.Dedicated task worker) = codes "dedicated " ++ decimal task ++ 32 ∷ decimal worker
text_of_event (event.Clear task) = codes "clear " ++ decimal task
text_of_event (event.Timer timer until) = codes "timer " ++ decimal timer ++ 32 ∷ decimal until
text_of_event (event.GotTimer timer) = codes "got timer " ++ decimal timer
text_of_event (event.Wake task) = codes "wake " ++ decimal task
text_of_event (event.Fire timer) = codes "fire " ++ decimal timer
text_of_event (event.Send worker message) = codes "send " ++ decimal worker ++ 32 ∷ text_of_message message
text_of_event (event.Apply message) = codes "apply " ++ text_of_message message
text_of_event (event.Rouse worker) = codes "rouse " ++ decimal worker
text_of_event (event.Sleep None) = codes "sleep ever"
text_of_event (event.Sleep (Some until)) = codes "sleep " ++ decimal until
text_of_event event.Turn = codes "turn"
text_of_event event.Serve = codes "serve"
text_of_event event.Closed = codes "closed"
text_of_event event.Pass = codes "got pass"
text_of_event event.Enter = codes "enter"
text_of_event event.Busy = codes "busy"
text_of_event event.Close = codes "close"
text_of_event event.Stop = codes "stop"
text_of_event event.End = codes "end"
text_of_event event.Return = codes "return"
text_of_event event.Land = codes "land"
text_of_event event.Clock = codes "clock"
text_of_event event.Set = codes "set"
text_of_event event.Stir = codes "stir"
text_of_event event.Peer = codes "peer"
text_of_event it = text_of_request it

abbrev pub text_of_said : StepResult → List ℕ
text_of_said Refused = codes "refused"
text_of_said (Did event) = text_of_event event

abbrev pub text_of_line : Line → List ℕ
text_of_line l = text_of_action l.action ++ 32 ∷ text_of_said l.said

-- each line, and a line feed after it
abbrev pub text_of_log : List Line → List ℕ
text_of_log lines = flat_map (λ l. text_of_line l ++ 10 ∷ []) lines

-- Bookkeeping alone: nothing that others could see has happened.
abbrev pub is_quiet : Event → Bool
is_quiet event.Turn = true
is_quiet event.Serve = true
is_quiet event.Enter = true
is_quiet event.Busy = true
is_quiet _ = false

abbrev pub is_quiet_line : Line → Bool
is_quiet_line l = is_quiet_said l.said
  where
    is_quiet_said : StepResult → Bool
    is_quiet_said Refused = false
    is_quiet_said (Did event) = is_quiet event

-- the lines that are told: all of them, or in a quiet log those that are not quiet
abbrev pub told_lines : Bool → List Line → List Line
told_lines quiet lines = if quiet then filter (λ l. not (is_quiet_line l)) lines else lines
