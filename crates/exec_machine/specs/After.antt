-- What an event of a worker changes: its own part and the common part, each by itself. No other worker's own part
-- changes; a dedicated worker is made with its own part.
use Rattle.std.specs.Prelude.{ℕ, Bool, true, false, List, [], ◌∷◌, ◌++◌, map, slice_set, unwrap_or, Some}
use Rattle.exec_machine.specs.{declared.{config.Configuration.Configuration, event.Event.{Event, TheVariants.{Turn, Serve, Begin, Pend, Done, Fault, Spawn, Dedicated, Closed, Clear, Admit, Wait, Got, Drop, Timer, GotTimer, Pass, Wake, Grant, Enrol, Stage, Enter, Busy, Reap, Expire, Cancel, Orphan, Release, Fire, Send, Apply, Rouse, Sleep, Close, Stop, End}}}, Choice.Choice, World.{World, Own, Common, own_of, seat_of, task_of, request_of, sleeper_of}, Tests.{set_seat, set_task, set_request, set_sleeper}, Tasks.{begun, own_after_pend, after_pend, own_after_done, after_over, after_wait, after_got, after_taken, after_drop, after_spawn, after_word, new_own, after_dedicated, after_wake}, Requests.{asked_now, own_after_admit, after_admit, own_after_drop, own_after_grant, after_grant, own_after_stage, staged, flown, own_after_reap, after_reap, own_after_cancel, own_after_release, dropped}, Deadlines.{sampled_now, own_after_enrol, after_enrol, own_after_expire, expired, after_timer, rest_until}, Mail.{own_after_letter, after_send, own_after_apply, after_apply, after_rouse}, Closing.{own_after_turn, after_turn, next_after_close, after_close, own_after_stop, own_after_clear, after_clear, after_end}}

-- the number of the polled task
abbrev pub polled : Own → ℕ
polled me = unwrap_or me.polls 0

-- A worker is serving from the first line of a service on. What waits for the kernel or wakes another worker leaves it
-- so; any other line ends it.
abbrev pub serving_after : Event → Bool → Bool
serving_after Serve serving = true
serving_after (Reap r n outcome) serving = true
serving_after (Expire r outcome) serving = true
serving_after (Enrol r outcome) serving = true
serving_after (Grant r outcome) serving = true
serving_after (Cancel r) serving = true
serving_after (Stage r) serving = true
serving_after (Fire z) serving = true
serving_after Enter serving = serving
serving_after Busy serving = serving
serving_after (Rouse other) serving = serving
serving_after _ serving = false

-- the own part, save whether it is serving
abbrev pub own_by : Configuration → Own → Common → ℕ → Event → Choice → Own
own_by c me s i Turn choice = own_after_turn me choice
own_by c me s i Serve choice = sampled_now s me
own_by c me s i (Begin t) choice = record me { polls = Some t }
own_by c me s i (Pend t) choice = own_after_pend me s i t
own_by c me s i (Done t) choice = own_after_done me s i t
own_by c me s i (Fault t n) choice = own_after_done me s i t
own_by c me s i (Clear t) choice = own_after_clear me s i t
own_by c me s i (Admit r kind outcome) choice = own_after_admit (asked_now c me s) outcome r me
own_by c me s i (Drop r) choice = own_after_drop me s r
own_by c me s i (Grant r outcome) choice = own_after_grant outcome r me
own_by c me s i (Enrol r outcome) choice = own_after_enrol outcome r me
own_by c me s i (Stage r) choice = own_after_stage me
own_by c me s i Enter choice = record me { untold = [] }
own_by c me s i (Reap r n outcome) choice = own_after_reap outcome r me
own_by c me s i (Expire r outcome) choice = own_after_expire outcome r me
own_by c me s i (Cancel r) choice = own_after_cancel me r
own_by c me s i (Orphan r outcome) choice = own_after_drop me s r
own_by c me s i (Release r) choice = own_after_release me
own_by c me s i (Send to m) choice = own_after_letter me
own_by c me s i (Apply m) choice = own_after_apply me s m
own_by c me s i Close choice = record me { next = next_after_close s i }
own_by c me s i Stop choice = own_after_stop c me
own_by c me s i _ choice = me

abbrev pub own_after : Configuration → Own → Common → ℕ → Event → Choice → Own
own_after c me s i event choice = record (own_by c me s i event choice) { serving = serving_after event me.serving }

abbrev pub common_after : Configuration → Own → Common → ℕ → Event → Choice → Common
common_after c me s i Turn choice = after_turn me s i choice
common_after c me s i (Begin t) choice = set_task s t (begun i (task_of s t))
common_after c me s i (Pend t) choice = after_pend s i t
common_after c me s i (Done t) choice = after_over s i t
common_after c me s i (Fault t n) choice = after_over s i t
common_after c me s i (Spawn t k) choice = after_spawn (after_word s me.polls) k
common_after c me s i (Dedicated t j) choice = after_dedicated me s j
common_after c me s i Closed choice = after_word s me.polls
common_after c me s i (Clear t) choice = after_clear s i t
common_after c me s i (Admit r kind outcome) choice = after_admit c me s i r outcome (polled me)
common_after c me s i (Wait what) choice = after_wait s (polled me) what
common_after c me s i (Got r outcome) choice = after_got s (polled me) r
common_after c me s i (Drop r) choice = after_drop s (polled me) r
common_after c me s i (Timer z until) choice = after_timer s i z until (polled me)
common_after c me s i (GotTimer z) choice = after_taken s (polled me)
common_after c me s i Pass choice = after_taken s (polled me)
common_after c me s i (Wake t) choice = after_wake me s t choice
common_after c me s i (Grant r outcome) choice = after_grant s r outcome
common_after c me s i (Enrol r outcome) choice = after_enrol c me s r outcome
common_after c me s i (Stage r) choice = set_request s r (staged s (request_of s r))
common_after c me s i Enter choice = record s { requests = map (flown i) s.requests }
common_after c me s i Busy choice = set_seat s i (record (seat_of s i) { busy = false })
common_after c me s i (Reap r n outcome) choice = after_reap s i r n outcome
common_after c me s i (Expire r outcome) choice = set_request s r (expired outcome (request_of s r))
common_after c me s i (Cancel r) choice = set_request s r (record (request_of s r) { cancel_staged = true })
common_after c me s i (Orphan r outcome) choice = set_request s r (dropped (request_of s r))
common_after c me s i (Release r) choice = set_request s r (record (request_of s r) { released = true })
common_after c me s i (Fire z) choice = set_sleeper s z (record (sleeper_of s z) { fired = true })
common_after c me s i (Send to m) choice = after_send me s to m choice
common_after c me s i (Apply m) choice = after_apply me s i m
common_after c me s i (Rouse other) choice = after_rouse s other
common_after c me s i (Sleep until) choice = set_seat s i (record (seat_of s i) { rest = rest_until until })
common_after c me s i Close choice = after_close s i
common_after c me s i Stop choice = record s { stopped = true }
common_after c me s i End choice = after_end s i
common_after c me s i _ choice = s

-- the own part of a worker that the event makes
abbrev pub made_by : Common → Event → List Own
made_by s (Dedicated t j) = new_own s.clock t ∷ []
made_by s _ = []

abbrev pub after : Configuration → World → ℕ → Event → Choice → World
after c w i event choice =
    let me = own_of w i in
    record {
      workers = slice_set w.workers i (own_after c me w.common i event choice) ++ made_by w.common event;
      common = common_after c me w.common i event choice;
    }
