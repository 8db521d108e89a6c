-- When an event of a worker may come: each of these tests is passed.
--
-- They are over the worker's own part, the common part, the worker's number, the event and what it leaves open.
use Rattle.std.specs.Prelude.{ℕ, Bool, false, List, [], ◌∷◌, Some, None}
use Rattle.exec_machine.specs.{declared.{config.Configuration.Configuration, event.Event.{Event, TheVariants.{Turn, Serve, Begin, Pend, Done, Fault, Spawn, Dedicated, Closed, Clear, Admit, Wait, Got, Drop, Timer, GotTimer, Pass, Wake, Grant, Enrol, Stage, Enter, Busy, Reap, Expire, Cancel, Orphan, Release, Fire, Send, Apply, Rouse, Sleep, Close, Stop, End, Return, Land, Clock, Set, Stir, Peer}}}, Choice.Choice, World.{Own, Common}, Tests.{is_at_large, is_settled, AllTrue}, Words.{asks_end, asks_fault}, Tasks.{may_begin, may_pend, may_end_by, may_wait_for_wake, may_wait, may_get, may_get_timer, may_pass, may_drop, may_spawn, may_dedicate, may_wake}, Requests.{may_admit, may_grant, may_stage, may_enter, may_be_busy, may_reap, may_cancel, may_release}, Deadlines.{may_enrol, may_expire, may_time, may_fire, may_sleep}, Mail.{may_send, may_meet_closed, may_apply, may_rouse}, Closing.{may_turn, may_close, may_stop_pool, may_clear, may_orphan, may_end}}

abbrev pub allowed : Configuration → Own → Common → ℕ → Event → Choice → List Bool
allowed c me s i Turn choice = may_turn me s i choice
allowed c me s i Serve choice = is_at_large me ∷ []
allowed c me s i (Begin t) choice = may_begin me s i t
allowed c me s i (Pend t) choice = may_pend me s i t
allowed c me s i (Done t) choice = may_end_by asks_end me s t
allowed c me s i (Fault t n) choice = may_end_by (asks_fault n) me s t
allowed c me s i (Spawn t k) choice = may_spawn me s t k
allowed c me s i (Dedicated t j) choice = may_dedicate me s t j
allowed c me s i Closed choice = may_meet_closed me s i
allowed c me s i (Clear t) choice = may_clear me s i t
allowed c me s i (Admit r kind outcome) choice = may_admit c me s i r kind outcome
allowed c me s i (Wait None) choice = may_wait_for_wake me s
allowed c me s i (Wait (Some r)) choice = may_wait me s i r
allowed c me s i (Got r outcome) choice = may_get me s i r outcome
allowed c me s i (Drop r) choice = may_drop me s i r
allowed c me s i (Timer z until) choice = may_time me s z until
allowed c me s i (GotTimer z) choice = may_get_timer me s i z
allowed c me s i Pass choice = may_pass me s
allowed c me s i (Wake t) choice = may_wake me s i t choice
allowed c me s i (Grant r outcome) choice = may_grant me s i r outcome
allowed c me s i (Enrol r outcome) choice = may_enrol c me s i r outcome
allowed c me s i (Stage r) choice = may_stage c me s i r
allowed c me s i Enter choice = may_enter me s i
allowed c me s i Busy choice = may_be_busy me s i
allowed c me s i (Reap r n outcome) choice = may_reap me s i r n outcome
allowed c me s i (Expire r outcome) choice = may_expire c me s i r outcome
allowed c me s i (Cancel r) choice = may_cancel me s i r
allowed c me s i (Orphan r outcome) choice = may_orphan me s i r outcome
allowed c me s i (Release r) choice = may_release me s i r
allowed c me s i (Fire z) choice = may_fire me s i z
allowed c me s i (Send to m) choice = may_send me s i to m choice
allowed c me s i (Apply m) choice = may_apply me s i m
allowed c me s i (Rouse other) choice = is_settled me.next ∷ may_rouse s other ∷ []
allowed c me s i (Sleep until) choice = may_sleep me s i until
allowed c me s i Close choice = may_close me s i
allowed c me s i Stop choice = may_stop_pool me s i
allowed c me s i End choice = may_end me s i
allowed c me s i Return choice = false ∷ []
allowed c me s i Land choice = false ∷ []
allowed c me s i Clock choice = false ∷ []
allowed c me s i Set choice = false ∷ []
allowed c me s i Stir choice = false ∷ []
allowed c me s i Peer choice = false ∷ []

-- Worker i may take a step with this event; where the event leaves something open, the choice says it.
abbrev pub Allowed : Configuration → Own → Common → ℕ → Event → Choice → Type 0
Allowed c me s i event choice = AllTrue (allowed c me s i event choice)
