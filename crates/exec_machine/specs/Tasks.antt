-- Events of tasks: when each may come, and what it changes.
--
-- A Queued task is polled by a worker that may poll it. In a poll each event is the next act of the task, until it has
-- to wait or is over. What a task that is over held is dropped: on the worker at once, elsewhere by a message that the
-- worker then owes.
use Rattle.std.specs.Prelude.{ℕ, Bool, true, false, not, ◌+◌, ◌-◌, ◌==◌, ◌&&◌, ◌||◌, if◌then◌else◌, List, [], ◌∷◌, ◌++◌, length, take, slice_set, slice_index_or, Option, Some, None}
use Rattle.exec_outcomes.specs.declared.outcome.Outcome.{Outcome}
use Rattle.exec_machine.specs.{declared.{config.ScriptWord.ScriptWord, state.{Code.Code, WorkerPhase.TheVariants.Open, TaskPhase.{TaskPhase, TaskPhase as task}, Waiting.Waiting, Forwarding.Forwarding, Request.Request, Sleeper.Sleeper, MailMessage.TheVariants.{CancelRequest, CancelTimer}, Letter.Letter}}, Choice.{Payer, Choice, Payer.{ByRequest, BySleeper, ByAct, ByCall, ByStop}, Choice.{Plain, Passes, Pays, Posts}}, Same.{is_none, is_number}, World.{Own, Seat, Task, Common, no_own, no_seat, seat_of, task_of, request_of, sleeper_of, no_request}, Tests.{is_empty, is_settled, is_at_large, is_open, is_ready, waits_for_nothing, is_woken, waits_for_request, waits_for_timer, is_unsent, is_applied, is_resolved, is_resolved_with, set_task, set_request, set_sleeper}, Words.{next_word, moved_on, polled_task, acts, asks_await, asks_drop, asks_yield, asks_wake, asks_spawn, asks_dedicated, asks_no_sleep, script_asked, newest_held}, Requests.{dropped, own_after_drop}}
use Rattle.exec_machine.specs.declared.state.Code.TheVariants as code
use Rattle.exec_machine.specs.declared.state.Waiting.TheVariants as waiting
use Rattle.exec_machine.specs.declared.state.Forwarding.TheVariants as forwarding

-- PHASES

abbrev pub woken_phase : TaskPhase → TaskPhase
woken_phase task.Idle = task.Queued
woken_phase task.Queued = task.Queued
woken_phase (task.Running i) = task.Noted i
woken_phase (task.Noted i) = task.Noted i
woken_phase task.Done = task.Done

abbrev pub pended_phase : TaskPhase → TaskPhase
pended_phase task.Idle = task.Idle
pended_phase task.Queued = task.Queued
pended_phase (task.Running i) = task.Idle
pended_phase (task.Noted i) = task.Queued
pended_phase task.Done = task.Done

-- a poll takes a wake, and what was let go first comes after
abbrev pub begun_waiting : Waiting → Waiting
begun_waiting waiting.Wake = waiting.Woken
begun_waiting waiting.Yielded = waiting.Nothing
begun_waiting other = other

abbrev pub begun : ℕ → Task → Task
begun i t = record t { phase = task.Running i; waiting = begun_waiting t.waiting; fresh = true }

abbrev pub woken : Task → Task
woken t = record t { phase = woken_phase t.phase; fresh = false }

-- BEGIN

-- a root is polled by its own worker, any other task by each worker of the pool
abbrev pub is_polled_here : ℕ → Seat → Option ℕ → Bool
is_polled_here i seat None = seat.pool
is_polled_here i seat (Some home) = home == i

abbrev pub may_begin : Own → Common → ℕ → ℕ → List Bool
may_begin me s i t =
    is_at_large me ∷ is_open (seat_of s i).phase ∷ is_ready (task_of s t).phase ∷ is_polled_here i (seat_of s i) (task_of s t).home ∷ []

-- WHAT A TASK HELD

-- the requests after worker i dropped those of its own in the list, one after another
abbrev pub requests_after_drops : ℕ → List ℕ → List Request → List Request
requests_after_drops i [] rs = rs
requests_after_drops i (r ∷ held) rs =
    let it = slice_index_or rs r no_request in requests_after_drops i held (if it.worker == i then slice_set rs r (dropped it) else rs)

abbrev pub owes : Own → ℕ → Letter → Own
owes me to letter = record me { owed = me.owed ++ letter ∷ [] }

-- the worker after it dropped the requests in the list: those of others it owes a message
abbrev pub own_after_drops : Common → ℕ → List ℕ → Own → Own
own_after_drops s i [] me = me
own_after_drops s i (r ∷ held) me =
    let home = (request_of s r).worker in
    own_after_drops s i held (if home == i then own_after_drop me s r else owes me home (record { to = home; message = CancelRequest r }))

-- and the sleeper that the task waits for
abbrev pub own_after_waking_up : Common → ℕ → Waiting → Own → Own
own_after_waking_up s i (waiting.Timer z) me =
    let home = (sleeper_of s z).worker in
    if home == i then me else owes me home (record { to = home; message = CancelTimer z })
own_after_waking_up s i _ me = me

abbrev pub removed : Sleeper → Sleeper
removed z = record z { removed = z.removed || not z.fired }

abbrev pub sleepers_after_waking_up : Common → ℕ → Waiting → List Sleeper
sleepers_after_waking_up s i (waiting.Timer z) =
    if (sleeper_of s z).worker == i then slice_set s.sleepers z (removed (sleeper_of s z)) else s.sleepers
sleepers_after_waking_up s i _ = s.sleepers

-- task t is over, by worker i
abbrev pub own_after_over : Own → Common → ℕ → ℕ → Own
own_after_over me s i t = own_after_waking_up s i (task_of s t).waiting (own_after_drops s i (task_of s t).held me)

abbrev pub after_over : Common → ℕ → ℕ → Common
after_over s i t =
    record s {
      tasks = slice_set s.tasks t (record (task_of s t) { phase = task.Done; held = [] });
      requests = requests_after_drops i (task_of s t).held s.requests;
      sleepers = sleepers_after_waking_up s i (task_of s t).waiting;
    }

-- the poll has ended
abbrev pub unpolled : Own → Own
unpolled me = record me { polls = None }

-- PEND, DONE, FAULT

-- The poll may end here: it has made an act that ends it, or found what it waits for open. What was forwarded may still
-- be unanswered though it is over.
abbrev pub may_stop : Common → ℕ → Waiting → Bool
may_stop s i waiting.Nothing = false
may_stop s i (waiting.Request r) =
    let it = request_of s r in not (is_unsent it.forwarding) || ((it.worker == i) && not (is_resolved it.phase))
may_stop s i (waiting.Timer z) =
    let it = sleeper_of s z in not (is_unsent it.forwarding) || ((it.worker == i) && not it.fired && not it.removed)
may_stop s i waiting.Wake = true
may_stop s i waiting.Woken = false
may_stop s i waiting.Yielded = true

abbrev pub may_pend : Own → Common → ℕ → ℕ → List Bool
may_pend me s i t = is_number t me.polls ∷ is_settled me.next ∷ may_stop s i (task_of s t).waiting ∷ []

abbrev pub own_after_pend : Own → Common → ℕ → ℕ → Own
own_after_pend me s i t = unpolled (if (task_of s t).cleared then own_after_over me s i t else me)

abbrev pub after_pend : Common → ℕ → ℕ → Common
after_pend s i t =
    if (task_of s t).cleared then after_over s i t else set_task s t (record (task_of s t) { phase = pended_phase (task_of s t).phase })

abbrev pub may_end_by : (ScriptWord → Bool) → Own → Common → ℕ → List Bool
may_end_by test me s t = is_number t me.polls ∷ acts me s test ∷ []

abbrev pub own_after_done : Own → Common → ℕ → ℕ → Own
own_after_done me s i t = unpolled (own_after_over me s i t)

-- WAIT, GOT, PASS, DROP

abbrev pub waits_for : Common → Task → Waiting → Task
waits_for s t what = record (moved_on s t) { waiting = what }

abbrev pub may_wait_for_wake : Own → Common → List Bool
may_wait_for_wake me s = acts me s asks_await ∷ is_empty (polled_task me s).held ∷ []

-- the newest held one, which is on this worker, was not forwarded and is not over
abbrev pub may_wait : Own → Common → ℕ → ℕ → List Bool
may_wait me s i r =
    acts me s asks_await ∷ is_number r (newest_held (polled_task me s)) ∷ ((request_of s r).worker == i)
    ∷ is_unsent (request_of s r).forwarding ∷ not (is_resolved (request_of s r).phase) ∷ []

abbrev pub after_wait : Common → ℕ → Option ℕ → Common
after_wait s t None = set_task s t (waits_for s (task_of s t) waiting.Wake)
after_wait s t (Some r) =
    record s {
      tasks = slice_set s.tasks t (waits_for s (task_of s t) (waiting.Request r));
      requests = slice_set s.requests r (record (request_of s r) { waiter = Some t });
    }

-- it is here: on this worker and not forwarded, or its forward was applied
abbrev pub is_here : ℕ → ℕ → Forwarding → Bool
is_here i home forwarding.Unsent = home == i
is_here i home forwarding.Sent = false
is_here i home forwarding.Applied = true

-- the worker polls a task that waits for this
abbrev pub polls_waiting : Own → Common → (Waiting → Bool) → Bool
polls_waiting me s test = not (is_none me.polls) && is_settled me.next && test (polled_task me s).waiting

abbrev pub may_get : Own → Common → ℕ → ℕ → Outcome → List Bool
may_get me s i r outcome =
    (polls_waiting me s (waits_for_request r) || acts me s asks_await) ∷ is_number r (newest_held (polled_task me s))
    ∷ is_here i (request_of s r).worker (request_of s r).forwarding ∷ is_resolved_with outcome (request_of s r).phase ∷ []

abbrev pub without_newest : List ℕ → List ℕ
without_newest held = take (length held - 1) held

-- to take what the task hadn't waited for is the act of its next word
abbrev pub after_taking : Common → Task → Task
after_taking s t = if waits_for_nothing t.waiting then moved_on s t else record t { waiting = waiting.Nothing }

abbrev pub after_got : Common → ℕ → ℕ → Common
after_got s t r =
    record s {
      tasks = slice_set s.tasks t (record (after_taking s (task_of s t)) { held = without_newest (task_of s t).held });
      requests = slice_set s.requests r (record (request_of s r) { observed = false });
    }

abbrev pub may_get_timer : Own → Common → ℕ → ℕ → List Bool
may_get_timer me s i z =
    polls_waiting me s (waits_for_timer z) ∷ is_here i (sleeper_of s z).worker (sleeper_of s z).forwarding ∷ (sleeper_of s z).fired ∷ []

abbrev pub may_pass : Own → Common → List Bool
may_pass me s = (polls_waiting me s is_woken || acts me s asks_no_sleep) ∷ []

abbrev pub after_taken : Common → ℕ → Common
after_taken s t = set_task s t (after_taking s (task_of s t))

abbrev pub may_drop : Own → Common → ℕ → ℕ → List Bool
may_drop me s i r =
    acts me s asks_drop ∷ is_number r (newest_held (polled_task me s)) ∷ ((request_of s r).worker == i) ∷ []

-- the task past a word by which it lets go of the newest that it held
abbrev pub after_letting_go : Common → Task → Task
after_letting_go s t = record (moved_on s t) { held = without_newest t.held }

abbrev pub after_drop : Common → ℕ → ℕ → Common
after_drop s t r =
    record s {
      tasks = slice_set s.tasks t (after_letting_go s (task_of s t));
      requests = slice_set s.requests r (dropped (request_of s r));
    }

-- SPAWN, DEDICATED

abbrev pub may_spawn : Own → Common → ℕ → ℕ → List Bool
may_spawn me s t k = acts me s (asks_spawn k) ∷ (t == length s.tasks) ∷ not s.set_closed ∷ []

abbrev pub new_task : Code → Option ℕ → Task
new_task code home =
    record {
      code = code;
      place = 0;
      adapters = [];
      call = None;
      held = [];
      phase = task.Queued;
      cleared = false;
      home = home;
      waiting = waiting.Nothing;
      fresh = false;
    }

abbrev pub after_spawn : Common → ℕ → Common
after_spawn s k = record s { tasks = s.tasks ++ new_task (code.Script k) None ∷ [] }

-- the task past its word
abbrev pub after_word : Common → Option ℕ → Common
after_word s None = s
after_word s (Some t) = set_task s t (moved_on s (task_of s t))

abbrev pub may_dedicate : Own → Common → ℕ → ℕ → List Bool
may_dedicate me s t i = acts me s asks_dedicated ∷ (t == length s.tasks) ∷ (i == length s.seats) ∷ not s.set_closed ∷ []

abbrev pub new_seat : Bool → Seat
new_seat pool = record no_seat { phase = Open; pool = pool; left = false; mailbox_closed = false }

-- a worker that begins now, with this root
abbrev pub new_own : ℕ → ℕ → Own
new_own clock root = record no_own { root = root; start = clock; sampled = clock; sampled_before = clock }

abbrev pub after_dedicated : Own → Common → ℕ → Common
after_dedicated me s i =
    let moved = after_word s me.polls in
    record moved {
      seats = s.seats ++ new_seat false ∷ [];
      tasks = moved.tasks ++ new_task (code.Script (script_asked (next_word s (polled_task me s)))) (Some i) ∷ [];
    }

-- WAKE

-- One wake is owed by what is over; one more where it was forwarded and that was applied.
abbrev pub is_unpaid : ℕ → Forwarding → Bool
is_unpaid paid forwarding = (paid == 0) || ((paid == 1) && is_applied forwarding)

-- a thing of this worker, or of one that is not open any more, is woken for here
abbrev pub may_pay : ℕ → ℕ → Bool → Bool
may_pay i home shut = (home == i) || shut

-- the request was waited for by the task, is over for it, and owes it a wake that worker i may give
abbrev pub request_owes : Common → ℕ → ℕ → Request → Bool
request_owes s i t r =
    let shut = not (is_open (seat_of s r.worker).phase) in
    may_pay i r.worker shut && is_number t r.waiter && is_unpaid r.wakes_paid r.forwarding
    && (is_resolved r.phase || shut || (not (is_unsent r.forwarding) && not r.observed))

abbrev pub sleeper_owes : Common → ℕ → ℕ → Sleeper → Bool
sleeper_owes s i t z =
    let shut = not (is_open (seat_of s z.worker).phase) in
    may_pay i z.worker shut && (z.task == t) && is_unpaid z.wakes_paid z.forwarding && (z.fired || z.removed || shut)

abbrev pub is_paid : Own → Common → ℕ → ℕ → Payer → Bool
is_paid me s i t (ByRequest r) = is_at_large me && request_owes s i t (request_of s r)
is_paid me s i t (BySleeper z) = is_at_large me && sleeper_owes s i t (sleeper_of s z)
is_paid me s i t ByAct = acts me s (asks_wake t) || (acts me s asks_yield && is_number t me.polls)
is_paid me s i t ByCall = false
is_paid me s i t ByStop = false

-- a root is woken on its own worker alone
abbrev pub is_woken_here : ℕ → Option ℕ → Bool
is_woken_here i None = true
is_woken_here i (Some home) = home == i

abbrev pub may_wake : Own → Common → ℕ → ℕ → Choice → List Bool
may_wake me s i t Plain = false ∷ []
may_wake me s i t Passes = false ∷ []
may_wake me s i t (Pays payer) = is_paid me s i t payer ∷ is_woken_here i (task_of s t).home ∷ []
may_wake me s i t (Posts payer left_out) = false ∷ []

abbrev pub wake : Common → ℕ → Common
wake s t = set_task s t (woken (task_of s t))

-- the polled task past its word; by `yield` it lets others go first
abbrev pub after_waking_word : Common → Task → Task
after_waking_word s t = if asks_yield (next_word s t) then waits_for s t waiting.Yielded else moved_on s t

abbrev pub after_payment : Common → Option ℕ → Payer → Common
after_payment s polls (ByRequest r) = set_request s r (record (request_of s r) { wakes_paid = (request_of s r).wakes_paid + 1 })
after_payment s polls (BySleeper z) = set_sleeper s z (record (sleeper_of s z) { wakes_paid = (sleeper_of s z).wakes_paid + 1 })
after_payment s None ByAct = s
after_payment s (Some t) ByAct = set_task s t (after_waking_word s (task_of s t))
after_payment s polls ByCall = s
after_payment s polls ByStop = s

abbrev pub after_wake : Own → Common → ℕ → Choice → Common
after_wake me s t (Pays payer) = wake (after_payment s me.polls payer) t
after_wake me s t _ = s
