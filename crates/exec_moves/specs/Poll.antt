-- Moves of a poll: its beginning, the acts of the task that concern itself alone, and its end.
use Rattle.std.specs.Prelude.{ℕ, Bool, true, false, not, ◌==◌, ◌||◌, ◌++◌, List, [], ◌∷◌, filter, length, Option, Some, None, if◌then◌else◌}
use Rattle.exec_outcomes.specs.Accounts.{is_durable}
use Rattle.exec_machine.specs.{declared.{config.{Configuration.Configuration, ScriptWord.{ScriptWord, ScriptWord as word}}, event.Event.TheVariants.{Turn, Begin, Pend, Done, Fault, Admit, Wait, Got, Drop, Timer, GotTimer, Pass, Wake}, state.{MailMessage.{MailMessage, TheVariants.{ForwardRequest, ForwardTimer, CancelRequest}}, Operation.Operation, RequestPhase.{RequestPhase, RequestPhase as phase}, TaskPhase.{TaskPhase, TaskPhase as task}, Waiting.{Waiting, Waiting as waiting}}}, Choice.{Choice.Pays, Payer.ByAct}, World.{Task, Common, request_of, sleeper_of, Own as Books}, Tests.{is_ready, is_unsent}, Words.{next_word, newest_held, sleep_asked}, Requests.{operation_asked, outcome_if_late}, Tasks.begun_waiting}
use Rattle.exec_words.specs.Queue.{Queue, tail_of}
use Rattle.exec_moves.specs.{declared.{handing.{AfterCallbacks.AfterCallbacks as after, AfterCancels.AfterCancels as cancels, AfterPush.AfterPush as push, InGlobal.InGlobal as global, InPush.InPush as pushes}, place.{InCallbacks.InCallbacks as callback, InClosing.InClosing as closing, InPoll.{InPoll, InPoll as poll}, Place.{Place, Place as at}}}, State.{Desk, Moved, does, turns, goes}, Told.{has_number, with_request, without_request, awaits, told_of_drop, with_timer, lets_go_all}, Parts.{after_poll, next_pick, cancels_left}}

-- BEGIN, PEND

-- what waits for nothing acts, any other looks at what it waits for
abbrev pub after_begin : Waiting → InPoll
after_begin waiting.Nothing = poll.Act
after_begin _ = poll.Resume

-- nothing is in the hand any more
abbrev pub let_go : Desk → Desk
let_go d = record d { hand = None }

-- The task. One that was cleared meanwhile isn't polled.
abbrev pub begin_poll : ℕ → Desk → Task → Moved Task
begin_poll t d it =
    if is_ready it.phase then does (Begin t) (goes (at.Poll t (after_begin (begun_waiting it.waiting))) (let_go d)) it
    else turns (after_poll it.home d) (let_go d) it

-- a wake has come in the poll
abbrev pub is_noted : TaskPhase → Bool
is_noted (task.Noted i) = true
is_noted _ = false

-- The runnable of an ordinary task that was woken in its poll goes into the own queue again, unless that is over.
abbrev pub requeued_if : Bool → ℕ → Desk → Desk
requeued_if true t d = record d { hand = Some t; place = at.Push pushes.LoadPushHead push.Pick }
requeued_if false t d = goes (next_pick d) d

-- One that was cleared in its poll is over by this, and others are told of what it held.
abbrev pub told_of_end : Desk → Desk
told_of_end d = goes (cancels_left cancels.Pick d d.letters) d

abbrev pub after_pend_of_task : ℕ → ℕ → Common → Desk → Task → Desk
after_pend_of_task i t s d it = if it.cleared then told_of_end (lets_go_all i s it d) else requeued_if (is_noted it.phase) t d

-- a root that was woken in its poll has its flag set again
abbrev pub after_pend : ℕ → ℕ → Common → Desk → Task → Option ℕ → Desk
after_pend i t s d it None = after_pend_of_task i t s d it
after_pend i t s d it (Some home) =
    record d { root_ready = d.root_ready || is_noted it.phase; place = at.Callbacks callback.TakeBatch after.Look }

abbrev pub pend : ℕ → ℕ → Common → Desk → Task → Moved Task
pend i t s d it = does (Pend t) (after_pend i t s d it it.home) it

-- WHAT A TASK WAITS FOR

abbrev pub acts_on : ℕ → Desk → Desk
acts_on t d = goes (at.Poll t poll.Act) d

abbrev pub stops : ℕ → Desk → Desk
stops t d = goes (at.Poll t poll.Pend) d

-- Where a task has to look for what it waits for: here, in what its worker sent, or by asking that worker to send it.
pub data Sight : Type 0 where
  Here : Sight
  Asks : ℕ → MailMessage → Sight
  HearsRequest : ℕ → Sight
  HearsTimer : ℕ → Sight

-- of something that wasn't forwarded, and is of this worker or of another one; or that was
abbrev pub sight_by : Bool → Bool → Sight → Sight → Sight
sight_by true true asks hears = Here
sight_by true false asks hears = asks
sight_by false here asks hears = hears

abbrev pub sight_of_request : ℕ → Common → ℕ → Sight
sight_of_request i s r =
    let it = request_of s r in
    sight_by (is_unsent it.forwarding) (it.worker == i) (Asks it.worker (ForwardRequest r)) (HearsRequest r)

abbrev pub sight_of_timer : ℕ → Common → ℕ → Sight
sight_of_timer i s z =
    let it = sleeper_of s z in
    sight_by (is_unsent it.forwarding) (it.worker == i) (Asks it.worker (ForwardTimer z)) (HearsTimer z)

abbrev pub sight_of : ℕ → Common → Waiting → Sight
sight_of i s (waiting.Request r) = sight_of_request i s r
sight_of i s (waiting.Timer z) = sight_of_timer i s z
sight_of i s _ = Here

-- a look, here, at what the task waits for already: taken where it has come, else the poll ends
abbrev pub resume : ℕ → ℕ → Common → Desk → Task → Moved Task
resume i t s d it = looked it.waiting
  where
    on_request : ℕ → RequestPhase → Moved Task
    on_request r (phase.Resolved outcome) = does (Got r outcome) (acts_on t (without_request r d)) it
    on_request r _ = pend i t s d it

    looked : Waiting → Moved Task
    looked (waiting.Request r) = on_request r (request_of s r).phase
    looked (waiting.Timer z) = if (sleeper_of s z).fired then does (GotTimer z) (acts_on t d) it else pend i t s d it
    looked waiting.Woken = does Pass (acts_on t d) it
    looked _ = pend i t s d it

-- what was sent of requests, or of sleepers: taken where this one's end is there, else the poll ends by the next step
abbrev pub heard_by : ℕ → ℕ → Desk → List ℕ → Bool → RequestPhase → Moved (List ℕ)
heard_by t r d answers true (phase.Resolved outcome) = does (Got r outcome) (acts_on t d) answers
heard_by t r d answers _ _ = does Turn (stops t d) answers

abbrev pub hear_request : ℕ → ℕ → Common → Desk → List ℕ → Moved (List ℕ)
hear_request t r s d answers = heard_by t r d answers (has_number r answers) (request_of s r).phase

abbrev pub hear_timer : ℕ → ℕ → Desk → List ℕ → Moved (List ℕ)
hear_timer t z d alarms = if has_number z alarms then does (GotTimer z) (acts_on t d) alarms else does Turn (stops t d) alarms

-- ACTS

-- A worker whose root is over closes. Any other task leaves the set, once others were told of what it held.
abbrev pub after_end : ℕ → Option ℕ → Desk → Place
after_end t None d = cancels_left (cancels.Remove t) d d.letters
after_end t (Some home) d = at.Closing closing.Close

abbrev pub over : ℕ → Task → Desk → Desk
over t it d = goes (after_end t it.home d) d

abbrev pub ends : ℕ → ℕ → Common → Task → Desk → Desk
ends i t s it d = over t it (lets_go_all i s it d)

-- the newest held request is taken where it is over, and else waited for
abbrev pub await : ℕ → Common → Desk → Task → Option ℕ → Moved Task
await t s d it None = does (Wait None) (stops t d) it
await t s d it (Some r) = by_phase (request_of s r).phase
  where
    by_phase : RequestPhase → Moved Task
    by_phase (phase.Resolved outcome) = does (Got r outcome) (acts_on t (without_request r d)) it
    by_phase _ = does (Wait (Some r)) (stops t (awaits r d)) it

-- a durable request joins the gate of its open
abbrev pub after_admission : ℕ → ℕ → Operation → Desk → Desk
after_admission t r o d = if is_durable o.kind then goes (at.Poll t (poll.JoinGate r)) d else acts_on t d

abbrev pub admit : ℕ → Books → Common → Desk → Task → Operation → Moved Task
admit t me s d it o =
    does
    (Admit (length s.requests) o.kind (outcome_if_late me.sampled o.deadline))
    (after_admission t (length s.requests) o (with_request (length s.requests) d))
    it

-- a sleep of no time is none
abbrev pub sleep_for : ℕ → Common → Desk → Task → Option ℕ → Moved Task
sleep_for t s d it None = does Pass (acts_on t d) it
sleep_for t s d it (Some until) = does (Timer (length s.sleepers) until) (stops t (with_timer (length s.sleepers) d)) it

abbrev pub drop_newest : ℕ → Common → Desk → Task → Option ℕ → Moved Task
drop_newest t s d it None = does Turn d it
drop_newest t s d it (Some r) = does (Drop r) (acts_on t (told_of_drop r (request_of s r) d)) it

-- the task wakes itself, and ends its poll
abbrev pub yield_self : ℕ → Desk → Task → Moved Task
yield_self t d it = record { event = Wake t; choice = Pays ByAct; desk = stops t d; thing = it }

-- What a word asks for that is no request, and no other task.
abbrev pub act_by : ℕ → ℕ → Books → Common → Desk → Task → ScriptWord → Moved Task
act_by i t me s d it word.Await = await t s d it (newest_held it)
act_by i t me s d it word.Drop = drop_newest t s d it (newest_held it)
act_by i t me s d it (word.Sleep time) = sleep_for t s d it (sleep_asked me.sampled (word.Sleep time))
act_by i t me s d it word.Yield = yield_self t d it
act_by i t me s d it (word.Fault code) = does (Fault t code) (ends i t s it d) it
act_by i t me s d it word.End = does (Done t) (ends i t s it d) it
act_by i t me s d it _ = does Turn d it

abbrev pub act_asked : ℕ → ℕ → Books → Common → Desk → Task → ScriptWord → Option Operation → Moved Task
act_asked i t me s d it w None = act_by i t me s d it w
act_asked i t me s d it w (Some o) = admit t me s d it o

abbrev pub act : Configuration → ℕ → ℕ → Books → Common → Desk → Task → Moved Task
act c i t me s d it = act_asked i t me s d it (next_word s it) (operation_asked c me.sampled (next_word s it))

-- The gate. That the request joins it is the machine's `turn`.
abbrev pub join_gate : ℕ → ℕ → Desk → List ℕ → Moved (List ℕ)
join_gate t r d gate = does Turn (acts_on t d) (gate ++ r ∷ [])

-- What the newest held request is, where an act is about one that is another worker's: that is asked, or told.
abbrev pub sight_of_newest : ℕ → Common → Option ℕ → Sight
sight_of_newest i s None = Here
sight_of_newest i s (Some r) = sight_of_request i s r

abbrev pub cancels_elsewhere : ℕ → Common → Option ℕ → Sight
cancels_elsewhere i s None = Here
cancels_elsewhere i s (Some r) = let home = (request_of s r).worker in if home == i then Here else Asks home (CancelRequest r)

-- what the act looks at by its word
abbrev pub sight_of_act : ℕ → Common → Task → ScriptWord → Sight
sight_of_act i s it word.Await = sight_of_newest i s (newest_held it)
sight_of_act i s it word.Drop = cancels_elsewhere i s (newest_held it)
sight_of_act i s it _ = Here

-- AFTER A SPAWN AND AN END

-- The own run queue: a new task goes there where it is empty, so that else another worker may begin it.
abbrev pub load_spawn_head : ℕ → Desk → Queue ℕ → Moved (Queue ℕ)
load_spawn_head t d q =
    turns (if tail_of q == q.real then at.Push pushes.LoadPushHead (push.Act t) else at.Global global.Append (push.Act t)) d q

-- a shard: the task leaves it, where a drain hasn't taken it
abbrev pub remove_task : ℕ → Desk → List ℕ → Moved (List ℕ)
remove_task t d shard = turns (next_pick d) d (filter (λ n. not (n == t)) shard)
