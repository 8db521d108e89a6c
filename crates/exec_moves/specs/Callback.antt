-- Moves of the callbacks: what is left to be told and let go, one item a step.
use Rattle.std.specs.{Prelude.{ℕ, Bool, false, not, ◌-◌, ◌==◌, ◌&&◌, ◌||◌, List, [], ◌∷◌, drop, nat_lt, Option, Some, None, if◌then◌else◌}, List.list_any}
use Rattle.exec_machine.specs.{declared.{event.Event.TheVariants.{Turn, Wake, Release}, state.Waiting.{Waiting, Waiting as waiting}}, Choice.{Choice, Choice.{Plain, Pays}, Payer.{ByRequest, BySleeper}}, World.{Task, Common, seat_of, task_of, request_of, sleeper_of, Own as Books}, Tests.{is_empty, is_idle, is_done, is_resolved}}
use Rattle.exec_moves.specs.{declared.{handing.{AfterCallbacks.{AfterCallbacks, AfterCallbacks as after}, AfterPush.{AfterPush, AfterPush as push}, Heard.{Heard, Heard as heard}, AfterLeave.AfterLeave as leave, InGlobal.InGlobal as global, InPush.InPush as pushes}, idling.{Stay.{Stay, Stay as stay}, InRingWait.InRingWait as ring}, place.{AfterService.AfterService, Round.{Round, Round as round}, Place.{Place, Place as at}, InCallbacks.InCallbacks as callback, InClosing.InClosing as closing, InLoads.InLoads as load, InService.InService as service}}, State.{Desk, Moved, Own, turns, does, goes}, Told.in_order}
use Rattle.exec_moves.specs.declared.place.AfterService.TheVariants as back

-- WHERE THE CALLBACKS LEAD

-- something waits for the callbacks
abbrev pub has_callbacks : Books → Desk → Bool
has_callbacks me d =
    not (is_empty d.wakes) || nat_lt 0 d.outputs || not (is_empty me.ended) || not (is_empty d.completions)
    || not (is_empty d.results)

-- a request of the worker isn't over
abbrev pub has_requests : ℕ → Common → Bool
has_requests i s = list_any (λ r. (r.worker == i) && not (is_resolved r.phase)) s.requests

-- it is of the pool
abbrev pub is_of_pool : Common → ℕ → Bool
is_of_pool s i = (seat_of s i).pool

-- what it queues goes into its own run queue, where it is of the pool
abbrev pub to_queue : Common → ℕ → AfterPush → Place
to_queue s i b = if is_of_pool s i then at.Push pushes.LoadPushHead b else at.Global global.Append b

-- the loads of its own words: without a run queue the wake word alone
abbrev pub first_load : Common → ℕ → Round → Place
first_load s i r =
    if is_of_pool s i then at.Loads load.LoadOwnHead r else at.Loads (load.LoadOwnWord (record { ready = false })) r

-- a service that puts nothing off
abbrev pub serve : AfterService → Place
serve b = at.Service service.Sample (record { defer = false; back = b })

-- the submission queue holds as many entries as the ring has places
abbrev pub is_full : ℕ → Desk → Bool
is_full size d = not (nat_lt d.entries size)

abbrev pub ring_wait : ℕ → Stay → Desk → Place
ring_wait size x d = if is_full size d then at.RingWait ring.EnterFullRing x else at.RingWait ring.TestRing x

abbrev pub after_callbacks : ℕ → ℕ → Common → AfterCallbacks → Desk → Place
after_callbacks size i s after.Look d = first_load s i round.First
after_callbacks size i s after.Test d = first_load s i round.Second
after_callbacks size i s after.Begin d = at.BeginTurn
after_callbacks size i s after.Drain d = serve back.Finish
after_callbacks size i s after.Finish d = if has_requests i s then ring_wait size stay.Closing d else at.Closing closing.End

abbrev pub next_callback : ℕ → ℕ → Books → Common → AfterCallbacks → Desk → Place
next_callback size i me s x d = if has_callbacks me d then at.Callbacks callback.CallBack x else after_callbacks size i s x d

-- THE MOVES

-- a held search count is returned before the first item
abbrev pub take_batch : ℕ → ℕ → Books → Common → AfterCallbacks → Desk → Moved Own
take_batch size i me s x d =
    turns (if d.searching && has_callbacks me d then at.LeaveSearch (leave.CallBack x) else next_callback size i me s x d) d tt

-- a wake is paid by what its task waits for
abbrev pub payer_of : Waiting → Choice
payer_of (waiting.Request r) = Pays (ByRequest r)
payer_of (waiting.Timer z) = Pays (BySleeper z)
payer_of _ = Plain

-- with the place that follows once the item is gone
abbrev pub goes_on : ℕ → ℕ → Books → Common → AfterCallbacks → Desk → Desk
goes_on size i me s x d = record d { place = next_callback size i me s x d }

-- the task is idle no more; a root's flag is set by that
abbrev pub flagged_by : Task → Desk → Desk
flagged_by it d = record d { root_ready = d.root_ready || is_idle it.phase }

-- Task t is woken. An ordinary one that was idle is queued; a root is the own one.
abbrev pub woken_by : ℕ → ℕ → Books → Common → AfterCallbacks → ℕ → Desk → Task → Desk
woken_by size i me s x t d it = by_home it.home
  where
    by_home : Option ℕ → Desk
    by_home None =
        if is_idle it.phase then record d { hand = Some t; place = to_queue s i (push.CallBack x) } else goes_on size i me s x d
    by_home (Some home) = goes_on size i me s x (flagged_by it d)

-- WHAT COMES NEXT

pub data Item : Type 0 where
  -- a task is woken, an output let go, what a request owned released
  Wakes : ℕ → Item
  LetsGo : Item
  Releases : ℕ → Item
  -- the end of a sleeper, and of a request, is sent to who waits elsewhere
  Completes : ℕ → Item
  Answers : ℕ → Item
  Nothing : Item

abbrev pub first_of : List ℕ → (ℕ → Item) → Item → Item
first_of [] item later = later
first_of (n ∷ ns) item later = item n

abbrev pub item_next : Books → Desk → Item
item_next me d =
    first_of d.wakes Wakes
    (if nat_lt 0 d.outputs then LetsGo
    else first_of me.ended Releases (first_of d.completions Completes (first_of d.results Answers Nothing)))

-- the phase of task t
abbrev pub call_back : ℕ → ℕ → Books → Common → AfterCallbacks → ℕ → Desk → Task → Moved Task
call_back size i me s x t d it =
    record {
      event = Wake t;
      choice = payer_of it.waiting;
      desk = woken_by size i me s x t (record d { wakes = drop 1 d.wakes }) it;
      thing = it;
    }

abbrev pub let_go : ℕ → ℕ → Books → Common → AfterCallbacks → Desk → Moved Own
let_go size i me s x d = does Turn (goes_on size i me s x (record d { outputs = d.outputs - 1 })) tt

abbrev pub release : ℕ → ℕ → Books → Common → AfterCallbacks → ℕ → Desk → Moved Own
release size i me s x r d = does (Release r) (goes_on size i (record me { ended = drop 1 me.ended }) s x d) tt

abbrev pub no_item : ℕ → ℕ → Books → Common → AfterCallbacks → Desk → Moved Own
no_item size i me s x d = does Turn (goes_on size i me s x d) tt

-- An end is sent. Who waits for it is woken by a step of its own, where its task isn't over. The end and whether its task
-- still holds it are read as one thing: a task that is over has let go of its side of the one-shot, and who sends finds so.
abbrev pub tells_waiter : ℕ → ℕ → Books → Common → AfterCallbacks → Option ℕ → Heard → Desk → Desk
tells_waiter size i me s x None of d = goes_on size i me s x d
tells_waiter size i me s x (Some t) of d =
    if is_done (task_of s t).phase then goes_on size i me s x d else goes (at.Callbacks (callback.WakeWaiter t of) x) d

-- what was sent to whom waits elsewhere: the sleepers, and the requests
abbrev pub send_completion : ℕ → ℕ → Books → Common → AfterCallbacks → ℕ → Desk → List ℕ → Moved (List ℕ)
send_completion size i me s x z d alarms =
    does Turn
    (tells_waiter size i me s x (Some (sleeper_of s z).task) (heard.Timer z) (record d { completions = drop 1 d.completions }))
    (in_order z alarms)

abbrev pub send_result : ℕ → ℕ → Books → Common → AfterCallbacks → ℕ → Desk → List ℕ → Moved (List ℕ)
send_result size i me s x r d answers =
    does Turn (tells_waiter size i me s x (request_of s r).waiter (heard.Request r) (record d { results = drop 1 d.results }))
    (in_order r answers)

-- the wake of who waits elsewhere, which the sleeper or the request pays
abbrev pub payer_heard : Heard → Choice
payer_heard (heard.Request r) = Pays (ByRequest r)
payer_heard (heard.Timer z) = Pays (BySleeper z)

-- the phase of task t
abbrev pub wake_waiter : ℕ → ℕ → Books → Common → AfterCallbacks → ℕ → Heard → Desk → Task → Moved Task
wake_waiter size i me s x t of d it =
    record { event = Wake t; choice = payer_heard of; desk = woken_by size i me s x t d it; thing = it }
