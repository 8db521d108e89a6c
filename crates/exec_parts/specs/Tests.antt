-- What a worker finds out by what it alone touches, and where it goes on by that.
use Rattle.std.specs.Prelude.{◌≡◌, ℕ, Bool, true, false, not, ◌==◌, ◌&&◌, ◌||◌, ◌-◌, ◌*◌, ◌<◌, ◌≤◌, nat_lt, nat_le, Option, Some, None, if◌then◌else◌}
use Rattle.exec_parts.specs.{Words.{Slab, Id, IsEmpty, IsFirst, least_active, next_moment, Sleeping, pending_count, is_untold, Driving, has_pending, is_full, IsFirstTick, IsPunctual, poll_staged, has_first, Configuration, Event, Enter, Sleep, earlier, AfterCallbacks, after, AfterKick, kick, AfterLeave, leave, AfterPush, push, AfterSignal, signal, claim, global, kicks, pushes, AfterWait, next, Stay, stay, look, scan, search, ring, word, Place, at, Round, round, pick, poll, back, callback, closing, load, serve, past_own, after_send}, declared.parts.{mail.Reply.Reply, worker.Worker.Worker}, Roles.is_pool, View.{desk_of, driver_of}}

-- something waits for the callbacks
abbrev pub is_anything_told : Worker → Bool
is_anything_told w = not (is_untold w.home.deferred)

-- a request of it isn't over
abbrev pub has_open_requests : Worker → Bool
has_open_requests w = not (pending_count (driver_of w).requests == 0)

-- the service of this turn put something off that is to be done
abbrev pub has_put_off : Worker → Bool
has_put_off w = (w.put_off.«enter» && has_open_requests w) || (w.put_off.defer && has_pending (driver_of w))

-- the next turn, after that
abbrev pub next_turn_of : Worker → Place
next_turn_of w = if has_put_off w then serve back.Begin else at.BeginTurn

-- WHERE IT GOES ON THAT HANDS SOMETHING ON

-- once it holds no search count
abbrev pub after_leave_of : AfterLeave → Worker → Place
after_leave_of (leave.Poll t) w = at.Poll t poll.BeginPoll
after_leave_of (leave.CallBack n) w = at.Callbacks callback.CallBack n
after_leave_of leave.Begin w = next_turn_of w

-- the same, once a held one is returned
abbrev pub leave_of : AfterLeave → Worker → Place
leave_of b w = if w.searching then at.LeaveSearch b else after_leave_of b w

abbrev pub leaves_turn_of : Worker → Place
leaves_turn_of w = leave_of leave.Begin w

-- who returned the last one kicks
abbrev pub after_return_of : Bool → AfterLeave → Worker → Place
after_return_of last b w = if last then at.Kick kicks.LoadKickCount (kick.Leave b) else after_leave_of b w

-- the first step of a wait on the ring
abbrev pub ring_wait_of : Stay → Worker → Place
ring_wait_of x w = if is_full (driver_of w) then at.RingWait ring.EnterFullRing x else at.RingWait ring.TestRing x

-- the loads of its own words: without a run queue the wake word alone
abbrev pub first_load_of : Round → Worker → Place
first_load_of r w =
    if is_pool w.role then at.Loads load.LoadOwnHead r else at.Loads (load.LoadOwnWord (record { ready = false })) r

-- where the callbacks lead, and the next of them
abbrev pub after_callbacks_of : AfterCallbacks → Worker → Place
after_callbacks_of after.Look w = first_load_of round.First w
after_callbacks_of after.Test w = first_load_of round.Second w
after_callbacks_of after.Begin w = at.BeginTurn
after_callbacks_of after.Drain w = serve back.Finish
after_callbacks_of after.Finish w = if has_open_requests w then ring_wait_of stay.Closing w else at.Closing closing.End

abbrev pub next_callback_of : AfterCallbacks → Worker → Place
next_callback_of x w = if is_anything_told w then at.Callbacks callback.CallBack x else after_callbacks_of x w

abbrev pub next_pick_of : Worker → Place
next_pick_of w = if w.picks == 0 then at.TakeRootFlag else at.Pick pick.CountDown

abbrev pub after_push_of : AfterPush → Worker → Place
after_push_of (push.Act t) w = at.Poll t poll.Act
after_push_of push.Pick w = next_pick_of w
after_push_of (push.CallBack n) w = next_callback_of n w

-- the way of a runnable in the hand into a queue: the own one of a worker of the pool
abbrev pub first_push_of : AfterPush → Worker → Place
first_push_of b w = if is_pool w.role then at.Push pushes.LoadPushHead b else at.Global global.Append b

-- where the turn of a worker begins
abbrev pub first_pick_of : Worker → Place
first_pick_of w = if is_pool w.role then at.Pick pick.CountDown else at.TakeRootFlag

-- after a spawn by task t of a worker, in a pool of so many: of one with others an empty own queue takes the new task
abbrev pub after_spawn_of : ℕ → ℕ → Worker → Place
after_spawn_of workers t w =
    if is_pool w.role then (if nat_lt 1 workers then at.Poll t poll.LoadSpawnHead else at.Push pushes.LoadPushHead (push.Act t))
    else at.Global global.Append (push.Act t)

abbrev pub after_kick_of : AfterKick → Worker → Place
after_kick_of (kick.Leave b) w = after_leave_of b w
after_kick_of (kick.Push b) w = after_push_of b w

abbrev pub after_signal_of : Configuration → AfterSignal → Worker → Place
after_signal_of c (signal.Claim (claim.Kick b)) w = after_kick_of b w
after_signal_of c (signal.Claim (claim.Global b)) w = after_push_of b w
after_signal_of c (signal.Send b) w = after_send c b (desk_of w)

-- after a poll of this task
abbrev pub after_poll_of : ℕ → Worker → Place
after_poll_of t w = if t == w.root then at.Callbacks callback.TakeBatch after.Look else next_pick_of w

-- what follows a withdrawal, by whether a claim came
abbrev pub place_withdrawn : Bool → AfterWait → Worker → Place
place_withdrawn claimed next.Begin w = at.BeginTurn
place_withdrawn claimed next.Serve w = serve back.Begin
place_withdrawn true (next.MakeUp last) w = leaves_turn_of w
place_withdrawn false (next.MakeUp last) w = after_return_of last leave.Begin w
place_withdrawn true next.Search w = at.Look look.ReturnClaimed
place_withdrawn false next.Search w = at.Scan scan.LoadScanHead

-- what follows a wait; a dedicated worker has published no bit
abbrev pub after_waiting_of : AfterWait → Worker → Place
after_waiting_of n w = if is_pool w.role then at.Withdraw n else place_withdrawn false n w

-- and a wait on the ring; a closing worker has none either
abbrev pub after_wait_of : Stay → AfterWait → Worker → Place
after_wait_of stay.Turn n w = after_waiting_of n w
after_wait_of stay.Closing n w = serve back.Finish

-- WHAT IS DUE NEXT

-- a moment is at most so many microseconds after this one
abbrev pub is_within : ℕ → ℕ → Option ℕ → Bool
is_within span from None = false
is_within span from (Some moment) = nat_le (moment - from) (span * 1000)

-- the first step of a wait on the wake word, where this moment is the next at which something is due
abbrev pub word_wait_of : ℕ → Option ℕ → Worker → Place
word_wait_of span moment w =
    if nat_lt 0 w.spinner.budget && not (is_within span w.moments.read moment) then at.WordWait (word.SpinOnBatch w.spinner.budget)
    else at.WordWait word.ArmWord

-- this is the earliest moment of the sleepers, where there is one
abbrev pub IsFirstSleep : Slab (Sleeping Reply) → Option ℕ → Type 0
IsFirstSleep zs None = IsEmpty zs
IsFirstSleep zs (Some moment) = (id : Id) × IsFirst zs moment id

-- this is the next moment at which something of the worker is due; one that takes no new sleepers waits for none
abbrev pub IsNextIn : Bool → Worker → Option ℕ → Type 0
IsNextIn true w moment = moment ≡ next_moment (driver_of w).wheel
IsNextIn false w moment = (sleep : Option ℕ) × IsFirstSleep w.home.timers sleep × (moment ≡ earlier (next_moment (driver_of w).wheel) sleep)

-- that moment; what the wheel has next is the deadline of a request
abbrev pub IsNextMoment : Worker → Option ℕ → Type 0
IsNextMoment w moment = IsFirstTick (driver_of w) (least_active (driver_of w).wheel) × IsNextIn w.home.closing w moment

-- it goes on to the first step of a wait: on the ring with requests, else on the wake word
abbrev pub IsWait : ℕ → Worker → Place → Type 0
IsWait span w p =
    (has_open_requests w ≡ true → p ≡ ring_wait_of stay.Turn w)
    × (has_open_requests w ≡ false → (moment : Option ℕ) × IsNextMoment w moment × (p ≡ word_wait_of span moment w))

-- where nothing is due a worker of the pool searches for work, unless it is alone; a dedicated one waits
abbrev pub first_search_of : ℕ → Worker → Place
first_search_of workers w =
    if nat_le workers 1 then at.Look look.Publish else if w.searching then at.Scan scan.LoadScanHead else at.Search search.LoadSearchCount

abbrev pub IsSearch : ℕ → ℕ → Worker → Place → Type 0
IsSearch workers span w p = (is_pool w.role ≡ true → p ≡ first_search_of workers w) × (is_pool w.role ≡ false → IsWait span w p)

-- it goes on to look at the queue of the next other worker from this one on, and after the last to the wait
abbrev pub IsLook : Configuration → ℕ → Worker → Place → Type 0
IsLook c j w p =
    (past_own w.index j < c.workers → p ≡ at.Look (look.LookAtHead (past_own w.index j)))
    × (c.workers ≤ past_own w.index j → IsWait c.spin.most w p)

-- all that was due was told
abbrev pub HasToldDue : Worker → Type 0
HasToldDue w = IsPunctual (driver_of w) × (has_first (driver_of w).lists.due ≡ false)

-- the moment at which it went to sleep, after this event
abbrev pub slept_after : Event → ℕ → Option ℕ → Option ℕ
slept_after (Sleep until) clock slept = Some clock
slept_after _ clock slept = slept

-- THE TEST BEFORE A WAIT ON THE RING

-- something is to be submitted, or the wake poll has no room
abbrev pub is_unready : Driving Reply Reply → Bool
is_unready d = has_pending d || (not d.armed && is_full d)

-- the driver with its wake poll, where that has room
abbrev pub polled_by : Driving Reply Reply → Driving Reply Reply
polled_by d = if has_pending d then d else if d.armed then d else if is_full d then d else poll_staged d

-- the ring is tested: the worker serves, or goes on with its wake poll
pub record TestsRing (x : Stay) (w w' : Worker) : Type 0 where
  pub worker : w' ≡ record w { place = (if is_unready (driver_of w) then after_wait_of x next.Serve w else at.RingWait ring.ArmRing x); home = record w.home { driver = w'.home.driver } }
  pub driver : driver_of w' ≡ record (polled_by (driver_of w)) { landings = (driver_of w').landings }
  pub punctual : IsPunctual (driver_of w) → IsPunctual (driver_of w')

-- what follows the enter of a wait, after this event, where no completion is there or some are
abbrev pub after_enter_of : Event → Bool → Stay → Place
after_enter_of Enter true x = at.RingWait ring.SleepOnRing x
after_enter_of _ quiet x = at.RingWait (ring.DisarmRing next.Begin) x
