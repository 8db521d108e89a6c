-- HOW MANY QUIET STEPS A WORKER HAS LEFT, among several: a number that falls at each of them.
--
-- What is left of this turn, another scan where the look may find something that the scan didn't, and a turn for each that is owed. Within a poll it is
-- the way to the next act, or to the end of the poll, alone: these are no quiet steps.
use Rattle.std.specs.{Prelude.{ℕ, suc, Bool, true, false, not, ◌+◌, ◌*◌, ◌-◌, ◌%◌, ◌==◌, ◌&&◌, ◌||◌, if◌then◌else◌}, List.{list_any, range_with_len}}
use Rattle.exec_words.specs.{Head.is_stealable_at, Queue.tail_of}
use Rattle.exec_machine.specs.{declared.config.Configuration.Configuration, Ranges.largest_spin, World.{Common, Own as Books}}
use Rattle.exec_moves.specs.{declared.{handing.{AfterCallbacks.AfterCallbacks, AfterClaim.AfterClaim, AfterKick.AfterKick, AfterLeave.AfterLeave, AfterPush.AfterPush, AfterSend.AfterSend, AfterSignal.AfterSignal}, idling.{AfterWait.AfterWait, InLook.InLook, InRingWait.InRingWait, InScan.InScan, InSearch.InSearch, InWordWait.InWordWait, Scan.Scan}, place.{InPoll.InPoll, AfterPermit.AfterPermit, AfterService.AfterService, InService.InService, Reaping.Reaping, Round.Round, Place.Place}}, Counts.{gates_from, one_if}, Search.from_of, State.{Desk, Things, queue_of}}
use Rattle.exec_progress.specs.{Owed.{can_steal, is_stealable, quiet_items, spins_owed, turns_owed}, Ranks.{disarm, is_fresh, rank, spin, withdraw_to_search}}

-- WITHIN A POLL, or about to begin one

abbrev pub is_short_push : AfterPush → Bool
is_short_push (AfterPush.Act t) = true
is_short_push _ = false

abbrev pub is_short_leave : AfterLeave → Bool
is_short_leave (AfterLeave.Poll t) = true
is_short_leave _ = false

abbrev pub is_short_kick : AfterKick → Bool
is_short_kick (AfterKick.Leave b) = is_short_leave b
is_short_kick (AfterKick.Push b) = is_short_push b

abbrev pub is_short_claim : AfterClaim → Bool
is_short_claim (AfterClaim.Kick b) = is_short_kick b
is_short_claim (AfterClaim.Global b) = is_short_push b

abbrev pub is_short_send : AfterSend → Bool
is_short_send (AfterSend.Act t) = true
is_short_send (AfterSend.Pend t) = true
is_short_send _ = false

abbrev pub is_short_signal : AfterSignal → Bool
is_short_signal (AfterSignal.Claim b) = is_short_claim b
is_short_signal (AfterSignal.Send b) = is_short_send b

abbrev pub is_short : Place → Bool
is_short (Place.Poll t InPoll.RemoveTask) = false
is_short (Place.Poll t p) = true
is_short (Place.LeaveSearch b) = is_short_leave b
is_short (Place.Push p b) = is_short_push b
is_short (Place.Global p b) = is_short_push b
is_short (Place.Kick p b) = is_short_kick b
is_short (Place.ClaimWorker set b) = is_short_claim b
is_short (Place.Signal p j b) = is_short_signal b
is_short _ = false

-- THE GATES that are looked at in the stagings of this turn, a step each: in one that has begun those from a number on

abbrev pub begun_gates : ℕ → Common → Place → ℕ
begun_gates i s (Place.Service (InService.Submit gate) v) = gates_from i gate s
begun_gates i s (Place.Service (InService.PassPermit file (AfterPermit.Submit gate)) v) = gates_from i gate s
begun_gates i s (Place.Service (InService.Signal worker (AfterPermit.Submit gate)) v) = gates_from i gate s
begun_gates i s (Place.Service (InService.Raise ring worker (AfterPermit.Submit gate)) v) = gates_from i gate s
begun_gates i s _ = 0

-- the staging of this service is ahead
abbrev pub permit_before_staging : AfterPermit → ℕ
permit_before_staging (AfterPermit.Reap Reaping.First) = 1
permit_before_staging (AfterPermit.Reaped Reaping.First) = 1
permit_before_staging _ = 0

abbrev pub before_staging : InService → ℕ
before_staging InService.Sample = 1
before_staging (InService.Reap Reaping.First) = 1
before_staging InService.AdvanceWheel = 1
before_staging (InService.PassPermit file b) = permit_before_staging b
before_staging (InService.Signal worker b) = permit_before_staging b
before_staging (InService.Raise ring worker b) = permit_before_staging b
before_staging _ = 0

-- that of the turn comes after one that makes up
abbrev pub stagings_of_service : AfterService → ℕ → ℕ
stagings_of_service AfterService.Mail n = n
stagings_of_service _ n = 1 + n

abbrev pub stagings_of_callbacks : AfterCallbacks → ℕ
stagings_of_callbacks AfterCallbacks.Test = 0
stagings_of_callbacks _ = 1

abbrev pub stagings_of_push : AfterPush → ℕ
stagings_of_push (AfterPush.CallBack n) = stagings_of_callbacks n
stagings_of_push _ = 1

abbrev pub stagings_of_leave : AfterLeave → ℕ
stagings_of_leave (AfterLeave.CallBack n) = stagings_of_callbacks n
stagings_of_leave _ = 2

abbrev pub stagings_of_kick : AfterKick → ℕ
stagings_of_kick (AfterKick.Leave b) = stagings_of_leave b
stagings_of_kick (AfterKick.Push b) = stagings_of_push b

abbrev pub stagings_of_claim : AfterClaim → ℕ
stagings_of_claim (AfterClaim.Kick b) = stagings_of_kick b
stagings_of_claim (AfterClaim.Global b) = stagings_of_push b

abbrev pub stagings_of_signal : AfterSignal → ℕ
stagings_of_signal (AfterSignal.Claim b) = stagings_of_claim b
stagings_of_signal (AfterSignal.Send b) = 1

abbrev pub stagings_of_loads : Round → ℕ
stagings_of_loads Round.First = 1
stagings_of_loads Round.Second = 0

-- so many stagings are ahead, beside one that has begun
abbrev pub stagings : Place → ℕ
stagings (Place.Callbacks p n) = stagings_of_callbacks n
stagings (Place.Loads p r) = stagings_of_loads r
stagings (Place.Service p v) = stagings_of_service v.back (before_staging p)
stagings (Place.Mail p) = 0
stagings (Place.TestForWork f) = 0
stagings Place.ReadClock = 0
stagings (Place.Search p) = 0
stagings (Place.Scan p) = 0
stagings (Place.Look p) = 0
stagings (Place.RingWait (InRingWait.DisarmRing n) y) = 2
stagings (Place.RingWait p y) = 0
stagings (Place.WordWait InWordWait.TakeLatch) = 2
stagings (Place.WordWait InWordWait.DisarmWord) = 2
stagings (Place.WordWait p) = 0
stagings (Place.Withdraw AfterWait.Search) = 0
stagings (Place.Withdraw n) = 2
stagings (Place.LeaveSearch b) = stagings_of_leave b
stagings (Place.Push p b) = stagings_of_push b
stagings (Place.Global p b) = stagings_of_push b
stagings (Place.Kick p b) = stagings_of_kick b
stagings (Place.ClaimWorker set b) = stagings_of_claim b
stagings (Place.Signal p j b) = stagings_of_signal b
stagings _ = 1

abbrev pub gates_left : ℕ → Common → Place → ℕ
gates_left i s p = begun_gates i s p + stagings p * gates_from i 0 s

-- what is left of this turn
abbrev pub in_turn : Configuration → ℕ → Common → Desk → Things → ℕ
in_turn c i s d x = rank c i d x d.place + quiet_items d + gates_left i s d.place

-- ANOTHER SCAN, where the look finds something to steal that the scan had passed by then, or that is gone since

-- a queue from which can be stolen is one that the scan comes to yet, after it has passed so many
abbrev pub comes_to : Configuration → ℕ → ℕ → Things → Bool
comes_to c start passed x = list_any (λ k. is_stealable (queue_of x ((start + k) % c.workers))) (range_with_len passed (c.workers - passed))

-- with a head that isn't the queue's any more that one counts as passed
abbrev pub passed_by : Scan → Bool → ℕ
passed_by y true = y.passed
passed_by y false = y.passed + 1

abbrev pub may_miss : Configuration → Scan → Bool → Things → Bool
may_miss c y fresh x = can_steal x && not (comes_to c y.start (passed_by y fresh) x)

-- nobody else searches
abbrev pub searches_alone : Desk → Things → Bool
searches_alone d x = x.idle.count == one_if d.searching

abbrev pub scans_again : Configuration → Desk → Things → Place → Bool
scans_again c d x (Place.Search InSearch.LoadSearchCount) = d.searching && can_steal x
scans_again c d x (Place.Scan (InScan.LoadTheirHead y)) = may_miss c y true x
scans_again c d x (Place.Scan (InScan.LoadTheirTail y h)) = may_miss c y (is_fresh x (from_of c y) h) x
scans_again c d x (Place.Scan (InScan.ClaimHalf y h tail)) = may_miss c y (is_fresh x (from_of c y) h) x
scans_again c d x (Place.Look InLook.Publish) = searches_alone d x && can_steal x
scans_again c d x (Place.Look InLook.ReturnLookCount) = searches_alone d x && can_steal x
scans_again c d x (Place.Look (InLook.LookAtTail j h)) = x.idle.count == 0 && (is_stealable_at h (tail_of (queue_of x j)) || can_steal x)
scans_again c d x (Place.Look InLook.ExchangeLookCount) = x.idle.count == 0
scans_again c d x (Place.Look InLook.ReturnClaimed) = false
scans_again c d x (Place.Look p) = x.idle.count == 0 && can_steal x
scans_again c d x _ = false

abbrev pub second_scan : Configuration → Bool → ℕ
second_scan c true = withdraw_to_search c.workers
second_scan c false = 0

-- IN ALL

-- above a turn with what was put off, from where a wait ends, and its two stagings
abbrev pub whole_turn : Configuration → ℕ → Common → ℕ
whole_turn c i s = suc (disarm c.workers) + 2 * gates_from i 0 s

-- above the longest spin
abbrev pub whole_spin : Configuration → ℕ
whole_spin c = suc (spin (largest_spin c.spin))

abbrev pub turn_left : Configuration → ℕ → Common → Desk → Things → ℕ
turn_left c i s d x = in_turn c i s d x + second_scan c (scans_again c d x d.place)

abbrev pub steps_left : Configuration → ℕ → Books → Common → Desk → Things → ℕ
steps_left c i me s d x =
    if is_short d.place then rank c i d x d.place
    else turn_left c i s d x + whole_turn c i s * turns_owed c i me s d x + whole_spin c * spins_owed c i me s d x
