-- WHAT IS STILL OWED: how many turns more a worker may begin on end without a line that isn't quiet, and how many of them come after a spin.
--
-- A turn begins only because a worker has seen a sign that there is something to do. A sure sign brings a line that isn't quiet where the turn takes it
-- up; so while a sure sign is on, and the stage of the turn at which it is taken up is ahead, no other turn follows. Any other sign is gone where it is
-- taken up, and so is good for one turn.
use Rattle.std.specs.{Prelude.{ℕ, Bool, true, false, not, ◌+◌, ◌*◌, ◌==◌, ◌&&◌, ◌||◌, length, is_some, nat_lt, nat_le, if◌then◌else◌}, List.list_any}
use Rattle.exec_words.specs.{Queue.{Queue, head_of, tail_of}, Head.is_stealable_at}
use Rattle.exec_machine.specs.{declared.config.Configuration.Configuration, Ranges.ring_size, World.{Common, seat_of, Own as Books}, Tests.{is_empty, is_asleep}, Deadlines.is_due}
use Rattle.exec_moves.specs.{declared.{handing.{First.First, AfterCallbacks.AfterCallbacks, AfterClaim.AfterClaim, AfterKick.AfterKick, AfterLeave.AfterLeave, AfterPop.AfterPop, AfterPush.AfterPush, AfterSend.AfterSend, AfterSignal.AfterSignal, InSignal.InSignal}, idling.{AfterWait.AfterWait, InRingWait.InRingWait, InWordWait.InWordWait}, place.{InPick.InPick, InPoll.InPoll, AfterPermit.AfterPermit, AfterService.AfterService, InLoads.InLoads, InMail.InMail, InService.InService, Reaping.Reaping, Round.Round, Place.Place}}, Callback.{is_full, is_of_pool}, Counts.one_if, Load.{has_mail, has_submissions}, State.{Desk, Things, WakePoll, queue_of, word_of, wake_poll_of}}

-- THE STAGES OF A TURN, from its end up to its beginning: where the turn takes something up, and may do so from there on up
abbrev pub calling_back : ℕ
calling_back = 1

abbrev pub applying : ℕ
applying = 2

abbrev pub opening_mail : ℕ
opening_mail = 3

abbrev pub firing : ℕ
firing = 4

abbrev pub reaping : ℕ
reaping = 5

abbrev pub staging : ℕ
staging = 6

abbrev pub expiring : ℕ
expiring = 7

abbrev pub sampling : ℕ
sampling = 8

abbrev pub flagging : ℕ
flagging = 9

abbrev pub beginning : ℕ
beginning = 10

abbrev pub stage_of_callbacks : AfterCallbacks → ℕ
stage_of_callbacks AfterCallbacks.Look = sampling
stage_of_callbacks AfterCallbacks.Test = calling_back
stage_of_callbacks AfterCallbacks.Begin = beginning
stage_of_callbacks _ = 0

-- with so many picks left in the turn
abbrev pub stage_of_pick : ℕ → ℕ
stage_of_pick picks = if picks == 0 then flagging else beginning

abbrev pub stage_of_push : ℕ → AfterPush → ℕ
stage_of_push picks (AfterPush.Act t) = 0
stage_of_push picks AfterPush.Pick = stage_of_pick picks
stage_of_push picks (AfterPush.CallBack n) = stage_of_callbacks n

abbrev pub stage_of_leave : AfterLeave → ℕ
stage_of_leave (AfterLeave.Poll t) = 0
stage_of_leave (AfterLeave.CallBack n) = stage_of_callbacks n
stage_of_leave AfterLeave.Begin = beginning

abbrev pub stage_of_kick : ℕ → AfterKick → ℕ
stage_of_kick picks (AfterKick.Leave b) = stage_of_leave b
stage_of_kick picks (AfterKick.Push b) = stage_of_push picks b

abbrev pub stage_of_claim : ℕ → AfterClaim → ℕ
stage_of_claim picks (AfterClaim.Kick b) = stage_of_kick picks b
stage_of_claim picks (AfterClaim.Global b) = stage_of_push picks b

abbrev pub stage_of_send : ℕ → AfterSend → ℕ
stage_of_send picks (AfterSend.Cancels b) = stage_of_pick picks
stage_of_send picks _ = 0

abbrev pub stage_of_signal : ℕ → AfterSignal → ℕ
stage_of_signal picks (AfterSignal.Claim b) = stage_of_claim picks b
stage_of_signal picks (AfterSignal.Send b) = stage_of_send picks b

abbrev pub stage_of_reap : Reaping → ℕ
stage_of_reap Reaping.First = expiring
stage_of_reap Reaping.Last = reaping

abbrev pub stage_of_permit : AfterPermit → ℕ
stage_of_permit (AfterPermit.Reap r) = stage_of_reap r
stage_of_permit (AfterPermit.Reaped Reaping.First) = expiring
stage_of_permit (AfterPermit.Reaped Reaping.Last) = firing
stage_of_permit (AfterPermit.Submit gate) = staging

abbrev pub stage_in_service : InService → ℕ
stage_in_service InService.Sample = sampling
stage_in_service (InService.Reap r) = stage_of_reap r
stage_in_service (InService.PassPermit file b) = stage_of_permit b
stage_in_service (InService.Signal worker b) = stage_of_permit b
stage_in_service (InService.Raise ring worker b) = stage_of_permit b
stage_in_service InService.AdvanceWheel = expiring
stage_in_service (InService.Submit gate) = staging
stage_in_service InService.EnterLast = reaping
stage_in_service InService.EndService = firing

-- what was put off is made up before a turn
abbrev pub stage_of_service : AfterService → InService → ℕ
stage_of_service AfterService.Mail p = stage_in_service p
stage_of_service AfterService.Begin p = beginning
stage_of_service AfterService.Finish p = 0

abbrev pub stage_in_mail : InMail → ℕ
stage_in_mail (InMail.Apply applied taken) = applying
stage_in_mail _ = opening_mail

abbrev pub stage_of_loads : Round → ℕ
stage_of_loads Round.First = sampling
stage_of_loads Round.Second = 0

abbrev pub stage_of_withdrawal : AfterWait → ℕ
stage_of_withdrawal AfterWait.Search = 0
stage_of_withdrawal _ = beginning

abbrev pub stage_of_ring_wait : InRingWait → ℕ
stage_of_ring_wait (InRingWait.DisarmRing n) = beginning
stage_of_ring_wait _ = 0

abbrev pub stage_of_word_wait : InWordWait → ℕ
stage_of_word_wait InWordWait.TakeLatch = beginning
stage_of_word_wait InWordWait.DisarmWord = beginning
stage_of_word_wait _ = 0

-- a pick has its own look at the queues ahead, and all that comes after the picks
abbrev pub stage_in_pick : InPick → ℕ
stage_in_pick InPick.CountDown = beginning
stage_in_pick _ = flagging

abbrev pub stage : ℕ → Place → ℕ
stage picks Place.BeginTurn = beginning
stage picks (Place.Pick p) = stage_in_pick p
stage picks Place.TakeRootFlag = flagging
stage picks (Place.Poll t InPoll.RemoveTask) = stage_of_pick picks
stage picks (Place.Callbacks p n) = stage_of_callbacks n
stage picks (Place.Loads p r) = stage_of_loads r
stage picks (Place.Service p v) = stage_of_service v.back p
stage picks (Place.Mail p) = stage_in_mail p
stage picks (Place.RingWait p y) = stage_of_ring_wait p
stage picks (Place.WordWait p) = stage_of_word_wait p
stage picks (Place.Withdraw n) = stage_of_withdrawal n
stage picks (Place.Pop p b) = flagging
stage picks (Place.LeaveSearch b) = stage_of_leave b
stage picks (Place.Push p b) = stage_of_push picks b
stage picks (Place.Global p b) = stage_of_push picks b
stage picks (Place.Kick p b) = stage_of_kick picks b
stage picks (Place.ClaimWorker set b) = stage_of_claim picks b
stage picks (Place.Signal p j b) = stage_of_signal picks b
stage picks (Place.SendCancel b) = stage_of_pick picks
stage picks (Place.Closing p) = beginning
stage picks _ = 0

-- this pick looks at the own run queue yet, or at the global one
abbrev pub pops_own : Place → Bool
pops_own (Place.Pick (InPick.LoadMirror First.Global)) = true
pops_own (Place.Pick (InPick.LoadHead First.Global)) = true
pops_own (Place.Pick (InPick.TakeShare First.Global room held)) = true
pops_own (Place.Pop p (AfterPop.Pick f)) = true
pops_own _ = false

abbrev pub takes_share : Place → Bool
takes_share (Place.Pick (InPick.LoadMirror f)) = true
takes_share (Place.Pick (InPick.LoadHead f)) = true
takes_share (Place.Pick (InPick.TakeShare f room held)) = true
takes_share (Place.Pop p (AfterPop.Pick First.Own)) = true
takes_share _ = false

-- SURE SIGNS

-- Something waits in the callbacks that isn't quiet: a wake, or what an ended request owned.
abbrev pub has_wakes : Books → Desk → Bool
has_wakes me d = not (is_empty d.wakes) || not (is_empty me.ended)

abbrev pub is_any_due : ℕ → ℕ → Common → Bool
is_any_due i moment s = list_any (is_due i moment) s.requests

abbrev pub is_any_to_fire : ℕ → ℕ → Common → Bool
is_any_to_fire i moment s = list_any (λ z. is_asleep i z && nat_le z.until moment) s.sleepers

-- of each sure sign whether it is on; of what is due also whether it is so by the moment that was sampled last
pub record Signs : Type 0 where
  pub queue : Bool
  -- what is kept aside in the midst of an overflow comes into the own run queue again
  pub aside : Bool
  pub global : Bool
  pub flag : Bool
  pub wakes : Bool
  pub landed : Bool
  -- something is to be submitted, and the ring isn't set busy
  pub submissions : Bool
  pub due : Bool
  pub due_then : Bool
  pub fires : Bool
  pub fires_then : Bool
  pub mail : Bool
  pub batch : Bool

abbrev pub signs : Configuration → ℕ → Books → Common → Desk → Things → Signs
signs c i me s d x =
    record {
      queue = is_of_pool s i && not (is_empty (queue_of x i).values);
      aside = is_of_pool s i && not (is_empty (queue_of x i).held);
      global = is_of_pool s i && not (is_empty x.global);
      flag = d.root_ready;
      wakes = has_wakes me d;
      landed = not (is_empty (seat_of s i).landed);
      submissions = has_submissions c me && not (seat_of s i).busy;
      due = is_any_due i s.clock s;
      due_then = is_any_due i me.sampled s;
      fires = is_any_to_fire i s.clock s;
      fires_then = is_any_to_fire i me.sampled s;
      mail = has_mail d (word_of x i);
      batch = not (is_empty d.batch);
    }

-- how many of them are on, and ahead of this place
abbrev pub signs_ahead : ℕ → Place → Signs → ℕ
signs_ahead n p y =
    one_if ((nat_le beginning n || pops_own p) && y.queue) + one_if ((nat_le beginning n || pops_own p) && y.aside) + one_if ((nat_le beginning n || takes_share p) && y.global) + one_if (nat_le flagging n && y.flag)
    + one_if (nat_le calling_back n && y.wakes) + one_if (nat_le reaping n && y.landed) + one_if (nat_le staging n && y.submissions)
    + one_if (nat_le sampling n && y.due) + one_if (nat_le staging n && y.due_then) + one_if (nat_le sampling n && y.fires) + one_if (nat_le firing n && y.fires_then)
    + one_if (nat_le opening_mail n && y.mail) + one_if ((nat_le firing n || (n == applying)) && y.batch)

-- how many are on
abbrev pub signs_on : Signs → ℕ
signs_on y =
    one_if y.queue + one_if y.aside + one_if y.global + one_if y.flag + one_if y.wakes + one_if y.landed + one_if y.submissions + one_if y.due + one_if y.due_then
    + one_if y.fires + one_if y.fires_then + one_if y.mail + one_if y.batch

-- SOMETHING TO STEAL, in some run queue
abbrev pub is_stealable : Queue ℕ → Bool
is_stealable q = is_stealable_at (head_of q) (tail_of q)

abbrev pub can_steal : Things → Bool
can_steal x = list_any is_stealable x.queues

-- OTHER SIGNS

-- the loads have found something
abbrev pub found_in : InLoads → Bool
found_in InLoads.LoadOwnHead = false
found_in (InLoads.LoadOwnMirror f) = f.ready
found_in (InLoads.LoadOwnWord f) = f.ready

abbrev pub finds : Place → Bool
finds (Place.Loads p Round.Second) = found_in p
finds (Place.TestForWork f) = f.ready
finds _ = false

-- it puts the latch into its own wake word next
abbrev pub signals_itself : ℕ → Place → Bool
signals_itself i (Place.Service (InService.PassPermit file b) v) = true
signals_itself i (Place.Service (InService.Signal j b) v) = j == i
signals_itself i (Place.Signal InSignal.SetLatch j b) = j == i
signals_itself i _ = false

-- what is left in the callbacks that is quiet, a step each
abbrev pub quiet_items : Desk → ℕ
quiet_items d = d.outputs + length d.completions + length d.results

-- a completion of no operation
abbrev pub has_stray : Desk → WakePoll → Bool
has_stray d w = nat_lt 0 d.others || w.told

-- the turns for signs that are no sure ones, at stage n
pub record Others : Type 0 where
  -- its wake word has a latch, or will have one by its own step
  pub latch : ℕ
  -- completions of no operation, and cancels that the kernel will acknowledge
  pub stray : ℕ
  pub untold : ℕ
  -- its wake poll: a wake was kept for it, or it has ended
  pub kept : ℕ
  pub ended : ℕ
  -- the ring was set busy, so that its next enter takes nothing; and something is to be submitted all the same
  pub busy : ℕ
  pub pressed : ℕ
  -- the wake poll has no place in a full submission queue
  pub unpolled : ℕ
  pub items : ℕ
  -- something was found that isn't there any more
  pub found : ℕ

abbrev pub others : Configuration → ℕ → Books → Common → Desk → Things → Others
others c i me s d x =
    let n = stage d.picks d.place in
    record {
      latch = one_if (nat_lt n sampling && (signals_itself i d.place || (word_of x i).latch));
      stray = one_if (nat_lt n reaping && has_stray d (wake_poll_of x i));
      untold = one_if (not (is_empty me.untold));
      kept = 2 * one_if (wake_poll_of x i).kept;
      ended = one_if (is_some (wake_poll_of x i).ended);
      busy = one_if (seat_of s i).busy;
      pressed = one_if (nat_lt n staging && (has_submissions c me && (seat_of s i).busy));
      unpolled = one_if (nat_lt n staging && (is_full (ring_size c) d && (not d.polled && not (has_submissions c me))));
      items = one_if (nat_lt n calling_back && nat_lt 0 (quiet_items d));
      found = one_if (finds d.place && not ((signs c i me s d x).queue || ((signs c i me s d x).global || (signs c i me s d x).mail)));
    }

abbrev pub all_others : Others → ℕ
all_others o = o.latch + o.stray + o.untold + o.kept + o.ended + o.busy + o.pressed + o.unpolled + o.items + o.found

-- HOW MANY TURNS MORE

abbrev pub ahead : Configuration → ℕ → Books → Common → Desk → Things → ℕ
ahead c i me s d x = signs_ahead (stage d.picks d.place) d.place (signs c i me s d x)

-- a sure sign is on, there is something to steal, or something in hand
abbrev pub wanted : Configuration → ℕ → Books → Common → Desk → Things → ℕ
wanted c i me s d x = signs_on (signs c i me s d x) + one_if (can_steal x) + one_if (is_some d.hand) + one_if (not (is_empty d.loot))

abbrev pub turns_owed : Configuration → ℕ → Books → Common → Desk → Things → ℕ
turns_owed c i me s d x =
    if nat_lt 0 (ahead c i me s d x) then 0 else one_if (nat_lt 0 (wanted c i me s d x)) + all_others (others c i me s d x)

-- AND HOW MANY OF THEM AFTER A SPIN: only a latch brings one without a sure sign

-- the spin of this turn is ahead
abbrev pub is_before_spin : Place → Bool
is_before_spin (Place.WordWait (InWordWait.SpinOnBatch left)) = false
is_before_spin (Place.WordWait (InWordWait.SpinOnLatch left)) = false
is_before_spin (Place.WordWait InWordWait.ArmWord) = false
is_before_spin (Place.WordWait InWordWait.SleepOnWord) = false
is_before_spin _ = true

abbrev pub spins_of_signs : Configuration → ℕ → Books → Common → Desk → Things → ℕ
spins_of_signs c i me s d x = one_if (is_before_spin d.place) + (others c i me s d x).latch

abbrev pub spins_owed : Configuration → ℕ → Books → Common → Desk → Things → ℕ
spins_owed c i me s d x = if nat_lt 0 (ahead c i me s d x) then 0 else spins_of_signs c i me s d x
