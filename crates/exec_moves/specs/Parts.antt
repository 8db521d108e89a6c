-- Where the parts lead that several ways go through.
use Rattle.std.specs.Prelude.{ℕ, Bool, ◌==◌, nat_lt, List, [], ◌∷◌, Option, Some, None, if◌then◌else◌}
use Rattle.exec_task.specs.declared.drain.Drain.{Drain}
use Rattle.exec_machine.specs.{declared.{config.Configuration.Configuration, state.Letter.Letter}, Ranges.ring_size, World.{Common, Own as Books}}
use Rattle.exec_moves.specs.{declared.{handing.{AfterCancels.{AfterCancels, AfterCancels as cancels}, AfterKick.{AfterKick, AfterKick as kick}, AfterLeave.{AfterLeave, AfterLeave as leave}, AfterPop.{AfterPop, AfterPop as pop}, AfterPush.{AfterPush, AfterPush as push}, AfterSend.{AfterSend, AfterSend as send}, AfterSignal.{AfterSignal, AfterSignal as signal}, AfterCallbacks.AfterCallbacks as after, AfterClaim.AfterClaim as claim, InKick.InKick as kicks, InPop.InPop as pops}, place.{InClosing.{InClosing, InClosing as closing}, Place.{Place, Place as at}, InCallbacks.InCallbacks as callback, InPick.InPick as pick, InPoll.InPoll as poll}}, State.Desk, Callback.next_callback, Load.next_turn}

-- there are others to steal, to be kicked and to be searched for
abbrev pub has_others : Configuration → Bool
has_others c = nat_lt 1 c.workers

-- POP: the queue of a lone worker is its own, and takes one action
abbrev pub first_pop : Configuration → AfterPop → Place
first_pop c b = if has_others c then at.Pop pops.LoadPopHead b else at.Pop pops.PopAlone b

-- POLL: the runnable of this task is in the hand; a held search count is returned first
abbrev pub polls : ℕ → Desk → Desk
polls t d =
    record d {
      hand = Some t;
      place = if d.searching then at.LeaveSearch (leave.Poll t) else at.Poll t poll.BeginPoll;
    }

-- after a poll: of an ordinary task, and of a root
abbrev pub next_pick : Desk → Place
next_pick d = if d.picks == 0 then at.TakeRootFlag else at.Pick pick.CountDown

abbrev pub after_poll : Option ℕ → Desk → Place
after_poll None d = next_pick d
after_poll (Some home) d = at.Callbacks callback.TakeBatch after.Look

-- PUSH, GLOBAL
abbrev pub after_push : Configuration → ℕ → Books → Common → AfterPush → Desk → Place
after_push c i me s (push.Act t) d = at.Poll t poll.Act
after_push c i me s push.Pick d = next_pick d
after_push c i me s (push.CallBack n) d = next_callback (ring_size c) i me s n d

-- LEAVE
abbrev pub after_leave : Configuration → ℕ → Books → Common → AfterLeave → Desk → Place
after_leave c i me s (leave.Poll t) d = at.Poll t poll.BeginPoll
after_leave c i me s (leave.CallBack n) d = at.Callbacks callback.CallBack n
after_leave c i me s leave.Begin d = next_turn c i me s d

-- KICK
abbrev pub after_kick : Configuration → ℕ → Books → Common → AfterKick → Desk → Place
after_kick c i me s (kick.Leave b) d = after_leave c i me s b d
after_kick c i me s (kick.Push b) d = after_push c i me s b d

-- a count was returned: who returned the last kicks
abbrev pub after_return : Configuration → ℕ → Books → Common → Bool → AfterLeave → Desk → Place
after_return c i me s last b d = if last then at.Kick kicks.LoadKickCount (kick.Leave b) else after_leave c i me s b d

-- the stop is told to the root of each worker from this one on, and then the own queue is emptied
abbrev pub tells_from : Configuration → ℕ → Place
tells_from c worker = if nat_lt worker c.workers then at.Closing (closing.TellRoot worker) else first_pop c pop.Discard

-- the visits of a drain that are left
abbrev pub after_visit : Drain → InClosing
after_visit x = if x.left == 0 then closing.LeaveBarrier else closing.Visit x

-- once all was told of what a task held that is over
abbrev pub after_cancels : AfterCancels → Desk → Place
after_cancels (cancels.Remove t) d = at.Poll t poll.RemoveTask
after_cancels cancels.Pick d = next_pick d
after_cancels (cancels.Visit x) d = at.Closing (after_visit x)

-- what is left to be told of that, to whom it is of
abbrev pub cancels_left : AfterCancels → Desk → List Letter → Place
cancels_left b d [] = after_cancels b d
cancels_left b d (letter ∷ letters) = at.SendCancel b

-- SEND
abbrev pub after_send : Configuration → AfterSend → Desk → Place
after_send c (send.Act t) d = at.Poll t poll.Act
after_send c (send.Pend t) d = at.Poll t poll.Pend
after_send c (send.Cancels b) d = cancels_left b d d.letters
after_send c (send.Tell worker) d = tells_from c worker

-- SIGNAL
abbrev pub after_signal : Configuration → ℕ → Books → Common → AfterSignal → Desk → Place
after_signal c i me s (signal.Claim (claim.Kick b)) d = after_kick c i me s b d
after_signal c i me s (signal.Claim (claim.Global b)) d = after_push c i me s b d
after_signal c i me s (signal.Send b) d = after_send c b d
