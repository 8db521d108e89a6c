-- What a place says of its worker: what of the machine's own part is read off it.
use Rattle.std.specs.Prelude.{ℕ, Bool, true, false, not, ◌==◌, ◌-◌, ◌&&◌, ◌++◌, List, [], Option, Some, None}
use Rattle.exec_machine.specs.{declared.{config.Configuration.Configuration, state.{Letter.Letter, Next.{Next, Next as next}}}, Closing.letters_to_roots}
use Rattle.exec_moves.specs.{declared.{handing.{AfterCallbacks.{AfterCallbacks, AfterCallbacks as after}, AfterClaim.{AfterClaim, AfterClaim as claim}, AfterKick.{AfterKick, AfterKick as kick}, AfterPush.{AfterPush, AfterPush as push}, AfterSend.{AfterSend, AfterSend as send}, AfterSignal.{AfterSignal, AfterSignal as signal}, CallPlace.{CallPlace, CallPlace as call}}, idling.Stay.{Stay, Stay as stay}, place.{AfterService.{AfterService, AfterService as back}, InPoll.{InPoll, InPoll as poll}, InCallbacks.{InCallbacks, InCallbacks as callback}, InService.{InService, InService as step}, InMail.{InMail, InMail as mail}, InClosing.{InClosing, InClosing as closing}, Place.{Place, Place as at}}}, State.Desk}

-- THE TASK THAT IT POLLS

abbrev pub polls_in : ℕ → InPoll → Option ℕ
polls_in t poll.BeginPoll = None
polls_in t poll.RemoveTask = None
polls_in t _ = Some t

-- a part that hands something on for an act is within the poll
abbrev pub polls_for : AfterPush → Option ℕ
polls_for (push.Act t) = Some t
polls_for _ = None

abbrev pub polls_in_kick : AfterKick → Option ℕ
polls_in_kick (kick.Leave b) = None
polls_in_kick (kick.Push b) = polls_for b

abbrev pub polls_in_claim : AfterClaim → Option ℕ
polls_in_claim (claim.Kick b) = polls_in_kick b
polls_in_claim (claim.Global b) = polls_for b

abbrev pub polls_in_send : AfterSend → Option ℕ
polls_in_send (send.Act t) = Some t
polls_in_send (send.Pend t) = Some t
polls_in_send _ = None

abbrev pub polls_in_signal : AfterSignal → Option ℕ
polls_in_signal (signal.Claim b) = polls_in_claim b
polls_in_signal (signal.Send b) = polls_in_send b

abbrev pub polls_at : Place → Option ℕ
polls_at (at.Poll t x) = polls_in t x
polls_at (at.Push x b) = polls_for b
polls_at (at.Global x b) = polls_for b
polls_at (at.Kick x b) = polls_in_kick b
polls_at (at.ClaimWorker set b) = polls_in_claim b
polls_at (at.Signal x j b) = polls_in_signal b
polls_at _ = None

-- WHAT ITS NEXT LINE HAS TO DO

abbrev pub next_in_poll : InPoll → Next
next_in_poll (poll.JoinGate r) = next.Joins r
next_in_poll _ = next.Free

abbrev pub next_in_closing : InClosing → Next
next_in_closing closing.CloseQueue = next.ClosesQueue
next_in_closing closing.CloseMailbox = next.ClosesMailbox
next_in_closing _ = next.Free

abbrev pub next_at : Place → Next
next_at (at.Poll t x) = next_in_poll x
next_at (at.Closing x) = next_in_closing x
next_at _ = next.Free

-- WHAT IT HAS TO SEND: the stop, to the roots of all workers from one on; or its letters

abbrev pub owes_from : Configuration → ℕ → List Letter
owes_from c worker = letters_to_roots (c.workers - worker) worker

abbrev pub owes_in_signal : Configuration → AfterSignal → List Letter
owes_in_signal c (signal.Send (send.Tell worker)) = owes_from c worker
owes_in_signal c _ = []

abbrev pub owes_roots : Configuration → Place → List Letter
owes_roots c (at.Closing (closing.TellRoot worker)) = owes_from c worker
owes_roots c (at.Signal x j b) = owes_in_signal c b
owes_roots c _ = []

abbrev pub owes_at : Configuration → Desk → List Letter
owes_at c d = owes_roots c d.place ++ d.letters

-- WHETHER IT HAS PASSED THE BARRIER

abbrev pub left_in_closing : InClosing → Bool
left_in_closing closing.CloseMailbox = true
left_in_closing closing.Orphan = true
left_in_closing closing.CloseSleeper = true
left_in_closing closing.End = true
left_in_closing _ = false

abbrev pub left_before : AfterCallbacks → Bool
left_before after.Drain = true
left_before after.Finish = true
left_before _ = false

abbrev pub left_in_service : AfterService → Bool
left_in_service back.Finish = true
left_in_service _ = false

abbrev pub left_in_wait : Stay → Bool
left_in_wait stay.Turn = false
left_in_wait stay.Closing = true

abbrev pub is_past_barrier : Place → Bool
is_past_barrier (at.Closing x) = left_in_closing x
is_past_barrier (at.Callbacks x n) = left_before n
is_past_barrier (at.Service x v) = left_in_service v.back
is_past_barrier (at.RingWait x y) = left_in_wait y
is_past_barrier _ = false

-- a dedicated worker passes none
abbrev pub left_at : Bool → Place → Bool
left_at pool p = pool && is_past_barrier p

-- WHETHER IT IS WITHIN A SERVICE: from the first line after the sampling up to the line that follows the service

abbrev pub serves_in : InService → Bool
serves_in step.Sample = false
serves_in _ = true

abbrev pub serves_in_mail : InMail → Bool
serves_in_mail mail.LoadMailWord = true
serves_in_mail (mail.Apply applied taken) = (applied == 0) && not taken
serves_in_mail mail.TakeMail = false

abbrev pub serves_before : InCallbacks → AfterCallbacks → Bool
serves_before callback.TakeBatch after.Begin = true
serves_before callback.TakeBatch after.Finish = true
serves_before _ _ = false

abbrev pub serves_at : Place → Bool
serves_at (at.Service x v) = serves_in x
serves_at (at.Mail x) = serves_in_mail x
serves_at (at.Callbacks x n) = serves_before x n
serves_at _ = false

-- OF A CALLER: its call is half done
abbrev pub is_calling : CallPlace → Bool
is_calling call.Nothing = false
is_calling _ = true
