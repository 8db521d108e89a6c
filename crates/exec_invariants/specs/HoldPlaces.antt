-- What a place says of what its worker tells: where callbacks follow, where messages about what a task held are sent, for whom an
-- end was sent, and where no sleeper is left.
use Rattle.std.specs.Prelude.{◌-◌}
use Rattle.exec_invariants.specs.{Words.{ℕ, Bool, true, false, Option, Some, None, is_some, AfterCallbacks, AfterPush, Heard, Place, left_in_service, after, push, send, signal, stay, callback, closing, mail, at}, Places.{calls_after_leave, once_claimed, once_kicked, once_signalled}}

-- THE CALLBACKS that a place is in, or comes back to once it has handed something on

abbrev pub callbacks_after_push : AfterPush → Option AfterCallbacks
callbacks_after_push (push.CallBack n) = Some n
callbacks_after_push _ = None

abbrev pub callbacks_at : Place → Option AfterCallbacks
callbacks_at (at.Callbacks x n) = Some n
callbacks_at (at.LeaveSearch b) = calls_after_leave b
callbacks_at (at.Push x b) = callbacks_after_push b
callbacks_at (at.Global x b) = callbacks_after_push b
callbacks_at (at.Kick x b) = once_kicked calls_after_leave callbacks_after_push b
callbacks_at (at.ClaimWorker set b) = once_claimed calls_after_leave callbacks_after_push b
callbacks_at (at.Signal x j b) = once_signalled calls_after_leave callbacks_after_push (λ _. None) b
callbacks_at _ = None

-- WAKES are left only by a service or a closing, and paid by the callbacks after it; the mail lies between.

abbrev pub has_wakes_at : Place → Bool
has_wakes_at (at.Service x v) = true
has_wakes_at (at.Mail x) = true
has_wakes_at (at.Closing closing.Orphan) = true
has_wakes_at (at.Closing closing.CloseSleeper) = true
has_wakes_at (at.Closing closing.End) = true
has_wakes_at p = is_some (callbacks_at p)

-- THE ROOM that the messages of a turn have, of which each may tell one thing that nothing else made room for: of 64 as long as
-- none was applied; of those that are left while they are applied; of none until what they told is told on

abbrev pub spare_before : Option AfterCallbacks → ℕ
spare_before (Some after.Test) = 0
spare_before _ = 64

abbrev pub spare_at : Place → ℕ
spare_at (at.Mail (mail.Apply applied taken)) = 64 - applied
spare_at p = spare_before (callbacks_at p)

-- LETTERS: messages about what a task held that is over are sent next, or a signal asked for by one

abbrev pub cancels_at : Place → Bool
cancels_at (at.SendCancel b) = true
cancels_at (at.Signal x j (signal.Send (send.Cancels b))) = true
cancels_at _ = false

abbrev pub sends_cancel_at : Place → Bool
sends_cancel_at (at.SendCancel b) = true
sends_cancel_at _ = false

-- the task that was sent the end of this, and is woken next
pub record Hearing : Type 0 where
  pub task : ℕ
  pub of : Heard

abbrev pub heard_at : Place → Option Hearing
heard_at (at.Callbacks (callback.WakeWaiter t of) n) = Some (record { task = t; of = of })
heard_at _ = None

-- A worker that closes has let go of all that was held, and nobody sleeps there.

abbrev pub is_bare_before : Option AfterCallbacks → Bool
is_bare_before (Some after.Drain) = true
is_bare_before (Some after.Finish) = true
is_bare_before _ = false

abbrev pub is_bare_at : Place → Bool
is_bare_at (at.Service x v) = left_in_service v.back
is_bare_at (at.RingWait x stay.Closing) = true
is_bare_at (at.Closing closing.End) = true
is_bare_at p = is_bare_before (callbacks_at p)
