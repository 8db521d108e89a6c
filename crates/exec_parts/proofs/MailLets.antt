-- What is let go of, and found by its number.
use Rattle.std.{proofs.{Common.{◌≡◌, ◌<◌, ◌+◌, ℕ, Bool, List, Some, sym, ap, ◌∙◌, arith, length, slice_get, get_or}, lemmas.Option.slice_get-get_or}, specs.VecDeque.{deque_capacity, deque_len}}
use Rattle.exec_waiters.specs.declared.deferred.Deferred.{Deferred}
use Rattle.exec_machine.specs.{Requests.dropped, declared.state.MailMessage.MailMessage}
use Rattle.exec_parts.specs.{Words.{Reserved, Message, AfterCallbacks, Heard, Place}, Awaits.drops, Calls.KeepsRoom, MailTakes.{MayTake, after_sending_of}, Tests.next_callback_of, declared.parts.{mail.{Reply.Reply, Subject.Subject}, record.Record.Record, shared.Shared.Shared, worker.Worker.Worker}}

-- the element at a place within the list
pub found_at : {A : Type 0} (xs : List A) (n : ℕ) (x : A) → n < length xs → x ≡ get_or xs n x → slice_get xs n ≡ Some x
found_at xs n x within is = slice_get-get_or xs n x within ∙ ap (λ y. Some y) (sym is)

pub dropped_so : (r' r : Record) → r'.shown ≡ dropped r.shown → r'.id ≡ r.id → r'.sent ≡ r.sent → r' ≡ drops r
dropped_so r' r shown id sent = grind arith

-- WHAT IS TOLD LEAVES ITS LIST, and there is the room that there was

module _ (left left' : Deferred Reply Reply) where
  pub fewer_wakes : left' ≡ record left { notes = record left.notes { wakes = left'.notes.wakes } } → deque_len left'.notes.wakes + 1 ≡ deque_len left.notes.wakes → deque_capacity left'.notes.wakes ≡ deque_capacity left.notes.wakes → KeepsRoom left left'
  fewer_wakes same less room = grind (arith, same, less, room)

  pub fewer_results : left' ≡ record left { results = left'.results } → deque_len left'.results + 1 ≡ deque_len left.results → deque_capacity left'.results ≡ deque_capacity left.results → KeepsRoom left left'
  fewer_results same less room = grind (arith, same, less, room)

-- WHERE THE CALLBACKS LEAD rests on no place

pub callback_anywhere : (next : AfterCallbacks) (w : Worker) (p : Place) → next_callback_of next (record w { place = p }) ≡ next_callback_of next w
callback_anywhere next w p = grind arith

pub sending_anywhere : (hears : Bool) (t : ℕ) (of : Heard) (next : AfterCallbacks) (w : Worker) (p : Place) → after_sending_of hears t of next w ≡ after_sending_of hears t of next (record w { place = p })
sending_anywhere hears t of next w p = grind (arith, callback_anywhere)

-- A MESSAGE can take effect, whatever is left of its batch

pub take_so : {B : Type 0} (m : MailMessage) (w : Worker) (batch : Reserved (Message Subject Subject)) (s : Shared B) → MayTake m w s → MayTake m (record w { batch = batch }) s
take_so (MailMessage.ForwardRequest k) w batch s may = (may.0, λ r at. let f = may.1 r at in record { t = f.t; waited = f.waited; small = f.small; room = f.room })
take_so (MailMessage.ForwardTimer z) w batch s may = (may.0, λ it at. let f = may.1 it at in record { small = f.small; here = f.here; room = f.room })
take_so _ w batch s may = grind (arith, may)
