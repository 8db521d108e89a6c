-- Whose request or sleeper an event of a worker changes.
use Rattle.std.{proofs.{Common.{◌≡◌, ℕ, Bool, true, false, Option, Some, refl, arith}, lemmas.Bool.false≢true}, specs.Prelude.slice_get}
use Rattle.exec_machine.specs.{declared.{config.Configuration.Configuration, event.Event.{Event, Event as event}, state.MailMessage.{MailMessage, MailMessage as message}}, Allowed.Allowed, Choice.Choice, Mail.is_first_message, Same.same_message, World.{Common, Own as Books, Seat, request_of, seat_of, sleeper_of}}
use Rattle.exec_books.specs.Booked.{FirstIsOwn, IsOwnMessage}

-- WHOSE THE CHANGED REQUEST OR SLEEPER IS

-- What an event of worker i changes as far as dues go is its own. Each allowed event says so itself, but for the two
-- cancels that are applied: there the mailbox has to.
abbrev pub IsOwn : Common → ℕ → Event → Type 0
IsOwn s i (event.Drop r) = (request_of s r).worker ≡ i
IsOwn s i (event.Grant r outcome) = (request_of s r).worker ≡ i
IsOwn s i (event.Enrol r outcome) = (request_of s r).worker ≡ i
IsOwn s i (event.Reap r n outcome) = (request_of s r).worker ≡ i
IsOwn s i (event.Expire r outcome) = (request_of s r).worker ≡ i
IsOwn s i (event.Orphan r outcome) = (request_of s r).worker ≡ i
IsOwn s i (event.Stage r) = (request_of s r).worker ≡ i
IsOwn s i (event.Cancel r) = (request_of s r).worker ≡ i
IsOwn s i (event.Release r) = (request_of s r).worker ≡ i
IsOwn s i (event.Fire z) = (sleeper_of s z).worker ≡ i
IsOwn s i (event.Apply (message.CancelRequest r)) = (request_of s r).worker ≡ i
IsOwn s i (event.Apply (message.CancelTimer z)) = (sleeper_of s z).worker ≡ i
IsOwn s i _ = Unit {0}

-- the two that are not said by the event
abbrev pub is_cancel_applied : Event → Bool
is_cancel_applied (event.Apply (message.CancelRequest r)) = true
is_cancel_applied (event.Apply (message.CancelTimer z)) = true
is_cancel_applied _ = false

pub own_by_allowed : (c : Configuration) (me : Books) (s : Common) (i : ℕ) (e : Event) (choice : Choice) → Allowed c me s i e choice → is_cancel_applied e ≡ false → IsOwn s i e
own_by_allowed = grind arith

cancel_first : (s : Common) (i r : ℕ) (first : MailMessage) → same_message (message.CancelRequest r) first ≡ true → IsOwnMessage s i first → (request_of s r).worker ≡ i
cancel_first = grind arith

timer_first : (s : Common) (i z : ℕ) (first : MailMessage) → same_message (message.CancelTimer z) first ≡ true → IsOwnMessage s i first → (sleeper_of s z).worker ≡ i
timer_first = grind arith

-- the first of the inbox is the message that is applied
pub first_message : (m : MailMessage) (seat : Seat) (first : Option MailMessage) → slice_get seat.inbox 0 ≡ first → is_first_message m seat ≡ true
    → (first_one : MailMessage) × (slice_get seat.inbox 0 ≡ Some first_one) × (same_message m first_one ≡ true)
first_message = grind (arith, false≢true)

pub own_by_mail : (c : Configuration) (me : Books) (s : Common) (i : ℕ) (e : Event) (choice : Choice) → FirstIsOwn s i → Allowed c me s i e choice → IsOwn s i e
own_by_mail c me s i (event.Apply (message.CancelRequest r)) choice own h =
    let it = first_message (message.CancelRequest r) (seat_of s i) (slice_get (seat_of s i).inbox 0) refl h.1.1.0 in cancel_first s i r it.0 it.2 (own it.0 it.1)
own_by_mail c me s i (event.Apply (message.CancelTimer z)) choice own h =
    let it = first_message (message.CancelTimer z) (seat_of s i) (slice_get (seat_of s i).inbox 0) refl h.1.1.0 in timer_first s i z it.0 it.2 (own it.0 it.1)
own_by_mail c me s i (event.Apply message.Root) choice own h = tt
own_by_mail c me s i (event.Apply (message.ForwardRequest r)) choice own h = tt
own_by_mail c me s i (event.Apply (message.ForwardTimer z)) choice own h = tt
own_by_mail c me s i e choice own h = own_by_allowed c me s i e choice h refl
