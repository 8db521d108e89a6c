-- Moves at the mailbox.
use Rattle.std.specs.Prelude.{ℕ, true, ◌+◌, ◌||◌, List, [], ◌∷◌, nat_le, if◌then◌else◌}
use Rattle.exec_words.specs.{Word.next_batch, declared.word.PureWord.PureWord}
use Rattle.exec_machine.specs.{declared.{event.Event.TheVariants.Apply, state.MailMessage.{MailMessage, MailMessage as message}}, World.{Common, request_of, sleeper_of, task_of}, Tests.is_empty}
use Rattle.exec_moves.specs.{declared.{handing.AfterCallbacks.AfterCallbacks as after, place.{InCallbacks.InCallbacks as callback, InMail.InMail as mail, Place.{Place, Place as at}}}, State.{Desk, Moved, Own, turns, does}, Load.has_mail, Callback.flagged_by, Told.{told_of_drop, told_of_forward, told_of_cancel, told_of_timer_forward}}

abbrev pub to_callbacks : Place
to_callbacks = at.Callbacks callback.TakeBatch after.Test

-- the next message, or the callbacks once 64 were applied
abbrev pub after_message : ℕ → List MailMessage → Place
after_message applied batch = if is_empty batch || nat_le 64 applied then to_callbacks else at.Mail (mail.Apply applied true)

-- the wake word
abbrev pub load_mail_word : Desk → PureWord → Moved PureWord
load_mail_word d w = if has_mail d w then turns (at.Mail mail.TakeMail) d w else turns to_callbacks d w

-- The inbox. Its messages are the machine's until each is applied.
abbrev pub take_mail : Desk → List MailMessage → Moved (List MailMessage)
take_mail d [] = turns (after_message 0 []) d []
take_mail d (m ∷ ms) = turns (after_message 0 (m ∷ ms)) (record d { batch = m ∷ ms; processed = next_batch d.processed }) []

-- A message to the root wakes it. What a task elsewhere waits for will send it its end; what none holds any more is let
-- go.
abbrev pub told_by_message : Common → ℕ → MailMessage → Desk → Desk
told_by_message s root message.Root d = flagged_by (task_of s root) d
told_by_message s root (message.ForwardRequest r) d = told_of_forward r (request_of s r) d
told_by_message s root (message.ForwardTimer z) d = told_of_timer_forward z d
told_by_message s root (message.CancelRequest r) d = told_of_drop r (request_of s r) d
told_by_message s root (message.CancelTimer z) d = told_of_cancel z (sleeper_of s z) d

abbrev pub apply : ℕ → ℕ → Common → Desk → Moved Own
apply applied root s d = applied_first d.batch
  where
    applied_first : List MailMessage → Moved Own
    applied_first [] = turns to_callbacks d tt
    applied_first (m ∷ ms) =
        does (Apply m) (record (told_by_message s root m d) { batch = ms; place = after_message (applied + 1) ms }) tt
