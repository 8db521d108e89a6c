-- THE FIRST MESSAGE OF THE BATCH is applied, whatever it is: that is a step.
use Rattle.std.proofs.Common.{◌≡◌, ◌+◌, ℕ, Bool, map, Option, Some, ap, subst, ◌∙◌, slice_get}
use Rattle.exec_words.specs.{Reserved.Reserved, declared.inbox.Message.Message}
use Rattle.exec_task.specs.declared.body.Said.{Said}
use Rattle.exec_machine.specs.declared.event.Event.{Event, TheVariants.Apply}
use Rattle.exec_moves.specs.{declared.place.{InMail.InMail, Place.Place}, Mail.after_message}
use Rattle.exec_parts.specs.{declared.parts.{mail.Subject.Subject, shared.Shared.Shared, worker.Worker.Worker}, MailTakes.{Applies, Takes}, Spots.Spot, View.message_of}
use Rattle.exec_invariants.{specs.{Holding.Mail, Sound.SoundAt, Whole.HasWhole, Works.Steps}, proofs.MailApplies.{passed_on, rest_of}}
use Rattle.exec_messages.proofs.{LandForwarded.timer_forwarded, LandTimers.cancel_timer_applied, MailCancels.cancel_applied, MailForwarded.request_applied, MailRoots.root_applied}

module _ {B L : Type 0} (left : B → L) (spot : L → Option Said → Spot) where
  pub message_applied : (applied : ℕ) (taken : Bool) (w w' : Worker) (s s' : Shared B) (e : Event) → SoundAt (Place.Mail (InMail.Apply applied taken)) w s → HasWhole w s → Applies applied w w' s s' e → Steps left spot w s e w' s'
  message_applied applied taken w w' s s' e sound has a =
      by a.mail a.first a.event (subst (λ (b : Reserved Mail). Takes (message_of a.mail) (record w { batch = b }) (record w' { place = w.place }) s s') a.left a.takes) (a.place ∙ ap (λ (b : Reserved Mail). after_message (applied + 1) (map message_of b.values)) a.left)
    where
      by : (mail : Mail) → slice_get w.batch.values 0 ≡ Some mail → e ≡ Apply (message_of mail) → Takes (message_of mail) (passed_on w) (record w' { place = w.place }) s s' → w'.place ≡ after_message (applied + 1) (map message_of (rest_of w)) → Steps left spot w s e w' s'
      by Message.WakeRoot first event takes place = root_applied left spot applied taken w w' s s' e sound first event takes place
      by (Message.Forward (Subject.Request k)) first event takes place = request_applied left spot applied taken k w w' s s' e sound has first event takes place
      by (Message.Forward (Subject.Timer z)) first event takes place = timer_forwarded left spot applied taken z w w' s s' e sound has first event takes place
      by (Message.Cancel (Subject.Request k)) first event takes place = cancel_applied left spot applied taken k w w' s s' e sound has first event takes place
      by (Message.Cancel (Subject.Timer z)) first event takes place = cancel_timer_applied left spot applied taken z w w' s s' e sound first event takes place
