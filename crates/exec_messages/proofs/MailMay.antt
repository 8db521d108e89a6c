-- The first message of the batch can take effect.
use Rattle.std.proofs.{Common.{◌≡◌, ℕ, ◌^◌, ◌<◌, ◌≤◌, Bool, false, Contains, map, Some, None, refl, sym, ap, subst, ◌∙◌, arith, slice_get}, lemmas.{Bool.false≢true, List.length-map, Option.slice_get_within}}
use Rattle.exec_base.specs.Slab.{value_at}
use Rattle.exec_time.specs.{Sleepers.is_forwarded, declared.timers.{Observer.{Observer as Watching, Observer as sleep}, Sleeper.Sleeper as Sleeping}}
use Rattle.exec_waiters.specs.Told.{HasPlaces}
use Rattle.exec_words.specs.declared.inbox.Message.{Message}
use Rattle.exec_machine.specs.{declared.state.Forwarding.TheVariants.Sent, Tests.{is_applied, is_unsent}}
use Rattle.exec_moves.specs.declared.place.{InMail.InMail, Place.Place}
use Rattle.exec_parts.{specs.{declared.parts.{mail.{Reply.Reply, Subject.Subject}, record.Record.Record, shared.Shared.Shared, sleeping.SleeperRecord.SleeperRecord, worker.Worker.Worker}, MailTakes.MayTake, Records.number_in, View.message_of}, proofs.Facts.same_Some}
use Rattle.exec_invariants.{specs.{Holding.{IsOrdinary, Mail, box_of, holder_of, nap_of, thing_of, under_way}, Rooted.Watches, Sound.SoundAt, Whole.{HasWhole, hands_of, with_worker}}, proofs.{AskBoxes.box_there, MailApplies.split_first, Resolving.places_fewer, TaskHears.thing_there, TaskNewest.may_let, TaskTakes.nap_there}}
use Rattle.exec_messages.proofs.{MailCancels.{box_open, in_hand_first}, MailForwarded.{forward_mine, forward_sent, sent_if}}

module _ {B : Type 0} (applied : ℕ) (taken : Bool) (w : Worker) (s : Shared B) (sound : SoundAt (Place.Mail (InMail.Apply applied taken)) w s) (has : HasWhole w s) where
  few : applied < 64
  few = sound.aims

  places : (n : ℕ) → n ≤ 2 → HasPlaces w.home.deferred n
  places n small = let less = few in (places_fewer (omega (arith, less, small)) sound.told).room

  ordinary : (t : ℕ) → IsOrdinary t (map holder_of s.tasks.items) → t < 2 ^ 32
  ordinary t it =
      let some = slice_get_within (map holder_of s.tasks.items) t it.it it.there in
      let same = length-map s.tasks.items holder_of in
      let most = sound.homes.few in
      omega (arith, some, same, most)

  its_first : (m : Mail) → slice_get w.batch.values 0 ≡ Some m → Contains w.batch.values m
  its_first m first = subst (λ ms. Contains ms m) (sym (split_first w.batch.values m first)) (0, omega arith, refl)

  -- a sleeper that wasn't told
  timer_sent : (z : ℕ) → slice_get w.batch.values 0 ≡ Some (Message.Forward (Subject.Timer z)) → (it : SleeperRecord) → slice_get s.sleepers.items z ≡ Some it → it.shown.worker ≡ w.index → it.shown.forwarding ≡ Sent
  timer_sent z first it there mine =
      let m : Mail = Message.Forward (Subject.Timer z) in
      let seat = sound.seated.seat in
      let at_box = ap (slice_get (map box_of s.seats.items)) mine ∙ box_there s.seats.items w.index seat sound.seated.there in
      let fact = has.whole.holding.woken z (nap_of it) (box_of seat) (nap_there s.sleepers.items z it there) at_box in
      let some = in_hand_first has.others w m first in
      sent_if seat.mailbox.inbox.closed it.shown.forwarding (under_way (hands_of (with_worker has.others w)) m (map box_of s.seats.items)) (box_open applied taken w s sound) (omega (arith, some)) fact

  timer_here : (z : ℕ) (it : SleeperRecord) → slice_get s.sleepers.items z ≡ Some it → it.shown.worker ≡ w.index → it.shown.forwarding ≡ Sent → is_forwarded (value_at w.home.timers it.id.0) ≡ false
  timer_here z it there mine sent =
      elim (value_at w.home.timers it.id.0) as (λ o. value_at w.home.timers it.id.0 ≡ o → is_forwarded o ≡ false) [
        | None ↦ λ none. refl
        | Some bed ↦ λ asleep. by bed asleep bed.observer refl
      ] refl
    where
      by : (bed : Sleeping Reply) → value_at w.home.timers it.id.0 ≡ Some bed → (o : Watching Reply) → bed.observer ≡ o → is_forwarded (Some bed) ≡ false
      by bed asleep (sleep.Local t) is = ap (λ o. is_forwarded (Some (record bed { observer = o }))) is
      by bed asleep (sleep.Forwarded reply) is =
          let named = sound.named.timers it.id.0 (rw asleep refl) in
          let number : number_in w.names.timers.items it.id.0 ≡ z = sound.due.asleep.names.unique (number_in w.names.timers.items it.id.0) z named.0 it named.1 there named.3 mine named.2 in
          let at : slice_get s.sleepers.items (number_in w.names.timers.items it.id.0) ≡ Some it = ap (slice_get s.sleepers.items) number ∙ there in
          let watches = subst (λ o. Watches (number_in w.names.timers.items it.id.0) o it) is (sound.rooted.watches it.id.0 bed it asleep at) in
          absurd (false≢true (sym (ap is_applied sent) ∙ watches.1))

  pub may_take : (mail : Mail) → slice_get w.batch.values 0 ≡ Some mail → MayTake (message_of mail) w s
  may_take Message.WakeRoot first = slice_get_within s.tasks.items w.root sound.runnable.root sound.runnable.there
  may_take (Message.Forward (Subject.Request k)) first =
      let its = forward_mine applied taken k w s sound first in (
        slice_get_within s.requests.items k its.0 its.1,
        λ r there.
            let mine : r.shown.worker ≡ w.index = ap (λ (y : Record). y.shown.worker) (same_Some r its.0 (sym there ∙ its.1)) ∙ its.2 in
            let sent = forward_sent applied taken k w s sound has first r there mine in
            let asked = has.whole.holding.asked k (thing_of r) (thing_there s.requests.items k r there) (ap is_unsent sent) in
            record { t = asked.0; waited = asked.1; small = ordinary asked.0 asked.2; room = places 1 (omega arith) },
      )
  may_take (Message.Forward (Subject.Timer z)) first =
      let its = sound.mine (Message.Forward (Subject.Timer z)) (its_first (Message.Forward (Subject.Timer z)) first) in (
        slice_get_within s.sleepers.items z its.0 its.1,
        λ it there.
            let mine : it.shown.worker ≡ w.index = ap (λ (y : SleeperRecord). y.shown.worker) (same_Some it its.0 (sym there ∙ its.1)) ∙ its.2 in
            let sent = timer_sent z first it there mine in
            record {
              small = ordinary it.shown.task (has.whole.holding.asked_too z (nap_of it) (nap_there s.sleepers.items z it there) (ap is_unsent sent));
              here = timer_here z it there mine sent;
              room = (places 1 (omega arith)).notes;
            },
      )
  may_take (Message.Cancel (Subject.Request k)) first =
      let its = sound.mine (Message.Cancel (Subject.Request k)) (its_first (Message.Cancel (Subject.Request k)) first) in
      let less = few in
      may_let (Place.Mail (InMail.Apply applied taken)) k w s s its.0 sound its.1 its.2 refl (omega (arith, less))
  may_take (Message.Cancel (Subject.Timer z)) first =
      let its = sound.mine (Message.Cancel (Subject.Timer z)) (its_first (Message.Cancel (Subject.Timer z)) first) in
      record { known = slice_get_within s.sleepers.items z its.0 its.1; room = (places 1 (omega arith)).notes }
