-- WHAT A WORKER OWES OTHERS of what a task held may be sent: each letter is under way once, in the worker's own hand, so it is in no
-- inbox, and the inbox that it goes to has a place for it.
use Rattle.std.proofs.{Common.{◌≡◌, ℕ, ◌+◌, ◌<◌, ◌≤◌, false, Contains, List, [], ◌∷◌, ◌++◌, count_by, length, map, Option, Some, None, refl, sym, ap, subst, ◌∙◌, arith, slice_get, slice_index_or, option_map, option_to_list}, lemmas.{Bool.false≢true, List.length-map}}
use Rattle.exec_words.specs.{Inbox.{is_wake_root, spare_places}, declared.inbox.Message.{Message}}
use Rattle.exec_machine.specs.{declared.state.MailMessage.TheVariants.{CancelRequest, CancelTimer}, Tests.is_empty}
use Rattle.exec_moves.specs.{declared.{handing.AfterCancels.AfterCancels, place.Place.Place}, Send.{first_letter, no_letter}}
use Rattle.exec_parts.specs.{declared.parts.{held.Held.Held, mail.Subject.Subject, record.Record.Record, seat.Seat.Seat as Chair, shared.Shared.Shared, sleeping.SleeperRecord.SleeperRecord, worker.Worker.Worker}, Pooled.MaySend, View.{desk_of, letter_of_request, letter_of_timer}}
use Rattle.exec_invariants.{specs.{Holding.{Box, IsAbout, Mail, Nap, Thing, box_of, cancel_held, cancel_sleep, holder_of, mail_in, nap_of, thing_of, under_way}, Sound.{IsLetter, IsMineIn, SoundAt}, Whole.{HasWhole, hands_of, mail_with, with_worker}}, proofs.{AskBoxes.box_there, HoldMail.{is_once, mail_first, sum_least}, HoldPosts.{has_place, held_few}, TaskHears.thing_there, TaskTakes.nap_there}}

pub first_counts : (m : Mail) (ms : List Mail) → 1 ≤ mail_in m (m ∷ ms)
first_counts m ms = let first = mail_first m m ms in let once = is_once m in omega (arith, first, once)

module _ {B : Type 0} (w : Worker) (s : Shared B) (has : HasWhole w s) where
  abbrev workers : ℕ
  workers = s.config.workers

  abbrev ts : List Thing
  ts = map thing_of s.requests.items

  abbrev naps : List Nap
  naps = map nap_of s.sleepers.items

  abbrev boxes : List Box
  boxes = map box_of s.seats.items

  -- one in hand, under way at most once, has a place
  room_at : (j : ℕ) (m : Mail) (chair : Chair) → slice_get s.seats.items j ≡ Some chair → is_wake_root m ≡ false → IsAbout workers j m ts naps
      → under_way (hands_of (with_worker has.others w)) m boxes ≤ 1 → 1 ≤ mail_in m (mail_with w) → chair.mailbox.inbox.closed ≡ false
      → length chair.mailbox.inbox.messages + 2 ≤ count_by is_wake_root chair.mailbox.inbox.messages + chair.mailbox.inbox.places
  room_at j m chair there letter about most some open_box =
      let at_box = box_there s.seats.items j chair there in
      let least = sum_least (λ (b : Box). mail_in m b.messages) boxes j (box_of chair) at_box in
      has_place (hands_of (with_worker has.others w)) workers (map holder_of s.tasks.items) ts naps boxes j m (box_of chair) at_box about has.whole.holding open_box (omega (arith, most, some, least)) letter

  place_at : (j : ℕ) (m : Mail) (chair : Chair) → slice_get s.seats.items j ≡ Some chair → is_wake_root m ≡ false → IsAbout workers j m ts naps
      → under_way (hands_of (with_worker has.others w)) m boxes ≤ 1 → 1 ≤ mail_in m (mail_with w) → chair.mailbox.inbox.closed ≡ false → 0 < spare_places chair.mailbox.inbox
  place_at = grind (arith, room_at)

  -- what is sent has a place
  pub request_room : (j k : ℕ) → IsMineIn workers j (Subject.Request k) s.requests.items s.sleepers.items → 1 ≤ mail_in (Message.Cancel (Subject.Request k)) (mail_with w) → (chair : Chair) → slice_get s.seats.items j ≡ Some chair → chair.mailbox.inbox.closed ≡ false
      → length chair.mailbox.inbox.messages + 2 ≤ count_by is_wake_root chair.mailbox.inbox.messages + chair.mailbox.inbox.places
  request_room j k mine some chair there open_box =
      let r : Record = mine.0 in
      let at_r = thing_there s.requests.items k r mine.1 in
      room_at j (Message.Cancel (Subject.Request k)) chair there refl (thing_of r, at_r, mine.2, mine.3)
      (held_few chair.mailbox.inbox.closed r.shown.observed _ _ open_box (has.whole.holding.held k (thing_of r) (box_of chair) at_r (ap (slice_get boxes) mine.2 ∙ box_there s.seats.items j chair there)))
      some open_box

  pub timer_room : (j n : ℕ) → IsMineIn workers j (Subject.Timer n) s.requests.items s.sleepers.items → 1 ≤ mail_in (Message.Cancel (Subject.Timer n)) (mail_with w) → (chair : Chair) → slice_get s.seats.items j ≡ Some chair → chair.mailbox.inbox.closed ≡ false
      → length chair.mailbox.inbox.messages + 2 ≤ count_by is_wake_root chair.mailbox.inbox.messages + chair.mailbox.inbox.places
  timer_room j n mine some chair there open_box =
      let z : SleeperRecord = mine.0 in
      let at_z = nap_there s.sleepers.items n z mine.1 in
      let least = has.whole.holding.let_go n (nap_of z) (box_of chair) at_z (ap (slice_get boxes) mine.2 ∙ box_there s.seats.items j chair there) open_box in
      room_at j (Message.Cancel (Subject.Timer n)) chair there refl (nap_of z, at_z, mine.2, mine.3) (omega (arith, least)) some open_box

  request_may : (j k : ℕ) → IsMineIn workers j (Subject.Request k) s.requests.items s.sleepers.items → 1 ≤ mail_in (Message.Cancel (Subject.Request k)) (mail_with w) → MaySend j (CancelRequest k) s
  request_may j k mine some =
      let r : Record = mine.0 in
      let at_r = thing_there s.requests.items k r mine.1 in
      let within : j < length s.seats.items = subst (λ i. i < length s.seats.items) mine.2 (subst (λ n. r.shown.worker < n) (length-map s.seats.items box_of) (has.whole.holding.of_worker k (thing_of r) at_r)) in
      record {
        there = within;
        place = λ chair there open_box undropped.
            place_at j (Message.Cancel (Subject.Request k)) chair there refl (thing_of r, at_r, mine.2, mine.3)
            (held_few chair.mailbox.inbox.closed r.shown.observed _ _ open_box (has.whole.holding.held k (thing_of r) (box_of chair) at_r (ap (slice_get boxes) mine.2 ∙ box_there s.seats.items j chair there)))
            some open_box;
      }

  timer_may : (j n : ℕ) → IsMineIn workers j (Subject.Timer n) s.requests.items s.sleepers.items → 1 ≤ mail_in (Message.Cancel (Subject.Timer n)) (mail_with w) → MaySend j (CancelTimer n) s
  timer_may j n mine some =
      let z : SleeperRecord = mine.0 in
      let at_z = nap_there s.sleepers.items n z mine.1 in
      let within : j < length s.seats.items = subst (λ i. i < length s.seats.items) mine.2 (subst (λ m. z.shown.worker < m) (length-map s.seats.items box_of) (has.whole.holding.of_worker_too n (nap_of z) at_z)) in
      record {
        there = within;
        place = λ chair there open_box undropped.
            let least = has.whole.holding.let_go n (nap_of z) (box_of chair) at_z (ap (slice_get boxes) mine.2 ∙ box_there s.seats.items j chair there) open_box in
            place_at j (Message.Cancel (Subject.Timer n)) chair there refl (nap_of z, at_z, mine.2, mine.3) (omega (arith, least)) some open_box;
      }

  first_may : (rs : List Held) (t : Option Held)
      → is_empty (map letter_of_request rs ++ option_to_list (option_map letter_of_timer t)) ≡ false
      → ((h : Held) → Contains rs h → IsLetter workers w.index (Subject.Request h.number) h.worker s.requests.items s.sleepers.items)
      → ((h : Held) → t ≡ Some h → IsLetter workers w.index (Subject.Timer h.number) h.worker s.requests.items s.sleepers.items)
      → ((m : Mail) → 1 ≤ mail_in m ((map cancel_held rs ++ map cancel_sleep (option_to_list t)) ++ w.batch.values) → 1 ≤ mail_in m (mail_with w))
      → MaySend (slice_index_or (map letter_of_request rs ++ option_to_list (option_map letter_of_timer t)) 0 no_letter).to (slice_index_or (map letter_of_request rs ++ option_to_list (option_map letter_of_timer t)) 0 no_letter).message s
  first_may (h ∷ hs) t more of of_timer counts =
      request_may h.worker h.number (of h (0, omega arith, refl)).0 (counts (Message.Cancel (Subject.Request h.number)) (first_counts (Message.Cancel (Subject.Request h.number)) ((map cancel_held hs ++ map cancel_sleep (option_to_list t)) ++ w.batch.values)))
  first_may [] (Some h) more of of_timer counts =
      timer_may h.worker h.number (of_timer h refl).0 (counts (Message.Cancel (Subject.Timer h.number)) (first_counts (Message.Cancel (Subject.Timer h.number)) w.batch.values))
  first_may [] None more of of_timer counts = absurd (false≢true (sym more))

  pub letter_may : (b : AfterCancels) → SoundAt (Place.SendCancel b) w s → MaySend (first_letter (desk_of w)).to (first_letter (desk_of w)).message s
  letter_may b sound = first_may w.letters.requests.items w.letters.timer (sound.letters.some refl) sound.letters.requests sound.letters.timer (λ m some. some)
