-- A LETTER IS SENT: a message about what a task held that is over goes to the worker that has it.
use Rattle.std.proofs.{Common.{◌≡◌, ◌≢◌, ⊎_elim, ℕ, zero, suc, ◌+◌, ◌*◌, ◌<◌, ◌≤◌, ◌==◌, Bool, true, false, not, cond, Contains, List, [], ◌∷◌, ◌++◌, count_by, drop, length, map, option_map, option_to_list, Option, Some, None, refl, sym, ap, subst, ◌∙◌, arith, slice_get, slice_set, if◌then◌else◌}, lemmas.{Bool.{false≢true, eq-eqb, lt-ltb}, List.{length-set, Elements.{Contains-append_cases, Contains-append_right, Contains-append_left}, Sums.sum_by-append}, Option.{get_or_from_slice_get, slice_get_within}}}
use Rattle.exec_words.specs.{Inbox.is_wake_root, Queue.tail_of}
use Rattle.exec_task.specs.declared.body.Said.{Said}
use Rattle.exec_machine.specs.{declared.{event.Event.{Event, TheVariants.{Closed, Send, Turn}}, state.{Letter.Letter as Owed, MailMessage.{MailMessage, TheVariants.{Root, ForwardRequest, ForwardTimer, CancelRequest, CancelTimer}}, Next.Next}}, After.own_after, Allowed.allowed, Choice.Choice.Plain, Progress.Plan, Same.{is_letter, same_message}, Tests.AllTrue, World.{no_seat, seat_of}}
use Rattle.exec_moves.specs.{declared.{handing.{AfterCancels.AfterCancels, AfterSend.AfterSend, AfterSignal.AfterSignal, InSignal.InSignal}, place.Place.Place}, Parts.{after_cancels, cancels_left}, Seen.{next_at, polls_at, serves_at}, Send.{after_posting, asks as asks_box, no_letter, posted, send_message, sent}, State.{Desk, Things, goes}, Thing.{mailbox_of, set_mailbox}}
use Rattle.exec_parts.{specs.{declared.parts.{held.Held.Held, letters.Letters.Letters, mail.Subject.Subject, record.Record.Record, seat.Seat.Seat as Chair, shared.Shared.Shared, sleeping.SleeperRecord.SleeperRecord, worker.Worker.Worker}, MailPosts.SendsLetter, Pooled.{Sends, asks_if_sent}, Phased.{IsPhased, closes_after_cancels, closes_at, closing_in, stage_of, closing_after_cancels, has_left}, Spots.Spot, View.{Views, Visible, common_of, desk_of, inbox_at, letter_of_request, letter_of_timer, letters_in, mail_of, own_of, owed_at, polls_seen, queue_at, seat_seen, seats_seen, things_with, visible, with_view, word_at}}, proofs.Facts.{and_from, false_from_ne_true, or_left, set_elsewhere, set_there}}
use Rattle.exec_invariants.{proofs.{Showing.map_set, AskBoxes.box_there, Aside.{SameProfile, queue_of_chair, queues_set, seats_other, spared}, Hearing.unheard, HoldPosts.{posted as holding_posted, with_mail}, LetterPosts.{IsLetter, asks_open, cancels_request, cancels_timer, chair_open, open_spares, seat_open, sent_open, things_open}, MailApplies.{rest_had, split_first, same_self}, MailMoves.beside_moved, PoolKept.{gate_spared, gates_set}, Recorded.request_seen, Seats.{chair_set, seat_there}, Rousing.Keeps, Slots.before_barrier, SparedRecord.there_within, TaskAsks.Posts, TaskHears.thing_there, TaskTakes.nap_there, Turning.{Shares, by_place, set_found, sound_on, view_found}}, specs.{Holding.{Box, Hands, Holder, IsAbout, IsHolding, Mail, Nap, Thing, box_of, cancel_held, cancel_sleep, holder_of, mail_in, mail_of_letters, nap_of, same_mail, thing_of}, Places.{drops_at, is_armed_at}, Sound.{Aims, AreHome, HasLetters, HasQueue, IsLetter as IsOfOther, IsMineIn, IsSeated, SoundAt}, Whole.{HasWhole, IsWhole, Profile, hands_of, mail_with, with_worker}, Works.{Beside, Steps, Suits, Works}}}
use Rattle.exec_steps.proofs.{LettersMay.{first_counts, request_room, timer_room}, Signalling.{Ways, cancels_to}}

-- LETTERS AND MESSAGES

abbrev mail_owed : Owed → Mail
mail_owed o = mail_of o.message

owed_mail : (l : Letters) → mail_of_letters l ≡ map mail_owed (letters_in l)
owed_mail l = by l.requests.items l.timer
  where
    by : (hs : List Held) (t : Option Held) → map cancel_held hs ++ map cancel_sleep (option_to_list t) ≡ map mail_owed (map letter_of_request hs ++ option_to_list (option_map letter_of_timer t))
    by [] None = refl
    by [] (Some h) = refl
    by (h ∷ hs) t = ap (λ ms. cancel_held h ∷ ms) (by hs t)

contains_map : {A C : Type 0} (f : A → C) (xs : List A) (x : A) → Contains xs x → Contains (map f xs) (f x)
contains_map f [] x (k, few, is) = absurd (omega (arith, few))
contains_map f (y ∷ ys) x (zero, few, is) = (0, omega arith, ap f is)
contains_map f (y ∷ ys) x (suc k, few, is) = let it = contains_map f ys x (k, omega (arith, few), is) in (suc it.0, (let within = it.1 in omega (arith, within)), it.2)

module _ (workers i : ℕ) (rs : List Record) (zs : List SleeperRecord) where
  -- such a letter is about what worker j has
  abbrev OfLetter : MailMessage → ℕ → Type 0
  OfLetter (CancelRequest k) j = IsOfOther workers i (Subject.Request k) j rs zs
  OfLetter (CancelTimer n) j = IsOfOther workers i (Subject.Timer n) j rs zs
  OfLetter _ j = ⊥

  of_requests : (hs : List Held) → ((h : Held) → Contains hs h → IsOfOther workers i (Subject.Request h.number) h.worker rs zs) → (o : Owed) → Contains (map letter_of_request hs) o → OfLetter o.message o.to
  of_requests [] of o (k, few, is) = absurd (omega (arith, few))
  of_requests (h ∷ hs) of o (zero, few, is) = subst (λ (x : Owed). OfLetter x.message x.to) is (of h (0, omega arith, refl))
  of_requests (h ∷ hs) of o (suc k, few, is) = of_requests hs (λ x has. of x (suc has.0, (let within = has.1 in omega (arith, within)), has.2)) o (k, omega (arith, few), is)

  of_timer : (t : Option Held) → ((h : Held) → t ≡ Some h → IsOfOther workers i (Subject.Timer h.number) h.worker rs zs) → (o : Owed) → Contains (option_to_list (option_map letter_of_timer t)) o → OfLetter o.message o.to
  of_timer = grind arith

  of_all : (b c : Bool) (l : Letters) → HasLetters b c i workers l rs zs → (o : Owed) → Contains (letters_in l) o → OfLetter o.message o.to
  of_all b c l has o among =
      ⊎_elim
      (λ first. of_requests l.requests.items has.requests o first)
      (λ later. of_timer l.timer has.timer o later)
      (Contains-append_cases (map letter_of_request l.requests.items) (option_to_list (option_map letter_of_timer l.timer)) o among)

  -- what is left when the first was sent
  letters_left : (l left : Letters) → HasLetters true true i workers l rs zs → letters_in left ≡ drop 1 (letters_in l) → HasLetters false true i workers left rs zs
  letters_left l left has later =
      record {
        some = λ no. absurd (false≢true no);
        none = λ no. absurd (false≢true (sym no));
        requests = λ h among.
            back (letter_of_request h) (Contains-append_left (map letter_of_request left.requests.items) (option_to_list (option_map letter_of_timer left.timer)) (letter_of_request h) (contains_map letter_of_request left.requests.items h among));
        timer = λ h is.
            back (letter_of_timer h)
            (Contains-append_right (map letter_of_request left.requests.items) (option_to_list (option_map letter_of_timer left.timer)) (letter_of_timer h)
            (subst (λ t. Contains (option_to_list (option_map letter_of_timer t)) (letter_of_timer h)) (sym is) (0, omega arith, refl)));
      }
    where
      back : (o : Owed) → Contains (letters_in left) o → OfLetter o.message o.to
      back o among = of_all true true l has o (rest_had (letters_in l) o (subst (λ xs. Contains xs o) later among))

-- IN HAND

rehanded : (h h' : Hands) (workers : ℕ) (hs : List Holder) (ts : List Thing) (naps : List Nap) (boxes : List Box) → ((m : Mail) → h'.mail m ≡ h.mail m) → h'.wakes ≡ h.wakes → IsHolding h workers hs ts naps boxes → IsHolding h' workers hs ts naps boxes
rehanded = grind arith

module _ {B : Type 0} where
  -- THE SIGNAL of the letter is next: what holds there
  signal_sound : (b : AfterCancels) (j : ℕ) (left : Letters) (w : Worker) (s s' : Shared B) (chair chair' : Chair) → SoundAt (Place.SendCancel b) w s → Posts w.index j s.seats.items s'.seats.items chair chair' → letters_in left ≡ drop 1 (letters_in w.letters)
      → SoundAt (Place.Signal InSignal.SetLatch j (AfterSignal.Send (AfterSend.Cancels b))) (record w { place = Place.Signal InSignal.SetLatch j (AfterSignal.Send (AfterSend.Cancels b)); letters = left }) (record s { seats = s'.seats })
  signal_sound b j left w s s' chair chair' sound posts later =
      let seat = sound.seated.seat in
      let many : length s'.seats.items ≡ length s.seats.items = ap length posts.set ∙ length-set s.seats.items j chair' in
      let apart : w.index ≢ j = λ e. posts.other (sym e) in
      let own : slice_get s'.seats.items w.index ≡ slice_get s.seats.items w.index = ap (λ cs. slice_get cs w.index) posts.set ∙ set_elsewhere s.seats.items j w.index chair' apart in
      let back : (c : Chair) → slice_get s'.seats.items w.index ≡ Some c → slice_get s.seats.items w.index ≡ Some c = λ c at. sym own ∙ at in
      let there_j : slice_get s'.seats.items j ≡ Some chair' = ap (λ cs. slice_get cs j) posts.set ∙ set_there s.seats.items j chair' chair posts.there in
      let q : Place = Place.Signal InSignal.SetLatch j (AfterSignal.Send (AfterSend.Cancels b)) in
      let homes : AreHome s.config.workers (length s'.seats.items) s.tasks.items = rw many sound.homes in
      let seated : IsSeated w.index (is_armed_at q) s.config.workers s'.seats.items = record { many = rw many sound.seated.many; seat = seat; there = own ∙ sound.seated.there; pool = sound.seated.pool; unarmed = sound.seated.unarmed; mail = sound.seated.mail } in
      let queue : (c : Chair) → slice_get s'.seats.items w.index ≡ Some c → HasQueue q c.queue = λ c at. sound.queue c (back c at) in
      let aims : Aims q s.config w.index s'.seats.items = (slice_get_within s'.seats.items j chair' there_j, tt) in
      let batch_place : (c : Chair) → slice_get s'.seats.items w.index ≡ Some c → c.mailbox.inbox.closed ≡ false → 2 * c.made + 1 ≤ w.batch.places = λ c at. sound.batch_place c (back c at) in
      let phased : (c : Chair) → slice_get s'.seats.items w.index ≡ Some c → IsPhased w.index (closes_at q) (closing_in q) w.home.closing w.root w.names.unreleased (stage_of c s) s.tasks.items = λ c at. sound.phased c (back c at) in
      assumption (homes, seated, queue, aims, batch_place, letters_left s.config.workers w.index s.requests.items s.sleepers.items w.letters left sound.letters later, phased, sound)

  -- no mailbox of the pool is closed while one of it has such a letter
  box_open : (b : AfterCancels) (w : Worker) (s : Shared B) → SoundAt (Place.SendCancel b) w s → HasWhole w s → (j : ℕ) (chair : Chair) → slice_get s.seats.items j ≡ Some chair → j < s.config.workers → chair.mailbox.inbox.closed ≡ false
  box_open b w s sound has j chair at_j few =
      false_from_ne_true chair.mailbox.inbox.closed (λ closed.
      let before = before_barrier (Place.SendCancel b) w s sound (sound.pooled refl) (unleft b) in
      let pool : chair.pool ≡ true = has.whole.in_pool j chair at_j ∙ lt-ltb j s.config.workers few in
      false≢true (sym before.going ∙ has.whole.pool.shut j chair at_j pool closed w.index before.chair before.there))
    where
      unleft : (a : AfterCancels) → has_left (closes_after_cancels a) (closing_after_cancels a) ≡ false
      unleft = grind arith

  -- WHERE IT LEADS
  record LeadsTo (q' : Place) (w wm : Worker) (s1 : Shared B) : Type 0 where
    sound : SoundAt q' (record wm { place = q' }) s1
    polls : polls_at q' ≡ None
    free : next_at q' ≡ Next.Free
    unserved : serves_at q' ≡ false
    owes : owed_at w.workers q' ≡ []
    whole : (others : Profile) → IsWhole (with_worker others wm) s1 → IsWhole (with_worker others (record wm { place = q' })) s1

module _ {B L : Type 0} (left : B → L) (spot : L → Option Said → Spot) where
  leads_to : (b : AfterCancels) (j : ℕ) (rest : Letters) (w : Worker) (s s1 : Shared B) (chair : Chair) → slice_get s1.seats.items j ≡ Some chair
      → SoundAt (Place.Signal InSignal.SetLatch j (AfterSignal.Send (AfterSend.Cancels b))) (record w { place = Place.Signal InSignal.SetLatch j (AfterSignal.Send (AfterSend.Cancels b)); letters = rest }) s1
      → (asks : Bool) → LeadsTo (after_posting s.config j (AfterSend.Cancels b) asks (desk_of (record w { letters = rest }))) w (record w { place = Place.Signal InSignal.SetLatch j (AfterSignal.Send (AfterSend.Cancels b)); letters = rest }) s1
  leads_to b j rest w s s1 chair there sound true = record { sound = sound; polls = refl; free = refl; unserved = refl; owes = refl; whole = λ others whole. whole }
  leads_to b j rest w s s1 chair there sound false =
      let q : Place = Place.Signal InSignal.SetLatch j (AfterSignal.Send (AfterSend.Cancels b)) in
      let wm : Worker = record w { place = q; letters = rest } in
      let next : Place = cancels_left b (desk_of wm) (letters_in rest) in
      let keeps : Keeps chair chair = record { queue = refl; inbox = refl; target = refl; mail = λ h. h; phase = refl; pool = refl; left = refl; made = refl } in
      let ways : Ways left spot wm wm s1 s1 Turn q next = cancels_to left spot wm wm s1 s1 Turn j chair chair keeps refl (spared chair) refl there (sym (set_found s1.seats.items j chair there)) InSignal.SetLatch j b sound (letters_in rest) refl in
      let w1 : Worker = record wm { place = next } in
      let reached : SoundAt next w1 s1 = sound_on q wm w1 s1 s1 sound (by_place wm w1 s1.clock sound.time refl) refl (omega arith) ways.to in
      let led : LeadsTo next w wm s1 = record { sound = reached; polls = ways.is.polls; free = ways.is.free_then; unserved = ways.is.unserved; owes = ways.is.owes; whole = ways.beside.whole } in
      subst (λ y. LeadsTo y w wm s1) (after_there b) led
    where
      after_there : (a : AfterCancels) → cancels_left a (desk_of (record w { place = Place.Signal InSignal.SetLatch j (AfterSignal.Send (AfterSend.Cancels b)); letters = rest })) (letters_in rest) ≡ cancels_left a (desk_of (record w { letters = rest })) (letters_in rest)
      after_there a = by (letters_in rest)
        where
          by : (ls : List Owed) → cancels_left a (desk_of (record w { place = Place.Signal InSignal.SetLatch j (AfterSignal.Send (AfterSend.Cancels b)); letters = rest })) ls ≡ cancels_left a (desk_of (record w { letters = rest })) ls
          by (l ∷ ls) = refl
          by [] = last a
            where
              last : (c : AfterCancels) → after_cancels c (desk_of (record w { place = Place.Signal InSignal.SetLatch j (AfterSignal.Send (AfterSend.Cancels b)); letters = rest })) ≡ after_cancels c (desk_of (record w { letters = rest }))
              last (AfterCancels.Remove t) = refl
              last AfterCancels.Pick = refl
              last (AfterCancels.Visit drain) = refl

  letter_works : (b : AfterCancels) (letter : Owed) (is_it : IsLetter letter.message) (rest : Letters) (w : Worker) (s s1 : Shared B) (chair : Chair) (open_box : chair.mailbox.inbox.closed ≡ false) → w.place ≡ Place.SendCancel b
      → slice_get (letters_in w.letters) 0 ≡ Some letter → letters_in rest ≡ drop 1 (letters_in w.letters) → slice_get s.seats.items letter.to ≡ Some chair → s1 ≡ record s { seats = s1.seats } → s1.seats.items ≡ slice_set s.seats.items letter.to (chair_open letter.message is_it chair open_box)
      → (q' : Place) → polls_at q' ≡ None → next_at q' ≡ Next.Free → serves_at q' ≡ false → owed_at w.workers q' ≡ [] → (p : Plan) (vs : Views) → Suits p vs w s
      → q' ≡ after_posting p.config letter.to (AfterSend.Cancels b) (asks_if_sent letter.message chair.mailbox) (record (desk_of (record w { place = Place.SendCancel b })) { letters = drop 1 (letters_in w.letters) })
      → AllTrue (allowed p.config (own_of (record w { place = Place.SendCancel b })) (common_of left spot p vs s) w.index (Send letter.to letter.message) Plain)
      → Works left spot p vs w s (Send letter.to letter.message) (record w { place = q'; letters = rest }) s1
  letter_works b letter is_it rest w s s1 chair open_box here first later there kept set q' polls free unserved owes p vs suits place may =
      let j : ℕ = letter.to in
      let m : MailMessage = letter.message in
      let c : AfterSend = AfterSend.Cancels b in
      let w0 : Worker = record w { place = Place.SendCancel b } in
      let w1 : Worker = record w { place = q'; letters = rest } in
      let chair' : Chair = chair_open m is_it chair open_box in
      let asks : Bool = asks_if_sent m chair.mailbox in
      let cs = common_of left spot p vs s in
      let d : Desk = desk_of w0 in
      let d1 : Desk = record d { letters = drop 1 (letters_in w.letters) } in
      let x : Things = things_with vs s in
      let again : with_view vs w.index (visible w) ≡ vs = view_found vs w.index (visible w) suits.seen in
      let few : j < length s.seats.items = slice_get_within s.seats.items j chair there in
      let viewed : (v : Visible) × (slice_get vs.workers j ≡ Some v) = there_within vs.workers j (omega (arith, few, suits.workers)) in
      let seat : seat_of cs j ≡ seat_seen viewed.0 chair = get_or_from_slice_get (seats_seen vs.workers s.seats.items) j (seat_seen viewed.0 chair) no_seat (seat_there vs.workers s.seats.items j viewed.0 chair viewed.1 there) in
      let shown : things_with vs s1 ≡ record x { queues = map queue_at s1.seats.items; words = map word_at s1.seats.items; inboxes = map inbox_at s1.seats.items; wake_polls = polls_seen vs.workers s1.seats.items } = ap (λ (z : Shared B). things_with vs z) kept in
      let put : things_with vs s1 ≡ set_mailbox j x (posted m (mailbox_of x j)) = things_open m is_it chair open_box vs j s there s1.seats.items set (things_with vs s1) shown in
      let sends : send_message p.config cs j m c d1 (mailbox_of x j) ≡ record { event = Send j m; choice = Plain; desk = desk_of w1; thing = posted m (mailbox_of x j) } =
      ap (λ k. sent p.config j c d1 (if k then (record { event = Closed; choice = Plain; signals = false; mailbox = mailbox_of x j }) else (record { event = Send j m; choice = Plain; signals = asks_box (mailbox_of x j); mailbox = posted m (mailbox_of x j) }))) (ap (λ y. y.mailbox_closed) seat ∙ open_box)
      ∙ ap (λ a. record { event = Send j m; choice = Plain; desk = goes (after_posting p.config j c a d1) d1; thing = posted m (mailbox_of x j) }) (asks_open m is_it chair open_box vs j s there)
      ∙ ap (λ y. record { event = Send j m; choice = Plain; desk = goes y d1; thing = posted m (mailbox_of x j) }) (sym place)
      ∙ ap (λ ls. record { event = Send j m; choice = Plain; desk = record d { letters = ls; place = q' }; thing = posted m (mailbox_of x j) }) (sym later) in
      let own : own_of w1 ≡ own_after p.config (own_of w0) cs w.index (Send j m) Plain =
      ap (λ ls. record (own_of w1) { owed = owed_at w.workers q' ++ ls }) later ∙ rw (polls, free, unserved, owes) refl in
      let done : Works left spot p vs w0 s (Send j m) w1 s1 = record {
        choice = Plain;
        moves = grind (arith, get_or_from_slice_get (letters_in w.letters) 0 letter no_letter first, sends, put, again);
        may = may;
        own = own;
        common = grind (arith, again, kept, set, chair_set vs.workers s.seats.items j viewed.0 chair' viewed.1, seat_open m is_it chair open_box viewed.0, seat, is_it.root);
      } in
      subst (λ v. Works left spot p vs v s (Send j m) w1 s1) (ap (λ y. record w { place = y }) (sym here)) done

  -- THE STEP, of a message that is about what worker j has
  sent_by : (b : AfterCancels) (letter : Owed) (is_it : IsLetter letter.message) (rest : Letters) (w w' : Worker) (s s' : Shared B) (e : Event) (chair : Chair) (open_box : chair.mailbox.inbox.closed ≡ false) → (sound : SoundAt (Place.SendCancel b) w s)
      → slice_get (letters_in w.letters) 0 ≡ Some letter → letters_in rest ≡ drop 1 (letters_in w.letters) → letter.to ≢ w.index → slice_get s.seats.items letter.to ≡ Some chair
      → length chair.mailbox.inbox.messages + 2 ≤ count_by is_wake_root chair.mailbox.inbox.messages + chair.mailbox.inbox.places
      → IsAbout s.config.workers letter.to (mail_of letter.message) (map thing_of s.requests.items) (map nap_of s.sleepers.items)
      → Sends letter.to letter.message (AfterSend.Cancels b) (record w { letters = rest }) w' s s' e
      → ((p : Plan) (vs : Views) → Suits p vs w s → AllTrue (allowed p.config (own_of (record w { place = Place.SendCancel b })) (common_of left spot p vs s) w.index (Send letter.to letter.message) Plain))
      → Steps left spot w s e w' s'
  sent_by b letter is_it rest w w' s s' e chair open_box sound first later other there room about sends may =
      let j : ℕ = letter.to in
      let m : MailMessage = letter.message in
      let chair' : Chair = chair_open m is_it chair open_box in
      let set : s'.seats.items ≡ slice_set s.seats.items j chair' = sends.chair chair there ∙ ap (slice_set s.seats.items j) (sent_open m is_it chair open_box) in
      let s1 : Shared B = record s { seats = s'.seats } in
      let event : e ≡ Send j m = sends.event chair there ∙ ap (λ c. if c then Closed else Send j m) open_box in
      let asks : Bool = asks_if_sent m chair.mailbox in
      let q : Place = Place.Signal InSignal.SetLatch j (AfterSignal.Send (AfterSend.Cancels b)) in
      let wm : Worker = record w { place = q; letters = rest } in
      let q' : Place = after_posting s.config j (AfterSend.Cancels b) asks (desk_of (record w { letters = rest })) in
      let w1 : Worker = record wm { place = q' } in
      let same : w' ≡ w1 = sends.worker chair there in
      let posts : Posts w.index j s.seats.items s'.seats.items chair chair' = record { other = other; there = there; set = set; spares = open_spares m is_it chair open_box room; queue = refl } in
      let there_then : slice_get s'.seats.items j ≡ Some chair' = ap (λ cs. slice_get cs j) set ∙ set_there s.seats.items j chair' chair there in
      let signal : SoundAt q wm s1 = signal_sound b j rest w s s' chair chair' sound posts later in
      let to : LeadsTo q' w wm s1 = leads_to b j rest w s s1 chair' there_then signal asks in
      let shares : Shares s s' = subst (λ (z : Shared B). z ≡ record s { seats = z.seats; idle = z.idle; global = z.global }) (sym sends.kept) refl in
      let alike : SameProfile (record w { batch = w.batch; letters = rest }) wm = grind arith in
      let tails : tail_of chair.queue ≤ tail_of chair'.queue = omega arith in
      let beside : Beside w s wm s1 =
      beside_moved w.batch rest w wm s s1 alike refl (seats_other w.index j s.seats.items s'.seats.items chair chair' set there tails posts.spares) (gates_set j s.seats.items s'.seats.items chair chair' set there (gate_spared chair chair' posts.spares))
      (ap (map queue_of_chair) set ∙ queues_set s.seats.items j chair chair' there refl)
      (λ others whole.
      let h = hands_of (with_worker others w) in
      let h' = hands_of (with_worker others (record w { batch = w.batch; letters = rest })) in
      let x : Mail = mail_of m in
      let hs = map holder_of s.tasks.items in
      let ts = map thing_of s.requests.items in
      let naps = map nap_of s.sleepers.items in
      let boxes = map box_of s.seats.items in
      let split : letters_in w.letters ≡ letter ∷ letters_in rest = split_first (letters_in w.letters) letter first ∙ ap (λ ls. letter ∷ ls) (sym later) in
      let before : mail_of_letters w.letters ≡ x ∷ mail_of_letters rest = owed_mail w.letters ∙ ap (map mail_owed) split ∙ ap (λ ms. x ∷ ms) (sym (owed_mail rest)) in
      let one : (k : Mail) → (with_mail x h').mail k ≡ h.mail k = λ k.
      let weigh : Mail → ℕ = λ o. cond (same_mail k o) 1 0 in
      let all : mail_in k (mail_of_letters w.letters ++ w.batch.values) ≡ mail_in k (x ∷ (mail_of_letters rest ++ w.batch.values)) = ap (λ ms. mail_in k (ms ++ w.batch.values)) before in
      let parts : mail_in k (x ∷ (mail_of_letters rest ++ w.batch.values)) ≡ mail_in k (x ∷ []) + mail_in k (mail_of_letters rest ++ w.batch.values) = sum_by-append weigh (x ∷ []) (mail_of_letters rest ++ w.batch.values) in
      omega (arith, all, parts) in
      subst (λ bs. IsHolding h' s.config.workers hs ts naps bs) (sym (ap (map box_of) set ∙ map_set box_of s.seats.items j chair'))
      (holding_posted h' s.config.workers hs ts naps boxes j x (box_of chair) (box_there s.seats.items j chair there) about
      (rehanded h (with_mail x h') s.config.workers hs ts naps boxes one refl whole.holding)))
      refl refl in
      let done : Steps left spot w s (Send j m) w1 s1 = (
        (λ p vs suits.
            letter_works b letter is_it rest w s s1 chair open_box sound.here first later there refl set q' to.polls to.free to.unserved to.owes p vs suits
            (ap (λ c. after_posting c j (AfterSend.Cancels b) asks (desk_of (record w { letters = rest }))) suits.config
            ∙ ap (λ y. after_posting p.config j (AfterSend.Cancels b) asks (desk_of (record w { place = y; letters = rest }))) sound.here
            ∙ ap (λ ls. after_posting p.config j (AfterSend.Cancels b) asks (record (desk_of (record w { place = Place.SendCancel b })) { letters = ls })) later)
            (may p vs suits)),
        to.sound,
        unheard refl refl refl,
        record { spares = beside.spares; whole = λ others whole. to.whole others (beside.whole others whole) },
      ) in
      subst (λ x. Steps left spot w s x w' s') (sym event) (subst (λ x. Steps left spot w s (Send j m) x s') (sym same) (subst (Steps left spot w s (Send j m) w1) (sym sends.kept) done))
    where
      drops_here : (a : AfterCancels) → drops_at (Place.Signal InSignal.SetLatch letter.to (AfterSignal.Send (AfterSend.Cancels a))) ≡ drops_at (Place.SendCancel a)
      drops_here = grind arith

  -- THE WHOLE STEP
  pub letter_sent : (b : AfterCancels) (w w' : Worker) (s s' : Shared B) (e : Event) → SoundAt (Place.SendCancel b) w s → HasWhole w s → SendsLetter b w w' s s' e → Steps left spot w s e w' s'
  letter_sent b w w' s s' e sound has by = go by.letter by.first by.sends (of_all s.config.workers w.index s.requests.items s.sleepers.items true true w.letters sound.letters by.letter among)
    where
      among : Contains (letters_in w.letters) by.letter
      among = subst (λ xs. Contains xs by.letter) (sym (split_first (letters_in w.letters) by.letter by.first)) (0, omega arith, refl)

      some_in : (letter : Owed) → slice_get (letters_in w.letters) 0 ≡ Some letter → 1 ≤ mail_in (mail_of letter.message) (mail_with w)
      some_in letter first =
          let parts : mail_of_letters w.letters ≡ mail_of letter.message ∷ map mail_owed (drop 1 (letters_in w.letters)) = owed_mail w.letters ∙ ap (map mail_owed) (split_first (letters_in w.letters) letter first) in
          subst (λ ms. 1 ≤ mail_in (mail_of letter.message) (ms ++ w.batch.values)) (sym parts) (first_counts (mail_of letter.message) (map mail_owed (drop 1 (letters_in w.letters)) ++ w.batch.values))

      owed_first : (letter : Owed) → slice_get (letters_in w.letters) 0 ≡ Some letter → is_letter letter.to letter.message (slice_get (letters_in w.letters) 0) ≡ true
      owed_first letter first = ap (is_letter letter.to letter.message) first ∙ and_from (letter.to == letter.to) (same_message letter.message letter.message) (eq-eqb letter.to letter.to refl) (same_self letter.message)

      seat_found : (j : ℕ) → j < length s.seats.items → (chair : Chair) × (slice_get s.seats.items j ≡ Some chair)
      seat_found j few = there_within s.seats.items j few

      open_seen : (p : Plan) (vs : Views) → Suits p vs w s → (j : ℕ) (chair : Chair) → slice_get s.seats.items j ≡ Some chair → chair.mailbox.inbox.closed ≡ false → not (seat_of (common_of left spot p vs s) j).mailbox_closed ≡ true
      open_seen p vs suits j chair at open_box =
          let few : j < length s.seats.items = slice_get_within s.seats.items j chair at in
          let viewed : (v : Visible) × (slice_get vs.workers j ≡ Some v) = there_within vs.workers j (omega (arith, few, suits.workers)) in
          let seat : seat_of (common_of left spot p vs s) j ≡ seat_seen viewed.0 chair = get_or_from_slice_get (seats_seen vs.workers s.seats.items) j (seat_seen viewed.0 chair) no_seat (seat_there vs.workers s.seats.items j viewed.0 chair viewed.1 at) in
          ap (λ y. not y.mailbox_closed) seat ∙ ap not open_box

      go : (letter : Owed) → slice_get (letters_in w.letters) 0 ≡ Some letter → Sends letter.to letter.message (AfterSend.Cancels b) (record w { letters = by.left }) w' s s' e → OfLetter s.config.workers w.index s.requests.items s.sleepers.items letter.message letter.to → Steps left spot w s e w' s'
      go letter first sends of = by_message letter.message refl
        where
          by_message : (m : MailMessage) → letter.message ≡ m → Steps left spot w s e w' s'
          by_message Root is = absurd (subst (λ m. OfLetter s.config.workers w.index s.requests.items s.sleepers.items m letter.to) is of)
          by_message (ForwardRequest k) is = absurd (subst (λ m. OfLetter s.config.workers w.index s.requests.items s.sleepers.items m letter.to) is of)
          by_message (ForwardTimer k) is = absurd (subst (λ m. OfLetter s.config.workers w.index s.requests.items s.sleepers.items m letter.to) is of)
          by_message (CancelRequest k) is =
              let its : IsOfOther s.config.workers w.index (Subject.Request k) letter.to s.requests.items s.sleepers.items = subst (λ m. OfLetter s.config.workers w.index s.requests.items s.sleepers.items m letter.to) is of in
              let mine : IsMineIn s.config.workers letter.to (Subject.Request k) s.requests.items s.sleepers.items = its.0 in
              let found = seat_found letter.to (let few = mine.3 in let many = sound.seated.many in omega (arith, few, many)) in
              let open_box = box_open b w s sound has letter.to found.0 found.1 mine.3 in
              sent_by b letter (subst IsLetter (sym is) (cancels_request k)) by.left w w' s s' e found.0 open_box sound first by.later its.1 found.1
              (request_room w s has letter.to k mine (subst (λ m. 1 ≤ mail_in (mail_of m) (mail_with w)) is (some_in letter first)) found.0 found.1 open_box)
              (subst (λ m. IsAbout s.config.workers letter.to (mail_of m) (map thing_of s.requests.items) (map nap_of s.sleepers.items)) (sym is) (thing_of mine.0, thing_there s.requests.items k mine.0 mine.1, mine.2, mine.3)) sends
              (λ p vs suits. subst (λ m. is_letter letter.to m (slice_get (letters_in w.letters) 0) ≡ true → AllTrue (allowed p.config (own_of (record w { place = Place.SendCancel b })) (common_of left spot p vs s) w.index (Send letter.to m) Plain)) (sym is)
              (λ owed. (or_left (is_letter letter.to (CancelRequest k) (slice_get (letters_in w.letters) 0)) _ owed, (ap (λ y. y.worker == letter.to) (request_seen s.requests.items k mine.0 mine.1) ∙ ap (λ n. n == letter.to) mine.2 ∙ eq-eqb letter.to letter.to refl, (open_seen p vs suits letter.to found.0 found.1 open_box, tt))))
              (owed_first letter first))
          by_message (CancelTimer n) is =
              let its : IsOfOther s.config.workers w.index (Subject.Timer n) letter.to s.requests.items s.sleepers.items = subst (λ m. OfLetter s.config.workers w.index s.requests.items s.sleepers.items m letter.to) is of in
              let mine : IsMineIn s.config.workers letter.to (Subject.Timer n) s.requests.items s.sleepers.items = its.0 in
              let found = seat_found letter.to (let few = mine.3 in let many = sound.seated.many in omega (arith, few, many)) in
              let open_box = box_open b w s sound has letter.to found.0 found.1 mine.3 in
              sent_by b letter (subst IsLetter (sym is) (cancels_timer n)) by.left w w' s s' e found.0 open_box sound first by.later its.1 found.1
              (timer_room w s has letter.to n mine (subst (λ m. 1 ≤ mail_in (mail_of m) (mail_with w)) is (some_in letter first)) found.0 found.1 open_box)
              (subst (λ m. IsAbout s.config.workers letter.to (mail_of m) (map thing_of s.requests.items) (map nap_of s.sleepers.items)) (sym is) (nap_of mine.0, nap_there s.sleepers.items n mine.0 mine.1, mine.2, mine.3)) sends
              (λ p vs suits. subst (λ m. is_letter letter.to m (slice_get (letters_in w.letters) 0) ≡ true → AllTrue (allowed p.config (own_of (record w { place = Place.SendCancel b })) (common_of left spot p vs s) w.index (Send letter.to m) Plain)) (sym is)
              (λ owed. (owed, (open_seen p vs suits letter.to found.0 found.1 open_box, tt)))
              (owed_first letter first))
