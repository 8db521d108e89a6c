-- What the steps at the mailbox are to the machine: another batch is looked for, and what is there is taken.
use Rattle.exec_invariants.{proofs.{Names.{◌≡◌, ℕ, ◌+◌, ◌*◌, ◌^◌, ◌%◌, ◌<◌, ◌≤◌, Bool, true, false, cond, Contains, List, [], ◌∷◌, ◌++◌, length, map, Option, None, Some, option_map, refl, sym, ap, subst, ◌∙◌, arith, slice_get, slice_set, if◌then◌else◌, append-nil, length-set, sum_by-append, get_or_from_slice_get, slice_get-map, Inbox, batch_handed, batch_taken, Reserved, next_batch, PureWord, Said, Event, Turn, Plain, InMail, Place, has_mail, load_mail_word, take_mail, to_callbacks, move_at, polls_at, Moved, inbox_of, turns, word_of, set_inbox, with_inbox, with_word, Subject, Chair, Shared, Worker, IsPhased, TurnsChair, stage_of, OfChair, IsMailbox, Spot, Views, Visible, common_of, desk_of, inbox_at, message_of, own_of, seat_seen, things_of, things_with, visible, with_view, Goes, Makes, same_Some, set_there, true_false}, Showing.{map_kept, map_set}, AskBoxes.box_there, Aside.{HoldsIn, SameProfile, SparesSeats, beside_calm, queue_of_chair, queues_set, seats_own, seats_same, SameTold}, Dedicated.as_long, Hearing.unheard, Idled.{Fares, Holds, settled}, MailBack.stance, MailMoves.{all_taken, beside_moved}, PoolKept.{gates_same, gates_set}, Turning.{Shares, set_found, turned, word_back_again}, HandedOver.{taken_none, taken_some, handed_none, handed_some, by_list, seats_both, polls_both, my_mail, LeadsOn, told_past}}, specs.{Holding.{IsHolding, Mail, box_of, holder_of, mail_in, mail_of_letters, nap_of, same_mail, thing_of}, Places.{claims_at, drops_at, has_count_at, is_published_at}, Sound.{IsMyMail, IsSeated, SoundAt, AreHome, HasBatch, HasQueue}, Whole.{HasWhole, IsWhole, Profile, hands_of, with_worker}, Works.Steps}}

below : (n : ℕ) → n % 2 ^ 29 < 2 ^ 29
below n = omega arith

module _ {B : Type 0} where
  -- the inbox of worker j became this
  pub inbox_shows : (vs : Views) (j : ℕ) (v : Visible) (s s' : Shared B) (chair chair' : Chair) (mine : Visible) → slice_get vs.workers j ≡ Some mine → slice_get s.seats.items j ≡ Some chair → s' ≡ record s { seats = s'.seats } → s'.seats.items ≡ slice_set s.seats.items j chair'
      → chair'.queue ≡ chair.queue → chair'.mailbox.waker ≡ chair.mailbox.waker → chair'.raised ≡ chair.raised → v.wakes ≡ mine.wakes → things_with (with_view vs j v) s' ≡ set_inbox j (things_with vs s) (inbox_at chair')
  inbox_shows = grind (arith, map_kept, map_set, polls_both)

  pub own_inbox_seen : (j : ℕ) (s : Shared B) (chair : Chair) → slice_get s.seats.items j ≡ Some chair → inbox_of (things_of s) j ≡ inbox_at chair
  own_inbox_seen j s chair there = get_or_from_slice_get (map inbox_at s.seats.items) j (inbox_at chair) [] (slice_get-map inbox_at s.seats.items j ∙ ap (option_map inbox_at) there)

  -- WHAT HOLDS of a worker without mail
  to_take : (w : Worker) (s : Shared B) → SoundAt (Place.Mail InMail.LoadMailWord) w s → Fares (Place.Mail InMail.LoadMailWord) (Place.Mail InMail.TakeMail) (stance w) w s
  to_take = grind arith

  to_back : (w : Worker) (s : Shared B) → SoundAt (Place.Mail InMail.LoadMailWord) w s → Fares (Place.Mail InMail.LoadMailWord) to_callbacks (stance w) w s
  to_back = grind arith

  -- with the batch that it took
  sound_taken : (w : Worker) (s s' : Shared B) (batch : Reserved Mail) (n : ℕ) (seat' : Chair) → (sound : SoundAt (Place.Mail InMail.TakeMail) w s) → s'.seats.items ≡ slice_set s.seats.items w.index seat' → IsMailbox seat'.mailbox → seat'.mailbox.waker ≡ sound.seated.seat.mailbox.waker → seat'.pool ≡ sound.seated.seat.pool
      → seat'.queue ≡ sound.seated.seat.queue → seat'.made ≡ sound.seated.seat.made → seat'.mailbox.inbox.closed ≡ sound.seated.seat.mailbox.inbox.closed → stage_of seat' s ≡ stage_of sound.seated.seat s
      → n < 2 ^ 29 → 0 < length batch.values → 2 * sound.seated.seat.made + 1 ≤ batch.places → ((m : Mail) → Contains batch.values m → IsMyMail s.config.workers w.index m s.requests.items s.sleepers.items)
      → SoundAt (Place.Mail (InMail.Apply 0 true)) (record w { place = Place.Mail (InMail.Apply 0 true); batch = batch; processed = n }) (record s { seats = s'.seats })
  sound_taken w s s' batch n seat' sound items mail waker pool queue made closed stage few some places mine =
      let seat = sound.seated.seat in
      let there = sound.seated.there in
      let found : slice_get s'.seats.items w.index ≡ Some seat' = ap (λ xs. slice_get xs w.index) items ∙ set_there s.seats.items w.index seat' seat there in
      let is : (chair : Chair) → slice_get s'.seats.items w.index ≡ Some chair → seat' ≡ chair = λ chair at. same_Some seat' chair (sym found ∙ at) in
      let many : length s'.seats.items ≡ length s.seats.items = ap length items ∙ length-set s.seats.items w.index seat' in
      let seated1 : IsSeated w.index false s.config.workers s'.seats.items = record { many = as_long many sound.seated.many; pool = pool ∙ sound.seated.pool; seat = seat'; there = found; unarmed = λ h. ap (λ (x : PureWord). x.target) waker ∙ sound.seated.unarmed h; mail = mail } in
      let homes : AreHome s.config.workers (length s'.seats.items) s.tasks.items = rw many sound.homes in
      let queue : (chair : Chair) → slice_get s'.seats.items w.index ≡ Some chair → HasQueue (Place.Mail (InMail.Apply 0 true)) chair.queue =
      λ chair at. subst (λ (c : Chair). c.queue.held ≡ []) (is chair at) (ap (λ q. q.held) queue ∙ sound.queue seat there) in
      let aims : 0 < 64 = omega arith in
      let batch_place : (chair : Chair) → slice_get s'.seats.items w.index ≡ Some chair → chair.mailbox.inbox.closed ≡ false → 2 * chair.made + 1 ≤ batch.places =
      λ chair at open_box. subst (λ (c : Chair). 2 * c.made + 1 ≤ batch.places) (is chair at) (subst (λ k. 2 * k + 1 ≤ batch.places) (sym made) places) in
      let quiet : true ≡ false → w.home.deferred.notes.wakes.items ≡ [] = λ h. true_false h in
      let phased : (chair : Chair) → slice_get s'.seats.items w.index ≡ Some chair → IsPhased w.index false None w.home.closing w.root w.names.unreleased (stage_of chair s) s.tasks.items =
      λ chair at.
      subst (λ c. IsPhased w.index false None w.home.closing w.root w.names.unreleased (stage_of c s) s.tasks.items) (is chair at)
      (subst (λ st. IsPhased w.index false None w.home.closing w.root w.names.unreleased st s.tasks.items) (sym stage) (sound.phased seat there)) in
      assumption (homes, seated1, queue, few, aims, some, mine, batch_place, quiet, phased, tt, sound)

  -- or with none
  sound_none : (w : Worker) (s s' : Shared B) → SoundAt (Place.Mail InMail.TakeMail) w s → s'.seats.items ≡ s.seats.items → SoundAt to_callbacks (record w { place = to_callbacks }) (record s { seats = s'.seats })
  sound_none w s s' sound same =
      let homes : AreHome s.config.workers (length s'.seats.items) s.tasks.items = rw same sound.homes in
      let seated : IsSeated w.index false s.config.workers s'.seats.items = rw same sound.seated in
      let queue : (chair : Chair) → slice_get s'.seats.items w.index ≡ Some chair → HasQueue to_callbacks chair.queue = rw same sound.queue in
      let place : (chair : Chair) → slice_get s'.seats.items w.index ≡ Some chair → chair.mailbox.inbox.closed ≡ false → 2 * chair.made + 1 ≤ w.batch.places = rw same sound.batch_place in
      let phased : (chair : Chair) → slice_get s'.seats.items w.index ≡ Some chair → IsPhased w.index false None w.home.closing w.root w.names.unreleased (stage_of chair s) s.tasks.items = rw same sound.phased in
      let batch : HasBatch to_callbacks w.batch.values = λ h. sound.batch in
      let quiet : true ≡ false → w.home.deferred.notes.wakes.items ≡ [] = λ h. true_false h in
      assumption (homes, seated, queue, place, phased, told_past w 64 0 (omega arith) sound.told, batch, quiet, tt, sound)

module _ {B L : Type 0} (left : B → L) (spot : L → Option Said → Spot) where
  -- THE WAKE WORD

  pub word_loaded : (w w' : Worker) (s : Shared B) (e : Event) → SoundAt (Place.Mail InMail.LoadMailWord) w s → Makes (load_mail_word (desk_of w) (word_of (things_of s) w.index)) e w' → Goes w w' → Steps left spot w s e w' s
  word_loaded w w' s e sound makes goes = by (has_mail (desk_of w) word) refl
    where
      q : Place
      q = Place.Mail InMail.LoadMailWord

      word : PureWord
      word = word_of (things_of s) w.index

      leads : (q' : Place) → LeadsOn w.workers q q' → Fares q q' (stance w) w s → load_mail_word (desk_of w) word ≡ turns q' (desk_of w) word → Steps left spot w s e w' s
      leads q' on to how =
          let w1 : Worker = record w { place = q' } in
          let holds : Holds w w1 = record { root_ready = refl; hand = refl; loot = refl } in
          let told : SameTold w w1 = record { batch = refl; letters = refl; left = refl } in
          let alike : SameProfile w w1 = assumption (on.turn.polls ∙ sym (ap polls_at sound.here), on.claims ∙ sym (ap claims_at sound.here), on.counts ∙ sym (ap has_count_at sound.here), on.published ∙ sym (ap is_published_at sound.here), on.drops ∙ sym (ap drops_at sound.here), told) in
          subst (λ v. Steps left spot w s e v s) (sym (goes ∙ ap (λ y. record w { place = y }) (ap (λ d. d.place) makes.desk ∙ ap (λ m. m.desk.place) how)))
          (turned left spot q w w1 s s e sound (makes.event ∙ ap (λ m. m.event) how) (record { same = refl; read = sound.time.read; asleep = sound.time.asleep }) refl refl (λ vs. refl) on.turn
          (settled q q' (stance w) w w1 s s sound refl holds refl sound.calm to)
          (beside_calm w w1 s s alike refl (seats_same w.index s.seats.items s.seats.items refl) (gates_same s.seats.items s.seats.items refl) refl refl refl refl)
          (λ p vs suits. ap (λ m. with_word w.index (things_with vs s) m) how ∙ ap (λ x. record { event = Turn; choice = Plain; desk = desk_of w1; thing = x }) (word_back_again w.index (things_with vs s))))

      chosen : Bool → Moved PureWord
      chosen b = if b then turns (Place.Mail InMail.TakeMail) (desk_of w) word else turns to_callbacks (desk_of w) word

      by : (b : Bool) → has_mail (desk_of w) word ≡ b → Steps left spot w s e w' s
      by true is =
          leads (Place.Mail InMail.TakeMail) (record { turn = record { polls = refl; free = refl; free_then = refl; unserved = refl; owes = refl }; claims = refl; counts = refl; published = refl; drops = refl })
          (to_take w s sound) (ap chosen is)
      by false is =
          leads to_callbacks (record { turn = record { polls = refl; free = refl; free_then = refl; unserved = refl; owes = refl }; claims = refl; counts = refl; published = refl; drops = refl })
          (to_back w s sound) (ap chosen is)

  -- THE MESSAGES THAT ARE THERE, as one batch

  handed : (q' : Place) (batch : Reserved Mail) (processed : ℕ) (seat' : Chair) (w : Worker) (s s' : Shared B) (sound : SoundAt (Place.Mail InMail.TakeMail) w s)
      → LeadsOn w.workers (Place.Mail InMail.TakeMail) q'
      → map message_of batch.values ++ map message_of seat'.mailbox.inbox.messages ≡ map message_of w.batch.values ++ map message_of sound.seated.seat.mailbox.inbox.messages
      → seat' ≡ record sound.seated.seat { mailbox = record sound.seated.seat.mailbox { inbox = seat'.mailbox.inbox } } → seat'.mailbox.inbox.closed ≡ sound.seated.seat.mailbox.inbox.closed → seat'.mailbox.inbox.messages ≡ [] → IsMailbox seat'.mailbox
      → s'.seats.items ≡ slice_set s.seats.items w.index seat' → s' ≡ record s { seats = s'.seats }
      → take_mail (desk_of w) (inbox_of (things_of s) w.index) ≡ turns q' (record (desk_of w) { batch = map message_of batch.values; processed = processed }) []
      → SoundAt q' (record w { place = q'; batch = batch; processed = processed }) (record s { seats = s'.seats })
      → ((others : Profile) → IsWhole (with_worker others w) s → HoldsIn (with_worker others (record w { batch = batch })) s s'.seats.items)
      → Steps left spot w s Turn (record w { place = q'; batch = batch; processed = processed }) s'
  handed q' batch processed seat' w s s' sound on over shape closed none mail items kept how holds holding =
      let seat = sound.seated.seat in
      let there = sound.seated.there in
      let w1 : Worker = record w { place = q'; batch = batch; processed = processed } in
      let shares : Shares s s' = subst (λ (z : Shared B). z ≡ record s { seats = z.seats; idle = z.idle; global = z.global }) (sym kept) refl in
      let queue : seat'.queue ≡ seat.queue = ap (λ (c : Chair). c.queue) shape in
      let seats : SparesSeats w.index s.seats.items s'.seats.items = seats_own w.index s.seats.items s'.seats.items seat seat' items there (rw queue (omega arith)) in
      let profile : SameProfile (record w { batch = batch }) w1 = grind arith in
      let gates = gates_set w.index s.seats.items s'.seats.items seat seat' items there (record { left = ap (λ (c : Chair). c.left) shape; pool = ap (λ (c : Chair). c.pool) shape; closed = closed; mail = λ h. mail }) in
      let shows : seat_seen (visible w1) seat' ≡ seat_seen (visible w) seat = ap (λ (c : Chair). seat_seen (visible w1) c) shape ∙ rw (over, closed) refl in (
        (λ p vs suits.
            let cs = common_of left spot p vs s in
            record {
              choice = Plain;
              moves =
                  subst (λ y. move_at p.config w.index (own_of w) cs (desk_of w) (things_with vs s) y ≡ record { event = Turn; choice = Plain; desk = desk_of w1; thing = things_with (with_view vs w.index (visible w1)) s' }) (sym sound.here)
                  (ap (λ m. with_inbox w.index (things_with vs s) m) how
                  ∙ ap (λ x. record { event = Turn; choice = Plain; desk = desk_of w1; thing = x })
                  (ap (λ ms. set_inbox w.index (things_with vs s) ms) (sym (ap (λ ms. map message_of ms) none))
                  ∙ sym (inbox_shows vs w.index (visible w1) s s' seat seat' (visible w) suits.seen there kept items queue (ap (λ (c : Chair). c.mailbox.waker) shape) (ap (λ (c : Chair). c.raised) shape) refl)));
              may = tt;
              own = rw (sound.here, on.turn.polls, on.turn.free_then, on.turn.unserved, on.turn.owes) refl;
              common = grind (arith, kept, items, seats_both vs.workers s.seats.items w.index (visible w) (visible w1) seat seat' suits.seen there shows, sound.here);
            }),
        subst (λ z. SoundAt q' w1 z) (sym kept) holds,
        unheard refl (ap (λ (z : Shared B). z.config) kept) (ap (λ (z : Shared B). z.tasks.items) kept),
        beside_moved batch w.letters w w1 s s' profile shares seats gates (ap (λ xs. map queue_of_chair xs) items ∙ queues_set s.seats.items w.index seat seat' there queue) holding (ap (λ (z : Shared B). z.idle) kept) (ap (λ (z : Shared B). z.global) kept),
      )

  pub mail_taken : (w w' : Worker) (s s' : Shared B) (e : Event) → SoundAt (Place.Mail InMail.TakeMail) w s → HasWhole w s → Makes (take_mail (desk_of w) (inbox_of (things_of s) w.index)) e w' → w' ≡ record w { place = w'.place; batch = w'.batch; processed = w'.processed }
      → OfChair w.index s (λ chair. w'.batch ≡ batch_handed chair.mailbox.inbox w.batch) → TurnsChair w.index (λ chair. record chair { mailbox = record chair.mailbox { inbox = batch_taken chair.mailbox.inbox w.batch } }) s s' → s' ≡ record s { seats = s'.seats }
      → Steps left spot w s e w' s'
  mail_taken w w' s s' e sound has makes same batch turns_chair kept =
      let seat : Chair = sound.seated.seat in
      let there : slice_get s.seats.items w.index ≡ Some seat = sound.seated.there in
      let inbox : Inbox Subject Subject = seat.mailbox.inbox in
      let seen : inbox_of (things_of s) w.index ≡ map message_of inbox.messages = own_inbox_seen w.index s seat there in
      let open_box : inbox.closed ≡ false = (sound.phased seat there).shut in
      let places : 2 * seat.made + 1 ≤ w.batch.places = sound.batch_place seat there open_box in
      let by_desk : (q' : Place) (new : Reserved Mail) (processed : ℕ) → w'.batch ≡ new → take_mail (desk_of w) (inbox_of (things_of s) w.index) ≡ turns q' (record (desk_of w) { batch = map message_of new.values; processed = processed }) [] → Steps left spot w s Turn (record w { place = q'; batch = new; processed = processed }) s' → Steps left spot w s e w' s' =
      grind arith in
      let nothing : inbox.messages ≡ [] → Steps left spot w s e w' s' = λ none.
      let taken : batch_taken inbox w.batch ≡ inbox = taken_none inbox w.batch none in
      let how : take_mail (desk_of w) (inbox_of (things_of s) w.index) ≡ turns to_callbacks (record (desk_of w) { batch = map message_of w.batch.values; processed = w.processed }) [] = ap (take_mail (desk_of w)) (seen ∙ ap (λ ms. map message_of ms) none) in
      let items : s'.seats.items ≡ slice_set s.seats.items w.index seat = turns_chair seat there ∙ ap (λ i. slice_set s.seats.items w.index (record seat { mailbox = record seat.mailbox { inbox = i } })) taken in
      let still : s'.seats.items ≡ s.seats.items = items ∙ set_found s.seats.items w.index seat there in
      by_desk to_callbacks w.batch w.processed (batch seat there ∙ handed_none inbox w.batch none) how
      (handed to_callbacks w.batch w.processed seat w s s' sound (record { turn = record { polls = refl; free = refl; free_then = refl; unserved = refl; owes = refl }; claims = refl; counts = refl; published = refl; drops = refl })
      refl refl refl none sound.seated.mail items kept how (sound_none w s s' sound still)
      (λ others whole. subst (λ cs. HoldsIn (with_worker others w) s cs) (sym still) whole.holding)) in
      let some : (m : Mail) (ms : List Mail) → inbox.messages ≡ m ∷ ms → Steps left spot w s e w' s' = λ m ms is.
      let inbox' : Inbox Subject Subject = record inbox { messages = []; places = w.batch.places; taken = next_batch inbox.taken } in
      let seat' : Chair = record seat { mailbox = record seat.mailbox { inbox = inbox' } } in
      let taken : batch_taken inbox w.batch ≡ inbox' = taken_some inbox w.batch m ms is in
      let new : Reserved Mail = record { values = inbox.messages; places = inbox.places } in
      let q' : Place = Place.Mail (InMail.Apply 0 true) in
      let n : ℕ = next_batch w.processed in
      let how : take_mail (desk_of w) (inbox_of (things_of s) w.index) ≡ turns q' (record (desk_of w) { batch = map message_of inbox.messages; processed = n }) [] =
      ap (take_mail (desk_of w)) (seen ∙ ap (λ xs. map message_of xs) is) ∙ ap (λ xs. turns q' (record (desk_of w) { batch = map message_of xs; processed = n }) []) (sym is) in
      let items : s'.seats.items ≡ slice_set s.seats.items w.index seat' = turns_chair seat there ∙ ap (λ i. slice_set s.seats.items w.index (record seat { mailbox = record seat.mailbox { inbox = i } })) taken in
      let mail : IsMailbox seat'.mailbox = record { roots = omega arith; empty = λ h. refl; place = λ h. omega (arith, places) } in
      let at_box = box_there s.seats.items w.index seat there in
      let room : 2 * seat.made + 1 ≤ inbox.places = (has.whole.holding.room w.index (box_of seat) at_box).places open_box in
      by_desk q' new n (batch seat there ∙ handed_some inbox w.batch m ms is) how
      (handed q' new n seat' w s s' sound (record { turn = record { polls = refl; free = refl; free_then = refl; unserved = refl; owes = refl }; claims = refl; counts = refl; published = refl; drops = refl })
      (append-nil (map message_of inbox.messages) ∙ ap (λ vs. map message_of vs ++ map message_of inbox.messages) (sym sound.batch)) refl refl refl mail items kept how
      (sound_taken w s s' new n seat' sound items mail refl refl refl refl refl refl (below (w.processed + 1)) (subst (λ xs. 0 < length xs) (sym is) (omega arith)) room
      (λ x among. my_mail s.config.workers w.index x s.requests.items s.sleepers.items (has.whole.holding.about w.index (box_of seat) x at_box among)))
      (λ others whole.
      let x = with_worker others w in
      let x' = with_worker others (record w { batch = new }) in
      subst (λ bs. IsHolding (hands_of x') s.config.workers (map holder_of s.tasks.items) (map thing_of s.requests.items) (map nap_of s.sleepers.items) bs) (sym (ap (map box_of) items ∙ map_set box_of s.seats.items w.index seat'))
      (all_taken (hands_of x) (hands_of x') s.config.workers (map holder_of s.tasks.items) (map thing_of s.requests.items) (map nap_of s.sleepers.items) (map box_of s.seats.items) w.index (box_of seat) (box_of seat')
      (record {
        there = at_box;
        none = refl;
        same = record { shut = refl; closing = refl; places = λ h. places; made = refl };
        wakes = refl;
        mail = λ k.
            let weigh : Mail → ℕ = λ other. cond (same_mail k other) 1 0 in
            omega (arith, sum_by-append weigh (mail_of_letters w.letters) w.batch.values, sum_by-append weigh (mail_of_letters w.letters) inbox.messages, ap (mail_in k) sound.batch);
      })
      whole.holding))) in
      by_list inbox.messages nothing some
