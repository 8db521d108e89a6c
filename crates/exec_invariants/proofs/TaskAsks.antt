-- A POLL GOES ON once it has sent a message to another worker: by a signal to that where it is asked for, or at once.
use Rattle.exec_invariants.{specs.{Holding.Mail, Kinds.kind_of, Sound.{Aims, HasBatch, HasQueue, IsSeated, SoundAt, TellsPast, has_wakes_at}, Hearing.Hears, Spares.SparesChair, Whole.{Profile, with_worker}, Works.{Beside, Steps, Suits, Works}}, proofs.{Words.{◌≡◌, ◌≢◌, ℕ, ◌<◌, ◌≤◌, Bool, true, false, List, length, map, Option, Some, refl, sym, ap, subst, ◌∙◌, arith, slice_get, slice_set, if◌then◌else◌, false≢true, length-set, get_or_from_slice_get, slice_get_within, tail_of, Said, Configuration, Event, Closed, Send, MailMessage, own_after, common_after, allowed, Plain, seat_posted, Plan, AllTrue, no_seat, seat_of, AfterSend, AfterSignal, InSignal, InPoll, Place, move_at, after_send, after_posting, asks_box, posted, send_message, sent, Desk, Things, goes, mailbox_of, set_mailbox, with_mailbox, Chair, Shared, TaskSlot, Worker, asks_if_sent, Spot, Views, Visible, common_of, desk_of, inbox_at, own_of, polls_seen, queue_at, seat_seen, seats_seen, things_with, visible, with_view, word_at, set_elsewhere, set_there}, Hearing.hears_so, Here.IsHere, HoldBeside.{Deals, Handles, Holds, beside_dealt}, HoldThings.Touches, LetterPosts.{IsLetter, asks_open, chair_open, seat_open, things_open}, Polling.home_mine, Seats.{chair_set, seat_there}, SparedRecord.there_within, Aside.{SameProfile, queue_of_chair, queues_set, seats_other}, PoolKept.{gate_spared, gates_set}, TaskDeals.{ComesFrom, Dealt, GoesOn, profile_here, sound_dealt, here_or_none}, Turning.{view_found, Fits, arrives, by_place, lower, of_kind, sound_on}}}

-- where such a message leads
pub record LeadsBy (t : ℕ) (y : InPoll) (b : AfterSend) : Type 0 where
  pub after : (c : Configuration) (d : Desk) → after_send c b d ≡ Place.Poll t y
  pub kind : (j : ℕ) → kind_of (Place.Signal InSignal.SetLatch j (AfterSignal.Send b)) ≡ kind_of (Place.Poll t y)
  pub past : (i : ℕ) → TellsPast i (AfterSignal.Send b)
  pub batch : (ms : List Mail) (j : ℕ) → HasBatch (Place.Signal InSignal.SetLatch j (AfterSignal.Send b)) ms

pub to_pend : (t : ℕ) → LeadsBy t InPoll.Pend (AfterSend.Pend t)
to_pend t = record { after = λ c d. refl; kind = λ j. refl; past = λ i. tt; batch = λ ms j h. absurd (false≢true h) }

pub to_act : (t : ℕ) → LeadsBy t InPoll.Act (AfterSend.Act t)
to_act t = record { after = λ c d. refl; kind = λ j. refl; past = λ i. tt; batch = λ ms j h. absurd (false≢true h) }

-- there, by whether a signal is asked for
abbrev pub led_to : ℕ → InPoll → AfterSend → ℕ → Bool → Place
led_to t y b j asks = if asks then Place.Signal InSignal.SetLatch j (AfterSignal.Send b) else Place.Poll t y

pub leads_to : (t : ℕ) (y : InPoll) (b : AfterSend) → LeadsBy t y b → (c : Configuration) (j : ℕ) (asks : Bool) (d : Desk) → after_posting c j b asks d ≡ led_to t y b j asks
leads_to t y b by c j true d = refl
leads_to t y b by c j false d = by.after c d

profile_led : (x y : InPoll) (b : AfterSend) (t j : ℕ) (w : Worker) → LeadsBy t y b → (asks : Bool) → SameProfile w (record w { place = Place.Poll t y }) → SameProfile w (record w { place = led_to t y b j asks })
profile_led x y b t j w by false old = old
profile_led x y b t j w by true old =
    let same = by.kind j in
    grind arith

-- the seat of worker j was set, which isn't the own one
pub record Posts (i j : ℕ) (seats seats' : List Chair) (chair chair' : Chair) : Type 0 where
  pub other : j ≢ i
  pub there : slice_get seats j ≡ Some chair
  pub set : seats' ≡ slice_set seats j chair'
  pub spares : SparesChair chair chair'
  pub queue : chair'.queue ≡ chair.queue

module _ {B : Type 0} where
  pub sound_posted : (t : ℕ) (y : InPoll) (b : AfterSend) (j : ℕ) (asks : Bool) (w : Worker) (s s' : Shared B) (chair chair' : Chair) → LeadsBy t y b → GoesOn t y → SoundAt (Place.Poll t y) w s → s' ≡ record s { seats = s'.seats } → Posts w.index j s.seats.items s'.seats.items chair chair' → SoundAt (led_to t y b j asks) (record w { place = led_to t y b j asks }) s'
  sound_posted t y b j asks w s s' chair chair' by on sound kept posts =
      let q' : Place = led_to t y b j asks in
      let w' : Worker = record w { place = q' } in
      let seat = sound.seated.seat in
      let many : length s'.seats.items ≡ length s.seats.items = ap length posts.set ∙ length-set s.seats.items j chair' in
      let own : slice_get s'.seats.items w.index ≡ Some seat = ap (λ cs. slice_get cs w.index) posts.set ∙ set_elsewhere s.seats.items j w.index chair' (λ e. posts.other (sym e)) ∙ sound.seated.there in
      let back : (c : Chair) → slice_get s'.seats.items w.index ≡ Some c → slice_get s.seats.items w.index ≡ Some c = λ c at. sym (set_elsewhere s.seats.items j w.index chair' (λ e. posts.other (sym e))) ∙ ap (λ cs. slice_get cs w.index) (sym posts.set) ∙ at in
      let same : kind_of q' ≡ kind_of (Place.Poll t y) = kinds asks in
      let fits : Fits q' w s s'.seats.items = record {
        seated = subst (λ a. IsSeated w.index a s.config.workers s'.seats.items) (sym (ap (λ k. k.armed) same)) (record { many = subst (λ n. s.config.workers ≤ n) (sym many) sound.seated.many; seat = seat; there = own; pool = sound.seated.pool; unarmed = sound.seated.unarmed; mail = sound.seated.mail });
        queue = λ c at. queue_there asks c (sound.queue c (back c at));
        aims = aims_there asks (slice_get_within s'.seats.items j chair' (ap (λ cs. slice_get cs j) posts.set ∙ set_there s.seats.items j chair' chair posts.there));
        batch = batch_there asks sound.batch;
        batch_place = λ c at. sound.batch_place c (back c at);
        phased = λ c at. (of_kind (Place.Poll t y) q' w s sound (lower w.role (Place.Poll t y) q' same)).phased c (back c at);
      } in
      sound_on (Place.Poll t y) w w' s s' sound (by_place w w' s.clock sound.time refl) (subst (λ (z : Shared B). z ≡ record s { seats = z.seats; idle = z.idle; global = z.global }) (sym kept) refl) (omega (arith, many))
      (arrives (Place.Poll t y) q' w w' s s' sound (lower w.role (Place.Poll t y) q' same) (λ h. sound.quiet (wakes_there asks h)) (record { root_ready = refl; hand = refl; loot = refl; searching = refl }) fits)
    where
      kinds : (asks : Bool) → kind_of (led_to t y b j asks) ≡ kind_of (Place.Poll t y)
      kinds true = by.kind j
      kinds false = refl

      queue_there : (asks : Bool) (c : Chair) → HasQueue (Place.Poll t y) c.queue → HasQueue (led_to t y b j asks) c.queue
      queue_there true c h = h
      queue_there false c h = h

      aims_there : (asks : Bool) → j < length s'.seats.items → Aims (led_to t y b j asks) s.config w.index s'.seats.items
      aims_there true few = (few, by.past w.index)
      aims_there false few = tt

      batch_there : (asks : Bool) → HasBatch (Place.Poll t y) w.batch.values → HasBatch (led_to t y b j asks) w.batch.values
      batch_there true h = by.batch w.batch.values j
      batch_there false h = h

      wakes_there : (asks : Bool) → has_wakes_at (led_to t y b j asks) ≡ false → has_wakes_at (Place.Poll t y) ≡ false
      wakes_there true h = refl
      wakes_there false h = h

  -- what the step leaves of the worker and of others, with the message in the inbox of worker j
  pub asked_leaves : (x y : InPoll) (b : AfterSend) (t j : ℕ) (m : MailMessage) (letter : IsLetter m) (w : Worker) (s mid s' : Shared B) (slot' : TaskSlot B) (chair : Chair) (open_box : chair.mailbox.inbox.closed ≡ false) → ComesFrom t x → GoesOn t y → LeadsBy t y b
      → (sound : SoundAt (Place.Poll t x) w s) → (it : IsHere x t w s)
      → mid ≡ record s { tasks = mid.tasks; requests = mid.requests; sleepers = mid.sleepers } → mid.tasks.items ≡ slice_set s.tasks.items t slot' → s' ≡ record mid { seats = s'.seats } → Posts w.index j s.seats.items s'.seats.items chair (chair_open m letter chair open_box)
      → Touches s (record s { requests = mid.requests; sleepers = mid.sleepers }) → Dealt y w.index it.slot slot' mid.requests.items mid.sleepers.items → ((others : Profile) → Holds (with_worker others w) s → Holds (with_worker others w) s')
      → SoundAt (led_to t y b j (asks_if_sent m chair.mailbox)) (record w { place = led_to t y b j (asks_if_sent m chair.mailbox) }) s' × Beside w s (record w { place = led_to t y b j (asks_if_sent m chair.mailbox) }) s'
  asked_leaves x y b t j m letter w s mid s' slot' chair open_box from on by sound it midkept items kept posts touches to holds =
      let asks : Bool = asks_if_sent m chair.mailbox in
      let q' : Place = led_to t y b j asks in
      let w1 : Worker = record w { place = q' } in
      let chair' : Chair = chair_open m letter chair open_box in
      let s1 : Shared B = record s { tasks = mid.tasks; requests = mid.requests; sleepers = mid.sleepers; seats = s'.seats } in
      let all : s' ≡ s1 = kept ∙ ap (λ (z : Shared B). record z { seats = s'.seats }) midkept in
      let mid_seats : mid.seats ≡ s.seats = ap (λ (z : Shared B). z.seats) midkept in
      let handles : Handles t s s1 it.slot slot' = record { there = it.there; items = items; cell = to.cell; home = to.home; cleared = to.cleared; poller = to.poller } in
      let gates = gates_set j s.seats.items s'.seats.items chair chair' posts.set posts.there (gate_spared chair chair' posts.spares) in
      let queues = ap (map queue_of_chair) posts.set ∙ queues_set s.seats.items j chair chair' posts.there posts.queue in
      let deals : Deals t w w1 s s1 it.slot slot' = assumption (handles, profile_led x y b t j w by asks (profile_here x y t w from on sound.here), gates, queues, touches) in
      let sound2 : SoundAt (Place.Poll t y) (record w { place = Place.Poll t y }) mid = sound_dealt x y t w s mid slot' from on sound it midkept items touches to in
      let sound3 : SoundAt q' w1 s' = sound_posted t y b j asks (record w { place = Place.Poll t y }) mid s' chair chair' by on sound2 kept (subst (λ cs. Posts w.index j cs s'.seats.items chair chair') (ap (λ z. z.items) (sym mid_seats)) posts) in
      let mine : (k : ℕ) → it.slot.home ≡ Some k → k ≡ w.index = home_mine w.index it.slot.home (here_or_none x t w s it) in
      let tails : tail_of chair.queue ≤ tail_of chair'.queue = omega arith in
      let beside : Beside w s w1 s1 = beside_dealt t w w1 s s1 it.slot slot' deals it.poller mine sound.homes touches (seats_other w.index j s.seats.items s'.seats.items chair chair' posts.set posts.there tails posts.spares)
      (λ others old. subst (Holds (with_worker others w)) all (holds others old)) in
      (sound3, subst (λ z. Beside w s w1 z) (sym all) beside)

module _ {B L : Type 0} (left : B → L) (spot : L → Option Said → Spot) where
  -- THE WHOLE STEP
  pub asked : (x y : InPoll) (b : AfterSend) (t j : ℕ) (m : MailMessage) (letter : IsLetter m) (w w' : Worker) (s mid s' : Shared B) (e : Event) (slot' : TaskSlot B) (chair : Chair) (open_box : chair.mailbox.inbox.closed ≡ false) → ComesFrom t x → GoesOn t y → LeadsBy t y b
      → (sound : SoundAt (Place.Poll t x) w s) → (it : IsHere x t w s) → w' ≡ record w { place = led_to t y b j (asks_if_sent m chair.mailbox) }
      → mid ≡ record s { tasks = mid.tasks; requests = mid.requests; sleepers = mid.sleepers } → mid.tasks.items ≡ slice_set s.tasks.items t slot' → s' ≡ record mid { seats = s'.seats } → Posts w.index j s.seats.items s'.seats.items chair (chair_open m letter chair open_box)
      → Touches s (record s { requests = mid.requests; sleepers = mid.sleepers }) → Dealt y w.index it.slot slot' mid.requests.items mid.sleepers.items → Hears it.slot slot'
      → ((others : Profile) → Holds (with_worker others w) s → Holds (with_worker others w) s') → ((p : Plan) (vs : Views) → Suits p vs w s → Works left spot p vs w s e (record w { place = led_to t y b j (asks_if_sent m chair.mailbox) }) s') → Steps left spot w s e w' s'
  asked x y b t j m letter w w' s mid s' e slot' chair open_box from on by sound it same midkept items kept posts touches to hears holds works =
      let leaves = asked_leaves x y b t j m letter w s mid s' slot' chair open_box from on by sound it midkept items kept posts touches to holds in
      let all : s' ≡ record s { tasks = mid.tasks; requests = mid.requests; sleepers = mid.sleepers; seats = s'.seats } = kept ∙ ap (λ (z : Shared B). record z { seats = s'.seats }) midkept in
      let done : Steps left spot w s e (record w { place = led_to t y b j (asks_if_sent m chair.mailbox) }) s' = (
        works,
        leaves.0,
        hears_so t it.slot slot' refl (ap (λ (z : Shared B). z.config) all) it.there (ap (λ (z : Shared B). z.tasks.items) all ∙ items) hears,
        leaves.1,
      ) in
      subst (λ v. Steps left spot w s e v s') (sym same) done

  -- WHAT IT IS TO THE MACHINE: that the message is sent
  pub asked_works : (x y : InPoll) (b : AfterSend) (t j : ℕ) (m : MailMessage) (letter : IsLetter m) (w : Worker) (s mid s' : Shared B) (chair : Chair) (open_box : chair.mailbox.inbox.closed ≡ false) → LeadsBy t y b → GoesOn t y → w.place ≡ Place.Poll t x → mid.seats ≡ s.seats → mid.global ≡ s.global
      → s' ≡ record mid { seats = s'.seats } → Posts w.index j s.seats.items s'.seats.items chair (chair_open m letter chair open_box)
      → (p : Plan) (vs : Views) → Suits p vs w s
      → move_at p.config w.index (own_of (record w { place = Place.Poll t x })) (common_of left spot p vs s) (desk_of (record w { place = Place.Poll t x })) (things_with vs s) (Place.Poll t x)
      ≡ with_mailbox j (things_with vs s) (send_message p.config (common_of left spot p vs s) j m b (desk_of (record w { place = Place.Poll t x })) (mailbox_of (things_with vs s) j))
      → AllTrue (allowed p.config (own_of (record w { place = Place.Poll t x })) (common_of left spot p vs s) w.index (Send j m) Plain)
      → own_of (record w { place = led_to t y b j (asks_if_sent m chair.mailbox) }) ≡ own_of (record w { place = Place.Poll t x })
      → own_after p.config (own_of (record w { place = Place.Poll t x })) (common_of left spot p vs s) w.index (Send j m) Plain ≡ own_of (record w { place = Place.Poll t x })
      → common_after p.config (own_of (record w { place = Place.Poll t x })) (common_of left spot p vs s) w.index (Send j m) Plain ≡ record (common_of left spot p vs mid) { seats = slice_set (seats_seen vs.workers s.seats.items) j (seat_posted m (seat_of (common_of left spot p vs s) j)) }
      → things_with vs mid ≡ things_with vs s
      → Works left spot p vs w s (Send j m) (record w { place = led_to t y b j (asks_if_sent m chair.mailbox) }) s'
  asked_works x y b t j m letter w s mid s' chair open_box by on here seats global kept posts p vs suits moves may own own_then common things =
      let w0 : Worker = record w { place = Place.Poll t x } in
      let asks : Bool = asks_if_sent m chair.mailbox in
      let w1 : Worker = record w { place = led_to t y b j asks } in
      let chair' : Chair = chair_open m letter chair open_box in
      let cs = common_of left spot p vs s in
      let d = desk_of w0 in
      let x = things_with vs s in
      let s1 : Shared B = record mid { seats = s'.seats } in
      let again : with_view vs w.index (visible w) ≡ vs = view_found vs w.index (visible w) suits.seen in
      let few : j < length s.seats.items = slice_get_within s.seats.items j chair posts.there in
      let viewed : (v : Visible) × (slice_get vs.workers j ≡ Some v) = there_within vs.workers j (omega (arith, few, suits.workers)) in
      let seat : seat_of cs j ≡ seat_seen viewed.0 chair = get_or_from_slice_get (seats_seen vs.workers s.seats.items) j (seat_seen viewed.0 chair) no_seat (seat_there vs.workers s.seats.items j viewed.0 chair viewed.1 posts.there) in
      let shown : things_with vs s1 ≡ record (things_with vs s) { queues = map queue_at s'.seats.items; words = map word_at s'.seats.items; inboxes = map inbox_at s'.seats.items; wake_polls = polls_seen vs.workers s'.seats.items } =
      ap (λ (z : Things). record z { queues = map queue_at s'.seats.items; words = map word_at s'.seats.items; inboxes = map inbox_at s'.seats.items; wake_polls = polls_seen vs.workers s'.seats.items }) things in
      let put : things_with vs s1 ≡ set_mailbox j x (posted m (mailbox_of x j)) = things_open m letter chair open_box vs j s posts.there s'.seats.items posts.set (things_with vs s1) shown in
      let sends : send_message p.config cs j m b d (mailbox_of x j) ≡ record { event = Send j m; choice = Plain; desk = desk_of w1; thing = posted m (mailbox_of x j) } =
      ap (λ c. sent p.config j b d (if c then (record { event = Closed; choice = Plain; signals = false; mailbox = mailbox_of x j }) else (record { event = Send j m; choice = Plain; signals = asks_box (mailbox_of x j); mailbox = posted m (mailbox_of x j) }))) (ap (λ y. y.mailbox_closed) seat ∙ open_box)
      ∙ ap (λ a. record { event = Send j m; choice = Plain; desk = goes (after_posting p.config j b a d) d; thing = posted m (mailbox_of x j) }) (asks_open m letter chair open_box vs j s posts.there)
      ∙ ap (λ q. record { event = Send j m; choice = Plain; desk = goes q d; thing = posted m (mailbox_of x j) }) (leads_to t y b by p.config j asks d) in
      let done : Works left spot p vs w0 s (Send j m) w1 s1 = record {
        choice = Plain;
        moves = moves ∙ ap (with_mailbox j x) sends ∙ ap (λ z. record { event = Send j m; choice = Plain; desk = desk_of w1; thing = z }) (sym put)
            ∙ ap (λ v. record { event = Send j m; choice = Plain; desk = desk_of w1; thing = things_with v s1 }) (sym again);
        may = may;
        own = own ∙ sym own_then;
        common = grind (arith, again, posts.set, chair_set vs.workers s.seats.items j viewed.0 chair' viewed.1, seat_open m letter chair open_box viewed.0, seat, common);
      } in
      subst (Works left spot p vs w s (Send j m) w1) (sym kept) (subst (λ v. Works left spot p vs v s (Send j m) w1 s1) (ap (λ y. record w { place = y }) (sym here)) done)
