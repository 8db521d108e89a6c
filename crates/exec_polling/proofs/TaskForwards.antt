-- A POLLED TASK ASKS FOR AN OUTPUT that another worker has: it waits for that elsewhere, and the worker is sent the message.
use Rattle.std.proofs.{Common.{◌≡◌, ◌≢◌, ◌⊎◌, inl, inr, ℕ, ◌==◌, ◌&&◌, ◌||◌, Bool, true, false, not, map, Option, Some, None, IsSome, refl, sym, ap, subst, ◌∙◌, arith, slice_get, slice_set, option_map, if◌then◌else◌}, lemmas.{Bool.{eq-eqb}, List.map-set, Option.{get_or_from_slice_get, slice_get-map, slice_get_within}}}
use Rattle.exec_base.specs.declared.one_shot.OneShotState.TheVariants.{Open}
use Rattle.exec_words.specs.declared.inbox.Message.{Message}
use Rattle.exec_task.specs.declared.body.Said.{Said}
use Rattle.exec_machine.specs.{After.own_after, declared.{event.Event.{Event, TheVariants.{Closed, Send}}, state.{Forwarding.{TheVariants.{Sent as Forwarded}}, MailMessage.TheVariants.ForwardRequest, Waiting.Waiting}}, Choice.Choice.Plain, Mail.{after_post, after_sending, awaiting, posted as seat_posted}, Progress.Plan, Same.is_number, Tasks.{polls_waiting, waits_for}, Tests.{is_unsent, waits_for_nothing, waits_for_request}, Words.{acts, asks_await, newest_held, polled_task}, World.{Task, no_seat, request_of, seat_of, task_of}}
use Rattle.exec_moves.specs.{declared.{handing.AfterSend.AfterSend, place.{InPoll.InPoll, Place.Place}}, Move.{move_at, move_look_at}, Poll.{Sight.{Asks, HearsRequest}, resume, sight_by, sight_of}, Seen.polls_in, Send.send_message, State.{Moved, Things}, Thing.{aside, mailbox_of, with_mailbox}}
use Rattle.exec_parts.{specs.{declared.parts.{mail.Subject.Subject, record.Record.Record, seat.Seat.Seat as Chair, shared.Shared.Shared, task_slot.TaskSlot.TaskSlot, worker.Worker.Worker}, Awaits.newest_of, Calls.forwarded_for, MailPosts.AsksOutput, Pooled.{Sends, asks_if_sent, chair_sent}, Serving.changed_in, Spots.Spot, View.{Views, common_of, desk_of, numbers_of_passing, own_of, seat_seen, seats_seen, task_seen, things_with}}, proofs.Facts.{not_same, same_Some, set_there}}
use Rattle.exec_invariants.{specs.{Holding.{Box, IsAbout, IsForwarded, IsHolding, Mail, awaited_in, box_of, holder_of, nap_of, thing_of, under_way}, Sound.{MayStop, SoundAt, acts_next}, Spares.SparesRecord, Whole.{HasWhole, Profile, hands_of, with_worker}, Works.{Beside, Steps, Suits, Works}}, proofs.{AskBoxes.{box_there, one_more_way, one_sent, same_else}, Hearing.hears_so, Here.{IsHere, going_on}, HoldBeside.Holds, HoldPosts.{posted, with_mail}, HoldThings.{Touches, touches_record}, HoldWaits.thing_awaited, Keys.{name_in, names_changed, same_gates, same_opens}, LetterPosts.{chair_open, forwards_request, open_spares, sent_open}, Lined.passing_same, Seats.seat_there, Seen.request_at, Slots.task_there, SparedRecord.there_within, TaskAsks.{Posts, asked, asked_leaves, asked_works, led_to, leads_to, to_pend}, TaskDeals.{ComesFrom, Dealt, ends as to_end, from_look}, TaskHears.thing_there, TaskTakes.{holder_there, holders_one}, TaskWants.{forward_place, made_with, wants_from}, Turning.set_found, AsksEnds.is_unsent_so}}

module _ {B : Type 0} where
  -- the slot then: its body may have acted, and is told nothing
  pub record WaitsElsewhere (k : ℕ) (slot slot' : TaskSlot B) : Type 0 where
    pub took : slot' ≡ record slot { body = slot'.body; told = None; waiting = Waiting.Request k; output = Open }
    pub body : IsSome slot'.body

  -- what happens: the request and the slot change, and the message is sent
  pub record AsksFor (x : InPoll) (t k : ℕ) (w w' : Worker) (s mid s' : Shared B) (e : Event) (slot slot' : TaskSlot B) (r : Record) : Type 0 where
    pub there : slice_get s.tasks.items t ≡ Some slot
    pub newest : newest_of slot ≡ Some k
    pub waits : (awaited_in slot.waiting ≡ None) ⊎ (awaited_in slot.waiting ≡ Some (Subject.Request k))
    pub request : slice_get s.requests.items k ≡ Some r
    pub unsent : is_unsent r.shown.forwarding ≡ true
    pub other : r.shown.worker ≢ w.index
    pub slot_so : WaitsElsewhere k slot slot'
    pub kept : mid ≡ record s { tasks = mid.tasks; requests = mid.requests }
    pub tasks : mid.tasks.items ≡ slice_set s.tasks.items t slot'
    pub requests : mid.requests.items ≡ slice_set s.requests.items k (forwarded_for t r)
    pub sends : Sends r.shown.worker (ForwardRequest k) (AfterSend.Pend t) w w' mid s' e

  -- and what that leaves: of the worker, and of others
  pub record OutputAsked (x : InPoll) (t k : ℕ) (w w' : Worker) (s mid s' : Shared B) (e : Event) (slot slot' : TaskSlot B) (r : Record) : Type 0 where
    pub chair : Chair
    pub open_box : chair.mailbox.inbox.closed ≡ false
    pub posts : Posts w.index r.shown.worker s.seats.items s'.seats.items chair (chair_open (ForwardRequest k) (forwards_request k) chair open_box)
    pub worker : w' ≡ record w { place = led_to t InPoll.Pend (AfterSend.Pend t) r.shown.worker (asks_if_sent (ForwardRequest k) chair.mailbox) }
    pub event : e ≡ Send r.shown.worker (ForwardRequest k)
    pub sound : SoundAt (led_to t InPoll.Pend (AfterSend.Pend t) r.shown.worker (asks_if_sent (ForwardRequest k) chair.mailbox)) (record w { place = led_to t InPoll.Pend (AfterSend.Pend t) r.shown.worker (asks_if_sent (ForwardRequest k) chair.mailbox) }) s'
    pub beside : Beside w s (record w { place = led_to t InPoll.Pend (AfterSend.Pend t) r.shown.worker (asks_if_sent (ForwardRequest k) chair.mailbox) }) s'
    pub items : s'.tasks.items ≡ slice_set s.tasks.items t slot'

  pub output_asks : (x : InPoll) (t k : ℕ) (w w' : Worker) (s mid s' : Shared B) (e : Event) (slot' : TaskSlot B) (r : Record) → ComesFrom t x → (sound : SoundAt (Place.Poll t x) w s) → HasWhole w s → (at : IsHere x t w s) → AsksFor x t k w w' s mid s' e at.slot slot' r
      → OutputAsked x t k w w' s mid s' e at.slot slot' r
  output_asks x t k w w' s mid s' e slot' r from sound has at by =
      let slot = at.slot in
      let b : AfterSend = AfterSend.Pend t in
      let wants = wants_from x t k w s r sound has at by.newest by.request by.other in
      let j : ℕ = r.shown.worker in
      let chair = wants.chair in
      let r' : Record = forwarded_for t r in
      let mid_there : slice_get mid.seats.items j ≡ Some chair = ap (λ (y : Shared B). slice_get y.seats.items j) by.kept ∙ wants.there in
      let chair' : Chair = chair_open (ForwardRequest k) (forwards_request k) chair wants.open_box in
      let set : s'.seats.items ≡ slice_set s.seats.items j chair' = by.sends.chair chair mid_there ∙ ap (λ (y : Shared B). slice_set y.seats.items j (chair_sent (ForwardRequest k) chair)) by.kept ∙ ap (slice_set s.seats.items j) (sent_open (ForwardRequest k) (forwards_request k) chair wants.open_box) in
      let ts = map thing_of s.requests.items in
      let naps = map nap_of s.sleepers.items in
      let hs = map holder_of s.tasks.items in
      let boxes = map box_of s.seats.items in
      let at_t = holder_there s.tasks.items t slot at.there in
      let at_r = thing_there s.requests.items k r by.request in
      let at_box = box_there s.seats.items j chair wants.there in
      let room = forward_place (hands_of (with_worker has.others w)) s.config.workers hs ts naps boxes k (thing_of r) at_r wants.few (box_of chair) at_box wants.open_box has.whole.holding by.unsent in
      let posts : Posts w.index j s.seats.items s'.seats.items chair chair' = record { other = by.other; there = wants.there; set = set; spares = open_spares (ForwardRequest k) (forwards_request k) chair wants.open_box room; queue = refl } in
      let spares : SparesRecord r r' = record { kept = refl; waiter = λ u h. ap (λ n. Some n) (sym (wants.waiter u h)); forwarding = inr (is_unsent_so r.shown.forwarding by.unsent, refl); observed = inl refl } in
      let mid_sleepers : mid.sleepers ≡ s.sleepers = ap (λ (y : Shared B). y.sleepers) by.kept in
      let midkept : mid ≡ record s { tasks = mid.tasks; requests = mid.requests; sleepers = mid.sleepers } = by.kept ∙ ap (λ y. record s { tasks = mid.tasks; requests = mid.requests; sleepers = y }) (sym mid_sleepers) in
      let touches : Touches s (record s { requests = mid.requests; sleepers = mid.sleepers }) = subst (λ y. Touches s (record s { requests = mid.requests; sleepers = y })) (sym mid_sleepers) (touches_record s mid k r r' by.request spares by.requests) in
      let took = by.slot_so.took in
      let waits_then : slot'.waiting ≡ Waiting.Request k = ap (λ (y : TaskSlot B). y.waiting) took in
      let stop : MayStop w.index (Waiting.Request k) mid.requests.items mid.sleepers.items = (r', ap (λ xs. slice_get xs k) by.requests ∙ set_there s.requests.items k r' r by.request, inl refl) in
      let to : Dealt InPoll.Pend w.index slot slot' mid.requests.items mid.sleepers.items = grind arith in
      let worker : w' ≡ record w { place = led_to t InPoll.Pend b j (asks_if_sent (ForwardRequest k) chair.mailbox) } = by.sends.worker chair mid_there ∙ ap (λ q. record w { place = q }) (leads_to t InPoll.Pend b (to_pend t) mid.config j (asks_if_sent (ForwardRequest k) chair.mailbox) (desk_of w)) in
      let event : e ≡ Send j (ForwardRequest k) = by.sends.event chair mid_there ∙ ap (λ c. if c then Closed else Send j (ForwardRequest k)) wants.open_box in
      let all : s' ≡ record s { tasks = mid.tasks; requests = mid.requests; seats = s'.seats } = by.sends.kept ∙ ap (λ (y : Shared B). record y { seats = s'.seats }) by.kept in
      let same_holders : map holder_of mid.tasks.items ≡ slice_set hs t (holder_of slot') = ap (map holder_of) by.tasks ∙ holders_one s.tasks.items t slot' in
      let same_things : map thing_of mid.requests.items ≡ slice_set ts k (thing_of r') = ap (map thing_of) by.requests ∙ map-set thing_of s.requests.items k r' in
      let same_boxes : map box_of s'.seats.items ≡ slice_set boxes j (box_of chair') = ap (map box_of) set ∙ map-set box_of s.seats.items j chair' in
      let held : (others : Profile) → Holds (with_worker others w) s → Holds (with_worker others w) s' = λ others old.
      let h = hands_of (with_worker others w) in
      let mail : Message Subject Subject = Message.Forward (Subject.Request k) in
      let about_old : IsAbout s.config.workers j mail ts naps = (thing_of r, at_r, refl, wants.few) in
      let waits = ap holder_of took ∙ ap (λ o. record (holder_of slot) { awaits = Some (Subject.Request k); output = o }) (sym (ap (λ (y : TaskSlot B). y.output) took)) in
      let ordinary : false ≡ false → slot.home ≡ None = λ sent. wants.ordinary in
      let output : false ≡ false → slot'.output ≡ Open = λ sent. ap (λ (y : TaskSlot B). y.output) took in
      let forwarded : (b : Box) → slice_get boxes j ≡ Some b → IsForwarded b.shut r.shown.forwarding (under_way h mail boxes) → IsForwarded b.shut Forwarded (under_way (with_mail mail h) mail boxes) = λ b there fact.
      one_sent b.shut r.shown.forwarding (under_way h mail boxes) (under_way (with_mail mail h) mail boxes) by.unsent (one_more_way h mail boxes) fact in
      let others_mail : (m : Mail) → m ≢ mail → (with_mail mail h).mail m ≡ h.mail m = λ m apart. same_else h mail m apart in
      let asked_for : IsHolding (with_mail mail h) s.config.workers (slice_set hs t (holder_of slot')) (slice_set ts k (thing_of r')) naps boxes =
      thing_awaited h (with_mail mail h) s.config.workers hs ts naps boxes t k (holder_of slot) (holder_of slot') (thing_of r) Forwarded (search (at_t, at_r, by, waits, going_on slot.cell.phase at.polled, ordinary, output, forwarded, others_mail, made_with h s.config.workers ts naps mail j about_old old.made, at_box)) old in
      let about : IsAbout s.config.workers j mail (slice_set ts k (thing_of r')) naps = (thing_of r', set_there ts k (thing_of r') (thing_of r) at_r, refl, wants.few) in
      let there : IsHolding h s.config.workers (slice_set hs t (holder_of slot')) (slice_set ts k (thing_of r')) naps (slice_set boxes j (box_of chair')) =
      posted h s.config.workers (slice_set hs t (holder_of slot')) (slice_set ts k (thing_of r')) naps boxes j mail (box_of chair) at_box about asked_for in
      subst (Holds (with_worker others w)) (sym all)
      (subst (λ xs. IsHolding h s.config.workers xs (map thing_of mid.requests.items) naps (map box_of s'.seats.items)) (sym same_holders)
      (subst (λ xs. IsHolding h s.config.workers (slice_set hs t (holder_of slot')) xs naps (map box_of s'.seats.items)) (sym same_things)
      (subst (λ xs. IsHolding h s.config.workers (slice_set hs t (holder_of slot')) (slice_set ts k (thing_of r')) naps xs) (sym same_boxes) there))) in
      let leaves = asked_leaves x InPoll.Pend b t j (ForwardRequest k) (forwards_request k) w s mid s' slot' chair wants.open_box from (to_end t) (to_pend t) sound at midkept by.tasks by.sends.kept posts touches to held in
      grind arith

-- WHAT THE MACHINE AND THE MOVES MAKE OF IT
module _ {B L : Type 0} (left : B → L) (spot : L → Option Said → Spot) where
  pub record SeesWants (x : InPoll) (t k : ℕ) (w : Worker) (s : Shared B) (slot slot' : TaskSlot B) (r : Record) (p : Plan) (vs : Views) : Type 0 where
    pub moves : move_at p.config w.index (own_of (record w { place = Place.Poll t x })) (common_of left spot p vs s) (desk_of (record w { place = Place.Poll t x })) (things_with vs s) (Place.Poll t x)
        ≡ with_mailbox r.shown.worker (things_with vs s) (send_message p.config (common_of left spot p vs s) r.shown.worker (ForwardRequest k) (AfterSend.Pend t) (desk_of (record w { place = Place.Poll t x })) (mailbox_of (things_with vs s) r.shown.worker))
    pub takes : (polls_waiting (own_of (record w { place = Place.Poll t x })) (common_of left spot p vs s) (waits_for_request k) || acts (own_of (record w { place = Place.Poll t x })) (common_of left spot p vs s) asks_await) ≡ true
    pub polled : polled_task (own_of (record w { place = Place.Poll t x })) (common_of left spot p vs s) ≡ task_of (common_of left spot p vs s) t
    pub own_then : own_after p.config (own_of (record w { place = Place.Poll t x })) (common_of left spot p vs s) w.index (Send r.shown.worker (ForwardRequest k)) Plain ≡ own_of (record w { place = Place.Poll t x })
    pub seen : task_seen left spot slot' ≡ awaiting (common_of left spot p vs s) k (task_seen left spot slot)

  pub wants_works : (x : InPoll) (t k : ℕ) (w w' : Worker) (s mid s' : Shared B) (e : Event) (slot slot' : TaskSlot B) (r : Record) → polls_in t x ≡ Some t → own_of (record w { place = Place.Poll t InPoll.Pend }) ≡ own_of (record w { place = Place.Poll t x }) → w.place ≡ Place.Poll t x → AsksFor x t k w w' s mid s' e slot slot' r
      → (asked : OutputAsked x t k w w' s mid s' e slot slot' r) → (p : Plan) (vs : Views) → Suits p vs w s → SeesWants x t k w s slot slot' r p vs
      → Works left spot p vs w s (Send r.shown.worker (ForwardRequest k)) (record w { place = led_to t InPoll.Pend (AfterSend.Pend t) r.shown.worker (asks_if_sent (ForwardRequest k) asked.chair.mailbox) }) s'
  wants_works x t k w w' s mid s' e slot slot' r polls own here by asked p vs suits sees =
      let j : ℕ = r.shown.worker in
      let b : AfterSend = AfterSend.Pend t in
      let all = common_of left spot p vs s in
      let me = own_of (record w { place = Place.Poll t x }) in
      let things = things_with vs s in
      let chair = asked.chair in
      let seen : task_of all t ≡ task_seen left spot slot = task_there left spot s.tasks.items t slot by.there in
      let request : request_of all k ≡ r.shown = request_at s.requests.items k r by.request in
      let apart : (j == w.index) ≡ false = not_same j w.index by.other in
      let viewed = there_within vs.workers j (omega (arith, slice_get_within s.seats.items j chair asked.posts.there, suits.workers)) in
      let seat : seat_of all j ≡ seat_seen viewed.0 chair = get_or_from_slice_get (seats_seen vs.workers s.seats.items) j (seat_seen viewed.0 chair) no_seat (seat_there vs.workers s.seats.items j viewed.0 chair viewed.1 asked.posts.there) in
      let rs = s.requests.items in
      let rs' = mid.requests.items in
      let tasks : map (task_seen left spot) mid.tasks.items ≡ slice_set all.tasks t (awaiting all k (task_of all t)) =
      ap (map (task_seen left spot)) by.tasks ∙ map-set (task_seen left spot) s.tasks.items t slot' ∙ ap (slice_set all.tasks t) (sees.seen ∙ ap (awaiting all k) (sym seen)) in
      let shown : map (λ (q : Record). q.shown) rs' ≡ slice_set all.requests k (record (request_of all k) { waiter = Some t; forwarding = Forwarded }) =
      ap (map (λ (q : Record). q.shown)) by.requests ∙ map-set (λ (q : Record). q.shown) rs k (forwarded_for t r) ∙ ap (λ q. slice_set all.requests k (record q { waiter = Some t; forwarding = Forwarded })) (sym request) in
      let names : map name_in rs' ≡ map name_in rs = ap (map name_in) by.requests ∙ ap (λ o. map name_in (changed_in rs k (forwarded_for t) o)) (sym by.request) ∙ names_changed rs k r (forwarded_for t) by.request refl in
      let gates = same_gates rs rs' names s.opens in
      let opens = same_opens rs rs' names s.opens in
      let answers : numbers_of_passing (λ (q : Record). q.sent) 0 rs' ≡ things.answers =
      passing_same (λ (q : Record). q.sent) rs rs' (ap (map (λ (q : Record). q.sent)) by.requests ∙ map-set (λ (q : Record). q.sent) rs k (forwarded_for t r) ∙ set_found (map (λ (q : Record). q.sent) rs) k r.sent (slice_get-map (λ (q : Record). q.sent) rs k ∙ ap (option_map (λ (q : Record). q.sent)) by.request)) in
      asked_works left spot x InPoll.Pend b t j (ForwardRequest k) (forwards_request k) w s mid s' chair asked.open_box (to_pend t) (to_end t) here (ap (λ (y : Shared B). y.seats) by.kept) (ap (λ (y : Shared B). y.global) by.kept) by.sends.kept asked.posts p vs suits
      sees.moves (
        ap (λ c. c && is_number k (newest_held (polled_task me all))) sees.takes ∙ ap (λ y. is_number k (newest_held y)) (sees.polled ∙ seen) ∙ ap (is_number k) by.newest ∙ eq-eqb k k refl,
        (ap (λ y. y.worker == j) request ∙ eq-eqb j j refl, (ap not apart, (ap (λ y. is_unsent y.forwarding) request ∙ by.unsent, (ap (λ y. not y.mailbox_closed) seat ∙ ap not asked.open_box, tt)))),
      )
      (own_there (asks_if_sent (ForwardRequest k) chair.mailbox) ∙ own)
      sees.own_then
      (ap (λ o. after_post (after_sending all o (ForwardRequest k)) j (ForwardRequest k) Plain) polls
      ∙ ap (λ zs. record all { tasks = zs; requests = slice_set all.requests k (record (request_of all k) { waiter = Some t; forwarding = Forwarded }); seats = slice_set all.seats j (seat_posted (ForwardRequest k) (seat_of all j)) }) (sym tasks)
      ∙ ap (λ zs. record all { tasks = map (task_seen left spot) mid.tasks.items; requests = zs; seats = slice_set all.seats j (seat_posted (ForwardRequest k) (seat_of all j)) }) (sym shown)
      ∙ ap (λ zs. record all { tasks = map (task_seen left spot) mid.tasks.items; requests = map (λ (q : Record). q.shown) rs'; opens = zs; seats = slice_set all.seats j (seat_posted (ForwardRequest k) (seat_of all j)) }) (sym opens)
      ∙ ap (λ (y : Shared B). record (common_of left spot p vs y) { seats = slice_set all.seats j (seat_posted (ForwardRequest k) (seat_of all j)) }) (sym by.kept))
      (ap (things_with vs) by.kept ∙ ap (λ g. record things { gates = g; answers = numbers_of_passing (λ (q : Record). q.sent) 0 rs' }) gates ∙ ap (λ ns. record things { answers = ns }) answers)
    where
      own_there : (asks : Bool) → own_of (record w { place = led_to t InPoll.Pend (AfterSend.Pend t) r.shown.worker asks }) ≡ own_of (record w { place = Place.Poll t InPoll.Pend })
      own_there true = refl
      own_there false = refl

  -- BY A LOOK
  pub output_asked : (t k : ℕ) (w w' : Worker) (s s' : Shared B) (e : Event) (r : Record) → (sound : SoundAt (Place.Poll t InPoll.Resume) w s) → HasWhole w s → (at : IsHere InPoll.Resume t w s) → at.slot.waiting ≡ Waiting.Request k → slice_get s.requests.items k ≡ Some r → is_unsent r.shown.forwarding ≡ true → r.shown.worker ≢ w.index
      → AsksOutput t k w w' s s' e → Steps left spot w s e w' s'
  output_asked t k w w' s s' e r sound has at waits at_k unsent other asks =
      let slot = at.slot in
      let same_slot : asks.slot ≡ slot = same_Some asks.slot slot (sym asks.there ∙ at.there) in
      let same_r : asks.r ≡ r = same_Some asks.r r (sym asks.request ∙ at_k) in
      let mid = asks.middle in
      let slot' : TaskSlot B = record slot { output = Open } in
      let untold : slot.told ≡ None = at.untold (ap acts_next waits) in
      let asleep : slot' ≡ record slot { waiting = Waiting.Request k; output = Open } = ap (λ u. record slot { waiting = u; output = Open }) waits in
      let awaiting_it = has.whole.holding.awaiting t (holder_of slot) k (holder_there s.tasks.items t slot at.there) (ap awaited_in waits) in
      let awaits : (awaited_in slot.waiting ≡ None) ⊎ (awaited_in slot.waiting ≡ Some (Subject.Request k)) = inr (ap awaited_in waits) in
      let so : WaitsElsewhere k slot slot' = record { took = asleep ∙ ap (λ o. record slot { waiting = Waiting.Request k; output = Open; told = o }) untold; body = at.body } in
      let tasks = asks.tasks ∙ ap (λ (o : TaskSlot B). slice_set s.tasks.items t (record o { waiting = Waiting.Request k; output = Open })) same_slot ∙ ap (slice_set s.tasks.items t) (sym asleep) in
      let requests = asks.requests ∙ ap (λ y. slice_set s.requests.items k (forwarded_for t y)) same_r in
      let sends = subst (λ (y : Record). Sends y.shown.worker (ForwardRequest k) (AfterSend.Pend t) w w' mid s' e) same_r asks.sends in
      let by : AsksFor InPoll.Resume t k w w' s mid s' e slot slot' r = assumption (at, awaiting_it.2.newest (going_on slot.cell.phase at.polled), awaits, at_k, unsent, other, so, tasks, requests, sends, asks) in
      let asked = output_asks InPoll.Resume t k w w' s mid s' e slot' r (from_look t) sound has at by in
      let all : s' ≡ record mid { seats = s'.seats } = by.sends.kept in
      let done : Steps left spot w s (Send r.shown.worker (ForwardRequest k)) (record w { place = led_to t InPoll.Pend (AfterSend.Pend t) r.shown.worker (asks_if_sent (ForwardRequest k) asked.chair.mailbox) }) s' = (
        (λ p vs suits. wants_works InPoll.Resume t k w w' s mid s' e slot slot' r refl refl sound.here by asked p vs suits (sees p vs slot slot' at.there waits)),
        asked.sound,
        hears_so t slot slot' refl (ap (λ (z : Shared B). z.config) all ∙ ap (λ (z : Shared B). z.config) by.kept) at.there asked.items
            (record { home = refl; body = refl; told = λ answer hears. (hears, refl); going = λ h. h }),
        asked.beside,
      ) in
      subst (λ v. Steps left spot w s e v s') (sym asked.worker) (subst (λ y. Steps left spot w s y (record w { place = led_to t InPoll.Pend (AfterSend.Pend t) r.shown.worker (asks_if_sent (ForwardRequest k) asked.chair.mailbox) }) s') (sym asked.event) done)
    where
      sees : (p : Plan) (vs : Views) (slot slot' : TaskSlot B) → slice_get s.tasks.items t ≡ Some slot → slot.waiting ≡ Waiting.Request k → SeesWants InPoll.Resume t k w s slot (record slot { output = Open }) r p vs
      sees p vs slot slot' there waits =
          let all = common_of left spot p vs s in
          let d = desk_of (record w { place = Place.Poll t InPoll.Resume }) in
          let me = own_of (record w { place = Place.Poll t InPoll.Resume }) in
          let x = things_with vs s in
          let b : AfterSend = AfterSend.Pend t in
          let it : task_of all t ≡ task_seen left spot slot = task_there left spot s.tasks.items t slot there in
          let what : (task_of all t).waiting ≡ Waiting.Request k = ap (λ y. y.waiting) it ∙ waits in
          let request : request_of all k ≡ r.shown = request_at s.requests.items k r at_k in
          let apart : (r.shown.worker == w.index) ≡ false = not_same r.shown.worker w.index other in
          let seen : Task = record (task_seen left spot slot) { waiting = Waiting.Request k } in
          let looks : Task → Moved Things = λ y. move_look_at p.config all d x t b (aside x (resume w.index t all d y)) (sight_of w.index all y.waiting) in
          let finds : Bool → Bool → Moved Things = λ u m. move_look_at p.config all d x t b (aside x (resume w.index t all d seen)) (sight_by u m (Asks r.shown.worker (ForwardRequest k)) (HearsRequest k)) in
          record {
            moves = grind (arith, it, waits, request, unsent, apart);
            takes = ap (λ u. waits_for_request k u || acts me all asks_await) what ∙ ap (λ c. c || acts me all asks_await) (eq-eqb k k refl);
            polled = refl;
            own_then = refl;
            seen = ap (λ c. if c then waits_for all (task_seen left spot slot) (Waiting.Request k) else task_seen left spot slot) (sym (ap waits_for_nothing waits));
          }
