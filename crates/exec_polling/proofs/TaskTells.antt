-- A POLLED TASK LETS GO of the newest request that it holds, which another worker has: that is told.
use Rattle.std.proofs.{Common.{◌≡◌, ◌≢◌, ℕ, ◌+◌, ◌==◌, ◌&&◌, Bool, true, false, not, List, map, Option, Some, refl, sym, ap, subst, ◌∙◌, arith, slice_get, slice_set, if◌then◌else◌}, lemmas.{Bool.eq-eqb, List.map-set, Option.{get_or_from_slice_get, slice_get_within}}}
use Rattle.exec_words.specs.declared.inbox.Message.{Message}
use Rattle.exec_task.specs.{Phases.is_polled, Sight.Sight, declared.body.{Act.Act, Said.Said}}
use Rattle.exec_machine.specs.{declared.{config.ScriptWord.ScriptWord, event.Event.{Event, TheVariants.{Closed, Drop, Send}}, state.{MailMessage.TheVariants.CancelRequest, Waiting.Waiting}}, Mail.{is_first_owed, posted as seat_posted}, Progress.Plan, Same.is_number, Tasks.after_letting_go, Words.{acts, asks_drop, newest_held, next_word}, World.{Task, no_seat, request_of, seat_of, task_of}}
use Rattle.exec_moves.specs.{declared.{handing.AfterSend.AfterSend, place.{InPoll.InPoll, Place.Place}}, Move.move_look_at, Poll.{Sight.{Asks, Here}, acts_on}, State.{Moved, Things, does}, Thing.aside, Told.told_of_drop}
use Rattle.exec_parts.{specs.{declared.parts.{mail.Subject.Subject, record.Record.Record, seat.Seat.Seat as Chair, shared.Shared.Shared, task_slot.TaskSlot.TaskSlot, worker.Worker.Worker}, Awaits.{DropsElsewhere, newest_of}, Pooled.{Sends, asks_if_sent, chair_sent}, Scripts.IsAnswered, Spots.Spot, View.{Views, common_of, desk_of, own_of, seat_seen, seats_seen, task_seen, things_with}}, proofs.Facts.{not_same, or_right, same_Some}}
use Rattle.exec_invariants.{specs.{Acting.{HasActed, StepsOf}, Holding.{Holder, IsAbout, IsHolding, Mail, awaited_in, box_of, holder_of, nap_of, thing_of}, Sound.SoundAt, Whole.{HasWhole, Profile, hands_of, with_worker}, Works.{Beside, Suits, Works}}, proofs.{Acting.{IsActor, actor, acts_so, me_at}, AskBoxes.{box_there, same_else}, Here.{IsHere, going_on, polled_here}, HoldBeside.Holds, HoldLets.thing_told, HoldMail.is_once, HoldSteps.IsNewest, HoldPosts.{posted, with_mail}, HoldThings.{Touches, touches_none}, LetterPosts.{cancels_request, chair_open, open_spares, sent_open}, Performing.still_performs, Seats.seat_there, Seen.request_at, Slots.task_there, SparedRecord.there_within, TaskAsks.{Posts, asked_leaves, asked_works, led_to, leads_to, to_act as leads_on}, TaskDeals.{Dealt, acts as to_act, from_act}, TaskHears.{newest_split, thing_there}, TaskTakes.{holder_there, holders_one}, TaskWants.{cancel_place, made_with, wants_from}}}
use Rattle.exec_polling.proofs.TaskDrops.{DropsSo, drop_looks, drops_deals, drops_perform, drops_so, let_go_seen}

module _ {B : Type 0} where
  -- what happens: the slot changes, and the message is sent
  pub record TellsWorker (t k : ℕ) (w w' : Worker) (s mid s' : Shared B) (e : Event) (slot slot' : TaskSlot B) (b' : B) (r : Record) : Type 0 where
    pub there : slice_get s.tasks.items t ≡ Some slot
    pub newest : newest_of slot ≡ Some k
    pub waits : slot.waiting ≡ Waiting.Nothing
    pub polled : is_polled slot.cell.phase ≡ true
    pub request : slice_get s.requests.items k ≡ Some r
    pub other : r.shown.worker ≢ w.index
    pub so : DropsSo slot slot' b'
    pub kept : mid ≡ record s { tasks = mid.tasks }
    pub tasks : mid.tasks.items ≡ slice_set s.tasks.items t slot'
    pub sends : Sends r.shown.worker (CancelRequest k) (AfterSend.Act t) w w' mid s' e

  -- and what that leaves: of the worker, and of others
  pub record WorkerTold (t k : ℕ) (w w' : Worker) (s mid s' : Shared B) (e : Event) (slot' : TaskSlot B) (r : Record) : Type 0 where
    pub chair : Chair
    pub open_box : chair.mailbox.inbox.closed ≡ false
    pub posts : Posts w.index r.shown.worker s.seats.items s'.seats.items chair (chair_open (CancelRequest k) (cancels_request k) chair open_box)
    pub worker : w' ≡ record w { place = led_to t InPoll.Act (AfterSend.Act t) r.shown.worker (asks_if_sent (CancelRequest k) chair.mailbox) }
    pub event : e ≡ Send r.shown.worker (CancelRequest k)
    pub sound : SoundAt (led_to t InPoll.Act (AfterSend.Act t) r.shown.worker (asks_if_sent (CancelRequest k) chair.mailbox)) (record w { place = led_to t InPoll.Act (AfterSend.Act t) r.shown.worker (asks_if_sent (CancelRequest k) chair.mailbox) }) s'
    pub beside : Beside w s (record w { place = led_to t InPoll.Act (AfterSend.Act t) r.shown.worker (asks_if_sent (CancelRequest k) chair.mailbox) }) s'
    pub items : s'.tasks.items ≡ slice_set s.tasks.items t slot'

  pub worker_told : (t k : ℕ) (w w' : Worker) (s mid s' : Shared B) (e : Event) (slot' : TaskSlot B) (b' : B) (r : Record) → (sound : SoundAt (Place.Poll t InPoll.Act) w s) → HasWhole w s → (at : IsHere InPoll.Act t w s) → TellsWorker t k w w' s mid s' e at.slot slot' b' r → WorkerTold t k w w' s mid s' e slot' r
  worker_told t k w w' s mid s' e slot' b' r sound has at by =
      let slot = at.slot in
      let b : AfterSend = AfterSend.Act t in
      let wants = wants_from InPoll.Act t k w s r sound has at by.newest by.request by.other in
      let j : ℕ = r.shown.worker in
      let chair = wants.chair in
      let mid_there : slice_get mid.seats.items j ≡ Some chair = ap (λ (y : Shared B). slice_get y.seats.items j) by.kept ∙ wants.there in
      let chair' : Chair = chair_open (CancelRequest k) (cancels_request k) chair wants.open_box in
      let set : s'.seats.items ≡ slice_set s.seats.items j chair' = by.sends.chair chair mid_there ∙ ap (λ (y : Shared B). slice_set y.seats.items j (chair_sent (CancelRequest k) chair)) by.kept ∙ ap (slice_set s.seats.items j) (sent_open (CancelRequest k) (cancels_request k) chair wants.open_box) in
      let ts = map thing_of s.requests.items in
      let naps = map nap_of s.sleepers.items in
      let hs : List Holder = map holder_of s.tasks.items in
      let boxes = map box_of s.seats.items in
      let at_t = holder_there s.tasks.items t slot at.there in
      let at_r = thing_there s.requests.items k r by.request in
      let at_box = box_there s.seats.items j chair wants.there in
      let room = cancel_place (hands_of (with_worker has.others w)) s.config.workers hs ts naps boxes k (thing_of r) at_r wants.few (box_of chair) at_box wants.open_box has.whole.holding wants.held in
      let posts : Posts w.index j s.seats.items s'.seats.items chair chair' = record { other = by.other; there = wants.there; set = set; spares = open_spares (CancelRequest k) (cancels_request k) chair wants.open_box room; queue = refl } in
      let mid_sleepers : mid.sleepers ≡ s.sleepers = ap (λ (y : Shared B). y.sleepers) by.kept in
      let mid_requests : mid.requests ≡ s.requests = ap (λ (y : Shared B). y.requests) by.kept in
      let midkept : mid ≡ record s { tasks = mid.tasks; requests = mid.requests; sleepers = mid.sleepers } = by.kept ∙ ap (λ y. record s { tasks = mid.tasks; sleepers = y }) (sym mid_sleepers) ∙ ap (λ y. record s { tasks = mid.tasks; requests = y; sleepers = mid.sleepers }) (sym mid_requests) in
      let touches : Touches s (record s { requests = mid.requests; sleepers = mid.sleepers }) = subst (λ y. Touches s (record s { requests = mid.requests; sleepers = y })) (sym mid_sleepers) (subst (λ y. Touches s (record s { requests = y })) (sym mid_requests) (touches_none s)) in
      let to : Dealt InPoll.Act w.index slot slot' mid.requests.items mid.sleepers.items = drops_deals w.index slot slot' b' mid by.waits by.so in
      let worker : w' ≡ record w { place = led_to t InPoll.Act b j (asks_if_sent (CancelRequest k) chair.mailbox) } = by.sends.worker chair mid_there ∙ ap (λ q. record w { place = q }) (leads_to t InPoll.Act b (leads_on t) mid.config j (asks_if_sent (CancelRequest k) chair.mailbox) (desk_of w)) in
      let event : e ≡ Send j (CancelRequest k) = by.sends.event chair mid_there ∙ ap (λ c. if c then Closed else Send j (CancelRequest k)) wants.open_box in
      let all : s' ≡ record s { tasks = mid.tasks; seats = s'.seats } = by.sends.kept ∙ ap (λ (y : Shared B). record y { seats = s'.seats }) by.kept in
      let same_holders : map holder_of mid.tasks.items ≡ slice_set hs t (holder_of slot') = ap (map holder_of) by.tasks ∙ holders_one s.tasks.items t slot' in
      let same_boxes : map box_of s'.seats.items ≡ slice_set boxes j (box_of chair') = ap (map box_of) set ∙ map-set box_of s.seats.items j chair' in
      let took = by.so.took in
      let held : (others : Profile) → Holds (with_worker others w) s → Holds (with_worker others w) s' = λ others old.
      let h = hands_of (with_worker others w) in
      let mail : Message Subject Subject = Message.Cancel (Subject.Request k) in
      let about : IsAbout s.config.workers j mail ts naps = (thing_of r, at_r, refl, wants.few) in
      let once = is_once mail in
      let others_mail : (m : Mail) → m ≢ mail → (with_mail mail h).mail m ≡ h.mail m = λ m apart. same_else h mail m apart in
      let one_more : (with_mail mail h).mail mail ≡ h.mail mail + 1 = omega (arith, once) in
      let newest = subst (IsNewest k slot.held.items) (sym by.so.held) (newest_split slot.held.items k by.newest) in
      let told : IsHolding (with_mail mail h) s.config.workers (slice_set hs t (holder_of slot')) ts naps boxes =
      thing_told h (with_mail mail h) s.config.workers hs ts naps boxes t k (holder_of slot) (holder_of slot') (thing_of r)
      (assumption (at_t, at_r, newest, ap holder_of took, going_on slot.cell.phase at.polled, ap awaited_in by.waits, others_mail, one_more, made_with h s.config.workers ts naps mail j about old.made)) old in
      let there : IsHolding h s.config.workers (slice_set hs t (holder_of slot')) ts naps (slice_set boxes j (box_of chair')) =
      posted h s.config.workers (slice_set hs t (holder_of slot')) ts naps boxes j mail (box_of chair) at_box about told in
      subst (Holds (with_worker others w)) (sym all)
      (subst (λ xs. IsHolding h s.config.workers xs ts naps (map box_of s'.seats.items)) (sym same_holders)
      (subst (λ xs. IsHolding h s.config.workers (slice_set hs t (holder_of slot')) ts naps xs) (sym same_boxes) there)) in
      let leaves = asked_leaves InPoll.Act InPoll.Act b t j (CancelRequest k) (cancels_request k) w s mid s' slot' chair wants.open_box (from_act t) (to_act t) (leads_on t) sound at midkept by.tasks by.sends.kept posts touches to held in
      grind arith

module _ {B L : Type 0} (left : B → L) (runs : L → Plan → Option ℕ → Type 0) (holds : L → Option Said → List ℕ) (spot : L → Option Said → Spot) (gives : L → Option Sight → Said → Act B → L → Option Sight → Type 0) (answered : IsAnswered spot) where
  -- WHAT THE MACHINE AND THE MOVES MAKE OF IT
  tells_works : (t k : ℕ) (w w' : Worker) (s mid s' : Shared B) (e : Event) (slot slot' : TaskSlot B) (b' : B) (r : Record) → w.place ≡ Place.Poll t InPoll.Act → TellsWorker t k w w' s mid s' e slot slot' b' r → (told : WorkerTold t k w w' s mid s' e slot' r) → (p : Plan) (vs : Views) → Suits p vs w s
      → next_word (common_of left spot p vs s) (task_seen left spot slot) ≡ ScriptWord.Drop → task_seen left spot slot' ≡ after_letting_go (common_of left spot p vs s) (task_seen left spot slot)
      → Works left spot p vs w s (Send r.shown.worker (CancelRequest k)) (record w { place = led_to t InPoll.Act (AfterSend.Act t) r.shown.worker (asks_if_sent (CancelRequest k) told.chair.mailbox) }) s'
  tells_works t k w w' s mid s' e slot slot' b' r here by told p vs suits word seen =
      let j : ℕ = r.shown.worker in
      let b : AfterSend = AfterSend.Act t in
      let all = common_of left spot p vs s in
      let d = desk_of (record w { place = Place.Poll t InPoll.Act }) in
      let me = me_at t w in
      let x = things_with vs s in
      let y : Task = task_seen left spot slot in
      let chair = told.chair in
      let it : task_of all t ≡ y = task_there left spot s.tasks.items t slot by.there in
      let request : request_of all k ≡ r.shown = request_at s.requests.items k r by.request in
      let apart : (j == w.index) ≡ false = not_same j w.index by.other in
      let viewed = there_within vs.workers j (omega (arith, slice_get_within s.seats.items j chair told.posts.there, suits.workers)) in
      let seat : seat_of all j ≡ seat_seen viewed.0 chair = get_or_from_slice_get (seats_seen vs.workers s.seats.items) j (seat_seen viewed.0 chair) no_seat (seat_there vs.workers s.seats.items j viewed.0 chair viewed.1 told.posts.there) in
      let tasks : map (task_seen left spot) mid.tasks.items ≡ slice_set all.tasks t (after_letting_go all (task_of all t)) =
      ap (map (task_seen left spot)) by.tasks ∙ map-set (task_seen left spot) s.tasks.items t slot' ∙ ap (slice_set all.tasks t) (seen ∙ ap (after_letting_go all) (sym it)) in
      let finds : Bool → Moved Things = λ m. move_look_at p.config all d x t b (aside x (does (Drop k) (acts_on t (told_of_drop k r.shown d)) y)) (if m then Here else Asks j (CancelRequest k)) in
      let drops_it : (acts me all asks_drop && is_number k (newest_held (task_of all t)) && not ((request_of all k).worker == w.index)) ≡ true = grind (arith, it, by.newest, request, apart, acts_so, eq-eqb) in
      asked_works left spot InPoll.Act InPoll.Act b t j (CancelRequest k) (cancels_request k) w s mid s' chair told.open_box (leads_on t) (to_act t) here (ap (λ (z : Shared B). z.seats) by.kept) (ap (λ (z : Shared B). z.global) by.kept) by.sends.kept told.posts p vs suits
      (drop_looks left spot t k p w s vs slot r by.there word by.newest by.request ∙ ap finds apart) (
        or_right (is_first_owed me j (CancelRequest k)) (acts me all asks_drop && is_number k (newest_held (task_of all t)) && not ((request_of all k).worker == w.index)) drops_it,
        (ap (λ q. q.worker == j) request ∙ eq-eqb j j refl, (ap (λ z. not z.mailbox_closed) seat ∙ ap not told.open_box, tt)),
      )
      (own_there (asks_if_sent (CancelRequest k) chair.mailbox))
      refl
      (ap (λ zs. record all { tasks = zs; seats = slice_set all.seats j (seat_posted (CancelRequest k) (seat_of all j)) }) (sym tasks)
      ∙ ap (λ (z : Shared B). record (common_of left spot p vs z) { seats = slice_set all.seats j (seat_posted (CancelRequest k) (seat_of all j)) }) (sym by.kept))
      (ap (things_with vs) by.kept)
    where
      own_there : (asks : Bool) → own_of (record w { place = led_to t InPoll.Act (AfterSend.Act t) r.shown.worker asks }) ≡ own_of (record w { place = Place.Poll t InPoll.Act })
      own_there true = refl
      own_there false = refl

  -- THE WHOLE STEP
  pub drops_elsewhere : (t k : ℕ) (w w' : Worker) (s s1 s' : Shared B) (e : Event) (r : Record) → (h : HasActed left runs holds spot gives t w s s1 (Act.Drop k)) → HasWhole w s → newest_of h.made.slot ≡ Some k → slice_get s.requests.items k ≡ Some r → r.shown.worker ≢ w.index
      → DropsElsewhere t k r.shown.worker w w' s1 s' e → StepsOf left runs holds spot w s e w' s'
  drops_elsewhere t k w w' s s1 s' e r h has newest at_r other does_it =
      let sound = h.sound in
      let m = h.made in
      let slot = m.slot in
      let b' = m.acts.body' in
      let by_it : IsActor left runs holds spot gives t w slot = actor left runs holds spot gives t w s s1 (Act.Drop k) h in
      let it : IsHere InPoll.Act t w s = polled_here InPoll.Act t w s sound refl in
      let is : slot ≡ it.slot = same_Some slot it.slot (sym m.there ∙ it.there) in
      let f = does_it.forgets in
      let mid = does_it.middle in
      let so = drops_so t s s1 mid slot m.slot' b' m.there m.acts.slot m.tasks f in
      let slot' = f.slot' in
      let midkept : mid ≡ record s { tasks = mid.tasks } = f.kept ∙ ap (λ (z : Shared B). record z { tasks = mid.tasks }) m.kept in
      let by : TellsWorker t k w w' s mid s' e slot slot' b' r = assumption (m, newest, by_it, at_r, other, so.0, midkept, so.1, does_it) in
      let told = worker_told t k w w' s mid s' e slot' b' r sound has it (subst (λ o. TellsWorker t k w w' s mid s' e o slot' b' r) is by) in
      let w1 : Worker = record w { place = led_to t InPoll.Act (AfterSend.Act t) r.shown.worker (asks_if_sent (CancelRequest k) told.chair.mailbox) } in
      let done : StepsOf left runs holds spot w s (Send r.shown.worker (CancelRequest k)) w1 s' = (
        (λ p vs suits fits.
            let does_so = h.asks p vs (fits t slot m.there) in
            tells_works t k w w' s mid s' e slot slot' b' r sound.here by told p vs suits does_so.asks.0 (let_go_seen left runs holds spot gives answered (common_of left spot p vs s) slot slot' b' so.0 by_it.polled does_so.stands)),
        told.sound,
        still_performs left runs holds t w w1 s s' slot slot' m.there told.items refl (ap (λ (z : Shared B). z.config) by.sends.kept ∙ ap (λ (z : Shared B). z.config) midkept)
            (drops_perform left runs holds spot gives answered t k w w1 s s1 s' slot' h by_it.polled by_it.waits so.0),
        told.beside,
      ) in
      subst (λ v. StepsOf left runs holds spot w s e v s') (sym told.worker) (subst (λ y. StepsOf left runs holds spot w s y w1 s') (sym told.event) done)
