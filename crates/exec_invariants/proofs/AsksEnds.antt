-- A POLLED TASK ASKS for the end of its sleeper that another worker has.
use Rattle.exec_invariants.{proofs.{Names.{◌≡◌, ◌≢◌, ◌⊎◌, inl, inr, ℕ, ◌<◌, ◌==◌, Bool, true, false, not, map, Option, Some, None, refl, sym, ap, subst, ◌∙◌, arith, slice_get, slice_set, option_map, if◌then◌else◌, false≢true, eq-eqb, map-set, get_or_from_slice_get, slice_get-map, slice_get_within, Message, Said, Event, Shut as Closed, GotTimer, Send, Forwarding, ForwardSent as Forwarded, Unsent, ForwardTimer, Waiting, seat_posted, Plan, is_unsent, waits_for_timer, Task, no_seat, seat_of, sleeper_of, task_of, AfterSend, InPoll, Place, move_look_at, Asks, HearsTimer, acts_on, pend, resume, sight_by, seen_of as sight_of, Moved, Things, does, aside, Subject, Chair, Shared, SleeperRecord, TaskSlot, Worker, sleeper_forwarded, AsksEnd, Sends, asks_if_sent, chair_sent, Spot, Views, common_of, desk_of, numbers_of_passing, own_of, seat_seen, seats_seen, task_seen, things_with, by_number, false_from_ne_true, not_same, same_Some, set_there}, AskBoxes.{asks_place, box_there, nap_asked, pool_open}, Here.IsHere, HoldBeside.Holds, HoldPosts.{posted, with_mail}, HoldThings.{Touches, touches_sleeper}, LetterPosts.{chair_open, forwards_timer, open_spares, sent_open}, Lined.passing_same, Polling.home_mine, Seats.seat_there, Seen.sleeper_at, Slots.task_there, SparedRecord.there_within, TaskAsks.{Posts, asked, asked_works, led_to, leads_to, to_pend}, TaskDeals.{Dealt, ends as to_end, from_look}, TaskHears.hears_same, TaskTakes.{holder_there, nap_there}, Turning.set_found}, specs.{Holding.{Holder, IsAbout, IsHolding, IsOrdinary, MayHave, awaited_in, box_of, holder_of, nap_of, thing_of}, Sound.{MayStop, SoundAt}, Spares.SparesSleeper, Whole.{HasWhole, Profile, hands_of, with_worker}, Works.{Steps, Suits, Works}}}

pub is_unsent_so : (f : Forwarding) → is_unsent f ≡ true → f ≡ Unsent
is_unsent_so = grind arith

module _ {B : Type 0} where
  -- who waits for a sleeper elsewhere is an ordinary task, and its worker is of the pool
  pub record AsksWhom (t z : ℕ) (w : Worker) (s : Shared B) (slot : TaskSlot B) (it : SleeperRecord) : Type 0 where
    pub ordinary : slot.home ≡ None
    pub few : it.shown.worker < s.config.workers
    pub task : it.shown.task ≡ t
    pub silent : it.sent ≡ false
    pub chair : Chair
    pub there : slice_get s.seats.items it.shown.worker ≡ Some chair
    pub open_box : chair.mailbox.inbox.closed ≡ false

  pub asks_whom : (t z : ℕ) (w : Worker) (s : Shared B) (it : SleeperRecord) → (sound : SoundAt (Place.Poll t InPoll.Resume) w s) → HasWhole w s → (at : IsHere InPoll.Resume t w s) → at.slot.waiting ≡ Waiting.Timer z → slice_get s.sleepers.items z ≡ Some it → is_unsent it.shown.forwarding ≡ true → it.shown.worker ≢ w.index
      → AsksWhom t z w s at.slot it
  asks_whom t z w s it sound has at waits at_z unsent other =
      let here_or_none : IsHere InPoll.Resume t w s → (at.slot.home ≡ Some w.index) ⊎ (at.slot.home ≡ None) = λ h. by_number t w.root (λ apart. inr (at.ordinary apart).1) (λ own. inl (at.root own).1) in
      let slot = at.slot in
      let holding = has.whole.holding in
      let asleep = holding.asleep t (holder_of slot) z (holder_there s.tasks.items t slot at.there) (ap awaited_in waits) in
      let is : asleep.0 ≡ nap_of it = same_Some asleep.0 (nap_of it) (sym asleep.1 ∙ nap_there s.sleepers.items z it at_z) in
      let near : MayHave s.config.workers slot.home it.shown.worker = subst (λ x. MayHave s.config.workers slot.home x.worker) is asleep.2.near in
      let ordinary : slot.home ≡ None = none_of slot.home near (λ k home. home_mine w.index slot.home (here_or_none at) k home) in
      let few : it.shown.worker < s.config.workers = subst (λ h. MayHave s.config.workers h it.shown.worker) ordinary near in
      let chair = there_within s.seats.items it.shown.worker (omega (arith, few, sound.seated.many)) in
      record {
        ordinary = ordinary;
        few = few;
        task = ap (λ x. x.task) (sym is) ∙ asleep.2.task;
        silent = false_from_ne_true it.sent (λ sent. let applied = (holding.sent_too z (nap_of it) (nap_there s.sleepers.items z it at_z) sent).0 in false≢true (sym (ap is_unsent applied) ∙ unsent));
        chair = chair.0;
        there = chair.1;
        open_box = pool_open t InPoll.Resume w s slot sound has at.there ordinary it.shown.worker chair.0 chair.1 few;
      }
    where
      none_of : (home : Option ℕ) → MayHave s.config.workers home it.shown.worker → ((k : ℕ) → home ≡ Some k → k ≡ w.index) → home ≡ None
      none_of None near mine = refl
      none_of (Some k) near mine = absurd (other (near ∙ mine k refl))

module _ {B L : Type 0} (left : B → L) (spot : L → Option Said → Spot) where
  -- the move, and what the machine makes of that
  end_works : (t z : ℕ) (w : Worker) (s mid s' : Shared B) (slot : TaskSlot B) (it : SleeperRecord) (chair : Chair) (open_box : chair.mailbox.inbox.closed ≡ false) → w.place ≡ Place.Poll t InPoll.Resume → slice_get s.tasks.items t ≡ Some slot → slot.waiting ≡ Waiting.Timer z → slice_get s.sleepers.items z ≡ Some it
      → is_unsent it.shown.forwarding ≡ true → it.shown.worker ≢ w.index → mid ≡ record s { sleepers = mid.sleepers } → mid.sleepers.items ≡ slice_set s.sleepers.items z (sleeper_forwarded it)
      → s' ≡ record mid { seats = s'.seats } → Posts w.index it.shown.worker s.seats.items s'.seats.items chair (chair_open (ForwardTimer z) (forwards_timer z) chair open_box) → (p : Plan) (vs : Views) → Suits p vs w s
      → Works left spot p vs w s (Send it.shown.worker (ForwardTimer z)) (record w { place = led_to t InPoll.Pend (AfterSend.Pend t) it.shown.worker (asks_if_sent (ForwardTimer z) chair.mailbox) }) s'
  end_works t z w s mid s' slot it chair open_box here there waits at_z unsent other midkept sleepers kept posts p vs suits =
      let j : ℕ = it.shown.worker in
      let all = common_of left spot p vs s in
      let d = desk_of (record w { place = Place.Poll t InPoll.Resume }) in
      let x = things_with vs s in
      let b : AfterSend = AfterSend.Pend t in
      let seen : task_of all t ≡ task_seen left spot slot = task_there left spot s.tasks.items t slot there in
      let sleeper : sleeper_of all z ≡ it.shown = sleeper_at s.sleepers.items z it at_z in
      let apart : (j == w.index) ≡ false = not_same j w.index other in
      let asleep : Task = record (task_seen left spot slot) { waiting = Waiting.Timer z } in
      let looks : Task → Moved Things = λ y. move_look_at p.config all d x t b (aside x (resume w.index t all d y)) (sight_of w.index all y.waiting) in
      let finds : Bool → Bool → Moved Things = λ u m. move_look_at p.config all d x t b (aside x (if it.shown.fired then does (GotTimer z) (acts_on t d) asleep else pend w.index t all d asleep)) (sight_by u m (Asks j (ForwardTimer z)) (HearsTimer z)) in
      let viewed = there_within vs.workers j (omega (arith, slice_get_within s.seats.items j chair posts.there, suits.workers)) in
      let seat : seat_of all j ≡ seat_seen viewed.0 chair = get_or_from_slice_get (seats_seen vs.workers s.seats.items) j (seat_seen viewed.0 chair) no_seat (seat_there vs.workers s.seats.items j viewed.0 chair viewed.1 posts.there) in
      let shown : map (λ (y : SleeperRecord). y.shown) mid.sleepers.items ≡ slice_set all.sleepers z (record (sleeper_of all z) { forwarding = Forwarded }) =
      ap (map (λ (y : SleeperRecord). y.shown)) sleepers ∙ map-set (λ (y : SleeperRecord). y.shown) s.sleepers.items z (sleeper_forwarded it) ∙ ap (λ y. slice_set all.sleepers z (record y { forwarding = Forwarded })) (sym sleeper) in
      let alarms : numbers_of_passing (λ (y : SleeperRecord). y.sent) 0 mid.sleepers.items ≡ x.alarms =
      passing_same (λ (y : SleeperRecord). y.sent) s.sleepers.items mid.sleepers.items (ap (map (λ (y : SleeperRecord). y.sent)) sleepers ∙ map-set (λ (y : SleeperRecord). y.sent) s.sleepers.items z (sleeper_forwarded it) ∙ set_found (map (λ (y : SleeperRecord). y.sent) s.sleepers.items) z it.sent (slice_get-map (λ (y : SleeperRecord). y.sent) s.sleepers.items z ∙ ap (option_map (λ (y : SleeperRecord). y.sent)) at_z)) in
      asked_works left spot InPoll.Resume InPoll.Pend b t j (ForwardTimer z) (forwards_timer z) w s mid s' chair open_box (to_pend t) (to_end t) here (ap (λ (y : Shared B). y.seats) midkept) (ap (λ (y : Shared B). y.global) midkept) kept posts p vs suits
      (ap looks seen ∙ ap (λ u. looks (record (task_seen left spot slot) { waiting = u })) waits
      ∙ ap (λ y. move_look_at p.config all d x t b (aside x (if y.fired then does (GotTimer z) (acts_on t d) asleep else pend w.index t all d asleep)) (sight_by (is_unsent y.forwarding) (y.worker == w.index) (Asks y.worker (ForwardTimer z)) (HearsTimer z))) sleeper
      ∙ ap (λ u. finds u (j == w.index)) unsent ∙ ap (finds true) apart) (
        ap (waits_for_timer z) (ap (λ y. y.waiting) seen ∙ waits) ∙ eq-eqb z z refl,
        (ap (λ y. y.worker == j) sleeper ∙ eq-eqb j j refl, (ap not apart, (ap (λ y. is_unsent y.forwarding) sleeper ∙ unsent, (ap (λ y. not y.mailbox_closed) seat ∙ ap not open_box, tt)))),
      )
      (own_there (asks_if_sent (ForwardTimer z) chair.mailbox)) refl
      (ap (λ zs. record all { sleepers = zs; seats = slice_set all.seats j (seat_posted (ForwardTimer z) (seat_of all j)) }) (sym shown)
      ∙ ap (λ (y : Shared B). record (common_of left spot p vs y) { seats = slice_set all.seats j (seat_posted (ForwardTimer z) (seat_of all j)) }) (sym midkept))
      (ap (things_with vs) midkept ∙ ap (λ ns. record x { alarms = ns }) alarms)
    where
      own_there : (asks : Bool) → own_of (record w { place = led_to t InPoll.Pend (AfterSend.Pend t) it.shown.worker asks }) ≡ own_of (record w { place = Place.Poll t InPoll.Resume })
      own_there true = refl
      own_there false = refl

  -- THE WHOLE STEP
  pub end_asked : (t z : ℕ) (w w' : Worker) (s s' : Shared B) (e : Event) (it : SleeperRecord) → (sound : SoundAt (Place.Poll t InPoll.Resume) w s) → HasWhole w s → (at : IsHere InPoll.Resume t w s) → at.slot.waiting ≡ Waiting.Timer z → slice_get s.sleepers.items z ≡ Some it → is_unsent it.shown.forwarding ≡ true → it.shown.worker ≢ w.index
      → AsksEnd t z w w' s s' e → Steps left spot w s e w' s'
  end_asked t z w w' s s' e it sound has at waits at_z unsent other by =
      let slot = at.slot in
      let b : AfterSend = AfterSend.Pend t in
      let whom = asks_whom t z w s it sound has at waits at_z unsent other in
      let j : ℕ = it.shown.worker in
      let chair = whom.chair in
      let same_it : by.it ≡ it = same_Some by.it it (sym by.sleeper ∙ at_z) in
      let mid = by.middle in
      let sleepers : mid.sleepers.items ≡ slice_set s.sleepers.items z (sleeper_forwarded it) = by.sleepers ∙ ap (λ y. slice_set s.sleepers.items z (sleeper_forwarded y)) same_it in
      let sends : Sends j (ForwardTimer z) b w w' mid s' e = subst (λ (y : SleeperRecord). Sends y.shown.worker (ForwardTimer z) b w w' mid s' e) same_it by.sends in
      let mid_there : slice_get mid.seats.items j ≡ Some chair = ap (λ (y : Shared B). slice_get y.seats.items j) by.kept ∙ whom.there in
      let chair' : Chair = chair_open (ForwardTimer z) (forwards_timer z) chair whom.open_box in
      let set : s'.seats.items ≡ slice_set s.seats.items j chair' = sends.chair chair mid_there ∙ ap (λ (y : Shared B). slice_set y.seats.items j (chair_sent (ForwardTimer z) chair)) by.kept ∙ ap (slice_set s.seats.items j) (sent_open (ForwardTimer z) (forwards_timer z) chair whom.open_box) in
      let ts = map thing_of s.requests.items in
      let naps = map nap_of s.sleepers.items in
      let hs = map holder_of s.tasks.items in
      let boxes = map box_of s.seats.items in
      let at_nap = nap_there s.sleepers.items z it at_z in
      let at_box = box_there s.seats.items j chair whom.there in
      let room = asks_place (hands_of (with_worker has.others w)) s.config.workers hs ts naps boxes z (nap_of it) at_nap unsent whom.few (box_of chair) at_box whom.open_box has.whole.holding in
      let posts : Posts w.index j s.seats.items s'.seats.items chair chair' = record { other = other; there = whom.there; set = set; spares = open_spares (ForwardTimer z) (forwards_timer z) chair whom.open_box room; queue = refl } in
      let spares : SparesSleeper it (sleeper_forwarded it) = record { kept = refl; forwarding = inr (is_unsent_so it.shown.forwarding unsent, refl) } in
      let mid_tasks : mid.tasks ≡ s.tasks = ap (λ (y : Shared B). y.tasks) by.kept in
      let mid_requests : mid.requests ≡ s.requests = ap (λ (y : Shared B). y.requests) by.kept in
      let midkept : mid ≡ record s { tasks = mid.tasks; requests = mid.requests; sleepers = mid.sleepers } = by.kept ∙ ap (λ y. record s { tasks = y; requests = s.requests; sleepers = mid.sleepers }) (sym mid_tasks) ∙ ap (λ y. record s { tasks = mid.tasks; requests = y; sleepers = mid.sleepers }) (sym mid_requests) in
      let items : mid.tasks.items ≡ slice_set s.tasks.items t slot = ap (λ y. y.items) mid_tasks ∙ sym (set_found s.tasks.items t slot at.there) in
      let touches : Touches s (record s { requests = mid.requests; sleepers = mid.sleepers }) = subst (λ y. Touches s (record s { requests = y; sleepers = mid.sleepers })) (sym mid_requests) (touches_sleeper s mid z it (sleeper_forwarded it) at_z spares sleepers) in
      let stop : MayStop w.index (Waiting.Timer z) mid.requests.items mid.sleepers.items = (sleeper_forwarded it, ap (λ zs. slice_get zs z) sleepers ∙ set_there s.sleepers.items z (sleeper_forwarded it) it at_z, inl refl) in
      let to : Dealt InPoll.Pend w.index slot slot mid.requests.items mid.sleepers.items = grind arith in
      let worker : w' ≡ record w { place = led_to t InPoll.Pend b j (asks_if_sent (ForwardTimer z) chair.mailbox) } = sends.worker chair mid_there ∙ ap (λ q. record w { place = q }) (leads_to t InPoll.Pend b (to_pend t) mid.config j (asks_if_sent (ForwardTimer z) chair.mailbox) (desk_of w)) in
      let held : (others : Profile) → Holds (with_worker others w) s → Holds (with_worker others w) s' = λ others old.
      let h = hands_of (with_worker others w) in
      let ordinary : IsOrdinary it.shown.task hs = subst (λ u. IsOrdinary u hs) (sym whom.task) (record { it = holder_of slot; there = holder_there s.tasks.items t slot at.there; home = whom.ordinary }) in
      let homes : (u : ℕ) (o : Holder) → slice_get hs u ≡ Some o → o.awaits ≡ Some (Subject.Timer z) → o.home ≡ None = λ u o at_u awaits.
      let asleep = old.asleep u o z at_u awaits in
      let mine : t ≡ u = sym whom.task ∙ ap (λ x. x.task) (sym (same_Some asleep.0 (nap_of it) (sym asleep.1 ∙ at_nap))) ∙ asleep.2.task in
      ap (λ (y : Holder). y.home) (same_Some o (holder_of slot) (sym at_u ∙ ap (slice_get hs) (sym mine) ∙ holder_there s.tasks.items t slot at.there)) ∙ whom.ordinary in
      let naps' = slice_set naps z (nap_of (sleeper_forwarded it)) in
      let asked_for : IsHolding (with_mail (Message.Forward (Subject.Timer z)) h) s.config.workers hs ts naps' boxes = nap_asked h s.config.workers hs ts naps boxes z (nap_of it) at_nap unsent whom.silent whom.few ordinary homes old in
      let about : IsAbout s.config.workers j (Message.Forward (Subject.Timer z)) ts naps' = (nap_of (sleeper_forwarded it), set_there naps z (nap_of (sleeper_forwarded it)) (nap_of it) at_nap, refl, whom.few) in
      let there : IsHolding h s.config.workers hs ts naps' (slice_set boxes j (box_of chair')) = posted h s.config.workers hs ts naps' boxes j (Message.Forward (Subject.Timer z)) (box_of chair) at_box about asked_for in
      let same_naps : map nap_of mid.sleepers.items ≡ naps' = ap (map nap_of) sleepers ∙ map-set nap_of s.sleepers.items z (sleeper_forwarded it) in
      let same_boxes : map box_of s'.seats.items ≡ slice_set boxes j (box_of chair') = ap (map box_of) set ∙ map-set box_of s.seats.items j chair' in
      subst (Holds (with_worker others w)) (sym (sends.kept ∙ ap (λ (y : Shared B). record y { seats = s'.seats }) by.kept))
      (subst (λ xs. IsHolding h s.config.workers hs ts xs (map box_of s'.seats.items)) (sym same_naps) (subst (λ xs. IsHolding h s.config.workers hs ts naps' xs) (sym same_boxes) there)) in
      let done : Steps left spot w s (Send j (ForwardTimer z)) w' s' =
      asked left spot InPoll.Resume InPoll.Pend b t j (ForwardTimer z) (forwards_timer z) w w' s mid s' (Send j (ForwardTimer z)) slot chair whom.open_box (from_look t) (to_end t) (to_pend t) sound at worker midkept items sends.kept posts touches to (hears_same slot) held
      (λ p vs suits. end_works t z w s mid s' slot it chair whom.open_box sound.here at.there waits at_z unsent other by.kept sleepers sends.kept posts p vs suits) in
      subst (λ y. Steps left spot w s y w' s') (sym (sends.event chair mid_there ∙ ap (λ c. if c then Closed else Send j (ForwardTimer z)) whom.open_box)) done
