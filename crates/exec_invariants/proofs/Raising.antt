-- A step that first takes in the wakes which wait at its worker's seat is to the machine what the rest of it is: the machine's
-- wake poll is the ring's with those raised.
use Rattle.exec_invariants.{specs.{Raises.TakesRaises, Submitting.must_flush, Holding.box_of, Places.is_armed_at, Sound.{Aims, AreHome, HasQueue, IsSeated, Sound, SoundAt}, Spares.Spares, Works.{Beside, Works, Suits, Steps}}, proofs.{Words.{◌≡◌, ◌≢◌, ℕ, zero, suc, ◌+◌, ◌*◌, ◌≤◌, false, List, [], ◌∷◌, length, map, Option, Some, refl, sym, ap, subst, ◌∙◌, arith, slice_get, slice_set, length-set, get_or_from_slice_get, Driving, ListsRequests, Said, Configuration, Event, Rest, AllTrue, allowed, own_after, common_after, Plan, Common, Own, Place, move, Moved, Things, no_wake_poll, wake_poll_of, set_wake_poll, Reply, Chair, Shared, Worker, IsPhased, closes_at, closing_in, stage_of, with_raises, Spot, Views, Visible, visible, with_view, driver_of, own_of, desk_of, common_of, inbox_at, polls_seen, queue_at, raised_times, seat_seen, seats_seen, things_with, word_at, by_number, set_elsewhere, set_there}, Showing.{map_kept, polls_kept}, Aside.{SameProfile, beside_calm, queues_set, seats_own}, PoolKept.gates_set, Ringed.{SameIn, sound_ring}, Shown.{own_with, desk_with}, Swept.{RaisesTo, raises_to}, HandedOver.seats_both, Rousing.poll_there}}

-- WHAT TWO CHANGES AT ONE PLACE SHOW

polls_taken : (vs : List Visible) (seats : List Chair) (i : ℕ) (v v' : Visible) (chair chair' : Chair) → slice_get vs i ≡ Some v → slice_get seats i ≡ Some chair → raised_times chair'.raised v'.wakes ≡ raised_times chair.raised v.wakes
    → polls_seen (slice_set vs i v') (slice_set seats i chair') ≡ polls_seen vs seats
polls_taken [] seats i v v' chair chair' seen there same = absurd (cc)
polls_taken (x ∷ vs) [] i v v' chair chair' seen there same = absurd (cc)
polls_taken (x ∷ vs) (seat ∷ seats) zero v v' chair chair' seen there same = grind arith
polls_taken (x ∷ vs) (seat ∷ seats) (suc i) v v' chair chair' seen there same = ap (λ ps. raised_times seat.raised x.wakes ∷ ps) (polls_taken vs seats i v v' chair chair' seen there same)

-- a view that shows the same of a seat
pub views_kept : (vs : List Visible) (seats : List Chair) (i : ℕ) (v v' : Visible) → slice_get vs i ≡ Some v → ((c : Chair) → seat_seen v' c ≡ seat_seen v c) → seats_seen (slice_set vs i v') seats ≡ seats_seen vs seats
views_kept [] seats i v v' seen same = absurd (cc)
views_kept (x ∷ vs) [] zero v v' seen same = refl
views_kept (x ∷ vs) [] (suc i) v v' seen same = refl
views_kept (x ∷ vs) (seat ∷ seats) zero v v' seen same = grind arith
views_kept (x ∷ vs) (seat ∷ seats) (suc i) v v' seen same = ap (λ ys. seat_seen x seat ∷ ys) (views_kept vs seats i v v' seen same)

pub set_twice : {A : Type 0} (xs : List A) (i : ℕ) (x y : A) → slice_set (slice_set xs i x) i y ≡ slice_set xs i y
set_twice [] i x y = refl
set_twice (z ∷ zs) zero x y = refl
set_twice (z ∷ zs) (suc i) x y = ap (λ us. z ∷ us) (set_twice zs i x y)

pub view_twice : (vs : Views) (i : ℕ) (v v' : Visible) → with_view (with_view vs i v) i v' ≡ with_view vs i v'
view_twice vs i v v' = ap (λ us. record vs { workers = us }) (set_twice vs.workers i v v')

-- what is made of the same is the same
same_made : {T : Type 0} {i i' : ℕ} {o o' : Own} {c c' : Common} → i' ≡ i → o' ≡ o → c' ≡ c → (f : ℕ → Own → Common → T) → f i' o' c' ≡ f i o c
same_made {T} {i} {i'} {o} {o'} {c} {c'} index own common f = ap (λ x. f x o' c') index ∙ ap (λ x. f i x c') own ∙ ap (f i o) common

-- A PLACE LOOKS AT OTHER WORKERS' SEATS ALONE

aims_kept : (p : Place) (c : Configuration) (i : ℕ) (seats seats' : List Chair) → length seats' ≡ length seats → ((j : ℕ) → j ≢ i → slice_get seats' j ≡ slice_get seats j) → Aims p c i seats → Aims p c i seats'
aims_kept = grind arith

module _ {B : Type 0} where
  -- what holds again, where its worker rests otherwise, and another number of wakes waits there
  pub seat_kept : (q : Place) (w : Worker) (s s' : Shared B) → (sound : SoundAt q w s) → (x : Rest) (n : ℕ) → s' ≡ record s { seats = s'.seats } → s'.seats.items ≡ slice_set s.seats.items w.index (record sound.seated.seat { rest = x; raised = n }) → SoundAt q w s'
  seat_kept q w s s' sound x n shared set =
      let chair = sound.seated.seat in
      let there = sound.seated.there in
      let chair' : Chair = record chair { rest = x; raised = n } in
      let s1 : Shared B = record s { seats = s'.seats } in
      let found : slice_get s'.seats.items w.index ≡ Some chair' = ap (λ xs. slice_get xs w.index) set ∙ set_there s.seats.items w.index chair' chair there in
      let many : length s'.seats.items ≡ length s.seats.items = ap length set ∙ length-set s.seats.items w.index chair' in
      let seated : IsSeated w.index (is_armed_at q) s.config.workers s'.seats.items =
      record { many = subst (λ n. s.config.workers ≤ n) (sym many) sound.seated.many; seat = chair'; there = found; pool = sound.seated.pool; unarmed = sound.seated.unarmed; mail = assumption sound.seated.mail } in
      let queue : (c : Chair) → slice_get s'.seats.items w.index ≡ Some c → HasQueue q c.queue =
      λ c at. let is : chair' ≡ c = cc (found, at) in subst (λ y. HasQueue q y.queue) is (sound.queue chair there) in
      let aims : Aims q s.config w.index s'.seats.items =
      aims_kept q s.config w.index s.seats.items s'.seats.items many (λ j other. ap (λ xs. slice_get xs j) set ∙ set_elsewhere s.seats.items w.index j chair' other) sound.aims in
      let phased : (c : Chair) → slice_get s'.seats.items w.index ≡ Some c → IsPhased w.index (closes_at q) (closing_in q) w.home.closing w.root w.names.unreleased (stage_of c s) s.tasks.items =
      λ c at. let is : chair' ≡ c = cc (found, at) in subst (λ y. IsPhased w.index (closes_at q) (closing_in q) w.home.closing w.root w.names.unreleased (stage_of y s) s.tasks.items) is (sound.phased chair there) in
      let place : (c : Chair) → slice_get s'.seats.items w.index ≡ Some c → c.mailbox.inbox.closed ≡ false → 2 * c.made + 1 ≤ w.batch.places =
      λ c at. let is : chair' ≡ c = cc (found, at) in subst (λ (y : Chair). y.mailbox.inbox.closed ≡ false → 2 * y.made + 1 ≤ w.batch.places) is (sound.batch_place chair there) in
      subst (SoundAt q w) (sym shared) (assumption (subst (λ n. AreHome s.config.workers n s.tasks.items) (sym many) sound.homes, seated, queue, aims, place, phased, sound))

  -- what others rely on
  spares_first : (i j : ℕ) (s s1 s' : Shared B) (chair : Chair) → j ≢ i → s1 ≡ record s { seats = s1.seats } → slice_get s.seats.items i ≡ Some chair → s1.seats.items ≡ slice_set s.seats.items i (record chair { raised = 0 }) → Spares j s1 s' → Spares j s s'
  spares_first i j s s1 s' chair other shared there set it =
      let chair' : Chair = record chair { raised = 0 } in
      let s2 : Shared B = record s { seats = s1.seats } in
      let by : Spares j s2 s' = subst (λ x. Spares j x s') shared it in
      grind (arith, length-set, set_elsewhere, by_number, set_there)

module _ {B : Type 0} (q : Place) (w w1 : Worker) (s s1 : Shared B) (sound : SoundAt q w s) (takes : TakesRaises w s w1 s1) where
  to : RaisesTo sound.seated.seat.raised (driver_of w) (with_raises sound.seated.seat.raised (driver_of w))
  to = raises_to sound.seated.seat.raised (driver_of w) sound.flown.polled

  pub driver_is : driver_of w1 ≡ record (driver_of w) { ring = (with_raises sound.seated.seat.raised (driver_of w)).ring }
  driver_is = takes.driver sound.seated.seat sound.seated.there ∙ to.shape

  pub sound_taken : SoundAt q w1 s1
  sound_taken =
      let like : SameIn (driver_of w) (with_raises sound.seated.seat.raised (driver_of w)).ring =
      record { size = to.raises.size; staged = to.raises.staged; flying = to.raises.flying; landed = to.raises.landed; polled = to.polled } in
      let by_ring : SoundAt q w1 s = sound_ring q w w1 s (with_raises sound.seated.seat.raised (driver_of w)).ring sound like driver_is takes.worker in
      let index : w1.index ≡ w.index = ap (λ x. x.index) takes.worker in
      let same : by_ring.seated.seat ≡ sound.seated.seat = cc (by_ring.seated.there, ap (slice_get s.seats.items) index ∙ sound.seated.there) in
      seat_kept q w1 s s1 by_ring by_ring.seated.seat.rest 0 takes.shared
      (takes.seats sound.seated.seat sound.seated.there ∙ ap (λ n. slice_set s.seats.items n (record sound.seated.seat { raised = 0 })) (sym index) ∙ ap (λ (c : Chair). slice_set s.seats.items w1.index (record c { raised = 0 })) (sym same))

  pub lists_taken : (driver_of w1).lists ≡ (driver_of w).lists
  lists_taken = ap (λ (x : Driving Reply Reply). x.lists) driver_is

  -- what goes into the submission queue is as it was
  pub flush_taken : must_flush (driver_of w1) ≡ must_flush (driver_of w)
  flush_taken = ap must_flush driver_is ∙ rw (to.raises.staged, to.raises.size) refl

  pub still_lists : ListsRequests (driver_of w) → ListsRequests (driver_of w1)
  still_lists l =
      subst ListsRequests (sym driver_is) (record { queued = l.queued; gated = l.gated; enrolments = l.enrolments; due = l.due; cancels = l.cancels; cancelled_once = l.cancelled_once })

  -- no wake waits there then
  pub none_waits : (holds : SoundAt q w1 s1) → holds.seated.seat.raised ≡ 0
  none_waits holds =
      let index : w1.index ≡ w.index = ap (λ x. x.index) takes.worker in
      let chair' : Chair = record sound.seated.seat { raised = 0 } in
      let now : slice_get s1.seats.items w1.index ≡ Some chair' =
      ap (slice_get s1.seats.items) index ∙ ap (λ xs. slice_get xs w.index) (takes.seats sound.seated.seat sound.seated.there) ∙ set_there s.seats.items w.index chair' sound.seated.seat sound.seated.there in
      let is : holds.seated.seat ≡ chair' = cc (holds.seated.there, now) in
      ap (λ c. c.raised) is

  pub own_taken : own_of w1 ≡ own_of w
  own_taken = ap own_of takes.worker ∙ ap (own_with w w.place w.names.ended.items w.names.untold.items) driver_is

  pub desk_taken : desk_of w1 ≡ desk_of w
  desk_taken = grind (arith, desk_with, driver_is, to)

  pub seen_taken : visible w1 ≡ record (visible w) { wakes = raised_times sound.seated.seat.raised (visible w).wakes }
  seen_taken = grind (arith, driver_is, to)

  seats_are : s1.seats.items ≡ slice_set s.seats.items w.index (record sound.seated.seat { raised = 0 })
  seats_are = takes.seats sound.seated.seat sound.seated.there

  pub things_taken : (vs : Views) → slice_get vs.workers w.index ≡ Some (visible w) → things_with (with_view vs w.index (visible w1)) s1 ≡ things_with vs s
  things_taken vs seen =
      let chair = sound.seated.seat in
      let there = sound.seated.there in
      let chair' : Chair = record chair { raised = 0 } in
      let i = w.index in
      ap (things_with (with_view vs i (visible w1))) takes.shared
      ∙ ap (λ (cs : List Chair). record (things_with vs s) { queues = map queue_at cs; words = map word_at cs; inboxes = map inbox_at cs; wake_polls = polls_seen (slice_set vs.workers i (visible w1)) cs }) seats_are
      ∙ ap (λ qs. record (things_with vs s) { queues = qs; words = map word_at (slice_set s.seats.items i chair'); inboxes = map inbox_at (slice_set s.seats.items i chair'); wake_polls = polls_seen (slice_set vs.workers i (visible w1)) (slice_set s.seats.items i chair') }) (map_kept queue_at s.seats.items i chair' chair there refl)
      ∙ ap (λ ws. record (things_with vs s) { words = ws; inboxes = map inbox_at (slice_set s.seats.items i chair'); wake_polls = polls_seen (slice_set vs.workers i (visible w1)) (slice_set s.seats.items i chair') }) (map_kept word_at s.seats.items i chair' chair there refl)
      ∙ ap (λ ms. record (things_with vs s) { inboxes = ms; wake_polls = polls_seen (slice_set vs.workers i (visible w1)) (slice_set s.seats.items i chair') }) (map_kept inbox_at s.seats.items i chair' chair there refl)
      ∙ ap (λ ps. record (things_with vs s) { wake_polls = ps }) (polls_taken vs.workers s.seats.items i (visible w) (visible w1) chair chair' seen there (ap (λ v. v.wakes) seen_taken))

  pub suits_taken : (p : Plan) (vs : Views) → Suits p vs w s → Suits p (with_view vs w.index (visible w1)) w1 s1
  suits_taken p vs suits =
      let chair' : Chair = record sound.seated.seat { raised = 0 } in
      record {
        config = ap (λ (z : Shared B). z.config) takes.shared ∙ suits.config;
        seen = ap (slice_get (slice_set vs.workers w.index (visible w1))) (ap (λ x. x.index) takes.worker) ∙ set_there vs.workers w.index (visible w1) (visible w) suits.seen;
        workers = length-set vs.workers w.index (visible w1) ∙ suits.workers ∙ sym (ap length seats_are ∙ length-set s.seats.items w.index chair');
      }

  -- and what it leaves of others
  pub beside_first : (w' : Worker) (s' : Shared B) → Beside w1 s1 w' s' → Beside w s w' s'
  beside_first w' s' it =
      let chair = sound.seated.seat in
      let there = sound.seated.there in
      let chair' : Chair = record chair { raised = 0 } in
      let same : SameProfile w w1 = subst (SameProfile w) (sym takes.worker) (record { hand = refl; loot = refl; polls = refl; claims = refl; searching = refl; counts = refl; index = refl; published = refl; drops = refl; told = record { batch = refl; letters = refl; left = refl } }) in
      let shares : s1 ≡ record s { seats = s1.seats; idle = s1.idle; global = s1.global } = takes.shared ∙ ap (λ (z : Shared B). record s { seats = s1.seats; idle = z.idle; global = z.global }) (sym takes.shared) in
      let calm : Beside w s w1 s1 =
      beside_calm w w1 s s1 same shares (seats_own w.index s.seats.items s1.seats.items chair chair' seats_are there (omega arith))
      (gates_set w.index s.seats.items s1.seats.items chair chair' seats_are there (record { left = refl; pool = refl; closed = refl; mail = λ h. h }))
      (ap (map (λ (c : Chair). c.queue)) seats_are ∙ queues_set s.seats.items w.index chair chair' there refl) (ap (map box_of) seats_are ∙ map_kept box_of s.seats.items w.index chair' chair there refl) (ap (λ (z : Shared B). z.idle) takes.shared) (ap (λ (z : Shared B). z.global) takes.shared) in
      record {
        spares = λ j other. spares_first w.index j s s1 s' chair other takes.shared there seats_are (it.spares j (λ is. other (is ∙ (ap (λ x. x.index) takes.worker))));
        whole = λ others whole. it.whole others (calm.whole others whole);
      }

  module _ {L : Type 0} (left : B → L) (spot : L → Option Said → Spot) where
    pub common_taken : (p : Plan) (vs : Views) → slice_get vs.workers w.index ≡ Some (visible w) → common_of left spot p (with_view vs w.index (visible w1)) s1 ≡ common_of left spot p vs s
    common_taken p vs seen =
        let chair = sound.seated.seat in
        let there = sound.seated.there in
        ap (common_of left spot p (with_view vs w.index (visible w1))) takes.shared
        ∙ ap (λ cs. record (common_of left spot p vs s) { seats = seats_seen (slice_set vs.workers w.index (visible w1)) cs }) seats_are
        ∙ ap (λ xs. record (common_of left spot p vs s) { seats = xs }) (seats_both vs.workers s.seats.items w.index (visible w) (visible w1) chair (record chair { raised = 0 }) seen there (ap (λ v. seat_seen v chair) seen_taken))

    -- what the machine makes of a step from there is what it makes of it from here
    works_first : (p : Plan) (vs : Views) (e : Event) (w' : Worker) (s' : Shared B) → Suits p vs w s → Works left spot p (with_view vs w.index (visible w1)) w1 s1 e w' s' → Works left spot p vs w s e w' s'
    works_first p vs e w' s' suits it =
        let index : w1.index ≡ w.index = ap (λ x. x.index) takes.worker in
        let vs1 = with_view vs w.index (visible w1) in
        let again : with_view vs1 w1.index (visible w') ≡ with_view vs w.index (visible w') = ap (λ n. with_view vs1 n (visible w')) index ∙ view_twice vs w.index (visible w1) (visible w') in
        let common = common_taken p vs suits.seen in
        let same1 = same_made {T = Moved Things} index own_taken common (λ i o c. move p.config i o c (desk_of w1) (things_with vs1 s1)) in
        let same2 = same_made {T = Own} index own_taken common (λ i o c. own_after p.config o c i e it.choice) in
        let same3 = same_made {T = Common} index own_taken common (λ i o c. common_after p.config o c i e it.choice) in
        record {
          choice = it.choice;
          moves = grind (arith, same1, desk_taken, things_taken vs suits.seen, it.moves, again);
          may =
              subst (λ i. AllTrue (allowed p.config (own_of w) (common_of left spot p vs s) i e it.choice)) index
              (subst (λ o. AllTrue (allowed p.config o (common_of left spot p vs s) w1.index e it.choice)) own_taken
              (subst (λ c. AllTrue (allowed p.config (own_of w1) c w1.index e it.choice)) common it.may));
          own = it.own ∙ same2;
          common = ap (λ v. common_of left spot p v s') (sym again) ∙ it.common ∙ same3;
        }

    pub raised_first : (w' : Worker) (s' : Shared B) (e : Event) → Steps left spot w1 s1 e w' s' → Steps left spot w s e w' s'
    raised_first w' s' e steps = (
      (λ p vs suits. works_first p vs e w' s' suits (steps.0 p (with_view vs w.index (visible w1)) (suits_taken p vs suits))),
      steps.1,
      (let h = steps.2 in
          record {
            root = h.root ∙ ap (λ x. x.root) takes.worker;
            config = h.config ∙ ap (λ (z : Shared B). z.config) takes.shared;
            many = h.many ∙ ap (λ (z : Shared B). length z.tasks.items) takes.shared;
            hears = λ t slot slot' at at'. h.hears t slot slot' (ap (λ (z : Shared B). slice_get z.tasks.items t) takes.shared ∙ at) at';
          }),
      beside_first w' s' steps.3,
    )

-- WHAT A WORKER'S WAKE POLL SHOWS

polls_set : (vs : List Visible) (seats : List Chair) (i : ℕ) (v' : Visible) (chair : Chair) → slice_get seats i ≡ Some chair → polls_seen (slice_set vs i v') seats ≡ slice_set (polls_seen vs seats) i (raised_times chair.raised v'.wakes)
polls_set [] seats i v' chair there = refl
polls_set (x ∷ vs) [] i v' chair there = absurd (cc)
polls_set (x ∷ vs) (seat ∷ seats) zero v' chair there = grind arith
polls_set (x ∷ vs) (seat ∷ seats) (suc i) v' chair there = ap (λ ps. raised_times seat.raised x.wakes ∷ ps) (polls_set vs seats i v' chair there)

module _ {B : Type 0} (vs : Views) (i : ℕ) (s : Shared B) (chair : Chair) (there : slice_get s.seats.items i ≡ Some chair) (none : chair.raised ≡ 0) where
  -- where no wake waits at its seat, what shows another ring shows another wake poll
  pub poll_shows : (v' : Visible) → things_with (with_view vs i v') s ≡ set_wake_poll i (things_with vs s) v'.wakes
  poll_shows v' = grind (arith, polls_set vs.workers s.seats.items i v' chair there, none)

  pub poll_shown : (v : Visible) → slice_get vs.workers i ≡ Some v → wake_poll_of (things_with vs s) i ≡ v.wakes
  poll_shown v seen = grind (arith, get_or_from_slice_get (polls_seen vs.workers s.seats.items) i (raised_times chair.raised v.wakes) no_wake_poll (poll_there vs.workers s.seats.items i v chair seen there), none)

module _ {B : Type 0} where
  pub sound_still : (w w1 : Worker) (s s1 : Shared B) → Sound w s → TakesRaises w s w1 s1 → Sound w1 s1
  sound_still w w1 s s1 sound takes = subst (λ q. SoundAt q w1 s1) (sym (ap (λ x. x.place) takes.worker)) (sound_taken w.place w w1 s s1 sound takes)

  -- nor does how its worker rests
  pub rest_shows : (vs : Views) (i : ℕ) (s : Shared B) (chair : Chair) → slice_get s.seats.items i ≡ Some chair → (x : Rest) (seats : List Chair) → seats ≡ slice_set s.seats.items i (record chair { rest = x })
      → record (things_with vs s) { queues = map queue_at seats; words = map word_at seats; inboxes = map inbox_at seats; wake_polls = polls_seen vs.workers seats } ≡ things_with vs s
  rest_shows = grind (arith, map_kept, polls_kept)
