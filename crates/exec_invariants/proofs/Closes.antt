-- The first step of a closing as a step of the machine: it begins. And what each such step needs, by what it does to the machine.
use Rattle.exec_invariants.{proofs.{Names.{◌≡◌, inl, ℕ, ◌*◌, ◌+◌, ◌≤◌, ◌&&◌, ◌==◌, ◌||◌, Bool, true, false, [], length, map, Option, Some, option_map, refl, sym, ap, subst, ◌∙◌, arith, slice_get, slice_set, nat_lt, if◌then◌else◌, slice_index_or, ◌<◌, false≢true, eq-eqb, nat_tests, length-set, get_or_from_slice_get, slice_get-map, Reserved, Said, Phase, Event, Close, Next, WorkerPhase, Plain, Plan, has_ended, is_closing, is_done, is_open, no_task, task_of, own_after, AfterPop, InPop, InClosing, Place, move_at, first_pop, has_others, next_at, serves_at, Chair, Shared, TaskSlot, Worker, IsPhased, IsPrepared, TurnsChair, closes_at, closing_in, has_left, has_shut, is_complete, root_over, Stage, stage_of, has_stopped, is_pool, owns_runner, Spot, Views, common_of, desk_of, driver_of, letters_in, own_of, owed_at, phase_seen, seat_seen, seats_seen, task_seen, things_with, visible, with_view, not_same, or_right, same_number, set_there, ◌⊎◌, inr, List, None, Subject, by_number, same_Some, set_elsewhere, or_left, and_right}, Dedicated.{as_long, chair_of_pool}, DedicatedSeen.pool_seen, Aside.{SparesSeats, queue_of_chair, queues_set, seats_own}, Hearing.unheard, PoolKept.gates_set, Seats.{chair_set, own_seat}, Shutting.{beside_closing, Closes, Empties, Follows, GoesOnlyOn, Holds, mail_there, onward, Pools, pools_calm, Ready, seats_show, shown_as, sound_closing}, Turning.view_found, Showing.map_set, HoldRedo.sum_set}, specs.{Whole.with_worker, Holding.{box_of, Hands, holder_of, IsHolding, Mail, nap_of, thing_of, Box, HasPlace, Holder, IsClosing, Nap, Owes, Thing, under_way}, Places.{drops_at, is_pooled_at, no_drops}, Sound.{Aims, HasBatch, IsSeated, LetsGoAt, SoundAt, has_wakes_at}, Works.{Steps, Suits, Works}}}

-- What tasks hold, where a worker begins to close: no message moved, and what it owed it owes. Such a box:
abbrev that_closes : Box → Box
that_closes box = record box { closing = true }

module _ (h : Hands) (workers : ℕ) (holders : List Holder) (things : List Thing) (naps : List Nap) (boxes : List Box) (j : ℕ) (box : Box) (there : slice_get boxes j ≡ Some box) where
  abbrev boxes' : List Box
  boxes' = slice_set boxes j (that_closes box)

  -- what a box was
  was : (i : ℕ) (now : Box) → slice_get boxes' i ≡ Some now → (old : Box) × (slice_get boxes i ≡ Some old) × ((now ≡ old) ⊎ (now ≡ that_closes old))
  was = grind (arith, by_number, set_elsewhere, same_Some, set_there)

  shut_was : (now old : Box) → (now ≡ old) ⊎ (now ≡ that_closes old) → now.shut ≡ old.shut
  shut_was now old (inl is) = ap (λ (b : Box). b.shut) is
  shut_was now old (inr is) = ap (λ (b : Box). b.shut) is

  messages_were : (now old : Box) → (now ≡ old) ⊎ (now ≡ that_closes old) → now.messages ≡ old.messages
  messages_were now old (inl is) = ap (λ (b : Box). b.messages) is
  messages_were now old (inr is) = ap (λ (b : Box). b.messages) is

  closing_was : (now old : Box) → (now ≡ old) ⊎ (now ≡ that_closes old) → old.closing ≡ true → now.closing ≡ true
  closing_was now old (inl is) closes = ap (λ (b : Box). b.closing) is ∙ closes
  closing_was now old (inr is) closes = ap (λ (b : Box). b.closing) is

  room_was : (i : ℕ) (now old : Box) → (now ≡ old) ⊎ (now ≡ that_closes old) → HasPlace i things naps old → HasPlace i things naps now
  room_was i now old (inl is) place = subst (HasPlace i things naps) (sym is) place
  room_was i now old (inr is) place = subst (HasPlace i things naps) (sym is) (record { made = place.made; places = place.places })

  same_way : (m : Mail) → under_way h m boxes' ≡ under_way h m boxes
  same_way = grind (arith, sum_set)

  closes_then : (i : ℕ) → IsClosing i boxes → IsClosing i boxes'
  closes_then i closing now at = let old = was i now at in closing_was now old.0 old.2 (closing old.0 old.1)

  owes_then : (i t : ℕ) (o : Option Subject) → Owes i t o things naps boxes → Owes i t o things naps boxes'
  owes_then i t None owes = owes
  owes_then i t (Some (Subject.Request k)) owes =
      (owes.0, owes.1, record { worker = owes.2.worker; waiter = owes.2.waiter; unpaid = owes.2.unpaid; unsent = owes.2.unsent; over = elim owes.2.over [ inl over ↦ inl over | inr gone ↦ inr (gone.0, closes_then i gone.1) ] })
  owes_then i t (Some (Subject.Timer n)) owes = owes

  many : length boxes' ≡ length boxes
  many = length-set boxes j (that_closes box)

  holding_closes : IsHolding h workers holders things naps boxes → IsHolding h workers holders things naps boxes'
  holding_closes = grind (arith, was, shut_was, same_way, owes_then, messages_were, room_was, many)

-- OVER SEATS
pub holding_began : (h : Hands) (workers : ℕ) (holders : List Holder) (things : List Thing) (naps : List Nap) (seats : List Chair) (j : ℕ) (seat chair : Chair) → slice_get seats j ≡ Some seat → box_of chair ≡ that_closes (box_of seat)
    → IsHolding h workers holders things naps (map box_of seats) → IsHolding h workers holders things naps (map box_of (slice_set seats j chair))
holding_began h workers holders things naps seats j seat chair there is holding =
    let same : map box_of (slice_set seats j chair) ≡ slice_set (map box_of seats) j (that_closes (box_of seat)) = map_set box_of seats j chair ∙ ap (λ b. slice_set (map box_of seats) j b) is in
    subst (λ bs. IsHolding h workers holders things naps bs) (sym same) (holding_closes h workers holders things naps (map box_of seats) j (box_of seat) (slice_get-map box_of seats j ∙ ap (option_map box_of) there) holding)

pub now_closing : (p : WorkerPhase) → is_open p ≡ false → has_ended p ≡ false → is_closing p ≡ true
now_closing = grind arith

pub now_done : {B : Type 0} (p : Phase B) (i : ℕ) → is_done (phase_seen p i) ≡ is_complete p
now_done = grind arith

-- the places that a closing leads to
pub follows_in : (x : InClosing) → Follows (Place.Closing x)
follows_in x = record { polls = refl; served = refl; unarmed = refl; begins = refl; hands_on = refl; calls = refl; searches = refl; claims = refl; counts = refl; published = refl; passes = refl; joins = refl; spare = refl; cancels = refl; sends = refl; heard = refl; queue = λ own none. none }

pub follows_pop : (others : Bool) → Follows (if others then Place.Pop InPop.LoadPopHead AfterPop.Discard else Place.Pop InPop.PopAlone AfterPop.Discard)
follows_pop true = record { polls = refl; served = refl; unarmed = refl; begins = refl; hands_on = refl; calls = refl; searches = refl; claims = refl; counts = refl; published = refl; passes = refl; joins = refl; spare = refl; cancels = refl; sends = refl; heard = refl; queue = λ own none. none }
follows_pop false = record { polls = refl; served = refl; unarmed = refl; begins = refl; hands_on = refl; calls = refl; searches = refl; claims = refl; counts = refl; published = refl; passes = refl; joins = refl; spare = refl; cancels = refl; sends = refl; heard = refl; queue = λ own none. none }

module _ {B L : Type 0} (left : B → L) (spot : L → Option Said → Spot) where
  -- one of the own closing, by what it does to the machine
  pub closed_by : (x : InClosing) (q : Place) (closes : Bool) (batch : Reserved Mail) (n : ℕ) (w w' : Worker) (s s' : Shared B) (e : Event) → SoundAt (Place.Closing x) w s → Follows q → Ready q closes batch n w s s' → GoesOnlyOn w.index s s' → Empties s s' → SparesSeats w.index s.seats.items s'.seats.items
      → Pools q closes batch n w s s' → Holds q closes batch n w s s' → map queue_of_chair s'.seats.items ≡ map queue_of_chair s.seats.items → w' ≡ onward q closes batch n w → ((p : Plan) (vs : Views) → Suits p vs w s → Works left spot p vs w s e (onward q closes batch n w) s') → Steps left spot w s e w' s'
  closed_by x q closes batch n w w' s s' e sound to ready on empties seats pools holds queues worker works =
      subst (λ v. Steps left spot w s e v s') (sym worker)
      (works, sound_closing x q closes batch n w s s' sound to ready, unheard refl (ap (λ (z : Shared B). z.config) ready.kept) (ap (λ (z : Shared B). z.tasks.items) ready.kept), beside_closing x q closes batch n w s s' sound to ready.kept ready.seated on empties seats pools holds queues)

  pub root_there : (p : Plan) (vs : Views) (s : Shared B) (t : ℕ) (slot : TaskSlot B) → slice_get s.tasks.items t ≡ Some slot → task_of (common_of left spot p vs s) t ≡ task_seen left spot slot
  root_there p vs s t slot there =
      get_or_from_slice_get (map (task_seen left spot) s.tasks.items) t (task_seen left spot slot) no_task (slice_get-map (task_seen left spot) s.tasks.items t ∙ ap (option_map (task_seen left spot)) there)

  -- what is seen of the seats once the own chair has changed
  pub seats_on : (p : Plan) (vs : Views) (w : Worker) (s s' : Shared B) (chair' : Chair) → Suits p vs w s → s'.seats.items ≡ slice_set s.seats.items w.index chair'
      → seats_seen vs.workers s'.seats.items ≡ slice_set (seats_seen vs.workers s.seats.items) w.index (seat_seen (visible w) chair')
  seats_on p vs w s s' chair' suits items = ap (seats_seen vs.workers) items ∙ chair_set vs.workers s.seats.items w.index (visible w) chair' suits.seen

  module _ (w w' : Worker) (s s' : Shared B) (e : Event) where
    -- THE CLOSING BEGINS

    pub closing_began : SoundAt (Place.Closing InClosing.Close) w s → e ≡ Close
        → w' ≡ record w { place = (if owns_runner w.role then Place.Closing InClosing.CloseQueue else if is_pool w.role then first_pop s.config AfterPop.Discard else Place.Closing InClosing.CloseMailbox); home = record w.home { closing = true } }
        → TurnsChair w.index (λ chair. record chair { phase = WorkerPhase.Closing }) s s' → s' ≡ record s { seats = s'.seats; set = record s.set { closed = s.set.closed || owns_runner w.role } } → Steps left spot w s e w' s'
    closing_began sound event goes turns kept = by (w.index == 0) refl
      where
        seat : Chair
        seat = sound.seated.seat

        there : slice_get s.seats.items w.index ≡ Some seat
        there = sound.seated.there

        chair : Chair
        chair = record seat { phase = WorkerPhase.Closing }

        phased : IsPhased w.index false (Some InClosing.Close) w.home.closing w.root w.names.unreleased (stage_of seat s) s.tasks.items
        phased = sound.phased seat there

        -- where it leads, by whether it is worker zero
        stage_then : Stage
        stage_then = record { phase = WorkerPhase.Closing; pool = seat.pool; left = seat.left; shut = seat.mailbox.inbox.closed; stopped = s.stopped; set = record s.set { closed = s.set.closed || (w.index == 0) }; made = seat.made }

        no_letters : letters_in w.letters ≡ []
        no_letters = sound.letters.none refl

        closed_then : s.stopped ≡ true → (s.set.closed || (w.index == 0)) ≡ true
        closed_then h = or_left s.set.closed (w.index == 0) (phased.closed h)

        to : (q : Place) → Follows q → drops_at q ≡ no_drops → Aims q s.config w.index s'.seats.items → HasBatch q w.batch.values → (is_pooled_at q ≡ true → is_pool w.role ≡ true) → LetsGoAt q (driver_of w).requests w.home.timers
            → IsPhased w.index (closes_at q) (closing_in q) true w.root w.names.unreleased stage_then s.tasks.items → w' ≡ onward q true w.batch w.processed w
            → ((p : Plan) (vs : Views) → Suits p vs w s → move_at p.config w.index (own_of w) (common_of left spot p vs s) (desk_of w) (things_with vs s) (Place.Closing InClosing.Close) ≡ record { event = Close; choice = Plain; desk = desk_of (onward q true w.batch w.processed w); thing = things_with vs s })
            → ((p : Plan) (vs : Views) → Suits p vs w s → own_of (onward q true w.batch w.processed w) ≡ own_after p.config (own_of w) (common_of left spot p vs s) w.index Close Plain) → Steps left spot w s e w' s'
        to q follows drops aims batch pooled lets_go phased_then worker moves own =
            let v : Worker = onward q true w.batch w.processed w in
            let items : s'.seats.items ≡ slice_set s.seats.items w.index chair = turns seat there in
            let found : slice_get s'.seats.items w.index ≡ Some chair = ap (λ xs. slice_get xs w.index) items ∙ set_there s.seats.items w.index chair seat there in
            let closes : Closes s s' = subst (λ (z : Shared B). z ≡ record s { seats = z.seats; set = z.set; global = z.global; barrier_open = z.barrier_open; stopped = z.stopped }) (sym kept) refl in
            let now_closed : s'.set.closed ≡ (s.set.closed || (w.index == 0)) = ap (λ (z : Shared B). z.set.closed) kept ∙ ap (λ b. s.set.closed || b) sound.role.owns in
            let stopped : s'.stopped ≡ s.stopped = ap (λ (z : Shared B). z.stopped) kept in
            let shards : length s'.set.shards ≡ length s.set.shards = ap (λ (z : Shared B). length z.set.shards) kept in
            let all_shards : s'.set.shards ≡ s.set.shards = ap (λ (z : Shared B). z.set.shards) kept in
            let same_still : (b c : Bool) → c ≡ false → (b || c) ≡ b = grind arith in
            let on : GoesOnlyOn w.index s s' = record {
              stopped = λ h. stopped ∙ h;
              closed = λ h. now_closed ∙ or_left s.set.closed (w.index == 0) h;
              by_zero = λ other. (stopped, now_closed ∙ same_still s.set.closed (w.index == 0) (not_same w.index 0 other));
              shards = shards;
              emptied = λ shut k none. ap (λ xs. slice_index_or xs k []) all_shards ∙ none;
            } in
            let batch_place : (own : Chair) → slice_get s'.seats.items w.index ≡ Some own → own.mailbox.inbox.closed ≡ false → 2 * own.made + 1 ≤ w.batch.places = λ own at_own.
            let is : chair ≡ own = cc (found, at_own) in subst (λ (c : Chair). c.mailbox.inbox.closed ≡ false → 2 * c.made + 1 ≤ w.batch.places) is (sound.batch_place seat there) in
            let many : length s'.seats.items ≡ length s.seats.items = ap length items ∙ length-set s.seats.items w.index chair in
            let seated : IsSeated w.index false s.config.workers s'.seats.items = record { many = as_long many sound.seated.many; pool = sound.seated.pool; seat = chair; there = found; unarmed = sound.seated.unarmed; mail = sound.seated.mail } in
            let held : (own : Chair) → slice_get s'.seats.items w.index ≡ Some own → own.queue.held ≡ [] = λ own at_own. let is : chair ≡ own = cc (found, at_own) in rw (← is) (sound.queue seat there) in
            let stage : (own : Chair) → slice_get s'.seats.items w.index ≡ Some own → stage_of own s' ≡ stage_then = λ own at_own.
            let is : chair ≡ own = cc (found, at_own) in rw (← is, stopped, ap (λ (z : Shared B). z.set) kept, sound.role.owns) refl in
            let things : (vs : Views) → things_with vs s' ≡ things_with vs s = λ vs. ap (λ (z : Shared B). things_with vs z) kept ∙ seats_show vs w.index s s'.seats.items seat chair there items refl refl refl refl in
            let holds : Holds q true w.batch w.processed w s s' = λ others whole.
            let hands : Hands = record { mail = mail_there others w.batch w; wakes = (with_worker others w).wakes } in
            subst (λ xs. IsHolding hands s.config.workers (map holder_of s.tasks.items) (map thing_of s.requests.items) (map nap_of s.sleepers.items) (map box_of xs)) (sym items)
            (holding_began hands s.config.workers (map holder_of s.tasks.items) (map thing_of s.requests.items) (map nap_of s.sleepers.items) s.seats.items w.index seat chair there refl whole.holding) in
            let closing : w.home.closing ≡ true → true ≡ true = λ h. refl in
            let quiet : has_wakes_at q ≡ false → w.home.deferred.notes.wakes.items ≡ [] = λ h. sound.quiet refl in
            let phased_on : (own : Chair) → slice_get s'.seats.items w.index ≡ Some own → IsPhased w.index (closes_at q) (closing_in q) true w.root w.names.unreleased (stage_of own s') s.tasks.items = λ own at_own.
            subst (λ st. IsPhased w.index (closes_at q) (closing_in q) true w.root w.names.unreleased st s.tasks.items) (sym (stage own at_own)) phased_then in
            let ready : Ready q true w.batch w.processed w s s' = assumption (closes, closing, seated, held, aims, batch, batch_place, many, pooled, lets_go, quiet, shards, phased_on, sound) in
            closed_by InClosing.Close q true w.batch w.processed w w' s s' e sound follows ready on (inl (ap (λ (z : Shared B). z.global) kept)) (seats_own w.index s.seats.items s'.seats.items seat chair items there (omega arith))
            (pools_calm InClosing.Close q true w.batch w.processed w s s' sound follows drops (gates_set w.index s.seats.items s'.seats.items seat chair items there (record { left = refl; pool = refl; closed = refl; mail = λ h. h })) all_shards on.closed)
            holds (ap (λ xs. map queue_of_chair xs) items ∙ queues_set s.seats.items w.index seat chair there refl) worker
            (λ p vs suits.
            let mine = own_seat left spot p vs w s seat suits there in
            let root = root_there p vs s w.root sound.runnable.root sound.runnable.there in
            let again = view_found vs w.index (visible w) suits.seen in
            record {
              choice = Plain;
              moves =
                  subst (λ y. move_at p.config w.index (own_of w) (common_of left spot p vs s) (desk_of w) (things_with vs s) y ≡ record { event = e; choice = Plain; desk = desk_of v; thing = things_with (with_view vs w.index (visible w)) s' }) (sym sound.here)
                  (shown_as _ (λ z. record { event = e; choice = Plain; desk = desk_of v; thing = things_with z s' }) vs _ again (rw event (moves p vs suits ∙ ap (λ x. record { event = Close; choice = Plain; desk = desk_of v; thing = x }) (sym (things vs)))));
              may = rw (event, sound.here, no_letters) (refl, (rw mine phased.opened, (rw (root, sound.runnable.home, eq-eqb w.index w.index refl) refl, (rw root (now_done sound.runnable.root.cell.phase sound.runnable.root.poller ∙ phased.root sound.runnable.root sound.runnable.there), tt))));
              own = rw event (own p vs suits);
              common = rw event (ap (λ z. common_of left spot p z s') again ∙ ap (common_of left spot p vs) kept ∙ rw (seats_on p vs w s s' chair suits items, sound.role.owns, mine) refl);
            })

        at_zero : (w.index == 0) ≡ true → Steps left spot w s e w' s'
        at_zero is =
            let q : Place = Place.Closing InClosing.CloseQueue in
            let pooled : is_pooled_at q ≡ true → is_pool w.role ≡ true = λ h. let less : nat_lt w.index s.config.workers ≡ true = grind (arith, nat_tests, same_number w.index 0 is, sound.config.workers) in sound.role.pool ∙ less in
            let ended : false ≡ true → Some InClosing.CloseQueue ≡ Some InClosing.End = λ h. absurd (false≢true h) in
            let by_zero : w.index ≡ 0 → (s.stopped ≡ false) × ((s.set.closed || (w.index == 0)) ≡ true) = λ zero. ((phased.by_zero zero).0, or_right s.set.closed (w.index == 0) is) in
            to q (follows_in InClosing.CloseQueue) refl (same_number w.index 0 is) (λ no. absurd (false≢true no)) pooled (λ no. absurd (false≢true no)) (assumption (ended, by_zero, closed_then, tt, phased)) (goes ∙ rw (sound.role.owns, is) refl)
            (λ p vs suits. rw is refl) (λ p vs suits. rw (sound.here, is, no_letters) refl)

        pool_here : (b : Bool) → is_pool w.role ≡ b → seat.pool ≡ b
        pool_here b pool = chair_of_pool (Place.Closing InClosing.Close) w s sound seat there ∙ pool

        elsewhere : (w.index == 0) ≡ false → (q : Place) (at : InClosing) → (if is_pool w.role then first_pop s.config AfterPop.Discard else Place.Closing InClosing.CloseMailbox) ≡ q → closes_at q ≡ true → closing_in q ≡ Some at → (seat.pool && has_left true (Some at)) ≡ false → has_shut true (Some at) ≡ false → root_over true (Some at) ≡ true → IsPrepared (Some at) w.names.unreleased (record s.set { closed = s.set.closed || (w.index == 0) })
            → Aims q s.config w.index s'.seats.items → Follows q → next_at q ≡ (if seat.pool then Next.Free else Next.ClosesMailbox) → serves_at q ≡ false → owed_at w.workers q ≡ [] → drops_at q ≡ no_drops → (is_pooled_at q ≡ true → is_pool w.role ≡ true) → LetsGoAt q (driver_of w).requests w.home.timers → HasBatch q w.batch.values → Steps left spot w s e w' s'
        elsewhere is q at first closes_there closing leaves shuts over prepared aims follows next unserved owes drops pooled lets_go batch =
            let ended : false ≡ true → Some at ≡ Some InClosing.End = λ h. absurd (false≢true h) in
            let root : (slot : TaskSlot B) → slice_get s.tasks.items w.root ≡ Some slot → is_complete slot.cell.phase ≡ root_over true (Some at) = λ slot at_root. phased.root slot at_root ∙ sym over in
            let by_zero : w.index ≡ 0 → (s.stopped ≡ has_stopped true (Some at)) × ((s.set.closed || (w.index == 0)) ≡ true) = λ zero. absurd (false≢true (sym is ∙ eq-eqb w.index 0 zero)) in
            let by_other : 0 < w.index → seat.pool ≡ true → root_over true (Some at) ≡ true → s.stopped ≡ true = λ some pool over. phased.by_other some pool refl in
            to q follows drops aims batch pooled lets_go (rw (closes_there, closing) (assumption (ended, root, phased.left ∙ and_right seat.pool false refl ∙ sym leaves, phased.shut ∙ sym shuts, by_zero, by_other, closed_then, prepared))) (goes ∙ rw (sound.role.owns, is, first) refl)
            (λ p vs suits. rw (is, pool_seen left spot p vs (Place.Closing InClosing.Close) w s sound suits, ← suits.config, first) refl)
            (λ p vs suits. rw (sound.here, is, own_seat left spot p vs w s seat suits there, follows.polls, next, unserved, owes) refl)

        by_others : (w.index == 0) ≡ false → (pool : Bool) → is_pool w.role ≡ pool → (others : Bool) → has_others s.config ≡ others → Steps left spot w s e w' s'
        by_others is true pool true which =
            elsewhere is (Place.Pop InPop.LoadPopHead AfterPop.Discard) (InClosing.TellRoot 0) (rw (pool, which) refl) refl refl (and_right seat.pool false refl) refl refl tt tt (follows_pop true) (rw (pool_here true pool) refl) refl refl refl (λ h. pool) (λ no. absurd (false≢true no)) (λ no. absurd (false≢true no))
        by_others is true pool false which =
            elsewhere is (Place.Pop InPop.PopAlone AfterPop.Discard) (InClosing.TellRoot 0) (rw (pool, which) refl) refl refl (and_right seat.pool false refl) refl refl tt tt (follows_pop false) (rw (pool_here true pool) refl) refl refl refl (λ h. pool) (λ no. absurd (false≢true no)) (λ no. absurd (false≢true no))
        by_others is false pool others which =
            elsewhere is (Place.Closing InClosing.CloseMailbox) InClosing.CloseMailbox (rw pool refl) refl refl (rw (pool_here false pool) refl) refl refl tt tt (follows_in InClosing.CloseMailbox) (rw (pool_here false pool) refl) refl refl refl (λ no. absurd (false≢true no)) (λ no. absurd (false≢true no)) (λ no. absurd (false≢true no))

        by : (zero : Bool) → (w.index == 0) ≡ zero → Steps left spot w s e w' s'
        by true is = at_zero is
        by false is = by_others is (is_pool w.role) refl (has_others s.config) refl
