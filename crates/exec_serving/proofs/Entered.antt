-- An enter of a worker, from any place where it may let the kernel work, is a step of it.
use Rattle.std.proofs.Common.{◌≡◌, ℕ, ◌+◌, ◌≤◌, true, false, not, List, [], length, map, Option, refl, sym, ap, subst, ◌∙◌, arith, slice_get, slice_set, if◌then◌else◌}
use Rattle.exec_ring.specs.{Kernels.{all_taken, entered as entered_ring}, Rings.{RingState, completions}}
use Rattle.exec_base.specs.Slab.{value_at}
use Rattle.exec_waiters.{specs.States.pending_count, proofs.Changes.entry_of}
use Rattle.exec_driver.specs.Driving.{Driving}
use Rattle.exec_task.specs.declared.body.Said.{Said}
use Rattle.exec_machine.specs.{declared.event.Event.{Event, TheVariants.{Enter, Busy}}, Choice.Choice.Plain, World.{Own, Seat, Common}, Progress.Plan, Requests.flown}
use Rattle.exec_moves.specs.{declared.{idling.{Stay.Stay, InRingWait.InRingWait}, place.{Service.Service, Place.Place, InService.InService, Reaping.Reaping}}, State.{Desk, Things, Moved, wake_poll_of, taken_in as poll_taken}, Thing.{ring_of, set_wake_poll, with_ring}, Move.move_at, Serve.{Ring, at_place, enter}}
use Rattle.exec_parts.specs.{declared.parts.{mail.Reply.Reply, shared.Shared.Shared, worker.{PutOff.PutOff, Worker.Worker}}, Records.number_in, Serving.{EntersRing, flown_in}, Spots.Spot, View.{Views, visible, with_view, own_of, desk_of, driver_of, common_of, seat_seen, numbers_of_passing, open_seen, things_with, trailing}}
use Rattle.exec_invariants.{specs.{Raises.Enters, Carried.IsCarried, Sound.{SoundAt, served_in}, Names.{IsNamed, IsSubmitted}, Due.{IsWheelAt, may_be_due}, Flown.{IsPolled, operations}, Holding.{nap_of, thing_of}, Places.passes_at, Works.{Suits, Steps}}, proofs.{Flying.all_flown, Spared.sleepers_endure, Seats.own_seat, Conveying.carried_ring, Lined.{KeepsLines, gates_seen_same, lines_flown, opens_same, passing_same, was_sent}, Serving.{balances_still, kept, SparesRecords, spares_same}, ServingHolds.{Follows, Serves, Keeps, KeepsBy, keeps_all, nap_sent}, ServingPlaces.calm, Keys.{same_opens, flown_names}, Raising.{lists_taken, none_waits, poll_shows, poll_shown, raised_first, sound_taken}, Seeing.{Sees, common_same, served, shows}, Shown.desk_with, WokenEntered.{all_acknowledged, enter_polled, enter_shown}, Going.{over_on, rooted_on}, MailApplies.seats_viewed}}
use Rattle.exec_serving.proofs.{Carrier.carried_entered, Entering.{submitted_busy, submitted_free, named_beside, named_free, all_go, timed_flown, flown_entered, others_flown, others_were, known_flown, things_flown}}

-- the ring that a worker shows, where no wake waits at its seat
abbrev pub ring_seen : Worker → Ring
ring_seen w = record { busy = (visible w).busy; landed = (visible w).landed; wakes = (visible w).wakes }

-- what a move on the ring makes where it leads on to this place, with what is put off
abbrev pub led_to : Place → PutOff → Moved Ring → Moved Ring
led_to q o m = record m { desk = record m.desk { place = q; may_put_off = o.defer; put_off = o.«enter» } }

module _ {B : Type 0} where
  -- From a place of which the move is an enter and where it leads.
  abbrev pub MovesBy : {L : Type 0} (left : B → L) (spot : L → Option Said → Spot) → Place → Worker → Worker → Shared B → Type 0
  MovesBy left spot q w w' s =
      (p : Plan) (vs : Views) → Suits p vs w s → ring_of (common_of left spot p vs s) (things_with vs s) w.index ≡ ring_seen w
      → move_at p.config w.index (own_of w) (common_of left spot p vs s) (desk_of w) (things_with vs s) q ≡ with_ring w.index (things_with vs s) (led_to w'.place w'.put_off (enter (own_of w) (desk_of w) (ring_seen w)))

module _ {B : Type 0} (w w' : Worker) (s s' : Shared B) (e : Event) (it : EntersRing w s e (record w' { place = w.place; put_off = w.put_off }) s') where
  pub shape : w' ≡ record w { place = w'.place; put_off = w'.put_off; home = record w.home { driver = w'.home.driver }; names = record w.names { staged = w'.names.staged; untold = w'.names.untold } }
  shape = ap (λ (v : Worker). record v { place = w'.place; put_off = w'.put_off }) it.worker

  entered_serves : (q : Place) → Follows q w'.place → Serves q w w' s s'
  entered_serves = grind arith

  -- what holds again, with another ring and these that fly
  keeps_entered : (q : Place) (r : RingState) (ks : List ℕ) → SoundAt q w s → Follows q w'.place → (may_be_due (served_in w'.place) ≡ false → (driver_of w).lists.due ≡ [])
      → entered_ring (driver_of w).ring ≡ r → r.size ≡ (driver_of w).ring.size → IsPolled r (driver_of w).armed → operations r ≡ operations (driver_of w).ring
      → length w'.names.staged.items + length w'.names.untold.items ≤ length r.staged → s'.requests.items ≡ flown_in ks s.requests.items
      → IsNamed w.index w'.names (record (driver_of w) { ring = r; landings = (driver_of w').landings }) w.home.timers s'.requests.items s.sleepers.items
      → IsCarried w.names.requests.items (driver_of w).requests r (flown_in ks s.requests.items) s.store → Keeps w' s'
  keeps_entered q r ks sound to told ring sized polled same entries records named carried =
      let worker = shape in
      let d' : Driving Reply Reply = record (driver_of w) { ring = r; landings = (driver_of w').landings } in
      let w1 : Worker = record w { place = w'.place; put_off = w'.put_off; names = record w.names { staged = w'.names.staged; untold = w'.names.untold } } in
      let flown = flown_in ks s.requests.items in
      let driver : driver_of w' ≡ d' = it.driver ∙ ap (λ x. record (driver_of w) { ring = x; landings = (driver_of w').landings }) ring in
      let go = all_go ks s.requests.items in
      let due = sound.due in
      let timed = timed_flown w.index w.names w1.names ks s.requests.items refl due.timed in
      let keeps : KeepsBy w1 d' w.home.timers flown s.sleepers.items s = record {
        told = (kept q w s sound (calm q to.from)).told;
        wide = sound.wide;
        named = subst (λ rs. IsNamed w.index w1.names d' w.home.timers rs s.sleepers.items) records (subst (λ v. IsNamed w.index v.names d' w.home.timers s'.requests.items s.sleepers.items) worker named);
        sized = sized ∙ sound.sized;
        over = over_on s.requests.items flown go w.index w.names.ended.items w.names.unreleased (pending_count (driver_of w).requests) sound.over;
        quiet = λ h. sound.quiet (sym to.wakes ∙ h);
        due = record { punctual = record { ahead = due.punctual.ahead }; told = told; wheel = subst (λ m. IsWheelAt s.config w.moments.start m (driver_of w).wheel) (sym (to.moment w.moments)) due.wheel; timed = timed; asleep = record { alike = due.asleep.alike; there = due.asleep.there; named = due.asleep.named; lets_go = due.asleep.lets_go; counted = due.asleep.counted; names = due.asleep.names }; order = due.order };
        flown =
            flown_entered (served_in q) (served_in w'.place) w.index w.names w1.names (driver_of w) r (driver_of w').landings ks s.requests.items
            sound.flown refl refl refl it.staged_room it.untold_room sized polled same entries;
        carried = carried;
        known = known_flown w.index w.names.requests.items (driver_of w).requests s.opens s.requests.items ks sound.known;
        rooted =
            rooted_on s.requests.items flown go w.index w.names w1.names (driver_of w) d' w.home.timers w.home.deferred s.sleepers.items sound.rooted
            refl refl (λ id h. h) (λ id o h. h) (λ id x h. (x, h, refl));
        bare = λ h. (calm q to.from).lets_in (driver_of w).requests w.home.timers sound.lets_go (sym to.bare ∙ h);
      } in
      keeps_all w w' s s' flown d' worker it.shared driver records keeps

module _ {B L : Type 0} (left : B → L) (spot : L → Option Said → Spot) where
  -- the ring that the machine's move names
  pub ring_there : (q : Place) (w : Worker) (s : Shared B) (sound : SoundAt q w s) → sound.seated.seat.raised ≡ 0 → (p : Plan) (vs : Views) → Suits p vs w s
      → ring_of (common_of left spot p vs s) (things_with vs s) w.index ≡ ring_seen w
  ring_there q w s sound none p vs suits =
      let chair = sound.seated.seat in
      let there = sound.seated.there in
      ap (λ (x : Seat). record { busy = x.busy; landed = x.landed; wakes = wake_poll_of (things_with vs s) w.index }) (own_seat left spot p vs w s chair suits there)
      ∙ ap (λ x. record { busy = (visible w).busy; landed = (visible w).landed; wakes = x }) (poll_shown vs w.index s chair there none (visible w) suits.seen)

  common_by : (p : Plan) (vs : Views) (s s' : Shared B) → s' ≡ record s { requests = s'.requests }
      → common_of left spot p vs s' ≡ record (common_of left spot p vs s) { requests = map (λ r. r.shown) s'.requests.items; opens = map (open_seen s'.requests.items) s.opens }
  common_by p vs s s' same = ap (common_of left spot p vs) same

  busy_entered : (q : Place) (w w' : Worker) (s s' : Shared B) (e : Event) → (sound : SoundAt q w s) → sound.seated.seat.raised ≡ 0 → Follows q w'.place → (may_be_due (served_in w'.place) ≡ false → (driver_of w).lists.due ≡ []) → passes_at w'.place ≡ passes_at q
      → EntersRing w s e (record w' { place = w.place; put_off = w.put_off }) s' → MovesBy left spot q w w' s → (driver_of w).ring.busy ≡ true → Steps left spot w s e w' s'
  busy_entered q w w' s s' e sound waits on told passes it moves busy =
      let from = calm q on.from in
      let to = calm w'.place on.to in
      let i = w.index in
      let r = (driver_of w).ring in
      let r' : RingState = record r { busy = false } in
      let d' : Driving Reply Reply = record (driver_of w) { ring = r'; landings = (driver_of w').landings } in
      let ring : entered_ring r ≡ r' = ap (λ b. if b then (record r { busy = false }) else all_taken r) busy in
      let worker = shape w w' s s' e it in
      let untold : w'.names.untold.items ≡ w.names.untold.items = it.untold ∙ ap (λ b. if b then w.names.untold.items else []) busy in
      let staged : w'.names.staged.items ≡ w.names.staged.items = it.staged ∙ ap (λ b. if b then w.names.staged.items else []) busy in
      let records : s'.requests.items ≡ s.requests.items = it.records ∙ ap (λ b. if b then s.requests.items else flown_in w.names.staged.items s.requests.items) busy in
      let driver : driver_of w' ≡ d' = it.driver ∙ ap (λ x. record (driver_of w) { ring = x; landings = (driver_of w').landings }) ring in
      let serves = entered_serves w w' s s' e it q on in
      let show = shows q w w' s s' d' serves driver (ap (λ (v : Worker). v.home.timers) worker) in
      let named : IsNamed i w'.names d' w.home.timers s'.requests.items s.sleepers.items =
      subst (λ rs. IsNamed i w'.names d' w.home.timers rs s.sleepers.items) (sym records)
      (named_beside i w.names (driver_of w) w.home.timers s.requests.items s.sleepers.items sound.named w'.names r' (driver_of w').landings (ap (λ v. v.names.requests.items) worker) (ap (λ v. v.names.timers.items) worker)
      (subst (λ ks. IsSubmitted i ks w'.names.untold.items r' s.requests.items) (sym staged)
      (subst (λ ks. IsSubmitted i w.names.staged.items ks r' s.requests.items) (sym untold)
      (submitted_busy i w.names (driver_of w) w.home.timers s.requests.items s.sleepers.items sound.named)))) in
      let keeps : Keeps w' s' =
      keeps_entered w w' s s' e it q r' [] sound on told ring refl sound.flown.polled refl (subst (λ n. n ≤ length r.staged) (sym (ap (λ (ks : List ℕ). length ks + length w'.names.untold.items) staged ∙ ap (λ (ks : List ℕ). length w.names.staged.items + length ks) untold)) sound.flown.entries) records named
      (carried_ring w.names.requests.items (driver_of w).requests r s.requests.items s.store sound.carried r' (λ v small. refl) (λ v small. refl)) in
      let spares : SparesRecords i s s' = spares_same i s s' sound.gates records (ap (λ (x : Shared B). x.sleepers.items) it.shared) (ap (λ (x : Shared B). x.opens) it.shared) in
      let seen : visible w' ≡ record (visible w) { busy = false } = show.seen in
      subst (λ x. Steps left spot w s x w' s') (sym (it.event ∙ ap (λ b. if b then Busy else Enter) busy))
      (served left spot q w w' s s' Busy sound serves keeps spares (balances_still q w w' s s' sound.here serves spares passes (ap (λ (v : Worker). v.home.deferred.notes.wakes.items) worker) (ap (map thing_of) records) (ap (λ (x : Shared B). map nap_of x.sleepers.items) it.shared))
      (λ p vs suits.
      let chair = sound.seated.seat in
      let there = sound.seated.there in
      let all = common_of left spot p vs s in
      let x = things_with vs s in
      let here : record w { place = q } ≡ w = ap (λ y. record w { place = y }) (sym sound.here) in
      let vs' = with_view vs i (visible w') in
      let desk : desk_of w' ≡ record (desk_of w) { place = w'.place; may_put_off = w'.put_off.defer; put_off = w'.put_off.«enter» } = show.desk ∙ ap (λ (v : Worker). desk_with w w'.place w'.put_off v.home.deferred d') worker in
      let things : things_with vs' s' ≡ set_wake_poll i x (visible w).wakes =
      ap (things_with vs') it.shared ∙ ap (λ gs. record (things_with vs' s) { gates = gs; answers = numbers_of_passing was_sent 0 s'.requests.items }) (gates_seen_same s.requests.items s'.requests.items s.opens s.opens spares.lines (opens_same s.opens s.opens s.requests.items sound.gates refl)) ∙ ap (λ ns. record (things_with vs' s) { answers = ns }) (passing_same was_sent s.requests.items s'.requests.items spares.lines.sent) ∙ poll_shows vs i s chair there waits (visible w') ∙ ap (λ v. set_wake_poll i x v.wakes) seen in
      let enters : enter (own_of w) (desk_of w) (ring_seen w) ≡ record { event = Busy; choice = Plain; desk = desk_of w; thing = record (ring_seen w) { busy = false } } =
      rw busy refl in
      subst (λ v. Sees left spot q v w' s s' Busy p vs) (sym here) (record {
        moves = grind (arith, moves p vs suits (ring_there q w s sound waits p vs suits), enters, desk, things);
        may = (rw (sound.here, from.polls, from.free, from.owes w.workers, sound.letters.none from.cancels) refl, (ap (λ y. y.busy) (own_seat left spot p vs w s chair suits there) ∙ busy, tt));
        own = grind (arith, show.own, worker, untold, on.serves, to.polls, to.free, to.owes w.workers, sound.here, from.polls, from.free, from.owes w.workers);
        common =
            common_by p vs' s s' it.shared
            ∙ ap (λ rs. record (common_of left spot p vs' s) { requests = map (λ y. y.shown) rs; opens = map (open_seen rs) s.opens }) records
            ∙ ap (λ y. record all { seats = y })
            (seats_viewed vs.workers s.seats.items i (visible w') chair there
            ∙ ap (λ y. slice_set (all.seats) i y)
            (ap (λ v. seat_seen v chair) seen ∙ ap (λ (y : Seat). record y { busy = false }) (sym (own_seat left spot p vs w s chair suits there))));
      })))

  free_entered : (q : Place) (w w' : Worker) (s s' : Shared B) (e : Event) → (sound : SoundAt q w s) → sound.seated.seat.raised ≡ 0 → Follows q w'.place → (may_be_due (served_in w'.place) ≡ false → (driver_of w).lists.due ≡ []) → passes_at w'.place ≡ passes_at q
      → EntersRing w s e (record w' { place = w.place; put_off = w.put_off }) s' → MovesBy left spot q w w' s → (driver_of w).ring.busy ≡ false → Steps left spot w s e w' s'
  free_entered q w w' s s' e sound waits on told passes it moves busy =
      let from = calm q on.from in
      let to = calm w'.place on.to in
      let i = w.index in
      let r = (driver_of w).ring in
      let r' : RingState = all_taken r in
      let d' : Driving Reply Reply = record (driver_of w) { ring = r'; landings = (driver_of w').landings } in
      let sub = sound.named.submitted in
      let flown_now = flown_in w.names.staged.items s.requests.items in
      let ring : entered_ring r ≡ r' = ap (λ b. if b then (record r { busy = false }) else all_taken r) busy in
      let taken = all_acknowledged r (driver_of w).armed sound.flown.polled sub.tagged in
      let worker = shape w w' s s' e it in
      let untold : w'.names.untold.items ≡ [] = it.untold ∙ ap (λ b. if b then w.names.untold.items else []) busy in
      let staged : w'.names.staged.items ≡ [] = it.staged ∙ ap (λ b. if b then w.names.staged.items else []) busy in
      let records : s'.requests.items ≡ flown_now = it.records ∙ ap (λ b. if b then s.requests.items else flown_in w.names.staged.items s.requests.items) busy in
      let driver : driver_of w' ≡ d' = it.driver ∙ ap (λ x. record (driver_of w) { ring = x; landings = (driver_of w').landings }) ring in
      let serves = entered_serves w w' s s' e it q on in
      let show = shows q w w' s s' d' serves driver (ap (λ (v : Worker). v.home.timers) worker) in
      let named : IsNamed i w'.names d' w.home.timers s'.requests.items s.sleepers.items =
      subst (λ rs. IsNamed i w'.names d' w.home.timers rs s.sleepers.items) (sym records)
      (named_free i w.names (driver_of w) w.home.timers s.requests.items s.sleepers.items sound.named w'.names r' (driver_of w').landings (ap (λ v. v.names.requests.items) worker) (ap (λ v. v.names.timers.items) worker)
      (subst (λ ks. IsSubmitted i ks w'.names.untold.items r' flown_now) (sym staged)
      (subst (λ ks. IsSubmitted i [] ks r' flown_now) (sym untold)
      (submitted_free i w.names (driver_of w) w.home.timers s.requests.items s.sleepers.items sound.named r' taken.staged)))) in
      let none_left : length w'.names.staged.items + length w'.names.untold.items ≤ length r'.staged =
      subst (λ (ks : List ℕ). length ks + length w'.names.untold.items ≤ length r'.staged) (sym staged) (subst (λ (ks : List ℕ). 0 + length ks ≤ length r'.staged) (sym untold) (omega arith)) in
      let keeps : Keeps w' s' =
      keeps_entered w w' s s' e it q r' w.names.staged.items sound on told ring taken.size (enter_polled r (driver_of w).armed sound.flown.polled sub.tagged) taken.landed none_left records named
      (carried_entered w.names.requests.items (driver_of w).requests r s.requests.items s.store sound.carried w.names.staged.items
      (λ id it x live at is.
      let mine = sound.named.requests id (rw (entry_of (value_at (driver_of w).requests id) it live) refl) in
      let same : mine.0 ≡ x = cc (mine.1, at) in
      sub.all (number_in w.names.requests.items id) x at (sym (ap (λ y. y.shown.worker) same) ∙ mine.3) is) taken.staged) in
      let spares : SparesRecords i s s' = record {
        records = λ k x there other. ap (λ rs. slice_get rs k) records ∙ others_flown i w.names (driver_of w) w.home.timers s.requests.items s.sleepers.items sound.named k x there other;
        records_only = λ k x there other. others_were i w.names (driver_of w) w.home.timers s.requests.items s.sleepers.items sound.named k x (ap (λ rs. slice_get rs k) (sym records) ∙ there) other;
        sleepers = λ k z there other. ap (λ (y : Shared B). slice_get y.sleepers.items k) it.shared ∙ there;
        sleepers_only = λ k z there other. ap (λ (y : Shared B). slice_get y.sleepers.items k) (sym it.shared) ∙ there;
        lines = subst (KeepsLines s.requests.items) (sym records) (lines_flown w.names.staged.items s.requests.items);
        naps = sleepers_endure s.sleepers.items s'.sleepers.items (ap (λ (y : Shared B). y.sleepers.items) it.shared);
        opens = opens_same s.opens s'.opens s.requests.items sound.gates (ap (λ (x : Shared B). x.opens) it.shared);
        sent = ap (λ (x : Shared B). map nap_sent x.sleepers.items) it.shared;
      } in
      let seen : visible w' ≡ record (visible w) { wakes = poll_taken (driver_of w).armed (visible w).wakes } = grind (arith, show.seen, taken.busy, taken.landed, enter_shown r (driver_of w).armed sound.flown.polled sub.tagged) in
      subst (λ x. Steps left spot w s x w' s') (sym (it.event ∙ ap (λ b. if b then Busy else Enter) busy))
      (served left spot q w w' s s' Enter sound serves keeps spares (balances_still q w w' s s' sound.here serves spares passes (ap (λ (v : Worker). v.home.deferred.notes.wakes.items) worker) (ap (map thing_of) records ∙ things_flown w.names.staged.items s.requests.items) (ap (λ (x : Shared B). map nap_of x.sleepers.items) it.shared))
      (λ p vs suits.
      let chair = sound.seated.seat in
      let there = sound.seated.there in
      let all = common_of left spot p vs s in
      let x = things_with vs s in
      let here : record w { place = q } ≡ w = ap (λ y. record w { place = y }) (sym sound.here) in
      let vs' = with_view vs i (visible w') in
      let desk : desk_of w' ≡ record (desk_of w) { place = w'.place; may_put_off = w'.put_off.defer; put_off = w'.put_off.«enter»; entries = 0; others = (desk_of w).others + length w.names.untold.items } =
      show.desk ∙ ap (λ (v : Worker). desk_with w w'.place w'.put_off v.home.deferred d') worker
      ∙ ap (λ es. record (desk_of w) { place = w'.place; may_put_off = w'.put_off.defer; put_off = w'.put_off.«enter»; entries = length es; others = trailing 0 (completions r') }) taken.staged
      ∙ ap (λ n. record (desk_of w) { place = w'.place; may_put_off = w'.put_off.defer; put_off = w'.put_off.«enter»; entries = 0; others = n }) (taken.others ∙ ap (λ n. trailing 0 (completions r) + n) sub.cancels) in
      let things : things_with vs' s' ≡ set_wake_poll i x (poll_taken (driver_of w).armed (visible w).wakes) =
      ap (things_with vs') it.shared ∙ ap (λ gs. record (things_with vs' s) { gates = gs; answers = numbers_of_passing was_sent 0 s'.requests.items }) (gates_seen_same s.requests.items s'.requests.items s.opens s.opens spares.lines (opens_same s.opens s.opens s.requests.items sound.gates refl)) ∙ ap (λ ns. record (things_with vs' s) { answers = ns }) (passing_same was_sent s.requests.items s'.requests.items spares.lines.sent) ∙ poll_shows vs i s chair there waits (visible w') ∙ ap (λ v. set_wake_poll i x v.wakes) seen in
      let enters : enter (own_of w) (desk_of w) (ring_seen w)
      ≡ record { event = Enter; choice = Plain; desk = record (desk_of w) { entries = 0; others = (desk_of w).others + length w.names.untold.items }; thing = record (ring_seen w) { wakes = poll_taken (driver_of w).armed (visible w).wakes } } =
      rw busy refl in
      subst (λ v. Sees left spot q v w' s s' Enter p vs) (sym here) (record {
        moves = grind (arith, moves p vs suits (ring_there q w s sound waits p vs suits), enters, desk, things);
        may = (rw (sound.here, from.polls, from.free, from.owes w.workers, sound.letters.none from.cancels) refl, (ap (λ y. not y.busy) (own_seat left spot p vs w s chair suits there) ∙ ap not busy, tt));
        own = grind (arith, show.own, worker, untold, on.serves, to.polls, to.free, to.owes w.workers, sound.here, from.polls, from.free, from.owes w.workers);
        common =
            common_by p vs' s s' it.shared
            ∙ ap (λ rs. record (common_of left spot p vs' s) { requests = map (λ y. y.shown) rs; opens = map (open_seen rs) s.opens }) records
            ∙ ap (λ (y : Common). record y { requests = map (λ z. z.shown) flown_now; opens = map (open_seen flown_now) s.opens }) (common_same left spot p vs w w' s suits (λ c. ap (λ v. seat_seen v c) seen))
            ∙ ap (λ rs. record all { requests = rs; opens = map (open_seen flown_now) s.opens }) (all_flown i w.names.staged.items s.requests.items sub.own sub.all)
            ∙ ap (λ os. record all { requests = map (flown i) (map (λ y. y.shown) s.requests.items); opens = os }) (same_opens s.requests.items flown_now (flown_names w.names.staged.items s.requests.items) s.opens);
      })))

  -- once no wake waits at the seat
  entered_then : (q : Place) (w w' : Worker) (s s' : Shared B) (e : Event) → (sound : SoundAt q w s) → sound.seated.seat.raised ≡ 0 → Follows q w'.place → (may_be_due (served_in w'.place) ≡ false → (driver_of w).lists.due ≡ []) → passes_at w'.place ≡ passes_at q
      → EntersRing w s e (record w' { place = w.place; put_off = w.put_off }) s' → MovesBy left spot q w w' s → Steps left spot w s e w' s'
  entered_then q w w' s s' e sound waits on told passes it moves =
      elim ((driver_of w).ring.busy) as (λ b. (driver_of w).ring.busy ≡ b → Steps left spot w s e w' s') [
        | true ↦ busy_entered q w w' s s' e sound waits on told passes it moves
        | false ↦ free_entered q w w' s s' e sound waits on told passes it moves
      ] refl

  pub entered : (q : Place) (w w' : Worker) (s s' : Shared B) (e : Event) → SoundAt q w s → Follows q w'.place → (may_be_due (served_in w'.place) ≡ false → (driver_of w).lists.due ≡ []) → passes_at w'.place ≡ passes_at q
      → (it : Enters w s e (record w' { place = w.place; put_off = w.put_off }) s') → MovesBy left spot q it.mid w' it.rested → Steps left spot w s e w' s'
  entered q w w' s s' e sound on told passes it moves =
      let w1 = it.mid in
      let s1 = it.rested in
      let holds = sound_taken q w w1 s s1 sound it.takes in
      let place : w.place ≡ w1.place = ap (λ x. x.place) (sym it.takes.worker) in
      let put : w.put_off ≡ w1.put_off = ap (λ x. x.put_off) (sym it.takes.worker) in
      raised_first q w w1 s s1 sound it.takes left spot w' s' e
      (entered_then q w1 w' s1 s' e holds (none_waits q w w1 s s1 sound it.takes holds) on (λ h. ap (λ l. l.due) (lists_taken q w w1 s s1 sound it.takes) ∙ told h) passes
      (subst (λ y. EntersRing w1 s1 e (record w' { place = y; put_off = w1.put_off }) s') place (subst (λ o. EntersRing w1 s1 e (record w' { place = w.place; put_off = o }) s') put it.enters)) moves)

  -- where nothing is put off, nor was
  pub without_putting_off : (w w' : Worker) (s s' : Shared B) (e : Event) → (it : Enters w s e (record w' { place = w.place }) s') → w'.put_off ≡ w.put_off
  without_putting_off w w' s s' e it = ap (λ v. v.put_off) it.enters.worker ∙ ap (λ v. v.put_off) it.takes.worker

  abbrev pub with_put_off : (w w' : Worker) (s s' : Shared B) (e : Event) → (it : Enters w s e (record w' { place = w.place }) s') → w'.put_off ≡ w.put_off → Enters w s e (record w' { place = w.place; put_off = w.put_off }) s'
  with_put_off w w' s s' e it same =
      record { mid = it.mid; rested = it.rested; takes = it.takes; enters = subst (λ o. EntersRing it.mid it.rested e (record w' { place = w.place; put_off = o }) s') same it.enters }

  -- THE LAST ENTER OF A SERVICE
  follows_last : (v : Service) → Follows (Place.Service InService.EnterLast v) (Place.Service (InService.Reap Reaping.Last) v)
  follows_last v = record { from = refl; to = refl; serves = refl; armed = refl; closes = refl; wakes = refl; moment = λ m. refl; searches = refl; published = refl; bare = refl; batch = λ ms h. h }

  enter_there : (me : Own) (d : Desk) (p : Place) (i : ℕ) (x : Things) (y : Ring) → with_ring i x (at_place p (enter me d y)) ≡ with_ring i x (led_to p (record { defer = d.may_put_off; «enter» = d.put_off }) (enter me d y))
  enter_there = grind arith

  pub last_entered : (v : Service) (w w' : Worker) (s s' : Shared B) (e : Event) → SoundAt (Place.Service InService.EnterLast v) w s → (it : Enters w s e (record w' { place = w.place }) s')
      → w'.place ≡ Place.Service (InService.Reap Reaping.Last) v → Steps left spot w s e w' s'
  last_entered v w w' s s' e sound it there =
      let q : Place = Place.Service InService.EnterLast v in
      let same : w'.put_off ≡ w.put_off = without_putting_off w w' s s' e it in
      let mid_put : w'.put_off ≡ it.mid.put_off = ap (λ x. x.put_off) it.enters.worker in
      entered q w w' s s' e sound (subst (λ p. Follows q p) (sym there) (follows_last v)) (λ h. sound.due.told refl) (ap passes_at there) (with_put_off w w' s s' e it same)
      (λ p vs suits ring.
      ap (λ y. with_ring it.mid.index (things_with vs it.rested) (at_place (Place.Service (InService.Reap Reaping.Last) v) (enter (own_of it.mid) (desk_of it.mid) y))) ring
      ∙ enter_there (own_of it.mid) (desk_of it.mid) (Place.Service (InService.Reap Reaping.Last) v) it.mid.index (things_with vs it.rested) (ring_seen it.mid)
      ∙ ap (λ o. with_ring it.mid.index (things_with vs it.rested) (led_to (Place.Service (InService.Reap Reaping.Last) v) o (enter (own_of it.mid) (desk_of it.mid) (ring_seen it.mid)))) (sym mid_put)
      ∙ ap (λ y. with_ring it.mid.index (things_with vs it.rested) (led_to y w'.put_off (enter (own_of it.mid) (desk_of it.mid) (ring_seen it.mid)))) (sym there))

  -- THE ENTER OF A FULL RING, BEFORE A WAIT
  follows_full : (y : Stay) → Follows (Place.RingWait InRingWait.EnterFullRing y) (Place.RingWait InRingWait.TestRing y)
  follows_full y = record { from = refl; to = refl; serves = refl; armed = refl; closes = refl; wakes = refl; moment = λ m. refl; searches = refl; published = refl; bare = refl; batch = λ ms h. h }

  enter_from : (me : Own) (d : Desk) (p : Place) (i : ℕ) (x : Things) (y : Ring) → with_ring i x (enter me (record d { place = p }) y) ≡ with_ring i x (led_to p (record { defer = d.may_put_off; «enter» = d.put_off }) (enter me d y))
  enter_from = grind arith

  pub full_ring_entered : (y : Stay) (w w' : Worker) (s s' : Shared B) (e : Event) → SoundAt (Place.RingWait InRingWait.EnterFullRing y) w s → (it : Enters w s e (record w' { place = w.place }) s')
      → w'.place ≡ Place.RingWait InRingWait.TestRing y → Steps left spot w s e w' s'
  full_ring_entered y w w' s s' e sound it there =
      let q : Place = Place.RingWait InRingWait.EnterFullRing y in
      let same : w'.put_off ≡ w.put_off = without_putting_off w w' s s' e it in
      let mid_put : w'.put_off ≡ it.mid.put_off = ap (λ x. x.put_off) it.enters.worker in
      entered q w w' s s' e sound (subst (λ p. Follows q p) (sym there) (follows_full y)) (λ h. sound.due.told refl) (ap passes_at there) (with_put_off w w' s s' e it same)
      (λ p vs suits ring.
      ap (λ z. with_ring it.mid.index (things_with vs it.rested) (enter (own_of it.mid) (record (desk_of it.mid) { place = Place.RingWait InRingWait.TestRing y }) z)) ring
      ∙ enter_from (own_of it.mid) (desk_of it.mid) (Place.RingWait InRingWait.TestRing y) it.mid.index (things_with vs it.rested) (ring_seen it.mid)
      ∙ ap (λ o. with_ring it.mid.index (things_with vs it.rested) (led_to (Place.RingWait InRingWait.TestRing y) o (enter (own_of it.mid) (desk_of it.mid) (ring_seen it.mid)))) (sym mid_put)
      ∙ ap (λ z. with_ring it.mid.index (things_with vs it.rested) (led_to z w'.put_off (enter (own_of it.mid) (desk_of it.mid) (ring_seen it.mid)))) (sym there))
