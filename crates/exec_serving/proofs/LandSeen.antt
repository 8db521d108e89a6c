-- A result has landed: what is seen, and what others rely on.
use Rattle.std.proofs.{Common.{◌≡◌, ℕ, zero, suc, Option, Some, ◌&&◌, List, [], ◌∷◌, ◌++◌, map, refl, sym, ap, subst, ◌∙◌, arith, slice_get, slice_set, slice_index_or}, lemmas.List.map-append}
use Rattle.exec_outcomes.specs.{Accounts.is_durable, declared.outcome.OpResult.OpResult}
use Rattle.exec_request.specs.declared.request.Request.{Request as Asking}
use Rattle.exec_ring.specs.Completions.{completed}
use Rattle.exec_moves.specs.{State.{passed, wake_poll_of}, Thing.set_wake_poll}
use Rattle.exec_waiters.{specs.{Ids.user_data_of, States.flying_count, declared.waiter.Entry.TheVariants.Pending}, proofs.Changes.entry_of}
use Rattle.exec_base.specs.Slab.{value_at}
use Rattle.exec_task.specs.declared.body.Said.{Said}
use Rattle.exec_machine.specs.{Callers.after_landing, Progress.Plan, Tests.is_resolved, World.Seat, declared.state.Rest.TheVariants.Awake}
use Rattle.exec_parts.specs.{declared.parts.{record.Record.Record, seat.Seat.Seat as Chair, shared.Shared.Shared, worker.Worker.Worker}, Phased.TurnsChair, Records.roused, Spots.Spot, View.{Views, Visible, awaited_from, common_of, desk_of, driver_of, gate_seen, number_told, numbers_of_passing, open_seen, own_of, seat_seen, seats_seen, slots_seen, things_with, visible, wake_poll_in, with_view}}
use Rattle.exec_invariants.{proofs.{Showing.map_kept, Aside.{SameProfile, profile_same, queue_of_chair, queues_set, seats_own, spares_turn, whole_same}, Serving.spares_service, Seats.own_seat, Recorded.{request_seen, shown_changed}, Carrying.{index_told, one_landed, sum_changed}, Changing.flying_after, Going.{thing_on, things_changed}, Keys.{name_in, names_changed, same_opens}, Lined.{gates_kept, gates_seen_same, opens_same, passing_same, was_sent}, Raising.{poll_shows, poll_shown, rest_shows}, Shown.{own_with, visible_with}, Slotted.{awaited_written, slots_written}, PoolKept.gates_set}, specs.{Carried.{HasRoom, landing, may_move}, Flown.operations, Gates.HaveGates, Holding.{IsHolding, box_of, holder_of, nap_of, thing_of}, Sound.Sound, Spares.Spares, Whole.{IsWhole, hands_of, with_worker}, Works.{Beside, Suits}}}
use Rattle.exec_serving.proofs.{LandMoves.{Leaves, Refilled, less_moves}, Landing.{Lander, driver_then, landing_on, place_of, records_then, there_so, waiter_then}, Landed.{landed_lines, landed_spares}}

-- two changes at one place
seat_changed : (vs : List Visible) (seats : List Chair) (i : ℕ) (v : Visible) (chair : Chair) → seats_seen (slice_set vs i v) (slice_set seats i chair) ≡ slice_set (seats_seen vs seats) i (seat_seen v chair)
seat_changed [] seats i v chair = refl
seat_changed (x ∷ vs) [] zero v chair = refl
seat_changed (x ∷ vs) [] (suc i) v chair = refl
seat_changed (x ∷ vs) (seat ∷ seats) zero v chair = refl
seat_changed (x ∷ vs) (seat ∷ seats) (suc i) v chair = ap (λ xs. seat_seen x seat ∷ xs) (seat_changed vs seats i v chair)

module _ {B : Type 0} (w : Worker) (s : Shared B) (k : ℕ) (n : OpResult) (who : Lander w s k n) (q : Asking) (same : Refilled who.it.request q) (sound : Sound w s) where
  -- its record, whatever it was found by
  pub records_set : (x : Record) → x ≡ who.r → slice_set s.requests.items k (landing n x) ≡ records_then w s k n who
  records_set = grind arith

  -- OF ITS WORKER

  pub landed_own : (w' : Worker) → driver_of w' ≡ driver_then w s k n who q → w' ≡ record w { home = record w.home { driver = w'.home.driver } } → own_of w' ≡ own_of w
  landed_own w' driver worker =
      let flying : flying_count (driver_then w s k n who q).requests ≡ flying_count (driver_of w).requests =
      let e = flying_after (driver_of w).requests who.r.id.0 who.it (waiter_then w s k n who q) who.live in omega (arith, e) in
      ap own_of worker ∙ ap (own_with w w.place w.names.ended.items w.names.untold.items) driver ∙ ap (λ m. record (own_of w) { in_flight = m }) flying

  pub landed_desk : (w' : Worker) → driver_of w' ≡ driver_then w s k n who q → w' ≡ record w { home = record w.home { driver = w'.home.driver } } → desk_of w' ≡ record (desk_of w) { others = 0 }
  landed_desk w' driver worker =
      let d' = driver_then w s k n who q in
      let numbers = w.names.requests.items in
      let requests = (driver_of w).requests in
      let one_more = one_landed (driver_of w).ring (user_data_of who.r.id.0) n (rw (index_told who.r.id.0 who.small) who.small) in
      let value : value_at requests who.r.id.0 ≡ Some (Pending who.it) = entry_of (value_at requests who.r.id.0) who.it who.live in
      let slots : slots_seen numbers d'.requests ≡ slots_seen numbers requests = slots_written numbers requests who.r.id.0 (Pending who.it) (Pending (waiter_then w s k n who q)) value in
      let awaited : awaited_from 0 numbers d'.requests.slots ≡ awaited_from 0 numbers requests.slots = awaited_written numbers requests who.r.id.0 (Pending who.it) (Pending (waiter_then w s k n who q)) value refl in
      grind arith

  landed_visible : (w' : Worker) → driver_of w' ≡ driver_then w s k n who q → w' ≡ record w { home = record w.home { driver = w'.home.driver } } → visible w' ≡ record (visible w) { landed = (visible w).landed ++ k ∷ []; wakes = passed (visible w).wakes }
  landed_visible w' driver worker =
      let ring' = (driver_then w s k n who q).ring in
      let one_more = one_landed (driver_of w).ring (user_data_of who.r.id.0) n (rw (index_told who.r.id.0 who.small) who.small) in
      let c = completed (user_data_of who.r.id.0) n in
      let number : number_told w.names.requests.items c ≡ k = ap (λ j. slice_index_or w.names.requests.items j 0) (index_told who.r.id.0 who.small) ∙ who.number in
      ap visible worker ∙ ap (λ x. visible_with w.names.requests.items (visible w).taken x.ring) driver
      ∙ ap (λ cs. record (visible w) { landed = map (number_told w.names.requests.items) cs; wakes = wake_poll_in ring' }) one_more.operated
      ∙ ap (λ ks. record (visible w) { landed = ks; wakes = wake_poll_in ring' }) (map-append (number_told w.names.requests.items) (operations (driver_of w).ring) (c ∷ []) ∙ ap (λ j. map (number_told w.names.requests.items) (operations (driver_of w).ring) ++ j ∷ []) number)
      ∙ ap (λ p. record (visible w) { landed = (visible w).landed ++ k ∷ []; wakes = p }) one_more.poll

  -- OF WHAT STANDS BESIDE THE MACHINE, where no wake waits at the seat

  pub landed_things : (w' : Worker) (s' : Shared B) → driver_of w' ≡ driver_then w s k n who q → w' ≡ record w { home = record w.home { driver = w'.home.driver } } → s'.requests.items ≡ records_then w s k n who
      → s' ≡ record s { seats = s'.seats; requests = s'.requests; store = s'.store } → TurnsChair w.index roused s s' → sound.seated.seat.raised ≡ 0
      → (vs : Views) → slice_get vs.workers w.index ≡ Some (visible w) → things_with (with_view vs w.index (visible w')) s' ≡ set_wake_poll w.index (things_with vs s) (passed (wake_poll_of (things_with vs s) w.index))
  landed_things w' s' driver worker records kept turns none vs seen =
      let chair = sound.seated.seat in
      let there = sound.seated.there in
      let vs' = with_view vs w.index (visible w') in
      let rs = s.requests.items in
      let rs' = records_then w s k n who in
      let lines = landed_lines w s k n who q same sound in
      let s1 : Shared B = record s { seats = s'.seats } in
      ap (things_with vs') kept
      ∙ ap (λ xs. record (things_with vs' s1) { gates = map (gate_seen xs) s.opens; answers = numbers_of_passing was_sent 0 xs }) records
      ∙ ap (λ gs. record (things_with vs' s1) { gates = gs; answers = numbers_of_passing was_sent 0 rs' }) (gates_seen_same rs rs' s.opens s.opens lines (opens_same s.opens s.opens rs sound.gates refl))
      ∙ ap (λ ns. record (things_with vs' s1) { answers = ns }) (passing_same was_sent rs rs' lines.sent)
      ∙ rest_shows vs' w.index s chair there Awake s'.seats.items (turns chair there)
      ∙ poll_shows vs w.index s chair there none (visible w')
      ∙ ap (λ v. set_wake_poll w.index (things_with vs s) v.wakes) (landed_visible w' driver worker)
      ∙ ap (λ p. set_wake_poll w.index (things_with vs s) (passed p)) (sym (poll_shown vs w.index s chair there none (visible w) seen))

  -- WHAT OTHERS RELY ON

  room_before : HasRoom (records_then w s k n who) s.store
  room_before = λ out socket.
      let sum = sum_changed (may_move out socket) s.requests.items (place_of w s k n who) who.r (landing n) (there_so w s k n who) in
      omega (arith, sum, less_moves who.r n who.flies out socket, sound.carried.room out socket)

  pub landed_beside : (w' : Worker) (s' : Shared B) → w' ≡ record w { home = record w.home { driver = w'.home.driver } } → Sound w' s' → s'.requests.items ≡ records_then w s k n who → Leaves who.r.shown.operation n s.store s'.store
      → s' ≡ record s { seats = s'.seats; requests = s'.requests; store = s'.store } → TurnsChair w.index roused s s' → Beside w s w' s'
  landed_beside w' s' worker holds records leaves kept turns =
      let chair = sound.seated.seat in
      let there = sound.seated.there in
      let set : s'.seats.items ≡ slice_set s.seats.items w.index (roused chair) = turns chair there in
      let seats = seats_own w.index s.seats.items s'.seats.items chair (roused chair) set there (omega arith) in
      let profile : SameProfile w w' = subst (SameProfile w) (sym worker) (record { hand = refl; loot = refl; polls = refl; claims = refl; searching = refl; counts = refl; index = refl; published = refl; drops = refl; told = record { batch = refl; letters = refl; left = refl } }) in
      let gates = gates_set w.index s.seats.items s'.seats.items chair (roused chair) set there (record { left = refl; pool = refl; closed = refl; mail = λ h. h }) in
      let s1 : Shared B = record s { seats = s'.seats } in
      let s2 : Shared B = record s { requests = s'.requests } in
      let s3 : Shared B = record s { seats = s'.seats; requests = s'.requests; store = s'.store } in
      let room : HasRoom s2.requests.items s2.store = subst (λ rs. HasRoom rs s.store) (sym records) room_before in
      record {
        spares = λ j other.
            let by_records : Spares j s s2 = spares_service w.index j s s2 other refl (landed_spares w s k n who q same sound s2 refl refl records) room in
            let room' : HasRoom s3.requests.items s3.store = subst (λ (x : Shared B). HasRoom x.requests.items x.store) kept holds.carried.room in
            let room_then : HasRoom s.requests.items s.store → HasRoom s3.requests.items s3.store = λ h. room' in
            let done : Spares j s s3 = assumption (room_then, leaves.stretch, by_records, spares_turn w.index j s s1 other refl seats) in
            subst (λ z. Spares j s z) (sym kept) done;
        whole = λ others whole.
            let x = with_worker others w' in
            let rs = s.requests.items in
            let rs' = records_then w s k n who in
            let shares : s1 ≡ record s { seats = s1.seats; idle = s1.idle; global = s1.global } = refl in
            let queues : map queue_of_chair s'.seats.items ≡ map queue_of_chair s.seats.items = ap (map queue_of_chair) set ∙ queues_set s.seats.items w.index chair (roused chair) there refl in
            let boxes : map box_of s'.seats.items ≡ map box_of s.seats.items = ap (map box_of) set ∙ map_kept box_of s.seats.items w.index (roused chair) chair there refl in
            let by_seats : IsWhole x s1 = subst (λ x. IsWhole x s1) (sym (profile_same others w w' profile)) (whole_same (with_worker others w) s s1 shares gates queues boxes refl refl whole) in
            let lined : HaveGates x.drops_by s.opens s'.requests.items = subst (HaveGates x.drops_by s.opens) (sym records) (gates_kept rs rs' (landed_lines w s k n who q same sound) x.drops_by s.opens by_seats.gates) in
            let things : map thing_of s'.requests.items ≡ map thing_of rs = ap (map thing_of) records ∙ things_changed rs (place_of w s k n who) who.r (landing n) (there_so w s k n who) (thing_on who.r (landing n who.r) (landing_on n who.r who.flies)) in
            let holding : IsHolding (hands_of x) s.config.workers (map holder_of s.tasks.items) (map thing_of s'.requests.items) (map nap_of s.sleepers.items) (map box_of s'.seats.items) =
            subst (λ ts. IsHolding (hands_of x) s.config.workers (map holder_of s.tasks.items) ts (map nap_of s.sleepers.items) (map box_of s'.seats.items)) (sym things) by_seats.holding in
            let again : IsWhole x s3 = assumption (lined, holding, by_seats) in
            subst (IsWhole x) (sym kept) again;
      }

  module _ {L : Type 0} (left : B → L) (spot : L → Option Said → Spot) where
    pub landed_common : (w' : Worker) (s' : Shared B) → driver_of w' ≡ driver_then w s k n who q → w' ≡ record w { home = record w.home { driver = w'.home.driver } } → s'.requests.items ≡ records_then w s k n who
        → s' ≡ record s { seats = s'.seats; requests = s'.requests; store = s'.store } → TurnsChair w.index roused s s' → (p : Plan) (vs : Views) → Suits p vs w s
        → common_of left spot p (with_view vs w.index (visible w')) s' ≡ after_landing (common_of left spot p vs s) k n
    landed_common w' s' driver worker records kept turns p vs suits =
        let rs = s.requests.items in
        let at = place_of w s k n who in
        let rs' = records_then w s k n who in
        let chair = sound.seated.seat in
        let all = common_of left spot p vs s in
        let vs' = with_view vs w.index (visible w') in
        let seen = own_seat left spot p vs w s chair suits sound.seated.there in
        let seats : seats_seen vs'.workers s'.seats.items ≡ slice_set all.seats w.index (record (seat_seen (visible w) chair) { landed = (visible w).landed ++ k ∷ []; rest = Awake }) =
        ap (seats_seen vs'.workers) (turns chair sound.seated.there) ∙ seat_changed vs.workers s.seats.items w.index (visible w') (roused chair)
        ∙ ap (λ v. slice_set all.seats w.index (seat_seen v (roused chair))) (landed_visible w' driver worker) in
        let gives : name_in (landing n who.r) ≡ name_in who.r = ap (λ b. record (name_in who.r) { over = b && is_durable who.r.shown.operation.kind }) (sym (ap is_resolved who.flies)) in
        let names = names_changed rs at who.r (landing n) (there_so w s k n who) gives in
        let shown : map (λ x. x.shown) rs' ≡ slice_set (map (λ x. x.shown) rs) k (landing n who.r).shown =
        shown_changed (landing n) rs at who.r (there_so w s k n who) ∙ ap (λ j. slice_set (map (λ x. x.shown) rs) j (landing n who.r).shown) who.number in
        ap (common_of left spot p vs') kept
        ∙ ap (λ xs. record all { seats = xs; requests = map (λ x. x.shown) s'.requests.items; opens = map (open_seen s'.requests.items) s.opens }) seats
        ∙ ap (λ xs. record all { seats = slice_set all.seats w.index (record (seat_seen (visible w) chair) { landed = (visible w).landed ++ k ∷ []; rest = Awake }); requests = map (λ x. x.shown) xs; opens = map (open_seen xs) s.opens }) records
        ∙ ap (λ os. record all { seats = slice_set all.seats w.index (record (seat_seen (visible w) chair) { landed = (visible w).landed ++ k ∷ []; rest = Awake }); requests = map (λ x. x.shown) rs'; opens = os }) (same_opens rs rs' names s.opens)
        ∙ ap (λ xs. record all { seats = slice_set all.seats w.index (record (seat_seen (visible w) chair) { landed = (visible w).landed ++ k ∷ []; rest = Awake }); requests = xs }) shown
        ∙ ap (λ (x : Seat). record all { seats = slice_set all.seats w.index (record x { landed = x.landed ++ k ∷ []; rest = Awake }); requests = slice_set all.requests k (landing n who.r).shown }) (sym seen)
        ∙ rw (request_seen rs k who.r who.there, who.mine) refl
