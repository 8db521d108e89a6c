-- A result lands: whose request it is, and what becomes of that.
use Rattle.std.proofs.{Common.{◌≡◌, ◌≢◌, ℕ, ◌<◌, ◌==◌, ◌&&◌, inl, not, Bool, true, false, List, [], ◌∷◌, ◌++◌, map, Option, Some, None, refl, sym, ap, subst, ◌∙◌, is_some, slice_get, slice_index_or, arith}, lemmas.{Bool.{false≢true, eq-eqb}, List.{map-append, Folds.list_any-append}}}
use Rattle.exec_base.specs.{Slab.{value_at, written}, declared.slab.Id.Id}
use Rattle.exec_outcomes.specs.{Accounts.is_durable, Lawful.{is_lawful, window_of}, declared.outcome.OpResult.OpResult}
use Rattle.exec_request.specs.{Requests.{asked_of, cursor_of, deadline_of, target_of}, declared.request.Request.Request as Asking}
use Rattle.exec_ring.specs.{Completions.{completed, number_of, result_in}, Kernels.{is_of, landed}, declared.{completion.Completion.Completion, store.Store.Store}}
use Rattle.exec_waiters.{specs.{Ids.user_data_of, States.{needs_permit, takes_tick, waiter_at}, declared.waiter.{Entry.TheVariants.Pending, Waiter.Waiter}}, proofs.Changes.entry_of}
use Rattle.exec_driver.specs.{Driving.Driving, Steps.LandsOne}
use Rattle.exec_lists.proofs.Counting.{OneChanged}
use Rattle.exec_machine.specs.{declared.state.RequestPhase.RequestPhase, Tests.{is_in_flight, is_resolved, is_staged}}
use Rattle.exec_parts.{specs.{declared.parts.{mail.Reply.Reply, record.Record.Record, shared.Shared.Shared, worker.Worker.Worker}, Records.number_in, Serving.changed_at, View.{driver_of, number_told}}, proofs.Facts.{and_parts, by_name, not_same}}
use Rattle.exec_invariants.{specs.{Carried.{HasStretchFor, IsCarried, IsLone, IsUnderWay, IsWhole, MayLand, those_of, landing}, Flown.{AreLanded, HasFlown, HasLanded, IsPlain, operations}, Gates.IsKnown, Sound.{Sound, served_in}, Names.{IsAlike, IsSubmitted}}, proofs.{Marking.{known_then, mark_kept, mark_if, marked, plain_kept, was_marked}, Carrying.{others_fly, one_landed, index_told, generation_told, result_told, lone_removed}, Changing.{OneGoesOn, all_go_one, apart_number, changes_one}, Conveying.carried_one, Flown.landed_on, Going.{AllGoOn, GoesOn, owning_on}, Known.known_written}}
use Rattle.exec_serving.proofs.LandMoves.{Lands, Leaves, MayFly, Refilled, may_fly, flown_so, less_moves, room_landed, stretch_then}

-- WHO LANDS

-- the request that is to land, with what its driver and its kernel have of it
pub record Lander {B : Type 0} (w : Worker) (s : Shared B) (k : ℕ) (n : OpResult) : Type 0 where
  pub r : Record
  pub there : slice_get s.requests.items k ≡ Some r
  pub mine : r.shown.worker ≡ w.index
  pub flies : r.shown.phase ≡ RequestPhase.Flying
  pub it : Waiter Reply Reply
  pub live : waiter_at (driver_of w).requests r.id.0 ≡ Some it
  pub number : number_in w.names.requests.items r.id.0 ≡ k
  pub alike : IsAlike (driver_of w).wheel.start (driver_of w).wheel.tick it r.shown
  pub in_flight : it.in_flight ≡ true
  pub lone : IsLone (user_data_of r.id.0) it.request (driver_of w).ring.flying
  pub unstaged : those_of (user_data_of r.id.0) (driver_of w).ring.staged ≡ []
  pub small : r.id.0.index < 4294967295
  pub whole : IsWhole it.request
  pub stretch : HasStretchFor it.request s.store
  pub target : r.shown.operation.target ≡ target_of it.request
  pub fit : MayFly it.request r.shown.operation (user_data_of r.id.0) n (driver_of w).ring s.store

module _ {B : Type 0} (w : Worker) (s : Shared B) (k : ℕ) (n : OpResult) (sound : Sound w s) (may : MayLand s.requests.items k n) (mine : (r : Record) → slice_get s.requests.items k ≡ Some r → r.shown.worker ≡ w.index) where
  lander_by : (o : Option (Waiter Reply Reply)) → waiter_at (driver_of w).requests may.it.id.0 ≡ o → Lander w s k n
  lander_by None gone =
      absurd (false≢true (ap is_resolved (sym may.flies) ∙ sound.named.over k may.it may.there (mine may.it may.there) gone))
  lander_by (Some it) live =
      let r = may.it in
      let id = r.id.0 in
      let number : number_in w.names.requests.items id ≡ k = (sound.due.timed k r may.there (mine r may.there)).named (ap is_resolved may.flies) in
      let there : slice_get s.requests.items (number_in w.names.requests.items id) ≡ Some r = ap (slice_get s.requests.items) number ∙ may.there in
      let a = sound.named.alike id it r live there in
      let alone = flies_alone id it r live there may.flies in
      let whole = sound.carried.whole id it live in
      let stretch = sound.carried.stretch id it live in
      let target = sound.carried.target id it r live there in
      let fit = may_fly it.request r (user_data_of id) n s.requests.items k (driver_of w).ring s.store whole stretch may.there may.flies a.asked a.moved a.switched target alone.0 may.lawful sound.carried.room in
      search (may.there, mine r may.there, may.flies, live, number, a, sym a.flying ∙ ap is_in_flight may.flies, alone.0, alone.1, sound.carried.slots id it live, whole, stretch, target, fit)
    where
      flies_alone : (id : Id) (it : Waiter Reply Reply) (r : Record) → waiter_at (driver_of w).requests id ≡ Some it → slice_get s.requests.items (number_in w.names.requests.items id) ≡ Some r → r.shown.phase ≡ RequestPhase.Flying → IsUnderWay RequestPhase.Flying (user_data_of id) it.request (driver_of w).ring
      flies_alone id it r live there flies = subst (λ p. IsUnderWay p (user_data_of id) it.request (driver_of w).ring) flies (sound.carried.carried id it r live there)

  pub lander : Lander w s k n
  lander = lander_by (waiter_at (driver_of w).requests may.it.id.0) refl

-- WHAT HAS BECOME OF THEM

pub landing_on : (n : OpResult) (r : Record) → r.shown.phase ≡ RequestPhase.Flying → GoesOn r (landing n r)
landing_on n r flies =
    record { same = refl; over = sym (ap is_resolved flies); ended = λ h. absurd (false≢true (sym (ap is_resolved flies) ∙ h)) }

-- bytes may have come into its buffer
pub landing_alike : (start tick : ℕ) (n : OpResult) (it : Waiter Reply Reply) (q : Asking) (r : Record) → r.shown.phase ≡ RequestPhase.Flying → it.in_flight ≡ true → Refilled it.request q → IsAlike start tick it r.shown → IsAlike start tick (record it { request = q }) (landing n r).shown
landing_alike = grind arith

pub plain_landed : (n : OpResult) (r : Record) → IsPlain r.shown → IsPlain (landing n r).shown
plain_landed n r p = record { bounded = p.bounded; moved = p.moved; deadline = p.deadline }

mark_staged : (n : OpResult) (b : Bool) (r : Record) → is_staged (mark_if (landing n) b r).shown.phase ≡ true → is_staged r.shown.phase ≡ true
mark_staged n true r h = absurd (false≢true h)
mark_staged n false r h = h

module _ {B : Type 0} (w : Worker) (s : Shared B) (k : ℕ) (n : OpResult) (who : Lander w s k n) where
  abbrev pub place_of : ℕ
  place_of = number_in w.names.requests.items who.r.id.0

  abbrev pub records_then : List Record
  records_then = changed_at s.requests.items place_of (landing n)

  pub there_so : slice_get s.requests.items place_of ≡ Some who.r
  there_so = ap (slice_get s.requests.items) who.number ∙ who.there

  abbrev pub waiter_then : Asking → Waiter Reply Reply
  waiter_then q = record who.it { request = q }

  abbrev pub driver_then : Asking → Driving Reply Reply
  driver_then q = record (driver_of w) { requests = written (driver_of w).requests who.r.id.0 (Pending (waiter_then q)); ring = landed (driver_of w).ring (user_data_of who.r.id.0) n }

  -- the driver and the store
  pub record After (d' : Driving Reply Reply) (st' : Store) : Type 0 where
    pub q : Asking
    pub lands : Lands who.it.request q who.r.shown.operation n s.store st'
    pub driver : d' ≡ driver_then q

  pub after_one : (d' : Driving Reply Reply) (st' : Store) → LandsOne (driver_of w) d' who.r.id who.it n s.store st' → After d' st'
  after_one d' st' one =
      let lands = flown_so who.it.request one.lands.request who.r.shown.operation (user_data_of who.r.id.0) n (driver_of w).ring s.store st' who.alike.asked who.target who.fit one.lands.moved in
      search (lands, one.driver ∙ ap (λ x. record (driver_of w) { requests = x; ring = landed (driver_of w).ring (user_data_of who.r.id.0) n }) one.lands.slab)

  module _ (q : Asking) (same : Refilled who.it.request q) (sound : Sound w s) where
    d' : Driving Reply Reply
    d' = driver_then q

    changed : OneChanged (driver_of w).requests (written (driver_of w).requests who.r.id.0 (Pending (waiter_then q))) who.r.id.0 (Some who.it) (Some (waiter_then q))
    changed = changes_one (driver_of w).requests who.r.id.0 who.it (waiter_then q) who.live

    pub one : OneGoesOn w.names w.names (driver_of w) (driver_then q) s.requests.items who.r.id.0 who.it (waiter_then q) who.r (landing n)
    one =
        assumption (there_so, landing_on n who.r who.flies, landing_alike (driver_of w).wheel.start (driver_of w).wheel.tick n who.it q who.r who.flies who.in_flight same who.alike, who)

    pub all_on : AllGoOn s.requests.items records_then
    all_on = all_go_one s.requests.items place_of (landing n) who.r there_so (landing_on n who.r who.flies)

    -- WHAT THE KERNEL HAS STILL

    pub carried_then : (st' : Store) → Leaves who.r.shown.operation n s.store st' → IsCarried w.names.requests.items (driver_then q).requests (driver_then q).ring records_then st'
    carried_then st' leaves =
        let u = user_data_of who.r.id.0 in
        let ring = (driver_of w).ring in
        let under : IsUnderWay (RequestPhase.Landed n) u q (driver_then q).ring = (lone_removed (is_of u) ring.flying who.lone.e who.lone.lone, who.unstaged) in
        let there =
        carried_one w.names.requests.items (driver_of w).requests ring s.requests.items s.store sound.carried who.r.id.0 who.it (waiter_then q) who.r (landing n) (driver_then q).ring who.live there_so
        (λ v apart. others_fly u v ring n apart) (λ v apart. refl) under (same.whole who.whole) (who.target ∙ sym same.target) (λ out socket. less_moves who.r n who.flies out socket) (same.stretch s.store who.stretch)
        (λ other x live apart. apart_number w.index w.names w.names (driver_of w) (driver_then q) w.home.timers s.requests.items s.sleepers.items who.r.id.0 who.it (waiter_then q) who.r (landing n) one sound.named other (rw (entry_of (value_at (driver_of w).requests other) x live) refl) apart) in
        let stretch : (other : Id) (x : Waiter Reply Reply) → waiter_at (driver_then q).requests other ≡ Some x → HasStretchFor x.request st' = λ other x live. stretch_then x.request who.r.shown.operation n s.store st' leaves (there.stretch other x live) in
        assumption (room_landed who.r n s.requests.items place_of s.store st' there_so who.flies who.fit.shown leaves sound.carried.room, stretch, there)

    -- WHAT HAS LANDED

    told_by : (c : Completion) → HasLanded w.names (driver_of w) s.requests.items c → place_of ≡ number_told w.names.requests.items c → ⊥
    told_by c h at =
        let number : number_told w.names.requests.items c ≡ number_in w.names.requests.items h.id = ap (λ j. slice_index_or w.names.requests.items j 0) (sym h.index) in
        let is : who.r ≡ h.r = cc (ap (slice_get s.requests.items) (sym (at ∙ number)) ∙ there_so, h.there) in
        cc

    landed_last : (cs : List Completion) (c : Completion) → AreLanded w.names (driver_of w) s.requests.items cs → AreLanded w.names (driver_then q) records_then cs → HasLanded w.names (driver_then q) records_then c
        → number_told w.names.requests.items c ≡ place_of → AreLanded w.names (driver_then q) records_then (cs ++ c ∷ [])
    landed_last [] c was are last number = (last, refl, tt)
    landed_last (x ∷ cs) c was are last number = (
      are.0,
      rw (map-append (number_told w.names.requests.items) cs (c ∷ []), list_any-append (λ j. j == number_told w.names.requests.items x) (map (number_told w.names.requests.items) cs) (number_told w.names.requests.items c ∷ []), are.1, number, not_same place_of (number_told w.names.requests.items x) (told_by x was.0)) refl,
      landed_last cs c was.2 are.2 last number,
    )

    has_landed : HasLanded w.names (driver_then q) records_then (completed (user_data_of who.r.id.0) n)
    has_landed =
        let told = result_told _ n who.fit.lawful in
        let window : window_of (asked_of q) (cursor_of q) ≡ window_of (asked_of who.it.request) (cursor_of who.it.request) = ap (λ a. window_of a (cursor_of q)) same.asked ∙ ap (λ c. window_of (asked_of who.it.request) c) same.cursor in
        let lawful = ap (λ m. is_lawful m (result_in (number_of n))) window ∙ ap (λ g. is_lawful (window_of (asked_of who.it.request) (cursor_of who.it.request)) g) told ∙ who.fit.lawful in
        let there = marked (landing n) s.requests.items place_of place_of who.r there_so ∙ ap (λ b. Some (mark_if (landing n) b who.r)) (eq-eqb place_of place_of refl) in
        search (sym (index_told who.r.id.0 who.small), sym (generation_told who.r.id.0 who.small), changed.is_at, who.in_flight, lawful, there, ap RequestPhase.Landed (sym told))

    pub landed_then : AreLanded w.names (driver_then q) records_then (operations (driver_then q).ring)
    landed_then =
        let one_more = one_landed (driver_of w).ring (user_data_of who.r.id.0) n (rw (index_told who.r.id.0 who.small) who.small) in
        let on = landed_on w.names w.names (driver_of w) (driver_then q) s.requests.items records_then (operations (driver_of w).ring) sound.flown.landed
        (λ other x y given live flies found landed.
        let j = number_in w.names.requests.items other in
        let apart : place_of ≡ j → ⊥ = λ at.
        let is : who.r ≡ y = cc (ap (slice_get s.requests.items) (sym at) ∙ there_so, found) in
        cc in
        let differs : other ≢ who.r.id.0 = λ e. apart (ap (number_in w.names.requests.items) (sym e)) in
        record { it' = x; r' = y; live = changed.others other differs ∙ live; flies = refl; same = refl; number = refl; there = marked (landing n) s.requests.items place_of j y found ∙ ap (λ b. Some (mark_if (landing n) b y)) (not_same place_of j apart); phase = refl }) in
        subst (λ cs. AreLanded w.names (driver_then q) records_then cs) (sym one_more.operated)
        (landed_last (operations (driver_of w).ring) (completed (user_data_of who.r.id.0) n) sound.flown.landed on has_landed (ap (λ j. slice_index_or w.names.requests.items j 0) (index_told who.r.id.0 who.small)))

    -- WHAT IS SUBMITTED AND LISTED

    pub submitted_then : IsSubmitted w.index w.names.staged.items w.names.untold.items (driver_then q).ring records_then
    submitted_then =
        let sub = sound.named.submitted in
        let rs = s.requests.items in
        record {
          tagged = sub.tagged;
          cancels = sub.cancels;
          known = known_then (landing n) rs place_of w.names.staged.items sub.known;
          own = λ j x h found.
              let old = was_marked (landing n) rs place_of j x found in
              ap (λ y. y.shown.worker) old.2 ∙ mark_kept ℕ (λ x. x.shown.worker) (landing n) (λ x. refl) (place_of == j) old.0 ∙ sub.own j old.0 h old.1;
          all = λ j x found mine staged.
              let old = was_marked (landing n) rs place_of j x found in
              sub.all j old.0 old.1 (sym (mark_kept ℕ (λ x. x.shown.worker) (landing n) (λ x. refl) (place_of == j) old.0) ∙ sym (ap (λ y. y.shown.worker) old.2) ∙ mine) (mark_staged n (place_of == j) old.0 (sym (ap (λ y. is_staged y.shown.phase) old.2) ∙ staged));
        }

    -- who is there then is another, or waits as before
    was_there : (A : Type 0) (part : Waiter Reply Reply → A) → part (waiter_then q) ≡ part who.it → (other : Id) (x : Waiter Reply Reply) → waiter_at (driver_then q).requests other ≡ Some x
        → (y : Waiter Reply Reply) × (waiter_at (driver_of w).requests other ≡ Some y) × (part x ≡ part y)
    was_there A part kept other x live =
        by_name other who.r.id.0
        (λ apart. (x, sym (changed.others other apart) ∙ live, refl))
        (λ eq.
        let is : x ≡ waiter_then q = cc (live, eq, changed.is_at) in
        (who.it, ap (waiter_at (driver_of w).requests) eq ∙ who.live, ap part is ∙ kept))

    pub flown_then : HasFlown (served_in w.place) w.index w.names (driver_then q) records_then
    flown_then =
        let flown = sound.flown in
        let rs = s.requests.items in
        record {
          ending = flown.ending;
          staging = flown.staging;
          telling = flown.telling;
          entries = flown.entries;
          gated = λ id x live needs.
              let old = was_there Bool needs_permit (ap (λ a. is_durable a.kind && not who.it.permit) same.asked) id.0 x live in
              flown.gated id old.0 old.1 (sym old.2 ∙ needs);
          plain = plain_kept (landing n) rs place_of (plain_landed n) w.index (λ r. refl) flown.plain;
          landed = landed_then;
          enrolling = λ id x live takes some.
              let old = was_there Bool (λ y. takes_tick y.state && is_some (deadline_of y.request)) (ap (λ o. takes_tick who.it.state && is_some o) same.deadline) id.0 x live in
              let both = and_parts (takes_tick old.0.state) (is_some (deadline_of old.0.request)) (sym old.2 ∙ ap (λ b. b && is_some (deadline_of x.request)) takes ∙ some) in
              flown.enrolling id old.0 old.1 both.0 both.1;
          polled = (one_landed (driver_of w).ring (user_data_of who.r.id.0) n (rw (index_told who.r.id.0 who.small) who.small)).polled (driver_of w).armed flown.polled;
          owning = owning_on rs records_then all_on flown.owning;
          uncancelled = λ id x among found mine.
              let j = number_in w.names.requests.items id.0 in
              let old = was_marked (landing n) rs place_of j x found in
              ap (λ y. y.shown.cancel_staged) old.2 ∙ mark_kept Bool (λ x. x.shown.cancel_staged) (landing n) (λ x. refl) (place_of == j) old.0
              ∙ flown.uncancelled id old.0 among old.1 (sym (mark_kept ℕ (λ y. y.shown.worker) (landing n) (λ y. refl) (place_of == j) old.0) ∙ sym (ap (λ y. y.shown.worker) old.2) ∙ mine);
        }

    pub known_there : IsKnown w.index w.names.requests.items (driver_then q).requests s.opens records_then
    known_there =
        known_written w.index w.names.requests.items (driver_of w).requests s.opens s.opens s.requests.items place_of (landing n)
        (λ y. record { id = refl; worker = refl; kind = refl; target = refl; unrefused = λ h. h }) (λ file h. h) who.r.id.0 who.it (waiter_then q) who.r refl who.live there_so
        (inl (λ h. inl (sym (ap (λ c. c.hinted) same.cursor) ∙ h))) sound.known
