-- What the stagings of a service are to the machine.
use Rattle.exec_invariants.{specs.{Submitting.{AreNamed, StagesCancel, must_flush}, Flown.{HasFlown, IsPlain, ends_in, operations, AreLanded}, Holding.{nap_of, thing_of}, Places.{one_if, passes_at}, Sound.{SoundAt, served_in}, Names.{IsAlike, IsNamed, IsSubmitted}, Submits.IsIdle, Works.{Suits, Steps}}, proofs.{Words.{◌≡◌, ◌⊎◌, ℕ, ◌+◌, ◌<◌, ◌≤◌, ◌==◌, ◌&&◌, ◌||◌, Bool, true, false, not, List, [], ◌∷◌, ◌++◌, length, map, Option, Some, None, IsSome, refl, sym, ap, subst, ◌∙◌, arith, slice_get, slice_set, nat_lt, false≢true, eq-eqb, length-append, slice_get_within, vec_capacity, Slab, value_at, Sleeping, asks_cancel, completions, Submission, waiter_at, Waiter, WaiterId, entry_of, Driving, request_at, is_cancelled, is_queued, is_ring_full, may_stage_one, IsPunctual, cancel_entry, cancel_staged, has_first, first_of, rest_of, is_among, same_written, Said, Configuration, Event, Cancel, Plan, ring_size, is_number, is_empty, is_in_flight, is_staged, Common, request_of, is_full, may_stage, move_submit, due_next, staging_due, first_due, one_more, submits, Cancels, Service, Place, InService, Reply, Names, Record, SleeperRecord, Shared, Worker, number_in, AreTagged, cancels_in, changed_at, Spot, Views, visible, with_view, own_of, desk_of, driver_of, common_of, seat_seen, things_with, numbers_of, not-false}, Going.{owning_on, GoesOn, same_worker}, Marking.{known_then, plain_kept, mark_if, marked, was_marked}, Serving.{at_large, balances_still, SparesRecords, spares_one}, ServingHolds.{serves_to, IsServed, OthersKept, Follows, Serves, Keeps, KeepsBy, keeps_all}, Recorded.request_seen, Carries.carried_marked, Changing.{OneGoesOn, keeps_one, others_there, all_go_one}, Conveying.carried_beside, Flown.landed_on, Idling.{comes_to_staging, none_due}, Gated.none_gated, Keeping.polls_same, Known.known_marked, Lined.{map_changed, opens_same}, Seeing.{makes, shows, served, common_changed, common_same, ring_again, things_kept}}}

-- WHAT IS SEEN

-- the queue must be entered first, for the machine too
pub flush_seen : (c : Configuration) (w : Worker) → (driver_of w).ring.size ≡ ring_size c
    → (is_full (ring_size c) (desk_of w) && (not (is_empty (own_of w).cancels) || may_stage c (own_of w) || not (desk_of w).polled)) ≡ must_flush (driver_of w)
flush_seen = grind arith

-- the same at the place as it is
abbrev pub idle_at : {B : Type 0} (v : Service) (w : Worker) (s : Shared B) → (idle : IsIdle v w s) → IsIdle v (record w { place = Place.Service (InService.Submit idle.gate) v }) s
idle_at v w s idle =
    let q : Place = Place.Service (InService.Submit idle.gate) v in
    record { gate = idle.gate; sound = subst (λ x. SoundAt q x s) (ap (λ y. record w { place = y }) idle.sound.here) idle.sound; lists = idle.lists; due = idle.due; enrolments = idle.enrolments; ungated = idle.ungated }

pub suits_at : {B : Type 0} (q : Place) (p : Plan) (vs : Views) (w : Worker) (s : Shared B) → Suits p vs w s → Suits p vs (record w { place = q }) s
suits_at q p vs w s suits = record { config = suits.config; seen = suits.seen; workers = suits.workers }

pub stages_again : (gate : ℕ) (v : Service) → Follows (Place.Service (InService.Submit gate) v) (Place.Service (InService.Submit gate) v)
stages_again gate v = record { from = refl; to = refl; serves = refl; armed = refl; closes = refl; wakes = refl; moment = λ m. refl; searches = refl; published = refl; bare = refl; batch = λ ms h. h }

-- nothing else is next for the machine
pub staging_next : {B L : Type 0} (left : B → L) (spot : L → Option Said → Spot) (v : Service) (w : Worker) (s : Shared B) → (idle : IsIdle v w s) → (p : Plan) (vs : Views) → Suits p vs w s
    → due_next p.config w.index idle.gate (own_of w) (common_of left spot p vs s) (desk_of w) ≡ staging_due p.config (own_of w) (desk_of w)
staging_next left spot v w s idle p vs suits =
    let sound = idle.sound in
    let all = common_of left spot p vs s in
    let none =
    none_due _ w.index w.moments s.config w.names (driver_of w) w.home.timers s.requests.items s.sleepers.items sound.due sound.named sound.config.some_tick
    (omega (arith, sound.time.begun, sound.time.ordered)) (own_of w) all refl refl idle.due in
    comes_to_staging p.config w.index idle.gate (own_of w) all (desk_of w)
    (subst (λ c. first_due c w.index (own_of w) all ≡ None) suits.config none)
    (ap (λ ids. slice_get (numbers_of w.names.requests.items ids) 0) idle.enrolments)
    (none_gated _ w.index w.names (driver_of w) w.home.timers s.requests.items s.sleepers.items s.opens s.store sound.named sound.flown sound.carried sound.gates idle.gate all refl idle.ungated)

-- CANCELS

tagged_after : (es : List Submission) (id : WaiterId) → AreTagged es → AreTagged (es ++ cancel_entry id ∷ [])
tagged_after [] id t = ((λ h. refl), tt)
tagged_after (e ∷ es) id t = (t.0, tagged_after es id t.1)

one_cancel_more : (es : List Submission) (id : WaiterId) → cancels_in (es ++ cancel_entry id ∷ []) ≡ cancels_in es + 1
one_cancel_more [] id = refl
one_cancel_more (e ∷ es) id = rw (one_cancel_more es id) (omega arith)

abbrev marks_cancel : Record → Record
marks_cancel r = record r { shown = record r.shown { cancel_staged = true } }

marks_worker : (b : Bool) (r : Record) → (mark_if marks_cancel b r).shown.worker ≡ r.shown.worker
marks_worker true r = refl
marks_worker false r = refl

marks_phase : (b : Bool) (r : Record) → (mark_if marks_cancel b r).shown.phase ≡ r.shown.phase
marks_phase true r = refl
marks_phase false r = refl

marks_plain : (r : Record) → IsPlain r.shown → IsPlain (marks_cancel r).shown
marks_plain r p = record { bounded = p.bounded; moved = p.moved; deadline = p.deadline }

among_later : (id other : WaiterId) (ids : List WaiterId) → is_among other ids ≡ true → is_among other (id ∷ ids) ≡ true
among_later = grind arith

live_by : (o : Option (Waiter Reply Reply)) → is_cancelled o ≡ true → (it : Waiter Reply Reply) × (o ≡ Some it)
live_by None h = absurd (false≢true h)
live_by (Some it) h = (it, refl)

-- the first of a list stands in it
pub among_first : (id : WaiterId) (ids : List WaiterId) → first_of ids ≡ Some id → is_among id ids ≡ true
among_first = grind arith

pub split_first : (id : WaiterId) (ids : List WaiterId) → first_of ids ≡ Some id → ids ≡ id ∷ rest_of ids
split_first id [] h = absurd (cc)
split_first id (x ∷ ids) h = let same : x ≡ id = cc in ap (λ y. y ∷ ids) same

pub first_there : (ids : List WaiterId) → has_first ids ≡ true → (id : WaiterId) × (first_of ids ≡ Some id)
first_there [] h = absurd (false≢true h)
first_there (id ∷ ids) h = (id, refl)

pub first_may : (d : Driving Reply Reply) → may_stage_one d ≡ true → (id : WaiterId) × (first_of d.lists.queued ≡ Some id)
first_may = grind (arith, first_there, false≢true)

-- each has the number of a record
pub all_named : (i : ℕ) (n : Names) (d : Driving Reply Reply) (zs : Slab (Sleeping Reply)) (rs : List Record) (ss : List SleeperRecord) → IsNamed i n d zs rs ss → (ids : List WaiterId) → ((id : WaiterId) → is_among id ids ≡ true → IsSome (value_at d.requests id.0)) → AreNamed n.requests.items ids rs
all_named i n d zs rs ss named [] live = tt
all_named i n d zs rs ss named (id ∷ ids) live =
    let r = named.requests id.0 (live id (among_first id (id ∷ ids) refl)) in
    (slice_get_within rs (number_in n.requests.items id.0) r.0 r.1, all_named i n d zs rs ss named ids (λ other among. live other (among_later id other ids among)))

-- where the queue isn't full the lists of numbers have room
pub rooms_there : (n m e size cap : ℕ) → n + m ≤ e → nat_lt e size ≡ true → size ≤ cap → (n < cap) × (m < cap)
rooms_there = grind arith

module _ {B : Type 0} (v : Service) (w : Worker) (s : Shared B) (idle : IsIdle v w s) (id : WaiterId) (first : first_of (driver_of w).lists.cancels ≡ Some id) where
  -- the request that asks for it
  pub record Asks : Type 0 where
    pub it : Waiter Reply Reply
    pub r : Record
    pub live : waiter_at (driver_of w).requests id.0 ≡ Some it
    pub there : slice_get s.requests.items (number_in w.names.requests.items id.0) ≡ Some r
    pub named : r.id.0 ≡ id.0
    pub worker : r.shown.worker ≡ w.index
    pub alike : IsAlike (driver_of w).wheel.start (driver_of w).wheel.tick it r.shown
    pub cancelled : r.shown.cancelled ≡ true
    pub flies : is_in_flight r.shown.phase ≡ true
    pub unstaged : r.shown.cancel_staged ≡ false

  asks_by : (o : Option (Waiter Reply Reply)) → request_at (driver_of w) id ≡ o → Asks
  asks_by None gone = absurd (false≢true (ap is_cancelled (sym gone) ∙ idle.lists.cancels id (among_first id (driver_of w).lists.cancels first)))
  asks_by (Some it) live =
      let asked : asks_cancel it.state ≡ true = ap is_cancelled (sym live) ∙ idle.lists.cancels id (among_first id (driver_of w).lists.cancels first) in
      let r = idle.sound.named.requests id.0 (rw (entry_of (value_at (driver_of w).requests id.0) it live) refl) in
      let a = idle.sound.named.alike id.0 it r.0 live r.1 in
      record {
        it = it;
        r = r.0;
        live = live;
        there = r.1;
        named = r.2;
        worker = r.3;
        alike = a;
        cancelled = a.cancelled ∙ asked;
        flies = a.flying ∙ a.going asked;
        unstaged = idle.sound.flown.uncancelled id r.0 (among_first id (driver_of w).lists.cancels first) r.1 r.3;
      }

  pub asks : Asks
  asks = asks_by (request_at (driver_of w) id) refl

-- a name that is another's isn't this one, and its request has another number
-- WHAT A STAGING NEEDS

module _ {B : Type 0} (v : Service) (w : Worker) (s : Shared B) (idle : IsIdle v w s) (unflushed : must_flush (driver_of w) ≡ false) where
  pub has_room : (has_first (driver_of w).lists.cancels ≡ true) ⊎ (may_stage_one (driver_of w) ≡ true) → is_ring_full (driver_of w) ≡ false
  has_room = grind arith

  pub has_places : (has_first (driver_of w).lists.cancels ≡ true) ⊎ (may_stage_one (driver_of w) ≡ true) → (length w.names.staged.items < vec_capacity w.names.staged) × (length w.names.untold.items < vec_capacity w.names.untold)
  has_places some =
      let d = driver_of w in
      let f = idle.sound.flown in
      let below : nat_lt (length d.ring.staged) d.ring.size ≡ true = not-false (nat_lt (length d.ring.staged) d.ring.size) (has_room some) in (
        (rooms_there (length w.names.staged.items) (length w.names.untold.items) (length d.ring.staged) d.ring.size (vec_capacity w.names.staged) f.entries below f.staging).0,
        (rooms_there (length w.names.staged.items) (length w.names.untold.items) (length d.ring.staged) d.ring.size (vec_capacity w.names.untold) f.entries below f.telling).1,
      )

  value_by : (o : Option (Waiter Reply Reply)) (id : WaiterId) → request_at (driver_of w) id ≡ o → (o ≡ None → ⊥) → IsSome (value_at (driver_of w).requests id.0)
  value_by None id is stands = absurd (stands refl)
  value_by (Some it) id is stands = rw (entry_of (value_at (driver_of w).requests id.0) it is) refl

  pub cancels_named : AreNamed w.names.requests.items (driver_of w).lists.cancels s.requests.items
  cancels_named =
      all_named w.index w.names (driver_of w) w.home.timers s.requests.items s.sleepers.items idle.sound.named (driver_of w).lists.cancels
      (λ id among. value_by (request_at (driver_of w) id) id refl (λ gone. false≢true (ap is_cancelled (sym gone) ∙ idle.lists.cancels id among)))

  pub queued_named : AreNamed w.names.requests.items (driver_of w).lists.queued s.requests.items
  queued_named =
      all_named w.index w.names (driver_of w) w.home.timers s.requests.items s.sleepers.items idle.sound.named (driver_of w).lists.queued
      (λ id among. value_by (request_at (driver_of w) id) id refl (λ gone. false≢true (ap is_queued (sym gone) ∙ idle.lists.queued id among)))

pub cancel_stages : {B L : Type 0} (left : B → L) (spot : L → Option Said → Spot) (v : Service) (w w' : Worker) (s s' : Shared B) (e : Event) (id : WaiterId) → (idle : IsIdle v w s) → (first : first_of (driver_of w).lists.cancels ≡ Some id) → must_flush (driver_of w) ≡ false
    → IsPunctual (driver_of w') → vec_capacity w'.names.untold ≡ vec_capacity w.names.untold → StagesCancel w s e w' s' id → Steps left spot w s e w' s'
cancel_stages {B} left spot v w w' s s' e id idle first unflushed punctual room it =
    let q : Place = Place.Service (InService.Submit idle.gate) v in
    let sound = idle.sound in
    let d = driver_of w in
    let rs = s.requests.items in
    let k = number_in w.names.requests.items id.0 in
    let ask = asks v w s idle id first in
    let d' : Driving Reply Reply = record (cancel_staged d id) { landings = (driver_of w').landings } in
    let same : w' ≡ record w { place = w'.place; put_off = w'.put_off; home = record w.home { driver = w'.home.driver }; names = record w.names { staged = w'.names.staged; untold = w'.names.untold } } =
    subst (λ x. x ≡ record w { place = x.place; put_off = x.put_off; home = record w.home { driver = x.home.driver }; names = record w.names { staged = x.names.staged; untold = x.names.untold } }) (sym it.worker) refl in
    let there : w'.place ≡ q = ap (λ x. x.place) it.worker ∙ sound.here in
    let off : w'.put_off ≡ w.put_off = ap (λ x. x.put_off) it.worker in
    let unchanged : w'.names.staged ≡ w.names.staged = ap (λ x. x.names.staged) it.worker in
    let split = split_first id d.lists.cancels first in
    let on : GoesOn ask.r (marks_cancel ask.r) = record { same = refl; over = refl; ended = λ h. refl } in
    let one : OneGoesOn w.names (record w.names { staged = w'.names.staged; untold = w'.names.untold }) d d' rs id.0 ask.it ask.it ask.r marks_cancel = grind (arith, same_written, entry_of) in
    let all = all_go_one rs k marks_cancel ask.r ask.there on in
    let rs' = changed_at rs k marks_cancel in
    let sub = sound.named.submitted in
    let submitted : IsSubmitted w.index w'.names.staged.items w'.names.untold.items d'.ring rs' =
    subst (λ ks. IsSubmitted w.index ks w'.names.untold.items d'.ring rs') (ap (λ x. x.items) (sym unchanged)) (record {
      tagged = tagged_after d.ring.staged id sub.tagged;
      cancels = one_cancel_more d.ring.staged id ∙ ap (λ n. n + 1) sub.cancels ∙ sym (ap length it.untold ∙ length-append w.names.untold.items (k ∷ []));
      known = known_then marks_cancel rs k w.names.staged.items sub.known;
      own = λ j x h found. let old = all.was j x found in same_worker old.r x old.on ∙ sub.own j old.r h old.there;
      all = λ j x found mine staged.
          let old = was_marked marks_cancel rs k j x found in
          sub.all j old.0 old.1 (sym (marks_worker (k == j) old.0) ∙ sym (ap (λ y. y.shown.worker) old.2) ∙ mine) (sym (ap is_staged (marks_phase (k == j) old.0)) ∙ sym (ap (λ y. is_staged y.shown.phase) old.2) ∙ staged);
    }) in
    let flown = sound.flown in
    let untold_more : length w'.names.untold.items ≡ length w.names.untold.items + 1 = ap length it.untold ∙ length-append w.names.untold.items (k ∷ []) in
    let entries_more : length d'.ring.staged ≡ length d.ring.staged + 1 = length-append d.ring.staged (cancel_entry id ∷ []) in
    let named_apart : (other : WaiterId) (x : Record) → is_among other (rest_of d.lists.cancels) ≡ true → slice_get rs' (number_in w.names.requests.items other.0) ≡ Some x → x.shown.worker ≡ w.index → x.shown.cancel_staged ≡ false = λ other x among found mine.
    let listed : is_among other d.lists.cancels ≡ true = ap (is_among other) split ∙ among_later id other (rest_of d.lists.cancels) among in
    let live = live_by (request_at d other) (idle.lists.cancels other listed) in
    let before = sound.named.requests other.0 (rw (entry_of (value_at d.requests other.0) live.0 live.1) refl) in
    let apart : k ≡ number_in w.names.requests.items other.0 → ⊥ = λ is.
    let both : ask.r ≡ before.0 = cc (ask.there, before.1, is) in
    let same_name : other.0 ≡ id.0 = sym before.2 ∙ ap (λ y. y.id.0) (sym both) ∙ ask.named in
    let no : is_among id (rest_of d.lists.cancels) ≡ true = subst (λ (y : WaiterId). is_among y (rest_of d.lists.cancels) ≡ true) (ap (λ z. record { 0 = z }) same_name) among in
    false≢true (sym (idle.lists.cancelled_once id first) ∙ no) in
    flown.uncancelled other x listed (others_there rs k marks_cancel ask.r ask.there on (number_in w.names.requests.items other.0) x apart found) mine in
    let staging : d'.ring.size ≤ vec_capacity w'.names.staged = rw unchanged flown.staging in
    let telling : d'.ring.size ≤ vec_capacity w'.names.untold = rw room flown.telling in
    let entries : length w'.names.staged.items + length w'.names.untold.items ≤ length d'.ring.staged = rw (unchanged, untold_more, entries_more) (omega (arith, flown.entries)) in
    let plain = plain_kept marks_cancel rs k marks_plain w.index (λ r. refl) flown.plain in
    let landed_so : AreLanded (record w.names { staged = w'.names.staged; untold = w'.names.untold }) d' rs' (operations d'.ring) =
    landed_on w.names (record w.names { staged = w'.names.staged; untold = w'.names.untold }) d d' rs rs' (operations d.ring) flown.landed
    (λ other x r given live flies found landed.
    let j = number_in w.names.requests.items other in
    record { it' = x; r' = mark_if marks_cancel (k == j) r; live = live; flies = refl; same = refl; number = refl; there = marked marks_cancel rs k j r found; phase = marks_phase (k == j) r }) in
    let polled = ap (λ n. n + (one_if d.ring.armed + ends_in (completions d.ring))) (polls_same d.ring.staged (cancel_entry id) refl) ∙ flown.polled in
    let flown_then : HasFlown (served_in q) w.index (record w.names { staged = w'.names.staged; untold = w'.names.untold }) d' rs' = assumption (staging, telling, entries, plain, landed_so, polled, owning_on rs rs' all flown.owning, named_apart, flown) in
    let keeps : Keeps w' s' =
    keeps_all w w' s s' rs' d' same it.shared it.driver it.records
    (subst (λ y. KeepsBy (record w { place = y; put_off = w'.put_off; names = record w.names { staged = w'.names.staged; untold = w'.names.untold } }) d' w.home.timers rs' s.sleepers.items s) (sym there)
    (keeps_one q q w'.put_off w'.names w s d' id.0 ask.it ask.it ask.r marks_cancel sound (stages_again idle.gate v) one (subst IsPunctual it.driver punctual) (λ h. idle.due) sound.due.order sound.due.wheel refl submitted flown_then
    (carried_beside w.names.requests.items d.requests d.ring rs' s.store (carried_marked w.names.requests.items d.requests d.ring rs s.store sound.carried k marks_cancel (λ r at. refl) (λ r at. refl) (λ r at. refl)) (cancel_entry id).window 4294967295 (λ h. omega (arith, h)))
    refl (known_marked w.index w.names.requests.items d.requests s.opens s.opens rs k marks_cancel (λ y. record { id = refl; worker = refl; kind = refl; target = refl; unrefused = λ h. h }) (λ file h. h) sound.known))) in
    let serves : Serves q w w' s s' = serves_to q q w w' s s' (subst (IsServed w) (sym it.worker) refl) (subst (OthersKept s) (sym it.shared) refl) there (stages_again idle.gate v) in
    let show = shows q w w' s s' d' serves it.driver (ap (λ (v : Worker). v.home.timers) it.worker) in
    let seen : visible w' ≡ visible w = show.seen in
    let spares : SparesRecords w.index s s' = spares_one w.index s s' k ask.r marks_cancel (opens_same s.opens s'.opens s.requests.items sound.gates (ap (λ (y : Shared B). y.opens) it.shared)) (record { at = refl; over = λ h. h; sent = refl; forwarded = λ h. h }) it.records (ap (λ (y : Shared B). y.sleepers.items) it.shared) ask.there ask.worker (λ y. refl) in
    subst (λ x. Steps left spot w s x w' s') (sym it.event)
    (served left spot q w w' s s' (Cancel k) sound serves keeps spares (balances_still q w w' s s' sound.here serves spares (ap passes_at there) (ap (λ (v : Worker). v.home.deferred.notes.wakes.items) it.worker) (ap (map thing_of) it.records ∙ map_changed thing_of rs k ask.r marks_cancel ask.there refl) (ap (λ (y : Shared B). map nap_of y.sleepers.items) it.shared))
    (λ p vs suits.
    let c = p.config in
    let all = common_of left spot p vs s in
    let request : request_of all k ≡ ask.r.shown = request_seen rs k ask.r ask.there in
    let numbers : numbers_of w.names.requests.items d.lists.cancels ≡ k ∷ numbers_of w.names.requests.items (rest_of d.lists.cancels) = ap (numbers_of w.names.requests.items) split in
    let w0 : Worker = record w { place = q } in
    let due : staging_due c (own_of w0) (desk_of w0) ≡ Cancels k =
    rw (flush_seen c w0 (sound.sized ∙ ap ring_size suits.config), unflushed, numbers) refl in
    record {
      moves =
          ap (move_submit c w.index (own_of w0) all (desk_of w0) (things_with vs s) idle.gate v) (staging_next left spot v w0 s (idle_at v w s idle) p vs (suits_at q p vs w s suits) ∙ due)
          ∙ ap (makes (Cancel k) (submits v idle.gate (one_more (desk_of w0)))) (ring_again (things_with vs s) w.index all)
          ∙ ap (λ x. makes (Cancel k) x (things_with vs s)) (sym (show.desk ∙ rw (there, off, ap (λ x. x.home.deferred) it.worker, entries_more) refl))
          ∙ ap (makes (Cancel k) (desk_of w')) (sym (things_kept vs w.index (visible w) (visible w') s s' suits.seen (ap (λ y. y.wakes) seen) serves.shared spares));
      may = (at_large q w s sound refl, (ap (λ ks. is_number k (slice_get ks 0)) numbers ∙ eq-eqb k k refl, (ap (λ x. x.worker == w.index) request ∙ ap (λ i. i == w.index) ask.worker ∙ eq-eqb w.index w.index refl, (ap (λ x. is_in_flight x.phase) request ∙ ask.flies, (ap (λ x. x.cancelled) request ∙ ask.cancelled, (ap (λ x. not x.cancel_staged) request ∙ ap not ask.unstaged, tt))))));
      own = show.own ∙ rw (there, ap (λ x. x.names.ended) it.worker, it.untold, numbers) refl;
      common =
          common_changed left spot p (with_view vs w.index (visible w')) s s' k ask.r marks_cancel it.shared it.records ask.there refl
          ∙ ap (λ (x : Common). record x { requests = slice_set (map (λ y. y.shown) rs) k (marks_cancel ask.r).shown }) (common_same left spot p vs w w' s suits (λ c. ap (λ y. seat_seen y c) seen))
          ∙ ap (λ x. record all { requests = slice_set (map (λ y. y.shown) rs) k (record x { cancel_staged = true }) }) (sym request);
    }))
