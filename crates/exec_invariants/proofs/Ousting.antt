-- All that holds again once a request is over, which the kernel doesn't have.
use Rattle.exec_invariants.{specs.{Carried.{IsCarried, IsUnderWay, those_of}, Due.{IsWheelAt, may_be_due, wheel_moment}, Flown.{IsPolled, AreLanded, IsPlain, operations}, Gates.IsKnown, HoldPlaces.{has_wakes_at, is_bare_at}, Ordered.{IsOrdered, went_round}, Rooted.outcome_told, Names.{IsSubmitted, tellers}, Sound.served_in}, proofs.{Words.{◌≡◌, ◌≢◌, ℕ, inl, IsSome, ◌+◌, ◌≤◌, ◌==◌, Bool, true, false, List, [], ◌∷◌, ◌++◌, Some, None, refl, sym, ap, subst, ◌∙◌, arith, slice_get, false≢true, deque_capacity, Slab, value_at, Id, Outcome, Sleeping, RequestOutput, Asking, RingState, user_data_of, is_held_by, pending_count, waiter_at, waiter_of, Tells, Told, Deferred, Waiter, entry_of, Driving, IsPunctual, withdrawn, is_in_flight, is_staged, RequestPhase, Place, Reply, Names, Record, Shared, SleeperRecord, Worker, number_in, AreTagged, cancels_in, changed_at, is_one_of, same_number}, Carries.carried_over, Conveying.carried_ring, Known.known_on, Leaving.{flown_over, landed_still}, Mine.live_mine, Marking.{known_then, mark_if, marked_length, was_marked}, Over.{OneEnds, kept_id, kept_worker, other_record, named_ended, over_ended, timed_ended, unresolved_before, apart_number, gone_here}, Orders.{IsPartOf, TurnsAlike, eased, eases_one, part_without}, Resolving.{places_fewer, told_ended, wide_ended}, ServedEnds.{TellsEnd, rooted_ended}, ServingHolds.KeepsWith}}

-- the kernel has nothing of it where it isn't in flight
nothing_has : (p : RequestPhase) (u : ℕ) (q : Asking) (r : RingState) → is_in_flight p ≡ false → IsUnderWay p u q r → (those_of u r.flying ≡ []) × (those_of u r.staged ≡ [])
nothing_has = grind arith

module _ {B : Type 0} (w : Worker) (s : Shared B) (d d' : Driving Reply Reply) (zs : Slab (Sleeping Reply)) (rs : List Record) (ss : List SleeperRecord) (id : Id) (it : Waiter Reply Reply) (r : Record) (f : Record → Record) (outcome : Outcome) (told : RequestOutput)
    (q' : Place) (v : Names) (left : Deferred Reply Reply) (t : Told Reply Reply)
    (one : OneEnds w.names d d'.requests rs id it r f outcome told) {spare : ℕ} (keeps : KeepsWith spare w d zs rs ss s) where
  abbrev pub rs_ended : List Record
  rs_ended = changed_at rs (number_in w.names.requests.items id) f

  submitted_ended : d'.ring.staged ≡ d.ring.staged → IsSubmitted w.index w.names.staged.items w.names.untold.items d'.ring (changed_at rs (number_in w.names.requests.items id) f)
  submitted_ended entries =
      let sub = keeps.named.submitted in
      let k = number_in w.names.requests.items id in
      let own : (k : ℕ) (x : Record) → is_one_of k w.names.staged.items ≡ true → slice_get (changed_at rs (number_in w.names.requests.items id) f) k ≡ Some x → x.shown.worker ≡ w.index = λ j x h found.
      let old = was_marked f rs k j x found in
      ap (λ y. y.shown.worker) old.2 ∙ kept_worker w.index w.names d d' zs rs ss id it r f outcome told one keeps.named keeps.due.timed j (k == j) old.0 refl old.1 ∙ sub.own j old.0 h old.1 in
      let all : (k : ℕ) (x : Record) → slice_get (changed_at rs (number_in w.names.requests.items id) f) k ≡ Some x → x.shown.worker ≡ w.index → is_staged x.shown.phase ≡ true → is_one_of k w.names.staged.items ≡ true = λ j x found mine staged.
      let old = was_marked f rs k j x found in
      staged_by j (k == j) old.0 refl old.1
      (sym (kept_worker w.index w.names d d' zs rs ss id it r f outcome told one keeps.named keeps.due.timed j (k == j) old.0 refl old.1) ∙ sym (ap (λ y. y.shown.worker) old.2) ∙ mine)
      (sym (ap (λ y. is_staged y.shown.phase) old.2) ∙ staged) in
      assumption (subst AreTagged (sym entries) sub.tagged, ap cancels_in entries ∙ sub.cancels, known_then f rs k w.names.staged.items sub.known, own, all)
    where
      staged_by : (j : ℕ) (b : Bool) (x : Record) → (number_in w.names.requests.items id == j) ≡ b → slice_get rs j ≡ Some x → x.shown.worker ≡ w.index → is_staged (mark_if f b x).shown.phase ≡ true → is_one_of j w.names.staged.items ≡ true
      staged_by = grind (arith, same_number, false≢true)

  carried_ended : d'.ring.flying ≡ d.ring.flying → d'.ring.staged ≡ d.ring.staged → (those_of (user_data_of id) d.ring.flying ≡ []) × (those_of (user_data_of id) d.ring.staged ≡ []) → IsCarried w.names.requests.items d'.requests d'.ring rs_ended s.store
  carried_ended flying entries none =
      carried_ring w.names.requests.items d'.requests d.ring rs_ended s.store
      (carried_over w.names.requests.items d.requests d.ring rs s.store keeps.carried d'.requests id it r f outcome one.at one.there none
      (gone_here w.index w.names d d' zs rs ss id it r f outcome told one keeps.named keeps.due.timed) (λ other apart. ap waiter_of (one.slab.others other apart)) (ap (λ y. y.shown.phase) one.ends.same) one.less
      (λ other x at apart. apart_number w.index w.names d d' zs rs ss id it r f outcome told one keeps.named keeps.due.timed other (rw (entry_of (value_at d.requests other) x at) refl) apart))
      d'.ring (λ v small. ap (those_of v) flying) (λ v small. ap (those_of v) entries)

  known_ended : IsKnown w.index w.names.requests.items d'.requests s.opens rs_ended
  known_ended =
      let n = w.names.requests.items in
      let k = number_in n id in
      let named = keeps.named in
      let timed = keeps.due.timed in
      known_on w.index n n d.requests d'.requests s.opens s.opens rs rs_ended one.slab.past one.slab.back (marked_length f rs k)
      (λ j x found of_i.
      let old = was_marked f rs k j x found in
      let b = k == j in
      let worker = kept_worker w.index w.names d d' zs rs ss id it r f outcome told one named timed j b old.0 refl old.1 in (
        old.0,
        old.1,
        sym worker ∙ sym (ap (λ y. y.shown.worker) old.2) ∙ of_i,
        ap (λ y. y.id) old.2 ∙ kept_id w.index w.names d d' zs rs ss id it r f outcome told one named timed j b old.0 refl old.1,
      ))
      (λ file h. h)
      (λ other x y live found.
      let apart : other ≢ id = λ same. let no : Some x ≡ None = sym live ∙ ap (waiter_at d'.requests) same ∙ gone_here w.index w.names d d' zs rs ss id it r f outcome told one named timed in absurd (cc) in
      let was : waiter_at d.requests other ≡ Some x = sym (ap waiter_of (one.slab.others other apart)) ∙ live in
      let some : IsSome (value_at d.requests other) = rw (entry_of (value_at d.requests other) x was) refl in
      let there = other_record w.index w.names d d' zs rs ss id it r f outcome told one named timed (number_in n other) y (apart_number w.index w.names d d' zs rs ss id it r f outcome told one named timed other some apart) found in
      inl (record { it = x; r = y; live = was; there = there; asks = record { driver = λ h. inl h; kind = refl; target = refl; unrefused = λ h. h } }))
      keeps.known

  pub keeps_over : TellsEnd id told it.observer t → Tells w.home.deferred left t
      → v.ended.items ≡ w.names.ended.items ++ number_in w.names.requests.items id ∷ [] → deque_capacity v.ended ≡ deque_capacity w.names.ended
      → IsPlain (f r).shown → (is_held_by it.observer ≡ true → outcome ≡ outcome_told told)
      → d'.ring.size ≡ d.ring.size → (d'.ring.flying ≡ d.ring.flying) × (those_of (user_data_of id) d.ring.flying ≡ []) × (those_of (user_data_of id) d.ring.staged ≡ []) → d'.ring.staged ≡ d.ring.staged → IsPolled d'.ring d'.armed → AreLanded (record w.names { ended = v.ended }) d' (changed_at rs (number_in w.names.requests.items id) f) (operations d'.ring) → d'.lists ≡ withdrawn (record { 0 = id }) d.lists → d'.wheel.start ≡ d.wheel.start → d'.wheel.tick ≡ d.wheel.tick
      → IsPunctual d' → (may_be_due (served_in q') ≡ false → d'.lists.due ≡ []) → IsWheelAt s.config w.moments.start (wheel_moment (served_in q') w.moments) d'.wheel → TurnsAlike d.wheel d'.wheel
      → has_wakes_at q' ≡ true → is_bare_at q' ≡ is_bare_at w.place
      → KeepsWith spare (record w { place = q'; names = record w.names { ended = v.ended }; home = record w.home { deferred = left } }) d' zs (changed_at rs (number_in w.names.requests.items id) f) ss s
  keeps_over tells adds ended capacity plain fits size under entries polled landed lists start tick punctual due wheel turns wakes bare =
      let k = number_in w.names.requests.items id in
      let n' : Names = record w.names { ended = v.ended } in
      let fewer : (tellers d'.requests zs + spare) + 1 ≤ tellers d.requests zs + spare = omega (arith, one.slab.pending, one.slab.held) in
      let timed = keeps.due.timed in
      let mine = live_mine w.index w.names d zs rs ss keeps.named id it r one.at one.there in
      let eases = eases_one d.requests d'.requests id (Some it) None one.at (gone_here w.index w.names d d' zs rs ss id it r f outcome told one keeps.named timed) (λ other apart. ap waiter_of (one.slab.others other apart))
      (λ t none. absurd (cc)) (λ none. refl) one.slab.past in
      let order : IsOrdered (went_round s.config w.moments) w.names.requests.items d'.requests d'.wheel d'.lists.enrolments d'.lists.due =
      eased eases turns (subst (λ l. IsPartOf l.enrolments d.lists.enrolments) (sym lists) (part_without (record { 0 = id }) d.lists.enrolments))
      (subst (λ l. IsPartOf l.due d.lists.due) (sym lists) (part_without (record { 0 = id }) d.lists.due)) keeps.due.order in
      let flown = flown_over w.index w.names d d' zs rs ss id it r f outcome told one keeps.named timed (served_in w.place) n' refl refl refl refl capacity size entries polled landed lists plain keeps.flown in
      record {
        told = told_ended w.names.ended.items v.ended.items k (tellers d'.requests zs + spare) w.home.deferred left t adds tells.once ended (places_fewer fewer keeps.told);
        wide = wide_ended (tellers d.requests zs + 64) (tellers d'.requests zs + 64) w.home.deferred left t (omega (arith, fewer)) adds keeps.wide;
        named = named_ended w.index w.names d d' zs rs ss id it r f outcome told one keeps.named timed n' refl refl start tick (submitted_ended entries);
        sized = size ∙ keeps.sized;
        over = over_ended w.index w.names d d' zs rs ss id it r f outcome told one keeps.named timed w.names.ended.items v.ended.items w.names.unreleased (pending_count d.requests) (pending_count d'.requests) ended one.slab.pending
            mine (keeps.flown.owning k r one.there (unresolved_before w.index w.names d d' zs rs ss id it r f outcome told one keeps.named timed)) keeps.over;
        quiet = λ h. absurd (false≢true (sym h ∙ wakes));
        due = record { punctual = punctual; told = due; wheel = wheel; timed = timed_ended w.index w.names d d' zs rs ss id it r f outcome told one keeps.named timed n' refl; asleep = record { alike = keeps.due.asleep.alike; there = keeps.due.asleep.there; named = keeps.due.asleep.named; lets_go = keeps.due.asleep.lets_go; counted = keeps.due.asleep.counted; names = keeps.due.asleep.names }; order = order };
        flown = record { ending = flown.ending; staging = flown.staging; telling = flown.telling; entries = flown.entries; gated = flown.gated; plain = flown.plain; enrolling = flown.enrolling; polled = flown.polled; owning = flown.owning; landed = flown.landed; uncancelled = flown.uncancelled };
        carried = carried_ended under.0 entries (under.1, under.2);
        known = known_ended;
        rooted = rooted_ended w.index w.names n' d d' zs w.home.deferred left rs ss id it r f outcome told t one keeps.named timed tells adds fits mine refl refl keeps.rooted;
        bare = λ h. keeps.bare (sym bare ∙ h);
      }

  pub keeps_ended : TellsEnd id told it.observer t → Tells w.home.deferred left t
      → v.ended.items ≡ w.names.ended.items ++ number_in w.names.requests.items id ∷ [] → deque_capacity v.ended ≡ deque_capacity w.names.ended
      → it.in_flight ≡ false → IsPlain (f r).shown → (is_held_by it.observer ≡ true → outcome ≡ outcome_told told)
      → d'.ring ≡ d.ring → d'.armed ≡ d.armed → d'.lists ≡ withdrawn (record { 0 = id }) d.lists → d'.wheel.start ≡ d.wheel.start → d'.wheel.tick ≡ d.wheel.tick
      → IsPunctual d' → (may_be_due (served_in q') ≡ false → d'.lists.due ≡ []) → IsWheelAt s.config w.moments.start (wheel_moment (served_in q') w.moments) d'.wheel → TurnsAlike d.wheel d'.wheel
      → has_wakes_at q' ≡ true → is_bare_at q' ≡ is_bare_at w.place
      → KeepsWith spare (record w { place = q'; names = record w.names { ended = v.ended }; home = record w.home { deferred = left } }) d' zs (changed_at rs (number_in w.names.requests.items id) f) ss s
  keeps_ended tells adds ended capacity idle plain fits ring armed lists start tick punctual due wheel turns wakes bare =
      let nothing = nothing_has r.shown.phase (user_data_of id) it.request d.ring ((keeps.named.alike id it r one.at one.there).flying ∙ idle) (keeps.carried.carried id it r one.at one.there) in
      keeps_over tells adds ended capacity plain fits (ap (λ x. x.size) ring) (ap (λ x. x.flying) ring, nothing.0, nothing.1) (ap (λ x. x.staged) ring) (subst (λ x. IsPolled x d'.armed) (sym ring) (subst (IsPolled d.ring) (sym armed) keeps.flown.polled))
      (landed_still w.index w.names d d' zs rs ss id it r f outcome told one keeps.named keeps.due.timed (record w.names { ended = v.ended }) refl ring idle keeps.flown.landed) lists start tick punctual due wheel turns wakes bare
