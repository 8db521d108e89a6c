-- One request goes on: its record changes, and what its driver has of it.
use Rattle.exec_invariants.{proofs.{Names.{◌≡◌, ◌≢◌, ℕ, ◌+◌, ◌==◌, Bool, true, false, List, [], Option, Some, None, IsSome, refl, sym, ap, subst, ◌∙◌, arith, slice_get, is_some, length-set, false≢true, eq-eqb, Slab, value_at, written, live_count, Id, Live, Updates-write, count-set, IsLiveAt-from_value, live_within, Sleeping, RequestOutput, waiter_at, pending_count, flying_count, is_flying, Entry, Pending, Ready, Waiter, entry_of, one_if, Driving, IsPunctual, OneChanged, pending_is, flying_is, one_written, is_resolved, Place, Reply, Names, Record, Shared, SleeperRecord, PutOff, Worker, number_in, changed_at, IsTold, driver_of, by_name, same_number, not_same}, Going.{GoesOn, AllGoOn, same_worker, same_id, over_on, rooted_on}, HeldCounts.held_written, Marking.{mark_if, marked, was_marked}, ServingHolds.{Follows, KeepsBy}, Serving.kept, ServingPlaces.calm}, specs.{Carried.IsCarried, Due.{AreTimed, IsWheelAt, may_be_due, wheel_moment, IsDue, AreAsleep}, Flown.HasFlown, Gates.IsKnown, Ordered.{IsOrdered, went_round}, Names.{HasWidth, IsNamed, IsAlike, IsSubmitted, tellers}, Sound.{SoundAt, served_in, AreOver}, HoldPlaces.{has_wakes_at, is_bare_at}, Rooted.IsRooted}}

-- THE RECORDS

module _ (rs : List Record) (k : ℕ) (f : Record → Record) (r : Record) (there : slice_get rs k ≡ Some r) (on : GoesOn r (f r)) where
  goes_if : (j : ℕ) (b : Bool) (x : Record) → (k == j) ≡ b → slice_get rs j ≡ Some x → GoesOn x (mark_if f b x)
  goes_if = grind arith

  pub all_go_one : AllGoOn rs (changed_at rs k f)
  all_go_one =
      record {
        was = λ j x at.
            let old = was_marked f rs k j x at in
            record { r = old.0; there = old.1; on = subst (λ y. GoesOn old.0 y) (sym old.2) (goes_if j (k == j) old.0 refl old.1) };
        becomes = λ j x at. record { r' = mark_if f (k == j) x; there = marked f rs k j x at; on = goes_if j (k == j) x refl at };
      }

  -- that record, and another
  pub now_there : slice_get (changed_at rs k f) k ≡ Some (f r)
  now_there = marked f rs k k r there ∙ ap (λ b. Some (mark_if f b r)) (eq-eqb k k refl)

  pub others_there : (j : ℕ) (x : Record) → (k ≡ j → ⊥) → slice_get (changed_at rs k f) j ≡ Some x → slice_get rs j ≡ Some x
  others_there = grind (arith, was_marked, mark_if, not_same)

-- THE SLAB

module _ {S F : Type 0} (s : Slab (Entry S F)) (id : Id) (it it' : Waiter S F) (at : waiter_at s id ≡ Some it) where
  value : value_at s id ≡ Some (Pending it)
  value = entry_of (value_at s id) it at

  some : IsSome (value_at s id)
  some = rw value refl

  pub changes_one : OneChanged s (written s id (Pending it')) id (Some it) (Some it')
  changes_one = one_written s id (Pending it) (Pending it') value

  pub some_before : (other : Id) → IsSome (value_at (written s id (Pending it')) other) → IsSome (value_at s other)
  some_before other h =
      by_name other id (λ apart. rw ((Updates-write s id (Pending it') some).others other apart) at h) (λ same. rw same some)

  pub some_after : (other : Id) → IsSome (value_at s other) → IsSome (value_at (written s id (Pending it')) other)
  some_after other h =
      let map = Updates-write s id (Pending it') some in
      by_name other id (λ apart. rw (map.others other apart) h) (λ same. rw (same, map.changed) refl)

  pub ready_before : (other : Id) (told : RequestOutput) → value_at (written s id (Pending it')) other ≡ Some (Ready told) → value_at s other ≡ Some (Ready told)
  ready_before other told h =
      let map = Updates-write s id (Pending it') some in
      by_name other id
      (λ apart. sym (map.others other apart) ∙ h)
      (λ same. absurd (let no : Some (Pending it') ≡ Some (Ready told) = sym map.changed ∙ ap (value_at (written s id (Pending it'))) (sym same) ∙ h in cc))

  pub live_still : live_count (written s id (Pending it')) ≡ live_count s
  live_still =
      let live = IsLiveAt-from_value s.slots id.index id.generation s.first some in
      omega (arith, rw live.is at (count-set s.slots id.index (Live id.generation (Pending it')) (live_within s.slots id.index id.generation live.value live.is)))

  pub pending_still : pending_count (written s id (Pending it')) ≡ pending_count s
  pending_still =
      pending_is (written s id (Pending it')) ∙ omega (arith, changes_one.numbers is_some refl) ∙ sym (pending_is s)

  pub flying_after : flying_count (written s id (Pending it')) + one_if it.in_flight ≡ flying_count s + one_if it'.in_flight
  flying_after = rw (flying_is (written s id (Pending it')), flying_is s) (changes_one.numbers is_flying refl)

  -- who waits for another was there, and of this a part is the same; and who was there is there
  pub part_before : {T : Type 0} (part : Waiter S F → T) → part it' ≡ part it → (other : Id) (x : Waiter S F) → waiter_at (written s id (Pending it')) other ≡ Some x → (y : Waiter S F) × (waiter_at s other ≡ Some y) × (part x ≡ part y)
  part_before part same other x h =
      by_name other id
      (λ apart. (x, sym (changes_one.others other apart) ∙ h, refl))
      (λ eq. let is : x ≡ it' = cc (h, eq, changes_one.is_at) in (it, ap (waiter_at s) eq ∙ at, ap part is ∙ same))

  pub watched_before : it'.observer ≡ it.observer → (other : Id) (x : Waiter S F) → waiter_at (written s id (Pending it')) other ≡ Some x → (y : Waiter S F) × (waiter_at s other ≡ Some y) × (x.observer ≡ y.observer)
  watched_before = part_before (λ y. y.observer)

  pub live_after : (other : Id) (x : Waiter S F) → waiter_at s other ≡ Some x → (y : Waiter S F) × (waiter_at (written s id (Pending it')) other ≡ Some y)
  live_after other x h = by_name other id (λ apart. (x, changes_one.others other apart ∙ h)) (λ eq. (it', ap (waiter_at (written s id (Pending it'))) eq ∙ changes_one.is_at))

-- as much may be told
pub tellers_still : (s : Slab (Entry Reply Reply)) (id : Id) (it it' : Waiter Reply Reply) → waiter_at s id ≡ Some it → it'.observer ≡ it.observer → (zs : Slab (Sleeping Reply)) → tellers (written s id (Pending it')) zs ≡ tellers s zs
tellers_still = grind (arith, held_written, entry_of, one_if, pending_still)

-- THE NAMES

pub record OneGoesOn (n n' : Names) (d d' : Driving Reply Reply) (rs : List Record) (id : Id) (it it' : Waiter Reply Reply) (r : Record) (f : Record → Record) : Type 0 where
  pub at : waiter_at d.requests id ≡ Some it
  pub there : slice_get rs (number_in n.requests.items id) ≡ Some r
  pub slab : d'.requests ≡ written d.requests id (Pending it')
  pub on : GoesOn r (f r)
  pub alike : IsAlike d.wheel.start d.wheel.tick it' (f r).shown
  pub start : d'.wheel.start ≡ d.wheel.start
  pub tick : d'.wheel.tick ≡ d.wheel.tick
  pub requests : n'.requests ≡ n.requests
  pub timers : n'.timers ≡ n.timers

module _ (i : ℕ) (n n' : Names) (d d' : Driving Reply Reply) (zs : Slab (Sleeping Reply)) (rs : List Record) (ss : List SleeperRecord) (id : Id) (it it' : Waiter Reply Reply) (r : Record) (f : Record → Record) (one : OneGoesOn n n' d d' rs id it it' r f) where
  -- another request has another number
  pub apart_number : (named : IsNamed i n d zs rs ss) (other : Id) → IsSome (value_at d.requests other) → other ≢ id → number_in n.requests.items id ≡ number_in n.requests.items other → ⊥
  apart_number = grind arith

  alike_by : (named : IsNamed i n d zs rs ss) (other : Id) (w : Waiter Reply Reply) (x : Record) → waiter_at (written d.requests id (Pending it')) other ≡ Some w
      → slice_get (changed_at rs (number_in n.requests.items id) f) (number_in n.requests.items other) ≡ Some x → IsAlike d.wheel.start d.wheel.tick w x.shown
  alike_by named other w x at there =
      let changed = changes_one d.requests id it it' one.at in
      let differs : other ≢ id → IsAlike d.wheel.start d.wheel.tick w x.shown = λ apart.
      let old : waiter_at d.requests other ≡ Some w = sym (changed.others other apart) ∙ at in
      let apart_k = apart_number named other (rw (entry_of (value_at d.requests other) w old) refl) apart in
      named.alike other w x old (others_there rs (number_in n.requests.items id) f r one.there one.on (number_in n.requests.items other) x apart_k there) in
      by_name other id differs
      (λ same.
      let is_it : w ≡ it' = cc (at, ap (waiter_at (written d.requests id (Pending it'))) same, changed.is_at) in
      let is_r : x ≡ f r = cc (there, ap (λ q. slice_get (changed_at rs (number_in n.requests.items id) f) (number_in n.requests.items q)) same, now_there rs (number_in n.requests.items id) f r one.there one.on) in
      rw (is_it, is_r) one.alike)

  pub named_one : IsNamed i n d zs rs ss → IsSubmitted i n'.staged.items n'.untold.items d'.ring (changed_at rs (number_in n.requests.items id) f) → IsNamed i n' d' zs (changed_at rs (number_in n.requests.items id) f) ss
  named_one named submitted =
      let all = all_go_one rs (number_in n.requests.items id) f r one.there one.on in
      record {
        requests = λ other h.
            let old = named.requests other (some_before d.requests id it it' one.at other (subst (λ s. IsSome (value_at s other)) one.slab h)) in
            let new = all.becomes (number_in n.requests.items other) old.0 old.1 in
            rw one.requests (new.r', new.there, ap (λ x. x.0) (same_id old.0 new.r' new.on) ∙ old.2, same_worker old.0 new.r' new.on ∙ old.3);
        timers = λ other h. rw one.timers (named.timers other h);
        alike = λ other w x at there.
            rw (one.start, one.tick) (alike_by named other w x (subst (λ s. waiter_at s other ≡ Some w) one.slab at) (subst (λ v. slice_get (changed_at rs (number_in n.requests.items id) f) (number_in v.items other) ≡ Some x) one.requests there));
        over = λ j x there mine gone.
            let old = all.was j x there in
            let before : waiter_at d.requests old.r.id.0 ≡ None =
            gone_before (waiter_at d.requests old.r.id.0) old.r.id.0 refl (subst (λ s. waiter_at s old.r.id.0 ≡ None) one.slab (subst (λ y. waiter_at d'.requests y.0 ≡ None) (same_id old.r x old.on) gone)) in
            old.on.over ∙ named.over j old.r old.there (sym (same_worker old.r x old.on) ∙ mine) before;
        submitted = submitted;
        slots = rw (one.requests, one.slab, length-set) named.slots;
        beds = rw one.timers named.beds;
      }
    where
      gone_before : (o : Option (Waiter Reply Reply)) (other : Id) → waiter_at d.requests other ≡ o → waiter_at (written d.requests id (Pending it')) other ≡ None → o ≡ None
      gone_before None other is gone = refl
      gone_before (Some w) other is gone =
          let changed = changes_one d.requests id it it' one.at in
          by_name other id (λ apart. sym is ∙ sym (changed.others other apart) ∙ gone)
          (λ same. absurd (let no : Some it' ≡ None = sym changed.is_at ∙ ap (waiter_at (written d.requests id (Pending it'))) (sym same) ∙ gone in cc))

  -- its deadline stays with its number
  pub timed_one : IsNamed i n d zs rs ss → AreTimed i n rs → AreTimed i n' (changed_at rs (number_in n.requests.items id) f)
  timed_one named timed j x there mine =
      let old = (all_go_one rs (number_in n.requests.items id) f r one.there one.on).was j x there in
      let it = timed j old.r old.there (sym (same_worker old.r x old.on) ∙ mine) in
      record {
        named = λ unresolved. rw (one.requests, same_id old.r x old.on) (it.named (sym old.on.over ∙ unresolved));
        over = λ done. kept_timer j (number_in n.requests.items id == j) old.r x refl old.there there (sym old.on.over ∙ done) ∙ it.over (sym old.on.over ∙ done);
      }
    where
      kept_timer : (j : ℕ) (b : Bool) (old x : Record) → (number_in n.requests.items id == j) ≡ b → slice_get rs j ≡ Some old → slice_get (changed_at rs (number_in n.requests.items id) f) j ≡ Some x → is_resolved old.shown.phase ≡ true → x.shown.timer ≡ old.shown.timer
      kept_timer j true old x is there now done =
          let same : r ≡ old = cc (one.there, there, same_number (number_in n.requests.items id) j is) in
          absurd (false≢true (sym (named.alike id _ r one.at one.there).open_still ∙ ap (λ y. is_resolved y.shown.phase) same ∙ done))
      kept_timer j false old x is there now done =
          let b = was_marked f rs (number_in n.requests.items id) j x now in
          let same : b.0 ≡ old = cc (b.1, there) in
          ap (λ y. y.shown.timer) (b.2 ∙ ap (λ q. mark_if f q b.0) is ∙ same)

-- WHAT HOLDS AGAIN where the operation and the cancel of one request go on

module _ {B : Type 0} (q q' : Place) (o : PutOff) (v : Names) (w : Worker) (s : Shared B) (d' : Driving Reply Reply) (id : Id) (it it' : Waiter Reply Reply) (r : Record) (f : Record → Record) where
  abbrev pub names_then : Names
  names_then = record w.names { staged = v.staged; untold = v.untold }

  abbrev pub records_then : List Record
  records_then = changed_at s.requests.items (number_in w.names.requests.items id) f

  pub keeps_one : SoundAt q w s → Follows q q' → OneGoesOn w.names names_then (driver_of w) d' s.requests.items id it it' r f
      → IsPunctual d' → (may_be_due (served_in q') ≡ false → d'.lists.due ≡ [])
      → IsOrdered (went_round s.config w.moments) w.names.requests.items d'.requests d'.wheel d'.lists.enrolments d'.lists.due → IsWheelAt s.config w.moments.start (wheel_moment (served_in q) w.moments) d'.wheel → d'.ring.size ≡ (driver_of w).ring.size
      → IsSubmitted w.index v.staged.items v.untold.items d'.ring records_then → HasFlown (served_in q') w.index names_then d' records_then → IsCarried w.names.requests.items d'.requests d'.ring records_then s.store
      → it'.observer ≡ it.observer → IsKnown w.index w.names.requests.items d'.requests s.opens records_then → KeepsBy (record w { place = q'; put_off = o; names = names_then }) d' w.home.timers records_then s.sleepers.items s
  keeps_one sound to one punctual told order wheel size submitted flown carried watched known =
      let d = driver_of w in
      let rs = s.requests.items in
      let all = all_go_one rs (number_in w.names.requests.items id) f r one.there one.on in
      let due = sound.due in
      let tell : tellers d'.requests w.home.timers ≡ tellers d.requests w.home.timers = ap (λ x. tellers x w.home.timers) one.slab ∙ tellers_still d.requests id it it' one.at watched w.home.timers in
      let told_so = subst (λ n. IsTold w.names.ended.items w.home.deferred (n + 64)) (sym tell) (kept q w s sound (calm q to.from)).told in
      let named_so = named_one w.index w.names names_then d d' w.home.timers rs s.sleepers.items id it it' r f one sound.named submitted in
      let over : AreOver w.index names_then.ended.items names_then.unreleased (pending_count d'.requests) records_then =
      rw (one.slab, pending_still d.requests id it it' one.at) (over_on rs records_then all w.index w.names.ended.items w.names.unreleased (pending_count d.requests) sound.over) in
      let quiet : has_wakes_at q' ≡ false → w.home.deferred.notes.wakes.items ≡ [] = λ h. sound.quiet (sym to.wakes ∙ h) in
      let wheel_so = subst (λ m. IsWheelAt s.config w.moments.start m d'.wheel) (sym (to.moment w.moments)) wheel in
      let timed = timed_one w.index w.names names_then d d' w.home.timers rs s.sleepers.items id it it' r f one sound.named due.timed in
      let asleep : AreAsleep w.home.closing w.index names_then w.home.timers s.sleepers.items =
      record { alike = due.asleep.alike; there = due.asleep.there; named = due.asleep.named; lets_go = due.asleep.lets_go; counted = due.asleep.counted; names = due.asleep.names } in
      let due_so : IsDue (served_in q') w.home.closing w.index w.moments s.config names_then d' w.home.timers records_then s.sleepers.items = assumption (punctual, told, wheel_so, timed, asleep, order) in
      let rooted : IsRooted w.index names_then d' w.home.timers w.home.deferred records_then s.sleepers.items =
      rooted_on rs records_then all w.index w.names names_then d d' w.home.timers w.home.deferred s.sleepers.items sound.rooted refl refl
      (λ other h. subst (λ x. IsSome (value_at x other)) (sym one.slab) (some_after d.requests id it it' one.at other h))
      (λ other told h. ready_before d.requests id it it' one.at other told (subst (λ x. value_at x other ≡ Some (Ready told)) one.slab h))
      (λ other x h. watched_before d.requests id it it' one.at watched other x (subst (λ y. waiter_at y other ≡ Some x) one.slab h)) in
      let bare : is_bare_at q' ≡ true → live_count w.home.timers ≡ 0 = λ h. (calm q to.from).lets_in d.requests w.home.timers sound.lets_go (sym to.bare ∙ h) in
      assumption (told_so, subst (λ n. HasWidth w.home.deferred (n + 64)) (sym tell) sound.wide, named_so, size ∙ sound.sized, over, quiet, due_so, flown, carried, known, rooted, bare)
