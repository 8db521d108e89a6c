-- Who waits for a request changes, or nobody does any more, by which it may be cancelled: what that leaves as it was.
use Rattle.exec_invariants.{specs.{Due.{IsDue, IsWheelAt, AreTimed}, Gates.IsKnown, Flown.{AreLanded, IsPlain, IsPolled, HasFlown, operations}, Names.{IsNamed, IsAlike, IsSubmitted}, Sound.AreOver, Carried.IsCarried}, proofs.{Words.{◌≡◌, ◌≢◌, ◌⊎◌, inl, ⊎_elim, ℕ, ◌==◌, Bool, true, false, List, [], length, Option, Some, None, IsSome, refl, sym, ap, subst, ◌∙◌, slice_get, is_some, false≢true, eq-eqb, length-set, ◌≤◌, arith, IsPast, Slab, value_at, written, Id, Updates-write, past-write, Sleeping, RequestOutput, deadline_of, Store, needs_permit, waiter_at, waiter_of, takes_tick, tick_in, Waiter, Entry, Pending, Ready, WaiterId, entry_of, Driving, IsPunctual, is_among, OpenState, Configuration, is_resolved, is_staged, InService, Reply, Names, Record, SleeperRecord, Moments, number_in, AreKnown, changed_at, by_name, same_number}, Known.known_on, Flown.{FliesOn, landed_on}, Marking.{known_then, mark_if, marked, marked_length, was_marked}, Orders.{Eases, eases_written, IsPartOf, TurnsAlike, eased, part_none, part_self}, Carries.{carried_marked, carried_slab, carried_waiter}, Changing.changes_one}}

-- a request that isn't over stays so, in flight or not, with no deadline to be enrolled and no permit to come that it hadn't
abbrev pub Rewatched : Option (Waiter Reply Reply) → Option (Waiter Reply Reply) → Type 0
Rewatched None now = now ≡ None
Rewatched (Some it) now = (it' : Waiter Reply Reply) × (now ≡ Some it') × (it'.in_flight ≡ it.in_flight) × ((it'.request ≡ it.request) × (takes_tick it'.state ≡ true → takes_tick it.state ≡ true) × (needs_permit it' ≡ true → needs_permit it ≡ true))

-- The record of the request with this name becomes what f makes of it, and of the driver what it has of that request alone
-- changes, with its place in the wheel and among the cancels.
pub record Watched (n : Names) (d d' : Driving Reply Reply) (rs rs' : List Record) (id : Id) (r : Record) (f : Record → Record) : Type 0 where
  pub there : slice_get rs (number_in n.requests.items id) ≡ Some r
  pub name : r.id.0 ≡ id
  pub live : IsSome (value_at d.requests id)
  pub records : rs' ≡ changed_at rs (number_in n.requests.items id) f
  pub keeps : f r ≡ record r { shown = record r.shown { timer = (f r).shown.timer; observed = (f r).shown.observed; cancelled = (f r).shown.cancelled; waiter = (f r).shown.waiter; forwarding = (f r).shown.forwarding } }
  pub timer : is_resolved r.shown.phase ≡ true → (f r).shown.timer ≡ r.shown.timer
  pub others : (x : Id) → x ≢ id → value_at d'.requests x ≡ value_at d.requests x
  pub waits : Rewatched (waiter_at d.requests id) (waiter_at d'.requests id)
  pub alike : (it : Waiter Reply Reply) → waiter_at d'.requests id ≡ Some it → IsAlike d.wheel.start d.wheel.tick it (f r).shown
  pub ring : d'.ring ≡ d.ring
  pub armed : d'.armed ≡ d.armed
  pub start : d'.wheel.start ≡ d.wheel.start
  pub tick : d'.wheel.tick ≡ d.wheel.tick
  pub enrolments : d'.lists.enrolments ≡ d.lists.enrolments
  pub gated : d'.lists.gated ≡ d.lists.gated
  pub back : (x : Id) → IsPast d'.requests x → IsPast d.requests x
  pub eases : Eases d.requests d'.requests
  pub turns : TurnsAlike d.wheel d'.wheel
  pub slots : length d'.requests.slots ≡ length d.requests.slots
  pub cancels : (x : WaiterId) → is_among x d'.lists.cancels ≡ true → (is_among x d.lists.cancels ≡ true) ⊎ ((x.0 ≡ id) × (r.shown.cancel_staged ≡ false))

-- what a record was
pub record WasThere (rs : List Record) (j : ℕ) (x : Record) : Type 0 where
  pub o : Record
  pub at : slice_get rs j ≡ Some o
  pub is : x ≡ record o { shown = record o.shown { timer = x.shown.timer; observed = x.shown.observed; cancelled = x.shown.cancelled; waiter = x.shown.waiter; forwarding = x.shown.forwarding } }
  pub timer : is_resolved o.shown.phase ≡ true → x.shown.timer ≡ o.shown.timer

module _ (i : ℕ) (n : Names) (d d' : Driving Reply Reply) (zs : Slab (Sleeping Reply)) (rs rs' : List Record) (ss : List SleeperRecord) (id : Id) (r : Record) (f : Record → Record) (by : Watched n d d' rs rs' id r f) where
  was_if : (j : ℕ) (b : Bool) (o : Record) → (number_in n.requests.items id == j) ≡ b → slice_get rs j ≡ Some o → mark_if f b o ≡ record o { shown = record o.shown { timer = (mark_if f b o).shown.timer; observed = (mark_if f b o).shown.observed; cancelled = (mark_if f b o).shown.cancelled; waiter = (mark_if f b o).shown.waiter; forwarding = (mark_if f b o).shown.forwarding } }
  was_if = grind arith

  timer_kept : (j : ℕ) (b : Bool) (o : Record) → (number_in n.requests.items id == j) ≡ b → slice_get rs j ≡ Some o → is_resolved o.shown.phase ≡ true → (mark_if f b o).shown.timer ≡ o.shown.timer
  timer_kept = grind arith

  pub before : (j : ℕ) (x : Record) → slice_get rs' j ≡ Some x → WasThere rs j x
  before = grind (arith, was_marked, was_if, timer_kept)

  pub after : (j : ℕ) (o : Record) → slice_get rs j ≡ Some o → (x : Record) × (slice_get rs' j ≡ Some x) × (x ≡ record o { shown = record o.shown { timer = x.shown.timer; observed = x.shown.observed; cancelled = x.shown.cancelled; waiter = x.shown.waiter; forwarding = x.shown.forwarding } })
  after j o at =
      (mark_if f (number_in n.requests.items id == j) o, ap (λ xs. slice_get xs j) by.records ∙ marked f rs (number_in n.requests.items id) j o at, was_if j (number_in n.requests.items id == j) o refl at)

  -- that record, and any other
  pub now_there : slice_get rs' (number_in n.requests.items id) ≡ Some (f r)
  now_there =
      let k = number_in n.requests.items id in
      ap (λ xs. slice_get xs k) by.records ∙ marked f rs k k r by.there ∙ ap (λ b. Some (mark_if f b r)) (eq-eqb k k refl)

  apart : (j : ℕ) → (number_in n.requests.items id ≡ j → ⊥) → (b : Bool) → (number_in n.requests.items id == j) ≡ b → b ≡ false
  apart j differs true is = absurd (differs (same_number (number_in n.requests.items id) j is))
  apart j differs false is = refl

  pub other_there : (j : ℕ) (x : Record) → (number_in n.requests.items id ≡ j → ⊥) → slice_get rs' j ≡ Some x → slice_get rs j ≡ Some x
  other_there = grind (arith, was_marked, mark_if, apart)

  pub other_still : (j : ℕ) (o : Record) → (number_in n.requests.items id ≡ j → ⊥) → slice_get rs j ≡ Some o → slice_get rs' j ≡ Some o
  other_still j o differs at =
      let k = number_in n.requests.items id in
      ap (λ xs. slice_get xs j) by.records ∙ marked f rs k j o at ∙ ap (λ b. Some (mark_if f b o)) (apart j differs (k == j) refl)

  -- what is there was there
  pub some_before : (x : Id) → IsSome (value_at d'.requests x) → IsSome (value_at d.requests x)
  some_before x some = by_name x id (λ differs. subst IsSome (by.others x differs) some) (λ same. subst (λ y. IsSome (value_at d.requests y)) (sym same) by.live)

  -- another request has another number
  pub apart_number : IsNamed i n d zs rs ss → (x : Id) → IsSome (value_at d.requests x) → x ≢ id → number_in n.requests.items id ≡ number_in n.requests.items x → ⊥
  apart_number = grind arith

  alike_now : IsNamed i n d zs rs ss → (x : Id) (it : Waiter Reply Reply) (y : Record) → waiter_at d'.requests x ≡ Some it → slice_get rs' (number_in n.requests.items x) ≡ Some y → IsAlike d.wheel.start d.wheel.tick it y.shown
  alike_now named x it y live found =
      by_name x id
      (λ differs.
      let old : waiter_at d.requests x ≡ Some it = ap waiter_of (sym (by.others x differs)) ∙ live in
      named.alike x it y old (other_there (number_in n.requests.items x) y (apart_number named x (rw (entry_of (value_at d.requests x) it old) refl) differs) found))
      (λ same.
      let is : y ≡ f r = cc (found, ap (λ z. slice_get rs' (number_in n.requests.items z)) same, now_there) in
      subst (λ z. IsAlike d.wheel.start d.wheel.tick it z.shown) (sym is) (by.alike it (ap (waiter_at d'.requests) (sym same) ∙ live)))

  -- what waits for nothing waited for nothing
  gone_before : (o : Option (Waiter Reply Reply)) → waiter_at d.requests id ≡ o → Rewatched o (waiter_at d'.requests id) → waiter_at d'.requests id ≡ None → o ≡ None
  gone_before None is waits gone = refl
  gone_before (Some it) is waits gone = absurd (let no : Some waits.0 ≡ None = sym waits.1 ∙ gone in cc)

  pub submitted_watched : IsSubmitted i n.staged.items n.untold.items d.ring rs → IsSubmitted i n.staged.items n.untold.items d'.ring rs'
  submitted_watched sub =
      rw by.ring
      (record {
        tagged = sub.tagged;
        cancels = sub.cancels;
        known = subst (AreKnown n.staged.items) (sym by.records) (known_then f rs (number_in n.requests.items id) n.staged.items sub.known);
        own = λ j x h found. let old = before j x found in ap (λ y. y.shown.worker) old.is ∙ sub.own j old.o h old.at;
        all = λ j x found mine staged.
            let old = before j x found in
            sub.all j old.o old.at (sym (ap (λ y. y.shown.worker) old.is) ∙ mine) (sym (ap (λ y. is_staged y.shown.phase) old.is) ∙ staged);
      })

  pub named_watched : IsNamed i n d zs rs ss → IsNamed i n d' zs rs' ss
  named_watched named =
      let requests : (id : Id) → IsSome (value_at d'.requests id) → (r : Record) × (slice_get rs' (number_in n.requests.items id) ≡ Some r) × (r.id.0 ≡ id) × (r.shown.worker ≡ i) = λ x some.
      let old = named.requests x (some_before x some) in
      let new = after (number_in n.requests.items x) old.0 old.1 in
      (new.0, new.1, ap (λ y. y.id.0) new.2 ∙ old.2, ap (λ y. y.shown.worker) new.2 ∙ old.3) in
      let alike : (id : Id) (it : Waiter Reply Reply) (r : Record) → waiter_at d'.requests id ≡ Some it → slice_get rs' (number_in n.requests.items id) ≡ Some r → IsAlike d'.wheel.start d'.wheel.tick it r.shown =
      λ x it y live found. rw (by.start, by.tick) (alike_now named x it y live found) in
      let over : (k : ℕ) (r : Record) → slice_get rs' k ≡ Some r → r.shown.worker ≡ i → waiter_at d'.requests r.id.0 ≡ None → is_resolved r.shown.phase ≡ true = λ j y found mine none.
      let old = before j y found in
      let gone : waiter_at d'.requests old.o.id.0 ≡ None = subst (λ z. waiter_at d'.requests z.0 ≡ None) (ap (λ z. z.id) old.is) none in
      let was : waiter_at d.requests old.o.id.0 ≡ None = by_name old.o.id.0 id (λ differs. ap waiter_of (sym (by.others old.o.id.0 differs)) ∙ gone)
      (λ same. ap (waiter_at d.requests) same ∙ gone_before (waiter_at d.requests id) refl by.waits (ap (waiter_at d'.requests) (sym same) ∙ gone)) in
      ap (λ z. is_resolved z.shown.phase) old.is ∙ named.over j old.o old.at (sym (ap (λ z. z.shown.worker) old.is) ∙ mine) was in
      let slots : length d'.requests.slots ≤ length n.requests.items = rw by.slots named.slots in
      assumption (requests, alike, over, submitted_watched named.submitted, slots, named)

  pub over_watched : (ended : List ℕ) (unreleased others : ℕ) → AreOver i ended unreleased others rs → AreOver i ended unreleased others rs'
  over_watched = grind (arith, after)

  pub due_watched : {closing : Bool} (m : Moments) (c : Configuration) → IsPunctual d' → d'.lists.due ≡ [] → IsWheelAt c m.start m.sampled d'.wheel → IsDue None closing i m c n d zs rs ss → IsDue None closing i m c n d' zs rs' ss
  due_watched m c punctual told wheel due =
      let timed : AreTimed i n rs' = λ j y found mine.
      let old = before j y found in
      let t = due.timed j old.o old.at (sym (ap (λ z. z.shown.worker) old.is) ∙ mine) in
      grind arith in
      let order = eased by.eases by.turns (subst (λ xs. IsPartOf xs d.lists.enrolments) (sym by.enrolments) (part_self d.lists.enrolments)) (subst (λ xs. IsPartOf xs d.lists.due) (sym told) (part_none d.lists.due)) due.order in
      record { punctual = punctual; told = λ e. told; wheel = wheel; timed = timed; asleep = record { alike = due.asleep.alike; there = due.asleep.there; named = due.asleep.named; lets_go = due.asleep.lets_go; counted = due.asleep.counted; names = due.asleep.names }; order = order }

  -- its operation stays, in the ring and out of it
  pub carried_watched : (st : Store) → IsCarried n.requests.items d.requests d.ring rs st → IsCarried n.requests.items d'.requests d'.ring rs' st
  carried_watched st carried =
      let numbers = n.requests.items in
      let is : (o : Record) → slice_get rs (number_in numbers id) ≡ Some o → r ≡ o = λ o at. cc (by.there, at) in
      let marked = carried_marked numbers d.requests d.ring rs st carried (number_in numbers id) f
      (λ o at. subst (λ y. (f y).shown.operation ≡ y.shown.operation) (is o at) (ap (λ y. y.shown.operation) by.keeps)) (λ o at. subst (λ y. (f y).shown.phase ≡ y.shown.phase) (is o at) (ap (λ y. y.shown.phase) by.keeps)) (λ o at. subst (λ y. (f y).shown.released ≡ y.shown.released) (is o at) (ap (λ y. y.shown.released) by.keeps)) in
      let before : IsCarried numbers d.requests d'.ring rs' st =
      subst (λ x. IsCarried numbers d.requests x rs' st) (sym by.ring) (subst (λ xs. IsCarried numbers d.requests d.ring xs st) (sym by.records) marked) in
      by_waiter (waiter_at d.requests id) refl by.waits before
    where
      by_waiter : (o : Option (Waiter Reply Reply)) → waiter_at d.requests id ≡ o → Rewatched o (waiter_at d'.requests id) → IsCarried n.requests.items d.requests d'.ring rs' st → IsCarried n.requests.items d'.requests d'.ring rs' st
      by_waiter None at now c =
          carried_slab n.requests.items d.requests d'.ring rs' st c d'.requests
          (λ x. by_name x id (λ differs. ap waiter_of (by.others x differs)) (λ same. ap (waiter_at d'.requests) same ∙ now ∙ sym (ap (waiter_at d.requests) same ∙ at)))
      by_waiter (Some it) at now c =
          let s1 = written d.requests id (Pending now.0) in
          let one = changes_one d.requests id it now.0 at in
          carried_slab n.requests.items s1 d'.ring rs' st (carried_waiter n.requests.items d.requests d'.ring rs' st c id it now.0 at now.3.0) d'.requests
          (λ x. by_name x id (λ differs. ap waiter_of (by.others x differs) ∙ sym (one.others x differs)) (λ same. ap (waiter_at d'.requests) same ∙ now.1 ∙ sym (ap (waiter_at s1) same ∙ one.is_at)))

  -- the request itself, by what waited for it
  flies_here : (o : Option (Waiter Reply Reply)) → Rewatched o (waiter_at d'.requests id) → (it : Waiter Reply Reply) → o ≡ Some it → (x : Record) → slice_get rs (number_in n.requests.items id) ≡ Some x → FliesOn n n d d' rs rs' id it x
  flies_here = grind (arith, after)

  enrols_here : (o : Option (Waiter Reply Reply)) → waiter_at d.requests id ≡ o → Rewatched o (waiter_at d'.requests id) → (it : Waiter Reply Reply) → waiter_at d'.requests id ≡ Some it → takes_tick it.state ≡ true
      → (x : Waiter Reply Reply) × (waiter_at d.requests id ≡ Some x) × (takes_tick x.state ≡ true) × (it.request ≡ x.request)
  enrols_here = grind arith

  needs_here : (o : Option (Waiter Reply Reply)) → waiter_at d.requests id ≡ o → Rewatched o (waiter_at d'.requests id) → (it : Waiter Reply Reply) → waiter_at d'.requests id ≡ Some it → needs_permit it ≡ true
      → (x : Waiter Reply Reply) × (waiter_at d.requests id ≡ Some x) × (needs_permit x ≡ true)
  needs_here = grind arith

  pub flown_watched : (x : Option InService) → HasFlown x i n d rs → HasFlown x i n d' rs'
  flown_watched place flown =
      let lands = landed_on n n d d' rs rs' (operations d.ring) flown.landed
      (λ x it y given live flies at landed.
      by_name x id
      (λ differs.
      let new = after (number_in n.requests.items x) y at in
      record { it' = it; r' = new.0; live = ap waiter_of (by.others x differs) ∙ live; flies = refl; same = refl; number = refl; there = new.1; phase = ap (λ z. z.shown.phase) new.2 })
      (λ same. subst (λ z. FliesOn n n d d' rs rs' z it y) (sym same)
      (flies_here (waiter_at d.requests id) by.waits it (ap (waiter_at d.requests) (sym same) ∙ live) y (ap (λ z. slice_get rs (number_in n.requests.items z)) (sym same) ∙ at)))) in
      record {
        ending = flown.ending;
        staging = rw by.ring flown.staging;
        telling = rw by.ring flown.telling;
        entries = rw by.ring flown.entries;
        gated = λ x it live needs.
            rw by.gated
            (by_name x.0 id
            (λ differs. flown.gated x it (ap waiter_of (sym (by.others x.0 differs)) ∙ live) needs)
            (λ same.
            let old = needs_here (waiter_at d.requests id) refl by.waits it (ap (waiter_at d'.requests) (sym same) ∙ live) needs in
            flown.gated x old.0 (ap (waiter_at d.requests) same ∙ old.1) old.2));
        plain = λ j y found mine.
            let old = before j y found in
            subst (λ z. IsPlain z.shown) (sym old.is) (assumption (flown.plain j old.o old.at (sym (ap (λ z. z.shown.worker) old.is) ∙ mine)));
        landed = subst (λ x. AreLanded n d' rs' (operations x)) (sym by.ring) lands;
        enrolling = λ x it live takes has.
            rw by.enrolments
            (by_name x.0 id
            (λ differs. flown.enrolling x it (ap waiter_of (sym (by.others x.0 differs)) ∙ live) takes has)
            (λ same.
            let old = enrols_here (waiter_at d.requests id) refl by.waits it (ap (waiter_at d'.requests) (sym same) ∙ live) takes in
            flown.enrolling x old.0 (ap (waiter_at d.requests) same ∙ old.1) old.2 (ap (λ z. is_some (deadline_of z)) (sym old.3) ∙ has)));
        polled = subst (λ a. IsPolled d'.ring a) (sym by.armed) (subst (λ x. IsPolled x d.armed) (sym by.ring) flown.polled);
        owning = λ j y found unresolved.
            let old = before j y found in
            ap (λ z. z.shown.released) old.is ∙ flown.owning j old.o old.at (sym (ap (λ z. is_resolved z.shown.phase) old.is) ∙ unresolved);
        uncancelled = λ x y among found mine.
            let old = before (number_in n.requests.items x.0) y found in
            ap (λ z. z.shown.cancel_staged) old.is
            ∙ ⊎_elim (λ was. flown.uncancelled x old.o was old.at (sym (ap (λ z. z.shown.worker) old.is) ∙ mine))
            (λ new.
            let is : old.o ≡ r = cc (old.at, ap (λ z. slice_get rs (number_in n.requests.items z)) new.0, by.there) in
            ap (λ z. z.shown.cancel_staged) is ∙ new.1)
            (by.cancels x among);
      }

  pub known_watched : (opens : List OpenState) → IsKnown i n.requests.items d.requests opens rs → IsKnown i n.requests.items d'.requests opens rs'
  known_watched opens known =
      known_on i n.requests.items n.requests.items d.requests d'.requests opens opens rs rs' by.eases.past by.back
      (ap length by.records ∙ marked_length f rs (number_in n.requests.items id))
      (λ j y found mine.
      let old = before j y found in
      (old.o, old.at, sym (ap (λ z. z.shown.worker) old.is) ∙ mine, ap (λ z. z.id) old.is))
      (λ file h. h)
      (λ x it y live found.
      let old = before (number_in n.requests.items x) y found in
      by_name x id
      (λ differs. inl (record {
        it = it;
        r = old.o;
        live = ap waiter_of (sym (by.others x differs)) ∙ live;
        there = old.at;
        asks = record { driver = λ h. inl h; kind = ap (λ z. z.shown.operation.kind) old.is; target = ap (λ z. z.shown.operation.target) old.is; unrefused = λ h. sym (ap (λ z. z.shown.operation.unrefused) old.is) ∙ h };
      }))
      (λ same.
      grind arith))
      known

-- A REQUEST THAT ISN'T OVER, of which what waits for it becomes this

not_taken : (a b : Bool) → (b ≡ true → a ≡ true) → a ≡ false → b ≡ false
not_taken a false h is = refl
not_taken a true h is = absurd (false≢true (sym is ∙ h refl))

pub watched : (n : Names) (d d' : Driving Reply Reply) (rs : List Record) (id : Id) (it it' : Waiter Reply Reply) (r : Record) (f : Record → Record) → waiter_at d.requests id ≡ Some it → slice_get rs (number_in n.requests.items id) ≡ Some r → r.id.0 ≡ id
    → f r ≡ record r { shown = record r.shown { timer = (f r).shown.timer; observed = (f r).shown.observed; cancelled = (f r).shown.cancelled; waiter = (f r).shown.waiter; forwarding = (f r).shown.forwarding } }
    → is_resolved r.shown.phase ≡ false → d'.requests ≡ written d.requests id (Pending it') → it'.in_flight ≡ it.in_flight → it'.request ≡ it.request → (takes_tick it'.state ≡ true → takes_tick it.state ≡ true) → (needs_permit it' ≡ true → needs_permit it ≡ true)
    → ((t : ℕ) → tick_in it'.state ≡ Some t → tick_in it.state ≡ Some t)
    → IsAlike d.wheel.start d.wheel.tick it' (f r).shown → d'.ring ≡ d.ring → d'.armed ≡ d.armed → d'.wheel.start ≡ d.wheel.start → d'.wheel.tick ≡ d.wheel.tick → TurnsAlike d.wheel d'.wheel → d'.lists.enrolments ≡ d.lists.enrolments → d'.lists.gated ≡ d.lists.gated
    → ((x : WaiterId) → is_among x d'.lists.cancels ≡ true → (is_among x d.lists.cancels ≡ true) ⊎ ((x.0 ≡ id) × (r.shown.cancel_staged ≡ false)))
    → Watched n d d' rs (changed_at rs (number_in n.requests.items id) f) id r f
watched n d d' rs id it it' r f at there name keeps open_still slab flies request takes needs ticks alike ring armed start tick turns enrolments gated cancels =
    let map = Updates-write d.requests id (Pending it') (rw (entry_of (value_at d.requests id) it at) refl) in
    let now : waiter_at d'.requests id ≡ Some it' = ap (λ s. waiter_at s id) slab ∙ ap waiter_of map.changed in
    grind (arith, false≢true, apart, past-write, eases_written, not_taken, length-set)

-- no output is there then
pub still_pending : (s s' : Slab (Entry Reply Reply)) (id : Id) (it it' : Waiter Reply Reply) → waiter_at s id ≡ Some it → s' ≡ written s id (Pending it') → (told : RequestOutput) → value_at s' id ≡ Some (Ready told) → ⊥
still_pending s s' id it it' at slab told ready =
    let some : IsSome (value_at s id) = rw (entry_of (value_at s id) it at) refl in
    let no : Some (Pending it') ≡ Some (Ready told) = sym (Updates-write s id (Pending it') some).changed ∙ ap (λ x. value_at x id) (sym slab) ∙ ready in
    absurd (cc)
