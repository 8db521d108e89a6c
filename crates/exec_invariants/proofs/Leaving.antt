-- What flies and what has landed, once a request is over.
use Rattle.exec_invariants.{proofs.{Names.{◌≡◌, ◌≢◌, ℕ, ◌==◌, Bool, true, false, List, Option, Some, None, refl, sym, ap, subst, ◌∙◌, slice_get, false≢true, deque_capacity, vec_capacity, length, is_some, ◌≤◌, ◌+◌, arith, Slab, value_at, Id, Outcome, Sleeping, RequestOutput, deadline_of, waiter_at, waiter_of, needs_permit, takes_tick, Observer, Local, Entry, Pending, Waiter, WaiterId, entry_of, Driving, is_among, withdrawn, is_resolved, InService, Reply, Names, Record, SleeperRecord, number_in, changed_at, same_number, among_others, not_same}, Flown.landed_on, Marking.{mark_if, marked, was_marked}, Over.{OneEnds, kept_worker}, Resolving.{EntryAfter, left_among}}, specs.{Due.AreTimed, Flown.{IsPolled, AreLanded, HasFlown, IsPlain, operations}, Names.IsNamed}}

-- WHAT FLIES, and WHAT HAS LANDED

module _ (i : ℕ) (n : Names) (d d' : Driving Reply Reply) (zs : Slab (Sleeping Reply)) (rs : List Record) (ss : List SleeperRecord) (id : Id) (it : Waiter Reply Reply) (r : Record) (f : Record → Record) (outcome : Outcome) (told : RequestOutput)
    (one : OneEnds n d d'.requests rs id it r f outcome told) (named : IsNamed i n d zs rs ss) (timed : AreTimed i n rs) where
  value_there : value_at d.requests id ≡ Some (Pending it)
  value_there = entry_of (value_at d.requests id) it one.at

  found_is : (x : Record) → slice_get rs (number_in n.requests.items id) ≡ Some x → r ≡ x
  found_is x at = cc (one.there, at)

  pub flown_over : (x : Option InService) (n' : Names) → n'.requests ≡ n.requests → n'.staged ≡ n.staged → n'.untold ≡ n.untold → n'.unreleased ≡ n.unreleased → deque_capacity n'.ended ≡ deque_capacity n.ended
      → d'.ring.size ≡ d.ring.size → d'.ring.staged ≡ d.ring.staged → IsPolled d'.ring d'.armed → AreLanded n' d' (changed_at rs (number_in n.requests.items id) f) (operations d'.ring) → d'.lists ≡ withdrawn (record { 0 = id }) d.lists → IsPlain (f r).shown → HasFlown x i n d rs → HasFlown x i n' d' (changed_at rs (number_in n.requests.items id) f)
  flown_over x n' requests staged untold unreleased room size entries polled landed lists plain flown =
      let gone_by : (other : Id) (w : Waiter Reply Reply) → waiter_at d'.requests other ≡ Some w → other ≡ id → ⊥ = λ other w at e. none_by it.observer (value_at d'.requests id) w one.slab.here (ap (waiter_at d'.requests) (sym e) ∙ at) in
      let owning_by : (j : ℕ) (b : Bool) (y : Record) → (number_in n.requests.items id == j) ≡ b → slice_get rs j ≡ Some y → is_resolved (mark_if f b y).shown.phase ≡ false → (mark_if f b y).shown.released ≡ false = grind arith in
      let uncancelled_by : (other : WaiterId) (y : Record) → is_among other d.lists.cancels ≡ true → other.0 ≢ id → slice_get (changed_at rs (number_in n.requests.items id) f) (number_in n.requests.items other.0) ≡ Some y → (b : Bool) → (number_in n.requests.items id == number_in n.requests.items other.0) ≡ b → y.shown.worker ≡ i → y.shown.cancel_staged ≡ false =
      grind (arith, was_marked, kept_worker) in
      let k = number_in n.requests.items id in
      let ending : n'.unreleased ≤ deque_capacity n'.ended = rw (unreleased, room) flown.ending in
      let staging : d'.ring.size ≤ vec_capacity n'.staged = rw (size, staged) flown.staging in
      let telling : d'.ring.size ≤ vec_capacity n'.untold = rw (size, untold) flown.telling in
      let entries_so : length n'.staged.items + length n'.untold.items ≤ length d'.ring.staged = rw (entries, staged, untold) flown.entries in
      let gated : (id0 : WaiterId) (it : Waiter Reply Reply) → waiter_at d'.requests id0.0 ≡ Some it → needs_permit it ≡ true → is_among id0 d'.lists.gated ≡ true = λ other w at needs.
      let apart : other.0 ≢ id = λ e. gone_by other.0 w at e in
      rw lists (among_others other (record { 0 = id }) d.lists.gated apart (flown.gated other w (sym (ap waiter_of (one.slab.others other.0 apart)) ∙ at) needs)) in
      let plain : (k : ℕ) (r : Record) → slice_get (changed_at rs (number_in n.requests.items id) f) k ≡ Some r → r.shown.worker ≡ i → IsPlain r.shown = λ j y at mine.
      let old = was_marked f rs k j y at in
      subst (λ z. IsPlain z.shown) (sym old.2) (plain_by j (k == j) old.0 refl old.1 (sym (kept_worker i n d d' zs rs ss id it r f outcome told one named timed j (k == j) old.0 refl old.1) ∙ sym (ap (λ z. z.shown.worker) old.2) ∙ mine)) in
      let enrolling : (id0 : WaiterId) (it : Waiter Reply Reply) → waiter_at d'.requests id0.0 ≡ Some it → takes_tick it.state ≡ true → is_some (deadline_of it.request) ≡ true → is_among id0 d'.lists.enrolments ≡ true = λ other w at takes some.
      let apart : other.0 ≢ id = λ e. gone_by other.0 w at e in
      rw lists (among_others other (record { 0 = id }) d.lists.enrolments apart (flown.enrolling other w (sym (ap waiter_of (one.slab.others other.0 apart)) ∙ at) takes some)) in
      let owning : (k : ℕ) (r : Record) → slice_get (changed_at rs (number_in n.requests.items id) f) k ≡ Some r → is_resolved r.shown.phase ≡ false → r.shown.released ≡ false = λ j y at unresolved.
      let old = was_marked f rs k j y at in
      ap (λ z. z.shown.released) old.2 ∙ owning_by j (k == j) old.0 refl old.1 (sym (ap (λ z. is_resolved z.shown.phase) old.2) ∙ unresolved) in
      let uncancelled : (id0 : WaiterId) (r : Record) → is_among id0 d'.lists.cancels ≡ true → slice_get (changed_at rs (number_in n.requests.items id) f) (number_in n'.requests.items id0.0) ≡ Some r → r.shown.worker ≡ i → r.shown.cancel_staged ≡ false = λ other y among at mine.
      let left = left_among other (record { 0 = id }) d.lists.cancels (subst (λ l. is_among other l.cancels ≡ true) lists among) in
      uncancelled_by other y left.0 left.1 (ap (λ v. slice_get (changed_at rs k f) (number_in v.items other.0)) (sym requests) ∙ at) (k == number_in n.requests.items other.0) refl mine in
      assumption (ending, staging, telling, entries_so, gated, plain, landed, enrolling, polled, owning, uncancelled)
    where
      plain_by : (j : ℕ) (b : Bool) (y : Record) → (number_in n.requests.items id == j) ≡ b → slice_get rs j ≡ Some y → y.shown.worker ≡ i → IsPlain (mark_if f b y).shown
      plain_by j true y is at mine = subst (λ z. IsPlain (f z).shown) (found_is y (ap (slice_get rs) (same_number (number_in n.requests.items id) j is) ∙ at)) plain
      plain_by j false y is at mine = flown.plain j y at mine

      none_by : (o : Observer Reply Reply) (v : Option (Entry Reply Reply)) (w : Waiter Reply Reply) → EntryAfter o told v → waiter_of v ≡ Some w → ⊥
      none_by (Local waker) v w h is = let no : None ≡ Some w = sym (ap waiter_of h) ∙ is in absurd (cc)
      none_by _ v w h is = let no : None ≡ Some w = sym (ap waiter_of h) ∙ is in absurd (cc)

  pub landed_still : (n' : Names) → n'.requests ≡ n.requests → d'.ring ≡ d.ring → it.in_flight ≡ false → AreLanded n d rs (operations d.ring) → AreLanded n' d' (changed_at rs (number_in n.requests.items id) f) (operations d'.ring)
  landed_still n' requests ring idle landed_now =
      let k = number_in n.requests.items id in
      subst (λ c. AreLanded n' d' (changed_at rs k f) (operations c)) (sym ring)
      (landed_on n n' d d' rs (changed_at rs k f) (operations d.ring) landed_now
      (λ other w y given at flies there landed.
      let apart : other ≢ id = λ e.
      let both : w ≡ it = cc (at, one.at, e) in
      false≢true (sym idle ∙ ap (λ z. z.in_flight) (sym both) ∙ flies) in
      let j = number_in n.requests.items other in
      let apart_k : k ≡ j → ⊥ = λ same.
      let a = named.requests id (rw value_there refl) in
      let b = named.requests other (rw (entry_of (value_at d.requests other) w at) refl) in
      let both : a.0 ≡ b.0 = cc (a.1, b.1, same) in
      apart (sym b.2 ∙ ap (λ z. z.id.0) (sym both) ∙ a.2) in
      record { it' = w; r' = y; live = ap waiter_of (one.slab.others other apart) ∙ at; flies = refl; same = refl; number = ap (λ v. number_in v.items other) requests; there = marked f rs k j y there ∙ ap (λ b. Some (mark_if f b y)) (not_same k j apart_k); phase = refl }))
