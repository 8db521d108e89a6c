-- A request is over: its driver lets go of it, and what its end leaves is told.
use Rattle.exec_invariants.{specs.{Due.IsWheelAt, Names.{HasWidth, held_count}}, proofs.{Words.{◌≡◌, ◌≢◌, ℕ, ◌+◌, ◌^◌, ◌<◌, ◌≤◌, true, List, [], ◌∷◌, ◌++◌, length, Option, Some, None, IsSome, refl, sym, ap, subst, ◌∙◌, arith, is_some, false≢true, length-append, length-set, Slab, IsPast, value_at, written, removed, freed, Id, past-free, past-write, Changed-set, IsLiveAt-from_value, Updates-free, Updates-write, live_within, was_live, Account, Wheel, unticked, output_of, Ended, RequestOutput, finished, finished_for, is_held_by, waiter_at, pending_count, Told, Tells, Deferred, Observer, DetachedSync, Forwarded, Local, Orphaned, Entry, Pending, Ready, Waiter, WaiterId, entry_of, one_if, is_among, without, pending_is, unscheduled, one_finished, Configuration, Reply, IsTold}, HeldCounts.{held_removed, held_written}, Orders.{past_removed, past_written}}}

-- THE LISTS

left_step : (other id x : WaiterId) (ids : List WaiterId) → (is_among other (without id ids) ≡ true → (is_among other ids ≡ true) × (other.0 ≢ id.0)) → is_among other (without id (x ∷ ids)) ≡ true
    → (is_among other (x ∷ ids) ≡ true) × (other.0 ≢ id.0)
left_step = grind arith

-- who is left when another is taken out
pub left_among : (other id : WaiterId) (ids : List WaiterId) → is_among other (without id ids) ≡ true → (is_among other ids ≡ true) × (other.0 ≢ id.0)
left_among other id [] h = absurd (false≢true h)
left_among other id (x ∷ ids) h = left_step other id x ids (left_among other id ids) h

-- THE WHEEL stays where it stands

one_unticked : (c : Configuration) (start moment : ℕ) (w : Wheel) (tick : ℕ) → IsWheelAt c start moment w → IsWheelAt c start moment (unticked w tick)
unfolding unticked
one_unticked c start moment w tick it = record { start = it.start; tick = it.tick; horizon = it.horizon; slots = it.slots; current = it.current }

pub unticked_at : (c : Configuration) (start moment : ℕ) (w : Wheel) (tick : Option ℕ) → IsWheelAt c start moment w → IsWheelAt c start moment (unscheduled w tick)
unticked_at c start moment w None it = it
unticked_at c start moment w (Some tick) it = one_unticked c start moment w tick it

-- THE SLAB

-- of no more requests somebody may take or let go the output
held_same : (s : Slab (Entry Reply Reply)) (id : Id) (it : Waiter Reply Reply) (told : RequestOutput) → is_held_by it.observer ≡ true → value_at s id ≡ Some (Pending it) → held_count (written s id (Ready told)) ≤ held_count s
held_same = grind (arith, held_written, one_if)

held_less : (s : Slab (Entry Reply Reply)) (id : Id) (it : Waiter Reply Reply) → value_at s id ≡ Some (Pending it) → held_count (removed s id) ≤ held_count s
held_less s id it at = let moved = held_removed s id (Pending it) at in omega (arith, moved)

-- at the name that ended is its output, or nothing
abbrev pub EntryAfter : Observer Reply Reply → RequestOutput → Option (Entry Reply Reply) → Type 0
EntryAfter (Local waker) told e = e ≡ Some (Ready told)
EntryAfter _ told e = e ≡ None

pub record SlabAfter (s s' : Slab (Entry Reply Reply)) (id : Id) (it : Waiter Reply Reply) (told : RequestOutput) : Type 0 where
  pub here : EntryAfter it.observer told (value_at s' id)
  pub others : (other : Id) → other ≢ id → value_at s' other ≡ value_at s other
  pub pending : pending_count s' + 1 ≡ pending_count s
  pub held : held_count s' ≤ held_count s
  pub slots : length s'.slots ≡ length s.slots
  pub past : (other : Id) → other.generation < 2 ^ 64 → IsPast s other → IsPast s' other
  pub back : (other : Id) → IsPast s' other → IsPast s other

after_free : (s : Slab (Entry Reply Reply)) (id : Id) (it : Waiter Reply Reply) → id.generation < 2 ^ 64 → waiter_at s id ≡ Some it → pending_count (removed s id) + 1 ≡ pending_count s → (x : Waiter Reply Reply) (told : RequestOutput) → EntryAfter x.observer told None
    → SlabAfter s (removed s id) id x told
after_free s id it small at fewer x told none =
    let value = entry_of (value_at s id) it at in
    let some : IsSome (value_at s id) = rw value refl in
    let was = was_live s id some in
    let live = IsLiveAt-from_value s.slots id.index id.generation s.first some in
    let changed = Changed-set s (removed s id) id.index (freed id.generation) refl refl (live_within s.slots id.index id.generation live.value live.is) in
    let map = Updates-free s (removed s id) id was.0 changed was.1 in
    record { back = λ other past. (past-free s (removed s id) id was.0 small changed was.1 other).0 past; here = subst (EntryAfter x.observer told) (sym map.changed) none; others = map.others; pending = fewer; held = held_less s id it value; slots = rw length-set refl; past = past_removed s id some }

after_by : (s : Slab (Entry Reply Reply)) (id : Id) (it : Waiter Reply Reply) (told : RequestOutput) (o : Observer Reply Reply) → id.generation < 2 ^ 64 → it.observer ≡ o → waiter_at s id ≡ Some it → pending_count (finished_for s id told o) + 1 ≡ pending_count s
    → SlabAfter s (finished_for s id told o) id (record it { observer = o }) told
after_by s id it told (Local waker) small is at fewer =
    let value = entry_of (value_at s id) it at in
    let some : IsSome (value_at s id) = rw value refl in
    let map = Updates-write s id (Ready told) some in
    record { back = λ other past. (past-write s id (Ready told) some other).0 past; here = map.changed; others = map.others; pending = fewer; held = held_same s id it told (ap is_held_by is) value; slots = rw length-set refl; past = past_written s id (Ready told) some }
after_by s id it told (Forwarded reply) small is at fewer = after_free s id it small at fewer (record it { observer = Forwarded reply }) told refl
after_by s id it told (DetachedSync reply) small is at fewer = after_free s id it small at fewer (record it { observer = DetachedSync reply }) told refl
after_by s id it told Orphaned small is at fewer = after_free s id it small at fewer (record it { observer = Orphaned }) told refl

pub slab_after : (s : Slab (Entry Reply Reply)) (id : Id) (it : Waiter Reply Reply) (how : Ended) (account : Option Account) → id.generation < 2 ^ 64 → waiter_at s id ≡ Some it
    → SlabAfter s (finished s id it how account) id it (output_of it.request how account)
slab_after s id it how account small at =
    let fewer : pending_count (finished s id it how account) + 1 ≡ pending_count s =
    ap (λ m. m + 1) (pending_is (finished s id it how account)) ∙ omega (arith, (one_finished s id it how account at).numbers is_some refl) ∙ sym (pending_is s) in
    after_by s id it (output_of it.request how account) it.observer small refl at fewer

-- WHAT IS TOLD

-- at most one wake, one output and one answer, and what it owned
pub record ToldOnce (t : Told Reply Reply) : Type 0 where
  pub wakes : length t.wakes ≤ 1
  pub outputs : length t.outputs ≤ 1
  pub resources : length t.resources ≡ 1
  pub completions : length t.completions ≤ 1
  pub results : length t.results ≤ 1

pub told_ended : (ended e' : List ℕ) (k n : ℕ) (left left' : Deferred Reply Reply) (t : Told Reply Reply) → Tells left left' t → ToldOnce t → e' ≡ ended ++ k ∷ [] → IsTold ended left (n + 1) → IsTold e' left' n
told_ended = grind (arith, length-append)

pub wide_ended : (n m : ℕ) (left left' : Deferred Reply Reply) (t : Told Reply Reply) → m ≤ n → Tells left left' t → HasWidth left n → HasWidth left' m
wide_ended = grind arith

pub places_fewer : {left : Deferred Reply Reply} {ended : List ℕ} {n m : ℕ} → m ≤ n → IsTold ended left n → IsTold ended left m
places_fewer = grind arith
