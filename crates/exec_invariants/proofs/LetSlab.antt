-- AN OUTPUT LEAVES THE DRIVER: nothing is where it was kept, and no request that isn't over changes.
use Rattle.exec_invariants.{proofs.{Names.{◌≡◌, ◌≢◌, ◌+◌, ◌^◌, ◌<◌, Some, None, IsSome, refl, sym, ap, ◌∙◌, arith, is_some, List, slice_get, true, subst, false, ◌⊎◌, inl, false≢true, length-set, IsPast, Slab, value_at, removed, freed, Id, Changed-set, IsLiveAt-from_value, Updates-free, live_within, past-free, was_live, RequestOutput, waiter_at, pending_count, flying_count, is_flying, tick_of, awaits_tick, waiter_of, Entry, Ready, Waiter, WaiterId, OneChanged, one_removed, pending_is, flying_is, is_among, Driving, Reply, Names, Record, number_in, changed_at, by_name, is_resolved}, HeldCounts.held_removed, Watching.{Watched, Rewatched}, Orders.{Eases, past_removed, alike_self}}, specs.Names.{held_count, IsAlike}}

module _ (s : Slab (Entry Reply Reply)) (id : Id) (told : RequestOutput) (at : value_at s id ≡ Some (Ready told)) where
  gone : OneChanged s (removed s id) id None None
  gone = one_removed s id (Ready told) at

  there : IsSome (value_at s id)
  there = rw at refl

  pub same_waiters : (x : Id) → waiter_at (removed s id) x ≡ waiter_at s x
  same_waiters = grind (arith, by_name, gone)

  pub same_pending : pending_count (removed s id) ≡ pending_count s
  same_pending =
      pending_is (removed s id) ∙ omega (arith, gone.numbers is_some refl) ∙ sym (pending_is s)

  pub same_flying : flying_count (removed s id) ≡ flying_count s
  same_flying =
      flying_is (removed s id) ∙ omega (arith, gone.numbers is_flying refl) ∙ sym (flying_is s)

  pub one_held_less : held_count (removed s id) + 1 ≡ held_count s
  one_held_less = held_removed s id (Ready told) at

  -- what is there then is another entry, that was there
  pub other_entry : (x : Id) → IsSome (value_at (removed s id) x) → (x ≢ id) × (value_at (removed s id) x ≡ value_at s x)
  other_entry x some =
      let was = was_live s id there in
      let live = IsLiveAt-from_value s.slots id.index id.generation s.first there in
      let map = Updates-free s (removed s id) id was.0 (Changed-set s (removed s id) id.index (freed id.generation) refl refl (live_within s.slots id.index id.generation live.value live.is)) was.1 in
      let apart : x ≢ id = λ same. false≢true (sym (ap is_some (ap (value_at (removed s id)) same ∙ map.changed)) ∙ some) in
      (apart, map.others x apart)

  -- what was there beside it is there
  pub still_there : (x : Id) → x ≢ id → value_at (removed s id) x ≡ value_at s x
  still_there x apart =
      let was = was_live s id there in
      let live = IsLiveAt-from_value s.slots id.index id.generation s.first there in
      (Updates-free s (removed s id) id was.0 (Changed-set s (removed s id) id.index (freed id.generation) refl refl (live_within s.slots id.index id.generation live.value live.is)) was.1).others x apart

  -- a name that is past was so
  pub past_back : id.generation < 2 ^ 64 → (x : Id) → IsPast (removed s id) x → IsPast s x
  past_back small x past =
      let was = was_live s id there in
      let live = IsLiveAt-from_value s.slots id.index id.generation s.first there in
      (past-free s (removed s id) id was.0 small (Changed-set s (removed s id) id.index (freed id.generation) refl refl (live_within s.slots id.index id.generation live.value live.is)) was.1 x).0 past

-- the record of one that has left, whatever becomes of what the machine doesn't read there
pub watched_gone : (n : Names) (d : Driving Reply Reply) (rs : List Record) (r : Record) (told : RequestOutput) (f : Record → Record) → value_at d.requests r.id.0 ≡ Some (Ready told) → slice_get rs (number_in n.requests.items r.id.0) ≡ Some r → r.id.0.generation < 2 ^ 64
    → f r ≡ record r { shown = record r.shown { timer = (f r).shown.timer; observed = (f r).shown.observed; cancelled = (f r).shown.cancelled; waiter = (f r).shown.waiter; forwarding = (f r).shown.forwarding } } → (is_resolved r.shown.phase ≡ true → (f r).shown.timer ≡ r.shown.timer)
    → Watched n d (record d { requests = removed d.requests r.id.0 }) rs (changed_at rs (number_in n.requests.items r.id.0) f) r.id.0 r f
watched_gone n d rs r told f ready at small keeps timer =
    let s0 = d.requests in
    let id = r.id.0 in
    let none_waits : waiter_at (removed s0 id) id ≡ None = same_waiters s0 id told ready id ∙ ap waiter_of ready in
    let some : IsSome (value_at s0 id) = rw ready refl in
    let waits = subst (λ o. Rewatched o (waiter_at (removed s0 id) id)) (sym (ap waiter_of ready)) none_waits in
    let alike : (it : Waiter Reply Reply) → waiter_at (removed s0 id) id ≡ Some it → IsAlike d.wheel.start d.wheel.tick it (f r).shown = λ x live. let no : None ≡ Some x = sym none_waits ∙ live in absurd (cc) in
    let eases : Eases s0 (removed s0 id) =
    record { ticks = λ x t h. ap tick_of (sym (same_waiters s0 id told ready x)) ∙ h; taken = λ x past none. ap awaits_tick (same_waiters s0 id told ready x) ∙ none; past = past_removed s0 id some } in
    let cancels : (x : WaiterId) → is_among x d.lists.cancels ≡ true → (is_among x d.lists.cancels ≡ true) ⊎ ((x.0 ≡ id) × (r.shown.cancel_staged ≡ false)) = λ x among. inl among in
    assumption (at, some, keeps, timer, still_there s0 id told ready, waits, alike, past_back s0 id told ready small, eases, alike_self d.wheel, length-set s0.slots id.index (freed id.generation), cancels)
