-- What each call does to the operations of its driver, and so whose they are at each moment of a run.
use Rattle.std.proofs.Common.{◌≡◌, ◌≢◌, ◌⊎◌, ℕ, ◌+◌, ◌≤◌, ◌<◌, eqb, Bool, true, false, cond, List, Option, Some, None, refl, sym, ap, subst, ◌∙◌, inl, inr, arith, not, ◌||◌, ◌&&◌, length-set}
use Rattle.exec_driver_laws.{proofs.{Words.{waiter_of, option_map, IsSomeAnd, false≢true, slot_at, Live, has_hint, window_by, Window, is_operation, Moves, Store, user_data_of, index_in, named, named_in, at_by, common_steps, WaiterKey, same_tells, Says, StagesOne, LandsOne, queued_or_ended, landed_at, told_as, taken_in, newcomer, placed_at, Reaped, Account, Slab, Id, OpResult, OpenState, Deferred, Submission, RingState, Request, Waiter, Entry, Pending, WaiterId, Driving, request_at, Ended, waiter_at, is_flying, is_some, is_queued, flight_of, taken_out, open_after, account_in, file_of, eqb_tells, entry_of, one_if, one_changed, one_finished, cases_lt, get_or-set_at, get_or_past, get_or_push, removed, next_id, IsPast, filled, some_of_if, RequestOutput, finished, finished_for, OneChanged, one_removed, permitted, granted, value_at, written, waiter_in, Ready, Observer, deadline_of, with_permit, is_same, placed_is}, Passing.{reap_tells, ReapsThere, Drops, first_among, idle_gated, mild, Passes, Rests}, Lasting.{placed_apart, filled_apart}, OwningRing.{keeps_same, entry_one, flight_there}, Everywhere.finished_all}, specs.{Owning.{is_staged_of, is_wake_poll, operations_in, KeepsOperations, IsOwned}, Sharing.{Gates, Call, Admit, Grant, Stage, Land, Reap, Other, key_of, end_by_reap, end_told, lets_out}}}

pub same_ids : (a b : Id) → (a ≡ b) ⊎ (a ≢ b)
same_ids = grind (arith, eqb_tells)

module _ {S F : Type 0} where
  -- a request with an operation under way goes on with it, none begins one, and no request comes
  abbrev pub goes_on : Option (Waiter S F) → Option (Waiter S F) → Bool
  goes_on o None = not (is_flying o)
  goes_on None (Some w') = false
  goes_on (Some w) (Some w') = (not w.in_flight || w'.in_flight) && (not w'.in_flight || w.in_flight)

  abbrev pub GoOn : Slab (Entry S F) → Slab (Entry S F) → Type 0
  GoOn s s' = (j : Id) → goes_on (waiter_at s j) (waiter_at s' j) ≡ true

  pub stays : (o o' : Option (Waiter S F)) → o' ≡ o → goes_on o o' ≡ true
  stays = grind arith

  pub then_on : (a b c : Option (Waiter S F)) → goes_on a b ≡ true → goes_on b c ≡ true → goes_on a c ≡ true
  then_on = grind arith

  pub flies_on : (o o' : Option (Waiter S F)) → goes_on o o' ≡ true → is_flying o ≡ true → is_flying o' ≡ true
  flies_on = grind arith

  pub flew_before : (o o' : Option (Waiter S F)) → goes_on o o' ≡ true → is_flying o' ≡ true → is_flying o ≡ true
  flew_before = grind arith

  pub there_before : (o o' : Option (Waiter S F)) → goes_on o o' ≡ true → is_some o' ≡ true → is_some o ≡ true
  there_before = grind arith

  one_on : (s s' : Slab (Entry S F)) (id : Id) (was is : Option (Waiter S F)) → OneChanged s s' id was is → goes_on was is ≡ true → GoOn s s'
  one_on s s' id was is one goes j =
      elim (same_ids j id) [
        | inl same ↦
            ap (λ (n : Id). goes_on (waiter_at s n) (waiter_at s' n)) same ∙ ap (λ (o : Option (Waiter S F)). goes_on o (waiter_at s' id)) one.was_at ∙ ap (goes_on was) one.is_at ∙ goes
        | inr other ↦ stays (waiter_at s j) (waiter_at s' j) (one.others j other)
      ]

  pub alike_on : (s : Slab (Entry S F)) (id : Id) (w w' : Waiter S F) → waiter_at s id ≡ Some w → w'.in_flight ≡ w.in_flight → GoOn s (written s id (Pending w'))
  alike_on s id w w' at same = one_on s _ id _ _ (one_changed s id w w' at) (grind arith)

  removed_on : (s : Slab (Entry S F)) (id : Id) (was : Entry S F) → value_at s id ≡ Some was → is_flying (waiter_in was) ≡ false → GoOn s (removed s id)
  removed_on s id was at idle = one_on s _ id _ _ (one_removed s id was at) (ap not idle)

  finished_on : (s : Slab (Entry S F)) (id : Id) (w : Waiter S F) (how : Ended) (account : Option Account) → waiter_at s id ≡ Some w → w.in_flight ≡ false → GoOn s (finished s id w how account)
  finished_on s id w how account at idle = one_on s _ id _ _ (one_finished s id w how account at) (ap not idle)

  pub passes : (old : Driving S F) → Says old → (worker : ℕ) (told : Option (WaiterKey × Ended)) (out : Option WaiterId) → Passes old (Rests old) worker told out (GoOn old.requests)
  passes old says worker told out =
      record {
        becomes = λ s id w w' at rests on j. then_on (waiter_at old.requests j) (waiter_at s j) _ (on j) (alike_on s id.0 w w' at rests.flight j);
        ends = λ s id w how account at idle over on j. then_on (waiter_at old.requests j) (waiter_at s j) _ (on j) (finished_on s id.0 w how account at (idle says) j);
        leaves = λ s id output at lets on j. then_on (waiter_at old.requests j) (waiter_at s j) _ (on j) (removed_on s id.0 (Ready output) at refl j);
        room = λ s room on. on;
      }

  queued_or_ended_on : (d : Driving S F) (id : WaiterId) (w : Waiter S F) (how : Option Ended) (account : Option Account) → request_at d id ≡ Some w → w.in_flight ≡ false → GoOn d.requests (queued_or_ended d id w how account).requests
  queued_or_ended_on = grind (arith, stays, finished_on)

  pub granted_on : (d : Driving S F) (id : WaiterId) (w : Waiter S F) (how : Option Ended) (account : Option Account) → request_at d id ≡ Some w → w.in_flight ≡ false → GoOn d.requests (granted d id w how account).requests
  granted_on d id w how account at idle j =
      let w' = with_permit w in
      then_on (waiter_at d.requests j) (waiter_at (permitted d id w).requests j) (waiter_at (granted d id w how account).requests j) (alike_on d.requests id.0 w w' at refl j) (queued_or_ended_on (permitted d id w) id w' how account (one_changed d.requests id.0 w w' at).is_at idle j)

  pub granted_ring : (d : Driving S F) (id : WaiterId) (w : Waiter S F) (how : Option Ended) (account : Option Account) → (granted d id w how account).ring ≡ d.ring
  granted_ring d id w None account = refl
  granted_ring d id w (Some how) account = refl

  -- AN ADMISSION

  pub free : (s : Slab (Entry S F)) (id j : Id) (w : Waiter S F) → next_id s ≡ Some id → (IsPast s id → ⊥) → waiter_at s j ≡ Some w → j.index ≢ id.index
  free = grind (arith, some_of_if)

  -- it isn't this one with an operation under way
  abbrev rests : Id → WaiterId → Option (Waiter S F) → Bool
  rests j i None = true
  rests j i (Some w) = not (w.in_flight && is_same i (record { 0 = j }))

  finished_idle : (s : Slab (Entry S F)) (id : WaiterId) (j : Id) (told : RequestOutput) (observer : Observer S F) → is_flying (waiter_at s j) ≡ false → is_flying (waiter_at (finished_for s id.0 told observer) j) ≡ false
  finished_idle s id j told observer idle = let all = finished_all (rests j) (λ i. refl) id s told observer (grind (arith, idle, same_tells)) (record { 0 = j }) in grind (arith, all)

  -- who comes has no operation under way
  pub filled_idle : (s : Slab (Entry S F)) (vacant : List ℕ) (id j : Id) (e : Entry S F) → next_id (record s { vacant = vacant }) ≡ Some id → j.index ≡ id.index → is_flying (waiter_in e) ≡ false → is_flying (waiter_at (filled s vacant e) j) ≡ false
  filled_idle = grind (arith, some_of_if, cases_lt, eqb_tells, get_or_push, get_or-set_at, length-set, get_or_past)

  pub placed_idle : (d : Driving S F) (id : WaiterId) (j : Id) (w : Waiter S F) (now : ℕ) → is_flying (waiter_at d.requests j) ≡ false → is_flying (waiter_at (placed_at d id w now).requests j) ≡ false
  placed_idle = grind (arith, placed_is, deadline_of, finished_idle)

  pub placed_ring : (d : Driving S F) (id : WaiterId) (w : Waiter S F) (now : ℕ) → (placed_at d id w now).ring ≡ d.ring
  placed_ring = grind (arith, placed_is, deadline_of)

moved_there : (o : Option Submission) (given : OpResult) (r r' : Request) (st st' : Store) → Moves o given r r' st st' → (e : Submission) × (o ≡ Some e)
moved_there = grind arith

an_entry : (e : Submission) (user_data : ℕ) → is_wake_poll e.window.kind ≡ false → is_staged_of user_data e ≡ eqb e.user_data user_data
an_entry = grind arith

no_wake : (hinted : Bool) (r : Request) → is_wake_poll (window_by hinted r).kind ≡ false
no_wake = grind arith

index_own : (id : Id) → id.index < 4294967296 → index_in (user_data_of id) ≡ id.index
index_own = grind arith

-- how many there are at most
few_stay : (n n' : ℕ) (o o' : Option Id) → n' ≤ n → ((id : Id) → o ≡ Some id → o' ≡ Some id) → n ≤ cond (is_some o) 1 0 → n' ≤ cond (is_some o') 1 0
few_stay = grind arith

few_begin : (n n' : ℕ) (o o' : Option Id) → n' ≤ n + 1 → o ≡ None → is_some o' ≡ true → n ≤ cond (is_some o) 1 0 → n' ≤ cond (is_some o') 1 0
few_begin = grind arith

few_over : (n n' : ℕ) (o : Option Id) → n' + 1 ≡ n → n ≤ cond (is_some o) 1 0 → n' ≡ 0
few_over = grind arith

module _ {S F : Type 0} where
  pub idle_queued : (o : Option (Waiter S F)) (w : Waiter S F) → o ≡ Some w → is_queued o ≡ true → w.in_flight ≡ false
  idle_queued = grind arith

  -- A call keeps the operations, and all requests go on, or one comes that has none; or it brings one of a request that had
  -- none; or it takes one of a request out, which is there still or was told to have ended; or it drops one of no request.
  pub data Keeps (worker : ℕ) (old new : Driving S F) (told : Option (WaiterKey × Ended)) : Type 0 where
    Quiet : KeepsOperations old.ring new.ring → GoOn old.requests new.requests → Keeps worker old new told
    Loses : Drops old new → GoOn old.requests new.requests → Keeps worker old new told
    Arrives : (id : WaiterId) → id.0.index < 4294967295 → KeepsOperations old.ring new.ring → ((j : Id) (w : Waiter S F) → waiter_at old.requests j ≡ Some w → j.index ≢ id.0.index)
        → ((j : Id) → j.index ≢ id.0.index → waiter_at new.requests j ≡ waiter_at old.requests j) → ((j : Id) → j.index ≡ id.0.index → is_flying (waiter_at new.requests j) ≡ false) → Keeps worker old new told
    Comes : (id : WaiterId) (w : Waiter S F) → request_at old id ≡ Some w → w.in_flight ≡ false → is_flying (request_at new id) ≡ true → ((j : Id) → j ≢ id.0 → waiter_at new.requests j ≡ waiter_at old.requests j)
        → ((user_data : ℕ) → operations_in new.ring user_data ≡ operations_in old.ring user_data + one_if (eqb (user_data_of id.0) user_data)) → Keeps worker old new told
    Goes : (id : WaiterId) → is_flying (request_at old id) ≡ true → is_flying (request_at new id) ≡ false → ((j : Id) → j ≢ id.0 → waiter_at new.requests j ≡ waiter_at old.requests j) → (is_some (request_at new id) ≡ true) ⊎ IsSomeAnd told (λ e. e.0 ≡ key_of worker id)
        → ((user_data : ℕ) → is_operation user_data ≡ true → operations_in new.ring user_data + one_if (eqb (user_data_of id.0) user_data) ≡ operations_in old.ring user_data) → Keeps worker old new told

  only : (worker : ℕ) (old new d : Driving S F) (told : Option (WaiterKey × Ended)) → new ≡ d → d.ring ≡ old.ring → GoOn old.requests d.requests → Keeps worker old new told
  only worker old new d told is ring on = subst (λ (m : Driving S F). Keeps worker old m told) (sym is) (Quiet (keeps_same old.ring d.ring ring) on)

  staged_keeps : (worker : ℕ) (old new : Driving S F) (told : Option (WaiterKey × Ended)) (id : WaiterId) (w : Waiter S F) (account : Option Account) → request_at old id ≡ Some w → w.in_flight ≡ false → StagesOne old new id w account → Keeps worker old new told
  staged_keeps worker old new told id w account at idle stages =
      let w' : Waiter S F = record w { in_flight = true; request = stages.request } in
      let changed = one_changed old.requests id.0 w w' at in
      let is = ap (λ (m : Driving S F). m.requests) stages.driver in
      let ring = ap (λ (m : Driving S F). m.ring) stages.driver in
      Comes id w at idle (ap (λ (s : Slab (Entry S F)). is_flying (waiter_at s id.0)) is ∙ ap is_flying changed.is_at)
      (λ j other. ap (λ (s : Slab (Entry S F)). waiter_at s j) is ∙ changed.others j other)
      (λ user_data. ap (λ (r : RingState). operations_in r user_data) ring ∙ entry_one old.ring stages.entry user_data ∙ ap (λ (b : Bool). operations_in old.ring user_data + one_if b) (an_entry stages.entry user_data (ap is_wake_poll (ap (λ (v : Window). v.kind) stages.window) ∙ no_wake (has_hint account) w.request) ∙ ap (λ (n : ℕ). eqb n user_data) stages.user_data))

  landed_keeps : (worker : ℕ) (old new : Driving S F) (told : Option (WaiterKey × Ended)) (id : WaiterId) (w : Waiter S F) (given : OpResult) (store store' : Store) → request_at old id ≡ Some w → LandsOne old new id w given store store' → Keeps worker old new told
  landed_keeps worker old new told id w given store store' at lands =
      let there = moved_there (flight_of old.ring (user_data_of id.0)) given w.request lands.lands.request store store' lands.lands.moved in
      let ring = ap (λ (m : Driving S F). m.ring) lands.driver in
      Quiet (λ user_data is. ap (λ (r : RingState). operations_in r user_data) ring ∙ flight_there old.ring (user_data_of id.0) there.0 given user_data there.1)
      (subst (GoOn old.requests) (sym lands.lands.slab) (alike_on old.requests id.0 w (record w { request = lands.lands.request }) at refl))

  over_told : (d : Driving S F) (worker : ℕ) (id : WaiterId) (v w : Waiter S F) (how : Option Ended) (account kept : Option Account) → request_at d id ≡ Some w
      → (is_some (request_at (queued_or_ended d id w how account) id) ≡ true) ⊎ IsSomeAnd (option_map {U = WaiterKey × Ended} (λ how. (key_of worker id, how)) (told_as v how kept)) (λ e. e.0 ≡ key_of worker id)
  over_told = grind arith

  over_idle : (d : Driving S F) (id : WaiterId) (w : Waiter S F) (how : Option Ended) (account : Option Account) → request_at d id ≡ Some w → w.in_flight ≡ false → is_flying (request_at (queued_or_ended d id w how account) id) ≡ false
  over_idle = grind (arith, one_finished)

  over_others : (d : Driving S F) (id : WaiterId) (w : Waiter S F) (how : Option Ended) (account : Option Account) → request_at d id ≡ Some w → (j : Id) → j ≢ id.0 → waiter_at (queued_or_ended d id w how account).requests j ≡ waiter_at d.requests j
  over_others d id w None account at j other = refl
  over_others d id w (Some how) account at j other = (one_finished d.requests id.0 w how account at).others j other

  reaped_keeps : (worker : ℕ) (old new : Driving S F) (opens opens' : List OpenState) (before after : Deferred S F) (told : Option Reaped) → ReapsThere old new opens opens' before after told → Keeps worker old new (end_told worker told)
  reaped_keeps worker old new opens opens' before after told there =
      let id = there.id in
      let w = there.w in
      let w' : Waiter S F = record w { in_flight = false; request = there.reaps.request } in
      let d = landed_at (taken_out there.first) id w' in
      let account = account_in opens (file_of w.request) in
      let after = open_after w there.given account in
      let changed = one_changed there.first.requests id.0 w w' there.at in
      let moved = there.end ∙ ap (λ (m : Driving S F). m.requests) there.reaps.driver in
      let others = over_others d id w' there.reaps.answer after changed.is_at in
      let ends = over_told d worker id w w' there.reaps.answer after account changed.is_at in
      let idle = over_idle d id w' there.reaps.answer after changed.is_at refl in
      Goes id (ap (λ (s : Slab (Entry S F)). is_flying (waiter_at s id.0)) (sym there.start) ∙ ap is_flying there.at ∙ there.flies)
      (ap (λ (s : Slab (Entry S F)). is_flying (waiter_at s id.0)) moved ∙ idle)
      (λ j other. ap (λ (s : Slab (Entry S F)). waiter_at s j) moved ∙ others j other ∙ changed.others j other ∙ ap (λ (s : Slab (Entry S F)). waiter_at s j) there.start)
      (subst (λ (r : Option Reaped). (is_some (request_at new id) ≡ true) ⊎ IsSomeAnd (end_told worker r) (λ e. e.0 ≡ key_of worker id)) (sym there.reaps.told_is)
      (subst (λ (s : Slab (Entry S F)). (is_some (waiter_at s id.0) ≡ true) ⊎ IsSomeAnd (option_map {U = WaiterKey × Ended} (λ how. (key_of worker id, how)) (told_as w there.reaps.answer account)) (λ e. e.0 ≡ key_of worker id)) (sym moved) ends))
      there.ring

  pub call_keeps : (worker : ℕ) (old new : Driving S F) (g g' : Gates) (call : Call worker old new g g') → Says old → Keeps worker old new (end_by_reap call)
  call_keeps worker old new g g' (Admit id r observer now next within never admits leaving) says =
      let w = newcomer r observer in
      let ring = ap (λ (m : Driving S F). m.ring) admits.driver in
      let same : KeepsOperations old.ring (record (placed_at (taken_in old r observer) id w now).ring { places = new.ring.places }) =
      subst (λ (m : RingState). KeepsOperations old.ring (record m { places = new.ring.places })) (sym (placed_ring (taken_in old r observer) id w now)) (λ user_data is. refl) in
      Arrives id within (subst (KeepsOperations old.ring) (sym ring) same) (λ j v at. free old.requests id.0 j v next never at)
      (λ j apart. ap (λ (m : Driving S F). waiter_at m.requests j) admits.driver ∙ ap waiter_of (placed_apart (taken_in old r observer) id j w now apart ∙ filled_apart old.requests old.requests.vacant id.0 j (Pending w) next apart))
      (λ j here. ap (λ (m : Driving S F). is_flying (waiter_at m.requests j)) admits.driver ∙ placed_idle (taken_in old r observer) id j w now (filled_idle old.requests old.requests.vacant id.0 j (Pending w) next here refl))
  call_keeps worker old new g g' (Grant before after file granted w at grants leaves) says =
      let idle = idle_gated (request_at old granted.id) w at (says.lists.gated granted.id grants.waits) in
      let account = account_in g.opens (file_of w.request) in
      only worker old new _ None (grants.grants w at).driver (granted_ring old granted.id w granted.ended account) (granted_on old granted.id w granted.ended account at idle)
  call_keeps worker old new g g' (Stage id w account first at stages same) says =
      staged_keeps worker old new None id w account at (idle_queued (request_at old id) w at (says.lists.queued id (first_among id old.lists.queued first))) stages
  call_keeps worker old new g g' (Land id w given store store' at may lands same) says = landed_keeps worker old new None id w given store store' at lands
  call_keeps worker old new g g' (Reap before after told reap leaving) says =
      elim (reap_tells old new g.opens g'.opens before after told reap) [
        | inl none ↦
            let on : GoOn old.requests new.requests = λ j. stays (waiter_at old.requests j) (waiter_at new.requests j) (ap (λ (s : Slab (Entry S F)). waiter_at s j) none.requests) in
            elim none.ring [ inl keeps ↦ Quiet keeps on | inr drops ↦ Loses drops on ]
        | inr there ↦ reaped_keeps worker old new g.opens g'.opens before after told there
      ]
  call_keeps worker old new g g' (Other is keeps lawful places same) says = Quiet keeps (λ j. stays (waiter_at old.requests j) (waiter_at new.requests j) (ap (λ (s : Slab (Entry S F)). waiter_at s j) is))
  call_keeps worker old new g g' other says =
      let kept = mild old (λ w w' rests. rests) worker None (lets_out other) (GoOn old.requests) (passes old says worker None (lets_out other)) new g g' other refl refl (λ j. stays (waiter_at old.requests j) (waiter_at old.requests j) refl) in
      Quiet (keeps_same old.ring new.ring kept.0) kept.1

  -- WHOSE THEY ARE

  pub flying_some : (o : Option (Waiter S F)) → is_flying o ≡ true → (w : Waiter S F) × (o ≡ Some w) × (w.in_flight ≡ true)
  flying_some = grind arith

  there_some : (o : Option (Waiter S F)) → is_some o ≡ true → (w : Waiter S F) × (o ≡ Some w)
  there_some = grind arith

  pub named_there : (s : Slab (Entry S F)) (user_data : ℕ) (id : Id) → named s user_data ≡ Some id → (id.index < 4294967296) × (is_flying (waiter_at s id) ≡ true) × (user_data_of id ≡ user_data)
  named_there = grind (arith, common_steps)

  pub named_back : (s : Slab (Entry S F)) (id : Id) → id.index < 4294967296 → is_flying (waiter_at s id) ≡ true → named s (user_data_of id) ≡ Some id
  named_back = grind (arith, common_steps)

  idle_none : (user_data n : ℕ) (w : Waiter S F) → w.in_flight ≡ false → named_in user_data (Live n (Pending w)) ≡ None
  idle_none = grind arith

  pub named_idle : (s : Slab (Entry S F)) (id : Id) (w : Waiter S F) → id.index < 4294967296 → waiter_at s id ≡ Some w → w.in_flight ≡ false → named s (user_data_of id) ≡ None
  named_idle s id w within at idle =
      ap (λ (i : ℕ). named_in (user_data_of id) (slot_at s i)) (index_own id within) ∙ ap (named_in (user_data_of id)) (at_by s id (Pending w) (entry_of _ w at)).slot ∙ idle_none (user_data_of id) id.generation w idle

  named_on : (s s' : Slab (Entry S F)) (user_data : ℕ) → ((j : Id) → user_data_of j ≡ user_data → is_flying (waiter_at s j) ≡ true → is_flying (waiter_at s' j) ≡ true) → (id : Id) → named s user_data ≡ Some id → named s' user_data ≡ Some id
  named_on s s' user_data flies id at = let there = named_there s user_data id at in ap (named s') (sym there.2) ∙ named_back s' id there.0 (flies id there.2 there.1)

  -- what a call does to what there is of one user data: it is as it was, or is lost; it begins; or it is over
  pub data Turns (old new : Driving S F) (user_data : ℕ) : Type 0 where
    Stays : operations_in new.ring user_data ≤ operations_in old.ring user_data → ((id : Id) → named old.requests user_data ≡ Some id → named new.requests user_data ≡ Some id) → Turns old new user_data
    Begins : operations_in new.ring user_data ≤ operations_in old.ring user_data + 1 → named old.requests user_data ≡ None → is_some (named new.requests user_data) ≡ true → Turns old new user_data
    Over : operations_in new.ring user_data + 1 ≡ operations_in old.ring user_data → Turns old new user_data

  goes_flying : (s s' : Slab (Entry S F)) → GoOn s s' → (j : Id) → is_flying (waiter_at s j) ≡ true → is_flying (waiter_at s' j) ≡ true
  goes_flying s s' on j flies = flies_on (waiter_at s j) (waiter_at s' j) (on j) flies

  arrives_flying : (s s' : Slab (Entry S F)) (id : WaiterId) → ((j : Id) (w : Waiter S F) → waiter_at s j ≡ Some w → j.index ≢ id.0.index) → ((j : Id) → j.index ≢ id.0.index → waiter_at s' j ≡ waiter_at s j) → (j : Id) → is_flying (waiter_at s j) ≡ true → is_flying (waiter_at s' j) ≡ true
  arrives_flying s s' id free others j flies = let there = flying_some (waiter_at s j) flies in ap is_flying (others j (free j there.0 there.1)) ∙ flies

  pub turns : (worker : ℕ) (old new : Driving S F) (told : Option (WaiterKey × Ended)) → Keeps worker old new told → IsOwned old → (user_data : ℕ) → is_operation user_data ≡ true → Turns old new user_data
  turns worker old new told (Quiet keeps on) owned user_data is = Stays (let same = keeps user_data is in omega (arith, same)) (named_on old.requests new.requests user_data (λ j own. goes_flying old.requests new.requests on j))
  turns worker old new told (Loses drops on) owned user_data is = Stays (let fewer = drops.ring user_data is in omega (arith, fewer)) (named_on old.requests new.requests user_data (λ j own. goes_flying old.requests new.requests on j))
  turns worker old new told (Arrives id within keeps free others idle) owned user_data is = Stays (let same = keeps user_data is in omega (arith, same)) (named_on old.requests new.requests user_data (λ j own. arrives_flying old.requests new.requests id free others j))
  turns worker old new told (Comes id w at idle flies others count) owned user_data is =
      let within : id.0.index < 4294967296 = let few = owned.names id w at in omega (arith, few) in
      let more = count user_data in
      elim (eqb_tells (user_data_of id.0) user_data) [
        | inl same ↦ Begins (omega (arith, rw same.0 at more)) (ap (named old.requests) (sym same.1) ∙ named_idle old.requests id.0 w within at idle) (ap (λ (n : ℕ). is_some (named new.requests n)) (sym same.1) ∙ ap is_some (named_back new.requests id.0 within flies))
        | inr other ↦ Stays (omega (arith, rw other.0 at more)) (named_on old.requests new.requests user_data (λ j own fly. ap is_flying (others j (λ mine. other.1 (ap user_data_of (sym mine) ∙ own))) ∙ fly))
      ]
  turns worker old new told (Goes id flies idle others ends count) owned user_data is =
      let less = count user_data is in
      elim (eqb_tells (user_data_of id.0) user_data) [
        | inl same ↦ Over (omega (arith, rw same.0 at less))
        | inr other ↦ Stays (omega (arith, rw other.0 at less)) (named_on old.requests new.requests user_data (λ j own fly. ap is_flying (others j (λ mine. other.1 (ap user_data_of (sym mine) ∙ own))) ∙ fly))
      ]

  within_names : (worker : ℕ) (old new : Driving S F) (told : Option (WaiterKey × Ended)) → Keeps worker old new told → IsOwned old → (id : WaiterId) (w : Waiter S F) → request_at new id ≡ Some w → id.0.index < 4294967295
  within_names worker old new told (Quiet keeps on) owned id w at = let was = there_some (request_at old id) (there_before (request_at old id) (request_at new id) (on id.0) (ap is_some at)) in owned.names id was.0 was.1
  within_names worker old new told (Loses drops on) owned id w at = let was = there_some (request_at old id) (there_before (request_at old id) (request_at new id) (on id.0) (ap is_some at)) in owned.names id was.0 was.1
  within_names worker old new told (Arrives new_id within keeps free others idle) owned id w at = grind (arith, eqb_tells)
  within_names worker old new told (Comes who v there idle flies others count) owned id w at = grind (arith, same_ids)
  within_names worker old new told (Goes who flies idle others ends count) owned id w at = grind (arith, same_ids, flying_some)

  owned_by : (old new : Driving S F) (user_data : ℕ) → Turns old new user_data → operations_in old.ring user_data ≤ cond (is_some (named old.requests user_data)) 1 0 → operations_in new.ring user_data ≤ cond (is_some (named new.requests user_data)) 1 0
  owned_by = grind (arith, few_stay, few_begin, few_over)

  pub kept_owned : (worker : ℕ) (old new : Driving S F) (g g' : Gates) → Call worker old new g g' → Says old → IsOwned old → IsOwned new
  kept_owned worker old new g g' call says owned =
      let keeps = call_keeps worker old new g g' call says in
      record { names = within_names worker old new (end_by_reap call) keeps owned; owned = λ user_data is. owned_by old new user_data (turns worker old new (end_by_reap call) keeps owned user_data is) (owned.owned user_data is) }

  -- what was under way is gone by a reap alone, which says so
  pub gone_told : (worker : ℕ) (old new : Driving S F) (told : Option (WaiterKey × Ended)) → Keeps worker old new told → (id : WaiterId) → is_flying (request_at old id) ≡ true → request_at new id ≡ None → IsSomeAnd told (λ e. e.0 ≡ key_of worker id)
  gone_told worker old new told (Quiet keeps on) id flies over = absurd (false≢true (sym (ap is_flying over) ∙ goes_flying old.requests new.requests on id.0 flies))
  gone_told worker old new told (Loses drops on) id flies over = absurd (false≢true (sym (ap is_flying over) ∙ goes_flying old.requests new.requests on id.0 flies))
  gone_told worker old new told (Arrives new_id within keeps free others idle) id flies over = absurd (false≢true (sym (ap is_flying over) ∙ arrives_flying old.requests new.requests new_id free others id.0 flies))
  gone_told worker old new told (Comes who w there idle flying others count) id flies over = grind (arith, same_ids)
  gone_told worker old new told (Goes who flying idle others ends count) id flies over =
      elim (same_tells id who) [
        | inr other ↦ absurd (false≢true (sym (ap is_flying over) ∙ ap is_flying (others id.0 other.1) ∙ flies))
        | inl same ↦
            elim ends [
              | inl still ↦ absurd (false≢true (sym (ap is_some over) ∙ ap (λ (n : WaiterId). is_some (request_at new n)) same.1 ∙ still))
              | inr says ↦ subst (λ (n : WaiterId). IsSomeAnd told (λ e. e.0 ≡ key_of worker n)) (sym same.1) says
            ]
      ]
