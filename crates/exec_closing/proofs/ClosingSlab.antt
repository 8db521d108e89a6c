-- A request that somebody holds is let go: of the requests at its driver this one is held no more, and the others are as they were.
use Rattle.std.proofs.{Common.{◌≡◌, ◌≢◌, ◌+◌, ◌&&◌, Bool, true, false, not, [], Option, Some, None, IsSome, refl, sym, ap, subst, ◌∙◌, arith, if◌then◌else◌}, lemmas.{Bool.false≢true, List.append-nil}}
use Rattle.exec_base.{specs.{Slab.{Slab, freed, removed, value_at, written}, declared.{slab.Id.Id}}, proofs.Slots.{Changed-set, IsLiveAt-from_value, Updates-free, Updates-write, live_within, was_live}}
use Rattle.exec_request.specs.{Requests.goes_on_alone, States.asks_cancel}
use Rattle.exec_waiters.{specs.{Events.{asks_cancel_by_orphan, cancelled as cancelled_of, orphaned_from, told_by_close, told_by_finish, told_by_orphan, waker_at, with_observer}, States.{is_held, is_held_at, is_held_by}, Told.{nothing_told, tasks_of}, declared.{observer.Observer.{TheVariants.{Orphaned}}, waiter.{Entry.{Entry, TheVariants.{Pending, Ready}}, Waiter.Waiter}, waiter_id.WaiterId.WaiterId}}, proofs.Changes.one_if}
use Rattle.exec_driver.specs.{Driving.{Driving, request_at}, Steps.{cancelled_at, cancelled_from, cancelling, ended, let_go, timed_out, told_by_cancel, told_by_let_go, without_observer}}
use Rattle.exec_parts.specs.declared.parts.mail.Reply.{Reply}
use Rattle.exec_invariants.{specs.Names.held_count, proofs.{Changing.changes_one, HeldCounts.{held_removed, held_written}}}

pub record Unholds (s s' : Slab (Entry Reply Reply)) (id : Id) : Type 0 where
  pub others : (other : Id) → other ≢ id → value_at s' other ≡ value_at s other
  pub this : is_held_at (value_at s' id) ≡ false
  pub fewer : held_count s' + 1 ≡ held_count s

module _ (s : Slab (Entry Reply Reply)) (id : Id) (e : Entry Reply Reply) (at : value_at s id ≡ Some e) (held : is_held e ≡ true) where
  some : IsSome (value_at s id)
  some = rw at refl

  one : one_if (is_held e) ≡ 1
  one = ap one_if held

  unheld_removed : Unholds s (removed s id) id
  unheld_removed =
      let was = was_live s id some in
      let live = IsLiveAt-from_value s.slots id.index id.generation s.first some in
      let map = Updates-free s (removed s id) id was.0 (Changed-set s (removed s id) id.index (freed id.generation) refl refl (live_within s.slots id.index id.generation live.value live.is)) was.1 in
      record { others = map.others; this = ap is_held_at map.changed; fewer = omega (arith, held_removed s id e at, one) }

  unheld_written : (e' : Entry Reply Reply) → is_held e' ≡ false → Unholds s (written s id e') id
  unheld_written e' free =
      let map = Updates-write s id e' some in
      record { others = map.others; this = ap is_held_at map.changed ∙ free; fewer = omega (arith, held_written s id e e' at, one, ap one_if free) }

-- after one that is held no more another change of it
unheld_on : (s s1 s' : Slab (Entry Reply Reply)) (id : Id) → Unholds s s1 id → ((other : Id) → other ≢ id → value_at s' other ≡ value_at s1 other) → is_held_at (value_at s' id) ≡ false → held_count s' ≡ held_count s1 → Unholds s s' id
unheld_on = grind arith

module _ (d : Driving Reply Reply) (id : WaiterId) where
  abbrev e : Option (Entry Reply Reply)
  e = value_at d.requests id.0

  -- WHAT STANDS AT ITS DRIVER THEN

  module _ (it : Waiter Reply Reply) (at : value_at d.requests id.0 ≡ Some (Pending it)) (held : is_held_by it.observer ≡ true) where
    abbrev free : Waiter Reply Reply
    free = with_observer Orphaned it

    abbrev d1 : Driving Reply Reply
    d1 = record d { requests = written d.requests id.0 (Pending (with_observer Orphaned it)) }

    without : without_observer d id ≡ record d { requests = written d.requests id.0 (Pending (with_observer Orphaned it)) }
    without = ap (λ o. record d { requests = orphaned_from d.requests id.0 o }) at ∙ ap (λ b. record d { requests = if b then written d.requests id.0 (Pending free) else d.requests }) held

    alone : request_at (record d { requests = written d.requests id.0 (Pending (with_observer Orphaned it)) }) id ≡ Some (with_observer Orphaned it)
    alone = (changes_one d.requests id.0 it free (rw at refl)).is_at

    written_at : value_at (written d.requests id.0 (Pending (with_observer Orphaned it))) id.0 ≡ Some (Pending (with_observer Orphaned it))
    written_at = (Updates-write d.requests id.0 (Pending free) (rw at refl)).changed

    first : Unholds d.requests (written d.requests id.0 (Pending (with_observer Orphaned it))) id.0
    first = unheld_written d.requests id.0 (Pending it) at held (Pending free) refl

    -- it is cancelled besides
    cancelled_so : (flies asked : Bool) → it.in_flight ≡ flies → asks_cancel it.state ≡ asked → Unholds d.requests (cancelled_from (record d { requests = written d.requests id.0 (Pending (with_observer Orphaned it)) }) id (Some (with_observer Orphaned it))).requests id.0
    cancelled_so false asked idle is =
        let slab : (cancelled_from d1 id (Some free)).requests ≡ removed d1.requests id.0 = ap (λ b. (if b then (if asks_cancel it.state then d1 else cancelling d1 id free) else ended d1 id free timed_out None).requests) idle in
        let some1 : IsSome (value_at d1.requests id.0) = rw written_at refl in
        let was = was_live d1.requests id.0 some1 in
        let live = IsLiveAt-from_value d1.requests.slots id.0.index id.0.generation d1.requests.first some1 in
        let map = Updates-free d1.requests (removed d1.requests id.0) id.0 was.0 (Changed-set d1.requests (removed d1.requests id.0) id.0.index (freed id.0.generation) refl refl (live_within d1.requests.slots id.0.index id.0.generation live.value live.is)) was.1 in
        let count = held_removed d1.requests id.0 (Pending free) written_at in
        subst (λ x. Unholds d.requests x id.0) (sym slab) (unheld_on d.requests d1.requests (removed d1.requests id.0) id.0 first map.others (ap is_held_at map.changed) (omega (arith, count)))
    cancelled_so true true flies is =
        subst (λ x. Unholds d.requests x id.0)
        (sym (ap (λ b. (if b then (if asks_cancel it.state then d1 else cancelling d1 id free) else ended d1 id free timed_out None).requests) flies ∙ ap (λ b. (if b then d1 else cancelling d1 id free).requests) is)) first
    cancelled_so true false flies is =
        let slab : (cancelled_from d1 id (Some free)).requests ≡ written d1.requests id.0 (Pending (cancelled_of free)) = ap (λ b. (if b then (if asks_cancel it.state then d1 else cancelling d1 id free) else ended d1 id free timed_out None).requests) flies ∙ ap (λ b. (if b then d1 else cancelling d1 id free).requests) is in
        let map = Updates-write d1.requests id.0 (Pending (cancelled_of free)) (rw written_at refl) in
        let count = held_written d1.requests id.0 (Pending free) (Pending (cancelled_of free)) written_at in
        subst (λ x. Unholds d.requests x id.0) (sym slab) (unheld_on d.requests d1.requests (written d1.requests id.0 (Pending (cancelled_of free))) id.0 first map.others (ap is_held_at map.changed) (omega (arith, count)))

    pending_unheld : (b : Bool) → goes_on_alone it.request ≡ b → Unholds d.requests (let_go d id).requests id.0
    pending_unheld true is =
        let same : let_go d id ≡ d1 = ap (λ o. if asks_cancel_by_orphan o then cancelled_at (without_observer d id) id else without_observer d id) at ∙ ap (λ b. if is_held_by it.observer && not b then cancelled_at (without_observer d id) id else without_observer d id) is ∙ ap (λ b. if b && false then cancelled_at (without_observer d id) id else without_observer d id) held ∙ without in
        subst (λ (x : Driving Reply Reply). Unholds d.requests x.requests id.0) (sym same) first
    pending_unheld false is =
        let same : let_go d id ≡ cancelled_from d1 id (Some free) = grind (arith, at, is, held, without, alone) in
        subst (λ (x : Driving Reply Reply). Unholds d.requests x.requests id.0) (sym same) (cancelled_so it.in_flight (asks_cancel it.state) refl refl)

  pub unheld_now : (o : Option (Entry Reply Reply)) → value_at d.requests id.0 ≡ o → is_held_at o ≡ true → Unholds d.requests (let_go d id).requests id.0
  unheld_now None at held = absurd (false≢true held)
  unheld_now (Some (Pending it)) at held = pending_unheld it at held (goes_on_alone it.request) refl
  unheld_now (Some (Ready told)) at held = grind (arith, unheld_removed)

  -- WHAT IS TOLD: who waits here is woken besides, and nobody else is

  cancel_wakes : (o : Option (Entry Reply Reply)) → value_at d.requests id.0 ≡ o → asks_cancel_by_orphan o ≡ true → (told_by_cancel id (request_at (without_observer d id) id)).wakes ≡ []
  cancel_wakes None at asks = absurd (false≢true asks)
  cancel_wakes (Some (Ready told)) at asks = absurd (false≢true asks)
  cancel_wakes (Some (Pending it)) at asks =
      let held : is_held_by it.observer ≡ true = left_true (is_held_by it.observer) (not (goes_on_alone it.request)) asks in
      ap (λ x. (told_by_cancel id (request_at x id)).wakes) (without it at held) ∙ ap (λ o. (told_by_cancel id o).wakes) (alone it at held) ∙ by it it.in_flight
    where
      left_true : (a b : Bool) → (a && b) ≡ true → a ≡ true
      left_true true b h = refl
      left_true false b h = absurd (false≢true h)

      by : (it : Waiter Reply Reply) (b : Bool) → (if b then nothing_told else told_by_finish id.0 (with_observer Orphaned it) timed_out None).wakes ≡ []
      by it true = refl
      by it false = refl

  orphan_wakes : (o : Option (Entry Reply Reply)) → (told_by_orphan id.0 o).wakes ≡ []
  orphan_wakes = grind arith

  -- but for the wakes the same
  pub record TellsSame : Type 0 where
    pub none : (told_by_let_go d id (told_by_orphan id.0 (value_at d.requests id.0))).wakes ≡ []
    pub wakes : (told_by_let_go d id (told_by_close id.0 (value_at d.requests id.0))).wakes ≡ tasks_of (waker_at (value_at d.requests id.0))
    pub completions : (told_by_let_go d id (told_by_close id.0 (value_at d.requests id.0))).completions ≡ (told_by_let_go d id (told_by_orphan id.0 (value_at d.requests id.0))).completions
    pub outputs : (told_by_let_go d id (told_by_close id.0 (value_at d.requests id.0))).outputs ≡ (told_by_let_go d id (told_by_orphan id.0 (value_at d.requests id.0))).outputs
    pub resources : (told_by_let_go d id (told_by_close id.0 (value_at d.requests id.0))).resources ≡ (told_by_let_go d id (told_by_orphan id.0 (value_at d.requests id.0))).resources
    pub results : (told_by_let_go d id (told_by_close id.0 (value_at d.requests id.0))).results ≡ (told_by_let_go d id (told_by_orphan id.0 (value_at d.requests id.0))).results

  pub tells_same : TellsSame
  tells_same = grind (arith, cancel_wakes, orphan_wakes, append-nil)
