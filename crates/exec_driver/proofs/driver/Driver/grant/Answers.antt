use Rattle.std.proofs.Common.{◌≡◌, ℕ, Some, true, sym, ap, ◌∙◌, refl, rules}
use Rattle.exec_driver.{proofs.{Words.{with_permit, waiter_at, is_among}, Endings.{changed_is, one_changed}, Granting.{gated_there, held_permitted, held_granted, room_to_grant, same_some}, Keeping.punctual_one, Turns.grant_serves}, specs.{Driving.seen, Sound.IsSound}}
use Rattle.exec_opens.specs.declared.opens.WaiterKey.{WaiterKey}
use Rattle.exec_driver.proofs.driver.Driver.grant.Goals as goal

pub acquire_durability-ended-requires : goal.acquire_durability-ended-requires
acquire_durability-ended-requires g c =
    let there = gated_there _ c.in_ok-home.field-0.id c.self.invariant.sound (search rules) in
    record { lacks = rw there.at there.waits.lacks }

pub invariant_of-self : goal.invariant_of-self
invariant_of-self g c =
    let there = gated_there _ c.in_ok-home.field-0.id c.self.invariant.sound (search rules) in
    rw (c.acquire_durability-ended.ensures.permit, changed_is c.self.inside.waiters c.in_ok-home.field-0.id.0 there.w with_permit there.at, c.ungate.ensures) (held_permitted _ c.in_ok-home.field-0.id there.w _ _ _ there.at there.waits c.self.invariant)

pub end-requires-clause-idle : goal.end-requires-clause-idle
end-requires-clause-idle g c =
    let there = gated_there _ c.in_ok-home.field-0.id c.self.invariant.sound (search rules) in
    let one = one_changed c.self.inside.waiters c.in_ok-home.field-0.id.0 there.w (with_permit there.w) there.at in
    rw (c.acquire_durability-ended.ensures.permit, changed_is c.self.inside.waiters c.in_ok-home.field-0.id.0 there.w with_permit there.at, one.is_at, there.waits.idle) refl

pub queue-requires : goal.queue-requires
queue-requires g c =
    let there = gated_there _ c.in_ok-home.field-0.id c.self.invariant.sound (search rules) in
    record { room = rw c.ungate.ensures (room_to_grant _ c.in_ok-home.field-0.id there.w _ _ _ there.at there.waits c.self.invariant) }

pub invariant_of-self-in-None : goal.invariant_of-self-in-None
invariant_of-self-in-None g c =
    let there = gated_there _ c.in_ok-home.field-0.id c.self.invariant.sound (search rules) in
    rw (c.acquire_durability-ended.ensures.permit, changed_is c.self.inside.waiters c.in_ok-home.field-0.id.0 there.w with_permit there.at, c.queue.ensures, c.ungate.ensures) (held_granted _ c.in_ok-home.field-0.id there.w _ _ _ there.at there.waits c.self.invariant)

pub returns-in-Some-clause-granted : goal.returns-in-Some-clause-granted
returns-in-Some-clause-granted g c =
    let among : is_among c.in_ok-home.field-0.id c.self.inside.lists.gated ≡ true = search rules in
    let there = gated_there _ c.in_ok-home.field-0.id c.self.invariant.sound among in
    let one = one_changed c.self.inside.waiters c.in_ok-home.field-0.id.0 there.w (with_permit there.w) there.at in
    let same-worker : c.in_ok-home.field-0.worker ≡ c.args.worker = cc in
    let changed = c.acquire_durability-ended.ensures.permit ∙ changed_is c.self.inside.waiters c.in_ok-home.field-0.id.0 there.w with_permit there.at in
    let at : waiter_at c.acquire_durability-ended.new.self c.in_ok-home.field-0.id.0 ≡ Some (with_permit there.w) = rw changed one.is_at in
    let whose : Some c.in_ok-home.field-0 ≡ Some (record { worker = c.args.worker; id = c.in_ok-home.field-0.id }) = ap (λ (n : ℕ). let k : WaiterKey = record { worker = n; id = c.in_ok-home.field-0.id } in Some k) same-worker in
    rw (← c.self.view_is) (record {
      holder = sym c.holder.ensures ∙ c.in_ok-home.was ∙ whose;
      waits = among;
      grants = λ w is.
          let same : there.w ≡ w = same_some _ _ _ there.at is in
          rw (← same) (record {
            driver = rw (changed, c.ungate.ensures) at (c.end.ensures.ended (with_permit there.w) at);
            tells = c.end.ensures.told (with_permit there.w) at;
            opens_after = c.end.ensures.opens (with_permit there.w) at;
            answer = rw (c.in-Some.is, there.at, c.account-account.ensures) at c.acquire_durability-ended.ensures.answer;
          });
    })

pub returns-in-Some-clause-punctual : goal.returns-in-Some-clause-punctual
returns-in-Some-clause-punctual g c =
    let sound : IsSound (seen c.args.self.now) = rw (← c.self.view_is) c.self.invariant.sound in
    (grant_serves _ _ _ _ _ _ _ _ _ sound (returns-in-Some-clause-granted g c)).0.going.punctual

pub returns-in-None-clause-punctual : goal.returns-in-None-clause-punctual
returns-in-None-clause-punctual g c =
    let there = gated_there _ c.in_ok-home.field-0.id c.self.invariant.sound (search rules) in
    let one = one_changed c.self.inside.waiters c.in_ok-home.field-0.id.0 there.w (with_permit there.w) there.at in
    rw (← c.self.view_is, c.acquire_durability-ended.ensures.permit, changed_is c.self.inside.waiters c.in_ok-home.field-0.id.0 there.w with_permit there.at, c.queue.ensures, c.ungate.ensures)
    (punctual_one _ _ c.in_ok-home.field-0.id (Some there.w) (Some (with_permit there.w)) one (λ t is. is) refl refl)
