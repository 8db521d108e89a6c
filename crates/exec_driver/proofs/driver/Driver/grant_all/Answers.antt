use Rattle.std.proofs.Common.{◌+◌, None, sym, ◌∙◌, arith, rules}
use Rattle.exec_driver.{specs.{Driving.seen, Service.{NoGate, NextGate}}, proofs.{Serving.{serves_itself, serves_both, done_itself, done_both}, Turns.{gate_from, added_tells}, Service.none_added}}
use Rattle.exec_driver.proofs.driver.Driver.grant_all.Goals as goal

pub gates-init : goal.gates-init
gates-init g c = (serves_itself _ _, done_itself _, NoGate)

pub gates-smaller : goal.gates-smaller
gates-smaller g c =
    let next = added_tells c.in-Some.file c.checked_add.result c.in-Some-checked_add.next c.checked_add.ensures c.in-Some-checked_add.is in
    let ahead = gate_from c.gates.from (seen c.gates.self).requests (seen c.gates.self).lists.gated None (λ f is. absurd (cc)) c.in-Some.file (sym c.next_gate.ensures ∙ c.in-Some.is) in
    omega (arith, next.0, next.1, ahead)

pub gates-preserved : goal.gates-preserved
gates-preserved g c =
    let next = added_tells c.in-Some.file c.checked_add.result c.in-Some-checked_add.next c.checked_add.ensures c.in-Some-checked_add.is in (
      serves_both _ _ _ _ _ _ c.gates.invariant.0 c.grant_one.ensures.serves,
      done_both _ _ _ c.gates.invariant.1 c.grant_one.ensures.done,
      rw next.1 (NextGate _ c.in-Some.file _ _ c.gates.invariant.2 (sym c.next_gate.ensures ∙ c.in-Some.is) c.grant_one.ensures.grants),
    )

pub returns-in_default-checked_add-clause-grants : goal.returns-in_default-checked_add-clause-grants
returns-in_default-checked_add-clause-grants g c =
    record {
      end = c.in-Some.file + 1;
      below = NextGate _ c.in-Some.file _ _ c.gates.invariant.2 (sym c.next_gate.ensures ∙ c.in-Some.is) c.grant_one.ensures.grants;
      none = λ small. absurd (none_added c.in-Some.file c.checked_add.result c.checked_add.ensures (search rules) small);
    }
