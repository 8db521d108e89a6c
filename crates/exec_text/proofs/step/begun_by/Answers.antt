use Rattle.std.proofs.Common.{codes, refl}
use Rattle.exec_text.proofs.{Fields.{told_equal, told_unequal, told_some, told_none}, Calls.{call_begun, call_numbered, call_ended, call_named, call_read}, step.begun_by.Goals.{else-eq-2-via-then-eq-2+else-place-scripts, else-eq-2-via-else-eq-2}}
use Rattle.exec_text.proofs.step.begun_by.Goals as goal

pub returns-in_err-number-clause-none : goal.returns-in_err-number-clause-none
returns-in_err-number-clause-none c =
    let p = c.in_ok-name in
    let f = p.ensures.found in
    rw c.from_residual-in_err-number.ensures (λ a h. call_numbered c.args.scripts p.name.now p.rest.now a c.in_err-number.ensures.none
    (call_begun c.args.caller c.args.scripts c.args.bytes.now f.0 p.name.now p.rest.now a f.1 f.2 h))

pub returns-then-not-is_empty-clause-none : goal.returns-then-not-is_empty-clause-none
returns-then-not-is_empty-clause-none c = λ a h.
    let p = c.in_ok-name in
    let f = p.ensures.found in
    let q = c.in_ok-number in
    call_ended c.args.scripts p.name.now p.rest.now q.rest.now q.number a q.ensures.found (told_some q.rest.now c.is_empty.result c.is_empty.ensures c.if-not-is_empty.true)
    (call_begun c.args.caller c.args.scripts c.args.bytes.now f.0 p.name.now p.rest.now a f.1 f.2 h)

pub returns-then-place-scripts-clause-found : goal.returns-then-place-scripts-clause-found
returns-then-place-scripts-clause-found c =
    let p = c.in_ok-name in
    let f = p.ensures.found in
    let q = c.in_ok-number in (
      refl,
      q.ensures.found.small,
      c.if-place-scripts.true,
      call_read c.args.bytes.now f.0 p.name.now p.rest.now q.rest.now (codes "spawn") q.number f.1 f.2 q.ensures.found
          (told_none q.rest.now c.is_empty.result c.is_empty.ensures c.if-not-is_empty.false)
          (told_equal p.name.now c.as_slice-2.result.now (codes "spawn") c.eq-2.result c.eq-2.ensures c.as_slice-2.ensures c.if-eq-2.true),
    )

pub returns-clause-none : goal.returns-clause-none
returns-clause-none c = λ a h.
    let p = c.in_ok-name in
    let f = p.ensures.found in
    let q = c.in_ok-number in
    call_named c.args.scripts p.name.now p.rest.now q.rest.now q.number a q.ensures.found
    (told_unequal p.name.now c.as_slice.result.now (codes "wake") c.eq.result c.eq.ensures c.as_slice.ensures c.if-eq.false)
    (λ e. elim c.else-eq-2.branch [
      | else-eq-2-via-then-eq-2+else-place-scripts w ↦ w.if-place-scripts.false
      | else-eq-2-via-else-eq-2 w ↦ absurd (told_unequal p.name.now c.as_slice-2.result.now (codes "spawn") c.eq-2.result c.eq-2.ensures c.as_slice-2.ensures w.if-eq-2.false e)
    ])
    (call_begun c.args.caller c.args.scripts c.args.bytes.now f.0 p.name.now p.rest.now a f.1 f.2 h)
