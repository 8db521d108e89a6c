use Rattle.std.proofs.Common.{ℕ, ◌∷◌, ◌++◌, List, codes, decimal, ap, ◌∙◌}
use Rattle.exec_text.proofs.{Fields.{told_equal, told_unequal, told_some, told_none, none_then, some_then}, Steps.{IsCutAt, cut_spelled, first_is, first_of, more_of, no_work, no_landing, no_more, no_letter, no_step}, Calls.{call_spelled, no_call, letter_spelled}}
use Rattle.exec_text.proofs.step.step_of.Goals as goal

pub returns-in_err-first-clause-none : goal.returns-in_err-first-clause-none
returns-in_err-first-clause-none c =
    rw c.from_residual.ensures (λ s h m e. c.in_err-first.ensures.none (first_of s) (more_of s) (first_is c.args.line.now c.first_field.result.0.now c.first_field.result.1.now s c.first_field.ensures h e))

pub returns-then-eq-clause-found : goal.returns-then-eq-clause-found
returns-then-eq-clause-found c =
    let q = c.in_ok-first in
    let cut : IsCutAt c.args.line.now c.first_field.result.0.now q.first q.rest.now = record { tail = c.first_field.result.1.now; field = c.first_field.ensures; number = q.ensures.found } in
    some_then c.work_of.result (λ s h. cut_spelled c.args.line.now c.first_field.result.0.now q.rest.now q.first cut ∙ ap (λ (t : List ℕ). t ++ 32 ∷ (decimal q.first ++ q.rest.now)) (told_equal c.first_field.result.0.now c.as_slice.result.now (codes "w") c.eq.result c.eq.ensures c.as_slice.ensures c.if-eq.true) ∙ h) c.work_of.ensures.found

pub returns-then-eq-clause-none : goal.returns-then-eq-clause-none
returns-then-eq-clause-none c =
    let q = c.in_ok-first in
    let cut : IsCutAt c.args.line.now c.first_field.result.0.now q.first q.rest.now = record { tail = c.first_field.result.1.now; field = c.first_field.ensures; number = q.ensures.found } in
    none_then c.work_of.result (λ over s h m. no_step c.args.line.now c.first_field.result.0.now q.rest.now q.first s cut h (λ l i. no_work c.first_field.result.0.now q.rest.now s (told_equal c.first_field.result.0.now c.as_slice.result.now (codes "w") c.eq.result c.eq.ensures c.as_slice.ensures c.if-eq.true) over h l)) c.work_of.ensures.none

pub returns-then-eq-2-clause-found : goal.returns-then-eq-2-clause-found
returns-then-eq-2-clause-found c =
    let q = c.in_ok-first in
    let cut : IsCutAt c.args.line.now c.first_field.result.0.now q.first q.rest.now = record { tail = c.first_field.result.1.now; field = c.first_field.ensures; number = q.ensures.found } in
    some_then c.landing_of.result (λ s h. cut_spelled c.args.line.now c.first_field.result.0.now q.rest.now q.first cut ∙ ap (λ (t : List ℕ). t ++ 32 ∷ (decimal q.first ++ q.rest.now)) (told_equal c.first_field.result.0.now c.as_slice-2.result.now (codes "k") c.eq-2.result c.eq-2.ensures c.as_slice-2.ensures c.if-eq-2.true) ∙ h) c.landing_of.ensures.found

pub returns-then-eq-2-clause-none : goal.returns-then-eq-2-clause-none
returns-then-eq-2-clause-none c =
    let q = c.in_ok-first in
    let cut : IsCutAt c.args.line.now c.first_field.result.0.now q.first q.rest.now = record { tail = c.first_field.result.1.now; field = c.first_field.ensures; number = q.ensures.found } in
    none_then c.landing_of.result (λ over s h m. no_step c.args.line.now c.first_field.result.0.now q.rest.now q.first s cut h (λ l i. no_landing c.first_field.result.0.now q.rest.now s (told_equal c.first_field.result.0.now c.as_slice-2.result.now (codes "k") c.eq-2.result c.eq-2.ensures c.as_slice-2.ensures c.if-eq-2.true) over h l)) c.landing_of.ensures.none

pub returns-in_err-action-clause-none : goal.returns-in_err-action-clause-none
returns-in_err-action-clause-none c =
    let q = c.in_ok-first in
    let cut : IsCutAt c.args.line.now c.first_field.result.0.now q.first q.rest.now = record { tail = c.first_field.result.1.now; field = c.first_field.ensures; number = q.ensures.found } in
    rw c.from_residual-in_err-action.ensures (λ s h m. no_step c.args.line.now c.first_field.result.0.now q.rest.now q.first s cut h (no_call c.args.scripts q.first c.first_field.result.0.now q.rest.now s (told_equal c.first_field.result.0.now c.as_slice-3.result.now (codes "x") c.eq-3.result c.eq-3.ensures c.as_slice-3.ensures c.if-eq-3.true) c.in_err-action.ensures.none h m))

pub returns-then-eq-3-clause-found : goal.returns-then-eq-3-clause-found
returns-then-eq-3-clause-found c =
    let q = c.in_ok-first in
    let cut : IsCutAt c.args.line.now c.first_field.result.0.now q.first q.rest.now = record { tail = c.first_field.result.1.now; field = c.first_field.ensures; number = q.ensures.found } in
    let a = c.in_ok-action in
    cut_spelled c.args.line.now c.first_field.result.0.now q.rest.now q.first cut ∙ ap (λ (t : List ℕ). t ++ 32 ∷ (decimal q.first ++ q.rest.now)) (told_equal c.first_field.result.0.now c.as_slice-3.result.now (codes "x") c.eq-3.result c.eq-3.ensures c.as_slice-3.ensures c.if-eq-3.true) ∙ call_spelled q.first c.args.scripts q.rest.now a.action a.ensures.found

pub returns-then-not-is_empty-clause-none : goal.returns-then-not-is_empty-clause-none
returns-then-not-is_empty-clause-none c =
    let q = c.in_ok-first in
    let cut : IsCutAt c.args.line.now c.first_field.result.0.now q.first q.rest.now = record { tail = c.first_field.result.1.now; field = c.first_field.ensures; number = q.ensures.found } in
    λ s h m. no_step c.args.line.now c.first_field.result.0.now q.rest.now q.first s cut h (λ l i. no_more c.first_field.result.0.now q.rest.now s (told_unequal c.first_field.result.0.now c.as_slice.result.now (codes "w") c.eq.result c.eq.ensures c.as_slice.ensures c.if-eq.false) (told_unequal c.first_field.result.0.now c.as_slice-2.result.now (codes "k") c.eq-2.result c.eq-2.ensures c.as_slice-2.ensures c.if-eq-2.false) (told_unequal c.first_field.result.0.now c.as_slice-3.result.now (codes "x") c.eq-3.result c.eq-3.ensures c.as_slice-3.ensures c.if-eq-3.false) (told_some q.rest.now c.is_empty.result c.is_empty.ensures c.if-not-is_empty.true) l)

pub returns-in_err-action-2-clause-none : goal.returns-in_err-action-2-clause-none
returns-in_err-action-2-clause-none c =
    let q = c.in_ok-first in
    let cut : IsCutAt c.args.line.now c.first_field.result.0.now q.first q.rest.now = record { tail = c.first_field.result.1.now; field = c.first_field.ensures; number = q.ensures.found } in
    let o = c.in_err-action-2.ensures.none in
    rw c.from_residual-in_err-action-2.ensures (λ s h m. no_step c.args.line.now c.first_field.result.0.now q.rest.now q.first s cut h (λ l i e. no_letter c.first_field.result.0.now s h (told_unequal c.first_field.result.0.now c.as_slice.result.now (codes "w") c.eq.result c.eq.ensures c.as_slice.ensures c.if-eq.false) (told_unequal c.first_field.result.0.now c.as_slice-2.result.now (codes "k") c.eq-2.result c.eq-2.ensures c.as_slice-2.ensures c.if-eq-2.false) (told_unequal c.first_field.result.0.now c.as_slice-3.result.now (codes "x") c.eq-3.result c.eq-3.ensures c.as_slice-3.ensures c.if-eq-3.false) o.0 o.1 o.2 o.3 l))

pub returns-clause-found : goal.returns-clause-found
returns-clause-found c =
    let q = c.in_ok-first in
    let cut : IsCutAt c.args.line.now c.first_field.result.0.now q.first q.rest.now = record { tail = c.first_field.result.1.now; field = c.first_field.ensures; number = q.ensures.found } in
    letter_spelled c.args.line.now c.first_field.result.0.now q.rest.now q.first c.in_ok-action-2.action (cut_spelled c.args.line.now c.first_field.result.0.now q.rest.now q.first cut) (told_none q.rest.now c.is_empty.result c.is_empty.ensures c.if-not-is_empty.false) c.in_ok-action-2.ensures.found

pub returns-clause-named : goal.returns-clause-named
returns-clause-named c = c.in_ok-action-2.ensures.named c.args.scripts
