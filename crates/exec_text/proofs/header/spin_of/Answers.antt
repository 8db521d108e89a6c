use Rattle.std.proofs.Common.{◌≡◌, ◌++◌, ◌∷◌, [], codes, refl, arith}
use Rattle.exec_text.proofs.{Fields.{stripped, told_some}, Headers.{no_more_spin, spin_more, spin_ended}}
use Rattle.exec_text.proofs.header.spin_of.Goals as goal

pub returns-in_err-most-clause-none : goal.returns-in_err-most-clause-none
returns-in_err-most-clause-none c =
    let line = c.args.line.now in
    let s = c.in_ok-rest.ensures.cases in
    let r0 = c.in_ok-rest.rest.now in
    let e0 : line ≡ codes "spin" ++ r0 = stripped line c.as_slice.result.now (codes "spin") r0 s.0 s.1 c.as_slice.ensures in
    let e1 = spin_more line r0 c.in_ok-budget.rest.now [] c.in_ok-budget.budget e0 c.in_ok-budget.ensures.found in
    rw c.from_residual-in_err-most.ensures (λ x fits. no_more_spin line c.in_ok-budget.rest.now (c.in_ok-budget.budget ∷ []) x e1 (c.in_ok-budget.ensures.found.small, tt) c.in_ok-budget.ensures.found.cut (omega arith) c.in_err-most.ensures.none fits)

pub returns-in_err-quick-clause-none : goal.returns-in_err-quick-clause-none
returns-in_err-quick-clause-none c =
    let line = c.args.line.now in
    let s = c.in_ok-rest.ensures.cases in
    let r0 = c.in_ok-rest.rest.now in
    let e0 : line ≡ codes "spin" ++ r0 = stripped line c.as_slice.result.now (codes "spin") r0 s.0 s.1 c.as_slice.ensures in
    let e1 = spin_more line r0 c.in_ok-budget.rest.now [] c.in_ok-budget.budget e0 c.in_ok-budget.ensures.found in
    let e2 = spin_more line c.in_ok-budget.rest.now c.in_ok-most.rest.now (c.in_ok-budget.budget ∷ []) c.in_ok-most.most e1 c.in_ok-most.ensures.found in
    rw c.from_residual-in_err-quick.ensures (λ x fits. no_more_spin line c.in_ok-most.rest.now (c.in_ok-budget.budget ∷ c.in_ok-most.most ∷ []) x e2 (c.in_ok-budget.ensures.found.small, (c.in_ok-most.ensures.found.small, tt)) c.in_ok-most.ensures.found.cut (omega arith) c.in_err-quick.ensures.none fits)

pub returns-in_err-iterations-clause-none : goal.returns-in_err-iterations-clause-none
returns-in_err-iterations-clause-none c =
    let line = c.args.line.now in
    let s = c.in_ok-rest.ensures.cases in
    let r0 = c.in_ok-rest.rest.now in
    let e0 : line ≡ codes "spin" ++ r0 = stripped line c.as_slice.result.now (codes "spin") r0 s.0 s.1 c.as_slice.ensures in
    let e1 = spin_more line r0 c.in_ok-budget.rest.now [] c.in_ok-budget.budget e0 c.in_ok-budget.ensures.found in
    let e2 = spin_more line c.in_ok-budget.rest.now c.in_ok-most.rest.now (c.in_ok-budget.budget ∷ []) c.in_ok-most.most e1 c.in_ok-most.ensures.found in
    let e3 = spin_more line c.in_ok-most.rest.now c.in_ok-quick.rest.now (c.in_ok-budget.budget ∷ c.in_ok-most.most ∷ []) c.in_ok-quick.quick e2 c.in_ok-quick.ensures.found in
    rw c.from_residual-in_err-iterations.ensures (λ x fits. no_more_spin line c.in_ok-quick.rest.now (c.in_ok-budget.budget ∷ c.in_ok-most.most ∷ c.in_ok-quick.quick ∷ []) x e3 (c.in_ok-budget.ensures.found.small, (c.in_ok-most.ensures.found.small, (c.in_ok-quick.ensures.found.small, tt))) c.in_ok-quick.ensures.found.cut (omega arith) c.in_err-iterations.ensures.none fits)

pub returns-then-not-is_empty-clause-none : goal.returns-then-not-is_empty-clause-none
returns-then-not-is_empty-clause-none c =
    let line = c.args.line.now in
    let s = c.in_ok-rest.ensures.cases in
    let r0 = c.in_ok-rest.rest.now in
    let e0 : line ≡ codes "spin" ++ r0 = stripped line c.as_slice.result.now (codes "spin") r0 s.0 s.1 c.as_slice.ensures in
    let e1 = spin_more line r0 c.in_ok-budget.rest.now [] c.in_ok-budget.budget e0 c.in_ok-budget.ensures.found in
    let e2 = spin_more line c.in_ok-budget.rest.now c.in_ok-most.rest.now (c.in_ok-budget.budget ∷ []) c.in_ok-most.most e1 c.in_ok-most.ensures.found in
    let e3 = spin_more line c.in_ok-most.rest.now c.in_ok-quick.rest.now (c.in_ok-budget.budget ∷ c.in_ok-most.most ∷ []) c.in_ok-quick.quick e2 c.in_ok-quick.ensures.found in
    let e4 = spin_more line c.in_ok-quick.rest.now c.in_ok-iterations.rest.now (c.in_ok-budget.budget ∷ c.in_ok-most.most ∷ c.in_ok-quick.quick ∷ []) c.in_ok-iterations.iterations e3 c.in_ok-iterations.ensures.found in
    let some = told_some c.in_ok-iterations.rest.now c.is_empty.result c.is_empty.ensures c.if-not-is_empty.true in
    λ x fits. spin_ended line c.in_ok-iterations.rest.now (c.in_ok-budget.budget ∷ c.in_ok-most.most ∷ c.in_ok-quick.quick ∷ c.in_ok-iterations.iterations ∷ []) x e4 (c.in_ok-budget.ensures.found.small, (c.in_ok-most.ensures.found.small, (c.in_ok-quick.ensures.found.small, (c.in_ok-iterations.ensures.found.small, tt)))) c.in_ok-iterations.ensures.found.cut refl some fits
