use Rattle.std.proofs.{Common.{arith, ◌≡◌}, lemmas.Bool.true≢false}
use Rattle.exec_time.{specs.declared.timers.Observer.TheVariants.Local, proofs.Index.{refused_free, indexed_still, indexed_put}}
use Rattle.exec_time.proofs.timers.Timers.insert.Goals as goal

pub invariant_of-self-in_default-insert-2 : goal.invariant_of-self-in_default-insert-2
invariant_of-self-in_default-insert-2 g c =
    let e = c.in_default-insert-2.ensures in
    let free = refused_free c.self.inside.sleepers _ _ _ c.in-Some.ensures.id (λ full. true≢false (c.in-Some.ensures.full.1 full)) e.refused in
    rw e.kept (indexed_still _ _ _ _ _ _ free c.in-Ok.ensures.updates c.remove.ensures.updates c.self.invariant)

pub invariant_of-self-2 : goal.invariant_of-self-2
invariant_of-self-2 g c =
    let e = c.in-Ok-insert.ensures in
    let same : c.in-Some.next ≡ c.in-Ok-insert.id = cc (c.in-Some.ensures.id, e.id) in
    indexed_put _ _ _ _ _ _ (record { 0 = c.in-Ok-insert.id }) (record { deadline = c.args.deadline; observer = Local c.args.waker }) e.never_before e.map (rw same at c.in-Ok.ensures.updates) (omega (arith, c.min-self-inside.ensures)) (omega (arith, c.min-self-inside.ensures)) c.self.invariant
