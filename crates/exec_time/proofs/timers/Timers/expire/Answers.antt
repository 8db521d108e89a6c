use Rattle.std.proofs.Common.{sym, ◌∙◌, refl}
use Rattle.exec_time.{specs.Sleepers.{begun, fired}, proofs.Endings.{ends_room, left_same, left_all, first_due}}
use Rattle.exec_time.proofs.timers.Timers.expire.Goals as goal

pub due-init : goal.due-init
due-init g c = (begun, c.requires.room, λ id. refl)

pub due-preserved : goal.due-preserved
due-preserved g c =
    let e = c.in-Some.ensures.fired in
    let first = c.in-Some.ensures.first in (
      fired first.0 c.in-Some._fired.0 c.due.invariant.0 first.2 first.1 e,
      ends_room _ _ _ _ _ _ e c.due.invariant.1,
      λ id. left_same c.args.now _ _ _ _ _ _ e (first_due c.args.now first.0 _ _ first.2 first.1) id ∙ c.due.invariant.2 id,
    )

pub returns-clause-exact : goal.returns-clause-exact
returns-clause-exact g c = rw c.in_default.ensures.same.0 (λ id. sym (left_all c.args.now c.due.self c.in_default.ensures.none_due id) ∙ c.due.invariant.2 id)
