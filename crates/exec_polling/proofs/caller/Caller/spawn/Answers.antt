use Rattle.std.proofs.Common.{◌≡◌, Option, Some, None, refl, ap, subst, ◌∙◌}
use Rattle.exec_task.specs.declared.runnable.Runnable.{Runnable}
use Rattle.exec_machine.specs.declared.event.Event.{Event}
use Rattle.exec_moves.specs.declared.handing.{CallPlace.CallPlace, InGlobal.InGlobal}
use Rattle.exec_parts.specs.Pooled.{MakesTask}
use Rattle.exec_polling.proofs.{CallSpawns.{absent_now, joins_by, refused_by_call, spawned_by_call}, SpawnSteps.performs_joined}
use Rattle.exec_polling.proofs.caller.Caller.spawn.Goals as goal

none_of : (o : Option Runnable) → ((r : Runnable) → o ≡ Some r → ⊥) → o ≡ None
none_of None never = refl
none_of (Some r) never = absurd (never r refl)

pub make_task-requires : goal.make_task-requires
make_task-requires g c = record { absent = absent_now c.args.self.now c.args.shared.now c.requires.sound c.requires.whole }

pub returns-in_default-clause-made : goal.returns-in_default-clause-made
returns-in_default-clause-made g c =
    let makes = subst (λ o. MakesTask c.args.body c.args.shared.now c.make_task.new.self o) (none_of c.in_ok-runnable.field-0 c.in_default.not-Some) c.in_ok-runnable.ensures.made in
    refused_by_call g.B.Body.left g.B.Scripted.spot c.args.self.now c.args.body (g.B.Body.name_of (g.B.Body.left c.args.body)) c.args.shared.now c.make_task.new.self c.requires.sound c.requires.free makes

pub returns-clause-made : goal.returns-clause-made
returns-clause-made g c =
    let r = c.in-Some.runnable in
    let makes = subst (λ o. MakesTask c.args.body c.args.shared.now c.make_task.new.self o) c.in-Some.is c.in_ok-runnable.ensures.made in
    spawned_by_call g.B.Body.left g.B.Scripted.spot c.args.self.now c.args.body (g.B.Body.name_of (g.B.Body.left c.args.body)) c.args.shared.now c.make_task.new.self c.requires.sound c.requires.free r c.requires.whole makes
    (record c.args.self.now { place = CallPlace.Global InGlobal.Append; hand = Some r }) (Event.Spawn c.task-task.result.0 c.name-script.result) (ap (λ t. Event.Spawn t.0 c.name-script.result) c.task-task.ensures ∙ ap (Event.Spawn r.task.0) c.name-script.ensures) refl

pub returns-clause-performs : goal.returns-clause-performs
returns-clause-performs g c =
    let r = c.in-Some.runnable in
    let makes = subst (λ o. MakesTask c.args.body c.args.shared.now c.make_task.new.self o) c.in-Some.is c.in_ok-runnable.ensures.made in
    λ p born fits.
    performs_joined g.B.Body.left g.B.Scripted.runs g.B.Scripted.holds g.B.Scripted.spot p (g.B.Body.name_of (g.B.Body.left c.args.body)) c.args.body r c.args.shared.now c.make_task.new.self (joins_by c.args.self.now c.args.body r c.args.shared.now c.make_task.new.self c.requires.sound makes) born fits
