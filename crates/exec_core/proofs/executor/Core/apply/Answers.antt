use Rattle.std.proofs.Common.{sym, ◌∙◌}
use Rattle.exec_core.proofs.{Applying.enabled_as, Steady.{applied, refused}, Taking.{asked, asked_again, on_err}}
use Rattle.exec_core.proofs.executor.Core.apply.Goals as goal

pub returns-then-not-may_take-clause-applies : goal.returns-then-not-may_take-clause-applies
returns-then-not-may_take-clause-applies g c = λ p x shows carries.
    refused g.B.Body.left g.B.Scripted.runs g.B.Scripted.holds g.B.Scripted.spot g.B.Body.name_of p x c.args.self.now c.args.action c.requires.ready.1.stands (sym c.may_take.ensures ∙ c.if-not-may_take.true) shows

pub returns-in_err-event-clause-wants : goal.returns-in_err-event-clause-wants
returns-in_err-event-clause-wants g c =
    on_err c.from_residual.result _ (λ p. sym (enabled_as g.B.Body.left g.B.Scripted.spot p c.args.self.now c.args.action c.requires.ready.1.stands.together.seats) ∙ sym c.may_take.ensures ∙ c.if-not-may_take.false)

pub returns-clause-applies : goal.returns-clause-applies
returns-clause-applies g c = λ p x shows carries.
    applied g.B.Body.left g.B.Scripted.runs g.B.Scripted.holds g.B.Scripted.spot g.B.Body.name_of p x c.args.self.now c.take.new.self c.args.action c.in_ok-event.event c.args.body c.requires.ready.1.stands c.in_ok-event.ensures.stands.0 shows c.in_ok-event.ensures.keeps
    carries (c.in_ok-event.ensures.takes p shows.config shows.performs)

pub returns-in_err-event-clause-asked : goal.returns-in_err-event-clause-asked
returns-in_err-event-clause-asked g c = asked_again g.B.Body.left g.B.Scripted.spot c.requires.ready.0 c.args.self.now c.take.new.self (asked c.args.self.now c.requires.ready.1.stands) c.in_err-event.ensures.same
