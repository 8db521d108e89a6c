use Rattle.std.proofs.Common.{refl, ap, ◌∙◌}
use Rattle.exec_base.specs.Slab.{value_at}
use Rattle.exec_waiters.specs.States.{is_held_at}
use Rattle.exec_registration.proofs.Unheld.{let_go_unheld, timer_gone}
use Rattle.exec_registration.proofs.mail.Cancel.apply.Goals as goal

pub returns-in-Timer-clause-unheld : goal.returns-in-Timer-clause-unheld
returns-in-Timer-clause-unheld g c =
    rw c.in-Timer.is (timer_gone c.args.home.now.timers _ c.in-Timer.id.0 (value_at c.args.home.now.timers c.in-Timer.id.0) refl (λ sleeper at. (c.cancel.ensures.cancelled sleeper at).0) (λ none. (c.cancel.ensures.gone none).0))

pub returns-in-Waiter-clause-unheld : goal.returns-in-Waiter-clause-unheld
returns-in-Waiter-clause-unheld g c = rw c.in-Waiter.is (ap (λ d. is_held_at (value_at d.requests c.in-Waiter.id.0)) c.orphan.ensures.let_go ∙ let_go_unheld _ c.in-Waiter.id)
