use Rattle.std.proofs.Common.{Option, IfSome, subst}
use Rattle.exec_run.{proofs.Names.Request, specs.Asking.{CoversSeen, IsWanted}}
use Rattle.exec_run.proofs.asking.request_of.Goals as goal

pub returns-in-Some-2-clause-some : goal.returns-in-Some-2-clause-some
returns-in-Some-2-clause-some g c =
    λ it is. assumption (subst (λ (o : Option Request). IfSome o (IsWanted c.args.limits it.moment c.args.word)) c.in-Some-2.is (c.in_ok-request-2.ensures.some c.args.limits it.moment), subst (λ (o : Option Request). IfSome o (CoversSeen it)) c.in-Some-2.is (c.in_ok-request-2.ensures.covers it is))
