use Rattle.std.proofs.Common.{inr}
use Rattle.exec_run.proofs.StepLemmas.{IsTaken, line_broken, line_taken, on_err}
use Rattle.exec_run.proofs.stepping.take_line.Goals as goal

pub returns-clause-takes : goal.returns-clause-takes
returns-clause-takes g c =
    let taken : IsTaken g.B.Body.left g.B.Scripted.runs g.B.Scripted.holds g.B.Scripted.spot (g.S.Scripts.knows c.args.scripts.now) g.B.Body.name_of c.args.core.now c.apply.new.self c.args.action c.body_of.result c.in_ok-line.line =
    record { applies = c.in_ok-line.ensures.applies; ready = c.in_ok-line.ensures.ready; carries = c.body_of.ensures } in
    line_taken g.B.Body.left g.B.Scripted.runs g.B.Scripted.holds g.B.Scripted.spot (g.S.Scripts.knows c.args.scripts.now) g.B.Body.name_of c.args.quiet c.args.core.now c.apply.new.self c.args.action c.body_of.result c.in_ok-line.line _ _ taken c.in_ok-tell_line.ensures.ok

pub returns-in_err-tell_line-clause-breaks : goal.returns-in_err-tell_line-clause-breaks
returns-in_err-tell_line-clause-breaks g c =
    let taken : IsTaken g.B.Body.left g.B.Scripted.runs g.B.Scripted.holds g.B.Scripted.spot (g.S.Scripts.knows c.args.scripts.now) g.B.Body.name_of c.args.core.now c.apply.new.self c.args.action c.body_of.result c.in_ok-line.line =
    record { applies = c.in_ok-line.ensures.applies; ready = c.in_ok-line.ensures.ready; carries = c.body_of.ensures } in
    on_err c.from_residual-in_err-tell_line.result
    (λ p x stands names. inr (line_broken g.B.Body.left g.B.Scripted.runs g.B.Scripted.holds g.B.Scripted.spot (g.S.Scripts.knows c.args.scripts.now) g.B.Body.name_of c.args.quiet c.args.core.now c.apply.new.self c.args.action c.body_of.result c.in_ok-line.line _ _ taken c.in_err-tell_line.ensures.front p x stands names))
