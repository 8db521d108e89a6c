use Rattle.std.proofs.Common.{false, refl, sym, ap, ◌∙◌}
use Rattle.exec_request.{specs.{Judging.{judged_as, judged_alone}, States.as_answer, Views.{connect_asked, no_bytes}}, proofs.Judging.{judges, cursor_next-plain}}
use Rattle.exec_outcomes.specs.declared.outcome.Kind.{Kind as kind}
use Rattle.exec_request.proofs.connect.ConnectRequest.on_cqe.Goals as goal

pub returns : goal.returns
returns c =
    let asked = connect_asked c.args.self.now in
    judges asked no_bytes no_bytes (judged_as false c.args.state c.args.given) (as_answer c.judge.result)
    (c.judge.ensures ∙ ap (λ b. judged_alone kind.Connect 1 false b c.args.given) c.is_cancelled.ensures)
    (sym (cursor_next-plain asked 0 false false (judged_as false c.args.state c.args.given) (λ x. refl))) (λ h. h)
