use Rattle.std.proofs.Common.{◌≡◌, ◌+◌, ℕ, false, refl, sym, ap, ◌∙◌}
use Rattle.exec_outcomes.specs.Outcomes.{Cursor, outcome_next, bytes_of}
use Rattle.exec_request.{specs.{Buffers.moved_of, Judging.judged_as, States.as_answer, Views.{send_asked, send_cursor}}, proofs.Judging.{judges, cursor_next-plain}}
use Rattle.exec_request.proofs.send.SendRequest.on_cqe.Goals as goal

pub returns-clause-judges : goal.returns-clause-judges
returns-clause-judges c =
    let s = c.args.self.now in
    let asked = send_asked s in
    let before = send_cursor s in
    let at : ℕ → Cursor = λ n. record { moved = n; switched = false; hinted = false } in
    let moved : moved_of c.advance.new.self ≡ moved_of s.write + bytes_of c.args.given = c.advance.ensures.moved ∙ ap (λ n. moved_of s.write + n) c.counted_by.ensures in
    judges asked before (at (moved_of c.advance.new.self)) (judged_as false c.args.state c.args.given) (as_answer c.judge-outcome.result)
    (c.judge-outcome.ensures ∙ ap (λ b. outcome_next asked before (record { result = c.args.given; hinted = false; cancelled = b })) c.is_cancelled.ensures)
    (ap at moved ∙ sym (cursor_next-plain asked (moved_of s.write) false false (judged_as false c.args.state c.args.given) (λ x. refl))) (λ h. h)
