use Rattle.std.proofs.Common.{◌≡◌, ◌+◌, ◌-◌, ℕ, Bool, true, false, refl, sym, ap, ◌∙◌, arith, if◌then◌else◌}
use Rattle.exec_outcomes.specs.{declared.outcome.{Judged.Judged, Kind.TheVariants.{Recv, Fill}}, Outcomes.{Cursor, Part, outcome_next, bytes_of, passes_on, moves_bytes}}
use Rattle.exec_request.{specs.{Judging.judged_as, States.as_answer, Views.{recv_asked, recv_cursor}}, proofs.Judging.{judges, cursor_next-plain}}
use Rattle.exec_request.proofs.recv.RecvRequest.on_cqe.Goals as goal

-- neither kind of receive has a second part, and both count bytes
one_part : (exact : Bool) (part : Part) (x : Judged × ℕ) → passes_on (if exact then Fill else Recv) part x ≡ false
one_part true part x = refl
one_part false part x = refl

counts : (exact : Bool) → moves_bytes (if exact then Fill else Recv) ≡ true
counts true = refl
counts false = refl

pub returns-clause-judges : goal.returns-clause-judges
returns-clause-judges c =
    let s = c.args.self.now in
    let asked = recv_asked s in
    let before = recv_cursor s in
    let at : ℕ → Cursor = λ n. record { moved = n; switched = false; hinted = false } in
    let n = bytes_of c.args.given in
    let more : (s.offset + c.counted_by.result) - s.start ≡ (s.offset - s.start) + n = omega (arith, c.counted_by.ensures, s.begun) in
    let moved : (s.offset + c.counted_by.result) - s.start ≡ (s.offset - s.start) + (if moves_bytes (if s.exact then Fill else Recv) then n else 0) = more ∙ ap (λ b. (s.offset - s.start) + (if b then n else 0)) (sym (counts s.exact)) in
    judges asked before (at ((s.offset + c.counted_by.result) - s.start)) (judged_as false c.args.state c.args.given) (as_answer c.judge-outcome.result)
    (c.judge-outcome.ensures ∙ ap (λ b. outcome_next asked before (record { result = c.args.given; hinted = false; cancelled = b })) c.is_cancelled.ensures)
    (ap at moved ∙ sym (cursor_next-plain asked (s.offset - s.start) false false (judged_as false c.args.state c.args.given) (λ x. one_part s.exact _ x))) (λ h. h)
