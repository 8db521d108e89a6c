use Rattle.std.proofs.Common.{◌≡◌, ℕ, ◌-◌, ◌≤◌, Bool, true, false, sym, arith, if◌then◌else◌}
use Rattle.exec_outcomes.specs.{declared.outcome.{Kind.TheVariants.{Fill, Recv}, OpResult.OpResult}, Outcomes.outcome_next}
use Rattle.exec_request.{specs.Judging.judged_alone, proofs.Left.outcome-left}
use Rattle.exec_request.proofs.recv.RecvRequest.judge.Goals as goal

-- what is left of either kind of receive decides
by_left : (exact c : Bool) (start offset len : ℕ) (given : OpResult) → start ≤ offset →
    judged_alone (if exact then Fill else Recv) (len - offset) false c given
    ≡ outcome_next (record { kind = if exact then Fill else Recv; length = len - start; skip = 0 }) (record { moved = offset - start; switched = false; hinted = false }) (record { result = given; hinted = false; cancelled = c })
by_left true c start offset len given begun = sym (outcome-left Fill (len - start) 0 (len - offset) (offset - start) false false (omega arith) (record { result = given; hinted = false; cancelled = c }))
by_left false c start offset len given begun = sym (outcome-left Recv (len - start) 0 (len - offset) (offset - start) false false (omega arith) (record { result = given; hinted = false; cancelled = c }))

pub returns : goal.returns
returns c = grind (arith, by_left)
