use Rattle.exec_text.proofs.Numbers.{number_fields}
use Rattle.exec_text.proofs.number.next_number.Goals as goal

pub returns-in_err-number-clause-none : goal.returns-in_err-number-clause-none
returns-in_err-number-clause-none c =
    let p = c.in_ok-field in
    let f = p.ensures.found in
    rw c.from_residual-in_err-number.ensures (λ n r h. c.in_err-number.ensures.none n h.small (number_fields c.args.bytes.now f.0 p.field.now p.rest.now r n f.1 f.2 h).0)
