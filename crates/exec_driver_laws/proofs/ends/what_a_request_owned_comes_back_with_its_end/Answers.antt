use Rattle.exec_driver_laws.proofs.Outputs.{by_end, by_cancel, by_expiry, by_enrolment, by_admission, by_orphan, by_close, over_before}
use Rattle.exec_driver_laws.proofs.ends.what_a_request_owned_comes_back_with_its_end.Goals as goal

pub returns : goal.returns
returns g c = record { over_or_granted = by_end; cancelled = by_cancel; expired = by_expiry; enrolled = by_enrolment; admitted = by_admission; let_go = by_orphan; closed = by_close; over_before = over_before }
