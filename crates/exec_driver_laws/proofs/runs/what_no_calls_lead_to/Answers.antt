use Rattle.exec_driver_laws.proofs.Synced.{not_left, not_two, not_back, not_misplaced, fails_until, not_longer}
use Rattle.exec_driver_laws.proofs.runs.what_no_calls_lead_to.Goals as goal

pub returns : goal.returns
returns c = record { untold = not_left; two_drivers = not_two; comes_back = not_back; misplaced = not_misplaced; kept = fails_until; set_between = not_longer }
