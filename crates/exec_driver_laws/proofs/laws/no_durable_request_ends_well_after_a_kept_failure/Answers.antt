use Rattle.exec_driver_laws.proofs.{Promises.{fails_at_grant, fails_over}, Failing.{never_well, at_grant, at_reap, failure_stays, fails_on, never_after, told_at_grant, told_at_reap, never_told}}
use Rattle.exec_driver_laws.proofs.laws.no_durable_request_ends_well_after_a_kept_failure.Goals as goal

pub returns : goal.returns
returns g c =
    record {
      granted = fails_at_grant;
      over = fails_over;
      never_well = never_well;
      at_grant = at_grant;
      at_reap = at_reap;
      told_at_grant = told_at_grant;
      told_at_reap = told_at_reap;
      stays = failure_stays;
      fails_on = fails_on;
      never_after = never_after;
      never_told = never_told;
    }
