use Rattle.std.proofs.Common.{◌==◌, zero, suc, [], unwrap_or, refl, ap}
use Rattle.exec_run.{proofs.Names.{true≢false, false≢true, is_some, is_empty, one_asleep}, specs.Log.KeepOwned}
use Rattle.exec_run.proofs.examples.each_state.Goals as goal

kept : KeepOwned one_asleep.world
kept zero gone = absurd (false≢true gone)
kept (suc k) gone = refl

pub returns : goal.returns
returns c =
    record {
      kept = kept;
      last = λ all. false≢true (all 0 refl);
      before = λ told all. false≢true (all.0 0 refl);
      after = λ said choice all. true≢false (ap (λ n. n == 5) all.1);
      of_no_step = λ told log. false≢true (ap (λ o. is_empty (unwrap_or o [])) log.plays.has_lines);
      no_line = λ log. false≢true (ap is_some log.plays.has_lines);
    }
