use Rattle.std.proofs.Common.{◌∙◌, sym, take, drop, arith}
use Rattle.exec_run.proofs.Names.{common_steps, take-append-drop, given_more}
use Rattle.exec_run.proofs.writing.give_all.Goals as goal

pub rests-preserved : goal.rests-preserved
rests-preserved g c = grind (arith, common_steps, given_more)

pub returns-in-Err-clause-front : goal.returns-in-Err-clause-front
returns-in-Err-clause-front g c =
    record {
      out = take c.rests.at c.args.bytes.now;
      rest = drop c.rests.at c.args.bytes.now;
      begins = sym (take-append-drop c.rests.at c.args.bytes.now);
      gave = c.in-Err.ensures.kept_when_failed ∙ c.rests.invariant.gave;
    }
