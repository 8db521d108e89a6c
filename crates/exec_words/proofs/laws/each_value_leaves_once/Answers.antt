use Rattle.std.proofs.Common.{◌++◌, arith}
use Rattle.exec_words.{specs.QueueRuns.{begun, after_all}, proofs.Runs.{runs_split, count_append}}
use Rattle.exec_words.proofs.laws.each_value_leaves_once.Goals as goal

pub returns : goal.returns
returns c real changes p =
    let h = after_all (begun real) changes in
    omega (arith, (runs_split real changes).once p, count_append p h.front (h.queue.values ++ h.queue.held), count_append p h.queue.values h.queue.held)
