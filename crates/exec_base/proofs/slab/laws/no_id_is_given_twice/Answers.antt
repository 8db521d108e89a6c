use Rattle.exec_base.proofs.Runs.{none_twice}
use Rattle.exec_base.proofs.slab.laws.no_id_is_given_twice.Goals as goal

pub returns : goal.returns
returns c = none_twice
