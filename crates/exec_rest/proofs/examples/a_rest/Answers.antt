use Rattle.exec_rest.proofs.TwoAsleep.{at_rest, bare, fresh, nothing_waits, placed, posted, restful, shut}
use Rattle.exec_rest.proofs.examples.a_rest.Goals as goal

pub returns : goal.returns
returns c =
    record { restful = restful; posted = posted; placed = placed; bare = bare; shut = shut; fresh = fresh; waits = nothing_waits; at_rest = at_rest }
