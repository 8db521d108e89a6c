use Rattle.std.proofs.Common.{length}
use Rattle.exec_live_tests.proofs.idle.play.play.Given as goal

abbrev pub decreases-loop-player : goal.decreases-loop-player
decreases-loop-player g l = length l.players.items
