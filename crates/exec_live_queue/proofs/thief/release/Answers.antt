use Rattle.exec_live_queue.proofs.{Words.{arith, none, either, step, releases}, Looks.gap_of_word, Releases.releases_rule, Rebuild.stepped}
use Rattle.std.proofs.Common.{arith}
use Rattle.exec_live_queue.proofs.thief.release.Goals as goal

pub compare_exchange-requires : goal.compare_exchange-requires
compare_exchange-requires g c = grind (arith, gap_of_word, stepped, either, releases, step, none, releases_rule)
