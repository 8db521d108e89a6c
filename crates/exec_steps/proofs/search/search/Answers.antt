use Rattle.std.proofs.Common.{refl}
use Rattle.exec_invariants.proofs.Counting.{count_fits}
use Rattle.exec_steps.proofs.Searching.{search_count_added, search_count_loaded}
use Rattle.exec_steps.proofs.search.search.Goals as goal

pub returns-in-LoadSearchCount : goal.returns-in-LoadSearchCount
returns-in-LoadSearchCount g c = record { steps = search_count_loaded _ _ _ _ _ _ (rw c.in-LoadSearchCount.is at c.requires.sound) (c.load_search_count.ensures.makes c.args.shared.now.config refl) c.load_search_count.ensures.goes }

pub add_search_count-requires : goal.add_search_count-requires
add_search_count-requires g c = record { few = count_fits c.args.worker.now c.args.shared.now c.requires.whole c.requires.sound.config.few }

pub returns-in-AddSearchCount : goal.returns-in-AddSearchCount
returns-in-AddSearchCount g c = record { steps = search_count_added _ _ _ _ _ _ _ (rw c.in-AddSearchCount.is at c.requires.sound) c.add_search_count.ensures.makes c.add_search_count.ensures.same c.add_search_count.ensures.idle }
