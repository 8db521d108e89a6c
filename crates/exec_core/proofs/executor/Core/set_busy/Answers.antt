use Rattle.std.proofs.Common.{refl}
use Rattle.exec_core.proofs.Taking.{begun_within, read_there}
use Rattle.exec_core.proofs.executor.Core.set_busy.Goals as goal

pub set_busy-requires : goal.set_busy-requires
set_busy-requires g c =
    let was = read_there c.args.self.now.workers.items c.args.worker c.index_mut.result.now (begun_within c.args.self.now c.args.worker c.requires.stands c.requires.enabled) c.index_mut.ensures.value in
    record { sound = (c.requires.stands.together.sound c.args.worker c.index_mut.result.now was).1 }

pub returns-clause-sees : goal.returns-clause-sees
returns-clause-sees g c =
    let was = read_there c.args.self.now.workers.items c.args.worker c.index_mut.result.now (begun_within c.args.self.now c.args.worker c.requires.stands c.requires.enabled) c.index_mut.ensures.value in
    record {
      before = c.index_mut.result.now;
      after = c.set_busy.new.worker;
      was = was;
      now = refl;
      workers = refl;
      own = c.set_busy.ensures.own;
      desk = c.set_busy.ensures.desk;
      seen = c.set_busy.ensures.seen;
      index = c.set_busy.ensures.index;
      sound = c.set_busy.ensures.sound;
      beside = c.set_busy.ensures.beside;
    }
