use Rattle.std.proofs.Common.{refl, ap}
use Rattle.exec_core.proofs.Taking.{begun_within, read_there}
use Rattle.exec_core.proofs.executor.Core.end_poll.Goals as goal

pub end_poll-requires : goal.end_poll-requires
end_poll-requires g c =
    let was = read_there c.args.self.now.workers.items c.args.worker c.index_mut.result.now (begun_within c.args.self.now c.args.worker c.requires.stands c.requires.enabled) c.index_mut.ensures.value in
    record { sound = (c.requires.stands.together.sound c.args.worker c.index_mut.result.now was).1 }

pub returns-clause-ends : goal.returns-clause-ends
returns-clause-ends g c =
    let was = read_there c.args.self.now.workers.items c.args.worker c.index_mut.result.now (begun_within c.args.self.now c.args.worker c.requires.stands c.requires.enabled) c.index_mut.ensures.value in
    record {
      before = c.index_mut.result.now;
      after = c.end_poll.new.worker;
      was = was;
      workers = refl;
      callers = refl;
      spent = refl;
      own = c.end_poll.ensures.own;
      desk_is = c.end_poll.ensures.desk;
      index = c.end_poll.ensures.index;
      config = ap (λ x. x.config) c.end_poll.ensures.kept;
      tasks = ap (λ x. x.tasks) c.end_poll.ensures.kept;
      sound = c.end_poll.ensures.sound;
      beside = c.end_poll.ensures.beside;
      things = c.end_poll.ensures.things;
      common = c.end_poll.ensures.common;
    }
