use Rattle.std.proofs.Common.{arith, refl, sym, ap, ◌∙◌}
use Rattle.exec_core.proofs.{Lifting.{same_Some, owned}, Taking.{lands_within, read_there}}
use Rattle.exec_core.proofs.executor.Core.land.Goals as goal

pub land-requires-clause-sound : goal.land-requires-clause-sound
land-requires-clause-sound g c =
    let core = c.args.self.now in
    let it = c.index.result.now in
    let there = read_there core.shared.requests.items c.args.request it (lands_within core c.args.request c.args.given c.requires.enabled) c.index.ensures in
    (c.requires.stands.together.sound it.shown.worker c.index_mut.result.now (read_there core.workers.items it.shown.worker c.index_mut.result.now (owned core c.requires.stands c.args.request it there) c.index_mut.ensures.value)).1

pub land-requires-clause-mine : goal.land-requires-clause-mine
land-requires-clause-mine g c = λ r found.
    let core = c.args.self.now in
    let it = c.index.result.now in
    let there = read_there core.shared.requests.items c.args.request it (lands_within core c.args.request c.args.given c.requires.enabled) c.index.ensures in
    let was = read_there core.workers.items it.shown.worker c.index_mut.result.now (owned core c.requires.stands c.args.request it there) c.index_mut.ensures.value in
    ap (λ x. x.shown.worker) (same_Some r it (sym found ∙ there)) ∙ sym (c.requires.stands.together.sound it.shown.worker c.index_mut.result.now was).0

pub returns-clause-lands : goal.returns-clause-lands
returns-clause-lands g c =
    let core = c.args.self.now in
    let it = c.index.result.now in
    let there = read_there core.shared.requests.items c.args.request it (lands_within core c.args.request c.args.given c.requires.enabled) c.index.ensures in
    record {
      it = it;
      there = there;
      rings = record {
        before = c.index_mut.result.now;
        after = c.land.new.worker;
        was = read_there core.workers.items it.shown.worker c.index_mut.result.now (owned core c.requires.stands c.args.request it there) c.index_mut.ensures.value;
        workers = refl;
        callers = refl;
        spent = refl;
        own = c.land.ensures.own;
        desk_is = c.land.ensures.desk;
        index = c.land.ensures.index;
        config = ap (λ x. x.config) c.land.ensures.kept;
        tasks = ap (λ x. x.tasks) c.land.ensures.kept;
        sound = c.land.ensures.sound;
        beside = c.land.ensures.beside;
        things = c.land.ensures.things;
        common = c.land.ensures.common;
      };
    }

pub index_mut-requires : goal.index_mut-requires
index_mut-requires g c =
    let core = c.args.self.now in
    let it = c.index.result.now in
    let within = owned core c.requires.stands c.args.request it (read_there core.shared.requests.items c.args.request it (lands_within core c.args.request c.args.given c.requires.enabled) c.index.ensures) in
    omega (arith, within)
