use Rattle.std.proofs.Common.{refl, sym, subst}
use Rattle.exec_invariants.specs.Admitting.{MakesRoom}
use Rattle.exec_polling.proofs.registering.make_sleeper.Goals as goal

pub returns-in_default-clause-kept : goal.returns-in_default-clause-kept
returns-in_default-clause-kept g c =
    let mid = c.make_room_for_sleep.new.worker in
    λ task within. subst (λ x. MakesRoom task (λ slot. slot.told) c.args.worker.now (record mid { home = record mid.home { timers = x } }) c.args.shared.now c.make_room_for_sleep.new.shared) (sym c.in_default.ensures.kept) (c.in_ok-make_room_for_sleep.ensures.kept task within)

pub returns-clause-made : goal.returns-clause-made
returns-clause-made g c =
    λ task within. record {
      mid = c.make_room_for_sleep.new.worker;
      rooms = c.in_ok-make_room_for_sleep.ensures.kept task within;
      has = c.in_ok-make_room_for_sleep.ensures.room;
      driver = c.in_ok-make_room_for_sleep.ensures.driver;
      store = c.in_ok-make_room_for_sleep.ensures.store;
      next = c.in-Ok.ensures.id;
      timers = c.in-Ok.ensures.inserted;
      unnamed = c.in-Ok.ensures.never_before;
      past = c.in-Ok.ensures.never_again;
      worker = refl;
    }
