use Rattle.std.proofs.Common.{refl, sym, ◌∙◌}
use Rattle.exec_polling.proofs.Growing.{rooms_refused}
use Rattle.exec_polling.proofs.registering.admit.Goals as goal

pub returns-in-Err-clause-kept : goal.returns-in-Err-clause-kept
returns-in-Err-clause-kept g c = rooms_refused c.in-Ok.ensures.kept c.in-Err.ensures.kept c.in-Err.ensures.untold refl refl c.in-Err.ensures.opens

pub returns-in-Ok-admit-clause-admitted : goal.returns-in-Ok-admit-clause-admitted
returns-in-Ok-admit-clause-admitted g c =
    record {
      mid = c.make_room.new.worker;
      all = c.make_room.new.shared;
      rooms = c.in-Ok.ensures.kept;
      has = c.in-Ok.ensures.room;
      driver = c.in-Ok.ensures.driver;
      store = c.in-Ok.ensures.store;
      opened = sym c.has_open.ensures ∙ c.if-not-has_open.false;
      next = c.in-Ok-admit.ensures.id;
      small = c.in-Ok-admit.ensures.slot;
      admits = c.in-Ok-admit.ensures.admits;
      tells = c.in-Ok-admit.ensures.told;
      stored = c.in-Ok-admit.ensures.stored;
      unnamed = c.in-Ok-admit.ensures.never_before;
      named = c.in-Ok-admit.ensures.never_again;
      punctual = c.admit.ensures.punctual;
      lists = c.lists_requests.ensures;
      worker = refl;
      shared = refl;
    }
