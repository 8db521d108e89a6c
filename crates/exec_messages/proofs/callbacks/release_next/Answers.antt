use Rattle.std.proofs.{Common.{◌-◌, ap, arith, length, length-drop, sym, ◌∙◌}, lemmas.Grind.elements}
use Rattle.exec_messages.proofs.callbacks.release_next.Goals as goal

pub returns-clause-told : goal.returns-clause-told
returns-clause-told g c = λ live told.
    let w = c.args.worker.now in
    let ended = ap length c.release.ensures.ended ∙ length-drop 1 w.names.ended.items in
    let left = ap length c.pop_front.ensures.rest ∙ length-drop 1 w.home.deferred.resources.items in
    let room = told.room in
    record {
      resources = ended ∙ ap (λ n. n - 1) told.resources ∙ sym left;
      room = record { notes = room.notes; outputs = room.outputs; resources = omega (arith, c.pop_front.ensures.len, c.pop_front.ensures.capacity, room.resources); results = room.results };
    }

pub returns-clause-requests : goal.returns-clause-requests
returns-clause-requests g c = grind (arith, elements)
