use Rattle.std.{proofs.Common.{◌≡◌, ◌++◌, Some, refl, sym, ap, subst, ◌∙◌, option_to_list}, specs.Vec.with_item}
use Rattle.exec_task.specs.declared.body.Said.{Said}
use Rattle.exec_parts.{specs.{Awaits.LetsGo, Records.numbers_held, declared.parts.{task_slot.TaskSlot.TaskSlot, worker.Worker.Worker}}, proofs.MailLets.found_at}
use Rattle.exec_polling.proofs.registering.drop_request.Goals as goal

pub returns : goal.returns
returns g c =
    let w = c.args.worker.now in
    let s = c.args.shared.now in
    let v = c.orphan_request.new.self in
    let middle = record s { tasks = with_item s.tasks c.args.task c.tell.new.self } in
    let lets = c.orphan_request.ensures.lets in
    let o = c.index_mut-slot.result.now in
    let there = found_at s.tasks.items c.args.task o c.requires.there c.index_mut-slot.ensures.value in
    let step : c.tell.new.self ≡ record o { held = c.let_go.new.self.held; told = Some Said.Pass } = c.tell.ensures ∙ ap (λ (x : TaskSlot g.row.B.Denot). record x { told = Some Said.Pass }) c.let_go.ensures.same in
    let held = ap (λ (x : TaskSlot g.row.B.Denot). x.held) step in
    record {
      drops = record {
        event = refl;
        middle = record s { tasks = with_item s.tasks c.args.task c.tell.new.self };
        forgets = record {
          slot = o;
          slot' = c.tell.new.self;
          there = there;
          took = step ∙ ap (λ h. record o { held = h; told = Some Said.Pass }) (sym held);
          all = ap (λ h. h.items) held ∙ c.let_go.ensures.all;
          newest = c.let_go.result;
          some = c.let_go.ensures.some (c.requires.holds o there);
          held = c.let_go.ensures.held ∙ ap (λ h. numbers_held h.items ++ option_to_list c.let_go.result) (sym held);
          tasks = refl;
          kept = refl;
        };
        lets = subst (λ (x : Worker). LetsGo {B = g.row.B.Denot} c.args.request w x (record s { tasks = with_item s.tasks c.args.task c.tell.new.self }) c.orphan_request.new.shared) (ap (λ p. record v { place = p }) (ap (λ (y : Worker). y.place) lets.worker)) lets;
        place = refl;
      };
    }
