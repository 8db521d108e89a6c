use Rattle.std.{specs.{Vec.with_item, declared.alloc.Global.Global}, proofs.{Common.{List, Vec, ap, refl, rules, subst, ◌∙◌}, lemmas.Fn.{filter_same}}}
use Rattle.exec_parts.{specs.{Words.Waiting, Ending.{LetsGoAll, LetsWaiting, others_of}, declared.parts.{held.Held.Held, shared.Shared.Shared}}, proofs.MailLets.{found_at}}
use Rattle.exec_parts.proofs.parts.worker.Worker.let_go_of.Goals as goal

pub returns : goal.returns
returns g c =
    let w = c.args.self.now in
    let s = c.args.shared.now in
    let o = c.index_mut-slot.result.now in
    let first : Shared g.row.B.Denot = record s { tasks = with_item s.tasks c.args.task c.take_held-requests.new.self } in
    let v = c.let_go_held.new.self in
    let now = c.let_go_held.new.shared in
    record {
      lets = record {
        slot = o;
        there = found_at s.tasks.items c.args.task o c.requires.may.there c.index_mut-slot.ensures.value;
        slot' = c.take_held-requests.new.self;
        emptied = c.take_held-requests.ensures.same;
        none = c.take_held-requests.ensures.none;
        first = first;
        kept = refl;
        tasks = refl;
        v = v;
        now = now;
        lets = subst (λ (hs : List Held). LetsGoAll {B = g.row.B.Denot} hs w v first now) (c.deref.ensures.value ∙ ap (λ (x : Vec Held Global). x.items) c.take_held-requests.ensures.all) c.let_go_held.ensures.lets;
        u = c.let_go_of_sleeper-timer.new.self;
        sleeps = subst (λ (x : Waiting). LetsWaiting {B = g.row.B.Denot} x c.let_go_of_sleeper-timer.result v c.let_go_of_sleeper-timer.new.self now c.let_go_of_sleeper-timer.new.shared) c.waiting-waiting.ensures c.let_go_of_sleeper-timer.ensures.lets;
        requests = filter_same _ _ _ (λ x b f' k. search rules) _ _ c.retain.ensures.filtered ∙ ap (λ (x : Vec Held Global). others_of w.index x.items) c.take_held-requests.ensures.all;
        worker = refl;
      };
    }
