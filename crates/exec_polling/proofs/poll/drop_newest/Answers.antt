use Rattle.std.{proofs.Common.{◌≡◌, ◌++◌, Some, refl, sym, ap, subst, ◌∙◌, option_to_list}, specs.Vec.with_item}
use Rattle.exec_task.specs.declared.body.Said.{Said}
use Rattle.exec_parts.{specs.{Awaits.{DropsRequest, newest_of}, Records.numbers_held, declared.parts.task_slot.TaskSlot.TaskSlot}, proofs.{Facts.same_Some, MailLets.found_at}}
use Rattle.exec_polling.proofs.poll.drop_newest.Goals as goal

pub drop_request-requires : goal.drop_request-requires
drop_request-requires g c =
    let s = c.args.shared.now in
    let k = c.in-Some.request in
    let o = c.index.result.now in
    let newest = c.requires.newest o (found_at s.tasks.items c.args.task o c.requires.there c.index.ensures) k (sym c.newest.ensures ∙ c.in-Some.is) in
    let r = c.index-2.result.now in
    record {
      there = c.requires.there;
      holds = newest.holds;
      may = newest.may r (found_at s.requests.items k r newest.known c.index-2.ensures) c.if-other-worker.true;
    }

pub returns-then-other-worker : goal.returns-then-other-worker
returns-then-other-worker g c =
    let w = c.args.worker.now in
    let s = c.args.shared.now in
    let o = c.index.result.now in
    let there = found_at s.tasks.items c.args.task o c.requires.there c.index.ensures in
    let r = c.index-2.result.now in
    let has = c.requires.newest o there c.in-Some.request (sym c.newest.ensures ∙ c.in-Some.is) in
    let at_r = found_at s.requests.items c.in-Some.request r has.known c.index-2.ensures in
    record {
      drops = λ slot found k newest.
          let same = same_Some o slot (sym there ∙ found) in
          let number = same_Some c.in-Some.request k (sym c.in-Some.is ∙ c.newest.ensures ∙ ap (λ (x : TaskSlot g.row.B.Denot). newest_of x) same ∙ newest) in
          subst (λ x. DropsRequest {B = g.row.B.Denot} c.args.task x w c.drop_request.new.worker s c.drop_request.new.shared c.drop_request.result) number
          (record { r = r; request = at_r; here = λ mine. c.drop_request.ensures.drops; elsewhere = λ other. absurd (other c.if-other-worker.true) });
    }

pub send-requires : goal.send-requires
send-requires g c =
    let s = c.args.shared.now in
    let k = c.in-Some.request in
    let o = c.index.result.now in
    let newest = c.requires.newest o (found_at s.tasks.items c.args.task o c.requires.there c.index.ensures) k (sym c.newest.ensures ∙ c.in-Some.is) in
    let r = c.index-2.result.now in
    let may = newest.tells r (found_at s.requests.items k r newest.known c.index-2.ensures) c.if-other-worker.false in
    record { may = record { there = may.there; place = may.place } }

pub returns : goal.returns
returns g c =
    let w = c.args.worker.now in
    let s = c.args.shared.now in
    let o = c.index.result.now in
    let there = found_at s.tasks.items c.args.task o c.requires.there c.index.ensures in
    let r = c.index-2.result.now in
    let has = c.requires.newest o there c.in-Some.request (sym c.newest.ensures ∙ c.in-Some.is) in
    let at_r = found_at s.requests.items c.in-Some.request r has.known c.index-2.ensures in
    let o' = c.index_mut-slot.result.now in
    let there' = found_at s.tasks.items c.args.task o' c.requires.there c.index_mut-slot.ensures.value in
    let step : c.tell.new.self ≡ record o' { held = c.let_go.new.self.held; told = Some Said.Pass } = c.tell.ensures ∙ ap (λ (x : TaskSlot g.row.B.Denot). record x { told = Some Said.Pass }) c.let_go.ensures.same in
    let held = ap (λ (x : TaskSlot g.row.B.Denot). x.held) step in
    record {
      drops = λ slot found k newest.
          let same = same_Some o slot (sym there ∙ found) in
          let number = same_Some c.in-Some.request k (sym c.in-Some.is ∙ c.newest.ensures ∙ ap (λ (x : TaskSlot g.row.B.Denot). newest_of x) same ∙ newest) in
          subst (λ x. DropsRequest {B = g.row.B.Denot} c.args.task x w c.send.new.self s c.send.new.shared c.send.result) number
          (record {
            r = r;
            request = at_r;
            here = λ mine. absurd (c.if-other-worker.false mine);
            elsewhere = λ other. record {
              middle = record s { tasks = with_item s.tasks c.args.task c.tell.new.self };
              forgets = record {
                slot = o';
                slot' = c.tell.new.self;
                there = there';
                took = step ∙ ap (λ h. record o' { held = h; told = Some Said.Pass }) (sym held);
                all = ap (λ h. h.items) held ∙ c.let_go.ensures.all;
                newest = c.let_go.result;
                some = c.let_go.ensures.some (has.holds o' there');
                held = c.let_go.ensures.held ∙ ap (λ h. numbers_held h.items ++ option_to_list c.let_go.result) (sym held);
                tasks = refl;
                kept = refl;
              };
              sends = c.send.ensures.sends;
            };
          });
    }
