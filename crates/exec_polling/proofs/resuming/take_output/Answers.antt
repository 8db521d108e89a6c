use Rattle.std.proofs.Common.{◌≡◌, ◌++◌, Some, refl, sym, ap, ◌∙◌, option_to_list}
use Rattle.exec_request.specs.declared.output.RequestOutput.{RequestOutput}
use Rattle.exec_waiters.specs.{Events.seen_by, States.may_be_seen, declared.waiter.Entry.{Entry}}
use Rattle.exec_time.specs.declared.timers.Observation.{Observation}
use Rattle.exec_task.specs.declared.body.Said.{Said}
use Rattle.exec_machine.specs.declared.state.{RequestPhase.TheVariants.Resolved, Waiting.Waiting}
use Rattle.exec_parts.{specs.{Records.{numbers_held, outcome_in}, declared.parts.task_slot.TaskSlot.TaskSlot}, proofs.{Facts.same_Some, MailLets.found_at}}
use Rattle.exec_polling.proofs.resuming.take_output.Goals as goal

same_output : (a b : RequestOutput) → Observation.Ready a ≡ Observation.Ready b → a ≡ b
same_output a b same = cc (same)

pub unreachable-requires : goal.unreachable-requires
unreachable-requires g c =
    let r = c.index_mut-record.result.now in
    let ready = c.requires.ready r (found_at c.args.shared.now.requests.items c.args.request r c.requires.known c.index_mut-record.ensures.value) in
    c.in_default.not-Some ready.outcome (c.outcome.ensures ∙ ap outcome_in ready.is)

pub observe-requires : goal.observe-requires
observe-requires g c =
    let r = c.index_mut-record.result.now in
    let ready = c.requires.ready r (found_at c.args.shared.now.requests.items c.args.request r c.requires.known c.index_mut-record.ensures.value) in
    record { watched = ap may_be_seen ready.kept }

pub unreachable-requires-in_default-observe : goal.unreachable-requires-in_default-observe
unreachable-requires-in_default-observe g c =
    let r = c.index_mut-record.result.now in
    let ready = c.requires.ready r (found_at c.args.shared.now.requests.items c.args.request r c.requires.known c.index_mut-record.ensures.value) in
    c.in_default-observe.not-Ready ready.output (c.observe.ensures.answer ∙ ap (seen_by (record { 0 = 0 })) ready.kept)

pub returns : goal.returns
returns g c =
    let s = c.args.shared.now in
    let r = c.index_mut-record.result.now in
    let at_request = found_at s.requests.items c.args.request r c.requires.known c.index_mut-record.ensures.value in
    let ready = c.requires.ready r at_request in
    let o = c.index_mut-slot.result.now in
    let there = found_at s.tasks.items c.args.task o c.requires.there c.index_mut-slot.ensures.value in
    let same = same_Some c.in-Some.outcome ready.outcome (sym c.in-Some.is ∙ c.outcome.ensures ∙ ap outcome_in ready.is) in
    let fewer = c.let_go.new.self in
    let step : c.take.new.self ≡ record o { held = fewer.held; waiting = Waiting.Nothing; told = Some (Said.Output c.in-Ready.output) } =
    c.take.ensures ∙ ap (λ (x : TaskSlot g.row.B.Denot). record x { waiting = Waiting.Nothing; told = Some (Said.Output c.in-Ready.output) }) c.let_go.ensures.same in
    let held = ap (λ (x : TaskSlot g.row.B.Denot). x.held) step in
    record {
      took = record {
        slot = o;
        slot' = c.take.new.self;
        there = there;
        r = r;
        request = at_request;
        outcome = c.in-Some.outcome;
        is = ready.is ∙ ap (λ x. Resolved x) (sym same);
        event = refl;
        worker = refl;
        driver = c.observe.ensures.taken;
        punctual = c.observe.ensures.punctual;
        requests = refl;
        tasks = refl;
        kept = refl;
        output = c.in-Ready.output;
        stood = ready.kept ∙ ap (λ o. Some (Entry.Ready o)) (same_output ready.output c.in-Ready.output (sym (c.observe.ensures.answer ∙ ap (seen_by (record { 0 = 0 })) ready.kept) ∙ c.in-Ready.is));
        took = step ∙ ap (λ h. record o { held = h; waiting = Waiting.Nothing; told = Some (Said.Output c.in-Ready.output) }) (sym held);
        all = ap (λ h. h.items) held ∙ c.let_go.ensures.all;
        newest = c.let_go.result;
        some = c.let_go.ensures.some (c.requires.holds o there);
        held = c.let_go.ensures.held ∙ ap (λ h. numbers_held h.items ++ option_to_list c.let_go.result) (sym held);
      };
    }
