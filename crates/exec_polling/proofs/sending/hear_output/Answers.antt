use Rattle.std.proofs.{Common.{◌≡◌, ◌-◌, Some, Ok, length, refl, sym, ap, ◌∙◌, true, take}, lemmas.Bool.false≢true}
use Rattle.exec_base.specs.{OneShot.polled, declared.one_shot.OneShotState.TheVariants.{Closed, Sent}}
use Rattle.exec_task.specs.declared.body.Said.{Said}
use Rattle.exec_machine.specs.declared.state.{RequestPhase.TheVariants.Resolved, Waiting.Waiting}
use Rattle.exec_parts.{specs.{Calls.heard_in, Records.outcome_in, declared.parts.{record.Record.Record, task_slot.TaskSlot.TaskSlot}}, proofs.{Facts.same_Some, MailLets.found_at}}
use Rattle.exec_polling.proofs.sending.hear_output.Goals as goal

pub unreachable-requires : goal.unreachable-requires
unreachable-requires g c =
    let s = c.args.shared.now in
    let k = c.args.request in
    let may = c.requires.may in
    let r = c.index_mut-record.result.now in
    let at_r = found_at s.requests.items k r may.known c.index_mut-record.ensures.value in
    let first = found_at s.requests.items k c.index.result.now may.known c.index.ensures in
    let same = same_Some c.index.result.now r (sym first ∙ at_r) in
    let a = may.answer r at_r (ap (λ (x : Record). x.sent) (sym same) ∙ c.if-not-index.false) in
    c.in_default.not-Some a.outcome (c.outcome.ensures ∙ ap outcome_in a.over)

pub unreachable-requires-in_default-hear_output : goal.unreachable-requires-in_default-hear_output
unreachable-requires-in_default-hear_output g c =
    let s = c.args.shared.now in
    let k = c.args.request in
    let may = c.requires.may in
    let r = c.index_mut-record.result.now in
    let at_r = found_at s.requests.items k r may.known c.index_mut-record.ensures.value in
    let first = found_at s.requests.items k c.index.result.now may.known c.index.ensures in
    let same = same_Some c.index.result.now r (sym first ∙ at_r) in
    let a = may.answer r at_r (ap (λ (x : Record). x.sent) (sym same) ∙ c.if-not-index.false) in
    let o = c.index_mut-slot.result.now in
    let lies = a.lies o (found_at s.tasks.items c.args.task o may.there c.index_mut-slot.ensures.value) in
    c.in_default-hear_output.not-Some (Ok a.output) (c.hear_output.ensures.heard ∙ ap heard_in lies)

pub unreachable-requires-in_default-heard : goal.unreachable-requires-in_default-heard
unreachable-requires-in_default-heard g c =
    let s = c.args.shared.now in
    let k = c.args.request in
    let may = c.requires.may in
    let r = c.index_mut-record.result.now in
    let at_r = found_at s.requests.items k r may.known c.index_mut-record.ensures.value in
    let first = found_at s.requests.items k c.index.result.now may.known c.index.ensures in
    let same = same_Some c.index.result.now r (sym first ∙ at_r) in
    let a = may.answer r at_r (ap (λ (x : Record). x.sent) (sym same) ∙ c.if-not-index.false) in
    let o = c.index_mut-slot.result.now in
    let lies = a.lies o (found_at s.tasks.items c.args.task o may.there c.index_mut-slot.ensures.value) in
    c.in_default-heard.not-Ok a.output (same_Some c.in-Some-hear_output.heard (Ok a.output) (sym c.in-Some-hear_output.is ∙ c.hear_output.ensures.heard ∙ ap heard_in lies))

pub returns : goal.returns
returns g c =
    let w = c.args.worker.now in
    let s = c.args.shared.now in
    let t = c.args.task in
    let k = c.args.request in
    let may = c.requires.may in
    let r = c.index_mut-record.result.now in
    let at_r = found_at s.requests.items k r may.known c.index_mut-record.ensures.value in
    let first = found_at s.requests.items k c.index.result.now may.known c.index.ensures in
    let same = same_Some c.index.result.now r (sym first ∙ at_r) in
    let sent : r.sent ≡ true = ap (λ (x : Record). x.sent) (sym same) ∙ c.if-not-index.false in
    let a = may.answer r at_r sent in
    let o = c.index_mut-slot.result.now in
    let there = found_at s.tasks.items t o may.there c.index_mut-slot.ensures.value in
    let lies = a.lies o there in
    let h = c.hear_output.new.self in
    let l = c.let_go.new.self in
    let heard : h ≡ record o { output = Closed } = c.hear_output.ensures.polled ∙ ap (λ x. record o { output = polled x }) lies in
    let same_out = same_Some (Ok c.in-Ok.output) (Ok a.output) (ap (λ x. Some x) (sym c.in-Ok.is) ∙ sym c.in-Some-hear_output.is ∙ c.hear_output.ensures.heard ∙ ap heard_in lies) in
    let ended = same_Some c.in-Some.outcome a.outcome (sym c.in-Some.is ∙ c.outcome.ensures ∙ ap outcome_in a.over) in
    let took : c.take.new.self ≡ record o { held = l.held; waiting = Waiting.Nothing; told = Some (Said.Output c.in-Ok.output); output = Closed } =
    c.take.ensures ∙ ap (λ (x : TaskSlot g.row.B.Denot). record x { waiting = Waiting.Nothing; told = Some (Said.Output c.in-Ok.output) }) (c.let_go.ensures.same ∙ ap (λ (x : TaskSlot g.row.B.Denot). record x { held = l.held }) heard) in
    let held = ap (λ (x : TaskSlot g.row.B.Denot). x.held) took in
    record {
      hears = record {
        r = r;
        request = at_r;
        heard = λ yes. record {
          slot = o;
          there = there;
          outcome = c.in-Some.outcome;
          over = a.over ∙ ap (λ x. Resolved x) (sym ended);
          event = refl;
          worker = refl;
          output = c.in-Ok.output;
          lies = lies ∙ ap (λ x. Sent x) (sym same_out);
          slot' = c.take.new.self;
          took = took ∙ ap (λ n. record o { held = n; waiting = Waiting.Nothing; told = Some (Said.Output c.in-Ok.output); output = Closed }) (sym held);
          held = ap (λ n. n.items) held ∙ c.let_go.ensures.all ∙ ap (λ (x : TaskSlot g.row.B.Denot). take (length x.held.items - 1) x.held.items) heard;
          tasks = refl;
          requests = refl;
          kept = refl;
        };
        unheard = λ no. absurd (false≢true (sym no ∙ sent));
      };
    }
