use Rattle.std.proofs.{Common.{◌<◌, length, None, subst, refl, sym, ap, ◌∙◌, slice_set, if◌then◌else◌, arith}, lemmas.Grind.elements}
use Rattle.exec_machine.specs.{declared.event.Event.TheVariants.Orphan, Requests.{ends_by_drop, joined_if}}
use Rattle.exec_parts.{specs.{Records.outcome_in, declared.parts.names.Names.Names}, proofs.MailLets.{dropped_so, found_at}}
use Rattle.exec_closing.proofs.closing.orphan_next.Goals as goal

pub returns : goal.returns
returns g c =
    let w = c.args.worker.now in
    let s = c.args.shared.now in
    let may = c.requires.may in
    let id = c.in-Some.id in
    let first = c.in-Some.ensures.first in
    let k = c.request-request.result in
    let r = c.index_mut-record.result.now in
    let known = subst (λ n. n < length s.requests.items) (sym c.request-request.ensures) (may.known id.0 first) in
    let ended = c.let_go-ended.ensures.ended in
    record {
      orphans = record {
        id = id;
        first = first;
        k = k;
        number = c.request-request.ensures;
        r = r;
        request = found_at s.requests.items k r known c.index_mut-record.ensures.value;
        event = ap (λ o. Orphan k o) (c.outcome_if-outcome.ensures ∙ ap (λ b. if b then outcome_in c.let_go-ended.new.self.shown.phase else None) ended ∙ ap (λ x. if ends_by_drop r.shown then outcome_in x.phase else None) c.let_go-ended.ensures.shown);
        lists = c.lists_requests.ensures;
        driver = c.in-Some.ensures.let_go;
        tells = c.in-Some.ensures.told;
        punctual = c.close.ensures.punctual;
        ended = c.end_if.ensures.ended ∙ ap (λ b. joined_if b w.names.ended.items k) ended;
        capacity = c.end_if.ensures.capacity;
        still = λ h. c.end_if.ensures.still (ended ∙ h);
        worker = ap (λ (n : Names). record w { place = c.next_of_closing-worker.result; names = n; home = record w.home { driver = c.close.new.self; deferred = c.close.new.deferred } }) c.end_if.ensures.same;
        place = c.next_of_closing-worker.ensures;
        records = ap (slice_set s.requests.items k) (dropped_so c.let_go-ended.new.self r c.let_go-ended.ensures.shown c.let_go-ended.ensures.id c.let_go-ended.ensures.sent);
        kept = refl;
      };
    }

pub end_if-requires : goal.end_if-requires
end_if-requires g c = grind (arith, elements)
