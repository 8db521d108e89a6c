use Rattle.std.proofs.{Common.{rules, ◌≡◌, ◌<◌, ◌&&◌, ℕ, Bool, List, [], ◌∷◌, length, get_or, Some, refl, sym, ap, subst, ◌∙◌}, lemmas.Option.slice_get-get_or}
use Rattle.exec_waiters.specs.declared.waiter_id.WaiterId.{WaiterId}
use Rattle.exec_lists.specs.Lists.{first_of}
use Rattle.exec_machine.specs.{declared.state.RequestPhase.RequestPhase, Requests.asks_hint}
use Rattle.exec_parts.specs.{declared.parts.{record.Record.Record, worker.Worker.Worker}, Records.number_in}
use Rattle.exec_invariants.{specs.Submitting.{AreNamed, staged_with, takes_hint}, proofs.LeafRecords.set_changes}
use Rattle.exec_serving.proofs.submitting.stage.Goals as goal
use Rattle.exec_serving.proofs.submitting.stage.Goals.{then-asks_hint, else-asks_hint}

first_named : (numbers : List ℕ) (ids : List WaiterId) (rs : List Record) (id : WaiterId) → first_of ids ≡ Some id → AreNamed numbers ids rs → number_in numbers id.0 < length rs
first_named numbers [] rs id first named = absurd (cc)
first_named numbers (x ∷ ids) rs id first named =
    let is : x ≡ id = cc in
    subst (λ y. number_in numbers y.0 < length rs) is named.0

pub returns-clause-stages : goal.returns-clause-stages
returns-clause-stages g c = λ id first.
    let w : Worker = c.args.worker.now in
    let rs = c.args.shared.now.requests.items in
    let k = number_in w.names.requests.items id.0 in
    let o = c.index_mut-record.result.now in
    let is : c.in-Some.id ≡ id = cc (c.in-Some.ensures.first, first) in
    let number : c.request-request.result ≡ k = c.request-request.ensures ∙ ap (λ (x : WaiterId). number_in w.names.requests.items x.0) is in
    let there = slice_get-get_or rs k o (first_named w.names.requests.items w.home.driver.lists.queued rs id first c.requires.named) in
    let q : Record = o in
    let takes = takes_hint c.args.shared.now.opens q.shown.operation.target in
    let hinted : c.if-asks_hint.hinted ≡ (asks_hint q.shown.operation && q.shown.operation.unrefused && takes) =
    elim c.if-asks_hint.branch as (λ b. c.if-asks_hint.hinted ≡ (asks_hint q.shown.operation && q.shown.operation.unrefused && takes)) [
      | then-asks_hint w ↦ w.hinted-is ∙ w.has_hint-hinted.ensures ∙ ap (λ b. b && takes) (sym w.if-asks_hint.true ∙ c.asks_hint.ensures)
      | else-asks_hint w ↦ w.hinted-is ∙ w.if-asks_hint.false ∙ ap (λ b. b && takes) (sym w.if-asks_hint.false ∙ c.asks_hint.ensures)
    ] in
    let shown : c.stage-3.new.self.shown ≡ (staged_with c.args.shared.now.opens o).shown =
    c.stage-3.ensures.shown ∙ ap (λ (h : Bool). record q.shown { operation = record q.shown.operation { hinted = h }; phase = RequestPhase.Staged }) hinted in
    record {
      event = search rules;
      driver = search rules;
      staged = search rules;
      records = set_changes rs k c.request-request.result (get_or rs k o) o c.stage-3.new.self (staged_with c.args.shared.now.opens) number there c.index_mut-record.ensures.value c.stage-3.ensures.id shown c.stage-3.ensures.sent refl refl;
      worker = search rules;
      shared = search rules;
    }
