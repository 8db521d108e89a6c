use Rattle.std.{proofs.Common.{◌≡◌, ◌&&◌, not, Bool, refl, sym, ap, ◌∙◌, slice_set}, specs.Vec.with_item}
use Rattle.exec_parts.{specs.{Ending.ends_by_clear, Phased.is_complete, Pooled.cleared_slot, Things.TurnsSlot, declared.parts.{shared.Shared.Shared, task_slot.TaskSlot.TaskSlot}}, proofs.{Facts.same_Some, MailLets.found_at}}
use Rattle.exec_closing.proofs.clearing.clear.Goals as goal

both : (a b c d : Bool) → a ≡ b → c ≡ d → (a && not c) ≡ (b && not d)
both a b c d same also = ap (λ x. x && not c) same ∙ ap (λ y. b && not y) also

pub let_go_if-requires : goal.let_go_if-requires
let_go_if-requires g c =
    let s = c.args.shared.now in
    let t = c.args.task in
    let o = c.index_mut-slot.result.now in
    let there = found_at s.tasks.items t o c.requires.may.there c.index_mut-slot.ensures.value in
    let mid : Shared g.row.B.Denot = record s { tasks = with_item s.tasks t c.clear.new.self } in
    let is : TurnsSlot {B = g.row.B.Denot} t s mid cleared_slot = record { kept = refl; tasks = λ slot found. ap (slice_set s.tasks.items t) (c.clear.ensures ∙ ap (λ (x : TaskSlot g.row.B.Denot). cleared_slot x) (same_Some o slot (sym there ∙ found))) } in
    let same : (c.is_over.result && not c.is_over-was.result) ≡ ends_by_clear o = both c.is_over.result (is_complete (cleared_slot o).cell.phase) c.is_over-was.result (is_complete o.cell.phase) (c.is_over.ensures ∙ ap (λ (x : TaskSlot g.row.B.Denot). is_complete x.cell.phase) c.clear.ensures) c.is_over-was.ensures in
    record { may = λ h. c.requires.may.lets o there (sym (c.ends_so-over.ensures ∙ same) ∙ h) mid is }

pub returns-clause-clears : goal.returns-clause-clears
returns-clause-clears g c =
    let s = c.args.shared.now in
    let t = c.args.task in
    let o = c.index_mut-slot.result.now in
    let there = found_at s.tasks.items t o c.requires.may.there c.index_mut-slot.ensures.value in
    let same : (c.is_over.result && not c.is_over-was.result) ≡ ends_by_clear o = both c.is_over.result (is_complete (cleared_slot o).cell.phase) c.is_over-was.result (is_complete o.cell.phase) (c.is_over.ensures ∙ ap (λ (x : TaskSlot g.row.B.Denot). is_complete x.cell.phase) c.clear.ensures) c.is_over-was.ensures in
    let all = c.ends_so-over.ensures ∙ same in
    record {
      slot = o;
      there = there;
      mid = record s { tasks = with_item s.tasks t c.clear.new.self };
      cleared_is = record { kept = refl; tasks = λ slot found. ap (slice_set s.tasks.items t) (c.clear.ensures ∙ ap (λ (x : TaskSlot g.row.B.Denot). cleared_slot x) (same_Some o slot (sym there ∙ found))) };
      v = c.let_go_if.new.self;
      over = λ h. c.let_go_if.ensures.lets (all ∙ h);
      still = λ h. (c.let_go_if.ensures.same (all ∙ h), c.let_go_if.ensures.kept (all ∙ h));
      worker = ap (λ p. record c.let_go_if.new.self { place = p }) c.after_cancels-worker.ensures;
    }
