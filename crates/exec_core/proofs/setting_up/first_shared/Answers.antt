use Rattle.std.{proofs.{Common.{[], ◌∷◌, length, refl, sym, ap, subst, ◌∙◌, append_assoc, append-nil, arith}, lemmas.List.nil_from_length}, specs.Vec.Iter.into_iter_items}
use Rattle.exec_core.{specs.Firsts.HasRoots, proofs.Beginning.{bare_with, root_is, roots_more}}
use Rattle.exec_core.proofs.setting_up.first_shared.Goals as goal

pub loop-root-init : goal.loop-root-init
loop-root-init g c = grind arith

pub loop-root-preserved : goal.loop-root-preserved
loop-root-preserved g c =
    let at = c.loop-root in
    let x = c.in-Some.root in
    let steps = c.in-Some.ensures.steps in
    let tasks = at.shared.tasks in
    let slot = c.new-slot.result.0 in
    let made = c.new-slot.ensures in
    let root = root_is (length tasks.items) c.len-number.result c.id.result x slot (c.len-number.ensures ∙ tasks.ok.0) (c.id.ensures ∙ ap (λ s. s.set.id) at.invariant.bare.parts) made.cell made.slot made.held in
    record {
      split = append_assoc at.yielded (x ∷ []) _ ∙ rw (← steps.0) at.invariant.split;
      len = (let gone = steps.1 in let short = ap length steps.0 in omega (arith, gone, short, at.invariant.len));
      bare = bare_with c.args.configuration (length c.args.roots.items) at.shared _ at.invariant.bare refl;
      rooted = rw (c.in_ok-push.ensures.items, c.in_ok-push-2.ensures.items, c.in_ok-push-3.ensures.items) (roots_more at.yielded at.shared.seats.items tasks.items at.runnables.items x c.in_ok-new.field-0 slot c.new-slot.result.1 at.invariant.rooted c.in_ok-new.ensures.seat root made.runnable);
    }

pub returns : goal.returns
returns g c =
    let at = c.loop-root in
    let none = c.in-None.ensures.steps in
    let empty = nil_from_length (into_iter_items at.root-iterator) (sym at.invariant.len ∙ none.0) in
    let all = sym (append-nil at.yielded) ∙ rw empty at at.invariant.split in
    record { first = record { bare = at.invariant.bare; rooted = subst (λ xs. HasRoots xs at.shared.seats.items at.shared.tasks.items at.runnables.items) all at.invariant.rooted } }
