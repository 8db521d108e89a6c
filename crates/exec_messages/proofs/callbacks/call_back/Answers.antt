use Rattle.std.proofs.{Common.{◌==◌, ◌<◌, ap, drop, length, not, subst, sym, ◌∙◌}, lemmas.Option.slice_get_within}
use Rattle.exec_messages.proofs.{BackAnswers.{last_left, may_send_output, output_sent}, BackEnds.{end_sent, may_send_end}, BackNext.next_woken, MailFrees.{first_of, released_as}, MailOwes.{may_wake_next, none_by, some_by}}
use Rattle.exec_invariants.proofs.MailBack.{output_gone}
use Rattle.exec_messages.proofs.callbacks.call_back.Goals as goal

pub wake_next-requires : goal.wake_next-requires
wake_next-requires g c =
    let w = c.args.worker.now in
    record { may = may_wake_next w c.args.shared.now c.requires.whole (subst (λ n. 0 < n) w.home.deferred.notes.wakes.ok.0 (some_by _ c.is_empty.result c.is_empty.ensures (ap not c.if-not-is_empty.true))) }

pub release_next-requires-clause-there : goal.release_next-requires-clause-there
release_next-requires-clause-there g c = λ n at.
    let found = c.requires.sound.over.over 0 n at in
    slice_get_within c.args.shared.now.requests.items n found.0 found.1

pub returns-then-not-is_empty-2 : goal.returns-then-not-is_empty-2
returns-then-not-is_empty-2 g c =
    let left = c.args.worker.now.home.deferred in
    let is = c.let_go_output.ensures in
    record {
      steps = output_gone g.B.Body.left g.B.Scripted.spot c.args.next c.args.worker.now c.let_go_output.new.worker c.args.shared.now c.let_go_output.result c.requires.sound is.event is.place is.same
          (none_by left.notes.wakes.items c.is_empty.result (c.is_empty.ensures ∙ ap (λ n. n == 0) left.notes.wakes.ok.0) (ap not c.if-not-is_empty.false))
          (subst (λ n. 0 < n) left.outputs.ok.0 (some_by _ c.is_empty-2.result c.is_empty-2.ensures (ap not c.if-not-is_empty-2.true)))
          is.outputs is.told is.wide;
    }

pub returns-then-not-is_empty-3 : goal.returns-then-not-is_empty-3
returns-then-not-is_empty-3 g c =
    let left = c.args.worker.now.home.deferred in
    let is = c.release_next.ensures in
    let some = subst (λ n. 0 < n) left.resources.ok.0 (some_by _ c.is_empty-3.result c.is_empty-3.ensures (ap not c.if-not-is_empty-3.true)) in
    let first = first_of c.args.worker.now.names.ended.items (subst (λ n. 0 < n) (sym c.requires.sound.told.resources) some) in
    record {
      steps = released_as g.B.Body.left g.B.Scripted.spot c.args.next first.0 c.args.worker.now c.release_next.new.worker c.args.shared.now c.release_next.new.shared c.release_next.result c.requires.sound (is.event first.0 first.1) is.place
          (none_by left.notes.wakes.items c.is_empty.result (c.is_empty.ensures ∙ ap (λ n. n == 0) left.notes.wakes.ok.0) (ap not c.if-not-is_empty.false))
          (ap length (none_by left.outputs.items c.is_empty-2.result (c.is_empty-2.ensures ∙ ap (λ n. n == 0) left.outputs.ok.0) (ap not c.if-not-is_empty-2.false)))
          (record { rest = drop 1 c.args.worker.now.names.ended.items; first = first.2; ended = is.ended; capacity = is.capacity; unreleased = is.unreleased; wide = is.wide; told = is.told; worker = is.worker; requests = is.requests first.0 first.1; kept = is.kept; back = λ r at. is.room first.0 r first.1 at });
    }

pub returns-then-not-is_empty : goal.returns-then-not-is_empty
returns-then-not-is_empty g c = record { steps = next_woken _ _ c.args.next _ _ _ _ _ c.requires.sound c.requires.whole c.wake_next.ensures.wakes }

pub send_end-requires : goal.send_end-requires
send_end-requires g c =
    let ends = c.args.worker.now.home.deferred.notes.completions in
    record { may = may_send_end c.args.next c.args.worker.now c.args.shared.now c.requires.sound c.requires.whole (subst (λ n. 0 < n) ends.ok.0 (some_by _ c.is_empty-4.result c.is_empty-4.ensures (ap not c.if-not-is_empty-4.true))) }

pub returns-then-not-is_empty-4 : goal.returns-then-not-is_empty-4
returns-then-not-is_empty-4 g c =
    let left = c.args.worker.now.home.deferred in
    record {
      steps = end_sent g.B.Body.left g.B.Scripted.spot c.args.next c.args.worker.now c.send_end.new.worker c.args.shared.now c.send_end.new.shared c.send_end.result c.requires.sound c.requires.whole
          (none_by left.notes.wakes.items c.is_empty.result (c.is_empty.ensures ∙ ap (λ n. n == 0) left.notes.wakes.ok.0) (ap not c.if-not-is_empty.false))
          (ap length (none_by left.outputs.items c.is_empty-2.result (c.is_empty-2.ensures ∙ ap (λ n. n == 0) left.outputs.ok.0) (ap not c.if-not-is_empty-2.false)))
          (ap length (none_by left.resources.items c.is_empty-3.result (c.is_empty-3.ensures ∙ ap (λ n. n == 0) left.resources.ok.0) (ap not c.if-not-is_empty-3.false)))
          (subst (λ n. 0 < n) left.notes.completions.ok.0 (some_by _ c.is_empty-4.result c.is_empty-4.ensures (ap not c.if-not-is_empty-4.true)))
          c.send_end.ensures.sends;
    }

pub send_output-requires : goal.send_output-requires
send_output-requires g c =
    let left = c.args.worker.now.home.deferred in
    let no_ends = ap length (none_by left.notes.completions.items c.is_empty-4.result (c.is_empty-4.ensures ∙ ap (λ n. n == 0) left.notes.completions.ok.0) (ap not c.if-not-is_empty-4.false)) in
    record {
      may = may_send_output c.args.next c.args.worker.now c.args.shared.now c.requires.sound c.requires.whole
          (last_left left (none_by left.notes.wakes.items c.is_empty.result (c.is_empty.ensures ∙ ap (λ n. n == 0) left.notes.wakes.ok.0) (ap not c.if-not-is_empty.false))
          (ap length (none_by left.outputs.items c.is_empty-2.result (c.is_empty-2.ensures ∙ ap (λ n. n == 0) left.outputs.ok.0) (ap not c.if-not-is_empty-2.false)))
          (ap length (none_by left.resources.items c.is_empty-3.result (c.is_empty-3.ensures ∙ ap (λ n. n == 0) left.resources.ok.0) (ap not c.if-not-is_empty-3.false))) no_ends c.requires.sound.left);
    }

pub returns : goal.returns
returns g c =
    let left = c.args.worker.now.home.deferred in
    let nobody = none_by left.notes.wakes.items c.is_empty.result (c.is_empty.ensures ∙ ap (λ n. n == 0) left.notes.wakes.ok.0) (ap not c.if-not-is_empty.false) in
    let no_outputs = ap length (none_by left.outputs.items c.is_empty-2.result (c.is_empty-2.ensures ∙ ap (λ n. n == 0) left.outputs.ok.0) (ap not c.if-not-is_empty-2.false)) in
    let no_resources = ap length (none_by left.resources.items c.is_empty-3.result (c.is_empty-3.ensures ∙ ap (λ n. n == 0) left.resources.ok.0) (ap not c.if-not-is_empty-3.false)) in
    let no_ends = ap length (none_by left.notes.completions.items c.is_empty-4.result (c.is_empty-4.ensures ∙ ap (λ n. n == 0) left.notes.completions.ok.0) (ap not c.if-not-is_empty-4.false)) in
    record {
      steps = output_sent g.B.Body.left g.B.Scripted.spot c.args.next c.args.worker.now c.send_output.new.worker c.args.shared.now c.send_output.new.shared c.send_output.result c.requires.sound c.requires.whole nobody no_outputs no_resources no_ends
          (last_left left nobody no_outputs no_resources no_ends c.requires.sound.left) c.send_output.ensures.sends;
    }
