use Rattle.std.proofs.{Common.{◌≡◌, subst, Some, refl, sym, ap, ◌∙◌, slice_set}, lemmas.Option.slice_get-get_or}
use Rattle.exec_parts.specs.Polls.{Acts, sight_of}
use Rattle.exec_polling.proofs.Making.{on_err_weaker, made_if}
use Rattle.exec_polling.proofs.poll.next_act.Goals as goal

pub returns-clause-acts : goal.returns-clause-acts
returns-clause-acts g c =
    let s = c.args.shared.now in
    let o = c.index_mut.result.now in
    let there = slice_get-get_or s.tasks.items c.args.task o c.requires.there ∙ ap (λ y. Some y) (sym c.index_mut.ensures.value) in
    made_if c.step.result (λ a made. record {
      slot = o;
      slot' = c.step.new.self;
      there = there;
      sight = sight_of c.step.new.around.moment c.step.new.around.tasks c.step.new.around.stopped c.step.new.around.opens.now;
      acts = subst (λ n. Acts g.B.Body.left g.B.Body.gives o c.step.new.self (Some (sight_of c.args.worker.now.moments.sampled n s.stopped s.opens)) (Some (sight_of c.step.new.around.moment c.step.new.around.tasks c.step.new.around.stopped c.step.new.around.opens.now)) a) (c.len.ensures ∙ s.tasks.ok.0) made;
      kept = refl;
      tasks = refl;
    }) c.step.ensures.acts

pub returns-clause-kept : goal.returns-clause-kept
returns-clause-kept g c =
    let s = c.args.shared.now in
    let o = c.index_mut.result.now in
    let there = slice_get-get_or s.tasks.items c.args.task o c.requires.there ∙ ap (λ y. Some y) (sym c.index_mut.ensures.value) in
    on_err_weaker c.step.result (λ same. record {
      kept = refl;
      tasks = λ slot found.
          let is : o ≡ slot = cc (there, found) in
          ap (λ x. slice_set s.tasks.items c.args.task x) (same ∙ is);
    }) c.step.ensures.kept
