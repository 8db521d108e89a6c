use Rattle.std.proofs.{Common.{◌≡◌, Some, None, sym, ap, subst, ◌∙◌}, lemmas.Option.slice_get-get_or}
use Rattle.exec_parts.specs.Awaits.{AwaitsNewest, newest_of}
use Rattle.exec_polling.proofs.poll.await_newest.Goals as goal

pub await_request-requires : goal.await_request-requires
await_request-requires g c =
    let o = c.index.result.now in
    let there = slice_get-get_or c.args.shared.now.tasks.items c.args.task o c.requires.there ∙ ap (λ y. Some y) (sym c.index.ensures) in
    record { newest = c.requires.newest o there c.in-Some.request (sym c.newest.ensures ∙ c.in-Some.is) }

pub returns-in-Some : goal.returns-in-Some
returns-in-Some g c =
    let o = c.index.result.now in
    let there = slice_get-get_or c.args.shared.now.tasks.items c.args.task o c.requires.there ∙ ap (λ y. Some y) (sym c.index.ensures) in
    record {
      awaits = λ slot found.
          let same : o ≡ slot = cc (there, found) in
          let newest : newest_of slot ≡ Some c.in-Some.request = subst (λ y. newest_of y ≡ Some c.in-Some.request) same (sym c.newest.ensures ∙ c.in-Some.is) in
          subst (λ x. AwaitsNewest c.args.task x c.args.worker.now c.await_request.new.worker c.args.shared.now c.await_request.new.shared c.await_request.result) (sym newest) c.await_request.ensures.awaits;
    }

pub returns-in-None : goal.returns-in-None
returns-in-None g c =
    let o = c.index.result.now in
    let there = slice_get-get_or c.args.shared.now.tasks.items c.args.task o c.requires.there ∙ ap (λ y. Some y) (sym c.index.ensures) in
    record {
      awaits = λ slot found.
          let same : o ≡ slot = cc (there, found) in
          let newest : newest_of slot ≡ None = subst (λ y. newest_of y ≡ None) same (sym c.newest.ensures ∙ c.in-None.is) in
          subst (λ x. AwaitsNewest c.args.task x c.args.worker.now c.await_wake.new.worker c.args.shared.now c.await_wake.new.shared c.await_wake.result) (sym newest) (c.await_wake.ensures.event, c.await_wake.ensures.worker, c.await_wake.ensures.task);
    }
