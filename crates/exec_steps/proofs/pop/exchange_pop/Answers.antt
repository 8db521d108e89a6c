use Rattle.std.proofs.{Common.{◌≡◌, ◌-◌, false, Some, ap, arith, slice_get, sym, ◌∙◌, subst}, lemmas.{Bool.false≢true, Grind.elements}}
use Rattle.exec_machine.specs.declared.config.Configuration.{Configuration}
use Rattle.exec_words.specs.{Queue.{Queue, head_of, tail_of}, declared.head.Head.Head}
use Rattle.exec_task.specs.declared.runnable.Runnable.{Runnable}
use Rattle.exec_moves.specs.{Pop.{judge_pop, same_head}, declared.handing.AfterPop.AfterPop}
use Rattle.exec_parts.{specs.{Pooled.with_exchanged, declared.parts.{seat.Seat.Seat, worker.Worker.Worker}}, proofs.{Facts.{same_Some, set_there}, MailLets.found_at}}
use Rattle.exec_steps.proofs.pop.exchange_pop.Goals as goal

-- another head was found
found_another : (head : Head) (c : Configuration) (b : AfterPop) (q : Queue Runnable) (w w' : Worker) → (head_of q ≡ head → ⊥) → w' ≡ record w { place = judge_pop c w.index b (head_of q) (tail_of q - (head_of q).real) } → w' ≡ with_exchanged (same_head head (head_of q)) c b q w
found_another head c b q w w' other goes =
    let differs : same_head head (head_of q) ≡ false = grind (arith, other) in
    goes ∙ ap (λ x. with_exchanged x c b q w) (sym differs)

pub pop_exchange-requires : goal.pop_exchange-requires
pop_exchange-requires g c = grind (arith, elements)

pub returns-in-Ok-clause-worker : goal.returns-in-Ok-clause-worker
returns-in-Ok-clause-worker g c = grind (arith, elements)

pub returns-in-Ok-clause-chair : goal.returns-in-Ok-clause-chair
returns-in-Ok-clause-chair g c = grind (arith, elements)

pub returns-in-Err-clause-worker : goal.returns-in-Err-clause-worker
returns-in-Err-clause-worker g c = λ chair at.
    let w = c.args.worker.now in
    let s = c.args.shared.now in
    let seat : Seat = c.index_mut.result.now in
    let first = found_at s.seats.items w.index seat c.requires.there c.index_mut.ensures.value in
    let left : Seat = record seat { queue = c.pop_exchange.new.self } in
    let goes = c.judge_pop.ensures.goes left (set_there s.seats.items w.index left seat first) in
    let found = c.in-Err.ensures.found in
    subst (λ (x : Seat). c.judge_pop.new.worker ≡ with_exchanged (same_head c.args.head (head_of x.queue)) s.config c.args.back x.queue w) (same_Some seat chair (sym first ∙ at))
    (found_another c.args.head s.config c.args.back seat.queue w c.judge_pop.new.worker (λ is. absurd (false≢true (c.in-Err.ensures.same.1 is)))
    (goes ∙ ap (λ (q : Queue Runnable). record w { place = judge_pop s.config w.index c.args.back c.in-Err.found (tail_of q - c.in-Err.found.real) }) c.in-Err.ensures.kept
    ∙ ap (λ (h : Head). record w { place = judge_pop s.config w.index c.args.back h (tail_of seat.queue - h.real) }) found))

pub returns-in-Err-clause-chair : goal.returns-in-Err-clause-chair
returns-in-Err-clause-chair g c = grind (arith, elements)
