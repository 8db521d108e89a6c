use Rattle.std.proofs.{Common.{◌≡◌, ℕ, ◌++◌, ◌∷◌, [], length, Some, None, false, refl, sym, ap, subst, ◌∙◌, arith}, lemmas.{Bool.Decides.nat_tests, List.length-append}}
use Rattle.exec_base.specs.declared.{task_no.TaskNo.TaskNo, one_shot.OneShotState.OneShotState as shot}
use Rattle.exec_task.specs.{Phases.runnable_of, declared.{runnable.Runnable.Runnable, task.Phase.TheVariants.Queued, body.Said.Said as said}}
use Rattle.exec_parts.specs.{Dedicated.{Begins, root_slot}, declared.parts.{role.Role.TheVariants.Dedicated, task_slot.TaskSlot.TaskSlot}}
use Rattle.exec_machine.specs.declared.state.Waiting.TheVariants as waiting
use Rattle.exec_spawning.proofs.dedicating.make_dedicated.Goals as goal

root_is : {B : Type 0} (x : TaskSlot B) (number : TaskNo) (owner owner' i i' : ℕ) (body : B) → x.cell ≡ record { number = number; owner = owner; phase = Queued body; cancelled = false } → owner ≡ owner' → i ≡ i'
    → x ≡ record { cell = x.cell; body = None; told = Some said.Start; held = x.held; waiting = waiting.Nothing; output = shot.Open; fresh = false; cleared = false; home = Some i; poller = 0 } → x ≡ root_slot number owner' i' body x
root_is x number owner owner' i i' body cell same home slot =
    slot ∙ ap (λ y. record { cell = y; body = None; told = Some said.Start; held = x.held; waiting = waiting.Nothing; output = shot.Open; fresh = false; cleared = false; home = Some i; poller = 0 }) cell
    ∙ ap (λ o. root_slot number o i body x) same ∙ ap (λ j. root_slot number owner' j body x) home

pub returns-clause-made : goal.returns-clause-made
returns-clause-made g c =
    let s = c.args.shared.now in
    let x = c.new-slot.result.0 in
    let of_x = c.new-slot.ensures in
    let count : c.len-count.result ≡ length s.tasks.items = c.len-count.ensures ∙ (s.tasks).ok.0 in
    let worker : c.len-worker.result ≡ length s.seats.items = c.len-worker.ensures ∙ (s.seats).ok.0 in
    let number : c.in-Ok.number ≡ length s.tasks.items = c.in-Ok.ensures.1 ∙ count in
    let tasks = c.push_reserved.ensures.items ∙ ap (λ xs. xs ++ x ∷ []) c.reserve.ensures.items in
    let places = c.in_ok-reserve-3.ensures.places in
    record {
      is = ap (λ n. record { 0 = n }) number;
      few = omega (arith, number, c.in-Ok.ensures.0);
      few_seats = grind (arith, nat_tests, c.if-worker.false, worker);
      room = c.if-not-nursery.false;
      slot = x;
      made = root_is x (record { 0 = c.in-Ok.number }) c.id.result s.set.id c.len-worker.result (length s.seats.items) c.args.body of_x.cell c.id.ensures worker of_x.slot;
      held = of_x.held;
      tasks = tasks;
      chair = c.in_ok-seat.seat;
      fresh = c.in_ok-seat.ensures.seat;
      seats = c.push_reserved-2.ensures.items ∙ ap (λ xs. xs ++ c.in_ok-seat.seat ∷ []) c.reserve-2.ensures.items;
      places = omega (arith, ap (λ q. q.places) places, ap length tasks, length-append s.tasks.items (x ∷ []), count);
      more_places = omega (arith, ap (λ q. q.places) places);
      born = c.in-Ok-begin.born;
      begins = subst (λ i. Begins s.config Dedicated i (length s.tasks.items) (runnable_of x.cell) s.clock c.in-Ok-begin.born) worker
          (subst (λ n. Begins s.config Dedicated c.len-worker.result n (runnable_of x.cell) s.clock c.in-Ok-begin.born) count
          (subst (λ (r : Runnable). Begins s.config Dedicated c.len-worker.result c.len-count.result r s.clock c.in-Ok-begin.born) of_x.runnable c.in-Ok-begin.ensures.begins));
      nursery = ap (λ o. record c.args.nursery.now { born = o }) c.replace.ensures.after;
      store = c.begin.ensures.store;
      kept = ap (λ q. record s { seats = c.push_reserved-2.new.self; tasks = c.push_reserved.new.self; global = q; store = c.begin.new.store }) (places ∙ ap (λ m. record s.global { places = m }) (sym (ap (λ q. q.places) places)));
    }
