use Rattle.std.proofs.{Common.{◌≡◌, ℕ, Some, None, false, ◌++◌, ◌∷◌, [], refl, sym, ap, subst, ◌∙◌, arith, length}, lemmas.{Bool.false≢true, List.length-append}}
use Rattle.exec_task.specs.declared.{body.Said.TheVariants.Start, task.Phase.Phase}
use Rattle.exec_parts.{specs.{Words.{TaskNo, Waiting, inserted, Runnable, shot}, Pooled.IsNewTask, Records.numbers_held, declared.parts.task_slot.TaskSlot.TaskSlot}, proofs.Facts.same_Some}
use Rattle.exec_parts.proofs.parts.shared.Shared.make_task.Goals as goal

-- what the slot of a task that was made is
new_task : {B : Type 0} (x : TaskSlot B) (n : TaskNo) (id owner : ℕ) (body : B) → id ≡ owner → x.cell ≡ record { number = n; owner = id; phase = Phase.Queued body; cancelled = false } → numbers_held x.held.items ≡ []
    → x ≡ record { cell = x.cell; body = None; told = Some Start; held = x.held; waiting = Waiting.Nothing; output = shot.Open; fresh = false; cleared = false; home = None; poller = 0 } → IsNewTask n owner body x
new_task x n id owner body is cell held slot =
    record { cell = grind arith; held = held; output = ap (λ y. y.output) slot; rest = grind arith }

pub returns-clause-made : goal.returns-clause-made
returns-clause-made g c =
    let s = c.args.self.now in
    let x = c.new-slot.result.0 in
    let of_x = c.new-slot.ensures in
    let shut = sym c.is_closed.ensures ∙ c.if-is_closed.false in
    let number = c.in-Ok.ensures.1 ∙ c.len-count.ensures ∙ s.tasks.ok.0 in
    let items = c.push_reserved.ensures.items ∙ ap (λ xs. xs ++ x ∷ []) c.in_ok-reserve.ensures.items in
    let task = ap (λ (r : Runnable). r.task) of_x.runnable ∙ ap (λ y. y.number) of_x.cell in
    let owner = c.id.ensures ∙ ap (λ z. z.id) c.in-Ok-insert.ensures.inserted in
    let places = c.in_ok-reserve-2.ensures.places in
    record {
      answer = rw shut refl;
      closed = λ h. absurd (false≢true (sym shut ∙ h));
      number = λ r h. subst (λ (z : Runnable). z.task.0 ≡ length s.tasks.items) (same_Some c.new-slot.result.1 r h) (ap (λ n. n.0) task ∙ number);
      slot = λ r h.
          let same = same_Some c.new-slot.result.1 r h in
          (x, items, sym same ∙ of_x.runnable, subst (λ (z : Runnable). IsNewTask z.task s.set.id c.args.body x) same (subst (λ n. IsNewTask n s.set.id c.args.body x) (sym task) (new_task x _ _ _ c.args.body owner of_x.cell (ap numbers_held of_x.held) of_x.slot)));
      set = λ r h.
          let same = same_Some c.new-slot.result.1 r h in
          c.in-Ok-insert.ensures.inserted ∙ ap (λ n. inserted s.set n tt) (sym task ∙ ap (λ (z : Runnable). z.task) same);
      places = λ r h. omega (arith, ap (λ q. q.places) places, ap length items, length-append s.tasks.items (x ∷ []), c.len-count.ensures, s.tasks.ok.0);
      few = λ r h. omega (arith, ap length items, length-append s.tasks.items (x ∷ []), number);
      kept = ap (λ q. record s { tasks = c.push_reserved.new.self; set = c.insert.new.self; global = q }) (places ∙ ap (λ m. record s.global { places = m }) (sym (ap (λ q. q.places) places)));
    }
