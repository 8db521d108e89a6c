use Rattle.exec_live_queue.proofs.{Words.{◌≡◌, ◌+◌, List, length, refl, sym, ap, subst, ◌∙◌, length-drop, arith}, Moves.{Filling, fill_front, fill_step, fill_all}, Looks.nil_from_length}
use Rattle.std.proofs.Common.{drop}
use Rattle.exec_live_queue.proofs.batch.fill.Goals as goal

pub put-requires : goal.put-requires
put-requires g c = let v = c.loop-i.invariant in let q = c.requires in
    record { at = (v.same.0 ∙ q.at.0, q.at.1, q.at.2); front = fill_front c.loop-i.seat.me c.args.seat.now.me.0 c.args.tail q.free.0 c.loop-i.i (c.args.tail + c.loop-i.i) c.args.batch.now.values c.loop-i.batch.values c.in-Some.value (v.filled q.free.0 q.free.1) (sym c.pop.ensures.value ∙ c.in-Some.is) refl }

pub loop-i-preserved : goal.loop-i-preserved
loop-i-preserved g c = let v = c.loop-i.invariant in let p = c.put.ensures in let values : c.pop.new.self.values ≡ drop 1 c.loop-i.batch.values = ap (λ b. b.values) {x = c.pop.new.self} c.pop.ensures.left in record {
  same = (p.same.0 ∙ v.same.0, p.same.1 ∙ v.same.1);
  places = c.pop.ensures.left ∙ (λ j. record (v.places j) { values = sym values j });
  count = (let a = ap length values in let b = length-drop 1 c.loop-i.batch.values in omega (arith, a, b, v.count, c.loop-i-test.true, c.len-i-end.ensures.count));
  filled = λ r f. subst (λ (xs : List g.row.T.Denot). Filling c.put.new.seat.me c.args.seat.now.me.0 c.args.tail r c.args.batch.now.values (c.loop-i.i + 1) xs) (sym values)
      (fill_step c.loop-i.seat.me c.put.new.seat.me c.args.seat.now.me.0 c.args.tail r c.loop-i.i (c.args.tail + c.loop-i.i) c.args.batch.now.values c.loop-i.batch.values c.in-Some.value (v.filled r f) (sym c.pop.ensures.value ∙ c.in-Some.is) refl p.swapped.1);
}

pub returns : goal.returns
returns g c = let v = c.loop-i.invariant in let dry = nil_from_length c.loop-i.batch.values (omega (arith, v.count, c.loop-i-test.false, c.len-i-end.ensures.count)) in record {
  same = v.same;
  filled = λ r f. fill_all c.loop-i.seat.me c.args.seat.now.me.0 c.args.tail r c.loop-i.i c.args.batch.now.values c.loop-i.batch.values (v.filled r f) dry;
  taken = v.places ∙ ap (λ (xs : List g.row.T.Denot). record c.args.batch.now { values = xs }) dry;
}
