use Rattle.exec_live_queue.proofs.{Words.{◌+◌, refl, ◌∙◌, arith}, Moves.{carry_fronts, carry_more, carry_end}}
use Rattle.exec_live_queue.proofs.steal.carry_over.Goals as goal

pub take-value-requires : goal.take-value-requires
take-value-requires g c = let A = c.args in let q = c.requires in let v = c.loop-i.invariant in let xs = q.claimed.0 in let len = q.claimed.1 in let i = c.loop-i.i in
    let k = carry_fronts c.loop-i.from.me A.from.now.me.0 A.at c.loop-i.seat.me A.seat.now.me.0 A.tail q.free.0 i (A.at + i) (A.tail + i) xs (v.moved xs q.free.0 len q.claimed.2 q.free.1) (omega (arith, len, c.loop-i-test.true)) refl refl in
    record { at = (v.same.0.0 ∙ q.source.0, q.source.1, q.source.2); front = (k.0, k.1) }

pub put-requires : goal.put-requires
put-requires g c = let A = c.args in let q = c.requires in let v = c.loop-i.invariant in let xs = q.claimed.0 in let len = q.claimed.1 in let i = c.loop-i.i in
    let k = carry_fronts c.loop-i.from.me A.from.now.me.0 A.at c.loop-i.seat.me A.seat.now.me.0 A.tail q.free.0 i (A.at + i) (A.tail + i) xs (v.moved xs q.free.0 len q.claimed.2 q.free.1) (omega (arith, len, c.loop-i-test.true)) refl refl in
    record { at = (v.same.1.0 ∙ q.into.0, q.into.1, q.into.2); front = k.2 }

pub loop-i-preserved : goal.loop-i-preserved
loop-i-preserved g c = let A = c.args in let v = c.loop-i.invariant in let i = c.loop-i.i in let t = c.take-value.ensures in let p = c.put.ensures in record {
  same = ((t.same.0 ∙ v.same.0.0, t.same.1 ∙ v.same.0.1), (p.same.0 ∙ v.same.1.0, p.same.1 ∙ v.same.1.1));
  moved = λ xs r len e f. carry_more c.loop-i.from.me c.take-value.new.seat.me A.from.now.me.0 A.at c.loop-i.seat.me c.put.new.seat.me A.seat.now.me.0 A.tail r i (A.at + i) (A.tail + i) xs c.take-value.result
      (v.moved xs r len e f) (omega (arith, len, c.loop-i-test.true)) refl refl t.swapped.0 t.swapped.1 p.swapped.1;
}

pub returns-clause-emptied : goal.returns-clause-emptied
returns-clause-emptied g c = let A = c.args in let q = c.requires in let v = c.loop-i.invariant in let xs = q.claimed.0 in let len = q.claimed.1 in
    let moved = v.moved xs q.free.0 len q.claimed.2 q.free.1 in
    (carry_end c.loop-i.from.me A.from.now.me.0 A.at c.loop-i.seat.me A.seat.now.me.0 A.tail q.free.0 c.loop-i.i A.count xs moved len (omega arith)).0
