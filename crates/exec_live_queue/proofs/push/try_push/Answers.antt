use Rattle.exec_live_queue.proofs.{Words.{ℕ, [], ◌∷◌, sym, ap, ◌∙◌, arith, None, hand}, Owners.{took_one, filled_one, to_publish, looks_full, overflowed_after, own_tail}}
use Rattle.std.proofs.Common.{min, arith}
use Rattle.exec_live_queue.proofs.push.try_push.Goals as goal

pub publish-requires : goal.publish-requires
publish-requires g c = let q = c.requires in let s = c.take_one-seen in let m = c.args.seat.now.me in let m1 = s.new.seat.me in let e = c.put.ensures in let m2 = c.put.new.seat.me in
    let t = took_one m m1 s.result s.ensures.laid.1 (omega (arith, q.tail, c.real_of.ensures, c.gap_of-gap.ensures)) in
    let f = filled_one m1 m2 c.args.tail c.args.x (t.1 ∙ ap (λ (n : ℕ). hand n (None ∷ [])) (sym q.tail)) e.swapped.1 in
    let p = to_publish (λ room. min room 1) m m1 m2 s.result c.args.tail 0
    (c.args.x ∷ []) s.ensures.laid.1 q.rests.1 q.tail t.0 f in
    ((e.same.0 ∙ s.ensures.laid.0.0 ∙ q.rests.0.0, q.rests.0.1, q.rests.0.2), p.0, p.1, p.2, omega (arith, q.unspent), c.args.x ∷ [], 0, p.3, p.4, omega (arith, p.5))

pub returns-then-flow_over-seen : goal.returns-then-flow_over-seen
returns-then-flow_over-seen g c = grind arith

pub returns : goal.returns
returns g c = let q = c.requires in let s = c.take_one-seen in let m = c.args.seat.now.me in let m1 = s.new.seat.me in let f = c.flow_over in let m2 = f.new.seat.me in let r = c.restore in let m3 = r.new.seat.me in
    let k = looks_full m m1 s.result q.rests.1 s.ensures.laid.1 (omega (arith, c.requires.tail, c.real_of.ensures, c.gap_of-gap.ensures)) in let t = own_tail m.0.own m1.0.own k.1 in let o = f.ensures.1.0 c.if-flow_over-seen.false in
    let e = overflowed_after m m1 m2 m3 q.rests.1 k.1 k.0.0 s.ensures.seen.2 (omega (arith, s.ensures.seen, c.gap_of-gap.ensures, c.real_of.ensures, q.tail, t)) (omega (arith, q.tail, q.unspent)) o r.ensures.1.1 in record {
      same = (r.ensures.0.0 ∙ f.ensures.0.0 ∙ s.ensures.laid.0.0, r.ensures.0.1 ∙ f.ensures.0.1 ∙ s.ensures.laid.0.1);
      tried = grind arith;
    }
