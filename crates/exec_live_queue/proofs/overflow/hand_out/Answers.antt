use Rattle.exec_live_queue.proofs.{Words.{◌≡◌, ℕ, ◌+◌, ◌-◌, ◌∷◌, List, sym, ap, subst, ◌∙◌, arith, View, HasLooked, Stands}, Standing.{front_of, taken_of, stands_back, stands_hands}}
use Rattle.std.proofs.Common.{arith}
use Rattle.exec_live_queue.proofs.overflow.hand_out.Goals as goal

pub take-value-requires : goal.take-value-requires
take-value-requires g c = let f
    = front_of c.args.words.now c.args.seat.now c.args.tail c.args.left c.requires.stands c.requires.more in
    record { at = f.0; front = (f.2, f.3) }

pub returns-then-left-gt1 : goal.returns-then-left-gt1
returns-then-left-gt1 g c = let W = c.args.words.now in let S = c.args.seat.now in let k = c.take-value in
    let S1 = k.new.seat in let q = c.requires in let left = c.args.left in
    let t = taken_of W S S1 c.args.tail left k.result q.stands q.more k.ensures.same k.ensures.swapped in record {
      same = k.ensures.same;
      stands = stands_hands W S1 c.args.tail (left - 1) (128 - left + 1) t.0
          (q.stands.0 ∙ sym (ap (λ (v : View g.row.T.Denot). v.own.tail) t.4)) (omega (arith, q.stands.1)) (omega arith)
          (omega (arith, t.2)) t.1;
      looked = grind arith;
      value = t.3;
    }

pub returns : goal.returns
returns g c = let W = c.args.words.now in let S = c.args.seat.now in let k = c.take-value in let S1 = k.new.seat in
    let e = c.give_back in let q = c.requires in let left = c.args.left in
    let t = taken_of W S S1 c.args.tail left k.result q.stands q.more k.ensures.same k.ensures.swapped in
    let tail = q.stands.0 ∙ sym (ap (λ (v : View g.row.T.Denot). v.own.tail) t.4) in
    let b = stands_back W S1 e.new.seat c.args.tail (128 - left) e.result t.0 t.1
    (omega (arith, t.2)) tail e.ensures.returned in let none_left : 0 ≡ left - 1 = omega arith in record {
      same = (e.ensures.returned.0.0 ∙ k.ensures.same.0, e.ensures.returned.0.1 ∙ k.ensures.same.1);
      stands = subst (λ (n : ℕ). Stands W e.new.seat c.args.tail n) none_left b.0;
      looked = subst (λ (v : View g.row.T.Denot). HasLooked v.own e.new.seat.me.0.own) t.4 b.1;
      value = t.3 ∙ ap (λ (xs : List g.row.T.Denot). k.result ∷ xs) b.2;
    }
