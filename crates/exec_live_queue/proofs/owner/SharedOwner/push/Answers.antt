use Rattle.exec_live_queue.proofs.{Words.{◌≡◌, ℕ, ◌+◌, length, length-drop, refl, sym, ap, subst, ◌∙◌, arith, values_of, Owned, Stands, fully, handed_after, AfterPush, PushLeaves}, Standing.{handed, stands_hands}}
use Rattle.std.specs.Prelude.{drop}
use Rattle.exec_words.specs.declared.queue.PushAnswer.{PushAnswer}
use Rattle.exec_live_queue.proofs.owner.SharedOwner.push.Goals as goal

pub invariant_of-self-in-Overflow-1 : goal.invariant_of-self-in-Overflow-1
invariant_of-self-in-Overflow-1 g c = let T = g.row.T.Denot in let p = c.push-answer in let d = c.self.inside.seat.me.0.own in let x = c.in-Overflow.field-0 in
    let h = subst (λ (a : PushAnswer T). PushLeaves c.words_of.result.now p.new.seat d a) c.in-Overflow.is p.ensures.leaves in
    let a = subst (λ (a : PushAnswer T). AfterPush d c.args.value p.new.seat.me.0.own a) c.in-Overflow.is p.ensures.pushed in
    let len : length (drop 128 (fully d)) ≡ 128 = (let n = length-drop 128 (fully d) in omega (arith, n, a.2.1)) in
    let tail : c.self.inside.tail + 128 ≡ p.new.seat.me.0.own.tail = ap (λ (n : ℕ). n + 128) c.self.invariant.0 ∙ sym (ap (λ o. o.tail) {x = p.new.seat.me.0.own} a.2.3) in
    subst (λ w. Stands w p.new.seat (c.self.inside.tail + 128) 128) {x = c.words_of.result.now} c.words_of.ensures
    (stands_hands c.words_of.result.now p.new.seat (c.self.inside.tail + 128) 128 0 (drop 128 (fully d)) tail refl (omega arith) len h)

pub returns-in-Overflow-clause-handed : goal.returns-in-Overflow-clause-handed
returns-in-Overflow-clause-handed g c = let T = g.row.T.Denot in let p = c.push-answer in let d = c.self.inside.seat.me.0.own in
    let h = subst (λ (a : PushAnswer T). PushLeaves c.words_of.result.now p.new.seat d a) c.in-Overflow.is p.ensures.leaves in
    subst (λ (o : Owned T). values_of p.new.seat.me.1 ≡ handed_after o.own p.result) c.self.view_is
    (subst (λ (a : PushAnswer T). values_of p.new.seat.me.1 ≡ handed_after d a) (sym c.in-Overflow.is) (handed c.words_of.result.now p.new.seat 0 (drop 128 (fully d)) h))
