use Rattle.exec_live_queue.proofs.{Words.{◌≡◌, ◌+◌, ◌-◌, ◌/◌, ◌%◌, ◌^◌, ◌≤◌, length, sym, ◌∙◌, arith, room, Empties}, Owners.{looks, own_tail, free_slots, to_publish, published_after}}
use Rattle.std.proofs.Common.{append-nil, arith}
use Rattle.exec_live_queue.proofs.steal.steal_once.Goals as goal

pub carry_over-requires-clause-free : goal.carry_over-requires-clause-free
carry_over-requires-clause-free g c = let q = c.requires in let aim = c.in-Some.ensures.aim in let p = c.claim-found.ensures.1.0 c.if-found-aim.false in let count = c.in-Some.aim.count in
    let s = c.take_room in let w = c.look-own.new.seat.me in let w1 = s.new.seat.me in let l = looks c.args.seat.now.me w c.look-own.result q.into.1 c.look-own.ensures.laid.1 in
    let is = q.tail ∙ sym (own_tail c.args.seat.now.me.0.own w.0.own l.1) in let o = s.ensures.laid.1.0.1 in let all = room w.0.own.tail (s.result / 512) (s.result % 512) in
    let fits : count ≤ all = omega (arith, p.5, aim.3, is, o.behind, o.saw_room, c.look-own.ensures.seen, c.real_of.ensures, c.gap_of.ensures, c.if-tail-real_of-gt-HALF.false) in
    (all - count, free_slots w w1 s.result c.args.tail count s.ensures.laid.1 l.0 is fits)

pub release_claim-requires : goal.release_claim-requires
release_claim-requires g c = grind arith

pub publish-requires : goal.publish-requires
publish-requires g c = let q = c.requires in let p = c.claim-found.ensures.1.0 c.if-found-aim.false in let aim = c.in-Some.ensures.aim in let count = c.in-Some.aim.count in let xs = p.2 in
    let s = c.take_room in let w = c.look-own.new.seat.me in let w1 = s.new.seat.me in let l = looks c.args.seat.now.me w c.look-own.result q.into.1 c.look-own.ensures.laid.1 in
    let is = q.tail ∙ sym (own_tail c.args.seat.now.me.0.own w.0.own l.1) in let o = s.ensures.laid.1.0.1 in let all = room w.0.own.tail (s.result / 512) (s.result % 512) in
    let fits : count ≤ all = omega (arith, p.5, aim.3, is, o.behind, o.saw_room, c.look-own.ensures.seen, c.real_of.ensures, c.gap_of.ensures, c.if-tail-real_of-gt-HALF.false) in
    let f = free_slots w w1 s.result c.args.tail count s.ensures.laid.1 l.0 is fits in let len : length xs ≡ count = p.4 ∙ sym aim.3 in
    let m2 = c.claim-found.new.seat.me in let e : Empties m2 m2.0 c.real_of-at.result 0 xs = grind (arith, append-nil) in
    let w2 = c.carry_over.new.seat.me in let d = c.carry_over.ensures.moved xs (all - count) len e f in
    let t = to_publish (λ room. room) w w1 w2 s.result c.args.tail (all - count) xs s.ensures.laid.1 l.0 is (omega (arith, fits, len)) d.1 in
    (grind arith, t.0, t.1, t.2, omega (arith, p.5, aim.3, c.if-tail-ge-SPENT.false), xs, all - count, t.3, t.4, omega (arith, t.5, len))

pub returns : goal.returns
returns g c = let q = c.requires in let p = c.claim-found.ensures.1.0 c.if-found-aim.false in let aim = c.in-Some.ensures.aim in let count = c.in-Some.aim.count in let xs = p.2 in
    let s = c.take_room in let w = c.look-own.new.seat.me in let w1 = s.new.seat.me in let l = looks c.args.seat.now.me w c.look-own.result q.into.1 c.look-own.ensures.laid.1 in
    let is = q.tail ∙ sym (own_tail c.args.seat.now.me.0.own w.0.own l.1) in let o = s.ensures.laid.1.0.1 in let all = room w.0.own.tail (s.result / 512) (s.result % 512) in
    let fits : count ≤ all = omega (arith, p.5, aim.3, is, o.behind, o.saw_room, c.look-own.ensures.seen, c.real_of.ensures, c.gap_of.ensures, c.if-tail-real_of-gt-HALF.false) in
    let f = free_slots w w1 s.result c.args.tail count s.ensures.laid.1 l.0 is fits in let len : length xs ≡ count = p.4 ∙ sym aim.3 in
    let m2 = c.claim-found.new.seat.me in let e : Empties m2 m2.0 c.real_of-at.result 0 xs = grind (arith, append-nil) in
    let w2 = c.carry_over.new.seat.me in let d = c.carry_over.ensures.moved xs (all - count) len e f in
    let w3 = c.publish.new.seat.me in let m4 = c.release_claim.new.seat.me in let small : w.0.own.tail + length xs + 256 ≤ 2 ^ 55 = omega (arith, is, p.5, aim.3, len, c.if-tail-ge-SPENT.false) in
    let p' = published_after (λ room. room) w w1 w2 w3 s.result c.args.tail (all - count) xs s.ensures.laid.1 l.0 small d.1 c.publish.ensures.1.1 in record {
      same = grind arith;
      rests = (grind arith, p'.0);
      thief = grind arith;
      stolen = grind arith;
    }
