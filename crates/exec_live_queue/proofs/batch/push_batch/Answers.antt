use Rattle.exec_live_queue.proofs.{Words.{◌-◌, ◌/◌, ◌%◌, length, ◌∙◌, arith, room}, Owners.{room_stays, free_slots, to_publish, published_after}}
use Rattle.exec_live_queue.proofs.batch.push_batch.Goals as goal

pub fill-requires : goal.fill-requires
fill-requires g c = let q = c.requires in let s = c.take_room in let m = c.args.seat.now.me in let n = length c.args.batch.now.values in let all = room m.0.own.tail (s.result / 512) (s.result % 512) in
    let k = room_stays m.0.own s.result c.args.tail n s.ensures.laid.1.0 q.tail q.rests.1.4 q.room in let f = free_slots m s.new.seat.me s.result c.args.tail n s.ensures.laid.1 q.rests.1 q.tail k.0 in
    record { at = (s.ensures.laid.0.0 ∙ q.rests.0.0, q.rests.0.1, q.rests.0.2); small = (omega (arith, k.2), k.1); free = (all - n, f) }

pub publish-requires : goal.publish-requires
publish-requires g c = let q = c.requires in let s = c.take_room in let m = c.args.seat.now.me in let xs = c.args.batch.now.values in let n = length xs in let all = room m.0.own.tail (s.result / 512) (s.result % 512) in
    let k = room_stays m.0.own s.result c.args.tail n s.ensures.laid.1.0 q.tail q.rests.1.4 q.room in let f = free_slots m s.new.seat.me s.result c.args.tail n s.ensures.laid.1 q.rests.1 q.tail k.0 in
    let e = c.fill.ensures in let t
    = to_publish (λ room. room) m s.new.seat.me c.fill.new.seat.me s.result c.args.tail
    (all - n) xs s.ensures.laid.1 q.rests.1 q.tail (omega (arith, k.0)) (e.filled (all - n) f) in
    ((e.same.0 ∙ s.ensures.laid.0.0 ∙ q.rests.0.0, q.rests.0.1, q.rests.0.2), t.0, t.1, t.2, omega (arith, k.2, c.len-count.ensures.count), xs, all - n, t.3, t.4, omega (arith, t.5, c.len-count.ensures.count))

pub returns : goal.returns
returns g c = let q = c.requires in let s = c.take_room in let m = c.args.seat.now.me in let xs = c.args.batch.now.values in let n = length xs in let all = room m.0.own.tail (s.result / 512) (s.result % 512) in
    let k = room_stays m.0.own s.result c.args.tail n s.ensures.laid.1.0 q.tail q.rests.1.4 q.room in let f = free_slots m s.new.seat.me s.result c.args.tail n s.ensures.laid.1 q.rests.1 q.tail k.0 in
    let e = c.fill.ensures in let h = c.publish.ensures in
    let p = published_after (λ room. room) m s.new.seat.me c.fill.new.seat.me c.publish.new.seat.me s.result c.args.tail
    (all - n) xs s.ensures.laid.1 q.rests.1 (omega (arith, k.2, q.tail)) (e.filled (all - n) f) h.1.1 in record {
      same = (h.0.0 ∙ e.same.0 ∙ s.ensures.laid.0.0, h.0.1 ∙ e.same.1 ∙ s.ensures.laid.0.1);
      rests = ((h.0.0 ∙ e.same.0 ∙ s.ensures.laid.0.0 ∙ q.rests.0.0, q.rests.0.1, q.rests.0.2), p.0);
      published = p.1;
      taken = e.taken;
    }
