use Rattle.std.proofs.Common.{arith, ◌≡◌, ◌+◌, ◌-◌, ◌==◌, ap, ◌∙◌, map, length, ℕ, List, length-append, nat_lt, if◌then◌else◌, ◌||◌, Some, None}
use Rattle.exec_time.{specs.{Wheel.{Wheel, slot_of}, WheelView.wheel_of, Turning.{slots_passed, emptied, ids_in, is_full_turn}}, proofs.Ranges.full_turn}
use Rattle.exec_time.proofs.wheel.TimeoutWheel.turn_out.Goals as goal

pub returns-clause-wheel : goal.returns-clause-wheel
unfolding wheel_of slots_passed
returns-clause-wheel c =
    let w : Wheel = wheel_of c.args.self.now in
    let moved : wheel_of c.empty_buckets.new.self ≡ emptied w (slots_passed w c.args.tick) = c.empty_buckets.ensures.wheel ∙ ap (λ (ticks : List ℕ). emptied w (map (slot_of w) ticks)) c.ticks_passed-first.ensures.ticks in
    ap (λ (x : Wheel). let y : Wheel = record x { current = c.args.tick } in y) moved

pub returns-clause-answer : goal.returns-clause-answer
unfolding wheel_of slots_passed
returns-clause-answer c =
    let w : Wheel = wheel_of c.args.self.now in
    let moved : wheel_of c.empty_buckets.new.self ≡ emptied w (slots_passed w c.args.tick) = c.empty_buckets.ensures.wheel ∙ ap (λ (ticks : List ℕ). emptied w (map (slot_of w) ticks)) c.ticks_passed-first.ensures.ticks in
    let ready : length c.empty_buckets.new.self.ready.items ≡ length w.ready + length (ids_in w (slots_passed w c.args.tick)) = ap (λ (x : Wheel). length x.ready) moved ∙ length-append w.ready (ids_in w (slots_passed w c.args.tick)) in
    let slots : c.empty_buckets.new.self.slots ≡ w.slots = ap (λ (x : Wheel). x.slots) moved in
    let made : (c.len.result - c.len-before.result) ≡ length (ids_in w (slots_passed w c.args.tick)) = omega (arith, c.empty_buckets.new.self.ready.ok, c.args.self.now.ready.ok) in
    let full : (c.ticks_passed-first.result.1 == c.empty_buckets.new.self.slots) ≡ is_full_turn w c.args.tick = full_turn (c.args.tick - w.current) w.slots c.ticks_passed-first.result.1 c.empty_buckets.new.self.slots c.ticks_passed-first.ensures.count slots in
    c.count_if_any.ensures ∙ (λ i. if full i || nat_lt 0 (made i) then Some (made i) else None)
