use Rattle.std.{proofs.{Common.{◌≡◌, ◌+◌, length, refl, ap, ◌∙◌, arith, map}, lemmas.List.{length-map, with_items_is}}, specs.Vec.with_items}
use Rattle.exec_parts.specs.Records.{reached}
use Rattle.exec_serving.proofs.Resting.{clock_kept, clock_whole}
use Rattle.exec_serving.proofs.lines.move_clock.Goals as goal

pub returns-clause-sound : goal.returns-clause-sound
returns-clause-sound g c = λ w sound.
    let seats = c.args.shared.now.seats in
    let reach : c.reach_all.new.seats ≡ map (reached (c.args.shared.now.clock + c.args.by)) seats.items = c.reach_all.ensures ∙ ap (map (reached (c.args.shared.now.clock + c.args.by))) c.deref_mut.ensures.value in
    let many : length c.reach_all.new.seats ≡ seats.len = omega (arith, ap length reach, length-map seats.items (reached (c.args.shared.now.clock + c.args.by)), seats.ok.0) in
    clock_kept w c.args.shared.now (record c.args.shared.now { clock = c.args.shared.now.clock + c.args.by; seats = with_items c.args.shared.now.seats c.reach_all.new.seats }) c.args.by c.requires.shown (with_items_is seats c.reach_all.new.seats many ∙ reach) refl sound

pub returns-clause-whole : goal.returns-clause-whole
returns-clause-whole g c = λ x whole.
    let seats = c.args.shared.now.seats in
    let reach : c.reach_all.new.seats ≡ map (reached (c.args.shared.now.clock + c.args.by)) seats.items = c.reach_all.ensures ∙ ap (map (reached (c.args.shared.now.clock + c.args.by))) c.deref_mut.ensures.value in
    let many : length c.reach_all.new.seats ≡ seats.len = omega (arith, ap length reach, length-map seats.items (reached (c.args.shared.now.clock + c.args.by)), seats.ok.0) in
    clock_whole x c.args.shared.now (record c.args.shared.now { clock = c.args.shared.now.clock + c.args.by; seats = with_items c.args.shared.now.seats c.reach_all.new.seats }) c.args.by (with_items_is seats c.reach_all.new.seats many ∙ reach) refl whole
