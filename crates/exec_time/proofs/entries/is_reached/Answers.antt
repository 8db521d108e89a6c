use Rattle.std.proofs.{Common.{◌≡◌, ◌<◌, ◌≤◌, ◌-◌, ◌%◌, length, get_or, arith}, lemmas.{Grind.common_steps, List.get_or_default}}
use Rattle.exec_time.{specs.declared.entries.Entry.Entry, proofs.Buckets.none_there}
use Rattle.exec_time.proofs.entries.is_reached.Goals as goal

pub returns-in-Some : goal.returns-in-Some
returns-in-Some c =
    let es = c.args.entries.now in
    let none : Entry = record { tick = 0; id = record { index = 0; generation = 0 } } in
    let last = c.in-Some.last in
    let at : (1 ≤ c.end_of.result) × (last ≡ c.end_of.result - 1) = c.in-Some.ensures in
    record {
      none = λ other.
          let below : ((get_or es last none).tick % c.args.slots) < c.args.slot = grind (arith, common_steps, other, c.end_of.ensures.before last none (omega (arith, at.0, at.1))) in
          none_there es c.args.slots c.args.slot c.end_of.result
          (λ k d less.
          let inside : k < length es = omega (arith, c.end_of.ensures.within) in
          let up = c.requires.by_slot k last none (omega (arith, at.0, at.1)) (omega (arith, at.0, at.1, c.end_of.ensures.within)) in
          rw (get_or_default es k d none inside) (omega (arith, up, below)))
          c.end_of.ensures.past;
    }

pub returns-in-None : goal.returns-in-None
returns-in-None c =
    record {
      none = λ same. none_there c.args.entries.now c.args.slots c.args.slot c.end_of.result (λ k d less. absurd (c.in-None.ensures (omega arith))) c.end_of.ensures.past;
    }
