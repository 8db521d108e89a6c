use Rattle.std.proofs.Common.{zero, ◌≡◌, [], ℕ, suc, ◌-◌, ◌<◌, ap, ◌∙◌, arith}
use Rattle.exec_parts.specs.{Words.{Driving, seen, with_wake}, declared.parts.{mail.Reply.Reply, seat.Seat.Seat as Chair, worker.Worker.Worker}, Pooled.with_raises, View.driver_of}
use Rattle.exec_parts.proofs.parts.worker.Worker.take_raises.Goals as goal

-- one more wake is raised
one_more : (n : ℕ) (d d' : Driving Reply Reply) → 0 < n → d' ≡ record d { ring = with_wake d.ring; landings = d'.landings } → d'.landings ≡ [] → d.landings ≡ [] → with_raises (n - 1) d' ≡ with_raises n d
one_more zero d d' some raised after before = absurd (omega (arith, some))
one_more (suc n) d d' some raised after before = grind arith

pub loop-seat-preserved : goal.loop-seat-preserved
loop-seat-preserved c =
    let it = c.loop-seat.invariant in
    record {
      driver = one_more c.loop-seat.seat.raised (driver_of c.loop-seat.self) (seen c.raise.new.self) c.loop-seat-test.true c.raise.ensures.raised c.lands_nothing-in-loop-seat.ensures it.nothing ∙ it.driver;
      nothing = c.lands_nothing-in-loop-seat.ensures;
      same = ap (λ (v : Worker). record v { home = record v.home { driver = c.raise.new.self } }) it.same;
      rest = ap (λ (x : Chair). record x { raised = c.loop-seat.seat.raised - 1 }) it.rest;
    }
