use Rattle.std.proofs.{Common.{arith, ◌≡◌, ◌<◌, ◌≤◌, length, Some, refl}, lemmas.Grind.common_steps}
use Rattle.exec_time.{specs.WheelView.wheel_of, proofs.Ranges.{active_few, active_is_among, found_active}}
use Rattle.exec_time.proofs.wheel.TimeoutWheel.is_settled.Goals as goal

pub returns-in-None : goal.returns-in-None
unfolding wheel_of
returns-in-None c = (
  λ _. record {
    ahead = λ t active.
        let none : length c.args.self.now.active.items ≡ 0 = c.in-None.ensures.none in
        absurd (omega (arith, active_few c.args.self.now.active.items t));
  },
  λ _. refl,
)

pub returns-in-Some : goal.returns-in-Some
unfolding wheel_of
returns-in-Some c = (
  λ before. record {
    ahead = λ t active.
        let least : c.in-Some.tick ≤ t = active_is_among c.args.self.now.active.items c.in-Some.tick t c.in-Some.ensures.least active in
        let less : c.args.self.now.current < c.in-Some.tick = grind (arith, common_steps, before) in
        omega arith;
  },
  λ settled. grind (arith, common_steps, settled.ahead c.in-Some.tick (found_active (Some c.in-Some.tick) c.args.self.now.active.items c.in-Some.ensures.among)),
)
