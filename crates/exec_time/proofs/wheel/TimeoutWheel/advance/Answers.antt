use Rattle.std.proofs.Common.{◌≡◌, ◌∙◌, ap, Some, None, ℕ}
use Rattle.exec_time.{specs.{Wheel.Wheel, WheelView.wheel_of, Turning.{Turn, advanced, turned}}, proofs.Turns.{advanced_stays, advanced_moves, turned_early, turned_due, turned_idle}}
use Rattle.exec_time.proofs.wheel.TimeoutWheel.advance.Goals as goal

pub returns-then-tick-self-clause-wheel : goal.returns-then-tick-self-clause-wheel
unfolding wheel_of
returns-then-tick-self-clause-wheel c = ap (λ (t : Turn). t.wheel) (advanced_stays (wheel_of c.args.self.now) c.args.now c.tick_at-tick.result c.tick_at-tick.ensures c.if-tick-self.true)

pub returns-then-tick-self-clause-answer : goal.returns-then-tick-self-clause-answer
unfolding wheel_of
returns-then-tick-self-clause-answer c = ap (λ (t : Turn). t.answer) (advanced_stays (wheel_of c.args.self.now) c.args.now c.tick_at-tick.result c.tick_at-tick.ensures c.if-tick-self.true)

pub returns-in-None-clause-wheel : goal.returns-in-None-clause-wheel
unfolding wheel_of
returns-in-None-clause-wheel c =
    let w : Wheel = wheel_of c.args.self.now in
    let moves : turned w c.tick_at-tick.result None ≡ advanced w c.args.now = advanced_moves w c.args.now c.tick_at-tick.result None c.tick_at-tick.ensures c.if-tick-self.false c.in-None.ensures.least in
    rw c.clear.ensures.items (turned_idle w c.tick_at-tick.result w.slots ∙ ap (λ (t : Turn). t.wheel) moves)

pub returns-in-None-clause-answer : goal.returns-in-None-clause-answer
unfolding wheel_of
returns-in-None-clause-answer c =
    let w : Wheel = wheel_of c.args.self.now in
    let moves : turned w c.tick_at-tick.result None ≡ advanced w c.args.now = advanced_moves w c.args.now c.tick_at-tick.result None c.tick_at-tick.ensures c.if-tick-self.false c.in-None.ensures.least in
    ap (λ (t : Turn). t.answer) moves

pub returns-in-Some-clause-wheel : goal.returns-in-Some-clause-wheel
unfolding wheel_of
returns-in-Some-clause-wheel c =
    let w : Wheel = wheel_of c.args.self.now in
    let tick : ℕ = c.tick_at-tick.result in
    let moves : turned w tick (Some c.in-Some.least) ≡ advanced w c.args.now = advanced_moves w c.args.now tick (Some c.in-Some.least) c.tick_at-tick.ensures c.if-tick-self.false c.in-Some.ensures.least in
    ap (λ (t : Turn). t.wheel) (turned_early w tick c.in-Some.least c.if-tick-least.true ∙ moves)

pub returns-in-Some-clause-answer : goal.returns-in-Some-clause-answer
unfolding wheel_of
returns-in-Some-clause-answer c =
    let w : Wheel = wheel_of c.args.self.now in
    let tick : ℕ = c.tick_at-tick.result in
    let moves : turned w tick (Some c.in-Some.least) ≡ advanced w c.args.now = advanced_moves w c.args.now tick (Some c.in-Some.least) c.tick_at-tick.ensures c.if-tick-self.false c.in-Some.ensures.least in
    ap (λ (t : Turn). t.answer) (turned_early w tick c.in-Some.least c.if-tick-least.true ∙ moves)

pub returns-in-Some-2-clause-wheel : goal.returns-in-Some-2-clause-wheel
unfolding wheel_of
returns-in-Some-2-clause-wheel c =
    let w : Wheel = wheel_of c.args.self.now in
    let tick : ℕ = c.tick_at-tick.result in
    let moves : turned w tick (Some c.in-Some.least) ≡ advanced w c.args.now = advanced_moves w c.args.now tick (Some c.in-Some.least) c.tick_at-tick.ensures c.if-tick-self.false c.in-Some.ensures.least in
    c.turn_out.ensures.wheel ∙ ap (λ (t : Turn). t.wheel) (turned_due w tick c.in-Some.least c.if-tick-least.false ∙ moves)

pub returns-in-Some-2-clause-answer : goal.returns-in-Some-2-clause-answer
unfolding wheel_of
returns-in-Some-2-clause-answer c =
    let w : Wheel = wheel_of c.args.self.now in
    let tick : ℕ = c.tick_at-tick.result in
    let moves : turned w tick (Some c.in-Some.least) ≡ advanced w c.args.now = advanced_moves w c.args.now tick (Some c.in-Some.least) c.tick_at-tick.ensures c.if-tick-self.false c.in-Some.ensures.least in
    c.turn_out.ensures.answer ∙ ap (λ (t : Turn). t.answer) (turned_due w tick c.in-Some.least c.if-tick-least.false ∙ moves)
