use Rattle.std.proofs.{Common.{◌≡◌, ◌+◌, ◌^◌, ◌<◌, true, sym, ◌∙◌, rules, arith}, lemmas.{Grind.common_steps, Bool.not-false}}
use Rattle.exec_request.specs.Requests.{window_by}
use Rattle.exec_ring.proofs.Flights.{same_windows}
use Rattle.exec_ring.proofs.landing.is_ready.Goals as goal

pub returns-then-is_some : goal.returns-then-is_some
returns-then-is_some c =
    let same = same_windows c.window.result c.args.window (not-false _ (sym c.ne.ensures ∙ c.if-ne.false)) in
    let hinted : c.window.result ≡ window_by true c.args.request.now = rw c.new.ensures at c.window.ensures.window in
    let ends : c.args.window.offset + c.args.window.length < 2 ^ 64 = search rules in
    rw c.in-Count.is (λ room. record { window = sym hinted ∙ same; ends = ends; room = c.has_room.ensures.0 room }, λ ready. c.has_room.ensures.1 ready.room)

pub returns-then-ne : goal.returns-then-ne
returns-then-ne c = grind (arith, common_steps)
