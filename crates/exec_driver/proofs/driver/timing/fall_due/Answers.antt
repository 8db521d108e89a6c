use Rattle.std.proofs.Common.{◌≡◌, true, rules, ◌∙◌, refl}
use Rattle.exec_driver.proofs.{Words.{is_some, waiter_at, tick_of, is_enrolled}, Expiring.enrolled_is}
use Rattle.exec_lists.proofs.Shifts.{room_here}
use Rattle.exec_driver.proofs.driver.timing.fall_due.Goals as goal

pub fall_due-requires : goal.fall_due-requires
fall_due-requires g c =
    let some : is_some (tick_of (waiter_at c.args.waiters.now c.args.id.0)) ≡ true = search rules in
    record { room = λ out. room_here is_enrolled c.args.waiters.now c.args.id _ _ refl c.requires.listed out (enrolled_is (waiter_at c.args.waiters.now c.args.id.0) ∙ some) c.requires.room }
