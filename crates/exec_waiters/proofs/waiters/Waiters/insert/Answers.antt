use Rattle.std.proofs.Common.{◌≡◌, true, false, refl, arith}
use Rattle.std.proofs.lemmas.Grind.{common_steps}
use Rattle.exec_waiters.specs.States.{is_full}
use Rattle.exec_waiters.proofs.Changes.{kept_inserted, none_held_by, used_up}
use Rattle.exec_waiters.proofs.waiters.Waiters.insert.Goals as goal

pub returns-in_default-clause-refused : goal.returns-in_default-clause-refused
returns-in_default-clause-refused g c =
    let full : is_full c.args.self.now ≡ true = grind (arith, common_steps) in
    (refl, full, rw c.self.view_is at (used_up c.self.inside.entries _ _ (rw (← c.self.view_is) at full) c.self.invariant))

pub invariant_of-self : goal.invariant_of-self
invariant_of-self g c =
    let lower = c.min-self-inside in
    let free : is_full c.self.inside.entries ≡ false = grind (arith, common_steps) in
    let none = none_held_by c.self.inside.entries c.insert.new.self c.in-Ok.id _ c.self.inside.held_from lower.result c.in-Ok.ensures.map (λ below. absurd (omega (arith, below, lower.ensures))) (omega (arith, lower.ensures)) c.self.invariant.none_held in
    rw (c.in-Ok.ensures.inserted, c.new.ensures) (kept_inserted _ _ _ c.insert.new.self.room _ _ free c.requires.suits (rw (c.in-Ok.ensures.inserted, c.new.ensures) at none) c.self.invariant)
