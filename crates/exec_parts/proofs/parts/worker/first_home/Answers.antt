use Rattle.std.proofs.Common.{refl, ap, ◌∙◌}
use Rattle.exec_time.specs.Layouts.{slots_of}
use Rattle.exec_parts.proofs.LeafPowers.{slots_of_wheel}
use Rattle.exec_parts.proofs.parts.worker.first_home.Goals as goal

pub new-requires-2-clause-layout : goal.new-requires-2-clause-layout
new-requires-2-clause-layout c =
    let k = c.args.configuration.now in
    rw (ap (λ n. slots_of n k.tick) c.max-longest.ensures ∙ slots_of_wheel k c.requires.ranges) refl
