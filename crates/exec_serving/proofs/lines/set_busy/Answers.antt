use Rattle.std.proofs.Common.{true, refl}
use Rattle.exec_parts.specs.View.{driver_of}
use Rattle.exec_serving.proofs.Setting.{set_beside, set_sound}
use Rattle.exec_serving.proofs.lines.set_busy.Goals as goal

pub returns-clause-sound : goal.returns-clause-sound
returns-clause-sound g c = set_sound c.args.worker.now _ c.args.shared.now true (driver_of c.args.worker.now).ring.last c.requires.sound c.busy.ensures.set refl

pub returns-clause-beside : goal.returns-clause-beside
returns-clause-beside g c = set_beside c.args.worker.now _ c.args.shared.now refl
