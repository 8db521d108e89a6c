use Rattle.std.proofs.{Common.{arith, refl}, lemmas.Grind.elements}
use Rattle.exec_serving.proofs.{Entered.last_entered, Advancing.advanced_on, PermitPasses.permit_passed, PermitSignals.{holder_latched, holder_raised}, Sampling.sampled}
use Rattle.exec_serving.proofs.service.service.Goals as goal

pub returns-in-Sample : goal.returns-in-Sample
returns-in-Sample g c =
    record { steps = sampled g.B.Body.left g.B.Scripted.spot c.args.service c.args.worker.now c.sample.new.worker c.args.shared.now c.sample.new.shared c.sample.result (rw c.in-Sample.is at c.requires.sound) c.sample.ensures.makes c.sample.ensures.same c.sample.ensures.word }

pub returns-in-EnterLast : goal.returns-in-EnterLast
returns-in-EnterLast g c =
    record { steps = last_entered g.B.Body.left g.B.Scripted.spot c.args.service c.args.worker.now c.enter_last.new.worker c.args.shared.now c.enter_last.new.shared c.enter_last.result (rw c.in-EnterLast.is at c.requires.sound) c.enter_last.ensures.enters c.enter_last.ensures.goes }

pub returns-in-PassPermit : goal.returns-in-PassPermit
returns-in-PassPermit g c =
    record {
      steps = permit_passed g.B.Body.left g.B.Scripted.spot c.in-PassPermit.file c.in-PassPermit.back c.args.service c.args.worker.now c.pass_permit.new.worker c.args.shared.now (record c.args.shared.now { opens = c.pass_permit.new.opens }) c.pass_permit.result (rw c.in-PassPermit.is at c.requires.sound) c.requires.whole
          c.pass_permit.ensures.event c.pass_permit.ensures.opens refl c.pass_permit.ensures.goes;
    }

pub returns-in-Signal : goal.returns-in-Signal
returns-in-Signal g c =
    record {
      steps = holder_latched g.B.Body.left g.B.Scripted.spot c.in-Signal.other c.in-Signal.back c.args.service c.args.worker.now c.signal_holder.new.worker c.args.shared.now c.signal_holder.new.shared c.signal_holder.result (rw c.in-Signal.is at c.requires.sound) c.signal_holder.ensures.makes c.signal_holder.ensures.goes c.signal_holder.ensures.word;
    }

pub returns-in-Raise : goal.returns-in-Raise
returns-in-Raise g c =
    record {
      steps = holder_raised g.B.Body.left g.B.Scripted.spot c.in-Raise.ring c.in-Raise.other c.in-Raise.back c.args.service c.args.worker.now c.raise_holder.new.worker c.args.shared.now c.raise_holder.new.shared c.raise_holder.result (rw c.in-Raise.is at c.requires.sound) c.raise_holder.ensures.event c.raise_holder.ensures.goes c.raise_holder.ensures.chair c.raise_holder.ensures.kept;
    }

pub returns-in-AdvanceWheel : goal.returns-in-AdvanceWheel
returns-in-AdvanceWheel g c =
    record { steps = advanced_on g.B.Body.left g.B.Scripted.spot c.args.service c.args.worker.now c.advance_wheel.new.worker c.args.shared.now c.advance_wheel.result (rw c.in-AdvanceWheel.is at c.requires.sound) c.advance_wheel.ensures.event c.advance_wheel.ensures.driver c.advance_wheel.ensures.punctual c.advance_wheel.ensures.same }

pub sample-requires : goal.sample-requires
sample-requires g c = grind (arith, elements)

pub enter_last-requires-clause-there : goal.enter_last-requires-clause-there
enter_last-requires-clause-there g c = grind (arith, elements)
