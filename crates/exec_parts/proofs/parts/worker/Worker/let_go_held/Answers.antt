use Rattle.std.proofs.Common.{refl}
use Rattle.exec_parts.{specs.Ending.LetsGoOne.{here, elsewhere}, proofs.MailHeld.{passed}}
use Rattle.exec_parts.proofs.parts.worker.Worker.let_go_held.Goals.{then-held-self, else-held-self}
use Rattle.exec_parts.proofs.parts.worker.Worker.let_go_held.Goals as goal

pub loop-held-preserved : goal.loop-held-preserved
loop-held-preserved g c =
    elim c.if-held-self.branch [
      | then-held-self w ↦ rw (w.self-is, w.shared-is) (passed c.loop-held.invariant c.loop-held-test.true _ w.orphan_request.new.self w.orphan_request.new.shared (here w.if-held-self.true w.orphan_request.ensures.lets))
      | else-held-self w ↦ rw (w.self-is, w.shared-is) (passed c.loop-held.invariant c.loop-held-test.true _ c.loop-held.self c.loop-held.shared (elsewhere w.if-held-self.false refl refl))
    ]
