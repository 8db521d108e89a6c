use Rattle.std.{proofs.Common.{length, ap, sym, ◌∙◌}, specs.List.concat}
use Rattle.exec_bufs.proofs.Chunks.{length-concat}
use Rattle.exec_bufs.proofs.bufs.IoBufs.len.Goals as goal

pub returns-clause-bytes : goal.returns-clause-bytes
returns-clause-bytes c = c.self.invariant.sum ∙ sym (length-concat c.self.inside.chunks.items) ∙ ap (λ chunks. length (concat chunks)) c.self.view_is
