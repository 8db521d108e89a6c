use Rattle.std.{proofs.Common.{◌++◌, ap, ◌∙◌}, specs.List.concat}
use Rattle.exec_bufs.proofs.Chunks.{concat-push}
use Rattle.exec_bufs.proofs.bufs.IoBufs.push.Goals as goal

pub returns-clause-bytes : goal.returns-clause-bytes
returns-clause-bytes c =
    ap concat c.in_ok-push.ensures.items ∙ concat-push c.self.inside.chunks.items c.args.chunk ∙ ap (λ chunks. concat chunks ++ c.args.chunk) c.self.view_is
