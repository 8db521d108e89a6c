use Rattle.std.proofs.Common.{length, ap, sym, ◌∙◌}
use Rattle.exec_bufs.{specs.Buffers.bytes_of, proofs.Poured.length-bytes_of}
use Rattle.exec_bufs.proofs.bufs_mut.IoBufsMut.len.Goals as goal

pub returns-clause-bytes : goal.returns-clause-bytes
returns-clause-bytes c = c.self.invariant ∙ sym (length-bytes_of c.self.inside.chunks.items) ∙ ap (λ chunks. length (bytes_of chunks)) c.self.view_is
