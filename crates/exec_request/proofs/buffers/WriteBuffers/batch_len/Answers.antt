use Rattle.std.proofs.{Common.{arith, ◌+◌, ◌==◌, ◌≤◌, ◌≡◌, true, [], length, take, subst, get_or}, lemmas.Bool.and_parts}
use Rattle.exec_bufs.specs.Buffers.{total}
use Rattle.exec_request.{specs.{Buffers.is_sound, declared.buffers.WriteBuffers.WriteBuffers}, proofs.{Chunks.{batch-left, batch-first, within-chunk}, buffers.WriteBuffers.batch_len.Goals.{in-Single, in-Vectored}}}
use borrow.Author.Tests.{eqb-true}
use Rattle.exec_request.proofs.buffers.WriteBuffers.batch_len.Goals as goal

pub returns-clause-left : goal.returns-clause-left
returns-clause-left c =
    let sound : WriteBuffers → Type 0 = λ v. is_sound v ≡ true in
    elim c.match-self.branch [
      | in-Single w ↦ grind arith
      | in-Vectored w ↦
          let all = w.in-Vectored in
          let bufs = all.bufs in
          let parts = and_parts ((total (take all.chunk bufs) + all.offset) + all.remaining == total bufs) _ (subst sound all.is c.requires) in
          let sum : (total (take all.chunk bufs) + all.offset) + all.remaining ≡ total bufs = eqb-true _ _ parts.0 in
          let begun : all.offset ≤ length (get_or bufs all.chunk []) = within-chunk _ _ parts.1 in
          rw all.is (omega (arith, c.min.ensures, w.left-is, w.next_chunks_len.ensures, sum, begun, batch-left bufs all.chunk 1024, batch-first bufs all.chunk))
    ]
