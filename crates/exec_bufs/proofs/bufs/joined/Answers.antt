use Rattle.std.proofs.Common.{◌≡◌, get_or, sym, ◌∙◌}
use Rattle.exec_bufs.proofs.Chunks.{concat-take_next}
use Rattle.exec_bufs.proofs.bufs.joined.Goals as goal

pub loop-chunk-preserved : goal.loop-chunk-preserved
loop-chunk-preserved c =
    let chunks = c.args.chunks.now in
    let at = c.loop-chunk.chunk-index in
    let next : c.as_slice.result.now ≡ get_or chunks at c.chunk-item.result = c.as_slice.ensures ∙ c.chunk-item.is in
    rw (c.in_ok-extend_from_slice.ensures.items, c.loop-chunk.invariant, next) (sym (concat-take_next chunks at c.chunk-item.result c.loop-chunk-test.true))
