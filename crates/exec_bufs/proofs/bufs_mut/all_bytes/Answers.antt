use Rattle.std.proofs.{Common.{◌≡◌, length, take, ap, ◌∙◌, refl}, lemmas.List.take_all}
use Rattle.exec_bufs.{specs.Buffers.{bytes_of, filled}, proofs.Poured.length-bytes_of}
use Rattle.exec_bufs.proofs.bufs_mut.all_bytes.Goals as goal

pub returns : goal.returns
returns c =
    let chunks = c.args.chunks.now in
    let whole : take c.loop-chunk.chunk-index chunks ≡ chunks = take_all c.loop-chunk.chunk-index chunks c.loop-chunk-test.false in
    let bytes : c.loop-chunk.bytes.items ≡ bytes_of chunks = c.loop-chunk.invariant ∙ ap bytes_of whole in
    let len : c.loop-chunk.bytes.len ≡ filled chunks = c.loop-chunk.bytes.ok.0 ∙ ap length bytes ∙ length-bytes_of chunks in
    rw (c.full.ensures, bytes, len) refl
