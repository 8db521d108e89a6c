use Rattle.std.proofs.{Common.{◌≡◌, ◌+◌, ◌≤◌, List, ℕ, ◌++◌, ap, sym, ◌∙◌, arith, length, drop, take, append-nil}, lemmas.List.{take_all, drop_all}}
use Rattle.exec_bufs.{specs.Buffers.{Buffer, bytes_of, cuts}, proofs.Poured.{poured, bytes_of-poured, cuts-poured}}
use Rattle.exec_bufs.proofs.bufs_mut.pour.Goals as goal

-- past the last chunk, all is done
all_done : (bytes : List ℕ) (chunks : List Buffer) (at : ℕ) → length chunks ≤ at → take at chunks ++ poured bytes (drop at chunks) ≡ chunks
all_done bytes chunks at past = rw (drop_all at chunks past, take_all at chunks past) (append-nil chunks)

pub returns-clause-bytes : goal.returns-clause-bytes
returns-clause-bytes c =
    let past : length c.loop-chunk.chunk-items ≤ c.loop-chunk.chunk-index = omega (arith, c.loop-chunk-test.false, c.loop-chunk.auto.chunk-items) in
    let made : c.loop-chunk.chunk-items ≡ poured c.args.bytes.now c.args.chunks.now = sym (all_done c.loop-chunk.rest.now c.loop-chunk.chunk-items c.loop-chunk.chunk-index past) ∙ c.loop-chunk.invariant.0 in
    ap bytes_of made ∙ bytes_of-poured c.args.bytes.now c.args.chunks.now c.requires

pub returns-clause-cuts : goal.returns-clause-cuts
returns-clause-cuts c =
    let past : length c.loop-chunk.chunk-items ≤ c.loop-chunk.chunk-index = omega (arith, c.loop-chunk-test.false, c.loop-chunk.auto.chunk-items) in
    let made : c.loop-chunk.chunk-items ≡ poured c.args.bytes.now c.args.chunks.now = sym (all_done c.loop-chunk.rest.now c.loop-chunk.chunk-items c.loop-chunk.chunk-index past) ∙ c.loop-chunk.invariant.0 in
    ap cuts made ∙ cuts-poured c.args.bytes.now c.args.chunks.now c.requires
