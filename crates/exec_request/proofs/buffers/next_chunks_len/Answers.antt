use Rattle.std.proofs.{Common.{arith, ℕ, List, ◌≤◌, ◌+◌, ◌-◌, ◌≡◌, ◌∙◌, length, ap, inl, inr, take, drop}, lemmas.Bool.cases_lt}
use Rattle.exec_bufs.specs.Buffers.{total}
use Rattle.exec_request.proofs.Chunks.{batch-next, batch-within, batch-end}
use Rattle.exec_request.proofs.buffers.next_chunks_len.Goals as goal

pub overflow_add-sum : goal.overflow_add-sum
overflow_add-sum c = grind (arith, batch-within)

pub loop-index-preserved : goal.loop-index-preserved
loop-index-preserved c = grind (arith, batch-next)

pub returns : goal.returns
returns c =
    let bufs = c.args.bufs.now in
    let n : ℕ = c.loop-index.index - c.args.chunk in
    let D : List (List ℕ) = drop c.args.chunk bufs in
    elim (cases_lt (c.args.chunk + 1024) (length bufs)) [
      | inl more ↦
          let whole : n ≡ 1024 = omega (arith, c.chunk_count.ensures, c.chunk_count.type_inv, c.saturating_add.ensures, c.min-end.ensures, c.loop-index-test.false, c.loop-index.auto.index-end, c.loop-index.auto.index) in
          c.loop-index.invariant ∙ ap (λ k. total (take k D)) whole
      | inr less ↦
          let end : length bufs ≤ c.args.chunk + n = omega (arith, c.chunk_count.ensures, c.ranges.chunk.fits, c.saturating_add.ensures, c.min-end.ensures, c.loop-index-test.false, c.loop-index.auto.index) in
          c.loop-index.invariant ∙ batch-end bufs c.args.chunk n 1024 end less
    ]
