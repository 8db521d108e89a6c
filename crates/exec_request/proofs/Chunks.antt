-- Sums over the chunks of a list, up to a place in it and from there on.
use Rattle.std.proofs.{Common.{◌≡◌, ℕ, ◌+◌, ◌-◌, ◌<◌, ◌≤◌, true, List, [], length, take, drop, get_or, sym, ap, ◌∙◌, arith, length-drop, inl, inr, lit<, add-zero}, lemmas.{Bool.cases_lt, List.{get_or-drop, take_all, get_or-take, get_or_past, length-take, Sums.{sum_by_more, sum_by_more_le, sum_by-take-le, sum_by-take-drop}}}}
use Rattle.exec_bufs.specs.Buffers.{total}
use Rattle.exec_request.specs.Buffers.{is_within}

-- the sum of the next chunks from a place on, with one more
pub batch-next : (bufs : List (List ℕ)) (chunk at : ℕ) → chunk ≤ at → at < length bufs → total (take (at + 1 - chunk) (drop chunk bufs)) ≡ total (take (at - chunk) (drop chunk bufs)) + length (get_or bufs at [])
batch-next bufs chunk at after there =
    let there' : at - chunk < length (drop chunk bufs) = omega (arith, length-drop chunk bufs) in
    let sum : chunk + (at - chunk) ≡ at = omega arith in
    let one : at + 1 - chunk ≡ (at - chunk) + 1 = omega arith in
    grind (arith, sum_by_more, get_or-drop)

pub batch-within : (bufs : List (List ℕ)) (chunk at : ℕ) → chunk ≤ at → at < length bufs → total (take (at - chunk) (drop chunk bufs)) + length (get_or bufs at []) ≤ total bufs
batch-within bufs chunk at after there =
    omega (arith, batch-next bufs chunk at after there, sum_by-take-le length (drop chunk bufs) (at + 1 - chunk), sum_by-take-drop length bufs chunk)

-- a batch is whole at its count or at the end of the list
pub batch-end : (bufs : List (List ℕ)) (chunk n count : ℕ) → length bufs ≤ chunk + n → length bufs ≤ chunk + count → total (take n (drop chunk bufs)) ≡ total (take count (drop chunk bufs))
batch-end bufs chunk n count ends less =
    ap total (take_all n (drop chunk bufs) (omega (arith, length-drop chunk bufs)) ∙ sym (take_all count (drop chunk bufs) (omega (arith, length-drop chunk bufs))))

-- a batch lies in what is left
pub batch-left : (bufs : List (List ℕ)) (chunk count : ℕ) → total (take count (drop chunk bufs)) + total (take chunk bufs) ≤ total bufs
batch-left bufs chunk count = omega (arith, sum_by-take-le length (drop chunk bufs) count, sum_by-take-drop length bufs chunk)

-- a place in a chunk has as many bytes of it before
pub within-chunk : (offset : ℕ) (chunk : List ℕ) → is_within offset chunk ≡ true → offset ≤ length chunk
within-chunk = grind arith

-- the first chunk of a batch is in it
pub batch-first : (bufs : List (List ℕ)) (chunk : ℕ) → length (get_or bufs chunk []) ≤ total (take 1024 (drop chunk bufs))
batch-first bufs chunk =
    elim (cases_lt chunk (length bufs)) [
      | inl there ↦
          let some : 0 < length (drop chunk bufs) = omega (arith, length-drop chunk bufs) in
          let at : get_or (drop chunk bufs) 0 [] ≡ get_or bufs chunk [] = get_or-drop chunk bufs 0 [] ∙ ap (λ i. get_or bufs i []) (add-zero chunk) in
          let first = sum_by_more_le length (take 1024 (drop chunk bufs)) 0 [] (omega (arith, length-take 1024 (drop chunk bufs), some)) in
          let same : get_or (take 1024 (drop chunk bufs)) 0 [] ≡ get_or (drop chunk bufs) 0 [] = get_or-take 1024 (drop chunk bufs) 0 [] (lit< tt) in
          omega (arith, first, ap length same, ap length at)
      | inr past ↦ omega (arith, ap length (get_or_past bufs chunk [] past))
    ]
