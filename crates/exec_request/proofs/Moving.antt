-- Lists whose parts are written over, and copied one after another.
use Rattle.std.{proofs.{Common.{◌≡◌, ℕ, ◌+◌, ◌-◌, ◌≤◌, ◌<◌, true, List, [], ◌++◌, length, take, drop, get_or, replicate, min, refl, sym, ap, ◌∙◌, arith, inl, inr, append_assoc, length-append, length-drop, length-take-le}, lemmas.{Bool.cases_lt, List.{append-nil, drop-drop, take-append-le, drop-append-le, take_all, drop_all, take_at, drop_more, drop-take, take-take, take_rest, take-append-drop, length-take, length-replicate, take-replicate, take_min, drop_min, Concat.{concat_is, length-flat_map, flat_map-append}, Sums.sum_by-take-le}, Slice.{take-put_mid, drop-put_mid}}, Math.Seq.{take-append-add, drop-append-add}}, specs.List.{concat, flat_map}}
use Rattle.exec_bufs.{specs.Buffers.{Buffer, resized, total}, proofs.Poured.length-resized}
use Rattle.exec_request.{specs.{Buffers.{is_sound, batch_of}, Bytes.{filled_at, batch_bytes}, declared.buffers.WriteBuffers.TheVariants.{Single, Vectored}}, proofs.Chunks.batch-first}
use borrow.Rule.Slice.PartMut.{put_mid}

-- a part of a list of which the rest comes from another
pub take-app : (n : ℕ) (xs ys : List ℕ) → take n (xs ++ ys) ≡ take n xs ++ take (n - length xs) ys
take-app n xs ys =
    elim (cases_lt n (length xs)) [
      | inl short ↦ grind (arith, take-append-le, append-nil)
      | inr long ↦
          let sum : n ≡ length xs + (n - length xs) = omega arith in
          grind (arith, take-append-add, take_all)
    ]

pub drop-app : (n : ℕ) (xs ys : List ℕ) → drop n (xs ++ ys) ≡ drop n xs ++ drop (n - length xs) ys
drop-app = grind (arith, cases_lt, drop-append-le, drop-append-add, drop_all)

-- a list in which bytes were written over a part, and zeros over the part behind it
pub overwritten : (at count : ℕ) (old w z : List ℕ) → length w ≤ count → at + count ≤ length old → z ≡ replicate (count - length w) 0 →
    put_mid (at + length w) (at + count - (at + length w)) (put_mid at (at + length w - at) old w) z ≡ take at old ++ (resized count w ++ drop (at + count) old)
overwritten at count old w z fits within zeros =
    let edge : ℕ = at + length w in
    let p : List ℕ = put_mid at (edge - at) old w in
    let front : take edge p ≡ take at old ++ w = take-put_mid at (edge - at) old w edge refl (omega (arith, within)) in
    let behind : drop (at + count - edge) (drop edge p) ≡ drop (at + count) old =
    drop-drop (at + count - edge) edge p
    ∙ (ap (λ k. drop k p) (omega (arith, fits))
    ∙ drop-put_mid at (edge - at) old w (at + count) (omega (arith, fits)) (omega (arith, within)) (omega arith)) in
    let filled : w ++ z ≡ resized count w = ap (λ (l : List ℕ). w ++ l) zeros ∙ ap (λ (l : List ℕ). l ++ replicate (count - length w) 0) (sym (take_all count w fits)) in
    grind (arith, append_assoc, filled)

-- a buffer that grew and was written over from a place on
pub filled : (at count : ℕ) (b : Buffer) (w new : List ℕ) →
    let grown : List ℕ = b.bytes ++ replicate (at + count - length b.bytes) 0 in
    new ≡ take at grown ++ (resized count w ++ drop (at + count) grown) → new ≡ (filled_at at (resized count w) b).bytes
filled = grind (arith, take-app, take-replicate, drop_all, length-replicate, drop-app, append-nil, length-resized)

-- a part of one list that was copied over a part of another
pub copied : (into b w : List ℕ) (done skip n from : ℕ) → from ≡ min skip (length b) → w ≡ take (from + n - from) (drop from b) →
    put_mid done (done + n - done) into w ≡ take done into ++ (take n (drop skip b) ++ drop (done + n) into)
copied = grind (arith, drop_min, drop-drop)

-- one more chunk is copied, as far as it fits
pub copied-next : (bufs : List (List ℕ)) (at done ahead n : ℕ) (into new : List ℕ) → done ≤ length into → at < length bufs →
    n ≡ min (length (get_or bufs at []) - ahead) (length into - done) →
    new ≡ take done into ++ (take n (drop ahead (get_or bufs at [])) ++ drop (done + n) into) →
    (take (done + n) new ++ take (length into - (done + n)) (drop (ahead - length (get_or bufs at [])) (concat (drop (at + 1) bufs)))
    ≡ take done into ++ take (length into - done) (drop ahead (concat (drop at bufs))))
copied-next bufs at done ahead n into new fits there count made =
    let b : List ℕ = get_or bufs at [] in
    let rest : List ℕ = concat (drop (at + 1) bufs) in
    let m : ℕ = length into - done in
    let xs : List ℕ = drop ahead b in
    let ys : List ℕ = drop (ahead - length b) rest in
    let size : length xs ≡ length b - ahead = length-drop ahead b in
    let few : n ≤ length xs = omega (arith, count, size) in
    let front : take (done + n) new ≡ take done into ++ take n xs =
    ap (take (done + n)) (made ∙ sym (append_assoc (take done into) (take n xs) (drop (done + n) into)))
    ∙ take_at (take done into ++ take n xs) (drop (done + n) into) (done + n) (omega (arith, length-append (take done into) (take n xs), length-take-le done into fits, length-take-le n xs few)) in
    let all : concat (drop at bufs) ≡ b ++ rest = ap concat (drop_more bufs at [] there) in
    let cut : take m xs ≡ take n xs = sym (take_min m xs) ∙ ap (λ k. take k xs) (omega (arith, count, size)) in
    let left : m - length xs ≡ length into - (done + n) = omega (arith, count, size, fits) in
    let whole : take m (drop ahead (concat (drop at bufs))) ≡ take n xs ++ take (length into - (done + n)) ys =
    ap (λ (l : List ℕ). take m (drop ahead l)) all
    ∙ (ap (take m) (drop-app ahead b rest)
    ∙ (take-app m xs ys
    ∙ (ap (λ (l : List ℕ). l ++ take (m - length xs) ys) cut
    ∙ ap (λ k. take n xs ++ take k ys) left))) in
    grind (arith, append_assoc)

pub length-concat : (bufs : List (List ℕ)) → length (concat bufs) ≡ total bufs
length-concat bufs = ap length (concat_is bufs) ∙ length-flat_map (λ (x : List ℕ). x) bufs

-- past the last chunk, what was copied is all
pub copied-all : (bufs : List (List ℕ)) (chunk skip at done ahead : ℕ) (into : List ℕ) (size : ℕ) → size ≡ length into → done ≤ length into → length bufs ≤ at → skip + size ≤ total (drop chunk bufs) →
    take done into ++ take (length into - done) (drop ahead (concat (drop at bufs))) ≡ take size (drop skip (concat (drop chunk bufs))) → into ≡ take size (drop skip (concat (drop chunk bufs)))
copied-all bufs chunk skip at done ahead into size same fits past enough made =
    let t : List ℕ = take size (drop skip (concat (drop chunk bufs))) in
    let none : take (length into - done) (drop ahead (concat (drop at bufs))) ≡ [] =
    ap (λ (l : List (List ℕ)). take (length into - done) (drop ahead (concat l))) (drop_all at bufs past)
    ∙ (ap (take (length into - done)) (drop_all ahead [] (omega arith)) ∙ take_all (length into - done) [] (omega arith)) in
    let short : take done into ≡ t = sym (append-nil (take done into)) ∙ (ap (λ (l : List ℕ). take done into ++ l) (sym none) ∙ made) in
    let long : length t ≡ size = length-take-le size (drop skip (concat (drop chunk bufs))) (omega (arith, length-drop skip (concat (drop chunk bufs)), length-concat (drop chunk bufs), enough)) in
    let full : done ≡ length into = omega (arith, ap length short, length-take-le done into fits, long, same) in
    sym (take_all done into (omega (arith, full))) ∙ short

-- what lies within a batch, and what is left of the chunks
pub within-batch : (n at m : ℕ) (xs : List ℕ) → at + n ≤ m → take n (drop at (take m xs)) ≡ take n (drop at xs)
within-batch n at m xs fits =
    let sum : m ≡ at + (m - at) = omega (arith, fits) in
    grind (arith, drop-take, take-take)

concat-split : (chunk : ℕ) (bufs : List (List ℕ)) → concat bufs ≡ concat (take chunk bufs) ++ concat (drop chunk bufs)
concat-split chunk bufs =
    let flat : (xs : List (List ℕ)) → concat xs ≡ flat_map (λ (x : List ℕ). x) xs = concat_is in
    ap concat (sym (take-append-drop chunk bufs))
    ∙ (flat (take chunk bufs ++ drop chunk bufs)
    ∙ (flat_map-append (λ (x : List ℕ). x) (take chunk bufs) (drop chunk bufs)
    ∙ (ap (λ (l : List ℕ). l ++ flat_map (λ (x : List ℕ). x) (drop chunk bufs)) (sym (flat (take chunk bufs)))
    ∙ ap (λ (l : List ℕ). concat (take chunk bufs) ++ l) (sym (flat (drop chunk bufs))))))

pub moved-drop : (bufs : List (List ℕ)) (chunk offset : ℕ) → drop (total (take chunk bufs) + offset) (concat bufs) ≡ drop offset (concat (drop chunk bufs))
moved-drop bufs chunk offset =
    let front : List ℕ = concat (take chunk bufs) in
    ap (λ (l : List ℕ). drop (total (take chunk bufs) + offset) l) (concat-split chunk bufs)
    ∙ (ap (λ k. drop (k + offset) (front ++ concat (drop chunk bufs))) (sym (length-concat (take chunk bufs)))
    ∙ drop-append-add front (concat (drop chunk bufs)) offset)

-- the place of several chunks, as numbers
pub record Placed (bufs : List (List ℕ)) (chunk offset remaining : ℕ) : Type 0 where
  pub sum : (total (take chunk bufs) + offset) + remaining ≡ total bufs
  pub begun : offset ≤ length (get_or bufs chunk [])

pub placed : (bufs : List (List ℕ)) (chunk offset remaining : ℕ) → is_sound (Vectored bufs chunk offset remaining) ≡ true → Placed bufs chunk offset remaining
placed = grind arith

-- a part of a batch of several chunks lies in them
pub part-fits : (bufs : List (List ℕ)) (chunk offset remaining at n : ℕ) → is_sound (Vectored bufs chunk offset remaining) ≡ true → at + n ≤ batch_of (Vectored bufs chunk offset remaining) → (offset + at) + n ≤ total (drop chunk bufs)
part-fits bufs chunk offset remaining at n sound fits =
    let at_place = placed bufs chunk offset remaining sound in
    omega (arith, at_place.begun, fits, batch-first bufs chunk, sum_by-take-le length (drop chunk bufs) 1024)

-- a part of a batch, as it was copied
pub part-of-several : (bufs : List (List ℕ)) (chunk offset remaining at n : ℕ) → is_sound (Vectored bufs chunk offset remaining) ≡ true → at + n ≤ batch_of (Vectored bufs chunk offset remaining) →
    take n (drop (offset + at) (concat (drop chunk bufs))) ≡ take n (drop at (batch_bytes (Vectored bufs chunk offset remaining)))
part-of-several = grind (arith, placed, moved-drop, drop-drop, within-batch)

pub part-of-one : (buf new : List ℕ) (offset at n : ℕ) → at + n ≤ batch_of (Single buf offset) → new ≡ take (at + n - at) (drop at (take (length buf - offset) (drop offset buf))) → new ≡ take n (drop at (batch_bytes (Single buf offset)))
part-of-one = grind (arith, copied, append-nil, take_rest, within-batch)
