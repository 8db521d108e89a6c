-- Lists of chunks, up to a position.
use Rattle.std.{proofs.{Common.{◌≡◌, ℕ, ◌+◌, ◌<◌, List, [], ◌∷◌, ◌++◌, length, take, get_or, refl, sym, ap, ◌∙◌, arith, length-append}, lemmas.{List.{append-nil, Sums.sum_by-cons, Folds.concat-append}, Grind.common_steps}}, specs.List.concat}
use Rattle.exec_bufs.specs.Buffers.{total}

-- the bytes up to the next chunk
pub concat-take_next : (chunks : List (List ℕ)) (i : ℕ) (d : List ℕ) → i < length chunks → concat (take (i + 1) chunks) ≡ concat (take i chunks) ++ get_or chunks i d
concat-take_next chunks i d within = grind (arith, common_steps, concat-append)

-- as many bytes as the chunks have
pub length-concat : (chunks : List (List ℕ)) → length (concat chunks) ≡ total chunks
length-concat [] = refl
length-concat (chunk ∷ chunks) = length-append chunk (concat chunks) ∙ ap (λ n. length chunk + n) (length-concat chunks) ∙ sym (sum_by-cons length chunk chunks)

-- the bytes with one more chunk at the end
pub concat-push : (chunks : List (List ℕ)) (chunk : List ℕ) → concat (chunks ++ chunk ∷ []) ≡ concat chunks ++ chunk
concat-push chunks chunk = concat-append chunks (chunk ∷ []) ∙ ap (λ bs. concat chunks ++ bs) (append-nil chunk)
