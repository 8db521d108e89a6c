-- What the loops over chunks do.
use Rattle.std.proofs.{Common.{◌≡◌, ℕ, suc, ◌+◌, ◌-◌, ◌≤◌, List, [], ◌∷◌, length, take, drop, min, sum_by, replicate, refl, sym, ap, ◌∙◌, arith, length-append, length-drop}, lemmas.List.{take-append-drop, length-take, length-take-le, length-replicate, Sums.sum_by-cons, Concat.length-flat_map}}
use Rattle.exec_bufs.specs.Buffers.{Buffer, resized, bytes_of, filled, room, cuts, spread}

-- buffers that keep their lengths, with these bytes in them
abbrev pub poured : List ℕ → List Buffer → List Buffer
poured bytes [] = []
poured bytes (b ∷ bs) = record b { bytes = take (length b.bytes) bytes } ∷ poured (drop (length b.bytes) bytes) bs

-- a list with no element
pub empty_of_length : {X : Type 0} (xs : List X) → length xs ≡ 0 → [] ≡ xs
empty_of_length [] none = refl
empty_of_length (x ∷ xs) none = absurd (omega (arith, none))

-- how many bytes there are with one more buffer
pub filled-cons : (b : Buffer) (bs : List Buffer) → filled (b ∷ bs) ≡ length b.bytes + filled bs
filled-cons b bs = sum_by-cons (λ (x : Buffer). length x.bytes) b bs

-- how much room there is with one more buffer
pub room-cons : (b : Buffer) (bs : List Buffer) → room (b ∷ bs) ≡ b.capacity + room bs
room-cons b bs = sum_by-cons (λ (x : Buffer). x.capacity) b bs

-- what is left to pour fits the buffers that are left
pub pour_rest : (bytes : List ℕ) (b : Buffer) (bs : List Buffer) → length bytes ≡ filled (b ∷ bs) → length (drop (length b.bytes) bytes) ≡ filled bs
pour_rest bytes b bs fits = omega (arith, length-drop (length b.bytes) bytes, fits, filled-cons b bs)

-- the bytes that were poured
pub bytes_of-poured : (bytes : List ℕ) (bs : List Buffer) → length bytes ≡ filled bs → bytes_of (poured bytes bs) ≡ bytes
bytes_of-poured bytes [] fits = empty_of_length bytes fits
bytes_of-poured bytes (b ∷ bs) fits =
    rw (bytes_of-poured (drop (length b.bytes) bytes) bs (pour_rest bytes b bs fits)) (take-append-drop (length b.bytes) bytes)

-- the cuts that stayed
pub cuts-poured : (bytes : List ℕ) (bs : List Buffer) → length bytes ≡ filled bs → cuts (poured bytes bs) ≡ cuts bs
cuts-poured bytes [] fits = refl
cuts-poured bytes (b ∷ bs) fits =
    let enough : length b.bytes ≤ length bytes = omega (arith, fits, filled-cons b bs) in
    rw (cuts-poured (drop (length b.bytes) bytes) bs (pour_rest bytes b bs fits), length-take-le (length b.bytes) bytes enough) refl

-- a sum over buffers, by their cuts
pub sum_of_cuts : (f : ℕ × ℕ → ℕ) (bs : List Buffer) → sum_by (λ (b : Buffer). f (length b.bytes, b.capacity)) bs ≡ sum_by f (cuts bs)
sum_of_cuts f [] = refl
sum_of_cuts f (b ∷ bs) =
    sum_by-cons (λ (x : Buffer). f (length x.bytes, x.capacity)) b bs ∙ ap (λ n. f (length b.bytes, b.capacity) + n) (sum_of_cuts f bs) ∙ sym (sum_by-cons f (length b.bytes, b.capacity) (cuts bs))

-- buffers with the same cuts have as many bytes
pub filled-cuts : (bs cs : List Buffer) → cuts bs ≡ cuts cs → filled bs ≡ filled cs
filled-cuts bs cs same =
    let first : ℕ × ℕ → ℕ = λ p. p.0 in
    sum_of_cuts first bs ∙ ap (sum_by first) same ∙ sym (sum_of_cuts first cs)

-- and as much room
pub room-cuts : (bs cs : List Buffer) → cuts bs ≡ cuts cs → room bs ≡ room cs
room-cuts bs cs same =
    let second : ℕ × ℕ → ℕ = λ p. p.1 in
    sum_of_cuts second bs ∙ ap (sum_by second) same ∙ sym (sum_of_cuts second cs)

-- the length of a list that was cut or filled up
pub length-resized : (n : ℕ) (xs : List ℕ) → length (resized n xs) ≡ n
length-resized n xs =
    omega (arith, length-append (take n xs) (replicate (n - length xs) 0), length-take n xs, length-replicate {A = ℕ} (n - length xs) 0)

-- how many bytes there are after lengths were given
pub filled-spread : (n : ℕ) (bs : List Buffer) → filled (spread n bs) ≡ min n (room bs)
filled-spread n [] = omega arith
filled-spread n (b ∷ bs) =
    let first : Buffer = record b { bytes = resized (min n b.capacity) b.bytes } in
    let here : length (resized (min n b.capacity) b.bytes) ≡ min n b.capacity = length-resized (min n b.capacity) b.bytes in
    omega (arith, filled-cons first (spread (n - b.capacity) bs), here, filled-spread (n - b.capacity) bs, room-cons b bs)

-- the room stays
pub room-spread : (n : ℕ) (bs : List Buffer) → room (spread n bs) ≡ room bs
room-spread n [] = refl
room-spread n (b ∷ bs) =
    let first : Buffer = record b { bytes = resized (min n b.capacity) b.bytes } in
    room-cons first (spread (n - b.capacity) bs) ∙ ap (λ m. b.capacity + m) (room-spread (n - b.capacity) bs) ∙ sym (room-cons b bs)

-- as many bytes as the buffers have
pub length-bytes_of : (bs : List Buffer) → length (bytes_of bs) ≡ filled bs
length-bytes_of bs = length-flat_map (λ (b : Buffer). b.bytes) bs

-- as many buffers as before
pub length-spread : (n : ℕ) (bs : List Buffer) → length (spread n bs) ≡ length bs
length-spread n [] = refl
length-spread n (b ∷ bs) = ap suc (length-spread (n - b.capacity) bs)

-- as many cuts as buffers
pub length-cuts : (bs : List Buffer) → length (cuts bs) ≡ length bs
length-cuts [] = refl
length-cuts (b ∷ bs) = ap suc (length-cuts bs)
