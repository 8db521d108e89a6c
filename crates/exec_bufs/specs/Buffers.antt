-- Bytes with room, and lists of them.
use Rattle.std.specs.{Prelude.{◌≡◌, ℕ, ◌-◌, ◌^◌, ◌<◌, ◌≤◌, List, [], ◌∷◌, ◌++◌, length, take, replicate, All, sum_by, map, min}, List.flat_map}

-- bytes, and how many there is room for in all
pub record Buffer : Type 0 where
  pub bytes : List ℕ
  pub capacity : ℕ

-- the first n bytes, and zeros after their end
abbrev pub resized : ℕ → List ℕ → List ℕ
resized n bytes = take n bytes ++ replicate (n - length bytes) 0

-- the most bytes that a list of chunks has
abbrev pub most : ℕ
most = 2 ^ 63 - 1

-- a list of chunks after one more; an empty one is dropped
abbrev pub with_chunk : List (List ℕ) → List ℕ → List (List ℕ)
with_chunk chunks [] = chunks
with_chunk chunks (byte ∷ bytes) = chunks ++ (byte ∷ bytes) ∷ []

-- no chunk is empty
abbrev pub NoneEmpty : List (List ℕ) → Type 0
NoneEmpty chunks = All (λ chunk. 0 < length chunk) chunks

-- how many bytes the chunks have
abbrev pub total : List (List ℕ) → ℕ
total chunks = sum_by length chunks

-- the bytes of buffers, one after another
abbrev pub bytes_of : List Buffer → List ℕ
bytes_of buffers = flat_map (λ b. b.bytes) buffers

-- how many bytes buffers have
abbrev pub filled : List Buffer → ℕ
filled buffers = sum_by (λ b. length b.bytes) buffers

-- how many bytes buffers have room for
abbrev pub room : List Buffer → ℕ
room buffers = sum_by (λ b. b.capacity) buffers

-- where one buffer ends and the next begins: the length and the capacity of each
abbrev pub cuts : List Buffer → List (ℕ × ℕ)
cuts buffers = map (λ b. (length b.bytes, b.capacity)) buffers

-- buffers with n bytes in all: each is full before the next one has any
abbrev pub spread : ℕ → List Buffer → List Buffer
spread n [] = []
spread n (b ∷ bs) = record b { bytes = resized (min n b.capacity) b.bytes } ∷ spread (n - b.capacity) bs

-- buffers as one: a lone one as it is, and several as their bytes, with no room for more
abbrev pub joined : List Buffer → Buffer
joined [] = record { bytes = []; capacity = 0 }
joined (b ∷ []) = b
joined (b ∷ bs) = record { bytes = bytes_of (b ∷ bs); capacity = filled (b ∷ bs) }

-- how the bytes of a buffer lie in a vector of this length and capacity: from start to the vector's end, and the room to end
pub record LiesWithin (start end length capacity : ℕ) : Type 0 where
  pub begins : start ≤ length
  pub ends : length ≤ end
  pub fits : end ≤ capacity

-- chunks of which none is empty, with as many bytes as len
pub record AreChunks (chunks : List (List ℕ)) (len : ℕ) : Type 0 where
  pub sum : len ≡ total chunks
  pub at_most : len ≤ most
  pub full : NoneEmpty chunks
