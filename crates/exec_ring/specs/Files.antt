-- The bytes of a file, and of its pages.
use Rattle.std.specs.{Prelude.{◌≡◌, ℕ, zero, suc, ◌+◌, ◌-◌, ◌/◌, ◌%◌, ◌<◌, ◌&&◌, List, [], ◌∷◌, ◌++◌, length, take, drop, slice_index, nat_le, nat_lt, Option, Some, None, IsSome, if◌then◌else◌}, Ordering.nat_cmp, BTreeMap.get}
use Rattle.exec_ring.specs.declared.file.{File.File, Page.Page}

abbrev pub bytes_of : Page → List ℕ
bytes_of p = p.bytes.items

-- a list with these bytes over it from a place on
abbrev pub overwritten : ℕ → List ℕ → List ℕ → List ℕ
overwritten at bytes old = take at old ++ bytes ++ drop (at + length bytes) old

-- a page that is not there has zeros
abbrev pub byte_in : Option Page → ℕ → ℕ
byte_in None at = 0
byte_in (Some p) at = slice_index (bytes_of p) at

-- the byte at an offset
abbrev pub byte_at : File → ℕ → ℕ
byte_at f k = byte_in (get nat_cmp f.pages (k / 4096)) (k % 4096)

-- so many values of a function, from a number on
abbrev pub values_from : (ℕ → ℕ) → ℕ → ℕ → List ℕ
values_from value k zero = []
values_from value k (suc n) = value k ∷ values_from value (k + 1) n

-- so many bytes from an offset on
abbrev pub bytes_from : File → ℕ → ℕ → List ℕ
bytes_from f offset n = values_from (byte_at f) offset n

abbrev pub HasPage : File → ℕ → Type 0
HasPage f number = IsSome (get nat_cmp f.pages number)

-- there is room for so many bytes from an offset on
abbrev pub Covers : File → ℕ → ℕ → Type 0
Covers f offset n = (k : ℕ) → k < n → HasPage f ((offset + k) / 4096)

-- no byte changed
abbrev pub SameBytes : File → File → Type 0
SameBytes old new = (k : ℕ) → byte_at new k ≡ byte_at old k

-- what there was room for there still is
abbrev pub KeepsPages : File → File → Type 0
KeepsPages old new = (number : ℕ) → HasPage old number → HasPage new number

-- the bytes from an offset on are these, and no other byte changed
abbrev pub byte_over : ℕ → List ℕ → (ℕ → ℕ) → ℕ → ℕ
byte_over offset bytes old k = if nat_le offset k && nat_lt k (offset + length bytes) then slice_index bytes (k - offset) else old k

abbrev pub Overwrites : File → File → ℕ → List ℕ → Type 0
Overwrites old new offset bytes = (k : ℕ) → byte_at new k ≡ byte_over offset bytes (byte_at old) k
