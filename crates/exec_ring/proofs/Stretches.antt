-- Stretches of bytes: of a window that is filled piece by piece, and of a file that is written over, page by page.
use Rattle.std.{proofs.{Common.{◌≡◌, ℕ, zero, suc, ◌+◌, ◌<◌, ◌≤◌, List, ◌++◌, length, get_or, take, drop, drop-cons, replicate, refl, ap, ◌∙◌, arith, inl, inr, ◌/◌, ◌%◌, Some, length-append, Bool, [], append-nil}, lemmas.{Grind.common_steps, List.{get_or-take, get_or-drop, length-take, length-drop, take_all, drop-drop}, Bool.{cases_eq, Decides.nat_tests}}, Math.{Seq.{get_or-append_right, drop-append-add}, ListN.get_or-append}}, specs.{Ordering.nat_cmp, BTreeMap.get}}
use Rattle.exec_ring.specs.{Files.{values_from, byte_over, bytes_of, overwritten, byte_at, byte_in}, declared.file.{File.File, Page.Page}, Fillings.Fills}
use Rattle.exec_bufs.{specs.Buffers.{Buffer, resized}, proofs.Poured.length-resized}
use Rattle.exec_request.specs.{declared.request.Request.Request, Requests.{window_by, cursor_of}, Bytes.{lent_of, filled_of, filled_at}, Kept.{kept_of, owned_by}}

-- a list that is long enough is cut, nothing is filled up with zeros, and a cut list is as long as it was cut
pub resized-long : (n : ℕ) (xs : List ℕ) → n ≤ length xs → resized n xs ≡ take n xs
resized-long n xs long = grind (arith, common_steps, append-nil)

pub resized-none : (n : ℕ) → resized n [] ≡ replicate n 0
resized-none n = grind (arith, common_steps)

pub resized-cut : (n : ℕ) (xs : List ℕ) → resized n (take n xs) ≡ resized n xs
resized-cut n xs = grind (arith, common_steps, take_all, length-take)

-- bytes at a place, and then more right after them
cut_after : (p n : ℕ) (front xs rest : List ℕ) → length front ≡ p → length xs ≡ n → resized (p + n) (front ++ (xs ++ rest)) ≡ front ++ xs
cut_after p n front xs rest lf lx = grind (arith, common_steps, resized-long)

drop_after : (p n m : ℕ) (front xs rest : List ℕ) → length front ≡ p → length xs ≡ n → drop ((p + n) + m) (front ++ (xs ++ rest)) ≡ drop m rest
drop_after p n m front xs rest lf lx =
    let place : (p + n) + m ≡ length front + (length xs + m) = omega arith in
    rw place (drop-append-add front (xs ++ rest) (length xs + m) ∙ drop-append-add xs rest m)

filled_at-next : (p : ℕ) (xs ys : List ℕ) (b : Buffer) → filled_at (p + length xs) ys (filled_at p xs b) ≡ filled_at p (xs ++ ys) b
filled_at-next p xs ys b = grind (arith, common_steps, cut_after, drop_after, drop-drop, length-resized)

pub Fills-next : (old mid new : Request) (n : ℕ) (xs ys : List ℕ) → length xs ≡ n → Fills old mid xs → lent_of new ≡ filled_at (filled_of mid + n) ys (lent_of mid) → kept_of new ≡ record (kept_of mid) { owned = owned_by new } → filled_of new ≡ filled_of mid → cursor_of new ≡ cursor_of mid → ((h : Bool) → window_by h new ≡ window_by h mid) → Fills old new (xs ++ ys)
Fills-next old mid new n xs ys long first buffer kept place cursor window = grind (arith, filled_at-next)

-- a part of a list, as values of a function
pub values_from-part : (value : ℕ → ℕ) (xs : List ℕ) (k s n : ℕ) → s + n ≤ length xs → ((i : ℕ) → i < n → value (k + i) ≡ get_or xs (s + i) 0) → take n (drop s xs) ≡ values_from value k n
values_from-part value xs k s zero within same = refl
values_from-part value xs k s (suc n) within same =
    let rest = values_from-part value xs (k + 1) (suc s) n (omega arith) (λ i below. let h = same (i + 1) (omega arith) in grind (arith, h)) in
    grind (arith, drop-cons, rest, same 0)

-- zeros
pub values_from-zeros : (value : ℕ → ℕ) (k n : ℕ) → ((i : ℕ) → i < n → value (k + i) ≡ 0) → replicate n 0 ≡ values_from value k n
values_from-zeros value k zero same = refl
values_from-zeros value k (suc n) same =
    let rest = values_from-zeros value (k + 1) n (λ i below. let h = same (i + 1) (omega arith) in grind (arith, h)) in
    grind (arith, rest, same 0)

-- so many, and then more
pub values_from-append : (value : ℕ → ℕ) (k a b : ℕ) → values_from value k (a + b) ≡ values_from value k a ++ values_from value (k + a) b
values_from-append value k zero b = grind arith
values_from-append value k (suc a) b =
    let count : suc a + b ≡ suc (a + b) = omega arith in
    rw count (grind (arith, values_from-append value (k + 1) a b))

pub length-values_from : (value : ℕ → ℕ) (k n : ℕ) → length (values_from value k n) ≡ n
length-values_from value k zero = refl
length-values_from value k (suc n) = ap suc (length-values_from value (k + 1) n)

-- a stretch, and then the stretch after it
pub byte_over-next : (o a b : ℕ) (bs : List ℕ) (f g h : ℕ → ℕ) → ((k : ℕ) → g k ≡ byte_over o (take a bs) f k) → ((k : ℕ) → h k ≡ byte_over (o + a) (take b (drop a bs)) g k) → (k : ℕ) → h k ≡ byte_over o (take (a + b) bs) f k
byte_over-next o a b bs f g h first second k = grind (arith, nat_tests, get_or-take, get_or-drop, length-take, length-drop, first k, second k)

-- an offset in the page of an earlier one
pub byte_at-page : (f : File) (o i : ℕ) → o % 4096 + i < 4096 → byte_at f (o + i) ≡ byte_in (get nat_cmp f.pages (o / 4096)) (o % 4096 + i)
byte_at-page f o i within =
    let number : (o + i) / 4096 ≡ o / 4096 = omega arith in
    let place : (o + i) % 4096 ≡ o % 4096 + i = omega arith in
    rw (number, place) refl

-- what a list that was written over has at a place
overwritten_byte : (o s k j : ℕ) (xs ps : List ℕ) (f : ℕ → ℕ) → s + length xs ≤ length ps → j + o ≡ s + k → f k ≡ get_or ps j 0 → get_or (overwritten s xs ps) j 0 ≡ byte_over o xs f k
overwritten_byte o s k j xs ps f fits place was = grind (arith, nat_tests, get_or-append, get_or-append_right, get_or-take, get_or-drop, length-append, length-take, length-drop)

-- a file of which one page was written over
pub page_over : (old new : File) (p q : Page) (o : ℕ) (xs : List ℕ) → length (bytes_of p) ≡ 4096 → o % 4096 + length xs ≤ 4096 → bytes_of q ≡ overwritten (o % 4096) xs (bytes_of p) → get nat_cmp old.pages (o / 4096) ≡ Some p → get nat_cmp new.pages (o / 4096) ≡ Some q → ((m : ℕ) → (m ≡ o / 4096 → ⊥) → get nat_cmp new.pages m ≡ get nat_cmp old.pages m) → (k : ℕ) → byte_at new k ≡ byte_over o xs (byte_at old) k
page_over old new p q o xs full within written was there others k =
    elim (cases_eq (k / 4096) (o / 4096)) [
      | inl same ↦
          let new_byte : byte_at new k ≡ get_or (overwritten (o % 4096) xs (bytes_of p)) (k % 4096) 0 = rw (same, there, written) refl in
          new_byte ∙ overwritten_byte o (o % 4096) k (k % 4096) xs (bytes_of p) (byte_at old) (omega arith) (omega arith) (rw (same, was) refl)
      | inr apart ↦ ap (λ b. byte_in b (k % 4096)) (others (k / 4096) apart) ∙ grind (arith, nat_tests)
    ]
