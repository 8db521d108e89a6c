-- The set as a word: what the or, the and and the exchange of one bit make of it.
use Rattle.std.{proofs.{Common.{◌≡◌, ◌≢◌, ℕ, zero, suc, ◌*◌, ◌/◌, ◌%◌, ◌^◌, ◌<◌, ◌≤◌, ◌==◌, Bool, true, false, List, length, get_or, set, bit_or, bit_and, sym, refl, ap, ◌∙◌, subst, arith}, lemmas.{List.Sums.{position_or_len_is}, Bool.{lt-ltb}, Nat.Bits.{bit_at_lowest, bit_at-zero, bit_at-suc, bit_at_set_same, bit_at_set_other, bit_at_clear_same, bit_at_clear_other, bit_at-trailing_zeros, shr_and_one}, List.{ext_get_or, get_or-set_same, get_or-set_other, length-set, get_or_past}}}, specs.{Prelude.{Some, None, cond}, List.{position_or_len}, Int.{bit_at, bit_not, trailing_zeros}}}
use native.Mathlib.Decide.{dec_le, ℕ_discrete}
use mathlib.Core.Logic.{dite}
use mir.Syntax.{w64}
use Rattle.exec_words.specs.Idle.{is_in, lowest_of}
use Rattle.exec_live_idle.specs.Words.{bits_of, set_of}

length-bits : (n word : ℕ) → length (bits_of n word) ≡ n
length-bits zero word = refl
length-bits (suc n) word = ap suc (length-bits n (word / 2))

bits-at : (n word i : ℕ) → i < n → get_or (bits_of n word) i false ≡ (bit_at word i == 1)
bits-at zero word i within = absurd (omega arith)
bits-at (suc n) word zero within = ap (λ (b : ℕ). b == 1) (sym (bit_at_lowest word))
bits-at (suc n) word (suc i) within = bits-at n (word / 2) i (omega arith) ∙ ap (λ (b : ℕ). b == 1) (sym (bit_at-suc word i))

-- only these two look into a set, so that nothing else computes 64 places
pub length-set_of : (word : ℕ) → length (set_of word) ≡ 64
unfolding set_of
length-set_of word = length-bits 64 word

pub in_set : (word i : ℕ) → i < 64 → is_in (set_of word) i ≡ (bit_at word i == 1)
unfolding set_of
in_set word i within = bits-at 64 word i within

-- a set with one place changed
pub in_changed : (set_ : List Bool) (k i : ℕ) (b : Bool) → i ≢ k → is_in (set set_ k b) i ≡ is_in set_ i
in_changed l k i b ne = get_or-set_other l k i b false ne

pub in_changed_here : (word k : ℕ) (b : Bool) → k < 64 → is_in (set (set_of word) k b) k ≡ b
in_changed_here word k b within = get_or-set_same (set_of word) k b false (omega (arith, length-set_of word))

-- words that differ in one bit
set_but_one : (word left k : ℕ) (b : Bool) → k < 64 → (bit_at left k == 1) ≡ b
    → ((i : ℕ) → i < 64 → i ≢ k → bit_at left i ≡ bit_at word i) → set_of left ≡ set (set_of word) k b
set_but_one word left k b within here others = let long = length-set_of left in
    ext_get_or false (set_of left) (set (set_of word) k b)
    (long ∙ sym (length-set_of word) ∙ sym (length-set (set_of word) k b))
    (λ i inside. let low : i < 64 = omega (arith, long, inside) in dite (ℕ_discrete i k)
    (λ (e : i ≡ k). subst (λ (j : ℕ). is_in (set_of left) j ≡ is_in (set (set_of word) k b) j) (sym e)
    (in_set left k within ∙ here ∙ sym (in_changed_here word k b within)))
    (λ (ne : i ≢ k). in_set left i low ∙ ap (λ (d : ℕ). d == 1) (others i low ne) ∙ sym (in_set word i low)
    ∙ sym (in_changed (set_of word) k i b ne)))

-- the word with one bit set, and with one bit cleared
abbrev pub bit_of : ℕ → ℕ
bit_of k = 1 * 2 ^ k % 2 ^ 64

pub set_with : (word k : ℕ) → k < 64 → set_of (bit_or word (bit_of k)) ≡ set (set_of word) k true
set_with word k within = set_but_one word (bit_or word (bit_of k)) k true within
    (ap (λ (b : ℕ). b == 1) (bit_at_set_same w64 word k within))
    (λ i inside ne. bit_at_set_other w64 word k within i ne)

pub set_without : (word k : ℕ) → k < 64 → set_of (bit_and word (bit_not w64 (bit_of k))) ≡ set (set_of word) k false
set_without word k within = set_but_one word (bit_and word (bit_not w64 (bit_of k))) k false within
    (ap (λ (b : ℕ). b == 1) (bit_at_clear_same w64 word k within))
    (λ i inside ne. bit_at_clear_other w64 word k within i inside ne)

-- the lowest worker
pub in_lowest : (word : ℕ) → 0 < word → word < 2 ^ 64 → is_in (set_of word) (trailing_zeros w64 word) ≡ true
in_lowest word some_bit small = let t = bit_at-trailing_zeros w64 word some_bit small in
    in_set word (trailing_zeros w64 word) t.0 ∙ ap (λ (d : ℕ). d == 1) t.1

pub lowest_in : (word : ℕ) → 0 < word → word < 2 ^ 64 → lowest_of (set_of word) ≡ Some (trailing_zeros w64 word)
lowest_in word some_bit small = let t = bit_at-trailing_zeros w64 word some_bit small in
    let k : ℕ = trailing_zeros w64 word in let long = length-set_of word in
    let p : position_or_len (λ is_there. is_there) (set_of word) ≡ k
    = position_or_len_is (λ is_there. is_there) (set_of word) k false (omega (arith, long, t.0))
    (λ i less. in_set word i (omega (arith, less, t.0)) ∙ ap (λ (d : ℕ). d == 1) (t.2 i less))
    (λ _. in_lowest word some_bit small) in
    rw p (ap (λ (b : Bool). cond b (Some k) None) (lt-ltb k (length (set_of word)) (omega (arith, long, t.0))))

-- the word 0 is the empty set
pub none_in : (i : ℕ) → is_in (set_of 0) i ≡ false
none_in i = dite (dec_le 64 i) (λ (past : 64 ≤ i). get_or_past (set_of 0) i false (omega (arith, length-set_of 0)))
    (λ within. in_set 0 i (omega arith) ∙ ap (λ (d : ℕ). d == 1) (bit_at-zero i))

-- the test of a bit
pub in_word : (word i : ℕ) → i < 64 → (bit_and (word / 2 ^ i) 1 == 1) ≡ is_in (set_of word) i
in_word word i within = ap (λ (d : ℕ). d == 1) (shr_and_one word i) ∙ sym (in_set word i within)
