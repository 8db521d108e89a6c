-- Numbers in decimal, and the text that `parse` reads.
use Rattle.std.{proofs.{Common.{◌≡◌, ◌≢◌, ℕ, ◌<◌, ◌≤◌, ◌^◌, zero, suc, List, [], ◌∷◌, ◌++◌, drop, Result, Option, IfSome, IfNone, refl, sym, ap, ◌∙◌, arith, length, get_or, decimal, subst}, lemmas.{Str.{IsUtf8-from_ascii, Parse.{IsNumeralModel, numerals_by_value, tells_digits, digit_from_value, digit_at, parse_plain}}, Fmt.{digits_decimal, digits_value-decimal, decimal_nonempty, first_decimal, decimal_digit, decimal-digits_value, IsAscii-decimal, decimal_injective}}}, specs.{Str.{IsUtf8, Parse.{AllDigits, digits_value, ParsesUnsigned}}, Result.result_ok, List.AllByRecursion}}
use Rattle.exec_text.{specs.Reading.{NoSpace, IsPlain, IsCut, IsField, IsNumber}, proofs.Fields.{cut_same, field_same}}

own : IsNumeralModel (AllDigits 10) (digits_value 10)
own = numerals_by_value (AllDigits 10) tells_digits

no_space_digits : (ds : List ℕ) → AllDigits 10 ds → NoSpace ds
no_space_digits [] h = tt
no_space_digits (c ∷ cs) h = let r = digit_from_value c h.0 in (λ e. omega arith, no_space_digits cs h.1)

pub no_space_decimal : (n : ℕ) → n < 2 ^ 64 → NoSpace (decimal n)
no_space_decimal n h = no_space_digits (decimal n) (digits_decimal own n h)

pub decimal_starts : (n : ℕ) → n < 2 ^ 64 → (48 ≤ get_or (decimal n) 0 0) × (get_or (decimal n) 0 0 ≤ 57) × (0 < length (decimal n))
decimal_starts = grind (arith, decimal_nonempty, digit_at, digits_decimal, own)

pub decimal_zero : (n : ℕ) → n < 2 ^ 64 → get_or (decimal n) 0 0 ≡ 48 → length (decimal n) ≡ 1
decimal_zero zero h e = ap length (decimal_digit 0 (omega arith))
decimal_zero (suc n) h e = absurd (omega (arith, first_decimal (suc n) (omega arith) h))

pub decimal_utf8 : (n : ℕ) → n < 2 ^ 64 → IsUtf8 (decimal n)
decimal_utf8 n h = IsUtf8-from_ascii (decimal n) (IsAscii-decimal n h)

pub decimal_plain : (n : ℕ) → n < 2 ^ 64 → IsPlain (decimal n)
decimal_plain = grind (arith, decimal_starts, decimal_zero)

pub unplain : (bs : List ℕ) (n : ℕ) → (IsPlain bs → ⊥) → n < 2 ^ 64 → bs ≢ decimal n
unplain bs n over h e = over (subst IsPlain (sym e) (decimal_plain n h))

pub untext : (bs : List ℕ) (n : ℕ) → (IsUtf8 bs → ⊥) → n < 2 ^ 64 → bs ≢ decimal n
untext bs n over h e = over (subst IsUtf8 (sym e) (decimal_utf8 n h))

parsed_ok : (bs : List ℕ) (v x : ℕ) → IsPlain bs → (AllDigits 10 bs) × (0 < length bs) × (v < 2 ^ 64) → v ≡ digits_value 10 bs → x ≡ v → bs ≡ decimal x
parsed_ok bs v x plain p same e =
    let z = plain.zeros in
    let l : 0 < length bs = p.1 in
    let d : decimal (digits_value 10 bs) ≡ bs = decimal-digits_value own bs p.0 l (λ k. let m = z k in omega arith) (subst (λ (y : ℕ). y < 2 ^ 64) same p.2) in
    sym (ap decimal (e ∙ same) ∙ d)

-- what `parse` gives where the bytes are plain
pub parsed : {E : Type 0} (bs t : List ℕ) (r : Result ℕ E) (o : Option ℕ) → ParsesUnsigned 64 10 t r → t ≡ bs → o ≡ result_ok r → IsPlain bs → IfSome o (λ n. bs ≡ decimal n)
parsed = grind (arith, parse_plain, own, parsed_ok)

pub unparsed : {E : Type 0} (bs t : List ℕ) (r : Result ℕ E) (o : Option ℕ) → ParsesUnsigned 64 10 t r → t ≡ bs → o ≡ result_ok r → IsPlain bs → IfNone o ((n : ℕ) → n < 2 ^ 64 → bs ≢ decimal n)
unparsed = grind (arith, parse_plain, own, digits_decimal, digits_value-decimal)

pub decimal_not_zero : (bs : List ℕ) (m n : ℕ) → bs ≡ decimal m → m ≡ 0 → 0 < n → n < 2 ^ 64 → bs ≢ decimal n
decimal_not_zero bs m n f z some small e =
    let s : m ≡ n = decimal_injective m n (omega arith) small (sym f ∙ e) in omega arith

-- the number at the front
pub number_fields : (bs behind field rest r : List ℕ) (n : ℕ) → bs ≡ 32 ∷ behind → IsField behind field rest → IsNumber bs n r → (field ≡ decimal n) × (rest ≡ r)
number_fields bs behind field rest r n space f h =
    let t : 32 ∷ behind ≡ 32 ∷ (decimal n ++ r) = sym space ∙ h.spelled in
    field_same behind field (decimal n) rest r f (record { spelled = ap (drop 1) t; no_space = no_space_decimal n h.small; cut = h.cut })

-- these numbers, a space before each, and the rest
abbrev pub spaced : List ℕ → List ℕ → List ℕ
spaced [] rest = rest
spaced (n ∷ ns) rest = 32 ∷ (decimal n ++ spaced ns rest)

abbrev pub AllSmall : List ℕ → Type 0
AllSmall = AllByRecursion (λ n. n < 2 ^ 64)

pub spaced_cut : (ns rest : List ℕ) → IsCut rest → IsCut (spaced ns rest)
spaced_cut [] rest h = h
spaced_cut (n ∷ ns) rest h = refl

pub spaced_more : (ns : List ℕ) (n : ℕ) (rest : List ℕ) → spaced ns (32 ∷ (decimal n ++ rest)) ≡ spaced (ns ++ n ∷ []) rest
spaced_more [] n rest = refl
spaced_more (m ∷ ns) n rest = ap (λ (t : List ℕ). 32 ∷ (decimal m ++ t)) (spaced_more ns n rest)

-- Numbers at the front that are as many leave one rest.
pub spaced_same : (ms ns r t : List ℕ) → length ms ≡ length ns → AllSmall ms → AllSmall ns → IsCut r → IsCut t → spaced ms r ≡ spaced ns t → (ms ≡ ns) × (r ≡ t)
spaced_same [] [] r t l a b cr ct e = (refl, e)
spaced_same [] (n ∷ ns) r t l a b cr ct e = absurd (omega arith)
spaced_same (m ∷ ms) [] r t l a b cr ct e = absurd (omega arith)
spaced_same (m ∷ ms) (n ∷ ns) r t l a b cr ct e =
    let x = cut_same (decimal m) (decimal n) (spaced ms r) (spaced ns t) (no_space_decimal m a.0) (no_space_decimal n b.0) (spaced_cut ms r cr) (spaced_cut ns t ct) (ap (drop 1) e) in
    let i : m ≡ n = decimal_injective m n a.0 b.0 x.0 in
    let y = spaced_same ms ns r t (omega arith) a.1 b.1 cr ct x.1 in
    (ap (λ (k : ℕ). k ∷ ms) i ∙ ap (λ (k : List ℕ). n ∷ k) y.0, y.1)

-- Where fewer were read, the others stand in the rest.
pub spaced_left : (ms ns r t : List ℕ) → length ms ≤ length ns → AllSmall ms → AllSmall ns → IsCut r → IsCut t → spaced ms r ≡ spaced ns t → r ≡ spaced (drop (length ms) ns) t
spaced_left [] ns r t l a b cr ct e = e
spaced_left (m ∷ ms) [] r t l a b cr ct e = absurd (omega arith)
spaced_left (m ∷ ms) (n ∷ ns) r t l a b cr ct e =
    let x = cut_same (decimal m) (decimal n) (spaced ms r) (spaced ns t) (no_space_decimal m a.0) (no_space_decimal n b.0) (spaced_cut ms r cr) (spaced_cut ns t ct) (ap (drop 1) e) in
    spaced_left ms ns r t (omega arith) a.1 b.1 cr ct x.1

pub front_number : (bs : List ℕ) (n : ℕ) (ns t : List ℕ) → bs ≡ spaced (n ∷ ns) t → n < 2 ^ 64 → IsCut t → IsNumber bs n (spaced ns t)
front_number bs n ns t e small c = record { spelled = e; small = small; cut = spaced_cut ns t c }

pub number_one : (bs r t : List ℕ) (m n : ℕ) → IsNumber bs m r → IsNumber bs n t → (m ≡ n) × (r ≡ t)
number_one bs r t m n a b =
    let s = spaced_same (m ∷ []) (n ∷ []) r t refl (a.small, tt) (b.small, tt) a.cut b.cut (sym a.spelled ∙ b.spelled) in
    (ap (λ (x : List ℕ). get_or x 0 0) s.0, s.1)
