-- One line after another.
use Rattle.std.{proofs.{Common.{◌≡◌, ◌≢◌, ℕ, ◌+◌, ◌<◌, ◌≤◌, Bool, true, false, ◌==◌, cond, List, [], ◌∷◌, ◌++◌, refl, sym, ap, ◌∙◌, arith, length, get_or, take, drop, filter}, lemmas.{Bool.ne_eqb, List.{Sums.position_or_len_is, get_or_default, drop_all, drop_more, drop-drop, length-drop, append-nil, nil_from_length, take_all, Elements.filter_more, Splits.{slice_split_first, slice_split_none, length-slice_split}}}}, specs.Str.Lines.{lines, lines_of_parts, strip_carriage_return}}
use Rattle.exec_text.specs.{Grammar.says_something, Reading.{said_before, IsBeforeLine, IsNextSaid}}

abbrev newline : ℕ → Bool
newline b = b == 10

parts_more : (x : List ℕ) (parts : List (List ℕ)) → 0 < length parts → lines_of_parts (x ∷ parts) ≡ strip_carriage_return x ∷ lines_of_parts parts
parts_more x [] h = absurd (omega arith)
parts_more x (y ∷ more) h = refl

-- the text up to its first newline is a line
pub line_ended : (text : List ℕ) (n : ℕ) → n < length text → get_or text n 0 ≡ 10 → ((k : ℕ) → k < n → get_or text k 0 ≢ 10) → lines text ≡ strip_carriage_return (take n text) ∷ lines (drop (n + 1) text)
line_ended = grind (arith, position_or_len_is, ne_eqb, slice_split_first, parts_more, length-slice_split)

one_part : (x : List ℕ) → 0 < length x → lines_of_parts (x ∷ []) ≡ x ∷ []
one_part [] h = absurd (omega arith)
one_part (b ∷ x) h = ap (λ (t : Bool). cond t [] ((b ∷ x) ∷ [])) (ne_eqb (length (b ∷ x)) 0 (λ e. omega (arith, e)))

-- a text with no newline is a line
pub line_open : (text : List ℕ) → 0 < length text → ((k : ℕ) → k < length text → get_or text k 0 ≢ 10) → lines text ≡ text ∷ lines (drop (length text) text)
line_open text h a =
    ap lines_of_parts (slice_split_none newline text (λ k d l. ap newline (get_or_default text k d 0 l) ∙ ne_eqb (get_or text k 0) 10 (a k l))) ∙ one_part text h ∙ ap (λ (rest : List ℕ). text ∷ lines rest) (sym (drop_all (length text) text (omega arith)))

-- past the last line
pub no_more : (text : List ℕ) (from number : ℕ) → IsBeforeLine text from number → length (drop from text) ≡ 0 → number ≡ length (lines text)
no_more text from number p e =
    let n : drop from text ≡ [] = nil_from_length (drop from text) e in
    let l : length (drop number (lines text)) ≡ 0 = ap length (p.rest ∙ ap lines n) in
    let c : number ≤ length (lines text) = p.counted in
    omega (arith, length-drop number (lines text))

-- past one line
pub one_more : (text : List ℕ) (from number size : ℕ) (line : List ℕ) → IsBeforeLine text from number → lines (drop from text) ≡ line ∷ lines (drop size (drop from text)) → 0 < size → size ≤ length (drop from text) → IsBeforeLine text (from + size) (number + 1)
one_more text from number size line p e some fits =
    let c : number ≤ length (lines text) = p.counted in
    let w : from ≤ length text = p.within in
    let f : number ≤ from = p.few in
    let d : drop number (lines text) ≡ line ∷ lines (drop size (drop from text)) = p.rest ∙ e in
    let l : number < length (lines text) = omega (arith, ap length d, length-drop number (lines text)) in
    let m : get_or (lines text) number [] ∷ drop (number + 1) (lines text) ≡ line ∷ lines (drop size (drop from text)) = sym (drop_more (lines text) number [] l) ∙ d in
    grind (arith, length-drop, drop-drop)

pub said_yes : (text : List ℕ) (n : ℕ) (line : List ℕ) → n < length (lines text) → line ≡ get_or (lines text) n [] → says_something line ≡ true → said_before text (n + 1) ≡ said_before text n ++ line ∷ []
unfolding said_before
said_yes text n line h e s =
    filter_more says_something (lines text) n [] h ∙ ap (λ (x : List ℕ). filter says_something (take n (lines text)) ++ cond (says_something x) (x ∷ []) []) (sym e)
    ∙ ap (λ (b : Bool). filter says_something (take n (lines text)) ++ cond b (line ∷ []) []) s

pub said_no : (text : List ℕ) (n : ℕ) (line : List ℕ) → n < length (lines text) → line ≡ get_or (lines text) n [] → says_something line ≡ false → said_before text (n + 1) ≡ said_before text n
unfolding said_before
said_no text n line h e s =
    filter_more says_something (lines text) n [] h ∙ ap (λ (x : List ℕ). filter says_something (take n (lines text)) ++ cond (says_something x) (x ∷ []) []) (sym e)
    ∙ ap (λ (b : Bool). filter says_something (take n (lines text)) ++ cond b (line ∷ []) []) s ∙ append-nil _

pub said_first : (text : List ℕ) → said_before text 0 ≡ []
unfolding said_before
said_first text = refl

pub said_all : (text : List ℕ) (n : ℕ) → n ≡ length (lines text) → said_before text n ≡ filter says_something (lines text)
unfolding said_before
said_all text n e = ap (filter says_something) (take_all n (lines text) (omega arith))

-- what is known after the line of number n, of the text t
pub said_found : (text t : List ℕ) (old n m : ℕ) (line : List ℕ) → t ≡ text → old ≤ n → said_before text n ≡ said_before text old → m ≡ n + 1 → n < length (lines t) → line ≡ get_or (lines t) n [] → says_something line ≡ true → IsNextSaid text old m line
said_found = grind (arith, said_yes)

pub said_past : (text t : List ℕ) (old n m : ℕ) (line : List ℕ) → t ≡ text → said_before text n ≡ said_before text old → m ≡ n + 1 → n < length (lines t) → line ≡ get_or (lines t) n [] → says_something line ≡ false → said_before text m ≡ said_before text old
said_past = grind (arith, said_no)
