-- How words are spelled: a name, and numbers behind it.
use Rattle.std.{specs.Cmp.Lexicographic.pointwise, proofs.{Common.{◌≡◌, ℕ, zero, suc, ◌<◌, ◌≤◌, ◌^◌, cond, eqb, List, [], ◌∷◌, ◌++◌, codes, decimal, refl, sym, ap, ◌∙◌, arith, length, get_or, drop, append_assoc}, lemmas.List.length-drop}}
use Rattle.exec_machine.specs.declared.config.{Configuration.Configuration, ScriptWord.{ScriptWord, ScriptWord as word}}
use Rattle.exec_text.{specs.{Grammar.{HeaderFits, text_of_word, WordFits}, Reading.{NoSpace, IsField, IsNumber, IsCut, IsWord, name_of, numbers_of, IsSpelled, IsNoWord}}, proofs.{Fields.field_same, Numbers.{spaced, AllSmall, spaced_cut, spaced_same, spaced_left, spaced_more, front_number}}}

two_behind : (a b : ℕ) (rest : List ℕ) → ((32 ∷ decimal a) ++ 32 ∷ decimal b) ++ rest ≡ spaced (a ∷ b ∷ []) rest
two_behind a b rest = ap (λ (t : List ℕ). 32 ∷ t) (append_assoc (decimal a) (32 ∷ decimal b) rest)

three_behind : (a b d : ℕ) (rest : List ℕ) → ((32 ∷ decimal a) ++ (32 ∷ decimal b) ++ 32 ∷ decimal d) ++ rest ≡ spaced (a ∷ b ∷ d ∷ []) rest
three_behind = grind (arith, append_assoc)

pub word_is : (w : ScriptWord) (rest : List ℕ) → text_of_word w ++ rest ≡ name_of w ++ spaced (numbers_of w) rest
word_is = grind (arith, two_behind, three_behind)

-- the word of this name and these numbers
unfoldable pub word_from : List ℕ → List ℕ → ScriptWord
word_from name ns =
    cond (pointwise eqb name (codes "poll")) (word.Poll (get_or ns 0 0))
    (cond (pointwise eqb name (codes "send")) (word.Send (get_or ns 0 0) (get_or ns 1 0))
    (cond (pointwise eqb name (codes "recv")) (word.Recv (get_or ns 0 0) (get_or ns 1 0))
    (cond (pointwise eqb name (codes "fill")) (word.Fill (get_or ns 0 0) (get_or ns 1 0))
    (cond (pointwise eqb name (codes "conn")) (word.Connect (get_or ns 0 0))
    (cond (pointwise eqb name (codes "read")) (word.Read (get_or ns 0 0) (get_or ns 1 0) (get_or ns 2 0))
    (cond (pointwise eqb name (codes "hint")) (word.Hint (get_or ns 0 0) (get_or ns 1 0) (get_or ns 2 0))
    (cond (pointwise eqb name (codes "direct")) (word.Direct (get_or ns 0 0) (get_or ns 1 0) (get_or ns 2 0))
    (cond (pointwise eqb name (codes "write")) (word.Write (get_or ns 0 0) (get_or ns 1 0) (get_or ns 2 0))
    (cond (pointwise eqb name (codes "dsync")) (word.Dsync (get_or ns 0 0) (get_or ns 1 0) (get_or ns 2 0))
    (cond (pointwise eqb name (codes "many")) (word.Many (get_or ns 0 0) (get_or ns 1 0) (get_or ns 2 0))
    (cond (pointwise eqb name (codes "sync")) (word.Sync (get_or ns 0 0))
    (cond (pointwise eqb name (codes "await")) (word.Await)
    (cond (pointwise eqb name (codes "drop")) (word.Drop)
    (cond (pointwise eqb name (codes "sleep")) (word.Sleep (get_or ns 0 0))
    (cond (pointwise eqb name (codes "spawn")) (word.Spawn (get_or ns 0 0))
    (cond (pointwise eqb name (codes "dedicated")) (word.Dedicated (get_or ns 0 0))
    (cond (pointwise eqb name (codes "wake")) (word.Wake (get_or ns 0 0))
    (cond (pointwise eqb name (codes "yield")) (word.Yield)
    (cond (pointwise eqb name (codes "end")) (word.End)
    (word.Fault (get_or ns 0 0)))))))))))))))))))))

word_again : (w : ScriptWord) → word_from (name_of w) (numbers_of w) ≡ w
unfolding word_from
word_again = grind arith

pub word_named : (name ns : List ℕ) (w : ScriptWord) → IsSpelled name ns w → word_from name ns ≡ w
word_named name ns w s = ap (λ (n : List ℕ). word_from n ns) s.named ∙ ap (λ (k : List ℕ). word_from (name_of w) k) s.counted ∙ word_again w

-- a name says how many numbers come
abbrev count_from : List ℕ → ℕ
count_from name = length (numbers_of (word_from name []))

count_again : (w : ScriptWord) → count_from (name_of w) ≡ length (numbers_of w)
unfolding word_from
count_again = grind arith

pub same_count : (v w : ScriptWord) → name_of v ≡ name_of w → length (numbers_of v) ≡ length (numbers_of w)
same_count v w e = sym (count_again v) ∙ ap count_from e ∙ count_again w

at_most_three : (w : ScriptWord) → length (numbers_of w) ≤ 3
at_most_three = grind arith

pub name_clean : (w : ScriptWord) → NoSpace (name_of w)
name_clean = grind arith

pub numbers_small : (c : Configuration) (w : ScriptWord) → HeaderFits c → WordFits c w → AllSmall (numbers_of w)
numbers_small = grind arith

small_drop : (k : ℕ) (ns : List ℕ) → AllSmall ns → AllSmall (drop k ns)
small_drop zero ns h = h
small_drop (suc k) [] h = tt
small_drop (suc k) (n ∷ ns) h = small_drop k ns h.1

-- A WORD AT THE FRONT, AS FAR AS IT WAS READ

-- behind a space this name, and then these numbers and the rest
pub record IsFront (bs name ns rest : List ℕ) : Type 0 where
  pub spelled : bs ≡ 32 ∷ (name ++ spaced ns rest)
  pub clean : NoSpace name
  pub small : AllSmall ns
  pub cut : IsCut rest

pub front_named : (bs behind name rest : List ℕ) → bs ≡ 32 ∷ behind → IsField behind name rest → IsFront bs name [] rest
front_named bs behind name rest space f = record { spelled = space ∙ ap (λ (t : List ℕ). 32 ∷ t) f.spelled; clean = f.no_space; small = tt; cut = f.cut }

small_more : (ns : List ℕ) (n : ℕ) → AllSmall ns → n < 2 ^ 64 → AllSmall (ns ++ n ∷ [])
small_more [] n h l = (l, tt)
small_more (m ∷ ns) n h l = (h.0, small_more ns n h.1 l)

pub front_more : (bs name ns rest after : List ℕ) (n : ℕ) → IsFront bs name ns rest → IsNumber rest n after → IsFront bs name (ns ++ n ∷ []) after
front_more = grind (arith, spaced, spaced_more, small_more)

-- the word that has them
pub front_read : (c : Configuration) (bs name ns rest : List ℕ) (w : ScriptWord) → IsFront bs name ns rest → IsSpelled name ns w → WordFits c w → IsWord c bs w rest
front_read = grind (arith, spaced, word_is)

-- each word at the front has this name, and begins with these numbers
pub front_same : (c : Configuration) (bs name ns rest r : List ℕ) (w : ScriptWord) → IsFront bs name ns rest → IsWord c bs w r → (name ≡ name_of w) × (spaced ns rest ≡ spaced (numbers_of w) r)
front_same c bs name ns rest r w f h =
    let behind = name ++ spaced ns rest in
    let t : 32 ∷ behind ≡ 32 ∷ (text_of_word w ++ r) = sym f.spelled ∙ h.spelled in
    field_same behind name (name_of w) (spaced ns rest) (spaced (numbers_of w) r)
    (record { spelled = refl; no_space = f.clean; cut = spaced_cut ns rest f.cut })
    (record { spelled = ap (drop 1) t ∙ word_is w r; no_space = name_clean w; cut = spaced_cut (numbers_of w) r h.cut })

front_as_many : (c : Configuration) (bs name ns rest r : List ℕ) (w : ScriptWord) → HeaderFits c → IsFront bs name ns rest → IsNoWord c name ns → IsWord c bs w r → length ns ≡ length (numbers_of w) → ⊥
front_as_many c bs name ns rest r w fits f none h l =
    let e = front_same c bs name ns rest r w f h in
    let s = spaced_same ns (numbers_of w) rest r l f.small (numbers_small c w fits h.fits) f.cut h.cut e.1 in
    none w h.fits (record { named = e.0; counted = s.0 })

-- No word of so many numbers is there: then it has more.
pub front_longer : (c : Configuration) (bs name ns rest r : List ℕ) (w : ScriptWord) → HeaderFits c → IsFront bs name ns rest → IsNoWord c name ns → IsWord c bs w r → length ns ≤ length (numbers_of w) → length ns < length (numbers_of w)
front_longer c bs name ns rest r w fits f none h least =
    let other : length ns ≡ length (numbers_of w) → ⊥ = front_as_many c bs name ns rest r w fits f none h in omega (arith, least, other)

-- It has more, and no number is left.
pub front_ended : (c : Configuration) (bs name ns rest r : List ℕ) (w : ScriptWord) → HeaderFits c → IsFront bs name ns rest → ((n : ℕ) (t : List ℕ) → IsNumber rest n t → ⊥) → IsWord c bs w r → length ns < length (numbers_of w) → ⊥
front_ended c bs name ns rest r w fits f over h more =
    let e = front_same c bs name ns rest r w f h in
    let small = numbers_small c w fits h.fits in
    let left : rest ≡ spaced (drop (length ns) (numbers_of w)) r = spaced_left ns (numbers_of w) rest r (omega (arith, more)) f.small small f.cut h.cut e.1 in
    at_front (drop (length ns) (numbers_of w)) (omega (arith, more, length-drop (length ns) (numbers_of w))) left (small_drop (length ns) (numbers_of w) small)
  where
    at_front : (ms : List ℕ) → 0 < length ms → rest ≡ spaced ms r → AllSmall ms → ⊥
    at_front [] some e s = omega (arith, some)
    at_front (m ∷ ms) some e s = over m (spaced ms r) (front_number rest m ms r e s.0 h.cut)

-- No word has more than three numbers.
pub front_whole : (w : ScriptWord) → 3 < length (numbers_of w) → ⊥
front_whole w more = omega (arith, more, at_most_three w)
