-- The words of a script.
use Rattle.std.proofs.{Common.{◌≡◌, ◌≢◌, ℕ, ◌<◌, suc, true, false, List, [], ◌∷◌, ◌++◌, All, refl, sym, ap, ◌∙◌, subst, arith, length, append_assoc, Option, Some, None, IfSome, IfNone}, lemmas.{Bool.false≢true, List.{flat_map_more, Elements.All-push}}}
use Rattle.exec_machine.specs.declared.config.{Configuration.Configuration, ScriptWord.ScriptWord}
use Rattle.exec_text.{specs.{Grammar.{HeaderFits, text_of_word, text_of_words, WordFits}, Reading.{IsCut, NoSpace, IsField, IsWord, name_of, numbers_of, names_within, AllRight, IsLineOf}}, proofs.{Fields.field_same, Numbers.spaced_same, Spelling.{word_is, word_named, same_count, name_clean, numbers_small, IsFront, front_same}}}

-- WHICH WORDS HAVE SO MANY NUMBERS

-- what the place is among

-- LISTS OF WORDS

pub word_moved : (c : Configuration) (a b r : List ℕ) (word : ScriptWord) → a ≡ b → IsWord c a word r → IsWord c b word r
word_moved c a b r word e w = record { spelled = sym e ∙ w.spelled; fits = w.fits; cut = w.cut }

-- A word at the front leaves one rest.
pub rest_same : (c : Configuration) (bs r t : List ℕ) (v w : ScriptWord) → HeaderFits c → IsWord c bs v r → IsWord c bs w t → (v ≡ w) × (r ≡ t)
rest_same c bs r t v w small a b =
    let ns = numbers_small c v small a.fits in
    let f : IsFront bs (name_of v) (numbers_of v) r = record { spelled = a.spelled ∙ ap (λ (x : List ℕ). 32 ∷ x) (word_is v r); clean = name_clean v; small = ns; cut = a.cut } in
    let n = front_same c bs (name_of v) (numbers_of v) r t w f b in
    let s = spaced_same (numbers_of v) (numbers_of w) r t (same_count v w n.0) ns (numbers_small c w small b.fits) a.cut b.cut n.1 in
    (sym (word_named (name_of v) (numbers_of v) v (record { named = refl; counted = refl })) ∙ word_named (name_of v) (numbers_of v) w (record { named = n.0; counted = s.0 }), s.1)

pub words_cut : (ws : List ScriptWord) → IsCut (text_of_words ws)
words_cut [] = tt
words_cut (w ∷ ws) = refl

abbrev pub AllFit : Configuration → List ScriptWord → Type 0
AllFit c ws = All (WordFits c) ws

head_fits : (c : Configuration) (w : ScriptWord) (ws : List ScriptWord) → AllFit c (w ∷ ws) → WordFits c w
head_fits c w ws h = h 0 w (omega arith)

tail_fits : (c : Configuration) (w : ScriptWord) (ws : List ScriptWord) → AllFit c (w ∷ ws) → AllFit c ws
tail_fits c w ws h = λ k d l. h (suc k) d (omega arith)

pub front_word : (c : Configuration) (w : ScriptWord) (ws : List ScriptWord) → AllFit c (w ∷ ws) → IsWord c (text_of_words (w ∷ ws)) w (text_of_words ws)
front_word c w ws h = record { spelled = refl; fits = head_fits c w ws h; cut = words_cut ws }

-- Words that may stand there and spell the rest.
abbrev pub HasWords : Configuration → Option ℕ → List ℕ → Type 0
HasWords c scripts rest = (ws : List ScriptWord) × AllRight c scripts ws × (rest ≡ text_of_words ws)

tail_right : (c : Configuration) (scripts : Option ℕ) (w : ScriptWord) (ws : List ScriptWord) → AllRight c scripts (w ∷ ws) → AllRight c scripts ws
tail_right c scripts w ws h = record { fit = tail_fits c w ws h.fit; named = λ k d l. h.named (suc k) d (omega arith) }

pub push_right : (c : Configuration) (scripts : Option ℕ) (ws : List ScriptWord) (w : ScriptWord) → AllRight c scripts ws → WordFits c w → names_within scripts w ≡ true → AllRight c scripts (ws ++ w ∷ [])
push_right c scripts ws w h f a = record { fit = All-push (WordFits c) ws w h.fit f; named = All-push (λ (v : ScriptWord). names_within scripts v ≡ true) ws w h.named a }

pub none_right : (c : Configuration) (scripts : Option ℕ) → AllRight c scripts []
none_right c scripts = record { fit = λ k d h. absurd (omega arith); named = λ k d h. absurd (omega arith) }

-- the first of such words, and the others
first_word : (c : Configuration) (scripts : Option ℕ) (rest after : List ℕ) (w v : ScriptWord) (vs : List ScriptWord) → HeaderFits c → IsWord c rest w after → AllRight c scripts (v ∷ vs) → rest ≡ text_of_words (v ∷ vs) → (w ≡ v) × (after ≡ text_of_words vs)
first_word c scripts rest after w v vs small h fit e =
    rest_same c rest after (text_of_words vs) w v small h (word_moved c (text_of_words (v ∷ vs)) rest (text_of_words vs) v (sym e) (front_word c v vs fit.fit))

pub words_past : (c : Configuration) (scripts : Option ℕ) (rest after : List ℕ) (w : ScriptWord) → HeaderFits c → IsWord c rest w after → HasWords c scripts rest → HasWords c scripts after
words_past c scripts rest after w small h x = past x.0 x.1 x.2
  where
    past : (ws : List ScriptWord) → AllRight c scripts ws → rest ≡ text_of_words ws → HasWords c scripts after
    past [] fit e = let k : [] ≡ 32 ∷ (text_of_word w ++ after) = sym e ∙ h.spelled in cc
    past (v ∷ vs) fit e = (vs, tail_right c scripts v vs fit, (first_word c scripts rest after w v vs small h fit e).1)

pub no_words : (c : Configuration) (scripts : Option ℕ) (rest : List ℕ) → 0 < length rest → ((w : ScriptWord) (after : List ℕ) → IsWord c rest w after → ⊥) → HasWords c scripts rest → ⊥
no_words c scripts rest some over x = none x.0 x.1 x.2
  where
    none : (ws : List ScriptWord) → AllRight c scripts ws → rest ≡ text_of_words ws → ⊥
    none [] fit e = omega (arith, ap length e)
    none (v ∷ vs) fit e = over v (text_of_words vs) (word_moved c (text_of_words (v ∷ vs)) rest (text_of_words vs) v (sym e) (front_word c v vs fit.fit))

pub not_named : (c : Configuration) (scripts : Option ℕ) (rest after : List ℕ) (w : ScriptWord) → HeaderFits c → IsWord c rest w after → names_within scripts w ≡ false → HasWords c scripts rest → ⊥
not_named c scripts rest after w small h refused x = none x.0 x.1 x.2
  where
    none : (ws : List ScriptWord) → AllRight c scripts ws → rest ≡ text_of_words ws → ⊥
    none [] fit e = let k : [] ≡ 32 ∷ (text_of_word w ++ after) = sym e ∙ h.spelled in cc
    none (v ∷ vs) fit e =
        let same : w ≡ v = (first_word c scripts rest after w v vs small h fit e).0 in
        false≢true (sym refused ∙ ap (names_within scripts) same ∙ fit.named 0 v (omega arith))

pub words_more : (c : Configuration) (bs rest after : List ℕ) (ws : List ScriptWord) (w : ScriptWord) → bs ≡ text_of_words ws ++ rest → IsWord c rest w after → bs ≡ text_of_words (ws ++ w ∷ []) ++ after
words_more c bs rest after ws w e h =
    e ∙ ap (λ (t : List ℕ). text_of_words ws ++ t) h.spelled ∙ sym (append_assoc (text_of_words ws) (32 ∷ text_of_word w) after)
    ∙ ap (λ (t : List ℕ). t ++ after) (flat_map_more (λ (v : ScriptWord). 32 ∷ text_of_word v) [] ws w)

-- Two scripts that fit and read the same are the same.
pub words_same : (c : Configuration) (ws vs : List ScriptWord) → HeaderFits c → AllFit c ws → AllFit c vs → text_of_words ws ≡ text_of_words vs → ws ≡ vs
words_same c [] [] small f g e = refl
words_same c [] (v ∷ vs) small f g e = let k : 0 ≡ length (text_of_words (v ∷ vs)) = ap length e in absurd (omega arith)
words_same c (w ∷ ws) [] small f g e = let k : length (text_of_words (w ∷ ws)) ≡ 0 = ap length e in absurd (omega arith)
words_same c (w ∷ ws) (v ∷ vs) small f g e =
    let s = rest_same c (text_of_words (w ∷ ws)) (text_of_words ws) (text_of_words vs) w v small (front_word c w ws f) (word_moved c (text_of_words (v ∷ vs)) (text_of_words (w ∷ ws)) (text_of_words vs) v (sym e) (front_word c v vs g)) in
    ap (λ (x : ScriptWord). x ∷ ws) s.0 ∙ ap (λ (x : List ScriptWord). v ∷ x) (words_same c ws vs small (tail_fits c w ws f) (tail_fits c v vs g) s.1)

-- a line of words
pub line_fields : (c : Configuration) (scripts : Option ℕ) (name line first rest : List ℕ) (words : List ScriptWord) → NoSpace name → IsField line first rest → IsLineOf c scripts name line words → (first ≡ name) × (rest ≡ text_of_words words)
line_fields c scripts name line first rest words clean f h = field_same line first name rest (text_of_words words) f (record { spelled = h.spelled; no_space = clean; cut = words_cut words })

some_text : (ws : List ScriptWord) → 0 < length ws → 0 < length (text_of_words ws)
some_text [] h = absurd (omega arith)
some_text (w ∷ ws) h = omega arith

pub line_some : (c : Configuration) (scripts : Option ℕ) (name line first rest : List ℕ) (words : List ScriptWord) → NoSpace name → IsField line first rest → IsLineOf c scripts name line words → 0 < length rest
line_some c scripts name line first rest words clean f h = subst (λ (t : List ℕ). 0 < length t) (sym (line_fields c scripts name line first rest words clean f h).1) (some_text words h.some)

some_words : (ws : List ScriptWord) → 0 < length (text_of_words ws) → 0 < length ws
some_words [] h = absurd (omega arith)
some_words (w ∷ ws) h = omega arith

line_is : (c : Configuration) (scripts : Option ℕ) (name line first rest : List ℕ) (words : List ScriptWord) → IsField line first rest → first ≡ name → 0 < length rest → rest ≡ text_of_words words → AllRight c scripts words → IsLineOf c scripts name line words
line_is = grind (arith, some_words)

pub line_read : {V : Type 0} (c : Configuration) (scripts : Option ℕ) (Keeps : V → List ScriptWord → Type 0) (o : Option V) (name line first rest : List ℕ) → IsField line first rest → first ≡ name → 0 < length rest → IfSome o (λ v. (words : List ScriptWord) × (rest ≡ text_of_words words) × AllRight c scripts words × Keeps v words) → IfSome o (λ v. (words : List ScriptWord) × IsLineOf c scripts name line words × Keeps v words)
line_read c scripts Keeps (Some v) name line first rest f e some h = (h.0, line_is c scripts name line first rest h.0 f e some h.1 h.2, h.3)
line_read c scripts Keeps None name line first rest f e some h = tt

pub line_unread : {V : Type 0} (c : Configuration) (scripts : Option ℕ) (o : Option V) (name line first rest : List ℕ) → NoSpace name → IsField line first rest → IfNone o ((words : List ScriptWord) → AllRight c scripts words → rest ≢ text_of_words words) → IfNone o ((words : List ScriptWord) → IsLineOf c scripts name line words → ⊥)
line_unread c scripts (Some v) name line first rest clean f h = tt
line_unread c scripts None name line first rest clean f h = λ words l. h words l.right (line_fields c scripts name line first rest words clean f l).1
