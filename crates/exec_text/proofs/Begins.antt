-- How the lines of a trace begin.
use Rattle.std.proofs.{Common.{◌≡◌, ◌≢◌, ℕ, ◌+◌, ◌<◌, ◌≤◌, ◌⊎◌, inl, inr, List, [], ◌∷◌, ◌++◌, All, refl, sym, ap, ◌∙◌, arith, map, length, get_or, take, drop, append_assoc, codes, length-append, subst}, lemmas.List.{length-map, take-append-drop, length-take-le, get_or_at, get_or_append_left, get_or-map, append-nil, map_push, Elements.All-push}}
use Rattle.exec_machine.specs.declared.{config.{Configuration.Configuration, ScriptWord.{ScriptWord, TheVariants.End}}, step.Step.{Step, TheVariants.Work}}
use Rattle.exec_text.{specs.{Grammar.{Meaning, HeaderFits, IsWellFormed, NamesScripts, trace_lines, text_of_script, text_of_root, text_of_step, WordFits, WordsFit, StepFits, WordNames, StepNames}, Reading.{header, IsRoot, IsScript, IsHead, IsTop, IsMarkedTop}}, proofs.Headers.{header_length, header_same, append_same}}
pub use Rattle.std.proofs.lemmas.List.Elements.{All-nil}

-- lines that are right by themselves begin so, and name scripts below this count
abbrev pub Begins : ℕ → List (List ℕ) → Type 0
Begins count said = (p : Meaning) × IsWellFormed p × NamesScripts count p × (rest : List (List ℕ)) × (said ++ rest ≡ trace_lines p)

abbrev pub Formed : List (List ℕ) → Type 0
Formed said = (p : Meaning) × IsWellFormed p × (rest : List (List ℕ)) × (said ++ rest ≡ trace_lines p)

pub formed_of : (count : ℕ) (said : List (List ℕ)) → Begins count said → Formed said
formed_of count said b = (b.0, b.1, b.3, b.4)

-- what stands below the header
abbrev pub below : List (List ScriptWord) → List ScriptWord → List Step → List (List ℕ)
below scripts root steps = map text_of_script scripts ++ text_of_root root ∷ codes "steps" ∷ map text_of_step steps

pub lines_are : (p : Meaning) → trace_lines p ≡ header p.plan.config ++ below p.plan.scripts p.plan.root p.steps
unfolding header
lines_are p = append_assoc (header p.plan.config) (map text_of_script p.plan.scripts) (text_of_root p.plan.root ∷ codes "steps" ∷ map text_of_step p.steps)

-- a meaning of such parts
abbrev pub meaning_from : Configuration → List (List ScriptWord) → List ScriptWord → List Step → Meaning
meaning_from c scripts root steps = record { plan = record { config = c; scripts = scripts; root = root }; steps = steps }

pub root_end : (c : Configuration) → WordsFit c (End ∷ [])
root_end c = record { some = omega arith; fit = All-push (WordFits c) [] End (All-nil (WordFits c)) tt }

pub end_named : (count : ℕ) → All (WordNames count) (End ∷ [])
end_named count = All-push (WordNames count) [] End (All-nil (WordNames count)) tt

pub parts_fit : (c : Configuration) (scripts : List (List ScriptWord)) (root : List ScriptWord) (steps : List Step) → HeaderFits c → All (WordsFit c) scripts → WordsFit c root → All StepFits steps → IsWellFormed (meaning_from c scripts root steps)
parts_fit c scripts root steps h s r t = record { header = h; scripts = s; root = r; steps = t }

pub parts_named : (c : Configuration) (count : ℕ) (scripts : List (List ScriptWord)) (root : List ScriptWord) (steps : List Step) → All (All (WordNames count)) scripts → All (WordNames count) root → All (StepNames count) steps → NamesScripts count (meaning_from c scripts root steps)
parts_named c count scripts root steps s r t = record { scripts = s; root = r; steps = t }

pub header_front : (count : ℕ) (c : Configuration) (k : ℕ) → HeaderFits c → Begins count (take k (header c))
header_front count c k fits =
    let h = header c in
    let r : List (List ℕ) = below [] (End ∷ []) [] in (
      meaning_from c [] (End ∷ []) [],
      parts_fit c [] (End ∷ []) [] fits (All-nil (WordsFit c)) (root_end c) (All-nil StepFits),
      parts_named c count [] (End ∷ []) [] (All-nil (All (WordNames count))) (end_named count) (All-nil (StepNames count)),
      drop k h ++ r,
      sym (append_assoc (take k h) (drop k h) r) ∙ ap (λ (x : List (List ℕ)). x ++ r) (take-append-drop k h) ∙ sym (lines_are (meaning_from c [] (End ∷ []) [])),
    )

-- the next line of a header is that of some header
pub header_next : (c : Configuration) (k : ℕ) (line : List ℕ) → k < 9 → Formed (take k (header c) ++ line ∷ []) → (d : Configuration) × HeaderFits d × (line ≡ get_or (header d) k [])
header_next = grind (arith, append_assoc, lines_are, length-take-le, header_length, get_or_at, get_or_append_left)

pub lines_count : (p : Meaning) → length (trace_lines p) ≡ 11 + length p.plan.scripts + length p.steps
lines_count = grind (arith, lines_are, length-append, header_length, length-map)

pub header_short : (c : Configuration) (k : ℕ) (p : Meaning) → k ≤ 9 → trace_lines p ≢ take k (header c)
header_short c k p small e = omega (arith, lines_count p, ap length e, length-take-le k (header c) (omega (arith, header_length c)))

-- what stands below a header that was read
pub behind_header : (c : Configuration) (xs : List (List ℕ)) (p : Meaning) → HeaderFits c → IsWellFormed p → header c ++ xs ≡ trace_lines p → (c ≡ p.plan.config) × (xs ≡ below p.plan.scripts p.plan.root p.steps)
behind_header c xs p f h e =
    let i = append_same (header c) (header p.plan.config) xs (below p.plan.scripts p.plan.root p.steps) (header_length c ∙ sym (header_length p.plan.config)) (e ∙ lines_are p) in
    (header_same c p.plan.config f h.header i.0, i.1)

-- A line behind those of scripts is that of the next, or of the root. Their first letters differ.
pub behind_scripts : (ss scripts : List (List ScriptWord)) (root : List ScriptWord) (steps : List Step) (line : List ℕ) (rest : List (List ℕ)) → map text_of_script ss ++ line ∷ rest ≡ below scripts root steps
    → ((length ss < length scripts) × (line ≡ text_of_script (get_or scripts (length ss) []))) ⊎ ((length ss ≡ length scripts) × (line ≡ text_of_root root) × (rest ≡ codes "steps" ∷ map text_of_step steps))
behind_scripts [] [] root steps line rest e = inr (refl, ap (λ (x : List (List ℕ)). get_or x 0 []) e, ap (drop 1) e)
behind_scripts [] (s ∷ scripts) root steps line rest e = inl (omega arith, ap (λ (x : List (List ℕ)). get_or x 0 []) e)
behind_scripts (t ∷ ss) [] root steps line rest e =
    let k : ◌≡◌ {A = ℕ} 115 114 = ap (λ (x : List (List ℕ)). get_or (get_or x 0 []) 0 0) e in absurd (omega arith)
behind_scripts (t ∷ ss) (s ∷ scripts) root steps line rest e = grind (arith, behind_scripts ss scripts root steps line rest (ap (drop 1) e))

pub no_end : (ss scripts : List (List ScriptWord)) (root : List ScriptWord) (steps : List Step) → map text_of_script ss ≢ below scripts root steps
no_end [] [] root steps e = cc
no_end [] (s ∷ scripts) root steps e = cc
no_end (t ∷ ss) [] root steps e =
    let k : ◌≡◌ {A = ℕ} 115 114 = ap (λ (x : List (List ℕ)). get_or (get_or x 0 []) 0 0) e in omega arith
no_end (t ∷ ss) (s ∷ scripts) root steps e = no_end ss scripts root steps (ap (drop 1) e)

-- behind a header and lines of scripts
pub head_lines : (c : Configuration) (said xs : List (List ℕ)) (ss : List (List ScriptWord)) (p : Meaning) → HeaderFits c → said ≡ header c ++ map text_of_script ss → IsWellFormed p → said ++ xs ≡ trace_lines p → (c ≡ p.plan.config) × (map text_of_script ss ++ xs ≡ below p.plan.scripts p.plan.root p.steps)
head_lines c said xs ss p h s f e =
    behind_header c (map text_of_script ss ++ xs) p h f (sym (append_assoc (header c) (map text_of_script ss) xs) ∙ ap (λ (x : List (List ℕ)). x ++ xs) (sym s) ∙ e)

head_spelled : (c : Configuration) (said r : List (List ℕ)) (ss : List (List ScriptWord)) → said ≡ header c ++ map text_of_script ss → said ++ r ≡ header c ++ (map text_of_script ss ++ r)
head_spelled c said r ss s = ap (λ (x : List (List ℕ)). x ++ r) s ∙ append_assoc (header c) (map text_of_script ss) r

pub scripts_formed : (c : Configuration) (said : List (List ℕ)) (ss : List (List ScriptWord)) → HeaderFits c → said ≡ header c ++ map text_of_script ss → All (WordsFit c) ss → Formed said
scripts_formed c said ss h s fit =
    let p = meaning_from c ss (End ∷ []) [] in (
      p,
      parts_fit c ss (End ∷ []) [] h fit (root_end c) (All-nil StepFits),
      text_of_root (End ∷ []) ∷ codes "steps" ∷ [],
      head_spelled c said (text_of_root (End ∷ []) ∷ codes "steps" ∷ []) ss s ∙ sym (lines_are p),
    )

pub head_begins : (c : Configuration) (count : ℕ) (said : List (List ℕ)) (ss : List (List ScriptWord)) → IsHead c count said ss → Begins count said
head_begins c count said ss h =
    let p = meaning_from c ss (End ∷ []) [] in (
      p,
      parts_fit c ss (End ∷ []) [] h.header_fits h.fit (root_end c) (All-nil StepFits),
      parts_named c count ss (End ∷ []) [] h.named (end_named count) (All-nil (StepNames count)),
      text_of_root (End ∷ []) ∷ codes "steps" ∷ [],
      head_spelled c said (text_of_root (End ∷ []) ∷ codes "steps" ∷ []) ss h.spelled ∙ sym (lines_are p),
    )

pub head_short : (c : Configuration) (count : ℕ) (said : List (List ℕ)) (ss : List (List ScriptWord)) (p : Meaning) → IsHead c count said ss → IsWellFormed p → trace_lines p ≢ said
head_short c count said ss p h f e =
    let i = head_lines c said [] ss p h.header_fits h.spelled f (append-nil said ∙ sym e) in
    no_end ss p.plan.scripts p.plan.root p.steps (sym (append-nil (map text_of_script ss)) ∙ i.1)

pub task_next : (c : Configuration) (count : ℕ) (said : List (List ℕ)) (ss : List (List ScriptWord)) (line : List ℕ) → IsHead c count said ss → Begins count (said ++ line ∷ []) → ((words : List ScriptWord) × IsScript c count line words) ⊎ ((root : List ScriptWord) × IsRoot c count line root)
task_next c count said ss line h b =
    let plan = b.0.plan in
    let n = length ss in
    let words : List ScriptWord = get_or plan.scripts n [] in
    let i = head_lines c said (line ∷ b.3) ss b.0 h.header_fits h.spelled b.1 (sym (append_assoc said (line ∷ []) b.3) ∙ b.4) in
    elim (behind_scripts ss plan.scripts plan.root b.0.steps line b.3 i.1) [
      | inl a ↦ inl (words, record { spelled = a.1; fits = subst (λ (g : Configuration). WordsFit g words) (sym i.0) (b.1.scripts n [] a.0); named = b.2.scripts n [] a.0 })
      | inr a ↦ inr (plan.root, record { spelled = a.1; fits = subst (λ (g : Configuration). WordsFit g plan.root) (sym i.0) b.1.root; named = b.2.root })
    ]

pub head_none : (c : Configuration) (count : ℕ) (said : List (List ℕ)) → HeaderFits c → said ≡ header c → IsHead c count said []
head_none c count said h e = record { header_fits = h; spelled = e ∙ sym (append-nil (header c)); fit = All-nil (WordsFit c); named = All-nil (All (WordNames count)) }

pub head_script : (c : Configuration) (count : ℕ) (said : List (List ℕ)) (ss : List (List ScriptWord)) (line : List ℕ) (words : List ScriptWord) → IsHead c count said ss → IsScript c count line words → IsHead c count (said ++ line ∷ []) (ss ++ words ∷ [])
head_script c count said ss line words h r = record {
  header_fits = h.header_fits;
  spelled = head_spelled c said (line ∷ []) ss h.spelled ∙ ap (λ (l : List ℕ). header c ++ (map text_of_script ss ++ l ∷ [])) r.spelled ∙ ap (λ (x : List (List ℕ)). header c ++ x) (sym (map_push text_of_script ss words));
  fit = All-push (WordsFit c) ss words h.fit r.fits;
  named = All-push (All (WordNames count)) ss words h.named r.named;
}

-- behind the line of the root
pub top_lines : (c : Configuration) (count : ℕ) (said xs : List (List ℕ)) (ss : List (List ScriptWord)) (root : List ScriptWord) (p : Meaning) → IsTop c count said ss root → IsWellFormed p → said ++ xs ≡ trace_lines p → (c ≡ p.plan.config) × (length ss ≡ length p.plan.scripts) × (xs ≡ codes "steps" ∷ map text_of_step p.steps)
top_lines = grind (arith, append_assoc, head_lines, behind_scripts)

top_spelled : (c : Configuration) (count : ℕ) (said xs : List (List ℕ)) (ss : List (List ScriptWord)) (root : List ScriptWord) → IsTop c count said ss root → said ++ xs ≡ header c ++ (map text_of_script ss ++ text_of_root root ∷ xs)
top_spelled = grind (arith, append_assoc, head_spelled)

pub top_begins : (c : Configuration) (count : ℕ) (said : List (List ℕ)) (ss : List (List ScriptWord)) (root : List ScriptWord) → IsTop c count said ss root → Begins count said
top_begins c count said ss root t =
    let p = meaning_from c ss root [] in (
      p,
      parts_fit c ss root [] t.head.header_fits t.head.fit t.root_line.fits (All-nil StepFits),
      parts_named c count ss root [] t.head.named t.root_line.named (All-nil (StepNames count)),
      codes "steps" ∷ [],
      top_spelled c count said (codes "steps" ∷ []) ss root t ∙ sym (lines_are p),
    )

pub top_short : (c : Configuration) (count : ℕ) (said : List (List ℕ)) (ss : List (List ScriptWord)) (root : List ScriptWord) (p : Meaning) → IsTop c count said ss root → IsWellFormed p → trace_lines p ≢ said
top_short c count said ss root p t f e =
    let i : [] ≡ codes "steps" ∷ map text_of_step p.steps = (top_lines c count said [] ss root p t f (append-nil said ∙ sym e)).2 in cc

pub mark_next : (c : Configuration) (count : ℕ) (said : List (List ℕ)) (ss : List (List ScriptWord)) (root : List ScriptWord) (line : List ℕ) → IsTop c count said ss root → Begins count (said ++ line ∷ []) → line ≡ codes "steps"
mark_next c count said ss root line t b =
    ap (λ (x : List (List ℕ)). get_or x 0 []) (top_lines c count said (line ∷ b.3) ss root b.0 t b.1 (sym (append_assoc said (line ∷ []) b.3) ∙ b.4)).2

-- the meaning of a marked top and steps
pub steps_fit : (c : Configuration) (count : ℕ) (said : List (List ℕ)) (ss : List (List ScriptWord)) (root : List ScriptWord) (steps : List Step) (m : IsMarkedTop c count said ss root) → All StepFits steps → IsWellFormed (meaning_from c ss root steps)
steps_fit c count said ss root steps m fit = parts_fit c ss root steps m.is_top.head.header_fits m.is_top.head.fit m.is_top.root_line.fits fit

pub steps_named : (c : Configuration) (count : ℕ) (said : List (List ℕ)) (ss : List (List ScriptWord)) (root : List ScriptWord) (steps : List Step) (m : IsMarkedTop c count said ss root) → All (StepNames count) steps → NamesScripts count (meaning_from c ss root steps)
steps_named c count said ss root steps m named = parts_named c count ss root steps m.is_top.head.named m.is_top.root_line.named named

pub steps_spelled : (c : Configuration) (count : ℕ) (said : List (List ℕ)) (ss : List (List ScriptWord)) (root : List ScriptWord) (steps : List Step) (m : IsMarkedTop c count said ss root) → said ++ map text_of_step steps ≡ trace_lines (meaning_from c ss root steps)
steps_spelled c count said ss root steps m =
    let t = map text_of_step steps in
    ap (λ (x : List (List ℕ)). x ++ t) m.spelled ∙ append_assoc m.top (codes "steps" ∷ []) t ∙ top_spelled c count m.top (codes "steps" ∷ t) ss root m.is_top ∙ sym (lines_are (meaning_from c ss root steps))

pub steps_begin : (c : Configuration) (count : ℕ) (said : List (List ℕ)) (ss : List (List ScriptWord)) (root : List ScriptWord) (steps : List Step) → IsMarkedTop c count said ss root → All StepFits steps → All (StepNames count) steps → Begins count (said ++ map text_of_step steps)
steps_begin c count said ss root steps m fit named = (
  meaning_from c ss root steps,
  steps_fit c count said ss root steps m fit,
  steps_named c count said ss root steps m named,
  [],
  append-nil (said ++ map text_of_step steps) ∙ steps_spelled c count said ss root steps m,
)

pub steps_next : (c : Configuration) (count : ℕ) (said : List (List ℕ)) (ss : List (List ScriptWord)) (root : List ScriptWord) (steps : List Step) (line : List ℕ) → IsMarkedTop c count said ss root → Begins count ((said ++ map text_of_step steps) ++ line ∷ []) → (s : Step) × StepFits s × StepNames count s × (line ≡ text_of_step s)
steps_next c count said ss root steps line m b =
    let t = map text_of_step steps in
    let xs = t ++ line ∷ b.3 in
    let s : ((said ++ t) ++ line ∷ []) ++ b.3 ≡ m.top ++ codes "steps" ∷ xs =
    append_assoc (said ++ t) (line ∷ []) b.3 ∙ append_assoc said t (line ∷ b.3) ∙ ap (λ (x : List (List ℕ)). x ++ xs) m.spelled ∙ append_assoc m.top (codes "steps" ∷ []) xs in
    let tail : xs ≡ map text_of_step b.0.steps = ap (drop 1) (top_lines c count m.top (codes "steps" ∷ xs) ss root b.0 m.is_top b.1 (sym s ∙ b.4)).2 in
    let d : Step = Work 0 0 in
    let l : length t ≡ length steps = length-map steps text_of_step in
    let few : length steps < length b.0.steps = omega (arith, ap length tail, length-append t (line ∷ b.3), length-map b.0.steps text_of_step) in (
      get_or b.0.steps (length steps) d,
      b.1.steps (length steps) d few,
      b.2.steps (length steps) d few,
      sym (get_or_at t line b.3 [] (length steps) l) ∙ ap (λ (x : List (List ℕ)). get_or x (length steps) []) tail ∙ get_or-map text_of_step b.0.steps (length steps) d [] few,
    )
