-- A text has one meaning.
use Rattle.std.proofs.{Common.{◌≡◌, ℕ, inl, inr, List, [], ◌∷◌, All, map, length, codes, refl, sym, ap, ◌∙◌, subst, arith, get_or, drop}, lemmas.List.{length-map, Elements.All-tail}}
use Rattle.exec_machine.specs.declared.{config.{Configuration.Configuration, ScriptWord.ScriptWord}, step.Step.Step}
use Rattle.exec_text.{specs.{Grammar.{HeaderFits, WordsFit, text_of_words, text_of_script, text_of_root, text_of_step, StepFits}, Laws.MeaningIsOne}, proofs.{Words.words_same, Steps.step_same, Headers.append_same, Begins.{below, meaning_from, lines_are, behind_header, behind_scripts}}}

steps_same : (ss ts : List Step) → All StepFits ss → All StepFits ts → map text_of_step ss ≡ map text_of_step ts → ss ≡ ts
steps_same [] [] f g e = refl
steps_same [] (t ∷ ts) f g e = cc
steps_same (s ∷ ss) [] f g e = cc
steps_same (s ∷ ss) (t ∷ ts) f g e =
    let h : s ≡ t = step_same s t (f 0 s (omega arith)) (g 0 t (omega arith)) (ap (λ (x : List (List ℕ)). get_or x 0 []) e) in
    ap (λ (x : Step). x ∷ ss) h ∙ ap (λ (x : List Step). t ∷ x) (steps_same ss ts (All-tail StepFits s ss f) (All-tail StepFits t ts g) (ap (drop 1) e))

scripts_same : (c : Configuration) (ss ts : List (List ScriptWord)) → HeaderFits c → All (WordsFit c) ss → All (WordsFit c) ts → map text_of_script ss ≡ map text_of_script ts → ss ≡ ts
scripts_same c [] [] small f g e = refl
scripts_same c [] (t ∷ ts) small f g e = cc
scripts_same c (s ∷ ss) [] small f g e = cc
scripts_same c (s ∷ ss) (t ∷ ts) small f g e =
    let text : text_of_words s ≡ text_of_words t = ap (λ (x : List (List ℕ)). drop 6 (get_or x 0 [])) e in
    let h : s ≡ t = words_same c s t small (f 0 s (omega arith)).fit (g 0 t (omega arith)).fit text in
    ap (λ (x : List ScriptWord). x ∷ ss) h ∙ ap (λ (x : List (List ScriptWord)). t ∷ x) (scripts_same c ss ts small (All-tail (WordsFit c) s ss f) (All-tail (WordsFit c) t ts g) (ap (drop 1) e))

-- what stands below two headers that read the same
below_same : (ss ts : List (List ScriptWord)) (q r : List ScriptWord) (x y : List Step) → below ss q x ≡ below ts r y → (map text_of_script ss ≡ map text_of_script ts) × (text_of_root q ≡ text_of_root r) × (map text_of_step x ≡ map text_of_step y)
below_same ss ts q r x y e =
    elim (behind_scripts ss ts r y (text_of_root q) (codes "steps" ∷ map text_of_step x) e) [
      | inl a ↦ let k : ◌≡◌ {A = ℕ} 114 115 = ap (λ (b : List ℕ). get_or b 0 0) a.1 in absurd (omega arith)
      | inr a ↦ (
          let same : length (map text_of_script ss) ≡ length (map text_of_script ts) = omega (arith, a.0, length-map ss text_of_script, length-map ts text_of_script) in
          ((append_same (map text_of_script ss) (map text_of_script ts) (text_of_root q ∷ codes "steps" ∷ map text_of_step x) (text_of_root r ∷ codes "steps" ∷ map text_of_step y) same e).0, a.1, ap (drop 1) a.2)
          )
    ]

pub meaning_is_one : MeaningIsOne
meaning_is_one text p q a b =
    let f = a.fits.formed in
    let g = b.fits.formed in
    let small = f.header in
    let i = behind_header p.plan.config (below p.plan.scripts p.plan.root p.steps) q f.header g (sym (lines_are p) ∙ sym a.spelled ∙ b.spelled) in
    let k = below_same p.plan.scripts q.plan.scripts p.plan.root q.plan.root p.steps q.steps i.1 in
    let gs : All (WordsFit p.plan.config) q.plan.scripts = subst (λ (c : Configuration). All (WordsFit c) q.plan.scripts) (sym i.0) g.scripts in
    let gr : WordsFit p.plan.config q.plan.root = subst (λ (c : Configuration). WordsFit c q.plan.root) (sym i.0) g.root in
    let s : p.plan.scripts ≡ q.plan.scripts = scripts_same p.plan.config p.plan.scripts q.plan.scripts small f.scripts gs k.0 in
    let r : p.plan.root ≡ q.plan.root = words_same p.plan.config p.plan.root q.plan.root small f.root.fit gr.fit (ap (drop 4) k.1) in
    let t : p.steps ≡ q.steps = steps_same p.steps q.steps f.steps g.steps k.2 in
    ap (λ (x : Configuration). meaning_from x p.plan.scripts p.plan.root p.steps) i.0 ∙ ap (λ (x : List (List ScriptWord)). meaning_from q.plan.config x p.plan.root p.steps) s
    ∙ ap (λ (x : List ScriptWord). meaning_from q.plan.config q.plan.scripts x p.steps) r ∙ ap (λ (x : List Step). meaning_from q.plan.config q.plan.scripts q.plan.root x) t
