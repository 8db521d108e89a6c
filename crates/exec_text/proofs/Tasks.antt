-- The lines of tasks, as they are read.
use Rattle.std.proofs.{Common.{◌≡◌, ℕ, ◌+◌, ◌≤◌, List, [], ◌∷◌, ◌++◌, All, Option, None, sym, ap, ◌∙◌, arith, map, length, codes, append_assoc, length-append, subst}, lemmas.List.{map_push, Elements.All-push}}
use Rattle.exec_machine.specs.declared.config.{Configuration.Configuration, ScriptWord.ScriptWord}
use Rattle.exec_text.{specs.{Grammar.{Meaning, HeaderFits, IsWellFormed, scripts_among, ScriptsThatCount, WordsFit, text_of_script}, Reading.{said_before, header, IsLineOf, IsNextSaid, IsLastSaid}}, proofs.{Scripts.{head_count, counted_by_line, counted_by_end}, Begins.{below, scripts_formed, head_lines, behind_scripts}}}

-- WHAT A LINE MAY HAVE

words_fit : (c : Configuration) (scripts : Option ℕ) (name line : List ℕ) (words : List ScriptWord) → IsLineOf c scripts name line words → WordsFit c words
words_fit c scripts name line words l = record { some = l.some; fit = l.right.fit }

loosely_told : (c : Configuration) (line : List ℕ) (words : List ScriptWord) → WordsFit c words → line ≡ text_of_script words → IsLineOf c None (codes "script") line words
loosely_told = grind arith

-- THE COUNT

-- the scripts so far, with their lines
pub record HasScripts (c : Configuration) (said : List (List ℕ)) (count : ℕ) : Type 0 where
  pub scripts : List (List ScriptWord)
  pub spelled : said ≡ header c ++ map text_of_script scripts
  pub fit : All (WordsFit c) scripts
  pub counted : count ≡ length scripts

pub one_more : (text t : List ℕ) (old next count : ℕ) (line : List ℕ) (c : Configuration) (words : List ScriptWord) → t ≡ text → HasScripts c (said_before text old) count → IsNextSaid t old next line → IsLineOf c None (codes "script") line words → HasScripts c (said_before text next) (count + 1)
one_more text t old next count line c words same h s l =
    let m = subst (λ (x : List ℕ). IsNextSaid x old next line) same s in
    let ss = h.scripts in
    record {
      scripts = ss ++ words ∷ [];
      spelled = m.said ∙ ap (λ (x : List (List ℕ)). x ++ line ∷ []) h.spelled ∙ append_assoc (header c) (map text_of_script ss) (line ∷ [])
          ∙ ap (λ (x : List ℕ). header c ++ (map text_of_script ss ++ x ∷ [])) l.spelled ∙ ap (λ (x : List (List ℕ)). header c ++ x) (sym (map_push text_of_script ss words));
      fit = All-push (WordsFit c) ss words h.fit (words_fit c None (codes "script") line words l);
      counted = omega (arith, h.counted, length-append ss (words ∷ []));
    }

pub count_ended : (text t : List ℕ) (old all count : ℕ) (c : Configuration) → t ≡ text → HeaderFits c → HasScripts c (said_before text old) count → IsLastSaid t old all → ScriptsThatCount text count
count_ended text t old all count c same f h l =
    let m = subst (λ (x : List ℕ). IsLastSaid x old all) same l in
    subst (ScriptsThatCount text) (head_count c (said_before text old) h.scripts h.spelled ∙ sym h.counted)
    (counted_by_end text old all m (scripts_formed c (said_before text old) h.scripts f h.spelled h.fit))

pub count_stopped : (text t : List ℕ) (old next count : ℕ) (line : List ℕ) (c : Configuration) → t ≡ text → HeaderFits c → HasScripts c (said_before text old) count → IsNextSaid t old next line → ((words : List ScriptWord) → IsLineOf c None (codes "script") line words → ⊥) → ScriptsThatCount text count
count_stopped text t old next count line c same f h s over =
    let said = said_before text old in
    let m = subst (λ (x : List ℕ). IsNextSaid x old next line) same s in
    subst (ScriptsThatCount text) (head_count c said h.scripts h.spelled ∙ sym h.counted)
    (counted_by_line text old next line m (scripts_formed c said h.scripts f h.spelled h.fit) (λ p g rest e. few p g rest (head_lines c said (line ∷ rest) h.scripts p f h.spelled g e)))
  where
    few : (p : Meaning) → IsWellFormed p → (rest : List (List ℕ)) → (c ≡ p.plan.config) × (map text_of_script h.scripts ++ line ∷ rest ≡ below p.plan.scripts p.plan.root p.steps) → length p.plan.scripts ≤ scripts_among (said_before text old)
    few = grind (arith, behind_scripts, loosely_told, head_count)
