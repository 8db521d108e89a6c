-- First faults.
use Rattle.std.{proofs.{Common.{◌≡◌, ◌≢◌, ℕ, ◌+◌, ◌-◌, ◌<◌, ◌≤◌, ◌⊎◌, inl, inr, List, [], ◌∷◌, ◌++◌, All, sym, ap, ◌∙◌, arith, length, get_or, map, codes, take, drop, filter, append_assoc, subst}, lemmas.List.{take_all, take-append-drop, take-take, append-nil, map_push, Elements.filter-append}}, specs.Str.Lines.lines}
use Rattle.exec_machine.specs.declared.{config.{Configuration.Configuration, ScriptWord.ScriptWord}, step.Step.Step}
use Rattle.exec_text.{specs.{Grammar.{Meaning, HeaderFits, IsWellFormed, NamesScripts, trace_lines, says_something, scripts_among, ScriptsThatCount, CanGoOn, IsTrace, IsTraceOf, IsFirstFault, text_of_step, StepFits, StepNames}, Reading.{said_before, IsNextSaid, IsLastSaid, IsMissing, IsStuck, header, IsScript, IsRoot, IsHead, IsTop, IsMarkedTop, all_said}, Laws.{TraceHasNoFault, FaultIsOne}}, proofs.{Said.said_all, Headers.{config_of, config_fits}, Numbers.AllSmall, Scripts.{counted_by_line, counted_by_end, count_is, count_is_one}, Begins.{Begins, Formed, formed_of, meaning_from, header_front, header_next, header_short, head_begins, head_short, task_next, head_script, top_begins, top_short, mark_next, steps_fit, steps_named, steps_spelled, steps_begin, steps_next}}}

pub fault_at : (text : List ℕ) (count old next : ℕ) (line : List ℕ) → ScriptsThatCount text count → IsNextSaid text old next line → Begins count (said_before text old) → (Begins count (said_before text old ++ line ∷ []) → ⊥) → IsFirstFault text next
unfolding said_before
fault_at text count old next line counted s begun over =
    let m : old < next = s.more in
    (count, counted, inl (omega arith, s.counted, subst (Begins count) (sym s.front) begun, λ b. over (subst (Begins count) s.said b)))

pub fault_end : (text : List ℕ) (count old next : ℕ) → ScriptsThatCount text count → IsLastSaid text old next → Begins count (said_before text old) → ((p : Meaning) → IsWellFormed p → trace_lines p ≢ said_before text old) → IsFirstFault text (next + 1)
unfolding said_before
fault_end = grind (arith, take_all)

-- what goes on went on before
earlier : (count : ℕ) (xs : List (List ℕ)) (n : ℕ) → CanGoOn count xs → CanGoOn count (take n xs)
earlier count xs n c =
    let f = filter says_something in (
      c.0,
      c.1,
      c.2,
      f (drop n xs) ++ c.3,
      sym (append_assoc (f (take n xs)) (f (drop n xs)) c.3) ∙ ap (λ (s : List (List ℕ)). s ++ c.3) (sym (filter-append says_something (take n xs) (drop n xs)) ∙ ap f (take-append-drop n xs)) ∙ c.4,
    )

earlier_take : (count : ℕ) (xs : List (List ℕ)) (m n : ℕ) → m ≤ n → CanGoOn count (take n xs) → CanGoOn count (take m xs)
earlier_take count xs m n h c = subst (CanGoOn count) (take-take m n xs h) (earlier count (take n xs) m c)

trace_goes_on : (text : List ℕ) (count : ℕ) → ScriptsThatCount text count → IsTrace text → CanGoOn count (lines text)
trace_goes_on text count counted t =
    let same = count_is text count t.0 counted t.1.fits.formed t.1.spelled in
    (t.0, t.1.fits.formed, subst (λ (k : ℕ). NamesScripts k t.0) (sym same) t.1.fits.named, [], append-nil (filter says_something (lines text)) ∙ t.1.spelled)

pub no_fault : TraceHasNoFault
no_fault text line t f =
    elim f.2 [ inl a ↦ a.3 (earlier f.0 (lines text) line (trace_goes_on text f.0 f.1 t)) | inr b ↦ b.2 t ]

-- the line is such a one, where so many scripts count
abbrev IsFaultAt : ℕ → List ℕ → ℕ → Type 0
IsFaultAt count text line =
    ((0 < line) × (line ≤ length (lines text)) × CanGoOn count (take (line - 1) (lines text)) × (CanGoOn count (take line (lines text)) → ⊥))
    ⊎ ((line ≡ length (lines text) + 1) × CanGoOn count (lines text) × (IsTrace text → ⊥))

order : (count : ℕ) (text : List ℕ) (m n : ℕ) → IsFaultAt count text m → IsFaultAt count text n → m < n → ⊥
order count text m n f g l =
    elim f [
      | inl a ↦ elim g [
        | inl b ↦ a.3 (earlier_take count (lines text) m (n - 1) (omega arith) b.2)
        | inr b ↦ a.3 (earlier count (lines text) m b.1)
      ]
      | inr a ↦ elim g [
        | inl b ↦ let h : n ≤ length (lines text) = b.1 in omega (arith, a.0)
        | inr b ↦ omega (arith, a.0, b.0)
      ]
    ]

pub fault_is_one : FaultIsOne
fault_is_one text m n f g =
    let same = count_is_one text g.0 f.0 g.1 f.1 in
    let h = subst (λ (k : ℕ). IsFaultAt k text n) same g.2 in
    let a : m < n → ⊥ = order f.0 text m n f.2 h in
    let b : n < m → ⊥ = order f.0 text n m h f.2 in omega (arith, a, b)

-- where a line is missing
fault_missing : (text : List ℕ) (count old number : ℕ) → ScriptsThatCount text count → IsMissing text old number → Begins count (said_before text old) → ((p : Meaning) → IsWellFormed p → trace_lines p ≢ said_before text old) → IsFirstFault text number
fault_missing text count old number counted m begun over = subst (IsFirstFault text) (sym m.2) (fault_end text count old m.0 counted m.1 begun over)

-- at the header, of which so many lines were read
stuck_at : (text : List ℕ) (old k line : ℕ) (c : Configuration) (Wrong : List ℕ → Type 0) → HeaderFits c → k < 9 → said_before text old ≡ take k (header c) → ((l : List ℕ) → Wrong l → (d : Configuration) → HeaderFits d → l ≢ get_or (header d) k []) → IsStuck text old Wrong line → IsFirstFault text line
stuck_at text old k line c Wrong fits small s over h =
    let count = scripts_among (said_before text old) in
    let begun = subst (Begins count) (sym s) (header_front count c k fits) in
    let formed = formed_of count (said_before text old) begun in
    elim h [
      | inl a ↦ (
          let none : Formed (said_before text old ++ a.0 ∷ []) → ⊥ =
          λ b. let r = header_next c k a.0 small (subst (λ (x : List (List ℕ)). Formed (x ++ a.0 ∷ [])) s b) in over a.0 a.2 r.0 r.1 r.2 in
          let counted = counted_by_line text old line a.0 a.1 formed (λ p f rest e. absurd (none (p, f, rest, append_assoc (said_before text old) (a.0 ∷ []) rest ∙ e))) in
          fault_at text count old line a.0 counted a.1 begun (λ b. none (formed_of count (said_before text old ++ a.0 ∷ []) b))
          )
      | inr a ↦ fault_missing text count old line (counted_by_end text old a.0 a.1 formed) a begun (λ p f q. header_short c k p (omega arith) (q ∙ s))
    ]

-- and these are its numbers so far
pub header_stuck : (text t : List ℕ) (old k : ℕ) (ns : List ℕ) (Wrong : List ℕ → Type 0) (line : ℕ) → t ≡ text → AllSmall ns → k < 9 → said_before t old ≡ take k (header (config_of ns)) → ((l : List ℕ) → Wrong l → (d : Configuration) → HeaderFits d → l ≢ get_or (header d) k []) → IsStuck t old Wrong line → IsFirstFault text line
header_stuck text t old k ns Wrong line same below small s over h = subst (λ (x : List ℕ). IsFirstFault x line) same (stuck_at t old k line (config_of ns) Wrong (config_fits ns below) small s over h)

-- at the lines of tasks
pub task_missing : (text t : List ℕ) (count old line : ℕ) (c : Configuration) (ss : List (List ScriptWord)) → t ≡ text → ScriptsThatCount text count → IsHead c count (said_before text old) ss → IsMissing t old line → IsFirstFault text line
task_missing text t count old line c ss same counted h m =
    fault_missing text count old line counted (subst (λ (x : List ℕ). IsMissing x old line) same m) (head_begins c count (said_before text old) ss h) (λ p f e. head_short c count (said_before text old) ss p h f e)

pub task_wrong : (text t : List ℕ) (count old next : ℕ) (line : List ℕ) (c : Configuration) (ss : List (List ScriptWord)) → t ≡ text → ScriptsThatCount text count → IsHead c count (said_before text old) ss → IsNextSaid t old next line → ((words : List ScriptWord) → IsScript c count line words → ⊥) → ((root : List ScriptWord) → IsRoot c count line root → ⊥) → IsFirstFault text next
task_wrong text t count old next line c ss same counted h s script root =
    fault_at text count old next line counted (subst (λ (x : List ℕ). IsNextSaid x old next line) same s) (head_begins c count (said_before text old) ss h)
    (λ b. elim (task_next c count (said_before text old) ss line h b) [ inl a ↦ script a.0 a.1 | inr a ↦ root a.0 a.1 ])

pub script_right : (text t : List ℕ) (count old next : ℕ) (line : List ℕ) (c : Configuration) (ss : List (List ScriptWord)) (words : List ScriptWord) → t ≡ text → IsHead c count (said_before text old) ss → IsNextSaid t old next line → IsScript c count line words → IsHead c count (said_before text next) (ss ++ words ∷ [])
script_right text t count old next line c ss words same h s r =
    let m = subst (λ (x : List ℕ). IsNextSaid x old next line) same s in
    subst (λ (x : List (List ℕ)). IsHead c count x (ss ++ words ∷ [])) (sym m.said) (head_script c count (said_before text old) ss line words h r)

-- at the line `steps`
pub mark_missing : (text : List ℕ) (count old : ℕ) (c : Configuration) (ss : List (List ScriptWord)) (root : List ScriptWord) (line : ℕ) → ScriptsThatCount text count → IsTop c count (said_before text old) ss root → IsMissing text old line → IsFirstFault text line
mark_missing text count old c ss root line counted t m =
    fault_missing text count old line counted m (top_begins c count (said_before text old) ss root t) (λ p f e. top_short c count (said_before text old) ss root p t f e)

pub mark_wrong : (text : List ℕ) (count old next : ℕ) (line : List ℕ) (c : Configuration) (ss : List (List ScriptWord)) (root : List ScriptWord) → ScriptsThatCount text count → IsTop c count (said_before text old) ss root → IsNextSaid text old next line → line ≢ codes "steps" → IsFirstFault text next
mark_wrong text count old next line c ss root counted t s other =
    fault_at text count old next line counted s (top_begins c count (said_before text old) ss root t) (λ b. other (mark_next c count (said_before text old) ss root line t b))

-- at the steps
pub step_wrong : (text t : List ℕ) (first count old next : ℕ) (line : List ℕ) (c : Configuration) (ss : List (List ScriptWord)) (root : List ScriptWord) (steps : List Step) → t ≡ text → ScriptsThatCount text count → IsMarkedTop c count (said_before text first) ss root → All StepFits steps → All (StepNames count) steps → said_before text old ≡ said_before text first ++ map text_of_step steps → IsNextSaid t old next line → ((s : Step) → StepFits s → StepNames count s → line ≢ text_of_step s) → IsFirstFault text next
step_wrong text t first count old next line c ss root steps e counted m fit named s n over =
    fault_at text count old next line counted (subst (λ (x : List ℕ). IsNextSaid x old next line) e n) (subst (Begins count) (sym s) (steps_begin c count (said_before text first) ss root steps m fit named))
    (λ b. let r = steps_next c count (said_before text first) ss root steps line m (subst (λ (x : List (List ℕ)). Begins count (x ++ line ∷ [])) s b) in over r.0 r.1 r.2 r.3)

pub step_right : (text t : List ℕ) (first old next : ℕ) (line : List ℕ) (steps : List Step) (step : Step) → t ≡ text → said_before text old ≡ said_before text first ++ map text_of_step steps → IsNextSaid t old next line → line ≡ text_of_step step → said_before text next ≡ said_before text first ++ map text_of_step (steps ++ step ∷ [])
step_right = grind (arith, append_assoc, map_push)

pub steps_all : (text t : List ℕ) (old next : ℕ) (more : List (List ℕ)) → t ≡ text → said_before text old ≡ more → IsLastSaid t old next → all_said text ≡ more
steps_all = grind (arith, said_all)

-- what was read is what the text spells
pub trace_from : (text : List ℕ) (said : List (List ℕ)) (count : ℕ) (c : Configuration) (ss : List (List ScriptWord)) (root : List ScriptWord) (steps : List Step) → ScriptsThatCount text count → IsMarkedTop c count said ss root → All StepFits steps → All (StepNames count) steps → all_said text ≡ said ++ map text_of_step steps → IsTraceOf text (meaning_from c ss root steps)
trace_from text said count c ss root steps counted m fit named e =
    let p = meaning_from c ss root steps in
    let formed = steps_fit c count said ss root steps m fit in
    let spelled = e ∙ steps_spelled c count said ss root steps m in
    record {
      fits = record { formed = formed; named = subst (λ (k : ℕ). NamesScripts k p) (count_is text count p counted formed spelled) (steps_named c count said ss root steps m named) };
      spelled = spelled;
    }

-- and so it is where the top was read up to the mark, and then the steps
pub spelled_trace : (text t : List ℕ) (before said : List (List ℕ)) (count : ℕ) (c : Configuration) (ss : List (List ScriptWord)) (root : List ScriptWord) (steps : List Step) → t ≡ text → ScriptsThatCount text count → IsTop c count before ss root → said ≡ before ++ codes "steps" ∷ [] → All StepFits steps → All (StepNames count) steps → all_said t ≡ said ++ map text_of_step steps → IsTraceOf text (meaning_from c ss root steps)
spelled_trace text t before said count c ss root steps same counted top marked fit named all =
    trace_from text said count c ss root steps counted (record { top = before; is_top = top; spelled = marked }) fit named (sym (ap all_said same) ∙ all)
