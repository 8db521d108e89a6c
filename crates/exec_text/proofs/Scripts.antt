-- How many scripts count.
use Rattle.std.{proofs.{Common.{◌≡◌, ℕ, ◌+◌, ◌-◌, ◌<◌, ◌≤◌, inl, inr, Bool, true, false, cond, List, [], ◌∷◌, ◌++◌, refl, sym, ap, ◌∙◌, arith, map, filter, length, take, drop, append_assoc, length-append, subst}, lemmas.{Bool.Decides.leb_tells, List.{take-append-drop, take-take, take_all, append-nil, Elements.filter-append}}}, specs.Str.Lines.lines}
use Rattle.exec_machine.specs.declared.{config.{Configuration.Configuration, ScriptWord.ScriptWord}, step.{Step.{Step, TheVariants.{Work, One}}, Action.Action}}
use Rattle.exec_text.{specs.{Grammar.{Meaning, IsWellFormed, says_something, is_script, scripts_among, ScriptsThatCount, CanBegin, trace_lines, text_of_script, text_of_step}, Reading.{said_before, all_said, header, IsNextSaid, IsLastSaid}}, proofs.{Said.said_all, Begins.{Formed, below, lines_are}}}

-- COUNTING

pub scripts_more : (xs ys : List (List ℕ)) → scripts_among (xs ++ ys) ≡ scripts_among xs + scripts_among ys
unfolding scripts_among
scripts_more xs ys = ap length (filter-append is_script xs ys) ∙ length-append (filter is_script xs) (filter is_script ys)

one_script : (line : List ℕ) (rest : List (List ℕ)) → is_script line ≡ true → scripts_among (line ∷ rest) ≡ scripts_among rest + 1
unfolding scripts_among
one_script = grind arith

no_script : (line : List ℕ) (rest : List (List ℕ)) → is_script line ≡ false → scripts_among (line ∷ rest) ≡ scripts_among rest
unfolding scripts_among
no_script line rest e = ap (λ (b : Bool). length (cond b (line ∷ filter is_script rest) (filter is_script rest))) e

none_among : scripts_among [] ≡ 0
unfolding scripts_among
none_among = refl

filter_step : (x : List ℕ) (xs : List (List ℕ)) → filter is_script (filter says_something xs) ≡ filter is_script xs → (a b : Bool) → is_script x ≡ a → says_something x ≡ b → filter is_script (filter says_something (x ∷ xs)) ≡ filter is_script (x ∷ xs)
filter_step = grind arith

filter_twice : (xs : List (List ℕ)) → filter is_script (filter says_something xs) ≡ filter is_script xs
filter_twice [] = refl
filter_twice (x ∷ xs) = filter_step x xs (filter_twice xs) (is_script x) (says_something x) refl refl

pub said_scripts : (xs : List (List ℕ)) → scripts_among (filter says_something xs) ≡ scripts_among xs
unfolding scripts_among
said_scripts xs = ap length (filter_twice xs)

pub said_count : (text : List ℕ) (k : ℕ) → scripts_among (said_before text k) ≡ scripts_among (take k (lines text))
unfolding said_before
said_count text k = said_scripts (take k (lines text))

fewer_in_front : (xs : List (List ℕ)) (m : ℕ) → scripts_among (take m xs) ≤ scripts_among xs
fewer_in_front xs m = omega (arith, scripts_more (take m xs) (drop m xs), ap scripts_among (take-append-drop m xs))

fewer_before : (xs : List (List ℕ)) (m n : ℕ) → m ≤ n → scripts_among (take m xs) ≤ scripts_among (take n xs)
fewer_before xs m n h = subst (λ (t : List (List ℕ)). scripts_among t ≤ scripts_among (take n xs)) (take-take m n xs h) (fewer_in_front (take n xs) m)

-- THE LINES OF A TRACE

pub header_none : (c : Configuration) → scripts_among (header c) ≡ 0
unfolding header scripts_among
header_none c = refl

pub scripts_all : (ss : List (List ScriptWord)) → scripts_among (map text_of_script ss) ≡ length ss
scripts_all [] = none_among
scripts_all (s ∷ ss) = one_script (text_of_script s) (map text_of_script ss) refl ∙ omega (arith, scripts_all ss)

action_no : (a : Action) → is_script (text_of_step (One a)) ≡ false
action_no = grind arith

steps_none : (steps : List Step) → scripts_among (map text_of_step steps) ≡ 0
steps_none [] = none_among
steps_none (Work v n ∷ steps) = no_script (text_of_step (Work v n)) (map text_of_step steps) refl ∙ steps_none steps
steps_none (One a ∷ steps) = no_script (text_of_step (One a)) (map text_of_step steps) (action_no a) ∙ steps_none steps

below_count : (scripts : List (List ScriptWord)) (root : List ScriptWord) (steps : List Step) → scripts_among (below scripts root steps) ≡ length scripts
below_count = grind (arith, scripts_more, scripts_all, no_script, steps_none)

pub trace_count : (p : Meaning) → scripts_among (trace_lines p) ≡ length p.plan.scripts
trace_count = grind (arith, lines_are, scripts_more, below, header_none, below_count)

pub head_count : (c : Configuration) (said : List (List ℕ)) (ss : List (List ScriptWord)) → said ≡ header c ++ map text_of_script ss → scripts_among said ≡ length ss
head_count c said ss e =
    ap scripts_among e ∙ scripts_more (header c) (map text_of_script ss) ∙ omega (arith, header_none c, scripts_all ss)

-- WHICH COUNT

pub count_is_one : (text : List ℕ) (m n : ℕ) → ScriptsThatCount text m → ScriptsThatCount text n → m ≡ n
count_is_one = grind arith

pub count_is : (text : List ℕ) (count : ℕ) (p : Meaning) → ScriptsThatCount text count → IsWellFormed p → all_said text ≡ trace_lines p → count ≡ length p.plan.scripts
count_is text count p a f e =
    let xs = lines text in
    let all : take (length xs) xs ≡ xs = take_all (length xs) xs (omega arith) in
    let whole : CanBegin xs = (p, f, [], append-nil (all_said text) ∙ e) in
    let high = a.most (length xs) (subst CanBegin (sym all) whole) in
    omega (arith, a.counted, fewer_in_front xs a.last, high, ap scripts_among all, said_scripts xs, ap scripts_among e, trace_count p)

end_most : (text : List ℕ) (old all k : ℕ) → IsLastSaid text old all → scripts_among (take k (lines text)) ≤ scripts_among (said_before text old)
end_most text old all k l =
    omega (arith, fewer_in_front (lines text) k, said_scripts (lines text), ap scripts_among (said_all text all l.all), ap scripts_among l.said)

said_formed : (text : List ℕ) (k : ℕ) → Formed (said_before text k) → CanBegin (take k (lines text))
unfolding said_before
said_formed text k b = b

pub counted_by_end : (text : List ℕ) (old all : ℕ) → IsLastSaid text old all → Formed (said_before text old) → ScriptsThatCount text (scripts_among (said_before text old))
counted_by_end text old all l formed = record {
  last = old;
  begin = said_formed text old formed;
  counted = said_count text old;
  most = λ k b. end_most text old all k l;
}

said_split : (text : List ℕ) (m k : ℕ) → m ≤ k → said_before text m ++ filter says_something (drop m (take k (lines text))) ≡ said_before text k
unfolding said_before
said_split text m k h =
    let xs = take k (lines text) in
    ap (λ (t : List (List ℕ)). filter says_something t ++ filter says_something (drop m xs)) (sym (take-take m k (lines text) h)) ∙ sym (filter-append says_something (take m xs) (drop m xs)) ∙ ap (filter says_something) (take-append-drop m xs)

formed_said : (text : List ℕ) (k : ℕ) → CanBegin (take k (lines text)) → Formed (said_before text k)
unfolding said_before
formed_said text k b = b

-- the most that stand in a beginning, where a line is such that no script comes from it on
line_most : (text : List ℕ) (old next k : ℕ) (line : List ℕ) → IsNextSaid text old next line → ((p : Meaning) → IsWellFormed p → (rest : List (List ℕ)) → said_before text old ++ line ∷ rest ≡ trace_lines p → length p.plan.scripts ≤ scripts_among (said_before text old)) → Formed (said_before text k) → scripts_among (take k (lines text)) ≤ scripts_among (said_before text old)
line_most text old next k line s few b =
    elim (leb_tells next k) [
      | inl t ↦ (
          let more = filter says_something (drop next (take k (lines text))) in
          let split = said_split text next k t.1 in
          let rest = more ++ b.2 in
          let e : said_before text old ++ line ∷ rest ≡ trace_lines b.0 =
          sym (append_assoc (said_before text old) (line ∷ []) rest) ∙ ap (λ (x : List (List ℕ)). x ++ rest) (sym s.said) ∙ sym (append_assoc (said_before text next) more b.2) ∙ ap (λ (x : List (List ℕ)). x ++ b.2) split ∙ b.3 in
          omega (arith, few b.0 b.1 rest e, said_count text k, scripts_more (said_before text k) b.2, ap scripts_among b.3, trace_count b.0)
          )
      | inr t ↦ (
          let m : old < next = s.more in
          omega (arith, fewer_before (lines text) k (next - 1) (omega (arith, t.1)), said_count text (next - 1), ap scripts_among s.front)
          )
    ]

pub counted_by_line : (text : List ℕ) (old next : ℕ) (line : List ℕ) → IsNextSaid text old next line → Formed (said_before text old) → ((p : Meaning) → IsWellFormed p → (rest : List (List ℕ)) → said_before text old ++ line ∷ rest ≡ trace_lines p → length p.plan.scripts ≤ scripts_among (said_before text old)) → ScriptsThatCount text (scripts_among (said_before text old))
counted_by_line text old next line s formed few = record {
  last = old;
  begin = said_formed text old formed;
  counted = said_count text old;
  most = λ k b. line_most text old next k line s few (formed_said text k b);
}
