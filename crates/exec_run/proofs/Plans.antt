-- The plan of a trace, which its bodies play.
use Rattle.std.proofs.Common.{◌≡◌, ℕ, ◌≤◌, Bool, true, List, [], ◌∷◌, None, refl, arith, ◌^◌, length, ◌+◌, ◌==◌, ap, subst, zero, suc, ◌-◌, ◌<◌, ◌++◌, replicate, slice_get, Some, sym, ◌∙◌}
use Rattle.exec_run.{proofs.Names.{list_all, cases_Bool, and_parts, leb-true, none-some, LONGEST_TIMEOUT, Configuration, ScriptWord, Meaning, MeaningFits, WordFits, WordNames, if◌then◌else◌, Vec, Global, length-map, length-slice_split, count_by-le-length, length-filter, slice_split, lines, lines_of_parts, Trace, IsTraceOf, meaning_of, says_something, lines_count, replicate_next, length-replicate, Root, Waits, IsPlanOf, IsRootOf}, specs.{declared.field.Field.Field, Ranges.{first_out_of, first_out_of_range}, Asking.limits_of, Script.{CanPlay, IsProgram, Played, begun, Runs, held_told, itself, spot_told, words_of_all}}}

-- A configuration of which no part is out of its range.

all_within : (parts : List (Field × ℕ × Bool)) → first_out_of parts ≡ None → list_all (λ part. part.2) parts ≡ true
all_within [] none = refl
all_within (part ∷ parts) none = grind (arith, cases_Bool, none-some, all_within parts)

-- what a run and its scripts have to know of it
pub record IsInRange (c : Configuration) : Type 0 where
  pub some_worker : 1 ≤ c.workers
  pub few_workers : c.workers ≤ 64
  pub connect : c.connect ≤ LONGEST_TIMEOUT
  pub rw : c.rw ≤ LONGEST_TIMEOUT
  pub files : c.files ≤ 64
  pub sockets : c.sockets ≤ 1024

pub in_range : (c : Configuration) → first_out_of_range c ≡ None → IsInRange c
in_range = grind (arith, and_parts, all_within, leb-true)

-- The words of a trace that was read can be played.

pub record IsSmall (c : Configuration) : Type 0 where
  pub sockets : c.sockets ≤ 1024
  pub files : c.files ≤ 64

pub can_play : (c : Configuration) (many : ℕ) (w : ScriptWord) → IsSmall c → WordFits c w → WordNames many w → CanPlay many w
can_play = grind arith

-- what is known of the plan of a trace with not too many scripts
pub program_of : (m : Meaning) → MeaningFits m → first_out_of_range m.plan.config ≡ None → length m.plan.scripts ≤ 2 ^ 32 → IsProgram m.plan.scripts (limits_of m.plan.config) m.plan
program_of = grind (arith, in_range, can_play)

-- A text has no more scripts than bytes.

last_few : (b : Bool) (x : List ℕ) → length (if b then [] else x ∷ []) ≤ 1
last_few = grind arith

parts_few : (parts : List (List ℕ)) → length (lines_of_parts parts) ≤ length parts
parts_few [] = omega arith
parts_few (x ∷ []) = last_few (length x == 0) x
parts_few (x ∷ y ∷ more) = let fewer = parts_few (y ∷ more) in omega (arith, fewer)

lines_few : (text : List ℕ) → length (lines text) ≤ length text + 1
lines_few text = omega (arith, parts_few (slice_split (λ b. b == 10) text), length-slice_split (λ b. b == 10) text, count_by-le-length (λ b. b == 10) text)

pub few_scripts : (text : List ℕ) (m : Meaning) → length text ≤ 2 ^ 26 → IsTraceOf text m → length m.plan.scripts ≤ 2 ^ 32
few_scripts text m short trace =
    omega (arith, short, lines_few text, length-filter says_something (lines text), count_by-le-length says_something (lines text), ap length trace.spelled, lines_count m)

pub few_there : (t : Trace) → length (meaning_of t).plan.scripts ≤ 2 ^ 32 → length t.scripts.items ≤ 2 ^ 32
few_there = grind (arith, length-map)

-- ROOTS

root_begins : (m : Meaning) → MeaningFits m → first_out_of_range m.plan.config ≡ None → IsProgram m.plan.scripts (limits_of m.plan.config) m.plan → IsRootOf itself Runs held_told spot_told m.plan 0 (begun Root m.plan.root m.plan.scripts (limits_of m.plan.config))
root_begins = grind (arith, in_range, can_play)

wait_begins : (m : Meaning) (i : ℕ) → suc i < m.plan.config.workers → IsProgram m.plan.scripts (limits_of m.plan.config) m.plan → IsRootOf itself Runs held_told spot_told m.plan (suc i) (begun Waits [] m.plan.scripts (limits_of m.plan.config))
wait_begins = grind arith

-- one more that waits
pub more_waiting : (first wait : Played) (n : ℕ) (before after : List Played) → 1 ≤ n → after ≡ before ++ wait ∷ [] → before ≡ first ∷ replicate (n - 1) wait → after ≡ first ∷ replicate (n + 1 - 1) wait
more_waiting = grind (arith, replicate_next)

within_many : (n i : ℕ) (x y : Played) → slice_get (replicate n x) i ≡ Some y → i < n
within_many zero i x y there = absurd (none-some _ there)
within_many (suc n) zero x y there = omega arith
within_many (suc n) (suc i) x y there = let l = within_many n i x y there in omega arith

among : (n i : ℕ) (x y : Played) → slice_get (replicate n x) i ≡ Some y → x ≡ y
among zero i x y there = absurd (none-some _ there)
among (suc n) zero x y there = cc
among (suc n) (suc i) x y there = among n i x y there

each_begins : (m : Meaning) (n i : ℕ) (body : Played) → n < m.plan.config.workers → MeaningFits m → first_out_of_range m.plan.config ≡ None → IsProgram m.plan.scripts (limits_of m.plan.config) m.plan
    → slice_get (begun Root m.plan.root m.plan.scripts (limits_of m.plan.config) ∷ replicate n (begun Waits [] m.plan.scripts (limits_of m.plan.config))) i ≡ Some body → IsRootOf itself Runs held_told spot_told m.plan i body
each_begins m n zero body many fits in_range_of program there =
    let is : begun Root m.plan.root m.plan.scripts (limits_of m.plan.config) ≡ body = cc in subst (IsRootOf itself Runs held_told spot_told m.plan 0) is (root_begins m fits in_range_of program)
each_begins m n (suc i) body many fits in_range_of program there =
    subst (IsRootOf itself Runs held_told spot_told m.plan (suc i)) (among n i (begun Waits [] m.plan.scripts (limits_of m.plan.config)) body there)
    (wait_begins m i (let l = within_many n i (begun Waits [] m.plan.scripts (limits_of m.plan.config)) body there in omega arith) program)

-- The bodies begin the roots of the plan.
is_plan : (m : Meaning) (roots : List Played) (told : Configuration) → MeaningFits m → first_out_of_range m.plan.config ≡ None → length m.plan.scripts ≤ 2 ^ 32 → told ≡ m.plan.config
    → roots ≡ begun Root m.plan.root m.plan.scripts (limits_of m.plan.config) ∷ replicate (m.plan.config.workers - 1) (begun Waits [] m.plan.scripts (limits_of m.plan.config)) → IsPlanOf itself Runs held_told spot_told m.plan told roots
is_plan m roots told fits in_range_of few same are =
    let within = in_range m.plan.config in_range_of in
    let program = program_of m fits in_range_of few in
    record {
      config = sym same;
      many = ap length are ∙ omega (arith, length-replicate {A = Played} (m.plan.config.workers - 1) (begun Waits [] m.plan.scripts (limits_of m.plan.config)), within.some_worker) ∙ sym (ap (λ (c : Configuration). c.workers) same);
      each = λ i body there. each_begins m (m.plan.config.workers - 1) i body (omega (arith, within.some_worker)) fits in_range_of program (ap (λ xs. slice_get xs i) (sym are) ∙ there);
    }

-- OF A TRACE THAT WAS READ, whose scripts and root are lent

few_of : (t : Trace) → length t.scripts.items ≤ 2 ^ 32 → length (meaning_of t).plan.scripts ≤ 2 ^ 32
few_of = grind (arith, length-map)

pub known_of : (t : Trace) (scripts : List (Vec ScriptWord Global)) → MeaningFits (meaning_of t) → first_out_of_range t.config ≡ None → length t.scripts.items ≤ 2 ^ 32 → scripts ≡ t.scripts.items
    → IsProgram (words_of_all scripts) (limits_of t.config) (meaning_of t).plan
known_of t scripts fits in_range_of few same =
    subst (λ xs. IsProgram xs (limits_of t.config) (meaning_of t).plan) (sym (ap words_of_all same)) (program_of (meaning_of t) fits in_range_of (few_of t few))

pub plan_of : (t : Trace) (scripts : List (Vec ScriptWord Global)) (root : List ScriptWord) (roots : List Played) (told : Configuration) → MeaningFits (meaning_of t) → first_out_of_range t.config ≡ None → length t.scripts.items ≤ 2 ^ 32
    → scripts ≡ t.scripts.items → root ≡ t.root.items → told ≡ t.config
    → roots ≡ begun Root root (words_of_all scripts) (limits_of t.config) ∷ replicate (t.config.workers - 1) (begun Waits [] (words_of_all scripts) (limits_of t.config)) → IsPlanOf itself Runs held_told spot_told (meaning_of t).plan told roots
plan_of t scripts root roots told fits in_range_of few same same_root same_config are =
    is_plan (meaning_of t) roots told fits in_range_of (few_of t few) same_config
    (are ∙ ap (λ xs. begun Root root (words_of_all xs) (limits_of t.config) ∷ replicate (t.config.workers - 1) (begun Waits [] (words_of_all xs) (limits_of t.config))) same
    ∙ ap (λ ws. begun Root ws (words_of_all t.scripts.items) (limits_of t.config) ∷ replicate (t.config.workers - 1) (begun Waits [] (words_of_all t.scripts.items) (limits_of t.config))) same_root)
