-- What a raise, an enter, a landing and a sweep make of the wake poll that a ring shows.
use Rattle.exec_invariants.{specs.{Flown.{is_poll, polls_in, ends_in, IsPolled}, Places.one_if}, proofs.{Words.{[], ◌≡◌, ℕ, zero, suc, ◌+◌, ◌≤◌, Bool, true, false, List, ◌∷◌, ◌++◌, filter, Option, Some, None, refl, sym, ap, subst, ◌∙◌, arith, if◌then◌else◌, append-nil, filter-append, fold, Opcode, with_completion, woken, with_poll, taken_as, taken_in, all_taken, RingState, completions, Completion, Submission, is_control, WakePoll, told_once, passed, poll_armed, poll_taken, is_cancel, cancels_in, AreTagged, trailing, operations_in, is_end, behind_end, wake_poll_in, ◌-◌, ◌^◌, ◌&&◌, ◌||◌, min, replicate, flat_map-append, append_assoc, flat_map, is_wake, wake_completion, with_wake, spelled, raised, one_behind, trails_wake}, Behind.{is_op, op_acks, op_ends, op_wakes}}}

pub completion_added : (s : RingState) (c : Completion) → completions (with_completion s c) ≡ completions s ++ c ∷ []
completion_added s c =
    grind (arith, append-nil, replicate s.wakes (wake_completion true), flat_map-append, append_assoc)

-- ONE MORE COMPLETION

pub told_added : (b : Bool) (cs : List Completion) (c : Completion) → trails_wake b (cs ++ c ∷ []) ≡ (is_wake c || (is_control c && trails_wake b cs))
told_added b [] c = refl
told_added b (x ∷ cs) c = told_added (is_wake x || (is_control x && b)) cs c

pub trailing_added : (n : ℕ) (cs : List Completion) (c : Completion) → trailing n (cs ++ c ∷ []) ≡ (if is_wake c then trailing n cs else if is_control c then suc (trailing n cs) else 0)
trailing_added n [] c = refl
trailing_added n (x ∷ cs) c = trailing_added (if is_wake x then n else if is_control x then suc n else 0) cs c

pub ends_added : (cs : List Completion) (c : Completion) → ends_in (cs ++ c ∷ []) ≡ ends_in cs + one_if (is_end c)
ends_added [] c = omega arith
ends_added (x ∷ cs) c = let rest = ends_added cs c in omega arith

pub operations_added : (cs : List Completion) (c : Completion) → operations_in (cs ++ c ∷ []) ≡ (if is_control c then operations_in cs else suc (operations_in cs))
operations_added [] c = grind arith
operations_added (x ∷ cs) c = grind (arith, operations_added cs c)

pub behind_added : (cs : List Completion) (c : Completion) → is_end c ≡ false → behind_end (cs ++ c ∷ []) ≡ (if is_control c then behind_end cs else one_behind (behind_end cs))
behind_added [] c none = grind arith
behind_added (x ∷ cs) c none = grind (arith, operations_added, behind_added cs c none)

ended_added : (cs : List Completion) (c : Completion) → is_end c ≡ true → ends_in cs ≡ 0 → behind_end (cs ++ c ∷ []) ≡ Some 0
ended_added [] c is none = rw is refl
ended_added (x ∷ cs) c is none = grind (arith, ended_added cs c is)

-- SO MANY WAKES BEHIND ALL OTHERS

told_wakes : (b : Bool) (cs : List Completion) (n : ℕ) → trails_wake b (cs ++ replicate (suc n) (wake_completion true)) ≡ true
told_wakes b [] zero = refl
told_wakes b [] (suc n) = told_wakes true [] n
told_wakes b (x ∷ cs) n = told_wakes (is_wake x || (is_control x && b)) cs n

trailing_wakes : (k : ℕ) (cs : List Completion) (n : ℕ) → trailing k (cs ++ replicate n (wake_completion true)) ≡ trailing k cs
trailing_wakes k [] zero = refl
trailing_wakes k [] (suc n) = trailing_wakes k [] n
trailing_wakes k (x ∷ cs) n = trailing_wakes (if is_wake x then k else if is_control x then suc k else 0) cs n

no_wakes : (n : ℕ) → filter is_op (replicate n (wake_completion true)) ≡ []
no_wakes zero = refl
no_wakes (suc n) = no_wakes n

operates_wakes : (cs : List Completion) (n : ℕ) → filter is_op (cs ++ replicate n (wake_completion true)) ≡ filter is_op cs
operates_wakes cs n = filter-append is_op cs (replicate n (wake_completion true)) ∙ ap (λ ys. filter is_op cs ++ ys) (no_wakes n) ∙ append-nil (filter is_op cs)

behind_wakes : (cs : List Completion) (n : ℕ) → behind_end (cs ++ replicate n (wake_completion true)) ≡ behind_end cs
behind_wakes [] zero = refl
behind_wakes [] (suc n) = behind_wakes [] n
behind_wakes (x ∷ cs) n = grind (arith, operates_wakes, behind_wakes cs n)

ends_wakes : (cs : List Completion) (n : ℕ) → ends_in (cs ++ replicate n (wake_completion true)) ≡ ends_in cs
ends_wakes [] zero = refl
ends_wakes [] (suc n) = let rest = ends_wakes [] n in omega (arith, rest)
ends_wakes (x ∷ cs) n = ap (λ m. one_if (is_end x) + m) (ends_wakes cs n)

-- A RAISE

pub one_most : (b : Bool) → one_if b ≤ 1
one_most true = omega arith
one_most false = omega arith

-- while the kernel has the poll it hasn't ended, nor is it staged
pub armed_alone : (r : RingState) (a : Bool) → IsPolled r a → r.armed ≡ true → ends_in (completions r) ≡ 0
armed_alone = grind arith

counted_up : (w n : ℕ) → min (w + 1) (suc n) ≡ suc (min w n)
counted_up w n = omega arith

abbrev last_woken : RingState → RingState
last_woken s = with_completion (record s { armed = false; last = false }) (wake_completion false)

-- another ring with the same requests in it, and as many cancels behind
pub record Raises (r r' : RingState) : Type 0 where
  pub size : r'.size ≡ r.size
  pub staged : r'.staged ≡ r.staged
  pub flying : r'.flying ≡ r.flying
  pub busy : r'.busy ≡ r.busy
  pub landed : filter is_op (completions r') ≡ filter is_op (completions r)
  pub others : trailing 0 (completions r') ≡ trailing 0 (completions r)

pub raises_none : (r : RingState) → Raises r r
raises_none r = record { size = refl; staged = refl; flying = refl; busy = refl; landed = refl; others = refl }

pub raises_both : (r r' r'' : RingState) → Raises r r' → Raises r' r'' → Raises r r''
raises_both r r' r'' a b =
    record { size = b.size ∙ a.size; staged = b.staged ∙ a.staged; flying = b.flying ∙ a.flying; busy = b.busy ∙ a.busy; landed = b.landed ∙ a.landed; others = b.others ∙ a.others }

-- what a wake of a poll that the kernel has makes of its ring
pub record Wakes (s s' : RingState) : Type 0 where
  pub raises : Raises s s'
  pub shown : s.armed ≡ true → ends_in (completions s) ≡ 0 → wake_poll_in s' ≡ told_once (wake_poll_in s)
  pub count : s.armed ≡ true → one_if s'.armed + ends_in (completions s') ≡ one_if s.armed + ends_in (completions s)
  pub raised : s'.raised ≡ s.raised

pub wakes : (s : RingState) → Wakes s (woken s)
wakes s = by s.last refl
  where
    xs : List Completion
    xs = flat_map spelled s.posted

    at_most : RingState
    at_most = record s { wakes = min (s.wakes + 1) (2 ^ 64 - 1) }

    by : (b : Bool) → s.last ≡ b → Wakes s (woken s)
    by true last = grind (arith, completion_added, is_op, filter-append, append-nil, trailing_added, told_added, ended_added, ends_added)
    by false last =
        let m : ℕ = min s.wakes 18446744073709551614 in
        let s' : RingState = record s { wakes = suc m } in
        let it : Wakes s s' = record {
          raises = assumption (operates_wakes xs (suc m) ∙ sym (operates_wakes xs s.wakes), trailing_wakes 0 xs (suc m) ∙ sym (trailing_wakes 0 xs s.wakes));
          shown = λ armed none.
              ap (λ b. record { armed = s.armed; last = s.last; told = b; ended = behind_end (completions s'); kept = s.raised }) (told_wakes false xs m)
              ∙ ap (λ e. record { armed = s.armed; last = s.last; told = true; ended = e; kept = s.raised }) (behind_wakes xs (suc m) ∙ sym (behind_wakes xs s.wakes))
              ∙ rw (armed, last) refl;
          count = λ armed. ap (λ n. one_if s.armed + n) (ends_wakes xs (suc m) ∙ sym (ends_wakes xs s.wakes));
          raised = refl;
        } in
        subst (Wakes s) (sym (ap (λ b. if b then last_woken s else at_most) last ∙ ap (λ n. record s { wakes = n }) (counted_up s.wakes 18446744073709551614))) it

raised_by : (s : RingState) (b : Bool) → s.armed ≡ b → with_wake s ≡ (if b then woken s else (record s { raised = true }))
raised_by s b armed = ap (λ x. if x then woken s else (record s { raised = true })) armed

pub raise_shown : (s : RingState) (a : Bool) → IsPolled s a → wake_poll_in (with_wake s) ≡ raised (wake_poll_in s)
raise_shown = grind (arith, raised_by, wakes, armed_alone)

pub raise_same : (s : RingState) → Raises s (with_wake s)
raise_same = grind (arith, raised_by, wakes)

pub raise_polled : (s : RingState) (a : Bool) → IsPolled s a → IsPolled (with_wake s) a
raise_polled = grind (arith, wakes, raised_by)

-- AN ENTER AND A LANDING

pub ended_some : (cs : List Completion) (n : ℕ) → behind_end cs ≡ Some n → 1 ≤ ends_in cs
ended_some [] n h = absurd (cc)
ended_some (c ∷ cs) n h = grind (arith, ended_some cs n)

pub ended_none : (cs : List Completion) → behind_end cs ≡ None → ends_in cs ≡ 0
ended_none [] h = refl
ended_none (c ∷ cs) h = grind (arith, ended_none cs)

-- what an enter makes of the wake poll, where that stands in the queue so often
abbrev pub polled_times : ℕ → WakePoll → WakePoll
polled_times zero p = p
polled_times (suc n) p = poll_armed p

-- another ring has so many more completions that are of no operation, and the wake poll, where that was in the queue
pub record Acknowledges (s s' : RingState) (cancels polls : ℕ) : Type 0 where
  pub size : s'.size ≡ s.size
  pub staged : s'.staged ≡ s.staged
  pub busy : s'.busy ≡ s.busy
  pub others : trailing 0 (completions s') ≡ trailing 0 (completions s) + cancels
  pub landed : filter is_op (completions s') ≡ filter is_op (completions s)
  pub poll : wake_poll_in s' ≡ polled_times polls (wake_poll_in s)
  pub count : one_if s'.armed + ends_in (completions s') ≡ polls + (one_if s.armed + ends_in (completions s))

none_acknowledged : (s : RingState) → Acknowledges s s 0 0
none_acknowledged s = record { size = refl; staged = refl; busy = refl; others = omega arith; landed = refl; poll = refl; count = omega arith }

-- the wake poll goes in
poll_taken_in : (s : RingState) → ends_in (completions s) ≡ 0 → s.armed ≡ false → Acknowledges s (with_poll s) 0 1
poll_taken_in s none free = by s.raised refl
  where
    plus_none : (n : ℕ) → n ≡ n + 0
    plus_none n = omega arith

    counted : one_if true + ends_in (completions s) ≡ 1 + (one_if s.armed + ends_in (completions s))
    counted = let one : one_if s.armed ≡ 0 = ap one_if free in omega (arith, one)

    poll_by : (b : Bool) → s.raised ≡ b → poll_armed (wake_poll_in s) ≡ (if b then told_once (record (wake_poll_in s) { armed = true; kept = false }) else (record (wake_poll_in s) { armed = true }))
    poll_by b kept = ap (λ x. if x then told_once (record (wake_poll_in s) { armed = true; kept = false }) else (record (wake_poll_in s) { armed = true })) kept

    by : (b : Bool) → s.raised ≡ b → Acknowledges s (with_poll s) 0 1
    by true kept =
        let s1 : RingState = record s { armed = true; raised = false } in
        let it = wakes s1 in
        let done : Acknowledges s (woken s1) 0 1 = assumption (it.raises.others ∙ plus_none (trailing 0 (completions s)), it.shown refl none ∙ sym (poll_by true kept), it.count refl ∙ counted, it.raises) in
        subst (λ r. Acknowledges s r 0 1) (sym (ap (λ b. if b then woken s1 else (record s { armed = true })) kept)) done
    by false kept =
        let others : trailing 0 (completions (record s { armed = true })) ≡ trailing 0 (completions s) + 0 = omega arith in
        let done : Acknowledges s (record s { armed = true }) 0 1 = assumption (others, sym (poll_by false kept), counted) in
        subst (λ r. Acknowledges s r 0 1) (sym (ap (λ b. if b then woken (record s { armed = true; raised = false }) else (record s { armed = true })) kept)) done

-- one entry
one_taken : (k : Opcode) (s : RingState) (e : Submission) → (is_cancel k ≡ true → e.user_data ≡ 4294967295) → one_if (is_poll k) + (one_if s.armed + ends_in (completions s)) ≤ 1
    → Acknowledges s (taken_as k s e) (if is_cancel k then 1 else 0) (one_if (is_poll k))
one_taken = grind (arith, completion_added, trailing_added, is_op, filter-append, append-nil, told_added, behind_added, ends_added, poll_taken_in)

polled_both : (b : Bool) (n : ℕ) (p : WakePoll) → one_if b + n ≤ 1 → polled_times n (polled_times (one_if b) p) ≡ polled_times (one_if b + n) p
polled_both true n p few = let none : n ≡ 0 = omega arith in rw none refl
polled_both false n p few = let same : 0 + n ≡ n = omega arith in rw same refl

fold_taken : (es : List Submission) (s : RingState) → AreTagged es → polls_in es + (one_if s.armed + ends_in (completions s)) ≤ 1 → Acknowledges s (fold taken_in s es) (cancels_in es) (polls_in es)
fold_taken [] s tagged few = none_acknowledged s
fold_taken (e ∷ es) s tagged few =
    let add_both : (a b c : ℕ) → (a + b) + c ≡ a + (b + c) = λ a b c. omega arith in
    let one = one_taken e.window.kind s e tagged.0 (omega arith) in
    let more = fold_taken es (taken_in s e) tagged.1 (let count = one.count in omega arith) in
    grind (arith, polled_both)

-- the whole queue, of a ring whose driver knows whether the wake poll is under way
pub all_acknowledged : (s : RingState) (a : Bool) → IsPolled s a → AreTagged s.staged → Acknowledges (record s { staged = [] }) (all_taken s) (cancels_in s.staged) (polls_in s.staged)
all_acknowledged s a polled tagged = fold_taken s.staged (record s { staged = [] }) tagged (let most = one_most a in omega (arith, polled, most))

pub enter_shown : (s : RingState) (a : Bool) → IsPolled s a → AreTagged s.staged → wake_poll_in (all_taken s) ≡ poll_taken a (wake_poll_in s)
enter_shown s a polled tagged =
    let p : WakePoll = wake_poll_in s in
    let by : (a : Bool) → IsPolled s a → (b : Bool) → s.armed ≡ b → (e : Option ℕ) → behind_end (completions s) ≡ e → polled_times (polls_in s.staged) p ≡ poll_taken a p = grind (arith, ended_some, ended_none) in
    (all_acknowledged s a polled tagged).poll ∙ by a polled s.armed refl (behind_end (completions s)) refl

pub enter_polled : (s : RingState) (a : Bool) → IsPolled s a → AreTagged s.staged → IsPolled (all_taken s) a
enter_polled s a polled tagged =
    let it = all_acknowledged s a polled tagged in
    ap (λ es. polls_in es + (one_if (all_taken s).armed + ends_in (completions (all_taken s)))) it.staged
    ∙ (let count = it.count in omega (arith, polled))

-- A LANDING

pub record Lands (r r' : RingState) (c : Completion) : Type 0 where
  pub others : trailing 0 (completions r') ≡ 0
  pub operated : filter is_op (completions r') ≡ filter is_op (completions r) ++ c ∷ []
  pub poll : wake_poll_in r' ≡ passed (wake_poll_in r)
  pub polled : (a : Bool) → IsPolled r a → IsPolled r' a

pub landing : (r : RingState) (c : Completion) → is_control c ≡ false → Lands r (with_completion r c) c
landing = grind (arith, completion_added, op_wakes, op_acks, op_ends, trailing_added, is_op, filter-append, told_added, behind_added, ends_added)
