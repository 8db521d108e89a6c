-- How far a scan has come: it passes no queue from which can be stolen, and comes to each of the pool.
use Rattle.std.{proofs.{Common.{◌≡◌, ℕ, ◌+◌, ◌-◌, ◌*◌, ◌%◌, ◌≤◌, ◌<◌, ◌==◌, Bool, true, false, not, ◌&&◌, ◌||◌, [], length, get_or, if◌then◌else◌, refl, sym, ap, subst, ◌∙◌, arith, inl, inr}, lemmas.{Bool.{and_parts, and_from, cases_lt, eqb-true, true≢false}, List.{get_or_past, get_or_default, FromFn.{length-range_with_len, get_or-range_with_len}, Folds.{Any-from_list_any, list_any_at}}, Nat.{mod-mul-add, mod_below}}}, specs.{Prelude.nat_le, List.range_with_len}}
use Rattle.exec_words.specs.{declared.head.Head.Head, Queue.{Queue, head_of, tail_of}}
use Rattle.exec_machine.specs.{declared.config.Configuration.Configuration, World.Common}
use Rattle.exec_moves.specs.{declared.{idling.{InScan.InScan, Scan.Scan}, place.Place.Place}, Pop.same_head, Search.{begun_scan, from_of, judge_head, looks_at, past, scanning}, State.{Desk, Things, no_queue, queue_of}}
use Rattle.exec_progress.{specs.{Effort.{comes_to, may_miss, scans_again, second_scan}, Owed.{can_steal, is_stealable}, Heights.{their_head, their_tail}, Ranks.{passing, publish, rank}}, proofs.{Idling.{IsIdling, chosen, in_scan}, Popping.same_again}}

-- HEADS

pub same_parts : (h g : Head) → same_head h g ≡ true → (h.real ≡ g.real) × (h.gap ≡ g.gap)
same_parts h g same = (eqb-true h.real g.real (and_parts _ _ same).0, eqb-true h.gap g.gap (and_parts _ _ same).1)

-- a queue that is claimed, or has fewer than two values
pub claimed_is_not : (q : Queue ℕ) → (q.gap == 0) ≡ false → is_stealable q ≡ false
claimed_is_not q h = ap (λ b. b && nat_le 2 (tail_of q - q.real)) h

pub few_are_not : (q : Queue ℕ) → length q.values < 2 → is_stealable q ≡ false
few_are_not = grind arith

pub empty_is_not : (q : Queue ℕ) → q.values ≡ [] → is_stealable q ≡ false
empty_is_not q none = few_are_not q (omega (arith, ap length none))

pub second_le : (c : Configuration) (a b : Bool) → (a ≡ true → b ≡ true) → second_scan c a ≤ second_scan c b
second_le c false b h = omega arith
second_le c true b h = rw (h refl) (omega arith)

module _ (c : Configuration) (x : Things) where
  -- where one is, something can be stolen
  pub can_at : (j : ℕ) → is_stealable (queue_of x j) ≡ true → can_steal x ≡ true
  can_at = grind (arith, cases_lt, list_any_at, true≢false, get_or_past)

  abbrev is_next : ℕ → ℕ → Bool
  is_next start k = is_stealable (queue_of x ((start + k) % c.workers))

  pub comes_on : (start p : ℕ) → p < c.workers → comes_to c start p x ≡ (is_next start p || comes_to c start (p + 1) x)
  comes_on = grind arith

  pub comes_no_more : (start p : ℕ) → c.workers ≤ p → comes_to c start p x ≡ false
  comes_no_more = grind arith

  -- a queue is passed
  pub passes : (y : Scan) → is_stealable (queue_of x (from_of c y)) ≡ false → comes_to c y.start y.passed x ≡ comes_to c y.start (y.passed + 1) x
  passes = grind arith

  -- whatever it is that is passed: it may be missed no less
  pub misses_more : (y : Scan) → may_miss c y true x ≡ true → may_miss c y false x ≡ true
  misses_more = grind (arith, and_from, and_parts, cases_lt, comes_on, true≢false, comes_no_more)

  -- one that isn't stolen from is passed
  pub misses_same : (y : Scan) → is_stealable (queue_of x (from_of c y)) ≡ false → may_miss c y true x ≡ may_miss c y false x
  misses_same y none = ap (λ b. can_steal x && not b) (passes y none)

  -- each queue of the pool comes in a scan that has begun
  pub comes_to_all : (n : ℕ) → 0 < c.workers → ((j : ℕ) → c.workers ≤ j → (queue_of x j).values ≡ []) → may_miss c (begun_scan c n) true x ≡ false
  comes_to_all n some bare = by (can_steal x) refl
    where
      start : ℕ
      start = n % c.workers

      round : (k j : ℕ) → k < c.workers → (start + k) % c.workers ≡ j → is_stealable (queue_of x j) ≡ true → comes_to c start 0 x ≡ true
      round k j within is there =
          let long = length-range_with_len 0 (c.workers - 0) in
          let at : get_or (range_with_len 0 (c.workers - 0)) k 0 ≡ k = omega (arith, get_or-range_with_len 0 (c.workers - 0) k 0 (omega (arith, within))) in
          list_any_at (is_next start) (range_with_len 0 (c.workers - 0)) k 0 (omega (arith, long, within)) (subst (λ m. is_next start m ≡ true) (sym at) (rw is there))

      comes : (j : ℕ) → j < c.workers → is_stealable (queue_of x j) ≡ true → comes_to c start 0 x ≡ true
      comes j below there =
          let low = mod_below n c.workers some in
          elim (cases_lt j start) [
            | inl before ↦ (let sum : start + (j + c.workers - start) ≡ 1 * c.workers + j = omega (arith, before, low) in
                round (j + c.workers - start) j (omega (arith, before, low)) (ap (λ m. m % c.workers) sum ∙ mod-mul-add 1 c.workers j below) there)
            | inr after ↦ (let sum : start + (j - start) ≡ 0 * c.workers + j = omega (arith, after) in
                round (j - start) j (omega (arith, below)) (ap (λ m. m % c.workers) sum ∙ mod-mul-add 0 c.workers j below) there)
          ]

      found : (j : ℕ) → is_stealable (queue_of x j) ≡ true → comes_to c start 0 x ≡ true
      found j there = elim (cases_lt j c.workers) [
        | inl below ↦ comes j below there
        | inr over ↦ absurd (true≢false (sym there ∙ empty_is_not (queue_of x j) (bare j (omega (arith, over)))))
      ]

      by : (b : Bool) → can_steal x ≡ b → (b && not (comes_to c start 0 x)) ≡ false
      by false h = refl
      by true h =
          let one = Any-from_list_any is_stealable x.queues h in
          ap not (found one.0 (ap is_stealable (get_or_default x.queues one.0 no_queue one.1 one.2 ∙ one.3) ∙ one.4))

-- WHERE A SCAN GOES ON. The own queue is dry.
module _ (c : Configuration) (i : ℕ) (s : Common) (e : Desk) (x : Things) (dry : is_stealable (queue_of x i) ≡ false) where
  abbrev height : Place → ℕ
  height p = rank c i e x p + second_scan c (scans_again c e x p)

  -- so high that it stands above what follows once these are passed
  abbrev pub above : ℕ → ℕ
  above p = publish c.workers + their_head 0 * (c.workers + 1 - p)

  -- a place of the scan or the look that isn't higher
  abbrev pub Within : ℕ → Bool → Place → Type 0
  Within n again p = IsIdling i s p × (height p ≤ n + second_scan c again)

  scans_on : (y z : Scan) → y.passed ≤ z.passed → comes_to c z.start z.passed x ≡ comes_to c y.start y.passed x → Within (above y.passed) (may_miss c y true x) (scanning c z)
  scans_on = grind arith

  pub looks : (y : Scan) → Within (above y.passed) (may_miss c y true x) (looks_at c i y)
  looks y = by (from_of c y == i) refl
    where
      by : (b : Bool) → (from_of c y == i) ≡ b → Within (above y.passed) (may_miss c y true x) (scanning c (if b then past y else y))
      by true h = scans_on y (past y) (omega arith) (sym (passes c x y (ap (λ j. is_stealable (queue_of x j)) (eqb-true (from_of c y) i h) ∙ dry)))
      by false h = scans_on y y (omega arith) refl

  -- the queue that is next is passed
  pub looks_past : (y : Scan) → Within (passing c.workers y.passed) (may_miss c y false x) (looks_at c i (past y))
  looks_past y = let it = looks (past y) in (it.0, omega (arith, it.1))

  -- or its head was loaded
  pub judged : (y : Scan) → Within (their_tail (passing c.workers y.passed) true) (may_miss c y true x) (judge_head c i y (head_of (queue_of x (from_of c y))))
  judged y =
      let q = queue_of x (from_of c y) in
      chosen (Within (their_tail (passing c.workers y.passed) true) (may_miss c y true x)) (q.gap == 0) (Place.Scan (InScan.LoadTheirTail y (head_of q))) (looks_at c i (past y))
      (λ h. (in_scan i s (InScan.LoadTheirTail y (head_of q)), rw (same_again (head_of q)) (omega arith)))
      (λ h. let it = looks_past y in (it.0, rw (misses_same c x y (claimed_is_not q h)) (omega (arith, it.1))))
