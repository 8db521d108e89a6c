-- What a step on the idle set leaves of the balances of all parties.
use Rattle.exec_invariants.{proofs.{Names.{◌≡◌, ◌≢◌, ℕ, zero, suc, ◌+◌, ◌^◌, ◌<◌, ◌≤◌, ◌==◌, ◌&&◌, Bool, true, false, not, ◌⊎◌, inl, inr, List, length, sum_by, Some, refl, sym, ap, subst, ◌∙◌, arith, slice_set, if◌then◌else◌, eq-eqb, false≢true, get_or-set_other, get_or-set_same, length-set, position-Some, sum_by-cons, range_with_len, Idle, is_in, lowest_of, Place, polls_at, Shared, Worker, by_number, not_same}, Aside.{SameTold, hands_same}, PoolKept.{drops_same, pool_of}}, specs.{Gates.HaveGates, Places.{claims_at, drops_at, has_count_at, is_published_at, one_if}, Whole.{Profile, HasWhole, IsWhole, claimed_count, with_worker}}}

-- SUMS OVER NUMBERS

pub sum_above : (f g : ℕ → ℕ) (i a n : ℕ) → i < a → ((j : ℕ) → j ≢ i → g j ≡ f j) → sum_by g (range_with_len a n) ≡ sum_by f (range_with_len a n)
sum_above f g i a zero above same = refl
sum_above f g i a (suc n) above same = grind (arith, sum_by-cons, sum_above f g i (a + 1) n (omega arith) same)

-- where the term of one number changed
pub sum_one : (f g : ℕ → ℕ) (i a n : ℕ) → a ≤ i → i < a + n → ((j : ℕ) → j ≢ i → g j ≡ f j) → sum_by g (range_with_len a n) + f i ≡ sum_by f (range_with_len a n) + g i
sum_one f g i a zero from to same = absurd (omega arith)
sum_one f g i a (suc n) from to same =
    let of_f = sum_by-cons f a (range_with_len (a + 1) n) in
    let of_g = sum_by-cons g a (range_with_len (a + 1) n) in
    by_number a i
    (λ apart.
    omega (arith, of_f, of_g, sum_one f g i (a + 1) n (omega (arith, apart)) (omega arith) same, same a apart))
    (λ is.
    omega (arith, of_f, of_g, sum_above f g i (a + 1) n (omega (arith, is)) same, ap f is, ap g is))

-- where the term of a number behind them changed
pub sum_past : (f g : ℕ → ℕ) (i a n : ℕ) → a + n ≤ i → ((j : ℕ) → j ≢ i → g j ≡ f j) → sum_by g (range_with_len a n) ≡ sum_by f (range_with_len a n)
sum_past f g i a zero past same = refl
sum_past f g i a (suc n) past same = grind (arith, sum_by-cons, sum_past f g i (a + 1) n (omega (arith, past)) same)

-- of at most one each
pub sum_few : (f : ℕ → ℕ) (a n : ℕ) → ((j : ℕ) → f j ≤ 1) → sum_by f (range_with_len a n) ≤ n
sum_few f a zero few = omega arith
sum_few f a (suc n) few = omega (arith, sum_by-cons f a (range_with_len (a + 1) n), few a, sum_few f (a + 1) n few)

-- THE SEARCH COUNT

-- what a worker has of search counts and of the idle set
pub record Stance : Type 0 where
  pub searching : Bool
  pub counted : Bool
  pub published : Bool

abbrev pub stance_at : Place → Worker → Stance
stance_at q w = record { searching = w.searching; counted = has_count_at q; published = is_published_at q }

-- it has that
pub record Stands (z : Stance) (w : Worker) : Type 0 where
  pub searching : w.searching ≡ z.searching
  pub counted : has_count_at w.place ≡ z.counted
  pub published : is_published_at w.place ≡ z.published

pub stance_here : (q : Place) (w : Worker) → w.place ≡ q → Stands (stance_at q w) w
stance_here q w here = record { searching = refl; counted = ap has_count_at here; published = ap is_published_at here }

-- so many counts it holds
abbrev pub own_counts : Stance → ℕ
own_counts z = one_if z.searching + one_if z.counted

-- who has published its bit and not withdrawn it, and how many of so many workers were claimed
abbrev pub shown_by : Profile → ℕ → Bool → ℕ → Bool
shown_by others i b j = if j == i then b else others.published j

abbrev pub is_claimed : Profile → ℕ → Bool → List Bool → ℕ → ℕ
is_claimed others i b set j = one_if (shown_by others i b j && not (is_in set j))

abbrev pub claimed_of : ℕ → Profile → ℕ → Bool → List Bool → ℕ
claimed_of n others i b set = sum_by (is_claimed others i b set) (range_with_len 0 n)

-- what else it has stays
pub record SameHands (w w' : Worker) : Type 0 where
  pub hand : w'.hand ≡ w.hand
  pub loot : w'.loot ≡ w.loot
  pub polls : polls_at w'.place ≡ polls_at w.place
  pub claims : claims_at w'.place ≡ claims_at w.place
  pub index : w'.index ≡ w.index
  pub drops : drops_at w'.place ≡ drops_at w.place
  pub told : SameTold w w'

pub at_most : (b : Bool) → one_if b ≤ 1
at_most true = omega arith
at_most false = omega arith

-- a bit that was set is there, and no other has changed
pub set_at : (set : List Bool) (i : ℕ) (b : Bool) → i < length set → is_in (slice_set set i b) i ≡ b
set_at set i b within = get_or-set_same set i b false within

pub set_beside : (set : List Bool) (i j : ℕ) (b : Bool) → j ≢ i → is_in (slice_set set i b) j ≡ is_in set j
set_beside set i j b other = get_or-set_other set i j b false other

-- what others show, and what this worker does
beside : (others : Profile) (i j : ℕ) (b b' : Bool) → j ≢ i → shown_by others i b' j ≡ shown_by others i b j
beside others i j b b' other = rw (not_same j i other) refl

here_shown : (others : Profile) (i : ℕ) (b : Bool) → shown_by others i b i ≡ b
here_shown others i b = rw (eq-eqb i i refl) refl

module _ {B : Type 0} where
  -- the count is the same with what the worker holds then, and who is in the set has published its bit
  pub record Counts (z z' : Stance) (w : Worker) (s : Shared B) (x : Idle) : Type 0 where
    pub sized : length x.published ≡ length s.idle.published
    pub counts : (others : Profile) → IsWhole (with_worker others w) s → x.count + (own_counts z + claimed_of (s.config.workers) others w.index z.published s.idle.published) ≡ s.idle.count + (own_counts z' + claimed_of (s.config.workers) others w.index z'.published x.published)
    pub bits : (others : Profile) → IsWhole (with_worker others w) s → (j : ℕ) → is_in x.published j ≡ true → (shown_by others w.index z'.published j ≡ true) × (j < s.config.workers)

  pub whole_counted : (others : Profile) (z z' : Stance) (w w' : Worker) (s : Shared B) (x : Idle) → SameHands w w' → Stands z w → Stands z' w' → Counts z z' w s x → IsWhole (with_worker others w) s → IsWhole (with_worker others w') (record s { idle = x })
  whole_counted others z z' w w' s x same here there counts whole =
      let own : own_counts z ≡ one_if w.searching + one_if (has_count_at w.place) = rw (here.searching, here.counted) refl in
      let own' : own_counts z' ≡ one_if w'.searching + one_if (has_count_at w'.place) = rw (there.searching, there.counted) refl in
      let claimed : claimed_of (s.config.workers) others w.index z.published s.idle.published ≡ claimed_count (with_worker others w) s = rw here.published refl in
      let claimed' : claimed_of (s.config.workers) others w.index z'.published x.published ≡ claimed_count (with_worker others w') (record s { idle = x }) = rw (there.published, same.index) refl in
      record {
        runnables = λ t slot there home. rw (same.hand, same.loot) (whole.runnables t slot there home);
        polls = λ t slot there home. rw same.polls (whole.polls t slot there home);
        claims = λ j chair there. rw same.claims (whole.claims j chair there);
        counts = omega (arith, counts.counts others whole, whole.counts, own, own', claimed, claimed');
        bits = λ j h. rw (there.published, same.index) (counts.bits others whole j h);
        set = counts.sized ∙ whole.set;
        queued_here = whole.queued_here;
        queued_there = whole.queued_there;
        places = whole.places;
        made = λ t more. rw (same.hand, same.loot, same.polls) (whole.made t more);
        unclaimed = λ j more. rw same.claims (whole.unclaimed j more);
        in_pool = whole.in_pool;
        pool = pool_of others w w' s.tasks.items s.set s.seats.items same.index same.polls same.drops whole.pool;
        gates = subst (λ f. HaveGates f s.opens s.requests.items) (sym (drops_same others w w' same.index same.drops)) whole.gates;
        holding = rw (hands_same others w w' same.index same.told) whole.holding;
      }

  -- who holds a count can return it
  pub has_count : (z : Stance) (w : Worker) (s : Shared B) → Stands z w → HasWhole w s → 0 < own_counts z → 0 < s.idle.count
  has_count = grind arith

  -- and one more fits
  pub count_fits : (w : Worker) (s : Shared B) → HasWhole w s → s.config.workers ≤ 64 → s.idle.count + 1 < 2 ^ 64
  count_fits = grind (arith, sum_few, at_most)

  -- WHERE THE COUNT ALONE CHANGES

  pub counts_alone : (z : Stance) (searching counted : Bool) (w : Worker) (s : Shared B) (x : Idle) → Stands z w → x.published ≡ s.idle.published → x.count + own_counts z ≡ s.idle.count + (one_if searching + one_if counted)
      → Counts z (record z { searching = searching; counted = counted }) w s x
  counts_alone = grind arith

  -- and where neither does
  pub counts_same : (z : Stance) (w : Worker) (s : Shared B) → Stands z w → Counts z z w s s.idle
  counts_same z w s here = counts_alone z z.searching z.counted w s s.idle here refl refl

  -- a dedicated worker is not in the set, whatever its place says
  pub counts_apart : (z : Stance) (b : Bool) (w : Worker) (s : Shared B) → s.config.workers ≤ w.index → Counts z (record z { published = b }) w s s.idle
  counts_apart z b w s past =
      let i = w.index in
      let set = s.idle.published in
      record {
        sized = refl;
        counts = λ others whole.
            let same : (j : ℕ) → j ≢ i → is_claimed others i b set j ≡ is_claimed others i z.published set j = λ j other. rw (beside others i j z.published b other) refl in
            omega (arith, sum_past (is_claimed others i z.published set) (is_claimed others i b set) i 0 s.config.workers (omega (arith, past)) same);
        bits = λ others whole j h.
            let was = whole.bits j h in
            (beside others i j (is_published_at w.place) b (λ same. omega (arith, was.1, past, same)) ∙ was.0, was.1);
      }

  -- WHERE ONE BIT CHANGES

  -- the same bits in the set of those who show so
  bits_beside : (z : Stance) (w : Worker) (s : Shared B) (others : Profile) (i : ℕ) (b b' : Bool) → Stands z w → IsWhole (with_worker others w) s → (j : ℕ) → j ≢ i → (i ≡ w.index ⊎ b' ≡ z.published) → is_in (slice_set s.idle.published i b) j ≡ true → (shown_by others w.index b' j ≡ true) × (j < s.config.workers)
  bits_beside = grind (arith, set_beside, beside)

  -- a worker publishes its bit
  pub counts_published : (z : Stance) (w : Worker) (s : Shared B) (x : Idle) → Stands z w → z.published ≡ false → w.index < s.config.workers → w.index < 64 → x ≡ record s.idle { published = slice_set s.idle.published w.index true } → Counts z (record z { published = true }) w s x
  counts_published z w s x here out there few is =
      let i : ℕ = w.index in
      let set : List Bool = s.idle.published in
      let set' : List Bool = slice_set s.idle.published w.index true in
      let x1 : Idle = record s.idle { published = slice_set s.idle.published w.index true } in
      let n : ℕ = s.config.workers in
      let balance : (others : Profile) → IsWhole (with_worker others w) s → claimed_of n others i true set' ≡ claimed_of n others i z.published set = λ others whole.
      let f = is_claimed others i z.published set in
      let g = is_claimed others i true set' in
      let within : i < length set = omega (arith, whole.set, few) in
      let same : (j : ℕ) → j ≢ i → g j ≡ f j = λ j other. rw (beside others i j z.published true other, set_beside set i j true other) refl in
      let at_f : f i ≡ 0 = rw (here_shown others i z.published, out) refl in
      let at_g : g i ≡ 0 = rw (here_shown others i true, set_at set i true within) refl in
      omega (arith, sum_one f g i 0 n (omega arith) (omega (arith, there)) same, at_f, at_g) in
      let done : Counts z (record z { published = true }) w s x1 = record {
        sized = length-set set i true;
        counts = λ others whole. omega (arith, balance others whole);
        bits = λ others whole j h. by_number j i (λ other. bits_beside z w s others i true true here whole j other (inl refl) h) (λ same. (ap (shown_by others i true) same ∙ here_shown others i true, subst (λ k. k < n) (sym same) there));
      } in
      subst (Counts z (record z { published = true }) w s) (sym is) done

  -- and withdraws it: where the bit was gone, it holds its claimer's count
  pub counts_withdrawn : (z : Stance) (searching counted : Bool) (w : Worker) (s : Shared B) (x : Idle) → Stands z w → z.published ≡ true → w.index < s.config.workers → w.index < 64 → x ≡ record s.idle { published = slice_set s.idle.published w.index false }
      → one_if searching + one_if counted ≡ own_counts z + one_if (not (is_in s.idle.published w.index)) → Counts z (record { searching = searching; counted = counted; published = false }) w s x
  counts_withdrawn z searching counted w s x here shown there few is own =
      let i : ℕ = w.index in
      let set : List Bool = s.idle.published in
      let set' : List Bool = slice_set s.idle.published w.index false in
      let n : ℕ = s.config.workers in
      let balance : (others : Profile) → claimed_of n others i false set' + one_if (not (is_in set i)) ≡ claimed_of n others i z.published set = λ others.
      let f = is_claimed others i z.published set in
      let g = is_claimed others i false set' in
      let same : (j : ℕ) → j ≢ i → g j ≡ f j = λ j other. rw (beside others i j z.published false other, set_beside set i j false other) refl in
      let at_f : f i ≡ one_if (not (is_in set i)) = rw (here_shown others i z.published, shown) refl in
      let at_g : g i ≡ 0 = rw (here_shown others i false) refl in
      omega (arith, sum_one f g i 0 n (omega arith) (omega (arith, there)) same, at_f, at_g) in
      let z' : Stance = record { searching = searching; counted = counted; published = false } in
      let x1 : Idle = record s.idle { published = slice_set s.idle.published w.index false } in
      let done : Counts z z' w s x1 = record {
        sized = length-set set i false;
        counts = λ others whole. omega (arith, balance others, own);
        bits = λ others whole j h. by_number j i (λ other. bits_beside z w s others i false false here whole j other (inl refl) h) (λ same.
            let within : i < length set = omega (arith, whole.set, few) in
            absurd (false≢true (sym (set_at set i false within) ∙ ap (is_in set') (sym same) ∙ h)));
      } in
      subst (Counts z z' w s) (sym is) done

  -- A claim takes the bit of a worker, and hands a count over to it.
  pub claimed_there : (z : Stance) (w : Worker) (s : Shared B) → Stands z w → HasWhole w s → (k : ℕ) → lowest_of s.idle.published ≡ Some k → k < s.config.workers
  claimed_there z w s here has k lowest =
      (has.whole.bits k (position-Some (λ b. b) s.idle.published k false lowest).1).1

  pub counts_claimed : (z : Stance) (k : ℕ) (w : Worker) (s : Shared B) (x : Idle) → Stands z w → z.counted ≡ true → lowest_of s.idle.published ≡ Some k → x ≡ record s.idle { published = slice_set s.idle.published k false } → Counts z (record z { counted = false }) w s x
  counts_claimed z k w s x here counted lowest is =
      let i : ℕ = w.index in
      let set : List Bool = s.idle.published in
      let set' : List Bool = slice_set s.idle.published k false in
      let n : ℕ = s.config.workers in
      let found : (k < length s.idle.published) × (is_in s.idle.published k ≡ true) = let it = position-Some (λ b. b) s.idle.published k false lowest in (it.0, it.1) in
      let shown : (others : Profile) → IsWhole (with_worker others w) s → shown_by others i z.published k ≡ true = λ others whole. rw (← here.published) (whole.bits k found.1).0 in
      let balance : (others : Profile) → IsWhole (with_worker others w) s → claimed_of n others i z.published set' ≡ claimed_of n others i z.published set + 1 = λ others whole.
      let f = is_claimed others i z.published set in
      let g = is_claimed others i z.published set' in
      let same : (j : ℕ) → j ≢ k → g j ≡ f j = λ j other. rw (set_beside set k j false other) refl in
      let at_f : f k ≡ 0 = rw (shown others whole, found.1) refl in
      let at_g : g k ≡ 1 = rw (shown others whole, set_at set k false found.0) refl in
      omega (arith, sum_one f g k 0 n (omega arith) (omega (arith, (whole.bits k found.1).1)) same, at_f, at_g) in
      let x1 : Idle = record s.idle { published = slice_set s.idle.published k false } in
      let own : own_counts z ≡ one_if z.searching + 1 = rw counted refl in
      let done : Counts z (record z { counted = false }) w s x1 = record {
        sized = length-set set k false;
        counts = λ others whole. omega (arith, balance others whole, own);
        bits = λ others whole j h. by_number j k (λ other. bits_beside z w s others k false z.published here whole j other (inr refl) h) (λ same.
            absurd (false≢true (sym (set_at set k false found.0) ∙ ap (is_in set') (sym same) ∙ h)));
      } in
      subst (Counts z (record z { counted = false }) w s) (sym is) done
