-- The first state: what the ranges of a configuration give, and all that a worker rests on holds; its seats, roots and workers come
-- one after another.
use Rattle.std.{proofs.{Common.{List, None, Some, [], ap, arith, false, inl, inr, length, map, refl, replicate, slice_get, subst, suc, sym, true, zero, ℕ, ◌*◌, ◌++◌, ◌+◌, ◌<◌, ◌^◌, ◌∙◌, ◌∷◌, ◌≡◌, ◌≤◌}, lemmas.{Bool.{and_parts, false≢true, leb-true, lt-ltb}, List.{length-append, length-replicate}, Option.slice_get_within}}, specs.Prelude.nat_lt}
use Rattle.exec_core.{specs.{Words.{LONGEST_TIMEOUT, OneShotState, Configuration, Nothing, doubled_up_to, ticks_needed, Store, fresh_open, IsShardCount, Runnable, Start, Queued, runnable_of, power_from, shard_count, CallPlace, MayBegin, Record, Pool, Shared, TaskSlot, Worker, Chair, Begins, IsFreshSeat, AreLinedUp, IsLinedUp, AreHome, IsConfig, Sound, Caller}, Ranges.is_in_range, Firsts.{IsFirst, AllBegin, HasRoots, IsBare, IsRoot}}, proofs.Lifting.{power_is, same_Some, there_within, get_front, begun_sound, none_there, not_both, found_last, last_or_before}}

-- A CONFIGURATION IN ITS RANGES

pub record InRange (c : Configuration) : Type 0 where
  pub some_workers : 1 ≤ c.workers
  pub workers : c.workers ≤ 64
  pub interval : 1 ≤ c.interval
  pub ring : c.ring ≤ 32768
  pub tick : (1 ≤ c.tick) × (c.tick ≤ LONGEST_TIMEOUT)
  pub connect : (1 ≤ c.connect) × (c.connect ≤ LONGEST_TIMEOUT)
  pub rw : (1 ≤ c.rw) × (c.rw ≤ LONGEST_TIMEOUT)
  pub spins : c.spin.budget ≤ c.spin.most
  pub layout : ticks_needed c ≤ 2 ^ 20
  pub files : c.files ≤ 64

pub in_range : (c : Configuration) → is_in_range c ≡ true → InRange c
in_range = grind (arith, and_parts, leb-true)

-- what a worker needs to begin
pub may_begin : (c : Configuration) → InRange c → MayBegin c
may_begin c r = record { ring = r.ring; tick = r.tick; connect = r.connect; rw = r.rw; spins = r.spins; layout = r.layout }

-- THE SHARDS of a task set

from_doubled : (more p n : ℕ) → doubled_up_to more p n ≡ power_from more p n
from_doubled zero p n = refl
from_doubled (suc more) p n = grind (arith, from_doubled more (p * 2) n)

pub shards_of : (c : Configuration) (count : ℕ) → InRange c → IsShardCount c.workers count → count ≡ shard_count c
shards_of c count r it =
    it.four_each ∙ ap (λ p. p * 4) (power_is 6 c.workers it.power it.is_power it.enough (omega (arith, it.least)) (omega (arith, r.workers)) ∙ from_doubled 6 1 c.workers)

-- LISTS of one thing so many times

pub map_replicate : {A X : Type 0} (f : A → X) (x : A) (n : ℕ) → map f (replicate n x) ≡ replicate n (f x)
map_replicate f x zero = refl
map_replicate f x (suc n) = ap (λ xs. f x ∷ xs) (map_replicate f x n)

pub replicated : {A : Type 0} (n i : ℕ) (x y : A) → slice_get (replicate n x) i ≡ Some y → x ≡ y
replicated zero i x y there = absurd (cc)
replicated (suc n) zero x y there = same_Some x y there
replicated (suc n) (suc i) x y there = replicated n i x y there

pub config_sound : (c : Configuration) → InRange c → IsConfig c
config_sound = grind arith

-- a caller without a call
abbrev pub free_caller : Caller
free_caller = record { place = CallPlace.Nothing; hand = None }

-- GATES without a line

none_lined : (file : ℕ) (records : List Record) → records ≡ [] → IsLinedUp file fresh_open records
none_lined = grind arith

pub gates_begun : (n : ℕ) (records : List Record) → n ≤ 64 → records ≡ [] → AreLinedUp (replicate n fresh_open) records
gates_begun = grind (arith, replicated, none_lined, none_there, length-replicate)

module _ {B : Type 0} (c : Configuration) (roots : List B) (s : Shared B) (rs : List Runnable) (range : InRange c) (many : length roots ≡ c.workers) (first : IsFirst c roots s rs) where
  tasks_many : length s.tasks.items ≡ c.workers
  tasks_many = first.rooted.tasks_many ∙ many

  seats_many : length s.seats.items ≡ c.workers
  seats_many = first.rooted.seats_many ∙ many

  its_home : (t : ℕ) (slot : TaskSlot B) → slice_get s.tasks.items t ≡ Some slot → slot.home ≡ Some t
  its_home t slot there = ap (λ (x : TaskSlot B). x.home) (first.rooted.root t slot there).2.is

  -- the roots of the first state are those of the workers, and no other task is there
  pub homes_begun : AreHome c.workers (length s.seats.items) s.tasks.items
  homes_begun = grind (arith, seats_many, tasks_many, its_home, slice_get_within, same_Some)

  config_is : s.config ≡ c
  config_is = ap (λ (z : Shared B). z.config) first.bare.parts

  clock_is : s.clock ≡ 0
  clock_is = ap (λ (z : Shared B). z.clock) first.bare.parts

  pub first_sound : (i : ℕ) (w : Worker) (r : Runnable) → slice_get rs i ≡ Some r → Begins c (Pool i) i i r 0 w → Sound w s
  first_sound i w r mine begins =
      let queued = first.rooted.queued i r mine in
      let root = first.rooted.root i queued.0 queued.1 in
      let within : i < c.workers = (let inside = slice_get_within rs i r mine in omega (arith, inside, first.rooted.runnables_many, many)) in
      let chair = there_within s.seats.items i (omega (arith, within, seats_many)) in
      let pool : nat_lt i s.config.workers ≡ true = ap (λ k. nat_lt i k.workers) config_is ∙ lt-ltb i c.workers within in
      begun_sound (Pool i) i i r s w (subst (λ now. Begins s.config (Pool i) i i r now w) (sym clock_is) (subst (λ k. Begins k (Pool i) i i r 0 w) (sym config_is) begins))
      (record {
        config = rw config_is (config_sound c range);
        gates = subst (λ os. AreLinedUp os s.requests.items) (sym (ap (λ (z : Shared B). z.opens) first.bare.parts)) (gates_begun c.files s.requests.items range.files first.bare.requests);
        of_role = record { owns = refl; pool = sym pool; few = omega (arith, within, range.workers) };
        homes = rw config_is homes_begun;
        shards = rw config_is (shards_of c (length s.set.shards) range first.bare.shards);
        bounded = rw clock_is (omega arith);
        chair = chair.0;
        seated = chair.1;
        fresh = rw pool (first.rooted.fresh i chair.0 chair.1);
        body = root.0;
        owner = 1;
        slot = queued.0;
        there = queued.1;
        is = root.2.is;
        runnable = queued.2;
        nothing = λ k x found. absurd (none_there s.requests.items k x first.bare.requests found);
        nobody = λ k x found. absurd (none_there s.sleepers.items k x first.bare.sleepers found);
        few = rw first.bare.requests (omega arith);
        resting = λ t slot there ordinary unpolled. absurd (not_both slot.home t ordinary (its_home t slot there));
        owning = λ k x found. absurd (none_there s.requests.items k x first.bare.requests found);
        room = λ out socket. rw first.bare.requests (omega arith);
        at_zero = λ h. (ap (λ (z : Shared B). z.stopped) first.bare.parts, ap (λ (z : Shared B). z.set.closed) first.bare.parts);
        closed = λ h. absurd (false≢true (sym (ap (λ (z : Shared B). z.stopped) first.bare.parts) ∙ h));
      })

-- ONE MORE at the end of a list

one_more : {A C : Type 0} (xs : List A) (ys : List C) (x : A) (y : C) → length xs ≡ length ys → length (xs ++ x ∷ []) ≡ length (ys ++ y ∷ [])
one_more xs ys x y same = length-append xs (x ∷ []) ∙ ap (λ n. n + 1) same ∙ sym (length-append ys (y ∷ []))

-- What holds of each and its partner in the other list holds of the last of both, and so of all.
each_more : {A C : Type 0} (xs : List A) (ys : List C) (x : A) (y : C) (P : ℕ → A → C → Type 0) → length xs ≡ length ys → ((i : ℕ) (a : A) → slice_get xs i ≡ Some a → (b : C) × (slice_get ys i ≡ Some b) × P i a b) → P (length xs) x y
    → (i : ℕ) (a : A) → slice_get (xs ++ x ∷ []) i ≡ Some a → (b : C) × (slice_get (ys ++ y ∷ []) i ≡ Some b) × P i a b
each_more xs ys x y P many each both i a there =
    elim (last_or_before xs i x a there) [
      | inl found ↦ let it = each i a found in (it.0, get_front ys (y ∷ []) i it.0 it.1, it.2)
      | inr last ↦ (y, ap (slice_get (ys ++ y ∷ [])) (last.0 ∙ many) ∙ found_last ys y, subst (λ k. P k a y) (sym last.0) (subst (λ b. P (length xs) b y) last.1 both))
    ]

-- WORKERS

pub begin_more : (c : Configuration) (rs : List Runnable) (ws : List Worker) (r : Runnable) (w : Worker) → AllBegin c rs ws → Begins c (Pool (length ws)) (length ws) (length ws) r 0 w → AllBegin c (rs ++ r ∷ []) (ws ++ w ∷ [])
begin_more c rs ws r w all begins =
    record { many = one_more ws rs w r all.many; each = each_more ws rs w r (λ i v s. Begins c (Pool i) i i s 0 v) all.many all.each begins }

module _ {B : Type 0} where
  -- SEATS AND ROOTS

  pub roots_more : (roots : List B) (seats : List Chair) (tasks : List (TaskSlot B)) (rs : List Runnable) (body : B) (chair : Chair) (slot : TaskSlot B) (r : Runnable) → HasRoots roots seats tasks rs
      → IsFreshSeat true chair → IsRoot (length tasks) body slot → r ≡ runnable_of slot.cell → HasRoots (roots ++ body ∷ []) (seats ++ chair ∷ []) (tasks ++ slot ∷ []) (rs ++ r ∷ [])
  roots_more roots seats tasks rs body chair slot r has fresh root queued =
      record {
        seats_many = one_more seats roots chair body has.seats_many;
        tasks_many = one_more tasks roots slot body has.tasks_many;
        runnables_many = one_more rs roots r body has.runnables_many;
        fresh = λ i x there.
            elim (last_or_before seats i chair x there) [
              | inl found ↦ has.fresh i x found
              | inr last ↦ subst (IsFreshSeat true) last.1 fresh
            ];
        root = each_more tasks roots slot body (λ i z b. IsRoot i b z) has.tasks_many has.root root;
        queued = each_more rs tasks r slot (λ i q z. q ≡ runnable_of z.cell) (has.runnables_many ∙ sym has.tasks_many) has.queued queued;
      }

  pub root_is : (i n owner : ℕ) (body : B) (slot : TaskSlot B) → n ≡ i → owner ≡ 1 → slot.cell ≡ record { number = record { 0 = n }; owner = owner; phase = Queued body; cancelled = false }
      → slot ≡ record { cell = slot.cell; body = None; told = Some Start; held = slot.held; waiting = Nothing; output = OneShotState.Open; fresh = false; cleared = false; home = Some n; poller = 0 } → slot.held.items ≡ [] → IsRoot i body slot
  root_is = grind arith

  -- WHAT IS SHARED beside them

  -- seats and tasks are put in
  pub bare_with : (c : Configuration) (n : ℕ) (s u : Shared B) → IsBare c n s → u ≡ record s { seats = u.seats; tasks = u.tasks } → IsBare c n u
  bare_with = grind arith

  -- the bytes of sockets and files are another's
  pub with_store : (c : Configuration) (roots : List B) (s : Shared B) (rs : List Runnable) (x : Store) → IsFirst c roots s rs → IsFirst c roots (record s { store = x }) rs
  with_store = grind arith
