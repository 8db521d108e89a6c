-- A new task joins: what holds of all tasks, of the task set and of the balances then, whoever made it.
use Rattle.std.{proofs.{Common.{◌≡◌, ◌⊎◌, inl, inr, ℕ, zero, suc, ◌+◌, ◌<◌, ◌≤◌, ◌^◌, ◌==◌, ◌||◌, ◌&&◌, ◌%◌, ◌≢◌, sum_by, arith, Bool, true, false, not, cond, List, [], ◌∷◌, ◌++◌, length, map, Some, None, IsSome, refl, sym, ap, subst, ◌∙◌, slice_get, option_to_list, ⊎_elim}, lemmas.{Bool.{false≢true, eq-eqb}, List.{length-append, length-set, map-append}, Option.slice_get_within}}, specs.List.range_with_len}
use Rattle.exec_words.specs.{Idle.is_in}
use Rattle.exec_task.specs.{Phases.{is_polled, runnable_of}, TaskSet.{AreAtHome, held, inserted, shard_at, with_task}, declared.{runnable.Runnable.Runnable, task.Phase.Phase}}
use Rattle.exec_parts.{specs.{Records.numbers_held, declared.parts.{held.Held.Held, shared.Shared.Shared, task_slot.TaskSlot.TaskSlot}, Phased.is_complete, Pooled.IsNewTask}, proofs.Facts.{by_number, not_same}}
use Rattle.exec_invariants.{specs.{Drained.{Duties, IsHeldOnce, IsPool, in_set}, Gates.HaveGates, Holding.{Box, Hands, IsHolding, Nap, Thing, awaited_in, box_of, holder_of, nap_of, thing_of}, Places.one_if, Sound.{AreHome, AreResting, IsResting, acts_next}, Spares.{Spares, SparesPolled}, Whole.{HasOne, IsGenuine, IsWhole, Profile, duties_of, hands_of, may_let_go, runnables_in, stock}}, proofs.{Onces.once_queued, Polling.{in_hand_never, in_hand_once}, PoolShards.home_set}}
use Rattle.exec_polling.proofs.{HoldJoined.holding_joined, Outsiders.spares_self, SpawnLists.{found_again, found_last, found_which}, SpawnSets.{absent, joined_count, joined_shards, last_none, within}}

-- THE BALANCES: a party has one more runnable, that of the new task

pub record HasOneMore (r : Runnable) (x y : Profile) : Type 0 where
  pub runnables : (t : ℕ) → y.runnables t ≡ x.runnables t + runnables_in t (option_to_list (Some r))
  pub polls : y.polls ≡ x.polls
  pub claims : y.claims ≡ x.claims
  pub counts : y.counts ≡ x.counts
  pub published : y.published ≡ x.published
  pub duties : duties_of y ≡ duties_of x
  pub hands : hands_of y ≡ hands_of x

module _ {B : Type 0} where
  -- THE NEW TASK

  pub record Joins (body : B) (r : Runnable) (s s' : Shared B) : Type 0 where
    pub new : TaskSlot B
    pub items : s'.tasks.items ≡ s.tasks.items ++ new ∷ []
    pub of_it : r ≡ runnable_of new.cell
    pub fresh : IsNewTask r.task s.set.id body new
    pub number : r.task.0 ≡ length s.tasks.items
    pub set : s'.set ≡ inserted s.set r.task tt
    pub unclosed : s.set.closed ≡ false
    pub shards : 0 < length s.set.shards
    pub places : length s'.tasks.items ≤ s'.global.places
    pub few : length s'.tasks.items ≤ 2 ^ 32
    pub kept : s' ≡ record s { tasks = s'.tasks; set = s'.set; global = record s.global { places = s'.global.places } }

  module _ (body : B) (r : Runnable) (s s' : Shared B) (it : Joins body r s s') where
    home : it.new.home ≡ None
    home = ap (λ (o : TaskSlot B). o.home) it.fresh.rest

    queued : it.new.cell.phase ≡ Phase.Queued body
    queued = ap (λ c. c.phase) it.fresh.cell

    there : slice_get s'.tasks.items r.task.0 ≡ Some it.new
    there = ap (λ k. slice_get s'.tasks.items k) it.number ∙ ap (λ xs. slice_get xs (length s.tasks.items)) it.items ∙ found_last s.tasks.items it.new

    again : (k : ℕ) (o : TaskSlot B) → slice_get s.tasks.items k ≡ Some o → slice_get s'.tasks.items k ≡ Some o
    again k o found = ap (λ xs. slice_get xs k) it.items ∙ found_again s.tasks.items (it.new ∷ []) k o found

    which : (k : ℕ) (o : TaskSlot B) → slice_get s'.tasks.items k ≡ Some o → (slice_get s.tasks.items k ≡ Some o) ⊎ ((k ≡ length s.tasks.items) × (it.new ≡ o))
    which k o found = found_which s.tasks.items it.new o k (ap (λ xs. slice_get xs k) (sym it.items) ∙ found)

    more : length s'.tasks.items ≡ length s.tasks.items + 1
    more = ap length it.items ∙ length-append s.tasks.items (it.new ∷ [])

    pub homes_joined : (n count : ℕ) → AreHome n count s.tasks.items → AreHome n count s'.tasks.items
    homes_joined n count homes =
        record {
          many = homes.many;
          roots = omega (arith, homes.roots, more);
          home = λ k o found within.
              elim (which k o found) [ inl old ↦ homes.home k o old within | inr new ↦ absurd (omega (arith, homes.roots, new.0, within)) ];
          dedicated = λ k j o found past rooted.
              elim (which k o found) [ inl old ↦ homes.dedicated k j o old past rooted | inr new ↦ absurd (nobodys o j new.1 rooted) ];
          once = λ k l j o other found found' rooted rooted'.
              elim (which k o found) [ inl old ↦ elim (which l other found') [ inl old' ↦ homes.once k l j o other old old' rooted rooted' | inr new ↦ absurd (nobodys other j new.1 rooted') ] | inr new ↦ absurd (nobodys o j new.1 rooted) ];
          number = λ k o found.
              elim (which k o found) [
                | inl old ↦ homes.number k o old
                | inr new ↦
                    sym (ap (λ (y : TaskSlot B). y.cell.number) new.1) ∙ ap (λ c. c.number) it.fresh.cell ∙ ap (λ m. record { 0 = m }) (it.number ∙ sym new.0)
              ];
          few = it.few;
        }
      where
        -- the new one is nobody's root
        nobodys : (o : TaskSlot B) (j : ℕ) → it.new ≡ o → o.home ≡ Some j → ⊥
        nobodys o j is rooted = let no : None ≡ Some j = sym home ∙ ap (λ (y : TaskSlot B). y.home) is ∙ rooted in cc (no)

    rests : IsResting it.new
    rests =
        record {
          uncleared = λ going. (ap (λ c. c.cancelled) it.fresh.cell, ap (λ (o : TaskSlot B). o.cleared) it.fresh.rest);
          told = λ h. subst IsSome (sym (ap (λ (o : TaskSlot B). o.told) it.fresh.rest)) refl;
          untold = λ h. absurd (false≢true (sym h ∙ ap (λ (o : TaskSlot B). acts_next o.waiting) it.fresh.rest));
        }

    pub resting_joined : AreResting s.tasks.items → AreResting s'.tasks.items
    resting_joined old k o found ordinary free = elim (which k o found) [ inl was ↦ old k o was ordinary free | inr new ↦ subst IsResting new.1 rests ]

    -- it holds nothing, and waits for nothing
    pub holder_new : map holder_of s'.tasks.items ≡ map holder_of s.tasks.items ++ holder_of it.new ∷ []
    holder_new = ap (map holder_of) it.items ∙ map-append holder_of s.tasks.items (it.new ∷ [])

    none_held : it.new.held.items ≡ []
    none_held = by it.new.held.items it.fresh.held
      where
        by : (xs : List Held) → numbers_held xs ≡ [] → xs ≡ []
        by [] none = refl
        by (x ∷ xs) none = absurd (cc)

    pub holds_joined : (h : Hands) (n : ℕ) (things : List Thing) (naps : List Nap) (boxes : List Box) → IsHolding h n (map holder_of s.tasks.items) things naps boxes → IsHolding h n (map holder_of s'.tasks.items) things naps boxes
    holds_joined h n things naps boxes holding =
        subst (λ hs. IsHolding h n hs things naps boxes) (sym holder_new)
        (holding_joined h n (map holder_of s.tasks.items) things naps boxes (holder_of it.new) none_held (ap (λ (o : TaskSlot B). awaited_in o.waiting) it.fresh.rest) (ap is_complete queued) holding)

    pub genuine_joined : (x : Runnable) → IsGenuine s.tasks.items x → IsGenuine s'.tasks.items x
    genuine_joined x g = record { slot = g.slot; there = again x.task.0 g.slot g.there; ordinary = g.ordinary; of_it = g.of_it }

    pub genuine_new : IsGenuine s'.tasks.items r
    genuine_new = record { slot = it.new; there = there; ordinary = home; of_it = it.of_it }

    closed_same : s'.set.closed ≡ s.set.closed
    closed_same = ap (λ z. z.closed) it.set

    pub shards_same : length s'.set.shards ≡ length s.set.shards
    shards_same = ap (λ z. length z.shards) it.set ∙ length-set s.set.shards (r.task.0 % length s.set.shards) (with_task (shard_at s.set (r.task.0 % length s.set.shards)) r.task.0 tt)

    pub spares_joined : (j : ℕ) → Spares j s s'
    spares_joined j =
        let s1 : Shared B = record s { tasks = s'.tasks; set = s'.set; global = record s.global { places = s'.global.places } } in
        let root : (t : ℕ) (o : TaskSlot B) → slice_get s.tasks.items t ≡ Some o → o.home ≡ Some j → slice_get s'.tasks.items t ≡ Some o = λ t o found rooted. again t o found in
        let polled : (t : ℕ) (o : TaskSlot B) → slice_get s.tasks.items t ≡ Some o → is_polled o.cell.phase ≡ true → o.poller ≡ j → (o' : TaskSlot B) × (slice_get s'.tasks.items t ≡ Some o') × SparesPolled o o' = λ t o found polled mine.
        (o, again t o found, record { polled = polled; number = refl; cancelled = λ e. e; kept = refl }) in
        let shut : s.set.closed ≡ true → s'.set.closed ≡ true = λ h. closed_same ∙ h in
        let by_zero : j ≡ 0 → (s.stopped ≡ s.stopped) × (s'.set.closed ≡ s.set.closed) = λ h. (refl, closed_same) in
        let emptied : s.set.closed ≡ true → (k : ℕ) → shard_at s.set k ≡ [] → shard_at s'.set k ≡ [] = λ shut. absurd (false≢true (sym it.unclosed ∙ shut)) in
        let done : Spares j s s1 = assumption (root, polled, shut, by_zero, shards_same, emptied, genuine_joined, spares_self j s) in
        subst (λ z. Spares j s z) (sym it.kept) done

  abbrev claimed_by : Shared B → (ℕ → Bool) → ℕ
  claimed_by s f = sum_by (λ j. one_if (f j && not (is_in s.idle.published j))) (range_with_len 0 s.config.workers)

  module _ (body : B) (r : Runnable) (s s' : Shared B) (it : Joins body r s s') where
    abbrev number : ℕ
    number = length s.tasks.items

    below : (d : Duties) → IsPool d s.tasks.items s.set s.seats.items → (t : ℕ) → 0 < in_set t s.set → t < number
    below d pool t some =
        let old = pool.only t (omega (arith, some)) in
        slice_get_within s.tasks.items t old.0 old.1

    -- how often a number stands in the set
    counted : (d : Duties) → IsPool d s.tasks.items s.set s.seats.items → (t : ℕ) → in_set t s'.set ≡ in_set t s.set + cond (number == t) 1 0
    counted d pool t = ap (in_set t) it.set ∙ ap (λ k. in_set t (inserted s.set k tt)) (ap (λ n. record { 0 = n }) it.number) ∙ joined_count t number tt s.set it.shards (below d pool)

    counted_old : (d : Duties) → IsPool d s.tasks.items s.set s.seats.items → (t : ℕ) → t < number → in_set t s'.set ≡ in_set t s.set
    counted_old d pool t few =
        let apart : (number == t) ≡ false = not_same number t (λ is. absurd (omega (arith, few, is))) in
        counted d pool t ∙ ap (λ b. in_set t s.set + cond b 1 0) apart ∙ omega arith

    counted_new : (d : Duties) → IsPool d s.tasks.items s.set s.seats.items → d.clears number + in_set number s'.set ≡ 1
    counted_new d pool =
        let here : (number == number) ≡ true = eq-eqb number number refl in
        let now : in_set number s'.set ≡ in_set number s.set + 1 = counted d pool number ∙ ap (λ b. in_set number s.set + cond b 1 0) here in
        let none : d.clears number + in_set number s.set ≡ 0 = by_none (d.clears number + in_set number s.set) refl in
        omega (arith, now, none)
      where
        by_none : (n : ℕ) → d.clears number + in_set number s.set ≡ n → d.clears number + in_set number s.set ≡ 0
        by_none zero is = is
        by_none (suc n) is =
            let old = pool.only number (omega (arith, is)) in
            absurd (omega (arith, slice_get_within s.tasks.items number old.0 old.1))

    home_joined : (d : Duties) → IsPool d s.tasks.items s.set s.seats.items → AreAtHome s'.set.shards
    home_joined d pool =
        subst (λ z. AreAtHome z.shards) (sym (it.set ∙ ap (λ k. inserted s.set k tt) (ap (λ n. record { 0 = n }) it.number)))
        (subst AreAtHome (sym (joined_shards number tt s.set it.shards (below d pool)))
        (home_set s.set.shards (number % length s.set.shards) (shard_at s.set (number % length s.set.shards) ++ (number, tt) ∷ []) (within number s.set it.shards)
        (λ n away none. last_none (shard_at s.set (number % length s.set.shards)) number tt n (λ same. away (ap (λ m. m % length s.set.shards) same)) none) pool.home))

    pool_joined : (d : Duties) → IsPool d s.tasks.items s.set s.seats.items → IsPool d s'.tasks.items s'.set s.seats.items
    pool_joined d pool =
        record {
          live = λ t o found ordinary.
              elim (which body r s s' it t o found) [
                | inl old ↦ subst (λ n. IsHeldOnce o (d.clears t + n)) (sym (counted_old d pool t (slice_get_within s.tasks.items t o old))) (pool.live t o old ordinary)
                | inr new ↦
                    let one : d.clears t + in_set t s'.set ≡ 1 = ap (λ k. d.clears k + in_set k s'.set) new.0 ∙ counted_new d pool in
                    let uncleared : o.cleared ≡ false = ap (λ (y : TaskSlot B). y.cleared) (sym new.1) ∙ ap (λ (y : TaskSlot B). y.cleared) it.fresh.rest in
                    record { most = omega (arith, one); cleared = λ is. absurd (false≢true (sym uncleared ∙ is)); live = λ h going. one }
              ];
          home = home_joined d pool;
          only = λ t some.
              by_number number t
              (λ apart.
              let other : (number == t) ≡ false = not_same number t apart in
              let same : in_set t s'.set ≡ in_set t s.set = counted d pool t ∙ ap (λ b. in_set t s.set + cond b 1 0) other ∙ omega arith in
              let old = pool.only t (omega (arith, some, same)) in
              (old.0, again body r s s' it t old.0 old.1, old.2))
              (λ is. (it.new, ap (slice_get s'.tasks.items) (sym is ∙ sym it.number) ∙ there body r s s' it, home body r s s' it));
          who_polls = λ t o found ordinary polled.
              elim (which body r s s' it t o found) [
                | inl old ↦ pool.who_polls t o old ordinary polled
                | inr new ↦ absurd (false≢true (sym (ap (λ (y : TaskSlot B). is_polled y.cell.phase) (sym new.1) ∙ ap is_polled (queued body r s s' it)) ∙ polled))
              ];
          who_clears = λ t some. absurd (false≢true (sym it.unclosed ∙ (pool.who_clears t some).3));
          clear_shut = λ t o found ordinary cleared.
              elim (which body r s s' it t o found) [
                | inl old ↦ closed_same body r s s' it ∙ pool.clear_shut t o old ordinary cleared
                | inr new ↦
                    let uncleared : o.cleared ≡ false = ap (λ (y : TaskSlot B). y.cleared) (sym new.1) ∙ ap (λ (y : TaskSlot B). y.cleared) it.fresh.rest in
                    absurd (false≢true (sym uncleared ∙ cleared))
              ];
          removes = λ j t is.
              let old = pool.removes j t is in
              let same : in_set t s'.set ≡ in_set t s.set = counted_old d pool t (slice_get_within s.tasks.items t old.0.slot old.0.there) in (
                record { slot = old.0.slot; there = again body r s s' it t old.0.slot old.0.there; ordinary = old.0.ordinary; over = old.0.over },
                ⊎_elim (λ shut. inl (closed_same body r s s' it ∙ shut)) (λ one. inr (same ∙ one)) old.1,
              );
          alone = pool.alone;
          drained = λ j chair found gone. absurd (false≢true (sym it.unclosed ∙ (pool.drained j chair found gone).0));
          mail = pool.mail;
          shut = pool.shut;
        }

    gone_same : (b : Bool) → (s'.set.closed || b) ≡ (s.set.closed || b)
    gone_same b = ap (λ z. z || b) (closed_same body r s s' it)

    pub whole_joined : (x y : Profile) → HasOneMore r x y → IsWhole x s → IsWhole y s'
    whole_joined x y one whole =
        let s1 : Shared B = record s { tasks = s'.tasks; set = s'.set; global = record s.global { places = s'.global.places } } in
        let none = whole.made number (omega arith) in
        let far : (t : ℕ) → t ≢ number → y.runnables t ≡ x.runnables t = λ t apart.
        one.runnables t ∙ ap (λ n. x.runnables t + n) (in_hand_never t number r it.number apart) ∙ omega arith in
        let near : y.runnables number ≡ x.runnables number + 1 = one.runnables number ∙ ap (λ n. x.runnables number + n) (in_hand_once number r it.number) in
        let gone : may_let_go s1 ≡ may_let_go s = gone_same s.global.closed in
        let done : IsWhole y s1 = record {
          runnables = λ t o found ordinary.
              elim (which body r s s' it t o found) [
                | inl old ↦
                    let apart : t ≢ number = λ is. absurd (omega (arith, is, slice_get_within s.tasks.items t o old)) in
                    subst (λ b. HasOne b o.cell.phase (y.runnables t + stock t s)) (sym gone) (subst (λ n. HasOne (may_let_go s) o.cell.phase (n + stock t s)) (sym (far t apart)) (whole.runnables t o old ordinary))
                | inr new ↦
                    let now : y.runnables t + stock t s ≡ 1 = ap (λ k. y.runnables k + stock k s) new.0 ∙ omega (arith, near, none.0) in
                    subst (λ p. HasOne (may_let_go s1) p (y.runnables t + stock t s)) (sym (queued body r s s' it) ∙ ap (λ (z : TaskSlot B). z.cell.phase) new.1) (once_queued (may_let_go s1) (y.runnables t + stock t s) now)
              ];
          polls = λ t o found ordinary.
              elim (which body r s s' it t o found) [
                | inl old ↦ ap (λ f. f t) one.polls ∙ whole.polls t o old ordinary
                | inr new ↦
                    ap (λ f. f t) one.polls ∙ ap x.polls new.0 ∙ none.1
                    ∙ sym (ap (λ (z : TaskSlot B). one_if (is_polled z.cell.phase)) (sym new.1) ∙ ap (λ p. one_if (is_polled p)) (queued body r s s' it))
              ];
          claims = λ j chair found. ap (λ f. f j) one.claims ∙ whole.claims j chair found;
          counts = subst (λ (f : ℕ → Bool). y.counts + claimed_by s f ≡ s.idle.count) (sym one.published) (ap (λ n. n + claimed_by s x.published) one.counts ∙ whole.counts);
          bits = λ j is. let old = whole.bits j is in (ap (λ f. f j) one.published ∙ old.0, old.1);
          set = whole.set;
          queued_here = λ j chair z found has. genuine_joined body r s s' it z (whole.queued_here j chair z found has);
          queued_there = λ z has. genuine_joined body r s s' it z (whole.queued_there z has);
          places = λ h. it.places;
          made = λ t above.
              let past : number + 1 ≤ t = omega (arith, above, more body r s s' it) in
              let apart : t ≢ number = λ is. absurd (omega (arith, is, past)) in
              let old = whole.made t (omega (arith, past)) in
              (ap (λ n. n + stock t s) (far t apart) ∙ old.0, ap (λ f. f t) one.polls ∙ old.1);
          unclaimed = λ j beyond. ap (λ f. f j) one.claims ∙ whole.unclaimed j beyond;
          in_pool = whole.in_pool;
          gates = subst (λ (d : Duties). HaveGates d.drops_by s.opens s.requests.items) (sym one.duties) whole.gates;
          holding = holds_joined body r s s' it (hands_of y) s.config.workers (map thing_of s.requests.items) (map nap_of s.sleepers.items) (map box_of s.seats.items)
              (subst (λ h. IsHolding h s.config.workers (map holder_of s.tasks.items) (map thing_of s.requests.items) (map nap_of s.sleepers.items) (map box_of s.seats.items)) (sym one.hands) whole.holding);
          pool = subst (λ d. IsPool d s'.tasks.items s'.set s.seats.items) (sym one.duties) (pool_joined (duties_of x) whole.pool);
        } in
        subst (IsWhole y) (sym it.kept) done

  -- a number that no task has stands nowhere in the set
  pub none_yet : (d : Duties) (s : Shared B) → 0 < length s.set.shards → IsPool d s.tasks.items s.set s.seats.items → held s.set (record { 0 = length s.tasks.items }) ≡ None
  none_yet d s some pool = absent (length s.tasks.items) s.set some (λ t has. let old = pool.only t (omega (arith, has)) in slice_get_within s.tasks.items t old.0 old.1)
