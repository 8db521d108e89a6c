-- A POLLED TASK IS OVER: what that leaves of all parties' balances, and of what others rely on.
use Rattle.exec_invariants.{specs.{Carried.HasRoom, Holding.{IsHolding, box_of, holder_of, nap_of, thing_of}, Places.{claims_at, clears_at, drops_at, has_count_at, is_published_at, one_if, removes_at}, Sound.AreHome, Spares.Spares, Whole.{HasOne, IsGenuine, IsWhole, Profile, duties_of, hands_of, is_number, may_let_go, runnables_in, stock, with_worker, queued}, Drained.IsPool, Gates.HaveGates}, proofs.{Words.{◌≡◌, ◌≢◌, ℕ, ◌+◌, ◌<◌, ◌≤◌, ◌==◌, ◌&&◌, not, sum_by, Bool, true, false, ◌++◌, length, map, Some, None, refl, sym, ap, subst, ◌∙◌, arith, slice_get, slice_set, option_to_list, if◌then◌else◌, false≢true, length-set, slice_get_within, range_with_len, Contains, is_in, is_polled, Runnable, InPoll, Place, polls_at, polls_in, Shared, TaskSlot, Worker, Chair, is_complete, by_number, same_Some, set_elsewhere, set_there}, Lined.{KeepsLines, gates_kept}, Polling.{number_apart, number_there}, PoolKept.{Redoes, chosen_other, chosen_own, pool_slot}, Serving.{SparesRecords, spares_service}, Slots.{gates_free, spares_slot}, SlotTasks.{Keeps, genuine_set}}}

-- where it goes on: nothing is polled there, claimed, counted, published, cleared, passed on or joined
pub record IsPast (q : Place) : Type 0 where
  pub polls : polls_at q ≡ None
  pub claims : claims_at q ≡ None
  pub counts : has_count_at q ≡ false
  pub published : is_published_at q ≡ false
  pub clears : clears_at q ≡ None
  pub passes : (drops_at q).passes ≡ None
  pub joins : (drops_at q).joins ≡ None

module _ {B : Type 0} where
  -- the slot of a task that is over
  pub record IsDone (slot slot' : TaskSlot B) : Type 0 where
    pub keeps : Keeps slot slot'
    pub cleared : slot'.cleared ≡ slot.cleared
    pub unpolled : is_polled slot'.cell.phase ≡ false
    pub complete : is_complete slot'.cell.phase ≡ true
    pub one : (g : Bool) (n : ℕ) → HasOne g slot.cell.phase n → HasOne g slot'.cell.phase n

  -- what a worker that polled it does then
  redoes_done : (t : ℕ) (x : InPoll) (q : Place) (w w' : Worker) (s : Shared B) (slot slot' : TaskSlot B) (others : Profile) → w.place ≡ Place.Poll t x → polls_in t x ≡ Some t → clears_at (Place.Poll t x) ≡ None → IsPast q → w'.index ≡ w.index → w'.place ≡ q → IsDone slot slot'
      → is_complete slot.cell.phase ≡ false → ((u : ℕ) → removes_at q ≡ Some u → (u ≡ t) × (slot.home ≡ None)) → Redoes t w.index (duties_of (with_worker others w)) (duties_of (with_worker others w')) slot slot' s.seats.items
  redoes_done = grind (arith, chosen_other, chosen_own, same_Some, false≢true)

  -- THE BALANCES
  pub whole_done : (t : ℕ) (x : InPoll) (q : Place) (w w' : Worker) (s s' : Shared B) (slot slot' : TaskSlot B) (others : Profile) → w.place ≡ Place.Poll t x → polls_in t x ≡ Some t → clears_at (Place.Poll t x) ≡ None → claims_at (Place.Poll t x) ≡ None → has_count_at (Place.Poll t x) ≡ false → is_published_at (Place.Poll t x) ≡ false → IsPast q
      → w'.index ≡ w.index → w'.place ≡ q → w'.hand ≡ w.hand → w'.loot ≡ w.loot → w'.searching ≡ w.searching → slice_get s.tasks.items t ≡ Some slot → s'.tasks.items ≡ slice_set s.tasks.items t slot' → IsDone slot slot' → is_polled slot.cell.phase ≡ true → is_complete slot.cell.phase ≡ false → ((u : ℕ) → removes_at q ≡ Some u → (u ≡ t) × (slot.home ≡ None))
      → KeepsLines s.requests.items s'.requests.items → s' ≡ record s { tasks = s'.tasks; requests = s'.requests; sleepers = s'.sleepers } → IsHolding (hands_of (with_worker others w')) s.config.workers (map holder_of s'.tasks.items) (map thing_of s'.requests.items) (map nap_of s'.sleepers.items) (map box_of s.seats.items)
      → IsWhole (with_worker others w) s → IsWhole (with_worker others w') s'
  whole_done t x q w w' s s' slot slot' others here polls uncleared unclaimed uncounted unpublished past index place hand loot searching there items over polled going removes lines kept holding whole =
      let no_more : (n : ℕ) → n + 0 ≡ n = λ n. omega arith in
      let now_drops : (if w.index == w'.index then drops_at w'.place else others.drops_by w.index) ≡ drops_at q =
      ap (λ i. if w.index == i then drops_at w'.place else others.drops_by w.index) index ∙ chosen_own w.index (drops_at w'.place) (others.drops_by w.index) ∙ ap drops_at place in
      let claimed_by : (ℕ → Bool) → ℕ = λ f. sum_by (λ j. one_if (f j && not (is_in s.idle.published j))) (range_with_len 0 s.config.workers) in
      let Bits : (ℕ → Bool) → Type 0 = λ f. (j : ℕ) → is_in s.idle.published j ≡ true → (f j ≡ true) × (j < s.config.workers) in
      let s1 : Shared B = record s { tasks = s'.tasks; requests = s'.requests; sleepers = s'.sleepers } in
      let was : (k : ℕ) (o : TaskSlot B) → slice_get s'.tasks.items k ≡ Some o → k ≢ t → slice_get s.tasks.items k ≡ Some o = λ k o found apart. sym (set_elsewhere s.tasks.items t k slot' apart) ∙ ap (λ ts. slice_get ts k) (sym items) ∙ found in
      let is : (k : ℕ) (o : TaskSlot B) → slice_get s'.tasks.items k ≡ Some o → k ≡ t → slot' ≡ o = λ k o found same. same_Some slot' o (sym (set_there s.tasks.items t slot' slot there) ∙ ap (λ ts. slice_get ts t) (sym items) ∙ subst (λ m. slice_get s'.tasks.items m ≡ Some o) same found) in
      let genuine : (r : Runnable) → IsGenuine s.tasks.items r → IsGenuine s'.tasks.items r = λ r it. subst (λ ts. IsGenuine ts r) (sym items) (genuine_set s.tasks.items t slot slot' there over.keeps r it) in
      let same_runnables : (u : ℕ) → (with_worker others w').runnables u ≡ (with_worker others w).runnables u = λ u. ap (λ h. others.runnables u + runnables_in u (option_to_list h ++ w'.loot.values)) hand ∙ ap (λ l. others.runnables u + runnables_in u (option_to_list w.hand ++ l.values)) loot in
      let unpolled_now : (u : ℕ) → (with_worker others w').polls u ≡ others.polls u = λ u. ap (λ o. others.polls u + one_if (is_number o u)) (ap polls_at place ∙ past.polls) ∙ no_more (others.polls u) in
      let same_claims : (j : ℕ) → (with_worker others w').claims j ≡ (with_worker others w).claims j = λ j. ap (λ o. others.claims j + one_if (is_number o j)) (ap claims_at place ∙ past.claims ∙ sym (ap claims_at here ∙ unclaimed)) in
      let posted : (with_worker others w').published ≡ (with_worker others w).published =
      ap (λ (i : ℕ). λ (j : ℕ). if j == i then is_published_at w'.place else others.published j) index ∙ ap (λ (b : Bool). λ (j : ℕ). if j == w.index then b else others.published j) (ap is_published_at place ∙ past.published ∙ sym (ap is_published_at here ∙ unpublished)) in
      let counted : (with_worker others w').counts ≡ (with_worker others w).counts =
      ap (λ b. others.counts + (one_if b + one_if (has_count_at w'.place))) searching ∙ ap (λ b. others.counts + (one_if w.searching + one_if b)) (ap has_count_at place ∙ past.counts ∙ sym (ap has_count_at here ∙ uncounted)) in
      let runnables : (t : ℕ) (slot : TaskSlot B) → slice_get s1.tasks.items t ≡ Some slot → slot.home ≡ None → HasOne (may_let_go s1) slot.cell.phase ((with_worker others w').runnables t + stock t s1) = λ u o found home.
      subst (λ n. HasOne (may_let_go s) o.cell.phase (n + stock u s)) (sym (same_runnables u))
      (by_number u t
      (λ apart. whole.runnables u o (was u o found apart) home)
      (λ same.
      let e = is u o found same in
      let old : slot.home ≡ None = sym over.keeps.home ∙ ap (λ (y : TaskSlot B). y.home) e ∙ home in
      subst (λ m. HasOne (may_let_go s) o.cell.phase ((with_worker others w).runnables m + stock m s)) (sym same)
      (subst (λ (y : TaskSlot B). HasOne (may_let_go s) y.cell.phase ((with_worker others w).runnables t + stock t s)) e (over.one (may_let_go s) ((with_worker others w).runnables t + stock t s) (whole.runnables t slot there old))))) in
      let polls_so : (t : ℕ) (slot : TaskSlot B) → slice_get s1.tasks.items t ≡ Some slot → slot.home ≡ None → (with_worker others w').polls t ≡ one_if (is_polled slot.cell.phase) = λ u o found home.
      unpolled_now u
      ∙ by_number u t
      (λ apart.
      let old = whole.polls u o (was u o found apart) home in
      let none : one_if (is_number (polls_at w.place) u) ≡ 0 = ap one_if (ap (λ p. is_number (polls_at p) u) here ∙ number_apart t u (polls_in t x) polls apart) in
      omega (arith, old, none))
      (λ same.
      let e = is u o found same in
      let old = whole.polls t slot there (sym over.keeps.home ∙ ap (λ (y : TaskSlot B). y.home) e ∙ home) in
      let off : one_if (is_polled o.cell.phase) ≡ 0 = ap (λ (y : TaskSlot B). one_if (is_polled y.cell.phase)) (sym e) ∙ ap one_if over.unpolled in
      omega (arith, old, ap one_if (ap (λ p. is_number (polls_at p) t) here ∙ number_there t (polls_in t x) polls), ap one_if polled, off, ap others.polls same)) in
      let claims : (j : ℕ) (chair : Chair) → slice_get s1.seats.items j ≡ Some chair → (with_worker others w').claims j ≡ one_if (not (chair.queue.gap == 0)) = λ j chair found. same_claims j ∙ whole.claims j chair found in
      let counts = subst (λ (f : ℕ → Bool). (with_worker others w').counts + claimed_by f ≡ s.idle.count) (sym posted) (ap (λ n. n + claimed_by (with_worker others w).published) counted ∙ whole.counts) in
      let queued_here : (j : ℕ) (chair : Chair) (r : Runnable) → slice_get s1.seats.items j ≡ Some chair → Contains (queued chair) r → IsGenuine s1.tasks.items r =
      λ j chair r found has_it. genuine r (whole.queued_here j chair r found has_it) in
      let queued_there : (r : Runnable) → Contains s1.global.values r → IsGenuine s1.tasks.items r = λ r has_it. genuine r (whole.queued_there r has_it) in
      let places : s1.global.closed ≡ false → length s1.tasks.items ≤ s1.global.places = λ open_still. rw (items, length-set) (whole.places open_still) in
      let made : (t : ℕ) → length s1.tasks.items ≤ t → ((with_worker others w').runnables t + stock t s1 ≡ 0) × ((with_worker others w').polls t ≡ 0) = λ u more.
      let beyond : length s.tasks.items ≤ u = subst (λ n. n ≤ u) (ap length items ∙ length-set s.tasks.items t slot') more in
      let apart : u ≢ t = λ same. omega (arith, beyond, slice_get_within s.tasks.items t slot there, same) in
      let old = whole.made u beyond in
      let now = unpolled_now u in (
        omega (arith, old.0, same_runnables u),
        omega (arith, old.1, ap one_if (ap (λ p. is_number (polls_at p) u) here ∙ number_apart t u (polls_in t x) polls apart), now),
      ) in
      let unclaimed : (j : ℕ) → length s1.seats.items ≤ j → (with_worker others w').claims j ≡ 0 = λ j more. same_claims j ∙ whole.unclaimed j more in
      let gates : HaveGates (with_worker others w').drops_by s1.opens s1.requests.items =
      gates_kept s.requests.items s'.requests.items lines (with_worker others w').drops_by s.opens
      (gates_free w.index (with_worker others w).drops_by (with_worker others w').drops_by s.opens s.requests.items
      (λ j other. ap (λ i. if j == i then drops_at w'.place else others.drops_by j) index ∙ chosen_other j w.index (drops_at w'.place) (others.drops_by j) other ∙ sym (chosen_other j w.index (drops_at w.place) (others.drops_by j) other))
      (ap (λ y. y.passes) now_drops ∙ past.passes) (ap (λ y. y.joins) now_drops ∙ past.joins) whole.gates) in
      let pool : IsPool (duties_of (with_worker others w')) s1.tasks.items s1.set s1.seats.items =
      pool_slot t w.index (duties_of (with_worker others w)) (duties_of (with_worker others w')) s.tasks.items s'.tasks.items s.set s.seats.items slot slot' there items
      (redoes_done t x q w w' s slot slot' others here polls uncleared past index place over going removes) whole.pool in
      let done : IsWhole (with_worker others w') s1 = assumption (runnables, polls_so, claims, counts, subst (λ (f : ℕ → Bool). Bits f) (sym posted) whole.bits, queued_here, queued_there, places, made, unclaimed, gates, holding, pool, whole) in
      subst (IsWhole (with_worker others w')) (sym kept) done

  -- WHAT OTHERS RELY ON
  pub spares_done : (i j t : ℕ) (s s' : Shared B) (slot slot' : TaskSlot B) → j ≢ i → slice_get s.tasks.items t ≡ Some slot → s'.tasks.items ≡ slice_set s.tasks.items t slot' → Keeps slot slot' → (slot.home ≡ Some j → ⊥) → (is_polled slot.cell.phase ≡ true → slot.poller ≡ j → ⊥)
      → AreHome s.config.workers (length s.seats.items) s.tasks.items → s' ≡ record s { tasks = s'.tasks; requests = s'.requests; sleepers = s'.sleepers } → SparesRecords i s (record s { requests = s'.requests; sleepers = s'.sleepers }) → HasRoom s'.requests.items s.store → Spares j s s'
  spares_done i j t s s' slot slot' other there items keeps rootless unpolled homes kept spares room =
      let a : Spares j s (record s { requests = s'.requests; sleepers = s'.sleepers }) = spares_service i j s (record s { requests = s'.requests; sleepers = s'.sleepers }) other refl spares room in
      let b : Spares j s (record s { tasks = s'.tasks }) = spares_slot i j t s s' slot slot' other there items keeps rootless (λ polled mine. absurd (unpolled polled mine)) homes in
      let done : Spares j s (record s { tasks = s'.tasks; requests = s'.requests; sleepers = s'.sleepers }) = grind arith in
      subst (Spares j s) (sym kept) done
