-- WHAT A STEP OF A POLL LEAVES OF OTHERS, where the polled task takes, or waits for, or lets go of what another worker may have.
use Rattle.exec_invariants.{proofs.{Names.{◌≡◌, ◌≢◌, inl, ℕ, ◌+◌, ◌≤◌, ◌==◌, not, Contains, List, ◌++◌, length, map, Some, refl, sym, ap, subst, ◌∙◌, slice_get, slice_set, length-set, false, None, nat_lt, arith, Queue, is_polled, runnable_of, Runnable, TaskCell, Shared, TaskSlot, Worker, Chair, is_complete, by_number, same_Some, set_elsewhere, set_there}, Aside.{SameProfile, SparesSeats, length_same, profile_same, queue_back, queue_of_chair, stock_same}, HoldThings.{Touches, spares_touched}, Lined.{KeepsLines, gates_kept}, PoolKept.{KeepsGates, pool_seats, pool_slot}, Slots.spares_slot, SlotTasks.Keeps}, specs.{Holding.{IsHolding, box_of, holder_of, nap_of, thing_of}, Sound.AreHome, Spares.Spares, Drained.{IsBefore, IsPool}, Gates.HaveGates, Places.one_if, Whole.{HasOne, IsGenuine, IsWhole, Profile, duties_of, hands_of, may_let_go, runnables_in, stock, with_worker, queued}, Works.Beside}}

module _ {B : Type 0} where
  -- task t's slot became another of the same cell
  pub record Handles (t : ℕ) (s s' : Shared B) (slot slot' : TaskSlot B) : Type 0 where
    pub there : slice_get s.tasks.items t ≡ Some slot
    pub items : s'.tasks.items ≡ slice_set s.tasks.items t slot'
    pub cell : slot'.cell ≡ slot.cell
    pub home : slot'.home ≡ slot.home
    pub cleared : slot'.cleared ≡ slot.cleared
    pub poller : slot'.poller ≡ slot.poller

  -- who was there: with the same cell
  pub record WasThere (tasks : List (TaskSlot B)) (u : ℕ) (o : TaskSlot B) : Type 0 where
    pub was : TaskSlot B
    pub there : slice_get tasks u ≡ Some was
    pub cell : o.cell ≡ was.cell
    pub home : o.home ≡ was.home

  pub was_there : (t : ℕ) (s s' : Shared B) (slot slot' : TaskSlot B) → Handles t s s' slot slot' → (u : ℕ) (o : TaskSlot B) → slice_get s'.tasks.items u ≡ Some o → WasThere s.tasks.items u o
  was_there t s s' slot slot' it u o at =
      by_number u t
      (λ apart. record { was = o; there = sym (set_elsewhere s.tasks.items t u slot' apart) ∙ ap (λ ts. slice_get ts u) (sym it.items) ∙ at; cell = refl; home = refl })
      (λ same.
      let is : slot' ≡ o = same_Some slot' o (sym (set_there s.tasks.items t slot' slot it.there) ∙ ap (λ ts. slice_get ts t) (sym it.items) ∙ subst (λ m. slice_get s'.tasks.items m ≡ Some o) same at) in
      record { was = slot; there = subst (λ m. slice_get s.tasks.items m ≡ Some slot) (sym same) it.there; cell = ap (λ (y : TaskSlot B). y.cell) (sym is) ∙ it.cell; home = ap (λ (y : TaskSlot B). y.home) (sym is) ∙ it.home })

  pub genuine_still : (t : ℕ) (s s' : Shared B) (slot slot' : TaskSlot B) → Handles t s s' slot slot' → (r : Runnable) → IsGenuine s.tasks.items r → IsGenuine s'.tasks.items r
  genuine_still t s s' slot slot' it r gen =
      by_number r.task.0 t
      (λ apart. record { slot = gen.slot; there = ap (λ ts. slice_get ts r.task.0) it.items ∙ set_elsewhere s.tasks.items t r.task.0 slot' apart ∙ gen.there; ordinary = gen.ordinary; of_it = gen.of_it })
      (λ same.
      let is : slot ≡ gen.slot = same_Some slot gen.slot (sym it.there ∙ subst (λ m. slice_get s.tasks.items m ≡ Some gen.slot) same gen.there) in
      record {
        slot = slot';
        there = ap (λ ts. slice_get ts r.task.0) it.items ∙ subst (λ m. slice_get (slice_set s.tasks.items t slot') m ≡ Some slot') (sym same) (set_there s.tasks.items t slot' slot it.there);
        ordinary = it.home ∙ ap (λ (y : TaskSlot B). y.home) is ∙ gen.ordinary;
        of_it = gen.of_it ∙ ap (λ (y : TaskSlot B). runnable_of y.cell) (sym is) ∙ ap runnable_of (sym it.cell);
      })

  -- THE WHOLE STEP: of the tasks, the records, the sleepers and the mailboxes
  pub record Deals (t : ℕ) (w w' : Worker) (s s' : Shared B) (slot slot' : TaskSlot B) : Type 0 where
    pub kept : s' ≡ record s { tasks = s'.tasks; requests = s'.requests; sleepers = s'.sleepers; seats = s'.seats }
    pub handles : Handles t s s' slot slot'
    pub profile : SameProfile w w'
    pub lines : KeepsLines s.requests.items s'.requests.items
    pub gates : KeepsGates s.seats.items s'.seats.items
    pub queues : map queue_of_chair s'.seats.items ≡ map queue_of_chair s.seats.items

  -- what all hold then
  abbrev pub Holds : Profile → Shared B → Type 0
  Holds x s = IsHolding (hands_of x) s.config.workers (map holder_of s.tasks.items) (map thing_of s.requests.items) (map nap_of s.sleepers.items) (map box_of s.seats.items)

  -- what a step of a poll changes of what is shared
  abbrev pub dealt_in : Shared B → Shared B → Shared B
  dealt_in s s' = record s { tasks = s'.tasks; requests = s'.requests; sleepers = s'.sleepers; seats = s'.seats; opens = s'.opens; store = s'.store }

  -- of the seats what counts in a closing stays, and their queues; who stands at gates is as this says
  pub whole_handled : (t i : ℕ) (s s' : Shared B) (slot slot' : TaskSlot B) (x : Profile) → Handles t s s' slot slot' → KeepsGates s.seats.items s'.seats.items → map queue_of_chair s'.seats.items ≡ map queue_of_chair s.seats.items → HaveGates x.drops_by s'.opens s'.requests.items
      → Holds x (dealt_in s s') → IsWhole x s → IsWhole x (dealt_in s s')
  whole_handled t i s s' slot slot' x it gates queues lines holds whole =
      let many : length s'.tasks.items ≡ length s.tasks.items = ap length it.items ∙ length-set s.tasks.items t slot' in
      let stocks : (u : ℕ) → stock u (dealt_in s s') ≡ stock u s = λ u. ap (λ n. n + runnables_in u s.global.values) (stock_same u s.seats.items s'.seats.items queues) in
      let was : (u : ℕ) (o : TaskSlot B) → slice_get s'.tasks.items u ≡ Some o → WasThere s.tasks.items u o = was_there t s s' slot slot' it in
      let runnables : (t : ℕ) (slot : TaskSlot B) → slice_get s'.tasks.items t ≡ Some slot → slot.home ≡ None → HasOne (may_let_go (dealt_in s s')) slot.cell.phase (x.runnables t + stock t (dealt_in s s')) = λ u o at home.
      let old = was u o at in
      subst (λ c. HasOne (may_let_go s) c.phase (x.runnables u + stock u (dealt_in s s'))) (sym old.cell) (subst (λ n. HasOne (may_let_go s) old.was.cell.phase (x.runnables u + n)) (sym (stocks u)) (whole.runnables u old.was old.there (sym old.home ∙ home))) in
      let polls_so : (t : ℕ) (slot : TaskSlot B) → slice_get s'.tasks.items t ≡ Some slot → slot.home ≡ None → x.polls t ≡ one_if (is_polled slot.cell.phase) =
      λ u o at home. let old = was u o at in whole.polls u old.was old.there (sym old.home ∙ home) ∙ ap (λ c. one_if (is_polled c.phase)) (sym old.cell) in
      let claims : (j : ℕ) (chair : Chair) → slice_get s'.seats.items j ≡ Some chair → x.claims j ≡ one_if (not (chair.queue.gap == 0)) = λ j chair at.
      let old = queue_back s.seats.items s'.seats.items j chair queues at in
      whole.claims j old.0 old.1 ∙ ap (λ (q : Queue Runnable). one_if (not (q.gap == 0))) (sym old.2) in
      let queued_here : (j : ℕ) (chair : Chair) (r : Runnable) → slice_get s'.seats.items j ≡ Some chair → Contains (queued chair) r → IsGenuine s'.tasks.items r = λ j chair r at has.
      let old = queue_back s.seats.items s'.seats.items j chair queues at in
      genuine_still t s s' slot slot' it r (whole.queued_here j old.0 r old.1 (subst (λ (q : Queue Runnable). Contains (q.values ++ q.held) r) old.2 has)) in
      let queued_there : (r : Runnable) → Contains s.global.values r → IsGenuine s'.tasks.items r = λ r has. genuine_still t s s' slot slot' it r (whole.queued_there r has) in
      let places : s.global.closed ≡ false → length s'.tasks.items ≤ s.global.places = λ open_still. subst (λ n. n ≤ s.global.places) (sym many) (whole.places open_still) in
      let made : (t : ℕ) → length s'.tasks.items ≤ t → (x.runnables t + stock t (dealt_in s s') ≡ 0) × (x.polls t ≡ 0) =
      λ u more. let old = whole.made u (subst (λ n. n ≤ u) many more) in (ap (λ n. x.runnables u + n) (stocks u) ∙ old.0, old.1) in
      let unclaimed : (j : ℕ) → length s'.seats.items ≤ j → x.claims j ≡ 0 = λ j more. whole.unclaimed j (subst (λ n. n ≤ j) (length_same s.seats.items s'.seats.items queues) more) in
      let in_pool : (j : ℕ) (chair : Chair) → slice_get s'.seats.items j ≡ Some chair → chair.pool ≡ nat_lt j s.config.workers = λ j chair at. let old = gates.back j chair at in old.2.pool ∙ whole.in_pool j old.0 old.1 in
      let pool : IsPool (duties_of x) s'.tasks.items s.set s'.seats.items = pool_seats (duties_of x) s'.tasks.items s.set s.seats.items s'.seats.items gates
      (pool_slot t i (duties_of x) (duties_of x) s.tasks.items s'.tasks.items s.set s.seats.items slot slot' it.there it.items
      (record {
        home = it.home;
        cleared = λ home. it.cleared;
        over = λ home over. ap (λ (c : TaskCell B). is_complete c.phase) it.cell ∙ over;
        clears = λ u. refl;
        polls_beside = λ j other. refl;
        drops_beside = λ j other. refl;
        polls_others = λ u other is. is;
        polls = λ home polled.
            subst (λ j. IsBefore j s.seats.items × (x.polled_by j ≡ Some t)) (sym it.poller) (whole.pool.who_polls t slot it.there home (ap (λ (c : TaskCell B). is_polled c.phase) (sym it.cell) ∙ polled));
        clears_next = refl;
        removes_next = λ u is. inl is;
      }) whole.pool) in
      assumption (runnables, polls_so, claims, queued_here, queued_there, places, made, unclaimed, in_pool, pool, lines, holds, whole)

  pub whole_dealt : (t : ℕ) (w w' : Worker) (s s' : Shared B) (slot slot' : TaskSlot B) (others : Profile) → Deals t w w' s s' slot slot' → Holds (with_worker others w) s' → IsWhole (with_worker others w) s → IsWhole (with_worker others w') s'
  whole_dealt t w w' s s' slot slot' others deals holds whole =
      let x = with_worker others w in
      let same : s' ≡ dealt_in s s' = deals.kept ∙ ap (λ (z : Shared B). dealt_in s (record s' { opens = z.opens; store = z.store })) (sym deals.kept) in
      let lines = subst (λ (z : Shared B). HaveGates x.drops_by z.opens s'.requests.items) (sym deals.kept) (gates_kept s.requests.items s'.requests.items deals.lines x.drops_by s.opens whole.gates) in
      subst (λ x. IsWhole x s') (sym (profile_same others w w' deals.profile)) (subst (IsWhole x) (sym same)
      (whole_handled t w.index s s' slot slot' x deals.handles deals.gates deals.queues lines (subst (Holds x) same holds) whole))

  -- and of others
  pub spares_dealt : (t i : ℕ) (s s' : Shared B) (slot slot' : TaskSlot B) → s' ≡ record s { tasks = s'.tasks; requests = s'.requests; sleepers = s'.sleepers; seats = s'.seats } → Handles t s s' slot slot' → slot.poller ≡ i → ((j : ℕ) → slot.home ≡ Some j → j ≡ i)
      → AreHome s.config.workers (length s.seats.items) s.tasks.items → Touches s (record s { requests = s'.requests; sleepers = s'.sleepers }) → SparesSeats i s.seats.items s'.seats.items → (j : ℕ) → j ≢ i → Spares j s s'
  spares_dealt t i s s' slot slot' kept it poller home homes touches seats j other =
      let keeps : Keeps slot slot' = record { home = it.home; number = ap (λ (c : TaskCell B). c.number) it.cell; owner = ap (λ (c : TaskCell B). c.owner) it.cell } in
      let a : Spares j s (record s { requests = s'.requests; sleepers = s'.sleepers }) = spares_touched s (record s { requests = s'.requests; sleepers = s'.sleepers }) touches j in
      let b : Spares j s (record s { tasks = s'.tasks }) = spares_slot i j t s s' slot slot' other it.there it.items keeps (λ is. other (home j is)) (λ polled mine. absurd (other (sym mine ∙ poller))) homes in
      let done : Spares j s (record s { tasks = s'.tasks; requests = s'.requests; sleepers = s'.sleepers; seats = s'.seats }) = grind arith in
      subst (Spares j s) (sym kept) done

  pub beside_dealt : (t : ℕ) (w w' : Worker) (s s' : Shared B) (slot slot' : TaskSlot B) → Deals t w w' s s' slot slot' → slot.poller ≡ w.index → ((j : ℕ) → slot.home ≡ Some j → j ≡ w.index) → AreHome s.config.workers (length s.seats.items) s.tasks.items
      → Touches s (record s { requests = s'.requests; sleepers = s'.sleepers }) → SparesSeats w.index s.seats.items s'.seats.items → ((others : Profile) → Holds (with_worker others w) s → Holds (with_worker others w) s') → Beside w s w' s'
  beside_dealt t w w' s s' slot slot' deals poller home homes touches seats holds =
      record {
        spares = spares_dealt t w.index s s' slot slot' deals.kept deals.handles poller home homes touches seats;
        whole = λ others whole. whole_dealt t w w' s s' slot slot' others deals (holds others whole.holding) whole;
      }
