-- What holds of the task set and of the mailboxes of all stays, where seats, tasks, the set or what a worker does change.
use Rattle.exec_invariants.{specs.{Drained.{Duties, HaveLeft, IsBefore, IsHeldOnce, IsOver, IsPool, in_set}, Places.{Drops, drops_at, is_number}, Spares.SparesChair, Whole.{Profile, duties_of, with_worker}}, proofs.{Words.{◌≡◌, ◌≢◌, ◌⊎◌, inl, inr, ⊎_elim, ℕ, zero, suc, ◌+◌, ◌<◌, ◌==◌, Bool, true, false, List, Option, Some, None, refl, sym, ap, subst, ◌∙◌, arith, slice_get, slice_set, if◌then◌else◌, false≢true, eq-eqb, is_polled, Set, polls_at, Chair, TaskSlot, Worker, IsMailbox, is_complete, by_number, false_from_ne_true, not_same, same_number, same_Some, set_elsewhere, set_there, ◌≤◌}, HoldRedo.{set_on, set_back}}}

-- SEATS show the same of the shutdown, and hold one message at most

pub record KeepsGate (chair chair' : Chair) : Type 0 where
  pub left : chair'.left ≡ chair.left
  pub pool : chair'.pool ≡ chair.pool
  pub closed : chair'.mailbox.inbox.closed ≡ chair.mailbox.inbox.closed
  pub mail : IsMailbox chair.mailbox → IsMailbox chair'.mailbox

pub record KeepsGates (seats seats' : List Chair) : Type 0 where
  pub on : (j : ℕ) (chair : Chair) → slice_get seats j ≡ Some chair → (chair' : Chair) × (slice_get seats' j ≡ Some chair') × KeepsGate chair chair'
  pub back : (j : ℕ) (chair' : Chair) → slice_get seats' j ≡ Some chair' → (chair : Chair) × (slice_get seats j ≡ Some chair) × KeepsGate chair chair'

pub gate_same : (chair : Chair) → KeepsGate chair chair
gate_same chair = record { left = refl; pool = refl; closed = refl; mail = λ h. h }

pub gate_spared : (chair chair' : Chair) → SparesChair chair chair' → KeepsGate chair chair'
gate_spared chair chair' spares = record { left = spares.left; pool = spares.pool; closed = spares.closed; mail = spares.mail }

pub gates_same : (seats seats' : List Chair) → seats' ≡ seats → KeepsGates seats seats'
gates_same seats seats' same =
    subst (KeepsGates seats) (sym same) (record { on = λ j chair at. (chair, at, gate_same chair); back = λ j chair at. (chair, at, gate_same chair) })

pub gates_set : (i : ℕ) (seats seats' : List Chair) (chair chair' : Chair) → seats' ≡ slice_set seats i chair' → slice_get seats i ≡ Some chair → KeepsGate chair chair' → KeepsGates seats seats'
gates_set i seats seats' chair chair' set there keeps =
    record { on = set_on (λ n. KeepsGate) seats seats' i chair chair' there set keeps (λ n. gate_same); back = set_back (λ n. KeepsGate) seats seats' i chair chair' there set keeps (λ n. gate_same) }

pub before_kept : (j : ℕ) (seats seats' : List Chair) → KeepsGates seats seats' → IsBefore j seats → IsBefore j seats'
before_kept = grind arith

pub left_kept : (seats seats' : List Chair) → KeepsGates seats seats' → HaveLeft seats → HaveLeft seats'
left_kept = grind arith

-- WHAT A WORKER DOES is as before

pub chosen_own : {A : Type 0} (i : ℕ) (a b : A) → (if i == i then a else b) ≡ a
chosen_own i a b = ap (λ c. if c then a else b) (eq-eqb i i refl)

pub chosen_other : {A : Type 0} (j i : ℕ) (a b : A) → j ≢ i → (if j == i then a else b) ≡ b
chosen_other j i a b other = ap (λ c. if c then a else b) (not_same j i other)

-- a number that is there, or isn't
pub number_is : (o : Option ℕ) (t : ℕ) → is_number o t ≡ true → o ≡ Some t
number_is None t h = absurd (false≢true h)
number_is (Some n) t h = ap (λ k. Some k) (same_number n t h)

pub is_its : (o : Option ℕ) (t : ℕ) → o ≡ Some t → is_number o t ≡ true
is_its o t is = ap (λ y. is_number y t) is ∙ eq-eqb t t refl

pub unremoved : (o : Option ℕ) → o ≡ None → (u : ℕ) → o ≡ Some u → ⊥
unremoved o none u is = let never : None ≡ Some u = sym none ∙ is in cc

pub duties_same : (others : Profile) (w w' : Worker) → w'.index ≡ w.index → polls_at w'.place ≡ polls_at w.place → drops_at w'.place ≡ drops_at w.place → duties_of (with_worker others w') ≡ duties_of (with_worker others w)
duties_same = grind arith

pub drops_same : (others : Profile) (w w' : Worker) → w'.index ≡ w.index → drops_at w'.place ≡ drops_at w.place → (with_worker others w').drops_by ≡ (with_worker others w).drops_by
drops_same others w w' index drops =
    ap (λ i. λ (j : ℕ). if j == i then drops_at w'.place else others.drops_by j) index ∙ ap (λ (d : Drops). λ (j : ℕ). if j == w.index then d else others.drops_by j) drops

module _ {B : Type 0} where
  pub pool_of : (others : Profile) (w w' : Worker) (tasks : List (TaskSlot B)) (set : Set (Unit {0})) (seats : List Chair) → w'.index ≡ w.index → polls_at w'.place ≡ polls_at w.place → drops_at w'.place ≡ drops_at w.place
      → IsPool (duties_of (with_worker others w)) tasks set seats → IsPool (duties_of (with_worker others w')) tasks set seats
  pool_of others w w' tasks set seats index polls drops pool = subst (λ d. IsPool d tasks set seats) (sym (duties_same others w w' index polls drops)) pool

  -- SEATS alone change
  pub pool_seats : (d : Duties) (tasks : List (TaskSlot B)) (set : Set (Unit {0})) (seats seats' : List Chair) → KeepsGates seats seats' → IsPool d tasks set seats → IsPool d tasks set seats'
  pool_seats d tasks set seats seats' keeps pool =
      let who_polls : (t : ℕ) (slot : TaskSlot B) → slice_get tasks t ≡ Some slot → slot.home ≡ None → is_polled slot.cell.phase ≡ true → IsBefore slot.poller seats' × (d.polled_by slot.poller ≡ Some t) = λ t slot there home polled.
      let it = pool.who_polls t slot there home polled in
      (before_kept slot.poller seats seats' keeps it.0, it.1) in
      let who_clears : (t : ℕ) → 0 < d.clears t → (j : ℕ) × IsBefore j seats' × ((d.drops_by j).clears ≡ Some t) × (set.closed ≡ true) = λ t some.
      let it = pool.who_clears t some in
      (it.0, before_kept it.0 seats seats' keeps it.1, it.2, it.3) in
      let drained : (j : ℕ) (chair : Chair) → slice_get seats' j ≡ Some chair → chair.left ≡ true → (set.closed ≡ true) × ((t : ℕ) → in_set t set ≡ 0) = λ j chair at left.
      let was = keeps.back j chair at in
      pool.drained j was.0 was.1 (sym was.2.left ∙ left) in
      let mail : (j : ℕ) (chair : Chair) → slice_get seats' j ≡ Some chair → IsMailbox chair.mailbox = λ j chair at.
      let was = keeps.back j chair at in
      was.2.mail (pool.mail j was.0 was.1) in
      let shut : (j : ℕ) (chair : Chair) → slice_get seats' j ≡ Some chair → chair.pool ≡ true → chair.mailbox.inbox.closed ≡ true → HaveLeft seats' = λ j chair at of_pool closed.
      let was = keeps.back j chair at in
      left_kept seats seats' keeps (pool.shut j was.0 was.1 (sym was.2.pool ∙ of_pool) (sym was.2.closed ∙ closed)) in
      assumption (who_polls, who_clears, drained, mail, shut, pool)

  -- THE SLOT OF TASK t became this, and worker i may do something else
  pub record Redoes (t i : ℕ) (d d' : Duties) (slot slot' : TaskSlot B) (seats : List Chair) : Type 0 where
    pub home : slot'.home ≡ slot.home
    pub cleared : slot.home ≡ None → slot'.cleared ≡ slot.cleared
    pub over : slot.home ≡ None → is_complete slot.cell.phase ≡ true → is_complete slot'.cell.phase ≡ true
    pub clears : (u : ℕ) → d'.clears u ≡ d.clears u
    pub polls_beside : (j : ℕ) → j ≢ i → d'.polled_by j ≡ d.polled_by j
    pub drops_beside : (j : ℕ) → j ≢ i → d'.drops_by j ≡ d.drops_by j
    pub polls_others : (u : ℕ) → u ≢ t → d.polled_by i ≡ Some u → d'.polled_by i ≡ Some u
    pub polls : slot.home ≡ None → is_polled slot'.cell.phase ≡ true → IsBefore slot'.poller seats × (d'.polled_by slot'.poller ≡ Some t)
    pub clears_next : (d'.drops_by i).clears ≡ (d.drops_by i).clears
    pub removes_next : (u : ℕ) → (d'.drops_by i).removes ≡ Some u → ((d.drops_by i).removes ≡ Some u) ⊎ ((u ≡ t) × (slot.home ≡ None) × (is_complete slot'.cell.phase ≡ true) × (is_complete slot.cell.phase ≡ false))

  -- what is to be known of any such change, as where the task was cleared
  pub record Resets (t i : ℕ) (d d' : Duties) (set : Set (Unit {0})) (slot slot' : TaskSlot B) (seats : List Chair) : Type 0 where
    pub home : slot'.home ≡ slot.home
    pub live : slot.home ≡ None → IsHeldOnce slot (d.clears t + in_set t set) → IsHeldOnce slot' (d'.clears t + in_set t set)
    pub shut : slot.home ≡ None → slot'.cleared ≡ true → set.closed ≡ true
    pub over : slot.home ≡ None → is_complete slot.cell.phase ≡ true → is_complete slot'.cell.phase ≡ true
    pub fewer : (u : ℕ) → d'.clears u ≤ d.clears u
    pub clears_beside : (u : ℕ) → u ≢ t → d'.clears u ≡ d.clears u
    pub polls_beside : (j : ℕ) → j ≢ i → d'.polled_by j ≡ d.polled_by j
    pub drops_beside : (j : ℕ) → j ≢ i → d'.drops_by j ≡ d.drops_by j
    pub polls_others : (u : ℕ) → u ≢ t → d.polled_by i ≡ Some u → d'.polled_by i ≡ Some u
    pub polls : slot.home ≡ None → is_polled slot'.cell.phase ≡ true → IsBefore slot'.poller seats × (d'.polled_by slot'.poller ≡ Some t)
    pub clears_next : (u : ℕ) → 0 < d'.clears u → (d.drops_by i).clears ≡ Some u → (d'.drops_by i).clears ≡ Some u
    pub removes_next : (u : ℕ) → (d'.drops_by i).removes ≡ Some u → ((d.drops_by i).removes ≡ Some u) ⊎ ((u ≡ t) × (slot.home ≡ None) × (is_complete slot'.cell.phase ≡ true) × (is_complete slot.cell.phase ≡ false))

  held_again : (slot slot' : TaskSlot B) (n m : ℕ) → n ≡ m → slot'.cleared ≡ slot.cleared → (is_complete slot.cell.phase ≡ true → is_complete slot'.cell.phase ≡ true) → IsHeldOnce slot n → IsHeldOnce slot' m
  held_again = grind arith

  module _ (t i : ℕ) (d d' : Duties) (tasks tasks' : List (TaskSlot B)) (set : Set (Unit {0})) (seats : List Chair) (slot slot' : TaskSlot B) (there : slice_get tasks t ≡ Some slot) (items : tasks' ≡ slice_set tasks t slot') (resets : Resets t i d d' set slot slot' seats) (pool : IsPool d tasks set seats) where
    now : slice_get tasks' t ≡ Some slot'
    now = ap (λ ts. slice_get ts t) items ∙ set_there tasks t slot' slot there

    on : (u : ℕ) (o : TaskSlot B) → u ≢ t → slice_get tasks u ≡ Some o → slice_get tasks' u ≡ Some o
    on u o other at = ap (λ ts. slice_get ts u) items ∙ set_elsewhere tasks t u slot' other ∙ at

    was : (u : ℕ) (o : TaskSlot B) → u ≢ t → slice_get tasks' u ≡ Some o → slice_get tasks u ≡ Some o
    was u o other at = sym (set_elsewhere tasks t u slot' other) ∙ ap (λ ts. slice_get ts u) (sym items) ∙ at

    is_new : (u : ℕ) (o : TaskSlot B) → u ≡ t → slice_get tasks' u ≡ Some o → slot' ≡ o
    is_new u o same at = same_Some slot' o (sym now ∙ subst (λ m. slice_get tasks' m ≡ Some o) same at)

    is_old : (u : ℕ) (o : TaskSlot B) → u ≡ t → slice_get tasks u ≡ Some o → slot ≡ o
    is_old u o same at = same_Some slot o (sym there ∙ subst (λ m. slice_get tasks m ≡ Some o) same at)

    live : (u : ℕ) (o : TaskSlot B) → slice_get tasks' u ≡ Some o → o.home ≡ None → IsHeldOnce o (d'.clears u + in_set u set)
    live u o at home =
        by_number u t
        (λ other. subst (λ n. IsHeldOnce o (n + in_set u set)) (sym (resets.clears_beside u other)) (pool.live u o (was u o other at) home))
        (λ same.
        let e = is_new u o same at in
        let old_home : slot.home ≡ None = sym resets.home ∙ ap (λ (y : TaskSlot B). y.home) e ∙ home in
        subst (λ m. IsHeldOnce o (d'.clears m + in_set m set)) (sym same)
        (subst (λ (y : TaskSlot B). IsHeldOnce y (d'.clears t + in_set t set)) e
        (resets.live old_home (pool.live t slot there old_home))))

    only : (u : ℕ) → 0 < d'.clears u + in_set u set → (o : TaskSlot B) × (slice_get tasks' u ≡ Some o) × (o.home ≡ None)
    only u some =
        let it = pool.only u (omega (arith, some, resets.fewer u)) in
        by_number u t
        (λ other. (it.0, on u it.0 other it.1, it.2))
        (λ same. (slot', subst (λ m. slice_get tasks' m ≡ Some slot') (sym same) now, resets.home ∙ ap (λ (y : TaskSlot B). y.home) (is_old u it.0 same it.1) ∙ it.2))

    who_polls : (u : ℕ) (o : TaskSlot B) → slice_get tasks' u ≡ Some o → o.home ≡ None → is_polled o.cell.phase ≡ true → IsBefore o.poller seats × (d'.polled_by o.poller ≡ Some u)
    who_polls u o at home polled =
        let beside : u ≢ t → IsBefore o.poller seats × (d'.polled_by o.poller ≡ Some u) = λ other.
        let it = pool.who_polls u o (was u o other at) home polled in (
          it.0,
          by_number o.poller i
              (λ apart. resets.polls_beside o.poller apart ∙ it.1)
              (λ same. subst (λ j. d'.polled_by j ≡ Some u) (sym same) (resets.polls_others u other (subst (λ j. d.polled_by j ≡ Some u) same it.1))),
        ) in
        let here : u ≡ t → IsBefore o.poller seats × (d'.polled_by o.poller ≡ Some u) = λ same.
        let e = is_new u o same at in
        let it = resets.polls (sym resets.home ∙ ap (λ (y : TaskSlot B). y.home) e ∙ home) (ap (λ (y : TaskSlot B). is_polled y.cell.phase) e ∙ polled) in
        subst (λ m. IsBefore o.poller seats × (d'.polled_by o.poller ≡ Some m)) (sym same)
        (subst (λ (y : TaskSlot B). IsBefore y.poller seats × (d'.polled_by y.poller ≡ Some t)) e it) in
        by_number u t beside here

    who_clears : (u : ℕ) → 0 < d'.clears u → (j : ℕ) × IsBefore j seats × ((d'.drops_by j).clears ≡ Some u) × (set.closed ≡ true)
    who_clears u some =
        let it = pool.who_clears u (omega (arith, some, resets.fewer u)) in (
          it.0,
          it.1,
          by_number it.0 i
              (λ apart. ap (λ x. x.clears) (resets.drops_beside it.0 apart) ∙ it.2)
              (λ same. subst (λ j. (d'.drops_by j).clears ≡ Some u) (sym same) (resets.clears_next u some (subst (λ j. (d.drops_by j).clears ≡ Some u) same it.2))),
          it.3,
        )

    clear_shut : (u : ℕ) (o : TaskSlot B) → slice_get tasks' u ≡ Some o → o.home ≡ None → o.cleared ≡ true → set.closed ≡ true
    clear_shut u o at home is =
        by_number u t
        (λ other. pool.clear_shut u o (was u o other at) home is)
        (λ same.
        let e = is_new u o same at in
        resets.shut (sym resets.home ∙ ap (λ (y : TaskSlot B). y.home) e ∙ home) (ap (λ (y : TaskSlot B). y.cleared) e ∙ is))

    over_still : (u : ℕ) → IsOver u tasks → IsOver u tasks'
    over_still u it =
        by_number u t
        (λ other. record { slot = it.slot; there = on u it.slot other it.there; ordinary = it.ordinary; over = it.over })
        (λ same.
        let e = is_old u it.slot same it.there in
        let old_home : slot.home ≡ None = ap (λ (y : TaskSlot B). y.home) e ∙ it.ordinary in
        record {
          slot = slot';
          there = subst (λ m. slice_get tasks' m ≡ Some slot') (sym same) now;
          ordinary = resets.home ∙ old_home;
          over = resets.over old_home (ap (λ (y : TaskSlot B). is_complete y.cell.phase) e ∙ it.over);
        })

    -- one that was live stands in the set, unless that is closed
    stands : slot.home ≡ None → is_complete slot.cell.phase ≡ false → (set.closed ≡ true) ⊎ (in_set t set ≡ 1)
    stands home going = by slot.cleared refl
      where
        by_clears : (n : ℕ) → d.clears t ≡ n → d.clears t + in_set t set ≡ 1 → (set.closed ≡ true) ⊎ (in_set t set ≡ 1)
        by_clears zero is one = inr (omega (arith, is, one))
        by_clears (suc n) is one = inl (pool.who_clears t (omega (arith, is))).3

        by : (b : Bool) → slot.cleared ≡ b → (set.closed ≡ true) ⊎ (in_set t set ≡ 1)
        by true is = inl (pool.clear_shut t slot there home is)
        by false is = by_clears (d.clears t) refl ((pool.live t slot there home).live is going)

    removes : (j u : ℕ) → (d'.drops_by j).removes ≡ Some u → IsOver u tasks' × ((set.closed ≡ true) ⊎ (in_set u set ≡ 1))
    removes j u is =
        by_number j i
        (λ apart. let old = pool.removes j u (sym (ap (λ x. x.removes) (resets.drops_beside j apart)) ∙ is) in (over_still u old.0, old.1))
        (λ same.
        ⊎_elim
        (λ before. let old = pool.removes i u before in (over_still u old.0, old.1))
        (λ ended. (
          record { slot = slot'; there = subst (λ m. slice_get tasks' m ≡ Some slot') (sym ended.0) now; ordinary = resets.home ∙ ended.1; over = ended.2 },
          subst (λ m. (set.closed ≡ true) ⊎ (in_set m set ≡ 1)) (sym ended.0) (stands ended.1 ended.3),
        ))
        (resets.removes_next u (subst (λ k. (d'.drops_by k).removes ≡ Some u) same is)))

    -- nobody else takes it out, as it was going on until then
    mine_and : (k u : ℕ) → (d'.drops_by i).removes ≡ Some u → (d.drops_by k).removes ≡ Some u → i ≡ k
    mine_and k u is other =
        ⊎_elim
        (λ before. pool.alone i k u before other)
        (λ ended.
        let old = (pool.removes k u other).0 in
        absurd (false≢true (sym ended.3 ∙ ap (λ (y : TaskSlot B). is_complete y.cell.phase) (is_old u old.slot ended.0 old.there) ∙ old.over)))
        (resets.removes_next u is)

    alone : (j k u : ℕ) → (d'.drops_by j).removes ≡ Some u → (d'.drops_by k).removes ≡ Some u → j ≡ k
    alone j k u a b =
        let was_so : (m : ℕ) → m ≢ i → (d'.drops_by m).removes ≡ Some u → (d.drops_by m).removes ≡ Some u = λ m apart is. sym (ap (λ x. x.removes) (resets.drops_beside m apart)) ∙ is in
        by_number j i
        (λ j_apart.
        by_number k i
        (λ k_apart. pool.alone j k u (was_so j j_apart a) (was_so k k_apart b))
        (λ k_same. sym (mine_and j u (subst (λ m. (d'.drops_by m).removes ≡ Some u) k_same b) (was_so j j_apart a)) ∙ sym k_same))
        (λ j_same.
        by_number k i
        (λ k_apart. j_same ∙ mine_and k u (subst (λ m. (d'.drops_by m).removes ≡ Some u) j_same a) (was_so k k_apart b))
        (λ k_same. j_same ∙ sym k_same))

    pub pool_reset : IsPool d' tasks' set seats
    pool_reset =
        record { live = live; home = pool.home; only = only; who_polls = who_polls; who_clears = who_clears; clear_shut = clear_shut; removes = removes; alone = alone; drained = pool.drained; mail = pool.mail; shut = pool.shut }

  pub pool_slot : (t i : ℕ) (d d' : Duties) (tasks tasks' : List (TaskSlot B)) (set : Set (Unit {0})) (seats : List Chair) (slot slot' : TaskSlot B) → slice_get tasks t ≡ Some slot → tasks' ≡ slice_set tasks t slot' → Redoes t i d d' slot slot' seats → IsPool d tasks set seats → IsPool d' tasks' set seats
  pool_slot t i d d' tasks tasks' set seats slot slot' there items it pool =
      let live : slot.home ≡ None → IsHeldOnce slot (d.clears t + in_set t set) → IsHeldOnce slot' (d'.clears t + in_set t set) = λ home. held_again slot slot' (d.clears t + in_set t set) (d'.clears t + in_set t set) (ap (λ n. n + in_set t set) (sym (it.clears t))) (it.cleared home) (it.over home) in
      let shut : slot.home ≡ None → slot'.cleared ≡ true → set.closed ≡ true = λ home is. pool.clear_shut t slot there home (sym (it.cleared home) ∙ is) in
      let fewer : (u : ℕ) → d'.clears u ≤ d.clears u = λ u. omega (arith, it.clears u) in
      let clears_beside : (u : ℕ) → u ≢ t → d'.clears u ≡ d.clears u = λ u other. it.clears u in
      let clears_next : (u : ℕ) → 0 < d'.clears u → (d.drops_by i).clears ≡ Some u → (d'.drops_by i).clears ≡ Some u = λ u some is. it.clears_next ∙ is in
      pool_reset t i d d' tasks tasks' set seats slot slot' there items (assumption (live, shut, fewer, clears_beside, clears_next, it)) pool

  -- ONCE ALL HAVE PASSED THE BARRIER, one of them the worker of this chair, each ordinary task is over, as one that is
  -- neither polled nor over isn't cleared
  pub all_over : (d : Duties) (tasks : List (TaskSlot B)) (set : Set (Unit {0})) (seats : List Chair) (i : ℕ) (chair : Chair) → slice_get seats i ≡ Some chair → chair.left ≡ true → HaveLeft seats
      → ((t : ℕ) (slot : TaskSlot B) → slice_get tasks t ≡ Some slot → slot.home ≡ None → is_polled slot.cell.phase ≡ false → is_complete slot.cell.phase ≡ false → slot.cleared ≡ false)
      → IsPool d tasks set seats → (t : ℕ) (slot : TaskSlot B) → slice_get tasks t ≡ Some slot → slot.home ≡ None → is_complete slot.cell.phase ≡ true
  all_over d tasks set seats i chair at left all uncleared pool t slot there home = by (is_complete slot.cell.phase) refl
    where
      gone : (j : ℕ) → IsBefore j seats → ⊥
      gone j it = false≢true (sym it.going ∙ all j it.chair it.there)

      unpolled : is_polled slot.cell.phase ≡ false
      unpolled = false_from_ne_true (is_polled slot.cell.phase) (λ polled. gone slot.poller (pool.who_polls t slot there home polled).0)

      none : (n : ℕ) → d.clears t ≡ n → d.clears t ≡ 0
      none zero is = is
      none (suc n) is = let it = pool.who_clears t (omega (arith, is)) in absurd (gone it.0 it.1)

      by : (b : Bool) → is_complete slot.cell.phase ≡ b → is_complete slot.cell.phase ≡ true
      by true is = is
      by false is =
          absurd (omega (arith, (pool.live t slot there home).live (uncleared t slot there home unpolled is) is, none (d.clears t) refl, (pool.drained i chair at left).1 t))
