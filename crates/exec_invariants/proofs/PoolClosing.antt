-- What holds of the task set and of the mailboxes of all stays, where a closing drains the set, passes the barrier and closes
-- its mailbox.
use Rattle.exec_invariants.{specs.Drained.{Duties, HaveLeft, IsBefore, IsHeldOnce, IsOver, IsPool, has_gone, in_set}, proofs.{Words.{◌≡◌, ◌≢◌, ◌⊎◌, ⊎_elim, inl, inr, ℕ, ◌+◌, ◌<◌, ◌≤◌, true, List, Option, Some, None, refl, sym, ap, subst, ◌∙◌, arith, slice_get, slice_set, false≢true, is_polled, AreAtHome, Set, Chair, TaskSlot, IsMailbox, is_complete, by_number, same_Some, set_elsewhere, set_there}, PoolShards.in_shards, PoolKept.pool_reset}}

module _ {B : Type 0} where
  -- THE SET CHANGES, and who clears: of task t as much, of any other the same
  pub record Recounts (t : ℕ) (d d' : Duties) (tasks : List (TaskSlot B)) (set set' : Set (Unit {0})) (seats : List Chair) : Type 0 where
    pub beside : (u : ℕ) → u ≢ t → d'.clears u + in_set u set' ≡ d.clears u + in_set u set
    pub most : d'.clears t + in_set t set' ≤ d.clears t + in_set t set
    pub live : (slot : TaskSlot B) → slice_get tasks t ≡ Some slot → slot.home ≡ None → IsHeldOnce slot (d.clears t + in_set t set) → IsHeldOnce slot (d'.clears t + in_set t set')
    pub fewer : (u : ℕ) → in_set u set' ≤ in_set u set
    pub closed : set.closed ≡ true → set'.closed ≡ true
    pub home : AreAtHome set.shards → AreAtHome set'.shards
    pub polls : (j : ℕ) → d'.polled_by j ≡ d.polled_by j
    pub clears : (u : ℕ) → 0 < d'.clears u → (j : ℕ) × IsBefore j seats × ((d'.drops_by j).clears ≡ Some u) × (set'.closed ≡ true)
    pub removes : (j u : ℕ) → (d'.drops_by j).removes ≡ Some u → (d.drops_by j).removes ≡ Some u
    pub stands : (j u : ℕ) → (d'.drops_by j).removes ≡ Some u → (set'.closed ≡ true) ⊎ (in_set u set' ≡ in_set u set)

  pub pool_recounted : (t : ℕ) (d d' : Duties) (tasks : List (TaskSlot B)) (set set' : Set (Unit {0})) (seats : List Chair) → Recounts t d d' tasks set set' seats → IsPool d tasks set seats → IsPool d' tasks set' seats
  pool_recounted t d d' tasks set set' seats it pool =
      let none : (m n : ℕ) → m ≤ n → n ≡ 0 → m ≡ 0 = λ m n few is. omega (arith, few, is) in
      let more : (u : ℕ) → 0 < d'.clears u + in_set u set' → 0 < d.clears u + in_set u set = grind arith in
      let live : (t : ℕ) (slot : TaskSlot B) → slice_get tasks t ≡ Some slot → slot.home ≡ None → IsHeldOnce slot (d'.clears t + in_set t set') = λ u slot there home.
      by_number u t
      (λ other. subst (IsHeldOnce slot) (sym (it.beside u other)) (pool.live u slot there home))
      (λ same.
      subst (λ m. IsHeldOnce slot (d'.clears m + in_set m set')) (sym same)
      (it.live slot (subst (λ m. slice_get tasks m ≡ Some slot) same there) home (subst (λ m. IsHeldOnce slot (d.clears m + in_set m set)) same (pool.live u slot there home)))) in
      let only : (t : ℕ) → 0 < d'.clears t + in_set t set' → (slot : TaskSlot B) × (slice_get tasks t ≡ Some slot) × (slot.home ≡ None) = λ u some. pool.only u (more u some) in
      let who_polls : (t : ℕ) (slot : TaskSlot B) → slice_get tasks t ≡ Some slot → slot.home ≡ None → is_polled slot.cell.phase ≡ true → IsBefore slot.poller seats × (d'.polled_by slot.poller ≡ Some t) = λ u slot there home polled.
      let old = pool.who_polls u slot there home polled in
      (old.0, it.polls slot.poller ∙ old.1) in
      let clear_shut : (t : ℕ) (slot : TaskSlot B) → slice_get tasks t ≡ Some slot → slot.home ≡ None → slot.cleared ≡ true → set'.closed ≡ true = λ u slot there home is. it.closed (pool.clear_shut u slot there home is) in
      let removes : (j t : ℕ) → (d'.drops_by j).removes ≡ Some t → IsOver t tasks × ((set'.closed ≡ true) ⊎ (in_set t set' ≡ 1)) = λ j u is.
      let old = pool.removes j u (it.removes j u is) in
      (old.0, ⊎_elim (λ shut. inl shut) (λ same. ⊎_elim (λ shut. inl (it.closed shut)) (λ one. inr (same ∙ one)) old.1) (it.stands j u is)) in
      let alone : (i j t : ℕ) → (d'.drops_by i).removes ≡ Some t → (d'.drops_by j).removes ≡ Some t → i ≡ j = λ i j u a b. pool.alone i j u (it.removes i u a) (it.removes j u b) in
      let drained : (j : ℕ) (chair : Chair) → slice_get seats j ≡ Some chair → chair.left ≡ true → (set'.closed ≡ true) × ((t : ℕ) → in_set t set' ≡ 0) = λ j chair at left.
      let old = pool.drained j chair at left in
      (it.closed old.0, λ u. none (in_set u set') (in_set u set) (it.fewer u) (old.1 u)) in
      assumption (live, it.home pool.home, only, who_polls, it.clears, clear_shut, removes, alone, drained, pool)

  -- the set closes, or stays
  pub pool_set : (d : Duties) (tasks : List (TaskSlot B)) (set set' : Set (Unit {0})) (seats : List Chair) → set'.shards ≡ set.shards → (set.closed ≡ true → set'.closed ≡ true) → IsPool d tasks set seats → IsPool d tasks set' seats
  pool_set d tasks set set' seats shards closed pool =
      let again : (u : ℕ) → in_set u set' ≡ in_set u set = λ u. ap (in_shards u) shards in
      pool_recounted 0 d d tasks set set' seats
      (record {
        beside = λ u other. ap (λ n. d.clears u + n) (again u);
        most = omega (arith, again 0);
        live = λ slot there home old. subst (λ n. IsHeldOnce slot (d.clears 0 + n)) (sym (again 0)) old;
        fewer = λ u. omega (arith, again u);
        closed = closed;
        home = subst AreAtHome (sym shards);
        polls = λ j. refl;
        clears = λ u some. let old = pool.who_clears u some in (old.0, old.1, old.2, closed old.3);
        removes = λ j u is. is;
        stands = λ j u is. inr (again u);
      })
      pool

-- THE SEAT OF WORKER i became this

module _ (i : ℕ) (seats seats' : List Chair) (chair chair' : Chair) (there : slice_get seats i ≡ Some chair) (set : seats' ≡ slice_set seats i chair') where
  seat_on : (j : ℕ) (c : Chair) → j ≢ i → slice_get seats j ≡ Some c → slice_get seats' j ≡ Some c
  seat_on j c other at = ap (λ xs. slice_get xs j) set ∙ set_elsewhere seats i j chair' other ∙ at

  seat_was : (j : ℕ) (c : Chair) → j ≢ i → slice_get seats' j ≡ Some c → slice_get seats j ≡ Some c
  seat_was j c other at = sym (set_elsewhere seats i j chair' other) ∙ ap (λ xs. slice_get xs j) (sym set) ∙ at

  seat_is : (j : ℕ) (c : Chair) → j ≡ i → slice_get seats' j ≡ Some c → chair' ≡ c
  seat_is j c same at =
      same_Some chair' c (sym (set_there seats i chair' chair there) ∙ ap (λ xs. slice_get xs i) (sym set) ∙ subst (λ n. slice_get seats' n ≡ Some c) same at)

  before_on : (j : ℕ) → j ≢ i → IsBefore j seats → IsBefore j seats'
  before_on j other it = record { chair = it.chair; there = seat_on j it.chair other it.there; going = it.going }

  all_on : (has_gone chair ≡ true → has_gone chair' ≡ true) → HaveLeft seats → HaveLeft seats'
  all_on = grind (arith, by_number, seat_was, seat_is)

-- TASK t IS CLEARED by worker i, who took it out of the set
pub record Clears (t i : ℕ) (d d' : Duties) : Type 0 where
  pub one : d.clears t ≡ d'.clears t + 1
  pub others : (u : ℕ) → u ≢ t → d'.clears u ≡ d.clears u
  pub its : (d.drops_by i).clears ≡ Some t
  pub polls : (j : ℕ) → d'.polled_by j ≡ d.polled_by j
  pub drops : (j : ℕ) → j ≢ i → d'.drops_by j ≡ d.drops_by j
  pub removes : (d'.drops_by i).removes ≡ None

module _ {B : Type 0} where
  -- It passes the barrier: it polls nothing and clears nothing, and the closed set is empty.
  pub pool_left : (i : ℕ) (d : Duties) (tasks : List (TaskSlot B)) (set : Set (Unit {0})) (seats seats' : List Chair) (chair : Chair) → slice_get seats i ≡ Some chair → seats' ≡ slice_set seats i (record chair { left = true })
      → d.polled_by i ≡ None → (d.drops_by i).clears ≡ None → set.closed ≡ true → ((t : ℕ) → in_set t set ≡ 0) → IsPool d tasks set seats → IsPool d tasks set seats'
  pool_left i d tasks set seats seats' chair there items polls clears closed empty pool =
      let unless : (o : Option ℕ) (t : ℕ) → o ≡ None → o ≡ Some t → ⊥ = λ o t none some. let never : None ≡ Some t = sym none ∙ some in cc in
      let chair' : Chair = record chair { left = true } in
      let who_polls : (t : ℕ) (slot : TaskSlot B) → slice_get tasks t ≡ Some slot → slot.home ≡ None → is_polled slot.cell.phase ≡ true → IsBefore slot.poller seats' × (d.polled_by slot.poller ≡ Some t) = λ t slot found home polled.
      let it = pool.who_polls t slot found home polled in
      (before_on i seats seats' chair chair' there items slot.poller (λ same. unless (d.polled_by i) t polls (subst (λ j. d.polled_by j ≡ Some t) same it.1)) it.0, it.1) in
      let who_clears : (t : ℕ) → 0 < d.clears t → (j : ℕ) × IsBefore j seats' × ((d.drops_by j).clears ≡ Some t) × (set.closed ≡ true) = λ t some.
      let it = pool.who_clears t some in
      (it.0, before_on i seats seats' chair chair' there items it.0 (λ same. unless (d.drops_by i).clears t clears (subst (λ j. (d.drops_by j).clears ≡ Some t) same it.2)) it.1, it.2, it.3) in
      let drained : (j : ℕ) (chair : Chair) → slice_get seats' j ≡ Some chair → chair.left ≡ true → (set.closed ≡ true) × ((t : ℕ) → in_set t set ≡ 0) = λ j c at left.
      by_number j i
      (λ other. pool.drained j c (seat_was i seats seats' chair chair' there items j c other at) left)
      (λ same. (closed, empty)) in
      let mail : (j : ℕ) (chair : Chair) → slice_get seats' j ≡ Some chair → IsMailbox chair.mailbox = λ j c at.
      by_number j i
      (λ other. pool.mail j c (seat_was i seats seats' chair chair' there items j c other at))
      (λ same. subst (λ (x : Chair). IsMailbox x.mailbox) (seat_is i seats seats' chair chair' there items j c same at) (pool.mail i chair there)) in
      let shut_so : (j : ℕ) (chair : Chair) → slice_get seats' j ≡ Some chair → chair.pool ≡ true → chair.mailbox.inbox.closed ≡ true → HaveLeft seats' = λ j c at of_pool shut.
      all_on i seats seats' chair chair' there items (λ h. refl)
      (by_number j i
      (λ other. pool.shut j c (seat_was i seats seats' chair chair' there items j c other at) of_pool shut)
      (λ same.
      let is : chair' ≡ c = seat_is i seats seats' chair chair' there items j c same at in
      pool.shut i chair there (ap (λ (x : Chair). x.pool) is ∙ of_pool) (ap (λ (x : Chair). x.mailbox.inbox.closed) is ∙ shut))) in
      assumption (who_polls, who_clears, drained, mail, shut_so, pool)

  -- Its mailbox is closed once all have passed.
  pub pool_shut : (i : ℕ) (d : Duties) (tasks : List (TaskSlot B)) (set : Set (Unit {0})) (seats seats' : List Chair) (chair chair' : Chair) → slice_get seats i ≡ Some chair → seats' ≡ slice_set seats i chair'
      → chair'.left ≡ chair.left → chair'.pool ≡ chair.pool → IsMailbox chair'.mailbox → (chair.pool ≡ true → HaveLeft seats) → IsPool d tasks set seats → IsPool d tasks set seats'
  pool_shut i d tasks set seats seats' chair chair' there items left pool_same mail all pool =
      let gone : has_gone chair' ≡ has_gone chair = rw (left, pool_same) refl in
      -- who hasn't passed the barrier still hasn't
      let before : (j : ℕ) → IsBefore j seats → IsBefore j seats' = grind (arith, by_number, before_on, same_Some, set_there) in
      let who_polls : (t : ℕ) (slot : TaskSlot B) → slice_get tasks t ≡ Some slot → slot.home ≡ None → is_polled slot.cell.phase ≡ true → IsBefore slot.poller seats' × (d.polled_by slot.poller ≡ Some t) =
      λ t slot found home polled. let it = pool.who_polls t slot found home polled in (before slot.poller it.0, it.1) in
      let who_clears : (t : ℕ) → 0 < d.clears t → (j : ℕ) × IsBefore j seats' × ((d.drops_by j).clears ≡ Some t) × (set.closed ≡ true) = λ t some. let it = pool.who_clears t some in (it.0, before it.0 it.1, it.2, it.3) in
      let drained : (j : ℕ) (chair : Chair) → slice_get seats' j ≡ Some chair → chair.left ≡ true → (set.closed ≡ true) × ((t : ℕ) → in_set t set ≡ 0) = λ j c at has_left.
      by_number j i
      (λ other. pool.drained j c (seat_was i seats seats' chair chair' there items j c other at) has_left)
      (λ same. pool.drained i chair there (sym left ∙ ap (λ (x : Chair). x.left) (seat_is i seats seats' chair chair' there items j c same at) ∙ has_left)) in
      let mail_so : (j : ℕ) (chair : Chair) → slice_get seats' j ≡ Some chair → IsMailbox chair.mailbox = λ j c at.
      by_number j i
      (λ other. pool.mail j c (seat_was i seats seats' chair chair' there items j c other at))
      (λ same. subst (λ (x : Chair). IsMailbox x.mailbox) (seat_is i seats seats' chair chair' there items j c same at) mail) in
      let shut_so : (j : ℕ) (chair : Chair) → slice_get seats' j ≡ Some chair → chair.pool ≡ true → chair.mailbox.inbox.closed ≡ true → HaveLeft seats' = λ j c at of_pool shut.
      all_on i seats seats' chair chair' there items (λ h. gone ∙ h)
      (by_number j i
      (λ other. pool.shut j c (seat_was i seats seats' chair chair' there items j c other at) of_pool shut)
      (λ same. all (sym pool_same ∙ ap (λ (x : Chair). x.pool) (seat_is i seats seats' chair chair' there items j c same at) ∙ of_pool))) in
      assumption (who_polls, who_clears, drained, mail_so, shut_so, pool)

  pub record IsCleared (slot slot' : TaskSlot B) : Type 0 where
    pub home : slot'.home ≡ slot.home
    pub poller : slot'.poller ≡ slot.poller
    pub cleared : slot'.cleared ≡ true
    pub polled : is_polled slot'.cell.phase ≡ is_polled slot.cell.phase
    pub over : is_complete slot.cell.phase ≡ true → is_complete slot'.cell.phase ≡ true

  pub pool_cleared : (t i : ℕ) (d d' : Duties) (tasks tasks' : List (TaskSlot B)) (set : Set (Unit {0})) (seats : List Chair) (slot slot' : TaskSlot B) → slice_get tasks t ≡ Some slot → slot.home ≡ None → tasks' ≡ slice_set tasks t slot' → Clears t i d d' → IsCleared slot slot' → IsPool d tasks set seats → IsPool d' tasks' set seats
  pool_cleared t i d d' tasks tasks' set seats slot slot' there ordinary items duties cleared pool =
      -- it stood nowhere else
      let none : d'.clears t + in_set t set ≡ 0 = let few = (pool.live t slot there ordinary).most in omega (arith, few, duties.one) in
      pool_reset t i d d' tasks tasks' set seats slot slot' there items (record {
        home = cleared.home;
        live = λ home old. record { most = omega (arith, none); cleared = λ h. none; live = λ h. absurd (false≢true (sym h ∙ cleared.cleared)) };
        shut = λ home is. (pool.who_clears t (omega (arith, duties.one))).3;
        over = λ home. cleared.over;
        fewer = λ u. by_number u t (λ other. omega (arith, duties.others u other)) (λ same. rw same (omega (arith, duties.one)));
        clears_beside = duties.others;
        polls_beside = λ j other. duties.polls j;
        drops_beside = duties.drops;
        polls_others = λ u other is. duties.polls i ∙ is;
        polls = λ home polled.
            let it = pool.who_polls t slot there home (sym cleared.polled ∙ polled) in
            (subst (λ j. IsBefore j seats) (sym cleared.poller) it.0, ap d'.polled_by cleared.poller ∙ duties.polls slot.poller ∙ it.1);
        clears_next = λ u some is. absurd (omega (arith, none, subst (λ m. 0 < d'.clears m) (same_Some u t (sym is ∙ duties.its)) some));
        -- it takes out none
        removes_next = λ u is. absurd (let never : None ≡ Some u = sym duties.removes ∙ is in cc);
      }) pool
