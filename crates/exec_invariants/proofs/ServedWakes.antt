-- What stays of all workers' balances where a request is over within a service.
use Rattle.exec_invariants.{specs.{Holding.{Hands, IsHolding, box_of, holder_of, nap_of, thing_of, Awaits, Box, HasAnswer, Holder, IsForwarded, IsHeldBy, IsOwed, Mail, Nap, Owes, Thing, holdings, mail_in, under_way}, Places.passes_at, Whole.{IsWhole, Profile, hands_of, wakes_with, with_worker}}, proofs.{Words.{◌≡◌, ◌⊎◌, ℕ, ◌+◌, ◌==◌, Bool, true, false, List, ◌++◌, cond, count_by, map, Option, Some, None, if◌then◌else◌, refl, sym, ap, subst, ◌∙◌, arith, inl, inr, slice_get, slice_set, TaskNo, Outcome, tasks_told as tasks_of, Place, Record, Shared, Worker, changed_at, changed_in, same_number, zero, suc, ◌<◌, sum_by, Result, Error, OneShotState, RequestOutput, Subject, by_number, same_Some, set_elsewhere, set_there, Message, subject}, Showing.map_set, Lined.mapped, ServedEnds.{count_both, count_none, count_one}, Serving.{Balances, SparesRecords, gates_still, hands_served}, ServingHolds.Serves, HoldRedo.holding_redone}}

-- WHAT TASKS HOLD AND ARE OWED

-- one wake more is owed, if any
pub record WakesMore (h h' : Hands) (r : Thing) (i u : ℕ) : Type 0 where
  pub more : h'.wakes i u ≡ h.wakes i u + 1
  pub worker : r.worker ≡ i
  pub waiter : r.waiter ≡ Some u
  pub observed : r.observed ≡ true
  pub unpaid : r.paid ≡ 0
  pub unsent : r.sent ≡ false

module _ (h h' : Hands) (workers : ℕ) (hs : List Holder) (ts : List Thing) (naps : List Nap) (boxes : List Box) (k : ℕ) (r : Thing) (outcome : Outcome)
    (there : slice_get ts k ≡ Some r) (going : r.ended ≡ None) (mail : (m : Mail) → h'.mail m ≡ h.mail m) (wakes : (i u : ℕ) → 0 < h'.wakes i u → (h'.wakes i u ≡ h.wakes i u) ⊎ WakesMore h h' r i u) (old : IsHolding h workers hs ts naps boxes) where
  abbrev pub ended : Thing
  ended = record r { ended = Some outcome }

  now_ended : slice_get (slice_set ts k ended) k ≡ Some ended
  now_ended = set_there ts k ended r there

  never_some : {X : Type 0} {x : X} → None ≡ Some x → ⊥
  never_some h = absurd (cc)

  owes_on : (i u : ℕ) (o : Option Subject) → Owes i u o ts naps boxes → Owes i u o (slice_set ts k ended) naps boxes
  owes_on = grind (arith, by_number, set_elsewhere, same_Some, now_ended)

  -- it owed none before
  none_before : (i u : ℕ) (a : Awaits (subject.Request k) u hs) → r.observed ≡ true → 0 < h.wakes i u → ⊥
  none_before = grind arith

  owed_then : (i u : ℕ) → 0 < h'.wakes i u → (h'.wakes i u ≡ 1) × IsOwed i u hs (slice_set ts k ended) naps boxes
  owed_then i u some =
      elim (wakes i u some) [
        | inl same ↦
            let was = old.owed i u (subst (λ n. 0 < n) same some) in
            (same ∙ was.0, record { it = was.1.it; there = was.1.there; owes = owes_on i u was.1.it.awaits was.1.owes })
        | inr more ↦
            let a = old.waited k r u there more.waiter (inl more.observed) in
            let none : h.wakes i u ≡ 0 = by_zero (h.wakes i u) (λ some. none_before i u a more.observed some) in (
              more.more ∙ ap (λ n. n + 1) none,
              record {
                it = a.it;
                there = a.there;
                owes = subst (λ o. Owes i u o (slice_set ts k ended) naps boxes) (sym a.awaits) (ended, now_ended, record { worker = more.worker; waiter = more.waiter; unpaid = more.unpaid; unsent = more.unsent; over = inl refl });
              },
            )
      ]
    where
      by_zero : (n : ℕ) → (0 < n → ⊥) → n ≡ 0
      by_zero zero h = refl
      by_zero (suc n) h = absurd (h (omega arith))

  answer_on : (o : OneShotState (Result RequestOutput Error)) → HasAnswer o r → HasAnswer o ended
  answer_on = grind arith

  pub holding_ended : IsHolding h' workers hs (slice_set ts k ended) naps boxes
  holding_ended =
      let way : (m : Mail) → under_way h' m boxes ≡ under_way h m boxes = λ m. ap (λ n. n + sum_by (λ box. mail_in m box.messages) boxes) (mail m) in
      holding_redone h h' workers hs hs ts naps boxes None k r ended
      (record {
        thing = there;
        worker = refl;
        others = λ u other. refl;
        homes = λ u is. is;
        holdings_of = λ n other. refl;
        waiters_of = λ n. refl;
        mail = λ m apart. mail m;
        made = λ m some. old.made m (subst (λ n. 0 < n) (mail m) some);
        held = λ box at is. subst (λ n. IsHeldBy box.shut r.observed (holdings k hs) n) (sym (way (Message.Cancel (subject.Request k)))) is;
        forwarded = λ box at is. subst (IsForwarded box.shut r.forwarding) (sym (way (Message.Forward (subject.Request k)))) is;
        asked = old.asked k r there;
        sent = old.sent k r there;
        waited = λ u waiter due. old.waited k r u there waiter due;
        waited_on = λ n u other is. is;
        sleeps_on = λ n u is. is;
        holds = λ u o j x never. absurd (never_some never);
        holds_else = λ u o j x other at at_j is by. record { worker = by.worker; near = by.near; here = by.here; waiter = by.waiter; awaited = by.awaited };
        awaiting = λ u o n never. absurd (never_some never);
        awaiting_else = λ u o other at is by. record { waiter = by.waiter; near = by.near; here = by.here; newest = by.newest; answer = λ sent. answer_on o.output (by.answer sent) };
        asleep = λ u o n never. absurd (never_some never);
        over = λ u o never. absurd (never_some never);
        owed = owed_then;
      })
      old

-- a request that ends: whose it is, and who is woken by that
pub record EndsThing (i : ℕ) (r : Record) (f : Record → Record) (outcome : Outcome) (woken : Option TaskNo) : Type 0 where
  pub thing : thing_of (f r) ≡ record (thing_of r) { ended = Some outcome }
  pub going : (thing_of r).ended ≡ None
  pub worker : r.shown.worker ≡ i
  pub waiter : (u : TaskNo) → woken ≡ Some u → r.shown.waiter ≡ Some u.0
  pub observed : (u : TaskNo) → woken ≡ Some u → r.shown.observed ≡ true
  pub unpaid : (u : TaskNo) → woken ≡ Some u → r.shown.wakes_paid ≡ 0
  pub unsent : (u : TaskNo) → woken ≡ Some u → r.sent ≡ false

module _ {B : Type 0} (q : Place) (w w' : Worker) (s s' : Shared B) (k : ℕ) (r : Record) (f : Record → Record) (outcome : Outcome) (woken : Option TaskNo) (here : w.place ≡ q) (serves : Serves q w w' s s')
    (there : slice_get s.requests.items k ≡ Some r) (records : s'.requests.items ≡ changed_at s.requests.items k f) (naps : map nap_of s'.sleepers.items ≡ map nap_of s.sleepers.items) (ends : EndsThing w.index r f outcome woken)
    (wakes : w'.home.deferred.notes.wakes.items ≡ w.home.deferred.notes.wakes.items ++ tasks_of woken) where
  changed_map : {A : Type 0} (p : Record → A) (rs : List Record) (k : ℕ) (r : Record) (f : Record → Record) → slice_get rs k ≡ Some r → map p (changed_at rs k f) ≡ slice_set (map p rs) k (p (f r))
  changed_map p rs k r f there = ap (λ o. map p (changed_in rs k f o)) there ∙ map_set p rs k (f r)

  things_then : map thing_of s'.requests.items ≡ slice_set (map thing_of s.requests.items) k (record (thing_of r) { ended = Some outcome })
  things_then = ap (map thing_of) records ∙ changed_map thing_of s.requests.items k r f there ∙ ap (slice_set (map thing_of s.requests.items) k) ends.thing

  counted : (u : ℕ) → wakes_with u w' ≡ wakes_with u w + count_by (λ (n : TaskNo). n.0 == u) (tasks_of woken)
  counted u = ap (count_by (λ (n : TaskNo). n.0 == u)) wakes ∙ count_both (λ (n : TaskNo). n.0 == u) w.home.deferred.notes.wakes.items (tasks_of woken)

  abbrev hands_then : Profile → Hands
  hands_then others = record (hands_of (with_worker others w)) { wakes = λ j t. if j == w.index then wakes_with t w' else others.wakes j t }

  more_by : (others : Profile) (i u : ℕ) (b : Bool) → (i == w.index) ≡ b → ((hands_then others).wakes i u ≡ (hands_of (with_worker others w)).wakes i u) ⊎ WakesMore (hands_of (with_worker others w)) (hands_then others) (thing_of r) i u
  more_by others i u false is = inl (ap (λ b. if b then wakes_with u w' else others.wakes i u) is ∙ sym (ap (λ b. if b then wakes_with u w else others.wakes i u) is))
  more_by others i u true is = by woken refl
    where
      now_is : (hands_then others).wakes i u ≡ wakes_with u w'
      now_is = ap (λ b. if b then wakes_with u w' else others.wakes i u) is

      was_is : (hands_of (with_worker others w)).wakes i u ≡ wakes_with u w
      was_is = ap (λ b. if b then wakes_with u w else others.wakes i u) is

      by : (o : Option TaskNo) → woken ≡ o → ((hands_then others).wakes i u ≡ (hands_of (with_worker others w)).wakes i u) ⊎ WakesMore (hands_of (with_worker others w)) (hands_then others) (thing_of r) i u
      by None none =
          inl (omega (arith, now_is, was_is, counted u, ap (λ o. count_by (λ (n : TaskNo). n.0 == u) (tasks_of o)) none ∙ count_none (λ (n : TaskNo). n.0 == u)))
      by (Some v) some = by_same (v.0 == u) refl
        where
          one_of : (b : Bool) → (v.0 == u) ≡ b → count_by (λ (n : TaskNo). n.0 == u) (tasks_of woken) ≡ cond b 1 0
          one_of b same = ap (λ o. count_by (λ (n : TaskNo). n.0 == u) (tasks_of o)) some ∙ count_one (λ (n : TaskNo). n.0 == u) v b same

          by_same : (b : Bool) → (v.0 == u) ≡ b → ((hands_then others).wakes i u ≡ (hands_of (with_worker others w)).wakes i u) ⊎ WakesMore (hands_of (with_worker others w)) (hands_then others) (thing_of r) i u
          by_same false other =
              inl (omega (arith, now_is, was_is, counted u, one_of false other))
          by_same true same =
              inr (record {
                more = omega (arith, now_is, was_is, counted u, one_of true same);
                worker = ends.worker ∙ sym (same_number i w.index is);
                waiter = ends.waiter v some ∙ ap (λ n. Some n) (same_number v.0 u same);
                observed = ends.observed v some;
                unpaid = ends.unpaid v some;
                unsent = ends.unsent v some;
              })

  -- what tasks hold
  pub holding_over : (others : Profile) → IsWhole (with_worker others w) s
      → IsHolding (hands_of (with_worker others w')) s.config.workers (map holder_of s.tasks.items) (map thing_of s'.requests.items) (map nap_of s'.sleepers.items) (map box_of s.seats.items)
  holding_over others whole =
      let h : Hands = hands_of (with_worker others w) in
      subst (λ x. IsHolding x s.config.workers (map holder_of s.tasks.items) (map thing_of s'.requests.items) (map nap_of s'.sleepers.items) (map box_of s.seats.items)) (sym (hands_served q w w' s s' serves others))
      (subst (λ xs. IsHolding (hands_then others) s.config.workers (map holder_of s.tasks.items) xs (map nap_of s'.sleepers.items) (map box_of s.seats.items)) (sym things_then)
      (subst (λ ys. IsHolding (hands_then others) s.config.workers (map holder_of s.tasks.items) (slice_set (map thing_of s.requests.items) k (record (thing_of r) { ended = Some outcome })) ys (map box_of s.seats.items)) (sym naps)
      (holding_ended h (hands_then others) s.config.workers (map holder_of s.tasks.items) (map thing_of s.requests.items) (map nap_of s.sleepers.items) (map box_of s.seats.items) k (thing_of r) outcome (mapped thing_of s.requests.items k r there) ends.going
      (λ m. refl) (λ i u some. more_by others i u (i == w.index) refl) whole.holding)))

  -- where no permit is given up
  pub balances_ended : SparesRecords w.index s s' → passes_at w'.place ≡ passes_at q → Balances w w' s s'
  balances_ended spares passes = record { gates = gates_still q w w' s s' here serves spares passes; holding = holding_over }
