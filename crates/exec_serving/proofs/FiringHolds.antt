-- A sleeper fires: what tasks hold, and what stays of all workers' balances.
use Rattle.std.proofs.{Common.{rules, ◌≡◌, ◌⊎◌, ℕ, zero, suc, ◌+◌, ◌<◌, ◌≤◌, ◌==◌, ◌||◌, Bool, true, false, cond, List, ◌++◌, count_by, map, sum_by, Some, if◌then◌else◌, refl, sym, ap, subst, ◌∙◌, arith, inl, inr, slice_get, slice_set}, lemmas.Bool.false≢true}
use Rattle.exec_base.specs.declared.task_no.TaskNo.{TaskNo}
use Rattle.exec_time.specs.{Sleepers.wakes_of, declared.timers.Observer.{Observer as Watching, Observer as sleep}}
use Rattle.exec_words.specs.declared.inbox.Message.{Message}
use Rattle.exec_machine.specs.Tests.{is_unsent}
use Rattle.exec_moves.specs.declared.place.Place.{Place}
use Rattle.exec_parts.{specs.declared.parts.{mail.{Reply.Reply, Subject.Subject as subject}, shared.Shared.Shared, sleeping.SleeperRecord.SleeperRecord, worker.Worker.Worker}, proofs.Facts.{same_number, same_Some, set_there}}
use Rattle.exec_invariants.{proofs.{Showing.map_set, Fired.fires, HoldSleeps.nap_redone, Lined.mapped, ServedEnds.{count_both, count_none, count_one}, Serving.{Balances, SparesRecords, gates_still, hands_served}, ServingHolds.Serves}, specs.{Holding.{Awaits, Box, Hands, Holder, IsHolding, IsOwed, Mail, Nap, Owes, Thing, box_of, holder_of, IsForwarded, mail_in, nap_of, thing_of, under_way, waiters}, Places.passes_at, Whole.{Profile, hands_of, wakes_with, with_worker}}}

-- WHAT TASKS HOLD AND ARE OWED

-- one wake more is owed
pub record WakesNap (h h' : Hands) (z : Nap) (i u : ℕ) : Type 0 where
  pub more : h'.wakes i u ≡ h.wakes i u + 1
  pub worker : z.worker ≡ i
  pub task : z.task ≡ u

module _ (h h' : Hands) (workers : ℕ) (hs : List Holder) (ts : List Thing) (naps : List Nap) (boxes : List Box) (n : ℕ) (z : Nap) (there : slice_get naps n ≡ Some z) (unfired : z.fired ≡ false) (unremoved : z.removed ≡ false) (unpaid : z.paid ≡ 0) (unsent : z.sent ≡ false)
    (mail : (m : Mail) → h'.mail m ≡ h.mail m) (wakes : (i u : ℕ) → 0 < h'.wakes i u → (h'.wakes i u ≡ h.wakes i u) ⊎ WakesNap h h' z i u) (old : IsHolding h workers hs ts naps boxes) where
  abbrev pub fired_nap : Nap
  fired_nap = record z { fired = true }

  -- its task waits for it
  waits : Awaits (subject.Timer n) z.task hs
  waits = old.sleeps n z there unfired unremoved

  asleep : (z.fired || z.removed) ≡ true → ⊥
  asleep over = false≢true (sym (ap (λ b. b || z.removed) unfired ∙ unremoved) ∙ over)

  -- and was owed no wake
  none_before : (i : ℕ) → 0 < h.wakes i z.task → ⊥
  none_before = grind (arith, waits, same_Some, asleep)

  by_zero : (m : ℕ) → (0 < m → ⊥) → m ≡ 0
  by_zero zero never = refl
  by_zero (suc m) never = absurd (never (omega arith))

  fewer : (i u : ℕ) → 0 < h'.wakes i u → (h'.wakes i u ≡ h.wakes i u) ⊎ ((h'.wakes i u ≡ 1) × IsOwed i u hs ts (slice_set naps n (record z { fired = true })) boxes)
  fewer i u some =
      elim (wakes i u some) [
        | inl same ↦ inl same
        | inr more ↦
            inr (
              more.more ∙ ap (λ m. m + 1) (ap (h.wakes i) (sym more.task) ∙ by_zero (h.wakes i z.task) (none_before i)),
              let owes = subst (λ o. Owes i u o ts (slice_set naps n fired_nap) boxes) (sym waits.awaits) (fired_nap, set_there naps n fired_nap z there, record { worker = more.worker; task = more.task; unpaid = unpaid; unsent = unsent; over = refl }) in
                  search (ap (slice_get hs) (sym more.task) ∙ waits.there, owes),
            )
      ]

  way : (m : Mail) → under_way h' m boxes ≡ under_way h m boxes
  way m = ap (λ a. a + sum_by (λ box. mail_in m box.messages) boxes) (mail m)

  pub holding_fired : IsHolding h' workers hs ts (slice_set naps n (record z { fired = true })) boxes
  holding_fired =
      nap_redone h h' workers hs ts naps boxes n z fired_nap
      (record {
        nap = there;
        worker = refl;
        task = refl;
        mail = λ m past. mail m;
        made = λ m some. old.made m (subst (λ a. 0 < a) (mail m) some);
        sleeps = λ at kept. absurd (false≢true (sym at));
        let_go = λ box at unshut is. subst (λ a. waiters (subject.Timer n) hs + a ≤ 1) (sym (way (Message.Cancel (subject.Timer n)))) is;
        woken = λ box at is. subst (λ a. IsForwarded box.shut z.forwarding a) (sym (way (Message.Forward (subject.Timer n)))) is;
        asked = λ sent. old.asked_too n z there sent;
        be = λ closed. old.let_be n z there closed;
        sent = λ sent. ((old.sent_too n z there sent).0, refl);
        here = λ t it at awaits home.
            let a = old.asleep t it n at awaits in
            ap (λ (x : Nap). is_unsent x.forwarding) (sym (same_Some a.0 z (sym a.1 ∙ there))) ∙ a.2.here home;
        kept = λ t it at awaits going kept. kept;
        fewer = fewer;
        owes = λ i t some by. record { worker = by.worker; task = by.task; unpaid = by.unpaid; unsent = by.unsent; over = refl };
      })
      old

-- THE BALANCES

module _ {B : Type 0} (q : Place) (w w' : Worker) (s s' : Shared B) (k : ℕ) (z : SleeperRecord) (o : Watching Reply) (here : w.place ≡ q) (serves : Serves q w w' s s') (spares : SparesRecords w.index s s') (passes : passes_at w'.place ≡ passes_at q)
    (there : slice_get s.sleepers.items k ≡ Some z) (mine : z.shown.worker ≡ w.index) (unfired : z.shown.fired ≡ false) (unremoved : z.shown.removed ≡ false) (unclosed : z.closed ≡ false) (unpaid : z.shown.wakes_paid ≡ 0) (unsent : z.sent ≡ false)
    (records : s'.requests.items ≡ s.requests.items) (sleepers : s'.sleepers.items ≡ slice_set s.sleepers.items k (fires z)) (task : (t : TaskNo) → o ≡ sleep.Local t → t ≡ record { 0 = z.shown.task }) (wakes : w'.home.deferred.notes.wakes.items ≡ w.home.deferred.notes.wakes.items ++ wakes_of o) where
  naps_then : map nap_of s'.sleepers.items ≡ slice_set (map nap_of s.sleepers.items) k (record (nap_of z) { fired = true })
  naps_then = ap (map nap_of) sleepers ∙ map_set nap_of s.sleepers.items k (fires z)

  counted : (u : ℕ) → wakes_with u w' ≡ wakes_with u w + count_by (λ (n : TaskNo). n.0 == u) (wakes_of o)
  counted u = ap (count_by (λ (n : TaskNo). n.0 == u)) wakes ∙ count_both (λ (n : TaskNo). n.0 == u) w.home.deferred.notes.wakes.items (wakes_of o)

  abbrev hands_then : Profile → Hands
  hands_then others = record (hands_of (with_worker others w)) { wakes = λ j t. if j == w.index then wakes_with t w' else others.wakes j t }

  more_by : (others : Profile) (i u : ℕ) (b : Bool) → (i == w.index) ≡ b → ((hands_then others).wakes i u ≡ (hands_of (with_worker others w)).wakes i u) ⊎ WakesNap (hands_of (with_worker others w)) (hands_then others) (nap_of z) i u
  more_by others i u false is = inl (ap (λ b. if b then wakes_with u w' else others.wakes i u) is ∙ sym (ap (λ b. if b then wakes_with u w else others.wakes i u) is))
  more_by others i u true is = by o refl
    where
      now_is : (hands_then others).wakes i u ≡ wakes_with u w'
      now_is = ap (λ b. if b then wakes_with u w' else others.wakes i u) is

      was_is : (hands_of (with_worker others w)).wakes i u ≡ wakes_with u w
      was_is = ap (λ b. if b then wakes_with u w else others.wakes i u) is

      by : (x : Watching Reply) → o ≡ x → ((hands_then others).wakes i u ≡ (hands_of (with_worker others w)).wakes i u) ⊎ WakesNap (hands_of (with_worker others w)) (hands_then others) (nap_of z) i u
      by (sleep.Forwarded reply) some =
          let zero_of : count_by (λ (n : TaskNo). n.0 == u) (wakes_of o) ≡ 0 = ap (λ x. count_by (λ (n : TaskNo). n.0 == u) (wakes_of x)) some ∙ count_none (λ (n : TaskNo). n.0 == u) in
          inl (omega (arith, now_is, was_is, counted u, zero_of))
      by (sleep.Local v) some = by_same (v.0 == u) refl
        where
          one_of : (b : Bool) → (v.0 == u) ≡ b → count_by (λ (n : TaskNo). n.0 == u) (wakes_of o) ≡ cond b 1 0
          one_of b same = ap (λ x. count_by (λ (n : TaskNo). n.0 == u) (wakes_of x)) some ∙ count_one (λ (n : TaskNo). n.0 == u) v b same

          by_same : (b : Bool) → (v.0 == u) ≡ b → ((hands_then others).wakes i u ≡ (hands_of (with_worker others w)).wakes i u) ⊎ WakesNap (hands_of (with_worker others w)) (hands_then others) (nap_of z) i u
          by_same false other =
              inl (omega (arith, now_is, was_is, counted u, one_of false other))
          by_same true same =
              inr (search (rules, mine ∙ sym (same_number i w.index is), sym (ap (λ (t : TaskNo). t.0) (task v some)) ∙ same_number v.0 u same, counted u))

  pub balances_fired : Balances w w' s s'
  balances_fired =
      record {
        gates = gates_still q w w' s s' here serves spares passes;
        holding = λ others whole.
            let h : Hands = hands_of (with_worker others w) in
            subst (λ x. IsHolding x s.config.workers (map holder_of s.tasks.items) (map thing_of s'.requests.items) (map nap_of s'.sleepers.items) (map box_of s.seats.items)) (sym (hands_served q w w' s s' serves others))
            (subst (λ rs. IsHolding (hands_then others) s.config.workers (map holder_of s.tasks.items) (map thing_of rs) (map nap_of s'.sleepers.items) (map box_of s.seats.items)) (sym records)
            (subst (λ ys. IsHolding (hands_then others) s.config.workers (map holder_of s.tasks.items) (map thing_of s.requests.items) ys (map box_of s.seats.items)) (sym naps_then)
            (holding_fired h (hands_then others) s.config.workers (map holder_of s.tasks.items) (map thing_of s.requests.items) (map nap_of s.sleepers.items) (map box_of s.seats.items) k (nap_of z) (mapped nap_of s.sleepers.items k z there) unfired (ap (λ b. b || z.closed) unremoved ∙ unclosed) unpaid unsent
            (λ m. refl) (λ i u some. more_by others i u (i == w.index) refl) whole.holding)));
      }
