-- The look: a turn begins anew for what is in the global queue, a scan for what can be stolen; and else the worker comes to its wait.
use Rattle.std.{proofs.{Common.{◌≡◌, ℕ, suc, ◌+◌, ◌≤◌, ◌<◌, ◌==◌, Bool, true, not, ◌&&◌, ◌||◌, List, [], ◌∷◌, refl, sym, ap, subst, arith, inl, inr}, lemmas.{Bool.{and_from, and_parts, eqb-true, eq-eqb, ltb-true, or_cases}, List.set-get_or}}, specs.Prelude.nat_lt}
use Rattle.exec_words.specs.{declared.head.Head.Head, Head.is_stealable_at, Queue.{head_of, tail_of}}
use Rattle.exec_machine.specs.{declared.{config.Configuration.Configuration, event.Event.TheVariants.Turn}, Choice.Choice.Plain, Tests.is_empty, World.{Common, Own as Books}}
use Rattle.exec_moves.specs.{declared.{idling.{AfterWait.AfterWait, InLook.InLook, InScan.InScan}, place.Place.Place}, Callback.is_of_pool, Counts.one_if, Global.{one_count_less, one_count_more}, Look.{look_at_mirror, looks_from, past_own}, State.{Desk, Things, no_queue, queue_of, turns}, Thing.{set_queue, with_global, with_idle}, Wait.waits}
use Rattle.exec_progress.{specs.{Effort.second_scan, Going.{Falls, FallsAt, IsGoing, seen, stands}, Owed.{can_steal, is_stealable}, Ranks.full_ring}, proofs.{Idling.{FallsTo, chosen, counts, desk_to, height, in_look, in_scan, loads}, Passing.{can_at, second_le}, Tools.{afterwards, before, goes_up, taken_up}, Upward.to_wait}}

from_on : (i j : ℕ) → j ≤ past_own i j
from_on = grind arith

module _ (c : Configuration) (i : ℕ) (me : Books) (s : Common) (d : Desk) (x : Things) where
  abbrev at : InLook → Place
  at p = Place.Look p

  abbrev here : InLook → ℕ
  here p = height c i me s d x (stands (at p) d) x (at p)

  -- the height of such a place afterwards, with what it shares as it was
  abbrev after : InLook → ℕ
  after p = height c i me s d x (desk_to c i me s d x (at p) d.rng d.loot d.searching) x (at p)

  abbrev Going : InLook → Type 0
  Going p = IsGoing c i (seen (at p) me) s (stands (at p) d) x (at p)

  abbrev To : InLook → Place → Type 0
  To p q = FallsTo c i me s d x (at p) d.rng d.loot d.searching x q

  abbrev ToBy : InLook → ℕ → Place → Type 0
  ToBy p j q = FallsTo c i me s d x (at p) d.rng d.loot d.searching (set_queue j x (queue_of x j)) q

  -- a queue was but loaded
  unread : (p : InLook) (j : ℕ) (q : Place) → To p q → ToBy p j q
  unread p j q falls = subst (λ qs. FallsTo c i me s d x (at p) d.rng d.loot d.searching (record x { queues = qs }) q) (sym (set-get_or x.queues j no_queue)) falls

  waits_then : (p : InLook) → Going p → suc full_ring ≤ here p → To p (waits c i s (stands (at p) d))
  waits_then p it high quiet =
      let a = before me s d x (at p) in
      let b = afterwards c i me s (at p) (record { event = Turn; choice = Plain; desk = d; thing = x }) in
      to_wait c i a b (grind (arith, high)) s (stands (at p) d) it.budget

  -- the next queue, or the wait
  looks_on : (p : InLook) (j : ℕ) → Going p → suc full_ring ≤ here p → ((k : ℕ) → j ≤ k → k < c.workers → after (InLook.LookAtHead k) < here p) → To p (looks_from c i s j (stands (at p) d))
  looks_on p j it high less =
      let k = past_own i j in
      chosen (To p) (nat_lt k c.workers) (at (InLook.LookAtHead k)) (waits c i s (stands (at p) d))
      (λ h. counts c i me s d x (at p) (at (InLook.LookAtHead k)) d.searching x.idle (in_look i s p) (in_look i s (InLook.LookAtHead k)) (less k (from_on i j) (ltb-true k c.workers h)))
      (λ h. waits_then p it high)

  publishes : FallsAt c i me s d x (at InLook.Publish)
  publishes = grind arith

  -- the last count is returned where nobody else searched
  returns_count : FallsAt c i me s d x (at InLook.ReturnLookCount)
  returns_count = grind (arith, counts, in_look, second_le, eqb-true, and_parts, and_from, eq-eqb)

  -- something is in the global queue: a turn begins anew for it, once the own bit is out
  looks_at_mirror : (last : Bool) → FallsAt c i me s d x (at (InLook.LookAtMirror last))
  looks_at_mirror last it = by x.global refl
    where
      p : InLook
      p = InLook.LookAtMirror last

      by : (g : List ℕ) → x.global ≡ g → Falls c i (seen (at p) me) s (stands (at p) d) x (with_global x (look_at_mirror last (stands (at p) d) g))
      by [] is quiet = subst (λ g. FallsTo c i me s d x (at p) d.rng d.loot d.searching (record x { global = g }) (at InLook.LookAtCount)) is
          (counts c i me s d x (at p) (at InLook.LookAtCount) d.searching x.idle (in_look i s p) (in_look i s InLook.LookAtCount) (omega arith)) quiet
      by (t ∷ ts) is quiet =
          let m = with_global x (turns (Place.Withdraw (AfterWait.MakeUp last)) (stands (at p) d) (t ∷ ts)) in
          let a = before me s d x (at p) in
          let b = afterwards c i me s (at p) m in
          let pool = it.pooled refl in
          let some : (is_of_pool s i && not (is_empty x.global)) ≡ true = and_from _ _ pool (ap (λ g. not (is_empty g)) is) in
          goes_up c i a b (record {
            long_before = refl;
            long_after = refl;
            less = omega arith;
            gates_kept = omega arith;
            owes = taken_up c i a b (omega arith) (omega (arith, ap one_if some)) (omega (arith, ap (λ v. one_if (v && true)) pool));
          })

  looks_at_count : FallsAt c i me s d x (at InLook.LookAtCount)
  looks_at_count it =
      let p = InLook.LookAtCount in
      chosen (To p) (x.idle.count == 0) (looks_from c i s 0 (stands (at p) d)) (waits c i s (stands (at p) d))
      (λ h. looks_on p 0 it (omega arith) (λ k first below. omega (arith, below)))
      (λ h. waits_then p it (omega arith))

  looks_at_head : (j : ℕ) → FallsAt c i me s d x (at (InLook.LookAtHead j))
  looks_at_head j it =
      let p = InLook.LookAtHead j in
      let q = queue_of x j in
      let l = InLook.LookAtTail j (head_of q) in
      loads c i me s d x j (at p) (at l) d.rng (in_look i s p) (in_look i s l)
      (omega (
        arith,
        second_le c ((x.idle.count == 0) && (is_stealable q || can_steal x)) ((x.idle.count == 0) && can_steal x) (λ k.
            and_from _ _ (and_parts _ _ k).0 (elim (or_cases _ _ (and_parts _ _ k).1) [ inl this ↦ can_at c x j this | inr some ↦ some ])),
      ))

  looks_at_tail : (j : ℕ) (h : Head) → FallsAt c i me s d x (at (InLook.LookAtTail j h))
  looks_at_tail j h it =
      let p = InLook.LookAtTail j h in
      let q = queue_of x j in
      chosen (ToBy p j) (is_stealable_at h (tail_of q)) (at InLook.ExchangeLookCount) (looks_from c i s (j + 1) (stands (at p) d))
      (λ some. loads c i me s d x j (at p) (at InLook.ExchangeLookCount) d.rng (in_look i s p) (in_look i s InLook.ExchangeLookCount)
      (omega (arith, second_le c (x.idle.count == 0) ((x.idle.count == 0) && (is_stealable_at h (tail_of q) || can_steal x)) (λ k. and_from _ _ k (ap (λ b. b || can_steal x) some)))))
      (λ none. unread p j (looks_from c i s (j + 1) (stands (at p) d)) (looks_on p (j + 1) it (omega arith) (λ k first below.
      omega (arith, first, below, ap (λ b. second_scan c ((x.idle.count == 0) && (b || can_steal x))) none))))

  -- nobody searches: another scan follows, which is paid
  exchanges_count : FallsAt c i me s d x (at InLook.ExchangeLookCount)
  exchanges_count it =
      let p = InLook.ExchangeLookCount in
      chosen (λ m. Falls c i (seen (at p) me) s (stands (at p) d) x (with_idle x m)) (x.idle.count == 0)
      (turns (Place.Withdraw AfterWait.Search) (record (stands (at p) d) { searching = true }) (one_count_more x.idle)) (turns (waits c i s (stands (at p) d)) (stands (at p) d) x.idle)
      (λ h. counts c i me s d x (at p) (Place.Withdraw AfterWait.Search) true (one_count_more x.idle) (in_look i s p)
      (record { long = refl; none_ahead = λ n. refl; pops = refl; shares = refl; found = refl; itself = refl; spins_yet = refl; gates = omega arith; next_free = refl })
      (omega (arith, ap (second_scan c) h)))
      (λ h. waits_then p it (omega arith))

  pub looks : (p : InLook) → FallsAt c i me s d x (Place.Look p)
  looks InLook.Publish = publishes
  looks InLook.ReturnLookCount = returns_count
  looks (InLook.LookAtMirror last) = looks_at_mirror last
  looks InLook.LookAtCount = looks_at_count
  looks (InLook.LookAtHead j) = looks_at_head j
  looks (InLook.LookAtTail j h) = looks_at_tail j h
  looks InLook.ExchangeLookCount = exchanges_count
  looks InLook.ReturnClaimed = λ it. counts c i me s d x (at InLook.ReturnClaimed) (Place.Scan InScan.LoadScanHead) d.searching (one_count_less x.idle)
      (in_look i s InLook.ReturnClaimed) (in_scan i s InScan.LoadScanHead) (omega arith)
