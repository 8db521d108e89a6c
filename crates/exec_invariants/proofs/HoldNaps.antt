-- WHAT TASKS HOLD, where one takes the end of its sleep.
use Rattle.exec_invariants.{proofs.{Names.{◌≡◌, ℕ, ◌<◌, ◌&&◌, ◌||◌, Bool, true, false, not, cond, List, Some, None, IsSome, sym, ap, subst, ◌∙◌, arith, slice_get, slice_set, false≢true, ◌+◌, length, ◌≤◌, Message, and_right, by_number, same_Some, set_elsewhere, set_there, Held, subject, is_unsent}, HoldRedo.sum_set, HoldSteps.{awaits_on, held_in, holdings_on, homes_on, holds_on}}, specs.Holding.{Box, Hands, Holder, HoldsRequest, IsHeldBy, IsHolding, Nap, Owes, Thing, holdings, is_awaited_by, under_way, AwaitsNap, AwaitsThing, IsDue, Awaits, IsOrdinary, IsOwed, waiters}}

module _ (h : Hands) (workers : ℕ) (hs : List Holder) (ts : List Thing) (naps : List Nap) (boxes : List Box) (t n : ℕ) (it it' : Holder) (z : Nap) where
  pub record Wakens : Type 0 where
    pub there : slice_get hs t ≡ Some it
    pub nap : slice_get naps n ≡ Some z
    pub awaits : it.awaits ≡ Some (subject.Timer n)
    pub took : it' ≡ record it { awaits = None }
    pub going : it.over ≡ false
    pub over : (z.fired || z.removed) ≡ true
    -- nobody is about to wake it for that
    pub unowed : z.sent ≡ false → h.wakes z.worker t ≡ 0

  pub nap_taken : Wakens → IsHolding h workers hs ts naps boxes → IsHolding h workers (slice_set hs t it') ts naps boxes
  nap_taken by old =
      let same_timer : (a b : ℕ) → Some (subject.Timer a) ≡ Some (subject.Timer b) → a ≡ b = λ a b h. cc in
      let neither : (a b : Bool) → a ≡ false → b ≡ false → (a || b) ≡ true → ⊥ = grind arith in
      let unpaid : Wakens → (i : ℕ) → 0 < h.wakes i t → Owes i t (Some (subject.Timer n)) ts naps boxes → ⊥ = grind arith in
      let hs' : List Holder = slice_set hs t it' in
      let home : it'.home ≡ it.home = ap (λ (x : Holder). x.home) by.took in
      let nothing : it'.awaits ≡ None = ap (λ (x : Holder). x.awaits) by.took in
      let same_held : it'.held ≡ it.held = ap (λ (x : Holder). x.held) by.took in
      let never : (k : ℕ) → it.awaits ≡ Some (subject.Request k) → ⊥ = λ k is. let no : Some (subject.Timer n) ≡ Some (subject.Request k) = sym by.awaits ∙ is in absurd (cc) in
      let holdings_same : (k : ℕ) → holdings k hs' ≡ holdings k hs = λ k. let after = holdings_on hs t it it' by.there k in let same : held_in k it'.held ≡ held_in k it.held = ap (held_in k) same_held in omega (arith, after, same) in
      let its : (u : ℕ) (o : Holder) → u ≡ t → slice_get hs' u ≡ Some o → it' ≡ o = λ u o is at. same_Some it' o (sym (set_there hs t it' it by.there) ∙ subst (λ m. slice_get hs' m ≡ Some o) is at) in
      let held_so : (k : ℕ) (r : Thing) (box : Box) → slice_get ts k ≡ Some r → slice_get boxes r.worker ≡ Some box → IsHeldBy box.shut r.observed (holdings k (slice_set hs t it')) (under_way h (Message.Cancel (subject.Request k)) boxes) =
      λ k r box there at. subst (λ a. IsHeldBy box.shut r.observed a (under_way h (Message.Cancel (subject.Request k)) boxes)) (sym (holdings_same k)) (old.held k r box there at) in
      let asked : (k : ℕ) (r : Thing) → slice_get ts k ≡ Some r → is_unsent r.forwarding ≡ false → (t0 : ℕ) × (r.waiter ≡ Some t0) × IsOrdinary t0 (slice_set hs t it') =
      λ k r there sent. let a = old.asked k r there sent in (a.0, a.1, homes_on hs t it it' by.there home a.0 a.2) in
      let waited : (k : ℕ) (r : Thing) (t0 : ℕ) → slice_get ts k ≡ Some r → r.waiter ≡ Some t0 → IsDue r → Awaits (subject.Request k) t0 (slice_set hs t it') =
      λ k r u there waiter due. awaits_on hs t it it' by.there (subject.Request k) u (λ same w. absurd (never k w)) (old.waited k r u there waiter due) in
      let holds : (t0 : ℕ) (it : Holder) (j : ℕ) (x : Held) → slice_get (slice_set hs t it') t0 ≡ Some it → slice_get it.held j ≡ Some x → (r : Thing) × (slice_get ts x.number ≡ Some r) × HoldsRequest workers t0 it x r = λ u o j x at_u at_j.
      by_number u t
      (λ other. old.holds u o j x (sym (set_elsewhere hs t u it' other) ∙ at_u) at_j)
      (λ is.
      let be = its u o is at_u in
      let held = old.holds t it j x by.there (ap (λ ys. slice_get ys j) (sym same_held) ∙ ap (λ (y : Holder). slice_get y.held j) be ∙ at_j) in (
        held.0,
        held.1,
        subst (λ v. HoldsRequest workers v o x held.0) (sym is) (subst (λ y. HoldsRequest workers t y x held.0) be (holds_on workers t it it' x held.0 home (never x.number) held.2)),
      )) in
      let awaiting : (t0 : ℕ) (it : Holder) (k : ℕ) → slice_get (slice_set hs t it') t0 ≡ Some it → it.awaits ≡ Some (subject.Request k) → (r : Thing) × (slice_get ts k ≡ Some r) × AwaitsThing workers t0 k it r = λ u o k at_u awaits.
      by_number u t
      (λ other. old.awaiting u o k (sym (set_elsewhere hs t u it' other) ∙ at_u) awaits)
      (λ is. let no : None ≡ Some (subject.Request k) = sym nothing ∙ ap (λ (y : Holder). y.awaits) (its u o is at_u) ∙ awaits in absurd (cc)) in
      let asleep : (t0 : ℕ) (it : Holder) (n : ℕ) → slice_get (slice_set hs t it') t0 ≡ Some it → it.awaits ≡ Some (subject.Timer n) → (z : Nap) × (slice_get naps n ≡ Some z) × AwaitsNap workers t0 it z = λ u o k at_u awaits.
      by_number u t
      (λ other. old.asleep u o k (sym (set_elsewhere hs t u it' other) ∙ at_u) awaits)
      (λ is. let no : None ≡ Some (subject.Timer k) = sym nothing ∙ ap (λ (y : Holder). y.awaits) (its u o is at_u) ∙ awaits in absurd (cc)) in
      let over_so : (t0 : ℕ) (it : Holder) → slice_get (slice_set hs t it') t0 ≡ Some it → it.over ≡ true → (length it.held ≡ 0) × (IsSome it.home → it.awaits ≡ None) = λ u o at_u over.
      by_number u t
      (λ other. old.over u o (sym (set_elsewhere hs t u it' other) ∙ at_u) over)
      (λ is. absurd (false≢true (sym (ap (λ (x : Holder). x.over) by.took ∙ by.going) ∙ ap (λ (y : Holder). y.over) (its u o is at_u) ∙ over))) in
      let sleeps : (n : ℕ) (z : Nap) → slice_get naps n ≡ Some z → z.fired ≡ false → z.removed ≡ false → Awaits (subject.Timer n) z.task (slice_set hs t it') = λ k y there unfired kept.
      awaits_on hs t it it' by.there (subject.Timer k) y.task
      (λ same w.
      let is : n ≡ k = same_timer n k (sym by.awaits ∙ w) in
      absurd (neither y.fired y.removed unfired kept (ap (λ (v : Nap). v.fired || v.removed) (same_Some y z (sym there ∙ ap (slice_get naps) (sym is) ∙ by.nap)) ∙ by.over)))
      (old.sleeps k y there unfired kept) in
      let let_go : (n : ℕ) (z : Nap) (box : Box) → slice_get naps n ≡ Some z → slice_get boxes z.worker ≡ Some box → box.shut ≡ false → waiters (subject.Timer n) (slice_set hs t it') + under_way h (Message.Cancel (subject.Timer n)) boxes ≤ 1 = λ k y box there at open_box.
      let weigh : Bool → ℕ = λ b. cond b 1 0 in
      let nothing_more : ℕ = 0 in
      let none : weigh (not it'.over && is_awaited_by (subject.Timer k) it'.awaits) ≡ nothing_more = ap weigh (and_right (not it'.over) (is_awaited_by (subject.Timer k) it'.awaits) (ap (is_awaited_by (subject.Timer k)) nothing)) in
      omega (arith, old.let_go k y box there at open_box, sum_set (λ (x : Holder). weigh (not x.over && is_awaited_by (subject.Timer k) x.awaits)) hs t it it' by.there, none) in
      let asked_too : (n : ℕ) (z : Nap) → slice_get naps n ≡ Some z → is_unsent z.forwarding ≡ false → IsOrdinary z.task (slice_set hs t it') = λ k y there sent. homes_on hs t it it' by.there home y.task (old.asked_too k y there sent) in
      let let_be : (n : ℕ) (z : Nap) → slice_get naps n ≡ Some z → z.closed ≡ true → IsOrdinary z.task (slice_set hs t it') = λ k y there closed. homes_on hs t it it' by.there home y.task (old.let_be k y there closed) in
      let owed : (i t0 : ℕ) → 0 < h.wakes i t0 → (h.wakes i t0 ≡ 1) × IsOwed i t0 (slice_set hs t it') ts naps boxes = λ i u some.
      let o = old.owed i u some in (
        o.0,
        by_number u t
            (λ other. record { it = o.1.it; there = set_elsewhere hs t u it' other ∙ o.1.there; owes = o.1.owes })
            (λ is.
            let same_it : it ≡ o.1.it = same_Some it o.1.it (sym by.there ∙ ap (slice_get hs) (sym is) ∙ o.1.there) in
            absurd (unpaid by i (subst (λ m. 0 < h.wakes i m) is some) (subst (λ a. Owes i t a ts naps boxes) by.awaits (subst (λ (y : Holder). Owes i t y.awaits ts naps boxes) (sym same_it) (subst (λ m. Owes i m o.1.it.awaits ts naps boxes) is o.1.owes))))),
      ) in
      assumption (held_so, asked, waited, holds, awaiting, asleep, over_so, sleeps, let_go, asked_too, let_be, owed, old)
