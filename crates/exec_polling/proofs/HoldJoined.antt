-- What tasks hold, where a new one joins: it holds nothing and waits for nothing.
use Rattle.std.proofs.{Common.{◌≡◌, ℕ, ◌+◌, ◌<◌, ◌≤◌, true, false, List, [], ◌∷◌, ◌++◌, length, Some, None, IsSome, sym, ap, ◌∙◌, arith, inl, inr, slice_get}, lemmas.{Bool.false≢true, List.Sums.sum_by-append}}
use Rattle.exec_words.specs.declared.inbox.Message.{Message}
use Rattle.exec_machine.specs.Tests.{is_unsent}
use Rattle.exec_parts.specs.declared.parts.{held.Held.Held, mail.Subject.Subject}
use Rattle.exec_invariants.specs.Holding.{AwaitsNap, AwaitsThing, Awaits, Box, Hands, Holder, HoldsRequest, IsDue, IsHeldBy, IsHolding, IsOrdinary, IsOwed, Nap, Thing, holdings, under_way, waiters}
use Rattle.exec_polling.proofs.SpawnLists.{found_again, found_which}

module _ (h : Hands) (workers : ℕ) (holders : List Holder) (things : List Thing) (naps : List Nap) (boxes : List Box) (new : Holder) (held : new.held ≡ []) (awaits : new.awaits ≡ None) (going : new.over ≡ false) where
  abbrev more : List Holder
  more = holders ++ new ∷ []

  holdings_more : (k : ℕ) → holdings k more ≡ holdings k holders
  holdings_more = grind (arith, sum_by-append)

  waiters_more : (s : Subject) → waiters s more ≡ waiters s holders
  waiters_more = grind (arith, sum_by-append)

  awaits_more : (s : Subject) (t : ℕ) → Awaits s t holders → Awaits s t more
  awaits_more s t it = record { it = it.it; there = found_again holders (new ∷ []) t it.it it.there; awaits = it.awaits }

  ordinary_more : (t : ℕ) → IsOrdinary t holders → IsOrdinary t more
  ordinary_more t it = record { it = it.it; there = found_again holders (new ∷ []) t it.it it.there; home = it.home }

  none_held : (it : Holder) (j : ℕ) (x : Held) → new ≡ it → slice_get it.held j ≡ Some x → ⊥
  none_held = grind arith

  none_awaited : (it : Holder) (s : Subject) → new ≡ it → it.awaits ≡ Some s → ⊥
  none_awaited = grind arith

  owed_more : (i t : ℕ) → IsOwed i t holders things naps boxes → IsOwed i t more things naps boxes
  owed_more i t it = record { it = it.it; there = found_again holders (new ∷ []) t it.it it.there; owes = it.owes }

  pub holding_joined : IsHolding h workers holders things naps boxes → IsHolding h workers more things naps boxes
  holding_joined holding =
      let held : (k : ℕ) (r : Thing) (box : Box) → slice_get things k ≡ Some r → slice_get boxes r.worker ≡ Some box → IsHeldBy box.shut r.observed (holdings k more) (under_way h (Message.Cancel (Subject.Request k)) boxes) = λ k r box at_k at. rw (holdings_more k) (holding.held k r box at_k at) in
      let asked : (k : ℕ) (r : Thing) → slice_get things k ≡ Some r → is_unsent r.forwarding ≡ false → (t : ℕ) × (r.waiter ≡ Some t) × IsOrdinary t more = λ k r at_k sent. let old = holding.asked k r at_k sent in (old.0, old.1, ordinary_more old.0 old.2) in
      let waited : (k : ℕ) (r : Thing) (t : ℕ) → slice_get things k ≡ Some r → r.waiter ≡ Some t → IsDue r → Awaits (Subject.Request k) t more = λ k r t at_k waiter due. awaits_more (Subject.Request k) t (holding.waited k r t at_k waiter due) in
      let holds : (t : ℕ) (it : Holder) (j : ℕ) (x : Held) → slice_get more t ≡ Some it → slice_get it.held j ≡ Some x → (r : Thing) × (slice_get things x.number ≡ Some r) × HoldsRequest workers t it x r = grind (arith, found_which, none_held) in
      let awaiting : (t : ℕ) (it : Holder) (k : ℕ) → slice_get more t ≡ Some it → it.awaits ≡ Some (Subject.Request k) → (r : Thing) × (slice_get things k ≡ Some r) × AwaitsThing workers t k it r = grind (arith, found_which, none_awaited) in
      let asleep : (t : ℕ) (it : Holder) (n : ℕ) → slice_get more t ≡ Some it → it.awaits ≡ Some (Subject.Timer n) → (z : Nap) × (slice_get naps n ≡ Some z) × AwaitsNap workers t it z = grind (arith, found_which, none_awaited) in
      let over : (t : ℕ) (it : Holder) → slice_get more t ≡ Some it → it.over ≡ true → (length it.held ≡ 0) × (IsSome it.home → it.awaits ≡ None) = λ t it at_t done.
      elim (found_which holders new it t at_t) [ inl old ↦ holding.over t it old done | inr last ↦ absurd (false≢true (sym (ap (λ (o : Holder). o.over) (sym last.1) ∙ going) ∙ done)) ] in
      let sleeps : (n : ℕ) (z : Nap) → slice_get naps n ≡ Some z → z.fired ≡ false → z.removed ≡ false → Awaits (Subject.Timer n) z.task more = λ n z at_n fired removed. awaits_more (Subject.Timer n) z.task (holding.sleeps n z at_n fired removed) in
      let let_go : (n : ℕ) (z : Nap) (box : Box) → slice_get naps n ≡ Some z → slice_get boxes z.worker ≡ Some box → box.shut ≡ false → waiters (Subject.Timer n) more + under_way h (Message.Cancel (Subject.Timer n)) boxes ≤ 1 = λ n z box at_n at opened. rw (waiters_more (Subject.Timer n)) (holding.let_go n z box at_n at opened) in
      let asked_too : (n : ℕ) (z : Nap) → slice_get naps n ≡ Some z → is_unsent z.forwarding ≡ false → IsOrdinary z.task more = λ n z at_n sent. ordinary_more z.task (holding.asked_too n z at_n sent) in
      let let_be : (n : ℕ) (z : Nap) → slice_get naps n ≡ Some z → z.closed ≡ true → IsOrdinary z.task more = λ n z at_n closed. ordinary_more z.task (holding.let_be n z at_n closed) in
      let owed : (i t : ℕ) → 0 < h.wakes i t → (h.wakes i t ≡ 1) × IsOwed i t more things naps boxes = λ i t some. let it = holding.owed i t some in (it.0, owed_more i t it.1) in
      assumption (held, asked, waited, holds, awaiting, asleep, over, sleeps, let_go, asked_too, let_be, owed, holding)
