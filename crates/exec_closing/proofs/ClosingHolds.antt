-- A closing worker lets go of a sleeper: what tasks hold. Its mailbox is shut, so that all who could wait for it are over but who
-- is told.
use Rattle.std.proofs.{Common.{◌≡◌, ◌⊎◌, ℕ, zero, suc, ◌+◌, ◌<◌, ◌≤◌, ◌||◌, true, false, List, sum_by, Option, Some, None, refl, sym, ap, subst, ◌∙◌, arith, inl, inr, slice_get, slice_set}, lemmas.Bool.false≢true}
use Rattle.exec_words.specs.declared.inbox.Message.{Message}
use Rattle.exec_machine.specs.Tests.{is_unsent}
use Rattle.exec_parts.{proofs.Facts.{same_Some, set_there}, specs.declared.parts.mail.Subject.Subject as subject}
use Rattle.exec_invariants.{specs.Holding.{Awaits, Box, Hands, Holder, IsHolding, IsOwed, Mail, Nap, Owes, Thing, IsForwarded, mail_in, under_way, waiters}, proofs.HoldSleeps.nap_redone}

-- WHAT TASKS HOLD AND ARE OWED

-- one wake more is owed
pub record WakesNap (h h' : Hands) (z : Nap) (i u : ℕ) : Type 0 where
  pub more : h'.wakes i u ≡ h.wakes i u + 1
  pub worker : z.worker ≡ i
  pub task : z.task ≡ u

module _ (h h' : Hands) (workers : ℕ) (hs : List Holder) (ts : List Thing) (naps : List Nap) (boxes : List Box) (n : ℕ) (z : Nap) (there : slice_get naps n ≡ Some z) (unfired : z.fired ≡ false) (unremoved : z.removed ≡ false) (unpaid : z.paid ≡ 0) (unsent : z.sent ≡ false)
    (over : (t : ℕ) (it : Holder) → slice_get hs t ≡ Some it → it.awaits ≡ Some (subject.Timer n) → it.over ≡ true) (mail : (m : Mail) → h'.mail m ≡ h.mail m) (wakes : (i u : ℕ) → 0 < h'.wakes i u → (h'.wakes i u ≡ h.wakes i u) ⊎ WakesNap h h' z i u) (old : IsHolding h workers hs ts naps boxes) where
  abbrev pub closed_nap : Nap
  closed_nap = record z { removed = true; closed = true }

  -- its task waits for it
  waits : Awaits (subject.Timer n) z.task hs
  waits = old.sleeps n z there unfired unremoved

  asleep : (z.fired || z.removed) ≡ true → ⊥
  asleep over = false≢true (sym (ap (λ b. b || z.removed) unfired ∙ unremoved) ∙ over)

  -- and was owed no wake
  none_before : (i : ℕ) → 0 < h.wakes i z.task → ⊥
  none_before = grind (arith, waits, same_Some, asleep)

  -- who is over and waits still is no root
  homeless : (o : Option ℕ) → waits.it.home ≡ o → waits.it.home ≡ None
  homeless None is = is
  homeless (Some i) is =
      let none : waits.it.awaits ≡ None = (old.over z.task waits.it waits.there (over z.task waits.it waits.there waits.awaits)).1 (rw is refl) in
      let no : None ≡ Some (subject.Timer n) = sym none ∙ waits.awaits in
      absurd (cc)

  by_zero : (m : ℕ) → (0 < m → ⊥) → m ≡ 0
  by_zero zero never = refl
  by_zero (suc m) never = absurd (never (omega arith))

  fewer : (i u : ℕ) → 0 < h'.wakes i u → (h'.wakes i u ≡ h.wakes i u) ⊎ ((h'.wakes i u ≡ 1) × IsOwed i u hs ts (slice_set naps n (record z { removed = true; closed = true })) boxes)
  fewer i u some =
      elim (wakes i u some) [
        | inl same ↦ inl same
        | inr more ↦
            inr (
              more.more ∙ ap (λ m. m + 1) (ap (h.wakes i) (sym more.task) ∙ by_zero (h.wakes i z.task) (none_before i)),
              let owes = subst (λ o. Owes i u o ts (slice_set naps n closed_nap) boxes) (sym waits.awaits) (closed_nap, set_there naps n closed_nap z there, record { worker = more.worker; task = more.task; unpaid = unpaid; unsent = unsent; over = ap (λ b. b || true) unfired }) in
                  search (ap (slice_get hs) (sym more.task) ∙ waits.there, owes, waits),
            )
      ]

  way : (m : Mail) → under_way h' m boxes ≡ under_way h m boxes
  way m = ap (λ a. a + sum_by (λ box. mail_in m box.messages) boxes) (mail m)

  pub holding_closed : IsHolding h' workers hs ts (slice_set naps n (record z { removed = true; closed = true })) boxes
  holding_closed =
      nap_redone h h' workers hs ts naps boxes n z closed_nap
      (record {
        nap = there;
        worker = refl;
        task = refl;
        mail = λ m past. mail m;
        made = λ m some. old.made m (subst (λ a. 0 < a) (mail m) some);
        sleeps = λ no kept. absurd (false≢true (sym kept));
        let_go = λ box at unshut is. subst (λ a. waiters (subject.Timer n) hs + a ≤ 1) (sym (way (Message.Cancel (subject.Timer n)))) is;
        woken = λ box at is. subst (λ a. IsForwarded box.shut z.forwarding a) (sym (way (Message.Forward (subject.Timer n)))) is;
        asked = λ sent. old.asked_too n z there sent;
        be = λ closed. record { it = waits.it; there = waits.there; home = homeless waits.it.home refl };
        sent = λ sent. ((old.sent_too n z there sent).0, ap (λ b. b || true) unfired);
        here = λ t it at awaits home.
            let a = old.asleep t it n at awaits in
            ap (λ (x : Nap). is_unsent x.forwarding) (sym (same_Some a.0 z (sym a.1 ∙ there))) ∙ a.2.here home;
        kept = λ t it at awaits going kept. absurd (false≢true (sym going ∙ over t it at awaits));
        fewer = fewer;
        owes = λ i t some by. record { worker = by.worker; task = by.task; unpaid = by.unpaid; unsent = by.unsent; over = ap (λ b. b || true) unfired };
      })
      old
