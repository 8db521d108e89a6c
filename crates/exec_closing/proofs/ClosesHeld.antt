-- A closing worker lets go of a request that somebody holds: what holds of what tasks hold. Its mailbox is closed, so that no
-- task holds the request; who waited for it is woken.
use Rattle.std.proofs.{Common.{rules, ◌≡◌, ◌⊎◌, inl, inr, ⊎_elim, ℕ, ◌+◌, ◌<◌, Bool, true, false, List, Option, Some, None, is_some, refl, sym, ap, subst, ◌∙◌, arith, slice_get, slice_set, Ok, Err}, lemmas.Bool.false≢true}
use Rattle.exec_base.specs.declared.one_shot.OneShotState.{OneShotState, TheVariants.{Open, Sent, Closed}}
use Rattle.exec_outcomes.specs.declared.outcome.Outcome.{Outcome}
use Rattle.exec_machine.specs.{declared.state.Forwarding.Forwarding, Tests.is_unsent}
use Rattle.exec_parts.{specs.declared.parts.mail.Subject.{Subject, Subject as subject}, proofs.Facts.{by_number, same_Some, set_elsewhere, set_there}}
use Rattle.exec_invariants.{specs.Holding.{Awaits, Box, Hands, HasAnswer, Holder, IsClosing, IsDue, IsForwarded, IsHeldBy, IsHolding, IsOwed, Mail, MayHave, Nap, Owes, Thing, ThingOwes, holdings}, proofs.HoldRedo.holding_redone}

shut_held : (shut before now : Bool) (n a b : ℕ) → shut ≡ true → IsHeldBy shut before n a → IsHeldBy shut now n b
shut_held true before now n a b is fact = fact
shut_held false before now n a b is fact = absurd (false≢true is)

shut_forwarded : (shut : Bool) (f : Forwarding) (n : ℕ) → shut ≡ true → IsForwarded shut f n
shut_forwarded true f n is = tt
shut_forwarded false f n is = absurd (false≢true is)

module _ (h h' : Hands) (workers i : ℕ) (hs : List Holder) (ts : List Thing) (naps : List Nap) (boxes : List Box) (k : ℕ) (r r' : Thing) (woken : Option ℕ) where
  pub record Ousts : Type 0 where
    pub thing : slice_get ts k ≡ Some r
    pub worker : r.worker ≡ i
    pub became : r' ≡ record r { observed = false; ended = r'.ended }
    pub held : r.observed ≡ true
    pub ended : (o : Outcome) → r.ended ≡ Some o → r'.ended ≡ Some o
    pub shut : (box : Box) → slice_get boxes i ≡ Some box → (box.shut ≡ true) × (box.closing ≡ true)
    pub mail : h'.mail ≡ h.mail
    -- who is woken waits for it here, and nobody was told of its end
    pub wakes : (j u : ℕ) → (h'.wakes j u ≡ h.wakes j u) ⊎ ((j ≡ i) × (woken ≡ Some u) × (h'.wakes j u ≡ h.wakes j u + 1))
    pub waits : (u : ℕ) → woken ≡ Some u → (r.waiter ≡ Some u) × (r.ended ≡ None) × (r.paid ≡ 0) × (r.sent ≡ false)

  module _ (by : Ousts) (old : IsHolding h workers hs ts naps boxes) where
    same_worker : r'.worker ≡ r.worker
    same_worker = ap (λ (x : Thing). x.worker) by.became

    same_waiter : r'.waiter ≡ r.waiter
    same_waiter = ap (λ (x : Thing). x.waiter) by.became

    same_forwarding : r'.forwarding ≡ r.forwarding
    same_forwarding = ap (λ (x : Thing). x.forwarding) by.became

    same_sent : r'.sent ≡ r.sent
    same_sent = ap (λ (x : Thing). x.sent) by.became

    same_paid : r'.paid ≡ r.paid
    same_paid = ap (λ (x : Thing). x.paid) by.became

    let_go : r'.observed ≡ false
    let_go = ap (λ (x : Thing). x.observed) by.became

    unsent_on : (b : Bool) → is_unsent r'.forwarding ≡ b → is_unsent r.forwarding ≡ b
    unsent_on b is = ap is_unsent (sym same_forwarding) ∙ is

    its : (box : Box) → slice_get boxes r.worker ≡ Some box → (box.shut ≡ true) × (box.closing ≡ true)
    its box at = by.shut box (subst (λ n. slice_get boxes n ≡ Some box) by.worker at)

    closing : IsClosing i boxes
    closing box at = (by.shut box at).1

    due_before : IsDue r' → IsDue r
    due_before (inl held) = absurd (false≢true (sym let_go ∙ held))
    due_before (inr owed) = inr (unsent_on false owed.0, sym same_sent ∙ owed.1)

    answer_on : (o : OneShotState _) → HasAnswer o r → HasAnswer o r'
    answer_on Open is = same_sent ∙ is
    answer_on (Sent (Ok told)) is = (same_sent ∙ is.0, by.ended _ is.1)
    answer_on (Sent (Err error)) is = (same_sent ∙ is.0, let_go)
    answer_on Closed is = is

    -- what was over stays so
    over_on : (u : ℕ) → (is_some r.ended ≡ true) ⊎ ((r.observed ≡ false) × IsClosing u boxes) → u ≡ i → (is_some r'.ended ≡ true) ⊎ ((r'.observed ≡ false) × IsClosing u boxes)
    over_on u before is = inr (let_go, subst (λ n. IsClosing n boxes) (sym is) closing)

    owes_now : (j u : ℕ) → ThingOwes j u r boxes → ThingOwes j u r' boxes
    owes_now j u owes =
        search (same_worker ∙ owes.worker, same_waiter ∙ owes.waiter, same_paid ∙ owes.unpaid, same_sent ∙ owes.unsent, over_on j owes.over (sym owes.worker ∙ by.worker))

    owes_on : (j u : ℕ) (a : Option Subject) → Owes j u a ts naps boxes → Owes j u a (slice_set ts k r') naps boxes
    owes_on j u None owes = owes
    owes_on j u (Some (subject.Timer n)) owes = owes
    owes_on j u (Some (subject.Request n)) owes =
        by_number n k
        (λ apart. (owes.0, set_elsewhere ts k n r' apart ∙ owes.1, owes.2))
        (λ same.
        let is : owes.0 ≡ r = same_Some owes.0 r (sym owes.1 ∙ ap (slice_get ts) same ∙ by.thing) in
        (r', subst (λ m. slice_get (slice_set ts k r') m ≡ Some r') (sym same) (set_there ts k r' r by.thing), owes_now j u (subst (λ x. ThingOwes j u x boxes) is owes.2)))

    -- who is woken wasn't owed a wake before, and is now
    waiting : (u : ℕ) → woken ≡ Some u → Awaits (subject.Request k) u hs
    waiting u is = old.waited k r u by.thing (by.waits u is).0 (inl by.held)

    none_before : (u : ℕ) → woken ≡ Some u → 0 < h.wakes i u → ⊥
    none_before u is some =
        let o = old.owed i u some in
        let awaits = waiting u is in
        let same : o.1.it ≡ awaits.it = same_Some o.1.it awaits.it (sym o.1.there ∙ awaits.there) in
        let owes : Owes i u (Some (subject.Request k)) ts naps boxes = subst (λ a. Owes i u a ts naps boxes) (ap (λ (x : Holder). x.awaits) same ∙ awaits.awaits) o.1.owes in
        let its : owes.0 ≡ r = same_Some owes.0 r (sym owes.1 ∙ by.thing) in
        let over : (is_some r.ended ≡ true) ⊎ ((r.observed ≡ false) × IsClosing i boxes) = subst (λ (x : Thing). (is_some x.ended ≡ true) ⊎ ((x.observed ≡ false) × IsClosing i boxes)) its owes.2.over in
        ⊎_elim (λ ended. false≢true (sym (ap is_some (by.waits u is).1) ∙ ended)) (λ lost. false≢true (sym lost.0 ∙ by.held)) over

    owed_now : (u : ℕ) → woken ≡ Some u → IsOwed i u hs (slice_set ts k r') naps boxes
    owed_now u is =
        let awaits = waiting u is in
        let w = by.waits u is in
        let owes = subst (λ a. Owes i u a (slice_set ts k r') naps boxes) (sym awaits.awaits) (r', set_there ts k r' r by.thing, record { worker = same_worker ∙ by.worker; waiter = same_waiter ∙ w.0; unpaid = same_paid ∙ w.2; unsent = same_sent ∙ w.3; over = inr (let_go, closing) }) in
        search (owes, awaits)

    none_yet : (n : ℕ) → (0 < n → ⊥) → n ≡ 0
    none_yet n never = by_number n 0 (λ other. absurd (never (omega (arith, other)))) (λ same. same)

    pub holding_ousted : IsHolding h' workers hs (slice_set ts k r') naps boxes
    holding_ousted =
        holding_redone h h' workers hs hs ts naps boxes None k r r' (record {
          thing = by.thing;
          worker = same_worker;
          others = λ u apart. refl;
          homes = λ u is. is;
          holdings_of = λ n apart. refl;
          waiters_of = λ n. refl;
          mail = λ m apart. ap (λ (f : Mail → ℕ). f m) by.mail;
          made = λ m some. old.made m (subst (λ (f : Mail → ℕ). 0 < f m) by.mail some);
          held = λ box at fact. shut_held box.shut r.observed r'.observed (holdings k hs) _ _ (its box at).0 fact;
          forwarded = λ box at fact. shut_forwarded box.shut r'.forwarding _ (its box at).0;
          asked = λ sent. let a = old.asked k r by.thing (unsent_on false sent) in (a.0, same_waiter ∙ a.1, a.2);
          sent = λ is. same_forwarding ∙ old.sent k r by.thing (sym same_sent ∙ is);
          waited = λ u waiter due. old.waited k r u by.thing (sym same_waiter ∙ waiter) (due_before due);
          waited_on = λ n u apart is. is;
          sleeps_on = λ n u is. is;
          holds = λ u o j x is at_u at_j. let no : None ≡ Some u = is in absurd (cc);
          holds_else = λ u o j x apart at_u at_j is held.
              search (rules, same_worker ∙ held.worker, subst (MayHave workers o.home) (sym same_worker) held.near, same_forwarding, held, same_waiter, unsent_on);
          awaiting = λ u o n is at_u awaits. let no : None ≡ Some u = is in absurd (cc);
          awaiting_else = λ u o apart at_u awaits a.
              search (rules, same_waiter ∙ a.waiter, subst (MayHave workers o.home) (sym same_worker) a.near, a, same_forwarding, answer_on, unsent_on);
          asleep = λ u o n is at_u awaits. let no : None ≡ Some u = is in absurd (cc);
          over = λ u o is at_u over. let no : None ≡ Some u = is in absurd (cc);
          owed = λ j u some.
              ⊎_elim
              (λ same.
              let o = old.owed j u (subst (λ n. 0 < n) same some) in
              (same ∙ o.0, record { it = o.1.it; there = o.1.there; owes = owes_on j u o.1.it.awaits o.1.owes }))
              (λ more.
              let here : h.wakes j u ≡ h.wakes i u = ap (λ n. h.wakes n u) more.0 in
              (omega (arith, more.2, here, none_yet (h.wakes i u) (none_before u more.1)), subst (λ n. IsOwed n u hs (slice_set ts k r') naps boxes) (sym more.0) (owed_now u more.1)))
              (by.wakes j u);
        }) old
