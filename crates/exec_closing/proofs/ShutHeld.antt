-- A worker closes its mailbox once no task holds anything of it: what holds of what tasks hold, where its messages are lost.
use Rattle.std.proofs.{Common.{◌≡◌, ◌≢◌, inl, inr, ⊎_elim, ℕ, ◌+◌, ◌<◌, ◌≤◌, ◌==◌, Bool, true, Contains, List, [], count_by, length, sum_by, Option, Some, None, refl, sym, ap, subst, ◌∙◌, arith, slice_get, slice_set}, lemmas.{Bool.false≢true, List.length-set}}
use Rattle.exec_words.specs.declared.inbox.Message.{Message}
use Rattle.exec_parts.{specs.declared.parts.mail.Subject.Subject, proofs.Facts.{by_number, same_Some, set_elsewhere, set_there}}
use Rattle.exec_invariants.{specs.Holding.{Box, Hands, Holder, IsAbout, IsForwarded, IsHeldBy, IsHolding, IsOf, Mail, Nap, Owes, Thing, holdings, mail_in, under_way, waiters}, proofs.{HoldMail.mail_none, HoldPosts.IsOwned, HoldRedo.sum_set}}

module _ (h h' : Hands) (workers i : ℕ) (hs : List Holder) (ts : List Thing) (naps : List Nap) (boxes boxes' : List Box) (box box' : Box) where
  pub record Shuts : Type 0 where
    pub there : slice_get boxes i ≡ Some box
    pub set : boxes' ≡ slice_set boxes i box'
    pub shut : box'.shut ≡ true
    pub none : box'.messages ≡ []
    pub closing : box'.closing ≡ box.closing
    pub more : box'.made ≡ box.made
    pub wakes : h'.wakes ≡ h.wakes
    -- it had these in hand, which are about what it has
    pub batch : List Mail
    pub hands : (m : Mail) → h.mail m ≡ h'.mail m + mail_in m batch
    pub own : (m : Mail) → Contains batch m → IsAbout workers i m ts naps
    pub nobody : (k : ℕ) (r : Thing) → slice_get ts k ≡ Some r → r.worker ≡ i → holdings k hs ≡ 0

  held_as : (shut held : Bool) (n a b : ℕ) → b ≡ a → IsHeldBy shut held n a → IsHeldBy shut held n b
  held_as shut held n a b same fact = subst (IsHeldBy shut held n) (sym same) fact

  -- what another worker has isn't the own
  not_own : (s : Subject) (j : ℕ) → j ≢ i → IsOwned j s ts naps → IsOf workers i s ts naps → ⊥
  not_own (Subject.Request k) j other owned of = other (sym owned.2 ∙ ap (λ (r : Thing). r.worker) (same_Some owned.0 of.0 (sym owned.1 ∙ of.1)) ∙ of.2)
  not_own (Subject.Timer n) j other owned of = other (sym owned.2 ∙ ap (λ (z : Nap). z.worker) (same_Some owned.0 of.0 (sym owned.1 ∙ of.1)) ∙ of.2)

  -- a message that isn't about what it has is under way as before
  way : Shuts → IsHolding h workers hs ts naps boxes → (m : Mail) → (IsAbout workers i m ts naps → ⊥) → under_way h' m boxes' ≡ under_way h m boxes
  way by old m apart =
      let here : mail_in m box.messages ≡ 0 = mail_none m box.messages (λ has. apart (old.about i box m by.there has)) in
      let set : sum_by (λ b. mail_in m b.messages) boxes' ≡ sum_by (λ b. mail_in m b.messages) (slice_set boxes i box') = ap (λ bs. sum_by (λ (b : Box). mail_in m b.messages) bs) by.set in
      omega (arith, sum_set (λ (b : Box). mail_in m b.messages) boxes i box box' by.there, here, ap (mail_in m) by.none, mail_none m by.batch (λ has. apart (by.own m has)), set, by.hands m)

  -- what stands there now, by whether it is this one
  of_box : {P : Type 0} (j : ℕ) (b : Box) → Shuts → slice_get boxes' j ≡ Some b → (j ≢ i → slice_get boxes j ≡ Some b → P) → (j ≡ i → box' ≡ b → P) → P
  of_box = grind (arith, by_number, set_elsewhere, same_Some, set_there)

  pub shut_holding : Shuts → IsHolding h workers hs ts naps boxes → IsHolding h' workers hs ts naps boxes'
  shut_holding by old =
      record {
        held = λ k r b there at.
            of_box r.worker b by at
            (λ other was. held_as b.shut r.observed (holdings k hs) _ _ (way by old (Message.Cancel (Subject.Request k)) (not_own (Subject.Request k) r.worker other (r, there, refl))) (old.held k r b there was))
            (λ own is. subst (λ s. IsHeldBy s r.observed (holdings k hs) (under_way h' (Message.Cancel (Subject.Request k)) boxes')) (sym (ap (λ (y : Box). y.shut) (sym is) ∙ by.shut)) (by.nobody k r there own));
        forwarded = λ k r b there at.
            of_box r.worker b by at
            (λ other was. subst (IsForwarded b.shut r.forwarding) (sym (way by old (Message.Forward (Subject.Request k)) (not_own (Subject.Request k) r.worker other (r, there, refl)))) (old.forwarded k r b there was))
            (λ own is. subst (λ s. IsForwarded s r.forwarding (under_way h' (Message.Forward (Subject.Request k)) boxes')) (sym (ap (λ (y : Box). y.shut) (sym is) ∙ by.shut)) tt);
        asked = old.asked;
        waited = old.waited;
        holds = old.holds;
        awaiting = old.awaiting;
        asleep = old.asleep;
        over = old.over;
        sleeps = old.sleeps;
        let_go = λ n z b there at open_box.
            of_box z.worker b by at
            (λ other was. subst (λ m. waiters (Subject.Timer n) hs + m ≤ 1) (sym (way by old (Message.Cancel (Subject.Timer n)) (not_own (Subject.Timer n) z.worker other (z, there, refl)))) (old.let_go n z b there was open_box))
            (λ own is. absurd (false≢true (sym open_box ∙ ap (λ (y : Box). y.shut) (sym is) ∙ by.shut)));
        asked_too = old.asked_too;
        let_be = old.let_be;
        woken = λ n z b there at.
            of_box z.worker b by at
            (λ other was. subst (IsForwarded b.shut z.forwarding) (sym (way by old (Message.Forward (Subject.Timer n)) (not_own (Subject.Timer n) z.worker other (z, there, refl)))) (old.woken n z b there was))
            (λ own is. subst (λ s. IsForwarded s z.forwarding (under_way h' (Message.Forward (Subject.Timer n)) boxes')) (sym (ap (λ (y : Box). y.shut) (sym is) ∙ by.shut)) tt);
        owed = λ j t some.
            let o = old.owed j t (subst (λ (f : ℕ → ℕ → ℕ). 0 < f j t) by.wakes some) in
            (ap (λ (f : ℕ → ℕ → ℕ). f j t) by.wakes ∙ o.0, record { it = o.1.it; there = o.1.there; owes = owes_on by j t o.1.it.awaits o.1.owes });
        about = λ j b m at has.
            of_box j b by at
            (λ other was. old.about j b m was has)
            (λ own is. absurd (none_of m (subst (λ ms. Contains ms m) (ap (λ (y : Box). y.messages) (sym is) ∙ by.none) has)));
        room = λ j b at.
            of_box j b by at
            (λ other was. old.room j b was)
            (λ own is.
            let made : b.made ≡ box.made = ap (λ (y : Box). y.made) (sym is) ∙ by.more in
            record {
              made = subst (λ a. count_by (λ r. r.worker == a) ts + count_by (λ z. z.worker == a) naps ≤ b.made) (sym own) (omega (arith, (old.room i box by.there).made, made));
              places = λ open_box. absurd (false≢true (sym open_box ∙ ap (λ (y : Box). y.shut) (sym is) ∙ by.shut));
            });
        sent = old.sent;
        sent_too = old.sent_too;
        made = λ m some. old.made m (omega (arith, some, by.hands m));
        of_worker = λ k r there. subst (λ n. r.worker < n) (sym (ap length by.set ∙ length-set boxes i box')) (old.of_worker k r there);
        of_worker_too = λ n z there. subst (λ m. z.worker < m) (sym (ap length by.set ∙ length-set boxes i box')) (old.of_worker_too n z there);
      }
    where
      none_of : (m : Mail) → Contains [] m → ⊥
      none_of m (k, few, is) = omega (arith, few)

      owes_on : Shuts → (j t : ℕ) (a : Option Subject) → Owes j t a ts naps boxes → Owes j t a ts naps boxes'
      owes_on by j t None owes = owes
      owes_on by j t (Some (Subject.Timer n)) owes = owes
      owes_on by j t (Some (Subject.Request k)) owes = (
        owes.0,
        owes.1,
        record {
          worker = owes.2.worker;
          waiter = owes.2.waiter;
          unpaid = owes.2.unpaid;
          unsent = owes.2.unsent;
          over = ⊎_elim (λ over. inl over) (λ lost. inr (
            lost.0,
            λ b at.
                of_box j b by at
                (λ other was. lost.1 b was)
                (λ own is. ap (λ (y : Box). y.closing) (sym is) ∙ by.closing ∙ lost.1 box (subst (λ n. slice_get boxes n ≡ Some box) (sym own) by.there)),
          )) owes.2.over;
        },
      )
