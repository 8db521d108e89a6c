-- WHAT TASKS HOLD, where a task waits for a request of its worker's, or of another that is asked for its end.
use Rattle.exec_invariants.{proofs.{Names.{◌≡◌, ◌≢◌, ◌⊎◌, ⊎_elim, ℕ, zero, suc, ◌+◌, ◌-◌, ◌<◌, ◌≤◌, ◌&&◌, Bool, true, false, not, List, [], ◌∷◌, length, sum_by, Option, Some, None, IsSome, refl, sym, ap, subst, ◌∙◌, arith, slice_get, slice_set, false≢true, Unanswered as Open, Forwarding, is_unsent, Message, Held, Subject, numbers_held, by_number, same_Some, set_elsewhere, set_there, subject, false_from_ne_true}, HoldRedo.holding_redone, HoldSteps.{awaits_on, held_in, held_there, hold_twice, holdings_on, homes_on, waiters_on, holds_on}}, specs.Holding.{Awaits, AwaitsThing, Box, Hands, HasAnswer, Holder, HoldsRequest, IsAbout, IsForwarded, IsHeldBy, IsHolding, Mail, MayHave, Nap, Owes, Thing, ThingOwes, holdings, is_awaited_by, mail_in, under_way}}

-- A TASK WAITS for request k, the newest that it holds

-- a number is that of what is held
pub held_number : (held : List Held) (j k : ℕ) → slice_get (numbers_held held) j ≡ Some k → (x : Held) × (slice_get held j ≡ Some x) × (x.number ≡ k)
held_number [] j k at = absurd (cc)
held_number (x ∷ xs) zero k at = (x, refl, same_Some x.number k at)
held_number (x ∷ xs) (suc j) k at = held_number xs j k at

module _ (h h' : Hands) (workers : ℕ) (hs : List Holder) (ts : List Thing) (naps : List Nap) (boxes : List Box) (t k : ℕ) (it it' : Holder) (r : Thing) (f : Forwarding) where
  pub record WaitsFor : Type 0 where
    pub there : slice_get hs t ≡ Some it
    pub thing : slice_get ts k ≡ Some r
    pub newest : slice_get (numbers_held it.held) (length (numbers_held it.held) - 1) ≡ Some k
    pub waits : it' ≡ record it { awaits = Some (subject.Request k); output = it'.output }
    pub going : it.over ≡ false
    -- it waited for nothing else
    pub awaited : (it.awaits ≡ None) ⊎ (it.awaits ≡ Some (subject.Request k))
    pub unsent : is_unsent r.forwarding ≡ true
    -- where its worker is to be told, it is an ordinary one, which hears nothing yet
    pub ordinary : is_unsent f ≡ false → it.home ≡ None
    pub output : is_unsent f ≡ false → it'.output ≡ Open
    pub forwarded : (box : Box) → slice_get boxes r.worker ≡ Some box → IsForwarded box.shut r.forwarding (under_way h (Message.Forward (subject.Request k)) boxes) → IsForwarded box.shut f (under_way h' (Message.Forward (subject.Request k)) boxes)
    pub mail : (m : Mail) → m ≢ Message.Forward (subject.Request k) → h'.mail m ≡ h.mail m
    pub wakes : h'.wakes ≡ h.wakes
    pub made : (m : Mail) → 0 < h'.mail m → (j : ℕ) × IsAbout workers j m ts naps
    pub box : Box
    pub seat : slice_get boxes r.worker ≡ Some box

  -- this task holds it, and no other
  pub record HoldsAlone : Type 0 where
    pub x : Held
    pub number : x.number ≡ k
    pub holds : HoldsRequest workers t it x r
    pub alone : (u : ℕ) (o : Holder) (j : ℕ) (y : Held) → t ≢ u → slice_get hs u ≡ Some o → slice_get o.held j ≡ Some y → y.number ≡ k → ⊥

  pub holds_alone : slice_get hs t ≡ Some it → slice_get ts k ≡ Some r → (j : ℕ) → slice_get (numbers_held it.held) j ≡ Some k → (box : Box) → slice_get boxes r.worker ≡ Some box → IsHolding h workers hs ts naps boxes → HoldsAlone
  holds_alone there thing j at box seat old =
      let by_shut : (shut held : Bool) → 2 ≤ holdings k hs → IsHeldBy shut held (holdings k hs) (under_way h (Message.Cancel (subject.Request k)) boxes) → ⊥ = grind arith in
      let x = held_number it.held j k at in
      let held = old.holds t it j x.0 there x.1 in
      record {
        x = x.0;
        number = x.2;
        holds = subst (HoldsRequest workers t it x.0) (same_Some held.0 r (sym held.1 ∙ ap (slice_get ts) x.2 ∙ thing)) held.2;
        alone = λ u o l y apart at_u at_l same.
            by_shut box.shut r.observed (omega (arith, held_there k it.held j x.0 x.1 x.2, held_there k o.held l y at_l same, hold_twice k hs t u it o apart there at_u)) (old.held k r box thing seat);
      }

  pub thing_awaited : WaitsFor → IsHolding h workers hs ts naps boxes → IsHolding h' workers (slice_set hs t it') (slice_set ts k (record r { waiter = Some t; forwarding = f })) naps boxes
  thing_awaited by old =
      let same_request : (n m : ℕ) → subject.Request n ≡ subject.Request m → n ≡ m = λ n m e. cc in
      let owes_its : WaitsFor → (i u : ℕ) → u ≡ t → Owes i u (Some (subject.Request k)) ts naps boxes → Owes i u (Some (subject.Request k)) (slice_set ts k (record r { waiter = Some t; forwarding = f })) naps boxes = λ by i u me owes.
      let is : owes.0 ≡ r = same_Some owes.0 r (sym owes.1 ∙ by.thing) in
      let it_owes : ThingOwes i u r boxes = subst (λ x. ThingOwes i u x boxes) is owes.2 in (
        record r { waiter = Some t; forwarding = f },
        set_there ts k (record r { waiter = Some t; forwarding = f }) r by.thing,
        record { worker = it_owes.worker; waiter = ap (λ n. Some n) (sym me); unpaid = it_owes.unpaid; unsent = it_owes.unsent; over = it_owes.over },
      ) in
      let owes_mine : WaitsFor → (i u : ℕ) → u ≡ t → Owes i u it.awaits ts naps boxes → Owes i u (Some (subject.Request k)) (slice_set ts k (record r { waiter = Some t; forwarding = f })) naps boxes = λ by i u me owes.
      ⊎_elim
      (λ none. absurd (subst (λ a. Owes i u a ts naps boxes) none owes))
      (λ its. owes_its by i u me (subst (λ a. Owes i u a ts naps boxes) its owes)) by.awaited in
      let same_holdings : (n : ℕ) → it'.held ≡ it.held → slice_get hs t ≡ Some it → holdings n (slice_set hs t it') ≡ holdings n hs = grind (arith, holdings_on, held_in) in
      let waits_same : WaitsFor → (n : ℕ) → it'.awaits ≡ Some (subject.Request k) → (not it'.over && is_awaited_by (subject.Timer n) it'.awaits) ≡ (not it.over && is_awaited_by (subject.Timer n) it.awaits) = grind arith in
      -- another task isn't owed a wake by it
      let owes_on : WaitsFor → (i u : ℕ) → (a : Option Subject) → (r.waiter ≡ Some u → ⊥) → Owes i u a ts naps boxes → Owes i u a (slice_set ts k (record r { waiter = Some t; forwarding = f })) naps boxes =
      grind (arith, by_number, set_elsewhere, same_Some) in
      let r' : Thing = record r { waiter = Some t; forwarding = f } in
      let hs' : List Holder = slice_set hs t it' in
      let mine = holds_alone by.there by.thing (length (numbers_held it.held) - 1) by.newest by.box by.seat old in
      let now : slice_get hs' t ≡ Some it' = set_there hs t it' it by.there in
      let awaits : it'.awaits ≡ Some (subject.Request k) = ap (λ (x : Holder). x.awaits) by.waits in
      let held_same : it'.held ≡ it.held = ap (λ (x : Holder). x.held) by.waits in
      let going : it'.over ≡ false = ap (λ (x : Holder). x.over) by.waits ∙ by.going in
      let home : it'.home ≡ it.home = ap (λ (x : Holder). x.home) by.waits in
      let here : IsSome it'.home → is_unsent f ≡ true = λ some. at_home by (is_unsent f) refl (subst (λ q. IsSome q) home some) in
      let waits_none : (s : Subject) → (s ≡ subject.Request k → ⊥) → it.awaits ≡ Some s → ⊥ = λ s apart is.
      ⊎_elim (λ none. let no : None ≡ Some s = sym none ∙ is in absurd (cc)) (λ its. apart (same_Some s (subject.Request k) (sym is ∙ its))) by.awaited in
      let me : (u : ℕ) → Some t ≡ Some u → t ≡ u = λ u is. same_Some t u is in
      let its : (u : ℕ) (o : Holder) → Some t ≡ Some u → slice_get hs' u ≡ Some o → it' ≡ o = λ u o is at. same_Some it' o (sym now ∙ subst (λ m. slice_get hs' m ≡ Some o) (sym (me u is)) at) in
      let near : MayHave workers it'.home r.worker = subst (λ q. MayHave workers q r.worker) (sym home) mine.holds.near in
      let silent : r.sent ≡ false = false_from_ne_true r.sent (λ is. false≢true (sym (ap is_unsent (old.sent k r by.thing is)) ∙ by.unsent)) in
      holding_redone h h' workers hs hs' ts naps boxes (Some t) k r r' (record {
        thing = by.thing;
        worker = refl;
        others = λ u apart. set_elsewhere hs t u it' (λ e. apart (ap (λ n. Some n) (sym e)));
        homes = homes_on hs t it it' by.there home;
        holdings_of = λ n apart. same_holdings n held_same by.there;
        waiters_of = λ n. waiters_on hs t it it' by.there (subject.Timer n) (waits_same by n awaits);
        mail = λ m apart. by.mail m apart.forward;
        made = by.made;
        held = λ box at fact. subst (λ a. IsHeldBy box.shut r.observed a (under_way h' (Message.Cancel (subject.Request k)) boxes)) (sym (same_holdings k held_same by.there))
            (subst (λ a. IsHeldBy box.shut r.observed (holdings k hs) (a + sum_by (λ b. mail_in (Message.Cancel (subject.Request k)) b.messages) boxes)) (sym (by.mail (Message.Cancel (subject.Request k)) (λ e. absurd (cc)))) fact);
        forwarded = by.forwarded;
        asked = λ sent. (t, refl, record { it = it'; there = now; home = home ∙ by.ordinary sent });
        sent = λ sent. absurd (false≢true (sym silent ∙ sent));
        waited = λ u waiter due. subst (λ v. Awaits (subject.Request k) v hs') (me u waiter) (record { it = it'; there = now; awaits = awaits });
        waited_on = λ n u apart is. awaits_on hs t it it' by.there (subject.Request n) u (λ same w. absurd (waits_none (subject.Request n) (λ e. apart (same_request n k e)) w)) is;
        sleeps_on = λ n u is. awaits_on hs t it it' by.there (subject.Timer n) u (λ same w. absurd (waits_none (subject.Timer n) (λ e. absurd (cc)) w)) is;
        holds = λ u o j x is at_u at_j.
            let be = its u o is at_u in
            let held = old.holds t it j x by.there (ap (λ ys. slice_get ys j) (sym held_same) ∙ ap (λ (y : Holder). slice_get y.held j) be ∙ at_j) in
            by_number x.number k
            (λ other. (
              held.0,
              set_elsewhere ts k x.number r' other ∙ held.1,
              subst (λ v. HoldsRequest workers v o x held.0) (me u is) (subst (λ y. HoldsRequest workers t y x held.0) be (holds_on workers t it it' x held.0 home (waits_none (subject.Request x.number) (λ e. other (same_request x.number k e))) held.2)),
            ))
            (λ same.
            let is_r : held.0 ≡ r = same_Some held.0 r (sym held.1 ∙ ap (slice_get ts) same ∙ by.thing) in (
              r',
              subst (λ m. slice_get (slice_set ts k r') m ≡ Some r') (sym same) (set_there ts k r' r by.thing),
              subst (λ v. HoldsRequest workers v o x r') (me u is) (subst (λ y. HoldsRequest workers t y x r') be
                  (record {
                    worker = ap (λ (y : Thing). y.worker) (sym is_r) ∙ held.2.worker;
                    near = near;
                    here = here;
                    waiter = λ v waiter. sym (me v waiter);
                    awaited = λ sent. awaits ∙ ap (λ n. Some (subject.Request n)) (sym same);
                  })),
            ));
        holds_else = λ u o j x apart at_u at_j is held. absurd (mine.alone u o j x (λ e. apart (ap (λ n. Some n) e)) at_u at_j is);
        awaiting = λ u o n is at_u awaits_n.
            let be = its u o is at_u in
            let same : k ≡ n = same_request k n (same_Some (subject.Request k) (subject.Request n) (sym awaits ∙ ap (λ (y : Holder). y.awaits) be ∙ awaits_n)) in
            subst (λ m. (rx : Thing) × (slice_get (slice_set ts k r') m ≡ Some rx) × AwaitsThing workers u m o rx) same (
              r',
              set_there ts k r' r by.thing,
              subst (λ v. AwaitsThing workers v k o r') (me u is) (subst (λ y. AwaitsThing workers t k y r') be
                  (record {
                    waiter = refl;
                    near = near;
                    here = here;
                    newest = λ open_still. ap (λ ys. slice_get (numbers_held ys) (length (numbers_held ys) - 1)) held_same ∙ by.newest;
                    answer = λ sent. subst (λ a. HasAnswer a r') (sym (by.output sent)) silent;
                  })),
            );
        awaiting_else = λ u o apart at_u awaits_k a. absurd (apart (ap (λ n. Some n) (sym (mine.holds.waiter u a.waiter))));
        asleep = λ u o n is at_u awaits_n. let no : Some (subject.Request k) ≡ Some (subject.Timer n) = sym awaits ∙ ap (λ (y : Holder). y.awaits) (its u o is at_u) ∙ awaits_n in absurd (cc);
        over = λ u o is at_u over. absurd (false≢true (sym going ∙ ap (λ (y : Holder). y.over) (its u o is at_u) ∙ over));
        owed = λ i u some.
            let o = old.owed i u (subst (λ (f : ℕ → ℕ → ℕ). 0 < f i u) by.wakes some) in (
              ap (λ (f : ℕ → ℕ → ℕ). f i u) by.wakes ∙ o.0,
              by_number u t
                  (λ other. record { it = o.1.it; there = set_elsewhere hs t u it' other ∙ o.1.there; owes = owes_on by i u o.1.it.awaits (λ w. other (mine.holds.waiter u w)) o.1.owes })
                  (λ same.
                  record {
                    it = it';
                    there = subst (λ m. slice_get hs' m ≡ Some it') (sym same) now;
                    owes = subst (λ a. Owes i u a (slice_set ts k r') naps boxes) (sym awaits)
                        (owes_mine by i u same (subst (λ (y : Holder). Owes i u y.awaits ts naps boxes) (sym (same_Some it o.1.it (sym by.there ∙ ap (slice_get hs) (sym same) ∙ o.1.there))) o.1.owes));
                  }),
            );
      }) old
    where
      at_home : WaitsFor → (b : Bool) → is_unsent f ≡ b → IsSome it.home → is_unsent f ≡ true
      at_home by true is some = is
      at_home by false is some = absurd (false≢true (subst (λ q. IsSome q) (by.ordinary is) some))
