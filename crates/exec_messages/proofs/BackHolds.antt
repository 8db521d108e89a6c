-- WHAT TASKS HOLD, where a worker pays a wake by what it wakes the task for, or sends the end of a thing to the task that waits
-- for it elsewhere.
use Rattle.std.proofs.{Common.{◌≡◌, inl, inr, ⊎_elim, ℕ, ◌+◌, ◌<◌, ◌||◌, true, false, List, length, Option, Some, IsSome, Result, Ok, Err, refl, sym, ap, subst, ◌∙◌, arith, slice_get, slice_set}, lemmas.Bool.false≢true}
use Rattle.exec_base.specs.{OneShot.sent as sent_into, declared.{error.Error.Error, one_shot.OneShotState.{OneShotState, TheVariants.Sent}}}
use Rattle.exec_request.specs.declared.output.RequestOutput.{RequestOutput}
use Rattle.exec_machine.specs.{declared.state.Forwarding.TheVariants.Applied, Tests.is_unsent}
use Rattle.exec_words.specs.declared.inbox.Message.{Message}
use Rattle.exec_parts.{specs.declared.parts.{held.Held.Held, mail.Subject.{Subject, Subject as subject}}, proofs.Facts.{by_number, same_Some, set_elsewhere, set_there}}
use Rattle.exec_invariants.{specs.Holding.{Awaits, AwaitsThing, Box, Hands, HasAnswer, Holder, HoldsRequest, IsAnswerOf, IsDue, IsHeldBy, IsHolding, Nap, NapOwes, Owes, Thing, ThingOwes, holdings, under_way}, proofs.{HoldLets.redone_alone, HoldRedo.holding_redone, HoldSleeps.nap_redone, HoldSteps.{awaits_on, holdings_on, homes_on, waiters_on}}}

-- A WAKE IS PAID: of the worker's hands only what it is about to wake changes, and nobody else is owed by the same

answer_paid : (o : OneShotState (Result RequestOutput Error)) (r : Thing) (n : ℕ) → HasAnswer o r → HasAnswer o (record r { paid = n })
answer_paid = grind arith

module _ (h : Hands) (wakes : ℕ → ℕ → ℕ) (workers : ℕ) (hs : List Holder) (ts : List Thing) (naps : List Nap) (boxes : List Box) (k : ℕ) (r : Thing) where
  pub record PaysThing : Type 0 where
    pub thing : slice_get ts k ≡ Some r
    pub fewer : (i u : ℕ) → 0 < wakes i u → wakes i u ≡ h.wakes i u
    pub unowed : (i u : ℕ) → 0 < wakes i u → ThingOwes i u r boxes → ⊥

  pub thing_pays : PaysThing → IsHolding h workers hs ts naps boxes → IsHolding (record h { wakes = wakes }) workers hs (slice_set ts k (record r { paid = r.paid + 1 })) naps boxes
  thing_pays by old =
      redone_alone h (record h { wakes = wakes }) workers hs ts naps boxes k r (record r { paid = r.paid + 1 })
      (grind (arith, answer_paid)) old

module _ (h : Hands) (wakes : ℕ → ℕ → ℕ) (workers : ℕ) (hs : List Holder) (ts : List Thing) (naps : List Nap) (boxes : List Box) (n : ℕ) (z z' : Nap) where
  -- a sleeper pays, or its end is sent
  pub record MarksNap : Type 0 where
    pub nap : slice_get naps n ≡ Some z
    pub is : z' ≡ record z { paid = z'.paid; sent = z'.sent }
    pub sent : z'.sent ≡ true → (z.forwarding ≡ Applied) × ((z.fired || z.removed) ≡ true)
    pub fewer : (i u : ℕ) → 0 < wakes i u → wakes i u ≡ h.wakes i u
    pub unowed : (i u : ℕ) → 0 < wakes i u → NapOwes i u z → ⊥

  pub nap_marked : MarksNap → IsHolding h workers hs ts naps boxes → IsHolding (record h { wakes = wakes }) workers hs ts (slice_set naps n z') boxes
  nap_marked by old =
      let forwarding : z'.forwarding ≡ z.forwarding = ap (λ (x : Nap). x.forwarding) by.is in
      let fired : z'.fired ≡ z.fired = ap (λ (x : Nap). x.fired) by.is in
      let removed : z'.removed ≡ z.removed = ap (λ (x : Nap). x.removed) by.is in
      nap_redone h (record h { wakes = wakes }) workers hs ts naps boxes n z z'
      (let here : (t : ℕ) (it : Holder) → slice_get hs t ≡ Some it → it.awaits ≡ Some (subject.Timer n) → IsSome it.home → is_unsent z'.forwarding ≡ true = λ t it at awaits home.
      let was = old.asleep t it n at awaits in
      let same : was.0 ≡ z = same_Some was.0 z (sym was.1 ∙ by.nap) in
      ap is_unsent forwarding ∙ sym (ap (λ (x : Nap). is_unsent x.forwarding) same) ∙ was.2.here home in
      grind arith) old

-- THE END OF A REQUEST IS SENT to the task that waits for it

module _ (h : Hands) (workers : ℕ) (hs : List Holder) (ts : List Thing) (naps : List Nap) (boxes : List Box) (t k : ℕ) (it : Holder) (r : Thing) (answer : Result RequestOutput Error) where
  pub record SendsThing : Type 0 where
    pub there : slice_get hs t ≡ Some it
    pub thing : slice_get ts k ≡ Some r
    pub waiter : r.waiter ≡ Some t
    pub applied : r.forwarding ≡ Applied
    pub unsent : r.sent ≡ false
    pub answers : IsAnswerOf answer r
    -- its worker is about to wake nobody
    pub unowed : (u : ℕ) → 0 < h.wakes r.worker u → ⊥

  still_waits : SendsThing → IsHolding h workers hs ts naps boxes → it.awaits ≡ Some (subject.Request k)
  still_waits by old =
      let due : IsDue r = inr (ap is_unsent by.applied, by.unsent) in
      let waits : Awaits (subject.Request k) t hs = old.waited k r t by.thing by.waiter due in
      let same : waits.it ≡ it = same_Some waits.it it (sym waits.there ∙ by.there) in
      sym (ap (λ (x : Holder). x.awaits) same) ∙ waits.awaits

  empty_by : (o : OneShotState (Result RequestOutput Error)) → r.sent ≡ false → HasAnswer o r → sent_into o answer ≡ Sent answer
  empty_by = grind arith

  filled : SendsThing → IsHolding h workers hs ts naps boxes → sent_into it.output answer ≡ Sent answer
  filled by old =
      let waits : it.awaits ≡ Some (subject.Request k) = still_waits by old in
      let a = old.awaiting t it k by.there waits in
      let same : a.0 ≡ r = same_Some a.0 r (sym a.1 ∙ by.thing) in
      let awaits : AwaitsThing workers t k it r = subst (AwaitsThing workers t k it) same a.2 in
      empty_by it.output by.unsent (awaits.answer (ap is_unsent by.applied))

  abbrev sent_it : Holder
  sent_it = record it { output = sent_into it.output answer }

  abbrev sent_thing : Thing
  sent_thing = record r { sent = true }

  holds_out : (j : ℕ) (x : Held) (y : Thing) → HoldsRequest workers t it x y → HoldsRequest workers t sent_it x y
  holds_out j x y held = record { worker = held.worker; near = held.near; here = held.here; waiter = held.waiter; awaited = held.awaited }

  holds_sent : (u : ℕ) (o : Holder) (x : Held) → HoldsRequest workers u o x r → HoldsRequest workers u o x sent_thing
  holds_sent u o x held = record { worker = held.worker; near = held.near; here = held.here; waiter = held.waiter; awaited = held.awaited }

  pub thing_sent : SendsThing → IsHolding h workers hs ts naps boxes → IsHolding h workers (slice_set hs t sent_it) (slice_set ts k sent_thing) naps boxes
  thing_sent by old =
      let hs' : List Holder = slice_set hs t sent_it in
      let ts' : List Thing = slice_set ts k sent_thing in
      let now : slice_get hs' t ≡ Some sent_it = set_there hs t sent_it it by.there in
      let waits : it.awaits ≡ Some (subject.Request k) = still_waits by old in
      let full : sent_into it.output answer ≡ Sent answer = filled by old in
      let me : (u : ℕ) → Some t ≡ Some u → t ≡ u = λ u is. same_Some t u is in
      let its : (u : ℕ) (o : Holder) → Some t ≡ Some u → slice_get hs' u ≡ Some o → sent_it ≡ o = λ u o is at. same_Some sent_it o (sym now ∙ subst (λ m. slice_get hs' m ≡ Some o) (sym (me u is)) at) in
      let same_holdings : (n : ℕ) → holdings n hs' ≡ holdings n hs = λ n. let then = holdings_on hs t it sent_it by.there n in omega (arith, then) in
      holding_redone h h workers hs hs' ts naps boxes (Some t) k r sent_thing (record {
        thing = by.thing;
        worker = refl;
        others = λ u apart. set_elsewhere hs t u sent_it (λ e. apart (ap (λ n. Some n) (sym e)));
        homes = homes_on hs t it sent_it by.there refl;
        holdings_of = λ n apart. same_holdings n;
        waiters_of = λ n. waiters_on hs t it sent_it by.there (subject.Timer n) refl;
        mail = λ m apart. refl;
        made = old.made;
        held = λ box at fact. subst (λ a. IsHeldBy box.shut r.observed a (under_way h (Message.Cancel (subject.Request k)) boxes)) (sym (same_holdings k)) fact;
        forwarded = λ box at fact. fact;
        asked = λ forwarded. let a = old.asked k r by.thing forwarded in (a.0, a.1, homes_on hs t it sent_it by.there refl a.0 a.2);
        sent = λ is. by.applied;
        waited = λ u waiter due.
            ⊎_elim
            (λ held. awaits_on hs t it sent_it by.there (subject.Request k) u (λ same w. w) (old.waited k r u by.thing waiter (inl held)))
            (λ never. absurd (false≢true (sym never.1))) due;
        waited_on = λ n u apart is. awaits_on hs t it sent_it by.there (subject.Request n) u (λ same w. w) is;
        sleeps_on = λ n u is. awaits_on hs t it sent_it by.there (subject.Timer n) u (λ same w. w) is;
        holds = λ u o j x is at_u at_j.
            let be = its u o is at_u in
            let at : slice_get it.held j ≡ Some x = ap (λ (y : Holder). slice_get y.held j) be ∙ at_j in
            let held = old.holds t it j x by.there at in
            by_number x.number k
            (λ apart. (held.0, set_elsewhere ts k x.number sent_thing apart ∙ held.1, subst (λ v. HoldsRequest workers v o x held.0) (me u is) (subst (λ y. HoldsRequest workers t y x held.0) be (holds_out j x held.0 held.2))))
            (λ same.
            let one : held.0 ≡ r = same_Some held.0 r (sym held.1 ∙ ap (slice_get ts) same ∙ by.thing) in (
              sent_thing,
              subst (λ m. slice_get ts' m ≡ Some sent_thing) (sym same) (set_there ts k sent_thing r by.thing),
              subst (λ v. HoldsRequest workers v o x sent_thing) (me u is) (subst (λ y. HoldsRequest workers t y x sent_thing) be (holds_out j x sent_thing (holds_sent t it x (subst (HoldsRequest workers t it x) one held.2)))),
            ));
        holds_else = λ u o j x apart at_u at_j is held. holds_sent u o x held;
        awaiting = λ u o n is at_u awaits.
            let be = its u o is at_u in
            let number : k ≡ n = same_request k n (sym waits ∙ ap (λ (y : Holder). y.awaits) be ∙ awaits) in
            let a = old.awaiting t it k by.there waits in
            let one : a.0 ≡ r = same_Some a.0 r (sym a.1 ∙ by.thing) in
            let was : AwaitsThing workers t k it r = subst (AwaitsThing workers t k it) one a.2 in
            let new : AwaitsThing workers t k sent_it sent_thing =
            record { waiter = was.waiter; near = was.near; here = was.here; newest = was.newest; answer = λ forwarded. subst (λ x. HasAnswer x sent_thing) (sym full) (refl, answered answer by.answers) } in (
              sent_thing,
              subst (λ m. slice_get ts' m ≡ Some sent_thing) number (set_there ts k sent_thing r by.thing),
              subst (λ m. AwaitsThing workers u m o sent_thing) number (subst (λ v. AwaitsThing workers v k o sent_thing) (me u is) (subst (λ y. AwaitsThing workers t k y sent_thing) be new)),
            );
        awaiting_else = λ u o apart at_u awaits a. absurd (apart (sym by.waiter ∙ a.waiter));
        asleep = λ u o n is at_u awaits. let no : Some (subject.Request k) ≡ Some (subject.Timer n) = sym waits ∙ ap (λ (y : Holder). y.awaits) (its u o is at_u) ∙ awaits in absurd (cc);
        over = λ u o is at_u over.
            let be = its u o is at_u in
            let was = old.over t it by.there (ap (λ (y : Holder). y.over) be ∙ over) in
            (ap (λ (y : Holder). length y.held) (sym be) ∙ was.0, λ home. ap (λ (y : Holder). y.awaits) (sym be) ∙ was.1 (subst (λ (y : Holder). IsSome y.home) (sym be) home));
        owed = λ i u some.
            let o = old.owed i u some in (
              o.0,
              by_number u t
                  (λ other. record { it = o.1.it; there = set_elsewhere hs t u sent_it other ∙ o.1.there; owes = owes_on by i u some o.1.it.awaits o.1.owes })
                  (λ same.
                  let one : it ≡ o.1.it = same_Some it o.1.it (sym by.there ∙ ap (slice_get hs) (sym same) ∙ o.1.there) in
                  record {
                    it = sent_it;
                    there = subst (λ m. slice_get hs' m ≡ Some sent_it) (sym same) now;
                    owes = owes_on by i u some it.awaits (subst (λ (y : Holder). Owes i u y.awaits ts naps boxes) (sym one) o.1.owes);
                  }),
            );
      }) old
    where
      same_request : (n m : ℕ) → Some (subject.Request n) ≡ Some (subject.Request m) → n ≡ m
      same_request n m is = cc

      answered : (x : Result RequestOutput Error) → IsAnswerOf x r → IsAnswerOf x sent_thing
      answered (Ok told) is = is
      answered (Err e) is = is

      owes_on : SendsThing → (i u : ℕ) → 0 < h.wakes i u → (a : Option Subject) → Owes i u a ts naps boxes → Owes i u a (slice_set ts k sent_thing) naps boxes
      owes_on = grind (arith, by_number, set_elsewhere, same_Some)
