-- WHAT TASKS HOLD, where a worker is told of a request that nobody holds it, or that it is waited for elsewhere; and where it
-- pays a wake.
use Rattle.exec_invariants.{proofs.{Names.{◌≡◌, ◌≢◌, ℕ, ◌+◌, ◌<◌, ◌≤◌, ◌&&◌, Bool, true, false, not, List, sum_by, Option, Some, None, refl, sym, ap, subst, ◌∙◌, arith, slice_get, slice_set, false≢true, Applied, is_unsent, Message, Subject, by_number, same_Some, set_elsewhere, set_there, subject}, Turning.set_found, HoldRedo.{IsApart, holding_redone}, HoldSteps.{IsNewest, fewer_held, hold_once, one_more, same_else, awaits_on, held_in, holdings_on, homes_on, waiters_on, holds_on}}, specs.Holding.{Box, Hands, HasAnswer, Holder, HoldsRequest, IsAbout, IsDue, IsForwarded, IsHeldBy, IsHolding, Mail, Nap, Owes, Thing, ThingOwes, holdings, is_awaited_by, mail_in, under_way}}

-- A REQUEST OF ITS OWN that a task lets go of elsewhere: its worker is told that nobody holds it
module _ (h h' : Hands) (workers : ℕ) (hs : List Holder) (ts : List Thing) (naps : List Nap) (boxes : List Box) (t k : ℕ) (it it' : Holder) (r : Thing) where
  pub record TellsThing : Type 0 where
    pub there : slice_get hs t ≡ Some it
    pub thing : slice_get ts k ≡ Some r
    pub newest : IsNewest k it.held it'.held
    pub drops : it' ≡ record it { held = it'.held }
    pub going : it.over ≡ false
    pub idle : it.awaits ≡ None
    pub mail : (m : Mail) → m ≢ Message.Cancel (subject.Request k) → h'.mail m ≡ h.mail m
    pub told : h'.mail (Message.Cancel (subject.Request k)) ≡ h.mail (Message.Cancel (subject.Request k)) + 1
    pub wakes : h'.wakes ≡ h.wakes
    pub made : (m : Mail) → 0 < h'.mail m → (j : ℕ) × IsAbout workers j m ts naps

  pub thing_told : TellsThing → IsHolding h workers hs ts naps boxes → IsHolding h' workers (slice_set hs t it') ts naps boxes
  thing_told by old =
      let told_on : (shut held : Bool) → held_in k it.held ≡ held_in k it'.held + 1 → held_in k it.held ≤ holdings k hs → holdings k (slice_set hs t it') + held_in k it.held ≡ holdings k hs + held_in k it'.held → IsHeldBy shut held (holdings k hs) (under_way h (Message.Cancel (subject.Request k)) boxes) → h'.mail (Message.Cancel (subject.Request k)) ≡ h.mail (Message.Cancel (subject.Request k)) + 1 → IsHeldBy shut held (holdings k (slice_set hs t it')) (under_way h' (Message.Cancel (subject.Request k)) boxes) =
      grind arith in
      let hs' : List Holder = slice_set hs t it' in
      let same : slice_set ts k r ≡ ts = set_found ts k r by.thing in
      let idle : it'.awaits ≡ None = ap (λ (x : Holder). x.awaits) by.drops ∙ by.idle in
      let going : it'.over ≡ false = ap (λ (x : Holder). x.over) by.drops ∙ by.going in
      let home : it'.home ≡ it.home = ap (λ (x : Holder). x.home) by.drops in
      let never : (s : Subject) → it.awaits ≡ Some s → ⊥ = λ s is. let no : None ≡ Some s = sym by.idle ∙ is in absurd (cc) in
      let me : (u : ℕ) → Some t ≡ Some u → t ≡ u = λ u is. same_Some t u is in
      let its : (u : ℕ) (o : Holder) → Some t ≡ Some u → slice_get hs' u ≡ Some o → it' ≡ o = λ u o is at. same_Some it' o (sym (set_there hs t it' it by.there) ∙ subst (λ m. slice_get hs' m ≡ Some o) (sym (me u is)) at) in
      subst (λ xs. IsHolding h' workers hs' xs naps boxes) same (holding_redone h h' workers hs hs' ts naps boxes (Some t) k r r (record {
        thing = by.thing;
        worker = refl;
        others = λ u apart. set_elsewhere hs t u it' (λ e. apart (ap (λ n. Some n) (sym e)));
        homes = homes_on hs t it it' by.there home;
        holdings_of = λ n apart. let equal = same_else k it.held it'.held by.newest n apart in let then = holdings_on hs t it it' by.there n in omega (arith, equal, then);
        waiters_of = λ n. waiters_on hs t it it' by.there (subject.Timer n) (ap (λ (x : Holder). not x.over && is_awaited_by (subject.Timer n) x.awaits) by.drops);
        mail = λ m apart. by.mail m apart.cancel;
        made = by.made;
        held = λ box at fact. told_on box.shut r.observed (one_more k it.held it'.held by.newest) (hold_once k hs t it by.there) (holdings_on hs t it it' by.there k) fact by.told;
        forwarded = λ box at fact. subst (λ a. IsForwarded box.shut r.forwarding (a + sum_by (λ b. mail_in (Message.Forward (subject.Request k)) b.messages) boxes)) (sym (by.mail (Message.Forward (subject.Request k)) (λ e. absurd (cc)))) fact;
        asked = λ sent. let a = old.asked k r by.thing sent in (a.0, a.1, homes_on hs t it it' by.there home a.0 a.2);
        sent = old.sent k r by.thing;
        waited = λ u waiter due. awaits_on hs t it it' by.there (subject.Request k) u (λ same w. absurd (never (subject.Request k) w)) (old.waited k r u by.thing waiter due);
        waited_on = λ n u apart is. awaits_on hs t it it' by.there (subject.Request n) u (λ same w. absurd (never (subject.Request n) w)) is;
        sleeps_on = λ n u is. awaits_on hs t it it' by.there (subject.Timer n) u (λ same w. absurd (never (subject.Timer n) w)) is;
        holds = λ u o j x is at_u at_j.
            let be = its u o is at_u in
            let held = old.holds t it j x by.there (fewer_held k it.held it'.held by.newest j x (ap (λ (y : Holder). slice_get y.held j) be ∙ at_j)) in (
              held.0,
              ap (λ xs. slice_get xs x.number) same ∙ held.1,
              subst (λ v. HoldsRequest workers v o x held.0) (me u is) (subst (λ y. HoldsRequest workers t y x held.0) be (holds_on workers t it it' x held.0 home (never (subject.Request x.number)) held.2)),
            );
        holds_else = λ u o j x apart at_u at_j is held. held;
        awaiting = λ u o n is at_u awaits. let no : None ≡ Some (subject.Request n) = sym idle ∙ ap (λ (y : Holder). y.awaits) (its u o is at_u) ∙ awaits in absurd (cc);
        awaiting_else = λ u o apart at_u awaits a. a;
        asleep = λ u o n is at_u awaits. let no : None ≡ Some (subject.Timer n) = sym idle ∙ ap (λ (y : Holder). y.awaits) (its u o is at_u) ∙ awaits in absurd (cc);
        over = λ u o is at_u over. absurd (false≢true (sym going ∙ ap (λ (y : Holder). y.over) (its u o is at_u) ∙ over));
        owed = λ i u some.
            let o = old.owed i u (subst (λ (f : ℕ → ℕ → ℕ). 0 < f i u) by.wakes some) in (
              ap (λ (f : ℕ → ℕ → ℕ). f i u) by.wakes ∙ o.0,
              by_number u t
                  (λ other. record { it = o.1.it; there = set_elsewhere hs t u it' other ∙ o.1.there; owes = subst (λ xs. Owes i u o.1.it.awaits xs naps boxes) (sym same) o.1.owes })
                  (λ is.
                  absurd (subst (λ a. Owes i u a ts naps boxes) by.idle (subst (λ (y : Holder). Owes i u y.awaits ts naps boxes) (sym (same_Some it o.1.it (sym by.there ∙ ap (slice_get hs) (sym is) ∙ o.1.there))) o.1.owes))),
            );
      }) old)

-- ITS WORKER changes a request, and no task
module _ (h h' : Hands) (workers : ℕ) (hs : List Holder) (ts : List Thing) (naps : List Nap) (boxes : List Box) (k : ℕ) (r r' : Thing) where
  pub record RedoesAlone : Type 0 where
    pub thing : slice_get ts k ≡ Some r
    pub worker : r'.worker ≡ r.worker
    pub waiter : r'.waiter ≡ r.waiter
    pub mail : (m : Mail) → IsApart k m → h'.mail m ≡ h.mail m
    pub made : (m : Mail) → 0 < h'.mail m → 0 < h.mail m
    pub held : (box : Box) → slice_get boxes r.worker ≡ Some box → IsHeldBy box.shut r.observed (holdings k hs) (under_way h (Message.Cancel (subject.Request k)) boxes) → IsHeldBy box.shut r'.observed (holdings k hs) (under_way h' (Message.Cancel (subject.Request k)) boxes)
    pub forwarded : (box : Box) → slice_get boxes r.worker ≡ Some box → IsForwarded box.shut r.forwarding (under_way h (Message.Forward (subject.Request k)) boxes) → IsForwarded box.shut r'.forwarding (under_way h' (Message.Forward (subject.Request k)) boxes)
    pub unsent : is_unsent r'.forwarding ≡ is_unsent r.forwarding
    pub sent : r'.sent ≡ true → r'.forwarding ≡ Applied
    pub due : IsDue r' → IsDue r
    pub answer : (u : ℕ) (o : Holder) → slice_get hs u ≡ Some o → o.awaits ≡ Some (subject.Request k) → HasAnswer o.output r → HasAnswer o.output r'
    pub fewer : (i u : ℕ) → 0 < h'.wakes i u → h'.wakes i u ≡ h.wakes i u
    pub owes : (i u : ℕ) → 0 < h'.wakes i u → ThingOwes i u r boxes → ThingOwes i u r' boxes

  pub redone_alone : RedoesAlone → IsHolding h workers hs ts naps boxes → IsHolding h' workers hs (slice_set ts k r') naps boxes
  redone_alone by old =
      let owes_on : RedoesAlone → (i u : ℕ) → 0 < h'.wakes i u → (a : Option Subject) → Owes i u a ts naps boxes → Owes i u a (slice_set ts k r') naps boxes = grind (arith, by_number, set_elsewhere, same_Some, set_there) in
      holding_redone h h' workers hs hs ts naps boxes None k r r' (record {
        thing = by.thing;
        worker = by.worker;
        others = λ u apart. refl;
        homes = λ u is. is;
        holdings_of = λ n apart. refl;
        waiters_of = λ n. refl;
        mail = by.mail;
        made = λ m some. old.made m (by.made m some);
        held = by.held;
        forwarded = by.forwarded;
        asked = λ sent. let a = old.asked k r by.thing (sym by.unsent ∙ sent) in (a.0, by.waiter ∙ a.1, a.2);
        sent = by.sent;
        waited = λ u waiter due. old.waited k r u by.thing (sym by.waiter ∙ waiter) (by.due due);
        waited_on = λ n u apart is. is;
        sleeps_on = λ n u is. is;
        holds = λ u o j x is at_u at_j. let no : None ≡ Some u = is in absurd (cc);
        holds_else = λ u o j x apart at_u at_j is held.
            grind (arith, by.worker, held.worker, workers, o.home, held.near, by.unsent, held.here, held.waiter, by.waiter, held.awaited);
        awaiting = λ u o n is at_u awaits. let no : None ≡ Some u = is in absurd (cc);
        awaiting_else = λ u o apart at_u awaits a.
            grind (arith, by.waiter, a.waiter, workers, o.home, by.worker, a.near, by.unsent, a.here, a.newest, by.answer, at_u, awaits, a.answer);
        asleep = λ u o n is at_u awaits. let no : None ≡ Some u = is in absurd (cc);
        over = λ u o is at_u over. let no : None ≡ Some u = is in absurd (cc);
        owed = λ i u some.
            let same = by.fewer i u some in
            let o = old.owed i u (subst (λ n. 0 < n) same some) in
            (same ∙ o.0, record { it = o.1.it; there = o.1.there; owes = owes_on by i u some o.1.it.awaits o.1.owes });
      }) old
