-- WHAT TASKS HOLD, where a task takes an output, waits for a request, or lets go of one.
use Rattle.exec_invariants.{proofs.{Names.{◌≡◌, ◌≢◌, ◌⊎◌, inl, inr, ⊎_elim, ℕ, zero, suc, ◌+◌, ◌<◌, ◌≤◌, ◌==◌, ◌&&◌, Bool, true, false, not, cond, List, [], ◌∷◌, ◌++◌, count_by, Option, Some, None, IsSome, is_some, Result, refl, sym, ap, subst, ◌∙◌, arith, slice_get, slice_set, false≢true, eq-eqb, sum_by-cons, sum_by-append, Error, OneShotState, Outcome, RequestOutput, is_unsent, Message, Held, Subject, by_number, not_same, same_Some, set_elsewhere, set_there, subject}, HoldRedo.{count_set, holding_redone, sum_set}}, specs.Holding.{Awaits, Box, Hands, HasAnswer, Holder, HoldsRequest, IsHeldBy, IsHolding, IsOrdinary, IsOwed, MayHave, Nap, Owes, Thing, ThingOwes, holdings, is_awaited_by, under_way, waiters}}

-- how often a list names request k
abbrev pub held_in : ℕ → List Held → ℕ
held_in k held = count_by (λ h. h.number == k) held

-- what stands in a list counts
pub held_there : (k : ℕ) (held : List Held) (j : ℕ) (x : Held) → slice_get held j ≡ Some x → x.number ≡ k → 0 < held_in k held
held_there k held j x there is = counted held j there
  where
    weigh : Held → ℕ
    weigh h = cond (h.number == k) 1 0

    one : ℕ
    one = 1

    weighs : weigh x ≡ one
    weighs = ap (λ b. cond b one 0) (ap (λ n. n == k) is ∙ eq-eqb k k refl)

    counted : (xs : List Held) (j : ℕ) → slice_get xs j ≡ Some x → 0 < held_in k xs
    counted [] j there = absurd (cc)
    counted (y ∷ ys) zero there =
        let is_x : y ≡ x = cc in
        omega (arith, sum_by-cons weigh y ys, ap weigh is_x ∙ weighs)
    counted (y ∷ ys) (suc j) there =
        omega (arith, sum_by-cons weigh y ys, counted ys j there)

-- two tasks that hold it hold it twice
pub hold_twice : (k : ℕ) (hs : List Holder) (t u : ℕ) (it o : Holder) → t ≢ u → slice_get hs t ≡ Some it → slice_get hs u ≡ Some o → held_in k it.held + held_in k o.held ≤ holdings k hs
hold_twice k hs t u it o apart at_t at_u =
    let none : Holder = record it { held = [] } in
    let f : Holder → ℕ = λ x. held_in k x.held in
    omega (arith, sum_set f hs t it none at_t, sum_set f (slice_set hs t none) u o (record o { held = [] }) (set_elsewhere hs t u none (λ e. apart (sym e)) ∙ at_u))

pub hold_once : (k : ℕ) (hs : List Holder) (t : ℕ) (it : Holder) → slice_get hs t ≡ Some it → held_in k it.held ≤ holdings k hs
hold_once k hs t it at_t =
    let none : Holder = record it { held = [] } in
    omega (arith, sum_set (λ (x : Holder). held_in k x.held) hs t it none at_t)

-- A TASK BECAME ANOTHER, of the same home: it holds what it held, which it didn't wait for
pub holds_on : (workers t : ℕ) (it it' : Holder) (x : Held) (r : Thing) → it'.home ≡ it.home → (it.awaits ≡ Some (subject.Request x.number) → ⊥) → HoldsRequest workers t it x r → HoldsRequest workers t it' x r
holds_on workers t it it' x r home unawaited h = record { worker = h.worker; near = subst (λ q. MayHave workers q r.worker) (sym home) h.near; here = λ some. h.here (subst (λ q. IsSome q) home some); waiter = h.waiter; awaited = λ sent. absurd (unawaited (h.awaited sent)) }

module _ (hs : List Holder) (t : ℕ) (it it' : Holder) (there : slice_get hs t ≡ Some it) where
  pub homes_on : it'.home ≡ it.home → (u : ℕ) → IsOrdinary u hs → IsOrdinary u (slice_set hs t it')
  homes_on = grind (arith, by_number, set_elsewhere, same_Some, set_there)

  pub awaits_on : (s : Subject) (u : ℕ) → (u ≡ t → it.awaits ≡ Some s → it'.awaits ≡ Some s) → Awaits s u hs → Awaits s u (slice_set hs t it')
  awaits_on = grind (arith, by_number, set_elsewhere, same_Some, set_there)

  pub holdings_on : (n : ℕ) → holdings n (slice_set hs t it') + held_in n it.held ≡ holdings n hs + held_in n it'.held
  holdings_on n = sum_set (λ (x : Holder). held_in n x.held) hs t it it' there

  pub waiters_on : (s : Subject) → (not it'.over && is_awaited_by s it'.awaits) ≡ (not it.over && is_awaited_by s it.awaits) → waiters s (slice_set hs t it') ≡ waiters s hs
  waiters_on s same = count_set (λ (x : Holder). not x.over && is_awaited_by s x.awaits) hs t it it' there same

-- AN OUTPUT IS TAKEN: of request k, the newest that task t holds, once it is over

-- who holds the newest beside fewer
pub record IsNewest (k : ℕ) (held fewer : List Held) : Type 0 where
  pub x : Held
  pub number : x.number ≡ k
  pub all : held ≡ fewer ++ x ∷ []

pub get_front : {A : Type 0} (xs ys : List A) (j : ℕ) (q : A) → slice_get xs j ≡ Some q → slice_get (xs ++ ys) j ≡ Some q
get_front [] ys j q h = absurd (cc)
get_front (x ∷ xs) ys zero q h = h
get_front (x ∷ xs) ys (suc j) q h = get_front xs ys j q h

module _ (k : ℕ) (held fewer : List Held) (new : IsNewest k held fewer) where
  pub fewer_held : (j : ℕ) (x : Held) → slice_get fewer j ≡ Some x → slice_get held j ≡ Some x
  fewer_held j x at = ap (λ hs. slice_get hs j) new.all ∙ get_front fewer (new.x ∷ []) j x at

  pub one_more : held_in k held ≡ held_in k fewer + 1
  one_more = grind (arith, eq-eqb, sum_by-append)

  pub same_else : (n : ℕ) → n ≢ k → held_in n held ≡ held_in n fewer
  same_else = grind (arith, sum_by-append, not_same)

module _ (h : Hands) (workers : ℕ) (hs : List Holder) (ts : List Thing) (naps : List Nap) (boxes : List Box) (t k : ℕ) (it it' : Holder) (r : Thing) (e : Option Outcome) where
  pub record TakesThing : Type 0 where
    pub there : slice_get hs t ≡ Some it
    pub thing : slice_get ts k ≡ Some r
    pub newest : IsNewest k it.held it'.held
    pub took : it' ≡ record it { held = it'.held; awaits = None; output = it'.output }
    pub going : it.over ≡ false
    -- it waited for nothing else
    pub awaited : (it.awaits ≡ None) ⊎ (it.awaits ≡ Some (subject.Request k))
    pub ended : is_some r.ended ≡ true → e ≡ r.ended
    pub sent : is_unsent r.forwarding ≡ false → r.sent ≡ true
    -- nobody is about to wake it for that
    pub unowed : is_unsent r.forwarding ≡ true → h.wakes r.worker t ≡ 0
    pub box : Box
    pub seat : slice_get boxes r.worker ≡ Some box

  -- how often it is held: once, by this task
  pub record HeldOne : Type 0 where
    pub left : held_in k it'.held ≡ 0
    pub after : holdings k (slice_set hs t it') ≡ 0
    pub some : 0 < holdings k hs
    pub observed : r.observed ≡ true

  pub held_one : slice_get hs t ≡ Some it → slice_get ts k ≡ Some r → IsNewest k it.held it'.held → (box : Box) → slice_get boxes r.worker ≡ Some box → IsHolding h workers hs ts naps boxes → HeldOne
  held_one there thing newest box seat old =
      let by_shut : (shut held : Bool) → r.observed ≡ held → held_in k it.held ≡ held_in k it'.held + 1 → held_in k it.held ≤ holdings k hs → holdings k (slice_set hs t it') + held_in k it.held ≡ holdings k hs + held_in k it'.held → IsHeldBy shut held (holdings k hs) (under_way h (Message.Cancel (subject.Request k)) boxes) → HeldOne =
      grind arith in
      by_shut box.shut r.observed refl (one_more k it.held it'.held newest) (hold_once k hs t it there) (holdings_on hs t it it' there k) (old.held k r box thing seat)

  pub thing_taken : TakesThing → IsHolding h workers hs ts naps boxes → IsHolding h workers (slice_set hs t it') (slice_set ts k (record r { observed = false; ended = e })) naps boxes
  thing_taken by old =
      let same_request : (n m : ℕ) → subject.Request n ≡ subject.Request m → n ≡ m = λ n m e. cc in
      let owed_on : TakesThing → (i u : ℕ) → u ≢ t → IsOwed i u hs ts naps boxes → IsOwed i u (slice_set hs t it') (slice_set ts k (record r { observed = false; ended = e })) naps boxes =
      λ by i u other o. record { it = o.it; there = set_elsewhere hs t u it' other ∙ o.there; owes = owes_on by i u o.it.awaits o.owes } in
      let waits_same : TakesThing → (n : ℕ) → it'.awaits ≡ None → (not it'.over && is_awaited_by (subject.Timer n) it'.awaits) ≡ (not it.over && is_awaited_by (subject.Timer n) it.awaits) = grind arith in
      let unheld : (shut held : Bool) → held ≡ true → holdings k (slice_set hs t it') ≡ 0 → 0 < holdings k hs → IsHeldBy shut held (holdings k hs) (under_way h (Message.Cancel (subject.Request k)) boxes) → IsHeldBy shut false (holdings k (slice_set hs t it')) (under_way h (Message.Cancel (subject.Request k)) boxes) =
      grind arith in
      let answered : TakesThing → (o : OneShotState (Result RequestOutput Error)) → HasAnswer o r → HasAnswer o (record r { observed = false; ended = e }) = grind arith in
      let r' : Thing = record r { observed = false; ended = e } in
      let hs' : List Holder = slice_set hs t it' in
      let one = held_one by.there by.thing by.newest by.box by.seat old in
      let nothing : it'.awaits ≡ None = ap (λ (x : Holder). x.awaits) by.took in
      let going : it'.over ≡ false = ap (λ (x : Holder). x.over) by.took ∙ by.going in
      let home : it'.home ≡ it.home = ap (λ (x : Holder). x.home) by.took in
      let waits_none : (s : Subject) → (s ≡ subject.Request k → ⊥) → it.awaits ≡ Some s → ⊥ = λ s apart is.
      ⊎_elim (λ none. let no : None ≡ Some s = sym none ∙ is in absurd (cc)) (λ its. apart (same_Some s (subject.Request k) (sym is ∙ its))) by.awaited in
      let me : (u : ℕ) → Some t ≡ Some u → t ≡ u = λ u is. same_Some t u is in
      let its : (u : ℕ) (o : Holder) → Some t ≡ Some u → slice_get hs' u ≡ Some o → it' ≡ o = λ u o is at. same_Some it' o (sym (set_there hs t it' it by.there) ∙ subst (λ m. slice_get hs' m ≡ Some o) (sym (me u is)) at) in
      holding_redone h h workers hs hs' ts naps boxes (Some t) k r r' (record {
        thing = by.thing;
        worker = refl;
        others = λ u apart. set_elsewhere hs t u it' (λ e. apart (ap (λ n. Some n) (sym e)));
        homes = homes_on hs t it it' by.there home;
        holdings_of = λ n apart. let same = same_else k it.held it'.held by.newest n apart in let after = holdings_on hs t it it' by.there n in omega (arith, same, after);
        waiters_of = λ n. waiters_on hs t it it' by.there (subject.Timer n) (waits_same by n nothing);
        mail = λ m apart. refl;
        made = old.made;
        held = λ box at fact. unheld box.shut r.observed one.observed one.after one.some fact;
        forwarded = λ box at fact. fact;
        asked = λ sent. let a = old.asked k r by.thing sent in (a.0, a.1, homes_on hs t it it' by.there home a.0 a.2);
        sent = old.sent k r by.thing;
        waited = λ u waiter due. absurd (⊎_elim (λ no. false≢true no) (λ d. false≢true (sym d.1 ∙ by.sent d.0)) due);
        waited_on = λ n u apart is. awaits_on hs t it it' by.there (subject.Request n) u (λ same w. absurd (waits_none (subject.Request n) (λ e. apart (same_request n k e)) w)) is;
        sleeps_on = λ n u is. awaits_on hs t it it' by.there (subject.Timer n) u (λ same w. absurd (waits_none (subject.Timer n) (λ e. absurd (cc)) w)) is;
        holds = λ u o j x is at_u at_j.
            let be = its u o is at_u in
            let at : slice_get it'.held j ≡ Some x = ap (λ (y : Holder). slice_get y.held j) be ∙ at_j in
            let held = old.holds t it j x by.there (fewer_held k it.held it'.held by.newest j x at) in
            let other : x.number ≢ k = λ same. let some = held_there k it'.held j x at same in let none = one.left in omega (arith, some, none) in (
              held.0,
              set_elsewhere ts k x.number r' other ∙ held.1,
              subst (λ v. HoldsRequest workers v o x held.0) (me u is) (subst (λ y. HoldsRequest workers t y x held.0) be (holds_on workers t it it' x held.0 home (waits_none (subject.Request x.number) (λ e. other (same_request x.number k e))) held.2)),
            );
        holds_else = λ u o j x apart at_u at_j is held. record { worker = held.worker; near = held.near; here = held.here; waiter = held.waiter; awaited = held.awaited };
        awaiting = λ u o n is at_u awaits. let no : None ≡ Some (subject.Request n) = sym nothing ∙ ap (λ (y : Holder). y.awaits) (its u o is at_u) ∙ awaits in absurd (cc);
        awaiting_else = λ u o apart at_u awaits a. record { waiter = a.waiter; near = a.near; here = a.here; newest = a.newest; answer = λ sent. answered by o.output (a.answer sent) };
        asleep = λ u o n is at_u awaits. let no : None ≡ Some (subject.Timer n) = sym nothing ∙ ap (λ (y : Holder). y.awaits) (its u o is at_u) ∙ awaits in absurd (cc);
        over = λ u o is at_u over. absurd (false≢true (sym going ∙ ap (λ (y : Holder). y.over) (its u o is at_u) ∙ over));
        owed = λ i u some.
            let o = old.owed i u some in (
              o.0,
              by_number u t
                  (λ other. owed_on by i u other o.1)
                  (λ same. absurd (unpaid by i (subst (λ m. 0 < h.wakes i m) same some) (subst (λ m. IsOwed i m hs ts naps boxes) same o.1))),
            );
      }) old
    where
      unpaid : TakesThing → (i : ℕ) → 0 < h.wakes i t → IsOwed i t hs ts naps boxes → ⊥
      unpaid = grind arith

      owes_on : TakesThing → (i u : ℕ) → (a : Option Subject) → Owes i u a ts naps boxes → Owes i u a (slice_set ts k (record r { observed = false; ended = e })) naps boxes
      owes_on by i u None owes = owes
      owes_on by i u (Some (subject.Timer n)) owes = owes
      owes_on by i u (Some (subject.Request n)) owes =
          by_number n k
          (λ apart. (owes.0, set_elsewhere ts k n (record r { observed = false; ended = e }) apart ∙ owes.1, owes.2))
          (λ same.
          let it_owes : ThingOwes i u r boxes = subst (λ x. ThingOwes i u x boxes) (same_Some owes.0 r (sym owes.1 ∙ ap (slice_get ts) same ∙ by.thing)) owes.2 in (
            record r { observed = false; ended = e },
            subst (λ m. slice_get (slice_set ts k (record r { observed = false; ended = e })) m ≡ Some (record r { observed = false; ended = e })) (sym same) (set_there ts k (record r { observed = false; ended = e }) r by.thing),
            record { worker = it_owes.worker; waiter = it_owes.waiter; unpaid = it_owes.unpaid; unsent = it_owes.unsent; over = ⊎_elim (λ over. inl (ap is_some (by.ended over) ∙ over)) (λ lost. inr (refl, lost.1)) it_owes.over },
          ))
