-- WHAT TASKS HOLD, once a task is over: what it held of the worker that ends it is let go, and messages say of all else that
-- nobody holds it any more. All of it at once, in any order.
use Rattle.exec_invariants.{specs.{Places.one_if, Holding.{Awaits, Box, Hands, HasAnswer, Holder, IsAbout, IsDue, IsForwarded, IsHeldBy, IsHolding, IsOf, IsOrdinary, IsOwed, Mail, MayHave, Nap, Owes, Thing, holdings, is_awaited_by, mail_in, under_way}}, proofs.{Words.{◌≡◌, ◌⊎◌, inl, inr, ⊎_elim, ℕ, zero, suc, ◌+◌, ◌<◌, ◌≤◌, ◌==◌, ◌&&◌, ◌||◌, Bool, true, false, not, cond, List, [], count_by, length, sum_by, Option, Some, None, IsSome, is_some, Result, refl, sym, ap, subst, ◌∙◌, arith, slice_get, slice_set, false≢true, Error, OneShotState, RequestOutput, is_unsent, Message, Held, Subject, by_number, same_Some, set_elsewhere, set_there, subject}, HoldRedo.sum_set, HoldSteps.{awaits_on, held_in, homes_on}}}

-- A request then, which the task held so often of the worker: nobody holds it any more, and it may have ended by that.
pub record LetsThing (own : ℕ) (r r' : Thing) : Type 0 where
  pub worker : r'.worker ≡ r.worker
  pub waiter : r'.waiter ≡ r.waiter
  pub forwarding : r'.forwarding ≡ r.forwarding
  pub paid : r'.paid ≡ r.paid
  pub sent : r'.sent ≡ r.sent
  pub ended : is_some r.ended ≡ true → r'.ended ≡ r.ended
  pub observed : own ≡ 0 → r'.observed ≡ r.observed
  pub gone : 0 < own → r'.observed ≡ false

-- A sleeper then, of which it may be that the task waited for it, and it is removed.
pub record LetsNap (awaited : Type 0) (z z' : Nap) : Type 0 where
  pub worker : z'.worker ≡ z.worker
  pub task : z'.task ≡ z.task
  pub fired : z'.fired ≡ z.fired
  pub forwarding : z'.forwarding ≡ z.forwarding
  pub paid : z'.paid ≡ z.paid
  pub sent : z'.sent ≡ z.sent
  pub removed : z.removed ≡ true → z'.removed ≡ true
  pub closed : z'.closed ≡ z.closed
  pub only : (z'.removed ≡ z.removed) ⊎ awaited

pub thing_same : (r : Thing) → LetsThing 0 r r
thing_same r = record { worker = refl; waiter = refl; forwarding = refl; paid = refl; sent = refl; ended = λ h. refl; observed = λ h. refl; gone = λ some. absurd (omega (arith, some)) }

pub nap_same : (a : Type 0) (z : Nap) → LetsNap a z z
nap_same a z = record { worker = refl; task = refl; fired = refl; forwarding = refl; paid = refl; sent = refl; removed = λ h. h; closed = refl; only = inl refl }

-- one after another
pub things_then : (a b : ℕ) (r x y : Thing) → LetsThing a r x → LetsThing b x y → LetsThing (a + b) r y
things_then = grind arith

module _ (h h' : Hands) (workers : ℕ) (hs : List Holder) (ts ts' : List Thing) (naps naps' : List Nap) (boxes : List Box) (t : ℕ) (it it' : Holder) (own others : ℕ → ℕ) (told : ℕ → ℕ) where
  -- TASK t IS OVER: it held so often each request of the worker, and of others, and leaves so many messages about each sleeper
  pub record IsOver : Type 0 where
    pub there : slice_get hs t ≡ Some it
    pub ends : it' ≡ record it { held = []; over = true }
    pub going : it.over ≡ false
    pub idle : IsSome it.home → it.awaits ≡ None
    pub all : (k : ℕ) → held_in k it.held ≡ own k + others k
    pub things : (k : ℕ) (r : Thing) → slice_get ts k ≡ Some r → (r' : Thing) × (slice_get ts' k ≡ Some r') × LetsThing (own k) r r'
    pub things_back : (k : ℕ) (r' : Thing) → slice_get ts' k ≡ Some r' → (r : Thing) × (slice_get ts k ≡ Some r) × LetsThing (own k) r r'
    pub things_of : (j : ℕ) → count_by (λ r. r.worker == j) ts' ≡ count_by (λ r. r.worker == j) ts
    pub naps_on : (n : ℕ) (z : Nap) → slice_get naps n ≡ Some z → (z' : Nap) × (slice_get naps' n ≡ Some z') × LetsNap (it.awaits ≡ Some (subject.Timer n)) z z'
    pub naps_back : (n : ℕ) (z' : Nap) → slice_get naps' n ≡ Some z' → (z : Nap) × (slice_get naps n ≡ Some z) × LetsNap (it.awaits ≡ Some (subject.Timer n)) z z'
    pub naps_of : (j : ℕ) → count_by (λ z. z.worker == j) naps' ≡ count_by (λ z. z.worker == j) naps
    pub wakes : h'.wakes ≡ h.wakes
    pub forwards : (s : Subject) → h'.mail (Message.Forward s) ≡ h.mail (Message.Forward s)
    pub cancels : (k : ℕ) → h'.mail (Message.Cancel (subject.Request k)) ≡ h.mail (Message.Cancel (subject.Request k)) + others k
    pub removes : (n : ℕ) → h'.mail (Message.Cancel (subject.Timer n)) ≡ h.mail (Message.Cancel (subject.Timer n)) + told n
    pub awaited : (n : ℕ) → told n ≤ one_if (is_awaited_by (subject.Timer n) it.awaits)
    pub made : (m : Mail) → 0 < h'.mail m → (j : ℕ) × IsAbout workers j m ts naps

  pub task_over : IsOver → IsHolding h workers hs ts naps boxes → IsHolding h' workers (slice_set hs t it') ts' naps' boxes
  task_over by old =
      let ends_in : (o : Holder) → it' ≡ o → o ≡ record it { held = []; over = true } = λ o e. sym e ∙ by.ends in
      let none_held : (o : Holder) (j : ℕ) (x : Held) → it' ≡ o → slice_get o.held j ≡ Some x → ⊥ = λ o j x e at. let no : None ≡ Some x = ap (λ (y : Holder). slice_get y.held j) (sym (ends_in o e)) ∙ at in absurd (cc) in
      let awaits_then : (s : Subject) (u : ℕ) → Awaits s u hs → Awaits s u hs' = λ s u. awaits_on hs t it it' by.there s u (λ same is. ap (λ (y : Holder). y.awaits) by.ends ∙ is) in
      let same_way : (m : Mail) → h'.mail m ≡ h.mail m → under_way h' m boxes ≡ under_way h m boxes = λ m same. ap (λ n. n + sum_by (λ box. mail_in m box.messages) boxes) same in
      let more_way : (m : Mail) (n : ℕ) → h'.mail m ≡ h.mail m + n → under_way h' m boxes ≡ under_way h m boxes + n = λ m n more. omega (arith, more) in
      let due_before : (a : ℕ) (r x : Thing) → LetsThing a r x → IsDue x → IsDue r =
      λ a r x lets due. ⊎_elim (λ seen. inl (seen_before a r x lets seen)) (λ sent. inr (ap is_unsent (sym lets.forwarding) ∙ sent.0, sym lets.sent ∙ sent.1)) due in
      let owes_then : (j u : ℕ) (o : Option Subject) → Owes j u o ts naps boxes → Owes j u o ts' naps' boxes = grind arith in
      let owed_then : (j u : ℕ) → IsOwed j u hs ts naps boxes → IsOwed j u hs' ts' naps' boxes = λ j u o.
      by_number u t
      (λ apart. record { it = o.it; there = set_elsewhere hs t u it' apart ∙ o.there; owes = owes_then j u o.it.awaits o.owes })
      (λ same.
      let is : it ≡ o.it = same_Some it o.it (sym by.there ∙ ap (slice_get hs) (sym same) ∙ o.there) in
      let awaits : it'.awaits ≡ o.it.awaits = ap (λ (y : Holder). y.awaits) by.ends ∙ ap (λ (y : Holder). y.awaits) is in
      record { it = it'; there = ap (slice_get hs') same ∙ now_there; owes = subst (λ a. Owes j u a ts' naps' boxes) (sym awaits) (owes_then j u o.it.awaits o.owes) }) in
      let ordinary_then : (u : ℕ) → IsOrdinary u hs → IsOrdinary u hs' = homes_on hs t it it' by.there (ap (λ (y : Holder). y.home) by.ends) in
      let held_then : (shut : Bool) (a b : ℕ) (o o' : Bool) (n n' all way way' : ℕ) → all ≡ a + b → n' + all ≡ n + 0 → way' ≡ way + b → (a ≡ 0 → o' ≡ o) → (0 < a → o' ≡ false) → IsHeldBy shut o n way → IsHeldBy shut o' n' way' =
      grind arith in
      let answer_then : (a : ℕ) (r x : Thing) → LetsThing a r x → (o : OneShotState (Result RequestOutput Error)) → HasAnswer o r → HasAnswer o x = grind arith in
      let unremoved : (a : Type 0) (z x : Nap) → LetsNap a z x → x.removed ≡ false → z.removed ≡ false = grind arith in
      let over_then : (a : Type 0) (z x : Nap) → LetsNap a z x → (z.fired || z.removed) ≡ true → (x.fired || x.removed) ≡ true = grind arith in
      let about_then : (j : ℕ) (m : Mail) → IsAbout workers j m ts naps → IsAbout workers j m ts' naps' = grind arith in
      record {
        held = λ k x box at at_box.
            let was = by.things_back k x at in
            let box_of_it : slice_get boxes was.0.worker ≡ Some box = ap (slice_get boxes) (sym was.2.worker) ∙ at_box in
            let rest : holdings k hs' + held_in k it.held ≡ holdings k hs + 0 = sum_set (λ (y : Holder). held_in k y.held) hs t it it' by.there ∙ ap (λ (y : Holder). holdings k hs + held_in k y.held) by.ends in
            held_then box.shut (own k) (others k) was.0.observed x.observed (holdings k hs) (holdings k hs') (held_in k it.held) (under_way h (Message.Cancel (subject.Request k)) boxes) (under_way h' (Message.Cancel (subject.Request k)) boxes)
            (by.all k) rest (more_way (Message.Cancel (subject.Request k)) (others k) (by.cancels k)) was.2.observed was.2.gone (old.held k was.0 box was.1 box_of_it);
        forwarded = λ k x box at at_box.
            let was = by.things_back k x at in
            let box_of_it : slice_get boxes was.0.worker ≡ Some box = ap (slice_get boxes) (sym was.2.worker) ∙ at_box in
            subst (λ f. IsForwarded box.shut f (under_way h' (Message.Forward (subject.Request k)) boxes)) (sym was.2.forwarding)
            (subst (IsForwarded box.shut was.0.forwarding) (sym (same_way (Message.Forward (subject.Request k)) (by.forwards (subject.Request k)))) (old.forwarded k was.0 box was.1 box_of_it));
        asked = λ k x at sent.
            let was = by.things_back k x at in
            let a = old.asked k was.0 was.1 (ap is_unsent (sym was.2.forwarding) ∙ sent) in
            (a.0, was.2.waiter ∙ a.1, ordinary_then a.0 a.2);
        waited = λ k x u at waiter due.
            let was = by.things_back k x at in
            awaits_then (subject.Request k) u (old.waited k was.0 u was.1 (sym was.2.waiter ∙ waiter) (due_before (own k) was.0 x was.2 due));
        holds = λ u o j x at_u at_j.
            by_task u o at_u
            (λ is e. absurd (none_held o j x e at_j))
            (λ at.
            let held = old.holds u o j x at at_j in
            let now = by.things x.number held.0 held.1 in (
              now.0,
              now.1,
              grind (arith, now.2.worker, held.2.worker, workers, o.home, held.2.near, is_unsent, now.2.forwarding, held.2.here, held.2.waiter, now.2.waiter, held.2.awaited),
            ));
        awaiting = λ u o k at_u awaits.
            by_task u o at_u
            (λ is e.
            let a = old.awaiting t it k by.there (ap (λ (y : Holder). y.awaits) (sym (ends_in o e)) ∙ awaits) in
            let now = by.things k a.0 a.1 in (
              now.0,
              now.1,
              record {
                waiter = now.2.waiter ∙ a.2.waiter ∙ ap (λ n. Some n) (sym is);
                near = subst (λ q. MayHave workers q now.0.worker) (ap (λ (y : Holder). y.home) (sym (ends_in o e))) (subst (MayHave workers it.home) (sym now.2.worker) a.2.near);
                here = λ some. ap is_unsent now.2.forwarding ∙ a.2.here (subst (λ q. IsSome q) (ap (λ (y : Holder). y.home) (ends_in o e)) some);
                newest = λ still. absurd (false≢true (sym still ∙ ap (λ (y : Holder). y.over) (ends_in o e)));
                answer = λ sent. subst (λ (y : OneShotState (Result RequestOutput Error)). HasAnswer y now.0) (ap (λ (y : Holder). y.output) (sym (ends_in o e))) (answer_then (own k) a.0 now.0 now.2 it.output (a.2.answer (ap is_unsent (sym now.2.forwarding) ∙ sent)));
              },
            ))
            (λ at.
            let a = old.awaiting u o k at awaits in
            let now = by.things k a.0 a.1 in (
              now.0,
              now.1,
              grind (arith, now.2.waiter, a.2.waiter, workers, o.home, now.2.worker, a.2.near, is_unsent, now.2.forwarding, a.2.here, a.2.newest, answer_then, own, a.0, now.0, now.2, o.output, a.2.answer),
            ));
        asleep = λ u o n at_u awaits.
            by_task u o at_u
            (λ is e.
            let a = old.asleep t it n by.there (ap (λ (y : Holder). y.awaits) (sym (ends_in o e)) ∙ awaits) in
            let now = by.naps_on n a.0 a.1 in (
              now.0,
              now.1,
              record {
                task = now.2.task ∙ a.2.task ∙ sym is;
                near = subst (λ q. MayHave workers q now.0.worker) (ap (λ (y : Holder). y.home) (sym (ends_in o e))) (subst (MayHave workers it.home) (sym now.2.worker) a.2.near);
                here = λ some. ap is_unsent now.2.forwarding ∙ a.2.here (subst (λ q. IsSome q) (ap (λ (y : Holder). y.home) (ends_in o e)) some);
                kept = λ still. absurd (false≢true (sym still ∙ ap (λ (y : Holder). y.over) (ends_in o e)));
              },
            ))
            (λ at.
            let a = old.asleep u o n at awaits in
            let now = by.naps_on n a.0 a.1 in (
              now.0,
              now.1,
              record {
                task = now.2.task ∙ a.2.task;
                near = subst (MayHave workers o.home) (sym now.2.worker) a.2.near;
                here = λ some. ap is_unsent now.2.forwarding ∙ a.2.here some;
                kept = λ still.
                    ⊎_elim
                    (λ same. same ∙ a.2.kept still)
                    (λ its.
                    let b = old.asleep t it n by.there its in
                    let u_is : u ≡ t = sym a.2.task ∙ ap (λ (z : Nap). z.task) (same_Some a.0 b.0 (sym a.1 ∙ b.1)) ∙ b.2.task in
                    absurd (false≢true (sym still ∙ (ap (λ (y : Holder). y.over) (same_Some o it' (sym at_u ∙ (ap (slice_get hs') u_is ∙ now_there)) ∙ by.ends)))))
                    now.2.only;
              },
            ));
        over = λ u o at_u over.
            by_task u o at_u
            (λ is e. (
              ap (λ (y : Holder). length y.held) (ends_in o e),
              λ some. ap (λ (y : Holder). y.awaits) (ends_in o e) ∙ by.idle (subst (λ q. IsSome q) (ap (λ (y : Holder). y.home) (ends_in o e)) some),
            ))
            (λ at. old.over u o at over);
        sleeps = λ n x at unfired kept.
            let was = by.naps_back n x at in
            subst (λ u. Awaits (subject.Timer n) u hs') (sym was.2.task)
            (awaits_then (subject.Timer n) was.0.task (old.sleeps n was.0 was.1 (sym was.2.fired ∙ unfired) (unremoved (it.awaits ≡ Some (subject.Timer n)) was.0 x was.2 kept)));
        let_go = λ n x box at at_box open_box.
            let was = by.naps_back n x at in
            let way = more_way (Message.Cancel (subject.Timer n)) (told n) (by.removes n) in
            let weigh : Holder → ℕ = λ y. cond (not y.over && is_awaited_by (subject.Timer n) y.awaits) 1 0 in
            let gone : weigh it' ≡ 0 = ap weigh by.ends in
            let had : weigh it ≡ one_if (is_awaited_by (subject.Timer n) it.awaits) = ap (λ b. cond (not b && is_awaited_by (subject.Timer n) it.awaits) 1 0) by.going ∙ weighs (is_awaited_by (subject.Timer n) it.awaits) in
            let few = by.awaited n in
            omega (arith, old.let_go n was.0 box was.1 (ap (slice_get boxes) (sym was.2.worker) ∙ at_box) open_box, way, sum_set weigh hs t it it' by.there, gone, had, few);
        asked_too = λ n x at sent.
            let was = by.naps_back n x at in
            subst (λ u. IsOrdinary u hs') (sym was.2.task) (ordinary_then was.0.task (old.asked_too n was.0 was.1 (ap is_unsent (sym was.2.forwarding) ∙ sent)));
        let_be = λ n x at closed.
            let was = by.naps_back n x at in
            subst (λ u. IsOrdinary u hs') (sym was.2.task) (ordinary_then was.0.task (old.let_be n was.0 was.1 (sym was.2.closed ∙ closed)));
        woken = λ n x box at at_box.
            let was = by.naps_back n x at in
            let box_of_it : slice_get boxes was.0.worker ≡ Some box = ap (slice_get boxes) (sym was.2.worker) ∙ at_box in
            subst (λ f. IsForwarded box.shut f (under_way h' (Message.Forward (subject.Timer n)) boxes)) (sym was.2.forwarding)
            (subst (IsForwarded box.shut was.0.forwarding) (sym (same_way (Message.Forward (subject.Timer n)) (by.forwards (subject.Timer n)))) (old.woken n was.0 box was.1 box_of_it));
        owed = λ j u some.
            let o = old.owed j u (subst (λ (f : ℕ → ℕ → ℕ). 0 < f j u) by.wakes some) in
            (ap (λ (f : ℕ → ℕ → ℕ). f j u) by.wakes ∙ o.0, owed_then j u o.1);
        about = λ j box m at_box has. about_then j m (old.about j box m at_box has);
        room = λ j box at_box.
            let place = old.room j box at_box in
            record { made = omega (arith, place.made, by.things_of j, by.naps_of j); places = place.places };
        sent = λ k x at is. let was = by.things_back k x at in was.2.forwarding ∙ old.sent k was.0 was.1 (sym was.2.sent ∙ is);
        sent_too = λ n x at is.
            let was = by.naps_back n x at in
            let old_too = old.sent_too n was.0 was.1 (sym was.2.sent ∙ is) in
            (was.2.forwarding ∙ old_too.0, over_then (it.awaits ≡ Some (subject.Timer n)) was.0 x was.2 old_too.1);
        made = λ m some. let m_is = by.made m some in (m_is.0, about_then m_is.0 m m_is.1);
        of_worker = λ k x at. let was = by.things_back k x at in subst (λ n. n < length boxes) (sym was.2.worker) (old.of_worker k was.0 was.1);
        of_worker_too = λ n x at. let was = by.naps_back n x at in subst (λ m. m < length boxes) (sym was.2.worker) (old.of_worker_too n was.0 was.1);
      }
    where
      hs' : List Holder
      hs' = slice_set hs t it'

      now_there : slice_get hs' t ≡ Some it'
      now_there = set_there hs t it' it by.there

      -- that task, or another, which was there
      by_task : {P : Type 0} (u : ℕ) (o : Holder) → slice_get hs' u ≡ Some o → (u ≡ t → it' ≡ o → P) → (slice_get hs u ≡ Some o → P) → P
      by_task u o at same other =
          by_number u t
          (λ apart. other (sym (set_elsewhere hs t u it' apart) ∙ at))
          (λ is. same is (same_Some it' o (sym now_there ∙ ap (slice_get hs') (sym is) ∙ at)))

      weighs : (b : Bool) → cond (not false && b) 1 0 ≡ one_if b
      weighs true = refl
      weighs false = refl

      seen_before : (a : ℕ) (r x : Thing) → LetsThing a r x → x.observed ≡ true → r.observed ≡ true
      seen_before zero r x lets is = sym (lets.observed refl) ∙ is
      seen_before (suc a) r x lets is = absurd (false≢true (sym (lets.gone (omega arith)) ∙ is))

      lost_then : (a : ℕ) (r x : Thing) → LetsThing a r x → r.observed ≡ false → x.observed ≡ false
      lost_then zero r x lets is = lets.observed refl ∙ is
      lost_then (suc a) r x lets is = lets.gone (omega arith)

      of_then : (j : ℕ) (s : Subject) → IsOf workers j s ts naps → IsOf workers j s ts' naps'
      of_then j (subject.Request k) is = let now = by.things k is.0 is.1 in (now.0, now.1, now.2.worker ∙ is.2, is.3)
      of_then j (subject.Timer n) is = let now = by.naps_on n is.0 is.1 in (now.0, now.1, now.2.worker ∙ is.2, is.3)
