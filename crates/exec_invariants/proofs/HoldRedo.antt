-- WHAT TASKS HOLD, where one request changes, and one task at most that holds or waits for it.
use Rattle.exec_invariants.{proofs.Names.{◌≡◌, ◌≢◌, ℕ, ◌+◌, ◌<◌, ◌≤◌, ◌==◌, Bool, true, false, List, count_by, length, sum_by, Option, Some, None, IsSome, sym, ap, subst, ◌∙◌, arith, slice_get, slice_set, sum_by-set, get_or_from_slice_get, slice_get_within, Applied, is_unsent, Message, Held, Subject, by_number, same_Some, set_elsewhere, set_there, subject}, specs.Holding.{Awaits, AwaitsNap, AwaitsThing, Box, Hands, Holder, HoldsRequest, IsAbout, IsDue, IsForwarded, IsHeldBy, IsHolding, IsOf, IsOrdinary, IsOwed, Mail, Nap, Thing, holdings, mail_in, under_way, waiters}}

-- by whether it is this one
pub by_one : {P : Type 0} (o : Option ℕ) (u : ℕ) → (o ≡ Some u → P) → ((o ≡ Some u → ⊥) → P) → P
by_one None u same other = other (λ is. let no : None ≡ Some u = is in absurd (cc))
by_one (Some v) u same other = by_number v u (λ apart. other (λ is. apart (same_Some v u is))) (λ is. same (ap (λ n. Some n) is))

-- a sum where one element was set
pub sum_set : {A : Type 0} (f : A → ℕ) (xs : List A) (i : ℕ) (x y : A) → slice_get xs i ≡ Some x → sum_by f (slice_set xs i y) + f x ≡ sum_by f xs + f y
sum_set f xs i x y there =
    ap (λ z. sum_by f (slice_set xs i y) + f z) (sym (get_or_from_slice_get xs i x x there)) ∙ sum_by-set f xs i y x (slice_get_within xs i x there)

pub count_set : {A : Type 0} (p : A → Bool) (xs : List A) (i : ℕ) (x y : A) → slice_get xs i ≡ Some x → p y ≡ p x → count_by p (slice_set xs i y) ≡ count_by p xs
count_set = grind (arith, sum_set)

-- what becomes of the elements where one is set, and what they were
pub set_on : {A : Type 0} (R : ℕ → A → A → Type 0) (xs ys : List A) (k : ℕ) (x y : A) → slice_get xs k ≡ Some x → ys ≡ slice_set xs k y → R k x y → ((n : ℕ) (a : A) → R n a a) → (n : ℕ) (a : A) → slice_get xs n ≡ Some a → (b : A) × (slice_get ys n ≡ Some b) × R n a b
set_on R xs ys k x y there is one all n a at =
    by_number n k (λ apart. (a, ap (λ zs. slice_get zs n) is ∙ set_elsewhere xs k n y apart ∙ at, all n a))
    (λ same. (y, ap (λ zs. slice_get zs n) is ∙ ap (slice_get (slice_set xs k y)) same ∙ set_there xs k y x there, rw same (subst (λ z. R k z y) (same_Some x a (sym there ∙ ap (slice_get xs) (sym same) ∙ at)) one)))

pub set_back : {A : Type 0} (R : ℕ → A → A → Type 0) (xs ys : List A) (k : ℕ) (x y : A) → slice_get xs k ≡ Some x → ys ≡ slice_set xs k y → R k x y → ((n : ℕ) (a : A) → R n a a) → (n : ℕ) (b : A) → slice_get ys n ≡ Some b → (a : A) × (slice_get xs n ≡ Some a) × R n a b
set_back = grind (arith, by_number, set_elsewhere, same_Some, set_there)

-- a message that isn't about request k
pub record IsApart (k : ℕ) (m : Mail) : Type 0 where
  pub forward : m ≢ Message.Forward (subject.Request k)
  pub cancel : m ≢ Message.Cancel (subject.Request k)

module _ (h h' : Hands) (workers : ℕ) (hs hs' : List Holder) (ts : List Thing) (naps : List Nap) (boxes : List Box) (t : Option ℕ) (k : ℕ) (r r' : Thing) where
  -- REQUEST k BECAME r', and task t another, if any did
  pub record Redo : Type 0 where
    pub thing : slice_get ts k ≡ Some r
    pub worker : r'.worker ≡ r.worker
    -- all other tasks stay
    pub others : (u : ℕ) → (t ≡ Some u → ⊥) → slice_get hs' u ≡ slice_get hs u
    pub homes : (u : ℕ) → IsOrdinary u hs → IsOrdinary u hs'
    pub holdings_of : (n : ℕ) → n ≢ k → holdings n hs' ≡ holdings n hs
    pub waiters_of : (n : ℕ) → waiters (subject.Timer n) hs' ≡ waiters (subject.Timer n) hs
    -- and so do all messages that aren't about it
    pub mail : (m : Mail) → IsApart k m → h'.mail m ≡ h.mail m
    pub made : (m : Mail) → 0 < h'.mail m → (j : ℕ) × IsAbout workers j m ts naps
    -- the request
    pub held : (box : Box) → slice_get boxes r.worker ≡ Some box → IsHeldBy box.shut r.observed (holdings k hs) (under_way h (Message.Cancel (subject.Request k)) boxes) → IsHeldBy box.shut r'.observed (holdings k hs') (under_way h' (Message.Cancel (subject.Request k)) boxes)
    pub forwarded : (box : Box) → slice_get boxes r.worker ≡ Some box → IsForwarded box.shut r.forwarding (under_way h (Message.Forward (subject.Request k)) boxes) → IsForwarded box.shut r'.forwarding (under_way h' (Message.Forward (subject.Request k)) boxes)
    pub asked : is_unsent r'.forwarding ≡ false → (u : ℕ) × (r'.waiter ≡ Some u) × IsOrdinary u hs'
    pub sent : r'.sent ≡ true → r'.forwarding ≡ Applied
    pub waited : (u : ℕ) → r'.waiter ≡ Some u → IsDue r' → Awaits (subject.Request k) u hs'
    pub waited_on : (n u : ℕ) → n ≢ k → Awaits (subject.Request n) u hs → Awaits (subject.Request n) u hs'
    pub sleeps_on : (n u : ℕ) → Awaits (subject.Timer n) u hs → Awaits (subject.Timer n) u hs'
    -- the task
    pub holds : (u : ℕ) (o : Holder) (j : ℕ) (x : Held) → t ≡ Some u → slice_get hs' u ≡ Some o → slice_get o.held j ≡ Some x → (rx : Thing) × (slice_get (slice_set ts k r') x.number ≡ Some rx) × HoldsRequest workers u o x rx
    pub holds_else : (u : ℕ) (o : Holder) (j : ℕ) (x : Held) → (t ≡ Some u → ⊥) → slice_get hs u ≡ Some o → slice_get o.held j ≡ Some x → x.number ≡ k → HoldsRequest workers u o x r → HoldsRequest workers u o x r'
    pub awaiting : (u : ℕ) (o : Holder) (n : ℕ) → t ≡ Some u → slice_get hs' u ≡ Some o → o.awaits ≡ Some (subject.Request n) → (rx : Thing) × (slice_get (slice_set ts k r') n ≡ Some rx) × AwaitsThing workers u n o rx
    pub awaiting_else : (u : ℕ) (o : Holder) → (t ≡ Some u → ⊥) → slice_get hs u ≡ Some o → o.awaits ≡ Some (subject.Request k) → AwaitsThing workers u k o r → AwaitsThing workers u k o r'
    pub asleep : (u : ℕ) (o : Holder) (n : ℕ) → t ≡ Some u → slice_get hs' u ≡ Some o → o.awaits ≡ Some (subject.Timer n) → (z : Nap) × (slice_get naps n ≡ Some z) × AwaitsNap workers u o z
    pub over : (u : ℕ) (o : Holder) → t ≡ Some u → slice_get hs' u ≡ Some o → o.over ≡ true → (length o.held ≡ 0) × (IsSome o.home → o.awaits ≡ None)
    pub owed : (i u : ℕ) → 0 < h'.wakes i u → (h'.wakes i u ≡ 1) × IsOwed i u hs' (slice_set ts k r') naps boxes

  -- what holds of a thing that stood there, by whether it is this one
  of_thing : (P : ℕ → Thing → Type 0) → slice_get ts k ≡ Some r → P k r' → ((n : ℕ) (x : Thing) → n ≢ k → slice_get ts n ≡ Some x → P n x) → (n : ℕ) (x : Thing) → slice_get (slice_set ts k r') n ≡ Some x → P n x
  of_thing = grind (arith, by_number, set_elsewhere, same_Some, set_there)

  pub holding_redone : Redo → IsHolding h workers hs ts naps boxes → IsHolding h' workers hs' (slice_set ts k r') naps boxes
  holding_redone by old =
      let ts' : List Thing = slice_set ts k r' in
      let apart_cancel : (n : ℕ) → n ≢ k → IsApart k (Message.Cancel (subject.Request n)) = λ n other. record { forward = λ is. absurd (cc); cancel = λ is. other (cc) } in
      let apart_forward : (n : ℕ) → n ≢ k → IsApart k (Message.Forward (subject.Request n)) = λ n other. record { forward = λ is. other (cc); cancel = λ is. absurd (cc) } in
      let way : (m : Mail) → IsApart k m → under_way h' m boxes ≡ under_way h m boxes = λ m apart. ap (λ n. n + sum_by (λ box. mail_in m box.messages) boxes) (by.mail m apart) in
      let nap_cancel : (n : ℕ) → IsApart k (Message.Cancel (subject.Timer n)) = λ n. record { forward = λ is. absurd (cc); cancel = λ is. absurd (cc) } in
      let nap_forward : (n : ℕ) → IsApart k (Message.Forward (subject.Timer n)) = λ n. record { forward = λ is. absurd (cc); cancel = λ is. absurd (cc) } in
      record {
        held = λ n x box there at_box. of_thing (λ n x. (box : Box) → slice_get boxes x.worker ≡ Some box → IsHeldBy box.shut x.observed (holdings n hs') (under_way h' (Message.Cancel (subject.Request n)) boxes)) by.thing
            (λ box at_box. let at : slice_get boxes r.worker ≡ Some box = ap (slice_get boxes) (sym by.worker) ∙ at_box in by.held box at (old.held k r box by.thing at))
            (λ n x other there box at_box. subst (λ a. IsHeldBy box.shut x.observed a (under_way h' (Message.Cancel (subject.Request n)) boxes)) (sym (by.holdings_of n other)) (subst (λ a. IsHeldBy box.shut x.observed (holdings n hs) a) (sym (way (Message.Cancel (subject.Request n)) (apart_cancel n other))) (old.held n x box there at_box))) n x there box at_box;
        forwarded = λ n x box there at_box. of_thing (λ n x. (box : Box) → slice_get boxes x.worker ≡ Some box → IsForwarded box.shut x.forwarding (under_way h' (Message.Forward (subject.Request n)) boxes)) by.thing
            (λ box at_box. let at : slice_get boxes r.worker ≡ Some box = ap (slice_get boxes) (sym by.worker) ∙ at_box in by.forwarded box at (old.forwarded k r box by.thing at))
            (λ n x other there box at_box. subst (λ a. IsForwarded box.shut x.forwarding a) (sym (way (Message.Forward (subject.Request n)) (apart_forward n other))) (old.forwarded n x box there at_box)) n x there box at_box;
        asked = of_thing (λ n x. is_unsent x.forwarding ≡ false → (u : ℕ) × (x.waiter ≡ Some u) × IsOrdinary u hs') by.thing by.asked
            (λ n x other there sent. let a = old.asked n x there sent in (a.0, a.1, by.homes a.0 a.2));
        waited = λ n x u there waiter due. of_thing (λ n x. (u : ℕ) → x.waiter ≡ Some u → IsDue x → Awaits (subject.Request n) u hs') by.thing by.waited
            (λ n x other there u waiter due. by.waited_on n u other (old.waited n x u there waiter due)) n x there u waiter due;
        holds = λ u o j x at_u at_j.
            by_one t u
            (λ its. by.holds u o j x its at_u at_j)
            (λ other.
            let was : slice_get hs u ≡ Some o = sym (by.others u other) ∙ at_u in
            let held = old.holds u o j x was at_j in
            by_number x.number k
            (λ apart. (held.0, set_elsewhere ts k x.number r' apart ∙ held.1, held.2))
            (λ same.
            let is : held.0 ≡ r = same_Some held.0 r (sym held.1 ∙ ap (slice_get ts) same ∙ by.thing) in
            (r', subst (λ m. slice_get ts' m ≡ Some r') (sym same) (set_there ts k r' r by.thing), by.holds_else u o j x other was at_j same (subst (HoldsRequest workers u o x) is held.2))));
        awaiting = λ u o n at_u awaits.
            by_one t u
            (λ its. by.awaiting u o n its at_u awaits)
            (λ other.
            let was : slice_get hs u ≡ Some o = sym (by.others u other) ∙ at_u in
            let it = old.awaiting u o n was awaits in
            by_number n k
            (λ apart. (it.0, set_elsewhere ts k n r' apart ∙ it.1, it.2))
            (λ same.
            let is : it.0 ≡ r = same_Some it.0 r (sym it.1 ∙ ap (slice_get ts) same ∙ by.thing) in
            let here : o.awaits ≡ Some (subject.Request k) = awaits ∙ ap (λ m. Some (subject.Request m)) same in
            (r', subst (λ m. slice_get ts' m ≡ Some r') (sym same) (set_there ts k r' r by.thing), subst (λ m. AwaitsThing workers u m o r') (sym same) (by.awaiting_else u o other was here (subst (AwaitsThing workers u k o) is (subst (λ m. AwaitsThing workers u m o it.0) same it.2))))));
        asleep = λ u o n at_u awaits. by_one t u (λ its. by.asleep u o n its at_u awaits) (λ other. old.asleep u o n (sym (by.others u other) ∙ at_u) awaits);
        over = λ u o at_u is. by_one t u (λ its. by.over u o its at_u is) (λ other. old.over u o (sym (by.others u other) ∙ at_u) is);
        sleeps = λ n z there unfired kept. by.sleeps_on n z.task (old.sleeps n z there unfired kept);
        let_go = λ n z box there at_box open_box.
            subst (λ a. a + under_way h' (Message.Cancel (subject.Timer n)) boxes ≤ 1) (sym (by.waiters_of n)) (subst (λ a. waiters (subject.Timer n) hs + a ≤ 1) (sym (way (Message.Cancel (subject.Timer n)) (nap_cancel n))) (old.let_go n z box there at_box open_box));
        asked_too = λ n z there sent. by.homes z.task (old.asked_too n z there sent);
        let_be = λ n z there closed. by.homes z.task (old.let_be n z there closed);
        woken = λ n z box there at_box. subst (λ a. IsForwarded box.shut z.forwarding a) (sym (way (Message.Forward (subject.Timer n)) (nap_forward n))) (old.woken n z box there at_box);
        sent = of_thing (λ n x. x.sent ≡ true → x.forwarding ≡ Applied) by.thing by.sent (λ n x other there. old.sent n x there);
        sent_too = old.sent_too;
        owed = by.owed;
        about = λ j box m at_box has. about_on by.thing j m (old.about j box m at_box has);
        room = λ j box at_box.
            let place = old.room j box at_box in
            record { made = subst (λ n. n + count_by (λ z. z.worker == j) naps ≤ box.made) (sym (count_set (λ x. x.worker == j) ts k r r' by.thing (ap (λ n. n == j) by.worker))) place.made; places = place.places };
        made = λ m some. let it = by.made m some in (it.0, about_on by.thing it.0 m it.1);
        of_worker = of_thing (λ n x. x.worker < length boxes) by.thing (subst (λ n. n < length boxes) (sym by.worker) (old.of_worker k r by.thing)) (λ n x other there. old.of_worker n x there);
        of_worker_too = old.of_worker_too;
      }
    where
      of_on : slice_get ts k ≡ Some r → (j : ℕ) (s : Subject) → IsOf workers j s ts naps → IsOf workers j s (slice_set ts k r') naps
      of_on = grind (arith, by_number, set_elsewhere, same_Some, set_there)

      about_on : slice_get ts k ≡ Some r → (j : ℕ) (m : Mail) → IsAbout workers j m ts naps → IsAbout workers j m (slice_set ts k r') naps
      about_on there j Message.WakeRoot is = tt
      about_on there j (Message.Forward s) is = of_on there j s is
      about_on there j (Message.Cancel s) is = of_on there j s is
