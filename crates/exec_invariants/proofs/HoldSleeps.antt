-- WHAT TASKS HOLD, where a sleeper changes and no task: it is waited for elsewhere, fires, is removed, or pays a wake.
use Rattle.exec_invariants.{proofs.{Names.{◌≡◌, ◌≢◌, ◌⊎◌, ⊎_elim, ℕ, ◌+◌, ◌<◌, ◌≤◌, ◌==◌, ◌||◌, true, false, List, count_by, length, sum_by, Option, Some, IsSome, sym, ap, subst, ◌∙◌, slice_get, slice_set, arith, Contains, Applied, is_unsent, Message, Subject, by_number, same_Some, set_elsewhere, set_there, subject}, HoldRedo.count_set}, specs.Holding.{Awaits, AwaitsNap, Box, Hands, Holder, IsAbout, IsForwarded, IsHeldBy, IsHolding, IsOf, IsOrdinary, IsOwed, Mail, Nap, NapOwes, Owes, Thing, holdings, mail_in, under_way, waiters, HasPlace}}

-- a message that isn't about sleeper n
pub record IsPast (n : ℕ) (m : Mail) : Type 0 where
  pub forward : m ≢ Message.Forward (subject.Timer n)
  pub cancel : m ≢ Message.Cancel (subject.Timer n)

module _ (h h' : Hands) (workers : ℕ) (hs : List Holder) (ts : List Thing) (naps : List Nap) (boxes : List Box) (n : ℕ) (z z' : Nap) where
  pub record RedoesNap : Type 0 where
    pub nap : slice_get naps n ≡ Some z
    pub worker : z'.worker ≡ z.worker
    pub task : z'.task ≡ z.task
    pub mail : (m : Mail) → IsPast n m → h'.mail m ≡ h.mail m
    pub made : (m : Mail) → 0 < h'.mail m → (j : ℕ) × IsAbout workers j m ts naps
    pub sleeps : z'.fired ≡ false → z'.removed ≡ false → (z.fired ≡ false) × (z.removed ≡ false)
    pub let_go : (box : Box) → slice_get boxes z.worker ≡ Some box → box.shut ≡ false → waiters (subject.Timer n) hs + under_way h (Message.Cancel (subject.Timer n)) boxes ≤ 1 → waiters (subject.Timer n) hs + under_way h' (Message.Cancel (subject.Timer n)) boxes ≤ 1
    pub woken : (box : Box) → slice_get boxes z.worker ≡ Some box → IsForwarded box.shut z.forwarding (under_way h (Message.Forward (subject.Timer n)) boxes) → IsForwarded box.shut z'.forwarding (under_way h' (Message.Forward (subject.Timer n)) boxes)
    pub asked : is_unsent z'.forwarding ≡ false → IsOrdinary z.task hs
    pub be : z'.closed ≡ true → IsOrdinary z.task hs
    pub sent : z'.sent ≡ true → (z'.forwarding ≡ Applied) × ((z'.fired || z'.removed) ≡ true)
    -- who waits for it
    pub here : (t : ℕ) (it : Holder) → slice_get hs t ≡ Some it → it.awaits ≡ Some (subject.Timer n) → IsSome it.home → is_unsent z'.forwarding ≡ true
    pub kept : (t : ℕ) (it : Holder) → slice_get hs t ≡ Some it → it.awaits ≡ Some (subject.Timer n) → it.over ≡ false → z.removed ≡ false → z'.removed ≡ false
    pub fewer : (i t : ℕ) → 0 < h'.wakes i t → (h'.wakes i t ≡ h.wakes i t) ⊎ ((h'.wakes i t ≡ 1) × IsOwed i t hs ts (slice_set naps n z') boxes)
    pub owes : (i t : ℕ) → 0 < h'.wakes i t → NapOwes i t z → NapOwes i t z'

  -- what holds of a sleeper that stood there, by whether it is this one
  of_nap : (P : ℕ → Nap → Type 0) → slice_get naps n ≡ Some z → P n z' → ((m : ℕ) (x : Nap) → m ≢ n → slice_get naps m ≡ Some x → P m x) → (m : ℕ) (x : Nap) → slice_get (slice_set naps n z') m ≡ Some x → P m x
  of_nap = grind (arith, by_number, set_elsewhere, same_Some, set_there)

  of_on : slice_get naps n ≡ Some z → z'.worker ≡ z.worker → (j : ℕ) (s : Subject) → IsOf workers j s ts naps → IsOf workers j s ts (slice_set naps n z')
  of_on = grind (arith, by_number, set_elsewhere, same_Some, set_there)

  about_on : slice_get naps n ≡ Some z → z'.worker ≡ z.worker → (j : ℕ) (m : Mail) → IsAbout workers j m ts naps → IsAbout workers j m ts (slice_set naps n z')
  about_on = grind (arith, of_on)

  pub nap_redone : RedoesNap → IsHolding h workers hs ts naps boxes → IsHolding h' workers hs ts (slice_set naps n z') boxes
  nap_redone by old =
      let owes_on : RedoesNap → (i t : ℕ) → 0 < h'.wakes i t → (a : Option Subject) → Owes i t a ts naps boxes → Owes i t a ts (slice_set naps n z') boxes = grind (arith, by_number, set_elsewhere, same_Some, set_there) in
      let way : (m : Mail) → IsPast n m → under_way h' m boxes ≡ under_way h m boxes = λ m past. ap (λ a. a + sum_by (λ box. mail_in m box.messages) boxes) (by.mail m past) in
      let past_cancel : (k : ℕ) → IsPast n (Message.Cancel (subject.Request k)) = λ k. record { forward = λ is. absurd (cc); cancel = λ is. absurd (cc) } in
      let past_forward : (k : ℕ) → IsPast n (Message.Forward (subject.Request k)) = λ k. record { forward = λ is. absurd (cc); cancel = λ is. absurd (cc) } in
      let other_cancel : (m : ℕ) → m ≢ n → IsPast n (Message.Cancel (subject.Timer m)) = λ m apart. record { forward = λ is. absurd (cc); cancel = λ is. apart (cc) } in
      let other_forward : (m : ℕ) → m ≢ n → IsPast n (Message.Forward (subject.Timer m)) = λ m apart. record { forward = λ is. apart (cc); cancel = λ is. absurd (cc) } in
      let held : (k : ℕ) (r : Thing) (box : Box) → slice_get ts k ≡ Some r → slice_get boxes r.worker ≡ Some box → IsHeldBy box.shut r.observed (holdings k hs) (under_way h' (Message.Cancel (subject.Request k)) boxes) =
      λ k r box there at. subst (λ a. IsHeldBy box.shut r.observed (holdings k hs) a) (sym (way (Message.Cancel (subject.Request k)) (past_cancel k))) (old.held k r box there at) in
      let forwarded : (k : ℕ) (r : Thing) (box : Box) → slice_get ts k ≡ Some r → slice_get boxes r.worker ≡ Some box → IsForwarded box.shut r.forwarding (under_way h' (Message.Forward (subject.Request k)) boxes) =
      λ k r box there at. subst (λ a. IsForwarded box.shut r.forwarding a) (sym (way (Message.Forward (subject.Request k)) (past_forward k))) (old.forwarded k r box there at) in
      let asleep : (t : ℕ) (it : Holder) (n0 : ℕ) → slice_get hs t ≡ Some it → it.awaits ≡ Some (subject.Timer n0) → (z : Nap) × (slice_get (slice_set naps n z') n0 ≡ Some z) × AwaitsNap workers t it z = λ t it m at awaits.
      let was = old.asleep t it m at awaits in
      by_number m n
      (λ apart. (was.0, set_elsewhere naps n m z' apart ∙ was.1, was.2))
      (λ same.
      let a : AwaitsNap workers t it z = subst (AwaitsNap workers t it) (same_Some was.0 z (sym was.1 ∙ ap (slice_get naps) same ∙ by.nap)) was.2 in
      let mine : it.awaits ≡ Some (subject.Timer n) = awaits ∙ ap (λ k. Some (subject.Timer k)) same in (
        z',
        subst (λ k. slice_get (slice_set naps n z') k ≡ Some z') (sym same) (set_there naps n z' z by.nap),
        grind (arith, by.task, a.task, workers, it.home, by.worker, a.near, by.here, it, at, mine, by.kept, a.kept),
      )) in
      let sleeps : (n0 : ℕ) (z : Nap) → slice_get (slice_set naps n z') n0 ≡ Some z → z.fired ≡ false → z.removed ≡ false → Awaits (subject.Timer n0) z.task hs =
      of_nap (λ m x. x.fired ≡ false → x.removed ≡ false → Awaits (subject.Timer m) x.task hs) by.nap
      (λ unfired kept. let was = by.sleeps unfired kept in subst (λ t. Awaits (subject.Timer n) t hs) (sym by.task) (old.sleeps n z by.nap was.0 was.1)) (λ m x apart there. old.sleeps m x there) in
      let let_go : (n0 : ℕ) (z : Nap) (box : Box) → slice_get (slice_set naps n z') n0 ≡ Some z → slice_get boxes z.worker ≡ Some box → box.shut ≡ false → waiters (subject.Timer n0) hs + under_way h' (Message.Cancel (subject.Timer n0)) boxes ≤ 1 = λ m x box there at open_box.
      of_nap (λ m x. (box : Box) → slice_get boxes x.worker ≡ Some box → box.shut ≡ false → waiters (subject.Timer m) hs + under_way h' (Message.Cancel (subject.Timer m)) boxes ≤ 1) by.nap
      (λ box at open_box. let there = ap (slice_get boxes) (sym by.worker) ∙ at in by.let_go box there open_box (old.let_go n z box by.nap there open_box))
      (λ m x apart there box at open_box. subst (λ a. waiters (subject.Timer m) hs + a ≤ 1) (sym (way (Message.Cancel (subject.Timer m)) (other_cancel m apart))) (old.let_go m x box there at open_box)) m x there box at open_box in
      let asked_too = of_nap (λ m x. is_unsent x.forwarding ≡ false → IsOrdinary x.task hs) by.nap (λ sent. subst (λ t. IsOrdinary t hs) (sym by.task) (by.asked sent)) (λ m x apart there. old.asked_too m x there) in
      let let_be = of_nap (λ m x. x.closed ≡ true → IsOrdinary x.task hs) by.nap (λ closed. subst (λ t. IsOrdinary t hs) (sym by.task) (by.be closed)) (λ m x apart there. old.let_be m x there) in
      let woken : (n0 : ℕ) (z : Nap) (box : Box) → slice_get (slice_set naps n z') n0 ≡ Some z → slice_get boxes z.worker ≡ Some box → IsForwarded box.shut z.forwarding (under_way h' (Message.Forward (subject.Timer n0)) boxes) = λ m x box there at.
      of_nap (λ m x. (box : Box) → slice_get boxes x.worker ≡ Some box → IsForwarded box.shut x.forwarding (under_way h' (Message.Forward (subject.Timer m)) boxes)) by.nap
      (λ box at. let there = ap (slice_get boxes) (sym by.worker) ∙ at in by.woken box there (old.woken n z box by.nap there))
      (λ m x apart there box at. subst (λ a. IsForwarded box.shut x.forwarding a) (sym (way (Message.Forward (subject.Timer m)) (other_forward m apart))) (old.woken m x box there at)) m x there box at in
      let sent_too = of_nap (λ m x. x.sent ≡ true → (x.forwarding ≡ Applied) × ((x.fired || x.removed) ≡ true)) by.nap by.sent (λ m x apart there. old.sent_too m x there) in
      let owed : (i t : ℕ) → 0 < h'.wakes i t → (h'.wakes i t ≡ 1) × IsOwed i t hs ts (slice_set naps n z') boxes = λ i t some.
      ⊎_elim
      (λ same.
      let o = old.owed i t (subst (λ k. 0 < k) same some) in
      (same ∙ o.0, record { it = o.1.it; there = o.1.there; owes = owes_on by i t some o.1.it.awaits o.1.owes }))
      (λ new. new) (by.fewer i t some) in
      let about : (j : ℕ) (box : Box) (m : Mail) → slice_get boxes j ≡ Some box → Contains box.messages m → IsAbout workers j m ts (slice_set naps n z') = λ j box m at has. about_on by.nap by.worker j m (old.about j box m at has) in
      let room : (j : ℕ) (box : Box) → slice_get boxes j ≡ Some box → HasPlace j ts (slice_set naps n z') box = λ j box at.
      let place = old.room j box at in
      record { made = subst (λ m. count_by (λ r. r.worker == j) ts + m ≤ box.made) (sym (count_set (λ (x : Nap). x.worker == j) naps n z z' by.nap (ap (λ k. k == j) by.worker))) place.made; places = place.places } in
      let made_so : (m : Mail) → 0 < h'.mail m → (j : ℕ) × IsAbout workers j m ts (slice_set naps n z') = λ m some. let it = by.made m some in (it.0, about_on by.nap by.worker it.0 m it.1) in
      let of_worker_too = of_nap (λ m x. x.worker < length boxes) by.nap (subst (λ k. k < length boxes) (sym by.worker) (old.of_worker_too n z by.nap)) (λ m x apart there. old.of_worker_too m x there) in
      assumption (held, forwarded, asleep, sleeps, let_go, asked_too, let_be, woken, sent_too, owed, about, room, made_so, of_worker_too, old)
