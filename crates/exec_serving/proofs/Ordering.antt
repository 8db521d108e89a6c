-- What is due first at the driver is what the machine tells first.
use Rattle.std.{proofs.{Common.{◌≡◌, ◌⊎◌, ℕ, zero, suc, ◌+◌, ◌-◌, ◌*◌, ◌/◌, ◌%◌, ◌<◌, ◌≤◌, ◌==◌, ◌&&◌, ◌||◌, Bool, true, false, not, List, [], ◌∷◌, map, Option, Some, refl, sym, ap, subst, ◌∙◌, arith, inl, inr, slice_get, nat_lt, if◌then◌else◌}, lemmas.{Bool.{false≢true, eq-eqb, Decides.nat_tests}, Option.slice_get-map}}, specs.{List.AllByRecursion, Option.option_map}}
use Rattle.exec_waiters.specs.declared.waiter_id.WaiterId.{WaiterId}
use Rattle.exec_lists.{specs.Lists.{first_of, rest_of, is_among}, proofs.Names.same_tells}
use Rattle.exec_machine.specs.{declared.{config.Configuration.Configuration, state.Request.Request}, Ranges.wheel_slots, Deadlines.{is_due, is_first_due, is_told_after, is_told_before, order_on_wheel}, Tests.all_numbered}
use Rattle.exec_moves.specs.Serve.{first_numbered}
use Rattle.exec_parts.{specs.{declared.parts.{record.Record.Record, shared.Shared.Shared, worker.Worker.Worker}, Records.number_in, View.{driver_of, own_of}}, proofs.Facts.{same_number, and_right}}
use Rattle.exec_invariants.{specs.{Ordered.{IsToldBefore, Pairwise, tick_at, turn_of, went_round}, Submits.{IsDueIn, IsInOrder}}, proofs.{Idling.{shown_at, stands_timed}, Recorded.request_seen, Expiring.{DueAt, due_first}, Staging.{among_first, split_first}}}

-- TESTS OVER A LIST

module _ {X : Type 0} (test : ℕ → X → Bool) where
  pub all_pass : (n : ℕ) (xs : List X) → ((k m : ℕ) (x : X) → slice_get xs k ≡ Some x → m ≡ n + k → test m x ≡ true) → all_numbered test n xs ≡ true
  all_pass n [] h = refl
  all_pass n (x ∷ xs) h = rw (h 0 n x refl (omega arith)) (all_pass (suc n) xs (λ k m y there is. h (suc k) m y there (omega (arith, is))))

  pub one_fails : (n k m : ℕ) (xs : List X) (x : X) → slice_get xs k ≡ Some x → m ≡ n + k → test m x ≡ false → all_numbered test n xs ≡ false
  one_fails n k m [] x there is fails = absurd (cc)
  one_fails n zero m (y ∷ ys) x there is fails = grind arith
  one_fails n (suc k) m (y ∷ ys) x there is fails = and_right (test n y) (all_numbered test (suc n) ys) (one_fails (suc n) k m ys x there (omega (arith, is)) fails)

  pub only_passes : (n k m : ℕ) (xs : List X) (x : X) → slice_get xs k ≡ Some x → m ≡ n + k → test m x ≡ true → ((j i : ℕ) (y : X) → slice_get xs j ≡ Some y → i ≡ n + j → (i ≡ m → ⊥) → test i y ≡ false) → first_numbered test n xs ≡ Some m
  only_passes n k m [] x there is passes others = absurd (cc)
  only_passes n zero m (y ∷ ys) x there is passes others = grind arith
  only_passes n (suc k) m (y ∷ ys) x there is passes others =
      rw (others 0 n y refl (omega arith) (λ same. absurd (omega (arith, same, is))))
      (only_passes (suc n) k m ys x there (omega (arith, is)) passes (λ j i z at on. others (suc j) i z at (omega (arith, on))))

-- THE ORDER

before_asym : (x y k j : ℕ) → (nat_lt x y || ((x == y) && nat_lt k j)) ≡ true → (nat_lt y x || ((y == x) && nat_lt j k)) ≡ false
before_asym x y k j h = grind (arith, nat_tests)

before_self : (x k : ℕ) → (nat_lt x x || ((x == x) && nat_lt k k)) ≡ false
before_self x k = grind (arith, nat_tests)

told_after : (a : Bool) {d : Bool} → d ≡ a → (b : Bool) {e : Bool} → e ≡ b → (t : Bool) → (d ≡ true → e ≡ true → t ≡ false) → (d ≡ true → e ≡ false → t ≡ false) → (not d || not t) ≡ true
told_after = grind arith

not_first : (a : Bool) {d : Bool} → d ≡ a → (b : Bool) → (d ≡ true → b ≡ false) → (d && b) ≡ false
not_first true is b h = rw (is, h is) refl
not_first false is b h = rw is refl

or_neither : (a b : Bool) → a ≡ true → b ≡ true → (not a || not b) ≡ false
or_neither a b h g = rw (h, g) refl

-- a request that is due has a timer that has come
due_parts : (i moment : ℕ) (r : Request) (b : Bool) (t : Option ℕ) → (r.worker == i) ≡ b → r.timer ≡ t → is_due i moment r ≡ true → (r.worker ≡ i) × ((m : ℕ) × (t ≡ Some m) × (m ≤ moment))
due_parts = grind arith

due_so : (i moment : ℕ) (r : Request) (m : ℕ) → r.worker ≡ i → r.timer ≡ Some m → m ≤ moment → is_due i moment r ≡ true
due_so = grind arith

moment_come : (start tick current sampled t : ℕ) → 0 < tick → current ≡ (sampled - start) / tick → t ≤ current → start ≤ sampled → start + t * tick ≤ sampled
moment_come = grind arith

tick_there : (start tick current sampled t : ℕ) → 0 < tick → current ≡ (sampled - start) / tick → start + t * tick ≤ sampled → t ≤ current
tick_there = grind arith

told_so : (a b k j : ℕ) → (a < b) ⊎ ((a ≡ b) × (k < j)) → (nat_lt a b || ((a == b) && nat_lt k j)) ≡ true
told_so a b k j (inl less) = grind (arith, nat_tests)
told_so a b k j (inr (same, older)) = grind (arith, nat_tests)

tick_is : (start tick t : ℕ) → 0 < tick → (start + t * tick - start) / tick ≡ t
tick_is = grind arith

-- a deadline stands in the machine's order where its tick does
turn_is : (c : Configuration) (w : Worker) (t : ℕ) → 0 < c.tick → order_on_wheel c (own_of w) (Some (w.moments.start + t * c.tick)) ≡ turn_of (went_round c w.moments) (wheel_slots c) t
turn_is c w t some = ap (λ n. if went_round c w.moments then n % wheel_slots c else n) (tick_is w.moments.start c.tick t some)

all_among : (P : WaiterId → Type 0) (x : WaiterId) (ids : List WaiterId) → AllByRecursion P ids → is_among x ids ≡ true → P x
all_among P x [] all among = absurd (false≢true among)
all_among P x (y ∷ ids) all among =
    elim (same_tells y x) [
      | inl same ↦ subst P same.1 all.0
      | inr differs ↦ all_among P x ids all.1 (rw differs.0 at among)
    ]

among_by : (id x : WaiterId) (ids : List WaiterId) → is_among x (id ∷ ids) ≡ true → (x ≡ id) ⊎ (is_among x ids ≡ true)
among_by = grind arith

module _ {B : Type 0} (w : Worker) (s : Shared B) (new : IsDueIn w s) where
  begun_by : w.moments.start ≤ w.moments.sampled
  begun_by = let t = new.submits.sound.time in omega (arith, t.begun, t.ordered)

  current_is : (driver_of w).wheel.current ≡ (w.moments.sampled - w.moments.start) / s.config.tick
  current_is = new.submits.sound.due.wheel.current

  -- a request whose deadline has come for the machine
  record HasCome (j : ℕ) (r : Record) : Type 0 where
    among : is_among r.id (driver_of w).lists.due ≡ true
    numbered : number_in w.names.requests.items r.id.0 ≡ j
    tick : ℕ
    stands : tick_at (driver_of w).requests r.id.0 ≡ Some tick
    timer : r.shown.timer ≡ Some (w.moments.start + tick * s.config.tick)

  -- is due at the driver
  due_there : (j : ℕ) (r : Record) → slice_get s.requests.items j ≡ Some r → is_due w.index w.moments.sampled r.shown ≡ true → HasCome j r
  due_there j r there come =
      let sound = new.submits.sound in
      let parts = due_parts w.index w.moments.sampled r.shown (r.shown.worker == w.index) r.shown.timer refl refl come in
      let it = stands_timed _ w.index w.moments s.config w.names (driver_of w) w.home.timers s.requests.items s.sleepers.items sound.due sound.named sound.config.some_tick begun_by j r parts.1.0 there parts.0 parts.1.1 in
      let at : tick_at (driver_of w).requests r.id.0 ≡ Some it.tick = rw it.live it.enrolled in
      let within : it.tick ≤ (driver_of w).wheel.current =
      tick_there w.moments.start s.config.tick (driver_of w).wheel.current w.moments.sampled it.tick sound.config.some_tick current_is (subst (λ t. t ≤ w.moments.sampled) it.moment parts.1.2) in
      search (among_of it.tick within (λ out. (sound.due.punctual.ahead r.id it.tick at out).0) (is_among r.id (driver_of w).lists.due) refl, at, parts.1.1 ∙ ap Some it.moment, it)
    where
      among_of : (t : ℕ) → t ≤ (driver_of w).wheel.current → (is_among r.id (driver_of w).lists.due ≡ false → (driver_of w).wheel.current < t) → (b : Bool) → is_among r.id (driver_of w).lists.due ≡ b → is_among r.id (driver_of w).lists.due ≡ true
      among_of t within out true is = is
      among_of t within out false is = let later = out is in absurd (omega (arith, within, later))

  module _ (id : WaiterId) (first : first_of (driver_of w).lists.due ≡ Some id) where
    abbrev k_first : ℕ
    k_first = number_in w.names.requests.items id.0

    who : DueAt w s id
    who = due_first w s new id first

    stands_first : tick_at (driver_of w).requests id.0 ≡ Some who.tick
    stands_first = rw who.live who.enrolled

    timer_first : who.r.shown.timer ≡ Some (w.moments.start + who.tick * s.config.tick)
    timer_first =
        let due = new.submits.sound.due in
        who.alike.timer ∙ ap (option_map (λ t. (driver_of w).wheel.start + t * (driver_of w).wheel.tick)) who.enrolled
        ∙ ap (λ a. Some (a + who.tick * (driver_of w).wheel.tick)) due.wheel.start ∙ ap (λ a. Some (w.moments.start + who.tick * a)) due.wheel.tick

    comes_first : is_due w.index w.moments.sampled who.r.shown ≡ true
    comes_first =
        let sound = new.submits.sound in
        let passed : who.tick ≤ (driver_of w).wheel.current =
        all_among (λ x. (t : ℕ) → tick_at (driver_of w).requests x.0 ≡ Some t → t ≤ (driver_of w).wheel.current) id (driver_of w).lists.due sound.due.order.come (among_first id (driver_of w).lists.due first) who.tick stands_first in
        due_so w.index w.moments.sampled who.r.shown (w.moments.start + who.tick * s.config.tick) who.worker timer_first
        (moment_come w.moments.start s.config.tick (driver_of w).wheel.current w.moments.sampled who.tick sound.config.some_tick current_is passed begun_by)

    -- it is told before each other that has come
    is_before : (j : ℕ) (r : Record) → slice_get s.requests.items j ≡ Some r → is_due w.index w.moments.sampled r.shown ≡ true → (j ≡ k_first → ⊥) → is_told_before s.config (own_of w) k_first who.r.shown.timer j r.shown.timer ≡ true
    is_before j r there come apart =
        let c = s.config in
        let n = w.names.requests.items in
        let d = driver_of w in
        let sound = new.submits.sound in
        let rest = rest_of d.lists.due in
        let it = due_there j r there come in
        let round = went_round c w.moments in
        let order = IsToldBefore round d.wheel.slots n d.requests in
        let told : AllByRecursion (λ b. order id.0 b.0) rest = (subst (Pairwise (λ a b. order a.0 b.0)) (split_first id d.lists.due first) sound.due.order.told).0 in
        let among : is_among r.id rest ≡ true =
        elim (among_by id r.id rest (ap (is_among r.id) (sym (split_first id d.lists.due first)) ∙ it.among)) [
          | inl same ↦ absurd (apart (sym it.numbered ∙ ap (λ (z : WaiterId). number_in n z.0) same))
          | inr later ↦ later
        ] in
        let by = all_among (λ b. order id.0 b.0) r.id rest told among who.tick it.tick stands_first it.stands in
        let by_slots = subst (λ m. (turn_of round m who.tick < turn_of round m it.tick) ⊎ ((turn_of round m who.tick ≡ turn_of round m it.tick) × (k_first < number_in n r.id.0))) sound.due.wheel.slots by in
        let by_number = subst (λ m. (turn_of round (wheel_slots c) who.tick < turn_of round (wheel_slots c) it.tick) ⊎ ((turn_of round (wheel_slots c) who.tick ≡ turn_of round (wheel_slots c) it.tick) × (k_first < m))) it.numbered by_slots in
        let by_first = subst (λ a. (a < turn_of round (wheel_slots c) it.tick) ⊎ ((a ≡ turn_of round (wheel_slots c) it.tick) × (k_first < j))) (sym (ap (order_on_wheel c (own_of w)) timer_first ∙ turn_is c w who.tick sound.config.some_tick)) by_number in
        let by_other = subst (λ b. (order_on_wheel c (own_of w) who.r.shown.timer < b) ⊎ ((order_on_wheel c (own_of w) who.r.shown.timer ≡ b) × (k_first < j))) (sym (ap (order_on_wheel c (own_of w)) it.timer ∙ turn_is c w it.tick sound.config.some_tick)) by_first in
        told_so (order_on_wheel c (own_of w) who.r.shown.timer) (order_on_wheel c (own_of w) r.shown.timer) k_first j by_other

    -- none that has come is told before it
    none_before : is_first_due s.config (own_of w) w.index (map (λ r. r.shown) s.requests.items) k_first ≡ true
    none_before =
        let c = s.config in
        let me = own_of w in
        let rs = s.requests.items in
        let k = k_first in
        rw (request_seen rs k who.r who.there, comes_first)
        (all_pass (is_told_after c me w.index k who.r.shown.timer) 0 (map (λ r. r.shown) rs)
        (λ j m x found is.
        let r = shown_at rs j x found in
        let at : m ≡ j = omega (arith, is) in
        subst (λ q. (not (is_due w.index me.sampled x) || not (is_told_before c me q x.timer k who.r.shown.timer)) ≡ true) (sym at)
        (told_after (is_due w.index w.moments.sampled x) refl (j == k) refl (is_told_before c me j x.timer k who.r.shown.timer)
        (λ due same.
        let eq = same_number j k same in
        let this : r.0 ≡ who.r = cc (r.1, who.there, eq) in
        subst (λ t. is_told_before c me j t k who.r.shown.timer ≡ false) (sym (ap (λ y. y.timer) (r.2 ∙ ap (λ z. z.shown) this)))
        (subst (λ q. is_told_before c me q who.r.shown.timer k who.r.shown.timer ≡ false) (sym eq) (before_self (order_on_wheel c me who.r.shown.timer) k)))
        (λ due differs.
        before_asym (order_on_wheel c me who.r.shown.timer) (order_on_wheel c me x.timer) k j
        (subst (λ y. is_told_before c me k who.r.shown.timer j y.timer ≡ true) (sym r.2)
        (is_before j r.0 r.1 (ap (is_due w.index w.moments.sampled) (sym r.2) ∙ due) (λ e. false≢true (sym differs ∙ eq-eqb j k e))))))))

    is_first : first_numbered (λ r it. is_first_due s.config (own_of w) w.index (map (λ r. r.shown) s.requests.items) r) 0 (map (λ r. r.shown) s.requests.items) ≡ Some k_first
    is_first =
        let c = s.config in
        let me = own_of w in
        let rs = s.requests.items in
        let k = k_first in
        let seen : slice_get (map (λ r. r.shown) rs) k ≡ Some who.r.shown = slice_get-map (λ r. r.shown) rs k ∙ ap (option_map (λ r. r.shown)) who.there in
        only_passes (λ r it. is_first_due c me w.index (map (λ r. r.shown) rs) r) 0 k k (map (λ r. r.shown) rs) who.r.shown seen (omega arith) none_before
        (λ j i y found is apart.
        let r = shown_at rs j y found in
        let at : i ≡ j = omega (arith, is) in
        subst (λ q. is_first_due c me w.index (map (λ r. r.shown) rs) q ≡ false) (sym at)
        (rw (request_seen rs j r.0 r.1)
        (not_first (is_due w.index w.moments.sampled r.0.shown) refl (all_numbered (is_told_after c me w.index j r.0.shown.timer) 0 (map (λ r. r.shown) rs))
        (λ due.
        one_fails (is_told_after c me w.index j r.0.shown.timer) 0 k k (map (λ r. r.shown) rs) who.r.shown seen (omega arith)
        (or_neither (is_due w.index w.moments.sampled who.r.shown) (is_told_before c me k who.r.shown.timer j r.0.shown.timer) comes_first
        (is_before j r.0 r.1 due (λ e. apart (at ∙ e))))))))

  pub in_order : IsInOrder w s
  in_order id first = is_first id first
