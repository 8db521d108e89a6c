-- What the middle of a service finds where no deadline has come, none is new, and no request waits at a gate.
use Rattle.exec_invariants.{proofs.{Names.{◌≡◌, ℕ, zero, suc, ◌+◌, ◌-◌, ◌*◌, ◌<◌, ◌≤◌, ◌==◌, Bool, true, false, List, [], ◌∷◌, map, Option, Some, None, refl, sym, ap, subst, ◌∙◌, arith, slice_get, nat_le, false≢true, nat_tests, div-lt_iff_lt-mul, list_any, option_map, Slab, Sleeping, waiter_at, tick_in, Waiter, Driving, Configuration, Request, is_due, is_first_due, is_resolved, Own, Common, InService, first_numbered, Desk, first_due, next_gate, due_next, staging_due, Reply, Names, Record, SleeperRecord, Moments, number_in, same_number}, Recorded.request_seen}, specs.{Due.{IsDue, wheel_moment}, Names.IsNamed}}

-- LISTS

pub first_none : {X : Type 0} (test : ℕ → X → Bool) (n : ℕ) (xs : List X) → ((k m : ℕ) (x : X) → slice_get xs k ≡ Some x → m ≡ n + k → test m x ≡ false) → first_numbered test n xs ≡ None
first_none test n [] h = refl
first_none test n (x ∷ xs) h = rw (h 0 n x refl (omega arith)) (first_none test (suc n) xs (λ k m y there is. h (suc k) m y there (omega (arith, is))))

pub none_any : {X : Type 0} (test : X → Bool) (xs : List X) → ((k : ℕ) (x : X) → slice_get xs k ≡ Some x → test x ≡ false) → list_any test xs ≡ false
none_any test [] h = refl
none_any test (x ∷ xs) h = rw (h 0 x refl) (none_any test xs (λ k y there. h (suc k) y there))

-- what stands in the list that is shown stands among the records
pub shown_at : (rs : List Record) (k : ℕ) (x : Request) → slice_get (map (λ r. r.shown) rs) k ≡ Some x → (r : Record) × (slice_get rs k ≡ Some r) × (x ≡ r.shown)
shown_at [] k x there = absurd (cc)
shown_at (r ∷ rs) zero x there = (r, refl, cc)
shown_at (r ∷ rs) (suc k) x there = shown_at rs k x there

not_yet : (m t : ℕ) → m < t → nat_le t m ≡ false
not_yet m t h = grind (arith, nat_tests)

-- DEADLINES

due_by : (i moment : ℕ) (r : Request) (b : Bool) (t : Option ℕ) → (r.worker == i) ≡ b → r.timer ≡ t → (b ≡ true → (m : ℕ) → t ≡ Some m → nat_le m moment ≡ false) → is_due i moment r ≡ false
due_by = grind arith

module _ {closing : Bool} (x : Option InService) (i : ℕ) (m : Moments) (c : Configuration) (n : Names) (d : Driving Reply Reply) (zs : Slab (Sleeping Reply)) (rs : List Record) (ss : List SleeperRecord)
    (due : IsDue x closing i m c n d zs rs ss) (named : IsNamed i n d zs rs ss) (some : 0 < c.tick) (begun : m.start ≤ wheel_moment x m) where
  -- a request of the worker with a deadline is at its driver
  pub record StandsTimed (k : ℕ) (r : Record) (t : ℕ) : Type 0 where
    pub it : Waiter Reply Reply
    pub live : waiter_at d.requests r.id.0 ≡ Some it
    pub numbered : number_in n.requests.items r.id.0 ≡ k
    pub tick : ℕ
    pub enrolled : tick_in it.state ≡ Some tick
    pub moment : t ≡ m.start + tick * c.tick

  timer_at : (o : Option ℕ) (t : ℕ) → option_map (λ j. d.wheel.start + j * d.wheel.tick) o ≡ Some t → (j : ℕ) × (o ≡ Some j) × (t ≡ m.start + j * c.tick)
  timer_at = grind arith

  pub stands_timed : (k : ℕ) (r : Record) (t : ℕ) → slice_get rs k ≡ Some r → r.shown.worker ≡ i → r.shown.timer ≡ Some t → StandsTimed k r t
  stands_timed k r t there mine timer =
      let it = due.timed k r there mine in
      let no : Some t ≡ None → ⊥ = λ e. absurd (cc) in
      let stays : (b : Bool) → is_resolved r.shown.phase ≡ b → b ≡ false = λ b.
      elim b as (λ b. is_resolved r.shown.phase ≡ b → b ≡ false) [ true ↦ λ is. absurd (no (sym timer ∙ it.over is)) | false ↦ λ is. refl ] in
      let unresolved : is_resolved r.shown.phase ≡ false = stays (is_resolved r.shown.phase) refl in
      let number = it.named unresolved in
      let by : (o : Option (Waiter Reply Reply)) → waiter_at d.requests r.id.0 ≡ o → StandsTimed k r t = λ o.
      elim o as (λ o. waiter_at d.requests r.id.0 ≡ o → StandsTimed k r t) [
        | None ↦ λ gone. absurd (false≢true (sym unresolved ∙ named.over k r there mine gone))
        | Some w ↦ λ at.
            let e = timer_at (tick_in w.state) t (sym (named.alike r.id.0 w r at (ap (slice_get rs) number ∙ there)).timer ∙ timer) in
            record { it = w; live = at; numbered = number; tick = e.0; enrolled = e.1; moment = e.2 }
      ] in
      by (waiter_at d.requests r.id.0) refl

  -- where nothing is due no moment has come
  pub ahead : (k : ℕ) (r : Record) (t : ℕ) → d.lists.due ≡ [] → slice_get rs k ≡ Some r → r.shown.worker ≡ i → r.shown.timer ≡ Some t → wheel_moment x m < t
  ahead k r t none there mine timer =
      let it = stands_timed k r t there mine timer in
      let later = (due.punctual.ahead r.id it.tick (rw it.live it.enrolled) (rw none refl)).0 in
      let less : wheel_moment x m - m.start < it.tick * c.tick = (div-lt_iff_lt-mul some).0 (subst (λ j. j < it.tick) due.wheel.current later) in
      omega (arith, less, it.moment, begun)

  undue : d.lists.due ≡ [] → (k : ℕ) (r : Record) → slice_get rs k ≡ Some r → is_due i (wheel_moment x m) r.shown ≡ false
  undue = grind (arith, due_by, not_yet, ahead, same_number)

  pub none_due : (me : Own) (s : Common) → s.requests ≡ map (λ r. r.shown) rs → me.sampled ≡ wheel_moment x m → d.lists.due ≡ [] → first_due c i me s ≡ None
  none_due me s shown sampled none =
      rw shown
      (first_none (λ r it. is_first_due c me i (map (λ q. q.shown) rs) r) 0 (map (λ q. q.shown) rs)
      (λ k j y there is.
      let f = shown_at rs k y there in
      let same : j ≡ k = omega (arith, is) in
      rw (same, request_seen rs k f.0 f.1, sampled, undue none k f.0 f.1) refl))

-- THE MIDDLE OF A SERVICE

pub comes_to_staging : (c : Configuration) (i gate : ℕ) (me : Own) (s : Common) (d : Desk) → first_due c i me s ≡ None → slice_get me.unenrolled 0 ≡ None → next_gate i gate s ≡ None → due_next c i gate me s d ≡ staging_due c me d
comes_to_staging c i gate me s d none new gated = rw (none, new, gated) refl
