-- What a closing worker lets go next, as the machine's worker finds it by its slots.
use Rattle.exec_invariants.{proofs.{Names.{◌≡◌, ℕ, zero, suc, ◌+◌, ◌<◌, Bool, true, false, cond, List, [], ◌∷◌, count_by, map, option_map, Option, Some, None, IsSome, refl, sym, ap, subst, ◌∙◌, arith, slice_get, slice_index_or, if◌then◌else◌, eq-eqb, false≢true, sum_by-cons, get_or_from_slice_get, slice_get-map, Slab, is_live, live_count, value_at, Id, Slot, Live, Vacant, Retired, Sleeping, IsFirstHeld, is_held, is_held_at, Entry, Pending, Ready, Said, Plan, is_asleep, no_request, no_sleeper, request_of, sleeper_of, Place, after_letting_go, first_asleep, first_held, first_in, Reply, Record, Shared, SleeperRecord, Worker, ClosesOn, number_in, Spot, Views, common_of, desk_of, driver_of, slots_from, same_Some}, Slotted.live_at}, specs.Sound.SoundAt}

-- THE FIRST BY SLOTS

abbrev pub number_at : List ℕ → ℕ → ℕ
number_at numbers j = slice_index_or numbers j 0

at_first : (test : ℕ → Bool) (numbers : List ℕ) (k : ℕ) (b : Bool) → test (number_at numbers (k + 0)) ≡ b → test (number_at numbers k) ≡ b
at_first test numbers k b is = ap (λ j. test (number_at numbers j)) (let e : k ≡ k + 0 = omega arith in e) ∙ is

at_later : (test : ℕ → Bool) (numbers : List ℕ) (k j : ℕ) (b : Bool) → test (number_at numbers (k + suc j)) ≡ b → test (number_at numbers (suc k + j)) ≡ b
at_later test numbers k j b is = ap (λ i. test (number_at numbers i)) (let e : suc k + j ≡ k + suc j = omega arith in e) ∙ is

module _ {T : Type 0} where
  pub first_none : (test : ℕ → Bool) (numbers : List ℕ) (k : ℕ) (slots : List (Slot T)) → ((j g : ℕ) (e : T) → slice_get slots j ≡ Some (Live g e) → test (number_at numbers (k + j)) ≡ false) → first_in test (slots_from k numbers slots) ≡ None
  first_none test numbers k [] none = refl
  first_none test numbers k (Live g e ∷ slots) none =
      ap (λ b. if b then Some (number_at numbers k) else first_in test (slots_from (suc k) numbers slots)) (at_first test numbers k false (none 0 g e refl))
      ∙ first_none test numbers (suc k) slots (λ j h x at. at_later test numbers k j false (none (suc j) h x at))
  first_none test numbers k (Vacant g ∷ slots) none = first_none test numbers (suc k) slots (λ j h x at. at_later test numbers k j false (none (suc j) h x at))
  first_none test numbers k (Retired ∷ slots) none = first_none test numbers (suc k) slots (λ j h x at. at_later test numbers k j false (none (suc j) h x at))

  pub first_found : (test : ℕ → Bool) (numbers : List ℕ) (k : ℕ) (slots : List (Slot T)) (i g : ℕ) (e : T) → slice_get slots i ≡ Some (Live g e) → test (number_at numbers (k + i)) ≡ true
      → ((j h : ℕ) (x : T) → j < i → slice_get slots j ≡ Some (Live h x) → test (number_at numbers (k + j)) ≡ false) → first_in test (slots_from k numbers slots) ≡ Some (number_at numbers (k + i))
  first_found test numbers k [] i g e at passes none = absurd (let no : None ≡ Some (Live g e) = at in cc)
  first_found test numbers k (x ∷ slots) zero g e at passes none = grind (arith, same_Some, at_first)
  first_found test numbers k (Live h y ∷ slots) (suc i) g e at passes none =
      ap (λ b. if b then Some (number_at numbers k) else first_in test (slots_from (suc k) numbers slots)) (at_first test numbers k false (none 0 h y (omega arith) refl))
      ∙ first_found test numbers (suc k) slots i g e at (at_later test numbers k i true passes) (λ j z x less at_j. at_later test numbers k j false (none (suc j) z x (omega (arith, less)) at_j))
      ∙ ap (λ j. Some (number_at numbers j)) (let e : suc k + i ≡ k + suc i = omega arith in e)
  first_found test numbers k (Vacant h ∷ slots) (suc i) g e at passes none = grind (arith, at_later, first_found test numbers (suc k) slots i g e at (at_later test numbers k i true passes) (λ j z x less at_j. at_later test numbers k j false (none (suc j) z x (omega (arith, less)) at_j)))
  first_found test numbers k (Retired ∷ slots) (suc i) g e at passes none = grind (arith, at_later, first_found test numbers (suc k) slots i g e at (at_later test numbers k i true passes) (λ j z x less at_j. at_later test numbers k j false (none (suc j) z x (omega (arith, less)) at_j)))

  -- where all that are there pass, the first is there where any is
  first_some : (test : ℕ → Bool) (numbers : List ℕ) (k : ℕ) (slots : List (Slot T)) → 0 < count_by is_live slots → ((j g : ℕ) (e : T) → slice_get slots j ≡ Some (Live g e) → test (number_at numbers (k + j)) ≡ true) → (n : ℕ) × (first_in test (slots_from k numbers slots) ≡ Some n)
  first_some test numbers k [] some all = absurd (omega (arith, some))
  first_some test numbers k (Live g e ∷ slots) some all =
      (number_at numbers k, ap (λ b. if b then Some (number_at numbers k) else first_in test (slots_from (suc k) numbers slots)) (at_first test numbers k true (all 0 g e refl)))
  first_some test numbers k (Vacant g ∷ slots) some all = first_some test numbers (suc k) slots some (λ j h x at. at_later test numbers k j true (all (suc j) h x at))
  first_some test numbers k (Retired ∷ slots) some all = first_some test numbers (suc k) slots some (λ j h x at. at_later test numbers k j true (all (suc j) h x at))

  -- nobody is there
  nobody : (slots : List (Slot T)) → count_by is_live slots ≡ 0 → (j g : ℕ) (e : T) → slice_get slots j ≡ Some (Live g e) → ⊥
  nobody [] none j g e at = absurd (let no : None ≡ Some (Live g e) = at in cc)
  nobody (Live h y ∷ slots) none j g e at = let sums = sum_by-cons (λ (x : Slot T). cond (is_live x) 1 0) (Live h y) slots in absurd (omega (arith, none, sums))
  nobody (Vacant h ∷ slots) none zero g e at = absurd (let no : Vacant h ≡ Live g e = same_Some (Vacant h) (Live g e) at in cc)
  nobody (Vacant h ∷ slots) none (suc j) g e at = nobody slots none j g e at
  nobody (Retired ∷ slots) none zero g e at = absurd (let no : Retired ≡ Live g e = same_Some Retired (Live g e) at in cc)
  nobody (Retired ∷ slots) none (suc j) g e at = nobody slots none j g e at

-- WHAT STANDS IN A SLOT has its name

abbrev pub named_at : ℕ → ℕ → Id
named_at j g = record { index = j; generation = g }

pub live_value : {T : Type 0} (s : Slab T) (j g : ℕ) (e : T) → slice_get s.slots j ≡ Some (Live g e) → value_at s (named_at j g) ≡ Some e
live_value = grind (arith, get_or_from_slice_get, eq-eqb)

module _ {B L : Type 0} (left : B → L) (spot : L → Option Said → Spot) (p : Plan) (vs : Views) (q : Place) (w : Worker) (s : Shared B) (sound : SoundAt q w s) where
  pub record_there : (k : ℕ) (r : Record) → slice_get s.requests.items k ≡ Some r → request_of (common_of left spot p vs s) k ≡ r.shown
  record_there k r at = get_or_from_slice_get (map (λ (r : Record). r.shown) s.requests.items) k r.shown no_request (slice_get-map (λ (r : Record). r.shown) s.requests.items k ∙ ap (option_map (λ (r : Record). r.shown)) at)

  pub sleeper_there : (k : ℕ) (z : SleeperRecord) → slice_get s.sleepers.items k ≡ Some z → sleeper_of (common_of left spot p vs s) k ≡ z.shown
  sleeper_there k z at = get_or_from_slice_get (map (λ (z : SleeperRecord). z.shown) s.sleepers.items) k z.shown no_sleeper (slice_get-map (λ (z : SleeperRecord). z.shown) s.sleepers.items k ∙ ap (option_map (λ (z : SleeperRecord). z.shown)) at)

  -- the machine sees of the request in a slot whether somebody holds it, and of each sleeper in one that it sleeps
  pub observed_in : (id : Id) (e : Entry Reply Reply) → value_at (driver_of w).requests id ≡ Some e → (request_of (common_of left spot p vs s) (number_in w.names.requests.items id)).observed ≡ is_held e
  observed_in id e at =
      let it = sound.named.requests id (subst IsSome (sym at) refl) in
      ap (λ x. x.observed) (record_there (number_in w.names.requests.items id) it.0 it.1) ∙ by e at it.0 it.1
    where
      by : (e : Entry Reply Reply) → value_at (driver_of w).requests id ≡ Some e → (r : Record) → slice_get s.requests.items (number_in w.names.requests.items id) ≡ Some r → r.shown.observed ≡ is_held e
      by (Pending x) at r there = (sound.named.alike id x r (rw at refl) there).observed
      by (Ready told) at r there = (sound.rooted.kept id told r at there).observed

  pub asleep_in : (id : Id) (e : Sleeping Reply) → value_at w.home.timers id ≡ Some e → is_asleep w.index (sleeper_of (common_of left spot p vs s) (number_in w.names.timers.items id)) ≡ true
  asleep_in id e at =
      let it = sound.named.timers id (subst IsSome (sym at) refl) in
      ap (is_asleep w.index) (sleeper_there (number_in w.names.timers.items id) it.0 it.1) ∙ (sound.due.asleep.alike id e it.0 at it.1).asleep

  -- THE FIRST REQUEST THAT SOMEBODY HOLDS

  pub none_held : ((id : Id) → is_held_at (value_at (driver_of w).requests id) ≡ false) → first_held (common_of left spot p vs s) (desk_of w) ≡ None
  none_held none =
      first_none (λ r. (request_of (common_of left spot p vs s) r).observed) w.names.requests.items 0 (driver_of w).requests.slots
      (λ j g e at.
      let value = live_value (driver_of w).requests j g e at in
      ap (λ n. (request_of (common_of left spot p vs s) (slice_index_or w.names.requests.items n 0)).observed) (let e : 0 + j ≡ j = omega arith in e)
      ∙ observed_in (named_at j g) e value ∙ sym (ap is_held_at value) ∙ none (named_at j g))

  pub held_found : (id : Id) → IsFirstHeld (driver_of w).requests id → first_held (common_of left spot p vs s) (desk_of w) ≡ Some (number_in w.names.requests.items id)
  held_found id first = by (value_at (driver_of w).requests id) refl first.held
    where
      test : ℕ → Bool
      test r = (request_of (common_of left spot p vs s) r).observed

      zero_on : (j : ℕ) (b : Bool) → test (slice_index_or w.names.requests.items j 0) ≡ b → test (slice_index_or w.names.requests.items (0 + j) 0) ≡ b
      zero_on j b is = ap (λ n. test (slice_index_or w.names.requests.items n 0)) (let e : 0 + j ≡ j = omega arith in e) ∙ is

      by : (o : Option (Entry Reply Reply)) → value_at (driver_of w).requests id ≡ o → is_held_at o ≡ true → first_held (common_of left spot p vs s) (desk_of w) ≡ Some (number_in w.names.requests.items id)
      by None at held = absurd (false≢true held)
      by (Some e) at held =
          first_found test w.names.requests.items 0 (driver_of w).requests.slots id.index id.generation e (live_at (driver_of w).requests id e at)
          (zero_on id.index true (observed_in id e at ∙ held))
          (λ j g x less at_j.
          let value = live_value (driver_of w).requests j g x at_j in
          zero_on j false (observed_in (named_at j g) x value ∙ sym (ap is_held_at value) ∙ first.none_before (named_at j g) less))
          ∙ ap (λ n. Some (slice_index_or w.names.requests.items n 0)) (let e : 0 + id.index ≡ id.index = omega arith in e)

  -- THE FIRST SLEEPER

  pub none_asleep : live_count w.home.timers ≡ 0 → first_asleep w.index (common_of left spot p vs s) (desk_of w) ≡ None
  none_asleep none =
      first_none (λ z. is_asleep w.index (sleeper_of (common_of left spot p vs s) z)) w.names.timers.items 0 w.home.timers.slots
      (λ j g e at. absurd (nobody w.home.timers.slots none j g e at))

  pub some_asleep : 0 < live_count w.home.timers → (n : ℕ) × (first_asleep w.index (common_of left spot p vs s) (desk_of w) ≡ Some n)
  some_asleep some =
      first_some (λ z. is_asleep w.index (sleeper_of (common_of left spot p vs s) z)) w.names.timers.items 0 w.home.timers.slots some
      (λ j g e at.
      ap (λ n. is_asleep w.index (sleeper_of (common_of left spot p vs s) (slice_index_or w.names.timers.items n 0))) (let e : 0 + j ≡ j = omega arith in e)
      ∙ asleep_in (named_at j g) e (live_value w.home.timers j g e at))

  -- WHERE IT GOES ON
  pub lets_next : (next : Place) → ClosesOn (driver_of w) w.home.timers next → after_letting_go (first_held (common_of left spot p vs s) (desk_of w)) (first_asleep w.index (common_of left spot p vs s) (desk_of w)) ≡ next
  lets_next next (ClosesOn.holds id first is) =
      ap (λ o. after_letting_go o (first_asleep w.index (common_of left spot p vs s) (desk_of w))) (held_found id first) ∙ sym is
  lets_next next (ClosesOn.sleeps none some is) = grind (arith, none_held, some_asleep)
  lets_next next (ClosesOn.nothing none gone is) = grind (arith, none_held, none_asleep)
