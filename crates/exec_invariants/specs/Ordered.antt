-- THE ORDER in which the deadlines of a worker are told.
use Rattle.std.specs.Prelude.{◌≡◌, ◌+◌, ◌-◌, ◌/◌, ◌%◌, ◌^◌, ◌<◌, ◌≤◌, ◌⊎◌, ◌∷◌, if◌then◌else◌}
use Rattle.exec_invariants.specs.Words.{ℕ, Bool, false, List, [], Option, Some, nat_le, AllByRecursion, Slab, IsPast, Id, Wheel, awaits_tick, tick_of, waiter_at, Entry, WaiterId, Configuration, wheel_slots, Reply, Moments, number_in}

abbrev pub Pairwise : {X : Type 0} → (X → X → Type 0) → List X → Type 0
Pairwise R [] = Unit {0}
Pairwise R (x ∷ xs) = AllByRecursion (R x) xs × Pairwise R xs

-- request a was made before request b
abbrev pub IsOlder : List ℕ → Id → Id → Type 0
IsOlder numbers a b = number_in numbers a < number_in numbers b

-- the tick of the wheel at which a request stands there
abbrev pub tick_at : Slab (Entry Reply Reply) → Id → Option ℕ
tick_at s id = tick_of (waiter_at s id)

-- whether the last advance of the wheel went all the way round
abbrev pub went_round : Configuration → Moments → Bool
went_round c m = nat_le ((m.before - m.start) / c.tick + wheel_slots c) ((m.sampled - m.start) / c.tick)

-- when a tick is told: by its slot where the wheel went round
abbrev pub turn_of : Bool → ℕ → ℕ → ℕ
turn_of round slots t = if round then t % slots else t

-- an id in the bucket of a slot: that of a request which stands there, or which is off the wheel for ever
pub record StandsIn (s : Slab (Entry Reply Reply)) (slots slot : ℕ) (id : Id) : Type 0 where
  pub bounded : id.generation < 2 ^ 64
  pub past : IsPast s id
  pub taken : awaits_tick (waiter_at s id) ≡ false
  pub slot_is : (t : ℕ) → tick_at s id ≡ Some t → t % slots ≡ slot

-- of two that stand in the wheel, the first is older
abbrev pub StandsBefore : List ℕ → Slab (Entry Reply Reply) → Id → Id → Type 0
StandsBefore numbers s a b = (t u : ℕ) → tick_at s a ≡ Some t → tick_at s b ≡ Some u → IsOlder numbers a b

abbrev pub IsToldBefore : Bool → ℕ → List ℕ → Slab (Entry Reply Reply) → Id → Id → Type 0
IsToldBefore round slots numbers s a b = (t u : ℕ) → tick_at s a ≡ Some t → tick_at s b ≡ Some u
    → (turn_of round slots t < turn_of round slots u) ⊎ ((turn_of round slots t ≡ turn_of round slots u) × IsOlder numbers a b)

abbrev pub HasCome : Slab (Entry Reply Reply) → ℕ → Id → Type 0
HasCome s current id = (t : ℕ) → tick_at s id ≡ Some t → t ≤ current

-- Those to be enrolled stand in the order of their making, and were made after all in the wheel; so each bucket is in
-- that order, of which no two ticks share one; and what is due is in the machine's, by whether its wheel went round.
pub record IsOrdered (round : Bool) (numbers : List ℕ) (s : Slab (Entry Reply Reply)) (w : Wheel) (enrolments due : List WaiterId) : Type 0 where
  pub drained : w.ready ≡ []
  pub reach : (id : Id) (t : ℕ) → tick_at s id ≡ Some t → t < w.current + w.slots
  pub rise : Pairwise (λ a b. IsOlder numbers a.0 b.0) enrolments
  pub newer : (id : Id) (t : ℕ) → tick_at s id ≡ Some t → AllByRecursion (λ e. IsOlder numbers id e.0) enrolments
  pub stands : (slot : ℕ) → AllByRecursion (StandsIn s w.slots slot) (w.bucket slot)
  pub buckets : (slot : ℕ) → Pairwise (StandsBefore numbers s) (w.bucket slot)
  pub come : AllByRecursion (λ id. HasCome s w.current id.0) due
  pub told : Pairwise (λ a b. IsToldBefore round w.slots numbers s a.0 b.0) due
