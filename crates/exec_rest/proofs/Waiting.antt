-- Moves of a worker that looks for something to do, or whether it may wait: between places at which its wake word and its ring
-- are as at any other, and it does nothing for others.
use Rattle.std.{proofs.{Common.{◌≡◌, ℕ, zero, suc, ◌<◌, Bool, true, false, ◌&&◌, List, [], ◌∷◌, length, refl, slice_set, slice_index_or, if◌then◌else◌, arith}, lemmas.{Bool.{true≢false, false≢true, and_parts, cases_eq}, List.get_or-set_other}}, specs.Prelude.{◌⊎◌, not}}
use Rattle.exec_words.specs.{Idle.is_in, Queue.Queue, Word.is_armed}
use Rattle.exec_machine.specs.World.{Common}
use Rattle.exec_moves.specs.{declared.place.Place.Place, Callback.is_of_pool, State.{Desk, Moved, Things, no_queue, queue_of}, Thing.{set_idle, set_queue}}
use Rattle.exec_rest.{specs.Places.{asked_for_poll, has_looked, is_dry, is_pooled, is_published, is_to_enter, is_to_sleep_on_ring, owes_nothing, waits_on}, proofs.{Heeds.Heeds, Plain.{Aside, Calm, calm, is_calm, is_mute}}}
pub use Rattle.std.proofs.lemmas.Bool.{not-true}

-- BOOLS

abbrev pub implies : Bool → Bool → Bool
implies a true = true
implies a false = not a

implied : (a b : Bool) → implies a b ≡ true → a ≡ true → b ≡ true
implied = grind arith

-- LISTS: what holds of one of them

-- another one is put in, of which P holds where it held of what was there
pub put_keeps : {A : Type 0} (P : A → Type 0) (xs : List A) (i j : ℕ) (a d : A) → (P (slice_index_or xs i d) → P a) → P (slice_index_or xs j d) → P (slice_index_or (slice_set xs i a) j d)
put_keeps P [] i j a d keeps h = h
put_keeps P (x ∷ xs) zero zero a d keeps h = keeps h
put_keeps P (x ∷ xs) zero (suc j) a d keeps h = h
put_keeps P (x ∷ xs) (suc i) zero a d keeps h = h
put_keeps P (x ∷ xs) (suc i) (suc j) a d keeps h = put_keeps P xs i j a d keeps h

-- a bit put in, and one taken out
pub put_in : (bits : List Bool) (i j : ℕ) → is_in bits j ≡ true → is_in (slice_set bits i true) j ≡ true
put_in bits i j h = put_keeps (λ b. b ≡ true) bits i j true false (λ was. refl) h

pub put_in_own : (bits : List Bool) (i j : ℕ) → is_in (slice_set bits i true) j ≡ true → (is_in bits j ≡ true) ⊎ (j ≡ i)
put_in_own = grind (arith, cases_eq, get_or-set_other)

pub taken_out : (bits : List Bool) (i j : ℕ) → is_in (slice_set bits i false) j ≡ true → is_in bits j ≡ true
taken_out bits i j h = put_keeps (λ b. b ≡ true → is_in bits j ≡ true) bits i j false false (λ was it. absurd (false≢true it)) (λ it. it) h

pub taken_out_own : (bits : List Bool) (i j : ℕ) → is_in bits j ≡ true → is_in (slice_set bits i false) j ≡ false → j ≡ i
taken_out_own = grind (arith, cases_eq, true≢false, get_or-set_other)

pub is_out : (bits : List Bool) (i : ℕ) → is_in (slice_set bits i false) i ≡ false
is_out [] i = refl
is_out (b ∷ bits) zero = refl
is_out (b ∷ bits) (suc i) = is_out bits i

-- THINGS

module _ (i : ℕ) (x : Things) (k : ℕ) where
  -- a queue of any worker, which stays empty where it was
  pub still_empty : (q : Queue ℕ) → ((queue_of x k).values ≡ [] → q.values ≡ []) → (j : ℕ) → (queue_of x j).values ≡ [] → (queue_of (set_queue k x q) j).values ≡ []
  still_empty q keeps j h = put_keeps (λ (v : Queue ℕ). v.values ≡ []) x.queues k j q no_queue keeps h

  pub queue_put : (q : Queue ℕ) → ((queue_of x k).values ≡ [] → q.values ≡ []) → Aside i x (set_queue k x q)
  queue_put = grind (arith, still_empty)

-- the same, with the idle set that is there then
pub with_set : {i : ℕ} {x y : Things} → Aside i x y → Aside i (set_idle x y.idle) y
with_set = grind arith

-- PLACES

-- its wake word says that it waits on nothing, and no sleep on its ring comes before that
abbrev pub is_loose : Place → Bool
is_loose q = not (is_armed (waits_on q)) && not (is_to_enter q) && not (is_to_sleep_on_ring q) && not (asked_for_poll q)

pub calm_loose : (q : Place) → is_calm q ≡ true → is_loose q ≡ true
calm_loose q h = let at = calm q h in rw (at.waits, at.to_enter, at.to_sleep, at.asked) refl

-- as far as the idle set and the global queue go, no more is known at q than at p
abbrev pub may_go : Place → Place → Bool
may_go p q =
    is_loose q && implies (is_published p) (is_published q) && implies (is_published q) (is_published p) && implies (has_looked q) (has_looked p) && implies (is_pooled q) (is_pooled p)

-- one of two places, of which both pass a test
pub either : (test : Place → Bool) (b : Bool) (p q : Place) → test p ≡ true → test q ≡ true → test (if b then p else q) ≡ true
either = grind arith

-- THE MOVE

-- what it does with the idle set and with the own run queue, from p to q
module _ (i : ℕ) (s : Common) (x : Things) (p q : Place) (y : Things) where
  pub record Sets : Type 0 where
    pub bit_in : (j : ℕ) → is_in y.idle.published j ≡ true → (is_in x.idle.published j ≡ true) ⊎ ((j ≡ i) × (is_pooled p ≡ true) × (is_published q ≡ true) × (has_looked q ≡ false))
    pub bit_out : (j : ℕ) → is_in x.idle.published j ≡ true → is_in y.idle.published j ≡ false → (j ≡ i) × (is_published q ≡ false)
    pub unpublished : is_of_pool s i ≡ true → is_published p ≡ true → is_in y.idle.published i ≡ true → is_published q ≡ true
    pub published : is_of_pool s i ≡ true → i < length x.idle.published → is_published q ≡ true → (is_published p ≡ true) ⊎ (is_in y.idle.published i ≡ true)
    pub bits : length y.idle.published ≡ length x.idle.published

  pub record Knows : Type 0 where
    pub looked : is_of_pool s i ≡ true → has_looked q ≡ true → (has_looked p ≡ true) ⊎ (x.global ≡ [])
    pub dry : is_of_pool s i ≡ true → (is_dry p ≡ true → (queue_of x i).values ≡ []) → is_dry q ≡ true → (queue_of y i).values ≡ []
    pub pooled : (is_pooled p ≡ true → is_of_pool s i ≡ true) → is_pooled q ≡ true → is_of_pool s i ≡ true

  -- the idle set stays
  pub same_set : y.idle.published ≡ x.idle.published → (is_of_pool s i ≡ true → is_published p ≡ true → is_published q ≡ true)
      → (is_of_pool s i ≡ true → is_published q ≡ true → is_published p ≡ true) → Sets
  same_set = grind arith

  -- at a calm place nothing is known
  pub nothing_known : Calm q → Knows
  nothing_known = grind arith

  -- what is known of the own run queue at q was known at p already, and the queue stays empty
  pub still_dry : implies (is_dry q) (is_dry p) ≡ true → ((queue_of x i).values ≡ [] → (queue_of y i).values ≡ [])
      → is_of_pool s i ≡ true → (is_dry p ≡ true → (queue_of x i).values ≡ []) → is_dry q ≡ true → (queue_of y i).values ≡ []
  still_dry known keeps pool before h = keeps (before (implied (is_dry q) (is_dry p) known h))

module _ (R : Type 0) (i : ℕ) (s : Common) (d : Desk) (x : Things) (m : Moved Things) (p : Place) (is : d.place ≡ p) (nothing : owes_nothing p ≡ true) where
  abbrev q : Place
  q = m.desk.place

  -- in all else nothing changes
  pub steady : is_loose q ≡ true → Aside i (set_idle x m.thing.idle) m.thing → is_mute m.event ≡ true → Sets i s x p q m.thing → Knows i s x p q m.thing → Heeds R i s d x m
  steady = grind arith

  -- from one place to the next, where no more is known but maybe of the own run queue
  pub onward : may_go p q ≡ true → Aside i x m.thing → is_mute m.event ≡ true
      → (is_of_pool s i ≡ true → (is_dry p ≡ true → (queue_of x i).values ≡ []) → is_dry q ≡ true → (queue_of m.thing i).values ≡ []) → Heeds R i s d x m
  onward = grind (arith, and_parts, steady, with_set, same_set, implied)

  -- the same, with the own run queue
  pub goes_on : may_go p q ≡ true → implies (is_dry q) (is_dry p) ≡ true → Aside i x m.thing → is_mute m.event ≡ true → ((queue_of x i).values ≡ [] → (queue_of m.thing i).values ≡ []) → Heeds R i s d x m
  goes_on going known aside mute keeps = onward going aside mute (still_dry i s x p q m.thing known keeps)

  -- to a calm place, from where its bit isn't in
  pub calms : is_published p ≡ false → is_calm q ≡ true → Aside i x m.thing → is_mute m.event ≡ true → Heeds R i s d x m
  calms = grind arith
