-- Where all workers sleep, nobody has to do anything for others any more; and so nothing is left to be run.
use Rattle.std.{proofs.{Common.{◌≡◌, ℕ, zero, suc, Bool, true, false, List, [], ◌∷◌, get_or, Option, Some, refl, sym, ap, ◌∙◌, inl, inr, arith}, lemmas.Bool.{true≢false, false≢true, and_parts, false_from_ne_true, or_cases, not-true}}, specs.{Prelude.{◌⊎◌, not}, List.list_all}}
use Rattle.exec_machine.specs.{declared.config.Configuration.Configuration, Callers.{is_half_done, may_go_on}, Progress.{all_asleep, is_down}, Tests.{has_ended, is_open}, World.seat_of, Same.is_none}
use Rattle.exec_moves.specs.{declared.{handing.CallPlace.CallPlace, place.Place.Place}, Plays.{Playing, caller_of}}
use Rattle.exec_rest.specs.{AtRest.{IsPlaced, stays_closing}, Places.{call_owes, call_raises, call_signals, has_looked, is_abed, is_dry, is_in_call, is_published, is_withdrawing, owes, owes_nothing, raises, signals}, Rested.{IsLaidOut, IsOwed, IsPoolOpen, IsRaised, IsRestful, IsSignalled, NothingWaits, Someone, has_bit, is_in_pool, is_latched, place_at, sleeps}}
use Rattle.exec_machine.specs.declared.state.Call.TheVariants as call

-- a test that all in a list pass, and what stands past its end
pub all_at : {X : Type 0} (test : X → Bool) (d : X) → test d ≡ true → (xs : List X) → list_all test xs ≡ true → (i : ℕ) → test (get_or xs i d) ≡ true
all_at test d past [] all i = past
all_at test d past (x ∷ xs) all zero = (and_parts (test x) (list_all test xs) all).0
all_at test d past (x ∷ xs) all (suc i) = all_at test d past xs (and_parts (test x) (list_all test xs) all).1 i

pub some_at_all : {T : Type 0} (o : Option T) (a : T) → is_none o ≡ true → o ≡ Some a → ⊥
some_at_all o a none is = false≢true (sym (ap is_none is) ∙ none)

pub none_or_some : {T : Type 0} (xs : List T) → (xs ≡ []) ⊎ (xs ≡ [] → ⊥)
none_or_some [] = inl refl
none_or_some (x ∷ xs) = grind arith

-- A PLACE AT WHICH IT SLEEPS

abed_owes_nothing : (p : Place) → is_abed p ≡ true → owes_nothing p ≡ true
abed_owes_nothing = grind arith

pub owes_parts : (p : Place) → owes_nothing p ≡ true → (is_none (signals p) ≡ true) × (is_none (raises p) ≡ true) × (not (owes p) ≡ true)
owes_parts = grind (arith, and_parts)

pub record Abed (p : Place) : Type 0 where
  pub looked : has_looked p ≡ true
  pub published : is_published p ≡ true
  pub stays : is_withdrawing p ≡ false
  pub dry : is_dry p ≡ true

pub abed : (p : Place) → is_abed p ≡ true → stays_closing p ≡ false → Abed p
abed = grind arith

-- who has no call half done owes nothing
pub record NoCall (p : CallPlace) : Type 0 where
  pub idle : is_in_call p ≡ false
  pub signals : is_none (call_signals p) ≡ true
  pub raises : is_none (call_raises p) ≡ true
  pub owes : call_owes p ≡ false

no_call_of : (p : CallPlace) → is_in_call p ≡ false → NoCall p
no_call_of CallPlace.Nothing h = record { idle = refl; signals = refl; raises = refl; owes = refl }
no_call_of _ h = absurd (true≢false h)

pub calls_none : (c : Configuration) (x : Playing) → IsRestful c x → list_all (λ call. not (is_half_done call)) x.world.common.callers ≡ true → (j : ℕ) → NoCall (caller_of x j).place
calls_none c x held none j =
    let idle = not-true (may_go_on x.world.common j) (all_at (λ call. not (is_half_done call)) call.Nothing refl x.world.common.callers none j) in
    no_call_of (caller_of x j).place (false_from_ne_true (is_in_call (caller_of x j).place) (λ h. true≢false (sym (held.calls j h) ∙ idle)))

module _ (c : Configuration) (x : Playing) (held : IsRestful c x) (all : all_asleep x.world ≡ true) where
  both : (list_all is_down x.world.common.seats ≡ true) × (list_all (λ call. not (is_half_done call)) x.world.common.callers ≡ true)
  both = and_parts (list_all is_down x.world.common.seats) (list_all (λ call. not (is_half_done call)) x.world.common.callers) all

  -- past the list of seats a worker has ended
  pub down : (i : ℕ) → (has_ended (seat_of x.world.common i).phase ≡ true) ⊎ ((is_open (seat_of x.world.common i).phase ≡ true) × (sleeps c x i ≡ true))
  down = grind (arith, or_cases, all_at, both, and_parts)

  idle : (i : ℕ) → owes_nothing (place_at c x i) ≡ true
  idle = grind (arith, down, abed_owes_nothing, abed)

  idle_parts : (i : ℕ) → (is_none (signals (place_at c x i)) ≡ true) × (is_none (raises (place_at c x i)) ≡ true) × (not (owes (place_at c x i)) ≡ true)
  idle_parts i = owes_parts (place_at c x i) (idle i)

  pub callers : (j : ℕ) → NoCall (caller_of x j).place
  callers = calls_none c x held both.1

  pub unsignalled : (i : ℕ) → IsSignalled c x i → ⊥
  unsignalled i (Someone.Worker j h) = some_at_all (signals (place_at c x j)) i (idle_parts j).0 h
  unsignalled i (Someone.Caller j h) = some_at_all (call_signals (caller_of x j).place) i (callers j).signals h

  pub unraised : (i : ℕ) (ring : Bool) → IsRaised c x i ring → ⊥
  unraised i ring (Someone.Worker j h) = some_at_all (raises (place_at c x j)) (record { worker = i; ring = ring }) (idle_parts j).1 h
  unraised i ring (Someone.Caller j h) = some_at_all (call_raises (caller_of x j).place) (record { worker = i; ring = ring }) (callers j).raises h

  unowed : IsOwed c x → ⊥
  unowed (Someone.Worker j h) = true≢false (sym h ∙ not-true (owes (place_at c x j)) (idle_parts j).2)
  unowed (Someone.Caller j h) = true≢false (sym h ∙ (callers j).owes)

  -- who sleeps was not signalled, since nobody ends its wait
  pub unlatched : (i : ℕ) → sleeps c x i ≡ true → is_latched c x i ≡ true → ⊥
  unlatched i asleep latched = elim (held.rung i asleep latched) [
    | inl raised ↦ unraised i true raised
    | inr raised ↦ unraised i false raised
  ]

  module _ (still : IsPoolOpen c x) (open_stays : (i : ℕ) → is_open (seat_of x.world.common i).phase ≡ true → stays_closing (place_at c x i) ≡ false) where
    -- a worker of the pool sleeps in a turn
    in_turn : (i : ℕ) → is_in_pool c x i ≡ true → (sleeps c x i ≡ true) × Abed (place_at c x i)
    in_turn i pool = elim (down i) [
      | inl over ↦ absurd (true≢false (sym over ∙ still i pool))
      | inr asleep ↦ (asleep.1, abed (place_at c x i) (held.abed i asleep.1) (open_stays i asleep.0))
    ]

    -- it has its bit: none took it out without signalling it
    uncovered : (i : ℕ) → is_in_pool c x i ≡ true → has_bit c x i ≡ false → ⊥
    uncovered i pool out =
        let it = in_turn i pool in
        elim (held.answered i pool it.1.published out) [
          | inl h ↦ elim (or_cases (is_withdrawing (place_at c x i)) (is_latched c x i) h) [
            | inl goes ↦ true≢false (sym goes ∙ it.1.stays)
            | inr latched ↦ unlatched i it.0 latched
          ]
          | inr signalled ↦ unsignalled i signalled
        ]

    nothing_there : x.things.global ≡ []
    nothing_there = elim (none_or_some x.things.global) [
      | inl none ↦ none
      | inr some ↦ elim (held.covered some) [
        | inl owed ↦ absurd (unowed owed)
        | inr looks ↦ absurd (uncovered looks.0 looks.1 (looks.2 (in_turn looks.0 looks.1).1.looked))
      ]
    ]

    all_rests : NothingWaits c x
    all_rests =
        record {
          global = nothing_there;
          queues = λ i pool. held.dried i pool (in_turn i pool).1.dry;
          latches = λ i asleep. false_from_ne_true (is_latched c x i) (unlatched i asleep);
        }

-- An open worker doesn't wait as one that closes: `IsRestful` says nothing of that.
pub nothing_waits : (c : Configuration) (x : Playing) → IsLaidOut c x → IsRestful c x → all_asleep x.world ≡ true → IsPoolOpen c x
    → (open_stays : (i : ℕ) → is_open (seat_of x.world.common i).phase ≡ true → stays_closing (place_at c x i) ≡ false) → NothingWaits c x
nothing_waits c x laid held all still open_stays = all_rests c x held all still open_stays

pub rests : (c : Configuration) (x : Playing) → IsPlaced c x → IsRestful c x → all_asleep x.world ≡ true → IsPoolOpen c x → NothingWaits c x
rests c x placed held all going = nothing_waits c x placed.laid held all going placed.stays
