-- What is left of each worker, request and message where all workers sleep or have ended.
use Rattle.std.{proofs.{Common.{◌≡◌, ◌⊎◌, ℕ, zero, suc, ◌<◌, ◌≤◌, ◌==◌, ◌&&◌, ◌||◌, Bool, true, false, not, List, [], ◌∷◌, length, get_or, Some, None, cond, if◌then◌else◌, ◌∙◌, refl, sym, ap, subst, arith, inl, inr}, lemmas.{Bool.{true≢false, false≢true, cases_lt, eq-eqb, or_left, or_right, not-true}, List.{get_or_past, Sums.sum_by-cons}}}, specs.{Prelude.nat_le, List.list_any}}
use Rattle.exec_machine.specs.{declared.{config.Configuration.Configuration, state.{Request.Request, RequestPhase.RequestPhase}}, Deadlines.{earlier, first_timer, first_until, is_after, is_due}, Progress.{all_asleep, is_cancel_untold, is_sleeper_unfinished}, Tests.{has_ended, is_asleep, is_gated, is_in_flight, is_landed, is_open, is_queued, is_resolved, is_staged}, World.{Common, World, no_request, own_of, request_of, seat_of, sleeper_of}}
use Rattle.exec_moves.specs.{declared.{handing.{AfterCallbacks.AfterCallbacks, Heard.Heard}, place.{InCallbacks.InCallbacks, InPoll.InPoll, Place.Place}}, Plays.{Playing, desk_of, first_desk}, State.Desk}
use Rattle.exec_books.specs.{Listed.is_in, Booked.{IsBooked, unreleased_of}}
use Rattle.exec_settled.{proofs.Undone.{after_earlier, first_ahead, none_due, none_slept, false_from_ne_true}, specs.{Given.passes_at, Permits.{hands_to, is_past}, Settled.{HasSubmitted, HasTold, HaveLetGo, IsSettled, ends_ring_wait, has_submitted, has_told, waits_on_word}}}
use Rattle.exec_rest.{specs.{AtRest.{IsPlaced, is_end, is_idle, stays_closing}, Places.is_abed, Posted.has_tested, Rested.{IsRestful, place_at, sleeps}}, proofs.Rest.down}

-- PLACES OF SLEEP, AND OF THE END

idle_passes : (p : Place) → is_idle p ≡ true → passes_at p ≡ None
idle_passes = grind arith

idle_hands : (p : Place) → is_idle p ≡ true → hands_to p ≡ None
idle_hands = grind arith

pub abed_past : (file : ℕ) (p : Place) → is_abed p ≡ true → is_past file p ≡ true
abed_past = grind arith

abed_tested : (p : Place) → is_abed p ≡ true → stays_closing p ≡ false → has_tested p ≡ true
abed_tested = grind arith

abed_told : (p : Place) → is_abed p ≡ true → has_told p ≡ true
abed_told = grind arith

abed_submitted : (p : Place) → is_abed p ≡ true → has_submitted p ≡ true
abed_submitted = grind arith

abed_where : (p : Place) → is_abed p ≡ true → (waits_on_word p ≡ true) ⊎ (ends_ring_wait p ≡ true)
abed_where = grind arith

end_told : (p : Place) → is_end p ≡ true → has_told p ≡ true
end_told = grind arith

-- REQUESTS

-- where none of a worker's isn't over each is
pub all_over : (i : ℕ) (rs : List Request) → list_any (λ r. (r.worker == i) && not (is_resolved r.phase)) rs ≡ false → (k : ℕ) → (get_or rs k no_request).worker ≡ i → is_resolved (get_or rs k no_request).phase ≡ true
all_over i [] h k own = refl
all_over i (r ∷ rs) h zero own = grind (arith, true≢false, eq-eqb)
all_over i (r ∷ rs) h (suc k) own = all_over i rs (by ((r.worker == i) && not (is_resolved r.phase)) h) k own
  where
    by : (b : Bool) → (b || list_any (λ r. (r.worker == i) && not (is_resolved r.phase)) rs) ≡ false → list_any (λ r. (r.worker == i) && not (is_resolved r.phase)) rs ≡ false
    by true h = absurd (true≢false h)
    by false h = h

abbrev count_one : ℕ → Request → ℕ
count_one i r = cond ((r.worker == i) && not r.released) 1 0

-- where none of a worker's is not released each is
pub all_released : (i : ℕ) (rs : List Request) → unreleased_of i rs ≡ 0 → (k : ℕ) → (get_or rs k no_request).worker ≡ i → (get_or rs k no_request).released ≡ true
all_released i [] h k own = refl
all_released i (r ∷ rs) h zero own = by r.released refl
  where
    by : (b : Bool) → r.released ≡ b → b ≡ true
    by true is = refl
    by false is = let one : count_one i r ≡ 1 = rw (eq-eqb r.worker i own, is) refl in let sum = sum_by-cons (count_one i) r rs in absurd (omega (arith, one, sum, h))
all_released i (r ∷ rs) h (suc k) own = all_released i rs (let sum = sum_by-cons (count_one i) r rs in omega (arith, sum, h)) k own

-- who has ended has let go of all
pub has_let_go : (w : World) → IsBooked w → HaveLetGo w
has_let_go w booked i k ended own =
    let out = all_released i w.common.requests (sym (booked.counted i) ∙ (booked.over i ended).0) k own in
    (booked.let_go k out, out)

-- a request that is over
pub record IsOver (p : RequestPhase) : Type 0 where
  pub gated : is_gated p ≡ false
  pub queued : is_queued p ≡ false
  pub staged : is_staged p ≡ false
  pub landed : is_landed p ≡ false
  pub in_flight : is_in_flight p ≡ false

pub over_phase : (p : RequestPhase) → is_resolved p ≡ true → IsOver p
over_phase = grind arith

-- where none of these isn't over
none_in : (s : Common) (untold : List ℕ) → ((k : ℕ) → is_in k untold ≡ true → is_resolved (request_of s k).phase ≡ true) → list_any (λ r. not (is_resolved (request_of s r).phase)) untold ≡ false
none_in s [] each = refl
none_in s (r ∷ untold) each =
    rw (each r (or_left (r == r) (is_in r untold) (eq-eqb r r refl)), none_in s untold (λ k h. each k (or_right (r == k) (is_in k untold) h))) refl

-- A WORKER THAT SLEEPS, whatever others do

module _ (c : Configuration) (x : Playing) (held : IsRestful c x) (booked : IsBooked x.world) (settled : IsSettled c x) (i : ℕ) (asleep : sleeps c x i ≡ true) where
  abbrev its : Common
  its = x.world.common

  -- none of its requests is staged or landed, and the kernel was told of all cancels of those that aren't over
  pub entered : (k : ℕ) → (request_of its k).worker ≡ i → (is_staged (request_of its k).phase ≡ false) × (is_landed (request_of its k).phase ≡ false)
  entered k own = elim (abed_where (place_at c x i) (held.abed i asleep)) [
    | inl on_word ↦ let over = over_phase (request_of its k).phase (all_over i its.requests (settled.free i on_word) k own) in (over.staged, over.landed)
    | inr on_ring ↦ (
      (settled.entered_then i asleep on_ring).staged k own,
      false_from_ne_true (is_landed (request_of its k).phase) (λ landed.
          false≢true (subst (λ l. is_in k l ≡ true) (settled.landed i asleep on_ring) (subst (λ j. is_in k (seat_of its j).landed ≡ true) own ((booked.listed k).landed_in landed)))),
    )
  ]

  untold_over : (k : ℕ) → is_in k (own_of x.world i).untold ≡ true → is_resolved (request_of its k).phase ≡ true
  untold_over k untold = elim (abed_where (place_at c x i) (held.abed i asleep)) [
    | inl on_word ↦ all_over i its.requests (settled.free i on_word) k (booked.untold i k untold).1
    | inr on_ring ↦ absurd (false≢true (subst (λ l. is_in k l ≡ true) (settled.entered_then i asleep on_ring).untold untold))
  ]

  pub cancels_told : is_cancel_untold its (own_of x.world i) ≡ false
  cancels_told = none_in its (own_of x.world i).untold untold_over

  pub told_asleep : HasTold (own_of x.world i) (desk_of c x i)
  told_asleep = settled.told i (abed_told (place_at c x i) (held.abed i asleep))

  pub submitted : HasSubmitted c (own_of x.world i)
  submitted = settled.submitted i (abed_submitted (place_at c x i) (held.abed i asleep))

  -- each of its deadlines is ahead
  pub none_comes : (k : ℕ) → is_due i its.clock (request_of its k) ≡ false
  none_comes = none_due i its.clock its.requests (first_ahead its.clock (is_open (seat_of its i).phase) (first_timer i its.requests) (first_until i its.sleepers) (booked.dues i (not-true _ asleep)).1)

  -- AN OPEN ONE sleeps in a turn

  module _ (placed : IsPlaced c x) (opened : is_open (seat_of its i).phase ≡ true) where
    pub tests : has_tested (place_at c x i) ≡ true
    tests = abed_tested (place_at c x i) (held.abed i asleep) (placed.stays i opened)

    pub none_fires : (z : ℕ) → (sleeper_of its z).worker ≡ i → is_sleeper_unfinished its (sleeper_of its z) ≡ false
    none_fires z own =
        let timer = first_timer i its.requests in
        let until = first_until i its.sleepers in
        let ahead = subst (λ b. is_after its.clock (if b then earlier timer until else timer) ≡ true) opened (booked.dues i (not-true _ asleep)).1 in
        subst (λ j. (is_asleep j (sleeper_of its z) && nat_le (sleeper_of its z).until its.clock) ≡ false) (sym own) (none_slept i its.clock its.sleepers (after_earlier its.clock timer until ahead).1 z)

-- WORKERS, where all sleep and no call is half done

module _ (c : Configuration) (x : Playing) (placed : IsPlaced c x) (held : IsRestful c x) (booked : IsBooked x.world) (settled : IsSettled c x) (all : all_asleep x.world ≡ true) where
  abbrev s : Common
  s = x.world.common

  -- who is there has ended and stands at its end, or is open and sleeps
  pub idles : (i : ℕ) → i < length x.desks → is_idle (place_at c x i) ≡ true
  idles = grind (arith, down, or_right, or_left)

  -- who isn't there begins
  not_there : (i : ℕ) → length x.desks ≤ i → place_at c x i ≡ Place.BeginTurn
  not_there i past = ap (λ (d : Desk). d.place) (get_or_past x.desks i (first_desk c i) past)

  at_each : (P : Place → Type 0) → P Place.BeginTurn → ((p : Place) → is_idle p ≡ true → P p) → (i : ℕ) → P (place_at c x i)
  at_each = grind (arith, cases_lt, idles, not_there)

  pub nobody_passes : (i file : ℕ) → passes_at (place_at c x i) ≡ Some file → ⊥
  nobody_passes i file h = let none = at_each (λ p. passes_at p ≡ None) refl idle_passes i in cc

  pub nobody_hands : (i j : ℕ) → hands_to (place_at c x i) ≡ Some j → ⊥
  nobody_hands i j h = let none = at_each (λ p. hands_to p ≡ None) refl idle_hands i in cc

  pub nobody_wakes : (i t : ℕ) (of : Heard) (n : AfterCallbacks) → place_at c x i ≡ Place.Callbacks (InCallbacks.WakeWaiter t of) n → ⊥
  nobody_wakes i t of n h = let it = at_each (λ p. (p ≡ Place.BeginTurn) ⊎ (is_idle p ≡ true)) (inl refl) (λ p is. inr is) i in elim it [
    | inl begins ↦ cc
    | inr idle ↦ absurd (false≢true (sym (ap is_idle h) ∙ idle))
  ]

  pub nobody_looks : (i t : ℕ) → place_at c x i ≡ Place.Poll t InPoll.Resume → ⊥
  nobody_looks i t h = let it = at_each (λ p. (p ≡ Place.BeginTurn) ⊎ (is_idle p ≡ true)) (inl refl) (λ p is. inr is) i in elim it [
    | inl begins ↦ cc
    | inr idle ↦ absurd (false≢true (sym (ap is_idle h) ∙ idle))
  ]

  pub told : (i : ℕ) → i < length x.desks → HasTold (own_of x.world i) (desk_of c x i)
  told i within = elim (down c x held all i) [
    | inl over ↦ settled.told i (end_told (place_at c x i) (placed.over i within over))
    | inr asleep ↦ told_asleep c x held booked settled i asleep.1
  ]

  -- A WORKER THAT HAS ENDED has no request that isn't over, nor a sleeper

  pub over_of : (i : ℕ) → has_ended (seat_of s i).phase ≡ true → (k : ℕ) → (request_of s k).worker ≡ i → (is_resolved (request_of s k).phase ≡ true) × ((request_of s k).released ≡ true)
  over_of = grind (arith, all_released)

  pub cancels_done : (i : ℕ) → is_cancel_untold s (own_of x.world i) ≡ false
  cancels_done i = elim (down c x held all i) [
    | inl over ↦ none_in s (own_of x.world i).untold (λ k untold. (over_of i over k (booked.untold i k untold).1).0)
    | inr asleep ↦ cancels_told c x held booked settled i asleep.1
  ]

  pub sleeper_done : (z : ℕ) → is_sleeper_unfinished s (sleeper_of s z) ≡ false
  sleeper_done z = let i = (sleeper_of s z).worker in elim (down c x held all i) [
    | inl over ↦ ap (λ b. b && nat_le (sleeper_of s z).until s.clock) ((booked.over i over).1 z)
    | inr asleep ↦ none_fires c x held booked settled i asleep.1 placed asleep.0 z refl
  ]
