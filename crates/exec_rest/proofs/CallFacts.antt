-- The step of an outside caller keeps what holds of each worker.
use Rattle.std.{proofs.{Common.{◌≡◌, ◌≢◌, ℕ, zero, suc, ◌<◌, Bool, true, false, ◌&&◌, ◌||◌, List, [], ◌∷◌, length, get_or, slice_set, Some, refl, sym, ap, ◌∙◌, subst, inl, inr, arith}, lemmas.{Bool.{true≢false, false≢true, cases_Bool, or_cases, not-true}, List.{get_or-set_same, get_or-set_other}}}, specs.Prelude.{◌⊎◌, is_some, not}}
use Rattle.exec_words.specs.{Word.is_armed, declared.word.WaitTarget.WaitTarget as target}
use Rattle.exec_machine.specs.{declared.{config.Configuration.Configuration, event.Event.TheVariants.Rouse}, Callers.may_go_on, Tests.{has_ended, is_awake, is_empty}, World.{Common, Seat, no_seat, seat_of}}
use Rattle.exec_moves.specs.{declared.{handing.CallPlace.CallPlace, idling.InRingWait.InRingWait, place.Place.Place}, Call.{CallDesk, Called, no_call}, Claim.is_ring, Plays.{Playing, caller_of, first_desk}, State.{Desk, Things, WakePoll, no_queue, raised, word_of, wake_poll_of}}
use Rattle.exec_rest.{specs.{Places.{Raising, call_owes, call_raises, call_signals, has_looked, is_abed, is_in_call, is_published, is_to_enter, is_to_sleep_on_ring, is_withdrawing, owes, raises, signals, waits_on}, Rested.{IsLaidOut, IsOwed, IsRaised, IsRestful, IsSignalled, Someone, Someone.{Worker, Caller}, has_bit, is_in_pool, is_latched, is_told, place_at, sleeps}}, proofs.{CallHeeds.CallHeeds, CallSeats.{Halved, Seated}}}
pub use Rattle.std.proofs.lemmas.Bool.{cases_eq}

-- PLACES

pub abed_armed : (p : Place) → is_abed p ≡ true → is_armed (waits_on p) ≡ true
abed_armed = grind arith

pub enters_ring : (p : Place) → is_to_enter p ≡ true → waits_on p ≡ target.Ring
enters_ring (Place.RingWait InRingWait.EnterRing y) h = refl
enters_ring _ h = absurd (false≢true h)

pub sleeps_on_ring : (p : Place) → is_to_sleep_on_ring p ≡ true → waits_on p ≡ target.Ring
sleeps_on_ring (Place.RingWait InRingWait.SleepOnRing y) h = refl
sleeps_on_ring _ h = absurd (false≢true h)

-- who has come this far is there
pub desk_there : (desks : List Desk) (i : ℕ) (first : Desk) (test : Desk → Bool) → test first ≡ false → test (get_or desks i first) ≡ true → i < length desks
desk_there [] i first test fails passes = absurd (false≢true (sym fails ∙ passes))
desk_there (d ∷ desks) zero first test fails passes = omega arith
desk_there (d ∷ desks) (suc i) first test fails passes = let later = desk_there desks i first test fails passes in omega (arith, later)

seat_there : (seats : List Seat) (i : ℕ) → (get_or seats i no_seat).pool ≡ true → i < length seats
seat_there [] i pool = absurd (false≢true pool)
seat_there (seat ∷ seats) zero pool = omega arith
seat_there (seat ∷ seats) (suc i) pool = let later = seat_there seats i pool in omega (arith, later)

-- WAKE POLLS

pub raised_kept : (w : WakePoll) → (w.armed && w.kept) ≡ false → ((raised w).armed && (raised w).kept) ≡ false
raised_kept = grind arith

pub raised_ended : (landed : Bool) (w : WakePoll) → (is_some w.ended ≡ true → (landed || w.told) ≡ true) → is_some (raised w).ended ≡ true → (landed || (raised w).told) ≡ true
raised_ended = grind arith

either_or : (a b : Bool) → (a ≡ true) ⊎ (b ≡ true) → (a || b) ≡ true
either_or = grind arith

-- THE STEP of caller j, which leaves t and what its move m does
module _ (c : Configuration) (x : Playing) (laid : IsLaidOut c x) (held : IsRestful c x) (j : ℕ) (t : Common) (m : Called Things)
    (heeds : CallHeeds x.world.common (caller_of x j) x.things m) (seated : Seated x.world.common.seats t.seats m.event) (halved : Halved x.world.common t j m.desk.place) where
  abbrev d : CallDesk
  d = caller_of x j

  abbrev pub next : Playing
  next = record { world = record x.world { common = t }; desks = x.desks; callers = slice_set x.callers j m.desk; things = m.thing }

  own_call : caller_of next j ≡ m.desk
  own_call = get_or-set_same x.callers j m.desk no_call (subst (λ n. j < n) (sym laid.callers) halved.within)

  other_call : (k : ℕ) → k ≢ j → caller_of next k ≡ caller_of x k
  other_call k apart = get_or-set_other x.callers j k m.desk no_call apart

  -- whoever did so does, unless caller j was it; and caller j may do so now
  module _ (W : Place → Type 0) (C : CallPlace → Type 0) where
    pub now : C m.desk.place → Someone c next W C
    now h = Caller j (subst (λ (e : CallDesk). C e.place) (sym own_call) h)

    pub still : Someone c x W C → Someone c next W C ⊎ C d.place
    still (Worker k h) = inl (Worker k h)
    still (Caller k h) = elim (cases_eq k j) [
      | inl is ↦ inr (subst (λ n. C (caller_of x n).place) is h)
      | inr apart ↦ inl (Caller k (subst (λ (e : CallDesk). C e.place) (sym (other_call k apart)) h))
    ]

  abbrev of : ℕ → Bool → Raising
  of i ring = record { worker = i; ring = ring }

  raised_now : (i : ℕ) (ring : Bool) → call_raises m.desk.place ≡ Some (of i ring) → IsRaised c next i ring
  raised_now i ring h = now (λ p. raises p ≡ Some (of i ring)) (λ p. call_raises p ≡ Some (of i ring)) h

  raised_still : (i : ℕ) (ring : Bool) → IsRaised c x i ring → IsRaised c next i ring ⊎ (call_raises d.place ≡ Some (of i ring))
  raised_still i ring h = still (λ p. raises p ≡ Some (of i ring)) (λ p. call_raises p ≡ Some (of i ring)) h

  pool_same : (i : ℕ) → is_in_pool c next i ≡ is_in_pool c x i
  pool_same i = seated.pool i

  in_words : (i : ℕ) → is_in_pool c next i ≡ true → i < length x.things.words
  in_words i pool = subst (λ n. i < n) (sym laid.words) (seat_there x.world.common.seats i (sym (pool_same i) ∙ pool))

  in_polls : (i : ℕ) (test : Place → Bool) → test Place.BeginTurn ≡ false → test (place_at c x i) ≡ true → i < length x.things.wake_polls
  in_polls i test fails passes =
      subst (λ n. i < n) (laid.desks ∙ sym laid.polls) (desk_there x.desks i (first_desk c i) (λ e. test e.place) fails passes)

  -- SLEEP

  pub slept : (i : ℕ) → sleeps c next i ≡ true → (sleeps c x i ≡ true) × (m.event ≡ Rouse i → ⊥)
  slept i h = let was = seated.asleep i (not-true (is_awake (seat_of t i).rest) h) in (ap not was.0, was.1)

  abed : (i : ℕ) → sleeps c next i ≡ true → is_abed (place_at c next i) ≡ true
  abed i h = held.abed i (slept i h).0

  target_of : (i : ℕ) → is_armed (waits_on (place_at c x i)) ≡ true → (word_of x.things i).target ≡ waits_on (place_at c x i)
  target_of i h = held.armed i (λ none. true≢false (sym h ∙ ap is_armed none))

  pub some_target : (i : ℕ) → is_armed (waits_on (place_at c x i)) ≡ true → (word_of x.things i).target ≡ target.None → ⊥
  some_target i h none = true≢false (sym h ∙ ap is_armed (sym (target_of i h) ∙ none))

  armed : (i : ℕ) → waits_on (place_at c next i) ≢ target.None → (word_of m.thing i).target ≡ waits_on (place_at c next i)
  armed i h = heeds.targets i ∙ held.armed i h

  raised_asleep : (i : ℕ) (ring : Bool) → sleeps c next i ≡ true → IsRaised c x i ring → IsRaised c next i ring
  raised_asleep i ring asleep h = elim (raised_still i ring h) [
    | inl it ↦ it
    | inr mine ↦ elim (heeds.rouses i ring mine) [
      | inl awake ↦ absurd (false≢true (ap not (sym awake) ∙ (slept i asleep).0))
      | inr is ↦ absurd ((slept i asleep).1 is)
    ]
  ]

  either_way : (i : ℕ) (ring : Bool) → call_raises m.desk.place ≡ Some (of i ring) → IsRaised c next i true ⊎ IsRaised c next i false
  either_way i true h = inl (raised_now i true h)
  either_way i false h = inr (raised_now i false h)

  rung : (i : ℕ) → sleeps c next i ≡ true → is_latched c next i ≡ true → IsRaised c next i true ⊎ IsRaised c next i false
  rung i asleep latch = elim (heeds.latch_in i latch) [
    | inl was ↦ elim (held.rung i (slept i asleep).0 was) [ inl h ↦ inl (raised_asleep i true asleep h) | inr h ↦ inr (raised_asleep i false asleep h) ]
    | inr made ↦ elim made [
      | inl h ↦ either_way i (is_ring (word_of x.things i).target) h
      | inr none ↦ absurd (some_target i (abed_armed (place_at c x i) (held.abed i (slept i asleep).0)) none)
    ]
  ]

  -- RINGS

  polls_then : (P : WakePoll → Type 0) (i : ℕ) → P (wake_poll_of x.things i) → P (raised (wake_poll_of x.things i)) → P (wake_poll_of m.thing i)
  polls_then P i same raises = elim (heeds.polls i) [ inl is ↦ subst P (sym is) same | inr is ↦ subst P (sym is) raises ]

  told_still : (i : ℕ) → is_told c x i ≡ true → is_told c next i ≡ true
  told_still = grind arith

  -- a wake of worker i is raised by the step
  heard_now : (i : ℕ) → wake_poll_of m.thing i ≡ raised (wake_poll_of x.things i) → (is_told c next i || (wake_poll_of m.thing i).kept) ≡ true
  heard_now = grind arith

  heard_still : (i : ℕ) → (is_told c x i || (wake_poll_of x.things i).kept) ≡ true → (is_told c next i || (wake_poll_of m.thing i).kept) ≡ true
  heard_still = grind arith

  -- a latch that was put in by the step: its wait on the ring is ended next
  rings_next : (i : ℕ) → waits_on (place_at c x i) ≡ target.Ring → (call_raises m.desk.place ≡ Some (of i (is_ring (word_of x.things i).target))) ⊎ ((word_of x.things i).target ≡ target.None) → IsRaised c next i true
  rings_next i waits (inl h) = raised_now i true (h ∙ ap (λ w. Some (of i (is_ring w))) (target_of i (ap is_armed waits) ∙ waits))
  rings_next i waits (inr none) = absurd (some_target i (ap is_armed waits) none)

  entering : (i : ℕ) → is_to_enter (place_at c next i) ≡ true → is_latched c next i ≡ true → IsRaised c next i true ⊎ ((is_told c next i || (wake_poll_of m.thing i).kept) ≡ true)
  entering i at latch = elim (heeds.latch_in i latch) [
    | inr made ↦ inl (rings_next i (enters_ring (place_at c x i) at) made)
    | inl was ↦ elim (held.entering i at was) [
      | inr told ↦ inr (heard_still i told)
      | inl h ↦ elim (raised_still i true h) [ inl it ↦ inl it | inr mine ↦ inr (heard_now i (heeds.raising i mine (in_polls i is_to_enter refl at))) ]
    ]
  ]

  told_by : (i : ℕ) → is_to_sleep_on_ring (place_at c x i) ≡ true → wake_poll_of m.thing i ≡ raised (wake_poll_of x.things i) → is_told c next i ≡ true
  told_by = grind arith

  sleeping : (i : ℕ) → is_to_sleep_on_ring (place_at c next i) ≡ true → is_latched c next i ≡ true → IsRaised c next i true ⊎ (is_told c next i ≡ true)
  sleeping i at latch = elim (heeds.latch_in i latch) [
    | inr made ↦ inl (rings_next i (sleeps_on_ring (place_at c x i) at) made)
    | inl was ↦ elim (held.sleeping i at was) [
      | inr told ↦ inr (told_still i told)
      | inl h ↦ elim (raised_still i true h) [ inl it ↦ inl it | inr mine ↦ inr (told_by i at (heeds.raising i mine (in_polls i is_to_sleep_on_ring refl at))) ]
    ]
  ]

  polled : (i : ℕ) → is_to_sleep_on_ring (place_at c next i) ≡ true → ((wake_poll_of m.thing i).armed || is_told c next i) ≡ true
  polled i at = elim (heeds.polls i) [
    | inr is ↦ either_or (wake_poll_of m.thing i).armed (is_told c next i) (inr (told_by i at is))
    | inl is ↦ grind arith
  ]

  kept : (i : ℕ) → ((wake_poll_of m.thing i).armed && (wake_poll_of m.thing i).kept) ≡ false
  kept i = polls_then (λ w. (w.armed && w.kept) ≡ false) i (held.kept i) (raised_kept (wake_poll_of x.things i) (held.kept i))

  ended : (i : ℕ) → is_some (wake_poll_of m.thing i).ended ≡ true → (not (is_empty (seat_of t i).landed) || (wake_poll_of m.thing i).told) ≡ true
  ended i =
      rw (seated.landed i)
      (polls_then (λ w. is_some w.ended ≡ true → (not (is_empty (seat_of x.world.common i).landed) || w.told) ≡ true) i (held.ended i)
      (raised_ended (not (is_empty (seat_of x.world.common i).landed)) (wake_poll_of x.things i) (held.ended i)))

  -- BITS AND THE GLOBAL QUEUE

  bit_gone : (i : ℕ) → has_bit c x i ≡ false → has_bit c next i ≡ false
  bit_gone = grind arith

  bits : (i : ℕ) → has_bit c next i ≡ true → (is_published (place_at c next i) ≡ true) × (is_in_pool c next i ≡ true)
  bits i h = let was = held.bits i (heeds.bit_in i h) in (was.0, pool_same i ∙ was.1)

  answered : (i : ℕ) → is_in_pool c next i ≡ true → is_published (place_at c next i) ≡ true → has_bit c next i ≡ false → (is_withdrawing (place_at c next i) || is_latched c next i) ≡ true ⊎ IsSignalled c next i
  answered i pool at gone = elim (cases_Bool (has_bit c x i)) [
    | inl there ↦ inr (now (λ p. signals p ≡ Some i) (λ p. call_signals p ≡ Some i) (heeds.bit_out i there gone))
    | inr none ↦ elim (held.answered i (sym (pool_same i) ∙ pool) at none) [
      | inl h ↦ inl (either_or (is_withdrawing (place_at c x i)) (is_latched c next i) (elim (or_cases (is_withdrawing (place_at c x i)) (is_latched c x i) h) [ inl goes ↦ inl goes | inr latch ↦ inr (heeds.latch_kept i latch) ]))
      | inr h ↦ elim (still (λ p. signals p ≡ Some i) (λ p. call_signals p ≡ Some i) h) [
        | inl it ↦ inr it
        | inr mine ↦ inl (either_or (is_withdrawing (place_at c x i)) (is_latched c next i) (inr (heeds.signalling i mine (in_words i pool))))
      ]
    ]
  ]

  abbrev IsCovered : Type 0
  IsCovered = IsOwed c next ⊎ ((i : ℕ) × (is_in_pool c next i ≡ true) × (has_looked (place_at c next i) ≡ true → has_bit c next i ≡ false))

  owed_now : call_owes m.desk.place ≡ true → IsCovered
  owed_now h = inl (now (λ p. owes p ≡ true) (λ p. call_owes p ≡ true) h)

  -- the caller owed a look, and somebody was claimed, or nobody was there
  look_over : call_owes d.place ≡ true → IsCovered
  look_over mine = elim (heeds.owing mine) [
    | inl h ↦ owed_now h
    | inr over ↦ grind arith
  ]

  covered : (m.thing.global ≡ [] → ⊥) → IsCovered
  covered some = elim (heeds.global some) [
    | inr h ↦ owed_now h
    | inl was ↦ elim (held.covered was) [
      | inl h ↦ elim (still (λ p. owes p ≡ true) (λ p. call_owes p ≡ true) h) [ inl it ↦ inl it | inr mine ↦ look_over mine ]
      | inr one ↦ inr (one.0, pool_same one.0 ∙ one.1, λ looked. bit_gone one.0 (one.2 looked))
    ]
  ]

  -- CALLS

  calls : (k : ℕ) → is_in_call (caller_of next k).place ≡ true → may_go_on t k ≡ true
  calls k h = elim (cases_eq k j) [
    | inl is ↦ subst (λ n. may_go_on t n ≡ true) (sym is) (halved.own (subst (λ (e : CallDesk). is_in_call e.place ≡ true) own_call (subst (λ n. is_in_call (caller_of next n).place ≡ true) is h)))
    | inr apart ↦ halved.others k apart ∙ held.calls k (subst (λ (e : CallDesk). is_in_call e.place ≡ true) (other_call k apart) h)
  ]

  pub restful : IsRestful c next
  restful =
      record {
        abed = abed;
        armed = armed;
        rung = rung;
        entering = entering;
        sleeping = sleeping;
        asked = held.asked;
        polled = polled;
        kept = kept;
        ended = ended;
        pooled = λ i h. pool_same i ∙ held.pooled i h;
        bits = bits;
        answered = answered;
        covered = covered;
        dried = λ i pool dry. ap (λ qs. (get_or qs i no_queue).values) heeds.queues ∙ held.dried i (sym (pool_same i) ∙ pool) dry;
        over = λ i h. held.over i (sym (ap has_ended (seated.phase i)) ∙ h);
        calls = calls;
      }
