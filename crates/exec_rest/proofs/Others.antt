-- Steps of the clock, the kernel and the peers: they move nobody, and let nobody sleep, and what lands is seen.
use Rattle.std.{proofs.{Common.{◌≡◌, ℕ, zero, suc, ◌+◌, ◌<◌, ◌≤◌, ◌==◌, Bool, true, false, ◌||◌, List, [], ◌∷◌, ◌++◌, length, map, get_or, set, is_some, refl, sym, ap, ◌∙◌, subst, inl, inr, arith}, lemmas.{Bool.{false≢true, eqb-true, eqb-false, ltb-true, ltb-false, or_cases, or_left, or_right}, List.{get_or-set_same, get_or-set_other, set_past}}}, specs.Prelude.{◌⊎◌, nat_lt, not}}
use Rattle.exec_machine.specs.{declared.{config.Configuration.Configuration, state.{Rest.{Rest, TheVariants.Awake}, Call.Call as call}, step.Action.{Action, Action as action}}, Callers.{is_enabled, is_half_done}, Deadlines.roused_at, Tests.{has_ended, is_awake, is_empty}, World.{Seat, no_seat, request_of, seat_of}}
use Rattle.exec_moves.specs.{declared.{handing.CallPlace.CallPlace, place.Place.Place}, Call.no_call, Plays.{Playing, by_action, caller_of, desk_of, first_desk, last_told}, State.{Desk, WakePoll, no_queue, no_wake_poll, no_word, passed, queue_of, wake_poll_of}}
use Rattle.exec_rest.specs.{Places.{asked_for_poll, call_owes, call_raises, call_signals, has_looked, is_abed, is_dry, is_in_call, is_pooled, is_published, is_to_enter, is_to_sleep_on_ring, is_withdrawing, owes, owes_nothing, raises, signals, waits_on}, Rested.{IsLaidOut, IsOwed, IsRaised, IsRestful, IsSignalled, Someone, has_bit, is_in_pool, is_latched, is_told, place_at, poll_at, sleeps}}

-- a step of the clock, the kernel or a peer
abbrev pub is_other : Action → Bool
is_other (action.Work i) = false
is_other (action.Spawn j k) = false
is_other (action.Wake j t) = false
is_other (action.GoOn j) = false
is_other _ = true

-- WHAT SUCH A STEP LEAVES of a worker: its seat, its desk and its wake poll, before and then

-- a completion is there
abbrev is_there : Seat → Desk → WakePoll → Bool
is_there s d w = not (is_empty s.landed) || nat_lt 0 d.others || w.told

pub record Alike (s s' : Seat) (d d' : Desk) (w w' : WakePoll) : Type 0 where
  pub pool : s'.pool ≡ s.pool
  pub phase : s'.phase ≡ s.phase
  pub asleep : not (is_awake s'.rest) ≡ true → not (is_awake s.rest) ≡ true
  pub place : d'.place ≡ d.place
  pub polled : d'.polled ≡ d.polled
  pub armed : w'.armed ≡ w.armed
  pub kept : w'.kept ≡ w.kept
  pub ended : is_some w'.ended ≡ is_some w.ended
  pub told : is_there s d w ≡ true → is_there s' d' w' ≡ true
  pub noticed : (not (is_empty s.landed) || w.told) ≡ true → (not (is_empty s'.landed) || w'.told) ≡ true

itself : (s : Seat) (d : Desk) (w : WakePoll) → Alike s s d d w w
itself s d w =
    record { pool = refl; phase = refl; asleep = λ h. h; place = refl; polled = refl; armed = refl; kept = refl; ended = refl; told = λ h. h; noticed = λ h. h }

pub record Beside (c : Configuration) (x y : Playing) : Type 0 where
  pub workers : (i : ℕ) → Alike (seat_of x.world.common i) (seat_of y.world.common i) (desk_of c x i) (desk_of c y i) (wake_poll_of x.things i) (wake_poll_of y.things i)
  pub words : y.things.words ≡ x.things.words
  pub queues : y.things.queues ≡ x.things.queues
  pub global : y.things.global ≡ x.things.global
  pub idle : y.things.idle ≡ x.things.idle
  pub calls : y.world.common.callers ≡ x.world.common.callers
  pub callers : y.callers ≡ x.callers

module _ (c : Configuration) (x y : Playing) (beside : Beside c x y) where
  pub at_place : {T : Type 0} (f : Place → T) (i : ℕ) → f (place_at c y i) ≡ f (place_at c x i)
  at_place f i = ap f (beside.workers i).place

  pool_then : (i : ℕ) → is_in_pool c y i ≡ true → is_in_pool c x i ≡ true
  pool_then i h = sym (beside.workers i).pool ∙ h

  bit_then : (i : ℕ) → has_bit c y i ≡ has_bit c x i
  bit_then i = ap (λ idle. get_or idle.published i false) beside.idle

  pub latch_then : (i : ℕ) → is_latched c y i ≡ is_latched c x i
  latch_then i = ap (λ words. (get_or words i no_word).latch) beside.words

  queue_then : (i : ℕ) → queue_of y.things i ≡ queue_of x.things i
  queue_then i = ap (λ queues. get_or queues i no_queue) beside.queues

  caller_then : {T : Type 0} (f : CallPlace → T) (j : ℕ) → f (caller_of y j).place ≡ f (caller_of x j).place
  caller_then f j = ap (λ callers. f (get_or callers j no_call).place) beside.callers

  -- whoever has something to do for others has that still
  pub signalled_then : (i : ℕ) → IsSignalled c x i → IsSignalled c y i
  signalled_then i (Someone.Worker j h) = Someone.Worker j (at_place signals j ∙ h)
  signalled_then i (Someone.Caller j h) = Someone.Caller j (caller_then call_signals j ∙ h)

  raised_then : (i : ℕ) (ring : Bool) → IsRaised c x i ring → IsRaised c y i ring
  raised_then i ring (Someone.Worker j h) = Someone.Worker j (at_place raises j ∙ h)
  raised_then i ring (Someone.Caller j h) = Someone.Caller j (caller_then call_raises j ∙ h)

  owed_then : IsOwed c x → IsOwed c y
  owed_then (Someone.Worker j h) = Someone.Worker j (at_place owes j ∙ h)
  owed_then (Someone.Caller j h) = Someone.Caller j (caller_then call_owes j ∙ h)

  module _ (held : IsRestful c x) where
    rung : (i : ℕ) → sleeps c y i ≡ true → is_latched c y i ≡ true → IsRaised c y i true ⊎ IsRaised c y i false
    rung i asleep latched = elim (held.rung i ((beside.workers i).asleep asleep) (sym (latch_then i) ∙ latched)) [
      | inl r ↦ inl (raised_then i true r)
      | inr r ↦ inr (raised_then i false r)
    ]

    entering : (i : ℕ) → is_to_enter (place_at c y i) ≡ true → is_latched c y i ≡ true → IsRaised c y i true ⊎ ((is_told c y i || (poll_at c y i).kept) ≡ true)
    entering i enters latched = elim (held.entering i (sym (at_place is_to_enter i) ∙ enters) (sym (latch_then i) ∙ latched)) [
      | inl r ↦ inl (raised_then i true r)
      | inr found ↦ elim (or_cases (is_told c x i) (poll_at c x i).kept found) [
        | inl told ↦ inr (or_left (is_told c y i) (poll_at c y i).kept ((beside.workers i).told told))
        | inr kept ↦ inr (or_right (is_told c y i) (poll_at c y i).kept ((beside.workers i).kept ∙ kept))
      ]
    ]

    sleeping : (i : ℕ) → is_to_sleep_on_ring (place_at c y i) ≡ true → is_latched c y i ≡ true → IsRaised c y i true ⊎ (is_told c y i ≡ true)
    sleeping i sleeps_next latched = elim (held.sleeping i (sym (at_place is_to_sleep_on_ring i) ∙ sleeps_next) (sym (latch_then i) ∙ latched)) [
      | inl r ↦ inl (raised_then i true r)
      | inr told ↦ inr ((beside.workers i).told told)
    ]

    polled : (i : ℕ) → is_to_sleep_on_ring (place_at c y i) ≡ true → ((poll_at c y i).armed || is_told c y i) ≡ true
    polled i sleeps_next = elim (or_cases (poll_at c x i).armed (is_told c x i) (held.polled i (sym (at_place is_to_sleep_on_ring i) ∙ sleeps_next))) [
      | inl has ↦ or_left (poll_at c y i).armed (is_told c y i) ((beside.workers i).armed ∙ has)
      | inr told ↦ or_right (poll_at c y i).armed (is_told c y i) ((beside.workers i).told told)
    ]

    answered : (i : ℕ) → is_in_pool c y i ≡ true → is_published (place_at c y i) ≡ true → has_bit c y i ≡ false → (is_withdrawing (place_at c y i) || is_latched c y i) ≡ true ⊎ IsSignalled c y i
    answered i pool published out = elim (held.answered i (pool_then i pool) (sym (at_place is_published i) ∙ published) (sym (bit_then i) ∙ out)) [
      | inl h ↦ elim (or_cases (is_withdrawing (place_at c x i)) (is_latched c x i) h) [
        | inl goes ↦ inl (or_left (is_withdrawing (place_at c y i)) (is_latched c y i) (at_place is_withdrawing i ∙ goes))
        | inr latched ↦ inl (or_right (is_withdrawing (place_at c y i)) (is_latched c y i) (latch_then i ∙ latched))
      ]
      | inr s ↦ inr (signalled_then i s)
    ]

    covered : (y.things.global ≡ [] → ⊥) → IsOwed c y ⊎ ((i : ℕ) × (is_in_pool c y i ≡ true) × (has_looked (place_at c y i) ≡ true → has_bit c y i ≡ false))
    covered some = elim (held.covered (λ none. some (beside.global ∙ none))) [
      | inl owed ↦ inl (owed_then owed)
      | inr it ↦ inr (it.0, (beside.workers it.0).pool ∙ it.1, λ looked. bit_then it.0 ∙ it.2 (sym (at_place has_looked it.0) ∙ looked))
    ]

    stays_restful : IsRestful c y
    stays_restful =
        record {
          abed = λ i h. at_place is_abed i ∙ held.abed i ((beside.workers i).asleep h);
          armed = λ i waits.
              ap (λ words. (get_or words i no_word).target) beside.words
              ∙ held.armed i (λ none. waits (at_place waits_on i ∙ none)) ∙ sym (at_place waits_on i);
          rung = rung;
          entering = entering;
          sleeping = sleeping;
          asked = λ i h. (beside.workers i).polled ∙ held.asked i (sym (at_place asked_for_poll i) ∙ h);
          polled = polled;
          kept = λ i. rw ((beside.workers i).armed, (beside.workers i).kept) (held.kept i);
          ended = λ i h. (beside.workers i).noticed (held.ended i (sym (beside.workers i).ended ∙ h));
          pooled = λ i h. (beside.workers i).pool ∙ held.pooled i (sym (at_place is_pooled i) ∙ h);
          bits = λ i h.
              let it = held.bits i (sym (bit_then i) ∙ h) in
              (at_place is_published i ∙ it.0, (beside.workers i).pool ∙ it.1);
          answered = answered;
          covered = covered;
          dried = λ i pool h. ap (λ q. q.values) (queue_then i) ∙ held.dried i (pool_then i pool) (sym (at_place is_dry i) ∙ h);
          over = λ i h. at_place owes_nothing i ∙ held.over i (sym (ap has_ended (beside.workers i).phase) ∙ h);
          calls = λ j h.
              ap (λ calls. is_half_done (get_or calls j call.Nothing)) beside.calls ∙ held.calls j (sym (caller_then is_in_call j) ∙ h);
        }

-- OF LISTS

-- each element stays as it is, or as it were
pub set_like : {X : Type 0} (R : X → X → Type 0) → ((a : X) → R a a) → (xs : List X) (i j : ℕ) (z d : X) → R (get_or xs i d) z → R (get_or xs j d) (get_or (set xs i z) j d)
set_like R same [] i j z d h = same d
set_like R same (a ∷ xs) zero zero z d h = h
set_like R same (a ∷ xs) zero (suc j) z d h = same (get_or xs j d)
set_like R same (a ∷ xs) (suc i) zero z d h = same a
set_like R same (a ∷ xs) (suc i) (suc j) z d h = set_like R same xs i j z d h

pub map_like : {X : Type 0} (R : X → X → Type 0) (f : X → X) (d : X) → R d d → ((a : X) → R a (f a)) → (xs : List X) (j : ℕ) → R (get_or xs j d) (get_or (map f xs) j d)
map_like R f d past each [] j = past
map_like R f d past each (a ∷ xs) zero = each a
map_like R f d past each (a ∷ xs) (suc j) = map_like R f d past each xs j

some_behind : (xs : List ℕ) (r : ℕ) → is_empty (xs ++ r ∷ []) ≡ false
some_behind [] r = refl
some_behind (a ∷ xs) r = refl

-- EACH STEP

-- who slept until then is awake
rest_then : (clock : ℕ) (s : Seat) (rest : Rest) → s.rest ≡ rest → not (is_awake (roused_at clock s).rest) ≡ true → not (is_awake s.rest) ≡ true
rest_then = grind arith

clocked : (clock : ℕ) (s : Seat) (d : Desk) (w : WakePoll) → Alike s (roused_at clock s) d d w w
clocked clock s d w =
    record { pool = refl; phase = refl; asleep = rest_then clock s s.rest refl; place = refl; polled = refl; armed = refl; kept = refl; ended = refl; told = λ h. h; noticed = λ h. h }

-- the next enter takes nothing; it is stirred; the next completion of its wake poll is its last
made_busy : (s : Seat) (d : Desk) (w : WakePoll) → Alike s (record s { busy = true }) d d w w
made_busy s d w =
    record { pool = refl; phase = refl; asleep = λ h. h; place = refl; polled = refl; armed = refl; kept = refl; ended = refl; told = λ h. h; noticed = λ h. h }

stirred : (s : Seat) (d : Desk) (w : WakePoll) → Alike s (record s { rest = Awake }) d d w w
stirred s d w =
    record { pool = refl; phase = refl; asleep = λ h. absurd (false≢true h); place = refl; polled = refl; armed = refl; kept = refl; ended = refl; told = λ h. h; noticed = λ h. h }

ends_poll : (s : Seat) (d : Desk) (w : WakePoll) → Alike s s d d w (last_told w)
ends_poll s d w =
    record { pool = refl; phase = refl; asleep = λ h. h; place = refl; polled = refl; armed = refl; kept = refl; ended = refl; told = λ h. h; noticed = λ h. h }

-- a completion lands, behind all others
landed : (s : Seat) (d : Desk) (w : WakePoll) (r : ℕ) → Alike s (record s { landed = s.landed ++ r ∷ []; rest = Awake }) d (record d { others = 0 }) w (passed w)
landed s d w r =
    grind arith
  where
    some : not (is_empty (s.landed ++ r ∷ [])) ≡ true
    some = ap not (some_behind s.landed r)

module _ (c : Configuration) (x : Playing) (laid : IsLaidOut c x) where
  abbrev seats : List Seat
  seats = x.world.common.seats

  -- a step that changes one seat, or all, or one wake poll
  by_seat : (i : ℕ) (z : Seat) → ((d : Desk) (w : WakePoll) → Alike (seat_of x.world.common i) z d d w w) → (j : ℕ)
      → Alike (seat_of x.world.common j) (get_or (set seats i z) j no_seat) (desk_of c x j) (desk_of c x j) (wake_poll_of x.things j) (wake_poll_of x.things j)
  by_seat i z h j =
      let d = desk_of c x j in
      let w = wake_poll_of x.things j in
      set_like (λ (s s' : Seat). Alike s s' d d w w) (λ s. itself s d w) seats i j z no_seat (h d w)

  by_clock : (clock j : ℕ) → Alike (seat_of x.world.common j) (get_or (map (roused_at clock) seats) j no_seat) (desk_of c x j) (desk_of c x j) (wake_poll_of x.things j) (wake_poll_of x.things j)
  by_clock clock j =
      let d = desk_of c x j in
      let w = wake_poll_of x.things j in
      map_like (λ (s s' : Seat). Alike s s' d d w w) (roused_at clock) no_seat (itself no_seat d w) (λ s. clocked clock s d w) seats j

  by_poll : (i j : ℕ) → Alike (seat_of x.world.common j) (seat_of x.world.common j) (desk_of c x j) (desk_of c x j) (wake_poll_of x.things j) (get_or (set x.things.wake_polls i (last_told (wake_poll_of x.things i))) j no_wake_poll)
  by_poll i j =
      let s = seat_of x.world.common j in
      let d = desk_of c x j in
      set_like (λ (w w' : WakePoll). Alike s s d d w w') (λ w. itself s d w) x.things.wake_polls i j (last_told (wake_poll_of x.things i)) no_wake_poll (ends_poll s d (wake_poll_of x.things i))

  -- what lands on the ring of worker i
  module _ (i r : ℕ) where
    abbrev seat_then : Seat
    seat_then = record (seat_of x.world.common i) { landed = (seat_of x.world.common i).landed ++ r ∷ []; rest = Awake }

    abbrev desk_then : Desk
    desk_then = record (desk_of c x i) { others = 0 }

    abbrev poll_then : WakePoll
    poll_then = passed (wake_poll_of x.things i)

    abbrev Lands : ℕ → Type 0
    Lands j =
        Alike (seat_of x.world.common j) (get_or (set seats i seat_then) j no_seat) (desk_of c x j) (get_or (set x.desks i desk_then) j (first_desk c j))
        (wake_poll_of x.things j) (get_or (set x.things.wake_polls i poll_then) j no_wake_poll)

    by_three : (j : ℕ) {s' : Seat} {d' : Desk} {w' : WakePoll} → get_or (set seats i seat_then) j no_seat ≡ s' → get_or (set x.desks i desk_then) j (first_desk c j) ≡ d' → get_or (set x.things.wake_polls i poll_then) j no_wake_poll ≡ w'
        → Alike (seat_of x.world.common j) s' (desk_of c x j) d' (wake_poll_of x.things j) w' → Lands j
    by_three j {s'} {d'} {w'} seat desk poll h =
        let s = seat_of x.world.common j in
        let d = desk_of c x j in
        let w = wake_poll_of x.things j in
        let one = subst (λ z. Alike s z d d' w w') (sym seat) h in
        let two = subst (λ e. Alike s (get_or (set seats i seat_then) j no_seat) d e w w') (sym desk) one in
        subst (λ v. Alike s (get_or (set seats i seat_then) j no_seat) d (get_or (set x.desks i desk_then) j (first_desk c j)) w v) (sym poll) two

    same_at : (j : ℕ) → Alike (seat_of x.world.common j) (seat_of x.world.common j) (desk_of c x j) (desk_of c x j) (wake_poll_of x.things j) (wake_poll_of x.things j)
    same_at j = itself (seat_of x.world.common j) (desk_of c x j) (wake_poll_of x.things j)

    -- it lands nowhere where there is no such worker
    here : (b : Bool) → nat_lt i (length seats) ≡ b → Lands i
    here true h =
        let within : i < length seats = ltb-true i (length seats) h in
        by_three i (get_or-set_same seats i seat_then no_seat within)
        (get_or-set_same x.desks i desk_then (first_desk c i) (omega (arith, within, laid.desks)))
        (get_or-set_same x.things.wake_polls i poll_then no_wake_poll (omega (arith, within, laid.polls)))
        (landed (seat_of x.world.common i) (desk_of c x i) (wake_poll_of x.things i) r)
    here false h =
        let past : length seats ≤ i = omega (arith, ltb-false i (length seats) h) in
        by_three i (ap (λ ss. get_or ss i no_seat) (set_past seats i seat_then past))
        (ap (λ ds. get_or ds i (first_desk c i)) (set_past x.desks i desk_then (omega (arith, past, laid.desks))))
        (ap (λ ws. get_or ws i no_wake_poll) (set_past x.things.wake_polls i poll_then (omega (arith, past, laid.polls))))
        (same_at i)

    lands : (j : ℕ) (b : Bool) → (j == i) ≡ b → Lands j
    lands j true is = subst Lands (sym (eqb-true j i is)) (here (nat_lt i (length seats)) refl)
    lands j false other =
        by_three j (get_or-set_other seats i j seat_then no_seat (eqb-false j i other))
        (get_or-set_other x.desks i j desk_then (first_desk c j) (eqb-false j i other))
        (get_or-set_other x.things.wake_polls i j poll_then no_wake_poll (eqb-false j i other))
        (same_at j)

  pub beside : (a : Action) → is_other a ≡ true → Beside c x (by_action c x a).next
  beside (action.Work i) other = absurd (false≢true other)
  beside (action.Spawn j k) other = absurd (false≢true other)
  beside (action.Wake j t) other = absurd (false≢true other)
  beside (action.GoOn j) other = absurd (false≢true other)
  beside (action.Clock d) other =
      record { workers = by_clock (x.world.common.clock + d); words = refl; queues = refl; global = refl; idle = refl; calls = refl; callers = refl }
  beside (action.Land r n) other =
      let i = (request_of x.world.common r).worker in
      record { workers = λ j. lands i r j (j == i) refl; words = refl; queues = refl; global = refl; idle = refl; calls = refl; callers = refl }
  beside (action.SetBusy i) other = grind (arith, by_seat, made_busy)
  beside (action.EndPoll i) other =
      record { workers = by_poll i; words = refl; queues = refl; global = refl; idle = refl; calls = refl; callers = refl }
  beside (action.Stir i) other = grind (arith, by_seat, stirred)
  beside (action.Peer l) other =
      record { workers = λ j. itself (seat_of x.world.common j) (desk_of c x j) (wake_poll_of x.things j); words = refl; queues = refl; global = refl; idle = refl; calls = refl; callers = refl }

pub by_other : (c : Configuration) (x : Playing) → IsLaidOut c x → IsRestful c x → (a : Action) → is_other a ≡ true → is_enabled x.world.common a ≡ true → IsRestful c (by_action c x a).next
by_other c x laid held a other may = stays_restful c x (by_action c x a).next (beside c x laid a other) held
