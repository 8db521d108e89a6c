-- What holds after a move of a worker that heeds: of the idle set, the global queue and the run queues, and that who has
-- ended, or calls, does so still.
use Rattle.std.{proofs.{Common.{◌≡◌, ◌≢◌, ℕ, ◌<◌, Bool, true, false, ◌||◌, [], length, Some, sym, ap, ◌∙◌, subst, inl, inr, slice_index_or, arith}, lemmas.{Bool.{true≢false, false≢true, and_parts, cases_Bool, cases_eq, cases_lt, or_cases, or_left, or_right, not-true}, List.get_or_past}}, specs.Prelude.◌⊎◌}
use Rattle.exec_machine.specs.{declared.{config.Configuration.Configuration, state.Call.Call as call, step.Action.Action as action}, Callers.{is_enabled, is_half_done, may_go_on}, Tests.has_ended, World.{Common, Own as Books, Seat, no_seat, own_of, seat_of}}
use Rattle.exec_moves.specs.{declared.{handing.CallPlace.CallPlace, place.Place.Place}, Move.move, Plays.{Playing, by_move, caller_of, desk_of}, State.{Desk, Moved, Things, queue_of}}
use Rattle.exec_rest.{specs.{Places.{call_owes, call_signals, has_looked, is_dry, is_in_call, is_pooled, is_published, is_withdrawing, owes, owes_nothing, signals}, Rested.{IsLaidOut, IsOwed, IsRestful, IsSignalled, Someone, Someone.{Worker, Caller}, has_bit, is_in_pool, is_latched, place_at}}, proofs.{Frames.{callers_same, desk_other, desk_own, ended_after, pool_after}, Heeds.Heeds}}

-- WHO WITHDRAWS isn't published then, and so needs no answer any more where it was claimed before. (No field of `Heeds` says so.)

module _ (c : Configuration) (i : ℕ) (me : Books) (s : Common) where
  pub withdrawn : (d : Desk) (x : Things) → is_withdrawing d.place ≡ true → is_published (move c i me s d x).desk.place ≡ false
  withdrawn = grind arith

-- of worker i, and of each other one
pub at_each : (i : ℕ) (P : ℕ → Type 0) → P i → ((k : ℕ) → k ≢ i → P k) → (k : ℕ) → P k
at_each i P own other k = elim (cases_eq k i) [ inl here ↦ subst P (sym here) own | inr apart ↦ other k apart ]

-- whatever is known of a worker that isn't known where there is none tells that there is one
pub seated : (s : Common) (f : Seat → Bool) (b : Bool) → f no_seat ≢ b → (k : ℕ) → f (seat_of s k) ≡ b → k < length s.seats
seated = grind (arith, cases_lt, get_or_past)

module _ (c : Configuration) (x : Playing) (laid : IsLaidOut c x) (held : IsRestful c x) (i : ℕ) (may : is_enabled x.world.common (action.Work i) ≡ true) (m : Moved Things) (R : Type 0) (heeds : Heeds R i x.world.common (desk_of c x i) x.things m) where
  abbrev s : Common
  s = x.world.common

  abbrev p : Place
  p = (desk_of c x i).place

  abbrev q : Place
  q = m.desk.place

  abbrev pub next : Playing
  next = (by_move c x i m).next

  -- WHERE EACH STANDS

  pub going : has_ended (seat_of s i).phase ≡ false
  going = grind (arith, and_parts, not-true)

  pub here : place_at c next i ≡ q
  here = ap (λ d. d.place) (desk_own c x i m (subst (λ n. i < n) (sym laid.desks) (seated s (λ seat. has_ended seat.phase) false true≢false i going)))

  there : (k : ℕ) → k ≢ i → place_at c next k ≡ place_at c x k
  there k apart = ap (λ d. d.place) (desk_other c x i m (λ t j born. heeds.born t j born ∙ sym laid.desks) k apart)

  -- who was there is there still, unless it is worker i itself
  pub stays : (W : Place → Type 0) (C : CallPlace → Type 0) → Someone c x W C → W p ⊎ Someone c next W C
  stays W C (Worker j h) = elim (cases_eq j i) [
    | inl own ↦ inl (subst (λ k. W (place_at c x k)) own h)
    | inr apart ↦ inr (Worker j (subst W (sym (there j apart)) h))
  ]
  stays W C (Caller j h) = inr (Caller j h)

  -- THE POOL

  pool_still : (k : ℕ) → is_in_pool c next k ≡ is_in_pool c x k
  pool_still k = pool_after c (own_of x.world i) s i m.event m.choice k

  pool_before : (k : ℕ) → is_in_pool c next k ≡ true → is_in_pool c x k ≡ true
  pool_before k h = sym (pool_still k) ∙ h

  pub pooled_then : (k : ℕ) → is_pooled (place_at c next k) ≡ true → is_in_pool c next k ≡ true
  pooled_then = at_each i (λ k. is_pooled (place_at c next k) ≡ true → is_in_pool c next k ≡ true)
      (λ h. pool_still i ∙ heeds.pooled (held.pooled i) (sym (ap is_pooled here) ∙ h))
      (λ k apart h. pool_still k ∙ held.pooled k (sym (ap is_pooled (there k apart)) ∙ h))

  -- THE IDLE SET

  -- a bit of another worker was there before
  bit_before : (k : ℕ) → k ≢ i → has_bit c next k ≡ true → has_bit c x k ≡ true
  bit_before k apart bit = elim (heeds.bit_in k bit) [ inl was ↦ was | inr put ↦ absurd (apart put.0) ]

  pub bits_then : (k : ℕ) → has_bit c next k ≡ true → (is_published (place_at c next k) ≡ true) × (is_in_pool c next k ≡ true)
  bits_then = at_each i (λ k. has_bit c next k ≡ true → (is_published (place_at c next k) ≡ true) × (is_in_pool c next k ≡ true)) own other
    where
      own : has_bit c next i ≡ true → (is_published (place_at c next i) ≡ true) × (is_in_pool c next i ≡ true)
      own = grind (arith, here, pool_still)

      other : (k : ℕ) → k ≢ i → has_bit c next k ≡ true → (is_published (place_at c next k) ≡ true) × (is_in_pool c next k ≡ true)
      other k apart bit =
          let it = held.bits k (bit_before k apart bit) in (ap is_published (there k apart) ∙ it.0, pool_still k ∙ it.1)

  -- THE ANSWER OF WHO WAS CLAIMED

  abbrev IsAnswered : ℕ → Type 0
  IsAnswered k = (is_withdrawing (place_at c next k) || is_latched c next k) ≡ true ⊎ IsSignalled c next k

  withdraws : (k : ℕ) → is_withdrawing (place_at c next k) ≡ true → IsAnswered k
  withdraws k h = inl (or_left (is_withdrawing (place_at c next k)) (is_latched c next k) h)

  latched : (k : ℕ) → is_latched c next k ≡ true → IsAnswered k
  latched k h = inl (or_right (is_withdrawing (place_at c next k)) (is_latched c next k) h)

  -- it was signalled then, or is signalled by the same party next
  signalled : (k : ℕ) → is_in_pool c x k ≡ true → IsSignalled c x k → IsAnswered k
  signalled k pool who = elim (stays (λ p. signals p ≡ Some k) (λ p. call_signals p ≡ Some k) who) [
    | inl own ↦ latched k (heeds.signalling k own (subst (λ n. k < n) (sym laid.words) (seated s (λ seat. seat.pool) true false≢true k pool)))
    | inr others ↦ inr others
  ]

  -- worker i took its bit out, and signals it next
  claimed : (k : ℕ) → signals q ≡ Some k → IsAnswered k
  claimed k h = inr (Worker i (ap signals here ∙ h))

  -- A worker that withdraws isn't published then: of a move `withdrawn` says so.
  pub answered_then : (is_withdrawing (place_at c x i) ≡ true → is_published m.desk.place ≡ false)
      → (k : ℕ) → is_in_pool c next k ≡ true → is_published (place_at c next k) ≡ true → has_bit c next k ≡ false → (is_withdrawing (place_at c next k) || is_latched c next k) ≡ true ⊎ IsSignalled c next k
  answered_then leaves =
      at_each i (λ k. is_in_pool c next k ≡ true → is_published (place_at c next k) ≡ true → has_bit c next k ≡ false → IsAnswered k) own other
    where
      -- it isn't withdrawing, and so its latch stays unless it takes its bit out next
      own_waits : is_in_pool c x i ≡ true → is_published p ≡ true → is_published q ≡ true → (is_withdrawing p || is_latched c x i) ≡ true → IsAnswered i
      own_waits pool before published safe = elim (or_cases (is_withdrawing p) (is_latched c x i) safe) [
        | inl w ↦ absurd (false≢true (sym (leaves w) ∙ published))
        | inr l ↦ elim (cases_Bool (is_latched c next i)) [
          | inl on ↦ latched i on
          | inr gone ↦ withdraws i (ap is_withdrawing here ∙ (heeds.latch_out i l gone).1 before pool)
        ]
      ]

      own_before : is_in_pool c x i ≡ true → is_published p ≡ true → is_published q ≡ true → has_bit c next i ≡ false → IsAnswered i
      own_before pool before published clear = elim (cases_Bool (has_bit c x i)) [
        | inl was ↦ elim (heeds.bit_out i was clear) [ inl out ↦ absurd (false≢true (sym out.1 ∙ published)) | inr signal ↦ claimed i signal ]
        | inr unset ↦ elim (held.answered i pool before unset) [
          | inl safe ↦ own_waits pool before published safe
          | inr who ↦ signalled i pool who
        ]
      ]

      own : is_in_pool c next i ≡ true → is_published (place_at c next i) ≡ true → has_bit c next i ≡ false → IsAnswered i
      own pool published clear =
          let was = pool_before i pool in
          let published' = sym (ap is_published here) ∙ published in
          elim (heeds.published was (subst (λ n. i < n) (sym laid.bits) (laid.pool i was)) published') [
            | inl before ↦ own_before was before published' clear
            | inr bit ↦ absurd (false≢true (sym clear ∙ bit))
          ]

      other_waits : (k : ℕ) → k ≢ i → (is_withdrawing (place_at c x k) || is_latched c x k) ≡ true → IsAnswered k
      other_waits k apart safe = elim (or_cases (is_withdrawing (place_at c x k)) (is_latched c x k) safe) [
        | inl w ↦ withdraws k (ap is_withdrawing (there k apart) ∙ w)
        | inr l ↦ elim (cases_Bool (is_latched c next k)) [ inl on ↦ latched k on | inr gone ↦ absurd (apart (heeds.latch_out k l gone).0) ]
      ]

      other : (k : ℕ) → k ≢ i → is_in_pool c next k ≡ true → is_published (place_at c next k) ≡ true → has_bit c next k ≡ false → IsAnswered k
      other k apart pool published clear = elim (cases_Bool (has_bit c x k)) [
        | inl was ↦ elim (heeds.bit_out k was clear) [ inl out ↦ absurd (apart out.0) | inr signal ↦ claimed k signal ]
        | inr unset ↦ elim (held.answered k (pool_before k pool) (sym (ap is_published (there k apart)) ∙ published) unset) [
          | inl safe ↦ other_waits k apart safe
          | inr who ↦ signalled k (pool_before k pool) who
        ]
      ]

  -- THE GLOBAL QUEUE

  abbrev IsCovered : Type 0
  IsCovered = IsOwed c next ⊎ ((k : ℕ) × (is_in_pool c next k ≡ true) × (has_looked (place_at c next k) ≡ true → has_bit c next k ≡ false))

  -- a worker of the pool without its bit looks at it, whatever it does now
  clear_covers : (k : ℕ) → is_in_pool c x k ≡ true → has_bit c next k ≡ false → IsCovered
  clear_covers k pool clear = inr (k, pool_still k ∙ pool, λ looked. clear)

  owe_still : IsOwed c x → IsCovered
  owe_still who = elim (stays (λ p. owes p ≡ true) (λ p. call_owes p ≡ true) who) [
    | inr others ↦ inl others
    | inl own ↦ elim (heeds.owing own) [
      | inl still ↦ inl (Worker i (ap owes here ∙ still))
      | inr done ↦ elim done [
        | inl nobody ↦ clear_covers 0 laid.some (nobody 0)
        | inr claim ↦ clear_covers claim.0 (held.bits claim.0 claim.1).1 claim.2
      ]
    ]
  ]

  -- worker k of the pool that looks at it later still does
  abbrev LooksStill : ℕ → Type 0
  LooksStill k = is_in_pool c x k ≡ true → (has_looked (place_at c x k) ≡ true → has_bit c x k ≡ false) → has_looked (place_at c next k) ≡ true → has_bit c next k ≡ false

  looks_still : (x.things.global ≡ [] → ⊥) → (k : ℕ) → LooksStill k
  looks_still = grind (arith, at_each, cases_Bool, false≢true, here, there, bit_before)

  pub covered_then : (next.things.global ≡ [] → ⊥) → IsOwed c next ⊎ ((k : ℕ) × (is_in_pool c next k ≡ true) × (has_looked (place_at c next k) ≡ true → has_bit c next k ≡ false))
  covered_then some = elim (heeds.global some) [
    | inr owing ↦ inl (Worker i (ap owes here ∙ owing))
    | inl before ↦ elim (held.covered before) [
      | inl who ↦ owe_still who
      | inr it ↦ inr (it.0, pool_still it.0 ∙ it.1, looks_still before it.0 it.1 it.2)
    ]
  ]

  -- THE RUN QUEUES

  pub dried_then : (k : ℕ) → is_in_pool c next k ≡ true → is_dry (place_at c next k) ≡ true → (queue_of next.things k).values ≡ []
  dried_then = grind (arith, at_each, pool_before, here, there)

  -- WHO HAS ENDED, AND WHO CALLS

  pub over_then : (k : ℕ) → has_ended (seat_of next.world.common k).phase ≡ true → owes_nothing (place_at c next k) ≡ true
  over_then = at_each i (λ k. has_ended (seat_of next.world.common k).phase ≡ true → owes_nothing (place_at c next k) ≡ true)
      grind (arith, ended_after, false≢true, going, here)
      (λ k apart h. elim (ended_after c (own_of x.world i) s i m.event m.choice k h) [
        | inl before ↦ ap owes_nothing (there k apart) ∙ held.over k before
        | inr it ↦ absurd (apart it.0)
      ])

  pub calls_then : (j : ℕ) → is_in_call (caller_of next j).place ≡ true → may_go_on next.world.common j ≡ true
  calls_then j h = ap (λ calls. is_half_done (slice_index_or calls j call.Nothing)) (callers_same c (own_of x.world i) s i m.event m.choice) ∙ held.calls j h
