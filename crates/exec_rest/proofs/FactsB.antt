-- From one move of a worker to what holds afterwards of sleepers, of who is about to sleep, and of wake polls.
use Rattle.std.{proofs.{Common.{◌≡◌, ◌≢◌, ℕ, ◌<◌, Bool, true, false, ◌&&◌, ◌||◌, List, length, Option, Some, refl, sym, ap, ap₂, ◌∙◌, subst, inl, inr, arith}, lemmas.{Bool.{true≢false, false≢true, and_parts, or_right, cases_eq, cases_lt}, List.get_or_past}}, specs.Prelude.{◌⊎◌, is_some, not}}
use Rattle.exec_words.specs.declared.word.WaitTarget.{WaitTarget, WaitTarget as target}
use Rattle.exec_machine.specs.{declared.{step.Action.Action as action, config.Configuration.Configuration, event.Event.TheVariants.{Rouse, Sleep}}, Callers.{is_enabled, is_held}, Tests.{has_ended, is_awake, is_empty}, World.{Common, Own as Books, own_of, seat_of}}
use Rattle.exec_moves.specs.{declared.place.Place.Place, Claim.is_ring, Plays.{Playing, by_move, desk_of}, Serve.Ring, State.{Desk, Moved, Things, WakePoll, raised, word_of, wake_poll_of}, Thing.ring_of, Wait.has_completion}
use Rattle.exec_rest.{specs.{Places.{Raising, asked_for_poll, is_abed, is_to_enter, is_to_sleep_on_ring, raises, waits_on}, Rested.{IsLaidOut, IsRaised, IsRestful, Someone.{Worker, Caller}, is_latched, is_told, place_at, poll_at, ring_at, sleeps}}, proofs.{Heeds.{Heeds, Rings, ring_after}, Frames.{asleep_after, desk_other, desk_own, landed_own, landed_same}, CallFacts.{enters_ring, sleeps_on_ring, raised_kept, raised_ended}}}
pub use Rattle.std.proofs.lemmas.Bool.{not-true}

-- A WAKE THAT IS RAISED

abbrev with_wakes : Ring → WakePoll → Ring
with_wakes r w = record r { wakes = w }

-- where the kernel has the poll or a completion is there, one is there then
completion_raised : (d : Desk) (r : Ring) → (r.wakes.armed || has_completion d r) ≡ true → has_completion d (with_wakes r (raised r.wakes)) ≡ true
completion_raised = grind arith

-- PLACES

abbrev pub is_waiting : WaitTarget → Bool
is_waiting target.None = false
is_waiting _ = true

pub abed_waits : (p : Place) → is_abed p ≡ true → is_waiting (waits_on p) ≡ true
abed_waits = grind arith

-- who waits on its ring raises nobody's
ring_raises : (p : Place) → waits_on p ≡ target.Ring → (r : Raising) → raises p ≡ Some r → ⊥
ring_raises = grind arith

-- AFTER A MOVE OF WORKER i

module _ (c : Configuration) (x : Playing) (laid : IsLaidOut c x) (held : IsRestful c x) (i : ℕ) (may : is_enabled x.world.common (action.Work i) ≡ true) (m : Moved Things) (heeds : Heeds (IsRaised c (by_move c x i m).next i true) i x.world.common (desk_of c x i) x.things m) where
  abbrev next : Playing
  next = (by_move c x i m).next

  abbrev me : Books
  me = own_of x.world i

  abbrev s : Common
  s = x.world.common

  -- it is awake and hasn't ended, and so it is one of the workers
  up : (is_awake (seat_of s i).rest ≡ true) × (not (has_ended (seat_of s i).phase) ≡ true)
  up = and_parts (is_awake (seat_of s i).rest) (not (has_ended (seat_of s i).phase)) (and_parts (is_awake (seat_of s i).rest && not (has_ended (seat_of s i).phase)) (not (is_held s (seat_of s i))) may).0

  within : i < length s.seats
  within = grind (arith, cases_lt, false≢true, get_or_past, up)

  elsewhere : (k : ℕ) → is_awake (seat_of s k).rest ≡ false → k ≢ i
  elsewhere k asleep is = true≢false (sym up.0 ∙ (rw is at asleep))

  -- DESKS AND THINGS

  own : desk_of c next i ≡ m.desk
  own = desk_own c x i m (rw laid.desks within)

  other : (k : ℕ) → k ≢ i → desk_of c next k ≡ desk_of c x k
  other k apart = desk_other c x i m (λ t j is. heeds.born t j is ∙ sym laid.desks) k apart

  at_own : (P : Desk → Type 0) → P m.desk → P (desk_of c next i)
  at_own P h = subst P (sym own) h

  at_other : (P : Desk → Type 0) (k : ℕ) → k ≢ i → P (desk_of c x k) → P (desk_of c next k)
  at_other P k apart h = subst P (sym (other k apart)) h

  told_own : is_told c next i ≡ has_completion m.desk (ring_after i s m)
  told_own = λ j. has_completion (own j) (record { busy = false; landed = landed_own c me s i m.event m.choice j; wakes = wake_poll_of m.thing i })

  -- of another worker, where this is its wake poll
  told_other : (k : ℕ) → k ≢ i → (w : WakePoll) → wake_poll_of m.thing k ≡ w → is_told c next k ≡ has_completion (desk_of c x k) (with_wakes (ring_of s x.things k) w)
  told_other = grind (arith, other, landed_same)

  -- whoever is at another place than a new worker is one of the workers
  placed : (P : Place → Bool) → P Place.BeginTurn ≡ false → (k : ℕ) → P (place_at c x k) ≡ true → k < length x.desks
  placed = grind (arith, cases_lt, false≢true, get_or_past)

  has_poll : (k : ℕ) → k < length x.desks → k < length x.things.wake_polls
  has_poll k lt = rw (laid.polls, ← laid.desks) lt

  -- WHO ENDS A WAIT

  -- who ended a wait next still does, or made the move
  raised_still : (k : ℕ) (ring : Bool) → IsRaised c x k ring → (raises (place_at c x i) ≡ Some (record { worker = k; ring = ring })) ⊎ IsRaised c next k ring
  raised_still k ring (Caller j h) = inr (Caller j h)
  raised_still k ring (Worker j h) =
      elim (cases_eq j i) [
        | inl is ↦ inl (rw is at h)
        | inr apart ↦ inr (Worker j (rw (other j apart) h))
      ]

  raises_then : (k : ℕ) (ring : Bool) → raises m.desk.place ≡ Some (record { worker = k; ring = ring }) → IsRaised c next k ring
  raises_then k ring h = Worker i (rw own h)

  -- while it waits on its ring that is somebody else
  raised_by_other : waits_on (place_at c x i) ≡ target.Ring → IsRaised c x i true → IsRaised c next i true
  raised_by_other waits by_some =
      elim (raised_still i true by_some) [
        | inl by_it ↦ absurd (ring_raises (place_at c x i) waits _ by_it)
        | inr later ↦ later
      ]

  -- ITSELF

  before : Rings (IsRaised c next i true) (desk_of c x i) (ring_of s x.things i) (word_of x.things i).latch
  before =
      record {
        entering = λ at latch. elim (held.entering i at latch) [ inl some ↦ inl (raised_by_other (enters_ring (place_at c x i) at) some) | inr there ↦ inr there ];
        sleeping = λ at latch. elim (held.sleeping i at latch) [ inl some ↦ inl (raised_by_other (sleeps_on_ring (place_at c x i) at) some) | inr there ↦ inr there ];
        asked = held.asked i;
        polled = held.polled i;
        kept = held.kept i;
        ended = held.ended i;
      }

  after : Rings (IsRaised c next i true) m.desk (ring_after i s m) (word_of m.thing i).latch
  after = heeds.rings (has_poll i (rw laid.desks within)) before

  -- ANOTHER ONE

  -- its wake word says what it waits on
  target_is : (k : ℕ) → is_waiting (waits_on (place_at c x k)) ≡ true → (word_of x.things k).target ≡ waits_on (place_at c x k)
  target_is k waits = held.armed k (λ none. true≢false (sym waits ∙ ap is_waiting none))

  -- the latch was in before, or it is put in by this move, and worker i ends the wait next
  latched_by : (k : ℕ) → is_waiting (waits_on (place_at c x k)) ≡ true → is_latched c next k ≡ true → (is_latched c x k ≡ true) ⊎ IsRaised c next k (is_ring (word_of x.things k).target)
  latched_by k waits latched =
      elim (heeds.latch_in k latched) [
        | inl was ↦ inl was
        | inr (inl raise) ↦ inr (raises_then k (is_ring (word_of x.things k).target) raise)
        | inr (inr none) ↦ absurd (true≢false (sym waits ∙ ap is_waiting (sym (target_is k waits) ∙ none)))
      ]

  ring_latched : (k : ℕ) → waits_on (place_at c x k) ≡ target.Ring → is_latched c next k ≡ true → (is_latched c x k ≡ true) ⊎ IsRaised c next k true
  ring_latched k waits latched =
      let says = ap is_waiting waits in
      elim (latched_by k says latched) [
        | inl was ↦ inl was
        | inr some ↦ inr (subst (λ b. IsRaised c next k b) (ap is_ring (target_is k says ∙ waits)) some)
      ]

  -- SLEEPERS

  -- whoever sleeps then slept before, and was not roused, or worker i falls asleep
  pub abed_then : (k : ℕ) → sleeps c next k ≡ true → is_abed (place_at c next k) ≡ true
  abed_then k asleep = by (asleep_after c me s i m.event m.choice k (not-true _ asleep))
    where
      by : ((is_awake (seat_of s k).rest ≡ false) × (m.event ≢ Rouse k)) ⊎ ((k ≡ i) × ((until : Option ℕ) × (m.event ≡ Sleep until))) → is_abed (place_at c next k) ≡ true
      by (inl was) = at_other (λ d. is_abed d.place ≡ true) k (elsewhere k was.0) (held.abed k (ap not was.0))
      by (inr falls) = rw falls.0 (at_own (λ d. is_abed d.place ≡ true) (heeds.sleep falls.1.0 falls.1.1).0)

  pub rung_then : (k : ℕ) → sleeps c next k ≡ true → is_latched c next k ≡ true → IsRaised c next k true ⊎ IsRaised c next k false
  rung_then k asleep latched = by (asleep_after c me s i m.event m.choice k (not-true _ asleep))
    where
      which : (ring : Bool) → IsRaised c next k ring → IsRaised c next k true ⊎ IsRaised c next k false
      which true some = inl some
      which false some = inr some

      -- who ended its wait next still does: else this move has roused it
      later : (is_awake (seat_of s k).rest ≡ false) × (m.event ≢ Rouse k) → (ring : Bool) → IsRaised c x k ring → IsRaised c next k true ⊎ IsRaised c next k false
      later was ring some =
          elim (raised_still k ring some) [
            | inr still ↦ which ring still
            | inl by_it ↦ elim (heeds.rouses k ring by_it) [ inl awake ↦ absurd (true≢false (sym awake ∙ was.0)) | inr roused ↦ absurd (was.1 roused) ]
          ]

      by : ((is_awake (seat_of s k).rest ≡ false) × (m.event ≢ Rouse k)) ⊎ ((k ≡ i) × ((until : Option ℕ) × (m.event ≡ Sleep until))) → IsRaised c next k true ⊎ IsRaised c next k false
      by (inl was) =
          elim (latched_by k (abed_waits (place_at c x k) (held.abed k (ap not was.0))) latched) [
            | inl early ↦ elim (held.rung k (ap not was.0) early) [ inl some ↦ later was true some | inr some ↦ later was false some ]
            | inr some ↦ which (is_ring (word_of x.things k).target) some
          ]
      by (inr falls) = inl (rw falls.0 ((heeds.sleep falls.1.0 falls.1.1).1 before (rw falls.0 at latched)))

  -- WHO WAITS ON A RING

  pub armed_then : (k : ℕ) → waits_on (place_at c next k) ≢ target.None → (word_of next.things k).target ≡ waits_on (place_at c next k)
  armed_then k =
      elim (cases_eq k i) [
        | inl is ↦ rw is (at_own (λ d. waits_on d.place ≢ target.None → (word_of m.thing i).target ≡ waits_on d.place) (heeds.waits (rw laid.words within) (held.armed i)))
        | inr apart ↦
            at_other (λ d. waits_on d.place ≢ target.None → (word_of m.thing k).target ≡ waits_on d.place) k apart (λ waits. heeds.targets k apart ∙ held.armed k waits)
      ]

  pub asked_then : (k : ℕ) → asked_for_poll (place_at c next k) ≡ true → (desk_of c next k).polled ≡ true
  asked_then k =
      elim (cases_eq k i) [
        | inl is ↦ rw is (at_own (λ d. asked_for_poll d.place ≡ true → d.polled ≡ true) after.asked)
        | inr apart ↦ at_other (λ d. asked_for_poll d.place ≡ true → d.polled ≡ true) k apart (held.asked k)
      ]

  -- where its wake poll is the same, or this move raises its wake
  kept_same : (k : ℕ) → k ≢ i → wake_poll_of m.thing k ≡ wake_poll_of x.things k → (is_told c next k || (poll_at c next k).kept) ≡ (is_told c x k || (poll_at c x k).kept)
  kept_same k apart same = ap₂ (λ a b. a || b) (told_other k apart (wake_poll_of x.things k) same) (ap (λ (w : WakePoll). w.kept) same)

  kept_by : (k : ℕ) → k ≢ i → wake_poll_of m.thing k ≡ raised (wake_poll_of x.things k) → (is_told c next k || (poll_at c next k).kept) ≡ true
  kept_by = grind arith

  told_by : (k : ℕ) → k ≢ i → wake_poll_of m.thing k ≡ raised (wake_poll_of x.things k) → ((poll_at c x k).armed || is_told c x k) ≡ true → is_told c next k ≡ true
  told_by k apart raise h = told_other k apart (raised (wake_poll_of x.things k)) raise ∙ completion_raised (desk_of c x k) (ring_of s x.things k) h

  -- it had a poll, and so one that is raised
  raises_poll : (P : Place → Bool) → P Place.BeginTurn ≡ false → (k : ℕ) → P (place_at c x k) ≡ true → raises (place_at c x i) ≡ Some (record { worker = k; ring = true }) → wake_poll_of m.thing k ≡ raised (wake_poll_of x.things k)
  raises_poll P first k h by_it = heeds.raising k by_it (has_poll k (placed P first k h))

  entering_own : is_to_enter (place_at c next i) ≡ true → is_latched c next i ≡ true → IsRaised c next i true ⊎ ((is_told c next i || (poll_at c next i).kept) ≡ true)
  entering_own here latched =
      subst (λ b. IsRaised c next i true ⊎ ((b || (poll_at c next i).kept) ≡ true)) (sym told_own) (after.entering (subst (λ (d : Desk). is_to_enter d.place ≡ true) own here) latched)

  entering_other : (k : ℕ) → k ≢ i → is_to_enter (place_at c x k) ≡ true → is_latched c next k ≡ true → IsRaised c next k true ⊎ ((is_told c next k || (poll_at c next k).kept) ≡ true)
  entering_other k apart here latched =
      elim (ring_latched k (enters_ring (place_at c x k) here) latched) [
        | inr some ↦ inl some
        | inl early ↦ elim (held.entering k here early) [
          | inl some ↦ elim (raised_still k true some) [ inr still ↦ inl still | inl by_it ↦ inr (kept_by k apart (raises_poll is_to_enter refl k here by_it)) ]
          | inr told ↦ inr (elim (heeds.polls k apart) [ inl same ↦ kept_same k apart same ∙ told | inr raise ↦ kept_by k apart raise ])
        ]
      ]

  pub entering_then : (k : ℕ) → is_to_enter (place_at c next k) ≡ true → is_latched c next k ≡ true → IsRaised c next k true ⊎ ((is_told c next k || (poll_at c next k).kept) ≡ true)
  entering_then k =
      elim (cases_eq k i) [
        | inl is ↦ rw is entering_own
        | inr apart ↦ λ here. entering_other k apart (subst (λ (d : Desk). is_to_enter d.place ≡ true) (other k apart) here)
      ]

  sleeping_own : is_to_sleep_on_ring (place_at c next i) ≡ true → is_latched c next i ≡ true → IsRaised c next i true ⊎ (is_told c next i ≡ true)
  sleeping_own here latched =
      subst (λ b. IsRaised c next i true ⊎ (b ≡ true)) (sym told_own) (after.sleeping (subst (λ (d : Desk). is_to_sleep_on_ring d.place ≡ true) own here) latched)

  sleeping_other : (k : ℕ) → k ≢ i → is_to_sleep_on_ring (place_at c x k) ≡ true → is_latched c next k ≡ true → IsRaised c next k true ⊎ (is_told c next k ≡ true)
  sleeping_other k apart here latched =
      elim (ring_latched k (sleeps_on_ring (place_at c x k) here) latched) [
        | inr some ↦ inl some
        | inl early ↦ elim (held.sleeping k here early) [
          | inl some ↦ elim (raised_still k true some) [
            | inr still ↦ inl still
            | inl by_it ↦ inr (told_by k apart (raises_poll is_to_sleep_on_ring refl k here by_it) (held.polled k here))
          ]
          | inr told ↦ inr (elim (heeds.polls k apart) [ inl same ↦ told_other k apart (wake_poll_of x.things k) same ∙ told | inr raise ↦ told_by k apart raise (held.polled k here) ])
        ]
      ]

  pub sleeping_then : (k : ℕ) → is_to_sleep_on_ring (place_at c next k) ≡ true → is_latched c next k ≡ true → IsRaised c next k true ⊎ (is_told c next k ≡ true)
  sleeping_then k =
      elim (cases_eq k i) [
        | inl is ↦ rw is sleeping_own
        | inr apart ↦ λ here. sleeping_other k apart (subst (λ (d : Desk). is_to_sleep_on_ring d.place ≡ true) (other k apart) here)
      ]

  polled_own : is_to_sleep_on_ring (place_at c next i) ≡ true → ((poll_at c next i).armed || is_told c next i) ≡ true
  polled_own here = ap (λ b. (poll_at c next i).armed || b) told_own ∙ after.polled (subst (λ (d : Desk). is_to_sleep_on_ring d.place ≡ true) own here)

  polled_other : (k : ℕ) → k ≢ i → is_to_sleep_on_ring (place_at c x k) ≡ true → ((poll_at c next k).armed || is_told c next k) ≡ true
  polled_other k apart here =
      elim (heeds.polls k apart) [
        | inl same ↦ ap₂ (λ a b. a || b) (ap (λ (w : WakePoll). w.armed) same) (told_other k apart (wake_poll_of x.things k) same) ∙ held.polled k here
        | inr raise ↦ or_right (poll_at c next k).armed (is_told c next k) (told_by k apart raise (held.polled k here))
      ]

  pub polled_then : (k : ℕ) → is_to_sleep_on_ring (place_at c next k) ≡ true → ((poll_at c next k).armed || is_told c next k) ≡ true
  polled_then k =
      elim (cases_eq k i) [
        | inl is ↦ rw is polled_own
        | inr apart ↦ λ here. polled_other k apart (subst (λ (d : Desk). is_to_sleep_on_ring d.place ≡ true) (other k apart) here)
      ]

  -- WAKE POLLS

  pub kept_then : (k : ℕ) → ((poll_at c next k).armed && (poll_at c next k).kept) ≡ false
  kept_then k =
      elim (cases_eq k i) [
        | inl is ↦ rw is after.kept
        | inr apart ↦ elim (heeds.polls k apart) [ inl same ↦ rw same (held.kept k) | inr raise ↦ rw raise (raised_kept (wake_poll_of x.things k) (held.kept k)) ]
      ]

  pub ended_then : (k : ℕ) → is_some (poll_at c next k).ended ≡ true → (not (is_empty (ring_at c next k).landed) || (poll_at c next k).told) ≡ true
  ended_then k =
      elim (cases_eq k i) [
        | inl is ↦ rw is (with_landed i (landed_own c me s i m.event m.choice) after.ended)
        | inr apart ↦ with_landed k (landed_same c me s i m.event m.choice k apart) (elim (heeds.polls k apart) [
          | inl same ↦ rw same (held.ended k)
          | inr raise ↦ rw raise (raised_ended (not (is_empty (ring_at c x k).landed)) (wake_poll_of x.things k) (held.ended k))
        ])
      ]
    where
      with_landed : (j : ℕ) {landed : List ℕ} → (ring_at c next j).landed ≡ landed → (is_some (poll_at c next j).ended ≡ true → (not (is_empty landed) || (poll_at c next j).told) ≡ true) → is_some (poll_at c next j).ended ≡ true → (not (is_empty (ring_at c next j).landed) || (poll_at c next j).told) ≡ true
      with_landed j is h = subst (λ (ls : List ℕ). is_some (poll_at c next j).ended ≡ true → (not (is_empty ls) || (poll_at c next j).told) ≡ true) (sym is) h
