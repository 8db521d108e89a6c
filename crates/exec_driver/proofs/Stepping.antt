-- Each other step keeps a driver sound.
use Rattle.std.proofs.Common.{◌≡◌, ℕ, ◌<◌, ◌≤◌, Bool, true, false, not, ◌&&◌, List, [], ◌∷◌, length, Option, Some, None, refl, sym, ap, ◌∙◌, inl, inr, arith, length-append}
use Rattle.exec_driver.{proofs.{Words.{is_some, Slab, written, is_durable, Asked, asked_of, deadline_of, asks_cancel, Request, Landing, RingState, taken_places, Submission, waiter_at, is_flying, pending_count, needs_permit, Waiter, Entry, Pending, WaiterId, Driving, request_at, is_queued, is_gated, is_unenrolled, is_enrolled, is_cancelled, first_of, rest_of, IsListed, IsSound, IsHeld, is_unpermitted, is_undated, is_at_tick, may_cancel, are_all, cases_Bool, and_parts}, Endings.one_changed, Entering.Within}, specs.Steps.with_staged}
use Rattle.exec_lists.{proofs.{Counting.{pending_is, flying_is, flying_few}, Shifts.{Shift, Left, Kept, First, shifted, nowhere}}, specs.Lists.{after_queued, has_first}}

-- a list with a first
pub first_tells : (ids : List WaiterId) (id : WaiterId) → first_of ids ≡ Some id → ids ≡ id ∷ rest_of ids
first_tells = grind arith

pub none_first : (ids : List WaiterId) → has_first ids ≡ false → ids ≡ []
none_first = grind arith

pub no_first : (ids : List WaiterId) → has_first ids ≡ true → first_of ids ≡ None → ⊥
no_first = grind arith

module _ {S F : Type 0} where
  -- a place in which a request stays as it was
  pub stays : (p : Option (Waiter S F) → Bool) (was is : Option (Waiter S F)) (id : WaiterId) (ids : List WaiterId) → p is ≡ p was → Shift p was is id ids ids
  stays p was is id ids same = elim (cases_Bool (p was)) [ inl there ↦ Kept refl (inl (same ∙ there)) | inr out ↦ Kept refl (inr out) ]

  -- the first of a list is in its place
  pub first_in : (p : Option (Waiter S F) → Bool) (s : Slab (Entry S F)) (ids : List WaiterId) (id : WaiterId) → first_of ids ≡ Some id → IsListed p s ids → p (waiter_at s id.0) ≡ true
  first_in p s [] id is listed = absurd (cc)
  first_in p s (x ∷ ids) id is listed = let same : x ≡ id = cc in rw (← same) ((and_parts (p (waiter_at s x.0)) (are_all p s ids) listed.all).0)

  pub there_by : (p : Option (Waiter S F) → Bool) (o : Option (Waiter S F)) → p None ≡ false → p o ≡ true → (w : Waiter S F) × (o ≡ Some w)
  there_by = grind arith

  pub first_there : (p : Option (Waiter S F) → Bool) → p None ≡ false → (s : Slab (Entry S F)) (ids : List WaiterId) (id : WaiterId) → first_of ids ≡ Some id → IsListed p s ids → (w : Waiter S F) × (waiter_at s id.0 ≡ Some w)
  first_there p none s ids id first listed = there_by p (waiter_at s id.0) none (first_in p s ids id first listed)

  -- what decides whether it lacks a permit stays
  pub permit_same : (w : Waiter S F) (request : Request) → asked_of request ≡ asked_of w.request → needs_permit (record w { in_flight = true; request = request }) ≡ needs_permit w
  permit_same w request same = ap (λ (a : Asked). is_durable a.kind && not w.permit) same

  -- what lands within the next enter is nothing that is held
  pub relanded : (d : Driving S F) (ls : List Landing) (room most spots : ℕ) → IsHeld d room most spots → IsHeld (record d { landings = ls }) room most spots
  relanded d ls room most spots held = assumption held

  -- QUEUED IS IN FLIGHT
  pub record IsQueued (w : Waiter S F) : Type 0 where
    pub idle : w.in_flight ≡ false
    pub active : asks_cancel w.state ≡ false
    pub permitted : needs_permit w ≡ false

  pub queued_tells : (w : Waiter S F) → is_queued (Some w) ≡ true → IsQueued w
  queued_tells = grind arith

  abbrev pub flown : Waiter S F → Request → Waiter S F
  flown w request = record w { in_flight = true; request = request }

  pub sound_staged : (d : Driving S F) (id : WaiterId) (w : Waiter S F) (request : Request) (entry : Submission) → request_at d id ≡ Some w → first_of d.lists.queued ≡ Some id → has_first d.lists.enrolments ≡ false → needs_permit (flown w request) ≡ needs_permit w → deadline_of request ≡ deadline_of w.request → IsSound d → IsSound (with_staged (record d { requests = written d.requests id.0 (Pending (flown w request)); lists = after_queued d.lists }) entry)
  sound_staged d id w request entry at first nothing permit dated sound =
      let w' = flown w request in
      let one = one_changed d.requests id.0 w w' at in
      let q = queued_tells w (rw at at (first_in is_queued d.requests d.lists.queued id first sound.queued)) in
      let same = one.numbers is_some refl in
      let flying = rw q.idle at (one.numbers is_flying refl) in
      let uncancelled = one.numbers may_cancel refl in
      let s' = written d.requests id.0 (Pending w') in
      let nil = none_first d.lists.enrolments nothing in
      record {
        queued = shifted is_queued _ _ id _ _ _ _ one (First (first_tells d.lists.queued id first)) sound.queued;
        gated = shifted is_gated _ _ id _ _ _ _ one (Kept refl (inr (rw (q.idle, q.permitted) refl))) sound.gated;
        enrolments = shifted is_unenrolled _ _ id _ _ _ _ one (Left (rw nil refl)) sound.enrolments;
        due = shifted is_enrolled _ _ id _ _ _ _ one (stays is_enrolled (Some w) (Some w') id _ refl) sound.due;
        cancels = shifted is_cancelled _ _ id _ _ _ _ one (Kept refl (inr q.active)) sound.cancels;
        permits = nowhere is_unpermitted _ _ id.0 _ _ one (permit ∙ q.permitted) sound.permits;
        dated = nowhere is_undated _ _ id.0 _ _ one (rw dated (ap is_undated (sym one.was_at) ∙ sound.dated id.0)) sound.dated;
        ticks = λ t. let n = one.numbers (is_at_tick t) refl in omega (arith, n, sound.ticks t);
        drained = sound.drained;
        entries = omega (arith, sound.entries, flying, length-append d.ring.staged (entry ∷ []), flying_is d.requests, flying_is s');
        places = omega (arith, sound.places, same, uncancelled, pending_is d.requests, pending_is s');
      }

  -- a staged request keeps the driver as it should be, and the ring has a place for its entry
  pub held_staged : (d : Driving S F) (id : WaiterId) (w : Waiter S F) (request : Request) (entry : Submission) (room most spots : ℕ) → request_at d id ≡ Some w → first_of d.lists.queued ≡ Some id → has_first d.lists.enrolments ≡ false → needs_permit (flown w request) ≡ needs_permit w → deadline_of request ≡ deadline_of w.request → IsHeld d room most spots → IsHeld (with_staged (record d { requests = written d.requests id.0 (Pending (flown w request)); lists = after_queued d.lists }) entry) room most spots
  held_staged d id w request entry room most spots at first nothing permit dated held =
      let same = (one_changed d.requests id.0 w (flown w request) at).numbers is_some refl in
      let sound = sound_staged d id w request entry at first nothing permit dated held.sound in
      let room' : pending_count (written d.requests id.0 (Pending (flown w request))) ≤ d.lists.room = omega (arith, held.room, same, pending_is d.requests, pending_is (written d.requests id.0 (Pending (flown w request)))) in
      assumption (sound, room')

  pub place_for_request : (d : Driving S F) (id : WaiterId) (w : Waiter S F) → request_at d id ≡ Some w → first_of d.lists.queued ≡ Some id → IsSound d → taken_places d.ring < d.ring.places
  place_for_request d id w at first sound =
      let q = queued_tells w (rw at at (first_in is_queued d.requests d.lists.queued id first sound.queued)) in
      let w' = flown w w.request in
      let one = one_changed d.requests id.0 w w' at in
      let s' = written d.requests id.0 (Pending w') in
      let same = one.numbers is_some refl in
      let flying = rw q.idle at (one.numbers is_flying refl) in
      let less = flying_few s' in
      elim (cases_Bool d.armed) [
        | inl holds ↦ let e = rw holds at sound.entries in omega (arith, e, sound.places, same, flying, less, pending_is d.requests, pending_is s', flying_is d.requests, flying_is s')
        | inr fails ↦ let e = rw fails at sound.entries in omega (arith, e, sound.places, same, flying, less, pending_is d.requests, pending_is s', flying_is d.requests, flying_is s')
      ]

  pub place_for_cancel : (d : Driving S F) (id : WaiterId) → first_of d.lists.cancels ≡ Some id → IsSound d → taken_places d.ring < d.ring.places
  place_for_cancel d id first sound =
      let some : d.lists.cancels ≡ id ∷ rest_of d.lists.cancels = first_tells d.lists.cancels id first in
      let long = ap length some in
      let less = flying_few d.requests in
      grind arith

  pub place_for_poll : (d : Driving S F) → d.armed ≡ false → IsSound d → taken_places d.ring < d.ring.places
  place_for_poll d fails sound =
      let less = flying_few d.requests in
      let e = rw fails at sound.entries in
      omega (arith, e, sound.places, less)

  -- a change of the ring that adds no entry
  pub held_ring : (d : Driving S F) (ring : RingState) (ls : List Landing) (room most spots : ℕ) → Within d.ring ring 0 → IsHeld d room most spots → IsHeld (record d { ring = ring; landings = ls }) room most spots
  held_ring = grind arith
