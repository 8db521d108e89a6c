-- A request that comes in: it is in no list yet, then in those of its place, and there is room for it in each.
use Rattle.std.{proofs.{Common.{◌≡◌, ◌↔◌, ℕ, ◌+◌, ◌^◌, ◌<◌, ◌≤◌, Bool, true, false, cond, List, length, Option, Some, None, refl, sym, ap, ◌∙◌, subst, inr, arith, length-set, length-append}, lemmas.List.Sums.{sum_by-set, sum_by_push}}, specs.Prelude.{is_some, count_by}}
use Rattle.exec_lists.{proofs.{Counting.{OneChanged, pending_is, flying_is}, Shifts.{Shift, Kept, shifted, nowhere, few}}, specs.{Lists.{Lists, with_queued, with_gated, with_enrolment}, Listed.{IsListed, counts}}}
use Rattle.exec_base.{specs.{Slab.{Slab, slot_at, value_in, value_at, removed, inserted, filled, next_id, next_generation, generation_of, is_live, live_count, freed, IsPast, TakesId, Updates}, declared.slab.{Id.Id, Slot.{Slot, TheVariants.{Live, Vacant, Retired}}}}, proofs.Slots.{some_of_if, past-free, past-write, Changed-set}}
use Rattle.exec_outcomes.specs.Accounts.{Account, is_durable}
use Rattle.exec_request.specs.{Requests.{asked_of, deadline_of, gate_of}, States.Ended, declared.{output.RequestOutput.RequestOutput, request.Request.Request}}
use Rattle.exec_time.specs.Wheel.{Wheel}
use Rattle.exec_waiters.{specs.{Events.{finished, finished_for}, States.{waiter_at, waiter_of, is_flying, pending_count}, declared.{observer.Observer.Observer, waiter.{Waiter.Waiter, Entry.{Entry, TheVariants.Pending}}, waiter_id.WaiterId.WaiterId}}, proofs.Changes.{at_by, entry_of, one_if}}
use Rattle.exec_driver.{specs.{Admission.{HasTwoMore, with_rooms}, Driving.{Driving, is_queued, is_gated, is_unenrolled, is_enrolled, is_cancelled}, Sound.{IsSound, IsHeld, is_unpermitted, is_undated, is_at_tick, may_cancel}, Steps.{ended, in_place, with_deadline, placed_at, taken_in, newcomer, is_late, timed_out}}, proofs.Serving.at_most_one}

pub durable_gated : (r : Request) → is_durable (asked_of r).kind ≡ is_some (gate_of r)
durable_gated = grind arith

-- the places of one that comes in
abbrev pub put : WaiterId → Bool → Bool → Lists → Lists
put id timed gated l =
    cond gated (with_gated id (cond timed (with_enrolment id l) l)) (with_queued id (cond timed (with_enrolment id l) l))

pub put_few : (id : WaiterId) (timed gated : Bool) (l : Lists) → length (put id timed gated l).enrolments ≤ length l.enrolments + 1
put_few = grind (arith, length-append)

pub put_room : (id : WaiterId) (timed gated : Bool) (l : Lists) → (put id timed gated l).room ≡ l.room
put_room = grind arith

module _ {S F : Type 0} where
  -- THE SLAB

  -- the slot that takes the next value has none
  none_in : (q : Slot (Entry S F) → Bool) → ((g : ℕ) → q (Vacant g) ≡ false) → q Retired ≡ false → (slot : Slot (Entry S F)) → (generation_of slot < next_generation slot → ⊥) → one_if (q slot) ≡ 0
  none_in = grind arith

  unnamed_there : (slot : Slot (Entry S F)) (g : ℕ) → (g < next_generation slot → ⊥) → value_in slot g ≡ None
  unnamed_there = grind arith

  one_more : (q : Slot (Entry S F) → Bool) → ((g : ℕ) → q (Vacant g) ≡ false) → q Retired ≡ false → (s : Slab (Entry S F)) (vacant : List ℕ) (e : Entry S F) (id : Id) (b : Bool) → ((g : ℕ) → q (Live g e) ≡ b) → next_id (record s { vacant = vacant }) ≡ Some id → (IsPast s id → ⊥) → id.index < length (filled s vacant e).slots → count_by q (filled s vacant e).slots ≡ count_by q s.slots + one_if b
  one_more = grind (arith, sum_by_push, one_if, some_of_if, length-set, none_in, sum_by-set)

  abbrev pub arrived : Slab (Entry S F) → Waiter S F → ℕ → Slab (Entry S F)
  arrived s w room = record (inserted s (Pending w)) { room = room }

  -- a request came into a slab
  pub record Arrives (s s' : Slab (Entry S F)) (id : Id) (w : Waiter S F) : Type 0 where
    pub slab : s' ≡ arrived s w s'.room
    pub next : next_id s ≡ Some id
    pub unnamed : IsPast s id → ⊥
    pub map : Updates s s' id (Some (Pending w))

  more_by : (q : Slot (Entry S F) → Bool) → ((g : ℕ) → q (Vacant g) ≡ false) → q Retired ≡ false → (s s' : Slab (Entry S F)) (id : Id) (w : Waiter S F) (b : Bool) → ((g : ℕ) → q (Live g (Pending w)) ≡ b) → Arrives s s' id w → count_by q s'.slots ≡ count_by q s.slots + one_if b
  more_by q none none' s s' id w b live arrives =
      let there = at_by s' id (Pending w) arrives.map.changed in
      let slots = ap (λ (x : Slab (Entry S F)). x.slots) arrives.slab in
      let within : id.index < length (filled s s.vacant (Pending w)).slots = omega (arith, there.within, ap length slots) in
      ap (count_by q) slots ∙ one_more q none none' s s.vacant (Pending w) id b live arrives.next arrives.unnamed within

  pub one_arrived : (s s' : Slab (Entry S F)) (id : Id) (w : Waiter S F) → Arrives s s' id w → OneChanged s s' id None (Some w)
  one_arrived s s' id w arrives =
      record {
        was_at = ap waiter_of (unnamed_there (slot_at s id.index) id.generation arrives.unnamed);
        is_at = ap waiter_of arrives.map.changed;
        others = λ other apart. ap waiter_of (arrives.map.others other apart);
        numbers = λ place none.
            let more = more_by (counts place) (λ g. refl) refl s s' id w (place (Some w)) (λ g. refl) arrives in
            rw none (omega (arith, more));
      }

  pub live_arrived : (s s' : Slab (Entry S F)) (id : Id) (w : Waiter S F) → Arrives s s' id w → live_count s' ≡ live_count s + 1
  live_arrived s s' id w arrives = more_by is_live (λ g. refl) refl s s' id w true (λ g. refl) arrives

  -- rooms that changed before change nothing of what ids are past
  pub takes_over : (s s' s'' : Slab (Entry S F)) (id : Id) (room : ℕ) → s' ≡ record s { room = room } → TakesId s' s'' id → TakesId s s'' id
  takes_over s s' s'' id room same takes =
      let over = subst (λ (m : Slab (Entry S F)). TakesId m s'' id) same takes in record { past = over.past }

  -- nor does the end of the request
  past_freed : (s : Slab (Entry S F)) (id : Id) (e : Entry S F) → id.generation < 2 ^ 64 → value_at s id ≡ Some e → (other : Id) → IsPast (removed s id) other ↔ IsPast s other
  past_freed s id e within at =
      let there = at_by s id e at in
      past-free s (removed s id) id e within (Changed-set s (removed s id) id.index (freed id.generation) refl refl there.within) there.slot

  past_for : (s : Slab (Entry S F)) (id : Id) (e : Entry S F) (told : RequestOutput) (observer : Observer S F) → id.generation < 2 ^ 64 → value_at s id ≡ Some e → (other : Id) → IsPast (finished_for s id told observer) other ↔ IsPast s other
  past_for = grind (arith, past-write, past_freed)

  pub takes_finished : (s s' : Slab (Entry S F)) (id : Id) (w : Waiter S F) (how : Ended) (account : Option Account) → waiter_at s' id ≡ Some w → id.generation < 2 ^ 64 → TakesId s s' id → TakesId s (finished s' id w how account) id
  takes_finished = grind (arith, past_for, entry_of)

  -- what ends adds no name
  live_set : (s : Slab (Entry S F)) (id : Id) (w : Waiter S F) (told : RequestOutput) (observer : Observer S F) → waiter_at s id ≡ Some w → live_count (finished_for s id told observer) ≤ live_count s
  live_set = grind (arith, at_by, entry_of, sum_by-set, one_if, at_most_one)

  pub live_finished : (s : Slab (Entry S F)) (id : Id) (w : Waiter S F) (how : Ended) (account : Option Account) → waiter_at s id ≡ Some w → live_count (finished s id w how account) ≤ live_count s
  live_finished s id w how account at = live_set s id w _ w.observer at

  -- THE DRIVER

  -- no more names are in a list of a place than there are requests
  pub few_listed : (p : Option (Waiter S F) → Bool) (s : Slab (Entry S F)) (ids : List WaiterId) → p None ≡ false → IsListed p s ids → length ids ≤ pending_count s
  few_listed p s ids none listed =
      let some = few p is_some none refl (λ w is. refl) ids s listed.all listed.once in
      omega (arith, some, pending_is s)

  -- one that comes in joins lists of its places, or none
  pub record Joins (id : WaiterId) (w : Waiter S F) (l l' : Lists) : Type 0 where
    pub queued : Shift is_queued None (Some w) id l.queued l'.queued
    pub gated : Shift is_gated None (Some w) id l.gated l'.gated
    pub enrolments : Shift is_unenrolled None (Some w) id l.enrolments l'.enrolments
    pub due : l'.due ≡ l.due
    pub cancels : l'.cancels ≡ l.cancels

  pub joins_none : (id : WaiterId) (w : Waiter S F) (l : Lists) → Joins id w l l
  joins_none id w l =
      record { queued = Kept refl (inr refl); gated = Kept refl (inr refl); enrolments = Kept refl (inr refl); due = refl; cancels = refl }

  pub joins_put : (id : WaiterId) (request : Request) (observer : Observer S F) (l : Lists) (timed gated : Bool) → is_some (deadline_of request) ≡ timed → is_durable (asked_of request).kind ≡ gated → Joins id (newcomer request observer) l (put id timed gated l)
  joins_put = grind arith

  sound_joined : (d : Driving S F) (s' : Slab (Entry S F)) (l' : Lists) (id : WaiterId) (request : Request) (observer : Observer S F) → OneChanged d.requests s' id.0 None (Some (newcomer request observer)) → Joins id (newcomer request observer) d.lists l' → HasTwoMore d → IsSound d → IsSound (record d { requests = s'; lists = l' })
  sound_joined d s' l' id request observer one joins two sound =
      let more = one.numbers is_some refl in
      let flying = one.numbers is_flying refl in
      let uncancelled = one.numbers may_cancel refl in
      record {
        queued = shifted is_queued _ _ id _ _ _ _ one joins.queued sound.queued;
        gated = shifted is_gated _ _ id _ _ _ _ one joins.gated sound.gated;
        enrolments = shifted is_unenrolled _ _ id _ _ _ _ one joins.enrolments sound.enrolments;
        due = rw joins.due (shifted is_enrolled _ _ id _ _ _ _ one (Kept refl (inr refl)) sound.due);
        cancels = rw joins.cancels (shifted is_cancelled _ _ id _ _ _ _ one (Kept refl (inr refl)) sound.cancels);
        permits = nowhere is_unpermitted _ _ id.0 _ _ one refl sound.permits;
        dated = nowhere is_undated _ _ id.0 _ _ one refl sound.dated;
        ticks = λ t. let n = one.numbers (is_at_tick t) refl in omega (arith, n, sound.ticks t);
        drained = sound.drained;
        entries = omega (arith, sound.entries, flying, flying_is d.requests, flying_is s');
        places = omega (arith, two, more, uncancelled, ap length joins.cancels, pending_is d.requests, pending_is s');
      }

  pub held_joined : (d : Driving S F) (s' : Slab (Entry S F)) (l' : Lists) (id : WaiterId) (request : Request) (observer : Observer S F) (room room' most spots : ℕ) → OneChanged d.requests s' id.0 None (Some (newcomer request observer)) → Joins id (newcomer request observer) d.lists l' → HasTwoMore d → pending_count d.requests + 1 ≤ l'.room → length l'.enrolments ≤ room' → IsHeld d room most spots → IsHeld (record d { requests = s'; lists = l' }) room' most spots
  held_joined d s' l' id request observer room room' most spots one joins two within within' held =
      let more = one.numbers is_some refl in
      record {
        sound = sound_joined d s' l' id request observer one joins two held.sound;
        room = omega (arith, within, more, pending_is d.requests, pending_is s');
        wheel_room = within';
        limit = held.limit;
        places = held.places;
      }

  -- THE EQUATION

  placed_apart : (new like d : Driving S F) (id : WaiterId) (request : Request) (observer : Observer S F) (now : ℕ) → with_rooms new (placed_at (taken_in (with_rooms like d) request observer) id (newcomer request observer) now) ≡ with_rooms new (placed_at (taken_in d request observer) id (newcomer request observer) now)
  placed_apart = grind arith

  pub placed_over : (d d' new : Driving S F) (id : WaiterId) (request : Request) (observer : Observer S F) (now : ℕ) → d' ≡ with_rooms d' d → new ≡ with_rooms new (placed_at (taken_in d' request observer) id (newcomer request observer) now) → new ≡ with_rooms new (placed_at (taken_in d request observer) id (newcomer request observer) now)
  placed_over d d' new id request observer now same placed =
      placed ∙ subst (λ (m : Driving S F). with_rooms new (placed_at (taken_in m request observer) id (newcomer request observer) now) ≡ with_rooms new (placed_at (taken_in d request observer) id (newcomer request observer) now)) (sym same) (placed_apart new d' d id request observer now)

  pub placed_is : (d : Driving S F) (id : WaiterId) (deadline gate : Option ℕ) → in_place (with_deadline d id deadline) id gate ≡ record d { lists = put id (is_some deadline) (is_some gate) d.lists }
  placed_is = grind arith

  pub is_refused : (d new : Driving S F) (s' : Slab (Entry S F)) (wheel : Wheel) (id : WaiterId) (request : Request) (observer : Observer S F) (now : ℕ) → s' ≡ arrived d.requests (newcomer request observer) s'.room → wheel ≡ d.wheel → is_late (deadline_of request) now ≡ true → new ≡ ended (record d { requests = s'; wheel = wheel }) id (newcomer request observer) timed_out None → new ≡ with_rooms new (placed_at (taken_in d request observer) id (newcomer request observer) now)
  is_refused = grind arith

  -- who needs two more needs them still
  pub two_still : (d d' : Driving S F) → d' ≡ with_rooms d' d → d'.ring ≡ d.ring → HasTwoMore d → HasTwoMore d'
  two_still = grind arith

  -- a driver with room for one more, of which only the rooms changed
  pub record IsReady (d d' : Driving S F) (count room : ℕ) : Type 0 where
    pub same : d' ≡ with_rooms d' d
    pub ring : d'.ring ≡ d.ring
    pub two : HasTwoMore d
    pub count_is : count ≡ pending_count d.requests + 1
    pub lists_room : pending_count d.requests + 1 ≤ d'.lists.room
    pub wheel_room : count ≤ room

  pub ready_of : (d d' : Driving S F) (count room : ℕ) → d' ≡ with_rooms d' d → d'.ring ≡ d.ring → HasTwoMore d → count ≡ pending_count d.requests + 1 → pending_count d.requests + 1 ≤ d'.lists.room → count ≤ room → IsReady d d' count room
  ready_of d d' count room same ring two is lists wheel =
      record { same = same; ring = ring; two = two; count_is = is; lists_room = lists; wheel_room = wheel }

  pub room_to_join : (d d' : Driving S F) (count room : ℕ) (p : Option (Waiter S F) → Bool) (ids : List WaiterId) → p None ≡ false → IsListed p d'.requests ids → IsReady d d' count room → length ids < d'.lists.room
  room_to_join d d' count room p ids none listed ready =
      omega (arith, few_listed p d'.requests ids none listed, ready.lists_room, ap (λ (m : Driving S F). pending_count m.requests) ready.same)

  pub held_arrived : (d d' : Driving S F) (s' : Slab (Entry S F)) (wheel : Wheel) (l' : Lists) (id : WaiterId) (request : Request) (observer : Observer S F) (count room room' most spots : ℕ) → IsReady d d' count room' → Arrives d'.requests s' id.0 (newcomer request observer) → wheel ≡ d'.wheel → Joins id (newcomer request observer) d'.lists l' → l'.room ≡ d'.lists.room → length l'.enrolments ≤ length d'.lists.enrolments + 1 → IsHeld d' room most spots → IsHeld (record d' { requests = s'; wheel = wheel; lists = l' }) room' most spots
  held_arrived d d' s' wheel l' id request observer count room room' most spots ready arrives turned joins kept few' held =
      let pending = ap (λ (m : Driving S F). pending_count m.requests) ready.same in
      let listed = few_listed is_unenrolled d'.requests d'.lists.enrolments refl held.sound.enrolments in
      rw turned (held_joined d' s' l' id request observer room room' most spots (one_arrived _ _ _ _ arrives) joins (two_still d d' ready.same ready.ring ready.two) (omega (arith, pending, ready.lists_room, kept)) (omega (arith, listed, pending, few', ready.wheel_room, ready.count_is)) held)
