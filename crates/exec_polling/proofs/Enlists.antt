-- What the machine sees of a worker whose task has made a request.
use Rattle.std.proofs.{Common.{◌≡◌, ℕ, ◌+◌, ◌==◌, Bool, true, false, not, List, [], ◌∷◌, ◌++◌, length, filter, map, Option, Some, None, IsSome, refl, sym, ap, ◌∙◌, arith, is_some, if◌then◌else◌}, lemmas.{List.{append-nil, map-append}, Option.slice_get_within}}
use Rattle.exec_base.specs.{Slab.value_at, declared.{slab.Id.Id, error.Error.TheVariants.Timeout}}
use Rattle.exec_outcomes.specs.{Accounts.is_durable, declared.outcome.Outcome.TheVariants.Failure}
use Rattle.exec_request.specs.{Requests.{asked_of, deadline_of, gate_of, output_of, target_of}, declared.request.Request.Request as Asking}
use Rattle.exec_ring.specs.Rings.{RingState, completions}
use Rattle.exec_waiters.specs.{Events.told_by_finish, States.{counts_flying, flying_count, waiter_at}, Told.{Told, nothing_told}, declared.{deferred.Deferred.Deferred, observer.Observer.TheVariants.Local, waiter.{Entry.TheVariants.{Pending, Ready}, Waiter.Waiter}, waiter_id.WaiterId.WaiterId}}
use Rattle.exec_words.specs.declared.inbox.Message.{Message}
use Rattle.exec_driver.specs.{Admission.with_rooms, Driving.{Driving, is_cancelled, is_queued, is_unenrolled}, Steps.{ended, in_place, is_late, newcomer, taken_in, timed_out, with_deadline}}
use Rattle.exec_lists.specs.Lists.{is_among, without}
use Rattle.exec_machine.specs.{declared.{event.Event.Event, state.{Next.Next, Operation.Operation}}, Requests.{own_after_admit, outcome_if_late}, Same.is_none, World.Own}
use Rattle.exec_moves.specs.{Seen.{next_at, polls_at, serves_at}, Slots.entered, State.Desk, declared.place.{InPoll.InPoll, Place.Place}}
use Rattle.exec_parts.{specs.{declared.parts.{mail.{Reply.Reply, Subject.Subject}, names.Names.Names, shared.Shared.Shared, worker.Worker.Worker}, Records.{number_in, seen_in}, View.{Visible, awaited_from, completions_in, desk_of, driver_of, landed_in, letters_in, message_of, numbers_of, owed_at, own_of, results_in, slots_seen, trailing, visible, wake_poll_in}}, proofs.Facts.{same_self, or_left}}
use Rattle.exec_invariants.{specs.{Admitting.{Registers, joins_gate}, Flown.operations, Sound.SoundAt}, proofs.{Taken.{enrolled_if, value_new}, Ends.{flying_ended, later_in, numbers_without}, Flown.numbers_on, Gated.{durable_of_file, gate_there}, Mine.stands, Slotted.{awaited_written, slots_written}}}
use Rattle.exec_polling.proofs.{Enlisting.{enrolments_are, placed_queued, placing, queued_are}, IsComing.IsComing, Enlisted.{driver_is, driver_late, driver_made, late_plain, names_made, one_comes, operation, record_made, tells_now, wakes_now}, Coming.OneComes, Newcomer.{flies_on, is_here, number_here, number_there}, RegisterSlots.{awaited_entered, slots_entered}, Unbegun.late_is}

-- a placing leaves the ring
ring_placed : (d : Driving Reply Reply) (id : WaiterId) (w : Waiter Reply Reply) (o g : Option ℕ) (b : Bool)
    → ((if b then ended d id w timed_out None else in_place (with_deadline d id o) id g).ring ≡ d.ring) × ((if b then ended d id w timed_out None else in_place (with_deadline d id o) id g).armed ≡ d.armed)
ring_placed = grind arith

-- A WORKER, by what its driver is, its numbers are and is left to be told

abbrev pub own_by : Worker → Driving Reply Reply → Names → Own
own_by w d n =
    record {
      root = w.root;
      start = w.moments.start;
      sampled = w.moments.sampled;
      sampled_before = w.moments.before;
      serving = serves_at w.place;
      polls = polls_at w.place;
      next = next_at w.place;
      owed = owed_at w.workers w.place ++ letters_in w.letters;
      ready = numbers_of n.requests.items d.lists.queued;
      unenrolled = numbers_of n.requests.items d.lists.enrolments;
      cancels = numbers_of n.requests.items d.lists.cancels;
      untold = n.untold.items;
      ended = n.ended.items;
      in_flight = flying_count d.requests;
      unreleased = n.unreleased;
    }

abbrev pub desk_by : Worker → Driving Reply Reply → Names → Deferred Reply Reply → List (Message Subject Subject) → Desk
desk_by w d n left batch =
    record (desk_of w) {
      wakes = map (λ t. t.0) left.notes.wakes.items;
      outputs = length left.outputs.items;
      completions = completions_in left.notes.completions.items;
      results = results_in left.results.items;
      requests = slots_seen n.requests.items d.requests;
      timers = slots_seen n.timers.items w.home.timers;
      awaited = awaited_from 0 n.requests.items d.requests.slots;
      entries = length d.ring.staged;
      polled = d.armed;
      others = trailing 0 (completions d.ring);
      batch = map message_of batch;
    }

module _ {B : Type 0} (t : ℕ) (w w' : Worker) (s sx s' : Shared B) (q : Asking) (e : Event) (sound : SoundAt (Place.Poll t InPoll.Act) w s)
    (reg : Registers t q w w' (record s { tasks = sx.tasks }) s' e) (comes : IsComing q) (covers : is_durable (asked_of q).kind ≡ true → (operation t w w' s sx s' q e sound reg comes).seen ≡ seen_in q) where
  abbrev pub goes_to : Place
  goes_to = Place.Poll t (joins_gate (length s.requests.items) (asked_of q).kind)

  pub flat : w' ≡ record w { place = goes_to; names = w'.names; batch = reg.takes.mid.batch; home = record w.home { driver = reg.mid.home.driver; deferred = reg.mid.home.deferred } }
  flat = grind arith

  one : OneComes w.index w.names (names_made t w w' s sx s' q e sound reg comes) (driver_of w) (driver_made t w w' s sx s' q e sound reg comes) s.requests.items reg.id.0 (newcomer q (Local None)) (record_made t w w' s sx s' q e sound reg comes)
  one = one_comes t w w' s sx s' q e sound reg comes covers

  there : (other : Id) → IsSome (value_at (driver_of w).requests other) → number_in w'.names.requests.items other ≡ number_in w.names.requests.items other
  there = number_there w.index w.names (names_made t w w' s sx s' q e sound reg comes) (driver_of w) (driver_made t w w' s sx s' q e sound reg comes) w.home.timers s.requests.items s.sleepers.items reg.id.0 (newcomer q (Local None)) (record_made t w w' s sx s' q e sound reg comes) one

  here : number_in w'.names.requests.items reg.id.0 ≡ length s.requests.items
  here = number_here w.index w.names (names_made t w w' s sx s' q e sound reg comes) (driver_of w) (driver_made t w w' s sx s' q e sound reg comes) w.home.timers s.requests.items s.sleepers.items reg.id.0 (newcomer q (Local None)) (record_made t w w' s sx s' q e sound reg comes) one

  abbrev AllLive : List WaiterId → Type 0
  AllLive ids = (x : WaiterId) → is_among x ids ≡ true → IsSome (value_at (driver_of w).requests x.0)

  queued_live : AllLive (driver_of w).lists.queued
  queued_live x among = stands (driver_of w) x is_queued (waiter_at (driver_of w).requests x.0) refl refl (one.lists.queued x among)

  enrolments_live : AllLive (driver_of w).lists.enrolments
  enrolments_live x among = stands (driver_of w) x is_unenrolled (waiter_at (driver_of w).requests x.0) refl refl (one.lists.enrolments x among)

  cancels_live : AllLive (driver_of w).lists.cancels
  cancels_live x among = stands (driver_of w) x is_cancelled (waiter_at (driver_of w).requests x.0) refl refl (one.lists.cancels x among)

  still : (ids : List WaiterId) → AllLive ids → numbers_of w'.names.requests.items ids ≡ numbers_of w.names.requests.items ids
  still [] live = refl
  still (x ∷ ids) live = rw (there x.0 (live x (or_left _ _ (same_self x))), still ids (λ y among. live y (later_in x y ids among))) refl

  -- the new one is the last, or leaves
  joined : (ids : List WaiterId) → AllLive ids → numbers_of w'.names.requests.items (ids ++ reg.id ∷ []) ≡ numbers_of w.names.requests.items ids ++ length s.requests.items ∷ []
  joined = grind (arith, map-append, still, here)

  gone : (ids : List WaiterId) → AllLive ids → numbers_of w'.names.requests.items (without reg.id ids) ≡ filter (λ n. not (n == length s.requests.items)) (numbers_of w.names.requests.items ids)
  gone ids live =
      numbers_without w'.names.requests.items reg.id ids
      (λ x among apart same.
      let some = live x among in
      let old = sound.named.requests x.0 some in
      let within = slice_get_within s.requests.items (number_in w.names.requests.items x.0) old.0 old.1 in
      omega (arith, within, there x.0 some, same, here))
      ∙ ap (λ n. filter (λ m. not (m == n)) (numbers_of w'.names.requests.items ids)) here ∙ ap (λ xs. filter (λ m. not (m == length s.requests.items)) xs) (still ids live)

  abbrev parts : InPoll → List ℕ → List ℕ → List ℕ → List ℕ → ℕ → Own
  parts x ready unenrolled cancels ended flying =
      record (own_of (record w { place = Place.Poll t InPoll.Act })) { next = next_at (Place.Poll t x); ready = ready; unenrolled = unenrolled; cancels = cancels; ended = ended; in_flight = flying; unreleased = w.names.unreleased + 1 }

  parts_same : {x x' : InPoll} {a b c e : List ℕ} {m n : ℕ} {a' b' c' e' : List ℕ} → x ≡ x' → a ≡ a' → b ≡ b' → c ≡ c' → e ≡ e' → m ≡ n → parts x a b c e m ≡ parts x' a' b' c' e' n
  parts_same i x y z u v = rw (i, x, y, z, u, v) refl

  here_at : waiter_at (driver_made t w w' s sx s' q e sound reg comes).requests reg.id.0 ≡ Some (newcomer q (Local None))
  here_at = is_here w.index w.names (names_made t w w' s sx s' q e sound reg comes) (driver_of w) (driver_made t w w' s sx s' q e sound reg comes) w.home.timers s.requests.items s.sleepers.items reg.id.0 (newcomer q (Local None)) (record_made t w w' s sx s' q e sound reg comes) one

  own_flat : own_of w' ≡ parts (joins_gate (length s.requests.items) (asked_of q).kind) (numbers_of w'.names.requests.items (driver_of reg.mid).lists.queued) (numbers_of w'.names.requests.items (driver_of reg.mid).lists.enrolments)
      (numbers_of w'.names.requests.items (driver_of reg.mid).lists.cancels) w'.names.ended.items (flying_count (driver_of reg.mid).requests)
  own_flat = grind arith

  unenrolled_by : (o : Option ℕ) → numbers_of w'.names.requests.items (enrolled_if o reg.id (driver_of w).lists.enrolments)
      ≡ (if is_none o then numbers_of w.names.requests.items (driver_of w).lists.enrolments else numbers_of w.names.requests.items (driver_of w).lists.enrolments ++ length s.requests.items ∷ [])
  unenrolled_by None = still (driver_of w).lists.enrolments enrolments_live
  unenrolled_by (Some n) = joined (driver_of w).lists.enrolments enrolments_live

  flying_made : flying_count (driver_made t w w' s sx s' q e sound reg comes).requests ≡ flying_count (driver_of w).requests
  flying_made = let n = one.takes.counts counts_flying (λ g. refl) refl in omega (arith, n)

  -- all that the worker has
  pub own_asked : (o : Operation) → o.kind ≡ (asked_of q).kind → o.deadline ≡ deadline_of q → own_of w' ≡ own_after_admit o (outcome_if_late w.moments.sampled (deadline_of q)) (length s.requests.items) (own_of (record w { place = Place.Poll t InPoll.Act }))
  own_asked o kind deadline = own_flat ∙ by (is_late (deadline_of q) w.moments.sampled) refl
    where
      early : is_late (deadline_of q) w.moments.sampled ≡ false → (b : Bool) → is_durable (asked_of q).kind ≡ b → parts (joins_gate (length s.requests.items) (asked_of q).kind) (numbers_of w'.names.requests.items (driver_of reg.mid).lists.queued) (numbers_of w'.names.requests.items (driver_of reg.mid).lists.enrolments)
          (numbers_of w'.names.requests.items (driver_of reg.mid).lists.cancels) w'.names.ended.items (flying_count (driver_of reg.mid).requests) ≡ own_after_admit o None (length s.requests.items) (own_of (record w { place = Place.Poll t InPoll.Act }))
      early late b durable =
          let none : outcome_if_late w.moments.sampled (deadline_of q) ≡ None = late_is w.moments.sampled (deadline_of q) ∙ ap (λ c. if c then Some (Failure Timeout) else None) late in
          let driver : driver_of reg.mid ≡ driver_made t w w' s sx s' q e sound reg comes = driver_is t w w' s sx s' q e sound reg comes ∙ placed_queued (driver_of reg.mid) (driver_of w) reg.id q w.moments.sampled late in
          let n = w'.names.requests.items in
          let p = placing reg.id (gate_of q) in
          let u = ap (λ x. numbers_of n x.lists.enrolments) driver ∙ ap (numbers_of n) ((p _).enrolments ∙ enrolments_are reg.id (deadline_of q) (driver_of w).lists) ∙ unenrolled_by (deadline_of q) in
          let c = ap (λ x. numbers_of n x.lists.cancels) driver ∙ ap (numbers_of n) one.cancels ∙ still (driver_of w).lists.cancels cancels_live in
          let ended : w'.names.ended.items ≡ w.names.ended.items = ap (λ x. x.items) (reg.names.untouched (ap is_some none)) ∙ one.ended in
          let flying : flying_count (driver_of reg.mid).requests ≡ flying_count (driver_of w).requests = ap (λ x. flying_count x.requests) driver ∙ flying_made in
          by_kind b durable driver u c ended flying
        where
          by_kind : (b : Bool) → is_durable (asked_of q).kind ≡ b → driver_of reg.mid ≡ driver_made t w w' s sx s' q e sound reg comes
              → numbers_of w'.names.requests.items (driver_of reg.mid).lists.enrolments ≡ (if is_none (deadline_of q) then numbers_of w.names.requests.items (driver_of w).lists.enrolments else numbers_of w.names.requests.items (driver_of w).lists.enrolments ++ length s.requests.items ∷ [])
              → numbers_of w'.names.requests.items (driver_of reg.mid).lists.cancels ≡ numbers_of w.names.requests.items (driver_of w).lists.cancels → w'.names.ended.items ≡ w.names.ended.items → flying_count (driver_of reg.mid).requests ≡ flying_count (driver_of w).requests
              → parts (joins_gate (length s.requests.items) (asked_of q).kind) (numbers_of w'.names.requests.items (driver_of reg.mid).lists.queued) (numbers_of w'.names.requests.items (driver_of reg.mid).lists.enrolments)
              (numbers_of w'.names.requests.items (driver_of reg.mid).lists.cancels) w'.names.ended.items (flying_count (driver_of reg.mid).requests) ≡ own_after_admit o None (length s.requests.items) (own_of (record w { place = Place.Poll t InPoll.Act }))
          by_kind true durable driver u c ended flying =
              let n = w'.names.requests.items in
              let p = placing reg.id (gate_of q) in
              let r : numbers_of n (driver_of reg.mid).lists.queued ≡ numbers_of w.names.requests.items (driver_of w).lists.queued =
              ap (λ x. numbers_of n x.lists.queued) driver ∙ ap (numbers_of n) ((p _).still (target_of q) (gate_there q durable) ∙ queued_are reg.id (deadline_of q) (driver_of w).lists) ∙ still (driver_of w).lists.queued queued_live in
              let undated : deadline_of q ≡ None = comes.undated (durable_of_file (asked_of q).kind durable) in
              let v = u ∙ ap (λ d. if is_none d then numbers_of w.names.requests.items (driver_of w).lists.enrolments else numbers_of w.names.requests.items (driver_of w).lists.enrolments ++ length s.requests.items ∷ []) undated in
              let place : joins_gate (length s.requests.items) (asked_of q).kind ≡ InPoll.JoinGate (length s.requests.items) = ap (λ b. if b then InPoll.JoinGate (length s.requests.items) else InPoll.Act) durable in
              parts_same place r v c ended flying
              ∙ sym (ap (λ b. if b then (record (own_of (record w { place = Place.Poll t InPoll.Act })) { next = Next.Joins (length s.requests.items); unreleased = w.names.unreleased + 1 }) else (record (own_of (record w { place = Place.Poll t InPoll.Act })) { ready = numbers_of w.names.requests.items (driver_of w).lists.queued ++ length s.requests.items ∷ []; unenrolled = if is_none o.deadline then numbers_of w.names.requests.items (driver_of w).lists.enrolments else numbers_of w.names.requests.items (driver_of w).lists.enrolments ++ length s.requests.items ∷ []; unreleased = w.names.unreleased + 1 })) (ap is_durable kind ∙ durable))
          by_kind false undurable driver u c ended flying =
              let n = w'.names.requests.items in
              let p = placing reg.id (gate_of q) in
              let r : numbers_of n (driver_of reg.mid).lists.queued ≡ numbers_of w.names.requests.items (driver_of w).lists.queued ++ length s.requests.items ∷ [] =
              ap (λ x. numbers_of n x.lists.queued) driver ∙ ap (numbers_of n) ((p _).queued (comes.made.gateless undurable) ∙ ap (λ ids. ids ++ reg.id ∷ []) (queued_are reg.id (deadline_of q) (driver_of w).lists)) ∙ joined (driver_of w).lists.queued queued_live in
              let v = u ∙ ap (λ d. if is_none d then numbers_of w.names.requests.items (driver_of w).lists.enrolments else numbers_of w.names.requests.items (driver_of w).lists.enrolments ++ length s.requests.items ∷ []) (sym deadline) in
              let place : joins_gate (length s.requests.items) (asked_of q).kind ≡ InPoll.Act = ap (λ b. if b then InPoll.JoinGate (length s.requests.items) else InPoll.Act) undurable in
              parts_same place r v c ended flying
              ∙ sym (ap (λ b. if b then (record (own_of (record w { place = Place.Poll t InPoll.Act })) { next = Next.Joins (length s.requests.items); unreleased = w.names.unreleased + 1 }) else (record (own_of (record w { place = Place.Poll t InPoll.Act })) { ready = numbers_of w.names.requests.items (driver_of w).lists.queued ++ length s.requests.items ∷ []; unenrolled = if is_none o.deadline then numbers_of w.names.requests.items (driver_of w).lists.enrolments else numbers_of w.names.requests.items (driver_of w).lists.enrolments ++ length s.requests.items ∷ []; unreleased = w.names.unreleased + 1 })) (ap is_durable kind ∙ undurable))

      by : (b : Bool) → is_late (deadline_of q) w.moments.sampled ≡ b → parts (joins_gate (length s.requests.items) (asked_of q).kind) (numbers_of w'.names.requests.items (driver_of reg.mid).lists.queued) (numbers_of w'.names.requests.items (driver_of reg.mid).lists.enrolments)
          (numbers_of w'.names.requests.items (driver_of reg.mid).lists.cancels) w'.names.ended.items (flying_count (driver_of reg.mid).requests) ≡ own_after_admit o (outcome_if_late w.moments.sampled (deadline_of q)) (length s.requests.items) (own_of (record w { place = Place.Poll t InPoll.Act }))
      by false late =
          let none : outcome_if_late w.moments.sampled (deadline_of q) ≡ None = late_is w.moments.sampled (deadline_of q) ∙ ap (λ b. if b then Some (Failure Timeout) else None) late in
          early late (is_durable (asked_of q).kind) refl ∙ sym (ap (λ x. own_after_admit o x (length s.requests.items) (own_of (record w { place = Place.Poll t InPoll.Act }))) none)
      by true late =
          let some : outcome_if_late w.moments.sampled (deadline_of q) ≡ Some (Failure Timeout) = late_is w.moments.sampled (deadline_of q) ∙ ap (λ b. if b then Some (Failure Timeout) else None) late in
          let x : Driving Reply Reply = taken_in (driver_of w) q (Local None) in
          let driver : driver_of reg.mid ≡ with_rooms (driver_of reg.mid) (ended x reg.id (newcomer q (Local None)) timed_out None) = grind (arith, driver_is t w w' s sx s' q e sound reg comes, late) in
          let n = w'.names.requests.items in
          let r = ap (λ y. numbers_of n y.lists.queued) driver ∙ gone (driver_of w).lists.queued queued_live in
          let u = ap (λ y. numbers_of n y.lists.enrolments) driver ∙ gone (driver_of w).lists.enrolments enrolments_live in
          let c = ap (λ y. numbers_of n y.lists.cancels) driver ∙ gone (driver_of w).lists.cancels cancels_live in
          let over : w'.names.ended.items ≡ w.names.ended.items ++ length s.requests.items ∷ [] =
          reg.names.ended ∙ ap (λ b. if b then reg.mid.names.ended.items ++ length s.requests.items ∷ [] else reg.mid.names.ended.items) (ap is_some some) ∙ ap (λ xs. xs ++ length s.requests.items ∷ []) one.ended in
          let flying : flying_count (driver_of reg.mid).requests ≡ flying_count (driver_of w).requests =
          ap (λ y. flying_count y.requests) (driver_late t w w' s sx s' q e sound reg comes late)
          ∙ flying_ended (driver_made t w w' s sx s' q e sound reg comes).requests reg.id.0 (newcomer q (Local None)) timed_out None here_at refl ∙ flying_made in
          let place : joins_gate (length s.requests.items) (asked_of q).kind ≡ InPoll.Act = ap (λ b. if b then InPoll.JoinGate (length s.requests.items) else InPoll.Act) (late_plain t w w' s sx s' q e sound reg comes late) in
          parts_same place r u c over flying ∙ sym (ap (λ z. own_after_admit o z (length s.requests.items) (own_of (record w { place = Place.Poll t InPoll.Act }))) some)

  -- what stands beside it
  rings : ((driver_of reg.mid).ring ≡ record (driver_of w).ring { places = (driver_of reg.mid).ring.places }) × ((driver_of reg.mid).armed ≡ (driver_of w).armed)
  rings =
      let d = driver_of w in
      let is = driver_is t w w' s sx s' q e sound reg comes in
      let placed = ring_placed (taken_in d q (Local None)) reg.id (newcomer q (Local None)) (deadline_of q) (gate_of q) (is_late (deadline_of q) w.moments.sampled) in
      (ap (λ (x : Driving Reply Reply). x.ring) is ∙ ap (λ (r : RingState). record r { places = (driver_of reg.mid).ring.places }) placed.0, ap (λ (x : Driving Reply Reply). x.armed) is ∙ placed.1)

  -- an end at once is told to nobody
  record TellsNobody (x : Told Reply Reply) : Type 0 where
    outputs : x.outputs ≡ []
    completions : x.completions ≡ []
    results : x.results ≡ []

  tells_nobody : (b : Bool) → TellsNobody (if b then told_by_finish {S = Reply} {F = Reply} reg.id.0 (newcomer q (Local None)) timed_out None else nothing_told)
  tells_nobody true = record { outputs = refl; completions = refl; results = refl }
  tells_nobody false = record { outputs = refl; completions = refl; results = refl }

  outputs_none : reg.mid.home.deferred.outputs.items ≡ w.home.deferred.outputs.items
  outputs_none = grind (arith, tells_now, tells_nobody, append-nil)

  completions_none : reg.mid.home.deferred.notes.completions.items ≡ w.home.deferred.notes.completions.items
  completions_none = grind (arith, tells_now, tells_nobody, append-nil)

  results_none : reg.mid.home.deferred.results.items ≡ w.home.deferred.results.items
  results_none = grind (arith, tells_now, tells_nobody, append-nil)

  -- its slot
  slots_then : (slots_seen w'.names.requests.items (driver_of reg.mid).requests ≡ entered (length s.requests.items) (slots_seen w.names.requests.items (driver_of w).requests))
      × (awaited_from 0 w'.names.requests.items (driver_of reg.mid).requests.slots ≡ awaited_from 0 w.names.requests.items (driver_of w).requests.slots)
  slots_then = by (is_late (deadline_of q) w.moments.sampled) refl
    where
      came : slots_seen w'.names.requests.items (driver_made t w w' s sx s' q e sound reg comes).requests ≡ entered (length s.requests.items) (slots_seen w.names.requests.items (driver_of w).requests)
      came = slots_entered w.names.requests.items w'.names.requests.items (driver_of w).requests reg.id.0 (Pending (newcomer q (Local None))) (length s.requests.items) one.next one.number_is one.others

      free : awaited_from 0 w'.names.requests.items (driver_made t w w' s sx s' q e sound reg comes).requests.slots ≡ awaited_from 0 w.names.requests.items (driver_of w).requests.slots
      free = awaited_entered w.names.requests.items w'.names.requests.items (driver_of w).requests (driver_made t w w' s sx s' q e sound reg comes).requests reg.id.0 (Pending (newcomer q (Local None))) (length s.requests.items) one.next one.takes one.number_is one.others refl

      by : (b : Bool) → is_late (deadline_of q) w.moments.sampled ≡ b → (slots_seen w'.names.requests.items (driver_of reg.mid).requests ≡ entered (length s.requests.items) (slots_seen w.names.requests.items (driver_of w).requests))
          × (awaited_from 0 w'.names.requests.items (driver_of reg.mid).requests.slots ≡ awaited_from 0 w.names.requests.items (driver_of w).requests.slots)
      by false late =
          let driver : driver_of reg.mid ≡ driver_made t w w' s sx s' q e sound reg comes = driver_is t w w' s sx s' q e sound reg comes ∙ placed_queued (driver_of reg.mid) (driver_of w) reg.id q w.moments.sampled late in
          (ap (λ x. slots_seen w'.names.requests.items x.requests) driver ∙ came, ap (λ x. awaited_from 0 w'.names.requests.items x.requests.slots) driver ∙ free)
      by true late =
          let driver = driver_late t w w' s sx s' q e sound reg comes late in
          let made = (driver_made t w w' s sx s' q e sound reg comes).requests in
          let at = value_new (driver_of w).requests made reg.id.0 (Pending (newcomer q (Local None))) one.takes in
          let ready = Ready (output_of q timed_out None) in (
            ap (λ x. slots_seen w'.names.requests.items x.requests) driver ∙ slots_written w'.names.requests.items made reg.id.0 (Pending (newcomer q (Local None))) ready at ∙ came,
            ap (λ x. awaited_from 0 w'.names.requests.items x.requests.slots) driver ∙ awaited_written w'.names.requests.items made reg.id.0 (Pending (newcomer q (Local None))) ready at refl ∙ free,
          )

  pub desk_asked : desk_of w' ≡ record (desk_of w) { place = goes_to; requests = entered (length s.requests.items) (slots_seen w.names.requests.items (driver_of w).requests) }
  desk_asked = grind (arith, wakes_now, flat, rings, outputs_none, completions_none, results_none, slots_then, one)

  pub visible_asked : visible w' ≡ visible w
  visible_asked =
      let n' = names_made t w w' s sx s' q e sound reg comes in
      let d' = driver_made t w w' s sx s' q e sound reg comes in
      let r' = record_made t w w' s sx s' q e sound reg comes in
      let shown : List ℕ → RingState → List (Message Subject Subject) → Visible = λ landed r batch. record { busy = r.busy; landed = landed; wakes = wake_poll_in r; taken = map message_of batch } in
      ap visible flat
      ∙ ap (λ (r : RingState). shown (landed_in w'.names.requests.items r) r reg.takes.mid.batch.values) rings.0
      ∙ ap (λ xs. shown xs (driver_of w).ring reg.takes.mid.batch.values)
      (numbers_on w.names n' (driver_of w) d' s.requests.items (s.requests.items ++ r' ∷ []) (operations (driver_of w).ring) sound.flown.landed
      (flies_on w.index w.names n' (driver_of w) d' w.home.timers s.requests.items s.sleepers.items reg.id.0 (newcomer q (Local None)) r' one))
      ∙ ap (λ ms. shown (landed_in w.names.requests.items (driver_of w).ring) (driver_of w).ring ms) reg.takes.rooms.mails.mail.values
