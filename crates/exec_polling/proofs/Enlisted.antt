-- All that holds again of a worker whose task has made a request.
use Rattle.std.{proofs.{Common.{◌≡◌, ℕ, ◌+◌, ◌^◌, ◌<◌, ◌≤◌, ◌&&◌, Bool, true, false, not, List, [], ◌∷◌, ◌++◌, length, Option, Some, None, IfSome, refl, sym, ap, subst, ◌∙◌, arith, inl, inr, is_some, slice_get, slice_set, if◌then◌else◌}, lemmas.{Bool.false≢true, List.append-nil, Option.{get_or_from_slice_get, slice_get_within}}}, specs.VecDeque.deque_capacity}
use Rattle.exec_base.specs.{Slab.{live_count, next_id, IsPast}, declared.error.Error.TheVariants.Timeout}
use Rattle.exec_outcomes.specs.{Accounts.is_durable, declared.outcome.{Kind.Kind, Outcome.{Outcome, TheVariants.Failure}}}
use Rattle.exec_request.specs.{Requests.{asked_of, deadline_of, gate_of, output_of, target_of}, declared.request.Request.Request as Asking}
use Rattle.exec_ring.specs.Stores.{Reserves}
use Rattle.exec_waiters.specs.{Events.{finished, told_by_finish}, States.{counts_pending, pending_count}, Told.{HasPlaces, Tells, nothing_told}, declared.{deferred.Deferred.Deferred, observer.Observer.TheVariants.Local, waiter.{Entry.TheVariants.Pending, Waiter.Waiter}}}
use Rattle.exec_driver.specs.{Admission.with_rooms, Driving.{Driving, seen}, Placed.ListsRequests, Punctual.IsPunctual, Footprints.footprint_of, Steps.{is_late, newcomer, placed_at, plainly_written, taken_in, timed_out, told_at_admission}}
use Rattle.exec_lists.specs.Lists.{withdrawn, without}
use Rattle.exec_opens.specs.Opens.{OpenState, placed, with_named, writing}
use Rattle.exec_machine.specs.{declared.{event.Event.Event, state.Operation.Operation}, Requests.{asked_of as asked_in, first_phase, new_request, outcome_if_late, resolved}, Tests.{is_gated, is_in_flight, is_landed, is_resolved}}
use Rattle.exec_moves.specs.declared.{handing.AfterCallbacks.AfterCallbacks, place.{Place.Place, InCallbacks.InCallbacks, InPoll.InPoll}}
use Rattle.exec_parts.specs.{declared.parts.{mail.Reply.Reply, names.Names.Names, record.Record.Record, shared.Shared.Shared, worker.Worker.Worker}, Records.{number_in, operation_in, seen_in}, Serving.{changed_at, changed_in}, Calls.IsTold, View.driver_of}
use Rattle.exec_invariants.{specs.{Admitting.{Registers, has_open, most_told, seeing}, Due.{IsWheelAt, wheel_moment}, Gates.may_ask_hint, Ordered.went_round, Sound.{SoundAt, AreOver}, Names.{HasWidth, tellers}}, proofs.{Taken.{Takes, enrolled_if, got_new}, Late.tells_error, Orders.{TurnsAlike, alike_self}, Ousting.keeps_ended, Over.{OneEnds, leaves_all}, Resolving.{SlabAfter, places_fewer, slab_after}, ServedEnds.ends_told, ServingHolds.KeepsBy, Untold.{keeps_untold, rooted_told}}}
use Rattle.exec_polling.proofs.{Enlisting.{cancels_are, due_are, enrolments_are, gated_are, driver_then, placed_late, placed_queued, placing, queued_driver, taken_by}, Growing.told_same, Rooms.few_tellers, Coming.OneComes, Newcomer.{carried_next, flown_next, is_here, known_next, named_next, order_next, over_next, punctual_next, rooted_next, timed_next}, RegisterOpens.{IsRegistered, Opened, hints_then, opened_so}, Unbegun.{late_is, none_come}, IsComing.IsComing}

set_last : {A : Type 0} (xs : List A) (x y : A) → slice_set (xs ++ x ∷ []) (length xs) y ≡ xs ++ y ∷ []
set_last [] x y = refl
set_last (z ∷ xs) x y = ap (λ ys. z ∷ ys) (set_last xs x y)

changed_last : (rs : List Record) (r : Record) (f : Record → Record) (k : ℕ) → k ≡ length rs → changed_at (rs ++ r ∷ []) k f ≡ rs ++ f r ∷ []
changed_last rs r f k is = ap (λ n. changed_at (rs ++ r ∷ []) n f) is ∙ ap (changed_in (rs ++ r ∷ []) (length rs) f) (got_new rs r) ∙ set_last rs r (f r)

-- what is told at most has room
pub wide_places : (left : Deferred Reply Reply) (n m : ℕ) → n ≤ m → HasPlaces left m → HasWidth left n
wide_places = grind arith

-- the changes that its open has are told in one field
seeing_is : (opens : List OpenState) (o : Operation) → seeing opens o ≡ record o { seen = (seeing opens o).seen }
seeing_is = grind arith

first_waits : (k : Kind) → (is_landed (first_phase k) ≡ false) × (is_resolved (first_phase k) ≡ false)
first_waits = grind arith

first_gated : (k : Kind) → is_gated (first_phase k) ≡ is_durable k
first_gated = grind arith

first_grounded : (k : Kind) → is_in_flight (first_phase k) ≡ false
first_grounded = grind arith

first_open : (k : Kind) → is_resolved (first_phase k) ≡ false
first_open = grind arith

and_true : (b : Bool) → b ≡ (b && not false)
and_true true = refl
and_true false = refl

pub late_some : (o : Option ℕ) (now : ℕ) → is_late o now ≡ true → is_some o ≡ true
late_some None now h = absurd (false≢true h)
late_some (Some deadline) now h = refl

module _ {B : Type 0} (t : ℕ) (w w' : Worker) (s0 sx s' : Shared B) (q : Asking) (e : Event) (sound : SoundAt (Place.Poll t InPoll.Act) w s0)
    (reg : Registers t q w w' (record s0 { tasks = sx.tasks }) s' e) (comes : IsComing q) where
  -- THE OPENS
  opens_all : reg.takes.all.opens ≡ s0.opens
  opens_all = ap (λ (x : Shared B). x.opens) reg.takes.rooms.shared

  pub opens_are : s'.opens ≡ with_named (with_named s0.opens (gate_of q) placed) (plainly_written q) writing
  opens_are = grind arith

  pub has_its_open : has_open q s0.opens ≡ true
  has_its_open = ap (has_open q) (sym opens_all) ∙ reg.takes.opened

  pub opened : Opened (asked_of q).kind s0.opens s'.opens (target_of q)
  opened = opened_so q s0.opens s'.opens s0.requests.items sound.gates comes.made has_its_open opens_are

  abbrev pub operation : Operation
  operation = seeing s'.opens (operation_in q)

  pub operation_is : operation ≡ record (operation_in q) { seen = operation.seen }
  operation_is = seeing_is s'.opens (operation_in q)

  -- what it is as if its deadline hadn't passed
  abbrev pub waiter_made : Waiter Reply Reply
  waiter_made = newcomer q (Local None)

  abbrev pub driver_made : Driving Reply Reply
  driver_made = queued_driver (driver_of reg.mid) (driver_of w) reg.id q

  abbrev pub names_made : Names
  names_made = record w'.names { ended = reg.mid.names.ended }

  abbrev pub record_made : Record
  record_made = record { shown = new_request w.index operation; id = reg.id; sent = false }

  -- the driver that it came to, and its names
  pub driver_was : driver_of reg.takes.mid ≡ driver_of w
  driver_was = ap seen reg.takes.driver

  pub driver_is : driver_of reg.mid ≡ with_rooms (driver_of reg.mid) (placed_at (taken_in (driver_of w) q (Local None)) reg.id (newcomer q (Local None)) w.moments.sampled)
  driver_is = driver_then t q reg.id w reg.mid (record s0 { tasks = sx.tasks }) reg.all reg.takes

  pub takes_made : Takes (driver_of w).requests driver_made.requests reg.id.0 (Pending waiter_made)
  takes_made = taken_by t q reg.id w reg.mid (record s0 { tasks = sx.tasks }) reg.all reg.takes

  pub unnamed : IsPast (driver_of w).requests reg.id.0 → ⊥
  unnamed = subst (λ (x : Driving Reply Reply). IsPast x.requests reg.id.0 → ⊥) driver_was reg.takes.unnamed

  names_mid : reg.mid.names ≡ reg.takes.mid.names
  names_mid = ap (λ (x : Worker). x.names) reg.takes.worker

  pub requests_were : reg.mid.names.requests.items ≡ w.names.requests.items
  requests_were = ap (λ (n : Names). n.requests.items) names_mid ∙ reg.takes.rooms.names.requests

  pub one_comes : (is_durable (asked_of q).kind ≡ true → operation.seen ≡ seen_in q) → OneComes w.index w.names names_made (driver_of w) driver_made s0.requests.items reg.id.0 waiter_made record_made
  one_comes covers =
      let d = driver_of w in
      let made = comes.made in
      let n = reg.takes.rooms.names in
      let same = reg.names.same in
      let long : length w.names.requests.items ≤ length w'.names.requests.items = rw (← requests_were) reg.names.longer in
      let within = slice_get_within w'.names.requests.items reg.id.0.index (length s0.requests.items) reg.names.number_is in
      let unreleased : w'.names.unreleased ≡ w.names.unreleased + 1 = ap (λ (x : Names). x.unreleased) same ∙ ap (λ (x : Names). x.unreleased + 1) names_mid ∙ ap (λ m. m + 1) n.unreleased in
      let room : reg.mid.names.unreleased < deque_capacity reg.mid.names.ended = subst (λ (x : Names). x.unreleased < deque_capacity x.ended) (sym names_mid) reg.takes.has.names.ended in
      let kind : operation.kind ≡ (asked_of q).kind = ap (λ (o : Operation). o.kind) operation_is in
      let deadline : operation.deadline ≡ deadline_of q = ap (λ (o : Operation). o.deadline) operation_is in
      let skip : operation.skip ≡ (asked_of q).skip = ap (λ (o : Operation). o.skip) operation_is in
      let size : operation.length ≡ (asked_of q).length = ap (λ (o : Operation). o.length) operation_is in
      let moved : operation.moved ≡ 0 = ap (λ (o : Operation). o.moved) operation_is in
      let p = placing reg.id (gate_of q) in
      record {
        takes = takes_made;
        next = subst (λ (x : Driving Reply Reply). next_id x.requests ≡ Some reg.id.0) driver_was reg.takes.next;
        new = unnamed;
        number_is = reg.names.number_is;
        others = λ k apart. reg.names.others k apart ∙ ap (λ xs. slice_get xs k) requests_were;
        slots = elim takes_made.longer [ inl as_long ↦ omega (arith, as_long, sound.named.slots, long) | inr one_more ↦ omega (arith, one_more, within) ];
        timers = ap (λ (x : Names). x.timers.items) same ∙ ap (λ (x : Names). x.timers.items) names_mid ∙ n.timers;
        staged = ap (λ (x : Names). x.staged) same ∙ ap (λ (x : Names). x.staged) names_mid ∙ n.staged;
        untold = ap (λ (x : Names). x.untold) same ∙ ap (λ (x : Names). x.untold) names_mid ∙ n.untold;
        ended = ap (λ (x : Names). x.ended.items) names_mid ∙ n.ended;
        unreleased = unreleased;
        room = omega (arith, room, ap (λ (x : Names). x.unreleased) same);
        name = refl;
        o = operation;
        shown = refl;
        unsent = refl;
        observer = refl;
        alike = record {
          asked = ap asked_in operation_is;
          moved = moved ∙ sym comes.unmoved;
          switched = ap (λ (o : Operation). o.switched) operation_is ∙ sym comes.going;
          come = ([], none_come q comes.unmoved comes.going);
          hinted = λ h. absurd (false≢true h);
          asks_hint = λ h. (ap may_ask_hint kind ∙ sym comes.hint ∙ h, ap (λ (o : Operation). o.unrefused) operation_is);
          seen = λ durable. covers (ap is_durable (sym kind) ∙ durable) ∙ sym made.seen;
          deadline = deadline;
          cancelled = refl;
          timer = refl;
          observed = refl;
          waiter = λ u never. absurd (cc);
          flying = first_grounded operation.kind;
          permit = first_gated operation.kind ∙ ap is_durable kind ∙ and_true (is_durable (asked_of q).kind);
          open_still = first_open operation.kind;
          near = refl;
          going = λ h. absurd (false≢true h);
          told_once = λ h. absurd (false≢true h);
          dated = λ h. absurd (false≢true h);
          alone = λ h. absurd (false≢true h);
        };
        plain = record {
          bounded = let fits = made.bounded in omega (arith, fits, skip, size);
          moved = omega (arith, moved);
          deadline = subst (λ o. IfSome o (λ m. m < 2 ^ 63)) (sym deadline) comes.near;
        };
        lists = subst (λ (x : Driving Reply Reply). ListsRequests x) driver_was reg.takes.lists;
        ring = refl;
        armed = refl;
        wheel = refl;
        cancels = (p _).cancels ∙ cancels_are reg.id (deadline_of q) d.lists;
        due = (p _).due ∙ due_are reg.id (deadline_of q) d.lists;
        enrolments = (p _).enrolments ∙ enrolments_are reg.id (deadline_of q) d.lists;
        gated = (p _).gated ∙ ap (λ ids. enrolled_if (gate_of q) reg.id ids) (gated_are reg.id (deadline_of q) d.lists);
      }

  abbrev pub there : Place
  there = Place.Callbacks InCallbacks.TakeBatch AfterCallbacks.Look

  abbrev pub worker_made : Worker
  worker_made = record w { place = Place.Callbacks InCallbacks.TakeBatch AfterCallbacks.Look; names = record w'.names { ended = reg.mid.names.ended }; home = record w.home { deferred = reg.takes.mid.home.deferred } }

  pub wakes_none : reg.takes.mid.home.deferred.notes.wakes.items ≡ []
  wakes_none = reg.takes.rooms.untold.notes.wakes_added ∙ append-nil w.home.deferred.notes.wakes.items ∙ sound.quiet refl

  pub tells_now : Tells reg.takes.mid.home.deferred reg.mid.home.deferred (told_at_admission reg.id (newcomer q (Local None)) w.moments.sampled)
  tells_now = subst (λ (x : Worker). Tells reg.takes.mid.home.deferred reg.mid.home.deferred (told_at_admission reg.id (newcomer q (Local None)) x.moments.sampled)) reg.takes.rooms.worker reg.takes.tells

  -- an end at once wakes nobody
  pub wakes_now : reg.mid.home.deferred.notes.wakes.items ≡ []
  wakes_now = grind arith

  few_made : tellers driver_made.requests w.home.timers + 64 ≤ most_told reg.takes.mid
  few_made =
      let mid = reg.takes.mid in
      let n : length mid.names.requests.items ≡ length w.names.requests.items = ap (λ (x : List ℕ). length x) reg.takes.rooms.names.requests in
      let beds : live_count mid.home.timers ≡ live_count w.home.timers = ap (λ (x : Worker). live_count x.home.timers) reg.takes.rooms.worker in
      let long : length driver_made.requests.slots ≤ length w.names.requests.items + 1 = elim takes_made.longer [ inl same ↦ omega (arith, same, sound.named.slots) | inr one ↦ omega (arith, one, takes_made.within, sound.named.slots) ] in
      let few = few_tellers driver_made.requests w.home.timers (length w.names.requests.items + 1) (live_count w.home.timers) long (omega arith) in
      omega (arith, few, n, beds)

  told_made : IsTold reg.mid.names.ended.items reg.takes.mid.home.deferred (tellers driver_made.requests w.home.timers + 64)
  told_made =
      let mid = reg.takes.mid in
      let ended : reg.mid.names.ended.items ≡ w.names.ended.items = ap (λ (x : Names). x.ended.items) names_mid ∙ reg.takes.rooms.names.ended in
      subst (λ xs. IsTold xs mid.home.deferred (tellers driver_made.requests w.home.timers + 64)) (sym ended)
      (places_fewer few_made
      (told_same w.names.ended.items w.home.deferred mid.home.deferred (tellers (driver_of w).requests w.home.timers + 64) (most_told mid) reg.takes.rooms.untold reg.takes.has.told sound.told))

  abbrev shared_made : Shared B
  shared_made = record s0 { opens = s'.opens; store = s'.store }

  pub registered_made : IsRegistered q record_made s0.requests.items
  registered_made = grind arith

  pub keeps_made : (is_durable (asked_of q).kind ≡ true → operation.seen ≡ seen_in q) → KeepsBy worker_made driver_made w.home.timers (s0.requests.items ++ record_made ∷ []) s0.sleepers.items (record s0 { opens = s'.opens; store = s'.store })
  keeps_made covers =
      let d = driver_of w in
      let rs = s0.requests.items in
      let one = one_comes covers in
      let named = sound.named in
      let due = sound.due in
      let pending : pending_count driver_made.requests ≡ pending_count d.requests + 1 = takes_made.counts counts_pending (λ g. refl) refl in
      let kind : operation.kind ≡ (asked_of q).kind = ap (λ (o : Operation). o.kind) operation_is in
      record {
        told = told_made;
        wide = wide_places reg.takes.mid.home.deferred _ _ few_made reg.takes.has.told;
        named = named_next w.index w.names names_made d driver_made w.home.timers rs s0.sleepers.items reg.id.0 waiter_made record_made one named;
        sized = sound.sized;
        over = subst (λ m. AreOver w.index names_made.ended.items names_made.unreleased m (rs ++ record_made ∷ [])) (sym pending)
            (over_next w.index w.names names_made d driver_made w.home.timers rs s0.sleepers.items reg.id.0 waiter_made record_made one (pending_count d.requests) sound.over);
        quiet = λ h. wakes_none;
        due = record {
          punctual = punctual_next w.index w.names names_made d driver_made w.home.timers rs s0.sleepers.items reg.id.0 waiter_made record_made one refl due.punctual;
          told = λ h. one.due ∙ due.told refl;
          wheel = due.wheel;
          timed = timed_next w.index w.names names_made d driver_made w.home.timers rs s0.sleepers.items reg.id.0 waiter_made record_made one named due.timed;
          asleep = record {
            alike = λ id z r at found. due.asleep.alike id z r at (rw (← one.timers) found);
            there = due.asleep.there;
            named = λ k r found sleeps unclosed. rw one.timers (due.asleep.named k r found sleeps unclosed);
            lets_go = due.asleep.lets_go;
            counted = due.asleep.counted;
            names = due.asleep.names;
          };
          order = order_next w.index w.names names_made d driver_made w.home.timers rs s0.sleepers.items reg.id.0 waiter_made record_made one (went_round s0.config w.moments) refl named (due.told refl) due.order;
        };
        flown = flown_next w.index w.names names_made d driver_made w.home.timers rs s0.sleepers.items reg.id.0 waiter_made record_made one None named sound.flown;
        carried = carried_next w.index w.names names_made d driver_made w.home.timers rs s0.sleepers.items reg.id.0 waiter_made record_made one q s0.store s'.store refl reg.takes.small comes.made.whole comes.few (ap asked_in operation_is)
            (ap (λ (o : Operation). o.target) operation_is) (ap (λ (o : Operation). o.moved) operation_is ∙ sym comes.unmoved)
            (subst (λ x. Reserves (footprint_of q) x s'.store) reg.takes.store (subst (λ x. Reserves (footprint_of q) reg.takes.all.store x) (ap (λ (x : Shared B). x.store) (sym reg.shared)) reg.takes.stored)) named sound.carried;
        known = known_next w.index w.names names_made d driver_made w.home.timers rs s0.sleepers.items reg.id.0 waiter_made record_made one s0.opens s'.opens
            (hints_then q s0.opens s'.opens rs record_made sound.gates has_its_open registered_made opened) (comes.hint ∙ ap may_ask_hint (sym kind))
            (subst (λ xs. length xs < 2 ^ 32) reg.takes.rooms.requests reg.takes.has.few) named sound.known;
        rooted = rooted_told w.index names_made driver_made w.home.timers w.home.deferred reg.takes.mid.home.deferred (rs ++ record_made ∷ []) s0.sleepers.items
            (reg.takes.rooms.untold.notes.completions_added ∙ append-nil w.home.deferred.notes.completions.items) (reg.takes.rooms.untold.results_added ∙ append-nil w.home.deferred.results.items)
            (rooted_next w.index w.names names_made d driver_made w.home.timers rs s0.sleepers.items reg.id.0 waiter_made record_made one w.home.deferred named sound.rooted);
        bare = λ h. absurd (false≢true h);
      }

  -- one that is late needs no permit
  pub late_plain : is_late (deadline_of q) w.moments.sampled ≡ true → is_durable (asked_of q).kind ≡ false
  late_plain = grind arith

  -- NOW, late or not

  pub driver_late : is_late (deadline_of q) w.moments.sampled ≡ true
      → driver_of reg.mid ≡ record driver_made { requests = finished driver_made.requests reg.id.0 waiter_made timed_out None; lists = withdrawn reg.id driver_made.lists }
  driver_late late = driver_is ∙ placed_late (driver_of reg.mid) (driver_of w) reg.id q w.moments.sampled late

  number_made : number_in w'.names.requests.items reg.id.0 ≡ length s0.requests.items
  number_made = get_or_from_slice_get w'.names.requests.items reg.id.0.index (length s0.requests.items) 0 reg.names.number_is

  pub made_early : is_late (deadline_of q) w.moments.sampled ≡ false → reg.made ≡ record_made
  made_early = grind arith

  pub made_late : is_late (deadline_of q) w.moments.sampled ≡ true → reg.made ≡ record record_made { shown = resolved (Failure Timeout) record_made.shown }
  made_late = grind arith

  abbrev pub worker_now : Worker
  worker_now = record w { place = Place.Callbacks InCallbacks.TakeBatch AfterCallbacks.Look; names = w'.names; home = record w.home { deferred = reg.mid.home.deferred } }

  keeps_early : is_late (deadline_of q) w.moments.sampled ≡ false → KeepsBy worker_made driver_made w.home.timers (s0.requests.items ++ record_made ∷ []) s0.sleepers.items shared_made
      → KeepsBy worker_now (driver_of reg.mid) w.home.timers (s0.requests.items ++ reg.made ∷ []) s0.sleepers.items shared_made
  keeps_early late keeps =
      let none : outcome_if_late w.moments.sampled (deadline_of q) ≡ None = late_is w.moments.sampled (deadline_of q) ∙ ap (λ b. if b then Some (Failure Timeout) else None) late in
      let driver : driver_of reg.mid ≡ driver_made = driver_is ∙ placed_queued (driver_of reg.mid) (driver_of w) reg.id q w.moments.sampled late in
      let made : reg.made ≡ record_made = made_early late in
      let names : names_made ≡ w'.names = ap (λ x. record w'.names { ended = x }) (sym (reg.names.untouched (ap is_some none))) in
      let tells : Tells reg.takes.mid.home.deferred reg.mid.home.deferred nothing_told =
      subst (λ x. Tells reg.takes.mid.home.deferred reg.mid.home.deferred x) (ap (λ b. if b then told_by_finish reg.id.0 waiter_made timed_out None else nothing_told) late) tells_now in
      let untold : KeepsBy (record worker_made { home = record worker_made.home { deferred = reg.mid.home.deferred } }) driver_made w.home.timers (s0.requests.items ++ record_made ∷ []) s0.sleepers.items shared_made =
      keeps_untold worker_made driver_made w.home.timers (s0.requests.items ++ record_made ∷ []) s0.sleepers.items shared_made reg.mid.home.deferred tells keeps in
      subst (λ n. KeepsBy (record w { place = there; names = n; home = record w.home { deferred = reg.mid.home.deferred } }) (driver_of reg.mid) w.home.timers (s0.requests.items ++ reg.made ∷ []) s0.sleepers.items shared_made) names
      (subst (λ x. KeepsBy (record w { place = there; names = names_made; home = record w.home { deferred = reg.mid.home.deferred } }) x w.home.timers (s0.requests.items ++ reg.made ∷ []) s0.sleepers.items shared_made) (sym driver)
      (subst (λ r. KeepsBy (record w { place = there; names = names_made; home = record w.home { deferred = reg.mid.home.deferred } }) driver_made w.home.timers (s0.requests.items ++ r ∷ []) s0.sleepers.items shared_made) (sym made) untold))

  keeps_late : (is_durable (asked_of q).kind ≡ true → operation.seen ≡ seen_in q) → is_late (deadline_of q) w.moments.sampled ≡ true → KeepsBy worker_made driver_made w.home.timers (s0.requests.items ++ record_made ∷ []) s0.sleepers.items shared_made
      → KeepsBy worker_now (driver_of reg.mid) w.home.timers (s0.requests.items ++ reg.made ∷ []) s0.sleepers.items shared_made
  keeps_late covers late keeps =
      let one = one_comes covers in
      let rs = s0.requests.items in
      let outcome : Outcome = Failure Timeout in
      let f : Record → Record = λ x. record x { shown = resolved outcome x.shown } in
      let some : outcome_if_late w.moments.sampled (deadline_of q) ≡ Some outcome = late_is w.moments.sampled (deadline_of q) ∙ ap (λ b. if b then Some (Failure Timeout) else None) late in
      let driver = driver_late late in
      let made : reg.made ≡ f record_made = made_late late in
      let told = output_of q timed_out None in
      let tl = told_by_finish reg.id.0 waiter_made timed_out None in
      let tells : Tells reg.takes.mid.home.deferred reg.mid.home.deferred tl =
      subst (λ x. Tells reg.takes.mid.home.deferred reg.mid.home.deferred x) (ap (λ b. if b then told_by_finish reg.id.0 waiter_made timed_out None else nothing_told) late) tells_now in
      let at_id = is_here w.index w.names names_made (driver_of w) driver_made w.home.timers rs s0.sleepers.items reg.id.0 waiter_made record_made one in
      let small : reg.id.0.generation < 2 ^ 64 = (keeps.known.past (length rs) record_made (got_new rs record_made) refl).0 in
      let ends : OneEnds names_made driver_made (driver_of reg.mid).requests (rs ++ record_made ∷ []) reg.id.0 waiter_made record_made f outcome told = record {
        at = at_id;
        there = ap (slice_get (rs ++ record_made ∷ [])) number_made ∙ got_new rs record_made;
        slab = subst (λ x. SlabAfter driver_made.requests x reg.id.0 waiter_made told) (sym (ap (λ x. x.requests) driver)) (slab_after driver_made.requests reg.id.0 waiter_made timed_out None small at_id);
        ends = record { same = refl };
        less = leaves_all record_made outcome (first_waits operation.kind).0 (first_waits operation.kind).1;
      } in
      let ended : w'.names.ended.items ≡ reg.mid.names.ended.items ++ number_in w'.names.requests.items reg.id.0 ∷ [] =
      reg.names.ended ∙ ap (λ b. if b then reg.mid.names.ended.items ++ length rs ∷ [] else reg.mid.names.ended.items) (ap is_some some) ∙ ap (λ n. reg.mid.names.ended.items ++ n ∷ []) (sym number_made) in
      let p = one.plain in
      let over : KeepsBy worker_now (driver_of reg.mid) w.home.timers (changed_at (rs ++ record_made ∷ []) (number_in w'.names.requests.items reg.id.0) f) s0.sleepers.items shared_made =
      keeps_ended worker_made shared_made driver_made (driver_of reg.mid) w.home.timers (rs ++ record_made ∷ []) s0.sleepers.items reg.id.0 waiter_made record_made f outcome told there w'.names reg.mid.home.deferred tl ends keeps
      (ends_told reg.id.0 waiter_made timed_out None record_made.shown.forwarding refl) tells ended reg.names.capacity refl
      (record { bounded = p.bounded; moved = p.moved; deadline = p.deadline })
      (λ h. sym (tells_error q Timeout (late_some (deadline_of q) w.moments.sampled late)))
      (ap (λ x. x.ring) driver) (ap (λ x. x.armed) driver) (ap (λ x. x.lists) driver) (ap (λ x. x.wheel.start) driver) (ap (λ x. x.wheel.tick) driver)
      (reg.takes.punctual (subst (λ (x : Driving Reply Reply). IsPunctual x) (sym driver_was) sound.due.punctual))
      (λ h. ap (λ x. x.lists.due) driver ∙ ap (without reg.id) (one.due ∙ sound.due.told refl))
      (subst (λ (x : Driving Reply Reply). IsWheelAt s0.config w.moments.start (wheel_moment None w.moments) x.wheel) (sym driver) sound.due.wheel)
      (subst (λ (x : Driving Reply Reply). TurnsAlike driver_made.wheel x.wheel) (sym driver) (alike_self driver_made.wheel))
      refl refl in
      subst (λ r. KeepsBy worker_now (driver_of reg.mid) w.home.timers (rs ++ r ∷ []) s0.sleepers.items shared_made) (sym made)
      (subst (λ xs. KeepsBy worker_now (driver_of reg.mid) w.home.timers xs s0.sleepers.items shared_made) (changed_last rs record_made f (number_in w'.names.requests.items reg.id.0) number_made) over)

  pub keeps_now : (is_durable (asked_of q).kind ≡ true → operation.seen ≡ seen_in q) → KeepsBy worker_now (driver_of reg.mid) w.home.timers (s0.requests.items ++ reg.made ∷ []) s0.sleepers.items (record s0 { opens = s'.opens; store = s'.store })
  keeps_now covers = by (is_late (deadline_of q) w.moments.sampled) refl
    where
      by : (b : Bool) → is_late (deadline_of q) w.moments.sampled ≡ b → KeepsBy worker_now (driver_of reg.mid) w.home.timers (s0.requests.items ++ reg.made ∷ []) s0.sleepers.items shared_made
      by false late = keeps_early late (keeps_made covers)
      by true late = keeps_late covers late (keeps_made covers)
