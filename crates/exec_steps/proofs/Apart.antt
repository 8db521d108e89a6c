-- A STEP OF ANOTHER PARTY keeps what is sound of a worker: it leaves what the worker alone touches, and of what is shared
-- what it relies on.
use Rattle.std.proofs.{Common.{◌≡◌, ℕ, ◌*◌, ◌^◌, ◌<◌, ◌≤◌, ◌&&◌, Bool, true, false, Contains, [], length, option_to_list, Option, Some, None, sym, ap, subst, ◌∙◌, ⊎_elim, arith, inl, inr, slice_get, ◌+◌}, lemmas.{Bool.cases_lt, Option.slice_get_within}}
use Rattle.exec_base.specs.{Slab.IsPast, declared.slab.Id.Id}
use Rattle.exec_request.specs.declared.request.Request.{Request as Asking}
use Rattle.exec_waiters.specs.{Ids.user_data_of, States.{pending_count, waiter_at}, declared.waiter.Waiter.Waiter}
use Rattle.exec_driver.specs.Footprints.{bytes_left}
use Rattle.exec_task.specs.{TaskSet.{shard_at, Set}, declared.runnable.Runnable.Runnable}
use Rattle.exec_machine.specs.{declared.state.Waiting.Waiting, Tests.{has_ended, is_open}}
use Rattle.exec_moves.specs.{Seen.polls_at, declared.place.{InClosing.InClosing, InPoll.InPoll, Place.Place}}
use Rattle.exec_parts.{specs.{declared.parts.{mail.{Reply.Reply, Subject.Subject}, record.Record.Record, seat.Seat.Seat as Chair, shared.Shared.Shared, task_slot.TaskSlot.TaskSlot, worker.Worker.Worker}, Phased.{IsPhased, IsPrepared, closes_at, closing_in, has_left, has_stopped, root_over, stage_of}, Records.number_in, MailPosts.IsMailbox, View.driver_of}, proofs.Facts.by_number}
use Rattle.exec_polling.specs.Calling.{HoldsForAll}
use Rattle.exec_invariants.{specs.{Carried.{Carried, HasStretchFor, IsUnderWay}, Due.IsDue, Gates.{IsKnown, has_hint_at, may_ask_hint}, Holding.Mail, HoldPlaces.{cancels_at, heard_at, sends_cancel_at}, Places.{begins_at, is_armed_at, is_pooled_at, polled_in, step_of_poll}, Sound.{AreHome, HasGuest, HasLetters, HasQueue, HasRunnable, IsGuest, IsHeld, IsInTime, IsMyMail, IsSeated, IsTied, SoundAt, Stops, StopsIn, root_in_hand, served_in}, Spares.{Spares, SparesChair, SparesMore, SparesRecord}, Whole.IsGenuine}, proofs.{Dedicated.{by_length, chair_of_pool}, Spared.{KeepsMine, asleep_apart, flown_apart, heard_apart, letter_apart, mail_apart, named_apart, over_apart, record_back, rooted_apart, stops_apart, timed_apart}, SparedRecord.{sleepers_stay, live_of, there_within}}}
use Rattle.exec_steps.proofs.ApartQueues.{queue_apart, aims_apart}

-- WHERE A CLOSING IS

-- it drains the set, or has
abbrev is_drain : Option InClosing → Bool
is_drain (Some (InClosing.Visit drain)) = true
is_drain (Some (InClosing.Clear t drain)) = true
is_drain (Some InClosing.LeaveBarrier) = true
is_drain _ = false

closes_drain : (p : Place) → is_drain (closing_in p) ≡ true → closes_at p ≡ true
closes_drain = grind arith

drains_pool : (p : Place) → is_drain (closing_in p) ≡ true → is_pooled_at p ≡ true
drains_pool = grind arith

drain_says : (x : Option InClosing) (closes : Bool) → closes ≡ true → is_drain x ≡ true → (root_over closes x ≡ true) × (has_stopped closes x ≡ true)
drain_says = grind arith

prepared_apart : (x : Option InClosing) (unreleased : ℕ) (set set' : Set (Unit {0})) → length set'.shards ≡ length set.shards → (is_drain x ≡ true → (k : ℕ) → shard_at set k ≡ [] → shard_at set' k ≡ []) → IsPrepared x unreleased set → IsPrepared x unreleased set'
prepared_apart = grind arith

module _ {B : Type 0} where
  -- with as many workers or more
  pub with_more : (j : ℕ) (s s' : Shared B) → Spares j s s' → SparesMore j s s'
  with_more j s s' spares = let many : length s.seats.items ≤ length s'.seats.items = by_length spares.many in assumption (many, spares)

  pub holds_for_all : (p : Place) (w : Worker) (s : Shared B) → SoundAt p w s → HoldsForAll s
  holds_for_all p w s sound =
      record {
        homes = sound.homes;
        resting = sound.resting;
        owning = sound.flown.owning;
        closed = (sound.phased sound.seated.seat sound.seated.there).closed;
        few = sound.known.few;
      }

  -- THE TASK THAT IS POLLED

  guest_apart : (polls : Option ℕ) (x : InPoll) (i root : ℕ) (s s' : Shared B) → SparesMore i s s' → HasGuest polls x i root s.tasks.items → HasGuest polls x i root s'.tasks.items
  guest_apart None x i root s s' spares h = tt
  guest_apart (Some t) x i root s s' spares h = λ other.
      let was = h other in
      let guest = was.2 in
      let now = spares.polled t was.0 was.1 guest.polled guest.poller in
      let slot = was.0 in
      let sp = now.2 in
      let still : IsGuest x i (record slot { cell = now.0.cell; cleared = now.0.cleared; fresh = now.0.fresh; output = now.0.output }) = grind arith in
      (now.0, now.1, subst (IsGuest x i) (sym sp.kept) still)

  -- ALL

  module _ (p : Place) (w : Worker) (s s' : Shared B) (sound : SoundAt p w s) (spares : SparesMore w.index s s') where
    mine : KeepsMine w.index s.requests.items s'.requests.items s.sleepers.items s'.sleepers.items
    mine = record { records = spares.records; records_only = spares.records_only; sleepers = spares.sleepers; sleepers_only = spares.sleepers_only }

    -- the root's slot
    root_there : slice_get s'.tasks.items w.root ≡ Some sound.runnable.root
    root_there = spares.root w.root sound.runnable.root sound.runnable.there sound.runnable.home

    root_back : (slot : TaskSlot B) → slice_get s'.tasks.items w.root ≡ Some slot → slice_get s.tasks.items w.root ≡ Some slot
    root_back slot there = sound.runnable.there ∙ sym root_there ∙ there

    -- the own chair, then and now
    record Own : Type 0 where
      was : Chair
      is : Chair
      there : slice_get s.seats.items w.index ≡ Some was
      here : slice_get s'.seats.items w.index ≡ Some is
      spared : SparesChair was is

    own : Own
    own =
        let now = spares.chair sound.seated.seat sound.seated.there in
        record { was = sound.seated.seat; is = now.0; there = sound.seated.there; here = now.1; spared = now.2 }

    -- what holds of the chair now
    of_chair : (P : Chair → Type 0) → P own.is → (chair : Chair) → slice_get s'.seats.items w.index ≡ Some chair → P chair
    of_chair P h chair there =
        let is : own.is ≡ chair = cc (own.here, there) in
        subst P is h

    seated_apart : IsSeated w.index (is_armed_at p) s.config.workers s'.seats.items
    seated_apart =
        let was : sound.seated.seat ≡ own.was = cc (sound.seated.there, own.there) in
        record {
          many = omega (arith, spares.many, sound.seated.many);
          seat = own.is;
          there = own.here;
          pool = own.spared.pool ∙ ap (λ (c : Chair). c.pool) (sym was) ∙ sound.seated.pool;
          unarmed = λ h. own.spared.target ∙ ap (λ c. c.mailbox.waker.target) (sym was) ∙ sound.seated.unarmed h;
          mail = own.spared.mail (subst (λ c. IsMailbox c.mailbox) was sound.seated.mail);
        }

    runnable_apart : HasRunnable w.index w.root w.root_ready (root_in_hand (begins_at p) w.root w.hand) s'.tasks.items
    runnable_apart =
        let r = sound.runnable in
        record { root = r.root; there = root_there; home = r.home; number = r.number; once = r.once; one = r.one }

    held_apart : (r : Runnable) → IsHeld (begins_at p) w.root s.tasks.items r → IsHeld (begins_at p) w.root s'.tasks.items r
    held_apart r held =
        elim held [
          | inl begins ↦ inl begins
          | inr genuine ↦ inr (spares.genuine r genuine)
        ]

    -- the set is closed where it is drained
    set_shut : is_drain (closing_in p) ≡ true → s.set.closed ≡ true
    set_shut drains =
        let was = sound.phased own.was own.there in
        let closes = closes_drain p drains in
        let facts = drain_says (closing_in p) (closes_at p) closes drains in
        was.closed (by_number w.index 0 (λ other. was.by_other (omega (arith, other)) (chair_of_pool p w s sound own.was own.there ∙ sound.pooled (drains_pool p drains)) facts.0) (λ same. (was.by_zero same).0 ∙ facts.1))

    phased_apart : HoldsForAll s' → IsPhased w.index (closes_at p) (closing_in p) w.home.closing w.root w.names.unreleased (stage_of own.is s') s'.tasks.items
    phased_apart all =
        let was = sound.phased own.was own.there in
        let chair = own.spared in
        record {
          told = was.told;
          opened = ap is_open chair.phase ∙ was.opened;
          ended = λ h. was.ended (sym (ap has_ended chair.phase) ∙ h);
          root = λ slot there. was.root slot (root_back slot there);
          left = chair.left ∙ was.left ∙ ap (λ b. b && has_left (closes_at p) (closing_in p)) (sym chair.pool);
          shut = chair.closed ∙ was.shut;
          by_zero = λ zero_is.
              let still = spares.by_zero zero_is in
              let old = was.by_zero zero_is in
              (still.0 ∙ old.0, still.1 ∙ old.1);
          by_other = λ other of_pool over. spares.stopped (was.by_other other (sym chair.pool ∙ of_pool) over);
          closed = all.closed;
          prepared = prepared_apart (closing_in p) w.names.unreleased s.set s'.set spares.shards (λ drains. spares.emptied (set_shut drains)) was.prepared;
        }

    due_apart : IsDue (served_in p) w.home.closing w.index w.moments s.config w.names (driver_of w) w.home.timers s'.requests.items s'.sleepers.items
    due_apart =
        assumption (timed_apart w.index s.requests.items s'.requests.items s.sleepers.items s'.sleepers.items mine w.names (driver_of w) w.home.timers sound.named sound.due.timed, asleep_apart w.index s.requests.items s'.requests.items s.sleepers.items s'.sleepers.items mine w.names (driver_of w) w.home.timers sound.named sound.due.asleep (sleepers_stay s.sleepers.items s'.sleepers.items spares.endure_too), sound.due)

    request_back : (id : Id) (it : Waiter Reply Reply) (r : Record) → waiter_at (driver_of w).requests id ≡ Some it → slice_get s'.requests.items (number_in w.names.requests.items id) ≡ Some r
        → (x : Record) × (slice_get s.requests.items (number_in w.names.requests.items id) ≡ Some x) × SparesRecord x r
    request_back id it r live there =
        record_back w.index s.requests.items s'.requests.items s.sleepers.items s'.sleepers.items mine w.names (driver_of w) w.home.timers sound.named id r (live_of (driver_of w).requests id it live) there

    stretch_apart : (q : Asking) → HasStretchFor q s.store → HasStretchFor q s'.store
    stretch_apart (Asking.WriteAt x) h = λ writes. spares.stretch x.file x.offset (bytes_left x.write) (h writes)
    stretch_apart q h = tt

    carried_apart : Carried w s'
    carried_apart =
        let c = sound.carried in
        record {
          slots = c.slots;
          whole = c.whole;
          target = λ id it r live there.
              let old = request_back id it r live there in
              ap (λ (x : Record). x.shown.operation.target) old.2.kept ∙ c.target id it old.0 live old.1;
          carried = λ id it r live there.
              let old = request_back id it r live there in
              subst (λ x. IsUnderWay x (user_data_of id) it.request (driver_of w).ring) (sym (ap (λ (x : Record). x.shown.phase) old.2.kept)) (c.carried id it old.0 live old.1);
          nobody = c.nobody;
          room = spares.room c.room;
          stretch = λ id it live. stretch_apart it.request (c.stretch id it live);
        }

    as_many_records : length s.requests.items ≤ length s'.requests.items
    as_many_records =
        ⊎_elim
        (λ (less : length s'.requests.items < length s.requests.items).
        let x = there_within s.requests.items (length s'.requests.items) less in
        let now = spares.endure (length s'.requests.items) x.0 x.1 in
        let within = slice_get_within s'.requests.items (length s'.requests.items) now.0 now.1 in
        absurd (omega (arith, within)))
        (λ (most : length s.requests.items ≤ length s'.requests.items). most)
        (cases_lt (length s'.requests.items) (length s.requests.items))

    known_apart : HoldsForAll s' → IsKnown w.index w.names.requests.items (driver_of w).requests s'.opens s'.requests.items
    known_apart all =
        record {
          past = λ k r there own.
              let old = spares.records_only k r there own in
              subst (λ (x : Record). (x.id.0.generation < 2 ^ 64) × IsPast (driver_of w).requests x.id.0) (sym old.2.kept) (sound.known.past k old.0 old.1 (sym (ap (λ (x : Record). x.shown.worker) old.2.kept) ∙ own));
          counted = λ id past. (let below = sound.known.counted id past in omega (arith, below, as_many_records));
          few = all.few;
          hints = λ id it r live there asks unrefused gone.
              let old = request_back id it r live there in
              let target : r.shown.operation.target ≡ old.0.shown.operation.target = ap (λ (x : Record). x.shown.operation.target) old.2.kept in
              let was = sound.known.hints id it old.0 live old.1 (sym (ap (λ (x : Record). may_ask_hint x.shown.operation.kind) old.2.kept) ∙ asks) (sym (ap (λ (x : Record). x.shown.operation.unrefused) old.2.kept) ∙ unrefused) gone in
              spares.hints r.shown.operation.target (ap (has_hint_at s.opens) target ∙ was);
        }

    letters_apart : HasLetters (sends_cancel_at p) (cancels_at p) w.index s.config.workers w.letters s'.requests.items s'.sleepers.items
    letters_apart =
        let l = sound.letters in
        record {
          some = l.some;
          none = l.none;
          requests = λ h has. letter_apart s.requests.items s'.requests.items s.sleepers.items s'.sleepers.items spares.endure spares.endure_too s.config.workers w.index (Subject.Request h.number) h.worker (l.requests h has);
          timer = λ h is. letter_apart s.requests.items s'.requests.items s.sleepers.items s'.sleepers.items spares.endure spares.endure_too s.config.workers w.index (Subject.Timer h.number) h.worker (l.timer h is);
        }

    stops_still : (x : InPoll) (u : Waiting) → StopsIn x w.index u s.requests.items s.sleepers.items → StopsIn x w.index u s'.requests.items s'.sleepers.items
    stops_still x u h = stops_apart s.requests.items s'.requests.items s.sleepers.items s'.sleepers.items spares.endure spares.endure_too x w.index mine u h

    -- what the task that is polled waits for stays
    stops_apart_at : (polls : Option ℕ) (x : InPoll) → HasGuest polls x w.index w.root s.tasks.items → Stops polls x w.index s.tasks.items s.requests.items s.sleepers.items → Stops polls x w.index s'.tasks.items s'.requests.items s'.sleepers.items
    stops_apart_at None x guest stops = tt
    stops_apart_at (Some t) x guest stops = λ slot' there'.
        by_number t w.root
        (λ other.
        let was = guest other in
        let now = spares.polled t was.0 was.1 was.2.polled was.2.poller in
        let is : now.0 ≡ slot' = cc (now.1, there') in
        let waits : slot'.waiting ≡ was.0.waiting = ap (λ (y : TaskSlot B). y.waiting) (sym is) ∙ ap (λ (y : TaskSlot B). y.waiting) now.2.kept in
        subst (λ u. StopsIn x w.index u s'.requests.items s'.sleepers.items) (sym waits) (stops_still x was.0.waiting (stops was.0 was.1)))
        (λ same.
        let back = root_back slot' (subst (λ n. slice_get s'.tasks.items n ≡ Some slot') same there') in
        stops_still x slot'.waiting (stops slot' (subst (λ n. slice_get s.tasks.items n ≡ Some slot') (sym same) back)))

    -- What is sound of a worker stays so.
    pub apart : HoldsForAll s' → SoundAt p w s'
    apart all =
        let time : IsInTime w.moments w.slept s'.clock = rw spares.clock sound.time in
        let homes = subst (λ c. AreHome c.workers (length s'.seats.items) s'.tasks.items) spares.config all.homes in
        let held : (r : Runnable) → Contains (option_to_list w.hand) r → IsHeld (begins_at p) w.root s'.tasks.items r = λ r has. held_apart r (sound.genuine r has) in
        let stolen : (r : Runnable) → Contains w.loot.values r → IsGenuine s'.tasks.items r = λ r has. spares.genuine r (sound.stolen r has) in
        let my_mail : (m : Mail) → Contains w.batch.values m → IsMyMail s.config.workers w.index m s'.requests.items s'.sleepers.items = λ m has. mail_apart s.requests.items s'.requests.items s.sleepers.items s'.sleepers.items spares.endure spares.endure_too s.config.workers w.index m (sound.mine m has) in
        let tied : IsTied (polled_in w.root p) w.index w.root s'.tasks.items = record { stands = λ slot there. sound.tied.stands slot (root_back slot there) } in
        let batch_place = of_chair (λ chair. chair.mailbox.inbox.closed ≡ false → 2 * chair.made + 1 ≤ w.batch.places)
        (λ opened. subst (λ n. 2 * n + 1 ≤ w.batch.places) (sym own.spared.made) (sound.batch_place own.was own.there (sym own.spared.closed ∙ opened))) in
        subst (λ c. SoundAt p w (record s' { config = c })) (sym spares.config)
        (assumption (
          time,
          homes,
          spares.gates sound.gates,
          known_apart all,
          spares.shards ∙ sound.shards,
          named_apart w.index s.requests.items s'.requests.items s.sleepers.items s'.sleepers.items mine w.names (driver_of w) w.home.timers sound.named,
          runnable_apart,
          seated_apart,
          of_chair (λ chair. HasQueue p chair.queue) (queue_apart p own.was.queue own.is.queue own.spared.queue (sound.queue own.was own.there)),
          held,
          stolen,
          aims_apart p s.config w.index s.seats.items s'.seats.items spares.many sound.seated.many spares.tails sound.aims,
          guest_apart (polls_at p) (step_of_poll p) w.index w.root s s' spares sound.guest,
          over_apart w.index s.requests.items s'.requests.items s.sleepers.items s'.sleepers.items mine w.names.ended.items w.names.unreleased (pending_count (driver_of w).requests) sound.over,
          my_mail,
          tied,
          batch_place,
          letters_apart,
          due_apart,
          flown_apart w.index s.requests.items s'.requests.items s.sleepers.items s'.sleepers.items mine w.names (driver_of w) w.home.timers sound.named (served_in p) all.owning sound.flown,
          carried_apart,
          rooted_apart w.index s.requests.items s'.requests.items s.sleepers.items s'.sleepers.items mine w.names (driver_of w) w.home.timers sound.named w.home.deferred sound.rooted,
          stops_apart_at (polls_at p) (step_of_poll p) sound.guest sound.stops,
          heard_apart w.index s.requests.items s'.requests.items s.sleepers.items s'.sleepers.items mine (heard_at p) sound.hears,
          of_chair (λ chair. IsPhased w.index (closes_at p) (closing_in p) w.home.closing w.root w.names.unreleased (stage_of chair s') s'.tasks.items) (phased_apart all),
          all,
          sound,
        ))
