-- A POLLED TASK WAITS for the newest request that it holds, which its worker has and which isn't over.
use Rattle.std.proofs.{Common.{◌≡◌, ◌≢◌, ◌⊎◌, inl, inr, ℕ, ◌+◌, ◌≤◌, ◌==◌, Bool, true, false, not, List, [], length, map, Option, Some, None, option_map, refl, sym, ap, subst, ◌∙◌, arith, slice_get, slice_set}, lemmas.{Bool.{false≢true, eq-eqb}, List.{map-set, set-set}, Option.slice_get-map}}
use Rattle.exec_base.specs.{Slab.{live_count, value_at, written}, declared.{one_shot.OneShotState.TheVariants.Open, slab.Id.Id}}
use Rattle.exec_words.specs.declared.inbox.Message.{Message}
use Rattle.exec_ring.specs.Rings.{completions}
use Rattle.exec_waiters.{specs.{Events.{changed, changed_from, with_waker}, States.{flying_count, is_held_by, waiter_at}, declared.{observer.Observer.TheVariants.{Forwarded}, waiter.{Entry.{TheVariants.Pending}, Waiter.Waiter}}}, proofs.Changes.{entry_of, one_if}}
use Rattle.exec_driver.specs.{Driving.Driving, Punctual.IsPunctual}
use Rattle.exec_task.specs.{Phases.is_polled, Sight.Sight, declared.body.{Act.Act, Said.Said}}
use Rattle.exec_machine.specs.{declared.{config.ScriptWord.ScriptWord, event.Event.{Event, TheVariants.Wait}, state.{Forwarding.{TheVariants.Unsent}, MailMessage.TheVariants.ForwardRequest, RequestPhase.RequestPhase, Waiting.Waiting}}, Choice.Choice.Plain, Progress.Plan, Same.is_number, Tasks.{waits_for, without_newest}, Tests.{is_resolved, is_unsent}, Words.{asks_await, moved_on, newest_held, next_word}, World.{Common, Own, Task, request_of, task_of}}
use Rattle.exec_moves.specs.{declared.{handing.AfterSend.AfterSend, place.{InPoll.InPoll, Place.Place}}, Move.move_look_at, Poll.{Sight.{Asks, HearsRequest}, await, sight_by, stops}, State.{Desk, Moved, Things, does}, Thing.aside, Told.awaits}
use Rattle.exec_parts.{specs.{declared.parts.{mail.{Reply.Reply, Subject.Subject}, record.Record.Record, shared.Shared.Shared, task_slot.TaskSlot.TaskSlot, worker.Worker.Worker}, Awaits.{BeganWait, awaited_by, newest_of}, Records.{number_in, numbers_held}, Scripts.{IsAnswer, IsAnswered, held_after}, Serving.{changed_at, changed_in}, Spots.Spot, View.{Views, awaited_from, common_of, desk_of, driver_of, numbers_of, numbers_of_passing, own_of, slots_seen, task_seen, things_with, trailing, visible, with_view}}, proofs.Facts.{same_Some, set_there}}
use Rattle.exec_invariants.{specs.{Acting.{HasActed, StepsOf}, Due.IsDue, Flown.HasFlown, Hearing.CanHear, Holding.{Box, Holder, IsForwarded, IsHolding, Mail, awaited_in, box_of, holder_of, nap_of, thing_of, under_way}, HoldPlaces.{has_wakes_at, is_bare_at}, Names.{IsAlike, tellers}, Sound.{MayStop, SoundAt, served_in}, Whole.{HasWhole, Profile, hands_of, with_worker}, Works.{Beside, Suits, Works}}, proofs.{Acting.{IsActor, actor, acts_so, moved_seen}, Changing.{changes_one, live_still, pending_still}, HeldCounts.held_written, Here.{IsHere, going_on, polled_here}, HoldBeside.Holds, HoldWaits.thing_awaited, Keys.{name_in, names_changed, same_gates, same_opens}, LetRooted.{Rewaits, keeps_watched}, Lined.{opens_same, passing_same}, Orders.alike_self, Pending.in_poll, Performing.{performs_on, still_performs}, Resolving.places_fewer, Seen.request_at, ServingHolds.KeepsBy, Serving.spares_one, Slots.task_there, Slotted.slots_written, SparedRecord.there_within, TaskDeals.{Dealt, ends as to_end, from_act}, TaskGets.ring_seen, TaskHears.thing_there, TaskHomes.{Homes, beside_goes, sound_goes}, TaskNewest.{StillPends, newest_unsent, still_pends}, TaskTakes.{holder_there, holders_one}, TaskWants.{HoldsNewest, newest_is}, Turning.{set_found, view_found}, Watching.{Watched, still_pending, watched}, AsksEnds.is_unsent_so, LetShown.same_flight}}
use Rattle.exec_polling.proofs.{SlotAwaits.awaited_more, TaskAwaits.await_looks}

awaits_by : (t k : ℕ) (s : Common) (d : Desk) (it : Task) (p : RequestPhase) → (request_of s k).phase ≡ p → is_resolved p ≡ false → await t s d it (Some k) ≡ does (Wait (Some k)) (stops t (awaits k d)) it
awaits_by = grind arith

-- the task waits at the driver from now on
alike_awaited : (start tick t : ℕ) (it : Waiter Reply Reply) (r : Record) → r.shown.observed ≡ true → is_unsent r.shown.forwarding ≡ true → IsAlike start tick it r.shown → IsAlike start tick (with_waker (record { 0 = t }) it) (awaited_by t r).shown
alike_awaited = grind arith

not_elsewhere : (t : ℕ) (it y : Waiter Reply Reply) (reply : Reply) → Some (with_waker (record { 0 = t }) it) ≡ Some y → y.observer ≡ Forwarded reply → ⊥
not_elsewhere = grind arith

abbrev desk_with : Worker → ℕ → Driving Reply Reply → Desk
desk_with w t y =
    record (desk_of w) {
      place = Place.Poll t InPoll.Pend;
      requests = slots_seen w.names.requests.items y.requests;
      awaited = awaited_from 0 w.names.requests.items y.requests.slots;
      entries = length y.ring.staged;
      polled = y.armed;
      others = trailing 0 (completions y.ring);
    }

abbrev own_with : Worker → ℕ → Driving Reply Reply → Own
own_with w t y =
    record (own_of (record w { place = Place.Poll t InPoll.Pend })) {
      ready = numbers_of w.names.requests.items y.lists.queued;
      unenrolled = numbers_of w.names.requests.items y.lists.enrolments;
      cancels = numbers_of w.names.requests.items y.lists.cancels;
      in_flight = flying_count y.requests;
    }

module _ {B : Type 0} where
  abbrev pub waits_slot : TaskSlot B → B → ℕ → TaskSlot B
  waits_slot slot b' k = record slot { body = Some b'; told = None; waiting = Waiting.Request k }

  pub record BeginsWait (t k : ℕ) (w w' : Worker) (s s' : Shared B) (slot : TaskSlot B) (b' : B) (r : Record) : Type 0 where
    pub there : slice_get s.tasks.items t ≡ Some slot
    pub newest : newest_of slot ≡ Some k
    pub waits : slot.waiting ≡ Waiting.Nothing
    pub polled : is_polled slot.cell.phase ≡ true
    pub request : slice_get s.requests.items k ≡ Some r
    pub holds : HoldsNewest t k s slot r
    pub unsent : is_unsent r.shown.forwarding ≡ true
    pub mine : r.shown.worker ≡ w.index
    pub going : is_resolved r.shown.phase ≡ false
    pub pends : StillPends k r w
    pub worker : w' ≡ record w { place = Place.Poll t InPoll.Pend; home = record w.home { driver = w'.home.driver } }
    pub driver : driver_of w' ≡ record (driver_of w) { requests = written (driver_of w).requests r.id.0 (Pending (with_waker (record { 0 = t }) pends.it)) }
    pub punctual : IsPunctual (driver_of w) → IsPunctual (driver_of w')
    pub requests : s'.requests.items ≡ slice_set s.requests.items k (awaited_by t r)
    pub tasks : s'.tasks.items ≡ slice_set s.tasks.items t (waits_slot slot b' k)
    pub kept : s' ≡ record s { tasks = s'.tasks; requests = s'.requests }

  -- WHAT HOLDS THEN of the worker's own
  pub waits_homes : (t k : ℕ) (w w' : Worker) (s s' : Shared B) (slot : TaskSlot B) (b' : B) (r : Record) → SoundAt (Place.Poll t InPoll.Act) w s → BeginsWait t k w w' s s' slot b' r → Homes w (record w { home = record w.home { driver = w'.home.driver } }) s (record s { requests = s'.requests })
  waits_homes t k w w' s s' slot b' r sound by =
      let d = driver_of w in
      let n = w.names in
      let s0 = d.requests in
      let id = r.id.0 in
      let zs = w.home.timers in
      let rs = s.requests.items in
      let ss = s.sleepers.items in
      let left = w.home.deferred in
      let kk = number_in n.requests.items id in
      let v : Worker = record w { home = record w.home { driver = w'.home.driver } } in
      let s1 : Shared B = record s { requests = s'.requests } in
      let it = by.pends.it in
      let live = by.pends.live in
      let now = with_waker (record { 0 = t }) it in
      let f = awaited_by t in
      let at_number : slice_get rs kk ≡ Some r = ap (slice_get rs) by.pends.number ∙ by.request in
      let a = sound.named.alike id it r live at_number in
      let d' : Driving Reply Reply = record d { requests = written s0 id (Pending now) } in
      let rs1 = changed_at rs kk f in
      let keeps : KeepsBy w d zs rs ss s = record {
        told = sound.told;
        wide = sound.wide;
        named = sound.named;
        sized = sound.sized;
        over = sound.over;
        quiet = subst (λ p. has_wakes_at p ≡ false → left.notes.wakes.items ≡ []) (sym sound.here) sound.quiet;
        due = subst (λ p. IsDue (served_in p) w.home.closing w.index w.moments s.config w.names d zs rs ss) (sym sound.here) sound.due;
        flown = subst (λ p. HasFlown (served_in p) w.index w.names d rs) (sym sound.here) sound.flown;
        carried = sound.carried;
        known = sound.known;
        rooted = sound.rooted;
        bare = subst (λ p. is_bare_at p ≡ true → live_count zs ≡ 0) (sym sound.here) (λ h. absurd (false≢true h));
      } in
      let by_watch : Watched n d d' rs rs1 id r f = watched n d d' rs id it now r f live at_number refl refl by.going refl refl refl (λ y. y) (λ y. y) (λ j is. is) (alike_awaited d.wheel.start d.wheel.tick t it r by.holds.observed by.unsent a) refl refl refl refl (alike_self d.wheel) refl refl (λ x among. inl among) in
      let live_now : waiter_at d'.requests id ≡ Some now = by_watch_now id it now live in
      let to : Rewaits w.index n d d' zs left left rs rs1 ss id r f by_watch keeps.named = record {
        none = λ told ready. still_pending s0 d'.requests id it now live refl told ready;
        unkept = λ over. absurd (false≢true (sym by.going ∙ over));
        near = λ y reply at forwarded. not_elsewhere t it y reply (sym live_now ∙ at) forwarded;
        seen = λ h. h;
        still = refl;
        waiter = λ u h. ap (λ m. Some m) (sym (by.holds.waiter u h));
        results = λ x among. inl among;
        others = λ j apart. refl;
        sent = λ of_i. keeps.rooted.sent kk r at_number of_i;
        completions = refl;
      } in
      let pending = pending_still s0 id it now live in
      let lively = live_still s0 id it now live in
      let held = held_written s0 id (Pending it) (Pending now) (entry_of (value_at s0 id) it live) in
      let was_held : is_held_by it.observer ≡ true = sym a.observed ∙ by.holds.observed in
      let less : tellers d'.requests zs + 64 ≤ tellers d.requests zs + 64 = omega (arith, pending, held, ap one_if was_held) in
      let idle : served_in w.place ≡ None = ap served_in sound.here in
      let again : KeepsBy w d' zs rs1 ss s =
      keeps_watched w s d d' zs rs rs1 ss id r f left idle by_watch keeps to
      (places_fewer less keeps.told)
      (record { wakes = omega (arith, less, keeps.wide.wakes); completions = omega (arith, less, keeps.wide.completions); outputs = omega (arith, less, keeps.wide.outputs); resources = omega (arith, less, keeps.wide.resources); results = omega (arith, less, keeps.wide.results) })
      refl pending (subst IsPunctual by.driver (by.punctual sound.due.punctual)) (sound.due.told refl) sound.due.wheel in
      let records : rs1 ≡ s'.requests.items = ap (λ q. changed_at rs q f) by.pends.number ∙ ap (changed_in rs k f) by.request ∙ sym by.requests in
      let by_records : KeepsBy w d' zs s'.requests.items ss s = subst (λ xs. KeepsBy w d' zs xs ss s) records again in
      let by_driver : KeepsBy w (driver_of v) zs s'.requests.items ss s = subst (λ y. KeepsBy w y zs s'.requests.items ss s) (sym by.driver) by_records in
      record {
        worker = refl;
        shared = refl;
        spares = spares_one w.index s s1 k r f (opens_same s.opens s.opens rs sound.gates refl) (record { at = refl; over = λ h. h; sent = refl; forwarded = λ h. h }) (by.requests ∙ sym (ap (changed_in rs k f) by.request)) refl by.request by.mine (λ y. refl);
        keeps = assumption by_driver;
        wakes = refl;
      }
    where
      by_watch_now : (id : Id) (it now : Waiter Reply Reply) → waiter_at (driver_of w).requests id ≡ Some it → waiter_at (written (driver_of w).requests id (Pending now)) id ≡ Some now
      by_watch_now id it now live = (changes_one (driver_of w).requests id it now live).is_at

  -- and of what tasks hold
  pub waits_holds : (t k : ℕ) (w w' : Worker) (s s' : Shared B) (slot : TaskSlot B) (b' : B) (r : Record) → SoundAt (Place.Poll t InPoll.Act) w s → BeginsWait t k w w' s s' slot b' r → (others : Profile) → Holds (with_worker others w) s → Holds (with_worker others w) s'
  waits_holds t k w w' s s' slot b' r sound by others holds =
      let h = hands_of (with_worker others w) in
      let hs : List Holder = map holder_of s.tasks.items in
      let ts = map thing_of s.requests.items in
      let naps = map nap_of s.sleepers.items in
      let boxes = map box_of s.seats.items in
      let at_t = holder_there s.tasks.items t slot by.there in
      let at_r = thing_there s.requests.items k r by.request in
      let box = there_within boxes r.shown.worker (holds.of_worker k (thing_of r) at_r) in
      let slot' = waits_slot slot b' k in
      let same : r.shown.forwarding ≡ Unsent = is_unsent_so r.shown.forwarding by.unsent in
      let idle : (awaited_in slot.waiting ≡ None) ⊎ (awaited_in slot.waiting ≡ Some (Subject.Request k)) = inl (ap awaited_in by.waits) in
      let ordinary : true ≡ false → slot.home ≡ None = λ sent. absurd (false≢true (sym sent)) in
      let output : true ≡ false → slot.output ≡ Open = λ sent. absurd (false≢true (sym sent)) in
      let forwarded : (b : Box) → slice_get boxes r.shown.worker ≡ Some b → IsForwarded b.shut r.shown.forwarding (under_way h (Message.Forward (Subject.Request k)) boxes) → IsForwarded b.shut Unsent (under_way h (Message.Forward (Subject.Request k)) boxes) = grind arith in
      let mail : (m : Mail) → m ≢ Message.Forward (Subject.Request k) → h.mail m ≡ h.mail m = λ m apart. refl in
      let now : IsHolding h s.config.workers (slice_set hs t (holder_of slot')) (slice_set ts k (record (thing_of r) { waiter = Some t; forwarding = Unsent })) naps boxes =
      thing_awaited h h s.config.workers hs ts naps boxes t k (holder_of slot) (holder_of slot') (thing_of r) Unsent
      (search (at_t, at_r, by, going_on slot.cell.phase by.polled, idle, ordinary, output, forwarded, mail, holds.made, box.1)) holds in
      let awaited : IsHolding h s.config.workers (slice_set hs t (holder_of slot')) (slice_set ts k (thing_of (awaited_by t r))) naps boxes =
      subst (λ f. IsHolding h s.config.workers (slice_set hs t (holder_of slot')) (slice_set ts k (record (thing_of r) { waiter = Some t; forwarding = f })) naps boxes) (sym same) now in
      let tasks : map holder_of s'.tasks.items ≡ slice_set hs t (holder_of slot') = ap (map holder_of) by.tasks ∙ holders_one s.tasks.items t slot' in
      let things : map thing_of s'.requests.items ≡ slice_set ts k (thing_of (awaited_by t r)) = ap (map thing_of) by.requests ∙ map-set thing_of s.requests.items k (awaited_by t r) in
      let there : IsHolding h s.config.workers (map holder_of s'.tasks.items) (map thing_of s'.requests.items) naps boxes =
      subst (λ a. IsHolding h s.config.workers a (map thing_of s'.requests.items) naps boxes) (sym tasks)
      (subst (λ a. IsHolding h s.config.workers (slice_set hs t (holder_of slot')) a naps boxes) (sym things) awaited) in
      subst (Holds (with_worker others w)) (sym by.kept) there

  pub waits_deals : (t k : ℕ) (w w' : Worker) (s s' : Shared B) (slot : TaskSlot B) (b' : B) (r : Record) → BeginsWait t k w w' s s' slot b' r → Dealt InPoll.Pend w.index slot (waits_slot slot b' k) s'.requests.items s'.sleepers.items
  waits_deals t k w w' s s' slot b' r by =
      let stop : MayStop w.index (Waiting.Request k) s'.requests.items s'.sleepers.items = (awaited_by t r, ap (λ xs. slice_get xs k) by.requests ∙ set_there s.requests.items k (awaited_by t r) r by.request, inr (by.mine, by.going)) in
      grind arith

  -- WHAT IS SEEN
  pub waits_desk : (t k : ℕ) (w w' : Worker) (s s' : Shared B) (slot : TaskSlot B) (b' : B) (r : Record) → SoundAt (Place.Poll t InPoll.Act) w s → BeginsWait t k w w' s s' slot b' r → desk_of w' ≡ stops t (awaits k (desk_of (record w { place = Place.Poll t InPoll.Act })))
  waits_desk t k w w' s s' slot b' r sound by =
      let d = driver_of w in
      let n = w.names.requests.items in
      let id = r.id.0 in
      let it = by.pends.it in
      let now = with_waker (record { 0 = t }) it in
      let value : value_at d.requests id ≡ Some (Pending it) = entry_of (value_at d.requests id) it by.pends.live in
      ap desk_of by.worker ∙ ap (desk_with w t) by.driver
      ∙ ap (λ x. record (desk_of w) { place = Place.Poll t InPoll.Pend; requests = x; awaited = awaited_from 0 n (written d.requests id (Pending now)).slots }) (slots_written n d.requests id (Pending it) (Pending now) value)
      ∙ ap (λ x. record (desk_of w) { place = Place.Poll t InPoll.Pend; awaited = x }) (awaited_more (Place.Poll t InPoll.Act) w s sound id it now by.pends.live refl)
      ∙ ap (λ m. stops t (awaits m (desk_of (record w { place = Place.Poll t InPoll.Act })))) by.pends.number

  pub waits_own : (t k : ℕ) (w w' : Worker) (s s' : Shared B) (slot : TaskSlot B) (b' : B) (r : Record) → BeginsWait t k w w' s s' slot b' r → own_of w' ≡ own_of (record w { place = Place.Poll t InPoll.Pend })
  waits_own t k w w' s s' slot b' r by =
      let d = driver_of w in
      ap own_of by.worker ∙ ap (own_with w t) by.driver
      ∙ ap (λ m. record (own_of (record w { place = Place.Poll t InPoll.Pend })) { in_flight = m }) (same_flight d.requests r.id.0 by.pends.it (with_waker (record { 0 = t }) by.pends.it) by.pends.live refl)

module _ {B L : Type 0} (left : B → L) (runs : L → Plan → Option ℕ → Type 0) (holds : L → Option Said → List ℕ) (spot : L → Option Said → Spot) (gives : L → Option Sight → Said → Act B → L → Option Sight → Type 0) (answered : IsAnswered spot) where
  -- WHAT THE MACHINE AND THE MOVES MAKE OF IT
  waits_works : (t k : ℕ) (w w' : Worker) (s s' : Shared B) (slot : TaskSlot B) (b' : B) (r : Record) → SoundAt (Place.Poll t InPoll.Act) w s → BeginsWait t k w w' s s' slot b' r → (p : Plan) (vs : Views) → Suits p vs w s → next_word (common_of left spot p vs s) (task_seen left spot slot) ≡ ScriptWord.Await
      → task_seen left spot (record slot { body = Some b'; told = None }) ≡ moved_on (common_of left spot p vs s) (task_seen left spot slot) → Works left spot p vs w s (Wait (Some k)) w' s'
  waits_works t k w w' s s' slot b' r sound by p vs suits word past =
      let w0 : Worker = record w { place = Place.Poll t InPoll.Act } in
      let s1 : Shared B = record s { tasks = s'.tasks; requests = s'.requests } in
      let rs = s.requests.items in
      let rs' = s'.requests.items in
      let f = awaited_by t in
      let all = common_of left spot p vs s in
      let me = own_of w0 in
      let d = desk_of w0 in
      let things = things_with vs s in
      let y : Task = task_seen left spot slot in
      let slot' = waits_slot slot b' k in
      let shows : visible w' ≡ visible w = ring_seen w w' (Place.Poll t InPoll.Pend) by.worker (ap (λ (x : Driving Reply Reply). x.ring) by.driver) in
      let again : with_view vs w.index (visible w') ≡ vs = ap (λ z. with_view vs w.index z) shows ∙ view_found vs w.index (visible w) suits.seen in
      let it : task_of all t ≡ y = task_there left spot s.tasks.items t slot by.there in
      let request : request_of all k ≡ r.shown = request_at rs k r by.request in
      let names : map name_in rs' ≡ map name_in rs = ap (map name_in) by.requests ∙ ap (λ o. map name_in (changed_in rs k f o)) (sym by.request) ∙ names_changed rs k r f by.request refl in
      let gates = same_gates rs rs' names s.opens in
      let opens = same_opens rs rs' names s.opens in
      let answers : numbers_of_passing (λ (q : Record). q.sent) 0 rs' ≡ things.answers = passing_same (λ (q : Record). q.sent) rs rs' (ap (map (λ (q : Record). q.sent)) by.requests ∙ map-set (λ (q : Record). q.sent) rs k (f r) ∙ set_found (map (λ (q : Record). q.sent) rs) k r.sent (slice_get-map (λ (q : Record). q.sent) rs k ∙ ap (option_map (λ (q : Record). q.sent)) by.request)) in
      let same_things : things_with vs s1 ≡ things = ap (λ g. record things { gates = g; answers = numbers_of_passing (λ (q : Record). q.sent) 0 rs' }) gates ∙ ap (λ a. record things { answers = a }) answers in
      let seen : task_seen left spot slot' ≡ waits_for all y (Waiting.Request k) = ap (λ (z : Task). record z { waiting = Waiting.Request k }) past in
      let tasks : map (task_seen left spot) s'.tasks.items ≡ slice_set all.tasks t (waits_for all (task_of all t) (Waiting.Request k)) = ap (map (task_seen left spot)) by.tasks ∙ map-set (task_seen left spot) s.tasks.items t slot' ∙ ap (slice_set all.tasks t) (seen ∙ ap (λ z. waits_for all z (Waiting.Request k)) (sym it)) in
      let shown : map (λ (q : Record). q.shown) rs' ≡ slice_set all.requests k (record (request_of all k) { waiter = Some t }) = ap (map (λ (q : Record). q.shown)) by.requests ∙ map-set (λ (q : Record). q.shown) rs k (f r) ∙ ap (λ q. slice_set all.requests k (record q { waiter = Some t })) (sym request) in
      let desk = waits_desk t k w w' s s' slot b' r sound by in
      let b : AfterSend = AfterSend.Pend t in
      let finds : Bool → Bool → Moved Things = λ u m. move_look_at p.config all d things t b (aside things (await t all d y (Some k))) (sight_by u m (Asks r.shown.worker (ForwardRequest k)) (HearsRequest k)) in
      let done : Works left spot p vs w0 s (Wait (Some k)) w' s1 = record {
        choice = Plain;
        moves = grind (arith, by.unsent, by.mine, desk, same_things, again, await_looks, eq-eqb, awaits_by);
        may = (
          acts_so left spot t all w slot asks_await it by.waits (ap asks_await word),
          (
            ap (λ z. is_number k (newest_held z)) it ∙ ap (is_number k) by.newest ∙ eq-eqb k k refl,
            (
              ap (λ q. q.worker == w.index) request ∙ ap (λ i. i == w.index) by.mine ∙ eq-eqb w.index w.index refl,
              (
                ap (λ q. is_unsent q.forwarding) request ∙ by.unsent,
                (ap (λ q. not (is_resolved q.phase)) request ∙ ap not by.going, tt),
              ),
            ),
          ),
        );
        own = waits_own t k w w' s s' slot b' r by;
        common = grind (arith, again, opens, tasks, shown);
      } in
      subst (Works left spot p vs w s (Wait (Some k)) w') (sym by.kept) (subst (λ v. Works left spot p vs v s (Wait (Some k)) w' s1) (ap (λ z. record w { place = z }) (sym sound.here)) done)

  hears_output : (j : ℕ) (held : List ℕ) (answer : Said) → CanHear None (Waiting.Request j) answer → IsAnswer {B = B} (Act.Await (Some j)) answer × (held_after {B = B} (Act.Await (Some j)) answer held ≡ without_newest held)
  hears_output j held (Said.Output output) heard = (tt, refl)
  hears_output j held _ heard = absurd heard

  -- THE WHOLE STEP
  pub awaits_on : (t k : ℕ) (w w' : Worker) (s s1 s' : Shared B) (e : Event) (r : Record) → (h : HasActed left runs holds spot gives t w s s1 (Act.Await (Some k))) → HasWhole w s → newest_of h.made.slot ≡ Some k → slice_get s.requests.items k ≡ Some r → r.shown.worker ≡ w.index → is_resolved r.shown.phase ≡ false
      → BeganWait t k w w' s1 s' e → StepsOf left runs holds spot w s e w' s'
  awaits_on t k w w' s s1 s' e r h has newest at_r mine going began1 =
      let sound = h.sound in
      let m = h.made in
      let slot = m.slot in
      let b' = m.acts.body' in
      let by_it : IsActor left runs holds spot gives t w slot = actor left runs holds spot gives t w s s1 (Act.Await (Some k)) h in
      let it : IsHere InPoll.Act t w s = polled_here InPoll.Act t w s sound refl in
      let is : slot ≡ it.slot = same_Some slot it.slot (sym m.there ∙ it.there) in
      let began : BeganWait t k w w' (record s { tasks = s1.tasks }) s' e = subst (λ y. BeganWait t k w w' y s' e) m.kept began1 in
      let found : slice_get s1.tasks.items t ≡ Some m.slot' = ap (λ ts. slice_get ts t) m.tasks ∙ set_there s.tasks.items t m.slot' slot m.there in
      let acted_is : began.slot ≡ record slot { body = Some b'; told = None } = same_Some began.slot m.slot' (sym began.there ∙ found) ∙ m.acts.slot in
      let same_r : began.r ≡ r = same_Some began.r r (sym began.request ∙ at_r) in
      let slot' = waits_slot slot b' k in
      let items : s'.tasks.items ≡ slice_set s.tasks.items t slot' = began.tasks ∙ ap (λ (o : TaskSlot B). slice_set s1.tasks.items t (record o { waiting = Waiting.Request k })) acted_is ∙ ap (λ ts. slice_set ts t slot') m.tasks ∙ set-set s.tasks.items t m.slot' slot' in
      let newest_at : newest_of it.slot ≡ Some k = ap newest_of (sym is) ∙ newest in
      let pends = still_pends (Place.Poll t InPoll.Act) k w s r sound at_r mine going in
      let waker = with_waker (record { 0 = t }) in
      let held = subst (λ o. HoldsNewest t k s o r) (sym is) (newest_is InPoll.Act t k w s r has it newest_at at_r) in
      let unsent = newest_unsent t k w s r has it newest_at at_r in
      let driver = began.driver ∙ ap (λ (x : Record). record (driver_of w) { requests = changed (driver_of w).requests x.id.0 waker }) same_r ∙ ap (λ o. record (driver_of w) { requests = changed_from (driver_of w).requests r.id.0 waker o }) (entry_of (value_at (driver_of w).requests r.id.0) pends.it pends.live) in
      let requests = began.records ∙ ap (λ x. slice_set s.requests.items k (awaited_by t x)) same_r in
      let by : BeginsWait t k w w' s s' slot b' r = search (m, newest, by_it, at_r, held, unsent, mine, going, driver, requests, items, began) in
      let v : Worker = record w { home = record w.home { driver = w'.home.driver } } in
      let homes = waits_homes t k w w' s s' slot b' r sound by in
      let deals : Dealt InPoll.Pend w.index it.slot slot' s'.requests.items s'.sleepers.items = subst (λ o. Dealt InPoll.Pend w.index o slot' s'.requests.items s'.sleepers.items) is (waits_deals t k w w' s s' slot b' r by) in
      let goes_sound : SoundAt (Place.Poll t InPoll.Pend) w' s' = subst (λ y. SoundAt (Place.Poll t InPoll.Pend) y s') (sym by.worker) (sound_goes InPoll.Act InPoll.Pend t w v s s' slot' (λ i u rs ss. tt) (from_act t) (to_end t) sound it by.kept items homes deals) in
      let goes_beside : Beside w s w' s' = subst (λ y. Beside w s y s') (sym by.worker) (beside_goes InPoll.Act InPoll.Pend t w v s s' slot' (from_act t) (to_end t) sound it by.kept items homes deals (waits_holds t k w w' s s' slot b' r sound by)) in
      let place : w'.place ≡ Place.Poll t InPoll.Pend = ap (λ (y : Worker). y.place) by.worker in
      let done : StepsOf left runs holds spot w s (Wait (Some k)) w' s' = (
        (λ p vs suits fits.
            let does_so = h.asks p vs (fits t slot m.there) in
            waits_works t k w w' s s' slot b' r sound by p vs suits does_so.asks.0 (moved_seen left spot (common_of left spot p vs s) slot b' None by_it.polled does_so.stands)),
        subst (λ q. SoundAt q w' s') (sym place) goes_sound,
        still_performs left runs holds t w w' s s' slot slot' m.there items (ap (λ (y : Worker). y.root) by.worker) (ap (λ (z : Shared B). z.config) by.kept)
            (λ p fits. performs_on left runs holds spot gives p (task_seen left spot slot) (Act.Await (Some k)) slot' b' ((h.asks p (record { workers = []; calls = [] }) fits).goes_on refl) refl (in_poll slot.cell.phase (Some b') by_it.polled) (hears_output k (numbers_held slot.held.items))),
        goes_beside,
      ) in
      subst (λ y. StepsOf left runs holds spot w s y w' s') (sym began.event) done
