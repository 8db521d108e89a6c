-- The act by which a task sleeps: what holds then, and what that leaves of others.
use Rattle.std.proofs.{Common.{◌≡◌, ◌⊎◌, inl, inr, ℕ, suc, ◌+◌, ◌<◌, ◌≤◌, ◌||◌, min, Bool, true, false, List, [], ◌∷◌, ◌++◌, length, map, Option, Some, None, refl, sym, ap, subst, ◌∙◌, arith, slice_get, slice_set, option_map, ◌==◌, count_by}, lemmas.{Bool.{false≢true, Decides.nat_tests}, List.{append-nil, length-map, map-append, map-set, set-set}, Option.{slice_get-map, slice_get_within}}}
use Rattle.exec_base.specs.{Slab.{IsPast, Slab, TakesId, inserted, is_live, live_count, next_id}, declared.limits.TheConstants.LONGEST_TIMEOUT}
use Rattle.exec_time.specs.declared.timers.{Sleeper.Sleeper as Sleeping, Observer.Observer}
use Rattle.exec_ring.specs.Stores.{HasStretch}
use Rattle.exec_driver.specs.Driving.{seen}
use Rattle.exec_task.specs.{Phases.is_polled, Sight.Sight, declared.body.{Act.Act, Said.Said}}
use Rattle.exec_machine.specs.{Progress.Plan, declared.{event.Event.Event, state.{Forwarding.TheVariants.Unsent, Sleeper.Sleeper as Asleep, Waiting.Waiting}}}
use Rattle.exec_moves.specs.declared.{handing.AfterCallbacks.AfterCallbacks, place.{InCallbacks.InCallbacks, InPoll.InPoll, Place.Place}}
use Rattle.exec_parts.{specs.{declared.parts.{mail.{Reply.Reply, Subject.Subject as subject}, seat.Seat.Seat as Chair, shared.Shared.Shared, task_slot.TaskSlot.TaskSlot, worker.Worker.Worker}, Records.numbers_held, Scripts.{IsAnswer, held_after}, Calls.IsTold, Spots.Spot, View.{Views, body_in, driver_of, task_seen}}, proofs.Facts.{by_number, same_Some, set_there}}
use Rattle.exec_invariants.{specs.{Admitting.{Sleeps, most_told}, Acting.{HasActed, StillPerforms}, Gates.{HaveGates, IsKnown, has_hint_at}, Hearing.{CanHear, held_once_come}, Holding.{Box, IsHolding, Nap, Thing, awaited_in, box_of, holder_of, nap_of, thing_of}, Sound.SoundAt, Names.tellers, Whole.{Profile, hands_of, with_worker}, Works.Beside}, proofs.{Taken.{got_new, takes_inserted}, Here.{IsHere, going_on, polled_here}, HoldBeside.{Handles, Holds}, HoldThings.touches_none, Pending.in_poll, Performing.{performs_on, still_performs}, Resolving.places_fewer, ServingHolds.KeepsBy, SlotTasks.guest_pool, TaskDeals.{Dealt, ends, from_act, sound_dealt}, Untold.rooted_told}}
use Rattle.exec_polling.proofs.{Growing.told_same, Dozing.{OneDozes, asleep_dozes, carried_dozes, flown_dozes, named_dozes, order_dozes, over_dozes, rooted_dozes, timed_dozes}, Enlisted.wide_places, Rooms.few_tellers, RegisterBeside.beside_made, RegisterHolds.{MayHold, holding_slept}, MadePlaces.{holding_placed, placed_in}, RegisterSound.{Makes, MakesAt, grows_last, grows_same, made_at, sound_made}, RegisterStep.may_have}

-- nothing is visible of anybody
abbrev no_views : Views
no_views = record { workers = []; calls = [] }

module _ {B L : Type 0} (left : B → L) (runs : L → Plan → Option ℕ → Type 0) (holds : L → Option Said → List ℕ) (spot : L → Option Said → Spot) (gives : L → Option Sight → Said → Act B → L → Option Sight → Type 0)
    (t time : ℕ) (w w' : Worker) (s s1 s' : Shared B) (e : Event) (h : HasActed left runs holds spot gives t w s s1 (Act.Sleep (suc time))) (sleeps : Sleeps t (w.moments.sampled + min (suc time) LONGEST_TIMEOUT) w w' s1 s' e) where
  abbrev pub until : ℕ
  until = w.moments.sampled + min (suc time) LONGEST_TIMEOUT

  pub so : Sleeps t (w.moments.sampled + min (suc time) LONGEST_TIMEOUT) w w' (record s { tasks = s1.tasks }) s' e
  so = subst (λ (x : Shared B). Sleeps t (w.moments.sampled + min (suc time) LONGEST_TIMEOUT) w w' x s' e) h.made.kept sleeps

  -- THE SLOT before
  pub was : IsHere InPoll.Act t w s
  was = polled_here InPoll.Act t w s h.sound refl

  was_is : was.slot ≡ h.made.slot
  was_is = same_Some was.slot h.made.slot (sym was.there ∙ h.made.there)

  pub waits_is : h.made.slot.waiting ≡ Waiting.Nothing
  waits_is = ap (λ (x : TaskSlot B). x.waiting) (sym was_is) ∙ was.waits

  pub polled_is : is_polled h.made.slot.cell.phase ≡ true
  polled_is = ap (λ (x : TaskSlot B). is_polled x.cell.phase) (sym was_is) ∙ was.polled

  pub poller_is : h.made.slot.poller ≡ w.index
  poller_is = ap (λ (x : TaskSlot B). x.poller) (sym was_is) ∙ was.poller

  home_is : (h.made.slot.home ≡ Some w.index) ⊎ ((h.made.slot.home ≡ None) × (w.index < s.config.workers))
  home_is = grind (arith, by_number, was_is, was, guest_pool, nat_tests)

  pub home_mine : (j : ℕ) → h.made.slot.home ≡ Some j → j ≡ w.index
  home_mine j is = elim home_is [ inl own ↦ same_Some j w.index (sym is ∙ own) | inr of_pool ↦ absurd (let no : None ≡ Some j = sym of_pool.0 ∙ is in cc) ]

  -- and then
  abbrev pub final : TaskSlot B
  final = record h.made.slot { body = Some h.made.acts.body'; told = None; waiting = Waiting.Timer (length s.sleepers.items) }

  same : so.rooms.slot ≡ record h.made.slot { body = Some h.made.acts.body'; told = None }
  same = let found = ap (λ ts. slice_get ts t) h.made.tasks ∙ set_there s.tasks.items t h.made.slot' h.made.slot h.made.there in cc (so.rooms.there, found, h.made.acts.slot)

  pub slot_is : so.slot' ≡ record final { held = so.slot'.held }
  slot_is = so.waits ∙ ap (λ (x : TaskSlot B). record x { held = so.slot'.held; waiting = Waiting.Timer (length s.sleepers.items) }) same

  pub held_is : numbers_held so.slot'.held.items ≡ numbers_held h.made.slot.held.items
  held_is = so.held ∙ ap (λ (x : TaskSlot B). numbers_held x.held.items) same

  having_is : so.slot'.held.items ≡ h.made.slot.held.items
  having_is = so.having ∙ ap (λ (x : TaskSlot B). x.held.items) same

  pub items_are : s'.tasks.items ≡ slice_set s.tasks.items t so.slot'
  items_are = so.tasks ∙ ap (λ ts. slice_set ts t so.slot') h.made.tasks ∙ set-set s.tasks.items t h.made.slot' so.slot'

  number : so.rooms.slot.cell.number ≡ record { 0 = t }
  number = ap (λ (x : TaskSlot B). x.cell.number) (same ∙ ap (λ (x : TaskSlot B). record x { body = Some h.made.acts.body'; told = None }) (sym was_is)) ∙ was.number

  -- THE WORKER, and what is shared
  timers_were : so.mid.home.timers ≡ w.home.timers
  timers_were = ap (λ (x : Worker). x.home.timers) so.rooms.worker

  pub driver_is : driver_of so.mid ≡ driver_of w
  driver_is = ap seen so.driver

  pub flat : w' ≡ record w { place = Place.Poll t InPoll.Pend; names = w'.names; batch = so.mid.batch; home = record w.home { driver = so.mid.home.driver; timers = w'.home.timers; deferred = so.mid.home.deferred } }
  flat = so.worker ∙ ap (λ (x : Worker). record x { place = Place.Poll t InPoll.Pend; names = w'.names; home = record x.home { timers = w'.home.timers } }) so.rooms.worker

  pub flat_shared : s' ≡ record s { seats = s'.seats; tasks = s'.tasks; requests = so.all.requests; sleepers = s'.sleepers; store = so.all.store }
  flat_shared = so.shared ∙ ap (λ (x : Shared B). record x { seats = s'.seats; tasks = s'.tasks; sleepers = s'.sleepers }) so.rooms.shared

  pub requests_are : s'.requests.items ≡ s.requests.items
  requests_are = ap (λ (x : Shared B). x.requests.items) flat_shared ∙ so.rooms.requests

  store_is : s'.store ≡ s.store
  store_is = ap (λ (x : Shared B). x.store) flat_shared ∙ so.store

  opens_are : s'.opens ≡ s.opens
  opens_are = ap (λ (x : Shared B). x.opens) flat_shared

  pub timers_are : w'.home.timers ≡ record (inserted w.home.timers (record { deadline = until; observer = Observer.Local (record { 0 = t }) })) { room = w'.home.timers.room }
  timers_are = grind (arith, so, number, timers_were)

  pub next_is : next_id w.home.timers ≡ Some so.made.id.0
  next_is = subst (λ (x : Slab (Sleeping Reply)). next_id x ≡ Some so.made.id.0) timers_were so.next

  pub one_dozes : OneDozes w.index t (w.moments.sampled + min (suc time) LONGEST_TIMEOUT) w.names w'.names w.home.timers w'.home.timers s.sleepers.items so.made
  one_dozes =
      let n = so.rooms.names in
      let past = subst (λ (x : Slab (Sleeping Reply)). TakesId x w'.home.timers so.made.id.0) timers_were so.past in
      let taken = takes_inserted w.home.timers w'.home.timers (record { deadline = until; observer = Observer.Local (record { 0 = t }) }) so.made.id.0 next_is timers_are
      (subst (λ (x : Slab (Sleeping Reply)). IsPast x so.made.id.0 → ⊥) timers_were so.unnamed) past in
      let within = slice_get_within w'.names.timers.items so.made.id.0.index (length s.sleepers.items) so.number_is in
      let long : length w.names.timers.items ≤ length w'.names.timers.items = rw (← n.timers) so.longer in
      grind (arith, so)

  pub wakes_none : so.mid.home.deferred.notes.wakes.items ≡ []
  wakes_none = so.rooms.untold.notes.wakes_added ∙ append-nil w.home.deferred.notes.wakes.items ∙ h.sound.quiet refl

  few_made : tellers (driver_of w).requests w'.home.timers + 64 ≤ most_told so.mid
  few_made =
      let one = one_dozes in
      let n : length so.mid.names.requests.items ≡ length w.names.requests.items = ap (λ (x : List ℕ). length x) so.rooms.names.requests in
      let beds : live_count so.mid.home.timers ≡ live_count w.home.timers = ap live_count timers_were in
      let more : live_count w'.home.timers ≡ live_count w.home.timers + 1 = one.takes.counts is_live (λ g. refl) refl in
      let few = few_tellers (driver_of w).requests w'.home.timers (length w.names.requests.items) (live_count w.home.timers + 1) h.sound.named.slots (omega (arith, more)) in
      omega (arith, few, n, beds)

  abbrev worker_now : Worker
  worker_now = record w { place = Place.Callbacks InCallbacks.TakeBatch AfterCallbacks.Look; names = w'.names; home = record w.home { deferred = so.mid.home.deferred } }

  keeps_now : KeepsBy worker_now (driver_of w) w'.home.timers s.requests.items (s.sleepers.items ++ so.made ∷ []) (record s { store = s'.store })
  keeps_now =
      let i = w.index in
      let d = driver_of w in
      let n' = w'.names in
      let zs = w.home.timers in
      let zs' = w'.home.timers in
      let rs = s.requests.items in
      let ss = s.sleepers.items in
      let one = one_dozes in
      let sound = h.sound in
      let due = sound.due in
      let mid = so.mid in
      record {
        told = subst (λ xs. IsTold xs mid.home.deferred (tellers d.requests zs' + 64)) (sym one.ended)
            (places_fewer few_made
            (told_same w.names.ended.items w.home.deferred mid.home.deferred (tellers d.requests zs + 64) (most_told mid) so.rooms.untold so.has.told sound.told));
        wide = wide_places mid.home.deferred _ _ few_made so.has.told;
        named = named_dozes i t until w.names n' d zs zs' rs ss so.made one sound.named;
        sized = sound.sized;
        over = over_dozes i t until w.names n' d zs zs' rs ss so.made one _ sound.over;
        quiet = λ none. wakes_none;
        due = record {
          punctual = due.punctual;
          told = due.told;
          wheel = due.wheel;
          timed = timed_dozes i t until w.names n' d zs zs' rs ss so.made one due.timed;
          asleep = asleep_dozes i t until w.names n' d zs zs' rs ss so.made one sound.named due.asleep;
          order = order_dozes i t until w.names n' d zs zs' rs ss so.made one _ due.order;
        };
        flown = flown_dozes i t until w.names n' d zs zs' rs ss so.made one None sound.flown;
        carried = rw store_is (carried_dozes i t until w.names n' d zs zs' rs ss so.made one s.store sound.carried);
        known = subst (λ ns. IsKnown i ns d.requests s.opens rs) (sym one.requests) sound.known;
        rooted = rooted_told i n' d zs' w.home.deferred mid.home.deferred rs (ss ++ so.made ∷ [])
            (so.rooms.untold.notes.completions_added ∙ append-nil w.home.deferred.notes.completions.items) (so.rooms.untold.results_added ∙ append-nil w.home.deferred.results.items)
            (rooted_dozes i t until w.names n' d zs zs' rs ss so.made one w.home.deferred sound.named sound.rooted);
        bare = λ bare. absurd (false≢true bare);
      }

  seat_made : MakesAt w.index w'.batch.places s.seats.items s'.seats.items
  seat_made =
      let mails = so.rooms.mails in
      let mail = mails.mail in
      let at_index : so.mid.index ≡ w.index = ap (λ (x : Worker). x.index) so.rooms.worker in
      let within : slice_get s.seats.items w.index ≡ Some mails.chair = mails.seated in
      let found : slice_get so.all.seats.items so.mid.index ≡ Some mails.chair' = ap (λ cs. slice_get cs so.mid.index) mails.seats ∙ ap (slice_get (slice_set s.seats.items w.index mails.chair')) at_index ∙ set_there s.seats.items w.index mails.chair' mails.chair within in
      let room = so.has.mail mails.chair' found in
      let like = mail.same in
      let made : mails.chair'.made ≡ mails.chair.made = ap (λ (c : Chair). c.made) like in
      let places : mails.chair'.mailbox.inbox.places ≡ mail.places = ap (λ (c : Chair). c.mailbox.inbox.places) like in
      let batch : w'.batch ≡ so.mid.batch = ap (λ (x : Worker). x.batch) flat in
      let inbox_room = room.inbox in
      let batch_room = room.batch_places in
      grind arith

  pub makes : Makes w (record w' { place = w.place }) s (record s' { tasks = s.tasks })
  makes = grind (arith, so, driver_is, keeps_now, requests_are, flat, flat_shared, seat_made, grows_same, grows_last, opens_are, wakes_none)

  pub handles : Handles t s s' h.made.slot so.slot'
  handles = grind (arith, items_are, slot_is)

  -- WHAT HOLDS where its poll ends
  pub sound_sleeps : SoundAt (Place.Poll t InPoll.Pend) (record w' { place = Place.Poll t InPoll.Pend }) s'
  sound_sleeps =
      let before : SoundAt (Place.Poll t InPoll.Act) (record w' { place = w.place }) (record s' { tasks = s.tasks }) = sound_made t w (record w' { place = w.place }) s (record s' { tasks = s.tasks }) h.sound makes in
      let it : IsHere InPoll.Act t (record w' { place = w.place }) (record s' { tasks = s.tasks }) = polled_here InPoll.Act t (record w' { place = w.place }) (record s' { tasks = s.tasks }) before refl in
      let is : it.slot ≡ h.made.slot = same_Some it.slot h.made.slot (sym it.there ∙ h.made.there) in
      let there : slice_get s'.sleepers.items (length s.sleepers.items) ≡ Some so.made = ap (λ xs. slice_get xs (length s.sleepers.items)) so.sleepers ∙ got_new s.sleepers.items so.made in
      let mine : so.made.shown.worker ≡ w'.index = ap (λ z. z.worker) so.shown ∙ sym (ap (λ (x : Worker). x.index) flat) in
      let to : Dealt InPoll.Pend w'.index h.made.slot (record final { held = so.slot'.held }) s'.requests.items s'.sleepers.items = grind arith in
      let dealt : Dealt InPoll.Pend w'.index it.slot so.slot' s'.requests.items s'.sleepers.items = subst (λ x. Dealt InPoll.Pend w'.index x so.slot' s'.requests.items s'.sleepers.items) (sym is) (subst (λ x. Dealt InPoll.Pend w'.index h.made.slot x s'.requests.items s'.sleepers.items) (sym slot_is) to) in
      sound_dealt InPoll.Act InPoll.Pend t (record w' { place = w.place }) (record s' { tasks = s.tasks }) s' so.slot' (from_act t) (ends t) before it refl items_are (touches_none (record s' { tasks = s.tasks })) dealt

  -- WHAT ALL HOLD
  pub holds_then : (others : Profile) → Holds (with_worker others w) s → Holds (with_worker others w) s'
  holds_then others old =
      let hands = hands_of (with_worker others w) in
      let workers = s.config.workers in
      let hs = map holder_of s.tasks.items in
      let ts = map thing_of s.requests.items in
      let naps = map nap_of s.sleepers.items in
      let boxes = map box_of s.seats.items in
      let seat = makes.seat in
      let box : Box = box_of seat.chair in
      let n = seat.places in
      let boxes1 = slice_set boxes w.index (placed_in n box) in
      let at : slice_get boxes w.index ≡ Some box = slice_get-map box_of s.seats.items w.index ∙ ap (option_map box_of) seat.there in
      let placed : IsHolding hands workers hs ts naps boxes1 = holding_placed hands workers hs ts naps boxes w.index n box at seat.room old in
      let shut : box.shut ≡ false = (h.sound.phased seat.chair seat.there).shut in
      let counted = (old.room w.index box at).made in
      let few : count_by (λ (r : Thing). r.worker == w.index) ts + count_by (λ (z : Nap). z.worker == w.index) naps + 1 ≤ (placed_in n box).made = omega (arith, counted) in
      let may : MayHold workers w.index t hs ts naps boxes1 = search (slice_get-map holder_of s.tasks.items t ∙ ap (option_map holder_of) h.made.there, going_on h.made.slot.cell.phase polled_is, ap awaited_in waits_is, may_have workers w.index h.made.slot.home home_is, set_there boxes w.index (placed_in n box) box at, shut, few) in
      let done = holding_slept hands workers w.index t hs ts naps boxes1 may placed in
      let many : length naps ≡ length s.sleepers.items = length-map s.sleepers.items nap_of in
      let holder : holder_of so.slot' ≡ record (holder_of h.made.slot) { awaits = Some (subject.Timer (length naps)) } =
      ap holder_of slot_is ∙ ap (λ xs. record (holder_of h.made.slot) { held = xs; awaits = Some (subject.Timer (length s.sleepers.items)) }) having_is ∙ ap (λ m. record (holder_of h.made.slot) { awaits = Some (subject.Timer m) }) (sym many) in
      let holders : map holder_of s'.tasks.items ≡ slice_set hs t (record (holder_of h.made.slot) { awaits = Some (subject.Timer (length naps)) }) =
      ap (map holder_of) items_are ∙ map-set holder_of s.tasks.items t so.slot' ∙ ap (slice_set hs t) holder in
      let nap : nap_of so.made ≡ fresh_nap false false = ap (λ z. seen_as z) so.shown ∙ ap (λ b. fresh_nap b so.made.sent) so.unclosed ∙ ap (fresh_nap false) so.unsent in
      let beds : map nap_of s'.sleepers.items ≡ naps ++ fresh_nap false false ∷ [] = ap (map nap_of) so.sleepers ∙ map-append nap_of s.sleepers.items (so.made ∷ []) ∙ ap (λ x. naps ++ x ∷ []) nap in
      let things : map thing_of s'.requests.items ≡ ts = ap (map thing_of) requests_are in
      let seats : map box_of s'.seats.items ≡ boxes1 = ap (map box_of) seat.set ∙ map-set box_of s.seats.items w.index (made_at n seat.chair) in
      let config : s'.config.workers ≡ workers = ap (λ (x : Shared B). x.config.workers) flat_shared in
      subst (λ c. IsHolding hands c (map holder_of s'.tasks.items) (map thing_of s'.requests.items) (map nap_of s'.sleepers.items) (map box_of s'.seats.items)) (sym config)
      (subst (λ x. IsHolding hands workers x (map thing_of s'.requests.items) (map nap_of s'.sleepers.items) (map box_of s'.seats.items)) (sym holders)
      (subst (λ x. IsHolding hands workers (slice_set hs t (record (holder_of h.made.slot) { awaits = Some (subject.Timer (length naps)) })) x (map nap_of s'.sleepers.items) (map box_of s'.seats.items)) (sym things)
      (subst (λ x. IsHolding hands workers (slice_set hs t (record (holder_of h.made.slot) { awaits = Some (subject.Timer (length naps)) })) ts x (map box_of s'.seats.items)) (sym beds)
      (subst (λ x. IsHolding hands workers (slice_set hs t (record (holder_of h.made.slot) { awaits = Some (subject.Timer (length naps)) })) ts (naps ++ fresh_nap false false ∷ []) x) (sym seats) done))))
    where
      fresh_nap : Bool → Bool → Nap
      fresh_nap closed sent = record { worker = w.index; task = t; fired = false; removed = closed; closed = closed; forwarding = Unsent; paid = 0; sent = sent }

      seen_as : Asleep → Nap
      seen_as z = record { worker = z.worker; task = z.task; fired = z.fired; removed = z.removed || so.made.closed; closed = so.made.closed; forwarding = z.forwarding; paid = z.wakes_paid; sent = so.made.sent }

  pub goes_on : SoundAt w'.place w' s' × Beside w s w' s'
  goes_on =
      let beside : Beside w s (record w' { place = Place.Poll t InPoll.Pend }) s' =
      beside_made t w (record w' { place = w.place }) s s' h.made.slot so.slot' h.sound makes handles InPoll.Pend (ends t) poller_is home_mine
      (λ file none. ap (λ os. has_hint_at os file) opens_are ∙ none) (λ file offset n stretch. subst (λ x. HasStretch x file offset n) (sym store_is) stretch) holds_then
      (λ others have. subst (λ os. HaveGates (with_worker others w).drops_by os s'.requests.items) (sym opens_are) (subst (HaveGates (with_worker others w).drops_by s.opens) (sym requests_are) have)) in
      let place : w'.place ≡ Place.Poll t InPoll.Pend = ap (λ (x : Worker). x.place) flat in
      (subst (λ p. SoundAt p (record w' { place = p }) s') (sym place) sound_sleeps, subst (λ p. Beside w s (record w' { place = p }) s') (sym place) beside)

  slept_answer : (n k : ℕ) (held : List ℕ) (answer : Said) → CanHear None (Waiting.Timer k) answer → IsAnswer {B = B} (Act.Sleep n) answer × (held_after {B = B} (Act.Sleep n) answer held ≡ held)
  slept_answer n k held Said.Slept heard = (tt, refl)
  slept_answer n k held answer heard = absurd heard

  -- it is told that it has slept
  pub performs_slept : StillPerforms left runs holds w s w' s'
  performs_slept =
      still_performs left runs holds t w w' s s' h.made.slot so.slot' h.made.there items_are (ap (λ (x : Worker). x.root) flat) (ap (λ (x : Shared B). x.config) flat_shared)
      (λ p fits. performs_on left runs holds spot gives p (task_seen left spot h.made.slot) (Act.Sleep (suc time)) so.slot' h.made.acts.body' ((h.asks p no_views fits).goes_on refl) (ap (λ (x : TaskSlot B). x.home) slot_is)
      (ap (λ (x : TaskSlot B). body_in x.cell.phase x.body) slot_is ∙ in_poll h.made.slot.cell.phase (Some h.made.acts.body') polled_is)
      (λ answer hears.
      let heard : CanHear None (Waiting.Timer (length s.sleepers.items)) answer = subst (λ (x : TaskSlot B). CanHear x.told x.waiting answer) slot_is hears in
      let it = slept_answer (suc time) (length s.sleepers.items) (numbers_held h.made.slot.held.items) answer heard in
      (it.0, it.1 ∙ sym (ap (λ (x : TaskSlot B). held_once_come x.waiting (numbers_held so.slot'.held.items)) slot_is ∙ held_is))))
