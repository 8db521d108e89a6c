-- The act by which a task makes a request: what holds then, and what that leaves of others.
use Rattle.std.proofs.{Common.{◌≡◌, ◌⊎◌, inl, inr, ℕ, ◌+◌, ◌^◌, ◌<◌, ◌≤◌, ◌==◌, count_by, Bool, true, false, List, [], ◌∷◌, ◌++◌, length, map, Option, Some, None, IfSome, refl, sym, ap, subst, ◌∙◌, arith, slice_get, slice_set, option_map, if◌then◌else◌}, lemmas.{Bool.Decides.nat_tests, List.{length-map, map-append, map-set, set-set}, Option.slice_get-map}}
use Rattle.exec_outcomes.specs.{Accounts.is_durable, declared.outcome.Outcome.Outcome}
use Rattle.exec_request.specs.{Requests.{asked_of, cursor_of, deadline_of, target_of}, declared.request.Request.Request as Asking}
use Rattle.exec_ring.specs.Stores.{Reserves}
use Rattle.exec_opens.specs.Opens.{account_in}
use Rattle.exec_driver.specs.{Footprints.footprint_of, Steps.is_late}
use Rattle.exec_task.specs.{Phases.is_polled, Sight.Sight, declared.body.{Act.Act, Said.Said}}
use Rattle.exec_machine.specs.{declared.{config.Configuration.Configuration, event.Event.Event, state.{Forwarding.TheVariants.Unsent, Request.Request, Waiting.Waiting}}, Progress.Plan, Requests.{new_request, outcome_if_late, resolved_if}}
use Rattle.exec_moves.specs.declared.{handing.AfterCallbacks.AfterCallbacks, place.{InCallbacks.InCallbacks, InPoll.InPoll, Place.Place}}
use Rattle.exec_parts.{specs.{declared.parts.{record.Record.Record, seat.Seat.Seat as Chair, shared.Shared.Shared, sleeping.SleeperRecord.SleeperRecord, task_slot.TaskSlot.TaskSlot, worker.Worker.Worker}, Records.{file_named, numbers_held, operation_in, outcome_in, seen_in}, Scripts.{IsAnswer, IsPlainRequest, held_after}, Spots.Spot, View.{Views, account_seen, body_in, driver_of, task_seen}}, proofs.Facts.{by_number, same_Some, set_there}}
use Rattle.exec_invariants.{specs.{Admitting.{Registers, joins_gate, seeing}, Acting.{HasActed, StillPerforms}, Gates.{AreLinedUp, HaveGates, JoinsGate}, Hearing.{CanHear, held_once_come}, Holding.{Box, IsHolding, MayHave, Nap, Thing, awaited_in, box_of, holder_of, nap_of, thing_of}, Places.{Drops, drops_at}, Sound.SoundAt, Whole.{Profile, hands_of, with_worker}, Works.Beside}, proofs.{Gated.durable_of_file, Here.{IsHere, going_on, polled_here}, HoldBeside.{Handles, Holds}, HoldThings.touches_none, Pending.in_poll, Performing.{performs_on, still_performs}, PoolKept.chosen_own, ServingHolds.KeepsBy, SlotTasks.guest_pool, TaskDeals.{Dealt, acts, from_act, sound_dealt}}}
use Rattle.exec_polling.proofs.{Admitted.IsFew, IsComing.IsComing, Enlisted.{has_its_open, keeps_now, late_plain, made_early, made_late, opened, operation, record_made, registered_made, wakes_now}, Enlists.flat, RegisterBeside.{beside_joins, beside_made}, RegisterHolds.{MayHold, holding_registered}, MadePlaces.{holding_placed, placed_in}, RegisterOpens.{IsRegistered, Opened, covers_then, gates_then, hints_then, joins_then, lined_then}, RegisterSound.{Makes, MakesAt, grows_last, grows_same, made_at, sound_joins, sound_made}, Unbegun.{unbegun, wanted}}

-- nothing is visible of anybody
abbrev no_views : Views
no_views = record { workers = []; calls = [] }

-- a deadline that isn't far
bounded_by : (o : Option ℕ) (n : ℕ) → n < 2 ^ 63 → IfSome o (λ d. d ≤ n) → IfSome o (λ d. d < 2 ^ 63)
bounded_by None n few h = tt
bounded_by (Some d) n few h = omega (arith, few, h)

few_of : (q : Asking) → IsPlainRequest q → (cursor_of q).switched ≡ false → IsFew q
few_of = grind arith

-- whose inbox is open may have what this worker has
pub may_have : (workers i : ℕ) (home : Option ℕ) → (home ≡ Some i) ⊎ ((home ≡ None) × (i < workers)) → MayHave workers home i
may_have workers i home how = elim how [ inl own ↦ subst (λ o. MayHave workers o i) (sym own) refl | inr of_pool ↦ subst (λ o. MayHave workers o i) (sym of_pool.0) of_pool.1 ]

module _ {B L : Type 0} (left : B → L) (runs : L → Plan → Option ℕ → Type 0) (holds : L → Option Said → List ℕ) (spot : L → Option Said → Spot) (gives : L → Option Sight → Said → Act B → L → Option Sight → Type 0)
    (t : ℕ) (w w' : Worker) (s s1 s' : Shared B) (e : Event) (q : Asking) (h : HasActed left runs holds spot gives t w s s1 (Act.Register q)) (reg1 : Registers t q w w' s1 s' e) where
  pub reg : Registers t q w w' (record s { tasks = s1.tasks }) s' e
  reg = subst (λ (x : Shared B). Registers t q w w' x s' e) h.made.kept reg1

  pub comes : IsComing q
  comes =
      let asks = (h.asks h.one.0 no_views h.one.2).asks in
      let c = h.one.0.config in
      let fits = asks.3 in
      let it = wanted c w.moments.sampled _ q asks.1 asks.2 fits in
      let rw_few : c.rw < 2 ^ 60 = subst (λ (x : Configuration). x.rw < 2 ^ 60) h.one.1 h.sound.config.rw in
      let connect_few : c.connect < 2 ^ 60 = subst (λ (x : Configuration). x.connect < 2 ^ 60) h.one.1 h.sound.config.connect in
      grind (arith, unbegun, few_of, bounded_by)

  abbrev pub how : Opened (asked_of q).kind s.opens s'.opens (target_of q)
  how = opened t w w' s s1 s' q e h.sound reg comes

  -- a durable one covers the changes that its open has
  pub covers : is_durable (asked_of q).kind ≡ true → (operation t w w' s s1 s' q e h.sound reg comes).seen ≡ seen_in q
  covers durable =
      let o = operation_in q in
      ap (λ b. (if b then record o { seen = (account_seen (account_in s'.opens (file_named o.target))).mutations } else o).seen) (durable_of_file (asked_of q).kind durable)
      ∙ covers_then q s.opens s'.opens s.requests.items (record_made t w w' s s1 s' q e h.sound reg comes) h.sound.gates (has_its_open t w w' s s1 s' q e h.sound reg comes) (registered_made t w w' s s1 s' q e h.sound reg comes) how durable
      ∙ sym ((h.asks h.one.0 no_views h.one.2).covers durable)

  -- its record, late or not
  pub registered : IsRegistered q reg.made s.requests.items
  registered = by (is_late (deadline_of q) w.moments.sampled) refl
    where
      by : (b : Bool) → is_late (deadline_of q) w.moments.sampled ≡ b → IsRegistered q reg.made s.requests.items
      by false late = subst (λ r. IsRegistered q r s.requests.items) (sym (made_early t w w' s s1 s' q e h.sound reg comes late)) (registered_made t w w' s s1 s' q e h.sound reg comes)
      by true late =
          let was = registered_made t w w' s s1 s' q e h.sound reg comes in
          subst (λ r. IsRegistered q r s.requests.items) (sym (made_late t w w' s s1 s' q e h.sound reg comes late))
          (record { fresh = was.fresh; kind = was.kind; target = was.target; gated = sym (late_plain t w w' s s1 s' q e h.sound reg comes late) })

  same_worker : (o : Option Outcome) (r : Request) → (resolved_if o r).worker ≡ r.worker
  same_worker None r = refl
  same_worker (Some outcome) r = refl

  pub its_worker : reg.made.shown.worker ≡ w.index
  its_worker = ap (λ (x : Request). x.worker) reg.shown ∙ same_worker (outcome_if_late w.moments.sampled (deadline_of q)) (new_request w.index (seeing s'.opens (operation_in q)))

  abbrev pub mid : Shared B
  mid = record s' { tasks = s.tasks }

  flat_is : w' ≡ record w { place = Place.Poll t (joins_gate (length s.requests.items) (asked_of q).kind); names = w'.names; batch = reg.takes.mid.batch; home = record w.home { driver = reg.mid.home.driver; deferred = reg.mid.home.deferred } }
  flat_is = flat t w w' s s1 s' q e h.sound reg comes covers

  flat_shared : s' ≡ record s { seats = s'.seats; tasks = s'.tasks; requests = s'.requests; sleepers = reg.takes.all.sleepers; opens = reg.all.opens; store = reg.all.store }
  flat_shared = grind (arith, reg)

  pub sleepers_are : s'.sleepers.items ≡ s.sleepers.items
  sleepers_are = ap (λ (x : Shared B). x.sleepers.items) flat_shared ∙ reg.takes.rooms.sleepers

  seat_made : MakesAt w.index w'.batch.places s.seats.items s'.seats.items
  seat_made =
      let mails = reg.takes.rooms.mails in
      let mail = mails.mail in
      let at_index : reg.takes.mid.index ≡ w.index = ap (λ (x : Worker). x.index) reg.takes.rooms.worker in
      let within : slice_get s.seats.items w.index ≡ Some mails.chair = mails.seated in
      let found : slice_get reg.takes.all.seats.items reg.takes.mid.index ≡ Some mails.chair' = ap (λ cs. slice_get cs reg.takes.mid.index) mails.seats ∙ ap (slice_get (slice_set s.seats.items w.index mails.chair')) at_index ∙ set_there s.seats.items w.index mails.chair' mails.chair within in
      let room = reg.takes.has.mail mails.chair' found in
      let same = mail.same in
      let made : mails.chair'.made ≡ mails.chair.made = ap (λ (c : Chair). c.made) same in
      let places : mails.chair'.mailbox.inbox.places ≡ mail.places = ap (λ (c : Chair). c.mailbox.inbox.places) same in
      let batch : w'.batch ≡ reg.takes.mid.batch = ap (λ (x : Worker). x.batch) flat_is in
      let inbox_room = room.inbox in
      let batch_room = room.batch_places in
      grind arith

  pub makes : Makes w (record w' { place = w.place }) s (record s' { tasks = s.tasks })
  makes =
      let rs = s.requests.items in
      let w0 : Worker = record w { place = Place.Callbacks InCallbacks.TakeBatch AfterCallbacks.Look; names = w'.names; home = record w.home { deferred = reg.mid.home.deferred } } in
      let now : KeepsBy w0 (driver_of reg.mid) w.home.timers (rs ++ reg.made ∷ []) s.sleepers.items (record s { opens = s'.opens; store = s'.store }) = keeps_now t w w' s s1 s' q e h.sound reg comes covers in
      let by_lists : KeepsBy w0 (driver_of reg.mid) w.home.timers s'.requests.items s'.sleepers.items (record s { opens = s'.opens; store = s'.store }) =
      subst (λ xs. KeepsBy w0 (driver_of reg.mid) w.home.timers xs s'.sleepers.items (record s { opens = s'.opens; store = s'.store })) (sym reg.requests)
      (subst (λ xs. KeepsBy w0 (driver_of reg.mid) w.home.timers (rs ++ reg.made ∷ []) xs (record s { opens = s'.opens; store = s'.store })) (sym sleepers_are) now) in
      let by_worker : KeepsBy (record w { place = Place.Callbacks InCallbacks.TakeBatch AfterCallbacks.Look; names = w'.names; home = record w.home { deferred = w'.home.deferred } }) (driver_of w') w'.home.timers s'.requests.items s'.sleepers.items (record s { opens = s'.opens; store = s'.store }) =
      subst (λ (x : Worker). KeepsBy (record w { place = Place.Callbacks InCallbacks.TakeBatch AfterCallbacks.Look; names = w'.names; home = record w.home { deferred = x.home.deferred } }) (driver_of x) x.home.timers s'.requests.items s'.sleepers.items (record s { opens = s'.opens; store = s'.store })) (sym flat_is) by_lists in
      let shared : record s' { tasks = s.tasks } ≡ record s { seats = s'.seats; requests = s'.requests; sleepers = s'.sleepers; opens = s'.opens; store = s'.store } =
      subst (λ (x : Shared B). record x { tasks = s.tasks } ≡ record s { seats = x.seats; requests = x.requests; sleepers = x.sleepers; opens = x.opens; store = x.store }) (sym flat_shared) refl in
      record {
        worker = subst (λ (x : Worker). record x { place = w.place } ≡ record w { names = x.names; batch = x.batch; home = record w.home { driver = x.home.driver; timers = x.home.timers; deferred = x.home.deferred } }) (sym flat_is) refl;
        shared = shared;
        batch = ap (λ (x : Worker). x.batch.values) flat_is ∙ reg.takes.rooms.mails.mail.values;
        seat = seat_made;
        records = grows_last (λ (r : Record). r.shown.worker ≡ w.index) s.requests.items s'.requests.items reg.made reg.requests its_worker;
        sleepers = grows_same (λ (z : SleeperRecord). z.shown.worker ≡ w.index) s.sleepers.items s'.sleepers.items sleepers_are;
        lined = subst (λ xs. AreLinedUp s'.opens xs) (sym reg.requests) (lined_then q s.opens s'.opens s.requests.items reg.made h.sound.gates (has_its_open t w w' s s1 s' q e h.sound reg comes) registered how);
        wakes = ap (λ (x : Worker). x.home.deferred.notes.wakes.items) flat_is ∙ wakes_now t w w' s s1 s' q e h.sound reg comes;
        keeps = subst (KeepsBy (record w { place = Place.Callbacks InCallbacks.TakeBatch AfterCallbacks.Look; names = w'.names; home = record w.home { deferred = w'.home.deferred } }) (driver_of w') w'.home.timers s'.requests.items s'.sleepers.items) (sym shared) (assumption by_worker);
      }

  -- THE SLOT
  abbrev pub final : TaskSlot B
  final = record h.made.slot { body = Some h.made.acts.body'; told = Some (Said.Admitted (length s.requests.items)) }

  same : reg.takes.rooms.slot ≡ record h.made.slot { body = Some h.made.acts.body'; told = None }
  same = let found = ap (λ ts. slice_get ts t) h.made.tasks ∙ set_there s.tasks.items t h.made.slot' h.made.slot h.made.there in cc (reg.takes.rooms.there, found, h.made.acts.slot)

  pub slot_is : reg.slot' ≡ record final { held = reg.slot'.held }
  slot_is = reg.took ∙ ap (λ (x : TaskSlot B). record x { held = reg.slot'.held; told = Some (Said.Admitted (length s.requests.items)) }) same

  pub held_is : numbers_held reg.slot'.held.items ≡ numbers_held h.made.slot.held.items ++ length s.requests.items ∷ []
  held_is = reg.held ∙ ap (λ (x : TaskSlot B). numbers_held x.held.items ++ length s.requests.items ∷ []) same

  pub having_is : reg.slot'.held.items ≡ h.made.slot.held.items ++ record { number = length s.requests.items; worker = w.index } ∷ []
  having_is = reg.having ∙ ap (λ (x : TaskSlot B). x.held.items ++ record { number = length s.requests.items; worker = w.index } ∷ []) same

  pub items_are : s'.tasks.items ≡ slice_set s.tasks.items t reg.slot'
  items_are = reg.tasks ∙ ap (λ ts. slice_set ts t reg.slot') h.made.tasks ∙ set-set s.tasks.items t h.made.slot' reg.slot'

  pub was : IsHere InPoll.Act t w s
  was = polled_here InPoll.Act t w s h.sound refl

  was_is : was.slot ≡ h.made.slot
  was_is = same_Some was.slot h.made.slot (sym was.there ∙ h.made.there)

  pub waits_is : h.made.slot.waiting ≡ Waiting.Nothing
  waits_is = ap (λ (x : TaskSlot B). x.waiting) (sym was_is) ∙ was.waits

  pub polled_is : is_polled h.made.slot.cell.phase ≡ true
  polled_is = ap (λ (x : TaskSlot B). is_polled x.cell.phase) (sym was_is) ∙ was.polled

  pub handles : Handles t s s' h.made.slot reg.slot'
  handles = grind (arith, items_are, slot_is)

  pub poller_is : h.made.slot.poller ≡ w.index
  poller_is = ap (λ (x : TaskSlot B). x.poller) (sym was_is) ∙ was.poller

  home_is : (h.made.slot.home ≡ Some w.index) ⊎ ((h.made.slot.home ≡ None) × (w.index < s.config.workers))
  home_is = grind (arith, by_number, was_is, was, guest_pool, nat_tests)

  pub home_mine : (j : ℕ) → h.made.slot.home ≡ Some j → j ≡ w.index
  home_mine j is = elim home_is [ inl own ↦ same_Some j w.index (sym is ∙ own) | inr of_pool ↦ absurd (let no : None ≡ Some j = sym of_pool.0 ∙ is in cc) ]

  -- WHAT HOLDS where it acts
  pub sound_acts : SoundAt (Place.Poll t InPoll.Act) (record w' { place = Place.Poll t InPoll.Act }) s'
  sound_acts =
      let before : SoundAt (Place.Poll t InPoll.Act) (record w' { place = w.place }) (record s' { tasks = s.tasks }) = sound_made t w (record w' { place = w.place }) s (record s' { tasks = s.tasks }) h.sound makes in
      let it : IsHere InPoll.Act t (record w' { place = w.place }) (record s' { tasks = s.tasks }) = polled_here InPoll.Act t (record w' { place = w.place }) (record s' { tasks = s.tasks }) before refl in
      let is : it.slot ≡ h.made.slot = same_Some it.slot h.made.slot (sym it.there ∙ h.made.there) in
      let to : Dealt InPoll.Act w'.index h.made.slot (record final { held = reg.slot'.held }) s'.requests.items s'.sleepers.items = grind arith in
      let dealt : Dealt InPoll.Act w'.index it.slot reg.slot' s'.requests.items s'.sleepers.items = subst (λ x. Dealt InPoll.Act w'.index x reg.slot' s'.requests.items s'.sleepers.items) (sym is) (subst (λ x. Dealt InPoll.Act w'.index h.made.slot x s'.requests.items s'.sleepers.items) (sym slot_is) to) in
      sound_dealt InPoll.Act InPoll.Act t (record w' { place = w.place }) (record s' { tasks = s.tasks }) s' reg.slot' (from_act t) (acts t) before it refl items_are (touches_none (record s' { tasks = s.tasks })) dealt

  abbrev seen_as : Request → Thing
  seen_as x = record { worker = x.worker; observed = x.observed; waiter = x.waiter; forwarding = x.forwarding; ended = outcome_in reg.made.shown.phase; paid = x.wakes_paid; sent = reg.made.sent }

  abbrev new_thing : Bool → Thing
  new_thing b = record { worker = w.index; observed = true; waiter = None; forwarding = Unsent; ended = outcome_in reg.made.shown.phase; paid = 0; sent = b }

  pub holds_then : (others : Profile) → Holds (with_worker others w) s → Holds (with_worker others w) s'
  holds_then others old =
      let hands = hands_of (with_worker others w) in
      let workers = s.config.workers in
      let hs = map holder_of s.tasks.items in
      let ts = map thing_of s.requests.items in
      let naps = map nap_of s.sleepers.items in
      let boxes = map box_of s.seats.items in
      let seat = makes.seat in
      let box : Box = box_of seat.chair in
      let n = seat.places in
      let boxes1 = slice_set boxes w.index (placed_in n box) in
      let at : slice_get boxes w.index ≡ Some box = slice_get-map box_of s.seats.items w.index ∙ ap (option_map box_of) seat.there in
      let placed : IsHolding hands workers hs ts naps boxes1 = holding_placed hands workers hs ts naps boxes w.index n box at seat.room old in
      let shut : box.shut ≡ false = (h.sound.phased seat.chair seat.there).shut in
      let counted = (old.room w.index box at).made in
      let few : count_by (λ (r : Thing). r.worker == w.index) ts + count_by (λ (z : Nap). z.worker == w.index) naps + 1 ≤ (placed_in n box).made = omega (arith, counted) in
      let may : MayHold workers w.index t hs ts naps boxes1 = search (slice_get-map holder_of s.tasks.items t ∙ ap (option_map holder_of) h.made.there, going_on h.made.slot.cell.phase polled_is, ap awaited_in waits_is, may_have workers w.index h.made.slot.home home_is, set_there boxes w.index (placed_in n box) box at, shut, few) in
      let o : Option Outcome = outcome_in reg.made.shown.phase in
      let done = holding_registered hands workers w.index t hs ts naps boxes1 may placed o in
      let many : length ts ≡ length s.requests.items = length-map s.requests.items thing_of in
      let holder : holder_of reg.slot' ≡ record (holder_of h.made.slot) { held = h.made.slot.held.items ++ record { number = length ts; worker = w.index } ∷ [] } =
      ap holder_of slot_is ∙ ap (λ xs. record (holder_of h.made.slot) { held = xs }) having_is ∙ ap (λ m. record (holder_of h.made.slot) { held = h.made.slot.held.items ++ record { number = m; worker = w.index } ∷ [] }) (sym many) in
      let holders : map holder_of s'.tasks.items ≡ slice_set hs t (record (holder_of h.made.slot) { held = h.made.slot.held.items ++ record { number = length ts; worker = w.index } ∷ [] }) =
      ap (map holder_of) items_are ∙ map-set holder_of s.tasks.items t reg.slot' ∙ ap (slice_set hs t) holder in
      let thing : thing_of reg.made ≡ new_thing false = grind (arith, reg.shown, by_late (outcome_if_late w.moments.sampled (deadline_of q)) (new_request w.index (seeing s'.opens (operation_in q))), reg.unsent) in
      let things : map thing_of s'.requests.items ≡ ts ++ new_thing false ∷ [] = ap (map thing_of) reg.requests ∙ map-append thing_of s.requests.items (reg.made ∷ []) ∙ ap (λ x. ts ++ x ∷ []) thing in
      let beds : map nap_of s'.sleepers.items ≡ naps = ap (map nap_of) sleepers_are in
      let seats : map box_of s'.seats.items ≡ boxes1 = ap (map box_of) seat.set ∙ map-set box_of s.seats.items w.index (made_at n seat.chair) in
      let config : s'.config.workers ≡ workers = ap (λ (x : Shared B). x.config.workers) flat_shared in
      subst (λ c. IsHolding hands c (map holder_of s'.tasks.items) (map thing_of s'.requests.items) (map nap_of s'.sleepers.items) (map box_of s'.seats.items)) (sym config)
      (subst (λ x. IsHolding hands workers x (map thing_of s'.requests.items) (map nap_of s'.sleepers.items) (map box_of s'.seats.items)) (sym holders)
      (subst (λ x. IsHolding hands workers (slice_set hs t (record (holder_of h.made.slot) { held = h.made.slot.held.items ++ record { number = length ts; worker = w.index } ∷ [] })) x (map nap_of s'.sleepers.items) (map box_of s'.seats.items)) (sym things)
      (subst (λ x. IsHolding hands workers (slice_set hs t (record (holder_of h.made.slot) { held = h.made.slot.held.items ++ record { number = length ts; worker = w.index } ∷ [] })) (ts ++ new_thing false ∷ []) x (map box_of s'.seats.items)) (sym beds)
      (subst (λ x. IsHolding hands workers (slice_set hs t (record (holder_of h.made.slot) { held = h.made.slot.held.items ++ record { number = length ts; worker = w.index } ∷ [] })) (ts ++ new_thing false ∷ []) naps x) (sym seats) done))))
    where
      by_late : (o : Option Outcome) (r : Request) → seen_as (resolved_if o r) ≡ seen_as r
      by_late None r = refl
      by_late (Some outcome) r = refl

  pub beside_acts : Beside w s (record w' { place = Place.Poll t InPoll.Act }) s'
  beside_acts =
      let opens = has_its_open t w w' s s1 s' q e h.sound reg comes in
      let stored : Reserves (footprint_of q) s.store s'.store = subst (λ x. Reserves (footprint_of q) x s'.store) reg.takes.store (subst (λ x. Reserves (footprint_of q) reg.takes.all.store x) (ap (λ (x : Shared B). x.store) (sym reg.shared)) reg.takes.stored) in
      beside_made t w (record w' { place = w.place }) s s' h.made.slot reg.slot' h.sound makes handles InPoll.Act (acts t) poller_is home_mine
      (hints_then q s.opens s'.opens s.requests.items reg.made h.sound.gates opens registered how) stored.files.stretches holds_then
      (λ others have. subst (λ xs. HaveGates (with_worker others w).drops_by s'.opens xs) (sym reg.requests)
      (gates_then q s.opens s'.opens s.requests.items reg.made h.sound.gates opens registered how (with_worker others w).drops_by w.index
      (ap (λ (x : Drops). x.passes) (chosen_own w.index (drops_at w.place) (others.drops_by w.index)) ∙ ap (λ p. (drops_at p).passes) h.sound.here)
      (ap (λ (x : Drops). x.joins) (chosen_own w.index (drops_at w.place) (others.drops_by w.index)) ∙ ap (λ p. (drops_at p).joins) h.sound.here) have))

  -- WHERE IT GOES: a durable one joins its gate
  goes_by : (b : Bool) → is_durable (asked_of q).kind ≡ b → SoundAt (Place.Poll t (if b then InPoll.JoinGate (length s.requests.items) else InPoll.Act)) (record w' { place = Place.Poll t (if b then InPoll.JoinGate (length s.requests.items) else InPoll.Act) }) s'
      × Beside w s (record w' { place = Place.Poll t (if b then InPoll.JoinGate (length s.requests.items) else InPoll.Act) }) s'
  goes_by false undurable = (sound_acts, beside_acts)
  goes_by true durable =
      let joins : JoinsGate w'.index (length s.requests.items) s'.opens s'.requests.items = subst (λ xs. JoinsGate w'.index (length s.requests.items) s'.opens xs) (sym reg.requests)
      (joins_then q s.opens s'.opens s.requests.items reg.made h.sound.gates (has_its_open t w w' s s1 s' q e h.sound reg comes) registered how w'.index (its_worker ∙ sym (ap (λ (x : Worker). x.index) flat_is)) (registered.gated ∙ durable)) in
      (sound_joins t (length s.requests.items) w' s' sound_acts, beside_joins t (length s.requests.items) w' s' w s joins beside_acts)

  pub goes_on : SoundAt w'.place w' s' × Beside w s w' s'
  goes_on = grind (arith, goes_by, flat_is)

  -- it is told of the request, and holds it
  pub performs_asked : StillPerforms left runs holds w s w' s'
  performs_asked =
      still_performs left runs holds t w w' s s' h.made.slot reg.slot' h.made.there items_are (ap (λ (x : Worker). x.root) flat_is) (ap (λ (x : Shared B). x.config) flat_shared)
      (λ p fits. performs_on left runs holds spot gives p (task_seen left spot h.made.slot) (Act.Register q) reg.slot' h.made.acts.body' ((h.asks p no_views fits).goes_on refl) (ap (λ (x : TaskSlot B). x.home) slot_is)
      (ap (λ (x : TaskSlot B). body_in x.cell.phase x.body) slot_is ∙ in_poll h.made.slot.cell.phase (Some h.made.acts.body') polled_is)
      (λ answer hears.
      let heard : answer ≡ Said.Admitted (length s.requests.items) = subst (λ (x : TaskSlot B). CanHear x.told x.waiting answer) slot_is hears in
      subst (λ a. IsAnswer {B = B} (Act.Register q) a × (held_after {B = B} (Act.Register q) a (numbers_held h.made.slot.held.items) ≡ held_once_come reg.slot'.waiting (numbers_held reg.slot'.held.items))) (sym heard)
      (tt, sym (ap (λ (x : TaskSlot B). held_once_come x.waiting (numbers_held reg.slot'.held.items)) slot_is ∙ ap (λ u. held_once_come u (numbers_held reg.slot'.held.items)) waits_is ∙ held_is))))
