-- A result has landed: what holds again.
use Rattle.std.proofs.Common.{◌≡◌, ⊎_elim, inl, inr, ℕ, ◌+◌, ◌≤◌, Bool, Contains, List, Option, Some, None, refl, sym, ap, subst, ◌∙◌, slice_get, slice_set, arith}
use Rattle.exec_base.{specs.{Slab.{Slab, value_at, written}, declared.slab.Id.Id}, proofs.Slots.Updates-write}
use Rattle.exec_outcomes.specs.declared.outcome.OpResult.{OpResult}
use Rattle.exec_time.specs.declared.timers.Sleeper.{Sleeper as Sleeping}
use Rattle.exec_request.specs.declared.request.Request.{Request as Asking}
use Rattle.exec_waiters.{specs.{States.{is_held_at, is_held_by, pending_count, waiter_at}, declared.waiter.{Entry.{Entry, TheVariants.Pending}, Waiter.Waiter}}, proofs.Changes.entry_of}
use Rattle.exec_driver.specs.{Driving.Driving, Punctual.IsPunctual}
use Rattle.exec_machine.specs.{Ranges.ring_size, Tests.is_unsent, declared.state.{Rest.TheVariants.Awake, Waiting.Waiting}}
use Rattle.exec_moves.specs.{Seen.polls_at, declared.{handing.Heard.Heard, place.{InClosing.InClosing, InPoll.InPoll}}}
use Rattle.exec_parts.{specs.{declared.parts.{mail.{Reply.Reply, Subject.Subject}, record.Record.Record, shared.Shared.Shared, sleeping.SleeperRecord.SleeperRecord, task_slot.TaskSlot.TaskSlot, worker.Worker.Worker}, Phased.{TurnsChair, closing_in}, Records.roused, Calls.IsTold, View.driver_of}, proofs.Facts.by_name}
use Rattle.exec_invariants.{specs.{Carried.{IsCarried, landing}, Due.IsDue, Flown.HasFlown, Gates.{AreLinedUp, IsKnown}, Holding.Mail, HoldPlaces.{Hearing, cancels_at, heard_at, is_bare_at, sends_cancel_at, spare_at}, Places.step_of_poll, Rooted.{HasHeard, HearsNext, IsRooted}, Sound.{AreOver, HasLetters, IsMyMail, LetsGo, LetsGoAt, MayStop, Sound, SoundAt, Stops, StopsIn, served_in}, Names.{HasWidth, IsNamed, tellers}}, proofs.{Serving.{SparesRecords, letter_kept, mail_kept, spares_one}, Going.{AllGoOn, elsewhere_same, over_on, rooted_on, same_paid, same_waiter, same_worker}, Changing.{named_one, pending_still, ready_before, some_after, tellers_still, timed_one, watched_before}, Lined.{KeepsLines, SameAtGate, lined_kept, lines_changed, opens_same}, Raising.seat_kept, Orders.{alike_self, eased, eases_written, part_self}}}
use Rattle.exec_serving.proofs.{LandMoves.{Leaves, Refilled}, Landing.{Lander, all_on, carried_then, driver_then, flown_then, known_there, one, place_of, records_then, submitted_then, there_so, waiter_then}}

-- WHAT RESTS ON RECORDS AND SLOTS, where requests go on

module _ (rs rs' : List Record) (all : AllGoOn rs rs') (ss : List SleeperRecord) (i : ℕ) where
  may_stop_on : (w : Waiting) → MayStop i w rs ss → MayStop i w rs' ss
  may_stop_on (Waiting.Request k) h =
      let now = all.becomes k h.0 h.1 in
      (now.r', now.there, ⊎_elim (λ sent. inl (ap (λ (y : Record). is_unsent y.shown.forwarding) now.on.same ∙ sent)) (λ own. inr (same_worker h.0 now.r' now.on ∙ own.0, now.on.over ∙ own.1)) h.2)
  may_stop_on (Waiting.Timer n) h = h
  may_stop_on Waiting.Nothing h = tt
  may_stop_on Waiting.Wake h = tt
  may_stop_on Waiting.Woken h = tt
  may_stop_on Waiting.Yielded h = tt

  stops_in : (x : InPoll) (w : Waiting) → StopsIn x i w rs ss → StopsIn x i w rs' ss
  stops_in InPoll.Pend w h = may_stop_on w h
  stops_in _ w h = tt

  pub stops_on : {B : Type 0} (o : Option ℕ) (x : InPoll) (tasks : List (TaskSlot B)) → Stops o x i tasks rs ss → Stops o x i tasks rs' ss
  stops_on None x tasks h = tt
  stops_on (Some t) x tasks h = λ slot there. stops_in x slot.waiting (h slot there)

  pub hears_on : (h : Option Hearing) → HearsNext h i rs ss → HearsNext h i rs' ss
  hears_on None h = tt
  hears_on (Some x) h = by x.of h
    where
      by : (of : Heard) → HasHeard i x.task of rs ss → HasHeard i x.task of rs' ss
      by (Heard.Request k) h =
          let now = all.becomes k h.0 h.1 in (
            now.r',
            now.there,
            same_worker h.0 now.r' now.on ∙ h.2,
            same_waiter h.0 now.r' now.on ∙ h.3,
            elsewhere_same rs rs' all h.0 now.r' now.on ∙ h.4,
            subst (λ m. m ≤ 1) (sym (same_paid h.0 now.r' now.on)) h.5,
            ap (λ (y : Record). y.sent) now.on.same ∙ h.6,
          )
      by (Heard.Timer n) h = h

-- who is held is so as before
module _ (s : Slab (Entry Reply Reply)) (id : Id) (it it' : Waiter Reply Reply) (live : waiter_at s id ≡ Some it) (watched : it'.observer ≡ it.observer) where
  held_same : (other : Id) → is_held_at (value_at (written s id (Pending it')) other) ≡ is_held_at (value_at s other)
  held_same other =
      let value = entry_of (value_at s id) it live in
      let map = Updates-write s id (Pending it') (rw value refl) in
      by_name other id
      (λ apart. ap is_held_at (map.others other apart))
      (λ same. ap (λ x. is_held_at (value_at (written s id (Pending it')) x)) same ∙ ap is_held_at map.changed ∙ ap is_held_by watched ∙ ap is_held_at (sym value) ∙ ap (λ x. is_held_at (value_at s x)) (sym same))

  pub lets_go_on : (x : Option InClosing) (bare : Bool) (zs : Slab (Sleeping Reply)) → LetsGo x bare s zs → LetsGo x bare (written s id (Pending it')) zs
  lets_go_on = grind (arith, held_same)

module _ {B : Type 0} (w : Worker) (s : Shared B) (k : ℕ) (n : OpResult) (who : Lander w s k n) (q : Asking) (same : Refilled who.it.request q) (sound : Sound w s) where
  same_gate : SameAtGate who.r (landing n who.r)
  same_gate = grind arith

  pub landed_lines : KeepsLines s.requests.items (records_then w s k n who)
  landed_lines = lines_changed s.requests.items (place_of w s k n who) who.r (landing n) (there_so w s k n who) same_gate

  pub landed_spares : (s' : Shared B) → s'.opens ≡ s.opens → s'.sleepers.items ≡ s.sleepers.items → s'.requests.items ≡ records_then w s k n who → SparesRecords w.index s s'
  landed_spares s' opens sleepers records =
      spares_one w.index s s' (place_of w s k n who) who.r (landing n) (opens_same s.opens s'.opens s.requests.items sound.gates opens) same_gate records sleepers (there_so w s k n who) who.mine (λ y. refl)

  tell : tellers (driver_then w s k n who q).requests w.home.timers ≡ tellers (driver_of w).requests w.home.timers
  tell = tellers_still (driver_of w).requests who.r.id.0 who.it (waiter_then w s k n who q) who.live refl w.home.timers

  due_then : IsPunctual (driver_then w s k n who q) → IsDue (served_in w.place) w.home.closing w.index w.moments s.config w.names (driver_then w s k n who q) w.home.timers (records_then w s k n who) s.sleepers.items
  due_then punctual =
      let due = sound.due in
      let order = eased (eases_written (driver_of w).requests who.r.id.0 who.it (waiter_then w s k n who q) who.live (λ t is. is) (λ none. none)) (alike_self (driver_of w).wheel) (part_self (driver_of w).lists.enrolments) (part_self (driver_of w).lists.due) due.order in
      let timed = timed_one w.index w.names w.names (driver_of w) (driver_then w s k n who q) w.home.timers s.requests.items s.sleepers.items who.r.id.0 who.it (waiter_then w s k n who q) who.r (landing n) (one w s k n who q same sound) sound.named due.timed in
      search (punctual, timed, order, due)

  rooted_then : IsRooted w.index w.names (driver_then w s k n who q) w.home.timers w.home.deferred (records_then w s k n who) s.sleepers.items
  rooted_then =
      let id = who.r.id.0 in
      let it' = waiter_then w s k n who q in
      let d = driver_of w in
      rooted_on s.requests.items (records_then w s k n who) (all_on w s k n who q same sound) w.index w.names w.names d (driver_then w s k n who q) w.home.timers w.home.deferred s.sleepers.items sound.rooted refl refl
      (λ other h. some_after d.requests id who.it it' who.live other h) (λ other told h. ready_before d.requests id who.it it' who.live other told h) (λ other x h. watched_before d.requests id who.it it' who.live refl other x h)

  -- before it is roused
  landed_there : (w' : Worker) (s' : Shared B) → driver_of w' ≡ driver_then w s k n who q → IsPunctual (driver_of w') → w' ≡ record w { home = record w.home { driver = w'.home.driver } } → s'.requests.items ≡ records_then w s k n who
      → Leaves who.r.shown.operation n s.store s'.store → SoundAt w.place w' (record s { requests = s'.requests; store = s'.store })
  landed_there w' s' driver punctual worker records leaves =
      let i = w.index in
      let p = w.place in
      let d = driver_of w in
      let d1 = driver_then w s k n who q in
      let rs = s.requests.items in
      let rs1 = records_then w s k n who in
      let ss = s.sleepers.items in
      let zs = w.home.timers in
      let left = w.home.deferred in
      let all = all_on w s k n who q same sound in
      let pending = pending_still d.requests who.r.id.0 who.it (waiter_then w s k n who q) who.live in
      let w1 : Worker = record w { home = record w.home { driver = w'.home.driver } } in
      let s1 : Shared B = record s { requests = s'.requests; store = s'.store } in
      let spares : SparesRecords i s s1 = landed_spares s1 refl refl records in
      let again : SoundAt p w1 s1 =
      let gates : AreLinedUp s.opens s'.requests.items = subst (AreLinedUp s.opens) (sym records) (lined_kept rs rs1 landed_lines s.opens sound.gates) in
      let told = subst (λ (x : Driving Reply Reply). IsTold w.names.ended.items left (tellers x.requests zs + spare_at p)) (sym driver) (subst (λ m. IsTold w.names.ended.items left (m + spare_at p)) (sym tell) sound.told) in
      let wide = subst (λ (x : Driving Reply Reply). HasWidth left (tellers x.requests zs + 64)) (sym driver) (subst (λ m. HasWidth left (m + 64)) (sym tell) sound.wide) in
      let named1 : IsNamed i w.names d1 zs rs1 ss = named_one i w.names w.names d d1 zs rs ss who.r.id.0 who.it (waiter_then w s k n who q) who.r (landing n) (one w s k n who q same sound) sound.named (submitted_then w s k n who q same sound) in
      let named = subst (λ x. IsNamed i w.names x zs s'.requests.items ss) (sym driver) (subst (λ x. IsNamed i w.names d1 zs x ss) (sym records) named1) in
      let sized = subst (λ (x : Driving Reply Reply). x.ring.size ≡ ring_size s.config) (sym driver) sound.sized in
      let over1 : AreOver i w.names.ended.items w.names.unreleased (pending_count d1.requests) rs1 = rw pending (over_on rs rs1 all i w.names.ended.items w.names.unreleased (pending_count d.requests) sound.over) in
      let over = subst (λ (x : Driving Reply Reply). AreOver i w.names.ended.items w.names.unreleased (pending_count x.requests) s'.requests.items) (sym driver) (subst (λ x. AreOver i w.names.ended.items w.names.unreleased (pending_count d1.requests) x) (sym records) over1) in
      let mine : (m : Mail) → Contains w.batch.values m → IsMyMail s.config.workers i m s'.requests.items ss = λ m among. mail_kept s.config.workers i m s s1 spares (sound.mine m among) in
      let letters : HasLetters (sends_cancel_at p) (cancels_at p) i s.config.workers w.letters s'.requests.items ss =
      record {
        some = sound.letters.some;
        none = sound.letters.none;
        requests = λ h among. letter_kept s.config.workers i (Subject.Request h.number) h.worker s s1 spares (sound.letters.requests h among);
        timer = λ h is. letter_kept s.config.workers i (Subject.Timer h.number) h.worker s s1 spares (sound.letters.timer h is);
      } in
      let due = subst (λ x. IsDue (served_in p) w.home.closing i w.moments s.config w.names x zs s'.requests.items ss) (sym driver) (subst (λ x. IsDue (served_in p) w.home.closing i w.moments s.config w.names d1 zs x ss) (sym records) (due_then (subst IsPunctual driver punctual))) in
      let flown = subst (λ x. HasFlown (served_in p) i w.names x s'.requests.items) (sym driver) (subst (λ x. HasFlown (served_in p) i w.names d1 x) (sym records) (flown_then w s k n who q same sound)) in
      let carried = subst (λ (x : Driving Reply Reply). IsCarried w.names.requests.items x.requests x.ring s'.requests.items s'.store) (sym driver)
      (subst (λ xs. IsCarried w.names.requests.items d1.requests d1.ring xs s'.store) (sym records) (carried_then w s k n who q same sound s'.store leaves)) in
      let known = subst (λ (x : Driving Reply Reply). IsKnown i w.names.requests.items x.requests s.opens s'.requests.items) (sym driver) (subst (λ xs. IsKnown i w.names.requests.items d1.requests s.opens xs) (sym records) (known_there w s k n who q same sound)) in
      let rooted = subst (λ x. IsRooted i w.names x zs left s'.requests.items ss) (sym driver) (subst (λ x. IsRooted i w.names d1 zs left x ss) (sym records) rooted_then) in
      let stops = subst (λ x. Stops (polls_at p) (step_of_poll p) i s.tasks.items x ss) (sym records) (stops_on rs rs1 all ss i (polls_at p) (step_of_poll p) s.tasks.items sound.stops) in
      let hears = subst (λ x. HearsNext (heard_at p) i x ss) (sym records) (hears_on rs rs1 all ss i (heard_at p) sound.hears) in
      let lets = subst (λ (x : Driving Reply Reply). LetsGoAt p x.requests zs) (sym driver) (lets_go_on d.requests who.r.id.0 who.it (waiter_then w s k n who q) who.live refl (closing_in p) (is_bare_at p) zs sound.lets_go) in
      assumption (gates, told, wide, named, sized, over, mine, letters, due, flown, carried, known, rooted, stops, hears, lets, sound) in
      subst (λ x. SoundAt p x s1) (sym worker) again

  pub landed_sound : (w' : Worker) (s' : Shared B) → driver_of w' ≡ driver_then w s k n who q → IsPunctual (driver_of w') → w' ≡ record w { home = record w.home { driver = w'.home.driver } } → s'.requests.items ≡ records_then w s k n who
      → Leaves who.r.shown.operation n s.store s'.store
      → s' ≡ record s { seats = s'.seats; requests = s'.requests; store = s'.store } → TurnsChair w.index roused s s' → Sound w' s'
  landed_sound w' s' driver punctual worker records leaves kept turns =
      let s1 : Shared B = record s { requests = s'.requests; store = s'.store } in
      let here : Sound w' s1 = subst (λ p. SoundAt p w' s1) (sym (ap (λ x. x.place) worker)) (landed_there w' s' driver punctual worker records leaves) in
      let index : w'.index ≡ w.index = ap (λ x. x.index) worker in
      seat_kept w'.place w' s1 s' here Awake here.seated.seat.raised kept
      (turns here.seated.seat (ap (slice_get s.seats.items) (sym index) ∙ here.seated.there) ∙ ap (λ j. slice_set s.seats.items j (roused here.seated.seat)) (sym index))
