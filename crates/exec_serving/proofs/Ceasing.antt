-- The end of the stagings of a service.
use Rattle.std.proofs.{Common.{◌≡◌, ℕ, ◌+◌, ◌==◌, ◌&&◌, ◌||◌, Bool, true, false, not, List, [], ◌∷◌, ◌++◌, length, Option, None, refl, sym, ap, subst, ◌∙◌, arith, nat_lt, if◌then◌else◌}, lemmas.{Bool.false≢true, List.length-append}}
use Rattle.exec_ring.specs.declared.completion.Submission.{Submission}
use Rattle.exec_waiters.specs.States.{pending_count}
use Rattle.exec_driver.specs.{Driving.{Driving, may_stage_one, is_full as is_ring_full}, Steps.{wake_entry, lowest_gate, poll_staged}}
use Rattle.exec_task.specs.declared.body.Said.{Said}
use Rattle.exec_machine.specs.{declared.{config.Configuration.Configuration, event.Event.{Event, TheVariants.{Serve, Busy}}, state.MailMessage.MailMessage}, Choice.Choice.Plain, Progress.Plan, Ranges.ring_size}
use Rattle.exec_moves.specs.{Callback.{has_requests, is_full}, Serve.{Ring, enter, enters, after_staging}, Move.{move_at, move_submit}, Seen.serves_at, State.Desk, Submit.{stage_next, staging_due, request_due, with_poll, Due.{Ends, Flushes}}, Thing.{ring_of, set_wake_poll, with_ring}, declared.place.{InService.InService, Service.Service, Place.Place, Reaping.Reaping}}
use Rattle.exec_invariants.{proofs.{Keeping.{SameButRing, keeps_ring, same_ring}, Serving.{at_large, balances_still, SparesRecords, spares_same}, ServingHolds.{serves_to, IsServed, Follows, Serves, Keeps, KeepsBy}, Conveying.control_entry, Raising.{driver_is, flush_taken, lists_taken, sound_taken, still_lists}, Seeing.{makes, own_with, desk_with, visible_with, served, common_same, ring_again, things_kept}, Staging.{staging_next, flush_seen, stages_again, idle_at, suits_at}, Standing.{requests_seen, submissions_seen}, Untold.{ToldOnDesk, told_there}}, specs.{Raises.{Enters, TakesRaises}, Submitting.{EndsStaging, with_wake_poll, must_flush, after_flush}, Flown.{IsPolled, is_poll, polls_in}, Places.{one_if, passes_at}, Sound.SoundAt, Submits.IsIdle, Works.{Suits, Steps}}}
use Rattle.exec_parts.specs.{declared.parts.{mail.Reply.Reply, shared.Shared.Shared, worker.{PutOff.PutOff, Worker.Worker}}, Serving.{AreTagged, EntersRing, cancels_in, enters_after, with_staging_ended}, Spots.Spot, Tests.has_open_requests, View.{Views, visible, own_of, desk_of, driver_of, common_of, seat_seen, things_with}}
use Rattle.exec_serving.proofs.Entered.{MovesBy, entered, led_to, ring_seen}

-- THE WAKE POLL

tagged_poll : (es : List Submission) → AreTagged es → AreTagged (es ++ wake_entry ∷ [])
tagged_poll [] t = ((λ h. absurd (false≢true h)), tt)
tagged_poll (e ∷ es) t = (t.0, tagged_poll es t.1)

no_cancel_more : (es : List Submission) → cancels_in (es ++ wake_entry ∷ []) ≡ cancels_in es
no_cancel_more [] = refl
no_cancel_more (e ∷ es) = rw (no_cancel_more es) refl

pub polls_more : (es : List Submission) (e : Submission) → polls_in (es ++ e ∷ []) ≡ polls_in es + one_if (is_poll e.window.kind)
polls_more [] e = omega arith
polls_more (x ∷ es) e = let rest = polls_more es e in omega (arith, rest)

staged_polled : (d : Driving Reply Reply) → d.armed ≡ false → IsPolled d.ring d.armed → IsPolled (poll_staged d).ring true
staged_polled = grind (arith, polls_more)

polled_ring : (d : Driving Reply Reply) → d.armed ≡ false → SameButRing d (poll_staged d)
polled_ring d free =
    record {
      requests = refl;
      lists = refl;
      wheel = refl;
      size = refl;
      landed = refl;
      polled = staged_polled d free;
      cancels = no_cancel_more d.ring.staged;
      tagged = tagged_poll d.ring.staged;
      entries = rw (length-append d.ring.staged (wake_entry ∷ [])) (omega arith);
      flies = refl;
      stages = λ v small. control_entry wake_entry v d.ring (λ h. omega (arith, h)) small;
    }

pub poll_by : (a f : Bool) (d : Driving Reply Reply) → d.armed ≡ a → SameButRing d (if a then d else (if f then d else poll_staged d))
poll_by true f d is = same_ring d
poll_by false true d is = same_ring d
poll_by false false d is = polled_ring d is

-- WHERE IT LEADS

abbrev pub after_by : Bool → InService
after_by b = if b then InService.EnterLast else InService.Reap Reaping.Last

follows_by : (gate : ℕ) (v : Service) (b : Bool) → Follows (Place.Service (InService.Submit gate) v) (Place.Service (after_by b) v)
follows_by gate v true = record { from = refl; to = refl; serves = refl; armed = refl; closes = refl; wakes = refl; moment = λ m. refl; searches = refl; published = refl; bare = refl; batch = λ ms h. h }
follows_by gate v false = record { from = refl; to = refl; serves = refl; armed = refl; closes = refl; wakes = refl; moment = λ m. refl; searches = refl; published = refl; bare = refl; batch = λ ms h. h }

module _ {B L : Type 0} (left : B → L) (spot : L → Option Said → Spot) where
  -- the machine enters then, or doesn't, as the worker does
  pub enters_seen : (v : Service) (gate : ℕ) (w : Worker) (s : Shared B) (x : Desk) (p : Plan) (vs : Views) → SoundAt (Place.Service (InService.Submit gate) v) w s → Suits p vs w s
      → ToldOnDesk x w.home.deferred
      → enters p.config w.index v (own_of w) (common_of left spot p vs s) x ≡ enters_after v w
  enters_seen v gate w s x p vs sound suits on =
      let requests = requests_seen w.index w.names (driver_of w) w.home.timers s.requests.items s.sleepers.items sound.named in
      let told = told_there (own_of w) x w.home.deferred _ sound.told on in
      let submissions = submissions_seen p.config w (sound.sized ∙ ap ring_size suits.config) in
      grind arith

  requests_open : (v : Service) (gate : ℕ) (w : Worker) (s : Shared B) (p : Plan) (vs : Views) → SoundAt (Place.Service (InService.Submit gate) v) w s
      → has_requests w.index (common_of left spot p vs s) ≡ has_open_requests w
  requests_open v gate w s p vs sound = sym (requests_seen w.index w.names (driver_of w) w.home.timers s.requests.items s.sleepers.items sound.named)

  -- what is on the desk once the staging has ended
  pub ended_seen : (v : Service) (gate : ℕ) (w : Worker) (s : Shared B) (x : Desk) (p : Plan) (vs : Views) → SoundAt (Place.Service (InService.Submit gate) v) w s → Suits p vs w s
      → ToldOnDesk x w.home.deferred
      → after_staging p.config w.index v (own_of w) (common_of left spot p vs s) x ≡ record x { place = Place.Service (after_by (enters_after v w)) v; may_put_off = v.defer; put_off = has_open_requests w && not (enters_after v w) }
  ended_seen v gate w s x p vs sound suits on =
      let by = enters_seen v gate w s x p vs sound suits on in
      ap (λ b. record x { place = Place.Service (after_by b) v; may_put_off = v.defer; put_off = has_requests w.index (common_of left spot p vs s) && not b }) by
      ∙ ap (λ b. record x { place = Place.Service (after_by (enters_after v w)) v; may_put_off = v.defer; put_off = b && not (enters_after v w) }) (requests_open v gate w s p vs sound)

-- the wake poll on the desk
poll_seen : (w : Worker) (q : Place) (o : PutOff) (d : Driving Reply Reply) (a f : Bool)
    → desk_with w q o w.home.deferred (if a then d else (if f then d else poll_staged d))
    ≡ record (if a || f then desk_with w q o w.home.deferred d else (record (desk_with w q o w.home.deferred d) { entries = length d.ring.staged + 1; polled = true })) { place = q }
poll_seen = grind (arith, desk_with, length-append)

-- nothing may be staged
request_none : (c : Configuration) (w : Worker) → (driver_of w).ring.size ≡ ring_size c → may_stage_one (driver_of w) ≡ false → request_due c (own_of w) ≡ Ends
request_none = grind arith

busy_same : (a f : Bool) (d : Driving Reply Reply) (numbers : List ℕ) (taken : List MailMessage) → visible_with numbers taken (if a then d else (if f then d else poll_staged d)).ring ≡ visible_with numbers taken d.ring
busy_same = grind arith

own_polled : (a f : Bool) (w : Worker) (q : Place) → own_with w q w.names.ended.items w.names.untold.items (if a then driver_of w else (if f then driver_of w else poll_staged (driver_of w))) ≡ own_with w q w.names.ended.items w.names.untold.items (driver_of w)
own_polled = grind arith

-- the machine's desk with the wake poll is that of the driver
with_poll_seen : (size : ℕ) (w : Worker) (a f : Bool) → (driver_of w).armed ≡ a → is_full size (desk_of w) ≡ f
    → with_poll size (desk_of w) ≡ (if a || f then desk_of w else (record (desk_of w) { entries = length (driver_of w).ring.staged + 1; polled = true }))
with_poll_seen = grind arith

module _ {B L : Type 0} (left : B → L) (spot : L → Option Said → Spot) where
  pub staging_ended : (v : Service) (w w' w1 : Worker) (s : Shared B) (e : Event) → (idle : IsIdle v w s) → must_flush (driver_of w) ≡ false → (driver_of w).lists.cancels ≡ [] → may_stage_one (driver_of w) ≡ false
      → e ≡ Serve → EndsStaging w w1 → w' ≡ with_staging_ended v w1 → Steps left spot w s e w' s
  staging_ended v w w' w1 s e idle unflushed none few event ends is =
      let q : Place = Place.Service (InService.Submit idle.gate) v in
      let sound = idle.sound in
      let d = driver_of w in
      let d' : Driving Reply Reply = record (with_wake_poll d) { landings = (driver_of w1).landings } in
      let like0 = poll_by d.armed (is_ring_full d) d refl in
      let like : SameButRing d d' = record { requests = like0.requests; lists = like0.lists; wheel = like0.wheel; size = like0.size; landed = like0.landed; polled = like0.polled; cancels = like0.cancels; tagged = like0.tagged; entries = like0.entries; flies = like0.flies; stages = like0.stages } in
      let b = enters_after v w in
      let o : PutOff = record { defer = v.defer; «enter» = has_open_requests w && not b } in
      let q' : Place = Place.Service (after_by b) v in
      let w2 : Worker = record w { place = q'; put_off = o; home = record w.home { driver = w1.home.driver } } in
      let pending : pending_count d'.requests ≡ pending_count d.requests = ap pending_count like.requests in
      let enters_same : enters_after v w1 ≡ b = grind (arith, ends.worker, ends.driver, like.requests, like.lists, like.size) in
      let requests_same : has_open_requests w1 ≡ has_open_requests w = ap (λ (x : Driving Reply Reply). not (pending_count x.requests == 0)) ends.driver ∙ ap (λ n. not (n == 0)) pending in
      let same : w' ≡ w2 = grind (arith, is, enters_same, requests_same, ends.worker) in
      let follows = follows_by idle.gate v b in
      let serves : Serves q w w' s s = serves_to q q' w w' s s (subst (IsServed w) (sym same) refl) refl (ap (λ x. x.place) same) follows in
      let by : KeepsBy (record w { place = q'; put_off = o }) d' w.home.timers s.requests.items s.sleepers.items s =
      keeps_ring q q' o w s d' sound follows like (λ h. idle.due) in
      let keeps : Keeps w' s =
      subst (λ x. KeepsBy x (driver_of x) x.home.timers s.requests.items s.sleepers.items s) (sym same)
      (subst (λ x. KeepsBy w2 x w.home.timers s.requests.items s.sleepers.items s) (sym ends.driver) (assumption by)) in
      let seen : visible w' ≡ visible w =
      ap visible same ∙ ap (λ (x : Driving Reply Reply). visible_with w.names.requests.items (visible w).taken x.ring) ends.driver ∙ busy_same d.armed (is_ring_full d) d w.names.requests.items (visible w).taken in
      let w0 : Worker = record w { place = q } in
      let idle0 : IsIdle v w0 s = idle_at v w s idle in
      let spares : SparesRecords w.index s s = spares_same w.index s s sound.gates refl refl refl in
      subst (λ x. Steps left spot w s x w' s) (sym event)
      (served left spot q w w' s s Serve sound serves keeps spares (balances_still q w w' s s sound.here serves spares (ap passes_at (ap (λ x. x.place) same) ∙ by_passes b) (ap (λ (v : Worker). v.home.deferred.notes.wakes.items) same) refl refl)
      (λ p vs suits.
      let c = p.config in
      let all = common_of left spot p vs s in
      let suits0 = suits_at q p vs w s suits in
      let sized : d.ring.size ≡ ring_size c = sound.sized ∙ ap ring_size suits.config in
      let due : staging_due c (own_of w0) (desk_of w0) ≡ Ends =
      rw (flush_seen c w0 sized, unflushed, none) (request_none c w0 sized few) in
      let a = d.armed in
      let f = is_ring_full d in
      let full : is_full (ring_size c) (desk_of w0) ≡ f = ap (λ n. not (nat_lt (length d.ring.staged) n)) (sym sized) in
      let x : Desk = if a || f then desk_of w0 else (record (desk_of w0) { entries = length d.ring.staged + 1; polled = true }) in
      let on : ToldOnDesk x w.home.deferred = on_there (a || f) (desk_of w0) (length d.ring.staged + 1) (record { wakes = refl; outputs = refl; completions = refl; results = refl }) in
      record {
        moves =
            ap (move_submit c w.index (own_of w0) all (desk_of w0) (things_with vs s) idle.gate v) (staging_next left spot v w0 s idle0 p vs suits0 ∙ due)
            ∙ ap (makes Serve (after_staging c w.index v (own_of w0) all (with_poll (ring_size c) (desk_of w0)))) (ring_again (things_with vs s) w.index all)
            ∙ ap (λ y. makes Serve (after_staging c w.index v (own_of w0) all y) (things_with vs s)) (with_poll_seen (ring_size c) w0 a f refl full)
            ∙ ap (λ y. makes Serve y (things_with vs s))
            (ended_seen left spot v idle.gate w0 s x p vs idle0.sound suits0 on
            ∙ desk_there (a || f) w q' o (length d.ring.staged + 1)
            ∙ sym (ap desk_of same ∙ ap (desk_with w q' o w.home.deferred) ends.driver ∙ poll_seen w q' o d a f))
            ∙ ap (makes Serve (desk_of w')) (sym (things_kept vs w.index (visible w) (visible w') s s suits.seen (ap (λ y. y.wakes) seen) refl spares));
        may = (at_large q w s sound refl, tt);
        own = ap own_of same ∙ ap (own_with w q' w.names.ended.items w.names.untold.items) ends.driver ∙ own_polled a f w q' ∙ rw (served_by b) refl;
        common = common_same left spot p vs w w' s suits (λ c'. ap (λ y. seat_seen y c') seen);
      }))
    where
      served_by : (b : Bool) → serves_at (Place.Service (after_by b) v) ≡ true
      served_by true = refl
      served_by false = refl

      by_passes : (b : Bool) → passes_at (Place.Service (after_by b) v) ≡ None
      by_passes true = refl
      by_passes false = refl

      on_there : (b : Bool) (x : Desk) (n : ℕ) → ToldOnDesk x w.home.deferred → ToldOnDesk (if b then x else (record x { entries = n; polled = true })) w.home.deferred
      on_there true x n on = on
      on_there false x n on = record { wakes = on.wakes; outputs = on.outputs; completions = on.completions; results = on.results }

      desk_there : (b : Bool) (u : Worker) (r : Place) (o : PutOff) (n : ℕ)
          → record (if b then desk_of (record u { place = Place.Service (InService.Submit idle.gate) v }) else (record (desk_of (record u { place = Place.Service (InService.Submit idle.gate) v })) { entries = n; polled = true })) { place = r; may_put_off = o.defer; put_off = o.«enter» }
          ≡ record (if b then desk_with u r o u.home.deferred (driver_of u) else (record (desk_with u r o u.home.deferred (driver_of u)) { entries = n; polled = true })) { place = r }
      desk_there true u r o n = refl
      desk_there false u r o n = refl

-- A FULL QUEUE IS ENTERED FIRST

module _ {B : Type 0} where
  -- once the wakes that waited at its seat are in its ring
  abbrev idle_then : (v : Service) (w w1 : Worker) (s s1 : Shared B) → IsIdle v w s → TakesRaises w s w1 s1 → IsIdle v w1 s1
  idle_then v w w1 s s1 idle takes =
      let q : Place = Place.Service (InService.Submit idle.gate) v in
      let lists : (driver_of w1).lists ≡ (driver_of w).lists = lists_taken q w w1 s s1 idle.sound takes in
      let ungated = ap (λ (x : Driving Reply Reply). lowest_gate idle.gate x.requests x.lists.gated None) (driver_is q w w1 s s1 idle.sound takes) ∙ idle.ungated in
      search (sound_taken q w w1 s s1 idle.sound takes, still_lists q w w1 s s1 idle.sound takes idle.lists, ap (λ l. l.due) lists ∙ idle.due, ap (λ l. l.enrolments) lists ∙ idle.enrolments, ungated)

  -- with a worker that has the same driver but for its ring and landings
  after_same : (v : Service) (w w1 : Worker) (s s' : Shared B) (e : Event) → EntersRing w s e w1 s' → (driver_of w).ring.busy ≡ true
      → (enters_after v w1 ≡ enters_after v w) × (has_open_requests w1 ≡ has_open_requests w)
  after_same = grind arith

module _ {B L : Type 0} (left : B → L) (spot : L → Option Said → Spot) where
  -- the machine enters next
  flushes_next : (v : Service) (w : Worker) (s : Shared B) → (idle : IsIdle v w s) → must_flush (driver_of w) ≡ true → (p : Plan) (vs : Views) → Suits p vs w s
      → ring_of (common_of left spot p vs s) (things_with vs s) w.index ≡ ring_seen w
      → move_at p.config w.index (own_of w) (common_of left spot p vs s) (desk_of w) (things_with vs s) (Place.Service (InService.Submit idle.gate) v)
      ≡ with_ring w.index (things_with vs s) (stage_next p.config w.index v idle.gate (own_of w) (common_of left spot p vs s) (desk_of w) (ring_seen w) Flushes)
  flushes_next v w s idle full p vs suits ring =
      let c = p.config in
      let due : staging_due c (own_of w) (desk_of w) ≡ Flushes = rw (flush_seen c w (idle.sound.sized ∙ ap ring_size suits.config), full) refl in
      ap (move_submit c w.index (own_of w) (common_of left spot p vs s) (desk_of w) (things_with vs s) idle.gate v) (staging_next left spot v w s idle p vs suits ∙ due)
      ∙ ap (λ y. with_ring w.index (things_with vs s) (stage_next c w.index v idle.gate (own_of w) (common_of left spot p vs s) (desk_of w) y Flushes)) ring

  -- the ring with this word of whether it is busy
  abbrev ring_by : Worker → Bool → Ring
  ring_by w b = record { busy = b; landed = (visible w).landed; wakes = (visible w).wakes }

  pub flush_entered : (v : Service) (w w' w1 : Worker) (s s' : Shared B) (e : Event) → (idle : IsIdle v w s) → must_flush (driver_of w) ≡ true → (it : Enters w s e w1 s') → w' ≡ after_flush v (driver_of it.mid).ring.busy w1 → Steps left spot w s e w' s'
  flush_entered v w w' w1 s s' e idle full it is =
      elim ((driver_of it.mid).ring.busy) as (λ b. (driver_of it.mid).ring.busy ≡ b → w' ≡ after_flush v b w1 → Steps left spot w s e w' s') [
        | true ↦ put_aside
        | false ↦ went_in
      ] refl is
    where
      q : Place
      q = Place.Service (InService.Submit idle.gate) v

      place : w1.place ≡ w.place
      place = ap (λ x. x.place) it.enters.worker ∙ ap (λ x. x.place) it.takes.worker

      off : w1.put_off ≡ w.put_off
      off = ap (λ x. x.put_off) it.enters.worker ∙ ap (λ x. x.put_off) it.takes.worker

      enters_there : w' ≡ record w1 { place = w'.place; put_off = w'.put_off } → EntersRing it.mid it.rested e (record w' { place = w.place; put_off = w.put_off }) s'
      enters_there same =
          let back : record w1 { place = w.place; put_off = w.put_off } ≡ w1 =
          ap (λ y. record w1 { place = y; put_off = w.put_off }) (sym place) ∙ ap (λ o. record w1 { place = w1.place; put_off = o }) (sym off) in
          subst (λ x. EntersRing it.mid it.rested e x s') (sym (ap (λ (x : Worker). record x { place = w.place; put_off = w.put_off }) same ∙ back)) it.enters

      steps : Follows q w'.place → passes_at w'.place ≡ None → w' ≡ record w1 { place = w'.place; put_off = w'.put_off } → MovesBy left spot q it.mid w' it.rested → Steps left spot w s e w' s'
      steps on passes same moves =
          let there : Enters w s e (record w' { place = w.place; put_off = w.put_off }) s' = record { mid = it.mid; rested = it.rested; takes = it.takes; enters = enters_there same } in
          entered left spot q w w' s s' e idle.sound on (λ h. idle.due) passes there moves

      went_in : (driver_of it.mid).ring.busy ≡ false → w' ≡ w1 → Steps left spot w s e w' s'
      went_in free same =
          let m = it.mid in
          let there : w'.place ≡ q = ap (λ x. x.place) same ∙ place ∙ idle.sound.here in
          steps (subst (Follows q) (sym there) (stages_again idle.gate v)) (ap passes_at there) (subst (λ x. x ≡ record w1 { place = x.place; put_off = x.put_off }) (sym same) refl)
          (λ p vs suits ring.
          let i = m.index in
          let x = things_with vs it.rested in
          flushes_next v m it.rested (idle_then v w m s it.rested idle it.takes) (flush_taken q w m s it.rested idle.sound it.takes ∙ full) p vs suits ring
          ∙ ap (λ b. with_ring i x (stage_next p.config i v idle.gate (own_of m) (common_of left spot p vs it.rested) (desk_of m) (ring_by m b) Flushes)) free
          ∙ ap (λ y. with_ring i x (led_to y m.put_off (enter (own_of m) (desk_of m) (ring_by m false)))) (sym there)
          ∙ ap (λ o. with_ring i x (led_to w'.place o (enter (own_of m) (desk_of m) (ring_by m false)))) (sym (ap (λ x. x.put_off) same ∙ ap (λ x. x.put_off) it.enters.worker))
          ∙ ap (λ b. with_ring i x (led_to w'.place w'.put_off (enter (own_of m) (desk_of m) (ring_by m b)))) (sym free))

      passes_by : (b : Bool) → passes_at (Place.Service (after_by b) v) ≡ None
      passes_by true = refl
      passes_by false = refl

      put_aside : (driver_of it.mid).ring.busy ≡ true → w' ≡ with_staging_ended v w1 → Steps left spot w s e w' s'
      put_aside busy same =
          let m = it.mid in
          let like = after_same v m w1 it.rested s' e it.enters busy in
          let b = enters_after v m in
          let there : w'.place ≡ Place.Service (after_by b) v = ap (λ x. x.place) same ∙ ap (λ c. Place.Service (after_by c) v) like.0 in
          let put : w'.put_off.«enter» ≡ (has_open_requests m && not b) = ap (λ x. x.put_off.«enter») same ∙ ap (λ c. has_open_requests w1 && not c) like.0 ∙ ap (λ c. c && not b) like.1 in
          steps (subst (Follows q) (sym there) (follows_by idle.gate v b)) (ap passes_at there ∙ passes_by b) (subst (λ x. x ≡ record w1 { place = x.place; put_off = x.put_off }) (sym same) refl)
          (λ p vs suits ring.
          let i = m.index in
          let x = things_with vs it.rested in
          let idle1 = idle_then v w m s it.rested idle it.takes in
          flushes_next v m it.rested idle1 (flush_taken q w m s it.rested idle.sound it.takes ∙ full) p vs suits ring
          ∙ ap (λ a. with_ring i x (stage_next p.config i v idle.gate (own_of m) (common_of left spot p vs it.rested) (desk_of m) (ring_by m a) Flushes)) busy
          ∙ ap (λ y. record { event = Busy; choice = Plain; desk = y; thing = set_wake_poll i x (visible m).wakes })
          (ended_seen left spot v idle.gate m it.rested (record (desk_of m) { place = q }) p vs idle1.sound suits (record { wakes = refl; outputs = refl; completions = refl; results = refl })
          ∙ ap (λ y. record (desk_of m) { place = y; may_put_off = v.defer; put_off = has_open_requests m && not b }) (sym there)
          ∙ ap (λ y. record (desk_of m) { place = w'.place; may_put_off = y; put_off = has_open_requests m && not b }) (sym (ap (λ x. x.put_off.defer) same))
          ∙ ap (λ y. record (desk_of m) { place = w'.place; may_put_off = w'.put_off.defer; put_off = y }) (sym put))
          ∙ ap (λ a. with_ring i x (led_to w'.place w'.put_off (enter (own_of m) (desk_of m) (ring_by m a)))) (sym busy))
