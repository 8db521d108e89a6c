-- The staging of a request's operation is a step.
use Rattle.std.{proofs.{Common.{◌≡◌, ◌≢◌, ◌⊎◌, ℕ, ◌+◌, ◌<◌, ◌==◌, ◌^◌, ◌&&◌, ◌||◌, Bool, true, false, not, List, [], ◌∷◌, ◌++◌, length, map, Option, Some, refl, sym, ap, subst, ◌∙◌, arith, slice_get, slice_set, nat_lt, is_some}, lemmas.{Bool.{false≢true, eq-eqb}, List.{length-append, Folds.list_any-append}, Option.slice_get_within}}, specs.Vec.vec_capacity}
use Rattle.exec_base.specs.Slab.{value_at, written}
use Rattle.exec_outcomes.specs.Accounts.{is_durable}
use Rattle.exec_request.specs.{Hints.{AsksOn, has_hint}, Requests.{asked_of, cursor_of, deadline_of, hinted_of, target_of}, declared.request.Request.Request as Asking}
use Rattle.exec_ring.specs.{Kernels.with_entry, Rings.{RingState, completions}}
use Rattle.exec_waiters.{specs.{States.{needs_permit, waiter_at, takes_tick, flying_count, file_of}, declared.{waiter.{Entry.TheVariants.Pending, Waiter.Waiter}, waiter_id.WaiterId.WaiterId}}, proofs.Changes.{entry_of, one_if as one_if_waiter}}
use Rattle.exec_driver.specs.{Driving.{Driving, may_stage_one}, Punctual.IsPunctual, Steps.{StagesOne, with_staged}}
use Rattle.exec_lists.specs.Lists.{has_first, first_of, rest_of, is_among, after_queued}
use Rattle.exec_opens.specs.Opens.{OpenState, account_in}
use Rattle.exec_task.specs.declared.body.Said.{Said}
use Rattle.exec_machine.specs.{declared.{event.Event.{Event, TheVariants.Stage}, state.RequestPhase.RequestPhase}, Ranges.ring_size, Requests.{is_enrolled, staged}, Same.is_number, Tests.{is_gated, is_of_file, is_queued as is_phase_queued, is_resolved, is_staged}, World.{Common, request_of}}
use Rattle.exec_moves.specs.{Move.move_submit, Submit.{staging_due, one_more, submits, Due.Stages}, declared.place.{Service.Service, Place.Place, InService.InService}}
use Rattle.exec_parts.{specs.{declared.parts.{mail.Reply.Reply, names.Names.Names, record.Record.Record, shared.Shared.Shared, worker.Worker.Worker}, Records.{number_in, outcome_in}, Serving.{changed_at, is_cancel, is_one_of}, Spots.Spot, View.{visible, with_view, own_of, desk_of, driver_of, common_of, seat_seen, things_with, numbers_of}}, proofs.Facts.{by_name, or_left, not_same, same_number, second_true}}
use Rattle.exec_invariants.{specs.{Submitting.{StagesRequest, must_flush, takes_hint}, Carried.IsCarried, Flown.{HasFlown, ends_in, is_poll, operations}, Gates.{IsKnown, at_gate, has_hint_at}, Holding.{nap_of, thing_of}, Places.{one_if, passes_at}, Names.IsSubmitted, Sound.served_in, Submits.IsIdle, Works.Steps, Ordered.{IsOrdered, went_round}}, proofs.{Going.owning_on, Hinting.{WishAlike, asks_after, hint_alike, hint_of_open, hint_seen, operates, stretch_kept, takes_none, unpolled}, Keys.name_in, Known.{KeepsAsk, known_written}, Lined.{map_changed, opens_same}, Keeping.polls_same, Marking.{known_then, plain_kept, mark_if, marked, was_marked, marked_length}, Serving.{at_large, balances_still, SparesRecords, spares_one}, ServingHolds.{serves_to, IsServed, OthersKept, Serves, Keeps, KeepsBy, keeps_all}, Recorded.request_seen, Slotted.{awaited_written, slots_written}, Changing.{OneGoesOn, changes_one, flying_after, keeps_one, apart_number, all_go_one}, Conveying.carried_staged, Flown.landed_on, Seeing.{makes, shows, served, common_changed, common_same, ring_again, things_kept}, Staging.{flush_seen, idle_at, split_first, staging_next, stages_again, suits_at}, Starting.{starts_first, starts, starts_on, starts_alike, starts_if_worker, starts_if_cancel, starts_plain, came_on, known_and, tagged_by, cancels_by}, Orders.{alike_self, eased, eases_written, part_self}}}
use Rattle.exec_serving.proofs.Whole.{whole_kept}

-- among the numbers that are staged it is the last
one_of_last : (k j : ℕ) (ks : List ℕ) → is_one_of j (ks ++ k ∷ []) ≡ (is_one_of j ks || ((k == j) || false))
one_of_last k j ks = list_any-append (λ q. q == j) ks (k ∷ [])

or_last : (a b : Bool) → b ≡ true → (a || (b || false)) ≡ true
or_last = grind arith

or_none : (a : Bool) → (a || (false || false)) ≡ true → a ≡ true
or_none true h = refl
or_none false h = absurd (false≢true h)

-- each is of that worker
own_then : (opens : List OpenState) (i : ℕ) (ks : List ℕ) (rs : List Record) (k : ℕ) → {untold : List ℕ} {r : RingState} → IsSubmitted i ks untold r rs → ((r : Record) → slice_get rs k ≡ Some r → r.shown.worker ≡ i) → (j : ℕ) (x : Record) (b : Bool) → (k == j) ≡ b
    → is_one_of j (ks ++ k ∷ []) ≡ true → slice_get (changed_at rs k (starts opens)) j ≡ Some x → x.shown.worker ≡ i
own_then = grind (arith, was_marked, starts, starts_if_worker, same_number, or_none, one_of_last)

staged_then : (opens : List OpenState) (i : ℕ) (ks : List ℕ) (rs : List Record) (k : ℕ) → {untold : List ℕ} {r : RingState} → IsSubmitted i ks untold r rs → (j : ℕ) (x : Record) (b : Bool) → (k == j) ≡ b → slice_get (changed_at rs k (starts opens)) j ≡ Some x → is_staged x.shown.phase ≡ true → x.shown.worker ≡ i
    → (is_one_of j ks || ((k == j) || false)) ≡ true
staged_then = grind (arith, or_last, was_marked, starts, mark_if, or_left)

-- it asks as before, or its open has no hint
staged_asks : (q q' : Asking) (opens : List OpenState) (target : ℕ) → target ≡ target_of q → AsksOn (cursor_of q).hinted (cursor_of q').hinted (has_hint (account_in opens (file_of q)))
    → {unrefused : Bool} → ((cursor_of q').hinted ≡ false → ((cursor_of q).hinted ≡ false) ⊎ (unrefused ≡ false)) ⊎ (has_hint_at opens target ≡ false)
staged_asks = grind arith

module _ {B L : Type 0} (left : B → L) (spot : L → Option Said → Spot) where
  pub request_stages : (v : Service) (w w' : Worker) (s s' : Shared B) (e : Event) (id : WaiterId) → (idle : IsIdle v w s) → (first : first_of (driver_of w).lists.queued ≡ Some id)
      → must_flush (driver_of w) ≡ false → (driver_of w).lists.cancels ≡ [] → may_stage_one (driver_of w) ≡ true
      → IsPunctual (driver_of w') → vec_capacity w'.names.staged ≡ vec_capacity w.names.staged → StagesRequest w s e w' s' id → Steps left spot w s e w' s'
  request_stages v w w' s s' e id idle first unflushed none may punctual room by =
      let q : Place = Place.Service (InService.Submit idle.gate) v in
      let sound = idle.sound in
      let d = driver_of w in
      let rs = s.requests.items in
      let k = number_in w.names.requests.items id.0 in
      let who = starts_first v w s idle id first in
      let it = who.it in
      let by_driver : StagesOne d (driver_of w') id it (account_in s.opens (file_of it.request)) = by.driver it who.live in
      let it' : Waiter Reply Reply = record it { in_flight = true; request = by_driver.request } in
      let d0 : Driving Reply Reply = with_staged (record d { requests = written d.requests id.0 (Pending it'); lists = after_queued d.lists }) by_driver.entry in
      let d' : Driving Reply Reply = record d0 { landings = (driver_of w').landings } in
      let f : Record → Record = starts s.opens in
      let come = who.alike.come in
      let cursor = came_on it.request by_driver.request come.0 by_driver.kept come.1 (by_driver.goes_on come.0 come.1) in
      let no_cancel : is_cancel by_driver.entry.window.kind ≡ false = ap (λ x. is_cancel x.kind) by_driver.window ∙ operates (has_hint (account_in s.opens (file_of it.request))) it.request in
      let no_poll : is_poll by_driver.entry.window.kind ≡ false = ap (λ x. is_poll x.kind) by_driver.window ∙ unpolled (has_hint (account_in s.opens (file_of it.request))) it.request in
      let unresolved : is_resolved who.r.shown.phase ≡ false = ap is_resolved who.queued in
      let target = sound.carried.target id.0 it who.r who.live who.there in
      let o = who.r.shown.operation in
      let small : is_of_file (asked_of it.request).kind ≡ true → o.target < 2 ^ 32 = λ of.
      let few = sound.gates.few in
      let within = sound.gates.there k who.r who.there (ap (λ a. is_of_file a.kind) who.alike.asked ∙ of) in
      omega (arith, few, within) in
      let wish : WishAlike it.request o (takes_hint s.opens o.target) = grind (arith, ap (λ a. a.kind) who.alike.asked, who.alike.asks_hint, who.alike, takes_none) in
      let hint : (f who.r).shown.operation.hinted ≡ hinted_of by_driver.request =
      hint_alike it.request o (takes_hint s.opens o.target) wish ∙ hint_of_open it.request s.opens o.target target small ∙ sym (ap (λ x. x.hint) by_driver.window) ∙ sym by_driver.hint in
      let on = starts_on s.opens who.r unresolved in
      let names_then : Names = record w.names { staged = w'.names.staged; untold = w'.names.untold } in
      let one : OneGoesOn w.names names_then d d' rs id.0 it it' who.r f = record {
        at = who.live;
        there = who.there;
        slab = refl;
        on = on;
        alike = starts_alike s.opens d.wheel.start d.wheel.tick it by_driver.request who.r who.alike cursor hint (asks_after (cursor_of it.request).hinted (cursor_of by_driver.request).hinted (has_hint (account_in s.opens (file_of it.request))) by_driver.asks) (ap (λ y. y.seen) by_driver.kept) who.unasked who.free;
        start = refl;
        tick = refl;
        requests = refl;
        timers = refl;
      } in
      let rs' = changed_at rs k f in
      let sub = sound.named.submitted in
      let same : w' ≡ record w { place = w'.place; put_off = w'.put_off; home = record w.home { driver = w'.home.driver }; names = record w.names { staged = w'.names.staged; untold = w'.names.untold } } =
      subst (λ x. x ≡ record w { place = x.place; put_off = x.put_off; home = record w.home { driver = x.home.driver }; names = record w.names { staged = x.names.staged; untold = x.names.untold } }) (sym by.worker) refl in
      let there : w'.place ≡ q = ap (λ x. x.place) by.worker ∙ sound.here in
      let off : w'.put_off ≡ w.put_off = ap (λ x. x.put_off) by.worker in
      let untold : w'.names.untold ≡ w.names.untold = ap (λ x. x.names.untold) by.worker in
      let within : k < length rs' = rw (marked_length f rs k) (slice_get_within rs k who.r who.there) in
      let submitted : IsSubmitted w.index w'.names.staged.items w'.names.untold.items d'.ring rs' =
      subst (λ ks. IsSubmitted w.index ks w'.names.untold.items d'.ring rs') (sym by.staged) (subst (λ ks. IsSubmitted w.index (w.names.staged.items ++ k ∷ []) ks d'.ring rs') (ap (λ x. x.items) (sym untold)) (record {
        tagged = tagged_by d.ring.staged by_driver.entry no_cancel sub.tagged;
        cancels = cancels_by d.ring.staged by_driver.entry no_cancel ∙ sub.cancels;
        known = known_and w.names.staged.items k rs' (known_then f rs k w.names.staged.items sub.known) within;
        own = λ j x h found.
            own_then s.opens w.index w.names.staged.items rs k sub (λ r at. let same : r ≡ who.r = cc (at, who.there) in ap (λ y. y.shown.worker) same ∙ who.worker) j x (k == j) refl h found;
        all = λ j x found mine staged. one_of_last k j w.names.staged.items ∙ staged_then s.opens w.index w.names.staged.items rs k sub j x (k == j) refl found staged mine;
      })) in
      let flown = sound.flown in
      let entries_more : length d'.ring.staged ≡ length d.ring.staged + 1 = length-append d.ring.staged (by_driver.entry ∷ []) in
      let changed = changes_one d.requests id.0 it it' who.live in
      let all = all_go_one rs k f who.r who.there on in
      let flown_then : HasFlown (served_in q) w.index names_then d' rs' = record {
        ending = flown.ending;
        staging = rw room flown.staging;
        telling = rw untold flown.telling;
        entries = rw (untold, ap length by.staged ∙ length-append w.names.staged.items (k ∷ []), entries_more) (omega (arith, flown.entries));
        gated = λ other x live needs.
            by_name other.0 id.0 (λ apart. flown.gated other x (sym (changed.others other.0 apart) ∙ live) needs)
            (λ eq.
            let is_it : x ≡ it' = cc (live, eq, changed.is_at) in
            absurd (false≢true (sym who.free ∙ ap (λ a. is_durable a.kind && not it.permit) (sym cursor.asked) ∙ ap needs_permit (sym is_it) ∙ needs)));
        plain = plain_kept f rs k (starts_plain s.opens) w.index (λ r. refl) flown.plain;
        landed = landed_on w.names names_then d d' rs rs' (operations d.ring) flown.landed
            (λ other x r given live flies found landed.
            let j = number_in w.names.requests.items other in
            let apart : other ≢ id.0 = λ same.
            let both : x ≡ it = cc (live, who.live, same) in
            false≢true (sym who.idle ∙ ap (λ y. y.in_flight) (sym both) ∙ flies) in
            let apart_k = apart_number w.index w.names names_then d d' w.home.timers rs s.sleepers.items id.0 it it' who.r f one sound.named other (rw (entry_of (value_at d.requests other) x live) refl) apart in
            record { it' = x; r' = r; live = changed.others other apart ∙ live; flies = refl; same = refl; number = refl; there = marked f rs k j r found ∙ ap (λ b. Some (mark_if f b r)) (not_same k j apart_k); phase = refl });
        polled = ap (λ n. n + (one_if d.ring.armed + ends_in (completions d.ring))) (polls_same d.ring.staged by_driver.entry no_poll) ∙ flown.polled;
        owning = owning_on rs rs' all flown.owning;
        enrolling = λ other x live takes some.
            let differs : other.0 ≢ id.0 → is_among other d.lists.enrolments ≡ true = λ apart. flown.enrolling other x (sym (changed.others other.0 apart) ∙ live) takes some in
            by_name other.0 id.0 differs
            (λ eq.
            let is_it : x ≡ it' = cc (live, eq, changed.is_at) in
            flown.enrolling other it (ap (waiter_at d.requests) eq ∙ who.live) (ap (λ y. takes_tick y.state) (sym is_it) ∙ takes)
            (ap is_some (sym cursor.deadline) ∙ ap (λ y. is_some (deadline_of y.request)) (sym is_it) ∙ some));
        uncancelled = λ other x among found mine.
            let j = number_in w.names.requests.items other.0 in
            let old = was_marked f rs k j x found in
            ap (λ y. y.shown.cancel_staged) old.2 ∙ starts_if_cancel s.opens (k == j) old.0 ∙ flown.uncancelled other old.0 among old.1 (sym (starts_if_worker s.opens (k == j) old.0) ∙ sym (ap (λ y. y.shown.worker) old.2) ∙ mine);
      } in
      let order : IsOrdered (went_round s.config w.moments) w.names.requests.items d'.requests d'.wheel d'.lists.enrolments d'.lists.due =
      eased (eases_written d.requests id.0 it it' who.live (λ t is. is) (λ none. none)) (alike_self d.wheel) (part_self d.lists.enrolments) (part_self d.lists.due) sound.due.order in
      let carried : IsCarried w.names.requests.items d'.requests d'.ring rs' s.store =
      subst (λ u. IsCarried w.names.requests.items d'.requests (with_entry d.ring by_driver.entry.window u) rs' s.store) (sym by_driver.user_data)
      (carried_staged w.names.requests.items d.requests d.ring rs s.store sound.carried id.0 it it' who.r f by_driver.entry.window who.live who.there who.queued refl refl
      (whole_kept it.request by_driver.request by_driver.kept (sound.carried.whole id.0 it who.live)) (stretch_kept it.request by_driver.request (has_hint (account_in s.opens (file_of it.request))) s.store by_driver.kept (by_driver.again ∙ by_driver.window) cursor.moved cursor.switched (sound.carried.stretch id.0 it who.live)) (ap (λ x. x.target) by_driver.kept) by_driver.again
      (λ other x live apart. apart_number w.index w.names names_then d d' w.home.timers rs s.sleepers.items id.0 it it' who.r f one sound.named other (rw (entry_of (value_at d.requests other) x live) refl) apart)) in
      let keeps_ask : (y : Record) → KeepsAsk y (f y) = λ y. record { id = refl; worker = refl; kind = refl; target = refl; unrefused = λ h. h } in
      let known : IsKnown w.index w.names.requests.items d'.requests s.opens rs' =
      known_written w.index w.names.requests.items d.requests s.opens s.opens rs k f keeps_ask (λ file h. h) id.0 it it' who.r refl who.live who.there (staged_asks it.request by_driver.request s.opens o.target target by_driver.asks) sound.known in
      let keeps : Keeps w' s' =
      keeps_all w w' s s' rs' d' same by.shared by_driver.driver by.records
      (subst (λ y. KeepsBy (record w { place = y; put_off = w'.put_off; names = names_then }) d' w.home.timers rs' s.sleepers.items s) (sym there)
      (keeps_one q q w'.put_off w'.names w s d' id.0 it it' who.r f sound (stages_again idle.gate v) one (subst IsPunctual by_driver.driver punctual) (λ h. idle.due) order sound.due.wheel refl submitted flown_then carried refl known)) in
      let serves : Serves q w w' s s' = serves_to q q w w' s s' (subst (IsServed w) (sym by.worker) refl) (subst (OthersKept s) (sym by.shared) refl) there (stages_again idle.gate v) in
      let show = shows q w w' s s' d' serves by_driver.driver (ap (λ (x : Worker). x.home.timers) by.worker) in
      let seen : visible w' ≡ visible w = show.seen in
      let spares : SparesRecords w.index s s' = spares_one w.index s s' k who.r f (opens_same s.opens s'.opens s.requests.items sound.gates (ap (λ (y : Shared B). y.opens) by.shared)) (record { at = ap (λ b. record (at_gate who.r) { gated = b }) (sym (ap is_gated who.queued)); over = λ h. absurd (false≢true (sym unresolved ∙ h)); sent = refl; forwarded = λ h. h }) by.records (ap (λ (y : Shared B). y.sleepers.items) by.shared) who.there who.worker (λ y. refl) in
      let w0 : Worker = record w { place = q } in
      let was = entry_of (value_at d.requests id.0) it who.live in
      let slots = slots_written w.names.requests.items d.requests id.0 (Pending it) (Pending it') was in
      let awaited = awaited_written w.names.requests.items d.requests id.0 (Pending it) (Pending it') was refl in
      let flying : flying_count d'.requests ≡ flying_count d.requests + 1 =
      omega (arith, ap one_if_waiter who.idle, flying_after d.requests id.0 it it' who.live) in
      subst (λ x. Steps left spot w s x w' s') (sym by.event)
      (served left spot q w w' s s' (Stage k) sound serves keeps spares (balances_still q w w' s s' sound.here serves spares (ap passes_at there) (ap (λ (x : Worker). x.home.deferred.notes.wakes.items) by.worker) (ap (map thing_of) by.records ∙ map_changed thing_of rs k who.r f who.there (ap (λ b. record (thing_of who.r) { ended = b }) (sym (ap outcome_in who.queued)))) (ap (λ (y : Shared B). map nap_of y.sleepers.items) by.shared))
      (λ p vs suits.
      let c = p.config in
      let all = common_of left spot p vs s in
      let sized : d.ring.size ≡ ring_size c = sound.sized ∙ ap ring_size suits.config in
      let request : request_of all k ≡ who.r.shown = request_seen rs k who.r who.there in
      let numbers : numbers_of w.names.requests.items d.lists.queued ≡ k ∷ numbers_of w.names.requests.items (rest_of d.lists.queued) = ap (numbers_of w.names.requests.items) (split_first id d.lists.queued first) in
      let few : nat_lt (flying_count d.requests) (ring_size c) ≡ true = ap (nat_lt (flying_count d.requests)) (sym sized) ∙ second_true (has_first d.lists.queued) (nat_lt (flying_count d.requests) d.ring.size) may in
      let due : staging_due c (own_of w0) (desk_of w0) ≡ Stages k =
      rw (flush_seen c w0 sized, unflushed, none, few, numbers) refl in
      record {
        moves =
            ap (move_submit c w.index (own_of w0) all (desk_of w0) (things_with vs s) idle.gate v) (staging_next left spot v w0 s (idle_at v w s idle) p vs (suits_at q p vs w s suits) ∙ due)
            ∙ ap (makes (Stage k) (submits v idle.gate (one_more (desk_of w0)))) (ring_again (things_with vs s) w.index all)
            ∙ ap (λ x. makes (Stage k) x (things_with vs s)) (sym (show.desk ∙ rw (there, off, ap (λ x. x.home.deferred) by.worker, entries_more, slots, awaited) refl))
            ∙ ap (makes (Stage k) (desk_of w')) (sym (things_kept vs w.index (visible w) (visible w') s s' suits.seen (ap (λ y. y.wakes) seen) serves.shared spares));
        may = (at_large q w s sound refl, (ap (λ ks. is_number k (slice_get ks 0)) numbers ∙ eq-eqb k k refl, (ap (λ x. x.worker == w.index) request ∙ ap (λ i. i == w.index) who.worker ∙ eq-eqb w.index w.index refl, (ap (λ x. is_phase_queued x.phase) request ∙ ap is_phase_queued who.queued, (ap (λ x. not x.cancelled) request ∙ ap not (who.alike.cancelled ∙ who.unasked), (ap is_enrolled request ∙ who.enrolled, (few, tt)))))));
        own = show.own ∙ rw (there, ap (λ x. x.names.ended) by.worker, untold, numbers, flying) refl;
        common =
            common_changed left spot p (with_view vs w.index (visible w')) s s' k who.r f by.shared by.records who.there (ap (λ b. record (name_in who.r) { over = b && is_durable who.r.shown.operation.kind }) (sym unresolved))
            ∙ ap (λ (x : Common). record x { requests = slice_set (map (λ y. y.shown) rs) k (f who.r).shown }) (common_same left spot p vs w w' s suits (λ c. ap (λ y. seat_seen y c) seen))
            ∙ ap (λ x. record all { requests = slice_set (map (λ y. y.shown) rs) k (record who.r.shown { operation = x; phase = RequestPhase.Staged }) }) (hint_seen rs s.opens o sound.gates (λ of. sound.gates.there k who.r who.there of))
            ∙ ap (λ x. record all { requests = slice_set (map (λ y. y.shown) rs) k (staged all x) }) (sym request);
      }))
