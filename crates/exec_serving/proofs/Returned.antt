-- An operation that has landed, whose request goes on: a step.
use Rattle.std.proofs.{Common.{◌≡◌, ℕ, ◌+◌, ◌-◌, ◌<◌, ◌&&◌, true, false, List, [], ◌∷◌, ◌++◌, length, map, Option, None, refl, sym, ap, subst, ◌∙◌, arith}, lemmas.{Bool.false≢true, List.append-nil}}
use Rattle.exec_base.specs.Slab.{value_at}
use Rattle.exec_outcomes.specs.Outcomes.{is_unsupported, refuses_hint}
use Rattle.exec_request.specs.Requests.{asked_of, hinted_of}
use Rattle.exec_ring.specs.{Completions.result_in, declared.completion.Completion.Completion}
use Rattle.exec_waiters.{specs.{States.{file_of, flying_count}, Told.{Tells, nothing_told}, declared.{waiter.Entry.TheVariants.Pending, waiter_id.WaiterId.WaiterId}}, proofs.Changes.{entry_of, one_if}}
use Rattle.exec_driver.specs.{Driving.Driving, Punctual.IsPunctual, Steps.open_after}
use Rattle.exec_opens.specs.Opens.{account_in, with_account}
use Rattle.exec_task.specs.declared.body.Said.{Said}
use Rattle.exec_machine.specs.{declared.event.Event.{Event, TheVariants.Reap}, Requests.{judged_of, outcome_given}, Tests.{is_gated, is_of_file}}
use Rattle.exec_moves.specs.{Seen.serves_at, Serve.{after_permit, back_from_reap, others_after_reap}, State.dropped, Thing.{set_wake_poll, with_ring}, declared.place.{Place.Place, Reaping.Reaping, Service.Service, InService.InService}}
use Rattle.exec_parts.specs.{declared.parts.{mail.Reply.Reply, shared.Shared.Shared, worker.Worker.Worker}, Records.{number_in, outcome_in}, Serving.changed_at, Spots.Spot, View.{awaited_from, numbers_of_passing, slots_seen, visible, with_view, own_of, desk_of, driver_of, number_told, numbers_of, things_with}}
use Rattle.exec_invariants.{specs.{Due.may_be_due, Flown.operations, Gates.{IsKnown, at_gate}, Holding.{nap_of, thing_of}, Places.passes_at, Sound.{SoundAt, served_in}, Works.Steps}, proofs.{Mine.live_mine, Raising.poll_shows, Serving.{SparesRecords, at_large, balances_still, spares_one}, ServingHolds.{serves_to, IsServed, OthersKept, keeps_home, Follows, Keeps, KeepsBy, Serves}, Changing.flying_after, Accounted.{OpensJudged, opens_judged}, Judging.{given_is, judged_same}, Lined.{gates_seen_same, map_changed, passing_same, was_sent}, Seeing.{makes, own_with, served, shows}, Slotted.{awaited_written, slots_written}, Untold.keeps_untold}}
use Rattle.exec_serving.proofs.{Requeued.{GoesBack, back_alike, back_waiter, goes_back, keeps_back, known_back}, Sweeping.follows_reap, Viewed.{common_back, may_back, moves_back}}

-- WHERE IT LEADS

pub follows_back : (rp : Reaping) (v : Service) (later : List ℕ) → Follows (Place.Service (InService.Reap rp) v) (Place.Service (after_permit (back_from_reap rp later)) v)
follows_back rp v [] = follows_reap rp v
follows_back rp v (k ∷ later) = record { from = refl; to = refl; serves = refl; armed = refl; closes = refl; wakes = refl; moment = λ m. refl; searches = refl; published = refl; bare = refl; batch = λ ms h. h }

pub not_due : (rp : Reaping) (v : Service) → may_be_due (served_in (Place.Service (InService.Reap rp) v)) ≡ false
not_due Reaping.First v = refl
not_due Reaping.Last v = refl

pub served_back : (rp : Reaping) (v : Service) (later : List ℕ) → serves_at (Place.Service (after_permit (back_from_reap rp later)) v) ≡ true
served_back = grind arith

pub passes_back : (rp : Reaping) (v : Service) (later : List ℕ) → passes_at (Place.Service (after_permit (back_from_reap rp later)) v) ≡ None
passes_back = grind arith

pub numbers_push : (numbers : List ℕ) (ids : List WaiterId) (id : WaiterId) → numbers_of numbers (ids ++ id ∷ []) ≡ numbers_of numbers ids ++ number_in numbers id.0 ∷ []
numbers_push numbers [] id = refl
numbers_push numbers (x ∷ ids) id = ap (λ ns. number_in numbers x.0 ∷ ns) (numbers_push numbers ids id)

pub one_fewer : (a b m n : ℕ) → a + m ≡ b + n → m ≡ 1 → n ≡ 0 → a ≡ b - 1
one_fewer a b m n is one none = omega (arith, is, one, none)

module _ {B L : Type 0} (left : B → L) (spot : L → Option Said → Spot) (rp : Reaping) (v : Service) (w : Worker) (s : Shared B) (sound : SoundAt (Place.Service (InService.Reap rp) v) w s) (waits : sound.seated.seat.raised ≡ 0) (c : Completion) (cs : List Completion) (is : operations (driver_of w).ring ≡ c ∷ cs) where
  abbrev pub place_back : Place
  place_back = Place.Service (after_permit (back_from_reap rp (map (number_told w.names.requests.items) cs))) v

  own_back : (d' : Driving Reply Reply) (back : GoesBack w s d' c cs) →
      let me = own_with w place_back w.names.ended.items w.names.untold.items (driver_of w) in
      own_with w place_back w.names.ended.items w.names.untold.items d' ≡ record me { ready = me.ready ++ number_in w.names.requests.items back.h.id ∷ []; in_flight = me.in_flight - 1 }
  own_back d' back =
      let n = w.names.requests.items in
      let d = driver_of w in
      let k = number_in n back.h.id in
      let me' = own_with w place_back w.names.ended.items w.names.untold.items d' in
      let flying : flying_count d'.requests ≡ flying_count d.requests - 1 =
      ap flying_count back.requests ∙ one_fewer _ _ _ _ (flying_after d.requests back.h.id back.h.it (record back.h.it { in_flight = false; request = back.request }) back.h.live) (ap one_if back.h.flies) refl in
      ap (λ l. record me' { ready = numbers_of n l.queued; unenrolled = numbers_of n l.enrolments; cancels = numbers_of n l.cancels }) back.lists
      ∙ ap (λ ns. record me' { ready = ns; unenrolled = numbers_of n d.lists.enrolments; cancels = numbers_of n d.lists.cancels }) (numbers_push n d.lists.queued (record { 0 = back.h.id }))
      ∙ ap (λ m. record me' { ready = numbers_of n d.lists.queued ++ k ∷ []; unenrolled = numbers_of n d.lists.enrolments; cancels = numbers_of n d.lists.cancels; in_flight = m }) flying

  pub reaped_back : (w' : Worker) (s' : Shared B) (e : Event) (back : GoesBack w s (driver_of w') c cs) → IsPunctual (driver_of w') → e ≡ Reap (number_in w.names.requests.items back.h.id) (result_in c.result) None
      → s'.requests.items ≡ changed_at s.requests.items (number_in w.names.requests.items back.h.id) (goes_back (result_in c.result)) → s' ≡ record s { requests = s'.requests; opens = s'.opens }
      → s'.opens ≡ with_account s.opens (file_of back.h.it.request) (open_after back.h.it (result_in c.result) (account_in s.opens (file_of back.h.it.request))) → Tells w.home.deferred w'.home.deferred nothing_told
      → w' ≡ record w { place = place_back; home = record w.home { driver = w'.home.driver; deferred = w'.home.deferred } } → Steps left spot w s e w' s'
  reaped_back w' s' e back punctual event records shared opens tells same =
      let q : Place = Place.Service (InService.Reap rp) v in
      let q' : Place = place_back in
      let d = driver_of w in
      let d' = driver_of w' in
      let rs = s.requests.items in
      let n = w.names.requests.items in
      let h = back.h in
      let k = number_in n h.id in
      let given = result_in c.result in
      let w0 : Worker = record w { place = q } in
      let deferred = w'.home.deferred in
      let follows = follows_back rp v (map (number_told n) cs) in
      let ring = back.ring in
      let kept : KeepsBy (record w { place = q' }) d' w.home.timers (changed_at rs k (goes_back given)) s.sleepers.items s =
      keeps_back q q' w s sound d' c cs back follows punctual (λ h. ap (λ l. l.due) back.lists ∙ sound.due.told (not_due rp v)) in
      let a = back_alike q q' w s sound d' c cs back in
      let within : is_of_file (asked_of h.it.request).kind ≡ true → h.r.shown.operation.target < length s.opens = λ of. sound.gates.there k h.r h.there (ap (λ x. is_of_file x.kind) a.asked ∙ of) in
      let by_driver = opens_judged h.it given s.opens s'.opens rs h.r.shown.operation.target sound.gates (sound.carried.target h.id h.it h.r h.live h.there) within opens in
      let refuses : (hinted_of h.it.request && is_unsupported given) ≡ refuses_hint (judged_of h.r.shown given) = sym (ap refuses_hint (judged_same d.wheel.start d.wheel.tick h.it h.r.shown a given h.flies)) in
      let judged : OpensJudged s.opens s'.opens (refuses_hint (judged_of h.r.shown given)) h.r.shown.operation.target = subst (λ b. OpensJudged s.opens s'.opens b h.r.shown.operation.target) refuses by_driver in
      let s1 : Shared B = record s { opens = s'.opens } in
      let known = subst (λ x. IsKnown w.index n x s'.opens (changed_at rs k (goes_back given))) (sym back.requests) (known_back q q' w s sound d' c cs back judged.same.hints) in
      let kept1 : KeepsBy (record w { place = q' }) d' w.home.timers (changed_at rs k (goes_back given)) s.sleepers.items s1 =
      record { told = kept.told; wide = kept.wide; named = kept.named; sized = kept.sized; over = kept.over; quiet = kept.quiet; due = kept.due; flown = kept.flown; carried = kept.carried; known = known; rooted = kept.rooted; bare = kept.bare } in
      let w1 : Worker = record w { place = q'; home = record w.home { deferred = deferred } } in
      let untold : KeepsBy w1 d' w.home.timers (changed_at rs k (goes_back given)) s.sleepers.items s1 = keeps_untold (record w { place = q' }) d' w.home.timers (changed_at rs k (goes_back given)) s.sleepers.items s1 deferred tells kept1 in
      let keeps : Keeps w' s' = keeps_home w1 w' s1 s' (changed_at rs k (goes_back given)) d' same shared refl records untold in
      let there : w'.place ≡ q' = ap (λ x. x.place) same in
      let serves : Serves q w w' s s' = serves_to q q' w w' s s' (subst (IsServed w) (sym same) refl) (subst (OthersKept s) (sym shared) refl) there follows in
      let show = shows q w w' s s' d' serves refl (ap (λ (x : Worker). x.home.timers) same) in
      let wakes : deferred.notes.wakes.items ≡ w.home.deferred.notes.wakes.items = tells.notes.wakes_added ∙ append-nil w.home.deferred.notes.wakes.items in
      let outputs : deferred.outputs.items ≡ w.home.deferred.outputs.items = tells.outputs_added ∙ append-nil w.home.deferred.outputs.items in
      let completions_same : deferred.notes.completions.items ≡ w.home.deferred.notes.completions.items = tells.notes.completions_added ∙ append-nil w.home.deferred.notes.completions.items in
      let results_same : deferred.results.items ≡ w.home.deferred.results.items = tells.results_added ∙ append-nil w.home.deferred.results.items in
      let was = entry_of (value_at d.requests h.id) h.it h.live in
      let it' = back_waiter q q' w s sound d' c cs back in
      let slots : slots_seen n d'.requests ≡ slots_seen n d.requests = ap (slots_seen n) back.requests ∙ slots_written n d.requests h.id (Pending h.it) (Pending it') was in
      let awaited : awaited_from 0 n d'.requests.slots ≡ awaited_from 0 n d.requests.slots = ap (λ x. awaited_from 0 n x.slots) back.requests ∙ awaited_written n d.requests h.id (Pending h.it) (Pending it') was refl in
      let later = map (number_told n) cs in
      let wakes_then = dropped later (visible w).wakes in
      let seen : visible w' ≡ record (visible w) { landed = later; wakes = wakes_then } = grind (arith, show.seen, ring.busy, ring.landed, ring.poll) in
      let desk : desk_of w' ≡ record (others_after_reap later (visible w).wakes (desk_of w0)) { place = q' } = grind (arith, show.desk, ring.staged, ring.armed, ring.others) in
      let answer : outcome_given h.r.shown given ≡ None = given_is d.wheel.start d.wheel.tick h.it h.r.shown a given h.flies back.request None back.judges in
      let spares : SparesRecords w.index s s' = spares_one w.index s s' k h.r (goes_back given) judged.same (record { at = ap (λ b. record (at_gate h.r) { gated = b }) (sym (ap is_gated h.landed)); over = λ over. absurd (false≢true (sym a.open_still ∙ over)); sent = refl; forwarded = λ f. f }) records (ap (λ (y : Shared B). y.sleepers.items) shared) h.there (live_mine w.index w.names d w.home.timers rs s.sleepers.items sound.named h.id h.it h.r h.live h.there) (λ y. refl) in
      subst (λ x. Steps left spot w s x w' s') (sym event)
      (served left spot q w w' s s' (Reap k given None) sound serves keeps spares
      (balances_still q w w' s s' sound.here serves spares (ap passes_at there ∙ passes_back rp v later) wakes (ap (map thing_of) records ∙ map_changed thing_of rs k h.r (goes_back given) h.there (ap (λ o. record (thing_of h.r) { ended = o }) (sym (ap outcome_in h.landed)))) (ap (λ (y : Shared B). map nap_of y.sleepers.items) shared))
      (λ p vs suits.
      record {
        moves =
            ap (with_ring w.index (things_with vs s)) (moves_back left spot rp v w s sound waits c cs is h p vs suits (desk_of w0) answer)
            ∙ ap (λ x. makes (Reap k given None) x (set_wake_poll w.index (things_with vs s) wakes_then)) (sym desk)
            ∙ ap (makes (Reap k given None) (desk_of w'))
            (sym (ap (things_with (with_view vs w.index (visible w'))) shared
            ∙ ap (λ gs. record (things_with (with_view vs w.index (visible w')) s) { gates = gs; answers = numbers_of_passing was_sent 0 s'.requests.items }) (gates_seen_same rs s'.requests.items s.opens s'.opens spares.lines spares.opens)
            ∙ ap (λ ns. record (things_with (with_view vs w.index (visible w')) s) { answers = ns }) (passing_same was_sent rs s'.requests.items spares.lines.sent)
            ∙ poll_shows vs w.index s sound.seated.seat sound.seated.there waits (visible w') ∙ ap (λ y. set_wake_poll w.index (things_with vs s) y.wakes) seen));
        may = may_back left spot rp v w s sound waits c cs is h p vs suits (own_of w0) (at_large q w s sound refl) answer;
        own = grind (arith, show.own, there, same, own_back d' back, served_back rp v (map (number_told n) cs));
        common = common_back left spot rp v w s sound waits c cs is h p vs suits s' w' wakes_then shared records judged answer a.open_still seen;
      }))
