-- A deadline that goes on the wheel is a step.
use Rattle.exec_invariants.{specs.{Due.IsWheelAt, Holding.{nap_of, thing_of}, Places.passes_at, Submits.IsNewIn, Works.Steps}, proofs.{Words.{◌≡◌, ◌+◌, ◌*◌, ◌^◌, ◌<◌, ◌≤◌, ◌==◌, not, ◌∷◌, map, Option, Some, None, IfSome, refl, sym, ap, subst, ◌∙◌, arith, slice_get, slice_set, eq-eqb, append-nil, unwrap_or, option_map, value_at, flying_count, Tells, nothing_told, Pending, WaiterId, entry_of, first_of, rest_of, after_enrolment, IsPunctual, enrolled_by, told_by_enrolment, tick_for, ended_by, Said, Event, Enrol, fires_at, outcome_at_enrol, is_none, is_number, same_end, is_phase_queued, Common, request_of, due_next, first_due, Enrols, Place, InService, Names, Shared, Worker, number_in, outcome_of_error, Spot, visible, with_view, own_of, desk_of, driver_of, common_of, seat_seen, numbers_of}, Serving.{at_large, balances_still, SparesRecords, spares_one}, ServingHolds.{serves_to, IsServed, OthersKept, keeps_home, Serves, Keeps, KeepsBy}, Recorded.request_seen, Lined.{map_changed, opens_same}, Slotted.{awaited_written, slots_written}, Changing.flying_after, Enrolled.{HasEnrolled, new_first}, Enrolling.{enrol_same, ended_not}, Idling.none_due, Seeing.{shows, served, common_changed, common_same, things_kept}, Staging.{split_first, stages_again}, Timed.{comes_to_new, keeps_timed, keeps_untold, timed_driver, timed_records, timed_waiter, times, unset}}}

pub enrol_stays : {B L : Type 0} (left : B → L) (spot : L → Option Said → Spot) (w w' : Worker) (s s' : Shared B) (e : Event) (id : WaiterId) → (new : IsNewIn w s) → first_of (driver_of w).lists.enrolments ≡ Some id → HasEnrolled w w' s s' e id None → w'.names ≡ w.names → Steps left spot w s e w' s'
enrol_stays {B} left spot w w' s s' e id new first by names =
    let v = new.submits.service in
    let q : Place = Place.Service (InService.Submit new.submits.gate) v in
    let sound = new.submits.sound in
    let d = driver_of w in
    let rs = s.requests.items in
    let k = number_in w.names.requests.items id.0 in
    let who = new_first w s new id first in
    let it = who.it in
    let c = s.config in
    let w0 : Worker = record w { place = q } in
    let enrols = by.enrols it who.deadline who.live who.asked in
    let okay = ended_not (tick_for d.wheel who.deadline w.moments.sampled) (sym enrols.told_is) in
    let it' = timed_waiter w s new id first okay.0 in
    let d' = timed_driver w s new id first okay.0 in
    let driver : driver_of w' ≡ d' = enrols.driver ∙ ap (enrolled_by (record d { lists = after_enrolment d.lists }) id it) okay.1 in
    let tells : Tells w.home.deferred w'.home.deferred nothing_told = subst (λ x. Tells w.home.deferred w'.home.deferred (told_by_enrolment id it x)) okay.1 enrols.tells in
    let begun : w.moments.start ≤ w.moments.sampled = omega (arith, sound.time.begun, sound.time.ordered) in
    let bounded : who.deadline < 2 ^ 63 = subst (λ o. IfSome o (λ m. m < 2 ^ 63)) who.told (sound.flown.plain k who.r who.there who.worker).deadline in
    let within : who.deadline + c.tick < 2 ^ 64 = omega (arith, bounded, sound.config.tick) in
    let wheel : IsWheelAt c w.moments.start w.moments.sampled d.wheel = sound.due.wheel in
    let outcome : outcome_at_enrol c (own_of w0) (Some who.deadline) ≡ None =
    sym (enrol_same c (own_of w0) d.wheel w.moments.sampled who.deadline wheel refl sound.config.some_tick begun within) ∙ ap (λ x. outcome_of_error (ended_by x)) okay.1 in
    let rs' = timed_records w s new id first in
    let f = times w.moments.start c.tick in
    let a = who.alike in
    let free = unset it.state who.takes in
    let deferred = w'.home.deferred in
    let w1 : Worker = record w { place = q; home = record w.home { deferred = deferred } } in
    let w2 : Worker = record w1 { home = record w1.home { driver = w'.home.driver } } in
    let same : w' ≡ record w { home = record w.home { driver = w'.home.driver; deferred = deferred } } =
    by.worker ∙ ap (λ (x : Names). record w { home = record w.home { driver = w'.home.driver; deferred = deferred }; names = record w.names { ended = x.ended } }) names in
    let there : w'.place ≡ q = ap (λ x. x.place) same ∙ sound.here in
    let same2 : w' ≡ w2 = same ∙ ap (λ y. record w { place = y; home = record w.home { driver = w'.home.driver; deferred = deferred } }) sound.here in
    let kept : KeepsBy w0 d' w.home.timers rs' s.sleepers.items s =
    keeps_timed w s new id first okay.0 by.bounded okay.1 (subst IsPunctual driver by.punctual) in
    let keeps : Keeps w' s' = keeps_home w1 w' s s' rs' d' same2 by.shared driver by.records (keeps_untold w0 d' w.home.timers rs' s.sleepers.items s deferred tells kept) in
    let serves : Serves q w w' s s' = serves_to q q w w' s s' (subst (IsServed w) (sym same) refl) (subst (OthersKept s) (sym by.shared) refl) there (stages_again new.submits.gate v) in
    let show = shows q w w' s s' d' serves driver (ap (λ (x : Worker). x.home.timers) same) in
    let seen : visible w' ≡ visible w = show.seen in
    let spares : SparesRecords w.index s s' = spares_one w.index s s' k who.r f (opens_same s.opens s'.opens s.requests.items sound.gates (ap (λ (y : Shared B). y.opens) by.shared)) (record { at = refl; over = λ h. h; sent = refl; forwarded = λ h. h }) by.records (ap (λ (y : Shared B). y.sleepers.items) by.shared) who.there who.worker (λ y. refl) in
    let wakes : deferred.notes.wakes.items ≡ w.home.deferred.notes.wakes.items = tells.notes.wakes_added ∙ append-nil w.home.deferred.notes.wakes.items in
    let outputs : deferred.outputs.items ≡ w.home.deferred.outputs.items = tells.outputs_added ∙ append-nil w.home.deferred.outputs.items in
    let completions : deferred.notes.completions.items ≡ w.home.deferred.notes.completions.items = tells.notes.completions_added ∙ append-nil w.home.deferred.notes.completions.items in
    let results : deferred.results.items ≡ w.home.deferred.results.items = tells.results_added ∙ append-nil w.home.deferred.results.items in
    let was = entry_of (value_at d.requests id.0) it who.live in
    let slots = slots_written w.names.requests.items d.requests id.0 (Pending it) (Pending it') was in
    let awaited = awaited_written w.names.requests.items d.requests id.0 (Pending it) (Pending it') was refl in
    let flying : flying_count d'.requests ≡ flying_count d.requests =
    omega (arith, flying_after d.requests id.0 it it' who.live) in
    let numbers : numbers_of w.names.requests.items d.lists.enrolments ≡ k ∷ numbers_of w.names.requests.items (rest_of d.lists.enrolments) = ap (numbers_of w.names.requests.items) (split_first id d.lists.enrolments first) in
    subst (λ x. Steps left spot w s x w' s') (sym by.event)
    (served left spot q w w' s s' (Enrol k None) sound serves keeps spares (balances_still q w w' s s' sound.here serves spares (ap passes_at there) (ap (λ (x : Worker). x.home.deferred.notes.wakes.items) same ∙ wakes) (ap (map thing_of) by.records ∙ map_changed thing_of rs k who.r f who.there refl) (ap (λ (y : Shared B). map nap_of y.sleepers.items) by.shared))
    (λ p vs suits.
    let cp = p.config in
    let all = common_of left spot p vs s in
    let request : request_of all k ≡ who.r.shown = request_seen rs k who.r who.there in
    let asked : (request_of all k).operation.deadline ≡ Some who.deadline = ap (λ x. x.operation.deadline) request ∙ who.told in
    let ends : outcome_at_enrol cp (own_of w0) (request_of all k).operation.deadline ≡ None = ap (outcome_at_enrol cp (own_of w0)) asked ∙ ap (λ x. outcome_at_enrol x (own_of w0) (Some who.deadline)) (sym suits.config) ∙ outcome in
    let none : first_due cp w.index (own_of w0) all ≡ None =
    subst (λ x. first_due x w.index (own_of w0) all ≡ None) suits.config
    (none_due _ w.index w.moments s.config w.names d w.home.timers rs s.sleepers.items sound.due sound.named sound.config.some_tick begun (own_of w0) all refl refl new.due) in
    let due : due_next cp w.index new.submits.gate (own_of w0) all (desk_of w0) ≡ Enrols k =
    comes_to_new cp w.index new.submits.gate k (own_of w0) all (desk_of w0) none (ap (λ ks. slice_get ks 0) numbers) in
    let desk : desk_of w' ≡ desk_of w0 = show.desk ∙ rw (there, ap (λ x. x.put_off) same, wakes, outputs, completions, results, slots, awaited) refl in
    record {
      moves = grind (arith, due, ends, desk, things_kept vs w.index (visible w) (visible w') s s' suits.seen (ap (λ y. y.wakes) seen) serves.shared spares);
      may = (
        at_large q w s sound refl,
        (
          ap (λ ks. is_number k (slice_get ks 0)) numbers ∙ eq-eqb k k refl,
          (
            ap (λ x. x.worker == w.index) request ∙ ap (λ i. i == w.index) who.worker ∙ eq-eqb w.index w.index refl,
            (
              ap (λ x. is_phase_queued x.phase) request ∙ ap is_phase_queued who.queued,
              (ap (λ x. is_none x.timer) request ∙ ap is_none (a.timer ∙ ap (option_map (λ m. d.wheel.start + m * d.wheel.tick)) free.0), (ap (λ o. not (is_none o)) asked, (ap (same_end None) ends, tt))),
            ),
          ),
        ),
      );
      own = show.own ∙ rw (there, ap (λ x. x.names.ended) same, ap (λ x. x.names.untold) same, numbers, flying) refl;
      common =
          common_changed left spot p (with_view vs w.index (visible w')) s s' k who.r f by.shared by.records who.there refl
          ∙ ap (λ (x : Common). record x { requests = slice_set (map (λ r. r.shown) rs) k (f who.r).shown }) (common_same left spot p vs w w' s suits (λ c'. ap (λ y. seat_seen y c') seen))
          ∙ ap (λ y. record all { requests = slice_set (map (λ r. r.shown) rs) k (record who.r.shown { timer = Some (fires_at y (own_of w0) (unwrap_or who.r.shown.operation.deadline 0)) }) }) suits.config
          ∙ ap (λ x. record all { requests = slice_set (map (λ r. r.shown) rs) k (record x { timer = Some (fires_at cp (own_of w0) (unwrap_or x.operation.deadline 0)) }) }) (sym request);
    }))
