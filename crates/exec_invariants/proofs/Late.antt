-- A deadline that has passed, or is beyond the wheel, ends its request.
use Rattle.exec_invariants.{proofs.{Names.{◌≡◌, ◌≢◌, ℕ, ◌+◌, ◌*◌, ◌^◌, ◌<◌, ◌≤◌, ◌==◌, ◌&&◌, true, false, not, ◌∷◌, ◌++◌, map, filter, is_some, Option, Some, None, IsSome, IfSome, refl, sym, ap, subst, ◌∙◌, arith, slice_get, slice_set, drop, Result, Ok, Err, eq-eqb, option_map, value_at, Error, is_durable, Outcome, Failure, deadline_of, output_of, Asking, finished, told_by_finish, waker_in, tick_in, Tells, Told, WaiterId, Driving, request_at, is_listed_queued as is_queued, is_unenrolled, is_cancelled, IsPunctual, told_by_enrolment, tick_for, ended_by, unscheduled, first_of, rest_of, without, withdrawn, Said, Event, Enrol, Request, outcome_at_enrol, is_none, is_number, same_end, is_gated, is_landed, is_queued as is_phase_queued, is_resolved, Common, request_of, resolved, told_of_end, Desk, due_next, first_due, submits, Enrols, Service, Place, InService, Reply, Record, Shared, Worker, number_in, changed_at, outcome_of_error, Spot, visible, with_view, own_of, desk_of, driver_of, common_of, seat_seen, numbers_of, and_right, own_after, common_after, ListsRequests, deque_capacity, Plan, AllTrue, allowed, Plain, move_at, things_with, Views, waiter_at, Waiter, RequestPhase, [], false≢true, Expire}, Serving.{at_large, SparesRecords, kept, spares_one}, ServingHolds.{serves_to, IsServed, OthersKept, keeps_home, Serves, Keeps, KeepsBy}, ServingPlaces.calm, Recorded.request_seen, EndsServed.{desk_over, ends_thing}, Lined.opens_same, ServedEnds.{TellsEnd, ends_told}, ServedWakes.balances_ended, Enrolled.{HasEnrolled, new_first, timed_free}, Keys.name_in, Enrolling.enrol_same, Idling.none_due, Seeing.{shows, served, common_changed, common_same, things_kept}, Staging.{split_first, stages_again}, Ends.{flying_ended, numbers_without, without_first}, Orders.alike_unticked, Ousting.keeps_ended, Over.{OneEnds, Resolves, leaves_all}, Resolving.{slab_after, unticked_at}, Timed.{comes_to_new, unset}, Shown.makes, Expiring.{unticked_start, unticked_tick}}, specs.{Due.IsWheelAt, Gates.at_gate, Holding.nap_of, HoldPlaces.is_bare_at, Places.passes_at, Submits.IsNewIn, Works.{Steps, Suits}, Rooted.outcome_told, Sound.SoundAt, Names.IsAlike}}
pub use Rattle.exec_invariants.proofs.Results.{same_error_self}
pub use Rattle.exec_invariants.proofs.Mine.{stands}

-- THE OUTCOME

ended_is : (r : Result ℕ Error) (x : Error) → Some x ≡ ended_by r → r ≡ Err x
ended_is (Ok t) x is = absurd (cc)
ended_is (Err y) x is = cc

-- what its task hears is what the log tells
pub tells_error : (q : Asking) (x : Error) → is_some (deadline_of q) ≡ true → outcome_told (output_of q (Err x) None) ≡ Failure x
tells_error = grind arith

-- the place stays
pub same_place : (k : ℕ) (r : Request) (d : Desk) (v : Service) (gate : ℕ) → d.place ≡ Place.Service (InService.Submit gate) v → submits v gate (told_of_end k r d) ≡ told_of_end k r d
same_place = grind arith

abbrev pub ends_as : Outcome → Record → Record
ends_as outcome r = record r { shown = resolved outcome r.shown }

-- the name of one that isn't durable stays
pub over_named : (outcome : Outcome) (r : Record) → is_durable r.shown.operation.kind ≡ false → name_in (ends_as outcome r) ≡ name_in r
over_named outcome r undurable =
    ap (λ c. record (name_in r) { over = true && c }) undurable ∙ sym (ap (λ c. record (name_in r) { over = c }) (and_right (is_resolved r.shown.phase) (is_durable r.shown.operation.kind) undurable))

module _ {B L : Type 0} (left : B → L) (spot : L → Option Said → Spot) where
  -- A request of a worker that is queued and has a deadline is over by an error, as its worker submits.
  module _ (gate : ℕ) (v : Service) (w w' : Worker) (s s' : Shared B) (e : Event) (id : WaiterId) (it : Waiter Reply Reply) (r : Record) (error : Error) (sound : SoundAt (Place.Service (InService.Submit gate) v) w s) (lists : ListsRequests (driver_of w)) (live : waiter_at (driver_of w).requests id.0 ≡ Some it)
      (at : slice_get s.requests.items (number_in w.names.requests.items id.0) ≡ Some r) (named : r.id.0 ≡ id.0) (mine : r.shown.worker ≡ w.index) (a : IsAlike (driver_of w).wheel.start (driver_of w).wheel.tick it r.shown) (small : id.0.generation < 2 ^ 64) (idle : it.in_flight ≡ false) (dated : is_some (deadline_of it.request) ≡ true) (queued : r.shown.phase ≡ RequestPhase.Queued)
      (driver : driver_of w' ≡ record (driver_of w) { requests = finished (driver_of w).requests id.0 it (Err error) None; wheel = unscheduled (driver_of w).wheel (tick_in it.state); lists = withdrawn id (driver_of w).lists }) (punctual : IsPunctual (driver_of w')) (tells : Tells w.home.deferred w'.home.deferred (told_by_finish id.0 it (Err error) None))
      (ended : w'.names.ended.items ≡ w.names.ended.items ++ number_in w.names.requests.items id.0 ∷ []) (capacity : deque_capacity w'.names.ended ≡ deque_capacity w.names.ended) (records : s'.requests.items ≡ changed_at s.requests.items (number_in w.names.requests.items id.0) (ends_as (Failure error)))
      (worker : w' ≡ record w { home = record w.home { driver = w'.home.driver; deferred = w'.home.deferred }; names = record w.names { ended = w'.names.ended } }) (shared : s' ≡ record s { requests = s'.requests }) where
    abbrev k : ℕ
    k = number_in w.names.requests.items id.0

    abbrev here : Worker
    here = record w { place = Place.Service (InService.Submit gate) v }

    -- what the machine makes of it, as it would of one whose deadline has come
    pub record SeesLate (p : Plan) (vs : Views) : Type 0 where
      pub moves : move_at p.config w.index (own_of here) (common_of left spot p vs s) (desk_of here) (things_with vs s) (Place.Service (InService.Submit gate) v)
          ≡ makes e (submits v gate (told_of_end k r.shown (desk_of here))) (things_with vs s)
      pub may : AllTrue (allowed p.config (own_of here) (common_of left spot p vs s) w.index e Plain)
      pub own : own_after p.config (own_of here) (common_of left spot p vs s) w.index (Expire k (Some (Failure error))) Plain ≡ own_after p.config (own_of here) (common_of left spot p vs s) w.index e Plain
      pub common : common_after p.config (own_of here) (common_of left spot p vs s) w.index (Expire k (Some (Failure error))) Plain ≡ common_after p.config (own_of here) (common_of left spot p vs s) w.index e Plain

    pub late_ends : ((p : Plan) (vs : Views) → Suits p vs w s → SeesLate p vs) → Steps left spot w s e w' s'
    late_ends sees =
        let q : Place = Place.Service (InService.Submit gate) v in
        let d = driver_of w in
        let rs = s.requests.items in
        let n = w.names.requests.items in
        let outcome = Failure error in
        let told = output_of it.request (Err error) None in
        let t : Told Reply Reply = told_by_finish id.0 it (Err error) None in
        let d' : Driving Reply Reply = record d { requests = finished d.requests id.0 it (Err error) None; wheel = unscheduled d.wheel (tick_in it.state); lists = withdrawn id d.lists } in
        let plain = sound.flown.plain k r at mine in
        let wheel : IsWheelAt s.config w.moments.start w.moments.sampled d.wheel = sound.due.wheel in
        let ending_told : TellsEnd id.0 told it.observer t = ends_told id.0 it (Err error) None r.shown.forwarding a.near in
        let slab = slab_after d.requests id.0 it (Err error) None small live in
        let ends : Resolves r (ends_as outcome r) outcome = record { same = refl } in
        let one : OneEnds w.names d d'.requests rs id.0 it r (ends_as outcome) outcome told = assumption (live, at, slab, ends, leaves_all r outcome (ap is_landed queued) (ap is_resolved queued)) in
        let deferred = w'.home.deferred in
        let w1 : Worker = record w { place = q; names = record w.names { ended = w'.names.ended }; home = record w.home { deferred = deferred } } in
        let rs' = changed_at rs k (ends_as outcome) in
        let kept_now : KeepsBy w1 d' w.home.timers rs' s.sleepers.items s =
        keeps_ended w s d d' w.home.timers rs s.sleepers.items id.0 it r (ends_as outcome) outcome told q w'.names deferred t one (kept q w s sound (calm q refl))
        ending_told tells
        ended capacity idle (record { bounded = plain.bounded; moved = plain.moved; deadline = plain.deadline })
        (λ held. sym (tells_error it.request error dated))
        refl refl refl (unticked_start d.wheel (tick_in it.state)) (unticked_tick d.wheel (tick_in it.state))
        (subst IsPunctual driver punctual) (λ h. absurd (false≢true (sym h))) (unticked_at s.config w.moments.start w.moments.sampled d.wheel (tick_in it.state) wheel) (alike_unticked d.wheel (tick_in it.state)) refl (sym (ap is_bare_at sound.here)) in
        let w2 : Worker = record w1 { home = record w1.home { driver = w'.home.driver } } in
        let there : w'.place ≡ q = ap (λ x. x.place) worker ∙ sound.here in
        let same2 : w' ≡ w2 = worker ∙ ap (λ y. record w { place = y; home = record w.home { driver = w'.home.driver; deferred = deferred }; names = record w.names { ended = w'.names.ended } }) sound.here in
        let keeps : Keeps w' s' = keeps_home w1 w' s s' rs' d' same2 shared driver records kept_now in
        let serves : Serves q w w' s s' = serves_to q q w w' s s' (subst (IsServed w) (sym worker) refl) (subst (OthersKept s) (sym shared) refl) there (stages_again gate v) in
        let show = shows q w w' s s' d' serves driver (ap (λ (x : Worker). x.home.timers) worker) in
        let spares : SparesRecords w.index s s' = spares_one w.index s s' k r (ends_as outcome) (opens_same s.opens s'.opens s.requests.items sound.gates (ap (λ (y : Shared B). y.opens) shared)) (record { at = ap (λ b. record (at_gate r) { gated = b }) (sym (ap is_gated queued)); over = λ h. refl; sent = refl; forwarded = λ h. h }) records (ap (λ (y : Shared B). y.sleepers.items) shared) at mine (λ y. refl) in
        let apart : (x : WaiterId) → IsSome (value_at d.requests x.0) → x.0 ≢ id.0 → number_in n x.0 ≡ k → ⊥ = λ x some differs same.
        let one_r = sound.named.requests x.0 some in
        let both : one_r.0 ≡ r = cc (one_r.1, at, same) in
        differs (sym one_r.2 ∙ ap (λ y. y.id.0) both ∙ named) in
        let ready : numbers_of n (without id d.lists.queued) ≡ filter (λ j. not (j == k)) (numbers_of n d.lists.queued) =
        numbers_without n id d.lists.queued (λ x among. apart x (stands d x is_queued (request_at d x) refl refl (lists.queued x among))) in
        let unenrolled : numbers_of n (without id d.lists.enrolments) ≡ filter (λ j. not (j == k)) (numbers_of n d.lists.enrolments) =
        numbers_without n id d.lists.enrolments (λ x among. apart x (stands d x is_unenrolled (request_at d x) refl refl (lists.enrolments x among))) in
        let cancels : numbers_of n (without id d.lists.cancels) ≡ filter (λ j. not (j == k)) (numbers_of n d.lists.cancels) =
        numbers_without n id d.lists.cancels (λ x among. apart x (stands d x is_cancelled (request_at d x) refl refl (lists.cancels x among))) in
        let desk : desk_of w' ≡ told_of_end k r.shown (desk_of here) = grind (arith, show.desk, there, worker, desk_over w s q sound id.0 it live r at told t deferred ending_told tells) in
        served left spot q w w' s s' e sound serves keeps spares (balances_ended q w w' s s' k r (ends_as outcome) outcome (waker_in it.observer) sound.here serves at records (ap (λ (y : Shared B). map nap_of y.sleepers.items) shared)
        (ends_thing w s q sound id.0 it live r at (ends_as outcome) outcome mine refl) (tells.notes.wakes_added ∙ ap (λ ws. w.home.deferred.notes.wakes.items ++ ws) ending_told.wakes) spares (ap passes_at there))
        (λ p vs suits.
        let it_sees = sees p vs suits in
        record {
          moves = it_sees.moves ∙ ap (λ x. makes e x (things_with vs s)) (same_place k r.shown (desk_of here) v gate refl ∙ sym desk) ∙ ap (makes e (desk_of w')) (sym (things_kept vs w.index (visible w) (visible w') s s' suits.seen (ap (λ y. y.wakes) show.seen) serves.shared spares));
          may = it_sees.may;
          own = show.own ∙ rw (there, ended, ap (λ x. x.names.untold) worker, ready, unenrolled, cancels, flying_ended d.requests id.0 it (Err error) None live idle) refl ∙ it_sees.own;
          common =
              common_changed left spot p (with_view vs w.index (visible w')) s s' k r (ends_as outcome) shared records at (over_named outcome r (ap (λ y. is_durable y.kind) a.asked ∙ timed_free it.request dated))
              ∙ ap (λ (x : Common). record x { requests = slice_set (map (λ r. r.shown) rs) k (ends_as outcome r).shown }) (common_same left spot p vs w w' s suits (λ c'. ap (λ y. seat_seen y c') show.seen))
              ∙ ap (λ x. record (common_of left spot p vs s) { requests = slice_set (map (λ r. r.shown) rs) k (resolved outcome x) }) (sym (request_seen rs k r at)) ∙ it_sees.common;
        })

  pub enrol_ends : (w w' : Worker) (s s' : Shared B) (e : Event) (id : WaiterId) (error : Error) → (new : IsNewIn w s) → first_of (driver_of w).lists.enrolments ≡ Some id → HasEnrolled w w' s s' e id (Some error) → Steps left spot w s e w' s'
  enrol_ends w w' s s' e id error new first by =
      let v = new.submits.service in
      let gate = new.submits.gate in
      let sound = new.submits.sound in
      let d = driver_of w in
      let n = w.names.requests.items in
      let k = number_in n id.0 in
      let who = new_first w s new id first in
      let it = who.it in
      let c = s.config in
      let w0 : Worker = record w { place = Place.Service (InService.Submit gate) v } in
      let now = w.moments.sampled in
      let enrols = by.enrols it who.deadline who.live who.asked in
      let ending = ended_is (tick_for d.wheel who.deadline now) error enrols.told_is in
      let outcome = Failure error in
      let others = rest_of d.lists.enrolments in
      let split : d.lists.enrolments ≡ id ∷ others = split_first id d.lists.enrolments first in
      let enrolments : without id others ≡ without id d.lists.enrolments = sym (ap (without id) split ∙ without_first id others) in
      let driver : driver_of w' ≡ record d { requests = finished d.requests id.0 it (Err error) None; wheel = unscheduled d.wheel (tick_in it.state); lists = withdrawn id d.lists } = grind (arith, enrols.driver, ending, enrolments) in
      let tells : Tells w.home.deferred w'.home.deferred (told_by_finish id.0 it (Err error) None) = subst (λ x. Tells w.home.deferred w'.home.deferred (told_by_enrolment id it x)) ending enrols.tells in
      let begun : w.moments.start ≤ now = omega (arith, sound.time.begun, sound.time.ordered) in
      let within : who.deadline + c.tick < 2 ^ 64 = omega (arith, subst (λ o. IfSome o (λ m. m < 2 ^ 63)) who.told (sound.flown.plain k who.r who.there who.worker).deadline, sound.config.tick) in
      let so : outcome_at_enrol c (own_of w0) (Some who.deadline) ≡ Some outcome =
      sym (enrol_same c (own_of w0) d.wheel now who.deadline sound.due.wheel refl sound.config.some_tick begun within) ∙ ap (λ x. outcome_of_error (ended_by x)) ending in
      let free = unset it.state who.takes in
      let numbers : numbers_of n d.lists.enrolments ≡ k ∷ numbers_of n others = ap (numbers_of n) split in
      subst (λ x. Steps left spot w s x w' s') (sym by.event)
      (late_ends gate v w w' s s' (Enrol k (Some outcome)) id it who.r error sound new.submits.lists who.live who.there who.named who.worker who.alike who.small who.idle (ap is_some who.asked) who.queued driver by.punctual tells by.ended by.capacity by.records by.worker by.shared
      (λ p vs suits.
      let cp = p.config in
      let all = common_of left spot p vs s in
      let request : request_of all k ≡ who.r.shown = request_seen s.requests.items k who.r who.there in
      let asked : (request_of all k).operation.deadline ≡ Some who.deadline = ap (λ x. x.operation.deadline) request ∙ who.told in
      let ends : outcome_at_enrol cp (own_of w0) (request_of all k).operation.deadline ≡ Some outcome = ap (outcome_at_enrol cp (own_of w0)) asked ∙ ap (λ x. outcome_at_enrol x (own_of w0) (Some who.deadline)) (sym suits.config) ∙ so in
      let none : first_due cp w.index (own_of w0) all ≡ None =
      subst (λ x. first_due x w.index (own_of w0) all ≡ None) suits.config
      (none_due _ w.index w.moments s.config w.names d w.home.timers s.requests.items s.sleepers.items sound.due sound.named sound.config.some_tick begun (own_of w0) all refl refl new.due) in
      let due : due_next cp w.index gate (own_of w0) all (desk_of w0) ≡ Enrols k =
      comes_to_new cp w.index gate k (own_of w0) all (desk_of w0) none (ap (λ ks. slice_get ks 0) numbers) in
      let fewer : filter (λ j. not (j == k)) (numbers_of n d.lists.enrolments) ≡ filter (λ j. not (j == k)) (drop 1 (numbers_of n d.lists.enrolments)) = grind (arith, numbers, eq-eqb) in
      let mine : ((request_of all k).worker == w.index) ≡ true = ap (λ x. x.worker == w.index) request ∙ ap (λ i. i == w.index) who.worker ∙ eq-eqb w.index w.index refl in
      let untimed : is_none (request_of all k).timer ≡ true = ap (λ x. is_none x.timer) request ∙ ap is_none (who.alike.timer ∙ ap (option_map (λ m. d.wheel.start + m * d.wheel.tick)) free.0) in
      record {
        moves = grind (arith, due, ends, request);
        may = (at_large _ w s sound refl, (ap (λ ks. is_number k (slice_get ks 0)) numbers ∙ eq-eqb k k refl, (mine, (ap (λ x. is_phase_queued x.phase) request ∙ ap is_phase_queued who.queued, (untimed, (ap (λ o. not (is_none o)) asked, (ap (same_end (Some outcome)) ends ∙ same_error_self error, tt)))))));
        own = rw fewer refl;
        common = refl;
      }))
