-- What the machine sees of an operation that was reaped, whose request is over by that.
use Rattle.std.proofs.{Common.{◌≡◌, ℕ, ◌==◌, Bool, true, false, List, ◌∷◌, map, Option, Some, refl, sym, ap, ◌∙◌, slice_get, slice_set, drop, if◌then◌else◌, arith}, lemmas.Bool.eq-eqb}
use Rattle.exec_outcomes.specs.{Accounts.outcome_told, Outcomes.refuses_hint, declared.outcome.{OpResult.OpResult, Outcome.{Outcome, TheVariants.{Failure, Success}}}}
use Rattle.exec_ring.specs.{Completions.result_in, declared.completion.Completion.Completion}
use Rattle.exec_task.specs.declared.body.Said.{Said}
use Rattle.exec_machine.specs.{declared.{event.Event.TheVariants.Reap, state.Request.Request}, Progress.Plan, Requests.{account_of_open, after_reap as common_reaped, judged_of, may_reap, opens_after_end, outcome_given, outcome_shown, reaped}, Same.{is_number, same_end, same_outcome}, Tests.{is_at_large, is_landed_with, set_open, AllTrue}, World.{Common, Own, Seat, open_of, seat_of}}
use Rattle.exec_moves.specs.{Told.{told_if_ended, told_of_end}, Serve.{Ring, after_reap, back_from_reap, others_after_reap, reap, reaped as reaped_ring, result_in as result_of}, State.{Desk, Moved, WakePoll, does}, Thing.ring_of, declared.place.{Place.Place, Reaping.Reaping, Service.Service, InService.InService}}
use Rattle.exec_parts.specs.{declared.parts.{record.Record.Record, shared.Shared.Shared, worker.Worker.Worker}, Serving.changed_at, Spots.Spot, View.{Views, visible, with_view, driver_of, common_of, open_seen, seat_seen, seats_seen, things_with}}
use Rattle.exec_invariants.{specs.{Flown.{HasLanded, operations}, Sound.SoundAt, Works.Suits}, proofs.{Accounted.opens_refused, Mine.live_mine, Recorded.shown_changed, Results.same_error_self, MailApplies.seats_viewed}}
use Rattle.exec_serving.proofs.{Entered.{ring_seen, ring_there}, Finished.over_step, PermitSeen.opens_after, Viewed.{landed_seen, request_is, same_result_self, seat_is, seen_all, seen_later, seen_number, visible_landed}}

pub same_outcome_self : (x : Outcome) → same_outcome x x ≡ true
same_outcome_self Success = refl
same_outcome_self (Failure e) = same_error_self e

-- the place beside what is told
pub told_place : (k : ℕ) (r : Request) (d : Desk) (q : Place) → told_of_end k r (record d { place = q }) ≡ record (told_of_end k r d) { place = q }
told_place = grind arith

module _ {B L : Type 0} (left : B → L) (spot : L → Option Said → Spot) (rp : Reaping) (v : Service) (w : Worker) (s : Shared B) (sound : SoundAt (Place.Service (InService.Reap rp) v) w s) (waits : sound.seated.seat.raised ≡ 0) (c : Completion) (cs : List Completion) (is : operations (driver_of w).ring ≡ c ∷ cs) (h : HasLanded w.names (driver_of w) s.requests.items c)
    (p : Plan) (vs : Views) (suits : Suits p vs w s) where
  abbrev all : Common
  all = seen_all left spot rp v w s sound waits c cs is h p vs suits

  abbrev k : ℕ
  k = seen_number left spot rp v w s sound waits c cs is h p vs suits

  abbrev later : List ℕ
  later = seen_later left spot rp v w s sound waits c cs is h p vs suits

  -- THE MOVE
  abbrev reap_at : Desk → Request → OpResult → Option Outcome → Moved Ring
  reap_at d it n o =
      does (Reap k n (outcome_shown (account_of_open all it) it.operation.kind o))
      (record (told_if_ended o k it (others_after_reap later (visible w).wakes d)) { place = Place.Service (after_reap it o (back_from_reap rp later)) v })
      (reaped_ring later (ring_seen w))

  abbrev pub reap_over : Desk → Outcome → Moved Ring
  reap_over d outcome =
      does (Reap k (result_in c.result) (Some outcome))
      (record (told_of_end k h.r.shown (others_after_reap later (visible w).wakes d)) { place = Place.Service (over_step h.r.shown (back_from_reap rp later)) v })
      (reaped_ring later (ring_seen w))

  pub moves_over : (d : Desk) (given told : Outcome) → outcome_given h.r.shown (result_in c.result) ≡ Some given → outcome_told h.r.shown.operation.kind (account_of_open all h.r.shown) given ≡ told
      → reap w.index v rp all d (ring_of all (things_with vs s) w.index) ≡ reap_over d told
  moves_over d given told ends shown =
      let it = h.r.shown in
      ap (reap w.index v rp all d) (ring_there left spot (Place.Service (InService.Reap rp) v) w s sound waits p vs suits)
      ∙ ap (λ ls. reap w.index v rp all d (record (ring_seen w) { landed = ls })) (visible_landed left spot rp v w s sound waits c cs is h p vs suits)
      ∙ ap (λ x. reap_at d x (result_of x.phase) (outcome_given x (result_of x.phase))) (request_is left spot rp v w s sound waits c cs is h p vs suits)
      ∙ ap (λ x. reap_at d it (result_of x) (outcome_given it (result_of x))) h.landed
      ∙ ap (reap_at d it (result_in c.result)) ends
      ∙ ap (reap_over d) shown

  -- WHAT IS ALLOWED
  pub may_over : (me : Own) (given told : Outcome) → is_at_large me ≡ true → outcome_given h.r.shown (result_in c.result) ≡ Some given → outcome_told h.r.shown.operation.kind (account_of_open all h.r.shown) given ≡ told
      → AllTrue (may_reap me all w.index k (result_in c.result) (Some told))
  may_over me given told large ends shown =
      let n = result_in c.result in
      let it = h.r.shown in
      let request = request_is left spot rp v w s sound waits c cs is h p vs suits in
      let mine = live_mine w.index w.names (driver_of w) w.home.timers s.requests.items s.sleepers.items sound.named h.id h.it h.r h.live h.there in (
        large,
        (
          ap (λ ls. is_number k (slice_get ls 0)) (landed_seen left spot rp v w s sound waits c cs is h p vs suits) ∙ eq-eqb k k refl,
          (
            ap (λ x. x.worker == w.index) request ∙ ap (λ i. i == w.index) mine ∙ eq-eqb w.index w.index refl,
            (
              ap (λ x. is_landed_with n x.phase) request ∙ ap (is_landed_with n) h.landed ∙ same_result_self n,
              (
                ap (λ x. same_end (Some told) (outcome_shown (account_of_open all x) x.operation.kind (outcome_given x n))) request
                    ∙ ap (λ o. same_end (Some told) (outcome_shown (account_of_open all it) it.operation.kind o)) ends
                    ∙ ap (same_outcome told) shown ∙ same_outcome_self told,
                tt,
              ),
            ),
          ),
        ),
      )

  -- WHAT ALL SEE
  abbrev then_over : Seat → Request → Bool → Option Outcome → Outcome → Common
  then_over seat it b given told =
      let refused : Common = if b then set_open all it.operation.target (record (open_of all it.operation.target) { account = record (account_of_open all it) { hinted = false } }) else all in
      record refused {
        seats = slice_set all.seats w.index (record seat { landed = drop 1 seat.landed });
        requests = slice_set all.requests k (reaped (result_in c.result) (Some told) it);
        opens = opens_after_end it.operation given refused;
      }

  by_refused : (seat : Seat) (it : Request) (b : Bool) (given told : Outcome)
      → record all { seats = slice_set all.seats w.index (record seat { landed = drop 1 seat.landed }); requests = slice_set all.requests k (reaped (result_in c.result) (Some told) it); opens = opens_after (opens_refused b all.opens it.operation.target) it.operation given }
      ≡ then_over seat it b (Some given) told
  by_refused seat it true given told = refl
  by_refused seat it false given told = refl

  pub common_over : (s' : Shared B) (w' : Worker) (wakes : WakePoll) (given told : Outcome) → s' ≡ record s { requests = s'.requests; opens = s'.opens }
      → s'.requests.items ≡ changed_at s.requests.items k (λ r. record r { shown = reaped (result_in c.result) (Some told) r.shown })
      → map (open_seen (changed_at s.requests.items k (λ r. record r { shown = reaped (result_in c.result) (Some told) r.shown }))) s'.opens ≡ opens_after (opens_refused (refuses_hint (judged_of h.r.shown (result_in c.result))) (map (open_seen s.requests.items) s.opens) h.r.shown.operation.target) h.r.shown.operation given
      → outcome_given h.r.shown (result_in c.result) ≡ Some given
      → visible w' ≡ record (visible w) { landed = later; wakes = wakes } → common_of left spot p (with_view vs w.index (visible w')) s' ≡ common_reaped all w.index k (result_in c.result) (Some told)
  common_over s' w' wakes given told shared records opens_are ends seen =
      let n = result_in c.result in
      let i = w.index in
      let it = h.r.shown in
      let f : Record → Record = λ r. record r { shown = reaped n (Some told) r.shown } in
      let chair = sound.seated.seat in
      let x = seat_seen (visible w) chair in
      let vs' = with_view vs i (visible w') in
      let rs = s.requests.items in
      let refuses = refuses_hint (judged_of it n) in
      let opens_then = opens_after (opens_refused refuses all.opens it.operation.target) it.operation given in
      ap (common_of left spot p vs') shared
      ∙ ap (λ os. record (common_of left spot p vs' s) { requests = map (λ r. r.shown) s'.requests.items; opens = os }) (ap (λ xs. map (open_seen xs) s'.opens) records ∙ opens_are)
      ∙ ap (λ xs. record (common_of left spot p vs' s) { requests = map (λ r. r.shown) xs; opens = opens_then }) records
      ∙ ap (λ xs. record (common_of left spot p vs' s) { requests = xs; opens = opens_then }) (shown_changed f rs k h.r h.there)
      ∙ ap (λ seats. record all { seats = seats; requests = slice_set (map (λ r. r.shown) rs) k (reaped n (Some told) it); opens = opens_then })
      (seats_viewed vs.workers s.seats.items i (visible w') chair sound.seated.there
      ∙ ap (λ y. slice_set (seats_seen vs.workers s.seats.items) i (seat_seen y chair)) seen
      ∙ ap (λ ls. slice_set (seats_seen vs.workers s.seats.items) i (record x { landed = drop 1 ls })) (sym (visible_landed left spot rp v w s sound waits c cs is h p vs suits))
      ∙ ap (λ (y : Seat). slice_set (seats_seen vs.workers s.seats.items) i (record y { landed = drop 1 y.landed })) (sym (seat_is left spot rp v w s sound waits c cs is h p vs suits)))
      ∙ by_refused (seat_of all i) it refuses given told
      ∙ ap (λ g. then_over (seat_of all i) it refuses g told) (sym ends)
      ∙ ap (λ y. then_over (seat_of all i) y (refuses_hint (judged_of y n)) (outcome_given y n) told) (sym (request_is left spot rp v w s sound waits c cs is h p vs suits))
