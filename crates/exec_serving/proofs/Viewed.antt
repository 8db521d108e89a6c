-- What the machine sees of an operation that was reaped, and its move where the request goes on.
use Rattle.std.proofs.{Common.{◌≡◌, ℕ, ◌&&◌, Bool, true, false, List, ◌∷◌, map, Option, None, refl, sym, ap, ◌∙◌, slice_set, drop, if◌then◌else◌, arith}, lemmas.Bool.eq-eqb}
use Rattle.exec_outcomes.specs.{Accounts.is_durable, Outcomes.refuses_hint, declared.outcome.OpResult.{OpResult, TheVariants.{Count, Errno}}}
use Rattle.exec_ring.specs.{Completions.result_in, declared.completion.Completion.Completion}
use Rattle.exec_task.specs.declared.body.Said.{Said}
use Rattle.exec_machine.specs.{declared.{event.Event.TheVariants.Reap, state.Request.Request}, Progress.Plan, Requests.{account_of_open, after_reap as common_reaped, common_after_refusal, judged_of, may_reap, opens_after_end, outcome_given, outcome_shown, reaped}, Same.same_result, Tests.{is_at_large, is_resolved, set_open, AllTrue}, World.{Common, Open, Own, Seat, open_of, request_of, seat_of}}
use Rattle.exec_moves.specs.{Told.told_if_ended, Serve.{Ring, after_permit, after_reap, back_from_reap, others_after_reap, reap, reaped as reaped_ring, result_in as result_of}, State.{Desk, Moved, WakePoll, does}, Thing.ring_of, declared.place.{Place.Place, Reaping.Reaping, Service.Service, InService.InService}}
use Rattle.exec_parts.specs.{declared.parts.{record.Record.Record, shared.Shared.Shared, worker.Worker.Worker}, Records.number_in, Serving.changed_at, Spots.Spot, View.{Views, visible, with_view, driver_of, common_of, number_told, open_seen, seat_seen, seats_seen, things_with}}
use Rattle.exec_invariants.{specs.{Flown.{HasLanded, operations}, Sound.SoundAt, Works.Suits}, proofs.{Mine.live_mine, Seats.own_seat, Recorded.request_seen, Accounted.{OpensJudged, opens_refused}, Keys.{name_in, names_changed, same_opens}, Seeing.common_changed, MailApplies.seats_viewed}}
use Rattle.exec_serving.proofs.{Entered.{ring_seen, ring_there}, Requeued.number_landed}

pub same_result_self : (x : OpResult) → same_result x x ≡ true
same_result_self (Count n) = eq-eqb n n refl
same_result_self (Errno n) = eq-eqb n n refl

name_kept : (n : OpResult) (r : Record) → is_resolved r.shown.phase ≡ false → name_in (record r { shown = reaped n None r.shown }) ≡ name_in r
name_kept n r open_still = ap (λ b. record (name_in r) { over = b && is_durable r.shown.operation.kind }) (sym open_still)

module _ {B L : Type 0} (left : B → L) (spot : L → Option Said → Spot) (rp : Reaping) (v : Service) (w : Worker) (s : Shared B) (sound : SoundAt (Place.Service (InService.Reap rp) v) w s) (waits : sound.seated.seat.raised ≡ 0) (c : Completion) (cs : List Completion) (is : operations (driver_of w).ring ≡ c ∷ cs) (h : HasLanded w.names (driver_of w) s.requests.items c)
    (p : Plan) (vs : Views) (suits : Suits p vs w s) where
  abbrev pub seen_all : Common
  seen_all = common_of left spot p vs s

  abbrev pub seen_number : ℕ
  seen_number = number_in w.names.requests.items h.id

  abbrev pub seen_later : List ℕ
  seen_later = map (number_told w.names.requests.items) cs

  pub visible_landed : (visible w).landed ≡ seen_number ∷ seen_later
  visible_landed = ap (map (number_told w.names.requests.items)) is ∙ ap (λ j. j ∷ seen_later) (number_landed w.names (driver_of w) s.requests.items c h)

  pub seat_is : seat_of seen_all w.index ≡ seat_seen (visible w) sound.seated.seat
  seat_is = own_seat left spot p vs w s sound.seated.seat suits sound.seated.there

  pub landed_seen : (seat_of seen_all w.index).landed ≡ seen_number ∷ seen_later
  landed_seen = ap (λ x. x.landed) seat_is ∙ visible_landed

  pub request_is : request_of seen_all seen_number ≡ h.r.shown
  request_is = request_seen s.requests.items seen_number h.r h.there

  -- THE MOVE of one that goes on
  abbrev reap_at : Desk → Request → OpResult → Moved Ring
  reap_at d it n =
      does (Reap seen_number n (outcome_shown (account_of_open seen_all it) it.operation.kind (outcome_given it n)))
      (record (told_if_ended (outcome_given it n) seen_number it (others_after_reap seen_later (visible w).wakes d)) { place = Place.Service (after_reap it (outcome_given it n) (back_from_reap rp seen_later)) v })
      (reaped_ring seen_later (ring_seen w))

  abbrev pub reap_back : Desk → Moved Ring
  reap_back d =
      does (Reap seen_number (result_in c.result) None)
      (record (others_after_reap seen_later (visible w).wakes d) { place = Place.Service (after_permit (back_from_reap rp seen_later)) v })
      (reaped_ring seen_later (ring_seen w))

  pub moves_back : (d : Desk) → outcome_given h.r.shown (result_in c.result) ≡ None → reap w.index v rp seen_all d (ring_of seen_all (things_with vs s) w.index) ≡ reap_back d
  moves_back d given =
      let n = result_in c.result in
      let it = h.r.shown in
      let b = back_from_reap rp seen_later in
      ap (reap w.index v rp seen_all d) (ring_there left spot (Place.Service (InService.Reap rp) v) w s sound waits p vs suits)
      ∙ ap (λ ls. reap w.index v rp seen_all d (record (ring_seen w) { landed = ls })) visible_landed
      ∙ ap (λ x. reap_at d x (result_of x.phase)) request_is
      ∙ ap (λ x. reap_at d it (result_of x)) h.landed
      ∙ ap (λ o. does (Reap seen_number n (outcome_shown (account_of_open seen_all it) it.operation.kind o)) (record (told_if_ended o seen_number it (others_after_reap seen_later (visible w).wakes d)) { place = Place.Service (after_reap it o b) v }) (reaped_ring seen_later (ring_seen w))) given

  -- WHAT IS ALLOWED
  pub may_back : (me : Own) → is_at_large me ≡ true → outcome_given h.r.shown (result_in c.result) ≡ None → AllTrue (may_reap me seen_all w.index seen_number (result_in c.result) None)
  may_back = grind (arith, live_mine, landed_seen, eq-eqb, request_is, same_result_self)

  -- WHAT ALL SEE
  abbrev then_by : Seat → Request → Bool → List Open → Common
  then_by seat it b opens =
      record (if b then set_open seen_all it.operation.target (record (open_of seen_all it.operation.target) { account = record (account_of_open seen_all it) { hinted = false } }) else seen_all) {
        seats = slice_set seen_all.seats w.index (record seat { landed = drop 1 seat.landed });
        requests = slice_set seen_all.requests seen_number (reaped (result_in c.result) None it);
        opens = opens;
      }

  -- by whether a hint was refused
  opens_by : (it : Request) (b : Bool) → opens_refused b seen_all.opens it.operation.target ≡ (if b then set_open seen_all it.operation.target (record (open_of seen_all it.operation.target) { account = record (account_of_open seen_all it) { hinted = false } }) else seen_all).opens
  opens_by it true = refl
  opens_by it false = refl

  by_refused : (seat : Seat) (it : Request) (b : Bool) (opens : List Open) → record seen_all { seats = slice_set seen_all.seats w.index (record seat { landed = drop 1 seat.landed }); requests = slice_set seen_all.requests seen_number (reaped (result_in c.result) None it); opens = opens } ≡ then_by seat it b opens
  by_refused seat it true opens = refl
  by_refused seat it false opens = refl

  pub common_back : (s' : Shared B) (w' : Worker) (wakes : WakePoll) → s' ≡ record s { requests = s'.requests; opens = s'.opens } → s'.requests.items ≡ changed_at s.requests.items seen_number (λ r. record r { shown = reaped (result_in c.result) None r.shown })
      → OpensJudged s.opens s'.opens (refuses_hint (judged_of h.r.shown (result_in c.result))) h.r.shown.operation.target → outcome_given h.r.shown (result_in c.result) ≡ None → is_resolved h.r.shown.phase ≡ false
      → visible w' ≡ record (visible w) { landed = seen_later; wakes = wakes } → common_of left spot p (with_view vs w.index (visible w')) s' ≡ common_reaped seen_all w.index seen_number (result_in c.result) None
  common_back s' w' wakes shared records judged given open_still seen =
      let n = result_in c.result in
      let i = w.index in
      let k = seen_number in
      let it = h.r.shown in
      let f : Record → Record = λ r. record r { shown = reaped n None r.shown } in
      let chair = sound.seated.seat in
      let all = seen_all in
      let vs' = with_view vs i (visible w') in
      let s2 : Shared B = record s { requests = s'.requests } in
      let requests = slice_set (map (λ r. r.shown) s.requests.items) k (reaped n None it) in
      let refuses = refuses_hint (judged_of it n) in
      let names = names_changed s.requests.items k h.r f h.there (name_kept n h.r open_still) in
      let opens : map (open_seen s'.requests.items) s'.opens ≡ opens_refused refuses all.opens it.operation.target =
      ap (λ xs. map (open_seen xs) s'.opens) records ∙ same_opens s.requests.items (changed_at s.requests.items k f) names s'.opens ∙ judged.shown s.requests.items in
      ap (common_of left spot p vs') shared
      ∙ ap (λ os. record (common_of left spot p vs' s2) { opens = os }) opens
      ∙ ap (λ (y : Common). record y { opens = opens_refused refuses all.opens it.operation.target }) (common_changed left spot p vs' s s2 k h.r f refl records h.there (name_kept n h.r open_still))
      ∙ ap (λ seats. record all { seats = seats; requests = requests; opens = opens_refused refuses all.opens it.operation.target })
      (seats_viewed vs.workers s.seats.items i (visible w') chair sound.seated.there
      ∙ ap (λ y. slice_set (seats_seen vs.workers s.seats.items) i (seat_seen y chair)) seen
      ∙ ap (λ ls. slice_set (seats_seen vs.workers s.seats.items) i (record (seat_seen (visible w) chair) { landed = drop 1 ls })) (sym visible_landed)
      ∙ ap (λ (y : Seat). slice_set (seats_seen vs.workers s.seats.items) i (record y { landed = drop 1 y.landed })) (sym seat_is))
      ∙ by_refused (seat_of all i) it refuses (opens_refused refuses all.opens it.operation.target)
      ∙ ap (then_by (seat_of all i) it refuses) (opens_by it refuses)
      ∙ ap (λ g. then_by (seat_of all i) it refuses (opens_after_end it.operation g (common_after_refusal all it n))) (sym given)
      ∙ ap (λ y. then_by (seat_of all i) y (refuses_hint (judged_of y n)) (opens_after_end y.operation (outcome_given y n) (common_after_refusal all y n))) (sym request_is)
