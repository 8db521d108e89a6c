-- An operation that has landed is judged: a step.
use Rattle.std.{proofs.Common.{◌≡◌, ℕ, Bool, true, false, not, List, [], ◌∷◌, ◌++◌, map, Option, Some, None, refl, sym, ap, ◌∙◌, is_some, arith}, specs.VecDeque.deque_capacity}
use Rattle.exec_request.specs.{Requests.{asked_of, gate_of, record_after, target_of}, States.{Ended, as_answer, as_outcome, told_by}, declared.request.Request.Request as Asking}
use Rattle.exec_ring.specs.{Completions.result_in, Kernels.is_quiet}
use Rattle.exec_opens.specs.Opens.{OpenState, account_in, with_account}
use Rattle.exec_driver.specs.{Placed.ListsRequests, Punctual.IsPunctual, Steps.{ReapsNext, open_after}, declared.driver.reaping.Reaped.Reaped}
use Rattle.exec_waiters.specs.States.{file_of}
use Rattle.exec_task.specs.declared.body.Said.{Said}
use Rattle.exec_machine.specs.{declared.{event.Event.{Event, TheVariants.Reap}, state.Request.Request}, Requests.{joined_if, reaped}}
use Rattle.exec_moves.specs.{Serve.{after_permit, back_from_reap}, declared.place.{AfterPermit.AfterPermit, Place.Place, Reaping.Reaping, Service.Service, InService.InService}}
use Rattle.exec_parts.specs.{declared.parts.{names.Names.Names, shared.Shared.Shared, worker.Worker.Worker}, Records.number_in, Serving.changed_at, Spots.Spot, View.{driver_of, number_told}}
use Rattle.exec_invariants.specs.{Submitting.after_giving_up, Flown.HasLanded, Sound.SoundAt, Works.Steps}
use Rattle.exec_serving.proofs.{Finished.{goes_over, over_outcome, over_place, over_step}, Gone.{operation_over, reaped_over}, ReapAccounts.told_unhinted, Reaped.{TellsOf, tells_of}, Requeued.goes_back, Returned.reaped_back, Turned.{back_has, back_turned, ended_turned, opens_turned, over_has, over_request, over_tells, permit_turned, tells_turned, turned_account, turned_back, turned_over}}

-- whose permit it gives up
gives_permit : (q : Asking) (r : Request) → r.operation.kind ≡ (asked_of q).kind → r.operation.target ≡ target_of q → (b : AfterPermit) → after_giving_up (gate_of q) b ≡ over_step r b
gives_permit = grind arith

-- what a reaping did
pub record HasJudged {B : Type 0} (rp : Reaping) (v : Service) (w w' : Worker) (s s' : Shared B) (e : Event) (done : Reaped) (opens' : List OpenState) (back : AfterPermit) (has : Bool) : Type 0 where
  pub reaps : ReapsNext (driver_of w) (driver_of w') s.opens opens' w.home.deferred w'.home.deferred (Some done)
  pub punctual : IsPunctual (driver_of w')
  pub has_more : has ≡ not (is_quiet (driver_of w').ring)
  pub more : has ≡ true → back ≡ AfterPermit.Reap rp
  pub none : has ≡ false → back ≡ AfterPermit.Reaped rp
  pub event : e ≡ Reap (number_in w.names.requests.items done.id.0) done.given (as_answer done.ended)
  pub records : s'.requests.items ≡ changed_at s.requests.items (number_in w.names.requests.items done.id.0) (λ r. record r { shown = reaped done.given (as_answer done.ended) r.shown })
  pub shared : s' ≡ record s { requests = s'.requests; opens = opens' }
  pub ended : w'.names.ended.items ≡ joined_if (is_some (as_answer done.ended)) w.names.ended.items (number_in w.names.requests.items done.id.0)
  pub capacity : deque_capacity w'.names.ended ≡ deque_capacity w.names.ended
  pub still : done.ended ≡ None → w'.names ≡ w.names
  pub worker : w' ≡ record w { place = Place.Service (after_giving_up done.permit back) v; home = record w.home { driver = w'.home.driver; deferred = w'.home.deferred }; names = record w.names { ended = w'.names.ended } }

module _ {B L : Type 0} (left : B → L) (spot : L → Option Said → Spot) (rp : Reaping) (v : Service) (w w' : Worker) (s s' : Shared B) (e : Event) (sound : SoundAt (Place.Service (InService.Reap rp) v) w s) (waits : sound.seated.seat.raised ≡ 0) (lists : ListsRequests (driver_of w)) (done : Reaped) (opens' : List OpenState) (to : AfterPermit) (has : Bool)
    (by : HasJudged rp v w w' s s' e done opens' to has) where
  abbrev at_reap : Place
  at_reap = Place.Service (InService.Reap rp) v

  pub of_done : TellsOf w.names (driver_of w) (driver_of w') s.requests.items s.opens opens' w.home.deferred w'.home.deferred done
  of_done = tells_of w.names (driver_of w) (driver_of w') s.requests.items s.opens opens' w.home.deferred w'.home.deferred sound.flown.landed done by.reaps

  abbrev done_number : ℕ
  done_number = number_in w.names.requests.items of_done.reaped.has.id

  number_done : number_in w.names.requests.items done.id.0 ≡ number_in w.names.requests.items of_done.reaped.has.id
  number_done = ap (λ y. number_in w.names.requests.items y.0) of_done.id

  -- its request goes on
  pub goes_on_steps : of_done.reaped.from.reaps.answer ≡ None → Steps left spot w s e w' s'
  goes_on_steps is =
      let n = w.names.requests.items in
      let given = result_in of_done.c.result in
      let back = turned_back at_reap w s sound (driver_of w') s.opens opens' w.home.deferred w'.home.deferred done of_done is in
      let where_to : to ≡ back_from_reap rp (map (number_told n) of_done.cs) = back_turned at_reap w s sound (driver_of w') s.opens opens' w.home.deferred w'.home.deferred done of_done back.ring to rp has (number_told n) by.has_more by.more by.none in
      let none : done.ended ≡ None = ended_turned at_reap w s sound (driver_of w') s.opens opens' w.home.deferred w'.home.deferred done of_done None is in
      let permit : done.permit ≡ None = permit_turned at_reap w s sound (driver_of w') s.opens opens' w.home.deferred w'.home.deferred done of_done None is in
      let names : w'.names ≡ w.names = by.still none in
      let there : back.h ≡ of_done.reaped.has = back_has at_reap w s sound (driver_of w') s.opens opens' w.home.deferred w'.home.deferred done of_done is in
      let event : e ≡ Reap done_number given None =
      by.event ∙ ap (λ j. Reap j done.given (as_answer done.ended)) number_done ∙ ap (λ g. Reap done_number g (as_answer done.ended)) of_done.given ∙ ap (λ x. Reap done_number given (as_answer x)) none in
      let records : s'.requests.items ≡ changed_at s.requests.items done_number (goes_back given) = grind (arith, by.records, number_done, of_done.given, none) in
      let opens_are : s'.opens ≡ opens' = ap (λ (y : Shared B). y.opens) by.shared in
      let shared : s' ≡ record s { requests = s'.requests; opens = s'.opens } = by.shared ∙ ap (λ o. record s { requests = s'.requests; opens = o }) (sym opens_are) in
      let opens : s'.opens ≡ with_account s.opens (file_of of_done.reaped.has.it.request) (open_after of_done.reaped.has.it given (account_in s.opens (file_of of_done.reaped.has.it.request))) =
      opens_are ∙ opens_turned at_reap w s sound (driver_of w') s.opens opens' w.home.deferred w'.home.deferred done of_done None is in
      let worker : w' ≡ record w { place = Place.Service (after_permit (back_from_reap rp (map (number_told n) of_done.cs))) v; home = record w.home { driver = w'.home.driver; deferred = w'.home.deferred } } =
      by.worker
      ∙ ap (λ pm. record w { place = Place.Service (after_giving_up pm to) v; home = record w.home { driver = w'.home.driver; deferred = w'.home.deferred }; names = record w.names { ended = w'.names.ended } }) permit
      ∙ ap (λ (b : AfterPermit). record w { place = Place.Service (after_permit b) v; home = record w.home { driver = w'.home.driver; deferred = w'.home.deferred }; names = record w.names { ended = w'.names.ended } }) where_to
      ∙ ap (λ (x : Names). record w { place = Place.Service (after_permit (back_from_reap rp (map (number_told n) of_done.cs))) v; home = record w.home { driver = w'.home.driver; deferred = w'.home.deferred }; names = record w.names { ended = x.ended } }) names in
      reaped_back left spot rp v w s sound waits of_done.c of_done.cs of_done.operations_are w' s' e back by.punctual
      (event ∙ ap (λ (x : HasLanded w.names (driver_of w) s.requests.items of_done.c). Reap (number_in n x.id) given None) (sym there))
      (records ∙ ap (λ (x : HasLanded w.names (driver_of w) s.requests.items of_done.c). changed_at s.requests.items (number_in n x.id) (goes_back given)) (sym there)) shared
      (opens ∙ ap (λ (x : HasLanded w.names (driver_of w) s.requests.items of_done.c). with_account s.opens (file_of x.it.request) (open_after x.it given (account_in s.opens (file_of x.it.request)))) (sym there))
      (tells_turned at_reap w s sound (driver_of w') s.opens opens' w.home.deferred w'.home.deferred done of_done None is) worker

  -- its request is over
  pub over_steps : (how : Ended) → of_done.reaped.from.reaps.answer ≡ Some how → Steps left spot w s e w' s'
  over_steps how is =
      let n = w.names.requests.items in
      let given = result_in of_done.c.result in
      let d' = driver_of w' in
      let before = w.home.deferred in
      let after = w'.home.deferred in
      let cs = of_done.cs in
      let account = turned_account at_reap w s sound d' s.opens opens' before after done of_done in
      let over = turned_over at_reap w s sound d' s.opens opens' before after done of_done how is in
      let there : over.h ≡ of_done.reaped.has = over_has at_reap w s sound d' s.opens opens' before after done of_done how is in
      let request : over.request ≡ of_done.reaped.from.reaps.request = over_request at_reap w s sound d' s.opens opens' before after done of_done how is in
      let where_to : to ≡ back_from_reap rp (map (number_told n) cs) = back_turned at_reap w s sound d' s.opens opens' before after done of_done over.ring to rp has (number_told n) by.has_more by.more by.none in
      let told0 = told_by (asked_of of_done.reaped.has.it.request).kind how (account_in s.opens (file_of of_done.reaped.has.it.request)) in
      let ended_is : done.ended ≡ Some told0 = ended_turned at_reap w s sound d' s.opens opens' before after done of_done (Some how) is in
      let alike_told : as_outcome told0 ≡ over_outcome rp v w s sound of_done.c cs d' how account over = grind (arith, there, told_unhinted) in
      let outcome = over_outcome rp v w s sound of_done.c cs d' how account over in
      let answer : as_answer done.ended ≡ Some outcome = ap as_answer ended_is ∙ ap (λ o. Some o) alike_told in
      let k = number_in n over.h.id in
      let number : number_in n done.id.0 ≡ k = number_done ∙ ap (λ (x : HasLanded w.names (driver_of w) s.requests.items of_done.c). number_in n x.id) (sym there) in
      let event : e ≡ Reap k given (Some outcome) =
      by.event ∙ ap (λ j. Reap j done.given (as_answer done.ended)) number ∙ ap (λ g. Reap k g (as_answer done.ended)) of_done.given ∙ ap (Reap k given) answer in
      let records : s'.requests.items ≡ changed_at s.requests.items k (goes_over given outcome) = grind (arith, by.records, number, of_done.given, answer) in
      let ended : w'.names.ended.items ≡ w.names.ended.items ++ k ∷ [] = by.ended ∙ ap (joined_if (is_some (as_answer done.ended)) w.names.ended.items) number ∙ ap (λ x. joined_if (is_some x) w.names.ended.items k) answer in
      let opens_are : s'.opens ≡ opens' = ap (λ (y : Shared B). y.opens) by.shared in
      let shared : s' ≡ record s { requests = s'.requests; opens = s'.opens } = by.shared ∙ ap (λ o. record s { requests = s'.requests; opens = o }) (sym opens_are) in
      let judged = with_account s.opens (file_of of_done.reaped.has.it.request) account in
      let opens : s'.opens ≡ with_account judged (file_of over.request) (record_after over.request how (account_in judged (file_of over.request))) =
      opens_are ∙ opens_turned at_reap w s sound d' s.opens opens' before after done of_done (Some how) is
      ∙ ap (λ q. with_account judged (file_of q) (record_after q how (account_in judged (file_of q)))) (sym request) in
      let r = over.h.r.shown in
      let op = operation_over left spot rp v w s sound waits lists of_done.c cs of_done.operations_are how account d' over in
      let permit : done.permit ≡ gate_of over.request = permit_turned at_reap w s sound d' s.opens opens' before after done of_done (Some how) is ∙ ap gate_of (sym request) in
      let place : (b : AfterPermit) → after_giving_up done.permit b ≡ over_step r b = λ b. ap (λ o. after_giving_up o b) permit ∙ gives_permit over.request r op.kind op.target b in
      let worker : w' ≡ record w { place = over_place rp v w s sound of_done.c cs d' how account over; home = record w.home { driver = w'.home.driver; deferred = w'.home.deferred }; names = record w.names { ended = w'.names.ended } } =
      by.worker
      ∙ ap (λ (x : InService). record w { place = Place.Service x v; home = record w.home { driver = w'.home.driver; deferred = w'.home.deferred }; names = record w.names { ended = w'.names.ended } }) (place to)
      ∙ ap (λ (b : AfterPermit). record w { place = Place.Service (over_step r b) v; home = record w.home { driver = w'.home.driver; deferred = w'.home.deferred }; names = record w.names { ended = w'.names.ended } }) where_to in
      reaped_over left spot rp v w s sound waits lists of_done.c cs of_done.operations_are how account w' s' e over judged by.punctual
      (ap (λ (x : HasLanded w.names (driver_of w) s.requests.items of_done.c). open_after x.it given (account_in s.opens (file_of x.it.request))) (sym there))
      (ap (λ (x : HasLanded w.names (driver_of w) s.requests.items of_done.c). with_account s.opens (file_of x.it.request) (open_after x.it given (account_in s.opens (file_of x.it.request)))) (sym there))
      opens event records shared (over_tells at_reap w s sound d' s.opens opens' before after done of_done how is) ended by.capacity worker

  steps_by : (a : Option Ended) → of_done.reaped.from.reaps.answer ≡ a → Steps left spot w s e w' s'
  steps_by None is = goes_on_steps is
  steps_by (Some how) is = over_steps how is

  pub judged_steps : Steps left spot w s e w' s'
  judged_steps = steps_by of_done.reaped.from.reaps.answer refl
