-- What registrations do to the driver of a worker, as calls of it.
use Rattle.std.proofs.Common.{◌≡◌, ℕ, List, refl, sym, ap, subst}
use Rattle.exec_driver_laws.{proofs.Words.{value_at, TaskNo, Store, Request, Observation, Refresh, seen_by, Observer, RequestOutput, OpenState, WaiterId, Driving}, specs.Sharing.{Gates, Call, Admit, Observe, SetWaker, Forward as Sent, Orphan, Other, with_lines}}
use Rattle.exec_registration.specs.{Admissions.{IsKept, TakesIn}, Homes.HomeState, Looks.{after_look, with_task, without_output}, Mail.{Cancels, Forwards}, declared.mail.{Cancel.{Cancel, Cancel as cancel}, Forward.{Forward, Forward as forward}}}
use Rattle.exec_time.specs.declared.timers.Observation.TheVariants.{Ready, Pending}

module _ {S F : Type 0} where
  abbrev driver_of : HomeState S F → Driving S F
  driver_of h = h.driver

  -- the driver is as it was
  quiet : (worker : ℕ) (old new : HomeState S F) (g g' : Gates) → new.driver ≡ old.driver → g' ≡ g → Call worker old.driver new.driver g g'
  quiet worker old new g g' is same =
      subst (λ (d : Driving S F). Call worker old.driver d g g') (sym is) (Other refl (λ user_data operation. refl) (λ user_data most operation was. was) (record { queued = refl; gated = refl; enrolments = refl }) same)

  pub takes_in : (worker now : ℕ) (old new : HomeState S F) (g : Gates) (opens : List OpenState) (request : Request) (observer : Observer S F) (id : WaiterId) → TakesIn old new g.opens opens request observer now id → Call worker old.driver new.driver g (with_lines g opens)
  takes_in worker now old new g opens request observer id takes = Admit id request observer now takes.next takes.slot takes.never_before takes.admits refl

  pub kept : (worker : ℕ) (old new : HomeState S F) (g : Gates) (opens : List OpenState) (store store' : Store) → IsKept old new g.opens opens store store' → Call worker old.driver new.driver g (with_lines g opens)
  kept worker old new g opens store store' keeps =
      subst (λ (d : Driving S F). Call worker old.driver d g (with_lines g opens)) (sym (ap driver_of keeps.home))
      (Other refl (λ user_data operation. refl) (λ user_data most operation was. was) (record { queued = refl; gated = refl; enrolments = refl }) (ap (with_lines g) keeps.opens_same))

  pub looks : (worker : ℕ) (old new : HomeState S F) (g : Gates) (id : WaiterId) (task : TaskNo) → new ≡ after_look (seen_by task (value_at old.driver.requests id.0)) (without_output id old) (with_task id task old) old → Call worker old.driver new.driver g g
  looks worker old new g id task is = by (seen_by task (value_at old.driver.requests id.0)) (ap driver_of is)
    where
      by : (seen : Observation RequestOutput) → new.driver ≡ driver_of (after_look seen (without_output id old) (with_task id task old) old) → Call worker old.driver new.driver g g
      by (Ready output) so = Observe id so refl
      by Pending so = quiet worker old new g g so refl
      by Refresh so = SetWaker id task so refl

  pub forwards : (worker : ℕ) (old new : HomeState S F) (g : Gates) (message : Forward S F) → Forwards old new message → Call worker old.driver new.driver g g
  forwards worker old new g (forward.Waiter id sender) does = Sent id sender (ap driver_of does.home) refl
  forwards worker old new g (forward.Timer id sender) does = quiet worker old new g g (ap driver_of does.home) refl

  pub cancels : (worker : ℕ) (old new : HomeState S F) (g : Gates) (message : Cancel) → Cancels old new message → Call worker old.driver new.driver g g
  cancels worker old new g (cancel.Waiter id) does = Orphan id (ap driver_of does.home) refl
  cancels worker old new g (cancel.Timer id) does = quiet worker old new g g (ap driver_of does.home) refl
