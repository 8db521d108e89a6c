-- What the driver did with an operation that has landed: its request goes on, or is over.
use Rattle.std.proofs.Common.{◌≡◌, ℕ, Bool, true, false, not, ◌||◌, List, [], ◌∷◌, filter, map, nat_lt, Option, Some, None, refl, sym, ap, subst, ◌∙◌}
use Rattle.exec_base.specs.Slab.{written}
use Rattle.exec_outcomes.specs.Accounts.{Account}
use Rattle.exec_request.specs.{Judging.{Judges, judged_as}, Requests.{asked_of, cursor_of, hinted_of}, States.{Ended, as_answer}}
use Rattle.exec_ring.specs.{Completions.result_in, Kernels.{is_quiet, reaped as ring_reaped}, Rings.completions, declared.completion.Completion.Completion}
use Rattle.exec_waiters.specs.{States.{file_of, tick_in}, Told.Tells, declared.{deferred.Deferred.Deferred, waiter.{Waiter.Waiter, Entry.TheVariants.Pending}, waiter_id.WaiterId.WaiterId}, Events.{finished, told_by_finish}}
use Rattle.exec_driver.specs.{Driving.Driving, Steps.{queued_or_ended, landed_at, open_after, opens_after_end, permit_after, taken_out, told_as, told_by_end, with_landings, unscheduled}, declared.driver.reaping.Reaped.Reaped}
use Rattle.exec_opens.specs.Opens.{OpenState, account_in, with_account}
use Rattle.exec_lists.specs.Lists.{with_queued, withdrawn}
use Rattle.exec_machine.specs.Tests.{is_empty}
use Rattle.exec_moves.specs.{Serve.back_from_reap, declared.place.{AfterPermit.AfterPermit, Reaping.Reaping, Place.Place}}
use Rattle.exec_parts.specs.{declared.parts.{mail.Reply.Reply, shared.Shared.Shared, worker.Worker.Worker}, View.{driver_of, number_told, trailing, trails_wake}}
use Rattle.exec_invariants.{specs.{Flown.operations, Sound.SoundAt}, proofs.{Behind.{after_controls, is_op, none_left, ops_after}, Swept.{RingAfter, ring_after, some_in_ring}, WokenSwept.{none_there, sweeps}}}
use Rattle.exec_serving.proofs.{Finished.GoesOver, Reaped.TellsOf, Requeued.GoesBack}

module _ {B : Type 0} (q : Place) (w : Worker) (s : Shared B) (sound : SoundAt q w s) (d' : Driving Reply Reply) (opens opens' : List OpenState) (before after : Deferred Reply Reply) (done : Reaped) (t : TellsOf w.names (driver_of w) d' s.requests.items opens opens' before after done) where
  abbrev pub turned_waiter : Waiter Reply Reply
  turned_waiter = record t.reaped.has.it { in_flight = false; request = t.reaped.from.reaps.request }

  abbrev pub turned_name : WaiterId
  turned_name = record { 0 = t.reaped.has.id }

  -- what is kept of its open then
  abbrev pub turned_account : Option Account
  turned_account = open_after t.reaped.has.it (result_in t.c.result) (account_in opens (file_of t.reaped.has.it.request))

  abbrev turned_by : Option Ended → Option Account → Driving Reply Reply
  turned_by a account = with_landings t.reaped.from.second (queued_or_ended (landed_at (taken_out t.reaped.first) turned_name turned_waiter) turned_name turned_waiter a account)

  second_is : (a : Option Ended) → t.reaped.from.reaps.answer ≡ a → t.reaped.from.second ≡ turned_by a turned_account
  second_is a is = t.reaped.from.reaps.driver ∙ ap (λ x. turned_by x turned_account) is

  pub opens_turned : (a : Option Ended) → t.reaped.from.reaps.answer ≡ a → opens' ≡ opens_after_end (with_account opens (file_of t.reaped.has.it.request) turned_account) turned_waiter a
  opens_turned a is = t.reaped.from.reaps.opens_after ∙ ap (opens_after_end (with_account opens (file_of t.reaped.has.it.request) turned_account) turned_waiter) is

  pub permit_turned : (a : Option Ended) → t.reaped.from.reaps.answer ≡ a → done.permit ≡ permit_after turned_waiter a
  permit_turned a is = t.permit ∙ ap (permit_after turned_waiter) is

  pub ended_turned : (a : Option Ended) → t.reaped.from.reaps.answer ≡ a → done.ended ≡ told_as t.reaped.has.it a (account_in opens (file_of t.reaped.has.it.request))
  ended_turned a is = t.ended ∙ ap (λ x. told_as t.reaped.has.it x (account_in opens (file_of t.reaped.has.it.request))) is

  pub tells_turned : (a : Option Ended) → t.reaped.from.reaps.answer ≡ a → Tells before after (told_by_end turned_name turned_waiter a turned_account)
  tells_turned a is = subst (λ x. Tells before after (told_by_end turned_name turned_waiter x turned_account)) is t.reaped.from.reaps.tells

  ring_turned : t.reaped.from.second.ring ≡ ring_reaped t.reaped.first.ring → t.reaped.from.second.armed ≡ t.reaped.first.armed → RingAfter (number_told w.names.requests.items) (driver_of w) d' t.cs
  ring_turned ring armed = ring_after (number_told w.names.requests.items) (driver_of w) t.reaped.first t.reaped.from.second d' t.c t.cs t.reaped.swept_first ring armed t.reaped.from.swept_last sound.flown.polled t.operations_are

  pub turned_back : t.reaped.from.reaps.answer ≡ None → GoesBack w s d' t.c t.cs
  turned_back is =
      let like1 = t.reaped.swept_first in
      let like2 = t.reaped.from.swept_last in
      let shape1 = (sweeps (driver_of w)).shape in
      let shape2 = (sweeps t.reaped.from.second).shape in
      let by = second_is None is in
      let judges = subst (λ a. Judges (asked_of t.reaped.has.it.request) (cursor_of t.reaped.has.it.request) (cursor_of t.reaped.from.reaps.request) (judged_as (hinted_of t.reaped.has.it.request) t.reaped.has.it.state (result_in t.c.result)) (as_answer a)) is t.reaped.from.reaps.judges in
      let requests = ap (λ x. x.requests) like2 ∙ ap (λ x. x.requests) shape2 ∙ ap (λ x. x.requests) by ∙ ap (λ x. written x t.reaped.has.id (Pending turned_waiter)) (ap (λ x. x.requests) like1 ∙ ap (λ x. x.requests) shape1) in
      let lists = ap (λ x. x.lists) like2 ∙ ap (λ x. x.lists) shape2 ∙ ap (λ x. x.lists) by ∙ ap (with_queued turned_name) (ap (λ x. x.lists) like1 ∙ ap (λ x. x.lists) shape1) in
      let wheel = ap (λ x. x.wheel) like2 ∙ ap (λ x. x.wheel) shape2 ∙ ap (λ x. x.wheel) by ∙ ap (λ x. x.wheel) like1 ∙ ap (λ x. x.wheel) shape1 in
      search (t.landed.2, t.landed.1, judges, ring_turned (ap (λ x. x.ring) by) (ap (λ x. x.armed) by), requests, lists, wheel, t.reaped.from.reaps)

  pub turned_over : (how : Ended) → t.reaped.from.reaps.answer ≡ Some how → GoesOver w s d' t.c t.cs how turned_account
  turned_over how is =
      let like1 = t.reaped.swept_first in
      let like2 = t.reaped.from.swept_last in
      let shape1 = (sweeps (driver_of w)).shape in
      let shape2 = (sweeps t.reaped.from.second).shape in
      let by = second_is (Some how) is in
      let judges = subst (λ a. Judges (asked_of t.reaped.has.it.request) (cursor_of t.reaped.has.it.request) (cursor_of t.reaped.from.reaps.request) (judged_as (hinted_of t.reaped.has.it.request) t.reaped.has.it.state (result_in t.c.result)) (as_answer a)) is t.reaped.from.reaps.judges in
      let requests = ap (λ x. x.requests) like2 ∙ ap (λ x. x.requests) shape2 ∙ ap (λ x. x.requests) by ∙ ap (λ x. finished (written x t.reaped.has.id (Pending turned_waiter)) t.reaped.has.id turned_waiter how turned_account) (ap (λ x. x.requests) like1 ∙ ap (λ x. x.requests) shape1) in
      let wheel = ap (λ x. x.wheel) like2 ∙ ap (λ x. x.wheel) shape2 ∙ ap (λ x. x.wheel) by ∙ ap (λ x. unscheduled x (tick_in t.reaped.has.it.state)) (ap (λ x. x.wheel) like1 ∙ ap (λ x. x.wheel) shape1) in
      let lists = ap (λ x. x.lists) like2 ∙ ap (λ x. x.lists) shape2 ∙ ap (λ x. x.lists) by ∙ ap (withdrawn turned_name) (ap (λ x. x.lists) like1 ∙ ap (λ x. x.lists) shape1) in
      search (t.landed.2, t.landed.1, judges, ring_turned (ap (λ x. x.ring) by) (ap (λ x. x.armed) by), requests, lists, wheel, t.reaped.from.reaps)

  -- of that operation
  pub back_has : (is : t.reaped.from.reaps.answer ≡ None) → (turned_back is).h ≡ t.reaped.has
  unfolding turned_back
  back_has is = refl

  pub over_has : (how : Ended) (is : t.reaped.from.reaps.answer ≡ Some how) → (turned_over how is).h ≡ t.reaped.has
  unfolding turned_over
  over_has how is = refl

  pub over_request : (how : Ended) (is : t.reaped.from.reaps.answer ≡ Some how) → (turned_over how is).request ≡ t.reaped.from.reaps.request
  unfolding turned_over
  over_request how is = refl

  pub over_tells : (how : Ended) (is : t.reaped.from.reaps.answer ≡ Some how) → Tells before after (told_by_finish (turned_over how is).h.id (record (turned_over how is).h.it { in_flight = false; request = (turned_over how is).request }) how turned_account)
  unfolding turned_over
  over_tells how is = tells_turned (Some how) is

  quiet_by : (cs : List Completion) → operations d'.ring ≡ cs → (b : AfterPermit) (rp : Reaping) (has : Bool) (numbers : Completion → ℕ) → has ≡ not (is_quiet d'.ring) → (has ≡ true → b ≡ AfterPermit.Reap rp) → (has ≡ false → b ≡ AfterPermit.Reaped rp) → b ≡ back_from_reap rp (map numbers cs)
  quiet_by [] is b rp has numbers tells more none =
      let second = t.reaped.from.second in
      let left : completions d'.ring ≡ after_controls (completions second.ring) = ap (λ x. completions x.ring) t.reaped.from.swept_last ∙ (sweeps second).left in
      let gone : after_controls (completions second.ring) ≡ [] = none_left (completions second.ring) (sym (ops_after (completions second.ring)) ∙ ap (filter is_op) (sym left) ∙ is) in
      none (tells ∙ ap not (none_there d'.ring.posted d'.ring refl (left ∙ gone)).1)
  quiet_by (c ∷ cs) is b rp has numbers tells more none = more (tells ∙ sym (some_in_ring numbers d'.ring) ∙ ap (λ ys. not (is_empty (map numbers ys)) || (nat_lt 0 (trailing 0 (completions d'.ring)) || trails_wake false (completions d'.ring))) is)

  pub back_turned : (ring : RingAfter (number_told w.names.requests.items) (driver_of w) d' t.cs) (b : AfterPermit) (rp : Reaping) (has : Bool) (numbers : Completion → ℕ) → has ≡ not (is_quiet d'.ring) → (has ≡ true → b ≡ AfterPermit.Reap rp) → (has ≡ false → b ≡ AfterPermit.Reaped rp) → b ≡ back_from_reap rp (map numbers t.cs)
  back_turned ring b rp has numbers = quiet_by t.cs ring.landed b rp has numbers
