-- Where each request is that isn't over, and its deadline: what each call keeps of that.
use Rattle.std.proofs.Common.{◌≡◌, ℕ, zero, suc, Bool, true, false, not, cond, ◌||◌, List, Option, Some, None, Result, Ok, Err, refl, sym, subst, ◌∙◌, inl, inr, arith}
use Rattle.exec_driver_laws.{proofs.{Words.{list_any-append, any-filter_same, next_id, Error, output_of, gate_of, Moves, Store, Lists, is_same, without, is_among, first_of, withdrawn, with_queued, with_cancel, without_gated, after_queued, after_enrolment, Says, Reaped, permitted, landed_at, taken_in, newcomer, cancelled_at, let_go, timed_out, enrolled_by, queued_or_ended, placed_at, ended, Ended, Account, Slab, value_at, OpResult, waiter_at, Waiter, Entry, Pending, WaiterId, Driving, request_at, is_queued, is_gated, Observer, deadline_of, is_some, Request, Submission, with_tick, tick_for, after_due, with_permit, taken_out, open_after, account_in, file_of, Deferred, OpenState, put, one_changed, deadline_same, same_tells}, Everywhere.{says_always, Holds, Others, each, became, written_all, written_but, filled_all, filled_but, finished_all, taken_all, waked_all, forwarded_all, orphaned_all}, Passing.{ReapsThere, reap_tells}, Standing.{none_past, reads}}, specs.{Waiting.{is_placed, is_timed, ArePlaced, AreTimed, Waits}, Sharing.{Gates, Call, Admit, Join, Observe, SetWaker, Forward, Orphan, Expire, Enrol, Grant, Stage, Land, Reap, SetAccount, Recount, Leave, Other, CallsOne, AreFresh, IsRun}}}

-- THE LISTS

among_other : (id j : WaiterId) (ids : List WaiterId) → is_same id j ≡ false → is_among j (without id ids) ≡ is_among j ids
among_other id j ids other = any-filter_same (λ x. is_same x j) (λ x. not (is_same x id)) true (grind arith) ids

deadline_moved : (flight : Option Submission) (given : OpResult) (r r' : Request) (st st' : Store) → Moves flight given r r' st st' → deadline_of r' ≡ deadline_of r
deadline_moved = grind arith

-- Calls keep two things of requests, their deadlines and their places, for the same reasons: so one pass over the calls
-- shows either.
module _ {S F : Type 0} (timed : Bool) where
  -- It is over; or else its deadline is where it belongs, or it has an operation under way or a list has it. Of a driver
  -- that says what each says that is all of its place, for its lists have requests of their place alone.
  abbrev stands : Lists → WaiterId → Option (Waiter S F) → Bool
  stands l id None = true
  stands l id (Some w) = cond timed (is_timed l id (Some w)) (w.in_flight || is_among id l.queued || is_among id l.gated)

  abbrev On : Driving S F → Type 0
  On d = Holds (stands d.lists) d.requests

  withdrawn_but : (id : WaiterId) (s : Slab (Entry S F)) (l : Lists) → Others (stands l) id s → Others (stands (withdrawn id l)) id s
  withdrawn_but id s l rest j other = grind (arith, among_other id j l.queued other, among_other id j l.gated other, among_other id j l.enrolments other, rest j other)

  -- THE STEPS OF A DRIVER

  ended_on : (d : Driving S F) (id : WaiterId) (w : Waiter S F) (how : Ended) (account : Option Account) → Others (stands d.lists) id d.requests → On (ended d id w how account)
  ended_on d id w how account rest = finished_all (stands (withdrawn id d.lists)) (λ j. refl) id d.requests (output_of w.request how account) w.observer (withdrawn_but id d.requests d.lists rest)

  cancelled_on : (d : Driving S F) (id : WaiterId) → On d → On (cancelled_at d id)
  cancelled_on d id all = grind (arith, written_all (stands (with_cancel id d.lists)) (λ j. refl) id d.requests, ended_on, all)

  let_go_on : (d : Driving S F) (id : WaiterId) → On d → On (let_go d id)
  let_go_on d id all = grind (arith, orphaned_all (stands d.lists) (λ j. refl) (λ j w o. refl) id d.requests (value_at d.requests id.0) refl all, cancelled_on)

  enrolled_on : (d : Driving S F) (id : WaiterId) (w : Waiter S F) (tick : Result ℕ Error) → first_of d.lists.enrolments ≡ Some id → request_at d id ≡ Some w → On d → On (enrolled_by (record d { lists = after_enrolment d.lists }) id w tick)
  enrolled_on d id w (Ok tick) first at all = written_all (stands (after_enrolment d.lists)) (λ j. refl) id d.requests (Pending (with_tick tick w)) (grind (arith, all id, at)) (λ j other. grind (arith, all j, first))
  enrolled_on d id w (Err error) first at all = ended_on (record d { lists = after_enrolment d.lists }) id w (Err error) None (λ j other. grind (arith, all j, first))

  -- a request that goes on is queued
  over_on : (d : Driving S F) (id : WaiterId) (w : Waiter S F) (how : Option Ended) (account : Option Account) → stands (with_queued id d.lists) id (request_at d id) ≡ true → Others (stands d.lists) id d.requests
      → On (queued_or_ended d id w how account)
  over_on = grind (arith, list_any-append, ended_on, same_tells)

  -- who comes is put where it belongs, and who was there stays
  put_here : (id : WaiterId) (gated : Bool) (w : Waiter S F) (l : Lists) → stands (put id (is_some (deadline_of w.request)) gated l) id (Some w) ≡ true
  put_here = grind (arith, list_any-append)

  put_more : (id j : WaiterId) (dated gated : Bool) (o : Option (Waiter S F)) (l : Lists) → stands l j o ≡ true → stands (put id dated gated l) j o ≡ true
  put_more = grind (arith, list_any-append)

  placed_on : (old : Driving S F) (id : WaiterId) (r : Request) (observer : Observer S F) (now : ℕ) → next_id old.requests ≡ Some id.0 → On old → On (placed_at (taken_in old r observer) id (newcomer r observer) now)
  placed_on old id r observer now next all =
      let ends = ended_on (taken_in old r observer) id (newcomer r observer) timed_out None (filled_but (stands old.lists) (λ j. refl) id old.requests old.requests.vacant (Pending (newcomer r observer)) next all) in
      let l = put id (is_some (deadline_of r)) (is_some (gate_of r)) old.lists in
      let more : Holds (stands l) old.requests = λ j. put_more id j (is_some (deadline_of r)) (is_some (gate_of r)) (waiter_at old.requests j.0) old.lists (all j) in
      let comes = filled_all (stands l) (λ j. refl) id old.requests old.requests.vacant (Pending (newcomer r observer)) next (put_here id (is_some (gate_of r)) (newcomer r observer) old.lists) more in
      grind (arith, ends, comes)

  -- a completion was taken in
  reaped_on : (old new : Driving S F) (opens opens' : List OpenState) (before after : Deferred S F) (told : Option Reaped) (there : ReapsThere old new opens opens' before after told) → On there.first → On there.second
  reaped_on old new opens opens' before after told there all =
      let id = there.id in
      let w = there.w in
      let w' : Waiter S F = record w { in_flight = false; request = there.reaps.request } in
      let rest = written_but (stands there.first.lists) (λ j. refl) id there.first.requests (Pending w') (λ j other. all j) in
      let is = (one_changed there.first.requests id.0 w w' there.at).is_at in
      let here : stands (with_queued id there.first.lists) id (request_at (landed_at (taken_out there.first) id w') id) ≡ true =
      grind (arith, is, deadline_same w.request there.reaps.request there.reaps.kept, all id, there.at, list_any-append) in
      subst On (sym there.reaps.driver) (over_on (landed_at (taken_out there.first) id w') id w' there.reaps.answer (open_after w there.given (account_in opens (file_of w.request))) here rest)

  -- the requests and the lists tell it alone
  moved_on : (d d' : Driving S F) → d'.requests ≡ d.requests → d'.lists ≡ d.lists → On d → On d'
  moved_on = grind arith

  -- EACH CALL

  call_on : (worker : ℕ) (old new : Driving S F) (g g' : Gates) → Call worker old new g g' → On old → On new
  call_on worker old new g g' (Admit id r observer now next within never admits leaving) all = subst On (sym admits.driver) (placed_on old id r observer now next all)
  call_on worker old new g g' (Join id fits same is) all = subst On (sym same) all
  call_on worker old new g g' (Observe id is same) all = subst On (sym is) (taken_all (stands old.lists) (λ j. refl) (λ j w o. refl) id old.requests (value_at old.requests id.0) refl all)
  call_on worker old new g g' (SetWaker id task is same) all = subst On (sym is) (waked_all (stands old.lists) (λ j. refl) (λ j w o. refl) id task old.requests (value_at old.requests id.0) refl all)
  call_on worker old new g g' (Forward id sender is same) all = subst On (sym is) (forwarded_all (stands old.lists) (λ j. refl) (λ j w o. refl) id sender old.requests (value_at old.requests id.0) refl all)
  call_on worker old new g g' (Orphan id is same) all = subst On (sym is) (let_go_on old id all)
  call_on worker old new g g' (Expire id first is same) all = subst On (sym is) (cancelled_on (record old { lists = after_due old.lists }) id all)
  call_on worker old new g g' (Enrol before after id w deadline now told first at dated enrols same) all = subst On (sym enrols.driver) (enrolled_on old id w (tick_for old.wheel deadline now) first at all)
  call_on worker old new g g' (Grant before after file granted w at grants leaving) all =
      let id = granted.id in
      let rest = written_but (stands (without_gated id old.lists)) (λ j. refl) id old.requests (Pending (with_permit w)) (λ j other. grind (arith, all j, among_other id j old.lists.gated other)) in
      let here : stands (with_queued id (permitted old id w).lists) id (request_at (permitted old id w) id) ≡ true = grind (arith, (one_changed old.requests id.0 w (with_permit w) at).is_at, all id, at, list_any-append) in
      subst On (sym (grants.grants w at).driver) (over_on (permitted old id w) id (with_permit w) granted.ended (account_in g.opens (file_of w.request)) here rest)
  call_on worker old new g g' (Stage id w account first at stages same) all =
      let here : stands (after_queued old.lists) id (Some (record w { in_flight = true; request = stages.request })) ≡ true = grind (arith, deadline_same w.request stages.request stages.kept, all id, at) in
      subst On (sym stages.driver) (written_all (stands (after_queued old.lists)) (λ j. refl) id old.requests (Pending (record w { in_flight = true; request = stages.request })) here (λ j other. grind (arith, all j, first)))
  call_on worker old new g g' (Land id w given store store' at may lands same) all = grind (arith, became (stands old.lists) (λ j. refl) id old.requests, deadline_moved)
  call_on worker old new g g' (Reap before after told reap leaving) all =
      elim (reap_tells old new g.opens g'.opens before after told reap) [
        | inl none ↦ moved_on old new none.requests none.lists all
        | inr there ↦ moved_on there.second new there.end there.end_lists (reaped_on old new g.opens g'.opens before after told there (moved_on old there.first there.start there.start_lists all))
      ]
  call_on worker old new g g' (SetAccount file account same is) all = subst On (sym same) all
  call_on worker old new g g' (Recount file change keeps same is) all = subst On (sym same) all
  call_on worker old new g g' (Leave id file leaves same is) all = subst On (sym same) all
  call_on worker old new g g' (Other is keeps lawful places same) all = grind arith

module _ {S F : Type 0} where
  -- ALL DRIVERS

  placed_stands : (d : Driving S F) → ArePlaced d → On false d
  placed_stands = grind arith

  stands_placed : (d : Driving S F) → Says d → On false d → ArePlaced d
  stands_placed d says all j = grind (arith, says.lists.queued j, says.lists.gated j, all j)

  timed_stands : (l : Lists) (id : WaiterId) (o : Option (Waiter S F)) → stands true l id o ≡ is_timed l id o
  timed_stands = grind arith

  pub kept_places : (drivers drivers' : ℕ → Driving S F) (gates gates' : Gates) → CallsOne drivers drivers' gates gates' → ((i : ℕ) → Says (drivers i)) → ((i : ℕ) → ArePlaced (drivers i)) → (i : ℕ) → ArePlaced (drivers' i)
  kept_places drivers drivers' gates gates' calls says placed =
      each ArePlaced calls (stands_placed (drivers' calls.worker) calls.says (call_on false calls.worker _ _ gates gates' calls.call (placed_stands (drivers calls.worker) (placed calls.worker)))) placed

  pub kept_timed : (drivers drivers' : ℕ → Driving S F) (gates gates' : Gates) → CallsOne drivers drivers' gates gates' → ((i : ℕ) → AreTimed (drivers i)) → (i : ℕ) → AreTimed (drivers' i)
  kept_timed drivers drivers' gates gates' calls timed =
      let new = drivers' calls.worker in
      let old = drivers calls.worker in
      let all = call_on true calls.worker _ _ gates gates' calls.call (λ j. timed_stands old.lists j (request_at old j) ∙ timed calls.worker j) in
      each AreTimed calls (λ j. sym (timed_stands new.lists j (request_at new j)) ∙ all j) timed

  none_at_first : (drivers : ℕ → Driving S F) (g : Gates) → AreFresh drivers g → (i : ℕ) → ArePlaced (drivers i) × AreTimed (drivers i)
  none_at_first = grind (arith, none_past, reads)

  always : (drivers : ℕ → ℕ → Driving S F) (gates : ℕ → Gates) → IsRun drivers gates → (n : ℕ) → (i : ℕ) → ArePlaced (drivers n i)
  always drivers gates run zero i = (none_at_first (drivers 0) (gates 0) run.first i).0
  always drivers gates run (suc n) i = kept_places (drivers n) (drivers (suc n)) (gates n) (gates (suc n)) (run.next n) (says_always drivers gates run n) (always drivers gates run n) i

  pub timed : (drivers : ℕ → ℕ → Driving S F) (gates : ℕ → Gates) → IsRun drivers gates → (n worker : ℕ) → AreTimed (drivers n worker)
  timed drivers gates run zero worker = (none_at_first (drivers 0) (gates 0) run.first worker).1
  timed drivers gates run (suc n) worker = kept_timed (drivers n) (drivers (suc n)) (gates n) (gates (suc n)) (run.next n) (timed drivers gates run n) worker

  waits_by : (d : Driving S F) (id : WaiterId) (o : Option (Waiter S F)) (w : Waiter S F) → o ≡ Some w → w.in_flight ≡ false → (is_among id d.lists.queued ≡ true → is_queued o ≡ true) → (is_among id d.lists.gated ≡ true → is_gated o ≡ true)
      → is_placed d.lists id o ≡ true → Waits d id w
  waits_by = grind arith

  pub waits : (drivers : ℕ → ℕ → Driving S F) (gates : ℕ → Gates) → IsRun drivers gates → (n worker : ℕ) (id : WaiterId) (w : Waiter S F) → request_at (drivers n worker) id ≡ Some w → w.in_flight ≡ false → Waits (drivers n worker) id w
  waits drivers gates run n worker id w at idle =
      let says = says_always drivers gates run n worker in
      waits_by (drivers n worker) id (request_at (drivers n worker) id) w at idle (says.lists.queued id) (says.lists.gated id) (always drivers gates run n worker id)
