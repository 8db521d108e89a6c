-- Each end gives back what its request owned and leaves the output in its place, and no step by which one goes on does.
use Rattle.std.proofs.Common.{◌≡◌, ℕ, Bool, true, false, cond, List, [], Option, Some, None, refl, ap, ◌∙◌, append-nil, arith, Result, sym}
use Rattle.exec_driver_laws.{proofs.{Words.{told_by_close, told_by_orphan, told_to, with_observer, Told, nothing_told, Answer, both, cancelled_at, cancelling, let_go, placed_at, timed_out, told_at_admission, told_by_cancel, told_by_let_go, without_observer, placed_is, one_changed, Driving, Entry, Orphaned, Pending, Waiter, WaiterId, asks_cancel, asks_cancel_by_orphan, deadline_of, ended, entry_of, request_at, told_by_finish, value_at, Error, output_of, over, enrolled_by, expired, queued_or_ended, told_by_end, told_by_enrolment, Account, Ended, Id, after_due}, Failing.{gone_there, kept_there}}, specs.Ends.{leaves_output, outputs_after, gives_back}}
use Rattle.exec_waiters.specs.declared.deferred.Retired.{Retired}

module _ {S F : Type 0} where
  -- its output has its place in these, or it goes on
  abbrev Leaves : WaiterId → Waiter S F → Told S F → Driving S F → Type 0
  Leaves id w told d = outputs_after told (value_at d.requests id.0) ≡ leaves_output id w timed_out None (request_at d id)

  over_there : (d : Driving S F) (id : WaiterId) (w : Waiter S F) → request_at d id ≡ Some w → Leaves id w (told_by_finish id.0 w timed_out None) (ended d id w timed_out None)
  over_there = grind (arith, kept_there, gone_there, entry_of)

  still_there : (d : Driving S F) (id : WaiterId) (w v : Waiter S F) → request_at d id ≡ Some v → Leaves id w nothing_told d
  still_there = grind arith

  pub at_admission : (d : Driving S F) (id : WaiterId) (w : Waiter S F) (now : ℕ) → request_at d id ≡ Some w → Leaves id w (told_at_admission id w now) (placed_at d id w now)
  at_admission = grind (arith, over_there, still_there, placed_is, deadline_of)

  -- A REQUEST THAT IS LET GO: beside its output, who waited is told

  abbrev LetGo : WaiterId → Waiter S F → Told S F → Told S F → Driving S F → Type 0
  LetGo id w first told d = outputs_after told (value_at d.requests id.0) ≡ record (leaves_output id (with_observer Orphaned w) timed_out None (request_at d id)) { sent = first.results }

  pub alone : (d : Driving S F) (id : WaiterId) (w : Waiter S F) → request_at d id ≡ Some w → asks_cancel_by_orphan (value_at d.requests id.0) ≡ true → request_at (without_observer d id) id ≡ Some (with_observer Orphaned w)
  alone = grind (arith, one_changed)

  stays : (d : Driving S F) (id : WaiterId) (w : Waiter S F) (first : Told S F) → request_at d id ≡ Some w → first.outputs ≡ [] → first.completions ≡ [] → LetGo id w first first (without_observer d id)
  stays = grind (arith, one_changed)

  cancels : (d : Driving S F) (id : WaiterId) (w : Waiter S F) (first : Told S F) (flies asked : Bool) → request_at d id ≡ Some w → w.observer ≡ Orphaned → first.outputs ≡ [] → first.completions ≡ []
      → outputs_after (both first (cond flies nothing_told (told_by_finish id.0 w timed_out None))) (value_at (cond flies (cond asked d (cancelling d id w)) (ended d id w timed_out None)).requests id.0)
      ≡ record (leaves_output id w timed_out None (request_at (cond flies (cond asked d (cancelling d id w)) (ended d id w timed_out None)) id)) { sent = first.results }
  cancels = grind (arith, append-nil, kept_there, gone_there, entry_of, one_changed)

  leaves_by : (d : Driving S F) (id : WaiterId) (w : Waiter S F) (first : Told S F) (asks : Bool) → asks_cancel_by_orphan (value_at d.requests id.0) ≡ asks → request_at d id ≡ Some w → first.outputs ≡ [] → first.completions ≡ []
      → LetGo id w first (cond asks (both first (told_by_cancel id (request_at (without_observer d id) id))) first) (cond asks (cancelled_at (without_observer d id) id) (without_observer d id))
  leaves_by d id w first true asks at none silent =
      let there = alone d id w at asks in
      rw there (cancels (without_observer d id) id (with_observer Orphaned w) first w.in_flight (asks_cancel w.state) there refl none silent)
  leaves_by d id w first false asks at none silent = stays d id w first at none silent

  silent : (id : WaiterId) (w : Waiter S F) (o : Option (Entry S F)) → o ≡ Some (Pending w) → ((told_by_orphan id.0 o).outputs ≡ []) × ((told_by_orphan id.0 o).completions ≡ []) × ((told_by_orphan id.0 o).results ≡ (told_to id.0 w.observer).results)
  silent = grind arith

  pub when_let_go : (d : Driving S F) (id : WaiterId) (w : Waiter S F) → request_at d id ≡ Some w → outputs_after (told_by_let_go d id (told_by_orphan id.0 (value_at d.requests id.0))) (value_at (let_go d id).requests id.0)
      ≡ record (leaves_output id (with_observer Orphaned w) timed_out None (request_at (let_go d id) id)) { sent = (told_to id.0 w.observer).results }
  when_let_go d id w at =
      let quiet = silent id w (value_at d.requests id.0) (entry_of _ w at) in
      leaves_by d id w (told_by_orphan id.0 (value_at d.requests id.0)) (asks_cancel_by_orphan (value_at d.requests id.0)) refl at quiet.0 quiet.1 ∙ ap (λ (xs : List (Answer F)). record (leaves_output id (with_observer Orphaned w) timed_out None (request_at (let_go d id) id)) { sent = xs }) quiet.2

  pub when_closed : (d : Driving S F) (id : WaiterId) (w : Waiter S F) → request_at d id ≡ Some w → outputs_after (told_by_let_go d id (told_by_close id.0 (value_at d.requests id.0))) (value_at (let_go d id).requests id.0)
      ≡ record (leaves_output id (with_observer Orphaned w) timed_out None (request_at (let_go d id) id)) { sent = (told_to id.0 w.observer).results }
  when_closed d id w at =
      let quiet = silent id w (value_at d.requests id.0) (entry_of _ w at) in
      leaves_by d id w (told_by_close id.0 (value_at d.requests id.0)) (asks_cancel_by_orphan (value_at d.requests id.0)) refl at quiet.0 quiet.1 ∙ ap (λ (xs : List (Answer F)). record (leaves_output id (with_observer Orphaned w) timed_out None (request_at (let_go d id) id)) { sent = xs }) quiet.2

module _ {S F : Type 0} where
  -- what was there is gone, or goes on
  abbrev Gives : WaiterId → Waiter S F → List Retired → Driving S F → Type 0
  Gives id w back new = back ≡ gives_back id w (request_at new id)

  goes : (id : WaiterId) (w v : Waiter S F) (new : Driving S F) → request_at new id ≡ Some v → Gives id w [] new
  goes id w v new there = ap (gives_back id w) (sym there)

  ends : (d : Driving S F) (id : WaiterId) (w : Waiter S F) (how : Ended) (account : Option Account) → request_at d id ≡ Some w → Gives id w (told_by_finish id.0 w how account).resources (ended d id w how account)
  ends d id w how account at = ap (gives_back id w) (sym (over d.requests id.0 w (output_of w.request how account) w.observer at))

  pub by_end : (d : Driving S F) (id : WaiterId) (w : Waiter S F) (how : Option Ended) (account : Option Account) → request_at d id ≡ Some w → Gives id w (told_by_end id w how account).resources (queued_or_ended d id w how account)
  by_end = grind (arith, ends, goes)

  pub by_cancel : (d : Driving S F) (id : WaiterId) (w : Waiter S F) → request_at d id ≡ Some w → Gives id w (told_by_cancel id (Some w)).resources (cancelled_at d id)
  by_cancel = grind (arith, ends, goes, one_changed)

  pub by_expiry : (d : Driving S F) (id : WaiterId) (w : Waiter S F) → request_at d id ≡ Some w → Gives id w (told_by_cancel id (Some w)).resources (expired d id)
  by_expiry d id w at = by_cancel (record d { lists = after_due d.lists }) id w at

  pub by_enrolment : (d : Driving S F) (id : WaiterId) (w : Waiter S F) (tick : Result ℕ Error) → request_at d id ≡ Some w → Gives id w (told_by_enrolment id w tick).resources (enrolled_by d id w tick)
  by_enrolment = grind (arith, ends, goes, one_changed)

  pub by_admission : (d : Driving S F) (id : WaiterId) (w : Waiter S F) (now : ℕ) → request_at d id ≡ Some w → Gives id w (told_at_admission id w now).resources (placed_at d id w now)
  by_admission = grind (arith, ends, goes, placed_is, deadline_of)

  -- A REQUEST THAT IS LET GO

  let_go_by : (d : Driving S F) (id : WaiterId) (w : Waiter S F) (told : Told S F) (asks : Bool) → asks_cancel_by_orphan (value_at d.requests id.0) ≡ asks → request_at d id ≡ Some w → told.resources ≡ []
      → Gives id w (cond asks (both told (told_by_cancel id (request_at (without_observer d id) id))) told).resources (cond asks (cancelled_at (without_observer d id) id) (without_observer d id))
  let_go_by d id w told true asks at none =
      let there = alone d id w at asks in
      rw there (grind (arith, by_cancel (without_observer d id) id (with_observer Orphaned w) there, none))
  let_go_by d id w told false asks at none = grind (arith, one_changed)

  orphan_none : (id : Id) (e : Option (Entry S F)) → (told_by_orphan id e).resources ≡ []
  orphan_none = grind arith

  pub by_orphan : (d : Driving S F) (id : WaiterId) (w : Waiter S F) → request_at d id ≡ Some w → Gives id w (told_by_let_go d id (told_by_orphan id.0 (value_at d.requests id.0))).resources (let_go d id)
  by_orphan d id w at = let_go_by d id w (told_by_orphan id.0 (value_at d.requests id.0)) (asks_cancel_by_orphan (value_at d.requests id.0)) refl at (orphan_none id.0 (value_at d.requests id.0))

  pub by_close : (d : Driving S F) (id : WaiterId) (w : Waiter S F) → request_at d id ≡ Some w → Gives id w (told_by_let_go d id (told_by_close id.0 (value_at d.requests id.0))).resources (let_go d id)
  by_close d id w at = let_go_by d id w (told_by_close id.0 (value_at d.requests id.0)) (asks_cancel_by_orphan (value_at d.requests id.0)) refl at (orphan_none id.0 (value_at d.requests id.0))

  -- of one that is over nothing comes back
  pub over_before : (d : Driving S F) (id : WaiterId) → request_at d id ≡ None → (told_by_let_go d id (told_by_orphan id.0 (value_at d.requests id.0))).resources ≡ []
  over_before = grind arith
