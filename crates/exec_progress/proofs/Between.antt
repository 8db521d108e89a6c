-- The places of the parts that hand something on, as such that are left and come to; and what stays by their steps.
use Rattle.std.{proofs.Common.{◌≡◌, ℕ, suc, ◌+◌, ◌≤◌, ◌<◌, Bool, true, false, if◌then◌else◌, refl, ap, ◌∙◌, arith}, specs.Prelude.nat_lt}
use Rattle.exec_words.specs.{declared.idle.WorkerSet.WorkerSet, Idle.Idle}
use Rattle.exec_machine.specs.{declared.config.Configuration.Configuration, World.{Common, Own as Books}}
use Rattle.exec_moves.specs.{declared.{handing.{AfterClaim.AfterClaim, AfterKick.AfterKick, AfterLeave.AfterLeave, AfterPush.AfterPush, AfterSignal.AfterSignal, InGlobal.InGlobal, InKick.InKick, InPush.InPush, InSignal.InSignal}, place.Place.Place}, Claim.{same_bools, set_of}, Global.has_any, State.{Desk, Things, word_of}, Thing.set_idle}
use Rattle.exec_progress.{specs.{Effort.{is_short_claim, is_short_kick, is_short_leave, is_short_push, is_short_signal, stagings_of_claim, stagings_of_kick, stagings_of_leave, stagings_of_push, stagings_of_signal}, Owed.{sampling, signals_itself, stage_of_claim, stage_of_kick, stage_of_leave, stage_of_push, stage_of_signal}, Ranks.{below_claim, below_kick, below_leave, below_push, below_signal, claims, in_global, in_kick, in_push, in_signal}, Heights.{claim_worker, leave_search, load_set, raise_count}}, proofs.{Arriving.Reaches, Hopping.{Comes, Gets, Kept, Leaves}, Tools.or_more}}
use Rattle.exec_credit.proofs.CallFalls.{same_self}

pub set_bounds : (v : Bool) → (1 ≤ load_set v) × (load_set v ≤ load_set true)
set_bounds true = (omega arith, omega arith)
set_bounds false = (omega arith, omega arith)

-- the set as it was just loaded, with somebody in it: the count and a claim follow, and the load of the set stood above that
pub first_claim : (x : Idle) → has_any x ≡ true → suc (raise_count (claims (set_of x) x)) ≤ load_set (has_any x)
first_claim x some = omega (arith, ap load_set some, ap (λ v. claim_worker v (same_bools x.published x.published)) some ∙ ap (claim_worker true) (same_self x.published))

module _ (c : Configuration) (i : ℕ) (me : Books) (s : Common) (d : Desk) (x : Things) where
  -- by a test
  pub at_if : (p : Place) (u : Gets c i me s d x) (v : Bool) (q r : Place) → (v ≡ true → Reaches c i me s d x p u q) → (v ≡ false → Reaches c i me s d x p u r)
      → Reaches c i me s d x p u (if v then q else r)
  at_if p u true q r h k = h refl
  at_if p u false q r h k = k refl

  -- the idle set and the search count are no signs
  abbrev pub with_idle : Bool → Idle → Gets c i me s d x
  with_idle searching idle = record { hand = d.hand; loot = d.loot; searching = searching; things = set_idle x idle }

  pub idle_kept : (p : Place) (searching : Bool) (idle : Idle) → Kept c i me s d x p (with_idle searching idle)
  idle_kept p searching idle = record { queue_kept = omega arith; global_kept = omega arith; wants = λ h. h; poll = refl; mail = refl; latch = λ n. or_more (nat_lt n sampling) (signals_itself i p) (word_of x i).latch }

  pub leaves_search : (b : AfterLeave) (r : ℕ) → r < leave_search (below_leave c.workers b) → Leaves c i me s d x (Place.LeaveSearch b) (is_short_leave b) (stage_of_leave b) (stagings_of_leave b) r
  leaves_search b r h = record { short_there = refl; stage_there = refl; stagings_there = omega arith; above = h; no_pop = refl; no_share = refl; before_spin = refl }

  pub leaves_push : (p : InPush) (b : AfterPush) (r : ℕ) → r < in_push i x (below_push c.workers b) p
      → Leaves c i me s d x (Place.Push p b) (is_short_push b) (stage_of_push d.picks b) (stagings_of_push b) r
  leaves_push p b r h = record { short_there = refl; stage_there = refl; stagings_there = omega arith; above = h; no_pop = refl; no_share = refl; before_spin = refl }

  pub comes_push : (p : InPush) (b : AfterPush) (u : Gets c i me s d x) (r : ℕ) → in_push i u.things (below_push c.workers b) p ≤ r
      → Comes c i me s d x (Place.Push p b) u (is_short_push b) (stage_of_push d.picks b) (stagings_of_push b) r
  comes_push p b u r h = record { short_here = refl; stage_here = refl; stagings_here = omega arith; below = h; no_gate = refl; no_scan = refl; nothing_found = refl; not_itself = refl }

  pub leaves_global : (p : InGlobal) (b : AfterPush) (r : ℕ) → r < in_global x.idle (below_push c.workers b) p
      → Leaves c i me s d x (Place.Global p b) (is_short_push b) (stage_of_push d.picks b) (stagings_of_push b) r
  leaves_global p b r h = record { short_there = refl; stage_there = refl; stagings_there = omega arith; above = h; no_pop = refl; no_share = refl; before_spin = refl }

  pub comes_global : (p : InGlobal) (b : AfterPush) (u : Gets c i me s d x) (r : ℕ) → in_global u.things.idle (below_push c.workers b) p ≤ r
      → Comes c i me s d x (Place.Global p b) u (is_short_push b) (stage_of_push d.picks b) (stagings_of_push b) r
  comes_global p b u r h = record { short_here = refl; stage_here = refl; stagings_here = omega arith; below = h; no_gate = refl; no_scan = refl; nothing_found = refl; not_itself = refl }

  pub leaves_kick : (p : InKick) (b : AfterKick) (r : ℕ) → r < in_kick x.idle (below_kick c.workers b) p
      → Leaves c i me s d x (Place.Kick p b) (is_short_kick b) (stage_of_kick d.picks b) (stagings_of_kick b) r
  leaves_kick p b r h = record { short_there = refl; stage_there = refl; stagings_there = omega arith; above = h; no_pop = refl; no_share = refl; before_spin = refl }

  pub comes_kick : (p : InKick) (b : AfterKick) (u : Gets c i me s d x) (r : ℕ) → in_kick u.things.idle (below_kick c.workers b) p ≤ r
      → Comes c i me s d x (Place.Kick p b) u (is_short_kick b) (stage_of_kick d.picks b) (stagings_of_kick b) r
  comes_kick p b u r h = record { short_here = refl; stage_here = refl; stagings_here = omega arith; below = h; no_gate = refl; no_scan = refl; nothing_found = refl; not_itself = refl }

  pub leaves_claim : (set : WorkerSet) (b : AfterClaim) (r : ℕ) → r < below_claim c.workers b + claims set x.idle
      → Leaves c i me s d x (Place.ClaimWorker set b) (is_short_claim b) (stage_of_claim d.picks b) (stagings_of_claim b) r
  leaves_claim set b r h = record { short_there = refl; stage_there = refl; stagings_there = omega arith; above = h; no_pop = refl; no_share = refl; before_spin = refl }

  pub comes_claim : (set : WorkerSet) (b : AfterClaim) (u : Gets c i me s d x) (r : ℕ) → below_claim c.workers b + claims set u.things.idle ≤ r
      → Comes c i me s d x (Place.ClaimWorker set b) u (is_short_claim b) (stage_of_claim d.picks b) (stagings_of_claim b) r
  comes_claim set b u r h = record { short_here = refl; stage_here = refl; stagings_here = omega arith; below = h; no_gate = refl; no_scan = refl; nothing_found = refl; not_itself = refl }

  pub leaves_signal : (p : InSignal) (j : ℕ) (b : AfterSignal) (r : ℕ) → r < in_signal (below_signal c.workers b) p
      → Leaves c i me s d x (Place.Signal p j b) (is_short_signal b) (stage_of_signal d.picks b) (stagings_of_signal b) r
  leaves_signal p j b r h = record { short_there = refl; stage_there = refl; stagings_there = omega arith; above = h; no_pop = refl; no_share = refl; before_spin = refl }

  pub comes_signal : (p : InSignal) (j : ℕ) (b : AfterSignal) (u : Gets c i me s d x) (r : ℕ) → in_signal (below_signal c.workers b) p ≤ r → signals_itself i (Place.Signal p j b) ≡ false
      → Comes c i me s d x (Place.Signal p j b) u (is_short_signal b) (stage_of_signal d.picks b) (stagings_of_signal b) r
  comes_signal p j b u r h other = record { short_here = refl; stage_here = refl; stagings_here = omega arith; below = h; no_gate = refl; no_scan = refl; nothing_found = refl; not_itself = other }
