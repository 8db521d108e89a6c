-- A search count is returned, and a kick.
use Rattle.std.proofs.Common.{◌≡◌, ℕ, ◌+◌, ◌==◌, ◌<◌, true, false, arith}
use Rattle.exec_words.specs.{declared.idle.WorkerSet.WorkerSet, Idle.Idle}
use Rattle.exec_machine.specs.{declared.config.Configuration.Configuration, World.{Common, Own as Books}}
use Rattle.exec_moves.specs.{declared.{handing.{AfterClaim.AfterClaim, AfterKick.AfterKick, AfterLeave.AfterLeave, InKick.InKick}, place.Place.Place}, Claim.set_of, Global.{has_any, one_count_less, one_count_more}, Parts.{after_kick, after_leave}, State.{Desk, Moved, Things, turns}, Thing.with_idle}
use Rattle.exec_progress.{specs.{Effort.{is_short_leave, stagings_of_leave}, Going.{FallsAt, closes_kick, seen, stands}, Owed.{stage_of_leave}, Heights.{load_kick_count, load_set}, Ranks.{below_kick, below_leave, in_kick}}, proofs.{Arriving.{Reaches, kick_to, leave_to}, Between.{at_if, comes_kick, idle_kept, leaves_kick, first_claim, leaves_search, set_bounds, with_idle as only_idle}, Hopping.{Gets, hops}, Tools.either}}

module _ (c : Configuration) (i : ℕ) (me : Books) (s : Common) (d : Desk) (x : Things) where
  pub leaves : (b : AfterLeave) → FallsAt c i me s d x (Place.LeaveSearch b)
  leaves b it quiet =
      let p = Place.LeaveSearch b in
      let u = only_idle c i me s d x false (one_count_less x.idle) in
      let kept = idle_kept c i me s d x p false (one_count_less x.idle) in
      let most = set_bounds (has_any x.idle) in
      let k = below_kick c.workers (AfterKick.Leave b) + load_kick_count (load_set true) in
      at_if c i me s d x p u (x.idle.count == 1) (Place.Kick InKick.LoadKickCount (AfterKick.Leave b)) (after_leave c i (seen p me) s b (stands p d))
      (λ h. hops c i me s d x p (Place.Kick InKick.LoadKickCount (AfterKick.Leave b)) u (is_short_leave b) (stage_of_leave b) (stagings_of_leave b) k
      (leaves_search c i me s d x b k (omega arith)) (comes_kick c i me s d x InKick.LoadKickCount (AfterKick.Leave b) u k (omega (arith, most.1))) kept)
      (λ h. leave_to c i me s d x p u b (leaves_search c i me s d x b (below_leave c.workers b) (omega arith)) kept)

  abbrev counted : Idle → Gets c i me s d x
  counted idle = only_idle c i me s d x d.searching idle

  -- from one step of a kick to another, or to what follows it
  within : (f t : InKick) (b : AfterKick) (idle : Idle) → in_kick idle (below_kick c.workers b) t < in_kick x.idle (below_kick c.workers b) f
      → Reaches c i me s d x (Place.Kick f b) (counted idle) (Place.Kick t b)
  within = grind arith

  ends : (f : InKick) (b : AfterKick) (idle : Idle) → closes_kick b ≡ false → below_kick c.workers b < in_kick x.idle (below_kick c.workers b) f
      → Reaches c i me s d x (Place.Kick f b) (counted idle) (after_kick c i (seen (Place.Kick f b) me) s b (stands (Place.Kick f b) d))
  ends f b idle still less = kick_to c i me s d x (Place.Kick f b) (counted idle) b still (leaves_kick c i me s d x f b (below_kick c.workers b) less)
      (idle_kept c i me s d x (Place.Kick f b) d.searching idle)

  to_claim : (set : WorkerSet) (b : AfterKick) → Reaches c i me s d x (Place.Kick (InKick.ExchangeKickCount set) b) (counted (one_count_more x.idle)) (Place.ClaimWorker set (AfterClaim.Kick b))
  to_claim = grind arith

  pub kicks : (p : InKick) (b : AfterKick) → FallsAt c i me s d x (Place.Kick p b)
  kicks InKick.LoadKickCount b it quiet =
      let p = Place.Kick InKick.LoadKickCount b in
      at_if c i me s d x p (counted x.idle) (x.idle.count == 0) (Place.Kick InKick.LoadKickSet b) (after_kick c i (seen p me) s b (stands p d))
      (λ h. within InKick.LoadKickCount InKick.LoadKickSet b x.idle (omega arith)) (λ h. ends InKick.LoadKickCount b x.idle it.open_still (omega arith))
  kicks InKick.LoadKickSet b it quiet =
      let p = Place.Kick InKick.LoadKickSet b in
      at_if c i me s d x p (counted x.idle) (has_any x.idle) (Place.Kick (InKick.ExchangeKickCount (set_of x.idle)) b) (after_kick c i (seen p me) s b (stands p d))
      (λ h. within InKick.LoadKickSet (InKick.ExchangeKickCount (set_of x.idle)) b x.idle (omega (arith, first_claim x.idle h)))
      (λ h. ends InKick.LoadKickSet b x.idle it.open_still (let some = set_bounds (has_any x.idle) in omega (arith, some.0)))
  kicks (InKick.ExchangeKickCount set) b it quiet =
      let p = Place.Kick (InKick.ExchangeKickCount set) b in
      either c i (seen p me) s (stands p d) x (λ (m : Moved Idle). with_idle x m) (x.idle.count == 0)
      (turns (Place.ClaimWorker set (AfterClaim.Kick b)) (stands p d) (one_count_more x.idle)) (turns (after_kick c i (seen p me) s b (stands p d)) (stands p d) x.idle)
      (λ h q. to_claim set b) (λ h q. ends (InKick.ExchangeKickCount set) b x.idle it.open_still (omega arith)) quiet
  kicks InKick.ReturnKickCount b it quiet =
      let p = Place.Kick InKick.ReturnKickCount b in
      let less = one_count_less x.idle in
      at_if c i me s d x p (counted less) (x.idle.count == 1) (Place.Kick InKick.LoadKickCount b) (after_kick c i (seen p me) s b (stands p d))
      (λ h. within InKick.ReturnKickCount InKick.LoadKickCount b less (omega arith)) (λ h. ends InKick.ReturnKickCount b less it.open_still (omega arith))
