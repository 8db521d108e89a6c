-- The withdrawal: the own bit goes out of the idle set.
use Rattle.std.{proofs.Common.{ℕ, ◌&&◌, ◌||◌, ◌≤◌, Bool, true, false, not, if◌then◌else◌, refl, arith}, specs.Prelude.slice_set}
use Rattle.exec_words.specs.Idle.{Idle, is_in}
use Rattle.exec_machine.specs.{declared.config.Configuration.Configuration, World.{Common, Own as Books}}
use Rattle.exec_moves.specs.{declared.{handing.{AfterKick.AfterKick as kick, AfterLeave.AfterLeave as leave, InKick.InKick as kicks}, idling.{InLook.InLook as look, InScan.InScan as scan, AfterWait.AfterWait}, place.{AfterService.AfterService as back, Place.Place}}, Callback.{has_requests, serve}, Load.has_submissions, Look.after_withdrawal, State.{Desk, Moved, Things, turns}, Thing.with_idle, Global.has_any}
use Rattle.exec_progress.{specs.{Heights.load_set, Going.{Falls, FallsAt, seen, stands}}, proofs.{Tools.{afterwards, before, either}, WaitTools.sinks}}

module _ (c : Configuration) (i : ℕ) (me : Books) (s : Common) (d : Desk) (x : Things) where
  -- the idle set without the own bit
  abbrev without : Idle
  without = record x.idle { published = slice_set x.idle.published i false }

  -- with a search count or not it goes there
  abbrev leads : AfterWait → Bool → Place → Moved Things
  leads n searches q = with_idle x (turns q (record d { searching = searches }) without)

  abbrev To : AfterWait → Bool → Place → Type 0
  To n searches q = Falls c i (seen (Place.Withdraw n) me) s (stands (Place.Withdraw n) d) x (leads n searches q)

  -- IT GOES DOWN, at the beginning of a turn
  begins_after_wait : (searches : Bool) → To AfterWait.Begin searches Place.BeginTurn
  begins_after_wait = grind arith

  serves_after_wait : (searches : Bool) → To AfterWait.Serve searches (serve back.Begin)
  serves_after_wait = grind arith

  -- what was put off is made up
  module _ (last : Bool) where
    abbrev makes_up : AfterWait
    makes_up = AfterWait.MakeUp last

    begins : (searches : Bool) → To makes_up searches Place.BeginTurn
    begins searches quiet =
        sinks c i (before me s d x (Place.Withdraw makes_up)) (afterwards c i me s (Place.Withdraw makes_up) (leads makes_up searches Place.BeginTurn))
        refl refl (omega arith) (omega arith) (λ h. omega (arith, h)) (λ h k. omega (arith, k)) (λ h. omega arith) (λ h. omega arith)

    serves : (searches : Bool) → To makes_up searches (serve back.Begin)
    serves searches quiet =
        sinks c i (before me s d x (Place.Withdraw makes_up)) (afterwards c i me s (Place.Withdraw makes_up) (leads makes_up searches (serve back.Begin)))
        refl refl (omega arith) (omega arith) (λ h. omega (arith, h)) (λ h k. omega (arith, k)) (λ h. omega arith) (λ h. omega arith)

    next : (searches : Bool) → To makes_up searches (if (d.put_off && has_requests i s) || (d.may_put_off && has_submissions c (seen (Place.Withdraw makes_up) me)) then serve back.Begin else Place.BeginTurn)
    next searches =
        either c i (seen (Place.Withdraw makes_up) me) s (stands (Place.Withdraw makes_up) d) x (λ (q : Place). leads makes_up searches q)
        ((d.put_off && has_requests i s) || (d.may_put_off && has_submissions c (seen (Place.Withdraw makes_up) me))) (serve back.Begin) Place.BeginTurn (λ h. serves searches) (λ h. begins searches)

    returns : (searches : Bool) → To makes_up searches (Place.LeaveSearch leave.Begin)
    returns searches quiet =
        sinks c i (before me s d x (Place.Withdraw makes_up)) (afterwards c i me s (Place.Withdraw makes_up) (leads makes_up searches (Place.LeaveSearch leave.Begin)))
        refl refl (omega arith) (omega arith) (λ h. omega (arith, h)) (λ h k. omega (arith, k)) (λ h. omega arith) (λ h. omega arith)

    kicks_first : (searches : Bool) → To makes_up searches (Place.Kick kicks.LoadKickCount (kick.Leave leave.Begin))
    kicks_first searches quiet =
        sinks c i (before me s d x (Place.Withdraw makes_up)) (afterwards c i me s (Place.Withdraw makes_up) (leads makes_up searches (Place.Kick kicks.LoadKickCount (kick.Leave leave.Begin))))
        refl refl (omega (arith, low (has_any without))) (omega arith) (λ h. omega (arith, h)) (λ h k. omega (arith, k)) (λ h. omega arith) (λ h. omega arith)
      where
        low : (b : Bool) → load_set b ≤ load_set true
        low true = omega arith
        low false = omega arith

  -- a scan follows
  returns_claimed : (searches : Bool) → To AfterWait.Search searches (Place.Look look.ReturnClaimed)
  returns_claimed = grind arith

  scans : (searches : Bool) → To AfterWait.Search searches (Place.Scan scan.LoadScanHead)
  scans = grind arith

  -- by whether a claim came
  with_claim : (n : AfterWait) (came : Bool) → To n (d.searching || came) (after_withdrawal c i (seen (Place.Withdraw n) me) s came n (record (stands (Place.Withdraw n) d) { searching = d.searching || came }))
  with_claim AfterWait.Begin came = begins_after_wait (d.searching || came)
  with_claim AfterWait.Serve came = serves_after_wait (d.searching || came)
  with_claim (AfterWait.MakeUp last) true =
      either c i (seen (Place.Withdraw (AfterWait.MakeUp last)) me) s (stands (Place.Withdraw (AfterWait.MakeUp last)) d) x (λ (q : Place). leads (AfterWait.MakeUp last) (d.searching || true) q)
      (d.searching || true) (Place.LeaveSearch leave.Begin)
      (if (d.put_off && has_requests i s) || (d.may_put_off && has_submissions c (seen (Place.Withdraw (AfterWait.MakeUp last)) me)) then serve back.Begin else Place.BeginTurn)
      (λ h. returns last (d.searching || true)) (λ h. next last (d.searching || true))
  with_claim (AfterWait.MakeUp true) false = kicks_first true (d.searching || false)
  with_claim (AfterWait.MakeUp false) false = next false (d.searching || false)
  with_claim AfterWait.Search true = returns_claimed (d.searching || true)
  with_claim AfterWait.Search false = scans (d.searching || false)

  pub withdraws : (n : AfterWait) → FallsAt c i me s d x (Place.Withdraw n)
  withdraws n it = with_claim n (not (is_in x.idle.published i))
