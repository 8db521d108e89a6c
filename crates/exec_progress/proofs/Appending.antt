-- A push into the global queue.
use Rattle.std.proofs.Common.{◌≡◌, ℕ, ◌==◌, ◌≤◌, ◌<◌, ◌++◌, Bool, false, not, ◌&&◌, List, [], None, arith}
use Rattle.exec_words.specs.{Idle.Idle}
use Rattle.exec_machine.specs.{declared.config.Configuration.Configuration, Tests.is_empty, World.{Common, Own as Books}}
use Rattle.exec_moves.specs.{declared.{handing.{AfterPush.AfterPush, InGlobal.InGlobal}, place.Place.Place}, Claim.set_of, Counts.one_if, Global.{appended_if, has_any, one_count_less}, Parts.after_push, Push.in_hand, State.{Desk, Things}, Thing.set_global}
use Rattle.exec_progress.{specs.{Effort.{is_short_push, stagings_of_push}, Going.{FallsAt, closes_push, seen, stands}, Owed.stage_of_push, Ranks.{below_push, in_global}}, proofs.{Arriving.{Reaches, push_to}, Between.{at_if, comes_global, first_claim, idle_kept, leaves_global, set_bounds, with_idle as only_idle}, Hopping.{Gets, Kept, hops}}}

pub longer : (pool : Bool) (xs more : List ℕ) → one_if (pool && not (is_empty xs)) ≤ one_if (pool && not (is_empty (xs ++ more)))
longer = grind arith

module _ (c : Configuration) (i : ℕ) (me : Books) (s : Common) (d : Desk) (x : Things) where
  abbrev appended : Bool → Gets c i me s d x
  appended closed = record { hand = None; loot = []; searching = d.searching; things = set_global x (appended_if closed x.global (d.loot ++ in_hand d.hand)) }

  append_kept : (closed : Bool) (b : AfterPush) → Kept c i me s d x (Place.Global InGlobal.Append b) (appended closed)
  append_kept = grind arith

  abbrev counted : Idle → Gets c i me s d x
  counted idle = only_idle c i me s d x d.searching idle

  -- from one step to another, or to what follows
  within : (f t : InGlobal) (b : AfterPush) (idle : Idle) → in_global idle (below_push c.workers b) t < in_global x.idle (below_push c.workers b) f
      → Reaches c i me s d x (Place.Global f b) (counted idle) (Place.Global t b)
  within = grind arith

  ends : (f : InGlobal) (b : AfterPush) (idle : Idle) → closes_push b ≡ false → below_push c.workers b < in_global x.idle (below_push c.workers b) f
      → Reaches c i me s d x (Place.Global f b) (counted idle) (after_push c i (seen (Place.Global f b) me) s b (stands (Place.Global f b) d))
  ends f b idle still less = push_to c i me s d x (Place.Global f b) (counted idle) b still (leaves_global c i me s d x f b (below_push c.workers b) less)
      (idle_kept c i me s d x (Place.Global f b) d.searching idle)

  pub goes_global : (p : InGlobal) (b : AfterPush) → FallsAt c i me s d x (Place.Global p b)
  goes_global InGlobal.Append b it quiet =
      let p = Place.Global InGlobal.Append b in
      let u = appended s.queue_closed in
      let kept = append_kept s.queue_closed b in
      let r = in_global x.idle (below_push c.workers b) InGlobal.LoadGlobalSet in
      at_if c i me s d x p u s.queue_closed (after_push c i (seen p me) s b (stands p d)) (Place.Global InGlobal.LoadGlobalSet b)
      (λ h. push_to c i me s d x p u b it.open_still (leaves_global c i me s d x InGlobal.Append b (below_push c.workers b) (omega arith)) kept)
      (λ h. hops c i me s d x p (Place.Global InGlobal.LoadGlobalSet b) u (is_short_push b) (stage_of_push d.picks b) (stagings_of_push b) r
      (leaves_global c i me s d x InGlobal.Append b r (omega arith)) (comes_global c i me s d x InGlobal.LoadGlobalSet b u r (omega arith)) kept)
  goes_global InGlobal.LoadGlobalSet b it quiet =
      let p = Place.Global InGlobal.LoadGlobalSet b in
      at_if c i me s d x p (counted x.idle) (has_any x.idle) (Place.Global (InGlobal.AddGlobalCount (set_of x.idle)) b) (after_push c i (seen p me) s b (stands p d))
      (λ h. within InGlobal.LoadGlobalSet (InGlobal.AddGlobalCount (set_of x.idle)) b x.idle (omega (arith, first_claim x.idle h)))
      (λ h. ends InGlobal.LoadGlobalSet b x.idle it.open_still (let some = set_bounds (has_any x.idle) in omega (arith, some.0)))
  goes_global (InGlobal.AddGlobalCount set) b it quiet = grind arith
  goes_global InGlobal.ReturnGlobalCount b it quiet =
      let p = Place.Global InGlobal.ReturnGlobalCount b in
      let less = one_count_less x.idle in
      at_if c i me s d x p (counted less) (x.idle.count == 1) (Place.Global InGlobal.LoadGlobalSet b) (after_push c i (seen p me) s b (stands p d))
      (λ h. within InGlobal.ReturnGlobalCount InGlobal.LoadGlobalSet b less (omega arith)) (λ h. ends InGlobal.ReturnGlobalCount b less it.open_still (omega arith))
