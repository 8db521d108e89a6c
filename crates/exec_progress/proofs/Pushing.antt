-- A push into the own run queue.
use Rattle.std.{proofs.{Common.{◌≡◌, ℕ, suc, ◌+◌, ◌≤◌, ◌<◌, ◌++◌, Bool, true, not, ◌&&◌, if◌then◌else◌, List, length, Option, None, is_some, refl, sym, ap, subst, ◌∙◌, arith}, lemmas.List.{append-nil, get_or-set_same, set-get_or}}, specs.Prelude.nat_le}
use Rattle.exec_words.specs.{declared.head.{Fit.Fit, Head.Head}, Queue.{Queue, fit_of, head_of, newest, overflowed, published}}
use Rattle.exec_machine.specs.{declared.config.Configuration.Configuration, Tests.is_empty, World.{Common, Own as Books}}
use Rattle.exec_moves.specs.{declared.{handing.{AfterKick.AfterKick, AfterPush.AfterPush, InGlobal.InGlobal, InKick.InKick, InPush.InPush}, place.Place.Place}, Counts.one_if, Global.has_any, Parts.{after_push, has_others}, Pop.same_head, Push.{after_fit, in_hand}, State.{Desk, Moved, Things, no_queue, queue_of, turns}, Thing.{set_queue, with_queue}}
use Rattle.exec_progress.{specs.{Effort.{is_short_push, stagings_of_push}, Going.{FallsAt, seen, stands}, Owed.{can_steal, stage_of_push}, Heights.{append, flow_over, load_kick_count, load_push_head, load_set, store_value}, Ranks.{below_push, is_fresh}}, proofs.{Arriving.{Reaches, push_to}, Between.{at_if, comes_global, comes_kick, comes_push, leaves_push, set_bounds}, Dropping.kept_same, Appending.longer, Hopping.{Gets, Kept, hops}, Overflowing.{flows_over, stores_oldest}, Tools.either, Entering.at_most_one, Popping.same_again}}

-- what was in the hand is in the queue
one_pushed : (pool : Bool) (xs : List ℕ) (hand : Option ℕ) → one_if (pool && not (is_empty (xs ++ in_hand hand))) ≤ one_if (pool && not (is_empty xs)) + one_if (is_some hand)
one_pushed = grind arith

module _ (c : Configuration) (i : ℕ) (me : Books) (s : Common) (d : Desk) (x : Things) where
  abbrev q : Queue ℕ
  q = queue_of x i

  -- what was loaded is put back
  put_back : set_queue i x q ≡ x
  put_back = ap (λ qs. record x { queues = qs }) (set-get_or x.queues i no_queue)

  abbrev unchanged : Gets c i me s d x
  unchanged = record { hand = d.hand; loot = d.loot; searching = d.searching; things = set_queue i x q }

  unchanged_kept : (p : Place) → Kept c i me s d x p unchanged
  unchanged_kept p = subst (λ y. Kept c i me s d x p (record { hand = d.hand; loot = d.loot; searching = d.searching; things = y })) (sym put_back) (kept_same c i me s d x p)

  to_global : (b : AfterPush) → Reaches c i me s d x (Place.Push InPush.LoadPushHead b) unchanged (Place.Global InGlobal.Append b)
  to_global b =
      let most = set_bounds (has_any x.idle) in
      hops c i me s d x (Place.Push InPush.LoadPushHead b) (Place.Global InGlobal.Append b) unchanged (is_short_push b) (stage_of_push d.picks b) (stagings_of_push b) (below_push c.workers b + append (load_set true))
      (leaves_push c i me s d x InPush.LoadPushHead b (below_push c.workers b + append (load_set true)) (omega arith)) (comes_global c i me s d x InGlobal.Append b unchanged (below_push c.workers b + append (load_set true)) (omega (
        arith,
        most.1,
      ))) (unchanged_kept (Place.Push InPush.LoadPushHead b))

  -- where it leads by what fits
  loads : (b : AfterPush) (f : Fit) → Reaches c i me s d x (Place.Push InPush.LoadPushHead b) unchanged (after_fit b (head_of q) f)
  loads b (Fit.Room len) =
      hops c i me s d x (Place.Push InPush.LoadPushHead b) (Place.Push (InPush.StoreValue len) b) unchanged (is_short_push b) (stage_of_push d.picks b) (stagings_of_push b) (store_value (below_push c.workers b))
      (leaves_push c i me s d x InPush.LoadPushHead b (store_value (below_push c.workers b)) (omega arith))
      (comes_push c i me s d x (InPush.StoreValue len) b unchanged (store_value (below_push c.workers b)) (omega arith)) (unchanged_kept (Place.Push InPush.LoadPushHead b))
  loads b Fit.Overflow =
      let below = below_push c.workers b in
      let fresh : is_fresh (set_queue i x q) i (head_of q) ≡ true = ap (λ y. same_head (head_of q) (head_of (queue_of y i))) put_back ∙ same_again (head_of q) in
      hops c i me s d x (Place.Push InPush.LoadPushHead b) (Place.Push (InPush.FlowOver (head_of q)) b) unchanged (is_short_push b) (stage_of_push d.picks b) (stagings_of_push b) (flow_over below)
      (leaves_push c i me s d x InPush.LoadPushHead b (flow_over below) (omega arith)) (comes_push c i me s d x (InPush.FlowOver (head_of q)) b unchanged (flow_over below) (omega (
        arith,
        ap (λ v. if v then flow_over below else suc (load_push_head below)) fresh,
      ))) (unchanged_kept (Place.Push InPush.LoadPushHead b))
  loads b Fit.Claimed = to_global b
  loads b Fit.Spent = to_global b

  -- A VALUE IS STORED
  abbrev stored : Gets c i me s d x
  stored = record { hand = None; loot = d.loot; searching = d.searching; things = set_queue i x (published q (in_hand d.hand)) }

  stolen_then : (h : Option ℕ) → d.hand ≡ h → one_if (can_steal stored.things) ≤ one_if (can_steal x) + one_if (is_some d.hand)
  stolen_then = grind (arith, append-nil, put_back, at_most_one)

  store_kept : (len : ℕ) (b : AfterPush) → i < length x.queues → Kept c i me s d x (Place.Push (InPush.StoreValue len) b) stored
  store_kept = grind (arith, get_or-set_same, longer, one_pushed, stolen_then)

  stores : (len : ℕ) (b : AfterPush) → FallsAt c i me s d x (Place.Push (InPush.StoreValue len) b)
  stores len b it quiet =
      let p = Place.Push (InPush.StoreValue len) b in
      let kept = store_kept len b it.queue_there in
      let r = below_push c.workers b + load_kick_count (load_set true) in
      let most = set_bounds (has_any x.idle) in
      at_if c i me s d x p stored (nat_le 2 len && has_others c) (Place.Kick InKick.LoadKickCount (AfterKick.Push b)) (after_push c i (seen p me) s b (stands p d))
      (λ h. hops c i me s d x p (Place.Kick InKick.LoadKickCount (AfterKick.Push b)) stored (is_short_push b) (stage_of_push d.picks b) (stagings_of_push b) r
      (leaves_push c i me s d x (InPush.StoreValue len) b r (omega arith)) (comes_kick c i me s d x InKick.LoadKickCount (AfterKick.Push b) stored r (omega (arith, most.1))) kept)
      (λ h. push_to c i me s d x p stored b it.open_still (leaves_push c i me s d x (InPush.StoreValue len) b (below_push c.workers b) (omega arith)) kept)

  -- A FULL QUEUE FLOWS OVER
  flows : (h : Head) (b : AfterPush) → FallsAt c i me s d x (Place.Push (InPush.FlowOver h) b)
  flows h b it quiet =
      let p = Place.Push (InPush.FlowOver h) b in
      let below = below_push c.workers b in
      either c i (seen p me) s (stands p d) x (λ (m : Moved (Queue ℕ)). with_queue i x m) (same_head h (head_of q))
      (turns (Place.Push InPush.StoreOldest b) (record (stands p d) { loot = newest q }) (overflowed q)) (turns (Place.Push InPush.LoadPushHead b) (stands p d) q)
      (λ same z. flows_over c i me s d x h b (it.pushes refl) it.queue_there it.aside same)
      (λ other z. hops c i me s d x p (Place.Push InPush.LoadPushHead b) unchanged (is_short_push b) (stage_of_push d.picks b) (stagings_of_push b) (load_push_head below)
      (leaves_push c i me s d x (InPush.FlowOver h) b (load_push_head below) (omega (arith, ap (λ v. if v then flow_over below else suc (load_push_head below)) other)))
      (comes_push c i me s d x InPush.LoadPushHead b unchanged (load_push_head below) (omega arith)) (unchanged_kept p))
      quiet

  pub pushes : (p : InPush) (b : AfterPush) → FallsAt c i me s d x (Place.Push p b)
  pushes InPush.LoadPushHead b it quiet = loads b (fit_of q)
  pushes (InPush.StoreValue len) b it quiet = stores len b it quiet
  pushes (InPush.FlowOver h) b it quiet = flows h b it quiet
  pushes InPush.StoreOldest b it quiet = stores_oldest c i me s d x b (it.pushes refl) it.queue_there it.aside
