-- A full run queue flows over: its oldest half stands aside for one step, and its newest half goes into the hand.
use Rattle.std.{proofs.{Common.{◌≡◌, ℕ, zero, suc, ◌+◌, ◌-◌, ◌==◌, ◌≤◌, ◌<◌, true, not, ◌&&◌, if◌then◌else◌, List, [], ◌∷◌, length, take, drop, set, refl, ap, ◌∙◌, arith}, lemmas.List.get_or-set_same}, specs.{Prelude.nat_le, List.list_any}}
use Rattle.exec_words.specs.{declared.head.Head.Head, Queue.{Queue, head_of, newest, overflowed, restored}}
use Rattle.exec_machine.specs.{declared.config.Configuration.Configuration, Tests.is_empty, World.{Common, Own as Books}}
use Rattle.exec_moves.specs.{declared.{handing.{AfterPush.AfterPush, InGlobal.InGlobal, InPush.InPush}, place.Place.Place}, Callback.is_of_pool, Counts.one_if, Global.has_any, Pop.same_head, State.{Desk, Things, no_queue, queue_of}, Thing.set_queue}
use Rattle.exec_progress.{specs.{Effort.{is_short_push, stagings_of_push}, Owed.{is_stealable, stage_of_push}, Heights.{append, flow_over, load_push_head, load_set, store_oldest}, Ranks.below_push}, proofs.{Arriving.Reaches, Between.{comes_global, comes_push, leaves_push, set_bounds}, Hopping.{Gets, Kept, hops, of_aside, of_queue}, Entering.at_most_one}}

-- what can be stolen with this queue put in could be stolen before, or from it
stolen_from : (qs : List (Queue ℕ)) (i : ℕ) (w : Queue ℕ) → one_if (list_any is_stealable (set qs i w)) ≤ one_if (list_any is_stealable qs) + one_if (is_stealable w)
stolen_from [] i w = omega arith
stolen_from (v ∷ qs) zero w = grind arith
stolen_from (v ∷ qs) (suc i) w = grind (arith, stolen_from qs i w)

few : (g n : ℕ) → one_if ((g == 0) && nat_le 2 ((n + 0) - n)) ≡ 0
few = grind arith

half_there : (xs : List ℕ) → is_empty (take 128 xs) ≡ is_empty xs
half_there [] = refl
half_there (t ∷ xs) = refl

some_newest : (xs : List ℕ) → one_if (not (is_empty (drop 128 xs))) ≤ one_if (not (is_empty xs))
some_newest [] = omega arith
some_newest (t ∷ xs) = at_most_one (not (is_empty (drop 128 (t ∷ xs))))

some_oldest : (w : Queue ℕ) (held : List ℕ) → one_if (is_stealable (record w { values = held; held = [] })) ≤ one_if (not (is_empty held))
some_oldest w [] = omega (arith, few w.gap w.real)
some_oldest w (t ∷ held) = at_most_one (is_stealable (record w { values = t ∷ held; held = [] }))

module _ (c : Configuration) (i : ℕ) (me : Books) (s : Common) (d : Desk) (x : Things) where
  abbrev q : Queue ℕ
  q = queue_of x i

  -- the things with another queue of its own
  abbrev with_own : List ℕ → Queue ℕ → Gets c i me s d x
  with_own loot w = record { hand = d.hand; loot = loot; searching = d.searching; things = set_queue i x w }

  -- its signs are what that queue says; one that has nothing says nothing
  signs_then : (loot : List ℕ) (w : Queue ℕ) → i < length x.queues → of_queue c i me s d x (with_own loot w).things + of_aside c i me s d x (with_own loot w).things
      ≡ one_if (is_of_pool s i && not (is_empty w.values)) + one_if (is_of_pool s i && not (is_empty w.held))
  signs_then loot w there = ap (λ (v : Queue ℕ). one_if (is_of_pool s i && not (is_empty v.values)) + one_if (is_of_pool s i && not (is_empty v.held))) (get_or-set_same x.queues i w no_queue there)

  one_sign : is_of_pool s i ≡ true → (xs : List ℕ) → one_if (is_of_pool s i && not (is_empty xs)) ≡ one_if (not (is_empty xs))
  one_sign pool xs = ap (λ v. one_if (v && not (is_empty xs))) pool

  no_sign : is_of_pool s i ≡ true → (xs : List ℕ) → xs ≡ [] → one_if (is_of_pool s i && not (is_empty xs)) ≡ 0
  no_sign pool xs is = one_sign pool xs ∙ ap (λ ts. one_if (not (is_empty ts))) is

  -- the values go aside, as far as they stay
  over_kept : (h : Head) (b : AfterPush) → is_of_pool s i ≡ true → i < length x.queues → q.held ≡ [] → Kept c i me s d x (Place.Push (InPush.FlowOver h) b) (with_own (newest q) (overflowed q))
  over_kept h b pool there none =
      let after = signs_then (newest q) (overflowed q) there in
      let half = one_sign pool (take 128 q.values) ∙ ap (λ e. one_if (not e)) (half_there q.values) in
      grind (arith, one_sign, no_sign, some_newest, stolen_from, few)

  pub flows_over : (h : Head) (b : AfterPush) → is_of_pool s i ≡ true → i < length x.queues → q.held ≡ [] → same_head h (head_of q) ≡ true
      → Reaches c i me s d x (Place.Push (InPush.FlowOver h) b) (with_own (newest q) (overflowed q)) (Place.Push InPush.StoreOldest b)
  flows_over h b pool there none fresh =
      let r = store_oldest (below_push c.workers b) in
      hops c i me s d x (Place.Push (InPush.FlowOver h) b) (Place.Push InPush.StoreOldest b) (with_own (newest q) (overflowed q)) (is_short_push b) (stage_of_push d.picks b) (stagings_of_push b) r
      (leaves_push c i me s d x (InPush.FlowOver h) b r (omega (arith, ap (λ v. if v then flow_over (below_push c.workers b) else suc (load_push_head (below_push c.workers b))) fresh)))
      (comes_push c i me s d x InPush.StoreOldest b (with_own (newest q) (overflowed q)) r (omega arith)) (over_kept h b pool there none)

  -- and come back
  back_kept : (b : AfterPush) → is_of_pool s i ≡ true → i < length x.queues → q.values ≡ [] → Kept c i me s d x (Place.Push InPush.StoreOldest b) (with_own d.loot (restored q))
  back_kept b pool there none =
      let after = signs_then d.loot (restored q) there in
      grind (arith, no_sign, one_sign, some_oldest, stolen_from)

  pub stores_oldest : (b : AfterPush) → is_of_pool s i ≡ true → i < length x.queues → q.values ≡ [] → Reaches c i me s d x (Place.Push InPush.StoreOldest b) (with_own d.loot (restored q)) (Place.Global InGlobal.Append b)
  stores_oldest b pool there none =
      let most = set_bounds (has_any x.idle) in
      let r = below_push c.workers b + append (load_set true) in
      hops c i me s d x (Place.Push InPush.StoreOldest b) (Place.Global InGlobal.Append b) (with_own d.loot (restored q)) (is_short_push b) (stage_of_push d.picks b) (stagings_of_push b) r
      (leaves_push c i me s d x InPush.StoreOldest b r (omega arith)) (comes_global c i me s d x InGlobal.Append b (with_own d.loot (restored q)) r (omega (arith, most.1))) (back_kept b pool there none)
