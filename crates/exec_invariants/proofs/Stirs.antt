-- A task wakes an ordinary task, or itself: what holds then, and what the step is to the machine.
use Rattle.exec_invariants.{specs.{Drained.IsBefore, Holding.holder_of, Places.{claims_at, clears_at, hands_on_at, has_count_at, in_poll_of, is_pooled_at, is_published_at, one_if, polled_in, removes_at, step_of_poll}, Sound.{HasGuest, IsGuest, IsInHand, IsResting, Serves, SoundAt, Stands, Stops}, Whole.{HasOne, is_number as is_counted, runnables_in}, Works.{Beside, Suits, Works}}, proofs.{Words.{◌≡◌, ◌≢◌, inr, ℕ, zero, suc, ◌+◌, ◌&&◌, arith, Bool, true, false, Contains, List, length, map, Option, Some, None, refl, sym, ap, subst, ◌∙◌, option_to_list, slice_get, slice_set, if◌then◌else◌, false≢true, eq-eqb, map-set, runnable_of, cell_woken, is_cell_idle, Said, Runnable, Phase, Pays, ByAct, ScriptWord, Wake, TaskPhase, Waiting, Plan, is_number, after_wake, after_waking_word, is_woken_here, is_idle, acts, asks_wake, asks_yield, next_word, Common, Task, task_of, is_of_pool, to_queue, AfterPush, InPoll, Place, move_wake, polls_at, wake_task, Desk, Moved, Things, goes, is_pool, first_push_of, Shared, TaskSlot, Worker, woken_slot, Spot, Views, common_of, desk_of, own_of, task_seen, things_with, visible, with_view, by_number, or_left, same_Some, set_elsewhere, set_there}, Acting.{acts_so, by_word, me_at}, Cells.{complete_woken, idle_seen, polled_woken, woken_seen}, PoolKept.unremoved, Slots.{Balances, before_for, spares_slot, task_there, whole_slot}, SlotTasks.{IsAfter, Keeps, Tasked, homes_set, resting_set, sound_tasked}, Turning.view_found}}

-- what a hand has
pub only : (x y : Runnable) → Contains (option_to_list (Some y)) x → x ≡ y
only x y (zero, few, is) = sym is
only x y (suc n, few, is) = absurd (omega (arith, few))

module _ {B : Type 0} where
  -- where the worker goes on, by whether the task was idle, and what is in its hand
  pub record LeadsOn (t u : ℕ) (w : Worker) (slot : TaskSlot B) (q : Place) (h : Option Runnable) : Type 0 where
    pub after : IsAfter q
    pub polls : polls_at q ≡ Some t
    pub step : step_of_poll q ≡ InPoll.Act
    pub removes : removes_at q ≡ None
    pub unpooled : is_pooled_at q ≡ false
    pub hands : IsInHand None (hands_on_at q) h
    pub genuine : (r : Runnable) → Contains (option_to_list h) r → r ≡ runnable_of slot.cell
    pub mine : (k : ℕ) → k ≢ u → runnables_in k (option_to_list h) ≡ 0
    pub one : (g : Bool) (n : ℕ) → HasOne g slot.cell.phase (n + 0) → HasOne g (cell_woken slot.cell.phase) (n + runnables_in u (option_to_list h))
    pub own : own_of (record w { place = q; hand = h }) ≡ me_at t w
    pub desk : (c : Common) (phase : TaskPhase) → is_of_pool c w.index ≡ is_pool w.role → is_idle phase ≡ is_cell_idle slot.cell.phase
        → (if is_idle phase then record (desk_of (record w { place = Place.Poll t InPoll.Act })) { hand = Some u; place = to_queue c w.index (AfterPush.Act t) } else goes (Place.Poll t InPoll.Act) (desk_of (record w { place = Place.Poll t InPoll.Act })))
        ≡ desk_of (record w { place = q; hand = h })

  pub unwoken : (g : Bool) (p : Phase B) (n : ℕ) → is_cell_idle p ≡ false → HasOne g p n → HasOne g (cell_woken p) n
  unwoken = grind arith

  -- an idle task is to be queued
  pub leads_idle : (t u : ℕ) (w : Worker) (slot : TaskSlot B) → slot.cell.number ≡ record { 0 = u } → is_cell_idle slot.cell.phase ≡ true → LeadsOn t u w slot (first_push_of (AfterPush.Act t) w) (Some (runnable_of slot.cell))
  leads_idle = grind arith

  -- any other remembers the wake
  pub leads_on : (t u : ℕ) (w : Worker) (slot : TaskSlot B) → w.hand ≡ None → is_cell_idle slot.cell.phase ≡ false → LeadsOn t u w slot (Place.Poll t InPoll.Act) None
  leads_on = grind arith

  pub keeps_woken : (slot : TaskSlot B) → Keeps slot (woken_slot slot)
  keeps_woken slot = record { home = refl; number = refl; owner = refl }

  pub rests_woken : (slot : TaskSlot B) → IsResting slot → IsResting (woken_slot slot)
  rests_woken = grind arith

  guest_woken : (x : InPoll) (i : ℕ) (slot : TaskSlot B) → IsGuest x i slot → IsGuest x i (woken_slot slot)
  guest_woken x i slot it =
      record { ordinary = it.ordinary; polled = polled_woken slot.cell.phase ∙ it.polled; body = it.body; poller = it.poller; cancelled = it.cancelled; told = it.told; untold = it.untold; there = it.there }

  -- tasks once an ordinary one was woken
  woken_tasked : (t u : ℕ) (q : Place) (h : Option Runnable) (w : Worker) (s : Shared B) (slot : TaskSlot B) → SoundAt (Place.Poll t InPoll.Act) w s → slice_get s.tasks.items u ≡ Some slot → slot.home ≡ None → LeadsOn t u w slot q h
      → Tasked q w w.root_ready h s (slice_set s.tasks.items u (woken_slot slot))
  woken_tasked t u q h w s slot sound there ordinary lead =
      let tasks : List (TaskSlot B) = s.tasks.items in
      let slot' : TaskSlot B = woken_slot slot in
      let apart : u ≢ w.root = λ same. let never : None ≡ Some w.index = sym (ap (λ (o : TaskSlot B). o.home) (same_Some sound.runnable.root slot (sym sound.runnable.there ∙ ap (slice_get tasks) (sym same) ∙ there)) ∙ ordinary) ∙ sound.runnable.home in absurd (cc) in
      let root : slice_get (slice_set tasks u slot') w.root ≡ slice_get tasks w.root = set_elsewhere tasks u w.root slot' (λ e. apart (sym e)) in
      let own : polled_in w.root q ≡ polled_in w.root (Place.Poll t InPoll.Act) = ap (λ o. in_poll_of w.root o (step_of_poll q)) lead.polls ∙ ap (in_poll_of w.root (Some t)) lead.step in
      let found : slice_get (slice_set tasks u slot') u ≡ Some slot' = set_there tasks u slot' slot there in
      let number : slot.cell.number ≡ record { 0 = u } = sound.homes.number u slot there in
      let run = sound.runnable in
      let guest : HasGuest (Some t) InPoll.Act w.index w.root (slice_set tasks u slot') = λ far.
      let it = sound.guest far in
      by_number t u
      (λ other. (it.0, set_elsewhere tasks u t slot' other ∙ it.1, it.2))
      (λ same.
      let is : it.0 ≡ slot = same_Some it.0 slot (sym it.1 ∙ ap (slice_get tasks) same ∙ there) in
      (slot', ap (slice_get (slice_set tasks u slot')) same ∙ found, guest_woken InPoll.Act w.index slot (subst (IsGuest InPoll.Act w.index) is it.2))) in
      record {
        pooled = λ is. absurd (false≢true (sym lead.unpooled ∙ is));
        serves = subst (λ o. Serves o w.root w.role) (sym lead.polls) sound.serves;
        homes = homes_set s.config.workers (length s.seats.items) tasks u slot slot' there (keeps_woken slot) sound.homes;
        runnable = record { root = run.root; there = root ∙ run.there; home = run.home; number = run.number; once = run.once; one = run.one };
        hand = lead.hands;
        genuine = λ r has.
            let is : r ≡ runnable_of slot.cell = lead.genuine r has in
            record { slot = slot'; there = ap (slice_get (slice_set tasks u slot')) (ap (λ x. x.task.0) is ∙ ap (λ n. n.0) number) ∙ found; ordinary = ordinary; of_it = is };
        guest = subst (λ o. HasGuest o (step_of_poll q) w.index w.root (slice_set tasks u slot')) (sym lead.polls) (subst (λ x. HasGuest (Some t) x w.index w.root (slice_set tasks u slot')) (sym lead.step) guest);
        resting = resting_set tasks u slot slot' there (λ home unpolled. rests_woken slot (sound.resting u slot there ordinary (sym (polled_woken slot.cell.phase) ∙ unpolled))) sound.resting;
        stops = subst (λ o. Stops o (step_of_poll q) w.index (slice_set tasks u slot') s.requests.items s.sleepers.items) (sym lead.polls) (subst (λ x. Stops (Some t) x w.index (slice_set tasks u slot') s.requests.items s.sleepers.items) (sym lead.step) (λ o found_t. tt));
        going = λ o at_root. (sound.phased sound.seated.seat sound.seated.there).root o (sym root ∙ at_root);
        stands = λ o at_root. subst (λ y. Stands y w.index o) (sym own) (sound.tied.stands o (sym root ∙ at_root));
      }

  woken_balances : (t u : ℕ) (q : Place) (h : Option Runnable) (w : Worker) (s : Shared B) (slot : TaskSlot B) → SoundAt (Place.Poll t InPoll.Act) w s → LeadsOn t u w slot q h → Balances u q w h slot (woken_slot slot)
  woken_balances t u q h w s slot sound lead =
      let polls : polls_at q ≡ polls_at w.place = lead.polls ∙ sym (ap polls_at sound.here) in
      record {
        keeps = keeps_woken slot;
        holder = ap (λ b. record (holder_of slot) { over = b }) (complete_woken slot.cell.phase);
        apart = λ k other. lead.mine k other ∙ sym (ap (λ o. runnables_in k (option_to_list o)) sound.hand);
        one = λ g home n one. lead.one g n (subst (λ o. HasOne g slot.cell.phase (n + runnables_in u (option_to_list o))) sound.hand one);
        polls_apart = λ k other. ap (λ o. is_counted o k) polls;
        polls = λ home n is. ap (λ o. n + one_if (is_counted o u)) polls ∙ is ∙ ap one_if (sym (polled_woken slot.cell.phase));
        remains = λ home. record { cleared = refl; over = λ over. complete_woken slot.cell.phase ∙ over; poller = λ polled. inr (refl, sym (polled_woken slot.cell.phase) ∙ polled) };
        removes = λ u is. absurd (unremoved (removes_at q) lead.removes u is);
      }

  -- who polls an ordinary task hasn't passed the barrier
  before_woken : (t u : ℕ) (q : Place) (w : Worker) (s : Shared B) (slot : TaskSlot B) → SoundAt (Place.Poll t InPoll.Act) w s → slice_get s.tasks.items u ≡ Some slot → polls_at q ≡ Some t → slot.home ≡ None → polls_at q ≡ Some u → IsBefore w.index s.seats.items
  before_woken t u q w s slot sound there polls home its =
      before_for t InPoll.Act w s slot sound (ap (slice_get s.tasks.items) (same_Some t u (sym polls ∙ its)) ∙ there) home

  -- what is sound then, and what others keep
  pub record Stirs (q : Place) (h : Option Runnable) (w : Worker) (s s' : Shared B) : Type 0 where
    pub sound : SoundAt q (record w { place = q; root_ready = w.root_ready; hand = h }) (record s { tasks = s'.tasks })
    pub beside : Beside w s (record w { place = q; root_ready = w.root_ready; hand = h }) (record s { tasks = s'.tasks })

  pub stirs : (t u : ℕ) (q : Place) (h : Option Runnable) (w : Worker) (s s' : Shared B) (slot : TaskSlot B) → SoundAt (Place.Poll t InPoll.Act) w s → slice_get s.tasks.items u ≡ Some slot → slot.home ≡ None → s'.tasks.items ≡ slice_set s.tasks.items u (woken_slot slot) → LeadsOn t u w slot q h → Stirs q h w s s'
  stirs t u q h w s s' slot sound there ordinary items lead =
      record {
        sound = sound_tasked t InPoll.Act q w w.root_ready h s s' sound lead.after (subst (Tasked q w w.root_ready h s) (sym items) (woken_tasked t u q h w s slot sound there ordinary lead));
        beside = record {
          spares = λ j other.
              spares_slot w.index j u s s' slot (woken_slot slot) other there items (keeps_woken slot) (λ is. let never : None ≡ Some j = sym ordinary ∙ is in absurd (cc))
              (λ polled mine. record { polled = polled_woken slot.cell.phase ∙ polled; number = refl; cancelled = λ e. e; kept = refl }) sound.homes;
          whole = λ others whole.
              whole_slot u q w w.root_ready h s s' slot (woken_slot slot) others (sound.loot.none refl) (ap claims_at sound.here) (ap has_count_at sound.here) (ap is_published_at sound.here) (ap clears_at sound.here) (before_woken t u q w s slot sound there lead.polls) lead.after there items (woken_balances t u q h w s slot sound lead) whole;
        };
      }

-- WHAT IT IS TO THE MACHINE: the task that woke goes on past its word, and the other is woken then

module _ {B L : Type 0} (left : B → L) (spot : L → Option Said → Spot) where
  -- the slot of the task that woke is told first
  pub record ToldFirst (t : ℕ) (s m : Shared B) (slot mid : TaskSlot B) : Type 0 where
    pub there : slice_get s.tasks.items t ≡ Some slot
    pub items : m.tasks.items ≡ slice_set s.tasks.items t mid
    pub kept : m ≡ record s { tasks = m.tasks }
    pub cell : mid.cell ≡ slot.cell
    pub home : mid.home ≡ slot.home

  -- a task as it stood before that
  pub before : (t u : ℕ) (s m : Shared B) (slot mid other : TaskSlot B) → ToldFirst t s m slot mid → slice_get m.tasks.items u ≡ Some other → (o : TaskSlot B) × (slice_get s.tasks.items u ≡ Some o) × (o.home ≡ other.home) × (o.cell ≡ other.cell)
  before t u s m slot mid other first there =
      by_number u t
      (λ apart. (other, sym (set_elsewhere s.tasks.items t u mid apart) ∙ ap (λ ts. slice_get ts u) (sym first.items) ∙ there, refl, refl))
      (λ same.
      let is : mid ≡ other = same_Some mid other (sym (set_there s.tasks.items t mid slot first.there) ∙ ap (λ ts. slice_get ts t) (sym first.items) ∙ ap (slice_get m.tasks.items) (sym same) ∙ there) in
      (slot, ap (slice_get s.tasks.items) same ∙ first.there, sym first.home ∙ ap (λ (x : TaskSlot B). x.home) is, sym first.cell ∙ ap (λ (x : TaskSlot B). x.cell) is))

  -- what is common once the task has gone on past its word, and the other was woken
  wake_common : (t u : ℕ) (p : Plan) (vs : Views) (w : Worker) (s m s' : Shared B) (slot mid other : TaskSlot B) → ToldFirst t s m slot mid → slice_get m.tasks.items u ≡ Some other → s'.tasks.items ≡ slice_set m.tasks.items u (woken_slot other)
      → after_waking_word (common_of left spot p vs s) (task_seen left spot slot) ≡ task_seen left spot mid
      → after_wake (me_at t w) (common_of left spot p vs s) u (Pays ByAct) ≡ record (common_of left spot p vs s) { tasks = map (task_seen left spot) s'.tasks.items }
  wake_common = grind (arith, task_there, map-set, woken_seen)

  -- what the worker's own step is, where it wakes this task
  pub record IsWake (t u : ℕ) (q : Place) (f h : Option Runnable) (w : Worker) (s : Shared B) (other : TaskSlot B) (p : Plan) (vs : Views) : Type 0 where
    pub here : is_woken_here w.index other.home ≡ true
    pub own : own_of (record w { place = q; root_ready = f; hand = h }) ≡ me_at t w
    pub moves : (y : Task) → y.home ≡ other.home → is_idle y.phase ≡ is_cell_idle other.cell.phase → task_of (common_of left spot p vs s) u ≡ y
        → move_wake p.config w.index (common_of left spot p vs s) (desk_of (record w { place = Place.Poll t InPoll.Act })) (things_with vs s) t u y.home
        ≡ record { event = Wake u; choice = Pays ByAct; desk = desk_of (record w { place = q; root_ready = f; hand = h }); thing = things_with vs s }

  pub wakes_works : (t u : ℕ) (q : Place) (f h : Option Runnable) (w : Worker) (s m s' : Shared B) (slot mid other : TaskSlot B) → w.place ≡ Place.Poll t InPoll.Act → ToldFirst t s m slot mid → slice_get m.tasks.items u ≡ Some other
      → s'.tasks.items ≡ slice_set m.tasks.items u (woken_slot other) → slot.waiting ≡ Waiting.Nothing
      → (p : Plan) (vs : Views) → Suits p vs w s → next_word (common_of left spot p vs s) (task_seen left spot slot) ≡ ScriptWord.Wake u → after_waking_word (common_of left spot p vs s) (task_seen left spot slot) ≡ task_seen left spot mid
      → IsWake t u q f h w s other p vs → Works left spot p vs w s (Wake u) (record w { place = q; root_ready = f; hand = h }) (record s { tasks = s'.tasks })
  wakes_works t u q f h w s m s' slot mid other here first there items waits p vs suits word moved is =
      let all = common_of left spot p vs s in
      let w1 : Worker = record w { place = q; root_ready = f; hand = h } in
      let s1 : Shared B = record s { tasks = s'.tasks } in
      let me = me_at t w in
      let again : with_view vs w.index (visible w) ≡ vs = view_found vs w.index (visible w) suits.seen in
      let o = before t u s m slot mid other first there in
      let seen : Task = task_seen left spot o.0 in
      let at_u : task_of all u ≡ seen = task_there left spot s.tasks.items u o.0 o.1 in
      let it : task_of all t ≡ task_seen left spot slot = task_there left spot s.tasks.items t slot first.there in
      let home : (task_of all u).home ≡ other.home = ap (λ y. y.home) at_u ∙ o.2 in
      let idle : is_idle seen.phase ≡ is_cell_idle other.cell.phase = idle_seen o.0.cell.phase o.0.poller ∙ ap (λ c. is_cell_idle c.phase) o.3 in
      let d = desk_of (record w { place = Place.Poll t InPoll.Act }) in
      let kept : common_of left spot p vs s1 ≡ record all { tasks = map (task_seen left spot) s'.tasks.items } = refl in
      subst (λ v. Works left spot p vs v s (Wake u) w1 s1) (ap (λ y. record w { place = y }) (sym here)) (record {
        choice = Pays ByAct;
        moves = grind (arith, by_word left spot t p all w s vs slot (ScriptWord.Wake u) it word, at_u, is.moves seen o.2 idle at_u, again);
        may = (
          or_left (acts me all (asks_wake u)) (acts me all asks_yield && is_number u me.polls) (acts_so left spot t all w slot (asks_wake u) it waits (ap (asks_wake u) word ∙ eq-eqb u u refl)),
          (ap (is_woken_here w.index) home ∙ is.here, tt),
        );
        own = is.own;
        common = ap (λ v. common_of left spot p v s1) again ∙ kept ∙ sym (wake_common t u p vs w s m s' slot mid other first there items moved);
      })

  -- of an ordinary task
  pub wakes_ordinary : (t u : ℕ) (q : Place) (h : Option Runnable) (w : Worker) (s : Shared B) (other : TaskSlot B) → other.home ≡ None → LeadsOn t u w other q h → (p : Plan) (vs : Views) → is_of_pool (common_of left spot p vs s) w.index ≡ is_pool w.role → IsWake t u q w.root_ready h w s other p vs
  wakes_ordinary t u q h w s other ordinary lead p vs pool =
      let all = common_of left spot p vs s in
      let d = desk_of (record w { place = Place.Poll t InPoll.Act }) in
      let by : Desk → Moved Things = λ k. record { event = Wake u; choice = Pays ByAct; desk = k; thing = things_with vs s } in
      let moves : (y : Task) → y.home ≡ other.home → is_idle y.phase ≡ is_cell_idle other.cell.phase → task_of (common_of left spot p vs s) u ≡ y → move_wake p.config w.index (common_of left spot p vs s) (desk_of (record w { place = Place.Poll t InPoll.Act })) (things_with vs s) t u y.home ≡ record { event = Wake u; choice = Pays ByAct; desk = desk_of (record w { place = q; root_ready = w.root_ready; hand = h }); thing = things_with vs s } = λ y home idle at.
      ap (move_wake p.config w.index all d (things_with vs s) t u) (home ∙ ordinary)
      ∙ ap (λ z. by (wake_task w.index t u all d z).desk) at
      ∙ ap by (lead.desk all y.phase pool idle) in
      assumption (ap (is_woken_here w.index) ordinary, moves, lead)
