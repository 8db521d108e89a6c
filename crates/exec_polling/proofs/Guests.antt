-- The end of a poll of an ordinary task, where it waits or was cleared; and that of any task.
use Rattle.std.proofs.{Common.{◌≡◌, ◌≢◌, inl, inr, ℕ, zero, suc, ◌+◌, ◌==◌, arith, Bool, true, false, Contains, Option, Some, None, refl, sym, ap, subst, ◌∙◌, slice_get, slice_set, option_to_list, if◌then◌else◌}, lemmas.Bool.{false≢true, eq-eqb}}
use Rattle.exec_task.specs.{Phases.{is_polled, given_back, over, runnable_of, pend_answer}, declared.{body.{Said.Said}, runnable.{Runnable.Runnable}, task.Phase.Phase}}
use Rattle.exec_machine.specs.{declared.event.Event.{Event, TheVariants.Pend}, Choice.Choice.Plain, Progress.Plan, Same.is_number, Tasks.{may_stop, pended_phase}, Tests.is_settled, World.{Task, task_of}}
use Rattle.exec_moves.specs.{declared.{handing.{AfterPush.AfterPush, InPush.InPush}, place.{InPoll.InPoll, Place.Place}}, Move.move_at, Poll.{after_pend, is_noted, pend as pend_moves, requeued_if, told_of_end}, Told.lets_go_all, Seen.{polls_at, polls_in}, State.{Desk, Moved, Things}}
use Rattle.exec_parts.{specs.{declared.parts.{shared.Shared.Shared, task_slot.TaskSlot.TaskSlot, worker.Worker.Worker}, Phased.is_complete, Polls.{pended_with, pended_slot}, Pooled.queued_again, Spots.Spot, Tests.{after_poll_of, next_pick_of}, View.{Views, own_of, desk_of, common_of, phase_seen, task_seen, body_in, things_with}, Things.TurnsSlot}, proofs.Facts.{by_number, not_same, same_Some, set_there}}
use Rattle.exec_invariants.{specs.{Places.{hands_on_at, removes_at, step_of_poll}, Holding.holder_of, Sound.{HasGuest, IsInHand, MayStop, SoundAt, Stops, is_told, may_end}, Whole.{HasOne, is_number as is_counted, runnables_in}, Works.{Suits, Steps}}, proofs.{Pending.{MayEnd, hand_empty, has_body, in_poll, poll_ended, polled_none, stops, to_push}, Onces.once_queued, Here.{IsHere, going_on}, Polling.{IsOutside, home_mine, in_hand_never, in_hand_once, next_hands, next_outside, number_apart, number_there}, PoolKept.unremoved, Slots.{Balances, IsEvent, slotted, task_there}, SlotTasks.{Keeps, Visits, guest_tasked, none_in}}}

-- AN ORDINARY TASK'S POLL ENDS

module _ {B : Type 0} where
  -- the cell then, with its body in it or beside it; where it goes on, and whether its runnable is in the hand
  pub record GuestEnds (x : InPoll) (t : ℕ) (q : Place) (h : Option Runnable) (w : Worker) (slot : TaskSlot B) (b : B) (p : Phase B) (k : Bool) (o : Option B) : Type 0 where
    pub out : IsOutside q
    pub hands : IsInHand None (hands_on_at q) h
    pub mine : (u : ℕ) → u ≢ t → runnables_in u (option_to_list h) ≡ 0
    pub genuine : (r : Runnable) → Contains (option_to_list h) r → r ≡ runnable_of slot.cell
    pub one : (g : Bool) (n : ℕ) → n + 0 ≡ 0 → HasOne g p (n + runnables_in t (option_to_list h))
    pub unpolled : is_polled p ≡ false
    pub uncleared : (k ≡ false) × (slot.cleared ≡ false)
    pub complete : is_complete p ≡ is_complete slot.cell.phase
    pub told : is_told slot.waiting (is_complete p) ≡ true → is_told slot.waiting false ≡ true
    pub body : body_in p o ≡ Some b
    pub shown : phase_seen p slot.poller ≡ pended_phase (phase_seen slot.cell.phase slot.poller)
    pub desk : requeued_if (is_noted (phase_seen slot.cell.phase slot.poller)) t (desk_of (record w { place = Place.Poll t x })) ≡ desk_of (record w { place = q; hand = h })

  abbrev left_slot : TaskSlot B → Phase B → Bool → Option B → TaskSlot B
  left_slot slot p k o = record slot { cell = record slot.cell { phase = p; cancelled = k }; body = o }

module _ {B L : Type 0} (left : B → L) (spot : L → Option Said → Spot) where
  -- the move there is the end of the poll
  abbrev pub EndsHere : InPoll → ℕ → Worker → Shared B → Type 0
  EndsHere x t w s =
      (p : Plan) (vs : Views) → Suits p vs w s
      → move_at p.config w.index (own_of (record w { place = Place.Poll t x })) (common_of left spot p vs s) (desk_of (record w { place = Place.Poll t x })) (things_with vs s) (Place.Poll t x)
      ≡ record { event = Pend t; choice = Plain; desk = (pend_moves w.index t (common_of left spot p vs s) (desk_of (record w { place = Place.Poll t x })) (task_of (common_of left spot p vs s) t)).desk; thing = things_with vs s }

  guest_seen : (slot : TaskSlot B) (b : B) (p : Phase B) (k : Bool) (o : Option B) → body_in slot.cell.phase slot.body ≡ Some b → body_in p o ≡ Some b → phase_seen p slot.poller ≡ pended_phase (phase_seen slot.cell.phase slot.poller)
      → task_seen left spot (left_slot slot p k o) ≡ record (task_seen left spot slot) { phase = pended_phase (phase_seen slot.cell.phase slot.poller) }
  guest_seen = grind arith

  guest_event : (x : InPoll) (t : ℕ) (q : Place) (h : Option Runnable) (w : Worker) (s : Shared B) (slot : TaskSlot B) (b : B) (p : Phase B) (k : Bool) (o : Option B) → MayEnd x t → slice_get s.tasks.items t ≡ Some slot → slot.home ≡ None
      → body_in slot.cell.phase slot.body ≡ Some b → GuestEnds x t q h w slot b p k o → EndsHere x t w s → (plan : Plan) (vs : Views) → Suits plan vs w s → may_stop (common_of left spot plan vs s) w.index slot.waiting ≡ true
      → IsEvent left spot (Place.Poll t x) q t w w.root_ready h s (left_slot slot p k o) (Pend t) Plain plan vs
  guest_event x t q h w s slot b p k o may there ordinary has ends here plan vs suits stop =
      let all = common_of left spot plan vs s in
      let me = own_of (record w { place = Place.Poll t x }) in
      let d = desk_of (record w { place = Place.Poll t x }) in
      let seen : Task = task_seen left spot slot in
      let it : task_of all t ≡ seen = task_there left spot s.tasks.items t slot there in
      let by : Desk → Moved Things = λ y. record { event = Pend t; choice = Plain; desk = y; thing = things_with vs s } in
      let kept : (task_of all t).cleared ≡ false = ap (λ y. y.cleared) it ∙ ends.uncleared.1 in
      record {
        moves = here plan vs suits ∙ ap (λ y. by (after_pend w.index t all d y y.home)) it ∙ ap (λ y. by (after_pend w.index t all d seen y)) ordinary
            ∙ ap (λ c. by (if c then told_of_end (lets_go_all w.index all seen d) else requeued_if (is_noted seen.phase) t d)) ends.uncleared.1 ∙ ap by ends.desk;
        may = (ap (is_number t) may.polls ∙ eq-eqb t t refl, (ap is_settled may.free, (ap (λ y. may_stop all w.index y.waiting) it ∙ stop, tt)));
        own = rw (kept, may.free, ends.out.polls, ends.out.free, ends.out.unserved, ends.out.owes) refl;
        common = grind (arith, it, ends.uncleared.1, guest_seen slot b p k o has ends.body ends.shown);
      }

  guest_ended : (x : InPoll) (t : ℕ) (q : Place) (h : Option Runnable) (w : Worker) (s s' : Shared B) → (sound : SoundAt (Place.Poll t x) w s) → MayEnd x t → EndsHere x t w s → (it : IsHere x t w s) → t ≢ w.root → (b : B) (p : Phase B) (k : Bool) (o : Option B)
      → body_in it.slot.cell.phase it.slot.body ≡ Some b → GuestEnds x t q h w it.slot b p k o → ((plan : Plan) (vs : Views) → may_stop (common_of left spot plan vs s) w.index it.slot.waiting ≡ true) → s'.tasks.items ≡ slice_set s.tasks.items t (left_slot it.slot p k o)
      → Steps left spot w s (Pend t) (record w { place = q; root_ready = w.root_ready; hand = h }) (record s { tasks = s'.tasks })
  guest_ended x t q h w s s' sound may here it apart b p k o has ends stop items =
      let slot = it.slot in
      let slot' = left_slot slot p k o in
      let guest = (it.ordinary apart).0 in
      let ordinary = (it.ordinary apart).1 in
      let keeps : Keeps slot slot' = record { home = refl; number = refl; owner = refl } in
      let empty : w.hand ≡ None = hand_empty x t w s sound may in
      let visits : Visits q t w h s slot slot' = record {
        apart = apart;
        there = it.there;
        keeps = keeps;
        hand = ends.hands;
        genuine = λ r has_it.
            let is : r ≡ runnable_of slot.cell = ends.genuine r has_it in
            let at : r.task.0 ≡ t = ap (λ x. x.task.0) is ∙ ap (λ n. n.0) it.number in
            record { slot = slot'; there = subst (λ n. slice_get (slice_set s.tasks.items t slot') n ≡ Some slot') (sym at) (set_there s.tasks.items t slot' slot it.there); ordinary = ordinary; of_it = is };
        polls = λ n never. let no : None ≡ Some n = sym ends.out.polls ∙ never in absurd (cc);
        guest = subst (λ x. HasGuest x (step_of_poll q) w.index w.root (slice_set s.tasks.items t slot')) (sym ends.out.polls) tt;
        stops = subst (λ y. Stops y (step_of_poll q) w.index (slice_set s.tasks.items t slot') s.requests.items s.sleepers.items) (sym ends.out.polls) tt;
        rests = λ unpolled_now. record { uncleared = λ h. ends.uncleared; told = λ told. guest.told (ends.told told); untold = guest.untold };
      } in
      let bal : Balances t q w h slot slot' = record {
        keeps = keeps;
        holder = ap (λ y. record (holder_of slot) { over = y }) ends.complete;
        apart = λ u other. ends.mine u other ∙ sym (ap (λ x. runnables_in u (option_to_list x)) empty);
        one = λ g home n one. ends.one g n (polled_none g slot.cell.phase (n + 0) it.polled (subst (λ x. HasOne g slot.cell.phase (n + runnables_in t (option_to_list x))) empty one));
        polls_apart = λ u other. ap (λ x. is_counted x u) ends.out.polls ∙ sym (ap (λ y. is_counted (polls_at y) u) sound.here ∙ number_apart t u (polls_in t x) may.polls other);
        polls = grind (arith, number_there, less);
        remains = λ home. record { cleared = refl; over = λ h. absurd (false≢true (sym (going_on slot.cell.phase it.polled) ∙ h)); poller = λ polled. absurd (false≢true (sym ends.unpolled ∙ polled)) };
        removes = λ u is. absurd (unremoved (removes_at q) ends.out.removes u is);
      } in
      slotted left spot t x q w w.root_ready h s s' slot slot' (Pend t) Plain sound ends.out.after (guest_tasked t x q w h s slot slot' sound visits) it.there items bal
      (home_mine w.index slot.home (inr ordinary)) (λ polled. inl it.poller)
      (record { home = keeps.home; body = ends.body ∙ sym has; going = λ h. sym ends.complete ∙ h; told = λ answer hears. (hears, refl) })
      (λ plan vs suits. guest_event x t q h w s slot b p k o may it.there ordinary has ends here plan vs suits (stop plan vs))
    where
      less : (n : ℕ) → n + 1 ≡ 1 → n + 0 ≡ 0
      less n h = omega (arith, h)

  -- where it goes: by whether it was cleared, and else whether it was woken
  record GuestLeads (x : InPoll) (t : ℕ) (w : Worker) (slot : TaskSlot B) (b : B) : Type 0 where
    q : Place
    h : Option Runnable
    p : Phase B
    k : Bool
    o : Option B
    ends : GuestEnds x t q h w slot b p k o
    became : pended_slot slot ≡ left_slot slot p k o
    goes : queued_again t (pend_answer slot.cell) (record w { place = after_poll_of t w }) ≡ record w { place = q; root_ready = w.root_ready; hand = h }

  guest_leads : (x : InPoll) (t : ℕ) (w : Worker) (slot : TaskSlot B) (b : B) → t ≢ w.root → w.hand ≡ None → slot.body ≡ Some b → slot.cell.number ≡ record { 0 = t } → slot.cell.cancelled ≡ false → slot.cleared ≡ false
      → (p : Phase B) → slot.cell.phase ≡ p → is_polled p ≡ true → GuestLeads x t w slot b
  guest_leads x t w slot b apart empty has number cancelled cleared Phase.Running phase polled =
      let never : (t == w.root) ≡ false = not_same t w.root apart in
      record {
        q = next_pick_of w;
        h = None;
        p = Phase.Idle b;
        k = slot.cell.cancelled;
        o = None;
        ends = record {
          out = next_outside (w.picks == 0);
          hands = subst (λ x. IsInHand None x None) (sym (next_hands (w.picks == 0))) refl;
          mine = λ u other. refl;
          genuine = λ r none. absurd (none_in r none);
          one = λ g n h. h;
          unpolled = refl;
          uncleared = (cancelled, cleared);
          complete = sym (ap is_complete phase);
          told = λ h. h;
          body = refl;
          shown = ap (λ y. pended_phase (phase_seen y slot.poller)) (sym phase);
          desk = ap (λ y. requeued_if (is_noted (phase_seen y slot.poller)) t (desk_of (record w { place = Place.Poll t x }))) phase
              ∙ ap (λ y. desk_of (record w { place = next_pick_of w; hand = y })) empty;
        };
        became = ap (λ x. pended_with x slot) has ∙ ap (λ x. record slot { cell = (if x then over slot.cell else record slot.cell { phase = given_back b slot.cell.phase }); body = (if x then Some b else None) }) cancelled
            ∙ ap (λ x. record slot { cell = record slot.cell { phase = given_back b x }; body = None }) phase;
        goes = grind (arith, cancelled, phase, never, empty);
      }
  guest_leads x t w slot b apart empty has number cancelled cleared Phase.Notified phase polled =
      let never : (t == w.root) ≡ false = not_same t w.root apart in
      let r : Runnable = runnable_of slot.cell in
      let at : r.task.0 ≡ t = ap (λ n. n.0) number in
      let q : Place = Place.Push InPush.LoadPushHead AfterPush.Pick in
      record {
        q = q;
        h = Some r;
        p = Phase.Queued b;
        k = slot.cell.cancelled;
        o = None;
        ends = record {
          out = to_push;
          hands = refl;
          mine = λ u other. in_hand_never u t r at other;
          genuine = λ x has_it. only x r has_it;
          one = λ g n h. once_queued g (n + runnables_in t (option_to_list (Some r))) (ap (λ m. n + m) (in_hand_once t r at) ∙ more n h);
          unpolled = refl;
          uncleared = (cancelled, cleared);
          complete = sym (ap is_complete phase);
          told = λ h. h;
          body = refl;
          shown = ap (λ y. pended_phase (phase_seen y slot.poller)) (sym phase);
          desk = ap (λ y. requeued_if (is_noted (phase_seen y slot.poller)) t (desk_of (record w { place = Place.Poll t x }))) phase
              ∙ ap (λ y. record (desk_of (record w { place = q })) { hand = Some y }) (sym at);
        };
        became = ap (λ x. pended_with x slot) has ∙ ap (λ x. record slot { cell = (if x then over slot.cell else record slot.cell { phase = given_back b slot.cell.phase }); body = (if x then Some b else None) }) cancelled
            ∙ ap (λ x. record slot { cell = record slot.cell { phase = given_back b x }; body = None }) phase;
        goes = grind (arith, cancelled, phase, never);
      }
    where
      only : (x y : Runnable) → Contains (option_to_list (Some y)) x → x ≡ y
      only x y (zero, few, is) = sym is
      only x y (suc n, few, is) = absurd (omega (arith, few))

      more : (n : ℕ) → n + 0 ≡ 0 → n + 1 ≡ 1
      more n h = omega (arith, h)
  guest_leads x t w slot b apart empty has number cancelled cleared (Phase.Idle y) phase polled = absurd (false≢true polled)
  guest_leads x t w slot b apart empty has number cancelled cleared (Phase.Queued y) phase polled = absurd (false≢true polled)
  guest_leads x t w slot b apart empty has number cancelled cleared Phase.Complete phase polled = absurd (false≢true polled)

  -- The poll of a task ends here that wasn't cleared.
  pub poll_stopped : (x : InPoll) (t : ℕ) (w w' : Worker) (s s' : Shared B) (e : Event) → SoundAt (Place.Poll t x) w s → MayEnd x t → EndsHere x t w s → e ≡ Pend t → (it : IsHere x t w s) → it.slot.cell.cancelled ≡ false → may_end it.slot.waiting ≡ true → MayStop w.index it.slot.waiting s.requests.items s.sleepers.items
      → w' ≡ queued_again t (pend_answer it.slot.cell) (record w { place = after_poll_of t w }) → TurnsSlot t s s' pended_slot → Steps left spot w s e w' s'
  poll_stopped x t w w' s s' e sound may here event it kept ends stop goes turns = by_number t w.root other root
    where
      may_stop_here : (p : Plan) (vs : Views) → may_stop (common_of left spot p vs s) w.index it.slot.waiting ≡ true
      may_stop_here p vs = stops left spot p vs w s it.slot.waiting ends stop

      is : (slot : TaskSlot B) → slice_get s.tasks.items t ≡ Some slot → it.slot ≡ slot
      is slot found = same_Some it.slot slot (sym it.there ∙ found)

      root : t ≡ w.root → Steps left spot w s e w' s'
      root same =
          subst (λ r. SoundAt (Place.Poll r x) w s → MayEnd x r → EndsHere x r w s → e ≡ Pend r → ((slot : TaskSlot B) → slice_get s.tasks.items r ≡ Some slot → w' ≡ queued_again r (pend_answer slot.cell) (record w { place = after_poll_of r w })) → TurnsSlot r s s' pended_slot
          → ((slot : TaskSlot B) (p : Plan) (vs : Views) → slice_get s.tasks.items r ≡ Some slot → Suits p vs w s → may_stop (common_of left spot p vs s) w.index slot.waiting ≡ true) → Steps left spot w s e w' s')
          (sym same)
          (λ at_root may' here' event' goes' turns' stop'. poll_ended left spot x w w' s s' e at_root may' here' event' goes' turns' stop') sound may here event
          (λ slot found. goes ∙ ap (λ (y : TaskSlot B). queued_again t (pend_answer y.cell) (record w { place = after_poll_of t w })) (is slot found)) turns
          (λ slot p vs found suits. ap (λ (y : TaskSlot B). may_stop (common_of left spot p vs s) w.index y.waiting) (sym (is slot found)) ∙ may_stop_here p vs)

      other : t ≢ w.root → Steps left spot w s e w' s'
      other apart =
          let body = has_body it.slot.body it.body in
          let lead = guest_leads x t w it.slot body.0 apart (hand_empty x t w s sound may) body.1 it.number kept (sym it.cancelled ∙ kept) it.slot.cell.phase refl it.polled in
          let items : s'.tasks.items ≡ slice_set s.tasks.items t (left_slot it.slot lead.p lead.k lead.o) = turns.tasks it.slot it.there ∙ ap (λ o. slice_set s.tasks.items t o) lead.became in
          let done = guest_ended x t lead.q lead.h w s s' sound may here it apart body.0 lead.p lead.k lead.o (in_poll it.slot.cell.phase it.slot.body it.polled ∙ body.1) lead.ends may_stop_here items in
          let at : w' ≡ record w { place = lead.q; root_ready = w.root_ready; hand = lead.h } = goes ∙ lead.goes in
          subst (λ y. Steps left spot w s e w' y) (sym turns.kept) (subst (λ y. Steps left spot w s e y (record s { tasks = s'.tasks })) (sym at) (subst (λ y. Steps left spot w s y (record w { place = lead.q; root_ready = w.root_ready; hand = lead.h }) (record s { tasks = s'.tasks })) (sym event) done))
