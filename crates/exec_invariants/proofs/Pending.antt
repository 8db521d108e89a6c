-- What the end of a poll is to the machine, where the task waits.
use Rattle.exec_invariants.{specs.{Places.{begins_at, hands_on_at, removes_at}, Holding.holder_of, Sound.{IsInHand, MayStop, SoundAt, may_end}, Whole.{HasOne, is_number as is_counted, runnables_in}, Works.{Suits, Steps}}, proofs.{Words.{◌≡◌, ◌⊎◌, inl, ℕ, ◌<◌, ◌==◌, ◌&&◌, ◌||◌, not, Bool, true, false, length, Option, Some, None, IsSome, refl, sym, ap, subst, ◌∙◌, slice_get, slice_set, is_some, option_to_list, IsTrue, if◌then◌else◌, false≢true, eq-eqb, slice_get_within, arith, or_right, is_polled, given_back, over, requeue_where, runnable_of, pend_answer, Said, AfterPoll, Runnable, Phase, Event, Pend, Request, Sleeper, Waiting, Next, Plain, Plan, is_number, may_stop, pended_phase, is_resolved, is_settled, is_unsent, task_of, AfterCallbacks, AfterPush, InPush, InPoll, Place, InCallbacks, move_at, is_noted, pend_moves, polls_at, polls_in, next_in_poll, Desk, Moved, Things, Shared, TaskSlot, Worker, is_complete, OfSlot, flag_after, pended_with, pended_slot, queued_again, Spot, after_poll_of, Views, own_of, desk_of, common_of, phase_seen, task_seen, body_in, things_with, TurnsSlot, same_Some}, Here.{IsHere, polled_here}, Polling.{IsOutside, home_mine, number_apart}, PoolKept.unremoved, Slots.{Balances, IsEvent, slotted, task_there}, SlotTasks.{IsAfter, root_tasked}, Seen.{request_at, sleeper_at}}}

-- WHAT IT WAITS FOR ISN'T OVER

requested : (it : Request) (i : ℕ) → (is_unsent it.forwarding ≡ false) ⊎ ((it.worker ≡ i) × (is_resolved it.phase ≡ false)) → (not (is_unsent it.forwarding) || ((it.worker == i) && not (is_resolved it.phase))) ≡ true
requested = grind (arith, or_right, eq-eqb)

slept : (it : Sleeper) (i : ℕ) → (is_unsent it.forwarding ≡ false) ⊎ ((it.worker ≡ i) × (it.fired ≡ false) × (it.removed ≡ false)) → (not (is_unsent it.forwarding) || ((it.worker == i) && not it.fired && not it.removed)) ≡ true
slept = grind (arith, or_right, eq-eqb)

pub stops : {B L : Type 0} (left : B → L) (spot : L → Option Said → Spot) (p : Plan) (vs : Views) (w : Worker) (s : Shared B) (u : Waiting) → may_end u ≡ true → MayStop w.index u s.requests.items s.sleepers.items → may_stop (common_of left spot p vs s) w.index u ≡ true
stops left spot p vs w s Waiting.Nothing ends so = absurd (false≢true ends)
stops left spot p vs w s (Waiting.Request k) ends so =
    subst (λ (it : Request). (not (is_unsent it.forwarding) || ((it.worker == w.index) && not (is_resolved it.phase))) ≡ true) (sym (request_at s.requests.items k so.0 so.1)) (requested so.0.shown w.index so.2)
stops left spot p vs w s (Waiting.Timer n) ends so =
    subst (λ (it : Sleeper). (not (is_unsent it.forwarding) || ((it.worker == w.index) && not it.fired && not it.removed)) ≡ true) (sym (sleeper_at s.sleepers.items n so.0 so.1)) (slept so.0.shown w.index so.2)
stops left spot p vs w s Waiting.Wake ends so = refl
stops left spot p vs w s Waiting.Woken ends so = absurd (false≢true ends)
stops left spot p vs w s Waiting.Yielded ends so = refl

-- a place of a poll that has begun, at which it may end
pub record MayEnd (x : InPoll) (t : ℕ) : Type 0 where
  pub polls : polls_in t x ≡ Some t
  pub free : next_in_poll x ≡ Next.Free
  pub begins : begins_at (Place.Poll t x) ≡ None
  pub hands : hands_on_at (Place.Poll t x) ≡ false

pub at_pend : (t : ℕ) → MayEnd InPoll.Pend t
at_pend t = record { polls = refl; free = refl; begins = refl; hands = refl }

pub at_resume : (t : ℕ) → MayEnd InPoll.Resume t
at_resume t = record { polls = refl; free = refl; begins = refl; hands = refl }

-- THE CELL

module _ {B : Type 0} where
  pub record EndsAs (p : Phase B) (b : B) (o : Option B) (i : ℕ) (r : Runnable) (f : Option Runnable) : Type 0 where
    pub shown : phase_seen (given_back b p) i ≡ pended_phase (phase_seen p i)
    pub same_body : body_in (given_back b p) None ≡ body_in p o
    pub polled : is_polled (given_back b p) ≡ false
    pub complete : is_complete (given_back b p) ≡ is_complete p
    pub flag : is_some (flag_after (requeue_where r p) f) ≡ (is_some f || is_noted (phase_seen p i))

  ends_as : (p : Phase B) (b : B) (o : Option B) (i : ℕ) (r : Runnable) (f : Option Runnable) → is_polled p ≡ true → o ≡ Some b → EndsAs p b o i r f
  ends_as = grind arith

  abbrev given_slot : B → TaskSlot B → TaskSlot B
  given_slot b slot = record slot { cell = record slot.cell { phase = given_back b slot.cell.phase }; body = None }

  slot_given : (slot : TaskSlot B) (b : B) → slot.body ≡ Some b → slot.cell.cancelled ≡ false → pended_slot slot ≡ given_slot b slot
  slot_given slot b has kept =
      ap (λ o. pended_with o slot) has ∙ ap (λ c. record slot { cell = (if c then over slot.cell else record slot.cell { phase = given_back b slot.cell.phase }); body = (if c then Some b else None) }) kept

  answer_given : (slot : TaskSlot B) → slot.cell.cancelled ≡ false → pend_answer slot.cell ≡ requeue_where (runnable_of slot.cell) slot.cell.phase
  answer_given slot kept = rw kept refl

  pub has_body : (o : Option B) → IsSome o → (b : B) × (o ≡ Some b)
  has_body None some = absurd (false≢true some)
  has_body (Some b) some = (b, refl)

  -- what a poll needs that ends here
  pub record IsAtEnd (t : ℕ) (s : Shared B) : Type 0 where
    pub there : t < length s.tasks.items
    pub polled : OfSlot t s (λ slot. IsTrue (is_polled slot.cell.phase))
    pub body : OfSlot t s (λ slot. IsSome slot.body)
    pub agrees : OfSlot t s (λ slot. slot.cell.cancelled ≡ slot.cleared)

  pub at_end : (x : InPoll) (t : ℕ) (w : Worker) (s : Shared B) → SoundAt (Place.Poll t x) w s → MayEnd x t → IsAtEnd t s
  at_end x t w s sound may =
      let it : IsHere x t w s = polled_here x t w s sound may.polls in
      let is : (slot : TaskSlot B) → slice_get s.tasks.items t ≡ Some slot → it.slot ≡ slot = λ slot found. same_Some it.slot slot (sym it.there ∙ found) in
      record {
        there = slice_get_within s.tasks.items t it.slot it.there;
        polled = λ slot found. ap (λ (o : TaskSlot B). is_polled o.cell.phase) (sym (is slot found)) ∙ it.polled;
        body = λ slot found. subst (λ (o : TaskSlot B). IsSome o.body) (is slot found) it.body;
        agrees = λ slot found. subst (λ (o : TaskSlot B). o.cell.cancelled ≡ o.cleared) (is slot found) it.cancelled;
      }

  pub hand_empty : (x : InPoll) (t : ℕ) (w : Worker) (s : Shared B) → SoundAt (Place.Poll t x) w s → MayEnd x t → w.hand ≡ None
  hand_empty x t w s sound may = subst (λ b. IsInHand None b w.hand) may.hands (subst (λ o. IsInHand o (hands_on_at (Place.Poll t x)) w.hand) may.begins sound.hand)

  -- who is polled has no runnable
  pub polled_none : (g : Bool) (p : Phase B) (n : ℕ) → is_polled p ≡ true → HasOne g p n → n ≡ 0
  polled_none = grind arith

abbrev pub to : Place
to = Place.Callbacks InCallbacks.TakeBatch AfterCallbacks.Look

to_callbacks : IsAfter (Place.Callbacks InCallbacks.TakeBatch AfterCallbacks.Look)
to_callbacks = record { open_still = refl; closing = refl; served = refl; unarmed = refl; calls = refl; begins = refl; queue = λ x h. h; searching = λ b h. tt; aims = λ c i seats. tt; batch = λ ms h. absurd (false≢true h); spare = refl; cancels = refl; sends_cancel = refl; heard = refl; bare = refl; claims = refl; counts = refl; published = refl; clears = refl; passes = refl; joins = refl }

pub to_push : IsOutside (Place.Push InPush.LoadPushHead AfterPush.Pick)
to_push = record { after = record { open_still = refl; closing = refl; served = refl; unarmed = refl; calls = refl; begins = refl; queue = λ x h. h; searching = λ b h. h; aims = λ c i seats. tt; batch = λ ms h. absurd (false≢true h); spare = refl; cancels = refl; sends_cancel = refl; heard = refl; bare = refl; claims = refl; counts = refl; published = refl; clears = refl; passes = refl; joins = refl }; polls = refl; free = refl; unserved = refl; owes = λ n. refl; removes = refl }

-- A ROOT'S POLL ENDS

module _ {B L : Type 0} (left : B → L) (spot : L → Option Said → Spot) where
  given_seen : (slot : TaskSlot B) (b : B) (i : ℕ) (r : Runnable) (f : Option Runnable) → EndsAs slot.cell.phase b slot.body slot.poller r f
      → task_seen left spot (given_slot b slot) ≡ record (task_seen left spot slot) { phase = pended_phase (task_seen left spot slot).phase }
  given_seen = grind arith

  -- the move there is the end of the poll
  abbrev pub EndsThere : InPoll → Worker → Shared B → Type 0
  EndsThere x w s =
      (p : Plan) (vs : Views) → Suits p vs w s
      → move_at p.config w.index (own_of (record w { place = Place.Poll w.root x })) (common_of left spot p vs s) (desk_of (record w { place = Place.Poll w.root x })) (things_with vs s) (Place.Poll w.root x)
      ≡ record { event = Pend w.root; choice = Plain; desk = (pend_moves w.index w.root (common_of left spot p vs s) (desk_of (record w { place = Place.Poll w.root x })) (task_of (common_of left spot p vs s) w.root)).desk; thing = things_with vs s }

  ended_event : (x : InPoll) (w : Worker) (f h : Option Runnable) (s : Shared B) (slot : TaskSlot B) (b : B) → MayEnd x w.root → slice_get s.tasks.items w.root ≡ Some slot → slot.home ≡ Some w.index → w.hand ≡ h
      → EndsAs slot.cell.phase b slot.body slot.poller (runnable_of slot.cell) w.root_ready → slot.cleared ≡ false → f ≡ flag_after (requeue_where (runnable_of slot.cell) slot.cell.phase) w.root_ready → EndsThere x w s
      → (p : Plan) (vs : Views) → Suits p vs w s → may_stop (common_of left spot p vs s) w.index slot.waiting ≡ true
      → IsEvent left spot (Place.Poll w.root x) to w.root w f h s (given_slot b slot) (Pend w.root) Plain p vs
  ended_event x w f h s slot b may there home empty how cleared flag ends p vs suits stop =
      let all = common_of left spot p vs s in
      let d = desk_of w in
      let it : task_of all w.root ≡ task_seen left spot slot = task_there left spot s.tasks.items w.root slot there in
      let kept : (task_of all w.root).cleared ≡ false = ap (λ y. y.cleared) it ∙ cleared in
      let by : Desk → Moved Things = λ k. record { event = Pend w.root; choice = Plain; desk = k; thing = (things_with vs s) } in
      record {
        moves = grind (arith, ends p vs suits, it, home, how.flag, flag, empty);
        may = (ap (is_number w.root) may.polls ∙ eq-eqb w.root w.root refl, (ap is_settled may.free, (ap (λ y. may_stop all w.index y.waiting) it ∙ stop, tt)));
        own = rw (kept, may.free) refl;
        common = grind (arith, it, cleared, given_seen slot b slot.poller (runnable_of slot.cell) w.root_ready how);
      }

  requeued_root : (w : Worker) (a : AfterPoll) → queued_again w.root a (record w { place = after_poll_of w.root w }) ≡ record w { place = to; root_ready = flag_after a w.root_ready }
  requeued_root = grind arith

  pub poll_ended : (x : InPoll) (w w' : Worker) (s s' : Shared B) (e : Event) → SoundAt (Place.Poll w.root x) w s → MayEnd x w.root → EndsThere x w s → e ≡ Pend w.root
      → ((slot : TaskSlot B) → slice_get s.tasks.items w.root ≡ Some slot → w' ≡ queued_again w.root (pend_answer slot.cell) (record w { place = after_poll_of w.root w })) → TurnsSlot w.root s s' pended_slot
      → ((slot : TaskSlot B) (p : Plan) (vs : Views) → slice_get s.tasks.items w.root ≡ Some slot → Suits p vs w s → may_stop (common_of left spot p vs s) w.index slot.waiting ≡ true)
      → Steps left spot w s e w' s'
  poll_ended x w w' s s' e sound may ends event goes turns stop =
      let it : IsHere x w.root w s = polled_here x w.root w s sound may.polls in
      let slot = it.slot in
      let there = it.there in
      let old = (it.root refl).0 in
      let home = (it.root refl).1 in
      let body = has_body slot.body it.body in
      let empty : w.hand ≡ None = hand_empty x w.root w s sound may in
      let how = ends_as slot.cell.phase body.0 slot.body slot.poller (runnable_of slot.cell) w.root_ready it.polled body.1 in
      let slot' = given_slot body.0 slot in
      let a : AfterPoll = requeue_where (runnable_of slot.cell) slot.cell.phase in
      let f : Option Runnable = flag_after a w.root_ready in
      let bal : Balances w.root to w None slot slot' = record {
        keeps = record { home = refl; number = refl; owner = refl };
        holder = ap (λ o. record (holder_of slot) { over = o }) how.complete;
        apart = λ u other. sym (ap (λ o. runnables_in u (option_to_list o)) empty);
        one = λ g ordinary. absurd (let never : Some w.index ≡ None = sym home ∙ ordinary in cc);
        polls_apart = λ u other. sym (ap (λ q. is_counted (polls_at q) u) sound.here ∙ number_apart w.root u (polls_in w.root x) may.polls other);
        polls = λ ordinary. absurd (let never : Some w.index ≡ None = sym home ∙ ordinary in cc);
        remains = λ ordinary. absurd (let never : Some w.index ≡ None = sym home ∙ ordinary in cc);
        removes = λ u is. absurd (unremoved (removes_at to) refl u is);
      } in
      let items = turns.tasks slot there ∙ ap (λ o. slice_set s.tasks.items w.root o) (slot_given slot body.0 body.1 old.kept) in
      let done : Steps left spot w s (Pend w.root) (record w { place = to; root_ready = f; hand = None }) (record s { tasks = s'.tasks }) =
      slotted left spot w.root x to w f None s s' slot slot' (Pend w.root) Plain sound to_callbacks (root_tasked w.root x to w f s slot slot' sound (grind arith)) there items bal
      (home_mine w.index slot.home (inl home)) (λ polled. inl it.poller) (record { home = refl; body = how.same_body; going = λ h. sym how.complete ∙ h; told = λ answer hears. (hears, refl) })
      (λ p vs suits. ended_event x w f None s slot body.0 may there home empty how old.uncleared refl ends p vs suits (stop slot p vs there suits)) in
      let is : w' ≡ record w { place = to; root_ready = f; hand = None } =
      goes slot there ∙ ap (λ y. queued_again w.root y (record w { place = after_poll_of w.root w })) (answer_given slot old.kept) ∙ requeued_root w a ∙ ap (λ o. record w { place = to; root_ready = f; hand = o }) empty in
      subst (λ y. Steps left spot w s e w' y) (sym turns.kept) (subst (λ y. Steps left spot w s e y (record s { tasks = s'.tasks })) (sym is) (subst (λ y. Steps left spot w s y (record w { place = to; root_ready = f; hand = None }) (record s { tasks = s'.tasks })) (sym event) done))

pub in_poll : {B : Type 0} (p : Phase B) (o : Option B) → is_polled p ≡ true → body_in p o ≡ o
in_poll = grind arith
