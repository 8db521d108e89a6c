-- A poll begins: what the worker has in its hand then, and what the step is to the machine.
use Rattle.exec_invariants.{specs.{Holding.holder_of, Places.{begins_at, hands_on_at, in_poll_of, joins_at, one_if, removes_at}, Sound.{HasGuest, IsGuest, IsInHand, IsRunnable, SoundAt, Stops, is_told, one_of, root_in_hand, acts_next, IsResting}, Whole.{HasOne, IsGenuine, is_number, runnables_in}, Works.{Steps, Suits}}, proofs.{Words.{◌≡◌, ◌≢◌, ◌⊎◌, inl, inr, ⊎_elim, ℕ, ◌+◌, ◌==◌, Bool, true, false, Contains, [], Option, Some, None, IsSome, refl, sym, ap, subst, ◌∙◌, arith, lit<, slice_get, slice_set, is_some, option_to_list, if◌then◌else◌, false≢true, eq-eqb, slice_get-map, is_polled, queued_body, cell_begun, runnable_of, Said, Runnable, Phase, Event, Begin, Turn, TaskPhase, Waiting, Next, Plain, Plan, begun, begun_waiting, is_polled_here, is_ready, Seat, Task, task_of, InPick, InPoll, Place, after_poll, after_begin, begin_poll, let_go, next_at, polls_at, polls_in, serves_at, Moved, Things, does, goes, turns, Shared, TaskSlot, Worker, is_complete, begun_slot, begun_slot_if, numbers_held, Spot, next_pick_of, Views, own_of, owed_at, desk_of, common_of, phase_seen, task_seen, body_in, things_with, TurnsSlot, by_number, not_same, same_Some, set_there}, Begins.{awaits_before, begins_waiting, begins_with, begun_place, stops_later, told_before, waits_before}, Dedicated.chair_of_pool, Hearing.hears_begun, PoolKept.unremoved, Seats.own_seat, Slots.{Balances, IsEvent, Remains, slotted, task_there}, SlotTasks.{IsAfter, Keeps, Sits, Tasked, Visits, guest_tasked, none_in, root_tasked}, Turning.set_found}}

-- WHERE IT LEADS

pub on_in_poll : (t : ℕ) (y : InPoll) → begins_at (Place.Poll t y) ≡ None → joins_at (Place.Poll t y) ≡ None → IsAfter (Place.Poll t y)
on_in_poll t y begins joins =
    record { passes = refl; joins = joins; open_still = refl; closing = refl; served = refl; unarmed = refl; calls = refl; begins = begins; queue = λ x h. h; searching = λ b h. h; aims = λ c i seats. tt; batch = λ ms h. absurd (false≢true h); spare = refl; cancels = refl; sends_cancel = refl; heard = refl; bare = refl; claims = refl; counts = refl; published = refl; clears = refl }

-- no poll, and nothing for the machine to do
pub record IsOutside (q : Place) : Type 0 where
  pub after : IsAfter q
  pub polls : polls_at q ≡ None
  pub free : next_at q ≡ Next.Free
  pub unserved : serves_at q ≡ false
  pub owes : (n : ℕ) → owed_at n q ≡ []
  pub removes : removes_at q ≡ None

pub next_outside : (b : Bool) → IsOutside (if b then Place.TakeRootFlag else Place.Pick InPick.CountDown)
next_outside = grind arith

pub next_hands : (b : Bool) → hands_on_at (if b then Place.TakeRootFlag else Place.Pick InPick.CountDown) ≡ false
next_hands true = refl
next_hands false = refl

-- of the root itself
pub in_own_poll : (t : ℕ) (o : Option ℕ) (x : InPoll) → o ≡ Some t → in_poll_of t o x ≡ Some x
in_own_poll t o x is = ap (λ y. in_poll_of t y x) is ∙ ap (λ b. if b then Some x else None) (eq-eqb t t refl)

unflagged : (f h : Option Runnable) (r : Runnable) → h ≡ Some r → (IsSome f → h ≡ None) → (f ≡ None) × (one_of f h ≡ Some r)
unflagged None h r is one = (refl, is)
unflagged (Some q) h r is one = let never : Some r ≡ None = sym is ∙ one refl in absurd (cc)

-- how often it is in the hand
pub in_hand_once : (t : ℕ) (r : Runnable) → r.task.0 ≡ t → runnables_in t (option_to_list (Some r)) ≡ 1
in_hand_once t r is = rw (is, eq-eqb t t refl) refl

pub in_hand_never : (u t : ℕ) (r : Runnable) → r.task.0 ≡ t → u ≢ t → runnables_in u (option_to_list (Some r)) ≡ 0
in_hand_never u t r is apart = rw (is, not_same t u (λ e. apart (sym e))) refl

pub number_apart : (t u : ℕ) (o : Option ℕ) → o ≡ Some t → u ≢ t → is_number o u ≡ false
number_apart t u o is apart = ap (λ y. is_number y u) is ∙ not_same t u (λ e. apart (sym e))

-- where it is polled it isn't being taken out of the set
pub removes_none : (t : ℕ) (y : InPoll) → polls_in t y ≡ Some t → removes_at (Place.Poll t y) ≡ None
removes_none = grind arith

pub number_there : (t : ℕ) (o : Option ℕ) → o ≡ Some t → is_number o t ≡ true
number_there t o is = ap (λ y. is_number y t) is ∙ eq-eqb t t refl

module _ {B : Type 0} where
  -- the phase of a cell whose poll begins, and its body
  pub record BeginsAs (p : Phase B) (o : Option B) (i : ℕ) : Type 0 where
    pub polled : is_polled (cell_begun p) ≡ true
    pub body : IsSome (queued_body p)
    pub same_body : body_in (cell_begun p) (queued_body p) ≡ body_in p o
    pub shown : phase_seen (cell_begun p) i ≡ TaskPhase.Running i
    pub complete : is_complete (cell_begun p) ≡ is_complete p
    pub going : is_complete p ≡ false
    pub ready : (k : ℕ) → is_ready (phase_seen p k) ≡ true
    pub unpolled : is_polled p ≡ false
    pub unqueued : (b : B) → cell_begun p ≡ Phase.Queued b → ⊥
    pub one : (g : Bool) (n : ℕ) → HasOne g p (n + 1) → HasOne g (cell_begun p) (n + 0)
    pub polls : (n : ℕ) → n + 0 ≡ one_if (is_polled p) → n + 1 ≡ one_if (is_polled (cell_begun p))

  begins_as : (p : Phase B) (o : Option B) (i : ℕ) (b : B) → p ≡ Phase.Queued b → BeginsAs p o i
  begins_as = grind arith

  -- a cell that has nothing to begin
  pub record IsStale (p : Phase B) : Type 0 where
    pub none : queued_body p ≡ None
    pub unready : (i : ℕ) → is_ready (phase_seen p i) ≡ false
    pub one : (g : Bool) (n : ℕ) → HasOne g p (n + 1) → HasOne g p (n + 0)

  queued_or : (p : Phase B) → ((b : B) × (p ≡ Phase.Queued b)) ⊎ IsStale p
  queued_or = grind arith

  -- WHAT IS IN THE HAND: the right to poll this task. The root is queued, and not flagged.
  pub record IsAtStart (t : ℕ) (w : Worker) (s : Shared B) : Type 0 where
    pub slot : TaskSlot B
    pub there : slice_get s.tasks.items t ≡ Some slot
    pub hand : w.hand ≡ Some (runnable_of slot.cell)
    pub number : slot.cell.number ≡ record { 0 = t }
    pub root : t ≡ w.root → (w.root_ready ≡ None) × ((b : B) × (slot.cell.phase ≡ Phase.Queued b)) × (slot.home ≡ Some w.index)
    pub ordinary : t ≢ w.root → slot.home ≡ None

  pub at_start : (t : ℕ) (w : Worker) (s : Shared B) → SoundAt (Place.Poll t InPoll.BeginPoll) w s → IsAtStart t w s
  at_start t w s sound = by_number t w.root other root
    where
      r : Runnable
      r = sound.hand.0

      root : t ≡ w.root → IsAtStart t w s
      root same =
          let run = sound.runnable in
          let empty = unflagged w.root_ready (root_in_hand (Some t) w.root w.hand) r ((ap (λ b. if b then w.hand else None) (eq-eqb t w.root same)) ∙ sound.hand.1) run.one in
          let held : IsRunnable (Some r) run.root = subst (λ o. IsRunnable o run.root) empty.1 run.once in
          record {
            slot = run.root;
            there = ap (slice_get s.tasks.items) same ∙ run.there;
            hand = sound.hand.1 ∙ ap (λ q. Some q) held.0;
            number = run.number ∙ ap (λ n. record { 0 = n }) (sym same);
            root = λ is. (empty.0, held.1, run.home);
            ordinary = λ apart. absurd (apart same);
          }

      other : t ≢ w.root → IsAtStart t w s
      other apart =
          let here : Contains (option_to_list w.hand) r = subst (λ o. Contains (option_to_list o) r) (sym sound.hand.1) (0, lit< tt, refl) in
          let it : IsGenuine s.tasks.items r = ⊎_elim (λ is. absurd (apart (same_Some t w.root is))) (λ g. g) (sound.genuine r here) in
          let there : slice_get s.tasks.items t ≡ Some it.slot = subst (λ n. slice_get s.tasks.items n ≡ Some it.slot) sound.hand.2 it.there in
          record {
            slot = it.slot;
            there = there;
            hand = sound.hand.1 ∙ ap (λ q. Some q) it.of_it;
            number = sound.homes.number t it.slot there;
            root = λ is. absurd (apart is);
            ordinary = λ no. it.ordinary;
          }

  -- a hand that had this task's runnable is empty then, and its poll begins or none
  start_balances : (t : ℕ) (q : Place) (w : Worker) (slot slot' : TaskSlot B) → w.place ≡ Place.Poll t InPoll.BeginPoll → w.hand ≡ Some (runnable_of slot.cell) → slot.cell.number ≡ record { 0 = t } → Keeps slot slot' → holder_of slot' ≡ holder_of slot
      → ((g : Bool) (n : ℕ) → HasOne g slot.cell.phase (n + 1) → HasOne g slot'.cell.phase (n + 0)) → ((u : ℕ) → u ≢ t → is_number (polls_at q) u ≡ false)
      → ((n : ℕ) → n + 0 ≡ one_if (is_polled slot.cell.phase) → n + one_if (is_number (polls_at q) t) ≡ one_if (is_polled slot'.cell.phase)) → removes_at q ≡ None → (slot.home ≡ None → Remains t q w.index slot slot') → Balances t q w None slot slot'
  start_balances t q w slot slot' here hand number keeps holder one apart polls removes remains =
      let r : Runnable = runnable_of slot.cell in
      let of_it : r.task.0 ≡ t = ap (λ n. n.0) number in
      record {
        keeps = keeps;
        holder = holder;
        apart = λ u other. sym (ap (λ o. runnables_in u (option_to_list o)) hand ∙ in_hand_never u t r of_it other);
        one = λ g home n h. one g n (subst (λ k. HasOne g slot.cell.phase (n + k)) (ap (λ o. runnables_in t (option_to_list o)) hand ∙ in_hand_once t r of_it) h);
        polls_apart = λ u other. apart u other ∙ sym (ap (λ p. is_number (polls_at p) u) here);
        polls = λ home n h. polls n (subst (λ p. n + one_if (is_number (polls_at p) t) ≡ one_if (is_polled slot.cell.phase)) here h);
        remains = remains;
        removes = λ u is. absurd (unremoved (removes_at q) removes u is);
      }

-- its own worker is the only one whose root it may be
pub home_mine : (i : ℕ) (home : Option ℕ) → (home ≡ Some i) ⊎ (home ≡ None) → (j : ℕ) → home ≡ Some j → j ≡ i
home_mine i home (inl is) j at = same_Some j i (sym at ∙ is)
home_mine i home (inr is) j at = let never : None ≡ Some j = sym is ∙ at in absurd (cc)

module _ {B L : Type 0} (left : B → L) (spot : L → Option Said → Spot) where
  begun_seen : (i : ℕ) (slot : TaskSlot B) → BeginsAs slot.cell.phase slot.body i → task_seen left spot (begun_slot i slot) ≡ begun i (task_seen left spot slot)
  begun_seen = grind arith

  polled_here : (i : ℕ) (seat : Seat) (home : Option ℕ) → (home ≡ None → seat.pool ≡ true) → (home ≡ Some i) ⊎ (home ≡ None) → is_polled_here i seat home ≡ true
  polled_here i seat home pool (inl is) = ap (is_polled_here i seat) is ∙ eq-eqb i i refl
  polled_here i seat home pool (inr is) = ap (is_polled_here i seat) is ∙ pool is

  -- the root isn't an ordinary task
  pub rootless : (t : ℕ) (w : Worker) (s : Shared B) (slot : TaskSlot B) → SoundAt (Place.Poll t InPoll.BeginPoll) w s → slice_get s.tasks.items t ≡ Some slot → slot.home ≡ None → t ≢ w.root
  rootless = grind arith

  begun_event : (t : ℕ) (w : Worker) (s : Shared B) (slot : TaskSlot B) → SoundAt (Place.Poll t InPoll.BeginPoll) w s → slice_get s.tasks.items t ≡ Some slot → BeginsAs slot.cell.phase slot.body w.index → (slot.home ≡ Some w.index) ⊎ (slot.home ≡ None)
      → (p : Plan) (vs : Views) → Suits p vs w s
      → IsEvent left spot (Place.Poll t InPoll.BeginPoll) (Place.Poll t (after_begin (begun_waiting slot.waiting))) t w w.root_ready None s (begun_slot w.index slot) (Begin t) Plain p vs
  begun_event t w s slot sound there how home p vs suits =
      let d = desk_of (record w { place = Place.Poll t InPoll.BeginPoll }) in
      let it : task_of (common_of left spot p vs s) t ≡ task_seen left spot slot = task_there left spot s.tasks.items t slot there in
      let chair = sound.seated.seat in
      let seat = own_seat left spot p vs w s chair suits sound.seated.there in
      let begins = begins_with t (begun_waiting slot.waiting) in
      let made : Task → Moved Things = λ y. let m = begin_poll t d y in record { event = m.event; choice = m.choice; desk = m.desk; thing = things_with vs s } in
      let made_if : Bool → Moved Things = λ b. let m = (if b then does (Begin t) (goes (Place.Poll t (after_begin (begun_waiting slot.waiting))) (let_go d)) (task_seen left spot slot) else turns (after_poll slot.home d) (let_go d) (task_seen left spot slot)) in record { event = m.event; choice = m.choice; desk = m.desk; thing = things_with vs s } in
      grind (arith, polled_here, chair_of_pool, rootless, begun_seen)

  begun_tasked : (t : ℕ) (w : Worker) (s : Shared B) → (sound : SoundAt (Place.Poll t InPoll.BeginPoll) w s) → (it : IsAtStart t w s) → BeginsAs it.slot.cell.phase it.slot.body w.index
      → Tasked (Place.Poll t (after_begin (begun_waiting it.slot.waiting))) w w.root_ready None s (slice_set s.tasks.items t (begun_slot w.index it.slot))
  begun_tasked t w s sound it how =
      let u : Waiting = begun_waiting it.slot.waiting in
      let q : Place = Place.Poll t (after_begin u) in
      let slot' : TaskSlot B = begun_slot w.index it.slot in
      let polls : polls_in t (after_begin u) ≡ Some t = (begins_with t u).0 in
      let told : (over : Bool) → is_complete slot'.cell.phase ≡ over → is_complete it.slot.cell.phase ≡ over = λ over is. sym how.complete ∙ is in
      let root : t ≡ w.root → Tasked q w w.root_ready None s (slice_set s.tasks.items t slot') = λ same.
      let old = sound.tied.stands it.slot (subst (λ n. slice_get s.tasks.items n ≡ Some it.slot) same it.there) in
      let sits : Sits q w w.root_ready s it.slot slot' = grind arith in
      subst (λ n. Tasked q w w.root_ready None s (slice_set s.tasks.items n slot')) (sym same) (root_tasked t InPoll.BeginPoll q w w.root_ready s it.slot slot' sound sits) in
      let other : t ≢ w.root → Tasked q w w.root_ready None s (slice_set s.tasks.items t slot') = λ apart.
      let old = sound.resting t it.slot it.there (it.ordinary apart) how.unpolled in
      let cancelled : slot'.cell.cancelled ≡ slot'.cleared = (old.uncleared how.going).0 ∙ sym (old.uncleared how.going).1 in
      let told : is_told slot'.waiting false ≡ true → IsSome slot'.told = λ h. old.told (ap (is_told it.slot.waiting) how.going ∙ told_before it.slot.waiting false h) in
      let untold : acts_next slot'.waiting ≡ false → slot'.told ≡ None = λ h. old.untold (waits_before it.slot.waiting h) in
      let guest : IsGuest (after_begin u) w.index slot' = assumption (it.ordinary apart, cancelled, told, untold, begins_waiting it.slot.waiting, how) in
      let keeps : Keeps it.slot slot' = record { home = refl; number = refl; owner = refl } in
      let hand = subst (λ b. IsInHand None b None) (sym (begun_place t u).1) refl in
      let genuine : (r : Runnable) → Contains (option_to_list None) r → IsGenuine (slice_set s.tasks.items t slot') r = λ r has. absurd (none_in r has) in
      let polls_so : (u : ℕ) → polls_at q ≡ Some u → u ≢ w.root = λ n is same. apart (same_Some t n (sym polls ∙ is) ∙ same) in
      let guest_so = subst (λ o. HasGuest o (after_begin u) w.index w.root (slice_set s.tasks.items t slot')) (sym polls) (λ no. (slot', set_there s.tasks.items t slot' it.slot it.there, guest)) in
      let stops = subst (λ o. Stops o (after_begin u) w.index (slice_set s.tasks.items t slot') s.requests.items s.sleepers.items) (sym polls) (λ o found. stops_later u o.waiting w.index s.requests.items s.sleepers.items) in
      let rests : is_polled slot'.cell.phase ≡ false → IsResting slot' = λ unpolled. absurd (false≢true (sym unpolled ∙ how.polled)) in
      guest_tasked t InPoll.BeginPoll q w None s it.slot slot' sound (assumption (apart, keeps, hand, genuine, polls_so, guest_so, stops, rests, it)) in
      by_number t w.root other root

  holder_begun : (i : ℕ) (slot : TaskSlot B) → BeginsAs slot.cell.phase slot.body i → holder_of (begun_slot i slot) ≡ holder_of slot
  holder_begun i slot how = ap (λ a. record (holder_of slot) { awaits = a; over = is_complete (cell_begun slot.cell.phase) }) (awaits_before slot.waiting) ∙ ap (λ o. record (holder_of slot) { over = o }) how.complete

  home_of : (t : ℕ) (w : Worker) (s : Shared B) → (it : IsAtStart t w s) → (it.slot.home ≡ Some w.index) ⊎ (it.slot.home ≡ None)
  home_of t w s it = by_number t w.root (λ apart. inr (it.ordinary apart)) (λ same. inl (it.root same).2)

  begun_steps : (t : ℕ) (w : Worker) (s s' : Shared B) → SoundAt (Place.Poll t InPoll.BeginPoll) w s → (it : IsAtStart t w s) → BeginsAs it.slot.cell.phase it.slot.body w.index → s'.tasks.items ≡ slice_set s.tasks.items t (begun_slot w.index it.slot)
      → Steps left spot w s (Begin t) (record w { place = Place.Poll t (after_begin (begun_waiting it.slot.waiting)); root_ready = w.root_ready; hand = None }) (record s { tasks = s'.tasks })
  begun_steps t w s s' sound it how items =
      let u : Waiting = begun_waiting it.slot.waiting in
      let q : Place = Place.Poll t (after_begin u) in
      let polls : polls_in t (after_begin u) ≡ Some t = (begins_with t u).0 in
      let slot' = begun_slot w.index it.slot in
      let bal : Balances t q w None it.slot slot' = start_balances t q w it.slot slot' sound.here it.hand it.number (record { home = refl; number = refl; owner = refl }) (holder_begun w.index it.slot how) how.one
      (λ k apart. number_apart t k (polls_at q) polls apart) (λ n h. ap (λ b. n + one_if b) (number_there t (polls_at q) polls) ∙ how.polls n h)
      (removes_none t (after_begin u) polls) (λ home. record { cleared = refl; over = λ h. absurd (false≢true (sym how.going ∙ h)); poller = λ polled. inl (refl, polls) }) in
      slotted left spot t InPoll.BeginPoll q w w.root_ready None s s' it.slot slot' (Begin t) Plain sound (on_in_poll t (after_begin u) (begun_place t u).0 (begun_place t u).2) (begun_tasked t w s sound it how) it.there items bal
      (home_mine w.index it.slot.home (home_of t w s it)) (λ polled. absurd (false≢true (sym how.unpolled ∙ polled)))
      (record { home = refl; body = how.same_body; going = λ h. sym how.complete ∙ h; told = hears_begun it.slot.told it.slot.waiting (numbers_held it.slot.held.items) })
      (begun_event t w s it.slot sound it.there how (home_of t w s it))

  -- A STALE RUNNABLE: nothing of the task changes

  own_outside : (q : Place) (w : Worker) (h : Option Runnable) → IsOutside q → own_of (record w { place = q; hand = h }) ≡ own_of (record w { place = Place.BeginTurn })
  own_outside q w h out = rw (out.polls, out.free, out.unserved, out.owes) refl

  stale_event : (t : ℕ) (w : Worker) (s : Shared B) (slot : TaskSlot B) → slice_get s.tasks.items t ≡ Some slot → IsStale slot.cell.phase → slot.home ≡ None → (p : Plan) (vs : Views)
      → IsEvent left spot (Place.Poll t InPoll.BeginPoll) (next_pick_of w) t w w.root_ready None s slot Turn Plain p vs
  stale_event t w s slot there stale ordinary p vs =
      let d = desk_of (record w { place = Place.Poll t InPoll.BeginPoll }) in
      let it : task_of (common_of left spot p vs s) t ≡ task_seen left spot slot = task_there left spot s.tasks.items t slot there in
      let made : Task → Moved Things = λ y. let m = begin_poll t d y in record { event = m.event; choice = m.choice; desk = m.desk; thing = things_with vs s } in
      let made_if : Bool → Option ℕ → Moved Things = λ b h. let m = (if b then does (Begin t) (goes (Place.Poll t (after_begin (begun_waiting slot.waiting))) (let_go d)) (task_seen left spot slot) else turns (after_poll h d) (let_go d) (task_seen left spot slot)) in record { event = m.event; choice = m.choice; desk = m.desk; thing = things_with vs s } in
      grind (arith, own_outside, next_outside, set_found, slice_get-map)

  stale_steps : (t : ℕ) (w : Worker) (s s' : Shared B) → SoundAt (Place.Poll t InPoll.BeginPoll) w s → (it : IsAtStart t w s) → IsStale it.slot.cell.phase → s'.tasks.items ≡ slice_set s.tasks.items t it.slot
      → Steps left spot w s Turn (record w { place = next_pick_of w; root_ready = w.root_ready; hand = None }) (record s { tasks = s'.tasks })
  stale_steps t w s s' sound it stale items =
      let q : Place = next_pick_of w in
      let out : IsOutside q = next_outside (w.picks == 0) in
      let ordinary = it.ordinary (λ same. let queued = (it.root same).1 in let never : Some queued.0 ≡ None = sym (ap queued_body queued.1) ∙ stale.none in absurd (cc)) in
      let keeps : Keeps it.slot it.slot = record { home = refl; number = refl; owner = refl } in
      let visits : Visits q t w None s it.slot it.slot = grind arith in
      let bal : Balances t q w None it.slot it.slot = start_balances t q w it.slot it.slot sound.here it.hand it.number keeps refl stale.one (λ k other. ap (λ o. is_number o k) out.polls) (λ n h. ap (λ o. n + one_if (is_number o t)) out.polls ∙ h)
      out.removes (λ home. record { cleared = refl; over = λ h. h; poller = λ polled. inr (refl, polled) }) in
      slotted left spot t InPoll.BeginPoll q w w.root_ready None s s' it.slot it.slot Turn Plain sound out.after (guest_tasked t InPoll.BeginPoll q w None s it.slot it.slot sound visits) it.there items bal
      (home_mine w.index it.slot.home (inr ordinary)) (λ polled. inr (record { polled = polled; number = refl; cancelled = λ h. h; kept = refl })) (record { home = refl; body = refl; going = λ h. h; told = λ answer hears. (hears, refl) })
      (λ p vs suits. stale_event t w s it.slot it.there stale ordinary p vs)

  pub poll_begun : (t : ℕ) (w w' : Worker) (s s' : Shared B) (e : Event) → SoundAt (Place.Poll t InPoll.BeginPoll) w s
      → ((slot : TaskSlot B) → slice_get s.tasks.items t ≡ Some slot → e ≡ (if is_some (queued_body slot.cell.phase) then Begin t else Turn))
      → ((slot : TaskSlot B) → slice_get s.tasks.items t ≡ Some slot → w'.place ≡ (if is_some (queued_body slot.cell.phase) then Place.Poll t (after_begin (begun_waiting slot.waiting)) else next_pick_of w))
      → w' ≡ record w { place = w'.place; hand = None } → TurnsSlot t s s' (begun_slot_if w.index) → Steps left spot w s e w' s'
  poll_begun t w w' s s' e sound event place same turns =
      let by : (b : Bool) (it : IsAtStart t w s) → is_some (queued_body it.slot.cell.phase) ≡ b → Steps left spot w s (if b then Begin t else Turn) (record w { place = (if b then Place.Poll t (after_begin (begun_waiting it.slot.waiting)) else next_pick_of w); root_ready = w.root_ready; hand = None }) (record s { tasks = s'.tasks }) → Steps left spot w s e w' s' = λ b it is done.
      let q : Place = (if b then Place.Poll t (after_begin (begun_waiting it.slot.waiting)) else next_pick_of w) in
      let there_place : w'.place ≡ q = place it.slot it.there ∙ ap (λ c. if c then Place.Poll t (after_begin (begun_waiting it.slot.waiting)) else next_pick_of w) is in
      let at : w' ≡ record w { place = q; hand = None } = same ∙ ap (λ y. record w { place = y; hand = None }) there_place in
      let happens : e ≡ (if b then Begin t else Turn) = event it.slot it.there ∙ ap (λ c. if c then Begin t else Turn) is in
      subst (λ y. Steps left spot w s e w' y) (sym turns.kept)
      (subst (λ y. Steps left spot w s e y (record s { tasks = s'.tasks })) (sym at)
      (subst (λ y. Steps left spot w s y (record w { place = q; hand = None }) (record s { tasks = s'.tasks })) (sym happens) done)) in
      let begins : (it : IsAtStart t w s) → (b : B) × (it.slot.cell.phase ≡ Phase.Queued b) → Steps left spot w s e w' s' = λ it queued.
      let how = begins_as it.slot.cell.phase it.slot.body w.index queued.0 queued.1 in
      let items : s'.tasks.items ≡ slice_set s.tasks.items t (begun_slot w.index it.slot) = turns.tasks it.slot it.there ∙ ap (λ b. slice_set s.tasks.items t (if b then begun_slot w.index it.slot else it.slot)) how.body in
      by true it how.body (begun_steps t w s s' sound it how items) in
      let passes : (it : IsAtStart t w s) → IsStale it.slot.cell.phase → Steps left spot w s e w' s' = λ it stale.
      let none : is_some (queued_body it.slot.cell.phase) ≡ false = ap is_some stale.none in
      let items : s'.tasks.items ≡ slice_set s.tasks.items t it.slot = turns.tasks it.slot it.there ∙ ap (λ b. slice_set s.tasks.items t (if b then begun_slot w.index it.slot else it.slot)) none in
      by false it none (stale_steps t w s s' sound it stale items) in
      let it = at_start t w s sound in
      ⊎_elim (begins it) (passes it) (queued_or it.slot.cell.phase)
