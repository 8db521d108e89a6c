-- Steps of a poll that change one task's slot: what holds then, and what they leave of others.
use Rattle.exec_invariants.{specs.{Drained.IsBefore, Hearing.Hears, Holding.{IsHolding, box_of, holder_of, nap_of, thing_of}, Gates.HaveGates, Places.{Drops, claims_at, clears_at, drops_at, has_count_at, is_published_at, one_if, removes_at}, Sound.{AreHome, SoundAt}, Spares.{Spares, SparesPolled}, Whole.{HasOne, IsGenuine, IsWhole, Profile, duties_of, hands_of, is_number, may_let_go, runnables_in, stock, with_worker}, Works.{Beside, Steps, Suits, Works}}, proofs.{Words.{[], ◌≡◌, ◌≢◌, ◌⊎◌, inr, ⊎_elim, ℕ, ◌+◌, ◌≤◌, ◌==◌, Bool, true, false, List, ◌∷◌, ◌++◌, length, map, Option, Some, None, refl, sym, ap, subst, ◌∙◌, arith, slice_get, slice_index_or, slice_set, option_map, option_to_list, if◌then◌else◌, length-set, map-set, get_or_from_slice_get, slice_get-map, slice_get_within, OpenState, is_polled, Said, Runnable, Phase, Event, own_after, common_after, allowed, Choice, Plan, AllTrue, no_task, InPoll, Place, move_at, polls_at, Record, Shared, TaskSlot, Worker, closes_at, closing_in, has_left, is_complete, is_pool, Spot, Views, visible, with_view, own_of, desk_of, common_of, task_seen, things_with, and_right, by_number, same_Some, set_elsewhere, set_there}, Aside.spares_none, Dedicated.chair_of_pool, Hearing.hears_so, PoolKept.{Redoes, chosen_other, chosen_own, is_its, number_is, pool_slot}, Turning.{set_found, view_found}, SlotTasks.{IsAfter, one_true, Tasked, sound_tasked, Keeps, genuine_set, guest_pool}}}

-- a worker that passes no permit on, and has no request join a gate
pub gates_free : (i : ℕ) (drops drops' : ℕ → Drops) (opens : List OpenState) (rs : List Record) → ((j : ℕ) → j ≢ i → drops' j ≡ drops j) → (drops' i).passes ≡ None → (drops' i).joins ≡ None → HaveGates drops opens rs → HaveGates drops' opens rs
gates_free = grind arith

module _ {B : Type 0} where
  -- the slot became another that holds and waits for the same
  pub holders_set : (tasks : List (TaskSlot B)) (t : ℕ) (slot slot' : TaskSlot B) → slice_get tasks t ≡ Some slot → holder_of slot' ≡ holder_of slot → map holder_of (slice_set tasks t slot') ≡ map holder_of tasks
  holders_set tasks t slot slot' there same =
      map-set holder_of tasks t slot' ∙ ap (slice_set (map holder_of tasks) t) same ∙ set_found (map holder_of tasks) t (holder_of slot) (slice_get-map holder_of tasks t ∙ ap (option_map holder_of) there)

  -- an ordinary task isn't cleared, nor is one that is over taken up again; and who polls it
  pub record Remains (t : ℕ) (q : Place) (i : ℕ) (slot slot' : TaskSlot B) : Type 0 where
    pub cleared : slot'.cleared ≡ slot.cleared
    pub over : is_complete slot.cell.phase ≡ true → is_complete slot'.cell.phase ≡ true
    pub poller : is_polled slot'.cell.phase ≡ true → ((slot'.poller ≡ i) × (polls_at q ≡ Some t)) ⊎ ((slot'.poller ≡ slot.poller) × (is_polled slot.cell.phase ≡ true))

  -- WHAT OTHERS HAVE: the hand may have a runnable of this task more or less, and the poll of it may begin or end
  pub record Balances (t : ℕ) (q : Place) (w : Worker) (h : Option Runnable) (slot slot' : TaskSlot B) : Type 0 where
    pub keeps : Keeps slot slot'
    pub holder : holder_of slot' ≡ holder_of slot
    pub apart : (u : ℕ) → u ≢ t → runnables_in u (option_to_list h) ≡ runnables_in u (option_to_list w.hand)
    pub one : (g : Bool) → slot.home ≡ None → (n : ℕ) → HasOne g slot.cell.phase (n + runnables_in t (option_to_list w.hand)) → HasOne g slot'.cell.phase (n + runnables_in t (option_to_list h))
    pub polls_apart : (u : ℕ) → u ≢ t → is_number (polls_at q) u ≡ is_number (polls_at w.place) u
    pub polls : slot.home ≡ None → (n : ℕ) → n + one_if (is_number (polls_at w.place) t) ≡ one_if (is_polled slot.cell.phase) → n + one_if (is_number (polls_at q) t) ≡ one_if (is_polled slot'.cell.phase)
    pub remains : slot.home ≡ None → Remains t q w.index slot slot'
    pub removes : (u : ℕ) → removes_at q ≡ Some u → (u ≡ t) × (slot.home ≡ None) × (is_complete slot'.cell.phase ≡ true) × (is_complete slot.cell.phase ≡ false)

  pub spares_slot : (i j t : ℕ) (s s' : Shared B) (slot slot' : TaskSlot B) → j ≢ i → slice_get s.tasks.items t ≡ Some slot → s'.tasks.items ≡ slice_set s.tasks.items t slot' → Keeps slot slot'
      → (slot.home ≡ Some j → ⊥) → (is_polled slot.cell.phase ≡ true → slot.poller ≡ j → SparesPolled slot slot') → AreHome s.config.workers (length s.seats.items) s.tasks.items → Spares j s (record s { tasks = s'.tasks })
  spares_slot i j t s s' slot slot' other there items keeps rootless unpolled homes =
      let at : (k : ℕ) (o : TaskSlot B) → slice_get s.tasks.items k ≡ Some o → (k ≡ t → ⊥) → slice_get s'.tasks.items k ≡ Some o = λ k o found apart. ap (λ ts. slice_get ts k) items ∙ set_elsewhere s.tasks.items t k slot' apart ∙ found in
      let is : (k : ℕ) (o : TaskSlot B) → slice_get s.tasks.items k ≡ Some o → k ≡ t → slot ≡ o = λ k o found same. same_Some slot o (sym there ∙ subst (λ m. slice_get s.tasks.items m ≡ Some o) same found) in
      let root : (k : ℕ) (o : TaskSlot B) → slice_get s.tasks.items k ≡ Some o → o.home ≡ Some j → slice_get s'.tasks.items k ≡ Some o = λ k o found home. at k o found (λ same. rootless (ap (λ (y : TaskSlot B). y.home) (is k o found same) ∙ home)) in
      let polled : (k : ℕ) (o : TaskSlot B) → slice_get s.tasks.items k ≡ Some o → is_polled o.cell.phase ≡ true → o.poller ≡ j → (o' : TaskSlot B) × (slice_get s'.tasks.items k ≡ Some o') × SparesPolled o o' = λ k o found polled mine.
      by_number k t
      (λ apart. (o, at k o found apart, record { polled = polled; number = refl; cancelled = λ h. h; kept = refl }))
      (λ same.
      let e = is k o found same in
      let now : slice_get s'.tasks.items k ≡ Some slot' = ap (λ ts. slice_get ts k) items ∙ subst (λ m. slice_get (slice_set s.tasks.items t slot') m ≡ Some slot') (sym same) (set_there s.tasks.items t slot' slot there) in
      (slot', now, subst (λ y. SparesPolled y slot') e (unpolled (ap (λ (y : TaskSlot B). is_polled y.cell.phase) e ∙ polled) (ap (λ (y : TaskSlot B). y.poller) e ∙ mine)))) in
      let genuine : (r : Runnable) → IsGenuine s.tasks.items r → IsGenuine s'.tasks.items r = λ r it. subst (λ ts. IsGenuine ts r) (sym items) (genuine_set s.tasks.items t slot slot' there keeps r it) in
      assumption (root, polled, genuine, spares_none j s)

  -- what that says of who polls, clears and removes
  redoes_slot : (t : ℕ) (q : Place) (w : Worker) (f h : Option Runnable) (s : Shared B) (slot slot' : TaskSlot B) (others : Profile) → (slot.home ≡ None → polls_at q ≡ Some t → IsBefore w.index s.seats.items) → clears_at w.place ≡ None → IsAfter q → slice_get s.tasks.items t ≡ Some slot → Balances t q w h slot slot' → IsWhole (with_worker others w) s
      → Redoes t w.index (duties_of (with_worker others w)) (duties_of (with_worker others (record w { place = q; root_ready = f; hand = h }))) slot slot' s.seats.items
  redoes_slot t q w f h s slot slot' others before uncleared to there bal whole =
      let then_polls : ℕ → Option ℕ = λ j. if j == w.index then polls_at q else others.polled_by j in
      let by_it : slot.home ≡ None → is_polled slot'.cell.phase ≡ true → (slot'.poller ≡ w.index) × (polls_at q ≡ Some t) → IsBefore slot'.poller s.seats.items × (then_polls slot'.poller ≡ Some t) =
      λ home polled its. subst (λ j. IsBefore j s.seats.items × (then_polls j ≡ Some t)) (sym its.0) (before home its.1, chosen_own w.index (polls_at q) (others.polled_by w.index) ∙ its.1) in
      -- a worker that polled it still does, where it is polled
      let still : slot.home ≡ None → is_polled slot.cell.phase ≡ true → is_polled slot'.cell.phase ≡ true → polls_at w.place ≡ Some t → polls_at q ≡ Some t = λ home polled polled' is.
      let total : others.polls t + one_if (is_number (polls_at w.place) t) ≡ one_if (is_polled slot.cell.phase) = whole.polls t slot there home in
      let one : one_if (is_polled slot.cell.phase) ≡ 1 = ap one_if polled in
      let total' : others.polls t + one_if (is_number (polls_at q) t) ≡ one_if (is_polled slot'.cell.phase) = bal.polls home (others.polls t) total in
      number_is (polls_at q) t (one_true (is_number (polls_at q) t) (omega (arith, ap one_if (is_its (polls_at w.place) t is), total, one, total', ap one_if polled'))) in
      let as_before : slot.home ≡ None → is_polled slot'.cell.phase ≡ true → (slot'.poller ≡ slot.poller) × (is_polled slot.cell.phase ≡ true) → IsBefore slot'.poller s.seats.items × (then_polls slot'.poller ≡ Some t) = λ home polled its.
      let it = whole.pool.who_polls t slot there home its.1 in
      subst (λ j. IsBefore j s.seats.items × (then_polls j ≡ Some t)) (sym its.0) (
        it.0,
        by_number slot.poller w.index
            (λ other. chosen_other slot.poller w.index (polls_at q) (others.polled_by slot.poller) other ∙ sym (chosen_other slot.poller w.index (polls_at w.place) (others.polled_by slot.poller) other) ∙ it.1)
            (λ same.
            let was : (if w.index == w.index then polls_at w.place else others.polled_by w.index) ≡ Some t = subst (λ j. (if j == w.index then polls_at w.place else others.polled_by j) ≡ Some t) same it.1 in
            subst (λ j. then_polls j ≡ Some t) (sym same)
            (chosen_own w.index (polls_at q) (others.polled_by w.index) ∙ still home its.1 polled (sym (chosen_own w.index (polls_at w.place) (others.polled_by w.index)) ∙ was))),
      ) in
      record {
        home = bal.keeps.home;
        cleared = λ home. (bal.remains home).cleared;
        over = λ home. (bal.remains home).over;
        clears = λ u. ap (λ o. others.clears u + one_if (is_number o u)) (to.clears ∙ sym uncleared);
        polls_beside = λ j other. chosen_other j w.index (polls_at q) (others.polled_by j) other ∙ sym (chosen_other j w.index (polls_at w.place) (others.polled_by j) other);
        drops_beside = λ j other. chosen_other j w.index (drops_at q) (others.drops_by j) other ∙ sym (chosen_other j w.index (drops_at w.place) (others.drops_by j) other);
        polls_others = λ u other is.
            let was : polls_at w.place ≡ Some u = sym (chosen_own w.index (polls_at w.place) (others.polled_by w.index)) ∙ is in
            chosen_own w.index (polls_at q) (others.polled_by w.index) ∙ number_is (polls_at q) u (bal.polls_apart u other ∙ is_its (polls_at w.place) u was);
        polls = λ home polled. ⊎_elim (by_it home polled) (as_before home polled) ((bal.remains home).poller polled);
        clears_next = ap (λ x. x.clears) (chosen_own w.index (drops_at q) (others.drops_by w.index)) ∙ to.clears ∙ sym (ap (λ x. x.clears) (chosen_own w.index (drops_at w.place) (others.drops_by w.index)) ∙ uncleared);
        removes_next = λ u is. inr (bal.removes u (sym (ap (λ x. x.removes) (chosen_own w.index (drops_at q) (others.drops_by w.index))) ∙ is));
      }

  pub whole_slot : (t : ℕ) (q : Place) (w : Worker) (f h : Option Runnable) (s s' : Shared B) (slot slot' : TaskSlot B) (others : Profile) → w.loot.values ≡ [] → claims_at w.place ≡ None → has_count_at w.place ≡ false → is_published_at w.place ≡ false → clears_at w.place ≡ None → (slot.home ≡ None → polls_at q ≡ Some t → IsBefore w.index s.seats.items) → IsAfter q
      → slice_get s.tasks.items t ≡ Some slot → s'.tasks.items ≡ slice_set s.tasks.items t slot' → Balances t q w h slot slot'
      → IsWhole (with_worker others w) s → IsWhole (with_worker others (record w { place = q; root_ready = f; hand = h })) (record s { tasks = s'.tasks })
  whole_slot t q w f h s s' slot slot' others none unclaimed uncounted unpublished uncleared before to there items bal whole =
      let shuffled : (m n k : ℕ) → (m + n) + k ≡ (m + k) + n = λ m n k. omega arith in
      let g : Bool = may_let_go s in
      let posted : is_published_at q ≡ is_published_at w.place = to.published ∙ sym unpublished in
      let was : (k : ℕ) (o : TaskSlot B) → slice_get s'.tasks.items k ≡ Some o → k ≢ t → slice_get s.tasks.items k ≡ Some o = λ k o found apart. sym (set_elsewhere s.tasks.items t k slot' apart) ∙ ap (λ ts. slice_get ts k) (sym items) ∙ found in
      let is : (k : ℕ) (o : TaskSlot B) → slice_get s'.tasks.items k ≡ Some o → k ≡ t → slot' ≡ o = λ k o found same. same_Some slot' o (sym (set_there s.tasks.items t slot' slot there) ∙ ap (λ ts. slice_get ts t) (sym items) ∙ subst (λ m. slice_get s'.tasks.items m ≡ Some o) same found) in
      let genuine : (r : Runnable) → IsGenuine s.tasks.items r → IsGenuine s'.tasks.items r = λ r it. subst (λ ts. IsGenuine ts r) (sym items) (genuine_set s.tasks.items t slot slot' there bal.keeps r it) in
      let holders : map holder_of s'.tasks.items ≡ map holder_of s.tasks.items = ap (map holder_of) items ∙ holders_set s.tasks.items t slot slot' there bal.holder in
      let hands : (o : Option Runnable) → option_to_list o ++ w.loot.values ≡ option_to_list o = λ o. ap (λ ls. option_to_list o ++ ls) none ∙ append_none (option_to_list o) in
      let had : (u : ℕ) (p : Phase B) → HasOne g p ((others.runnables u + runnables_in u (option_to_list w.hand ++ w.loot.values)) + stock u s) → HasOne g p ((others.runnables u + stock u s) + runnables_in u (option_to_list w.hand)) =
      λ u p one. subst (HasOne g p) (ap (λ ls. (others.runnables u + runnables_in u ls) + stock u s) (hands w.hand) ∙ shuffled (others.runnables u) (runnables_in u (option_to_list w.hand)) (stock u s)) one in
      let has : (u : ℕ) (p : Phase B) → HasOne g p ((others.runnables u + stock u s) + runnables_in u (option_to_list h)) → HasOne g p ((others.runnables u + runnables_in u (option_to_list h ++ w.loot.values)) + stock u s) =
      λ u p one. subst (HasOne g p) (sym (ap (λ ls. (others.runnables u + runnables_in u ls) + stock u s) (hands h) ∙ shuffled (others.runnables u) (runnables_in u (option_to_list h)) (stock u s))) one in
      record {
        runnables = λ u o found home.
            by_number u t
            (λ apart. has u o.cell.phase (subst (λ n. HasOne g o.cell.phase ((others.runnables u + stock u s) + n)) (sym (bal.apart u apart)) (had u o.cell.phase (whole.runnables u o (was u o found apart) home))))
            (λ same.
            let e = is u o found same in
            let old_home : slot.home ≡ None = sym bal.keeps.home ∙ ap (λ (y : TaskSlot B). y.home) e ∙ home in
            let now : HasOne g slot'.cell.phase ((others.runnables t + stock t s) + runnables_in t (option_to_list h)) = bal.one g old_home (others.runnables t + stock t s) (had t slot.cell.phase (whole.runnables t slot there old_home)) in
            has u o.cell.phase (subst (λ m. HasOne g o.cell.phase ((others.runnables m + stock m s) + runnables_in m (option_to_list h))) (sym same) (subst (λ (y : TaskSlot B). HasOne g y.cell.phase ((others.runnables t + stock t s) + runnables_in t (option_to_list h))) e now)));
        polls = λ u o found home.
            by_number u t
            (λ apart. ap (λ b. others.polls u + one_if b) (bal.polls_apart u apart) ∙ whole.polls u o (was u o found apart) home)
            (λ same.
            let e = is u o found same in
            let old_home : slot.home ≡ None = sym bal.keeps.home ∙ ap (λ (y : TaskSlot B). y.home) e ∙ home in
            let now : others.polls t + one_if (is_number (polls_at q) t) ≡ one_if (is_polled slot'.cell.phase) = bal.polls old_home (others.polls t) (whole.polls t slot there old_home) in
            subst (λ m. others.polls m + one_if (is_number (polls_at q) m) ≡ one_if (is_polled o.cell.phase)) (sym same) (now ∙ ap (λ (y : TaskSlot B). one_if (is_polled y.cell.phase)) e));
        claims = λ j chair found. ap (λ o. others.claims j + one_if (is_number o j)) (to.claims ∙ sym unclaimed) ∙ whole.claims j chair found;
        counts = rw (to.counts ∙ sym uncounted, posted) whole.counts;
        bits = rw posted whole.bits;
        set = whole.set;
        queued_here = λ j chair r found has_it. genuine r (whole.queued_here j chair r found has_it);
        queued_there = λ r has_it. genuine r (whole.queued_there r has_it);
        places = λ open_still. rw (items, length-set) (whole.places open_still);
        made = λ u more.
            let beyond : length s.tasks.items ≤ u = subst (λ n. n ≤ u) (ap length items ∙ length-set s.tasks.items t slot') more in
            let apart : u ≢ t = λ same. omega (arith, beyond, slice_get_within s.tasks.items t slot there, same) in
            let old = whole.made u beyond in (
              ap (λ ls. (others.runnables u + runnables_in u ls) + stock u s) (hands h) ∙ ap (λ n. (others.runnables u + n) + stock u s) (bal.apart u apart) ∙ sym (ap (λ ls. (others.runnables u + runnables_in u ls) + stock u s) (hands w.hand)) ∙ old.0,
              ap (λ b. others.polls u + one_if b) (bal.polls_apart u apart) ∙ old.1,
            );
        unclaimed = λ j more. ap (λ o. others.claims j + one_if (is_number o j)) (to.claims ∙ sym unclaimed) ∙ whole.unclaimed j more;
        in_pool = whole.in_pool;
        gates =
            gates_free w.index (with_worker others w).drops_by (with_worker others (record w { place = q; root_ready = f; hand = h })).drops_by s.opens s.requests.items
            (λ j other. chosen_other j w.index (drops_at q) (others.drops_by j) other ∙ sym (chosen_other j w.index (drops_at w.place) (others.drops_by j) other))
            (ap (λ x. x.passes) (chosen_own w.index (drops_at q) (others.drops_by w.index)) ∙ to.passes) (ap (λ x. x.joins) (chosen_own w.index (drops_at q) (others.drops_by w.index)) ∙ to.joins) whole.gates;
        holding = subst (λ hs. IsHolding (hands_of (with_worker others w)) s.config.workers hs (map thing_of s.requests.items) (map nap_of s.sleepers.items) (map box_of s.seats.items)) (sym holders) whole.holding;
        pool =
            pool_slot t w.index (duties_of (with_worker others w)) (duties_of (with_worker others (record w { place = q; root_ready = f; hand = h }))) s.tasks.items s'.tasks.items s.set s.seats.items slot slot' there items
            (redoes_slot t q w f h s slot slot' others before uncleared to there bal whole) whole.pool;
      }
    where
      append_none : (xs : List Runnable) → xs ++ [] ≡ xs
      append_none [] = refl
      append_none (x ∷ xs) = ap (λ ys. x ∷ ys) (append_none xs)

  -- who is open hasn't passed the barrier
  pub before_barrier : (p : Place) (w : Worker) (s : Shared B) → SoundAt p w s → is_pool w.role ≡ true → has_left (closes_at p) (closing_in p) ≡ false → IsBefore w.index s.seats.items
  before_barrier p w s sound of_pool unleft =
      let seat = sound.seated.seat in
      let left : seat.left ≡ false = (sound.phased seat sound.seated.there).left ∙ and_right seat.pool (has_left (closes_at p) (closing_in p)) unleft in
      record { chair = seat; there = sound.seated.there; going = rw (left, chair_of_pool p w s sound seat sound.seated.there ∙ of_pool) refl }

  pub before_in_poll : (t : ℕ) (x : InPoll) (w : Worker) (s : Shared B) → SoundAt (Place.Poll t x) w s → is_pool w.role ≡ true → IsBefore w.index s.seats.items
  before_in_poll t x w s sound of_pool = before_barrier (Place.Poll t x) w s sound of_pool refl

  -- who polls an ordinary task
  pub before_for : (t : ℕ) (x : InPoll) (w : Worker) (s : Shared B) (slot : TaskSlot B) → SoundAt (Place.Poll t x) w s → slice_get s.tasks.items t ≡ Some slot → slot.home ≡ None → IsBefore w.index s.seats.items
  before_for t x w s slot sound there none =
      before_in_poll t x w s sound (guest_pool t x w s sound (λ same.
      absurd (cc)))

module _ {B L : Type 0} (left : B → L) (spot : L → Option Said → Spot) where
  -- what the step is to the machine, for a worker at this place
  pub record IsEvent (q q' : Place) (t : ℕ) (w : Worker) (f h : Option Runnable) (s : Shared B) (slot' : TaskSlot B) (e : Event) (c : Choice) (p : Plan) (vs : Views) : Type 0 where
    pub moves : move_at p.config w.index (own_of (record w { place = q })) (common_of left spot p vs s) (desk_of (record w { place = q })) (things_with vs s) q ≡ record { event = e; choice = c; desk = desk_of (record w { place = q'; root_ready = f; hand = h }); thing = things_with vs s }
    pub may : AllTrue (allowed p.config (own_of (record w { place = q })) (common_of left spot p vs s) w.index e c)
    pub own : own_of (record w { place = q'; root_ready = f; hand = h }) ≡ own_after p.config (own_of (record w { place = q })) (common_of left spot p vs s) w.index e c
    pub common : common_after p.config (own_of (record w { place = q })) (common_of left spot p vs s) w.index e c ≡ record (common_of left spot p vs s) { tasks = slice_set (map (task_seen left spot) s.tasks.items) t (task_seen left spot slot') }

  pub works_slot : (q q' : Place) (t : ℕ) (w : Worker) (f h : Option Runnable) (s s' : Shared B) (slot' : TaskSlot B) (e : Event) (c : Choice) → w.place ≡ q → s'.tasks.items ≡ slice_set s.tasks.items t slot'
      → (p : Plan) (vs : Views) → Suits p vs w s → IsEvent q q' t w f h s slot' e c p vs → Works left spot p vs w s e (record w { place = q'; root_ready = f; hand = h }) (record s { tasks = s'.tasks })
  works_slot q q' t w f h s s' slot' e c here items p vs suits it =
      let w1 : Worker = record w { place = q'; root_ready = f; hand = h } in
      let s1 : Shared B = record s { tasks = s'.tasks } in
      let again : with_view vs w.index (visible w) ≡ vs = view_found vs w.index (visible w) suits.seen in
      let seen : map (task_seen left spot) s'.tasks.items ≡ slice_set (map (task_seen left spot) s.tasks.items) t (task_seen left spot slot') = ap (map (task_seen left spot)) items ∙ map-set (task_seen left spot) s.tasks.items t slot' in
      subst (λ v. Works left spot p vs v s e w1 s1) (ap (λ y. record w { place = y }) (sym here)) (record {
        choice = c;
        moves = it.moves ∙ ap (λ v. record { event = e; choice = c; desk = desk_of w1; thing = things_with v s1 }) (sym again);
        may = it.may;
        own = it.own;
        common = ap (λ v. common_of left spot p v s1) again ∙ ap (λ ts. record (common_of left spot p vs s) { tasks = ts }) seen ∙ sym it.common;
      })

  -- what is there of a task
  pub task_there : (tasks : List (TaskSlot B)) (t : ℕ) (slot : TaskSlot B) → slice_get tasks t ≡ Some slot → slice_index_or (map (task_seen left spot) tasks) t no_task ≡ task_seen left spot slot
  task_there tasks t slot there = get_or_from_slice_get (map (task_seen left spot) tasks) t (task_seen left spot slot) no_task (slice_get-map (task_seen left spot) tasks t ∙ ap (option_map (task_seen left spot)) there)

  pub beside_slot : (t : ℕ) (x : InPoll) (q : Place) (w : Worker) (f h : Option Runnable) (s s' : Shared B) (slot slot' : TaskSlot B) → SoundAt (Place.Poll t x) w s → IsAfter q → slice_get s.tasks.items t ≡ Some slot → s'.tasks.items ≡ slice_set s.tasks.items t slot' → Balances t q w h slot slot'
      → ((j : ℕ) → slot.home ≡ Some j → j ≡ w.index) → (is_polled slot.cell.phase ≡ true → (slot.poller ≡ w.index) ⊎ SparesPolled slot slot') → Beside w s (record w { place = q; root_ready = f; hand = h }) (record s { tasks = s'.tasks })
  beside_slot t x q w f h s s' slot slot' sound to there items bal home poller =
      record {
        spares = λ j other. spares_slot w.index j t s s' slot slot' other there items bal.keeps (λ is. other (home j is)) (λ polled mine. ⊎_elim (λ own. absurd (other (sym mine ∙ own))) (λ h. h) (poller polled)) sound.homes;
        whole = λ others whole. whole_slot t q w f h s s' slot slot' others (sound.loot.none refl) (ap claims_at sound.here) (ap has_count_at sound.here) (ap is_published_at sound.here) (ap clears_at sound.here) (λ home polls. before_for t x w s slot sound there home) to there items bal whole;
      }

  -- a whole step
  pub slotted : (t : ℕ) (x : InPoll) (q : Place) (w : Worker) (f h : Option Runnable) (s s' : Shared B) (slot slot' : TaskSlot B) (e : Event) (c : Choice) → SoundAt (Place.Poll t x) w s → IsAfter q → Tasked q w f h s (slice_set s.tasks.items t slot')
      → slice_get s.tasks.items t ≡ Some slot → s'.tasks.items ≡ slice_set s.tasks.items t slot' → Balances t q w h slot slot' → ((j : ℕ) → slot.home ≡ Some j → j ≡ w.index) → (is_polled slot.cell.phase ≡ true → (slot.poller ≡ w.index) ⊎ SparesPolled slot slot') → Hears slot slot'
      → ((p : Plan) (vs : Views) → Suits p vs w s → IsEvent (Place.Poll t x) q t w f h s slot' e c p vs)
      → Steps left spot w s e (record w { place = q; root_ready = f; hand = h }) (record s { tasks = s'.tasks })
  slotted t x q w f h s s' slot slot' e c sound to tasked there items bal home poller hears event = (
    (λ p vs suits. works_slot (Place.Poll t x) q t w f h s s' slot' e c sound.here items p vs suits (event p vs suits)),
    sound_tasked t x q w f h s s' sound to (subst (Tasked q w f h s) (sym items) tasked),
    hears_so t slot slot' refl refl there items hears,
    beside_slot t x q w f h s s' slot slot' sound to there items bal home poller,
  )
