-- Where the own run queue, the global queue and what is in the hands change, and nothing else that is shared: what such a
-- turn leaves of the balances, and where it leads.
use Rattle.exec_invariants.{specs.{HoldPlaces.spare_at, Gates.HaveGates, Rooted.HearsNext, Due.IsDue, Flown.HasFlown, Kinds.{Kind, kind_of}, Places.{begins_at, calls_back_at, claims_at, drops_at, hands_on_at, has_count_at, has_loot_at, in_poll_of, is_armed_at, is_pooled_at, is_published_at, searches_at, step_of_poll, task_at}, Sound.{Aims, has_wakes_at, HasBatch, HasGuest, HasLetters, HasQueue, HasRunnable, IsHeld, IsInHand, IsLeft, IsLoot, IsSearching, IsSeated, IsTied, LetsGoAt, root_in_hand, Serves, SoundAt, Stops}, Names.tellers, Whole.{HasOne, IsGenuine, IsWhole, Profile, claimed_count, may_let_go, runnables_in, stock, with_worker}, Works.{Steps, Suits}}, proofs.{Words.{[], ◌≡◌, ℕ, ◌+◌, ◌*◌, ◌≤◌, ◌==◌, Bool, true, false, Contains, List, ◌++◌, length, map, Option, None, Some, refl, sym, ap, arith, subst, ◌∙◌, option_to_list, slice_get, slice_set, if◌then◌else◌, length-set, Global, Queue, tail_of, Said, Runnable, Configuration, Event, Turn, Next, Plain, Plan, Place, move_at, next_at, polls_at, serves_at, Moved, Things, set_global, set_queue, with_queue, is_pool, Chair, Shared, TaskSlot, Worker, IsPhased, closes_at, closing_in, stage_of, IsTold, IsMailbox, Spot, Views, common_of, desk_of, driver_of, inbox_at, own_of, polls_seen, queue_at, queue_seen, seats_seen, tasks_of, things_with, word_at, set_there}, Showing.{queue_shows, seats_kept}, Dedicated.as_long, Aside.{hands_same, SameTold, seats_own, seats_same, spares_turn}, Idled.{guest_again, guest_calm, step_again, step_if, stops_again, stops_calm}, PoolKept.{drops_same, pool_of}, Queued.{Hands, hands_of}, Turning.{Arrives, GoesOn, IsTurn, turned}}}

-- THE BALANCES

no_more : (n m : ℕ) → n ≤ m → m ≡ 0 → n ≡ 0
no_more n m few none = omega arith

pub as_many : (n m : ℕ) → n ≡ m → m ≤ n
as_many n m same = omega arith

-- a worker has what it had but for runnables
pub record Poses (w w' : Worker) : Type 0 where
  pub polls : polls_at w'.place ≡ polls_at w.place
  pub claims : claims_at w'.place ≡ claims_at w.place
  pub searching : w'.searching ≡ w.searching
  pub counts : has_count_at w'.place ≡ has_count_at w.place
  pub index : w'.index ≡ w.index
  pub published : is_published_at w'.place ≡ is_published_at w.place
  pub drops : drops_at w'.place ≡ drops_at w.place
  pub told : SameTold w w'

-- runnables go between its hands and its run queue, where no claim of that comes or goes
pub hands_own : (k : ℕ) (q q' : Queue Runnable) (w w' : Worker) → Poses w w' → ((t : ℕ) → runnables_in t (hands_of w') + runnables_in t (q'.values ++ q'.held) ≡ runnables_in t (hands_of w) + runnables_in t (q.values ++ q.held)) → (q'.gap == 0) ≡ (q.gap == 0) → Hands k q q' w w'
hands_own = grind arith

-- THE OWN SEAT, of which the run queue became this

pub seated_own : (i workers : ℕ) (armed : Bool) (seats seats' : List Chair) (its : Chair) (x : Queue Runnable) → slice_get seats i ≡ Some its → seats' ≡ slice_set seats i (record its { queue = x }) → IsSeated i armed workers seats → IsSeated i armed workers seats'
seated_own i workers armed seats seats' its x there set seated =
    let is : seated.seat ≡ its = cc (seated.there, there) in
    record {
      many = as_long (ap length set ∙ length-set seats i (record its { queue = x })) seated.many;
      seat = record its { queue = x };
      there = ap (λ xs. slice_get xs i) set ∙ set_there seats i (record its { queue = x }) its there;
      pool = ap (λ (c : Chair). c.pool) (sym is) ∙ seated.pool;
      unarmed = λ h. ap (λ (c : Chair). c.mailbox.waker.target) (sym is) ∙ seated.unarmed h;
      mail = subst (λ (c : Chair). IsMailbox c.mailbox) is seated.mail;
    }

-- it is there then
pub own_now : (i : ℕ) (seats seats' : List Chair) (its chair : Chair) (x : Queue Runnable) → slice_get seats i ≡ Some its → seats' ≡ slice_set seats i (record its { queue = x }) → slice_get seats' i ≡ Some chair → record its { queue = x } ≡ chair
own_now = grind (arith, set_there)

-- WHERE IT LEADS

-- what a place says but of the hands, of whether a search count is held, and of how far a closing is
abbrev pub still_of : Place → Kind
still_of p = record (kind_of p) { step = step_if (polls_at p) (step_of_poll p); closing = None; closes = false; begins = None; hands_on = false; loot = true; searches = None; pooled = false; calls = None; spare = 0; bare = false }

module _ {B : Type 0} where
  -- the hands and the global queue change
  pub whole_handed : (others : Profile) (w w' : Worker) (s : Shared B) (g : Global Runnable) → g.places ≡ s.global.places → g.closed ≡ s.global.closed → Poses w w'
      → ((t : ℕ) (slot : TaskSlot B) → slice_get s.tasks.items t ≡ Some slot → slot.home ≡ None → HasOne (may_let_go s) slot.cell.phase ((others.runnables t + runnables_in t (hands_of w)) + stock t s) → HasOne (may_let_go s) slot.cell.phase ((others.runnables t + runnables_in t (hands_of w')) + stock t (record s { global = g })))
      → ((t : ℕ) → length s.tasks.items ≤ t → (others.runnables t + runnables_in t (hands_of w')) + stock t (record s { global = g }) ≤ (others.runnables t + runnables_in t (hands_of w)) + stock t s)
      → ((r : Runnable) → Contains g.values r → IsGenuine s.tasks.items r) → IsWhole (with_worker others w) s → IsWhole (with_worker others w') (record s { global = g })
  whole_handed others w w' s g places closed same one most genuine whole =
      let claimed : claimed_count (with_worker others w') s ≡ claimed_count (with_worker others w) s = rw (same.index, same.published) refl in
      record {
        runnables = λ t slot there home. rw closed (one t slot there home (whole.runnables t slot there home));
        polls = λ t slot there home. rw same.polls (whole.polls t slot there home);
        claims = λ j chair there. rw same.claims (whole.claims j chair there);
        counts = rw (claimed, same.searching, same.counts) whole.counts;
        bits = λ j h. rw (same.index, same.published) (whole.bits j h);
        set = whole.set;
        queued_here = whole.queued_here;
        queued_there = genuine;
        places = rw (closed, places) whole.places;
        made = λ t more. let none = whole.made t more in (no_more _ _ (most t more) none.0, rw same.polls none.1);
        unclaimed = λ j more. rw same.claims (whole.unclaimed j more);
        in_pool = whole.in_pool;
        pool = pool_of others w w' s.tasks.items s.set s.seats.items same.index same.polls same.drops whole.pool;
        gates = subst (λ f. HaveGates f s.opens s.requests.items) (sym (drops_same others w w' same.index same.drops)) whole.gates;
        holding = rw (hands_same others w w' same.index same.told) whole.holding;
      }

  record Still (k : Kind) (w : Worker) (s : Shared B) : Type 0 where
    guest : HasGuest k.polls k.step w.index w.root s.tasks.items
    due : IsDue k.served w.home.closing w.index w.moments s.config w.names (driver_of w) w.home.timers s.requests.items s.sleepers.items
    flown : HasFlown k.served w.index w.names (driver_of w) s.requests.items
    letters : HasLetters k.sends_cancel k.cancels w.index s.config.workers w.letters s.requests.items s.sleepers.items
    stops : Stops k.polls k.step w.index s.tasks.items s.requests.items s.sleepers.items
    hears : HearsNext k.heard w.index s.requests.items s.sleepers.items
    tied : IsTied (in_poll_of w.root k.polls k.step) w.index w.root s.tasks.items

  of_still : (q q' : Place) (w : Worker) (s : Shared B) → SoundAt q w s → still_of q' ≡ still_of q → Still (still_of q') w s
  of_still = grind (arith, guest_calm, stops_calm, step_again)

  -- what a place needs of the seat, and of the batch
  pub record Around (q : Place) (w : Worker) (s t : Shared B) : Type 0 where
    pub seated : IsSeated w.index (is_armed_at q) s.config.workers t.seats.items
    pub queue : (chair : Chair) → slice_get t.seats.items w.index ≡ Some chair → HasQueue q chair.queue
    pub aims : Aims q s.config w.index t.seats.items
    pub batch : HasBatch q w.batch.values
    pub batch_place : (chair : Chair) → slice_get t.seats.items w.index ≡ Some chair → chair.mailbox.inbox.closed ≡ false → 2 * chair.made + 1 ≤ w.batch.places
    pub lets_go : LetsGoAt q (driver_of w).requests w.home.timers
    pub phased : (chair : Chair) → slice_get t.seats.items w.index ≡ Some chair → IsPhased w.index (closes_at q) (closing_in q) w.home.closing w.root w.names.unreleased (stage_of chair s) s.tasks.items

  -- where only the own run queue became this
  pub around_own : (q : Place) (w : Worker) (s t : Shared B) (its : Chair) (x : Queue Runnable) → slice_get s.seats.items w.index ≡ Some its → t.seats.items ≡ slice_set s.seats.items w.index (record its { queue = x })
      → IsSeated w.index (is_armed_at q) s.config.workers s.seats.items → HasQueue q x → Aims q s.config w.index t.seats.items → HasBatch q w.batch.values → (its.mailbox.inbox.closed ≡ false → 2 * its.made + 1 ≤ w.batch.places) → LetsGoAt q (driver_of w).requests w.home.timers
      → IsPhased w.index (closes_at q) (closing_in q) w.home.closing w.root w.names.unreleased (stage_of its s) s.tasks.items → Around q w s t
  around_own q w s t its x there set seated queue aims batch place lets_go phased =
      record {
        seated = seated_own w.index s.config.workers (is_armed_at q) s.seats.items t.seats.items its x there set seated;
        queue = λ chair found. subst (λ (c : Chair). HasQueue q c.queue) (own_now w.index s.seats.items t.seats.items its chair x there set found) queue;
        aims = aims;
        batch = batch;
        batch_place = λ chair found. subst (λ (c : Chair). c.mailbox.inbox.closed ≡ false → 2 * c.made + 1 ≤ w.batch.places) (own_now w.index s.seats.items t.seats.items its chair x there set found) place;
        lets_go = lets_go;
        phased = λ chair found.
            subst (λ (c : Chair). IsPhased w.index (closes_at q) (closing_in q) w.home.closing w.root w.names.unreleased (stage_of c s) s.tasks.items)
            (own_now w.index s.seats.items t.seats.items its chair x there set found) phased;
      }

  -- what is in the hands, and whether a search count is
  pub record Carries (q : Place) (w v : Worker) (s : Shared B) : Type 0 where
    pub runnable : HasRunnable w.index w.root v.root_ready (root_in_hand (begins_at q) w.root v.hand) s.tasks.items
    pub hand : IsInHand (begins_at q) (hands_on_at q) v.hand
    pub loot : IsLoot (has_loot_at q) v.loot
    pub genuine : (r : Runnable) → Contains (option_to_list v.hand) r → IsHeld (begins_at q) w.root s.tasks.items r
    pub stolen : (r : Runnable) → Contains v.loot.values r → IsGenuine s.tasks.items r
    pub searching : IsSearching (searches_at q) v.searching
    pub pooled : is_pooled_at q ≡ true → is_pool w.role ≡ true
    pub serves : Serves (task_at q) w.root w.role
    pub calm : is_pool w.role ≡ false → v.searching ≡ false
    pub left : IsLeft (calls_back_at q) w.home.deferred
    pub told : IsTold w.names.ended.items w.home.deferred (tellers (driver_of w).requests w.home.timers + spare_at q)

  pub record Reaches (q q' : Place) (w v : Worker) (s t : Shared B) : Type 0 where
    pub same : still_of q' ≡ still_of q
    pub quiet : has_wakes_at q' ≡ false → w.home.deferred.notes.wakes.items ≡ []
    pub around : Around q' w s t
    pub carries : Carries q' w v s

  pub reached : (q q' : Place) (w v : Worker) (s t : Shared B) → SoundAt q w s → Reaches q q' w v s t → Arrives q' w v s t
  reached = grind (arith, of_still, guest_again, stops_again, step_again)

  -- what a place says of its worker's profile stays
  pub poses : (q : Place) (w w' : Worker) (s : Shared B) → SoundAt q w s → still_of w'.place ≡ still_of q → w'.searching ≡ w.searching → w'.index ≡ w.index → SameTold w w' → Poses w w'
  poses = grind arith

-- to the machine it is a turn
turn_still : (n : ℕ) (q q' : Place) → still_of q' ≡ still_of q → next_at q ≡ Next.Free → serves_at q ≡ false → IsTurn n q q'
turn_still n q q' same free unserved =
    assumption (ap (λ k. k.polls) same, free, ap (λ k. k.next) same ∙ free, ap (λ k. k.serves) same ∙ unserved, ap (λ k. k.owes n) same)

-- of two places by a test
pub if_either : (P : Place → Type 0) (b : Bool) (x y : Place) → P x → P y → P (if b then x else y)
if_either P true x y h k = h
if_either P false x y h k = k

-- a move by the configuration of a plan that suits
pub seen_by : {B : Type 0} (w : Worker) (s : Shared B) (vs : Views) (p : Plan) (f : Configuration → Moved (Queue ℕ)) (m : Moved (Queue ℕ)) → s.config ≡ p.config → f s.config ≡ m → with_queue w.index (things_with vs s) (f p.config) ≡ with_queue w.index (things_with vs s) m
seen_by w s vs p f m config is = subst (λ c. with_queue w.index (things_with vs s) (f c) ≡ with_queue w.index (things_with vs s) m) config (ap (with_queue w.index (things_with vs s)) is)

module _ {B L : Type 0} (left : B → L) (spot : L → Option Said → Spot) where
  -- THE TURN: the own run queue became this, and the global queue may have changed
  pub requeued_both : (its : Chair) (x : Queue Runnable) (q : Place) (w w' : Worker) (s s' : Shared B) (e : Event) → SoundAt q w s → e ≡ Turn → GoesOn w w' s.clock
      → s' ≡ record s { seats = s'.seats; global = s'.global } → s'.global.closed ≡ s.global.closed
      → slice_get s.seats.items w.index ≡ Some its → s'.seats.items ≡ slice_set s.seats.items w.index (record its { queue = x }) → tail_of its.queue ≤ tail_of x
      → next_at q ≡ Next.Free → serves_at q ≡ false → Reaches q w'.place w w' s s'
      → ((others : Profile) → IsWhole (with_worker others w) s → IsWhole (with_worker others w') s')
      → ((p : Plan) (vs : Views) → Suits p vs w s → move_at p.config w.index (own_of w) (common_of left spot p vs s) (desk_of w) (things_with vs s) q ≡ record { event = Turn; choice = Plain; desk = desk_of w'; thing = set_global (set_queue w.index (things_with vs s) (queue_seen x)) (tasks_of s'.global.values) })
      → Steps left spot w s e w' s'
  requeued_both its x q w w' s s' e sound event on kept closed there set grows free unserved to whole moves =
      let its' : Chair = record its { queue = x } in
      let shares : s' ≡ record s { seats = s'.seats; idle = s'.idle; global = s'.global } = subst (λ (z : Shared B). z ≡ record s { seats = z.seats; idle = z.idle; global = z.global }) (sym kept) refl in
      turned left spot q w w' s s' e sound event on shares closed
      (λ vs. ap (seats_seen vs) set ∙ seats_kept vs s.seats.items w.index its its' there (λ v. refl))
      (turn_still w.workers q w'.place to.same free unserved) (reached q w'.place w w' s s' sound to)
      (record { spares = λ j other. spares_turn w.index j s s' other shares (seats_own w.index s.seats.items s'.seats.items its its' set there grows); whole = whole })
      (λ p vs suits.
      let seats = s'.seats.items in
      let shown : Things = record (things_with vs s) { queues = map queue_at seats; words = map word_at seats; inboxes = map inbox_at seats; wake_polls = polls_seen vs.workers seats } in
      let shows : shown ≡ set_queue w.index (things_with vs s) (queue_seen x) = queue_shows vs w.index s seats its x there set shown refl in
      let now : things_with vs s' ≡ set_global shown (tasks_of s'.global.values) = ap (things_with vs) kept in
      moves p vs suits ∙ ap (λ y. record { event = Turn; choice = Plain; desk = desk_of w'; thing = y }) (sym (now ∙ ap (λ y. set_global y (tasks_of s'.global.values)) shows)))

  -- and the run queue alone
  pub requeued_own : (its : Chair) (x : Queue Runnable) (q : Place) (w w' : Worker) (s s' : Shared B) (e : Event) → SoundAt q w s → e ≡ Turn → GoesOn w w' s.clock → s' ≡ record s { seats = s'.seats }
      → slice_get s.seats.items w.index ≡ Some its → s'.seats.items ≡ slice_set s.seats.items w.index (record its { queue = x }) → tail_of its.queue ≤ tail_of x
      → next_at q ≡ Next.Free → serves_at q ≡ false → Reaches q w'.place w w' s s'
      → ((others : Profile) → IsWhole (with_worker others w) s → IsWhole (with_worker others w') s')
      → ((p : Plan) (vs : Views) → Suits p vs w s → move_at p.config w.index (own_of w) (common_of left spot p vs s) (desk_of w) (things_with vs s) q ≡ record { event = Turn; choice = Plain; desk = desk_of w'; thing = set_queue w.index (things_with vs s) (queue_seen x) })
      → Steps left spot w s e w' s'
  requeued_own its x q w w' s s' e sound event on kept there set grows free unserved to whole moves =
      let both : s' ≡ record s { seats = s'.seats; global = s'.global } = subst (λ (z : Shared B). z ≡ record s { seats = z.seats; global = z.global }) (sym kept) refl in
      let global : s'.global ≡ s.global = ap (λ (z : Shared B). z.global) kept in
      requeued_both its x q w w' s s' e sound event on both (ap (λ (g : Global Runnable). g.closed) global) there set grows free unserved to whole
      (λ p vs suits. moves p vs suits ∙ ap (λ (g : Global Runnable). record { event = Turn; choice = Plain; desk = desk_of w'; thing = set_global (set_queue w.index (things_with vs s) (queue_seen x)) (tasks_of g.values) }) (sym global))

  -- THE GLOBAL QUEUE became this, or only the hands change
  pub rehanded : (q : Place) (w w' : Worker) (s : Shared B) (g : Global Runnable) (e : Event) → SoundAt q w s → e ≡ Turn → GoesOn w w' s.clock → g.closed ≡ s.global.closed
      → next_at q ≡ Next.Free → serves_at q ≡ false → Reaches q w'.place w w' s s
      → ((others : Profile) → IsWhole (with_worker others w) s → IsWhole (with_worker others w') (record s { global = g }))
      → ((p : Plan) (vs : Views) → Suits p vs w s → move_at p.config w.index (own_of w) (common_of left spot p vs s) (desk_of w) (things_with vs s) q ≡ record { event = Turn; choice = Plain; desk = desk_of w'; thing = set_global (things_with vs s) (tasks_of g.values) })
      → Steps left spot w s e w' (record s { global = g })
  rehanded q w w' s g e sound event on closed free unserved to whole moves =
      let s' : Shared B = record s { global = g } in
      let at_end : Reaches q w'.place w w' s s' = record { same = to.same; quiet = to.quiet; around = record { seated = to.around.seated; queue = to.around.queue; aims = to.around.aims; batch = to.around.batch; batch_place = to.around.batch_place; lets_go = to.around.lets_go; phased = to.around.phased }; carries = to.carries } in
      turned left spot q w w' s s' e sound event on refl closed (λ vs. refl)
      (turn_still w.workers q w'.place to.same free unserved) (reached q w'.place w w' s s' sound at_end)
      (record { spares = λ j other. spares_turn w.index j s s' other refl (seats_same w.index s.seats.items s.seats.items refl); whole = whole })
      moves
