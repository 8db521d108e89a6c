-- Steps that are a plain turn to the machine and change the idle set alone: the worker goes to a place that may hold other
-- counts, and may have published its bit or not.
use Rattle.exec_invariants.{proofs.{Names.{[], ◌≡◌, ℕ, ◌≤◌, ◌+◌, Bool, true, false, Contains, List, Option, Some, None, refl, sym, ap, subst, ◌∙◌, slice_get, option_to_list, if◌then◌else◌, arith, ◌*◌, Idle, Said, Runnable, Event, Turn, Next, Plain, Plan, InPoll, Place, move_at, next_at, polls_at, serves_at, set_idle, IsPhased, closes_at, closing_in, stage_of, Record, SleeperRecord, Chair, Shared, TaskSlot, Worker, is_pool, IsTold, Spot, common_of, desk_of, driver_of, own_of, things_with, Views}, Leaves.with_read, Aside.{seats_same, spares_turn}, Counting.{Counts, SameHands, Stance, stance_at, stance_here, whole_counted}, Turning.{Arrives, GoesOn, IsTurn, OfKind, pool_low, turned}}, specs.{Rooted.HearsNext, Flown.HasFlown, Due.IsDue, HoldPlaces.{cancels_at, sends_cancel_at, spare_at}, Kinds.{Kind, kind_of, lowered}, Places.{calls_back_at, has_count_at, in_poll_of, is_pooled_at, is_published_at, or_polls, searches_at, step_of_poll, begins_at, is_armed_at, hands_on_at, has_loot_at, polled_in}, Sound.{Aims, has_wakes_at, HasBatch, HasGuest, HasLetters, HasQueue, HasRunnable, IsHeld, IsInHand, IsLeft, IsLoot, IsSearching, IsSeated, IsTied, LetsGoAt, root_in_hand, Serves, SoundAt, Stops}, Names.tellers, Works.{Steps, Suits}, Whole.IsGenuine}}

-- what a place says but of search counts and the idle set; and where it is in a poll only within one
abbrev pub step_if : Option ℕ → InPoll → InPoll
step_if None x = InPoll.Act
step_if (Some t) x = x

abbrev pub calm_of : Place → Kind
calm_of p = record (kind_of p) { step = step_if (polls_at p) (step_of_poll p); searches = None; counts = false; published = false }

-- what it says but of what waits for the callbacks, and of how far a closing is
abbrev pub hush_of : Place → Kind
hush_of p = record (calm_of p) { closes = false; closing = None; calls = None; spare = 0; bare = false }

-- and of what it has to send, and whether the machine has it serve
abbrev pub plain_of : Place → Kind
plain_of p = record (hush_of p) { owes = λ n. []; sends_cancel = false; cancels = false; serves = false }

-- the hands and the flag are as before
pub record Holds (w v : Worker) : Type 0 where
  pub root_ready : v.root_ready ≡ w.root_ready
  pub hand : v.hand ≡ w.hand
  pub loot : v.loot ≡ w.loot

pub step_again : (t : ℕ) (o : Option ℕ) (x : InPoll) → in_poll_of t o (step_if o x) ≡ in_poll_of t o x
step_again t None x = refl
step_again t (Some u) x = refl

module _ {B : Type 0} where
  pub guest_again : (o : Option ℕ) (x : InPoll) (i root : ℕ) (tasks : List (TaskSlot B)) → HasGuest o (step_if o x) i root tasks → HasGuest o x i root tasks
  guest_again None x i root tasks h = h
  guest_again (Some t) x i root tasks h = h

  pub guest_calm : (o : Option ℕ) (x : InPoll) (i root : ℕ) (tasks : List (TaskSlot B)) → HasGuest o x i root tasks → HasGuest o (step_if o x) i root tasks
  guest_calm None x i root tasks h = h
  guest_calm (Some t) x i root tasks h = h

  pub stops_again : (o : Option ℕ) (x : InPoll) (i : ℕ) (tasks : List (TaskSlot B)) (records : List Record) (sleepers : List SleeperRecord) → Stops o (step_if o x) i tasks records sleepers → Stops o x i tasks records sleepers
  stops_again None x i tasks records sleepers h = h
  stops_again (Some t) x i tasks records sleepers h = h

  pub stops_calm : (o : Option ℕ) (x : InPoll) (i : ℕ) (tasks : List (TaskSlot B)) (records : List Record) (sleepers : List SleeperRecord) → Stops o x i tasks records sleepers → Stops o (step_if o x) i tasks records sleepers
  stops_calm None x i tasks records sleepers h = h
  stops_calm (Some t) x i tasks records sleepers h = h

  -- such a place, with what it needs beside
  pub record Settles (q q' : Place) (x : Stance) (w : Worker) (s : Shared B) : Type 0 where
    pub same : calm_of q' ≡ lowered w.role (is_pooled_at q') (calm_of q)
    pub searches : IsSearching (searches_at q') x.searching
    pub counts : has_count_at q' ≡ x.counted
    pub published : is_published_at q' ≡ x.published
    pub queue : (chair : Chair) → slice_get s.seats.items w.index ≡ Some chair → HasQueue q' chair.queue
    pub aims : Aims q' s.config w.index s.seats.items
    pub batch : HasBatch q' w.batch.values
    pub quiet : has_wakes_at q' ≡ false → has_wakes_at q ≡ false

  -- of two places by a test
  pub settles_either : (q : Place) (b : Bool) (x y : Place) (z : Stance) (w : Worker) (s : Shared B) → Settles q x z w s → Settles q y z w s → Settles q (if b then x else y) z w s
  settles_either q true x y z w s h k = h
  settles_either q false x y z w s h k = k

  of_calm : (q q' : Place) (w : Worker) (s : Shared B) → SoundAt q w s → calm_of q' ≡ lowered w.role (is_pooled_at q') (calm_of q) → OfKind (calm_of q') w s
  of_calm q q' w s sound same =
      let tied : IsTied (in_poll_of w.root (polls_at q) (step_if (polls_at q) (step_of_poll q))) w.index w.root s.tasks.items = rw (step_again w.root (polls_at q) (step_of_poll q)) sound.tied in
      let guest = guest_calm (polls_at q) (step_of_poll q) w.index w.root s.tasks.items sound.guest in
      let stops = stops_calm (polls_at q) (step_of_poll q) w.index s.tasks.items s.requests.items s.sleepers.items sound.stops in
      subst (λ k. OfKind k w s) (sym same) (assumption (pool_low (is_pooled_at q') (is_pooled_at q) (is_pool w.role) sound.pooled, guest, stops, tied, tt, sound))

  -- a place that differs in what waits for the callbacks besides
  pub record Comes (q q' : Place) (x : Stance) (w : Worker) (s : Shared B) : Type 0 where
    pub same : hush_of q' ≡ lowered w.role (is_pooled_at q') (hush_of q)
    pub searches : IsSearching (searches_at q') x.searching
    pub counts : has_count_at q' ≡ x.counted
    pub published : is_published_at q' ≡ x.published
    pub queue : (chair : Chair) → slice_get s.seats.items w.index ≡ Some chair → HasQueue q' chair.queue
    pub aims : Aims q' s.config w.index s.seats.items
    pub batch : HasBatch q' w.batch.values
    pub quiet : has_wakes_at q' ≡ false → w.home.deferred.notes.wakes.items ≡ []
    pub left : IsLeft (calls_back_at q') w.home.deferred
    pub told : IsTold w.names.ended.items w.home.deferred (tellers (driver_of w).requests w.home.timers + spare_at q')
    pub lets_go : LetsGoAt q' (driver_of w).requests w.home.timers
    pub phased : (chair : Chair) → slice_get s.seats.items w.index ≡ Some chair → IsPhased w.index (closes_at q') (closing_in q') w.home.closing w.root w.names.unreleased (stage_of chair s) s.tasks.items

  -- or in what it has to send
  pub record Fares (q q' : Place) (x : Stance) (w : Worker) (s : Shared B) : Type 0 where
    pub same : plain_of q' ≡ lowered w.role (is_pooled_at q') (plain_of q)
    pub searches : IsSearching (searches_at q') x.searching
    pub counts : has_count_at q' ≡ x.counted
    pub published : is_published_at q' ≡ x.published
    pub queue : (chair : Chair) → slice_get s.seats.items w.index ≡ Some chair → HasQueue q' chair.queue
    pub aims : Aims q' s.config w.index s.seats.items
    pub batch : HasBatch q' w.batch.values
    pub quiet : has_wakes_at q' ≡ false → w.home.deferred.notes.wakes.items ≡ []
    pub left : IsLeft (calls_back_at q') w.home.deferred
    pub told : IsTold w.names.ended.items w.home.deferred (tellers (driver_of w).requests w.home.timers + spare_at q')
    pub letters : HasLetters (sends_cancel_at q') (cancels_at q') w.index s.config.workers w.letters s.requests.items s.sleepers.items
    pub lets_go : LetsGoAt q' (driver_of w).requests w.home.timers
    pub phased : (chair : Chair) → slice_get s.seats.items w.index ≡ Some chair → IsPhased w.index (closes_at q') (closing_in q') w.home.closing w.root w.names.unreleased (stage_of chair s) s.tasks.items

  pub comes : (q q' : Place) (z : Stance) (w : Worker) (s : Shared B) → SoundAt q w s → Settles q q' z w s → Comes q q' z w s
  comes q q' z w s sound to =
      let it = of_calm q q' w s sound to.same in
      grind arith

  pub comes_either : (q : Place) (b : Bool) (x y : Place) (z : Stance) (w : Worker) (s : Shared B) → Comes q x z w s → Comes q y z w s → Comes q (if b then x else y) z w s
  comes_either q true x y z w s h k = h
  comes_either q false x y z w s h k = k

  -- what such a kind says
  record OfPlain (k : Kind) (w : Worker) (s : Shared B) : Type 0 where
    runnable : HasRunnable w.index w.root w.root_ready (root_in_hand k.begins w.root w.hand) s.tasks.items
    seated : IsSeated w.index k.armed s.config.workers s.seats.items
    hand : IsInHand k.begins k.hands_on w.hand
    loot : IsLoot k.loot w.loot
    genuine : (r : Runnable) → Contains (option_to_list w.hand) r → IsHeld k.begins w.root s.tasks.items r
    pooled : k.pooled ≡ true → is_pool w.role ≡ true
    serves : Serves (or_polls k.begins k.polls) w.root w.role
    guest : HasGuest k.polls k.step w.index w.root s.tasks.items
    due : IsDue k.served w.home.closing w.index w.moments s.config w.names (driver_of w) w.home.timers s.requests.items s.sleepers.items
    flown : HasFlown k.served w.index w.names (driver_of w) s.requests.items
    stops : Stops k.polls k.step w.index s.tasks.items s.requests.items s.sleepers.items
    hears : HearsNext k.heard w.index s.requests.items s.sleepers.items
    tied : IsTied (in_poll_of w.root k.polls k.step) w.index w.root s.tasks.items

  of_plain : (q q' : Place) (w : Worker) (s : Shared B) → SoundAt q w s → plain_of q' ≡ lowered w.role (is_pooled_at q') (plain_of q) → OfPlain (plain_of q') w s
  of_plain = grind (arith, pool_low, guest_calm, stops_calm, step_again)

  -- with letters as before
  pub fares : (q q' : Place) (z : Stance) (w : Worker) (s : Shared B) → SoundAt q w s → Comes q q' z w s → Fares q q' z w s
  fares = grind arith

  pub settled : (q q' : Place) (z : Stance) (w v : Worker) (s t : Shared B) → SoundAt q w s → t.seats ≡ s.seats → Holds w v → v.searching ≡ z.searching → (is_pool w.role ≡ false → z.searching ≡ false) → Fares q q' z w s → Arrives q' w v s t
  settled q q' z w v s t sound seats holds searching calm to =
      let it = of_plain q q' w s sound to.same in
      let runnable : HasRunnable w.index w.root v.root_ready (root_in_hand (begins_at q') w.root v.hand) s.tasks.items = rw (holds.root_ready, holds.hand) it.runnable in
      let seated : IsSeated w.index (is_armed_at q') s.config.workers t.seats.items = rw seats it.seated in
      let queue : (chair : Chair) → slice_get t.seats.items w.index ≡ Some chair → HasQueue q' chair.queue = rw seats to.queue in
      let hand : IsInHand (begins_at q') (hands_on_at q') v.hand = rw holds.hand it.hand in
      let loot : IsLoot (has_loot_at q') v.loot = rw holds.loot it.loot in
      let genuine : (r : Runnable) → Contains (option_to_list v.hand) r → IsHeld (begins_at q') w.root s.tasks.items r = rw holds.hand it.genuine in
      let stolen : (r : Runnable) → Contains v.loot.values r → IsGenuine s.tasks.items r = rw holds.loot sound.stolen in
      let searches : IsSearching (searches_at q') v.searching = rw searching to.searches in
      let slow : is_pool w.role ≡ false → v.searching ≡ false = λ apart. searching ∙ calm apart in
      let aims : Aims q' s.config w.index t.seats.items = rw seats to.aims in
      let batch_place : (chair : Chair) → slice_get t.seats.items w.index ≡ Some chair → chair.mailbox.inbox.closed ≡ false → 2 * chair.made + 1 ≤ w.batch.places = rw seats sound.batch_place in
      let phased : (chair : Chair) → slice_get t.seats.items w.index ≡ Some chair → IsPhased w.index (closes_at q') (closing_in q') w.home.closing w.root w.names.unreleased (stage_of chair s) s.tasks.items = rw seats to.phased in
      let stops = stops_again (polls_at q') (step_of_poll q') w.index s.tasks.items s.requests.items s.sleepers.items it.stops in
      let tied : IsTied (polled_in w.root q') w.index w.root s.tasks.items = rw (← step_again w.root (polls_at q') (step_of_poll q')) it.tied in
      assumption (runnable, seated, queue, hand, loot, genuine, stolen, searches, slow, aims, batch_place, phased, guest_again (polls_at q') (step_of_poll q') w.index w.root s.tasks.items it.guest, stops, tied, to, it)

module _ {B L : Type 0} (left : B → L) (spot : L → Option Said → Spot) where
  pub idled_by : (q : Place) (z : Stance) (w w' : Worker) (s : Shared B) (x : Idle) (e : Event) → SoundAt q w s → e ≡ Turn → GoesOn w w' s.clock → Holds w w' → w'.searching ≡ z.searching → (is_pool w.role ≡ false → z.searching ≡ false) → Comes q w'.place z w s → next_at q ≡ Next.Free → serves_at q ≡ false → Counts (stance_at q w) z w s x
      → ((p : Plan) (vs : Views) → Suits p vs w s → move_at p.config w.index (own_of w) (common_of left spot p vs s) (desk_of w) (things_with vs s) q ≡ record { event = Turn; choice = Plain; desk = desk_of w'; thing = set_idle (things_with vs s) x })
      → Steps left spot w s e w' (record s { idle = x })
  idled_by q z w w' s x e sound event on holds searching calm to free unserved counts moves =
      let q' : Place = w'.place in
      let s' : Shared B = record s { idle = x } in
      let is : IsTurn w.workers q q' = assumption (ap (λ k. k.polls) to.same, free, ap (λ k. k.next) to.same ∙ free, ap (λ k. k.serves) to.same ∙ unserved, ap (λ k. k.owes w.workers) to.same) in
      let same : SameHands w w' = grind arith in
      turned left spot q w w' s s' e sound event on refl refl (λ vs. refl) is (settled q q' z w w' s s' sound refl holds searching calm (fares q q' z w s sound to))
      (record {
        spares = λ j other. spares_turn w.index j s s' other refl (seats_same w.index s.seats.items s.seats.items refl);
        whole = λ others whole. whole_counted others (stance_at q w) z w w' s x same (stance_here q w sound.here) (record { searching = searching; counted = to.counts; published = to.published }) counts whole;
      })
      moves

  -- The same where it is told beforehand what the worker has then: its place, what it read off the clock, whether it holds
  -- a search count, and the number of its generator.
  pub led_by : (q q' : Place) (r g : ℕ) (z : Stance) (w w' : Worker) (s : Shared B) (x : Idle) (e : Event) → SoundAt q w s → e ≡ Turn → r ≤ s.clock → w' ≡ record w { place = q'; moments = with_read r w.moments; searching = z.searching; rng = g } → (is_pool w.role ≡ false → z.searching ≡ false)
      → Comes q q' z w s → next_at q ≡ Next.Free → serves_at q ≡ false → Counts (stance_at q w) z w s x
      → ((p : Plan) (vs : Views) → Suits p vs w s → move_at p.config w.index (own_of w) (common_of left spot p vs s) (desk_of w) (things_with vs s) q ≡ record { event = Turn; choice = Plain; desk = record (desk_of w) { place = q'; read = r; searching = z.searching; rng = g }; thing = set_idle (things_with vs s) x })
      → Steps left spot w s e w' (record s { idle = x })
  led_by q q' r g z w w' s x e sound event read goes calm to free unserved counts moves =
      let v : Worker = record w { place = q'; moments = with_read r w.moments; searching = z.searching; rng = g } in
      let on : GoesOn w v s.clock = record { same = refl; read = read; asleep = sound.time.asleep } in
      let holds : Holds w v = record { root_ready = refl; hand = refl; loot = refl } in
      subst (λ y. Steps left spot w s e y (record s { idle = x })) (sym goes) (idled_by q z w v s x e sound event on holds refl calm to free unserved counts moves)

  -- and where it goes to another place alone
  pub gone_by : (q q' : Place) (z : Stance) (w w' : Worker) (s : Shared B) (x : Idle) (e : Event) → SoundAt q w s → e ≡ Turn → w' ≡ record w { place = q' } → w.searching ≡ z.searching
      → Comes q q' z w s → next_at q ≡ Next.Free → serves_at q ≡ false → Counts (stance_at q w) z w s x
      → ((p : Plan) (vs : Views) → Suits p vs w s → move_at p.config w.index (own_of w) (common_of left spot p vs s) (desk_of w) (things_with vs s) q ≡ record { event = Turn; choice = Plain; desk = record (desk_of w) { place = q' }; thing = set_idle (things_with vs s) x })
      → Steps left spot w s e w' (record s { idle = x })
  gone_by q q' z w w' s x e sound event goes searching to free unserved counts moves =
      led_by q q' w.moments.read w.rng z w w' s x e sound event sound.time.read (goes ∙ ap (λ b. record w { place = q'; searching = b }) searching) (λ apart. sym searching ∙ sound.calm apart) to free unserved counts
      (λ p vs suits. moves p vs suits ∙ ap (λ b. record { event = Turn; choice = Plain; desk = record (desk_of w) { place = q'; searching = b }; thing = set_idle (things_with vs s) x }) searching)

  -- WHERE WHAT WAITS FOR THE CALLBACKS is as before

  pub led : (q q' : Place) (r g : ℕ) (z : Stance) (w w' : Worker) (s : Shared B) (x : Idle) (e : Event) → SoundAt q w s → e ≡ Turn → r ≤ s.clock → w' ≡ record w { place = q'; moments = with_read r w.moments; searching = z.searching; rng = g } → (is_pool w.role ≡ false → z.searching ≡ false)
      → Settles q q' z w s → next_at q ≡ Next.Free → serves_at q ≡ false → Counts (stance_at q w) z w s x
      → ((p : Plan) (vs : Views) → Suits p vs w s → move_at p.config w.index (own_of w) (common_of left spot p vs s) (desk_of w) (things_with vs s) q ≡ record { event = Turn; choice = Plain; desk = record (desk_of w) { place = q'; read = r; searching = z.searching; rng = g }; thing = set_idle (things_with vs s) x })
      → Steps left spot w s e w' (record s { idle = x })
  led q q' r g z w w' s x e sound event read goes calm to = led_by q q' r g z w w' s x e sound event read goes calm (comes q q' z w s sound to)

  pub gone : (q q' : Place) (z : Stance) (w w' : Worker) (s : Shared B) (x : Idle) (e : Event) → SoundAt q w s → e ≡ Turn → w' ≡ record w { place = q' } → w.searching ≡ z.searching
      → Settles q q' z w s → next_at q ≡ Next.Free → serves_at q ≡ false → Counts (stance_at q w) z w s x
      → ((p : Plan) (vs : Views) → Suits p vs w s → move_at p.config w.index (own_of w) (common_of left spot p vs s) (desk_of w) (things_with vs s) q ≡ record { event = Turn; choice = Plain; desk = record (desk_of w) { place = q' }; thing = set_idle (things_with vs s) x })
      → Steps left spot w s e w' (record s { idle = x })
  gone q q' z w w' s x e sound event goes searching to = gone_by q q' z w w' s x e sound event goes searching (comes q q' z w s sound to)
