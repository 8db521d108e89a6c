-- Steps that are a plain turn to the machine: the worker goes on, and only what stands beside the machine changes.
use Rattle.exec_invariants.{specs.{Rooted.HearsNext, HoldPlaces.{cancels_at, heard_at, sends_cancel_at, spare_at}, Due.{IsDue, IsWheelAt, wheel_moment}, Flown.HasFlown, Kinds.{Kind, kind_of, lowered}, Places.{begins_at, calls_back_at, hands_on_at, has_loot_at, in_poll_of, is_armed_at, is_pooled_at, or_polls, polled_in, searches_at, step_of_poll, task_at}, Sound.{Aims, AreHome, has_wakes_at, HasBatch, HasGuest, HasLetters, HasQueue, HasRunnable, IsHeld, IsInHand, IsInTime, IsLeft, IsLoot, IsSearching, IsSeated, IsTied, LetsGo, LetsGoAt, root_in_hand, served_in, Serves, SoundAt, Stops}, Names.tellers, Whole.IsGenuine, Works.{Beside, Suits, Steps}}, proofs.{Words.{[], ◌≡◌, ◌≢◌, ℕ, ◌+◌, ◌*◌, ◌≤◌, ◌&&◌, ◌||◌, arith, Bool, true, false, Contains, List, length, Option, Some, refl, sym, ap, subst, ◌∙◌, slice_get, slice_set, option_to_list, IfSome, if◌then◌else◌, set-get_or, get_or_from_slice_get, Said, Runnable, Event, Turn, Next, Plain, Plan, Place, InService, Things, no_queue, no_word, queue_of, word_of, set_queue, set_word, move_at, polls_at, next_at, serves_at, Role, Chair, Shared, TaskSlot, Worker, Moments, IsPhased, closes_at, closing_in, stage_of, is_pool, IsTold, Spot, Views, Visible, with_view, driver_of, own_of, owed_at, desk_of, common_of, seats_seen, things_with, Goes}, Leaves.with_read, Dedicated.by_length, Hearing.unheard}}

pub set_found : {A : Type 0} (xs : List A) (i : ℕ) (x : A) → slice_get xs i ≡ Some x → slice_set xs i x ≡ xs
set_found xs i x found = ap (λ y. slice_set xs i y) (sym (get_or_from_slice_get xs i x x found)) ∙ set-get_or xs i x

-- the views are as before where a worker shows what it did
pub view_found : (vs : Views) (i : ℕ) (v : Visible) → slice_get vs.workers i ≡ Some v → with_view vs i v ≡ vs
view_found vs i v found = ap (λ xs. record vs { workers = xs }) (set_found vs.workers i v found)

-- WHAT MAY CHANGE OF A WORKER THAT GOES ON

moment_read : (x : Option InService) (m : Moments) (r : ℕ) → wheel_moment x (with_read r m) ≡ wheel_moment x m
moment_read = grind arith

pub record GoesOn (w w' : Worker) (clock : ℕ) : Type 0 where
  pub same : w' ≡ record w { place = w'.place; countdown = w'.countdown; picks = w'.picks; spinner = w'.spinner; slept = w'.slept; moments = with_read w'.moments.read w.moments; searching = w'.searching; rng = w'.rng; root_ready = w'.root_ready; hand = w'.hand; loot = w'.loot }
  pub read : w'.moments.read ≤ clock
  pub asleep : IfSome w'.slept (λ moment. moment ≤ clock)

-- the other ways to say it
pub by_place : (w w' : Worker) (clock : ℕ) → IsInTime w.moments w.slept clock → Goes w w' → GoesOn w w' clock
by_place w w' clock time goes = subst (λ v. GoesOn w v clock) (sym goes) (record { same = refl; read = time.read; asleep = time.asleep })

pub by_spinner : (w w' : Worker) (clock : ℕ) → IsInTime w.moments w.slept clock → w' ≡ record w { place = w'.place; spinner = w'.spinner } → GoesOn w w' clock
by_spinner w w' clock time same = subst (λ v. GoesOn w v clock) (sym same) (record { same = refl; read = time.read; asleep = time.asleep })

pub by_hand : (w w' : Worker) (clock : ℕ) → IsInTime w.moments w.slept clock → w' ≡ record w { place = w'.place; countdown = w'.countdown; picks = w'.picks; searching = w'.searching; rng = w'.rng; root_ready = w'.root_ready; hand = w'.hand; loot = w'.loot } → GoesOn w w' clock
by_hand w w' clock time same = subst (λ v. GoesOn w v clock) (sym same) (record { same = refl; read = time.read; asleep = time.asleep })

-- the hands, the flag and the search count are as before
pub record Keeps (w v : Worker) : Type 0 where
  pub root_ready : v.root_ready ≡ w.root_ready
  pub hand : v.hand ≡ w.hand
  pub loot : v.loot ≡ w.loot
  pub searching : v.searching ≡ w.searching

-- what only a worker of the pool comes to
pub pool_low : (pooled was role : Bool) → (was ≡ true → role ≡ true) → (pooled && (was || role)) ≡ true → role ≡ true
pool_low = grind arith

-- a place of the very same kind
pub lower : (role : Role) (q q' : Place) → kind_of q' ≡ kind_of q → kind_of q' ≡ lowered role (is_pooled_at q') (kind_of q)
lower = grind arith

-- by way of another place
pub lower_on : (role : Role) (k k1 k2 : Kind) → k2 ≡ lowered role k2.pooled k1 → k1 ≡ lowered role k1.pooled k → k2 ≡ lowered role k2.pooled k
lower_on = grind arith

next_other : (i : ℕ) → i + 1 ≢ i
next_other i same = absurd (omega (arith, same))

module _ {B : Type 0} where
  -- among more workers
  pub homes_more : (workers count more : ℕ) (tasks : List (TaskSlot B)) → count ≤ more → AreHome workers count tasks → AreHome workers more tasks
  homes_more = grind arith

  -- of what is shared the seats, the idle set and the global queue may change
  abbrev pub Shares : Shared B → Shared B → Type 0
  Shares s s' = s' ≡ record s { seats = s'.seats; idle = s'.idle; global = s'.global }

  -- WHAT HOLDS WHERE A TURN LEADS, of the worker and of what is shared then
  pub record Arrives (q : Place) (w v : Worker) (s t : Shared B) : Type 0 where
    pub runnable : HasRunnable w.index w.root v.root_ready (root_in_hand (begins_at q) w.root v.hand) s.tasks.items
    pub seated : IsSeated w.index (is_armed_at q) s.config.workers t.seats.items
    pub queue : (chair : Chair) → slice_get t.seats.items w.index ≡ Some chair → HasQueue q chair.queue
    pub hand : IsInHand (begins_at q) (hands_on_at q) v.hand
    pub loot : IsLoot (has_loot_at q) v.loot
    pub genuine : (r : Runnable) → Contains (option_to_list v.hand) r → IsHeld (begins_at q) w.root s.tasks.items r
    pub stolen : (r : Runnable) → Contains v.loot.values r → IsGenuine s.tasks.items r
    pub searching : IsSearching (searches_at q) v.searching
    pub pooled : is_pooled_at q ≡ true → is_pool w.role ≡ true
    pub serves : Serves (task_at q) w.root w.role
    pub calm : is_pool w.role ≡ false → v.searching ≡ false
    pub aims : Aims q s.config w.index t.seats.items
    pub guest : HasGuest (polls_at q) (step_of_poll q) w.index w.root s.tasks.items
    pub left : IsLeft (calls_back_at q) w.home.deferred
    pub batch : HasBatch q w.batch.values
    pub batch_place : (chair : Chair) → slice_get t.seats.items w.index ≡ Some chair → chair.mailbox.inbox.closed ≡ false → 2 * chair.made + 1 ≤ w.batch.places
    pub quiet : has_wakes_at q ≡ false → w.home.deferred.notes.wakes.items ≡ []
    pub due : IsDue (served_in q) w.home.closing w.index w.moments s.config w.names (driver_of w) w.home.timers s.requests.items s.sleepers.items
    pub flown : HasFlown (served_in q) w.index w.names (driver_of w) s.requests.items
    pub told : IsTold w.names.ended.items w.home.deferred (tellers (driver_of w).requests w.home.timers + spare_at q)
    pub letters : HasLetters (sends_cancel_at q) (cancels_at q) w.index s.config.workers w.letters s.requests.items s.sleepers.items
    pub stops : Stops (polls_at q) (step_of_poll q) w.index s.tasks.items s.requests.items s.sleepers.items
    pub hears : HearsNext (heard_at q) w.index s.requests.items s.sleepers.items
    pub lets_go : LetsGoAt q (driver_of w).requests w.home.timers
    pub phased : (chair : Chair) → slice_get t.seats.items w.index ≡ Some chair → IsPhased w.index (closes_at q) (closing_in q) w.home.closing w.root w.names.unreleased (stage_of chair s) s.tasks.items
    pub tied : IsTied (polled_in w.root q) w.index w.root s.tasks.items

  -- what is sound stays so
  pub sound_on : (q : Place) (w w' : Worker) (s s' : Shared B) → SoundAt q w s → GoesOn w w' s.clock → Shares s s' → length s.seats.items ≤ length s'.seats.items → Arrives w'.place w w' s s' → SoundAt w'.place w' s'
  sound_on q w w' s s' sound on shares more to =
      let q' : Place = w'.place in
      let m : Moments = with_read w'.moments.read w.moments in
      let time : IsInTime m w'.slept s.clock = record { begun = sound.time.begun; ordered = sound.time.ordered; not_after = sound.time.not_after; read = on.read; asleep = on.asleep; bounded = sound.time.bounded } in
      let due : IsDue (served_in q') w.home.closing w.index m s.config w.names (driver_of w) w.home.timers s.requests.items s.sleepers.items =
      record { punctual = to.due.punctual; told = to.due.told; wheel = subst (λ moment. IsWheelAt s.config w.moments.start moment (driver_of w).wheel) (sym (moment_read (served_in q') w.moments w'.moments.read)) to.due.wheel; timed = to.due.timed; asleep = to.due.asleep; order = to.due.order } in
      let w1 : Worker = record w { place = q'; countdown = w'.countdown; picks = w'.picks; spinner = w'.spinner; slept = w'.slept; moments = m; searching = w'.searching; rng = w'.rng; root_ready = w'.root_ready; hand = w'.hand; loot = w'.loot } in
      let s1 : Shared B = record s { seats = s'.seats; idle = s'.idle; global = s'.global } in
      let there : SoundAt q' w1 s1 = assumption (homes_more s.config.workers (length s.seats.items) (length s'.seats.items) s.tasks.items more sound.homes, time, due, to, sound) in
      subst (λ x. SoundAt q' w' x) (sym shares) (subst (λ x. SoundAt q' x s1) (sym on.same) there)

  -- WHAT THE KIND OF A PLACE SAYS
  pub record OfKind (k : Kind) (w : Worker) (s : Shared B) : Type 0 where
    pub runnable : HasRunnable w.index w.root w.root_ready (root_in_hand k.begins w.root w.hand) s.tasks.items
    pub hand : IsInHand k.begins k.hands_on w.hand
    pub loot : IsLoot k.loot w.loot
    pub genuine : (r : Runnable) → Contains (option_to_list w.hand) r → IsHeld k.begins w.root s.tasks.items r
    pub searching : IsSearching k.searches w.searching
    pub pooled : k.pooled ≡ true → is_pool w.role ≡ true
    pub serves : Serves (or_polls k.begins k.polls) w.root w.role
    pub guest : HasGuest k.polls k.step w.index w.root s.tasks.items
    pub left : IsLeft k.calls w.home.deferred
    pub due : IsDue k.served w.home.closing w.index w.moments s.config w.names (driver_of w) w.home.timers s.requests.items s.sleepers.items
    pub flown : HasFlown k.served w.index w.names (driver_of w) s.requests.items
    pub told : IsTold w.names.ended.items w.home.deferred (tellers (driver_of w).requests w.home.timers + k.spare)
    pub letters : HasLetters k.sends_cancel k.cancels w.index s.config.workers w.letters s.requests.items s.sleepers.items
    pub stops : Stops k.polls k.step w.index s.tasks.items s.requests.items s.sleepers.items
    pub hears : HearsNext k.heard w.index s.requests.items s.sleepers.items
    pub lets_go : LetsGo k.closing k.bare (driver_of w).requests w.home.timers
    pub phased : (chair : Chair) → slice_get s.seats.items w.index ≡ Some chair → IsPhased w.index k.closes k.closing w.home.closing w.root w.names.unreleased (stage_of chair s) s.tasks.items
    pub tied : IsTied (in_poll_of w.root k.polls k.step) w.index w.root s.tasks.items

  pub of_kind : (q q' : Place) (w : Worker) (s : Shared B) → SoundAt q w s → kind_of q' ≡ lowered w.role (is_pooled_at q') (kind_of q) → OfKind (kind_of q') w s
  of_kind q q' w s sound same =
      subst (λ k. OfKind k w s) (sym same) (assumption (pool_low (is_pooled_at q') (is_pooled_at q) (is_pool w.role) sound.pooled, sound))

  -- what a place needs beside its kind, with these seats
  pub record Fits (q : Place) (w : Worker) (s : Shared B) (seats : List Chair) : Type 0 where
    pub seated : IsSeated w.index (is_armed_at q) s.config.workers seats
    pub queue : (chair : Chair) → slice_get seats w.index ≡ Some chair → HasQueue q chair.queue
    pub aims : Aims q s.config w.index seats
    pub batch : HasBatch q w.batch.values
    pub batch_place : (chair : Chair) → slice_get seats w.index ≡ Some chair → chair.mailbox.inbox.closed ≡ false → 2 * chair.made + 1 ≤ w.batch.places
    pub phased : (chair : Chair) → slice_get seats w.index ≡ Some chair → IsPhased w.index (closes_at q) (closing_in q) w.home.closing w.root w.names.unreleased (stage_of chair s) s.tasks.items

  -- to a place of the same kind
  pub arrives : (q q' : Place) (w v : Worker) (s t : Shared B) → SoundAt q w s → kind_of q' ≡ lowered w.role (is_pooled_at q') (kind_of q) → (has_wakes_at q' ≡ false → w.home.deferred.notes.wakes.items ≡ []) → Keeps w v → Fits q' w s t.seats.items → Arrives q' w v s t
  arrives q q' w v s t sound same quiet keeps fits =
      let it = of_kind q q' w s sound same in
      let runnable : HasRunnable w.index w.root v.root_ready (root_in_hand (begins_at q') w.root v.hand) s.tasks.items = rw (keeps.root_ready, keeps.hand) it.runnable in
      let hand : IsInHand (begins_at q') (hands_on_at q') v.hand = rw keeps.hand it.hand in
      let loot : IsLoot (has_loot_at q') v.loot = rw keeps.loot it.loot in
      let genuine : (r : Runnable) → Contains (option_to_list v.hand) r → IsHeld (begins_at q') w.root s.tasks.items r = rw keeps.hand it.genuine in
      let stolen : (r : Runnable) → Contains v.loot.values r → IsGenuine s.tasks.items r = rw keeps.loot sound.stolen in
      let searching : IsSearching (searches_at q') v.searching = rw keeps.searching it.searching in
      let calm : is_pool w.role ≡ false → v.searching ≡ false = λ apart. keeps.searching ∙ sound.calm apart in
      assumption (runnable, hand, loot, genuine, stolen, searching, calm, quiet, fits, it)

-- what the machine reads off a place stays, and the line had nothing to do
pub record IsTurn (n : ℕ) (q q' : Place) : Type 0 where
  pub polls : polls_at q' ≡ polls_at q
  pub free : next_at q ≡ Next.Free
  pub free_then : next_at q' ≡ Next.Free
  pub unserved : serves_at q' ≡ false
  pub owes : owed_at n q' ≡ owed_at n q

-- a place of the same kind, from one whose line has nothing to do
pub turn_alike : (n : ℕ) (role : Role) (q q' : Place) → kind_of q' ≡ lowered role (is_pooled_at q') (kind_of q) → next_at q ≡ Next.Free → serves_at q ≡ false → IsTurn n q q'
turn_alike n role q q' same free unserved =
    assumption (ap (λ k. k.polls) same, free, ap (λ k. k.next) same ∙ free, ap (λ k. k.serves) same ∙ unserved, ap (λ k. k.owes n) same)

-- WHAT IS PUT BACK UNCHANGED

pub queue_back_again : (j : ℕ) (x : Things) → set_queue j x (queue_of x j) ≡ x
queue_back_again j x = ap (λ qs. record x { queues = qs }) (set-get_or x.queues j no_queue)

pub word_back_again : (j : ℕ) (x : Things) → set_word j x (word_of x j) ≡ x
word_back_again j x = ap (λ ws. record x { words = ws }) (set-get_or x.words j no_word)

module _ {B : Type 0} where
  -- a place of the same kind, with what it needs beside, where the seats are as they were
  pub record Lands (q q' : Place) (w : Worker) (s : Shared B) : Type 0 where
    pub same : kind_of q' ≡ lowered w.role (is_pooled_at q') (kind_of q)
    pub queue : (chair : Chair) → slice_get s.seats.items w.index ≡ Some chair → HasQueue q' chair.queue
    pub aims : Aims q' s.config w.index s.seats.items
    pub batch : HasBatch q' w.batch.values

  -- of two places by a test
  pub lands_either : (q : Place) (b : Bool) (x y : Place) (w : Worker) (s : Shared B) → Lands q x w s → Lands q y w s → Lands q (if b then x else y) w s
  lands_either q true x y w s h k = h
  lands_either q false x y w s h k = k

  pub fits_here : (q q' : Place) (w : Worker) (s : Shared B) → SoundAt q w s → Lands q q' w s → Fits q' w s s.seats.items
  fits_here q q' w s sound lands =
      assumption (subst (λ a. IsSeated w.index a s.config.workers s.seats.items) (ap (λ k. k.armed) (sym lands.same)) sound.seated, lands, sound, of_kind q q' w s sound lands.same)

pub turned : {B L : Type 0} (left : B → L) (spot : L → Option Said → Spot) (q : Place) (w w' : Worker) (s s' : Shared B) (e : Event) →
    SoundAt q w s → e ≡ Turn → GoesOn w w' s.clock → Shares s s' → s'.global.closed ≡ s.global.closed → ((vs : List Visible) → seats_seen vs s'.seats.items ≡ seats_seen vs s.seats.items)
    → IsTurn w.workers q w'.place → Arrives w'.place w w' s s' → Beside w s w' s'
    → ((p : Plan) (vs : Views) → Suits p vs w s → move_at p.config w.index (own_of w) (common_of left spot p vs s) (desk_of w) (things_with vs s) q ≡ record { event = Turn; choice = Plain; desk = desk_of w'; thing = things_with vs s' })
    → Steps left spot w s e w' s'
turned left spot q w w' s s' e sound event on shares closed seats is to beside moves =
    let q' : Place = w'.place in
    let w1 : Worker = record w { place = q'; countdown = w'.countdown; picks = w'.picks; spinner = w'.spinner; slept = w'.slept; moments = with_read w'.moments.read w.moments; searching = w'.searching; rng = w'.rng; root_ready = w'.root_ready; hand = w'.hand; loot = w'.loot } in
    let own : own_of w' ≡ own_of w1 = ap own_of on.same in (
      grind (arith, view_found),
      sound_on q w w' s s' sound on shares (by_length (beside.spares (w.index + 1) (next_other w.index)).many) to,
      unheard (ap (λ x. x.root) on.same) (ap (λ x. x.config) shares) (ap (λ x. x.tasks.items) shares),
      beside,
    )
