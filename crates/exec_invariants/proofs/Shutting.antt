-- What a step of the closing leaves: what is sound of the worker, what others rely on, and the balances of all.
use Rattle.exec_invariants.{specs.{Drained.{Duties, IsPool}, Due.{AreAsleep, IsDue}, Flown.HasFlown, Gates.HaveGates, Holding.{IsHolding, Mail, box_of, holder_of, mail_in, mail_of_letters, nap_of, thing_of}, HoldPlaces.{cancels_at, heard_at, sends_cancel_at, spare_at}, Places.{begins_at, calls_back_at, claims_at, drops_at, hands_on_at, has_count_at, has_loot_at, in_poll_of, is_armed_at, is_pooled_at, is_published_at, polled_in, searches_at, step_of_poll, task_at, one_if}, Rooted.HearsNext, Sound.{Aims, AreHome, HasBatch, HasGuest, HasLetters, HasQueue, HasRunnable, IsHeld, IsInHand, IsLeft, IsLoot, IsMyMail, IsSearching, IsSeated, IsTied, LetsGoAt, Serves, SoundAt, Stops, has_wakes_at, root_in_hand, served_in}, Names.tellers, Spares.{Spares, SparesChair}, Whole.{HasOne, IsGenuine, IsWhole, Profile, duties_of, may_let_go, queued, runnables_in, stock, with_worker}, Works.Beside}, proofs.{Words.{◌≡◌, ◌≢◌, ◌⊎◌, inl, inr, ℕ, ◌*◌, ◌+◌, ◌^◌, ◌<◌, ◌≤◌, ◌||◌, Bool, true, false, Contains, List, [], length, map, sum_by, option_to_list, None, Some, refl, sym, ap, subst, ◌∙◌, arith, slice_get, slice_set, nat_lt, ◌++◌, false≢true, slice_get_within, not, ◌==◌, or_right, Queue, Reserved, shard_at, Runnable, Phase, shard_count, InClosing, Place, polls_at, Chair, Shared, TaskSlot, Worker, IsPhased, closes_at, closing_in, stage_of, is_pool, IsTold, Views, driver_of, inbox_at, polls_seen, queue_at, things_with, word_at, by_number}, Showing.{map_kept, polls_kept}, Aside.{SparesSeats, length_same, queue_back, queue_of_chair, stock_same, spares_none}, Onces.has_fewer, PoolClosing.pool_set, PoolKept.{KeepsGates, pool_of, pool_seats}, SparedRecord.there_within}}
pub use Rattle.exec_invariants.proofs.SlotTasks.{none_in}

-- what is shown of these views is shown of those
pub shown_as : {A : Type 0} (m : A) (f : Views → A) (v v' : Views) → v' ≡ v → m ≡ f v → m ≡ f v'
shown_as m f v v' same h = subst (λ x. m ≡ f x) (sym same) h

-- WHERE A STEP OF THE CLOSING LEADS
pub record Follows (q : Place) : Type 0 where
  pub polls : polls_at q ≡ None
  pub served : served_in q ≡ None
  pub unarmed : is_armed_at q ≡ false
  pub begins : begins_at q ≡ None
  pub hands_on : hands_on_at q ≡ false
  pub calls : calls_back_at q ≡ None
  pub searches : searches_at q ≡ Some false
  pub claims : claims_at q ≡ None
  pub counts : has_count_at q ≡ false
  pub published : is_published_at q ≡ false
  pub passes : (drops_at q).passes ≡ None
  pub joins : (drops_at q).joins ≡ None
  pub spare : spare_at q ≡ 64
  pub cancels : cancels_at q ≡ false
  pub sends : sends_cancel_at q ≡ false
  pub heard : heard_at q ≡ None
  pub queue : (own : Queue Runnable) → own.held ≡ [] → HasQueue q own

-- the worker there
abbrev pub onward : Place → Bool → Reserved Mail → ℕ → Worker → Worker
onward q closes batch n w = record w { place = q; home = record w.home { closing = closes }; batch = batch; processed = n }

-- the same but for who polls, clears and removes, and for messages in hand
abbrev pub with_duties : Profile → Duties → (Mail → ℕ) → Profile
with_duties x d mail = record x { clears = d.clears; polled_by = d.polled_by; drops_by = d.drops_by; mail = mail }

-- the messages that it has in hand there
abbrev pub mail_there : Profile → Reserved Mail → Worker → Mail → ℕ
mail_there others batch w m = others.mail m + mail_in m (mail_of_letters w.letters ++ batch.values)

pub but_duties : (others : Profile) (q : Place) (closes : Bool) (batch : Reserved Mail) (n : ℕ) (w : Worker) → polls_at q ≡ polls_at w.place → claims_at q ≡ claims_at w.place → has_count_at q ≡ has_count_at w.place → is_published_at q ≡ is_published_at w.place
    → with_worker others (onward q closes batch n w) ≡ with_duties (with_worker others w) (duties_of (with_worker others (onward q closes batch n w))) (mail_there others batch w)
but_duties = grind arith

module _ {B : Type 0} where
  -- of what is shared the seats, the set, the global queue, the barrier and the stop may change
  abbrev pub Closes : Shared B → Shared B → Type 0
  Closes s s' = s' ≡ record s { seats = s'.seats; set = s'.set; global = s'.global; barrier_open = s'.barrier_open; stopped = s'.stopped }

  -- what holds there
  pub record Ready (q : Place) (closes : Bool) (mail : Reserved Mail) (n : ℕ) (w : Worker) (s s' : Shared B) : Type 0 where
    pub kept : Closes s s'
    -- it closes for good
    pub closing : w.home.closing ≡ true → closes ≡ true
    pub seated : IsSeated w.index false s.config.workers s'.seats.items
    pub queue : (chair : Chair) → slice_get s'.seats.items w.index ≡ Some chair → chair.queue.held ≡ []
    pub aims : Aims q s.config w.index s'.seats.items
    pub batch : HasBatch q mail.values
    pub mine : (m : Mail) → Contains mail.values m → IsMyMail s.config.workers w.index m s.requests.items s.sleepers.items
    pub place : (chair : Chair) → slice_get s'.seats.items w.index ≡ Some chair → chair.mailbox.inbox.closed ≡ false → 2 * chair.made + 1 ≤ mail.places
    pub few : n < 2 ^ 29
    pub many : length s'.seats.items ≡ length s.seats.items
    pub pooled : is_pooled_at q ≡ true → is_pool w.role ≡ true
    pub lets_go : LetsGoAt q (driver_of w).requests w.home.timers
    pub quiet : has_wakes_at q ≡ false → w.home.deferred.notes.wakes.items ≡ []
    pub shards : length s'.set.shards ≡ length s.set.shards
    pub phased : (chair : Chair) → slice_get s'.seats.items w.index ≡ Some chair → IsPhased w.index (closes_at q) (closing_in q) closes w.root w.names.unreleased (stage_of chair s') s.tasks.items

  pub sound_closing : (x : InClosing) (q : Place) (closes : Bool) (batch : Reserved Mail) (n : ℕ) (w : Worker) (s s' : Shared B) → SoundAt (Place.Closing x) w s → Follows q → Ready q closes batch n w s s'
      → SoundAt q (onward q closes batch n w) s'
  sound_closing x q closes batch n w s s' sound to ready =
      let w1 : Worker = onward q closes batch n w in
      let s1 : Shared B = record s { seats = s'.seats; set = s'.set; global = s'.global; barrier_open = s'.barrier_open; stopped = s'.stopped } in
      let unpolled : polled_in w.root q ≡ None = ap (λ o. in_poll_of w.root o (step_of_poll q)) to.polls in
      let runnable : HasRunnable w.index w.root w.root_ready (root_in_hand (begins_at q) w.root w.hand) s.tasks.items = subst (λ o. HasRunnable w.index w.root w.root_ready (root_in_hand o w.root w.hand) s.tasks.items) (sym to.begins) sound.runnable in
      let seated : IsSeated w.index (is_armed_at q) s.config.workers s'.seats.items = subst (λ a. IsSeated w.index a s.config.workers s'.seats.items) (sym to.unarmed) ready.seated in
      let queue : (chair : Chair) → slice_get s'.seats.items w.index ≡ Some chair → HasQueue q chair.queue = λ chair there. to.queue chair.queue (ready.queue chair there) in
      let hand : IsInHand (begins_at q) (hands_on_at q) w.hand = subst (λ o. IsInHand o (hands_on_at q) w.hand) (sym to.begins) (subst (λ b. IsInHand None b w.hand) (sym to.hands_on) sound.hand) in
      let none : w.loot.values ≡ [] = sound.loot.none refl in
      let loot : IsLoot (has_loot_at q) w.loot = record { places = sound.loot.places; few = sound.loot.few; none = λ is. none } in
      let empty : w.hand ≡ None = sound.hand in
      let genuine : (r : Runnable) → Contains (option_to_list w.hand) r → IsHeld (begins_at q) w.root s.tasks.items r = λ r has. absurd (none_in r (subst (λ o. Contains (option_to_list o) r) empty has)) in
      let searching : IsSearching (searches_at q) w.searching = subst (λ o. IsSearching o w.searching) (sym to.searches) sound.searching in
      let guest : HasGuest (polls_at q) (step_of_poll q) w.index w.root s.tasks.items = subst (λ o. HasGuest o (step_of_poll q) w.index w.root s.tasks.items) (sym to.polls) tt in
      let left : IsLeft (calls_back_at q) w.home.deferred = subst (λ o. IsLeft o w.home.deferred) (sym to.calls) tt in
      let has = ready.batch in
      let was = sound.due in
      let asleep : AreAsleep closes w.index w.names w.home.timers s.sleepers.items =
      record { alike = was.asleep.alike; there = was.asleep.there; named = was.asleep.named; lets_go = λ k r there mine closed. ready.closing (was.asleep.lets_go k r there mine closed); counted = was.asleep.counted; names = was.asleep.names } in
      let due0 : IsDue None closes w.index w.moments s.config w.names (driver_of w) w.home.timers s.requests.items s.sleepers.items =
      record { punctual = was.punctual; told = was.told; wheel = was.wheel; timed = was.timed; asleep = asleep; order = was.order } in
      let due : IsDue (served_in q) closes w.index w.moments s.config w.names (driver_of w) w.home.timers s.requests.items s.sleepers.items = subst (λ y. IsDue y closes w.index w.moments s.config w.names (driver_of w) w.home.timers s.requests.items s.sleepers.items) (sym to.served) due0 in
      let flown : HasFlown (served_in q) w.index w.names (driver_of w) s.requests.items = subst (λ y. HasFlown y w.index w.names (driver_of w) s.requests.items) (sym to.served) sound.flown in
      let tied : IsTied (polled_in w.root q) w.index w.root s.tasks.items = subst (λ y. IsTied y w.index w.root s.tasks.items) (sym unpolled) sound.tied in
      let serves : Serves (task_at q) w.root w.role = rw (to.begins, to.polls) tt in
      let told : IsTold w.names.ended.items w.home.deferred (tellers (driver_of w).requests w.home.timers + spare_at q) = rw to.spare sound.told in
      let letters : HasLetters (sends_cancel_at q) (cancels_at q) w.index s.config.workers w.letters s.requests.items s.sleepers.items = rw (to.sends, to.cancels) sound.letters in
      let stops : Stops (polls_at q) (step_of_poll q) w.index s.tasks.items s.requests.items s.sleepers.items = subst (λ o. Stops o (step_of_poll q) w.index s.tasks.items s.requests.items s.sleepers.items) (sym to.polls) tt in
      let hears : HearsNext (heard_at q) w.index s.requests.items s.sleepers.items = subst (λ o. HearsNext o w.index s.requests.items s.sleepers.items) (sym to.heard) tt in
      let mine = ready.mine in
      let homes : AreHome s.config.workers (length s'.seats.items) s.tasks.items = subst (λ x. AreHome s.config.workers x s.tasks.items) (sym ready.many) sound.homes in
      let pooled = ready.pooled in
      let lets_go = ready.lets_go in
      let phased : (chair : Chair) → slice_get s'.seats.items w.index ≡ Some chair → IsPhased w.index (closes_at q) (closing_in q) closes w.root w.names.unreleased (stage_of chair s1) s.tasks.items = λ chair there.
      subst (λ (z : Shared B). IsPhased w.index (closes_at q) (closing_in q) closes w.root w.names.unreleased (stage_of chair z) s.tasks.items) ready.kept (ready.phased chair there) in
      let shards : length s'.set.shards ≡ shard_count s.config = ready.shards ∙ sound.shards in
      let aims = ready.aims in
      let place = ready.place in
      let few = ready.few in
      let quiet = ready.quiet in
      let there : SoundAt q w1 s1 = assumption (runnable, seated, queue, hand, loot, genuine, searching, guest, left, has, due, flown, tied, serves, told, letters, stops, hears, mine, homes, pooled, lets_go, phased, shards, aims, place, few, quiet, sound) in
      subst (λ z. SoundAt q w1 z) (sym ready.kept) there

  -- what things show of seats of which one was set, where none of that is in it
  pub seats_show : (vs : Views) (i : ℕ) (s : Shared B) (xs : List Chair) (chair chair' : Chair) → slice_get s.seats.items i ≡ Some chair → xs ≡ slice_set s.seats.items i chair' → queue_at chair' ≡ queue_at chair → word_at chair' ≡ word_at chair → inbox_at chair' ≡ inbox_at chair → chair'.raised ≡ chair.raised
      → record (things_with vs s) { queues = map queue_at xs; words = map word_at xs; inboxes = map inbox_at xs; wake_polls = polls_seen vs.workers xs } ≡ things_with vs s
  seats_show = grind (arith, map_kept, polls_kept)

  -- WHAT OTHERS RELY ON

  -- the set closes and the pool stops for good; only worker zero does that
  pub record GoesOnlyOn (i : ℕ) (s s' : Shared B) : Type 0 where
    pub stopped : s.stopped ≡ true → s'.stopped ≡ true
    pub closed : s.set.closed ≡ true → s'.set.closed ≡ true
    pub by_zero : i ≢ 0 → (s'.stopped ≡ s.stopped) × (s'.set.closed ≡ s.set.closed)
    pub shards : length s'.set.shards ≡ length s.set.shards
    pub emptied : s.set.closed ≡ true → (k : ℕ) → shard_at s.set k ≡ [] → shard_at s'.set k ≡ []

  pub spares_closing : (i j : ℕ) (s s' : Shared B) → j ≢ i → Closes s s' → GoesOnlyOn i s s' → SparesSeats i s.seats.items s'.seats.items → Spares j s s'
  spares_closing i j s s' other kept on seats =
      let s1 : Shared B = record s { seats = s'.seats; set = s'.set; global = s'.global; barrier_open = s'.barrier_open; stopped = s'.stopped } in
      let chair : (chair : Chair) → slice_get s.seats.items j ≡ Some chair → (chair' : Chair) × (slice_get s'.seats.items j ≡ Some chair') × SparesChair chair chair' = λ chair there. seats.chair j chair other there in
      let by_zero : j ≡ 0 → (s'.stopped ≡ s.stopped) × (s'.set.closed ≡ s.set.closed) = λ zero. on.by_zero (λ is. other (zero ∙ sym is)) in
      subst (λ z. Spares j s z) (sym kept) (assumption (chair, by_zero, seats, on, spares_none j s))

  -- THE BALANCES

  -- the global queue is as it was, or was closed and what it held was let go
  abbrev pub Empties : Shared B → Shared B → Type 0
  Empties s s' = (s'.global ≡ s.global) ⊎ ((s'.global.values ≡ []) × (s'.global.closed ≡ true))

  gone_too : (gone gone' : Bool) (p : Phase B) (n : ℕ) → (gone ≡ true → gone' ≡ true) → HasOne gone p n → HasOne gone' p n
  gone_too = grind arith

  -- which workers are of the pool
  abbrev pub ArePools : Shared B → Type 0
  ArePools s = (j : ℕ) (chair : Chair) → slice_get s.seats.items j ≡ Some chair → chair.pool ≡ nat_lt j s.config.workers

  pools_on : (i : ℕ) (s s' : Shared B) → IsSeated i false s.config.workers s'.seats.items → SparesSeats i s.seats.items s'.seats.items → ArePools s → (j : ℕ) (chair : Chair) → slice_get s'.seats.items j ≡ Some chair → chair.pool ≡ nat_lt j s.config.workers
  pools_on i s s' seated seats pools j chair at =
      by_number j i
      (λ other.
      let old = there_within s.seats.items j (subst (λ n. j < n) seats.many (slice_get_within s'.seats.items j chair at)) in
      let now = seats.chair j old.0 other old.1 in
      let is : now.0 ≡ chair = cc (sym now.1, at) in
      ap (λ (c : Chair). c.pool) (sym is) ∙ now.2.pool ∙ pools j old.0 old.1)
      (λ same.
      let is : seated.seat ≡ chair = cc (sym seated.there, subst (λ n. slice_get s'.seats.items n ≡ Some chair) same at) in
      ap (λ (c : Chair). c.pool) (sym is) ∙ seated.pool ∙ ap (λ n. nat_lt n s.config.workers) (sym same))

  pub whole_closing : (x : Profile) (d : Duties) (mail : Mail → ℕ) (s s' : Shared B) → Closes s s' → map queue_of_chair s'.seats.items ≡ map queue_of_chair s.seats.items → (s.set.closed ≡ true → s'.set.closed ≡ true) → Empties s s' → (ArePools s → (j : ℕ) (chair : Chair) → slice_get s'.seats.items j ≡ Some chair → chair.pool ≡ nat_lt j s.config.workers)
      → IsPool d s.tasks.items s'.set s'.seats.items → HaveGates d.drops_by s.opens s.requests.items → IsHolding (record { mail = mail; wakes = x.wakes }) s.config.workers (map holder_of s.tasks.items) (map thing_of s.requests.items) (map nap_of s.sleepers.items) (map box_of s'.seats.items)
      → IsWhole x s → IsWhole (with_duties x d mail) s'
  whole_closing x d mail s s' kept queues closes empties in_pool pool gates holding whole =
      let s1 : Shared B = record s { seats = s'.seats; set = s'.set; global = s'.global; barrier_open = s'.barrier_open; stopped = s'.stopped } in
      let many : length s'.seats.items ≡ length s.seats.items = length_same s.seats.items s'.seats.items queues in
      let runnables_so : (t : ℕ) (slot : TaskSlot B) → slice_get s1.tasks.items t ≡ Some slot → slot.home ≡ None → HasOne (may_let_go s1) slot.cell.phase ((with_duties x d mail).runnables t + stock t s1) =
      λ t slot there home. runnables t slot empties (whole.runnables t slot there home) in
      let claims : (j : ℕ) (chair : Chair) → slice_get s1.seats.items j ≡ Some chair → (with_duties x d mail).claims j ≡ one_if (not (chair.queue.gap == 0)) =
      λ j chair there. let was = queue_back s.seats.items s'.seats.items j chair queues there in rw was.2 (whole.claims j was.0 was.1) in
      let queued_here : (j : ℕ) (chair : Chair) (r : Runnable) → slice_get s1.seats.items j ≡ Some chair → Contains (queued chair) r → IsGenuine s1.tasks.items r =
      λ j chair r there has. let was = queue_back s.seats.items s'.seats.items j chair queues there in whole.queued_here j was.0 r was.1 (rw (← was.2) has) in
      let made_so : (t : ℕ) → length s1.tasks.items ≤ t → ((with_duties x d mail).runnables t + stock t s1 ≡ 0) × ((with_duties x d mail).polls t ≡ 0) = λ t more. (made t empties (whole.made t more).0, (whole.made t more).1) in
      let unclaimed : (j : ℕ) → length s1.seats.items ≤ j → (with_duties x d mail).claims j ≡ 0 = λ j more. whole.unclaimed j (subst (λ n. n ≤ j) many more) in
      let done : IsWhole (with_duties x d mail) s1 = assumption (runnables_so, claims, queued_here, queued_there empties, places empties, made_so, unclaimed, in_pool whole.in_pool, pool, gates, holding, whole) in
      subst (IsWhole (with_duties x d mail)) (sym kept) done
    where
      here : (t : ℕ) → sum_by (λ chair. runnables_in t (queued chair)) s'.seats.items ≡ sum_by (λ chair. runnables_in t (queued chair)) s.seats.items
      here t = stock_same t s.seats.items s'.seats.items queues

      runnables : (t : ℕ) (slot : TaskSlot B) → Empties s s' → HasOne (may_let_go s) slot.cell.phase (x.runnables t + stock t s)
          → HasOne (s'.set.closed || s'.global.closed) slot.cell.phase (x.runnables t + (sum_by (λ chair. runnables_in t (queued chair)) s'.seats.items + runnables_in t s'.global.values))
      runnables t slot (inl same) h = rw (here t, same) (gone_too (may_let_go s) (s'.set.closed || s.global.closed) slot.cell.phase (x.runnables t + stock t s) (either s.set.closed s'.set.closed s.global.closed closes) h)
        where
          either : (a b c : Bool) → (a ≡ true → b ≡ true) → (a || c) ≡ true → (b || c) ≡ true
          either true b c on h = ap (λ y. y || c) (on refl)
          either false b c on h = or_right b c h
      runnables t slot (inr (none, shut)) h =
          let gone : (s'.set.closed || s'.global.closed) ≡ true = or_right s'.set.closed s'.global.closed shut in
          rw (here t, none) (has_fewer (s'.set.closed || s'.global.closed) slot.cell.phase (x.runnables t + stock t s) (x.runnables t + (sum_by (λ chair. runnables_in t (queued chair)) s.seats.items + 0)) gone (omega arith)
          (gone_too (may_let_go s) (s'.set.closed || s'.global.closed) slot.cell.phase (x.runnables t + stock t s) (λ is. gone) h))

      made : (t : ℕ) → Empties s s' → x.runnables t + stock t s ≡ 0 → x.runnables t + (sum_by (λ chair. runnables_in t (queued chair)) s'.seats.items + runnables_in t s'.global.values) ≡ 0
      made t (inl same) h = rw (here t, same) h
      made t (inr (none, shut)) h = rw (here t, none) (omega (arith, h))

      queued_there : Empties s s' → (r : Runnable) → Contains s'.global.values r → IsGenuine s.tasks.items r
      queued_there (inl same) r has = whole.queued_there r (subst (λ g. Contains g.values r) same has)
      queued_there (inr (none, shut)) r has = absurd (none_in r (subst (λ vs. Contains vs r) none has))

      places : Empties s s' → s'.global.closed ≡ false → length s.tasks.items ≤ s'.global.places
      places (inl same) open_still = subst (λ g. length s.tasks.items ≤ g.places) (sym same) (whole.places (ap (λ g. g.closed) (sym same) ∙ open_still))
      places (inr (none, shut)) open_still = absurd (false≢true (sym open_still ∙ shut))

  -- what holds of the task set and the mailboxes then, of the worker there
  abbrev pub Pools : Place → Bool → Reserved Mail → ℕ → Worker → Shared B → Shared B → Type 0
  Pools q closes batch n w s s' = (others : Profile) → IsWhole (with_worker others w) s → IsPool (duties_of (with_worker others (onward q closes batch n w))) s.tasks.items s'.set s'.seats.items

  -- and of what tasks hold
  abbrev pub Holds : Place → Bool → Reserved Mail → ℕ → Worker → Shared B → Shared B → Type 0
  Holds q closes batch n w s s' =
      (others : Profile) → IsWhole (with_worker others w) s → IsHolding (record { mail = mail_there others batch w; wakes = (with_worker others w).wakes }) s.config.workers (map holder_of s.tasks.items) (map thing_of s.requests.items) (map nap_of s.sleepers.items) (map box_of s'.seats.items)

  -- where no message comes or goes
  pub holds_calm : (q : Place) (closes : Bool) (n : ℕ) (w : Worker) (s s' : Shared B) → map box_of s'.seats.items ≡ map box_of s.seats.items → Holds q closes w.batch n w s s'
  holds_calm q closes n w s s' boxes others whole = rw boxes whole.holding

  -- it has nothing to do with gates
  gates_closing : (q : Place) (closes : Bool) (batch : Reserved Mail) (n : ℕ) (w : Worker) (s : Shared B) → Follows q → (others : Profile) → IsWhole (with_worker others w) s → HaveGates (with_worker others (onward q closes batch n w)).drops_by s.opens s.requests.items
  gates_closing = grind arith

  -- where it takes nothing out of the set, and seats show the same
  pub pools_calm : (x : InClosing) (q : Place) (closes : Bool) (batch : Reserved Mail) (n : ℕ) (w : Worker) (s s' : Shared B) → SoundAt (Place.Closing x) w s → Follows q → drops_at q ≡ drops_at (Place.Closing x) → KeepsGates s.seats.items s'.seats.items → s'.set.shards ≡ s.set.shards → (s.set.closed ≡ true → s'.set.closed ≡ true)
      → Pools q closes batch n w s s'
  pools_calm x q closes batch n w s s' sound to drops gates shards closed others whole =
      let d : Duties = duties_of (with_worker others w) in
      pool_of others w (onward q closes batch n w) s.tasks.items s'.set s'.seats.items refl (to.polls ∙ sym (ap polls_at sound.here)) (drops ∙ sym (ap drops_at sound.here))
      (pool_seats d s.tasks.items s'.set s.seats.items s'.seats.items gates (pool_set d s.tasks.items s.set s'.set s.seats.items shards closed whole.pool))

  pub beside_closing : (x : InClosing) (q : Place) (closes : Bool) (batch : Reserved Mail) (n : ℕ) (w : Worker) (s s' : Shared B) → SoundAt (Place.Closing x) w s → Follows q → Closes s s' → IsSeated w.index false s.config.workers s'.seats.items → GoesOnlyOn w.index s s' → Empties s s' → SparesSeats w.index s.seats.items s'.seats.items
      → Pools q closes batch n w s s' → Holds q closes batch n w s s' → map queue_of_chair s'.seats.items ≡ map queue_of_chair s.seats.items → Beside w s (onward q closes batch n w) s'
  beside_closing x q closes batch n w s s' sound to kept seated on empties seats pools holds queues =
      let w1 : Worker = onward q closes batch n w in
      let polls : polls_at q ≡ polls_at w.place = to.polls ∙ sym (ap polls_at sound.here) in
      let claims : claims_at q ≡ claims_at w.place = to.claims ∙ sym (ap claims_at sound.here) in
      let counts : has_count_at q ≡ has_count_at w.place = to.counts ∙ sym (ap has_count_at sound.here) in
      let published : is_published_at q ≡ is_published_at w.place = to.published ∙ sym (ap is_published_at sound.here) in
      record {
        spares = λ j other. spares_closing w.index j s s' other kept on seats;
        whole = λ others whole.
            let d : Duties = duties_of (with_worker others w1) in
            let same : with_worker others w1 ≡ with_duties (with_worker others w) d (mail_there others batch w) = but_duties others q closes batch n w polls claims counts published in
            subst (λ x. IsWhole x s') (sym same) (whole_closing (with_worker others w) d (mail_there others batch w) s s' kept queues on.closed empties (pools_on w.index s s' seated seats) (pools others whole) (gates_closing q closes batch n w s to others whole) (holds others whole) whole);
      }
