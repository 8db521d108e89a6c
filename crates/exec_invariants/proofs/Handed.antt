-- Where a place leads that hands something on: a search count, a kick, a signal. It is of the kind of what comes after.
use Rattle.exec_invariants.{proofs.{Names.{◌≡◌, ℕ, ◌==◌, Bool, true, false, IsSome, List, [], None, Option, Some, refl, sym, ap, ◌∙◌, slice_get, arith, Idle, lowest_of, Queue, Said, Runnable, Configuration, Plan, ring_size, AfterCallbacks, AfterKick, AfterLeave, AfterPush, InKick, AfterService, InCallbacks, InPick, InPoll, Place, next_callback, serve, has_some as has_any, leaves_for_turn, next_turn, after_kick, after_leave, after_push, after_return, true_false, closes_at, closing_in, Role, Chair, Shared, Worker, Spot, after_kick_of, after_leave_of, after_push_of, after_return_of, has_put_off, leaves_turn_of, next_callback_of, next_pick_of, next_turn_of, Views, common_of, desk_of, driver_of, own_of}, Turning.lower_on, Counting.Stance, Idled.{calm_of, Comes, comes, Settles, settles_either}, Standing.{requests_seen, submissions_seen}}, specs.{Works.Suits, Holding.Mail, HoldPlaces.{callbacks_after_push, callbacks_at, is_bare_at, spare_at}, Kinds.lowered, Places.{has_count_at, is_pooled_at, is_published_at, searches_at}, Sound.{Aims, has_wakes_at, HasBatch, HasQueue, IsSearching, SoundAt}}}
pub use Rattle.std.proofs.lemmas.Bool.{ltb-true, ltb-false}

calls_alike : (n : AfterCallbacks) → calm_of (Place.Callbacks InCallbacks.CallBack n) ≡ calm_of (Place.LeaveSearch (AfterLeave.CallBack n))
calls_alike = grind arith

-- the very same kind
pub same_kick : (role : Role) (p r : Place) → calm_of r ≡ calm_of p → calm_of r ≡ lowered role (is_pooled_at r) (calm_of p)
same_kick = grind arith

-- who leaves a search after a kick is where it left it
kick_alike : (b : AfterLeave) (role : Role) → calm_of (Place.LeaveSearch b) ≡ lowered role (is_pooled_at (Place.LeaveSearch b)) (calm_of (Place.Kick InKick.LoadKickCount (AfterKick.Leave b)))
kick_alike b role = refl

-- it is not in the idle set, and no place counts for it
abbrev pub out : Bool → Stance
out b = record { searching = b; counted = false; published = false }

-- somebody is in the set
pub someone : (x : Idle) → has_any x ≡ true → IsSome (lowest_of x.published)
someone = grind arith

module _ {B : Type 0} where
  -- place p has what place q has, and neither knows anything of queue or batch but that nothing is aside
  pub record Between (q p : Place) (w : Worker) (s : Shared B) : Type 0 where
    pub same : calm_of p ≡ lowered w.role (is_pooled_at p) (calm_of q)
    pub held : (chair : Chair) → slice_get s.seats.items w.index ≡ Some chair → chair.queue.held ≡ []
    pub batch : is_bare_at p ≡ true → w.batch.values ≡ []
    pub quiet : has_wakes_at p ≡ has_wakes_at q

  -- to another place of that kind
  pub onward : (q p r : Place) (w : Worker) (s : Shared B) → calm_of r ≡ lowered w.role (is_pooled_at r) (calm_of p) → has_wakes_at r ≡ has_wakes_at p → Between q p w s → Between q r w s
  onward q p r w s same quiet h =
      record { same = lower_on w.role (calm_of q) (calm_of p) (calm_of r) same h.same; held = h.held; batch = λ bare. h.batch (sym (ap (λ k. k.bare) same) ∙ bare); quiet = quiet ∙ h.quiet }

  -- it settles at a place that is alike
  pub settles_at : (q p r : Place) (z : Stance) (w : Worker) (s : Shared B) → Between q p w s → calm_of r ≡ lowered w.role (is_pooled_at r) (calm_of p) → IsSearching (searches_at r) z.searching → has_count_at r ≡ z.counted → is_published_at r ≡ z.published
      → ((chair : Chair) → slice_get s.seats.items w.index ≡ Some chair → HasQueue r chair.queue) → Aims r s.config w.index s.seats.items → HasBatch r w.batch.values → (has_wakes_at r ≡ false → has_wakes_at p ≡ false) → Settles q r z w s
  settles_at q p r z w s h same searches counts published queue aims batch quiet =
      record { same = lower_on w.role (calm_of q) (calm_of p) (calm_of r) same h.same; searches = searches; counts = counts; published = published; queue = queue; aims = aims; batch = batch; quiet = λ is. sym h.quiet ∙ quiet is }

  -- the next turn
  pub turn_settles : (q : Place) (b : Bool) (w : Worker) (s : Shared B) → Between q (Place.LeaveSearch AfterLeave.Begin) w s → Settles q (next_turn_of w) (out b) w s
  turn_settles q b w s h =
      settles_either q (has_put_off w) (serve AfterService.Begin) Place.BeginTurn (out b) w s
      (settles_at q (Place.LeaveSearch AfterLeave.Begin) (serve AfterService.Begin) (out b) w s h refl tt refl refl h.held tt h.batch (λ is. true_false is))
      (settles_at q (Place.LeaveSearch AfterLeave.Begin) Place.BeginTurn (out b) w s h refl tt refl refl h.held tt h.batch (λ is. refl))

  -- once no search count is held
  pub leave_settles : (b : AfterLeave) (q : Place) (w : Worker) (s : Shared B) → Between q (Place.LeaveSearch b) w s → Settles q (after_leave_of b w) (out false) w s
  leave_settles (AfterLeave.Poll t) q w s h = settles_at q (Place.LeaveSearch (AfterLeave.Poll t)) (Place.Poll t InPoll.BeginPoll) (out false) w s h refl refl refl refl h.held tt h.batch (λ is. refl)
  leave_settles (AfterLeave.CallBack n) q w s h = settles_at q (Place.LeaveSearch (AfterLeave.CallBack n)) (Place.Callbacks InCallbacks.CallBack n) (out false) w s h (calls_alike n) refl refl refl h.held tt h.batch (λ is. true_false is)
  leave_settles AfterLeave.Begin q w s h = turn_settles q false w s h

  -- the next turn, once a held count is returned
  pub leaves_settle : (q : Place) (b : Bool) (w : Worker) (s : Shared B) → Between q (Place.LeaveSearch AfterLeave.Begin) w s → Settles q (leaves_turn_of (record w { searching = b })) (out b) w s
  leaves_settle q true w s h = settles_at q (Place.LeaveSearch AfterLeave.Begin) (Place.LeaveSearch AfterLeave.Begin) (out true) w s h refl refl refl refl h.held tt h.batch (λ is. refl)
  leaves_settle q false w s h = turn_settles q false w s h

  -- where a push is of the callbacks, the next of those follows, at a place that knows nothing of the own queue
  pub record CallComes (n : AfterCallbacks) (w : Worker) (s : Shared B) : Type 0 where
    pub to : Comes (Place.Kick InKick.LoadKickCount (AfterKick.Push (AfterPush.CallBack n))) (next_callback_of n w) (out false) w s
    pub queue : (x : Queue Runnable) → x.held ≡ [] → HasQueue (next_callback_of n w) x
    pub aims : (c : Configuration) (i : ℕ) (seats : List Chair) → Aims (next_callback_of n w) c i seats

  abbrev pub NextComes : AfterPush → Worker → Shared B → Type 0
  NextComes (AfterPush.CallBack n) w s = CallComes n w s
  NextComes _ w s = Unit {0}

  abbrev pub KickComes : AfterKick → Worker → Shared B → Type 0
  KickComes (AfterKick.Push b) w s = NextComes b w s
  KickComes (AfterKick.Leave b) w s = Unit {0}

  pub push_comes : (b : AfterPush) (q : Place) (w : Worker) (s : Shared B) → SoundAt q w s → NextComes b w s → Between q (Place.Kick InKick.LoadKickCount (AfterKick.Push b)) w s → Comes q (after_push_of b w) (out false) w s
  push_comes (AfterPush.Act t) q w s sound next h =
      comes q (Place.Poll t InPoll.Act) (out false) w s sound
      (settles_at q (Place.Kick InKick.LoadKickCount (AfterKick.Push (AfterPush.Act t))) (Place.Poll t InPoll.Act) (out false) w s h refl refl refl refl h.held tt h.batch (λ is. refl))
  push_comes AfterPush.Pick q w s sound next h =
      let p = Place.Kick InKick.LoadKickCount (AfterKick.Push AfterPush.Pick) in
      comes q (next_pick_of w) (out false) w s sound
      (settles_either q (w.picks == 0) Place.TakeRootFlag (Place.Pick InPick.CountDown) (out false) w s
      (settles_at q p Place.TakeRootFlag (out false) w s h refl tt refl refl h.held tt h.batch (λ is. refl))
      (settles_at q p (Place.Pick InPick.CountDown) (out false) w s h refl tt refl refl h.held tt h.batch (λ is. refl)))
  push_comes (AfterPush.CallBack n) q w s sound next h = grind arith

  pub kick_comes : (b : AfterKick) (q : Place) (w : Worker) (s : Shared B) → SoundAt q w s → KickComes b w s → Between q (Place.Kick InKick.LoadKickCount b) w s → Comes q (after_kick_of b w) (out false) w s
  kick_comes (AfterKick.Leave b) q w s sound next h =
      comes q (after_leave_of b w) (out false) w s sound
      (leave_settles b q w s (onward q (Place.Kick InKick.LoadKickCount (AfterKick.Leave b)) (Place.LeaveSearch b) w s (kick_alike b w.role) refl h))
  kick_comes (AfterKick.Push b) q w s sound next h = push_comes b q w s sound next h

  -- to a step of a kick that holds no count
  pub to_kick : (x : InKick) (b : AfterKick) (q : Place) (w : Worker) (s : Shared B) → has_count_at (Place.Kick x b) ≡ false → Aims (Place.Kick x b) s.config w.index s.seats.items → Between q (Place.Kick InKick.LoadKickCount b) w s → Settles q (Place.Kick x b) (out false) w s
  to_kick x b q w s none aims h =
      settles_at q (Place.Kick InKick.LoadKickCount b) (Place.Kick x b) (out false) w s h (same_kick w.role (Place.Kick InKick.LoadKickCount b) (Place.Kick x b) refl) refl none refl h.held aims h.batch (λ is. is)

  -- a count was returned
  pub return_settles : (last : Bool) (b : AfterLeave) (q : Place) (w : Worker) (s : Shared B) → Between q (Place.LeaveSearch b) w s → Settles q (after_return_of last b w) (out false) w s
  return_settles true b q w s h = to_kick InKick.LoadKickCount (AfterKick.Leave b) q w s refl tt (onward q (Place.LeaveSearch b) (Place.Kick InKick.LoadKickCount (AfterKick.Leave b)) w s refl refl h)
  return_settles false b q w s h = leave_settles b q w s h

-- what the machine makes of the next of the callbacks, where a push is one of those
module _ {B L : Type 0} (left : B → L) (spot : L → Option Said → Spot) where
  abbrev pub NextSeen : AfterPush → Plan → Views → Worker → Shared B → Type 0
  NextSeen (AfterPush.CallBack n) p vs w s = next_callback (ring_size p.config) w.index (own_of w) (common_of left spot p vs s) n (desk_of w) ≡ next_callback_of n w
  NextSeen _ p vs w s = Unit {0}

  abbrev pub KickSeen : AfterKick → Plan → Views → Worker → Shared B → Type 0
  KickSeen (AfterKick.Push b) p vs w s = NextSeen b p vs w s
  KickSeen (AfterKick.Leave b) p vs w s = Unit {0}

-- WHAT THE MACHINE MAKES OF IT is what the worker finds out by itself
module _ {B L : Type 0} (left : B → L) (spot : L → Option Said → Spot) (p : Plan) (vs : Views) (q : Place) (w : Worker) (s : Shared B) (sound : SoundAt q w s) (config : s.config ≡ p.config) where
  pub next_seen : next_turn p.config w.index (own_of w) (common_of left spot p vs s) (desk_of w) ≡ next_turn_of w
  next_seen = rw (requests_seen w.index w.names (driver_of w) w.home.timers s.requests.items s.sleepers.items sound.named, submissions_seen s.config w sound.sized, config) refl

  pub leaves_seen : (b : Bool) → leaves_for_turn p.config w.index (own_of w) (common_of left spot p vs s) (record (desk_of w) { searching = b }) ≡ leaves_turn_of (record w { searching = b })
  leaves_seen true = refl
  leaves_seen false = next_seen

  pub leave_seen : (b : AfterLeave) → after_leave p.config w.index (own_of w) (common_of left spot p vs s) b (desk_of w) ≡ after_leave_of b w
  leave_seen = grind (arith, next_seen)

  pub push_seen : (b : AfterPush) → NextSeen left spot b p vs w s → after_push p.config w.index (own_of w) (common_of left spot p vs s) b (desk_of w) ≡ after_push_of b w
  push_seen = grind arith

  pub kick_seen : (b : AfterKick) → KickSeen left spot b p vs w s → after_kick p.config w.index (own_of w) (common_of left spot p vs s) b (desk_of w) ≡ after_kick_of b w
  kick_seen (AfterKick.Leave b) seen = leave_seen b
  kick_seen (AfterKick.Push b) seen = push_seen b seen

  pub return_seen : (last : Bool) (b : AfterLeave) → after_return p.config w.index (own_of w) (common_of left spot p vs s) last b (desk_of w) ≡ after_return_of last b w
  return_seen true b = refl
  return_seen false b = leave_seen b

-- WHAT FOLLOWS A PUSH of the callbacks: where it leads, for a worker and for the machine

-- a place hands something on for this push
pub record IsPushFor (b : AfterPush) (q : Place) : Type 0 where
  pub callbacks : callbacks_at q ≡ callbacks_after_push b
  pub closes : closes_at q ≡ closes_at (Place.Kick InKick.LoadKickCount (AfterKick.Push b))
  pub closing : closing_in q ≡ None
  pub spare : spare_at q ≡ spare_at (Place.Kick InKick.LoadKickCount (AfterKick.Push b))
  pub bare : is_bare_at q ≡ is_bare_at (Place.Kick InKick.LoadKickCount (AfterKick.Push b))
  pub held : (x : Queue Runnable) → HasQueue q x → x.held ≡ []
  pub batch : (ms : List Mail) → HasBatch q ms → is_bare_at q ≡ true → ms ≡ []

module _ {B L : Type 0} (left : B → L) (spot : L → Option Said → Spot) where
  pub record PushNext (b : AfterPush) (w : Worker) (s : Shared B) : Type 0 where
    pub comes : NextComes b w s
    pub seen : (p : Plan) (vs : Views) → Suits p vs w s → NextSeen left spot b p vs w s

  pub record KickNext (b : AfterKick) (w : Worker) (s : Shared B) : Type 0 where
    pub comes : KickComes b w s
    pub seen : (p : Plan) (vs : Views) → Suits p vs w s → KickSeen left spot b p vs w s
