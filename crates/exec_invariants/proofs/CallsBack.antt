-- Where the callbacks lead once an item is told: for a worker, for the machine, and after a push of a task that one woke.
use Rattle.exec_invariants.{proofs.{Names.{◌≡◌, ℕ, ◌+◌, ◌==◌, Bool, true, false, not, List, [], ◌∷◌, length, Option, Some, None, refl, sym, ap, subst, ◌∙◌, arith, slice_get, if◌then◌else◌, nat_tests, nil_from_length, live_count, Queue, pending_count, is_untold, Deferred, is_ring_full, Said, Runnable, Configuration, Plan, ring_size, is_empty, AfterCallbacks, AfterKick, AfterPush, InKick, InRingWait, Stay, InCallbacks, InClosing, Place, after_callbacks, has_callbacks, has_requests, is_full, next_callback, Reply, Chair, Shared, Worker, IsPhased, closes_at, stage_of, IsTold, Spot, after_callbacks_of, has_open_requests, is_anything_told, next_callback_of, Views, common_of, desk_of, driver_of, own_of, not-false, zero_false, true_false, left_before, is_pool, InLoads, Round, ring_wait_of}, DedicatedSeen.pool_seen, Handed.{CallComes, IsPushFor, out}, Idled.Comes, Phased.phased_end, Standing.requests_seen, Untold.{empty_map, positive_there, none_of}}, specs.{HoldPlaces.{is_bare_at, is_bare_before, spare_before}, Sound.{Aims, HasQueue, LetsGo, SoundAt}, Names.{HasWidth, tellers}, Works.Suits}}

-- NOTHING IS LEFT

pub record NoneLeft (left : Deferred Reply Reply) : Type 0 where
  pub wakes : left.notes.wakes.items ≡ []
  pub completions : length left.notes.completions.items ≡ 0
  pub outputs : length left.outputs.items ≡ 0
  pub resources : length left.resources.items ≡ 0
  pub results : length left.results.items ≡ 0

pub none_left : (left : Deferred Reply Reply) → is_untold left ≡ true → NoneLeft left
none_left = grind (arith, nil_from_length, nat_tests)

-- then the lists have all their places
pub all_places : (ended : List ℕ) (left : Deferred Reply Reply) (n m : ℕ) → IsTold ended left m → HasWidth left n → NoneLeft left → IsTold ended left n
all_places = grind arith

-- FOR THE MACHINE something waits for the callbacks just where something does

empty_list : {A : Type 0} (xs : List A) → is_empty xs ≡ (length xs == 0)
empty_list [] = refl
empty_list (x ∷ xs) = sym (zero_false (length xs))

pub callbacks_seen : (w : Worker) (live : ℕ) → IsTold w.names.ended.items w.home.deferred live → has_callbacks (own_of w) (desk_of w) ≡ is_anything_told w
callbacks_seen = grind (arith, empty_map, positive_there, empty_list, none_of)

module _ {B L : Type 0} (left : B → L) (spot : L → Option Said → Spot) (p : Plan) (vs : Views) (q : Place) (w : Worker) (s : Shared B) (sound : SoundAt q w s) (suits : Suits p vs w s) where
  full_seen : is_full (ring_size p.config) (desk_of w) ≡ is_ring_full (driver_of w)
  full_seen = grind arith

  pub after_seen : (n : AfterCallbacks) → after_callbacks (ring_size p.config) w.index (common_of left spot p vs s) n (desk_of w) ≡ after_callbacks_of n w
  after_seen AfterCallbacks.Look = rw (pool_seen left spot p vs q w s sound suits) refl
  after_seen AfterCallbacks.Test = rw (pool_seen left spot p vs q w s sound suits) refl
  after_seen AfterCallbacks.Begin = refl
  after_seen AfterCallbacks.Drain = refl
  after_seen AfterCallbacks.Finish =
      let asks : has_requests w.index (common_of left spot p vs s) ≡ has_open_requests w = sym (requests_seen w.index w.names (driver_of w) w.home.timers s.requests.items s.sleepers.items sound.named) in
      ap (λ b. if b then (if is_full (ring_size p.config) (desk_of w) then Place.RingWait InRingWait.EnterFullRing Stay.Closing else Place.RingWait InRingWait.TestRing Stay.Closing) else Place.Closing InClosing.End) asks
      ∙ ap (λ b. if has_open_requests w then (if b then Place.RingWait InRingWait.EnterFullRing Stay.Closing else Place.RingWait InRingWait.TestRing Stay.Closing) else Place.Closing InClosing.End) full_seen

  pub callback_seen : (n : AfterCallbacks) → next_callback (ring_size p.config) w.index (own_of w) (common_of left spot p vs s) n (desk_of w) ≡ next_callback_of n w
  callback_seen n = grind (arith, callbacks_seen w _ sound.told, after_seen n)

-- WHERE A PUSH OF THE CALLBACKS LEADS

abbrev pub pushed : AfterCallbacks → Place
pushed n = Place.Kick InKick.LoadKickCount (AfterKick.Push (AfterPush.CallBack n))

module _ {B : Type 0} where
  pub record To (n : AfterCallbacks) (q' : Place) (w : Worker) (s : Shared B) : Type 0 where
    pub to : Comes (pushed n) q' (out false) w s
    pub queue : (x : Queue Runnable) → x.held ≡ [] → HasQueue q' x
    pub aims : (c : Configuration) (i : ℕ) (seats : List Chair) → Aims q' c i seats

  pub either : (n : AfterCallbacks) (b : Bool) (x y : Place) (w : Worker) (s : Shared B) → (b ≡ true → To n x w s) → (b ≡ false → To n y w s) → To n (if b then x else y) w s
  either n true x y w s h k = h refl
  either n false x y w s h k = k refl

  -- what holds where it is handed on
  pub record Pushed (n : AfterCallbacks) (w : Worker) (s : Shared B) : Type 0 where
    pub told : IsTold w.names.ended.items w.home.deferred (tellers (driver_of w).requests w.home.timers + spare_before (Some n))
    pub wide : HasWidth w.home.deferred (tellers (driver_of w).requests w.home.timers + 64)
    pub bare : is_bare_before (Some n) ≡ true → live_count w.home.timers ≡ 0
    pub batch : is_bare_before (Some n) ≡ true → w.batch.values ≡ []
    pub held : (chair : Chair) → slice_get s.seats.items w.index ≡ Some chair → chair.queue.held ≡ []
    pub phased : (chair : Chair) → slice_get s.seats.items w.index ≡ Some chair → IsPhased w.index (left_before n) None w.home.closing w.root w.names.unreleased (stage_of chair s) s.tasks.items
    pub counted : length w.names.ended.items + pending_count (driver_of w).requests ≡ w.names.unreleased

  pushed_here : (n : AfterCallbacks) (q : Place) (w : Worker) (s : Shared B) → SoundAt q w s → IsPushFor (AfterPush.CallBack n) q → Pushed n w s
  pushed_here n q w s sound is =
      let bare : is_bare_before (Some n) ≡ true → live_count w.home.timers ≡ 0 = λ h. (subst (λ c. LetsGo c (is_bare_at q) (driver_of w).requests w.home.timers) is.closing sound.lets_go) (is.bare ∙ h) in
      let batch : is_bare_before (Some n) ≡ true → w.batch.values ≡ [] = λ h. is.batch w.batch.values sound.batch (is.bare ∙ h) in
      let held : (chair : Chair) → slice_get s.seats.items w.index ≡ Some chair → chair.queue.held ≡ [] = λ chair there. is.held chair.queue (sound.queue chair there) in
      let phased : (chair : Chair) → slice_get s.seats.items w.index ≡ Some chair → IsPhased w.index (left_before n) None w.home.closing w.root w.names.unreleased (stage_of chair s) s.tasks.items = λ chair there.
      subst (λ b. IsPhased w.index b None w.home.closing w.root w.names.unreleased (stage_of chair s) s.tasks.items) is.closes
      (subst (λ c. IsPhased w.index (closes_at q) c w.home.closing w.root w.names.unreleased (stage_of chair s) s.tasks.items) is.closing (sound.phased chair there)) in
      assumption (subst (λ k. IsTold w.names.ended.items w.home.deferred (tellers (driver_of w).requests w.home.timers + k)) is.spare sound.told, bare, batch, held, phased, sound, sound.over)

  -- the next item
  pub to_call : (n : AfterCallbacks) (w : Worker) (s : Shared B) → Pushed n w s → is_anything_told w ≡ true → To n (Place.Callbacks InCallbacks.CallBack n) w s
  to_call = grind arith

  -- the end of a closing, once each request is released
  to_end : (w : Worker) (s : Shared B) → Pushed AfterCallbacks.Finish w s → NoneLeft w.home.deferred → has_open_requests w ≡ false → To AfterCallbacks.Finish (Place.Closing InClosing.End) w s
  to_end w s it none closed =
      let zero_by : (k : ℕ) → not (k == 0) ≡ false → k ≡ 0 = λ k h. grind (arith, nat_tests) in
      let all : w.names.unreleased ≡ 0 = omega (arith, it.counted, zero_by (pending_count (driver_of w).requests) closed, none.resources, it.told.resources) in
      record {
        to = record { same = refl; searches = refl; counts = refl; published = refl; queue = it.held; aims = tt; batch = λ h. it.batch refl; quiet = λ h. true_false h; left = tt; told = it.told; lets_go = λ h. it.bare refl; phased = λ chair there. phased_end w.index w.home.closing w.root w.names.unreleased w.names.unreleased (stage_of chair s) s.tasks.items all (it.phased chair there) };
        queue = λ x h. h;
        aims = λ c i seats. tt;
      }

  pub to_after : (n : AfterCallbacks) (w : Worker) (s : Shared B) → Pushed n w s → NoneLeft w.home.deferred → To n (after_callbacks_of n w) w s
  to_after AfterCallbacks.Look w s it none =
      either AfterCallbacks.Look (is_pool w.role) (Place.Loads InLoads.LoadOwnHead Round.First) (Place.Loads (InLoads.LoadOwnWord (record { ready = false })) Round.First) w s (λ h. grind arith) (λ h. grind arith)
  to_after AfterCallbacks.Test w s it none =
      let told = all_places w.names.ended.items w.home.deferred (tellers (driver_of w).requests w.home.timers + 64) _ it.told it.wide none in
      either AfterCallbacks.Test (is_pool w.role) (Place.Loads InLoads.LoadOwnHead Round.Second) (Place.Loads (InLoads.LoadOwnWord (record { ready = false })) Round.Second) w s (λ h. grind (arith, told)) (λ h. grind (arith, told))
  to_after AfterCallbacks.Begin w s it none = grind arith
  to_after AfterCallbacks.Drain w s it none = grind arith
  to_after AfterCallbacks.Finish w s it none =
      either AfterCallbacks.Finish (has_open_requests w) (ring_wait_of Stay.Closing w) (Place.Closing InClosing.End) w s
      (λ some. either AfterCallbacks.Finish (is_ring_full (driver_of w)) (Place.RingWait InRingWait.EnterFullRing Stay.Closing) (Place.RingWait InRingWait.TestRing Stay.Closing) w s (λ h. grind arith) (λ h. grind arith))
      (λ closed. to_end w s it none closed)

  pub call_comes : (n : AfterCallbacks) (q : Place) (w : Worker) (s : Shared B) → SoundAt q w s → IsPushFor (AfterPush.CallBack n) q → CallComes n w s
  call_comes n q w s sound is =
      let it = pushed_here n q w s sound is in
      let there : To n (next_callback_of n w) w s =
      either n (is_anything_told w) (Place.Callbacks InCallbacks.CallBack n) (after_callbacks_of n w) w s (λ some. to_call n w s it some) (λ none. to_after n w s it (none_left w.home.deferred (not-false (is_untold w.home.deferred) none))) in
      record { to = there.to; queue = there.queue; aims = there.aims }
