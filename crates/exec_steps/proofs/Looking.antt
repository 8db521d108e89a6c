-- What the tests before a wait, the look and the withdrawal are to the machine.
use Rattle.std.proofs.{Common.{◌≡◌, ◌≢◌, ℕ, ◌+◌, ◌-◌, ◌<◌, ◌≤◌, ◌==◌, ◌&&◌, ◌||◌, Bool, true, false, not, List, [], ◌∷◌, length, Option, Some, refl, sym, ap, subst, ◌∙◌, arith, slice_get, slice_set, nat_lt, nat_le, if◌then◌else◌}, lemmas.Bool.{false≢true, Decides.nat_tests}}
use Rattle.exec_words.specs.{Head.is_stealable_at, Idle.{Idle, is_in}, Queue.tail_of, declared.head.Head.Head}
use Rattle.exec_driver.specs.Driving.{has_pending, is_full}
use Rattle.exec_task.specs.declared.{body.Said.Said, runnable.Runnable.Runnable}
use Rattle.exec_machine.specs.{declared.event.Event.{Event, TheVariants.Turn}, Choice.Choice.Plain, Progress.Plan}
use Rattle.exec_moves.specs.{declared.{handing.AfterLeave.AfterLeave, idling.{AfterWait.AfterWait, InLook.InLook, InRingWait.InRingWait, InScan.InScan, InSearch.InSearch, InWordWait.InWordWait, Stay.Stay}, place.{AfterService.AfterService, Found.Found, Place.Place}}, Callback.{has_requests, serve}, Global.one_count_more, Load.{has_come, is_ready}, Look.{after_withdrawal, look_at_head, look_at_mirror, looks_from, past_own, publish, return_claimed, return_look_count, searching_if}, Move.move_at, Parts.after_return, State.{Desk, queue_of, turns}, Thing.{with_global, with_queue}, Wait.{first_search, read_clock, waits}}
use Rattle.exec_invariants.{proofs.{Leaves.{not_read, with_read}, DedicatedSeen.pool_seen, Dedicated.{never_apart, past_pool, pooled_here}, Counting.{Counts, counts_alone, counts_apart, counts_published, counts_same, counts_withdrawn, has_count, Stance, stance_at, stance_here, Stands}, Handed.{Between, leaves_seen, leaves_settle, ltb-true, ltb-false, next_seen, out, return_settles}, Idled.{calm_of, gone, led, Settles, settles_either}, NextDue.moment_seen, Standing.{requests_seen, submissions_seen}, Turning.queue_back_again}, specs.{Kinds.lowered, Places.{has_count_at, is_published_at, one_if, searches_at}, Sound.{has_wakes_at, IsSearching, SoundAt}, Whole.HasWhole, Works.{Steps, Suits}}}
use Rattle.exec_parts.{specs.{Roles.is_pool, declared.parts.{seat.Seat.Seat as Chair, shared.Shared.Shared, worker.Worker.Worker}, Spots.Spot, Tests.{after_return_of, first_search_of, has_open_requests, is_within, IsLook, IsNextMoment, IsSearch, IsWait, leaves_turn_of, place_withdrawn}, View.{Views, common_of, desk_of, driver_of, own_of, tasks_of, things_of, things_with}, Things.{Goes, Makes}}, proofs.Facts.same_number}
use Rattle.exec_steps.proofs.Searching.{placed}

turns_by : {T : Type 0} (b : Bool) (p q : Place) (d : Desk) (x : T) → (if b then turns p d x else turns q d x) ≡ turns (if b then p else q) d x
turns_by true p q d x = refl
turns_by false p q d x = refl

-- it is in the idle set as it looks, and searches no more
abbrev shown : Stance
shown = record { searching = false; counted = false; published = true }

other_than_own : (i j : ℕ) → past_own i j ≢ i
other_than_own = grind arith

module _ {B : Type 0} where
  -- WHERE IT WAITS, and where it looks

  -- the first step of a wait, from a place that is of the kind of a turn's beginning
  wait_settles : (q : Place) (span r : ℕ) (place : Place) (w : Worker) (s : Shared B) → calm_of Place.BeginTurn ≡ lowered w.role false (calm_of q) → has_wakes_at q ≡ false → ((chair : Chair) → slice_get s.seats.items w.index ≡ Some chair → chair.queue.held ≡ []) → IsWait span (record w { moments = with_read r w.moments }) place → Settles q place shown w s
  wait_settles q span r place w s same quiet held begun = by (has_open_requests w) refl
    where
      by : (some : Bool) → has_open_requests w ≡ some → Settles q place shown w s
      by true some =
          rw (begun.0 some)
          (settles_either q (is_full (driver_of w)) (Place.RingWait InRingWait.EnterFullRing Stay.Turn) (Place.RingWait InRingWait.TestRing Stay.Turn) shown w s
          (record { same = same; searches = refl; counts = refl; published = refl; queue = held; aims = tt; batch = λ no. absurd (false≢true no); quiet = λ h. quiet })
          (record { same = same; searches = refl; counts = refl; published = refl; queue = held; aims = tt; batch = λ no. absurd (false≢true no); quiet = λ h. quiet }))
      by false none =
          let found = begun.1 none in
          rw found.2
          (settles_either q (nat_lt 0 w.spinner.budget && not (is_within span r found.0)) (Place.WordWait (InWordWait.SpinOnBatch w.spinner.budget)) (Place.WordWait InWordWait.ArmWord) shown w s
          (record { same = same; searches = refl; counts = refl; published = refl; queue = held; aims = tt; batch = λ no. absurd (false≢true no); quiet = λ h. quiet })
          (record { same = same; searches = refl; counts = refl; published = refl; queue = held; aims = tt; batch = λ no. absurd (false≢true no); quiet = λ h. quiet }))

  -- from a look
  look_waits : (x : InLook) (span : ℕ) (place : Place) (w : Worker) (s : Shared B) → SoundAt (Place.Look x) w s → IsWait span w place → Settles (Place.Look x) place shown w s
  look_waits x span place w s sound begun = wait_settles (Place.Look x) span w.moments.read place w s refl refl sound.queue begun

  -- the look at the next queue
  look_settles : (x : InLook) (j : ℕ) (place : Place) (w : Worker) (s : Shared B) → SoundAt (Place.Look x) w s → IsLook s.config j w place → Settles (Place.Look x) place shown w s
  look_settles x j place w s sound looks = by (nat_lt (past_own w.index j) s.config.workers) refl
    where
      by : (more : Bool) → nat_lt (past_own w.index j) s.config.workers ≡ more → Settles (Place.Look x) place shown w s
      by true is =
          let few : past_own w.index j < s.config.workers = ltb-true (past_own w.index j) s.config.workers is in
          rw (looks.0 few) (record { same = refl; searches = refl; counts = refl; published = refl; queue = sound.queue; aims = (other_than_own w.index j, few); batch = sound.batch; quiet = λ h. refl })
      by false is = look_waits x s.config.spin.most place w s sound (looks.1 (ltb-false (past_own w.index j) s.config.workers is))

  -- the first step of a search, of a worker of the pool
  search_settles : (w : Worker) (s : Shared B) → SoundAt Place.ReadClock w s → is_pool w.role ≡ true → Settles Place.ReadClock (first_search_of s.config.workers w) (out w.searching) w s
  search_settles w s sound pool =
      settles_either Place.ReadClock (nat_le s.config.workers 1) (Place.Look InLook.Publish) (if w.searching then Place.Scan InScan.LoadScanHead else Place.Search InSearch.LoadSearchCount) (out w.searching) w s
      (record { same = rw pool refl; searches = tt; counts = refl; published = refl; queue = sound.queue; aims = tt; batch = sound.batch; quiet = λ h. refl })
      (by w.searching)
    where
      by : (b : Bool) → Settles Place.ReadClock (if b then Place.Scan InScan.LoadScanHead else Place.Search InSearch.LoadSearchCount) (out b) w s
      by true = record { same = rw pool refl; searches = tt; counts = refl; published = refl; queue = sound.queue; aims = tt; batch = sound.batch; quiet = λ h. refl }
      by false = record { same = rw pool refl; searches = refl; counts = refl; published = refl; queue = sound.queue; aims = tt; batch = sound.batch; quiet = λ h. refl }

  -- who returns a count holds one
  pub looks_some : (w : Worker) (s : Shared B) → SoundAt (Place.Look InLook.ReturnLookCount) w s → HasWhole w s → 0 < s.idle.count
  looks_some w s sound has =
      has_count (stance_at (Place.Look InLook.ReturnLookCount) w) w s (stance_here (Place.Look InLook.ReturnLookCount) w sound.here) has (rw sound.searching (omega arith))

  pub claimed_some : (w : Worker) (s : Shared B) → SoundAt (Place.Look InLook.ReturnClaimed) w s → HasWhole w s → 0 < s.idle.count
  claimed_some w s sound has =
      has_count (stance_at (Place.Look InLook.ReturnClaimed) w) w s (stance_here (Place.Look InLook.ReturnClaimed) w sound.here) has (rw sound.searching (omega arith))

module _ {B L : Type 0} (left : B → L) (spot : L → Option Said → Spot) where
  -- what the machine knows of a wait, and of a look
  wait_seen_by : (p : Plan) (vs : Views) (q place : Place) (r : ℕ) (w : Worker) (s : Shared B) → Suits p vs w s → SoundAt q w s → IsWait s.config.spin.most (record w { moments = with_read r w.moments }) place → waits p.config w.index (common_of left spot p vs s) (record (desk_of w) { read = r }) ≡ place
  wait_seen_by p vs q place r w s suits sound wait = by (has_open_requests w) refl
    where
      some_seen : has_open_requests w ≡ has_requests w.index (common_of left spot p vs s)
      some_seen = requests_seen w.index w.names (driver_of w) w.home.timers s.requests.items s.sleepers.items sound.named

      by : (some : Bool) → has_open_requests w ≡ some → waits p.config w.index (common_of left spot p vs s) (record (desk_of w) { read = r }) ≡ place
      by true some = rw (← some_seen, some, ← suits.config, ← sound.sized) (sym (wait.0 some))
      by false none =
          let found = wait.1 none in
          rw (← some_seen, none, ← moment_seen left spot p vs q w s found.0 suits sound (found.1.0, not_read w.home.closing r w found.0 found.1.1), ← suits.config) (sym found.2)

  wait_seen : (p : Plan) (vs : Views) (q place : Place) (w : Worker) (s : Shared B) → Suits p vs w s → SoundAt q w s → IsWait s.config.spin.most w place → waits p.config w.index (common_of left spot p vs s) (desk_of w) ≡ place
  wait_seen p vs q place w s suits sound wait = wait_seen_by p vs q place w.moments.read w s suits sound wait

  look_seen : (p : Plan) (vs : Views) (q place : Place) (j : ℕ) (w : Worker) (s : Shared B) → Suits p vs w s → SoundAt q w s → IsLook s.config j w place → looks_from p.config w.index (common_of left spot p vs s) j (desk_of w) ≡ place
  look_seen p vs q place j w s suits sound look = by (nat_lt (past_own w.index j) p.config.workers) refl
    where
      by : (more : Bool) → nat_lt (past_own w.index j) p.config.workers ≡ more → (if more then Place.Look (InLook.LookAtHead (past_own w.index j)) else waits p.config w.index (common_of left spot p vs s) (desk_of w)) ≡ place
      by true is = let few : past_own w.index j < s.config.workers = rw suits.config (ltb-true (past_own w.index j) p.config.workers is) in sym (look.0 few)
      by false is = let past : s.config.workers ≤ past_own w.index j = rw suits.config (ltb-false (past_own w.index j) p.config.workers is) in wait_seen p vs q place w s suits sound (look.1 past)

module _ {B L : Type 0} (left : B → L) (spot : L → Option Said → Spot) (w w' : Worker) (s : Shared B) (e : Event) where
  -- THE TESTS

  pub tested : (f : Found) → SoundAt (Place.TestForWork f) w s → e ≡ Turn → w' ≡ record w { place = (if is_ready (own_of w) f (desk_of w) || has_pending (driver_of w) then leaves_turn_of w else Place.ReadClock) } → Steps left spot w s e w' s
  tested f sound turn goes =
      let q = Place.TestForWork f in
      let b = is_ready (own_of w) f (desk_of w) || has_pending (driver_of w) in
      gone left spot q (if b then leaves_turn_of w else Place.ReadClock) (out w.searching) w w' s s.idle e sound turn goes refl
      (settles_either q b (leaves_turn_of w) Place.ReadClock (out w.searching) w s
      (leaves_settle q w.searching w s (record { same = refl; held = sound.queue; batch = sound.batch; quiet = refl }))
      (record { same = refl; searches = tt; counts = refl; published = refl; queue = sound.queue; aims = tt; batch = sound.batch; quiet = λ h. refl }))
      refl refl (counts_same (stance_at q w) w s (stance_here q w sound.here))
      (λ p vs suits. rw (leaves_seen left spot p vs q w s sound suits.config w.searching, ← suits.config, ← submissions_seen s.config w sound.sized)
      (ap (λ m. record { event = m.event; choice = m.choice; desk = m.desk; thing = things_with vs s }) (turns_by b (leaves_turn_of w) Place.ReadClock (desk_of w) (tt {0}))))

  pub clock_read : (moment : Option ℕ) → SoundAt Place.ReadClock w s → IsNextMoment w moment → e ≡ Turn → w' ≡ record w { place = w'.place; moments = with_read s.clock w.moments }
      → (has_come s.clock moment ≡ true → w'.place ≡ leaves_turn_of w) → (has_come s.clock moment ≡ false → IsSearch s.config.workers s.config.spin.most (record w { moments = with_read s.clock w.moments }) w'.place) → Steps left spot w s e w' s
  clock_read moment sound upcoming turn goes due searches = by (has_come s.clock moment) refl
    where
      q : Place
      q = Place.ReadClock

      -- to this place, which the machine finds too
      to : (place : Place) (z : Stance) → w'.place ≡ place → z.searching ≡ w.searching → Settles q place z w s → Counts (stance_at q w) z w s s.idle
          → ((p : Plan) (vs : Views) → Suits p vs w s → read_clock p.config w.index (own_of w) (common_of left spot p vs s) (desk_of w) ≡ turns place (record (desk_of w) { read = s.clock }) tt) → Steps left spot w s e w' s
      to place z is searching settles counts seen =
          led left spot q place s.clock w.rng z w w' s s.idle e sound turn (omega arith)
          (goes ∙ ap (λ y. record w { place = y; moments = with_read s.clock w.moments }) is ∙ ap (λ b. record w { place = place; moments = with_read s.clock w.moments; searching = b }) (sym searching))
          (λ apart. searching ∙ sound.calm apart) settles refl refl counts
          (λ p vs suits. ap (λ m. record { event = m.event; choice = m.choice; desk = m.desk; thing = things_with vs s }) (seen p vs suits)
          ∙ ap (λ b. record { event = Turn; choice = Plain; desk = record (desk_of w) { place = place; read = s.clock; searching = b }; thing = things_with vs s }) (sym searching))

      same : Counts (stance_at q w) (stance_at q w) w s s.idle
      same = counts_same (stance_at q w) w s (stance_here q w sound.here)

      -- what the machine does where nothing is due
      unmet : (p : Plan) (vs : Views) → Suits p vs w s → has_come s.clock moment ≡ false → read_clock p.config w.index (own_of w) (common_of left spot p vs s) (desk_of w) ≡ turns (first_search p.config w.index (common_of left spot p vs s) (record (desk_of w) { read = s.clock })) (record (desk_of w) { read = s.clock }) tt
      unmet p vs suits is = rw (← moment_seen left spot p vs q w s moment suits sound upcoming, is) refl

      by_role : (pool : Bool) → is_pool w.role ≡ pool → has_come s.clock moment ≡ false → Steps left spot w s e w' s
      by_role true pool is =
          let place : w'.place ≡ first_search_of s.config.workers w = (searches is).0 pool in
          to (first_search_of s.config.workers w) (out w.searching) place refl (search_settles w s sound pool) same
          (λ p vs suits. unmet p vs suits is ∙ ap (λ x. turns x (record (desk_of w) { read = s.clock }) tt) (rw (pool_seen left spot p vs q w s sound suits, pool, ← suits.config) refl))
      by_role false apart is =
          let idle : w.searching ≡ false = sound.calm apart in
          let wait = (searches is).1 apart in
          let counts : Counts (stance_at q w) shown w s s.idle = subst (λ b. Counts (stance_at q w) (record { searching = b; counted = false; published = true }) w s s.idle) idle (counts_apart (stance_at q w) true w s (past_pool q w s sound apart)) in
          to w'.place shown refl (sym idle)
          (wait_settles q s.config.spin.most s.clock w'.place w s refl refl sound.queue wait) counts
          (λ p vs suits. unmet p vs suits is ∙ ap (λ x. turns x (record (desk_of w) { read = s.clock }) tt)
          (rw (pool_seen left spot p vs q w s sound suits, apart) (wait_seen_by left spot p vs q w'.place s.clock w s suits sound wait)))

      by : (b : Bool) → has_come s.clock moment ≡ b → Steps left spot w s e w' s
      by true is =
          to (leaves_turn_of w) (out w.searching) (due is) refl (leaves_settle q w.searching w s (record { same = refl; held = sound.queue; batch = sound.batch; quiet = refl })) same
          (λ p vs suits. rw (← moment_seen left spot p vs q w s moment suits sound upcoming, is, leaves_seen left spot p vs q w s sound suits.config w.searching) refl)
      by false is = by_role (is_pool w.role) refl is

  -- THE LOOK

  pub published : (x : Idle) → SoundAt (Place.Look InLook.Publish) w s → Makes (publish w.index (desk_of w) s.idle) e w' → Goes w w' → x ≡ record s.idle { published = slice_set s.idle.published w.index true } → Steps left spot w s e w' (record s { idle = x })
  published x sound makes goes is =
      let q = Place.Look InLook.Publish in
      gone left spot q (Place.Look (if w.searching then InLook.ReturnLookCount else InLook.LookAtMirror false)) (record { searching = w.searching; counted = false; published = true }) w w' s x e sound makes.event (placed w (publish w.index (desk_of w) s.idle) makes goes) refl
      (by w.searching) refl refl
      (counts_published (stance_at q w) w s x (stance_here q w sound.here) refl (pooled_here q w s sound refl) (let few = pooled_here q w s sound refl in omega (arith, few, sound.config.few)) is)
      (λ p vs suits. rw is refl)
    where
      by : (b : Bool) → Settles (Place.Look InLook.Publish) (Place.Look (if b then InLook.ReturnLookCount else InLook.LookAtMirror false)) (record { searching = b; counted = false; published = true }) w s
      by true = record { same = refl; searches = refl; counts = refl; published = refl; queue = sound.queue; aims = tt; batch = sound.batch; quiet = λ h. refl }
      by false = record { same = refl; searches = refl; counts = refl; published = refl; queue = sound.queue; aims = tt; batch = sound.batch; quiet = λ h. refl }

  pub look_count_returned : (x : Idle) → SoundAt (Place.Look InLook.ReturnLookCount) w s → 0 < s.idle.count → Makes (return_look_count (desk_of w) s.idle) e w' → w' ≡ record w { place = w'.place; searching = false } → x ≡ record s.idle { count = s.idle.count - 1 }
      → Steps left spot w s e w' (record s { idle = x })
  look_count_returned x sound some makes same is =
      let q = Place.Look InLook.ReturnLookCount in
      let q' = Place.Look (InLook.LookAtMirror (s.idle.count == 1)) in
      let less : x.count ≡ s.idle.count - 1 = ap (λ i. i.count) is in
      led left spot q q' w.moments.read w.rng shown w w' s x e sound makes.event sound.time.read (same ∙ ap (λ d. record w { place = d.place; searching = false }) makes.desk) (λ apart. refl)
      (record { same = refl; searches = refl; counts = refl; published = refl; queue = sound.queue; aims = tt; batch = sound.batch; quiet = λ h. refl }) refl refl
      (counts_alone (stance_at q w) false false w s x (stance_here q w sound.here) (ap (λ i. i.published) is) (rw sound.searching (omega (arith, some, less))))
      (λ p vs suits. rw is refl)

  pub mirror_looked : (last : Bool) (mirror : ℕ) → SoundAt (Place.Look (InLook.LookAtMirror last)) w s → mirror ≡ length s.global.values → e ≡ Turn → w' ≡ record w { place = (if nat_lt 0 mirror then Place.Withdraw (AfterWait.MakeUp last) else Place.Look InLook.LookAtCount) } → Steps left spot w s e w' s
  mirror_looked last mirror sound is turn goes =
      let q = Place.Look (InLook.LookAtMirror last) in
      gone left spot q (if nat_lt 0 mirror then Place.Withdraw (AfterWait.MakeUp last) else Place.Look InLook.LookAtCount) shown w w' s s.idle e sound turn goes sound.searching
      (settles_either q (nat_lt 0 mirror) (Place.Withdraw (AfterWait.MakeUp last)) (Place.Look InLook.LookAtCount) shown w s
      (record { same = refl; searches = refl; counts = refl; published = refl; queue = sound.queue; aims = tt; batch = sound.batch; quiet = λ h. refl })
      (record { same = refl; searches = refl; counts = refl; published = refl; queue = sound.queue; aims = tt; batch = sound.batch; quiet = λ h. refl }))
      refl refl (counts_alone (stance_at q w) false false w s s.idle (stance_here q w sound.here) refl (rw sound.searching refl))
      (λ p vs suits. rw is (by s.global.values refl vs))
    where
      by : (values : List Runnable) → s.global.values ≡ values → (vs : Views) → with_global (things_with vs s) (look_at_mirror last (desk_of w) (tasks_of values)) ≡ record { event = Turn; choice = Plain; desk = record (desk_of w) { place = (if nat_lt 0 (length values) then Place.Withdraw (AfterWait.MakeUp last) else Place.Look InLook.LookAtCount) }; thing = things_with vs s }
      by [] none vs = ap (λ g. record { event = Turn; choice = Plain; desk = record (desk_of w) { place = Place.Look InLook.LookAtCount }; thing = record (things_with vs s) { global = tasks_of g } }) (sym none)
      by (r ∷ rs) some vs =
          let positive : nat_lt 0 (length (r ∷ rs)) ≡ true = grind (arith, nat_tests) in
          rw positive (ap (λ g. record { event = Turn; choice = Plain; desk = record (desk_of w) { place = Place.Withdraw (AfterWait.MakeUp last) }; thing = record (things_with vs s) { global = tasks_of g } }) (sym some))

  -- to a place where it waits or looks on
  looked : (x : InLook) (q' : Place) → searches_at (Place.Look x) ≡ Some false → has_count_at (Place.Look x) ≡ false → is_published_at (Place.Look x) ≡ true → SoundAt (Place.Look x) w s → e ≡ Turn → w' ≡ record w { place = q' } → Settles (Place.Look x) q' shown w s
      → ((p : Plan) (vs : Views) → Suits p vs w s → move_at p.config w.index (own_of w) (common_of left spot p vs s) (desk_of w) (things_with vs s) (Place.Look x) ≡ record { event = Turn; choice = Plain; desk = record (desk_of w) { place = q' }; thing = things_with vs s })
      → Steps left spot w s e w' s
  looked x q' none uncounted out_there sound turn goes to moves =
      let q = Place.Look x in
      let searching : w.searching ≡ false = subst (λ o. IsSearching o w.searching) none sound.searching in
      let here : Stands shown w = record { searching = searching; counted = ap has_count_at sound.here ∙ uncounted; published = ap is_published_at sound.here ∙ out_there } in
      let is : stance_at q w ≡ shown = rw (searching, uncounted, out_there) refl in
      gone left spot q q' shown w w' s s.idle e sound turn goes searching to refl refl (rw is (counts_same shown w s here)) moves

  pub count_looked : SoundAt (Place.Look InLook.LookAtCount) w s → e ≡ Turn → Goes w w' → (s.idle.count ≡ 0 → IsLook s.config 0 w w'.place) → (0 < s.idle.count → IsWait s.config.spin.most w w'.place) → Steps left spot w s e w' s
  count_looked sound turn goes looks waits_then = by (s.idle.count == 0) refl
    where
      by : (none : Bool) → (s.idle.count == 0) ≡ none → Steps left spot w s e w' s
      by true none =
          let look = looks (same_number s.idle.count 0 none) in
          looked InLook.LookAtCount w'.place refl refl refl sound turn goes (look_settles InLook.LookAtCount 0 w'.place w s sound look)
          (λ p vs suits. rw (none, look_seen left spot p vs (Place.Look InLook.LookAtCount) w'.place 0 w s suits sound look) refl)
      by false some =
          let wait = waits_then (grind (arith, nat_tests, some)) in
          looked InLook.LookAtCount w'.place refl refl refl sound turn goes (look_waits InLook.LookAtCount s.config.spin.most w'.place w s sound wait)
          (λ p vs suits. rw (some, wait_seen left spot p vs (Place.Look InLook.LookAtCount) w'.place w s suits sound wait) refl)

  pub head_looked : (j : ℕ) → SoundAt (Place.Look (InLook.LookAtHead j)) w s → Makes (look_at_head j (desk_of w) (queue_of (things_of s) j)) e w' → Goes w w' → Steps left spot w s e w' s
  head_looked j sound makes goes =
      let m = look_at_head j (desk_of w) (queue_of (things_of s) j) in
      looked (InLook.LookAtHead j) m.desk.place refl refl refl sound makes.event (placed w m makes goes)
      (record { same = refl; searches = refl; counts = refl; published = refl; queue = sound.queue; aims = sound.aims; batch = sound.batch; quiet = λ h. refl })
      (λ p vs suits. ap (λ x. record { event = Turn; choice = Plain; desk = m.desk; thing = x }) (queue_back_again j (things_with vs s)))

  pub tail_looked : (j : ℕ) (h : Head) → SoundAt (Place.Look (InLook.LookAtTail j h)) w s → e ≡ Turn → Goes w w' → (is_stealable_at h (tail_of (queue_of (things_of s) j)) ≡ true → w'.place ≡ Place.Look InLook.ExchangeLookCount)
      → (is_stealable_at h (tail_of (queue_of (things_of s) j)) ≡ false → IsLook s.config (j + 1) w w'.place) → Steps left spot w s e w' s
  tail_looked j h sound turn goes steals looks = by (is_stealable_at h (tail_of (queue_of (things_of s) j))) refl
    where
      x : InLook
      x = InLook.LookAtTail j h

      back : (place : Place) (vs : Views) → with_queue j (things_with vs s) (turns place (desk_of w) (queue_of (things_of s) j)) ≡ record { event = Turn; choice = Plain; desk = record (desk_of w) { place = place }; thing = things_with vs s }
      back place vs = ap (λ y. record { event = Turn; choice = Plain; desk = record (desk_of w) { place = place }; thing = y }) (queue_back_again j (things_with vs s))

      by : (b : Bool) → is_stealable_at h (tail_of (queue_of (things_of s) j)) ≡ b → Steps left spot w s e w' s
      by true is =
          let there : w'.place ≡ Place.Look InLook.ExchangeLookCount = steals is in
          looked x (Place.Look InLook.ExchangeLookCount) refl refl refl sound turn (goes ∙ ap (λ y. record w { place = y }) there)
          (record { same = refl; searches = refl; counts = refl; published = refl; queue = sound.queue; aims = tt; batch = sound.batch; quiet = λ h. refl })
          (λ p vs suits. rw is (back (Place.Look InLook.ExchangeLookCount) vs))
      by false is =
          let look = looks is in
          looked x w'.place refl refl refl sound turn goes (look_settles x (j + 1) w'.place w s sound look)
          (λ p vs suits. rw (is, look_seen left spot p vs (Place.Look x) w'.place (j + 1) w s suits sound look) (back w'.place vs))

  pub look_count_exchanged : (s' : Shared B) → SoundAt (Place.Look InLook.ExchangeLookCount) w s → e ≡ Turn → (s.idle.count ≡ 0 → w' ≡ record w { place = Place.Withdraw AfterWait.Search; searching = true }) → (0 < s.idle.count → Goes w w')
      → (0 < s.idle.count → IsWait s.config.spin.most w w'.place) → s' ≡ record s { idle = (if s.idle.count == 0 then record s.idle { count = 1 } else s.idle) } → Steps left spot w s e w' s'
  look_count_exchanged s' sound turn first later waits_then is = by (s.idle.count == 0) refl is
    where
      q : Place
      q = Place.Look InLook.ExchangeLookCount

      by : (none : Bool) → (s.idle.count == 0) ≡ none → s' ≡ record s { idle = (if none then record s.idle { count = 1 } else s.idle) } → Steps left spot w s e w' s'
      by true none is =
          let zero_now : s.idle.count ≡ 0 = same_number s.idle.count 0 none in
          let more : record s.idle { count = 1 } ≡ one_count_more s.idle = ap (λ n. record s.idle { count = n + 1 }) (sym zero_now) in
          subst (Steps left spot w s e w') (sym is)
          (led left spot q (Place.Withdraw AfterWait.Search) w.moments.read w.rng (record { searching = true; counted = false; published = true }) w w' s (record s.idle { count = 1 }) e sound turn sound.time.read (first zero_now) (never_apart q w s sound refl)
          (record { same = refl; searches = refl; counts = refl; published = refl; queue = sound.queue; aims = tt; batch = sound.batch; quiet = λ h. refl }) refl refl
          (counts_alone (stance_at q w) true false w s (record s.idle { count = 1 }) (stance_here q w sound.here) refl (rw sound.searching (omega (arith, zero_now))))
          (λ p vs suits. rw (more, none) refl))
      by false some is =
          let positive : 0 < s.idle.count = grind (arith, nat_tests, some) in
          let wait = waits_then positive in
          subst (Steps left spot w s e w') (sym is)
          (looked InLook.ExchangeLookCount w'.place refl refl refl sound turn (later positive) (look_waits InLook.ExchangeLookCount s.config.spin.most w'.place w s sound wait)
          (λ p vs suits. rw (some, wait_seen left spot p vs q w'.place w s suits sound wait) refl))

  pub claimed_returned : (x : Idle) → SoundAt (Place.Look InLook.ReturnClaimed) w s → 0 < s.idle.count → Makes (return_claimed (desk_of w) s.idle) e w' → Goes w w' → x ≡ record s.idle { count = s.idle.count - 1 } → Steps left spot w s e w' (record s { idle = x })
  claimed_returned x sound some makes goes is =
      let q = Place.Look InLook.ReturnClaimed in
      let less : x.count ≡ s.idle.count - 1 = ap (λ i. i.count) is in
      gone left spot q (Place.Scan InScan.LoadScanHead) (out true) w w' s x e sound makes.event (placed w (return_claimed (desk_of w) s.idle) makes goes) sound.searching
      (record { same = refl; searches = tt; counts = refl; published = refl; queue = sound.queue; aims = tt; batch = sound.batch; quiet = λ h. refl }) refl refl
      (counts_alone (stance_at q w) true false w s x (stance_here q w sound.here) (ap (λ i. i.published) is) (rw sound.searching (omega (arith, some, less))))
      (λ p vs suits. rw is refl)

  -- THE WITHDRAWAL

  pub withdrew : (n : AfterWait) (x : Idle) → SoundAt (Place.Withdraw n) w s → e ≡ Turn
      → w' ≡ record w { place = place_withdrawn (not (is_in s.idle.published w.index)) n (record w { searching = w'.searching }); searching = w.searching || not (is_in s.idle.published w.index) }
      → x ≡ record s.idle { published = slice_set s.idle.published w.index false } → Steps left spot w s e w' (record s { idle = x })
  withdrew n x sound turn goes is = by (not (is_in s.idle.published w.index)) refl n sound (goes ∙ ap (λ b. record w { place = place_withdrawn (not (is_in s.idle.published w.index)) n (record w { searching = b }); searching = w.searching || not (is_in s.idle.published w.index) }) (ap (λ v. v.searching) goes))
    where
      -- to this place, with this
      to : (m : AfterWait) (came : Bool) (q' : Place) (z : Stance) → SoundAt (Place.Withdraw m) w s → not (is_in s.idle.published w.index) ≡ came → w' ≡ record w { place = q'; searching = z.searching } → z.published ≡ false → Settles (Place.Withdraw m) q' z w s
          → one_if z.searching + one_if z.counted ≡ one_if w.searching + one_if came
          → ((p : Plan) (vs : Views) → Suits p vs w s → after_withdrawal p.config w.index (own_of w) (common_of left spot p vs s) came m (searching_if came (desk_of w)) ≡ q') → w.searching || came ≡ z.searching → Steps left spot w s e w' (record s { idle = x })
      to m came q' z at_m is_came goes out_of settles own seen searching =
          let q = Place.Withdraw m in
          let counts : Counts (stance_at q w) z w s x = subst (λ b. Counts (stance_at q w) (record { searching = z.searching; counted = z.counted; published = b }) w s x) (sym out_of)
          (counts_withdrawn (stance_at q w) z.searching z.counted w s x (stance_here q w at_m.here) refl (pooled_here q w s at_m refl) (let few = pooled_here q w s at_m refl in omega (arith, few, at_m.config.few)) is (rw is_came (omega (arith, own)))) in
          led left spot q q' w.moments.read w.rng z w w' s x e at_m turn at_m.time.read goes (never_apart q w s at_m refl) settles refl refl counts
          (λ p vs suits. rw (is_came, seen p vs suits, is, searching) refl)

      by : (came : Bool) → not (is_in s.idle.published w.index) ≡ came → (m : AfterWait) → SoundAt (Place.Withdraw m) w s → w' ≡ record w { place = place_withdrawn came m (record w { searching = w.searching || came }); searching = w.searching || came } → Steps left spot w s e w' (record s { idle = x })
      by came is_came AfterWait.Begin at_m goes =
          to AfterWait.Begin came Place.BeginTurn (out came) at_m is_came (goes ∙ ap (λ b. record w { place = Place.BeginTurn; searching = b || came }) at_m.searching) refl
          (record { same = refl; searches = tt; counts = refl; published = refl; queue = at_m.queue; aims = tt; batch = at_m.batch; quiet = λ h. refl }) (rw at_m.searching (omega arith)) (λ p vs suits. refl) (rw at_m.searching refl)
      by came is_came AfterWait.Serve at_m goes =
          to AfterWait.Serve came (serve AfterService.Begin) (out came) at_m is_came (goes ∙ ap (λ b. record w { place = serve AfterService.Begin; searching = b || came }) at_m.searching) refl
          (record { same = refl; searches = tt; counts = refl; published = refl; queue = at_m.queue; aims = tt; batch = at_m.batch; quiet = λ h. refl }) (rw at_m.searching (omega arith)) (λ p vs suits. refl) (rw at_m.searching refl)
      by true is_came (AfterWait.MakeUp last) at_m goes =
          to (AfterWait.MakeUp last) true (Place.LeaveSearch AfterLeave.Begin) (out true) at_m is_came (goes ∙ ap (λ b. record w { place = leaves_turn_of (record w { searching = b || true }); searching = b || true }) at_m.searching) refl
          (record { same = refl; searches = refl; counts = refl; published = refl; queue = at_m.queue; aims = tt; batch = at_m.batch; quiet = λ h. refl }) (rw at_m.searching refl) (λ p vs suits. rw at_m.searching refl) (rw at_m.searching refl)
      by false is_came (AfterWait.MakeUp last) at_m goes =
          let q = Place.Withdraw (AfterWait.MakeUp last) in
          let v : Worker = record w { searching = false } in
          let there : Between q (Place.LeaveSearch AfterLeave.Begin) w s = record { same = refl; held = at_m.queue; batch = at_m.batch; quiet = refl } in
          let seen : (p : Plan) (vs : Views) → Suits p vs w s → (l : Bool) → after_return p.config w.index (own_of w) (common_of left spot p vs s) l AfterLeave.Begin (searching_if false (desk_of w)) ≡ after_return_of l AfterLeave.Begin v =
          λ p vs suits l. elim l as (λ b. after_return p.config w.index (own_of w) (common_of left spot p vs s) b AfterLeave.Begin (searching_if false (desk_of w)) ≡ after_return_of b AfterLeave.Begin v) [ true ↦ refl | false ↦ next_seen left spot p vs q w s at_m suits.config ] in
          to (AfterWait.MakeUp last) false (after_return_of last AfterLeave.Begin v) (out false) at_m is_came (goes ∙ ap (λ b. record w { place = after_return_of last AfterLeave.Begin (record w { searching = b || false }); searching = b || false }) at_m.searching) refl
          (elim last as (λ l. Settles q (after_return_of l AfterLeave.Begin v) (out false) w s) [ true ↦ return_settles true AfterLeave.Begin q w s there | false ↦ return_settles false AfterLeave.Begin q w s there ]) (rw at_m.searching refl) (λ p vs suits. seen p vs suits last) (rw at_m.searching refl)
      by true is_came AfterWait.Search at_m goes =
          to AfterWait.Search true (Place.Look InLook.ReturnClaimed) (record { searching = true; counted = true; published = false }) at_m is_came (goes ∙ ap (λ b. record w { place = Place.Look InLook.ReturnClaimed; searching = b || true }) at_m.searching) refl
          (record { same = refl; searches = refl; counts = refl; published = refl; queue = at_m.queue; aims = tt; batch = at_m.batch; quiet = λ h. refl }) (rw at_m.searching refl) (λ p vs suits. refl) (rw at_m.searching refl)
      by false is_came AfterWait.Search at_m goes =
          to AfterWait.Search false (Place.Scan InScan.LoadScanHead) (out true) at_m is_came (goes ∙ ap (λ b. record w { place = Place.Scan InScan.LoadScanHead; searching = b || false }) at_m.searching) refl
          (record { same = refl; searches = tt; counts = refl; published = refl; queue = at_m.queue; aims = tt; batch = at_m.batch; quiet = λ h. refl }) (rw at_m.searching refl) (λ p vs suits. refl) (rw at_m.searching refl)
