-- A closing worker lets go of the sleeper in the first slot, as a step of the machine.
use Rattle.std.proofs.{Common.{◌≡◌, ◌≢◌, ◌⊎◌, inl, inr, ℕ, zero, suc, ◌+◌, ◌^◌, ◌<◌, ◌==◌, ◌&&◌, ◌||◌, Bool, true, false, not, cond, List, [], ◌∷◌, ◌++◌, count_by, length, map, Option, Some, None, Err, IsSome, refl, sym, ap, subst, ◌∙◌, arith, slice_get, slice_set, if◌then◌else◌}, lemmas.{Bool.{false≢true, eq-eqb, lt-ltb}, List.{append-nil, map-append}}}
use Rattle.exec_base.specs.{Slab.{Slab, is_live, live_count, value_at}, declared.{error.Error.TheVariants.Closed, slab.{Id.Id, Slot.{Slot, TheVariants.{Live, Vacant, Retired}}}, task_no.TaskNo.TaskNo}}
use Rattle.exec_time.specs.{Sleepers.{completions_of, wakes_of}, declared.{notes.ForwardedResult.ForwardedResult, timers.{Observer.{Observer as Watching, Observer as sleep}, Sleeper.Sleeper as Sleeping}}}
use Rattle.exec_waiters.specs.declared.deferred.Deferred.{Deferred}
use Rattle.exec_task.specs.declared.body.Said.{Said}
use Rattle.exec_machine.specs.{declared.event.Event.{Event, TheVariants.Turn}, Choice.Choice.Plain, Progress.Plan, Tests.{is_applied, is_asleep}, World.{Common, sleeper_of}}
use Rattle.exec_moves.specs.{declared.place.{InClosing.InClosing, Place.Place}, Close.{after_letting_go, asleep_after, close_sleeper, first_asleep}, Move.move_at, Thing.aside, Slots.{Slots, first_in, vacated}, State.{Desk, turns}, Told.told_of_fire}
use Rattle.exec_parts.{specs.{declared.parts.{mail.Reply.Reply, shared.Shared.Shared, sleeping.SleeperRecord.SleeperRecord, task_slot.TaskSlot.TaskSlot, worker.Worker.Worker}, Calls.{sleeper_closed, IsTold}, Ending.{ClosesOn, ClosesSleeper}, Phased.IsGoing, Records.number_in, Spots.Spot, View.{Views, common_of, completions_in, desk_of, driver_of, number_heard, own_of, slots_from, slots_seen, things_with, visible, with_view}}, proofs.Facts.{by_name, not_same, same_number, same_Some}}
use Rattle.exec_invariants.{proofs.{Showing.{map_kept, map_set}, Dedicated.own_root, FiringSlots.{OneBed, alive_at, bed_vacated, first_is}, Hearing.unheard, LetsNext.{asleep_in, first_none, live_value, named_at, number_at, sleeper_there}, Lined.{mapped, passing_same, unmapped}, PoolKept.all_over, ServedEnds.{count_both, count_none, count_one}, ServingHolds.{Keeps, KeepsBy, nap_sent}, Serving.{SparesRecords, spares_sleeper}, Turning.view_found}, specs.{Due.{AreAsleep, IsDue}, Flown.HasFlown, Holding.{Hands, Holder, IsHolding, MayHave, Nap, box_of, holder_of, nap_of, thing_of}, HoldPlaces.{has_wakes_at, is_bare_at}, Rooted.{IsRooted, Watches}, Names.{HasWidth, tellers}, Sound.{SoundAt, served_in}, Whole.{IsWhole, Profile, duties_of, hands_of, wakes_with, with_worker}, Works.{Beside, Steps}}}
use Rattle.exec_closing.proofs.{ClosesMail.{GoesTo, goes_to}, ClosingBeds.{Closable, apart, asleep_closed, closable, named_closed, one_bed, one_less}, ClosingHolds.{WakesNap, holding_closed}, ClosingLets.{LetsAt, beside_lets, lets_to, records_of, sound_lets}, ClosingRooted.{IsOver, rooted_over, told_less, unpaid, unsent, wide_less}, LetsMay.some_live, NoneAsleep.none_live}

-- ONE THAT PASSES is found

at_zero : (test : ℕ → Bool) (numbers : List ℕ) (k : ℕ) → test (number_at numbers (k + 0)) ≡ true → test (number_at numbers k) ≡ true
at_zero test numbers k h = ap (λ j. test (number_at numbers j)) (let e : k ≡ k + 0 = omega arith in e) ∙ h

at_next : (test : ℕ → Bool) (numbers : List ℕ) (k i : ℕ) → test (number_at numbers (k + suc i)) ≡ true → test (number_at numbers (suc k + i)) ≡ true
at_next test numbers k i h = ap (λ j. test (number_at numbers j)) (let e : suc k + i ≡ k + suc i = omega arith in e) ∙ h

-- this one, or one behind it
either : (b : Bool) (n : ℕ) (o : Option ℕ) → (m : ℕ) × (o ≡ Some m) → (m : ℕ) × ((if b then Some n else o) ≡ Some m)
either true n o later = (n, refl)
either false n o later = later

first_any : {T : Type 0} (test : ℕ → Bool) (numbers : List ℕ) (k : ℕ) (slots : List (Slot T)) (i g : ℕ) (e : T) → slice_get slots i ≡ Some (Live g e) → test (number_at numbers (k + i)) ≡ true → (n : ℕ) × (first_in test (slots_from k numbers slots) ≡ Some n)
first_any test numbers k [] i g e at passes = absurd (let none : None ≡ Some (Live g e) = at in cc)
first_any test numbers k (Live h y ∷ slots) zero g e at passes =
    (number_at numbers k, ap (λ b. if b then Some (number_at numbers k) else first_in test (slots_from (suc k) numbers slots)) (at_zero test numbers k passes))
first_any test numbers k (Vacant h ∷ slots) zero g e at passes = absurd (let none : Vacant h ≡ Live g e = same_Some (Vacant h) (Live g e) at in cc)
first_any test numbers k (Retired ∷ slots) zero g e at passes = absurd (let none : Retired ≡ Live g e = same_Some Retired (Live g e) at in cc)
first_any test numbers k (Live h y ∷ slots) (suc i) g e at passes =
    either (test (number_at numbers k)) (number_at numbers k) (first_in test (slots_from (suc k) numbers slots)) (first_any test numbers (suc k) slots i g e at (at_next test numbers k i passes))
first_any test numbers k (Vacant h ∷ slots) (suc i) g e at passes = first_any test numbers (suc k) slots i g e at (at_next test numbers k i passes)
first_any test numbers k (Retired ∷ slots) (suc i) g e at passes = first_any test numbers (suc k) slots i g e at (at_next test numbers k i passes)

-- THE MOVE
closes_found : (i : ℕ) (s : Common) (d : Desk) (z : ℕ) → first_asleep i s d ≡ Some z → close_sleeper i s d ≡ turns (after_letting_go None (asleep_after i z s d)) (told_of_fire z (sleeper_of s z) d) tt
closes_found i s d z found = rw found refl

module _ {B : Type 0} (w w' : Worker) (s s' : Shared B) (e : Event) (sound : SoundAt (Place.Closing InClosing.CloseSleeper) w s) (by : ClosesSleeper w w' s s' e) where
  abbrev zs : Slab (Sleeping Reply)
  zs = w.home.timers

  abbrev zs' : Slab (Sleeping Reply)
  zs' = w'.home.timers

  abbrev id : Id
  id = by.id.0

  abbrev k : ℕ
  k = number_in w.names.timers.items by.id.0

  abbrev z : SleeperRecord
  z = by.it

  abbrev sleeps : Sleeping Reply
  sleeps = by.ends.sleeper

  abbrev left' : Deferred Reply Reply
  left' = record w.home.deferred { notes = w'.home.deferred.notes }

  -- the worker and what is shared then, but for where it goes on
  abbrev v : Worker
  v = record w { place = w'.place; home = record w.home { timers = w'.home.timers; deferred = record w.home.deferred { notes = w'.home.deferred.notes } } }

  abbrev t : Shared B
  t = record s { sleepers = s'.sleepers }

  abbrev ss' : List SleeperRecord
  ss' = slice_set s.sleepers.items (number_in w.names.timers.items by.id.0) (sleeper_closed by.it)

  there : slice_get s.sleepers.items (number_in w.names.timers.items by.id.0) ≡ Some by.it
  there = ap (slice_get s.sleepers.items) (sym by.number) ∙ by.sleeper

  items : s'.sleepers.items ≡ slice_set s.sleepers.items (number_in w.names.timers.items by.id.0) (sleeper_closed by.it)
  items = by.sleepers ∙ ap (λ n. slice_set s.sleepers.items n (sleeper_closed by.it)) by.number

  short : length s.sleepers.items < 2 ^ 63
  short = omega (arith, (s.sleepers).ok.0, (s.sleepers).ok.1, (s.sleepers).small)

  z_is : Closable w.index w.names (driver_of w) zs zs' s.requests.items s.sleepers.items by.id.0 sleeps by.it sound.named sound.due.asleep by.ends.was by.ends.is by.ends.gone there short
  z_is = closable w.index w.names (driver_of w) zs zs' s.requests.items s.sleepers.items by.id.0 sleeps by.it sound.named sound.due.asleep by.ends.was by.ends.is by.ends.gone there short

  closing : w.home.closing ≡ true
  closing = (sound.phased sound.seated.seat sound.seated.there).told

  bed : OneBed w.names.timers.items zs by.id.0
  bed = one_bed w.index w.names (driver_of w) zs zs' s.requests.items s.sleepers.items by.id.0 sleeps by.it sound.named sound.due.asleep by.ends.was by.ends.is by.ends.gone there short

  over : IsOver by.it (sleeper_closed by.it)
  over = record { worker = refl; task = refl; forwarding = refl; paid = refl; sent = refl; over = last z.shown.fired z.shown.removed }
    where
      last : (a b : Bool) → (a || (b || true)) ≡ true
      last = grind arith

  -- WHAT HOLDS OF IT AGAIN

  pub spares : SparesRecords w.index s (records_of s t)
  spares = spares_sleeper w.index s t k z (sleeper_closed z) sound.gates refl items refl there z_is.mine (record { worker = refl; forwarded = λ h. h }) refl

  fewer : tellers (driver_of w).requests w.home.timers + 64 ≡ tellers (driver_of w).requests w'.home.timers + 64 + 1
  fewer = let less = one_less zs zs' id sleeps by.ends.was by.ends.is in omega (arith, less)

  rooted : IsRooted w.index w.names (driver_of w) zs' left' s.requests.items ss'
  rooted =
      rooted_over w.index w.names (driver_of w) zs zs' w.home.deferred left' s.requests.items s.sleepers.items id sleeps z (sleeper_closed z) (Err Closed) over sound.rooted by.ends.was by.ends.gone.others by.ends.gone.changed there z_is.mine z_is.unfired z_is.unremoved z_is.unclosed
      (apart w.index w.names (driver_of w) zs zs' s.requests.items s.sleepers.items id sleeps z sound.named sound.due.asleep by.ends.was by.ends.is by.ends.gone there short) refl by.ends.notes

  pub keeps : Keeps (lets_to w v w.place) (records_of s t)
  keeps =
      let d = driver_of w in
      let asleep : AreAsleep w.home.closing w.index w.names zs' ss' = asleep_closed w.index w.names d zs zs' s.requests.items s.sleepers.items id sleeps z sound.named sound.due.asleep by.ends.was by.ends.is by.ends.gone there short closing in
      let due0 : IsDue None w.home.closing w.index w.moments s.config w.names d zs' s.requests.items ss' = record { punctual = sound.due.punctual; told = sound.due.told; wheel = sound.due.wheel; timed = sound.due.timed; asleep = asleep; order = sound.due.order } in
      let told = told_less (Err Closed) w.names.ended.items w.home.deferred left' (tellers d.requests zs' + 64) sleeps.observer refl by.ends.notes (subst (λ n. IsTold w.names.ended.items w.home.deferred n) fewer sound.told) in
      let wide = wide_less (Err Closed) w.home.deferred left' (tellers d.requests zs' + 64) sleeps.observer refl by.ends.notes (subst (λ n. HasWidth w.home.deferred n) fewer sound.wide) in
      let named = named_closed w.index w.names d zs zs' s.requests.items s.sleepers.items id sleeps z sound.named sound.due.asleep by.ends.was by.ends.is by.ends.gone there short in
      let quiet : has_wakes_at w.place ≡ false → left'.notes.wakes.items ≡ [] = λ h. absurd (false≢true (sym h ∙ ap has_wakes_at sound.here)) in
      let due = subst (λ p. IsDue (served_in p) w.home.closing w.index w.moments s.config w.names d zs' s.requests.items ss') (sym sound.here) due0 in
      let flown = subst (λ p. HasFlown (served_in p) w.index w.names d s.requests.items) (sym sound.here) sound.flown in
      let bare : is_bare_at w.place ≡ true → live_count zs' ≡ 0 = λ h. absurd (false≢true (sym (ap is_bare_at sound.here) ∙ h)) in
      let at_it : KeepsBy (lets_to w v w.place) d zs' s.requests.items ss' (records_of s t) = assumption (told, wide, named, quiet, due, flown, rooted, bare, sound) in
      subst (λ xs. KeepsBy (lets_to w v w.place) d zs' s.requests.items xs (records_of s t)) (sym items) at_it

  -- WHAT TASKS HOLD

  -- who waits for it is over: the pool has passed the barrier, and its own root has ended
  waits_over : (others : Profile) → IsWhole (with_worker others w) s → (n : ℕ) (it : Holder) → slice_get (map holder_of s.tasks.items) n ≡ Some it → MayHave s.config.workers it.home w.index → it.over ≡ true
  waits_over others whole n it at near = by_slot (unmapped holder_of s.tasks.items n it at).0 (unmapped holder_of s.tasks.items n it at).1 (unmapped holder_of s.tasks.items n it at).2 it.home refl near
    where
      by_slot : (slot : TaskSlot B) → slice_get s.tasks.items n ≡ Some slot → holder_of slot ≡ it → (home : Option ℕ) → it.home ≡ home → MayHave s.config.workers home w.index → it.over ≡ true
      by_slot slot found shown None home few =
          let seat = sound.seated.seat in
          let at_seat = sound.seated.there in
          let phased = sound.phased seat at_seat in
          let pool : seat.pool ≡ true = sound.seated.pool ∙ lt-ltb w.index s.config.workers few in
          let all_gone = whole.pool.shut w.index seat at_seat pool phased.shut in
          sym (ap (λ (y : Holder). y.over) shown)
          ∙ all_over (duties_of (with_worker others w)) s.tasks.items s.set s.seats.items w.index seat at_seat (phased.left ∙ ap (λ b. b && true) pool) all_gone
          (λ u other at_u ordinary unpolled going_on. ((sound.resting u other at_u ordinary unpolled).uncleared going_on).1) whole.pool n slot found (ap (λ (y : Holder). y.home) shown ∙ home)
      by_slot slot found shown (Some i) home own =
          let root : n ≡ w.root = own_root (Place.Closing InClosing.CloseSleeper) w s sound n slot found (ap (λ (y : Holder). y.home) shown ∙ home ∙ ap (λ j. Some j) (sym own)) in
          sym (ap (λ (y : Holder). y.over) shown) ∙ (sound.phased sound.seated.seat sound.seated.there).root slot (subst (λ j. slice_get s.tasks.items j ≡ Some slot) root found)

  counted : (u : ℕ) → wakes_with u v ≡ wakes_with u w + count_by (λ (n : TaskNo). n.0 == u) (wakes_of sleeps.observer)
  counted u = ap (count_by (λ (n : TaskNo). n.0 == u)) by.ends.notes.wakes_added ∙ count_both (λ (n : TaskNo). n.0 == u) w.home.deferred.notes.wakes.items (wakes_of sleeps.observer)

  abbrev hands_then : Profile → Hands
  hands_then others = record (hands_of (with_worker others w)) { wakes = λ j u. if j == w.index then wakes_with u v else others.wakes j u }

  more_by : (others : Profile) (i u : ℕ) (b : Bool) → (i == w.index) ≡ b → ((hands_then others).wakes i u ≡ (hands_of (with_worker others w)).wakes i u) ⊎ WakesNap (hands_of (with_worker others w)) (hands_then others) (nap_of by.it) i u
  more_by others i u false is = inl (ap (λ b. if b then wakes_with u v else others.wakes i u) is ∙ sym (ap (λ b. if b then wakes_with u w else others.wakes i u) is))
  more_by others i u true is = by_watch sleeps.observer refl
    where
      now_is : (hands_then others).wakes i u ≡ wakes_with u v
      now_is = ap (λ b. if b then wakes_with u v else others.wakes i u) is

      was_is : (hands_of (with_worker others w)).wakes i u ≡ wakes_with u w
      was_is = ap (λ b. if b then wakes_with u w else others.wakes i u) is

      by_watch : (o : Watching Reply) → sleeps.observer ≡ o → ((hands_then others).wakes i u ≡ (hands_of (with_worker others w)).wakes i u) ⊎ WakesNap (hands_of (with_worker others w)) (hands_then others) (nap_of by.it) i u
      by_watch (sleep.Forwarded reply) some =
          let zero_of : count_by (λ (n : TaskNo). n.0 == u) (wakes_of sleeps.observer) ≡ 0 = ap (λ x. count_by (λ (n : TaskNo). n.0 == u) (wakes_of x)) some ∙ count_none (λ (n : TaskNo). n.0 == u) in
          inl (omega (arith, now_is, was_is, counted u, zero_of))
      by_watch (sleep.Local n) some = by_same (n.0 == u) refl
        where
          one_of : (b : Bool) → (n.0 == u) ≡ b → count_by (λ (n : TaskNo). n.0 == u) (wakes_of sleeps.observer) ≡ cond b 1 0
          one_of b same = ap (λ x. count_by (λ (n : TaskNo). n.0 == u) (wakes_of x)) some ∙ count_one (λ (n : TaskNo). n.0 == u) n b same

          its : Watches k (sleep.Local n) z
          its = subst (λ o. Watches k o z) some (sound.rooted.watches id sleeps z by.ends.was there)

          by_same : (b : Bool) → (n.0 == u) ≡ b → ((hands_then others).wakes i u ≡ (hands_of (with_worker others w)).wakes i u) ⊎ WakesNap (hands_of (with_worker others w)) (hands_then others) (nap_of by.it) i u
          by_same false other =
              inl (omega (arith, now_is, was_is, counted u, one_of false other))
          by_same true same =
              let more = counted u in
              let one = one_of true same in
              inr (record { more = omega (arith, now_is, was_is, more, one); worker = z_is.mine ∙ sym (same_number i w.index is); task = sym (ap (λ (x : TaskNo). x.0) its.0) ∙ same_number n.0 u same })

  paid : z.shown.wakes_paid ≡ 0
  paid =
      unpaid w.index w.names (driver_of w) zs zs' w.home.deferred left' s.requests.items s.sleepers.items id sleeps z (sleeper_closed z) (Err Closed) over sound.rooted by.ends.was by.ends.gone.others by.ends.gone.changed there z_is.mine z_is.unfired z_is.unremoved z_is.unclosed
      (apart w.index w.names (driver_of w) zs zs' s.requests.items s.sleepers.items id sleeps z sound.named sound.due.asleep by.ends.was by.ends.is by.ends.gone there short) refl by.ends.notes

  none_sent : z.sent ≡ false
  none_sent =
      unsent w.index w.names (driver_of w) zs zs' w.home.deferred left' s.requests.items s.sleepers.items id sleeps z (sleeper_closed z) (Err Closed) over sound.rooted by.ends.was by.ends.gone.others by.ends.gone.changed there z_is.mine z_is.unfired z_is.unremoved z_is.unclosed
      (apart w.index w.names (driver_of w) zs zs' s.requests.items s.sleepers.items id sleeps z sound.named sound.due.asleep by.ends.was by.ends.is by.ends.gone there short) refl by.ends.notes

  naps_then : map nap_of s'.sleepers.items ≡ slice_set (map nap_of s.sleepers.items) (number_in w.names.timers.items by.id.0) (record (nap_of by.it) { removed = true; closed = true })
  naps_then = grind (arith, items, map_set)

  pub holds : (q : Place) (others : Profile) → IsWhole (with_worker others w) s → IsHolding (hands_of (with_worker others (lets_to w v q))) s.config.workers (map holder_of s.tasks.items) (map thing_of s.requests.items) (map nap_of s'.sleepers.items) (map box_of s.seats.items)
  holds q others whole =
      let hs : List Holder = map holder_of s.tasks.items in
      let naps : List Nap = map nap_of s.sleepers.items in
      let at_nap : slice_get naps k ≡ Some (nap_of z) = mapped nap_of s.sleepers.items k z there in
      subst (λ ys. IsHolding (hands_then others) s.config.workers hs (map thing_of s.requests.items) ys (map box_of s.seats.items)) (sym naps_then)
      (holding_closed (hands_of (with_worker others w)) (hands_then others) s.config.workers hs (map thing_of s.requests.items) naps (map box_of s.seats.items) k (nap_of z) at_nap z_is.unfired (ap (λ b. b || z.closed) z_is.unremoved ∙ z_is.unclosed) paid none_sent
      (λ n it at awaits.
      let a = whole.holding.asleep n it k at awaits in
      waits_over others whole n it at (subst (MayHave s.config.workers it.home) (ap (λ (x : Nap). x.worker) (same_Some a.0 (nap_of z) (sym a.1 ∙ at_nap)) ∙ z_is.mine) a.2.near))
      (λ m. refl) (λ i u some. more_by others i u (i == w.index) refl) whole.holding)

  -- WHAT IS TOLD
  abbrev desk_by : List ℕ → List ℕ → Slots → Place → Desk
  desk_by ws cs ts q = record (desk_of w) { place = q; wakes = ws; completions = cs; timers = ts }

  vacated_so : slots_seen w.names.timers.items zs' ≡ vacated (number_in w.names.timers.items by.id.0) (slots_seen w.names.timers.items w.home.timers)
  vacated_so = ap (slots_seen w.names.timers.items) by.ends.is ∙ bed_vacated w.names.timers.items zs id bed

  pub told_seen : (q : Place) → record (told_of_fire (number_in w.names.timers.items by.id.0) by.it.shown (desk_of w)) { place = q } ≡ desk_of (lets_to w v q)
  told_seen q = by_watch sleeps.observer refl
    where
      d : Desk
      d = desk_of w

      by_applied : (b : Bool) → is_applied z.shown.forwarding ≡ b → record (told_of_fire k z.shown d) { place = q } ≡ (if b then desk_by d.wakes (d.completions ++ k ∷ []) (vacated k d.timers) q else desk_by (d.wakes ++ z.shown.task ∷ []) d.completions (vacated k d.timers) q)
      by_applied true is = rw is refl
      by_applied false is = rw is refl

      last : (ws cs : List ℕ) → map (λ (n : TaskNo). n.0) w'.home.deferred.notes.wakes.items ≡ ws → completions_in w'.home.deferred.notes.completions.items ≡ cs → desk_by ws cs (vacated k d.timers) q ≡ desk_of (lets_to w v q)
      last ws cs wakes completions = ap (λ x. desk_by x cs (vacated k d.timers) q) (sym wakes) ∙ ap (λ x. desk_by (map (λ (n : TaskNo). n.0) w'.home.deferred.notes.wakes.items) x (vacated k d.timers) q) (sym completions)
          ∙ ap (λ x. desk_by (map (λ (n : TaskNo). n.0) w'.home.deferred.notes.wakes.items) (completions_in w'.home.deferred.notes.completions.items) x q) (sym vacated_so)

      numbers : TaskNo → ℕ
      numbers n = n.0

      by_watch : (o : Watching Reply) → sleeps.observer ≡ o → record (told_of_fire k z.shown d) { place = q } ≡ desk_of (lets_to w v q)
      by_watch (sleep.Local n) is =
          let its : Watches k (sleep.Local n) z = subst (λ o. Watches k o z) is (sound.rooted.watches id sleeps z by.ends.was there) in
          by_applied false its.1
          ∙ last (d.wakes ++ z.shown.task ∷ []) d.completions
          (ap (map (λ (n : TaskNo). n.0)) (by.ends.notes.wakes_added ∙ ap (λ o. w.home.deferred.notes.wakes.items ++ wakes_of o) is) ∙ map-append (λ (n : TaskNo). n.0) w.home.deferred.notes.wakes.items (n ∷ []) ∙ ap (λ (x : TaskNo). d.wakes ++ x.0 ∷ []) its.0)
          (ap completions_in (by.ends.notes.completions_added ∙ ap (λ o. w.home.deferred.notes.completions.items ++ completions_of (Err Closed) o) is ∙ append-nil w.home.deferred.notes.completions.items))
      by_watch (sleep.Forwarded reply) is =
          let its : Watches k (sleep.Forwarded reply) z = subst (λ o. Watches k o z) is (sound.rooted.watches id sleeps z by.ends.was there) in
          by_applied true its.1
          ∙ last d.wakes (d.completions ++ k ∷ [])
          (ap (map (λ (n : TaskNo). n.0)) (by.ends.notes.wakes_added ∙ ap (λ o. w.home.deferred.notes.wakes.items ++ wakes_of o) is ∙ append-nil w.home.deferred.notes.wakes.items))
          (ap completions_in (by.ends.notes.completions_added ∙ ap (λ o. w.home.deferred.notes.completions.items ++ completions_of (Err Closed) o) is)
          ∙ map-append (λ (c : ForwardedResult Reply). number_heard c.sender.of) w.home.deferred.notes.completions.items (record { sender = reply; result = Err Closed } ∷ [])
          ∙ ap (λ (r : Reply). d.completions ++ number_heard r.of ∷ []) its.0)

  -- WHERE IT GOES ON
  closes_on : ClosesOn (driver_of v) w'.home.timers w'.place
  closes_on = subst (λ (x : Worker). ClosesOn (driver_of x) x.home.timers x.place) by.worker by.place

  module _ {L : Type 0} (left : B → L) (spot : L → Option Said → Spot) (p : Plan) (vs : Views) where
    abbrev cs : Common
    cs = common_of left spot p vs s

    seen : sleeper_of (common_of left spot p vs s) (number_in w.names.timers.items by.id.0) ≡ by.it.shown
    seen = sleeper_there left spot p vs (Place.Closing InClosing.CloseSleeper) w s sound k z there

    asleep_at : (j g : ℕ) (y : Sleeping Reply) → slice_get w.home.timers.slots j ≡ Some (Live g y) → is_asleep w.index (sleeper_of (common_of left spot p vs s) (number_at w.names.timers.items j)) ≡ true
    asleep_at j g y at = asleep_in left spot p vs (Place.Closing InClosing.CloseSleeper) w s sound (named_at j g) y (live_value zs j g y at)

    pub first_is_it : first_asleep w.index (common_of left spot p vs s) (desk_of w) ≡ Some (number_in w.names.timers.items by.id.0)
    first_is_it =
        first_is (λ y. is_asleep w.index (sleeper_of (common_of left spot p vs s) y)) w.names.timers.items zs id sleeps by.ends.was (ap (is_asleep w.index) seen ∙ z_is.sleeps)
        (λ j x less at live. none_before j x less at live)
      where
        none_before : (j : ℕ) (x : Slot (Sleeping Reply)) → j < id.index → slice_get zs.slots j ≡ Some x → is_live x ≡ true → is_asleep w.index (sleeper_of (common_of left spot p vs s) (number_at w.names.timers.items j)) ≡ false
        none_before j (Live g y) less at live = absurd (let no : None ≡ Some y = sym (by.lowest.none_below (named_at j g) less) ∙ live_value zs j g y at in cc)
        none_before j (Vacant g) less at live = absurd (false≢true live)
        none_before j Retired less at live = absurd (false≢true live)

    -- another that is there passes, and this one doesn't
    passes_other : (j g : ℕ) (y : Sleeping Reply) → slice_get w.home.timers.slots j ≡ Some (Live g y) → named_at j g ≢ by.id.0 → (not (number_at w.names.timers.items j == k) && is_asleep w.index (sleeper_of (common_of left spot p vs s) (number_at w.names.timers.items j))) ≡ true
    passes_other j g y at differs =
        let other : number_at w.names.timers.items j ≢ k = λ same.
        apart w.index w.names (driver_of w) zs zs' s.requests.items s.sleepers.items id sleeps z sound.named sound.due.asleep by.ends.was by.ends.is by.ends.gone there short (named_at j g) (subst IsSome (sym (live_value zs j g y at)) refl) differs (sym same) in
        ap (λ b. not b && is_asleep w.index (sleeper_of (common_of left spot p vs s) (number_at w.names.timers.items j))) (not_same (number_at w.names.timers.items j) k other) ∙ asleep_at j g y at

    fails_this : (j g : ℕ) → named_at j g ≡ by.id.0 → (not (number_at w.names.timers.items j == k) && is_asleep w.index (sleeper_of (common_of left spot p vs s) (number_at w.names.timers.items j))) ≡ false
    fails_this j g same = ap (λ (x : Id). not (number_in w.names.timers.items x == k) && is_asleep w.index (sleeper_of (common_of left spot p vs s) (number_in w.names.timers.items x))) same
        ∙ ap (λ b. not b && is_asleep w.index (sleeper_of (common_of left spot p vs s) k)) (eq-eqb k k refl)

    pub leads : (q : Place) → ClosesOn (driver_of v) w'.home.timers q → after_letting_go None (asleep_after w.index (number_in w.names.timers.items by.id.0) (common_of left spot p vs s) (desk_of w)) ≡ q
    leads q (ClosesOn.holds other first is) = absurd (false≢true (sym (sound.lets_go.0 other) ∙ first.held))
    leads q (ClosesOn.sleeps none some is) = ap (λ o. after_letting_go None o) found.1 ∙ sym is
      where
        it : (j : ℕ) × (g : ℕ) × (y : Sleeping Reply) × (slice_get w'.home.timers.slots j ≡ Some (Live g y))
        it = some_live w'.home.timers.slots some

        now : value_at w'.home.timers (named_at it.0 it.1) ≡ Some it.2
        now = live_value w'.home.timers it.0 it.1 it.2 it.3

        differs : named_at it.0 it.1 ≢ by.id.0
        differs same = let no : None ≡ Some it.2 = sym by.ends.gone.changed ∙ ap (value_at w'.home.timers) (sym same) ∙ now in absurd (cc)

        before : slice_get w.home.timers.slots it.0 ≡ Some (Live it.1 it.2)
        before = alive_at w.home.timers (named_at it.0 it.1) it.2 (sym (by.ends.gone.others (named_at it.0 it.1) differs) ∙ now)

        found : (n : ℕ) × (asleep_after w.index (number_in w.names.timers.items by.id.0) (common_of left spot p vs s) (desk_of w) ≡ Some n)
        found =
            first_any (λ y. not (y == k) && is_asleep w.index (sleeper_of (common_of left spot p vs s) y)) w.names.timers.items 0 w.home.timers.slots it.0 it.1 it.2 before
            (ap (λ n. not (number_at w.names.timers.items n == k) && is_asleep w.index (sleeper_of (common_of left spot p vs s) (number_at w.names.timers.items n))) (let e : 0 + it.0 ≡ it.0 = omega arith in e) ∙ passes_other it.0 it.1 it.2 before differs)
    leads q (ClosesOn.nothing none gone is) =
        ap (λ o. after_letting_go None o)
        (first_none (λ y. not (y == k) && is_asleep w.index (sleeper_of (common_of left spot p vs s) y)) w.names.timers.items 0 w.home.timers.slots
        (λ j g y at.
        ap (λ n. not (number_at w.names.timers.items n == k) && is_asleep w.index (sleeper_of (common_of left spot p vs s) (number_at w.names.timers.items n))) (let e : 0 + j ≡ j = omega arith in e)
        ∙ by_name (named_at j g) id
        (λ differs. absurd (none_live w'.home.timers (named_at j g) gone (subst IsSome (sym (by.ends.gone.others (named_at j g) differs ∙ live_value w.home.timers j g y at)) refl)))
        (fails_this j g)))
        ∙ sym is

module _ {B L : Type 0} (left : B → L) (spot : L → Option Said → Spot) (w w' : Worker) (s s' : Shared B) (e : Event) where
  pub sleeper_let_go : SoundAt (Place.Closing InClosing.CloseSleeper) w s → IsGoing w.index s.seats.items → ClosesSleeper w w' s s' e → Steps left spot w s e w' s'
  sleeper_let_go sound going by =
      let q : Place = w'.place in
      let x : Worker = v w w' s s' e sound by in
      let s1 : Shared B = t w w' s s' e sound by in
      let k : ℕ = number_in w.names.timers.items by.id.0 in
      let z = by.it in
      let spared = spares w w' s s' e sound by in
      let kept = keeps w w' s s' e sound by in
      let on = closes_on w w' s s' e sound by in
      let to : GoesTo q x s1 = goes_to q x s1 on in
      let there : slice_get s.sleepers.items k ≡ Some z = ap (slice_get s.sleepers.items) (sym by.number) ∙ by.sleeper in
      let items : s'.sleepers.items ≡ slice_set s.sleepers.items k (sleeper_closed z) = by.sleepers ∙ ap (λ n. slice_set s.sleepers.items n (sleeper_closed z)) by.number in
      let again : SoundAt q x s1 = sound_lets InClosing.CloseSleeper LetsAt.sleeper q w x s s1 sound going on spared kept in
      let beside : Beside w s x s1 = beside_lets InClosing.CloseSleeper LetsAt.sleeper q w x s s1 sound going on spared kept (holds w w' s s' e sound by q) sound.carried.room in
      let done : Steps left spot w s Turn x s1 = (
        (λ p vs suits.
            let cs = common_of left spot p vs s in
            let d = desk_of w in
            let xs = things_with vs s in
            let same_view = view_found vs w.index (visible w) suits.seen in
            let things : things_with vs s1 ≡ xs = ap (λ ns. record xs { alarms = ns }) (passing_same nap_sent s.sleepers.items s'.sleepers.items spared.sent) in
            let slept : map (λ (y : SleeperRecord). y.shown) s'.sleepers.items ≡ map (λ (y : SleeperRecord). y.shown) s.sleepers.items = ap (map (λ (y : SleeperRecord). y.shown)) items ∙ map_kept (λ (y : SleeperRecord). y.shown) s.sleepers.items k (sleeper_closed z) z there refl in
            let shown : sleeper_of cs k ≡ z.shown = sleeper_there left spot p vs (Place.Closing InClosing.CloseSleeper) w s sound k z there in
            let moved : close_sleeper w.index cs d ≡ record { event = Turn; choice = Plain; desk = desk_of x; thing = tt } =
            closes_found w.index cs d k (first_is_it w w' s s' e sound by left spot p vs)
            ∙ ap (λ y. turns y (told_of_fire k (sleeper_of cs k) d) tt) (leads w w' s s' e sound by left spot p vs q on)
            ∙ ap (λ y. turns q (told_of_fire k y d) tt) shown
            ∙ ap (λ y. record { event = Turn; choice = Plain; desk = y; thing = tt }) (told_seen w w' s s' e sound by q)
            in
            record {
              choice = Plain;
              moves =
                  subst (λ y. move_at p.config w.index (own_of w) cs d xs y ≡ record { event = Turn; choice = Plain; desk = desk_of x; thing = things_with (with_view vs w.index (visible x)) s1 }) (sym sound.here)
                  (ap (aside xs) moved ∙ ap (λ y. record { event = Turn; choice = Plain; desk = desk_of x; thing = y }) (sym things) ∙ ap (λ y. record { event = Turn; choice = Plain; desk = desk_of x; thing = things_with y s1 }) (sym same_view));
              may = tt;
              own = rw (sound.here, to.follows.polls, to.free, to.unserved, to.owes w.workers) refl;
              common = grind (arith, same_view, slept, sound.here);
            }),
        again,
        unheard refl refl refl,
        beside,
      ) in
      subst (λ y. Steps left spot w s y w' s') (sym by.event) (subst (λ y. Steps left spot w s Turn y s') (sym by.worker) (subst (λ y. Steps left spot w s Turn x y) (sym by.kept) done))
