-- A TASK IS CLEARED that a visit took out of the set: it may be, what the machine sees of it, and the step where it isn't over by that.
use Rattle.std.proofs.{Common.{◌≡◌, ℕ, ◌<◌, ◌==◌, ◌&&◌, not, Bool, true, false, List, [], ◌∷◌, length, map, Option, Some, None, refl, sym, ap, subst, ◌∙◌, slice_get, slice_set, if◌then◌else◌, arith}, lemmas.{Bool.false≢true, List.map-set, Option.slice_get_within}, Math.Bool.and-false}
use Rattle.exec_base.specs.Slab.{Slab}
use Rattle.exec_time.specs.declared.timers.Sleeper.{Sleeper as Sleeping}
use Rattle.exec_waiters.specs.declared.waiter.Entry.{Entry}
use Rattle.exec_task.specs.{Phases.{is_polled, cleared}, TaskSet.IsFor, declared.{body.Said.Said, drain.Drain.Drain, task.Phase.Phase}}
use Rattle.exec_machine.specs.{declared.{event.Event.{Event, TheVariants.Clear}, state.{Letter.Letter, Next.Next, TaskPhase.TaskPhase, Waiting.Waiting}}, Choice.Choice.Plain, Closing.ends_by_clear as machine_ends, Progress.Plan, Same.is_none, Tasks.sleepers_after_waking_up, Tests.{is_at_large, is_closing, AllTrue}, World.{Common, Own, Task, seat_of, task_of}}
use Rattle.exec_moves.specs.{declared.{handing.AfterCancels.AfterCancels, place.{InClosing.InClosing, Place.Place}}, Close.{told_of_clear, visits_on as visits_desk}, Parts.{after_visit, cancels_left}, State.{Desk, Moved, Things, goes}, Told.lets_go_all}
use Rattle.exec_parts.{specs.{declared.parts.{mail.Reply.Reply, shared.Shared.Shared, sleeping.SleeperRecord.SleeperRecord, task_slot.TaskSlot.TaskSlot, worker.Worker.Worker}, Ending.{ClearsTask, MayClear, ends_by_clear}, Phased.{HasPassed, IsGoing, IsPrepared, closes_at, has_left, has_shut, has_stopped, is_complete, root_over}, Pooled.cleared_slot, Spots.Spot, View.{Views, common_of, desk_of, driver_of, letters_in, own_of, phase_seen, spot_by, task_seen, things_with, visible, with_view}}, proofs.Facts.{same_number, same_Some, set_there}}
use Rattle.exec_invariants.{proofs.{Showing.map_kept, Closes.{follows_in, now_closing, root_there}, ClosesPool.stays, Dedicated.chair_of_pool, Hearing.{hears_over, hears_so}, Here.going_on, Lined.{lines_same, unmapped}, PoolShards.all_passed, Seats.own_seat, ServingHolds.Keeps, Shutting.sound_closing, Slots.spares_slot, TaskOverPlaces.IsQuiet, TaskOverFold.{HoldsAll, LetsSeen}, TaskOverLetters.no_letters, TaskOverMay.{HasAll, has_all, keeps_tasks, may_let_go}, TaskOverSound.{IsAside, IsOwing, own_keeps}, TaskOverWhole.IsPast, Turning.view_found, TaskTakes.holder_there}, specs.{Hearing.StillHears, Gates.AreLinedUp, Holding.{IsHolding, MayHave, Nap, awaited_in, box_of, holder_of, nap_of, thing_of}, Places.{drops_at, no_drops}, Sound.{Aims, HasBatch, LetsGo, SoundAt, served_in}, Whole.{HasWhole, hands_of, with_worker}, Works.{Beside, Steps, Suits, Works}}}
use Rattle.exec_closing.proofs.{Parting.stopped_now, TaskClears.{ToClear, body_again, cleared_with, complete_cleared, ends_not, going_cleared, keeps_cleared, sound_beside, spares_cleared, to_clear, whole_cleared}, Visiting.positive}

-- WHERE A DRAIN GOES ON

abbrev visit_by : Bool → Drain → InClosing
visit_by b x = if b then InClosing.LeaveBarrier else InClosing.Visit x

pub visits_past : (b : Bool) (x : Drain) → IsPast (Place.Closing (visit_by b x))
visits_past true x = record { polls = refl; claims = refl; counts = refl; published = refl; clears = refl; passes = refl; joins = refl }
visits_past false x = record { polls = refl; claims = refl; counts = refl; published = refl; clears = refl; passes = refl; joins = refl }

pub visits_aside : (b : Bool) (x : Drain) → IsAside (Place.Closing (visit_by b x))
visits_aside true x = record { spare = refl; wakes = refl; served = refl; bare = refl; polls = refl; calls = refl; heard = refl; lets = λ requests zs is. absurd (false≢true is) }
visits_aside false x = record { spare = refl; wakes = refl; served = refl; bare = refl; polls = refl; calls = refl; heard = refl; lets = λ requests zs is. absurd (false≢true is) }

pub visits_quiet : (b : Bool) (x : Drain) → IsQuiet (Place.Closing (visit_by b x))
visits_quiet true x = record { unserved = refl; free = refl; unowed = λ n. refl }
visits_quiet false x = record { unserved = refl; free = refl; unowed = λ n. refl }

pub visits_drops : (b : Bool) (x : Drain) → drops_at (Place.Closing (visit_by b x)) ≡ no_drops
visits_drops true x = refl
visits_drops false x = refl

visits_let : (b : Bool) (x : Drain) (requests : Slab (Entry Reply Reply)) (zs : Slab (Sleeping Reply)) → LetsGo (Some (visit_by b x)) false requests zs
visits_let true x requests zs = λ is. absurd (false≢true is)
visits_let false x requests zs = λ is. absurd (false≢true is)

pub tells_visiting : (x : Drain) → IsAside (Place.SendCancel (AfterCancels.Visit x))
tells_visiting x = record { spare = refl; wakes = refl; served = refl; bare = refl; polls = refl; calls = refl; heard = refl; lets = visits_let (x.left == 0) x }

pub owes_visiting : (x : Drain) → IsOwing (Place.Closing (after_visit x)) (AfterCancels.Visit x)
owes_visiting = grind arith

-- it lets go of sleepers whether it was cleared or not
pub sleepers_beside : (c : Common) (ts : List Task) (i : ℕ) (u : Waiting) → sleepers_after_waking_up (record c { tasks = ts }) i u ≡ sleepers_after_waking_up c i u
sleepers_beside = grind arith

module _ {B L : Type 0} (left : B → L) (spot : L → Option Said → Spot) (t : ℕ) (drain : Drain) (w : Worker) (s : Shared B) (sound : SoundAt (Place.Closing (InClosing.Clear t drain)) w s) (has : HasWhole w s) (going : IsGoing w.index s.seats.items) where
  abbrev p0 : Place
  p0 = Place.Closing (InClosing.Clear t drain)

  abbrev q0 : Place
  q0 = Place.Closing (after_visit drain)

  pub it : ToClear t s
  it = to_clear t drain w s sound has

  pub none : letters_in w.letters ≡ []
  none = sound.letters.none refl

  pub idle : served_in w.place ≡ None
  idle = ap served_in sound.here

  pub keeps_now : Keeps w s
  keeps_now = own_keeps (Place.Closing (InClosing.Clear t drain)) w s refl refl refl sound

  pub all_there : HasAll t it.slot s
  all_there = has_all t w s it.slot has.others has.whole it.there

  -- what it sleeps for
  pub asleep : (n : ℕ) → it.slot.waiting ≡ Waiting.Timer n → (z : SleeperRecord) × (slice_get s.sleepers.items n ≡ Some z) × (z.shown.worker < s.config.workers)
  asleep n is =
      let a = has.whole.holding.asleep t (holder_of it.slot) n (holder_there s.tasks.items t it.slot it.there) (ap awaited_in is) in
      let z = unmapped nap_of s.sleepers.items n a.0 a.1 in
      (z.0, z.1, subst (λ m. m < s.config.workers) (ap (λ (y : Nap). y.worker) (sym z.2)) (subst (λ o. MayHave s.config.workers o a.0.worker) it.ordinary a.2.near))

  -- WHERE IT MAY BE CLEARED
  pub may_clear : LetsSeen B → MayClear t w s
  may_clear seen =
      record {
        there = slice_get_within s.tasks.items t it.slot it.there;
        lets = λ slot found ends mid turns.
            let is : slot ≡ it.slot = same_Some slot it.slot (sym found ∙ it.there) in
            let there : slice_get mid.tasks.items t ≡ Some (cleared_slot slot) = ap (λ ts. slice_get ts t) (turns.tasks slot found) ∙ set_there s.tasks.items t (cleared_slot slot) slot found in
            may_let_go t w mid (cleared_slot slot) seen idle (subst (λ (y : Shared B). AreLinedUp y.opens y.requests.items) (sym turns.kept) sound.gates) there (keeps_tasks w s mid turns.kept keeps_now)
            (subst (λ (y : Shared B). HoldsAll slot.held.items y.requests.items) (sym turns.kept) (subst (λ (o : TaskSlot B). HoldsAll o.held.items s.requests.items) (sym is) all_there.all)) (no_letters w.letters none).0 (no_letters w.letters none).1
            (λ z waits. let a = asleep z (ap (λ (o : TaskSlot B). o.waiting) (sym is) ∙ waits) in subst (λ (y : Shared B). z < length y.sleepers.items) (sym turns.kept) (slice_get_within s.sleepers.items z a.0 a.1));
      }

  -- THE STEP

  module _ (w' : Worker) (s' : Shared B) (e : Event) (event : e ≡ Clear t) (clears : ClearsTask t drain w w' s s') where
    pub slot_is : clears.slot ≡ it.slot
    slot_is = same_Some clears.slot it.slot (sym clears.there ∙ it.there)

    pub items_mid : clears.mid.tasks.items ≡ slice_set s.tasks.items t (cleared_slot it.slot)
    items_mid = clears.cleared_is.tasks it.slot it.there

    -- it is sound where it goes on, with this of the slot
    pub first_by : (ts : Shared B) (o : TaskSlot B) → ts.tasks.items ≡ slice_set s.tasks.items t (cleared_with o it.slot) → SoundAt (Place.Closing (after_visit drain)) (record w { place = Place.Closing (after_visit drain) }) (record s { tasks = ts.tasks })
    first_by ts o items = by (drain.left == 0) refl
      where
        prepared : IsFor drain s.set × HasPassed drain s.set
        prepared = (sound.phased sound.seated.seat sound.seated.there).prepared

        stopped : s.stopped ≡ true
        stopped = stopped_now (InClosing.Clear t drain) w s sound refl refl (sound.pooled refl)

        leads : (y : InClosing) → has_left true (Some y) ≡ false → has_shut true (Some y) ≡ false → has_stopped true (Some y) ≡ true → closes_at (Place.Closing y) ≡ true → root_over true (Some y) ≡ true → IsPrepared (Some y) w.names.unreleased s.set → Aims (Place.Closing y) s.config w.index s.seats.items → IsAside (Place.Closing y) → HasBatch (Place.Closing y) w.batch.values
            → SoundAt (Place.Closing y) (record w { place = Place.Closing y }) (record s { tasks = ts.tasks })
        leads y leaves shuts stops closes over ready aims aside batch =
            sound_beside y t (record w { place = Place.Closing y }) s ts o it
            (sound_closing (InClosing.Clear t drain) (Place.Closing y) w.home.closing w.batch w.processed w s s sound (follows_in y)
            (stays left spot w w s s e (InClosing.Clear t drain) y sound going refl refl refl refl refl leaves shuts (λ zero. stopped ∙ sym stops) (λ h. h) (Place.Closing y) closes refl refl over ready refl refl (aside.lets (driver_of w).requests w.home.timers) batch aims))
            items

        by : (b : Bool) → (drain.left == 0) ≡ b → SoundAt (Place.Closing (visit_by b drain)) (record w { place = Place.Closing (visit_by b drain) }) (record s { tasks = ts.tasks })
        by true is = leads InClosing.LeaveBarrier refl refl refl refl refl (all_passed drain s.set prepared.0 (same_number drain.left 0 is) prepared.1) tt (visits_aside true drain) (λ is. absurd (false≢true is))
        by false is = leads (InClosing.Visit drain) refl refl refl refl refl (prepared.0, positive drain.left is, prepared.1) tt (visits_aside false drain) (λ is. absurd (false≢true is))

    -- WHAT THE MACHINE SEES

    ends_seen : (p : Phase B) (i : ℕ) → machine_ends (phase_seen p i) ≡ (not (is_polled p) && not (is_complete p))
    ends_seen (Phase.Idle b) i = refl
    ends_seen (Phase.Queued b) i = refl
    ends_seen Phase.Running i = refl
    ends_seen Phase.Notified i = refl
    ends_seen Phase.Complete i = refl

    -- it may
    module _ (p : Plan) (vs : Views) (suits : Suits p vs w s) where
      abbrev c : Common
      c = common_of left spot p vs s

      pub its : task_of c t ≡ task_seen left spot it.slot
      its = root_there left spot p vs s t it.slot it.there

      pub ends : machine_ends (task_of c t).phase ≡ (not (is_polled it.slot.cell.phase) && not (is_complete it.slot.cell.phase))
      ends = ap (λ (y : Task). machine_ends y.phase) its ∙ ends_seen it.slot.cell.phase it.slot.poller

      pub allows : AllTrue (is_at_large (own_of (record w { place = p0 })) ∷ is_closing (seat_of c w.index).phase ∷ (seat_of c w.index).pool ∷ not (seat_of c w.index).left ∷ c.stopped ∷ is_none (task_of c t).home ∷ not (task_of c t).cleared ∷ [])
      allows =
          let mine = own_seat left spot p vs w s sound.seated.seat suits sound.seated.there in
          let phased = sound.phased sound.seated.seat sound.seated.there in
          let pool : sound.seated.seat.pool ≡ true = chair_of_pool (Place.Closing (InClosing.Clear t drain)) w s sound sound.seated.seat sound.seated.there ∙ sound.pooled refl in (
            ap (λ ls. is_at_large (record (own_of (record w { place = p0 })) { owed = ls })) none,
            (
              ap (λ y. is_closing y.phase) mine ∙ now_closing sound.seated.seat.phase phased.opened (going sound.seated.seat sound.seated.there),
              (
                ap (λ y. y.pool) mine ∙ pool,
                (
                  ap (λ y. not y.left) mine ∙ ap not (phased.left ∙ and-false sound.seated.seat.pool),
                  (
                    stopped_now (InClosing.Clear t drain) w s sound refl refl (sound.pooled refl),
                    (
                      ap (λ (y : Task). is_none y.home) its ∙ ap is_none it.ordinary,
                      (
                        ap (λ (y : Task). not y.cleared) its ∙ ap not it.uncleared,
                        tt,
                      ),
                    ),
                  ),
                ),
              ),
            ),
          )

    pub here_w : record w { place = p0 } ≡ w
    here_w = ap (λ y. record w { place = y }) (sym sound.here)

    -- IT ISN'T OVER BY THAT: polled now, or over before
    module _ (ends_no : ends_by_clear it.slot ≡ false) where
      still : (clears.v ≡ w) × (s' ≡ clears.mid)
      still = clears.still (ap ends_by_clear slot_is ∙ ends_no)

      items_on : s'.tasks.items ≡ slice_set s.tasks.items t (cleared_with it.slot it.slot)
      items_on = ap (λ (y : Shared B). y.tasks.items) still.1 ∙ items_mid

      shared_on : s' ≡ record s { tasks = s'.tasks }
      shared_on = still.1 ∙ clears.cleared_is.kept ∙ ap (λ (y : Shared B). record s { tasks = y.tasks }) (sym still.1)

      worker_on : w' ≡ record w { place = q0 }
      worker_on = clears.worker ∙ ap (λ (y : Worker). record y { place = cancels_left (AfterCancels.Visit drain) (desk_of y) (letters_in y.letters) }) still.0 ∙ ap (λ ls. record w { place = cancels_left (AfterCancels.Visit drain) (desk_of w) ls }) none

      goes_not : (not (is_polled it.slot.cell.phase) && not (is_complete it.slot.cell.phase)) ≡ false
      goes_not = by (is_polled it.slot.cell.phase) refl
        where
          by : (b : Bool) → is_polled it.slot.cell.phase ≡ b → (not (is_polled it.slot.cell.phase) && not (is_complete it.slot.cell.phase)) ≡ false
          by true is = ap (λ b. not b && not (is_complete it.slot.cell.phase)) is
          by false is = ap (λ b. not b && not (is_complete it.slot.cell.phase)) is ∙ ap not (ends_not it.slot ends_no is)

      phase_same : phase_seen (cleared it.slot.cell).phase it.slot.poller ≡ phase_seen it.slot.cell.phase it.slot.poller
      phase_same = by (is_polled it.slot.cell.phase) refl
        where
          done_seen : (p : Phase B) (i : ℕ) → is_complete p ≡ true → phase_seen p i ≡ TaskPhase.Done
          done_seen (Phase.Idle b) i h = absurd (false≢true h)
          done_seen (Phase.Queued b) i h = absurd (false≢true h)
          done_seen Phase.Running i h = absurd (false≢true h)
          done_seen Phase.Notified i h = absurd (false≢true h)
          done_seen Phase.Complete i h = refl

          by : (b : Bool) → is_polled it.slot.cell.phase ≡ b → phase_seen (cleared it.slot.cell).phase it.slot.poller ≡ phase_seen it.slot.cell.phase it.slot.poller
          by true is = rw is refl
          by false is = done_seen (cleared it.slot.cell).phase it.slot.poller (complete_cleared it.slot is) ∙ sym (done_seen it.slot.cell.phase it.slot.poller (ends_not it.slot ends_no is))

      seen_on : task_seen left spot (cleared_with it.slot it.slot) ≡ record (task_seen left spot it.slot) { cleared = true }
      seen_on =
          ap (λ b. record (task_seen left spot (cleared_with it.slot it.slot)) {
            code = (spot_by left spot b it.slot.told).code;
            place = (spot_by left spot b it.slot.told).place;
            adapters = (spot_by left spot b it.slot.told).adapters;
            call = (spot_by left spot b it.slot.told).call;
          }) (body_again it.slot)
          ∙ ap (λ y. record (task_seen left spot it.slot) { phase = y; cleared = true }) phase_same

      works_on : (p : Plan) (vs : Views) → Suits p vs w s → Works left spot p vs w s (Clear t) (record w { place = q0 }) (record s { tasks = s'.tasks })
      works_on p vs suits =
          let i = w.index in
          let c : Common = common_of left spot p vs s in
          let wq : Worker = record w { place = Place.Closing (InClosing.Clear t drain) } in
          let no_end : machine_ends (task_of c t).phase ≡ false = ends p vs suits ∙ goes_not in
          let again = view_found vs w.index (visible w) suits.seen in
          let by : Desk → Moved Things = λ d. record { event = Clear t; choice = Plain; desk = d; thing = things_with vs s } in
          let desk : visits_desk drain (told_of_clear i c (desk_of wq) (task_of c t)) ≡ desk_of (record w { place = q0 }) =
          ap (λ b. visits_desk drain (if b then lets_go_all i c (task_of c t) (desk_of wq) else desk_of wq)) no_end ∙ ap (λ ls. goes (cancels_left (AfterCancels.Visit drain) (desk_of wq) ls) (desk_of wq)) none in
          let things : things_with (with_view vs w.index (visible w)) (record s { tasks = s'.tasks }) ≡ things_with vs s = ap (λ v. things_with v s) again in
          let made : Option ℕ → Bool → Next → List Letter → Own = λ polls serving next owed. record (own_of wq) { polls = polls; serving = serving; next = next; owed = owed } in
          let quiet = visits_quiet (drain.left == 0) drain in
          let tasks : map (task_seen left spot) s'.tasks.items ≡ slice_set c.tasks t (record (task_of c t) { cleared = true }) =
          ap (map (task_seen left spot)) items_on ∙ map-set (task_seen left spot) s.tasks.items t (cleared_with it.slot it.slot) ∙ ap (slice_set c.tasks t) seen_on ∙ ap (λ (y : Task). slice_set c.tasks t (record y { cleared = true })) (sym (its p vs suits)) in
          subst (λ y. Works left spot p vs y s (Clear t) (record w { place = q0 }) (record s { tasks = s'.tasks })) here_w (record {
            choice = Plain;
            moves = ap by desk ∙ ap (λ y. record { event = Clear t; choice = Plain; desk = desk_of (record w { place = q0 }); thing = y }) (sym things);
            may = allows p vs suits;
            own = grind (arith, (visits_past (drain.left == 0) drain).polls, quiet.unserved, quiet.free, quiet.unowed w.workers, no_end);
            common = grind (arith, again, tasks, no_end);
          })

      hears_on : StillHears w s (record w { place = q0 }) (record s { tasks = s'.tasks })
      hears_on = by (is_polled it.slot.cell.phase) refl
        where
          by : (b : Bool) → is_polled it.slot.cell.phase ≡ b → StillHears w s (record w { place = q0 }) (record s { tasks = s'.tasks })
          by true is = hears_so t it.slot (cleared_with it.slot it.slot) refl refl it.there items_on (record { home = refl; body = body_again it.slot; told = λ answer h. (h, refl); going = λ h. going_on it.slot.cell.phase is })
          by false is = hears_over t it.slot (cleared_with it.slot it.slot) refl refl it.there items_on (complete_cleared it.slot is)

      over_same : is_complete (cleared it.slot.cell).phase ≡ is_complete it.slot.cell.phase
      over_same = by (is_polled it.slot.cell.phase) refl
        where
          by : (b : Bool) → is_polled it.slot.cell.phase ≡ b → is_complete (cleared it.slot.cell).phase ≡ is_complete it.slot.cell.phase
          by true is = going_cleared it.slot is ∙ sym (going_on it.slot.cell.phase is)
          by false is = complete_cleared it.slot is ∙ sym (ends_not it.slot ends_no is)

      holders_on : map holder_of s'.tasks.items ≡ map holder_of s.tasks.items
      holders_on = ap (map holder_of) items_on ∙ map_kept holder_of s.tasks.items t (cleared_with it.slot it.slot) it.slot it.there (ap (λ b. record (holder_of it.slot) { over = b }) over_same)

      beside_on : Beside w s (record w { place = q0 }) (record s { tasks = s'.tasks })
      beside_on =
          record {
            spares = λ j other. spares_slot w.index j t s s' it.slot (cleared_with it.slot it.slot) other it.there items_on (keeps_cleared it.slot it.slot) (λ home. absurd (let never : None ≡ Some j = sym it.ordinary ∙ home in cc)) (λ polled mine. spares_cleared it.slot polled) sound.homes;
            whole = λ others whole.
                whole_cleared t drain q0 w.letters w w s sound.here (visits_past (drain.left == 0) drain) (visits_drops (drain.left == 0) drain) others (record s { tasks = s'.tasks }) it.slot it items_on (lines_same s.requests.items s.requests.items refl) refl
                (subst (λ hs. IsHolding (hands_of (with_worker others w)) s.config.workers hs (map thing_of s.requests.items) (map nap_of s.sleepers.items) (map box_of s.seats.items)) (sym holders_on) whole.holding) whole;
          }

      pub steps_on : Steps left spot w s e w' s'
      steps_on =
          let steps : Steps left spot w s (Clear t) (record w { place = q0 }) (record s { tasks = s'.tasks }) = (works_on, first_by s' it.slot items_on, hears_on, beside_on) in
          subst (λ y. Steps left spot w s e w' y) (sym shared_on) (subst (λ y. Steps left spot w s e y (record s { tasks = s'.tasks })) (sym worker_on) (subst (λ y. Steps left spot w s y (record w { place = q0 }) (record s { tasks = s'.tasks })) (sym event) steps))
