-- A TASK IS CLEARED that a visit took out of the set, as a step of the machine: where nobody polls it, and it isn't over yet, it is
-- over by that, and lets go of what it holds. TaskClearing has the other case.
use Rattle.std.proofs.{Common.{arith, ◌≡◌, ◌⊎◌, ⊎_elim, ℕ, ◌<◌, ◌==◌, ◌&&◌, not, Bool, true, false, List, [], ◌++◌, length, map, Option, Some, None, IsSome, refl, sym, ap, subst, ◌∙◌, slice_get, slice_set, if◌then◌else◌}, lemmas.{Bool.false≢true, List.{get_or-set_same, length-map, map-set, set-set}, Option.slice_get_within}}
use Rattle.exec_task.specs.{Phases.{is_polled, cleared}, declared.{body.Said.Said, drain.Drain.Drain}}
use Rattle.exec_machine.specs.{declared.{event.Event.{Event, TheVariants.Clear}, state.{Letter.Letter, Next.Next, TaskPhase.TaskPhase}}, Choice.Choice.Plain, Closing.{ends_by_clear as machine_ends, with_cleared}, Progress.Plan, Tasks.{after_over, own_after_over, requests_after_drops, sleepers_after_waking_up}, Tests.is_empty, World.{Common, Own, Task, no_task, task_of}}
use Rattle.exec_moves.specs.{declared.{handing.AfterCancels.AfterCancels, place.{InClosing.InClosing, Place.Place}}, Close.{told_of_clear, visits_on as visits_desk}, Parts.{after_visit, cancels_left}, Seen.{next_at, polls_at, serves_at}, State.{Desk, Moved, Things}, Told.lets_go_all}
use Rattle.exec_parts.{specs.{Records.numbers_held, declared.parts.{record.Record.Record, shared.Shared.Shared, sleeping.SleeperRecord.SleeperRecord, task_slot.TaskSlot.TaskSlot, worker.Worker.Worker}, Ending.{ClearsTask, LetsGoAll, LetsGoOf, LetsWaiting, ends_by_clear, others_of}, Phased.{IsGoing, is_complete}, Pooled.cleared_slot, Spots.Spot, View.{Views, common_of, desk_of, letters_in, open_seen, own_of, owed_at, task_seen, things_with, visible, with_view}}, proofs.Facts.{same_Some, set_there}}
use Rattle.exec_invariants.{specs.{Carried.HasRoom, Gates.AreLinedUp, Holding.holder_of, HoldPlaces.has_wakes_at, Places.{drops_at, no_drops}, Sound.{HasLetters, SoundAt}, Whole.HasWhole, Works.{Beside, Steps, Suits, Works}}, proofs.{Hearing.hears_over, Keys.same_opens, Serving.SparesRecords, TaskOverPlaces.{IsQuiet, tells_past}, TaskOverActs.split_left, TaskOverFold.{HoldsAll, LetsSeen}, TaskOverGone.{AllGone, RemovesSeen, all_gone}, TaskOverLetters.{AreLetters, gone_holding, letters_fit}, TaskOverMay.keeps_tasks, TaskOverPolls.{gone_at, over_shared, over_worker}, TaskOverSeen.{desk_then, own_then, things_then, visible_then}, TaskOverSound.{IsAside, KeepsOwn, keeps_own, sound_let, sound_owing}, TaskOverWhole.{IsPast, spares_done}, Turning.view_found}}
use Rattle.exec_closing.proofs.{TaskClears.{ToClear, cleared_with, complete_cleared, ends_so, keeps_cleared, whole_cleared}, TaskClearing.{all_there, allows, asleep, ends, first_by, here_w, idle, items_mid, its, keeps_now, none, owes_visiting, sleepers_beside, slot_is, steps_on, tells_visiting, visits_aside, visits_drops, visits_past, visits_quiet, it as there_to_clear}}

module _ {B L : Type 0} (left : B → L) (spot : L → Option Said → Spot) (t : ℕ) (drain : Drain) (w : Worker) (s : Shared B) (sound : SoundAt (Place.Closing (InClosing.Clear t drain)) w s) (has : HasWhole w s) (going : IsGoing w.index s.seats.items) where
  -- what stands there
  abbrev it : ToClear t s
  it = there_to_clear left spot t drain w s sound has going

  module _ (w' : Worker) (s' : Shared B) (e : Event) (event : e ≡ Clear t) (clears : ClearsTask t drain w w' s s') where
    -- IT IS OVER BY THAT
    module _ (seen : LetsSeen B) (removes : RemovesSeen B) (ends_now : ends_by_clear it.slot ≡ true) where
      unpolled : is_polled it.slot.cell.phase ≡ false
      unpolled = (ends_so it.slot ends_now).0

      was_going : is_complete it.slot.cell.phase ≡ false
      was_going = (ends_so it.slot ends_now).1

      lets : LetsGoOf t w clears.v clears.mid s'
      lets = clears.over (ap ends_by_clear (slot_is left spot t drain w s sound has going w' s' e event clears) ∙ ends_now)

      there_mid : slice_get clears.mid.tasks.items t ≡ Some (cleared_slot it.slot)
      there_mid = ap (λ ts. slice_get ts t) (items_mid left spot t drain w s sound has going w' s' e event clears) ∙ set_there s.tasks.items t (cleared_slot it.slot) it.slot it.there

      held_is : lets.slot ≡ cleared_slot it.slot
      held_is = same_Some lets.slot (cleared_slot it.slot) (sym lets.there ∙ there_mid)

      first_is : lets.first ≡ record s { tasks = lets.first.tasks }
      first_is = lets.kept ∙ ap (λ (y : Shared B). record y { tasks = lets.first.tasks }) clears.cleared_is.kept

      gone_first : AllGone w.index it.slot.held.items it.slot.waiting clears.v.letters w lets.u lets.first s'
      gone_first =
          all_gone w.index it.slot.held.items it.slot.waiting clears.v.letters w lets.v lets.u lets.first lets.now s' seen removes refl (idle left spot t drain w s sound has going) (subst (λ (y : Shared B). AreLinedUp y.opens y.requests.items) (sym first_is) sound.gates)
          (keeps_tasks w s lets.first first_is (keeps_now left spot t drain w s sound has going)) (subst (λ (y : Shared B). HoldsAll it.slot.held.items y.requests.items) (sym first_is) (all_there left spot t drain w s sound has going).all)
          (subst (λ (o : TaskSlot B). LetsGoAll o.held.items w lets.v lets.first lets.now) held_is lets.lets) (subst (λ (o : TaskSlot B). LetsWaiting o.waiting clears.v.letters.timer lets.v lets.u lets.now s') held_is lets.sleeps)
          (lets.requests ∙ ap (λ (o : TaskSlot B). others_of w.index o.held.items) held_is)

      gone : AllGone w.index it.slot.held.items it.slot.waiting clears.v.letters w lets.u s (record s' { tasks = s.tasks })
      gone = gone_at w.index it.slot.held.items it.slot.waiting clears.v.letters w lets.u s lets.first s' first_is gone_first

      became : lets.slot' ≡ cleared_with lets.slot' it.slot
      became = lets.emptied ∙ ap (λ (o : TaskSlot B). record o { held = lets.slot'.held }) held_is

      items : s'.tasks.items ≡ slice_set s.tasks.items t (cleared_with lets.slot' it.slot)
      items = grind (arith, gone_first.kept, lets.tasks, items_mid left spot t drain w s sound has going w' s' e event clears, set-set s.tasks.items t (cleared_slot it.slot) lets.slot', became)

      shared_is : s' ≡ over_shared s'.tasks.items s' (record s' { tasks = s.tasks }) s
      shared_is = grind (arith, gone_first.kept, first_is)

      v_is : clears.v ≡ record lets.u { letters = clears.v.letters }
      v_is = lets.worker

      worker_is : w' ≡ over_worker (cancels_left (AfterCancels.Visit drain) (desk_of clears.v) (letters_in clears.v.letters)) clears.v.letters lets.u w
      worker_is = grind (arith, clears.worker, v_is, gone_first.worker)

      splits : ((letters_in clears.v.letters ≡ []) × (cancels_left (AfterCancels.Visit drain) (desk_of clears.v) (letters_in clears.v.letters) ≡ Place.Closing (after_visit drain))) ⊎ ((is_empty (letters_in clears.v.letters) ≡ false) × (cancels_left (AfterCancels.Visit drain) (desk_of clears.v) (letters_in clears.v.letters) ≡ Place.SendCancel (AfterCancels.Visit drain)))
      splits = split_left (AfterCancels.Visit drain) (desk_of clears.v) (letters_in clears.v.letters)

      by_split : (P : Place → Type 0) → P (Place.Closing (after_visit drain)) → P (Place.SendCancel (AfterCancels.Visit drain)) → P (cancels_left (AfterCancels.Visit drain) (desk_of clears.v) (letters_in clears.v.letters))
      by_split P stays tells = ⊎_elim (λ y. subst P (sym y.1) stays) (λ y. subst P (sym y.1) tells) splits

      past : IsPast (cancels_left (AfterCancels.Visit drain) (desk_of clears.v) (letters_in clears.v.letters))
      past = by_split IsPast (visits_past (drain.left == 0) drain) (tells_past (AfterCancels.Visit drain))

      aside : IsAside (cancels_left (AfterCancels.Visit drain) (desk_of clears.v) (letters_in clears.v.letters))
      aside = by_split IsAside (visits_aside (drain.left == 0) drain) (tells_visiting drain)

      quiet : IsQuiet (cancels_left (AfterCancels.Visit drain) (desk_of clears.v) (letters_in clears.v.letters))
      quiet = by_split IsQuiet (visits_quiet (drain.left == 0) drain) (record { unserved = refl; free = refl; unowed = λ n. refl })

      drops : drops_at (cancels_left (AfterCancels.Visit drain) (desk_of clears.v) (letters_in clears.v.letters)) ≡ no_drops
      drops = by_split (λ y. drops_at y ≡ no_drops) (visits_drops (drain.left == 0) drain) refl

      letters : AreLetters s.config.workers w.index clears.v.letters s.requests.items s.sleepers.items
      letters = letters_fit w.index t it.slot clears.v.letters w lets.u s s (record s' { tasks = s.tasks }) it.ordinary (all_there left spot t drain w s sound has going) gone refl (asleep left spot t drain w s sound has going)

      -- what holds
      spares_now : SparesRecords w.index s (record s { requests = s'.requests; sleepers = s'.sleepers })
      spares_now = subst (SparesRecords w.index s) gone.kept gone.spares

      sound_gone : SoundAt (cancels_left (AfterCancels.Visit drain) (desk_of clears.v) (letters_in clears.v.letters)) (over_worker (cancels_left (AfterCancels.Visit drain) (desk_of clears.v) (letters_in clears.v.letters)) clears.v.letters lets.u w) (over_shared s'.tasks.items s' (record s' { tasks = s.tasks }) s)
      sound_gone =
          let q' : Place = cancels_left (AfterCancels.Visit drain) (desk_of clears.v) (letters_in clears.v.letters) in
          let l = clears.v.letters in
          let v = lets.u in
          let now : Shared B = record s' { tasks = s.tasks } in
          let W' : Worker = over_worker q' l v w in
          let S1 : Shared B = record s { tasks = s'.tasks } in
          let S' : Shared B = over_shared s'.tasks.items s' now s in
          let spares1 : SparesRecords w.index S1 S' = assumption spares_now in
          let own : KeepsOwn v now = keeps_own (Place.Closing (InClosing.Clear t drain)) v now (ap (λ (y : Worker). y.place) gone.worker ∙ sound.here) refl refl gone.keeps in
          let own1 : KeepsOwn (record w { names = record w.names { ended = v.names.ended }; home = record w.home { driver = v.home.driver; timers = v.home.timers; deferred = v.home.deferred } }) (record s { requests = now.requests; sleepers = now.sleepers }) =
          subst (λ y. KeepsOwn (record w { names = record w.names { ended = v.names.ended }; home = record w.home { driver = v.home.driver; timers = v.home.timers; deferred = v.home.deferred } }) y) gone.kept (subst (λ y. KeepsOwn y now) gone.worker own) in
          let own2 : KeepsOwn W' S' = assumption own1 in
          let first : SoundAt (Place.Closing (after_visit drain)) (record w { place = Place.Closing (after_visit drain) }) S1 = first_by left spot t drain w s sound has going w' s' e event clears s' lets.slot' items in
          sound_let q' (record w { place = q'; letters = l }) W' S1 S' aside
          (⊎_elim
          (λ stays.
          let new : HasLetters false false w.index s.config.workers l s.requests.items s.sleepers.items = record { some = λ never. absurd (false≢true never); none = λ silent. stays.0; requests = letters.requests; timer = letters.timer } in
          let there : SoundAt (Place.Closing (after_visit drain)) (record w { place = Place.Closing (after_visit drain); letters = l }) S1 = assumption (new, first) in
          subst (λ y. SoundAt y (record w { place = y; letters = l }) S1) (sym stays.1) there)
          (λ tells. subst (λ y. SoundAt y (record w { place = y; letters = l }) S1) (sym tells.1)
          (sound_owing (Place.Closing (after_visit drain)) (AfterCancels.Visit drain) (record w { place = Place.Closing (after_visit drain) }) l S1 (owes_visiting drain) first sound.searching (sound.pooled refl) tells.0 letters.requests letters.timer))
          splits)
          refl refl spares1 own2

      beside_gone : Beside w s (over_worker (cancels_left (AfterCancels.Visit drain) (desk_of clears.v) (letters_in clears.v.letters)) clears.v.letters lets.u w) (over_shared s'.tasks.items s' (record s' { tasks = s.tasks }) s)
      beside_gone =
          let q' : Place = cancels_left (AfterCancels.Visit drain) (desk_of clears.v) (letters_in clears.v.letters) in
          let l = clears.v.letters in
          let W' : Worker = over_worker q' l lets.u w in
          let S' : Shared B = over_shared s'.tasks.items s' (record s' { tasks = s.tasks }) s in
          let slot' : TaskSlot B = cleared_with lets.slot' it.slot in
          let room : HasRoom s'.requests.items s.store = subst (λ (y : Shared B). HasRoom s'.requests.items y.store) gone.kept gone.keeps.carried.room in
          let still : lets.u.home.deferred.notes.wakes.items ≡ [] = gone.keeps.quiet (ap (λ (y : Worker). has_wakes_at y.place) gone.worker ∙ ap has_wakes_at sound.here) in
          let holder : holder_of slot' ≡ record (holder_of it.slot) { held = []; over = true } = ap (λ hs. record (holder_of it.slot) { held = hs; over = is_complete (cleared it.slot.cell).phase }) lets.none ∙ ap (λ b. record (holder_of it.slot) { held = []; over = b }) (complete_cleared it.slot unpolled) in
          record {
            spares = λ j other. spares_done w.index j t s S' it.slot slot' other it.there items (keeps_cleared lets.slot' it.slot) (λ home. absurd (let never : None ≡ Some j = sym it.ordinary ∙ home in cc)) (λ polled mine. false≢true (sym unpolled ∙ polled)) sound.homes refl spares_now room;
            whole = λ others whole.
                whole_cleared t drain q' l W' w s sound.here past drops others S' lets.slot' it items gone.spares.lines refl
                (gone_holding w.index t it.slot slot' w lets.u W' s s (record s' { tasks = s.tasks }) S' others it.there items holder was_going (λ some. absurd (false≢true (subst (λ o. IsSome o) it.ordinary some))) (none left spot t drain w s sound has going) (sound.quiet refl) still refl refl gone refl refl letters whole.holding) whole;
          }

      -- what the machine makes of it
      seen_gone : task_seen left spot (cleared_with lets.slot' it.slot) ≡ record (task_seen left spot it.slot) { cleared = true; phase = TaskPhase.Done; held = [] }
      seen_gone = over_seen it.slot lets.slot' unpolled (ap numbers_held lets.none)
        where
          over_seen : (slot o : TaskSlot B) → is_polled slot.cell.phase ≡ false → numbers_held o.held.items ≡ [] → task_seen left spot (cleared_with o slot) ≡ record (task_seen left spot slot) { cleared = true; phase = TaskPhase.Done; held = [] }
          over_seen slot o off nothing = rw (off, nothing) refl

      goes_true : (not (is_polled it.slot.cell.phase) && not (is_complete it.slot.cell.phase)) ≡ true
      goes_true = ap (λ b. not b && not (is_complete it.slot.cell.phase)) unpolled ∙ ap not was_going

      works_gone : (p : Plan) (vs : Views) → Suits p vs w s → Works left spot p vs w s (Clear t) (over_worker (cancels_left (AfterCancels.Visit drain) (desk_of clears.v) (letters_in clears.v.letters)) clears.v.letters lets.u w) (over_shared s'.tasks.items s' (record s' { tasks = s.tasks }) s)
      works_gone p vs suits =
          let q' : Place = cancels_left (AfterCancels.Visit drain) (desk_of clears.v) (letters_in clears.v.letters) in
          let l = clears.v.letters in
          let v = lets.u in
          let i = w.index in
          let c : Common = common_of left spot p vs s in
          let now : Shared B = record s' { tasks = s.tasks } in
          let seen_slot = task_seen left spot it.slot in
          let slot' : TaskSlot B = cleared_with lets.slot' it.slot in
          let W' : Worker = over_worker q' l v w in
          let wq : Worker = record w { place = Place.Closing (InClosing.Clear t drain) } in
          let at_task : task_of c t ≡ seen_slot = its left spot t drain w s sound has going w' s' e event clears p vs suits in
          let ends_it : machine_ends (task_of c t).phase ≡ true = ends left spot t drain w s sound has going w' s' e event clears p vs suits ∙ goes_true in
          let by : Desk → Moved Things = λ d. record { event = Clear t; choice = Plain; desk = d; thing = things_with vs s } in
          let desk : lets_go_all i c (task_of c t) (desk_of wq) ≡ desk_of clears.v =
          ap (λ y. lets_go_all i c y (desk_of wq)) at_task ∙ ap (λ y. lets_go_all i c seen_slot (desk_of y)) (here_w left spot t drain w s sound has going w' s' e event clears) ∙ desk_then left spot p vs t q' l w v s now s' it.slot slot' suits it.there items gone (none left spot t drain w s sound has going) ∙ ap desk_of (sym v_is) in
          let desk_all : visits_desk drain (told_of_clear i c (desk_of wq) (task_of c t)) ≡ desk_of W' = grind (arith, ends_it, desk, v_is, gone.worker) in
          let things = things_then left spot p vs t q' l w v s now s' it.slot slot' suits it.there items gone in
          subst (λ y. Works left spot p vs y s (Clear t) W' (over_shared s'.tasks.items s' now s)) (here_w left spot t drain w s sound has going w' s' e event clears) (record {
            choice = Plain;
            moves = ap by desk_all ∙ ap (λ y. record { event = Clear t; choice = Plain; desk = desk_of W'; thing = y }) (sym things);
            may = allows left spot t drain w s sound has going w' s' e event clears p vs suits;
            own = own_so p vs suits ∙ sym (ap (λ b. record (if b then own_after_over (own_of wq) c i t else own_of wq) { serving = false }) ends_it);
            common = common_so p vs suits ∙ sym (ap (λ b. if b then after_over (with_cleared c t) i t else with_cleared c t) ends_it);
          })
        where
          own_so : (p : Plan) (vs : Views) → Suits p vs w s
              → own_of (over_worker (cancels_left (AfterCancels.Visit drain) (desk_of clears.v) (letters_in clears.v.letters)) clears.v.letters lets.u w) ≡ record (own_after_over (own_of (record w { place = Place.Closing (InClosing.Clear t drain) })) (common_of left spot p vs s) w.index t) { serving = false }
          own_so p vs suits =
              let q' : Place = cancels_left (AfterCancels.Visit drain) (desk_of clears.v) (letters_in clears.v.letters) in
              let l = clears.v.letters in
              let v = lets.u in
              let c : Common = common_of left spot p vs s in
              let made : Option ℕ → Bool → Next → List Letter → Own = λ polls serving next owed. record (own_of v) { polls = polls; serving = serving; next = next; owed = owed } in
              let v_place : v.place ≡ Place.Closing (InClosing.Clear t drain) = ap (λ (y : Worker). y.place) gone.worker ∙ sound.here in
              let v_workers : v.workers ≡ w.workers = ap (λ (y : Worker). y.workers) gone.worker in
              ap own_of (ap (λ (y : Worker). record y { place = q'; letters = l }) (sym gone.worker))
              ∙ ap (λ o. made o (serves_at q') (next_at q') (owed_at v.workers q' ++ letters_in l)) past.polls
              ∙ ap (λ o. made None o (next_at q') (owed_at v.workers q' ++ letters_in l)) quiet.unserved
              ∙ ap (λ o. made None false o (owed_at v.workers q' ++ letters_in l)) quiet.free
              ∙ ap (λ o. made None false Next.Free (o ++ letters_in l)) (quiet.unowed v.workers)
              ∙ ap (λ y. made y false Next.Free (letters_in l)) (sym (ap polls_at v_place))
              ∙ ap (λ y. made (polls_at v.place) false y (letters_in l)) (sym (ap next_at v_place))
              ∙ ap (λ (y : Own). record y { serving = false }) (sym (own_then left spot p vs t q' l w v s (record s' { tasks = s.tasks }) s' it.slot (cleared_with lets.slot' it.slot) suits it.there items gone []))
              ∙ ap (λ (y : Worker). record (own_after_over (record (own_of y) { owed = [] }) c w.index t) { serving = false }) (sym (here_w left spot t drain w s sound has going w' s' e event clears))
              ∙ ap (λ ls. record (own_after_over (record (own_of (record w { place = Place.Closing (InClosing.Clear t drain) })) { owed = ls }) c w.index t) { serving = false }) (sym (none left spot t drain w s sound has going))

          common_so : (p : Plan) (vs : Views) → Suits p vs w s
              → common_of left spot p (with_view vs w.index (visible (over_worker (cancels_left (AfterCancels.Visit drain) (desk_of clears.v) (letters_in clears.v.letters)) clears.v.letters lets.u w))) (over_shared s'.tasks.items s' (record s' { tasks = s.tasks }) s) ≡ after_over (with_cleared (common_of left spot p vs s) t) w.index t
          common_so p vs suits =
              let q' : Place = cancels_left (AfterCancels.Visit drain) (desk_of clears.v) (letters_in clears.v.letters) in
              let l = clears.v.letters in
              let i = w.index in
              let c : Common = common_of left spot p vs s in
              let slot = it.slot in
              let marked : Task = record (task_seen left spot it.slot) { cleared = true } in
              let m : Task = record (task_of c t) { cleared = true } in
              let done : Task = record marked { phase = TaskPhase.Done; held = [] } in
              let at_task : task_of c t ≡ task_seen left spot it.slot = its left spot t drain w s sound has going w' s' e event clears p vs suits in
              let within : t < length c.tasks = rw length-map (slice_get_within s.tasks.items t it.slot it.there) in
              let after_mark : task_of (with_cleared c t) t ≡ marked = get_or-set_same c.tasks t m no_task within ∙ ap (λ (x : Task). record x { cleared = true }) at_task in
              let vis : with_view vs w.index (visible (over_worker q' l lets.u w)) ≡ vs = ap (with_view vs w.index) (visible_then left spot p vs t q' l w lets.u s (record s' { tasks = s.tasks }) s' it.slot (cleared_with lets.slot' it.slot) suits it.there items gone) ∙ view_found vs w.index (visible w) suits.seen in
              ap (λ us. common_of left spot p us (over_shared s'.tasks.items s' (record s' { tasks = s.tasks }) s)) vis
              ∙ ap (λ ts. record c { tasks = ts; requests = map (λ (r : Record). r.shown) s'.requests.items; sleepers = map (λ (z : SleeperRecord). z.shown) s'.sleepers.items; opens = map (open_seen s'.requests.items) s.opens })
              (ap (map (task_seen left spot)) items ∙ map-set (task_seen left spot) s.tasks.items t (cleared_with lets.slot' it.slot) ∙ ap (slice_set c.tasks t) seen_gone)
              ∙ ap (λ rs. record c { tasks = slice_set c.tasks t done; requests = rs; sleepers = map (λ (z : SleeperRecord). z.shown) s'.sleepers.items; opens = map (open_seen s'.requests.items) s.opens }) gone.shown
              ∙ ap (λ zs. record c { tasks = slice_set c.tasks t done; requests = requests_after_drops i (numbers_held slot.held.items) c.requests; sleepers = zs; opens = map (open_seen s'.requests.items) s.opens }) (gone.slept c refl)
              ∙ ap (λ os. record c { tasks = slice_set c.tasks t done; requests = requests_after_drops i (numbers_held slot.held.items) c.requests; sleepers = sleepers_after_waking_up c i slot.waiting; opens = os }) (same_opens s.requests.items s'.requests.items gone.names s.opens)
              ∙ ap (λ ts. record c { tasks = ts; requests = requests_after_drops i (numbers_held slot.held.items) c.requests; sleepers = sleepers_after_waking_up c i slot.waiting }) (sym (set-set c.tasks t m done))
              ∙ ap (λ zs. record c { tasks = slice_set (slice_set c.tasks t m) t done; requests = requests_after_drops i (numbers_held slot.held.items) c.requests; sleepers = zs }) (sym (sleepers_beside c (slice_set c.tasks t m) i slot.waiting))
              ∙ ap (λ (y : Task). record c { tasks = slice_set (slice_set c.tasks t m) t (record y { phase = TaskPhase.Done; held = [] }); requests = requests_after_drops i y.held c.requests; sleepers = sleepers_after_waking_up (record c { tasks = slice_set c.tasks t m }) i y.waiting }) (sym after_mark)

      steps_gone : Steps left spot w s e w' s'
      steps_gone =
          let W' : Worker = over_worker (cancels_left (AfterCancels.Visit drain) (desk_of clears.v) (letters_in clears.v.letters)) clears.v.letters lets.u w in
          let S' : Shared B = over_shared s'.tasks.items s' (record s' { tasks = s.tasks }) s in
          let steps : Steps left spot w s (Clear t) W' S' = (works_gone, sound_gone, hears_over t it.slot (cleared_with lets.slot' it.slot) refl refl it.there items (complete_cleared it.slot unpolled), beside_gone) in
          subst (Steps left spot w s e w') (sym shared_is) (subst (λ y. Steps left spot w s e y S') (sym worker_is) (subst (λ y. Steps left spot w s y W' S') (sym event) steps))

    pub task_cleared : LetsSeen B → RemovesSeen B → Steps left spot w s e w' s'
    task_cleared seen removes = by (ends_by_clear it.slot) refl
      where
        by : (b : Bool) → ends_by_clear it.slot ≡ b → Steps left spot w s e w' s'
        by true is = steps_gone seen removes is
        by false is = steps_on left spot t drain w s sound has going w' s' e event clears is
