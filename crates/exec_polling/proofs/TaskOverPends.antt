-- A POLL ENDS of a task that was cleared meanwhile: the task is over by that.
use Rattle.std.proofs.{Common.{arith, ◌≡◌, ◌≢◌, ◌⊎◌, inl, inr, ⊎_elim, ℕ, ◌<◌, ◌==◌, Bool, true, false, List, [], ◌++◌, length, Option, Some, None, IsSome, refl, sym, ap, subst, ◌∙◌, slice_get, slice_set, if◌then◌else◌}, lemmas.{Bool.{false≢true, eq-eqb}, List.set-set, Option.slice_get_within}}
use Rattle.exec_task.specs.{Phases.over as cell_over, declared.body.Said.Said}
use Rattle.exec_machine.specs.{declared.{event.Event.{Event, TheVariants.Pend}, state.{Letter.Letter, Next.Next, TaskPhase.TaskPhase, Waiting.Waiting}}, Choice.Choice.Plain, Progress.Plan, Same.is_number, Tasks.{after_over, may_stop, own_after_over, pended_phase, unpolled}, Tests.{is_empty, is_settled}, World.{Own, Task, task_of}}
use Rattle.exec_moves.specs.{declared.{handing.AfterCancels.AfterCancels, place.{InPick.InPick, InPoll.InPoll, Place.Place}}, Parts.cancels_left, Poll.{after_pend}, Seen.{next_at, serves_at}, State.{Desk, Moved, Things}, Told.lets_go_all}
use Rattle.exec_parts.{specs.{Records.numbers_held, declared.parts.{shared.Shared.Shared, sleeping.SleeperRecord.SleeperRecord, task_slot.TaskSlot.TaskSlot, worker.Worker.Worker}, Ending.{LetsGoAll, LetsGoOf, LetsWaiting, MayLetGoOf, PendsTask, others_of}, Phased.is_complete, Polls.pended_slot, Spots.Spot, View.{Views, common_of, desk_of, letters_in, own_of, owed_at, spot_by, task_seen, things_with}, Things.TurnsSlot}, proofs.Facts.{same_Some, set_there}}
use Rattle.exec_invariants.{specs.{Gates.AreLinedUp, Holding.{MayHave, Nap, awaited_in, holder_of, nap_of}, HoldPlaces.sends_cancel_at, Places.{hands_on_at, removes_at, step_of_poll}, Sound.{HasGuest, IsInHand, MayStop, SoundAt, Stops, may_end, served_in}, Whole.HasWhole, Works.{Steps, Suits, Works}}, proofs.{Hearing.hears_over, Here.IsHere, Lined.unmapped, Onces.leaves_none, Pending.{MayEnd, in_poll, polled_none, stops}, Polling.{IsOutside, next_hands, next_outside}, ServingHolds.Keeps, Slots.task_there, SlotTasks.{Keeps as KeepsSlot, Tasked, guest_pool, guest_tasked, none_in, sound_tasked}, TaskOverPlaces.{IsQuiet, tells_past}, TaskOverActs.{over_untold, split_left}, TaskOverFold.{HoldsAll, LetsSeen}, TaskOverGone.{AllGone, RemovesSeen, all_gone}, TaskOverLetters.{AreLetters, letters_fit, no_letters}, TaskOverMay.{HasAll, has_all, keeps_tasks, may_let_go}, TaskOverPolls.{InPollAt, OversPoll, beside_over, gone_at, over_shared, over_worker, sound_over}, TaskOverSeen.{common_then, desk_then, own_then, things_then}, TaskOverSound.{IsAside, IsOwing, own_keeps}, TaskOverWhole.{IsDone, IsPast}, TaskTakes.holder_there}}
use Rattle.exec_polling.proofs.{Guests.EndsHere, TaskPends.pended_over}

-- THE NEXT PICK

abbrev pick_by : Bool → Place
pick_by b = if b then Place.TakeRootFlag else Place.Pick InPick.CountDown

picks_past : (b : Bool) → IsPast (pick_by b)
picks_past true = record { polls = refl; claims = refl; counts = refl; published = refl; clears = refl; passes = refl; joins = refl }
picks_past false = record { polls = refl; claims = refl; counts = refl; published = refl; clears = refl; passes = refl; joins = refl }

picks_aside : (b : Bool) → IsAside (pick_by b)
picks_aside true = record { spare = refl; wakes = refl; served = refl; bare = refl; polls = refl; calls = refl; heard = refl; lets = λ requests zs is. absurd (false≢true is) }
picks_aside false = record { spare = refl; wakes = refl; served = refl; bare = refl; polls = refl; calls = refl; heard = refl; lets = λ requests zs is. absurd (false≢true is) }

picks_quiet : (b : Bool) → IsQuiet (pick_by b)
picks_quiet true = record { unserved = refl; free = refl; unowed = λ n. refl }
picks_quiet false = record { unserved = refl; free = refl; unowed = λ n. refl }

picks_none : (b : Bool) → removes_at (pick_by b) ≡ None
picks_none true = refl
picks_none false = refl

picks_silent : (b : Bool) → sends_cancel_at (pick_by b) ≡ false
picks_silent true = refl
picks_silent false = refl

tells_picking : IsAside (Place.SendCancel AfterCancels.Pick)
tells_picking = record { spare = refl; wakes = refl; served = refl; bare = refl; polls = refl; calls = refl; heard = refl; lets = λ requests zs is. absurd (false≢true is) }

owes_picking : (b : Bool) → IsOwing (pick_by b) AfterCancels.Pick
owes_picking true = record { aside = picks_aside true; after = tells_picking; begins = refl; hands = refl; loot = refl; unarmed = refl; queue = λ x h. h; closes = refl; closing = refl }
owes_picking false = record { aside = picks_aside false; after = tells_picking; begins = refl; hands = refl; loot = refl; unarmed = refl; queue = λ x h. h; closes = refl; closing = refl }

module _ {B L : Type 0} (left : B → L) (spot : L → Option Said → Spot) (x : InPoll) (t : ℕ) (w : Worker) (s : Shared B) (sound : SoundAt (Place.Poll t x) w s) (may : MayEnd x t) (at : InPollAt x t) (here : IsHere x t w s) (gone_is : here.slot.cell.cancelled ≡ true) (has : HasWhole w s) (seen : LetsSeen B) (removes : RemovesSeen B) where
  -- an ordinary one
  apart : t ≢ w.root
  apart = λ same. false≢true (sym (here.root same).0.kept ∙ gone_is)

  ordinary : here.slot.home ≡ None
  ordinary = (here.ordinary apart).1

  keeps_now : Keeps w s
  keeps_now = own_keeps (Place.Poll t x) w s at.spare at.unwoken at.unbare sound

  idle : served_in w.place ≡ None
  idle = ap served_in sound.here ∙ at.unserved

  all_there : HasAll t here.slot s
  all_there = has_all t w s here.slot has.others has.whole here.there

  none : letters_in w.letters ≡ []
  none = sound.letters.none refl

  -- what it sleeps for
  asleep : (n : ℕ) → here.slot.waiting ≡ Waiting.Timer n → (z : SleeperRecord) × (slice_get s.sleepers.items n ≡ Some z) × (z.shown.worker < s.config.workers)
  asleep n is =
      let it = has.whole.holding.asleep t (holder_of here.slot) n (holder_there s.tasks.items t here.slot here.there) (ap awaited_in is) in
      let z = unmapped nap_of s.sleepers.items n it.0 it.1 in
      (z.0, z.1, subst (λ m. m < s.config.workers) (ap (λ (y : Nap). y.worker) (sym z.2)) (subst (λ o. MayHave s.config.workers o it.0.worker) ordinary it.2.near))

  -- WHERE IT MAY END
  pub may_let_pended : (mid : Shared B) → TurnsSlot t s mid pended_slot → MayLetGoOf t w mid
  may_let_pended mid turns =
      let items : mid.tasks.items ≡ slice_set s.tasks.items t (pended_slot here.slot) = turns.tasks here.slot here.there in
      let there : slice_get mid.tasks.items t ≡ Some (pended_slot here.slot) = ap (λ ts. slice_get ts t) items ∙ set_there s.tasks.items t (pended_slot here.slot) here.slot here.there in
      let is : pended_slot here.slot ≡ record here.slot { cell = cell_over here.slot.cell } = pended_over here.slot here.body gone_is in
      may_let_go t w mid (pended_slot here.slot) seen idle (subst (λ (y : Shared B). AreLinedUp y.opens y.requests.items) (sym turns.kept) sound.gates) there (keeps_tasks w s mid turns.kept keeps_now)
      (subst (λ (y : Shared B). HoldsAll (pended_slot here.slot).held.items y.requests.items) (sym turns.kept) (subst (λ (o : TaskSlot B). HoldsAll o.held.items s.requests.items) (sym is) all_there.all)) (no_letters w.letters none).0 (no_letters w.letters none).1
      (λ z waits. let it = asleep z (ap (λ (o : TaskSlot B). o.waiting) (sym is) ∙ waits) in subst (λ (y : Shared B). z < length y.sleepers.items) (sym turns.kept) (slice_get_within s.sleepers.items z it.0 it.1))

  -- THE STEP

  module _ (w' : Worker) (s' : Shared B) (e : Event) (event : e ≡ Pend t) (moves_here : EndsHere left spot x t w s) (ends : may_end here.slot.waiting ≡ true) (stop : MayStop w.index here.slot.waiting s.requests.items s.sleepers.items) (pends : PendsTask t w w' s s') where
    slot_is : pends.slot ≡ here.slot
    slot_is = same_Some pends.slot here.slot (sym pends.there ∙ here.there)

    over_is : pended_slot here.slot ≡ record here.slot { cell = cell_over here.slot.cell }
    over_is = pended_over here.slot here.body gone_is

    is_over : is_complete (pended_slot pends.slot).cell.phase ≡ true
    is_over = ap (λ (o : TaskSlot B). is_complete (pended_slot o).cell.phase) slot_is ∙ ap (λ (o : TaskSlot B). is_complete o.cell.phase) over_is

    lets : LetsGoOf t w pends.v pends.mid s'
    lets = (pends.over is_over).0

    goes_is : w' ≡ record pends.v { place = cancels_left AfterCancels.Pick (desk_of pends.v) (letters_in pends.v.letters) }
    goes_is = (pends.over is_over).1

    items_mid : pends.mid.tasks.items ≡ slice_set s.tasks.items t (pended_slot here.slot)
    items_mid = pends.pended_is.tasks here.slot here.there

    there_mid : slice_get pends.mid.tasks.items t ≡ Some (pended_slot here.slot)
    there_mid = ap (λ ts. slice_get ts t) items_mid ∙ set_there s.tasks.items t (pended_slot here.slot) here.slot here.there

    held_is : lets.slot ≡ record here.slot { cell = cell_over here.slot.cell }
    held_is = same_Some lets.slot (pended_slot here.slot) (sym lets.there ∙ there_mid) ∙ over_is

    first_is : lets.first ≡ record s { tasks = lets.first.tasks }
    first_is = lets.kept ∙ ap (λ (y : Shared B). record y { tasks = lets.first.tasks }) pends.pended_is.kept

    gone_first : AllGone w.index here.slot.held.items here.slot.waiting pends.v.letters w lets.u lets.first s'
    gone_first =
        all_gone w.index here.slot.held.items here.slot.waiting pends.v.letters w lets.v lets.u lets.first lets.now s' seen removes refl idle (subst (λ (y : Shared B). AreLinedUp y.opens y.requests.items) (sym first_is) sound.gates)
        (keeps_tasks w s lets.first first_is keeps_now) (subst (λ (y : Shared B). HoldsAll here.slot.held.items y.requests.items) (sym first_is) all_there.all)
        (subst (λ (o : TaskSlot B). LetsGoAll o.held.items w lets.v lets.first lets.now) held_is lets.lets) (subst (λ (o : TaskSlot B). LetsWaiting o.waiting pends.v.letters.timer lets.v lets.u lets.now s') held_is lets.sleeps)
        (lets.requests ∙ ap (λ (o : TaskSlot B). others_of w.index o.held.items) held_is)

    abbrev now : Shared B
    now = record s' { tasks = s.tasks }

    gone : AllGone w.index here.slot.held.items here.slot.waiting pends.v.letters w lets.u s (record s' { tasks = s.tasks })
    gone = gone_at w.index here.slot.held.items here.slot.waiting pends.v.letters w lets.u s lets.first s' first_is gone_first

    abbrev over_slot : TaskSlot B
    over_slot = record here.slot { cell = cell_over here.slot.cell; held = lets.slot'.held }

    became : lets.slot' ≡ over_slot
    became = lets.emptied ∙ ap (λ (o : TaskSlot B). record o { held = lets.slot'.held }) held_is

    items : s'.tasks.items ≡ slice_set s.tasks.items t over_slot
    items = grind (arith, gone_first.kept, lets.tasks, items_mid, set-set s.tasks.items t (pended_slot here.slot) lets.slot', became)

    shared_is : s' ≡ over_shared s'.tasks.items s' (record s' { tasks = s.tasks }) s
    shared_is = grind (arith, gone_first.kept, first_is)

    v_is : pends.v ≡ record lets.u { letters = pends.v.letters }
    v_is = lets.worker

    picks : pends.v.picks ≡ w.picks
    picks = ap (λ (y : Worker). y.picks) v_is ∙ ap (λ (y : Worker). y.picks) gone_first.worker

    worker_is : w' ≡ over_worker (cancels_left AfterCancels.Pick (desk_of pends.v) (letters_in pends.v.letters)) pends.v.letters lets.u w
    worker_is = grind (arith, goes_is, v_is, gone_first.worker)

    keeps_slot : KeepsSlot here.slot over_slot
    keeps_slot = record { home = refl; number = refl; owner = refl }

    splits : ((letters_in pends.v.letters ≡ []) × (cancels_left AfterCancels.Pick (desk_of pends.v) (letters_in pends.v.letters) ≡ pick_by (w.picks == 0))) ⊎ ((is_empty (letters_in pends.v.letters) ≡ false) × (cancels_left AfterCancels.Pick (desk_of pends.v) (letters_in pends.v.letters) ≡ Place.SendCancel AfterCancels.Pick))
    splits = ⊎_elim (λ y. inl (y.0, y.1 ∙ ap (λ n. pick_by (n == 0)) picks)) (λ y. inr y) (split_left AfterCancels.Pick (desk_of pends.v) (letters_in pends.v.letters))

    by_split : (P : Place → Type 0) → P (pick_by (w.picks == 0)) → P (Place.SendCancel AfterCancels.Pick) → P (cancels_left AfterCancels.Pick (desk_of pends.v) (letters_in pends.v.letters))
    by_split P stays tells = ⊎_elim (λ y. subst P (sym y.1) stays) (λ y. subst P (sym y.1) tells) splits

    overs : OversPoll x t (cancels_left AfterCancels.Pick (desk_of pends.v) (letters_in pends.v.letters)) pends.v.letters w lets.u s (record s' { tasks = s.tasks }) s' here.slot over_slot
    overs =
        let done : IsDone here.slot over_slot = record { keeps = keeps_slot; cleared = refl; unpolled = refl; complete = refl; one = λ g n one. leaves_none g n (polled_none g here.slot.cell.phase n here.polled one) } in
        let home : (here.slot.home ≡ Some w.index) ⊎ (here.slot.home ≡ None) = inr ordinary in
        let idle : IsSome here.slot.home → awaited_in here.slot.waiting ≡ None = λ some. absurd (false≢true (subst (λ o. IsSome o) ordinary some)) in
        let removes : (u : ℕ) → removes_at (cancels_left AfterCancels.Pick (desk_of pends.v) (letters_in pends.v.letters)) ≡ Some u → (u ≡ t) × (here.slot.home ≡ None) = λ u is. absurd (let no : None ≡ Some u = sym (by_split (λ y. removes_at y ≡ None) (picks_none (w.picks == 0)) refl) ∙ is in cc) in
        let holder = ap (λ hs. record (holder_of here.slot) { held = hs; over = true }) lets.none in
        assumption (here, items, done, holder, home, idle, gone, by_split IsPast (picks_past (w.picks == 0)) (tells_past AfterCancels.Pick), by_split IsAside (picks_aside (w.picks == 0)) tells_picking, removes)

    -- what holds
    first_sound : SoundAt (pick_by (w.picks == 0)) (record w { place = pick_by (w.picks == 0) }) (record s { tasks = s'.tasks })
    first_sound =
        let q0 : Place = pick_by (w.picks == 0) in
        let out : IsOutside q0 = next_outside (w.picks == 0) in
        let empty : w.hand ≡ None = subst (λ b. IsInHand None b w.hand) may.hands (subst (λ o. IsInHand o (hands_on_at (Place.Poll t x)) w.hand) may.begins sound.hand) in
        let tasked : Tasked q0 w w.root_ready None s s'.tasks.items = subst (Tasked q0 w w.root_ready None s) (sym items)
        (guest_tasked t x q0 w None s here.slot over_slot sound (record {
          apart = apart;
          there = here.there;
          keeps = keeps_slot;
          hand = subst (λ b. IsInHand None b None) (sym (next_hands (w.picks == 0))) refl;
          genuine = λ r among. absurd (none_in r among);
          polls = λ n never. let no : None ≡ Some n = sym out.polls ∙ never in absurd (cc);
          guest = subst (λ o. HasGuest o (step_of_poll q0) w.index w.root (slice_set s.tasks.items t over_slot)) (sym out.polls) tt;
          stops = subst (λ o. Stops o (step_of_poll q0) w.index (slice_set s.tasks.items t over_slot) s.requests.items s.sleepers.items) (sym out.polls) tt;
          rests = λ unpolled. (grind (arith, false, true, over_untold, here.slot.waiting, here.untold));
        })) in
        subst (λ o. SoundAt q0 (record w { place = q0; hand = o }) (record s { tasks = s'.tasks })) (sym empty) (sound_tasked t x q0 w w.root_ready None s s' sound out.after tasked)

    letters : AreLetters s.config.workers w.index pends.v.letters s.requests.items s.sleepers.items
    letters = letters_fit w.index t here.slot pends.v.letters w lets.u s s (record s' { tasks = s.tasks }) ordinary all_there gone refl asleep

    -- what the machine makes of it
    works : (p : Plan) (vs : Views) → Suits p vs w s → Works left spot p vs w s (Pend t) (over_worker (cancels_left AfterCancels.Pick (desk_of pends.v) (letters_in pends.v.letters)) pends.v.letters lets.u w) (over_shared s'.tasks.items s' (record s' { tasks = s.tasks }) s)
    works p vs suits =
        let q' : Place = cancels_left AfterCancels.Pick (desk_of pends.v) (letters_in pends.v.letters) in
        let i = w.index in
        let c = common_of left spot p vs s in
        let seen_slot = task_seen left spot here.slot in
        let W' : Worker = over_worker q' pends.v.letters lets.u w in
        let S' : Shared B = over_shared s'.tasks.items s' (record s' { tasks = s.tasks }) s in
        let wq : Worker = record w { place = Place.Poll t x } in
        let here_w : wq ≡ w = ap (λ y. record w { place = y }) (sym sound.here) in
        let at_task : task_of c t ≡ seen_slot = task_there left spot s.tasks.items t here.slot here.there in
        let cleared : here.slot.cleared ≡ true = sym here.cancelled ∙ gone_is in
        let cleared_is : (task_of c t).cleared ≡ true = ap (λ (y : Task). y.cleared) at_task ∙ cleared in
        let by : Desk → Moved Things = λ d. record { event = Pend t; choice = Plain; desk = d; thing = things_with vs s } in
        let desk : lets_go_all i c seen_slot (desk_of wq) ≡ desk_of pends.v =
        ap (λ y. lets_go_all i c seen_slot (desk_of y)) here_w ∙ desk_then left spot p vs t q' pends.v.letters w lets.u s (record s' { tasks = s.tasks }) s' here.slot over_slot suits here.there items gone none ∙ ap desk_of (sym v_is) in
        let desk_all : after_pend i t c (desk_of wq) (task_of c t) (task_of c t).home ≡ desk_of W' = grind (arith, at_task, ordinary, cleared, desk, v_is, gone.worker) in
        let things = things_then left spot p vs t q' pends.v.letters w lets.u s (record s' { tasks = s.tasks }) s' here.slot over_slot suits here.there items gone in
        let seen_over : task_seen left spot over_slot ≡ record seen_slot { phase = TaskPhase.Done; held = [] } = over_seen in
        subst (λ y. Works left spot p vs y s (Pend t) W' S') here_w (record {
          choice = Plain;
          moves = moves_here p vs suits ∙ ap by desk_all ∙ ap (λ y. record { event = Pend t; choice = Plain; desk = desk_of W'; thing = y }) (sym things);
          may = (ap (is_number t) may.polls ∙ eq-eqb t t refl, (ap is_settled may.free, (ap (λ (y : Task). may_stop c i y.waiting) at_task ∙ stops left spot p vs w s here.slot.waiting ends stop, tt)));
          own = own_so p vs suits here_w ∙ sym (ap (λ b. record (unpolled (if b then own_after_over (own_of wq) c i t else own_of wq)) { serving = false }) cleared_is);
          common = common_then left spot p vs t q' pends.v.letters w lets.u s (record s' { tasks = s.tasks }) s' here.slot over_slot suits here.there items gone seen_over
              ∙ sym (ap (λ b. if b then after_over c i t else record c { tasks = slice_set c.tasks t (record (task_of c t) { phase = pended_phase (task_of c t).phase }) }) cleared_is);
        })
      where
        over_seen : task_seen left spot over_slot ≡ record (task_seen left spot here.slot) { phase = TaskPhase.Done; held = [] }
        over_seen =
            ap (λ b. record (task_seen left spot here.slot) {
              code = (spot_by left spot b here.slot.told).code;
              place = (spot_by left spot b here.slot.told).place;
              adapters = (spot_by left spot b here.slot.told).adapters;
              call = (spot_by left spot b here.slot.told).call;
              phase = TaskPhase.Done;
              held = numbers_held lets.slot'.held.items;
            }) (sym (in_poll here.slot.cell.phase here.slot.body here.polled))
            ∙ ap (λ hs. record (task_seen left spot here.slot) { phase = TaskPhase.Done; held = numbers_held hs }) lets.none

        own_so : (p : Plan) (vs : Views) → Suits p vs w s → record w { place = Place.Poll t x } ≡ w
            → own_of (over_worker (cancels_left AfterCancels.Pick (desk_of pends.v) (letters_in pends.v.letters)) pends.v.letters lets.u w) ≡ record (unpolled (own_after_over (own_of (record w { place = Place.Poll t x })) (common_of left spot p vs s) w.index t)) { serving = false }
        own_so p vs suits here_w =
            let q' : Place = cancels_left AfterCancels.Pick (desk_of pends.v) (letters_in pends.v.letters) in
            let v = lets.u in
            let c = common_of left spot p vs s in
            let quiet : IsQuiet q' = by_split IsQuiet (picks_quiet (w.picks == 0)) (record { unserved = refl; free = refl; unowed = λ n. refl }) in
            let past = overs.past in
            let made : Option ℕ → Bool → Next → List Letter → Own = λ polls serving next owed. record (own_of v) { polls = polls; serving = serving; next = next; owed = owed } in
            let v_place : v.place ≡ Place.Poll t x = ap (λ (y : Worker). y.place) gone.worker ∙ sound.here in
            ap own_of (ap (λ (y : Worker). record y { place = q'; letters = pends.v.letters }) (sym gone.worker))
            ∙ ap (λ o. made o (serves_at q') (next_at q') (owed_at v.workers q' ++ letters_in pends.v.letters)) past.polls
            ∙ ap (λ o. made None o (next_at q') (owed_at v.workers q' ++ letters_in pends.v.letters)) quiet.unserved
            ∙ ap (λ o. made None false o (owed_at v.workers q' ++ letters_in pends.v.letters)) quiet.free
            ∙ ap (λ o. made None false Next.Free (o ++ letters_in pends.v.letters)) (quiet.unowed v.workers)
            ∙ ap (λ y. made None false y (letters_in pends.v.letters)) (sym (ap next_at v_place ∙ may.free))
            ∙ ap (λ (y : Own). record y { polls = None; serving = false }) (sym (own_then left spot p vs t q' pends.v.letters w v s (record s' { tasks = s.tasks }) s' here.slot over_slot suits here.there items gone []))
            ∙ ap (λ (y : Worker). record (unpolled (own_after_over (record (own_of y) { owed = [] }) c w.index t)) { serving = false }) (sym here_w)
            ∙ ap (λ ls. record (unpolled (own_after_over (record (own_of (record w { place = Place.Poll t x })) { owed = ls }) c w.index t)) { serving = false }) (sym none)

    pub pended_cleared : Steps left spot w s e w' s'
    pended_cleared =
        let W' : Worker = over_worker (cancels_left AfterCancels.Pick (desk_of pends.v) (letters_in pends.v.letters)) pends.v.letters lets.u w in
        let S' : Shared B = over_shared s'.tasks.items s' (record s' { tasks = s.tasks }) s in
        let steps : Steps left spot w s (Pend t) W' S' = (
          works,
          sound_over x t (pick_by (w.picks == 0)) (cancels_left AfterCancels.Pick (desk_of pends.v) (letters_in pends.v.letters)) AfterCancels.Pick pends.v.letters w lets.u s (record s' { tasks = s.tasks }) s' here.slot over_slot at sound overs letters first_sound (picks_silent (w.picks == 0))
              (λ some. guest_pool t x w s sound apart) (λ some. owes_picking (w.picks == 0)) splits,
          hears_over t here.slot over_slot refl refl here.there items refl,
          beside_over x t (cancels_left AfterCancels.Pick (desk_of pends.v) (letters_in pends.v.letters)) pends.v.letters w lets.u s (record s' { tasks = s.tasks }) s' here.slot over_slot at sound overs letters,
        ) in
        subst (Steps left spot w s e w') (sym shared_is) (subst (λ y. Steps left spot w s e y S') (sym worker_is) (subst (λ y. Steps left spot w s y W' S') (sym event) steps))
