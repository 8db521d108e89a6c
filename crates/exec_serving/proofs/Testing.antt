-- What the test before a wait on the ring is to the machine: the worker serves, or goes on with its wake poll.
use Rattle.std.proofs.{Common.{◌≡◌, ◌&&◌, ◌||◌, inl, inr, arith, Bool, true, false, not, List, ◌∷◌, [], ◌++◌, length, Option, refl, sym, ap, subst, ◌∙◌, nat_lt, slice_set, if◌then◌else◌}, lemmas.List.length-append}
use Rattle.exec_ring.specs.{Kernels.Landing, Rings.completions, declared.completion.Submission.Submission}
use Rattle.exec_driver.specs.{Driving.{Driving, has_pending, is_full}, Steps.{poll_staged, wake_entry}}
use Rattle.exec_task.specs.declared.body.Said.{Said}
use Rattle.exec_machine.specs.{declared.event.Event.{Event, TheVariants.Turn}, After.common_after, Choice.Choice.Plain, Progress.Plan, Ranges.ring_size}
use Rattle.exec_moves.specs.{declared.{idling.{Stay.Stay, AfterWait.AfterWait, InRingWait.InRingWait}, place.{AfterService.AfterService, Place.Place}}, Callback.serve, Move.move_at, Seen.polls_at, State.{Desk, Moved, Things, turns}, Submit.one_more, Thing.aside, Wait.after_wait}
use Rattle.exec_parts.specs.{declared.parts.{mail.Reply.Reply, role.Role.Role, seat.Seat.Seat as Chair, shared.Shared.Shared, worker.Worker.Worker}, Roles.is_pool, Spots.Spot, Tests.{TestsRing, after_wait_of, is_unready, polled_by}, View.{Views, visible, with_view, driver_of, own_of, desk_of, common_of, awaited_from, slots_seen, things_with, trailing}}
use Rattle.exec_invariants.{specs.{Kinds.Kind, Places.{claims_at, drops_at, has_count_at, is_published_at}, Sound.SoundAt, Works.{Beside, Suits, Steps, Works}}, proofs.{Aside.seats_same, Dedicated.past_pool, Hearing.unheard, Keeping.{SameButRing, keeps_ring, same_ring}, PoolKept.gates_same, Queueing.if_either, Seeing.{makes, own_with, visible_with}, Serving.{spares_same, sound_again}, ServingHolds.{Follows, Keeps, KeepsBy, Serves, serves_to}, Standing.submissions_seen, Turning.{GoesOn, IsTurn, Keeps as Holds, set_found, sound_on, view_found}}}
use Rattle.exec_serving.proofs.{Ceasing.poll_by, Unposted.beside_unposted, Waiting.{Arms, after_arms, arrives_armed, wait_over_seen}}

-- BY THE THREE TESTS: something is to be submitted, the wake poll is there, and the submission queue is full

abbrev unready : Bool → Bool → Bool → Bool
unready some polled full = some || (not polled && full)

abbrev with_wake : {A : Type 0} → Bool → Bool → Bool → A → A → A
with_wake some polled full d e = if some then d else if polled then d else if full then d else e

moved_by : (some polled full : Bool) (r : Place) (x : Stay) (d e : Desk)
    → (if unready some polled full then turns r d (tt {0}) else turns (Place.RingWait InRingWait.ArmRing x) (if polled || full then d else e) (tt {0}))
    ≡ turns (if unready some polled full then r else Place.RingWait InRingWait.ArmRing x) (with_wake some polled full d e) (tt {0})
moved_by = grind arith

mapped_by : {A C : Type 0} (some polled full : Bool) (f : A → C) (d e : A) → f (with_wake some polled full d e) ≡ with_wake some polled full (f d) (f e)
mapped_by = grind arith

-- a driver with these entries in its submission queue
abbrev with_entries : Driving Reply Reply → List Submission → Bool → List Landing → Driving Reply Reply
with_entries d es armed landings = record d { ring = record d.ring { staged = es }; armed = armed; landings = landings }

polled_is : (some polled full : Bool) (d : Driving Reply Reply) (l : List Landing)
    → record (with_wake some polled full d (poll_staged d)) { landings = l } ≡ with_entries d (with_wake some polled full d.ring.staged (d.ring.staged ++ wake_entry ∷ [])) (with_wake some polled full d.armed true) l
polled_is = grind arith

-- the ring with the wake poll, or as it was
like_by : (some polled full : Bool) (d : Driving Reply Reply) → d.armed ≡ polled → SameButRing d (with_wake some polled full d (poll_staged d))
like_by true polled full d is = same_ring d
like_by false polled full d is = poll_by polled full d is

-- what stands on the desk of a worker at this place with this driver
abbrev desk_at : Worker → Place → Driving Reply Reply → Desk
desk_at w q d = record (desk_of w) { place = q; requests = slots_seen w.names.requests.items d.requests; awaited = awaited_from 0 w.names.requests.items d.requests.slots; entries = length d.ring.staged; polled = d.armed; others = trailing 0 (completions d.ring) }

one_polled : (w : Worker) (q : Place) (d : Driving Reply Reply) → desk_at w q (poll_staged d) ≡ record (one_more (desk_at w q d)) { polled = true }
one_polled w q d = ap (λ n. record (desk_at w q d) { entries = n; polled = true }) (length-append d.ring.staged (wake_entry ∷ []))

-- the move, by what is to be submitted and whether the queue is full
abbrev tested : Worker → Place → Stay → Things → Bool → Bool → Moved Things
tested w r y x some full =
    aside x (if some || (not (desk_of w).polled && full) then turns r (desk_of w) (tt {0})
    else turns (Place.RingWait InRingWait.ArmRing y) (if (desk_of w).polled || full then desk_of w else (record (one_more (desk_of w)) { polled = true })) (tt {0}))

tests_again : (y : Stay) → Follows (Place.RingWait InRingWait.TestRing y) (Place.RingWait InRingWait.TestRing y)
tests_again y = record { from = refl; to = refl; serves = refl; armed = refl; closes = refl; wakes = refl; moment = λ m. refl; searches = refl; published = refl; bare = refl; batch = λ ms h. h }

module _ {B L : Type 0} (left : B → L) (spot : L → Option Said → Spot) where
  pub ring_tested : (y : Stay) (w w' : Worker) (s : Shared B) (e : Event) → SoundAt (Place.RingWait InRingWait.TestRing y) w s → e ≡ Turn → TestsRing y w w' → Steps left spot w s e w' s
  ring_tested y w w' s e sound turn it =
      let q : Place = Place.RingWait InRingWait.TestRing y in
      let d = driver_of w in
      let some = has_pending d in
      let full = is_full d in
      let q' : Place = if is_unready d then after_wait_of y AfterWait.Serve w else Place.RingWait InRingWait.ArmRing y in
      let wm : Worker = record w { home = record w.home { driver = w'.home.driver } } in
      let w1 : Worker = record wm { place = q' } in
      let d' : Driving Reply Reply = record (polled_by d) { landings = (driver_of w').landings } in
      let like0 = like_by some d.armed full d refl in
      let like : SameButRing d d' = record { requests = like0.requests; lists = like0.lists; wheel = like0.wheel; size = like0.size; landed = like0.landed; polled = like0.polled; cancels = like0.cancels; tagged = like0.tagged; entries = like0.entries; flies = like0.flies; stages = like0.stages } in
      let by : KeepsBy (record w { place = q; put_off = w.put_off }) d' w.home.timers s.requests.items s.sleepers.items s = keeps_ring q q w.put_off w s d' sound (tests_again y) like (λ h. sound.due.told refl) in
      let by_driver : KeepsBy (record w { place = q; put_off = w.put_off }) (driver_of w') w.home.timers s.requests.items s.sleepers.items s = subst (λ x. KeepsBy (record w { place = q; put_off = w.put_off }) x w.home.timers s.requests.items s.sleepers.items s) (sym it.driver) by in
      let by_place : KeepsBy w (driver_of w') w.home.timers s.requests.items s.sleepers.items s = subst (λ x. KeepsBy (record w { place = x; put_off = w.put_off }) (driver_of w') w.home.timers s.requests.items s.sleepers.items s) (sym sound.here) by_driver in
      let keeps : Keeps wm s = assumption by_place in
      let serves : Serves q w wm s s = serves_to q q w wm s s refl refl sound.here (tests_again y) in
      let mid : SoundAt q wm s = subst (λ x. SoundAt x wm s) sound.here (sound_again q w wm s s sound serves (spares_same w.index s s sound.gates refl refl refl) keeps) in
      let arms : Arms q q' wm s =
      if_either (λ z. Arms q z wm s) (is_unready d) (after_wait_of y AfterWait.Serve w) (Place.RingWait InRingWait.ArmRing y)
      (arms_after y wm refl mid) (record { same = refl; searches = mid.searching; counts = refl; published = inl refl; queue = mid.queue; aims = λ seats. tt; batch = mid.batch }) in
      let seat : Chair = mid.seated.seat in
      let on : GoesOn wm w1 s.clock = record { same = refl; read = sound.time.read; asleep = sound.time.asleep } in
      let holds_hand : Holds wm w1 = record { root_ready = refl; hand = refl; loot = refl; searching = refl } in
      let holds : SoundAt q' w1 s = sound_on q wm w1 s s mid on refl (omega arith)
      (arrives_armed q q' wm w1 s s seat.mailbox.waker mid arms holds_hand refl (λ h. mid.seated.unarmed refl)
      (λ chair there. let is : seat ≡ chair = cc (mid.seated.there, there) in subst (λ (c : Chair). s.seats.items ≡ slice_set s.seats.items w.index (record c { mailbox = record c.mailbox { waker = seat.mailbox.waker } })) is (sym (set_found s.seats.items w.index seat mid.seated.there)))) in
      let beside : Beside w s w1 s =
      beside_unposted w w1 s s
      (record { hand = refl; loot = refl; polls = ap (λ (k : Kind). k.polls) arms.same ∙ sym (ap polls_at sound.here); claims = ap (λ (k : Kind). k.claims) arms.same ∙ sym (ap claims_at sound.here); searching = refl; counts = arms.counts ∙ sym (ap has_count_at sound.here); index = refl; drops = ap (λ (k : Kind). k.drops) arms.same ∙ sym (ap drops_at sound.here); told = record { batch = refl; letters = refl; left = refl } })
      (elim arms.published [ inl is ↦ inl (is ∙ sym (ap is_published_at sound.here)) | inr alone ↦ inr (past_pool q w s sound alone) ])
      refl (seats_same w.index s.seats.items s.seats.items refl) (gates_same s.seats.items s.seats.items refl) refl refl refl refl in
      let is_turn : IsTurn w.workers q q' = record { polls = ap (λ (k : Kind). k.polls) arms.same; free = refl; free_then = ap (λ (k : Kind). k.next) arms.same; unserved = ap (λ (k : Kind). k.serves) arms.same; owes = ap (λ (k : Kind). k.owes w.workers) arms.same } in
      let es : List Submission = with_wake some d.armed full d.ring.staged (d.ring.staged ++ wake_entry ∷ []) in
      let is : driver_of w' ≡ with_entries d es (with_wake some d.armed full d.armed true) (driver_of w').landings = it.driver ∙ polled_is some d.armed full d (driver_of w').landings in
      let desk : desk_of w1 ≡ record (with_wake some d.armed full (desk_of w) (record (one_more (desk_of w)) { polled = true })) { place = q' } =
      ap (desk_at w q') it.driver
      ∙ mapped_by some d.armed full (desk_at w q') d (poll_staged d)
      ∙ ap (λ x. with_wake some d.armed full (desk_at w q' d) x) (one_polled w q' d)
      ∙ sym (mapped_by some d.armed full (λ (x : Desk). record x { place = q' }) (desk_of w) (record (one_more (desk_of w)) { polled = true })) in
      let shows : visible w1 ≡ visible w = ap (λ (x : Driving Reply Reply). visible_with w.names.requests.items (visible w).taken x.ring) is in
      let works : (p : Plan) (vs : Views) → Suits p vs w s → Works left spot p vs w s Turn w1 s = λ p vs suits.
      let x = things_with vs s in
      let cs = common_of left spot p vs s in
      let sized : d.ring.size ≡ ring_size p.config = sound.sized ∙ ap ring_size suits.config in
      let again : with_view vs w.index (visible w1) ≡ vs = ap (with_view vs w.index) shows ∙ view_found vs w.index (visible w) suits.seen in
      let still : common_after p.config (own_of w) cs w.index Turn Plain ≡ cs = rw sound.here refl in
      record {
        choice = Plain;
        moves = subst (λ here. move_at p.config w.index (own_of w) cs (desk_of w) x here ≡ makes Turn (desk_of w1) (things_with (with_view vs w.index (visible w1)) s)) (sym sound.here)
            (ap (λ b. tested w (after_wait cs w.index y AfterWait.Serve) y x b (not (nat_lt (length d.ring.staged) (ring_size p.config)))) (sym (submissions_seen p.config w sized))
            ∙ ap (tested w (after_wait cs w.index y AfterWait.Serve) y x some) (ap (λ n. not (nat_lt (length d.ring.staged) n)) (sym sized))
            ∙ ap (λ (r : Place). tested w r y x some full) (wait_over_seen left spot p vs q y AfterWait.Serve w s sound suits tt)
            ∙ ap (aside x) (moved_by some d.armed full (after_wait_of y AfterWait.Serve w) y (desk_of w) (record (one_more (desk_of w)) { polled = true }))
            ∙ ap (λ k. makes Turn k x) (sym desk)
            ∙ ap (λ v. makes Turn (desk_of w1) (things_with v s)) (sym again));
        may = tt;
        own = ap (own_with w q' w.names.ended.items w.names.untold.items) is ∙ rw (is_turn.polls, is_turn.free_then, is_turn.unserved, is_turn.owes, sound.here) refl;
        common = ap (λ v. common_of left spot p v s) again ∙ sym still;
      } in
      subst (λ z. Steps left spot w s z w' s) (sym turn) (subst (λ v. Steps left spot w s Turn v s) (sym it.worker) (works, holds, unheard refl refl refl, beside))
    where
      arms_after : (z : Stay) (v : Worker) → v.role ≡ w.role → SoundAt (Place.RingWait InRingWait.TestRing z) v s → Arms (Place.RingWait InRingWait.TestRing z) (after_wait_of z AfterWait.Serve w) v s
      arms_after Stay.Turn v role here =
          subst (λ p. Arms (Place.RingWait InRingWait.TestRing Stay.Turn) p v s) (ap (λ (r : Role). if is_pool r then Place.Withdraw AfterWait.Serve else serve AfterService.Begin) role)
          (after_arms (Place.RingWait InRingWait.TestRing Stay.Turn) AfterWait.Serve v s here tt refl refl refl refl refl here.queue)
      arms_after Stay.Closing v role here = record { same = refl; searches = here.searching; counts = refl; published = inl refl; queue = here.queue; aims = λ seats. tt; batch = here.batch }
