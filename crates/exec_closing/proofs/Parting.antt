-- The last steps of a closing, each as a step of the machine: the barrier is passed, the mailbox closed, and the worker ends.
use Rattle.std.{proofs.{Common.{◌≡◌, inl, ℕ, suc, ◌*◌, ◌+◌, ◌^◌, ◌≤◌, ◌&&◌, ◌||◌, ◌<◌, Bool, true, false, not, Contains, List, [], ◌∷◌, ◌++◌, map, Option, None, Some, refl, sym, ap, subst, ◌∙◌, arith, slice_get, slice_set}, lemmas.{Bool.false≢true, List.length-set}, Math.Bool.and-false}, specs.List.list_all}
use Rattle.exec_words.specs.Reserved.{Reserved}
use Rattle.exec_task.specs.{Phases.is_polled, declared.body.Said.Said}
use Rattle.exec_machine.specs.{declared.{event.Event.{Event, TheVariants.{Turn, End}}, state.WorkerPhase.WorkerPhase}, Choice.Choice.{Plain, Passes}, Closing.{gone_with, is_over_or_root, is_pool_over}, Tests.{all_left, is_open}}
use Rattle.exec_moves.specs.{declared.place.{InClosing.InClosing, Place.Place}, Move.move_at, Seen.polls_at}
use Rattle.exec_parts.{specs.{Calls.sleeper_gone_with, declared.parts.{seat.Seat.Seat as Chair, shared.Shared.Shared, sleeping.SleeperRecord.SleeperRecord, task_slot.TaskSlot.TaskSlot, worker.Worker.Worker}, Phased.{IsGoing, IsPhased, TurnsChair, closes_at, closing_in, has_stopped, is_complete, root_over, stage_of}, Roles.is_pool, MailPosts.IsMailbox, Spots.Spot, View.{common_of, desk_of, driver_of, message_of, numbers_of_passing, own_of, task_seen, things_with, visible, with_view}}, proofs.Facts.{by_number, set_there}}
use Rattle.exec_invariants.{proofs.{Showing.map_kept, Dedicated.{as_long, chair_of_pool}, Aside.{queue_of_chair, queues_set, seats_own}, Closes.{closed_by, follows_in, now_closing, seats_on}, PoolShards.none_in_set, PoolClosing.pool_left, PoolKept.{all_over, chosen_own, gates_set, pool_of}, Seats.{own_seat, seats_all}, Hearing.unheard, Shutting.{beside_closing, holds_calm, onward, sound_closing, GoesOnlyOn, Pools, Ready, pools_calm, seats_show, shown_as}, Turning.view_found}, specs.{Hearing.StillHears, Drained.{Duties, HaveLeft, IsPool}, Holding.{Mail, box_of}, Places.{drops_at, is_pooled_at}, Sound.{Aims, HasBatch, IsMyMail, LetsGoAt, SoundAt, has_wakes_at}, Whole.{HasWhole, duties_of, with_worker}, Works.{Beside, Steps}}}
use Rattle.exec_closing.proofs.{NoneAsleep.none_asleep, ClosingNaps.{AreGone, alarms_gone, shown_gone, sound_gone, spares_gone, whole_gone}}

-- LISTS

mapped_all : {A X : Type 0} (f : X → Bool) (g : A → X) (xs : List A) → ((k : ℕ) (x : A) → slice_get xs k ≡ Some x → f (g x) ≡ true) → list_all f (map g xs) ≡ true
mapped_all f g [] h = refl
mapped_all f g (x ∷ xs) h = rw (h 0 x refl) (mapped_all f g xs (λ k y there. h (suc k) y there))

and_true : (b : Bool) → b ≡ (b && true)
and_true true = refl
and_true false = refl

module _ {B : Type 0} where
  -- the own chair became this, in which the run queue is as it was
  pub ready_own : (x : InClosing) (q : Place) (batch : Reserved Mail) (n : ℕ) (w : Worker) (s s' : Shared B) (chair : Chair) (sound : SoundAt (Place.Closing x) w s) → s' ≡ record s { seats = s'.seats } → s'.seats.items ≡ slice_set s.seats.items w.index chair
      → IsMailbox chair.mailbox → chair.mailbox.waker ≡ sound.seated.seat.mailbox.waker → chair.queue ≡ sound.seated.seat.queue → Aims q s.config w.index s'.seats.items → chair.pool ≡ sound.seated.seat.pool → HasBatch q batch.values → ((m : Mail) → Contains batch.values m → IsMyMail s.config.workers w.index m s.requests.items s.sleepers.items) → (chair.mailbox.inbox.closed ≡ false → 2 * chair.made + 1 ≤ batch.places) → n < 2 ^ 29 → (is_pooled_at q ≡ true → is_pool w.role ≡ true) → LetsGoAt q (driver_of w).requests w.home.timers → (has_wakes_at q ≡ false → w.home.deferred.notes.wakes.items ≡ [])
      → IsPhased w.index (closes_at q) (closing_in q) w.home.closing w.root w.names.unreleased (stage_of chair s) s.tasks.items → Ready q w.home.closing batch n w s s'
  ready_own x q batch n w s s' chair sound kept items mail waker queue aims pool batch_then mine place few pooled lets_go quiet phased =
      let found : slice_get s'.seats.items w.index ≡ Some chair = ap (λ xs. slice_get xs w.index) items ∙ set_there s.seats.items w.index chair sound.seated.seat sound.seated.there in
      grind (arith, as_long, length-set)

  -- only the seats change
  pub on_seats : (i : ℕ) (s s' : Shared B) → s' ≡ record s { seats = s'.seats } → GoesOnlyOn i s s'
  on_seats = grind arith

  -- a closing worker past the stop sees it
  pub stopped_now : (x : InClosing) (w : Worker) (s : Shared B) → SoundAt (Place.Closing x) w s → has_stopped (closes_at (Place.Closing x)) (Some x) ≡ true → root_over (closes_at (Place.Closing x)) (Some x) ≡ true → is_pool w.role ≡ true → s.stopped ≡ true
  stopped_now x w s sound stops over pool =
      let phased = sound.phased sound.seated.seat sound.seated.there in
      by_number w.index 0
      (λ other. phased.by_other (omega (arith, other)) (chair_of_pool (Place.Closing x) w s sound sound.seated.seat sound.seated.there ∙ pool) over)
      (λ is. (phased.by_zero is).0 ∙ stops)

module _ {B L : Type 0} (left : B → L) (spot : L → Option Said → Spot) (w w' : Worker) (s s' : Shared B) (e : Event) where
  pub barrier_left : SoundAt (Place.Closing InClosing.LeaveBarrier) w s → IsGoing w.index s.seats.items → e ≡ Turn
      → w' ≡ record w { place = Place.Closing InClosing.CloseMailbox } → TurnsChair w.index (λ chair. record chair { left = true }) s s' → s' ≡ record s { seats = s'.seats } → Steps left spot w s e w' s'
  barrier_left sound going event goes turns kept =
      let q : Place = Place.Closing InClosing.CloseMailbox in
      let seat = sound.seated.seat in
      let there = sound.seated.there in
      let chair : Chair = record seat { left = true } in
      let items : s'.seats.items ≡ slice_set s.seats.items w.index chair = turns seat there in
      let phased = sound.phased seat there in
      let stopped : s.stopped ≡ true = stopped_now InClosing.LeaveBarrier w s sound refl refl (sound.pooled refl) in
      let of_pool : seat.pool ≡ true = chair_of_pool (Place.Closing InClosing.LeaveBarrier) w s sound seat there ∙ sound.pooled refl in
      let pools : Pools q w.home.closing w.batch w.processed w s s' = λ others whole.
      let w1 : Worker = record w { place = q } in
      let d : Duties = duties_of (with_worker others w1) in
      let before : IsPool d s.tasks.items s.set s.seats.items = pool_of others w w1 s.tasks.items s.set s.seats.items refl (sym (ap polls_at sound.here)) (sym (ap drops_at sound.here)) whole.pool in
      subst (λ z. IsPool d s.tasks.items z s'.seats.items) (sym (ap (λ (z : Shared B). z.set) kept))
      (pool_left w.index d s.tasks.items s.set s.seats.items s'.seats.items seat there items (chosen_own w.index (polls_at q) (others.polled_by w.index)) (ap (λ x. x.clears) (chosen_own w.index (drops_at q) (others.drops_by w.index))) (phased.closed stopped) (λ t. none_in_set t s.set phased.prepared) before) in
      closed_by left spot InClosing.LeaveBarrier q w.home.closing w.batch w.processed w w' s s' e sound (follows_in InClosing.CloseMailbox)
      (ready_own InClosing.LeaveBarrier q w.batch w.processed w s s' chair sound kept items sound.seated.mail refl refl tt refl (λ no. absurd (false≢true no)) sound.mine (sound.batch_place seat there) sound.processed (λ no. absurd (false≢true no)) (λ no. absurd (false≢true no)) (λ h. sound.quiet refl)
      (record { told = phased.told; opened = phased.opened; ended = λ h. absurd (false≢true (sym (going seat there) ∙ h)); root = phased.root; left = sym of_pool ∙ and_true seat.pool; shut = phased.shut; by_zero = phased.by_zero; by_other = phased.by_other; closed = phased.closed; prepared = tt }))
      (on_seats w.index s s' kept) (inl (ap (λ (z : Shared B). z.global) kept)) (seats_own w.index s.seats.items s'.seats.items seat chair items there (omega arith)) pools
      (holds_calm q w.home.closing w.processed w s s' (ap (λ xs. map box_of xs) items ∙ map_kept box_of s.seats.items w.index chair seat there refl))
      (ap (λ xs. map queue_of_chair xs) items ∙ queues_set s.seats.items w.index seat chair there refl) goes
      (λ p vs suits.
      let cs = common_of left spot p vs s in
      let mine = own_seat left spot p vs w s seat suits there in
      let again = view_found vs w.index (visible w) suits.seen in
      let things : things_with vs s' ≡ things_with vs s = ap (λ (z : Shared B). things_with vs z) kept ∙ seats_show vs w.index s s'.seats.items seat chair there items refl refl refl refl in
      record {
        choice = Passes;
        moves =
            subst (λ y. move_at p.config w.index (own_of w) cs (desk_of w) (things_with vs s) y ≡ record { event = e; choice = Passes; desk = desk_of (record w { place = q }); thing = things_with (with_view vs w.index (visible w)) s' }) (sym sound.here)
            (shown_as _ (λ v. record { event = e; choice = Passes; desk = desk_of (record w { place = q }); thing = things_with v s' }) vs _ again
            (rw event (ap (λ x. record { event = Turn; choice = Passes; desk = desk_of (record w { place = q }); thing = x }) (sym things))));
        may = rw (event, sound.here, sound.letters.none refl) (refl, (rw mine (now_closing seat.phase phased.opened (going seat there)), (rw mine of_pool, (rw mine (ap not (phased.left ∙ and-false seat.pool)), (stopped, tt)))));
        own = rw (event, sound.here) refl;
        common = rw event (ap (λ v. common_of left spot p v s') again ∙ ap (common_of left spot p vs) kept ∙ rw (seats_on left spot p vs w s s' chair suits items, mine) refl);
      })

  pub worker_ended : SoundAt (Place.Closing InClosing.End) w s → HasWhole w s → IsGoing w.index s.seats.items → e ≡ End
      → w' ≡ record w { place = Place.Closing InClosing.End } → TurnsChair w.index (λ chair. record chair { phase = WorkerPhase.Ended }) s s'
      → s'.sleepers.items ≡ map (sleeper_gone_with w.index) s.sleepers.items → s' ≡ record s { seats = s'.seats; sleepers = s'.sleepers } → Steps left spot w s e w' s'
  worker_ended sound has going event goes turns sleepers kept =
      let q : Place = Place.Closing InClosing.End in
      let seat = sound.seated.seat in
      let there = sound.seated.there in
      let chair : Chair = record seat { phase = WorkerPhase.Ended } in
      let s1 : Shared B = record s { seats = s'.seats } in
      let items : s1.seats.items ≡ slice_set s.seats.items w.index chair = turns seat there in
      let phased = sound.phased seat there in
      let gone : AreGone w.index s1 s' = record {
        kept = kept;
        items = sleepers;
        all = λ k z at is. none_asleep w.index w.names w.home.timers s.sleepers.items sound.due.asleep (sound.lets_go refl) k z at is;
      } in
      let empty : seat.mailbox.inbox.messages ≡ [] = sound.seated.mail.empty phased.shut in
      let over_all : seat.pool ≡ true → HaveLeft s.seats.items × ((k : ℕ) (slot : TaskSlot B) → slice_get s.tasks.items k ≡ Some slot → slot.home ≡ None → is_complete slot.cell.phase ≡ true) = λ pool.
      let all_gone : HaveLeft s.seats.items = has.whole.pool.shut w.index seat there pool phased.shut in
      let rests : (k : ℕ) (slot : TaskSlot B) → slice_get s.tasks.items k ≡ Some slot → slot.home ≡ None → is_polled slot.cell.phase ≡ false → is_complete slot.cell.phase ≡ false → slot.cleared ≡ false =
      λ k slot found home unpolled going_on. ((sound.resting k slot found home unpolled).uncleared going_on).1 in
      (all_gone, all_over (duties_of (with_worker has.others w)) s.tasks.items s.set s.seats.items w.index seat there (phased.left ∙ ap (λ b. b && true) pool) all_gone rests has.whole.pool) in
      let ready : Ready q w.home.closing w.batch w.processed w s s1 =
      ready_own InClosing.End q w.batch w.processed w s s1 chair sound refl items sound.seated.mail refl refl tt refl sound.batch sound.mine (sound.batch_place seat there) sound.processed (λ no. absurd (false≢true no)) sound.lets_go (λ h. absurd (false≢true (sym h)))
      (record { told = phased.told; opened = refl; ended = λ h. refl; root = phased.root; left = phased.left; shut = phased.shut; by_zero = phased.by_zero; by_other = phased.by_other; closed = phased.closed; prepared = phased.prepared }) in
      let w1 : Worker = onward q w.home.closing w.batch w.processed w in
      let sound1 : SoundAt q w1 s1 = sound_closing InClosing.End q w.home.closing w.batch w.processed w s s1 sound (follows_in InClosing.End) ready in
      let beside1 : Beside w s w1 s1 =
      beside_closing InClosing.End q w.home.closing w.batch w.processed w s s1 sound (follows_in InClosing.End) ready.kept ready.seated
      (on_seats w.index s s1 refl) (inl refl) (seats_own w.index s.seats.items s1.seats.items seat chair items there (omega arith))
      (pools_calm InClosing.End q w.home.closing w.batch w.processed w s s1 sound (follows_in InClosing.End) refl (gates_set w.index s.seats.items s1.seats.items seat chair items there (record { left = refl; pool = refl; closed = refl; mail = λ h. h })) refl (λ h. h))
      (holds_calm q w.home.closing w.processed w s s1 (ap (λ xs. map box_of xs) items ∙ map_kept box_of s.seats.items w.index chair seat there (boxed phased.opened)))
      (ap (λ xs. map queue_of_chair xs) items ∙ queues_set s.seats.items w.index seat chair there refl) in
      let beside : Beside w s w1 s' = record { spares = λ j other. spares_gone w.index s1 s' gone j s other (beside1.spares j other); whole = λ others whole. whole_gone w.index s1 s' gone (with_worker others w1) (beside1.whole others whole) } in
      let hears : StillHears w s w1 s' = unheard refl (ap (λ (z : Shared B). z.config) kept) (ap (λ (z : Shared B). z.tasks.items) kept) in
      subst (λ v. Steps left spot w s e v s') (sym goes) (
        λ p vs suits.
            let cs = common_of left spot p vs s in
            let mine = own_seat left spot p vs w s seat suits there in
            let again = view_found vs w.index (visible w) suits.seen in
            let things1 : things_with vs s1 ≡ things_with vs s = seats_show vs w.index s s1.seats.items seat chair there items refl refl refl refl in
            let things : things_with vs s' ≡ things_with vs s = ap (λ (z : Shared B). things_with vs z) kept ∙ ap (λ ks. record (things_with vs s1) { alarms = ks }) (ap (numbers_of_passing (λ (z : SleeperRecord). z.sent) 0) sleepers ∙ alarms_gone w.index 0 s.sleepers.items) ∙ things1 in
            let may_end : (b : Bool) → seat.pool ≡ b → (not seat.pool || is_pool_over cs) ≡ true = λ b.
            elim b as (λ x. seat.pool ≡ x → (not seat.pool || is_pool_over cs) ≡ true) [
              | true ↦ λ pool.
                  let it = over_all pool in
                  let all : all_left cs ≡ true = seats_all (λ x. x.left || not x.pool) vs.workers s.seats.items (λ k v c found. it.0 k c found) in
                  let over : list_all is_over_or_root (map (task_seen left spot) s.tasks.items) ≡ true = mapped_all is_over_or_root (task_seen left spot) s.tasks.items (λ k slot found. over_or_root slot (it.1 k slot found)) in
                  rw (pool, all, over) refl
              | false ↦ λ pool. rw pool refl
            ] in
            let inbox_none : map message_of w.batch.values ++ map message_of seat.mailbox.inbox.messages ≡ [] = ap (λ vs. map message_of vs ++ map message_of seat.mailbox.inbox.messages) (sound.batch refl) ∙ ap (λ ms. map message_of ms) empty in
            let slept : map (λ (z : SleeperRecord). z.shown) s'.sleepers.items ≡ map (gone_with w.index) (map (λ (z : SleeperRecord). z.shown) s.sleepers.items) = ap (λ xs. map (λ (z : SleeperRecord). z.shown) xs) sleepers ∙ shown_gone w.index s.sleepers.items in
            record {
              choice = Plain;
              moves =
                  subst (λ y. move_at p.config w.index (own_of w) cs (desk_of w) (things_with vs s) y ≡ record { event = e; choice = Plain; desk = desk_of (record w { place = q }); thing = things_with (with_view vs w.index (visible w)) s' }) (sym sound.here)
                  (shown_as _ (λ v. record { event = e; choice = Plain; desk = desk_of (record w { place = q }); thing = things_with v s' }) vs _ again
                  (rw event (ap (λ x. record { event = End; choice = Plain; desk = desk_of (record w { place = q }); thing = x }) (sym things))));
              may = rw (event, sound.here, sound.letters.none refl) (refl, (rw mine (now_closing seat.phase phased.opened (going seat there)), (rw mine phased.shut, (rw phased.prepared refl, (rw mine (may_end seat.pool refl), tt)))));
              own = rw (event, sound.here) refl;
              common = rw event (ap (λ v. common_of left spot p v s') again ∙ ap (common_of left spot p vs) kept ∙ ap (λ xs. record (common_of left spot p vs s1) { sleepers = xs }) slept ∙ rw (seats_on left spot p vs w s s1 chair suits items, mine, inbox_none) refl);
            },
        sound_gone w.index s1 s' gone w1 refl sound1,
        hears,
        beside,
      )
    where
      -- its box says that it closes, before and after
      boxed : is_open sound.seated.seat.phase ≡ false → box_of (record sound.seated.seat { phase = WorkerPhase.Ended }) ≡ box_of sound.seated.seat
      boxed opened = rw opened refl

      over_or_root : (slot : TaskSlot B) → (slot.home ≡ None → is_complete slot.cell.phase ≡ true) → is_over_or_root (task_seen left spot slot) ≡ true
      over_or_root = grind arith
