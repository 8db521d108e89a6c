-- Worker zero closes the global queue, opens the barrier and stops the pool, each as a step of the machine.
use Rattle.exec_invariants.{proofs.{Names.{◌≡◌, inl, inr, ℕ, ◌&&◌, ◌-◌, ◌<◌, Bool, true, false, [], ◌++◌, length, map, Option, Some, refl, sym, ap, subst, ◌∙◌, arith, slice_get, nat_lt, slice_index_or, ◌+◌, ◌≤◌, ◌*◌, false≢true, nat_tests, append-nil, Said, Event, Turn, Stop, Next, Plain, letters_to_roots, AfterPop, InPop, InClosing, Place, move_at, tells_from, next_at, serves_at, Shared, Worker, Chair, IsGoing, IsPhased, IsPrepared, Stage, closes_at, closing_in, has_left, has_shut, has_stopped, root_over, stage_of, Spot, common_of, desk_of, driver_of, letters_in, own_of, owed_at, things_with, visible, with_view, is_pool, by_number}, Dedicated.chair_of_pool, Aside.{SparesSeats, queue_of_chair, seats_same}, PoolKept.gates_same, Seats.own_seat, Shutting.{Closes, Follows, GoesOnlyOn, Holds, holds_calm, Pools, pools_calm, Ready, shown_as}, Turning.view_found, Closes.{closed_by, follows_in, follows_pop, now_closing}}, specs.{Holding.box_of, Places.{drops_at, is_pooled_at, no_drops}, Sound.{Aims, HasBatch, IsSeated, LetsGoAt, SoundAt, has_wakes_at}, Works.Steps}}

module _ {B L : Type 0} (left : B → L) (spot : L → Option Said → Spot) where
  module _ (w w' : Worker) (s s' : Shared B) (e : Event) where
    -- WORKER ZERO closes the global queue, opens the barrier and stops the pool: nothing of the seats changes

    pub stays : (x y : InClosing) → SoundAt (Place.Closing x) w s → IsGoing w.index s.seats.items → Closes s s' → s'.seats ≡ s.seats → s'.set.closed ≡ s.set.closed → length s'.set.shards ≡ length s.set.shards → closes_at (Place.Closing x) ≡ true → has_left true (Some y) ≡ has_left true (Some x) → has_shut true (Some y) ≡ has_shut true (Some x)
        → (w.index ≡ 0 → s'.stopped ≡ has_stopped true (Some y)) → (s.stopped ≡ true → s'.stopped ≡ true) → (q : Place) → closes_at q ≡ true → closing_in q ≡ Some y → root_over true (Some x) ≡ true → root_over true (Some y) ≡ true → IsPrepared (Some y) w.names.unreleased s'.set → has_wakes_at (Place.Closing x) ≡ false → is_pooled_at (Place.Closing x) ≡ true → LetsGoAt q (driver_of w).requests w.home.timers → HasBatch q w.batch.values
        → Aims q s.config w.index s.seats.items → Ready q w.home.closing w.batch w.processed w s s'
    stays x y sound going kept seats same more closes leaves shuts zero stopped q closes_there closing over over_then prepared quiet pools lets_go batch aims =
        let closing_so : w.home.closing ≡ true → w.home.closing ≡ true = λ h. h in
        let seated = subst (λ xs. IsSeated w.index false s.config.workers xs) (sym (ap (λ v. v.items) seats)) sound.seated in
        let queue : (chair : Chair) → slice_get s'.seats.items w.index ≡ Some chair → chair.queue.held ≡ [] = λ chair there. sound.queue chair (subst (λ v. slice_get v.items w.index ≡ Some chair) seats there) in
        let place : (chair : Chair) → slice_get s'.seats.items w.index ≡ Some chair → chair.mailbox.inbox.closed ≡ false → 2 * chair.made + 1 ≤ w.batch.places =
        λ chair there. sound.batch_place chair (subst (λ v. slice_get v.items w.index ≡ Some chair) seats there) in
        let pooled : is_pooled_at q ≡ true → is_pool w.role ≡ true = λ h. sound.pooled pools in
        let quiet_so : has_wakes_at q ≡ false → w.home.deferred.notes.wakes.items ≡ [] = λ h. sound.quiet quiet in
        let phased : (chair : Chair) → slice_get s'.seats.items w.index ≡ Some chair → IsPhased w.index (closes_at q) (closing_in q) w.home.closing w.root w.names.unreleased (stage_of chair s') s.tasks.items = λ chair there.
        let at_own : slice_get s.seats.items w.index ≡ Some chair = subst (λ v. slice_get v.items w.index ≡ Some chair) seats there in
        let it : IsPhased w.index true (Some x) w.home.closing w.root w.names.unreleased (stage_of chair s) s.tasks.items =
        subst (λ b. IsPhased w.index b (Some x) w.home.closing w.root w.names.unreleased (stage_of chair s) s.tasks.items) closes (sound.phased chair at_own) in
        rw (closes_there, closing)
        (record {
          told = it.told;
          opened = it.opened;
          ended = λ h. absurd (false≢true (sym (going chair at_own) ∙ h));
          root = λ slot found. it.root slot found ∙ over ∙ sym over_then;
          left = it.left ∙ ap (λ b. chair.pool && b) (sym leaves);
          shut = it.shut ∙ sym shuts;
          by_zero = λ is. (zero is, same ∙ (it.by_zero is).1);
          by_other = λ some pool h. stopped (it.by_other some pool over);
          closed = λ h. same ∙ closed_by_now it (chair_of_pool (Place.Closing x) w s sound chair at_own ∙ sound.pooled pools) h;
          prepared = prepared;
        }) in
        assumption (kept, closing_so, seated, queue, subst (λ v. Aims q s.config w.index v.items) (sym seats) aims, batch, place, sound.processed, ap (λ v. length v.items) seats, pooled, lets_go, quiet_so, more, phased, sound)
      where
        -- the set is closed: worker zero has closed it, and any other closes once the pool is stopped
        closed_by_now : {st : Stage} → IsPhased w.index true (Some x) w.home.closing w.root w.names.unreleased st s.tasks.items → st.pool ≡ true → s'.stopped ≡ true → st.set.closed ≡ true
        closed_by_now it pool h =
            by_number w.index 0
            (λ other. it.closed (it.by_other (omega (arith, other)) pool over))
            (λ is. (it.by_zero is).1)

    -- only worker zero
    alone : w.index ≡ 0 → s'.set ≡ s.set → (s.stopped ≡ true → s'.stopped ≡ true) → GoesOnlyOn w.index s s'
    alone zero set stopped =
        record { stopped = stopped; closed = λ h. ap (λ z. z.closed) set ∙ h; by_zero = λ other. absurd (other zero); shards = ap (λ z. length z.shards) set; emptied = λ shut k none. ap (λ z. slice_index_or z.shards k []) set ∙ none }

    pub calm : (x : InClosing) (q : Place) → SoundAt (Place.Closing x) w s → Follows q → drops_at q ≡ drops_at (Place.Closing x) → s'.seats ≡ s.seats → s'.set ≡ s.set → Pools q w.home.closing w.batch w.processed w s s'
    calm x q sound follows drops seats set =
        pools_calm x q w.home.closing w.batch w.processed w s s' sound follows drops (gates_same s.seats.items s'.seats.items (ap (λ v. v.items) seats)) (ap (λ z. z.shards) set) (λ h. ap (λ z. z.closed) set ∙ h)

    pub holds_still : (q : Place) → s'.seats ≡ s.seats → Holds q w.home.closing w.batch w.processed w s s'
    holds_still q seats = holds_calm q w.home.closing w.processed w s s' (ap (λ v. map box_of v.items) seats)

    pub unset : s'.seats ≡ s.seats → SparesSeats w.index s.seats.items s'.seats.items
    unset seats = seats_same w.index s.seats.items s'.seats.items (ap (λ v. v.items) seats)

    pub queue_closed : SoundAt (Place.Closing InClosing.CloseQueue) w s → IsGoing w.index s.seats.items → e ≡ Turn → w' ≡ record w { place = Place.Closing InClosing.OpenBarrier } → s' ≡ record s { global = record { values = []; places = 0; closed = true } } → Steps left spot w s e w' s'
    queue_closed sound going event goes kept =
        let q : Place = Place.Closing InClosing.OpenBarrier in
        let seats : s'.seats ≡ s.seats = ap (λ (z : Shared B). z.seats) kept in
        let set : s'.set ≡ s.set = ap (λ (z : Shared B). z.set) kept in
        let stop : s'.stopped ≡ s.stopped = ap (λ (z : Shared B). z.stopped) kept in
        let closes : Closes s s' = subst (λ (z : Shared B). z ≡ record s { seats = z.seats; set = z.set; global = z.global; barrier_open = z.barrier_open; stopped = z.stopped }) (sym kept) refl in
        let phased = sound.phased sound.seated.seat sound.seated.there in
        closed_by left spot InClosing.CloseQueue q w.home.closing w.batch w.processed w w' s s' e sound (follows_in InClosing.OpenBarrier)
        (stays InClosing.CloseQueue InClosing.OpenBarrier sound going closes seats (ap (λ z. z.closed) set) (ap (λ z. length z.shards) set) refl refl refl (λ is. stop ∙ (phased.by_zero is).0) (λ h. stop ∙ h) q refl refl refl refl tt refl refl (λ no. absurd (false≢true no)) (λ no. absurd (false≢true no)) sound.aims)
        (alone sound.aims set (λ h. stop ∙ h)) (inr (ap (λ (z : Shared B). z.global.values) kept, ap (λ (z : Shared B). z.global.closed) kept)) (unset seats) (calm InClosing.CloseQueue q sound (follows_in InClosing.OpenBarrier) refl seats set) (holds_still q seats) (ap (λ v. map queue_of_chair v.items) seats) goes
        (λ p vs suits.
        let again = view_found vs w.index (visible w) suits.seen in
        record {
          choice = Plain;
          moves =
              subst (λ y. move_at p.config w.index (own_of w) (common_of left spot p vs s) (desk_of w) (things_with vs s) y ≡ record { event = e; choice = Plain; desk = desk_of (record w { place = q }); thing = things_with (with_view vs w.index (visible w)) s' }) (sym sound.here)
              (shown_as _ (λ v. record { event = e; choice = Plain; desk = desk_of (record w { place = q }); thing = things_with v s' }) vs _ again
              (rw event (ap (λ (z : Shared B). record { event = Turn; choice = Plain; desk = desk_of (record w { place = q }); thing = things_with vs z }) (sym kept))));
          may = rw event tt;
          own = rw (event, sound.here) refl;
          common = rw event (ap (λ v. common_of left spot p v s') again ∙ ap (common_of left spot p vs) kept ∙ rw sound.here refl);
        })

    pub barrier_opened : SoundAt (Place.Closing InClosing.OpenBarrier) w s → IsGoing w.index s.seats.items → e ≡ Turn → w' ≡ record w { place = Place.Closing InClosing.Stop } → s' ≡ record s { barrier_open = true } → Steps left spot w s e w' s'
    barrier_opened sound going event goes kept =
        let q : Place = Place.Closing InClosing.Stop in
        let seats : s'.seats ≡ s.seats = ap (λ (z : Shared B). z.seats) kept in
        let set : s'.set ≡ s.set = ap (λ (z : Shared B). z.set) kept in
        let stop : s'.stopped ≡ s.stopped = ap (λ (z : Shared B). z.stopped) kept in
        let closes : Closes s s' = subst (λ (z : Shared B). z ≡ record s { seats = z.seats; set = z.set; global = z.global; barrier_open = z.barrier_open; stopped = z.stopped }) (sym kept) refl in
        let phased = sound.phased sound.seated.seat sound.seated.there in
        closed_by left spot InClosing.OpenBarrier q w.home.closing w.batch w.processed w w' s s' e sound (follows_in InClosing.Stop)
        (stays InClosing.OpenBarrier InClosing.Stop sound going closes seats (ap (λ z. z.closed) set) (ap (λ z. length z.shards) set) refl refl refl (λ is. stop ∙ (phased.by_zero is).0) (λ h. stop ∙ h) q refl refl refl refl tt refl refl (λ no. absurd (false≢true no)) (λ no. absurd (false≢true no)) sound.aims)
        (alone sound.aims set (λ h. stop ∙ h)) (inl (ap (λ (z : Shared B). z.global) kept)) (unset seats) (calm InClosing.OpenBarrier q sound (follows_in InClosing.Stop) refl seats set) (holds_still q seats) (ap (λ v. map queue_of_chair v.items) seats) goes
        (λ p vs suits.
        let again = view_found vs w.index (visible w) suits.seen in
        record {
          choice = Plain;
          moves =
              subst (λ y. move_at p.config w.index (own_of w) (common_of left spot p vs s) (desk_of w) (things_with vs s) y ≡ record { event = e; choice = Plain; desk = desk_of (record w { place = q }); thing = things_with (with_view vs w.index (visible w)) s' }) (sym sound.here)
              (shown_as _ (λ v. record { event = e; choice = Plain; desk = desk_of (record w { place = q }); thing = things_with v s' }) vs _ again
              (rw event (ap (λ (z : Shared B). record { event = Turn; choice = Plain; desk = desk_of (record w { place = q }); thing = things_with vs z }) (sym kept))));
          may = rw event tt;
          own = rw (event, sound.here) refl;
          common = rw event (ap (λ v. common_of left spot p v s') again ∙ ap (common_of left spot p vs) kept ∙ rw sound.here refl);
        })

    -- The pool is stopped, and the roots of others are told next, or the own queue is emptied.
    pub pool_stopped : SoundAt (Place.Closing InClosing.Stop) w s → IsGoing w.index s.seats.items → e ≡ Stop → w' ≡ record w { place = tells_from s.config 1 } → s' ≡ record s { stopped = true } → Steps left spot w s e w' s'
    pool_stopped sound going event goes kept = by (nat_lt 1 s.config.workers) refl
      where
        leads : (n : ℕ) (q : Place) → tells_from s.config 1 ≡ q → closes_at q ≡ true → closing_in q ≡ Some (InClosing.TellRoot n) → Follows q → next_at q ≡ Next.Free → serves_at q ≡ false → owed_at w.workers q ≡ letters_to_roots (w.workers - 1) 1 → Aims q s.config w.index s.seats.items → drops_at q ≡ no_drops → LetsGoAt q (driver_of w).requests w.home.timers → HasBatch q w.batch.values → Steps left spot w s e w' s'
        leads n q is closes_there closing follows free unserved owes aims drops lets_go batch =
            let seats : s'.seats ≡ s.seats = ap (λ (z : Shared B). z.seats) kept in
            let set : s'.set ≡ s.set = ap (λ (z : Shared B). z.set) kept in
            let stop : s'.stopped ≡ true = ap (λ (z : Shared B). z.stopped) kept in
            let closes : Closes s s' = subst (λ (z : Shared B). z ≡ record s { seats = z.seats; set = z.set; global = z.global; barrier_open = z.barrier_open; stopped = z.stopped }) (sym kept) refl in
            let phased : IsPhased w.index true (Some InClosing.Stop) w.home.closing w.root w.names.unreleased (stage_of sound.seated.seat s) s.tasks.items = sound.phased sound.seated.seat sound.seated.there in
            closed_by left spot InClosing.Stop q w.home.closing w.batch w.processed w w' s s' e sound follows
            (stays InClosing.Stop (InClosing.TellRoot n) sound going closes seats (ap (λ z. z.closed) set) (ap (λ z. length z.shards) set) refl refl refl (λ zero. stop) (λ h. stop) q closes_there closing refl refl tt refl refl lets_go batch aims)
            (alone sound.aims set (λ h. stop)) (inl (ap (λ (z : Shared B). z.global) kept)) (unset seats) (calm InClosing.Stop q sound follows drops seats set) (holds_still q seats) (ap (λ v. map queue_of_chair v.items) seats) (goes ∙ ap (λ y. record w { place = y }) is)
            (λ p vs suits.
            let cs = common_of left spot p vs s in
            let again = view_found vs w.index (visible w) suits.seen in
            let mine = own_seat left spot p vs w s sound.seated.seat suits sound.seated.there in
            let no_letters : letters_in w.letters ≡ [] = sound.letters.none refl in
            let owed : owed_at w.workers q ++ letters_in w.letters ≡ letters_to_roots (w.workers - 1) 1 = ap (λ xs. xs ++ letters_in w.letters) owes ∙ ap (λ ys. letters_to_roots (w.workers - 1) 1 ++ ys) no_letters ∙ append-nil (letters_to_roots (w.workers - 1) 1) in
            let unstopped : s.stopped ≡ false = (phased.by_zero sound.aims).0 in
            record {
              choice = Plain;
              moves =
                  subst (λ y. move_at p.config w.index (own_of w) cs (desk_of w) (things_with vs s) y ≡ record { event = e; choice = Plain; desk = desk_of (record w { place = q }); thing = things_with (with_view vs w.index (visible w)) s' }) (sym sound.here)
                  (shown_as _ (λ v. record { event = e; choice = Plain; desk = desk_of (record w { place = q }); thing = things_with v s' }) vs _ again
                  (rw (event, ← suits.config, is) (ap (λ (z : Shared B). record { event = Stop; choice = Plain; desk = desk_of (record w { place = q }); thing = things_with vs z }) (sym kept))));
              may = rw (event, sound.here, no_letters) (refl, (rw sound.aims refl, (rw mine (now_closing sound.seated.seat.phase phased.opened (going sound.seated.seat sound.seated.there)), (rw unstopped refl, tt))));
              own = rw (event, sound.here, follows.polls, free, unserved, owed, ← suits.config, sound.workers) refl;
              common = rw event (ap (λ v. common_of left spot p v s') again ∙ ap (common_of left spot p vs) kept);
            })

        by : (others : Bool) → nat_lt 1 s.config.workers ≡ others → Steps left spot w s e w' s'
        by true is =
            let some : 1 < s.config.workers = grind (arith, nat_tests, is) in
            leads 1 (Place.Closing (InClosing.TellRoot 1)) (rw is refl) refl refl (follows_in (InClosing.TellRoot 1)) refl refl refl (omega (arith, sound.aims), some) refl (λ no. absurd (false≢true no)) (λ no. absurd (false≢true no))
        by false is =
            let none : w.workers - 1 ≡ 0 = grind (arith, nat_tests, is, sound.workers) in
            leads 0 (Place.Pop InPop.PopAlone AfterPop.Discard) (rw is refl) refl refl (follows_pop false) refl refl (rw none refl) tt refl (λ no. absurd (false≢true no)) (λ no. absurd (false≢true no))
