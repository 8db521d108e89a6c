-- What the steps of a signal are to the machine: the latch goes into the wake word of a worker, and its wait is ended.
use Rattle.std.proofs.{Common.{◌≡◌, ℕ, ◌+◌, ◌*◌, ◌-◌, ◌<◌, ◌≤◌, inl, Bool, true, false, List, [], ◌∷◌, length, map, Option, Some, refl, sym, ap, subst, ◌∙◌, arith, slice_get, slice_set, nat_lt, ◌==◌, get_or, if◌then◌else◌}, lemmas.{Bool.false≢true, List.length-set, Option.{get_or_from_slice_get, slice_get-get_or}}}
use Rattle.exec_words.specs.{Word.asks_signal, declared.word.PureWord.PureWord}
use Rattle.exec_task.specs.declared.body.Said.{Said}
use Rattle.exec_machine.specs.{declared.{event.Event.{Event, TheVariants.{Turn, Rouse}}, state.{Letter.Letter as Owed, Rest.Rest}}, Choice.Choice.Plain, After.common_after, Closing.letters_to_roots, Progress.Plan, Tests.is_awake, World.{no_seat, seat_of}}
use Rattle.exec_moves.specs.{declared.{handing.{AfterCancels.AfterCancels, AfterClaim.AfterClaim, AfterKick.AfterKick, AfterPop.AfterPop, AfterPush.AfterPush, AfterSend.AfterSend, AfterSignal.AfterSignal, InKick.InKick, InPop.InPop, InSignal.InSignal}, place.{InClosing.InClosing, InPick.InPick, InPoll.InPoll, Place.Place}}, Claim.{is_ring, latched, rousing}, Move.move_at, Parts.{after_cancels, after_send, after_signal, after_visit, cancels_left, has_others, tells_from}, Seen.{polls_at, serves_at}}
use Rattle.exec_parts.specs.{declared.parts.{seat.Seat.Seat as Chair, shared.Shared.Shared, worker.Worker.Worker}, Phased.{IsPhased, TurnsChair, closes_at, closing_in, stage_of}, Pooled.{OfChair, chair_latched, chair_raised, event_rousing}, Spots.Spot, Tests.{after_leave_of, after_push_of, after_signal_of}, View.{Views, Visible, common_of, desk_of, driver_of, letters_in, owed_at, own_of, seat_seen, seats_seen, things_with, visible, with_view}}
use Rattle.exec_invariants.{proofs.{Showing.{map_kept, own_word_seen, seats_kept, word_shows}, Aside.{beside_calm, queue_of_chair, queues_set, seats_other}, Handed.{Between, KickSeen, NextSeen, kick_comes, kick_seen, ltb-true, ltb-false, onward, out, push_comes, push_seen, same_kick}, Hearing.unheard, Idled.{Comes, Fares, Settles, comes, fares, settled}, PoolKept.{gate_spared, gates_set}, Queueing.if_either, Seats.{chair_set, seat_there as seen_there}, Rousing.{Keeps, seat_was, seated_now, stage_was, wake_shows}, Thieves.seat_there, Turning.{Arrives, GoesOn, IsTurn, Shares, sound_on, turned, view_found}}, specs.{Holding.box_of, Kinds.Kind, Places.{claims_at, drops_at, has_count_at, is_armed_at, is_published_at}, Sound.{Aims, HasLetters, HasQueue, LetsGo, SoundAt}, Spares.SparesChair, Works.{Beside, Steps, Suits, Works}}}
use Rattle.exec_steps.proofs.{CallNext.push_next, SignalWays.arrives_there}

module _ {B L : Type 0} (left : B → L) (spot : L → Option Said → Spot) (w w' : Worker) (s s' : Shared B) (e : Event) where
  shares : s' ≡ record s { seats = s'.seats } → Shares s s'
  shares kept = subst (λ (z : Shared B). z ≡ record s { seats = z.seats; idle = z.idle; global = z.global }) (sym kept) refl

  -- where it goes on
  pub record Ways (q next : Place) : Type 0 where
    pub is : IsTurn w.workers q next
    pub to : Arrives next w (record w { place = next }) s s'
    pub beside : Beside w s (record w { place = next }) s'

  module _ (k : ℕ) (its its' : Chair) (keeps : Keeps its its') (boxed : box_of its' ≡ box_of its) (spares : SparesChair its its') (kept : s' ≡ record s { seats = s'.seats }) (there : slice_get s.seats.items k ≡ Some its) (set : s'.seats.items ≡ slice_set s.seats.items k its') where
    as_many_seats : length s'.seats.items ≡ length s.seats.items
    as_many_seats = ap length set ∙ length-set s.seats.items k its'

    more_seats : length s.seats.items ≤ length s'.seats.items
    more_seats = omega (arith, as_many_seats)

    seat_beside : (q next : Place) → SoundAt q w s → polls_at next ≡ polls_at q → claims_at next ≡ claims_at q → has_count_at next ≡ has_count_at q → is_published_at next ≡ is_published_at q → drops_at next ≡ drops_at q → Beside w s (record w { place = next }) s'
    seat_beside q next sound polls claims counts published drops =
        beside_calm w (record w { place = next }) s s'
        (record { hand = refl; loot = refl; polls = polls ∙ sym (ap polls_at sound.here); claims = claims ∙ sym (ap claims_at sound.here); searching = refl; counts = counts ∙ sym (ap has_count_at sound.here); index = refl; published = published ∙ sym (ap is_published_at sound.here); drops = drops ∙ sym (ap drops_at sound.here); told = record { batch = refl; letters = refl; left = refl } })
        (shares kept) (seats_other w.index k s.seats.items s'.seats.items its its' set there (rw keeps.queue (omega arith)) spares) (gates_set k s.seats.items s'.seats.items its its' set there (gate_spared its its' spares)) (ap (map queue_of_chair) set ∙ queues_set s.seats.items k its its' there keeps.queue)
        (ap (map box_of) set ∙ map_kept box_of s.seats.items k its' its there boxed) (ap (λ (z : Shared B). z.idle) kept) (ap (λ (z : Shared B). z.global) kept)

    -- a worker that doesn't move has the same to say
    stays : (x : InSignal) (j : ℕ) (b : AfterSignal) → SoundAt (Place.Signal x j b) w s → SoundAt (Place.Signal x j b) w s'
    stays x j b sound = subst (λ p. SoundAt p w s') sound.here (sound_on q w w s s' sound (record { same = refl; read = sound.time.read; asleep = sound.time.asleep }) (shares kept) more_seats (subst (λ p. Arrives p w w s s') (sym sound.here) to))
      where
        q : Place
        q = Place.Signal x j b

        was : (chair : Chair) → slice_get s'.seats.items w.index ≡ Some chair → (old : Chair) × (slice_get s.seats.items w.index ≡ Some old) × Keeps old chair
        was chair at_own = seat_was k its its' keeps s s' there set w.index chair at_own

        to : Arrives q w w s s'
        to =
            let queue : (chair : Chair) → slice_get s'.seats.items w.index ≡ Some chair → HasQueue q chair.queue = λ chair at_own. let old = was chair at_own in subst (HasQueue q) (sym old.2.queue) (sound.queue old.0 old.1) in
            let aims : Aims q s.config w.index s'.seats.items = (omega (arith, sound.aims.0, as_many_seats), sound.aims.1) in
            let batch_place : (chair : Chair) → slice_get s'.seats.items w.index ≡ Some chair → chair.mailbox.inbox.closed ≡ false → 2 * chair.made + 1 ≤ w.batch.places = λ chair at_own opened. let old = was chair at_own in omega (arith, sound.batch_place old.0 old.1 (rw (← old.2.inbox) opened), old.2.made) in
            let phased : (chair : Chair) → slice_get s'.seats.items w.index ≡ Some chair → IsPhased w.index (closes_at q) (closing_in q) w.home.closing w.root w.names.unreleased (stage_of chair s) s.tasks.items = λ chair at_own.
            let old = stage_was k its its' keeps s s' there set w.index chair at_own in
            subst (λ stage. IsPhased w.index (closes_at q) (closing_in q) w.home.closing w.root w.names.unreleased stage s.tasks.items) old.2 (sound.phased old.0 old.1) in
            assumption (seated_now k its its' keeps s s' there set w.index (is_armed_at q) s.config.workers sound.seated, queue, aims, batch_place, phased, sound)

    -- TO A PLACE of that kind
    fares_to : (x : InSignal) (j : ℕ) (b : AfterSignal) (next : Place) → SoundAt (Place.Signal x j b) w s → ((n : ℕ) → owed_at n next ≡ owed_at n (Place.Signal x j b)) → serves_at next ≡ false → Fares (Place.Signal x j b) next (out false) w s' → Ways (Place.Signal x j b) next
    fares_to x j b next sound owes unserved it =
        let q : Place = Place.Signal x j b in
        let w1 : Worker = record w { place = next } in
        let none : w.searching ≡ false = sound.searching in
        record {
          is = record { polls = ap (λ (n : Kind). n.polls) it.same; free = refl; free_then = ap (λ (n : Kind). n.next) it.same; unserved = unserved; owes = owes w.workers };
          to = arrives_there next w w1 s s' kept (settled q next (out false) w w1 s' s' (stays x j b sound) refl (record { root_ready = refl; hand = refl; loot = refl }) none (λ alone. refl) it);
          beside = seat_beside q next sound (ap (λ (n : Kind). n.polls) it.same) (ap (λ (n : Kind). n.claims) it.same) it.counts it.published (ap (λ (n : Kind). n.drops) it.same);
        }

    comes_to : (x : InSignal) (j : ℕ) (b : AfterSignal) (next : Place) → SoundAt (Place.Signal x j b) w s → Comes (Place.Signal x j b) next (out false) w s' → Ways (Place.Signal x j b) next
    comes_to x j b next sound it = fares_to x j b next sound (λ n. ap (λ (z : Kind). z.owes n) it.same) (ap (λ (z : Kind). z.serves) it.same) (fares (Place.Signal x j b) next (out false) w s' (stays x j b sound) it)

    settles_to : (x : InSignal) (j : ℕ) (b : AfterSignal) (next : Place) → SoundAt (Place.Signal x j b) w s → Settles (Place.Signal x j b) next (out false) w s' → Ways (Place.Signal x j b) next
    settles_to x j b next sound it = comes_to x j b next sound (comes (Place.Signal x j b) next (out false) w s' (stays x j b sound) it)

    between : (x : InSignal) (j : ℕ) (b : AfterSignal) → SoundAt (Place.Signal x j b) w s → Between (Place.Signal x j b) (Place.Signal x j b) w s'
    between x j b sound = let now = stays x j b sound in record { same = same_kick w.role (Place.Signal x j b) (Place.Signal x j b) refl; held = now.queue; batch = now.batch; quiet = refl }

    -- the letters are told one by one
    pub cancels_to : (x : InSignal) (j : ℕ) (b : AfterCancels) → SoundAt (Place.Signal x j (AfterSignal.Send (AfterSend.Cancels b))) w s → (letters : List Owed) → letters_in w.letters ≡ letters → Ways (Place.Signal x j (AfterSignal.Send (AfterSend.Cancels b))) (cancels_left b (desk_of w) letters)
    cancels_to x j b sound (letter ∷ letters) are =
        let a : AfterSignal = AfterSignal.Send (AfterSend.Cancels b) in
        let now = stays x j a sound in
        let letters : HasLetters true true w.index s'.config.workers w.letters s'.requests.items s'.sleepers.items = record { some = λ h. rw are refl; none = λ no. absurd (false≢true (sym no)); requests = now.letters.requests; timer = now.letters.timer } in
        fares_to x j a (Place.SendCancel b) sound (λ n. refl) refl
        (record { same = refl; searches = refl; counts = refl; published = refl; queue = now.queue; aims = tt; batch = now.batch; quiet = λ h. now.quiet refl; left = tt; told = now.told; letters = letters; lets_go = now.lets_go; phased = now.phased })
    cancels_to x j b sound [] are = by b sound
      where
        none : (a : AfterCancels) → SoundAt (Place.Signal x j (AfterSignal.Send (AfterSend.Cancels a))) w s' → HasLetters false false w.index s'.config.workers w.letters s'.requests.items s'.sleepers.items
        none a now = record { some = λ no. absurd (false≢true no); none = λ h. are; requests = now.letters.requests; timer = now.letters.timer }

        q : AfterCancels → Place
        q a = Place.Signal x j (AfterSignal.Send (AfterSend.Cancels a))

        by : (a : AfterCancels) → SoundAt (q a) w s → Ways (q a) (after_cancels a (desk_of w))
        by (AfterCancels.Remove t) at_a =
            let now = stays x j (AfterSignal.Send (AfterSend.Cancels (AfterCancels.Remove t))) at_a in
            fares_to x j (AfterSignal.Send (AfterSend.Cancels (AfterCancels.Remove t))) (Place.Poll t InPoll.RemoveTask) at_a (λ n. refl) refl
            (record { same = refl; searches = refl; counts = refl; published = refl; queue = now.queue; aims = tt; batch = now.batch; quiet = λ h. now.quiet refl; left = tt; told = now.told; letters = none (AfterCancels.Remove t) now; lets_go = now.lets_go; phased = now.phased })
        by AfterCancels.Pick at_a =
            let a : AfterSignal = AfterSignal.Send (AfterSend.Cancels AfterCancels.Pick) in
            let now = stays x j a at_a in
            if_either (λ z. Ways (q AfterCancels.Pick) z) (w.picks == 0) Place.TakeRootFlag (Place.Pick InPick.CountDown)
            (fares_to x j a Place.TakeRootFlag at_a (λ n. refl) refl
            (record { same = refl; searches = tt; counts = refl; published = refl; queue = now.queue; aims = tt; batch = now.batch; quiet = λ h. now.quiet refl; left = tt; told = now.told; letters = none AfterCancels.Pick now; lets_go = now.lets_go; phased = now.phased }))
            (fares_to x j a (Place.Pick InPick.CountDown) at_a (λ n. refl) refl
            (record { same = refl; searches = tt; counts = refl; published = refl; queue = now.queue; aims = tt; batch = now.batch; quiet = λ h. now.quiet refl; left = tt; told = now.told; letters = none AfterCancels.Pick now; lets_go = now.lets_go; phased = now.phased }))
        by (AfterCancels.Visit drain) at_a = visit (drain.left == 0) refl
          where
            a : AfterSignal
            a = AfterSignal.Send (AfterSend.Cancels (AfterCancels.Visit drain))

            now : SoundAt (Place.Signal x j a) w s'
            now = stays x j a at_a

            -- the closing is where this says
            closing : (last : Bool) → (drain.left == 0) ≡ last → after_visit drain ≡ (if last then InClosing.LeaveBarrier else InClosing.Visit drain)
            closing last is = ap (λ (z : Bool). if z then InClosing.LeaveBarrier else InClosing.Visit drain) is

            phased : (last : Bool) → (drain.left == 0) ≡ last → (chair : Chair) → slice_get s'.seats.items w.index ≡ Some chair → IsPhased w.index true (Some (if last then InClosing.LeaveBarrier else InClosing.Visit drain)) w.home.closing w.root w.names.unreleased (stage_of chair s') s'.tasks.items
            phased last is chair at_own = subst (λ z. IsPhased w.index true (Some z) w.home.closing w.root w.names.unreleased (stage_of chair s') s'.tasks.items) (closing last is) (now.phased chair at_own)

            lets_go : (last : Bool) → (drain.left == 0) ≡ last → LetsGo (Some (if last then InClosing.LeaveBarrier else InClosing.Visit drain)) false (driver_of w).requests w.home.timers
            lets_go last is = subst (λ z. LetsGo (Some z) false (driver_of w).requests w.home.timers) (closing last is) now.lets_go

            visit : (last : Bool) → (drain.left == 0) ≡ last → Ways (Place.Signal x j a) (Place.Closing (after_visit drain))
            visit true is =
                subst (λ z. Ways (Place.Signal x j a) (Place.Closing z)) (sym (closing true is))
                (fares_to x j a (Place.Closing InClosing.LeaveBarrier) at_a (λ n. refl) refl
                (record { same = refl; searches = refl; counts = refl; published = refl; queue = now.queue; aims = tt; batch = now.batch; quiet = λ h. now.quiet refl; left = tt; told = now.told; letters = none (AfterCancels.Visit drain) now; lets_go = lets_go true is; phased = phased true is }))
            visit false is =
                subst (λ z. Ways (Place.Signal x j a) (Place.Closing z)) (sym (closing false is))
                (fares_to x j a (Place.Closing (InClosing.Visit drain)) at_a (λ n. refl) refl
                (record { same = refl; searches = refl; counts = refl; published = refl; queue = now.queue; aims = tt; batch = now.batch; quiet = λ h. now.quiet refl; left = tt; told = now.told; letters = none (AfterCancels.Visit drain) now; lets_go = lets_go false is; phased = phased false is }))

    -- the stop is told to the next root, or was told to all, and the own run queue is emptied
    tells_to : (x : InSignal) (j n : ℕ) → SoundAt (Place.Signal x j (AfterSignal.Send (AfterSend.Tell n))) w s → (more : Bool) → nat_lt n s.config.workers ≡ more → Ways (Place.Signal x j (AfterSignal.Send (AfterSend.Tell n))) (tells_from s.config n)
    tells_to x j n sound true is =
        let a : AfterSignal = AfterSignal.Send (AfterSend.Tell n) in
        let now = stays x j a sound in
        let less : n < s'.config.workers = omega (arith, ltb-true n s.config.workers is, ap (λ (z : Shared B). z.config.workers) kept) in
        rw is
        (settles_to x j a (Place.Closing (InClosing.TellRoot n)) sound
        (record { same = refl; searches = refl; counts = refl; published = refl; queue = now.queue; aims = (sound.aims.1, less); batch = now.batch; quiet = λ h. refl }))
    tells_to x j n sound false is =
        rw is
        (if_either (λ z. Ways q z) (has_others s.config) (Place.Pop InPop.LoadPopHead AfterPop.Discard) (Place.Pop InPop.PopAlone AfterPop.Discard)
        (to InPop.LoadPopHead now.queue refl) (to InPop.PopAlone now.queue refl))
      where
        a : AfterSignal
        a = AfterSignal.Send (AfterSend.Tell n)

        q : Place
        q = Place.Signal x j a

        now : SoundAt q w s'
        now = stays x j a sound

        none : (m : ℕ) → w.workers ≡ m → letters_to_roots (m - n) n ≡ []
        none m are = let zero_left : m - n ≡ 0 = omega (arith, ltb-false n s.config.workers is, sound.workers, are) in rw zero_left refl

        phased : (chair : Chair) → slice_get s'.seats.items w.index ≡ Some chair → IsPhased w.index true (Some (InClosing.TellRoot 0)) w.home.closing w.root w.names.unreleased (stage_of chair s') s'.tasks.items
        phased chair at_own =
            let it : IsPhased w.index true (Some (InClosing.TellRoot n)) w.home.closing w.root w.names.unreleased (stage_of chair s') s'.tasks.items = now.phased chair at_own in
            record { told = it.told; opened = it.opened; ended = λ h. let no = it.ended h in absurd (cc); root = it.root; left = it.left; shut = it.shut; by_zero = it.by_zero; by_other = it.by_other; closed = it.closed; prepared = tt }

        to : (y : InPop) → ((chair : Chair) → slice_get s'.seats.items w.index ≡ Some chair → HasQueue (Place.Pop y AfterPop.Discard) chair.queue) → has_count_at (Place.Pop y AfterPop.Discard) ≡ false → Ways q (Place.Pop y AfterPop.Discard)
        to y queue counts =
            let w1 : Worker = record w { place = Place.Pop y AfterPop.Discard } in
            let it : Fares q (Place.Pop y AfterPop.Discard) (out false) w s' = record { same = refl; searches = refl; counts = counts; published = refl; queue = queue; aims = tt; batch = now.batch; quiet = λ h. now.quiet refl; left = tt; told = now.told; letters = now.letters; lets_go = now.lets_go; phased = phased } in
            record {
              is = record { polls = refl; free = refl; free_then = refl; unserved = refl; owes = sym (none w.workers refl) };
              to = arrives_there (Place.Pop y AfterPop.Discard) w w1 s s' kept (settled q (Place.Pop y AfterPop.Discard) (out false) w w1 s' s' now refl (record { root_ready = refl; hand = refl; loot = refl }) sound.searching (λ alone. refl) it);
              beside = seat_beside q (Place.Pop y AfterPop.Discard) sound refl refl counts refl refl;
            }

    -- where a signal leads
    signal_comes : (x : InSignal) (j : ℕ) (b : AfterSignal) → SoundAt (Place.Signal x j b) w s → Ways (Place.Signal x j b) (after_signal_of s.config b w)
    signal_comes x j (AfterSignal.Claim (AfterClaim.Kick (AfterKick.Leave b))) sound =
        let a : AfterSignal = AfterSignal.Claim (AfterClaim.Kick (AfterKick.Leave b)) in
        let q : Place = Place.Signal x j a in
        comes_to x j a (after_leave_of b w) sound (kick_comes (AfterKick.Leave b) q w s' (stays x j a sound) tt (onward q q (Place.Kick InKick.LoadKickCount (AfterKick.Leave b)) w s' (same_kick w.role q (Place.Kick InKick.LoadKickCount (AfterKick.Leave b)) refl) refl (between x j a sound)))
    signal_comes x j (AfterSignal.Claim (AfterClaim.Kick (AfterKick.Push b))) sound =
        let a : AfterSignal = AfterSignal.Claim (AfterClaim.Kick (AfterKick.Push b)) in
        let q : Place = Place.Signal x j a in
        let now = stays x j a sound in
        let next = push_next left spot b q w s' now (record { callbacks = refl; closes = refl; closing = refl; spare = refl; bare = refl; held = λ x h. h; batch = λ ms h. h }) in
        comes_to x j a (after_push_of b w) sound (push_comes b q w s' now next.comes (onward q q (Place.Kick InKick.LoadKickCount (AfterKick.Push b)) w s' (same_kick w.role q (Place.Kick InKick.LoadKickCount (AfterKick.Push b)) refl) refl (between x j a sound)))
    signal_comes x j (AfterSignal.Claim (AfterClaim.Global b)) sound =
        let a : AfterSignal = AfterSignal.Claim (AfterClaim.Global b) in
        let q : Place = Place.Signal x j a in
        let now = stays x j a sound in
        let next = push_next left spot b q w s' now (record { callbacks = refl; closes = refl; closing = refl; spare = refl; bare = refl; held = λ x h. h; batch = λ ms h. h }) in
        comes_to x j a (after_push_of b w) sound (push_comes b q w s' now next.comes (onward q q (Place.Kick InKick.LoadKickCount (AfterKick.Push b)) w s' (same_kick w.role q (Place.Kick InKick.LoadKickCount (AfterKick.Push b)) refl) refl (between x j a sound)))
    signal_comes x j (AfterSignal.Send (AfterSend.Act t)) sound =
        let now = stays x j (AfterSignal.Send (AfterSend.Act t)) sound in
        settles_to x j (AfterSignal.Send (AfterSend.Act t)) (Place.Poll t InPoll.Act) sound (record { same = refl; searches = refl; counts = refl; published = refl; queue = now.queue; aims = tt; batch = now.batch; quiet = λ h. refl })
    signal_comes x j (AfterSignal.Send (AfterSend.Pend t)) sound =
        let now = stays x j (AfterSignal.Send (AfterSend.Pend t)) sound in
        settles_to x j (AfterSignal.Send (AfterSend.Pend t)) (Place.Poll t InPoll.Pend) sound (record { same = refl; searches = refl; counts = refl; published = refl; queue = now.queue; aims = tt; batch = now.batch; quiet = λ h. refl })
    signal_comes x j (AfterSignal.Send (AfterSend.Cancels b)) sound = cancels_to x j b sound (letters_in w.letters) refl
    signal_comes x j (AfterSignal.Send (AfterSend.Tell n)) sound = tells_to x j n sound (nat_lt n s.config.workers) refl

    module _ (q next : Place) (sound : SoundAt q w s) (come : Ways q next) where
      abbrev w1 : Worker
      w1 = record w { place = next }

      goes_on : GoesOn w w1 s.clock
      goes_on = record { same = refl; read = sound.time.read; asleep = sound.time.asleep }

      -- nothing of the seat is to be seen by the machine
      seat_turned : w' ≡ w1 → e ≡ Turn → ((v : Visible) → seat_seen v its' ≡ seat_seen v its)
          → ((p : Plan) (vs : Views) → Suits p vs w s → move_at p.config w.index (own_of w) (common_of left spot p vs s) (desk_of w) (things_with vs s) q ≡ record { event = Turn; choice = Plain; desk = desk_of w1; thing = things_with vs s' }) → Steps left spot w s e w' s'
      seat_turned goes event shows moves = subst (λ v. Steps left spot w s e v s') (sym goes)
          (turned left spot q w w1 s s' e sound event goes_on (shares kept) (ap (λ (z : Shared B). z.global.closed) kept) (λ vs. ap (seats_seen vs) set ∙ seats_kept vs s.seats.items k its its' there shows) come.is come.to come.beside moves)

      -- or that its worker was roused
      seat_roused : w' ≡ w1 → e ≡ Rouse k → is_awake its.rest ≡ false → ((v : Visible) → seat_seen v its' ≡ record (seat_seen v its) { rest = Rest.Awake }) → k < length s.seats.items → serves_at q ≡ false
          → ((p : Plan) (vs : Views) → Suits p vs w s → move_at p.config w.index (own_of w) (common_of left spot p vs s) (desk_of w) (things_with vs s) q ≡ record { event = rousing (common_of left spot p vs s) k; choice = Plain; desk = desk_of w1; thing = things_with vs s' }) → Steps left spot w s e w' s'
      seat_roused goes event asleep shows few unserved moves = subst (λ v. Steps left spot w s e v s') (sym goes)
          (works, sound_on q w w1 s s' sound goes_on (shares kept) more_seats come.to, unheard refl (ap (λ (z : Shared B). z.config) kept) (ap (λ (z : Shared B). z.tasks.items) kept), come.beside)
        where
          works : (p : Plan) (vs : Views) → Suits p vs w s → Works left spot p vs w s e w1 s'
          works p vs suits =
              let cs = common_of left spot p vs s in
              let v : Visible = get_or vs.workers k (visible w) in
              let seen : slice_get vs.workers k ≡ Some v = slice_get-get_or vs.workers k (visible w) (omega (arith, few, suits.workers, sound.seated.many)) in
              let seat : seat_of cs k ≡ seat_seen v its = get_or_from_slice_get (seats_seen vs.workers s.seats.items) k (seat_seen v its) no_seat (seen_there vs.workers s.seats.items k v its seen there) in
              let again : with_view vs w.index (visible w1) ≡ vs = view_found vs w.index (visible w) suits.seen in
              let is = come.is in
              let own : own_of w1 ≡ own_of w = rw (sound.here, is.polls, is.free_then, is.free, is.unserved, unserved, is.owes) refl in
              let rest : is_awake (seat_of cs k).rest ≡ false = rw seat asleep in
              let rouses : rousing cs k ≡ Rouse k = rw rest refl in
              let after : common_after p.config (own_of w) cs w.index e Plain ≡ record cs { seats = slice_set (seats_seen vs.workers s.seats.items) k (record (seat_seen v its) { rest = Rest.Awake }) } = rw (event, seat) refl in
              record {
                choice = Plain;
                moves = subst (λ y. move_at p.config w.index (own_of w) cs (desk_of w) (things_with vs s) y ≡ record { event = e; choice = Plain; desk = desk_of w1; thing = things_with (with_view vs w.index (visible w1)) s' }) (sym sound.here) (moves p vs suits ∙ ap (λ x. record { event = x; choice = Plain; desk = desk_of w1; thing = things_with vs s' }) (rouses ∙ sym event) ∙ ap (λ x. record { event = e; choice = Plain; desk = desk_of w1; thing = things_with x s' }) (sym again));
                may = rw (event, sound.here, is.free, rest) (refl, (refl, tt));
                own = rw event own;
                common = ap (λ x. common_of left spot p x s') again ∙ ap (common_of left spot p vs) kept ∙ ap (λ seats. record cs { seats = seats }) (ap (seats_seen vs.workers) set ∙ chair_set vs.workers s.seats.items k v its' seen ∙ ap (slice_set (seats_seen vs.workers s.seats.items) k) (shows v)) ∙ sym after;
              }

  -- THE SIGNAL

  -- what follows a push of the callbacks
  next_seen_by : (x : InSignal) (j : ℕ) (b : AfterPush) (p : Plan) (vs : Views) → SoundAt (Place.Signal x j (AfterSignal.Claim (AfterClaim.Global b))) w s → Suits p vs w s → NextSeen left spot b p vs w s
  next_seen_by x j b p vs sound suits = (push_next left spot b (Place.Signal x j (AfterSignal.Claim (AfterClaim.Global b))) w s sound (record { callbacks = refl; closes = refl; closing = refl; spare = refl; bare = refl; held = λ x h. h; batch = λ ms h. h })).seen p vs suits

  kick_seen_by : (x : InSignal) (j : ℕ) (b : AfterKick) (p : Plan) (vs : Views) → SoundAt (Place.Signal x j (AfterSignal.Claim (AfterClaim.Kick b))) w s → Suits p vs w s → KickSeen left spot b p vs w s
  kick_seen_by x j (AfterKick.Leave b) p vs sound suits = tt
  kick_seen_by x j (AfterKick.Push b) p vs sound suits = (push_next left spot b (Place.Signal x j (AfterSignal.Claim (AfterClaim.Kick (AfterKick.Push b)))) w s sound (record { callbacks = refl; closes = refl; closing = refl; spare = refl; bare = refl; held = λ x h. h; batch = λ ms h. h })).seen p vs suits

  signal_seen : (p : Plan) (vs : Views) (x : InSignal) (j : ℕ) (b : AfterSignal) → SoundAt (Place.Signal x j b) w s → Suits p vs w s → after_signal p.config w.index (own_of w) (common_of left spot p vs s) b (desk_of w) ≡ after_signal_of s.config b w
  signal_seen p vs x j (AfterSignal.Claim (AfterClaim.Kick b)) sound suits = kick_seen left spot p vs (Place.Signal x j (AfterSignal.Claim (AfterClaim.Kick b))) w s sound suits.config b (kick_seen_by x j b p vs sound suits)
  signal_seen p vs x j (AfterSignal.Claim (AfterClaim.Global b)) sound suits = push_seen left spot p vs (Place.Signal x j (AfterSignal.Claim (AfterClaim.Global b))) w s sound suits.config b (next_seen_by x j b p vs sound suits)
  signal_seen p vs x j (AfterSignal.Send b) sound suits = ap (λ c. after_send c b (desk_of w)) (sym suits.config)

  pub latch_set : (j : ℕ) (b : AfterSignal) → SoundAt (Place.Signal InSignal.SetLatch j b) w s → e ≡ Turn
      → OfChair j s (λ chair. w' ≡ record w { place = (if asks_signal chair.mailbox.waker then Place.Signal (InSignal.Raise (is_ring chair.mailbox.waker.target)) j b else after_signal_of s.config b w) })
      → TurnsChair j chair_latched s s' → s' ≡ record s { seats = s'.seats } → Steps left spot w s e w' s'
  latch_set j b sound event goes chair kept =
      seat_turned j its its' keeps refl spares kept there set q next sound (by (asks_signal word)) (goes its there) event (λ v. refl)
      (λ p vs suits. rw (own_word_seen j s its there, signal_seen p vs InSignal.SetLatch j b sound suits)
      (ap (λ x. record { event = Turn; choice = Plain; desk = record (desk_of w) { place = next }; thing = x }) (sym (word_shows vs j s s'.seats.items its (latched word) there set (things_with vs s') (ap (things_with vs) kept)))))
    where
      q : Place
      q = Place.Signal InSignal.SetLatch j b

      found : (seat : Chair) × (slice_get s.seats.items j ≡ Some seat)
      found = seat_there j q w s sound sound.aims.0

      its : Chair
      its = found.0

      its' : Chair
      its' = chair_latched its

      there : slice_get s.seats.items j ≡ Some its
      there = found.1

      word : PureWord
      word = its.mailbox.waker

      next : Place
      next = if asks_signal word then Place.Signal (InSignal.Raise (is_ring word.target)) j b else after_signal_of s.config b w

      set : s'.seats.items ≡ slice_set s.seats.items j its'
      set = chair its there

      keeps : Keeps its its'
      keeps = record { queue = refl; target = refl; inbox = refl; mail = λ h. assumption h; phase = refl; pool = refl; left = refl; made = refl }

      spares : SparesChair its its'
      spares = record { phase = refl; pool = refl; left = refl; closed = refl; target = refl; mail = λ h. assumption h; made = refl; queue = inl refl }

      by : (asks : Bool) → Ways q (if asks then Place.Signal (InSignal.Raise (is_ring word.target)) j b else after_signal_of s.config b w)
      by true =
          let now = stays j its its' keeps refl spares kept there set InSignal.SetLatch j b sound in
          let r : Place = Place.Signal (InSignal.Raise (is_ring word.target)) j b in
          settles_to j its its' keeps refl spares kept there set InSignal.SetLatch j b r sound
          (record { same = same_kick w.role q r refl; searches = refl; counts = refl; published = refl; queue = now.queue; aims = now.aims; batch = now.batch; quiet = λ h. h })
      by false = signal_comes j its its' keeps refl spares kept there set InSignal.SetLatch j b sound

  pub wait_ended : (ring : Bool) (j : ℕ) (b : AfterSignal) → SoundAt (Place.Signal (InSignal.Raise ring) j b) w s → OfChair j s (λ chair. e ≡ event_rousing j chair.rest) → w' ≡ record w { place = after_signal_of s.config b w }
      → TurnsChair j (chair_raised ring) s s' → s' ≡ record s { seats = s'.seats } → Steps left spot w s e w' s'
  wait_ended ring j b sound event goes chair kept = by (is_awake its.rest) refl
    where
      q : Place
      q = Place.Signal (InSignal.Raise ring) j b

      found : (seat : Chair) × (slice_get s.seats.items j ≡ Some seat)
      found = seat_there j q w s sound sound.aims.0

      its : Chair
      its = found.0

      its' : Chair
      its' = chair_raised ring its

      there : slice_get s.seats.items j ≡ Some its
      there = found.1

      next : Place
      next = after_signal_of s.config b w

      set : s'.seats.items ≡ slice_set s.seats.items j its'
      set = chair its there

      keeps : Keeps its its'
      keeps = record { queue = refl; target = refl; inbox = refl; mail = λ h. h; phase = refl; pool = refl; left = refl; made = refl }

      spares : SparesChair its its'
      spares = record { phase = refl; pool = refl; left = refl; closed = refl; target = refl; mail = λ h. h; made = refl; queue = inl refl }

      come : Ways q next
      come = signal_comes j its its' keeps refl spares kept there set (InSignal.Raise ring) j b sound

      awake : (rest : Rest) → is_awake rest ≡ true → rest ≡ Rest.Awake
      awake Rest.Awake h = refl
      awake _ h = absurd (false≢true h)

      -- what the machine makes of it
      moves : (p : Plan) (vs : Views) → Suits p vs w s → move_at p.config w.index (own_of w) (common_of left spot p vs s) (desk_of w) (things_with vs s) q ≡ record { event = rousing (common_of left spot p vs s) j; choice = Plain; desk = record (desk_of w) { place = next }; thing = things_with vs s' }
      moves p vs suits =
          let v : Visible = get_or vs.workers j (visible w) in
          let seen : slice_get vs.workers j ≡ Some v = slice_get-get_or vs.workers j (visible w) (omega (arith, sound.aims.0, suits.workers, sound.seated.many)) in
          rw (signal_seen p vs (InSignal.Raise ring) j b sound suits) (ap (λ x. record { event = rousing (common_of left spot p vs s) j; choice = Plain; desk = record (desk_of w) { place = next }; thing = x }) (sym (wake_shows ring vs j v its s s' seen there kept set)))

      by : (up : Bool) → is_awake its.rest ≡ up → Steps left spot w s e w' s'
      by true is =
          let up : its.rest ≡ Rest.Awake = awake its.rest is in
          let turn : e ≡ Turn = event its there ∙ rw is refl in
          let shows : (v : Visible) → seat_seen v its' ≡ seat_seen v its = λ v. ap (λ r. record (seat_seen v its) { rest = r }) (sym up) in
          seat_turned j its its' keeps refl spares kept there set q next sound come goes turn shows
          (λ p vs suits.
          let v : Visible = get_or vs.workers j (visible w) in
          let seen : slice_get vs.workers j ≡ Some v = slice_get-get_or vs.workers j (visible w) (omega (arith, sound.aims.0, suits.workers, sound.seated.many)) in
          let seat : seat_of (common_of left spot p vs s) j ≡ seat_seen v its = get_or_from_slice_get (seats_seen vs.workers s.seats.items) j (seat_seen v its) no_seat (seen_there vs.workers s.seats.items j v its seen there) in
          let still : rousing (common_of left spot p vs s) j ≡ Turn = rw (seat, is) refl in
          moves p vs suits ∙ ap (λ x. record { event = x; choice = Plain; desk = record (desk_of w) { place = next }; thing = things_with vs s' }) still)
      by false is =
          seat_roused j its its' keeps refl spares kept there set q next sound come goes (event its there ∙ rw is refl) is (λ v. refl) sound.aims.0 refl moves
