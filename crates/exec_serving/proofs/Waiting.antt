-- What the steps of the waits that touch the wake word are to the machine.
use Rattle.std.proofs.{Common.{rules, ◌≡◌, ℕ, ◌*◌, ◌+◌, ◌≤◌, ◌||◌, ◌⊎◌, inl, inr, Bool, true, false, [], List, length, get_or, map, Option, Some, None, refl, sym, ap, subst, ◌∙◌, ◌-◌, slice_get, slice_set, nat_lt, arith, if◌then◌else◌}, lemmas.{Bool.false≢true, List.length-set, Option.get_or_from_slice_get}}
use Rattle.exec_base.specs.Spinner.{after_miss}
use Rattle.exec_words.specs.{Word.is_idle_at, declared.word.{PureWord.PureWord, WaitTarget.WaitTarget}}
use Rattle.exec_task.specs.declared.body.Said.{Said}
use Rattle.exec_machine.specs.{declared.{event.Event.{Event, TheVariants.Turn}, state.Next.Next}, Choice.Choice.Plain, Progress.Plan}
use Rattle.exec_moves.specs.{declared.{idling.{AfterWait.AfterWait, InRingWait.InRingWait, InWordWait.InWordWait, Stay.Stay}, place.{AfterService.AfterService, Place.Place}}, Callback.serve, Load.has_mail, Move.move_at, Seen.{next_at, polls_at, serves_at}, State.{Moved, turns, word_of}, Thing.set_word, Wait.{after_wait, arm_ring, disarmed, goes_back, spin_on_batch, spin_on_latch, hit, missed, arm_word, after_sleep, withdraws}}
use Rattle.exec_parts.{specs.{declared.parts.{seat.Seat.Seat as Chair, shared.Shared.Shared, worker.Worker.Worker}, Phased.{IsPhased, closes_at, closing_in, stage_of}, Roles.is_pool, Spots.Spot, Tests.{after_wait_of, after_waiting_of, place_withdrawn}, View.{Views, common_of, desk_of, own_of, seats_seen, things_of, things_with}, Things.{Goes, Makes, TurnsWord}}, proofs.Facts.set_there}
use Rattle.exec_invariants.{proofs.{Showing.{map_kept, own_word_seen, seats_kept, word_shows}, Dedicated.{as_long, past_pool}, DedicatedSeen.pool_seen, Aside.{queue_of_chair, queues_set, seats_own, told_on, went}, Idled.{calm_of, guest_again, guest_calm, step_again, stops_again, stops_calm}, PoolKept.gates_set, Turning.{Arrives, GoesOn, IsTurn, Keeps, Lands, OfKind, Shares, by_place, by_spinner, pool_low, turned, word_back_again}}, specs.{Holding.box_of, Kinds.lowered, Places.{drops_at, has_count_at, is_armed_at, is_armed_on_ring, is_armed_on_word, is_pooled_at, is_published_at, searches_at, step_of_poll}, Sound.{Aims, GoesBack, HasBatch, HasQueue, IsSearching, IsSeated, SoundAt, has_wakes_at}, Works.{Steps, Suits}}}
use Rattle.exec_serving.proofs.Unposted.{SameButShown, beside_unposted}

-- the chair with another wake word
abbrev with_word : PureWord → Chair → Chair
with_word x chair = record chair { mailbox = record chair.mailbox { waker = x } }

armed_by : (b : Bool) → is_armed_on_word (if b then InWordWait.SleepOnWord else InWordWait.DisarmWord) ≡ true
armed_by true = refl
armed_by false = refl

armed_on_ring_by : (b : Bool) → is_armed_on_ring (if b then InRingWait.EnterRing else InRingWait.DisarmRing AfterWait.Serve) ≡ true
armed_on_ring_by true = refl
armed_on_ring_by false = refl

module _ {B : Type 0} where
  -- a place of the same kind, but for whether the wake word has a wait bit there, and where a wait of a dedicated worker is over
  pub record Arms (q q' : Place) (w : Worker) (s : Shared B) : Type 0 where
    pub same : calm_of q' ≡ lowered w.role (is_pooled_at q') (record (calm_of q) { armed = is_armed_at q' })
    pub searches : IsSearching (searches_at q') w.searching
    pub counts : has_count_at q' ≡ has_count_at q
    pub published : (is_published_at q' ≡ is_published_at q) ⊎ (is_pool w.role ≡ false)
    pub queue : (chair : Chair) → slice_get s.seats.items w.index ≡ Some chair → HasQueue q' chair.queue
    pub aims : (seats : List Chair) → Aims q' s.config w.index seats
    pub batch : HasBatch q' w.batch.values

  of_armed : (q q' : Place) (w : Worker) (s : Shared B) → SoundAt q w s → calm_of q' ≡ lowered w.role (is_pooled_at q') (record (calm_of q) { armed = is_armed_at q' }) → OfKind (calm_of q') w s
  of_armed q q' w s sound same =
      let here : OfKind (lowered w.role (is_pooled_at q') (record (calm_of q) { armed = is_armed_at q' })) w s = grind (arith, pool_low, guest_calm, stops_calm, step_again) in
      subst (λ k. OfKind k w s) (sym same) here

  -- what holds there once the wake word is this
  pub arrives_armed : (q q' : Place) (w v : Worker) (s s' : Shared B) (x : PureWord) → SoundAt q w s → Arms q q' w s → Keeps w v → has_wakes_at q ≡ false → (is_armed_at q' ≡ false → x.target ≡ WaitTarget.None)
      → ((chair : Chair) → slice_get s.seats.items w.index ≡ Some chair → s'.seats.items ≡ slice_set s.seats.items w.index (with_word x chair)) → Arrives q' w v s s'
  arrives_armed q q' w v s s' x sound arms keeps quiet unarmed sets =
      let it = of_armed q q' w s sound arms.same in
      let seat = sound.seated.seat in
      let items : s'.seats.items ≡ slice_set s.seats.items w.index (with_word x seat) = sets seat sound.seated.there in
      let found : slice_get s'.seats.items w.index ≡ Some (with_word x seat) = ap (λ xs. slice_get xs w.index) items ∙ set_there s.seats.items w.index (with_word x seat) seat sound.seated.there in
      let seated : IsSeated w.index (is_armed_at q') s.config.workers s'.seats.items = record { many = as_long (ap length items ∙ length-set s.seats.items w.index (with_word x seat)) sound.seated.many; pool = sound.seated.pool; seat = with_word x seat; there = found; unarmed = unarmed; mail = assumption sound.seated.mail } in
      record {
        runnable = rw (keeps.root_ready, keeps.hand) it.runnable;
        seated = seated;
        queue = λ chair there. let is : with_word x seat ≡ chair = cc (found, there) in subst (λ c. HasQueue q' c.queue) is (arms.queue seat sound.seated.there);
        hand = rw keeps.hand it.hand;
        loot = rw keeps.loot it.loot;
        genuine = rw keeps.hand it.genuine;
        stolen = rw keeps.loot sound.stolen;
        searching = rw keeps.searching arms.searches;
        pooled = it.pooled;
        serves = it.serves;
        calm = λ apart. keeps.searching ∙ sound.calm apart;
        aims = arms.aims s'.seats.items;
        guest = guest_again (polls_at q') (step_of_poll q') w.index w.root s.tasks.items it.guest;
        left = it.left;
        batch = arms.batch;
        batch_place = λ chair there. let is : with_word x seat ≡ chair = cc (found, there) in subst (λ (c : Chair). c.mailbox.inbox.closed ≡ false → 2 * c.made + 1 ≤ w.batch.places) is (sound.batch_place seat sound.seated.there);
        quiet = λ h. sound.quiet quiet;
        due = it.due;
        flown = it.flown;
        told = it.told;
        letters = it.letters;
        stops = stops_again (polls_at q') (step_of_poll q') w.index s.tasks.items s.requests.items s.sleepers.items it.stops;
        hears = it.hears;
        lets_go = it.lets_go;
        phased = λ chair there.
            let is : with_word x seat ≡ chair = cc (found, there) in
            subst (λ c. IsPhased w.index (closes_at q') (closing_in q') w.home.closing w.root w.names.unreleased (stage_of c s) s.tasks.items) is (it.phased seat sound.seated.there);
        tied = rw (← step_again w.root (polls_at q') (step_of_poll q')) it.tied;
      }

  -- WHAT FOLLOWS A WAIT

  pub after_arms : (q : Place) (n : AfterWait) (w : Worker) (s : Shared B) → SoundAt q w s → GoesBack n
      → calm_of (Place.Withdraw n) ≡ record (calm_of q) { armed = false; pooled = true } → calm_of Place.BeginTurn ≡ record (calm_of q) { armed = false; pooled = false } → searches_at q ≡ Some false → has_count_at q ≡ false → is_published_at q ≡ true
      → ((chair : Chair) → slice_get s.seats.items w.index ≡ Some chair → chair.queue.held ≡ []) → Arms q (after_waiting_of n w) w s
  after_arms q n w s sound back same apart searches counts published held = by (is_pool w.role) refl
    where
      none : w.searching ≡ false
      none = subst (λ (o : Option Bool). IsSearching o w.searching) searches sound.searching

      out : (p : Place) → calm_of p ≡ record (calm_of q) { armed = false; pooled = false } → is_armed_at p ≡ false → is_pooled_at p ≡ false → IsSearching (searches_at p) w.searching → has_count_at p ≡ false → is_pool w.role ≡ false
          → ((chair : Chair) → slice_get s.seats.items w.index ≡ Some chair → HasQueue p chair.queue) → ((seats : List Chair) → Aims p s.config w.index seats) → HasBatch p w.batch.values → Arms q p w s
      out p alike unarmed pooled found uncounted alone queue aims batch =
          grind (arith, alike, pooled, unarmed, found, uncounted, counts, alone, queue, aims, batch)

      goes : (m : AfterWait) → n ≡ m → GoesBack m → is_pool w.role ≡ false → Arms q (place_withdrawn false m w) w s
      goes AfterWait.Begin is h alone = out Place.BeginTurn apart refl refl tt refl alone held (λ seats. tt) (λ no. absurd (false≢true no))
      goes AfterWait.Serve is h alone = out (serve AfterService.Begin) apart refl refl tt refl alone held (λ seats. tt) (λ no. absurd (false≢true no))
      goes (AfterWait.MakeUp last) is h alone = absurd h
      goes AfterWait.Search is h alone = absurd h

      within : (m : AfterWait) → n ≡ m → GoesBack m → is_pool w.role ≡ true → Arms q (Place.Withdraw n) w s
      within m is h pool =
          search (rules, same ∙ ap (λ (b : Bool). record (calm_of q) { armed = false; pooled = b }) (sym (ap (λ b. is_pooled_at q || b) pool ∙ always (is_pooled_at q))), of_waits m is h, sym counts, held, published, false≢true)
        where
          always : (b : Bool) → (b || true) ≡ true
          always true = refl
          always false = refl

          of_waits : (m : AfterWait) → n ≡ m → GoesBack m → IsSearching (searches_at (Place.Withdraw n)) w.searching
          of_waits AfterWait.Begin is h = rw is none
          of_waits AfterWait.Serve is h = rw is none
          of_waits (AfterWait.MakeUp last) is h = absurd h
          of_waits AfterWait.Search is h = absurd h

      by : (b : Bool) → is_pool w.role ≡ b → Arms q (if b then Place.Withdraw n else place_withdrawn false n w) w s
      by true is = within n refl back is
      by false is = goes n refl back is

  -- the wake word of a chair that was read off the list is what is seen
  pub word_read : (q : Place) (w : Worker) (s : Shared B) (chair : Chair) → SoundAt q w s → chair ≡ get_or s.seats.items w.index chair → chair.mailbox.waker ≡ word_of (things_of s) w.index
  word_read q w s chair sound is =
      ap (λ c. c.mailbox.waker) (is ∙ get_or_from_slice_get s.seats.items w.index sound.seated.seat chair sound.seated.there) ∙ sym (own_word_seen w.index s sound.seated.seat sound.seated.there)

module _ {B L : Type 0} (left : B → L) (spot : L → Option Said → Spot) where
  -- The wake word becomes what the move makes of it. Without a wait bit none stands there.
  pub word_turned : (q : Place) (w w' : Worker) (s s' : Shared B) (e : Event) (m : Moved PureWord) →
      SoundAt q w s → TurnsWord w.index s s' m.thing → Makes m e w' → GoesOn w w' s.clock → Keeps w w' → m.event ≡ Turn → m.choice ≡ Plain → Arms q m.desk.place w s → (is_armed_at m.desk.place ≡ false → m.thing.target ≡ WaitTarget.None)
      → next_at q ≡ Next.Free → serves_at q ≡ false → has_wakes_at q ≡ false
      → ((p : Plan) (vs : Views) → Suits p vs w s → move_at p.config w.index (own_of w) (common_of left spot p vs s) (desk_of w) (things_with vs s) q ≡ record { event = m.event; choice = m.choice; desk = m.desk; thing = set_word w.index (things_with vs s) m.thing })
      → Steps left spot w s e w' s'
  word_turned q w w' s s' e m sound turns_word makes on keeps event choice to unarmed free unserved quiet moves =
      let seat = sound.seated.seat in
      let there : w'.place ≡ m.desk.place = ap (λ d. d.place) makes.desk in
      let arms : Arms q w'.place w s = subst (λ x. Arms q x w s) (sym there) to in
      let same = arms.same in
      let items : s'.seats.items ≡ slice_set s.seats.items w.index (with_word m.thing seat) = turns_word.seats seat sound.seated.there in
      let shares : Shares s s' = subst (λ (z : Shared B). z ≡ record s { seats = z.seats; idle = z.idle; global = z.global }) (sym turns_word.kept) refl in
      let index : w'.index ≡ w.index = ap (λ x. x.index) on.same in
      let profile : SameButShown w w' = search (rules, arms.counts ∙ sym (ap has_count_at sound.here), index, ap (λ k. k.drops) same ∙ sym (ap drops_at sound.here), told_on w w' s.clock on, keeps, same) in
      let shown : (is_published_at w'.place ≡ is_published_at w.place) ⊎ (s.config.workers ≤ w.index) =
      elim arms.published [ inl is ↦ inl (is ∙ sym (ap is_published_at sound.here)) | inr alone ↦ inr (past_pool q w s sound alone) ] in
      let is : IsTurn w.workers q w'.place = search (ap (λ k. k.polls) same, free, ap (λ k. k.next) same ∙ free, ap (λ k. k.serves) same ∙ unserved, ap (λ k. k.owes w.workers) same) in
      turned left spot q w w' s s' e sound (makes.event ∙ event) on shares (ap (λ (z : Shared B). z.global.closed) turns_word.kept)
      (λ vs. ap (λ xs. seats_seen vs xs) items ∙ seats_kept vs s.seats.items w.index seat (with_word m.thing seat) sound.seated.there (λ v. refl))
      is
      (arrives_armed q w'.place w w' s s' m.thing sound arms keeps quiet (λ h. unarmed (sym (ap is_armed_at there) ∙ h)) turns_word.seats)
      (beside_unposted w w' s s' profile shown shares (seats_own w.index s.seats.items s'.seats.items seat (with_word m.thing seat) items sound.seated.there (omega arith))
      (gates_set w.index s.seats.items s'.seats.items seat (with_word m.thing seat) items sound.seated.there (record { left = refl; pool = refl; closed = refl; mail = λ h. assumption h }))
      (ap (λ xs. map queue_of_chair xs) items ∙ queues_set s.seats.items w.index seat (with_word m.thing seat) sound.seated.there refl)
      (ap (λ xs. map box_of xs) items ∙ map_kept box_of s.seats.items w.index (with_word m.thing seat) seat sound.seated.there refl)
      (ap (λ (z : Shared B). z.idle) turns_word.kept) (ap (λ (z : Shared B). z.global) turns_word.kept))
      (λ p vs suits.
      moves p vs suits
      ∙ rw (event, choice, ← makes.desk) (ap (λ x. record { event = Turn; choice = Plain; desk = desk_of w'; thing = x })
      (sym (word_shows vs w.index s s'.seats.items seat m.thing sound.seated.there items (things_with vs s') (ap (λ (z : Shared B). things_with vs z) turns_word.kept)))))

  kept_by_place : (w w' : Worker) → Goes w w' → Keeps w w'
  kept_by_place w w' goes = subst (Keeps w) (sym goes) (record { root_ready = refl; hand = refl; loot = refl; searching = refl })

  kept_by_spinner : (w w' : Worker) → w' ≡ record w { place = w'.place; spinner = w'.spinner } → Keeps w w'
  kept_by_spinner w w' same = subst (Keeps w) (sym same) (record { root_ready = refl; hand = refl; loot = refl; searching = refl })

  pub ring_armed : (y : Stay) (w w' : Worker) (s s' : Shared B) (e : Event) → SoundAt (Place.RingWait InRingWait.ArmRing y) w s → Makes (arm_ring y (desk_of w) (word_of (things_of s) w.index)) e w' → Goes w w'
      → TurnsWord w.index s s' (arm_ring y (desk_of w) (word_of (things_of s) w.index)).thing → Steps left spot w s e w' s'
  ring_armed y w w' s s' e sound makes goes turned =
      let word = word_of (things_of s) w.index in
      word_turned (Place.RingWait InRingWait.ArmRing y) w w' s s' e (arm_ring y (desk_of w) word) sound turned makes (by_place w w' s.clock sound.time goes) (kept_by_place w w' goes) refl refl (by y (is_idle_at word w.processed) sound)
      (λ h. absurd (false≢true (sym h ∙ armed_on_ring_by (is_idle_at word w.processed)))) refl refl refl (λ p vs suits. refl)
    where
      by : (x : Stay) (b : Bool) → SoundAt (Place.RingWait InRingWait.ArmRing x) w s → Arms (Place.RingWait InRingWait.ArmRing x) (Place.RingWait (if b then InRingWait.EnterRing else InRingWait.DisarmRing AfterWait.Serve) x) w s
      by Stay.Turn true at_x = record { same = refl; searches = at_x.searching; counts = refl; published = inl refl; queue = at_x.queue; aims = λ seats. tt; batch = at_x.batch }
      by Stay.Turn false at_x = record { same = refl; searches = at_x.searching; counts = refl; published = inl refl; queue = at_x.queue; aims = λ seats. tt; batch = at_x.batch }
      by Stay.Closing true at_x = record { same = refl; searches = at_x.searching; counts = refl; published = inl refl; queue = at_x.queue; aims = λ seats. tt; batch = at_x.batch }
      by Stay.Closing false at_x = record { same = refl; searches = at_x.searching; counts = refl; published = inl refl; queue = at_x.queue; aims = λ seats. tt; batch = at_x.batch }

  -- what follows a wait is so to the machine
  pub withdraws_seen : (p : Plan) (vs : Views) (q : Place) (n : AfterWait) (w : Worker) (s : Shared B) → SoundAt q w s → Suits p vs w s → GoesBack n → withdraws (common_of left spot p vs s) w.index n ≡ after_waiting_of n w
  withdraws_seen p vs q n w s sound suits back = ap (λ b. if b then Place.Withdraw n else goes_back n) (pool_seen left spot p vs q w s sound suits) ∙ by (is_pool w.role) n back
    where
      by : (b : Bool) (m : AfterWait) → GoesBack m → (if b then Place.Withdraw m else goes_back m) ≡ (if b then Place.Withdraw m else place_withdrawn false m w)
      by = grind arith

  pub wait_over_seen : (p : Plan) (vs : Views) (q : Place) (y : Stay) (n : AfterWait) (w : Worker) (s : Shared B) → SoundAt q w s → Suits p vs w s → GoesBack n → after_wait (common_of left spot p vs s) w.index y n ≡ after_wait_of y n w
  wait_over_seen p vs q Stay.Turn n w s sound suits back = withdraws_seen p vs q n w s sound suits back
  wait_over_seen p vs q Stay.Closing n w s sound suits back = refl

  pub ring_disarmed : (y : Stay) (n : AfterWait) (w w' : Worker) (s s' : Shared B) (e : Event) → SoundAt (Place.RingWait (InRingWait.DisarmRing n) y) w s → e ≡ Turn → w' ≡ record w { place = after_wait_of y n w }
      → TurnsWord w.index s s' (disarmed (word_of (things_of s) w.index)) → Steps left spot w s e w' s'
  ring_disarmed y n w w' s s' e sound turn goes turned =
      subst (λ v. Steps left spot w s e v s') (sym goes)
      (word_turned q w w1 s s' e m sound turned (record { event = turn; desk = refl }) (record { same = refl; read = sound.time.read; asleep = sound.time.asleep }) (record { root_ready = refl; hand = refl; loot = refl; searching = refl }) refl refl (by y sound) (λ h. refl) refl refl refl
      (λ p vs suits. ap (λ (x : Place). record { event = Turn; choice = Plain; desk = record (desk_of w) { place = x }; thing = set_word w.index (things_with vs s) (disarmed (word_of (things_with vs s) w.index)) }) (wait_over_seen p vs q y n w s sound suits sound.aims)))
    where
      q : Place
      q = Place.RingWait (InRingWait.DisarmRing n) y

      w1 : Worker
      w1 = record w { place = after_wait_of y n w }

      m : Moved PureWord
      m = turns (after_wait_of y n w) (desk_of w) (disarmed (word_of (things_of s) w.index))

      by : (x : Stay) → SoundAt (Place.RingWait (InRingWait.DisarmRing n) x) w s → Arms (Place.RingWait (InRingWait.DisarmRing n) x) (after_wait_of x n w) w s
      by Stay.Turn at_x = after_arms (Place.RingWait (InRingWait.DisarmRing n) Stay.Turn) n w s at_x at_x.aims refl refl (plain n at_x.aims) refl refl at_x.queue
        where
          plain : (k : AfterWait) → GoesBack k → searches_at (Place.RingWait (InRingWait.DisarmRing k) Stay.Turn) ≡ Some false
          plain AfterWait.Begin h = refl
          plain AfterWait.Serve h = refl
          plain (AfterWait.MakeUp last) h = absurd h
          plain AfterWait.Search h = absurd h
      by Stay.Closing at_x = record { same = refl; searches = at_x.searching; counts = refl; published = inl refl; queue = at_x.queue; aims = λ seats. tt; batch = at_x.batch }

  pub latch_taken : (w w' : Worker) (s s' : Shared B) (e : Event) → SoundAt (Place.WordWait InWordWait.TakeLatch) w s → e ≡ Turn → w' ≡ record w { place = after_waiting_of AfterWait.Begin w }
      → TurnsWord w.index s s' (record (word_of (things_of s) w.index) { latch = false }) → Steps left spot w s e w' s'
  latch_taken w w' s s' e sound turn goes turned =
      let q : Place = Place.WordWait InWordWait.TakeLatch in
      let word = word_of (things_of s) w.index in
      subst (λ v. Steps left spot w s e v s') (sym goes)
      (word_turned q w (record w { place = after_waiting_of AfterWait.Begin w }) s s' e (turns (after_waiting_of AfterWait.Begin w) (desk_of w) (record word { latch = false })) sound turned (record { event = turn; desk = refl })
      (record { same = refl; read = sound.time.read; asleep = sound.time.asleep }) (record { root_ready = refl; hand = refl; loot = refl; searching = refl }) refl refl
      (after_arms q AfterWait.Begin w s sound tt refl refl refl refl refl sound.queue)
      (λ h. rw (own_word_seen w.index s sound.seated.seat sound.seated.there) (sound.seated.unarmed refl)) refl refl refl
      (λ p vs suits. ap (λ (x : Place). record { event = Turn; choice = Plain; desk = record (desk_of w) { place = x }; thing = set_word w.index (things_with vs s) (record (word_of (things_with vs s) w.index) { latch = false }) }) (withdraws_seen p vs q AfterWait.Begin w s sound suits tt)))

  pub word_armed : (w w' : Worker) (s s' : Shared B) (e : Event) → SoundAt (Place.WordWait InWordWait.ArmWord) w s → Makes (arm_word (desk_of w) (word_of (things_of s) w.index)) e w' → w' ≡ record w { place = w'.place; slept = None }
      → TurnsWord w.index s s' (arm_word (desk_of w) (word_of (things_of s) w.index)).thing → Steps left spot w s e w' s'
  word_armed w w' s s' e sound makes goes turned =
      let word = word_of (things_of s) w.index in
      let on : GoesOn w w' s.clock = subst (λ v. GoesOn w v s.clock) (sym goes) (record { same = refl; read = sound.time.read; asleep = tt }) in
      let keeps : Keeps w w' = subst (Keeps w) (sym goes) (record { root_ready = refl; hand = refl; loot = refl; searching = refl }) in
      word_turned (Place.WordWait InWordWait.ArmWord) w w' s s' e (arm_word (desk_of w) word) sound turned makes on keeps refl refl (by (is_idle_at word w.processed))
      (λ h. absurd (false≢true (sym h ∙ armed_by (is_idle_at word w.processed)))) refl refl refl (λ p vs suits. refl)
    where
      by : (b : Bool) → Arms (Place.WordWait InWordWait.ArmWord) (Place.WordWait (if b then InWordWait.SleepOnWord else InWordWait.DisarmWord)) w s
      by true = record { same = refl; searches = sound.searching; counts = refl; published = inl refl; queue = sound.queue; aims = λ seats. tt; batch = sound.batch }
      by false = record { same = refl; searches = sound.searching; counts = refl; published = inl refl; queue = sound.queue; aims = λ seats. tt; batch = sound.batch }

  pub word_disarmed : (w w' : Worker) (s s' : Shared B) (e : Event) → SoundAt (Place.WordWait InWordWait.DisarmWord) w s → e ≡ Turn
      → desk_of w' ≡ record (after_sleep s.clock (word_of (things_of s) w.index).latch w.slept (desk_of w)) { place = after_waiting_of AfterWait.Begin w } → w' ≡ record w { place = w'.place; spinner = w'.spinner; slept = None }
      → TurnsWord w.index s s' (disarmed (word_of (things_of s) w.index)) → Steps left spot w s e w' s'
  word_disarmed w w' s s' e sound turn desk goes turned =
      let q : Place = Place.WordWait InWordWait.DisarmWord in
      let word = word_of (things_of s) w.index in
      let on : GoesOn w w' s.clock = subst (λ v. GoesOn w v s.clock) (sym goes) (record { same = refl; read = sound.time.read; asleep = tt }) in
      let keeps : Keeps w w' = subst (Keeps w) (sym goes) (record { root_ready = refl; hand = refl; loot = refl; searching = refl }) in
      word_turned q w w' s s' e (turns (after_waiting_of AfterWait.Begin w) (after_sleep s.clock word.latch w.slept (desk_of w)) (disarmed word)) sound turned
      (record { event = turn; desk = desk }) on keeps refl refl (after_arms q AfterWait.Begin w s sound tt refl refl refl refl refl sound.queue) (λ h. refl) refl refl refl
      (λ p vs suits. ap (λ (x : Place). record { event = Turn; choice = Plain; desk = record (after_sleep s.clock word.latch w.slept (desk_of w)) { place = x }; thing = set_word w.index (things_with vs s) (disarmed (word_of (things_with vs s) w.index)) }) (withdraws_seen p vs q AfterWait.Begin w s sound suits tt))

  pub batch_sought : (n : ℕ) (w w' : Worker) (s : Shared B) (e : Event) (chair : Chair) → SoundAt (Place.WordWait (InWordWait.SpinOnBatch n)) w s → Makes (spin_on_batch n (desk_of w) chair.mailbox.waker) e w'
      → w' ≡ record w { place = w'.place; spinner = w'.spinner } → chair ≡ get_or s.seats.items w.index chair → Steps left spot w s e w' s
  batch_sought n w w' s e chair sound makes same is =
      let it = word_of (things_of s) w.index in
      let m = spin_on_batch n (desk_of w) it in
      went left spot (Place.WordWait (InWordWait.SpinOnBatch n)) w w' s e m sound (subst (λ x. Makes (spin_on_batch n (desk_of w) x) e w') (word_read (Place.WordWait (InWordWait.SpinOnBatch n)) w s chair sound is) makes)
      (by_spinner w w' s.clock sound.time same) (kept_by_spinner w w' same) refl refl (by (has_mail (desk_of w) it)) refl refl refl
      (λ p vs suits. ap (λ x. record { event = Turn; choice = Plain; desk = m.desk; thing = x }) (word_back_again w.index (things_with vs s)))
    where
      by : (b : Bool) → Lands (Place.WordWait (InWordWait.SpinOnBatch n)) (if b then hit (desk_of w) else (record (desk_of w) { place = Place.WordWait (InWordWait.SpinOnLatch n) })).place w s
      by true = record { same = refl; queue = sound.queue; aims = tt; batch = sound.batch }
      by false = record { same = refl; queue = sound.queue; aims = tt; batch = sound.batch }

  pub latch_sought : (n : ℕ) (w w' : Worker) (s : Shared B) (e : Event) (chair : Chair) → SoundAt (Place.WordWait (InWordWait.SpinOnLatch n)) w s → Makes (spin_on_latch n (desk_of w) chair.mailbox.waker) e w'
      → w' ≡ record w { place = w'.place; spinner = w'.spinner } → chair ≡ get_or s.seats.items w.index chair → Steps left spot w s e w' s
  latch_sought n w w' s e chair sound makes same is =
      let it = word_of (things_of s) w.index in
      let m = spin_on_latch n (desk_of w) it in
      went left spot (Place.WordWait (InWordWait.SpinOnLatch n)) w w' s e m sound (subst (λ x. Makes (spin_on_latch n (desk_of w) x) e w') (word_read (Place.WordWait (InWordWait.SpinOnLatch n)) w s chair sound is) makes)
      (by_spinner w w' s.clock sound.time same) (kept_by_spinner w w' same) refl refl (by it.latch) refl refl refl
      (λ p vs suits. ap (λ x. record { event = Turn; choice = Plain; desk = m.desk; thing = x }) (word_back_again w.index (things_with vs s)))
    where
      miss : (c : Bool) → Lands (Place.WordWait (InWordWait.SpinOnLatch n)) (if c then (record (desk_of w) { place = Place.WordWait (InWordWait.SpinOnBatch (n - 1)) }) else (record (desk_of w) { spinner = after_miss (desk_of w).spinner; place = Place.WordWait InWordWait.ArmWord })).place w s
      miss true = record { same = refl; queue = sound.queue; aims = tt; batch = sound.batch }
      miss false = record { same = refl; queue = sound.queue; aims = tt; batch = sound.batch }

      by : (b : Bool) → Lands (Place.WordWait (InWordWait.SpinOnLatch n)) (if b then hit (desk_of w) else missed n (desk_of w)).place w s
      by true = record { same = refl; queue = sound.queue; aims = tt; batch = sound.batch }
      by false = miss (nat_lt 1 n)
