-- What a sleep is to the machine: until the next moment at which something is due, or a turn where that has come.
use Rattle.std.proofs.{Common.{◌≡◌, ℕ, ◌*◌, ◌+◌, ◌≤◌, Bool, true, false, List, [], ◌++◌, length, map, Option, Some, None, refl, sym, ap, subst, ◌∙◌, arith, slice_get, slice_set, IfSome, if◌then◌else◌}, lemmas.{Bool.{eq-eqb, Decides.nat_tests}, List.length-set}}
use Rattle.exec_words.specs.Word.{is_idle_at}
use Rattle.exec_task.specs.declared.body.Said.{Said}
use Rattle.exec_machine.specs.{declared.{event.Event.{Event, TheVariants.{Turn, Sleep}}, state.Next.Next}, Choice.Choice.Plain, Deadlines.{next_due, rest_until, is_after}, Progress.Plan, Same.same_number, World.Seat}
use Rattle.exec_moves.specs.{declared.{idling.InWordWait.InWordWait, place.Place.Place}, Load.has_come, Move.move_at, Seen.{next_at, polls_at, serves_at}, State.{Desk, Moved, Things, does, word_of}, Thing.with_word, Wait.noting_sleep}
use Rattle.exec_parts.{specs.{declared.parts.{seat.Seat.Seat as Chair, shared.Shared.Shared, worker.Worker.Worker}, Phased.{IsPhased, closes_at, closing_in, stage_of}, Spots.Spot, Tests.{IsNextIn, IsNextMoment, slept_after}, View.{Views, common_of, desk_of, inbox_at, letters_in, own_of, owed_at, polls_seen, queue_at, seats_seen, things_of, things_with, visible, with_view, word_at}, Things.HasChair}, proofs.Facts.set_there}
use Rattle.exec_serving.specs.Waits.{Sleeps}
use Rattle.exec_invariants.{proofs.{Showing.map_kept, Dedicated.as_long, Aside.{beside_calm, profile_alike, queue_of_chair, queues_set, seats_own, seats_same}, Hearing.unheard, NextDue.moment_seen, PoolKept.{gates_same, gates_set}, Seats.{chair_set, own_seat}, Shutting.seats_show, Turning.{Fits, GoesOn, Keeps, Shares, arrives, of_kind, sound_on, turn_alike, turned, view_found, word_back_again}}, specs.{Holding.box_of, Kinds.{kind_of, lowered}, Places.{is_armed_at, is_pooled_at}, Sound.{Aims, HasBatch, HasQueue, IsSeated, SoundAt, has_wakes_at}, Works.{Steps, Suits}}}

same_itself : (o : Option ℕ) → same_number o o ≡ true
same_itself None = refl
same_itself (Some m) = eq-eqb m m refl

is_ahead : (clock : ℕ) (o : Option ℕ) → has_come clock o ≡ false → is_after clock o ≡ true
is_ahead clock None h = refl
is_ahead clock (Some u) h = grind (arith, nat_tests, h)

-- what is left of a wait, as it ends with a sleep until this moment or with a turn
abbrev pub sleeping : Bool → Option ℕ → Desk → Desk → Things → Moved Things
sleeping come moment turned slept x = if come then does Turn turned x else does (Sleep moment) slept x

-- the place says nothing of what is due next
placed_next : (w : Worker) (q : Place) (closing : Bool) (moment : Option ℕ) → IsNextIn closing (record w { place = q }) moment → IsNextIn closing w moment
placed_next w q true moment h = h
placed_next w q false moment h = h

noted_as : (b : Bool) (clock i : ℕ) (until : Option ℕ) (d : Desk) (x : Things) → with_word i x (noting_sleep clock (if b then does Turn d (word_of x i) else does (Sleep until) d (word_of x i))) ≡ sleeping b until d (record d { slept = Some clock }) x
noted_as true clock i until d x = ap (λ y. does Turn d y) (word_back_again i x)
noted_as false clock i until d x = ap (λ y. does (Sleep until) (record d { slept = Some clock }) y) (word_back_again i x)

module _ {B : Type 0} where
  -- where the wait goes on: a place of the same kind
  pub record Ends (q q' : Place) (w : Worker) (s : Shared B) : Type 0 where
    pub same : kind_of q' ≡ lowered w.role (is_pooled_at q') (kind_of q)
    pub queue : (chair : Chair) → slice_get s.seats.items w.index ≡ Some chair → HasQueue q' chair.queue
    pub aims : (seats : List Chair) → Aims q' s.config w.index seats
    pub batch : HasBatch q' w.batch.values

module _ {B L : Type 0} (left : B → L) (spot : L → Option Said → Spot) (q q' : Place) (w : Worker) (m : Option ℕ) (s s' : Shared B) (sound : SoundAt q w s) (ends : Ends q q' w s) (asleep : IfSome m (λ moment. moment ≤ s.clock))
    (free : next_at q ≡ Next.Free) (unserved : serves_at q ≡ false) (polls : polls_at q ≡ None) (owes : owed_at w.workers q ++ letters_in w.letters ≡ []) (quiet : has_wakes_at q ≡ false) (kept : s' ≡ record s { seats = s'.seats }) where
  abbrev pub w1 : Worker
  w1 = record w { place = q'; slept = m }

  on : GoesOn w w1 s.clock
  on = record { same = refl; read = sound.time.read; asleep = asleep }

  keeps : Keeps w w1
  keeps = record { root_ready = refl; hand = refl; loot = refl; searching = refl }

  shares : Shares s s'
  shares = subst (λ (z : Shared B). z ≡ record s { seats = z.seats; idle = z.idle; global = z.global }) (sym kept) refl

  -- It goes on to the end of its wait.
  pub awake : s'.seats.items ≡ s.seats.items
      → ((p : Plan) (vs : Views) → Suits p vs w s → move_at p.config w.index (own_of w) (common_of left spot p vs s) (desk_of w) (things_with vs s) q ≡ does Turn (desk_of w1) (things_with vs s))
      → Steps left spot w s Turn w1 s'
  awake seats moves =
      let fits : Fits q' w s s'.seats.items = record {
        seated = subst (λ xs. IsSeated w.index (is_armed_at q') s.config.workers xs) (sym seats) (subst (λ a. IsSeated w.index a s.config.workers s.seats.items) (ap (λ k. k.armed) (sym ends.same)) sound.seated);
        queue = λ chair there. ends.queue chair (ap (λ xs. slice_get xs w.index) (sym seats) ∙ there);
        aims = ends.aims s'.seats.items;
        batch = ends.batch;
        batch_place = λ chair there. sound.batch_place chair (ap (λ xs. slice_get xs w.index) (sym seats) ∙ there);
        phased = λ chair there. (of_kind q q' w s sound ends.same).phased chair (ap (λ xs. slice_get xs w.index) (sym seats) ∙ there);
      } in
      let things : (vs : Views) → things_with vs s' ≡ things_with vs s = λ vs.
      ap (λ (z : Shared B). things_with vs z) kept ∙ ap (λ (cs : List Chair). record (things_with vs s) { queues = map queue_at cs; words = map word_at cs; inboxes = map inbox_at cs; wake_polls = polls_seen vs.workers cs }) seats in
      turned left spot q w w1 s s' Turn sound refl on shares (ap (λ (z : Shared B). z.global.closed) kept) (λ vs. ap (seats_seen vs) seats)
      (turn_alike w.workers w.role q q' ends.same free unserved)
      (arrives q q' w w1 s s' sound ends.same (λ h. sound.quiet quiet) keeps fits)
      (beside_calm w w1 s s' (profile_alike q q' w w1 sound.here refl ends.same keeps refl (record { batch = refl; letters = refl; left = refl })) shares (seats_same w.index s.seats.items s'.seats.items seats) (gates_same s.seats.items s'.seats.items seats)
      (ap (λ xs. map queue_of_chair xs) seats) (ap (λ xs. map box_of xs) seats) (ap (λ (z : Shared B). z.idle) kept) (ap (λ (z : Shared B). z.global) kept))
      (λ p vs suits. moves p vs suits ∙ ap (λ x. does Turn (desk_of w1) x) (sym (things vs)))

  -- It sleeps until a moment ahead.
  pub slept : (moment : Option ℕ) → IsNextMoment w moment → has_come s.clock moment ≡ false → is_armed_at q ≡ true
      → ((chair : Chair) → HasChair w.index s chair → s'.seats.items ≡ slice_set s.seats.items w.index (record chair { rest = rest_until moment }))
      → ((p : Plan) (vs : Views) → Suits p vs w s → move_at p.config w.index (own_of w) (common_of left spot p vs s) (desk_of w) (things_with vs s) q ≡ does (Sleep moment) (desk_of w1) (things_with vs s))
      → Steps left spot w s (Sleep moment) w1 s'
  slept moment upcoming ahead armed seats moves =
      let seat = sound.seated.seat in
      let now : Chair = record seat { rest = rest_until moment } in
      let items : s'.seats.items ≡ slice_set s.seats.items w.index now = seats seat sound.seated.there in
      let found : slice_get s'.seats.items w.index ≡ Some now = ap (λ xs. slice_get xs w.index) items ∙ set_there s.seats.items w.index now seat sound.seated.there in
      let same = ends.same in
      let fits : Fits q' w s s'.seats.items = record {
        seated = record { many = as_long (ap length items ∙ length-set s.seats.items w.index now) sound.seated.many; pool = sound.seated.pool; seat = now; there = found; unarmed = λ h. sound.seated.unarmed (sym (ap (λ k. k.armed) same) ∙ h); mail = sound.seated.mail };
        queue = λ chair there. let is : now ≡ chair = cc (found, there) in subst (λ c. HasQueue q' c.queue) is (ends.queue seat sound.seated.there);
        aims = ends.aims s'.seats.items;
        batch = ends.batch;
        batch_place = λ chair there. let is : now ≡ chair = cc (found, there) in subst (λ (c : Chair). c.mailbox.inbox.closed ≡ false → 2 * c.made + 1 ≤ w.batch.places) is (sound.batch_place seat sound.seated.there);
        phased = λ chair there.
            let is : now ≡ chair = cc (found, there) in
            subst (λ c. IsPhased w.index (closes_at q') (closing_in q') w.home.closing w.root w.names.unreleased (stage_of c s) s.tasks.items) is ((of_kind q q' w s sound same).phased seat sound.seated.there);
      } in (
        (λ p vs suits.
            let cs = common_of left spot p vs s in
            let due = moment_seen left spot p vs q w s moment suits sound upcoming in
            let again = view_found vs w.index (visible w) suits.seen in
            record {
              choice = Plain;
              moves =
                  subst (λ y. move_at p.config w.index (own_of w) cs (desk_of w) (things_with vs s) y ≡ record { event = Sleep moment; choice = Plain; desk = desk_of w1; thing = things_with (with_view vs w.index (visible w1)) s' }) (sym sound.here)
                  (moves p vs suits ∙ ap (λ x. does (Sleep moment) (desk_of w1) x) (sym (ap (λ v. things_with v s') again ∙ ap (λ (z : Shared B). things_with vs z) kept ∙ seats_show vs w.index s s'.seats.items seat now sound.seated.there items refl refl refl refl)));
              may = (rw (sound.here, polls, owes, free) refl, (rw (← due) (same_itself moment), (is_ahead s.clock moment ahead, tt)));
              own = rw (sound.here, ap (λ k. k.polls) same, ap (λ k. k.next) same, free, ap (λ k. k.serves) same, unserved, ap (λ k. k.owes w.workers) same) refl;
              common =
                  ap (λ v. common_of left spot p v s') again ∙ ap (common_of left spot p vs) kept
                  ∙ ap (λ seen. record cs { seats = seen })
                  (ap (seats_seen vs.workers) items ∙ chair_set vs.workers s.seats.items w.index (visible w) now suits.seen
                  ∙ ap (λ x. slice_set (seats_seen vs.workers s.seats.items) w.index x) (ap (λ (x : Seat). record x { rest = rest_until moment }) (sym (own_seat left spot p vs w s seat suits sound.seated.there))));
            }),
        sound_on q w w1 s s' sound on shares (omega (arith, ap length items ∙ length-set s.seats.items w.index now)) (arrives q q' w w1 s s' sound same (λ h. sound.quiet quiet) keeps fits),
        unheard refl (ap (λ (z : Shared B). z.config) kept) (ap (λ (z : Shared B). z.tasks.items) kept),
        beside_calm w w1 s s' (profile_alike q q' w w1 sound.here refl same keeps refl (record { batch = refl; letters = refl; left = refl })) shares (seats_own w.index s.seats.items s'.seats.items seat now items sound.seated.there (omega arith))
            (gates_set w.index s.seats.items s'.seats.items seat now items sound.seated.there (record { left = refl; pool = refl; closed = refl; mail = λ h. h }))
            (ap (λ xs. map queue_of_chair xs) items ∙ queues_set s.seats.items w.index seat now sound.seated.there refl) (ap (λ xs. map box_of xs) items ∙ map_kept box_of s.seats.items w.index now seat sound.seated.there refl) (ap (λ (z : Shared B). z.idle) kept) (ap (λ (z : Shared B). z.global) kept),
      )

module _ {B L : Type 0} (left : B → L) (spot : L → Option Said → Spot) where
  -- By what a sleep does; the moment at which it begins may be kept.
  pub slept_by : (q q' : Place) (w w' : Worker) (s s' : Shared B) (e : Event) (begun : Event → Option ℕ) → SoundAt q w s → Ends q q' w s → is_armed_at q ≡ true → next_at q ≡ Next.Free → serves_at q ≡ false → polls_at q ≡ None → owed_at w.workers q ++ letters_in w.letters ≡ [] → has_wakes_at q ≡ false
      → ((x : Event) → IfSome (begun x) (λ moment. moment ≤ s.clock)) → Sleeps (record w { place = q' }) s e s' → w' ≡ record w { place = q'; slept = begun e }
      → ((p : Plan) (vs : Views) → Suits p vs w s → move_at p.config w.index (own_of w) (common_of left spot p vs s) (desk_of w) (things_with vs s) q
      ≡ (let due = next_due (common_of left spot p vs s) w.index in sleeping (has_come s.clock due) due (desk_of (record w { place = q'; slept = begun Turn })) (desk_of (record w { place = q'; slept = begun (Sleep due) })) (things_with vs s)))
      → Steps left spot w s e w' s'
  slept_by q q' w w' s s' e begun sound ends armed free unserved polls owes quiet asleep it same moves =
      subst (λ v. Steps left spot w s e v s') (sym same) (by (has_come s.clock it.moment) refl)
    where
      upcoming : IsNextMoment w it.moment
      upcoming = (it.next.0, placed_next w q' w.home.closing it.moment it.next.1)

      after : Bool → Views → Moved Things
      after come vs = sleeping come it.moment (desk_of (record w { place = q'; slept = begun Turn })) (desk_of (record w { place = q'; slept = begun (Sleep it.moment) })) (things_with vs s)

      moved : (p : Plan) (vs : Views) → Suits p vs w s → (b : Bool) → has_come s.clock it.moment ≡ b → move_at p.config w.index (own_of w) (common_of left spot p vs s) (desk_of w) (things_with vs s) q ≡ after b vs
      moved p vs suits b is = grind (arith, moves p vs suits, moment_seen left spot p vs q w s it.moment suits sound upcoming, is)

      by : (b : Bool) → has_come s.clock it.moment ≡ b → Steps left spot w s e (record w { place = q'; slept = begun e }) s'
      by true come =
          let event : e ≡ Turn = it.event ∙ rw come refl in
          let seats : s'.seats.items ≡ s.seats.items = it.seats sound.seated.seat sound.seated.there ∙ rw come refl in
          subst (λ x. Steps left spot w s x (record w { place = q'; slept = begun x }) s') (sym event)
          (awake left spot q q' w (begun Turn) s s' sound ends (asleep Turn) free unserved polls owes quiet it.kept seats (λ p vs suits. moved p vs suits true come))
      by false ahead =
          let event : e ≡ Sleep it.moment = it.event ∙ rw ahead refl in
          subst (λ x. Steps left spot w s x (record w { place = q'; slept = begun x }) s') (sym event)
          (slept left spot q q' w (begun (Sleep it.moment)) s s' sound ends (asleep (Sleep it.moment)) free unserved polls owes quiet it.kept it.moment upcoming ahead armed
          (λ chair there. it.seats chair there ∙ rw ahead refl) (λ p vs suits. moved p vs suits false ahead))

  -- ON THE WAKE WORD

  pub word_slept : (w w' : Worker) (s s' : Shared B) (e : Event) → SoundAt (Place.WordWait InWordWait.SleepOnWord) w s → is_idle_at (word_of (things_of s) w.index) w.processed ≡ true
      → Sleeps (record w { place = Place.WordWait InWordWait.DisarmWord }) s e s' → w' ≡ record w { place = Place.WordWait InWordWait.DisarmWord; slept = slept_after e s'.clock w.slept } → Steps left spot w s e w' s'
  word_slept w w' s s' e sound idle it same =
      slept_by (Place.WordWait InWordWait.SleepOnWord) (Place.WordWait InWordWait.DisarmWord) w w' s s' e (λ x. slept_after x s.clock w.slept) sound
      (record { same = refl; queue = sound.queue; aims = λ seats. tt; batch = sound.batch }) refl refl refl refl (sound.letters.none refl) refl begun it
      (same ∙ ap (λ (t : Shared B). record w { place = Place.WordWait InWordWait.DisarmWord; slept = slept_after e t.clock w.slept }) it.kept)
      (λ p vs suits.
      let due = next_due (common_of left spot p vs s) w.index in
      rw idle (noted_as (has_come s.clock due) s.clock w.index due (record (desk_of w) { place = Place.WordWait InWordWait.DisarmWord }) (things_with vs s)))
    where
      begun : (x : Event) → IfSome (slept_after x s.clock w.slept) (λ moment. moment ≤ s.clock)
      begun (Sleep until) = omega arith
      begun _ = sound.time.asleep

  pub word_unslept : (w : Worker) (s : Shared B) → SoundAt (Place.WordWait InWordWait.SleepOnWord) w s → is_idle_at (word_of (things_of s) w.index) w.processed ≡ false → Steps left spot w s Turn (record w { place = Place.WordWait InWordWait.DisarmWord }) s
  word_unslept w s sound idle =
      awake left spot (Place.WordWait InWordWait.SleepOnWord) (Place.WordWait InWordWait.DisarmWord) w w.slept s s sound (record { same = refl; queue = sound.queue; aims = λ seats. tt; batch = sound.batch }) sound.time.asleep refl refl refl (sound.letters.none refl) refl refl refl
      (λ p vs suits. rw idle (ap (λ x. does Turn (record (desk_of w) { place = Place.WordWait InWordWait.DisarmWord }) x) (word_back_again w.index (things_with vs s))))
