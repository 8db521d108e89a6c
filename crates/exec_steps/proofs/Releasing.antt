-- What the release of a claim is to the machine, and the store of what was moved behind the own values.
use Rattle.std.proofs.{Common.{◌≡◌, ◌≢◌, ℕ, ◌+◌, ◌<◌, ◌≤◌, ◌==◌, inl, inr, Bool, true, false, not, Contains, List, [], ◌++◌, length, Option, None, Some, refl, sym, ap, subst, ◌∙◌, arith, option_to_list, slice_get, slice_set}, lemmas.{Bool.{eq-eqb, Decides.nat_tests}, List.{length-append, length-set, Elements.{Contains-append_cases, Contains-append_left, Contains-append_right}}}}
use Rattle.exec_words.specs.{Queue.{Queue, head_of, published, released, room_of, tail_of}, declared.head.Head.Head}
use Rattle.exec_task.specs.declared.{body.Said.Said, runnable.Runnable.Runnable}
use Rattle.exec_machine.specs.{declared.event.Event.{Event, TheVariants.Turn}, Choice.Choice.Plain}
use Rattle.exec_moves.specs.{declared.{idling.InScan.InScan, place.Place.Place}, Pop.same_head, Seen.polls_at, Search.release_half, State.{Moved, queue_of, turns}, Thing.{set_queue, with_queue}}
use Rattle.exec_parts.{specs.{declared.parts.{seat.Seat.Seat as Chair, shared.Shared.Shared, worker.Worker.Worker}, Phased.{TurnsChair, stage_of}, Pooled.released_if, Spots.Spot, Tests.leaves_turn_of, View.{desk_of, queue_seen, things_of, things_with}, Things.{Goes, Makes}}, proofs.Facts.{not_same, set_there}}
use Rattle.exec_invariants.{proofs.{Showing.own_queue_seen, Dedicated.as_long, Aside.{seats_other, seats_own}, Handed.{leaves_seen, leaves_settle, out}, Idled.Settles, Queued.{Hands, Leads, bare_of, hands_of, leads_to, requeued, whole_queued}, Thieves.{has_claim, in_both, own_still, published_seen, same_hands, seat_there, seated_still, stage_still}}, specs.{Kinds.{Kind, lowered}, Places.{claims_at, drops_at, has_count_at, has_loot_at, is_armed_at, is_pooled_at, is_published_at, one_if, searches_at}, Sound.{Aims, HasBatch, HasQueue, IsSeated, SoundAt, has_wakes_at}, Spares.Thins, Whole.{HasWhole, IsWhole, Profile, is_number, queued, runnables_in, with_worker}, Works.Steps}}

module _ {B L : Type 0} (left : B → L) (spot : L → Option Said → Spot) (w w' : Worker) (s s' : Shared B) (e : Event) where
  -- THE RELEASE

  pub half_released : (from : ℕ) (h : Head) → SoundAt (Place.Scan (InScan.ReleaseHalf from h)) w s → HasWhole w s → Makes (release_half from h (desk_of w) (queue_of (things_of s) from)) e w' → Goes w w'
      → TurnsChair from (λ chair. record chair { queue = released_if (same_head h (head_of chair.queue)) chair.queue }) s s' → s' ≡ record s { seats = s'.seats } → Steps left spot w s e w' s'
  half_released from h sound has makes goes chair kept = by (same_head h (head_of its.queue)) refl (chair its there)
    where
      q : Place
      q = Place.Scan (InScan.ReleaseHalf from h)

      other : from ≢ w.index
      other = sound.aims.0

      found : (seat : Chair) × (slice_get s.seats.items from ≡ Some seat)
      found = seat_there from q w s sound (omega (arith, sound.aims.1, sound.seated.many))

      its : Chair
      its = found.0

      there : slice_get s.seats.items from ≡ Some its
      there = found.1

      m : Moved (Queue ℕ)
      m = release_half from h (desk_of w) (queue_of (things_of s) from)

      claim : 0 < its.queue.gap
      claim = has_claim from its w s has there (ap claims_at sound.here)

      -- to this place, with this of the other queue
      to : (next : Place) (y : Queue Runnable) → m ≡ turns next (desk_of w) (queue_seen y) → s'.seats.items ≡ slice_set s.seats.items from (record its { queue = y }) → tail_of its.queue ≤ tail_of y → Thins its.queue y → y.values ++ y.held ≡ queued its
          → Leads q next w (record w { place = next }) s s' → Hands from its.queue y w (record w { place = next }) → Steps left spot w s e w' s'
      to next y was set grows thins same leads hands =
          let w1 : Worker = record w { place = next } in
          let place : w'.place ≡ next = ap (λ d. d.place) makes.desk ∙ ap (λ z. z.desk.place) was in
          let is : w' ≡ w1 = goes ∙ ap (λ z. record w { place = z }) place in
          subst (λ v. Steps left spot w s e v s') (sym is)
          (requeued left spot from its y q w w1 s s' e sound (makes.event ∙ ap (λ z. z.event) was) (record { same = refl; read = sound.time.read; asleep = sound.time.asleep }) kept there set refl refl leads
          (seats_other w.index from s.seats.items s'.seats.items its (record its { queue = y }) set there grows (record { phase = refl; pool = refl; left = refl; closed = refl; target = refl; mail = λ h. h; made = refl; queue = thins }))
          (λ others before. whole_queued others from its y w w1 s s' kept there set hands (λ r has_r. inl (subst (λ xs. Contains xs r) same has_r)) before)
          (λ p vs suits. ap (with_queue from (things_with vs s)) was))

      -- a place of the scan with the same in the hands
      leads_scan : (next : Place) (y : Queue Runnable) → bare_of next ≡ lowered w.role (is_pooled_at next) (bare_of q) → searches_at next ≡ None → has_loot_at next ≡ true → is_armed_at next ≡ false → has_wakes_at next ≡ false → s'.seats.items ≡ slice_set s.seats.items from (record its { queue = y })
          → ((own : Queue Runnable) → (own.held ≡ []) × (128 ≤ room_of own) → HasQueue next own) → Aims next s.config w.index s'.seats.items → HasBatch next w.batch.values → Leads q next w (record w { place = next }) s s'
      leads_scan = grind (arith, seated_still, own_still, stage_still)

      by : (b : Bool) → same_head h (head_of its.queue) ≡ b → s'.seats.items ≡ slice_set s.seats.items from (record its { queue = released_if b its.queue }) → Steps left spot w s e w' s'
      by true is set =
          let gap : (its.queue.gap == 0) ≡ false = grind (arith, nat_tests, claim) in
          let claiming : claims_at w.place ≡ Some from = ap claims_at sound.here in
          let mine : one_if (is_number (claims_at w.place) from) ≡ 1 = ap (λ o. one_if (is_number o from)) claiming ∙ ap one_if (eq-eqb from from refl) in
          let some : one_if (not (its.queue.gap == 0)) ≡ 1 = ap (λ b. one_if (not b)) gap in
          to (Place.Scan InScan.StoreMoved) (released its.queue) (rw (own_queue_seen from s its there, is) refl) set (omega arith) (inr (inr (claim, refl))) refl
          (leads_scan (Place.Scan InScan.StoreMoved) (released its.queue) refl refl refl refl refl set (λ own h. h) tt sound.batch)
          (let claims_beside : (j : ℕ) → j ≢ from → false ≡ is_number (claims_at w.place) j = λ j apart. sym (not_same from j (λ is. apart (sym is))) ∙ sym (ap (λ o. is_number o j) claiming) in
          let claims : 0 + one_if (not (its.queue.gap == 0)) ≡ one_if (is_number (claims_at w.place) from) + 0 = omega (arith, mine, some) in
          let runnables : (t : ℕ) → runnables_in t (hands_of w) + runnables_in t (its.queue.values ++ its.queue.held) ≡ runnables_in t (hands_of w) + runnables_in t (its.queue.values ++ its.queue.held) = λ t. refl in
          assumption (runnables, sym (ap polls_at sound.here), sym (ap has_count_at sound.here), sym (ap is_published_at sound.here), sym (ap drops_at sound.here), claims_beside, claims))
      by false is set =
          to (Place.Scan (InScan.ReleaseHalf from (head_of its.queue))) its.queue (rw (own_queue_seen from s its there, is) refl) set (omega arith) (inl refl) refl
          (leads_scan (Place.Scan (InScan.ReleaseHalf from (head_of its.queue))) its.queue refl refl refl refl refl set (λ own h. h) sound.aims sound.batch)
          (same_hands from its.queue w (record w { place = Place.Scan (InScan.ReleaseHalf from (head_of its.queue)) }) refl refl (sym (ap polls_at sound.here)) refl (sym (ap has_count_at sound.here)) refl (sym (ap is_published_at sound.here)) (sym (ap claims_at sound.here)) (sym (ap drops_at sound.here)) (record { batch = refl; letters = refl; left = refl }))

  -- THE STORE

  pub moved_stored : SoundAt (Place.Scan InScan.StoreMoved) w s → e ≡ Turn → w' ≡ record w { place = leaves_turn_of w; loot = record w.loot { values = [] } }
      → TurnsChair w.index (λ chair. record chair { queue = published chair.queue w.loot.values }) s s' → s' ≡ record s { seats = s'.seats } → Steps left spot w s e w' s'
  moved_stored sound event goes chair kept = subst (λ v. Steps left spot w s e v s') (sym goes) done
    where
      q : Place
      q = Place.Scan InScan.StoreMoved

      next : Place
      next = leaves_turn_of w

      mine : Chair
      mine = sound.seated.seat

      there : slice_get s.seats.items w.index ≡ Some mine
      there = sound.seated.there

      more : List Runnable
      more = w.loot.values

      y : Queue Runnable
      y = published mine.queue more

      mine' : Chair
      mine' = record mine { queue = y }

      set : s'.seats.items ≡ slice_set s.seats.items w.index mine'
      set = chair mine there

      now : slice_get s'.seats.items w.index ≡ Some mine'
      now = ap (λ xs. slice_get xs w.index) set ∙ set_there s.seats.items w.index mine' mine there

      is_mine : (it : Chair) → slice_get s'.seats.items w.index ≡ Some it → mine' ≡ it
      is_mine it at_own = cc (sym now, at_own)

      w1 : Worker
      w1 = record w { place = next; loot = record w.loot { values = [] } }

      s1 : Shared B
      s1 = record s { seats = s'.seats }

      settles : Settles Place.BeginTurn next (out w.searching) w s1
      settles =
          leaves_settle Place.BeginTurn w.searching w s1
          (record { same = refl; held = λ it at_own. subst (λ (c : Chair). c.queue.held ≡ []) (is_mine it at_own) (sound.queue mine there).0; batch = sound.batch; quiet = refl })

      empty : has_loot_at next ≡ false
      empty = ap (λ (k : Kind). k.loot) settles.same

      seated : IsSeated w.index false s.config.workers s'.seats.items
      seated = record { many = as_long (ap length set ∙ length-set s.seats.items w.index mine') sound.seated.many; pool = sound.seated.pool; seat = mine'; there = now; unarmed = sound.seated.unarmed; mail = sound.seated.mail }

      leads : Leads q next w w1 s s'
      leads = subst (Leads q next w w1 s) (sym kept)
          (leads_to q Place.BeginTurn next (out w.searching) w w1 s s1 refl refl refl settles refl refl refl sound.calm
          (record { places = sound.loot.places; few = omega arith; none = λ is. refl }) (λ r has_r. sound.stolen r (nothing r has_r)) seated
          (λ it at_own. (mine, there, ap (λ (c : Chair). stage_of c s) (is_mine it at_own))))
        where
          nothing : (r : Runnable) → Contains [] r → Contains w.loot.values r
          nothing r has_r = absurd (omega (arith, has_r.1))

      count : (t : ℕ) → runnables_in t (hands_of w1) + runnables_in t (y.values ++ y.held) ≡ runnables_in t (hands_of w) + runnables_in t (queued mine)
      count t =
          let hand = option_to_list w.hand in
          omega (arith, in_both t hand [], in_both t hand more, in_both t (mine.queue.values ++ more) mine.queue.held, in_both t mine.queue.values more, in_both t mine.queue.values mine.queue.held)

      hands : Hands w.index mine.queue y w w1
      hands =
          let claims_beside : (j : ℕ) → j ≢ w.index → is_number (claims_at next) j ≡ is_number (claims_at w.place) j = λ j apart. ap (λ o. is_number o j) unclaiming in
          let claims = ap (λ o. one_if (is_number o w.index) + one_if (not (mine.queue.gap == 0))) unclaiming in
          assumption (
            count,
            ap (λ (k : Kind). k.polls) settles.same ∙ sym (ap polls_at sound.here),
            settles.counts ∙ sym (ap has_count_at sound.here),
            settles.published ∙ sym (ap is_published_at sound.here),
            ap (λ (k : Kind). k.drops) settles.same ∙ sym (ap drops_at sound.here),
            claims_beside,
            claims,
          )
        where
          unclaiming : claims_at next ≡ claims_at w.place
          unclaiming = ap (λ (k : Kind). k.claims) settles.same ∙ sym (ap claims_at sound.here)

      whole : (others : Profile) → IsWhole (with_worker others w) s → IsWhole (with_worker others w1) s'
      whole others before =
          whole_queued others w.index mine y w w1 s s' kept there set hands
          (λ r has_r. elim (Contains-append_cases (mine.queue.values ++ more) mine.queue.held r has_r) [
            | inl x ↦ elim (Contains-append_cases mine.queue.values more r x) [ inl old ↦ inl (Contains-append_left mine.queue.values mine.queue.held r old) | inr new ↦ inr (sound.stolen r new) ]
            | inr z ↦ inl (Contains-append_right mine.queue.values mine.queue.held r z)
          ]) before

      done : Steps left spot w s e w1 s'
      done =
          requeued left spot w.index mine y q w w1 s s' e sound event (record { same = refl; read = sound.time.read; asleep = sound.time.asleep }) kept there set refl refl leads
          (seats_own w.index s.seats.items s'.seats.items mine mine' set there (omega (arith, length-append mine.queue.values more))) whole
          (λ p vs suits. rw (leaves_seen left spot p vs q w s sound suits.config w.searching, own_queue_seen w.index s mine there) (ap (λ z. record { event = Turn; choice = Plain; desk = desk_of w1; thing = set_queue w.index (things_with vs s) z }) (published_seen mine.queue more)))
