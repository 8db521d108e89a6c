-- What the claim of half of another run queue is to the machine.
use Rattle.std.proofs.{Common.{◌≡◌, ◌≢◌, ℕ, ◌+◌, ◌-◌, ◌<◌, ◌≤◌, ◌==◌, inl, inr, Bool, true, false, not, Contains, List, ◌++◌, length, take, drop, Option, None, Some, refl, sym, ap, subst, ◌∙◌, arith, option_to_list, slice_get, slice_set, length-drop}, lemmas.{Bool.{eq-eqb, Decides.nat_tests}, List.{append-nil, drop-map, length-take-le, take-map, Elements.{Contains-append_cases, Contains-append_left, Contains-append_right}}, Nat.mod_below}}
use Rattle.exec_words.specs.{Head.{claim_at, claimed_head}, Queue.{Queue, claimed, head_of, tail_of}, Reserved.extended, declared.head.Head.Head}
use Rattle.exec_task.specs.declared.{body.Said.Said, runnable.Runnable.Runnable}
use Rattle.exec_machine.specs.{declared.event.Event.{Event, TheVariants.Turn}, Choice.Choice.Plain, Progress.Plan}
use Rattle.exec_moves.specs.{declared.{idling.{InLook.InLook, InScan.InScan, Scan.Scan}, place.Place.Place}, Move.move_at, Pop.same_head, Seen.polls_at, Search.{claim_half, from_of, judge_head}, State.{Desk, Moved, queue_of, turns}, Thing.{set_queue, with_queue}}
use Rattle.exec_parts.{specs.{declared.parts.{seat.Seat.Seat as Chair, shared.Shared.Shared, worker.Worker.Worker}, Phased.TurnsChair, Pooled.{OfChair, claimed_if, taken_if}, Spots.Spot, View.{Views, common_of, desk_of, own_of, queue_seen, tasks_of, things_of, things_with}, Things.Makes}, proofs.Facts.{not_same, true_false}}
use Rattle.exec_invariants.{proofs.{Showing.own_queue_seen, Claiming.same_heads, Dedicated.never_apart, Aside.{seats_other, spared, SparesSeats, told_on}, Handed.out, Idled.Settles, Queued.{Hands, Leads, hands_of, leads_to, requeued, whole_queued}, Thieves.{half_of, in_both, in_parts, left_from, own_still, same_hands, seat_there, seated_still, stage_still, taken_from}, Turning.{GoesOn, by_hand}}, specs.{Kinds.Kind, Places.{claims_at, drops_at, has_count_at, has_loot_at, is_published_at, one_if}, Sound.SoundAt, Whole.{HasWhole, IsWhole, Profile, is_number, runnables_in, with_worker}, Works.{Steps, Suits}}}
use Rattle.exec_steps.proofs.Searching.{judged_settle}

module _ {B L : Type 0} (left : B → L) (spot : L → Option Said → Spot) (w w' : Worker) (s s' : Shared B) (e : Event) where
  -- THE CLAIM

  pub half_claimed : (x : Scan) (h : Head) (tail : ℕ) → SoundAt (Place.Scan (InScan.ClaimHalf x h tail)) w s → HasWhole w s → Makes (claim_half s.config w.index x h tail (desk_of w) (queue_of (things_of s) (from_of s.config x))) e w'
      → OfChair (from_of s.config x) s (λ chair. w'.loot ≡ extended w.loot (taken_if (same_head h (head_of chair.queue)) (claim_at h tail) chair.queue.values)) → w' ≡ record w { place = w'.place; loot = w'.loot }
      → TurnsChair (from_of s.config x) (λ chair. record chair { queue = claimed_if (same_head h (head_of chair.queue)) (claim_at h tail) chair.queue }) s s' → s' ≡ record s { seats = s'.seats } → Steps left spot w s e w' s'
  half_claimed x h tail sound has makes loot same chair kept = by (same_head h (head_of its.queue)) refl (loot its there) (chair its there)
    where
      q : Place
      q = Place.Scan (InScan.ClaimHalf x h tail)

      from : ℕ
      from = from_of s.config x

      n : ℕ
      n = claim_at h tail

      few : from < s.config.workers
      few = mod_below (x.start + x.passed) s.config.workers sound.config.workers

      found : (seat : Chair) × (slice_get s.seats.items from ≡ Some seat)
      found = seat_there from q w s sound (omega (arith, few, sound.seated.many))

      its : Chair
      its = found.0

      there : slice_get s.seats.items from ≡ Some its
      there = found.1

      m : Moved (Queue ℕ)
      m = claim_half s.config w.index x h tail (desk_of w) (queue_of (things_of s) from)

      on : GoesOn w w' s.clock
      on = by_hand w w' s.clock sound.time (subst (λ (v : Worker). v ≡ record w { place = v.place; countdown = v.countdown; picks = v.picks; searching = v.searching; rng = v.rng; root_ready = v.root_ready; hand = v.hand; loot = v.loot }) (sym same) refl)

      hand_same : w'.hand ≡ w.hand
      hand_same = ap (λ (v : Worker). v.hand) same

      -- what a step shows of another queue is what this one has then
      shows : (d : Desk) (y : Queue Runnable) → m ≡ turns d.place d (queue_seen y) → desk_of w' ≡ d → (p : Plan) (vs : Views) → Suits p vs w s → move_at p.config w.index (own_of w) (common_of left spot p vs s) (desk_of w) (things_with vs s) q ≡ record { event = Turn; choice = Plain; desk = desk_of w'; thing = set_queue from (things_with vs s) (queue_seen y) }
      shows d y is desk p vs suits = rw (← suits.config) (ap (with_queue from (things_with vs s)) is ∙ ap (λ z. record { event = Turn; choice = Plain; desk = z; thing = set_queue from (things_with vs s) (queue_seen y) }) (sym desk))

      other : from ≢ w.index
      other = sound.aims.0.other

      turn : (d : Desk) (y : Queue Runnable) → m ≡ turns d.place d (queue_seen y) → e ≡ Turn
      turn d y is = makes.event ∙ ap (λ z. z.event) is

      by : (b : Bool) → same_head h (head_of its.queue) ≡ b → w'.loot ≡ extended w.loot (taken_if b n its.queue.values) → s'.seats.items ≡ slice_set s.seats.items from (record its { queue = claimed_if b n its.queue }) → Steps left spot w s e w' s'
      by true is loot set = requeued left spot from its q' q w w' s s' e sound (turn d q' was) on kept there set refl refl leads spares whole (shows d q' was desk)
        where
          q' : Queue Runnable
          q' = claimed its.queue n

          its' : Chair
          its' = record its { queue = q' }

          values : List Runnable
          values = its.queue.values

          heads : (h.real ≡ its.queue.real) × (h.gap ≡ its.queue.gap)
          heads = same_heads h (head_of its.queue) is

          half : (0 < n) × (n < tail - h.real) × (n ≤ 128)
          half = let aims = sound.aims.0 in half_of (tail - h.real) (omega (arith, aims.some)) (omega (arith, aims.most))

          behind : tail ≤ tail_of its.queue
          behind = sound.aims.0.behind its there

          some : 2 ≤ length values
          some = omega (arith, behind, heads.0, sound.aims.0.some)

          less : n < length values
          less = omega (arith, behind, heads.0, half.1)

          unclaimed : its.queue.gap ≡ 0
          unclaimed = sym heads.1 ∙ sound.aims.0.unclaimed

          d : Desk
          d = record (desk_of w) { place = Place.Scan (InScan.MoveHalf from (claimed_head h n)); loot = tasks_of (take n values) }

          was : m ≡ turns d.place d (queue_seen q')
          was = rw (own_queue_seen from s its there, is, take-map (λ (r : Runnable). r.task.0) n values, drop-map (λ (r : Runnable). r.task.0) n values) refl

          desk : desk_of w' ≡ d
          desk = makes.desk ∙ ap (λ y. y.desk) was

          place : w'.place ≡ Place.Scan (InScan.MoveHalf from (claimed_head h n))
          place = ap (λ y. y.place) desk

          taken : w'.loot.values ≡ take n values
          taken = ap (λ l. l.values) loot ∙ ap (λ xs. xs ++ take n values) (sound.loot.none refl)

          places : w'.loot.places ≡ w.loot.places
          places = ap (λ l. l.places) loot

          leads : Leads q w'.place w w' s s'
          leads = subst (λ y. Leads q y w w' s s') (sym place) (record {
            same = refl;
            calm = never_apart q w s sound refl;
            root_ready = ap (λ (v : Worker). v.root_ready) same;
            hand = hand_same;
            searches = tt;
            loot = record { places = omega (arith, places, sound.loot.places); few = omega (arith, ap length taken, length-take-le n values (omega (arith, less)), half.2); none = λ is. true_false is };
            stolen = λ r has_r. has.whole.queued_here from its r there (Contains-append_left values its.queue.held r (taken_from n values r (subst (λ xs. Contains xs r) taken has_r)));
            seated = seated_still from its' false w s s' other set sound.seated;
            queue = λ chair at_own. sound.queue chair (sym (own_still from its' w s s' other set) ∙ at_own);
            aims = (other, few);
            batch = sound.batch;
            quiet = λ h. refl;
            stage = stage_still from its' w s s' other set;
          })

          spares : SparesSeats w.index s.seats.items s'.seats.items
          spares = seats_other w.index from s.seats.items s'.seats.items its its' set there (omega (arith, length-drop n values, less)) (record { phase = refl; pool = refl; left = refl; closed = refl; target = refl; mail = λ h. h; made = refl; queue = inr (inl (n, some, less, unclaimed, refl)) })

          count : (t : ℕ) → runnables_in t (hands_of w') + runnables_in t (q'.values ++ q'.held) ≡ runnables_in t (hands_of w) + runnables_in t (values ++ its.queue.held)
          count t =
              let hand = ap (λ o. runnables_in t (option_to_list o)) hand_same in
              let mine = ap (runnables_in t) taken in
              let none = ap (runnables_in t) (sound.loot.none refl) in
              omega (arith, in_both t (option_to_list w'.hand) w'.loot.values, in_both t (option_to_list w.hand) w.loot.values, in_both t (drop n values) its.queue.held, in_both t values its.queue.held, in_parts t n values, hand, mine, none)

          n_some : (n == 0) ≡ false
          n_some = let some_n = half.0 in grind (arith, nat_tests, some_n)

          hands : Hands from its.queue q' w w'
          hands =
              let claims_beside : (j : ℕ) → j ≢ from → is_number (claims_at w'.place) j ≡ is_number (claims_at w.place) j = λ j apart. ap (λ o. is_number o j) claiming ∙ not_same from j (λ is. apart (sym is)) ∙ sym (ap (λ o. is_number o j) unclaiming) in
              let claims : one_if (is_number (claims_at w'.place) from) + one_if (not (its.queue.gap == 0)) ≡ one_if (is_number (claims_at w.place) from) + one_if (not (q'.gap == 0)) = omega (arith, mine, none, gap, gap_then) in
              assumption (
                count,
                ap polls_at place ∙ sym (ap polls_at sound.here),
                ap (λ (v : Worker). v.searching) same,
                ap has_count_at place ∙ sym (ap has_count_at sound.here),
                ap (λ (v : Worker). v.index) same,
                ap is_published_at place ∙ sym (ap is_published_at sound.here),
                ap drops_at place ∙ sym (ap drops_at sound.here),
                told_on w w' s.clock on,
                claims_beside,
                claims,
              )
            where
              claiming : claims_at w'.place ≡ Some from
              claiming = ap claims_at place

              unclaiming : claims_at w.place ≡ None
              unclaiming = ap claims_at sound.here

              mine : one_if (is_number (claims_at w'.place) from) ≡ 1
              mine = ap (λ o. one_if (is_number o from)) claiming ∙ ap one_if (eq-eqb from from refl)

              none : one_if (is_number (claims_at w.place) from) ≡ 0
              none = ap (λ o. one_if (is_number o from)) unclaiming

              gap : one_if (not (its.queue.gap == 0)) ≡ 0
              gap = ap (λ m. one_if (not (m == 0))) unclaimed

              gap_then : one_if (not (n == 0)) ≡ 1
              gap_then = ap (λ b. one_if (not b)) n_some

          whole : (others : Profile) → IsWhole (with_worker others w) s → IsWhole (with_worker others w') s'
          whole others before =
              whole_queued others from its q' w w' s s' kept there set hands
              (λ r has_r. elim (Contains-append_cases (drop n values) its.queue.held r has_r) [
                | inl x ↦ inl (Contains-append_left values its.queue.held r (left_from n values r x))
                | inr y ↦ inl (Contains-append_right values its.queue.held r y)
              ]) before
      by false is loot set = requeued left spot from its its.queue q w w' s s' e sound (turn d its.queue was) on kept there set refl refl leads spares whole (shows d its.queue was desk)
        where
          next : Place
          next = judge_head s.config w.index x (head_of its.queue)

          s1 : Shared B
          s1 = record s { seats = s'.seats }

          d : Desk
          d = record (desk_of w) { place = next }

          was : m ≡ turns d.place d (queue_seen its.queue)
          was = rw (own_queue_seen from s its there, is) refl

          desk : desk_of w' ≡ d
          desk = makes.desk ∙ ap (λ y. y.desk) was

          place : w'.place ≡ next
          place = ap (λ y. y.place) desk

          kept_loot : w'.loot ≡ w.loot
          kept_loot = loot ∙ ap (λ xs. record w.loot { values = xs }) (append-nil w.loot.values)

          settles : Settles (Place.Look InLook.Publish) next (out w.searching) w s1
          settles = judged_settle (Place.Look InLook.Publish) x (head_of its.queue) w s1 refl refl (λ chair at_own. sound.queue chair (sym (own_still from its w s s' other set) ∙ at_own)) sound.batch other sound.aims.1

          empty : has_loot_at next ≡ false
          empty = ap (λ (k : Kind). k.loot) settles.same

          leads : Leads q w'.place w w' s s'
          leads = subst (λ y. Leads q y w w' s s') (sym place) (subst (Leads q next w w' s) (sym kept)
              (leads_to q (Place.Look InLook.Publish) next (out w.searching) w w' s s1 refl refl refl settles (ap (λ (v : Worker). v.root_ready) same) hand_same (ap (λ (v : Worker). v.searching) same) (never_apart q w s sound refl)
              (rw (empty, kept_loot) sound.loot) (λ r has_r. sound.stolen r (subst (λ l. Contains l.values r) kept_loot has_r)) (seated_still from its false w s s' other set sound.seated) (stage_still from its w s s' other set)))

          spares : SparesSeats w.index s.seats.items s'.seats.items
          spares = seats_other w.index from s.seats.items s'.seats.items its its set there (omega arith) (spared its)

          hands : Hands from its.queue its.queue w w'
          hands =
              same_hands from its.queue w w' hand_same kept_loot (ap polls_at place ∙ ap (λ (k : Kind). k.polls) settles.same ∙ sym (ap polls_at sound.here)) (ap (λ (v : Worker). v.searching) same) (ap has_count_at place ∙ settles.counts ∙ sym (ap has_count_at sound.here)) (ap (λ (v : Worker). v.index) same)
              (ap is_published_at place ∙ settles.published ∙ sym (ap is_published_at sound.here)) (ap claims_at place ∙ ap (λ (k : Kind). k.claims) settles.same ∙ sym (ap claims_at sound.here))
              (ap drops_at place ∙ ap (λ (k : Kind). k.drops) settles.same ∙ sym (ap drops_at sound.here)) (told_on w w' s.clock on)

          whole : (others : Profile) → IsWhole (with_worker others w) s → IsWhole (with_worker others w') s'
          whole others before = whole_queued others from its its.queue w w' s s' kept there set hands (λ r has_r. inl has_r) before
