-- A task that is over leaves the task set, as a step of the machine: what that leaves of the set, of what is sound, of others
-- and of the balances.
use Rattle.std.proofs.{Common.{[], ◌≡◌, ◌≢◌, ◌⊎◌, ⊎_elim, inr, ℕ, zero, suc, ◌+◌, ◌%◌, ◌<◌, ◌≤◌, ◌==◌, Bool, true, false, List, ◌∷◌, length, map, Option, Some, None, refl, sym, ap, subst, ◌∙◌, arith, slice_get, slice_index_or, slice_set, if◌then◌else◌, ◌||◌}, lemmas.{List.{length-set, map-set}}}
use Rattle.exec_task.specs.{TaskSet.{AreAtHome, Set, removed, shard_at}, declared.body.Said.Said}
use Rattle.exec_machine.specs.{After.common_after, declared.{config.Configuration.Configuration, event.Event.{Event, TheVariants.Turn}}, Choice.Choice.Plain, Progress.Plan}
use Rattle.exec_moves.specs.{declared.place.{InPick.InPick, InPoll.InPoll, Place.Place}, Cells.shard_of, Move.move_at, Poll.remove_task, Pop.shard_count, Seen.polls_at, State.{Moved, Things}, Thing.with_shard}
use Rattle.exec_parts.{specs.{declared.parts.{seat.Seat.Seat as Chair, shared.Shared.Shared, task_slot.TaskSlot.TaskSlot, worker.Worker.Worker}, Phased.{IsPhased, IsPrepared, closes_at, closing_in, has_stopped, is_complete, stage_of}, Spots.Spot, Tests.next_pick_of, View.{Views, common_of, desk_of, own_of, things_with, visible, with_view}}, proofs.Facts.{by_number, same_Some}}
use Rattle.exec_invariants.{specs.{Drained.{Duties, IsOver, IsPool, in_set}, Gates.HaveGates, Places.{claims_at, clears_at, drops_at, hands_on_at, has_count_at, in_poll_of, is_number, is_published_at, no_drops, one_if, polled_in, removes_at, step_of_poll}, Sound.{HasGuest, IsInHand, Serves, SoundAt, Stands, Stops}, Spares.Spares, Whole.{HasOne, HasWhole, IsWhole, Profile, duties_of, stock, with_worker}, Works.{Beside, Steps, Suits, Works}}, proofs.{Hearing.unheard, Polling.{IsOutside, next_hands, next_outside}, PoolClosing.{Recounts, pool_recounted}, PoolShards.{home_set, in_shard, in_shards, shard_elsewhere, shards_set}, PoolKept.{chosen_other, chosen_own}, PopLeads.some_shards, Shutting.{but_duties, mail_there, with_duties}, Slots.gates_free, SlotTasks.{Tasked, sound_tasked}, Turning.view_found}}
use Rattle.exec_polling.proofs.{Outsiders.spares_self, SpawnSets.shard_shown, PoolWithout.{numbers, shard_without, others_stay, as_few, but, filtered, without_none, at_most_all}}

-- THE STEP

module _ {B : Type 0} where
  -- what it needs: the task is in the set, unless that is closed
  pub removes_here : (t : ℕ) (w : Worker) (s : Shared B) → w.place ≡ Place.Poll t InPoll.RemoveTask → (has : HasWhole w s) → IsOver t s.tasks.items × ((s.set.closed ≡ true) ⊎ (in_set t s.set ≡ 1))
  removes_here t w s here has = has.whole.pool.removes w.index t (ap (λ x. x.removes) (chosen_own w.index (drops_at w.place) (has.others.drops_by w.index)) ∙ ap removes_at here)

  module _ (t : ℕ) (w : Worker) (s : Shared B) (set' : Set (Unit {0})) (sound : SoundAt (Place.Poll t InPoll.RemoveTask) w s) (set : set' ≡ removed s.set (record { 0 = t })) where
    abbrev shard : ℕ
    shard = t % length s.set.shards

    some : 0 < length s.set.shards
    some = omega (arith, some_shards s.config, sound.shards)

    inside : shard < length s.set.shards
    inside = mod_inside t (length s.set.shards) some
      where
        mod_inside : (a n : ℕ) → 0 < n → a % n < n
        mod_inside a n some = omega arith

    shards : set'.shards ≡ slice_set s.set.shards shard (shard_without t (shard_at s.set shard))
    shards = ap (λ z. z.shards) set

    closed : set'.closed ≡ s.set.closed
    closed = ap (λ z. z.closed) set

    many : length set'.shards ≡ length s.set.shards
    many = ap length shards ∙ length-set s.set.shards shard (shard_without t (shard_at s.set shard))

    sum : (u : ℕ) → in_set u set' + in_shard u (shard_at s.set shard) ≡ in_set u s.set + in_shard u (shard_without t (shard_at s.set shard))
    sum u = ap (λ zs. in_shards u zs + in_shard u (shard_at s.set shard)) shards ∙ shards_set u s.set.shards shard (shard_without t (shard_at s.set shard)) inside

    same_others : (u : ℕ) → u ≢ t → in_set u set' ≡ in_set u s.set
    same_others u other = omega (arith, sum u, others_stay t u (shard_at s.set shard) other)

    fewer : (u : ℕ) → in_set u set' ≤ in_set u s.set
    fewer u =
        by_number u t
        (λ other. omega (arith, same_others u other))
        (λ same. subst (λ m. in_set m set' ≤ in_set m s.set) (sym same) (omega (arith, sum t, as_few t (shard_at s.set shard))))

    home_without : AreAtHome s.set.shards → AreAtHome set'.shards
    home_without home = subst AreAtHome (sym shards) (home_set s.set.shards shard (shard_without t (shard_at s.set shard)) inside (λ n away none. without_none t (shard_at s.set shard) n none) home)

    emptied : (k : ℕ) → shard_at s.set k ≡ [] → shard_at set' k ≡ []
    emptied k none =
        by_number k shard
        (λ other. ap (λ zs. slice_index_or zs k []) shards ∙ shard_elsewhere s.set.shards shard k (shard_without t (shard_at s.set shard)) other ∙ none)
        (λ same. ap (shard_at set') same ∙ now_there ∙ ap (shard_without t) (ap (shard_at s.set) (sym same) ∙ none))
      where
        set_at : (xs : List (List (ℕ × Unit {0}))) (k : ℕ) (x : List (ℕ × Unit {0})) → k < length xs → slice_index_or (slice_set xs k x) k [] ≡ x
        set_at [] k x few = absurd (omega (arith, few))
        set_at (y ∷ ys) zero x few = refl
        set_at (y ∷ ys) (suc k) x few = set_at ys k x (omega (arith, few))

        now_there : shard_at set' shard ≡ shard_without t (shard_at s.set shard)
        now_there = ap (λ zs. slice_index_or zs shard []) shards ∙ set_at s.set.shards shard (shard_without t (shard_at s.set shard)) inside

    -- WHAT OTHERS RELY ON

    spares_removed : (j : ℕ) → Spares j s (record s { set = set' })
    spares_removed j =
        let shut : s.set.closed ≡ true → set'.closed ≡ true = λ h. closed ∙ h in
        let by_zero : j ≡ 0 → (s.stopped ≡ s.stopped) × (set'.closed ≡ s.set.closed) = λ h. (refl, closed) in
        let empties : s.set.closed ≡ true → (k : ℕ) → shard_at s.set k ≡ [] → shard_at set' k ≡ [] = λ h. emptied in
        assumption (shut, by_zero, many, empties, spares_self j s)

    -- THE BALANCES

    whole_removed : (q : Place) → polls_at q ≡ None → claims_at q ≡ None → has_count_at q ≡ false → is_published_at q ≡ false → drops_at q ≡ no_drops → (others : Profile) → IsWhole (with_worker others w) s → IsWhole (with_worker others (record w { place = q })) (record s { set = set' })
    whole_removed q polls claims counts published drops others whole =
        let w1 : Worker = record w { place = q } in
        let d : Duties = duties_of (with_worker others w) in
        let d1 : Duties = duties_of (with_worker others w1) in
        let x : Profile = with_duties (with_worker others w) d1 (mail_there others w.batch w) in
        let same : with_worker others w1 ≡ x =
        but_duties others q w.home.closing w.batch w.processed w (polls ∙ sym (ap polls_at sound.here)) (claims ∙ sym (ap claims_at sound.here)) (counts ∙ sym (ap has_count_at sound.here)) (published ∙ sym (ap is_published_at sound.here)) in
        let pool : IsPool d1 s.tasks.items set' s.seats.items = pool_recounted t d d1 s.tasks.items s.set set' s.seats.items (recounts others whole q polls drops) whole.pool in
        let runnables : (u : ℕ) (slot : TaskSlot B) → slice_get s.tasks.items u ≡ Some slot → slot.home ≡ None → HasOne (set'.closed || s.global.closed) slot.cell.phase (whole_runnables others u + stock u s) = grind (arith, closed) in
        let gates : HaveGates d1.drops_by s.opens s.requests.items =
        gates_free w.index d.drops_by d1.drops_by s.opens s.requests.items
        (λ j other. chosen_other j w.index (drops_at q) (others.drops_by j) other ∙ sym (chosen_other j w.index (drops_at w.place) (others.drops_by j) other))
        (ap (λ y. y.passes) (chosen_own w.index (drops_at q) (others.drops_by w.index) ∙ drops)) (ap (λ y. y.joins) (chosen_own w.index (drops_at q) (others.drops_by w.index) ∙ drops)) whole.gates in
        subst (λ y. IsWhole y (record s { set = set' })) (sym same) (assumption (runnables, pool, gates, whole))
      where
        whole_runnables : Profile → ℕ → ℕ
        whole_runnables others u = (with_worker others w).runnables u

        recounts : (others : Profile) → IsWhole (with_worker others w) s → (q : Place) → polls_at q ≡ None → drops_at q ≡ no_drops
            → Recounts t (duties_of (with_worker others w)) (duties_of (with_worker others (record w { place = q }))) s.tasks.items s.set set' s.seats.items
        recounts others whole q polls drops =
            record {
              beside = λ u other. let n = same_others u other in omega (arith, as_clear u, n);
              most = omega (arith, as_clear t, fewer t);
              live = λ slot found home old.
                  let over = whole.pool.removes w.index t mine in
                  let is : over.0.slot ≡ slot = same_Some over.0.slot slot (sym over.0.there ∙ found) in
                  let complete : is_complete slot.cell.phase ≡ true = ap (λ (y : TaskSlot B). is_complete y.cell.phase) (sym is) ∙ over.0.over in
                  grind (arith, old.most, as_clear t, fewer t, false, true, complete);
              fewer = fewer;
              closed = λ h. closed ∙ h;
              home = home_without;
              polls = λ j. ap (λ o. if j == w.index then o else others.polled_by j) (polls ∙ sym (ap polls_at sound.here));
              clears = grind (arith, closed);
              removes = λ j u is. by_number j w.index (λ other. sym (ap (λ x. x.removes) (drops_other j other)) ∙ is) (λ same. absurd (none_now u (subst (λ k. (d1.drops_by k).removes ≡ Some u) same is)));
              stands = λ j u is.
                  by_number j w.index
                  (λ other. inr (same_others u (λ same. other (whole.pool.alone j w.index t (subst (λ m. (d.drops_by j).removes ≡ Some m) same (sym (ap (λ x. x.removes) (drops_other j other)) ∙ is)) mine))))
                  (λ same. absurd (none_now u (subst (λ k. (d1.drops_by k).removes ≡ Some u) same is)));
            }
          where
            d : Duties
            d = duties_of (with_worker others w)

            d1 : Duties
            d1 = duties_of (with_worker others (record w { place = q }))

            drops_other : (j : ℕ) → j ≢ w.index → d1.drops_by j ≡ d.drops_by j
            drops_other j other = chosen_other j w.index (drops_at q) (others.drops_by j) other ∙ sym (chosen_other j w.index (drops_at w.place) (others.drops_by j) other)

            drops_mine : d1.drops_by w.index ≡ no_drops
            drops_mine = chosen_own w.index (drops_at q) (others.drops_by w.index) ∙ drops

            drops_was : d.drops_by w.index ≡ drops_at (Place.Poll t InPoll.RemoveTask)
            drops_was = chosen_own w.index (drops_at w.place) (others.drops_by w.index) ∙ ap drops_at sound.here

            mine : (d.drops_by w.index).removes ≡ Some t
            mine = ap (λ x. x.removes) drops_was

            none_now : (u : ℕ) → (d1.drops_by w.index).removes ≡ Some u → ⊥
            none_now u is = let never : None ≡ Some u = sym (ap (λ x. x.removes) drops_mine) ∙ is in cc

            as_clear : (u : ℕ) → d1.clears u ≡ d.clears u
            as_clear u = ap (λ o. others.clears u + one_if (is_number o u)) (ap (λ x. x.clears) drops ∙ sym (ap clears_at sound.here))

            clears_still : (j : ℕ) → (d1.drops_by j).clears ≡ (d.drops_by j).clears
            clears_still j =
                by_number j w.index
                (λ other. ap (λ x. x.clears) (drops_other j other))
                (λ same. subst (λ k. (d1.drops_by k).clears ≡ (d.drops_by k).clears) (sym same) (ap (λ x. x.clears) drops_mine ∙ sym (ap (λ x. x.clears) drops_was)))

    -- WHAT IS SOUND

    sound_removed : (q : Place) → IsOutside q → hands_on_at q ≡ false → SoundAt q (record w { place = q }) (record s { set = set' })
    sound_removed q out hands =
        let w1 : Worker = record w { place = q } in
        let empty : w.hand ≡ None = sound.hand in
        let unpolled : polled_in w.root q ≡ None = ap (λ o. in_poll_of w.root o (step_of_poll q)) out.polls in
        let tasked : Tasked q w w.root_ready w.hand s s.tasks.items = record {
          pooled = λ is. sound.pooled refl;
          serves = subst (λ o. Serves o w.root w.role) (sym out.polls) tt;
          homes = sound.homes;
          runnable = sound.runnable;
          hand = subst (λ b. IsInHand None b w.hand) (sym hands) empty;
          genuine = λ r has. ⊎_elim (λ never. absurd (let no : None ≡ Some w.root = never in cc)) (λ g. g) (sound.genuine r has);
          guest = subst (λ o. HasGuest o (step_of_poll q) w.index w.root s.tasks.items) (sym out.polls) tt;
          resting = sound.resting;
          stops = subst (λ o. Stops o (step_of_poll q) w.index s.tasks.items s.requests.items s.sleepers.items) (sym out.polls) tt;
          going = λ slot found. (sound.phased sound.seated.seat sound.seated.there).root slot found;
          stands = λ slot found. subst (λ x. Stands x w.index slot) (sym unpolled) (sound.tied.stands slot found);
        } in
        let went : SoundAt q w1 s = sound_tasked t InPoll.RemoveTask q w w.root_ready w.hand s s sound out.after tasked in
        let more : length set'.shards ≡ shard_count s.config = many ∙ sound.shards in
        let phased : (chair : Chair) → slice_get s.seats.items w.index ≡ Some chair → IsPhased w.index (closes_at q) (closing_in q) w.home.closing w.root w.names.unreleased (record (stage_of chair s) { set = set' }) s.tasks.items = λ chair found.
        let old = went.phased chair found in
        let by_zero : w.index ≡ 0 → (s.stopped ≡ has_stopped (closes_at q) (closing_in q)) × (set'.closed ≡ closes_at q) = λ is. ((old.by_zero is).0, closed ∙ (old.by_zero is).1) in
        let shut : s.stopped ≡ true → set'.closed ≡ true = λ h. closed ∙ old.closed h in
        let prepared : IsPrepared (closing_in q) w.names.unreleased set' = subst (λ x. IsPrepared x w.names.unreleased set') (sym out.after.closing) tt in
        assumption (by_zero, shut, prepared, old) in
        assumption (more, phased, went)

module _ {B L : Type 0} (left : B → L) (spot : L → Option Said → Spot) where
  pub task_removed : (t : ℕ) (w w' : Worker) (s : Shared B) (set' : Set (Unit {0})) (e : Event) → SoundAt (Place.Poll t InPoll.RemoveTask) w s → HasWhole w s → e ≡ Turn → w' ≡ record w { place = next_pick_of w } → set' ≡ removed s.set (record { 0 = t }) → Steps left spot w s e w' (record s { set = set' })
  task_removed t w w' s set' e sound has event goes set = subst (λ v. Steps left spot w s e v s1) (sym goes) (works, sound_removed t w s set' sound set q out (next_hands (w.picks == 0)), unheard refl refl refl, beside)
    where
      q : Place
      q = next_pick_of w

      w1 : Worker
      w1 = record w { place = q }

      s1 : Shared B
      s1 = record s { set = set' }

      out : IsOutside q
      out = next_outside (w.picks == 0)

      plain : (b : Bool) → (claims_at (if b then Place.TakeRootFlag else Place.Pick InPick.CountDown) ≡ None) × (has_count_at (if b then Place.TakeRootFlag else Place.Pick InPick.CountDown) ≡ false) × (is_published_at (if b then Place.TakeRootFlag else Place.Pick InPick.CountDown) ≡ false) × (drops_at (if b then Place.TakeRootFlag else Place.Pick InPick.CountDown) ≡ no_drops)
      plain true = (refl, refl, refl, refl)
      plain false = (refl, refl, refl, refl)

      beside : Beside w s w1 s1
      beside =
          let it = plain (w.picks == 0) in
          record {
            spares = λ j other. spares_removed t w s set' sound set j;
            whole = λ others whole. whole_removed t w s set' sound set q out.polls it.0 it.1 it.2 it.3 others whole;
          }

      k : ℕ
      k = shard_of s.config t

      old : List (ℕ × Unit {0})
      old = shard_at s.set k

      -- it stood there once
      once : in_shard t old ≤ 1
      once =
          let over = (removes_here t w s sound.here has).0 in
          omega (arith, (has.whole.pool.live t over.slot over.there over.ordinary).most, at_most_all t s.set.shards k)

      shown : map numbers set'.shards ≡ slice_set (map numbers s.set.shards) k (but t (numbers old))
      shown = grind (arith, set, sound.shards, map-set numbers s.set.shards k (shard_without t old), filtered t old once)

      works : (p : Plan) (vs : Views) → Suits p vs w s → Works left spot p vs w s e w1 s1
      works p vs suits =
          let x = things_with vs s in
          let cs = common_of left spot p vs s in
          let again : with_view vs w.index (visible w1) ≡ vs = view_found vs w.index (visible w) suits.seen in
          let still : common_after p.config (own_of w) cs w.index e Plain ≡ cs = rw (event, sound.here) refl in
          let moved : Configuration → Moved Things = λ c. with_shard (shard_of c t) x (remove_task t (desk_of w) (slice_index_or x.shards (shard_of c t) [])) in
          let made : List (List ℕ) → Moved Things = λ zs. record { event = Turn; choice = Plain; desk = desk_of w1; thing = record x { shards = zs } } in
          record {
            choice = Plain;
            moves =
                subst (λ y. move_at p.config w.index (own_of w) cs (desk_of w) x y ≡ record { event = e; choice = Plain; desk = desk_of w1; thing = things_with (with_view vs w.index (visible w1)) s1 }) (sym sound.here)
                (ap moved (sym suits.config)
                ∙ ap (λ shard. with_shard k x (remove_task t (desk_of w) shard)) (shard_shown s.set.shards k)
                ∙ ap made (sym shown)
                ∙ ap (λ y. record { event = y; choice = Plain; desk = desk_of w1; thing = things_with vs s1 }) (sym event)
                ∙ ap (λ v. record { event = e; choice = Plain; desk = desk_of w1; thing = things_with v s1 }) (sym again));
            may = rw event tt;
            own = rw (event, sound.here, out.polls, out.free, out.unserved, out.owes) refl;
            common = ap (λ v. common_of left spot p v s1) again ∙ ap (λ b. record cs { set_closed = b }) (ap (λ z. z.closed) set) ∙ sym still;
          }
