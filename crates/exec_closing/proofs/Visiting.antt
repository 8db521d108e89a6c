-- The visits of the drain, each as a step of the machine: the newest task of a shard is taken out, or the shard is passed.
use Rattle.std.proofs.{Common.{◌≡◌, inl, inr, ℕ, zero, suc, ◌+◌, ◌-◌, ◌==◌, ◌<◌, Bool, true, false, List, [], ◌∷◌, ◌++◌, length, map, take, Option, None, Some, refl, sym, ap, subst, ◌∙◌, arith, slice_get, slice_set, slice_index_or, if◌then◌else◌, ◌≢◌}, lemmas.{Bool.{false≢true, Decides.nat_tests}, List.{length-set, map-append, set-get_or}}}
use Rattle.exec_task.specs.{TaskSet.{AreAtHome, IsFor, Set, at_number, passed, shard_at}, declared.{body.Said.Said, drain.Drain.Drain}}
use Rattle.exec_machine.specs.declared.{event.Event.{Event, TheVariants.Turn}, state.Next.Next}
use Rattle.exec_moves.specs.{declared.place.{InClosing.InClosing, Place.Place}, Close.visit, Parts.after_visit, Pop.shard_count, Seen.{next_in_closing, polls_at}, State.turns}
use Rattle.exec_parts.{specs.{declared.parts.{shared.Shared.Shared, worker.Worker.Worker}, Phased.{HasPassed, IsGoing, IsPrepared, closes_at, has_left, has_shut, has_stopped, root_over}, Pooled.{PassesShard, TakesTask, Visited}, Spots.Spot, View.{common_of, desk_of, driver_of, owed_at, visible}}, proofs.Facts.{by_number, not_same, same_number}}
use Rattle.exec_invariants.{proofs.{Showing.map_set, Closes.{closed_by, follows_in}, ClosesPool.{holds_still, stays, unset}, PoolClosing.{Recounts, pool_recounted}, PoolShards.{all_passed, front_none, home_set, newest_taken, passed_on, passed_still, shard_elsewhere}, PoolKept.{chosen_other, chosen_own, gates_same}, Shutting.{GoesOnlyOn, Pools, pools_calm, shown_as}, Slots.before_barrier, Turning.view_found}, specs.{Drained.{Duties, IsBefore, IsHeldOnce, in_set}, Places.{clears_at, drops_at, no_drops, one_if}, Sound.{Aims, HasBatch, LetsGoAt, SoundAt}, Whole.{duties_of, is_number, with_worker}, Works.Steps}}
use Rattle.exec_closing.proofs.Parting.{stopped_now}

abbrev numbers : List (ℕ × Unit {0}) → List ℕ
numbers shard = map (λ e. e.0) shard

-- THE LAST OF A LIST

one_less : (n : ℕ) → suc (suc n) - 1 ≡ suc (suc n - 1)
one_less n = omega arith

last_there : (ys : List ℕ) (t : ℕ) → slice_get (ys ++ t ∷ []) (length (ys ++ t ∷ []) - 1) ≡ Some t
last_there [] t = refl
last_there (y ∷ []) t = refl
last_there (y ∷ (z ∷ ys)) t = ap (slice_get (y ∷ ((z ∷ ys) ++ t ∷ []))) (one_less (length (ys ++ t ∷ []))) ∙ last_there (z ∷ ys) t

front_there : (ys : List ℕ) (t : ℕ) → take (length (ys ++ t ∷ []) - 1) (ys ++ t ∷ []) ≡ ys
front_there [] t = refl
front_there (y ∷ []) t = refl
front_there (y ∷ (z ∷ ys)) t = ap (λ k. take k (y ∷ ((z ∷ ys) ++ t ∷ []))) (one_less (length (ys ++ t ∷ []))) ∙ ap (λ zs. y ∷ zs) (front_there (z ∷ ys) t)

-- what is seen of a shard
shard_seen : (shards : List (List (ℕ × Unit {0}))) (i : ℕ) → slice_index_or (map numbers shards) i [] ≡ numbers (slice_index_or shards i [])
shard_seen [] i = refl
shard_seen (x ∷ xs) zero = refl
shard_seen (x ∷ xs) (suc i) = shard_seen xs i

never_empty : (xs : List (ℕ × Unit {0})) (x : ℕ × Unit {0}) → xs ++ x ∷ [] ≡ [] → ⊥
never_empty [] x h = cc
never_empty (y ∷ ys) x h = cc

pub positive : (n : ℕ) → (n == 0) ≡ false → 0 < n
positive n h = grind (arith, nat_tests)

module _ {B L : Type 0} (left : B → L) (spot : L → Option Said → Spot) (w w' : Worker) (s : Shared B) (set' : Set (Unit {0})) (e : Event) where
  module _ (drain : Drain) (sound : SoundAt (Place.Closing (InClosing.Visit drain)) w s) (going : IsGoing w.index s.seats.items) where
    abbrev pub s' : Shared B
    s' = record s { set = set' }

    -- where it leads, with the set then
    leads : (y : InClosing) → w' ≡ record w { place = Place.Closing y } → e ≡ Turn → set'.closed ≡ s.set.closed → length set'.shards ≡ length s.set.shards → has_left true (Some y) ≡ false → has_shut true (Some y) ≡ false → has_stopped true (Some y) ≡ true → root_over true (Some y) ≡ true → IsPrepared (Some y) w.names.unreleased set' → ((k : ℕ) → shard_at s.set k ≡ [] → shard_at set' k ≡ [])
        → Pools (Place.Closing y) w.home.closing w.batch w.processed w s s' → LetsGoAt (Place.Closing y) (driver_of w).requests w.home.timers → HasBatch (Place.Closing y) w.batch.values
        → closes_at (Place.Closing y) ≡ true → Aims (Place.Closing y) s.config w.index s.seats.items → next_in_closing y ≡ Next.Free → owed_at w.workers (Place.Closing y) ≡ []
        → visit (shard_count s.config) drain (desk_of w) (numbers (shard_at s.set drain.at)) ≡ turns (Place.Closing y) (desk_of w) (numbers (shard_at set' drain.at)) → map numbers set'.shards ≡ slice_set (map numbers s.set.shards) drain.at (numbers (shard_at set' drain.at)) → Steps left spot w s e w' s'
    leads y goes event closed more leaves shuts stops over prepared emptied pools lets_go batch closes aims free owes how shown =
        let q : Place = Place.Closing y in
        let phased = sound.phased sound.seated.seat sound.seated.there in
        let on : GoesOnlyOn w.index s s' = record { stopped = λ h. h; closed = λ h. closed ∙ h; by_zero = λ other. (refl, closed); shards = more; emptied = λ shut. emptied } in
        closed_by left spot (InClosing.Visit drain) q w.home.closing w.batch w.processed w w' s s' e sound (follows_in y)
        (stays left spot w w' s s' e (InClosing.Visit drain) y sound going refl refl closed more refl leaves shuts (λ is. stopped_now (InClosing.Visit drain) w s sound refl refl (sound.pooled refl) ∙ sym stops) (λ h. h) q closes refl refl over prepared refl refl lets_go batch aims)
        on (inl refl) (unset left spot w w' s s' e refl) pools (holds_still left spot w w' s s' e q refl) refl goes
        (λ p vs suits.
        let cs = common_of left spot p vs s in
        let again = view_found vs w.index (visible w) suits.seen in
        grind (arith, shown_as, shard_seen))

    -- the task is cleared next, by this worker
    taken_pools : (it : TakesTask drain w w' s.set set') → Pools (Place.Closing (InClosing.Clear it.task drain)) w.home.closing w.batch w.processed w s s'
    taken_pools it others whole = pool_recounted t d d1 s.tasks.items s.set set' s.seats.items recounts whole.pool
      where
        t : ℕ
        t = it.task

        w1 : Worker
        w1 = record w { place = Place.Closing (InClosing.Clear t drain) }

        d : Duties
        d = duties_of (with_worker others w)

        d1 : Duties
        d1 = duties_of (with_worker others w1)

        inside : drain.at < length s.set.shards
        inside = (sound.phased sound.seated.seat sound.seated.there).prepared.0.there

        counted : (u : ℕ) → in_set u s.set ≡ in_set u set' + one_if (t == u)
        counted u = newest_taken t u drain.at s.set set' inside it.takes

        was_clear : (u : ℕ) → d.clears u ≡ others.clears u + 0
        was_clear u = ap (λ p. others.clears u + one_if (is_number (clears_at p) u)) sound.here

        same_sum : (u : ℕ) → d1.clears u + in_set u set' ≡ d.clears u + in_set u s.set
        same_sum u =
            let mine : d1.clears u ≡ others.clears u + one_if (t == u) = refl in
            omega (arith, mine, was_clear u, counted u)

        others_by : (j : ℕ) → j ≢ w.index → d1.drops_by j ≡ d.drops_by j
        others_by j other = chosen_other j w.index (drops_at w1.place) (others.drops_by j) other ∙ sym (chosen_other j w.index (drops_at w.place) (others.drops_by j) other)

        was_mine : d.drops_by w.index ≡ no_drops
        was_mine = chosen_own w.index (drops_at w.place) (others.drops_by w.index) ∙ ap drops_at sound.here

        is_mine : d1.drops_by w.index ≡ drops_at w1.place
        is_mine = chosen_own w.index (drops_at w1.place) (others.drops_by w.index)

        shut : set'.closed ≡ true
        shut = ap (λ z. z.closed) it.takes.others ∙ (sound.phased sound.seated.seat sound.seated.there).closed (stopped_now (InClosing.Visit drain) w s sound refl refl (sound.pooled refl))

        clears : (u : ℕ) → 0 < d1.clears u → (j : ℕ) × IsBefore j s.seats.items × ((d1.drops_by j).clears ≡ Some u) × (set'.closed ≡ true)
        clears u some =
            by_number u t
            (λ other.
            let none : one_if (t == u) ≡ 0 = ap one_if (not_same t u (λ same. other (sym same))) in
            let mine : d1.clears u ≡ others.clears u + one_if (t == u) = refl in
            let old = whole.pool.who_clears u (omega (arith, mine, none, some, was_clear u)) in
            let apart : old.0 ≢ w.index = λ same. let never : None ≡ Some u = sym (ap (λ x. x.clears) was_mine) ∙ subst (λ j. (d.drops_by j).clears ≡ Some u) same old.2 in absurd (cc) in
            (old.0, old.1, ap (λ x. x.clears) (others_by old.0 apart) ∙ old.2, shut))
            (λ same. (w.index, before_barrier (Place.Closing (InClosing.Visit drain)) w s sound (sound.pooled refl) refl, ap (λ x. x.clears) is_mine ∙ ap (λ n. Some n) (sym same), shut))

        home_taken : AreAtHome s.set.shards → AreAtHome set'.shards
        home_taken home =
            subst (λ z. AreAtHome z.shards) (sym it.takes.others)
            (home_set s.set.shards drain.at (shard_at set' drain.at) inside (λ n away none. front_none (shard_at set' drain.at) ((t, tt) ∷ []) n (ap (λ zs. at_number zs n) (sym it.takes.newest) ∙ none)) home)

        recounts : Recounts t d d1 s.tasks.items s.set set' s.seats.items
        recounts = record {
          beside = λ u other. same_sum u;
          most = omega (arith, same_sum t);
          live = λ slot there home old. subst (IsHeldOnce slot) (sym (same_sum t)) old;
          fewer = λ u. omega (arith, counted u);
          closed = λ h. ap (λ z. z.closed) it.takes.others ∙ h;
          home = home_taken;
          polls = λ j. ap (λ o. if j == w.index then o else others.polled_by j) (sym (ap polls_at sound.here));
          clears = clears;
          stands = λ j u is. inl shut;
          removes = λ j u is.
              by_number j w.index
              (λ other. sym (ap (λ x. x.removes) (others_by j other)) ∙ is)
              (λ same. let never : None ≡ Some u = sym (ap (λ x. x.removes) is_mine) ∙ subst (λ k. (d1.drops_by k).removes ≡ Some u) same is in absurd (cc));
        }

    taken : TakesTask drain w w' s.set set' → e ≡ Turn → Steps left spot w s e w' s'
    taken it event =
        let t = it.task in
        let xs = shard_at set' drain.at in
        let seen : numbers (shard_at s.set drain.at) ≡ numbers xs ++ t ∷ [] = ap numbers it.takes.newest ∙ map-append (λ (n : ℕ × Unit {0}). n.0) xs (record { 0 = t; 1 = tt } ∷ []) in
        let set : set' ≡ record s.set { shards = slice_set s.set.shards drain.at xs } = it.takes.others in
        let how : visit (shard_count s.config) drain (desk_of w) (numbers (shard_at s.set drain.at)) ≡ turns (Place.Closing (InClosing.Clear t drain)) (desk_of w) (numbers xs) = rw (seen, last_there (numbers xs) t, front_there (numbers xs) t) refl in
        let prepared = (sound.phased sound.seated.seat sound.seated.there).prepared in
        let shards : set'.shards ≡ slice_set s.set.shards drain.at xs = ap (λ z. z.shards) set in
        -- the shard had this task
        let emptied : (k : ℕ) → shard_at s.set k ≡ [] → shard_at set' k ≡ [] = λ k none.
        by_number k drain.at
        (λ other. ap (λ zs. slice_index_or zs k []) shards ∙ shard_elsewhere s.set.shards drain.at k xs other ∙ none)
        (λ same. absurd (never_empty xs (record { 0 = t; 1 = tt }) (sym it.takes.newest ∙ ap (shard_at s.set) (sym same) ∙ none))) in
        leads (InClosing.Clear t drain) it.worker event (ap (λ z. z.closed) set) (ap (λ z. length z.shards) set ∙ length-set s.set.shards drain.at xs) refl refl refl refl (it.its, passed_still drain s.set set' xs prepared.1 shards prepared.2) emptied (taken_pools it) (λ no. absurd (false≢true no)) (λ no. absurd (false≢true no)) refl tt refl refl how
        (ap (λ z. map numbers z.shards) set ∙ map_set numbers s.set.shards drain.at xs)

    passes : PassesShard drain w w' s.set set' → e ≡ Turn → Steps left spot w s e w' s'
    passes it event = by ((passed (length s.set.shards) drain).left == 0) refl
      where
        next : Drain
        next = passed (length s.set.shards) drain

        none : numbers (shard_at s.set drain.at) ≡ []
        none = ap numbers it.empty

        after : numbers (shard_at set' drain.at) ≡ []
        after = ap (λ z. numbers (shard_at z drain.at)) it.same ∙ none

        how : (y : InClosing) → after_visit next ≡ y → visit (shard_count s.config) drain (desk_of w) (numbers (shard_at s.set drain.at)) ≡ turns (Place.Closing y) (desk_of w) (numbers (shard_at set' drain.at))
        how y is = rw (none, after, ← sound.shards, is) refl

        shown : map numbers set'.shards ≡ slice_set (map numbers s.set.shards) drain.at (numbers (shard_at set' drain.at))
        shown = grind (arith, it.same, set-get_or (map numbers s.set.shards) drain.at [], shard_seen s.set.shards drain.at, none, after)

        prepared : IsFor drain s.set × (0 < drain.left) × HasPassed drain s.set
        prepared = (sound.phased sound.seated.seat sound.seated.there).prepared

        passed_it : HasPassed next set'
        passed_it = subst (HasPassed next) (sym it.same) (passed_on drain s.set prepared.0 prepared.1 prepared.2 it.empty)

        fits : IsFor next set'
        fits = subst (IsFor next) (sym it.same) it.its

        emptied : (k : ℕ) → shard_at s.set k ≡ [] → shard_at set' k ≡ []
        emptied k none = ap (λ z. shard_at z k) it.same ∙ none

        pools : (y : InClosing) → drops_at (Place.Closing y) ≡ no_drops → Pools (Place.Closing y) w.home.closing w.batch w.processed w s s'
        pools y drops =
            pools_calm (InClosing.Visit drain) (Place.Closing y) w.home.closing w.batch w.processed w s s' sound (follows_in y) drops (gates_same s.seats.items s.seats.items refl) (ap (λ z. z.shards) it.same) (λ h. ap (λ z. z.closed) it.same ∙ h)

        by : (b : Bool) → (next.left == 0) ≡ b → Steps left spot w s e w' s'
        by true is =
            let goes : after_visit next ≡ InClosing.LeaveBarrier = rw is refl in
            leads InClosing.LeaveBarrier (it.worker ∙ ap (λ y. record w { place = Place.Closing y }) goes) event (ap (λ z. z.closed) it.same) (ap (λ z. length z.shards) it.same) refl refl refl refl (all_passed next set' fits (same_number next.left 0 is) passed_it) emptied (pools InClosing.LeaveBarrier refl) (λ no. absurd (false≢true no)) (λ no. absurd (false≢true no)) refl tt refl refl (how InClosing.LeaveBarrier goes) shown
        by false is =
            let goes : after_visit next ≡ InClosing.Visit next = rw is refl in
            leads (InClosing.Visit next) (it.worker ∙ ap (λ y. record w { place = Place.Closing y }) goes) event (ap (λ z. z.closed) it.same) (ap (λ z. length z.shards) it.same) refl refl refl refl
            (fits, positive next.left is, passed_it) emptied (pools (InClosing.Visit next) refl) (λ no. absurd (false≢true no)) (λ no. absurd (false≢true no)) refl tt refl refl (how (InClosing.Visit next) goes) shown

    pub shard_visited : Visited drain w w' s.set set' → e ≡ Turn → Steps left spot w s e w' s'
    shard_visited (inl it) event = taken it event
    shard_visited (inr it) event = passes it event
