-- Where one run queue changes, and what is in the hands of the worker: what that leaves of the balances, and where it leads.
use Rattle.exec_invariants.{specs.{Gates.HaveGates, Holding.box_of, Kinds.{Kind, lowered}, Places.{claims_at, drops_at, has_count_at, has_loot_at, is_armed_at, is_pooled_at, is_published_at, one_if, searches_at, step_of_poll, in_poll_of, begins_at, hands_on_at, polled_in}, Sound.{Aims, HasBatch, HasQueue, IsLoot, IsSeated, IsSearching, SoundAt, has_wakes_at, IsTied, HasRunnable, root_in_hand, IsInHand, IsHeld}, Whole.{HasOne, IsGenuine, IsWhole, Profile, claimed_count, duties_of, is_number, may_let_go, queued, runnables_in, stock, with_worker}, Works.{Steps, Suits}}, proofs.{Words.{◌≡◌, ◌≢◌, ℕ, zero, suc, ◌+◌, ◌*◌, ◌≤◌, ◌==◌, Bool, true, false, not, ◌⊎◌, inl, inr, Contains, List, [], ◌∷◌, ◌++◌, length, map, sum_by, Option, None, Some, refl, sym, ap, subst, ◌∙◌, arith, option_to_list, slice_get, slice_set, false≢true, length-set, sum_by-cons, slice_get_within, Queue, Reserved, Said, Runnable, Event, Turn, Next, Plain, Plan, Place, move_at, next_at, polls_at, serves_at, set_queue, is_pool, Chair, Shared, Worker, closes_at, closing_in, IsPhased, Stage, stage_of, Spot, Views, common_of, desk_of, own_of, queue_seen, seats_seen, things_with, by_number, set_elsewhere, set_there}, Showing.{map_kept, queue_shows, seats_kept}, Aside.{hands_same, SameTold, spares_turn, SparesSeats}, Counting.Stance, Idled.{calm_of, guest_again, guest_calm, Settles, step_again, stops_again, stops_calm, step_if}, PoolKept.{drops_same, gates_set, pool_of, pool_seats}, Turning.{Arrives, GoesOn, lower_on, OfKind, pool_low, turned}}}

-- SUMS

pub sum_set : (f : Chair → ℕ) (xs : List Chair) (k : ℕ) (x y : Chair) → slice_get xs k ≡ Some x → sum_by f (slice_set xs k y) + f x ≡ sum_by f xs + f y
sum_set f [] k x y there = absurd (cc)
sum_set f (z ∷ zs) zero x y there = grind (arith, sum_by-cons)
sum_set f (z ∷ zs) (suc k) x y there = omega (arith, sum_by-cons f z (slice_set zs k y), sum_by-cons f z zs, sum_set f zs k x y there)

-- THE BALANCES

-- what is in the hands
abbrev pub hands_of : Worker → List Runnable
hands_of w = option_to_list w.hand ++ w.loot.values

-- runnables go between the hands and the run queue of worker k, and a claim of that may come or go
pub record Hands (k : ℕ) (q q' : Queue Runnable) (w w' : Worker) : Type 0 where
  pub runnables : (t : ℕ) → runnables_in t (hands_of w') + runnables_in t (q'.values ++ q'.held) ≡ runnables_in t (hands_of w) + runnables_in t (q.values ++ q.held)
  pub polls : polls_at w'.place ≡ polls_at w.place
  pub searching : w'.searching ≡ w.searching
  pub counts : has_count_at w'.place ≡ has_count_at w.place
  pub index : w'.index ≡ w.index
  pub published : is_published_at w'.place ≡ is_published_at w.place
  pub drops : drops_at w'.place ≡ drops_at w.place
  pub told : SameTold w w'
  pub claims_beside : (j : ℕ) → j ≢ k → is_number (claims_at w'.place) j ≡ is_number (claims_at w.place) j
  pub claims : one_if (is_number (claims_at w'.place) k) + one_if (not (q.gap == 0)) ≡ one_if (is_number (claims_at w.place) k) + one_if (not (q'.gap == 0))

-- WHERE IT LEADS

-- what a place says but of counts, the idle set, loot and claims
abbrev pub bare_of : Place → Kind
bare_of p = record (calm_of p) { loot = true; claims = None }

any_loot : (b : Bool) (loot : Reserved Runnable) → IsLoot b loot → IsLoot true loot
any_loot b loot h = record { places = h.places; few = h.few; none = λ is. absurd (false≢true (sym is)) }

module _ {B : Type 0} where
  pub whole_queued : (others : Profile) (k : ℕ) (its : Chair) (q' : Queue Runnable) (w w' : Worker) (s s' : Shared B) → s' ≡ record s { seats = s'.seats } → slice_get s.seats.items k ≡ Some its → s'.seats.items ≡ slice_set s.seats.items k (record its { queue = q' })
      → Hands k its.queue q' w w' → ((r : Runnable) → Contains (q'.values ++ q'.held) r → Contains (queued its) r ⊎ IsGenuine s.tasks.items r) → IsWhole (with_worker others w) s → IsWhole (with_worker others w') s'
  whole_queued others k its q' w w' s s' kept there set hands genuine whole =
      let s1 : Shared B = record s { seats = s'.seats } in
      let its' : Chair = record its { queue = q' } in
      let now : slice_get s'.seats.items k ≡ Some its' = ap (λ xs. slice_get xs k) set ∙ set_there s.seats.items k its' its there in
      -- what is at another seat was there
      let was : (j : ℕ) (chair : Chair) → j ≢ k → slice_get s'.seats.items j ≡ Some chair → slice_get s.seats.items j ≡ Some chair =
      λ j chair other at_j. sym (set_elsewhere s.seats.items k j its' other) ∙ ap (λ xs. slice_get xs j) (sym set) ∙ at_j in
      let is_its : (j : ℕ) (chair : Chair) → j ≡ k → slice_get s'.seats.items j ≡ Some chair → its' ≡ chair = λ j chair same at_j. cc (sym now, subst (λ n. slice_get s'.seats.items n ≡ Some chair) same at_j) in
      let number : (t : ℕ) → (with_worker others w').runnables t + stock t s1 ≡ (with_worker others w).runnables t + stock t s = λ t.
      let f : Chair → ℕ = λ chair. runnables_in t (queued chair) in
      omega (arith, ap (λ xs. sum_by f xs + f its) set ∙ sum_set f s.seats.items k its its' there, hands.runnables t) in
      let claimed : claimed_count (with_worker others w') s1 ≡ claimed_count (with_worker others w) s = rw (hands.index, hands.published) refl in
      let done : IsWhole (with_worker others w') s1 = record {
        runnables = λ t slot at_t home. subst (HasOne (may_let_go s) slot.cell.phase) (sym (number t)) (whole.runnables t slot at_t home);
        polls = λ t slot at_t home. rw hands.polls (whole.polls t slot at_t home);
        claims = λ j chair at_j.
            by_number j k
            (λ other. rw (hands.claims_beside j other) (whole.claims j chair (was j chair other at_j)))
            (λ same.
            rw (← is_its j chair same at_j, same) (omega (arith, whole.claims k its there, hands.claims)));
        counts = rw (claimed, hands.searching, hands.counts) whole.counts;
        bits = λ j h. rw (hands.index, hands.published) (whole.bits j h);
        set = whole.set;
        queued_here = λ j chair r at_j has.
            by_number j k
            (λ other. whole.queued_here j chair r (was j chair other at_j) has)
            (λ same.
            elim (genuine r (subst (λ (c : Chair). Contains (queued c) r) (sym (is_its j chair same at_j)) has)) [
              | inl before ↦ whole.queued_here k its r there before
              | inr is ↦ is
            ]);
        queued_there = whole.queued_there;
        places = whole.places;
        made = λ t more. let none = whole.made t more in (number t ∙ none.0, rw hands.polls none.1);
        unclaimed = λ j more.
            let beyond : length s.seats.items ≤ j = subst (λ n. n ≤ j) (ap length set ∙ length-set s.seats.items k its') more in
            rw (hands.claims_beside j (λ same. omega (arith, beyond, slice_get_within s.seats.items k its there, same))) (whole.unclaimed j beyond);
        in_pool = λ j chair at_j.
            let was_j = (gates_set k s.seats.items s'.seats.items its its' set there (record { left = refl; pool = refl; closed = refl; mail = λ h. h })).back j chair at_j in
            was_j.2.pool ∙ whole.in_pool j was_j.0 was_j.1;
        pool =
            pool_of others w w' s.tasks.items s.set s'.seats.items hands.index hands.polls hands.drops
            (pool_seats (duties_of (with_worker others w)) s.tasks.items s.set s.seats.items s'.seats.items (gates_set k s.seats.items s'.seats.items its its' set there (record { left = refl; pool = refl; closed = refl; mail = λ h. h })) whole.pool);
        gates = subst (λ f. HaveGates f s.opens s.requests.items) (sym (drops_same others w w' hands.index hands.drops)) whole.gates;
        holding = rw (hands_same others w w' hands.index hands.told, ap (map box_of) set ∙ map_kept box_of s.seats.items k its' its there refl) whole.holding;
      } in
      subst (IsWhole (with_worker others w')) (sym kept) done

  pub record Leads (q q' : Place) (w v : Worker) (s t : Shared B) : Type 0 where
    pub same : bare_of q' ≡ lowered w.role (is_pooled_at q') (bare_of q)
    pub calm : is_pool w.role ≡ false → v.searching ≡ false
    pub root_ready : v.root_ready ≡ w.root_ready
    pub hand : v.hand ≡ w.hand
    pub searches : IsSearching (searches_at q') v.searching
    pub loot : IsLoot (has_loot_at q') v.loot
    pub stolen : (r : Runnable) → Contains v.loot.values r → IsGenuine s.tasks.items r
    pub seated : IsSeated w.index (is_armed_at q') s.config.workers t.seats.items
    pub queue : (chair : Chair) → slice_get t.seats.items w.index ≡ Some chair → HasQueue q' chair.queue
    pub aims : Aims q' s.config w.index t.seats.items
    pub batch : HasBatch q' w.batch.values
    pub quiet : has_wakes_at q' ≡ false → has_wakes_at q ≡ false
    pub stage : (chair : Chair) → slice_get t.seats.items w.index ≡ Some chair → (was : Chair) × (slice_get s.seats.items w.index ≡ Some was) × (stage_of was s ≡ stage_of chair s)

  of_bare : (q q' : Place) (w : Worker) (s : Shared B) → SoundAt q w s → bare_of q' ≡ lowered w.role (is_pooled_at q') (bare_of q) → OfKind (bare_of q') w s
  of_bare q q' w s sound same =
      let tied : IsTied (in_poll_of w.root (polls_at q) (step_if (polls_at q) (step_of_poll q))) w.index w.root s.tasks.items = rw (step_again w.root (polls_at q) (step_of_poll q)) sound.tied in
      let pooled = pool_low (is_pooled_at q') (is_pooled_at q) (is_pool w.role) sound.pooled in
      let guest = guest_calm (polls_at q) (step_of_poll q) w.index w.root s.tasks.items sound.guest in
      let stops = stops_calm (polls_at q) (step_of_poll q) w.index s.tasks.items s.requests.items s.sleepers.items sound.stops in
      subst (λ k. OfKind k w s) (sym same) (assumption (any_loot (has_loot_at q) w.loot sound.loot, pooled, guest, stops, tied, tt, sound))

  pub led_on : (q q' : Place) (w v : Worker) (s t : Shared B) → SoundAt q w s → Leads q q' w v s t → Arrives q' w v s t
  led_on q q' w v s t sound to =
      let it = of_bare q q' w s sound to.same in
      let runnable : HasRunnable w.index w.root v.root_ready (root_in_hand (begins_at q') w.root v.hand) s.tasks.items = rw (to.root_ready, to.hand) it.runnable in
      let hand : IsInHand (begins_at q') (hands_on_at q') v.hand = rw to.hand it.hand in
      let genuine : (r : Runnable) → Contains (option_to_list v.hand) r → IsHeld (begins_at q') w.root s.tasks.items r = rw to.hand it.genuine in
      let batch_place : (chair : Chair) → slice_get t.seats.items w.index ≡ Some chair → chair.mailbox.inbox.closed ≡ false → 2 * chair.made + 1 ≤ w.batch.places = λ chair there.
      let was = to.stage chair there in
      subst (λ (st : Stage). st.shut ≡ false → 2 * st.made + 1 ≤ w.batch.places) was.2 (sound.batch_place was.0 was.1) in
      let quiet : has_wakes_at q' ≡ false → w.home.deferred.notes.wakes.items ≡ [] = λ h. sound.quiet (to.quiet h) in
      let phased : (chair : Chair) → slice_get t.seats.items w.index ≡ Some chair → IsPhased w.index (closes_at q') (closing_in q') w.home.closing w.root w.names.unreleased (stage_of chair s) s.tasks.items = λ chair there.
      let was = to.stage chair there in
      subst (λ stage. IsPhased w.index (closes_at q') (closing_in q') w.home.closing w.root w.names.unreleased stage s.tasks.items) was.2 (it.phased was.0 was.1) in
      let stops = stops_again (polls_at q') (step_of_poll q') w.index s.tasks.items s.requests.items s.sleepers.items it.stops in
      let tied : IsTied (polled_in w.root q') w.index w.root s.tasks.items = rw (← step_again w.root (polls_at q') (step_of_poll q')) it.tied in
      assumption (runnable, hand, genuine, batch_place, quiet, phased, guest_again (polls_at q') (step_of_poll q') w.index w.root s.tasks.items it.guest, stops, tied, to, it)

  -- to what a place of the same kind settles at, with the seats as they are then
  pub leads_to : (q r q' : Place) (z : Stance) (w v : Worker) (s t : Shared B) → t ≡ record s { seats = t.seats } → bare_of r ≡ lowered w.role (is_pooled_at r) (bare_of q) → has_wakes_at r ≡ has_wakes_at q → Settles r q' z w t → v.root_ready ≡ w.root_ready → v.hand ≡ w.hand → v.searching ≡ z.searching → (is_pool w.role ≡ false → v.searching ≡ false)
      → IsLoot (has_loot_at q') v.loot → ((r : Runnable) → Contains v.loot.values r → IsGenuine s.tasks.items r) → IsSeated w.index (is_armed_at r) s.config.workers t.seats.items
      → ((chair : Chair) → slice_get t.seats.items w.index ≡ Some chair → (was : Chair) × (slice_get s.seats.items w.index ≡ Some was) × (stage_of was s ≡ stage_of chair s)) → Leads q q' w v s t
  leads_to q r q' z w v s t kept bare wakes to root_ready hand searching calm loot stolen seated stage =
      let same = lower_on w.role (bare_of q) (bare_of r) (bare_of q') (ap (λ (k : Kind). record k { loot = true; claims = None }) to.same) bare in
      let seated_then = subst (λ (k : Kind). IsSeated w.index k.armed s.config.workers t.seats.items) (sym to.same) seated in
      let aims = subst (λ c. Aims q' c w.index t.seats.items) (ap (λ (x : Shared B). x.config) kept) to.aims in
      let quiet : has_wakes_at q' ≡ false → has_wakes_at q ≡ false = λ h. sym wakes ∙ to.quiet h in
      assumption (same, calm, root_ready, hand, subst (IsSearching (searches_at q')) (sym searching) to.searches, loot, stolen, seated_then, aims, quiet, stage, to)

-- A plain turn by which the run queue of worker k becomes this.
pub requeued : {B L : Type 0} (left : B → L) (spot : L → Option Said → Spot) (k : ℕ) (its : Chair) (x : Queue Runnable) (q : Place) (w w' : Worker) (s s' : Shared B) (e : Event) → SoundAt q w s → e ≡ Turn → GoesOn w w' s.clock
    → s' ≡ record s { seats = s'.seats } → slice_get s.seats.items k ≡ Some its → s'.seats.items ≡ slice_set s.seats.items k (record its { queue = x })
    → next_at q ≡ Next.Free → serves_at q ≡ false → Leads q w'.place w w' s s' → SparesSeats w.index s.seats.items s'.seats.items
    → ((others : Profile) → IsWhole (with_worker others w) s → IsWhole (with_worker others w') s')
    → ((p : Plan) (vs : Views) → Suits p vs w s → move_at p.config w.index (own_of w) (common_of left spot p vs s) (desk_of w) (things_with vs s) q ≡ record { event = Turn; choice = Plain; desk = desk_of w'; thing = set_queue k (things_with vs s) (queue_seen x) })
    → Steps left spot w s e w' s'
requeued {B} left spot k its x q w w' s s' e sound event on kept there set free unserved to spares whole moves =
    let shares : s' ≡ record s { seats = s'.seats; idle = s'.idle; global = s'.global } = subst (λ (z : Shared B). z ≡ record s { seats = z.seats; idle = z.idle; global = z.global }) (sym kept) refl in
    turned left spot q w w' s s' e sound event on shares (ap (λ (z : Shared B). z.global.closed) kept)
    (λ vs. ap (seats_seen vs) set ∙ seats_kept vs s.seats.items k its (record its { queue = x }) there (λ v. refl)) (grind arith) (led_on q w'.place w w' s s' sound to)
    (record { spares = λ j other. spares_turn w.index j s s' other shares spares; whole = whole })
    (λ p vs suits. moves p vs suits ∙ ap (λ y. record { event = Turn; choice = Plain; desk = desk_of w'; thing = y }) (sym (queue_shows vs k s s'.seats.items its x there set (things_with vs s') (ap (things_with vs) kept))))
