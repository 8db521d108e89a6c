-- What is seen of a worker after a step of a service, by its driver.
use Rattle.exec_invariants.{specs.{Sound.SoundAt, Works.{Works, Suits, Steps}}, proofs.{Words.{◌≡◌, ℕ, zero, suc, List, [], ◌∷◌, map, Option, Some, refl, sym, ap, subst, slice_get, slice_set, set-get_or, arith, Driving, Said, Event, allowed, own_after, common_after, Plain, Plan, AllTrue, Common, Place, move_at, Things, no_wake_poll, ring_of, set_ring, Reply, Record, Chair, Shared, Worker, changed_at, Spot, Views, Visible, visible, with_view, own_of, desk_of, driver_of, common_of, polls_seen, raised_times, seat_seen, things_with}, Hearing.unheard, Recorded.shown_changed, Keys.{name_in, same_opens, names_changed}, Lined.{gates_seen_same, passing_same, was_sent}, Raising.views_kept, Serving.{Balances, SparesGates, SparesRecords, beside_service_by, sound_again_by, spares_gates}, ServingHolds.{OthersKept, Serves, Keeps, nap_sent}, Shown.{makes, own_with, desk_with, visible_with}}}
pub use Rattle.exec_invariants.proofs.Shown.{makes, own_with, desk_with, visible_with}

pub record Shows (w w' : Worker) (d : Driving Reply Reply) : Type 0 where
  pub own : own_of w' ≡ own_with w w'.place w'.names.ended.items w'.names.untold.items d
  pub desk : desk_of w' ≡ desk_with w w'.place w'.put_off w'.home.deferred d
  pub seen : visible w' ≡ visible_with w.names.requests.items (visible w).taken d.ring

-- what stands beside the machine, where a worker's wake poll shows the same
polls_alike : (vs : List Visible) (seats : List Chair) (i : ℕ) (v v' : Visible) → slice_get vs i ≡ Some v → v'.wakes ≡ v.wakes → polls_seen (slice_set vs i v') seats ≡ polls_seen vs seats
polls_alike [] seats i v v' seen same = refl
polls_alike (x ∷ vs) [] zero v v' seen same = refl
polls_alike (x ∷ vs) [] (suc i) v v' seen same = refl
polls_alike (x ∷ vs) (seat ∷ seats) zero v v' seen same = grind arith
polls_alike (x ∷ vs) (seat ∷ seats) (suc i) v v' seen same = ap (λ ps. raised_times seat.raised x.wakes ∷ ps) (polls_alike vs seats i v v' seen same)

-- a ring whose wake poll is written as it is
pub ring_again : (x : Things) (i : ℕ) (s : Common) → set_ring i x (ring_of s x i) ≡ x
ring_again x i s = ap (λ ps. record x { wake_polls = ps }) (set-get_or x.wake_polls i no_wake_poll)

module _ {B : Type 0} where
  pub shows : (q : Place) (w w' : Worker) (s s' : Shared B) (d : Driving Reply Reply) → Serves q w w' s s' → driver_of w' ≡ d → w'.home.timers ≡ w.home.timers → Shows w w' d
  shows = grind arith

  -- what stands beside the machine, where the worker's wake poll shows the same
  pub things_kept : (vs : Views) (i : ℕ) (v v' : Visible) (s s' : Shared B) → slice_get vs.workers i ≡ Some v → v'.wakes ≡ v.wakes → OthersKept s s' → SparesRecords i s s' → things_with (with_view vs i v') s' ≡ things_with vs s
  things_kept = grind (arith, was_sent, nap_sent, polls_alike, gates_seen_same, passing_same)

module _ {B L : Type 0} (left : B → L) (spot : L → Option Said → Spot) where
  -- what a step of a service is to the machine
  pub record Sees (q : Place) (w w' : Worker) (s s' : Shared B) (e : Event) (p : Plan) (vs : Views) : Type 0 where
    pub moves : move_at p.config w.index (own_of w) (common_of left spot p vs s) (desk_of w) (things_with vs s) q ≡ makes e (desk_of w') (things_with (with_view vs w.index (visible w')) s')
    pub may : AllTrue (allowed p.config (own_of w) (common_of left spot p vs s) w.index e Plain)
    pub own : own_of w' ≡ own_after p.config (own_of w) (common_of left spot p vs s) w.index e Plain
    pub common : common_of left spot p (with_view vs w.index (visible w')) s' ≡ common_after p.config (own_of w) (common_of left spot p vs s) w.index e Plain

  sees_there : (q : Place) (w w' : Worker) (s s' : Shared B) (e : Event) → w.place ≡ q → (p : Plan) (vs : Views) → Sees q w w' s s' e p vs → Works left spot p vs w s e w' s'
  sees_there = grind arith

  -- From a place that is known: what is seen by that place, and what holds again. Who stands at gates may change.
  pub served_by : (q : Place) (w w' : Worker) (s s' : Shared B) (e : Event) → SoundAt q w s → Serves q w w' s s' → Keeps w' s' → SparesGates w.index s s' → Balances w w' s s'
      → ((p : Plan) (vs : Views) → Suits p vs w s → Sees q (record w { place = q }) w' s s' e p vs) → Steps left spot w s e w' s'
  served_by q w w' s s' e sound serves keeps spares balances sees =
      let here : record w { place = q } ≡ w = ap (λ y. record w { place = y }) (sym sound.here) in (
        (λ p vs suits. sees_there q w w' s s' e sound.here p vs (subst (λ v. Sees q v w' s s' e p vs) here (sees p vs suits))),
        sound_again_by q w w' s s' sound serves spares keeps,
        unheard (ap (λ v. v.root) serves.worker) (ap (λ (x : Shared B). x.config) serves.shared) (ap (λ (x : Shared B). x.tasks.items) serves.shared),
        beside_service_by q w w' s s' sound.here serves spares balances keeps.carried.room,
      )

  pub served : (q : Place) (w w' : Worker) (s s' : Shared B) (e : Event) → SoundAt q w s → Serves q w w' s s' → Keeps w' s' → SparesRecords w.index s s' → Balances w w' s s'
      → ((p : Plan) (vs : Views) → Suits p vs w s → Sees q (record w { place = q }) w' s s' e p vs) → Steps left spot w s e w' s'
  served q w w' s s' e sound serves keeps spares = served_by q w w' s s' e sound serves keeps (spares_gates w.index s s' spares)

  -- WHAT ALL SEE

  -- nothing else changed, and of its seat it shows the same
  pub common_same : (p : Plan) (vs : Views) (w w' : Worker) (s : Shared B) → Suits p vs w s → ((c : Chair) → seat_seen (visible w') c ≡ seat_seen (visible w) c) → common_of left spot p (with_view vs w.index (visible w')) s ≡ common_of left spot p vs s
  common_same p vs w w' s suits same =
      ap (λ xs. record (common_of left spot p vs s) { seats = xs }) (views_kept vs.workers s.seats.items w.index (visible w) (visible w') suits.seen same)

  -- one record changed, and is named as before
  pub common_changed : (p : Plan) (vs : Views) (s s' : Shared B) (k : ℕ) (r : Record) (f : Record → Record) → s' ≡ record s { requests = s'.requests } → s'.requests.items ≡ changed_at s.requests.items k f
      → slice_get s.requests.items k ≡ Some r → name_in (f r) ≡ name_in r
      → common_of left spot p vs s' ≡ record (common_of left spot p vs s) { requests = slice_set (map (λ x. x.shown) s.requests.items) k (f r).shown }
  common_changed = grind (arith, same_opens, names_changed, shown_changed)
