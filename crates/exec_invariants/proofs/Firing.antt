-- The end of a service: a sleeper is told, or the service leads on.
use Rattle.exec_invariants.{proofs.{Names.{option_map, ◌≡◌, ℕ, zero, suc, ◌≤◌, ◌==◌, slice_index_or, ◌&&◌, Bool, true, false, not, List, [], ◌∷◌, map, Option, Some, None, IsSome, refl, sym, ap, subst, ◌∙◌, arith, slice_get, nat_le, if◌then◌else◌, false≢true, slice_get-map, Slab, value_at, Id, IsSleepDue, Notes, Sleeping, Said, Event, Serve, Sleeper, Next, is_none_earlier, is_asleep, is_empty, is_open, Own, Common, no_sleeper, seat_of, polls_at, next_at, serves_at, Desk, after_service, first_to_fire, is_to_fire, first_in, AfterCallbacks, AfterService, Service, Place, InCallbacks, InMail, InService, Reply, Names, Shared, SleeperRecord, Moments, Worker, closes_at, Spot, visible, own_of, owed_at, desk_of, driver_of, common_of, seat_seen, things_with, message_of, and_right, not-true}, Unclosed.unclosed, Seats.own_seat, Seen.sleeper_at, ServingHolds.{Serves, Keeps, KeepsBy}, Serving.{SparesRecords, at_large, balances_still, spares_same}, ServingPlaces.is_calm, Seeing.{makes, served, common_same, things_kept}}, specs.{Due.{AreAsleep, wheel_moment}, Holding.Mail, HoldPlaces.{has_wakes_at, is_bare_at}, Places.{is_armed_at, is_published_at, passes_at, searches_at}, Sound.{HasBatch, SoundAt, served_in}, Works.Steps}}

-- WHO IS NEXT

pub slept_there : (ss : List SleeperRecord) (k : ℕ) (x : Sleeper) → slice_get (map (λ z. z.shown) ss) k ≡ Some x → (z : SleeperRecord) × (slice_get ss k ≡ Some z) × (x ≡ z.shown)
slept_there [] k x there = absurd (cc)
slept_there (z ∷ ss) zero x there = (z, refl, cc)
slept_there (z ∷ ss) (suc k) x there = slept_there ss k x there

not_yet : (m t : ℕ) → (t ≤ m → ⊥) → nat_le t m ≡ false
not_yet = grind arith

-- one that sleeps isn't due, where none of those that are there is
undue_sleeper : {closing : Bool} (i now : ℕ) (n : Names) (zs : Slab (Sleeping Reply)) (ss : List SleeperRecord) → AreAsleep closing i n zs ss → closing ≡ false → ((id : Id) → IsSleepDue zs now id → ⊥)
    → (k : ℕ) (z : SleeperRecord) → slice_get ss k ≡ Some z → (b : Bool) → is_asleep i z.shown ≡ b → (b && nat_le z.shown.until now && is_none_earlier i z.shown.until (map (λ y. y.shown) ss)) ≡ false
undue_sleeper i now n zs ss asleep opens none k z there false is = refl
undue_sleeper i now n zs ss asleep opens none k z there true is =
    let kept = unclosed i n zs ss asleep opens k z there is in
    let it = some_value (value_at zs z.id.0) (asleep.there k z there is kept) in
    let alike = asleep.alike z.id.0 it.0 z it.1 (ap (slice_get ss) (asleep.named k z there is kept) ∙ there) in
    let late : z.shown.until ≤ now → ⊥ = λ due. none z.id.0 (record { sleeper = it.0; there = it.1; due = subst (λ t. t ≤ now) alike.until due }) in
    rw (not_yet now z.shown.until late) refl
  where
    some_value : {A : Type 0} (o : Option A) → IsSome o → (x : A) × (o ≡ Some x)
    some_value None h = absurd (false≢true h)
    some_value (Some x) h = (x, refl)

index_none : (xs : List Sleeper) (k : ℕ) → slice_get xs k ≡ None → slice_index_or xs k no_sleeper ≡ no_sleeper
index_none [] k none = refl
index_none (x ∷ xs) zero none = absurd (let no : Some x ≡ None = none in cc)
index_none (x ∷ xs) (suc k) none = index_none xs k none

-- so is any number
undue_number : {closing : Bool} (i : ℕ) (me : Own) (s : Common) (n : Names) (zs : Slab (Sleeping Reply)) (ss : List SleeperRecord) → s.sleepers ≡ map (λ z. z.shown) ss → AreAsleep closing i n zs ss → closing ≡ false → ((id : Id) → IsSleepDue zs me.sampled id → ⊥) → (k : ℕ) → is_to_fire i me s k ≡ false
undue_number i me s n zs ss shown asleep opens none k = by (slice_get ss k) refl
  where
    tested : Sleeper → Bool
    tested it = is_asleep i it && nat_le it.until me.sampled && is_none_earlier i it.until s.sleepers

    by : (o : Option SleeperRecord) → slice_get ss k ≡ o → is_to_fire i me s k ≡ false
    by (Some z) there = grind (arith, shown, sleeper_at ss k z there, undue_sleeper i me.sampled n zs ss asleep opens none k z there (is_asleep i z.shown) refl)
    by None gone =
        let nobody : slice_index_or (map (λ z. z.shown) ss) k no_sleeper ≡ no_sleeper = index_none (map (λ z. z.shown) ss) k (slice_get-map (λ z. z.shown) ss k ∙ ap (option_map (λ z. z.shown)) gone) in
        let over : is_asleep i no_sleeper ≡ false = ap (λ b. b && false) (and_right (0 == i) false refl) in
        ap tested (ap (λ xs. slice_index_or xs k no_sleeper) shown ∙ nobody) ∙ ap (λ b. b && nat_le no_sleeper.until me.sampled && is_none_earlier i no_sleeper.until s.sleepers) over

none_first : (test : ℕ → Bool) → ((k : ℕ) → test k ≡ false) → (xs : List (Option ℕ)) → first_in test xs ≡ None
none_first test none [] = refl
none_first test none (None ∷ xs) = none_first test none xs
none_first test none (Some k ∷ xs) = ap (λ b. if b then Some k else first_in test xs) (none k) ∙ none_first test none xs

pub none_fires : {closing : Bool} (i : ℕ) (me : Own) (s : Common) (d : Desk) (n : Names) (zs : Slab (Sleeping Reply)) (ss : List SleeperRecord) → s.sleepers ≡ map (λ z. z.shown) ss → AreAsleep closing i n zs ss → is_open (seat_of s i).phase ≡ not closing → ((id : Id) → IsSleepDue zs me.sampled id → ⊥) → first_to_fire i me s d ≡ None
none_fires {closing} i me s d n zs ss shown asleep phase none = none_by (is_open (seat_of s i).phase) refl
  where
    none_by : (b : Bool) → is_open (seat_of s i).phase ≡ b → (if b then first_in (is_to_fire i me s) d.timers.held else None) ≡ None
    none_by true is = none_first (is_to_fire i me s) (undue_number i me s n zs ss shown asleep (not-true closing (sym phase ∙ is)) none) d.timers.held
    none_by false is = refl

-- WHERE THE SERVICE LEADS

abbrev pub place_after : AfterService → Bool → Place
place_after AfterService.Mail none = if none then Place.Mail InMail.LoadMailWord else Place.Mail (InMail.Apply 0 false)
place_after AfterService.Begin none = Place.Callbacks InCallbacks.TakeBatch AfterCallbacks.Begin
place_after AfterService.Finish none = Place.Callbacks InCallbacks.TakeBatch AfterCallbacks.Finish

-- what is so of where it leads
pub record Leads (q q' : Place) (ms : List Mail) : Type 0 where
  pub to : is_calm q' ≡ true
  pub serves : serves_at q' ≡ true
  pub armed : is_armed_at q' ≡ is_armed_at q
  pub closes : closes_at q' ≡ closes_at q
  pub wakes : has_wakes_at q' ≡ true
  pub moment : (m : Moments) → wheel_moment (served_in q') m ≡ wheel_moment (served_in q) m
  pub searches : searches_at q' ≡ searches_at q
  pub published : is_published_at q' ≡ is_published_at q
  pub bare : is_bare_at q' ≡ is_bare_at q
  pub batch : HasBatch q ms → HasBatch q' ms
  pub owes : (n : ℕ) → owed_at n q' ≡ []
  pub polls : polls_at q' ≡ None
  pub next : next_at q' ≡ Next.Free
  pub passes : passes_at q' ≡ None

leads_to : (d : Bool) (x : AfterService) (ms : List Mail) → Leads (Place.Service InService.EndService (record { defer = d; back = x })) (place_after x (is_empty ms)) ms
leads_to = grind arith

leads_on : (x : AfterService) (d : Desk) (ms : List Mail) → d.batch ≡ map message_of ms → after_service x d ≡ place_after x (is_empty ms)
leads_on = grind arith

-- the worker where the service leads, with these sleepers and notes
abbrev pub gone_on : AfterService → Worker → Slab (Sleeping Reply) → Notes Reply → Worker
gone_on x w zs notes =
    let w1 : Worker = record w { home = record w.home { timers = zs; deferred = record w.home.deferred { notes = notes } } } in
    record w1 { place = after_service x (desk_of w1) }

pub gone_same : (x : AfterService) (w w' : Worker) (zs : Slab (Sleeping Reply)) (notes : Notes Reply) → w' ≡ gone_on x w zs notes → zs ≡ w.home.timers → notes ≡ w.home.deferred.notes → w' ≡ record w { place = after_service x (desk_of w) }
gone_same x w w' zs notes is timers told = is ∙ ap (λ t. gone_on x w t notes) timers ∙ ap (gone_on x w w.home.timers) told

module _ {B L : Type 0} (left : B → L) (spot : L → Option Said → Spot) where
  pub service_over : (v : Service) (w w' : Worker) (s : Shared B) (e : Event) → SoundAt (Place.Service InService.EndService v) w s → e ≡ Serve → ((id : Id) → IsSleepDue w.home.timers w.moments.sampled id → ⊥)
      → w' ≡ record w { place = after_service v.back (desk_of w) } → Steps left spot w s e w' s
  service_over v w w' s e sound event none is =
      let q : Place = Place.Service InService.EndService v in
      let p : Place = place_after v.back (is_empty w.batch.values) in
      let same : w' ≡ record w { place = p } = is ∙ ap (λ x. record w { place = x }) (leads_on v.back (desk_of w) w.batch.values refl) in
      let there : w'.place ≡ p = ap (λ x. x.place) same in
      let to = leads_to v.defer v.back w.batch.values in
      let serves : Serves q w w' s s = grind arith in
      let by : KeepsBy (record w { place = p }) (driver_of w) w.home.timers s.requests.items s.sleepers.items s = grind arith in
      let keeps : Keeps w' s = subst (λ x. Keeps x s) (sym same) by in
      let spares : SparesRecords w.index s s = spares_same w.index s s sound.gates refl refl refl in
      subst (λ x. Steps left spot w s x w' s) (sym event)
      (served left spot q w w' s s Serve sound serves keeps spares (balances_still q w w' s s sound.here serves spares (ap passes_at there ∙ to.passes) (ap (λ (x : Worker). x.home.deferred.notes.wakes.items) same) refl refl)
      (λ pl vs suits.
      let w0 : Worker = record w { place = q } in
      let all = common_of left spot pl vs s in
      let phased = sound.phased sound.seated.seat sound.seated.there in
      let phase : is_open (seat_of all w.index).phase ≡ not w.home.closing = ap (λ x. is_open x.phase) (own_seat left spot pl vs w s sound.seated.seat suits sound.seated.there) ∙ phased.opened ∙ ap not (sym phased.told) in
      let fires = none_fires w.index (own_of w0) all (desk_of w0) w.names w.home.timers s.sleepers.items refl sound.due.asleep phase none in
      record {
        moves = rw fires (ap (λ x. makes Serve (record (desk_of w0) { place = x }) (things_with vs s)) (leads_on v.back (desk_of w0) w.batch.values refl) ∙ ap (λ x. makes Serve x (things_with vs s)) (sym (ap desk_of same))
            ∙ ap (makes Serve (desk_of w')) (sym (things_kept vs w.index (visible w) (visible w') s s suits.seen (ap (λ v. v.wakes) (ap visible same)) refl spares)));
        may = (at_large q w s sound refl, tt);
        own = ap own_of same ∙ rw (to.serves, to.polls, to.next, to.owes w.workers) refl;
        common = common_same left spot pl vs w w' s suits (λ c. ap (λ x. seat_seen x c) (ap visible same));
      }))
