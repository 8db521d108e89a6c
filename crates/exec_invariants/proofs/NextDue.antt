-- What is due next of a worker is what the machine says: the earliest of its requests' deadlines and of its sleepers.
use Rattle.exec_invariants.{specs.{Due.{AreAsleep, AreTimed, may_be_due}, Names.IsNamed, Sound.{SoundAt, served_in}, Works.Suits}, proofs.{Words.{◌≡◌, ℕ, ◌+◌, ◌*◌, ◌≤◌, ◌==◌, Bool, true, false, not, List, [], ◌∷◌, map, Option, Some, None, IsSome, refl, sym, ap, subst, ◌∙◌, arith, slice_get, if◌then◌else◌, false≢true, eq-eqb, nat_tests, option_map, Slab, value_at, Id, Wheel, moment_of, next_moment, least_active, Sleeping, waiter_at, tick_in, tick_of, Waiter, Driving, IsFirstTick, has_first, Said, first_timer, first_until, next_due, Plan, is_asleep, is_open, is_resolved, Place, Reply, Names, Record, Shared, SleeperRecord, Worker, number_in, Spot, HasToldDue, IsFirstSleep, IsNextIn, IsNextMoment, Views, driver_of, common_of}, Unclosed.unclosed, Leasts.{HasAt, IsLeast, least_in, least_there, least_once}, Seats.own_seat, SparedRecord.live_of}}

-- THE MACHINE'S MOMENTS

abbrev deadline_of : ℕ → Record → Option ℕ
deadline_of i r = if r.shown.worker == i then r.shown.timer else None

abbrev sleeps_until : ℕ → SleeperRecord → Option ℕ
sleeps_until i z = if is_asleep i z.shown then Some z.shown.until else None

timers_seen : (i : ℕ) (rs : List Record) → first_timer i (map (λ r. r.shown) rs) ≡ least_in (deadline_of i) rs
timers_seen i [] = refl
timers_seen i (r ∷ rs) = grind (arith, least_in, timers_seen i rs)

sleeps_seen : (i : ℕ) (zs : List SleeperRecord) → first_until i (map (λ z. z.shown) zs) ≡ least_in (sleeps_until i) zs
sleeps_seen i [] = refl
sleeps_seen i (z ∷ zs) = grind (arith, least_in, sleeps_seen i zs)

-- who has a moment by a test has passed the test
tested : (b : Bool) (o : Option ℕ) (m : ℕ) → (if b then o else None) ≡ Some m → (b ≡ true) × (o ≡ Some m)
tested true o m is = (refl, is)
tested false o m is = absurd (cc)

no_later : (w : Wheel) (t u : ℕ) → t ≤ u → moment_of w t ≤ moment_of w u
no_later w t u h = grind (arith, h)

-- REQUESTS

module _ (i : ℕ) (n : Names) (d : Driving Reply Reply) (zs : Slab (Sleeping Reply)) (records : List Record) (sleepers : List SleeperRecord) (named : IsNamed i n d zs records sleepers) where
  module _ (timed : AreTimed i n records) where
    -- the tick of a record that has a deadline
    tick_found : (m : ℕ) → HasAt (deadline_of i) records m → (id : Id) × (t : ℕ) × (tick_of (waiter_at d.requests id) ≡ Some t) × (m ≡ moment_of d.wheel t)
    tick_found m has = open_by (is_resolved r.shown.phase) refl
      where
        r : Record
        r = has.x

        two : ((r.shown.worker == i) ≡ true) × (r.shown.timer ≡ Some m)
        two = tested (r.shown.worker == i) r.shown.timer m has.moment

        mine : r.shown.worker ≡ i
        mine = grind (arith, nat_tests, two.0)

        known : (number_in n.requests.items r.id.0 ≡ has.k → (it : Waiter Reply Reply) → waiter_at d.requests r.id.0 ≡ Some it → (t : ℕ) × (tick_in it.state ≡ Some t) × (m ≡ moment_of d.wheel t))
        known number it at =
            by (tick_in it.state) refl (named.alike r.id.0 it r at (subst (λ k. slice_get records k ≡ Some r) (sym number) has.there)).timer
          where
            by : (o : Option ℕ) → tick_in it.state ≡ o → r.shown.timer ≡ option_map (λ t. d.wheel.start + t * d.wheel.tick) (tick_in it.state) → (t : ℕ) × (tick_in it.state ≡ Some t) × (m ≡ moment_of d.wheel t)
            by None none is = let no : Some m ≡ None = sym two.1 ∙ is ∙ ap (option_map (λ t. d.wheel.start + t * d.wheel.tick)) none in absurd (cc)
            by (Some t) some is = let it : Some m ≡ Some (moment_of d.wheel t) = sym two.1 ∙ is ∙ ap (option_map (λ t. d.wheel.start + t * d.wheel.tick)) some in (t, some, cc)

        open_by : (b : Bool) → is_resolved r.shown.phase ≡ b → (id : Id) × (t : ℕ) × (tick_of (waiter_at d.requests id) ≡ Some t) × (m ≡ moment_of d.wheel t)
        open_by true over = let no : None ≡ Some m = sym ((timed has.k r has.there mine).over over) ∙ two.1 in absurd (cc)
        open_by false still = at_driver (waiter_at d.requests r.id.0) refl
          where
            at_driver : (o : Option (Waiter Reply Reply)) → waiter_at d.requests r.id.0 ≡ o → (id : Id) × (t : ℕ) × (tick_of (waiter_at d.requests id) ≡ Some t) × (m ≡ moment_of d.wheel t)
            at_driver None none = absurd (false≢true (sym still ∙ named.over has.k r has.there mine none))
            at_driver (Some it) some = let found = known ((timed has.k r has.there mine).named still) it some in (r.id.0, found.0, ap tick_of some ∙ found.1, found.2)

  -- the record of a request whose deadline stands in the wheel
  deadline_found : (id : Id) (t : ℕ) → tick_of (waiter_at d.requests id) ≡ Some t → HasAt (deadline_of i) records (moment_of d.wheel t)
  deadline_found id t at = by (waiter_at d.requests id) refl at
    where
      by : (o : Option (Waiter Reply Reply)) → waiter_at d.requests id ≡ o → tick_of o ≡ Some t → HasAt (deadline_of i) records (moment_of d.wheel t)
      by None none is = absurd (cc)
      by (Some it) some is =
          let r = named.requests id (live_of d.requests id it some) in
          record {
            k = number_in n.requests.items id;
            x = r.0;
            there = r.1;
            moment = rw (r.3, eq-eqb i i refl) ((named.alike id it r.0 some r.1).timer ∙ ap (option_map (λ t. d.wheel.start + t * d.wheel.tick)) is);
          }

  -- the first tick of the wheel is the first deadline of the records
  first_deadline : AreTimed i n records → (o : Option ℕ) → IsFirstTick d o → option_map (moment_of d.wheel) o ≡ first_timer i (map (λ r. r.shown) records)
  first_deadline timed o first = least_once (deadline_of i) records (option_map (moment_of d.wheel) o) (least_in (deadline_of i) records) (is_least o first) (least_there (deadline_of i) records) ∙ sym (timers_seen i records)
    where
      is_least : (x : Option ℕ) → IsFirstTick d x → IsLeast (deadline_of i) records (option_map (moment_of d.wheel) x)
      is_least None none = λ m has. let found = tick_found timed m has in none (record { 0 = found.0 }) found.1 found.2
      is_least (Some t) some =
          (deadline_found some.0.0.0 t some.0.1, λ m has. let found = tick_found timed m has in rw found.3 (no_later d.wheel t found.1 (some.1 (record { 0 = found.0 }) found.1 found.2)))

  -- SLEEPERS

  module _ {closing : Bool} (asleep : AreAsleep closing i n zs sleepers) (opens : closing ≡ false) where
    sleeper_found : (m : ℕ) → HasAt (sleeps_until i) sleepers m → (id : Id) × (z : Sleeping Reply) × (value_at zs id ≡ Some z) × (m ≡ z.deadline)
    sleeper_found m has = by (value_at zs r.id.0) refl
      where
        r : SleeperRecord
        r = has.x

        two : (is_asleep i r.shown ≡ true) × (Some r.shown.until ≡ Some m)
        two = tested (is_asleep i r.shown) (Some r.shown.until) m has.moment

        kept : r.closed ≡ false
        kept = unclosed i n zs sleepers asleep opens has.k r has.there two.0

        by : (o : Option (Sleeping Reply)) → value_at zs r.id.0 ≡ o → (id : Id) × (z : Sleeping Reply) × (value_at zs id ≡ Some z) × (m ≡ z.deadline)
        by None none = absurd (false≢true (subst IsSome none (asleep.there has.k r has.there two.0 kept)))
        by (Some z) some =
            let there : slice_get sleepers (number_in n.timers.items r.id.0) ≡ Some r = subst (λ k. slice_get sleepers k ≡ Some r) (sym (asleep.named has.k r has.there two.0 kept)) has.there in
            let same : r.shown.until ≡ m = let it = two.1 in cc in
            (r.id.0, z, some, sym same ∙ (asleep.alike r.id.0 z r some there).until)

    until_found : (id : Id) (z : Sleeping Reply) → value_at zs id ≡ Some z → HasAt (sleeps_until i) sleepers z.deadline
    until_found id z some =
        let r = named.timers id (rw some refl) in
        let alike = asleep.alike id z r.0 some r.1 in
        record { k = number_in n.timers.items id; x = r.0; there = r.1; moment = rw alike.asleep (ap (λ m. Some m) alike.until) }

    first_sleep : (o : Option ℕ) → IsFirstSleep zs o → o ≡ first_until i (map (λ z. z.shown) sleepers)
    first_sleep o first = least_once (sleeps_until i) sleepers o (least_in (sleeps_until i) sleepers) (is_least o first) (least_there (sleeps_until i) sleepers) ∙ sym (sleeps_seen i sleepers)
      where
        is_least : (x : Option ℕ) → IsFirstSleep zs x → IsLeast (sleeps_until i) sleepers x
        is_least None none = λ m has. let found = sleeper_found m has in let no : None ≡ Some found.1 = sym (none found.0) ∙ found.2 in absurd (cc)
        is_least (Some m) some = by (value_at zs some.0) refl
          where
            by : (v : Option (Sleeping Reply)) → value_at zs some.0 ≡ v → IsLeast (sleeps_until i) sleepers (Some m)
            by None none = let no : None ≡ Some m = sym (ap (option_map (λ z. z.deadline)) none) ∙ some.1.at in absurd (cc)
            by (Some z) is =
                let same : z.deadline ≡ m = cc in
                (subst (HasAt (sleeps_until i) sleepers) same (until_found some.0 z is), λ u has. let found = sleeper_found u has in rw found.3 (some.1.least found.0 found.1 found.2))

-- outside the submissions nothing is due that wasn't told
pub told_due : {B : Type 0} (q : Place) (w : Worker) (s : Shared B) → SoundAt q w s → may_be_due (served_in q) ≡ false → HasToldDue w
told_due q w s sound none = (sound.due.punctual, ap has_first (sound.due.told none))

-- What a worker finds next is what the machine has.
pub moment_seen : {B L : Type 0} (left : B → L) (spot : L → Option Said → Spot) (p : Plan) (vs : Views) (q : Place) (w : Worker) (s : Shared B) (moment : Option ℕ) → Suits p vs w s → SoundAt q w s → IsNextMoment w moment
    → moment ≡ next_due (common_of left spot p vs s) w.index
moment_seen left spot p vs q w s moment suits sound next = by w.home.closing refl next.1
  where
    i : ℕ
    i = w.index

    d : Driving Reply Reply
    d = driver_of w

    timer : next_moment d.wheel ≡ first_timer i (map (λ r. r.shown) s.requests.items)
    timer = first_deadline i w.names d w.home.timers s.requests.items s.sleepers.items sound.named sound.due.timed (least_active d.wheel) next.0

    opened : is_open sound.seated.seat.phase ≡ not w.home.closing
    opened = let phased = sound.phased sound.seated.seat sound.seated.there in phased.opened ∙ ap not (sym phased.told)

    by : (closing : Bool) → w.home.closing ≡ closing → IsNextIn closing w moment → moment ≡ next_due (common_of left spot p vs s) i
    by true closes is = rw (own_seat left spot p vs w s sound.seated.seat suits sound.seated.there, opened, closes) (is ∙ timer)
    by false opens is =
        let sleep = first_sleep i w.names d w.home.timers s.requests.items s.sleepers.items sound.named sound.due.asleep opens is.0 is.1 in
        rw (own_seat left spot p vs w s sound.seated.seat suits sound.seated.there, opened, opens, ← timer, ← sleep) is.2
