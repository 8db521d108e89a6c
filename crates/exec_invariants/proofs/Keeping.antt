-- Where of a worker only its ring changes, in a service or a wait on it.
use Rattle.exec_invariants.{proofs.{Names.{◌≡◌, ℕ, ◌+◌, ◌<◌, ◌≤◌, false, List, [], ◌∷◌, ◌++◌, length, refl, sym, ap, subst, ◌∙◌, arith, Submission, index_in, Driving, Place, Reply, Shared, PutOff, Worker, AreTagged, cancels_in, driver_of}, Conveying.carried_ring, Flown.landed_as, ServingPlaces.calm, Serving.kept, ServingHolds.{Follows, KeepsBy}}, specs.{Carried.those_of, Due.{IsWheelAt, may_be_due}, Flown.{IsPolled, is_poll, operations, polls_in}, Places.one_if, Sound.{SoundAt, served_in}, Names.IsSubmitted}}

-- an entry that is no wake poll
pub polls_same : (es : List Submission) (e : Submission) → is_poll e.window.kind ≡ false → polls_in (es ++ e ∷ []) ≡ polls_in es
polls_same [] e none = ap (λ b. one_if b + 0) none
polls_same (x ∷ es) e none = ap (λ n. one_if (is_poll x.window.kind) + n) (polls_same es e none)

-- a driver with another ring, in which the same has landed
pub record SameButRing (d d' : Driving Reply Reply) : Type 0 where
  pub requests : d'.requests ≡ d.requests
  pub lists : d'.lists ≡ d.lists
  pub wheel : d'.wheel ≡ d.wheel
  pub size : d'.ring.size ≡ d.ring.size
  pub landed : operations d'.ring ≡ operations d.ring
  pub polled : IsPolled d.ring d.armed → IsPolled d'.ring d'.armed
  pub cancels : cancels_in d'.ring.staged ≡ cancels_in d.ring.staged
  pub tagged : AreTagged d.ring.staged → AreTagged d'.ring.staged
  pub entries : length d.ring.staged ≤ length d'.ring.staged
  pub flies : d'.ring.flying ≡ d.ring.flying
  pub stages : (v : ℕ) → index_in v < 4294967295 → those_of v d'.ring.staged ≡ those_of v d.ring.staged

module _ {B : Type 0} where
  pub keeps_ring : (q q' : Place) (o : PutOff) (w : Worker) (s : Shared B) (d' : Driving Reply Reply) → SoundAt q w s → Follows q q' → SameButRing (driver_of w) d'
      → (may_be_due (served_in q') ≡ false → (driver_of w).lists.due ≡ []) → KeepsBy (record w { place = q'; put_off = o }) d' w.home.timers s.requests.items s.sleepers.items s
  keeps_ring q q' o w s d' sound to like told =
      let d = driver_of w in
      let rs = s.requests.items in
      let due = sound.due in
      let flown = sound.flown in
      let named = sound.named in
      let sub = named.submitted in
      let submitted : IsSubmitted w.index w.names.staged.items w.names.untold.items d'.ring rs =
      record { tagged = like.tagged sub.tagged; cancels = like.cancels ∙ sub.cancels; known = sub.known; own = sub.own; all = sub.all } in
      let d1 : Driving Reply Reply = record d' { requests = d.requests; lists = d.lists; wheel = d.wheel } in
      let shape : d1 ≡ d' = rw (← like.requests, ← like.lists, ← like.wheel) refl in
      subst (λ x. KeepsBy (record w { place = q'; put_off = o }) x w.home.timers rs s.sleepers.items s) shape (record {
        told = (kept q w s sound (calm q to.from)).told;
        wide = sound.wide;
        named = record { requests = named.requests; timers = named.timers; alike = named.alike; over = named.over; submitted = submitted; slots = named.slots; beds = named.beds };
        sized = like.size ∙ sound.sized;
        over = sound.over;
        quiet = λ h. sound.quiet (sym to.wakes ∙ h);
        due = record { punctual = record { ahead = due.punctual.ahead }; told = told; wheel = subst (λ m. IsWheelAt s.config w.moments.start m d.wheel) (sym (to.moment w.moments)) due.wheel; timed = due.timed; asleep = due.asleep; order = due.order };
        flown = record {
          ending = flown.ending;
          staging = rw like.size flown.staging;
          telling = rw like.size flown.telling;
          entries = omega (arith, flown.entries, like.entries);
          gated = λ id it live needs. flown.gated id it live needs;
          enrolling = flown.enrolling;
          polled = like.polled flown.polled;
          owning = flown.owning;
          plain = flown.plain;
          landed = rw like.landed (landed_as w.names d d1 rs (operations d.ring) refl flown.landed);
          uncancelled = flown.uncancelled;
        };
        carried = carried_ring w.names.requests.items d.requests d.ring rs s.store sound.carried d1.ring (λ v small. ap (those_of v) like.flies) like.stages;
        known = sound.known;
        rooted = record { kept = sound.rooted.kept; ready = λ k x there mine over seen unapplied. let it = sound.rooted.ready k x there mine over seen unapplied in record { named = it.named; live = it.live }; replies = sound.rooted.replies; watches = sound.rooted.watches; pays = sound.rooted.pays; sleeper_pays = sound.rooted.sleeper_pays; results = sound.rooted.results; completions = sound.rooted.completions; sent = sound.rooted.sent; sleeper_sent = sound.rooted.sleeper_sent };
        bare = λ h. (calm q to.from).lets_in (driver_of w).requests w.home.timers sound.lets_go (sym to.bare ∙ h);
      })

pub same_ring : (d : Driving Reply Reply) → SameButRing d d
same_ring d = record { requests = refl; lists = refl; wheel = refl; size = refl; landed = refl; polled = λ a. a; cancels = refl; tagged = λ t. t; entries = omega arith; flies = refl; stages = λ v small. refl }
