-- What holds again of a worker after a step of its service.
use Rattle.exec_invariants.{specs.{Sound.{AreOver, HasBatch, served_in}, Names.{HasWidth, IsNamed, tellers}, Carried.IsCarried, Due.{IsDue, wheel_moment}, Flown.HasFlown, Gates.IsKnown, Holding.Mail, HoldPlaces.{has_wakes_at, is_bare_at}, Places.{is_armed_at, is_published_at, searches_at}, Rooted.IsRooted}, proofs.{Words.{◌≡◌, ℕ, ◌+◌, Bool, true, false, List, [], arith, Slab, live_count, Sleeping, pending_count, Driving, ring_size, Place, serves_at, IsTold, Reply, Record, SleeperRecord, Shared, Worker, Moments, closes_at, driver_of}, ServingPlaces.is_calm}}

-- WHAT HOLDS AGAIN

-- what of a worker a service changes
abbrev pub IsServed : Worker → Worker → Type 0
IsServed w v =
    v ≡ record w { place = v.place; home = record w.home { driver = v.home.driver; timers = v.home.timers; deferred = v.home.deferred }; names = record w.names { ended = v.names.ended; staged = v.names.staged; untold = v.names.untold }; put_off = v.put_off }

-- and what of that which is shared
abbrev pub OthersKept : {B : Type 0} → Shared B → Shared B → Type 0
OthersKept s t = t ≡ record s { requests = t.requests; sleepers = t.sleepers; opens = t.opens }

-- what a step leads to where nothing is polled, and neither the closing nor a wait on a word begins or ends
pub record Follows (q q' : Place) : Type 0 where
  pub from : is_calm q ≡ true
  pub to : is_calm q' ≡ true
  pub serves : serves_at q' ≡ serves_at q
  pub armed : is_armed_at q' ≡ is_armed_at q
  pub closes : closes_at q' ≡ closes_at q
  pub wakes : has_wakes_at q' ≡ has_wakes_at q
  pub moment : (m : Moments) → wheel_moment (served_in q') m ≡ wheel_moment (served_in q) m
  pub searches : searches_at q' ≡ searches_at q
  pub published : is_published_at q' ≡ is_published_at q
  pub bare : is_bare_at q' ≡ is_bare_at q
  pub batch : (ms : List Mail) → HasBatch q ms → HasBatch q' ms

-- A step of a service leads from a calm place to one. Of the worker its driver, its sleepers, what is left to be told, its
-- numbers and what it put off may change, and of what is shared its own records, and what is kept of opens.
pub record Serves {B : Type 0} (q : Place) (w w' : Worker) (s s' : Shared B) : Type 0 where
  pub worker : IsServed w w'
  pub shared : OthersKept s s'
  pub from : is_calm q ≡ true
  pub to : is_calm w'.place ≡ true
  pub armed : is_armed_at w'.place ≡ is_armed_at q
  pub closes : closes_at w'.place ≡ closes_at q
  pub searches : searches_at w'.place ≡ searches_at q
  pub published : is_published_at w'.place ≡ is_published_at q
  pub batch : HasBatch q w.batch.values → HasBatch w'.place w.batch.values

-- by where the worker is then
pub serves_to : {B : Type 0} (q q' : Place) (w w' : Worker) (s s' : Shared B) → IsServed w w' → OthersKept s s' → w'.place ≡ q' → Follows q q' → Serves q w w' s s'
serves_to = grind arith

-- What must hold again then, of a worker with this driver and these sleepers, and of the records.
pub record KeepsWith {B : Type 0} (spare : ℕ) (w : Worker) (d : Driving Reply Reply) (zs : Slab (Sleeping Reply)) (rs : List Record) (ss : List SleeperRecord) (s : Shared B) : Type 0 where
  pub told : IsTold w.names.ended.items w.home.deferred (tellers d.requests zs + spare)
  pub wide : HasWidth w.home.deferred (tellers d.requests zs + 64)
  pub named : IsNamed w.index w.names d zs rs ss
  pub sized : d.ring.size ≡ ring_size s.config
  pub over : AreOver w.index w.names.ended.items w.names.unreleased (pending_count d.requests) rs
  pub quiet : has_wakes_at w.place ≡ false → w.home.deferred.notes.wakes.items ≡ []
  pub due : IsDue (served_in w.place) w.home.closing w.index w.moments s.config w.names d zs rs ss
  pub flown : HasFlown (served_in w.place) w.index w.names d rs
  pub carried : IsCarried w.names.requests.items d.requests d.ring rs s.store
  pub known : IsKnown w.index w.names.requests.items d.requests s.opens rs
  pub rooted : IsRooted w.index w.names d zs w.home.deferred rs ss
  pub bare : is_bare_at w.place ≡ true → live_count zs ≡ 0

-- with the room of a turn's messages, as at calm places
abbrev pub KeepsBy : {B : Type 0} → Worker → Driving Reply Reply → Slab (Sleeping Reply) → List Record → List SleeperRecord → Shared B → Type 0
KeepsBy w d zs rs ss s = KeepsWith 64 w d zs rs ss s

abbrev pub KeepsSpare : {B : Type 0} → ℕ → Worker → Shared B → Type 0
KeepsSpare n w s = KeepsWith n w (driver_of w) w.home.timers s.requests.items s.sleepers.items s

abbrev pub Keeps : {B : Type 0} → Worker → Shared B → Type 0
Keeps w s = KeepsBy w (driver_of w) w.home.timers s.requests.items s.sleepers.items s

-- by what a worker with another driver was, and by a driver and records
pub keeps_home : {B : Type 0} {spare : ℕ} (w1 w' : Worker) (s s' : Shared B) (rs : List Record) (d : Driving Reply Reply)
    → w' ≡ record w1 { home = record w1.home { driver = w'.home.driver } } → s' ≡ record s { requests = s'.requests } → driver_of w' ≡ d → s'.requests.items ≡ rs
    → KeepsWith spare w1 d w1.home.timers rs s.sleepers.items s → KeepsSpare spare w' s'
keeps_home = grind arith

-- the same where the worker's place, what it put off and some of its numbers have changed
pub keeps_all : {B : Type 0} (w w' : Worker) (s s' : Shared B) (rs : List Record) (d : Driving Reply Reply) →
    let w1 : Worker = record w { place = w'.place; put_off = w'.put_off; names = record w.names { staged = w'.names.staged; untold = w'.names.untold } } in
    w' ≡ record w1 { home = record w.home { driver = w'.home.driver } } → s' ≡ record s { requests = s'.requests } → driver_of w' ≡ d → s'.requests.items ≡ rs
    → KeepsBy w1 d w.home.timers rs s.sleepers.items s → Keeps w' s'
keeps_all w w' s s' rs d = keeps_home (record w { place = w'.place; put_off = w'.put_off; names = record w.names { staged = w'.names.staged; untold = w'.names.untold } }) w' s s' rs d

abbrev pub nap_sent : SleeperRecord → Bool
nap_sent z = z.sent
