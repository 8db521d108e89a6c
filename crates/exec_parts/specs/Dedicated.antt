-- A worker that begins, and the making of one for a dedicated task.
use Rattle.std.specs.Prelude.{◌≡◌, ◌⊎◌, ℕ, ◌+◌, ◌^◌, ◌<◌, ◌≤◌, true, false, [], ◌∷◌, ◌++◌, length, Some, None}
pub use Rattle.exec_parts.specs.Roles.{MayBegin}
use Rattle.exec_parts.specs.{Words.{Closed, Configuration, Event, HasPlaces, InPoll, IsFreshDriver, IsPunctual, NoMemory, Place, Queued, Runnable, Said, Same, SpinnerConfig, TaskNo, Waiting, begun_spinner, horizon, is_untold, ring_size, runnable_of, shot}, declared.parts.{nursery.Nursery.Nursery, role.Role.{Role, TheVariants.Dedicated}, seat.Seat.Seat as Chair, shared.Shared.Shared, task_slot.TaskSlot.TaskSlot, worker.Worker.Worker}, Records.{HasNoNames, IsFreshSeat}, View.driver_of, Things.TurnsSlot}

-- how long it looks before it sleeps
abbrev pub spins_in : Configuration → SpinnerConfig
spins_in c = record { budget_us = c.spin.budget; max_budget_us = c.spin.most; quick_wake_us = c.spin.quick }

-- worker i at first, which begins at this moment, with the runnable of its root
abbrev pub begun_worker : Configuration → Role → ℕ → ℕ → Runnable → ℕ → Worker → Worker
begun_worker c role i root r now w =
    record w {
      place = Place.BeginTurn;
      index = i;
      workers = c.workers;
      role = role;
      root = root;
      moments = record { start = now; sampled = now; before = now; read = 0 };
      root_ready = Some r;
      hand = None;
      loot = record { values = []; places = 129 };
      picks = 0;
      searching = false;
      rng = i + 1;
      countdown = c.interval;
      put_off = record { defer = false; «enter» = false };
      batch = record { values = []; places = 1 };
      processed = 0;
      spinner = begun_spinner (spins_in c) c.spin.iterations;
      slept = None;
    }

pub record Begins (c : Configuration) (role : Role) (i root : ℕ) (r : Runnable) (now : ℕ) (w : Worker) : Type 0 where
  pub parts : w ≡ begun_worker c role i root r now w
  pub names : HasNoNames (ring_size c) w.names
  pub home : w.home.worker ≡ i
  pub opened : w.home.closing ≡ false
  pub driver : IsFreshDriver (driver_of w) (ring_size c) (horizon c) c.tick now
  pub punctual : IsPunctual (driver_of w)
  pub asleep : (w.home.timers.slots ≡ []) × (w.home.timers.vacant ≡ []) × (w.home.timers.first ≡ 0)
  pub untold : is_untold w.home.deferred ≡ true
  pub room : HasPlaces w.home.deferred 65
  pub letters : (w.letters.requests.items ≡ []) × (w.letters.timer ≡ None)

module _ {B : Type 0} where
  -- the slot of a new task, whose body is to be polled: the root of worker i
  abbrev pub root_slot : TaskNo → ℕ → ℕ → B → TaskSlot B → TaskSlot B
  root_slot number owner i body slot =
      record slot {
        cell = record { number = number; owner = owner; phase = Queued body; cancelled = false };
        body = None;
        told = Some Said.Start;
        waiting = Waiting.Nothing;
        output = shot.Open;
        fresh = false;
        cleared = false;
        home = Some i;
        poller = 0;
      }

  -- A task of this body was made, and a worker that has it for its root. Places in the global queue are kept for as many
  -- tasks as there are.
  pub record MakesDedicated (body : B) (s s' : Shared B) (n n' : Nursery) (number : TaskNo) : Type 0 where
    pub is : number ≡ record { 0 = length s.tasks.items }
    pub few : length s.tasks.items < 2 ^ 32
    pub few_seats : length s.seats.items + 1 < 2 ^ 32
    pub room : n.has_room ≡ true
    pub slot : TaskSlot B
    pub made : slot ≡ root_slot number s.set.id (length s.seats.items) body slot
    pub held : slot.held.items ≡ []
    pub tasks : s'.tasks.items ≡ s.tasks.items ++ slot ∷ []
    pub chair : Chair
    pub fresh : IsFreshSeat false chair
    pub seats : s'.seats.items ≡ s.seats.items ++ chair ∷ []
    pub places : length s'.tasks.items ≤ s'.global.places
    pub more_places : s.global.places ≤ s'.global.places
    pub born : Worker
    pub begins : Begins s.config Dedicated (length s.seats.items) (length s.tasks.items) (runnable_of slot.cell) s.clock born
    pub nursery : n' ≡ record n { born = Some born }
    pub store : Same s.store s'.store
    pub kept : s' ≡ record s { seats = s'.seats; tasks = s'.tasks; global = record s.global { places = s'.global.places }; store = s'.store }

  -- There was no memory: lists may have other memory.
  pub record MakesNobody (s s' : Shared B) (n n' : Nursery) : Type 0 where
    pub tasks : s'.tasks.items ≡ s.tasks.items
    pub seats : s'.seats.items ≡ s.seats.items
    pub more_places : s.global.places ≤ s'.global.places
    pub nursery : n' ≡ n
    pub store : Same s.store s'.store
    pub kept : s' ≡ record s { seats = s'.seats; tasks = s'.tasks; global = record s.global { places = s'.global.places }; store = s'.store }

  -- Task t is told of the task that it made, whose worker begins.
  pub record Dedicates (t : ℕ) (body : B) (w w' : Worker) (s s' : Shared B) (n n' : Nursery) (e : Event) : Type 0 where
    pub open_still : s.set.closed ≡ false
    pub number : TaskNo
    pub middle : Shared B
    pub makes : MakesDedicated body s middle n n' number
    pub told : TurnsSlot t middle s' (λ slot. record slot { told = Some (Said.Spawned number) })
    pub worker : w' ≡ record w { place = Place.Poll t InPoll.Act }
    pub event_is : e ≡ Event.Dedicated (length s.tasks.items) (length s.seats.items)

  -- A closed set takes no task.
  pub record DedicatesNone (t : ℕ) (w w' : Worker) (s s' : Shared B) (n n' : Nursery) (e : Event) : Type 0 where
    pub closed : s.set.closed ≡ true
    pub told : TurnsSlot t s s' (λ slot. record slot { told = Some (Said.Refused Closed) })
    pub worker : w' ≡ record w { place = Place.Poll t InPoll.Act }
    pub nursery : n' ≡ n
    pub event_is : e ≡ Event.Closed

  abbrev pub DedicatesIf : ℕ → B → Worker → Worker → Shared B → Shared B → Nursery → Nursery → Event → Type 0
  DedicatesIf t body w w' s s' n n' e = Dedicates t body w w' s s' n n' e ⊎ DedicatesNone t w w' s s' n n' e

  -- There was no memory for it: task t is told so.
  pub record RefusesDedicated (t : ℕ) (w w' : Worker) (s s' : Shared B) (n n' : Nursery) : Type 0 where
    pub middle : Shared B
    pub nobody : MakesNobody s middle n n'
    pub told : TurnsSlot t middle s' (λ slot. record slot { told = Some (Said.Refused NoMemory) })
    pub worker : w' ≡ w
