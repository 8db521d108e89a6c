-- WHAT IS DUE NEXT: the wheel and the sleepers of a worker tell the moments that its records have.
use Rattle.std.specs.Prelude.{◌≡◌, ◌-◌, ◌/◌, ◌<◌}
use Rattle.exec_invariants.specs.{Words.{ℕ, Bool, true, false, List, [], length, Option, Some, None, IsSome, slice_get, IsPast, Slab, value_at, Id, Wheel, Sleeping, Driving, IsPunctual, Configuration, horizon, wheel_slots, is_asleep, is_resolved, AfterPermit, InService, Reaping, Reply, Names, Record, SleeperRecord, Moments, number_in}, Ordered.{IsOrdered, went_round}}

-- from the advance of the wheel to the end of the submissions deadlines may be due and not told
abbrev pub may_be_due : Option InService → Bool
may_be_due (Some (InService.Submit gate)) = true
may_be_due _ = false

-- the wheel stands at what was sampled last; from the sampling to its advance at what was sampled before
abbrev pub moment_back : AfterPermit → Moments → ℕ
moment_back (AfterPermit.Reap Reaping.First) m = m.before
moment_back (AfterPermit.Reaped Reaping.First) m = m.before
moment_back _ m = m.sampled

abbrev pub wheel_moment : Option InService → Moments → ℕ
wheel_moment (Some (InService.Reap Reaping.First)) m = m.before
wheel_moment (Some InService.AdvanceWheel) m = m.before
wheel_moment (Some (InService.PassPermit file b)) m = moment_back b m
wheel_moment (Some (InService.Signal worker b)) m = moment_back b m
wheel_moment (Some (InService.Raise ring worker b)) m = moment_back b m
wheel_moment _ m = m.sampled

-- the wheel is that of a worker with this start, and stands at this moment
pub record IsWheelAt (c : Configuration) (begun moment : ℕ) (w : Wheel) : Type 0 where
  pub start : w.start ≡ begun
  pub tick : w.tick ≡ c.tick
  pub horizon : w.horizon ≡ horizon c
  pub slots : w.slots ≡ wheel_slots c
  pub current : w.current ≡ (moment - begun) / c.tick

-- request k of a worker: until it is over its driver's slot names it, and then it has no deadline
pub record IsTimed (n : Names) (k : ℕ) (r : Record) : Type 0 where
  pub named : is_resolved r.shown.phase ≡ false → number_in n.requests.items r.id.0 ≡ k
  pub over : is_resolved r.shown.phase ≡ true → r.shown.timer ≡ None

abbrev pub AreTimed : ℕ → Names → List Record → Type 0
AreTimed i n records = (k : ℕ) (r : Record) → slice_get records k ≡ Some r → r.shown.worker ≡ i → IsTimed n k r

-- the sleeper of a worker that is there, and what the machine has of it
pub record IsAsleepAs (i : ℕ) (z : Sleeping Reply) (r : SleeperRecord) : Type 0 where
  pub until : r.shown.until ≡ z.deadline
  pub asleep : is_asleep i r.shown ≡ true
  pub unclosed : r.closed ≡ false

-- The names of a worker's sleepers: each is of one alone, and none is given again.
pub record AreNapsNamed (i : ℕ) (zs : Slab (Sleeping Reply)) (sleepers : List SleeperRecord) : Type 0 where
  pub past : (k : ℕ) (r : SleeperRecord) → slice_get sleepers k ≡ Some r → r.shown.worker ≡ i → IsPast zs r.id.0
  pub unique : (j k : ℕ) (x y : SleeperRecord) → slice_get sleepers j ≡ Some x → slice_get sleepers k ≡ Some y → x.shown.worker ≡ i → y.shown.worker ≡ i → x.id.0 ≡ y.id.0 → j ≡ k

-- Those that are there sleep, and those that sleep are there, but for those that the worker let go as it closes.
pub record AreAsleep (closing : Bool) (i : ℕ) (n : Names) (zs : Slab (Sleeping Reply)) (sleepers : List SleeperRecord) : Type 0 where
  pub alike : (id : Id) (z : Sleeping Reply) (r : SleeperRecord) → value_at zs id ≡ Some z → slice_get sleepers (number_in n.timers.items id) ≡ Some r → IsAsleepAs i z r
  pub there : (k : ℕ) (r : SleeperRecord) → slice_get sleepers k ≡ Some r → is_asleep i r.shown ≡ true → r.closed ≡ false → IsSome (value_at zs r.id.0)
  pub named : (k : ℕ) (r : SleeperRecord) → slice_get sleepers k ≡ Some r → is_asleep i r.shown ≡ true → r.closed ≡ false → number_in n.timers.items r.id.0 ≡ k
  pub lets_go : (k : ℕ) (r : SleeperRecord) → slice_get sleepers k ≡ Some r → r.shown.worker ≡ i → r.closed ≡ true → closing ≡ true
  -- no slot was taken more often than there are sleepers
  pub counted : (id : Id) → IsPast zs id → id.generation < length sleepers
  pub names : AreNapsNamed i zs sleepers

pub record IsDue (x : Option InService) (closing : Bool) (i : ℕ) (m : Moments) (c : Configuration) (n : Names) (d : Driving Reply Reply) (zs : Slab (Sleeping Reply)) (records : List Record) (sleepers : List SleeperRecord) : Type 0 where
  pub punctual : IsPunctual d
  pub told : may_be_due x ≡ false → d.lists.due ≡ []
  pub wheel : IsWheelAt c m.start (wheel_moment x m) d.wheel
  pub timed : AreTimed i n records
  pub asleep : AreAsleep closing i n zs sleepers
  pub order : IsOrdered (went_round c m) n.requests.items d.requests d.wheel d.lists.enrolments d.lists.due
