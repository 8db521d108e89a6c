-- Wakes that were raised for a worker's ring wait at its seat. The next step that names the ring takes them in first.
use Rattle.std.specs.Prelude.{◌≡◌}
use Rattle.exec_invariants.specs.Words.{slice_get, slice_set, Some, Event, Chair, Shared, Worker, with_raises, EntersRing, driver_of}

module _ {B : Type 0} where
  -- The wakes that waited at its seat are in its ring, and nothing else has changed.
  pub record TakesRaises (w : Worker) (s : Shared B) (w' : Worker) (s' : Shared B) : Type 0 where
    pub driver : (chair : Chair) → slice_get s.seats.items w.index ≡ Some chair → driver_of w' ≡ with_raises chair.raised (driver_of w)
    pub seats : (chair : Chair) → slice_get s.seats.items w.index ≡ Some chair → s'.seats.items ≡ slice_set s.seats.items w.index (record chair { raised = 0 })
    pub worker : w' ≡ record w { home = record w.home { driver = w'.home.driver } }
    pub shared : s' ≡ record s { seats = s'.seats }

  -- An enter, once they are in the ring.
  pub record Enters (w : Worker) (s : Shared B) (e : Event) (w' : Worker) (s' : Shared B) : Type 0 where
    pub mid : Worker
    pub rested : Shared B
    pub takes : TakesRaises w s mid rested
    pub enters : EntersRing mid rested e w' s'
