-- The middle of a service: what it does next, by what its driver has.
use Rattle.std.specs.Prelude.{◌≡◌}
use Rattle.exec_invariants.specs.{Words.{ℕ, true, [], map, Some, None, WaiterId, first_of, has_first, ListsRequests, lowest_gate, is_first_due, first_numbered, InService, Service, Place, Shared, Worker, number_in, driver_of, own_of}, Sound.SoundAt}

module _ {B : Type 0} where
  -- No deadline has come, none is new, and no request waits at a gate from this one on.
  pub record IsIdle (v : Service) (w : Worker) (s : Shared B) : Type 0 where
    pub gate : ℕ
    pub sound : SoundAt (Place.Service (InService.Submit gate) v) w s
    pub lists : ListsRequests (driver_of w)
    pub due : (driver_of w).lists.due ≡ []
    pub enrolments : (driver_of w).lists.enrolments ≡ []
    pub ungated : lowest_gate gate (driver_of w).requests (driver_of w).lists.gated None ≡ None

  -- The middle of a service, where a deadline has come; where none has, and one is new; and where a request waits at a gate.
  pub record Submits (w : Worker) (s : Shared B) : Type 0 where
    pub gate : ℕ
    pub service : Service
    pub sound : SoundAt (Place.Service (InService.Submit gate) service) w s
    pub lists : ListsRequests (driver_of w)

  pub record IsDueIn (w : Worker) (s : Shared B) : Type 0 where
    pub submits : Submits w s
    pub due : has_first (driver_of w).lists.due ≡ true

  -- what is due first at the driver is what the machine tells first
  abbrev pub IsInOrder : Worker → Shared B → Type 0
  IsInOrder w s =
      let rs = map (λ r. r.shown) s.requests.items in
      (id : WaiterId) → first_of (driver_of w).lists.due ≡ Some id → first_numbered (λ r it. is_first_due s.config (own_of w) w.index rs r) 0 rs ≡ Some (number_in w.names.requests.items id.0)

  pub record IsNewIn (w : Worker) (s : Shared B) : Type 0 where
    pub submits : Submits w s
    pub due : (driver_of w).lists.due ≡ []
    pub enrolments : has_first (driver_of w).lists.enrolments ≡ true

  pub record IsGatedIn (v : Service) (file : ℕ) (w : Worker) (s : Shared B) : Type 0 where
    pub gate : ℕ
    pub sound : SoundAt (Place.Service (InService.Submit gate) v) w s
    pub lists : ListsRequests (driver_of w)
    pub due : (driver_of w).lists.due ≡ []
    pub enrolments : (driver_of w).lists.enrolments ≡ []
    pub gated : lowest_gate gate (driver_of w).requests (driver_of w).lists.gated None ≡ Some file
