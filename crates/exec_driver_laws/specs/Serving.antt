-- A whole service as calls of its worker.
use Rattle.std.specs.Prelude.{◌≡◌, ℕ, List}
use Rattle.exec_driver.specs.{Driving.Driving, Placed.Says}
use Rattle.exec_opens.specs.Opens.{OpenState}
use Rattle.exec_driver_laws.specs.Sharing.{Gates, Call}

module _ {S F : Type 0} where
  -- calls of a worker, one after the other, after each of which its driver says what each says
  pub data Calls (worker : ℕ) (old : Driving S F) (g : Gates) : Driving S F → Gates → Type 0 where
    NoCall : Calls worker old g old g
    NextCall : (d d' : Driving S F) (h h' : Gates) → Calls worker old g d h → Call worker d d' h h' → Says d' → Calls worker old g d' h'

  -- a service is calls of its worker, which leave the opens as it does
  pub record IsCalls (worker : ℕ) (old new : Driving S F) (g : Gates) (opens : List OpenState) : Type 0 where
    pub gates : Gates
    pub opens_after : gates.opens ≡ opens
    pub calls : Calls worker old g new gates
