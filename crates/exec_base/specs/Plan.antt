-- What a call does to the plan of an end in memory.
use Rattle.std.specs.Prelude.{◌≡◌, ◌↔◌, Contains, Result, IsErr}
use Rattle.exec_base.specs.{Io.{one_more, CountsFault}, declared.io.{Failed.Failed, memory.Plan.Plan}}

-- a call was counted, and failed exactly where its number was planned, which counted a fault
pub record IsPlanned {T : Type 0} (old new : Plan) (outcome : Result T Failed) : Type 0 where
  pub counted : new.calls ≡ one_more old.calls
  pub planned : IsErr outcome ↔ Contains old.failing.items new.calls
  pub fault : CountsFault old.faults new.faults outcome
  pub kept : new.failing ≡ old.failing
