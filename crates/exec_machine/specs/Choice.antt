-- What an event leaves open.
use Rattle.std.specs.Prelude.{ℕ, Bool}

-- who pays a wake
pub data Payer : Type 0 where
  -- this request, which is over
  ByRequest : ℕ → Payer
  -- this sleeper, which is over
  BySleeper : ℕ → Payer
  -- the act of the polled task
  ByAct : Payer
  -- the call of a caller
  ByCall : Payer
  -- the stop of the pool
  ByStop : Payer

pub data Choice : Type 0 where
  -- nothing is open
  Plain : Choice
  -- a turn by which the worker passes the shutdown barrier
  Passes : Choice
  -- a wake, and who pays it
  Pays : Payer → Choice
  -- a root message in place of a wake: who pays it, and whether it was left out, since the inbox has one
  Posts : Payer → Bool → Choice
