-- WHAT EACH STATE OF AN EXECUTOR HAS, so that no wake is lost and nobody sleeps on work: it holds of the first state, and each step keeps it.
use Rattle.std.specs.Prelude.{suc, true, ℕ, ◌<◌, ◌^◌, ◌≡◌, ◌≤◌}
use Rattle.exec_core.specs.Words.{Configuration, Action, IsRightlyAsleep, is_quiet_step, quiet_bound, is_open, seat_of, Playing, by_step, left_to, IsPaced, IsBooked, AreBare, AreFresh, IsShut, RestsWell, IsPosted, IsRestful, IsAwaited, NobodySleepsOnWork, NoneIsForgotten, IsPermitted, IsSettled, ShutsDown, StopsAll}

pub record IsSteady (c : Configuration) (x : Playing) : Type 0 where
  -- wakes and messages
  pub restful : IsRestful c x
  pub bare : AreBare c x
  pub posted : IsPosted c x
  pub shut : IsShut x
  pub fresh : AreFresh x
  -- requests, sleepers and permits, and who waits for them
  pub booked : IsBooked x.world
  pub settled : IsSettled c x
  pub permitted : IsPermitted c x
  pub awaited : IsAwaited c x
  -- a stop of the pool comes to each of its workers
  pub stops : StopsAll c x.world

-- Where all workers sleep nothing is left to be run and nothing is unfinished; wherever a closing worker sleeps, it has a request
-- that isn't over; whatever others do, who sleeps has nothing to do or is woken next; no request is forgotten; and shutdown waits for
-- the kernel alone.
pub record Rests (c : Configuration) (x : Playing) : Type 0 where
  pub rests : RestsWell c x
  pub asleep : IsRightlyAsleep c x.world
  pub parked : NobodySleepsOnWork c x
  pub unforgotten : NoneIsForgotten c x
  pub shuts : ShutsDown x.world

-- both of a state
pub record IsSteadyThere (c : Configuration) (x : Playing) : Type 0 where
  pub steady : IsSteady c x
  pub rests : Rests c x

-- AND SO THAT NO WORKER TURNS FOR EVER, after so many steps: no open worker has as much left as the bound on quiet lines.
pub record IsPacedThere (n : ℕ) (c : Configuration) (x : Playing) : Type 0 where
  pub paced : IsPaced n c x
  pub bounded : (i : ℕ) → is_open (seat_of x.world.common i).phase ≡ true → left_to c x i < quiet_bound c x.world

-- What one more step keeps of that; and a quiet step of a worker, while nobody closes, costs some of what it has left.
pub record KeepsOn (n : ℕ) (c : Configuration) (x : Playing) (a : Action) : Type 0 where
  pub there : IsPacedThere (suc n) c (by_step c x a).next
  pub falls : n ≤ 2 ^ 32 → (i : ℕ) → a ≡ Action.Work i → is_quiet_step x.world (by_step c x a).told.0.said ≡ true → left_to c (by_step c x a).next i < left_to c x i
