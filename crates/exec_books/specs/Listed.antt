-- In which lists of its worker a request stands.
use Rattle.std.specs.{Prelude.{◌≡◌, ℕ, Bool, true, false, not, ◌==◌, ◌&&◌, ◌||◌, List}, List.list_any}
use Rattle.exec_machine.specs.{declared.state.Request.Request, Same.is_none, Tests.{is_in_flight, is_landed, is_queued, is_resolved}, World.{Own, World, own_of, request_of, seat_of}}

abbrev pub is_in : ℕ → List ℕ → Bool
is_in k list = list_any (λ q. q == k) list

-- request k stands in each list in which it waits for something
pub record IsListed (me : Own) (landed : List ℕ) (k : ℕ) (r : Request) : Type 0 where
  pub queued : is_queued r.phase ≡ true → is_in k me.ready ≡ true
  pub landed_in : is_landed r.phase ≡ true → is_in k landed ≡ true
  pub unenrolled : (is_resolved r.phase || r.cancelled || not (is_none r.timer) || is_none r.operation.deadline) ≡ false → is_in k me.unenrolled ≡ true
  pub cancels : (is_in_flight r.phase && r.cancelled && not r.cancel_staged) ≡ true → is_in k me.cancels ≡ true
  pub over : (is_resolved r.phase && not r.released) ≡ true → is_in k me.ended ≡ true

-- each in those of its own worker
abbrev pub AreListed : World → Type 0
AreListed w = (k : ℕ) → let it = request_of w.common k in IsListed (own_of w it.worker) (seat_of w.common it.worker).landed k it
