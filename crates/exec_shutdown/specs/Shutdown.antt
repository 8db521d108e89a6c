-- SHUTDOWN WAITS FOR THE KERNEL ALONE. Where nobody can take a step each worker sleeps or has ended: nobody is held at the shutdown
-- barrier, since a stop comes to each worker that has not passed it. And where one of them is closing the kernel has an operation; that
-- its own requests wait for such a one is said of whoever sleeps (`NobodySleepsOnWork.held_up`).
use Rattle.std.specs.{Prelude.{◌≡◌, ℕ, Bool, true, false, not, ◌&&◌}, List.list_all}
use Rattle.exec_machine.specs.{Callers.{is_half_done, is_held, may_work}, Tests.{is_closing, is_flying}, World.{World, request_of, seat_of}}

-- no worker may take a step, and no call is half done
abbrev pub is_at_standstill : World → Bool
is_at_standstill w = list_all (λ seat. not (may_work w.common seat)) w.common.seats && list_all (λ call. not (is_half_done call)) w.common.callers

pub record ShutsDown (w : World) : Type 0 where
  pub passes : is_at_standstill w ≡ true → (i : ℕ) → is_held w.common (seat_of w.common i) ≡ false
  pub kernel : is_at_standstill w ≡ true → (i : ℕ) → is_closing (seat_of w.common i).phase ≡ true → (k : ℕ) × (is_flying (request_of w.common k).phase ≡ true)
