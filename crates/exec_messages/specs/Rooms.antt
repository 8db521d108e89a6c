-- The room that a request which is over has left for its bytes: its admission made it, and they didn't move.
use Rattle.std.specs.Prelude.{◌≡◌, ℕ, ◌-◌, ◌^◌, ◌&&◌, Bool, nat_lt, if◌then◌else◌}
use Rattle.exec_ring.specs.{Stores.{SameFiles, socket_of}, declared.store.Store.Store}
use Rattle.exec_machine.specs.declared.state.Operation.{Operation}
use Rattle.exec_invariants.specs.Carried.{moves_by, room_for}

-- a window has its socket and so many bytes
abbrev pub fits_window : Operation → Bool
fits_window o = nat_lt o.target (2 ^ 32) && nat_lt (o.length - o.moved) (2 ^ 32)

abbrev pub left_by : Bool → ℕ → Operation → ℕ
left_by out socket o = if moves_by out socket o && fits_window o then o.length - o.moved else 0

-- it was given back, and no file changed
pub record GivesBack (o : Operation) (old new : Store) : Type 0 where
  pub room : (out : Bool) (socket : ℕ) → room_for out (socket_of new socket) ≡ room_for out (socket_of old socket) - left_by out socket o
  pub files : SameFiles old new
