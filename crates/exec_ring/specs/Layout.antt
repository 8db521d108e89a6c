-- How the ring in memory lies in its lists.
use Rattle.std.specs.{Prelude.{◌≤◌, length}, Vec.vec_capacity, VecDeque.deque_capacity}
use Rattle.exec_ring.specs.{declared.sim_ring.SimRing.TheInside.Inside, Rings.{RingState, taken_places}}

abbrev pub state_of : Inside → RingState
state_of r =
    record {
      size = r.size;
      staged = r.staged.items;
      flying = r.flying.items;
      armed = r.armed;
      raised = r.raised;
      posted = r.posted.items;
      wakes = r.wakes;
      busy = r.busy;
      last = r.last;
      places = r.places;
    }

-- the queue has its size and no more; the other lists have room for each entry that has a place
pub record HasRoom (r : Inside) : Type 0 where
  pub within : length r.staged.items ≤ r.size
  pub queue : r.size ≤ deque_capacity r.staged
  pub taken : taken_places (state_of r) ≤ r.places
  pub flights : r.places ≤ vec_capacity r.flying
  pub posts : r.places ≤ deque_capacity r.posted
