-- What a `TimeoutWheel` shows.
use Rattle.std.specs.{Prelude.{ℕ, ◌-◌, min, vec_len}, Vec.vec_capacity, VecDeque.{deque_len, deque_capacity}}
use Rattle.exec_time.specs.{Entries.{bucket_in, active_in}, Wheel.Wheel, declared.wheel.TimeoutWheel.TimeoutWheel}

-- the wheel that it stands for
unfoldable pub wheel_of : TimeoutWheel → Wheel
wheel_of w =
    record {
      start = w.start;
      tick = w.tick;
      horizon = w.horizon;
      slots = w.slots;
      current = w.current;
      bucket = bucket_in w.entries.items w.slots;
      active = active_in w.active.items;
      ready = w.ready.items;
    }

-- how many entries it can take without memory
unfoldable pub room_of : TimeoutWheel → ℕ
room_of w =
    min (vec_capacity w.entries - vec_len w.entries) (min (deque_capacity w.active - deque_len w.active) (deque_capacity w.ready - deque_len w.ready - vec_len w.entries))
