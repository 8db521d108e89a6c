-- What workers share before they begin.
use Rattle.std.specs.Prelude.{◌≡◌, ℕ, false, [], length, replicate}
use Rattle.exec_opens.specs.Opens.{fresh_open}
use Rattle.exec_parts.specs.{Words.{Configuration, IsShardCount, nothing_moved, socket_of, store_byte}, declared.parts.shared.Shared.Shared}

module _ {B : Type 0} where
  -- what is shared at first, as far as the lists of it don't tell more
  abbrev pub shared_of : Configuration → Shared B → Shared B
  shared_of c s =
      record s {
        config = c;
        clock = 0;
        set = record { shards = replicate (length s.set.shards) []; closed = false; id = 1 };
        global = record { values = []; places = 0; closed = false };
        idle = record { published = replicate 64 false; count = 0 };
        opens = replicate c.files fresh_open;
        barrier_open = false;
        stopped = false;
      }

  -- There are no seats and no tasks yet, and sockets and files have no bytes.
  pub record IsFresh (c : Configuration) (s : Shared B) : Type 0 where
    pub parts : s ≡ shared_of c s
    pub shards : IsShardCount c.workers (length s.set.shards)
    pub seats : s.seats.items ≡ []
    pub tasks : s.tasks.items ≡ []
    pub requests : s.requests.items ≡ []
    pub sleepers : s.sleepers.items ≡ []
    pub listeners : s.listeners.items ≡ replicate c.sockets 0
    pub unmoved : (k : ℕ) → socket_of s.store k ≡ nothing_moved
    pub unwritten : (f k : ℕ) → store_byte s.store f k ≡ 0
