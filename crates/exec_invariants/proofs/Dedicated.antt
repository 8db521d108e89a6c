-- Workers of the pool and dedicated ones: what the numbers of workers and of their roots say.
use Rattle.exec_invariants.{proofs.Names.{◌≡◌, ℕ, ◌<◌, ◌≤◌, true, false, List, Option, Some, None, sym, ◌∙◌, length, slice_get, arith, false≢true, slice_get_within, ltb-true, ltb-false, Place, Role, Chair, Shared, TaskSlot, Worker, is_pool}, specs.{Places.is_pooled_at, Sound.{AreHome, Serves, SoundAt}}}

pub by_length : {n m : ℕ} → m ≡ n → n ≤ m
by_length same = omega (arith, same)

-- no fewer than so many, of a list as long as another
pub as_long : {n m k : ℕ} → m ≡ n → k ≤ n → k ≤ m
as_long same few = omega (arith, same, few)

-- a worker of the pool may poll any task
pub all_serve : (o : Option ℕ) (root : ℕ) (role : Role) → is_pool role ≡ true → Serves o root role
all_serve None root role pool = tt
all_serve (Some t) root role pool = λ other. pool

module _ {B : Type 0} where
  -- an ordinary task is behind the roots of the pool

  -- each root is that of a worker
  pub home_within : (workers count t j : ℕ) (tasks : List (TaskSlot B)) (slot : TaskSlot B) → AreHome workers count tasks → slice_get tasks t ≡ Some slot → slot.home ≡ Some j → j < count
  home_within = grind arith

  -- its own seat is there
  pub own_there : (p : Place) (w : Worker) (s : Shared B) → SoundAt p w s → w.index < length s.seats.items
  own_there p w s sound = slice_get_within s.seats.items w.index sound.seated.seat sound.seated.there

  -- a worker of the pool has a number of the pool
  pub in_pool : (p : Place) (w : Worker) (s : Shared B) → SoundAt p w s → is_pool w.role ≡ true → w.index < s.config.workers
  in_pool p w s sound pool = ltb-true w.index s.config.workers (sym sound.role.pool ∙ pool)

  pub pooled_here : (p : Place) (w : Worker) (s : Shared B) → SoundAt p w s → is_pooled_at p ≡ true → w.index < s.config.workers
  pooled_here p w s sound is = in_pool p w s sound (sound.pooled is)

  -- and any other has one behind those
  pub past_pool : (p : Place) (w : Worker) (s : Shared B) → SoundAt p w s → is_pool w.role ≡ false → s.config.workers ≤ w.index
  past_pool p w s sound pool = ltb-false w.index s.config.workers (sym sound.role.pool ∙ pool)

  -- its seat says which it is
  pub chair_of_pool : (p : Place) (w : Worker) (s : Shared B) → SoundAt p w s → (chair : Chair) → slice_get s.seats.items w.index ≡ Some chair → chair.pool ≡ is_pool w.role
  chair_of_pool = grind arith

  -- no other task is its root
  pub own_root : (p : Place) (w : Worker) (s : Shared B) → SoundAt p w s → (t : ℕ) (slot : TaskSlot B) → slice_get s.tasks.items t ≡ Some slot → slot.home ≡ Some w.index → t ≡ w.root
  own_root p w s sound t slot there home = sound.homes.once t w.root w.index slot sound.runnable.root there sound.runnable.there home sound.runnable.home

  -- so at a place of the pool nothing is asked of a dedicated one
  pub never_apart : {P : Type 0} (p : Place) (w : Worker) (s : Shared B) → SoundAt p w s → is_pooled_at p ≡ true → is_pool w.role ≡ false → P
  never_apart p w s sound is apart = absurd (false≢true (sym apart ∙ sound.pooled is))

  pub few_here : (p : Place) (w : Worker) (s : Shared B) → SoundAt p w s → is_pooled_at p ≡ true → w.index < 64
  few_here p w s sound is = let within = pooled_here p w s sound is in omega (arith, within, sound.config.few)
