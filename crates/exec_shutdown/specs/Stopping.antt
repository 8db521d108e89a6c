-- A STOP COMES TO EACH WORKER OF THE POOL. Worker zero stops the pool as it closes, and then tells the root of each other one, which
-- waits for nothing else and is over as soon as it looks. Nobody passes the shutdown barrier before that, and who has passed it
-- polls nothing any more; a worker of the pool closes its mailbox and ends only once it has.
use Rattle.std.specs.{Prelude.{◌≡◌, ◌≢◌, ℕ, ◌<◌, Bool, true, false, not, ◌&&◌, ◌||◌, [], Some, None}, List.list_any}
use Rattle.exec_machine.specs.{declared.{config.Configuration.Configuration, state.{Code.TheVariants.Waits, MailMessage.TheVariants.Root, TaskPhase.{TaskPhase, TaskPhase as phase}, Waiting.{Waiting, Waiting as waiting}, Next.Next as next}}, Callers.is_held, Mail.has_root_message, Same.is_letter, Tests.{has_ended, is_awake, is_done, is_idle, is_open, is_woken, waits_for_nothing}, World.{Own, Task, World, own_of, seat_of, task_of}}

abbrev pub waits_for_wake : Waiting → Bool
waits_for_wake waiting.Wake = true
waits_for_wake _ = false

abbrev pub is_running : TaskPhase → Bool
is_running (phase.Running i) = true
is_running _ = false

-- It waits for a wake; or its poll, in which it has begun to, ends next.
abbrev pub is_waiting : Task → Bool
is_waiting t = is_idle t.phase || (is_running t.phase && waits_for_wake t.waiting)

-- the worker has yet to tell the root of worker i
abbrev pub owes_root : ℕ → Own → Bool
owes_root i me = list_any (λ letter. is_letter i Root (Some letter)) me.owed

-- the root of worker i, which waits until the pool is stopped, and holds nothing
pub record WaitsForStop (i : ℕ) (t : Task) : Type 0 where
  pub home : t.home ≡ Some i
  pub code : t.code ≡ Waits
  pub held : t.held ≡ []
  pub waits : (waits_for_nothing t.waiting || waits_for_wake t.waiting || is_woken t.waiting) ≡ true

pub record StopsAll (c : Configuration) (w : World) : Type 0 where
  -- the workers of the pool are the first
  pub pool : (i : ℕ) → (seat_of w.common i).pool ≡ true → i < c.workers
  -- the pool is stopped by worker zero, as it closes
  pub zero : w.common.stopped ≡ true → is_open (seat_of w.common 0).phase ≡ false
  -- who passes the barrier is closing, and the pool is stopped
  pub left : (i : ℕ) → (seat_of w.common i).pool ≡ true → (seat_of w.common i).left ≡ true → (w.common.stopped ≡ true) × (is_open (seat_of w.common i).phase ≡ false)
  -- who is held there closes its mailbox next
  pub held : (i : ℕ) → is_held w.common (seat_of w.common i) ≡ true → (own_of w i).next ≡ next.ClosesMailbox
  -- who closes its mailbox, has closed it, or has ended has passed the barrier
  pub shuts : (i : ℕ) → (seat_of w.common i).pool ≡ true → (own_of w i).next ≡ next.ClosesMailbox → (seat_of w.common i).left ≡ true
  pub shut : (i : ℕ) → (seat_of w.common i).pool ≡ true → (seat_of w.common i).mailbox_closed ≡ true → (seat_of w.common i).left ≡ true
  pub over : (i : ℕ) → (seat_of w.common i).pool ≡ true → has_ended (seat_of w.common i).phase ≡ true → (seat_of w.common i).left ≡ true
  -- who sleeps, has ended, or has passed the barrier as one of the pool has no message to send
  pub sent : (i : ℕ) → (not (is_awake (seat_of w.common i).rest) || has_ended (seat_of w.common i).phase || ((seat_of w.common i).pool && (seat_of w.common i).left)) ≡ true → (own_of w i).owed ≡ []
  -- who isn't open polls nothing
  pub idle : (i : ℕ) → is_open (seat_of w.common i).phase ≡ false → (own_of w i).polls ≡ None
  -- the root of each other worker of the pool waits for that alone, and is over where its worker isn't open
  pub roots : (i : ℕ) → (seat_of w.common i).pool ≡ true → i ≢ 0 → WaitsForStop i (task_of w.common (own_of w i).root)
  pub closed : (i : ℕ) → (seat_of w.common i).pool ≡ true → i ≢ 0 → is_open (seat_of w.common i).phase ≡ false → is_done (task_of w.common (own_of w i).root).phase ≡ true
  -- it is told, once the pool is stopped: by a message in its inbox, or one that worker zero has yet to send
  pub told : (i : ℕ) → (seat_of w.common i).pool ≡ true → i ≢ 0 → w.common.stopped ≡ true → is_waiting (task_of w.common (own_of w i).root) ≡ true → (has_root_message (seat_of w.common i) || owes_root i (own_of w 0)) ≡ true
