-- WHAT A LINE OF A WORKER LEAVES of what is common: all that isn't its own, but for what the line tells.
use Rattle.std.specs.Prelude.{◌≡◌, ◌≢◌, ℕ, ◌<◌, ◌≤◌, ◌+◌, Bool, false, not, ◌==◌, ◌&&◌, if◌then◌else◌, length, Some}
use Rattle.exec_machine.specs.{declared.{event.Event.{Event, Event as event}, state.{Forwarding.TheVariants.Sent, MailMessage.TheVariants.{ForwardRequest, ForwardTimer, Root}, Next.{Next, TheVariants.Joins}, Request.Request, Rest.TheVariants.Awake, Sleeper.Sleeper}}, Choice.{Choice, Choice.Pays, Payer.{ByRequest, BySleeper}}, Mail.{is_left_out, is_root_message, posted}, World.{Common, Own, Seat, open_of, request_of, seat_of, sleeper_of, task_of}}

-- It is about a request of this open: one that joins its gate, is admitted, is granted the permit, or has a result that is
-- judged. The request is one of t, the state after it.
abbrev pub names_open : Own → Common → Event → ℕ → Bool
names_open me t event.Turn f = joins t me.next f
  where
    joins : Common → Next → ℕ → Bool
    joins t (Joins r) f = (request_of t r).operation.target == f
    joins t _ f = false
names_open me t (event.Admit r kind outcome) f = (request_of t r).operation.target == f
names_open me t (event.Grant r outcome) f = (request_of t r).operation.target == f
names_open me t (event.Reap r n outcome) f = (request_of t r).operation.target == f
names_open me t _ f = false

-- it names this task, or is a message to the worker's root, which is this task
abbrev pub names_task : Own → Event → ℕ → Bool
names_task me (event.Begin t) k = t == k
names_task me (event.Pend t) k = t == k
names_task me (event.Done t) k = t == k
names_task me (event.Fault t n) k = t == k
names_task me (event.Clear t) k = t == k
names_task me (event.Wake t) k = t == k
names_task me (event.Apply Root) k = me.root == k
names_task me _ k = false

-- so many seats, tasks, requests and sleepers it makes
abbrev pub new_by : Event → ℕ × ℕ × ℕ × ℕ
new_by (event.Spawn t k) = (0, 1, 0, 0)
new_by (event.Dedicated t j) = (1, 1, 0, 0)
new_by (event.Admit r kind outcome) = (0, 0, 1, 0)
new_by (event.Timer z until) = (0, 0, 0, 1)
new_by _ = (0, 0, 0, 0)

-- Of the seat of another worker j: what is sent there comes last in its inbox, unless it was left out, and who is roused
-- is awake.
abbrev pub seat_elsewhere : Event → Choice → ℕ → Seat → Seat
seat_elsewhere (event.Send to m) choice j seat = if (to == j) && not (is_root_message m && is_left_out choice) then posted m seat else seat
seat_elsewhere (event.Rouse other) choice j seat = if other == j then record seat { rest = Awake } else seat
seat_elsewhere _ choice j seat = seat

-- Of request or sleeper k of another worker: nobody holds it any more once its end is taken, it is forwarded for the polled
-- task, or it pays a wake.
abbrev pub request_elsewhere : Own → Event → Choice → ℕ → Request → Request
request_elsewhere me (event.Got r outcome) choice k x = if r == k then record x { observed = false } else x
request_elsewhere me (event.Send to (ForwardRequest r)) choice k x = if r == k then record x { waiter = me.polls; forwarding = Sent } else x
request_elsewhere me (event.Wake t) (Pays (ByRequest r)) k x = if r == k then record x { wakes_paid = x.wakes_paid + 1 } else x
request_elsewhere me _ choice k x = x

abbrev pub sleeper_elsewhere : Event → Choice → ℕ → Sleeper → Sleeper
sleeper_elsewhere (event.Send to (ForwardTimer z)) choice k x = if z == k then record x { forwarding = Sent } else x
sleeper_elsewhere (event.Wake t) (Pays (BySleeper z)) k x = if z == k then record x { wakes_paid = x.wakes_paid + 1 } else x
sleeper_elsewhere _ choice k x = x

-- An event of worker i, with its own part before it, leads from what is common, s, to t.
pub record OnlyReaches (i : ℕ) (me : Own) (e : Event) (choice : Choice) (s t : Common) : Type 0 where
  pub clock : t.clock ≡ s.clock
  pub scripts : t.scripts ≡ s.scripts
  pub root : t.root ≡ s.root
  pub callers : t.callers ≡ s.callers
  pub listeners : t.listeners ≡ s.listeners
  pub next_socket : t.next_socket ≡ s.next_socket
  pub many_seats : length t.seats ≡ length s.seats + (new_by e).0
  pub many_tasks : length t.tasks ≡ length s.tasks + (new_by e).1
  pub many_requests : length t.requests ≡ length s.requests + (new_by e).2
  pub many_sleepers : length t.sleepers ≡ length s.sleepers + (new_by e).3
  pub many_opens : length t.opens ≡ length s.opens
  pub set_closed : e ≢ event.Close → t.set_closed ≡ s.set_closed
  pub queue_closed : e ≢ event.Turn → t.queue_closed ≡ s.queue_closed
  pub stopped : e ≢ event.Stop → t.stopped ≡ s.stopped
  pub opens : (f : ℕ) → names_open me t e f ≡ false → open_of t f ≡ open_of s f
  pub seats : (j : ℕ) → j < length s.seats → j ≢ i → seat_of t j ≡ seat_elsewhere e choice j (seat_of s j)
  -- a task that it neither polls nor names
  pub tasks : (k : ℕ) → k < length s.tasks → me.polls ≢ Some k → names_task me e k ≡ false → task_of t k ≡ task_of s k
  -- requests and sleepers of other workers; what is made is its own
  pub requests : (k : ℕ) → k < length s.requests → (request_of s k).worker ≢ i → request_of t k ≡ request_elsewhere me e choice k (request_of s k)
  pub requests_made : (k : ℕ) → length s.requests ≤ k → k < length t.requests → (request_of t k).worker ≡ i
  pub sleepers : (k : ℕ) → k < length s.sleepers → (sleeper_of s k).worker ≢ i → sleeper_of t k ≡ sleeper_elsewhere e choice k (sleeper_of s k)
  pub sleepers_made : (k : ℕ) → length s.sleepers ≤ k → k < length t.sleepers → (sleeper_of t k).worker ≡ i
