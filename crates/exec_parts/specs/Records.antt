-- Words for the records of requests and for the numbers of a worker.
use Rattle.std.specs.{Prelude.{◌≡◌, ℕ, ◌+◌, ◌*◌, ◌<◌, ◌≤◌, ◌^◌, Bool, false, List, [], length, map, nat_le, nat_lt, slice_index_or, Option, Some, None, if◌then◌else◌}, Vec.vec_capacity, VecDeque.deque_capacity}
use Rattle.exec_parts.specs.{Words.{Id, Direct, Outcome, without_mail, Reserved, Message, WaitTarget, asked_of, deadline_of, target_of, Asking, Way, no_operation, Operation, RequestPhase, Resolved, Rest, WorkerPhase}, declared.parts.{held.Held.Held, mail.Subject.Subject, names.Names.Names, seat.Seat.Seat}}

-- how it ended, where it is over
abbrev pub outcome_in : RequestPhase → Option Outcome
outcome_in (Resolved outcome) = Some outcome
outcome_in _ = None

-- so many bytes lie before the range of a direct read in its whole pages
abbrev pub skip_in : Way → ℕ
skip_in (Way.Direct skip len) = skip
skip_in (Way.Switched skip len) = skip
skip_in _ = 0

-- the range of a read begins below the end of the numbers
abbrev pub IsInRange : Asking → Type 0
IsInRange (Asking.ReadAt r) = r.offset + skip_in r.way < 2 ^ 64
IsInRange _ = Unit {0}

-- where in its file it begins, and the changes of its open that a sync of it covers
abbrev pub offset_in : Asking → ℕ
offset_in (Asking.ReadAt r) = r.offset + skip_in r.way
offset_in (Asking.WriteAt w) = w.offset
offset_in _ = 0

abbrev pub seen_in : Asking → ℕ
seen_in (Asking.WriteAt w) = w.seen
seen_in (Asking.Sync q) = q.seen
seen_in _ = 0

-- an open is named by 32 bits
abbrev pub file_named : ℕ → Option ℕ
file_named file = if nat_lt file (2 ^ 32) then Some file else None

-- what a request asks for, which was not begun
abbrev pub operation_in : Asking → Operation
operation_in r =
    record no_operation {
      kind = (asked_of r).kind;
      target = target_of r;
      offset = offset_in r;
      length = (asked_of r).length;
      skip = (asked_of r).skip;
      deadline = deadline_of r;
      seen = seen_in r;
    }

-- so many bytes as the first part of a request reads or writes can be counted, also in whole pages
abbrev pub IsCountable : Operation → Type 0
IsCountable o = o.kind ≡ Direct → o.skip + o.length + 4095 < 2 ^ 64

-- the numbers of what a task holds
abbrev pub numbers_held : List Held → List ℕ
numbers_held hs = map (λ h. h.number) hs

-- the number of what has this slot
abbrev pub number_in : List ℕ → Id → ℕ
number_in numbers id = slice_index_or numbers id.index 0

-- the same numbers, whatever room there is
pub record SameNames (n n' : Names) : Type 0 where
  pub requests : n'.requests.items ≡ n.requests.items
  pub timers : n'.timers.items ≡ n.timers.items
  pub ended : n'.ended.items ≡ n.ended.items
  pub ended_room : deque_capacity n.ended ≤ deque_capacity n'.ended
  pub staged : n'.staged ≡ n.staged
  pub untold : n'.untold ≡ n.untold
  pub unreleased : n'.unreleased ≡ n.unreleased

-- nobody has a number, and there is room for so many entries of a submission queue
pub record HasNoNames (entries : ℕ) (n : Names) : Type 0 where
  pub requests : n.requests.items ≡ []
  pub timers : n.timers.items ≡ []
  pub ended : n.ended.items ≡ []
  pub staged : n.staged.items ≡ []
  pub untold : n.untold.items ≡ []
  pub unreleased : n.unreleased ≡ 0
  pub staged_room : entries ≤ vec_capacity n.staged
  pub untold_room : entries ≤ vec_capacity n.untold

-- There is room for one more request; of a sleeper only its number is kept.
pub record HasRequestRoom (n : Names) : Type 0 where
  pub requests : length n.requests.items < vec_capacity n.requests
  pub ended : n.unreleased < deque_capacity n.ended

abbrev pub HasTimerRoom : Names → Type 0
HasTimerRoom n = length n.timers.items < vec_capacity n.timers

-- SEATS

-- how a worker rests once the clock has come to this moment
abbrev pub rest_at : ℕ → Rest → Rest
rest_at clock (Rest.Until moment) = if nat_le moment clock then Rest.Awake else Rest.Until moment
rest_at clock other = other

-- the seat then, and that of a worker who is awake
abbrev pub reached : ℕ → Seat → Seat
reached clock seat = record seat { rest = rest_at clock seat.rest }

abbrev pub roused : Seat → Seat
roused seat = record seat { rest = Rest.Awake }

-- so it is where an operation has landed: its ring got the wakes that waited
abbrev pub landed_on : Seat → Seat
landed_on seat = record seat { rest = Rest.Awake; raised = 0 }

-- the seat of a worker that begins
pub record IsFreshSeat (pool : Bool) (seat : Seat) : Type 0 where
  pub phase : seat.phase ≡ WorkerPhase.Open
  pub pool_is : seat.pool ≡ pool
  pub left : seat.left ≡ false
  pub rest : seat.rest ≡ Rest.Awake
  pub queue : seat.queue ≡ record { real = 0; gap = 0; values = []; held = [] }
  pub inbox : seat.mailbox.inbox ≡ without_mail 1
  pub waker : seat.mailbox.waker ≡ record { target = WaitTarget.None; latch = false; batch = 0 }
  pub raised : seat.raised ≡ 0
  pub made : seat.made ≡ 0

-- Its inbox and the batch of its worker got places, and nothing else of it changed.
pub record MakesMail (seat seat' : Seat) (batch batch' : Reserved (Message Subject Subject)) : Type 0 where
  pub places : ℕ
  pub same : seat' ≡ record seat { mailbox = record seat.mailbox { inbox = record seat.mailbox.inbox { places = places } } }
  pub more : seat.mailbox.inbox.places ≤ places
  pub values : batch'.values ≡ batch.values
  pub batch_more : batch.places ≤ batch'.places

-- There are places for two messages about each of its requests and sleepers and one more, and for the wake of its root.
pub record HasMailRoom (seat : Seat) (batch : Reserved (Message Subject Subject)) : Type 0 where
  pub counted : seat.made + 1 < 2 ^ 64
  pub inbox : 2 * (seat.made + 1) + 1 ≤ seat.mailbox.inbox.places
  pub batch_places : 2 * (seat.made + 1) + 1 ≤ batch.places
