-- The state of the abstract machine.
--
-- Each worker has its own part, which no other party reads or changes. All else is common: the seats, which are what
-- several parties read or change of a worker; the tasks, requests, sleepers and opens, by number; the clock. What stands
-- past the end of a list is over.
use Rattle.std.specs.Prelude.{ℕ, Bool, true, false, List, [], Option, None, slice_index_or}
use Rattle.exec_base.specs.declared.error.Error.TheVariants.{Timeout}
use Rattle.exec_outcomes.specs.{declared.outcome.{Kind.TheVariants.Send, Outcome.TheVariants.Failure}, Accounts.{Account, fresh_account}}
use Rattle.exec_machine.specs.declared.{config.ScriptWord.ScriptWord, state.{WorkerPhase.{WorkerPhase, TheVariants.Ended}, Rest.{Rest, TheVariants.Awake}, Next.{Next, TheVariants.Free}, Code.{Code, TheVariants.Waits}, TaskPhase.{TaskPhase, TheVariants.Done}, Waiting.{Waiting, TheVariants.Nothing}, Forwarding.TheVariants.Unsent, RequestPhase.TheVariants.Resolved, Operation.Operation, Request.Request, Sleeper.Sleeper, MailMessage.MailMessage, Letter.Letter, Call.Call}}

-- a worker's own part
pub record Own : Type 0 where
  -- the number of its root
  pub root : ℕ
  -- the moment at which it began, the one that it last sampled, and the one that it had sampled before that, in
  -- nanoseconds
  pub start : ℕ
  pub sampled : ℕ
  pub sampled_before : ℕ
  -- it is within a service
  pub serving : Bool
  -- the task that it polls
  pub polls : Option ℕ
  -- what its next line has to do
  pub next : Next
  -- the messages that it has to send, in order
  pub owed : List Letter
  -- Requests of its own, each list in order of coming: those that are Queued; those whose deadline isn't enrolled; and
  -- those that were cancelled in flight, and whose cancel isn't staged. What is over stands in none of them.
  pub ready : List ℕ
  pub unenrolled : List ℕ
  pub cancels : List ℕ
  -- those whose cancel is staged, and the kernel wasn't told
  pub untold : List ℕ
  -- those that are over and not released, in the order in which they ended
  pub ended : List ℕ
  -- how many are Staged, Flying or Landed, and how many are not released
  pub in_flight : ℕ
  pub unreleased : ℕ

-- what several parties read or change of a worker
pub record Seat : Type 0 where
  pub phase : WorkerPhase
  -- it is of the pool, and so polls all tasks that are no roots
  pub pool : Bool
  -- it has passed the shutdown barrier
  pub left : Bool
  pub rest : Rest
  -- its next enter takes nothing
  pub busy : Bool
  pub inbox : List MailMessage
  pub mailbox_closed : Bool
  -- its requests that are Landed, in order of landing
  pub landed : List ℕ

-- what a task keeps of a socket
pub record Adapter : Type 0 where
  pub socket : ℕ
  pub closed : Bool
  pub poisoned : Bool
  pub buffered : ℕ

-- the call of an adapter that a task is in: its one deadline, and the bytes that it has so far
pub record AdapterCall : Type 0 where
  pub deadline : Option ℕ
  pub gathered : ℕ

pub record Task : Type 0 where
  pub code : Code
  -- the number of the next word
  pub place : ℕ
  pub adapters : List Adapter
  pub call : Option AdapterCall
  -- the requests that it has neither taken nor dropped, the oldest first
  pub held : List ℕ
  pub phase : TaskPhase
  pub cleared : Bool
  -- the worker whose root it is
  pub home : Option ℕ
  pub waiting : Waiting
  -- its last poll began after its last wake
  pub fresh : Bool

-- an open file: its account, the request that holds its permit, and those that wait for it, in order
pub record Open : Type 0 where
  pub account : Account
  pub holder : Option ℕ
  pub waiting : List ℕ

pub record Common : Type 0 where
  -- in nanoseconds
  pub clock : ℕ
  pub seats : List Seat
  pub scripts : List (List ScriptWord)
  pub root : List ScriptWord
  pub tasks : List Task
  pub requests : List Request
  pub sleepers : List Sleeper
  pub opens : List Open
  -- for each listener how many peers wait
  pub listeners : List ℕ
  pub next_socket : ℕ
  pub callers : List Call
  pub set_closed : Bool
  pub queue_closed : Bool
  pub stopped : Bool

pub record World : Type 0 where
  pub workers : List Own
  pub common : Common

-- what stands past the end of a list: a worker that has nothing and has ended, a task that is over, a request that is
-- resolved and released, a sleeper that is over and owes nothing, an open that nobody uses

abbrev pub no_own : Own
no_own =
    record {
      root = 0;
      start = 0;
      sampled = 0;
      sampled_before = 0;
      serving = false;
      polls = None;
      next = Free;
      owed = [];
      ready = [];
      unenrolled = [];
      cancels = [];
      untold = [];
      ended = [];
      in_flight = 0;
      unreleased = 0;
    }

abbrev pub no_seat : Seat
no_seat =
    record { phase = Ended; pool = false; left = true; rest = Awake; busy = false; inbox = []; mailbox_closed = true; landed = [] }

abbrev pub no_task : Task
no_task =
    record {
      code = Waits;
      place = 0;
      adapters = [];
      call = None;
      held = [];
      phase = Done;
      cleared = true;
      home = None;
      waiting = Nothing;
      fresh = false;
    }

abbrev pub no_operation : Operation
no_operation =
    record {
      kind = Send;
      target = 0;
      offset = 0;
      length = 0;
      skip = 0;
      deadline = None;
      seen = 0;
      moved = 0;
      switched = false;
      unrefused = true;
      hinted = false;
    }

abbrev pub no_request : Request
no_request =
    record {
      operation = no_operation;
      worker = 0;
      phase = Resolved (Failure Timeout);
      timer = None;
      observed = false;
      cancelled = false;
      cancel_staged = false;
      released = true;
      waiter = None;
      wakes_paid = 0;
      forwarding = Unsent;
    }

abbrev pub no_sleeper : Sleeper
no_sleeper = record { until = 0; worker = 0; task = 0; fired = true; removed = true; wakes_paid = 2; forwarding = Unsent }

abbrev pub no_open : Open
no_open = record { account = fresh_account; holder = None; waiting = [] }

abbrev pub own_of : World → ℕ → Own
own_of w i = slice_index_or w.workers i no_own

abbrev pub seat_of : Common → ℕ → Seat
seat_of s i = slice_index_or s.seats i no_seat

abbrev pub task_of : Common → ℕ → Task
task_of s t = slice_index_or s.tasks t no_task

abbrev pub request_of : Common → ℕ → Request
request_of s r = slice_index_or s.requests r no_request

abbrev pub sleeper_of : Common → ℕ → Sleeper
sleeper_of s z = slice_index_or s.sleepers z no_sleeper

abbrev pub open_of : Common → ℕ → Open
open_of s f = slice_index_or s.opens f no_open
