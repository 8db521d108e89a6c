-- What a worker, and what all share, shows: of the abstract machine, and of what stands beside it.
use Rattle.std.specs.{Prelude.{ℕ, zero, suc, Bool, false, not, ◌-◌, ◌==◌, ◌&&◌, ◌||◌, if◌then◌else◌, List, [], ◌∷◌, drop, length, map, filter, slice_get, slice_index_or, slice_set, ◌++◌, is_some, Option, Some, None, option_to_list}, Option.option_map}
use Rattle.exec_parts.specs.{Words.{Slab, is_live, Slot, slot, Account, fresh_account, is_durable, is_wake, RingState, completions, Completion, ForwardedResult, waker_in, index_in, flying_count, Answer, Entry, entry, WaiterId, Driving, seen, is_control, OpenState, WaiterKey, Message, letter, OpenFile, PureWord, Queue, Said, Runnable, Phase, cell, Call, Owed, MailMessage, message, TaskPhase, task, Own, Seat, Task, Common, is_resolved, letters_to_roots, Plan, Slots, Desk, Things, WakePoll, raised, polls_at, next_at, serves_at, Heard, send, signal, Place, at, closing}, declared.parts.{held.Held.Held, letters.Letters.Letters, mail.{Subject.{Subject, Subject as subject}, Reply.Reply}, record.Record.Record, seat.Seat.Seat as Chair, shared.Shared.Shared, task_slot.TaskSlot.TaskSlot, worker.Worker.Worker}, Records.{number_in, numbers_held}, Spots.{Spot, no_spot}}

-- NUMBERS

abbrev pub numbers_of : List ℕ → List WaiterId → List ℕ
numbers_of numbers ids = map (λ id. number_in numbers id.0) ids

-- the number of a completion's request, by the slot that its user data names
abbrev pub number_told : List ℕ → Completion → ℕ
number_told numbers c = slice_index_or numbers (index_in c.user_data) 0

-- THE RING

-- the operations that have landed, in order
abbrev pub landed_in : List ℕ → RingState → List ℕ
landed_in numbers r = map (number_told numbers) (filter (λ c. not (is_control c)) (completions r))

-- how many acknowledged cancels stand behind the last completion of an operation
abbrev pub trailing : ℕ → List Completion → ℕ
trailing n [] = n
trailing n (c ∷ cs) = trailing (if is_wake c then n else if is_control c then suc n else 0) cs

-- and whether a completion of the wake poll does
abbrev pub trails_wake : Bool → List Completion → Bool
trails_wake told [] = told
trails_wake told (c ∷ cs) = trails_wake (is_wake c || (is_control c && told)) cs

-- how many operations stand behind the completion that ended the wake poll
abbrev pub operations_in : List Completion → ℕ
operations_in cs = length (filter (λ c. not (is_control c)) cs)

abbrev pub is_end : Completion → Bool
is_end c = is_wake c && not c.more

abbrev pub behind_end : List Completion → Option ℕ
behind_end [] = None
behind_end (c ∷ cs) = if is_end c then Some (operations_in cs) else behind_end cs

-- the wake poll, as the kernel has it
abbrev pub wake_poll_in : RingState → WakePoll
wake_poll_in r =
    record { armed = r.armed; last = r.last; told = trails_wake false (completions r); ended = behind_end (completions r); kept = r.raised }

-- and once so many more wakes are raised
abbrev pub raised_times : ℕ → WakePoll → WakePoll
raised_times zero p = p
raised_times (suc more) p = raised_times more (raised p)

-- MESSAGES

abbrev pub forward_of : Subject → MailMessage
forward_of (subject.Request r) = message.ForwardRequest r
forward_of (subject.Timer z) = message.ForwardTimer z

abbrev pub cancel_of : Subject → MailMessage
cancel_of (subject.Request r) = message.CancelRequest r
cancel_of (subject.Timer z) = message.CancelTimer z

abbrev pub message_of : Message Subject Subject → MailMessage
message_of letter.WakeRoot = message.Root
message_of (letter.Forward x) = forward_of x
message_of (letter.Cancel x) = cancel_of x

-- and as its worker takes it
abbrev pub mail_of : MailMessage → Message Subject Subject
mail_of message.Root = letter.WakeRoot
mail_of (message.ForwardRequest r) = letter.Forward (subject.Request r)
mail_of (message.ForwardTimer z) = letter.Forward (subject.Timer z)
mail_of (message.CancelRequest r) = letter.Cancel (subject.Request r)
mail_of (message.CancelTimer z) = letter.Cancel (subject.Timer z)

-- THE SLOTS of requests or of sleepers, from this one on: the number that has each

module _ {T : Type 0} where
  abbrev pub slots_from : ℕ → List ℕ → List (Slot T) → List (Option ℕ)
  slots_from k numbers [] = []
  slots_from k numbers (s ∷ slots) =
      (if is_live s then Some (slice_index_or numbers k 0) else None) ∷ slots_from (suc k) numbers slots

  abbrev pub slots_seen : List ℕ → Slab T → Slots
  slots_seen numbers s = record { held = slots_from 0 numbers s.slots; vacant = s.vacant }

-- a task of the worker is woken once the request in the slot is over
abbrev pub awaits_entry : Entry Reply Reply → Bool
awaits_entry (entry.Pending w) = is_some (waker_in w.observer)
awaits_entry (entry.Ready output) = false

abbrev pub is_awaited : Slot (Entry Reply Reply) → Bool
is_awaited (slot.Live generation e) = awaits_entry e
is_awaited _ = false

abbrev pub awaited_from : ℕ → List ℕ → List (Slot (Entry Reply Reply)) → List ℕ
awaited_from k numbers [] = []
awaited_from k numbers (s ∷ slots) =
    if is_awaited s then slice_index_or numbers k 0 ∷ awaited_from (suc k) numbers slots else awaited_from (suc k) numbers slots

-- WHAT IS SENT ELSEWHERE: the ends of sleepers and of requests, and the messages about what a task held that is over

abbrev pub number_heard : Heard → ℕ
number_heard (Heard.Request r) = r
number_heard (Heard.Timer z) = z

abbrev pub completions_in : List (ForwardedResult Reply) → List ℕ
completions_in cs = map (λ c. number_heard c.sender.of) cs

abbrev pub results_in : List (Answer Reply) → List ℕ
results_in answers = map (λ a. number_heard a.sender.of) answers

abbrev pub letter_of_request : Held → Owed
letter_of_request h = record { to = h.worker; message = message.CancelRequest h.number }

abbrev pub letter_of_timer : Held → Owed
letter_of_timer h = record { to = h.worker; message = message.CancelTimer h.number }

abbrev pub letters_in : Letters → List Owed
letters_in l = map letter_of_request l.requests.items ++ option_to_list (option_map letter_of_timer l.timer)

-- A WORKER

abbrev pub driver_of : Worker → Driving Reply Reply
driver_of w = seen w.home.driver

-- what it has to send of the stop, in a pool of so many workers: to the roots of all from one on
abbrev pub owed_at : ℕ → Place → List Owed
owed_at n (at.Closing (closing.TellRoot worker)) = letters_to_roots (n - worker) worker
owed_at n (at.Signal x j (signal.Send (send.Tell worker))) = letters_to_roots (n - worker) worker
owed_at n _ = []

-- what the machine has of it alone
abbrev pub own_of : Worker → Own
own_of w =
    record {
      root = w.root;
      start = w.moments.start;
      sampled = w.moments.sampled;
      sampled_before = w.moments.before;
      serving = serves_at w.place;
      polls = polls_at w.place;
      next = next_at w.place;
      owed = owed_at w.workers w.place ++ letters_in w.letters;
      ready = numbers_of w.names.requests.items (driver_of w).lists.queued;
      unenrolled = numbers_of w.names.requests.items (driver_of w).lists.enrolments;
      cancels = numbers_of w.names.requests.items (driver_of w).lists.cancels;
      untold = w.names.untold.items;
      ended = w.names.ended.items;
      in_flight = flying_count (driver_of w).requests;
      unreleased = w.names.unreleased;
    }

-- what stands beside that
abbrev pub desk_of : Worker → Desk
desk_of w =
    record {
      place = w.place;
      countdown = w.countdown;
      root_ready = is_some w.root_ready;
      may_put_off = w.put_off.defer;
      put_off = w.put_off.«enter»;
      wakes = map (λ t. t.0) w.home.deferred.notes.wakes.items;
      outputs = length w.home.deferred.outputs.items;
      completions = completions_in w.home.deferred.notes.completions.items;
      results = results_in w.home.deferred.results.items;
      requests = slots_seen w.names.requests.items (driver_of w).requests;
      timers = slots_seen w.names.timers.items w.home.timers;
      awaited = awaited_from 0 w.names.requests.items (driver_of w).requests.slots;
      entries = length (driver_of w).ring.staged;
      polled = (driver_of w).armed;
      others = trailing 0 (completions (driver_of w).ring);
      batch = map message_of w.batch.values;
      processed = w.processed;
      spinner = w.spinner;
      read = w.moments.read;
      slept = w.slept;
      picks = w.picks;
      searching = w.searching;
      rng = w.rng;
      hand = option_map (λ r. r.task.0) w.hand;
      loot = map (λ r. r.task.0) w.loot.values;
      letters = letters_in w.letters;
    }

-- what others see of it, though only it touches that: its ring was set busy, what has landed there, the wake poll but for
-- wakes that wait at its seat, and the messages that it took and has yet to apply
pub record Visible : Type 0 where
  pub busy : Bool
  pub landed : List ℕ
  pub wakes : WakePoll
  pub taken : List MailMessage

abbrev pub visible : Worker → Visible
visible w =
    record {
      busy = (driver_of w).ring.busy;
      landed = landed_in w.names.requests.items (driver_of w).ring;
      wakes = wake_poll_in (driver_of w).ring;
      taken = map message_of w.batch.values;
    }

-- what is visible of each worker, and whether each outside caller has a call half done
pub record Views : Type 0 where
  pub workers : List Visible
  pub calls : List Call

-- the same, with this of worker i
abbrev pub with_view : Views → ℕ → Visible → Views
with_view vs i v = record vs { workers = slice_set vs.workers i v }

-- SEATS AND OPENS

abbrev pub seat_seen : Visible → Chair → Seat
seat_seen v seat =
    record {
      phase = seat.phase;
      pool = seat.pool;
      left = seat.left;
      rest = seat.rest;
      busy = v.busy;
      inbox = v.taken ++ map message_of seat.mailbox.inbox.messages;
      mailbox_closed = seat.mailbox.inbox.closed;
      landed = v.landed;
    }

abbrev pub seats_seen : List Visible → List Chair → List Seat
seats_seen [] seats = []
seats_seen (v ∷ vs) [] = []
seats_seen (v ∷ vs) (seat ∷ seats) = seat_seen v seat ∷ seats_seen vs seats

-- the wake polls, with the wakes that wait at each seat
abbrev pub polls_seen : List Visible → List Chair → List WakePoll
polls_seen [] seats = []
polls_seen (v ∷ vs) [] = []
polls_seen (v ∷ vs) (seat ∷ seats) = raised_times seat.raised v.wakes ∷ polls_seen vs seats

-- the number of the request with this name
abbrev pub number_of_key : ℕ → List Record → WaiterKey → ℕ
number_of_key n [] key = n
number_of_key n (r ∷ rs) key =
    if (r.shown.worker == key.worker) && ((r.id.0.index == key.id.0.index) && (r.id.0.generation == key.id.0.generation))
    then n else number_of_key (suc n) rs key

-- who is at the gate of an open, the holder of its permit first
abbrev pub gate_seen : List Record → OpenState → List ℕ
gate_seen rs o = map (number_of_key 0 rs) (option_to_list o.holder ++ o.waiting)

-- The machine passes a permit on as its holder is over, which stands in the gate until its worker has left that.
abbrev pub gives_up : Record → Bool
gives_up r = is_resolved r.shown.phase && is_durable r.shown.operation.kind

abbrev pub has_given_up : Option Record → Bool
has_given_up None = false
has_given_up (Some r) = gives_up r

abbrev pub line_of : List Record → List ℕ → List ℕ
line_of rs [] = []
line_of rs (n ∷ later) = if has_given_up (slice_get rs n) then later else n ∷ later

abbrev pub account_seen : Option Account → Account
account_seen None = fresh_account
account_seen (Some account) = account

abbrev pub open_seen : List Record → OpenState → OpenFile
open_seen rs o =
    let line = line_of rs (gate_seen rs o) in
    record { account = account_seen o.account; holder = slice_get line 0; waiting = drop 1 line }

-- TASKS, by what a body is left to do and where that is in its script

module _ {B : Type 0} where
  -- its body, where it is
  abbrev pub body_in : Phase B → Option B → Option B
  body_in (cell.Idle b) other = Some b
  body_in (cell.Queued b) other = Some b
  body_in _ other = other

  abbrev pub phase_seen : Phase B → ℕ → TaskPhase
  phase_seen (cell.Idle b) i = task.Idle
  phase_seen (cell.Queued b) i = task.Queued
  phase_seen cell.Running i = task.Running i
  phase_seen cell.Notified i = task.Noted i
  phase_seen cell.Complete i = task.Done

module _ {B L : Type 0} (left : B → L) (spot : L → Option Said → Spot) where
  abbrev pub spot_by : Option B → Option Said → Spot
  spot_by None told = no_spot
  spot_by (Some b) told = spot (left b) told

  abbrev pub task_seen : TaskSlot B → Task
  task_seen t =
      let stands = spot_by (body_in t.cell.phase t.body) t.told in
      record {
        code = stands.code;
        place = stands.place;
        adapters = stands.adapters;
        call = stands.call;
        held = numbers_held t.held.items;
        phase = phase_seen t.cell.phase t.poller;
        cleared = t.cleared;
        home = t.home;
        waiting = t.waiting;
        fresh = t.fresh;
      }

  -- what the machine has of all, for a plan; of workers and callers this is visible
  abbrev pub common_of : Plan → Views → Shared B → Common
  common_of p vs s =
      record {
        clock = s.clock;
        seats = seats_seen vs.workers s.seats.items;
        scripts = p.scripts;
        root = p.root;
        tasks = map task_seen s.tasks.items;
        requests = map (λ r. r.shown) s.requests.items;
        sleepers = map (λ z. z.shown) s.sleepers.items;
        opens = map (open_seen s.requests.items) s.opens;
        listeners = s.listeners.items;
        next_socket = s.config.sockets;
        callers = vs.calls;
        set_closed = s.set.closed;
        queue_closed = s.global.closed;
        stopped = s.stopped;
      }

-- WHAT PARTIES SHARE BESIDE THAT

abbrev pub tasks_of : List Runnable → List ℕ
tasks_of rs = map (λ r. r.task.0) rs

abbrev pub queue_seen : Queue Runnable → Queue ℕ
queue_seen q = record { real = q.real; gap = q.gap; values = tasks_of q.values; held = tasks_of q.held }

abbrev pub queue_at : Chair → Queue ℕ
queue_at seat = queue_seen seat.queue

abbrev pub word_at : Chair → PureWord
word_at seat = seat.mailbox.waker

-- the messages that weren't taken
abbrev pub inbox_at : Chair → List MailMessage
inbox_at seat = map message_of seat.mailbox.inbox.messages

-- the numbers, from this one on, of what passes a test
abbrev pub numbers_of_passing : {T : Type 0} → (T → Bool) → ℕ → List T → List ℕ
numbers_of_passing test n [] = []
numbers_of_passing test n (x ∷ xs) =
    if test x then n ∷ numbers_of_passing test (suc n) xs else numbers_of_passing test (suc n) xs

-- all but the wake polls
abbrev pub things_of : {B : Type 0} → Shared B → Things
things_of s =
    record {
      queues = map queue_at s.seats.items;
      words = map word_at s.seats.items;
      inboxes = map inbox_at s.seats.items;
      wake_polls = [];
      global = tasks_of s.global.values;
      idle = s.idle;
      barrier = s.barrier_open;
      shards = map (map (λ e. e.0)) s.set.shards;
      gates = map (gate_seen s.requests.items) s.opens;
      answers = numbers_of_passing (λ r. r.sent) 0 s.requests.items;
      alarms = numbers_of_passing (λ z. z.sent) 0 s.sleepers.items;
    }

-- with the wake polls, as they are visible
abbrev pub things_with : {B : Type 0} → Views → Shared B → Things
things_with vs s = record (things_of s) { wake_polls = polls_seen vs.workers s.seats.items }
