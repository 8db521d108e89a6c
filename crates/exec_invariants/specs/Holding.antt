-- WHAT TASKS HOLD AND WAIT FOR, and what is under way about it.
--
-- A task holds requests, and may wait for one of them or for a sleeper. Another worker may have these: it is told that the
-- task waits for one elsewhere, and that nobody holds one any more. The facts are over what they speak of alone: of each
-- task, request, sleeper and seat a part.
use Rattle.std.specs.Prelude.{◌≡◌, ◌⊎◌, ◌+◌, ◌-◌, ◌*◌, ◌<◌, ◌≤◌, ◌==◌, ◌&&◌, ◌||◌, ◌++◌}
use Rattle.exec_invariants.specs.{Words.{ℕ, Bool, true, false, not, Contains, List, count_by, length, map, sum_by, slice_get, Option, Some, None, IsSome, is_some, option_to_list, Result, Ok, Err, Error, OneShotState, Open, Sent, Closed, Outcome, Success, Failure, as_outcome, RequestOutput, Message, Forwarding, Waiting, is_open, is_unsent, forwarding, Held, Letters, Subject, Record, Chair, SleeperRecord, TaskSlot, is_complete, numbers_held, outcome_in, subject}, Places.one_if}

-- MESSAGES

abbrev pub Mail : Type 0
Mail = Message Subject Subject

abbrev pub same_subject : Subject → Subject → Bool
same_subject (subject.Request a) (subject.Request b) = a == b
same_subject (subject.Timer a) (subject.Timer b) = a == b
same_subject _ _ = false

abbrev pub same_mail : Mail → Mail → Bool
same_mail Message.WakeRoot Message.WakeRoot = true
same_mail (Message.Forward x) (Message.Forward y) = same_subject x y
same_mail (Message.Cancel x) (Message.Cancel y) = same_subject x y
same_mail _ _ = false

-- how often the message is among these
abbrev pub mail_in : Mail → List Mail → ℕ
mail_in m ms = count_by (λ other. same_mail m other) ms

-- what a worker has yet to send about what a task held that is over
abbrev pub cancel_held : Held → Mail
cancel_held h = Message.Cancel (subject.Request h.number)

abbrev pub cancel_sleep : Held → Mail
cancel_sleep h = Message.Cancel (subject.Timer h.number)

abbrev pub mail_of_letters : Letters → List Mail
mail_of_letters l = map cancel_held l.requests.items ++ map cancel_sleep (option_to_list l.timer)

-- OF A TASK: whose root it is, what it holds, which of the things that others may have it waits for, whether it is over, and
-- the output that was sent to it
pub record Holder : Type 0 where
  pub home : Option ℕ
  pub held : List Held
  pub awaits : Option Subject
  pub over : Bool
  pub output : OneShotState (Result RequestOutput Error)

abbrev pub awaited_in : Waiting → Option Subject
awaited_in (Waiting.Request k) = Some (subject.Request k)
awaited_in (Waiting.Timer n) = Some (subject.Timer n)
awaited_in _ = None

abbrev pub holder_of : {B : Type 0} → TaskSlot B → Holder
holder_of slot =
    record {
      home = slot.home;
      held = slot.held.items;
      awaits = awaited_in slot.waiting;
      over = is_complete slot.cell.phase;
      output = slot.output;
    }

-- OF A REQUEST, AND OF A SLEEPER: who has it; whether somebody holds it; which task waits, or waited, for it; whether that was
-- told to its worker; how it ended; how many wakes it has paid; and whether its end was sent to a task elsewhere. A sleeper
-- that its worker let go as it closes counts as removed.
pub record Thing : Type 0 where
  pub worker : ℕ
  pub observed : Bool
  pub waiter : Option ℕ
  pub forwarding : Forwarding
  pub ended : Option Outcome
  pub paid : ℕ
  pub sent : Bool

abbrev pub thing_of : Record → Thing
thing_of r =
    record {
      worker = r.shown.worker;
      observed = r.shown.observed;
      waiter = r.shown.waiter;
      forwarding = r.shown.forwarding;
      ended = outcome_in r.shown.phase;
      paid = r.shown.wakes_paid;
      sent = r.sent;
    }

pub record Nap : Type 0 where
  pub worker : ℕ
  pub task : ℕ
  pub fired : Bool
  pub removed : Bool
  pub closed : Bool
  pub forwarding : Forwarding
  pub paid : ℕ
  pub sent : Bool

abbrev pub nap_of : SleeperRecord → Nap
nap_of z =
    record {
      worker = z.shown.worker;
      task = z.shown.task;
      fired = z.shown.fired;
      removed = z.shown.removed || z.closed;
      closed = z.closed;
      forwarding = z.shown.forwarding;
      paid = z.shown.wakes_paid;
      sent = z.sent;
    }

-- OF A SEAT: whether its mailbox is closed, whether its worker closes, its messages and for how many there are places, and how
-- many requests and sleepers the worker has made
pub record Box : Type 0 where
  pub shut : Bool
  pub closing : Bool
  pub messages : List Mail
  pub places : ℕ
  pub made : ℕ

abbrev pub box_of : Chair → Box
box_of chair =
    record {
      shut = chair.mailbox.inbox.closed;
      closing = not (is_open chair.phase);
      messages = chair.mailbox.inbox.messages;
      places = chair.mailbox.inbox.places;
      made = chair.made;
    }

-- OF ALL PARTIES: how often they have a message in hand, taken and not applied or yet to be sent; and how often a worker is
-- about to wake a task
pub record Hands : Type 0 where
  pub mail : Mail → ℕ
  pub wakes : ℕ → ℕ → ℕ

-- how often a message is in hands or in an inbox
abbrev pub under_way : Hands → Mail → List Box → ℕ
under_way h m boxes = h.mail m + sum_by (λ box. mail_in m box.messages) boxes

-- how often a request is held, and how many tasks that aren't over wait for this
abbrev pub holdings : ℕ → List Holder → ℕ
holdings k holders = sum_by (λ it. count_by (λ h. h.number == k) it.held) holders

abbrev pub is_awaited_by : Subject → Option Subject → Bool
is_awaited_by s None = false
is_awaited_by s (Some other) = same_subject s other

abbrev pub waiters : Subject → List Holder → ℕ
waiters s holders = count_by (λ it. not it.over && is_awaited_by s it.awaits) holders

-- how a request ended that has this output
abbrev pub outcome_by : {A C : Type 0} → Result A (C × Error) → Outcome
outcome_by (Ok filled) = Success
outcome_by (Err back) = Failure back.1

abbrev pub outcome_told : RequestOutput → Outcome
outcome_told (RequestOutput.Send ended) = as_outcome ended
outcome_told (RequestOutput.Recv received) = outcome_by received
outcome_told (RequestOutput.ReadAt read) = outcome_by read
outcome_told (RequestOutput.WriteAt ended) = as_outcome ended
outcome_told (RequestOutput.Sync ended) = as_outcome ended
outcome_told (RequestOutput.Connect ended) = as_outcome ended
outcome_told (RequestOutput.Poll ended) = as_outcome ended

-- A REQUEST

-- One that somebody can let go is held by one task, or a message says that nobody holds it any more; and once its worker takes
-- no mail no task holds it.
abbrev pub IsHeldBy : Bool → Bool → ℕ → ℕ → Type 0
IsHeldBy false observed held told = held + told ≡ one_if observed
IsHeldBy true observed held told = held ≡ 0

-- a message that it is waited for elsewhere is under way just where one was sent and not applied
abbrev pub is_sent : Forwarding → Bool
is_sent forwarding.Sent = true
is_sent _ = false

abbrev pub IsForwarded : Bool → Forwarding → ℕ → Type 0
IsForwarded false f told = told ≡ one_if (is_sent f)
IsForwarded true f told = Unit {0}

-- somebody holds it; or its end goes to a task elsewhere, and wasn't sent
abbrev pub IsDue : Thing → Type 0
IsDue r = (r.observed ≡ true) ⊎ ((is_unsent r.forwarding ≡ false) × (r.sent ≡ false))

-- task t waits for this
pub record Awaits (s : Subject) (t : ℕ) (holders : List Holder) : Type 0 where
  pub it : Holder
  pub there : slice_get holders t ≡ Some it
  pub awaits : it.awaits ≡ Some s

-- it is an ordinary one
pub record IsOrdinary (t : ℕ) (holders : List Holder) : Type 0 where
  pub it : Holder
  pub there : slice_get holders t ≡ Some it
  pub home : it.home ≡ None

-- A TASK: the root of worker i has what that worker has, and any other what workers of the pool have
abbrev pub MayHave : ℕ → Option ℕ → ℕ → Type 0
MayHave workers None j = j < workers
MayHave workers (Some i) j = j ≡ i

-- It holds this request, which no other task waits for; and one that it waits for elsewhere is what it waits for.
pub record HoldsRequest (workers t : ℕ) (it : Holder) (h : Held) (r : Thing) : Type 0 where
  pub worker : r.worker ≡ h.worker
  pub near : MayHave workers it.home r.worker
  pub here : IsSome it.home → is_unsent r.forwarding ≡ true
  pub waiter : (u : ℕ) → r.waiter ≡ Some u → u ≡ t
  pub awaited : is_unsent r.forwarding ≡ false → it.awaits ≡ Some (subject.Request h.number)

-- what was sent to it is how the request ended, or that nobody holds it any more
abbrev pub IsAnswerOf : Result RequestOutput Error → Thing → Type 0
IsAnswerOf (Ok told) r = r.ended ≡ Some (outcome_told told)
IsAnswerOf (Err error) r = r.observed ≡ false

abbrev pub HasAnswer : OneShotState (Result RequestOutput Error) → Thing → Type 0
HasAnswer Open r = r.sent ≡ false
HasAnswer (Sent answer) r = (r.sent ≡ true) × IsAnswerOf answer r
HasAnswer Closed r = ⊥

-- It waits for request k, the newest that it holds as long as it isn't over.
pub record AwaitsThing (workers t k : ℕ) (it : Holder) (r : Thing) : Type 0 where
  pub waiter : r.waiter ≡ Some t
  pub near : MayHave workers it.home r.worker
  pub here : IsSome it.home → is_unsent r.forwarding ≡ true
  pub newest : it.over ≡ false → slice_get (numbers_held it.held) (length (numbers_held it.held) - 1) ≡ Some k
  pub answer : is_unsent r.forwarding ≡ false → HasAnswer it.output r

-- It waits for a sleeper of its own.
pub record AwaitsNap (workers t : ℕ) (it : Holder) (z : Nap) : Type 0 where
  pub task : z.task ≡ t
  pub near : MayHave workers it.home z.worker
  pub here : IsSome it.home → is_unsent z.forwarding ≡ true
  pub kept : it.over ≡ false → z.removed ≡ false

-- A WAKE that worker i owes task t: by what the task waits for, which is over, or has lost who held it as its worker closes;
-- it has paid none, and its end wasn't sent
abbrev pub IsClosing : ℕ → List Box → Type 0
IsClosing i boxes = (box : Box) → slice_get boxes i ≡ Some box → box.closing ≡ true

pub record ThingOwes (i t : ℕ) (r : Thing) (boxes : List Box) : Type 0 where
  pub worker : r.worker ≡ i
  pub waiter : r.waiter ≡ Some t
  pub unpaid : r.paid ≡ 0
  pub unsent : r.sent ≡ false
  pub over : (is_some r.ended ≡ true) ⊎ ((r.observed ≡ false) × IsClosing i boxes)

pub record NapOwes (i t : ℕ) (z : Nap) : Type 0 where
  pub worker : z.worker ≡ i
  pub task : z.task ≡ t
  pub unpaid : z.paid ≡ 0
  pub unsent : z.sent ≡ false
  pub over : (z.fired || z.removed) ≡ true

abbrev pub Owes : ℕ → ℕ → Option Subject → List Thing → List Nap → List Box → Type 0
Owes i t None things naps boxes = ⊥
Owes i t (Some (subject.Request k)) things naps boxes = (r : Thing) × (slice_get things k ≡ Some r) × ThingOwes i t r boxes
Owes i t (Some (subject.Timer n)) things naps boxes = (z : Nap) × (slice_get naps n ≡ Some z) × NapOwes i t z

pub record IsOwed (i t : ℕ) (holders : List Holder) (things : List Thing) (naps : List Nap) (boxes : List Box) : Type 0 where
  pub it : Holder
  pub there : slice_get holders t ≡ Some it
  pub owes : Owes i t it.awaits things naps boxes

-- A SEAT

-- worker j has this; a message about it comes from the pool, to the pool
abbrev pub IsOf : ℕ → ℕ → Subject → List Thing → List Nap → Type 0
IsOf workers j (subject.Request k) things naps = (r : Thing) × (slice_get things k ≡ Some r) × (r.worker ≡ j) × (j < workers)
IsOf workers j (subject.Timer n) things naps = (z : Nap) × (slice_get naps n ≡ Some z) × (z.worker ≡ j) × (j < workers)

abbrev pub IsAbout : ℕ → ℕ → Mail → List Thing → List Nap → Type 0
IsAbout workers j Message.WakeRoot things naps = Unit {0}
IsAbout workers j (Message.Forward s) things naps = IsOf workers j s things naps
IsAbout workers j (Message.Cancel s) things naps = IsOf workers j s things naps

-- Two messages may come about each thing that it made, and one for its root.
pub record HasPlace (j : ℕ) (things : List Thing) (naps : List Nap) (box : Box) : Type 0 where
  pub made : count_by (λ r. r.worker == j) things + count_by (λ z. z.worker == j) naps ≤ box.made
  pub places : box.shut ≡ false → 2 * box.made + 1 ≤ box.places

-- ALL TOGETHER

pub record IsHolding (h : Hands) (workers : ℕ) (holders : List Holder) (things : List Thing) (naps : List Nap) (boxes : List Box) : Type 0 where
  pub held : (k : ℕ) (r : Thing) (box : Box) → slice_get things k ≡ Some r → slice_get boxes r.worker ≡ Some box → IsHeldBy box.shut r.observed (holdings k holders) (under_way h (Message.Cancel (subject.Request k)) boxes)
  pub forwarded : (k : ℕ) (r : Thing) (box : Box) → slice_get things k ≡ Some r → slice_get boxes r.worker ≡ Some box → IsForwarded box.shut r.forwarding (under_way h (Message.Forward (subject.Request k)) boxes)
  pub asked : (k : ℕ) (r : Thing) → slice_get things k ≡ Some r → is_unsent r.forwarding ≡ false → (t : ℕ) × (r.waiter ≡ Some t) × IsOrdinary t holders
  pub waited : (k : ℕ) (r : Thing) (t : ℕ) → slice_get things k ≡ Some r → r.waiter ≡ Some t → IsDue r → Awaits (subject.Request k) t holders
  pub holds : (t : ℕ) (it : Holder) (j : ℕ) (x : Held) → slice_get holders t ≡ Some it → slice_get it.held j ≡ Some x → (r : Thing) × (slice_get things x.number ≡ Some r) × HoldsRequest workers t it x r
  pub awaiting : (t : ℕ) (it : Holder) (k : ℕ) → slice_get holders t ≡ Some it → it.awaits ≡ Some (subject.Request k) → (r : Thing) × (slice_get things k ≡ Some r) × AwaitsThing workers t k it r
  pub asleep : (t : ℕ) (it : Holder) (n : ℕ) → slice_get holders t ≡ Some it → it.awaits ≡ Some (subject.Timer n) → (z : Nap) × (slice_get naps n ≡ Some z) × AwaitsNap workers t it z
  pub over : (t : ℕ) (it : Holder) → slice_get holders t ≡ Some it → it.over ≡ true → (length it.held ≡ 0) × (IsSome it.home → it.awaits ≡ None)
  pub sleeps : (n : ℕ) (z : Nap) → slice_get naps n ≡ Some z → z.fired ≡ false → z.removed ≡ false → Awaits (subject.Timer n) z.task holders
  pub let_go : (n : ℕ) (z : Nap) (box : Box) → slice_get naps n ≡ Some z → slice_get boxes z.worker ≡ Some box → box.shut ≡ false → waiters (subject.Timer n) holders + under_way h (Message.Cancel (subject.Timer n)) boxes ≤ 1
  pub asked_too : (n : ℕ) (z : Nap) → slice_get naps n ≡ Some z → is_unsent z.forwarding ≡ false → IsOrdinary z.task holders
  pub woken : (n : ℕ) (z : Nap) (box : Box) → slice_get naps n ≡ Some z → slice_get boxes z.worker ≡ Some box → IsForwarded box.shut z.forwarding (under_way h (Message.Forward (subject.Timer n)) boxes)
  -- who was let go as its worker closed is no root's
  pub let_be : (n : ℕ) (z : Nap) → slice_get naps n ≡ Some z → z.closed ≡ true → IsOrdinary z.task holders
  pub owed : (i t : ℕ) → 0 < h.wakes i t → (h.wakes i t ≡ 1) × IsOwed i t holders things naps boxes
  pub about : (j : ℕ) (box : Box) (m : Mail) → slice_get boxes j ≡ Some box → Contains box.messages m → IsAbout workers j m things naps
  pub room : (j : ℕ) (box : Box) → slice_get boxes j ≡ Some box → HasPlace j things naps box
  -- an end was sent only of what is over, once its worker knew that it is waited for elsewhere
  pub sent : (k : ℕ) (r : Thing) → slice_get things k ≡ Some r → r.sent ≡ true → r.forwarding ≡ forwarding.Applied
  pub sent_too : (n : ℕ) (z : Nap) → slice_get naps n ≡ Some z → z.sent ≡ true → (z.forwarding ≡ forwarding.Applied) × ((z.fired || z.removed) ≡ true)
  -- nobody has a message about what isn't there, and each thing is of a worker
  pub made : (m : Mail) → 0 < h.mail m → (j : ℕ) × IsAbout workers j m things naps
  pub of_worker : (k : ℕ) (r : Thing) → slice_get things k ≡ Some r → r.worker < length boxes
  pub of_worker_too : (n : ℕ) (z : Nap) → slice_get naps n ≡ Some z → z.worker < length boxes
