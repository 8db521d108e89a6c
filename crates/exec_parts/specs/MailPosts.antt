-- Messages to other workers: that a task waits for what they have, and that nobody holds it any more.
use Rattle.std.specs.Prelude.{◌≡◌, ℕ, true, false, ◌-◌, ◌<◌, drop, length, take, Ok, Some, slice_get, slice_set, ◌≤◌, [], count_by}
use Rattle.exec_parts.specs.{Words.{Open, Full, Shut, Outcome, is_wake_root, Mailbox, RequestOutput, Said, Event, Turn, Got, GotTimer, Letter, ForwardRequest, ForwardTimer, Resolved, Waiting, AfterCancels, AfterSend, poll, at}, declared.parts.{letters.Letters.Letters, mail.Subject.Subject, record.Record.Record, seat.Seat.Seat as Chair, shared.Shared.Shared, sleeping.SleeperRecord.SleeperRecord, task_slot.TaskSlot.TaskSlot, worker.Worker.Worker}, Calls.{forwarded_for, sleeper_forwarded}, Polls.{OfSlot, slept_slot, unobserved}, Pooled.{MaySend, Sends}, View.letters_in, Things.TurnsSlot}

-- an inbox has one wake of the root at most, and a place for that where it has none; a closed one has no message
pub record IsMailbox (m : Mailbox Subject Subject) : Type 0 where
  pub roots : count_by is_wake_root m.inbox.messages ≤ 1
  pub empty : m.inbox.closed ≡ true → m.inbox.messages ≡ []
  pub place : count_by is_wake_root m.inbox.messages ≡ 0 → length m.inbox.messages < m.inbox.places

module _ {B : Type 0} where
  -- there is a place for the one message of each inbox
  abbrev pub HaveMailboxes : Shared B → Type 0
  HaveMailboxes s = (j : ℕ) (chair : Chair) → slice_get s.seats.items j ≡ Some chair → IsMailbox chair.mailbox

  -- the first of the letters that it owes is sent
  pub record SendsLetter (b : AfterCancels) (w w' : Worker) (s s' : Shared B) (e : Event) : Type 0 where
    pub letter : Letter
    pub first : slice_get (letters_in w.letters) 0 ≡ Some letter
    pub left : Letters
    pub later : letters_in left ≡ drop 1 (letters_in w.letters)
    pub sends : Sends letter.to letter.message (AfterSend.Cancels b) (record w { letters = left }) w' s s' e

  -- FORWARDS: task t asks the worker that has request k, or sleeper z, to send it the end

  pub record MayAskOutput (t k : ℕ) (s : Shared B) : Type 0 where
    pub there : t < length s.tasks.items
    pub known : k < length s.requests.items
    pub may : (r : Record) → slice_get s.requests.items k ≡ Some r → MaySend r.shown.worker (ForwardRequest k) s

  pub record AsksOutput (t k : ℕ) (w w' : Worker) (s s' : Shared B) (e : Event) : Type 0 where
    pub slot : TaskSlot B
    pub there : slice_get s.tasks.items t ≡ Some slot
    pub r : Record
    pub request : slice_get s.requests.items k ≡ Some r
    pub middle : Shared B
    pub kept : middle ≡ record s { tasks = middle.tasks; requests = middle.requests }
    pub tasks : middle.tasks.items ≡ slice_set s.tasks.items t (record slot { waiting = Waiting.Request k; output = Open })
    pub requests : middle.requests.items ≡ slice_set s.requests.items k (forwarded_for t r)
    pub sends : Sends r.shown.worker (ForwardRequest k) (AfterSend.Pend t) w w' middle s' e

  pub record MayAskEnd (z : ℕ) (s : Shared B) : Type 0 where
    pub known : z < length s.sleepers.items
    pub may : (it : SleeperRecord) → slice_get s.sleepers.items z ≡ Some it → MaySend it.shown.worker (ForwardTimer z) s

  pub record AsksEnd (t z : ℕ) (w w' : Worker) (s s' : Shared B) (e : Event) : Type 0 where
    pub it : SleeperRecord
    pub sleeper : slice_get s.sleepers.items z ≡ Some it
    pub middle : Shared B
    pub kept : middle ≡ record s { sleepers = middle.sleepers }
    pub sleepers : middle.sleepers.items ≡ slice_set s.sleepers.items z (sleeper_forwarded it)
    pub sends : Sends it.shown.worker (ForwardTimer z) (AfterSend.Pend t) w w' middle s' e

  -- WHAT WAS SENT

  -- the poll ends next
  pub record HearsNothing (t : ℕ) (w w' : Worker) (s s' : Shared B) (e : Event) : Type 0 where
    pub event : e ≡ Turn
    pub worker : w' ≡ record w { place = at.Poll t poll.Pend }
    pub same : s' ≡ s

  -- request k is over, and its output lies with task t, which holds it
  pub record HasAnswer (t : ℕ) (r : Record) (s : Shared B) : Type 0 where
    pub outcome : Outcome
    pub over : r.shown.phase ≡ Resolved outcome
    pub output : RequestOutput
    pub lies : OfSlot t s (λ slot. slot.output ≡ Full (Ok output))
    pub holds : OfSlot t s (λ slot. 0 < length slot.held.items)

  pub record MayHearOutput (t k : ℕ) (s : Shared B) : Type 0 where
    pub there : t < length s.tasks.items
    pub known : k < length s.requests.items
    pub answer : (r : Record) → slice_get s.requests.items k ≡ Some r → r.sent ≡ true → HasAnswer t r s

  -- task t takes the output of request k that was sent to it
  pub record TakesAnswer (t k : ℕ) (r : Record) (w w' : Worker) (s s' : Shared B) (e : Event) : Type 0 where
    pub slot : TaskSlot B
    pub there : slice_get s.tasks.items t ≡ Some slot
    pub outcome : Outcome
    pub over : r.shown.phase ≡ Resolved outcome
    pub event : e ≡ Got k outcome
    pub worker : w' ≡ record w { place = at.Poll t poll.Act }
    pub output : RequestOutput
    pub lies : slot.output ≡ Full (Ok output)
    pub slot' : TaskSlot B
    pub took : slot' ≡ record slot { held = slot'.held; waiting = Waiting.Nothing; told = Some (Said.Output output); output = Shut }
    pub held : slot'.held.items ≡ take (length slot.held.items - 1) slot.held.items
    pub tasks : s'.tasks.items ≡ slice_set s.tasks.items t slot'
    pub requests : s'.requests.items ≡ slice_set s.requests.items k (unobserved r)
    pub kept : s' ≡ record s { tasks = s'.tasks; requests = s'.requests }

  -- it looks for that
  pub record HearsOutput (t k : ℕ) (w w' : Worker) (s s' : Shared B) (e : Event) : Type 0 where
    pub r : Record
    pub request : slice_get s.requests.items k ≡ Some r
    pub heard : r.sent ≡ true → TakesAnswer t k r w w' s s' e
    pub unheard : r.sent ≡ false → HearsNothing t w w' s s' e

  -- task t takes the end of sleeper z
  pub record TakesSleep (t z : ℕ) (w w' : Worker) (s s' : Shared B) (e : Event) : Type 0 where
    pub event : e ≡ GotTimer z
    pub worker : w' ≡ record w { place = at.Poll t poll.Act }
    pub task : TurnsSlot t s s' slept_slot

  pub record MayHearEnd (t z : ℕ) (s : Shared B) : Type 0 where
    pub there : t < length s.tasks.items
    pub known : z < length s.sleepers.items

  pub record HearsEnd (t z : ℕ) (w w' : Worker) (s s' : Shared B) (e : Event) : Type 0 where
    pub it : SleeperRecord
    pub sleeper : slice_get s.sleepers.items z ≡ Some it
    pub heard : it.sent ≡ true → TakesSleep t z w w' s s' e
    pub unheard : it.sent ≡ false → HearsNothing t w w' s s' e
