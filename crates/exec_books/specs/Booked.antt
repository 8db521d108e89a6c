-- WHAT A WORKER HAS IS IN ITS BOOKS, in each state of a run: its requests stand in its lists, and what it counts is there.
use Rattle.std.specs.{Prelude.{◌≡◌, ℕ, ◌<◌, Bool, true, false, not, ◌==◌, ◌&&◌, ◌||◌, ◌⊎◌, List, [], length, count_by, slice_get, Some, None}, List.list_any}
use Rattle.exec_machine.specs.{declared.state.{Forwarding.TheVariants.Sent, MailMessage.{MailMessage, MailMessage as message}, Request.Request, Next.Next as next}, Deadlines.{is_after, next_due, rest_until}, Same.{is_number, same_message}, Tests.{has_ended, is_asleep, is_awake, is_gated, is_in_flight, is_of_file, is_resolved}, World.{Common, Open, Seat, World, open_of, own_of, request_of, seat_of, sleeper_of}}
use Rattle.exec_outcomes.specs.Accounts.{is_durable}
use Rattle.exec_books.specs.Listed.{AreListed, is_in}

-- What the first message in the inbox of worker i is about is a request or a sleeper of its own.
abbrev pub IsOwnMessage : Common → ℕ → MailMessage → Type 0
IsOwnMessage s i (message.ForwardRequest r) = (request_of s r).worker ≡ i
IsOwnMessage s i (message.ForwardTimer z) = (sleeper_of s z).worker ≡ i
IsOwnMessage s i (message.CancelRequest r) = (request_of s r).worker ≡ i
IsOwnMessage s i (message.CancelTimer z) = (sleeper_of s z).worker ≡ i
IsOwnMessage s i _ = Unit {0}

abbrev pub FirstIsOwn : Common → ℕ → Type 0
FirstIsOwn s i = (first : MailMessage) → slice_get (seat_of s i).inbox 0 ≡ Some first → IsOwnMessage s i first

-- so many requests of worker i are not released
abbrev pub unreleased_of : ℕ → List Request → ℕ
unreleased_of i rs = count_by (λ r. (r.worker == i) && not r.released) rs

-- so many requests of worker i are in flight
abbrev pub flying_of : ℕ → List Request → ℕ
flying_of i rs = count_by (λ r. (r.worker == i) && is_in_flight r.phase) rs

-- a request has the permit of this open, or waits for it there
abbrev pub stands_at : Open → ℕ → Bool
stands_at o k = is_number k o.holder || is_in k o.waiting

-- where nobody has the permit of this open nobody waits for it
abbrev pub IsLed : Open → Type 0
IsLed o = o.holder ≡ None → o.waiting ≡ []

-- AT THE GATE of its open, where that is there, stands a request that waits for the permit, or joins it by the next line of its
-- worker; and a durable one that neither waits nor is over has the permit.
pub record IsLinedUp (w : World) (k : ℕ) (r : Request) : Type 0 where
  pub durable : is_gated r.phase ≡ true → is_durable r.operation.kind ≡ true
  pub waits : is_gated r.phase ≡ true → r.operation.target < length w.common.opens → (stands_at (open_of w.common r.operation.target) k ≡ true) ⊎ ((own_of w r.worker).next ≡ next.Joins k)
  pub has : is_durable r.operation.kind ≡ true → is_gated r.phase ≡ false → is_resolved r.phase ≡ false → r.operation.target < length w.common.opens → (open_of w.common r.operation.target).holder ≡ Some k

abbrev pub AreLinedUp : World → Type 0
AreLinedUp w = (k : ℕ) → IsLinedUp w k (request_of w.common k)

-- the message is in the inbox, or the mailbox is closed
abbrev pub IsUnderWay : MailMessage → Seat → Type 0
IsUnderWay m seat = (list_any (same_message m) seat.inbox ≡ true) ⊎ (seat.mailbox_closed ≡ true)

pub record IsBooked (w : World) : Type 0 where
  -- each request stands in the lists in which it waits for something
  pub listed : AreListed w
  -- and at the gate of its open, if it is durable
  pub lined_up : AreLinedUp w
  pub led : (file : ℕ) → IsLed (open_of w.common file)
  -- one that is over has no deadline on the wheel, and only such a one is released
  pub timed : (k : ℕ) → is_resolved (request_of w.common k).phase ≡ true → (request_of w.common k).timer ≡ None
  -- a request of a file has no deadline
  pub undated : (k : ℕ) → is_of_file (request_of w.common k).operation.kind ≡ true → ((request_of w.common k).operation.deadline ≡ None) × ((request_of w.common k).timer ≡ None)
  pub let_go : (k : ℕ) → (request_of w.common k).released ≡ true → is_resolved (request_of w.common k).phase ≡ true
  -- a worker counts those that are not released, and those that are in flight
  pub counted : (i : ℕ) → (own_of w i).unreleased ≡ unreleased_of i w.common.requests
  pub flying : (i : ℕ) → (own_of w i).in_flight ≡ flying_of i w.common.requests
  -- a cancel that the kernel wasn't told is of a request of its own
  pub untold : (i k : ℕ) → is_in k (own_of w i).untold ≡ true → (k < length w.common.requests) × ((request_of w.common k).worker ≡ i)
  -- who has ended has no request that is not released, and nobody sleeps there
  pub over : (i : ℕ) → has_ended (seat_of w.common i).phase ≡ true → ((own_of w i).unreleased ≡ 0) × ((z : ℕ) → is_asleep i (sleeper_of w.common z) ≡ false)
  -- each request and each sleeper is of a worker
  pub requests : (k : ℕ) → k < length w.common.requests → (request_of w.common k).worker < length w.common.seats
  pub sleepers : (z : ℕ) → z < length w.common.sleepers → (sleeper_of w.common z).worker < length w.common.seats
  -- where it was sent that a task waits for one elsewhere, that is under way until it is applied
  pub sent : (k : ℕ) → (request_of w.common k).forwarding ≡ Sent → IsUnderWay (message.ForwardRequest k) (seat_of w.common (request_of w.common k).worker)
  pub sent_too : (z : ℕ) → (sleeper_of w.common z).forwarding ≡ Sent → IsUnderWay (message.ForwardTimer z) (seat_of w.common (sleeper_of w.common z).worker)
  -- who sleeps does so until what is due next, which is ahead
  pub dues : (i : ℕ) → is_awake (seat_of w.common i).rest ≡ false → ((seat_of w.common i).rest ≡ rest_until (next_due w.common i)) × (is_after w.common.clock (next_due w.common i) ≡ true)
