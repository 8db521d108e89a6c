-- Shared and exclusive queues: what the calls of both do.
--
-- An exclusive queue has no table: its first seat and then its owner hold it whole, and no thief has a seat at it.
use Rattle.std.specs.Prelude.{◌≡◌, ◌≢◌, ℕ, ◌-◌, List, [], length, drop, Option, Some, None}
use Rattle.atomic_table.specs.Seated.{TableId}
use Rattle.exec_live_queue.specs.{declared.{view.{Stage.{Stage, TheVariants.Owns}, Own.Own, Theft.Theft}, owner.Owner.{Owner, Owner as owner}, queue.{Queue.{Queue, Queue as queue}, QueueSeat.{QueueSeat, QueueSeat as seat}}}, Alone.starting, Live.{opened, unread}, Plays.newcomer, Calls.{AfterInto, AfterPush, AfterSteal, HasLooked, fully}}
use Rattle.exec_words.specs.{Queue.{Queue as Plain, room_of, fit_of, push_answer, after_push, newest}, Head.room_at, declared.queue.{PushAnswer.PushAnswer, Steal.{Steal, Steal as steal}}}
use Rattle.exec_words.specs.declared.queue.PushAnswer.TheVariants as answer

module _ {T : Type 0} where
  -- what an overflow still has to hand out
  abbrev pub handed : Owner T → List T
  handed (owner.Shared o) = o.handed
  handed (owner.Exclusive o) = o.handed

  -- what a call does: this to a shared queue as its owner knows it, that to an exclusive queue; the queue stays the same one
  abbrev pub Does : (Own T → Own T → Type 0) → (Plain T → Plain T → Type 0) → Owner T → Owner T → Type 0
  Does R S (owner.Shared o) (owner.Shared o') = (o'.table ≡ o.table) × R o.own o'.own
  Does R S (owner.Exclusive o) (owner.Exclusive o') = S o.queue o'.queue
  Does R S o o' = ⊥

  -- nothing changed but for what the owner of a shared queue saw
  abbrev pub Looks : Owner T → Owner T → Type 0
  Looks o o' = Does HasLooked (λ q q'. q' ≡ q) o o'

  -- the queue had no value by the head that its owner saw last
  abbrev pub IsDrained : Owner T → Type 0
  IsDrained (owner.Shared o) = o.own.saw_real ≡ o.own.tail
  IsDrained (owner.Exclusive o) = o.queue.values ≡ []

  -- how many values there were by that head
  abbrev pub count : Owner T → ℕ
  count (owner.Shared o) = o.own.tail - o.own.saw_real
  count (owner.Exclusive o) = length o.queue.values

  -- how many more values fitted by that head
  abbrev pub room : Owner T → ℕ
  room (owner.Shared o) = room_at record { real = o.own.saw_real; gap = o.own.saw_gap } o.own.tail
  room (owner.Exclusive o) = room_of o.queue

  -- what a push of x answers and does
  abbrev pub IsPushed : Owner T → T → Owner T → PushAnswer T → Type 0
  IsPushed o x o' answer = Does (λ d d'. AfterPush d x d' answer) (λ q q'. (answer ≡ push_answer (fit_of q) x) × (q' ≡ after_push (fit_of q) q x)) o o'

  -- the newest half of a full queue, and what is handed out after a push
  abbrev pub newest_of : Owner T → List T
  newest_of (owner.Shared o) = drop 128 (fully o.own)
  newest_of (owner.Exclusive o) = newest o.queue

  abbrev pub handed_by : Owner T → PushAnswer T → List T
  handed_by o (answer.Overflow x) = newest_of o
  handed_by o push = []

  -- a shared queue whose first value gets this count
  abbrev pub StartsAt : ℕ → Queue T → Type 0
  StartsAt start (queue.Shared q) = q.start ≡ start
  StartsAt start (queue.Exclusive a) = ⊥

  -- the queue's first seat, as it was made
  abbrev pub first_of : Queue T → QueueSeat T
  first_of (queue.Shared q) = seat.Shared record { table = q.table; view = opened q.start }
  first_of (queue.Exclusive a) = seat.Exclusive record { alloc = a }

  -- the owner of a queue into which nothing was put
  abbrev pub begun : Queue T → Owner T
  begun (queue.Shared q) = owner.Shared record { table = q.table; own = (opened q.start).own; handed = [] }
  begun (queue.Exclusive a) = owner.Exclusive (starting 0)

  -- a seat at this queue, which is shared
  abbrev pub IsSeat : Queue T → QueueSeat T → Type 0
  IsSeat (queue.Shared q) (seat.Shared s) = s.table ≡ q.table
  IsSeat q s = ⊥

  -- the table of a shared queue, and the one at which a seat is; an exclusive queue has none
  abbrev pub table_of : Queue T → Option TableId
  table_of (queue.Shared q) = Some q.table
  table_of (queue.Exclusive a) = None

  abbrev pub seated_at : QueueSeat T → Option TableId
  seated_at (seat.Shared s) = Some s.table
  seated_at (seat.Exclusive s) = None

  -- where a seat stands; that of an exclusive queue is the owner's
  abbrev pub stage_of : QueueSeat T → Stage
  stage_of (seat.Shared s) = s.view.stage
  stage_of (seat.Exclusive s) = Owns

  -- a thief's seat at this queue, which is shared then
  abbrev pub IsThief : Queue T → QueueSeat T → Type 0
  IsThief q s = (seated_at s ≡ table_of q) × (stage_of s ≢ Owns)

  -- that of a thief which has seen nothing
  abbrev pub IsNewcomer : Queue T → QueueSeat T → Type 0
  IsNewcomer (queue.Shared q) s = s ≡ seat.Shared record { table = q.table; view = newcomer }
  IsNewcomer (queue.Exclusive a) s = ⊥

  -- what a thief keeps
  abbrev pub theft : QueueSeat T → Theft T
  theft (seat.Shared s) = s.view.theft
  theft (seat.Exclusive s) = unread

  -- what one try of a steal does to the thief's own queue: an exclusive one takes nothing
  abbrev pub IsStolen : Owner T → Theft T → Owner T → Theft T → Steal → Type 0
  IsStolen o t o' t' answer = Does (λ d d'. AfterSteal d t d' t' answer) (λ q q'. (q' ≡ q) × (t' ≡ t) × (answer ≡ steal.Nothing)) o o'

  -- what a whole steal does, whose last try moved so many values
  abbrev pub IsStolenInto : Owner T → Theft T → Owner T → Theft T → ℕ → Type 0
  IsStolenInto o t o' t' n = Does (λ d d'. AfterInto d t d' t' n) (λ q q'. (q' ≡ q) × (t' ≡ t) × (n ≡ 0)) o o'
