-- Seats after an event of a worker: none is lost, and a message stays under way but where it is applied.
use Rattle.std.{proofs.{Common.{◌≡◌, ℕ, ◌<◌, ◌≤◌, ◌&&◌, Bool, true, false, List, [], ◌∷◌, ◌++◌, length, Option, Some, refl, ap, inl, inr, arith, get_or, set, if◌then◌else◌}, lemmas.{Bool.{false≢true, cases_Bool, or_cases, or_left, or_right}, List.{get_or_append_left, get_or-set_same, length-append, length-set}}}, specs.{Prelude.drop, List.list_any}}
use Rattle.exec_machine.specs.{declared.{config.Configuration.Configuration, event.Event.{Event, Event as event}, state.{MailMessage.{MailMessage, MailMessage as message}, Next.{Next, Next as next}, WorkerPhase.WorkerPhase as worker}}, After.common_after, Allowed.Allowed, Choice.{Choice, Choice.{Plain, Passes, Pays, Posts}}, Closing.{after_clear, after_next, ends_by_clear, with_closed_mailbox}, Deadlines.rest_until, Mail.{after_apply, after_message, after_post, after_sending, is_first_message, is_left_out, is_root_message, posted}, Same.same_message, Tasks.{after_pend, after_wake, after_word}, World.{Common, Own as Books, Seat, no_seat, seat_of, task_of}}
use Rattle.exec_books.{specs.Booked.IsUnderWay, proofs.CountedTurns.each_set}
use Rattle.exec_machine.specs.declared.state.Rest.TheVariants as rest

-- A MESSAGE IN AN INBOX

pub in_front : (p : MailMessage → Bool) (xs more : List MailMessage) → list_any p xs ≡ true → list_any p (xs ++ more) ≡ true
in_front p [] more h = absurd (false≢true h)
in_front p (x ∷ xs) more h = elim (or_cases (p x) (list_any p xs) h) [
  | inl this ↦ or_left (p x) (list_any p (xs ++ more)) this
  | inr later ↦ or_right (p x) (list_any p (xs ++ more)) (in_front p xs more later)
]

pub in_last : (p : MailMessage → Bool) (m : MailMessage) (xs : List MailMessage) → p m ≡ true → list_any p (xs ++ m ∷ []) ≡ true
in_last p m [] is = or_left (p m) false is
in_last p m (x ∷ xs) is = or_right (p x) (list_any p (xs ++ m ∷ [])) (in_last p m xs is)

-- the first was another one
in_rest : (m n : MailMessage) (xs : List MailMessage) (seat : Seat) → seat.inbox ≡ xs → same_message m n ≡ false → is_first_message n seat ≡ true → list_any (same_message m) xs ≡ true → list_any (same_message m) (drop 1 xs) ≡ true
in_rest = grind arith

-- COMMON PARTS

-- no seat is lost, and message m stays under way
pub record Way (m : MailMessage) (s late : Common) : Type 0 where
  pub many : length s.seats ≤ length late.seats
  pub under : (j : ℕ) → j < length s.seats → IsUnderWay m (seat_of s j) → IsUnderWay m (seat_of late j)

way_then : {m : MailMessage} {s late later : Common} → Way m s late → Way m late later → Way m s later
way_then = grind arith

seats_same : {m : MailMessage} {s late : Common} → late.seats ≡ s.seats → Way m s late
seats_same = grind arith

seat_set : {m : MailMessage} {s : Common} (i : ℕ) (y : Seat) → (IsUnderWay m (seat_of s i) → IsUnderWay m y) → Way m s (record s { seats = set s.seats i y })
seat_set {m} {s} i y here =
    record {
      many = omega (arith, length-set s.seats i y);
      under = λ j within. each_set no_seat (λ n x z. IsUnderWay m x → IsUnderWay m z) s.seats i y (λ n apart x h. h) here (λ n h. h) j;
    }

either : {m : MailMessage} {s : Common} (b : Bool) (y z : Common) → Way m s y → Way m s z → Way m s (if b then y else z)
either = grind arith

pub word_same : (s : Common) (polls : Option ℕ) → (after_word s polls).seats ≡ s.seats
word_same = grind arith

pub wake_same : (me : Books) (s : Common) (t : ℕ) (choice : Choice) → (after_wake me s t choice).seats ≡ s.seats
wake_same = grind arith

pub sending_same : (s : Common) (polls : Option ℕ) (m : MailMessage) → (after_sending s polls m).seats ≡ s.seats
sending_same = grind arith

pub message_same : (me : Books) (s : Common) (m : MailMessage) → (after_message me s m).seats ≡ s.seats
message_same = grind arith

pub pend_same : (s : Common) (i t : ℕ) → (after_pend s i t).seats ≡ s.seats
pend_same s i t = elim (cases_Bool (task_of s t).cleared) [ inl over ↦ rw over refl | inr stays ↦ rw stays refl ]

pub clear_same : (s : Common) (i t : ℕ) → (after_clear s i t).seats ≡ s.seats
clear_same s i t = elim (cases_Bool (ends_by_clear (task_of s t).phase)) [ inl ends ↦ rw ends refl | inr stays ↦ rw stays refl ]

module _ (m : MailMessage) where
  next_way : (s : Common) (i : ℕ) (n : Next) → Way m s (after_next s i n)
  next_way s i next.Free = seats_same refl
  next_way s i (next.Joins r) = seats_same refl
  next_way s i next.ClosesQueue = seats_same refl
  next_way s i next.ClosesMailbox = seat_set i (with_closed_mailbox (seat_of s i)) (λ h. inr refl)

  post_way : (s : Common) (to : ℕ) (n : MailMessage) (choice : Choice) → Way m s (after_post s to n choice)
  post_way s to n choice =
      either (is_root_message n && is_left_out choice) s (record s { seats = set s.seats to (posted n (seat_of s to)) }) (seats_same refl) (seat_set to (posted n (seat_of s to)) joins)
    where
      joins : IsUnderWay m (seat_of s to) → IsUnderWay m (posted n (seat_of s to))
      joins (inl there) = inl (in_front (same_message m) (seat_of s to).inbox (n ∷ []) there)
      joins (inr shut) = inr shut

  apply_way : (me : Books) (s : Common) (i : ℕ) (n : MailMessage) → same_message m n ≡ false → is_first_message n (seat_of s i) ≡ true → Way m s (after_apply me s i n)
  apply_way me s i n other first =
      let y : Seat = record (seat_of s i) { inbox = drop 1 (seat_of s i).inbox } in
      let moves : Way m s (record s { seats = set s.seats i y }) = seat_set i y takes in
      way_then moves (seats_same (ap (λ xs. set xs i y) (message_same me s n)))
    where
      takes : IsUnderWay m (seat_of s i) → IsUnderWay m (record (seat_of s i) { inbox = drop 1 (seat_of s i).inbox })
      takes (inl there) = inl (in_rest m n (seat_of s i).inbox (seat_of s i) refl other first there)
      takes (inr shut) = inr shut

-- EACH EVENT

-- what is applied
abbrev pub takes_from : MailMessage → Event → Bool
takes_from m (event.Apply n) = same_message m n
takes_from m _ = false

module _ (c : Configuration) (me : Books) (s : Common) (i : ℕ) (m : MailMessage) where
  dedicated_way : (t j : ℕ) (choice : Choice) → Way m s (common_after c me s i (event.Dedicated t j) choice)
  dedicated_way = grind (arith, length-append, get_or_append_left)

  way : (e : Event) (choice : Choice) → Allowed c me s i e choice → takes_from m e ≡ false → Way m s (common_after c me s i e choice)
  way event.Turn Plain h other = next_way m s i me.next
  way event.Turn Passes h other = seat_set i (record (seat_of s i) { left = true }) (λ was. was)
  way event.Turn (Pays payer) h other = next_way m s i me.next
  way event.Turn (Posts payer left_out) h other = next_way m s i me.next
  way (event.Pend t) choice h other = seats_same (pend_same s i t)
  way (event.Spawn t k) choice h other = seats_same (word_same s me.polls)
  way (event.Dedicated t j) choice h other = dedicated_way t j choice
  way event.Closed choice h other = seats_same (word_same s me.polls)
  way (event.Clear t) choice h other = seats_same (clear_same s i t)
  way (event.Wait (Some r)) choice h other = seats_same refl
  way (event.Wake t) choice h other = seats_same (wake_same me s t choice)
  way event.Busy choice h other = seat_set i (record (seat_of s i) { busy = false }) (λ was. was)
  way (event.Reap r n outcome) choice h other =
      let y : Seat = record (seat_of s i) { landed = drop 1 (seat_of s i).landed } in
      let moves : Way m s (record s { seats = set s.seats i y }) = seat_set i y (λ was. was) in way_then moves (seats_same refl)
  way (event.Send to n) choice h other = way_then (seats_same (sending_same s me.polls n)) (post_way m (after_sending s me.polls n) to n choice)
  way (event.Apply n) choice h other = apply_way m me s i n other h.1.1.0
  way (event.Rouse j) choice h other = seat_set j (record (seat_of s j) { rest = rest.Awake }) (λ was. was)
  way (event.Sleep until) choice h other = seat_set i (record (seat_of s i) { rest = rest_until until }) (λ was. was)
  way event.Close choice h other =
      let y : Seat = record (seat_of s i) { phase = worker.Closing } in
      let moves : Way m s (record s { seats = set s.seats i y }) = seat_set i y (λ was. was) in way_then moves (seats_same refl)
  way event.End choice h other =
      let y : Seat = record (seat_of s i) { phase = worker.Ended; inbox = [] } in
      let moves : Way m s (record s { seats = set s.seats i y }) = seat_set i y (λ was. inr h.1.1.0) in way_then moves (seats_same refl)
  way _ choice h other = seats_same refl

  pub stays_under_way : (e : Event) (choice : Choice) → Allowed c me s i e choice → takes_from m e ≡ false → (j : ℕ) → j < length s.seats → IsUnderWay m (seat_of s j)
      → IsUnderWay m (seat_of (common_after c me s i e choice) j)
  stays_under_way e choice h other = (way e choice h other).under

-- what was posted is there
pub posted_there : (s : Common) (to : ℕ) (m n : MailMessage) → same_message m n ≡ true → to < length s.seats → IsUnderWay m (get_or (set s.seats to (posted n (seat_of s to))) to no_seat)
posted_there = grind (arith, get_or-set_same, in_last)

-- no seat is lost: a message that isn't applied tells it too
pub no_fewer_seats : (c : Configuration) (me : Books) (s : Common) (i : ℕ) (e : Event) (choice : Choice) → Allowed c me s i e choice → length s.seats ≤ length (common_after c me s i e choice).seats
no_fewer_seats c me s i (event.Apply message.Root) choice h = (way c me s i (message.ForwardRequest 0) (event.Apply message.Root) choice h refl).many
no_fewer_seats c me s i (event.Apply (message.ForwardRequest r)) choice h = (way c me s i message.Root (event.Apply (message.ForwardRequest r)) choice h refl).many
no_fewer_seats c me s i (event.Apply (message.ForwardTimer z)) choice h = (way c me s i message.Root (event.Apply (message.ForwardTimer z)) choice h refl).many
no_fewer_seats c me s i (event.Apply (message.CancelRequest r)) choice h = (way c me s i message.Root (event.Apply (message.CancelRequest r)) choice h refl).many
no_fewer_seats c me s i (event.Apply (message.CancelTimer z)) choice h = (way c me s i message.Root (event.Apply (message.CancelTimer z)) choice h refl).many
no_fewer_seats c me s i e choice h = (way c me s i message.Root e choice h refl).many
