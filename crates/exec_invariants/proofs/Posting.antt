-- What a message that wakes the root of a worker makes of its seat, and what is seen of that.
--
-- Into a closed inbox it doesn't go, beside another one it is left out, and else it is the first of a batch, or joins one.
use Rattle.exec_invariants.{specs.{Holding.Mail, Spares.SparesChair}, proofs.{Words.{◌≡◌, ◌++◌, ℕ, Bool, true, false, not, List, [], ◌∷◌, append_assoc, cond, count_by, map, Some, refl, sym, ap, ◌∙◌, arith, slice_get, slice_set, option_map, false≢true, map-append, set-get_or, list_any-append, sum_by-append, get_or_from_slice_get, slice_get-map, list_any, has_any, is_wake_root, asks_signal, next_batch, Message, Box, PureWord, Event, Closed, Send, Root, Choice, Payer, Plain, Posts, has_root_message, is_root_message, seat_posted as posted, is_empty, Common, Seat, seat_of, Mailbox, posting, Things, inbox_of, mailbox_of, set_inbox, set_mailbox, set_word, Subject, Chair, Shared, asks_if_sent, chair_sent, event_sent, Views, Visible, inbox_at, message_of, polls_seen, queue_at, seat_seen, things_with, word_at, or_right, none_any}, Showing.{map_kept, map_set, own_word_seen, polls_kept}, Aside.spared, Turning.set_found}}

-- WHAT STANDS IN AN INBOX, and what is seen of it

pub roots_seen : (ms : List Mail) → list_any is_root_message (map message_of ms) ≡ list_any is_wake_root ms
roots_seen [] = refl
roots_seen (Message.WakeRoot ∷ ms) = refl
roots_seen (Message.Forward (Subject.Request k) ∷ ms) = roots_seen ms
roots_seen (Message.Forward (Subject.Timer n) ∷ ms) = roots_seen ms
roots_seen (Message.Cancel (Subject.Request k) ∷ ms) = roots_seen ms
roots_seen (Message.Cancel (Subject.Timer n) ∷ ms) = roots_seen ms

pub none_seen : (ms : List Mail) → is_empty (map message_of ms) ≡ not (has_any ms)
none_seen [] = refl
none_seen (m ∷ ms) = refl

one_root : (ms : List Mail) → list_any is_wake_root ms ≡ false → count_by is_wake_root (ms ++ Message.WakeRoot ∷ []) ≡ 1
one_root ms none = omega (arith, sum_by-append (λ x. cond (is_wake_root x) 1 0) ms (Message.WakeRoot ∷ []), none_any is_wake_root ms none)

empty_by : (ms : List Mail) → has_any ms ≡ false → ms ≡ []
empty_by [] none = refl
empty_by (m ∷ ms) none = absurd (false≢true (sym none))

-- WHICH OF THE FOUR IT IS

pub data Arrival : Type 0 where
  Shut : Arrival
  LeftOut : Arrival
  First : Arrival
  More : Arrival

-- so stands the inbox
abbrev pub IsArrival : Arrival → Box Subject Subject → Type 0
IsArrival Arrival.Shut m = m.inbox.closed ≡ true
IsArrival Arrival.LeftOut m = (m.inbox.closed ≡ false) × (list_any is_wake_root m.inbox.messages ≡ true)
IsArrival Arrival.First m = (m.inbox.closed ≡ false) × (m.inbox.messages ≡ [])
IsArrival Arrival.More m = (m.inbox.closed ≡ false) × (has_any m.inbox.messages ≡ true) × (list_any is_wake_root m.inbox.messages ≡ false)

pub arrival : (m : Box Subject Subject) → (a : Arrival) × IsArrival a m
arrival m = by m.inbox.closed refl
  where
    among : m.inbox.closed ≡ false → (root some : Bool) → list_any is_wake_root m.inbox.messages ≡ root → has_any m.inbox.messages ≡ some → (a : Arrival) × IsArrival a m
    among is true some root any = (Arrival.LeftOut, (is, root))
    among is false true root any = (Arrival.More, (is, any, root))
    among is false false root any = (Arrival.First, (is, empty_by m.inbox.messages any))

    by : (b : Bool) → m.inbox.closed ≡ b → (a : Arrival) × IsArrival a m
    by true is = (Arrival.Shut, is)
    by false is = among is (list_any is_wake_root m.inbox.messages) (has_any m.inbox.messages) refl refl

-- THE SEAT THEN

abbrev pub box_first : Box Subject Subject → Box Subject Subject
box_first m =
    record m {
      inbox = record m.inbox { messages = Message.WakeRoot ∷ []; published = next_batch m.inbox.published };
      waker = record m.waker { batch = next_batch m.waker.batch };
    }

abbrev pub box_more : Box Subject Subject → Box Subject Subject
box_more m = record m { inbox = record m.inbox { messages = m.inbox.messages ++ Message.WakeRoot ∷ [] } }

abbrev pub chair_by : Arrival → Chair → Chair
chair_by Arrival.First chair = record chair { mailbox = box_first chair.mailbox }
chair_by Arrival.More chair = record chair { mailbox = box_more chair.mailbox }
chair_by Arrival.Shut chair = chair
chair_by Arrival.LeftOut chair = chair

some_mail : (ms : List Mail) → list_any is_wake_root ms ≡ true → has_any ms ≡ true
some_mail [] h = absurd (false≢true h)
some_mail (m ∷ ms) h = refl

pub posted_as : (a : Arrival) (chair : Chair) → IsArrival a chair.mailbox → chair_sent Root chair ≡ chair_by a chair
posted_as = grind arith

-- a signal is asked for by the first alone, where its worker waits and nobody has signalled it
abbrev pub asks_by : Arrival → Box Subject Subject → Bool
asks_by Arrival.First m = asks_signal m.waker
asks_by _ m = false

pub asks_as : (a : Arrival) (m : Box Subject Subject) → IsArrival a m → asks_if_sent Root m ≡ asks_by a m
asks_as = grind arith

-- what its worker relies on stays
pub posted_spares : (a : Arrival) (chair : Chair) → IsArrival a chair.mailbox → SparesChair chair (chair_by a chair)
posted_spares = grind (arith, spared, false≢true, one_root)

-- WHAT IS SEEN

-- what the machine makes of the seat, and what the choice leaves open
abbrev pub seat_by : Arrival → Seat → Seat
seat_by Arrival.First seat = posted Root seat
seat_by Arrival.More seat = posted Root seat
seat_by _ seat = seat

abbrev pub left_out_by : Arrival → Bool
left_out_by Arrival.LeftOut = true
left_out_by _ = false

abbrev pub choice_by : Arrival → Payer → Choice
choice_by Arrival.Shut payer = Plain
choice_by a payer = Posts payer (left_out_by a)

abbrev pub event_by : ℕ → Arrival → Event
event_by j Arrival.Shut = Closed
event_by j a = Send j Root

abbrev pub mailbox_by : Arrival → Mailbox → Mailbox
mailbox_by Arrival.First m = record { messages = Root ∷ []; word = record m.word { batch = next_batch m.word.batch } }
mailbox_by Arrival.More m = record m { messages = m.messages ++ Root ∷ [] }
mailbox_by _ m = m

pub event_as : (j : ℕ) (a : Arrival) (m : Box Subject Subject) → IsArrival a m → event_sent j Root m ≡ event_by j a
event_as = grind arith

pub seat_as : (a : Arrival) (v : Visible) (chair : Chair) → IsArrival a chair.mailbox → seat_seen v (chair_by a chair) ≡ seat_by a (seat_seen v chair)
seat_as = grind (arith, append_assoc, map-append)

-- a wake of the root that is left out stands beside another
pub root_message_as : (v : Visible) (chair : Chair) → IsArrival Arrival.LeftOut chair.mailbox → has_root_message (seat_seen v chair) ≡ true
root_message_as = grind (arith, list_any-append, or_right, roots_seen)

-- the posting of the moves, where this is seen of the seat
pub posting_as : (a : Arrival) (s : Common) (j : ℕ) (payer : Payer) (m : Mailbox) (chair : Chair) (v : Visible) → IsArrival a chair.mailbox → seat_of s j ≡ seat_seen v chair → m.messages ≡ map message_of chair.mailbox.inbox.messages → m.word ≡ chair.mailbox.waker
    → posting s j payer m ≡ record { event = event_by j a; choice = choice_by a payer; signals = asks_by a chair.mailbox; mailbox = mailbox_by a m }
posting_as = grind (arith, roots_seen, none_seen, some_mail)

module _ {B : Type 0} where
  pub inbox_seen : (vs : Views) (j : ℕ) (s : Shared B) (chair : Chair) → slice_get s.seats.items j ≡ Some chair → inbox_of (things_with vs s) j ≡ inbox_at chair
  inbox_seen vs j s chair there = get_or_from_slice_get (map inbox_at s.seats.items) j (inbox_at chair) [] (slice_get-map inbox_at s.seats.items j ∙ ap (option_map inbox_at) there)

  -- nothing of the seat has changed
  unposted : (vs : Views) (j : ℕ) (s : Shared B) (seats : List Chair) (chair : Chair) → slice_get s.seats.items j ≡ Some chair → seats ≡ slice_set s.seats.items j chair
      → (x : Things) → x ≡ record (things_with vs s) { queues = map queue_at seats; words = map word_at seats; inboxes = map inbox_at seats; wake_polls = polls_seen vs.workers seats } → x ≡ set_mailbox j (things_with vs s) (mailbox_of (things_with vs s) j)
  unposted = grind (arith, set_found, set-get_or)

  -- the seat has another mailbox
  pub posted_both : (vs : Views) (j : ℕ) (s : Shared B) (seats : List Chair) (chair its : Chair) → slice_get s.seats.items j ≡ Some chair → seats ≡ slice_set s.seats.items j its → its.queue ≡ chair.queue → its.raised ≡ chair.raised
      → (x : Things) → x ≡ record (things_with vs s) { queues = map queue_at seats; words = map word_at seats; inboxes = map inbox_at seats; wake_polls = polls_seen vs.workers seats } → x ≡ set_word j (set_inbox j (things_with vs s) (inbox_at its)) its.mailbox.waker
  posted_both = grind (arith, map_set, map_kept, polls_kept)

  -- the inbox and the wake word show it
  pub posted_shows : (a : Arrival) (vs : Views) (j : ℕ) (s : Shared B) (seats : List Chair) (chair : Chair) → IsArrival a chair.mailbox → slice_get s.seats.items j ≡ Some chair → seats ≡ slice_set s.seats.items j (chair_by a chair)
      → (x : Things) → x ≡ record (things_with vs s) { queues = map queue_at seats; words = map word_at seats; inboxes = map inbox_at seats; wake_polls = polls_seen vs.workers seats } → x ≡ set_mailbox j (things_with vs s) (mailbox_by a (mailbox_of (things_with vs s) j))
  posted_shows Arrival.Shut vs j s seats chair is there set x shown = unposted vs j s seats chair there set x shown
  posted_shows Arrival.LeftOut vs j s seats chair is there set x shown = unposted vs j s seats chair there set x shown
  posted_shows Arrival.First vs j s seats chair is there set x shown = posted_both vs j s seats chair (chair_by Arrival.First chair) there set refl refl x shown
      ∙ ap (λ (w : PureWord). set_word j (set_inbox j (things_with vs s) (Root ∷ [])) (record w { batch = next_batch w.batch })) (sym (own_word_seen j s chair there))
  posted_shows Arrival.More vs j s seats chair is there set x shown = posted_both vs j s seats chair (chair_by Arrival.More chair) there set refl refl x shown
      ∙ ap (λ ms. set_word j (set_inbox j (things_with vs s) ms) chair.mailbox.waker) (map-append message_of chair.mailbox.inbox.messages (Message.WakeRoot ∷ []) ∙ ap (λ ms. ms ++ Root ∷ []) (sym (inbox_seen vs j s chair there)))
      ∙ ap (λ (w : PureWord). set_word j (set_inbox j (things_with vs s) (inbox_of (things_with vs s) j ++ Root ∷ [])) w) (sym (own_word_seen j s chair there))
