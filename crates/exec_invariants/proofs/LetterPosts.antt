-- A MESSAGE ABOUT WHAT A WORKER HAS comes into its inbox, which is open: its seat then, and what is seen of that.
use Rattle.exec_invariants.{proofs.{Names.{◌≡◌, ◌++◌, ◌+◌, ◌≤◌, ℕ, Bool, true, false, not, List, [], ◌∷◌, append_assoc, cond, count_by, length, map, Some, refl, sym, ap, ◌∙◌, arith, slice_get, slice_set, if◌then◌else◌, false≢true, length-append, map-append, sum_by-append, has_any, is_wake_root, opens_batch, word_after, next_batch, PureWord, MailMessage, ForwardRequest, ForwardTimer, CancelRequest, CancelTimer, is_root_message, seat_posted, asks, posted, published_if, Things, word_of, mailbox_of, set_mailbox, Chair, Shared, asks_if_sent, chair_sent, Views, Visible, inbox_at, mail_of, message_of, polls_seen, queue_at, seat_seen, things_with, word_at}, Showing.own_word_seen, Posting.{inbox_seen, none_seen, posted_both}}, specs.{Holding.Mail, Spares.SparesChair}}

-- it isn't about the root
pub record IsLetter (m : MailMessage) : Type 0 where
  pub mail : is_wake_root (mail_of m) ≡ false
  pub root : is_root_message m ≡ false
  pub back : message_of (mail_of m) ≡ m

pub forwards_request : (k : ℕ) → IsLetter (ForwardRequest k)
forwards_request k = record { mail = refl; root = refl; back = refl }

pub forwards_timer : (z : ℕ) → IsLetter (ForwardTimer z)
forwards_timer z = record { mail = refl; root = refl; back = refl }

pub cancels_request : (k : ℕ) → IsLetter (CancelRequest k)
cancels_request k = record { mail = refl; root = refl; back = refl }

pub cancels_timer : (z : ℕ) → IsLetter (CancelTimer z)
cancels_timer z = record { mail = refl; root = refl; back = refl }

module _ (m : MailMessage) (letter : IsLetter m) (chair : Chair) (open_box : chair.mailbox.inbox.closed ≡ false) where
  abbrev messages : List Mail
  messages = chair.mailbox.inbox.messages

  -- the seat then
  abbrev pub chair_open : Chair
  chair_open =
      record chair {
        mailbox = record chair.mailbox {
          inbox = record chair.mailbox.inbox { messages = messages ++ mail_of m ∷ []; published = (if opens_batch chair.mailbox.inbox (mail_of m) then next_batch chair.mailbox.inbox.published else chair.mailbox.inbox.published) };
          waker = word_after chair.mailbox.inbox (mail_of m) chair.mailbox.waker;
        };
      }

  pub sent_open : chair_sent m chair ≡ chair_open
  sent_open = grind arith

  one_more : length (messages ++ mail_of m ∷ []) ≡ length messages + 1
  one_more = length-append messages (mail_of m ∷ [])

  same_roots : count_by is_wake_root (messages ++ mail_of m ∷ []) ≡ count_by is_wake_root messages
  same_roots =
      sum_by-append (λ (x : Mail). cond (is_wake_root x) 1 0) messages (mail_of m ∷ []) ∙ ap (λ b. count_by is_wake_root messages + (0 + cond b 1 0)) letter.mail ∙ omega arith

  -- others see it still as their own
  pub open_spares : length messages + 2 ≤ count_by is_wake_root messages + chair.mailbox.inbox.places → SparesChair chair chair_open
  open_spares = grind (arith, same_roots, false≢true, one_more)

  -- WHAT IS SEEN
  pub seat_open : (v : Visible) → seat_seen v chair_open ≡ seat_posted m (seat_seen v chair)
  seat_open = grind (arith, map-append, append_assoc)

  module _ {B : Type 0} (vs : Views) (j : ℕ) (s : Shared B) (there : slice_get s.seats.items j ≡ Some chair) where
    box_seen : mailbox_of (things_with vs s) j ≡ record { messages = map message_of messages; word = chair.mailbox.waker }
    box_seen = ap (λ ms. record { messages = ms; word = word_of (things_with vs s) j }) (inbox_seen vs j s chair there) ∙ ap (λ w. record { messages = map message_of messages; word = w }) (own_word_seen j s chair there)

    pub posted_open : posted m (mailbox_of (things_with vs s) j) ≡ record { messages = inbox_at chair_open; word = chair_open.mailbox.waker }
    posted_open = grind (arith, box_seen, letter.root, letter.back, map-append message_of messages (mail_of m ∷ []), none_seen messages, published (has_any messages) chair.mailbox.waker)
      where
        published : (b : Bool) (w : PureWord) → published_if (not b) w ≡ (if not b then record w { batch = next_batch w.batch } else w)
        published true w = refl
        published false w = refl

    pub asks_open : asks (mailbox_of (things_with vs s) j) ≡ asks_if_sent m chair.mailbox
    asks_open = grind (arith, box_seen, none_seen messages, open_box)

    -- the inbox and the wake word show it
    pub things_open : (seats : List Chair) → seats ≡ slice_set s.seats.items j chair_open
        → (x : Things) → x ≡ record (things_with vs s) { queues = map queue_at seats; words = map word_at seats; inboxes = map inbox_at seats; wake_polls = polls_seen vs.workers seats } → x ≡ set_mailbox j (things_with vs s) (posted m (mailbox_of (things_with vs s) j))
    things_open seats set x shown = posted_both vs j s seats chair chair_open there set refl refl x shown ∙ ap (λ b. set_mailbox j (things_with vs s) b) (sym posted_open)
