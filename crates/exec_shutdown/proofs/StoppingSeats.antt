-- What an event of a worker leaves of each seat, as far as stopping goes.
use Rattle.std.{proofs.{Common.{◌≡◌, ℕ, zero, suc, ◌<◌, Bool, true, false, not, ◌&&◌, ◌||◌, List, [], ◌∷◌, ◌++◌, length, Option, Some, None, refl, sym, ap, ◌∙◌, subst, inl, inr, arith, get_or, set, if◌then◌else◌}, lemmas.Bool.{true≢false, false≢true, and_parts}}, specs.{Prelude.{◌⊎◌, drop}, List.{list_all, list_any}}}
use Rattle.exec_machine.specs.{declared.{config.Configuration.Configuration, event.Event.{Event, Event as event}, state.{MailMessage.{MailMessage, MailMessage as message}, Next.{Next, Next as next}, WorkerPhase.{WorkerPhase, WorkerPhase as worker}}}, After.common_after, Allowed.Allowed, Callers.is_held, Choice.{Choice, Choice.{Plain, Passes, Pays, Posts}}, Closing.{after_next, with_closed_mailbox}, Deadlines.rest_until, Mail.{after_post, after_sending, has_root_message, is_first_message, is_left_out, is_root_message, posted}, Same.is_none, Tasks.new_seat, Tests.{all_left, has_ended, is_at_large, is_awake, is_closing, is_done, is_empty, is_open, is_settled}, World.{Common, Own as Books, Seat, no_seat, seat_of, task_of}}
use Rattle.exec_rest.proofs.Rest.{all_at}
use Rattle.exec_books.proofs.{CountedSeats.{clear_same, in_front, message_same, pend_same, sending_same, wake_same, word_same}, CountedTurns.each_set}
use Rattle.exec_machine.specs.declared.state.Rest.TheVariants as rest

-- THE OWN PART of a worker that is at large

nothing : {X : Type 0} (o : Option X) → is_none o ≡ true → o ≡ None
nothing = grind (arith, false≢true)

empty : {X : Type 0} (xs : List X) → is_empty xs ≡ true → xs ≡ []
empty = grind (arith, false≢true)

pub at_large : (me : Books) → is_at_large me ≡ true → (me.polls ≡ None) × (me.owed ≡ [])
at_large me h =
    let parts = and_parts (is_none me.polls && is_empty me.owed) (is_settled me.next) h in
    let both = and_parts (is_none me.polls) (is_empty me.owed) parts.0 in (nothing me.polls both.0, empty me.owed both.1)

pub closing_shut : (p : WorkerPhase) → is_closing p ≡ true → is_open p ≡ false
closing_shut = grind arith

-- A SEAT

-- who sleeps, has ended, or has passed the barrier as one of the pool
abbrev pub is_through : Seat → Bool
is_through seat = not (is_awake seat.rest) || has_ended seat.phase || (seat.pool && seat.left)

-- A worker that is held at the barrier was held there before, where it had passed that, and nobody goes back.
still_waits : (pool left left' all all' : Bool) → (left' ≡ true → left ≡ true) → (all ≡ true → all' ≡ true) → (pool && left' && not all') ≡ true → (pool && left && not all) ≡ true
still_waits = grind arith

all_of : (test : Seat → Bool) (xs : List Seat) → ((k : ℕ) → k < length xs → test (get_or xs k no_seat) ≡ true) → list_all test xs ≡ true
all_of test [] each = refl
all_of test (x ∷ xs) each = rw (each 0 (omega arith), all_of test xs (λ k within. each (suc k) (omega (arith, within)))) refl

has_gone : (left pool : Bool) → (left || not pool) ≡ true → pool ≡ true → left ≡ true
has_gone = grind arith

gone_if : (left pool : Bool) → (pool ≡ true → left ≡ true) → (left || not pool) ≡ true
gone_if = grind arith

-- of the pool all have passed it then, if all had before
pub all_still : (s late : Common) → ((j : ℕ) → (seat_of late j).pool ≡ true → ((seat_of s j).pool ≡ true) × ((seat_of s j).left ≡ true → (seat_of late j).left ≡ true)) → all_left s ≡ true → all_left late ≡ true
all_still s late each all =
    all_of (λ seat. seat.left || not seat.pool) late.seats
    (λ j within. gone_if (seat_of late j).left (seat_of late j).pool (λ pool. let was = each j pool in was.1 (has_gone (seat_of s j).left (seat_of s j).pool (all_at (λ seat. seat.left || not seat.pool) no_seat refl s.seats all j) was.0)))

pub held_before : (s late : Common) (j : ℕ) → (seat_of late j).pool ≡ (seat_of s j).pool → ((seat_of late j).left ≡ true → (seat_of s j).left ≡ true) → (all_left s ≡ true → all_left late ≡ true)
    → is_held late (seat_of late j) ≡ true → is_held s (seat_of s j) ≡ true
held_before s late j pool left all waits =
    still_waits (seat_of s j).pool (seat_of s j).left (seat_of late j).left (all_left s) (all_left late) left all (subst (λ b. (b && (seat_of late j).left && not (all_left late)) ≡ true) pool waits)

-- as far as stopping goes it is as before
pub record Firm (x y : Seat) : Type 0 where
  pub pool : y.pool ≡ x.pool
  pub phase : y.phase ≡ x.phase
  pub left : y.left ≡ x.left
  pub shut : y.mailbox_closed ≡ x.mailbox_closed
  pub rests : not (is_awake y.rest) ≡ true → not (is_awake x.rest) ≡ true
  pub told : has_root_message x ≡ true → has_root_message y ≡ true

pub firm : {x : Seat} → Firm x x
firm = record { pool = refl; phase = refl; left = refl; shut = refl; rests = λ h. h; told = λ h. h }

either_way : (a b ended gone : Bool) → (a ≡ true → b ≡ true) → (a || ended || gone) ≡ true → (b || ended || gone) ≡ true
either_way = grind arith

-- who closes is open still
still_open : (a ended gone : Bool) → (a || false || gone) ≡ true → (a || ended || gone) ≡ true
still_open = grind arith

pub through_still : {x y : Seat} → Firm x y → is_through y ≡ true → is_through x ≡ true
through_still {x} {y} a h = either_way (not (is_awake y.rest)) (not (is_awake x.rest)) (has_ended x.phase) (x.pool && x.left) a.rests (rw (sym a.phase, sym a.pool, sym a.left) h)

-- it takes the message to its root
abbrev pub takes_root : Event → Bool
takes_root (event.Apply message.Root) = true
takes_root _ = false

-- it may lead to rest, or past the barrier
abbrev pub goes_to_rest : Event → Bool
goes_to_rest event.Turn = true
goes_to_rest (event.Sleep until) = true
goes_to_rest event.End = true
goes_to_rest _ = false

abbrev pub turns : Event → Bool
turns event.Turn = true
turns _ = false

abbrev pub closes : Event → Bool
closes event.Close = true
closes _ = false

-- Event e of worker i leads from x to y at seat j. What only the worker itself does is said of its own seat.
pub record Sits (me : Books) (s : Common) (i : ℕ) (e : Event) (j : ℕ) (x y : Seat) : Type 0 where
  pub pool : y.pool ≡ x.pool
  pub shut : is_open y.phase ≡ false → (is_open x.phase ≡ false) ⊎ ((j ≡ i) × (closes e ≡ true) × (me.polls ≡ None) × (is_done (task_of s me.root).phase ≡ true))
  pub shut_still : j < length s.seats → is_open x.phase ≡ false → is_open y.phase ≡ false
  pub left : y.left ≡ true → (x.left ≡ true) ⊎ ((j ≡ i) × (s.stopped ≡ true) × (is_open x.phase ≡ false) × (turns e ≡ true))
  pub left_still : j < length s.seats → x.left ≡ true → y.left ≡ true
  pub mailbox : y.mailbox_closed ≡ true → (x.mailbox_closed ≡ true) ⊎ ((j ≡ i) × (me.next ≡ next.ClosesMailbox))
  pub ended : has_ended y.phase ≡ true → (has_ended x.phase ≡ true) ⊎ ((j ≡ i) × (x.mailbox_closed ≡ true))
  pub through : is_through y ≡ true → (is_through x ≡ true) ⊎ ((j ≡ i) × (goes_to_rest e ≡ true) × (me.owed ≡ []))
  pub told : has_root_message x ≡ true → (has_root_message y ≡ true) ⊎ ((j ≡ i) × ((is_open x.phase ≡ false) ⊎ ((me.next ≡ next.ClosesMailbox) ⊎ (takes_root e ≡ true))))

pub by_firm : {me : Books} {s : Common} {i : ℕ} {e : Event} {j : ℕ} {x y : Seat} → Firm x y → Sits me s i e j x y
by_firm a =
    record {
      pool = a.pool;
      shut = λ h. inl (ap is_open (sym a.phase) ∙ h);
      shut_still = λ within h. ap is_open a.phase ∙ h;
      left = λ h. inl (sym a.left ∙ h);
      left_still = λ within h. a.left ∙ h;
      mailbox = λ h. inl (sym a.shut ∙ h);
      ended = λ h. inl (ap has_ended (sym a.phase) ∙ h);
      through = λ h. inl (through_still a h);
      told = λ h. inl (a.told h);
    }

-- a seat that is made is open, and not of the pool
made : {me : Books} {s : Common} {i : ℕ} {e : Event} (j : ℕ) → (j < length s.seats → ⊥) → Sits me s i e j no_seat (new_seat false)
made j past =
    record {
      pool = refl;
      shut = λ h. absurd (true≢false h);
      shut_still = λ within h. absurd (past within);
      left = λ h. absurd (false≢true h);
      left_still = λ within h. absurd (past within);
      mailbox = λ h. absurd (false≢true h);
      ended = λ h. absurd (false≢true h);
      through = λ h. absurd (false≢true h);
      told = λ h. absurd (false≢true h);
    }

-- the last of a list of seats, or one before it
seat_pushed : (xs : List Seat) (y : Seat) (j : ℕ) → (get_or (xs ++ y ∷ []) j no_seat ≡ get_or xs j no_seat) ⊎ ((get_or (xs ++ y ∷ []) j no_seat ≡ y) × (get_or xs j no_seat ≡ no_seat) × (j ≡ length xs))
seat_pushed [] y zero = inr (refl, refl, refl)
seat_pushed [] y (suc j) = inl refl
seat_pushed (x ∷ xs) y zero = inl refl
seat_pushed (x ∷ xs) y (suc j) = elim (seat_pushed xs y j) [ inl is ↦ inl is | inr is ↦ inr (is.0, is.1, ap suc is.2) ]

-- COMMON PARTS

pub record AllFirm (s late : Common) : Type 0 where
  pub each : (j : ℕ) → Firm (seat_of s j) (seat_of late j)

pub seats_same : {s late : Common} → late.seats ≡ s.seats → AllFirm s late
seats_same {s} {late} is = record { each = λ j. subst (λ seats. Firm (seat_of s j) (get_or seats j no_seat)) (sym is) firm }

pub seat_set : {s : Common} (k : ℕ) (y : Seat) → Firm (seat_of s k) y → AllFirm s (record s { seats = set s.seats k y })
seat_set {s} k y here = record { each = each_set no_seat (λ j. Firm) s.seats k y (λ j apart x. firm) here (λ j. firm) }

pub firm_then : {s late later : Common} → AllFirm s late → later.seats ≡ late.seats → AllFirm s later
firm_then {s} a is = record { each = λ j. subst (λ seats. Firm (seat_of s j) (get_or seats j no_seat)) (sym is) (a.each j) }

-- a message comes into the inbox
pub posted_firm : (m : MailMessage) (x : Seat) → Firm x (posted m x)
posted_firm m x = record { pool = refl; phase = refl; left = refl; shut = refl; rests = λ h. h; told = in_front is_root_message x.inbox (m ∷ []) }

pub post_firm : (s : Common) (to : ℕ) (m : MailMessage) (choice : Choice) → AllFirm s (after_post s to m choice)
post_firm s to m choice = by (is_root_message m && is_left_out choice)
  where
    by : (b : Bool) → AllFirm s (if b then s else record s { seats = set s.seats to (posted m (seat_of s to)) })
    by true = seats_same refl
    by false = seat_set to (posted m (seat_of s to)) (posted_firm m (seat_of s to))

pub roused_firm : (x : Seat) → Firm x (record x { rest = rest.Awake })
roused_firm x = record { pool = refl; phase = refl; left = refl; shut = refl; rests = λ h. absurd (false≢true h); told = λ h. h }

-- the first was another one
in_rest : (n : MailMessage) (xs : List MailMessage) (seat : Seat) → seat.inbox ≡ xs → is_root_message n ≡ false → is_first_message n seat ≡ true → list_any is_root_message xs ≡ true → list_any is_root_message (drop 1 xs) ≡ true
in_rest = grind arith

-- EACH EVENT

pub record AllSit (me : Books) (s : Common) (i : ℕ) (e : Event) (late : Common) : Type 0 where
  pub each : (j : ℕ) → Sits me s i e j (seat_of s j) (seat_of late j)

module _ {me : Books} {s : Common} {i : ℕ} {e : Event} where
  all_firm : {late : Common} → AllFirm s late → AllSit me s i e late
  all_firm a = record { each = λ j. by_firm (a.each j) }

  own_set : (y : Seat) → Sits me s i e i (seat_of s i) y → AllSit me s i e (record s { seats = set s.seats i y })
  own_set y here = record { each = each_set no_seat (Sits me s i e) s.seats i y (λ j apart z. by_firm firm) here (λ j. by_firm firm) }

  as_there : {y z : Common} → AllSit me s i e y → z.seats ≡ y.seats → AllSit me s i e z
  as_there a is = record { each = λ j. subst (λ seats. Sits me s i e j (seat_of s j) (get_or seats j no_seat)) (sym is) (a.each j) }

module _ (c : Configuration) (me : Books) (s : Common) (i : ℕ) where
  abbrev x : Seat
  x = seat_of s i

  next_sits : (n : Next) → me.next ≡ n → AllSit me s i event.Turn (after_next s i n)
  next_sits next.Free is = all_firm (seats_same refl)
  next_sits (next.Joins r) is = all_firm (seats_same refl)
  next_sits next.ClosesQueue is = all_firm (seats_same refl)
  next_sits next.ClosesMailbox is =
      own_set (with_closed_mailbox x)
      (record {
        pool = refl;
        shut = λ h. inl h;
        shut_still = λ within h. h;
        left = λ h. inl h;
        left_still = λ within h. h;
        mailbox = λ h. inr (refl, is);
        ended = λ h. inl h;
        through = λ h. inl h;
        told = λ h. inr (refl, inr (inl is));
      })

  passes : Allowed c me s i event.Turn Passes → AllSit me s i event.Turn (common_after c me s i event.Turn Passes)
  passes h =
      own_set (record x { left = true })
      (record {
        pool = refl;
        shut = λ h. inl h;
        shut_still = λ within h. h;
        left = λ now. inr (refl, h.1.1.1.1.0, closing_shut x.phase h.1.0, refl);
        left_still = λ within h. refl;
        mailbox = λ h. inl h;
        ended = λ h. inl h;
        through = λ now. inr (refl, refl, (at_large me h.0).1);
        told = λ h. inl h;
      })

  made_sits : (t n : ℕ) (choice : Choice) → AllSit me s i (event.Dedicated t n) (common_after c me s i (event.Dedicated t n) choice)
  made_sits t n choice = record { each = each }
    where
      each : (j : ℕ) → Sits me s i (event.Dedicated t n) j (seat_of s j) (seat_of (common_after c me s i (event.Dedicated t n) choice) j)
      each j = elim (seat_pushed s.seats (new_seat false) j) [
        | inl is ↦ subst (λ z. Sits me s i (event.Dedicated t n) j (seat_of s j) z) (sym is) (by_firm firm)
        | inr is ↦ rw (is.0, is.1) (made j (λ within. omega (arith, within, is.2)))
      ]

  applies : (m : MailMessage) → Allowed c me s i (event.Apply m) Plain → AllSit me s i (event.Apply m) (record s { seats = set s.seats i (record x { inbox = drop 1 x.inbox }) })
  applies m h =
      own_set (record x { inbox = drop 1 x.inbox })
      (record {
        pool = refl;
        shut = λ h. inl h;
        shut_still = λ within h. h;
        left = λ h. inl h;
        left_still = λ within h. h;
        mailbox = λ h. inl h;
        ended = λ h. inl h;
        through = λ h. inl h;
        told = λ has. takes m (is_root_message m) refl h.1.1.0 has;
      })
    where
      takes : (m : MailMessage) (b : Bool) → is_root_message m ≡ b → is_first_message m x ≡ true → has_root_message x ≡ true
          → (list_any is_root_message (drop 1 x.inbox) ≡ true) ⊎ ((i ≡ i) × ((is_open x.phase ≡ false) ⊎ ((me.next ≡ next.ClosesMailbox) ⊎ (takes_root (event.Apply m) ≡ true))))
      takes message.Root b is first has = inr (refl, inr (inr refl))
      takes m true is first has = absurd (false≢true is)
      takes m false is first has = inl (in_rest m x.inbox x refl is first has)

  sleeps : (until : Option ℕ) (choice : Choice) → Allowed c me s i (event.Sleep until) choice → AllSit me s i (event.Sleep until) (common_after c me s i (event.Sleep until) choice)
  sleeps until choice h =
      own_set (record x { rest = rest_until until })
      (record {
        pool = refl;
        shut = λ h. inl h;
        shut_still = λ within h. h;
        left = λ h. inl h;
        left_still = λ within h. h;
        mailbox = λ h. inl h;
        ended = λ h. inl h;
        through = λ now. inr (refl, refl, (at_large me h.0).1);
        told = λ h. inl h;
      })

  close_sits : (choice : Choice) → Allowed c me s i event.Close choice → AllSit me s i event.Close (record s { seats = set s.seats i (record x { phase = worker.Closing }) })
  close_sits choice h =
      own_set (record x { phase = worker.Closing })
      (record {
        pool = refl;
        shut = λ now. inr (refl, refl, (at_large me h.0).0, h.1.1.1.0);
        shut_still = λ within h. refl;
        left = λ h. inl h;
        left_still = λ within h. h;
        mailbox = λ h. inl h;
        ended = λ now. absurd (false≢true now);
        through = λ now. inl (still_open (not (is_awake x.rest)) (has_ended x.phase) (x.pool && x.left) now);
        told = λ h. inl h;
      })

  end_sits : (choice : Choice) → Allowed c me s i event.End choice → AllSit me s i event.End (record s { seats = set s.seats i (record x { phase = worker.Ended; inbox = [] }) })
  end_sits choice h =
      own_set (record x { phase = worker.Ended; inbox = [] })
      (record {
        pool = refl;
        shut = λ now. inl (closing_shut x.phase h.1.0);
        shut_still = λ within h. refl;
        left = λ h. inl h;
        left_still = λ within h. h;
        mailbox = λ h. inl h;
        ended = λ now. inr (refl, h.1.1.0);
        through = λ now. inr (refl, refl, (at_large me h.0).1);
        told = λ has. inr (refl, inl (closing_shut x.phase h.1.0));
      })

  pub seats_after : (e : Event) (choice : Choice) → Allowed c me s i e choice → AllSit me s i e (common_after c me s i e choice)
  seats_after event.Turn Plain h = next_sits me.next refl
  seats_after event.Turn Passes h = passes h
  seats_after event.Turn (Pays payer) h = next_sits me.next refl
  seats_after event.Turn (Posts payer left_out) h = next_sits me.next refl
  seats_after (event.Pend t) choice h = all_firm (seats_same (pend_same s i t))
  seats_after (event.Spawn t k) choice h = all_firm (seats_same (word_same s me.polls))
  seats_after (event.Dedicated t n) choice h = made_sits t n choice
  seats_after event.Closed choice h = all_firm (seats_same (word_same s me.polls))
  seats_after (event.Clear t) choice h = all_firm (seats_same (clear_same s i t))
  seats_after (event.Wait (Some r)) choice h = all_firm (seats_same refl)
  seats_after (event.Wake t) choice h = all_firm (seats_same (wake_same me s t choice))
  seats_after event.Busy choice h = all_firm (seat_set i (record x { busy = false }) (record { pool = refl; phase = refl; left = refl; shut = refl; rests = λ h. h; told = λ h. h }))
  seats_after (event.Reap r n outcome) choice h =
      let y : Seat = record x { landed = drop 1 x.landed } in
      all_firm (firm_then (seat_set {s = s} i y (record { pool = refl; phase = refl; left = refl; shut = refl; rests = λ h. h; told = λ h. h })) refl)
  seats_after (event.Send to m) choice h =
      let sent = after_sending s me.polls m in
      let joins = post_firm sent to m choice in
      all_firm (record { each = λ j. subst (λ seats. Firm (get_or seats j no_seat) (seat_of (after_post sent to m choice) j)) (sending_same s me.polls m) (joins.each j) })
  seats_after (event.Apply m) choice h = as_there (applies m h) (ap (λ xs. set xs i (record x { inbox = drop 1 x.inbox })) (message_same me s m))
  seats_after (event.Rouse k) choice h = all_firm (seat_set k (record (seat_of s k) { rest = rest.Awake }) (roused_firm (seat_of s k)))
  seats_after (event.Sleep until) choice h = sleeps until choice h
  seats_after event.Close choice h = as_there (close_sits choice h) refl
  seats_after event.End choice h = as_there (end_sits choice h) refl
  seats_after e choice h = all_firm (seats_same refl)
