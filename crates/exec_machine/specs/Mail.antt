-- Events of messages between workers: sent, applied, met by a closed mailbox; and the rousing of a sleeping worker.
use Rattle.std.specs.{Prelude.{ℕ, Bool, true, false, not, ◌==◌, ◌&&◌, ◌||◌, if◌then◌else◌, List, [], ◌∷◌, ◌++◌, drop, slice_get, slice_set, Option, Some, None}, List.list_any}
use Rattle.exec_machine.specs.{declared.{config.ScriptWord.{ScriptWord, ScriptWord as word}, state.{Rest.TheVariants.Awake, Forwarding.TheVariants.{Sent, Applied}, MailMessage.{MailMessage, MailMessage as message}, Waiting.Waiting as waiting}}, Choice.{Payer, Choice, Payer.{ByRequest, BySleeper, ByAct, ByCall, ByStop}, Choice.{Plain, Passes, Pays, Posts}}, Same.{is_none, is_number, same_message, is_letter}, World.{Own, Seat, Task, Common, seat_of, task_of, request_of, sleeper_of}, Tests.{is_settled, is_at_large, is_open, is_awake, is_unsent, waits_for_nothing, waits_for_request, waits_for_timer, set_seat, set_task, set_request, set_sleeper}, Words.{moved_on, polled_task, acts, asks_await, asks_drop, newest_held}, Requests.{dropped, own_after_drop}, Tasks.{waits_for, polls_waiting, after_letting_go, removed, wake}}

-- SEND

abbrev pub is_root_message : MailMessage → Bool
is_root_message message.Root = true
is_root_message _ = false

abbrev pub has_root_message : Seat → Bool
has_root_message seat = list_any is_root_message seat.inbox

-- the message joins the inbox
abbrev pub posted : MailMessage → Seat → Seat
posted m seat = record seat { inbox = seat.inbox ++ m ∷ [] }

-- the word wakes the root of worker `to`
abbrev pub asks_root_of : Common → ℕ → ScriptWord → Bool
asks_root_of s to (word.Wake t) = is_number to (task_of s t).home
asks_root_of s to _ = false

-- The message is the first that the worker owes.
abbrev pub is_first_owed : Own → ℕ → MailMessage → Bool
is_first_owed me to m = is_none me.polls && is_settled me.next && is_letter to m (slice_get me.owed 0)

-- A root message is paid by the act of a task that wakes that root, or by the stop of the pool.
abbrev pub is_root_paid : Own → Common → ℕ → Payer → Bool
is_root_paid me s to (ByRequest r) = false
is_root_paid me s to (BySleeper z) = false
is_root_paid me s to ByAct = acts me s (asks_root_of s to)
is_root_paid me s to ByCall = false
is_root_paid me s to ByStop = is_first_owed me to message.Root

-- It is left out only where the inbox has one already.
abbrev pub may_post : Common → ℕ → ℕ → Bool → List Bool
may_post s i to left_out = not (to == i) ∷ not (seat_of s to).mailbox_closed ∷ (not left_out || has_root_message (seat_of s to)) ∷ []

abbrev pub may_send_root : Own → Common → ℕ → ℕ → Choice → List Bool
may_send_root me s i to Plain = false ∷ []
may_send_root me s i to Passes = false ∷ []
may_send_root me s i to (Pays payer) = false ∷ []
may_send_root me s i to (Posts payer left_out) = is_root_paid me s to payer ∷ may_post s i to left_out

-- the polled task awaits the request, which is another worker's: it waits for it already, or does so by its next word
abbrev pub awaits_request : Own → Common → ℕ → Bool
awaits_request me s r =
    (polls_waiting me s (waits_for_request r) || acts me s asks_await) && is_number r (newest_held (polled_task me s))

abbrev pub may_send : Own → Common → ℕ → ℕ → MailMessage → Choice → List Bool
may_send me s i to message.Root choice = may_send_root me s i to choice
may_send me s i to (message.ForwardRequest r) choice =
    awaits_request me s r ∷ ((request_of s r).worker == to) ∷ not (to == i) ∷ is_unsent (request_of s r).forwarding
    ∷ not (seat_of s to).mailbox_closed ∷ []
may_send me s i to (message.ForwardTimer z) choice =
    polls_waiting me s (waits_for_timer z) ∷ ((sleeper_of s z).worker == to) ∷ not (to == i) ∷ is_unsent (sleeper_of s z).forwarding
    ∷ not (seat_of s to).mailbox_closed ∷ []
may_send me s i to (message.CancelRequest r) choice =
    (is_first_owed me to (message.CancelRequest r) || drops_elsewhere me s i r) ∷ ((request_of s r).worker == to)
    ∷ not (seat_of s to).mailbox_closed ∷ []
  where
    drops_elsewhere : Own → Common → ℕ → ℕ → Bool
    drops_elsewhere me s i r = acts me s asks_drop && is_number r (newest_held (polled_task me s)) && not ((request_of s r).worker == i)
may_send me s i to (message.CancelTimer z) choice =
    is_first_owed me to (message.CancelTimer z) ∷ not (seat_of s to).mailbox_closed ∷ []

-- what was owed is sent, or was met by a closed mailbox
abbrev pub own_after_letter : Own → Own
own_after_letter me = if is_none me.polls then record me { owed = drop 1 me.owed } else me

-- a task that awaits the request from now on
abbrev pub awaiting : Common → ℕ → Task → Task
awaiting s r t = if waits_for_nothing t.waiting then waits_for s t (waiting.Request r) else t

-- after the message was sent in the poll of this task, or outside a poll
abbrev pub after_sending : Common → Option ℕ → MailMessage → Common
after_sending s None m = s
after_sending s (Some t) message.Root = set_task s t (moved_on s (task_of s t))
after_sending s (Some t) (message.ForwardRequest r) =
    record s {
      tasks = slice_set s.tasks t (awaiting s r (task_of s t));
      requests = slice_set s.requests r (record (request_of s r) { waiter = Some t; forwarding = Sent });
    }
after_sending s (Some t) (message.ForwardTimer z) = set_sleeper s z (record (sleeper_of s z) { forwarding = Sent })
after_sending s (Some t) (message.CancelRequest r) = set_task s t (after_letting_go s (task_of s t))
after_sending s (Some t) (message.CancelTimer z) = s

abbrev pub is_left_out : Choice → Bool
is_left_out (Posts payer left_out) = left_out
is_left_out _ = false

abbrev pub after_post : Common → ℕ → MailMessage → Choice → Common
after_post s to m choice = if is_root_message m && is_left_out choice then s else set_seat s to (posted m (seat_of s to))

abbrev pub after_send : Own → Common → ℕ → MailMessage → Choice → Common
after_send me s to m choice = after_post (after_sending s me.polls m) to m choice

-- CLOSED

-- the word asks for what is closed: a spawn where the set is, a wake where the root's mailbox is
abbrev pub meets_closed : Common → ℕ → ScriptWord → Bool
meets_closed s i (word.Spawn k) = s.set_closed
meets_closed s i (word.Dedicated k) = s.set_closed
meets_closed s i (word.Wake t) = is_shut s i (task_of s t).home
  where
    is_shut : Common → ℕ → Option ℕ → Bool
    is_shut s i None = false
    is_shut s i (Some home) = not (home == i) && (seat_of s home).mailbox_closed
meets_closed s i _ = false

abbrev pub may_meet_closed : Own → Common → ℕ → List Bool
may_meet_closed me s i = acts me s (meets_closed s i) ∷ []

-- APPLY

abbrev pub is_first_message : MailMessage → Seat → Bool
is_first_message m seat = is_same m (slice_get seat.inbox 0)
  where
    is_same : MailMessage → Option MailMessage → Bool
    is_same m None = false
    is_same m (Some first) = same_message m first

abbrev pub may_apply : Own → Common → ℕ → MailMessage → List Bool
may_apply me s i m = is_at_large me ∷ is_open (seat_of s i).phase ∷ is_first_message m (seat_of s i) ∷ []

abbrev pub own_after_apply : Own → Common → MailMessage → Own
own_after_apply me s (message.CancelRequest r) = own_after_drop me s r
own_after_apply me s _ = me

abbrev pub after_message : Own → Common → MailMessage → Common
after_message me s message.Root = wake s me.root
after_message me s (message.ForwardRequest r) = set_request s r (record (request_of s r) { forwarding = Applied })
after_message me s (message.ForwardTimer z) = set_sleeper s z (record (sleeper_of s z) { forwarding = Applied })
after_message me s (message.CancelRequest r) = set_request s r (dropped (request_of s r))
after_message me s (message.CancelTimer z) = set_sleeper s z (removed (sleeper_of s z))

abbrev pub after_apply : Own → Common → ℕ → MailMessage → Common
after_apply me s i m =
    let told = after_message me s m in set_seat told i (record (seat_of s i) { inbox = drop 1 (seat_of s i).inbox })

-- ROUSE

abbrev pub may_rouse : Common → ℕ → Bool
may_rouse s other = not (is_awake (seat_of s other).rest)

abbrev pub after_rouse : Common → ℕ → Common
after_rouse s other = set_seat s other (record (seat_of s other) { rest = Awake })
