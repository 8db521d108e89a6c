-- Moves by which a task is made or woken, and a message sent to the root of another worker.
--
-- A new task joins the task set under the next number, in the shard of that. A wake queues an idle task. A root stands in no
-- queue: on its own worker it is flagged, and from elsewhere its worker is sent a message.
use Rattle.std.specs.{Prelude.{ℕ, Bool, true, false, not, ◌&&◌, ◌++◌, List, [], ◌∷◌, drop, length, slice_index_or, Some, if◌then◌else◌}, List.list_any}
use Rattle.exec_words.specs.{Word.{asks_signal, next_batch}, declared.word.PureWord.PureWord}
use Rattle.exec_machine.specs.{declared.{config.Configuration.Configuration, event.Event.{Event, TheVariants.{Spawn, Dedicated, Closed, Wake, Send}}, state.{Letter.Letter, MailMessage.{MailMessage, TheVariants.Root}}}, Choice.{Choice, Payer, Choice.{Plain, Pays, Posts}, Payer.{ByAct, ByStop}}, World.{Task, Common, seat_of}, Tests.{is_empty, is_idle}, Mail.is_root_message}
use Rattle.exec_moves.specs.{declared.{handing.{AfterCancels.AfterCancels, AfterSend.{AfterSend, AfterSend as send}, AfterPush.AfterPush as push, AfterSignal.AfterSignal as signal, InGlobal.InGlobal as global, InPush.InPush as pushes}, place.{Place.{Place, Place as at}, InPoll.InPoll as poll}}, State.{Desk, Things, Moved, does, goes, no_queue, no_word, no_wake_poll}, Callback.{flagged_by, is_of_pool, to_queue}, Parts.{has_others, after_send}}
use Rattle.exec_moves.specs.declared.handing.InSignal.TheVariants as signals

-- SPAWN

-- the task that is made next
abbrev pub next_task : Common → ℕ
next_task s = length s.tasks

abbrev pub told_of_spawn : Common → ℕ → Event
told_of_spawn s k = if s.set_closed then Closed else Spawn (next_task s) k

-- the shard then
abbrev pub joined : Common → List ℕ → List ℕ
joined s shard = if s.set_closed then shard else shard ++ next_task s ∷ []

-- A worker alone keeps it, and a dedicated one has no queue for it. Another looks first whether its own queue is empty.
abbrev pub after_spawn : Configuration → ℕ → Common → ℕ → Place
after_spawn c i s t =
    if not (is_of_pool s i) then at.Global global.Append (push.Act t)
    else if has_others c then at.Poll t poll.LoadSpawnHead else at.Push pushes.LoadPushHead (push.Act t)

abbrev pub with_spawned : Configuration → ℕ → ℕ → Common → Desk → Desk
with_spawned c i t s d =
    if s.set_closed then goes (at.Poll t poll.Act) d else record d { hand = Some (next_task s); place = after_spawn c i s t }

-- the shard of the new task
abbrev pub spawn : Configuration → ℕ → ℕ → ℕ → Common → Desk → List ℕ → Moved (List ℕ)
spawn c i t k s d shard = does (told_of_spawn s k) (with_spawned c i t s d) (joined s shard)

-- DEDICATED: the worker is there at once, with the task as its root

abbrev pub told_of_dedicated : Common → Event
told_of_dedicated s = if s.set_closed then Closed else Dedicated (next_task s) (length s.seats)

-- what the new worker has for others to touch
abbrev pub with_newcomer : Things → Things
with_newcomer x =
    record x {
      queues = x.queues ++ no_queue ∷ [];
      words = x.words ++ no_word ∷ [];
      inboxes = x.inboxes ++ [] ∷ [];
      wake_polls = x.wake_polls ++ no_wake_poll ∷ [];
    }

abbrev pub dedicate : ℕ → Common → Desk → Things → Moved Things
dedicate t s d x = does (told_of_dedicated s) (goes (at.Poll t poll.Act) d) (if s.set_closed then x else with_newcomer x)

-- WAKE

abbrev pub wakes_by_act : ℕ → Desk → Task → Moved Task
wakes_by_act u d it = record { event = Wake u; choice = Pays ByAct; desk = d; thing = it }

-- the ordinary task u: an idle one is queued
abbrev pub wake_task : ℕ → ℕ → ℕ → Common → Desk → Task → Moved Task
wake_task i t u s d it =
    wakes_by_act u
    (if is_idle it.phase then record d { hand = Some u; place = to_queue s i (push.Act t) }
    else goes (at.Poll t poll.Act) d)
    it

-- the own root: it is no queue's
abbrev pub wake_own_root : ℕ → ℕ → Desk → Task → Moved Task
wake_own_root t u d it = wakes_by_act u (goes (at.Poll t poll.Act) (flagged_by it d)) it

-- SEND

-- an inbox, with the wake word in which a batch is published
pub record Mailbox : Type 0 where
  pub messages : List MailMessage
  pub word : PureWord

-- a second root message of a batch is left out
abbrev pub is_left_out : Mailbox → Bool
is_left_out m = list_any is_root_message m.messages

abbrev pub leaves_out : MailMessage → Mailbox → Bool
leaves_out message m = is_root_message message && is_left_out m

-- the first message of a batch publishes it, and asks for a signal where its worker waits and nobody has signalled it
abbrev pub asks : Mailbox → Bool
asks m = is_empty m.messages && asks_signal m.word

abbrev pub published_if : Bool → PureWord → PureWord
published_if true w = record w { batch = next_batch w.batch }
published_if false w = w

abbrev pub posted : MailMessage → Mailbox → Mailbox
posted message m =
    if leaves_out message m then m
    else record { messages = m.messages ++ message ∷ []; word = published_if (is_empty m.messages) m.word }

-- what came of it: the event, what it leaves open, whether a signal is asked, and the mailbox then
pub record Posting : Type 0 where
  pub event : Event
  pub choice : Choice
  pub signals : Bool
  pub mailbox : Mailbox

-- to worker j
abbrev pub posting_of : Common → ℕ → MailMessage → Choice → Mailbox → Posting
posting_of s j message choice m =
    if (seat_of s j).mailbox_closed then (record { event = Closed; choice = Plain; signals = false; mailbox = m })
    else (record { event = Send j message; choice = choice; signals = asks m; mailbox = posted message m })

-- to its root
abbrev pub posting : Common → ℕ → Payer → Mailbox → Posting
posting s j payer m = posting_of s j Root (Posts payer (is_left_out m)) m

-- who pays: the act of the task, or the stop of the pool
abbrev pub payer_of_send : AfterSend → Payer
payer_of_send (send.Act t) = ByAct
payer_of_send _ = ByStop

abbrev pub after_posting : Configuration → ℕ → AfterSend → Bool → Desk → Place
after_posting c j b true d = at.Signal signals.SetLatch j (signal.Send b)
after_posting c j b false d = after_send c b d

abbrev pub sent : Configuration → ℕ → AfterSend → Desk → Posting → Moved Mailbox
sent c j b d it =
    record { event = it.event; choice = it.choice; desk = goes (after_posting c j b it.signals d) d; thing = it.mailbox }

-- the mailbox of worker j: a message to its root, and one about what a task waits for or held
abbrev pub send_root : Configuration → Common → ℕ → AfterSend → Desk → Mailbox → Moved Mailbox
send_root c s j b d m = sent c j b d (posting s j (payer_of_send b) m)

abbrev pub send_message : Configuration → Common → ℕ → MailMessage → AfterSend → Desk → Mailbox → Moved Mailbox
send_message c s j message b d m = sent c j b d (posting_of s j message Plain m)

-- The first of the letters that it owes, where it owes one.
abbrev pub no_letter : Letter
no_letter = record { to = 0; message = Root }

abbrev pub first_letter : Desk → Letter
first_letter d = slice_index_or d.letters 0 no_letter

abbrev pub send_cancel : Configuration → Common → AfterCancels → Desk → Mailbox → Moved Mailbox
send_cancel c s b d m =
    send_message c s (first_letter d).to (first_letter d).message (send.Cancels b) (record d { letters = drop 1 d.letters }) m
