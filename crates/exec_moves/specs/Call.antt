-- Moves of an outside caller, which spawns or wakes a task.
--
-- It has no run queue: what it queues goes into the global queue, and it claims and signals a worker as a worker does.
use Rattle.std.specs.Prelude.{ℕ, Bool, true, false, ◌==◌, List, Option, Some, None, if◌then◌else◌}
use Rattle.exec_words.specs.{declared.{idle.WorkerSet.WorkerSet, word.PureWord.PureWord}, Idle.Idle, Word.asks_signal}
use Rattle.exec_machine.specs.{declared.event.Event.{Event, TheVariants.{Turn, Wake, Return}}, Choice.{Choice, Choice.{Plain, Pays}, Payer.ByCall}, World.{Task, Common}, Tests.is_idle}
use Rattle.exec_moves.specs.{declared.handing.{CallPlace.{CallPlace, CallPlace as call}, InGlobal.InGlobal as global, InSignal.InSignal as signals}, State.{WakePoll, Own}, Push.in_hand, Claim.{Claimed, Claimed.{Worker, Again, Nobody}, claimed, idle_after, set_of, is_ring, latched, raised_if, rousing}, Global.{appended_if, has_any, one_count_more, one_count_less}, Send.{next_task, told_of_spawn, joined, Mailbox, Posting, posting}}

-- what only the caller touches: where it is, and the runnable in its hand
pub record CallDesk : Type 0 where
  pub place : CallPlace
  pub hand : Option ℕ

abbrev pub no_call : CallDesk
no_call = record { place = call.Nothing; hand = None }

-- what a step does: the event, what that leaves open, what the caller has then, and the one thing that it named
pub record Called (T : Type 0) : Type 0 where
  pub event : Event
  pub choice : Choice
  pub desk : CallDesk
  pub thing : T

-- the caller goes to this place, with what is in its hand
abbrev pub calls_at : CallPlace → CallDesk → CallDesk
calls_at p d = record d { place = p }

module _ {T : Type 0} where
  abbrev pub tells : Event → CallDesk → T → Called T
  tells e d x = record { event = e; choice = Plain; desk = d; thing = x }

  -- a turn that leads to this place, and nothing else
  abbrev pub goes_on : CallPlace → CallDesk → T → Called T
  goes_on p d x = tells Turn (calls_at p d) x

-- THE FIRST STEP

-- the runnable is to be queued
abbrev pub queues : ℕ → CallDesk
queues t = record { place = call.Global global.Append; hand = Some t }

-- the shard of the new task
abbrev pub spawn : ℕ → Common → CallDesk → List ℕ → Called (List ℕ)
spawn k s d shard =
    tells (told_of_spawn s k) (if s.set_closed then calls_at call.Return d else queues (next_task s)) (joined s shard)

-- the ordinary task u
abbrev pub wake_task : ℕ → CallDesk → Task → Called Task
wake_task u d it =
    record { event = Wake u; choice = Pays ByCall; desk = if is_idle it.phase then queues u else calls_at call.Return d; thing = it }

abbrev pub after_posting : ℕ → Bool → CallPlace
after_posting j true = call.Signal signals.SetLatch j
after_posting j false = call.Return

-- the mailbox of worker j, whose root is woken
abbrev pub send_root : Common → ℕ → CallDesk → Mailbox → Called Mailbox
send_root s j d m = sent (posting s j ByCall m)
  where
    sent : Posting → Called Mailbox
    sent it = record { event = it.event; choice = it.choice; desk = calls_at (after_posting j it.signals) d; thing = it.mailbox }

-- GLOBAL

-- the global queue
abbrev pub append : Common → CallDesk → List ℕ → Called (List ℕ)
append s d queue =
    goes_on (if s.queue_closed then call.Return else call.Global global.LoadGlobalSet) (record d { hand = None })
    (appended_if s.queue_closed queue (in_hand d.hand))

-- the idle set
abbrev pub load_global_set : CallDesk → Idle → Called Idle
load_global_set d x = goes_on (if has_any x then call.Global (global.AddGlobalCount (set_of x)) else call.Return) d x

-- the search count
abbrev pub add_global_count : WorkerSet → CallDesk → Idle → Called Idle
add_global_count set d x = goes_on (call.ClaimWorker set) d (one_count_more x)

abbrev pub return_global_count : CallDesk → Idle → Called Idle
return_global_count d x =
    goes_on (if x.count == 1 then call.Global global.LoadGlobalSet else call.Return) d (one_count_less x)

-- CLAIM, SIGNAL

abbrev pub after_claim : Claimed → CallPlace
after_claim (Worker lowest) = call.Signal signals.SetLatch lowest
after_claim (Again found) = call.ClaimWorker found
after_claim Nobody = call.Global global.ReturnGlobalCount

-- the idle set
abbrev pub claim_worker : WorkerSet → CallDesk → Idle → Called Idle
claim_worker seen d x = goes_on (after_claim (claimed seen x)) d (idle_after (claimed seen x) x)

-- the wake word of worker j
abbrev pub set_latch : ℕ → CallDesk → PureWord → Called PureWord
set_latch j d w = goes_on (if asks_signal w then call.Signal (signals.Raise (is_ring w.target)) j else call.Return) d (latched w)

-- the wake poll of worker j
abbrev pub raise : Common → Bool → ℕ → CallDesk → WakePoll → Called WakePoll
raise s ring j d p = tells (rousing s j) (calls_at call.Return d) (raised_if ring p)

-- RETURN

abbrev pub returns : CallDesk → Called Own
returns d = tells Return (calls_at call.Nothing d) tt
