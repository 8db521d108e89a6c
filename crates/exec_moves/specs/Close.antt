-- Moves of a closing, beside its callbacks, services and waits.
use Rattle.std.specs.Prelude.{ℕ, Bool, true, not, ◌-◌, ◌==◌, ◌&&◌, List, [], length, take, slice_get, Option, Some, None, if◌then◌else◌}
use Rattle.exec_words.specs.Word.{next_batch}
use Rattle.exec_task.specs.{declared.drain.Drain.Drain, TaskSet.passed}
use Rattle.exec_machine.specs.{declared.{config.Configuration.Configuration, event.Event.TheVariants.{Turn, Close, Stop, Clear, Orphan, End}, state.{MailMessage.MailMessage, Request.Request}}, Choice.Choice.Passes, World.{Common, Task, request_of, sleeper_of}, Tests.{is_asleep, is_empty}, Requests.outcome_of_drop, Closing.ends_by_clear}
use Rattle.exec_moves.specs.{declared.{handing.{AfterCallbacks.AfterCallbacks as after, AfterCancels.AfterCancels as cancels, AfterPop.AfterPop as pop}, place.{InCallbacks.InCallbacks as callback, InClosing.{InClosing, InClosing as closing}, Place.{Place, Place as at}}}, State.{Desk, Moved, Own, turns, does, goes}, Slots.first_in, Callback.is_of_pool, Told.{told_of_drop, told_of_fire, woken_where_awaited, lets_go_all}, Parts.{first_pop, tells_from, after_visit, cancels_left}}

-- Worker zero closes what is the pool's, and stops it; another worker of the pool closes only once it is stopped. A
-- dedicated one has nothing of the pool.
abbrev pub after_close : Configuration → ℕ → Common → Place
after_close c i s =
    if i == 0 then at.Closing closing.CloseQueue
    else if is_of_pool s i then first_pop c pop.Discard else at.Closing closing.CloseMailbox

abbrev pub close : Configuration → ℕ → Common → Desk → Moved Own
close c i s d = does Close (goes (after_close c i s) d) tt

-- the global queue is emptied; that it is closed is the machine's `turn`
abbrev pub close_queue : Desk → List ℕ → Moved (List ℕ)
close_queue d global = turns (at.Closing closing.OpenBarrier) d []

-- the barrier
abbrev pub open_barrier : Desk → Bool → Moved Bool
open_barrier d barrier = turns (at.Closing closing.Stop) d true

abbrev pub stop : Configuration → Desk → Moved Own
stop c d = does Stop (goes (tells_from c 1) d) tt

-- THE DRAIN

-- the shard: its newest task is taken out, and an empty one is passed
abbrev pub visit : ℕ → Drain → Desk → List ℕ → Moved (List ℕ)
visit count x d shard = visited (slice_get shard (length shard - 1))
  where
    visited : Option ℕ → Moved (List ℕ)
    visited None = turns (at.Closing (after_visit (passed count x))) d shard
    visited (Some t) = turns (at.Closing (closing.Clear t x)) d (take (length shard - 1) shard)

-- the task that was taken: one that nobody polls, and isn't over, is over by this
abbrev pub told_of_clear : ℕ → Common → Desk → Task → Desk
told_of_clear i s d it = if ends_by_clear it.phase then lets_go_all i s it d else d

abbrev pub visits_on : Drain → Desk → Desk
visits_on x d = goes (cancels_left (cancels.Visit x) d d.letters) d

abbrev pub clear : ℕ → ℕ → Drain → Common → Desk → Task → Moved Task
clear i t x s d it = does (Clear t) (visits_on x (told_of_clear i s d it)) it

-- the barrier: the worker passes it
abbrev pub leave_barrier : Desk → Bool → Moved Bool
leave_barrier d barrier =
    record { event = Turn; choice = Passes; desk = goes (at.Closing closing.CloseMailbox) d; thing = barrier }

-- WHAT IS LET GO

-- the request in the first slot that somebody holds, and the sleeper in the first slot
abbrev pub first_held : Common → Desk → Option ℕ
first_held s d = first_in (λ r. (request_of s r).observed) d.requests.held

abbrev pub first_asleep : ℕ → Common → Desk → Option ℕ
first_asleep i s d = first_in (λ z. is_asleep i (sleeper_of s z)) d.timers.held

abbrev pub or_else_at : Option ℕ → InClosing → Place → Place
or_else_at None p later = later
or_else_at (Some n) p later = at.Closing p

-- the next that is let go, after those before
abbrev pub after_letting_go : Option ℕ → Option ℕ → Place
after_letting_go held asleep =
    or_else_at held closing.Orphan (or_else_at asleep closing.CloseSleeper (at.Callbacks callback.TakeBatch after.Drain))

-- The inbox. What stands in it counts as a batch that was taken; that, and what was taken and isn't applied, is dropped.
abbrev pub batches_closed : List MailMessage → ℕ → ℕ
batches_closed inbox n = if is_empty inbox then n else next_batch n

abbrev pub close_mailbox : ℕ → Common → Desk → List MailMessage → Moved (List MailMessage)
close_mailbox i s d inbox =
    turns (after_letting_go (first_held s d) (first_asleep i s d))
    (record d { batch = []; processed = batches_closed inbox d.processed }) []

-- the next request that somebody holds beside this one, and the next sleeper
abbrev pub held_after : ℕ → Common → Desk → Option ℕ
held_after r s d = first_in (λ q. not (q == r) && (request_of s q).observed) d.requests.held

abbrev pub asleep_after : ℕ → ℕ → Common → Desk → Option ℕ
asleep_after i z s d = first_in (λ y. not (y == z) && is_asleep i (sleeper_of s y)) d.timers.held

-- who waits for it here is woken
abbrev pub orphan : ℕ → Common → Desk → Moved Own
orphan i s d = let_go (first_held s d)
  where
    told : ℕ → Request → Moved Own
    told r it =
        does (Orphan r (outcome_of_drop it))
        (goes (after_letting_go (held_after r s d) (first_asleep i s d)) (told_of_drop r it (woken_where_awaited r it d)))
        tt

    let_go : Option ℕ → Moved Own
    let_go None = turns (after_letting_go None (first_asleep i s d)) d tt
    let_go (Some r) = told r (request_of s r)

abbrev pub close_sleeper : ℕ → Common → Desk → Moved Own
close_sleeper i s d = removed (first_asleep i s d)
  where
    removed : Option ℕ → Moved Own
    removed None = turns (after_letting_go None None) d tt
    removed (Some z) = turns (after_letting_go None (asleep_after i z s d)) (told_of_fire z (sleeper_of s z) d) tt

abbrev pub end : Desk → Moved Own
end d = does End (goes (at.Closing closing.End) d) tt
