-- Moves of a pop of the own run queue.
use Rattle.std.specs.Prelude.{ℕ, zero, suc, Bool, ◌-◌, ◌*◌, ◌%◌, ◌==◌, ◌&&◌, List, [], ◌∷◌, nat_le, if◌then◌else◌}
use Rattle.exec_words.specs.{declared.head.Head.Head, Queue.{Queue, head_of, tail_of, popped}}
use Rattle.exec_task.specs.declared.drain.Drain.{Drain}
use Rattle.exec_machine.specs.declared.{config.Configuration.Configuration, event.Event.TheVariants.Turn}
use Rattle.exec_moves.specs.{declared.{handing.{AfterPop.{AfterPop, AfterPop as pop}, First.First as first, InPop.InPop as step}, place.{Place.Place, InClosing.InClosing as closing, InPick.InPick as pick}}, State.{Desk, Moved, does, goes, turns}, Parts.{first_pop, polls}}
use Rattle.exec_moves.specs.declared.place.Place.TheVariants as at

-- the first of these powers of two, from this one on, that isn't less than the number
abbrev pub power_from : ℕ → ℕ → ℕ → ℕ
power_from zero power n = power
power_from (suc more) power n = if nat_le n power then power else power_from more (power * 2) n

-- how many shards the task set has
abbrev pub shard_count : Configuration → ℕ
shard_count c = power_from 6 1 c.workers * 4

-- a drain of so many shards by this worker, before its first visit
abbrev pub drain_by : ℕ → ℕ → Drain
drain_by i count = record { at = i * 4 % count; left = count }

-- what came is polled, or let go
abbrev pub after_pop : Configuration → AfterPop → ℕ → Desk → Desk
after_pop c (pop.Pick f) t d = polls t d
after_pop c pop.Discard t d = goes (first_pop c pop.Discard) d

abbrev pub after_empty_pop : Configuration → ℕ → AfterPop → Place
after_empty_pop c i (pop.Pick first.Own) = at.Pick (pick.LoadMirror first.Own)
after_empty_pop c i (pop.Pick first.Global) = at.TakeRootFlag
after_empty_pop c i pop.Discard = at.Closing (closing.Visit (drain_by i (shard_count c)))

-- the oldest value leaves the queue
abbrev pub pops : Configuration → ℕ → AfterPop → Desk → Queue ℕ → Moved (Queue ℕ)
pops c i b d q = by_values q.values
  where
    by_values : List ℕ → Moved (Queue ℕ)
    by_values [] = turns (after_empty_pop c i b) d q
    by_values (t ∷ ts) = does Turn (after_pop c b t d) (popped q)

-- by the head that was found and the own tail: no value, a lone one without a claim, or any other
abbrev pub judge_pop : Configuration → ℕ → AfterPop → Head → ℕ → Place
judge_pop c i b h len =
    if len == 0 then after_empty_pop c i b
    else if (len == 1) && (h.gap == 0) then at.Pop step.StorePop b else at.Pop (step.ExchangePop h) b

abbrev pub load_pop_head : Configuration → ℕ → AfterPop → Desk → Queue ℕ → Moved (Queue ℕ)
load_pop_head c i b d q = turns (judge_pop c i b (head_of q) (tail_of q - q.real)) d q

-- nothing was done to the head since it was loaded
abbrev pub same_head : Head → Head → Bool
same_head h g = (h.real == g.real) && (h.gap == g.gap)

abbrev pub exchange_pop : Configuration → ℕ → AfterPop → Head → Desk → Queue ℕ → Moved (Queue ℕ)
exchange_pop c i b h d q = if same_head h (head_of q) then pops c i b d q else load_pop_head c i b d q
