-- Moves by which a search count is returned, and of the kick by which the last one hands its duty on.
--
-- A kick begins a search where there is none and a worker is published: it reserves a count, and claims that worker.
use Rattle.std.specs.Prelude.{ℕ, false, ◌==◌, if◌then◌else◌}
use Rattle.exec_words.specs.{declared.idle.WorkerSet.WorkerSet, Idle.Idle}
use Rattle.exec_machine.specs.{declared.config.Configuration.Configuration, World.{Common, Own as Books}}
use Rattle.exec_moves.specs.{declared.{handing.{AfterKick.AfterKick, AfterLeave.AfterLeave, AfterClaim.AfterClaim as claim, InKick.InKick as step}, place.Place.Place as at}, State.{Desk, Moved, turns}, Parts.{after_kick, after_return}, Claim.set_of, Global.{has_any, one_count_more, one_count_less}}

-- it holds no search count any more
abbrev pub unsearching : Desk → Desk
unsearching d = record d { searching = false }

-- the search count
abbrev pub leave_search : Configuration → ℕ → Books → Common → AfterLeave → Desk → Idle → Moved Idle
leave_search c i me s b d x = turns (after_return c i me s (x.count == 1) b d) (unsearching d) (one_count_less x)

abbrev pub load_kick_count : Configuration → ℕ → Books → Common → AfterKick → Desk → Idle → Moved Idle
load_kick_count c i me s b d x =
    turns (if x.count == 0 then at.Kick step.LoadKickSet b else after_kick c i me s b d) d x

-- the idle set
abbrev pub load_kick_set : Configuration → ℕ → Books → Common → AfterKick → Desk → Idle → Moved Idle
load_kick_set c i me s b d x =
    turns (if has_any x then at.Kick (step.ExchangeKickCount (set_of x)) b else after_kick c i me s b d) d x

-- the search count, from 0 to 1
abbrev pub exchange_kick_count : Configuration → ℕ → Books → Common → WorkerSet → AfterKick → Desk → Idle → Moved Idle
exchange_kick_count c i me s set b d x =
    if x.count == 0 then turns (at.ClaimWorker set (claim.Kick b)) d (one_count_more x)
    else turns (after_kick c i me s b d) d x

-- nobody was claimed: who returns the last one kicks again
abbrev pub return_kick_count : Configuration → ℕ → Books → Common → AfterKick → Desk → Idle → Moved Idle
return_kick_count c i me s b d x =
    turns (if x.count == 1 then at.Kick step.LoadKickCount b else after_kick c i me s b d) d (one_count_less x)
