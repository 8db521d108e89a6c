-- Moves of a push of all in the hands into the global queue.
--
-- Who has appended looks for a published worker afterwards, and reserves a search count for it.
use Rattle.std.specs.Prelude.{ℕ, Bool, true, false, ◌+◌, ◌-◌, ◌==◌, ◌++◌, List, [], Option, Some, None, if◌then◌else◌}
use Rattle.exec_words.specs.{declared.idle.WorkerSet.WorkerSet, Idle.{Idle, lowest_of}}
use Rattle.exec_machine.specs.{declared.config.Configuration.Configuration, World.{Common, Own as Books}}
use Rattle.exec_moves.specs.{declared.{handing.{AfterPush.AfterPush, AfterClaim.AfterClaim as claim, InGlobal.InGlobal as step}, place.Place.Place as at}, State.{Desk, Moved, turns}, Parts.after_push, Push.in_hand, Claim.set_of}

-- nothing is in its hands any more
abbrev pub empty_handed : Desk → Desk
empty_handed d = record d { hand = None; loot = [] }

-- A closed queue takes nothing, and all is let go.
abbrev pub appended_if : Bool → List ℕ → List ℕ → List ℕ
appended_if true global more = global
appended_if false global more = global ++ more

-- the global queue
abbrev pub append : Configuration → ℕ → Books → Common → AfterPush → Desk → List ℕ → Moved (List ℕ)
append c i me s b d global =
    turns (if s.queue_closed then after_push c i me s b d else at.Global step.LoadGlobalSet b) (empty_handed d)
    (appended_if s.queue_closed global (d.loot ++ in_hand d.hand))

-- somebody is in the set
abbrev pub has_any : Idle → Bool
has_any x = is_there (lowest_of x.published)
  where
    is_there : Option ℕ → Bool
    is_there None = false
    is_there (Some lowest) = true

-- the idle set
abbrev pub load_global_set : Configuration → ℕ → Books → Common → AfterPush → Desk → Idle → Moved Idle
load_global_set c i me s b d x =
    turns (if has_any x then at.Global (step.AddGlobalCount (set_of x)) b else after_push c i me s b d) d x

-- the search count
abbrev pub one_count_more : Idle → Idle
one_count_more x = record x { count = x.count + 1 }

abbrev pub one_count_less : Idle → Idle
one_count_less x = record x { count = x.count - 1 }

abbrev pub add_global_count : WorkerSet → AfterPush → Desk → Idle → Moved Idle
add_global_count set b d x = turns (at.ClaimWorker set (claim.Global b)) d (one_count_more x)

-- who returns the last one looks at the set again
abbrev pub return_global_count : Configuration → ℕ → Books → Common → AfterPush → Desk → Idle → Moved Idle
return_global_count c i me s b d x =
    turns (if x.count == 1 then at.Global step.LoadGlobalSet b else after_push c i me s b d) d (one_count_less x)
