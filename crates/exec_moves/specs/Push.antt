-- Moves of a push of the runnable in the hand into the own run queue.
use Rattle.std.specs.Prelude.{ℕ, ◌&&◌, List, [], ◌∷◌, nat_le, Option, Some, None, if◌then◌else◌}
use Rattle.exec_words.specs.{declared.head.{Fit.{Fit, Fit as fit}, Head.Head}, Queue.{Queue, head_of, fit_of, published, overflowed, newest, restored}}
use Rattle.exec_machine.specs.{declared.config.Configuration.Configuration, World.{Common, Own as Books}}
use Rattle.exec_moves.specs.{declared.{handing.{AfterPush.AfterPush, AfterKick.AfterKick as kick, InGlobal.InGlobal as global, InKick.InKick as kicks, InPush.InPush as step}, place.Place.{Place, Place as at}}, State.{Desk, Moved, turns}, Parts.{has_others, after_push}, Pop.same_head}

-- the runnable in the hand, if there is one
abbrev pub in_hand : Option ℕ → List ℕ
in_hand None = []
in_hand (Some t) = t ∷ []

abbrev pub after_fit : AfterPush → Head → Fit → Place
after_fit b h (fit.Room len) = at.Push (step.StoreValue len) b
after_fit b h fit.Overflow = at.Push (step.FlowOver h) b
after_fit b h _ = at.Global global.Append b

abbrev pub load_push_head : AfterPush → Desk → Queue ℕ → Moved (Queue ℕ)
load_push_head b d q = turns (after_fit b (head_of q) (fit_of q)) d q

-- with two values others could steal, so somebody is to search
abbrev pub after_store : Configuration → ℕ → Books → Common → ℕ → AfterPush → Desk → Place
after_store c i me s len b d =
    if nat_le 2 len && has_others c then at.Kick kicks.LoadKickCount (kick.Push b) else after_push c i me s b d

abbrev pub store_value : Configuration → ℕ → Books → Common → ℕ → AfterPush → Desk → Queue ℕ → Moved (Queue ℕ)
store_value c i me s len b d q =
    turns (after_store c i me s len b d) (record d { hand = None }) (published q (in_hand d.hand))

-- the newest half goes into the hands; a head that has changed is loaded again
abbrev pub flow_over : AfterPush → Head → Desk → Queue ℕ → Moved (Queue ℕ)
flow_over b h d q =
    if same_head h (head_of q) then turns (at.Push step.StoreOldest b) (record d { loot = newest q }) (overflowed q)
    else turns (at.Push step.LoadPushHead b) d q

abbrev pub store_oldest : AfterPush → Desk → Queue ℕ → Moved (Queue ℕ)
store_oldest b d q = turns (at.Global global.Append b) d (restored q)
