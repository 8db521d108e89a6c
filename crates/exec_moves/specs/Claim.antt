-- Moves of a claim, by which a published worker gets a search count, and of the signal that follows it.
--
-- A claim exchanges the idle set for one without its lowest worker. A signal puts the latch into the wake word of a worker;
-- where that waits, and nobody has signalled it before, its wait is ended by a second step.
use Rattle.std.specs.Prelude.{ℕ, Bool, true, false, List, [], ◌∷◌, slice_set, Option, Some, None, if◌then◌else◌}
use Rattle.exec_words.specs.{declared.{idle.WorkerSet.WorkerSet, word.{PureWord.PureWord, WaitTarget.{WaitTarget, WaitTarget as target}}}, Idle.{Idle, lowest_of}, Word.asks_signal}
use Rattle.exec_machine.specs.{declared.{config.Configuration.Configuration, event.Event.{Event, TheVariants.{Turn, Rouse}}}, World.{Common, seat_of, Own as Books}, Tests.is_awake}
use Rattle.exec_moves.specs.{declared.{handing.{AfterClaim.{AfterClaim, AfterClaim as claim}, AfterSignal.{AfterSignal, AfterSignal as signal}, InGlobal.InGlobal as global, InKick.InKick as kicks, InSignal.InSignal as signals}, place.Place.{Place, Place as at}}, State.{WakePoll, Desk, Moved, does, turns, goes, raised}, Parts.after_signal}

-- CLAIM

abbrev pub same_bools : List Bool → List Bool → Bool
same_bools [] [] = true
same_bools (true ∷ xs) (true ∷ ys) = same_bools xs ys
same_bools (false ∷ xs) (false ∷ ys) = same_bools xs ys
same_bools _ _ = false

-- the set as it was loaded
abbrev pub set_of : Idle → WorkerSet
set_of x = record { has = x.published }

-- what comes of an exchange of the set: this worker was claimed; another set was found; or nobody is in it
pub data Claimed : Type 0 where
  Worker : ℕ → Claimed
  Again : WorkerSet → Claimed
  Nobody : Claimed

abbrev pub claimed_if : Bool → WorkerSet → Option ℕ → Claimed
claimed_if same found None = Nobody
claimed_if true found (Some lowest) = Worker lowest
claimed_if false found (Some lowest) = Again found

abbrev pub claimed : WorkerSet → Idle → Claimed
claimed seen x = claimed_if (same_bools seen.has x.published) (set_of x) (lowest_of x.published)

abbrev pub idle_after : Claimed → Idle → Idle
idle_after (Worker lowest) x = record x { published = slice_set x.published lowest false }
idle_after _ x = x

-- without a worker the reserved count is returned
abbrev pub after_nobody : AfterClaim → Place
after_nobody (claim.Kick b) = at.Kick kicks.ReturnKickCount b
after_nobody (claim.Global b) = at.Global global.ReturnGlobalCount b

abbrev pub after_claim : AfterClaim → Claimed → Place
after_claim b (Worker lowest) = at.Signal signals.SetLatch lowest (signal.Claim b)
after_claim b (Again found) = at.ClaimWorker found b
after_claim b Nobody = after_nobody b

abbrev pub claim_worker : WorkerSet → AfterClaim → Desk → Idle → Moved Idle
claim_worker seen b d x = turns (after_claim b (claimed seen x)) d (idle_after (claimed seen x) x)

-- SIGNAL

abbrev pub is_ring : WaitTarget → Bool
is_ring target.Ring = true
is_ring _ = false

abbrev pub latched : PureWord → PureWord
latched w = record w { latch = true }

-- the wake word of worker j
abbrev pub set_latch : Configuration → ℕ → Books → Common → ℕ → AfterSignal → Desk → PureWord → Moved PureWord
set_latch c i me s j b d w =
    turns (if asks_signal w then at.Signal (signals.Raise (is_ring w.target)) j b else after_signal c i me s b d) d (latched w)

-- the ring of worker j has a wake raised where it was armed for that; and who sleeps is roused
abbrev pub raised_if : Bool → WakePoll → WakePoll
raised_if true p = raised p
raised_if false p = p

abbrev pub rousing : Common → ℕ → Event
rousing s j = if is_awake (seat_of s j).rest then Turn else Rouse j

abbrev pub raise : Configuration → ℕ → Books → Common → Bool → ℕ → AfterSignal → Desk → WakePoll → Moved WakePoll
raise c i me s ring j b d p = does (rousing s j) (goes (after_signal c i me s b d) d) (raised_if ring p)
