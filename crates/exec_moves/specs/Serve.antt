-- Moves of a service, but for its middle: sampling, completions, permits, the last enter, sleepers.
use Rattle.std.specs.Prelude.{ℕ, suc, Bool, false, not, ◌+◌, ◌&&◌, ◌||◌, List, [], ◌∷◌, drop, length, nat_le, slice_get, Option, Some, None, if◌then◌else◌}
use Rattle.exec_outcomes.specs.{declared.outcome.{OpResult.{OpResult, TheVariants.Count}, Outcome.Outcome}, Accounts.is_durable}
use Rattle.exec_words.specs.{Word.asks_signal, declared.word.PureWord.PureWord}
use Rattle.exec_machine.specs.{declared.{config.Configuration.Configuration, event.Event.{Event, TheVariants.{Serve, Enter, Busy, Reap, Fire, Rouse}}, state.{RequestPhase.{RequestPhase, RequestPhase as phase}, Request.Request}}, World.{Common, request_of, sleeper_of, seat_of, Own as Books}, Tests.{is_awake, is_empty, is_asleep, is_open}, Requests.{outcome_given, outcome_shown, account_of_open}, Deadlines.is_none_earlier}
use Rattle.exec_moves.specs.{declared.{place.{AfterPermit.{AfterPermit, AfterPermit as permit}, AfterService.{AfterService, AfterService as back}, InService.{InService, InService as step}, Reaping.{Reaping, Reaping as reaping}, Service.Service, Place.{Place, Place as at}, InCallbacks.InCallbacks as callback, InMail.InMail as mail}, handing.AfterCallbacks.AfterCallbacks as after}, State.{WakePoll, Desk, Moved, Own, does, serves, taken_in, others_left, is_dropped, dropped}, Claim.{is_ring, latched, raised_if}, Callback.{has_callbacks, has_requests}, Told.{told_if_ended, told_of_fire}, Slots.first_in, Load.has_submissions}

-- the latch goes out of the wake word
abbrev pub unlatched : PureWord → PureWord
unlatched w = record w { latch = false }

-- the wake word; that it samples the clock is the machine's `serve`
abbrev pub sample : Service → Desk → PureWord → Moved PureWord
sample v d w = serves (at.Service (step.Reap reaping.First) v) d (unlatched w)

-- THE RING: set busy or not, what has landed there in order, and its wake poll
pub record Ring : Type 0 where
  pub busy : Bool
  pub landed : List ℕ
  pub wakes : WakePoll

-- COMPLETIONS

-- what follows a reaping that found all, or a permit that was given up
abbrev pub after_permit : AfterPermit → InService
after_permit (permit.Reap r) = step.Reap r
after_permit (permit.Reaped reaping.First) = step.AdvanceWheel
after_permit (permit.Reaped reaping.Last) = step.EndService
after_permit (permit.Submit gate) = step.Submit gate

-- another completion of an operation is there, or none
abbrev pub back_from_reap : Reaping → List ℕ → AfterPermit
back_from_reap r [] = permit.Reaped r
back_from_reap r (next ∷ later) = permit.Reap r

-- a durable request that is over gives its permit up
abbrev pub after_reap : Request → Option Outcome → AfterPermit → InService
after_reap it None b = after_permit b
after_reap it (Some outcome) b = if is_durable it.operation.kind then step.PassPermit it.operation.target b else after_permit b

-- What of no operation stands before the next completion of one, or at the end, is dropped. The completion that ended the
-- wake poll may be among that.
abbrev pub others_after_reap : List ℕ → WakePoll → Desk → Desk
others_after_reap later w d = record d { others = others_left later d.others; polled = d.polled && not (is_dropped later w.ended) }

-- these are left there
abbrev pub reaped : List ℕ → Ring → Ring
reaped later x = record x { landed = later; wakes = dropped later x.wakes }

abbrev pub result_in : RequestPhase → OpResult
result_in (phase.Landed n) = n
result_in _ = Count 0

-- the ring
abbrev pub reap : ℕ → Service → Reaping → Common → Desk → Ring → Moved Ring
reap i v r s d x = by_landed x.landed
  where
    told : List ℕ → ℕ → Request → OpResult → Option Outcome → Moved Ring
    told later q it n given =
        does
        (Reap q n (outcome_shown (account_of_open s it) it.operation.kind given))
        (record (told_if_ended given q it (others_after_reap later x.wakes d)) { place = at.Service (after_reap it given (back_from_reap r later)) v })
        (reaped later x)

    judged : List ℕ → ℕ → Request → OpResult → Moved Ring
    judged later q it n = told later q it n (outcome_given it n)

    by_landed : List ℕ → Moved Ring
    by_landed [] = serves (at.Service (after_permit (permit.Reaped r)) v) (others_after_reap [] x.wakes d) (reaped [] x)
    by_landed (q ∷ later) = judged later q (request_of s q) (result_in (request_of s q).phase)

-- PERMITS. The machine passes a permit on as its request ends. Others see that only once the gate is left.

abbrev pub after_passing : Option ℕ → AfterPermit → InService
after_passing None b = after_permit b
after_passing (Some worker) b = step.Signal worker b

abbrev pub worker_of : Common → Option ℕ → Option ℕ
worker_of s None = None
worker_of s (Some r) = Some (request_of s r).worker

-- the gate: who stands first in it leaves
abbrev pub left_by_first : List ℕ → List ℕ
left_by_first gate = drop 1 gate

abbrev pub pass_permit : Service → AfterPermit → Common → Desk → List ℕ → Moved (List ℕ)
pass_permit v b s d gate =
    serves (at.Service (after_passing (worker_of s (slice_get (left_by_first gate) 0)) b) v) d (left_by_first gate)

-- the wake word of the next holder's worker, which is worker j: its own too
abbrev pub after_latch : ℕ → AfterPermit → PureWord → InService
after_latch j b w = if asks_signal w then step.Raise (is_ring w.target) j b else after_permit b

abbrev pub signal : ℕ → Service → AfterPermit → Desk → PureWord → Moved PureWord
signal j v b d w = serves (at.Service (after_latch j b w) v) d (latched w)

-- the wait of worker j is ended
abbrev pub rousing_in_service : Common → ℕ → Event
rousing_in_service s j = if is_awake (seat_of s j).rest then Serve else Rouse j

abbrev pub raise_in_service : Bool → ℕ → Service → AfterPermit → Common → Desk → WakePoll → Moved WakePoll
raise_in_service ring j v b s d p =
    does (rousing_in_service s j) (record d { place = at.Service (after_permit b) v }) (raised_if ring p)

-- THE LAST ENTER

abbrev pub advance_wheel : Service → Desk → Moved Own
advance_wheel v d = serves (at.Service (step.Submit 0) v) d tt

-- With requests an enter follows the staging, unless it may be put off, and nothing is to be told or staged.
abbrev pub enters : Configuration → ℕ → Service → Books → Common → Desk → Bool
enters c i v me s d = has_requests i s && (not v.defer || has_callbacks me d || has_submissions c me)

abbrev pub after_staging : Configuration → ℕ → Service → Books → Common → Desk → Desk
after_staging c i v me s d =
    record d {
      place = at.Service (if enters c i v me s d then step.EnterLast else step.Reap reaping.Last) v;
      may_put_off = v.defer;
      put_off = has_requests i s && not (enters c i v me s d);
    }

-- The kernel takes all entries in, unless the ring was set busy: each cancel is acknowledged at once.
abbrev pub entered : ℕ → Desk → Desk
entered cancels d = record d { entries = 0; others = d.others + cancels }

-- the ring: a busy one takes nothing, once
abbrev pub enter : Books → Desk → Ring → Moved Ring
enter me d x =
    if x.busy then does Busy d (record x { busy = false })
    else does Enter (entered (length me.untold) d) (record x { wakes = taken_in d.polled x.wakes })

abbrev pub at_place : {T : Type 0} → Place → Moved T → Moved T
at_place p m = record m { desk = record m.desk { place = p } }

abbrev pub enter_last : Service → Books → Desk → Ring → Moved Ring
enter_last v me d x = at_place (at.Service (step.Reap reaping.Last) v) (enter me d x)

-- SLEEPERS

-- the first number, from n on, whose element passes the test
abbrev pub first_numbered : {X : Type 0} → (ℕ → X → Bool) → ℕ → List X → Option ℕ
first_numbered test n [] = None
first_numbered test n (x ∷ xs) = if test n x then Some n else first_numbered test (suc n) xs

-- The first sleeper of the worker that is due by the sampled moment, of an open worker: of those of one moment that in the
-- first slot.
abbrev pub is_to_fire : ℕ → Books → Common → ℕ → Bool
is_to_fire i me s z =
    let it = sleeper_of s z in is_asleep i it && nat_le it.until me.sampled && is_none_earlier i it.until s.sleepers

abbrev pub first_to_fire : ℕ → Books → Common → Desk → Option ℕ
first_to_fire i me s d = if is_open (seat_of s i).phase then first_in (is_to_fire i me s) d.timers.held else None

abbrev pub after_service : AfterService → Desk → Place
after_service back.Mail d = if is_empty d.batch then at.Mail mail.LoadMailWord else at.Mail (mail.Apply 0 false)
after_service back.Begin d = at.Callbacks callback.TakeBatch after.Begin
after_service back.Finish d = at.Callbacks callback.TakeBatch after.Finish

abbrev pub end_service : ℕ → Service → Books → Common → Desk → Moved Own
end_service i v me s d = fired (first_to_fire i me s d)
  where
    fired : Option ℕ → Moved Own
    fired None = serves (after_service v.back d) d tt
    fired (Some z) = does (Fire z) (told_of_fire z (sleeper_of s z) d) tt
