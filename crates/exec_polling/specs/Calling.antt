-- What a step of an outside caller does.
--
-- A caller has a place and a runnable in its hand, and its call is half done from its first step on until it returns. Its
-- steps are those of the moves; what only a worker touches they leave, and the balances of all parties hold again.
use Rattle.std.specs.Prelude.{◌≡◌, ℕ, ◌+◌, ◌^◌, ◌<◌, ◌≤◌, ◌==◌, ◌&&◌, nat_lt, Bool, true, false, Contains, List, [], ◌∷◌, length, slice_get, slice_set, Option, option_map, option_to_list, Some, None, IsSome, if◌then◌else◌}
use Rattle.exec_words.specs.{Idle.{Idle, lowest_of}, Word.asks_signal, declared.{mailbox.Mailbox.Mailbox, word.PureWord.PureWord}}
use Rattle.exec_task.specs.{Phases.{is_idle, runnable_of}, declared.{body.Said.Said, runnable.Runnable.Runnable}}
use Rattle.exec_machine.specs.{declared.{event.Event.Event, state.{Call.{Call, Call as half}, MailMessage.TheVariants.Root}, step.Action.{Action, Action as action}}, Callers.{common_by, may_call, may_go_on, may_go_on_by, may_spawn_by_call, may_wake_by_call}, Choice.Choice, Progress.Plan, Tests.{AllTrue, is_resolved}, World.Common}
use Rattle.exec_moves.specs.{Call.CallDesk, Claim.{is_ring, set_of}, Global.has_any, MoveOfCaller.move_of_caller, Pop.shard_count, declared.handing.{CallPlace.{CallPlace, CallPlace as call}, InGlobal.InGlobal as global, InSignal.InSignal as signals}}
use Rattle.exec_parts.specs.{declared.parts.{mail.Subject.Subject, record.Record.Record, shared.Shared.Shared, task_slot.TaskSlot.TaskSlot}, Pooled.asks_if_sent, Scripts.{Begins, IsBorn}, Spots.Spot, View.{Views, common_of, things_with}}
use Rattle.exec_polling.specs.declared.caller.Caller.{Caller}
use Rattle.exec_invariants.specs.{Acting.PerformsAll, Hearing.Hears, Places.one_if, Sound.{AreHome, AreResting, IsConfig, IsInHand}, Spares.Spares, Whole.{IsGenuine, IsWhole, Profile, runnables_in}}

-- WHAT A CALLER HAS

abbrev pub is_free : CallPlace → Bool
is_free call.Nothing = true
is_free _ = false

-- whether a call is half done there
abbrev pub call_of : CallPlace → Call
call_of call.Nothing = half.Nothing
call_of _ = half.HalfDone

abbrev pub desk_of_caller : Caller → CallDesk
desk_of_caller c = record { place = c.place; hand = option_map (λ r. r.task.0) c.hand }

-- the runnable in its hand is to be queued
abbrev pub hands_on_in : CallPlace → Bool
hands_on_in (call.Global global.Append) = true
hands_on_in _ = false

-- it holds a search count
abbrev pub has_count_in : CallPlace → Bool
has_count_in (call.Global global.ReturnGlobalCount) = true
has_count_in (call.ClaimWorker set) = true
has_count_in _ = false

-- In a set that was loaded for a claim somebody is; who is signalled is one of so many workers.
abbrev pub CallAims : CallPlace → ℕ → Type 0
CallAims (call.Global (global.AddGlobalCount set)) count = IsSome (lowest_of set.has)
CallAims (call.ClaimWorker set) count = IsSome (lowest_of set.has)
CallAims (call.Signal x j) count = j < count
CallAims _ count = Unit {0}

-- what parties have: others, and this caller
abbrev pub with_caller : Profile → Caller → Profile
with_caller others c =
    record others {
      runnables = λ t. others.runnables t + runnables_in t (option_to_list c.hand);
      counts = others.counts + one_if (has_count_in c.place);
    }

-- WHERE A STEP LEADS

abbrev pub place_after_append : Bool → CallPlace
place_after_append true = call.Return
place_after_append false = call.Global global.LoadGlobalSet

abbrev pub place_by_set : Idle → CallPlace
place_by_set x = if has_any x then call.Global (global.AddGlobalCount (set_of x)) else call.Return

-- who returned the last count looks at the set again
abbrev pub place_by_count : Idle → CallPlace
place_by_count x = if x.count == 1 then call.Global global.LoadGlobalSet else call.Return

abbrev pub place_by_word : ℕ → PureWord → CallPlace
place_by_word worker w = if asks_signal w then call.Signal (signals.Raise (is_ring w.target)) worker else call.Return

-- the first message of a batch asks for a signal
abbrev pub place_by_mail : ℕ → Mailbox Subject Subject → CallPlace
place_by_mail home m = if asks_if_sent Root m then call.Signal signals.SetLatch home else call.Return

module _ {B : Type 0} where
  -- who woke the ordinary task of this slot: an idle one is to be queued
  abbrev pub with_woken : TaskSlot B → Caller → Caller
  with_woken slot c = if is_idle slot.cell.phase then record c { place = call.Global global.Append; hand = Some (runnable_of slot.cell) } else record c { place = call.Return }

  -- WHAT HOLDS OF A CALLER and of what it shares, between two steps

  pub record CallSound (c : Caller) (s : Shared B) : Type 0 where
    pub config : IsConfig s.config
    pub homes : AreHome s.config.workers (length s.seats.items) s.tasks.items
    pub many : s.config.workers ≤ length s.seats.items
    pub shards : length s.set.shards ≡ shard_count s.config
    pub hand : IsInHand None (hands_on_in c.place) c.hand
    pub genuine : (r : Runnable) → Contains (option_to_list c.hand) r → IsGenuine s.tasks.items r
    pub aims : CallAims c.place (length s.seats.items)

  -- what holds of it together with all other parties, whose counts are few
  pub record HasCallWhole (c : Caller) (s : Shared B) : Type 0 where
    pub others : Profile
    pub whole : IsWhole (with_caller others c) s
    pub few : others.counts < 2 ^ 63

  -- what holds of what is shared, whichever worker is asked
  pub record HoldsForAll (s : Shared B) : Type 0 where
    pub homes : AreHome s.config.workers (length s.seats.items) s.tasks.items
    pub resting : AreResting s.tasks.items
    pub owning : (k : ℕ) (r : Record) → slice_get s.requests.items k ≡ Some r → is_resolved r.shown.phase ≡ false → r.shown.released ≡ false
    pub closed : s.stopped ≡ true → s.set.closed ≡ true
    pub few : length s.requests.items ≤ 2 ^ 32

  -- What a step leaves of what other parties rely on: the own things of each worker are spared, the same holds whichever
  -- worker is asked, the balances of all hold again, and no task made an act.
  pub record CallBeside (c : Caller) (s : Shared B) (c' : Caller) (s' : Shared B) : Type 0 where
    pub spares : (j : ℕ) → Spares j s s'
    pub for_all : HoldsForAll s → HoldsForAll s'
    pub whole : (others : Profile) → IsWhole (with_caller others c) s → IsWhole (with_caller others c') s'
    pub hears : (t : ℕ) (slot slot' : TaskSlot B) → slice_get s.tasks.items t ≡ Some slot → slice_get s'.tasks.items t ≡ Some slot' → Hears slot slot'

  -- THE WHOLE STEP

  -- The executor is one of the plan, and this is visible of its workers, and of caller j.
  pub record CallSuits (p : Plan) (vs : Views) (j : ℕ) (c : Caller) (s : Shared B) : Type 0 where
    pub config : s.config ≡ p.config
    pub seen : slice_get vs.calls j ≡ Some (call_of c.place)
    pub workers : length vs.workers ≡ length s.seats.items

-- the same views, with this of caller j
abbrev pub with_call : Views → ℕ → Call → Views
with_call vs j x = record vs { calls = slice_set vs.calls j x }

-- what the event of a caller's step has to pass
abbrev pub tests_of_call : Common → Action → Event → Choice → List Bool
tests_of_call s (action.Spawn j k) e choice = may_call s j ∷ may_spawn_by_call s k e
tests_of_call s (action.Wake j t) e choice = (may_call s j && nat_lt t (length s.tasks)) ∷ may_wake_by_call s t e choice
tests_of_call s (action.GoOn j) e choice = may_go_on s j ∷ may_go_on_by s e
tests_of_call s a e choice = false ∷ []

module _ {B L : Type 0} (left : B → L) (spot : L → Option Said → Spot) where
  -- A step of caller j by this action, of a plan and beside workers of whom this is visible: it is the caller's move; the
  -- machine allows its event; and all show what the machine makes of them.
  pub record CallWorks (p : Plan) (vs : Views) (a : Action) (j : ℕ) (c : Caller) (s : Shared B) (e : Event) (c' : Caller) (s' : Shared B) : Type 0 where
    pub choice : Choice
    pub moves : move_of_caller p.config (common_of left spot p vs s) (desk_of_caller c) (things_with vs s) a ≡ record { event = e; choice = choice; desk = desk_of_caller c'; thing = things_with vs s' }
    pub may : AllTrue (tests_of_call (common_of left spot p vs s) a e choice)
    pub common : common_of left spot p (with_call vs j (call_of c'.place)) s' ≡ common_by (common_of left spot p vs s) a e choice

  -- a step of a call, which is this action of its caller
  abbrev pub CallsBy : (ℕ → Action) → Caller → Shared B → Event → Caller → Shared B → Type 0
  CallsBy by c s e c' s' = ((p : Plan) (vs : Views) (j : ℕ) → CallSuits p vs j c s → CallWorks p vs (by j) j c s e c' s') × CallSound c' s' × CallBeside c s c' s'

  -- a step further, and the first of a call that wakes task t
  abbrev pub CallSteps : Caller → Shared B → Event → Caller → Shared B → Type 0
  CallSteps c s e c' s' = CallsBy action.GoOn c s e c' s'

  abbrev pub WakesByCall : ℕ → Caller → Shared B → Event → Caller → Shared B → Type 0
  WakesByCall t c s e c' s' = CallsBy (λ j. action.Wake j t) c s e c' s'

  -- the first step of a call that makes a task of this body, which begins the script of this number in the plan
  abbrev pub SpawnsByCall : (Option Said → Spot) → ℕ → Caller → Shared B → Event → Caller → Shared B → Type 0
  SpawnsByCall begins k c s e c' s' =
      ((p : Plan) (vs : Views) (j : ℕ) → CallSuits p vs j c s → Begins begins k → CallWorks p vs (action.Spawn j k) j c s e c' s')
      × CallSound c' s' × CallBeside c s c' s'

module _ {B L : Type 0} (left : B → L) (runs : L → Plan → Option ℕ → Type 0) (holds : L → Option Said → List ℕ) (spot : L → Option Said → Spot) where
  -- All tasks perform a plan that they did, where the new body begins its script of this number.
  abbrev pub StillPerformsWith : B → ℕ → Shared B → Shared B → Type 0
  StillPerformsWith body k s s' = (p : Plan) → IsBorn runs holds spot p k (left body) → PerformsAll left runs holds p s → PerformsAll left runs holds p s'
