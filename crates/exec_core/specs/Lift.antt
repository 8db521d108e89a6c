-- From a step of one party to a step of the whole.
use Rattle.std.specs.{List.list_all, Prelude.{Bool, List, None, Option, Some, [], false, length, map, nat_le, nat_lt, not, option_to_list, slice_get, slice_set, suc, true, zero, ℕ, ◌&&◌, ◌++◌, ◌+◌, ◌<◌, ◌||◌, ◌≡◌}}
use Rattle.exec_core.specs.{Words.{LAST_MOMENT, OpResult, window_of, is_lawful, Said, Start, Configuration, Event, Line, Did, Code, Root, Waits, Action, after_landing, Choice, World, Common, asked_of, cursor_of, is_awake, has_ended, is_flying, Follows, after_event, Plan, Desk, WakePoll, wake_poll_of, passed, set_wake_poll, Played, Playing, by_action, by_step, last_told, IsCountable, IsBorn, Spot, Views, Visible, own_of, visible, with_view, desk_of, common_of, things_with, Record, Chair, Worker, PerformsAll, StepsWith, Sound, Beside, Suits, Same, CallBeside, CallSound, CallWorks, CallSuits, call_of, desk_of_caller, is_free, Caller, StandTogether, IsPaced}, Steady.{IsSteady, IsSteadyThere, KeepsOn}, declared.executor.Core.Core}

-- WHICH STEPS MAY BE TAKEN, by the seats, the records and the callers

abbrev pub has_begun : Option Chair → Bool
has_begun None = false
has_begun (Some chair) = not (has_ended chair.phase)

abbrev pub sleeps : Option Chair → Bool
sleeps None = false
sleeps (Some chair) = not (is_awake chair.rest)

abbrev pub may_land_in : Option Record → OpResult → Bool
may_land_in None given = false
may_land_in (Some record_of) given =
    let it = record_of.shown in is_flying it.phase && is_lawful (window_of (asked_of it.operation) (cursor_of it.operation)) given

abbrev pub all_left_of : List Chair → Bool
all_left_of seats = list_all (λ seat. seat.left || not seat.pool) seats

abbrev pub may_work_in : List Chair → Option Chair → Bool
may_work_in seats None = false
may_work_in seats (Some chair) =
    is_awake chair.rest && not (has_ended chair.phase) && not (chair.pool && chair.left && not (all_left_of seats))

-- there is such a caller, and it has no call half done, or it has one
abbrev pub may_call_in : Option Caller → Bool
may_call_in None = false
may_call_in (Some caller) = is_free caller.place

abbrev pub may_go_on_in : Option Caller → Bool
may_go_on_in None = false
may_go_on_in (Some caller) = not (is_free caller.place)

module _ {B : Type 0} where
  abbrev pub may_take : Core B → Action → Bool
  may_take c (Action.Work i) = may_work_in c.shared.seats.items (slice_get c.shared.seats.items i)
  may_take c (Action.Clock d) = nat_le (c.shared.clock + d) LAST_MOMENT
  may_take c (Action.Land r n) = may_land_in (slice_get c.shared.requests.items r) n
  may_take c (Action.SetBusy i) = has_begun (slice_get c.shared.seats.items i)
  may_take c (Action.EndPoll i) = has_begun (slice_get c.shared.seats.items i)
  may_take c (Action.Stir i) = sleeps (slice_get c.shared.seats.items i)
  may_take c (Action.Peer l) = nat_lt l (length c.shared.listeners.items)
  may_take c (Action.Spawn j k) = may_call_in (slice_get c.callers.items j)
  may_take c (Action.Wake j t) = may_call_in (slice_get c.callers.items j) && nat_lt t (length c.shared.tasks.items)
  may_take c (Action.GoOn j) = may_go_on_in (slice_get c.callers.items j)

  -- There are workers and callers, and they stand together.
  pub record Stands (c : Core B) : Type 0 where
    pub some : 0 < length c.workers.items
    pub callers : length c.callers.items ≡ 16
    pub together : StandTogether c.workers.items c.callers.items c.shared

  -- Which steps may be taken can be asked of it, also once it is spent: it has as many seats as workers, and the bytes of each
  -- direct read can be counted.
  pub record CanBeAsked (c : Core B) : Type 0 where
    pub seats : length c.workers.items ≡ length c.shared.seats.items
    pub countable : (k : ℕ) (r : Record) → slice_get c.shared.requests.items k ≡ Some r → IsCountable r.shown.operation

  -- what is visible of each worker and each caller
  abbrev pub views : Core B → Views
  views c = record { workers = map visible c.workers.items; calls = map (λ (x : Caller). call_of x.place) c.callers.items }

  -- What is visible of worker i has become what this makes of it, and nothing else can be told apart.
  pub record Sees (i : ℕ) (change : Visible → Visible) (c d : Core B) : Type 0 where
    pub before : Worker
    pub after : Worker
    pub was : slice_get c.workers.items i ≡ Some before
    pub now : d ≡ record c { workers = d.workers }
    pub workers : d.workers.items ≡ slice_set c.workers.items i after
    pub own : own_of after ≡ own_of before
    pub desk : desk_of after ≡ desk_of before
    pub seen : visible after ≡ change (visible before)
    pub index : after.index ≡ before.index
    pub sound : Sound after d.shared
    pub beside : Beside before c.shared after d.shared

-- it is a step of an outside caller
abbrev pub is_call : Action → Bool
is_call (Action.Spawn j k) = true
is_call (Action.Wake j t) = true
is_call (Action.GoOn j) = true
is_call _ = false

-- where the script of the root of worker i begins
abbrev pub code_of_root : ℕ → Code
code_of_root zero = Root
code_of_root (suc i) = Waits

module _ {B L : Type 0} (left : B → L) (spot : L → Option Said → Spot) where
  -- what the machine has of an executor, for a plan
  abbrev pub world : Plan → Core B → World
  world p c = record { workers = map own_of c.workers.items; common = common_of left spot p (views c) c.shared }

  -- and what the moves have
  abbrev pub playing : Plan → Core B → Playing
  playing p c =
      record {
        world = world p c;
        desks = map desk_of c.workers.items;
        callers = map desk_of_caller c.callers.items;
        things = things_with (views c) c.shared;
      }

  -- what is left of a step of worker i for which there was no memory
  pub record WorkerStays (i : ℕ) (c d : Core B) : Type 0 where
    pub before : Worker
    pub after : Worker
    pub was : slice_get c.workers.items i ≡ Some before
    pub workers : d.workers.items ≡ slice_set c.workers.items i after
    pub callers : d.callers ≡ c.callers
    pub same : Same left spot before c.shared after d.shared

  -- The ring of worker i has taken the wakes that were raised for it, and more: its wake poll and its desk have become what
  -- these make of them, and all that is shared this.
  pub record Rings (i : ℕ) (poll : WakePoll → WakePoll) (desk : Desk → Desk) (all : Common → Common) (c d : Core B) : Type 0 where
    pub before : Worker
    pub after : Worker
    pub was : slice_get c.workers.items i ≡ Some before
    pub workers : d.workers.items ≡ slice_set c.workers.items i after
    pub callers : d.callers ≡ c.callers
    pub spent : d.spent ≡ c.spent
    pub own : own_of after ≡ own_of before
    pub desk_is : desk_of after ≡ desk (desk_of before)
    pub index : after.index ≡ before.index
    pub config : d.shared.config ≡ c.shared.config
    pub tasks : d.shared.tasks ≡ c.shared.tasks
    pub sound : Sound after d.shared
    pub beside : Beside before c.shared after d.shared
    pub things : (p : Plan) (vs : Views) → Suits p vs before c.shared → things_with (with_view vs before.index (visible after)) d.shared ≡ set_wake_poll before.index (things_with vs c.shared) (poll (wake_poll_of (things_with vs c.shared) before.index))
    pub common : (p : Plan) (vs : Views) → Suits p vs before c.shared → common_of left spot p (with_view vs before.index (visible after)) d.shared ≡ all (common_of left spot p vs c.shared)

  -- the next completion of its wake poll is its last
  abbrev pub EndsPoll : ℕ → Core B → Core B → Type 0
  EndsPoll i c d = Rings i last_told (λ desk. desk) (λ x. x) c d

  -- The result of this request has landed on the ring of its worker, who is awake by it.
  pub record Lands (request : ℕ) (given : OpResult) (c d : Core B) : Type 0 where
    pub it : Record
    pub there : slice_get c.shared.requests.items request ≡ Some it
    pub rings : Rings it.shown.worker passed (λ desk. record desk { others = 0 }) (λ x. after_landing x request given) c d

  -- a step of caller j by this action
  pub record Calls (a : Action) (j : ℕ) (c : Core B) (e : Event) (d : Core B) : Type 0 where
    pub before : Caller
    pub after : Caller
    pub was : slice_get c.callers.items j ≡ Some before
    pub callers : d.callers.items ≡ slice_set c.callers.items j after
    pub workers : d.workers ≡ c.workers
    pub spent : d.spent ≡ c.spent
    pub works : (p : Plan) (vs : Views) → CallSuits p vs j before c.shared → CallWorks left spot p vs a j before c.shared e after d.shared
    pub sound : CallSound after d.shared
    pub beside : CallBeside before c.shared after d.shared

  -- What a step of any party does that may be taken: its event follows in the machine's state, by some choice; and the
  -- executor then is what the step comes to by the moves. Only a call changes a caller.
  pub record Takes (p : Plan) (c : Core B) (a : Action) (e : Event) (d : Core B) : Type 0 where
    pub choice : Choice
    pub follows : Follows p.config (world p c) a (Did e) choice
    pub becomes : world p d ≡ after_event p.config (world p c) a e choice
    pub callers : is_call a ≡ false → d.callers ≡ c.callers
    pub goes : (let it : Played = record { told = (record { action = a; said = Did e }, choice); next = playing p d } in by_action p.config (playing p c) a ≡ it)

  -- what is left of a step for which there was no memory: nothing can be told apart
  abbrev pub IsAsBefore : Core B → Core B → Type 0
  IsAsBefore c d = (p : Plan) → playing p d ≡ playing p c

module _ {B L : Type 0} (left : B → L) (runs : L → Plan → Option ℕ → Type 0) (holds : L → Option Said → List ℕ) where
  -- It stands, no step got no memory, and its tasks perform this plan.
  pub record IsReady (p : Plan) (c : Core B) : Type 0 where
    pub stands : Stands c
    pub unspent : c.spent ≡ false
    pub config : c.shared.config ≡ p.config
    pub performs : PerformsAll left runs holds p c.shared

module _ {B L : Type 0} (left : B → L) (runs : L → Plan → Option ℕ → Type 0) (holds : L → Option Said → List ℕ) (spot : L → Option Said → Spot) where
  -- the body begins the script of the root of worker i in the plan
  pub record IsRootOf (p : Plan) (i : ℕ) (body : B) : Type 0 where
    pub runs_it : runs (left body) p (Some i)
    pub begins : spot (left body) (Some Start) ≡ record { code = code_of_root i; place = 0; adapters = []; call = None }
    pub holds_nothing : holds (left body) (Some Start) ≡ []

  -- the bodies begin the roots of the plan
  pub record IsPlanOf (p : Plan) (c : Configuration) (roots : List B) : Type 0 where
    pub config : p.config ≡ c
    pub many : length roots ≡ c.workers
    pub each : (i : ℕ) (body : B) → slice_get roots i ≡ Some body → IsRootOf p i body

  -- the body that a step carries: that of the task which a caller spawns
  abbrev pub Carries : (L → ℕ) → Plan → Action → Option B → Type 0
  Carries name p (Action.Spawn j k) body = (b : B) × (body ≡ Some b) × (name (left b) ≡ k) × IsBorn runs holds spot p k (left b)
  Carries name p a body = Unit {0}

  -- The configuration stays, and what the tasks perform; a task that a caller made performs what it carried.
  pub record Keeps (name : L → ℕ) (a : Action) (body : Option B) (c d : Core B) : Type 0 where
    pub config : d.shared.config ≡ c.shared.config
    pub performs : (p : Plan) → c.shared.config ≡ p.config → Carries name p a body → PerformsAll left runs holds p c.shared → PerformsAll left runs holds p d.shared

  -- what a step of worker i does, which may have made a worker
  pub record WorkerSteps (i : ℕ) (c : Core B) (e : Event) (d : Core B) : Type 0 where
    pub before : Worker
    pub after : Worker
    pub born : Option Worker
    pub was : slice_get c.workers.items i ≡ Some before
    pub workers : d.workers.items ≡ slice_set c.workers.items i after ++ option_to_list born
    pub callers : d.callers ≡ c.callers
    pub spent : d.spent ≡ c.spent
    pub steps : StepsWith left runs holds spot born before c.shared e after d.shared

  -- what an executor is, for a plan
  pub record Shows (p : Plan) (c : Core B) (x : Playing) : Type 0 where
    pub config : c.shared.config ≡ p.config
    pub performs : PerformsAll left runs holds p c.shared
    pub is : playing left spot p c ≡ x

  -- What a step of any party does: it is that of the moves, and its line follows in the machine; it keeps what each state has, so
  -- that where all workers sleep nothing is left; and a quiet one of a worker costs some of what that has left.
  pub record Applies (p : Plan) (x : Playing) (a : Action) (l : Line) (d : Core B) : Type 0 where
    pub step_told : l.action ≡ a
    pub tells : l ≡ (by_step p.config x a).told.0
    pub shows : Shows p d (by_step p.config x a).next
    pub follows : Follows p.config x.world a l.said (by_step p.config x a).told.1
    pub rests : IsSteady p.config x → IsSteadyThere p.config (by_step p.config x a).next
    pub turns : (n : ℕ) → IsSteady p.config x → IsPaced n p.config x → KeepsOn n p.config x a
