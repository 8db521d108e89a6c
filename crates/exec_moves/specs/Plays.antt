-- Logs by moves: what a trace of a pool gives, step by step.
--
-- The machine says what may happen; the moves say what does. So the lines of a log by moves are not chosen: each is what
-- the move at the party's place tells, and the next is told from where that move leads.
use Rattle.std.specs.Prelude.{◌≡◌, ℕ, zero, suc, Bool, true, false, not, ◌+◌, ◌==◌, ◌&&◌, ◌++◌, List, [], ◌∷◌, replicate, slice_index_or, slice_set, Some, None, if◌then◌else◌}
use Rattle.exec_base.specs.Spinner.{begun}
use Rattle.exec_machine.specs.{declared.{config.Configuration.Configuration, event.{Event.{TheVariants.{Dedicated, Land, Clock, Set, Stir, Peer}, Event}, StepResult.TheVariants.Did}, step.{Action.Action, Step.{Step, Step as step}}, state.{Letter.Letter, Next.Next}}, Choice.Choice.Plain, World.{World, Common, own_of, seat_of, request_of}, Same.{same_number, same_message}, Tests.all_numbered, Callers.{is_enabled, may_go_on}, Run.{after_event, after_steps, is_run}, Progress.{Plan, begin}, Examples.{Example, Told, says, refuses, lines_of, choices_of}}
use Rattle.exec_moves.specs.{declared.place.Place.Place as at, State.{Desk, Things, WakePoll, Moved, no_queue, no_word, no_wake_poll, wake_poll_of, passed}, Slots.no_slots, Thing.set_wake_poll, Pop.shard_count, Call.{CallDesk, Called, no_call}, Move.move, MoveOfCaller.move_of_caller, Seen.{polls_at, next_at, owes_at, left_at, serves_at, is_calling}}
use Rattle.exec_machine.specs.declared.step.Action.TheVariants as action
use Rattle.exec_machine.specs.declared.state.Next.TheVariants as next

-- an executor: what the machine knows of it, what each worker and each caller has of its own, and what they share
pub record Playing : Type 0 where
  pub world : World
  pub desks : List Desk
  pub callers : List CallDesk
  pub things : Things

-- a worker that begins: its root is to be polled. Its generator begins at the number after its own.
abbrev pub first_desk : Configuration → ℕ → Desk
first_desk c i =
    record {
      place = at.BeginTurn;
      countdown = c.interval;
      picks = 0;
      root_ready = true;
      may_put_off = false;
      put_off = false;
      wakes = [];
      outputs = 0;
      completions = [];
      results = [];
      requests = no_slots;
      timers = no_slots;
      awaited = [];
      entries = 0;
      polled = false;
      others = 0;
      batch = [];
      processed = 0;
      spinner = begun (record { budget_us = c.spin.budget; max_budget_us = c.spin.most; quick_wake_us = c.spin.quick }) c.spin.iterations;
      read = 0;
      slept = None;
      searching = false;
      rng = i + 1;
      hand = None;
      loot = [];
      letters = [];
    }

-- so many workers from this number on
abbrev pub first_desks : Configuration → ℕ → ℕ → List Desk
first_desks c zero i = []
first_desks c (suc more) i = first_desk c i ∷ first_desks c more (suc i)

abbrev pub first_things : Configuration → Things
first_things c =
    record {
      queues = replicate c.workers no_queue;
      words = replicate c.workers no_word;
      inboxes = replicate c.workers [];
      wake_polls = replicate c.workers no_wake_poll;
      global = [];
      idle = record { published = replicate 64 false; count = 0 };
      barrier = false;
      shards = replicate (shard_count c) [];
      gates = replicate c.files [];
      answers = [];
      alarms = [];
    }

abbrev pub first_playing : Plan → Playing
first_playing p =
    record {
      world = begin p;
      desks = first_desks p.config p.config.workers 0;
      callers = replicate 16 no_call;
      things = first_things p.config;
    }

abbrev pub desk_of : Configuration → Playing → ℕ → Desk
desk_of c p i = slice_index_or p.desks i (first_desk c i)

abbrev pub caller_of : Playing → ℕ → CallDesk
caller_of p j = slice_index_or p.callers j no_call

-- what a step comes to: what is told of it, and the executor then
pub record Played : Type 0 where
  pub told : Told
  pub next : Playing

-- the worker that a step makes
abbrev pub newcomers : Configuration → Event → List Desk
newcomers c (Dedicated t j) = first_desk c j ∷ []
newcomers c _ = []

-- a step of worker i
abbrev pub by_move : Configuration → Playing → ℕ → Moved Things → Played
by_move c p i m =
    record {
      told = (record { action = action.Work i; said = Did m.event }, m.choice);
      next =
          record {
            world = after_event c p.world (action.Work i) m.event m.choice;
            desks = slice_set p.desks i m.desk ++ newcomers c m.event;
            callers = p.callers;
            things = m.thing;
          };
    }

-- a step of caller j
abbrev pub by_call : Configuration → Playing → Action → ℕ → Called Things → Played
by_call c p a j m =
    record {
      told = (record { action = a; said = Did m.event }, m.choice);
      next =
          record {
            world = after_event c p.world a m.event m.choice;
            desks = p.desks;
            callers = slice_set p.callers j m.desk;
            things = m.thing;
          };
    }

-- a step of the clock, the kernel or a peer, of which this is told
abbrev pub by_event : Configuration → Playing → Action → Event → Played
by_event c p a e = record { told = says a e; next = record p { world = after_event c p.world a e Plain } }

-- what lands stands behind all other completions
abbrev pub with_none_behind : Configuration → ℕ → Playing → Playing
with_none_behind c i p =
    record p {
      desks = slice_set p.desks i (record (desk_of c p i) { others = 0 });
      things = set_wake_poll i p.things (passed (wake_poll_of p.things i));
    }

-- the next completion of the wake poll of worker i is its last
abbrev pub last_told : WakePoll → WakePoll
last_told w = record w { last = true }

abbrev pub with_last_told : ℕ → Playing → Playing
with_last_told i p = record p { things = set_wake_poll i p.things (last_told (wake_poll_of p.things i)) }

abbrev pub by_action : Configuration → Playing → Action → Played
by_action c p (action.Work i) = by_move c p i (move c i (own_of p.world i) p.world.common (desk_of c p i) p.things)
by_action c p (action.Spawn j k) =
    by_call c p (action.Spawn j k) j (move_of_caller c p.world.common (caller_of p j) p.things (action.Spawn j k))
by_action c p (action.Wake j t) =
    by_call c p (action.Wake j t) j (move_of_caller c p.world.common (caller_of p j) p.things (action.Wake j t))
by_action c p (action.GoOn j) =
    by_call c p (action.GoOn j) j (move_of_caller c p.world.common (caller_of p j) p.things (action.GoOn j))
by_action c p (action.Clock d) = by_event c p (action.Clock d) Clock
by_action c p (action.Land r n) =
    by_event c (with_none_behind c (request_of p.world.common r).worker p) (action.Land r n) Land
by_action c p (action.SetBusy i) = by_event c p (action.SetBusy i) Set
by_action c p (action.EndPoll i) = by_event c (with_last_told i p) (action.EndPoll i) Set
by_action c p (action.Stir i) = by_event c p (action.Stir i) Stir
by_action c p (action.Peer l) = by_event c p (action.Peer l) Peer

-- A step that isn't enabled is refused, and changes nothing.
abbrev pub by_step : Configuration → Playing → Action → Played
by_step c p a = if is_enabled p.world.common a then by_action c p a else record { told = refuses a; next = p }

-- From this executor on each line, with what it leaves open, is what its step tells, and the next comes from where that
-- step leads.
abbrev pub GoesByMoves : Configuration → Playing → List Told → Type 0
GoesByMoves c p [] = Unit {0}
GoesByMoves c p (it ∷ told) = (it ≡ (by_step c p it.0.action).told) × GoesByMoves c (by_step c p it.0.action).next told

-- A log by moves: each of the steps has its lines, and these go by moves from the first state on.
pub record Plays (p : Plan) (steps : List Step) (told : List Told) : Type 0 where
  pub has_lines : after_steps steps (lines_of told) ≡ Some []
  pub moves : GoesByMoves p.config (first_playing p) told

-- THE LOG OF A TRACE

-- one step, and then the rest of the log
abbrev pub told_with : (Playing → List Told) → Played → List Told
told_with later x = x.told ∷ later x.next

-- So many steps of the worker, up to the first that is refused; and then the rest.
abbrev pub told_of_work : Configuration → ℕ → ℕ → (Playing → List Told) → Playing → List Told
told_of_work c i zero later p = later p
told_of_work c i (suc n) later p =
    if is_enabled p.world.common (action.Work i)
    then told_with (told_of_work c i n later) (by_action c p (action.Work i))
    else refuses (action.Work i) ∷ later p

abbrev pub told_of_one : Configuration → Action → (Playing → List Told) → Playing → List Told
told_of_one c a later p = if is_enabled p.world.common a then told_with later (by_action c p a) else refuses a ∷ later p

-- the log of these steps
abbrev pub told_of : Configuration → List Step → Playing → List Told
told_of c [] p = []
told_of c (step.Work i n ∷ steps) p = told_of_work c i n (told_of c steps) p
told_of c (step.One a ∷ steps) p = told_of_one c a (told_of c steps) p

-- What the machine has of each party is what its place says.
abbrev pub same_next : Next → Next → Bool
same_next next.Free next.Free = true
same_next (next.Joins r) (next.Joins q) = r == q
same_next next.ClosesQueue next.ClosesQueue = true
same_next next.ClosesMailbox next.ClosesMailbox = true
same_next _ _ = false

abbrev pub same_bool : Bool → Bool → Bool
same_bool true b = b
same_bool false b = not b

abbrev pub same_letters : List Letter → List Letter → Bool
same_letters [] [] = true
same_letters (l ∷ ls) (k ∷ ks) = (l.to == k.to) && same_message l.message k.message && same_letters ls ks
same_letters _ _ = false

abbrev pub is_worker_as_seen : Configuration → World → ℕ → Desk → Bool
is_worker_as_seen c w i d =
    let me = own_of w i in
    same_number me.polls (polls_at d.place) && same_next me.next (next_at d.place)
    && same_bool me.serving (serves_at d.place) && same_letters me.owed (owes_at c d)
    && same_bool (seat_of w.common i).left (left_at (seat_of w.common i).pool d.place)

abbrev pub is_caller_as_seen : Common → ℕ → CallDesk → Bool
is_caller_as_seen s j d = same_bool (may_go_on s j) (is_calling d.place)

abbrev pub is_as_seen : Configuration → Playing → Bool
is_as_seen c p =
    all_numbered (is_worker_as_seen c p.world) 0 p.desks && all_numbered (is_caller_as_seen p.world.common) 0 p.callers

-- so it is after each line
abbrev pub work_is_as_seen : Configuration → ℕ → ℕ → (Playing → Bool) → Playing → Bool
work_is_as_seen c i zero later p = later p
work_is_as_seen c i (suc n) later p =
    is_as_seen c p
    && (if is_enabled p.world.common (action.Work i)
    then work_is_as_seen c i n later (by_action c p (action.Work i)).next
    else later p)

abbrev pub are_as_seen : Configuration → List Step → Playing → Bool
are_as_seen c [] p = is_as_seen c p
are_as_seen c (step.Work i n ∷ steps) p = work_is_as_seen c i n (are_as_seen c steps) p
are_as_seen c (step.One a ∷ steps) p =
    if is_enabled p.world.common a then are_as_seen c steps (by_action c p a).next else are_as_seen c steps p

-- the log of a trace
abbrev pub log_by_moves : Plan → List Step → List Told
log_by_moves p steps = told_of p.config steps (first_playing p)

-- The log by moves is the one that was told, a run of the machine, and at each of its lines the place says what the
-- machine has of each party.
pub record IsPlayed (e : Example) : Type 0 where
  pub lines : lines_of (log_by_moves e.plan e.steps) ≡ lines_of e.told
  pub runs : is_run e.plan.config (begin e.plan) (lines_of (log_by_moves e.plan e.steps)) (choices_of (log_by_moves e.plan e.steps)) ≡ true
  pub seen : are_as_seen e.plan.config e.steps (first_playing e.plan) ≡ true
