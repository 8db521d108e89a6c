-- Steps of outside callers: how the whole takes them, and what a task that they make performs. Then a step that may want memory, by
-- what came of it, and what a step that may be taken finds.
use Rattle.std.{proofs.{Common.{◌≡◌, ℕ, ◌<◌, Bool, true, false, List, length, map, get_or, Option, refl, sym, ap, subst, ◌∙◌, slice_set, arith, Result, Ok, Err, Some, slice_get, ◌++◌, option_to_list, None}, lemmas.{Bool.{true≢false, ltb-false, not-true, ltb-true, and_parts}, List.{map-set, length-set, length-map}, Option.{slice_get_within, slice_get-get_or, get_or_from_slice_get, slice_get_past}, Result.IfOk-weaker}}, specs.Prelude.{if◌then◌else◌, is_err, IfOk, OnOk, slice_index_or, nat_lt, OnErr}}
use Rattle.exec_outcomes.specs.declared.outcome.OpResult.{OpResult}
use Rattle.exec_machine.specs.{declared.{event.{Event.Event, StepResult.TheVariants.Did}, step.Action.Action, state.Request.Request}, Callers.common_by, Choice.Choice, Progress.Plan, Run.{after_event, Follows}, World.Common, Tests.AllTrue}
use Rattle.exec_moves.specs.{Call.{Called, no_call}, MoveOfCaller.move_of_caller, Plays.{Played, Playing, by_action, by_call, caller_of}, State.{Things, Desk, WakePoll}}
use Rattle.exec_parts.{specs.{declared.parts.{record.Record.Record, shared.Shared.Shared, worker.Worker.Worker, task_slot.TaskSlot.TaskSlot}, Spots.Spot, View.{desk_of, common_of, things_with, task_seen, word_at}, Scripts.{Begins, IsBorn}, MailPosts.HaveMailboxes, Phased.{IsGoing, TurnsChair}, Records.{roused, IsCountable}}, proofs.Facts.same_Some}
use Rattle.exec_invariants.{proofs.{Still.performs_still, Lined.{mapped, unmapped}, SparedRecord.there_within}, specs.{Acting.{PerformsAll, StepsWith}, Sound.Sound, Whole.{HasWhole, IsWhole, Profile}}}
use Rattle.exec_polling.specs.{declared.caller.Caller.Caller, Calling.{CallSuits, CallWorks, call_of, desk_of_caller, with_call, SpawnsByCall, StillPerformsWith, HasCallWhole, is_free, tests_of_call}}
use Rattle.exec_steps.proofs.Together.{has_call_whole, has_whole, have_mailboxes}
use Rattle.exec_core.{proofs.{Lifting.{playing_by, world_by, stands_called, lifted, stands_again, stands_by, stands_worked, Said}, Applying.{going_there, owner_there, enabled_as, found_by, let_on_there, clock_moved, stirred, landed, set_busy, poll_ended}}, specs.{Lift.{Stands, world, playing, views, Takes, Calls, Keeps, CanBeAsked, IsAsBefore, Rings, Sees, WorkerSteps, has_begun, may_call_in, may_go_on_in, may_take, may_work_in, may_land_in, sleeps, is_call}, declared.executor.Core.Core}}

-- HOW MANY TASKS THERE ARE once a call woke one, or went on

if_tasks : (b : Bool) (s t : Common) → length t.tasks ≡ length s.tasks → length (if b then s else t).tasks ≡ length s.tasks
if_tasks = grind arith

pub wake_many : (s : Common) (j t : ℕ) (e : Event) (choice : Choice) → length (common_by s (Action.Wake j t) e choice).tasks ≡ length s.tasks
wake_many = grind (arith, length-set, if_tasks)

pub go_on_many : (s : Common) (j : ℕ) (e : Event) (choice : Choice) → length (common_by s (Action.GoOn j) e choice).tasks ≡ length s.tasks
go_on_many = grind arith

module _ {B L : Type 0} (left : B → L) (spot : L → Option Said → Spot) (a : Action) (j : ℕ) (p : Plan) (c d : Core B) (e : Event) (stands : Stands c) (config : c.shared.config ≡ p.config) (calls : Calls left spot a j c e d) where
  call_suits : CallSuits p (views c) j calls.before c.shared
  call_suits = grind (arith, mapped, length-map)

  views_called : views d ≡ with_call (views c) j (call_of calls.after.place)
  views_called = grind (arith, map-set)

  module _ (after : (choice : Choice) → after_event p.config (world left spot p c) a e choice ≡ record (world left spot p c) { common = common_by (world left spot p c).common a e choice }) where
    becomes_called : (works : CallWorks left spot p (views c) a j calls.before c.shared e calls.after d.shared) → world left spot p d ≡ after_event p.config (world left spot p c) a e works.choice
    becomes_called = grind (arith, views_called, world_by)

    -- the caller's move, and what it leads to
    pub called : is_call a ≡ true
        → (let x : Playing = playing left spot p c in by_action p.config x a ≡ by_call p.config x a j (move_of_caller p.config x.world.common (caller_of x j) x.things a))
        → ((choice : Choice) → AllTrue (tests_of_call (common_of left spot p (views c) c.shared) a e choice) → Follows p.config (world left spot p c) a (Did e) choice) → Takes left spot p c a e d
    called call by may =
        let x = playing left spot p c in
        let works = calls.works p (views c) call_suits in
        let here : caller_of x j ≡ desk_of_caller calls.before = get_or_from_slice_get (map desk_of_caller c.callers.items) j (desk_of_caller calls.before) no_call (mapped desk_of_caller c.callers.items j calls.before calls.was) in
        let done : Called Things = record { event = e; choice = works.choice; desk = desk_of_caller calls.after; thing = things_with (views c) d.shared } in
        let becomes = becomes_called works in
        let next : (by_call p.config x a j done).next ≡ playing left spot p d =
        playing_by _ _ _ _ _ _ _ _ (sym becomes) (ap (λ ws. map desk_of ws.items) (sym calls.workers))
        (sym (map-set desk_of_caller c.callers.items j calls.after) ∙ ap (map desk_of_caller) (sym calls.callers)) (ap (λ v. things_with v d.shared) (sym views_called)) in
        record {
          choice = works.choice;
          follows = may works.choice works.may;
          becomes = becomes;
          callers = λ h. absurd (true≢false (sym call ∙ h));
          goes = by ∙ ap (λ k. by_call p.config x a j (move_of_caller p.config x.world.common k x.things a)) here ∙ ap (by_call p.config x a j) works.moves
              ∙ ap (λ n. (let it : Played = record { told = (record { action = a; said = Did e }, works.choice); next = n } in it)) next;
        }

module _ {B L : Type 0} (left : B → L) (spot : L → Option Said → Spot) where
  pub call_stands : (a : Action) (j : ℕ) (c d : Core B) (e : Event) → Stands c → c.spent ≡ false → Calls left spot a j c e d → Stands d × (d.spent ≡ false)
  call_stands a j c d e stands unspent calls = (stands_called c d j calls.before calls.after stands calls.was calls.callers calls.workers calls.sound calls.beside, calls.spent ∙ unspent)

  pub peer_stands : {E : Type 0} (c d : Core B) (result : Result Event E) → Stands c → d.workers ≡ c.workers → d.callers ≡ c.callers → OnOk result (d.spent ≡ false) → d.shared ≡ record c.shared { listeners = d.shared.listeners } → ((w : Worker) → Sound w c.shared → Sound w d.shared)
      → ((x : Profile) → IsWhole x c.shared → IsWhole x d.shared) → OnOk result (Stands d × (d.spent ≡ false))
  peer_stands = grind (arith, stands_by)

  pub spawn_stands : {E : Type 0} (j k : ℕ) (c d : Core B) (result : Result Event E) → Stands c → c.spent ≡ false → IfOk result (λ e. Calls left spot (Action.Spawn j k) j c e d) → OnOk result (Stands d × (d.spent ≡ false))
  spawn_stands = grind (arith, call_stands)

  pub rings_stand : (i : ℕ) (poll : WakePoll → WakePoll) (desk : Desk → Desk) (all : Common → Common) (c d : Core B) → Stands c → c.spent ≡ false → Rings left spot i poll desk all c d → Stands d × (d.spent ≡ false)
  rings_stand i poll desk all c d stands unspent rings =
      (stands_worked c d i rings.before rings.after stands rings.was rings.workers rings.callers rings.index rings.sound rings.beside, rings.spent ∙ unspent)

  -- and of what is as it was before
  pub asked_again : (p : Plan) (c d : Core B) → CanBeAsked c → IsAsBefore left spot c d → CanBeAsked d
  asked_again p c d it same =
      let seen = same p in
      let workers : length d.workers.items ≡ length c.workers.items =
      sym (length-map d.workers.items desk_of) ∙ ap (λ (x : Playing). length x.desks) seen ∙ length-map c.workers.items desk_of in
      let seats : length d.shared.seats.items ≡ length c.shared.seats.items =
      sym (length-map d.shared.seats.items word_at) ∙ ap (λ (x : Playing). length x.things.words) seen ∙ length-map c.shared.seats.items word_at in
      record {
        seats = workers ∙ it.seats ∙ sym seats;
        countable = λ k r there.
            let was = unmapped (λ (x : Record). x.shown) c.shared.requests.items k r.shown
            (sym (ap (λ (x : Playing). slice_get x.world.common.requests k) seen) ∙ mapped (λ (x : Record). x.shown) d.shared.requests.items k r there) in
            subst (λ (x : Request). IsCountable x.operation) was.2 (it.countable k was.0 was.1);
      }

module _ {B L : Type 0} (left : B → L) (runs : L → Plan → Option ℕ → Type 0) (holds : L → Option Said → List ℕ) (spot : L → Option Said → Spot) (name : L → ℕ) where
  -- where a call makes no task, all perform what they did
  pub call_keeps : (a : Action) (j : ℕ) (c d : Core B) (e : Event) (o : Option B) → Stands c → (calls : Calls left spot a j c e d) → ((s : Common) (choice : Choice) → length (common_by s a e choice).tasks ≡ length s.tasks) → Keeps left runs holds spot name a o c d
  call_keeps a j c d e o stands calls many =
      record {
        config = (calls.beside.spares 0).config;
        performs = λ p config carries fits t slot' there'.
            let works = calls.works p (views c) (call_suits left spot a j p c d e stands config calls) in
            let as_many : length d.shared.tasks.items ≡ length c.shared.tasks.items =
            sym (length-map d.shared.tasks.items (task_seen left spot)) ∙ ap (λ x. length x.tasks) works.common ∙ many (common_of left spot p (views c) c.shared) works.choice ∙ length-map c.shared.tasks.items (task_seen left spot) in
            let within : t < length c.shared.tasks.items = subst (λ n. t < n) as_many (slice_get_within d.shared.tasks.items t slot' there') in
            let slot : TaskSlot B = get_or c.shared.tasks.items t slot' in
            let there = slice_get-get_or c.shared.tasks.items t slot' within in
            performs_still left runs holds spot p slot slot' (calls.beside.hears t slot slot' there there') (fits t slot there);
      }

  -- the task that was made performs each plan that its body does
  pub spawn_keeps : {E : Type 0} (j k : ℕ) (o : Option B) (c d : Core B) (b : B) (x x' : Caller) (result : Result Event E) → o ≡ Some b
      → IfOk result (λ e. SpawnsByCall left spot (spot (left b)) (name (left b)) x c.shared e x' d.shared)
      → IfOk result (λ e. StillPerformsWith left runs holds spot b (name (left b)) c.shared d.shared)
      → OnOk result (Keeps left runs holds spot name (Action.Spawn j k) o c d)
  spawn_keeps j k o c d b x x' (Ok e) carried made performs =
      record {
        config = (made.2.spares 0).config;
        performs = λ p is carries fits.
            let same : carries.0 ≡ b = same_Some carries.0 b (sym carries.1 ∙ carried) in
            let born : IsBorn runs holds spot p (name (left carries.0)) (left carries.0) = subst (λ n. IsBorn runs holds spot p n (left carries.0)) (sym carries.2) carries.3 in
            performs p (subst (λ y. IsBorn runs holds spot p (name (left y)) (left y)) same born) fits;
      }
  spawn_keeps j k o c d b x x' (Err y) carried made performs = tt

  -- where no task changes
  pub keeps_tasks : (a : Action) (o : Option B) (c d : Core B) → d.shared.config ≡ c.shared.config → d.shared.tasks ≡ c.shared.tasks → Keeps left runs holds spot name a o c d
  keeps_tasks = grind arith

module _ {B L E : Type 0} (left : B → L) (spot : L → Option Said → Spot) (name : L → ℕ) where
  pub spawn_calls : (j k : ℕ) (c d : Core B) (b : B) (x x' : Caller) (result : Result Event E) → name (left b) ≡ k → Begins (spot (left b)) k
      → slice_get c.callers.items j ≡ Some x → d.callers.items ≡ slice_set c.callers.items j x' → d.workers ≡ c.workers → d.spent ≡ is_err result → c.spent ≡ false
      → IfOk result (λ e. SpawnsByCall left spot (spot (left b)) (name (left b)) x c.shared e x' d.shared) → IfOk result (λ e. Calls left spot (Action.Spawn j k) j c e d)
  spawn_calls = grind arith

-- what a list has in a place, and that it has nothing there
pub item_there : {X : Type 0} (xs : List X) (i : ℕ) (x : X) → true ≡ nat_lt i (length xs) → x ≡ slice_index_or xs i x → slice_get xs i ≡ Some x
item_there xs i x within is = slice_get-get_or xs i x (ltb-true i (length xs) (sym within)) ∙ ap (λ y. Some y) (sym is)

pub item_missing : {X : Type 0} (xs : List X) (i : ℕ) → false ≡ nat_lt i (length xs) → slice_get xs i ≡ None
item_missing xs i past = slice_get_past xs i (ltb-false i (length xs) (sym past))

pub on_err : {T E : Type 0} (r : Result T E) (P : Type 0) → P → OnErr r P
on_err = grind arith

pub none_by : {X : Type 0} (o : Option X) → ((x : X) → o ≡ Some x → ⊥) → o ≡ None
none_by = grind arith

-- the worker, or the caller, that was read off the list
pub read_there : {X : Type 0} (xs : List X) (i : ℕ) (x : X) → i < length xs → x ≡ get_or xs i x → slice_get xs i ≡ Some x
read_there xs i x within is = slice_get-get_or xs i x within ∙ ap (λ y. Some y) (sym is)

-- what passes a test that none passes stands within its list
within_by : {A : Type 0} (may : Option A → Bool) (xs : List A) (i : ℕ) → may None ≡ false → may (slice_get xs i) ≡ true → i < length xs
within_by may xs i none h = (let there = found_by may (slice_get xs i) none h in slice_get_within xs i there.0 there.1)

module _ {B L E : Type 0} (left : B → L) (runs : L → Plan → Option ℕ → Type 0) (holds : L → Option Said → List ℕ) (spot : L → Option Said → Spot) where
  pub worked : (i : ℕ) (c d : Core B) (result : Result Event E) → Stands c → may_take c (Action.Work i) ≡ true → IfOk result (λ e. WorkerSteps left runs holds spot i c e d)
      → IfOk result (λ e. (p : Plan) → c.shared.config ≡ p.config → PerformsAll left runs holds p c.shared → Takes left spot p c (Action.Work i) e d)
  worked i c d result stands may steps = IfOk-weaker result _ _ (λ e it p config performs. lifted left runs holds spot i p c d e stands it config performs (sym (enabled_as left spot p c (Action.Work i) stands.together.seats) ∙ may)) steps

  pub work_steps : (i : ℕ) (c d : Core B) (w w' : Worker) (born : Option Worker) (result : Result Event E) → slice_get c.workers.items i ≡ Some w → d.workers.items ≡ slice_set c.workers.items i w' ++ option_to_list born → d.callers ≡ c.callers → d.spent ≡ is_err result → c.spent ≡ false
      → IfOk result (λ e. StepsWith left runs holds spot born w c.shared e w' d.shared) → IfOk result (λ e. WorkerSteps left runs holds spot i c e d)
  work_steps i c d w w' born (Ok e) was workers callers spent unspent steps = record { before = w; after = w'; born = born; was = was; workers = workers; callers = callers; spent = spent ∙ sym unspent; steps = steps }
  work_steps i c d w w' born (Err x) was workers callers spent unspent steps = tt

  pub spawn_takes : (j k : ℕ) (c d : Core B) (result : Result Event E) → Stands c → IfOk result (λ e. Calls left spot (Action.Spawn j k) j c e d)
      → IfOk result (λ e. (p : Plan) → c.shared.config ≡ p.config → PerformsAll left runs holds p c.shared → Takes left spot p c (Action.Spawn j k) e d)
  spawn_takes j k c d result stands calls = IfOk-weaker result _ _ (λ e it p config performs. called left spot (Action.Spawn j k) j p c d e stands config it (λ choice. refl) refl refl (λ choice may. may)) calls

module _ {B : Type 0} where
  pub work_within : (c : Core B) (i : ℕ) → Stands c → may_take c (Action.Work i) ≡ true → i < length c.workers.items
  work_within c i stands may = (let inside = within_by (may_work_in c.shared.seats.items) c.shared.seats.items i refl may in omega (arith, inside, stands.together.seats))

  pub begun_within : (c : Core B) (i : ℕ) → Stands c → has_begun (slice_get c.shared.seats.items i) ≡ true → i < length c.workers.items
  begun_within c i stands may = (let inside = within_by has_begun c.shared.seats.items i refl may in omega (arith, inside, stands.together.seats))

  pub was_read : (c : Core B) (i : ℕ) (xs : List Worker) (w : Worker) → Stands c → may_take c (Action.Work i) ≡ true → xs ≡ c.workers.items → w ≡ get_or xs i w → slice_get c.workers.items i ≡ Some w
  was_read c i xs w stands may same is = read_there c.workers.items i w (work_within c i stands may) (is ∙ ap (λ ys. get_or ys i w) same)

  pub goes_there : (c : Core B) (i : ℕ) (w : Worker) → Stands c → may_take c (Action.Work i) ≡ true → slice_get c.workers.items i ≡ Some w → IsGoing w.index c.shared.seats.items
  goes_there c i w stands may there chair found =
      going_there c.shared.seats.items (slice_get c.shared.seats.items i) may chair (ap (slice_get c.shared.seats.items) (sym (stands.together.sound i w there).0) ∙ found)

  pub whole_there : (c : Core B) (i : ℕ) (w : Worker) → Stands c → slice_get c.workers.items i ≡ Some w → HasWhole w c.shared
  whole_there c i w stands there = has_whole c.workers.items c.callers.items c.shared stands.together i w there

  pub chair_many : (c : Core B) (t : Shared B) (i : ℕ) → may_take c (Action.Stir i) ≡ true → TurnsChair i roused c.shared t → length t.seats.items ≡ length c.shared.seats.items
  chair_many c t i may turns =
      let chair = found_by sleeps (slice_get c.shared.seats.items i) refl may in
      ap (λ xs. length xs) (turns chair.0 chair.1) ∙ length-set c.shared.seats.items i (roused chair.0)

  pub lands_within : (c : Core B) (r : ℕ) (n : OpResult) → may_take c (Action.Land r n) ≡ true → r < length c.shared.requests.items
  lands_within c r n may = within_by (λ o. may_land_in o n) c.shared.requests.items r refl may

  -- which steps may be taken can be asked of what stands: the two parts of a direct read fit
  pub asked : (c : Core B) → Stands c → CanBeAsked c
  asked c stands =
      let fit : (k : ℕ) (r : Record) → slice_get c.shared.requests.items k ≡ Some r → IsCountable r.shown.operation = λ k r there direct.
      let owner = owner_there c k r stands there in
      let at = stands.together.sound r.shown.worker owner.0 owner.1 in
      let bounded = (at.1.flown.plain k r there (sym at.0)).bounded in
      omega (arith, bounded) in
      record { seats = stands.together.seats; countable = fit }

  -- CALLERS

  pub calling_within : (c : Core B) (j : ℕ) → may_go_on_in (slice_get c.callers.items j) ≡ true → j < length c.callers.items
  calling_within c j may = within_by may_go_on_in c.callers.items j refl may

  pub call_within : (c : Core B) (j : ℕ) → may_call_in (slice_get c.callers.items j) ≡ true → j < length c.callers.items
  call_within c j may = within_by may_call_in c.callers.items j refl may

  pub free_there : (c : Core B) (j : ℕ) (x : Caller) → may_call_in (slice_get c.callers.items j) ≡ true → slice_get c.callers.items j ≡ Some x → is_free x.place ≡ true
  free_there c j x may there = subst (λ o. may_call_in o ≡ true) there may

  pub calling_there : (c : Core B) (j : ℕ) (x : Caller) → may_go_on_in (slice_get c.callers.items j) ≡ true → slice_get c.callers.items j ≡ Some x → is_free x.place ≡ false
  calling_there c j x may there = not-true (is_free x.place) (subst (λ o. may_go_on_in o ≡ true) there may)

  pub call_whole : (c : Core B) (j : ℕ) (x : Caller) → Stands c → slice_get c.callers.items j ≡ Some x → HasCallWhole x c.shared
  call_whole c j x stands there =
      let w = there_within c.workers.items 0 stands.some in
      has_call_whole c.workers.items c.callers.items c.shared stands.together 0 w.0 w.1 j x there

  pub mailboxes : (c : Core B) → Stands c → HaveMailboxes c.shared
  mailboxes c stands = have_mailboxes c.workers.items c.callers.items c.shared stands.together

  -- WHAT STANDS after a step of no party, or of a ring

  pub seats_stand : (c d : Core B) → Stands c → c.spent ≡ false → d.workers ≡ c.workers → d.callers ≡ c.callers → d.spent ≡ c.spent → length d.shared.seats.items ≡ length c.shared.seats.items
      → d.shared.config ≡ c.shared.config → d.shared.tasks ≡ c.shared.tasks → d.shared.requests ≡ c.shared.requests → d.shared.sleepers ≡ c.shared.sleepers → d.shared.set ≡ c.shared.set
      → ((w : Worker) → Sound w c.shared → Sound w d.shared) → ((x : Profile) → IsWhole x c.shared → IsWhole x d.shared) → Stands d × (d.spent ≡ false)
  seats_stand c d stands unspent workers callers spent many config tasks requests sleepers set sound whole = (stands_by c d stands workers callers many config tasks requests sleepers set sound whole, spent ∙ unspent)

  pub sees_stand : (c d : Core B) (i : ℕ) (sees : Sees i (λ seen. record seen { busy = true }) c d) → Stands c → c.spent ≡ false → Stands d × (d.spent ≡ false)
  sees_stand c d i sees stands unspent =
      (stands_worked c d i sees.before sees.after stands sees.was sees.workers (ap (λ (x : Core B). x.callers) sees.now) sees.index sees.sound sees.beside, ap (λ (x : Core B). x.spent) sees.now ∙ unspent)

-- what a function of the executor wants of the worker or the caller that it read, and each line that is no worker's and no caller's
pub ruleset worker_read = (was_read, goes_there, let_on_there)

pub ruleset caller_read = (and_parts, ltb-true, read_there, call_within, calling_within, free_there, calling_there, call_whole, mailboxes)

pub ruleset lines_taken = (clock_moved, stirred, landed, set_busy, poll_ended, keeps_tasks, stands_again)
