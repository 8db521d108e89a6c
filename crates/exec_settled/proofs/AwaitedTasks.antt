-- What an event of a worker leaves of each task: what it waits for, and whether it is to be polled or was woken.
use Rattle.std.{proofs.{Common.{◌≡◌, ℕ, zero, suc, ◌≤◌, Bool, true, false, ◌&&◌, ◌||◌, List, [], ◌∷◌, ◌++◌, length, get_or, set, Option, Some, None, if◌then◌else◌, refl, sym, subst, inl, inr, arith}, lemmas.{Bool.{cases_Bool, cases_lt}, List.{get_or_append_left, get_or_past, length-set}}}, specs.Prelude.◌⊎◌}
use Rattle.exec_machine.specs.{declared.{config.Configuration.Configuration, event.Event.{Event, Event as event}, state.{MailMessage.{MailMessage, MailMessage as message}, TaskPhase.{TaskPhase, TaskPhase as task}, Waiting.Waiting}}, After.{common_after, polled}, Allowed.Allowed, Choice.{Choice, Payer, Choice.Pays, Payer.{ByRequest, BySleeper, ByAct, ByCall, ByStop}}, Closing.{after_clear, after_turn, ends_by_clear, with_cleared}, Mail.{after_message, after_post, after_sending, awaiting, is_left_out, is_root_message}, Progress.is_runnable, Tasks.{after_over, after_payment, after_pend, after_taking, after_word, begun, may_stop, pended_phase, waits_for, woken, woken_phase}, Tests.{is_done, is_ready}, Words.moved_on, World.{Common, Own as Books, Task, no_task, task_of}}
use Rattle.exec_moves.specs.Poll.{is_noted}
use Rattle.exec_rest.proofs.CallHeeds.{set_at}
use Rattle.exec_machine.specs.declared.state.Waiting.TheVariants as waiting

-- of a task t before and after an event of worker i
pub record Tasked (s : Common) (i : ℕ) (e : Event) (t : ℕ) (x y : Task) : Type 0 where
  pub for_request : (k : ℕ) → is_done y.phase ≡ false → y.waiting ≡ waiting.Request k → (x.waiting ≡ waiting.Request k) ⊎ ((e ≡ event.Wait (Some k)) ⊎ ((to : ℕ) × (e ≡ event.Send to (message.ForwardRequest k))))
  pub for_timer : (z : ℕ) → is_done y.phase ≡ false → y.waiting ≡ waiting.Timer z → (x.waiting ≡ waiting.Timer z) ⊎ ((until : ℕ) × (e ≡ event.Timer z until))
  pub going : is_done y.phase ≡ false → (is_done x.phase ≡ false) ⊎ (y.waiting ≡ waiting.Nothing)
  pub runnable : is_runnable x.phase ≡ true → (is_runnable y.phase ≡ true) ⊎ ((is_done y.phase ≡ true) ⊎ ((e ≡ event.Pend t) × (may_stop s i x.waiting ≡ true)))
  pub noticed : (is_ready x.phase || is_noted x.phase) ≡ true → ((is_ready y.phase || is_noted y.phase) ≡ true) ⊎ ((is_done y.phase ≡ true) ⊎ (e ≡ event.Begin t))

-- what a wake leaves of a phase
pub woken_done : (p : TaskPhase) → is_done (woken_phase p) ≡ is_done p
woken_done = grind arith

pub woken_runnable : (p : TaskPhase) → is_runnable p ≡ true → is_runnable (woken_phase p) ≡ true
woken_runnable = grind arith

pub woken_noticed : (p : TaskPhase) → (is_ready p || is_noted p) ≡ true → (is_ready (woken_phase p) || is_noted (woken_phase p)) ≡ true
woken_noticed = grind arith

-- it waits for a request or a sleeper
abbrev pub is_for_thing : Waiting → Bool
is_for_thing (waiting.Request k) = true
is_for_thing (waiting.Timer z) = true
is_for_thing _ = false

module _ (s : Common) (i : ℕ) (e : Event) (t : ℕ) where
  -- the same phase, and what it waits for is the same or no such thing
  acted : (x y : Task) → y.phase ≡ x.phase → (y.waiting ≡ x.waiting) ⊎ (is_for_thing y.waiting ≡ false) → Tasked s i e t x y
  acted = grind arith

  itself : (x : Task) → Tasked s i e t x x
  itself x = acted x x refl (inl refl)

  -- it is over
  over : (x y : Task) → is_done y.phase ≡ true → Tasked s i e t x y
  over = grind arith

  -- it is made
  unborn : (x y : Task) → x ≡ no_task → y.waiting ≡ waiting.Nothing → Tasked s i e t x y
  unborn = grind arith

  -- and then it is woken
  then_woken : (x y : Task) → Tasked s i e t x y → Tasked s i e t x (woken y)
  then_woken = grind arith

-- ALL TASKS

module _ (s : Common) (i : ℕ) (e : Event) where
  abbrev AllTasked : List Task → Type 0
  AllTasked ys = (u : ℕ) → Tasked s i e u (task_of s u) (get_or ys u no_task)

  none : AllTasked s.tasks
  none u = itself s i e u (task_of s u)

  same : (ys : List Task) → ys ≡ s.tasks → AllTasked ys
  same ys is = subst AllTasked (sym is) none

  -- one more changes, after those that did
  one_more : (ys : List Task) (p : ℕ) (y : Task) → Tasked s i e p (task_of s p) y → AllTasked ys → AllTasked (set ys p y)
  one_more = grind (arith, set_at)

  one : (p : ℕ) (y : Task) → Tasked s i e p (task_of s p) y → AllTasked (set s.tasks p y)
  one p y here = one_more s.tasks p y here none

  past_waits : (ys : List Task) (y : Task) (u : ℕ) → y.waiting ≡ waiting.Nothing → length ys ≤ u → (get_or (ys ++ y ∷ []) u no_task).waiting ≡ waiting.Nothing
  past_waits [] y zero h past = h
  past_waits [] y (suc u) h past = refl
  past_waits (a ∷ ys) y zero h past = absurd (omega (arith, past))
  past_waits (a ∷ ys) y (suc u) h past = past_waits ys y u h (omega (arith, past))

  pushed : (ys : List Task) (y : Task) → length ys ≡ length s.tasks → y.waiting ≡ waiting.Nothing → AllTasked ys → AllTasked (ys ++ y ∷ [])
  pushed ys y long waits each u = elim (cases_lt u (length ys)) [
    | inl within ↦ subst (Tasked s i e u (task_of s u)) (sym (get_or_append_left ys (y ∷ []) no_task u within)) (each u)
    | inr past ↦ unborn s i e u (task_of s u) (get_or (ys ++ y ∷ []) u no_task) (get_or_past s.tasks u no_task (omega (arith, past, long))) (past_waits ys y u waits past)
  ]

  word : (polls : Option ℕ) → AllTasked (after_word s polls).tasks
  word = grind (arith, none, one, acted)

  word_long : (polls : Option ℕ) → length (after_word s polls).tasks ≡ length s.tasks
  word_long = grind (arith, length-set)

  posts : (s' : Common) (to : ℕ) (m : MailMessage) (choice : Choice) → (after_post s' to m choice).tasks ≡ s'.tasks
  posts s' to m choice = elim (cases_Bool (is_root_message m && is_left_out choice)) [ inl out ↦ rw out refl | inr in_it ↦ rw in_it refl ]

  wakes : (ys : List Task) (t : ℕ) → AllTasked ys → AllTasked (set ys t (woken (get_or ys t no_task)))
  wakes ys t each = one_more ys t (woken (get_or ys t no_task)) (then_woken s i e t (task_of s t) (get_or ys t no_task) (each t)) each

  pays : (polls : Option ℕ) (payer : Payer) → AllTasked (after_payment s polls payer).tasks
  pays polls (ByRequest r) = none
  pays polls (BySleeper z) = none
  pays None ByAct = none
  pays (Some t) ByAct = grind (arith, one, acted)
  pays polls ByCall = none
  pays polls ByStop = none

  taken : (t : ℕ) → Tasked s i e t (task_of s t) (after_taking s (task_of s t))
  taken = grind arith

  turns : (me : Books) (choice : Choice) → (after_turn me s i choice).tasks ≡ s.tasks
  turns = grind arith

  ends : (ys : List Task) (t : ℕ) (y : Task) → is_done y.phase ≡ true → AllTasked ys → AllTasked (set ys t y)
  ends ys t y done each = one_more ys t y (over s i e t (task_of s t) y done) each

  clears : (t : ℕ) → AllTasked (after_clear s i t).tasks
  clears t = by (ends_by_clear (task_of s t).phase)
    where
      marked : AllTasked (with_cleared s t).tasks
      marked = one t (record (task_of s t) { cleared = true }) (acted s i e t (task_of s t) (record (task_of s t) { cleared = true }) refl (inl refl))

      by : (b : Bool) → AllTasked (if b then after_over (with_cleared s t) i t else with_cleared s t).tasks
      by true = ends (with_cleared s t).tasks t (record (task_of (with_cleared s t) t) { phase = task.Done; held = [] }) refl marked
      by false = marked

-- EACH EVENT

begins : (s : Common) (i t : ℕ) (x : Task) → is_ready x.phase ≡ true → Tasked s i (event.Begin t) t x (begun i x)
begins = grind arith

pended_done : (p : TaskPhase) → is_done (pended_phase p) ≡ is_done p
pended_done = grind arith

pended_noticed : (p : TaskPhase) → (is_ready p || is_noted p) ≡ true → (is_ready (pended_phase p) || is_noted (pended_phase p)) ≡ true
pended_noticed = grind arith

pends : (s : Common) (i t : ℕ) → may_stop s i (task_of s t).waiting ≡ true → AllTasked s i (event.Pend t) (after_pend s i t).tasks
pends = grind (arith, pended_done, pended_noticed, ends, none, one)

waits : (s : Common) (i t k : ℕ) (x : Task) → Tasked s i (event.Wait (Some k)) t x (waits_for s x (waiting.Request k))
waits = grind arith

asks : (s : Common) (i to t k : ℕ) (x : Task) → Tasked s i (event.Send to (message.ForwardRequest k)) t x (awaiting s k x)
asks = grind arith

sleeps : (s : Common) (i t z until : ℕ) (x : Task) → Tasked s i (event.Timer z until) t x (record (moved_on s x) { waiting = waiting.Timer z })
sleeps = grind arith

sends : (s : Common) (i to : ℕ) (polls : Option ℕ) (m : MailMessage) → AllTasked s i (event.Send to m) (after_sending s polls m).tasks
sends s i to None m = none s i (event.Send to m)
sends s i to (Some t) message.Root = word s i (event.Send to message.Root) (Some t)
sends s i to (Some t) (message.ForwardRequest r) = one s i (event.Send to (message.ForwardRequest r)) t (awaiting s r (task_of s t)) (asks s i to t r (task_of s t))
sends s i to (Some t) (message.ForwardTimer z) = none s i (event.Send to (message.ForwardTimer z))
sends s i to (Some t) (message.CancelRequest r) =
    one s i (event.Send to (message.CancelRequest r)) t _ (acted s i (event.Send to (message.CancelRequest r)) t (task_of s t) _ refl (inl refl))
sends s i to (Some t) (message.CancelTimer z) = none s i (event.Send to (message.CancelTimer z))

applies : (me : Books) (s : Common) (i : ℕ) (m : MailMessage) → AllTasked s i (event.Apply m) (after_message me s m).tasks
applies = grind (arith, wakes, none)

pub tasked : (c : Configuration) (me : Books) (s : Common) (i : ℕ) (e : Event) (choice : Choice) → Allowed c me s i e choice → AllTasked s i e (common_after c me s i e choice).tasks
tasked c me s i event.Turn choice a = same s i event.Turn (after_turn me s i choice).tasks (turns s i event.Turn me choice)
tasked c me s i (event.Begin t) choice a = one s i (event.Begin t) t (begun i (task_of s t)) (begins s i t (task_of s t) a.1.1.0)
tasked c me s i (event.Pend t) choice a = pends s i t a.1.1.0
tasked c me s i (event.Done t) choice a = ends s i (event.Done t) s.tasks t _ refl (none s i (event.Done t))
tasked c me s i (event.Fault t n) choice a = ends s i (event.Fault t n) s.tasks t _ refl (none s i (event.Fault t n))
tasked c me s i (event.Spawn t k) choice a = pushed s i (event.Spawn t k) (after_word s me.polls).tasks _ (word_long s i (event.Spawn t k) me.polls) refl (word s i (event.Spawn t k) me.polls)
tasked c me s i (event.Dedicated t j) choice a = pushed s i (event.Dedicated t j) (after_word s me.polls).tasks _ (word_long s i (event.Dedicated t j) me.polls) refl (word s i (event.Dedicated t j) me.polls)
tasked c me s i event.Closed choice a = word s i event.Closed me.polls
tasked c me s i (event.Clear t) choice a = clears s i (event.Clear t) t
tasked c me s i (event.Admit r kind outcome) choice a = one s i (event.Admit r kind outcome) (polled me) _ (acted s i (event.Admit r kind outcome) (polled me) (task_of s (polled me)) _ refl (inl refl))
tasked c me s i (event.Wait None) choice a = one s i (event.Wait None) (polled me) _ (acted s i (event.Wait None) (polled me) (task_of s (polled me)) (waits_for s (task_of s (polled me)) waiting.Wake) refl (inr refl))
tasked c me s i (event.Wait (Some k)) choice a = one s i (event.Wait (Some k)) (polled me) _ (waits s i (polled me) k (task_of s (polled me)))
tasked c me s i (event.Got r outcome) choice a = grind (arith, one, acted)
tasked c me s i (event.Drop r) choice a = one s i (event.Drop r) (polled me) _ (acted s i (event.Drop r) (polled me) (task_of s (polled me)) _ refl (inl refl))
tasked c me s i (event.Timer z until) choice a = one s i (event.Timer z until) (polled me) _ (sleeps s i (polled me) z until (task_of s (polled me)))
tasked c me s i (event.GotTimer z) choice a = one s i (event.GotTimer z) (polled me) _ (taken s i (event.GotTimer z) (polled me))
tasked c me s i event.Pass choice a = one s i event.Pass (polled me) _ (taken s i event.Pass (polled me))
tasked c me s i (event.Wake t) (Pays payer) a = wakes s i (event.Wake t) (after_payment s me.polls payer).tasks t (pays s i (event.Wake t) me.polls payer)
tasked c me s i (event.Wake t) choice a = none s i (event.Wake t)
tasked c me s i (event.Reap r n outcome) choice a = grind arith
tasked c me s i (event.Send to m) choice a = subst (AllTasked s i (event.Send to m)) (sym (posts s i (event.Send to m) (after_sending s me.polls m) to m choice)) (sends s i to me.polls m)
tasked c me s i (event.Apply m) choice a = applies me s i m
tasked c me s i e choice a = none s i e
