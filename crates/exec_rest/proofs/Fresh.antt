-- A task that is Idle or Running began its last poll after its last wake: at first, and after each step of any party. A poll begins fresh,
-- and who is woken is Queued, Noted or over. It is a fact of the events alone, whatever is chosen and whether or not they may come.
use Rattle.std.{proofs.{Common.{◌≡◌, ℕ, zero, suc, Bool, true, false, ◌||◌, ◌&&◌, List, [], ◌∷◌, ◌++◌, Option, Some, get_or, set, refl, sym, ap, ◌∙◌, subst, inl, inr, arith}, lemmas.Bool.{false≢true, cases_Bool}}, specs.Prelude.{if◌then◌else◌, is_some, slice_get, unwrap_or}}
use Rattle.exec_outcomes.specs.{declared.outcome.OpResult.OpResult, Outcomes.refuses_hint}
use Rattle.exec_machine.specs.{declared.{config.Configuration.Configuration, event.Event.Event, state.{MailMessage.MailMessage, Next.Next, Request.Request, TaskPhase.TaskPhase}, step.Action.Action}, After.common_after, Callers.{after_going_on, after_spawn_by_call, after_wake_by_call, is_enabled}, Choice.{Choice, Payer}, Closing.{after_clear, after_next, ends_by_clear, with_cleared}, Mail.{after_message, after_post, after_sending, is_left_out, is_root_message}, Progress.{Plan, is_runnable}, Requests.{common_after_refusal, judged_of}, Run.first_tasks, Tasks.{after_over, after_payment, after_pend, after_taking, after_wake, after_word, pended_phase, wake, woken_phase}, Tests.{is_done, waits_for_nothing}, World.{Common, Own as Books, Task, no_task, own_of, task_of}}
use Rattle.exec_moves.specs.{Plays.{Playing, by_action, by_move, by_step, first_playing}, State.{Moved, Things}}
use Rattle.exec_rest.{specs.AtRest.{AreFresh, is_unnoted}, proofs.Sides.put_cases}

-- A TASK

abbrev IsFresh : Task → Type 0
IsFresh it = is_unnoted it.phase ≡ true → it.fresh ≡ true

-- what is Queued, Noted or over is fresh anyway
noted : {T : Type 0} → false ≡ true → T
noted h = absurd (false≢true h)

one_fresh : (b : Bool) (one other : Task) → IsFresh one → IsFresh other → IsFresh (if b then one else other)
one_fresh = grind arith

woken_noted : (p : TaskPhase) → is_unnoted (woken_phase p) ≡ false
woken_noted = grind arith

pended_noted : (p : TaskPhase) → is_unnoted (pended_phase p) ≡ true → is_unnoted p ≡ true
pended_noted = grind arith

-- LISTS OF TASKS

abbrev AllFresh : List Task → Type 0
AllFresh xs = (t : ℕ) → IsFresh (get_or xs t no_task)

-- one is another one
fresh_set : (xs : List Task) (k : ℕ) (a : Task) → AllFresh xs → IsFresh a → AllFresh (set xs k a)
fresh_set = grind (arith, put_cases)

-- one more
fresh_push : (xs : List Task) (a : Task) → AllFresh xs → IsFresh a → AllFresh (xs ++ a ∷ [])
fresh_push [] a all it zero = it
fresh_push [] a all it (suc t) = noted
fresh_push (x ∷ xs) a all it zero = all zero
fresh_push (x ∷ xs) a all it (suc t) = fresh_push xs a (λ n. all (suc n)) it t

first_fresh : (n i : ℕ) → AllFresh (first_tasks n i)
first_fresh zero i t = noted
first_fresh (suc n) i zero = noted
first_fresh (suc n) i (suc t) = first_fresh n (suc i) t

get_of : (xs : List Task) (t : ℕ) (it : Task) → slice_get xs t ≡ Some it → get_or xs t no_task ≡ it
get_of [] t it is = noted (ap is_some is)
get_of (x ∷ xs) zero it is = ap (λ o. unwrap_or o no_task) is
get_of (x ∷ xs) (suc t) it is = get_of xs t it is

-- of those that there are, and of those past them
of_all : (xs : List Task) → ((t : ℕ) (it : Task) → slice_get xs t ≡ Some it → IsFresh it) → AllFresh xs
of_all [] each t = noted
of_all (x ∷ xs) each zero = each zero x refl
of_all (x ∷ xs) each (suc t) = of_all xs (λ n. each (suc n)) t

to_each : (xs : List Task) → AllFresh xs → (t : ℕ) (it : Task) → slice_get xs t ≡ Some it → IsFresh it
to_each xs all t it is = subst IsFresh (get_of xs t it is) (all t)

-- PARTS OF THE COMMON STATE

abbrev Holds : Common → Type 0
Holds s = AllFresh s.tasks

one_of : (b : Bool) (one other : Common) → Holds one → Holds other → Holds (if b then one else other)
one_of = grind arith

module _ (s : Common) (all : Holds s) where
  -- one task is another one, which is fresh if it was
  put : (t : ℕ) (a : Task) → IsFresh a → AllFresh (set s.tasks t a)
  put t a it = fresh_set s.tasks t a all it

  word : (polls : Option ℕ) → Holds (after_word s polls)
  word = grind (arith, put)

  turned : (i : ℕ) (n : Next) → Holds (after_next s i n)
  turned = grind arith

  taking : (t : ℕ) → IsFresh (after_taking s (task_of s t))
  taking t = one_fresh (waits_for_nothing (task_of s t).waiting) _ _ (all t) (all t)

  payment : (polls : Option ℕ) (payer : Payer) → Holds (after_payment s polls payer)
  payment = grind (arith, put, one_fresh)

  wake_kept : (t : ℕ) → Holds (wake s t)
  wake_kept t = put t _ (λ h. noted (sym (woken_noted (task_of s t).phase) ∙ h))

  sending : (polls : Option ℕ) (m : MailMessage) → Holds (after_sending s polls m)
  sending = grind (arith, put, one_fresh)

  post : (to : ℕ) (m : MailMessage) (choice : Choice) → Holds (after_post s to m choice)
  post to m choice = one_of (is_root_message m && is_left_out choice) _ _ all all

  told : (me : Books) (m : MailMessage) → Holds (after_message me s m)
  told = grind (arith, wake_kept)

  over : (i t : ℕ) → Holds (after_over s i t)
  over i t = put t _ noted

  pend : (i t : ℕ) → Holds (after_pend s i t)
  pend i t = one_of (task_of s t).cleared _ _ (over i t) (put t _ (λ h. all t (pended_noted (task_of s t).phase h)))

  cleared : (t : ℕ) → Holds (with_cleared s t)
  cleared t = put t _ (all t)

  refusal : (it : Request) (n : OpResult) → Holds (common_after_refusal s it n)
  refusal it n = one_of (refuses_hint (judged_of it n)) _ _ all all

-- paid, and then woken
wake_paid : (s : Common) → Holds s → (me : Books) (t : ℕ) (choice : Choice) → Holds (after_wake me s t choice)
wake_paid = grind (arith, wake_kept, payment)

clear : (s : Common) → Holds s → (i t : ℕ) → Holds (after_clear s i t)
clear s all i t = one_of (ends_by_clear (task_of s t).phase) _ _ (over (with_cleared s t) (cleared s all t) i t) (cleared s all t)

-- EACH EVENT OF A WORKER

module _ (c : Configuration) (me : Books) (s : Common) (all : Holds s) (i : ℕ) where
  kept : (e : Event) (choice : Choice) → Holds (common_after c me s i e choice)
  kept = grind (arith, turned, put, pend, over, fresh_push, word, noted, clear, taking, wake_paid, refusal, post, sending, told)

-- EACH STEP

pub fresh_first : (p : Plan) → AreFresh (first_playing p)
fresh_first p = to_each (first_tasks p.config.workers 0) (first_fresh p.config.workers 0)

spawn_by_call : (s : Common) → Holds s → (k : ℕ) (e : Event) → Holds (after_spawn_by_call s k e)
spawn_by_call = grind (arith, fresh_push, noted)

wake_by_call : (s : Common) → Holds s → (t : ℕ) (e : Event) (choice : Choice) → Holds (after_wake_by_call s t e choice)
wake_by_call = grind (arith, wake_kept, post)

going_on : (s : Common) → Holds s → (j : ℕ) (e : Event) → Holds (after_going_on s j e)
going_on = grind arith

module _ (c : Configuration) (x : Playing) (all : Holds x.world.common) where
  abbrev s : Common
  s = x.world.common

  by_worker : (i : ℕ) (m : Moved Things) → Holds (by_move c x i m).next.world.common
  by_worker i m = kept c (own_of x.world i) s all i m.event m.choice

  by_any : (a : Action) → Holds (by_action c x a).next.world.common
  by_any = grind (arith, by_worker, spawn_by_call, wake_by_call, going_on)

-- a step that is not enabled changes nothing
pub fresh_goes_on : (c : Configuration) (x : Playing) → AreFresh x → (a : Action) → AreFresh (by_step c x a).next
fresh_goes_on c x held a = elim (cases_Bool (is_enabled x.world.common a)) [
  | inl may ↦ rw may (to_each (by_action c x a).next.world.common.tasks (by_any c x (of_all x.world.common.tasks held) a))
  | inr off ↦ rw off held
]

-- WHERE NOTHING IS RUNNABLE

-- what is not to be polled nor in a poll is Idle or over
resting : (p : TaskPhase) (b : Bool) → (is_unnoted p ≡ true → b ≡ true) → is_runnable p ≡ false → (is_done p || b) ≡ true
resting = grind arith

pub woken_by : (x : Playing) → AreFresh x → (t : ℕ) (it : Task) → slice_get x.world.common.tasks t ≡ Some it → is_runnable it.phase ≡ false → (is_done it.phase || it.fresh) ≡ true
woken_by x held t it is rests = resting it.phase it.fresh (held t it is) rests
