-- Steps of callers, of the clock, the kernel and the peers: they may wake a task or make one, and leave what is told to tasks as it is.
use Rattle.std.proofs.{Common.{◌≡◌, ℕ, zero, suc, Bool, true, false, ◌&&◌, ◌||◌, List, [], ◌∷◌, ◌++◌, get_or, set, Option, refl, sym, ap, ◌∙◌, inl, inr, arith}, lemmas.Bool.{true≢false, false≢true, and_parts, cases_Bool}}
use Rattle.exec_outcomes.specs.declared.outcome.OpResult.{OpResult}
use Rattle.exec_machine.specs.{declared.{config.Configuration.Configuration, event.Event.{Event, Event as event}, state.{MailMessage.MailMessage, Request.Request, Waiting.Waiting as waiting}, step.Action.{Action, Action as action}}, Callers.{after_spawn_by_call, after_wake_by_call, is_enabled}, Choice.Choice, Mail.{after_post, is_left_out, is_root_message}, Progress.is_runnable, Tasks.woken, Tests.{is_done, is_ready, is_resolved}, World.{Common, Task, no_request, no_task, request_of, task_of}}
use Rattle.exec_moves.specs.{declared.place.Place.Place, Call.CallDesk, MoveOfCaller.call_wake, Plays.{Playing, by_action, desk_of, first_desk}, Poll.is_noted, State.{Desk, Things}}
use Rattle.exec_rest.proofs.CallHeeds.{set_at}
use Rattle.exec_settled.{specs.Awaited.IsAwaited, proofs.{AwaitedTasks.{is_for_thing, woken_done, woken_noticed, woken_runnable}, SettledLike.flying_live}}
use Rattle.exec_machine.specs.declared.state.RequestPhase.TheVariants as phase

-- ONE TASK: the same, woken, or made

pub record Stirred (x y : Task) : Type 0 where
  pub waits : is_done y.phase ≡ false → is_for_thing y.waiting ≡ true → (x.waiting ≡ y.waiting) × (is_done x.phase ≡ false)
  pub runs : is_runnable x.phase ≡ true → is_runnable y.phase ≡ true
  pub noted : (is_ready x.phase || is_noted x.phase) ≡ true → (is_ready y.phase || is_noted y.phase) ≡ true

unstirred : (x : Task) → Stirred x x
unstirred x = record { waits = λ on h. (refl, on); runs = λ h. h; noted = λ h. h }

woken_stirred : (x : Task) → Stirred x (woken x)
woken_stirred x = record { waits = λ on h. (refl, sym (woken_done x.phase) ∙ on); runs = woken_runnable x.phase; noted = woken_noticed x.phase }

-- ALL TASKS, requests and sleepers

record Quiet (s s' : Common) : Type 0 where
  pub tasks : (t : ℕ) → Stirred (task_of s t) (task_of s' t)
  pub requests : s'.requests ≡ s.requests
  pub sleepers : s'.sleepers ≡ s.sleepers

as_it_is : (s s' : Common) → s'.tasks ≡ s.tasks → s'.requests ≡ s.requests → s'.sleepers ≡ s.sleepers → Quiet s s'
as_it_is = grind (arith, unstirred)

made : (xs : List Task) (y : Task) → y.waiting ≡ waiting.Nothing → (t : ℕ) → Stirred (get_or xs t no_task) (get_or (xs ++ y ∷ []) t no_task)
made [] y none zero = record { waits = λ on h. absurd (true≢false (sym h ∙ ap is_for_thing none)); runs = λ h. absurd (false≢true h); noted = λ h. absurd (false≢true h) }
made [] y none (suc t) = unstirred no_task
made (x ∷ xs) y none zero = unstirred x
made (x ∷ xs) y none (suc t) = made xs y none t

wakes : (xs : List Task) (u t : ℕ) → Stirred (get_or xs t no_task) (get_or (set xs u (woken (get_or xs u no_task))) t no_task)
wakes = grind (arith, set_at, unstirred, woken_stirred)

-- WHAT SUCH A STEP LEAVES

-- of a request
pub record Still (x y : Request) : Type 0 where
  pub worker : y.worker ≡ x.worker
  pub how : y.forwarding ≡ x.forwarding
  pub over : is_resolved y.phase ≡ is_resolved x.phase

pub record Leaves (c : Configuration) (x y : Playing) : Type 0 where
  pub tasks : (t : ℕ) → Stirred (task_of x.world.common t) (task_of y.world.common t)
  pub requests : (k : ℕ) → Still (request_of x.world.common k) (request_of y.world.common k)
  pub sleepers : y.world.common.sleepers ≡ x.world.common.sleepers
  pub place : (j : ℕ) → (desk_of c y j).place ≡ (desk_of c x j).place
  pub awaited : (j : ℕ) → (desk_of c y j).awaited ≡ (desk_of c x j).awaited
  pub wakes : (j : ℕ) → (desk_of c y j).wakes ≡ (desk_of c x j).wakes
  pub results : (j : ℕ) → (desk_of c y j).results ≡ (desk_of c x j).results
  pub completions : (j : ℕ) → (desk_of c y j).completions ≡ (desk_of c x j).completions
  pub answers : y.things.answers ≡ x.things.answers
  pub alarms : y.things.alarms ≡ x.things.alarms

module _ (c : Configuration) (x y : Playing) (leaves : Leaves c x y) (before : IsAwaited c x) where
  pub stays_awaited : IsAwaited c y
  stays_awaited =
      record {
        here = grind arith;
        woken = grind arith;
        fired = grind arith;
        answered = grind arith;
        alarmed = grind arith;
      }

-- EACH STEP

abbrev pub is_work : Action → Bool
is_work (action.Work i) = true
is_work _ = false

unmoved : (x : Request) → Still x x
unmoved x = record { worker = refl; how = refl; over = refl }

spawned : (s : Common) (k : ℕ) (e : Event) → Quiet s (after_spawn_by_call s k e)
spawned s k (event.Spawn t script) = record { tasks = made s.tasks _ refl; requests = refl; sleepers = refl }
spawned s k e = as_it_is s s refl refl refl

posted : (s : Common) (to : ℕ) (m : MailMessage) (choice : Choice) → Quiet s (after_post s to m choice)
posted s to m choice = elim (cases_Bool (is_root_message m && is_left_out choice)) [ inl out ↦ rw out (as_it_is s s refl refl refl) | inr in_it ↦ rw in_it (as_it_is s _ refl refl refl) ]

woken_by_call : (s : Common) (t : ℕ) (e : Event) (choice : Choice) → Quiet s (after_wake_by_call s t e choice)
woken_by_call s t (event.Wake other) choice = record { tasks = wakes s.tasks t; requests = refl; sleepers = refl }
woken_by_call s t (event.Send to m) choice = posted s to m choice
woken_by_call s t e choice = as_it_is s s refl refl refl

-- CALLERS send no ends

module _ (s : Common) (d : CallDesk) (x : Things) where
  wake_sends : (u : ℕ) (home : Option ℕ) → ((call_wake s d x u home).thing.answers ≡ x.answers) × ((call_wake s d x u home).thing.alarms ≡ x.alarms)
  wake_sends = grind arith

module _ (c : Configuration) (x : Playing) where
  abbrev s : Common
  s = x.world.common

  -- the desks are as they were
  quiet : (y : Playing) → y.desks ≡ x.desks → Quiet s y.world.common → y.things.answers ≡ x.things.answers → y.things.alarms ≡ x.things.alarms → Leaves c x y
  quiet = grind arith

  -- the common part is as it was, but for what no task waits for
  alike : (y : Playing) → y.desks ≡ x.desks → y.world.common.tasks ≡ s.tasks → y.world.common.requests ≡ s.requests → y.world.common.sleepers ≡ s.sleepers
      → y.things.answers ≡ x.things.answers → y.things.alarms ≡ x.things.alarms → Leaves c x y
  alike y desks tasks requests sleepers answers alarms = quiet y desks (as_it_is s y.world.common tasks requests sleepers) answers alarms

  lands : (r : ℕ) (n : OpResult) → is_enabled s (action.Land r n) ≡ true → (k : ℕ) → Still (request_of s k) (get_or (set s.requests r (record (request_of s r) { phase = phase.Landed n })) k no_request)
  lands = grind (arith, set_at, unmoved, and_parts, flying_live)

  -- what landed stands before the others at the desk of worker i
  one_desk : (T : Type 0) (f : Desk → T) (i : ℕ) → f (record (desk_of c x i) { others = 0 }) ≡ f (desk_of c x i) → (j : ℕ) → f (get_or (set x.desks i (record (desk_of c x i) { others = 0 })) j (first_desk c j)) ≡ f (desk_of c x j)
  one_desk = grind (arith, set_at)

  pub leaves : (a : Action) → is_enabled s a ≡ true → is_work a ≡ false → Leaves c x (by_action c x a).next
  leaves (action.Work i) may not_work = absurd (true≢false not_work)
  leaves (action.Spawn j k) may not_work = grind (arith, spawned, quiet)
  leaves (action.Wake j t) may not_work = grind (arith, woken_by_call, wake_sends, quiet)
  leaves (action.GoOn j) may not_work = grind arith
  leaves (action.Clock d) may not_work = alike (by_action c x (action.Clock d)).next refl refl refl refl refl refl
  leaves (action.Land r n) may not_work =
      let i = (request_of s r).worker in
      record {
        tasks = λ t. unstirred (task_of s t);
        requests = lands r n may;
        sleepers = refl;
        place = one_desk Place (λ d. d.place) i refl;
        awaited = one_desk (List ℕ) (λ d. d.awaited) i refl;
        wakes = one_desk (List ℕ) (λ d. d.wakes) i refl;
        results = one_desk (List ℕ) (λ d. d.results) i refl;
        completions = one_desk (List ℕ) (λ d. d.completions) i refl;
        answers = refl;
        alarms = refl;
      }
  leaves (action.SetBusy i) may not_work = alike (by_action c x (action.SetBusy i)).next refl refl refl refl refl refl
  leaves (action.EndPoll i) may not_work = alike (by_action c x (action.EndPoll i)).next refl refl refl refl refl refl
  leaves (action.Stir i) may not_work = alike (by_action c x (action.Stir i)).next refl refl refl refl refl refl
  leaves (action.Peer l) may not_work = alike (by_action c x (action.Peer l)).next refl refl refl refl refl refl
