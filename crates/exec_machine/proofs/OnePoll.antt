-- A task is polled by at most one worker: who polls a task is told by the task's phase.
use Rattle.std.proofs.{Common.{◌≡◌, ℕ, zero, suc, Bool, true, false, ◌&&◌, ◌==◌, if◌then◌else◌, List, [], ◌∷◌, ◌++◌, Option, Some, None, refl, sym, ◌∙◌, ap, subst, arith, inl, inr, get_or, set}, lemmas.Bool.{true≢false, cases_Bool, eq-eqb}}
use Rattle.exec_machine.{specs.{declared.{config.Configuration.Configuration, step.Action.{Action, Action as action}, event.{Event.{Event, Event as event}, StepResult.{StepResult, TheVariants.{Refused, Did}}, Line.Line}, state.{Waiting.Waiting, MailMessage.MailMessage, Operation.Operation, TaskPhase.TaskPhase as task}}, Choice.{Choice, Payer, Choice.{Plain, Passes, Pays, Posts}}, World.{World, Own, Task, Common, own_of, task_of, request_of, no_own, no_task}, Tests.{is_ready, waits_for_nothing}, Words.{next_word, moved_on, asks_yield}, Same.is_none, Requests.{asked_now, judged_of, own_after_admit, own_after_drop, after_reap}, Deadlines.sampled_now, Tasks.{woken, pended_phase, begun, own_after_drops, own_after_waking_up, own_after_over, after_pend, after_word, owes, after_taking, after_waking_word, after_payment, after_wake, wake}, Mail.{after_sending, after_post, after_send, awaiting, after_apply, own_after_letter, own_after_apply, is_root_message, is_left_out}, Closing.{after_turn, own_after_turn, with_cleared, own_after_clear, after_clear, ends_by_clear}, Allowed.Allowed, After.{polled, own_after, common_after, made_by}, Callers.{after_spawn_by_call, after_wake_by_call, after_going_on}, Run.{Follows, RunsBy, after_event, after_line, world_after, first_owns}, Progress.{Plan, begin}}, proofs.{Polled.{is_polled_by, one_poller, woken_polled, ready_unpolled, cleared_unpolled, none_some, some_same}, SameIs.is_number_is}}
use Rattle.exec_outcomes.specs.{declared.outcome.{OpResult.OpResult, Outcome.Outcome}, Outcomes.refuses_hint, Accounts.is_durable}
use Rattle.exec_machine.specs.declared.state.MailMessage.TheVariants as message

-- TASKS

-- worker j polls each task that it polled
pub record PollsOn (j : ℕ) (ts us : List Task) : Type 0 where
  pub each : (t : ℕ) → is_polled_by j (get_or ts t no_task).phase ≡ true → is_polled_by j (get_or us t no_task).phase ≡ true

same_tasks : {j : ℕ} {ts : List Task} → PollsOn j ts ts
same_tasks = record { each = λ t h. h }

tasks_as_before : {j : ℕ} {ts us : List Task} → us ≡ ts → PollsOn j ts us
tasks_as_before {j} {ts} same = subst (λ us. PollsOn j ts us) (sym same) same_tasks

PollsOn-trans : {j : ℕ} {ts us vs : List Task} → PollsOn j ts us → PollsOn j us vs → PollsOn j ts vs
PollsOn-trans a b = record { each = λ t h. b.each t (a.each t h) }

set_task_on : (j : ℕ) (ts : List Task) (q : ℕ) (y : Task) (t : ℕ) → (is_polled_by j (get_or ts q no_task).phase ≡ true → is_polled_by j y.phase ≡ true)
    → is_polled_by j (get_or ts t no_task).phase ≡ true → is_polled_by j (get_or (set ts q y) t no_task).phase ≡ true
set_task_on j [] q y t keeps h = h
set_task_on j (x ∷ xs) zero y zero keeps h = keeps h
set_task_on j (x ∷ xs) zero y (suc t) keeps h = h
set_task_on j (x ∷ xs) (suc q) y zero keeps h = h
set_task_on j (x ∷ xs) (suc q) y (suc t) keeps h = set_task_on j xs q y t keeps h

one_task : {j : ℕ} (ts : List Task) (q : ℕ) (y : Task) → (is_polled_by j (get_or ts q no_task).phase ≡ true → is_polled_by j y.phase ≡ true) → PollsOn j ts (set ts q y)
one_task {j} ts q y keeps = record { each = λ t h. set_task_on j ts q y t keeps h }

push_task_on : (j : ℕ) (ts : List Task) (y : Task) (t : ℕ) → is_polled_by j (get_or ts t no_task).phase ≡ true → is_polled_by j (get_or (ts ++ y ∷ []) t no_task).phase ≡ true
push_task_on j [] y t h = absurd (true≢false (sym h))
push_task_on j (x ∷ xs) y zero h = h
push_task_on j (x ∷ xs) y (suc t) h = push_task_on j xs y t h

one_more_task : {j : ℕ} (ts : List Task) (y : Task) → PollsOn j ts (ts ++ y ∷ [])
one_more_task {j} ts y = record { each = push_task_on j ts y }

-- a task in the same phase
same_phase : {j : ℕ} (ts : List Task) (q : ℕ) (y : Task) → y.phase ≡ (get_or ts q no_task).phase → PollsOn j ts (set ts q y)
same_phase {j} ts q y same = one_task ts q y (λ h. subst (λ p. is_polled_by j p ≡ true) (sym same) h)

word_on : {j : ℕ} (s : Common) (polls : Option ℕ) → PollsOn j s.tasks (after_word s polls).tasks
word_on s None = same_tasks
word_on s (Some t) = same_phase s.tasks t (moved_on s (task_of s t)) refl

turn_same : (me : Own) (s : Common) (i : ℕ) (choice : Choice) → (after_turn me s i choice).tasks ≡ s.tasks
turn_same = grind arith

post_same : (s : Common) (to : ℕ) (m : MailMessage) (choice : Choice) → (after_post s to m choice).tasks ≡ s.tasks
post_same s to m choice =
    elim (cases_Bool (is_root_message m && is_left_out choice)) [ inl out ↦ rw out refl | inr in_it ↦ rw in_it refl ]

taking_phase : (s : Common) (t : Task) → (after_taking s t).phase ≡ t.phase
taking_phase s t = elim (cases_Bool (waits_for_nothing t.waiting)) [ inl passed ↦ rw passed refl | inr failed ↦ rw failed refl ]

awaiting_phase : (s : Common) (r : ℕ) (t : Task) → (awaiting s r t).phase ≡ t.phase
awaiting_phase s r t = elim (cases_Bool (waits_for_nothing t.waiting)) [ inl passed ↦ rw passed refl | inr failed ↦ rw failed refl ]

waking_phase : (s : Common) (t : Task) → (after_waking_word s t).phase ≡ t.phase
waking_phase s t = elim (cases_Bool (asks_yield (next_word s t))) [ inl passed ↦ rw passed refl | inr failed ↦ rw failed refl ]

woken_on : {j : ℕ} (s : Common) (t : ℕ) → PollsOn j s.tasks (wake s t).tasks
woken_on {j} s t = one_task s.tasks t (woken (task_of s t)) (woken_polled j (task_of s t).phase)

payment_on : {j : ℕ} (s : Common) (polls : Option ℕ) (payer : Payer) → PollsOn j s.tasks (after_payment s polls payer).tasks
payment_on = grind (arith, same_tasks, same_phase, waking_phase)

wake_on : {j : ℕ} (me : Own) (s : Common) (t : ℕ) (choice : Choice) → PollsOn j s.tasks (after_wake me s t choice).tasks
wake_on me s t Plain = same_tasks
wake_on me s t Passes = same_tasks
wake_on me s t (Pays payer) = PollsOn-trans (payment_on s me.polls payer) (woken_on (after_payment s me.polls payer) t)
wake_on me s t (Posts payer left_out) = same_tasks

sending_on : {j : ℕ} (s : Common) (polls : Option ℕ) (m : MailMessage) → PollsOn j s.tasks (after_sending s polls m).tasks
sending_on = grind (arith, same_tasks, same_phase, awaiting_phase)

send_on : {j : ℕ} (me : Own) (s : Common) (to : ℕ) (m : MailMessage) (choice : Choice) → PollsOn j s.tasks (after_send me s to m choice).tasks
send_on {j} me s to m choice =
    subst (λ us. PollsOn j s.tasks us) (sym (post_same (after_sending s me.polls m) to m choice)) (sending_on s me.polls m)

apply_on : {j : ℕ} (me : Own) (s : Common) (i : ℕ) (m : MailMessage) → PollsOn j s.tasks (after_apply me s i m).tasks
apply_on = grind (arith, woken_on, same_tasks)

marked_unpolled : (j : ℕ) (ts : List Task) (q : ℕ) → is_polled_by j (get_or ts q no_task).phase ≡ false
    → is_polled_by j (get_or (set ts q (record (get_or ts q no_task) { cleared = true })) q no_task).phase ≡ false
marked_unpolled j [] q h = refl
marked_unpolled j (x ∷ xs) zero h = h
marked_unpolled j (x ∷ xs) (suc q) h = marked_unpolled j xs q h

marked_on : {j : ℕ} (s : Common) (t : ℕ) → PollsOn j s.tasks (with_cleared s t).tasks
marked_on s t = same_phase s.tasks t (record (task_of s t) { cleared = true }) refl

clear_on : {j : ℕ} (s : Common) (i t : ℕ) → PollsOn j s.tasks (after_clear s i t).tasks
clear_on {j} s i t =
    elim (cases_Bool (ends_by_clear (task_of s t).phase)) [
      | inl ends ↦
          let unpolled : is_polled_by j (task_of (with_cleared s t) t).phase ≡ false =
          marked_unpolled j s.tasks t (cleared_unpolled j (task_of s t).phase ends) in
          rw ends (PollsOn-trans (marked_on s t)
          (one_task (with_cleared s t).tasks t (record (task_of (with_cleared s t) t) { phase = task.Done; held = [] })
          (λ h. absurd (true≢false (sym h ∙ unpolled)))))
      | inr stays ↦ rw stays (marked_on s t)
    ]

reap_same : (s : Common) (i r : ℕ) (n : OpResult) (outcome : Option Outcome) → (after_reap s i r n outcome).tasks ≡ s.tasks
reap_same s i r n outcome =
    elim (cases_Bool (refuses_hint (judged_of (request_of s r) n))) [ inl refused ↦ rw refused refl | inr other ↦ rw other refl ]

-- OWN PARTS

either_same : (b : Bool) (x y me : Own) → x.polls ≡ me.polls → y.polls ≡ me.polls → (if b then x else y).polls ≡ me.polls
either_same true x y me one other = one
either_same false x y me one other = other

drops_same : (s : Common) (i : ℕ) (held : List ℕ) (me : Own) → (own_after_drops s i held me).polls ≡ me.polls
drops_same s i [] me = refl
drops_same s i (r ∷ held) me =
    let home : ℕ = (request_of s r).worker in
    let letter : Own = owes me home (record { to = home; message = message.CancelRequest r }) in
    drops_same s i held (if home == i then own_after_drop me s r else letter)
    ∙ either_same (home == i) (own_after_drop me s r) letter me refl refl

waking_up_same : (s : Common) (i : ℕ) (what : Waiting) (me : Own) → (own_after_waking_up s i what me).polls ≡ me.polls
waking_up_same = grind arith

over_same : (me : Own) (s : Common) (i t : ℕ) → (own_after_over me s i t).polls ≡ me.polls
over_same me s i t =
    waking_up_same s i (task_of s t).waiting (own_after_drops s i (task_of s t).held me) ∙ drops_same s i (task_of s t).held me

clear_same : (me : Own) (s : Common) (i t : ℕ) → (own_after_clear me s i t).polls ≡ me.polls
clear_same me s i t =
    elim (cases_Bool (ends_by_clear (task_of s t).phase)) [ inl ends ↦ rw ends (over_same me s i t) | inr stays ↦ rw stays refl ]

admit_same : (o : Operation) (outcome : Option Outcome) (r : ℕ) (me : Own) → (own_after_admit o outcome r me).polls ≡ me.polls
admit_same o (Some outcome) r me = refl
admit_same o None r me = elim (cases_Bool (is_durable o.kind)) [ inl durable ↦ rw durable refl | inr other ↦ rw other refl ]

turn_own_same : (me : Own) (choice : Choice) → (own_after_turn me choice).polls ≡ me.polls
turn_own_same = grind arith

sampled_same : (s : Common) (me : Own) → (sampled_now s me).polls ≡ me.polls
sampled_same s me = elim (cases_Bool me.serving) [ inl on ↦ rw on refl | inr off ↦ rw off refl ]

letter_same : (me : Own) → (own_after_letter me).polls ≡ me.polls
letter_same me = elim (cases_Bool (is_none me.polls)) [ inl out ↦ rw out refl | inr in_poll ↦ rw in_poll refl ]

apply_same : (me : Own) (s : Common) (m : MailMessage) → (own_after_apply me s m).polls ≡ me.polls
apply_same me s (message.CancelRequest r) = refl
apply_same me s m = refl

-- EACH EVENT

-- the worker polls what its own part says, and every other worker what it polled
record PollsAfter (i : ℕ) (me : Own) (s later : Common) : Type 0 where
  pub own : (t : ℕ) → me.polls ≡ Some t → is_polled_by i (task_of later t).phase ≡ true
  pub others : (j : ℕ) → (j ≡ i → ⊥) → PollsOn j s.tasks later.tasks

-- it polls on what it polled
polls_on : (i : ℕ) (me next : Own) (s later : Common) → ((t : ℕ) → me.polls ≡ Some t → is_polled_by i (task_of s t).phase ≡ true)
    → next.polls ≡ me.polls → ((j : ℕ) → PollsOn j s.tasks later.tasks) → PollsAfter i next s later
polls_on i me next s later mine same on =
    record { own = λ t h. (on i).each t (mine t (sym same ∙ h)); others = λ j _. on j }

-- its poll of task q ends
poll_ends : (i q : ℕ) (me next : Own) (s later : Common) (y : Task) → ((t : ℕ) → me.polls ≡ Some t → is_polled_by i (task_of s t).phase ≡ true)
    → me.polls ≡ Some q → next.polls ≡ None → later.tasks ≡ set s.tasks q y → PollsAfter i next s later
poll_ends i q me next s later y mine polls ended same =
    record {
      own = λ t h. absurd (none_some (sym ended ∙ h));
      others = λ j apart. subst (λ us. PollsOn j s.tasks us) (sym same)
          (one_task s.tasks q y (λ h. absurd (apart (one_poller j i (task_of s q).phase h (mine q polls)))));
    }

pended_tasks : (s : Common) (i t : ℕ) → (y : Task) × ((after_pend s i t).tasks ≡ set s.tasks t y)
pended_tasks s i t =
    elim (cases_Bool (task_of s t).cleared) [
      | inl cleared ↦ (record (task_of s t) { phase = task.Done; held = [] }, rw cleared refl)
      | inr goes_on ↦ (record (task_of s t) { phase = pended_phase (task_of s t).phase }, rw goes_on refl)
    ]

begins : (i q : ℕ) (s : Common) → is_ready (task_of s q).phase ≡ true → is_polled_by i (get_or (set s.tasks q (begun i (task_of s q))) q no_task).phase ≡ true
begins i q s ready = at_it s.tasks q (begun i (task_of s q)) ready (eq-eqb i i refl)
  where
    at_it : (ts : List Task) (q : ℕ) (y : Task) → is_ready (get_or ts q no_task).phase ≡ true → is_polled_by i y.phase ≡ true → is_polled_by i (get_or (set ts q y) q no_task).phase ≡ true
    at_it [] q y ready h = absurd (true≢false (sym ready))
    at_it (x ∷ xs) zero y ready h = h
    at_it (x ∷ xs) (suc q) y ready h = at_it xs q y ready h

by_event : (c : Configuration) (me : Own) (s : Common) (i : ℕ) (e : Event) (choice : Choice) → Allowed c me s i e choice
    → ((t : ℕ) → me.polls ≡ Some t → is_polled_by i (task_of s t).phase ≡ true)
    → PollsAfter i (own_after c me s i e choice) s (common_after c me s i e choice)
by_event c me s i event.Turn choice a mine = polls_on i me _ s _ mine (turn_own_same me choice) (λ j. tasks_as_before (turn_same me s i choice))
by_event c me s i event.Serve choice a mine = polls_on i me _ s _ mine (sampled_same s me) (λ j. same_tasks)
by_event c me s i (event.Begin q) choice a mine = grind (arith, is_polled_by, some_same, begins, one_task, true≢false, ready_unpolled)
by_event c me s i (event.Pend t) choice a mine =
    let tasks = pended_tasks s i t in poll_ends i t me _ s _ tasks.0 mine (is_number_is t me.polls a.0) refl tasks.1
by_event c me s i (event.Done t) choice a mine =
    poll_ends i t me _ s _ (record (task_of s t) { phase = task.Done; held = [] }) mine (is_number_is t me.polls a.0) refl refl
by_event c me s i (event.Fault t n) choice a mine =
    poll_ends i t me _ s _ (record (task_of s t) { phase = task.Done; held = [] }) mine (is_number_is t me.polls a.0) refl refl
by_event c me s i (event.Spawn t k) choice a mine =
    polls_on i me _ s _ mine refl (λ j. PollsOn-trans (word_on s me.polls) (one_more_task (after_word s me.polls).tasks _))
by_event c me s i (event.Dedicated t n) choice a mine =
    polls_on i me _ s _ mine refl (λ j. PollsOn-trans (word_on s me.polls) (one_more_task (after_word s me.polls).tasks _))
by_event c me s i event.Closed choice a mine = polls_on i me _ s _ mine refl (λ j. word_on s me.polls)
by_event c me s i (event.Clear t) choice a mine = polls_on i me _ s _ mine (clear_same me s i t) (λ j. clear_on s i t)
by_event c me s i (event.Admit r kind outcome) choice a mine =
    polls_on i me _ s _ mine (admit_same (asked_now c me s) outcome r me) (λ j. same_phase s.tasks (polled me) _ refl)
by_event c me s i (event.Wait None) choice a mine = polls_on i me _ s _ mine refl (λ j. same_phase s.tasks (polled me) _ refl)
by_event c me s i (event.Wait (Some r)) choice a mine = polls_on i me _ s _ mine refl (λ j. same_phase s.tasks (polled me) _ refl)
by_event c me s i (event.Got r outcome) choice a mine = polls_on i me _ s _ mine refl (λ j. same_phase s.tasks (polled me) _ (taking_phase s (task_of s (polled me))))
by_event c me s i (event.Drop r) choice a mine = polls_on i me _ s _ mine refl (λ j. same_phase s.tasks (polled me) _ refl)
by_event c me s i (event.Timer z until) choice a mine = polls_on i me _ s _ mine refl (λ j. same_phase s.tasks (polled me) _ refl)
by_event c me s i (event.GotTimer z) choice a mine = polls_on i me _ s _ mine refl (λ j. same_phase s.tasks (polled me) _ (taking_phase s (task_of s (polled me))))
by_event c me s i event.Pass choice a mine = polls_on i me _ s _ mine refl (λ j. same_phase s.tasks (polled me) _ (taking_phase s (task_of s (polled me))))
by_event c me s i (event.Wake t) choice a mine = polls_on i me _ s _ mine refl (λ j. wake_on me s t choice)
by_event c me s i (event.Grant r outcome) choice a mine = polls_on i me _ s _ mine refl (λ j. same_tasks)
by_event c me s i (event.Enrol r outcome) choice a mine = polls_on i me _ s _ mine refl (λ j. same_tasks)
by_event c me s i (event.Stage r) choice a mine = polls_on i me _ s _ mine refl (λ j. same_tasks)
by_event c me s i event.Enter choice a mine = polls_on i me _ s _ mine refl (λ j. same_tasks)
by_event c me s i event.Busy choice a mine = polls_on i me _ s _ mine refl (λ j. same_tasks)
by_event c me s i (event.Reap r n outcome) choice a mine = polls_on i me _ s _ mine refl (λ j. tasks_as_before (reap_same s i r n outcome))
by_event c me s i (event.Expire r outcome) choice a mine = polls_on i me _ s _ mine refl (λ j. same_tasks)
by_event c me s i (event.Cancel r) choice a mine = polls_on i me _ s _ mine refl (λ j. same_tasks)
by_event c me s i (event.Orphan r outcome) choice a mine = polls_on i me _ s _ mine refl (λ j. same_tasks)
by_event c me s i (event.Release r) choice a mine = polls_on i me _ s _ mine refl (λ j. same_tasks)
by_event c me s i (event.Fire z) choice a mine = polls_on i me _ s _ mine refl (λ j. same_tasks)
by_event c me s i (event.Send to m) choice a mine = polls_on i me _ s _ mine (letter_same me) (λ j. send_on me s to m choice)
by_event c me s i (event.Apply m) choice a mine = polls_on i me _ s _ mine (apply_same me s m) (λ j. apply_on me s i m)
by_event c me s i event.Close choice a mine = polls_on i me _ s _ mine refl (λ j. same_tasks)
by_event c me s i event.Stop choice a mine = polls_on i me _ s _ mine refl (λ j. same_tasks)
by_event c me s i e choice a mine = polls_on i me _ s _ mine refl (λ j. same_tasks)

-- STATES

-- each worker polls what its own part says
record PollsAre (w : World) : Type 0 where
  pub each : (j t : ℕ) → (own_of w j).polls ≡ Some t → is_polled_by j (task_of w.common t).phase ≡ true

-- who is made polls nothing
made_idle : (s : Common) (e : Event) (k : ℕ) → (get_or (made_by s e) k no_own).polls ≡ None
made_idle = grind arith

old_or_idle : (xs made : List Own) (j t : ℕ) → ((k : ℕ) → (get_or made k no_own).polls ≡ None) → (get_or (xs ++ made) j no_own).polls ≡ Some t → (get_or xs j no_own).polls ≡ Some t
old_or_idle [] made j t idle h = absurd (none_some (sym (idle j) ∙ h))
old_or_idle (x ∷ xs) made zero t idle h = h
old_or_idle (x ∷ xs) made (suc j) t idle h = old_or_idle xs made j t idle h

-- whoever polls after an event of worker i is worker i by its new own part, or another by its old one
data Poller (i j t : ℕ) (me other : Own) : Type 0 where
  itself : j ≡ i → me.polls ≡ Some t → Poller i j t me other
  another : (j ≡ i → ⊥) → other.polls ≡ Some t → Poller i j t me other

poller_of : (xs made : List Own) (i j t : ℕ) (me : Own) → ((k : ℕ) → (get_or made k no_own).polls ≡ None) → (get_or (set xs i me ++ made) j no_own).polls ≡ Some t → Poller i j t me (get_or xs j no_own)
poller_of [] made i j t me idle h = absurd (none_some (sym (idle j) ∙ h))
poller_of (x ∷ xs) made zero zero t me idle h = itself refl h
poller_of (x ∷ xs) made zero (suc j) t me idle h = another (λ e. omega (arith, e)) (old_or_idle xs made j t idle h)
poller_of (x ∷ xs) made (suc i) zero t me idle h = another (λ e. omega (arith, e)) h
poller_of (x ∷ xs) made (suc i) (suc j) t me idle h = further (poller_of xs made i j t me idle h)
  where
    further : {i j t : ℕ} {me other : Own} → Poller i j t me other → Poller (suc i) (suc j) t me other
    further (itself same polls) = itself (ap suc same) polls
    further (another apart polls) = another (λ e. apart (omega (arith, e))) polls

by_poller : (c : Configuration) (w : World) (i j t : ℕ) (e : Event) (choice : Choice) → PollsAre w
    → PollsAfter i (own_after c (own_of w i) w.common i e choice) w.common (common_after c (own_of w i) w.common i e choice)
    → Poller i j t (own_after c (own_of w i) w.common i e choice) (own_of w j)
    → is_polled_by j (task_of (common_after c (own_of w i) w.common i e choice) t).phase ≡ true
by_poller c w i j t e choice before later (itself same polls) =
    subst (λ k. is_polled_by k (task_of (common_after c (own_of w i) w.common i e choice) t).phase ≡ true) (sym same) (later.own t polls)
by_poller c w i j t e choice before later (another apart polls) = (later.others j apart).each t (before.each j t polls)

spawn_call_on : {j : ℕ} (s : Common) (k : ℕ) (e : Event) → PollsOn j s.tasks (after_spawn_by_call s k e).tasks
spawn_call_on s k (event.Spawn t script) = one_more_task s.tasks _
spawn_call_on s k e = same_tasks

wake_call_on : {j : ℕ} (s : Common) (t : ℕ) (e : Event) (choice : Choice) → PollsOn j s.tasks (after_wake_by_call s t e choice).tasks
wake_call_on = grind (arith, woken_on, tasks_as_before, post_same, same_tasks)

going_on_on : {j : ℕ} (s : Common) (k : ℕ) (e : Event) → PollsOn j s.tasks (after_going_on s k e).tasks
going_on_on = grind arith

by_action : (c : Configuration) (w : World) (a : Action) (e : Event) (choice : Choice) → Follows c w a (Did e) choice → PollsAre w → PollsAre (after_event c w a e choice)
by_action c w (action.Work i) e choice f before =
    let me : Own = own_after c (own_of w i) w.common i e choice in
    record {
      each = λ j t h.
          by_poller c w i j t e choice before (by_event c (own_of w i) w.common i e choice f.1 (before.each i))
          (poller_of w.workers (made_by w.common e) i j t me (made_idle w.common e) h);
    }
by_action c w (action.Spawn k n) e choice f before = record { each = λ j t h. (spawn_call_on w.common n e).each t (before.each j t h) }
by_action c w (action.Wake k n) e choice f before = record { each = λ j t h. (wake_call_on w.common n e choice).each t (before.each j t h) }
by_action c w (action.GoOn k) e choice f before = record { each = λ j t h. (going_on_on w.common k e).each t (before.each j t h) }
by_action c w a e choice f before = record { each = before.each }

by_line : (c : Configuration) (w : World) (a : Action) (said : StepResult) (choice : Choice) → Follows c w a said choice → PollsAre w → PollsAre (after_line c w a said choice)
by_line c w a Refused choice f before = before
by_line c w a (Did e) choice f before = by_action c w a e choice f before

by_lines : (c : Configuration) (w : World) (lines : List Line) (choices : List Choice) → RunsBy c w lines choices → PollsAre w → PollsAre (world_after c w lines choices)
by_lines c w [] [] f before = before
by_lines c w [] (choice ∷ choices) f before = absurd f
by_lines c w (l ∷ ls) [] f before = absurd f
by_lines c w (l ∷ ls) (choice ∷ choices) f before =
    by_lines c (after_line c w l.action l.said choice) ls choices f.1 (by_line c w l.action l.said choice f.0 before)

first_idle : (n i j : ℕ) → (get_or (first_owns n i) j no_own).polls ≡ None
first_idle zero i j = refl
first_idle (suc n) i zero = refl
first_idle (suc n) i (suc j) = first_idle n (suc i) j

first_polls : (p : Plan) → PollsAre (begin p)
first_polls p = record { each = λ j t h. absurd (none_some (sym (first_idle p.config.workers 0 j) ∙ h)) }

pub apart : (p : Plan) (lines : List Line) (choices : List Choice) (i j t : ℕ) → RunsBy p.config (begin p) lines choices
    → (own_of (world_after p.config (begin p) lines choices) i).polls ≡ Some t → (own_of (world_after p.config (begin p) lines choices) j).polls ≡ Some t → i ≡ j
apart p lines choices i j t runs one other =
    let w : World = world_after p.config (begin p) lines choices in
    let polls : PollsAre w = by_lines p.config (begin p) lines choices runs (first_polls p) in
    one_poller i j (task_of w.common t).phase (polls.each i t one) (polls.each j t other)
