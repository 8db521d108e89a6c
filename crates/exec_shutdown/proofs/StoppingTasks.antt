-- What an event leaves of a task that waits until the pool is stopped: it does so still, is over if it was, and once the pool is
-- stopped doesn't begin to wait.
use Rattle.std.proofs.{Common.{◌≡◌, ℕ, zero, suc, Bool, true, false, ◌&&◌, ◌||◌, List, [], ◌∷◌, ◌++◌, Option, Some, None, refl, sym, ap, ◌∙◌, subst, inl, inr, arith, get_or, set, unwrap_or, if◌then◌else◌}, lemmas.Bool.{true≢false, false≢true, and_parts, cases_Bool}}
use Rattle.exec_outcomes.specs.{declared.outcome.{OpResult.OpResult, Outcome.Outcome}, Outcomes.refuses_hint}
use Rattle.exec_machine.specs.{declared.{config.{Configuration.Configuration, ScriptWord.{ScriptWord, ScriptWord as word}}, event.Event.{Event, Event as event}, state.{Code.TheVariants.Waits, MailMessage.{MailMessage, MailMessage as message}, TaskPhase.TaskPhase, Waiting.Waiting}}, After.{common_after, polled}, Allowed.Allowed, Choice.{Choice, Payer, Choice.{Plain, Passes, Pays, Posts}, Payer.{ByRequest, BySleeper, ByAct, ByCall, ByStop}}, Closing.{after_clear, after_turn, ends_by_clear, with_cleared}, Mail.{after_apply, after_post, after_sending, awaiting, is_left_out, is_root_message}, Requests.{after_reap, asks_kind, judged_of, operation_asked}, Same.{is_none, is_number}, Tasks.{after_letting_go, after_over, after_payment, after_pend, after_taking, after_waking_word, after_wake, after_word, begun, begun_waiting, may_stop, pended_phase, wake, waits_for, without_newest, woken, woken_phase}, Tests.{is_done, is_idle, is_ready, is_woken, waits_for_nothing}, Words.{acts, asks_await, asks_yield, moved_on, newest_held, next_word, polled_task, sleep_asked}, World.{Common, Own as Books, Task, no_task, request_of, task_of}}
use Rattle.exec_shutdown.specs.Stopping.{WaitsForStop, is_running, is_waiting, waits_for_wake}
use Rattle.exec_books.proofs.CountedTurns.{each_set}
use Rattle.exec_machine.specs.declared.state.TaskPhase.TheVariants as phase
use Rattle.exec_machine.specs.declared.state.Waiting.TheVariants as waiting

-- PHASES, AND WHAT IS WAITED FOR

-- who waits for stop waits so, and for nothing else
abbrev pub is_calm : Waiting → Bool
is_calm w = waits_for_nothing w || waits_for_wake w || is_woken w

-- who is woken doesn't wait
pub not_waiting : (p : TaskPhase) (b : Bool) → (is_idle (woken_phase p) || (is_running (woken_phase p) && b)) ≡ false
not_waiting = grind arith

done_woken : (p : TaskPhase) → is_done p ≡ true → is_done (woken_phase p) ≡ true
done_woken = grind arith

begun_calm : (w : Waiting) → is_calm w ≡ true → is_calm (begun_waiting w) ≡ true
begun_calm = grind arith

begun_looks : (w : Waiting) → waits_for_wake (begun_waiting w) ≡ false
begun_looks = grind arith

ready_open : (p : TaskPhase) → is_ready p ≡ true → is_done p ≡ true → ⊥
ready_open = grind (arith, true≢false, false≢true)

-- a poll of such a task ends where it waits for a wake
stops_waiting : (s : Common) (i : ℕ) (w : Waiting) → may_stop s i w ≡ true → is_calm w ≡ true → waits_for_wake w ≡ true
stops_waiting = grind arith

pended_waits : (p : TaskPhase) (b : Bool) → b ≡ true → (is_idle (pended_phase p) || (is_running (pended_phase p) && b)) ≡ true → (is_idle p || (is_running p && b)) ≡ true
pended_waits = grind arith

done_pended : (p : TaskPhase) → is_done p ≡ true → is_done (pended_phase p) ≡ true
done_pended = grind arith

idle_waits : (p : TaskPhase) (b : Bool) → (is_idle p || (is_running p && false)) ≡ true → (is_idle p || (is_running p && b)) ≡ true
idle_waits = grind arith

-- ONE TASK

-- what becomes of x, if it is the root of worker q, and waits until the pool is stopped
pub record Patient (q : ℕ) (stopped : Bool) (x y : Task) : Type 0 where
  pub still : WaitsForStop q x → WaitsForStop q y
  pub told : WaitsForStop q x → stopped ≡ true → is_waiting y ≡ true → is_waiting x ≡ true
  pub over : WaitsForStop q x → is_done x.phase ≡ true → is_done y.phase ≡ true

module _ {q : ℕ} {stopped : Bool} where
  pub patient : {x : Task} → Patient q stopped x x
  patient = record { still = λ h. h; told = λ h st waits. waits; over = λ h done. done }

  pub patient_then : {x y z : Task} → Patient q stopped x y → Patient q stopped y z → Patient q stopped x z
  patient_then a b =
      record {
        still = λ h. b.still (a.still h);
        told = λ h st waits. a.told h st (b.told (a.still h) st waits);
        over = λ h done. b.over (a.still h) (a.over h done);
      }

  -- it is no such task
  pub unlike : {x y : Task} → (WaitsForStop q x → ⊥) → Patient q stopped x y
  unlike none = record { still = λ h. absurd (none h); told = λ h st waits. absurd (none h); over = λ h done. absurd (none h) }

  -- neither its phase nor what it waits for changes, nor what it is
  pub alike : {x y : Task} → y.home ≡ x.home → y.code ≡ x.code → (x.held ≡ [] → y.held ≡ []) → y.phase ≡ x.phase → y.waiting ≡ x.waiting → Patient q stopped x y
  alike home code held phase waiting =
      record {
        still = λ h. record { home = home ∙ h.home; code = code ∙ h.code; held = held h.held; waits = ap is_calm waiting ∙ h.waits };
        told = λ h st waits. rw (sym phase, sym waiting) waits;
        over = λ h done. ap is_done phase ∙ done;
      }

  past_word : (s : Common) (x : Task) → Patient q stopped x (moved_on s x)
  past_word s x = alike refl refl (λ h. h) refl refl

  lets_go : (s : Common) (x : Task) → Patient q stopped x (after_letting_go s x)
  lets_go s x = alike refl refl (λ h. rw h refl) refl refl

  pub wakes : (x : Task) → Patient q stopped x (woken x)
  wakes x =
      record {
        still = λ h. record { home = h.home; code = h.code; held = h.held; waits = h.waits };
        told = λ h st waits. absurd (false≢true (sym (not_waiting x.phase (waits_for_wake x.waiting)) ∙ waits));
        over = λ h done. done_woken x.phase done;
      }

  begins : (i : ℕ) (x : Task) → is_ready x.phase ≡ true → Patient q stopped x (begun i x)
  begins i x ready =
      record {
        still = λ h. record { home = h.home; code = h.code; held = h.held; waits = begun_calm x.waiting h.waits };
        told = λ h st waits. absurd (false≢true (sym (begun_looks x.waiting) ∙ waits));
        over = λ h done. absurd (ready_open x.phase ready done);
      }

  pends : (s : Common) (i : ℕ) (x : Task) → may_stop s i x.waiting ≡ true → Patient q stopped x (record x { phase = pended_phase x.phase })
  pends s i x stops =
      record {
        still = λ h. record { home = h.home; code = h.code; held = h.held; waits = h.waits };
        told = λ h st waits. pended_waits x.phase (waits_for_wake x.waiting) (stops_waiting s i x.waiting stops h.waits) waits;
        over = λ h done. done_pended x.phase done;
      }

  ends : (x : Task) → Patient q stopped x (record x { phase = phase.Done; held = [] })
  ends x =
      record {
        still = λ h. record { home = h.home; code = h.code; held = refl; waits = h.waits };
        told = λ h st waits. absurd (false≢true waits);
        over = λ h done. refl;
      }

  -- it goes on
  looks : (x : Task) → Patient q stopped x (record x { waiting = waiting.Nothing })
  looks x =
      record {
        still = λ h. record { home = h.home; code = h.code; held = h.held; waits = refl };
        told = λ h st waits. idle_waits x.phase (waits_for_wake x.waiting) waits;
        over = λ h done. done;
      }

  takes : (s : Common) (x : Task) → Patient q stopped x (after_taking s x)
  takes s x = elim (cases_Bool (waits_for_nothing x.waiting)) [ inl nothing ↦ rw nothing (past_word s x) | inr waits ↦ rw waits (looks x) ]

  gets : (s : Common) (x : Task) → Patient q stopped x (record (after_taking s x) { held = without_newest x.held })
  gets s x = elim (cases_Bool (waits_for_nothing x.waiting)) [
    | inl nothing ↦ rw nothing (lets_go s x)
    | inr waits ↦ rw waits (patient_then (looks x) (alike refl refl (λ h. rw h refl) refl refl))
  ]

  -- it waits for a wake, and the pool isn't stopped
  waits_on : (s : Common) (x : Task) → (WaitsForStop q x → stopped ≡ true → ⊥) → Patient q stopped x (waits_for s x waiting.Wake)
  waits_on s x running =
      record {
        still = λ h. record { home = h.home; code = h.code; held = h.held; waits = refl };
        told = λ h st waits. absurd (running h st);
        over = λ h done. done;
      }

-- THE NEXT WORD of such a task is to wait, and once the pool is stopped the end

word_by : (s : Common) (t : Task) (b : Bool) → t.code ≡ Waits → s.stopped ≡ b → next_word s t ≡ (if b then word.End else word.Await)
word_by = grind arith

module _ (me : Books) (s : Common) where
  acting : (test : ScriptWord → Bool) (polls : Option ℕ) → me.polls ≡ polls → acts me s test ≡ true → test (next_word s (task_of s (polled me))) ≡ true
  acting = grind arith

  newest : (polls : Option ℕ) (r : ℕ) → me.polls ≡ polls → is_number r (newest_held (polled_task me s)) ≡ true → is_number r (newest_held (task_of s (polled me))) ≡ true
  newest = grind arith

  none_newest : (r : ℕ) (x : Task) → x.held ≡ [] → is_number r (newest_held x) ≡ true → ⊥
  none_newest = grind (arith, false≢true)

  module _ {q : ℕ} (h : WaitsForStop q (task_of s (polled me))) where
    -- it asks for nothing else
    no_act : (test : ScriptWord → Bool) → test word.Await ≡ false → test word.End ≡ false → acts me s test ≡ true → ⊥
    no_act test await end may = by s.stopped refl
      where
        by : (b : Bool) → s.stopped ≡ b → ⊥
        by true st = false≢true (sym end ∙ ap test (sym (word_by s (task_of s (polled me)) true h.code st)) ∙ acting test me.polls refl may)
        by false st = false≢true (sym await ∙ ap test (sym (word_by s (task_of s (polled me)) false h.code st)) ∙ acting test me.polls refl may)

    -- once the pool is stopped, it doesn't wait
    no_wait : s.stopped ≡ true → acts me s asks_await ≡ true → ⊥
    no_wait st may = false≢true (ap asks_await (sym (word_by s (task_of s (polled me)) true h.code st)) ∙ acting asks_await me.polls refl may)

    -- it holds nothing
    no_newest : (r : ℕ) → is_number r (newest_held (polled_task me s)) ≡ true → ⊥
    no_newest r may = none_newest r (task_of s (polled me)) h.held (newest me.polls r refl may)

-- ALL TASKS

pub record AllPatient (q : ℕ) (stopped : Bool) (xs ys : List Task) : Type 0 where
  pub each : (t : ℕ) → Patient q stopped (get_or xs t no_task) (get_or ys t no_task)

homeless : (q : ℕ) → WaitsForStop q no_task → ⊥
homeless q h = true≢false (ap is_none h.home)

pushed : {q : ℕ} {stopped : Bool} (xs : List Task) (y : Task) (t : ℕ) → Patient q stopped (get_or xs t no_task) (get_or (xs ++ y ∷ []) t no_task)
pushed {q} [] y zero = unlike (homeless q)
pushed [] y (suc t) = patient
pushed (x ∷ xs) y zero = patient
pushed (x ∷ xs) y (suc t) = pushed xs y t

pub post_same : (s : Common) (to : ℕ) (m : MailMessage) (choice : Choice) → (after_post s to m choice).tasks ≡ s.tasks
post_same s to m choice = elim (cases_Bool (is_root_message m && is_left_out choice)) [ inl out ↦ rw out refl | inr in_it ↦ rw in_it refl ]

module _ {q : ℕ} {stopped : Bool} where
  pub unchanged : {xs : List Task} → AllPatient q stopped xs xs
  unchanged = record { each = λ t. patient }

  all_then : {xs ys zs : List Task} → AllPatient q stopped xs ys → AllPatient q stopped ys zs → AllPatient q stopped xs zs
  all_then a b = record { each = λ t. patient_then (a.each t) (b.each t) }

  pub none_changed : {xs ys : List Task} → ys ≡ xs → AllPatient q stopped xs ys
  none_changed {xs} is = subst (λ ys. AllPatient q stopped xs ys) (sym is) unchanged

  pub one_changed : (xs : List Task) (k : ℕ) (y : Task) → Patient q stopped (get_or xs k no_task) y → AllPatient q stopped xs (set xs k y)
  one_changed xs k y here = record { each = each_set no_task (λ j. Patient q stopped) xs k y (λ j apart x. patient) here (λ j. patient) }

  pub one_more : (xs : List Task) (y : Task) → AllPatient q stopped xs (xs ++ y ∷ [])
  one_more xs y = record { each = pushed xs y }

  either_on : {xs : List Task} (b : Bool) (y z : Common) → AllPatient q stopped xs y.tasks → AllPatient q stopped xs z.tasks → AllPatient q stopped xs (if b then y else z).tasks
  either_on true y z a b = a
  either_on false y z a b = b

  word_on : (s : Common) (polls : Option ℕ) → AllPatient q stopped s.tasks (after_word s polls).tasks
  word_on s None = unchanged
  word_on s (Some t) = one_changed s.tasks t (moved_on s (task_of s t)) (past_word s (task_of s t))

  pend_on : (s : Common) (i t : ℕ) → may_stop s i (task_of s t).waiting ≡ true → AllPatient q stopped s.tasks (after_pend s i t).tasks
  pend_on s i t stops =
      either_on (task_of s t).cleared (after_over s i t) (record s { tasks = set s.tasks t (record (task_of s t) { phase = pended_phase (task_of s t).phase }) })
      (one_changed s.tasks t (record (task_of s t) { phase = phase.Done; held = [] }) (ends (task_of s t)))
      (one_changed s.tasks t (record (task_of s t) { phase = pended_phase (task_of s t).phase }) (pends s i (task_of s t) stops))

  marked_on : (s : Common) (t : ℕ) → AllPatient q stopped s.tasks (with_cleared s t).tasks
  marked_on s t = one_changed s.tasks t (record (task_of s t) { cleared = true }) (alike refl refl (λ h. h) refl refl)

  clear_on : (s : Common) (i t : ℕ) → AllPatient q stopped s.tasks (after_clear s i t).tasks
  clear_on s i t =
      let m = with_cleared s t in
      either_on (ends_by_clear (task_of s t).phase) (after_over m i t) m
      (all_then (marked_on s t) (one_changed m.tasks t (record (task_of m t) { phase = phase.Done; held = [] }) (ends (task_of m t)))) (marked_on s t)

  pub wake_on : (s : Common) (t : ℕ) → AllPatient q stopped s.tasks (wake s t).tasks
  wake_on s t = one_changed s.tasks t (woken (task_of s t)) (wakes (task_of s t))

-- by a word of such a task nobody lets others go first
waking_word : {q : ℕ} {stopped : Bool} (s : Common) (x : Task) → Patient q stopped x (after_waking_word s x)
waking_word {q} {stopped} s x = elim (cases_Bool (asks_yield (next_word s x))) [
  | inl lets ↦ unlike (λ h. no_yield s.stopped refl h lets)
  | inr stays ↦ rw stays (past_word s x)
]
  where
    no_yield : (b : Bool) → s.stopped ≡ b → WaitsForStop q x → asks_yield (next_word s x) ≡ true → ⊥
    no_yield true st h lets = false≢true (ap asks_yield (sym (word_by s x true h.code st)) ∙ lets)
    no_yield false st h lets = false≢true (ap asks_yield (sym (word_by s x false h.code st)) ∙ lets)

pay_on : {q : ℕ} {stopped : Bool} (s : Common) (polls : Option ℕ) (payer : Payer) → AllPatient q stopped s.tasks (after_payment s polls payer).tasks
pay_on s polls (ByRequest r) = unchanged
pay_on s polls (BySleeper z) = unchanged
pay_on s None ByAct = unchanged
pay_on s (Some t) ByAct = one_changed s.tasks t (after_waking_word s (task_of s t)) (waking_word s (task_of s t))
pay_on s polls ByCall = unchanged
pay_on s polls ByStop = unchanged

wakes_on : {q : ℕ} {stopped : Bool} (me : Books) (s : Common) (t : ℕ) (choice : Choice) → AllPatient q stopped s.tasks (after_wake me s t choice).tasks
wakes_on me s t Plain = unchanged
wakes_on me s t Passes = unchanged
wakes_on me s t (Pays payer) = all_then (pay_on s me.polls payer) (wake_on (after_payment s me.polls payer) t)
wakes_on me s t (Posts payer left_out) = unchanged

turn_same : (me : Books) (s : Common) (i : ℕ) (choice : Choice) → (after_turn me s i choice).tasks ≡ s.tasks
turn_same = grind arith

reap_same : (s : Common) (i r : ℕ) (n : OpResult) (outcome : Option Outcome) → (after_reap s i r n outcome).tasks ≡ s.tasks
reap_same s i r n outcome = elim (cases_Bool (refuses_hint (judged_of (request_of s r) n))) [ inl refused ↦ rw refused refl | inr other ↦ rw other refl ]

-- EACH EVENT

module _ (c : Configuration) (me : Books) (s : Common) (i q : ℕ) where
  send_on : (to : ℕ) (m : MailMessage) (polls : Option ℕ) → me.polls ≡ polls → (choice : Choice) → Allowed c me s i (event.Send to m) choice → AllPatient q s.stopped s.tasks (after_sending s polls m).tasks
  send_on to m None is choice h = unchanged
  send_on to message.Root (Some t) is choice h = one_changed s.tasks t (moved_on s (task_of s t)) (past_word s (task_of s t))
  send_on to (message.ForwardRequest r) (Some t) is choice h =
      let asked : is_number r (newest_held (task_of s t)) ≡ true = subst (λ (p : Option ℕ). is_number r (newest_held (task_of s (unwrap_or p 0))) ≡ true) is (newest me s me.polls r refl (and_parts _ _ h.0).1) in
      one_changed s.tasks t (awaiting s r (task_of s t)) (unlike (λ waits. none_newest me s r (task_of s t) waits.held asked))
  send_on to (message.ForwardTimer z) (Some t) is choice h = unchanged
  send_on to (message.CancelRequest r) (Some t) is choice h = one_changed s.tasks t (after_letting_go s (task_of s t)) (lets_go s (task_of s t))
  send_on to (message.CancelTimer z) (Some t) is choice h = unchanged

  apply_on : (m : MailMessage) → AllPatient q s.stopped s.tasks (after_apply me s i m).tasks
  apply_on message.Root = wake_on s me.root
  apply_on (message.ForwardRequest r) = unchanged
  apply_on (message.ForwardTimer z) = unchanged
  apply_on (message.CancelRequest r) = unchanged
  apply_on (message.CancelTimer z) = unchanged

  abbrev mine : Task
  mine = task_of s (polled me)

  -- what the polled one would do is none of its acts
  unasked : (y : Task) → (WaitsForStop q mine → ⊥) → AllPatient q s.stopped s.tasks (set s.tasks (polled me) y)
  unasked y none = one_changed s.tasks (polled me) y (unlike none)

  pub tasks_after : (e : Event) (choice : Choice) → Allowed c me s i e choice → AllPatient q s.stopped s.tasks (common_after c me s i e choice).tasks
  tasks_after event.Turn choice h = none_changed (turn_same me s i choice)
  tasks_after (event.Begin t) choice h = one_changed s.tasks t (begun i (task_of s t)) (begins i (task_of s t) h.1.1.0)
  tasks_after (event.Pend t) choice h = pend_on s i t h.1.1.0
  tasks_after (event.Done t) choice h = one_changed s.tasks t (record (task_of s t) { phase = phase.Done; held = [] }) (ends (task_of s t))
  tasks_after (event.Fault t n) choice h = one_changed s.tasks t (record (task_of s t) { phase = phase.Done; held = [] }) (ends (task_of s t))
  tasks_after (event.Spawn t k) choice h = all_then (word_on s me.polls) (one_more (after_word s me.polls).tasks _)
  tasks_after (event.Dedicated t j) choice h = all_then (word_on s me.polls) (one_more (after_word s me.polls).tasks _)
  tasks_after event.Closed choice h = word_on s me.polls
  tasks_after (event.Clear t) choice h = clear_on s i t
  tasks_after (event.Admit r kind outcome) choice h = unasked _ (λ waits. no_act me s waits (λ w. asks_kind kind (operation_asked c me.sampled w)) refl refl h.0)
  tasks_after (event.Wait None) choice h = one_changed s.tasks (polled me) (waits_for s mine waiting.Wake) (waits_on s mine (λ waits st. no_wait me s waits st h.0))
  tasks_after (event.Wait (Some r)) choice h = unasked _ (λ waits. no_newest me s waits r h.1.0)
  tasks_after (event.Got r outcome) choice h = one_changed s.tasks (polled me) (record (after_taking s mine) { held = without_newest mine.held }) (gets s mine)
  tasks_after (event.Drop r) choice h = one_changed s.tasks (polled me) (after_letting_go s mine) (lets_go s mine)
  tasks_after (event.Timer z until) choice h = unasked _ (λ waits. no_act me s waits (λ w. is_number until (sleep_asked me.sampled w)) refl refl h.0)
  tasks_after (event.GotTimer z) choice h = one_changed s.tasks (polled me) (after_taking s mine) (takes s mine)
  tasks_after event.Pass choice h = one_changed s.tasks (polled me) (after_taking s mine) (takes s mine)
  tasks_after (event.Wake t) choice h = wakes_on me s t choice
  tasks_after (event.Reap r n outcome) choice h = none_changed (reap_same s i r n outcome)
  tasks_after (event.Send to m) choice h = all_then (send_on to m me.polls refl choice h) (none_changed (post_same (after_sending s me.polls m) to m choice))
  tasks_after (event.Apply m) choice h = apply_on m
  tasks_after _ choice h = unchanged
