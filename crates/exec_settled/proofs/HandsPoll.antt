-- Moves of a poll: a request joins a gate, and all else is plain.
use Rattle.std.proofs.{Common.{◌≡◌, ℕ, Bool, true, false, ◌==◌, Option, Some, None, refl, ◌∙◌, if◌then◌else◌, length, arith}, lemmas.{Bool.{true≢false, cases_Bool, eqb-true, eq-eqb}, Grind.get_or-set_at, List.get_or-set_other}}
use Rattle.exec_words.specs.Queue.{tail_of}
use Rattle.exec_machine.specs.{declared.{config.{Configuration.Configuration, ScriptWord.{ScriptWord, ScriptWord as script}}, event.Event.TheVariants.{Closed, Dedicated}, state.{Operation.Operation, RequestPhase.{RequestPhase, RequestPhase as phase}, Waiting.Waiting}}, Choice.Choice.Plain as Open, Requests.operation_asked, Tests.is_idle, World.{Common, Task, request_of, sleeper_of, task_of, Own as Books}, Words.next_word}
use Rattle.exec_moves.specs.{declared.{handing.{AfterSend.{AfterSend, AfterSend as send}, AfterPush.AfterPush as push}, place.{InPoll.{InPoll, InPoll as poll}, Place.{Place, Place as at}}}, Move.{move_act, move_look_at, move_poll, move_wake}, Poll.{Sight, Sight.{Asks, HearsRequest, HearsTimer, Here}, act, act_asked, act_by, after_pend, heard_by, pend, requeued_if, resume, sight_of, sight_of_act}, Send.{next_task, with_newcomer}, State.{Desk, Moved, Things, does, goes, queue_of}, Told.has_number, Thing.{aside, set_alarms, with_answers}}
use Rattle.exec_rest.proofs.{Continuing.{light_next_pick, light_cancels_left}, Asides.newcomer}
use Rattle.exec_settled.{specs.Permits.is_past, proofs.{HandsEarly.{IsEarly, early_after_spawn, early_desk_if, early_if, early_to_queue, early_light}, HandsMovesA.mild_if, HandsMovesB.{posts, posts_root}, HandsPlain.{HandsBy, Plain, mild_over, plain, plain_hands, plain_if, some_none}}}
use Rattle.exec_machine.specs.declared.state.Waiting.TheVariants as waiting

module _ (c : Configuration) (i : ℕ) (me : Books) (s : Common) (d : Desk) (x : Things) (t : ℕ) (from : InPoll) (here : (f : ℕ) → is_past f d.place ≡ false) where
  abbrev p : Place
  p = at.Poll t from

  -- THE END OF A POLL
  early_requeued : (f : ℕ) (b : Bool) (e : Desk) → IsEarly f (requeued_if b t e).place
  early_requeued = grind (arith, early_light, light_next_pick)

  early_pend : (f : ℕ) (it : Task) (home : Option ℕ) → IsEarly f (after_pend i t s d it home).place
  early_pend = grind (arith, early_desk_if, early_light, light_cancels_left, early_requeued)

  pends : (it : Task) → Plain i p x (aside x (pend i t s d it))
  pends it = plain i p x _ refl (λ j h. h) (λ f h. early_pend f it it.home) refl

  -- WHAT A TASK WAITS FOR
  on_request : (it : Task) (r : ℕ) (ph : RequestPhase) → it.waiting ≡ waiting.Request r → (request_of s r).phase ≡ ph → Plain i p x (aside x (resume i t s d it))
  on_request it r (phase.Resolved outcome) h is = rw (h, is) (plain i p x _ refl (λ j h. h) (λ f h. refl) refl)
  on_request it r phase.Gated h is = rw (h, is) (pends (record it { waiting = waiting.Request r }))
  on_request it r phase.Queued h is = rw (h, is) (pends (record it { waiting = waiting.Request r }))
  on_request it r phase.Staged h is = rw (h, is) (pends (record it { waiting = waiting.Request r }))
  on_request it r phase.Flying h is = rw (h, is) (pends (record it { waiting = waiting.Request r }))
  on_request it r (phase.Landed n) h is = rw (h, is) (pends (record it { waiting = waiting.Request r }))

  resumes : (it : Task) (w : Waiting) → it.waiting ≡ w → Plain i p x (aside x (resume i t s d it))
  resumes it (waiting.Request r) h = on_request it r _ h refl
  resumes it (waiting.Timer z) h = rw h (plain_if i p x (λ (u : Task). x) (sleeper_of s z).fired _ _ (plain i p x _ refl (λ j h. h) (λ f h. refl) refl) (pends (record it { waiting = waiting.Timer z })))
  resumes it waiting.Woken h = rw h (plain i p x _ refl (λ j h. h) (λ f h. refl) refl)
  resumes it waiting.Nothing h = rw h (pends (record it { waiting = waiting.Nothing }))
  resumes it waiting.Wake h = rw h (pends (record it { waiting = waiting.Wake }))
  resumes it waiting.Yielded h = rw h (pends (record it { waiting = waiting.Yielded }))

  hears : (r : ℕ) (b : Bool) (ph : RequestPhase) → Plain i p x (with_answers x (heard_by t r d x.answers b ph))
  hears = grind arith

  looks_at : (b : AfterSend) (m : Moved Things) → Plain i p x m → (y : Sight) → Plain i p x (move_look_at c s d x t b m y)
  looks_at b m one Here = one
  looks_at b m one (Asks j message) = posts c i s p x j message Open b d
  looks_at b m one (HearsRequest r) = hears r (has_number r x.answers) (request_of s r).phase
  looks_at b m one (HearsTimer z) = plain_if i p x (set_alarms x) (has_number z x.alarms) _ _ (plain i p x _ refl (λ j h. h) (λ f h. refl) refl) (plain i p x _ refl (λ j h. h) (λ f h. refl) refl)

  acts_by : (it : Task) (w : ScriptWord) → Plain i p x (aside x (act_by i t me s d it w))
  acts_by = grind arith

  acts_asked : (it : Task) (w : ScriptWord) (asked : Option Operation) → Plain i p x (aside x (act_asked i t me s d it w asked))
  acts_asked = grind (arith, acts_by, plain, early_desk_if)

  acts : (it : Task) → Plain i p x (aside x (act c i t me s d it))
  acts it = acts_asked it (next_word s it) (operation_asked c me.sampled (next_word s it))

  wakes : (u : ℕ) (home : Option ℕ) → Plain i p x (move_wake c i s d x t u home)
  wakes u None = plain i p x _ refl (λ j h. h) (λ f h. early_desk_if f (is_idle (task_of s u).phase) _ _ (early_to_queue f s i (push.Act t) refl) refl) refl
  wakes u (Some home) = plain_if i p x (λ y. y) (home == i) _ _ (plain i p x _ refl (λ j h. h) (λ f h. refl) refl) (posts_root c i s p x home (send.Act t) d)

  -- a new worker has nothing yet
  makes_worker : (closed : Bool) → Plain i p x (does (if closed then Closed else Dedicated (next_task s) (length s.seats)) (goes (at.Poll t poll.Act) d) (if closed then x else with_newcomer x))
  makes_worker true = plain i p x _ refl (λ j h. h) (λ f h. refl) refl
  makes_worker false = plain i p x _ refl (λ j h. (newcomer i x).latches j ∙ h) (λ f h. refl) refl

  acts_as : (w : ScriptWord) → Plain i p x (move_act c i me s d x t w)
  acts_as (script.Spawn k) = plain i p x _ refl (λ j h. h) (λ f h. early_desk_if f s.set_closed _ _ refl (early_after_spawn f c i s t)) (mild_if s.set_closed _ _ refl refl)
  acts_as (script.Wake u) = wakes u (task_of s u).home
  acts_as (script.Dedicated k) = makes_worker s.set_closed
  acts_as script.Await = looks_at (send.Pend t) _ (acts (task_of s t)) (sight_of_act i s (task_of s t) script.Await)
  acts_as script.Drop = looks_at (send.Act t) _ (acts (task_of s t)) (sight_of_act i s (task_of s t) script.Drop)
  acts_as _ = acts (task_of s t)

module _ (c : Configuration) (i : ℕ) (me : Books) (s : Common) (d : Desk) (x : Things) where
  -- the request is the last at the gate of its open
  joined : (t r : ℕ) → d.place ≡ at.Poll t (poll.JoinGate r) → HandsBy c i me s d x d (move_poll c i me s d x t (poll.JoinGate r))
  joined = grind (arith, some_none, true≢false, mild_over, cases_Bool, eqb-true, get_or-set_at, get_or-set_other, eq-eqb)

  pub polls : (t : ℕ) (p : InPoll) → d.place ≡ at.Poll t p → HandsBy c i me s d x d (move_poll c i me s d x t p)
  polls t p is = by p is (λ f. rw is refl)
    where
      by : (p : InPoll) → d.place ≡ at.Poll t p → ((f : ℕ) → is_past f d.place ≡ false) → HandsBy c i me s d x d (move_poll c i me s d x t p)
      by poll.BeginPoll is here = grind arith
      by poll.Resume is here =
          plain_hands c i me s d x (at.Poll t poll.Resume) _ is refl refl
          (looks_at c i me s d x t poll.Resume here (send.Pend t) _ (resumes c i me s d x t poll.Resume here (task_of s t) _ refl) (sight_of i s (task_of s t).waiting))
      by poll.Act is here = plain_hands c i me s d x (at.Poll t poll.Act) _ is refl refl (acts_as c i me s d x t poll.Act here (next_word s (task_of s t)))
      by (poll.JoinGate r) is here = joined t r is
      by poll.LoadSpawnHead is here =
          plain_hands c i me s d x (at.Poll t poll.LoadSpawnHead) _ is refl refl (plain i _ x _ refl (λ j h. h) (λ f h. early_if f (tail_of (queue_of x i) == (queue_of x i).real) _ _ refl refl) refl)
      by poll.Pend is here = plain_hands c i me s d x (at.Poll t poll.Pend) _ is refl refl (pends c i me s d x t poll.Pend here (task_of s t))
      by poll.RemoveTask is here = plain_hands c i me s d x (at.Poll t poll.RemoveTask) _ is refl refl (plain i _ x _ refl (λ j h. h) (λ f h. early_light f _ (light_next_pick d)) refl)
