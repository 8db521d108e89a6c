-- Moves of a poll, which change nothing of waking.
use Rattle.std.proofs.{Common.{◌≡◌, ℕ, Bool, true, false, ◌==◌, Option, Some, None, refl, sym, ap, if◌then◌else◌, length, arith}, lemmas.Bool.true≢false}
use Rattle.exec_words.specs.Queue.{tail_of}
use Rattle.exec_outcomes.specs.Accounts.{is_durable}
use Rattle.exec_machine.specs.{declared.{config.{Configuration.Configuration, ScriptWord.{ScriptWord, ScriptWord as script}}, event.Event.{Event, TheVariants.{Closed, Dedicated}}, state.{Operation.Operation, RequestPhase.{RequestPhase, RequestPhase as phase}, Waiting.Waiting}}, Choice.Choice.Plain, Requests.operation_asked, Tests.{is_idle, is_ready}, World.{Common, Task, request_of, sleeper_of, task_of, Own as Books}, Words.{next_word, newest_held, sleep_asked}}
use Rattle.exec_moves.specs.{declared.{handing.{AfterSend.{AfterSend, AfterSend as send}, AfterCancels.AfterCancels as cancels, AfterPush.AfterPush as push}, place.{InPoll.{InPoll, InPoll as poll}, Place.Place as at}}, Move.{move_act, move_look_at, move_poll, move_wake}, Poll.{Sight, Sight.{Asks, HearsRequest, HearsTimer, Here}, act, act_asked, act_by, after_pend, await, drop_newest, heard_by, pend, requeued_if, resume, sight_of, sight_of_act, sleep_for}, Send.{next_task, with_newcomer}, State.{Desk, Moved, Things, does, goes, queue_of}, Told.{has_number, lets_go_all}, Thing.{aside, set_alarms, with_answers}}
use Rattle.exec_rest.proofs.{Heeds.Heeds, Asides.{alarms_put, gate_put, newcomer, own_queue, same, shard_put}, Continuing.{light_after_end, light_after_poll, calm_after_spawn, light_cancels_left, calm_desk_if, calm_if, light_next_pick, calm_to_queue, near_calm, calm_light}, Plain.{is_calm, is_mute}, Nearly.{Quiet, calmly, quiet, quiet_if}, MovesB.{posts, posts_root}}
use Rattle.exec_machine.specs.declared.state.Waiting.TheVariants as waiting

pub mute_if : (b : Bool) (e f : Event) → is_mute e ≡ true → is_mute f ≡ true → is_mute (if b then e else f) ≡ true
mute_if true e f one other = one
mute_if false e f one other = other

abbrev newcomer_in : Event → ℕ
newcomer_in (Dedicated t k) = k
newcomer_in _ = 0

abbrev is_dedicated : Event → Bool
is_dedicated (Dedicated t k) = true
is_dedicated _ = false

module _ (c : Configuration) (i : ℕ) (me : Books) (s : Common) (d : Desk) (x : Things) (here : is_calm d.place ≡ true) (t : ℕ) where
  -- THE END OF A POLL
  calm_requeued : (b : Bool) (e : Desk) → is_calm (requeued_if b t e).place ≡ true
  calm_requeued true e = refl
  calm_requeued false e = calm_light _ (light_next_pick e)

  calm_pend : (it : Task) (home : Option ℕ) → is_calm (after_pend i t s d it home).place ≡ true
  calm_pend it None = calm_desk_if it.cleared _ _ (calm_light _ (light_cancels_left cancels.Pick (lets_go_all i s it d) _)) (calm_requeued _ d)
  calm_pend it (Some home) = refl

  pends : (it : Task) → Quiet i s x (aside x (pend i t s d it))
  pends it = calmly i s x _ (calm_pend it it.home) (same i x) refl

  -- WHAT A TASK WAITS FOR
  on_request : (it : Task) (r : ℕ) (p : RequestPhase) → it.waiting ≡ waiting.Request r → (request_of s r).phase ≡ p → Quiet i s x (aside x (resume i t s d it))
  on_request it r (phase.Resolved outcome) h is = rw (h, is) (calmly i s x _ refl (same i x) refl)
  on_request it r phase.Gated h is = rw (h, is) (pends (record it { waiting = waiting.Request r }))
  on_request it r phase.Queued h is = rw (h, is) (pends (record it { waiting = waiting.Request r }))
  on_request it r phase.Staged h is = rw (h, is) (pends (record it { waiting = waiting.Request r }))
  on_request it r phase.Flying h is = rw (h, is) (pends (record it { waiting = waiting.Request r }))
  on_request it r (phase.Landed n) h is = rw (h, is) (pends (record it { waiting = waiting.Request r }))

  resumes : (it : Task) (w : Waiting) → it.waiting ≡ w → Quiet i s x (aside x (resume i t s d it))
  resumes it (waiting.Request r) h = on_request it r _ h refl
  resumes it (waiting.Timer z) h = rw h (quiet_if i s x (λ (u : Task). x) (sleeper_of s z).fired _ _ (calmly i s x _ refl (same i x) refl) (pends (record it { waiting = waiting.Timer z })))
  resumes it waiting.Woken h = rw h (calmly i s x _ refl (same i x) refl)
  resumes it waiting.Nothing h = rw h (pends (record it { waiting = waiting.Nothing }))
  resumes it waiting.Wake h = rw h (pends (record it { waiting = waiting.Wake }))
  resumes it waiting.Yielded h = rw h (pends (record it { waiting = waiting.Yielded }))

  hears : (r : ℕ) (b : Bool) (p : RequestPhase) → Quiet i s x (with_answers x (heard_by t r d x.answers b p))
  hears = grind arith

  looks_at : (b : AfterSend) (m : Moved Things) → Quiet i s x m → (y : Sight) → Quiet i s x (move_look_at c s d x t b m y)
  looks_at b m one Here = one
  looks_at b m one (Asks j message) = posts c i s x j message Plain b d
  looks_at b m one (HearsRequest r) = hears r (has_number r x.answers) (request_of s r).phase
  looks_at b m one (HearsTimer z) = quiet_if i s x (set_alarms x) (has_number z x.alarms) _ _ (calmly i s x _ refl (alarms_put i x _) refl) (calmly i s x _ refl (alarms_put i x _) refl)

  -- ACTS
  awaits_by : (it : Task) (r : ℕ) (p : RequestPhase) → (request_of s r).phase ≡ p → Quiet i s x (aside x (await t s d it (Some r)))
  awaits_by = grind arith

  awaits_newest : (it : Task) (held : Option ℕ) → Quiet i s x (aside x (await t s d it held))
  awaits_newest it None = calmly i s x _ refl (same i x) refl
  awaits_newest it (Some r) = awaits_by it r _ refl

  drops_newest : (it : Task) (held : Option ℕ) → Quiet i s x (aside x (drop_newest t s d it held))
  drops_newest it None = calmly i s x _ here (same i x) refl
  drops_newest it (Some r) = calmly i s x _ refl (same i x) refl

  sleeps_for : (it : Task) (until : Option ℕ) → Quiet i s x (aside x (sleep_for t s d it until))
  sleeps_for it None = calmly i s x _ refl (same i x) refl
  sleeps_for it (Some until) = calmly i s x _ refl (same i x) refl

  acts_by : (it : Task) (w : ScriptWord) → Quiet i s x (aside x (act_by i t me s d it w))
  acts_by it script.Await = awaits_newest it (newest_held it)
  acts_by it script.Drop = drops_newest it (newest_held it)
  acts_by it (script.Sleep time) = sleeps_for it (sleep_asked me.sampled (script.Sleep time))
  acts_by it script.Yield = calmly i s x _ refl (same i x) refl
  acts_by it (script.Fault code) = calmly i s x _ (calm_light _ (light_after_end t it.home (lets_go_all i s it d))) (same i x) refl
  acts_by it script.End = calmly i s x _ (calm_light _ (light_after_end t it.home (lets_go_all i s it d))) (same i x) refl
  acts_by it _ = calmly i s x _ here (same i x) refl

  acts_asked : (it : Task) (w : ScriptWord) (asked : Option Operation) → Quiet i s x (aside x (act_asked i t me s d it w asked))
  acts_asked it w None = acts_by it w
  acts_asked it w (Some o) = calmly i s x _ (calm_desk_if (is_durable o.kind) _ _ refl refl) (same i x) refl

  acts : (it : Task) → Quiet i s x (aside x (act c i t me s d it))
  acts it = acts_asked it (next_word s it) (operation_asked c me.sampled (next_word s it))

  wakes : (u : ℕ) (home : Option ℕ) → Quiet i s x (move_wake c i s d x t u home)
  wakes u None = calmly i s x _ (calm_desk_if (is_idle (task_of s u).phase) _ _ (calm_to_queue s i (push.Act t)) refl) (same i x) refl
  wakes u (Some home) = quiet_if i s x (λ y. y) (home == i) _ _ (calmly i s x _ refl (same i x) refl) (posts_root c i s x home (send.Act t) d)

  -- the new worker is the next one
  makes_worker : (closed : Bool) → Quiet i s x (does (if closed then Closed else Dedicated (next_task s) (length s.seats)) (goes (at.Poll t poll.Act) d) (if closed then x else with_newcomer x))
  makes_worker true = calmly i s x _ refl (same i x) refl
  makes_worker false =
      record {
        near = near_calm s i (at.Poll t poll.Act) refl;
        aside = newcomer i x;
        landed = refl;
        sleep = λ until h. true≢false (ap is_dedicated h);
        ends = λ h. absurd (true≢false (ap is_dedicated h));
        born = λ u k h. sym (ap newcomer_in h);
      }

  acts_as : (w : ScriptWord) → Quiet i s x (move_act c i me s d x t w)
  acts_as (script.Spawn k) = calmly i s x _ (calm_desk_if s.set_closed _ _ refl (calm_after_spawn c i s t)) (shard_put i _ x _) (mute_if s.set_closed _ _ refl refl)
  acts_as (script.Wake u) = wakes u (task_of s u).home
  acts_as (script.Dedicated k) = makes_worker s.set_closed
  acts_as script.Await = looks_at (send.Pend t) _ (acts (task_of s t)) (sight_of_act i s (task_of s t) script.Await)
  acts_as script.Drop = looks_at (send.Act t) _ (acts (task_of s t)) (sight_of_act i s (task_of s t) script.Drop)
  acts_as _ = acts (task_of s t)

  pub polls_by : (p : InPoll) → Quiet i s x (move_poll c i me s d x t p)
  polls_by poll.BeginPoll =
      quiet_if i s x (λ (u : Task). x) (is_ready (task_of s t).phase) _ _ (calmly i s x _ refl (same i x) refl) (calmly i s x _ (calm_light _ (light_after_poll (task_of s t).home d)) (same i x) refl)
  polls_by poll.Resume = looks_at (send.Pend t) _ (resumes (task_of s t) _ refl) (sight_of i s (task_of s t).waiting)
  polls_by poll.Act = acts_as (next_word s (task_of s t))
  polls_by (poll.JoinGate r) = calmly i s x _ refl (gate_put i _ x _) refl
  polls_by poll.LoadSpawnHead = calmly i s x _ (calm_if (tail_of (queue_of x i) == (queue_of x i).real) _ _ refl refl) (own_queue i x _) refl
  polls_by poll.Pend = pends (task_of s t)
  polls_by poll.RemoveTask = calmly i s x _ (calm_light _ (light_next_pick d)) (shard_put i _ x _) refl

pub polls : (R : Type 0) (c : Configuration) (i : ℕ) (me : Books) (s : Common) (d : Desk) (x : Things) (t : ℕ) (p : InPoll) → d.place ≡ at.Poll t p
    → Heeds R i s d x (move_poll c i me s d x t p)
polls R c i me s d x t p is =
    quiet R i s d x _ (at.Poll t p) is (record { calm = refl; signals = refl; raises = refl; owes = refl }) (polls_by c i me s d x (ap is_calm is) t p)
