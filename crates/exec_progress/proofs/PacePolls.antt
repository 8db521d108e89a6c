-- Picks, pushes, counts, polls and callbacks lead to calm places, and leave the spinner as it is.
use Rattle.std.{proofs.{Common.{◌≡◌, ℕ, Bool, true, false, ◌-◌, ◌==◌, ◌&&◌, List, [], ◌∷◌, Option, Some, None, refl, arith, if◌then◌else◌}, lemmas.Bool.true≢false}, specs.Prelude.{drop, nat_le}}
use Rattle.exec_outcomes.specs.Accounts.{is_durable}
use Rattle.exec_words.specs.Queue.{Queue, fit_of, head_of, tail_of}
use Rattle.exec_machine.specs.{declared.{config.{Configuration.Configuration, ScriptWord.{ScriptWord, ScriptWord as script}}, state.{Operation.Operation, RequestPhase.{RequestPhase, RequestPhase as phase}, Waiting.Waiting}}, Ranges.ring_size, Requests.operation_asked, Tasks.begun_waiting, Tests.{is_done, is_idle, is_ready}, World.{Common, Own as Books, Task, request_of, sleeper_of, task_of}, Words.{newest_held, next_word, sleep_asked}}
use Rattle.exec_moves.specs.{declared.{handing.{AfterCallbacks.AfterCallbacks, AfterKick.AfterKick, AfterPop.{AfterPop, AfterPop as pop}, AfterPush.{AfterPush, AfterPush as push}, AfterSend.{AfterSend, AfterSend as send}, AfterSignal.AfterSignal, Heard.{Heard, Heard as heard}, InGlobal.{InGlobal, InGlobal as global}, InKick.{InKick, InKick as kicks}, InPop.InPop, InPush.{InPush, InPush as pushes}, InSignal.{InSignal, InSignal as signals}, AfterCancels.AfterCancels as cancels}, place.{InCallbacks.{InCallbacks, InCallbacks as callback}, InPick.InPick, InPoll.{InPoll, InPoll as poll}, Place.Place as at}}, Callback.{Item, Item.{Answers, Completes, LetsGo, Nothing, Releases, Wakes}, flagged_by, has_callbacks, is_of_pool, item_next, tells_waiter, woken_by}, Global.has_any, Move.{move_act, move_callbacks, move_global, move_item, move_kick, move_look_at, move_pick, move_poll, move_pop, move_push, move_signal, move_wake}, Parts.{has_others, polls}, Poll.{Sight, Sight.{Asks, HearsRequest, HearsTimer, Here}, act, act_asked, act_by, after_pend, await, drop_newest, heard_by, requeued_if, resume, sight_of, sight_of_act, sleep_for}, Pop.{load_pop_head, pops, same_head, after_pop}, State.{Desk, Moved, Things, queue_of}, Told.{has_number, lets_go_all}}
use Rattle.exec_progress.{proofs.{PaceParts.{is_wild, Calm, begun, calling, fair_if, fitted, kicked, pushed, queued, signalled, spawned, calm_there}, PaceSpins.{all_same, drop_same}}, specs.Owed.quiet_items}
use Rattle.exec_settled.proofs.SettledPlaces.{told_by}
use Rattle.exec_rest.proofs.Continuing.{light_first_pop, light_polls, light_next_pick, light_after_poll, light_cancels_left, light_after_posting, light_after_end, light_after_empty_pop, light_judge_pop}
use Rattle.exec_machine.specs.declared.state.Waiting.TheVariants as waiting

-- once no callback is left nothing quiet is
pub none_left : (me : Books) (d : Desk) → has_callbacks me d ≡ false → (quiet_items d == 0) ≡ true
none_left me d h = let told = told_by me d h in rw (told.outputs, told.completions, told.results) refl

module _ (c : Configuration) (i : ℕ) (me : Books) (s : Common) (d : Desk) (x : Things) where
  abbrev n : ℕ
  n = d.spinner.budget

  abbrev pool : Bool
  pool = is_of_pool s i

  -- with the same spinner at a calm place
  abbrev pub Fine : Desk → Type 0
  Fine e = (e.spinner ≡ d.spinner) × Calm pool n (quiet_items e == 0) e.place

  abbrev pub Leads : {T : Type 0} → Moved T → Type 0
  Leads m = Fine m.desk

  no : (d.spinner ≡ d.spinner) × Unit {0}
  no = (refl, tt)

  -- by a test, this or that
  pub desk_if : (b : Bool) (e f : Desk) → Fine e → Fine f → Fine (if b then e else f)
  desk_if true e f one other = one
  desk_if false e f one other = other

  pub move_if : {T : Type 0} (b : Bool) (m k : Moved T) → Leads m → Leads k → Fine (if b then m else k).desk
  move_if true m k one other = one
  move_if false m k one other = other

  -- PICKS, POPS AND PUSHES

  pub picking_one : (t : ℕ) (e : Desk) → e.spinner ≡ d.spinner → Fine (polls t e)
  picking_one t e same = (same, calm_there _ _ _ _ (light_polls t e))

  pub in_pick : (p : InPick) → Leads (move_pick c i d x p)
  in_pick = grind arith

  popped_one : (b : AfterPop) (t : ℕ) → Fine (after_pop c b t d)
  popped_one (pop.Pick f) t = picking_one t d refl
  popped_one pop.Discard t = (refl, calm_there _ _ _ _ (light_first_pop c pop.Discard))

  oldest : (b : AfterPop) (q : Queue ℕ) (vs : List ℕ) → q.values ≡ vs → Leads (pops c i b d q)
  oldest b q [] h = rw h (refl, calm_there _ _ _ _ (light_after_empty_pop c i b))
  oldest b q (t ∷ ts) h = rw h (popped_one b t)

  head_loaded : (b : AfterPop) (q : Queue ℕ) → Leads (load_pop_head c i b d q)
  head_loaded b q = (refl, calm_there _ _ _ _ (light_judge_pop c i b (head_of q) (tail_of q - q.real)))

  pub in_pop : (p : InPop) (b : AfterPop) → Leads (move_pop c i d x p b)
  in_pop = grind (arith, oldest, head_loaded, move_if)

  pub in_push : (p : InPush) (b : AfterPush) → Leads (move_push c i me s d x p b)
  in_push pushes.LoadPushHead b = (refl, fitted c i me s n _ b (head_of (queue_of x i)) (fit_of (queue_of x i)))
  in_push (pushes.StoreValue len) b = (refl, fair_if c i me s n _ (nat_le 2 len && has_others c) _ _ tt (pushed c i me s n _ b d (none_left me d)))
  in_push (pushes.FlowOver h) b = move_if (same_head h (head_of (queue_of x i))) _ _ no no
  in_push pushes.StoreOldest b = no

  -- COUNTS AND SIGNALS

  pub in_global : (p : InGlobal) (b : AfterPush) → Leads (move_global c i me s d x p b)
  in_global global.Append b = (refl, fair_if c i me s n _ s.queue_closed _ _ (pushed c i me s n _ b d (none_left me d)) tt)
  in_global global.LoadGlobalSet b = (refl, fair_if c i me s n _ (has_any x.idle) _ _ tt (pushed c i me s n _ b d (none_left me d)))
  in_global (global.AddGlobalCount set) b = no
  in_global global.ReturnGlobalCount b = (refl, fair_if c i me s n _ (x.idle.count == 1) _ _ tt (pushed c i me s n _ b d (none_left me d)))

  pub in_kick : (p : InKick) (b : AfterKick) → Leads (move_kick c i me s d x p b)
  in_kick kicks.LoadKickCount b = (refl, fair_if c i me s n _ (x.idle.count == 0) _ _ tt (kicked c i me s n _ b d (none_left me d)))
  in_kick kicks.LoadKickSet b = (refl, fair_if c i me s n _ (has_any x.idle) _ _ tt (kicked c i me s n _ b d (none_left me d)))
  in_kick (kicks.ExchangeKickCount set) b = move_if (x.idle.count == 0) _ _ no (refl, kicked c i me s n _ b d (none_left me d))
  in_kick kicks.ReturnKickCount b = (refl, fair_if c i me s n _ (x.idle.count == 1) _ _ tt (kicked c i me s n _ b d (none_left me d)))

  pub in_signal : (p : InSignal) (j : ℕ) (b : AfterSignal) → is_wild (at.Signal p j b) ≡ false → Leads (move_signal c i me s d x p j b)
  in_signal signals.SetLatch j b tame = absurd (true≢false tame)
  in_signal (signals.Raise ring) j b tame = (refl, signalled c i me s n _ b d (none_left me d))

  -- A POLL

  requeued : (t : ℕ) (b : Bool) → Fine (requeued_if b t d)
  requeued t true = no
  requeued t false = (refl, calm_there _ _ _ _ (light_next_pick d))

  pended : (t : ℕ) (it : Task) (home : Option ℕ) → Fine (after_pend i t s d it home)
  pended t it None = desk_if it.cleared _ _ (all_same i s it d, calm_there _ _ _ _ (light_cancels_left cancels.Pick (lets_go_all i s it d) _)) (requeued t _)
  pended t it (Some home) = no

  on_request : (t : ℕ) (it : Task) (r : ℕ) (p : RequestPhase) → it.waiting ≡ waiting.Request r → (request_of s r).phase ≡ p → Leads (resume i t s d it)
  on_request t it r (phase.Resolved outcome) h is = rw (h, is) no
  on_request t it r _ h is = rw (h, is) (pended t (record it { waiting = waiting.Request r }) it.home)

  resumed : (t : ℕ) (it : Task) (w : Waiting) → it.waiting ≡ w → Leads (resume i t s d it)
  resumed = grind (arith, on_request, move_if, no, pended)

  heard_of : (t r : ℕ) (b : Bool) (p : RequestPhase) → Leads (heard_by t r d x.answers b p)
  heard_of = grind arith

  seen : (t : ℕ) (b : AfterSend) (m : Moved Things) → Leads m → (y : Sight) → Leads (move_look_at c s d x t b m y)
  seen t b m one Here = one
  seen t b m one (Asks j message) = (refl, calm_there _ _ _ _ (light_after_posting c j b _ d))
  seen t b m one (HearsRequest r) = heard_of t r (has_number r x.answers) (request_of s r).phase
  seen t b m one (HearsTimer z) = move_if (has_number z x.alarms) _ _ no no

  awaited_by : (t : ℕ) (it : Task) (r : ℕ) (p : RequestPhase) → (request_of s r).phase ≡ p → Leads (await t s d it (Some r))
  awaited_by t it r (phase.Resolved outcome) h = rw h no
  awaited_by t it r _ h = rw h no

  awaited : (t : ℕ) (it : Task) (held : Option ℕ) → Leads (await t s d it held)
  awaited t it None = no
  awaited t it (Some r) = awaited_by t it r _ refl

  slept : (t : ℕ) (it : Task) (until : Option ℕ) → Leads (sleep_for t s d it until)
  slept t it None = no
  slept t it (Some until) = no

  -- a poll that has no word is at its place still
  module _ (before : Calm pool n (quiet_items d == 0) d.place) where
    dropped : (t : ℕ) (it : Task) (held : Option ℕ) → Leads (drop_newest t s d it held)
    dropped t it None = (refl, before)
    dropped t it (Some r) = (drop_same r (request_of s r) d, tt)

    acted_by : (t : ℕ) (it : Task) (w : ScriptWord) → Leads (act_by i t me s d it w)
    acted_by t it script.Await = awaited t it (newest_held it)
    acted_by t it script.Drop = dropped t it (newest_held it)
    acted_by t it (script.Sleep time) = slept t it (sleep_asked me.sampled (script.Sleep time))
    acted_by t it script.Yield = no
    acted_by t it (script.Fault code) = (all_same i s it d, calm_there _ _ _ _ (light_after_end t it.home (lets_go_all i s it d)))
    acted_by t it script.End = (all_same i s it d, calm_there _ _ _ _ (light_after_end t it.home (lets_go_all i s it d)))
    acted_by t it _ = (refl, before)

    asked : (t : ℕ) (it : Task) (w : ScriptWord) (o : Option Operation) → Leads (act_asked i t me s d it w o)
    asked t it w None = acted_by t it w
    asked t it w (Some o) = desk_if (is_durable o.kind) _ _ no no

    acted : (t : ℕ) (it : Task) → Leads (act c i t me s d it)
    acted t it = asked t it (next_word s it) (operation_asked c me.sampled (next_word s it))

    waking : (t u : ℕ) (home : Option ℕ) → Leads (move_wake c i s d x t u home)
    waking t u None = desk_if (is_idle (task_of s u).phase) _ _ (refl, queued c i me s n _ (push.Act t)) no
    waking t u (Some home) = move_if (home == i) _ _ no (refl, calm_there _ _ _ _ (light_after_posting c home (send.Act t) _ d))

    in_act : (t : ℕ) (w : ScriptWord) → Leads (move_act c i me s d x t w)
    in_act t (script.Spawn k) = desk_if s.set_closed _ _ no (refl, spawned c i me s n _ t)
    in_act t (script.Wake u) = waking t u (task_of s u).home
    in_act t (script.Dedicated k) = no
    in_act t script.Await = seen t (send.Pend t) _ (acted t (task_of s t)) (sight_of_act i s (task_of s t) script.Await)
    in_act t script.Drop = seen t (send.Act t) _ (acted t (task_of s t)) (sight_of_act i s (task_of s t) script.Drop)
    in_act t _ = acted t (task_of s t)

    pub in_poll : (t : ℕ) (p : InPoll) → Leads (move_poll c i me s d x t p)
    in_poll t poll.BeginPoll =
        move_if (is_ready (task_of s t).phase) _ _ (refl, begun c i me s n true t (begun_waiting (task_of s t).waiting)) (refl, calm_there _ _ _ _ (light_after_poll (task_of s t).home d))
    in_poll t poll.Resume = seen t (send.Pend t) _ (resumed t (task_of s t) _ refl) (sight_of i s (task_of s t).waiting)
    in_poll t poll.Act = in_act t (next_word s (task_of s t))
    in_poll t (poll.JoinGate r) = no
    in_poll t poll.LoadSpawnHead = (refl, fair_if c i me s n _ (tail_of (queue_of x i) == (queue_of x i).real) _ _ tt tt)
    in_poll t poll.Pend = pended t (task_of s t) (task_of s t).home
    in_poll t poll.RemoveTask = (refl, calm_there _ _ _ _ (light_next_pick d))

  -- THE CALLBACKS

  woken : (a : AfterCallbacks) (t : ℕ) (e : Desk) → e.spinner ≡ d.spinner → (it : Task) (home : Option ℕ) → it.home ≡ home → Fine (woken_by (ring_size c) i me s a t e it)
  woken a t e same it None h = rw h (desk_if (is_idle it.phase) _ _ (same, queued c i me s n _ (push.CallBack a)) (same, calling c i me s n _ me a e (none_left me e)))
  woken a t e same it (Some home) h = rw h (same, calling c i me s n _ me a (flagged_by it e) (none_left me (flagged_by it e)))

  told : (a : AfterCallbacks) (waiter : Option ℕ) (of : Heard) (e : Desk) → e.spinner ≡ d.spinner → Fine (tells_waiter (ring_size c) i me s a waiter of e)
  told a None of e same = (same, calling c i me s n _ me a e (none_left me e))
  told a (Some t) of e same = desk_if (is_done (task_of s t).phase) _ _ (same, calling c i me s n _ me a e (none_left me e)) (same, tt)

  in_item : (a : AfterCallbacks) (it : Item) → Leads (move_item c i me s d x a it)
  in_item a (Wakes t) = woken a t (record d { wakes = drop 1 d.wakes }) refl (task_of s t) _ refl
  in_item a LetsGo = (refl, calling c i me s n _ me a (record d { outputs = d.outputs - 1 }) (none_left me (record d { outputs = d.outputs - 1 })))
  in_item a (Releases r) = (refl, calling c i me s n _ (record me { ended = drop 1 me.ended }) a d (none_left (record me { ended = drop 1 me.ended }) d))
  in_item a (Completes z) = told a (Some (sleeper_of s z).task) (heard.Timer z) (record d { completions = drop 1 d.completions }) refl
  in_item a (Answers r) = told a (request_of s r).waiter (heard.Request r) (record d { results = drop 1 d.results }) refl
  in_item a Nothing = (refl, calling c i me s n _ me a d (none_left me d))

  pub in_callbacks : (p : InCallbacks) (a : AfterCallbacks) → Leads (move_callbacks c i me s d x p a)
  in_callbacks callback.TakeBatch a = (refl, fair_if c i me s n _ (d.searching && has_callbacks me d) _ _ tt (calling c i me s n _ me a d (none_left me d)))
  in_callbacks callback.CallBack a = in_item a (item_next me d)
  in_callbacks (callback.WakeWaiter t of) a = woken a t d refl (task_of s t) _ refl
