-- Only a worker of the pool comes to a place at which its own run queue is given a task that it made or woke.
use Rattle.std.{proofs.Common.{◌≡◌, ℕ, Bool, true, false, ◌+◌, ◌-◌, ◌*◌, ◌==◌, ◌&&◌, ◌||◌, List, [], ◌∷◌, Option, Some, None, refl, arith}, specs.Prelude.{drop, nat_le, not}}
use Rattle.exec_outcomes.specs.Accounts.{is_durable}
use Rattle.exec_words.specs.{Head.is_stealable_at, Idle.is_in, Queue.{Queue, head_of, tail_of}, Word.asks_signal}
use Rattle.exec_machine.specs.{declared.{config.{Configuration.Configuration, ScriptWord.ScriptWord}, state.{Operation.Operation, RequestPhase.RequestPhase, Waiting.Waiting}}, Deadlines.next_due, Ranges.ring_size, Requests.operation_asked, Tasks.begun_waiting, Tests.{is_applied, is_done, is_idle, is_ready}, World.{Common, Own as Books, Task, request_of, sleeper_of, task_of}, Words.next_word}
use Rattle.exec_moves.specs.{declared.{handing.{AfterCallbacks.AfterCallbacks, AfterKick.AfterKick, AfterPop.AfterPop, AfterPush.{AfterPush, AfterPush as push}, AfterSend.{AfterSend, AfterSend as send}, AfterSignal.AfterSignal, Heard.{Heard, Heard as heard}, InGlobal.{InGlobal, InGlobal as global}, InKick.{InKick, InKick as kicks}, InPop.InPop, InPush.InPush, InSignal.{InSignal, InSignal as signals}, AfterCancels.AfterCancels as cancels}, idling.{InLook.{InLook, InLook as look}, InRingWait.InRingWait, InScan.InScan, InSearch.{InSearch, InSearch as search}, InWordWait.InWordWait, Stay.Stay}, place.{InCallbacks.{InCallbacks, InCallbacks as callback}, InClosing.InClosing, InLoads.{InLoads, InLoads as load}, InMail.InMail, InPick.InPick, InPoll.{InPoll, InPoll as poll}, InService.{InService, InService as step}, Place.{Place, Place as at}, Reaping.Reaping, Round.Round, Service.Service}}, Callback.{Item, Item.{Answers, Completes, LetsGo, Nothing, Releases, Wakes}, flagged_by, has_callbacks, is_full, is_of_pool, item_next, tells_waiter, woken_by}, Claim.claimed, Global.has_any, Load.{has_come, has_submissions, is_ready as has_ready}, Look.{look_at_mirror, searching_if}, Move.{move, move_act, move_at, move_callbacks, move_closing, move_global, move_item, move_kick, move_loads, move_look, move_look_at, move_mail, move_pick, move_poll, move_pop, move_push, move_ring_wait, move_scan, move_search, move_service, move_signal, move_submit, move_wake, move_word_wait}, Poll.{Sight, act, act_asked, act_by, after_pend, heard_by, requeued_if, resume, sight_of}, Pop.{load_pop_head, pops}, Send.first_letter, Serve.{Ring, end_service, first_to_fire, reap}, State.{Desk, Moved, Things, queue_of, word_of}, Submit.{Due, due_next}, Thing.ring_of, Told.lets_go_all, Wait.{enter_ring, has_completion}}
use Rattle.exec_rest.{specs.AtRest.is_given, proofs.{Continuing.{light_polls, light_next_pick, light_after_poll, light_leaves_for_turn, light_cancels_left, light_after_posting, light_after_pop, light_after_empty_pop, light_judge_pop}, Giving.{Fair, begun, calling, claiming, desk_if, fair_if, headed, kicked, loaded, looking, move_if, none, pushed, queued, returned, scanned, searching, served, signalled, spawned, tailed, waited, waiting_on, withdrawn, fair_light}}}
use Rattle.exec_machine.specs.declared.state.Waiting.TheVariants as waiting
use Rattle.exec_moves.specs.declared.idling.AfterWait.TheVariants as later
use Rattle.exec_moves.specs.declared.idling.InRingWait.TheVariants as ring

module _ (c : Configuration) (i : ℕ) (me : Books) (s : Common) (d : Desk) (x : Things) (before : Fair c i me s d.place) where
  -- a move after which it is fair
  abbrev Leads : {T : Type 0} → Moved T → Type 0
  Leads m = Fair c i me s m.desk.place

  no : false ≡ true → is_of_pool s i ≡ true
  no = none c i me s

  -- PICKS, POPS AND PUSHES

  in_pick : (p : InPick) → Leads (move_pick c i d x p)
  in_pick = grind arith

  oldest : (b : AfterPop) (q : Queue ℕ) (vs : List ℕ) → q.values ≡ vs → Leads (pops c i b d q)
  oldest b q [] h = rw h (fair_light c i me s _ (light_after_empty_pop c i b))
  oldest b q (t ∷ ts) h = rw h (fair_light c i me s _ (light_after_pop c b t d))

  head_loaded : (b : AfterPop) (q : Queue ℕ) → Leads (load_pop_head c i b d q)
  head_loaded b q = fair_light c i me s _ (light_judge_pop c i b (head_of q) (tail_of q - q.real))

  in_pop : (p : InPop) (b : AfterPop) → Leads (move_pop c i d x p b)
  in_pop = grind (arith, oldest, head_loaded, move_if)

  in_push : (p : InPush) (b : AfterPush) → Fair c i me s (at.Push p b) → Leads (move_push c i me s d x p b)
  in_push = grind arith

  -- COUNTS AND SIGNALS

  in_global : (p : InGlobal) (b : AfterPush) → Leads (move_global c i me s d x p b)
  in_global global.Append b = fair_if c i me s s.queue_closed _ _ (pushed c i me s b d) no
  in_global global.LoadGlobalSet b = fair_if c i me s (has_any x.idle) _ _ no (pushed c i me s b d)
  in_global (global.AddGlobalCount set) b = no
  in_global global.ReturnGlobalCount b = fair_if c i me s (x.idle.count == 1) _ _ no (pushed c i me s b d)

  in_kick : (p : InKick) (b : AfterKick) → Leads (move_kick c i me s d x p b)
  in_kick kicks.LoadKickCount b = fair_if c i me s (x.idle.count == 0) _ _ no (kicked c i me s b d)
  in_kick kicks.LoadKickSet b = fair_if c i me s (has_any x.idle) _ _ no (kicked c i me s b d)
  in_kick (kicks.ExchangeKickCount set) b = move_if c i me s (x.idle.count == 0) _ _ no (kicked c i me s b d)
  in_kick kicks.ReturnKickCount b = fair_if c i me s (x.idle.count == 1) _ _ no (kicked c i me s b d)

  in_signal : (p : InSignal) (j : ℕ) (b : AfterSignal) → Leads (move_signal c i me s d x p j b)
  in_signal signals.SetLatch j b = fair_if c i me s (asks_signal (word_of x j)) _ _ no (signalled c i me s b d)
  in_signal (signals.Raise ring) j b = signalled c i me s b d

  -- A POLL

  requeued : (t : ℕ) (b : Bool) → Fair c i me s (requeued_if b t d).place
  requeued t true = no
  requeued t false = fair_light c i me s _ (light_next_pick d)

  pended : (t : ℕ) (it : Task) (home : Option ℕ) → Fair c i me s (after_pend i t s d it home).place
  pended t it None = desk_if c i me s it.cleared _ _ (fair_light c i me s _ (light_cancels_left cancels.Pick (lets_go_all i s it d) _)) (requeued t _)
  pended t it (Some home) = no

  on_request : (t : ℕ) (it : Task) (r : ℕ) (p : RequestPhase) → it.waiting ≡ waiting.Request r → (request_of s r).phase ≡ p → Leads (resume i t s d it)
  on_request = grind (arith, no, pended)

  resumed : (t : ℕ) (it : Task) (w : Waiting) → it.waiting ≡ w → Leads (resume i t s d it)
  resumed t it (waiting.Request r) h = on_request t it r _ h refl
  resumed t it (waiting.Timer z) h = rw h (move_if c i me s (sleeper_of s z).fired _ _ no (pended t (record it { waiting = waiting.Timer z }) it.home))
  resumed t it waiting.Woken h = rw h no
  resumed t it waiting.Nothing h = rw h (pended t (record it { waiting = waiting.Nothing }) it.home)
  resumed t it waiting.Wake h = rw h (pended t (record it { waiting = waiting.Wake }) it.home)
  resumed t it waiting.Yielded h = rw h (pended t (record it { waiting = waiting.Yielded }) it.home)

  heard_of : (t r : ℕ) (b : Bool) (p : RequestPhase) → Leads (heard_by t r d x.answers b p)
  heard_of = grind arith

  seen : (t : ℕ) (b : AfterSend) (m : Moved Things) → Leads m → (y : Sight) → Leads (move_look_at c s d x t b m y)
  seen = grind (arith, fair_light, light_after_posting, heard_of, move_if, no)

  acted_by : (t : ℕ) (it : Task) (w : ScriptWord) → Leads (act_by i t me s d it w)
  acted_by = grind arith

  asked : (t : ℕ) (it : Task) (w : ScriptWord) (o : Option Operation) → Leads (act_asked i t me s d it w o)
  asked t it w None = acted_by t it w
  asked t it w (Some o) = desk_if c i me s (is_durable o.kind) _ _ no no

  acted : (t : ℕ) (it : Task) → Leads (act c i t me s d it)
  acted t it = asked t it (next_word s it) (operation_asked c me.sampled (next_word s it))

  waking : (t u : ℕ) (home : Option ℕ) → Leads (move_wake c i s d x t u home)
  waking t u None = desk_if c i me s (is_idle (task_of s u).phase) _ _ (queued c i me s (push.Act t)) no
  waking t u (Some home) = move_if c i me s (home == i) _ _ no (fair_light c i me s _ (light_after_posting c home (send.Act t) _ d))

  in_act : (t : ℕ) (w : ScriptWord) → Leads (move_act c i me s d x t w)
  in_act = grind (arith, desk_if, no, spawned, waking, seen, acted)

  in_poll : (t : ℕ) (p : InPoll) → Fair c i me s (at.Poll t p) → Leads (move_poll c i me s d x t p)
  in_poll t poll.BeginPoll fair =
      move_if c i me s (is_ready (task_of s t).phase) _ _ (begun c i me s t (begun_waiting (task_of s t).waiting)) (fair_light c i me s _ (light_after_poll (task_of s t).home d))
  in_poll t poll.Resume fair = seen t (send.Pend t) _ (resumed t (task_of s t) _ refl) (sight_of i s (task_of s t).waiting)
  in_poll t poll.Act fair = in_act t (next_word s (task_of s t))
  in_poll t (poll.JoinGate r) fair = no
  in_poll t poll.LoadSpawnHead fair = fair_if c i me s (tail_of (queue_of x i) == (queue_of x i).real) _ _ fair no
  in_poll t poll.Pend fair = pended t (task_of s t) (task_of s t).home
  in_poll t poll.RemoveTask fair = fair_light c i me s _ (light_next_pick d)

  -- THE CALLBACKS

  woken : (n : AfterCallbacks) (t : ℕ) (e : Desk) (it : Task) (home : Option ℕ) → it.home ≡ home → Fair c i me s (woken_by (ring_size c) i me s n t e it).place
  woken n t e it None h = rw h (desk_if c i me s (is_idle it.phase) _ _ (queued c i me s (push.CallBack n)) (calling c i me s me n e))
  woken n t e it (Some home) h = rw h (calling c i me s me n (flagged_by it e))

  told : (n : AfterCallbacks) (waiter : Option ℕ) (of : Heard) (e : Desk) → Fair c i me s (tells_waiter (ring_size c) i me s n waiter of e).place
  told n None of e = calling c i me s me n e
  told n (Some t) of e = desk_if c i me s (is_done (task_of s t).phase) _ _ (calling c i me s me n e) no

  in_item : (n : AfterCallbacks) (it : Item) → Leads (move_item c i me s d x n it)
  in_item n (Wakes t) = woken n t (record d { wakes = drop 1 d.wakes }) (task_of s t) _ refl
  in_item n LetsGo = calling c i me s me n (record d { outputs = d.outputs - 1 })
  in_item n (Releases r) = calling c i me s (record me { ended = drop 1 me.ended }) n d
  in_item n (Completes z) = told n (Some (sleeper_of s z).task) (heard.Timer z) (record d { completions = drop 1 d.completions })
  in_item n (Answers r) = told n (request_of s r).waiter (heard.Request r) (record d { results = drop 1 d.results })
  in_item n Nothing = calling c i me s me n d

  in_callbacks : (p : InCallbacks) (n : AfterCallbacks) → Leads (move_callbacks c i me s d x p n)
  in_callbacks callback.TakeBatch n = fair_if c i me s (d.searching && has_callbacks me d) _ _ no (calling c i me s me n d)
  in_callbacks callback.CallBack n = in_item n (item_next me d)
  in_callbacks (callback.WakeWaiter t of) n = woken n t d (task_of s t) _ refl

  -- A SERVICE

  in_loads : (p : InLoads) (r : Round) → Leads (move_loads i me d x p r)
  in_loads (load.LoadOwnWord f) r = loaded c i me s r _ d
  in_loads _ r = no

  reaped : (r : Reaping) (v : Service) (y : Ring) (l : List ℕ) → y.landed ≡ l → Leads (reap i v r s d y)
  reaped r v y [] h = rw h no
  reaped r v y (q ∷ later) h = rw h no

  in_submit : (gate : ℕ) (v : Service) (due : Due) → Leads (move_submit c i me s d x gate v due)
  in_submit = grind arith

  fired : (v : Service) (o : Option ℕ) → first_to_fire i me s d ≡ o → Leads (end_service i v me s d)
  fired v None h = rw h (served c i me s v.back d)
  fired v (Some z) h = rw h (desk_if c i me s (is_applied (sleeper_of s z).forwarding) _ _ before before)

  in_service : (p : InService) (v : Service) → Leads (move_service c i me s d x p v)
  in_service (step.Reap r) v = reaped r v (ring_of s x i) _ refl
  in_service (step.Submit gate) v = in_submit gate v (due_next c i gate me s d)
  in_service step.EndService v = fired v _ refl
  in_service _ v = no

  -- THE MAILBOX AND A CLOSING

  in_mail : (p : InMail) → Leads (move_mail i me s d x p)
  in_mail = grind arith

  in_closing : (p : InClosing) → Leads (move_closing c i s d x p)
  in_closing = grind arith

  -- A SEARCH AND THE WAITS

  in_search : (p : InSearch) → Leads (move_search c d x p)
  in_search search.LoadSearchCount = fair_if c i me s (nat_le c.workers (2 * x.idle.count)) _ _ no no
  in_search search.AddSearchCount = no

  in_scan : (p : InScan) → Leads (move_scan c i me s d x p)
  in_scan = grind (arith, fair_light, fair_if, no, scanned, headed, tailed, move_if, light_leaves_for_turn)

  mirrored : (last : Bool) (g : List ℕ) → Leads (look_at_mirror last d g)
  mirrored last [] = no
  mirrored last (t ∷ ts) = no

  in_look : (p : InLook) → Leads (move_look c i s d x p)
  in_look (look.LookAtMirror last) = mirrored last x.global
  in_look look.LookAtCount = fair_if c i me s (x.idle.count == 0) _ _ (looking c i me s 0 d) (waiting_on c i me s d)
  in_look (look.LookAtTail j h) = fair_if c i me s (is_stealable_at h (tail_of (queue_of x j))) _ _ no (looking c i me s (j + 1) d)
  in_look look.ExchangeLookCount = move_if c i me s (x.idle.count == 0) _ _ no (waiting_on c i me s d)
  in_look _ = no

  entered : (y : Stay) (r : Ring) (busy : Bool) → r.busy ≡ busy → Leads (enter_ring y me d r)
  entered y r true h = rw h no
  entered y r false h = rw h no

  in_ring_wait : (p : InRingWait) (y : Stay) → Leads (move_ring_wait c i me s d x p y)
  in_ring_wait ring.EnterFullRing y = move_if c i me s (ring_of s x i).busy _ _ no no
  in_ring_wait ring.TestRing y =
      move_if c i me s (has_submissions c me || (not d.polled && is_full (ring_size c) d)) _ _ (waited c i me s y later.Serve) no
  in_ring_wait ring.ArmRing y = no
  in_ring_wait ring.EnterRing y = entered y (ring_of s x i) _ refl
  in_ring_wait ring.SleepOnRing y = move_if c i me s (has_completion d (ring_of s x i)) _ _ no (move_if c i me s (has_come s.clock (next_due s i)) _ _ no no)
  in_ring_wait (ring.DisarmRing n) y = waited c i me s y n

  in_word_wait : (p : InWordWait) → Leads (move_word_wait i s d x p)
  in_word_wait = grind arith

  -- EACH PLACE

  in_place : (p : Place) → Fair c i me s p → Leads (move_at c i me s d x p)
  in_place at.BeginTurn fair = fair_if c i me s (is_of_pool s i) _ _ no no
  in_place (at.Pick p) fair = in_pick p
  in_place at.TakeRootFlag fair = move_if c i me s d.root_ready _ _ (fair_light c i me s _ (light_polls me.root (record d { root_ready = false }))) no
  in_place (at.Poll t p) fair = in_poll t p fair
  in_place (at.Callbacks p n) fair = in_callbacks p n
  in_place (at.Loads p r) fair = in_loads p r
  in_place (at.Service p v) fair = in_service p v
  in_place (at.Mail p) fair = in_mail p
  in_place (at.TestForWork f) fair = move_if c i me s (has_ready me f d || has_submissions c me) _ _ (fair_light c i me s _ (light_leaves_for_turn c i me s d)) no
  in_place at.ReadClock fair = move_if c i me s (has_come s.clock (next_due s i)) _ _ (fair_light c i me s _ (light_leaves_for_turn c i me s d)) (searching c i me s (record d { read = s.clock }))
  in_place (at.Search p) fair = in_search p
  in_place (at.Scan p) fair = in_scan p
  in_place (at.Look p) fair = in_look p
  in_place (at.RingWait p y) fair = in_ring_wait p y
  in_place (at.WordWait p) fair = in_word_wait p
  in_place (at.Withdraw n) fair = let came = not (is_in x.idle.published i) in withdrawn c i me s came n (searching_if came d)
  in_place (at.Closing p) fair = in_closing p
  in_place (at.Pop p b) fair = in_pop p b
  in_place (at.LeaveSearch b) fair = returned c i me s (x.idle.count == 1) b d
  in_place (at.Push p b) fair = in_push p b fair
  in_place (at.Global p b) fair = in_global p b
  in_place (at.Kick p b) fair = in_kick p b
  in_place (at.ClaimWorker set b) fair = claiming c i me s b (claimed set x.idle)
  in_place (at.Signal p j b) fair = in_signal p j b
  in_place (at.SendCancel b) fair = fair_light c i me s _ (light_after_posting c (first_letter d).to (send.Cancels b) _ (record d { letters = drop 1 d.letters }))

pub given_move : (c : Configuration) (i : ℕ) (me : Books) (s : Common) (d : Desk) (x : Things) → (is_given d.place ≡ true → is_of_pool s i ≡ true) → is_given (move c i me s d x).desk.place ≡ true → is_of_pool s i ≡ true
given_move c i me s d x before = in_place c i me s d x before d.place before
