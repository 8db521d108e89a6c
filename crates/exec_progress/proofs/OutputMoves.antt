-- No move makes more of outputs and slots of requests together, but one that makes a request: that takes one slot.
use Rattle.std.{proofs.{Common.{◌≡◌, ℕ, ◌+◌, ◌-◌, ◌≤◌, ◌⊎◌, Bool, true, false, if◌then◌else◌, List, [], ◌∷◌, length, nat_lt, nat_le, Option, Some, None, refl, sym, ◌∙◌, arith, le_refl, le_trans, inl, inr}, lemmas.Bool.{false≢true, and_parts, eqb-true}}, specs.Prelude.{slice_get, slice_index_or}}
use Rattle.exec_base.specs.declared.error.Error.TheVariants.{Timeout}
use Rattle.exec_outcomes.specs.{declared.outcome.Outcome.{Outcome, TheVariants.Failure}, Accounts.is_durable}
use Rattle.exec_task.specs.declared.drain.Drain.{Drain}
use Rattle.exec_words.specs.{Queue.Queue, declared.word.PureWord.PureWord}
use Rattle.exec_machine.specs.{declared.{config.{Configuration.Configuration, ScriptWord.{ScriptWord, ScriptWord as script}}, event.Event.{Event, TheVariants.{Sleep, Turn}, Event as event}, state.{MailMessage.MailMessage, Operation.Operation, RequestPhase.{RequestPhase, RequestPhase as phase}, Waiting.Waiting}}, Allowed.allowed, Closing.ends_by_clear, Deadlines.next_due, Requests.operation_asked, Ranges.ring_size, Tests.{AllTrue, is_resolved}, Words.next_word, World.{Common, Task, seat_of, request_of, sleeper_of, task_of, Own as Books}}
use Rattle.exec_moves.specs.{declared.{handing.{AfterCallbacks.AfterCallbacks, AfterPop.AfterPop, AfterSend.{AfterSend, AfterSend as send}, First.First, InKick.InKick as kick, InPop.InPop as pop, InPush.InPush as push, InSignal.InSignal as signals}, place.{InPoll.{InPoll, InPoll as poll}, Place.{Place, Place as at}, Reaping.Reaping, Service.Service, InCallbacks.InCallbacks as callback, InClosing.InClosing as closing, InLoads.InLoads as load, InMail.InMail as mail, InPick.InPick as pick, InService.InService as step}, idling.{InLook.InLook as look, InRingWait.InRingWait as ring, InScan.InScan as scan, InSearch.InSearch as search, InWordWait.InWordWait as word}}, Callback.{Item, item_next, woken_by}, Close.{close_sleeper, first_asleep, first_held, orphan, visit}, Load.has_come, Mail.{apply, take_mail}, Move.{move_act, move_at, move_item, move_look_at, move_poll, move_submit, move_wake}, Look.look_at_mirror, Pick.{load_mirror, take_share}, Poll.{Sight, Sight.{Asks, HearsRequest, HearsTimer, Here}, act, act_asked, act_by, after_pend, await, drop_newest, heard_by, requeued_if, resume, sight_of, sight_of_act, sleep_for}, Pop.{pops, shard_count}, Serve.{Ring, end_service, enter, first_to_fire, reap}, State.{Desk, Moved, Things, WakePoll, does, inbox_of, queue_of, wake_poll_of, word_of}, Submit.{after_grant, Due, Due.Flushes, due_next, granted_at, stage_next, try_gate, with_poll}, Thing.ring_of, Told.{has_number, without_request, woken_where_awaited}, Slots.numbers_in, Wait.{after_sleep, has_completion, noting_sleep}}
use Rattle.exec_progress.proofs.OutputSlots.{NoMore, all_let_go, dropped, ended, enters, fill, fired, kept_if, told_by, vacates_no_more, woken}
use Rattle.exec_machine.specs.declared.state.Waiting.TheVariants as waiting
use Rattle.exec_moves.specs.declared.handing.InGlobal.TheVariants as global

abbrev pub is_admit : Event → Bool
is_admit (event.Admit r kind outcome) = true
is_admit _ = false

-- what passes a test that none passes that is over
alive : (test : RequestPhase → Bool) → ((o : Outcome) → test (phase.Resolved o) ≡ false) → (p : RequestPhase) → test p ≡ true → is_resolved p ≡ false
alive test none (phase.Resolved o) h = absurd (false≢true (sym (none o) ∙ h))
alive test none _ h = refl

given_if : (b : Bool) (o : Outcome) → (if b then Some (Failure Timeout) else None) ≡ Some o → b ≡ true
given_if true o h = refl
given_if false o h = absurd (cc)

moved_if : {T : Type 0} {n : ℕ} (b : Bool) (m m' : Moved T) → fill m.desk ≤ n → fill m'.desk ≤ n → fill (if b then m else m').desk ≤ n
moved_if true m m' one other = one
moved_if false m m' one other = other

-- a request of the worker that isn't over stands in a slot of it
module _ (c : Configuration) (i : ℕ) (me : Books) (s : Common) (d : Desk) (x : Things)
    (slots : (k : ℕ) → (request_of s k).worker ≡ i → is_resolved (request_of s k).phase ≡ false → has_number k (numbers_in d.requests.held) ≡ true) where
  abbrev Keeps : {T : Type 0} → Moved T → Type 0
  Keeps m = fill m.desk ≤ fill d

  abbrev pub Fits : {T : Type 0} → Moved T → Type 0
  Fits m = (fill m.desk ≤ fill d) ⊎ ((fill m.desk ≤ fill d + 1) × (is_admit m.event ≡ true))

  abbrev pub May : {T : Type 0} → Moved T → Type 0
  May m = AllTrue (allowed c me s i m.event m.choice)

  same : fill d ≤ fill d
  same = le_refl _

  -- A POLL
  requeued : (b : Bool) (t : ℕ) → NoMore d (requeued_if b t d)
  requeued true t = same
  requeued false t = same

  pended : (t : ℕ) (it : Task) (home : Option ℕ) → NoMore d (after_pend i t s d it home)
  pended t it None = kept_if it.cleared _ _ (all_let_go i s it d) (requeued _ t)
  pended t it (Some home) = same

  -- a slot is free again
  taken : (r : ℕ) → NoMore d (without_request r d)
  taken r = omega (arith, vacates_no_more r d.requests)

  resumed_by : (t : ℕ) (it : Task) (r : ℕ) (p : RequestPhase) → it.waiting ≡ waiting.Request r → (request_of s r).phase ≡ p → Keeps (resume i t s d it)
  resumed_by t it r (phase.Resolved outcome) h is = rw (h, is) (taken r)
  resumed_by t it r _ h is = rw (h, is) (pended t (record it { waiting = waiting.Request r }) it.home)

  resumed : (t : ℕ) (it : Task) (w : Waiting) → it.waiting ≡ w → Keeps (resume i t s d it)
  resumed = grind (arith, resumed_by, moved_if, same, pended)

  hears : (t r : ℕ) (answers : List ℕ) (b : Bool) (p : RequestPhase) → Keeps (heard_by t r d answers b p)
  hears t r answers true (phase.Resolved outcome) = same
  hears t r answers _ _ = same

  looked : (t : ℕ) (b : AfterSend) (here : Moved Things) → Fits here → (y : Sight) → Fits (move_look_at c s d x t b here y)
  looked t b here fits Here = fits
  looked t b here fits (Asks j message) = inl same
  looked t b here fits (HearsRequest r) = inl (hears t r x.answers (has_number r x.answers) (request_of s r).phase)
  looked t b here fits (HearsTimer z) = inl (moved_if (has_number z x.alarms) _ _ same same)

  awaited_by : (t : ℕ) (it : Task) (r : ℕ) (p : RequestPhase) → (request_of s r).phase ≡ p → Keeps (await t s d it (Some r))
  awaited_by t it r (phase.Resolved outcome) h = rw h (taken r)
  awaited_by t it r _ h = rw h same

  awaited_newest : (t : ℕ) (it : Task) (newest : Option ℕ) → Keeps (await t s d it newest)
  awaited_newest t it None = same
  awaited_newest t it (Some r) = awaited_by t it r _ refl

  dropped_newest : (t : ℕ) (it : Task) (newest : Option ℕ) → Keeps (drop_newest t s d it newest)
  dropped_newest t it None = same
  dropped_newest t it (Some r) = dropped r (request_of s r) d

  slept_for : (t : ℕ) (it : Task) (until : Option ℕ) → Keeps (sleep_for t s d it until)
  slept_for t it None = same
  slept_for t it (Some until) = same

  acted_by : (t : ℕ) (it : Task) (w : ScriptWord) → Keeps (act_by i t me s d it w)
  acted_by = grind (arith, awaited_newest, dropped_newest, slept_for, all_let_go, same)

  asked : (t : ℕ) (it : Task) (w : ScriptWord) (o : Option Operation) → Fits (act_asked i t me s d it w o)
  asked t it w None = inl (acted_by t it w)
  asked t it w (Some o) = let more = enters (length s.requests) d.requests in inr (kept_if (is_durable o.kind) _ _ (omega (arith, more)) (omega (arith, more)), refl)

  acts : (t : ℕ) (it : Task) → Fits (act c i t me s d it)
  acts t it = asked t it (next_word s it) (operation_asked c me.sampled (next_word s it))

  wakes_one : (t u : ℕ) (home : Option ℕ) → Keeps (move_wake c i s d x t u home)
  wakes_one t u None = kept_if _ _ _ same same
  wakes_one t u (Some home) = moved_if _ _ _ same same

  by_word : (t : ℕ) (w : ScriptWord) → Fits (move_act c i me s d x t w)
  by_word t (script.Spawn k) = inl (kept_if _ _ _ same same)
  by_word t (script.Wake u) = inl (wakes_one t u (task_of s u).home)
  by_word t (script.Dedicated k) = inl same
  by_word t script.Await = looked t (send.Pend t) _ (acts t (task_of s t)) (sight_of_act i s (task_of s t) script.Await)
  by_word t script.Drop = looked t (send.Act t) _ (acts t (task_of s t)) (sight_of_act i s (task_of s t) script.Drop)
  by_word t _ = acts t (task_of s t)

  polls : (t : ℕ) (p : InPoll) → Fits (move_poll c i me s d x t p)
  polls t poll.BeginPoll = inl (moved_if _ _ _ same same)
  polls t poll.Resume = looked t (send.Pend t) _ (inl (resumed t (task_of s t) _ refl)) (sight_of i s (task_of s t).waiting)
  polls t poll.Act = by_word t (next_word s (task_of s t))
  polls t poll.Pend = inl (pended t (task_of s t) (task_of s t).home)
  polls t _ = inl same

  -- THE CALLBACKS
  wakes_by : (n : AfterCallbacks) (t : ℕ) (e : Desk) (it : Task) (home : Option ℕ) → it.home ≡ home → NoMore e (woken_by (ring_size c) i me s n t e it)
  wakes_by n t e it None h = rw h (kept_if _ _ _ (le_refl _) (le_refl _))
  wakes_by n t e it (Some home) h = rw h (le_refl _)

  by_item : (n : AfterCallbacks) (it : Item) → Keeps (move_item c i me s d x n it)
  by_item = grind arith

  -- A SERVICE: each request that is over by it was in a slot
  reaps : (v : Service) (r : Reaping) (busy : Bool) (landed : List ℕ) (wakes : WakePoll) → let m = reap i v r s d (record { busy = busy; landed = landed; wakes = wakes }) in May m → Keeps m
  reaps = grind (arith, same, ended, eqb-true, alive)

  granted : (v : Service) (file : ℕ) (outcome : Option Outcome) (e : Desk) → NoMore e (after_grant v file outcome e)
  granted v file None e = le_refl _
  granted v file (Some outcome) e = le_refl _

  tries : (v : Service) (file : ℕ) (gate : List ℕ) (first : Option ℕ) → granted_at i gate s ≡ first → May (try_gate i v file s d gate) → Keeps (try_gate i v file s d gate)
  tries = grind (arith, same, granted, ended, eqb-true, alive)

  flushes : (from : ℕ) (v : Service) (busy : Bool) (landed : List ℕ) (wakes : WakePoll) → Keeps (stage_next c i v from me s d (record { busy = busy; landed = landed; wakes = wakes }) Flushes)
  flushes from v true landed wakes = same
  flushes from v false landed wakes = same

  polled : (size : ℕ) → NoMore d (with_poll size d)
  polled size = kept_if _ _ _ same same

  submits : (from : ℕ) (v : Service) (due : Due) → May (move_submit c i me s d x from v due) → Keeps (move_submit c i me s d x from v due)
  submits = grind (arith, and_parts, ended, eqb-true, alive, given_if, tries, flushes, same, polled)

  fires : (v : Service) (first : Option ℕ) → first_to_fire i me s d ≡ first → Keeps (end_service i v me s d)
  fires v None h = rw h same
  fires v (Some z) h = rw h (fired z (sleeper_of s z) d)

  entered : (r : Ring) → Keeps (enter me d r)
  entered r = moved_if _ _ _ same same

  -- OTHERS
  mirror : (f : First) (g : List ℕ) → Keeps (load_mirror c f d g)
  mirror f [] = same
  mirror f (t ∷ g) = same

  share : (f : First) (room held : ℕ) (own : Queue ℕ) (g : List ℕ) → Keeps (take_share c f room held d (record { global = g; queue = own }))
  share f room held own [] = same
  share f room held own (t ∷ g) = same

  popped : (b : AfterPop) (q : Queue ℕ) (vs : List ℕ) → q.values ≡ vs → Keeps (pops c i b d q)
  popped = grind arith

  takes_mail : (ms : List MailMessage) → Keeps (take_mail d ms)
  takes_mail [] = same
  takes_mail (m ∷ ms) = same

  applied : (n : ℕ) (ms : List MailMessage) → d.batch ≡ ms → Keeps (apply n me.root s d)
  applied n [] h = rw h same
  applied n (m ∷ ms) h = rw h (told_by s me.root m (record d { batch = m ∷ ms }))

  looks_at : (last : Bool) (g : List ℕ) → Keeps (look_at_mirror last d g)
  looks_at last [] = same
  looks_at last (t ∷ g) = same

  noted : (w : PureWord) (due : Bool) (e : Desk) → fill (noting_sleep s.clock (if due then does Turn e w else does (Sleep (next_due s i)) e w)).desk ≤ fill e
  noted w true e = le_refl _
  noted w false e = le_refl _

  slept : (signalled : Bool) (since : Option ℕ) → NoMore d (after_sleep s.clock signalled since d)
  slept = grind arith

  visited : (drain : Drain) (shard : List ℕ) (newest : Option ℕ) → slice_get shard (length shard - 1) ≡ newest → Keeps (visit (shard_count c) drain d shard)
  visited drain shard None h = rw h same
  visited drain shard (Some t) h = rw h same

  orphaned : (first : Option ℕ) → first_held s d ≡ first → Keeps (orphan i s d)
  orphaned None h = rw h same
  orphaned (Some r) h = let it = request_of s r in rw h (le_trans (dropped r it (woken_where_awaited r it d)) (woken r it d))

  sleeper_closed : (first : Option ℕ) → first_asleep i s d ≡ first → Keeps (close_sleeper i s d)
  sleeper_closed None h = rw h same
  sleeper_closed (Some z) h = rw h (fired z (sleeper_of s z) d)

  pub fits : (p : Place) → May (move_at c i me s d x p) → Fits (move_at c i me s d x p)
  fits (at.Pick pick.CountDown) may = inl (moved_if (nat_le d.countdown 1) _ _ same same)
  fits (at.Pick (pick.LoadMirror f)) may = inl (mirror f x.global)
  fits (at.Pick (pick.TakeShare f room held)) may = inl (share f room held (queue_of x i) x.global)
  fits at.TakeRootFlag may = inl (moved_if d.root_ready _ _ same same)
  fits (at.Poll t p) may = polls t p
  fits (at.Callbacks callback.CallBack n) may = inl (by_item n (item_next me d))
  fits (at.Callbacks (callback.WakeWaiter t of) n) may = inl (wakes_by n t d (task_of s t) _ refl)
  fits (at.Loads load.LoadOwnHead r) may = inl same
  fits (at.Service (step.Reap r) v) may = inl (reaps v r (seat_of s i).busy (seat_of s i).landed (wake_poll_of x i) may)
  fits (at.Service (step.Submit from) v) may = inl (submits from v (due_next c i from me s d) may)
  fits (at.Service step.EnterLast v) may = inl (entered (ring_of s x i))
  fits (at.Service step.EndService v) may = inl (fires v _ refl)
  fits (at.Mail mail.LoadMailWord) may = inl (moved_if _ _ _ same same)
  fits (at.Mail mail.TakeMail) may = inl (takes_mail (inbox_of x i))
  fits (at.Mail (mail.Apply n taken)) may = inl (applied n _ refl)
  fits (at.TestForWork f) may = inl (moved_if _ _ _ same same)
  fits at.ReadClock may = inl (moved_if _ _ _ same same)
  fits (at.Search search.LoadSearchCount) may = inl same
  fits (at.Scan (scan.ClaimHalf y h tail)) may = inl (moved_if _ _ _ same same)
  fits (at.Scan (scan.ReleaseHalf from h)) may = inl (moved_if _ _ _ same same)
  fits (at.Look (look.LookAtMirror last)) may = inl (looks_at last x.global)
  fits (at.Look look.ExchangeLookCount) may = inl (moved_if _ _ _ same same)
  fits (at.RingWait ring.EnterFullRing y) may = inl (moved_if _ _ _ same same)
  fits (at.RingWait ring.TestRing y) may = inl (moved_if _ _ _ same (polled (ring_size c)))
  fits (at.RingWait ring.EnterRing y) may = inl (entered (ring_of s x i))
  fits (at.RingWait ring.SleepOnRing y) may = inl (moved_if (has_completion d (ring_of s x i)) _ _ same (moved_if (has_come s.clock (next_due s i)) _ _ same same))
  fits (at.WordWait (word.SpinOnBatch left)) may = inl (kept_if _ _ _ same same)
  fits (at.WordWait (word.SpinOnLatch left)) may = inl (kept_if (word_of x i).latch _ _ same (kept_if (nat_lt 1 left) _ _ same same))
  fits (at.WordWait word.SleepOnWord) may = inl (moved_if _ _ _ (noted (word_of x i) (has_come s.clock (next_due s i)) (record d { place = at.WordWait word.DisarmWord })) same)
  fits (at.WordWait word.DisarmWord) may = inl (slept (word_of x i).latch d.slept)
  fits (at.Closing (closing.Visit drain)) may = inl (visited drain (slice_index_or x.shards drain.at []) _ refl)
  fits (at.Closing (closing.Clear t drain)) may = inl (kept_if (ends_by_clear (task_of s t).phase) _ _ (all_let_go i s (task_of s t) d) same)
  fits (at.Closing closing.Orphan) may = inl (orphaned _ refl)
  fits (at.Closing closing.CloseSleeper) may = inl (sleeper_closed _ refl)
  fits (at.Pop pop.PopAlone b) may = inl (popped b (queue_of x i) _ refl)
  fits (at.Pop (pop.ExchangePop h) b) may = inl (moved_if _ _ _ (popped b (queue_of x i) _ refl) same)
  fits (at.Pop pop.StorePop b) may = inl (popped b (queue_of x i) _ refl)
  fits (at.Push (push.FlowOver h) b) may = inl (moved_if _ _ _ same same)
  fits (at.Global global.Append b) may = inl same
  fits (at.Kick (kick.ExchangeKickCount set) b) may = inl (moved_if _ _ _ same same)
  fits (at.Signal signals.SetLatch j b) may = inl same
  fits _ may = inl same
