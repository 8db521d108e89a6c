-- What a worker tells in a poll: of what the task lets go, and of what it awaits from now on; and it finds what was sent.
use Rattle.std.{proofs.{Common.{◌≡◌, ℕ, ◌==◌, Bool, true, false, length, Option, Some, None, refl, sym, ap, ◌∙◌, subst, inl, inr, if◌then◌else◌, arith}, lemmas.Bool.{true≢false, false≢true}}, specs.Prelude.◌⊎◌}
use Rattle.exec_outcomes.specs.{declared.outcome.Outcome.Outcome, Accounts.is_durable}
use Rattle.exec_machine.specs.{declared.{config.{Configuration.Configuration, ScriptWord.{ScriptWord, ScriptWord as script}}, event.Event.{Event, TheVariants.{Begin, Closed, Dedicated, Got, GotTimer, Spawn, Turn, Wait}}, state.{Forwarding.TheVariants.Applied, Operation.Operation, RequestPhase.{RequestPhase, RequestPhase as phase}, Waiting.{Waiting, Waiting as waiting}}}, Choice.Choice.Plain, Requests.{dropped, operation_asked}, Tasks.{after_over, after_pend as after_pending, begun_waiting}, Tests.{is_idle, is_ready, is_resolved}, World.{Common, Own as Books, Task, request_of, sleeper_of, task_of}, Words.{next_word, newest_held, sleep_asked}}
use Rattle.exec_moves.specs.{declared.{handing.AfterSend.{AfterSend, AfterSend as send}, place.{InPoll.{InPoll, InPoll as poll}, Place.{Place, Place as at}}}, Move.{move_act, move_look_at, move_poll, move_wake}, Parts.after_poll, Poll.{Sight, Sight.{Asks, HearsRequest, HearsTimer, Here}, act, act_asked, act_by, acts_on, after_begin, after_pend, await, drop_newest, heard_by, let_go, pend, requeued_if, resume, sight_of, sight_of_act, sleep_for, stops}, Send.{next_task, send_root, wake_own_root, with_newcomer}, State.{Desk, Moved, Things, does, goes, turns}, Thing.{aside, mailbox_of, with_alarms, with_answers, with_mailbox}, Told.{awaits, has_number, lets_go_all, told_of_drop, without_request}}
use Rattle.exec_settled.proofs.{TellsEvents.dropped_observed, TellsMild.{adds_lists, gone_rests, rests_at, told_lists}, TellsPlain.{Mild, TellsAll, all_told, is_mute, lists_if, lists_of, mild, mildly, mute_if, no_ends, quiet, told_apart}, TellsQuiet.{posts, posts_root}, TellsTold.{Adds, adds, all_adds, all_awaited, awaits_it, awaits_more, drop_told}}

abbrev polled_there : Place → ℕ
polled_there (at.Poll t p) = t
polled_there _ = 0

abbrev is_polling : Place → Bool
is_polling (at.Poll t p) = true
is_polling _ = false

module _ (c : Configuration) (i : ℕ) (me : Books) (s : Common) (d : Desk) (x : Things) (t : ℕ) where
  abbrev Mildly : Moved Things → Type 0
  Mildly m = Mild c i me s d x m

  abbrev it : Task
  it = task_of s t

  calm : (m : Moved Things) → lists_of m.desk m.thing ≡ lists_of d x → is_mute m.event ≡ true → Mildly m
  calm m lists mute = mild c i me s d x m (quiet c i me s d x m lists mute)

  -- BEGIN AND PEND

  begun : (ready : Bool) → Mildly (aside x (if ready then does (Begin t) (goes (at.Poll t (after_begin (begun_waiting it.waiting))) (let_go d)) it else turns (after_poll it.home d) (let_go d) it))
  begun = grind arith

  requeued_lists : (b : Bool) → lists_of (requeued_if b t d) x ≡ lists_of d x
  requeued_lists = grind arith

  -- the lists after a poll, as these requests are then
  record LetsGo (f : Desk) (then_by : Common) : Type 0 where
    desk : Desk
    same : lists_of f x ≡ lists_of desk x
    adds : Adds d desk
    awaited : (k : ℕ) → has_number k d.awaited ≡ true → (request_of then_by k).observed ≡ true → has_number k desk.awaited ≡ true

  none_go : (f : Desk) (then_by : Common) → lists_of f x ≡ lists_of d x → LetsGo f then_by
  none_go f then_by same = record { desk = d; same = same; adds = adds d d refl refl refl; awaited = λ k there observed. there }

  all_go : (f : Desk) → lists_of f x ≡ lists_of (lets_go_all i s it d) x → LetsGo f (after_over s i t)
  all_go f same = record { desk = lets_go_all i s it d; same = same; adds = all_adds i s it d; awaited = λ k there observed. all_awaited i s it d k there observed }

  goes_by : (home : Option ℕ) → LetsGo (after_pend i t s d it home) (after_pending s i t)
  goes_by = grind (arith, all_go, none_go, requeued_lists)

  pends : Mildly (aside x (pend i t s d it))
  pends = let left = goes_by it.home in mildly c i me s d x _ (adds_lists c i me s d x _ left.desk left.same left.adds (λ k there held going unsent observed. left.awaited k there observed)) refl

  -- WHAT A TASK WAITS FOR

  -- it ends its poll, or takes what it finds
  abbrev Resumed : Task → Type 0
  Resumed u = (resume i t s d u ≡ pend i t s d u) ⊎ ((e : Event) × ((f : Desk) × ((is_mute e ≡ true) × ((lists_of f x ≡ lists_of d x) × (resume i t s d u ≡ does e f u)))))

  resumed : (u : Task) (w : Waiting) → u.waiting ≡ w → Resumed u
  resumed = grind arith

  resumes : Mildly (aside x (resume i t s d it))
  resumes = elim (resumed it it.waiting refl) [
    | inl is ↦ subst (λ moved. Mildly (aside x moved)) (sym is) pends
    | inr found ↦ subst (λ moved. Mildly (aside x moved)) (sym found.1.1.1.1) (calm _ found.1.1.1.0 found.1.1.0)
  ]

  hears : (r : ℕ) (b : Bool) (p : RequestPhase) → Mildly (with_answers x (heard_by t r d x.answers b p))
  hears r true (phase.Resolved outcome) = calm _ refl refl
  hears r true phase.Gated = calm _ refl refl
  hears r true phase.Queued = calm _ refl refl
  hears r true phase.Staged = calm _ refl refl
  hears r true phase.Flying = calm _ refl refl
  hears r true (phase.Landed n) = calm _ refl refl
  hears r false p = calm _ refl refl

  hears_timer : (z : ℕ) (b : Bool) → Mildly (with_alarms x (if b then does (GotTimer z) (acts_on t d) x.alarms else does Turn (stops t d) x.alarms))
  hears_timer = grind (arith, calm)

  looks_at : (b : AfterSend) (m : Moved Things) → Mildly m → (y : Sight) → Mildly (move_look_at c s d x t b m y)
  looks_at b m one Here = one
  looks_at b m one (Asks j message) = mild c i me s d x _ (posts c i me s d x j message Plain b d refl)
  looks_at b m one (HearsRequest r) = hears r (has_number r x.answers) (request_of s r).phase
  looks_at b m one (HearsTimer z) = hears_timer z (has_number z x.alarms)

  -- ACTS

  waits_for : (r : ℕ) → Mildly (aside x (does (Wait (Some r)) (stops t (awaits r d)) it))
  waits_for = grind (arith, adds_lists, adds, awaits_more, no_ends, awaits_it, true≢false)

  -- it takes the end, or waits
  abbrev Awaited : ℕ → Type 0
  Awaited r = (await t s d it (Some r) ≡ does (Wait (Some r)) (stops t (awaits r d)) it) ⊎ ((o : Outcome) × (await t s d it (Some r) ≡ does (Got r o) (acts_on t (without_request r d)) it))

  awaited_by : (r : ℕ) (p : RequestPhase) → (request_of s r).phase ≡ p → Awaited r
  awaited_by = grind arith

  awaits_newest : (held : Option ℕ) → Mildly (aside x (await t s d it held))
  awaits_newest None = calm _ refl refl
  awaits_newest (Some r) = elim (awaited_by r (request_of s r).phase refl) [
    | inl is ↦ subst (λ moved. Mildly (aside x moved)) (sym is) (waits_for r)
    | inr found ↦ subst (λ moved. Mildly (aside x moved)) (sym found.1) (calm _ refl refl)
  ]

  drops_newest : (held : Option ℕ) → Mildly (aside x (drop_newest t s d it held))
  drops_newest None = calm _ refl refl
  drops_newest (Some r) =
      let old = request_of s r in
      mildly c i me s d x _ (told_lists c i me s d x _ r (told_of_drop r old d) refl (drop_told r old d) (rests_at s.requests r (dropped old) (gone_rests (dropped old) (dropped_observed old)))) refl

  sleeps_for : (until : Option ℕ) → Mildly (aside x (sleep_for t s d it until))
  sleeps_for None = calm _ refl refl
  sleeps_for (Some until) = calm _ refl refl

  acts_by : (w : ScriptWord) → Mildly (aside x (act_by i t me s d it w))
  acts_by script.Await = awaits_newest (newest_held it)
  acts_by script.Drop = drops_newest (newest_held it)
  acts_by (script.Sleep time) = sleeps_for (sleep_asked me.sampled (script.Sleep time))
  acts_by (script.Fault code) = mildly c i me s d x _ (adds_lists c i me s d x _ (lets_go_all i s it d) refl (all_adds i s it d) (λ k there held going unsent observed. all_awaited i s it d k there observed)) refl
  acts_by script.End = mildly c i me s d x _ (adds_lists c i me s d x _ (lets_go_all i s it d) refl (all_adds i s it d) (λ k there held going unsent observed. all_awaited i s it d k there observed)) refl
  acts_by _ = calm _ refl refl

  acts_asked : (w : ScriptWord) (asked : Option Operation) → Mildly (aside x (act_asked i t me s d it w asked))
  acts_asked w None = acts_by w
  acts_asked w (Some o) = calm _ (lists_if (is_durable o.kind) _ _ x _ refl refl) refl

  acts : Mildly (aside x (act c i t me s d it))
  acts = acts_asked (next_word s it) (operation_asked c me.sampled (next_word s it))

  wakes_root : (u home : ℕ) (own : Bool) → Mildly (if own then aside x (wake_own_root t u d (task_of s u)) else with_mailbox home x (send_root c s home (send.Act t) d (mailbox_of x home)))
  wakes_root = grind (arith, calm, mild, posts_root)

  wakes : (u : ℕ) (home : Option ℕ) → Mildly (move_wake c i s d x t u home)
  wakes u None = calm _ (lists_if (is_idle (task_of s u).phase) _ _ x _ refl refl) refl
  wakes u (Some home) = wakes_root u home (home == i)

  makes_worker : (closed : Bool) → Mildly (does (if closed then Closed else Dedicated (next_task s) (length s.seats)) (goes (at.Poll t poll.Act) d) (if closed then x else with_newcomer x))
  makes_worker = grind (arith, calm)

  acts_as : (w : ScriptWord) → Mildly (move_act c i me s d x t w)
  acts_as (script.Spawn k) = calm _ (lists_if s.set_closed _ _ x _ refl refl) (mute_if s.set_closed Closed (Spawn (next_task s) k) refl refl)
  acts_as (script.Wake u) = wakes u (task_of s u).home
  acts_as (script.Dedicated k) = makes_worker s.set_closed
  acts_as script.Await = looks_at (send.Pend t) _ acts (sight_of_act i s it script.Await)
  acts_as script.Drop = looks_at (send.Act t) _ acts (sight_of_act i s it script.Drop)
  acts_as _ = acts

  -- WHAT WAS SENT IS FOUND

  heard : (k : ℕ) (b : Bool) (p : RequestPhase) → b ≡ true → is_resolved p ≡ true → (o : Outcome) × ((heard_by t k d x.answers b p).event ≡ Got k o)
  heard k true (phase.Resolved outcome) h over = (outcome, refl)
  heard k true phase.Gated h over = absurd (false≢true over)
  heard k true phase.Queued h over = absurd (false≢true over)
  heard k true phase.Staged h over = absurd (false≢true over)
  heard k true phase.Flying h over = absurd (false≢true over)
  heard k true (phase.Landed n) h over = absurd (false≢true over)
  heard k false p h over = absurd (false≢true h)

  abbrev look : Moved Things
  look = move_poll c i me s d x t poll.Resume

  finds : (k : ℕ) → it.waiting ≡ waiting.Request k → (request_of s k).forwarding ≡ Applied → has_number k x.answers ≡ true → is_resolved (request_of s k).phase ≡ true → (o : Outcome) × (look.event ≡ Got k o)
  finds k waits applied sent over =
      let sight : sight_of i s it.waiting ≡ HearsRequest k = rw (waits, applied) refl in
      subst (λ y. (o : Outcome) × ((move_look_at c s d x t (send.Pend t) (aside x (resume i t s d it)) y).event ≡ Got k o)) (sym sight) (heard k (has_number k x.answers) (request_of s k).phase sent over)

  finds_timer : (z : ℕ) → it.waiting ≡ waiting.Timer z → (sleeper_of s z).forwarding ≡ Applied → has_number z x.alarms ≡ true → look.event ≡ GotTimer z
  finds_timer = grind arith

  resumes_all : d.place ≡ at.Poll t poll.Resume → TellsAll c i me s d x look
  resumes_all is =
      let all : Mildly look = looks_at (send.Pend t) _ resumes (sight_of i s it.waiting) in
      all_told c i me s d x look all.lists all.ends all.says
      (record {
        waking = λ u of n h. absurd (true≢false (ap is_polling (sym is ∙ h)));
        resumes = λ u k h waits applied sent over. let same : u ≡ t = ap polled_there (sym h ∙ is) in finds k (subst (λ q. (task_of s q).waiting ≡ waiting.Request k) same waits) applied sent over;
        resumes_too = λ u z h waits applied sent. let same : u ≡ t = ap polled_there (sym h ∙ is) in finds_timer z (subst (λ q. (task_of s q).waiting ≡ waiting.Timer z) same waits) applied sent;
      })

  pub polls : (p : InPoll) → d.place ≡ at.Poll t p → TellsAll c i me s d x (move_poll c i me s d x t p)
  polls poll.BeginPoll is = told_apart c i me s d x _ (at.Poll t poll.BeginPoll) is refl (begun (is_ready it.phase))
  polls poll.Resume is = resumes_all is
  polls poll.Act is = told_apart c i me s d x _ (at.Poll t poll.Act) is refl (acts_as (next_word s it))
  polls (poll.JoinGate r) is = told_apart c i me s d x _ (at.Poll t (poll.JoinGate r)) is refl (calm _ refl refl)
  polls poll.LoadSpawnHead is = told_apart c i me s d x _ (at.Poll t poll.LoadSpawnHead) is refl (calm _ refl refl)
  polls poll.Pend is = told_apart c i me s d x _ (at.Poll t poll.Pend) is refl pends
  polls poll.RemoveTask is = told_apart c i me s d x _ (at.Poll t poll.RemoveTask) is refl (calm _ refl refl)
