-- How many batches of messages a worker took stays as it was: by what it tells, by a poll, and by the callbacks.
use Rattle.std.{proofs.Common.{◌≡◌, ℕ, Bool, ◌==◌, List, [], ◌∷◌, Option, Some, refl, ◌∙◌, if◌then◌else◌, arith}, specs.Prelude.not}
use Rattle.exec_machine.specs.{declared.{config.{Configuration.Configuration, ScriptWord.ScriptWord}, state.{Operation.Operation, Request.Request, RequestPhase.RequestPhase, Sleeper.Sleeper, Waiting.{Waiting, Waiting as waiting}}}, Requests.operation_asked, Tests.is_applied, World.{Common, Task, request_of, Own as Books}, Words.next_word}
use Rattle.exec_moves.specs.{declared.{handing.{AfterCallbacks.AfterCallbacks, AfterSend.AfterSend}, place.{InCallbacks.InCallbacks, InPoll.InPoll}}, Move.{move_act, move_callbacks, move_look_at, move_poll, move_wake}, Poll.{Sight, act, act_asked, act_by, after_pend, await, drop_newest, requeued_if, resume, sleep_for}, State.{Desk, Moved, Things}, Slots.is_in_slots, Told.{lets_go_all, lets_go_request, lets_go_requests, lets_go_sleep, told_if_ended, told_of_cancel, told_of_drop, told_of_end, told_of_fire, woken_where_awaited}}

-- BY A TEST, this or that: of two desks, and of two moves

pub kept_if : (b : Bool) (d e : Desk) {n : ℕ} → d.processed ≡ n → e.processed ≡ n → (if b then d else e).processed ≡ n
kept_if = grind arith

pub moved_if : {T : Type 0} (b : Bool) (m m' : Moved T) {n : ℕ} → m.desk.processed ≡ n → m'.desk.processed ≡ n → (if b then m else m').desk.processed ≡ n
moved_if = grind arith

-- WHAT IS LEFT TO BE TOLD

-- of requests
pub woken : (r : ℕ) (it : Request) (d : Desk) → (woken_where_awaited r it d).processed ≡ d.processed
woken r it d = kept_if _ _ _ refl refl

pub request_ended : (r : ℕ) (it : Request) (d : Desk) → (told_of_end r it d).processed ≡ d.processed
request_ended r it d = kept_if (not it.observed) _ _ refl (kept_if (is_applied it.forwarding) _ _ refl (woken r it d))

pub if_ended : {X : Type 0} (how : Option X) (r : ℕ) (it : Request) (d : Desk) → (told_if_ended how r it d).processed ≡ d.processed
if_ended = grind (arith, request_ended)

pub dropped : (r : ℕ) (it : Request) (d : Desk) → (told_of_drop r it d).processed ≡ d.processed
dropped = grind arith

-- of sleepers
pub fired : (z : ℕ) (it : Sleeper) (d : Desk) → (told_of_fire z it d).processed ≡ d.processed
fired z it d = kept_if _ _ _ refl refl

pub cancelled : (z : ℕ) (it : Sleeper) (d : Desk) → (told_of_cancel z it d).processed ≡ d.processed
cancelled z it d = kept_if (not (is_in_slots z d.timers)) _ _ refl (kept_if (is_applied it.forwarding) _ _ refl refl)

-- of a task that is over
pub request_let_go : (i r : ℕ) (it : Request) (d : Desk) → (lets_go_request i r it d).processed ≡ d.processed
request_let_go i r it d = kept_if (it.worker == i) _ _ (dropped r it d) refl

pub requests_let_go : (i : ℕ) (s : Common) (rs : List ℕ) (d : Desk) → (lets_go_requests i s rs d).processed ≡ d.processed
requests_let_go i s [] d = refl
requests_let_go i s (r ∷ rs) d = requests_let_go i s rs (lets_go_request i r (request_of s r) d) ∙ request_let_go i r (request_of s r) d

pub sleep_let_go : (i : ℕ) (s : Common) (w : Waiting) (d : Desk) → (lets_go_sleep i s w d).processed ≡ d.processed
sleep_let_go = grind (arith, kept_if, cancelled)

pub all_let_go : (i : ℕ) (s : Common) (it : Task) (d : Desk) → (lets_go_all i s it d).processed ≡ d.processed
all_let_go i s it d = sleep_let_go i s it.waiting (lets_go_requests i s it.held d) ∙ requests_let_go i s it.held d

-- a move from this desk took none
abbrev pub Keeps : {T : Type 0} → Desk → Moved T → Type 0
Keeps d m = m.desk.processed ≡ d.processed

-- EACH MOVE, of a group by its place
module _ (c : Configuration) (i : ℕ) (me : Books) (s : Common) (d : Desk) (x : Things) where
  -- A POLL
  requeued : (b : Bool) (t : ℕ) → (requeued_if b t d).processed ≡ d.processed
  requeued = grind arith

  pended : (t : ℕ) (it : Task) (home : Option ℕ) → (after_pend i t s d it home).processed ≡ d.processed
  pended = grind (arith, kept_if, all_let_go, requeued)

  resumed_by : (t : ℕ) (it : Task) (r : ℕ) (p : RequestPhase) → it.waiting ≡ waiting.Request r → (request_of s r).phase ≡ p → Keeps d (resume i t s d it)
  resumed_by = grind (arith, pended)

  resumed : (t : ℕ) (it : Task) (w : Waiting) → it.waiting ≡ w → Keeps d (resume i t s d it)
  resumed = grind (arith, resumed_by, moved_if, pended)

  looked : (t : ℕ) (b : AfterSend) (here : Moved Things) → Keeps d here → (y : Sight) → Keeps d (move_look_at c s d x t b here y)
  looked = grind arith

  awaited_by : (t : ℕ) (it : Task) (r : ℕ) (p : RequestPhase) → (request_of s r).phase ≡ p → Keeps d (await t s d it (Some r))
  awaited_by = grind arith

  awaited_newest : (t : ℕ) (it : Task) (newest : Option ℕ) → Keeps d (await t s d it newest)
  awaited_newest = grind (arith, awaited_by)

  dropped_newest : (t : ℕ) (it : Task) (newest : Option ℕ) → Keeps d (drop_newest t s d it newest)
  dropped_newest = grind (arith, dropped)

  slept_for : (t : ℕ) (it : Task) (until : Option ℕ) → Keeps d (sleep_for t s d it until)
  slept_for = grind arith

  act_by_kept : (t : ℕ) (it : Task) (w : ScriptWord) → Keeps d (act_by i t me s d it w)
  act_by_kept = grind (arith, awaited_newest, dropped_newest, slept_for, all_let_go)

  asked_kept : (t : ℕ) (it : Task) (w : ScriptWord) (asked : Option Operation) → Keeps d (act_asked i t me s d it w asked)
  asked_kept = grind (arith, act_by_kept, kept_if)

  act_kept : (t : ℕ) (it : Task) → Keeps d (act c i t me s d it)
  act_kept t it = asked_kept t it (next_word s it) (operation_asked c me.sampled (next_word s it))

  wake_kept : (t u : ℕ) (home : Option ℕ) → Keeps d (move_wake c i s d x t u home)
  wake_kept = grind (arith, kept_if, moved_if)

  word_kept : (t : ℕ) (w : ScriptWord) → Keeps d (move_act c i me s d x t w)
  word_kept = grind (arith, kept_if, wake_kept, looked, act_kept)

  pub poll_kept : (t : ℕ) (p : InPoll) → Keeps d (move_poll c i me s d x t p)
  poll_kept = grind (arith, moved_if, looked, resumed, word_kept, pended)

  pub callbacks_kept : (p : InCallbacks) (n : AfterCallbacks) → Keeps d (move_callbacks c i me s d x p n)
  callbacks_kept = grind arith
