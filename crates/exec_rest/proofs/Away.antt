-- Away from the places to which the test for work leads: where the parts lead, a poll and the callbacks.
use Rattle.std.{proofs.Common.{◌≡◌, ℕ, ◌-◌, Bool, true, false, List, Option, Some, refl, if◌then◌else◌, arith}, specs.Prelude.drop}
use Rattle.exec_machine.specs.{declared.{config.{Configuration.Configuration, ScriptWord.ScriptWord}, state.{MailMessage.MailMessage, Operation.Operation, RequestPhase.RequestPhase, Waiting.{Waiting, Waiting as waiting}}}, Choice.Choice.Plain, Requests.operation_asked, Ranges.ring_size, World.{Common, Task, request_of, sleeper_of, task_of, Own as Books}, Words.next_word}
use Rattle.exec_moves.specs.{declared.{handing.{AfterCallbacks.AfterCallbacks, AfterClaim.AfterClaim, AfterKick.AfterKick, AfterPush.AfterPush, AfterSend.AfterSend, AfterSignal.AfterSignal, Heard.{Heard, Heard as heard}}, place.{InCallbacks.InCallbacks, InPoll.InPoll, Place.Place}, idling.AfterWait.AfterWait as later}, Callback.{Item, Item.{Answers, Completes, LetsGo, Nothing, Releases, Wakes}, after_callbacks, has_callbacks, next_callback, tells_waiter, woken_by}, Claim.{Claimed, after_claim}, Look.after_withdrawal, Move.{move_act, move_callbacks, move_item, move_look_at, move_poll, move_wake}, Parts.{after_kick, after_push, after_signal}, Poll.{Sight, Sight.{Asks, HearsRequest, HearsTimer, Here}, act, act_asked, act_by, after_pend, heard_by, requeued_if, resume}, Send.{Mailbox, payer_of_send, posting, posting_of, send_message, send_root}, State.{Desk, Moved, Things}, Thing.mailbox_of, Told.has_number}
use Rattle.exec_rest.{specs.Posted.has_tested, proofs.{Continuing.{calm_after_leave, light_after_poll, light_after_posting, calm_after_return, light_after_send, calm_after_spawn, light_cancels_left, light_leaves_for_turn, light_next_pick, calm_to_queue, calm_light}, Plain.is_calm}}

-- AWAY: the place isn't one to which the test leads

pub calm_untested : (q : Place) → is_calm q ≡ true → has_tested q ≡ false
calm_untested = grind arith

-- by a test, this or that: of two places, of two desks, and of two moves
pub away_if : (b : Bool) (q r : Place) → has_tested q ≡ false → has_tested r ≡ false → has_tested (if b then q else r) ≡ false
away_if = grind arith

pub away_desk_if : (b : Bool) (d e : Desk) → has_tested d.place ≡ false → has_tested e.place ≡ false → has_tested (if b then d else e).place ≡ false
away_desk_if = grind arith

abbrev pub IsAway : {T : Type 0} → Moved T → Type 0
IsAway m = has_tested m.desk.place ≡ false

pub away_moved_if : {T : Type 0} (b : Bool) (m m' : Moved T) → IsAway m → IsAway m' → IsAway (if b then m else m')
away_moved_if = grind arith

-- WHERE THE PARTS LEAD that aren't known to lead to calm places
module _ (c : Configuration) (i : ℕ) (me : Books) (s : Common) where
  away_callbacks : (size : ℕ) (n : AfterCallbacks) (d : Desk) → has_tested (after_callbacks size i s n d) ≡ false
  away_callbacks = grind arith

  -- with what the worker has by then
  away_callback : (mine : Books) (size : ℕ) (n : AfterCallbacks) (d : Desk) → has_tested (next_callback size i mine s n d) ≡ false
  away_callback mine size n d = away_if (has_callbacks mine d) _ _ refl (away_callbacks size n d)

  pub away_push : (b : AfterPush) (d : Desk) → has_tested (after_push c i me s b d) ≡ false
  away_push = grind (arith, calm_light, calm_untested, light_next_pick, away_callback)

  pub away_kick : (b : AfterKick) (d : Desk) → has_tested (after_kick c i me s b d) ≡ false
  away_kick = grind (arith, calm_untested, calm_after_leave, away_push)

  pub away_signal : (b : AfterSignal) (d : Desk) → has_tested (after_signal c i me s b d) ≡ false
  away_signal = grind (arith, calm_light, away_kick, away_push, calm_untested, light_after_send)

  pub away_claim : (b : AfterClaim) (it : Claimed) → has_tested (after_claim b it) ≡ false
  away_claim = grind arith

  pub away_made_up : (came last : Bool) (d : Desk) → has_tested (after_withdrawal c i me s came (later.MakeUp last) d) ≡ false
  away_made_up = grind (arith, calm_untested, calm_light, light_leaves_for_turn, calm_after_return)

  -- a message, and one to a root
  pub posts : (j : ℕ) (message : MailMessage) (b : AfterSend) (d : Desk) (m : Mailbox) → IsAway (send_message c s j message b d m)
  posts j message b d m = calm_untested _ (calm_light _ (light_after_posting c j b (posting_of s j message Plain m).signals d))

  pub posts_root : (j : ℕ) (b : AfterSend) (d : Desk) (m : Mailbox) → IsAway (send_root c s j b d m)
  posts_root j b d m = calm_untested _ (calm_light _ (light_after_posting c j b (posting s j (payer_of_send b) m).signals d))

-- EACH MOVE from such a place, of a group by its place
module _ (c : Configuration) (i : ℕ) (me : Books) (s : Common) (d : Desk) (x : Things) (here : has_tested d.place ≡ false) where
  -- A POLL
  requeued : (b : Bool) (t : ℕ) → has_tested (requeued_if b t d).place ≡ false
  requeued = grind (arith, calm_untested, calm_light, light_next_pick)

  pended : (t : ℕ) (it : Task) (home : Option ℕ) → has_tested (after_pend i t s d it home).place ≡ false
  pended = grind (arith, away_desk_if, calm_untested, calm_light, light_cancels_left, requeued)

  resumed_by : (t : ℕ) (it : Task) (r : ℕ) (p : RequestPhase) → it.waiting ≡ waiting.Request r → (request_of s r).phase ≡ p → IsAway (resume i t s d it)
  resumed_by = grind (arith, pended)

  resumed : (t : ℕ) (it : Task) (w : Waiting) → it.waiting ≡ w → IsAway (resume i t s d it)
  resumed = grind (arith, resumed_by, away_moved_if, pended)

  heard_one : (t r : ℕ) (answers : List ℕ) (b : Bool) (p : RequestPhase) → IsAway (heard_by t r d answers b p)
  heard_one = grind arith

  looked : (t : ℕ) (b : AfterSend) (m : Moved Things) → IsAway m → (y : Sight) → IsAway (move_look_at c s d x t b m y)
  looked t b m away Here = away
  looked t b m away (Asks j message) = posts c i me s j message b d (mailbox_of x j)
  looked t b m away (HearsRequest r) = heard_one t r x.answers (has_number r x.answers) (request_of s r).phase
  looked t b m away (HearsTimer z) = away_moved_if (has_number z x.alarms) _ _ refl refl

  acts_by : (t : ℕ) (it : Task) (w : ScriptWord) → IsAway (act_by i t me s d it w)
  acts_by = grind arith

  acts_asked : (t : ℕ) (it : Task) (w : ScriptWord) (asked : Option Operation) → IsAway (act_asked i t me s d it w asked)
  acts_asked = grind (arith, acts_by, away_desk_if)

  acts : (t : ℕ) (it : Task) → IsAway (act c i t me s d it)
  acts t it = acts_asked t it (next_word s it) (operation_asked c me.sampled (next_word s it))

  wakes : (t u : ℕ) (home : Option ℕ) → IsAway (move_wake c i s d x t u home)
  wakes = grind (arith, away_desk_if, calm_untested, calm_to_queue, away_moved_if, posts_root)

  acts_as : (t : ℕ) (w : ScriptWord) → IsAway (move_act c i me s d x t w)
  acts_as = grind (arith, away_desk_if, calm_untested, calm_after_spawn, wakes, looked, acts)

  pub polls : (t : ℕ) (p : InPoll) → IsAway (move_poll c i me s d x t p)
  polls = grind (arith, calm_light, away_moved_if, calm_untested, light_after_poll, looked, resumed, acts_as, away_if, pended, light_next_pick)

  -- THE CALLBACKS
  woken : (n : AfterCallbacks) (t : ℕ) (e : Desk) (it : Task) (home : Option ℕ) → it.home ≡ home → has_tested (woken_by (ring_size c) i me s n t e it).place ≡ false
  woken = grind (arith, away_desk_if, calm_untested, calm_to_queue, away_callback)

  told : (n : AfterCallbacks) (waiter : Option ℕ) (of : Heard) (e : Desk) → has_tested (tells_waiter (ring_size c) i me s n waiter of e).place ≡ false
  told = grind (arith, away_callback, away_desk_if)

  items : (n : AfterCallbacks) (it : Item) → IsAway (move_item c i me s d x n it)
  items n (Wakes t) = woken n t (record d { wakes = drop 1 d.wakes }) (task_of s t) _ refl
  items n LetsGo = away_callback c i me s me (ring_size c) n (record d { outputs = d.outputs - 1 })
  items n (Releases r) = away_callback c i me s (record me { ended = drop 1 me.ended }) (ring_size c) n d
  items n (Completes z) = told n (Some (sleeper_of s z).task) (heard.Timer z) (record d { completions = drop 1 d.completions })
  items n (Answers r) = told n (request_of s r).waiter (heard.Request r) (record d { results = drop 1 d.results })
  items n Nothing = away_callback c i me s me (ring_size c) n d

  pub calls : (p : InCallbacks) (n : AfterCallbacks) → IsAway (move_callbacks c i me s d x p n)
  calls = grind (arith, away_if, away_callback, items, woken)
