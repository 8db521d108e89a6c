-- Where the parts lead: to places at which nothing is known of a worker, but for what follows the callbacks.
use Rattle.std.{proofs.Common.{◌≡◌, ℕ, Bool, true, false, List, Option, refl, ◌==◌, ◌&&◌, ◌||◌, if◌then◌else◌, arith}, specs.Prelude.{nat_lt, nat_le, not}}
use Rattle.exec_words.specs.declared.{head.{Fit.Fit, Head.Head}, word.WaitTarget.WaitTarget as target}
use Rattle.exec_machine.specs.{declared.{config.Configuration.Configuration, state.{Letter.Letter, MailMessage.MailMessage}}, Tests.is_empty, World.{Common, Own as Books}}
use Rattle.exec_moves.specs.{declared.{handing.{AfterCallbacks.AfterCallbacks, AfterCancels.AfterCancels, AfterKick.{AfterKick, AfterKick as kick}, AfterLeave.AfterLeave, AfterPop.{AfterPop, AfterPop as pop}, AfterPush.{AfterPush, AfterPush as push}, AfterSend.AfterSend, AfterSignal.{AfterSignal, AfterSignal as signal}, First.First, InSignal.InSignal, AfterClaim.AfterClaim as claim}, place.{AfterService.AfterService, InClosing.InClosing, InPoll.InPoll, InService.InService, Place.Place}}, Callback.{after_callbacks, has_callbacks, has_requests, is_of_pool, next_callback, to_queue}, Close.{after_close, after_letting_go}, Load.{has_submissions, leaves_for_turn, next_turn}, Mail.after_message, Parts.{after_cancels, after_kick, after_leave, after_poll, after_push, after_return, after_send, after_signal, cancels_left, first_pop, has_others, next_pick, polls, tells_from}, Pick.{after_empty_look, first_pick}, Poll.after_end, Pop.{after_empty_pop, after_pop, judge_pop}, Push.{after_fit, after_store}, Send.{after_posting, after_spawn}, Serve.after_service, State.Desk}
use Rattle.exec_rest.{specs.Places.{asked_for_poll, has_looked, is_dry, is_pooled, is_published, is_to_enter, is_to_sleep_on_ring, waits_on}, proofs.Plain.is_calm}

-- TO LIGHT PLACES: nothing is known of a worker there, nor is a task given to its run queue, and it is not at its end; a service
-- is ahead, of which nothing is done yet, before it may sleep.
abbrev pub is_light : Place → Bool
is_light Place.BeginTurn = true
is_light (Place.Pick p) = true
is_light Place.TakeRootFlag = true
is_light (Place.Poll t InPoll.LoadSpawnHead) = false
is_light (Place.Poll t p) = true
is_light (Place.Callbacks p AfterCallbacks.Test) = false
is_light (Place.Callbacks p AfterCallbacks.Finish) = false
is_light (Place.Callbacks p n) = true
is_light (Place.Service InService.Sample v) = true
is_light (Place.Closing InClosing.End) = false
is_light (Place.Closing p) = true
is_light (Place.Pop p b) = true
is_light (Place.LeaveSearch (AfterLeave.CallBack n)) = false
is_light (Place.LeaveSearch b) = true
is_light (Place.Signal InSignal.SetLatch j (AfterSignal.Send b)) = true
is_light (Place.SendCancel b) = true
is_light _ = false

pub light_if : (b : Bool) (q r : Place) → is_light q ≡ true → is_light r ≡ true → is_light (if b then q else r) ≡ true
light_if = grind arith

pub light_first_pop : (c : Configuration) (b : AfterPop) → is_light (first_pop c b) ≡ true
light_first_pop c b = light_if (has_others c) _ _ refl refl

pub light_polls : (t : ℕ) (d : Desk) → is_light (polls t d).place ≡ true
light_polls t d = light_if d.searching _ _ refl refl

pub light_first_pick : (s : Common) (i : ℕ) → is_light (first_pick s i) ≡ true
light_first_pick s i = light_if (is_of_pool s i) _ _ refl refl

pub light_empty_look : (c : Configuration) (f : First) → is_light (after_empty_look c f) ≡ true
light_empty_look = grind (arith, light_first_pop)

pub light_next_pick : (d : Desk) → is_light (next_pick d) ≡ true
light_next_pick d = light_if (d.picks == 0) _ _ refl refl

pub light_after_poll : (home : Option ℕ) (d : Desk) → is_light (after_poll home d) ≡ true
light_after_poll = grind (arith, light_next_pick)

pub light_next_turn : (c : Configuration) (i : ℕ) (me : Books) (s : Common) (d : Desk) → is_light (next_turn c i me s d) ≡ true
light_next_turn c i me s d = light_if ((d.put_off && has_requests i s) || (d.may_put_off && has_submissions c me)) _ _ refl refl

pub light_leaves_for_turn : (c : Configuration) (i : ℕ) (me : Books) (s : Common) (d : Desk) → is_light (leaves_for_turn c i me s d) ≡ true
light_leaves_for_turn c i me s d = light_if d.searching _ _ refl (light_next_turn c i me s d)

pub light_tells_from : (c : Configuration) (worker : ℕ) → is_light (tells_from c worker) ≡ true
light_tells_from c worker = light_if (nat_lt worker c.workers) _ _ refl (light_first_pop c pop.Discard)

pub light_after_cancels : (b : AfterCancels) (d : Desk) → is_light (after_cancels b d) ≡ true
light_after_cancels = grind arith

pub light_cancels_left : (b : AfterCancels) (d : Desk) (letters : List Letter) → is_light (cancels_left b d letters) ≡ true
light_cancels_left = grind (arith, light_after_cancels)

pub light_after_send : (c : Configuration) (b : AfterSend) (d : Desk) → is_light (after_send c b d) ≡ true
light_after_send = grind arith

pub light_after_posting : (c : Configuration) (j : ℕ) (b : AfterSend) (asked : Bool) (d : Desk) → is_light (after_posting c j b asked d) ≡ true
light_after_posting = grind (arith, light_after_send)

pub light_after_close : (c : Configuration) (i : ℕ) (s : Common) → is_light (after_close c i s) ≡ true
light_after_close c i s = light_if (i == 0) _ _ refl (light_if (is_of_pool s i) _ _ (light_first_pop c pop.Discard) refl)

pub light_after_letting_go : (held asleep : Option ℕ) → is_light (after_letting_go held asleep) ≡ true
light_after_letting_go = grind arith

pub light_after_end : (t : ℕ) (home : Option ℕ) (d : Desk) → is_light (after_end t home d) ≡ true
light_after_end = grind (arith, light_cancels_left)

pub light_after_pop : (c : Configuration) (b : AfterPop) (t : ℕ) (d : Desk) → is_light (after_pop c b t d).place ≡ true
light_after_pop = grind (arith, light_polls, light_first_pop)

pub light_after_empty_pop : (c : Configuration) (i : ℕ) (b : AfterPop) → is_light (after_empty_pop c i b) ≡ true
light_after_empty_pop = grind arith

pub light_judge_pop : (c : Configuration) (i : ℕ) (b : AfterPop) (h : Head) (len : ℕ) → is_light (judge_pop c i b h len) ≡ true
light_judge_pop c i b h len = light_if (len == 0) _ _ (light_after_empty_pop c i b) (light_if ((len == 1) && (h.gap == 0)) _ _ refl refl)

-- TO CALM PLACES

pub calm_light : (q : Place) → is_light q ≡ true → is_calm q ≡ true
calm_light = grind arith

pub calm_if : (b : Bool) (q r : Place) → is_calm q ≡ true → is_calm r ≡ true → is_calm (if b then q else r) ≡ true
calm_if = grind arith

-- the same of a desk
pub calm_desk_if : (b : Bool) (d e : Desk) → is_calm d.place ≡ true → is_calm e.place ≡ true → is_calm (if b then d else e).place ≡ true
calm_desk_if = grind arith

pub calm_after_leave : (c : Configuration) (i : ℕ) (me : Books) (s : Common) (b : AfterLeave) (d : Desk) → is_calm (after_leave c i me s b d) ≡ true
calm_after_leave = grind arith

pub calm_after_return : (c : Configuration) (i : ℕ) (me : Books) (s : Common) (last : Bool) (b : AfterLeave) (d : Desk) → is_calm (after_return c i me s last b d) ≡ true
calm_after_return c i me s last b d = calm_if last _ _ refl (calm_after_leave c i me s b d)

pub calm_to_queue : (s : Common) (i : ℕ) (b : AfterPush) → is_calm (to_queue s i b) ≡ true
calm_to_queue s i b = calm_if (is_of_pool s i) _ _ refl refl

pub calm_after_message : (applied : ℕ) (batch : List MailMessage) → is_calm (after_message applied batch) ≡ true
calm_after_message applied batch = calm_if (is_empty batch || nat_le 64 applied) _ _ refl refl

pub calm_after_fit : (b : AfterPush) (h : Head) (f : Fit) → is_calm (after_fit b h f) ≡ true
calm_after_fit = grind arith

pub calm_after_spawn : (c : Configuration) (i : ℕ) (s : Common) (t : ℕ) → is_calm (after_spawn c i s t) ≡ true
calm_after_spawn c i s t = calm_if (not (is_of_pool s i)) _ _ refl (calm_if (has_others c) _ _ refl refl)

pub calm_after_service : (b : AfterService) (d : Desk) → is_calm (after_service b d) ≡ true
calm_after_service = grind arith

-- TO NEARLY CALM ONES: the callbacks of a dedicated worker lead to the load of its wake word, as if it had found its run queue
-- empty, which it has none of; and those of a closing one to a wait on its ring, at which nothing is known of it yet.
pub record Nearly (s : Common) (i : ℕ) (q : Place) : Type 0 where
  pub published : is_published q ≡ false
  pub looked : has_looked q ≡ false
  pub pooled : is_pooled q ≡ false
  pub dry : is_of_pool s i ≡ true → is_dry q ≡ false
  pub waits : waits_on q ≡ target.None
  pub to_enter : is_to_enter q ≡ false
  pub to_sleep : is_to_sleep_on_ring q ≡ false
  pub asked : asked_for_poll q ≡ false

module _ (s : Common) (i : ℕ) where
  pub near_calm : (q : Place) → is_calm q ≡ true → Nearly s i q
  near_calm = grind arith

  pub near_if : (b : Bool) (q r : Place) → Nearly s i q → Nearly s i r → Nearly s i (if b then q else r)
  near_if = grind arith

  pub near_desk_if : (b : Bool) (d e : Desk) → Nearly s i d.place → Nearly s i e.place → Nearly s i (if b then d else e).place
  near_desk_if = grind arith

  pub near_after_callbacks : (size : ℕ) (n : AfterCallbacks) (d : Desk) → Nearly s i (after_callbacks size i s n d)
  near_after_callbacks = grind arith

  pub near_next_callback : (size : ℕ) (me : Books) (n : AfterCallbacks) (d : Desk) → Nearly s i (next_callback size i me s n d)
  near_next_callback size me n d = near_if (has_callbacks me d) _ _ (near_calm _ refl) (near_after_callbacks size n d)

  pub near_after_push : (c : Configuration) (me : Books) (b : AfterPush) (d : Desk) → Nearly s i (after_push c i me s b d)
  near_after_push c me (push.Act t) d = near_calm _ refl
  near_after_push c me push.Pick d = near_calm _ (calm_light _ (light_next_pick d))
  near_after_push c me (push.CallBack n) d = near_next_callback _ me n d

  pub near_after_store : (c : Configuration) (me : Books) (len : ℕ) (b : AfterPush) (d : Desk) → Nearly s i (after_store c i me s len b d)
  near_after_store c me len b d = near_if (nat_le 2 len && has_others c) _ _ (near_calm _ refl) (near_after_push c me b d)

  pub near_after_kick : (c : Configuration) (me : Books) (b : AfterKick) (d : Desk) → Nearly s i (after_kick c i me s b d)
  near_after_kick c me (kick.Leave b) d = near_calm _ (calm_after_leave c i me s b d)
  near_after_kick c me (kick.Push b) d = near_after_push c me b d

  pub near_after_signal : (c : Configuration) (me : Books) (b : AfterSignal) (d : Desk) → Nearly s i (after_signal c i me s b d)
  near_after_signal c me (signal.Claim (claim.Kick b)) d = near_after_kick c me b d
  near_after_signal c me (signal.Claim (claim.Global b)) d = near_after_push c me b d
  near_after_signal c me (signal.Send b) d = near_calm _ (calm_light _ (light_after_send c b d))
