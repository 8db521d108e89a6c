-- Plain moves: of the beginning of a turn, of the own run queue, of the handing on of what was queued, and of the mailbox.
use Rattle.std.proofs.Common.{◌≡◌, ℕ, Bool, true, false, List, ◌-◌, ◌==◌, Option, refl, if◌then◌else◌, arith}
use Rattle.exec_words.specs.{declared.idle.WorkerSet.WorkerSet, Idle.lowest_of, Queue.{Queue, head_of, tail_of}}
use Rattle.exec_machine.specs.{declared.{config.Configuration.Configuration, event.Event.Event, state.MailMessage.MailMessage}, World.{Common, Own as Books}}
use Rattle.exec_moves.specs.{declared.{handing.{AfterClaim.AfterClaim, AfterKick.AfterKick, AfterLeave.AfterLeave, AfterPop.AfterPop, AfterPush.AfterPush, AfterSignal.AfterSignal, InGlobal.InGlobal, InKick.InKick, InPop.{InPop, InPop as pop}, InPush.{InPush, InPush as push}, InSignal.InSignal}, place.{InMail.{InMail, InMail as mail}, InPick.InPick, Place.Place as at}}, Claim.{after_claim, claim_worker, claimed_if, same_bools, set_of}, Kick.leave_search, Mail.{apply, take_mail}, Move.{move_global, move_kick, move_mail, move_pick, move_pop, move_push, move_signal}, Pick.{begin_turn, take_root_flag}, Pop.{load_pop_head, pops, same_head}, State.{Desk, Things, queue_of}, Thing.{aside, set_queue, with_idle, with_inbox, with_queue}}
use Rattle.exec_settled.{specs.Permits.is_past, proofs.{HandsEarly.{early_after_fit, early_after_kick, early_after_push, early_after_return, early_after_signal, early_after_store, early_if, early_light}, HandsEvents.is_mild, HandsPlain.{Plain, kept_word, plain, plain_if, plain_late}}}
use Rattle.exec_rest.proofs.Continuing.{light_polls, light_first_pick, light_after_pop, light_after_empty_pop, light_judge_pop}

-- a signal rouses or not
pub mild_if : (b : Bool) (e f : Event) → is_mild e ≡ true → is_mild f ≡ true → is_mild (if b then e else f) ≡ true
mild_if = grind arith

module _ (c : Configuration) (i : ℕ) (me : Books) (s : Common) (d : Desk) (x : Things) where
  -- THE BEGINNING OF A TURN
  pub begins : Plain i at.BeginTurn x (aside x (begin_turn i s d))
  begins = plain i at.BeginTurn x _ refl (λ j h. h) (λ f h. early_light f _ (light_first_pick s i)) refl

  pub picks : (p : InPick) → Plain i (at.Pick p) x (move_pick c i d x p)
  picks = grind arith

  pub takes_flag : Plain i at.TakeRootFlag x (aside x (take_root_flag me.root d))
  takes_flag = grind (arith, plain_if, plain, early_light, light_polls)

  -- POPS AND PUSHES
  popped : (p : InPop) (b : AfterPop) (q : Queue ℕ) (vs : List ℕ) → q.values ≡ vs → Plain i (at.Pop p b) x (with_queue i x (pops c i b d q))
  popped = grind (arith, plain, early_light, light_after_empty_pop, light_after_pop)

  pop_loaded : (p : InPop) (b : AfterPop) (q : Queue ℕ) → Plain i (at.Pop p b) x (with_queue i x (load_pop_head c i b d q))
  pop_loaded p b q = plain i _ x _ refl (λ j h. h) (λ f h. early_light f _ (light_judge_pop c i b (head_of q) (tail_of q - q.real))) refl

  pub pops_one : (p : InPop) (b : AfterPop) → Plain i (at.Pop p b) x (move_pop c i d x p b)
  pops_one pop.PopAlone b = popped _ b (queue_of x i) _ refl
  pops_one pop.LoadPopHead b = pop_loaded _ b (queue_of x i)
  pops_one (pop.ExchangePop h) b = plain_if i _ x (set_queue i x) (same_head h (head_of (queue_of x i))) _ _ (popped _ b (queue_of x i) _ refl) (pop_loaded _ b (queue_of x i))
  pops_one pop.StorePop b = popped _ b (queue_of x i) _ refl

  pub pushes : (p : InPush) (b : AfterPush) → Plain i (at.Push p b) x (move_push c i me s d x p b)
  pushes push.LoadPushHead b = plain i _ x _ refl (λ j h. h) (λ f h. early_after_fit f b _ _ h) refl
  pushes (push.StoreValue len) b = plain i _ x _ refl (λ j h. h) (λ f h. early_after_store f c i me s len b d h) refl
  pushes (push.FlowOver head) b =
      plain_if i _ x (set_queue i x) (same_head head (head_of (queue_of x i))) _ _ (plain i _ x _ refl (λ j h. h) (λ f h. h) refl) (plain i _ x _ refl (λ j h. h) (λ f h. h) refl)
  pushes push.StoreOldest b = plain i _ x _ refl (λ j h. h) (λ f h. h) refl

  pub globals : (p : InGlobal) (b : AfterPush) → Plain i (at.Global p b) x (move_global c i me s d x p b)
  globals = grind (arith, plain, early_if, early_after_push)

  -- SEARCH COUNTS, KICKS, CLAIMS, SIGNALS
  pub leaves : (b : AfterLeave) → Plain i (at.LeaveSearch b) x (with_idle x (leave_search c i me s b d x.idle))
  leaves b = plain i _ x _ refl (λ j h. h) (λ f h. early_after_return f c i me s (x.idle.count == 1) b d h) refl

  pub kicks : (p : InKick) (b : AfterKick) → Plain i (at.Kick p b) x (move_kick c i me s d x p b)
  kicks = grind (arith, plain, early_if, early_after_kick, plain_if)

  early_claimed : (f : ℕ) (set : WorkerSet) (b : AfterClaim) (same : Bool) (o : Option ℕ) → is_past f (at.ClaimWorker set b) ≡ false → is_past f (after_claim b (claimed_if same (set_of x.idle) o)) ≡ false
  early_claimed = grind arith

  pub claims : (set : WorkerSet) (b : AfterClaim) → Plain i (at.ClaimWorker set b) x (with_idle x (claim_worker set b d x.idle))
  claims set b = plain i _ x _ refl (λ j h. h) (λ f h. early_claimed f set b (same_bools set.has x.idle.published) (lowest_of x.idle.published) h) refl

  pub signalled : (p : InSignal) (j : ℕ) (b : AfterSignal) → Plain i (at.Signal p j b) x (move_signal c i me s d x p j b)
  signalled = grind (arith, plain, kept_word, early_if, early_after_signal, mild_if)

  -- THE MAILBOX: it has passed all gates
  mail_taken : (ms : List MailMessage) → Plain i (at.Mail mail.TakeMail) x (with_inbox i x (take_mail d ms))
  mail_taken = grind (arith, plain_late)

  applied_by : (applied : ℕ) (taken : Bool) (ms : List MailMessage) → d.batch ≡ ms → Plain i (at.Mail (mail.Apply applied taken)) x (aside x (apply applied me.root s d))
  applied_by = grind (arith, plain_late)

  pub mails : (p : InMail) → Plain i (at.Mail p) x (move_mail i me s d x p)
  mails = grind (arith, plain_if, plain_late, kept_word, mail_taken, applied_by)
