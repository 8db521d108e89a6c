-- Moves that change nothing of waking: of the beginning of a turn, of the own run queue, of kicks, of the mailbox.
use Rattle.std.{proofs.{Common.{◌≡◌, ℕ, List, [], ◌∷◌, ◌-◌, ◌==◌, refl, ap, arith}, lemmas.Bool.false≢true}, specs.Prelude.nat_le}
use Rattle.exec_words.specs.Queue.{Queue, head_of, tail_of}
use Rattle.exec_machine.specs.{declared.{config.Configuration.Configuration, state.MailMessage.MailMessage}, Tests.is_empty, World.{Common, Own as Books}}
use Rattle.exec_moves.specs.{declared.{handing.{AfterKick.AfterKick, AfterLeave.AfterLeave, AfterPop.AfterPop, AfterPush.AfterPush, First.First, InKick.{InKick, InKick as kick}, InPop.{InPop, InPop as pop}, InPush.{InPush, InPush as push}}, place.{InMail.{InMail, InMail as mail}, InPick.{InPick, InPick as pick}, Place.Place as at}}, Global.has_any, Kick.leave_search, Load.has_mail, Mail.{apply, take_mail}, Move.{move_kick, move_mail, move_pick, move_pop, move_push}, Pick.{begin_turn, load_mirror, take_root_flag, take_share}, Pop.{load_pop_head, pops, same_head}, State.{Desk, Own, Things, inbox_of, queue_of, word_of}, Thing.{aside, set_idle, set_queue, set_word, with_idle, with_inbox, with_global, with_queue, with_queues}}
use Rattle.exec_rest.proofs.{Heeds.Heeds, Asides.{global_less, idle_put, inbox_put, own_queue, same, share_put, word_put}, Continuing.{light_after_empty_pop, calm_after_fit, calm_after_message, light_after_pop, calm_after_return, light_empty_look, light_first_pop, light_judge_pop, light_polls, near_after_kick, near_after_store, near_calm, near_if, calm_light}, Nearly.{Quiet, calmly, quiet, quiet_if, quietly}}

module _ (R : Type 0) (c : Configuration) (i : ℕ) (me : Books) (s : Common) (d : Desk) (x : Things) where
  -- THE BEGINNING OF A TURN
  pub begins : d.place ≡ at.BeginTurn → Heeds R i s d x (aside x (begin_turn i s d))
  begins = grind arith

  mirror : (f : First) (g : List ℕ) → ((g ≡ [] → ⊥) → x.global ≡ [] → ⊥) → Quiet i s x (with_global x (load_mirror c f d g))
  mirror f [] less = calmly i s x _ (calm_light _ (light_empty_look c f)) (global_less i x [] less) refl
  mirror f (t ∷ g) less = calmly i s x _ refl (global_less i x (t ∷ g) less) refl

  share : (f : First) (room held : ℕ) (own : Queue ℕ) (g : List ℕ) → ((g ≡ [] → ⊥) → x.global ≡ [] → ⊥)
      → Quiet i s x (with_queues i x (take_share c f room held d (record { global = g; queue = own })))
  share f room held own [] less = calmly i s x _ (calm_light _ (light_empty_look c f)) (share_put i x _ less) refl
  share f room held own (t ∷ g) less = calmly i s x _ (calm_light _ (light_polls t d)) (share_put i x _ (λ some. less (λ e. false≢true (ap is_empty e)))) refl

  pub picked : (p : InPick) → Quiet i s x (move_pick c i d x p)
  picked pick.CountDown =
      quiet_if i s x (λ (u : Own). x) (nat_le d.countdown 1) _ _ (calmly i s x _ refl (same i x) refl) (calmly i s x _ (calm_light _ (light_first_pop c _)) (same i x) refl)
  picked (pick.LoadMirror f) = mirror f x.global (λ h. h)
  picked (pick.LoadHead f) = calmly i s x _ refl (own_queue i x _) refl
  picked (pick.TakeShare f room held) = share f room held (queue_of x i) x.global (λ h. h)

  pub picks : (p : InPick) → d.place ≡ at.Pick p → Heeds R i s d x (move_pick c i d x p)
  picks p is = quiet R i s d x _ (at.Pick p) is (record { calm = refl; signals = refl; raises = refl; owes = refl }) (picked p)

  pub takes_flag : d.place ≡ at.TakeRootFlag → Heeds R i s d x (aside x (take_root_flag me.root d))
  takes_flag = grind arith

  -- POPS AND PUSHES
  popped : (b : AfterPop) (q : Queue ℕ) (vs : List ℕ) → q.values ≡ vs → Quiet i s x (with_queue i x (pops c i b d q))
  popped b q [] h = rw h (calmly i s x _ (calm_light _ (light_after_empty_pop c i b)) (own_queue i x _) refl)
  popped b q (t ∷ ts) h = rw h (calmly i s x _ (calm_light _ (light_after_pop c b t d)) (own_queue i x _) refl)

  pop_loaded : (b : AfterPop) (q : Queue ℕ) → Quiet i s x (with_queue i x (load_pop_head c i b d q))
  pop_loaded b q = calmly i s x _ (calm_light _ (light_judge_pop c i b (head_of q) (tail_of q - q.real))) (own_queue i x _) refl

  pub pops_by : (p : InPop) (b : AfterPop) → Quiet i s x (move_pop c i d x p b)
  pops_by pop.PopAlone b = popped b (queue_of x i) _ refl
  pops_by pop.LoadPopHead b = pop_loaded b (queue_of x i)
  pops_by (pop.ExchangePop h) b = quiet_if i s x (set_queue i x) (same_head h (head_of (queue_of x i))) _ _ (popped b (queue_of x i) _ refl) (pop_loaded b (queue_of x i))
  pops_by pop.StorePop b = popped b (queue_of x i) _ refl

  pub pops_one : (p : InPop) (b : AfterPop) → d.place ≡ at.Pop p b → Heeds R i s d x (move_pop c i d x p b)
  pops_one p b is = quiet R i s d x _ (at.Pop p b) is (record { calm = refl; signals = refl; raises = refl; owes = refl }) (pops_by p b)

  pub pushes_by : (p : InPush) (b : AfterPush) → Quiet i s x (move_push c i me s d x p b)
  pushes_by push.LoadPushHead b = calmly i s x _ (calm_after_fit b _ _) (own_queue i x _) refl
  pushes_by (push.StoreValue len) b = quietly i s x _ (near_after_store s i c me len b d) (own_queue i x _) refl
  pushes_by (push.FlowOver h) b =
      quiet_if i s x (set_queue i x) (same_head h (head_of (queue_of x i))) _ _ (calmly i s x _ refl (own_queue i x _) refl) (calmly i s x _ refl (own_queue i x _) refl)
  pushes_by push.StoreOldest b = calmly i s x _ refl (own_queue i x _) refl

  pub pushes : (p : InPush) (b : AfterPush) → d.place ≡ at.Push p b → Heeds R i s d x (move_push c i me s d x p b)
  pushes p b is = quiet R i s d x _ (at.Push p b) is (record { calm = refl; signals = refl; raises = refl; owes = refl }) (pushes_by p b)

  -- SEARCH COUNTS AND KICKS
  pub leaves : (b : AfterLeave) → d.place ≡ at.LeaveSearch b → Heeds R i s d x (with_idle x (leave_search c i me s b d x.idle))
  leaves b is =
      quiet R i s d x _ (at.LeaveSearch b) is (record { calm = refl; signals = refl; raises = refl; owes = refl })
      (calmly i s x _ (calm_after_return c i me s (x.idle.count == 1) b d) (idle_put i x _ refl) refl)

  pub kicks_by : (p : InKick) (b : AfterKick) → Quiet i s x (move_kick c i me s d x p b)
  kicks_by kick.LoadKickCount b = quietly i s x _ (near_if s i (x.idle.count == 0) _ _ (near_calm s i _ refl) (near_after_kick s i c me b d)) (idle_put i x _ refl) refl
  kicks_by kick.LoadKickSet b = quietly i s x _ (near_if s i (has_any x.idle) _ _ (near_calm s i _ refl) (near_after_kick s i c me b d)) (idle_put i x _ refl) refl
  kicks_by (kick.ExchangeKickCount set) b =
      quiet_if i s x (set_idle x) (x.idle.count == 0) _ _ (calmly i s x _ refl (idle_put i x _ refl) refl) (quietly i s x _ (near_after_kick s i c me b d) (idle_put i x _ refl) refl)
  kicks_by kick.ReturnKickCount b = quietly i s x _ (near_if s i (x.idle.count == 1) _ _ (near_calm s i _ refl) (near_after_kick s i c me b d)) (idle_put i x _ refl) refl

  pub kicks : (p : InKick) (b : AfterKick) → d.place ≡ at.Kick p b → Heeds R i s d x (move_kick c i me s d x p b)
  kicks p b is = quiet R i s d x _ (at.Kick p b) is (record { calm = refl; signals = refl; raises = refl; owes = refl }) (kicks_by p b)

  -- THE MAILBOX
  mail_taken : (ms : List MailMessage) → Quiet i s x (with_inbox i x (take_mail d ms))
  mail_taken [] = calmly i s x _ (calm_after_message 0 []) (inbox_put i i x _) refl
  mail_taken (m ∷ ms) = calmly i s x _ (calm_after_message 0 (m ∷ ms)) (inbox_put i i x _) refl

  applied_by : (applied : ℕ) (ms : List MailMessage) → d.batch ≡ ms → Quiet i s x (aside x (apply applied me.root s d))
  applied_by applied [] h = rw h (calmly i s x _ refl (same i x) refl)
  applied_by applied (m ∷ ms) h = rw h (calmly i s x _ (calm_after_message _ ms) (same i x) refl)

  pub mails_by : (p : InMail) → Quiet i s x (move_mail i me s d x p)
  mails_by mail.LoadMailWord =
      quiet_if i s x (set_word i x) (has_mail d (word_of x i)) _ _ (calmly i s x _ refl (word_put i i x _ refl refl) refl) (calmly i s x _ refl (word_put i i x _ refl refl) refl)
  mails_by mail.TakeMail = mail_taken (inbox_of x i)
  mails_by (mail.Apply applied taken) = applied_by applied _ refl

  pub mails : (p : InMail) → d.place ≡ at.Mail p → Heeds R i s d x (move_mail i me s d x p)
  mails p is = quiet R i s d x _ (at.Mail p) is (record { calm = refl; signals = refl; raises = refl; owes = refl }) (mails_by p)
