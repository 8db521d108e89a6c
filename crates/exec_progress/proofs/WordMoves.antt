-- A move leaves what the own wake word says that its worker waits on, but where it arms or disarms that.
use Rattle.std.proofs.{Common.{◌≡◌, ℕ, zero, suc, ◌+◌, ◌==◌, Bool, true, false, List, [], ◌∷◌, ◌++◌, get_or, Option, Some, None, if◌then◌else◌, refl, sym, ap, ◌∙◌, arith}, lemmas.Bool.true≢false}
use Rattle.exec_words.specs.{declared.word.PureWord.PureWord, Word.is_idle_at}
use Rattle.exec_machine.specs.{declared.{config.{Configuration.Configuration, ScriptWord.{ScriptWord, ScriptWord as script}}, state.MailMessage.MailMessage}, Choice.{Choice, Choice.{Plain, Posts}}, Deadlines.next_due, World.{Common, Own as Books, task_of}, Words.next_word}
use Rattle.exec_moves.specs.{declared.{handing.{AfterCallbacks.AfterCallbacks, AfterKick.AfterKick, AfterPop.AfterPop, AfterPush.AfterPush, AfterSend.{AfterSend, AfterSend as send}, AfterSignal.AfterSignal, InGlobal.{InGlobal, InGlobal as global}, InKick.{InKick, InKick as kick}, InPop.{InPop, InPop as pop}, InPush.{InPush, InPush as push}, InSignal.{InSignal, InSignal as signals}}, idling.{InLook.{InLook, InLook as look}, InRingWait.{InRingWait, InRingWait as ring}, InScan.{InScan, InScan as scan}, InSearch.{InSearch, InSearch as search}, InWordWait.{InWordWait, InWordWait as word}, Stay.Stay}, place.{InCallbacks.InCallbacks, InClosing.{InClosing, InClosing as closing}, InLoads.InLoads, InMail.{InMail, InMail as mail}, InPick.{InPick, InPick as pick}, InPoll.{InPoll, InPoll as poll}, InService.InService, Place.{Place, Place as at}, Round.Round, Service.Service}}, Load.{has_come, has_mail}, Move.{move_act, move_at, move_callbacks, move_closing, move_global, move_kick, move_loads, move_look, move_look_at, move_mail, move_pick, move_poll, move_pop, move_push, move_ring_wait, move_scan, move_search, move_service, move_signal, move_submit, move_wake, move_word_wait}, Poll.{Sight, Sight.{Here, Asks, HearsRequest, HearsTimer}, sight_of, sight_of_act}, Send.{Mailbox, is_left_out, payer_of_send, posting_of, send_root, wake_own_root}, State.{Desk, Moved, Own, Things, no_word, word_of}, Submit.Due, Thing.{aside, mailbox_of, set_word, with_mailbox}, Wait.sleep_on_word}
use Rattle.exec_rest.proofs.BareMoves.{put_in}
use Rattle.exec_machine.specs.declared.state.MailMessage.TheVariants as message

-- it arms its wake word, or disarms it
abbrev pub is_arming : Place → Bool
is_arming (at.RingWait ring.ArmRing y) = true
is_arming (at.RingWait (ring.DisarmRing n) y) = true
is_arming (at.WordWait word.ArmWord) = true
is_arming (at.WordWait word.DisarmWord) = true
is_arming _ = false

posting_target : (s : Common) (j : ℕ) (m : MailMessage) (choice : Choice) (box : Mailbox) → (posting_of s j m choice box).mailbox.word.target ≡ box.word.target
posting_target = grind arith

-- a worker that begins waits on nothing, as one that isn't there
past_end : (ws : List PureWord) (j : ℕ) → (get_or (ws ++ no_word ∷ []) j no_word).target ≡ (get_or ws j no_word).target
past_end [] zero = refl
past_end [] (suc j) = refl
past_end (w ∷ ws) zero = refl
past_end (w ∷ ws) (suc j) = past_end ws j

module _ (c : Configuration) (i : ℕ) (me : Books) (s : Common) (d : Desk) (x : Things) where
  abbrev Kept : Moved Things → Type 0
  Kept m = (word_of m.thing i).target ≡ (word_of x i).target

  -- the word of worker k is one with the same target then
  word_put : (k : ℕ) (w : PureWord) → w.target ≡ (word_of x k).target → (word_of (set_word k x w) i).target ≡ (word_of x i).target
  word_put k w same = put_in (λ (v : PureWord). v.target ≡ (word_of x i).target) x.words k i w no_word (λ is. same ∙ ap (λ n. (word_of x n).target) (sym is)) refl

  mail_put : (j : ℕ) (m : MailMessage) (choice : Choice) → (word_of (set_word j x (posting_of s j m choice (mailbox_of x j)).mailbox.word) i).target ≡ (word_of x i).target
  mail_put j m choice = word_put j _ (posting_target s j m choice (mailbox_of x j))

  root_put : (j : ℕ) (b : AfterSend) → Kept (with_mailbox j x (send_root c s j b d (mailbox_of x j)))
  root_put j b = mail_put j message.Root (Posts (payer_of_send b) (is_left_out (mailbox_of x j)))

  in_pick : (p : InPick) → Kept (move_pick c i d x p)
  in_pick pick.CountDown = refl
  in_pick _ = refl

  in_pop : (p : InPop) (b : AfterPop) → Kept (move_pop c i d x p b)
  in_pop pop.PopAlone b = refl
  in_pop _ b = refl

  in_push : (p : InPush) (b : AfterPush) → Kept (move_push c i me s d x p b)
  in_push push.LoadPushHead b = refl
  in_push _ b = refl

  in_global : (p : InGlobal) (b : AfterPush) → Kept (move_global c i me s d x p b)
  in_global global.Append b = refl
  in_global _ b = refl

  in_kick : (p : InKick) (b : AfterKick) → Kept (move_kick c i me s d x p b)
  in_kick kick.LoadKickCount b = refl
  in_kick _ b = refl

  in_signal : (p : InSignal) (j : ℕ) (b : AfterSignal) → Kept (move_signal c i me s d x p j b)
  in_signal signals.SetLatch j b = word_put j _ refl
  in_signal (signals.Raise is_ring) j b = refl

  in_wake : (t u : ℕ) (home : Option ℕ) → Kept (move_wake c i s d x t u home)
  in_wake t u None = refl
  in_wake t u (Some home) = by (home == i)
    where
      by : (b : Bool) → Kept (if b then aside x (wake_own_root t u d (task_of s u)) else with_mailbox home x (send_root c s home (send.Act t) d (mailbox_of x home)))
      by true = refl
      by false = root_put home (send.Act t)

  seen : (t : ℕ) (b : AfterSend) (m : Moved Own) (y : Sight) → Kept (move_look_at c s d x t b (aside x m) y)
  seen t b m Here = refl
  seen t b m (Asks j message) = mail_put j message Plain
  seen t b m (HearsRequest r) = refl
  seen t b m (HearsTimer z) = refl

  in_act : (t : ℕ) (w : ScriptWord) → Kept (move_act c i me s d x t w)
  in_act t (script.Wake u) = in_wake t u (task_of s u).home
  in_act t (script.Dedicated k) = grind (arith, past_end)
  in_act t script.Await = seen t (send.Pend t) _ (sight_of_act i s (task_of s t) script.Await)
  in_act t script.Drop = seen t (send.Act t) _ (sight_of_act i s (task_of s t) script.Drop)
  in_act t _ = refl

  in_poll : (t : ℕ) (p : InPoll) → Kept (move_poll c i me s d x t p)
  in_poll t poll.Act = in_act t (next_word s (task_of s t))
  in_poll t poll.Resume = seen t (send.Pend t) _ (sight_of i s (task_of s t).waiting)
  in_poll t _ = refl

  in_callbacks : (p : InCallbacks) (n : AfterCallbacks) → Kept (move_callbacks c i me s d x p n)
  in_callbacks = grind arith

  in_loads : (p : InLoads) (r : Round) → Kept (move_loads i me d x p r)
  in_loads = grind (arith, word_put)

  in_submit : (gate : ℕ) (v : Service) (due : Due) → Kept (move_submit c i me s d x gate v due)
  in_submit = grind arith

  in_service : (p : InService) (v : Service) → Kept (move_service c i me s d x p v)
  in_service = grind (arith, word_put, in_submit)

  mail_loaded : (b : Bool) → has_mail d (word_of x i) ≡ b → Kept (move_mail i me s d x mail.LoadMailWord)
  mail_loaded true h = rw h (word_put i (word_of x i) refl)
  mail_loaded false h = rw h (word_put i (word_of x i) refl)

  in_mail : (p : InMail) → Kept (move_mail i me s d x p)
  in_mail mail.LoadMailWord = mail_loaded _ refl
  in_mail _ = refl

  in_search : (p : InSearch) → Kept (move_search c d x p)
  in_search search.LoadSearchCount = refl
  in_search _ = refl

  in_scan : (p : InScan) → Kept (move_scan c i me s d x p)
  in_scan scan.LoadScanHead = refl
  in_scan _ = refl

  in_look : (p : InLook) → Kept (move_look c i s d x p)
  in_look look.Publish = refl
  in_look _ = refl

  in_ring_wait : (p : InRingWait) (y : Stay) → is_arming (at.RingWait p y) ≡ false → Kept (move_ring_wait c i me s d x p y)
  in_ring_wait = grind arith

  slept : (w : PureWord) (idle : Bool) → is_idle_at w d.processed ≡ idle → (come : Bool) → has_come s.clock (next_due s i) ≡ come → (sleep_on_word i s d w).thing ≡ w
  slept = grind arith

  in_word_wait : (p : InWordWait) → is_arming (at.WordWait p) ≡ false → Kept (move_word_wait i s d x p)
  in_word_wait = grind (arith, word_put, slept, true≢false)

  in_closing : (p : InClosing) → Kept (move_closing c i s d x p)
  in_closing (closing.TellRoot j) = root_put j (send.Tell (j + 1))
  in_closing _ = refl

  pub target_kept : (p : Place) → is_arming p ≡ false → Kept (move_at c i me s d x p)
  target_kept (at.Pick p) off = in_pick p
  target_kept (at.Poll t p) off = in_poll t p
  target_kept (at.Callbacks p n) off = in_callbacks p n
  target_kept (at.Loads p r) off = in_loads p r
  target_kept (at.Service p v) off = in_service p v
  target_kept (at.Mail p) off = in_mail p
  target_kept (at.Search p) off = in_search p
  target_kept (at.Scan p) off = in_scan p
  target_kept (at.Look p) off = in_look p
  target_kept (at.RingWait p y) off = in_ring_wait p y off
  target_kept (at.WordWait p) off = in_word_wait p off
  target_kept (at.Closing p) off = in_closing p
  target_kept (at.Pop p b) off = in_pop p b
  target_kept (at.Push p b) off = in_push p b
  target_kept (at.Global p b) off = in_global p b
  target_kept (at.Kick p b) off = in_kick p b
  target_kept (at.Signal p j b) off = in_signal p j b
  target_kept (at.SendCancel b) off = mail_put _ _ Plain
  target_kept _ off = refl
