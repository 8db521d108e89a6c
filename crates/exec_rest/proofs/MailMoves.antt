-- Each move does to mailboxes what `MailHeeds` says: a message is sent, the own inbox is taken, or nothing changes.
use Rattle.std.{proofs.{Common.{◌≡◌, ℕ, ◌+◌, ◌==◌, Bool, true, false, Option, Some, None, refl, if◌then◌else◌, arith}, lemmas.Bool.true≢false}, specs.Prelude.drop}
use Rattle.exec_machine.specs.{declared.{config.{Configuration.Configuration, ScriptWord.ScriptWord}, state.MailMessage.TheVariants.Root}, Choice.Choice.{Plain, Posts}, World.{Common, Own as Books}}
use Rattle.exec_moves.specs.{declared.{handing.{AfterCallbacks.AfterCallbacks, AfterSend.{AfterSend, AfterSend as send}, AfterSignal.AfterSignal, InSignal.{InSignal, InSignal as signal}, InGlobal.InGlobal as global, InKick.InKick as kick, InPop.InPop as pop, InPush.InPush as push}, idling.{InRingWait.InRingWait, InWordWait.{InWordWait, InWordWait as word}, Stay.Stay, InLook.InLook as look, InScan.InScan as scan, InSearch.InSearch as search}, place.{InCallbacks.{InCallbacks, InCallbacks as callback}, InClosing.{InClosing, InClosing as closing}, InLoads.{InLoads, InLoads as load}, InMail.InMail, InPoll.InPoll, InService.InService, Place.{Place, Place as at}, Round.Round, Service.Service, InPick.InPick as pick}}, Callback.{Item, Item.Wakes, item_next}, Move.{move_at, move_act, move_callbacks, move_closing, move_item, move_loads, move_look_at, move_mail, move_poll, move_ring_wait, move_service, move_signal, move_submit, move_wake, move_word_wait}, Poll.{Sight, Sight.{Asks, HearsRequest, HearsTimer, Here}}, Send.{first_letter, is_left_out, payer_of_send, send_root, with_newcomer}, State.{Desk, Moved, Things, word_of}, Submit.{Due, Due.Expires}, Thing.{mailbox_of, with_mailbox}}
use Rattle.exec_rest.proofs.{MailHeeds.{Mails, calm, newcomer, posts, word_put}, Processed.takes_mail}

-- MOVES THAT DON'T TAKE

module _ (c : Configuration) (i : ℕ) (me : Books) (s : Common) (d : Desk) (x : Things) where
  abbrev Keeps : Moved Things → Type 0
  Keeps m = Mails x m.thing m.desk.place

  -- by a test, this or that, of which more is made
  either : {T : Type 0} (more : Moved T → Moved Things) (b : Bool) (m n : Moved T) → Keeps (more m) → Keeps (more n) → Keeps (more (if b then m else n))
  either more true m n one other = one
  either more false m n one other = other

  -- to the root of worker j
  tells : (j : ℕ) (b : AfterSend) → Keeps (with_mailbox j x (send_root c s j b d (mailbox_of x j)))
  tells j b = posts c s x j Root (Posts (payer_of_send b) (is_left_out (mailbox_of x j))) b d

  wakes : (t u : ℕ) (home : Option ℕ) → Keeps (move_wake c i s d x t u home)
  wakes t u None = calm refl refl
  wakes t u (Some home) = either (λ m. m) (home == i) _ _ (calm refl refl) (tells home (send.Act t))

  looks : (t : ℕ) (b : AfterSend) (here : Moved Things) → Keeps here → (y : Sight) → Keeps (move_look_at c s d x t b here y)
  looks t b here one Here = one
  looks t b here one (Asks j message) = posts c s x j message Plain b d
  looks t b here one (HearsRequest r) = calm refl refl
  looks t b here one (HearsTimer z) = calm refl refl

  made : (closed : Bool) (q : Place) → Mails x (if closed then x else with_newcomer x) q
  made true q = calm refl refl
  made false q = newcomer x q

  acts : (t : ℕ) (w : ScriptWord) → Keeps (move_act c i me s d x t w)
  acts = grind (arith, wakes, made, looks, calm)

  polls : (t : ℕ) (p : InPoll) → Keeps (move_poll c i me s d x t p)
  polls = grind (arith, looks, calm, acts)

  items : (n : AfterCallbacks) (it : Item) → Keeps (move_item c i me s d x n it)
  items n (Wakes t) = calm refl refl
  items n _ = calm refl refl

  calls : (p : InCallbacks) (n : AfterCallbacks) → Keeps (move_callbacks c i me s d x p n)
  calls callback.CallBack n = items n (item_next me d)
  calls _ n = calm refl refl

  loads : (p : InLoads) (r : Round) → Keeps (move_loads i me d x p r)
  loads (load.LoadOwnWord f) r = word_put i x (word_of x i) refl
  loads _ r = calm refl refl

  submits : (from : ℕ) (v : Service) (due : Due) → Keeps (move_submit c i me s d x from v due)
  submits from v (Expires r) = calm refl refl
  submits from v _ = calm refl refl

  services : (p : InService) (v : Service) → Keeps (move_service c i me s d x p v)
  services = grind (arith, word_put, submits, calm)

  mails : (p : InMail) → takes_mail (at.Mail p) ≡ false → Keeps (move_mail i me s d x p)
  mails = grind (arith, either, word_put, true≢false, calm)

  rings : (p : InRingWait) (y : Stay) → Keeps (move_ring_wait c i me s d x p y)
  rings = grind (arith, word_put, calm)

  sleeps_on : Keeps (move_word_wait i s d x word.SleepOnWord)
  sleeps_on = grind (arith, either, word_put)

  words : (p : InWordWait) → Keeps (move_word_wait i s d x p)
  words = grind (arith, word_put, sleeps_on)

  closes : (p : InClosing) → takes_mail (at.Closing p) ≡ false → Keeps (move_closing c i s d x p)
  closes (closing.TellRoot j) free = tells j (send.Tell (j + 1))
  closes closing.CloseMailbox free = absurd (true≢false free)
  closes _ free = calm refl refl

  latches : (p : InSignal) (j : ℕ) (b : AfterSignal) → Keeps (move_signal c i me s d x p j b)
  latches signal.SetLatch j b = word_put j x _ refl
  latches (signal.Raise ring) j b = calm refl refl

  pub mails_at : (p : Place) → takes_mail p ≡ false → Mails x (move_at c i me s d x p).thing (move_at c i me s d x p).desk.place
  mails_at (at.Poll t p) free = polls t p
  mails_at (at.Callbacks p n) free = calls p n
  mails_at (at.Loads p r) free = loads p r
  mails_at (at.Service p v) free = services p v
  mails_at (at.Mail p) free = mails p free
  mails_at (at.RingWait p y) free = rings p y
  mails_at (at.WordWait p) free = words p
  mails_at (at.Closing p) free = closes p free
  mails_at (at.Signal p j b) free = latches p j b
  mails_at (at.SendCancel b) free = posts c s x (first_letter d).to (first_letter d).message Plain (send.Cancels b) (record d { letters = drop 1 d.letters })
  mails_at (at.Pick pick.CountDown) free = calm refl refl
  mails_at (at.Search search.LoadSearchCount) free = calm refl refl
  mails_at (at.Scan scan.LoadScanHead) free = calm refl refl
  mails_at (at.Look look.Publish) free = calm refl refl
  mails_at (at.Pop pop.PopAlone b) free = calm refl refl
  mails_at (at.Push push.LoadPushHead b) free = calm refl refl
  mails_at (at.Global global.Append b) free = calm refl refl
  mails_at (at.Kick kick.LoadKickCount b) free = calm refl refl
  mails_at _ free = calm refl refl
