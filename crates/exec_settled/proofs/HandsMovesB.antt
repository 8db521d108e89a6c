-- Plain moves: those by which a message is sent, of a closing, and of the callbacks.
use Rattle.std.{proofs.Common.{◌≡◌, ℕ, true, false, List, [], ◌+◌, ◌-◌, Option, Some, refl, length, arith}, specs.Prelude.{drop, slice_get, slice_index_or}}
use Rattle.exec_task.specs.declared.drain.Drain.{Drain}
use Rattle.exec_machine.specs.{declared.{config.Configuration.Configuration, state.MailMessage.{MailMessage, TheVariants.Root}}, Choice.{Choice, Choice.{Plain as Open, Posts}}, Ranges.ring_size, World.{Common, Task, request_of, sleeper_of, task_of, Own as Books}}
use Rattle.exec_moves.specs.{declared.{handing.{AfterCallbacks.AfterCallbacks, AfterCancels.{AfterCancels, AfterCancels as cancels}, AfterSend.{AfterSend, AfterSend as send}, Heard.{Heard, Heard as heard}}, place.{InCallbacks.{InCallbacks, InCallbacks as callback}, InClosing.{InClosing, InClosing as closing}, Place.{Place, Place as at}}}, Callback.{Item, Item.{Answers, Completes, LetsGo, Nothing, Releases, Wakes}, tells_waiter, woken_by}, Close.{close_sleeper, first_asleep, first_held, orphan, told_of_clear, visit}, Move.{move_callbacks, move_closing, move_item}, Pop.shard_count, Send.{Mailbox, first_letter, is_left_out, payer_of_send, posted, posting_of, send_cancel, send_root, sent}, State.{Desk, Things}, Thing.{aside, mailbox_of, with_mailbox, with_shard}}
use Rattle.exec_settled.{specs.Permits.is_past_callbacks, proofs.{HandsEarly.{IsEarly, early_desk_if, early_if, early_next_callback, early_to_queue, early_light}, HandsPlain.{Plain, kept_word, plain}}}
use Rattle.exec_rest.proofs.Continuing.{light_tells_from, light_cancels_left, light_after_posting, light_after_close, light_after_letting_go}

-- A MESSAGE: of the wake word the batch alone changes
posted_latch : (message : MailMessage) (m : Mailbox) → m.word.latch ≡ true → (posted message m).word.latch ≡ true
posted_latch = grind arith

module _ (c : Configuration) (i : ℕ) (s : Common) (p : Place) (x : Things) where
  -- to worker j
  pub posts : (j : ℕ) (message : MailMessage) (choice : Choice) (b : AfterSend) (d : Desk)
      → Plain i p x (with_mailbox j x (sent c j b d (posting_of s j message choice (mailbox_of x j))))
  posts = grind (arith, early_light, plain, kept_word, light_after_posting, posted_latch)

  pub posts_root : (j : ℕ) (b : AfterSend) (d : Desk) → Plain i p x (with_mailbox j x (send_root c s j b d (mailbox_of x j)))
  posts_root j b d = posts j Root (Posts (payer_of_send b) (is_left_out (mailbox_of x j))) b d

module _ (c : Configuration) (i : ℕ) (me : Books) (s : Common) (d : Desk) (x : Things) where
  pub sends_cancel : (b : AfterCancels) → Plain i (at.SendCancel b) x (with_mailbox (first_letter d).to x (send_cancel c s b d (mailbox_of x (first_letter d).to)))
  sends_cancel b = posts c i s (at.SendCancel b) x (first_letter d).to (first_letter d).message Open (send.Cancels b) (record d { letters = drop 1 d.letters })

  -- A CLOSING
  visits : (drain : Drain) (shard : List ℕ) (newest : Option ℕ) → slice_get shard (length shard - 1) ≡ newest → Plain i (at.Closing (closing.Visit drain)) x (with_shard drain.at x (visit (shard_count c) drain d shard))
  visits = grind (arith, plain)

  orphans : (held : Option ℕ) → first_held s d ≡ held → Plain i (at.Closing closing.Orphan) x (aside x (orphan i s d))
  orphans = grind (arith, plain, early_light, light_after_letting_go)

  closes_sleeper : (asleep : Option ℕ) → first_asleep i s d ≡ asleep → Plain i (at.Closing closing.CloseSleeper) x (aside x (close_sleeper i s d))
  closes_sleeper = grind (arith, plain, early_light, light_after_letting_go)

  pub closes : (p : InClosing) → Plain i (at.Closing p) x (move_closing c i s d x p)
  closes closing.Close = plain i _ x _ refl (λ j h. h) (λ f h. early_light f _ (light_after_close c i s)) refl
  closes closing.CloseQueue = plain i _ x _ refl (λ j h. h) (λ f h. refl) refl
  closes closing.OpenBarrier = plain i _ x _ refl (λ j h. h) (λ f h. refl) refl
  closes closing.Stop = plain i _ x _ refl (λ j h. h) (λ f h. early_light f _ (light_tells_from c 1)) refl
  closes (closing.TellRoot j) = posts_root c i s (at.Closing (closing.TellRoot j)) x j (send.Tell (j + 1)) d
  closes (closing.Visit drain) = visits drain (slice_index_or x.shards drain.at []) _ refl
  closes (closing.Clear t drain) = plain i _ x _ refl (λ j h. h) (λ f h. early_light f _ (light_cancels_left (cancels.Visit drain) (told_of_clear i s d (task_of s t)) _)) refl
  closes closing.LeaveBarrier = plain i _ x _ refl (λ j h. h) (λ f h. refl) refl
  closes closing.CloseMailbox = plain i _ x _ refl (λ j h. h) (λ f h. early_light f _ (light_after_letting_go _ _)) refl
  closes closing.Orphan = orphans _ refl
  closes closing.CloseSleeper = closes_sleeper _ refl
  closes closing.End = plain i _ x _ refl (λ j h. h) (λ f h. refl) refl

  -- THE CALLBACKS
  early_woken : (f : ℕ) (n : AfterCallbacks) → is_past_callbacks n ≡ false → (t : ℕ) (e : Desk) (it : Task) (home : Option ℕ) → it.home ≡ home → IsEarly f (woken_by (ring_size c) i me s n t e it).place
  early_woken = grind (arith, early_desk_if, early_to_queue, early_next_callback)

  early_told : (f : ℕ) (n : AfterCallbacks) → is_past_callbacks n ≡ false → (waiter : Option ℕ) (of : Heard) (e : Desk) → IsEarly f (tells_waiter (ring_size c) i me s n waiter of e).place
  early_told = grind (arith, early_next_callback, early_desk_if)

  called_item : (n : AfterCallbacks) (it : Item) → Plain i (at.Callbacks callback.CallBack n) x (move_item c i me s d x n it)
  called_item n (Wakes t) = plain i _ x _ refl (λ j h. h) (λ f h. early_woken f n h t (record d { wakes = drop 1 d.wakes }) (task_of s t) _ refl) refl
  called_item n LetsGo = plain i _ x _ refl (λ j h. h) (λ f h. early_next_callback f (ring_size c) i me s n (record d { outputs = d.outputs - 1 }) h) refl
  called_item n (Releases r) = plain i _ x _ refl (λ j h. h) (λ f h. early_next_callback f (ring_size c) i (record me { ended = drop 1 me.ended }) s n d h) refl
  called_item n (Completes z) = plain i _ x _ refl (λ j h. h) (λ f h. early_told f n h (Some (sleeper_of s z).task) (heard.Timer z) (record d { completions = drop 1 d.completions })) refl
  called_item n (Answers r) = plain i _ x _ refl (λ j h. h) (λ f h. early_told f n h (request_of s r).waiter (heard.Request r) (record d { results = drop 1 d.results })) refl
  called_item n Nothing = plain i _ x _ refl (λ j h. h) (λ f h. early_next_callback f (ring_size c) i me s n d h) refl

  pub calls : (p : InCallbacks) (n : AfterCallbacks) → Plain i (at.Callbacks p n) x (move_callbacks c i me s d x p n)
  calls = grind (arith, plain, early_if, early_next_callback, called_item, early_woken)
