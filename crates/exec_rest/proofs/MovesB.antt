-- Moves that change nothing of waking: those by which a message is sent, of a closing, and of the callbacks.
use Rattle.std.{proofs.Common.{◌≡◌, ℕ, Bool, true, false, List, [], ◌+◌, ◌-◌, Option, Some, None, refl, if◌then◌else◌, length, arith}, specs.Prelude.{◌&&◌, drop, slice_get, slice_index_or}}
use Rattle.exec_task.specs.declared.drain.Drain.{Drain}
use Rattle.exec_machine.specs.{declared.{config.Configuration.Configuration, event.Event.TheVariants.{Closed, Send}, state.MailMessage.{MailMessage, TheVariants.Root}}, Choice.{Choice, Choice.{Plain, Posts}}, Ranges.ring_size, Tests.{is_done, is_idle}, World.{Common, Task, request_of, seat_of, sleeper_of, task_of, Own as Books}}
use Rattle.exec_moves.specs.{declared.{handing.{AfterCallbacks.AfterCallbacks, AfterCancels.{AfterCancels, AfterCancels as cancels}, AfterSend.{AfterSend, AfterSend as send}, Heard.{Heard, Heard as heard}, AfterPush.AfterPush as push}, place.{InCallbacks.{InCallbacks, InCallbacks as callback}, InClosing.{InClosing, InClosing as closing}, Place.Place as at}}, Callback.{Item, Item.{Answers, Completes, LetsGo, Nothing, Releases, Wakes}, flagged_by, has_callbacks, item_next, tells_waiter, woken_by}, Close.{close_sleeper, first_asleep, first_held, orphan, told_of_clear, visit}, Move.{move_callbacks, move_closing, move_item}, Pop.shard_count, Send.{Mailbox, asks, first_letter, is_left_out, payer_of_send, posted, posting_of, send_cancel, send_root, sent}, State.{Desk, Things}, Thing.{aside, mailbox_of, with_mailbox, with_shard}}
use Rattle.exec_rest.proofs.{Heeds.Heeds, Asides.{alarms_put, answers_put, barrier_put, global_less, inbox_put, mailbox_put, same, shard_put}, Continuing.{Nearly, light_after_close, light_after_letting_go, light_after_posting, light_cancels_left, light_tells_from, calm_to_queue, near_calm, near_desk_if, near_if, near_next_callback, calm_light}, Nearly.{Quiet, calmly, quiet, quietly}}

-- A MESSAGE: of the wake word the batch alone changes
posted_target : (message : MailMessage) (m : Mailbox) → (posted message m).word.target ≡ m.word.target
posted_target = grind arith

posted_latch : (message : MailMessage) (m : Mailbox) → (posted message m).word.latch ≡ m.word.latch
posted_latch = grind arith

module _ (c : Configuration) (i : ℕ) (s : Common) (x : Things) where
  -- to worker j
  pub posts : (j : ℕ) (message : MailMessage) (choice : Choice) (b : AfterSend) (d : Desk)
      → Quiet i s x (with_mailbox j x (sent c j b d (posting_of s j message choice (mailbox_of x j))))
  posts j message choice b d = by (seat_of s j).mailbox_closed
    where
      m : Mailbox
      m = mailbox_of x j

      by : (closed : Bool) → Quiet i s x (with_mailbox j x (sent c j b d
          (if closed then record { event = Closed; choice = Plain; signals = false; mailbox = m } else record { event = Send j message; choice = choice; signals = asks m; mailbox = posted message m })))
      by true = calmly i s x _ (calm_light _ (light_after_posting c j b false d)) (mailbox_put i j x m refl refl) refl
      by false = calmly i s x _ (calm_light _ (light_after_posting c j b (asks m) d)) (mailbox_put i j x (posted message m) (posted_target message m) (posted_latch message m)) refl

  pub posts_root : (j : ℕ) (b : AfterSend) (d : Desk) → Quiet i s x (with_mailbox j x (send_root c s j b d (mailbox_of x j)))
  posts_root j b d = posts j Root (Posts (payer_of_send b) (is_left_out (mailbox_of x j))) b d

module _ (R : Type 0) (c : Configuration) (i : ℕ) (me : Books) (s : Common) (d : Desk) (x : Things) where
  pub sends_cancel : (b : AfterCancels) → d.place ≡ at.SendCancel b
      → Heeds R i s d x (with_mailbox (first_letter d).to x (send_cancel c s b d (mailbox_of x (first_letter d).to)))
  sends_cancel b is =
      quiet R i s d x _ (at.SendCancel b) is (record { calm = refl; signals = refl; raises = refl; owes = refl })
      (posts c i s x (first_letter d).to (first_letter d).message Plain (send.Cancels b) (record d { letters = drop 1 d.letters }))

  -- A CLOSING
  visits : (drain : Drain) (shard : List ℕ) (newest : Option ℕ) → slice_get shard (length shard - 1) ≡ newest → Quiet i s x (with_shard drain.at x (visit (shard_count c) drain d shard))
  visits drain shard None h = rw h (calmly i s x _ refl (shard_put i drain.at x _) refl)
  visits drain shard (Some t) h = rw h (calmly i s x _ refl (shard_put i drain.at x _) refl)

  orphans : (held : Option ℕ) → first_held s d ≡ held → Quiet i s x (aside x (orphan i s d))
  orphans None h = rw h (calmly i s x _ (calm_light _ (light_after_letting_go None _)) (same i x) refl)
  orphans (Some r) h = rw h (calmly i s x _ (calm_light _ (light_after_letting_go _ _)) (same i x) refl)

  closes_sleeper : (asleep : Option ℕ) → first_asleep i s d ≡ asleep → Quiet i s x (aside x (close_sleeper i s d))
  closes_sleeper None h = rw h (calmly i s x _ refl (same i x) refl)
  closes_sleeper (Some z) h = rw h (calmly i s x _ (calm_light _ (light_after_letting_go None _)) (same i x) refl)

  pub closes : (p : InClosing) → Quiet i s x (move_closing c i s d x p)
  closes closing.Close = calmly i s x _ (calm_light _ (light_after_close c i s)) (same i x) refl
  closes closing.CloseQueue = calmly i s x _ refl (global_less i x [] (λ none. absurd (none refl))) refl
  closes closing.OpenBarrier = calmly i s x _ refl (barrier_put i x _) refl
  closes closing.Stop = calmly i s x _ (calm_light _ (light_tells_from c 1)) (same i x) refl
  closes (closing.TellRoot j) = posts_root c i s x j (send.Tell (j + 1)) d
  closes (closing.Visit drain) = visits drain (slice_index_or x.shards drain.at []) _ refl
  closes (closing.Clear t drain) = calmly i s x _ (calm_light _ (light_cancels_left (cancels.Visit drain) (told_of_clear i s d (task_of s t)) _)) (same i x) refl
  closes closing.LeaveBarrier = calmly i s x _ refl (barrier_put i x _) refl
  closes closing.CloseMailbox = calmly i s x _ (calm_light _ (light_after_letting_go _ _)) (inbox_put i i x _) refl
  closes closing.Orphan = orphans _ refl
  closes closing.CloseSleeper = closes_sleeper _ refl
  closes closing.End = grind arith

  pub closings : (p : InClosing) → d.place ≡ at.Closing p → Heeds R i s d x (move_closing c i s d x p)
  closings p is = quiet R i s d x _ (at.Closing p) is (record { calm = refl; signals = refl; raises = refl; owes = refl }) (closes p)

  -- THE CALLBACKS
  near_woken : (n : AfterCallbacks) (t : ℕ) (e : Desk) (it : Task) (home : Option ℕ) → it.home ≡ home → Nearly s i (woken_by (ring_size c) i me s n t e it).place
  near_woken n t e it None h =
      rw h (near_desk_if s i (is_idle it.phase) _ _ (near_calm s i _ (calm_to_queue s i (push.CallBack n))) (near_next_callback s i (ring_size c) me n e))
  near_woken n t e it (Some home) h = rw h (near_next_callback s i (ring_size c) me n (flagged_by it e))

  near_told : (n : AfterCallbacks) (waiter : Option ℕ) (of : Heard) (e : Desk) → Nearly s i (tells_waiter (ring_size c) i me s n waiter of e).place
  near_told n None of e = near_next_callback s i (ring_size c) me n e
  near_told n (Some t) of e = near_desk_if s i (is_done (task_of s t).phase) _ _ (near_next_callback s i (ring_size c) me n e) (near_calm s i _ refl)

  called_item : (n : AfterCallbacks) (it : Item) → Quiet i s x (move_item c i me s d x n it)
  called_item n (Wakes t) = quietly i s x _ (near_woken n t (record d { wakes = drop 1 d.wakes }) (task_of s t) _ refl) (same i x) refl
  called_item n LetsGo = quietly i s x _ (near_next_callback s i (ring_size c) me n (record d { outputs = d.outputs - 1 })) (same i x) refl
  called_item n (Releases r) = quietly i s x _ (near_next_callback s i (ring_size c) (record me { ended = drop 1 me.ended }) n d) (same i x) refl
  called_item n (Completes z) = quietly i s x _ (near_told n (Some (sleeper_of s z).task) (heard.Timer z) (record d { completions = drop 1 d.completions })) (alarms_put i x _) refl
  called_item n (Answers r) = quietly i s x _ (near_told n (request_of s r).waiter (heard.Request r) (record d { results = drop 1 d.results })) (answers_put i x _) refl
  called_item n Nothing = quietly i s x _ (near_next_callback s i (ring_size c) me n d) (same i x) refl

  pub calls_by : (p : InCallbacks) (n : AfterCallbacks) → Quiet i s x (move_callbacks c i me s d x p n)
  calls_by callback.TakeBatch n =
      quietly i s x _ (near_if s i (d.searching && has_callbacks me d) _ _ (near_calm s i _ refl) (near_next_callback s i (ring_size c) me n d)) (same i x) refl
  calls_by callback.CallBack n = called_item n (item_next me d)
  calls_by (callback.WakeWaiter t of) n = quietly i s x _ (near_woken n t d (task_of s t) _ refl) (same i x) refl

  pub calls : (p : InCallbacks) (n : AfterCallbacks) → d.place ≡ at.Callbacks p n → Heeds R i s d x (move_callbacks c i me s d x p n)
  calls p n is = quiet R i s d x _ (at.Callbacks p n) is (record { calm = refl; signals = refl; raises = refl; owes = refl }) (calls_by p n)
