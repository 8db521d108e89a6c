-- What a worker tells by the messages that it applies, and as it closes.
use Rattle.std.{proofs.{Common.{◌≡◌, ℕ, zero, suc, ◌+◌, ◌-◌, Bool, true, false, List, [], ◌∷◌, length, set, get_or, Option, Some, None, refl, sym, ap, subst, if◌then◌else◌, arith}, lemmas.Bool.{true≢false, false≢true}}, specs.Prelude.{slice_get, slice_index_or}}
use Rattle.exec_task.specs.declared.drain.Drain.{Drain}
use Rattle.exec_machine.specs.{declared.{config.Configuration.Configuration, event.Event.{Event, TheVariants.Apply}, state.{Forwarding.TheVariants.Applied, MailMessage.{MailMessage, MailMessage as message}}}, Closing.{ends_by_clear, with_cleared}, Requests.dropped, Tasks.after_over, Tests.{is_resolved, is_unsent}, World.{Common, Own as Books, Task, no_task, request_of, sleeper_of, task_of}}
use Rattle.exec_moves.specs.{declared.{place.{InClosing.{InClosing, InClosing as closing}, InMail.{InMail, InMail as mail}, Place.{Place, Place as at}}, handing.AfterSend.AfterSend as send}, Close.{clear, close_sleeper, first_asleep, first_held, orphan, visit}, Load.has_mail, Mail.{after_message, apply, take_mail, to_callbacks, told_by_message}, Move.{move_closing, move_mail}, Pop.shard_count, State.{Desk, Moved, Own, Things, does, inbox_of, turns, word_of}, Thing.{aside, set_word, with_inbox, with_shard}, Told.{has_number, lets_go_all, told_of_cancel, told_of_drop, told_of_fire, told_of_forward, told_of_timer_forward, woken_where_awaited}}
use Rattle.exec_settled.proofs.{TellsEvents.dropped_observed, TellsMild.{adds_lists, gone_rests, rests_at, same_awaited, told_lists}, TellsPlain.{Mild, TellsAll, is_mute, lists_of, mild, mildly, no_ends, quiet, quiet_if, told_apart}, TellsQuiet.posts_root, TellsTold.{Adds, adds, all_adds, all_awaited, cancel_told, drop_told, fire_told, forward_told, sent_at_forward, sent_at_timer_forward, timer_forward_told, told_then, woken_told}}

-- which message is applied

abbrev is_apply : Event → Bool
is_apply (Apply m) = true
is_apply _ = false

abbrev forwards_timer : Event → Bool
forwards_timer (Apply (message.ForwardTimer z)) = true
forwards_timer _ = false

abbrev forwarded : Event → ℕ
forwarded (Apply (message.ForwardRequest r)) = r
forwarded (Apply (message.ForwardTimer z)) = z
forwarded _ = 0

-- what a task holds isn't changed as it is cleared
held_cleared : (ts : List Task) (t : ℕ) → (get_or (set ts t (record (get_or ts t no_task) { cleared = true })) t no_task).held ≡ (get_or ts t no_task).held
held_cleared [] t = refl
held_cleared (u ∷ ts) zero = refl
held_cleared (u ∷ ts) (suc t) = held_cleared ts t

module _ (c : Configuration) (i : ℕ) (me : Books) (s : Common) (d : Desk) (x : Things) where
  abbrev Mildly : Moved Things → Type 0
  Mildly m = Mild c i me s d x m

  calm : (m : Moved Things) → lists_of m.desk m.thing ≡ lists_of d x → is_mute m.event ≡ true → Mildly m
  calm m lists mute = mild c i me s d x m (quiet c i me s d x m lists mute)

  -- MESSAGES

  -- after message m, with these messages left, and at this place
  abbrev after : MailMessage → List MailMessage → Place → Moved Things
  after m ms p = aside x (does {T = Own} (Apply m) (record (told_by_message s me.root m d) { batch = ms; place = p }) tt)

  forwards : (r : ℕ) (ms : List MailMessage) (p : Place) → Mildly (after (message.ForwardRequest r) ms p)
  forwards r ms p =
      let m = after (message.ForwardRequest r) ms p in
      let it = request_of s r in
      record {
        lists = told_lists c i me s d x m r (told_of_forward r it d) refl (forward_told r it d) (rests_at s.requests r (record it { forwarding = Applied }) (λ going unsent held. false≢true (ap is_unsent unsent)));
        ends = no_ends c i me s d x m refl;
        says = record {
          waits = λ k h held. absurd (true≢false (ap is_apply h));
          applies = λ k h over. let same : r ≡ k = ap forwarded h in
              subst (λ q. has_number q (told_of_forward r it d).results ≡ true) same (sent_at_forward r it d (subst (λ q. is_resolved (request_of s q).phase ≡ true) (sym same) over));
          applies_too = λ z h gone. absurd (false≢true (ap forwards_timer h));
          begins = λ t h. absurd (true≢false (ap is_apply h));
        };
      }

  forwards_timers : (z : ℕ) (ms : List MailMessage) (p : Place) → Mildly (after (message.ForwardTimer z) ms p)
  forwards_timers z ms p =
      let m = after (message.ForwardTimer z) ms p in
      let told = timer_forward_told z (sleeper_of s z) d in
      record {
        lists = same_awaited c i me s d x m (told_of_timer_forward z d) refl told.adds told.awaited;
        ends = no_ends c i me s d x m refl;
        says = record {
          waits = λ k h held. absurd (true≢false (ap is_apply h));
          applies = λ k h over. absurd (true≢false (ap forwards_timer h));
          applies_too = grind (arith, sent_at_timer_forward);
          begins = λ t h. absurd (true≢false (ap is_apply h));
        };
      }

  messages : (m : MailMessage) (ms : List MailMessage) (p : Place) → Mildly (after m ms p)
  messages message.Root ms p = calm _ refl refl
  messages (message.ForwardRequest r) ms p = forwards r ms p
  messages (message.ForwardTimer z) ms p = forwards_timers z ms p
  messages (message.CancelRequest r) ms p =
      let it = request_of s r in
      mildly c i me s d x _ (told_lists c i me s d x _ r (told_of_drop r it d) refl (drop_told r it d) (rests_at s.requests r (dropped it) (gone_rests (dropped it) (dropped_observed it)))) refl
  messages (message.CancelTimer z) ms p =
      let told = cancel_told z (sleeper_of s z) d in mildly c i me s d x _ (same_awaited c i me s d x _ (told_of_cancel z (sleeper_of s z) d) refl told.adds told.awaited) refl

  apply_is : (applied : ℕ) (m : MailMessage) (ms : List MailMessage) → d.batch ≡ m ∷ ms
      → apply applied me.root s d ≡ does {T = Own} (Apply m) (record (told_by_message s me.root m d) { batch = ms; place = after_message (applied + 1) ms }) tt
  apply_is applied m ms h = rw h refl

  apply_none : (applied : ℕ) → d.batch ≡ [] → apply applied me.root s d ≡ turns {T = Own} to_callbacks d tt
  apply_none applied h = rw h refl

  applies : (applied : ℕ) (ms : List MailMessage) → d.batch ≡ ms → Mildly (aside x (apply applied me.root s d))
  applies applied [] h = subst (λ moved. Mildly (aside x moved)) (sym (apply_none applied h)) (calm _ refl refl)
  applies applied (m ∷ ms) h = subst (λ moved. Mildly (aside x moved)) (sym (apply_is applied m ms h)) (messages m ms (after_message (applied + 1) ms))

  takes : (ms : List MailMessage) → Mildly (with_inbox i x (take_mail d ms))
  takes = grind (arith, calm)

  mails_by : (p : InMail) → Mildly (move_mail i me s d x p)
  mails_by mail.LoadMailWord =
      mild c i me s d x _ (quiet_if c i me s d x (set_word i x) (has_mail d (word_of x i)) _ _ (quiet c i me s d x _ refl refl) (quiet c i me s d x _ refl refl))
  mails_by mail.TakeMail = takes (inbox_of x i)
  mails_by (mail.Apply applied taken) = applies applied _ refl

  pub mails : (p : InMail) → d.place ≡ at.Mail p → TellsAll c i me s d x (move_mail i me s d x p)
  mails p is = told_apart c i me s d x _ (at.Mail p) is refl (mails_by p)

  -- CLOSING

  visits : (drain : Drain) (shard : List ℕ) (newest : Option ℕ) → slice_get shard (length shard - 1) ≡ newest → Mildly (with_shard drain.at x (visit (shard_count c) drain d shard))
  visits = grind (arith, calm)

  cleared_adds : (it : Task) (ends : Bool) → Adds d (if ends then lets_go_all i s it d else d)
  cleared_adds = grind (arith, all_adds, adds)

  cleared_awaited : (t k : ℕ) (ends : Bool) → has_number k d.awaited ≡ true → (request_of (if ends then after_over (with_cleared s t) i t else with_cleared s t) k).observed ≡ true
      → has_number k (if ends then lets_go_all i s (task_of s t) d else d).awaited ≡ true
  cleared_awaited = grind (arith, all_awaited, held_cleared)

  clears : (t : ℕ) (drain : Drain) → Mildly (aside x (clear i t drain s d (task_of s t)))
  clears t drain =
      let ends = ends_by_clear (task_of s t).phase in
      mildly c i me s d x _
      (adds_lists c i me s d x _ (if ends then lets_go_all i s (task_of s t) d else d) refl (cleared_adds (task_of s t) ends) (λ k there held going unsent observed. cleared_awaited t k ends there observed)) refl

  orphans : (held : Option ℕ) → first_held s d ≡ held → Mildly (aside x (orphan i s d))
  orphans None h = rw h (calm _ refl refl)
  orphans (Some r) h =
      let it = request_of s r in
      rw h (mildly c i me s d x _
      (told_lists c i me s d x _ r (told_of_drop r it (woken_where_awaited r it d)) refl
      (told_then r d (woken_where_awaited r it d) _ (woken_told r it d) (drop_told r it (woken_where_awaited r it d))) (rests_at s.requests r (dropped it) (gone_rests (dropped it) (dropped_observed it)))) refl)

  closes_sleeper : (asleep : Option ℕ) → first_asleep i s d ≡ asleep → Mildly (aside x (close_sleeper i s d))
  closes_sleeper None h = rw h (calm _ refl refl)
  closes_sleeper (Some z) h =
      let told = fire_told z (sleeper_of s z) d in
      rw h (mildly c i me s d x _ (same_awaited c i me s d x _ (told_of_fire z (sleeper_of s z) d) refl told.adds told.awaited) refl)

  closes : (p : InClosing) → Mildly (move_closing c i s d x p)
  closes closing.Close = calm _ refl refl
  closes closing.CloseQueue = calm _ refl refl
  closes closing.OpenBarrier = calm _ refl refl
  closes closing.Stop = calm _ refl refl
  closes (closing.TellRoot j) = mild c i me s d x _ (posts_root c i me s d x j (send.Tell (j + 1)))
  closes (closing.Visit drain) = visits drain (slice_index_or x.shards drain.at []) _ refl
  closes (closing.Clear t drain) = clears t drain
  closes closing.LeaveBarrier = calm _ refl refl
  closes closing.CloseMailbox = calm _ refl refl
  closes closing.Orphan = orphans _ refl
  closes closing.CloseSleeper = closes_sleeper _ refl
  closes closing.End = calm _ refl refl

  pub closings : (p : InClosing) → d.place ≡ at.Closing p → TellsAll c i me s d x (move_closing c i s d x p)
  closings p is = told_apart c i me s d x _ (at.Closing p) is refl (closes p)
