-- What a worker heeds in its two waits.
use Rattle.std.proofs.{Common.{◌≡◌, ◌≢◌, ℕ, ◌-◌, Bool, true, false, nat_lt, Option, Some, None, refl, sym, ◌∙◌, if◌then◌else◌}, lemmas.Bool.{true≢false, false≢true}}
use Rattle.exec_base.specs.Spinner.{after_hit, after_miss}
use Rattle.exec_words.specs.{Word.is_idle_at, declared.word.PureWord.PureWord}
use Rattle.exec_machine.specs.{declared.{config.Configuration.Configuration, event.Event.{Event, TheVariants.{Sleep, Turn}}}, Deadlines.next_due, World.{Common, Own as Books, seat_of}}
use Rattle.exec_moves.specs.{declared.{idling.{InWordWait.{InWordWait, InWordWait as word}, AfterWait.AfterWait as next}, place.Place.{Place, Place as at}}, Callback.is_of_pool, Load.{has_come, has_mail}, Move.move_word_wait, State.{Desk, Things, does, turns, word_of, wake_poll_of}, Thing.{set_word, with_word}, Wait.{after_sleep, disarmed, hit, noting_sleep, sleep, withdraws}}
use Rattle.exec_rest.{specs.Places.{is_abed, is_withdrawing, waits_on}, proofs.{Heeds.Heeds, Sides.{at_place, awake, is_tame, is_unreaped, keeps, of_all, unreaped}, Stays.{IsOff, Stays, off_rings, idle_unlatched, off_word, on_word, own_words, same_latch, stay_idles, stay_itself, stay_rings, word_off, word_quiet, word_withdrawing}}}
use Rattle.exec_words.specs.declared.word.WaitTarget.TheVariants as target

module _ (R : Type 0) (i : ℕ) (s : Common) (d : Desk) (x : Things) where
  abbrev pool : Bool
  pool = is_of_pool s i

  abbrev on : Place → Desk
  on p = record d { place = p }

  abbrev w : PureWord
  w = word_of x i

  abbrev inside : InWordWait → Place
  inside p = at.WordWait p

  off : {p : InWordWait} → IsOff (inside p)
  off = record { to_enter = refl; to_sleep = refl; asked = refl }

  -- a step at the own wake word
  worded : (p : InWordWait) (e : Event) (f : Desk) (v : PureWord) → Stays pool (inside p) f.place → IsOff f.place
      → ((waits_on (inside p) ≢ target.None → w.target ≡ waits_on (inside p)) → waits_on f.place ≢ target.None → v.target ≡ waits_on f.place)
      → (v.latch ≡ true → w.latch ≡ true) → (w.latch ≡ true → v.latch ≡ false → pool ≡ true → is_withdrawing f.place ≡ true)
      → is_tame e ≡ true → is_unreaped e ≡ true
      → ((until : Option ℕ) → e ≡ Sleep until → (is_abed f.place ≡ true) × ((word_of (set_word i x v) i).latch ≡ true → R))
      → Heeds R i s (on (inside p)) x (with_word i x (does e f v))
  worded p e f v stays off waits ins outs tame reaps_not sleep =
      let m = with_word i x (does e f v) in
      let here = on (inside p) in
      of_all R i s here x m
      (stay_idles R i s here x m stays refl refl refl)
      (own_words R i s here x m v refl (λ within. waits) ins (λ h gone published. outs h gone) refl)
      (stay_rings R i s here x m refl refl (λ same. off_rings R i s here x m off (rw (unreaped s i e reaps_not) (keeps (wake_poll_of x i) (seat_of s i).landed))) (λ until h. let it = sleep until h in (it.0, λ rings. it.1)))
      (stay_itself R i s here x m stays (λ j. refl) tame)

  -- a look at it that leads to another place of the wait
  looks : (p q : InWordWait) (e : Desk) → waits_on (inside q) ≡ target.None → IsOff (inside q) → Heeds R i s (on (inside p)) x (with_word i x (does Turn (record e { place = inside q }) w))
  looks p q e quiet off =
      worded p Turn (record e { place = inside q }) w (on_word pool p q) off (λ before h. absurd (h quiet)) (λ h. h) (λ h gone. absurd (true≢false (sym h ∙ gone))) refl refl (awake Turn refl)

  spins_on_batch : (left : ℕ) (mail : Bool) → (let here = on (inside (word.SpinOnBatch left)) in Heeds R i s here x (with_word i x (does Turn (if mail then hit here else (record here { place = inside (word.SpinOnLatch left) })) w)))
  spins_on_batch left true = looks (word.SpinOnBatch left) word.TakeLatch (record d { spinner = after_hit d.spinner }) refl off
  spins_on_batch left false = looks (word.SpinOnBatch left) (word.SpinOnLatch left) d refl off

  spins_on_latch : (left : ℕ) (latch more : Bool)
      → (let here = on (inside (word.SpinOnLatch left)) in Heeds R i s here x (with_word i x (does Turn (if latch then hit here else if more then (record here { place = inside (word.SpinOnBatch (left - 1)) }) else (record here { spinner = after_miss d.spinner; place = inside word.ArmWord })) w)))
  spins_on_latch left true more = looks (word.SpinOnLatch left) word.TakeLatch (record d { spinner = after_hit d.spinner }) refl off
  spins_on_latch left false true = looks (word.SpinOnLatch left) (word.SpinOnBatch (left - 1)) d refl off
  spins_on_latch left false false = looks (word.SpinOnLatch left) word.ArmWord (record d { spinner = after_miss d.spinner }) refl off

  -- the end of the wait takes the latch out
  leaves : (p : InWordWait) (e : Desk) (v : PureWord) → v.latch ≡ false → Heeds R i s (on (inside p)) x (with_word i x (turns (withdraws s i next.Begin) e v))
  leaves p e v out =
      worded p Turn (record e { place = withdraws s i next.Begin }) v (off_word s i p next.Begin) (word_off s i next.Begin) (λ before h. absurd (h (word_quiet s i next.Begin)))
      (λ h. absurd (false≢true (sym out ∙ h))) (λ h gone pool. word_withdrawing s i next.Begin pool) refl refl (awake Turn refl)

  arms : (idle : Bool) → Heeds R i s (on (inside word.ArmWord)) x (with_word i x (turns (inside (if idle then word.SleepOnWord else word.DisarmWord)) (record (on (inside word.ArmWord)) { slept = None }) (record w { target = target.Sleeping })))
  arms true =
      worded word.ArmWord Turn (record (on (inside word.SleepOnWord)) { slept = None }) (record w { target = target.Sleeping }) (on_word pool word.ArmWord word.SleepOnWord) off
      (λ before h. refl) (λ h. h) (λ h gone. absurd (true≢false (sym h ∙ gone))) refl refl (awake Turn refl)
  arms false =
      worded word.ArmWord Turn (record (on (inside word.DisarmWord)) { slept = None }) (record w { target = target.Sleeping }) (on_word pool word.ArmWord word.DisarmWord) off
      (λ before h. refl) (λ h. h) (λ h gone. absurd (true≢false (sym h ∙ gone))) refl refl (awake Turn refl)

  sleeping : target.Sleeping ≢ target.None
  sleeping h = cc

  rests : (e : Event) (more : Option ℕ) → is_tame e ≡ true → is_unreaped e ≡ true → ((until : Option ℕ) → e ≡ Sleep until → w.latch ≡ false) → Heeds R i s (on (inside word.SleepOnWord)) x (with_word i x (does e (record (on (inside word.DisarmWord)) { slept = more }) w))
  rests e more tame reaps_not unlatched =
      worded word.SleepOnWord e (record (on (inside word.DisarmWord)) { slept = more }) w (on_word pool word.SleepOnWord word.DisarmWord) off
      (λ before h. before sleeping) (λ h. h) (λ h gone. absurd (true≢false (sym h ∙ gone))) tame reaps_not
      (λ until h. (refl, λ latch. absurd (true≢false (sym latch ∙ same_latch x i w refl ∙ unlatched until h))))

  sleeps : (idle come : Bool) → is_idle_at w d.processed ≡ idle
      → (let left = on (inside word.DisarmWord) in Heeds R i s (on (inside word.SleepOnWord)) x (with_word i x (if idle then noting_sleep s.clock (if come then does Turn left w else does (Sleep (next_due s i)) left w) else does Turn left w)))
  sleeps false come is = rests Turn d.slept refl refl (awake Turn refl)
  sleeps true true is = rests Turn d.slept refl refl (awake Turn refl)
  sleeps true false is = rests (Sleep (next_due s i)) (Some s.clock) refl refl (λ until h. idle_unlatched w d.processed is)

  on_the_word : (p : InWordWait) → Heeds R i s (on (inside p)) x (move_word_wait i s (on (inside p)) x p)
  on_the_word (word.SpinOnBatch left) = spins_on_batch left (has_mail (on (inside (word.SpinOnBatch left))) w)
  on_the_word (word.SpinOnLatch left) = spins_on_latch left w.latch (nat_lt 1 left)
  on_the_word word.TakeLatch = leaves word.TakeLatch (on (inside word.TakeLatch)) (record w { latch = false }) refl
  on_the_word word.ArmWord = arms (is_idle_at w d.processed)
  on_the_word word.SleepOnWord = sleeps (is_idle_at w d.processed) (has_come s.clock (next_due s i)) refl
  on_the_word word.DisarmWord = leaves word.DisarmWord (after_sleep s.clock w.latch d.slept (on (inside word.DisarmWord))) (disarmed w) refl

module _ (R : Type 0) (c : Configuration) (i : ℕ) (me : Books) (s : Common) (d : Desk) (x : Things) where
  pub word_wait : (p : InWordWait) → d.place ≡ at.WordWait p → Heeds R i s d x (move_word_wait i s d x p)
  word_wait p is = at_place R i s d x (λ e. move_word_wait i s e x p) (at.WordWait p) is (on_the_word R i s d x p)
