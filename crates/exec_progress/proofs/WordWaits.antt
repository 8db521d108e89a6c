-- A wait on the wake word.
use Rattle.std.{proofs.{Common.{◌≡◌, ℕ, ◌-◌, ◌<◌, Bool, true, false, length, if◌then◌else◌, Option, Some, None, refl, ap, arith, inl, inr}, lemmas.Bool.{false≢true, ltb-true}}, specs.Prelude.nat_lt}
use Rattle.exec_base.specs.Spinner.{Spinner, after_wake}
use Rattle.exec_words.specs.{Word.is_idle_at, declared.word.PureWord.PureWord}
use Rattle.exec_machine.specs.{declared.{config.Configuration.Configuration, event.Event.TheVariants.{Turn, Sleep}}, Deadlines.next_due, World.{Common, Own as Books}}
use Rattle.exec_moves.specs.{declared.{idling.{AfterWait.AfterWait, InWordWait.InWordWait}, place.Place.Place}, Callback.is_of_pool, Counts.one_if, Load.{has_come, has_mail}, State.{Desk, Moved, Things, does, turns, word_of}, Thing.with_word, Wait.{after_sleep, disarmed, hit, missed, noting_sleep}}
use Rattle.exec_credit.proofs.Due.{due}
use Rattle.exec_progress.{specs.Going.{Falls, FallsAt, seen, stands}, proofs.{Tools.{Now, afterwards, before, either, gone, taken_up}, WaitTools.{rises, sinks, stirred, word_is}}}
use Rattle.exec_words.specs.declared.word.WaitTarget.TheVariants as target

module _ (c : Configuration) (i : ℕ) (me : Books) (s : Common) (d : Desk) (x : Things) where
  abbrev w : PureWord
  w = word_of x i

  -- it was at this place
  abbrev at : InWordWait → Place
  at p = Place.WordWait p

  -- a move there, by which the worker has this desk and this wake word
  abbrev To : InWordWait → Desk → PureWord → Type 0
  To p e v = Falls c i (seen (at p) me) s (stands (at p) d) x (with_word i x (does {T = PureWord} Turn e v))

  abbrev was : InWordWait → Now
  was p = before me s d x (at p)

  abbrev is : InWordWait → Desk → PureWord → Now
  is p e v = afterwards c i me s (at p) (with_word i x (does {T = PureWord} Turn e v))

  -- UP, by mail, by a latch, and by what has come due

  spin_hit : i < length x.words → (n : ℕ) → has_mail d w ≡ true → To (InWordWait.SpinOnBatch n) (hit (stands (at (InWordWait.SpinOnBatch n)) d)) w
  spin_hit there n mail quiet =
      let a = was (InWordWait.SpinOnBatch n) in
      let b = is (InWordWait.SpinOnBatch n) (hit (stands (at (InWordWait.SpinOnBatch n)) d)) w in
      let on = ap one_if mail in
      let same = ap (λ v. one_if (has_mail d v)) (word_is i x w there) in
      rises c i a b refl refl (omega arith) (omega arith) (taken_up c i a b refl (omega (arith, on)) (omega (arith, on, same)))

  latch_hit : i < length x.words → (n : ℕ) → w.latch ≡ true → To (InWordWait.SpinOnLatch n) (hit (stands (at (InWordWait.SpinOnLatch n)) d)) w
  latch_hit there n latch quiet =
      let a = was (InWordWait.SpinOnLatch n) in
      let b = is (InWordWait.SpinOnLatch n) (hit (stands (at (InWordWait.SpinOnLatch n)) d)) w in
      let on = ap one_if latch in
      let same = ap (λ v. one_if (has_mail d v)) (word_is i x w there) in
      rises c i a b refl refl (omega arith) (omega arith)
      (gone c i a b refl (λ h k. omega (arith, h, k, same)) (λ h. omega (arith, on)) (omega (arith, on)) (λ h. omega (arith, on)))

  -- DOWN

  looks_for_latch : i < length x.words → (n : ℕ) → To (InWordWait.SpinOnBatch n) (record d { place = at (InWordWait.SpinOnLatch n) }) w
  looks_for_latch = grind (arith, word_is, sinks)

  looks_again : i < length x.words → (n : ℕ) → nat_lt 1 n ≡ true → To (InWordWait.SpinOnLatch n) (record (stands (at (InWordWait.SpinOnLatch n)) d) { place = at (InWordWait.SpinOnBatch (n - 1)) }) w
  looks_again = grind (arith, word_is, sinks, ltb-true)

  missed_all : i < length x.words → (n : ℕ) → To (InWordWait.SpinOnLatch n) (record (missed 0 (stands (at (InWordWait.SpinOnLatch n)) d)) { place = at InWordWait.ArmWord }) w
  missed_all = grind (arith, word_is, sinks)

  abbrev armed : PureWord
  armed = record w { target = target.Sleeping }

  arms : i < length x.words → To InWordWait.ArmWord (record d { place = at InWordWait.SleepOnWord; slept = None }) armed
  arms = grind (arith, word_is, sinks)

  arms_in_vain : i < length x.words → is_idle_at w d.processed ≡ false → To InWordWait.ArmWord (record d { place = at InWordWait.DisarmWord; slept = None }) armed
  arms_in_vain there h quiet =
      let a = was InWordWait.ArmWord in
      let b = is InWordWait.ArmWord (record d { place = at InWordWait.DisarmWord; slept = None }) armed in
      let same = ap (λ v. one_if (has_mail d v)) (word_is i x armed there) in
      rises c i a b refl refl (omega arith) (omega arith) (elim (stirred d w h) [
        | inl latch ↦ (let on = ap one_if latch in gone c i a b refl (λ h k. omega (arith, h, k, same)) (λ h. omega (arith, on)) (omega (arith, on)) (λ h. omega (arith, on)))
        | inr mail ↦ (let on = ap one_if mail in taken_up c i a b refl (omega (arith, on)) (omega (arith, on, same)))
      ])

  -- out of the sleep
  abbrev left_bed : Desk
  left_bed = record d { place = at InWordWait.DisarmWord }

  stirs : i < length x.words → is_idle_at w d.processed ≡ false → To InWordWait.SleepOnWord left_bed w
  stirs there h quiet =
      let a = was InWordWait.SleepOnWord in
      let b = is InWordWait.SleepOnWord left_bed w in
      let same = ap (λ v. one_if (has_mail d v)) (word_is i x w there) in
      rises c i a b refl refl (omega arith) (omega arith) (elim (stirred d w h) [
        | inl latch ↦ (let on = ap one_if latch in gone c i a b refl (λ h k. omega (arith, h, k, same)) (λ h. omega (arith, on)) (omega (arith, on)) (λ h. omega (arith, on)))
        | inr mail ↦ (let on = ap one_if mail in taken_up c i a b refl (omega (arith, on)) (omega (arith, on, same)))
      ])

  comes_due : has_come s.clock (next_due s i) ≡ true → To InWordWait.SleepOnWord left_bed w
  comes_due come quiet =
      let a = was InWordWait.SleepOnWord in
      let b = is InWordWait.SleepOnWord left_bed w in
      rises c i a b refl refl (omega arith) (omega arith) (taken_up c i a b refl (omega (arith, due i s come)) (omega (arith, due i s come)))

  -- OUT OF THE WAIT

  takes_latch : i < length x.words → To InWordWait.TakeLatch (record d { place = Place.Withdraw AfterWait.Begin }) (record w { latch = false })
  takes_latch = grind (arith, word_is, sinks)

  takes_latch_alone : i < length x.words → To InWordWait.TakeLatch (record d { place = Place.BeginTurn }) (record w { latch = false })
  takes_latch_alone = grind (arith, word_is, sinks)

  -- whatever it has learned of its sleep
  disarms : i < length x.words → (learned : Spinner) → To InWordWait.DisarmWord (record d { place = Place.Withdraw AfterWait.Begin; spinner = learned; slept = None }) (disarmed w)
  disarms = grind (arith, word_is, sinks)

  disarms_alone : i < length x.words → (learned : Spinner) → To InWordWait.DisarmWord (record d { place = Place.BeginTurn; spinner = learned; slept = None }) (disarmed w)
  disarms_alone = grind (arith, word_is, sinks)

  -- a test at this place of the wait decides of the desk
  decides : (p : InWordWait) (t : Bool) (e f : Desk) (v : PureWord) → (t ≡ true → To p e v) → (t ≡ false → To p f v)
      → Falls c i (seen (at p) me) s (stands (at p) d) x (with_word i x (does {T = PureWord} Turn (if t then e else f) v))
  decides p t e f v h k = either c i (seen (at p) me) s (stands (at p) d) x (λ (e : Desk). with_word i x (does {T = PureWord} Turn e v)) t e f h k

  out_of_wait : i < length x.words → (latched : Bool) (slept : Option ℕ)
      → Falls c i (seen (at InWordWait.DisarmWord) me) s (stands (at InWordWait.DisarmWord) d) x
      (with_word i x (turns (if is_of_pool s i then Place.Withdraw AfterWait.Begin else Place.BeginTurn) (after_sleep s.clock latched slept (stands (at InWordWait.DisarmWord) d)) (disarmed w)))
  out_of_wait there latched slept = by latched slept
    where
      here : (learned : Spinner) → Falls c i (seen (at InWordWait.DisarmWord) me) s (stands (at InWordWait.DisarmWord) d) x
          (with_word i x (turns (if is_of_pool s i then Place.Withdraw AfterWait.Begin else Place.BeginTurn) (record d { spinner = learned; slept = None }) (disarmed w)))
      here learned =
          either c i (seen (at InWordWait.DisarmWord) me) s (stands (at InWordWait.DisarmWord) d) x (λ (q : Place). with_word i x (turns q (record d { spinner = learned; slept = None }) (disarmed w)))
          (is_of_pool s i) (Place.Withdraw AfterWait.Begin) Place.BeginTurn (λ h. disarms there learned) (λ h. disarms_alone there learned)

      by : (latched : Bool) (slept : Option ℕ) → Falls c i (seen (at InWordWait.DisarmWord) me) s (stands (at InWordWait.DisarmWord) d) x
          (with_word i x (turns (if is_of_pool s i then Place.Withdraw AfterWait.Begin else Place.BeginTurn) (after_sleep s.clock latched slept (stands (at InWordWait.DisarmWord) d)) (disarmed w)))
      by true (Some m) = here (after_wake d.spinner (s.clock - m))
      by true None = here d.spinner
      by false o = here d.spinner

  pub waits_on_word : (p : InWordWait) → FallsAt c i me s d x (Place.WordWait p)
  waits_on_word (InWordWait.SpinOnBatch n) it =
      decides (InWordWait.SpinOnBatch n) (has_mail d w) (hit (stands (at (InWordWait.SpinOnBatch n)) d)) (record d { place = at (InWordWait.SpinOnLatch n) }) w
      (λ mail. spin_hit it.word_there n mail) (λ none. looks_for_latch it.word_there n)
  waits_on_word (InWordWait.SpinOnLatch n) it =
      decides (InWordWait.SpinOnLatch n) w.latch (hit (stands (at (InWordWait.SpinOnLatch n)) d)) (missed n (stands (at (InWordWait.SpinOnLatch n)) d)) w
      (λ latch. latch_hit it.word_there n latch)
      (λ none. decides (InWordWait.SpinOnLatch n) (nat_lt 1 n) (record (stands (at (InWordWait.SpinOnLatch n)) d) { place = at (InWordWait.SpinOnBatch (n - 1)) }) (record (missed 0 (stands (at (InWordWait.SpinOnLatch n)) d)) { place = at InWordWait.ArmWord }) w
      (λ more. looks_again it.word_there n more) (λ last. missed_all it.word_there n))
  waits_on_word InWordWait.TakeLatch it =
      either c i (seen (at InWordWait.TakeLatch) me) s (stands (at InWordWait.TakeLatch) d) x (λ (q : Place). with_word i x (turns q (stands (at InWordWait.TakeLatch) d) (record w { latch = false })))
      (is_of_pool s i) (Place.Withdraw AfterWait.Begin) Place.BeginTurn (λ h. takes_latch it.word_there) (λ h. takes_latch_alone it.word_there)
  waits_on_word InWordWait.ArmWord it =
      either c i (seen (at InWordWait.ArmWord) me) s (stands (at InWordWait.ArmWord) d) x (λ (p : InWordWait). with_word i x (turns (at p) (record d { slept = None }) armed))
      (is_idle_at w d.processed) InWordWait.SleepOnWord InWordWait.DisarmWord (λ idle. arms it.word_there) (λ h. arms_in_vain it.word_there h)
  waits_on_word InWordWait.SleepOnWord it =
      either c i (seen (at InWordWait.SleepOnWord) me) s (stands (at InWordWait.SleepOnWord) d) x (with_word i x) (is_idle_at w d.processed)
      (noting_sleep s.clock (if has_come s.clock (next_due s i) then does {T = PureWord} Turn left_bed w else does {T = PureWord} (Sleep (next_due s i)) left_bed w)) (does {T = PureWord} Turn left_bed w)
      (λ idle. either c i (seen (at InWordWait.SleepOnWord) me) s (stands (at InWordWait.SleepOnWord) d) x (λ (m : Moved PureWord). with_word i x (noting_sleep s.clock m)) (has_come s.clock (next_due s i))
      (does {T = PureWord} Turn left_bed w) (does {T = PureWord} (Sleep (next_due s i)) left_bed w) (λ come. comes_due come) (λ sleeps quiet. absurd (false≢true quiet)))
      (λ h. stirs it.word_there h)
  waits_on_word InWordWait.DisarmWord it = out_of_wait it.word_there w.latch d.slept
