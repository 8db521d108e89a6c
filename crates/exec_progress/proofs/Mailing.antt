-- The mailbox: its wake word, a batch, and the messages of that.
use Rattle.std.proofs.{Common.{◌≡◌, ℕ, ◌<◌, Bool, true, false, not, List, [], ◌∷◌, length, refl, ap, arith, inl, inr}, lemmas.{Bool.{false≢true, eq-eqb}, List.get_or-set_same}}
use Rattle.exec_words.specs.declared.word.PureWord.{PureWord}
use Rattle.exec_machine.specs.{declared.{config.Configuration.Configuration, state.MailMessage.MailMessage}, World.{Common, Own as Books}}
use Rattle.exec_moves.specs.{declared.place.{InMail.InMail, Place.Place}, Counts.one_if, Load.has_mail, Mail.{apply, load_mail_word, take_mail, to_callbacks}, State.{Desk, Moved, Things, inbox_of, no_word, turns as turning, word_of}, Thing.{aside, set_word, with_inbox, with_word}}
use Rattle.exec_rest.specs.Posted.{IsNumbered}
use Rattle.exec_progress.{specs.Going.{Falls, FallsAt, seen, stands}, proofs.{Submitting.sinks, Tools.{Now, afterwards, before, either}}}

-- BATCHES ARE NUMBERED

no_mail : (d : Desk) (w : PureWord) → IsNumbered w.batch d.processed [] → has_mail d w ≡ false
no_mail d w (inl it) = ap not (eq-eqb w.batch d.processed it.0)
no_mail d w (inr it) = absurd (it.1 refl)

some_mail : (d : Desk) (w : PureWord) (m : MailMessage) (ms : List MailMessage) → IsNumbered w.batch d.processed (m ∷ ms) → has_mail d w ≡ true
some_mail = grind arith

module _ (c : Configuration) (i : ℕ) (me : Books) (s : Common) (d : Desk) (x : Things) where
  abbrev FallsBy : InMail → Moved Things → Type 0
  FallsBy p m = Falls c i (seen (Place.Mail p) me) s (stands (Place.Mail p) d) x m

  abbrev first : InMail → Now
  first p = before me s d x (Place.Mail p)

  abbrev later : InMail → Moved Things → Now
  later p m = afterwards c i me s (Place.Mail p) m

  -- THE WAKE WORD
  loads : i < length x.words → FallsBy InMail.LoadMailWord (with_word i x (load_mail_word (stands (Place.Mail InMail.LoadMailWord) d) (word_of x i)))
  loads there =
      either c i (seen (Place.Mail InMail.LoadMailWord) me) s (stands (Place.Mail InMail.LoadMailWord) d) x (with_word i x) (has_mail d (word_of x i))
      (turning {T = PureWord} (Place.Mail InMail.TakeMail) (stands (Place.Mail InMail.LoadMailWord) d) (word_of x i)) (turning {T = PureWord} to_callbacks (stands (Place.Mail InMail.LoadMailWord) d) (word_of x i))
      (λ some quiet. sinks c i (first InMail.LoadMailWord)
      (later InMail.LoadMailWord (with_word i x (turning {T = PureWord} (Place.Mail InMail.TakeMail) (stands (Place.Mail InMail.LoadMailWord) d) (word_of x i))))
      refl refl (omega arith) (omega arith) (λ k. omega (arith, k, mail)) (λ k. omega (arith, k, mail)) (omega (arith, latch)) (omega (arith, latch)))
      (λ none quiet. sinks c i (first InMail.LoadMailWord)
      (later InMail.LoadMailWord (with_word i x (turning {T = PureWord} to_callbacks (stands (Place.Mail InMail.LoadMailWord) d) (word_of x i))))
      refl refl (omega arith) (omega arith) (λ k. omega (arith, k, ap one_if none)) (λ k. omega (arith, k, mail)) (omega (arith, latch)) (omega (arith, latch)))
    where
      same : word_of (set_word i x (word_of x i)) i ≡ word_of x i
      same = get_or-set_same x.words i (word_of x i) no_word there

      mail : one_if (has_mail d (word_of (set_word i x (word_of x i)) i)) ≡ one_if (has_mail d (word_of x i))
      mail = ap (λ (w : PureWord). one_if (has_mail d w)) same

      latch : one_if (word_of (set_word i x (word_of x i)) i).latch ≡ one_if (word_of x i).latch
      latch = ap (λ (w : PureWord). one_if w.latch) same

  -- A BATCH, which is there where one was published
  takes : (inbox : List MailMessage) → IsNumbered (word_of x i).batch d.processed inbox → FallsBy InMail.TakeMail (with_inbox i x (take_mail (stands (Place.Mail InMail.TakeMail) d) inbox))
  takes [] it quiet = grind (arith, sinks, no_mail)
  takes (m ∷ ms) it quiet =
      sinks c i (first InMail.TakeMail) (later InMail.TakeMail (with_inbox i x (take_mail (stands (Place.Mail InMail.TakeMail) d) (m ∷ ms))))
      refl refl (omega arith) (omega arith) (λ k. omega arith) (λ k. omega (arith, ap one_if (some_mail d (word_of x i) m ms it))) (omega arith) (omega arith)

  -- A MESSAGE
  applies : (applied : ℕ) (taken : Bool) → FallsBy (InMail.Apply applied taken) (aside x (apply applied me.root s (stands (Place.Mail (InMail.Apply applied taken)) d)))
  applies applied taken = by d.batch refl
    where
      by : (batch : List MailMessage) → d.batch ≡ batch → FallsBy (InMail.Apply applied taken) (aside x (apply applied me.root s (stands (Place.Mail (InMail.Apply applied taken)) (record d { batch = batch }))))
      by (m ∷ ms) some = λ q. absurd (false≢true q)
      by [] none = grind arith

  pub opens_mail : (p : InMail) → FallsAt c i me s d x (Place.Mail p)
  opens_mail InMail.LoadMailWord it = loads it.word_there
  opens_mail InMail.TakeMail it = takes (inbox_of x i) it.numbered
  opens_mail (InMail.Apply applied taken) it = applies applied taken
