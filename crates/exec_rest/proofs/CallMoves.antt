-- Each move of an outside caller, as far as waking goes.
use Rattle.std.{proofs.{Common.{◌≡◌, ℕ, Bool, true, false, List, set, get_or, Option, Some, None, unwrap_or, refl, ap, inl, inr, arith}, lemmas.{Bool.{true≢false, false≢true, ltb-true, ltb-false}, List.{get_or-set_same, get_or_past, Quantifiers.position-Some, Sums.fails_before_first}, Grind.get_or-set_at, Option.none-some}}, specs.Prelude.◌⊎◌}
use Rattle.exec_words.specs.{declared.{idle.WorkerSet.WorkerSet, word.PureWord.PureWord}, Idle.{Idle, is_in, lowest_of}, Word.asks_signal}
use Rattle.exec_machine.specs.{declared.{config.Configuration.Configuration, event.Event.TheVariants.Rouse}, Choice.Payer.ByCall, Tests.is_awake, World.{Common, seat_of}}
use Rattle.exec_moves.specs.{declared.handing.{CallPlace.{CallPlace, CallPlace as call}, InGlobal.{InGlobal, InGlobal as global}, InSignal.{InSignal, InSignal as signals}}, Call.{CallDesk, Called, after_claim, goes_on}, Claim.{Claimed, Claimed.{Worker, Again, Nobody}, claimed_if, idle_after, rousing, same_bools, set_of}, Global.has_any, MoveOfCaller.{call_global, call_on, call_signal, call_spawn, call_wake}, Send.{Mailbox, posting}, State.{Things, no_word, word_of}, Thing.{call_puts, mailbox_of, set_idle, set_mailbox}}
use Rattle.exec_rest.{specs.Places.{Raising, call_owes, call_raises, call_signals}, proofs.CallHeeds.{CallAside, CallHeeds, plain_call, set_at}}
use Rattle.exec_words.specs.declared.word.WaitTarget.TheVariants as target

nothing_new : (x : Things) → CallAside x x
nothing_new x = record { bits = refl; targets = λ j. refl; latches = λ j. refl; polls = refl; queues = refl }

-- A MESSAGE

-- a batch is published, and nothing else in the wake word changes
word_posted : (x : Things) (j k : ℕ) (w : PureWord) → w.target ≡ (word_of x j).target → w.latch ≡ (word_of x j).latch
    → ((get_or (set x.words j w) k no_word).target ≡ (word_of x k).target) × ((get_or (set x.words j w) k no_word).latch ≡ (word_of x k).latch)
word_posted = grind (arith, set_at)

mailbox_put : (x : Things) (j : ℕ) (m : Mailbox) → m.word.target ≡ (word_of x j).target → m.word.latch ≡ (word_of x j).latch → CallAside x (set_mailbox j x m)
mailbox_put x j m target latch =
    record { bits = refl; targets = λ k. (word_posted x j k m.word target latch).0; latches = λ k. (word_posted x j k m.word target latch).1; polls = refl; queues = refl }

posting_same : (s : Common) (j : ℕ) (m : Mailbox) → ((posting s j ByCall m).mailbox.word.target ≡ m.word.target) × ((posting s j ByCall m).mailbox.word.latch ≡ m.word.latch)
posting_same = grind arith

-- THE IDLE SET

lowest_none : (set : List Bool) → lowest_of set ≡ None → (j : ℕ) → is_in set j ≡ false
lowest_none = grind (arith, none-some, fails_before_first, ltb-false, ltb-true, get_or_past)

nobody_in : (x : Idle) → has_any x ≡ false → lowest_of x.published ≡ None
nobody_in = grind arith

-- A SIGNAL

rousing_is : (s : Common) (j : ℕ) → (is_awake (seat_of s j).rest ≡ true) ⊎ (rousing s j ≡ Rouse j)
rousing_is = grind arith

pub unasked : (w : PureWord) → asks_signal w ≡ false → (w.latch ≡ true) ⊎ (w.target ≡ target.None)
unasked = grind arith

some_same : (j k : ℕ) → Some j ≡ Some k → j ≡ k
some_same j k h = ap (λ o. unwrap_or o 0) h

same_raising : (a b : Raising) → Some a ≡ Some b → a ≡ b
same_raising a b h = ap (λ o. unwrap_or o a) h

module _ (c : Configuration) (s : Common) (d : CallDesk) (x : Things) where
  -- THE FIRST STEP, of who has no call

  pub spawn_heeds : d.place ≡ call.Nothing → (k : ℕ) → CallHeeds s d x (call_spawn c s d x k)
  spawn_heeds is k = plain_call s d x (call_spawn c s d x k) (rw is refl) (rw is refl) (record { bits = refl; targets = λ j. refl; latches = λ j. refl; polls = refl; queues = refl }) (rw is refl) refl

  pub wake_heeds : d.place ≡ call.Nothing → (t : ℕ) (home : Option ℕ) → CallHeeds s d x (call_wake s d x t home)
  wake_heeds is t None = plain_call s d x (call_wake s d x t None) (rw is refl) (rw is refl) (nothing_new x) (rw is refl) refl
  wake_heeds is t (Some home) =
      let same = posting_same s home (mailbox_of x home) in
      plain_call s d x (call_wake s d x t (Some home)) (rw is refl) (rw is refl) (mailbox_put x home (posting s home ByCall (mailbox_of x home)).mailbox same.0 same.1) (rw is refl) refl

  -- A STEP FURTHER

  append_heeds : d.place ≡ call.Global global.Append → CallHeeds s d x (call_global s d x global.Append)
  append_heeds = grind arith

  -- the idle set is looked at, or its count changes
  looks : (m : Called Idle) → m.thing.published ≡ x.idle.published → call_signals d.place ≡ None → call_raises d.place ≡ None → (call_owes d.place ≡ true → (call_owes m.desk.place ≡ true) ⊎ ((j : ℕ) → is_in x.idle.published j ≡ false)) → CallHeeds s d x (call_puts (set_idle x) m)
  looks = grind arith

  load_heeds : d.place ≡ call.Global global.LoadGlobalSet → CallHeeds s d x (call_global s d x global.LoadGlobalSet)
  load_heeds = grind (arith, looks, lowest_none, nobody_in)

  global_heeds : (p : InGlobal) → d.place ≡ call.Global p → CallHeeds s d x (call_global s d x p)
  global_heeds = grind (arith, append_heeds, load_heeds, looks, false≢true)

  claim_heeds : (set : WorkerSet) → d.place ≡ call.ClaimWorker set → CallHeeds s d x (call_on s d x (call.ClaimWorker set))
  claim_heeds set is = by (same_bools set.has x.idle.published) (lowest_of x.idle.published) refl
    where
      did : Claimed → Called Idle
      did it = goes_on (after_claim it) d (idle_after it x.idle)

      takes : (k : ℕ) → lowest_of x.idle.published ≡ Some k → CallHeeds s d x (call_puts (set_idle x) (did (Worker k)))
      takes k some =
          let there = position-Some (λ b. b) x.idle.published k false some in
          grind (arith, set_at, false≢true, true≢false, get_or-set_same, none-some)

      by : (same : Bool) (o : Option ℕ) → lowest_of x.idle.published ≡ o → CallHeeds s d x (call_puts (set_idle x) (did (claimed_if same (set_of x.idle) o)))
      by true None none = looks (did Nobody) refl (rw is refl) (rw is refl) (λ owes. inr (lowest_none x.idle.published none))
      by false None none = looks (did Nobody) refl (rw is refl) (rw is refl) (λ owes. inr (lowest_none x.idle.published none))
      by false (Some k) some = looks (did (Again (set_of x.idle))) refl (rw is refl) (rw is refl) (λ owes. inl refl)
      by true (Some k) some = takes k some

  latch_heeds : (k : ℕ) → d.place ≡ call.Signal signals.SetLatch k → CallHeeds s d x (call_signal s d x signals.SetLatch k)
  latch_heeds = grind (arith, unasked, set_at, true≢false, false≢true, get_or-set_at, some_same, none-some)

  raise_heeds : (ring : Bool) (k : ℕ) → d.place ≡ call.Signal (signals.Raise ring) k → CallHeeds s d x (call_signal s d x (signals.Raise ring) k)
  raise_heeds = grind (arith, true≢false, false≢true, none-some, rousing_is, set_at, same_raising, get_or-set_at)

  signal_heeds : (p : InSignal) (k : ℕ) → d.place ≡ call.Signal p k → CallHeeds s d x (call_signal s d x p k)
  signal_heeds signals.SetLatch k is = latch_heeds k is
  signal_heeds (signals.Raise ring) k is = raise_heeds ring k is

  pub call_heeds : (p : CallPlace) → d.place ≡ p → CallHeeds s d x (call_on s d x p)
  call_heeds call.Nothing is = plain_call s d x (call_on s d x call.Nothing) (rw is refl) (rw is refl) (nothing_new x) (rw is refl) refl
  call_heeds (call.Global p) is = global_heeds p is
  call_heeds (call.ClaimWorker set) is = claim_heeds set is
  call_heeds (call.Signal p k) is = signal_heeds p k is
  call_heeds call.Return is = plain_call s d x (call_on s d x call.Return) (rw is refl) (rw is refl) (nothing_new x) (rw is refl) refl
