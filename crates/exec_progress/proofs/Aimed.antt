-- The wake word of each worker says what it waits on, and none ends a wait of its own: so it is in the first state, and each step keeps it.
use Rattle.std.{proofs.{Common.{◌≡◌, ◌≢◌, ℕ, ◌<◌, ◌==◌, Bool, true, false, length, if◌then◌else◌, get_or, set, refl, sym, ap, ◌∙◌, arith, inl, inr}, lemmas.{Bool.{and_parts, cases_Bool, cases_eq, cases_lt, false≢true}, List.{get_or_past, get_or-set_same}}}, specs.Prelude.nat_lt}
use Rattle.exec_words.specs.{declared.word.{PureWord.PureWord, WaitTarget.WaitTarget}, Queue.head_of, Word.{asks_signal, is_idle_at}}
use Rattle.exec_machine.specs.{declared.{config.Configuration.Configuration, step.Action.{Action, Action as action}}, Callers.is_enabled, Deadlines.next_due, Progress.Plan, World.{Common, Own as Books, own_of}}
use Rattle.exec_moves.specs.{declared.{handing.{AfterSignal.AfterSignal, InSignal.InSignal as signals}, idling.{InRingWait.{InRingWait, InRingWait as ring}, Stay.Stay, AfterWait.AfterWait as later, InLook.InLook as look, InScan.InScan as scan, InWordWait.InWordWait as word}, place.{AfterPermit.AfterPermit, Place.{Place, Place as at}, Service.Service, InService.InService as step}}, Callback.is_of_pool, Claim.is_ring, Load.{has_come, has_mail}, Move.{move, move_at}, Parts.after_signal, Plays.{Playing, by_action, by_move, by_step, caller_of, desk_of, first_desk, first_playing}, Pop.same_head, Search.from_of, Serve.{Ring, after_permit, entered as taken}, State.{Desk, Moved, Things, no_word, queue_of, taken_in, word_of}, Thing.ring_of, Wait.{enter_ring, has_completion, sleep_on_word}}
use Rattle.exec_rest.{specs.{AtRest.IsPlaced, Places.waits_on, Rested.{IsLaidOut, IsRaised, IsRestful, place_at}}, proofs.{Calls.at_nothing, CallMoves.{call_heeds, spawn_heeds, wake_heeds}, First.of_equal, Frames.{desk_other, desk_own}, Heeds.Heeds, Others.{beside, is_other}, Step.heeds_at}}
use Rattle.exec_progress.{specs.{Going.{has_called_back, loads_queues, raises_itself}, Owed.quiet_items, Paced.{AreAimed, HavePace}}, proofs.{Pace.each_first, PaceParts.{is_wild, Calm, calm_raises, calm_waits, headed, permitted, signalled, withdrawing}, PaceMoves.in_place, WordMoves.target_kept}}
use Rattle.exec_words.specs.declared.word.WaitTarget.TheVariants as target

-- THE FIRST STATE

pub aimed_first : (p : Plan) → AreAimed p.config (first_playing p)
aimed_first p =
    let c = p.config in
    record {
      target = λ i.
          of_equal (λ w. w.target ≡ target.None) c.workers i no_word no_word refl refl
          ∙ each_first (λ d. target.None ≡ waits_on d.place) c (λ k. refl) c.workers 0 i (first_desk c i) refl;
      unraised = λ i. each_first (λ d. raises_itself i d.place ≡ false) c (λ k. refl) c.workers 0 i (first_desk c i) refl;
    }

-- A MOVE

-- what it waits on after the move of this place
abbrev waits_then : Place → WaitTarget
waits_then (at.RingWait ring.ArmRing y) = target.Ring
waits_then (at.RingWait ring.EnterRing y) = target.Ring
waits_then (at.RingWait ring.SleepOnRing y) = target.Ring
waits_then (at.WordWait word.ArmWord) = target.Sleeping
waits_then (at.WordWait word.SleepOnWord) = target.Sleeping
waits_then _ = target.None

tame_then : (p : Place) → is_wild p ≡ false → waits_then p ≡ target.None
tame_then = grind arith

module _ (c : Configuration) (i : ℕ) (me : Books) (s : Common) (d : Desk) (x : Things) where
  -- the own word is this one then
  own_word : i < length x.words → (w : PureWord) → (get_or (set x.words i w) i no_word).target ≡ w.target
  own_word within w = ap (λ (v : PureWord). v.target) (get_or-set_same x.words i w no_word within)

  word_then : i < length x.words → (p : Place) → (word_of x i).target ≡ waits_on p → (word_of (move_at c i me s d x p).thing i).target ≡ waits_then p
  word_then within (at.RingWait ring.ArmRing y) h = own_word within _
  word_then within (at.RingWait (ring.DisarmRing n) y) h = own_word within _
  word_then within (at.WordWait word.ArmWord) h = own_word within _
  word_then within (at.WordWait word.DisarmWord) h = own_word within _
  word_then within p h = target_kept c i me s d x p refl ∙ h

  -- it waits on that there, and doesn't end its own wait
  abbrev Off : WaitTarget → Place → Type 0
  Off w q = (waits_on q ≡ w) × (raises_itself i q ≡ false)

  calm_off : (quiet : Bool) (q : Place) → Calm (is_of_pool s i) d.spinner.budget quiet q → Off target.None q
  calm_off quiet q calm = (calm_waits (is_of_pool s i) d.spinner.budget quiet q calm, calm_raises (is_of_pool s i) d.spinner.budget quiet i q calm)

  off_if : {T : Type 0} (w : WaitTarget) (b : Bool) (m k : Moved T) → Off w m.desk.place → Off w k.desk.place → Off w (if b then m else k).desk.place
  off_if w true m k one other = one
  off_if w false m k one other = other

  desk_if : (w : WaitTarget) (b : Bool) (e f : Desk) → Off w e.place → Off w f.place → Off w (if b then e else f).place
  desk_if w true e f one other = one
  desk_if w false e f one other = other

  -- an armed ring wait
  ring_if : (b : Bool) (y : Stay) (p q : InRingWait) → Off target.Ring (at.RingWait p y) → Off target.Ring (at.RingWait q y) → Off target.Ring (at.RingWait (if b then p else q) y)
  ring_if true y p q one other = one
  ring_if false y p q one other = other

  entered : (y : Stay) (r : Ring) (b : Bool) → r.busy ≡ b → Off target.Ring (enter_ring y me d r).desk.place
  entered y r true h = rw h (refl, refl)
  entered y r false h = rw h (ring_if (has_completion (taken (length me.untold) d) (record r { wakes = taken_in d.polled r.wakes })) y (ring.DisarmRing later.Begin) ring.SleepOnRing (refl, refl) (refl, refl))

  bedded : (w : PureWord) (idle : Bool) → is_idle_at w d.processed ≡ idle → (come : Bool) → has_come s.clock (next_due s i) ≡ come → Off target.Sleeping (sleep_on_word i s d w).desk.place
  bedded = grind arith

  armed : (b : Bool) → Off target.Sleeping (at.WordWait (if b then word.SleepOnWord else word.DisarmWord))
  armed true = (refl, refl)
  armed false = (refl, refl)

  -- of whoever asks for a signal a wait is to be ended, and so that isn't the own one
  unasked : (word_of x i).target ≡ target.None → (j : ℕ) → asks_signal (word_of x j) ≡ true → (j == i) ≡ false
  unasked = grind arith

  signals_on : (b is_ring : Bool) (j : ℕ) (a : AfterSignal) → (b ≡ true → (j == i) ≡ false) → Off target.None (if b then at.Signal (signals.Raise is_ring) j a else after_signal c i me s a d)
  signals_on true is_ring j a other = (refl, other refl)
  signals_on false is_ring j a other = calm_off true _ (signalled c i me s d.spinner.budget true a d (λ h. refl))

  serves_on : (b is_ring : Bool) (j : ℕ) (a : AfterPermit) (v : Service) → (b ≡ true → (j == i) ≡ false) → Off target.None (at.Service (if b then step.Raise is_ring j a else after_permit a) v)
  serves_on true is_ring j a v other = (refl, other refl)
  serves_on false is_ring j a v other = calm_off true (at.Service (after_permit a) v) (permitted c i me s d.spinner.budget true a v)

  wild_off : (p : Place) → (word_of x i).target ≡ waits_on p → is_wild p ≡ true → Off (waits_then p) (move_at c i me s d x p).desk.place
  wild_off (at.Look look.Publish) h wild = (refl, refl)
  wild_off (at.Scan (scan.ClaimHalf y g tail)) h wild =
      let q = queue_of x (from_of c y) in off_if target.None (same_head g (head_of q)) _ _ (refl, refl) (calm_off true _ (headed c i me s d.spinner.budget true y (head_of q)))
  wild_off (at.Scan (scan.MoveHalf from g)) h wild = (refl, refl)
  wild_off (at.Scan (scan.ReleaseHalf from g)) h wild = off_if target.None (same_head g (head_of (queue_of x from))) _ _ (refl, refl) (refl, refl)
  wild_off (at.RingWait ring.ArmRing y) h wild = ring_if (is_idle_at (word_of x i) d.processed) y _ _ (refl, refl) (refl, refl)
  wild_off (at.RingWait ring.EnterRing y) h wild = entered y (ring_of s x i) _ refl
  wild_off (at.RingWait ring.SleepOnRing y) h wild =
      off_if target.Ring (has_completion d (ring_of s x i)) _ _ (refl, refl) (off_if target.Ring (has_come s.clock (next_due s i)) _ _ (refl, refl) (refl, refl))
  wild_off (at.WordWait (word.SpinOnBatch left)) h wild = desk_if target.None (has_mail d (word_of x i)) _ _ (refl, refl) (refl, refl)
  wild_off (at.WordWait (word.SpinOnLatch left)) h wild =
      desk_if target.None (word_of x i).latch _ _ (refl, refl) (desk_if target.None (nat_lt 1 left) _ _ (refl, refl) (refl, refl))
  wild_off (at.WordWait word.ArmWord) h wild = armed (is_idle_at (word_of x i) d.processed)
  wild_off (at.WordWait word.SleepOnWord) h wild = bedded (word_of x i) _ refl _ refl
  wild_off (at.WordWait word.DisarmWord) h wild = calm_off true _ (withdrawing c i me s d.spinner.budget true later.Begin)
  wild_off (at.Signal signals.SetLatch j b) h wild = signals_on (asks_signal (word_of x j)) (is_ring (word_of x j).target) j b (unasked h j)
  wild_off (at.Service (step.Signal j b) v) h wild = serves_on (asks_signal (word_of x j)) (is_ring (word_of x j).target) j b v (unasked h j)
  wild_off _ h wild = absurd (false≢true wild)

  -- of any place
  pub aimed_at : i < length x.words → (loads_queues d.place ≡ true → is_of_pool s i ≡ true) → (has_called_back d.place ≡ true → quiet_items d ≡ 0) → (word_of x i).target ≡ waits_on d.place
      → ((word_of (move c i me s d x).thing i).target ≡ waits_on (move c i me s d x).desk.place) × (raises_itself i (move c i me s d x).desk.place ≡ false)
  aimed_at within loads called h = elim (cases_Bool (is_wild d.place)) [
    | inl wild ↦ let off = wild_off d.place h wild in (word_then within d.place h ∙ sym off.0, off.1)
    | inr tame ↦ grind (arith, calm_off, in_place, word_then, within, tame_then)
  ]

-- EACH STEP

module _ (c : Configuration) (x : Playing) (placed : IsPlaced c x) (held : IsRestful c x) (pace : HavePace c x) (aimed : AreAimed c x) where
  abbrev s : Common
  s = x.world.common

  laid : IsLaidOut c x
  laid = placed.laid

  -- who may go on is one of the workers
  within : (i : ℕ) → is_enabled s (action.Work i) ≡ true → i < length s.seats
  within = grind (arith, and_parts, cases_lt, false≢true, get_or_past)

  by_work : (i : ℕ) → is_enabled s (action.Work i) ≡ true → AreAimed c (by_action c x (action.Work i)).next
  by_work i may = record { target = λ j. (each j).0; unraised = λ j. (each j).1 }
    where
      d : Desk
      d = desk_of c x i

      me : Books
      me = own_of x.world i

      m : Moved Things
      m = move c i me s d x.things

      next : Playing
      next = (by_move c x i m).next

      heeds : Heeds (IsRaised c next i true) i s d x.things m
      heeds = heeds_at (IsRaised c next i true) c i me s d x.things d.place refl

      own : desk_of c next i ≡ m.desk
      own = desk_own c x i m (omega (arith, laid.desks, within i may))

      other : (j : ℕ) → j ≢ i → desk_of c next j ≡ desk_of c x j
      other j apart = desk_other c x i m (λ t k is. heeds.born t k is ∙ sym laid.desks) j apart

      each : (j : ℕ) → ((word_of m.thing j).target ≡ waits_on (desk_of c next j).place) × (raises_itself j (desk_of c next j).place ≡ false)
      each j = elim (cases_eq j i) [
        | inl is ↦
            let it = aimed_at c i me s d x.things (omega (arith, laid.words, within i may)) (pace i).loads (pace i).called_back (aimed.target i) in
            rw is (rw own it)
        | inr apart ↦ rw (other j apart) (heeds.targets j apart ∙ aimed.target j, aimed.unraised j)
      ]

  -- a step that isn't a worker's lets each stand where it does, and changes no target
  by_others : (y : Playing) → ((j : ℕ) → (desk_of c y j).place ≡ place_at c x j) → ((j : ℕ) → (word_of y.things j).target ≡ (word_of x.things j).target) → AreAimed c y
  by_others = grind arith

  by_other : (a : Action) → is_other a ≡ true → AreAimed c (by_action c x a).next
  by_other = grind (arith, beside, laid, by_others)

  by_any : (a : Action) → is_enabled s a ≡ true → AreAimed c (by_action c x a).next
  by_any (action.Work i) may = by_work i may
  by_any (action.Spawn j k) may =
      by_others (by_action c x (action.Spawn j k)).next (λ n. refl) (spawn_heeds c s (caller_of x j) x.things (at_nothing c x laid held j may) k).targets
  by_any (action.Wake j t) may = grind (arith, and_parts, by_others, wake_heeds, at_nothing, laid)
  by_any (action.GoOn j) may =
      by_others (by_action c x (action.GoOn j)).next (λ n. refl) (call_heeds c s (caller_of x j) x.things (caller_of x j).place refl).targets
  by_any (action.Clock n) may = by_other (action.Clock n) refl
  by_any (action.Land r n) may = by_other (action.Land r n) refl
  by_any (action.SetBusy i) may = by_other (action.SetBusy i) refl
  by_any (action.EndPoll i) may = by_other (action.EndPoll i) refl
  by_any (action.Stir i) may = by_other (action.Stir i) refl
  by_any (action.Peer l) may = by_other (action.Peer l) refl

  -- a step that is not enabled changes nothing
  pub aimed_then : (a : Action) → AreAimed c (by_step c x a).next
  aimed_then = grind (arith, cases_Bool, by_any)
