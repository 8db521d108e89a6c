-- What a move heeds that leads from a wait on or out of it, and changes the own wake word or the own wake poll alone.
use Rattle.std.proofs.{Common.{◌≡◌, ◌≢◌, ℕ, ◌<◌, Bool, true, false, length, slice_set, Option, None, refl, ap, ◌∙◌, inl, inr, if◌then◌else◌, arith}, lemmas.{Bool.{true≢false, false≢true}, List.{get_or-set_same, get_or-set_other}}}
use Rattle.exec_words.specs.{Word.is_idle_at, declared.word.{PureWord.PureWord, WaitTarget.WaitTarget as target}}
use Rattle.exec_machine.specs.{declared.event.Event.TheVariants.Sleep, World.{Common, seat_of}}
use Rattle.exec_moves.specs.{declared.{idling.{AfterWait.AfterWait, InRingWait.InRingWait, InWordWait.InWordWait, Stay.Stay}, place.Place.{Place, Place as at}}, Callback.is_of_pool, State.{Desk, Moved, Things, WakePoll, no_word, queue_of, word_of, wake_poll_of}, Thing.{ring_of, set_word}, Wait.{after_wait, goes_back, withdraws}}
use Rattle.exec_rest.{specs.Places.{asked_for_poll, has_looked, is_abed, is_dry, is_pooled, is_published, is_to_enter, is_to_sleep_on_ring, is_withdrawing, owes, raises, signals, waits_on}, proofs.{Heeds.{Rings, landed_after, ring_after}, Sides.{OfIdleSet, Itself, Keeps, OfRings, OfWords, is_tame, put_cases, some_none}}}

-- from p to q the worker stays published or takes its bit out, and puts nothing into its run queue
pub record Stays (pool : Bool) (p q : Place) : Type 0 where
  pub unpublished : pool ≡ true → is_published p ≡ true → is_published q ≡ true
  pub published : pool ≡ true → is_published q ≡ true → is_published p ≡ true
  pub looked : pool ≡ true → has_looked q ≡ true → has_looked p ≡ true
  pub dry : pool ≡ true → is_dry q ≡ true → is_dry p ≡ true
  pub pooled : is_pooled q ≡ true → pool ≡ true

-- it won't sleep on its ring next
pub record IsOff (q : Place) : Type 0 where
  pub to_enter : is_to_enter q ≡ false
  pub to_sleep : is_to_sleep_on_ring q ≡ false
  pub asked : asked_for_poll q ≡ false

-- THE PLACES

pub on_word : (pool : Bool) (p q : InWordWait) → Stays pool (at.WordWait p) (at.WordWait q)
on_word pool p q = record { unpublished = λ k h. refl; published = λ k h. refl; looked = λ k h. refl; dry = λ k h. refl; pooled = λ h. absurd (false≢true h) }

pub on_ring : (pool : Bool) (p q : InRingWait) (y : Stay) → Stays pool (at.RingWait p y) (at.RingWait q y)
on_ring = grind (arith, false≢true)

back_off : (n : AfterWait) → IsOff (goes_back n)
back_off = grind arith

back_quiet : (n : AfterWait) → waits_on (goes_back n) ≡ target.None
back_quiet = grind arith

-- from a published place, at which the own run queue is empty
out_of : (pool : Bool) (p : Place) (n : AfterWait) → is_published p ≡ true → is_dry p ≡ true → Stays pool p (if pool then at.Withdraw n else goes_back n)
out_of = grind arith

withdraws_off : (pool : Bool) (n : AfterWait) → IsOff (if pool then at.Withdraw n else goes_back n)
withdraws_off = grind (arith, back_off)

withdraws_quiet : (pool : Bool) (n : AfterWait) → waits_on (if pool then at.Withdraw n else goes_back n) ≡ target.None
withdraws_quiet = grind (arith, back_quiet)

withdrawing : (pool : Bool) (n : AfterWait) → pool ≡ true → is_withdrawing (if pool then at.Withdraw n else goes_back n) ≡ true
withdrawing = grind (arith, false≢true)

module _ (s : Common) (i : ℕ) where
  pub off_word : (p : InWordWait) (n : AfterWait) → Stays (is_of_pool s i) (at.WordWait p) (withdraws s i n)
  off_word p n = out_of (is_of_pool s i) (at.WordWait p) n refl refl

  pub off_ring : (p : InRingWait) (y : Stay) (n : AfterWait) → Stays (is_of_pool s i) (at.RingWait p y) (after_wait s i y n)
  off_ring = grind (arith, out_of, false≢true)

  pub word_off : (n : AfterWait) → IsOff (withdraws s i n)
  word_off n = withdraws_off (is_of_pool s i) n

  pub word_quiet : (n : AfterWait) → waits_on (withdraws s i n) ≡ target.None
  word_quiet n = withdraws_quiet (is_of_pool s i) n

  pub word_withdrawing : (n : AfterWait) → is_of_pool s i ≡ true → is_withdrawing (withdraws s i n) ≡ true
  word_withdrawing n = withdrawing (is_of_pool s i) n

  pub ring_off : (y : Stay) (n : AfterWait) → IsOff (after_wait s i y n)
  ring_off = grind (arith, word_off)

  pub ring_quiet : (y : Stay) (n : AfterWait) → waits_on (after_wait s i y n) ≡ target.None
  ring_quiet = grind (arith, word_quiet)

  pub ring_withdrawing : (p : InRingWait) (y : Stay) (n : AfterWait) → is_published (at.RingWait p y) ≡ true → is_of_pool s i ≡ true → is_withdrawing (after_wait s i y n) ≡ true
  ring_withdrawing = grind (arith, word_withdrawing, false≢true)

-- THE WAKE WORD

-- where a wait may begin no latch is
pub idle_unlatched : (w : PureWord) (n : ℕ) → is_idle_at w n ≡ true → w.latch ≡ false
idle_unlatched = grind arith

-- a word with the same latch is put back
pub same_latch : (x : Things) (i : ℕ) (w : PureWord) → w.latch ≡ (word_of x i).latch → (word_of (set_word i x w) i).latch ≡ (word_of x i).latch
same_latch x i w is = elim (put_cases x.words i i w no_word) [ inl h ↦ ap (λ (v : PureWord). v.latch) h | inr h ↦ ap (λ (v : PureWord). v.latch) h.2 ∙ is ]

-- THE PARTS

module _ (R : Type 0) (i : ℕ) (s : Common) (d : Desk) (x : Things) (m : Moved Things) where
  pub stay_idles : Stays (is_of_pool s i) d.place m.desk.place → owes d.place ≡ false → m.thing.idle.published ≡ x.idle.published → m.thing.global ≡ x.global → OfIdleSet R i s d x m
  stay_idles = grind arith

  pub stay_itself : Stays (is_of_pool s i) d.place m.desk.place → ((j : ℕ) → queue_of m.thing j ≡ queue_of x j) → is_tame m.event ≡ true → Itself R i s d x m
  stay_itself stays queues tame = record { queues = queues; dry = stays.dry; pooled = λ before h. stays.pooled h; tame = tame }

  -- the own wake word
  pub own_words : (w : PureWord) → m.thing.words ≡ slice_set x.words i w
      → (i < length x.words → (waits_on d.place ≢ target.None → (word_of x i).target ≡ waits_on d.place) → waits_on m.desk.place ≢ target.None → w.target ≡ waits_on m.desk.place)
      → (w.latch ≡ true → (word_of x i).latch ≡ true)
      → ((word_of x i).latch ≡ true → w.latch ≡ false → is_published d.place ≡ true → is_of_pool s i ≡ true → is_withdrawing m.desk.place ≡ true)
      → signals d.place ≡ None → OfWords R i s d x m
  own_words = grind (arith, get_or-set_other, get_or-set_same, true≢false, some_none, put_cases)

  -- all wake words stay
  pub stay_words : m.thing.words ≡ x.words → (waits_on m.desk.place ≢ target.None → (waits_on d.place ≢ target.None) × (waits_on d.place ≡ waits_on m.desk.place)) → signals d.place ≡ None → OfWords R i s d x m
  stay_words = grind arith

  -- a worker that won't sleep on its ring next
  pub off_rings : IsOff m.desk.place → Keeps (wake_poll_of x i) (wake_poll_of m.thing i) (seat_of s i).landed (landed_after s i m.event) → Rings R d (ring_of s x i) (word_of x i).latch → Rings R m.desk (ring_after i s m) (word_of m.thing i).latch
  off_rings = grind arith

  -- the own wake poll, where a worker raises no other one
  pub own_rings : (v : WakePoll) → m.thing.wake_polls ≡ slice_set x.wake_polls i v → raises d.place ≡ None
      → ((i < length x.wake_polls) → wake_poll_of m.thing i ≡ v → Rings R d (ring_of s x i) (word_of x i).latch → Rings R m.desk (ring_after i s m) (word_of m.thing i).latch)
      → ((until : Option ℕ) → m.event ≡ Sleep until → (is_abed m.desk.place ≡ true) × (Rings R d (ring_of s x i) (word_of x i).latch → (word_of m.thing i).latch ≡ true → R))
      → OfRings R i s d x m
  own_rings = grind (arith, some_none, get_or-set_other, get_or-set_same)

  -- all wake polls stay
  pub stay_rings : m.thing.wake_polls ≡ x.wake_polls → raises d.place ≡ None
      → (wake_poll_of m.thing i ≡ wake_poll_of x i → Rings R d (ring_of s x i) (word_of x i).latch → Rings R m.desk (ring_after i s m) (word_of m.thing i).latch)
      → ((until : Option ℕ) → m.event ≡ Sleep until → (is_abed m.desk.place ≡ true) × (Rings R d (ring_of s x i) (word_of x i).latch → (word_of m.thing i).latch ≡ true → R))
      → OfRings R i s d x m
  stay_rings = grind arith
