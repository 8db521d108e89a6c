-- Moves that change nothing of waking: from a place at which nothing is known of the worker to another one.
use Rattle.std.proofs.Common.{◌≡◌, ◌≢◌, ℕ, Bool, true, false, [], arith}
use Rattle.exec_words.specs.declared.word.WaitTarget.TheVariants as target
use Rattle.exec_machine.specs.{declared.event.Event.{Event, TheVariants.{Dedicated, End, Reap, Sleep}}}
use Rattle.exec_moves.specs.{declared.{place.{InLoads.InLoads, Place.Place, Round.Round}}, State.{Things, queue_of, word_of, wake_poll_of}}
use Rattle.exec_rest.specs.Places.{asked_for_poll, has_looked, is_dry, is_pooled, is_published, is_to_enter, is_to_sleep_on_ring, waits_on}

-- nothing is known of a worker there
abbrev pub is_calm : Place → Bool
is_calm (Place.Look x) = false
is_calm (Place.Search x) = false
is_calm (Place.Scan x) = false
is_calm (Place.RingWait x y) = false
is_calm (Place.WordWait x) = false
is_calm (Place.Withdraw n) = false
is_calm (Place.TestForWork f) = false
is_calm Place.ReadClock = false
is_calm (Place.Loads (InLoads.LoadOwnMirror f) Round.Second) = false
is_calm (Place.Loads (InLoads.LoadOwnWord f) Round.Second) = false
is_calm _ = true

pub record Calm (q : Place) : Type 0 where
  pub published : is_published q ≡ false
  pub looked : has_looked q ≡ false
  pub pooled : is_pooled q ≡ false
  pub dry : is_dry q ≡ false
  pub waits : waits_on q ≡ target.None
  pub to_enter : is_to_enter q ≡ false
  pub to_sleep : is_to_sleep_on_ring q ≡ false
  pub asked : asked_for_poll q ≡ false

pub calm : (q : Place) → is_calm q ≡ true → Calm q
calm = grind arith

-- no sleep, no end, no completion, and no new worker
abbrev pub is_mute : Event → Bool
is_mute (Sleep until) = false
is_mute End = false
is_mute (Reap r n outcome) = false
is_mute (Dedicated t k) = false
is_mute _ = true

-- What parties share is the same as far as waking goes, but for the run queue of worker i.
pub record Aside (i : ℕ) (x y : Things) : Type 0 where
  pub bits : y.idle.published ≡ x.idle.published
  pub global : (y.global ≡ [] → ⊥) → x.global ≡ [] → ⊥
  pub targets : (j : ℕ) → (word_of y j).target ≡ (word_of x j).target
  pub latches : (j : ℕ) → (word_of y j).latch ≡ (word_of x j).latch
  pub polls : (j : ℕ) → wake_poll_of y j ≡ wake_poll_of x j
  pub queues : (j : ℕ) → j ≢ i → (queue_of x j).values ≡ [] → (queue_of y j).values ≡ []
