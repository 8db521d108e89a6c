-- What the move of a worker does as far as waking goes. Each move does it; and whatever does it keeps what holds.
use Rattle.std.{proofs.Common.{◌≡◌, ◌≢◌, ℕ, ◌<◌, Bool, true, false, ◌&&◌, ◌||◌, List, [], length, Option, Some}, specs.Prelude.{◌⊎◌, drop, is_some, not}}
use Rattle.exec_words.specs.{Idle.is_in, declared.word.WaitTarget.WaitTarget as target}
use Rattle.exec_machine.specs.{declared.event.Event.{Event, TheVariants.{Dedicated, End, Reap, Rouse, Sleep}}, Tests.{is_awake, is_empty}, World.{Common, seat_of}}
use Rattle.exec_moves.specs.{declared.place.Place.Place, Callback.is_of_pool, Claim.is_ring, Serve.Ring, State.{Desk, Moved, Things, queue_of, word_of, wake_poll_of, raised}, Thing.ring_of, Wait.has_completion}
use Rattle.exec_rest.specs.Places.{asked_for_poll, has_looked, is_abed, is_dry, is_pooled, is_published, is_to_enter, is_to_sleep_on_ring, is_withdrawing, owes, owes_nothing, raises, signals, waits_on}

-- What holds of a worker and its ring, where R says that somebody else ends its wait on the ring next.
pub record Rings (R : Type 0) (d : Desk) (r : Ring) (latch : Bool) : Type 0 where
  pub entering : is_to_enter d.place ≡ true → latch ≡ true → R ⊎ ((has_completion d r || r.wakes.kept) ≡ true)
  pub sleeping : is_to_sleep_on_ring d.place ≡ true → latch ≡ true → R ⊎ (has_completion d r ≡ true)
  pub asked : asked_for_poll d.place ≡ true → d.polled ≡ true
  pub polled : is_to_sleep_on_ring d.place ≡ true → (r.wakes.armed || has_completion d r) ≡ true
  pub kept : (r.wakes.armed && r.wakes.kept) ≡ false
  pub ended : is_some r.wakes.ended ≡ true → (not (is_empty r.landed) || r.wakes.told) ≡ true

-- what has landed on the ring of worker i after its event
abbrev pub landed_after : Common → ℕ → Event → List ℕ
landed_after s i (Reap r n outcome) = drop 1 (seat_of s i).landed
landed_after s i _ = (seat_of s i).landed

abbrev pub ring_after : ℕ → Common → Moved Things → Ring
ring_after i s m = record { busy = false; landed = landed_after s i m.event; wakes = wake_poll_of m.thing i }

-- The move of worker i from d over x, where R says that somebody else ends its wait on the ring next.
module _ (R : Type 0) (i : ℕ) (s : Common) (d : Desk) (x : Things) (m : Moved Things) where
  abbrev p : Place
  p = d.place

  abbrev q : Place
  q = m.desk.place

  abbrev y : Things
  y = m.thing

  pub record Heeds : Type 0 where
    -- THE IDLE SET: its own bit alone is put in; taken out is its own or that of who is signalled next
    pub bit_in : (j : ℕ) → is_in y.idle.published j ≡ true → (is_in x.idle.published j ≡ true) ⊎ ((j ≡ i) × (is_pooled p ≡ true) × (is_published q ≡ true) × (has_looked q ≡ false))
    pub bit_out : (j : ℕ) → is_in x.idle.published j ≡ true → is_in y.idle.published j ≡ false → ((j ≡ i) × (is_published q ≡ false)) ⊎ (signals q ≡ Some j)
    pub unpublished : is_of_pool s i ≡ true → is_published p ≡ true → is_in y.idle.published i ≡ true → is_published q ≡ true
    pub published : is_of_pool s i ≡ true → i < length x.idle.published → is_published q ≡ true → (is_published p ≡ true) ⊎ (is_in y.idle.published i ≡ true)
    pub bits : length y.idle.published ≡ length x.idle.published
    -- THE GLOBAL QUEUE: who puts something in looks for a worker, until there is none or one was claimed
    pub looked : is_of_pool s i ≡ true → has_looked q ≡ true → (has_looked p ≡ true) ⊎ (x.global ≡ [])
    pub global : (y.global ≡ [] → ⊥) → (x.global ≡ [] → ⊥) ⊎ (owes q ≡ true)
    pub owing : owes p ≡ true → (owes q ≡ true) ⊎ (((j : ℕ) → is_in y.idle.published j ≡ false) ⊎ ((k : ℕ) × (is_in x.idle.published k ≡ true) × (is_in y.idle.published k ≡ false)))
    -- THE WAKE WORDS
    pub targets : (j : ℕ) → j ≢ i → (word_of y j).target ≡ (word_of x j).target
    pub waits : i < length x.words → (waits_on p ≢ target.None → (word_of x i).target ≡ waits_on p) → waits_on q ≢ target.None → (word_of y i).target ≡ waits_on q
    pub latch_in : (j : ℕ) → (word_of y j).latch ≡ true → (word_of x j).latch ≡ true ⊎ ((raises q ≡ Some (record { worker = j; ring = is_ring (word_of x j).target })) ⊎ ((word_of x j).target ≡ target.None))
    pub latch_out : (j : ℕ) → (word_of x j).latch ≡ true → (word_of y j).latch ≡ false → (j ≡ i) × (is_published p ≡ true → is_of_pool s i ≡ true → is_withdrawing q ≡ true)
    pub signalling : (j : ℕ) → signals p ≡ Some j → j < length x.words → (word_of y j).latch ≡ true
    pub rouses : (j : ℕ) (ring : Bool) → raises p ≡ Some (record { worker = j; ring = ring }) → (is_awake (seat_of s j).rest ≡ true) ⊎ (m.event ≡ Rouse j)
    -- THE RINGS
    pub polls : (j : ℕ) → j ≢ i → (wake_poll_of y j ≡ wake_poll_of x j) ⊎ (wake_poll_of y j ≡ raised (wake_poll_of x j))
    pub raising : (j : ℕ) → raises p ≡ Some (record { worker = j; ring = true }) → j < length x.wake_polls → wake_poll_of y j ≡ raised (wake_poll_of x j)
    pub rings : i < length x.wake_polls → Rings R d (ring_of s x i) (word_of x i).latch → Rings R m.desk (ring_after i s m) (word_of y i).latch
    -- THE RUN QUEUES
    pub queues : (j : ℕ) → j ≢ i → (queue_of x j).values ≡ [] → (queue_of y j).values ≡ []
    pub dry : is_of_pool s i ≡ true → (is_dry p ≡ true → (queue_of x i).values ≡ []) → is_dry q ≡ true → (queue_of y i).values ≡ []
    -- ITSELF
    pub pooled : (is_pooled p ≡ true → is_of_pool s i ≡ true) → is_pooled q ≡ true → is_of_pool s i ≡ true
    pub sleep : (until : Option ℕ) → m.event ≡ Sleep until → (is_abed q ≡ true) × (Rings R d (ring_of s x i) (word_of x i).latch → (word_of y i).latch ≡ true → R)
    pub ends : m.event ≡ End → owes_nothing q ≡ true
    -- a worker that it makes is the next one
    pub born : (t k : ℕ) → m.event ≡ Dedicated t k → k ≡ length s.seats
