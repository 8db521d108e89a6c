-- What the move of an outside caller does as far as waking goes, and the moves that do none of it.
use Rattle.std.{proofs.{Common.{◌≡◌, ℕ, ◌<◌, Bool, true, false, List, [], length, set, get_or, Some, None, sym, ◌∙◌, inl, arith}, lemmas.{Bool.{false≢true, eqb-true, eqb-false, ltb-true, ltb-false}, List.{get_or-set_other, set_past}, Grind.get_or-set_at}}, specs.Prelude.◌⊎◌}
use Rattle.exec_words.specs.{Idle.is_in, declared.word.WaitTarget.WaitTarget as target}
use Rattle.exec_machine.specs.{declared.event.Event.TheVariants.Rouse, Tests.is_awake, World.{Common, seat_of}}
use Rattle.exec_moves.specs.{declared.handing.CallPlace.CallPlace, Call.{CallDesk, Called}, Claim.is_ring, State.{Things, word_of, wake_poll_of, raised}}
use Rattle.exec_rest.specs.Places.{call_owes, call_raises, call_signals}

-- an element after one was set
pub set_at : {A : Type 0} (xs : List A) (i k : ℕ) (y d : A) → (get_or (set xs i y) k d ≡ get_or xs k d) ⊎ ((k ≡ i) × (i < length xs) × (get_or (set xs i y) k d ≡ y))
set_at = grind (arith, get_or-set_other, eqb-false, eqb-true, ltb-true, get_or-set_at, set_past, ltb-false)

-- The move of a caller from d over x.
module _ (s : Common) (d : CallDesk) (x : Things) (m : Called Things) where
  abbrev p : CallPlace
  p = d.place

  abbrev q : CallPlace
  q = m.desk.place

  abbrev y : Things
  y = m.thing

  pub record CallHeeds : Type 0 where
    -- THE IDLE SET: none is put in; taken out is that of who is signalled next
    pub bit_in : (j : ℕ) → is_in y.idle.published j ≡ true → is_in x.idle.published j ≡ true
    pub bit_out : (j : ℕ) → is_in x.idle.published j ≡ true → is_in y.idle.published j ≡ false → call_signals q ≡ Some j
    -- THE GLOBAL QUEUE: who puts something in looks for a worker, until there is none or one was claimed
    pub global : (y.global ≡ [] → ⊥) → (x.global ≡ [] → ⊥) ⊎ (call_owes q ≡ true)
    pub owing : call_owes p ≡ true → (call_owes q ≡ true) ⊎ (((j : ℕ) → is_in y.idle.published j ≡ false) ⊎ ((k : ℕ) × (is_in x.idle.published k ≡ true) × (is_in y.idle.published k ≡ false)))
    -- THE WAKE WORDS
    pub targets : (j : ℕ) → (word_of y j).target ≡ (word_of x j).target
    pub latch_in : (j : ℕ) → (word_of y j).latch ≡ true → (word_of x j).latch ≡ true ⊎ ((call_raises q ≡ Some (record { worker = j; ring = is_ring (word_of x j).target })) ⊎ ((word_of x j).target ≡ target.None))
    pub latch_kept : (j : ℕ) → (word_of x j).latch ≡ true → (word_of y j).latch ≡ true
    pub signalling : (j : ℕ) → call_signals p ≡ Some j → j < length x.words → (word_of y j).latch ≡ true
    pub rouses : (j : ℕ) (ring : Bool) → call_raises p ≡ Some (record { worker = j; ring = ring }) → (is_awake (seat_of s j).rest ≡ true) ⊎ (m.event ≡ Rouse j)
    -- THE RINGS
    pub polls : (j : ℕ) → (wake_poll_of y j ≡ wake_poll_of x j) ⊎ (wake_poll_of y j ≡ raised (wake_poll_of x j))
    pub raising : (j : ℕ) → call_raises p ≡ Some (record { worker = j; ring = true }) → j < length x.wake_polls → wake_poll_of y j ≡ raised (wake_poll_of x j)
    -- THE RUN QUEUES
    pub queues : y.queues ≡ x.queues

-- What parties share is the same as far as waking goes, but for the global queue.
pub record CallAside (x y : Things) : Type 0 where
  pub bits : y.idle.published ≡ x.idle.published
  pub targets : (j : ℕ) → (word_of y j).target ≡ (word_of x j).target
  pub latches : (j : ℕ) → (word_of y j).latch ≡ (word_of x j).latch
  pub polls : y.wake_polls ≡ x.wake_polls
  pub queues : y.queues ≡ x.queues

module _ (s : Common) (d : CallDesk) (x : Things) (m : Called Things) (no_signal : call_signals d.place ≡ None) (no_raise : call_raises d.place ≡ None) (aside : CallAside x m.thing) where
  -- a move of who signals nobody
  pub looking_call : ((m.thing.global ≡ [] → ⊥) → (x.global ≡ [] → ⊥) ⊎ (call_owes m.desk.place ≡ true)) → (call_owes d.place ≡ true → (call_owes m.desk.place ≡ true) ⊎ ((j : ℕ) → is_in m.thing.idle.published j ≡ false)) → CallHeeds s d x m
  looking_call = grind arith

  -- the same of who owes nothing, and leaves the global queue as it is
  pub plain_call : call_owes d.place ≡ false → m.thing.global ≡ x.global → CallHeeds s d x m
  plain_call owes_not same = looking_call (λ some. inl (λ none. some (same ∙ none))) (λ h. absurd (false≢true (sym owes_not ∙ h)))
