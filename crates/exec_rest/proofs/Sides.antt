-- What a move heeds, in four parts: of the idle set and the global queue, of the wake words, of the rings, and of itself; and what
-- gives each part where the move changes nothing of that.
use Rattle.std.{proofs.{Common.{◌≡◌, ◌≢◌, ℕ, zero, suc, ◌<◌, Bool, true, false, ◌&&◌, ◌||◌, List, ◌∷◌, length, slice_set, slice_index_or, Option, Some, None, refl, sym, ap, ◌∙◌, subst, inl, inr, arith, []}, lemmas.Bool.{true≢false, false≢true}}, specs.Prelude.{◌⊎◌, is_some, not}}
use Rattle.exec_words.specs.{Idle.is_in, declared.word.WaitTarget.WaitTarget as target}
use Rattle.exec_machine.specs.{declared.event.Event.{Event, TheVariants.{Dedicated, End, Reap, Rouse, Sleep}}, Tests.{is_awake, is_empty}, World.{Common, seat_of}, Same.is_none}
use Rattle.exec_moves.specs.{declared.place.Place.Place, Callback.is_of_pool, Claim.is_ring, State.{Desk, Moved, Things, WakePoll, queue_of, word_of, wake_poll_of, raised}, Thing.ring_of}
use Rattle.exec_rest.{specs.Places.{has_looked, is_abed, is_dry, is_pooled, is_published, is_withdrawing, owes, raises, signals, waits_on}, proofs.{Heeds.{Heeds, Rings, landed_after, ring_after}, Continuing.Nearly, Plain.is_mute}}

pub some_none : {T : Type 0} {a : T} → Some a ≡ None → ⊥
some_none h = true≢false (ap (λ o. not (is_none o)) h)

-- neither an end nor a new worker
abbrev pub is_tame : Event → Bool
is_tame End = false
is_tame (Dedicated t k) = false
is_tame _ = true

-- one of a list is another one: it is as it was, or that one
pub put_cases : {A : Type 0} (xs : List A) (i j : ℕ) (a e : A) → (slice_index_or (slice_set xs i a) j e ≡ slice_index_or xs j e) ⊎ ((j ≡ i) × (i < length xs) × (slice_index_or (slice_set xs i a) j e ≡ a))
put_cases [] i j a e = inl refl
put_cases (x ∷ xs) zero zero a e = inr (refl, omega arith, refl)
put_cases (x ∷ xs) zero (suc j) a e = inl refl
put_cases (x ∷ xs) (suc i) zero a e = inl refl
put_cases (x ∷ xs) (suc i) (suc j) a e = grind (arith, put_cases xs i j a e)

-- what happens to a wake poll, with what has landed: what holds of it still does
pub record Keeps (w v : WakePoll) (landed landed' : List ℕ) : Type 0 where
  pub kept : (w.armed && w.kept) ≡ false → (v.armed && v.kept) ≡ false
  pub ended : (is_some w.ended ≡ true → (not (is_empty landed) || w.told) ≡ true) → is_some v.ended ≡ true → (not (is_empty landed') || v.told) ≡ true

pub keeps : (w : WakePoll) (landed : List ℕ) → Keeps w w landed landed
keeps w landed = record { kept = λ h. h; ended = λ h. h }

-- no completion is judged
abbrev pub is_unreaped : Event → Bool
is_unreaped (Reap r n outcome) = false
is_unreaped _ = true

pub unreaped : (s : Common) (i : ℕ) (e : Event) → is_unreaped e ≡ true → landed_after s i e ≡ (seat_of s i).landed
unreaped = grind (arith, false≢true)

-- a mute event is none of those that count
pub mute_tame : (e : Event) → is_mute e ≡ true → is_tame e ≡ true
mute_tame = grind arith

pub mute_unreaped : (e : Event) → is_mute e ≡ true → is_unreaped e ≡ true
mute_unreaped = grind (arith, false≢true)

pub awake : {T : Type 0} (e : Event) → is_mute e ≡ true → (until : Option ℕ) → e ≡ Sleep until → T
awake e mute until is = absurd (true≢false (sym mute ∙ ap is_mute is))

module _ (R : Type 0) (i : ℕ) (s : Common) (d : Desk) (x : Things) (m : Moved Things) where
  abbrev p : Place
  p = d.place

  abbrev q : Place
  q = m.desk.place

  abbrev y : Things
  y = m.thing

  pub record OfIdleSet : Type 0 where
    pub bit_in : (j : ℕ) → is_in y.idle.published j ≡ true → (is_in x.idle.published j ≡ true) ⊎ ((j ≡ i) × (is_pooled p ≡ true) × (is_published q ≡ true) × (has_looked q ≡ false))
    pub bit_out : (j : ℕ) → is_in x.idle.published j ≡ true → is_in y.idle.published j ≡ false → ((j ≡ i) × (is_published q ≡ false)) ⊎ (signals q ≡ Some j)
    pub unpublished : is_of_pool s i ≡ true → is_published p ≡ true → is_in y.idle.published i ≡ true → is_published q ≡ true
    pub published : is_of_pool s i ≡ true → i < length x.idle.published → is_published q ≡ true → (is_published p ≡ true) ⊎ (is_in y.idle.published i ≡ true)
    pub bits : length y.idle.published ≡ length x.idle.published
    pub looked : is_of_pool s i ≡ true → has_looked q ≡ true → (has_looked p ≡ true) ⊎ (x.global ≡ [])
    pub global : (y.global ≡ [] → ⊥) → (x.global ≡ [] → ⊥) ⊎ (owes q ≡ true)
    pub owing : owes p ≡ true → (owes q ≡ true) ⊎ (((j : ℕ) → is_in y.idle.published j ≡ false) ⊎ ((k : ℕ) × (is_in x.idle.published k ≡ true) × (is_in y.idle.published k ≡ false)))

  pub record OfWords : Type 0 where
    pub targets : (j : ℕ) → j ≢ i → (word_of y j).target ≡ (word_of x j).target
    pub waits : i < length x.words → (waits_on p ≢ target.None → (word_of x i).target ≡ waits_on p) → waits_on q ≢ target.None → (word_of y i).target ≡ waits_on q
    pub latch_in : (j : ℕ) → (word_of y j).latch ≡ true → (word_of x j).latch ≡ true ⊎ ((raises q ≡ Some (record { worker = j; ring = is_ring (word_of x j).target })) ⊎ ((word_of x j).target ≡ target.None))
    pub latch_out : (j : ℕ) → (word_of x j).latch ≡ true → (word_of y j).latch ≡ false → (j ≡ i) × (is_published p ≡ true → is_of_pool s i ≡ true → is_withdrawing q ≡ true)
    pub signalling : (j : ℕ) → signals p ≡ Some j → j < length x.words → (word_of y j).latch ≡ true

  pub record OfRings : Type 0 where
    pub rouses : (j : ℕ) (ring : Bool) → raises p ≡ Some (record { worker = j; ring = ring }) → (is_awake (seat_of s j).rest ≡ true) ⊎ (m.event ≡ Rouse j)
    pub polls : (j : ℕ) → j ≢ i → (wake_poll_of y j ≡ wake_poll_of x j) ⊎ (wake_poll_of y j ≡ raised (wake_poll_of x j))
    pub raising : (j : ℕ) → raises p ≡ Some (record { worker = j; ring = true }) → j < length x.wake_polls → wake_poll_of y j ≡ raised (wake_poll_of x j)
    pub rings : i < length x.wake_polls → Rings R d (ring_of s x i) (word_of x i).latch → Rings R m.desk (ring_after i s m) (word_of y i).latch
    pub sleep : (until : Option ℕ) → m.event ≡ Sleep until → (is_abed q ≡ true) × (Rings R d (ring_of s x i) (word_of x i).latch → (word_of y i).latch ≡ true → R)

  -- the run queues stay
  pub record Itself : Type 0 where
    pub queues : (j : ℕ) → queue_of y j ≡ queue_of x j
    pub dry : is_of_pool s i ≡ true → is_dry q ≡ true → is_dry p ≡ true
    pub pooled : (is_pooled p ≡ true → is_of_pool s i ≡ true) → is_pooled q ≡ true → is_of_pool s i ≡ true
    pub tame : is_tame m.event ≡ true

  pub of_all : OfIdleSet → OfWords → OfRings → Itself → Heeds R i s d x m
  of_all = grind arith

  -- WHERE NOTHING OF THAT CHANGES

  pub itself : ((j : ℕ) → queue_of y j ≡ queue_of x j) → Nearly s i q → is_tame m.event ≡ true → Itself
  itself = grind (arith, false≢true)

  -- from a place of no wait to another one
  pub same_bits : Nearly s i p → Nearly s i q → y.idle.published ≡ x.idle.published → ((y.global ≡ [] → ⊥) → (x.global ≡ [] → ⊥) ⊎ (owes q ≡ true)) → (owes p ≡ true → (owes q ≡ true) ⊎ ((j : ℕ) → is_in y.idle.published j ≡ false)) → OfIdleSet
  same_bits = grind arith

  pub no_idles : Nearly s i p → Nearly s i q → owes p ≡ false → y.idle.published ≡ x.idle.published → ((y.global ≡ [] → ⊥) → x.global ≡ [] → ⊥) → OfIdleSet
  no_idles from to owes_not bits global = same_bits from to bits (λ some. inl (global some)) (λ h. absurd (false≢true (sym owes_not ∙ h)))

  pub no_words : waits_on q ≡ target.None → signals p ≡ None → ((j : ℕ) → word_of y j ≡ word_of x j) → OfWords
  no_words = grind arith

  pub near_rings : Nearly s i q → Keeps (wake_poll_of x i) (wake_poll_of y i) (seat_of s i).landed (landed_after s i m.event) → Rings R d (ring_of s x i) (word_of x i).latch → Rings R m.desk (ring_after i s m) (word_of y i).latch
  near_rings = grind arith

  pub still_rings : Nearly s i q → raises p ≡ None → ((j : ℕ) → wake_poll_of y j ≡ wake_poll_of x j) → is_unreaped m.event ≡ true → ((until : Option ℕ) → m.event ≡ Sleep until → ⊥) → OfRings
  still_rings = grind arith
  -- the same desk, at a place that is known

pub at_place : (R : Type 0) (i : ℕ) (s : Common) (d : Desk) (x : Things) (f : Desk → Moved Things) (p : Place) → d.place ≡ p → Heeds R i s (record d { place = p }) x (f (record d { place = p })) → Heeds R i s d x (f d)
at_place R i s d x f p is h = subst (λ (k : Place). Heeds R i s (record d { place = k }) x (f (record d { place = k }))) (sym is) h
