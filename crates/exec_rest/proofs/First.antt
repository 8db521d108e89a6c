-- So it is in the first state: all workers begin, nobody is published, and nothing is queued.
use Rattle.std.{proofs.{Common.{◌≡◌, ℕ, zero, suc, Bool, true, false, get_or, replicate, is_some, refl, sym, ap, ◌∙◌}, lemmas.Bool.{true≢false, false≢true}}, specs.Prelude.not}
use Rattle.exec_machine.specs.{declared.config.Configuration.Configuration, Progress.Plan, Tasks.new_seat, Tests.is_awake, World.{Seat, no_seat}}
use Rattle.exec_moves.specs.{declared.place.Place.Place, Call.no_call, Plays.{caller_of, first_desk, first_desks, first_playing}, State.{Desk, no_wake_poll}}
use Rattle.exec_rest.specs.{Places.{asked_for_poll, is_dry, is_in_call, is_pooled, is_published, is_to_enter, is_to_sleep_on_ring, owes_nothing, waits_on}, Rested.{IsRestful, has_bit, place_at, poll_at, sleeps}}

-- what so many equal ones and what stands past them all are
pub of_equal : {X : Type 0} (P : X → Type 0) (n i : ℕ) (a d : X) → P a → P d → P (get_or (replicate n a) i d)
of_equal P zero i a d here past = past
of_equal P (suc n) zero a d here past = here
of_equal P (suc n) (suc i) a d here past = of_equal P n i a d here past

begins : (c : Configuration) (n from i : ℕ) (d : Desk) → d.place ≡ Place.BeginTurn → (get_or (first_desks c n from) i d).place ≡ Place.BeginTurn
begins c zero from i d past = past
begins c (suc n) from zero d past = refl
begins c (suc n) from (suc i) d past = begins c n (suc from) i d past

module _ (p : Plan) where
  place_first : (i : ℕ) → place_at p.config (first_playing p) i ≡ Place.BeginTurn
  place_first i = begins p.config p.config.workers 0 i (first_desk p.config i) refl

  pub awake_first : (i : ℕ) → sleeps p.config (first_playing p) i ≡ false
  awake_first i = of_equal (λ (seat : Seat). not (is_awake seat.rest) ≡ false) p.config.workers i (new_seat true) no_seat refl refl

  bit_first : (i : ℕ) → has_bit p.config (first_playing p) i ≡ false
  bit_first i = of_equal (λ b. b ≡ false) 64 i false false refl refl

  poll_first : (i : ℕ) → poll_at p.config (first_playing p) i ≡ no_wake_poll
  poll_first i = of_equal (λ w. w ≡ no_wake_poll) p.config.workers i no_wake_poll no_wake_poll refl refl

  call_first : (j : ℕ) → is_in_call (caller_of (first_playing p) j).place ≡ false
  call_first j = of_equal (λ d. is_in_call d.place ≡ false) 16 j no_call no_call refl refl

  -- what doesn't hold of a worker that begins
  pub not_there : {T : Type 0} (test : Place → Bool) → test Place.BeginTurn ≡ false → (i : ℕ) → test (place_at p.config (first_playing p) i) ≡ true → T
  not_there test not_so i h = absurd (false≢true (sym not_so ∙ sym (ap test (place_first i)) ∙ h))

  pub first_restful : IsRestful p.config (first_playing p)
  first_restful =
      record {
        abed = λ i h. absurd (true≢false (sym h ∙ awake_first i));
        armed = λ i waits. absurd (waits (ap waits_on (place_first i)));
        rung = λ i h latched. absurd (true≢false (sym h ∙ awake_first i));
        entering = λ i h latched. not_there is_to_enter refl i h;
        sleeping = λ i h latched. not_there is_to_sleep_on_ring refl i h;
        asked = λ i h. not_there asked_for_poll refl i h;
        polled = λ i h. not_there is_to_sleep_on_ring refl i h;
        kept = λ i. rw (poll_first i) refl;
        ended = λ i h. absurd (false≢true (sym (ap (λ w. is_some w.ended) (poll_first i)) ∙ h));
        pooled = λ i h. not_there is_pooled refl i h;
        bits = λ i h. absurd (true≢false (sym h ∙ bit_first i));
        answered = λ i pool h out. not_there is_published refl i h;
        covered = λ some. absurd (some refl);
        dried = λ i pool h. not_there is_dry refl i h;
        over = λ i h. ap owes_nothing (place_first i);
        calls = λ j h. absurd (true≢false (sym h ∙ call_first j));
      }
