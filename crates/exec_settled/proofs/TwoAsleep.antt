-- Of the two workers of the worked examples: where each is, by its number.
use Rattle.std.proofs.{Common.{◌≡◌, ℕ, zero, suc, Bool, true, false, None, refl, sym, ◌∙◌}, lemmas.{Bool.false≢true, Option.none-some}}
use Rattle.exec_machine.specs.World.{World}
use Rattle.exec_moves.specs.{declared.{handing.CallPlace.CallPlace, idling.InWordWait.InWordWait, place.Place.Place}, Call.no_call, Plays.{Playing, caller_of}, State.Things}
use Rattle.exec_rest.{specs.{Examples.{rested, two_waiting}, Rested.place_at}, proofs.{First.of_equal, TwoAsleep.{nobody, place}}}
use Rattle.exec_settled.specs.{Given.passes_at, Parked.IsBeingWoken, Permits.hands_to}

-- what is so of both, and of all numbers past them
pub each : (P : ℕ → Type 0) → P 0 → P 1 → ((i : ℕ) → P (suc (suc i))) → (i : ℕ) → P i
each P first second past zero = first
each P first second past (suc zero) = second
each P first second past (suc (suc i)) = past i

-- who is there sleeps on its wake word, and what stands past them begins a turn
pub is_at : {A : Type 0} (f : Place → A) (a : A) → f (Place.WordWait InWordWait.DisarmWord) ≡ a → f Place.BeginTurn ≡ a → (i : ℕ) → f (place_at two_waiting.config rested i) ≡ a
is_at f a here past = each (λ i. f (place_at two_waiting.config rested i) ≡ a) here here (λ i. past)

pub not_at : {T : Type 0} (test : Place → Bool) → test (Place.WordWait InWordWait.DisarmWord) ≡ false → test Place.BeginTurn ≡ false → (i : ℕ) → test (place_at two_waiting.config rested i) ≡ true → T
not_at test here past i h = absurd (false≢true (sym (is_at test false here past i) ∙ h))

-- whatever the world and what they share are, nobody wakes one of them next
module _ (w : World) (th : Things) where
  abbrev x : Playing
  x = record rested { world = w; things = th }

  pub calls : (j : ℕ) → (caller_of x j).place ≡ CallPlace.Nothing
  calls j = of_equal (λ d. d.place ≡ CallPlace.Nothing) 16 j no_call no_call refl refl

  pub undisturbed : (i : ℕ) → IsBeingWoken two_waiting.config x i → ⊥
  undisturbed i (IsBeingWoken.Signalled h) = nobody x place calls (none-some i) (none-some i) (none-some i) h
  undisturbed i (IsBeingWoken.Raised ring h) = nobody x place calls (none-some _) (none-some _) (none-some _) h
  undisturbed i (IsBeingWoken.Passed k (own, gated, holds, h)) = none-some _ (sym (is_at passes_at None refl refl h.0) ∙ h.1)
  undisturbed i (IsBeingWoken.Handed h) = none-some i (sym (is_at hands_to None refl refl h.0) ∙ h.1)
