use Rattle.std.proofs.{Common.{◌≡◌, Bool, true, false, refl, sym, ap, ◌∙◌, inl, inr}, lemmas.Bool.false≢true}
use Rattle.exec_moves.specs.declared.place.Place.{Place}
use Rattle.exec_rest.specs.{Examples.two_waiting, Rested.place_at}
use Rattle.exec_settled.{specs.{Awaited.IsAwaited, Examples.{sleeps_here, waits_elsewhere, waits_here}}, proofs.TwoAsleep.each}
use Rattle.exec_settled.proofs.examples.a_wait_for_what_came.Goals as goal

abbrev is_busy : Place → Bool
is_busy (Place.Callbacks p n) = true
is_busy (Place.Poll t p) = true
is_busy _ = false

here : IsAwaited two_waiting.config waits_here → ⊥
here it = elim (it.woken 1 0 (record { going = refl; waits = refl }) refl refl) [ inl runs ↦ false≢true runs | inr wakes ↦ false≢true wakes ]

elsewhere : IsAwaited two_waiting.config waits_elsewhere → ⊥
elsewhere it = elim (it.answered 1 0 (record { going = refl; waits = refl }) refl refl) [
  | inl results ↦ false≢true results
  | inr (sent, inl wakes) ↦ false≢true (ap is_busy wakes.1)
  | inr (sent, inr (inl ready)) ↦ false≢true ready
  | inr (sent, inr (inr looks)) ↦ false≢true (sym (each (λ j. is_busy (place_at two_waiting.config waits_elsewhere j) ≡ false) refl refl (λ j. refl) looks.0) ∙ ap is_busy looks.1)
]

asleep : IsAwaited two_waiting.config sleeps_here → ⊥
asleep it = elim (it.fired 1 0 (record { going = refl; waits = refl }) refl refl) [ inl runs ↦ false≢true runs | inr wakes ↦ false≢true wakes ]

pub returns : goal.returns
returns c = record { here = here; elsewhere = elsewhere; asleep = asleep; unbooked = λ it. false≢true (it.here 1 0 (record { going = refl; waits = refl }) refl refl) }
