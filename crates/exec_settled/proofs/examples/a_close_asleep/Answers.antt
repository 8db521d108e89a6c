use Rattle.std.proofs.{Common.{◌≡◌, ℕ, zero, suc, true, ◌∙◌, refl, sym, ap, arith, unwrap_or}, lemmas.Bool.{true≢false, false≢true}}
use Rattle.exec_outcomes.specs.declared.outcome.Outcome.TheVariants.{Success}
use Rattle.exec_machine.specs.{declared.{config.Configuration.Configuration, state.RequestPhase.TheVariants.{Queued, Resolved}}, Tests.is_resolved, World.request_of}
use Rattle.exec_books.specs.Examples.{its_request, one_send}
use Rattle.exec_rest.specs.Examples.{two_waiting}
use Rattle.exec_settled.{specs.{Examples.{closing_with, two_sends, waits_for, with_two_writes}, Parked.{IsHeldUp, IsParked, NobodySleepsOnWork}}, proofs.TwoAsleep.undisturbed}
use Rattle.exec_settled.proofs.examples.a_close_asleep.Goals as goal

abbrev two : Configuration
two = two_waiting.config

queued : IsHeldUp two (waits_for (record its_request { worker = 1; phase = Queued })) 0 → ⊥
queued (IsHeldUp.WithKernel flying) = false≢true flying
queued (IsHeldUp.WaitsForPlace is full) = true≢false full
queued (IsHeldUp.WaitsForPermit h gated is apart going) = false≢true gated

first : IsHeldUp two with_two_writes 0 → ⊥
first (IsHeldUp.WithKernel flying) = false≢true flying
first (IsHeldUp.WaitsForPlace is full) = false≢true is
first (IsHeldUp.WaitsForPermit h gated is apart going) = apart (ap (λ o. unwrap_or o 0) (sym is))

each_over : (k : ℕ) → is_resolved (request_of (closing_with (record its_request { worker = 1; phase = Resolved Success; released = true })).world.common k).phase ≡ true
each_over zero = refl
each_over (suc k) = refl

over : NobodySleepsOnWork two (closing_with (record its_request { worker = 1; phase = Resolved Success; released = true })) → ⊥
over it =
    let x = closing_with (record its_request { worker = 1; phase = Resolved Success; released = true }) in
    let parked : IsParked two x 1 = record { asleep = refl; left = undisturbed x.world x.things 1 } in
    let some = (it.closing 1 refl parked).some in
    true≢false (sym (each_over some.0) ∙ some.2)

uncancelled : NobodySleepsOnWork two (closing_with (record its_request { worker = 1; cancelled = true })) → ⊥
uncancelled it =
    let x = closing_with (record its_request { worker = 1; cancelled = true }) in
    let parked : IsParked two x 1 = record { asleep = refl; left = undisturbed x.world x.things 1 } in
    true≢false ((it.closing 1 refl parked).requests 0 refl)

place_left : IsHeldUp (record one_send.config { ring = 2 }) two_sends 1 → ⊥
place_left (IsHeldUp.WithKernel flying) = false≢true flying
place_left (IsHeldUp.WaitsForPlace is full) = true≢false full
place_left (IsHeldUp.WaitsForPermit h gated is apart going) = false≢true gated

pub returns : goal.returns
returns c =
    record {
      flying = IsHeldUp.WithKernel refl;
      behind = IsHeldUp.WaitsForPermit 0 refl refl (λ same. omega (arith, same)) refl;
      ring_full = IsHeldUp.WaitsForPlace refl refl;
      place_left = place_left;
      queued = queued;
      first = first;
      over = over;
      uncancelled = uncancelled;
    }
