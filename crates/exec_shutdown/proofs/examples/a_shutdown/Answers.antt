use Rattle.std.proofs.{Common.{◌≡◌, ℕ, zero, suc, false, refl, sym, ◌∙◌}, lemmas.Bool.{true≢false, false≢true}}
use Rattle.exec_outcomes.specs.declared.outcome.Outcome.TheVariants.{Success}
use Rattle.exec_machine.specs.{Callers.is_held, Tests.{is_closing, is_flying}, World.{request_of, seat_of}, declared.state.RequestPhase.TheVariants.Resolved}
use Rattle.exec_books.specs.Examples.{its_request}
use Rattle.exec_rest.specs.Examples.{rested}
use Rattle.exec_settled.{specs.Examples.closing_with, proofs.TwoAsleep.each}
use Rattle.exec_shutdown.specs.Shutdown.{ShutsDown}
use Rattle.exec_shutdown.proofs.examples.a_shutdown.Goals as goal

none_closing : (i : ℕ) → is_closing (seat_of rested.world.common i).phase ≡ false
none_closing = each (λ i. is_closing (seat_of rested.world.common i).phase ≡ false) refl refl (λ i. refl)

opened : ShutsDown rested.world
opened =
    record {
      passes = λ still. each (λ i. is_held rested.world.common (seat_of rested.world.common i) ≡ false) refl refl (λ i. refl);
      kernel = λ still i closes. absurd (false≢true (sym (none_closing i) ∙ closes));
    }

waits : ShutsDown (closing_with (record its_request { worker = 1 })).world
waits =
    let w = (closing_with (record its_request { worker = 1 })).world in
    record {
      passes = λ still. each (λ i. is_held w.common (seat_of w.common i) ≡ false) refl refl (λ i. refl);
      kernel = λ still i closes. (0, refl);
    }

none_flies : (k : ℕ) → is_flying (request_of (closing_with (record its_request { worker = 1; phase = Resolved Success })).world.common k).phase ≡ false
none_flies zero = refl
none_flies (suc k) = refl

stuck : ShutsDown (closing_with (record its_request { worker = 1; phase = Resolved Success })).world → ⊥
stuck it = let some = it.kernel refl 1 refl in true≢false (sym some.1 ∙ none_flies some.0)

pub returns : goal.returns
returns c = record { opened = opened; waits = waits; stuck = stuck; held = λ it. true≢false (it.passes refl 0); alone = refl; awake = refl }
