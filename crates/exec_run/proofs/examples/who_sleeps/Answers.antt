use Rattle.std.proofs.Common.{◌≡◌, zero, suc, refl, sym, ◌∙◌}
use Rattle.exec_run.{proofs.Names.{false≢true, true≢false, next_due, rest_until, its_seat, sending}, specs.Log.NoneOversleeps}
use Rattle.exec_machine.specs.declared.state.Rest.TheVariants as rest
use Rattle.exec_run.proofs.examples.who_sleeps.Goals as goal

-- two that aren't computed yet would be compared step by step
due : its_seat.rest ≡ rest_until (next_due sending.common 0)
due = let until : its_seat.rest ≡ rest.Until 10000000 = refl in let next : rest_until (next_due sending.common 0) ≡ rest.Until 10000000 = refl in until ∙ sym next

until : NoneOversleeps sending
until zero asleep = (due, refl)
until (suc i) asleep = absurd (true≢false asleep)

pub returns : goal.returns
returns c =
    record {
      until = until;
      for_ever = λ all. absurd (let until = (all 0 refl).0 in cc);
      on = λ all. false≢true (all 0 refl).1;
    }
