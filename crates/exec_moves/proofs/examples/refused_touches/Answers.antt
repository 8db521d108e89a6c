use Rattle.std.proofs.{Common.{◌==◌, refl, sym, ap}, lemmas.Bool.true≢false}
use Rattle.exec_words.specs.Idle.{is_in}
use Rattle.exec_moves.specs.Claim.{is_ring}
use Rattle.exec_moves.proofs.examples.refused_touches.Goals as goal

pub returns : goal.returns
returns c =
    record {
      publishes_and_counts = λ it. true≢false (ap (λ n. n == 1) (it.count refl));
      leaves_and_clears = λ it. true≢false (sym (ap (λ set. is_in set 0) (it.published refl)));
      sends_and_latches = λ it. true≢false (it.latches 0 refl);
      sends_and_arms = λ it. true≢false (ap is_ring (it.targets 0 refl));
    }
