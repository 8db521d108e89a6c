use Rattle.std.proofs.Common.{◌≡◌, zero, suc, true, refl}
use Rattle.exec_machine.specs.declared.state.Request.{Request}
use Rattle.exec_run.{proofs.Names.{false≢true, Success, Resolved, is_resolved, its_own, its_request, with_own}, specs.Log.KeepOwned}
use Rattle.exec_run.proofs.examples.what_requests_own.Goals as goal

alone : (r : Request) → (r.released ≡ true → is_resolved r.phase ≡ true) → KeepOwned (with_own its_own r)
alone r keeps zero gone = keeps gone
alone r keeps (suc k) gone = refl

pub returns : goal.returns
returns c =
    record {
      flying = alone its_request (λ gone. absurd (false≢true gone));
      over = alone (record its_request { phase = Resolved Success; released = true }) (λ gone. refl);
      let_go = λ all. false≢true (all 0 refl);
      staged = λ all. false≢true (all 0 refl);
    }
