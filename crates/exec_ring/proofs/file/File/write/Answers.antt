use Rattle.std.proofs.{Common.{◌+◌, ◌≤◌, arith}, lemmas.Grind.common_steps}
use Rattle.exec_request.specs.Bytes.{window_bytes}
use Rattle.exec_ring.{specs.Files.byte_at, proofs.Stretches.byte_over-next}
use Rattle.exec_ring.proofs.file.File.write.Goals as goal

pub loop-at-preserved : goal.loop-at-preserved
loop-at-preserved c =
    let bs = window_bytes c.args.request.now in
    let at = c.loop-at.at in
    let here = c.in_page-here.result in
    let within : at + here ≤ c.args.count = omega (arith, c.in_page-here.ensures, c.loop-at-test.true) in
    record {
      within = within;
      bytes = byte_over-next c.args.offset at here bs (byte_at c.args.self.now) (byte_at c.loop-at.self) (byte_at c.write_in_page.new.self) c.loop-at.invariant.bytes c.write_in_page.ensures.bytes;
      pages = λ n there. c.write_in_page.ensures.pages n (c.loop-at.invariant.pages n there);
    }

pub returns-clause-bytes : goal.returns-clause-bytes
returns-clause-bytes c = grind (arith, common_steps)
