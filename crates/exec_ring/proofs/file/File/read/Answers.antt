use Rattle.std.proofs.Common.{◌+◌, ◌∙◌, ap, arith}
use Rattle.exec_request.specs.Bytes.{filled_at, filled_of, lent_of}
use Rattle.exec_ring.{specs.{Fillings.Fills, Files.{byte_at, values_from}}, proofs.Stretches.{Fills-next, values_from-append, length-values_from}}
use Rattle.exec_ring.proofs.file.File.read.Goals as goal

pub loop-at-preserved : goal.loop-at-preserved
loop-at-preserved c =
    let value = byte_at c.args.self.now in
    let o = c.args.offset in
    let at = c.loop-at.at in
    let here = c.in_page-here.result in
    let filled = c.fill_window-in-loop-at.ensures in
    let more : Fills c.args.request.now c.fill_window-in-loop-at.new.self _ =
    Fills-next c.args.request.now c.loop-at.request c.fill_window-in-loop-at.new.self at (values_from value o at) (values_from value (o + at) here)
    (length-values_from value o at) c.loop-at.invariant.filled
    (filled.buffer ∙ ap (λ bytes. filled_at (filled_of c.loop-at.request + at) bytes (lent_of c.loop-at.request)) c.bytes_in_page-in-loop-at.ensures.bytes)
    filled.kept filled.place filled.cursor filled.window in
    record {
      within = omega (arith, c.in_page-here.ensures, c.loop-at-test.true);
      filled = rw (values_from-append value o at here) more;
    }
