use Rattle.std.proofs.Common.{arith}
use Rattle.exec_bufs.proofs.Written.{with_bytes_is}
use Rattle.exec_request.proofs.Moving.{filled}
use Rattle.exec_request.proofs.bytes.fill.Goals as goal

pub returns : goal.returns
returns c = grind (arith, with_bytes_is, filled)
