use Rattle.std.proofs.{Common.{[], length, ap, ◌∙◌, unwrap_or}, lemmas.Option.unwrap_or-slice_get}
use Rattle.exec_request.proofs.bytes.chunk_len.Goals as goal

pub returns-in-None : goal.returns-in-None
returns-in-None c = ap (λ o. length (unwrap_or o [])) c.in-None.ensures.chunk ∙ ap length (unwrap_or-slice_get c.args.bufs.now c.args.at [])
