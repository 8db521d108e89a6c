use Rattle.std.{proofs.{Common.{◌≡◌, [], None, length, get_or, ap, sym, ◌∙◌, arith, unwrap_or}, lemmas.Option.{get_or_from_slice_get, unwrap_or-slice_get}}, specs.{Option.option_copied, List.slice_get}}
use Rattle.exec_request.proofs.Moving.{copied}
use Rattle.exec_request.proofs.bytes.copy_chunk.Goals as goal

pub returns-in_default-clause-count : goal.returns-in_default-clause-count
returns-in_default-clause-count c =
    let none : slice_get c.args.bufs.now c.args.at ≡ None = sym c.chunk_at.ensures.chunk ∙ ap option_copied c.in_default.is in
    let empty : length (get_or c.args.bufs.now c.args.at []) ≡ 0 = sym (ap length (unwrap_or-slice_get c.args.bufs.now c.args.at [])) ∙ ap (λ o. length (unwrap_or o [])) none in
    omega (arith, empty)

pub returns-clause-count : goal.returns-clause-count
returns-clause-count c = grind (arith, get_or_from_slice_get)

pub returns-clause-into : goal.returns-clause-into
returns-clause-into c = grind (arith, get_or_from_slice_get, copied)
