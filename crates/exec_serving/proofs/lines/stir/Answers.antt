use Rattle.std.proofs.{Common.{refl, ap, ◌∙◌, slice_set}, lemmas.Option.get_or_from_slice_get}
use Rattle.exec_parts.specs.Records.{roused}
use Rattle.exec_serving.proofs.Resting.{stir_kept, stir_whole}
use Rattle.exec_serving.proofs.lines.stir.Goals as goal

pub returns-clause-chair : goal.returns-clause-chair
returns-clause-chair g c = λ chair there.
    ap (λ x. slice_set c.args.shared.now.seats.items c.args.worker (roused x)) (c.index_mut.ensures.value ∙ get_or_from_slice_get c.args.shared.now.seats.items c.args.worker chair c.index_mut.result.now there)

pub returns-clause-sound : goal.returns-clause-sound
returns-clause-sound g c = λ w sound. stir_kept w c.args.shared.now _ c.args.worker c.requires.there (returns-clause-chair g c) refl sound

pub returns-clause-whole : goal.returns-clause-whole
returns-clause-whole g c = λ x whole. stir_whole x c.args.shared.now _ c.args.worker c.requires.there (returns-clause-chair g c) refl whole
