use Rattle.std.proofs.Common.{◌≡◌, ◌≤◌, ◌+◌, ◌-◌, length, true, subst, arith}
use Rattle.exec_request.{specs.{Buffers.{is_sound, batch_of}, declared.buffers.WriteBuffers.{WriteBuffers, TheVariants.Vectored}}, proofs.Moving.{part-fits, part-of-several, part-of-one}}
use Rattle.exec_request.proofs.buffers.WriteBuffers.copy_batch.Goals as goal

pub copy_chunks-requires : goal.copy_chunks-requires
copy_chunks-requires c =
    let v = c.in-Vectored in
    let sound : is_sound (Vectored v.bufs v.chunk v.offset v.remaining) ≡ true = subst (λ (w : WriteBuffers). is_sound w ≡ true) v.is c.requires.sound in
    let fits : c.args.at + length c.args.into.now ≤ batch_of (Vectored v.bufs v.chunk v.offset v.remaining) = subst (λ (w : WriteBuffers). c.args.at + length c.args.into.now ≤ batch_of w) v.is c.requires.within in
    part-fits v.bufs v.chunk v.offset v.remaining c.args.at (length c.args.into.now) sound fits

pub returns-in-Single : goal.returns-in-Single
returns-in-Single c = grind (arith, part-of-one)

pub returns-in-Vectored : goal.returns-in-Vectored
returns-in-Vectored c = grind (arith, part-of-several)
