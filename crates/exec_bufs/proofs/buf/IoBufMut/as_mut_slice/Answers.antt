use Rattle.std.proofs.{Common.{◌≡◌, ℕ, ◌-◌, List, length, take, drop, refl, sym, ap, ◌∙◌, arith, vec_len}, lemmas.List.take_rest}
use Rattle.exec_bufs.{specs.Buffers.Buffer, proofs.Windows.drop-written}
use Rattle.exec_bufs.proofs.buf.IoBufMut.as_mut_slice.Goals as goal

pub returns : goal.returns
returns c =
    let start = c.self.inside.start in
    let old = c.self.inside.bytes.items in
    let with : List ℕ → Buffer = λ bs. record { bytes = bs; capacity = c.self.inside.end - start } in
    let len : vec_len c.self.inside.bytes ≡ length old = c.self.inside.bytes.ok.0 in
    let rest : take (vec_len c.self.inside.bytes - start) (drop start old) ≡ drop start old = rw len (take_rest old start) in (
      (refl, λ w. rw (← c.self.view_is) (ap with (drop-written start (vec_len c.self.inside.bytes) old w (sym len) (omega (arith, len, c.self.invariant))))),
      record { writes_back = tt; value = rw (← c.self.view_is) (c.slice_mut.ensures.value ∙ rest) },
    )
