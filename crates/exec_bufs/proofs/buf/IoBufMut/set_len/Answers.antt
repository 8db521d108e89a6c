use Rattle.std.proofs.Common.{◌≡◌, ℕ, ◌+◌, ◌-◌, ◌≤◌, List, ◌++◌, length, take, replicate, ap, arith, ◌∙◌, vec_capacity}
use Rattle.exec_bufs.{specs.Buffers.Buffer, proofs.Windows.{drop-resized, if_ok}}
use Rattle.exec_bufs.proofs.buf.IoBufMut.set_len.Goals as goal

pub returns : goal.returns
returns c =
    let start = c.self.inside.start in
    let old = c.self.inside.bytes.items in
    let with : List ℕ → Buffer = λ bs. record { bytes = bs; capacity = c.self.inside.end - start } in
    let len : c.self.inside.bytes.len ≡ length old = c.self.inside.bytes.ok.0 in
    let capacity : c.self.inside.end - start ≡ c.args.self.now.capacity = ap (λ (b : Buffer). b.capacity) c.self.view_is in
    let room : start + c.args.count ≤ vec_capacity c.self.inside.bytes = omega (arith, capacity, c.requires, c.self.invariant) in
    let items : c.resize.new.self.items ≡ take (start + c.args.count) old ++ replicate (start + c.args.count - length old) 0 =
    rw (← len) (c.resize.ensures.items ∙ if_ok c.resize.result _ _ (c.resize.ensures.succeeds room)) in
    rw (← c.self.view_is, items) (ap with (drop-resized start c.args.count old (omega (arith, len, c.self.invariant))))
