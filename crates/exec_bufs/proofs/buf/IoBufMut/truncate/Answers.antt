use Rattle.std.proofs.{Common.{ℕ, ◌-◌, List, ap}, lemmas.List.drop-take}
use Rattle.exec_bufs.specs.Buffers.{Buffer}
use Rattle.exec_bufs.proofs.buf.IoBufMut.truncate.Goals as goal

pub returns-then-count-len : goal.returns-then-count-len
returns-then-count-len c =
    let with : List ℕ → Buffer = λ bs. record { bytes = bs; capacity = c.self.inside.end - c.self.inside.start } in
    rw (← c.self.view_is, c.truncate.ensures.items) (ap with (drop-take c.self.inside.start c.args.count c.self.inside.bytes.items))
