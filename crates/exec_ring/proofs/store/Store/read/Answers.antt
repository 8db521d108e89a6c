use Rattle.std.proofs.Common.{◌+◌, ap, sym, arith}
use Rattle.exec_ring.{specs.Stores.{byte_of, store_byte}, proofs.Stretches.{resized-none, values_from-zeros}}
use Rattle.exec_ring.proofs.store.Store.read.Goals as goal

pub returns-in-None : goal.returns-in-None
returns-in-None c =
    let zeros = values_from-zeros (store_byte c.args.self.now c.args.file) c.args.offset c.args.count (λ i below. ap (λ f. byte_of f (c.args.offset + i)) (sym c.in-None.ensures.value)) in
    grind (arith, zeros, resized-none)
