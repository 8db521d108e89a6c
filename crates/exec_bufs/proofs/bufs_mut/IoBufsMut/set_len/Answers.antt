use Rattle.std.proofs.Common.{◌≡◌, ◌++◌, ◌≤◌, ℕ, List, length, take, drop, ap, sym, ◌∙◌, arith}
use Rattle.exec_bufs.{specs.Buffers.{Buffer, filled, room, spread}, proofs.{Windows.refilled_is, Poured.{filled-spread, room-spread, length-spread}}}
use Rattle.exec_bufs.proofs.bufs_mut.IoBufsMut.set_len.Goals as goal

-- the chunks after the call, as the vector that was lent has them
spread_is : (n len : ℕ) (new lent old : List Buffer) → new ≡ spread n lent → lent ≡ old → len ≡ length old → take len (new ++ drop (length new) old) ≡ spread n old
spread_is n len new lent old made same as_long =
    let is : new ≡ spread n old = made ∙ ap (spread n) same in
    let long : length new ≡ len = ap length is ∙ length-spread n old ∙ sym as_long in
    refilled_is len new old long (sym as_long) ∙ is

-- how many bytes there are then
filled_is : (n : ℕ) (old : List Buffer) → n ≤ room old → filled (spread n old) ≡ n
filled_is n old within = omega (arith, filled-spread n old, within)

pub invariant_of-self : goal.invariant_of-self
invariant_of-self c =
    let old = c.self.inside.chunks.items in
    let within : c.args.count ≤ room old = rw (c.self.view_is) c.requires in
    sym (ap filled (spread_is c.args.count c.self.inside.chunks.len c.set_lens.new.chunks c.deref_mut.result.now old c.set_lens.ensures c.deref_mut.ensures.value c.self.inside.chunks.ok.0) ∙ filled_is c.args.count old within)

pub returns-clause-sum : goal.returns-clause-sum
returns-clause-sum c =
    let old = c.self.inside.chunks.items in
    let within : c.args.count ≤ room old = rw (c.self.view_is) c.requires in
    ap filled (spread_is c.args.count c.self.inside.chunks.len c.set_lens.new.chunks c.deref_mut.result.now old c.set_lens.ensures c.deref_mut.ensures.value c.self.inside.chunks.ok.0) ∙ filled_is c.args.count old within

pub returns-clause-room : goal.returns-clause-room
returns-clause-room c =
    let old = c.self.inside.chunks.items in
    ap room (spread_is c.args.count c.self.inside.chunks.len c.set_lens.new.chunks c.deref_mut.result.now old c.set_lens.ensures c.deref_mut.ensures.value c.self.inside.chunks.ok.0) ∙ room-spread c.args.count old ∙ ap room c.self.view_is
