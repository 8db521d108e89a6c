use Rattle.std.proofs.Common.{◌≡◌, ◌++◌, ℕ, List, length, take, drop, ap, sym, ◌∙◌}
use Rattle.exec_bufs.{specs.Buffers.{Buffer, filled, room, cuts}, proofs.{Windows.refilled_is, Poured.{filled-cuts, room-cuts, length-cuts}}}
use Rattle.exec_bufs.proofs.bufs_mut.IoBufsMut.copy_from_slice.Goals as goal

-- the cuts after the call, as the vector that was lent has them
cuts_are : (len : ℕ) (new lent old : List Buffer) → cuts new ≡ cuts lent → lent ≡ old → len ≡ length old → cuts (take len (new ++ drop (length new) old)) ≡ cuts old
cuts_are len new lent old kept same as_long =
    let cut : cuts new ≡ cuts old = kept ∙ ap cuts same in
    let long : length new ≡ len = sym (length-cuts new) ∙ ap length cut ∙ length-cuts old ∙ sym as_long in
    ap cuts (refilled_is len new old long (sym as_long)) ∙ cut

pub invariant_of-self : goal.invariant_of-self
invariant_of-self c =
    c.self.invariant ∙ sym (filled-cuts _ c.self.inside.chunks.items (cuts_are c.self.inside.chunks.len c.pour.new.chunks c.deref_mut.result.now c.self.inside.chunks.items c.pour.ensures.cuts c.deref_mut.ensures.value c.self.inside.chunks.ok.0))

pub returns-clause-sum : goal.returns-clause-sum
returns-clause-sum c =
    filled-cuts _ c.self.inside.chunks.items (cuts_are c.self.inside.chunks.len c.pour.new.chunks c.deref_mut.result.now c.self.inside.chunks.items c.pour.ensures.cuts c.deref_mut.ensures.value c.self.inside.chunks.ok.0) ∙ ap filled c.self.view_is

pub returns-clause-room : goal.returns-clause-room
returns-clause-room c =
    room-cuts _ c.self.inside.chunks.items (cuts_are c.self.inside.chunks.len c.pour.new.chunks c.deref_mut.result.now c.self.inside.chunks.items c.pour.ensures.cuts c.deref_mut.ensures.value c.self.inside.chunks.ok.0) ∙ ap room c.self.view_is
