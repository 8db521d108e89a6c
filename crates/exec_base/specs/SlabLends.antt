-- What a slab ends as, where a `&mut` to one of its values is returned.
use Rattle.std.specs.{Prelude.Option, Borrow.{Lends, LendsIf, Fml, RattleType, MutBor}}
use Rattle.exec_base.specs.{declared.slab.Id.Id, Slab.{Slab, written}, contracts.slab.Slab.the_row}

module _ (T : RattleType) (s : MutBor (Slab T.Denot)) (id : Id) where
  -- once the borrow r ends, the id has the last value written through r
  abbrev pub lends_value : MutBor T.Denot → Fml
  lends_value r = Lends (the_row T) T s r (written s.now id)

  -- the same where r is a reference, and at `None` the slab stays as it is
  abbrev pub lends_if : Option (MutBor T.Denot) → Fml
  lends_if r = LendsIf (the_row T) T s r (written s.now id) s.now
