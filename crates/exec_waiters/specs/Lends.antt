-- What an entry, and a slab of entries, end as, where a `&mut` to a request of theirs is returned.
use Rattle.std.specs.Borrow.{Lends, Fml, RattleType, MutBor}
use Rattle.exec_base.specs.{Slab.{Slab, written}, contracts.slab.Slab.the_row as slab_row, declared.slab.Id.Id}
use Rattle.exec_waiters.specs.{contracts.waiter.{Entry.the_row as entry_row, Waiter.the_row as waiter_row}, declared.waiter.{Entry.{Entry, TheVariants.Pending}, Waiter.Waiter}}

module _ (S F : RattleType) where
  -- once the borrow r ends, the entry is the request as it was last written through r
  abbrev pub lends_waiter : MutBor (Entry S.Denot F.Denot) → MutBor (Waiter S.Denot F.Denot) → Fml
  lends_waiter e r = Lends (entry_row S F) (waiter_row S F) e r Pending

  -- once the borrow r ends, the id has the request as it was last written through r
  abbrev pub lends_waiter_at : MutBor (Slab (Entry S.Denot F.Denot)) → Id → MutBor (Waiter S.Denot F.Denot) → Fml
  lends_waiter_at s id r = Lends (slab_row (entry_row S F)) (waiter_row S F) s r (λ w. written s.now id (Pending w))
