-- A worker whose sleepers are all gone has none that is asleep but those that it let go as it closed.
use Rattle.std.proofs.Common.{◌≡◌, ℕ, List, IsSome, true, false, Bool, refl, arith, slice_get, Some}
use Rattle.exec_base.{specs.{Slab.{Slab, live_count, value_at}, declared.slab.{Id.Id, Slot.TheVariants.Retired}}, proofs.Slots.{IsLiveAt-from_value, count-set, live_within}}
use Rattle.exec_machine.specs.Tests.{is_asleep}
use Rattle.exec_time.specs.declared.timers.Sleeper.{Sleeper as Sleeping}
use Rattle.exec_parts.specs.declared.parts.{mail.Reply.Reply, names.Names.Names, sleeping.SleeperRecord.SleeperRecord}
use Rattle.exec_invariants.specs.Due.{AreAsleep}

pub none_live : {T : Type 0} (s : Slab T) (id : Id) → live_count s ≡ 0 → IsSome (value_at s id) → ⊥
none_live s id none some =
    let live = IsLiveAt-from_value s.slots id.index id.generation s.first some in
    let moved = count-set s.slots id.index Retired (live_within s.slots id.index id.generation live.value live.is) in
    omega (arith, none, rw live.is at moved)

pub none_asleep : {closing : Bool} (i : ℕ) (n : Names) (zs : Slab (Sleeping Reply)) (sleepers : List SleeperRecord) → AreAsleep closing i n zs sleepers → live_count zs ≡ 0 → (k : ℕ) (z : SleeperRecord) → slice_get sleepers k ≡ Some z → is_asleep i z.shown ≡ true → z.closed ≡ true
none_asleep i n zs sleepers asleep none k z there is = by z.closed refl
  where
    by : (b : Bool) → z.closed ≡ b → b ≡ true
    by true closed = refl
    by false closed = absurd (none_live zs z.id.0 none (asleep.there k z there is closed))
