-- A closing worker lets go of a sleeper: its slot is free, and what holds again of its sleepers, their names and slots.
use Rattle.std.proofs.{Common.{◌≡◌, ◌≢◌, ℕ, ◌+◌, ◌^◌, ◌<◌, Bool, true, false, List, length, Some, None, IsSome, refl, sym, ap, subst, ◌∙◌, arith, slice_get, slice_set, slice_index_or}, lemmas.{Bool.{false≢true}, List.length-set}}
use Rattle.exec_base.{specs.{Slab.{IsPast, Slab, freed, is_live, live_count, removed, value_at, Updates}, declared.slab.{Id.Id, Slot.{Slot, TheVariants.{Live, Vacant, Retired}}}}, proofs.Slots.{Changed-set, IsLiveAt-from_value, count-set, live_within, past-free, was_live}}
use Rattle.exec_time.specs.declared.timers.Sleeper.{Sleeper as Sleeping}
use Rattle.exec_driver.specs.Driving.{Driving}
use Rattle.exec_machine.specs.Tests.{is_asleep}
use Rattle.exec_parts.{specs.{declared.parts.{mail.Reply.Reply, names.Names.Names, record.Record.Record, sleeping.SleeperRecord.SleeperRecord}, Calls.sleeper_closed, Records.number_in}, proofs.Facts.{by_name, by_number, same_Some, set_elsewhere, set_there}}
use Rattle.exec_invariants.{specs.{Due.AreAsleep, Names.IsNamed}, proofs.{FiringNames.{naps_set, removed_past}, FiringSlots.{OneBed, value_of_slot}}}

-- THE SLAB

dead : (g : ℕ) → is_live {T = Sleeping Reply} (freed g) ≡ false
dead = grind arith

pub one_less : (zs zs' : Slab (Sleeping Reply)) (id : Id) (it : Sleeping Reply) → value_at zs id ≡ Some it → zs' ≡ removed zs id → live_count zs' + 1 ≡ live_count zs
one_less zs zs' id it at is =
    let live = IsLiveAt-from_value zs.slots id.index id.generation zs.first (rw at refl) in
    let moved = count-set zs.slots id.index (freed id.generation) (live_within zs.slots id.index id.generation live.value live.is) in
    let counted : live_count (removed zs id) + 1 ≡ live_count zs = omega (arith, rw (live.is, dead id.generation) at moved) in
    ap (λ x. live_count x + 1) is ∙ counted

past_back : (zs : Slab (Sleeping Reply)) (id : Id) → IsSome (value_at zs id) → id.generation < 2 ^ 64 → (other : Id) → IsPast (removed zs id) other → IsPast zs other
past_back zs id some small other past =
    let was = was_live zs id some in
    let live = IsLiveAt-from_value zs.slots id.index id.generation zs.first some in
    (past-free zs (removed zs id) id was.0 small (Changed-set zs (removed zs id) id.index (freed id.generation) refl refl (live_within zs.slots id.index id.generation live.value live.is)) was.1 other).0 past

-- one that is there was named
past_there : (zs : Slab (Sleeping Reply)) (id : Id) → IsSome (value_at zs id) → IsPast zs id
past_there zs id some = let was = was_live zs id some in rw was.1 (omega arith)

as_long : (zs : Slab (Sleeping Reply)) (id : Id) → length (removed zs id).slots ≡ length zs.slots
as_long zs id = length-set zs.slots id.index (freed id.generation)

module _ {closing : Bool} (i : ℕ) (n : Names) (d : Driving Reply Reply) (zs zs' : Slab (Sleeping Reply)) (rs : List Record) (ss : List SleeperRecord) (id : Id) (it : Sleeping Reply) (z : SleeperRecord) (named : IsNamed i n d zs rs ss) (asleep : AreAsleep closing i n zs ss)
    (was : value_at zs id ≡ Some it) (is : zs' ≡ removed zs id) (gone : Updates zs zs' id None) (there : slice_get ss (number_in n.timers.items id) ≡ Some z) (short : length ss < 2 ^ 63) where
  some : IsSome (value_at zs id)
  some = rw was refl

  -- THE RECORD

  pub record Closable : Type 0 where
    pub mine : z.shown.worker ≡ i
    pub name : z.id.0 ≡ id
    pub unfired : z.shown.fired ≡ false
    pub unremoved : z.shown.removed ≡ false
    pub unclosed : z.closed ≡ false
    pub sleeps : is_asleep i z.shown ≡ true

  pub closable : Closable
  closable = grind arith

  -- no two slots have one number
  pub apart : (other : Id) → IsSome (value_at zs other) → other ≢ id → number_in n.timers.items id ≡ number_in n.timers.items other → ⊥
  apart = grind arith

  small : id.generation < 2 ^ 64
  small = let below = asleep.counted id (past_there zs id some) in omega (arith, below, short)

  pub one_bed : OneBed n.timers.items zs id
  one_bed =
      record {
        e = it;
        live = was;
        low = (let below = asleep.counted id (past_there zs id some) in omega (arith, below, short));
        alone = λ j x at live same. alone j x at live same;
      }
    where
      alone : (j : ℕ) (x : Slot (Sleeping Reply)) → slice_get zs.slots j ≡ Some x → is_live x ≡ true → slice_index_or n.timers.items j 0 ≡ number_in n.timers.items id → j ≡ id.index
      alone j (Live g y) at live same =
          by_name (record { index = j; generation = g }) id
          (λ differs. absurd (apart (record { index = j; generation = g }) (rw (value_of_slot zs j g y at) refl) differs (sym same)))
          (λ e. ap (λ (x : Id). x.index) e)
      alone j (Vacant g) at live same = absurd (false≢true live)
      alone j Retired at live same = absurd (false≢true live)

  -- WHAT STANDS THEN

  abbrev k : ℕ
  k = number_in n.timers.items id

  differs_now : (other : Id) → IsSome (value_at zs' other) → other ≢ id
  differs_now = grind arith

  before : (other : Id) → IsSome (value_at zs' other) → IsSome (value_at zs other)
  before other live = subst IsSome (gone.others other (differs_now other live)) live

  elsewhere : (other : Id) → IsSome (value_at zs' other) → slice_get (slice_set ss (number_in n.timers.items id) (sleeper_closed z)) (number_in n.timers.items other) ≡ slice_get ss (number_in n.timers.items other)
  elsewhere other live = set_elsewhere ss k (number_in n.timers.items other) (sleeper_closed z) (λ same. apart other (before other live) (differs_now other live) (sym same))

  now_there : slice_get (slice_set ss (number_in n.timers.items id) (sleeper_closed z)) (number_in n.timers.items id) ≡ Some (sleeper_closed z)
  now_there = set_there ss k (sleeper_closed z) z there

  by_sleeper : {C : Type 0} (j : ℕ) (x : SleeperRecord) → slice_get (slice_set ss (number_in n.timers.items id) (sleeper_closed z)) j ≡ Some x → (j ≡ number_in n.timers.items id → sleeper_closed z ≡ x → C) → ((number_in n.timers.items id ≡ j → ⊥) → slice_get ss j ≡ Some x → C) → C
  by_sleeper = grind (arith, by_number, set_elsewhere, same_Some, now_there)

  pub named_closed : IsNamed i n d zs' rs (slice_set ss (number_in n.timers.items id) (sleeper_closed z))
  named_closed = grind (arith, as_long, before, elsewhere)

  pub asleep_closed : closing ≡ true → AreAsleep closing i n zs' (slice_set ss (number_in n.timers.items id) (sleeper_closed z))
  asleep_closed closes =
      record {
        alike = λ other x r at found.
            let live : IsSome (value_at zs' other) = rw at refl in
            asleep.alike other x r (sym (gone.others other (differs_now other live)) ∙ at) (sym (elsewhere other live) ∙ found);
        there = λ j r found sleeps unclosed.
            by_sleeper j r found
            (λ e same. absurd (false≢true (sym unclosed ∙ ap (λ (y : SleeperRecord). y.closed) (sym same))))
            (λ unlike old.
            let differs : r.id.0 ≢ id = λ e. unlike (sym (ap (number_in n.timers.items) e) ∙ asleep.named j r old sleeps unclosed) in
            subst IsSome (sym (gone.others r.id.0 differs)) (asleep.there j r old sleeps unclosed));
        named = λ j r found sleeps unclosed.
            by_sleeper j r found
            (λ e same. absurd (false≢true (sym unclosed ∙ ap (λ (y : SleeperRecord). y.closed) (sym same))))
            (λ unlike old. asleep.named j r old sleeps unclosed);
        lets_go = λ j r found mine closed. closes;
        counted = λ other past.
            subst (λ m. other.generation < m) (sym (length-set ss (number_in n.timers.items id) (sleeper_closed z)))
            (asleep.counted other (past_back zs id some small other (subst (λ (x : Slab (Sleeping Reply)). IsPast x other) is past)));
        names = naps_set i zs zs' ss (number_in n.timers.items id) z (sleeper_closed z) there refl refl (λ other past. subst (λ (x : Slab (Sleeping Reply)). IsPast x other) (sym is) ((removed_past zs id some small other).1 past)) asleep.names;
      }
