-- A closing worker may let go of the request, and remove the sleeper, that it goes on to.
use Rattle.std.proofs.{Common.{◌≡◌, ℕ, suc, ◌+◌, ◌<◌, ◌≤◌, ◌&&◌, true, not, cond, List, [], ◌∷◌, count_by, Option, Some, None, IsSome, refl, sym, ap, subst, ◌∙◌, arith, slice_get}, lemmas.{Bool.false≢true, Option.slice_get_within}}
use Rattle.exec_base.specs.{Slab.{is_live, value_at}, declared.slab.{Id.Id, Slot.{Slot, TheVariants.{Live, Vacant, Retired}}}}
use Rattle.exec_waiters.specs.{States.{counts_pending, is_held_at, pending_count}, Told.HasPlaces, declared.{deferred.Deferred.Deferred, waiter.Entry.{Entry, TheVariants.{Pending, Ready}}}}
use Rattle.exec_machine.specs.{Requests.ends_by_drop, Tests.{is_kept, is_queued}}
use Rattle.exec_moves.specs.declared.place.{InClosing.InClosing, Place.Place}
use Rattle.exec_parts.specs.{declared.parts.{mail.Reply.Reply, record.Record.Record, shared.Shared.Shared, worker.Worker.Worker}, Ending.{MayCloseSleeper, MayOrphan}, Records.number_in, View.driver_of}
use Rattle.exec_invariants.{specs.{Sound.SoundAt, Names.tellers}, proofs.{HoldMail.sum_least, LetsNext.{live_value, named_at}, Slotted.live_at}}

fewer_places : (d : Deferred Reply Reply) (n m : ℕ) → m ≤ n → HasPlaces d n → HasPlaces d m
fewer_places = grind arith

-- one that is there
pub some_live : {T : Type 0} (slots : List (Slot T)) → 0 < count_by is_live slots → (j : ℕ) × (g : ℕ) × (e : T) × (slice_get slots j ≡ Some (Live g e))
some_live [] some = absurd (omega (arith, some))
some_live (Live g e ∷ slots) some = (0, g, e, refl)
some_live (Vacant g ∷ slots) some = let it = some_live slots some in (suc it.0, it.1, it.2, it.3)
some_live (Retired ∷ slots) some = let it = some_live slots some in (suc it.0, it.1, it.2, it.3)

module _ {B : Type 0} (w : Worker) (s : Shared B) where
  some_held : (id : Id) → is_held_at (value_at (driver_of w).requests id) ≡ true → IsSome (value_at (driver_of w).requests id)
  some_held = grind arith

  -- one that waits for nothing of the kernel isn't over
  still_pending : SoundAt (Place.Closing InClosing.Orphan) w s → (id : Id) (r : Record) (o : Option (Entry Reply Reply)) → value_at (driver_of w).requests id ≡ o → is_held_at o ≡ true → slice_get s.requests.items (number_in w.names.requests.items id) ≡ Some r → ends_by_drop r.shown ≡ true → 0 < pending_count (driver_of w).requests
  still_pending sound id r None at held there ends = absurd (false≢true held)
  still_pending sound id r (Some (Ready told)) at held there ends =
      absurd (false≢true (sym (ap (λ p. is_queued p && not (is_kept r.shown.operation.kind)) (sound.rooted.kept id told r at there).over) ∙ ends))
  still_pending sound id r (Some (Pending it)) at held there ends =
      let least = sum_least (λ o. cond (counts_pending o) 1 0) (driver_of w).requests.slots id.index (Live id.generation (Pending it)) (live_at (driver_of w).requests id (Pending it) at) in
      omega (arith, least)

  pub may_orphan : SoundAt (Place.Closing InClosing.Orphan) w s → MayOrphan w s
  may_orphan sound =
      record {
        one = sound.lets_go.0;
        held = sound.lets_go.1;
        room = fewer_places w.home.deferred (tellers (driver_of w).requests w.home.timers + 64) 2 (omega arith) sound.told.room;
        known = λ id first. let it = sound.named.requests id (some_held id first.held) in slice_get_within s.requests.items (number_in w.names.requests.items id) it.0 it.1;
        ending = λ id r first there ends.
            let some = still_pending sound id r (value_at (driver_of w).requests id) refl first.held there ends in
            omega (arith, some, sound.over.counted, sound.flown.ending);
      }

  pub may_close_sleeper : SoundAt (Place.Closing InClosing.CloseSleeper) w s → MayCloseSleeper w s
  may_close_sleeper sound =
      let it = some_live w.home.timers.slots sound.lets_go.1 in
      record {
        one = named_at it.0 it.1;
        asleep = subst IsSome (sym (live_value w.home.timers it.0 it.1 it.2 it.3)) refl;
        room = record { wakes = omega (arith, sound.told.room.notes.wakes); completions = omega (arith, sound.told.room.notes.completions) };
        known = λ id lowest some. let z = sound.named.timers id some in slice_get_within s.sleepers.items (number_in w.names.timers.items id) z.0 z.1;
      }
