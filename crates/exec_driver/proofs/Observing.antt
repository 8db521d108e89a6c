-- Who waits for a request decides nothing of where it is.
use Rattle.std.proofs.Common.{◌≡◌, ℕ, Bool, cond, Option, Some, None, refl, sym, ap, ◌∙◌, arith}
use Rattle.exec_driver.proofs.{Words.{is_some, Slab, value_at, written, TaskNo, changed, is_flying, Observer, Local, Forwarded, Orphaned, Waiter, Entry, Pending, Ready, WaiterId, Driving, is_queued, is_gated, is_unenrolled, is_enrolled, is_cancelled, IsHeld, is_unpermitted, is_undated, is_at_tick, may_cancel}, Stepping.stays}
use Rattle.exec_lists.proofs.{Counting.{OneChanged, one_written, one_removed, pending_is, flying_is}, Shifts.{shifted, nowhere}}
use Rattle.exec_base.specs.Slab.{removed}
use Rattle.exec_request.specs.declared.output.RequestOutput.{RequestOutput}
use Rattle.exec_waiters.specs.{Events.{taken_from, taken, forwarded_from, forwarded, orphaned_from, orphaned, changed_from, with_observer, with_waker}, States.{is_local, is_held_by}}

module _ {S F : Type 0} where
  -- one change after which each place has the request as before
  pub held_alike : (d : Driving S F) (s' : Slab (Entry S F)) (id : WaiterId) (was is : Option (Waiter S F)) (room most spots : ℕ) → OneChanged d.requests s' id.0 was is → is_queued is ≡ is_queued was → is_gated is ≡ is_gated was → is_unenrolled is ≡ is_unenrolled was → is_enrolled is ≡ is_enrolled was → is_cancelled is ≡ is_cancelled was → is_unpermitted is ≡ is_unpermitted was → is_undated is ≡ is_undated was → ((t : ℕ) → is_at_tick t is ≡ is_at_tick t was) → is_flying is ≡ is_flying was → is_some is ≡ is_some was → may_cancel is ≡ may_cancel was → IsHeld d room most spots → IsHeld (record d { requests = s' }) room most spots
  held_alike d s' id was is room most spots one queued gated unenrolled enrolled cancelled unpermitted undated tick flies some un held =
      let sound = held.sound in
      let same = rw some at (one.numbers is_some refl) in
      let flying = rw flies at (one.numbers is_flying refl) in
      let uncancelled = rw un at (one.numbers may_cancel refl) in
      record {
        sound = record {
          queued = shifted is_queued _ _ id _ _ _ _ one (stays is_queued was is id _ queued) sound.queued;
          gated = shifted is_gated _ _ id _ _ _ _ one (stays is_gated was is id _ gated) sound.gated;
          enrolments = shifted is_unenrolled _ _ id _ _ _ _ one (stays is_unenrolled was is id _ unenrolled) sound.enrolments;
          due = shifted is_enrolled _ _ id _ _ _ _ one (stays is_enrolled was is id _ enrolled) sound.due;
          cancels = shifted is_cancelled _ _ id _ _ _ _ one (stays is_cancelled was is id _ cancelled) sound.cancels;
          permits = nowhere is_unpermitted _ _ id.0 _ _ one (unpermitted ∙ ap is_unpermitted (sym one.was_at) ∙ sound.permits id.0) sound.permits;
          dated = nowhere is_undated _ _ id.0 _ _ one (undated ∙ ap is_undated (sym one.was_at) ∙ sound.dated id.0) sound.dated;
          ticks = λ t. let n = rw (tick t) at (one.numbers (is_at_tick t) refl) in omega (arith, n, sound.ticks t);
          drained = sound.drained;
          entries = omega (arith, sound.entries, flying, flying_is d.requests, flying_is s');
          places = omega (arith, sound.places, same, uncancelled, pending_is d.requests, pending_is s');
        };
        room = omega (arith, held.room, same, pending_is d.requests, pending_is s');
        wheel_room = held.wheel_room;
        limit = held.limit;
        places = held.places;
      }

  held_observed : (d : Driving S F) (id : WaiterId) (w : Waiter S F) (observer : Observer S F) (room most spots : ℕ) → value_at d.requests id.0 ≡ Some (Pending w) → IsHeld d room most spots → IsHeld (record d { requests = written d.requests id.0 (Pending (with_observer observer w)) }) room most spots
  held_observed d id w observer room most spots at held =
      held_alike d _ id (Some w) (Some (with_observer observer w)) room most spots (one_written d.requests id.0 (Pending w) (Pending (with_observer observer w)) at) refl refl refl refl refl refl refl (λ t. refl) refl refl refl held

  held_let : (d : Driving S F) (id : WaiterId) (told : RequestOutput) (room most spots : ℕ) → value_at d.requests id.0 ≡ Some (Ready told) → IsHeld d room most spots → IsHeld (record d { requests = removed d.requests id.0 }) room most spots
  held_let d id told room most spots at held =
      held_alike d _ id None None room most spots (one_removed d.requests id.0 (Ready told) at) refl refl refl refl refl refl refl (λ t. refl) refl refl refl held

  -- what a call makes of an entry, by what it is
  by_entry : (P : Option (Entry S F) → Type 0) (o : Option (Entry S F)) → P None → ((w : Waiter S F) → o ≡ Some (Pending w) → P (Some (Pending w))) → ((told : RequestOutput) → o ≡ Some (Ready told) → P (Some (Ready told))) → P o
  by_entry P None none pending ready = none
  by_entry P (Some (Pending w)) none pending ready = pending w refl
  by_entry P (Some (Ready told)) none pending ready = ready told refl

  pub held_seen : (d : Driving S F) (id : WaiterId) (room most spots : ℕ) → IsHeld d room most spots → IsHeld (record d { requests = taken d.requests id.0 }) room most spots
  held_seen d id room most spots held =
      by_entry (λ o. IsHeld (record d { requests = taken_from d.requests id.0 o }) room most spots) (value_at d.requests id.0) held (λ w at. held) (λ told at. held_let d id told room most spots at held)

  pub held_waked : (d : Driving S F) (id : WaiterId) (waker : TaskNo) (room most spots : ℕ) → IsHeld d room most spots → IsHeld (record d { requests = changed d.requests id.0 (with_waker waker) }) room most spots
  held_waked d id waker room most spots held =
      by_entry (λ o. IsHeld (record d { requests = changed_from d.requests id.0 (with_waker waker) o }) room most spots) (value_at d.requests id.0) held (λ w at. held_observed d id w (Local (Some waker)) room most spots at held) (λ told at. held)

  choose : (b : Bool) (d : Driving S F) (s s' : Slab (Entry S F)) (room most spots : ℕ) → IsHeld (record d { requests = s }) room most spots → IsHeld (record d { requests = s' }) room most spots → IsHeld (record d { requests = cond b s s' }) room most spots
  choose = grind arith

  pub held_forwarded : (d : Driving S F) (id : WaiterId) (sender : F) (room most spots : ℕ) → IsHeld d room most spots → IsHeld (record d { requests = forwarded d.requests id.0 sender }) room most spots
  held_forwarded d id sender room most spots held =
      by_entry (λ o. IsHeld (record d { requests = forwarded_from d.requests id.0 sender o }) room most spots) (value_at d.requests id.0) held (λ w at. choose (is_local w.observer) d _ _ room most spots (held_observed d id w (Forwarded sender) room most spots at held) held) (λ told at. held_let d id told room most spots at held)

  pub held_orphaned : (d : Driving S F) (id : WaiterId) (room most spots : ℕ) → IsHeld d room most spots → IsHeld (record d { requests = orphaned d.requests id.0 }) room most spots
  held_orphaned d id room most spots held =
      by_entry (λ o. IsHeld (record d { requests = orphaned_from d.requests id.0 o }) room most spots) (value_at d.requests id.0) held (λ w at. choose (is_held_by w.observer) d _ _ room most spots (held_observed d id w Orphaned room most spots at held) held) (λ told at. held_let d id told room most spots at held)
