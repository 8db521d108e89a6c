-- What the steps are to the machine by which who has appended to the global queue reserves a search count for a worker that
-- is published.
use Rattle.std.proofs.Common.{◌≡◌, ◌+◌, ◌-◌, ◌<◌, ◌==◌, Bool, true, false, IsSome, Option, refl, ap, arith, if◌then◌else◌}
use Rattle.exec_words.specs.{Idle.{Idle, lowest_of}, declared.idle.WorkerSet.WorkerSet}
use Rattle.exec_task.specs.declared.body.Said.{Said}
use Rattle.exec_machine.specs.declared.event.Event.{Event, TheVariants.Turn}
use Rattle.exec_moves.specs.{declared.{handing.{AfterClaim.AfterClaim, AfterKick.AfterKick, AfterPush.AfterPush, InGlobal.InGlobal, InKick.InKick}, place.Place.Place}, Claim.set_of, Global.{add_global_count, has_any}}
use Rattle.exec_parts.specs.{declared.parts.{shared.Shared.Shared, worker.Worker.Worker}, Spots.Spot, Tests.after_push_of, View.desk_of, Things.{Goes, Makes}}
use Rattle.exec_invariants.{specs.{Sound.SoundAt, Whole.HasWhole, Works.Steps}, proofs.{Counting.{counts_alone, has_count, stance_at, stance_here}, Handed.{PushNext, out, push_comes, push_seen, same_kick, someone}, Idled.{Comes, comes, comes_either, gone, gone_by}}}
use Rattle.exec_steps.proofs.Searching.{placed}

module _ {B : Type 0} where
  -- who returns a count holds one
  pub global_some : (b : AfterPush) (w : Worker) (s : Shared B) → SoundAt (Place.Global InGlobal.ReturnGlobalCount b) w s → HasWhole w s → 0 < s.idle.count
  global_some b w s sound has =
      has_count (stance_at (Place.Global InGlobal.ReturnGlobalCount b) w) w s (stance_here (Place.Global InGlobal.ReturnGlobalCount b) w sound.here) has (rw sound.searching (omega arith))

module _ {B L : Type 0} (left : B → L) (spot : L → Option Said → Spot) (w w' : Worker) (s : Shared B) (e : Event) where
  pub global_set_loaded : (b : AfterPush) → SoundAt (Place.Global InGlobal.LoadGlobalSet b) w s → PushNext left spot b w s → e ≡ Turn
      → w' ≡ record w { place = (if has_any s.idle then Place.Global (InGlobal.AddGlobalCount (set_of s.idle)) b else after_push_of b w) } → Steps left spot w s e w' s
  global_set_loaded b sound next turn goes =
      gone_by left spot q (if has_any s.idle then Place.Global (InGlobal.AddGlobalCount (set_of s.idle)) b else after_push_of b w) (out false) w w' s s.idle e sound turn goes sound.searching (by (has_any s.idle) (someone s.idle)) refl refl
      (counts_alone (stance_at q w) false false w s s.idle (stance_here q w sound.here) refl (rw sound.searching refl))
      (λ p vs suits. rw (push_seen left spot p vs q w s sound suits.config b (next.seen p vs suits)) refl)
    where
      q : Place
      q = Place.Global InGlobal.LoadGlobalSet b

      by : (any : Bool) → (any ≡ true → IsSome (lowest_of s.idle.published)) → Comes q (if any then Place.Global (InGlobal.AddGlobalCount (set_of s.idle)) b else after_push_of b w) (out false) w s
      by true some = comes q (Place.Global (InGlobal.AddGlobalCount (set_of s.idle)) b) (out false) w s sound
          (record { same = same_kick w.role q (Place.Global (InGlobal.AddGlobalCount (set_of s.idle)) b) refl; searches = refl; counts = refl; published = refl; queue = sound.queue; aims = some refl; batch = sound.batch; quiet = λ h. h })
      by false some = push_comes b q w s sound next.comes (record { same = same_kick w.role q (Place.Kick InKick.LoadKickCount (AfterKick.Push b)) refl; held = sound.queue; batch = sound.batch; quiet = refl })

  pub global_count_added : (set : WorkerSet) (b : AfterPush) (x : Idle) → SoundAt (Place.Global (InGlobal.AddGlobalCount set) b) w s → Makes (add_global_count set b (desk_of w) s.idle) e w' → Goes w w' → x ≡ record s.idle { count = s.idle.count + 1 } → Steps left spot w s e w' (record s { idle = x })
  global_count_added set b x sound makes goes is =
      let q = Place.Global (InGlobal.AddGlobalCount set) b in
      let more : x.count ≡ s.idle.count + 1 = ap (λ i. i.count) is in
      gone left spot q (Place.ClaimWorker set (AfterClaim.Global b)) (record { searching = false; counted = true; published = false }) w w' s x e sound makes.event (placed w (add_global_count set b (desk_of w) s.idle) makes goes) sound.searching
      (record { same = same_kick w.role q (Place.ClaimWorker set (AfterClaim.Global b)) refl; searches = refl; counts = refl; published = refl; queue = sound.queue; aims = sound.aims; batch = sound.batch; quiet = λ h. h }) refl refl
      (counts_alone (stance_at q w) false true w s x (stance_here q w sound.here) (ap (λ i. i.published) is) (rw sound.searching (omega (arith, more))))
      (λ p vs suits. rw is refl)

  pub global_count_returned : (b : AfterPush) (x : Idle) → SoundAt (Place.Global InGlobal.ReturnGlobalCount b) w s → PushNext left spot b w s → 0 < s.idle.count → e ≡ Turn
      → w' ≡ record w { place = (if s.idle.count == 1 then Place.Global InGlobal.LoadGlobalSet b else after_push_of b w) } → x ≡ record s.idle { count = s.idle.count - 1 } → Steps left spot w s e w' (record s { idle = x })
  global_count_returned b x sound next some turn goes is =
      let less : x.count ≡ s.idle.count - 1 = ap (λ i. i.count) is in
      gone_by left spot q (if s.idle.count == 1 then Place.Global InGlobal.LoadGlobalSet b else after_push_of b w) (out false) w w' s x e sound turn goes sound.searching
      (comes_either q (s.idle.count == 1) (Place.Global InGlobal.LoadGlobalSet b) (after_push_of b w) (out false) w s
      (comes q (Place.Global InGlobal.LoadGlobalSet b) (out false) w s sound
      (record { same = same_kick w.role q (Place.Global InGlobal.LoadGlobalSet b) refl; searches = refl; counts = refl; published = refl; queue = sound.queue; aims = tt; batch = sound.batch; quiet = λ h. h }))
      (push_comes b q w s sound next.comes (record { same = same_kick w.role q (Place.Kick InKick.LoadKickCount (AfterKick.Push b)) refl; held = sound.queue; batch = sound.batch; quiet = refl }))) refl refl
      (counts_alone (stance_at q w) false false w s x (stance_here q w sound.here) (ap (λ i. i.published) is) (rw sound.searching (omega (arith, some, less))))
      (λ p vs suits. rw (is, push_seen left spot p vs q w s sound suits.config b (next.seen p vs suits)) refl)
    where
      q : Place
      q = Place.Global InGlobal.ReturnGlobalCount b
