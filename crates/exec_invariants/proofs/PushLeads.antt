-- Where a push leads whose runnable is in a queue now, or was let go: the hands are empty.
use Rattle.exec_invariants.{specs.{HoldPlaces.spare_at, Kinds.Kind, Places.{begins_at, calls_back_at, has_count_at, has_loot_at, hands_on_at, is_armed_at, is_pooled_at, is_published_at, pooled_push, searches_at, task_at}, Sound.{Aims, HasBatch, HasQueue, IsLeft, IsSearching, LetsGoAt, Serves, SoundAt, has_wakes_at}, Names.tellers}, proofs.{Words.{[], ◌≡◌, ◌+◌, ◌==◌, ◌&&◌, ◌||◌, Bool, true, false, Some, None, refl, sym, ap, subst, ◌∙◌, slice_get, false≢true, arith, Queue, Runnable, AfterKick, AfterPush, InKick, InPick, InPoll, Place, polls_at, polls_for, Chair, Shared, Worker, IsPhased, closes_at, closing_in, stage_of, is_pool, IsTold, after_push_of, next_callback_of, driver_of}, Handed.{IsPushFor, NextComes}, Idled.hush_of, Queueing.{Around, Carries, Reaches, if_either, still_of}}}

-- what a place says but of the hands, a search count, a closing and the callbacks
abbrev stilled : Kind → Kind
stilled k = record k { closing = None; closes = false; begins = None; hands_on = false; loot = true; searches = None; pooled = false; calls = None; spare = 0; bare = false }

still_hushed : (k : Kind) (p : Place) → hush_of p ≡ record k { pooled = is_pooled_at p } → has_count_at p ≡ false → is_published_at p ≡ false → still_of p ≡ record (stilled k) { counts = false; published = false }
still_hushed = grind arith

module _ {B : Type 0} where
  -- what the seat needs of such a place, and the worker with empty hands
  abbrev pub ArrivesAt : Worker → Shared B → Shared B → Type 0
  ArrivesAt w s t =
      (p : Place) → is_armed_at p ≡ false → ((x : Queue Runnable) → x.held ≡ [] → HasQueue p x) → Aims p s.config w.index t.seats.items → HasBatch p w.batch.values → LetsGoAt p (driver_of w).requests w.home.timers
      → ((chair : Chair) → slice_get s.seats.items w.index ≡ Some chair → IsPhased w.index (closes_at p) (closing_in p) w.home.closing w.root w.names.unreleased (stage_of chair s) s.tasks.items) → Around p w s t

  abbrev pub CarriesNone : Worker → Worker → Shared B → Type 0
  CarriesNone w v s =
      (p : Place) → begins_at p ≡ None → hands_on_at p ≡ false → has_loot_at p ≡ false → IsSearching (searches_at p) false → (is_pooled_at p ≡ true → is_pool w.role ≡ true) → Serves (task_at p) w.root w.role
      → IsLeft (calls_back_at p) w.home.deferred → IsTold w.names.ended.items w.home.deferred (tellers (driver_of w).requests w.home.timers + spare_at p) → Carries p w v s

  module _ (q : Place) (w v : Worker) (s t : Shared B) (around : ArrivesAt w s t) (carries : CarriesNone w v s) where
    abbrev of_push : AfterPush → Place
    of_push b = Place.Kick InKick.LoadKickCount (AfterKick.Push b)

    pub push_reaches : (b : AfterPush) → SoundAt q w s → NextComes b w s → IsPushFor b q → still_of (of_push b) ≡ still_of q → has_wakes_at (of_push b) ≡ has_wakes_at q → is_pooled_at q ≡ pooled_push b → task_at q ≡ polls_for b → Reaches q (after_push_of b w) w v s t
    push_reaches (AfterPush.Act u) sound next is same wakes pooled task =
        let p = Place.Poll u InPoll.Act in
        record {
          same = same;
          quiet = λ h. sound.quiet (sym wakes);
          around = around p refl (λ x held. held) tt (λ no. absurd (false≢true no)) (λ no. absurd (false≢true no)) (rw (← is.closing, ← is.closes) sound.phased);
          carries = carries p refl refl refl refl (λ no. absurd (false≢true no)) (subst (λ o. Serves o w.root w.role) task sound.serves) tt (rw (← is.spare) sound.told);
        }
    push_reaches AfterPush.Pick sound next is same wakes pooled task =
        if_either (λ z. Reaches q z w v s t) (w.picks == 0) Place.TakeRootFlag (Place.Pick InPick.CountDown)
        (record {
          same = same;
          quiet = λ h. sound.quiet (sym wakes);
          around = around Place.TakeRootFlag refl (λ x held. held) tt (λ no. absurd (false≢true no)) (λ no. absurd (false≢true no)) (rw (← is.closing, ← is.closes) sound.phased);
          carries = carries Place.TakeRootFlag refl refl refl tt (λ no. absurd (false≢true no)) tt tt (rw (← is.spare) sound.told);
        })
        (record {
          same = same;
          quiet = λ h. sound.quiet (sym wakes);
          around = around (Place.Pick InPick.CountDown) refl (λ x held. held) tt (λ no. absurd (false≢true no)) (λ no. absurd (false≢true no)) (rw (← is.closing, ← is.closes) sound.phased);
          carries = carries (Place.Pick InPick.CountDown) refl refl refl tt (λ h. (sound.pooled pooled)) tt tt (rw (← is.spare) sound.told);
        })
    push_reaches (AfterPush.CallBack n) sound next is same wakes pooled task =
        let task_none : (p : Place) → begins_at p ≡ None → polls_at p ≡ None → task_at p ≡ None = λ p begins polls. rw (begins, polls) refl in
        let p = next_callback_of n w in
        let it = next.to in
        record {
          same = still_hushed (hush_of (of_push (AfterPush.CallBack n))) p (it.same ∙ ap (λ (b : Bool). record (hush_of (of_push (AfterPush.CallBack n))) { pooled = b }) (sym (ap (λ k. k.pooled) it.same))) it.counts it.published ∙ same;
          quiet = it.quiet;
          around = around p (ap (λ k. k.armed) it.same) next.queue (next.aims s.config w.index t.seats.items) it.batch it.lets_go it.phased;
          carries = carries p (ap (λ k. k.begins) it.same) (ap (λ k. k.hands_on) it.same) (ap (λ k. k.loot) it.same) it.searches
              (λ h. pool_by (is_pooled_at p) (is_pool w.role) (ap (λ k. k.pooled) it.same) h)
              (subst (λ o. Serves o w.root w.role) (sym (task_none p (ap (λ k. k.begins) it.same) (ap (λ k. k.polls) it.same))) tt) it.left it.told;
        }
      where
        pool_by : (x role : Bool) → x ≡ (x && (false || role)) → x ≡ true → role ≡ true
        pool_by false role h is = absurd (false≢true is)
        pool_by true role h is = sym h
