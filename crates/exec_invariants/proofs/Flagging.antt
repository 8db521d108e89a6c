-- What the taking of the root flag is to the machine.
use Rattle.exec_invariants.{proofs.{Names.{◌≡◌, ◌≢◌, ℕ, ◌+◌, ◌==◌, inl, false, [], ◌∷◌, ◌++◌, Option, Some, None, refl, sym, ap, subst, ◌∙◌, arith, length, option_to_list, slice_get, ◌≤◌, eq-eqb, false≢true, slice_get_within, Said, Runnable, Event, Turn, AfterCallbacks, InCallbacks, InPoll, Place, Chair, Shared, TaskSlot, Worker, closes_at, closing_in, polling, with_flag, Spot, not_same}, PopLeads.begins_poll, Queued.hands_of, Queueing.{Around, Reaches, poses, rehanded, whole_handed}, Thieves.in_both}, specs.{HoldPlaces.is_bare_at, Places.is_armed_at, Sound.{Aims, HasBatch, HasQueue, HasRunnable, IsRunnable, SoundAt, one_of}, Whole.{HasOne, may_let_go, runnables_in, stock}, Works.Steps}}

-- a runnable of another task isn't one of this
pub none_of : (t : ℕ) (r : Runnable) → (r.task.0 == t) ≡ false → runnables_in t (r ∷ []) ≡ 0
none_of t r other = rw other refl

module _ {B : Type 0} where
  -- the flag has the root's runnable
  flagged : (w : Worker) (s : Shared B) (r : Runnable) → SoundAt Place.TakeRootFlag w s → w.root_ready ≡ Some r → r.task.0 ≡ w.root
  flagged = grind arith

module _ {B L : Type 0} (left : B → L) (spot : L → Option Said → Spot) (w w' : Worker) (s : Shared B) (e : Event) where
  pub root_flag_taken : SoundAt Place.TakeRootFlag w s → e ≡ Turn → w' ≡ with_flag w.root_ready w → Steps left spot w s e w' s
  root_flag_taken sound turn goes = by w.root_ready refl goes
    where
      around : (p : Place) → is_armed_at p ≡ false → Aims p s.config w.index s.seats.items → ((chair : Chair) → slice_get s.seats.items w.index ≡ Some chair → HasQueue p chair.queue) → HasBatch p w.batch.values → closes_at p ≡ false → closing_in p ≡ None → is_bare_at p ≡ false → Around p w s s
      around p armed aims queue batch closes closing bare =
          record { seated = rw armed sound.seated; queue = queue; aims = aims; batch = batch; batch_place = sound.batch_place; lets_go = rw (closing, bare) sound.lets_go; phased = rw (closes, closing) sound.phased }

      by : (o : Option Runnable) → w.root_ready ≡ o → w' ≡ with_flag o w → Steps left spot w s e w' s
      by None none goes =
          let next : Place = Place.Callbacks InCallbacks.TakeBatch AfterCallbacks.Look in
          let w1 : Worker = record w { place = next } in
          let to : Reaches Place.TakeRootFlag next w w1 s s = record {
            same = refl;
            quiet = λ h. sound.quiet refl;
            around = around next refl tt sound.queue sound.batch refl refl refl;
            carries = record { runnable = sound.runnable; hand = sound.hand; loot = sound.loot; genuine = sound.genuine; stolen = sound.stolen; searching = tt; pooled = λ no. absurd (false≢true no); serves = tt; calm = sound.calm; left = sound.left; told = sound.told };
          } in
          subst (λ v. Steps left spot w s e v s) (sym goes)
          (rehanded left spot Place.TakeRootFlag w w1 s s.global e sound turn (record { same = refl; read = sound.time.read; asleep = sound.time.asleep }) refl refl refl to
          (λ others before. whole_handed others w w1 s s.global refl refl (poses Place.TakeRootFlag w w1 s sound to.same refl refl (record { batch = refl; letters = refl; left = refl })) (λ t slot there home one. one) (λ t more. omega arith) before.queued_there before)
          (λ p vs suits. rw none refl))
      by (Some r) flag goes =
          let w1 : Worker = record (polling r w) { root_ready = None } in
          let root : r.task.0 ≡ w.root = flagged w s r sound flag in
          let has : HasRunnable w.index w.root None (Some r) s.tasks.items = record {
            root = sound.runnable.root;
            there = sound.runnable.there;
            home = sound.runnable.home;
            number = sound.runnable.number;
            once = subst (λ o. IsRunnable (one_of o None) sound.runnable.root) flag sound.runnable.once;
            one = λ set. absurd (cc (set));
          } in
          let to : Reaches Place.TakeRootFlag w1.place w w1 s s =
          begins_poll Place.TakeRootFlag r w w1 s s sound refl refl refl refl refl refl (rw (eq-eqb r.task.0 w.root root) has) (inl (ap (λ n. Some n) root)) (λ other. absurd (other root)) sound.told
          (around (Place.Poll r.task.0 InPoll.BeginPoll) refl tt sound.queue sound.batch refl refl refl) in
          -- an ordinary task has as many as before
          let beside : (t : ℕ) → r.task.0 ≢ t → runnables_in t (hands_of w1) ≡ runnables_in t (hands_of w) =
          λ t apart.
          omega (arith, ap (λ o. runnables_in t (option_to_list o ++ w.loot.values)) sound.hand, in_both t (r ∷ []) w.loot.values, none_of t r (not_same r.task.0 t apart)) in
          let most : (t others : ℕ) → length s.tasks.items ≤ t → (others + runnables_in t (hands_of w1)) + stock t s ≤ (others + runnables_in t (hands_of w)) + stock t s =
          λ t others more. omega (arith, beside t (λ is. omega (arith, is, root, slice_get_within s.tasks.items w.root sound.runnable.root sound.runnable.there, more))) in
          let same : (t : ℕ) (slot : TaskSlot B) → slice_get s.tasks.items t ≡ Some slot → slot.home ≡ None → runnables_in t (hands_of w1) ≡ runnables_in t (hands_of w) =
          λ t slot there home.
          let apart : r.task.0 ≢ t = λ is.
          let it : slot ≡ sound.runnable.root = cc (subst (λ n. slice_get s.tasks.items n ≡ Some slot) (sym is ∙ root) there, sound.runnable.there) in
          absurd (cc (sym home ∙ ap (λ (x : TaskSlot B). x.home) it ∙ sound.runnable.home)) in
          beside t apart in
          subst (λ v. Steps left spot w s e v s) (sym goes)
          (rehanded left spot Place.TakeRootFlag w w1 s s.global e sound turn (record { same = refl; read = sound.time.read; asleep = sound.time.asleep }) refl refl refl to
          (λ others before.
          whole_handed others w w1 s s.global refl refl (poses Place.TakeRootFlag w w1 s sound to.same refl refl (record { batch = refl; letters = refl; left = refl }))
          (λ t slot there home one. subst (λ n. HasOne (may_let_go s) slot.cell.phase ((others.runnables t + n) + stock t s)) (sym (same t slot there home)) one)
          (λ t more. most t (others.runnables t) more) before.queued_there before)
          (λ p vs suits. rw (flag, ← root) refl))
