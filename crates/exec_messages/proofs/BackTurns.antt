-- The callbacks: what holds of the worker where the batch was taken, once a task's slot changed; and where it goes on from there
-- to queue a task, or to wake one elsewhere.
use Rattle.std.proofs.{Common.{◌≡◌, ◌≢◌, inr, ℕ, arith, Bool, true, false, Contains, List, [], length, Option, Some, None, refl, sym, ap, subst, ◌∙◌, slice_get, slice_set, option_to_list, if◌then◌else◌}, lemmas.Bool.false≢true}
use Rattle.exec_task.specs.{Phases.{is_polled, runnable_of}, declared.runnable.Runnable.Runnable}
use Rattle.exec_moves.specs.{declared.{handing.{AfterCallbacks.AfterCallbacks, AfterPush.AfterPush, Heard.Heard, InGlobal.InGlobal, InPush.InPush}, place.{InCallbacks.InCallbacks, Place.Place}}, Seen.left_before}
use Rattle.exec_parts.{specs.{declared.parts.{seat.Seat.Seat as Chair, shared.Shared.Shared, task_slot.TaskSlot.TaskSlot, worker.Worker.Worker}, Phased.{IsPhased, is_complete, stage_of}, Pooled.woken_slot, Roles.is_pool, Tests.first_push_of}, proofs.Facts.{same_Some, set_elsewhere, set_there, true_false}}
use Rattle.exec_invariants.{specs.{Rooted.HasHeard, Sound.{AreHome, AreResting, HasRunnable, IsHeld, IsLoot, IsResting, IsRunnable, SoundAt, Stands, one_of}, Whole.IsGenuine}, proofs.{Flagged.{flag_then, flag_woken, in_flag, of_flag, stands_woken}, Cells.{complete_woken, polled_woken}, SlotTasks.{Keeps, genuine_set, homes_set, none_in, resting_set}, Stirs.{keeps_woken, only, rests_woken}, Turning.{Arrives, GoesOn, sound_on}}}

module _ {B : Type 0} where
  -- TASKS CHANGED, and the flag of the root may have been set
  pub record Retasked (w : Worker) (f : Option Runnable) (s : Shared B) (tasks : List (TaskSlot B)) : Type 0 where
    pub homes : AreHome s.config.workers (length s.seats.items) tasks
    pub runnable : HasRunnable w.index w.root f None tasks
    pub genuine : (r : Runnable) → IsGenuine s.tasks.items r → IsGenuine tasks r
    pub resting : AreResting tasks
    pub over : (slot : TaskSlot B) → slice_get tasks w.root ≡ Some slot → (was : TaskSlot B) × (slice_get s.tasks.items w.root ≡ Some was) × (is_complete slot.cell.phase ≡ is_complete was.cell.phase)
    pub stands : (slot : TaskSlot B) → slice_get tasks w.root ≡ Some slot → Stands None w.index slot

  pub retasked : (n : AfterCallbacks) (w : Worker) (f : Option Runnable) (s s1 : Shared B) → SoundAt (Place.Callbacks InCallbacks.TakeBatch n) w s → Retasked w f s s1.tasks.items
      → SoundAt (Place.Callbacks InCallbacks.TakeBatch n) (record w { root_ready = f }) (record s { tasks = s1.tasks })
  retasked n w f s s1 sound it =
      let tasks = s1.tasks.items in
      let genuine : (r : Runnable) → Contains (option_to_list w.hand) r → IsHeld None w.root tasks r = λ r has. absurd (none_in r (subst (λ o. Contains (option_to_list o) r) sound.hand has)) in
      let stolen : (r : Runnable) → Contains w.loot.values r → IsGenuine tasks r = λ r has. it.genuine r (sound.stolen r has) in
      let phased : (chair : Chair) → slice_get s.seats.items w.index ≡ Some chair → IsPhased w.index (left_before n) None w.home.closing w.root w.names.unreleased (stage_of chair s) tasks = λ chair at.
      let old = sound.phased chair at in
      grind arith in
      grind arith

  -- WHERE A TASK IS QUEUED THAT WAS IDLE

  push_arrives : (n : AfterCallbacks) (w : Worker) (s : Shared B) (r : Runnable) → SoundAt (Place.Callbacks InCallbacks.TakeBatch n) w s → w.searching ≡ false → IsGenuine s.tasks.items r
      → Arrives (Place.Push InPush.LoadPushHead (AfterPush.CallBack n)) w (record w { hand = Some r }) s s
  push_arrives n w s r sound idle genuine =
      let held : (x : Runnable) → Contains (option_to_list (Some r)) x → IsHeld None w.root s.tasks.items x = λ x has. inr (subst (IsGenuine s.tasks.items) (sym (only x r has)) genuine) in
      let pooled : false ≡ true → is_pool w.role ≡ true = λ is. absurd (false≢true is) in
      let quiet : true ≡ false → w.home.deferred.notes.wakes.items ≡ [] = λ is. true_false is in
      assumption (held, pooled, quiet, idle, tt, sound)

  append_arrives : (n : AfterCallbacks) (w : Worker) (s : Shared B) (r : Runnable) → SoundAt (Place.Callbacks InCallbacks.TakeBatch n) w s → w.searching ≡ false → IsGenuine s.tasks.items r
      → Arrives (Place.Global InGlobal.Append (AfterPush.CallBack n)) w (record w { hand = Some r }) s s
  append_arrives n w s r sound idle genuine =
      let loot : IsLoot true w.loot = record { places = sound.loot.places; few = sound.loot.few; none = λ is. sound.loot.none refl } in
      let held : (x : Runnable) → Contains (option_to_list (Some r)) x → IsHeld None w.root s.tasks.items x = λ x has. inr (subst (IsGenuine s.tasks.items) (sym (only x r has)) genuine) in
      let pooled : false ≡ true → is_pool w.role ≡ true = λ is. absurd (false≢true is) in
      let quiet : true ≡ false → w.home.deferred.notes.wakes.items ≡ [] = λ is. true_false is in
      assumption (loot, held, pooled, quiet, idle, tt, sound)

  arrives_either : (b : Bool) (x y : Place) (w v : Worker) (s : Shared B) → Arrives x w v s s → Arrives y w v s s → Arrives (if b then x else y) w v s s
  arrives_either true x y w v s h k = h
  arrives_either false x y w v s h k = k

  pub pushes_on : (n : AfterCallbacks) (w : Worker) (s : Shared B) (r : Runnable) → SoundAt (Place.Callbacks InCallbacks.TakeBatch n) w s → w.searching ≡ false → IsGenuine s.tasks.items r
      → SoundAt (first_push_of (AfterPush.CallBack n) w) (record w { hand = Some r; place = first_push_of (AfterPush.CallBack n) w }) s
  pushes_on n w s r sound idle genuine =
      let q' : Place = first_push_of (AfterPush.CallBack n) w in
      let w1 : Worker = record w { hand = Some r; place = q' } in
      let on : GoesOn w w1 s.clock = record { same = refl; read = sound.time.read; asleep = sound.time.asleep } in
      let to : Arrives q' w (record w { hand = Some r }) s s =
      arrives_either (is_pool w.role) (Place.Push InPush.LoadPushHead (AfterPush.CallBack n)) (Place.Global InGlobal.Append (AfterPush.CallBack n)) w (record w { hand = Some r }) s (push_arrives n w s r sound idle genuine) (append_arrives n w s r sound idle genuine) in
      let to1 : Arrives q' w w1 s s = assumption to in
      sound_on (Place.Callbacks InCallbacks.TakeBatch n) w w1 s s sound on refl (omega arith) to1

  -- WHERE A TASK ELSEWHERE IS WOKEN NEXT

  pub waits_on : (n : AfterCallbacks) (t : ℕ) (of : Heard) (w : Worker) (s : Shared B) → SoundAt (Place.Callbacks InCallbacks.TakeBatch n) w s → w.searching ≡ false → HasHeard w.index t of s.requests.items s.sleepers.items
      → SoundAt (Place.Callbacks (InCallbacks.WakeWaiter t of) n) (record w { place = Place.Callbacks (InCallbacks.WakeWaiter t of) n }) s
  waits_on = grind arith

  -- A TASK WAS WOKEN

  -- which is an ordinary one
  pub record Ordinary (t : ℕ) (w : Worker) (s : Shared B) (slot : TaskSlot B) : Type 0 where
    pub there : slice_get s.tasks.items t ≡ Some slot
    pub home : slot.home ≡ None

  pub apart_of : (n : AfterCallbacks) (t : ℕ) (w : Worker) (s : Shared B) (slot : TaskSlot B) → SoundAt (Place.Callbacks InCallbacks.TakeBatch n) w s → Ordinary t w s slot → t ≢ w.root
  apart_of = grind arith

  -- an ordinary one's slot became this
  pub other_retasked : (n : AfterCallbacks) (t : ℕ) (w : Worker) (s : Shared B) (slot slot' : TaskSlot B) → SoundAt (Place.Callbacks InCallbacks.TakeBatch n) w s → Ordinary t w s slot → Keeps slot slot' → (is_polled slot'.cell.phase ≡ false → IsResting slot')
      → Retasked w w.root_ready s (slice_set s.tasks.items t slot')
  other_retasked n t w s slot slot' sound it keeps rests =
      let tasks = s.tasks.items in
      let apart : t ≢ w.root = apart_of n t w s slot sound it in
      let root : slice_get (slice_set tasks t slot') w.root ≡ slice_get tasks w.root = set_elsewhere tasks t w.root slot' (λ e. apart (sym e)) in
      let run = sound.runnable in
      record {
        homes = homes_set s.config.workers (length s.seats.items) tasks t slot slot' it.there keeps sound.homes;
        runnable = record { root = run.root; there = root ∙ run.there; home = run.home; number = run.number; once = run.once; one = run.one };
        genuine = genuine_set tasks t slot slot' it.there keeps;
        resting = resting_set tasks t slot slot' it.there (λ home. rests) sound.resting;
        over = λ o at. (o, sym root ∙ at, refl);
        stands = λ o at. sound.tied.stands o (sym root ∙ at);
      }

  pub ordinary_woken : (n : AfterCallbacks) (t : ℕ) (w : Worker) (s : Shared B) (slot : TaskSlot B) → SoundAt (Place.Callbacks InCallbacks.TakeBatch n) w s → Ordinary t w s slot → Retasked w w.root_ready s (slice_set s.tasks.items t (woken_slot slot))
  ordinary_woken n t w s slot sound it =
      other_retasked n t w s slot (woken_slot slot) sound it (keeps_woken slot) (λ unpolled. rests_woken slot (sound.resting t slot it.there it.home (sym (polled_woken slot.cell.phase) ∙ unpolled)))

  -- the own root was
  pub root_woken : (n : AfterCallbacks) (w : Worker) (s : Shared B) (slot : TaskSlot B) → SoundAt (Place.Callbacks InCallbacks.TakeBatch n) w s → slice_get s.tasks.items w.root ≡ Some slot → Retasked w (flag_then w.root_ready slot) s (slice_set s.tasks.items w.root (woken_slot slot))
  root_woken n w s slot sound there =
      let tasks = s.tasks.items in
      let slot' : TaskSlot B = woken_slot slot in
      let found : slice_get (slice_set tasks w.root slot') w.root ≡ Some slot' = set_there tasks w.root slot' slot there in
      let same : sound.runnable.root ≡ slot = same_Some sound.runnable.root slot (sym sound.runnable.there ∙ there) in
      let is : (o : TaskSlot B) → slice_get (slice_set tasks w.root slot') w.root ≡ Some o → slot' ≡ o = λ o at. same_Some slot' o (sym found ∙ at) in
      let run : IsRunnable w.root_ready slot = in_flag w.root_ready slot (subst (λ (o : TaskSlot B). IsRunnable (one_of w.root_ready None) o) same sound.runnable.once) in
      let home : slot.home ≡ Some w.index = sym (ap (λ (o : TaskSlot B). o.home) same) ∙ sound.runnable.home in
      record {
        homes = homes_set s.config.workers (length s.seats.items) tasks w.root slot slot' there (keeps_woken slot) sound.homes;
        runnable = record {
          root = slot';
          there = found;
          home = home;
          number = sym (ap (λ (o : TaskSlot B). o.cell.number) same) ∙ sound.runnable.number;
          once = of_flag (flag_then w.root_ready slot) slot' (flag_woken slot w.root_ready slot.cell.phase refl run);
          one = λ some. refl;
        };
        genuine = genuine_set tasks w.root slot slot' there (keeps_woken slot);
        resting = resting_set tasks w.root slot slot' there (λ none unpolled. let never : None ≡ Some w.index = sym none ∙ home in absurd (cc)) sound.resting;
        over = λ o at. (slot, there, subst (λ (y : TaskSlot B). is_complete y.cell.phase ≡ is_complete slot.cell.phase) (is o at) (complete_woken slot.cell.phase));
        stands = λ o at. subst (Stands None w.index) (is o at) (stands_woken None w.index slot (sound.tied.stands slot there));
      }

  -- and the runnable of one that was queued is its own
  pub genuine_woken : (t : ℕ) (w : Worker) (s : Shared B) (slot : TaskSlot B) → AreHome s.config.workers (length s.seats.items) s.tasks.items → Ordinary t w s slot → IsGenuine (slice_set s.tasks.items t (woken_slot slot)) (runnable_of slot.cell)
  genuine_woken t w s slot homes it =
      let number : slot.cell.number ≡ record { 0 = t } = homes.number t slot it.there in
      let at : (runnable_of slot.cell).task.0 ≡ t = ap (λ n. n.0) number in
      record { slot = woken_slot slot; there = ap (slice_get (slice_set s.tasks.items t (woken_slot slot))) at ∙ set_there s.tasks.items t (woken_slot slot) slot it.there; ordinary = it.home; of_it = refl }
