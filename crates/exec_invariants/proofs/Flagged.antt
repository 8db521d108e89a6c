-- The act by which a task wakes its worker's root, or the root itself: the root is flagged where it was idle.
use Rattle.exec_invariants.{proofs.{Names.{◌≡◌, ℕ, ◌||◌, Bool, false, List, length, Option, Some, None, refl, sym, ap, subst, ◌∙◌, is_some, slice_get, slice_set, if◌then◌else◌, false≢true, arith, is_cell_idle, runnable_of, cell_woken, Said, Runnable, Phase, Plan, InPoll, Place, Shared, TaskSlot, Worker, is_complete, woken_slot, Spot, Views, same_Some, set_elsewhere, set_there}, Cells.{complete_woken, polled_woken}, Polling.on_in_poll, Slots.{Balances, spares_slot, whole_slot}, SlotTasks.{Keeps, Tasked, homes_set, none_in, resting_set, sound_tasked}, Stirs.IsWake}, specs.{Places.{claims_at, clears_at, has_count_at, is_published_at, polled_in}, Sound.{IsRunnable, SoundAt, Stands, is_told, one_of}, Works.Beside}}

-- whether the flag is set then
pub flag_set : (b : Bool) (r : Runnable) (f : Option Runnable) → is_some (if b then Some r else f) ≡ (is_some f || b)
flag_set = grind arith

module _ {B : Type 0} where
  pub in_flag : (f : Option Runnable) (slot : TaskSlot B) → IsRunnable (one_of f None) slot → IsRunnable f slot
  in_flag None slot h = h
  in_flag (Some r) slot h = h

  pub of_flag : (f : Option Runnable) (slot : TaskSlot B) → IsRunnable f slot → IsRunnable (one_of f None) slot
  of_flag None slot h = h
  of_flag (Some r) slot h = h

  -- its runnable is in the flag then, if it wasn't before
  pub flag_woken : (slot : TaskSlot B) (flag : Option Runnable) (p : Phase B) → slot.cell.phase ≡ p → IsRunnable flag slot
      → IsRunnable (if is_cell_idle p then Some (runnable_of slot.cell) else flag) (record slot { fresh = false; cell = record slot.cell { phase = cell_woken p } })
  flag_woken = grind arith

  pub stands_woken : (x : Option InPoll) (i : ℕ) (slot : TaskSlot B) → Stands x i slot → Stands x i (woken_slot slot)
  stands_woken x i slot it =
      record { polled = polled_woken slot.cell.phase ∙ it.polled; body = it.body; poller = it.poller; kept = it.kept; uncleared = it.uncleared; told = λ h. it.told (ap (is_told slot.waiting) (sym (complete_woken slot.cell.phase)) ∙ h); untold = it.untold; waits = it.waits }

  abbrev pub flag_then : Option Runnable → TaskSlot B → Option Runnable
  flag_then flag slot = if is_cell_idle slot.cell.phase then Some (runnable_of slot.cell) else flag

  root_woken : (t : ℕ) (w : Worker) (s : Shared B) (slot : TaskSlot B) → SoundAt (Place.Poll t InPoll.Act) w s → slice_get s.tasks.items w.root ≡ Some slot → Tasked (Place.Poll t InPoll.Act) w (flag_then w.root_ready slot) None s (slice_set s.tasks.items w.root (woken_slot slot))
  root_woken t w s slot sound there =
      let tasks : List (TaskSlot B) = s.tasks.items in
      let slot' : TaskSlot B = woken_slot slot in
      let x = polled_in w.root (Place.Poll t InPoll.Act) in
      let found : slice_get (slice_set tasks w.root slot') w.root ≡ Some slot' = set_there tasks w.root slot' slot there in
      let same : sound.runnable.root ≡ slot = same_Some sound.runnable.root slot (sym sound.runnable.there ∙ there) in
      let is : (o : TaskSlot B) → slice_get (slice_set tasks w.root slot') w.root ≡ Some o → slot' ≡ o = λ o at_root. same_Some slot' o (sym found ∙ at_root) in
      let run : IsRunnable w.root_ready slot = in_flag w.root_ready slot (subst (λ (o : TaskSlot B). IsRunnable (one_of w.root_ready None) o) same sound.runnable.once) in
      let home : slot.home ≡ Some w.index = sym (ap (λ (o : TaskSlot B). o.home) same) ∙ sound.runnable.home in
      record {
        pooled = λ h. absurd (false≢true h);
        serves = sound.serves;
        homes = homes_set s.config.workers (length s.seats.items) tasks w.root slot slot' there (record { home = refl; number = refl; owner = refl }) sound.homes;
        runnable = record {
          root = slot';
          there = found;
          home = sym (ap (λ (o : TaskSlot B). o.home) same) ∙ sound.runnable.home;
          number = sym (ap (λ (o : TaskSlot B). o.cell.number) same) ∙ sound.runnable.number;
          once = of_flag (flag_then w.root_ready slot) slot' (flag_woken slot w.root_ready slot.cell.phase refl run);
          one = λ some. refl;
        };
        hand = refl;
        genuine = λ r has. absurd (none_in r has);
        guest = λ apart. let it = sound.guest apart in (it.0, set_elsewhere tasks w.root t slot' apart ∙ it.1, it.2);
        resting = resting_set tasks w.root slot slot' there (λ none unpolled. let never : None ≡ Some w.index = sym none ∙ home in absurd (cc)) sound.resting;
        stops = λ o found_t. tt;
        going = λ o at_root. subst (λ (y : TaskSlot B). is_complete y.cell.phase ≡ false) (is o at_root) (complete_woken slot.cell.phase ∙ (sound.phased sound.seated.seat sound.seated.there).root slot there);
        stands = λ o at_root. subst (Stands x w.index) (is o at_root) (stands_woken x w.index slot (sound.tied.stands slot there));
      }

  -- what is sound then, and what others keep
  pub record Flags (t : ℕ) (f : Option Runnable) (w : Worker) (s s' : Shared B) : Type 0 where
    pub sound : SoundAt (Place.Poll t InPoll.Act) (record w { place = Place.Poll t InPoll.Act; root_ready = f; hand = None }) (record s { tasks = s'.tasks })
    pub beside : Beside w s (record w { place = Place.Poll t InPoll.Act; root_ready = f; hand = None }) (record s { tasks = s'.tasks })

  pub flags : (t : ℕ) (w : Worker) (s s' : Shared B) (slot : TaskSlot B) → SoundAt (Place.Poll t InPoll.Act) w s → slice_get s.tasks.items w.root ≡ Some slot → s'.tasks.items ≡ slice_set s.tasks.items w.root (woken_slot slot) → Flags t (flag_then w.root_ready slot) w s s'
  flags t w s s' slot sound there items =
      let q : Place = Place.Poll t InPoll.Act in
      let f : Option Runnable = flag_then w.root_ready slot in
      let keeps : Keeps slot (woken_slot slot) = record { home = refl; number = refl; owner = refl } in
      let home : slot.home ≡ Some w.index = ap (λ (o : TaskSlot B). o.home) (same_Some slot sound.runnable.root (sym there ∙ sound.runnable.there)) ∙ sound.runnable.home in
      let ordinary : slot.home ≡ None → ⊥ = λ none. let never : Some w.index ≡ None = sym home ∙ none in absurd (cc) in
      let bal : Balances w.root q w None slot (woken_slot slot) = grind arith in
      record {
        sound = sound_tasked t InPoll.Act q w f None s s' sound (on_in_poll t InPoll.Act refl refl) (subst (Tasked q w f None s) (sym items) (root_woken t w s slot sound there));
        beside = record {
          spares = λ j other.
              spares_slot w.index j w.root s s' slot (woken_slot slot) other there items keeps (λ is. other (same_Some j w.index (sym is ∙ home)))
              (λ polled mine. record { polled = polled_woken slot.cell.phase ∙ polled; number = refl; cancelled = λ e. e; kept = refl }) sound.homes;
          whole = λ others whole.
              whole_slot w.root q w f None s s' slot (woken_slot slot) others (sound.loot.none refl) (ap claims_at sound.here) (ap has_count_at sound.here) (ap is_published_at sound.here) (ap clears_at sound.here) (λ none. absurd (ordinary none)) (on_in_poll t InPoll.Act refl refl) there items bal whole;
        };
      }

module _ {B L : Type 0} (left : B → L) (spot : L → Option Said → Spot) where
  pub wakes_root : (t u : ℕ) (w : Worker) (s : Shared B) (other : TaskSlot B) → w.hand ≡ None → other.home ≡ Some w.index → (p : Plan) (vs : Views) → IsWake left spot t u (Place.Poll t InPoll.Act) (flag_then w.root_ready other) None w s other p vs
  wakes_root = grind arith
