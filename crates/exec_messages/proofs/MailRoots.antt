-- A message of the batch wakes the own root.
use Rattle.std.proofs.{Common.{◌≡◌, ◌≢◌, ℕ, ◌+◌, ◌||◌, Bool, Contains, List, [], length, map, option_to_list, Option, Some, None, is_some, refl, sym, ap, subst, ◌∙◌, arith, slice_get, slice_set, if◌then◌else◌}, lemmas.{Bool.false≢true, List.map-set}}
use Rattle.exec_words.specs.declared.inbox.Message.{Message}
use Rattle.exec_task.specs.{Phases.{is_idle, runnable_of}, declared.{body.Said.Said, runnable.Runnable.Runnable}}
use Rattle.exec_machine.specs.{declared.{event.Event.{Event, TheVariants.Apply}, state.MailMessage.TheVariants.Root}, Tasks.woken, World.task_of}
use Rattle.exec_moves.specs.{Callback.flagged_by, declared.place.{InMail.InMail, Place.Place}, Mail.after_message, State.Desk}
use Rattle.exec_parts.{specs.{declared.parts.{seat.Seat.Seat as Chair, shared.Shared.Shared, task_slot.TaskSlot.TaskSlot, worker.Worker.Worker}, Phased.{IsPhased, closes_at, closing_in, stage_of}, Pooled.{WakesOwnRoot, woken_slot}, Spots.Spot, View.{common_of, desk_of, message_of, task_seen, visible, with_view}}, proofs.Facts.{same_Some, set_there}}
use Rattle.exec_invariants.{specs.{Hearing.Hears, Holding.{IsHolding, Mail, box_of, holder_of, nap_of, thing_of}, Places.{begins_at, claims_at, clears_at, has_count_at, is_published_at, polled_in, step_of_poll}, Sound.{AreHome, AreResting, HasGuest, HasRunnable, IsHeld, IsRunnable, IsTied, SoundAt, Stands, Stops, one_of, root_in_hand}, Whole.{IsGenuine, IsWhole, Profile, hands_of, with_worker}, Works.Steps}, proofs.{Aside.{SameProfile, profile_same}, Cells.{body_woken, complete_woken, idle_seen, woken_seen}, Closes.root_there, Flagged.{flag_then, flag_woken, in_flag, of_flag, stands_woken}, Hearing.hears_so, HoldMail.is_never, HoldPosts.moved, MailApplies.{Leads, applied_keeps, applied_sound, applied_works, leads, one_less, passed_on, rest_of, things_viewed}, MailMoves.whole_moved, PoolKept.{gates_same}, Resolving.places_fewer, Serving.spares_same, Slots.{Balances, spares_slot, whole_slot}, SlotTasks.{IsAfter, Keeps, homes_set, none_in, resting_set}, Turning.view_found}}

or_some : (idle : Bool) (flag : Option Runnable) (r : Runnable) → (is_some flag || idle) ≡ is_some (if idle then Some r else flag)
or_some = grind arith

-- a place of which all others see as little
pub at_start : IsAfter Place.BeginTurn
at_start = record { open_still = refl; closing = refl; served = refl; unarmed = refl; calls = refl; begins = refl; queue = λ x h. h; searching = λ b h. tt; aims = λ c i seats. tt; batch = λ ms h. absurd (false≢true h); spare = refl; cancels = refl; sends_cancel = refl; heard = refl; bare = refl; claims = refl; counts = refl; published = refl; clears = refl; passes = refl; joins = refl }

module _ {B : Type 0} where
  hears_woken : (slot : TaskSlot B) → Hears slot (woken_slot slot)
  hears_woken slot = record { home = refl; body = body_woken slot.cell.phase slot.body; going = λ h. sym (complete_woken slot.cell.phase) ∙ h; told = λ answer h. (h, refl) }

  -- where nobody polls, the root's slot became that of a woken task
  root_woken : (q : Place) (w : Worker) (f : Option Runnable) (s s' : Shared B) (slot : TaskSlot B) → SoundAt q w s → slice_get s.tasks.items w.root ≡ Some slot → s'.tasks.items ≡ slice_set s.tasks.items w.root (woken_slot slot) → f ≡ flag_then w.root_ready slot
      → Leads q → w.hand ≡ None → w.loot.values ≡ [] → SoundAt q (record w { root_ready = f }) (record s { tasks = s'.tasks })
  root_woken q w f s s' slot sound there items flag to empty none =
      let tasks : List (TaskSlot B) = s'.tasks.items in
      let slot' : TaskSlot B = woken_slot slot in
      let found : slice_get tasks w.root ≡ Some slot' = ap (λ ts. slice_get ts w.root) items ∙ set_there s.tasks.items w.root slot' slot there in
      let same : sound.runnable.root ≡ slot = same_Some sound.runnable.root slot (sym sound.runnable.there ∙ there) in
      let is : (o : TaskSlot B) → slice_get tasks w.root ≡ Some o → slot' ≡ o = λ o at_root. same_Some slot' o (sym found ∙ at_root) in
      let home : slot.home ≡ Some w.index = sym (ap (λ (o : TaskSlot B). o.home) same) ∙ sound.runnable.home in
      let once : IsRunnable (one_of w.root_ready None) slot = subst (λ o. IsRunnable (one_of w.root_ready (root_in_hand o w.root w.hand)) slot) to.begins (subst (λ (o : TaskSlot B). IsRunnable (one_of w.root_ready (root_in_hand (begins_at q) w.root w.hand)) o) same sound.runnable.once) in
      let keeps : Keeps slot slot' = record { home = refl; number = refl; owner = refl } in
      let homes : AreHome s.config.workers (length s.seats.items) tasks = subst (λ ts. AreHome s.config.workers (length s.seats.items) ts) (sym items) (homes_set s.config.workers (length s.seats.items) s.tasks.items w.root slot slot' there keeps sound.homes) in
      let runnable0 : HasRunnable w.index w.root f None tasks = record {
        root = slot';
        there = found;
        home = home;
        number = sym (ap (λ (o : TaskSlot B). o.cell.number) same) ∙ sound.runnable.number;
        once = subst (λ g. IsRunnable (one_of g None) slot') (sym flag) (of_flag (flag_then w.root_ready slot) slot' (flag_woken slot w.root_ready slot.cell.phase refl (in_flag w.root_ready slot once)));
        one = λ some. refl;
      } in
      let runnable : HasRunnable w.index w.root f (root_in_hand (begins_at q) w.root w.hand) tasks = subst (λ o. HasRunnable w.index w.root f (root_in_hand o w.root w.hand) tasks) (sym to.begins) runnable0 in
      let resting : AreResting tasks = subst (λ ts. AreResting ts) (sym items) (resting_set s.tasks.items w.root slot slot' there (λ ordinary unpolled. let never : None ≡ Some w.index = sym ordinary ∙ home in absurd (cc)) sound.resting) in
      let genuine : (r : Runnable) → Contains (option_to_list w.hand) r → IsHeld (begins_at q) w.root tasks r = λ r has. absurd (none_in r (subst (λ o. Contains (option_to_list o) r) empty has)) in
      let stolen : (r : Runnable) → Contains w.loot.values r → IsGenuine tasks r = λ r has. absurd (none_in r (subst (λ rs. Contains rs r) none has)) in
      let guest = subst (λ o. HasGuest o (step_of_poll q) w.index w.root tasks) (sym to.polls) tt in
      let stops = subst (λ o. Stops o (step_of_poll q) w.index tasks s.requests.items s.sleepers.items) (sym to.polls) tt in
      let phased : (chair : Chair) → slice_get s.seats.items w.index ≡ Some chair → IsPhased w.index (closes_at q) (closing_in q) w.home.closing w.root w.names.unreleased (stage_of chair s) tasks = λ chair at.
      let old = sound.phased chair at in
      grind (arith, complete_woken) in
      let tied : IsTied (polled_in w.root q) w.index w.root tasks = record { stands = λ o at_root. subst (Stands (polled_in w.root q) w.index) (is o at_root) (stands_woken (polled_in w.root q) w.index slot (sound.tied.stands slot there)) } in
      assumption (homes, runnable, resting, genuine, stolen, guest, stops, phased, tied, sound)

  -- the balances
  root_whole : (applied : ℕ) (taken : Bool) (w w1 : Worker) (f : Option Runnable) (s s' : Shared B) (slot : TaskSlot B) → (sound : SoundAt (Place.Mail (InMail.Apply applied taken)) w s) → slice_get s.tasks.items w.root ≡ Some slot → s'.tasks.items ≡ slice_set s.tasks.items w.root (woken_slot slot)
      → slot.home ≡ Some w.index → slice_get w.batch.values 0 ≡ Some Message.WakeRoot → w1 ≡ record (passed_on w) { place = w1.place; root_ready = f } → Leads w1.place
      → (others : Profile) → IsWhole (with_worker others w) s → IsWhole (with_worker others w1) (record s { tasks = s'.tasks })
  root_whole applied taken w w1 f s s' slot sound there items home first same to others whole =
      let v : Worker = passed_on w in
      let x = with_worker others w in
      let xv = with_worker others v in
      let slot' : TaskSlot B = woken_slot slot in
      let no_mail : (k : Mail) → k ≢ Message.WakeRoot → xv.mail k ≡ x.mail k = λ k apart. let less = one_less others w Message.WakeRoot first k in let none = is_never k Message.WakeRoot apart in omega (arith, less, none) in
      let holding : IsHolding (hands_of xv) s.config.workers (map holder_of s.tasks.items) (map thing_of s.requests.items) (map nap_of s.sleepers.items) (map box_of s.seats.items) =
      moved (hands_of x) (hands_of xv) s.config.workers (map holder_of s.tasks.items) (map thing_of s.requests.items) (map nap_of s.sleepers.items) (map box_of s.seats.items) (map box_of s.seats.items)
      (record {
        many = refl;
        back = λ j box at. (box, at, record { shut = refl; closing = refl; places = λ h. h; made = refl });
        wakes = refl;
        way = grind arith;
        about = whole.holding.about;
        made = λ k some. let less = one_less others w Message.WakeRoot first k in whole.holding.made k (omega (arith, less, some));
      }) whole.holding in
      let fewer : IsWhole xv s = whole_moved x xv.mail s s refl (gates_same s.seats.items s.seats.items refl) refl holding refl refl whole in
      let ordinary : slot.home ≡ None → ⊥ = λ none. let never : Some w.index ≡ None = sym home ∙ none in absurd (cc) in
      let bal : Balances w.root Place.BeginTurn v w.hand slot slot' = grind arith in
      let turned : IsWhole (with_worker others (record v { place = Place.BeginTurn; root_ready = f; hand = w.hand })) (record s { tasks = s'.tasks }) =
      whole_slot w.root Place.BeginTurn v f w.hand s s' slot slot' others (sound.loot.none refl) (ap claims_at sound.here) (ap has_count_at sound.here) (ap is_published_at sound.here) (ap clears_at sound.here) (λ none. absurd (ordinary none)) at_start there items bal fewer in
      let u : Worker = record v { place = Place.BeginTurn; root_ready = f } in
      let alike : SameProfile u w1 = grind arith in
      rw (profile_same others u w1 alike) turned

module _ {B L : Type 0} (left : B → L) (spot : L → Option Said → Spot) where
  pub root_applied : (applied : ℕ) (taken : Bool) (w w' : Worker) (s s' : Shared B) (e : Event) → SoundAt (Place.Mail (InMail.Apply applied taken)) w s → slice_get w.batch.values 0 ≡ Some Message.WakeRoot → e ≡ Apply Root → WakesOwnRoot (passed_on w) (record w' { place = w.place }) s s'
      → w'.place ≡ after_message (applied + 1) (map message_of (rest_of w)) → Steps left spot w s e w' s'
  root_applied applied taken w w' s s' e sound first event wakes place =
      let slot = sound.runnable.root in
      let there = sound.runnable.there in
      let slot' : TaskSlot B = woken_slot slot in
      let items : s'.tasks.items ≡ slice_set s.tasks.items w.root slot' = wakes.task.tasks slot there in
      let f : Option Runnable = w'.root_ready in
      let flag : f ≡ flag_then w.root_ready slot = wakes.flag slot there in
      let q' : Place = after_message (applied + 1) (map message_of (rest_of w)) in
      let to : Leads q' = leads applied (map message_of (rest_of w)) in
      let v : Worker = record (passed_on w) { place = q' } in
      let w1 : Worker = record v { root_ready = f } in
      let s1 : Shared B = record s { tasks = s'.tasks } in
      let same : w' ≡ w1 = ap (λ (x : Worker). record x { place = w'.place }) wakes.worker ∙ ap (λ y. record (passed_on w) { root_ready = f; place = y }) place in
      let before : SoundAt q' v s = applied_sound applied taken w w s s sound (spares_same w.index s s sound.gates refl refl refl) (let k = applied_keeps applied taken w s sound in record { told = places_fewer (omega arith) k.told; wide = k.wide; named = k.named; sized = k.sized; over = k.over; due = k.due; flown = k.flown; carried = k.carried; known = k.known; rooted = k.rooted }) in
      let after : SoundAt q' w1 s1 = root_woken q' v f s s' slot before there items flag to sound.hand (sound.loot.none refl) in
      let keeps : Keeps slot slot' = record { home = refl; number = refl; owner = refl } in
      let done : Steps left spot w s (Apply Root) w1 s1 = (
        (λ p vs suits.
            let cs = common_of left spot p vs s in
            let d : Desk = desk_of w in
            let root : task_of cs w.root ≡ task_seen left spot slot = root_there left spot p vs s w.root slot there in
            let again : with_view vs w.index (visible w) ≡ vs = view_found vs w.index (visible w) suits.seen in
            let seen : map (task_seen left spot) s'.tasks.items ≡ slice_set (map (task_seen left spot) s.tasks.items) w.root (woken (task_seen left spot slot)) =
            ap (map (task_seen left spot)) items ∙ map-set (task_seen left spot) s.tasks.items w.root slot' ∙ ap (slice_set (map (task_seen left spot) s.tasks.items) w.root) (woken_seen left spot slot) in
            let idle = idle_seen slot.cell.phase slot.poller in
            let flagged : (is_some w.root_ready || is_idle slot.cell.phase) ≡ is_some f = or_some (is_idle slot.cell.phase) w.root_ready (runnable_of slot.cell) ∙ ap (λ g. is_some g) (sym flag) in
            applied_works left spot applied taken Message.WakeRoot w w1 s s1 sound first p vs suits refl
            (ap (λ b. record d { root_ready = b; batch = map message_of (rest_of w); place = q' }) (sym flagged ∙ ap (λ b. is_some w.root_ready || b) (sym idle)) ∙ ap (λ t. record (flagged_by t d) { batch = map message_of (rest_of w); place = q' }) (sym root))
            refl
            (things_viewed vs w.index (visible w) (visible w1) s suits.seen refl)
            (rw (sound.here, to.polls, to.free, to.unserved, to.owes w.workers) refl)
            (ap (λ xs. record cs { tasks = xs }) seen ∙ ap (λ t. record cs { tasks = slice_set cs.tasks w.root (woken t) }) (sym root))),
        after,
        hears_so w.root slot slot' refl refl there items (hears_woken slot),
        record {
          spares = λ j other. spares_slot w.index j w.root s s' slot slot' other there items keeps
              (λ is. other (same_Some j w.index (sym is ∙ sound.runnable.home)))
              (λ polled own. absurd (false≢true (sym ((sound.tied.stands slot there).polled) ∙ polled))) sound.homes;
          whole = λ others whole. root_whole applied taken w w1 f s s' slot sound there items sound.runnable.home first refl to others whole;
        },
      ) in
      subst (λ x. Steps left spot w s x w' s') (sym event) (subst (λ x. Steps left spot w s (Apply Root) x s') (sym same) (subst (λ z. Steps left spot w s (Apply Root) w1 z) (sym wakes.task.kept) done))
