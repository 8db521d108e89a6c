-- The act by which a task wakes an ordinary task, or itself: the whole step.
use Rattle.std.proofs.{Common.{MatchBool, ◌≡◌, ◌≢◌, ℕ, suc, ◌<◌, arith, Bool, true, false, List, [], ◌∷◌, length, Option, Some, None, refl, sym, ap, subst, ◌∙◌, slice_get, slice_index_or, slice_set, get_or, if◌then◌else◌}, lemmas.{Bool.{eq-eqb}, List.{length-map, length-set}, Option.slice_get-get_or}}
use Rattle.exec_base.specs.declared.task_no.TaskNo.{TaskNo}
use Rattle.exec_task.specs.{Phases.{is_polled, is_idle as is_cell_idle, runnable_of}, Sight.Sight, declared.{body.{Act.Act, Said.Said}, runnable.Runnable.Runnable}}
use Rattle.exec_machine.specs.{declared.{config.ScriptWord.ScriptWord, event.Event.{Event, TheVariants.Wake}, state.{MailMessage.MailMessage, Waiting.Waiting}}, Progress.Plan, Tasks.{after_waking_word}, Words.{idle_words, is_idle_word, moved_on, next_word, words_left}, World.{Common, Task}}
use Rattle.exec_moves.specs.declared.{handing.{AfterPush.AfterPush, AfterSend.AfterSend}, place.{InPoll.InPoll, Place.Place}}
use Rattle.exec_parts.{specs.{Records.numbers_held, Tests.first_push_of, declared.parts.{shared.Shared.Shared, task_slot.TaskSlot.TaskSlot, worker.Worker.Worker}, Pooled.{Sends, WakesBy, WakesHere, WakesOrdinary, WakesTask, woken_slot}, Scripts.{GoesOn, IsAnswer, IsAnswered, held_after}, Spots.{Spot, spot_of}, View.{Views, common_of, task_seen}}, proofs.Facts.{by_number, set_there}}
use Rattle.exec_invariants.{specs.{Acting.{HasActed, Performs, StepsOf}, Sound.SoundAt, Spares.{Spares, SparesBy, SparesPolled}, Whole.IsGenuine, Works.{Beside, Suits}}, proofs.{Flagged.{Flags, flag_then, flags, wakes_root}, Acting.{Leaves, act_leaves, actor, moved_seen, tells_on}, DedicatedSeen.pool_seen, Cells.{body_woken, complete_woken}, Performing.{still_performs}, Still.performs_still, Stirs.{IsWake, LeadsOn, Stirs, ToldFirst, leads_idle, leads_on, stirs, wakes_ordinary, wakes_works}}}

-- who is woken by a word is a task that there is
by_first : (s : Common) (it : Task) (u : ℕ) (x : ScriptWord) (ws : List ScriptWord) → (slice_index_or ws (idle_words s it ws) ScriptWord.End ≡ ScriptWord.Wake u → u < length s.tasks)
    → (b : Bool) → is_idle_word s it x ≡ b → slice_index_or (x ∷ ws) (if b then suc (idle_words s it ws) else 0) ScriptWord.End ≡ ScriptWord.Wake u → u < length s.tasks
by_first = grind arith

among_words : (s : Common) (it : Task) (u : ℕ) (ws : List ScriptWord) → slice_index_or ws (idle_words s it ws) ScriptWord.End ≡ ScriptWord.Wake u → u < length s.tasks
among_words s it u [] found = let never : ScriptWord.End ≡ ScriptWord.Wake u = found in absurd (cc)
among_words s it u (x ∷ ws) found = by_first s it u x ws (among_words s it u ws) (is_idle_word s it x) refl found

pub wakes_some : (s : Common) (it : Task) (u : ℕ) → next_word s it ≡ ScriptWord.Wake u → u < length s.tasks
wakes_some s it u is = among_words s it u (words_left s it) is

module _ {B : Type 0} where
  -- one change of tasks, and then another step
  pub spares_on : (more : Bool) (j : ℕ) (s m s' : Shared B) → Spares j s (record s { tasks = m.tasks }) → SparesBy more j (record s { tasks = m.tasks }) s' → SparesBy more j s s'
  spares_on more j s m s' first second =
      let root : (t : ℕ) (slot : TaskSlot B) → slice_get s.tasks.items t ≡ Some slot → slot.home ≡ Some j → slice_get s'.tasks.items t ≡ Some slot = λ t slot found home. second.root t slot (first.root t slot found home) home in
      let polled : (t : ℕ) (slot : TaskSlot B) → slice_get s.tasks.items t ≡ Some slot → is_polled slot.cell.phase ≡ true → slot.poller ≡ j → (slot' : TaskSlot B) × (slice_get s'.tasks.items t ≡ Some slot') × SparesPolled slot slot' = λ t slot found polled mine.
      let one = first.polled t slot found polled mine in
      let two = second.polled t one.0 one.1 one.2.polled (ap (λ (o : TaskSlot B). o.poller) one.2.kept ∙ mine) in
      let kept = two.2.kept ∙ ap (λ (o : TaskSlot B). record o { cell = two.0.cell; cleared = two.0.cleared; fresh = two.0.fresh; output = two.0.output }) one.2.kept in
      (two.0, two.1, record { polled = two.2.polled; number = two.2.number ∙ one.2.number; cancelled = λ h. two.2.cancelled (one.2.cancelled h); kept = kept }) in
      let genuine : (r : Runnable) → IsGenuine s.tasks.items r → IsGenuine s'.tasks.items r = λ r is. second.genuine r (first.genuine r is) in
      assumption (root, polled, genuine, second)

module _ {B L : Type 0} (left : B → L) (runs : L → Plan → Option ℕ → Type 0) (holds : L → Option Said → List ℕ) (spot : L → Option Said → Spot) (gives : L → Option Sight → Said → Act B → L → Option Sight → Type 0) where
  performs_woken : (p : Plan) (slot : TaskSlot B) → Performs left runs holds p slot → Performs left runs holds p (woken_slot slot)
  performs_woken p slot = performs_still left runs holds spot p slot (woken_slot slot) (record { home = refl; body = body_woken slot.cell.phase slot.body; going = λ h. sym (complete_woken slot.cell.phase) ∙ h; told = λ answer hears. (hears, refl) })

  pub performs_passing : (p : Plan) (slot : TaskSlot B) (b' : B) (a : Act B) → IsAnswer a Said.Pass → held_after a Said.Pass (numbers_held slot.held.items) ≡ (numbers_held slot.held.items) → is_polled slot.cell.phase ≡ true → slot.waiting ≡ Waiting.Nothing → GoesOn runs holds spot gives p (task_seen left spot slot) a (left b')
      → Performs left runs holds p (record slot { body = Some b'; told = Some Said.Pass })
  performs_passing = grind arith

  -- the task that woke has gone on past its word, and the other was woken then
  module _ (answered : IsAnswered spot) (t : ℕ) (n : TaskNo) (w w' : Worker) (s s1 s' : Shared B) (e : Event) (h : HasActed left runs holds spot gives t w s s1 (Act.Wake n)) (it : WakesTask t n.0 w w' s1 s' e) (other : TaskSlot B) (there : slice_get it.middle.tasks.items n.0 ≡ Some other) where
    abbrev mid_slot : TaskSlot B
    mid_slot = record h.made.slot { body = Some h.made.acts.body'; told = Some Said.Pass }

    abbrev told_only : Shared B
    told_only = record s { tasks = it.middle.tasks }

    mid_leaves : Leaves left runs holds spot gives t InPoll.Act w s it.middle mid_slot
    mid_leaves =
        let who = actor left runs holds spot gives t w s s1 (Act.Wake n) h in
        act_leaves left runs holds spot gives t InPoll.Act w s s1 it.middle (Act.Wake n) (λ o. record o { told = Some Said.Pass }) h (tells_on t h.made.slot h.made.acts.body' Said.Pass who.polled who.waits) it.told

    still_there : record w { place = Place.Poll t InPoll.Act; root_ready = w.root_ready; hand = None } ≡ w
    still_there = ap (λ o. record w { place = Place.Poll t InPoll.Act; hand = o }) (sym h.sound.hand) ∙ ap (λ q. record w { place = q }) (sym h.sound.here)

    pub mid_sound : SoundAt (Place.Poll t InPoll.Act) w told_only
    mid_sound = subst (λ v. SoundAt (Place.Poll t InPoll.Act) v told_only) still_there mid_leaves.sound

    mid_there : slice_get told_only.tasks.items n.0 ≡ Some other
    mid_there = there

    woke : (q : Place) (f hand : Option Runnable) → s' ≡ record s { tasks = s'.tasks } → s'.tasks.items ≡ slice_set it.middle.tasks.items n.0 (woken_slot other) → w' ≡ record w { place = q; root_ready = f; hand = hand } → e ≡ Wake n.0
        → SoundAt q (record w { place = q; root_ready = f; hand = hand }) (record s { tasks = s'.tasks }) → Beside w told_only (record w { place = q; root_ready = f; hand = hand }) (record s { tasks = s'.tasks })
        → ((p : Plan) (vs : Views) → Suits p vs w s → IsWake left spot t n.0 q f hand w s other p vs) → StepsOf left runs holds spot w s e w' s'
    woke q f hand kept items at event sound beside is =
        let u : ℕ = n.0 in
        let m : Shared B = it.middle in
        let slot : TaskSlot B = h.made.slot in
        let b' : B = h.made.acts.body' in
        let mid : TaskSlot B = mid_slot in
        let who = actor left runs holds spot gives t w s s1 (Act.Wake n) h in
        let first : ToldFirst left spot t s m slot mid = record { there = h.made.there; items = mid_leaves.items; kept = mid_leaves.kept; cell = refl; home = refl } in
        let w1 : Worker = record w { place = q; root_ready = f; hand = hand } in
        let s2 : Shared B = record s { tasks = s'.tasks } in
        let one : Beside w s w told_only = subst (λ v. Beside w s v told_only) still_there mid_leaves.beside in
        let done : StepsOf left runs holds spot w s (Wake u) w1 s2 = (
          (λ p vs suits fits.
              let so = h.asks p vs (fits t slot h.made.there) in
              let all = common_of left spot p vs s in
              let past : spot (left b') (Some Said.Pass) ≡ spot_of (moved_on all (task_seen left spot slot)) = answered (left b') Said.Pass (λ never. absurd (cc)) ∙ so.stands in
              let moved : after_waking_word all (task_seen left spot slot) ≡ task_seen left spot mid = grind (arith, so.asks, moved_seen left spot all slot b' (Some Said.Pass) who.polled past) in
              wakes_works left spot t u q f hand w s m s' slot mid other h.sound.here first there items who.waits p vs suits so.asks moved (is p vs suits)),
          sound,
          record {
            root = refl;
            config = refl;
            performs = λ p is fits.
                (still_performs left runs holds u w w1 told_only s2 other (woken_slot other) there items refl refl (λ p' fits'. performs_woken p' other fits')).performs p is
                ((still_performs left runs holds t w w s told_only slot mid h.made.there mid_leaves.items refl refl
                (λ p' fits'. performs_passing p' slot b' (Act.Wake n) tt refl who.polled who.waits ((h.asks p' (record { workers = []; calls = [] }) fits').goes_on refl))).performs p is fits);
          },
          record {
            spares = λ j apart. spares_on false j s m s2 (one.spares j apart) (beside.spares j apart);
            whole = λ others whole. beside.whole others (one.whole others whole);
          },
        ) in
        subst (λ x. StepsOf left runs holds spot w s e w' x) (sym kept) (subst (λ v. StepsOf left runs holds spot w s e v s2) (sym at) (subst (λ x. StepsOf left runs holds spot w s x w1 s2) (sym event) done))

    -- an ordinary task
    pub woke_ordinary : other.home ≡ None → StepsOf left runs holds spot w s e w' s'
    woke_ordinary ordinary = by (is_cell_idle other.cell.phase) refl
      where
        m : Shared B
        m = it.middle

        wakes : WakesOrdinary t n.0 w w' m s' × (e ≡ Wake n.0)
        wakes = subst (λ o. WakesBy o t n.0 w w' m s' e) ordinary (it.wakes other there)

        items : s'.tasks.items ≡ slice_set m.tasks.items n.0 (woken_slot other)
        items = wakes.0.task.tasks other there

        kept : s' ≡ record s { tasks = s'.tasks }
        kept = wakes.0.task.kept ∙ ap (λ (x : Shared B). record x { tasks = s'.tasks }) mid_leaves.kept

        goes : (q : Place) (hand : Option Runnable) → LeadsOn t n.0 w other q hand → w' ≡ record w { place = q; root_ready = w.root_ready; hand = hand } → StepsOf left runs holds spot w s e w' s'
        goes q hand lead at =
            let stirred : Stirs q hand w told_only s' = stirs t n.0 q hand w told_only s' other mid_sound mid_there ordinary items lead in
            woke q w.root_ready hand kept items at wakes.1 stirred.sound stirred.beside (λ p vs suits. wakes_ordinary left spot t n.0 q hand w s other ordinary lead p vs (pool_seen left spot p vs (Place.Poll t InPoll.Act) w s h.sound suits))

        by : (b : Bool) → is_cell_idle other.cell.phase ≡ b → StepsOf left runs holds spot w s e w' s'
        by true idle =
            goes (first_push_of (AfterPush.Act t) w) (Some (runnable_of other.cell)) (leads_idle t n.0 w other (mid_sound.homes.number n.0 other mid_there) idle)
            (wakes.0.worker other there ∙ ap (λ b. if b then record w { place = first_push_of (AfterPush.Act t) w; hand = Some (runnable_of other.cell) } else record w { place = Place.Poll t InPoll.Act }) idle)
        by false busy =
            goes (Place.Poll t InPoll.Act) None (leads_on t n.0 w other h.sound.hand busy)
            (wakes.0.worker other there ∙ ap (λ b. if b then record w { place = first_push_of (AfterPush.Act t) w; hand = Some (runnable_of other.cell) } else record w { place = Place.Poll t InPoll.Act }) busy ∙ ap (λ o. record w { place = Place.Poll t InPoll.Act; hand = o }) h.sound.hand)

    -- the own root
    pub woke_root : n.0 ≡ w.root → other.home ≡ Some w.index → StepsOf left runs holds spot w s e w' s'
    woke_root root home =
        let m : Shared B = it.middle in
        let wakes : WakesHere t n.0 w w' m s' e = subst (λ b. MatchBool b (WakesHere t n.0 w w' m s' e) (Sends w.index MailMessage.Root (AfterSend.Act t) w w' m s' e)) (eq-eqb w.index w.index refl) (subst (λ o. WakesBy o t n.0 w w' m s' e) home (it.wakes other there)) in
        let at_root : slice_get m.tasks.items w.root ≡ Some other = ap (slice_get m.tasks.items) (sym root) ∙ there in
        let items : s'.tasks.items ≡ slice_set m.tasks.items w.root (woken_slot other) = wakes.wakes.task.tasks other at_root in
        let kept : s' ≡ record s { tasks = s'.tasks } = wakes.wakes.task.kept ∙ ap (λ (x : Shared B). record x { tasks = s'.tasks }) mid_leaves.kept in
        let q : Place = Place.Poll t InPoll.Act in
        let f : Option Runnable = flag_then w.root_ready other in
        let flagged : Flags t f w told_only s' = flags t w told_only s' other mid_sound at_root items in
        let v : Worker = record w' { place = w.place } in
        let same : v ≡ record w { root_ready = f } = wakes.wakes.worker ∙ ap (λ o. record w { root_ready = o }) (wakes.wakes.flag other at_root) in
        let at : w' ≡ record w { place = q; root_ready = f; hand = None } =
        ap (λ y. record w' { place = y }) wakes.place ∙ ap (λ (x : Worker). record x { place = q }) same ∙ ap (λ o. record w { place = q; root_ready = f; hand = o }) h.sound.hand in
        woke q f None kept (items ∙ ap (λ k. slice_set m.tasks.items k (woken_slot other)) (sym root)) at wakes.event flagged.sound flagged.beside (λ p vs suits. wakes_root left spot t n.0 w s other h.sound.hand home p vs)

    -- any task, where a root of another worker is sent its message so
    pub woke_by : ((j : ℕ) → other.home ≡ Some j → j ≢ w.index → StepsOf left runs holds spot w s e w' s') → StepsOf left runs holds spot w s e w' s'
    woke_by elsewhere = by other.home refl
      where
        by : (o : Option ℕ) → other.home ≡ o → StepsOf left runs holds spot w s e w' s'
        by None home = woke_ordinary home
        by (Some j) home =
            by_number j w.index (λ apart. elsewhere j home apart)
            (λ same.
            let mine : other.home ≡ Some w.index = home ∙ ap (λ i. Some i) same in
            let root = mid_sound.runnable in
            woke_root (mid_sound.homes.once n.0 w.root w.index other root.root mid_there root.there mine root.home) mine)

  -- who is woken is there
  pub woken_within : (t : ℕ) (n : TaskNo) (w : Worker) (s s1 : Shared B) → HasActed left runs holds spot gives t w s s1 (Act.Wake n) → n.0 < length s1.tasks.items
  woken_within t n w s s1 h =
      let p : Plan = h.one.0 in
      let none : Views = record { workers = []; calls = [] } in
      let all = common_of left spot p none s in
      let some : n.0 < length all.tasks = wakes_some all (task_seen left spot h.made.slot) n.0 (h.asks p none h.one.2).asks in
      rw (h.made.tasks, length-set) (subst (λ k. n.0 < k) (length-map s.tasks.items (task_seen left spot)) some)

  pub woken_there : (t : ℕ) (n : TaskNo) (w w' : Worker) (s s1 s' : Shared B) (e : Event) → HasActed left runs holds spot gives t w s s1 (Act.Wake n) → (it : WakesTask t n.0 w w' s1 s' e) → (other : TaskSlot B) × (slice_get it.middle.tasks.items n.0 ≡ Some other)
  woken_there t n w w' s s1 s' e h it =
      let m = h.made in
      let there : slice_get s1.tasks.items t ≡ Some m.slot' = ap (λ ts. slice_get ts t) m.tasks ∙ set_there s.tasks.items t m.slot' m.slot m.there in
      let within : n.0 < length it.middle.tasks.items = rw (it.told.tasks m.slot' there, length-set) (woken_within t n w s s1 h) in
      (get_or it.middle.tasks.items n.0 m.slot', slice_get-get_or it.middle.tasks.items n.0 m.slot' within)
