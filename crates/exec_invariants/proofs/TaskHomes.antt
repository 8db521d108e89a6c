-- A POLL GOES ON, and its worker's own driver has changed with one of its requests: the task took its output, waits for it, or let go of it.
use Rattle.exec_invariants.{specs.{Carried.HasRoom, Due.IsDue, Flown.HasFlown, Gates.AreLinedUp, Holding.Mail, HoldPlaces.{cancels_at, has_wakes_at, sends_cancel_at}, Places.step_of_poll, Sound.{AreHome, HasLetters, IsMyMail, SoundAt, Stops, StopsIn, served_in}, Spares.Spares, Whole.{IsWhole, Profile, with_worker}, Works.Beside}, proofs.{Words.{◌≡◌, ◌≢◌, ℕ, false, Contains, List, [], length, Option, Some, None, refl, sym, ap, subst, ◌∙◌, slice_set, arith, TaskCell, Waiting, InPoll, Place, polls_at, Subject, Record, Shared, SleeperRecord, TaskSlot, Worker, driver_of}, Here.IsHere, HoldBeside.{Handles, Holds, whole_dealt}, HoldThings.{Touches, touches_none}, Lined.lined_kept, Polling.home_mine, ServingHolds.Keeps, Serving.{SparesRecords, letter_kept, mail_kept, spares_service}, Slots.spares_slot, SlotTasks.Keeps as KeepsSlot, TaskDeals.{ComesFrom, Dealt, GoesOn, here_or_none, sound_dealt}}}

-- the place where it is says nothing of what its task waits for
abbrev pub IsFree : InPoll → Type 0
IsFree x = (i : ℕ) (u : Waiting) (rs : List Record) (ss : List SleeperRecord) → StopsIn x i u rs ss

-- the same tasks are woken
with_wakes : (others : Profile) (w' : Worker) (w2 : Worker) → w2 ≡ record w' { home = record w'.home { deferred = w2.home.deferred } } → w'.home.deferred.notes.wakes.items ≡ w2.home.deferred.notes.wakes.items → with_worker others w' ≡ with_worker others w2
with_wakes = grind arith

module _ {B : Type 0} where
  -- what changes of the worker, and of the requests
  pub record Homes (w v : Worker) (s s1 : Shared B) : Type 0 where
    pub worker : v ≡ record w { names = record w.names { ended = v.names.ended }; home = record w.home { driver = v.home.driver; deferred = v.home.deferred } }
    pub shared : s1 ≡ record s { requests = s1.requests }
    pub spares : SparesRecords w.index s s1
    pub keeps : Keeps v s1
    pub wakes : v.home.deferred.notes.wakes.items ≡ w.home.deferred.notes.wakes.items

  -- the same worker holds again before the slot changes
  pub sound_homed : (x : InPoll) (t : ℕ) (w v : Worker) (s s1 : Shared B) → IsFree x → SoundAt (Place.Poll t x) w s → Homes w v s s1 → SoundAt (Place.Poll t x) v s1
  sound_homed x t w v s s1 free sound to =
      let p : Place = Place.Poll t x in
      let v1 : Worker = record w { names = record w.names { ended = v.names.ended }; home = record w.home { driver = v.home.driver; deferred = v.home.deferred } } in
      let s2 : Shared B = record s { requests = s1.requests } in
      let rs' = s1.requests.items in
      let ss = s.sleepers.items in
      let keeps1 : Keeps v1 s2 = subst (Keeps v1) to.shared (subst (λ y. Keeps y s1) to.worker to.keeps) in
      let spares2 : SparesRecords w.index s s2 = subst (SparesRecords w.index s) to.shared to.spares in
      let workers = s.config.workers in
      let gates : AreLinedUp s.opens rs' = lined_kept s.requests.items rs' spares2.lines s.opens sound.gates in
      let mail : (m : Mail) → Contains w.batch.values m → IsMyMail workers w.index m rs' ss = λ m has. mail_kept workers w.index m s s2 spares2 (sound.mine m has) in
      let letters : HasLetters (sends_cancel_at p) (cancels_at p) w.index workers w.letters rs' ss = record {
        some = sound.letters.some;
        none = sound.letters.none;
        requests = λ h among. letter_kept workers w.index (Subject.Request h.number) h.worker s s2 spares2 (sound.letters.requests h among);
        timer = λ h is. letter_kept workers w.index (Subject.Timer h.number) h.worker s s2 spares2 (sound.letters.timer h is);
      } in
      let due : IsDue (served_in p) w.home.closing w.index w.moments s.config v1.names (driver_of v1) w.home.timers rs' ss = subst (λ q. IsDue (served_in q) w.home.closing w.index w.moments s.config v1.names (driver_of v1) w.home.timers rs' ss) sound.here keeps1.due in
      let flown : HasFlown (served_in p) w.index v1.names (driver_of v1) rs' = subst (λ q. HasFlown (served_in q) w.index v1.names (driver_of v1) rs') sound.here keeps1.flown in
      let quiet : has_wakes_at p ≡ false → v.home.deferred.notes.wakes.items ≡ [] = subst (λ q. has_wakes_at q ≡ false → v.home.deferred.notes.wakes.items ≡ []) sound.here keeps1.quiet in
      let stops : Stops (polls_at p) (step_of_poll p) w.index s.tasks.items rs' ss = free_stops (polls_at p) in
      let named = keeps1.named in
      let sized = keeps1.sized in
      let over = keeps1.over in
      let carried = keeps1.carried in
      let known = keeps1.known in
      let rooted = keeps1.rooted in
      let there : SoundAt p v1 s2 = assumption (gates, mail, letters, due, flown, quiet, stops, keeps1.told, keeps1.wide, named, sized, over, carried, known, rooted, tt, sound) in
      subst (λ y. SoundAt p y s1) (sym to.worker) (subst (SoundAt p v1) (sym to.shared) there)
    where
      free_stops : (o : Option ℕ) → Stops o x w.index s.tasks.items s1.requests.items s.sleepers.items
      free_stops None = tt
      free_stops (Some u) = λ slot there. free w.index slot.waiting s1.requests.items s.sleepers.items

  here_again : (x : InPoll) (t : ℕ) (w v : Worker) (s s1 : Shared B) → Homes w v s s1 → (it : IsHere x t w s) → (it1 : IsHere x t v s1) × (it1.slot ≡ it.slot)
  here_again x t w v s s1 to it =
      let v1 : Worker = record w { names = record w.names { ended = v.names.ended }; home = record w.home { driver = v.home.driver; deferred = v.home.deferred } } in
      let s2 : Shared B = record s { requests = s1.requests } in
      let it2 : IsHere x t v1 s2 = record { slot = it.slot; there = it.there; number = it.number; polled = it.polled; body = it.body; poller = it.poller; cancelled = it.cancelled; waits = it.waits; told = it.told; untold = it.untold; root = it.root; ordinary = it.ordinary } in
      subst (λ y. (it1 : IsHere x t y s1) × (it1.slot ≡ it.slot)) (sym to.worker) (subst (λ z. (it1 : IsHere x t v1 z) × (it1.slot ≡ it.slot)) (sym to.shared) (it2, refl))

  -- with the slot that the task has then
  pub sound_goes : (x y : InPoll) (t : ℕ) (w v : Worker) (s s' : Shared B) (slot' : TaskSlot B) → IsFree x → ComesFrom t x → GoesOn t y → SoundAt (Place.Poll t x) w s → (it : IsHere x t w s) → s' ≡ record s { tasks = s'.tasks; requests = s'.requests } → s'.tasks.items ≡ slice_set s.tasks.items t slot'
      → Homes w v s (record s { requests = s'.requests }) → Dealt y w.index it.slot slot' s'.requests.items s'.sleepers.items → SoundAt (Place.Poll t y) (record v { place = Place.Poll t y }) s'
  sound_goes x y t w v s s' slot' free from on sound it kept items to deals =
      let s1 : Shared B = record s { requests = s'.requests } in
      let it1 = here_again x t w v s s1 to it in
      let index : v.index ≡ w.index = ap (λ (y : Worker). y.index) to.worker in
      let slept : s'.sleepers ≡ s.sleepers = ap (λ (z : Shared B). z.sleepers) kept in
      let kept1 : s' ≡ record s1 { tasks = s'.tasks; requests = s'.requests; sleepers = s'.sleepers } = kept ∙ ap (λ z. record s { tasks = s'.tasks; requests = s'.requests; sleepers = z }) (sym slept) in
      let touches : Touches s1 (record s1 { requests = s'.requests; sleepers = s'.sleepers }) = subst (λ z. Touches s1 (record s1 { requests = s'.requests; sleepers = z })) (sym slept) (touches_none s1) in
      let deals1 : Dealt y v.index it1.0.slot slot' s'.requests.items s'.sleepers.items = subst (λ i. Dealt y i it1.0.slot slot' s'.requests.items s'.sleepers.items) (sym index) (subst (λ o. Dealt y w.index o slot' s'.requests.items s'.sleepers.items) (sym it1.1) deals) in
      sound_dealt x y t v s1 s' slot' from on (sound_homed x t w v s s1 free sound to) it1.0 kept1 items touches deals1

  -- WHAT IT LEAVES OF OTHERS
  spares_goes : (t i : ℕ) (s s' : Shared B) (slot slot' : TaskSlot B) → s' ≡ record s { tasks = s'.tasks; requests = s'.requests } → Handles t s s' slot slot' → slot.poller ≡ i → ((j : ℕ) → slot.home ≡ Some j → j ≡ i) → AreHome s.config.workers (length s.seats.items) s.tasks.items
      → SparesRecords i s (record s { requests = s'.requests }) → HasRoom s'.requests.items s.store → (j : ℕ) → j ≢ i → Spares j s s'
  spares_goes t i s s' slot slot' kept it poller home homes spares room j other =
      let keeps : KeepsSlot slot slot' = record { home = it.home; number = ap (λ (c : TaskCell B). c.number) it.cell; owner = ap (λ (c : TaskCell B). c.owner) it.cell } in
      let a : Spares j s (record s { requests = s'.requests }) = spares_service i j s (record s { requests = s'.requests }) other refl spares room in
      let b : Spares j s (record s { tasks = s'.tasks }) = spares_slot i j t s s' slot slot' other it.there it.items keeps (λ is. other (home j is)) (λ polled mine. absurd (other (sym mine ∙ poller))) homes in
      let done : Spares j s (record s { tasks = s'.tasks; requests = s'.requests }) = grind arith in
      subst (Spares j s) (sym kept) done

  pub beside_goes : (x y : InPoll) (t : ℕ) (w v : Worker) (s s' : Shared B) (slot' : TaskSlot B) → ComesFrom t x → GoesOn t y → (sound : SoundAt (Place.Poll t x) w s) → (it : IsHere x t w s) → s' ≡ record s { tasks = s'.tasks; requests = s'.requests } → s'.tasks.items ≡ slice_set s.tasks.items t slot'
      → Homes w v s (record s { requests = s'.requests }) → Dealt y w.index it.slot slot' s'.requests.items s'.sleepers.items → ((others : Profile) → Holds (with_worker others w) s → Holds (with_worker others w) s') → Beside w s (record v { place = Place.Poll t y }) s'
  beside_goes x y t w v s s' slot' from on sound it kept items to deals holds =
      let slot = it.slot in
      let w' : Worker = record v { place = Place.Poll t y } in
      let w2 : Worker = record w { place = Place.Poll t y; names = record w.names { ended = v.names.ended }; home = record w.home { driver = v.home.driver } } in
      let handles : Handles t s s' slot slot' = record { there = it.there; items = items; cell = deals.cell; home = deals.home; cleared = deals.cleared; poller = deals.poller } in
      let worker : w' ≡ record w2 { home = record w2.home { deferred = v.home.deferred } } = ap (λ (z : Worker). record z { place = Place.Poll t y }) to.worker in
      record {
        spares = spares_goes t w.index s s' slot slot' kept handles it.poller (home_mine w.index slot.home (here_or_none x t w s it)) sound.homes to.spares to.keeps.carried.room;
        whole = λ others whole.
            let there = whole_dealt t w w2 s s' slot slot' others (grind arith) (holds others whole.holding) whole in
            subst (λ z. IsWhole (with_worker others z) s') (sym worker)
            (subst (λ z. IsWhole z s') (sym (with_wakes others (record w2 { home = record w2.home { deferred = v.home.deferred } }) w2 refl to.wakes)) there);
      }
