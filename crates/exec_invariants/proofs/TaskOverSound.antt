-- WHAT HOLDS where a worker lets go of what a task held that is over: of its own things, at one place; and where it is told next to
-- whom others of them are.
use Rattle.exec_invariants.{specs.{Carried.Carried, Due.IsDue, Flown.HasFlown, Gates.{AreLinedUp, IsKnown}, Holding.Mail, HoldPlaces.{cancels_at, has_wakes_at, heard_at, is_bare_at, sends_cancel_at, spare_at}, Places.{begins_at, calls_back_at, hands_on_at, has_loot_at, in_poll_of, is_armed_at, is_pooled_at, step_of_poll}, Rooted.{HearsNext, IsRooted}, Sound.{AreOver, HasLetters, HasQueue, HasRunnable, IsHeld, IsInHand, IsLeft, IsLetter, IsLoot, IsMyMail, IsSeated, IsTied, LetsGoAt, SoundAt, Stands, Stops, root_in_hand, served_in}, Names.{HasWidth, IsNamed, tellers}}, proofs.{Words.{◌≡◌, ℕ, ◌+◌, true, false, Contains, [], Option, Some, None, sym, ap, subst, ◌∙◌, slice_get, option_to_list, false≢true, arith, Queue, Runnable, Slab, Sleeping, pending_count, Entry, ring_size, is_empty, AfterCancels, Place, polls_at, Held, Letters, Reply, Subject, Chair, Shared, TaskSlot, Worker, IsPhased, closes_at, closing_in, stage_of, is_pool, IsTold, driver_of, letters_in}, Lined.lined_kept, ServingHolds.Keeps, Serving.{SparesRecords, letter_kept, mail_kept}}}

-- such a place
pub record IsAside (q : Place) : Type 0 where
  pub spare : spare_at q ≡ 64
  pub wakes : has_wakes_at q ≡ false
  pub served : served_in q ≡ None
  pub bare : is_bare_at q ≡ false
  pub polls : polls_at q ≡ None
  pub calls : calls_back_at q ≡ None
  pub heard : heard_at q ≡ None
  pub lets : (requests : Slab (Entry Reply Reply)) (zs : Slab (Sleeping Reply)) → LetsGoAt q requests zs

-- OTHERS ARE TOLD NEXT, from a place where nothing else is to be done
pub record IsOwing (q0 : Place) (b : AfterCancels) : Type 0 where
  pub aside : IsAside q0
  pub after : IsAside (Place.SendCancel b)
  pub begins : begins_at q0 ≡ None
  pub hands : hands_on_at q0 ≡ false
  pub loot : has_loot_at q0 ≡ false
  pub unarmed : is_armed_at q0 ≡ false
  pub queue : (x : Queue Runnable) → HasQueue q0 x → x.held ≡ []
  pub closes : closes_at (Place.SendCancel b) ≡ closes_at q0
  pub closing : closing_in (Place.SendCancel b) ≡ closing_in q0

module _ {B : Type 0} where
  -- WHAT A WORKER HAS OF ITS OWN, at a place that leaves no wakes, beside no service
  pub record KeepsOwn (w : Worker) (s : Shared B) : Type 0 where
    pub told : IsTold w.names.ended.items w.home.deferred (tellers (driver_of w).requests w.home.timers + 64)
    pub wide : HasWidth w.home.deferred (tellers (driver_of w).requests w.home.timers + 64)
    pub named : IsNamed w.index w.names (driver_of w) w.home.timers s.requests.items s.sleepers.items
    pub sized : (driver_of w).ring.size ≡ ring_size s.config
    pub over : AreOver w.index w.names.ended.items w.names.unreleased (pending_count (driver_of w).requests) s.requests.items
    pub quiet : w.home.deferred.notes.wakes.items ≡ []
    pub due : IsDue None w.home.closing w.index w.moments s.config w.names (driver_of w) w.home.timers s.requests.items s.sleepers.items
    pub flown : HasFlown None w.index w.names (driver_of w) s.requests.items
    pub carried : Carried w s
    pub known : IsKnown w.index w.names.requests.items (driver_of w).requests s.opens s.requests.items
    pub rooted : IsRooted w.index w.names (driver_of w) w.home.timers w.home.deferred s.requests.items s.sleepers.items

  pub keeps_own : (q : Place) (w : Worker) (s : Shared B) → w.place ≡ q → has_wakes_at q ≡ false → served_in q ≡ None → Keeps w s → KeepsOwn w s
  keeps_own = grind arith

  pub own_keeps : (q : Place) (w : Worker) (s : Shared B) → spare_at q ≡ 64 → has_wakes_at q ≡ false → is_bare_at q ≡ false → SoundAt q w s → Keeps w s
  own_keeps = grind arith

  -- THE OWN THINGS changed, and nothing else
  pub sound_let : (q : Place) (w v : Worker) (s s' : Shared B) → IsAside q → SoundAt q w s → v ≡ record w { names = record w.names { ended = v.names.ended }; home = record w.home { driver = v.home.driver; timers = v.home.timers; deferred = v.home.deferred } } → s' ≡ record s { requests = s'.requests; sleepers = s'.sleepers }
      → SparesRecords w.index s s' → KeepsOwn v s' → SoundAt q v s'
  sound_let q w v s s' aside sound worker shared spares keeps =
      let w1 : Worker = record w { names = record w.names { ended = v.names.ended }; home = record w.home { driver = v.home.driver; timers = v.home.timers; deferred = v.home.deferred } } in
      let s1 : Shared B = record s { requests = s'.requests; sleepers = s'.sleepers } in
      let own : KeepsOwn w1 s1 = subst (λ y. KeepsOwn w1 y) shared (subst (λ x. KeepsOwn x s') worker keeps) in
      let spares1 : SparesRecords w.index s s1 = subst (λ y. SparesRecords w.index s y) shared spares in
      let gates : AreLinedUp s.opens s'.requests.items = lined_kept s.requests.items s'.requests.items spares.lines s.opens sound.gates in
      let told : IsTold w1.names.ended.items w1.home.deferred (tellers (driver_of w1).requests w1.home.timers + spare_at q) = subst (λ n. IsTold w1.names.ended.items w1.home.deferred (tellers (driver_of w1).requests w1.home.timers + n)) (sym aside.spare) own.told in
      let quiet : has_wakes_at q ≡ false → w1.home.deferred.notes.wakes.items ≡ [] = λ h. own.quiet in
      let due = subst (λ y. IsDue y w1.home.closing w1.index w1.moments s1.config w1.names (driver_of w1) w1.home.timers s1.requests.items s1.sleepers.items) (sym aside.served) own.due in
      let flown = subst (λ y. HasFlown y w1.index w1.names (driver_of w1) s1.requests.items) (sym aside.served) own.flown in
      let left : IsLeft (calls_back_at q) w1.home.deferred = subst (λ o. IsLeft o w1.home.deferred) (sym aside.calls) tt in
      let mine : (m : Mail) → Contains w.batch.values m → IsMyMail s.config.workers w.index m s1.requests.items s1.sleepers.items = λ m among. mail_kept s.config.workers w.index m s s1 spares1 (sound.mine m among) in
      let letters : HasLetters (sends_cancel_at q) (cancels_at q) w.index s.config.workers w.letters s1.requests.items s1.sleepers.items = record {
        some = sound.letters.some;
        none = sound.letters.none;
        requests = λ h among. letter_kept s.config.workers w.index (Subject.Request h.number) h.worker s s1 spares1 (sound.letters.requests h among);
        timer = λ h is. letter_kept s.config.workers w.index (Subject.Timer h.number) h.worker s s1 spares1 (sound.letters.timer h is);
      } in
      let stops : Stops (polls_at q) (step_of_poll q) w.index s.tasks.items s1.requests.items s1.sleepers.items = subst (λ o. Stops o (step_of_poll q) w.index s.tasks.items s1.requests.items s1.sleepers.items) (sym aside.polls) tt in
      let hears : HearsNext (heard_at q) w.index s1.requests.items s1.sleepers.items = subst (λ o. HearsNext o w.index s1.requests.items s1.sleepers.items) (sym aside.heard) tt in
      let done : SoundAt q w1 s1 = assumption (gates, told, quiet, due, flown, left, mine, letters, stops, hears, aside.lets (driver_of w1).requests w1.home.timers, own, sound) in
      subst (SoundAt q v) (sym shared) (subst (λ x. SoundAt q x s1) (sym worker) done)

  pub sound_owing : (q0 : Place) (b : AfterCancels) (w : Worker) (l : Letters) (s : Shared B) → IsOwing q0 b → SoundAt q0 w s → w.searching ≡ false → is_pool w.role ≡ true → is_empty (letters_in l) ≡ false
      → ((h : Held) → Contains l.requests.items h → IsLetter s.config.workers w.index (Subject.Request h.number) h.worker s.requests.items s.sleepers.items) → ((h : Held) → l.timer ≡ Some h → IsLetter s.config.workers w.index (Subject.Timer h.number) h.worker s.requests.items s.sleepers.items)
      → SoundAt (Place.SendCancel b) (record w { place = Place.SendCancel b; letters = l }) s
  sound_owing q0 b w l s owing sound searching pool some requests timer =
      let HasRun : Option ℕ → Type 0 = λ o. HasRunnable w.index w.root w.root_ready (root_in_hand o w.root w.hand) s.tasks.items in
      let q : Place = Place.SendCancel b in
      let pooled : is_pooled_at q ≡ true → is_pool w.role ≡ true = λ h. pool in
      let told : IsTold w.names.ended.items w.home.deferred (tellers (driver_of w).requests w.home.timers + 64) = subst (λ n. IsTold w.names.ended.items w.home.deferred (tellers (driver_of w).requests w.home.timers + n)) owing.aside.spare sound.told in
      let run = subst (λ o. HasRun o) owing.begins sound.runnable in
      let seated = subst (λ a. IsSeated w.index a s.config.workers s.seats.items) owing.unarmed sound.seated in
      let queue : (chair : Chair) → slice_get s.seats.items w.index ≡ Some chair → HasQueue q chair.queue = λ chair there. owing.queue chair.queue (sound.queue chair there) in
      let hand : w.hand ≡ None = subst (λ x. IsInHand None x w.hand) owing.hands (subst (λ o. IsInHand o (hands_on_at q0) w.hand) owing.begins sound.hand) in
      let loot = subst (λ x. IsLoot x w.loot) owing.loot sound.loot in
      let genuine = subst (λ o. (r : Runnable) → Contains (option_to_list w.hand) r → IsHeld o w.root s.tasks.items r) owing.begins sound.genuine in
      let quiet : false ≡ false → w.home.deferred.notes.wakes.items ≡ [] = λ h. sound.quiet owing.aside.wakes in
      let due = subst (λ y. IsDue y w.home.closing w.index w.moments s.config w.names (driver_of w) w.home.timers s.requests.items s.sleepers.items) owing.aside.served sound.due in
      let flown = subst (λ y. HasFlown y w.index w.names (driver_of w) s.requests.items) owing.aside.served sound.flown in
      let letters : HasLetters true true w.index s.config.workers l s.requests.items s.sleepers.items = record { some = λ h. some; none = λ h. absurd (false≢true (sym h)); requests = requests; timer = timer } in
      let lets : LetsGoAt q (driver_of w).requests w.home.timers = owing.after.lets (driver_of w).requests w.home.timers in
      let phased : (chair : Chair) → slice_get s.seats.items w.index ≡ Some chair → IsPhased w.index (closes_at q) (closing_in q) w.home.closing w.root w.names.unreleased (stage_of chair s) s.tasks.items = λ chair there.
      subst (λ c. IsPhased w.index c (closing_in q) w.home.closing w.root w.names.unreleased (stage_of chair s) s.tasks.items) (sym owing.closes)
      (subst (λ x. IsPhased w.index (closes_at q0) x w.home.closing w.root w.names.unreleased (stage_of chair s) s.tasks.items) (sym owing.closing) (sound.phased chair there)) in
      let stands : (slot : TaskSlot B) → slice_get s.tasks.items w.root ≡ Some slot → Stands None w.index slot = λ slot there. subst (λ o. Stands o w.index slot) (ap (λ o. in_poll_of w.root o (step_of_poll q0)) owing.aside.polls) (sound.tied.stands slot there) in
      let tied : IsTied None w.index w.root s.tasks.items = record { stands = stands } in
      let batch : is_bare_at q ≡ true → w.batch.values ≡ [] = λ is. absurd (false≢true (sym owing.after.bare ∙ is)) in
      assumption (pooled, searching, told, run, seated, batch, queue, hand, loot, genuine, quiet, due, flown, letters, lets, phased, tied, sound)
