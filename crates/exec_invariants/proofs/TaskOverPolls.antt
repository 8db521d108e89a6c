-- A POLLED TASK IS OVER: what the whole step is, but for what the machine is asked.
use Rattle.exec_invariants.{specs.{Carried.HasRoom, Holding.{awaited_in, holder_of}, HoldPlaces.{cancels_at, has_wakes_at, is_bare_at, sends_cancel_at, spare_at}, Places.{claims_at, clears_at, has_count_at, is_published_at, removes_at}, Sound.{HasLetters, SoundAt, served_in}, Works.Beside}, proofs.{Words.{◌≡◌, ◌⊎◌, ⊎_elim, ℕ, true, false, List, [], Some, None, IsSome, refl, sym, ap, subst, ◌∙◌, slice_get, slice_set, false≢true, arith, is_polled, Waiting, is_empty, AfterCancels, InPoll, Place, polls_in, Held, Letters, Shared, TaskSlot, Worker, is_pool, letters_in}, Here.going_on, Polling.home_mine, ServingHolds.Keeps, Serving.SparesRecords, TaskOverGone.AllGone, TaskOverLetters.{AreLetters, gone_holding}, TaskOverSound.{IsAside, IsOwing, KeepsOwn, keeps_own, sound_let, sound_owing}, TaskOverWhole.{IsDone, IsPast, spares_done, whole_done}}}

-- a place of a poll that has begun
pub record InPollAt (x : InPoll) (t : ℕ) : Type 0 where
  pub polls : polls_in t x ≡ Some t
  pub uncleared : clears_at (Place.Poll t x) ≡ None
  pub unclaimed : claims_at (Place.Poll t x) ≡ None
  pub uncounted : has_count_at (Place.Poll t x) ≡ false
  pub unpublished : is_published_at (Place.Poll t x) ≡ false
  pub spare : spare_at (Place.Poll t x) ≡ 64
  pub unwoken : has_wakes_at (Place.Poll t x) ≡ false
  pub unserved : served_in (Place.Poll t x) ≡ None
  pub unbare : is_bare_at (Place.Poll t x) ≡ false

pub acting : (t : ℕ) → InPollAt InPoll.Act t
acting t = record { polls = refl; uncleared = refl; unclaimed = refl; uncounted = refl; unpublished = refl; spare = refl; unwoken = refl; unserved = refl; unbare = refl }

pub pending : (t : ℕ) → InPollAt InPoll.Pend t
pending t = record { polls = refl; uncleared = refl; unclaimed = refl; uncounted = refl; unpublished = refl; spare = refl; unwoken = refl; unserved = refl; unbare = refl }

pub looking : (t : ℕ) → InPollAt InPoll.Resume t
looking t = record { polls = refl; uncleared = refl; unclaimed = refl; uncounted = refl; unpublished = refl; spare = refl; unwoken = refl; unserved = refl; unbare = refl }

-- THE WORKER THEN: what it has of its own let go, and letters of the rest
abbrev pub over_worker : Place → Letters → Worker → Worker → Worker
over_worker q l v w =
    record w { place = q; letters = l; names = record w.names { ended = v.names.ended }; home = record w.home { driver = v.home.driver; timers = v.home.timers; deferred = v.home.deferred } }

module _ {B : Type 0} where
  -- AND WHAT IS SHARED
  abbrev pub over_shared : List (TaskSlot B) → Shared B → Shared B → Shared B → Shared B
  over_shared ts s' now s = record s { tasks = s'.tasks; requests = now.requests; sleepers = now.sleepers }

  pub record OversPoll (x : InPoll) (t : ℕ) (q : Place) (l : Letters) (w v : Worker) (s now s' : Shared B) (slot slot' : TaskSlot B) : Type 0 where
    pub there : slice_get s.tasks.items t ≡ Some slot
    pub items : s'.tasks.items ≡ slice_set s.tasks.items t slot'
    pub done : IsDone slot slot'
    pub holder : holder_of slot' ≡ record (holder_of slot) { held = []; over = true }
    pub polled : is_polled slot.cell.phase ≡ true
    pub poller : slot.poller ≡ w.index
    pub home : (slot.home ≡ Some w.index) ⊎ (slot.home ≡ None)
    pub idle : IsSome slot.home → awaited_in slot.waiting ≡ None
    pub gone : AllGone w.index slot.held.items slot.waiting l w v s now
    pub past : IsPast q
    pub aside : IsAside q
    pub removes : (u : ℕ) → removes_at q ≡ Some u → (u ≡ t) × (slot.home ≡ None)

  -- what it let go of, where the slot had changed before
  pub gone_at : (i : ℕ) (hs : List Held) (u : Waiting) (l : Letters) (w v : Worker) (s first now : Shared B) → first ≡ record s { tasks = first.tasks } → AllGone i hs u l w v first now → AllGone i hs u l w v s (record now { tasks = s.tasks })
  gone_at i hs u l w v s first now is gone =
      let g : AllGone i hs u l w v (record s { tasks = first.tasks }) now = subst (λ y. AllGone i hs u l w v y now) is gone in
      let keeps : Keeps v (record now { tasks = s.tasks }) = assumption g.keeps in
      let spares : SparesRecords i s (record now { tasks = s.tasks }) = assumption g.spares in
      grind arith

  -- WHAT OTHERS RELY ON, AND THE BALANCES
  pub beside_over : (x : InPoll) (t : ℕ) (q : Place) (l : Letters) (w v : Worker) (s now s' : Shared B) (slot slot' : TaskSlot B) → InPollAt x t → SoundAt (Place.Poll t x) w s → OversPoll x t q l w v s now s' slot slot' → AreLetters s.config.workers w.index l s.requests.items s.sleepers.items
      → Beside w s (over_worker q l v w) (over_shared s'.tasks.items s' now s)
  beside_over x t q l w v s now s' slot slot' at sound it letters =
      let W : Worker = over_worker q l v w in
      let S : Shared B = over_shared s'.tasks.items s' now s in
      let gone = it.gone in
      let spares : SparesRecords w.index s (record s { requests = now.requests; sleepers = now.sleepers }) = subst (SparesRecords w.index s) gone.kept gone.spares in
      let room : HasRoom now.requests.items s.store = subst (λ (y : Shared B). HasRoom now.requests.items y.store) gone.kept gone.keeps.carried.room in
      let quiet : v.home.deferred.notes.wakes.items ≡ [] = gone.keeps.quiet (ap (λ (y : Worker). has_wakes_at y.place) gone.worker ∙ ap has_wakes_at sound.here ∙ at.unwoken) in
      record {
        spares = λ j other. spares_done w.index j t s S slot slot' other it.there it.items it.done.keeps (λ is. other (home_mine w.index slot.home it.home j is)) (λ polled mine. other (sym mine ∙ it.poller)) sound.homes refl spares room;
        whole = λ others whole.
            whole_done t x q w W s S slot slot' others sound.here at.polls at.uncleared at.unclaimed at.uncounted at.unpublished it.past refl refl refl refl refl it.there it.items it.done it.polled (going_on slot.cell.phase it.polled) it.removes gone.spares.lines refl
            (gone_holding w.index t slot slot' w v W s s now S others it.there it.items it.holder (going_on slot.cell.phase it.polled) it.idle (sound.letters.none refl) (sound.quiet at.unwoken) quiet refl refl gone refl refl letters whole.holding) whole;
      }

  -- WHERE IT GOES ON: to others who are to be told, or at once
  pub sound_over : (x : InPoll) (t : ℕ) (q0 q : Place) (b : AfterCancels) (l : Letters) (w v : Worker) (s now s' : Shared B) (slot slot' : TaskSlot B) → InPollAt x t → SoundAt (Place.Poll t x) w s → OversPoll x t q l w v s now s' slot slot' → AreLetters s.config.workers w.index l s.requests.items s.sleepers.items
      → SoundAt q0 (record w { place = q0 }) (record s { tasks = s'.tasks }) → sends_cancel_at q0 ≡ false → (is_empty (letters_in l) ≡ false → is_pool w.role ≡ true) → (is_empty (letters_in l) ≡ false → IsOwing q0 b) → ((letters_in l ≡ []) × (q ≡ q0)) ⊎ ((is_empty (letters_in l) ≡ false) × (q ≡ Place.SendCancel b))
      → SoundAt q (over_worker q l v w) (over_shared s'.tasks.items s' now s)
  sound_over x t q0 q b l w v s now s' slot slot' at sound it letters first silent pool owing splits =
      let W : Worker = over_worker q l v w in
      let S1 : Shared B = record s { tasks = s'.tasks } in
      let S : Shared B = over_shared s'.tasks.items s' now s in
      let gone = it.gone in
      let spares : SparesRecords w.index s (record s { requests = now.requests; sleepers = now.sleepers }) = subst (SparesRecords w.index s) gone.kept gone.spares in
      let own : KeepsOwn v now = keeps_own (Place.Poll t x) v now (ap (λ (y : Worker). y.place) gone.worker ∙ sound.here) at.unwoken at.unserved gone.keeps in
      let own1 : KeepsOwn (record w { names = record w.names { ended = v.names.ended }; home = record w.home { driver = v.home.driver; timers = v.home.timers; deferred = v.home.deferred } }) (record s { requests = now.requests; sleepers = now.sleepers }) =
      subst (λ y. KeepsOwn (record w { names = record w.names { ended = v.names.ended }; home = record w.home { driver = v.home.driver; timers = v.home.timers; deferred = v.home.deferred } }) y) gone.kept (subst (λ y. KeepsOwn y now) gone.worker own) in
      sound_let q (record w { place = q; letters = l }) W S1 S it.aside
      (⊎_elim
      (λ stays.
      let new : HasLetters (sends_cancel_at q0) (cancels_at q0) w.index s.config.workers l s.requests.items s.sleepers.items = record { some = λ is. absurd (false≢true (sym silent ∙ is)); none = λ is. stays.0; requests = letters.requests; timer = letters.timer } in
      let there : SoundAt q0 (record w { place = q0; letters = l }) S1 = assumption (new, first) in
      subst (λ y. SoundAt y (record w { place = y; letters = l }) S1) (sym stays.1) there)
      (λ tells. subst (λ y. SoundAt y (record w { place = y; letters = l }) S1) (sym tells.1) (sound_owing q0 b (record w { place = q0 }) l S1 (owing tells.0) first sound.searching (pool tells.0) tells.0 letters.requests letters.timer))
      splits)
      refl refl (assumption spares) (assumption own1)
