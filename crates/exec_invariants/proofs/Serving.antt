-- Steps of a service: what they keep.
use Rattle.exec_invariants.{specs.{Sound.{HasBatch, HasGuest, HasLetters, HasQueue, HasRunnable, IsHeld, IsInHand, IsLeft, IsLetter, IsLoot, IsMineIn, IsMyMail, IsSearching, IsSeated, IsTied, LetsGoAt, SoundAt, Stops, Serves as ServesTask, root_in_hand}, Names.tellers, Carried.HasRoom, Drained.{Duties, IsBefore, IsOver, IsPool, in_set}, Gates.{AreLinedUp, HaveGates, has_hint_at}, Holding.{Hands, IsHolding, Mail, holder_of, nap_of, thing_of, box_of}, HoldPlaces.{cancels_at, heard_at, sends_cancel_at, spare_at}, Places.{Drops, begins_at, passes_at, calls_back_at, claims_at, clears_at, drops_at, hands_on_at, has_count_at, is_armed_at, is_number, is_pooled_at, is_published_at, joins_at, one_if, or_polls, polled_in, removes_at, searches_at, step_of_poll, task_at}, Rooted.HearsNext, Spares.{RecordsEndure, SleeperEndures, SleepersEndure, Spares, SparedRecords, SparesSleepers, SparedSleepers, SparesRecord}, Whole.{IsWhole, Profile, duties_of, hands_of, wakes_with, with_worker}, Works.Beside}, proofs.{Words.{◌≡◌, ◌≢◌, ℕ, ◌+◌, ◌<◌, ◌==◌, Bool, true, false, Contains, List, [], map, Option, Some, None, ◌⊎◌, if◌then◌else◌, refl, sym, ap, subst, ◌∙◌, arith, slice_get, slice_set, option_to_list, false≢true, seen, Set, Runnable, is_at_large, Place, polls_at, IsTold, Subject, Record, SleeperRecord, Chair, Shared, TaskSlot, Worker, IsPhased, closes_at, closing_in, stage_of, is_pool, changed_at, letters_in, own_of, not_same, set_elsewhere, set_there}, Showing.map_kept, Aside.spares_none, Lined.{KeepsLines, SameAtGate, SameLines, gates_kept, gates_opens, lined_kept, lined_opens, lines_changed, lines_same, now, opens_same}, Marking.{mark_if, marked, was_marked}, SparedRecord.{sleeper_spared, spared_same}, Spared.sleepers_endure, ServingPlaces.{is_calm, IsCalm, calm}, ServingHolds.{OthersKept, Serves, Keeps, nap_sent}, HoldRedo.set_on}}

module _ {B : Type 0} where
  -- it owes nobody anything there
  pub at_large : (q : Place) (w : Worker) (s : Shared B) → SoundAt q w s → is_calm q ≡ true → is_at_large (own_of (record w { place = q })) ≡ true
  at_large = grind arith

  -- what holds at a calm place, of those
  pub kept : (q : Place) (w : Worker) (s : Shared B) → SoundAt q w s → IsCalm q → Keeps w s
  kept = grind arith

  -- WHAT OTHERS RELY ON: each record and sleeper of another worker is as it was, and none is new

  pub record SparesRecords (i : ℕ) (s s' : Shared B) : Type 0 where
    pub records : (k : ℕ) (r : Record) → slice_get s.requests.items k ≡ Some r → r.shown.worker ≢ i → slice_get s'.requests.items k ≡ Some r
    pub records_only : (k : ℕ) (r : Record) → slice_get s'.requests.items k ≡ Some r → r.shown.worker ≢ i → slice_get s.requests.items k ≡ Some r
    pub sleepers : (k : ℕ) (z : SleeperRecord) → slice_get s.sleepers.items k ≡ Some z → z.shown.worker ≢ i → slice_get s'.sleepers.items k ≡ Some z
    pub sleepers_only : (k : ℕ) (z : SleeperRecord) → slice_get s'.sleepers.items k ≡ Some z → z.shown.worker ≢ i → slice_get s.sleepers.items k ≡ Some z
    pub lines : KeepsLines s.requests.items s'.requests.items
    pub naps : SleepersEndure s.sleepers.items s'.sleepers.items
    pub opens : SameLines s.opens s'.opens
    pub sent : map nap_sent s'.sleepers.items ≡ map nap_sent s.sleepers.items

  -- the same, where who stands at gates changes too: what others rely on of that
  pub record SparesGates (i : ℕ) (s s' : Shared B) : Type 0 where
    pub records : (k : ℕ) (r : Record) → slice_get s.requests.items k ≡ Some r → r.shown.worker ≢ i → slice_get s'.requests.items k ≡ Some r
    pub records_only : (k : ℕ) (r : Record) → slice_get s'.requests.items k ≡ Some r → r.shown.worker ≢ i → slice_get s.requests.items k ≡ Some r
    pub sleepers : (k : ℕ) (z : SleeperRecord) → slice_get s.sleepers.items k ≡ Some z → z.shown.worker ≢ i → slice_get s'.sleepers.items k ≡ Some z
    pub sleepers_only : (k : ℕ) (z : SleeperRecord) → slice_get s'.sleepers.items k ≡ Some z → z.shown.worker ≢ i → slice_get s.sleepers.items k ≡ Some z
    pub endure : RecordsEndure s.requests.items s'.requests.items
    pub naps : SleepersEndure s.sleepers.items s'.sleepers.items
    pub lined : AreLinedUp s.opens s.requests.items → AreLinedUp s'.opens s'.requests.items
    pub hints : (file : ℕ) → has_hint_at s.opens file ≡ false → has_hint_at s'.opens file ≡ false

  pub spares_gates : (i : ℕ) (s s' : Shared B) → SparesRecords i s s' → SparesGates i s s'
  spares_gates i s s' spares =
      let endure : RecordsEndure s.requests.items s'.requests.items = λ k r there.
      let new = now s.requests.items s'.requests.items spares.lines k r there in
      (new.0, new.1, record { worker = ap (λ x. x.key.worker) new.2; forwarded = spares.lines.forwarded k r new.0 there new.1 }) in
      let lined_so : AreLinedUp s.opens s.requests.items → AreLinedUp s'.opens s'.requests.items =
      λ lined. lined_opens s.opens s'.opens spares.opens s'.requests.items (lined_kept s.requests.items s'.requests.items spares.lines s.opens lined) in
      assumption (endure, lined_so, spares, spares.opens)

  mine_kept : (workers i : ℕ) (x : Subject) (s s' : Shared B) → SparesGates i s s' → IsMineIn workers i x s.requests.items s.sleepers.items → IsMineIn workers i x s'.requests.items s'.sleepers.items
  mine_kept workers i (Subject.Request k) s s' spares mine = grind arith
  mine_kept workers i (Subject.Timer k) s s' spares mine = grind arith

  mail_by : (workers i : ℕ) (m : Mail) (s s' : Shared B) → SparesGates i s s' → IsMyMail workers i m s.requests.items s.sleepers.items → IsMyMail workers i m s'.requests.items s'.sleepers.items
  mail_by = grind (arith, mine_kept)

  letter_by : (workers i : ℕ) (x : Subject) (j : ℕ) (s s' : Shared B) → SparesGates i s s' → IsLetter workers i x j s.requests.items s.sleepers.items → IsLetter workers i x j s'.requests.items s'.sleepers.items
  letter_by workers i (Subject.Request k) j s s' spares (mine, apart) = ((mine.0, spares.records k mine.0 mine.1 (λ is. apart (sym mine.2 ∙ is)), mine.2, mine.3), apart)
  letter_by workers i (Subject.Timer k) j s s' spares (mine, apart) = ((mine.0, spares.sleepers k mine.0 mine.1 (λ is. apart (sym mine.2 ∙ is)), mine.2, mine.3), apart)

  pub mail_kept : (workers i : ℕ) (m : Mail) (s s' : Shared B) → SparesRecords i s s' → IsMyMail workers i m s.requests.items s.sleepers.items → IsMyMail workers i m s'.requests.items s'.sleepers.items
  mail_kept workers i m s s' spares = mail_by workers i m s s' (spares_gates i s s' spares)

  pub letter_kept : (workers i : ℕ) (x : Subject) (j : ℕ) (s s' : Shared B) → SparesRecords i s s' → IsLetter workers i x j s.requests.items s.sleepers.items → IsLetter workers i x j s'.requests.items s'.sleepers.items
  letter_kept workers i x j s s' spares = letter_by workers i x j s s' (spares_gates i s s' spares)

  sound_parts : (q : Place) (w v : Worker) (s t : Shared B) → SoundAt q w s → IsCalm q → IsCalm v.place → is_armed_at v.place ≡ is_armed_at q → closes_at v.place ≡ closes_at q → searches_at v.place ≡ searches_at q →
      let w1 : Worker = record w { place = v.place; home = record w.home { driver = v.home.driver; timers = v.home.timers; deferred = v.home.deferred }; names = record w.names { ended = v.names.ended; staged = v.names.staged; untold = v.names.untold }; put_off = v.put_off } in
      let s1 : Shared B = record s { requests = t.requests; sleepers = t.sleepers; opens = t.opens } in
      (HasBatch v.place w.batch.values) → SparesGates w.index s s1 → Keeps w1 s1 → SoundAt v.place w1 s1
  sound_parts q w v s t sound from to armed closes searches has spares keeps =
      let s1 : Shared B = record s { requests = t.requests; sleepers = t.sleepers; opens = t.opens } in
      let gates : AreLinedUp t.opens t.requests.items = spares.lined sound.gates in
      let seated = subst (λ a. IsSeated w.index a s.config.workers s.seats.items) (sym armed) sound.seated in
      let begins : begins_at q ≡ begins_at v.place = from.begins ∙ sym to.begins in
      let runnable = subst (λ o. HasRunnable w.index w.root w.root_ready (root_in_hand o w.root w.hand) s.tasks.items) begins sound.runnable in
      let genuine = subst (λ o. (r : Runnable) → Contains (option_to_list w.hand) r → IsHeld o w.root s.tasks.items r) begins sound.genuine in
      let hand = subst (λ o. IsInHand o (hands_on_at v.place) w.hand) begins (subst (λ b. IsInHand (begins_at q) b w.hand) (from.hands ∙ sym to.hands) sound.hand) in
      let loot = subst (λ b. IsLoot b w.loot) (from.loot ∙ sym to.loot) sound.loot in
      let searching = subst (λ o. IsSearching o w.searching) (sym searches) sound.searching in
      let guest : HasGuest (polls_at v.place) (step_of_poll v.place) w.index w.root s.tasks.items = subst (λ o. HasGuest o (step_of_poll v.place) w.index w.root s.tasks.items) (sym to.polls) tt in
      let stops : Stops (polls_at v.place) (step_of_poll v.place) w.index s.tasks.items t.requests.items t.sleepers.items = subst (λ o. Stops o (step_of_poll v.place) w.index s.tasks.items t.requests.items t.sleepers.items) (sym to.polls) tt in
      let hears : HearsNext (heard_at v.place) w.index t.requests.items t.sleepers.items = subst (λ o. HearsNext o w.index t.requests.items t.sleepers.items) (sym to.heard) tt in
      let left : IsLeft (calls_back_at v.place) v.home.deferred = subst (λ o. IsLeft o v.home.deferred) (sym to.calls) tt in
      let queue : (chair : Chair) → slice_get s.seats.items w.index ≡ Some chair → HasQueue v.place chair.queue = λ chair there. to.queue_out chair.queue (from.queue_in chair.queue (sound.queue chair there)) in
      let pooled : is_pooled_at v.place ≡ true → is_pool w.role ≡ true = λ h. absurd (false≢true (sym to.unpooled ∙ h)) in
      let task : task_at v.place ≡ None = ap (λ o. or_polls o (polls_at v.place)) to.begins ∙ to.polls in
      let serves : ServesTask (task_at v.place) w.root w.role = subst (λ o. ServesTask o w.root w.role) (sym task) tt in
      let told : IsTold v.names.ended.items v.home.deferred (tellers (seen v.home.driver).requests v.home.timers + spare_at v.place) = subst (λ n. IsTold v.names.ended.items v.home.deferred (tellers (seen v.home.driver).requests v.home.timers + n)) (sym to.spare) keeps.told in
      let mine : (m : Mail) → Contains w.batch.values m → IsMyMail s.config.workers w.index m t.requests.items t.sleepers.items = λ m among. mail_by s.config.workers w.index m s s1 spares (sound.mine m among) in
      let none : letters_in w.letters ≡ [] = sound.letters.none from.cancels in
      let letters : HasLetters (sends_cancel_at v.place) (cancels_at v.place) w.index s.config.workers w.letters t.requests.items t.sleepers.items =
      record {
        some = λ h. absurd (false≢true (sym to.sends ∙ h));
        none = λ h. none;
        requests = λ h among. letter_by s.config.workers w.index (Subject.Request h.number) h.worker s s1 spares (sound.letters.requests h among);
        timer = λ h is. letter_by s.config.workers w.index (Subject.Timer h.number) h.worker s s1 spares (sound.letters.timer h is);
      } in
      let lets : LetsGoAt v.place (seen v.home.driver).requests v.home.timers = to.lets_out (seen v.home.driver).requests v.home.timers keeps.bare in
      let phased : (chair : Chair) → slice_get s.seats.items w.index ≡ Some chair → IsPhased w.index (closes_at v.place) (closing_in v.place) w.home.closing w.root w.names.unreleased (stage_of chair s) s.tasks.items = λ chair there.
      subst (λ c. IsPhased w.index c (closing_in v.place) w.home.closing w.root w.names.unreleased (stage_of chair s) s.tasks.items) (sym closes)
      (subst (λ x. IsPhased w.index (closes_at q) x w.home.closing w.root w.names.unreleased (stage_of chair s) s.tasks.items) (from.closing ∙ sym to.closing) (sound.phased chair there)) in
      let tied : IsTied (polled_in w.root v.place) w.index w.root s.tasks.items = grind arith in
      assumption (gates, seated, runnable, genuine, hand, loot, searching, guest, stops, hears, left, queue, pooled, serves, told, mine, letters, lets, to.aims s.config w.index s.seats.items, has, phased, tied, sound, keeps)

  pub sound_again_by : (q : Place) (w w' : Worker) (s s' : Shared B) → SoundAt q w s → Serves q w w' s s' → SparesGates w.index s s' → Keeps w' s' → SoundAt w'.place w' s'
  sound_again_by q w w' s s' sound serves spares keeps =
      let w1 : Worker = record w { place = w'.place; home = record w.home { driver = w'.home.driver; timers = w'.home.timers; deferred = w'.home.deferred }; names = record w.names { ended = w'.names.ended; staged = w'.names.staged; untold = w'.names.untold }; put_off = w'.put_off } in
      let s1 : Shared B = record s { requests = s'.requests; sleepers = s'.sleepers; opens = s'.opens } in
      let by_shared : Keeps w1 s1 = subst (λ y. Keeps w1 y) serves.shared (subst (λ x. Keeps x s') serves.worker keeps) in
      let spares1 : SparesGates w.index s s1 = subst (λ y. SparesGates w.index s y) serves.shared spares in
      let again : SoundAt w'.place w1 s1 = sound_parts q w w' s s' sound (calm q serves.from) (calm w'.place serves.to) serves.armed serves.closes serves.searches (serves.batch sound.batch) spares1 by_shared in
      subst (λ y. SoundAt w'.place w' y) (sym serves.shared) (subst (λ x. SoundAt w'.place x s1) (sym serves.worker) again)

  pub sound_again : (q : Place) (w w' : Worker) (s s' : Shared B) → SoundAt q w s → Serves q w w' s s' → SparesRecords w.index s s' → Keeps w' s' → SoundAt w'.place w' s'
  sound_again q w w' s s' sound serves spares keeps = sound_again_by q w w' s s' sound serves (spares_gates w.index s s' spares) keeps

  pub spares_same : (i : ℕ) (s s' : Shared B) → AreLinedUp s.opens s.requests.items → s'.requests.items ≡ s.requests.items → s'.sleepers.items ≡ s.sleepers.items → s'.opens ≡ s.opens → SparesRecords i s s'
  spares_same i s s' lined requests sleepers opens =
      let records : (k : ℕ) (r : Record) → slice_get s.requests.items k ≡ Some r → r.shown.worker ≢ i → slice_get s'.requests.items k ≡ Some r = λ k r there other. ap (λ rs. slice_get rs k) requests ∙ there in
      let records_only : (k : ℕ) (r : Record) → slice_get s'.requests.items k ≡ Some r → r.shown.worker ≢ i → slice_get s.requests.items k ≡ Some r = λ k r there other. ap (λ rs. slice_get rs k) (sym requests) ∙ there in
      let sleepers_so : (k : ℕ) (z : SleeperRecord) → slice_get s.sleepers.items k ≡ Some z → z.shown.worker ≢ i → slice_get s'.sleepers.items k ≡ Some z = λ k z there other. ap (λ zs. slice_get zs k) sleepers ∙ there in
      let sleepers_only : (k : ℕ) (z : SleeperRecord) → slice_get s'.sleepers.items k ≡ Some z → z.shown.worker ≢ i → slice_get s.sleepers.items k ≡ Some z = λ k z there other. ap (λ zs. slice_get zs k) (sym sleepers) ∙ there in
      assumption (records, records_only, sleepers_so, sleepers_only, lines_same s.requests.items s'.requests.items requests, sleepers_endure s.sleepers.items s'.sleepers.items sleepers, opens_same s.opens s'.opens s.requests.items lined opens, ap (map nap_sent) sleepers)

  -- one record of it changed
  pub spares_one : (i : ℕ) (s s' : Shared B) (k : ℕ) (r : Record) (f : Record → Record) → SameLines s.opens s'.opens → SameAtGate r (f r) → s'.requests.items ≡ changed_at s.requests.items k f → s'.sleepers.items ≡ s.sleepers.items → slice_get s.requests.items k ≡ Some r → r.shown.worker ≡ i
      → ((y : Record) → (f y).shown.worker ≡ y.shown.worker) → SparesRecords i s s'
  spares_one i s s' k r f opens same records sleepers there mine keeps =
      let rs = s.requests.items in
      let apart : (j : ℕ) (x : Record) → slice_get rs j ≡ Some x → x.shown.worker ≢ i → (k == j) ≡ false = λ j x at other.
      not_same k j (λ same. other (let is : x ≡ r = cc (at, ap (slice_get rs) same, there) in ap (λ y. y.shown.worker) is ∙ mine)) in
      let records_so : (k : ℕ) (r : Record) → slice_get s.requests.items k ≡ Some r → r.shown.worker ≢ i → slice_get s'.requests.items k ≡ Some r =
      λ j x at other. ap (λ xs. slice_get xs j) records ∙ marked f rs k j x at ∙ ap (λ b. Some (mark_if f b x)) (apart j x at other) in
      let records_only : (k : ℕ) (r : Record) → slice_get s'.requests.items k ≡ Some r → r.shown.worker ≢ i → slice_get s.requests.items k ≡ Some r = λ j x at other.
      let old = was_marked f rs k j x (ap (λ xs. slice_get xs j) (sym records) ∙ at) in
      let before : old.0.shown.worker ≢ i = λ is. other (ap (λ y. y.shown.worker) old.2 ∙ worker_same (k == j) old.0 ∙ is) in
      old.1 ∙ ap (λ y. Some y) (sym (old.2 ∙ ap (λ b. mark_if f b old.0) (apart j old.0 old.1 before))) in
      let sleepers_so : (k : ℕ) (z : SleeperRecord) → slice_get s.sleepers.items k ≡ Some z → z.shown.worker ≢ i → slice_get s'.sleepers.items k ≡ Some z = λ j z at other. ap (λ zs. slice_get zs j) sleepers ∙ at in
      let sleepers_only : (k : ℕ) (z : SleeperRecord) → slice_get s'.sleepers.items k ≡ Some z → z.shown.worker ≢ i → slice_get s.sleepers.items k ≡ Some z = λ j z at other. ap (λ zs. slice_get zs j) (sym sleepers) ∙ at in
      let lines = subst (KeepsLines rs) (sym records) (lines_changed rs k r f there same) in
      assumption (records_so, records_only, sleepers_so, sleepers_only, lines, sleepers_endure s.sleepers.items s'.sleepers.items sleepers, opens, ap (map nap_sent) sleepers)
    where
      worker_same : (b : Bool) (y : Record) → (mark_if f b y).shown.worker ≡ y.shown.worker
      worker_same true y = keeps y
      worker_same false y = refl

  -- one sleeper of it changed
  pub spares_sleeper : (i : ℕ) (s s' : Shared B) (k : ℕ) (z z' : SleeperRecord) → AreLinedUp s.opens s.requests.items → s'.requests.items ≡ s.requests.items → s'.sleepers.items ≡ slice_set s.sleepers.items k z' → s'.opens ≡ s.opens → slice_get s.sleepers.items k ≡ Some z → z.shown.worker ≡ i → SleeperEndures z z'
      → z'.sent ≡ z.sent → SparesRecords i s s'
  spares_sleeper i s s' k z z' lined requests sleepers opens there mine keeps sent =
      let ss = s.sleepers.items in
      let now_there : slice_get (slice_set ss k z') k ≡ Some z' = set_there ss k z' z there in
      let records : (k : ℕ) (r : Record) → slice_get s.requests.items k ≡ Some r → r.shown.worker ≢ i → slice_get s'.requests.items k ≡ Some r = λ j r at other. ap (λ rs. slice_get rs j) requests ∙ at in
      let records_only : (k : ℕ) (r : Record) → slice_get s'.requests.items k ≡ Some r → r.shown.worker ≢ i → slice_get s.requests.items k ≡ Some r = λ j r at other. ap (λ rs. slice_get rs j) (sym requests) ∙ at in
      let sleepers_so : (k : ℕ) (z : SleeperRecord) → slice_get s.sleepers.items k ≡ Some z → z.shown.worker ≢ i → slice_get s'.sleepers.items k ≡ Some z = λ j x at other.
      let apart : j ≢ k = λ same. other (let is : x ≡ z = cc (at, ap (slice_get ss) same, there) in ap (λ y. y.shown.worker) is ∙ mine) in
      ap (λ zs. slice_get zs j) sleepers ∙ set_elsewhere ss k j z' apart ∙ at in
      let sleepers_only : (k : ℕ) (z : SleeperRecord) → slice_get s'.sleepers.items k ≡ Some z → z.shown.worker ≢ i → slice_get s.sleepers.items k ≡ Some z = λ j x at other.
      let found : slice_get (slice_set ss k z') j ≡ Some x = ap (λ zs. slice_get zs j) (sym sleepers) ∙ at in
      let apart : j ≢ k = λ same. other (let is : x ≡ z' = cc (found, ap (slice_get (slice_set ss k z')) same, now_there) in ap (λ y. y.shown.worker) is ∙ keeps.worker ∙ mine) in
      sym (set_elsewhere ss k j z' apart) ∙ found in
      let naps : SleepersEndure s.sleepers.items s'.sleepers.items = set_on (λ n. SleeperEndures) ss s'.sleepers.items k z z' there sleepers keeps (λ n x. record { worker = refl; forwarded = λ h. h }) in
      let sent_so = ap (map nap_sent) sleepers ∙ map_kept nap_sent ss k z' z there sent in
      assumption (records, records_only, sleepers_so, sleepers_only, lines_same s.requests.items s'.requests.items requests, naps, opens_same s.opens s'.opens s.requests.items lined opens, sent_so)

  pub spares_service_by : (i j : ℕ) (s s' : Shared B) → j ≢ i → OthersKept s s' → SparesGates i s s' → HasRoom s'.requests.items s'.store → Spares j s s'
  spares_service_by i j s s' other shared spares room =
      let s1 : Shared B = record s { requests = s'.requests; sleepers = s'.sleepers; opens = s'.opens } in
      let room1 : HasRoom s'.requests.items s.store = subst (λ (x : Shared B). HasRoom s'.requests.items x.store) shared room in
      let apart : (n : ℕ) → n ≡ j → n ≢ i = λ n mine is. other (sym mine ∙ is) in
      let rs = s.requests.items in
      let zs = s.sleepers.items in
      let records : (k : ℕ) (r : Record) → slice_get rs k ≡ Some r → r.shown.worker ≡ j → (r' : Record) × (slice_get s'.requests.items k ≡ Some r') × SparesRecord r r' = λ k r there mine. (r, spares.records k r there (apart r.shown.worker mine), spared_same r) in
      let records_only : SparedRecords j rs s'.requests.items = λ k r there mine. (r, spares.records_only k r there (apart r.shown.worker mine), spared_same r) in
      let sleepers : SparesSleepers j zs s'.sleepers.items = λ k z there mine. (z, spares.sleepers k z there (apart z.shown.worker mine), sleeper_spared z) in
      let sleepers_only : SparedSleepers j zs s'.sleepers.items = λ k z there mine. (z, spares.sleepers_only k z there (apart z.shown.worker mine), sleeper_spared z) in
      let roomy : HasRoom rs s.store → HasRoom s'.requests.items s.store = λ room. room1 in
      let done : Spares j s s1 = assumption (records, records_only, sleepers, sleepers_only, roomy, spares.lined, spares.hints, spares.endure, spares.naps, spares_none j s) in
      subst (λ z. Spares j s z) (sym shared) done

  pub spares_service : (i j : ℕ) (s s' : Shared B) → j ≢ i → OthersKept s s' → SparesRecords i s s' → HasRoom s'.requests.items s'.store → Spares j s s'
  spares_service i j s s' other shared spares room = spares_service_by i j s s' other shared (spares_gates i s s' spares) room

  -- what a step leaves of the balances of all: who is at gates, and what tasks hold
  pub record Balances (w w' : Worker) (s s' : Shared B) : Type 0 where
    pub gates : (others : Profile) → IsWhole (with_worker others w) s → HaveGates (with_worker others w').drops_by s'.opens s'.requests.items
    pub holding : (others : Profile) → IsWhole (with_worker others w) s → IsHolding (hands_of (with_worker others w')) s.config.workers (map holder_of s.tasks.items) (map thing_of s'.requests.items) (map nap_of s'.sleepers.items) (map box_of s.seats.items)

  pool_drops : (d d' : Duties) (tasks : List (TaskSlot B)) (set : Set (Unit {0})) (seats : List Chair) → d' ≡ record d { drops_by = d'.drops_by } → ((j : ℕ) → (d'.drops_by j).removes ≡ (d.drops_by j).removes) → ((j : ℕ) → (d'.drops_by j).clears ≡ (d.drops_by j).clears)
      → IsPool d tasks set seats → IsPool d' tasks set seats
  pool_drops d d' tasks set seats same removes clears pool =
      let d1 : Duties = record d { drops_by = d'.drops_by } in
      let who : (t : ℕ) → 0 < d.clears t → (j : ℕ) × IsBefore j seats × ((d'.drops_by j).clears ≡ Some t) × (set.closed ≡ true) = λ t some.
      let it = pool.who_clears t some in
      (it.0, it.1, clears it.0 ∙ it.2, it.3) in
      let gone : (j t : ℕ) → (d'.drops_by j).removes ≡ Some t → IsOver t tasks × ((set.closed ≡ true) ⊎ (in_set t set ≡ 1)) = λ j t is. pool.removes j t (sym (removes j) ∙ is) in
      let alone : (i j t : ℕ) → (d'.drops_by i).removes ≡ Some t → (d'.drops_by j).removes ≡ Some t → i ≡ j = λ i j t a b. pool.alone i j t (sym (removes i) ∙ a) (sym (removes j) ∙ b) in
      subst (λ x. IsPool x tasks set seats) (sym same) (assumption (who, gone, alone, pool))

  whole_service : (q : Place) (w w' : Worker) (s s' : Shared B) (others : Profile) → w.place ≡ q → Serves q w w' s s' → Balances w w' s s' → IsWhole (with_worker others w) s → IsWhole (with_worker others w') s'
  whole_service q w w' s s' others here serves balances whole =
      let from = calm q serves.from in
      let to = calm w'.place serves.to in
      let x = with_worker others w in
      let x' = with_worker others w' in
      let index : w'.index ≡ w.index = ap (λ (z : Worker). z.index) serves.worker in
      let claims : claims_at w'.place ≡ claims_at w.place = to.claims ∙ sym (ap claims_at here ∙ from.claims) in
      let counts : has_count_at w'.place ≡ has_count_at w.place = to.counts ∙ sym (ap has_count_at here ∙ from.counts) in
      let published : is_published_at w'.place ≡ is_published_at w.place = serves.published ∙ ap is_published_at (sym here) in
      let clears : clears_at w'.place ≡ clears_at w.place = to.clears ∙ sym (ap clears_at here ∙ from.clears) in
      let v : Worker = record w { place = w'.place; home = record w.home { driver = w'.home.driver; timers = w'.home.timers; deferred = w'.home.deferred }; names = record w.names { ended = w'.names.ended; staged = w'.names.staged; untold = w'.names.untold }; put_off = w'.put_off } in
      let y = with_worker others v in
      let make : Option ℕ → Option ℕ → Bool → Bool → Option ℕ → Profile = λ ps cs count shown cl.
      record x {
        polls = λ t. others.polls t + one_if (is_number ps t);
        claims = λ j. others.claims j + one_if (is_number cs j);
        counts = others.counts + (one_if w.searching + one_if count);
        published = λ j. if j == w.index then shown else others.published j;
        clears = λ t. others.clears t + one_if (is_number cl t);
        polled_by = λ j. if j == w.index then ps else others.polled_by j;
        drops_by = y.drops_by;
        wakes = y.wakes;
      } in
      let made : y ≡ record x { drops_by = y.drops_by; wakes = y.wakes } = grind (arith, to.polls ∙ sym (ap polls_at here ∙ from.polls), claims, counts, published, clears) in
      let shape : x' ≡ record x { drops_by = x'.drops_by; wakes = x'.wakes } =
      subst (λ (z : Worker). with_worker others z ≡ record x { drops_by = (with_worker others z).drops_by; wakes = (with_worker others z).wakes }) (sym serves.worker) made in
      let chosen : (j : ℕ) (b : Bool) (u v y : Drops) → u.removes ≡ v.removes → u.clears ≡ v.clears → ((if b then u else y).removes ≡ (if b then v else y).removes) × ((if b then u else y).clears ≡ (if b then v else y).clears) = λ j b.
      elim b as (λ b. (u v y : Drops) → u.removes ≡ v.removes → u.clears ≡ v.clears → ((if b then u else y).removes ≡ (if b then v else y).removes) × ((if b then u else y).clears ≡ (if b then v else y).clears)) [
        | true ↦ λ u v y a c. (a, c)
        | false ↦ λ u v y a c. (refl, refl)
      ] in
      let either : (j : ℕ) → ((x'.drops_by j).removes ≡ (x.drops_by j).removes) × ((x'.drops_by j).clears ≡ (x.drops_by j).clears) = λ j.
      rw index (chosen j (j == w.index) (drops_at w'.place) (drops_at w.place) (others.drops_by j) (to.removes ∙ sym (ap removes_at here ∙ from.removes)) clears) in
      let pool : IsPool (record (duties_of x) { drops_by = x'.drops_by }) s.tasks.items s.set s.seats.items =
      pool_drops (duties_of x) (record (duties_of x) { drops_by = x'.drops_by }) s.tasks.items s.set s.seats.items refl (λ j. (either j).0) (λ j. (either j).1) whole.pool in
      let x1 : Profile = record x { drops_by = x'.drops_by; wakes = x'.wakes } in
      let s1 : Shared B = record s { requests = s'.requests; sleepers = s'.sleepers; opens = s'.opens } in
      let hands : hands_of x' ≡ hands_of x1 = ap hands_of shape in
      let holding : IsHolding (hands_of x1) s.config.workers (map holder_of s.tasks.items) (map thing_of s'.requests.items) (map nap_of s'.sleepers.items) (map box_of s.seats.items) =
      subst (λ h. IsHolding h s.config.workers (map holder_of s.tasks.items) (map thing_of s'.requests.items) (map nap_of s'.sleepers.items) (map box_of s.seats.items)) hands (balances.holding others whole) in
      subst (λ y. IsWhole x' y) (sym serves.shared) (subst (λ y. IsWhole y s1) (sym shape) (assumption (pool, balances.gates others whole, holding, whole)))

  -- where the balances are as they were
  -- who stands at gates does so still
  pub gates_still : (q : Place) (w w' : Worker) (s s' : Shared B) → w.place ≡ q → Serves q w w' s s' → SparesRecords w.index s s' → passes_at w'.place ≡ passes_at q
      → (others : Profile) → IsWhole (with_worker others w) s → HaveGates (with_worker others w').drops_by s'.opens s'.requests.items
  gates_still q w w' s s' here serves spares passes others whole =
      let from = calm q serves.from in
      let to = calm w'.place serves.to in
      let make : Option ℕ → Option ℕ → Option ℕ → Option ℕ → Drops = λ c r p j. record { clears = c; removes = r; passes = p; joins = j } in
      let now_at : drops_at w'.place ≡ make None None (passes_at q) None = grind (arith, to.clears, to.removes, passes, to.joins) in
      let was_at : drops_at q ≡ make None None (passes_at q) None =
      ap (λ c. make c (removes_at q) (passes_at q) (joins_at q)) from.clears ∙ ap (λ r. make None r (passes_at q) (joins_at q)) from.removes ∙ ap (make None None (passes_at q)) from.joins in
      let drops : drops_at w'.place ≡ drops_at w.place = now_at ∙ sym was_at ∙ sym (ap drops_at here) in
      let index : w'.index ≡ w.index = ap (λ v. v.index) serves.worker in
      let same : (with_worker others w').drops_by ≡ (with_worker others w).drops_by =
      ap (λ (k : ℕ). λ (j : ℕ). if j == k then drops_at w'.place else others.drops_by j) index ∙ ap (λ (x : Drops). λ (j : ℕ). if j == w.index then x else others.drops_by j) drops in
      subst (λ x. HaveGates x s'.opens s'.requests.items) (sym same)
      (gates_opens s.opens s'.opens spares.opens (with_worker others w).drops_by s'.requests.items
      (gates_kept s.requests.items s'.requests.items spares.lines (with_worker others w).drops_by s.opens whole.gates))

  -- what it has in hand, by what it is about to wake
  pub hands_served : (q : Place) (w w' : Worker) (s s' : Shared B) → Serves q w w' s s' → (others : Profile)
      → hands_of (with_worker others w') ≡ record (hands_of (with_worker others w)) { wakes = λ j t. if j == w.index then wakes_with t w' else others.wakes j t }
  hands_served q w w' s s' serves others = ap (λ v. hands_of (with_worker others v)) serves.worker

  pub holding_still : (q : Place) (w w' : Worker) (s s' : Shared B) → Serves q w w' s s' → w'.home.deferred.notes.wakes.items ≡ w.home.deferred.notes.wakes.items → map thing_of s'.requests.items ≡ map thing_of s.requests.items → map nap_of s'.sleepers.items ≡ map nap_of s.sleepers.items
      → (others : Profile) → IsWhole (with_worker others w) s → IsHolding (hands_of (with_worker others w')) s.config.workers (map holder_of s.tasks.items) (map thing_of s'.requests.items) (map nap_of s'.sleepers.items) (map box_of s.seats.items)
  holding_still q w w' s s' serves wakes things naps others whole =
      let h : Hands = hands_of (with_worker others w) in
      let same : hands_of (with_worker others w') ≡ h = grind (arith, serves.worker, wakes) in
      subst (λ x. IsHolding x s.config.workers (map holder_of s.tasks.items) (map thing_of s'.requests.items) (map nap_of s'.sleepers.items) (map box_of s.seats.items)) (sym same)
      (subst (λ xs. IsHolding h s.config.workers (map holder_of s.tasks.items) xs (map nap_of s'.sleepers.items) (map box_of s.seats.items)) (sym things)
      (subst (λ ys. IsHolding h s.config.workers (map holder_of s.tasks.items) (map thing_of s.requests.items) ys (map box_of s.seats.items)) (sym naps) whole.holding))

  pub balances_still : (q : Place) (w w' : Worker) (s s' : Shared B) → w.place ≡ q → Serves q w w' s s' → SparesRecords w.index s s' → passes_at w'.place ≡ passes_at q → w'.home.deferred.notes.wakes.items ≡ w.home.deferred.notes.wakes.items
      → map thing_of s'.requests.items ≡ map thing_of s.requests.items → map nap_of s'.sleepers.items ≡ map nap_of s.sleepers.items → Balances w w' s s'
  balances_still q w w' s s' here serves spares passes wakes things naps =
      record { gates = gates_still q w w' s s' here serves spares passes; holding = holding_still q w w' s s' serves wakes things naps }

  pub beside_service_by : (q : Place) (w w' : Worker) (s s' : Shared B) → w.place ≡ q → Serves q w w' s s' → SparesGates w.index s s' → Balances w w' s s' → HasRoom s'.requests.items s'.store → Beside w s w' s'
  beside_service_by q w w' s s' here serves spares balances room =
      record {
        spares = λ j other. spares_service_by w.index j s s' other serves.shared spares room;
        whole = λ others whole. whole_service q w w' s s' others here serves balances whole;
      }
