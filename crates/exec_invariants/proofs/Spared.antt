-- What holds of a worker by the records of its requests and sleepers alone, where a step of another leaves those.
use Rattle.exec_invariants.{specs.{Due.{AreAsleep, AreTimed}, Flown.{AreLanded, HasFlown, operations, IsPlain}, Holding.Mail, HoldPlaces.Hearing, Places.one_if, Rooted.{HearsNext, IsRooted, completions_of, results_of}, Sound.{AreOver, IsLetter, IsMineIn, IsMyMail, MayStop, StopsIn}, Names.{IsNamed, IsSubmitted, IsAlike}, Spares.{RecordsEndure, SleepersEndure, SparedRecords, SparedSleepers, SparesRecord, SparesRecords, SparesSleeper, SparesSleepers}}, proofs.{Words.{◌≡◌, ℕ, ◌+◌, ◌≤◌, ◌<◌, ◌==◌, Bool, true, false, List, [], ◌∷◌, length, Option, Some, IsSome, refl, sym, ap, subst, ◌∙◌, arith, slice_get, false≢true, eq-eqb, slice_get_within, None, Slab, value_at, Id, Sleeping, Completion, waiter_at, Deferred, Waiter, WaiterId, Driving, is_among, Waiting, is_asleep, is_resolved, is_staged, Heard, InPoll, InService, Reply, Subject, Names, Record, SleeperRecord, number_in, AreKnown, is_one_of, same_number, or_left, or_right}, FiringNames.naps_on, SparedRecord.{there_within, live_of, mine_asleep, applied_still, worker_still, over_still, was_held, goes_still, answer_by, alike_by, timed_by, plain_by, kept_by, reply_by, stands_by, paid_still, pays_by, sleeper_worker_still, ends_still, watches_by, sleeper_pays_by}}}

-- THE RECORDS OF A WORKER'S REQUESTS AND SLEEPERS are spared
pub record KeepsMine (i : ℕ) (rs rs' : List Record) (ss ss' : List SleeperRecord) : Type 0 where
  pub records : SparesRecords i rs rs'
  pub records_only : SparedRecords i rs rs'
  pub sleepers : SparesSleepers i ss ss'
  pub sleepers_only : SparedSleepers i ss ss'

module _ (i : ℕ) (rs rs' : List Record) (ss ss' : List SleeperRecord) (keeps : KeepsMine i rs rs' ss ss') where
  -- who stands there was spared
  back : (k : ℕ) (r x : Record) → slice_get rs k ≡ Some r → r.shown.worker ≡ i → slice_get rs' k ≡ Some x → SparesRecord r x
  back = grind arith

  sleeper_back : (k : ℕ) (z x : SleeperRecord) → slice_get ss k ≡ Some z → z.shown.worker ≡ i → slice_get ss' k ≡ Some x → SparesSleeper z x
  sleeper_back = grind arith

  -- one of worker i that stands there was the worker's before
  was_mine : (k : ℕ) (x : Record) (there : slice_get rs' k ≡ Some x) (mine : x.shown.worker ≡ i) → (keeps.records_only k x there mine).0.shown.worker ≡ i
  was_mine k x there mine = let old = keeps.records_only k x there mine in sym (worker_still old.0 x old.2) ∙ mine

  sleeper_was_mine : (k : ℕ) (x : SleeperRecord) (there : slice_get ss' k ≡ Some x) (mine : x.shown.worker ≡ i) → (keeps.sleepers_only k x there mine).0.shown.worker ≡ i
  sleeper_was_mine k x there mine = let old = keeps.sleepers_only k x there mine in sym (sleeper_worker_still old.0 x old.2) ∙ mine

  -- WHAT IS SUBMITTED

  known_apart : (ks : List ℕ) → AreKnown ks rs → ((k : ℕ) (x : Record) → is_one_of k ks ≡ true → slice_get rs k ≡ Some x → x.shown.worker ≡ i) → AreKnown ks rs'
  known_apart [] known own = tt
  known_apart (k ∷ ks) known own =
      let x = there_within rs k known.0 in
      let now = keeps.records k x.0 x.1 (own k x.0 (or_left (k == k) (is_one_of k ks) (eq-eqb k k refl)) x.1) in
      (slice_get_within rs' k now.0 now.1, known_apart ks known.1 (λ j y among there. own j y (or_right (k == j) (is_one_of j ks) among) there))

  known_at : (ks : List ℕ) (k : ℕ) → AreKnown ks rs → is_one_of k ks ≡ true → k < length rs
  known_at [] k known among = absurd (false≢true among)
  known_at (q ∷ ks) k known among = grind (arith, same_number, known_at ks k)

  submitted_apart : (n : Names) (d : Driving Reply Reply) → IsSubmitted i n.staged.items n.untold.items d.ring rs → IsSubmitted i n.staged.items n.untold.items d.ring rs'
  submitted_apart n d sub =
      let own : (k : ℕ) (x : Record) → is_one_of k n.staged.items ≡ true → slice_get rs' k ≡ Some x → x.shown.worker ≡ i = λ k x among there.
      let y = there_within rs k (known_at n.staged.items k sub.known among) in
      let mine = sub.own k y.0 among y.1 in
      worker_still y.0 x (back k y.0 x y.1 mine there) ∙ mine in
      let all : (k : ℕ) (x : Record) → slice_get rs' k ≡ Some x → x.shown.worker ≡ i → is_staged x.shown.phase ≡ true → is_one_of k n.staged.items ≡ true = λ k x there mine is.
      let old = keeps.records_only k x there mine in
      sub.all k old.0 old.1 (was_mine k x there mine) (sym (ap (λ (y : Record). is_staged y.shown.phase) old.2.kept) ∙ is) in
      assumption (known_apart n.staged.items sub.known sub.own, own, all, sub)

  -- NAMES

  module _ (n : Names) (d : Driving Reply Reply) (zs : Slab (Sleeping Reply)) (named : IsNamed i n d zs rs ss) where
    -- a request that is there, and a sleeper
    pub record_back : (id : Id) (x : Record) → IsSome (value_at d.requests id) → slice_get rs' (number_in n.requests.items id) ≡ Some x → (r : Record) × (slice_get rs (number_in n.requests.items id) ≡ Some r) × SparesRecord r x
    record_back id x some there =
        let old = named.requests id some in
        (old.0, old.1, back (number_in n.requests.items id) old.0 x old.1 old.3 there)

    pub timer_back : (id : Id) (x : SleeperRecord) → IsSome (value_at zs id) → slice_get ss' (number_in n.timers.items id) ≡ Some x → (z : SleeperRecord) × (slice_get ss (number_in n.timers.items id) ≡ Some z) × SparesSleeper z x
    timer_back id x some there =
        let old = named.timers id some in
        (old.0, old.1, sleeper_back (number_in n.timers.items id) old.0 x old.1 old.3 there)

    pub named_apart : IsNamed i n d zs rs' ss'
    named_apart =
        let requests : (id : Id) → IsSome (value_at d.requests id) → (r : Record) × (slice_get rs' (number_in n.requests.items id) ≡ Some r) × (r.id.0 ≡ id) × (r.shown.worker ≡ i) = λ id some.
        let r = named.requests id some in
        let now = keeps.records (number_in n.requests.items id) r.0 r.1 r.3 in
        (now.0, now.1, ap (λ (x : Record). x.id.0) now.2.kept ∙ r.2, worker_still r.0 now.0 now.2 ∙ r.3) in
        let timers : (id : Id) → IsSome (value_at zs id) → (sleeper : SleeperRecord) × (slice_get ss' (number_in n.timers.items id) ≡ Some sleeper) × (sleeper.id.0 ≡ id) × (sleeper.shown.worker ≡ i) = λ id some.
        let z = named.timers id some in
        let now = keeps.sleepers (number_in n.timers.items id) z.0 z.1 z.3 in
        (now.0, now.1, ap (λ (x : SleeperRecord). x.id.0) now.2.kept ∙ z.2, sleeper_worker_still z.0 now.0 now.2 ∙ z.3) in
        let alike : (id : Id) (it : Waiter Reply Reply) (r : Record) → waiter_at d.requests id ≡ Some it → slice_get rs' (number_in n.requests.items id) ≡ Some r → IsAlike d.wheel.start d.wheel.tick it r.shown = λ id it r live there.
        let old = record_back id r (live_of d.requests id it live) there in
        alike_by old.0 r old.2 d.wheel.start d.wheel.tick it (named.alike id it old.0 live old.1) in
        let over : (k : ℕ) (r : Record) → slice_get rs' k ≡ Some r → r.shown.worker ≡ i → waiter_at d.requests r.id.0 ≡ None → is_resolved r.shown.phase ≡ true = λ k r there mine gone.
        let old = keeps.records_only k r there mine in
        over_still old.0 r old.2 ∙ named.over k old.0 old.1 (was_mine k r there mine) (ap (waiter_at d.requests) (sym (ap (λ (x : Record). x.id.0) old.2.kept)) ∙ gone) in
        assumption (requests, timers, alike, over, submitted_apart n d named.submitted, named)

    -- WHAT IS DUE

    pub timed_apart : AreTimed i n rs → AreTimed i n rs'
    timed_apart timed = λ k r there mine.
        let old = keeps.records_only k r there mine in
        timed_by old.0 r old.2 n k (timed k old.0 old.1 (was_mine k r there mine))

    pub asleep_apart : {closing : Bool} → AreAsleep closing i n zs ss → length ss ≤ length ss' → AreAsleep closing i n zs ss'
    asleep_apart asleep more =
        record {
          alike = λ id z r at there.
              let old = timer_back id r (rw at refl) there in
              let h = asleep.alike id z old.0 at old.1 in
              record { until = ap (λ (x : SleeperRecord). x.shown.until) old.2.kept ∙ h.until; asleep = ap (λ (x : SleeperRecord). is_asleep i x.shown) old.2.kept ∙ h.asleep; unclosed = ap (λ (x : SleeperRecord). x.closed) old.2.kept ∙ h.unclosed };
          there = λ k r there is unclosed.
              let old = keeps.sleepers_only k r there (mine_asleep i r.shown is) in
              subst (λ (x : SleeperRecord). IsSome (value_at zs x.id.0)) (sym old.2.kept) (asleep.there k old.0 old.1 (sym (ap (λ (x : SleeperRecord). is_asleep i x.shown) old.2.kept) ∙ is) (sym (ap (λ (x : SleeperRecord). x.closed) old.2.kept) ∙ unclosed));
          named = λ k r there is unclosed.
              let old = keeps.sleepers_only k r there (mine_asleep i r.shown is) in
              ap (λ (x : SleeperRecord). number_in n.timers.items x.id.0) old.2.kept ∙ asleep.named k old.0 old.1 (sym (ap (λ (x : SleeperRecord). is_asleep i x.shown) old.2.kept) ∙ is) (sym (ap (λ (x : SleeperRecord). x.closed) old.2.kept) ∙ unclosed);
          lets_go = λ k r there mine closed.
              let old = keeps.sleepers_only k r there mine in
              asleep.lets_go k old.0 old.1 (sleeper_was_mine k r there mine) (sym (ap (λ (x : SleeperRecord). x.closed) old.2.kept) ∙ closed);
          counted = λ id past. (let below = asleep.counted id past in omega (arith, below, more));
          names =
              naps_on i zs zs ss ss'
              (λ k r there mine.
              let old = keeps.sleepers_only k r there mine in
              record { r = old.0; there = old.1; mine = sleeper_was_mine k r there mine; name = sym (ap (λ (x : SleeperRecord). x.id.0) old.2.kept) })
              (λ id past. past) asleep.names;
        }

    -- WHAT HAS LANDED

    landed_apart : (cs : List Completion) → AreLanded n d rs cs → AreLanded n d rs' cs
    landed_apart [] landed = tt
    landed_apart (c ∷ cs) landed =
        let h = landed.0 in
        let old = named.requests h.id (live_of d.requests h.id h.it h.live) in
        let is : old.0 ≡ h.r = cc (old.1, h.there) in
        let now = keeps.records (number_in n.requests.items h.id) h.r h.there (subst (λ (y : Record). y.shown.worker ≡ i) is old.3) in (
          record { id = h.id; it = h.it; r = now.0; index = h.index; generation = h.generation; live = h.live; flies = h.flies; lawful = h.lawful; there = now.1; landed = ap (λ (x : Record). x.shown.phase) now.2.kept ∙ h.landed },
          landed.1,
          landed_apart cs landed.2,
        )

    pub flown_apart : (x : Option InService) → ((k : ℕ) (r : Record) → slice_get rs' k ≡ Some r → is_resolved r.shown.phase ≡ false → r.shown.released ≡ false) → HasFlown x i n d rs → HasFlown x i n d rs'
    flown_apart x owning flown =
        let plain : (k : ℕ) (r : Record) → slice_get rs' k ≡ Some r → r.shown.worker ≡ i → IsPlain r.shown = λ k r there mine.
        let old = keeps.records_only k r there mine in
        plain_by old.0 r old.2 (flown.plain k old.0 old.1 (was_mine k r there mine)) in
        let uncancelled : (id : WaiterId) (r : Record) → is_among id d.lists.cancels ≡ true → slice_get rs' (number_in n.requests.items id.0) ≡ Some r → r.shown.worker ≡ i → r.shown.cancel_staged ≡ false = λ id r among there mine.
        let old = keeps.records_only (number_in n.requests.items id.0) r there mine in
        ap (λ (y : Record). y.shown.cancel_staged) old.2.kept ∙ flown.uncancelled id old.0 among old.1 (was_mine (number_in n.requests.items id.0) r there mine) in
        assumption (plain, landed_apart (operations d.ring) flown.landed, owning, uncancelled, flown)

    -- WHAT IS KEPT

    pub rooted_apart : (left : Deferred Reply Reply) → IsRooted i n d zs left rs ss → IsRooted i n d zs left rs' ss'
    rooted_apart left h =
        record {
          kept = λ id told r at there.
              let old = record_back id r (rw at refl) there in
              kept_by old.0 r old.2 told (h.kept id told old.0 at old.1);
          ready = λ k r there mine over held unapplied.
              let old = keeps.records_only k r there mine in
              stands_by old.0 r old.2 k n d (h.ready k old.0 old.1 (was_mine k r there mine) (sym (over_still old.0 r old.2) ∙ over) (was_held old.0 r old.2 held) (sym (applied_still old.0 r old.2) ∙ unapplied));
          replies = λ id it reply r live is there.
              let old = record_back id r (live_of d.requests id it live) there in
              reply_by old.0 r old.2 (number_in n.requests.items id) reply (h.replies id it reply old.0 live is old.1);
          watches = λ id it z at there.
              let old = timer_back id z (rw at refl) there in
              watches_by old.0 z old.2 (number_in n.timers.items id) it.observer (h.watches id it old.0 at old.1);
          pays = λ k r there mine.
              let old = keeps.records_only k r there mine in
              pays_by old.0 r old.2 (h.pays k old.0 old.1 (was_mine k r there mine));
          sleeper_pays = λ k z there mine.
              let old = keeps.sleepers_only k z there mine in
              sleeper_pays_by old.0 z old.2 (h.sleeper_pays k old.0 old.1 (sleeper_was_mine k z there mine));
          results = λ a has.
              let x = h.results a has in
              let now = keeps.records x.k x.r x.there x.worker in
              record { k = x.k; r = now.0; there = now.1; worker = worker_still x.r now.0 now.2 ∙ x.worker; reply = reply_by x.r now.0 now.2 x.k a.sender x.reply; answer = answer_by x.r now.0 now.2 a.result x.answer; paid = subst (λ m. m ≤ 1) (sym (paid_still x.r now.0 now.2)) x.paid };
          completions = λ c has.
              let x = h.completions c has in
              let now = keeps.sleepers x.n x.z x.there x.worker in
              record { n = x.n; z = now.0; there = now.1; worker = sleeper_worker_still x.z now.0 now.2 ∙ x.worker; reply = x.reply ∙ ap (λ (y : SleeperRecord). record { task = record { 0 = y.shown.task }; of = Heard.Timer x.n }) (sym now.2.kept); paid = subst (λ m. m ≤ 1) (sym (ap (λ (y : SleeperRecord). y.shown.wakes_paid) now.2.kept)) x.paid };
          sent = λ k r there mine.
              let old = keeps.records_only k r there mine in
              ap (λ (y : Record). results_of k left + one_if y.sent) old.2.kept ∙ h.sent k old.0 old.1 (was_mine k r there mine) ∙ sym (ap one_if (goes_still old.0 r old.2));
          sleeper_sent = λ k z there mine.
              let old = keeps.sleepers_only k z there mine in
              ap (λ (y : SleeperRecord). completions_of k left + one_if y.sent) old.2.kept ∙ h.sleeper_sent k old.0 old.1 (sleeper_was_mine k z there mine) ∙ sym (ap one_if (ends_still old.0 z old.2));
        }

  -- WHAT IS OVER, AND WHAT WAS HEARD

  pub over_apart : (ended : List ℕ) (unreleased others : ℕ) → AreOver i ended unreleased others rs → AreOver i ended unreleased others rs'
  over_apart = grind arith

  pub heard_apart : (h : Option Hearing) → HearsNext h i rs ss → HearsNext h i rs' ss'
  heard_apart = grind arith

-- WHAT MESSAGES ARE ABOUT, whose ever it is

module _ (rs rs' : List Record) (ss ss' : List SleeperRecord) (endure : RecordsEndure rs rs') (endure_too : SleepersEndure ss ss') where
  mine_in_apart : (workers j : ℕ) (s : Subject) → IsMineIn workers j s rs ss → IsMineIn workers j s rs' ss'
  mine_in_apart workers j (Subject.Request k) h = let now = endure k h.0 h.1 in (now.0, now.1, now.2.worker ∙ h.2, h.3)
  mine_in_apart workers j (Subject.Timer n) h = let now = endure_too n h.0 h.1 in (now.0, now.1, now.2.worker ∙ h.2, h.3)

  pub mail_apart : (workers j : ℕ) (m : Mail) → IsMyMail workers j m rs ss → IsMyMail workers j m rs' ss'
  mail_apart = grind arith

  pub letter_apart : (workers i : ℕ) (s : Subject) (j : ℕ) → IsLetter workers i s j rs ss → IsLetter workers i s j rs' ss'
  letter_apart workers i s j h = (mine_in_apart workers j s h.0, h.1)

  -- where a poll ends
  pub may_stop_apart : (i : ℕ) → KeepsMine i rs rs' ss ss' → (w : Waiting) → MayStop i w rs ss → MayStop i w rs' ss'
  may_stop_apart = grind arith

  pub stops_apart : (x : InPoll) (i : ℕ) → KeepsMine i rs rs' ss ss' → (w : Waiting) → StopsIn x i w rs ss → StopsIn x i w rs' ss'
  stops_apart InPoll.Pend i keeps w h = may_stop_apart i keeps w h
  stops_apart _ i keeps w h = tt

-- WHAT ENDURES where all is as it was

pub records_endure : (rs rs' : List Record) → rs' ≡ rs → RecordsEndure rs rs'
records_endure rs rs' same = λ k r there. (r, ap (λ xs. slice_get xs k) same ∙ there, record { worker = refl; forwarded = λ h. h })

pub sleepers_endure : (ss ss' : List SleeperRecord) → ss' ≡ ss → SleepersEndure ss ss'
sleepers_endure ss ss' same = λ k z there. (z, ap (λ xs. slice_get xs k) same ∙ there, record { worker = refl; forwarded = λ h. h })
