-- The callbacks: a request or a sleeper of the worker is marked, as one that has paid or whose end was sent elsewhere. What the
-- worker's own facts say then, but for what it keeps to be told.
use Rattle.std.proofs.{Common.{◌≡◌, ℕ, zero, suc, ◌+◌, ◌<◌, ◌==◌, Bool, true, false, Contains, List, [], ◌∷◌, count_by, Option, Some, None, IsSome, refl, sym, ap, subst, ◌∙◌, arith, slice_get, slice_set}, lemmas.List.length-set}
use Rattle.exec_base.specs.{Slab.{Slab, value_at}, declared.slab.Id.Id}
use Rattle.exec_time.specs.declared.timers.Sleeper.{Sleeper as Sleeping}
use Rattle.exec_waiters.specs.{States.pending_count, declared.deferred.Deferred.Deferred}
use Rattle.exec_driver.specs.{Driving.Driving}
use Rattle.exec_machine.specs.{declared.config.Configuration.Configuration, Tests.{is_asleep, is_resolved}}
use Rattle.exec_moves.specs.declared.{handing.AfterCallbacks.AfterCallbacks, place.{InCallbacks.InCallbacks, InService.InService, Place.Place}}
use Rattle.exec_parts.{specs.{declared.parts.{letters.Letters.Letters, mail.{Reply.Reply, Subject.Subject}, names.Names.Names, record.Record.Record, shared.Shared.Shared, sleeping.SleeperRecord.SleeperRecord, worker.{Moments.Moments, Worker.Worker}}, Records.number_in, Serving.changed_at, Calls.IsTold, View.driver_of}, proofs.Facts.{by_number, same_Some, set_elsewhere, set_there}}
use Rattle.exec_invariants.{specs.{Carried.IsCarried, Due.{AreAsleep, IsAsleepAs, IsDue}, Flown.HasFlown, Gates.{AreLinedUp, IsKnown}, HoldPlaces.spare_before, Holding.Mail, Rooted.IsRooted, Sound.{AreOver, HasLetters, IsLetter, IsMineIn, IsMyMail, SoundAt}, Names.{HasWidth, IsNamed, tellers}}, proofs.{Carries.carried_marked, FiringNames.naps_set, Flown.flown_marked, Known.known_marked, Lined.{KeepsAt, lined_at, map_changed}, Marking.{Marks, before, due_marked, mark_if, marked, marks_if, named_marked}, ServedEnds.{count_both, count_one}}}

-- what is in a list counts there
pub count_some : {A : Type 0} (p : A → Bool) (xs : List A) (a : A) → Contains xs a → p a ≡ true → 0 < count_by p xs
count_some p [] a (k, few, is) so = absurd (omega (arith, few))
count_some p (x ∷ xs) a (zero, few, is) so =
    let one : count_by p (x ∷ []) ≡ 1 = count_one p x true (ap p is ∙ so) in
    let both : count_by p (x ∷ xs) ≡ count_by p (x ∷ []) + count_by p xs = count_both p (x ∷ []) xs in
    let more : count_by p (x ∷ xs) ≡ 1 + count_by p xs = both ∙ ap (λ k. k + count_by p xs) one in
    subst (λ k. 0 < k) (sym more) (omega arith)
count_some p (x ∷ xs) a (suc k, few, is) so =
    let rest : 0 < count_by p xs = count_some p xs a (k, omega (arith, few), is) so in
    let both : count_by p (x ∷ xs) ≡ count_by p (x ∷ []) + count_by p xs = count_both p (x ∷ []) xs in
    subst (λ k. 0 < k) (sym both) (omega (arith, rest))

-- EACH RECORD, AND EACH SLEEPER, is there then, and of the same worker

abbrev pub AreOn : List Record → List Record → Type 0
AreOn rs rs' = (k : ℕ) (r : Record) → slice_get rs k ≡ Some r → (r' : Record) × (slice_get rs' k ≡ Some r') × (r'.shown.worker ≡ r.shown.worker)

abbrev pub SleepOn : List SleeperRecord → List SleeperRecord → Type 0
SleepOn zs zs' = (k : ℕ) (z : SleeperRecord) → slice_get zs k ≡ Some z → (z' : SleeperRecord) × (slice_get zs' k ≡ Some z') × (z'.shown.worker ≡ z.shown.worker)

module _ (rs rs' : List Record) (zs zs' : List SleeperRecord) (on : AreOn rs rs') (too : SleepOn zs zs') where
  mine_on : (workers j : ℕ) (x : Subject) → IsMineIn workers j x rs zs → IsMineIn workers j x rs' zs'
  mine_on workers j (Subject.Request k) is = let new = on k is.0 is.1 in (new.0, new.1, new.2 ∙ is.2, is.3)
  mine_on workers j (Subject.Timer n) is = let new = too n is.0 is.1 in (new.0, new.1, new.2 ∙ is.2, is.3)

  pub mail_on : (workers j : ℕ) (m : Mail) → IsMyMail workers j m rs zs → IsMyMail workers j m rs' zs'
  mail_on = grind arith

  letter_on : (workers i : ℕ) (x : Subject) (j : ℕ) → IsLetter workers i x j rs zs → IsLetter workers i x j rs' zs'
  letter_on workers i x j is = (mine_on workers j x is.0, is.1)

  pub letters_on : (i workers : ℕ) (l : Letters) → HasLetters false false i workers l rs zs → HasLetters false false i workers l rs' zs'
  letters_on i workers l has =
      record {
        some = has.some;
        none = has.none;
        requests = λ h among. letter_on workers i (Subject.Request h.number) h.worker (has.requests h among);
        timer = λ h is. letter_on workers i (Subject.Timer h.number) h.worker (has.timer h is);
      }

-- A REQUEST is marked

module _ (f : Record → Record) (marks : Marks f) (released : (r : Record) → (f r).shown.released ≡ r.shown.released) (rs : List Record) (q : ℕ) where
  released_if : (b : Bool) (r : Record) → (mark_if f b r).shown.released ≡ r.shown.released
  released_if true r = released r
  released_if false r = refl

  over_marked : (i : ℕ) (ended : List ℕ) (unreleased others : ℕ) → AreOver i ended unreleased others rs → AreOver i ended unreleased others (changed_at rs q f)
  over_marked i ended unreleased others over =
      record {
        over = λ k m there.
            let old = over.over k m there in
            let is = marks_if f marks (q == m) old.0 in
            (mark_if f (q == m) old.0, marked f rs q m old.0 old.1, ap (λ y. y.shown.worker) is ∙ old.2, (ap (λ y. is_resolved y.shown.phase) is ∙ old.3.0, released_if (q == m) old.0 ∙ old.3.1));
        once = over.once;
        counted = over.counted;
      }

  pub marked_at : (r : Record) → slice_get rs q ≡ Some r → KeepsAt rs (changed_at rs q f)
  marked_at = grind (arith, map_changed, before, same_Some)

  pub marked_on : AreOn rs (changed_at rs q f)
  marked_on k r there = (mark_if f (q == k) r, marked f rs q k r there, ap (λ y. y.shown.worker) (marks_if f marks (q == k) r))

-- A SLEEPER is

pub record SleepsAlike (z z' : SleeperRecord) : Type 0 where
  pub kept : z' ≡ record z { shown = record z.shown { wakes_paid = z'.shown.wakes_paid }; sent = z'.sent }

alike_itself : (z : SleeperRecord) → SleepsAlike z z
alike_itself z = record { kept = refl }

module _ (ss : List SleeperRecord) (n : ℕ) (z z' : SleeperRecord) (there : slice_get ss n ≡ Some z) (alike : SleepsAlike z z') where
  pub slept_was : (k : ℕ) (y : SleeperRecord) → slice_get (slice_set ss n z') k ≡ Some y → (v : SleeperRecord) × (slice_get ss k ≡ Some v) × SleepsAlike v y
  slept_was = grind (arith, by_number, set_elsewhere, alike_itself, same_Some, set_there)

  pub slept_now : (k : ℕ) (v : SleeperRecord) → slice_get ss k ≡ Some v → (y : SleeperRecord) × (slice_get (slice_set ss n z') k ≡ Some y) × SleepsAlike v y
  slept_now k v at =
      by_number k n
      (λ apart. (v, set_elsewhere ss n k z' apart ∙ at, alike_itself v))
      (λ same.
      let is : z ≡ v = same_Some z v (sym there ∙ subst (λ m. slice_get ss m ≡ Some v) same at) in
      (z', subst (λ m. slice_get (slice_set ss n z') m ≡ Some z') (sym same) (set_there ss n z' z there), subst (λ x. SleepsAlike x z') is alike))

  pub slept_on : SleepOn ss (slice_set ss n z')
  slept_on k v at = let new = slept_now k v at in (new.0, new.1, ap (λ (y : SleeperRecord). y.shown.worker) new.2.kept)

  named_slept : (i : ℕ) (m : Names) (d : Driving Reply Reply) (zs : Slab (Sleeping Reply)) (rs : List Record) → IsNamed i m d zs rs ss → IsNamed i m d zs rs (slice_set ss n z')
  named_slept = grind (arith, slept_now)

  due_slept : {closing : Bool} (x : Option InService) (i : ℕ) (at : Moments) (c : Configuration) (m : Names) (d : Driving Reply Reply) (zs : Slab (Sleeping Reply)) (rs : List Record) → IsDue x closing i at c m d zs rs ss → IsDue x closing i at c m d zs rs (slice_set ss n z')
  due_slept {closing} x i at c m d zs rs due =
      let same : (id : Id) (it : Sleeping Reply) (y : SleeperRecord) → value_at zs id ≡ Some it → slice_get (slice_set ss n z') (number_in m.timers.items id) ≡ Some y → IsAsleepAs i it y = λ id it y live found.
      let v = slept_was (number_in m.timers.items id) y found in
      let old = due.asleep.alike id it v.0 live v.1 in
      subst (λ (u : SleeperRecord). IsAsleepAs i it u) (sym v.2.kept) (record { until = old.until; asleep = old.asleep; unclosed = old.unclosed }) in
      let live : (j : ℕ) (y : SleeperRecord) → slice_get (slice_set ss n z') j ≡ Some y → is_asleep i y.shown ≡ true → y.closed ≡ false → IsSome (value_at zs y.id.0) = λ j y found asleep unclosed.
      let v = slept_was j y found in
      subst (λ (u : SleeperRecord). IsSome (value_at zs u.id.0)) (sym v.2.kept)
      (due.asleep.there j v.0 v.1 (sym (ap (λ (u : SleeperRecord). is_asleep i u.shown) v.2.kept) ∙ asleep) (sym (ap (λ (u : SleeperRecord). u.closed) v.2.kept) ∙ unclosed)) in
      let named : (j : ℕ) (y : SleeperRecord) → slice_get (slice_set ss n z') j ≡ Some y → is_asleep i y.shown ≡ true → y.closed ≡ false → number_in m.timers.items y.id.0 ≡ j = λ j y found asleep unclosed.
      let v = slept_was j y found in
      ap (λ (u : SleeperRecord). number_in m.timers.items u.id.0) v.2.kept
      ∙ due.asleep.named j v.0 v.1 (sym (ap (λ (u : SleeperRecord). is_asleep i u.shown) v.2.kept) ∙ asleep) (sym (ap (λ (u : SleeperRecord). u.closed) v.2.kept) ∙ unclosed) in
      let lets_go : (j : ℕ) (y : SleeperRecord) → slice_get (slice_set ss n z') j ≡ Some y → y.shown.worker ≡ i → y.closed ≡ true → closing ≡ true = λ j y found mine closed.
      let v = slept_was j y found in
      due.asleep.lets_go j v.0 v.1 (sym (ap (λ (u : SleeperRecord). u.shown.worker) v.2.kept) ∙ mine) (sym (ap (λ (u : SleeperRecord). u.closed) v.2.kept) ∙ closed) in
      let asleep : AreAsleep closing i m zs (slice_set ss n z') = record { alike = same; there = live; named = named; lets_go = lets_go; counted = λ id past. subst (λ k. id.generation < k) (sym (length-set ss n z')) (due.asleep.counted id past); names = naps_set i zs zs ss n z z' there (ap (λ (y : SleeperRecord). y.id.0) alike.kept) (ap (λ (y : SleeperRecord). y.shown.worker) alike.kept) (λ id h. h) due.asleep.names } in
      record { punctual = due.punctual; told = due.told; wheel = due.wheel; timed = due.timed; asleep = asleep; order = due.order }

-- WHAT HOLDS OF THE WORKER THEN, with what is left to be told, where the batch was taken

module _ {B : Type 0} where
  pub record Remade (n : AfterCallbacks) (w : Worker) (s s1 : Shared B) (left : Deferred Reply Reply) : Type 0 where
    pub told : IsTold w.names.ended.items left (tellers (driver_of w).requests w.home.timers + spare_before (Some n))
    pub wide : HasWidth left (tellers (driver_of w).requests w.home.timers + 64)
    pub gates : AreLinedUp s.opens s1.requests.items
    pub known : IsKnown w.index w.names.requests.items (driver_of w).requests s.opens s1.requests.items
    pub named : IsNamed w.index w.names (driver_of w) w.home.timers s1.requests.items s1.sleepers.items
    pub over : AreOver w.index w.names.ended.items w.names.unreleased (pending_count (driver_of w).requests) s1.requests.items
    pub mine : (m : Mail) → Contains w.batch.values m → IsMyMail s.config.workers w.index m s1.requests.items s1.sleepers.items
    pub letters : HasLetters false false w.index s.config.workers w.letters s1.requests.items s1.sleepers.items
    pub due : IsDue None w.home.closing w.index w.moments s.config w.names (driver_of w) w.home.timers s1.requests.items s1.sleepers.items
    pub flown : HasFlown None w.index w.names (driver_of w) s1.requests.items
    pub carried : IsCarried w.names.requests.items (driver_of w).requests (driver_of w).ring s1.requests.items s.store
    pub rooted : IsRooted w.index w.names (driver_of w) w.home.timers left s1.requests.items s1.sleepers.items

  pub remade : (x : InCallbacks) (n : AfterCallbacks) (w : Worker) (s s1 : Shared B) (left : Deferred Reply Reply) → SoundAt (Place.Callbacks x n) w s → w.searching ≡ false → Remade n w s s1 left
      → SoundAt (Place.Callbacks InCallbacks.TakeBatch n) (record w { place = Place.Callbacks InCallbacks.TakeBatch n; home = record w.home { deferred = left } }) (record s { requests = s1.requests; sleepers = s1.sleepers })
  remade = grind arith

  -- a request was marked
  pub remade_request : (x : InCallbacks) (n : AfterCallbacks) (w : Worker) (s s1 : Shared B) (left : Deferred Reply Reply) (f : Record → Record) (marks : Marks f) → ((r : Record) → (f r).shown.released ≡ r.shown.released) → (q : ℕ) (r : Record) → slice_get s.requests.items q ≡ Some r
      → SoundAt (Place.Callbacks x n) w s → s1.requests.items ≡ changed_at s.requests.items q f → s1.sleepers.items ≡ s.sleepers.items
      → IsTold w.names.ended.items left (tellers (driver_of w).requests w.home.timers + spare_before (Some n)) → HasWidth left (tellers (driver_of w).requests w.home.timers + 64)
      → IsRooted w.index w.names (driver_of w) w.home.timers left (changed_at s.requests.items q f) s.sleepers.items → Remade n w s s1 left
  remade_request x n w s s1 left f marks released q r there sound requests sleepers told wide rooted =
      let rs = s.requests.items in
      let rs' = changed_at rs q f in
      let ss = s.sleepers.items in
      let i = w.index in
      let d = driver_of w in
      let zs = w.home.timers in
      let gates : AreLinedUp s.opens rs' = lined_at rs rs' (marked_at f marks released rs q r there) s.opens sound.gates in
      let known : IsKnown i w.names.requests.items d.requests s.opens rs' =
      known_marked i w.names.requests.items d.requests s.opens s.opens rs q f
      (λ y. record {
        id = ap (λ v. v.id) (marks y);
        worker = ap (λ v. v.shown.worker) (marks y);
        kind = ap (λ v. v.shown.operation.kind) (marks y);
        target = ap (λ v. v.shown.operation.target) (marks y);
        unrefused = λ h. sym (ap (λ v. v.shown.operation.unrefused) (marks y)) ∙ h;
      })
      (λ file h. h) sound.known in
      let was : IsNamed i w.names d zs rs ss = record { requests = sound.named.requests; timers = sound.named.timers; alike = sound.named.alike; over = sound.named.over; submitted = sound.named.submitted; slots = sound.named.slots; beds = sound.named.beds } in
      let named : IsNamed i w.names d zs rs' ss = named_marked f rs q marks i w.names d zs ss was in
      let over : AreOver i w.names.ended.items w.names.unreleased (pending_count d.requests) rs' = over_marked f marks released rs q i w.names.ended.items w.names.unreleased (pending_count d.requests) sound.over in
      let due : IsDue None w.home.closing i w.moments s.config w.names d zs rs' ss = due_marked f rs q marks None i w.moments s.config w.names w.names d zs ss sound.due in
      let flown : HasFlown None i w.names d rs' = flown_marked f marks None i w.names w.names d rs q sound.flown refl refl refl (omega arith) refl (λ y at h. released y ∙ sound.flown.owning q y at h) in
      let carried : IsCarried w.names.requests.items d.requests d.ring rs' s.store =
      carried_marked w.names.requests.items d.requests d.ring rs s.store sound.carried q f (λ y at. ap (λ v. v.shown.operation) (marks y)) (λ y at. ap (λ v. v.shown.phase) (marks y)) (λ y at. released y) in
      let on : AreOn rs rs' = marked_on f marks released rs q in
      let stay : SleepOn ss ss = λ k z at. (z, at, refl) in
      let mine : (m : Mail) → Contains w.batch.values m → IsMyMail s.config.workers i m rs' ss = λ m has. mail_on rs rs' ss ss on stay s.config.workers i m (sound.mine m has) in
      let letters : HasLetters false false i s.config.workers w.letters rs' ss = letters_on rs rs' ss ss on stay i s.config.workers w.letters sound.letters in
      grind arith

  -- a sleeper was
  pub remade_sleeper : (x : InCallbacks) (n : AfterCallbacks) (w : Worker) (s s1 : Shared B) (left : Deferred Reply Reply) (k : ℕ) (z z' : SleeperRecord) → slice_get s.sleepers.items k ≡ Some z → SleepsAlike z z'
      → SoundAt (Place.Callbacks x n) w s → s1.requests.items ≡ s.requests.items → s1.sleepers.items ≡ slice_set s.sleepers.items k z'
      → IsTold w.names.ended.items left (tellers (driver_of w).requests w.home.timers + spare_before (Some n)) → HasWidth left (tellers (driver_of w).requests w.home.timers + 64)
      → IsRooted w.index w.names (driver_of w) w.home.timers left s.requests.items (slice_set s.sleepers.items k z') → Remade n w s s1 left
  remade_sleeper x n w s s1 left k z z' there alike sound requests sleepers told wide rooted =
      let rs = s.requests.items in
      let ss = s.sleepers.items in
      let ss' = slice_set ss k z' in
      let i = w.index in
      let d = driver_of w in
      let zs = w.home.timers in
      let was : IsNamed i w.names d zs rs ss = record { requests = sound.named.requests; timers = sound.named.timers; alike = sound.named.alike; over = sound.named.over; submitted = sound.named.submitted; slots = sound.named.slots; beds = sound.named.beds } in
      let named : IsNamed i w.names d zs rs ss' = named_slept ss k z z' there alike i w.names d zs rs was in
      let due : IsDue None w.home.closing i w.moments s.config w.names d zs rs ss' = due_slept ss k z z' there alike None i w.moments s.config w.names d zs rs sound.due in
      let on : AreOn rs rs = λ m r at. (r, at, refl) in
      let stay : SleepOn ss ss' = slept_on ss k z z' there alike in
      let mine : (m : Mail) → Contains w.batch.values m → IsMyMail s.config.workers i m rs ss' = λ m has. mail_on rs rs ss ss' on stay s.config.workers i m (sound.mine m has) in
      let letters : HasLetters false false i s.config.workers w.letters rs ss' = letters_on rs rs ss ss' on stay i s.config.workers w.letters sound.letters in
      grind arith
