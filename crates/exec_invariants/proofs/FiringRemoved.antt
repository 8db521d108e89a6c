-- A task lets go of a sleeper of the worker: what holds again, and what stands on the desk then.
use Rattle.exec_invariants.{proofs.{Names.{◌≡◌, ◌≢◌, ℕ, ◌+◌, ◌^◌, ◌≤◌, ◌<◌, ◌==◌, ◌&&◌, ◌||◌, not, Bool, true, false, Contains, List, [], ◌∷◌, ◌++◌, count_by, length, map, nat_lt, Some, None, IsSome, Err, refl, sym, ap, subst, ◌∙◌, arith, slice_get, slice_index_or, slice_set, if◌then◌else◌, false≢true, eq-eqb, append-nil, length-append, length-set, map-append, Slab, freed, is_live, live_count, removed, value_at, Closed, Id, Retired, Vacant, TaskNo, Changed-set, IsLiveAt-from_value, Updates-free, count-set, live_within, was_live, Adds, completions_of, ForwardedResult, Watching, Sleeping, sleep, Deferred, is_applied, is_asleep, is_in_slots, slot_of, vacated, one_completion, told_of_cancel, without_timer, Heard, Reply, Shared, SleeperRecord, Worker, sleeper_removed, IsTold, RemovesSleeper, number_in, completions_in, desk_of, driver_of, number_heard, slots_from, slots_seen, not_same, and_right, is_some}, FiringSlots.{IsOverAs, Leaves, asleep_over, named_over, rooted_over, OneBed, bed_in, bed_vacated}, FiringNames.{removed_past, stands}, FiringSeen.{bed_named, one_bed}, ServedEnds.{count_none, count_one, none_in, only_one}, ServingHolds.{KeepsSpare, KeepsWith}, TaskOverGone.RemovesSeen}, specs.{Due.{AreAsleep, IsDue}, Places.one_if, Rooted.{IsRooted, Watches, completions_of as sent_of, ends_elsewhere, is_of_timer}, Names.{HasWidth, tellers}, HoldPlaces.{is_bare_at, has_wakes_at}, Sound.served_in}}
pub use Rattle.exec_invariants.proofs.FiringSlots.{slot_none}

-- ITS RECORD

removed_as : (i : ℕ) (z : SleeperRecord) → IsOverAs i z (sleeper_removed z)
removed_as = grind arith

ends_then : (z : SleeperRecord) → ends_elsewhere (sleeper_removed z) ≡ is_applied z.shown.forwarding
ends_then = grind arith

-- THE ROOM

pub told_adds : (ended : List ℕ) (left left' : Deferred Reply Reply) (n n' : ℕ) (ws : List TaskNo) (cs : List (ForwardedResult Reply)) → left' ≡ record left { notes = left'.notes } → Adds left.notes left'.notes ws cs → length ws + n' ≤ n → length cs + n' ≤ n → IsTold ended left n → IsTold ended left' n'
told_adds = grind (arith, length-append)

pub wide_adds : (left left' : Deferred Reply Reply) (n n' : ℕ) (ws : List TaskNo) (cs : List (ForwardedResult Reply)) → left' ≡ record left { notes = left'.notes } → Adds left.notes left'.notes ws cs → n' ≤ n → HasWidth left n → HasWidth left' n'
wide_adds = grind arith

one_end_at_most : (o : Watching Reply) → length (completions_of (Err Closed) o) ≤ 1
one_end_at_most (sleep.Local t) = omega arith
one_end_at_most (sleep.Forwarded reply) = omega arith

-- one leaves the slab
one_less : (zs : Slab (Sleeping Reply)) (id : Id) (it : Sleeping Reply) → value_at zs id ≡ Some it → live_count (removed zs id) + 1 ≡ live_count zs
one_less zs id it at =
    let dead : (g : ℕ) → is_live {T = Sleeping Reply} (freed g) ≡ false = λ g. elim (nat_lt (g + 1) (2 ^ 64)) as (λ b. is_live {T = Sleeping Reply} (if b then Vacant (g + 1) else Retired) ≡ false) [ true ↦ refl | false ↦ refl ] in
    let live = IsLiveAt-from_value zs.slots id.index id.generation zs.first (rw at refl) in
    omega (arith, rw (live.is, dead id.generation) at (count-set zs.slots id.index (freed id.generation) (live_within zs.slots id.index id.generation live.value live.is)))

gone_from : (zs : Slab (Sleeping Reply)) (id : Id) → IsSome (value_at zs id) → (value_at (removed zs id) id ≡ None) × ((other : Id) → other ≢ id → value_at (removed zs id) other ≡ value_at zs other)
gone_from zs id some =
    let was = was_live zs id some in
    let live = IsLiveAt-from_value zs.slots id.index id.generation zs.first some in
    let map = Updates-free zs (removed zs id) id was.0 (Changed-set zs (removed zs id) id.index (freed id.generation) refl refl (live_within zs.slots id.index id.generation live.value live.is)) was.1 in
    (map.changed, map.others)

module _ {B : Type 0} (spare z : ℕ) (w v : Worker) (s s' : Shared B) (keeps : KeepsSpare spare w s) (r : RemovesSleeper z w v s s') (mine : r.it.shown.worker ≡ w.index) where
  abbrev zs : Slab (Sleeping Reply)
  zs = w.home.timers

  abbrev zs_then : Slab (Sleeping Reply)
  zs_then = v.home.timers

  abbrev it : SleeperRecord
  it = r.it

  abbrev ss : List SleeperRecord
  ss = s.sleepers.items

  asleep : AreAsleep w.home.closing w.index w.names w.home.timers s.sleepers.items
  asleep = keeps.due.asleep

  deferred : v.home.deferred ≡ record w.home.deferred { notes = v.home.deferred.notes }
  deferred = ap (λ (x : Worker). x.home.deferred) r.worker

  short : length s.sleepers.items < 2 ^ 64
  short = omega (arith, s.sleepers.small, s.sleepers.ok.0)

  -- another's record has another number
  apart : (other : Id) → IsSome (value_at w.home.timers other) → z ≡ number_in w.names.timers.items other → r.it.id.0 ≡ other
  apart = grind arith

  before : sent_of z w.home.deferred + one_if r.it.sent ≡ one_if (ends_elsewhere r.it)
  before = keeps.rooted.sleeper_sent z r.it r.sleeper mine

  -- what holds again, by what it has left of slots, and of ends that are to be sent
  keeps_by : (cs : List (ForwardedResult Reply)) → Adds w.home.deferred.notes v.home.deferred.notes [] cs → Leaves w.names z w.home.timers v.home.timers → live_count v.home.timers + length cs ≤ live_count w.home.timers
      → ((c : ForwardedResult Reply) → Contains cs c → (c.sender ≡ record { task = record { 0 = r.it.shown.task }; of = Heard.Timer z }) × (r.it.shown.wakes_paid ≤ 1)) → ((j : ℕ) → (z ≡ j → ⊥) → count_by (λ (c : ForwardedResult Reply). is_of_timer j c.sender.of) cs ≡ 0)
      → (sent_of z w.home.deferred + count_by (λ (c : ForwardedResult Reply). is_of_timer z c.sender.of) cs) + one_if r.it.sent ≡ one_if (is_applied r.it.shown.forwarding) → KeepsSpare spare v s'
  keeps_by cs adds leaves fewer few none here =
      let i = w.index in
      let n = w.names in
      let d = driver_of w in
      let rs = s.requests.items in
      let z' = sleeper_removed r.it in
      let ss' = slice_set ss z z' in
      let left = w.home.deferred in
      let left' = v.home.deferred in
      let over = removed_as i r.it in
      let w1 : Worker = record w { home = record w.home { timers = v.home.timers; deferred = record w.home.deferred { notes = v.home.deferred.notes } } } in
      let due = keeps.due in
      let told_so : IsTold w1.names.ended.items w1.home.deferred (tellers d.requests zs_then + spare) = subst (λ x. IsTold n.ended.items x (tellers d.requests zs_then + spare)) deferred
      (told_adds n.ended.items left left' (tellers d.requests zs + spare) (tellers d.requests zs_then + spare) [] cs deferred adds (omega (arith, fewer)) (omega (arith, fewer)) keeps.told) in
      let wide = subst (λ x. HasWidth x (tellers d.requests zs_then + 64)) deferred (wide_adds left left' (tellers d.requests zs + 64) (tellers d.requests zs_then + 64) [] cs deferred adds (omega (arith, fewer)) keeps.wide) in
      let quiet : has_wakes_at w1.place ≡ false → w1.home.deferred.notes.wakes.items ≡ [] = λ h. (adds.wakes_added ∙ append-nil w.home.deferred.notes.wakes.items) ∙ keeps.quiet h in
      let due_so : IsDue (served_in w1.place) w1.home.closing w1.index w1.moments s.config w1.names d zs_then rs ss' =
      record { punctual = due.punctual; told = due.told; wheel = due.wheel; timed = due.timed; asleep = asleep_over i n d zs zs_then rs ss z r.it z' r.sleeper over leaves asleep; order = due.order } in
      let rooted : IsRooted w1.index w1.names d zs_then w1.home.deferred rs ss' = subst (λ x. IsRooted i n d zs_then x rs ss') deferred
      (rooted_over i n d zs zs_then rs ss z r.it z' r.sleeper over leaves left left' cs keeps.rooted deferred adds.completions_added mine few none (here ∙ ap one_if (sym (ends_then r.it)))) in
      let bare : is_bare_at w1.place ≡ true → live_count zs_then ≡ 0 = λ h. (let nobody = keeps.bare h in omega (arith, nobody, fewer)) in
      let by : KeepsWith spare w1 d zs_then rs ss' s = assumption (told_so, wide, named_over i n d zs zs_then rs ss z r.it z' r.sleeper over leaves keeps.named, quiet, due_so, rooted, bare, keeps) in
      let by_worker : KeepsWith spare v (driver_of v) v.home.timers rs s'.sleepers.items s =
      subst (λ x. KeepsWith spare x (driver_of x) x.home.timers rs s'.sleepers.items s) (sym r.worker)
      (subst (λ xs. KeepsWith spare w1 d zs_then rs xs s) (sym r.sleepers) by) in
      subst (λ y. KeepsWith spare v (driver_of v) v.home.timers y.requests.items y.sleepers.items y) (sym r.kept) (assumption by_worker)

  -- WHERE IT HAS A BED

  module _ (bed : Sleeping Reply) (was : value_at w.home.timers r.it.id.0 ≡ Some bed) where
    abbrev id : Id
    id = r.it.id.0

    some : IsSome (value_at w.home.timers r.it.id.0)
    some = rw was refl

    gone : (v.home.timers ≡ removed w.home.timers r.it.id.0) × Adds w.home.deferred.notes v.home.deferred.notes [] (completions_of (Err Closed) bed.observer)
    gone = r.bed bed was

    number : number_in w.names.timers.items r.it.id.0 ≡ z
    number = stands w.index w.names (driver_of w) w.home.timers s.requests.items s.sleepers.items keeps.named keeps.due.asleep.names z r.it r.sleeper mine some

    there : slice_get s.sleepers.items (number_in w.names.timers.items r.it.id.0) ≡ Some r.it
    there = ap (slice_get s.sleepers.items) number ∙ r.sleeper

    its_bed : OneBed w.names.timers.items w.home.timers r.it.id.0
    its_bed = one_bed w.index w.names (driver_of w) w.home.timers s.requests.items s.sleepers.items keeps.named w.home.closing keeps.due.asleep short r.it.id.0 bed was

    watching : Watches z bed.observer r.it
    watching = subst (λ m. Watches m bed.observer r.it) number (keeps.rooted.watches r.it.id.0 bed r.it was there)

    sleeps : is_asleep w.index r.it.shown ≡ true
    sleeps = (keeps.due.asleep.alike r.it.id.0 bed r.it was there).asleep

    awake_not : (r.it.shown.fired ≡ false) × (r.it.shown.removed ≡ false)
    awake_not = by (r.it.shown.worker == w.index) r.it.shown.fired r.it.shown.removed sleeps
      where
        by : (a f r : Bool) → ((a && not f) && not r) ≡ true → (f ≡ false) × (r ≡ false)
        by = grind arith

    unclosed : r.it.closed ≡ false
    unclosed = (keeps.due.asleep.alike r.it.id.0 bed r.it was there).unclosed

    unpaid : r.it.shown.wakes_paid ≡ 0
    unpaid = (keeps.rooted.sleeper_pays z r.it r.sleeper mine).unpaid awake_not.0 (ap (λ b. b || r.it.closed) awake_not.1 ∙ unclosed)

    nothing_sent : sent_of z w.home.deferred + one_if r.it.sent ≡ 0
    nothing_sent =
        before ∙ ap one_if (ap (λ b. is_applied r.it.shown.forwarding && (b || (r.it.shown.removed || r.it.closed))) awake_not.0 ∙ ap (λ b. is_applied r.it.shown.forwarding && (b || r.it.closed)) awake_not.1 ∙ ap (λ b. is_applied r.it.shown.forwarding && b) unclosed ∙ and_right (is_applied r.it.shown.forwarding) false refl)

    leaves : Leaves w.names z w.home.timers v.home.timers
    leaves =
        let map = gone_from zs id some in
        let small : r.it.id.0.generation < 2 ^ 64 = omega (arith, its_bed.low) in
        subst (λ x. Leaves w.names z zs x) (sym gone.0) (record {
          others = λ other live.
              let differs : other ≢ id = λ e. false≢true (sym (ap is_some (ap (value_at (removed zs id)) e ∙ map.0)) ∙ live) in
              let same = map.1 other differs in
              (same, λ e. differs (sym (apart other (subst IsSome same live) e)));
          stays = λ other live unlike. map.1 other (λ e. unlike (sym number ∙ ap (number_in w.names.timers.items) (sym e)));
          many = length-set zs.slots id.index (freed id.generation);
          back = λ other. (removed_past zs id some small other).0;
          on = λ other. (removed_past zs id some small other).1;
        })

    sends : (o : Watching Reply) → bed.observer ≡ o → (c : ForwardedResult Reply) → Contains (completions_of (Err Closed) o) c → (c.sender ≡ record { task = record { 0 = r.it.shown.task }; of = Heard.Timer z }) × (r.it.shown.wakes_paid ≤ 1)
    sends (sleep.Local t) is c among = absurd (none_in c among)
    sends (sleep.Forwarded reply) is c among =
        let made : ForwardedResult Reply = record { sender = reply; result = Err Closed } in
        (ap (λ (x : ForwardedResult Reply). x.sender) (sym (only_one made c among)) ∙ (subst (λ o. Watches z o r.it) is watching).0, omega (arith, unpaid))

    sends_none : (o : Watching Reply) → bed.observer ≡ o → (j : ℕ) → (z ≡ j → ⊥) → count_by (λ (c : ForwardedResult Reply). is_of_timer j c.sender.of) (completions_of (Err Closed) o) ≡ 0
    sends_none (sleep.Local t) is j differs = count_none (λ (c : ForwardedResult Reply). is_of_timer j c.sender.of)
    sends_none (sleep.Forwarded reply) is j differs =
        let watch : Watches z (sleep.Forwarded reply) r.it = subst (λ o. Watches z o r.it) is watching in
        count_one (λ (c : ForwardedResult Reply). is_of_timer j c.sender.of) (record { sender = reply; result = Err Closed }) false (ap (λ (x : Reply). is_of_timer j x.of) watch.0 ∙ not_same z j differs)

    sends_here : (o : Watching Reply) → bed.observer ≡ o → count_by (λ (c : ForwardedResult Reply). is_of_timer z c.sender.of) (completions_of (Err Closed) o) ≡ one_if (is_applied r.it.shown.forwarding)
    sends_here (sleep.Local t) is =
        count_none (λ (c : ForwardedResult Reply). is_of_timer z c.sender.of) ∙ sym (ap one_if (subst (λ o. Watches z o r.it) is watching).1)
    sends_here (sleep.Forwarded reply) is =
        let watch : Watches z (sleep.Forwarded reply) r.it = subst (λ o. Watches z o r.it) is watching in
        count_one (λ (c : ForwardedResult Reply). is_of_timer z c.sender.of) (record { sender = reply; result = Err Closed }) true (ap (λ (x : Reply). is_of_timer z x.of) watch.0 ∙ eq-eqb z z refl) ∙ sym (ap one_if watch.1)

    keeps_bed : KeepsSpare spare v s'
    keeps_bed =
        let less : live_count v.home.timers + 1 ≡ live_count w.home.timers = ap (λ (x : Slab (Sleeping Reply)). live_count x + 1) gone.0 ∙ one_less zs id bed was in
        let one_of = sends_here bed.observer refl in
        keeps_by (completions_of (Err Closed) bed.observer) gone.1 leaves (omega (arith, less, one_end_at_most bed.observer)) (sends bed.observer refl) (sends_none bed.observer refl) (omega (arith, one_of, nothing_sent))

    slots : slots_seen w.names.timers.items v.home.timers ≡ vacated z (slots_seen w.names.timers.items w.home.timers)
    slots =
        ap (slots_seen w.names.timers.items) gone.0 ∙ bed_vacated w.names.timers.items zs id its_bed ∙ ap (λ m. vacated m (slots_seen w.names.timers.items w.home.timers)) number

    desk_bed : desk_of v ≡ told_of_cancel z r.it.shown (desk_of w)
    desk_bed =
        let d0 = desk_of w in
        let among : is_in_slots z d0.timers ≡ true = ap (λ m. is_in_slots m d0.timers) (sym number) ∙ bed_in w.names.timers.items zs id its_bed in
        ap desk_of r.worker
        ∙ ap (λ ts. record d0 { wakes = map (λ t. t.0) v.home.deferred.notes.wakes.items; completions = completions_in v.home.deferred.notes.completions.items; timers = ts }) slots
        ∙ ap (λ ws. record (without_timer z d0) { wakes = map (λ (t : TaskNo). t.0) ws; completions = completions_in v.home.deferred.notes.completions.items }) (gone.1.wakes_added ∙ append-nil w.home.deferred.notes.wakes.items)
        ∙ by bed.observer refl gone.1.completions_added
        ∙ sym (ap (λ b. if not b then d0 else if is_applied r.it.shown.forwarding then one_completion z (without_timer z d0) else without_timer z d0) among)
      where
        by : (o : Watching Reply) → bed.observer ≡ o → v.home.deferred.notes.completions.items ≡ w.home.deferred.notes.completions.items ++ completions_of (Err Closed) bed.observer
            → record (without_timer z (desk_of w)) { completions = completions_in v.home.deferred.notes.completions.items } ≡ (if is_applied r.it.shown.forwarding then one_completion z (without_timer z (desk_of w)) else without_timer z (desk_of w))
        by (sleep.Local t) is added =
            ap (λ cs. record (without_timer z (desk_of w)) { completions = completions_in cs }) (added ∙ ap (λ o. w.home.deferred.notes.completions.items ++ completions_of (Err Closed) o) is ∙ append-nil w.home.deferred.notes.completions.items)
            ∙ sym (ap (λ b. if b then one_completion z (without_timer z (desk_of w)) else without_timer z (desk_of w)) (subst (λ o. Watches z o r.it) is watching).1)
        by (sleep.Forwarded reply) is added =
            let watch : Watches z (sleep.Forwarded reply) r.it = subst (λ o. Watches z o r.it) is watching in
            ap (λ cs. record (without_timer z (desk_of w)) { completions = cs })
            (ap completions_in (added ∙ ap (λ o. w.home.deferred.notes.completions.items ++ completions_of (Err Closed) o) is)
            ∙ map-append (λ (c : ForwardedResult Reply). number_heard c.sender.of) w.home.deferred.notes.completions.items (record { sender = reply; result = Err Closed } ∷ [])
            ∙ ap (λ (x : Reply). completions_in w.home.deferred.notes.completions.items ++ number_heard x.of ∷ []) watch.0)
            ∙ sym (ap (λ b. if b then one_completion z (without_timer z (desk_of w)) else without_timer z (desk_of w)) watch.1)

  -- WHERE IT HAS NONE

  module _ (none : value_at w.home.timers r.it.id.0 ≡ None) where
    still : (v.home.timers ≡ w.home.timers) × Adds w.home.deferred.notes v.home.deferred.notes [] []
    still = r.gone none

    nobody : IsSome (value_at w.home.timers r.it.id.0) → ⊥
    nobody live = false≢true (sym (ap is_some none) ∙ live)

    -- it was over
    ends_before : ends_elsewhere r.it ≡ is_applied r.it.shown.forwarding
    ends_before = by r.it.shown.fired r.it.shown.removed r.it.closed refl refl refl
      where
        by : (f r' c : Bool) → r.it.shown.fired ≡ f → r.it.shown.removed ≡ r' → r.it.closed ≡ c → ends_elsewhere r.it ≡ is_applied r.it.shown.forwarding
        by false false false fired removed closed =
            let here : is_asleep w.index r.it.shown ≡ true =
            ap (λ b. (b && not r.it.shown.fired) && not r.it.shown.removed) (eq-eqb r.it.shown.worker w.index mine) ∙ ap (λ b. (true && not b) && not r.it.shown.removed) fired ∙ ap (λ b. (true && not false) && not b) removed in
            absurd (nobody (keeps.due.asleep.there z r.it r.sleeper here closed))
        by _ _ _ fired removed closed = grind (arith, fired, removed, closed)

    leaves_none : Leaves w.names z w.home.timers v.home.timers
    leaves_none =
        subst (λ x. Leaves w.names z zs x) (sym still.0) (record {
          others = λ other live. (refl, λ e. nobody (subst (λ i. IsSome (value_at zs i)) (sym (apart other live e)) live));
          stays = λ other live unlike. refl;
          many = refl;
          back = λ other past. past;
          on = λ other past. past;
        })

    keeps_none : KeepsSpare spare v s'
    keeps_none =
        let zero_of = count_none (λ (c : ForwardedResult Reply). is_of_timer z c.sender.of) in
        let was = before ∙ ap one_if ends_before in
        keeps_by [] still.1 leaves_none (omega (arith, ap live_count still.0)) (λ c among. absurd (none_in c among)) (λ j differs. count_none (λ (c : ForwardedResult Reply). is_of_timer j c.sender.of)) (omega (arith, zero_of, was))

    desk_none : desk_of v ≡ told_of_cancel z r.it.shown (desk_of w)
    desk_none =
        let d0 = desk_of w in
        let numbers = w.names.timers.items in
        let slot : slot_of z 0 (slots_from 0 numbers w.home.timers.slots) ≡ None =
        slot_none z 0 numbers w.home.timers.slots
        (λ j x at alive same.
        let a = bed_named w.index w.names (driver_of w) zs s.requests.items ss keeps.named j x at alive in
        let number : number_in numbers a.0 ≡ z = ap (λ m. slice_index_or numbers m 0) (let e : a.0.index ≡ 0 + j = (let is = a.3 in omega (arith, is)) in e) ∙ same in
        nobody (subst (λ i. IsSome (value_at zs i)) (sym (apart a.0 (rw a.2 refl) (sym number))) (rw a.2 refl))) in
        let among : is_in_slots z d0.timers ≡ false = rw slot refl in
        ap desk_of r.worker
        ∙ ap (λ ts. record d0 { wakes = map (λ t. t.0) v.home.deferred.notes.wakes.items; completions = completions_in v.home.deferred.notes.completions.items; timers = ts }) (ap (slots_seen numbers) still.0)
        ∙ ap (λ ws. record d0 { wakes = map (λ (t : TaskNo). t.0) ws; completions = completions_in v.home.deferred.notes.completions.items }) (still.1.wakes_added ∙ append-nil w.home.deferred.notes.wakes.items)
        ∙ ap (λ cs. record d0 { completions = completions_in cs }) (still.1.completions_added ∙ append-nil w.home.deferred.notes.completions.items)
        ∙ sym (ap (λ b. if not b then d0 else if is_applied r.it.shown.forwarding then one_completion z (without_timer z d0) else without_timer z d0) among)

  -- BOTH

  pub removed_kept : KeepsSpare spare v s'
  removed_kept = elim (value_at w.home.timers r.it.id.0) as (λ o. value_at w.home.timers r.it.id.0 ≡ o → KeepsSpare spare v s') [ None ↦ keeps_none | Some bed ↦ keeps_bed bed ] refl

  pub removed_desk : desk_of v ≡ told_of_cancel z r.it.shown (desk_of w)
  removed_desk = elim (value_at w.home.timers r.it.id.0) as (λ o. value_at w.home.timers r.it.id.0 ≡ o → desk_of v ≡ told_of_cancel z r.it.shown (desk_of w)) [ None ↦ desk_none | Some bed ↦ desk_bed bed ] refl

pub removes_seen : (B : Type 0) → RemovesSeen B
removes_seen B = λ z w v s s' idle keeps r mine. record { keeps = removed_kept 64 z w v s s' keeps r mine; desk = removed_desk 64 z w v s s' keeps r mine }
