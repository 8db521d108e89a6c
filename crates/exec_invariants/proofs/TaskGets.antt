-- A POLLED TASK TAKES THE OUTPUT of a request of its worker's: by a look at what it waits for, or by an act.
use Rattle.exec_invariants.{specs.{Holding.{awaited_in, holder_of}, HoldPlaces.has_wakes_at, Sound.{SoundAt, served_in}, Names.tellers, Whole.{Profile, hands_of, with_worker}, Works.{Beside, Suits, Works}}, proofs.{Words.{◌≡◌, ◌⊎◌, inl, inr, ⊎_elim, ℕ, ◌+◌, ◌-◌, ◌≤◌, ◌==◌, ◌||◌, true, false, length, map, take, Option, Some, None, IsSome, option_map, refl, sym, ap, subst, ◌∙◌, arith, slice_get, slice_set, false≢true, eq-eqb, map-set, slice_get-map, removed, value_at, Outcome, RequestOutput, completions, taken, taken_from, waiter_at, waiter_of, Entry, Pending, Ready, Driving, IsPunctual, Said, common_after, own_after, Got, Forwarding, Resolved, Waiting, Plain, Plan, is_number, after_taking, is_here, polls_waiting, without_newest, is_applied, is_resolved, is_resolved_with, is_unsent, waits_for_request, acts, asks_await, newest_held, polled_task, Common, Task, request_of, task_of, InPoll, Place, move_at, acts_on, vacated, Desk, without_request, Reply, Record, Shared, TaskSlot, Worker, newest_of, is_complete, unobserved, number_in, IsAnswered, changed_at, changed_in, Spot, Views, common_of, desk_of, driver_of, numbers_of_passing, own_of, slots_seen, awaited_from, awaits_entry, task_seen, things_with, trailing, visible, with_view}, Here.{IsHere, going_on}, HoldBeside.Holds, Keys.{name_in, names_changed, same_gates, same_opens}, LetRooted.keeps_watched, LetSlots.{slot_here, slot_here_is}, LetSlab.{one_held_less, other_entry, watched_gone, same_flying, same_pending, same_waiters}, Lined.{passing_same, opens_same}, Resolving.places_fewer, Seen.request_at, ServingHolds.KeepsBy, Serving.spares_one, Slots.task_there, Slotted.{awaited_removed, slots_vacated}, TaskDeals.{ComesFrom, Dealt, acts as to_act}, TaskHears.{resolved_self, holds_taken}, TaskHomes.{Homes, IsFree, beside_goes, sound_goes}, TaskTakes.no_wakes, Turning.{set_found, view_found}, Watching.Watched, AsksEnds.is_unsent_so}}

-- its output is there
pub record IsThere (k : ℕ) (r : Record) (w : Worker) : Type 0 where
  pub told : RequestOutput
  pub value : value_at (driver_of w).requests r.id.0 ≡ Some (Ready told)
  pub number : number_in w.names.requests.items r.id.0 ≡ k

pub unsent_unapplied : (f : Forwarding) → is_unsent f ≡ true → is_applied f ≡ false
unsent_unapplied = grind arith

abbrev desk_with : Worker → ℕ → Driving Reply Reply → Desk
desk_with w t y =
    record (desk_of w) {
      place = Place.Poll t InPoll.Act;
      requests = slots_seen w.names.requests.items y.requests;
      awaited = awaited_from 0 w.names.requests.items y.requests.slots;
      entries = length y.ring.staged;
      polled = y.armed;
      others = trailing 0 (completions y.ring);
    }

pub got_own : (t k : ℕ) (w w' : Worker) (r : Record) → (there : IsThere k r w) → w' ≡ record w { place = Place.Poll t InPoll.Act; home = record w.home { driver = w'.home.driver } } → driver_of w' ≡ record (driver_of w) { requests = taken (driver_of w).requests r.id.0 }
    → own_of w' ≡ own_of (record w { place = Place.Poll t InPoll.Act })
got_own = grind (arith, same_flying)

pub ring_seen : (w w' : Worker) (p : Place) → w' ≡ record w { place = p; home = record w.home { driver = w'.home.driver } } → (driver_of w').ring ≡ (driver_of w).ring → visible w' ≡ visible w
ring_seen = grind arith

module _ {B : Type 0} where
  -- the task then: its body may have acted, and is told the output
  pub record GetsSo (slot slot' : TaskSlot B) (output : RequestOutput) : Type 0 where
    pub took : slot' ≡ record slot { body = slot'.body; held = slot'.held; waiting = Waiting.Nothing; told = Some (Said.Output output) }
    pub body : IsSome slot'.body
    pub held : slot'.held.items ≡ take (length slot.held.items - 1) slot.held.items

  pub record TakesOwn (x : InPoll) (t k : ℕ) (w w' : Worker) (s s' : Shared B) (slot slot' : TaskSlot B) (r : Record) (output : RequestOutput) (outcome : Outcome) : Type 0 where
    pub there : slice_get s.tasks.items t ≡ Some slot
    pub newest : newest_of slot ≡ Some k
    pub waits : (awaited_in slot.waiting ≡ None) ⊎ (slot.waiting ≡ Waiting.Request k)
    pub request : slice_get s.requests.items k ≡ Some r
    pub unsent : is_unsent r.shown.forwarding ≡ true
    pub mine : r.shown.worker ≡ w.index
    pub over : r.shown.phase ≡ Resolved outcome
    pub gets : GetsSo slot slot' output
    pub worker : w' ≡ record w { place = Place.Poll t InPoll.Act; home = record w.home { driver = w'.home.driver } }
    pub driver : driver_of w' ≡ record (driver_of w) { requests = taken (driver_of w).requests r.id.0 }
    pub punctual : IsPunctual (driver_of w) → IsPunctual (driver_of w')
    pub requests : s'.requests.items ≡ slice_set s.requests.items k (unobserved r)
    pub tasks : s'.tasks.items ≡ slice_set s.tasks.items t slot'
    pub kept : s' ≡ record s { tasks = s'.tasks; requests = s'.requests }

  pub there_is : (q : Place) (k : ℕ) (w : Worker) (s : Shared B) (r : Record) → SoundAt q w s → slice_get s.requests.items k ≡ Some r → r.shown.worker ≡ w.index → r.shown.observed ≡ true → is_unsent r.shown.forwarding ≡ true → is_resolved r.shown.phase ≡ true → IsThere k r w
  there_is q k w s r sound at_k mine observed unsent over =
      let stands = sound.rooted.ready k r at_k mine over observed (unsent_unapplied r.shown.forwarding unsent) in
      by (value_at (driver_of w).requests r.id.0) refl stands.live stands.named
    where
      by : (o : Option (Entry Reply Reply)) → value_at (driver_of w).requests r.id.0 ≡ o → IsSome (value_at (driver_of w).requests r.id.0) → number_in w.names.requests.items r.id.0 ≡ k → IsThere k r w
      by None is live named = absurd (false≢true (subst (λ o. IsSome o) is live))
      by (Some (Ready told)) is live named = record { told = told; value = is; number = named }
      by (Some (Pending it)) is live named =
          absurd (false≢true (sym (sound.named.alike r.id.0 it r (ap waiter_of is) (ap (slice_get s.requests.items) named ∙ at_k)).open_still ∙ over))

  -- WHAT HOLDS THEN of the worker's own
  pub gets_homes : (x : InPoll) (t k : ℕ) (w w' : Worker) (s s' : Shared B) (slot slot' : TaskSlot B) (r : Record) (output : RequestOutput) (outcome : Outcome) → SoundAt (Place.Poll t x) w s → TakesOwn x t k w w' s s' slot slot' r output outcome → r.shown.observed ≡ true → (there : IsThere k r w)
      → Homes w (record w { home = record w.home { driver = w'.home.driver } }) s (record s { requests = s'.requests })
  gets_homes x t k w w' s s' slot slot' r output outcome sound by observed there =
      let d = driver_of w in
      let s0 = d.requests in
      let id = r.id.0 in
      let told = there.told in
      let ready = there.value in
      let zs = w.home.timers in
      let rs = s.requests.items in
      let ss = s.sleepers.items in
      let kk = number_in w.names.requests.items id in
      let v : Worker = record w { home = record w.home { driver = w'.home.driver } } in
      let s1 : Shared B = record s { requests = s'.requests } in
      let some : IsSome (value_at s0 id) = rw ready refl in
      let at_number : slice_get rs kk ≡ Some r = ap (slice_get rs) there.number ∙ by.request in
      let over : is_resolved r.shown.phase ≡ true = ap is_resolved by.over in
      let unapplied = unsent_unapplied r.shown.forwarding by.unsent in
      let d' : Driving Reply Reply = record d { requests = removed s0 id } in
      let drv : driver_of w' ≡ d' = by.driver ∙ ap (λ (o : Option (Entry Reply Reply)). record d { requests = taken_from s0 id o }) ready in
      let small = (sound.known.past k r by.request by.mine).0 in
      let none_waits : waiter_at (removed s0 id) id ≡ None = same_waiters s0 id told ready id ∙ ap waiter_of ready in
      let none : (out : RequestOutput) → value_at (removed s0 id) id ≡ Some (Ready out) → ⊥ = λ out e. (other_entry s0 id told ready id (rw e refl)).0 refl in
      let rs1 = changed_at rs kk unobserved in
      let keeps : KeepsBy w d zs rs ss s = grind arith in
      let watched : Watched w.names d d' rs rs1 id r unobserved = watched_gone w.names d rs r told unobserved ready at_number small refl (λ over. refl) in
      let pending = same_pending s0 id told ready in
      let less : tellers d'.requests zs + 64 ≤ tellers d.requests zs + 64 = omega (arith, pending, one_held_less s0 id told ready) in
      let again : KeepsBy w d' zs rs1 ss s =
      keeps_watched w s d d' zs rs rs1 ss id r unobserved w.home.deferred (ap served_in sound.here) watched keeps (grind arith)
      (places_fewer less keeps.told)
      (record { wakes = omega (arith, less, keeps.wide.wakes); completions = omega (arith, less, keeps.wide.completions); outputs = omega (arith, less, keeps.wide.outputs); resources = omega (arith, less, keeps.wide.resources); results = omega (arith, less, keeps.wide.results) })
      refl pending (subst IsPunctual drv (by.punctual sound.due.punctual)) (sound.due.told refl) sound.due.wheel in
      let records : rs1 ≡ s'.requests.items = ap (λ q. changed_at rs q unobserved) there.number ∙ ap (changed_in rs k unobserved) by.request ∙ sym by.requests in
      let by_records : KeepsBy w d' zs s'.requests.items ss s = subst (λ xs. KeepsBy w d' zs xs ss s) records again in
      let by_driver : KeepsBy w (driver_of v) zs s'.requests.items ss s = subst (λ y. KeepsBy w y zs s'.requests.items ss s) (sym drv) by_records in
      let spares =
      spares_one w.index s s1 k r unobserved (opens_same s.opens s.opens rs sound.gates refl) (record { at = refl; over = λ h. h; sent = refl; forwarded = λ h. h }) (by.requests ∙ sym (ap (changed_in rs k unobserved) by.request)) refl by.request by.mine (λ y. refl) in
      assumption (spares, by_driver)

  -- and of what tasks hold
  pub gets_holds : (x : InPoll) (t k : ℕ) (w w' : Worker) (s s' : Shared B) (slot slot' : TaskSlot B) (r : Record) (output : RequestOutput) (outcome : Outcome) → SoundAt (Place.Poll t x) w s → has_wakes_at (Place.Poll t x) ≡ false → TakesOwn x t k w w' s s' slot slot' r output outcome → is_complete slot.cell.phase ≡ false
      → (others : Profile) → Holds (with_worker others w) s → Holds (with_worker others w) s'
  gets_holds x t k w w' s s' slot slot' r output outcome sound quiet by going others =
      holds_taken t k w s s' slot slot' r others by.there by.request by.newest by.gets.held
      (ap holder_of by.gets.took ∙ ap (λ o. record (holder_of slot) { held = slot'.held.items; awaits = None; output = o }) (sym (ap (λ (y : TaskSlot B). y.output) by.gets.took)))
      going (⊎_elim (λ none. inl none) (λ is. inr (ap awaited_in is)) by.waits) (λ sent. absurd (false≢true (sym sent ∙ by.unsent)))
      (λ unsent. subst (λ j. (hands_of (with_worker others w)).wakes j t ≡ 0) (sym by.mine) (no_wakes x t w s others t quiet sound)) by.tasks by.requests by.kept

  pub gets_deals : (x : InPoll) (t k : ℕ) (w w' : Worker) (s s' : Shared B) (slot slot' : TaskSlot B) (r : Record) (output : RequestOutput) (outcome : Outcome) → TakesOwn x t k w w' s s' slot slot' r output outcome → Dealt InPoll.Act w.index slot slot' s'.requests.items s'.sleepers.items
  gets_deals = grind arith

  -- WHAT IT LEAVES
  pub record GotLeaves (t : ℕ) (w w' : Worker) (s s' : Shared B) : Type 0 where
    pub sound : SoundAt (Place.Poll t InPoll.Act) w' s'
    pub beside : Beside w s w' s'

  pub gets_leaves : (x : InPoll) (t k : ℕ) (w w' : Worker) (s s' : Shared B) (slot' : TaskSlot B) (r : Record) (output : RequestOutput) (outcome : Outcome) → IsFree x → ComesFrom t x → (sound : SoundAt (Place.Poll t x) w s) → has_wakes_at (Place.Poll t x) ≡ false → (it : IsHere x t w s)
      → TakesOwn x t k w w' s s' it.slot slot' r output outcome → r.shown.observed ≡ true → IsThere k r w → GotLeaves t w w' s s'
  gets_leaves x t k w w' s s' slot' r output outcome free from sound quiet it by observed there =
      let v : Worker = record w { home = record w.home { driver = w'.home.driver } } in
      let homes = gets_homes x t k w w' s s' it.slot slot' r output outcome sound by observed there in
      let deals = gets_deals x t k w w' s s' it.slot slot' r output outcome by in
      let going : is_complete it.slot.cell.phase ≡ false = going_on it.slot.cell.phase it.polled in
      record {
        sound = subst (λ y. SoundAt (Place.Poll t InPoll.Act) y s') (sym by.worker) (sound_goes x InPoll.Act t w v s s' slot' free from (to_act t) sound it by.kept by.tasks homes deals);
        beside = subst (λ y. Beside w s y s') (sym by.worker) (beside_goes x InPoll.Act t w v s s' slot' from (to_act t) sound it by.kept by.tasks homes deals (gets_holds x t k w w' s s' it.slot slot' r output outcome sound quiet by going));
      }

  -- WHAT IS SEEN: on the desk, of the worker, and by others
  pub got_desk : (q : Place) (t k : ℕ) (w w' : Worker) (s : Shared B) (r : Record) → SoundAt q w s → (there : IsThere k r w) → w' ≡ record w { place = Place.Poll t InPoll.Act; home = record w.home { driver = w'.home.driver } } → driver_of w' ≡ record (driver_of w) { requests = taken (driver_of w).requests r.id.0 }
      → desk_of w' ≡ acts_on t (without_request k (desk_of w))
  got_desk q t k w w' s r sound there worker driver =
      let d = driver_of w in
      let n = w.names.requests.items in
      let id = r.id.0 in
      let drv : driver_of w' ≡ record d { requests = removed d.requests id } = driver ∙ ap (λ (o : Option (Entry Reply Reply)). record d { requests = taken_from d.requests id o }) there.value in
      let one = slot_here q w s sound id (Ready there.told) there.value in
      let kk = number_in n id in
      let unawaited : awaits_entry one.e ≡ false = ap awaits_entry (slot_here_is q w s sound id (Ready there.told) there.value) in
      ap desk_of worker ∙ ap (desk_with w t) drv
      ∙ ap (λ x. record (desk_of w) { place = Place.Poll t InPoll.Act; requests = x; awaited = awaited_from 0 n (removed d.requests id).slots }) (slots_vacated n d.requests id one)
      ∙ ap (λ x. record (desk_of w) { place = Place.Poll t InPoll.Act; requests = vacated kk (slots_seen n d.requests); awaited = x }) (awaited_removed n d.requests id one unawaited)
      ∙ ap (λ m. acts_on t (without_request m (desk_of w))) there.number

-- WHAT THE MACHINE AND THE MOVES MAKE OF IT
module _ {B L : Type 0} (left : B → L) (spot : L → Option Said → Spot) (answered : IsAnswered spot) where
  -- the task past what it waited for, or past its word, without the newest that it held
  abbrev pub past_newest : Common → Task → Task
  past_newest all y = record (after_taking all y) { held = without_newest y.held }

  pub record SeesGot (x : InPoll) (t k : ℕ) (outcome : Outcome) (w : Worker) (s : Shared B) (slot slot' : TaskSlot B) (p : Plan) (vs : Views) : Type 0 where
    pub moves : move_at p.config w.index (own_of (record w { place = Place.Poll t x })) (common_of left spot p vs s) (desk_of (record w { place = Place.Poll t x })) (things_with vs s) (Place.Poll t x)
        ≡ record { event = Got k outcome; choice = Plain; desk = acts_on t (without_request k (desk_of w)); thing = things_with vs s }
    pub takes : (polls_waiting (own_of (record w { place = Place.Poll t x })) (common_of left spot p vs s) (waits_for_request k) || acts (own_of (record w { place = Place.Poll t x })) (common_of left spot p vs s) asks_await) ≡ true
    pub polled : polled_task (own_of (record w { place = Place.Poll t x })) (common_of left spot p vs s) ≡ task_of (common_of left spot p vs s) t
    pub own_after_is : own_after p.config (own_of (record w { place = Place.Poll t x })) (common_of left spot p vs s) w.index (Got k outcome) Plain ≡ own_of (record w { place = Place.Poll t InPoll.Act })
    pub after : common_after p.config (own_of (record w { place = Place.Poll t x })) (common_of left spot p vs s) w.index (Got k outcome) Plain
        ≡ record (common_of left spot p vs s) { tasks = slice_set (common_of left spot p vs s).tasks t (past_newest (common_of left spot p vs s) (task_of (common_of left spot p vs s) t)); requests = slice_set (common_of left spot p vs s).requests k (record (request_of (common_of left spot p vs s) k) { observed = false }) }
    pub seen : task_seen left spot slot' ≡ past_newest (common_of left spot p vs s) (task_seen left spot slot)

  pub got_works : (x : InPoll) (t k : ℕ) (w w' : Worker) (s s' : Shared B) (slot slot' : TaskSlot B) (r : Record) (output : RequestOutput) (outcome : Outcome) → SoundAt (Place.Poll t x) w s → TakesOwn x t k w w' s s' slot slot' r output outcome → IsThere k r w → (p : Plan) (vs : Views) → Suits p vs w s → SeesGot x t k outcome w s slot slot' p vs
      → Works left spot p vs w s (Got k outcome) w' s'
  got_works x t k w w' s s' slot slot' r output outcome sound by there p vs suits sees =
      let w0 : Worker = record w { place = Place.Poll t x } in
      let s1 : Shared B = record s { tasks = s'.tasks; requests = s'.requests } in
      let rs = s.requests.items in
      let rs' = s'.requests.items in
      let all = common_of left spot p vs s in
      let things = things_with vs s in
      let drv : driver_of w' ≡ record (driver_of w) { requests = removed (driver_of w).requests r.id.0 } = by.driver ∙ ap (λ (o : Option (Entry Reply Reply)). record (driver_of w) { requests = taken_from (driver_of w).requests r.id.0 o }) there.value in
      let shows : visible w' ≡ visible w = ring_seen w w' (Place.Poll t InPoll.Act) by.worker (ap (λ (y : Driving Reply Reply). y.ring) drv) in
      let again : with_view vs w.index (visible w') ≡ vs = ap (λ z. with_view vs w.index z) shows ∙ view_found vs w.index (visible w) suits.seen in
      let it : task_of all t ≡ task_seen left spot slot = task_there left spot s.tasks.items t slot by.there in
      let request : request_of all k ≡ r.shown = request_at rs k r by.request in
      let names : map name_in rs' ≡ map name_in rs = ap (map name_in) by.requests ∙ ap (λ o. map name_in (changed_in rs k (λ y. unobserved r) o)) (sym by.request) ∙ names_changed rs k r (λ y. unobserved r) by.request refl in
      let gates = same_gates rs rs' names s.opens in
      let answers : numbers_of_passing (λ (q : Record). q.sent) 0 rs' ≡ things.answers = passing_same (λ (q : Record). q.sent) rs rs' (ap (map (λ (q : Record). q.sent)) by.requests ∙ map-set (λ (q : Record). q.sent) rs k (unobserved r) ∙ set_found (map (λ (q : Record). q.sent) rs) k r.sent (slice_get-map (λ (q : Record). q.sent) rs k ∙ ap (option_map (λ (q : Record). q.sent)) by.request)) in
      let same_things : things_with vs s1 ≡ things = ap (λ g. record things { gates = g; answers = numbers_of_passing (λ (q : Record). q.sent) 0 rs' }) gates ∙ ap (λ a. record things { answers = a }) answers in
      let tasks : map (task_seen left spot) s'.tasks.items ≡ slice_set all.tasks t (past_newest all (task_of all t)) = ap (map (task_seen left spot)) by.tasks ∙ map-set (task_seen left spot) s.tasks.items t slot' ∙ ap (slice_set all.tasks t) (sees.seen ∙ ap (past_newest all) (sym it)) in
      let shown : map (λ (q : Record). q.shown) rs' ≡ slice_set all.requests k (record (request_of all k) { observed = false }) = ap (map (λ (q : Record). q.shown)) by.requests ∙ map-set (λ (q : Record). q.shown) rs k (unobserved r) ∙ ap (λ q. slice_set all.requests k (record q { observed = false })) (sym request) in
      let done : Works left spot p vs w0 s (Got k outcome) w' s1 = record {
        choice = Plain;
        moves = grind (arith, sees.moves, got_desk (Place.Poll t x) t k w w' s r sound there by.worker by.driver, same_things, again);
        may = (
          sees.takes,
          (
            ap (λ y. is_number k (newest_held y)) (sees.polled ∙ it) ∙ ap (is_number k) by.newest ∙ eq-eqb k k refl,
            (
              ap (λ q. is_here w.index q.worker q.forwarding) request ∙ here_unsent by.mine by.unsent,
              (ap (λ q. is_resolved_with outcome q.phase) request ∙ ap (is_resolved_with outcome) by.over ∙ resolved_self outcome, tt),
            ),
          ),
        );
        own = got_own t k w w' r there by.worker by.driver ∙ sym sees.own_after_is;
        common = grind (arith, again, same_opens rs rs' names s.opens, tasks, shown, sees.after);
      } in
      subst (Works left spot p vs w s (Got k outcome) w') (sym by.kept) (subst (λ v. Works left spot p vs v s (Got k outcome) w' s1) (ap (λ y. record w { place = y }) (sym sound.here)) done)
    where
      here_unsent : r.shown.worker ≡ w.index → is_unsent r.shown.forwarding ≡ true → is_here w.index r.shown.worker r.shown.forwarding ≡ true
      here_unsent mine unsent = ap (is_here w.index r.shown.worker) (is_unsent_so r.shown.forwarding unsent) ∙ ap (λ i. i == w.index) mine ∙ eq-eqb w.index w.index refl
