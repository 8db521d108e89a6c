-- A POLLED TASK LOOKS whether an end was sent to it that it waits for elsewhere: it takes the output, or its poll ends next.
use Rattle.exec_invariants.{specs.{Hearing.Hears, Spares.SparesRecord, Holding.{Holder, IsHolding, awaited_in, box_of, holder_of, nap_of, thing_of}, Sound.{MayStop, SoundAt, acts_next, is_told, may_end}, Whole.{HasWhole, hands_of, with_worker, Profile}, Works.{Steps, Suits, Works}}, proofs.{Words.{map-set, slice_get-map, false≢true, eq-eqb, inr, inl, ◌≡◌, ℕ, suc, true, false, List, [], ◌∷◌, take, Option, Some, None, refl, sym, ap, subst, ◌∙◌, arith, length, ◌-◌, map, option_map, slice_get, slice_set, if◌then◌else◌, Shut, Outcome, Success, Failure, RequestOutput, Said, Applied, Resolved, Waiting, Event, Got, Turn, Plain, Plan, without_newest, is_resolved, is_resolved_with, is_unsent, waits_for_nothing, moved_on, Task, request_of, task_of, AfterSend, InPoll, Place, move_look_at, resume, sight_of, Moved, Things, aside, Held, Record, Shared, SleeperRecord, TaskSlot, Worker, is_complete, TakesAnswer, unobserved, numbers_held, IsAnswered, Spot, Views, common_of, desk_of, numbers_of_passing, own_of, task_seen, things_with, visible, with_view, changed_in, same_Some, take-map, length-map, ◌⊎◌, Subject}, HoldSteps.{IsNewest, thing_taken}, Results.same_error_self, Here.{IsHere, going_on}, HoldBeside.Holds, HoldThings.{Touches, touches_none, touches_record}, Seen.{request_at, sleeper_at}, Slots.{IsEvent, task_there, works_slot}, TaskDeals.{Dealt, acts as to_act, dealt, ends as to_end, from_look}, Keys.{name_in, names_changed, same_gates, same_opens}, Lined.passing_same, SparedRecord.there_within, TaskTakes.{holder_there, holders_one, passes_at, spot_answered}, Turning.{set_found, view_found}}}

module _ {B : Type 0} where
  -- the slot stays, and its poll ends
  dealt_same : (i : ℕ) (t : ℕ) (w : Worker) (s : Shared B) (it : IsHere InPoll.Resume t w s) → may_end it.slot.waiting ≡ true → is_told it.slot.waiting false ≡ false → MayStop i it.slot.waiting s.requests.items s.sleepers.items → Dealt InPoll.Pend i it.slot it.slot s.requests.items s.sleepers.items
  dealt_same i t w s it ends untold stop = record { cell = refl; home = refl; cleared = refl; poller = refl; body = it.body; told = λ h. absurd (false≢true (sym untold ∙ h)); untold = it.untold; waits = ends; stops = stop }

  pub hears_same : (slot : TaskSlot B) → Hears slot slot
  hears_same slot = record { home = refl; body = refl; going = λ h. h; told = λ answer hears. (hears, refl) }

-- what it looks for was told to its worker, and its end wasn't sent
abbrev pub Unheard : Waiting → List Record → List SleeperRecord → Type 0
Unheard (Waiting.Request k) rs ss = (r : Record) × (slice_get rs k ≡ Some r) × (is_unsent r.shown.forwarding ≡ false) × (r.sent ≡ false)
Unheard (Waiting.Timer k) rs ss = (z : SleeperRecord) × (slice_get ss k ≡ Some z) × (is_unsent z.shown.forwarding ≡ false) × (z.sent ≡ false)
Unheard _ rs ss = ⊥

record Ended (i : ℕ) (rs : List Record) (ss : List SleeperRecord) (u : Waiting) : Type 0 where
  may : may_end u ≡ true
  untold : is_told u false ≡ false
  stop : MayStop i u rs ss

module _ {B L : Type 0} (left : B → L) (spot : L → Option Said → Spot) where
  vain_event : (t : ℕ) (w : Worker) (s : Shared B) (slot : TaskSlot B) → slice_get s.tasks.items t ≡ Some slot → (u : Waiting) → slot.waiting ≡ u → Unheard u s.requests.items s.sleepers.items → (p : Plan) (vs : Views)
      → IsEvent left spot (Place.Poll t InPoll.Resume) (Place.Poll t InPoll.Pend) t w w.root_ready w.hand s slot Turn Plain p vs
  vain_event t w s slot there u waits unheard p vs =
      let vain : Moved Things = record { event = Turn; choice = Plain; desk = desk_of (record w { place = Place.Poll t InPoll.Pend }); thing = things_with vs s } in
      let by : (u : Waiting) → Unheard u s.requests.items s.sleepers.items → (y : Task) → y.waiting ≡ u → move_look_at p.config (common_of left spot p vs s) (desk_of (record w { place = Place.Poll t InPoll.Resume })) (things_with vs s) t (AfterSend.Pend t) (aside (things_with vs s) (resume w.index t (common_of left spot p vs s) (desk_of (record w { place = Place.Poll t InPoll.Resume })) y)) (sight_of w.index (common_of left spot p vs s) u) ≡ vain =
      grind (arith, request_at, passes_at, sleeper_at) in
      let all = common_of left spot p vs s in
      let it : task_of all t ≡ task_seen left spot slot = task_there left spot s.tasks.items t slot there in
      let d = desk_of (record w { place = Place.Poll t InPoll.Resume }) in
      let x = things_with vs s in
      let looks : Task → Moved Things = λ y. move_look_at p.config all d x t (AfterSend.Pend t) (aside x (resume w.index t all d y)) (sight_of w.index all y.waiting) in
      let seen = map (task_seen left spot) s.tasks.items in
      let at : slice_get seen t ≡ Some (task_seen left spot slot) = slice_get-map (task_seen left spot) s.tasks.items t ∙ ap (option_map (task_seen left spot)) there in
      assumption (ap looks it ∙ ap (λ v. looks (record (task_seen left spot slot) { waiting = v })) waits ∙ by u unheard (record (task_seen left spot slot) { waiting = u }) refl, ap (λ ts. record all { tasks = ts }) (sym (set_found seen t (task_seen left spot slot) at)))

  -- IT LOOKS IN VAIN
  pub looked_in_vain : (t : ℕ) (w w' : Worker) (s : Shared B) (e : Event) → (sound : SoundAt (Place.Poll t InPoll.Resume) w s) → (it : IsHere InPoll.Resume t w s) → (u : Waiting) → it.slot.waiting ≡ u → Unheard u s.requests.items s.sleepers.items
      → e ≡ Turn → w' ≡ record w { place = Place.Poll t InPoll.Pend } → Steps left spot w s e w' s
  looked_in_vain t w w' s e sound it u waits unheard event same =
      let ended : (u : Waiting) → Unheard u s.requests.items s.sleepers.items → Ended w.index s.requests.items s.sleepers.items u = grind arith in
      let slot = it.slot in
      let items : s.tasks.items ≡ slice_set s.tasks.items t slot = sym (set_found s.tasks.items t slot it.there) in
      let facts = ended u unheard in
      let done : Steps left spot w s Turn w' s =
      dealt left spot InPoll.Resume InPoll.Pend t w w' s s Turn slot (from_look t) (to_end t) sound it same refl items (touches_none s)
      (dealt_same w.index t w s it (ap may_end waits ∙ facts.may) (ap (λ v. is_told v false) waits ∙ facts.untold) (subst (λ v. MayStop w.index v s.requests.items s.sleepers.items) (sym waits) facts.stop)) (hears_same slot) (λ others holds. holds)
      (λ p vs suits. works_slot left spot (Place.Poll t InPoll.Resume) (Place.Poll t InPoll.Pend) t w w.root_ready w.hand s s slot Turn Plain sound.here items p vs suits (vain_event t w s slot it.there u waits unheard p vs)) in
      subst (λ y. Steps left spot w s y w' s) (sym event) done

-- THE OUTPUT IS THERE

-- the newest is the last of what is held
pub newest_split : (held : List Held) (k : ℕ) → slice_get (numbers_held held) (length (numbers_held held) - 1) ≡ Some k → IsNewest k held (take (length held - 1) held)
newest_split [] k at = absurd (cc)
newest_split (x ∷ []) k at = record { x = x; number = same_Some x.number k at; all = refl }
newest_split (x ∷ (y ∷ ys)) k at =
    let more : length (numbers_held (x ∷ (y ∷ ys))) - 1 ≡ suc (length (numbers_held (y ∷ ys)) - 1) = omega arith in
    let most : length (x ∷ (y ∷ ys)) - 1 ≡ suc (length (y ∷ ys) - 1) = omega arith in
    let rest = newest_split (y ∷ ys) k (ap (slice_get (numbers_held (x ∷ (y ∷ ys)))) (sym more) ∙ at) in
    subst (λ n. IsNewest k (x ∷ (y ∷ ys)) (take n (x ∷ (y ∷ ys)))) (sym most) (record { x = rest.x; number = rest.number; all = ap (λ hs. x ∷ hs) rest.all })

pub numbers_without : (held : List Held) → numbers_held (take (length held - 1) held) ≡ without_newest (numbers_held held)
numbers_without held = sym (take-map (λ (h : Held). h.number) (length held - 1) held) ∙ ap (λ n. take (n - 1) (numbers_held held)) (sym (length-map held (λ (h : Held). h.number)))

pub resolved_self : (outcome : Outcome) → is_resolved_with outcome (Resolved outcome) ≡ true
resolved_self Success = refl
resolved_self (Failure x) = same_error_self x

pub thing_there : (rs : List Record) (k : ℕ) (r : Record) → slice_get rs k ≡ Some r → slice_get (map thing_of rs) k ≡ Some (thing_of r)
thing_there rs k r there = slice_get-map thing_of rs k ∙ ap (option_map thing_of) there

module _ {B : Type 0} where
  -- what tasks hold, once task t took the output of request k
  pub holds_taken : (t k : ℕ) (w : Worker) (s s' : Shared B) (slot slot' : TaskSlot B) (r : Record) (others : Profile) → slice_get s.tasks.items t ≡ Some slot → slice_get s.requests.items k ≡ Some r → slice_get (numbers_held slot.held.items) (length (numbers_held slot.held.items) - 1) ≡ Some k
      → slot'.held.items ≡ take (length slot.held.items - 1) slot.held.items → holder_of slot' ≡ record (holder_of slot) { held = slot'.held.items; awaits = None; output = slot'.output } → is_complete slot.cell.phase ≡ false → (awaited_in slot.waiting ≡ None) ⊎ (awaited_in slot.waiting ≡ Some (Subject.Request k))
      → (is_unsent r.shown.forwarding ≡ false → r.sent ≡ true) → (is_unsent r.shown.forwarding ≡ true → (hands_of (with_worker others w)).wakes r.shown.worker t ≡ 0) → s'.tasks.items ≡ slice_set s.tasks.items t slot' → s'.requests.items ≡ slice_set s.requests.items k (unobserved r)
      → s' ≡ record s { tasks = s'.tasks; requests = s'.requests } → Holds (with_worker others w) s → Holds (with_worker others w) s'
  holds_taken t k w s s' slot slot' r others there at_k newest less took going awaited sent unowed items records kept holds =
      let h = hands_of (with_worker others w) in
      let hs : List Holder = map holder_of s.tasks.items in
      let ts = map thing_of s.requests.items in
      let naps = map nap_of s.sleepers.items in
      let boxes = map box_of s.seats.items in
      let at_r = thing_there s.requests.items k r at_k in
      let box = there_within boxes r.shown.worker (holds.of_worker k (thing_of r) at_r) in
      let now = thing_taken h s.config.workers hs ts naps boxes t k (holder_of slot) (holder_of slot') (thing_of r) (thing_of r).ended
      (record {
        there = holder_there s.tasks.items t slot there;
        thing = at_r;
        newest = subst (IsNewest k slot.held.items) (sym less) (newest_split slot.held.items k newest);
        took = took;
        going = going;
        awaited = awaited;
        ended = λ some. refl;
        sent = sent;
        unowed = unowed;
        box = box.0;
        seat = box.1;
      }) holds in
      let tasks : map holder_of s'.tasks.items ≡ slice_set hs t (holder_of slot') = ap (map holder_of) items ∙ holders_one s.tasks.items t slot' in
      let things : map thing_of s'.requests.items ≡ slice_set ts k (thing_of (unobserved r)) = ap (map thing_of) records ∙ map-set thing_of s.requests.items k (unobserved r) in
      subst (Holds (with_worker others w)) (sym kept)
      (subst (λ a. IsHolding h s.config.workers a (map thing_of s'.requests.items) naps boxes) (sym tasks) (subst (λ a. IsHolding h s.config.workers (slice_set hs t (holder_of slot')) a naps boxes) (sym things) now))

  -- what the slot is then
  record HeardSo (k : ℕ) (slot slot' : TaskSlot B) (output : RequestOutput) : Type 0 where
    took : slot' ≡ record slot { held = slot'.held; waiting = Waiting.Nothing; told = Some (Said.Output output); output = Shut }
    held : slot'.held.items ≡ take (length slot.held.items - 1) slot.held.items

  dealt_heard : (t k : ℕ) (w : Worker) (s : Shared B) (it : IsHere InPoll.Resume t w s) (slot' : TaskSlot B) (output : RequestOutput) (rs : List Record) (ss : List SleeperRecord) → HeardSo k it.slot slot' output → Dealt InPoll.Act w.index it.slot slot' rs ss
  dealt_heard = grind arith

  hears_heard : (k : ℕ) (slot slot' : TaskSlot B) (output : RequestOutput) → HeardSo k slot slot' output → slot.told ≡ None → slot.waiting ≡ Waiting.Request k → Hears slot slot'
  hears_heard = grind (arith, numbers_without)

module _ {B L : Type 0} (left : B → L) (spot : L → Option Said → Spot) (answered : IsAnswered spot) where
  heard_seen : (k : ℕ) (slot slot' : TaskSlot B) (output : RequestOutput) → HeardSo k slot slot' output → slot.told ≡ None
      → task_seen left spot slot' ≡ record (task_seen left spot slot) { waiting = Waiting.Nothing; held = without_newest (numbers_held slot.held.items) }
  heard_seen = grind (arith, spot_answered, numbers_without)

  heard_works : (t k : ℕ) (w : Worker) (s s' : Shared B) (slot slot' : TaskSlot B) (r : Record) (outcome : Outcome) (output : RequestOutput) → w.place ≡ Place.Poll t InPoll.Resume → slice_get s.tasks.items t ≡ Some slot → slot.waiting ≡ Waiting.Request k → slot.told ≡ None
      → slice_get (numbers_held slot.held.items) (length (numbers_held slot.held.items) - 1) ≡ Some k → HeardSo k slot slot' output → slice_get s.requests.items k ≡ Some r → r.sent ≡ true → r.shown.forwarding ≡ Applied → r.shown.phase ≡ Resolved outcome
      → s'.tasks.items ≡ slice_set s.tasks.items t slot' → s'.requests.items ≡ slice_set s.requests.items k (unobserved r) → s' ≡ record s { tasks = s'.tasks; requests = s'.requests }
      → (p : Plan) (vs : Views) → Suits p vs w s → Works left spot p vs w s (Got k outcome) (record w { place = Place.Poll t InPoll.Act }) s'
  heard_works t k w s s' slot slot' r outcome output here there waits untold newest so at_k sent applied over items records kept p vs suits =
      let w0 : Worker = record w { place = Place.Poll t InPoll.Resume } in
      let w1 : Worker = record w { place = Place.Poll t InPoll.Act } in
      let s1 : Shared B = record s { tasks = s'.tasks; requests = s'.requests } in
      let all = common_of left spot p vs s in
      let me = own_of w0 in
      let d = desk_of w0 in
      let x = things_with vs s in
      let again : with_view vs w.index (visible w) ≡ vs = view_found vs w.index (visible w) suits.seen in
      let it : task_of all t ≡ task_seen left spot slot = task_there left spot s.tasks.items t slot there in
      let request : request_of all k ≡ r.shown = request_at s.requests.items k r at_k in
      let what : (task_of all t).waiting ≡ Waiting.Request k = ap (λ y. y.waiting) it ∙ waits in
      let seen : Task = record (task_seen left spot slot) { waiting = Waiting.Request k } in
      let looks : Task → Moved Things = λ y. move_look_at p.config all d x t (AfterSend.Pend t) (aside x (resume w.index t all d y)) (sight_of w.index all y.waiting) in
      let names : map name_in s'.requests.items ≡ map name_in s.requests.items = ap (map name_in) records ∙ ap (λ o. map name_in (changed_in s.requests.items k (λ y. unobserved r) o)) (sym at_k) ∙ names_changed s.requests.items k r (λ y. unobserved r) at_k refl in
      let gates = same_gates s.requests.items s'.requests.items names s.opens in
      let opens = same_opens s.requests.items s'.requests.items names s.opens in
      let answers : numbers_of_passing (λ (q : Record). q.sent) 0 s'.requests.items ≡ x.answers = passing_same (λ (q : Record). q.sent) s.requests.items s'.requests.items (ap (map (λ (q : Record). q.sent)) records ∙ map-set (λ (q : Record). q.sent) s.requests.items k (unobserved r) ∙ set_found (map (λ (q : Record). q.sent) s.requests.items) k r.sent (slice_get-map (λ (q : Record). q.sent) s.requests.items k ∙ ap (option_map (λ (q : Record). q.sent)) at_k)) in
      let same_things : things_with vs s1 ≡ x = ap (λ g. record x { gates = g; answers = numbers_of_passing (λ (q : Record). q.sent) 0 s'.requests.items }) gates ∙ ap (λ a. record x { answers = a }) answers in
      let gone : task_seen left spot slot' ≡ record (task_seen left spot slot) { waiting = Waiting.Nothing; held = without_newest (numbers_held slot.held.items) } = heard_seen k slot slot' output so untold in
      let tasks : map (task_seen left spot) s'.tasks.items ≡ slice_set all.tasks t (task_seen left spot slot') = ap (map (task_seen left spot)) items ∙ map-set (task_seen left spot) s.tasks.items t slot' in
      let shown : map (λ (q : Record). q.shown) s'.requests.items ≡ slice_set all.requests k (record r.shown { observed = false }) = ap (map (λ (q : Record). q.shown)) records ∙ map-set (λ (q : Record). q.shown) s.requests.items k (unobserved r) in
      let past : Task → Task = λ y. record (if waits_for_nothing y.waiting then moved_on all y else record y { waiting = Waiting.Nothing }) { held = without_newest y.held } in
      let taken : past (task_of all t) ≡ task_seen left spot slot' = ap past it ∙ ap (λ u. record (if waits_for_nothing u then moved_on all (task_seen left spot slot) else record (task_seen left spot slot) { waiting = Waiting.Nothing }) { held = without_newest (numbers_held slot.held.items) }) waits ∙ sym gone in
      let done : Works left spot p vs w0 s (Got k outcome) w1 s1 = grind (arith, passes_at, eq-eqb, resolved_self) in
      subst (Works left spot p vs w s (Got k outcome) w1) (sym kept) (subst (λ v. Works left spot p vs v s (Got k outcome) w1 s1) (ap (λ y. record w { place = y }) (sym here)) done)

  -- THE WHOLE STEP
  pub output_heard : (t k : ℕ) (w w' : Worker) (s s' : Shared B) (e : Event) (r : Record) → (sound : SoundAt (Place.Poll t InPoll.Resume) w s) → HasWhole w s → (it : IsHere InPoll.Resume t w s) → it.slot.waiting ≡ Waiting.Request k → slice_get s.requests.items k ≡ Some r → r.sent ≡ true
      → TakesAnswer t k r w w' s s' e → Steps left spot w s e w' s'
  output_heard t k w w' s s' e r sound has it waits at_k sent by =
      let slot = it.slot in
      let going : is_complete slot.cell.phase ≡ false = going_on slot.cell.phase it.polled in
      let newest = (has.whole.holding.awaiting t (holder_of slot) k (holder_there s.tasks.items t slot it.there) (ap awaited_in waits)).2.newest going in
      let applied : r.shown.forwarding ≡ Applied = has.whole.holding.sent k (thing_of r) (thing_there s.requests.items k r at_k) sent in
      let same : by.slot ≡ slot = same_Some by.slot slot (sym by.there ∙ it.there) in
      let so : HeardSo k slot by.slot' by.output = subst (λ o. HeardSo k o by.slot' by.output) same (record { took = by.took; held = by.held }) in
      let untold : slot.told ≡ None = it.untold (ap acts_next waits) in
      let spares : SparesRecord r (unobserved r) = record { kept = refl; waiter = λ u h. h; forwarding = inl refl; observed = inr (applied, ap is_resolved by.over, refl) } in
      let slept : s'.sleepers ≡ s.sleepers = ap (λ (z : Shared B). z.sleepers) by.kept in
      let kept : s' ≡ record s { tasks = s'.tasks; requests = s'.requests; sleepers = s'.sleepers } = by.kept ∙ ap (λ z. record s { tasks = s'.tasks; requests = s'.requests; sleepers = z }) (sym slept) in
      let works : (p : Plan) (vs : Views) → Suits p vs w s → Works left spot p vs w s (Got k by.outcome) (record w { place = Place.Poll t InPoll.Act }) s' =
      heard_works t k w s s' slot by.slot' r by.outcome by.output sound.here it.there waits untold newest so at_k sent applied by.over by.tasks by.requests by.kept in
      let done : Steps left spot w s (Got k by.outcome) w' s' =
      dealt left spot InPoll.Resume InPoll.Act t w w' s s' (Got k by.outcome) by.slot' (from_look t) (to_act t) sound it by.worker kept by.tasks
      (subst (λ z. Touches s (record s { requests = s'.requests; sleepers = z })) (sym slept) (touches_record s s' k r (unobserved r) at_k spares by.requests)) (dealt_heard t k w s it by.slot' by.output s'.requests.items s'.sleepers.items so) (hears_heard k slot by.slot' by.output so untold waits)
      (λ others. holds_taken t k w s s' slot by.slot' r others it.there at_k newest so.held
      (ap holder_of so.took ∙ ap (λ o. record (holder_of slot) { held = by.slot'.held.items; awaits = None; output = o }) (sym (ap (λ (y : TaskSlot B). y.output) so.took)))
      going (inr (ap awaited_in waits)) (λ h. sent) (λ unsent. absurd (false≢true (sym (ap is_unsent applied) ∙ unsent))) by.tasks by.requests by.kept) works in
      subst (λ y. Steps left spot w s y w' s') (sym by.event) done
