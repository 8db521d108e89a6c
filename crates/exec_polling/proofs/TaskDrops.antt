-- A POLLED TASK LETS GO of the newest request that it holds, which its worker has.
use Rattle.std.proofs.{Common.{◌≡◌, ◌⊎◌, inl, ℕ, ◌-◌, ◌==◌, Bool, true, false, List, [], length, map, take, Option, Some, None, option_map, refl, sym, ap, subst, ◌∙◌, slice_get, slice_set, if◌then◌else◌, arith}, lemmas.{Bool.{false≢true, eq-eqb}, List.{map-set, set-set}, Option.slice_get-map}}
use Rattle.exec_base.specs.{Slab.live_count, declared.error.Error.TheVariants.{NoMemory}}
use Rattle.exec_outcomes.specs.declared.outcome.Outcome.{Outcome}
use Rattle.exec_task.specs.{Phases.is_polled, Sight.Sight, declared.body.{Act.Act, Said.Said}}
use Rattle.exec_machine.specs.{declared.{config.ScriptWord.ScriptWord, event.Event.{Event, TheVariants.Drop}, state.{MailMessage.TheVariants.CancelRequest, Request.Request, Waiting.Waiting}}, Choice.Choice.Plain, Progress.Plan, Requests.{dropped, operation_asked, own_after_drop}, Same.is_number, Tasks.after_letting_go, Tests.{is_unsent}, Words.{asks_drop, moved_on, newest_held, next_word}, World.{Common, Task, request_of, task_of}}
use Rattle.exec_moves.specs.{declared.{handing.AfterSend.AfterSend, place.{InPoll.InPoll, Place.Place}}, Move.move_look_at, Poll.{Sight.{Asks, Here}, act, act_asked, acts_on, cancels_elsewhere, drop_newest}, State.{Desk, Moved, Things, does}, Thing.aside, Told.{told_of_drop}}
use Rattle.exec_parts.{specs.{declared.parts.{mail.Subject.Subject, record.Record.Record, shared.Shared.Shared, task_slot.TaskSlot.TaskSlot, worker.Worker.Worker}, Awaits.{DropsHere, Forgets, LetsGo, drops, newest_of}, Records.{numbers_held, outcome_in}, Scripts.{IsAnswer, IsAnswered, held_after}, Serving.changed_in, Spots.{Spot, spot_of}, View.{Views, body_in, common_of, desk_of, driver_of, numbers_of_passing, own_of, task_seen, things_with, visible, with_view}}, proofs.Facts.{same_Some, set_there}}
use Rattle.exec_invariants.{specs.{Acting.{HasActed, Performs, StepsOf}, Due.IsDue, Flown.HasFlown, Hearing.{CanHear, held_once_come}, Holding.{Holder, IsHolding, awaited_in, box_of, holder_of, nap_of, thing_of}, HoldPlaces.{has_wakes_at, is_bare_at}, Sound.{SoundAt, served_in}, Whole.{HasWhole, Profile, hands_of, with_worker}, Works.{Beside, Suits, Works}}, proofs.{Acting.{IsActor, actor, acts_so, me_at, moved_seen, word_move}, Here.{IsHere, going_on, polled_here}, HoldBeside.Holds, HoldSteps.{IsNewest, thing_taken}, Keys.{name_in, names_changed, same_gates, same_opens}, LetShown.{SeenLet, let_seen}, Lined.{opens_same, passing_same}, Pending.in_poll, Performing.{performs_on, still_performs}, Seen.request_at, ServingHolds.Keeps, Serving.spares_one, Slots.task_there, SparedRecord.there_within, TaskDeals.{Dealt, acts as to_act, from_act}, TaskHears.{newest_split, numbers_without, thing_there}, TaskHomes.{Homes, beside_goes, sound_goes}, TaskNewest.newest_unsent, TaskOverFold.{dropped_at_gate, dropped_name, dropped_thing, dropped_worker}, TaskTakes.{holder_there, holders_one, no_wakes}, TaskWants.{HoldsNewest, newest_is}, Turning.{set_found, view_found}}}

pass_heard : Said.Pass ≡ Said.Refused NoMemory → ⊥
pass_heard h = cc

let_thing : (r : Record) → thing_of (drops r) ≡ record (thing_of r) { observed = false; ended = outcome_in (drops r).shown.phase }
let_thing = grind arith

told_place : (k : ℕ) (it : Request) (d : Desk) (p : Place) → d.place ≡ p → record (told_of_drop k it d) { place = p } ≡ told_of_drop k it d
told_place = grind arith

module _ {B : Type 0} where
  -- the slot then
  pub record DropsSo (slot slot' : TaskSlot B) (b' : B) : Type 0 where
    pub took : slot' ≡ record slot { body = Some b'; held = slot'.held; told = Some Said.Pass }
    pub held : slot'.held.items ≡ take (length slot.held.items - 1) slot.held.items

  -- once its body acted
  pub drops_so : (t : ℕ) (s s1 mid : Shared B) (slot acted : TaskSlot B) (b' : B) → slice_get s.tasks.items t ≡ Some slot → acted ≡ record slot { body = Some b'; told = None } → s1.tasks.items ≡ slice_set s.tasks.items t acted → (f : Forgets t s1 mid) → DropsSo slot f.slot' b' × (mid.tasks.items ≡ slice_set s.tasks.items t f.slot')
  drops_so t s s1 mid slot acted b' there acted_is items f =
      let found : slice_get s1.tasks.items t ≡ Some acted = ap (λ ts. slice_get ts t) items ∙ set_there s.tasks.items t acted slot there in
      let is : f.slot ≡ record slot { body = Some b'; told = None } = same_Some f.slot acted (sym f.there ∙ found) ∙ acted_is in (
        grind arith,
        f.tasks ∙ ap (λ ts. slice_set ts t f.slot') items ∙ set-set s.tasks.items t acted f.slot',
      )

  pub drops_deals : (i : ℕ) (slot slot' : TaskSlot B) (b' : B) (s' : Shared B) → slot.waiting ≡ Waiting.Nothing → DropsSo slot slot' b' → Dealt InPoll.Act i slot slot' s'.requests.items s'.sleepers.items
  drops_deals = grind arith

  pub record LetsNewest (t k : ℕ) (w v : Worker) (s s' : Shared B) (slot slot' : TaskSlot B) (b' : B) (r : Record) : Type 0 where
    pub there : slice_get s.tasks.items t ≡ Some slot
    pub newest : newest_of slot ≡ Some k
    pub waits : slot.waiting ≡ Waiting.Nothing
    pub polled : is_polled slot.cell.phase ≡ true
    pub request : slice_get s.requests.items k ≡ Some r
    pub holds : HoldsNewest t k s slot r
    pub unsent : is_unsent r.shown.forwarding ≡ true
    pub mine : r.shown.worker ≡ w.index
    pub so : DropsSo slot slot' b'
    pub lets : LetsGo k w v (record s { tasks = s'.tasks }) s'
    pub same : lets.r ≡ r
    pub tasks : s'.tasks.items ≡ slice_set s.tasks.items t slot'
    pub kept : s' ≡ record s { tasks = s'.tasks; requests = s'.requests }

  module _ (t k : ℕ) (w v : Worker) (s s' : Shared B) (slot slot' : TaskSlot B) (b' : B) (r : Record) (sound : SoundAt (Place.Poll t InPoll.Act) w s) (by : LetsNewest t k w v s s' slot slot' b' r) where
    pub idle : served_in w.place ≡ None
    idle = ap served_in sound.here

    pub keeps_first : Keeps w (record s { tasks = s'.tasks })
    keeps_first =
        record {
          told = sound.told;
          wide = sound.wide;
          named = sound.named;
          sized = sound.sized;
          over = sound.over;
          quiet = subst (λ p. has_wakes_at p ≡ false → w.home.deferred.notes.wakes.items ≡ []) (sym sound.here) sound.quiet;
          due = subst (λ p. IsDue (served_in p) w.home.closing w.index w.moments s.config w.names (driver_of w) w.home.timers s.requests.items s.sleepers.items) (sym sound.here) sound.due;
          flown = subst (λ p. HasFlown (served_in p) w.index w.names (driver_of w) s.requests.items) (sym sound.here) sound.flown;
          carried = sound.carried;
          known = sound.known;
          rooted = sound.rooted;
          bare = subst (λ p. is_bare_at p ≡ true → live_count w.home.timers ≡ 0) (sym sound.here) (λ h. absurd (false≢true h));
        }

    pub mine : by.lets.r.shown.worker ≡ w.index
    mine = ap (λ (y : Record). y.shown.worker) by.same ∙ by.mine

    pub seen : by.lets.r.shown.observed ≡ true
    seen = ap (λ (y : Record). y.shown.observed) by.same ∙ by.holds.observed

    pub is_seen : SeenLet k w v (record s { tasks = s'.tasks }) s' idle sound.gates keeps_first by.lets mine seen
    is_seen = let_seen k w v (record s { tasks = s'.tasks }) s' idle sound.gates keeps_first by.lets mine seen

    records : s'.requests.items ≡ slice_set s.requests.items k (drops r)
    records = by.lets.records ∙ ap (λ y. slice_set s.requests.items k (drops y)) by.same

    -- WHAT HOLDS THEN of the worker's own
    pub lets_homes : Homes w v s (record s { requests = s'.requests })
    lets_homes =
        let s1 : Shared B = record s { requests = s'.requests } in
        let keeps : Keeps v (record s { tasks = s'.tasks; requests = s'.requests }) = subst (Keeps v) by.kept is_seen.keeps_on in
        let here : v.place ≡ Place.Poll t InPoll.Act = ap (λ (y : Worker). y.place) by.lets.worker ∙ sound.here in
        record {
          worker = by.lets.worker;
          shared = refl;
          spares = spares_one w.index s s1 k r drops (opens_same s.opens s.opens s.requests.items sound.gates refl) (dropped_at_gate r) (records ∙ sym (ap (changed_in s.requests.items k drops) by.request)) refl by.request by.mine dropped_worker;
          keeps = assumption keeps;
          wakes = keeps.quiet (ap has_wakes_at here) ∙ sym (sound.quiet refl);
        }

    -- and of what tasks hold
    pub lets_holds : (others : Profile) → Holds (with_worker others w) s → Holds (with_worker others w) s'
    lets_holds others holds =
        let h = hands_of (with_worker others w) in
        let hs : List Holder = map holder_of s.tasks.items in
        let ts = map thing_of s.requests.items in
        let naps = map nap_of s.sleepers.items in
        let boxes = map box_of s.seats.items in
        let at_t = holder_there s.tasks.items t slot by.there in
        let at_r = thing_there s.requests.items k r by.request in
        let box = there_within boxes r.shown.worker (holds.of_worker k (thing_of r) at_r) in
        let took = by.so.took in
        let none : awaited_in slot.waiting ≡ None = ap awaited_in by.waits in
        let ended : Option Outcome = outcome_in (drops r).shown.phase in
        let newest = subst (IsNewest k slot.held.items) (sym by.so.held) (newest_split slot.held.items k by.newest) in
        let took_so = ap holder_of took ∙ ap (λ u. record (holder_of slot) { held = slot'.held.items; awaits = u }) none ∙ ap (λ o. record (holder_of slot) { held = slot'.held.items; awaits = None; output = o }) (sym (ap (λ (y : TaskSlot B). y.output) took)) in
        let idle : (awaited_in slot.waiting ≡ None) ⊎ (awaited_in slot.waiting ≡ Some (Subject.Request k)) = inl none in
        let sent : is_unsent r.shown.forwarding ≡ false → r.sent ≡ true = λ sent. absurd (false≢true (sym sent ∙ by.unsent)) in
        let unowed : is_unsent r.shown.forwarding ≡ true → h.wakes r.shown.worker t ≡ 0 = λ unsent. subst (λ j. h.wakes j t ≡ 0) (sym by.mine) (no_wakes InPoll.Act t w s others t refl sound) in
        let now = thing_taken h s.config.workers hs ts naps boxes t k (holder_of slot) (holder_of slot') (thing_of r) ended
        (search (at_t, at_r, newest, took_so, going_on slot.cell.phase by.polled, idle, (dropped_thing r).ended, sent, unowed, box.1)) holds in
        let dropped_so : IsHolding h s.config.workers (slice_set hs t (holder_of slot')) (slice_set ts k (thing_of (drops r))) naps boxes =
        subst (λ x. IsHolding h s.config.workers (slice_set hs t (holder_of slot')) (slice_set ts k x) naps boxes) (sym (let_thing r)) now in
        let tasks : map holder_of s'.tasks.items ≡ slice_set hs t (holder_of slot') = ap (map holder_of) by.tasks ∙ holders_one s.tasks.items t slot' in
        let things : map thing_of s'.requests.items ≡ slice_set ts k (thing_of (drops r)) = ap (map thing_of) records ∙ map-set thing_of s.requests.items k (drops r) in
        let there : IsHolding h s.config.workers (map holder_of s'.tasks.items) (map thing_of s'.requests.items) naps boxes =
        subst (λ a. IsHolding h s.config.workers a (map thing_of s'.requests.items) naps boxes) (sym tasks)
        (subst (λ a. IsHolding h s.config.workers (slice_set hs t (holder_of slot')) a naps boxes) (sym things) dropped_so) in
        subst (Holds (with_worker others w)) (sym by.kept) there

module _ {B L : Type 0} (left : B → L) (spot : L → Option Said → Spot) where
  -- THE MOVE, by where the newest held is
  pub drop_looks : (t k : ℕ) (p : Plan) (w : Worker) (s : Shared B) (vs : Views) (slot : TaskSlot B) (r : Record) → slice_get s.tasks.items t ≡ Some slot → next_word (common_of left spot p vs s) (task_seen left spot slot) ≡ ScriptWord.Drop → newest_of slot ≡ Some k → slice_get s.requests.items k ≡ Some r
      → word_move left spot t p (common_of left spot p vs s) w s vs (next_word (common_of left spot p vs s) (task_of (common_of left spot p vs s) t))
      ≡ move_look_at p.config (common_of left spot p vs s) (desk_of (record w { place = Place.Poll t InPoll.Act })) (things_with vs s) t (AfterSend.Act t)
      (aside (things_with vs s) (does (Drop k) (acts_on t (told_of_drop k r.shown (desk_of (record w { place = Place.Poll t InPoll.Act })))) (task_seen left spot slot)))
      (if r.shown.worker == w.index then Here else Asks r.shown.worker (CancelRequest k))
  drop_looks t k p w s vs slot r there word newest at_k =
      let all = common_of left spot p vs s in
      let d = desk_of (record w { place = Place.Poll t InPoll.Act }) in
      let me = me_at t w in
      let x = things_with vs s in
      let b : AfterSend = AfterSend.Act t in
      let y : Task = task_seen left spot slot in
      let it : task_of all t ≡ y = task_there left spot s.tasks.items t slot there in
      let request : request_of all k ≡ r.shown = request_at s.requests.items k r at_k in
      let by_task : Task → Moved Things = λ z. move_look_at p.config all d x t b (aside x (act p.config w.index t me all d z)) (cancels_elsewhere w.index all (newest_held z)) in
      let by_its_word : ScriptWord → Moved Things = λ z. move_look_at p.config all d x t b (aside x (act_asked w.index t me all d y z (operation_asked p.config me.sampled z))) (cancels_elsewhere w.index all (newest_held y)) in
      let by_held : Option ℕ → Moved Things = λ o. move_look_at p.config all d x t b (aside x (drop_newest t all d y o)) (cancels_elsewhere w.index all o) in
      grind arith

module _ {B L : Type 0} (left : B → L) (runs : L → Plan → Option ℕ → Type 0) (holds : L → Option Said → List ℕ) (spot : L → Option Said → Spot) (gives : L → Option Sight → Said → Act B → L → Option Sight → Type 0) (answered : IsAnswered spot) where
  -- the task then
  pub let_go_seen : (all : Common) (slot slot' : TaskSlot B) (b' : B) → DropsSo slot slot' b' → is_polled slot.cell.phase ≡ true → spot (left b') None ≡ spot_of (moved_on all (task_seen left spot slot)) → task_seen left spot slot' ≡ after_letting_go all (task_seen left spot slot)
  let_go_seen = grind (arith, moved_seen, pass_heard, numbers_without)

  -- what it runs and holds then
  pub drops_perform : (t k : ℕ) (w w' : Worker) (s s1 s' : Shared B) (slot' : TaskSlot B) → (h : HasActed left runs holds spot gives t w s s1 (Act.Drop k)) → is_polled h.made.slot.cell.phase ≡ true → h.made.slot.waiting ≡ Waiting.Nothing → DropsSo h.made.slot slot' h.made.acts.body'
      → (p : Plan) → Performs left runs holds p h.made.slot → Performs left runs holds p slot'
  drops_perform t k w w' s s1 s' slot' h polled waits so p fits =
      let slot = h.made.slot in
      let b' = h.made.acts.body' in
      let told : slot'.told ≡ Some Said.Pass = ap (λ (o : TaskSlot B). o.told) so.took in
      let idle : slot'.waiting ≡ Waiting.Nothing = ap (λ (o : TaskSlot B). o.waiting) so.took ∙ waits in
      performs_on left runs holds spot gives p (task_seen left spot slot) (Act.Drop k) slot' b' ((h.asks p (record { workers = []; calls = [] }) fits).goes_on refl) (ap (λ (o : TaskSlot B). o.home) so.took)
      (ap (λ (o : TaskSlot B). body_in o.cell.phase o.body) so.took ∙ in_poll slot.cell.phase (Some b') polled)
      (λ answer hears.
      let heard : answer ≡ Said.Pass = subst (λ o. CanHear o slot'.waiting answer) told hears in
      subst (λ y. IsAnswer {B = B} (Act.Drop k) y × (held_after {B = B} (Act.Drop k) y (numbers_held slot.held.items) ≡ held_once_come slot'.waiting (numbers_held slot'.held.items))) (sym heard)
      (tt, sym (ap numbers_held so.held ∙ numbers_without slot.held.items) ∙ ap (λ u. held_once_come u (numbers_held slot'.held.items)) (sym idle)))

  lets_works : (t k : ℕ) (w v : Worker) (s s' : Shared B) (slot slot' : TaskSlot B) (b' : B) (r : Record) → SoundAt (Place.Poll t InPoll.Act) w s → LetsNewest t k w v s s' slot slot' b' r → (p : Plan) (vs : Views) → Suits p vs w s → next_word (common_of left spot p vs s) (task_seen left spot slot) ≡ ScriptWord.Drop
      → task_seen left spot slot' ≡ after_letting_go (common_of left spot p vs s) (task_seen left spot slot) → Works left spot p vs w s (Drop k) v s'
  lets_works t k w v s s' slot slot' b' r sound by p vs suits word seen =
      let w0 : Worker = record w { place = Place.Poll t InPoll.Act } in
      let s1 : Shared B = record s { tasks = s'.tasks; requests = s'.requests } in
      let rs = s.requests.items in
      let rs' = s'.requests.items in
      let all = common_of left spot p vs s in
      let me = own_of w0 in
      let d = desk_of w0 in
      let things = things_with vs s in
      let y : Task = task_seen left spot slot in
      let it_seen = is_seen t k w v s s' slot slot' b' r sound by in
      let same_worker : w ≡ w0 = ap (λ z. record w { place = z }) sound.here in
      let again : with_view vs w.index (visible v) ≡ vs = ap (λ z. with_view vs w.index z) it_seen.shows ∙ view_found vs w.index (visible w) suits.seen in
      let it : task_of all t ≡ y = task_there left spot s.tasks.items t slot by.there in
      let request : request_of all k ≡ r.shown = request_at rs k r by.request in
      let records : rs' ≡ slice_set rs k (drops r) = by.lets.records ∙ ap (λ o. slice_set rs k (drops o)) by.same in
      let names : map name_in rs' ≡ map name_in rs = ap (map name_in) records ∙ ap (λ o. map name_in (changed_in rs k drops o)) (sym by.request) ∙ names_changed rs k r drops by.request (dropped_name r) in
      let gates = same_gates rs rs' names s.opens in
      let opens = same_opens rs rs' names s.opens in
      let answers : numbers_of_passing (λ (q : Record). q.sent) 0 rs' ≡ things.answers = passing_same (λ (q : Record). q.sent) rs rs' (ap (map (λ (q : Record). q.sent)) records ∙ map-set (λ (q : Record). q.sent) rs k (drops r) ∙ set_found (map (λ (q : Record). q.sent) rs) k r.sent (slice_get-map (λ (q : Record). q.sent) rs k ∙ ap (option_map (λ (q : Record). q.sent)) by.request)) in
      let same_things : things_with vs s1 ≡ things = ap (λ g. record things { gates = g; answers = numbers_of_passing (λ (q : Record). q.sent) 0 rs' }) gates ∙ ap (λ a. record things { answers = a }) answers in
      let tasks : map (task_seen left spot) s'.tasks.items ≡ slice_set all.tasks t (after_letting_go all (task_of all t)) = ap (map (task_seen left spot)) by.tasks ∙ map-set (task_seen left spot) s.tasks.items t slot' ∙ ap (slice_set all.tasks t) (seen ∙ ap (after_letting_go all) (sym it)) in
      let shown : map (λ (q : Record). q.shown) rs' ≡ slice_set all.requests k (dropped (request_of all k)) = ap (map (λ (q : Record). q.shown)) records ∙ map-set (λ (q : Record). q.shown) rs k (drops r) ∙ ap (λ q. slice_set all.requests k (dropped q)) (sym request) in
      let told : desk_of v ≡ told_of_drop k r.shown d = it_seen.desk ∙ ap (λ (o : Record). told_of_drop k o.shown (desk_of w)) by.same ∙ ap (λ z. told_of_drop k r.shown (desk_of z)) same_worker in
      let desk : desk_of v ≡ acts_on t (told_of_drop k r.shown d) = told ∙ sym (told_place k r.shown d (Place.Poll t InPoll.Act) refl) in
      let b : AfterSend = AfterSend.Act t in
      let finds : Bool → Moved Things = λ m. move_look_at p.config all d things t b (aside things (does (Drop k) (acts_on t (told_of_drop k r.shown d)) y)) (if m then Here else Asks r.shown.worker (CancelRequest k)) in
      let done : Works left spot p vs w0 s (Drop k) v s1 = record {
        choice = Plain;
        moves = grind (arith, drop_looks left spot t k p w s vs slot r by.there word by.newest by.request, by.mine, eq-eqb w.index w.index refl, desk, same_things, again);
        may = (
          acts_so left spot t all w slot asks_drop it by.waits (ap asks_drop word),
          (
            ap (λ z. is_number k (newest_held z)) it ∙ ap (is_number k) by.newest ∙ eq-eqb k k refl,
            (ap (λ q. q.worker == w.index) request ∙ ap (λ i. i == w.index) by.mine ∙ eq-eqb w.index w.index refl, tt),
          ),
        );
        own = it_seen.own all (request ∙ ap (λ (o : Record). o.shown) (sym by.same)) ∙ ap (λ z. own_after_drop (own_of z) all k) same_worker;
        common = grind (arith, again, opens, tasks, shown);
      } in
      subst (Works left spot p vs w s (Drop k) v) (sym by.kept) (subst (λ z. Works left spot p vs z s (Drop k) v s1) (sym same_worker) done)

  -- THE WHOLE STEP
  pub drops_own : (t k : ℕ) (w w' : Worker) (s s1 s' : Shared B) (e : Event) (r : Record) → (h : HasActed left runs holds spot gives t w s s1 (Act.Drop k)) → HasWhole w s → newest_of h.made.slot ≡ Some k → slice_get s.requests.items k ≡ Some r → r.shown.worker ≡ w.index
      → DropsHere t k w w' s1 s' e → StepsOf left runs holds spot w s e w' s'
  drops_own t k w w' s s1 s' e r h has newest at_r mine does_it =
      let sound = h.sound in
      let m = h.made in
      let slot = m.slot in
      let b' = m.acts.body' in
      let by_it : IsActor left runs holds spot gives t w slot = actor left runs holds spot gives t w s s1 (Act.Drop k) h in
      let it : IsHere InPoll.Act t w s = polled_here InPoll.Act t w s sound refl in
      let is : slot ≡ it.slot = same_Some slot it.slot (sym m.there ∙ it.there) in
      let f = does_it.forgets in
      let mid = does_it.middle in
      let v : Worker = record w' { place = w.place } in
      let so = drops_so t s s1 mid slot m.slot' b' m.there m.acts.slot m.tasks f in
      let slot' = f.slot' in
      let midkept : mid ≡ record s { tasks = mid.tasks } = f.kept ∙ ap (λ (z : Shared B). record z { tasks = mid.tasks }) m.kept in
      let all : s' ≡ record mid { requests = s'.requests } = does_it.lets.kept in
      let same_tasks : s'.tasks ≡ mid.tasks = ap (λ (z : Shared B). z.tasks) all in
      let kept : s' ≡ record s { tasks = s'.tasks; requests = s'.requests } = all ∙ ap (λ (z : Shared B). record z { requests = s'.requests }) midkept ∙ ap (λ z. record s { tasks = z; requests = s'.requests }) (sym same_tasks) in
      let mid_is : mid ≡ record s { tasks = s'.tasks } = midkept ∙ ap (λ z. record s { tasks = z }) (sym same_tasks) in
      let newest_at : newest_of it.slot ≡ Some k = ap newest_of (sym is) ∙ newest in
      let lets : LetsGo k w v (record s { tasks = s'.tasks }) s' = subst (λ z. LetsGo k w v z s') mid_is does_it.lets in
      let by : LetsNewest t k w v s s' slot slot' b' r = record {
        there = m.there;
        newest = newest;
        waits = by_it.waits;
        polled = by_it.polled;
        request = at_r;
        holds = subst (λ o. HoldsNewest t k s o r) (sym is) (newest_is InPoll.Act t k w s r has it newest_at at_r);
        unsent = newest_unsent t k w s r has it newest_at at_r;
        mine = mine;
        so = so.0;
        lets = lets;
        same = same_Some lets.r r (sym lets.request ∙ at_r);
        tasks = ap (λ z. z.items) same_tasks ∙ so.1;
        kept = kept;
      } in
      let homes = lets_homes t k w v s s' slot slot' b' r sound by in
      let deals : Dealt InPoll.Act w.index it.slot slot' s'.requests.items s'.sleepers.items = subst (λ o. Dealt InPoll.Act w.index o slot' s'.requests.items s'.sleepers.items) is (drops_deals w.index slot slot' b' s' by_it.waits so.0) in
      let here : v.place ≡ Place.Poll t InPoll.Act = sound.here in
      let same_v : record v { place = Place.Poll t InPoll.Act } ≡ v = ap (λ z. record v { place = z }) (sym here) in
      let v_is : w' ≡ v = ap (λ z. record w' { place = z }) (does_it.place ∙ sym sound.here) in
      let goes_sound : SoundAt (Place.Poll t InPoll.Act) v s' = subst (λ z. SoundAt (Place.Poll t InPoll.Act) z s') same_v (sound_goes InPoll.Act InPoll.Act t w v s s' slot' (λ i u rs ss. tt) (from_act t) (to_act t) sound it kept by.tasks homes deals) in
      let goes_beside : Beside w s v s' = subst (λ z. Beside w s z s') same_v (beside_goes InPoll.Act InPoll.Act t w v s s' slot' (from_act t) (to_act t) sound it kept by.tasks homes deals (lets_holds t k w v s s' slot slot' b' r sound by)) in
      let done : StepsOf left runs holds spot w s (Drop k) v s' = (
        (λ p vs suits fits.
            let does_so = h.asks p vs (fits t slot m.there) in
            lets_works t k w v s s' slot slot' b' r sound by p vs suits does_so.asks.0 (let_go_seen (common_of left spot p vs s) slot slot' b' so.0 by_it.polled does_so.stands)),
        subst (λ q. SoundAt q v s') (sym here) goes_sound,
        still_performs left runs holds t w v s s' slot slot' m.there by.tasks (ap (λ (y : Worker). y.root) lets.worker) (ap (λ (z : Shared B). z.config) kept) (drops_perform t k w v s s1 s' slot' h by_it.polled by_it.waits so.0),
        goes_beside,
      ) in
      subst (λ z. StepsOf left runs holds spot w s e z s') (sym v_is) (subst (λ y. StepsOf left runs holds spot w s y v s') (sym does_it.event) done)
