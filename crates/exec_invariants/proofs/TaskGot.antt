-- A POLLED TASK LOOKS at a request of its worker's that it waits for, which is over: it takes the output.
use Rattle.exec_invariants.{specs.{Hearing.Hears, Sound.{SoundAt, acts_next}, Whole.HasWhole, Works.Steps}, proofs.{Words.{◌≡◌, ℕ, arith, ◌-◌, ◌<◌, ◌==◌, ◌||◌, Bool, true, length, take, Option, Some, None, refl, sym, ap, subst, ◌∙◌, slice_get, eq-eqb, slice_get_within, Outcome, RequestOutput, Said, Event, Got, ForwardRequest, Request, RequestPhase, Resolved, Waiting, Plan, is_resolved, is_unsent, waits_for_request, acts, asks_await, Common, Task, request_of, task_of, Plain, AfterSend, InPoll, Place, move_look_at, move_at, Asks, HearsRequest, acts_on, resume, sight_by, sight_of, Desk, Moved, Things, does, aside, without_request, Record, Shared, TaskSlot, Worker, newest_of, IsReady, TookOutput, numbers_held, IsAnswered, Spot, Views, common_of, desk_of, driver_of, own_of, task_seen, things_with, same_Some}, Hearing.hears_so, Here.IsHere, Seen.request_at, Slots.task_there, TaskDeals.from_look, TaskGets.{SeesGot, TakesOwn, got_works, gets_leaves, past_newest, there_is}, TaskHears.numbers_without, TaskLooks.newest_awaited, TaskTakes.spot_answered, TaskWants.newest_is}}

-- a look at a request that is over
looks_at : (i t k : ℕ) (s : Common) (d : Desk) (it : Task) (r : Request) (outcome : Outcome) → it.waiting ≡ Waiting.Request k → request_of s k ≡ r → r.phase ≡ Resolved outcome → resume i t s d it ≡ does (Got k outcome) (acts_on t (without_request k d)) it
looks_at i t k s d it r outcome waits found is = rw (waits, found, is) refl

resolved_is : (p : RequestPhase) → is_resolved p ≡ true → (outcome : Outcome) × (p ≡ Resolved outcome)
resolved_is = grind arith

module _ {B : Type 0} where
  -- it can be taken
  pub record MayTakeOwn (t k : ℕ) (w : Worker) (s : Shared B) : Type 0 where
    pub holds : (slot : TaskSlot B) → slice_get s.tasks.items t ≡ Some slot → 0 < length (numbers_held slot.held.items)
    pub ready : (r : Record) → slice_get s.requests.items k ≡ Some r → IsReady r (driver_of w)

  pub may_take_own : (x : InPoll) (t k : ℕ) (w : Worker) (s : Shared B) (r : Record) → (sound : SoundAt (Place.Poll t x) w s) → HasWhole w s → (at : IsHere x t w s) → newest_of at.slot ≡ Some k → slice_get s.requests.items k ≡ Some r → is_unsent r.shown.forwarding ≡ true → r.shown.worker ≡ w.index
      → is_resolved r.shown.phase ≡ true → MayTakeOwn t k w s
  may_take_own x t k w s r sound has at newest at_k unsent mine over =
      let there = there_is (Place.Poll t x) k w s r sound at_k mine (newest_is x t k w s r has at newest at_k).observed unsent over in
      let is = resolved_is r.shown.phase over in
      let within : length (numbers_held at.slot.held.items) - 1 < length (numbers_held at.slot.held.items) = slice_get_within (numbers_held at.slot.held.items) (length (numbers_held at.slot.held.items) - 1) k newest in
      grind arith

  pub hears_got : (k : ℕ) (slot slot' : TaskSlot B) (output : RequestOutput) → slot' ≡ record slot { held = slot'.held; waiting = Waiting.Nothing; told = Some (Said.Output output) } → slot'.held.items ≡ take (length slot.held.items - 1) slot.held.items → slot.told ≡ None → slot.waiting ≡ Waiting.Request k → Hears slot slot'
  hears_got = grind (arith, numbers_without)

module _ {B L : Type 0} (left : B → L) (spot : L → Option Said → Spot) (answered : IsAnswered spot) where
  got_seen : (all : Common) (k : ℕ) (slot slot' : TaskSlot B) (output : RequestOutput) → slot' ≡ record slot { held = slot'.held; waiting = Waiting.Nothing; told = Some (Said.Output output) } → slot'.held.items ≡ take (length slot.held.items - 1) slot.held.items → slot.told ≡ None → slot.waiting ≡ Waiting.Request k
      → task_seen left spot slot' ≡ past_newest left spot answered all (task_seen left spot slot)
  got_seen = grind (arith, spot_answered, numbers_without)

  -- THE WHOLE STEP
  pub output_got : (t k : ℕ) (w w' : Worker) (s s' : Shared B) (e : Event) (r : Record) → (sound : SoundAt (Place.Poll t InPoll.Resume) w s) → HasWhole w s → (it : IsHere InPoll.Resume t w s) → it.slot.waiting ≡ Waiting.Request k → slice_get s.requests.items k ≡ Some r → is_unsent r.shown.forwarding ≡ true → r.shown.worker ≡ w.index
      → TookOutput t k w w' s s' e → Steps left spot w s e w' s'
  output_got t k w w' s s' e r sound has it waits at_k unsent mine took =
      let sees : (p : Plan) (vs : Views) (slot slot' : TaskSlot B) (output : RequestOutput) (outcome : Outcome) → slice_get s.tasks.items t ≡ Some slot → slot.waiting ≡ Waiting.Request k → slot.told ≡ None → slot' ≡ record slot { held = slot'.held; waiting = Waiting.Nothing; told = Some (Said.Output output) } → slot'.held.items ≡ take (length slot.held.items - 1) slot.held.items → r.shown.phase ≡ Resolved outcome → SeesGot left spot answered InPoll.Resume t k outcome w s slot slot' p vs = λ p vs slot slot' output outcome there waits untold so less over.
      let all = common_of left spot p vs s in
      let d = desk_of (record w { place = Place.Poll t InPoll.Resume }) in
      let me = own_of (record w { place = Place.Poll t InPoll.Resume }) in
      let x = things_with vs s in
      let b : AfterSend = AfterSend.Pend t in
      let seen_task : Task = record (task_seen left spot slot) { waiting = Waiting.Request k } in
      let it_is : task_of all t ≡ task_seen left spot slot = task_there left spot s.tasks.items t slot there in
      let what : (task_of all t).waiting ≡ Waiting.Request k = ap (λ y. y.waiting) it_is ∙ waits in
      let request : request_of all k ≡ r.shown = request_at s.requests.items k r at_k in
      let looks : Task → Moved Things = λ y. move_look_at p.config all d x t b (aside x (resume w.index t all d y)) (sight_of w.index all y.waiting) in
      let finds : Bool → Bool → Moved Things = λ u m. move_look_at p.config all d x t b (aside x (resume w.index t all d seen_task)) (sight_by u m (Asks r.shown.worker (ForwardRequest k)) (HearsRequest k)) in
      let moves : move_at p.config w.index (own_of (record w { place = Place.Poll t InPoll.Resume })) (common_of left spot p vs s) (desk_of (record w { place = Place.Poll t InPoll.Resume })) (things_with vs s) (Place.Poll t InPoll.Resume) ≡ record { event = Got k outcome; choice = Plain; desk = acts_on t (without_request k (desk_of w)); thing = things_with vs s } =
      ap looks it_is ∙ ap (λ u. looks (record (task_seen left spot slot) { waiting = u })) waits
      ∙ ap (λ q. move_look_at p.config all d x t b (aside x (resume w.index t all d seen_task)) (sight_by (is_unsent q.forwarding) (q.worker == w.index) (Asks q.worker (ForwardRequest k)) (HearsRequest k))) request
      ∙ ap (λ u. finds u (r.shown.worker == w.index)) unsent ∙ ap (λ i. finds true (i == w.index)) mine ∙ ap (finds true) (eq-eqb w.index w.index refl)
      ∙ ap (aside x) (looks_at w.index t k all d seen_task r.shown outcome refl request over) in
      let takes = ap (λ u. waits_for_request k u || acts me all asks_await) what ∙ ap (λ c. c || acts me all asks_await) (eq-eqb k k refl) in
      assumption (moves, takes, got_seen all k slot slot' output so less untold waits) in
      let slot = it.slot in
      let slot' = took.slot' in
      let same_slot : took.slot ≡ slot = same_Some took.slot slot (sym took.there ∙ it.there) in
      let same_r : took.r ≡ r = same_Some took.r r (sym took.request ∙ at_k) in
      let untold : slot.told ≡ None = it.untold (ap acts_next waits) in
      let newest = newest_awaited InPoll.Resume t k w s has it waits in
      let held = newest_is InPoll.Resume t k w s r has it newest at_k in
      let over : r.shown.phase ≡ Resolved took.outcome = ap (λ (y : Record). y.shown.phase) (sym same_r) ∙ took.is in
      let there = there_is (Place.Poll t InPoll.Resume) k w s r sound at_k mine held.observed unsent (ap is_resolved over) in
      let so : slot' ≡ record slot { held = slot'.held; waiting = Waiting.Nothing; told = Some (Said.Output took.output) } = subst (λ (o : TaskSlot B). slot' ≡ record o { held = slot'.held; waiting = Waiting.Nothing; told = Some (Said.Output took.output) }) same_slot took.took in
      let less : slot'.held.items ≡ take (length slot.held.items - 1) slot.held.items = subst (λ (o : TaskSlot B). slot'.held.items ≡ take (length o.held.items - 1) o.held.items) same_slot took.all in
      let by : TakesOwn InPoll.Resume t k w w' s s' slot slot' r took.output took.outcome = grind arith in
      let leaves = gets_leaves InPoll.Resume t k w w' s s' slot' r took.output took.outcome (λ i u rs ss. tt) (from_look t) sound refl it by held.observed there in
      let done : Steps left spot w s (Got k took.outcome) w' s' = (
        (λ p vs suits. got_works left spot answered InPoll.Resume t k w w' s s' slot slot' r took.output took.outcome sound by there p vs suits (sees p vs slot slot' took.output took.outcome it.there waits untold so less over)),
        subst (λ q. SoundAt q w' s') (sym (ap (λ (y : Worker). y.place) took.worker)) leaves.sound,
        hears_so t slot slot' (ap (λ (y : Worker). y.root) took.worker) (ap (λ (z : Shared B). z.config) took.kept) it.there took.tasks (hears_got k slot slot' took.output so less untold waits),
        leaves.beside,
      ) in
      subst (λ y. Steps left spot w s y w' s') (sym took.event) done
