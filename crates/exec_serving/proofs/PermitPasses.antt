-- A permit is passed on: the first of the gate leaves it, whose next holder is told.
use Rattle.std.{proofs.{Common.{arith, ◌≡◌, ℕ, ◌<◌, ◌==◌, Bool, true, false, List, [], ◌∷◌, length, map, Option, Some, None, if◌then◌else◌, refl, sym, ap, subst, ◌∙◌, slice_get, slice_index_or, slice_set}, lemmas.{List.length-map, Option.get_or_from_slice_get}}, specs.Option.option_map}
use Rattle.exec_base.specs.declared.slab.Id.{Id}
use Rattle.exec_request.specs.Requests.{cursor_of}
use Rattle.exec_waiters.specs.{States.waiter_at, declared.waiter.Waiter.Waiter}
use Rattle.exec_opens.specs.{Opens.{OpenState, next_at, next_in, passed, with_open, with_open_in}, declared.opens.WaiterKey.WaiterKey}
use Rattle.exec_task.specs.declared.body.Said.{Said}
use Rattle.exec_machine.specs.{declared.event.Event.{Event, TheVariants.Serve}, Choice.Choice.Plain, Progress.Plan, Tests.is_at_large, World.{Common, no_request, request_of}}
use Rattle.exec_moves.specs.{declared.place.{AfterPermit.AfterPermit, InService.InService, Place.Place, Service.Service}, Seen.serves_in, Serve.{after_passing, worker_of}, State.gate_of}
use Rattle.exec_parts.specs.{declared.parts.{mail.Reply.Reply, record.Record.Record, shared.Shared.Shared, worker.{Moments.Moments, Worker.Worker}}, Records.number_in, Spots.Spot, View.{Views, common_of, driver_of, gate_seen, number_of_key, open_seen, own_of, things_with, visible, with_view}}
use Rattle.exec_invariants.{proofs.{Showing.{map_kept, map_set}, GateJoins.{pool_drops, spares_opens}, Hearing.unheard, Lined.mapped, Recorded.request_seen, Turning.view_found}, specs.{Drained.IsPool, Due.{IsDue, IsWheelAt, wheel_moment}, Flown.HasFlown, Gates.{HaveGates, IsKnown, has_hint_at, may_ask_hint}, Holding.{box_of, thing_of}, Places.{Drops, drops_at, passes_at}, Sound.{Aims, SoundAt, served_in}, Whole.{HasWhole, IsWhole, Profile, duties_of, with_worker}, Works.{Beside, Steps, Suits, Works}}}
use Rattle.exec_serving.proofs.{PermitGates.{drops_others, drops_own}, PermitLines.{Leaver, gate_behind, gate_is, gate_was, gates_left, hints_left, lined_left, next_at_gate, open_left, opens_left}, PermitSignals.{aims_back, moment_of_back, passes_none, serves_back}}

-- WHO LEAVES

module _ {B : Type 0} where
  pub record Passer (file : ℕ) (w : Worker) (s : Shared B) : Type 0 where
    pub it : Leaver file s.opens s.requests.items
    pub mine : it.r.shown.worker ≡ w.index

  pub passer : (file : ℕ) (b : AfterPermit) (v : Service) (w : Worker) (s : Shared B) → SoundAt (Place.Service (InService.PassPermit file b) v) w s → HasWhole w s → Passer file w s
  passer file b v w s sound has =
      let passes : ((with_worker has.others w).drops_by w.index).passes ≡ Some file = ap (λ (d : Drops). d.passes) (drops_own has.others w w refl) ∙ ap passes_at sound.here in
      let p = has.whole.gates.passes w.index file passes in
      record { it = record { o = p.o; open_there = p.open_there; k = p.k; r = p.r; there = p.there; over = p.over; holds = p.holds }; mine = p.mine }

-- THE STEP, of a worker that stands there

module _ {B L : Type 0} (left : B → L) (spot : L → Option Said → Spot) (file : ℕ) (b : AfterPermit) (v : Service) (y : InService) (u : Worker) (s : Shared B) (sound : SoundAt (Place.Service (InService.PassPermit file b) v) (record u { place = Place.Service (InService.PassPermit file b) v }) s) (it : Leaver file s.opens s.requests.items) (mine : it.r.shown.worker ≡ u.index)
    (to : serves_in y ≡ true) (moment : (m : Moments) → wheel_moment (served_in (Place.Service y v)) m ≡ wheel_moment (Some (InService.PassPermit file b)) m) (passes : passes_at (Place.Service y v) ≡ None) (aims : Aims (Place.Service y v) s.config u.index s.seats.items) where
  abbrev before : Worker
  before = record u { place = Place.Service (InService.PassPermit file b) v }

  abbrev after : Worker
  after = record u { place = Place.Service y v }

  abbrev opens_then : List OpenState
  opens_then = opens_left file s.opens s.requests.items it sound.gates

  abbrev shared_then : Shared B
  shared_then = record s { opens = opens_then }

  hints : (f : ℕ) → has_hint_at s.opens f ≡ false → has_hint_at opens_then f ≡ false
  hints = hints_left file s.opens s.requests.items it sound.gates

  goes_sound : SoundAt (Place.Service y v) after shared_then
  goes_sound =
      let next : Place = Place.Service y v in
      let known : IsKnown u.index u.names.requests.items (driver_of u).requests opens_then s.requests.items =
      (let asks : (id : Id) (x : Waiter Reply Reply) (r : Record) → waiter_at (driver_of u).requests id ≡ Some x → slice_get s.requests.items (number_in u.names.requests.items id) ≡ Some r
      → may_ask_hint r.shown.operation.kind ≡ true → r.shown.operation.unrefused ≡ true → (cursor_of x.request).hinted ≡ false → has_hint_at opens_then r.shown.operation.target ≡ false =
      λ id x r live there may unrefused none. hints r.shown.operation.target (sound.known.hints id x r live there may unrefused none) in
      assumption (asks, sound.known)) in
      let d = sound.due in
      let none = d.told refl in
      let due : IsDue (served_in next) u.home.closing u.index u.moments s.config u.names (driver_of u) u.home.timers s.requests.items s.sleepers.items =
      record { punctual = d.punctual; told = λ h. none; wheel = subst (λ m. IsWheelAt s.config u.moments.start m (driver_of u).wheel) (sym (moment u.moments)) d.wheel; timed = d.timed; asleep = d.asleep; order = d.order } in
      let f = sound.flown in
      let flown : HasFlown (served_in next) u.index u.names (driver_of u) s.requests.items =
      record { ending = f.ending; staging = f.staging; telling = f.telling; entries = f.entries; gated = f.gated; plain = f.plain; enrolling = f.enrolling; polled = f.polled; owning = f.owning; landed = f.landed; uncancelled = f.uncancelled } in
      assumption (refl, lined_left file s.opens s.requests.items it sound.gates, known, due, flown, aims, sound)

  goes_whole : (others : Profile) → IsWhole (with_worker others before) s → IsWhole (with_worker others after) shared_then
  goes_whole others whole =
      let q : Place = Place.Service (InService.PassPermit file b) v in
      let next : Place = Place.Service y v in
      let d = duties_of (with_worker others before) in
      let d1 = duties_of (with_worker others after) in
      let clears : (c : Bool) (o : Drops) → (if c then drops_at next else o).clears ≡ (if c then drops_at q else o).clears = λ c o. elim c as (λ c. (if c then drops_at next else o).clears ≡ (if c then drops_at q else o).clears) [ true ↦ refl | false ↦ refl ] in
      let removes : (c : Bool) (o : Drops) → (if c then drops_at next else o).removes ≡ (if c then drops_at q else o).removes = λ c o. elim c as (λ c. (if c then drops_at next else o).removes ≡ (if c then drops_at q else o).removes) [ true ↦ refl | false ↦ refl ] in
      let pool : IsPool d1 s.tasks.items s.set s.seats.items = pool_drops d d1 s.tasks.items s.set s.seats.items refl refl (λ j. clears (j == u.index) (others.drops_by j)) (λ j. removes (j == u.index) (others.drops_by j)) whole.pool in
      let own = drops_own others before after refl in
      let gates : HaveGates (with_worker others after).drops_by opens_then s.requests.items =
      gates_left file s.opens s.requests.items it sound.gates (with_worker others before).drops_by (with_worker others after).drops_by u.index mine (drops_others others before after refl)
      (ap (λ (x : Drops). x.passes) own ∙ passes) (ap (λ (x : Drops). x.joins) own) whole.gates in
      assumption (pool, gates, whole)

  goes_beside : Beside before s after shared_then
  goes_beside = record { spares = λ j other. spares_opens j s opens_then (lined_left file s.opens s.requests.items it) hints; whole = goes_whole }

  large : is_at_large (own_of before) ≡ true
  large = rw (sound.letters.none refl) refl

  -- who comes next
  next_worker : (cs : Common) → cs.requests ≡ map (λ r. r.shown) s.requests.items → worker_of cs (slice_get (gate_behind file s.opens s.requests.items it sound.gates) 0) ≡ option_map (λ key. key.worker) (slice_get it.o.waiting 0)
  next_worker cs shown = by it.o.waiting refl
    where
      by : (ks : List WaiterKey) → it.o.waiting ≡ ks → worker_of cs (slice_get (map (number_of_key 0 s.requests.items) ks) 0) ≡ option_map (λ key. key.worker) (slice_get ks 0)
      by [] is = refl
      by (key ∷ ks) is =
          let next = next_at_gate file s.opens s.requests.items it sound.gates key (ap (λ l. slice_get l 0) is) in
          let request : request_of cs next.k ≡ next.r.shown = ap (λ xs. slice_index_or xs next.k no_request) shown ∙ request_seen s.requests.items next.k next.r next.there in
          ap (λ n. Some (request_of cs n).worker) next.number ∙ ap (λ q. Some q.worker) request ∙ ap (λ x. Some x.worker) next.named

  goes_works : y ≡ after_passing (option_map (λ key. key.worker) (slice_get it.o.waiting 0)) b → (p : Plan) (vs : Views) → Suits p vs before s → Works left spot p vs before s Serve after shared_then
  goes_works leads p vs suits =
      let rs = s.requests.items in
      let cs = common_of left spot p vs s in
      let behind = gate_behind file s.opens rs it sound.gates in
      let again : with_view vs u.index (visible after) ≡ vs = view_found vs u.index (visible before) suits.seen in
      let gate : gate_of (things_with vs s) file ≡ it.k ∷ behind =
      get_or_from_slice_get (map (gate_seen rs) s.opens) file (gate_seen rs it.o) [] (mapped (gate_seen rs) s.opens file it.o it.open_there) ∙ gate_was file s.opens rs it sound.gates in
      let gates : slice_set (map (gate_seen rs) s.opens) file behind ≡ map (gate_seen rs) opens_then =
      ap (slice_set (map (gate_seen rs) s.opens) file) (sym (gate_is file s.opens rs it sound.gates)) ∙ sym (map_set (gate_seen rs) s.opens file (passed it.o)) in
      let opens : map (open_seen rs) opens_then ≡ map (open_seen rs) s.opens = map_kept (open_seen rs) s.opens file (passed it.o) it.o it.open_there (open_left file s.opens rs it sound.gates) in
      record {
        choice = Plain;
        moves = grind (arith, gate, next_worker cs refl, leads, gates, again);
        may = (large, tt);
        own = ap (λ c. record (own_of before) { serving = c }) to;
        common = ap (λ z. common_of left spot p z shared_then) again ∙ ap (λ os. record cs { opens = os }) opens;
      }

  pub goes_steps : y ≡ after_passing (option_map (λ key. key.worker) (slice_get it.o.waiting 0)) b → Steps left spot before s Serve after shared_then
  goes_steps leads = (goes_works leads, goes_sound, unheard refl refl refl, goes_beside)

-- THE STEP of a service

module _ {B L : Type 0} (left : B → L) (spot : L → Option Said → Spot) where
  pub permit_passed : (file : ℕ) (b : AfterPermit) (v : Service) (w w' : Worker) (s s' : Shared B) (e : Event) → SoundAt (Place.Service (InService.PassPermit file b) v) w s → HasWhole w s → e ≡ Serve → s'.opens ≡ with_open s.opens file passed → s' ≡ record s { opens = s'.opens }
      → w' ≡ record w { place = Place.Service (after_passing (option_map (λ key. key.worker) (next_at s.opens file)) b) v } → Steps left spot w s e w' s'
  permit_passed file b v w w' s s' e sound has event opens kept goes =
      let q : Place = Place.Service (InService.PassPermit file b) v in
      let back : w ≡ record w { place = q } = ap (λ p. record w { place = p }) sound.here in
      let who = passer file b v w s sound has in
      let it = who.it in
      let here : SoundAt q (record w { place = q }) s = subst (λ (x : Worker). SoundAt q x s) back sound in
      let y = after_passing (option_map (λ key. key.worker) (slice_get it.o.waiting 0)) b in
      let next : Place = Place.Service y v in
      let shared : s' ≡ record s { opens = slice_set s.opens file (passed it.o) } = kept ∙ ap (λ os. record s { opens = os }) (opens ∙ ap (with_open_in s.opens file passed) it.open_there) in
      let place : w' ≡ record w { place = next } = goes ∙ ap (λ o. record w { place = Place.Service (after_passing (option_map (λ key. key.worker) (next_in o)) b) v }) it.open_there in
      let facts = by it here has (slice_get it.o.waiting 0) refl in
      subst (λ (x : Worker). Steps left spot x s e w' s') (sym back)
      (subst (λ z. Steps left spot (record w { place = q }) s z w' s') (sym event)
      (subst (λ (x : Worker). Steps left spot (record w { place = q }) s Serve x s') (sym place)
      (subst (λ (z : Shared B). Steps left spot (record w { place = q }) s Serve (record w { place = next }) z) (sym shared)
      (goes_steps left spot file b v y w s here it who.mine facts.0 facts.1 facts.2 facts.3 refl))))
    where
      by : (it : Leaver file s.opens s.requests.items) → SoundAt (Place.Service (InService.PassPermit file b) v) (record w { place = Place.Service (InService.PassPermit file b) v }) s → HasWhole w s → (o : Option WaiterKey) → slice_get it.o.waiting 0 ≡ o
          → (serves_in (after_passing (option_map (λ key. key.worker) o) b) ≡ true)
          × ((m : Moments) → wheel_moment (served_in (Place.Service (after_passing (option_map (λ key. key.worker) o) b) v)) m ≡ wheel_moment (Some (InService.PassPermit file b)) m)
          × (passes_at (Place.Service (after_passing (option_map (λ key. key.worker) o) b) v) ≡ None)
          × Aims (Place.Service (after_passing (option_map (λ key. key.worker) o) b) v) s.config w.index s.seats.items
      by it here has None is = (serves_back b, moment_of_back b v, passes_none b v, aims_back b v s w.index s.seats.items)
      by it here has (Some key) is =
          let next = next_at_gate file s.opens s.requests.items it here.gates key is in
          let within : next.r.shown.worker < length s.seats.items = subst (λ n. next.r.shown.worker < n) (length-map s.seats.items box_of) (has.whole.holding.of_worker next.k (thing_of next.r) (mapped thing_of s.requests.items next.k next.r next.there)) in
          (refl, (λ m. refl), refl, subst (λ n. n < length s.seats.items) (ap (λ x. x.worker) next.named) within)
