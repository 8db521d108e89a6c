-- A step of a poll: a durable request that was registered joins the line at the gate of its open.
use Rattle.exec_invariants.{proofs.{Names.{◌≡◌, ◌≢◌, ℕ, ◌==◌, ◌<◌, arith, ◌++◌, Bool, true, false, not, List, [], ◌∷◌, map, Option, Some, None, IfSome, refl, sym, ap, subst, ◌∙◌, slice_get, slice_set, if◌then◌else◌, map-set, get_or_from_slice_get, slice_get-map, option_map, ◌⊎◌, ◌+◌, is_durable, Id, Set, is_polled, asked_of, cursor_of, target_of, gate_in, waiter_at, Waiter, request_at, OpenState, joined, open_named, with_named, with_open_in, WaiterKey, Said, Event, Turn, Plan, open_joined_by, no_open, open_of, request_of, InPoll, Place, gate_at as gate_of, Reply, Record, Chair, Shared, TaskSlot, Worker, number_in, Spot, Views, common_of, driver_of, gate_seen, open_seen, things_with, visible, with_view, and_parts, same_Some}, Aside.spares_none, GateLines.{MayJoin, gate_then, gates_joined, hints_joined, joined_in, lined_joined, open_then, place_made}, Gated.{durable_of_file, gate_there, stands_there, ungated_open}, Hearing.unheard, PoolKept.{chosen_other, chosen_own}, Recorded.request_seen, Slots.gates_free, SparedRecord.there_within, Turning.view_found}, specs.{Admitting.{HasPlaceAt, joined_at}, Drained.{Duties, IsPool, IsOver, in_set, IsHeldOnce, IsBefore}, Gates.{AreLinedUp, HaveGates, IsKnown, has_hint_at, key_for, may_ask_hint}, Places.{Drops, drops_at, polled_in}, Sound.{HasGuest, IsTied, SoundAt, Stands, served_in}, Spares.Spares, Whole.{HasWhole, IsWhole, Profile, duties_of, with_worker}, Works.{Beside, Steps, Suits, Works}}}

abbrev joins_here : ℕ → ℕ → Place
joins_here t k = Place.Poll t (InPoll.JoinGate k)

abbrev acts_here : ℕ → Place
acts_here t = Place.Poll t InPoll.Act

-- THE REQUEST that joins

module _ {B : Type 0} where
  pub record Joiner (t k : ℕ) (w : Worker) (s : Shared B) : Type 0 where
    pub r : Record
    pub o : OpenState
    pub may : MayJoin k r o s.opens s.requests.items
    pub mine : r.shown.worker ≡ w.index
    pub first : o.holder ≡ None → o.waiting ≡ []
    pub gate : gate_in (request_at (driver_of w) r.id) ≡ Some r.shown.operation.target
    pub place : 0 < o.coming

  pub joiner : (t k : ℕ) (w : Worker) (s : Shared B) → SoundAt (joins_here t k) w s → HasWhole w s → Joiner t k w s
  joiner t k w s sound has =
      let it = has.whole.gates.joins w.index k (ap (λ (d : Drops). d.joins) (chosen_own w.index (drops_at w.place) (has.others.drops_by w.index)) ∙ ap (λ p. (drops_at p).joins) sound.here) in
      let stands = stands_there (served_in (joins_here t k)) w.index w.names (driver_of w) w.home.timers s.requests.items s.sleepers.items s.opens s.store sound.named sound.flown sound.carried sound.gates k it.r it.there it.mine (ungated_open it.r.shown.phase it.gated) in
      let durable = (and_parts (is_durable (asked_of stands.it.request).kind) (not stands.it.permit) (sym stands.alike.permit ∙ it.gated)).0 in
      let target : it.r.shown.operation.target ≡ target_of stands.it.request = sound.carried.target it.r.id.0 stands.it it.r stands.live (ap (slice_get s.requests.items) stands.number ∙ it.there) in
      let o = there_within s.opens it.r.shown.operation.target (sound.gates.there k it.r it.there (durable_of_file it.r.shown.operation.kind (sound.gates.durable k it.r it.there it.gated))) in
      let may : MayJoin k it.r o.0 s.opens s.requests.items = record { there = it.there; open_there = o.1; gated = it.gated; apart = λ n. it.apart o.0 n o.1 } in
      let line = sound.gates.lines it.r.shown.operation.target o.0 o.1 in
      grind (arith, gate_there, place_made)

  module _ (t k : ℕ) (w : Worker) (s : Shared B) (it : Joiner t k w s) where
    pub place_at : (r : Record) → slice_get s.requests.items k ≡ Some r → HasPlaceAt (driver_of w) r.id s.opens
    place_at r there =
        subst (λ (x : Record). HasPlaceAt (driver_of w) x.id s.opens) (same_Some it.r r (sym it.may.there ∙ there))
        (subst (λ g. IfSome (open_named s.opens g) (λ o. 0 < o.coming)) (sym it.gate)
        (subst (λ o. IfSome o (λ o. 0 < o.coming)) (sym it.may.open_there) it.place))

    pub opens_are : joined_at (driver_of w) w.index it.r.id s.opens ≡ joined_in s.opens it.r it.o
    opens_are =
        let file = it.r.shown.operation.target in
        let key : WaiterKey = record { worker = w.index; id = it.r.id } in
        ap (λ g. with_named s.opens g (joined key)) it.gate
        ∙ ap (λ o. with_open_in s.opens file (joined key) o) it.may.open_there
        ∙ ap (λ n. slice_set s.opens file (joined (record { worker = n; id = it.r.id }) it.o)) (sym it.mine)

  -- WHAT A WORKER DOES: nothing joins any more

  pub pool_drops : (d d' : Duties) (tasks : List (TaskSlot B)) (set : Set (Unit {0})) (seats : List Chair) → d'.clears ≡ d.clears → d'.polled_by ≡ d.polled_by → ((j : ℕ) → (d'.drops_by j).clears ≡ (d.drops_by j).clears) → ((j : ℕ) → (d'.drops_by j).removes ≡ (d.drops_by j).removes)
      → IsPool d tasks set seats → IsPool d' tasks set seats
  pool_drops d d' tasks set seats clears polls same_clears same_removes pool =
      let live : (t : ℕ) (slot : TaskSlot B) → slice_get tasks t ≡ Some slot → slot.home ≡ None → IsHeldOnce slot (d'.clears t + in_set t set) = rw clears pool.live in
      let only : (t : ℕ) → 0 < d'.clears t + in_set t set → (slot : TaskSlot B) × (slice_get tasks t ≡ Some slot) × (slot.home ≡ None) = rw clears pool.only in
      let who_polls : (t : ℕ) (slot : TaskSlot B) → slice_get tasks t ≡ Some slot → slot.home ≡ None → is_polled slot.cell.phase ≡ true → IsBefore slot.poller seats × (d'.polled_by slot.poller ≡ Some t) = rw polls pool.who_polls in
      let who_clears : (t : ℕ) → 0 < d'.clears t → (j : ℕ) × IsBefore j seats × ((d'.drops_by j).clears ≡ Some t) × (set.closed ≡ true) =
      λ u some. let it = pool.who_clears u (subst (λ (f : ℕ → ℕ). 0 < f u) clears some) in (it.0, it.1, same_clears it.0 ∙ it.2, it.3) in
      let removes : (j t : ℕ) → (d'.drops_by j).removes ≡ Some t → IsOver t tasks × ((set.closed ≡ true) ⊎ (in_set t set ≡ 1)) = λ j u is. pool.removes j u (sym (same_removes j) ∙ is) in
      let alone : (i j t : ℕ) → (d'.drops_by i).removes ≡ Some t → (d'.drops_by j).removes ≡ Some t → i ≡ j = λ i j u a b. pool.alone i j u (sym (same_removes i) ∙ a) (sym (same_removes j) ∙ b) in
      assumption (live, only, who_polls, who_clears, removes, alone, pool)

  tied_by : (k i : ℕ) (slot : TaskSlot B) (b : Bool) → Stands (if b then Some (InPoll.JoinGate k) else None) i slot → Stands (if b then Some InPoll.Act else None) i slot
  tied_by k i slot true st = record { polled = st.polled; body = st.body; poller = st.poller; kept = st.kept; uncleared = st.uncleared; told = st.told; untold = st.untold; waits = st.waits }
  tied_by k i slot false st = st

  pub spares_opens : (j : ℕ) (s : Shared B) (opens : List OpenState) → (AreLinedUp s.opens s.requests.items → AreLinedUp opens s.requests.items) → ((file : ℕ) → has_hint_at s.opens file ≡ false → has_hint_at opens file ≡ false) → Spares j s (record s { opens = opens })
  spares_opens j s opens gates hints = assumption (gates, hints, spares_none j s)

-- THE STEP, of a worker that stands there

module _ {B L : Type 0} (left : B → L) (spot : L → Option Said → Spot) (t k : ℕ) (v : Worker) (s : Shared B) (sound : SoundAt (joins_here t k) (record v { place = joins_here t k }) s) (it : Joiner t k (record v { place = joins_here t k }) s) where
  abbrev before : Worker
  before = record v { place = joins_here t k }

  abbrev after : Worker
  after = record v { place = acts_here t }

  abbrev opens_then : List OpenState
  opens_then = joined_in s.opens it.r it.o

  abbrev shared_then : Shared B
  shared_then = record s { opens = opens_then }

  lined : AreLinedUp opens_then s.requests.items
  lined = lined_joined k it.r it.o s.opens s.requests.items it.may sound.gates

  hints : (file : ℕ) → has_hint_at s.opens file ≡ false → has_hint_at opens_then file ≡ false
  hints = hints_joined k it.r it.o s.opens s.requests.items it.may it.first

  goes_sound : SoundAt (acts_here t) after shared_then
  goes_sound =
      let guest : HasGuest (Some t) InPoll.Act v.index v.root s.tasks.items = λ apart.
      let g = sound.guest apart in
      (g.0, g.1, record { ordinary = g.2.ordinary; polled = g.2.polled; body = g.2.body; poller = g.2.poller; cancelled = g.2.cancelled; told = g.2.told; untold = g.2.untold; there = g.2.there }) in
      let tied : IsTied (polled_in v.root (acts_here t)) v.index v.root s.tasks.items = record { stands = λ slot there. tied_by k v.index slot (t == v.root) (sound.tied.stands slot there) } in
      let known : IsKnown v.index v.names.requests.items (driver_of v).requests opens_then s.requests.items =
      (let asks : (id : Id) (x : Waiter Reply Reply) (r : Record) → waiter_at (driver_of v).requests id ≡ Some x → slice_get s.requests.items (number_in v.names.requests.items id) ≡ Some r
      → may_ask_hint r.shown.operation.kind ≡ true → r.shown.operation.unrefused ≡ true → (cursor_of x.request).hinted ≡ false → has_hint_at opens_then r.shown.operation.target ≡ false =
      λ id x r live there may unrefused none. hints r.shown.operation.target (sound.known.hints id x r live there may unrefused none) in
      assumption (asks, sound.known)) in
      assumption (refl, guest, tied, lined, known, sound)

  drops_else : (others : Profile) (j : ℕ) → j ≢ v.index → (with_worker others after).drops_by j ≡ (with_worker others before).drops_by j
  drops_else others j other = chosen_other j v.index (drops_at (acts_here t)) (others.drops_by j) other ∙ sym (chosen_other j v.index (drops_at (joins_here t k)) (others.drops_by j) other)

  drops_mine : (others : Profile) → (with_worker others after).drops_by v.index ≡ drops_at (acts_here t)
  drops_mine others = chosen_own v.index (drops_at (acts_here t)) (others.drops_by v.index)

  goes_whole : (others : Profile) → IsWhole (with_worker others before) s → IsWhole (with_worker others after) shared_then
  goes_whole others whole =
      let d = duties_of (with_worker others before) in
      let d1 = duties_of (with_worker others after) in
      let clears : (b : Bool) (o : Drops) → (if b then drops_at (acts_here t) else o).clears ≡ (if b then drops_at (joins_here t k) else o).clears = λ b o. elim b as (λ c. (if c then drops_at (acts_here t) else o).clears ≡ (if c then drops_at (joins_here t k) else o).clears) [ true ↦ refl | false ↦ refl ] in
      let removes : (b : Bool) (o : Drops) → (if b then drops_at (acts_here t) else o).removes ≡ (if b then drops_at (joins_here t k) else o).removes = λ b o. elim b as (λ c. (if c then drops_at (acts_here t) else o).removes ≡ (if c then drops_at (joins_here t k) else o).removes) [ true ↦ refl | false ↦ refl ] in
      let gates : HaveGates (with_worker others after).drops_by opens_then s.requests.items =
      gates_joined k it.r it.o s.opens s.requests.items it.may (with_worker others after).drops_by it.first
      (λ j l is same.
      let none : None ≡ Some l = sym (ap (λ (x : Drops). x.joins) (drops_mine others)) ∙ ap (λ n. ((with_worker others after).drops_by n).joins) (sym (same ∙ it.mine)) ∙ is in
      absurd (cc))
      (gates_free v.index (with_worker others before).drops_by (with_worker others after).drops_by s.opens s.requests.items (drops_else others) (ap (λ (x : Drops). x.passes) (drops_mine others)) (ap (λ (x : Drops). x.joins) (drops_mine others)) whole.gates) in
      assumption (pool_drops d d1 s.tasks.items s.set s.seats.items refl refl (λ j. clears (j == v.index) (others.drops_by j)) (λ j. removes (j == v.index) (others.drops_by j)) whole.pool, gates, whole)

  goes_beside : Beside before s after shared_then
  goes_beside = record { spares = λ j other. spares_opens j s opens_then (lined_joined k it.r it.o s.opens s.requests.items it.may) hints; whole = goes_whole }

  goes_works : (p : Plan) (vs : Views) → Suits p vs before s → Works left spot p vs before s Turn after shared_then
  goes_works p vs suits =
      let rs = s.requests.items in
      let file = it.r.shown.operation.target in
      let cs = common_of left spot p vs s in
      let x = things_with vs s in
      let again : with_view vs v.index (visible after) ≡ vs = view_found vs v.index (visible before) suits.seen in
      let request : request_of cs k ≡ it.r.shown = request_seen rs k it.r it.may.there in
      let gate : gate_of x file ≡ gate_seen rs it.o = get_or_from_slice_get (map (gate_seen rs) s.opens) file (gate_seen rs it.o) [] (slice_get-map (gate_seen rs) s.opens file ∙ ap (option_map (gate_seen rs)) it.may.open_there) in
      let one : open_of cs file ≡ open_seen rs it.o = get_or_from_slice_get (map (open_seen rs) s.opens) file (open_seen rs it.o) no_open (slice_get-map (open_seen rs) s.opens file ∙ ap (option_map (open_seen rs)) it.may.open_there) in
      let gates : slice_set (map (gate_seen rs) s.opens) file (gate_of x file ++ k ∷ []) ≡ map (gate_seen rs) opens_then =
      ap (λ g. slice_set (map (gate_seen rs) s.opens) file (g ++ k ∷ [])) gate ∙ ap (slice_set (map (gate_seen rs) s.opens) file) (sym (gate_then k it.r it.o s.opens rs it.may sound.gates)) ∙ sym (map-set (gate_seen rs) s.opens file (joined (key_for it.r) it.o)) in
      let opens : slice_set (map (open_seen rs) s.opens) file (open_joined_by k (open_of cs file)) ≡ map (open_seen rs) opens_then =
      ap (λ o. slice_set (map (open_seen rs) s.opens) file (open_joined_by k o)) one ∙ ap (slice_set (map (open_seen rs) s.opens) file) (sym (open_then k it.r it.o s.opens rs it.may sound.gates)) ∙ sym (map-set (open_seen rs) s.opens file (joined (key_for it.r) it.o)) in
      grind arith

  pub goes_steps : Steps left spot before s Turn after shared_then
  goes_steps = (goes_works, goes_sound, unheard refl refl refl, goes_beside)

-- THE STEP of poll

module _ {B L : Type 0} (left : B → L) (spot : L → Option Said → Spot) where
  pub gate_joined : (t k : ℕ) (w w' : Worker) (s s' : Shared B) (e : Event) → SoundAt (joins_here t k) w s → HasWhole w s → e ≡ Turn → w' ≡ record w { place = acts_here t }
      → ((r : Record) → slice_get s.requests.items k ≡ Some r → s'.opens ≡ joined_at (driver_of w) w.index r.id s.opens) → s' ≡ record s { opens = s'.opens } → Steps left spot w s e w' s'
  gate_joined t k w w' s s' e sound has event goes opens kept =
      let back : w ≡ record w { place = joins_here t k } = ap (λ p. record w { place = p }) sound.here in
      let it = joiner t k w s sound has in
      let who : Joiner t k (record w { place = joins_here t k }) s = record { r = it.r; o = it.o; may = it.may; mine = it.mine; first = it.first; gate = it.gate; place = it.place } in
      subst (λ (x : Worker). Steps left spot x s e w' s') (sym back)
      (subst (λ y. Steps left spot (record w { place = joins_here t k }) s y w' s') (sym event)
      (subst (λ (x : Worker). Steps left spot (record w { place = joins_here t k }) s Turn x s') (sym goes)
      (subst (λ (z : Shared B). Steps left spot (record w { place = joins_here t k }) s Turn (record w { place = acts_here t }) z) (sym (kept ∙ ap (λ os. record s { opens = os }) (opens it.r it.may.there ∙ opens_are t k w s it)))
      (goes_steps left spot t k w s (subst (λ (x : Worker). SoundAt (joins_here t k) x s) back sound) who))))
