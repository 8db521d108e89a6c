-- The callbacks: what pays a wake. A request or a sleeper of the worker's own that is over, or that nobody holds any more.
use Rattle.std.proofs.{Common.{◌≡◌, ℕ, ◌==◌, ◌&&◌, ◌||◌, Bool, true, not, map, Option, Some, is_some, refl, sym, ap, ◌∙◌, slice_get, slice_set, arith}, lemmas.{Bool.eq-eqb, List.map-set}}
use Rattle.exec_task.specs.declared.body.Said.{Said}
use Rattle.exec_machine.specs.{Choice.Payer.{ByRequest, BySleeper}, declared.state.{Forwarding.Forwarding, RequestPhase.RequestPhase}, Progress.Plan, Same.is_number, Tasks.{after_payment, is_paid, is_unpaid, may_pay, request_owes, sleeper_owes}, Tests.{is_at_large, is_open, is_resolved, is_unsent}, World.{request_of, seat_of, sleeper_of}}
use Rattle.exec_moves.specs.declared.{handing.AfterCallbacks.AfterCallbacks, place.{InCallbacks.InCallbacks, Place.Place}}
use Rattle.exec_parts.{specs.{declared.parts.{record.Record.Record, shared.Shared.Shared, sleeping.SleeperRecord.SleeperRecord, worker.Worker.Worker}, Calls.{paying, sleeper_paying}, Records.outcome_in, Serving.changed_at, Spots.Spot, View.{Views, common_of, open_seen, own_of, things_with}}, proofs.Facts.and_from}
use Rattle.exec_invariants.{proofs.{Showing.map_kept, Lined.{gates_seen_at, map_changed, opens_same, passing_same, was_sent}, Recorded.request_seen, Seeing.common_changed, Seen.sleeper_at}, specs.{Gates.at_gate, Sound.SoundAt, Works.Suits}}

-- NUMBERS of what was sent

abbrev pub nap_was_sent : SleeperRecord → Bool
nap_was_sent z = z.sent

-- WHAT IS OWED

owes_by : (i t : ℕ) (shut : Bool) (worker : ℕ) (waiter : Option ℕ) (paid : ℕ) (f : Forwarding) (over rest : Bool) → worker ≡ i → waiter ≡ Some t → is_unpaid paid f ≡ true → (over || shut || rest) ≡ true
    → (may_pay i worker shut && is_number t waiter && is_unpaid paid f && (over || shut || rest)) ≡ true
owes_by i t shut worker waiter paid f over rest e1 e2 e3 e4 = rw (e1, e2, e3, e4, eq-eqb i i refl, eq-eqb t t refl) refl

sleeper_owes_by : (i t : ℕ) (shut : Bool) (worker task paid : ℕ) (f : Forwarding) (over : Bool) → worker ≡ i → task ≡ t → is_unpaid paid f ≡ true → over ≡ true
    → (may_pay i worker shut && (task == t) && is_unpaid paid f && over) ≡ true
sleeper_owes_by i t shut worker task paid f over e1 e2 e3 e4 = rw (e1, e2, e3, e4, eq-eqb i i refl, eq-eqb t t refl) refl

pub unpaid_once : (paid : ℕ) (f : Forwarding) → paid ≡ 0 → is_unpaid paid f ≡ true
unpaid_once paid f none = rw none refl

pub some_resolved : (p : RequestPhase) → is_some (outcome_in p) ≡ true → is_resolved p ≡ true
some_resolved = grind arith

module _ {B L : Type 0} (left : B → L) (spot : L → Option Said → Spot) where
  large : (x : InCallbacks) (n : AfterCallbacks) (w : Worker) (s : Shared B) → SoundAt (Place.Callbacks x n) w s → is_at_large (own_of w) ≡ true
  large x n w s sound = rw (sound.here, sound.letters.none refl) refl

  -- BY A REQUEST of the worker
  pub record PaysBy (k t : ℕ) (w : Worker) (s : Shared B) (r : Record) : Type 0 where
    pub there : slice_get s.requests.items k ≡ Some r
    pub mine : r.shown.worker ≡ w.index
    pub waiter : r.shown.waiter ≡ Some t
    pub unpaid : is_unpaid r.shown.wakes_paid r.shown.forwarding ≡ true
    pub over : (p : Plan) (vs : Views) → Suits p vs w s
        → (is_resolved r.shown.phase || not (is_open (seat_of (common_of left spot p vs s) r.shown.worker).phase) || (not (is_unsent r.shown.forwarding) && not r.shown.observed)) ≡ true

  pub request_paid : (x : InCallbacks) (n : AfterCallbacks) (k t : ℕ) (w : Worker) (s : Shared B) (r : Record) → SoundAt (Place.Callbacks x n) w s → PaysBy k t w s r → (p : Plan) (vs : Views) → Suits p vs w s → is_paid (own_of w) (common_of left spot p vs s) w.index t (ByRequest k) ≡ true
  request_paid x n k t w s r sound by p vs suits =
      let cs = common_of left spot p vs s in
      let y = r.shown in
      and_from (is_at_large (own_of w)) (request_owes cs w.index t (request_of cs k)) (large x n w s sound)
      (ap (request_owes cs w.index t) (request_seen s.requests.items k r by.there)
      ∙ owes_by w.index t (not (is_open (seat_of cs y.worker).phase)) y.worker y.waiter y.wakes_paid y.forwarding (is_resolved y.phase) (not (is_unsent y.forwarding) && not y.observed) by.mine by.waiter by.unpaid (by.over p vs suits))

  pub request_after : (k t : ℕ) (w : Worker) (s s1 : Shared B) (r : Record) → slice_get s.requests.items k ≡ Some r → s1.requests.items ≡ changed_at s.requests.items k paying → s1.sleepers.items ≡ s.sleepers.items → (p : Plan) (vs : Views) (polls : Option ℕ)
      → after_payment (common_of left spot p vs s) polls (ByRequest k) ≡ common_of left spot p vs (record s { requests = s1.requests; sleepers = s1.sleepers })
  request_after k t w s s1 r there requests sleepers p vs polls =
      let cs = common_of left spot p vs s in
      let sb : Shared B = record s { requests = s1.requests } in
      let request : request_of cs k ≡ r.shown = request_seen s.requests.items k r there in
      let all : common_of left spot p vs sb ≡ record cs { requests = slice_set (map (λ y. y.shown) s.requests.items) k (paying r).shown } = common_changed left spot p vs s sb k r paying refl requests there refl in
      grind arith

  -- what stands beside the machine is as it was where only requests were marked, and as often sent
  pub request_things : (k : ℕ) (w : Worker) (s s1 : Shared B) (r : Record) (q : Place) → SoundAt q w s → slice_get s.requests.items k ≡ Some r → s1.requests.items ≡ changed_at s.requests.items k paying → s1.sleepers.items ≡ s.sleepers.items → (vs : Views)
      → things_with vs (record s { requests = s1.requests; sleepers = s1.sleepers }) ≡ things_with vs s
  request_things k w s s1 r q sound there requests sleepers vs =
      let xs = things_with vs s in
      let rs = s.requests.items in
      let at : map at_gate s1.requests.items ≡ map at_gate rs = ap (map at_gate) requests ∙ map_changed at_gate rs k r paying there refl in
      let sent : map was_sent s1.requests.items ≡ map was_sent rs = ap (map was_sent) requests ∙ map_changed was_sent rs k r paying there refl in
      grind (arith, was_sent, gates_seen_at, opens_same, passing_same)

  -- BY A SLEEPER
  pub record SleeperPaysBy (k t : ℕ) (w : Worker) (s : Shared B) (z : SleeperRecord) : Type 0 where
    pub there : slice_get s.sleepers.items k ≡ Some z
    pub mine : z.shown.worker ≡ w.index
    pub task : z.shown.task ≡ t
    pub unpaid : is_unpaid z.shown.wakes_paid z.shown.forwarding ≡ true
    pub over : (p : Plan) (vs : Views) → Suits p vs w s → (z.shown.fired || z.shown.removed || not (is_open (seat_of (common_of left spot p vs s) z.shown.worker).phase)) ≡ true

  pub sleeper_paid : (x : InCallbacks) (n : AfterCallbacks) (k t : ℕ) (w : Worker) (s : Shared B) (z : SleeperRecord) → SoundAt (Place.Callbacks x n) w s → SleeperPaysBy k t w s z → (p : Plan) (vs : Views) → Suits p vs w s → is_paid (own_of w) (common_of left spot p vs s) w.index t (BySleeper k) ≡ true
  sleeper_paid x n k t w s z sound by p vs suits =
      let cs = common_of left spot p vs s in
      let y = z.shown in
      let shut : Bool = not (is_open (seat_of cs y.worker).phase) in
      and_from (is_at_large (own_of w)) (sleeper_owes cs w.index t (sleeper_of cs k)) (large x n w s sound)
      (ap (sleeper_owes cs w.index t) (sleeper_at s.sleepers.items k z by.there)
      ∙ sleeper_owes_by w.index t shut y.worker y.task y.wakes_paid y.forwarding (y.fired || y.removed || shut) by.mine by.task by.unpaid (by.over p vs suits))

  -- other memory of the same requests
  same_requests : (s s1 : Shared B) → s1.requests.items ≡ s.requests.items → (p : Plan) (vs : Views) → common_of left spot p vs s ≡ common_of left spot p vs (record s { requests = s1.requests })
  same_requests s s1 requests p vs = ap (λ rs. record (common_of left spot p vs s) { requests = map (λ y. y.shown) rs; opens = map (open_seen rs) s.opens }) (sym requests)

  pub sleeper_after : (k : ℕ) (s s1 : Shared B) (z : SleeperRecord) → slice_get s.sleepers.items k ≡ Some z → s1.requests.items ≡ s.requests.items → s1.sleepers.items ≡ slice_set s.sleepers.items k (sleeper_paying z) → (p : Plan) (vs : Views) (polls : Option ℕ)
      → after_payment (common_of left spot p vs s) polls (BySleeper k) ≡ common_of left spot p vs (record s { requests = s1.requests; sleepers = s1.sleepers })
  sleeper_after = grind (arith, sleeper_at, map-set, same_requests)

  pub sleeper_things : (k : ℕ) (s s1 : Shared B) (z : SleeperRecord) → slice_get s.sleepers.items k ≡ Some z → s1.requests.items ≡ s.requests.items → s1.sleepers.items ≡ slice_set s.sleepers.items k (sleeper_paying z) → (vs : Views)
      → things_with vs (record s { requests = s1.requests; sleepers = s1.sleepers }) ≡ things_with vs s
  sleeper_things = grind (arith, map_kept, was_sent, passing_same)
